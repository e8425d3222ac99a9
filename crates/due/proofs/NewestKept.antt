-- The laws of kept due times. After one more due time, the rule sees the newest x of the history that begins with it. Each answer follows from the tests before
-- it, and soundness is proved for one due time after the other. (docs/RULES.md, section 4.)
use Prim.Native.Nat.{ℕ, zero, suc, ◌-◌, ◌≤◌, ◌<◌}
use mathlib.Core.Path.{◌≡◌, refl, sym, ap, ◌∙◌}
use mathlib.Core.Logic.{◌↔◌}
use mathlib.Core.Bool.{Bool, true, false}
use mathlib.Core.List.{List, [], ◌∷◌, ◌++◌, map, map-append, reverse, reverse-append}
use native.Mathlib.Omega.{arith}
use lib.Dec.{leb}
use lib.ListN.{length, take, drop, get_or}
use lib.Seq.{length-take-le, length_front, take-nil, take-take, take-append_seam}
use borrow.Author.Tests.{leb-true, le-leb, lt-leb}
use Rattle.std.specs.Prelude.{Ok, Err}
use Rattle.kinds.specs.Numbering.{max_time}
use Rattle.kinds.specs.declared.Tick.{Tick}
use Rattle.kinds.specs.declared.Refusal.{Refusal}
use Rattle.kinds.specs.declared.Refusal.TheVariants.{ValueOutOfRange, DueTooLate}
use Rattle.kinds.proofs.Apart.{impossible}
use Rattle.theory.specs.DueTimes.{due_time}
use Rattle.theory.proofs.Cases.{by_lt}
use Rattle.theory.proofs.DueTimes.{newest_are_enough}
use Rattle.table.specs.declared.Row.{Row}
use Rattle.table.specs.Rows.{row_in_range}
use Rattle.table.proofs.SpelledTables.{in_range_means}
use Rattle.table.proofs.Ranges.{both_true}
use Rattle.due.specs.declared.Kept.{Kept}
use Rattle.due.specs.Kept.{nothing_kept, kept_times, earlier, not_too_late, due_of, kept_as, kept_with, none_too_late, kept_sound}
use Rattle.due.specs.DueLaws.{StartsEmpty, KeepsOnKeeping, DueIsThePapers, CostPlaysNoPart, KeptSoundMeans, EmptyIsSound, StaysSound}
use Rattle.due.specs.KeptTimes.{GivenDue}
use Rattle.due.proofs.Lists.{take-reverse, map-last_ones, last_ones_few}
use Rattle.due.proofs.Keeping.{no_time, number, rule_due, newest_with, kept_with_lem, sound_count}

-- ---- the newest are kept

pub starts_empty : StartsEmpty
starts_empty x = record { all_places = refl; newest = sym (take-nil x) }

-- The due times that `kept_as` keeps are those of its list.
pub kept_as_lem : (k : Kept) (l : List Tick) → kept_times (kept_as k l) ≡ l
kept_as_lem k l = take-append_seam l (drop (length l) k.times)

-- Keeping a list of due times leaves the number of places as it was.
places_as : (k : Kept) (l : List Tick) → length l ≤ length k.times → length (kept_as k l).times ≡ length k.times
places_as k l h = length_front k.times l (length l) (sym (length-take-le (length l) k.times h))

-- After one more due time, the rule sees the first x of that one and those before it.
newest_first : (k : Kept) (r : Row) (t : Tick) → reverse (map number (newest_with k r t)) ≡ take r.x (t.0 ∷ earlier k)
newest_first k r t =
    let all = kept_times k ++ (t ∷ []) in
    ap reverse (map-last_ones number r.x all)
    ∙ sym (take-reverse r.x (map number all))
    ∙ ap (λ l. take r.x (reverse l)) (map-append number (kept_times k) (t ∷ []))
    ∙ ap (take r.x) (reverse-append (map number (kept_times k)) (t.0 ∷ []))

-- With one more element in front of a list, the first n depend only on the first n of the list.
take_behind : {A : Type 0} (n : ℕ) (a : A) (l : List A) → take n (a ∷ take n l) ≡ take n (a ∷ l)
take_behind zero a l = refl
take_behind (suc n) a l = ap (λ m. a ∷ m) (take-take n (suc n) l (omega arith))

pub keeps_on_keeping : KeepsOnKeeping
keeps_on_keeping k r history t fine kept =
    let with_one : kept_with k r t ≡ kept_as k (newest_with k r t) = kept_with_lem k r t fine in
    let few = last_ones_few r.x (kept_times k ++ (t ∷ [])) in
    let room : length (newest_with k r t) ≤ length k.times = omega (arith, few, ((in_range_means r).0 fine).most_x, kept.all_places) in
    record {
      all_places = ap (λ m. length m.times) with_one ∙ places_as k (newest_with k r t) room ∙ kept.all_places;
      newest =
          ap earlier with_one
          ∙ ap (λ l. reverse (map number l)) (kept_as_lem k (newest_with k r t))
          ∙ newest_first k r t
          ∙ ap (λ h. take r.x (t.0 ∷ h)) kept.newest
          ∙ take_behind r.x t.0 history;
    }

pub due_is_the_papers : DueIsThePapers
due_is_the_papers k r history t fine kept =
    ap (λ h. due_time r.x r.y r.d h t) kept.newest ∙ newest_are_enough r.x r.y r.d history t ((in_range_means r).0 fine).some_x

pub cost_plays_no_part : CostPlaysNoPart
unfolding due_of
cost_plays_no_part k r t cost other = refl

-- ---- which case each answer is

-- A due time of at most 2^40 is given.
pub in_time_given : (v : ℕ) → v ≤ max_time → not_too_late v ≡ Ok (record { 0 = v })
in_time_given v h = rw (le-leb v max_time h)

-- A due time above 2^40 is refused with 9.
pub late_refused : (v : ℕ) → max_time < v → not_too_late v ≡ Err DueTooLate
late_refused v h = rw (lt-leb v max_time h)

-- A time that stands is the time itself.
pub stands : (v : ℕ) (t : Tick) → Ok t ≡ not_too_late v → t.0 ≡ v
stands v t e = by_lt max_time v
    (λ h. let refused : not_too_late v ≡ Err DueTooLate = late_refused v h in impossible cc)
    (λ h.
    let given : not_too_late v ≡ Ok (record { 0 = v }) = in_time_given v h in
    let same : t ≡ record { 0 = v } = cc in
    ap number same)

-- A time that is refused is above 2^40, and it is refused with 9.
pub refused : (v : ℕ) (r : Refusal) → Err r ≡ not_too_late v → (max_time < v) × (r ≡ DueTooLate)
refused v r e = by_lt max_time v
    (λ h.
    let late : not_too_late v ≡ Err DueTooLate = late_refused v h in
    let same : r ≡ DueTooLate = cc in
    (h, same))
    (λ h. let given : not_too_late v ≡ Ok (record { 0 = v }) = in_time_given v h in impossible cc)

module _ (k : Kept) (r : Row) (t cost : ℕ) where
  -- For a row out of range the due time is refused with 3.
  none_given : row_in_range r ≡ false → due_of k r t cost ≡ Err ValueOutOfRange
  unfolding due_of
  none_given e = rw e

  module _ (fine : row_in_range r ≡ true) where
    -- For a row in range the answer goes by the due time alone.
    pub by_rule : due_of k r t cost ≡ not_too_late (rule_due k r t)
    unfolding due_of
    by_rule = rw fine

    -- For a row in range a due time of at most 2^40 is given.
    rule_given : rule_due k r t ≤ max_time → due_of k r t cost ≡ Ok (record { 0 = rule_due k r t })
    rule_given h = by_rule ∙ in_time_given (rule_due k r t) h

    -- For a row in range a due time above 2^40 is refused with 9.
    rule_refused : max_time < rule_due k r t → due_of k r t cost ≡ Err DueTooLate
    rule_refused h = by_rule ∙ late_refused (rule_due k r t) h

    -- For a row in range, where a time before the due time is refused, the due time is refused alike.
    pub late_before : (v : ℕ) (e : Refusal) → Err e ≡ not_too_late v → v ≤ rule_due k r t → Err e ≡ due_of k r t cost
    late_before v e late h =
        let p = refused v e late in
        late ∙ late_refused v p.0 ∙ sym (rule_refused (omega (arith, p.0)))

  -- One of three cases holds, and each of them has its answer.
  pub by_answer : {G : Type 0}
      → (row_in_range r ≡ true → rule_due k r t ≤ max_time → due_of k r t cost ≡ Ok (record { 0 = rule_due k r t }) → G)
      → (row_in_range r ≡ true → max_time < rule_due k r t → due_of k r t cost ≡ Err DueTooLate → G)
      → (row_in_range r ≡ false → due_of k r t cost ≡ Err ValueOutOfRange → G) → G
  by_answer {G} given late out = go (row_in_range r) refl
    where
      go : (fine : Bool) → row_in_range r ≡ fine → G
      go true e = by_lt max_time (rule_due k r t) (λ h. late e h (rule_refused e h)) (λ h. given e h (rule_given e h))
      go false e = out e (none_given e)

  -- The answer is a due time exactly when it is the one by the rule.
  pub due_given : (v : Tick) → (due_of k r t cost ≡ Ok v) ↔ GivenDue k r t v.0
  due_given v = (
    λ e. by_answer
        (λ fine h a.
        let same : record { 0 = rule_due k r t } ≡ v = cc in
        let by_rule : rule_due k r t ≡ v.0 = ap number same in
        record { row_is_in_range = fine; by_rule = by_rule; in_time = omega arith })
        (λ fine h a. impossible cc)
        (λ out a. impossible cc),
    λ g. let in_time : rule_due k r t ≤ max_time = omega (arith, g.by_rule, g.in_time) in rule_given g.row_is_in_range in_time ∙ rw g.by_rule,
  )

  -- The answer is refusal 9 exactly when the due time by the rule is above 2^40.
  pub due_too_late : (due_of k r t cost ≡ Err DueTooLate) ↔ ((row_in_range r ≡ true) × (max_time < rule_due k r t))
  due_too_late = (λ e. by_answer (λ fine h a. impossible cc) (λ fine h a. (fine, h)) (λ out a. impossible cc), λ h. rule_refused h.0 h.1)

  -- The answer is refusal 3 exactly when the row is out of range.
  pub due_out_of_range : (due_of k r t cost ≡ Err ValueOutOfRange) ↔ (row_in_range r ≡ false)
  due_out_of_range = (λ e. by_answer (λ fine h a. impossible cc) (λ fine h a. impossible cc) (λ out a. out), none_given)

-- ---- whether what is kept for a row is sound

-- If no due time of a list is above 2^40, neither is the first nor any after it.
none_late_parts : (t : Tick) (l : List Tick) → none_too_late (t ∷ l) ≡ true → (t.0 ≤ max_time) × (none_too_late l ≡ true)
none_late_parts t l e = let b = both_true (leb t.0 max_time) (none_too_late l) e in (leb-true t.0 max_time b.0, b.1)

-- If neither the first due time of a list nor any after it is above 2^40, none of the list is.
none_late_whole : (t : Tick) (l : List Tick) → t.0 ≤ max_time → none_too_late l ≡ true → none_too_late (t ∷ l) ≡ true
none_late_whole t l h e = rw (le-leb t.0 max_time h, e)

-- If no due time of a list is above 2^40, the one at each place is at most 2^40.
in_time_each : (l : List Tick) → none_too_late l ≡ true → (i : ℕ) → i < length l → (get_or l i no_time).0 ≤ max_time
in_time_each [] e i h = absurd (omega arith)
in_time_each (t ∷ l) e zero h = (none_late_parts t l e).0
in_time_each (t ∷ l) e (suc i) h = in_time_each l (none_late_parts t l e).1 i (omega arith)

-- If the due time at each place of a list is at most 2^40, none of the list is above 2^40.
in_time_all : (l : List Tick) → ((i : ℕ) → i < length l → (get_or l i no_time).0 ≤ max_time) → none_too_late l ≡ true
in_time_all [] f = refl
in_time_all (t ∷ l) f = none_late_whole t l (f 0 (omega arith)) (in_time_all l (λ i h. f (suc i) (omega arith)))

-- If what is kept is sound, at most x due times are counted, and none of these is above 2^40.
sound_parts : (k : Kept) (r : Row) → kept_sound k r ≡ true → (k.count ≤ r.x) × (none_too_late (kept_times k) ≡ true)
unfolding kept_sound
sound_parts k r e = let b = both_true (leb k.count r.x) (none_too_late (kept_times k)) e in (leb-true k.count r.x b.0, b.1)

pub kept_sound_means : KeptSoundMeans
kept_sound_means k r = (
  λ e. let p = sound_parts k r e in record { few = p.0; in_time = in_time_each (kept_times k) p.1 },
  λ s. sound_count k r s.few ∙ in_time_all (kept_times k) s.in_time,
)

pub empty_is_sound : EmptyIsSound
empty_is_sound r = sound_count nothing_kept r (omega arith)

-- One more due time of at most 2^40 leaves none of the list above 2^40.
none_late_and_one : (l : List Tick) (t : Tick) → none_too_late l ≡ true → t.0 ≤ max_time → none_too_late (l ++ (t ∷ [])) ≡ true
none_late_and_one [] t e h = none_late_whole t [] h refl
none_late_and_one (s ∷ l) t e h = let p = none_late_parts s l e in none_late_whole s (l ++ (t ∷ [])) p.0 (none_late_and_one l t p.1 h)

-- Dropping the first n due times leaves none of the list above 2^40.
none_late_drop : (n : ℕ) (l : List Tick) → none_too_late l ≡ true → none_too_late (drop n l) ≡ true
none_late_drop zero l e = e
none_late_drop (suc n) [] e = e
none_late_drop (suc n) (t ∷ l) e = none_late_drop n l (none_late_parts t l e).1

pub stays_sound : StaysSound
stays_sound k r t fine in_time sound =
    let all = kept_times k ++ (t ∷ []) in
    ap (λ m. kept_sound m r) (kept_with_lem k r t fine)
    ∙ sound_count (kept_as k (newest_with k r t)) r (last_ones_few r.x all)
    ∙ ap none_too_late (kept_as_lem k (newest_with k r t))
    ∙ none_late_drop (length all - r.x) all (none_late_and_one (kept_times k) t (sound_parts k r sound).1 in_time)
