-- Kept due times as the code looks at them: how many there are and where each stands in the array, the due time of a release, keeping one more, and the test of
-- what is kept. (docs/RULES.md, section 4.)
use Prim.Native.Nat.{ℕ, ◌+◌, ◌-◌, ◌≤◌, ◌<◌, min, max}
use mathlib.Core.Path.{◌≡◌, sym, ap, ◌∙◌}
use mathlib.Core.Bool.{true, false}
use mathlib.Core.List.{List, [], ◌∷◌, ◌++◌, map}
use native.Mathlib.Omega.{arith}
use borrow.Author.Tests.{le-leb}
use lib.ListN.{length, take, drop, get_or, set, take-append-drop, get_or-map}
use lib.ListN.{length-append, length-take, length-drop, length-map, length-reverse}
use lib.Seq.{length-take-le, get_or-take}
use Rattle.std.specs.Prelude.{Ok, Err}
use Rattle.std.specs.List.{copy_within}
use Rattle.std.proofs.lemmas.List.{get_or-reverse}
use Rattle.kinds.specs.declared.Tick.{Tick}
use Rattle.kinds.specs.declared.Refusal.TheVariants.{ValueOutOfRange}
use Rattle.kinds.proofs.Lists.{take_as_many}
use Rattle.theory.specs.DueTimes.{due_time}
use Rattle.theory.proofs.DueTimes.{due_time_at_least_d, due_of_the_first, due_of_the_further}
use Rattle.table.specs.declared.Row.{Row}
use Rattle.table.specs.Rows.{row_in_range}
use Rattle.due.specs.declared.Kept.{Kept}
use Rattle.due.specs.Kept.{max_kept, kept_times, earlier, last_ones, kept_as, kept_with, keep_step, none_too_late, kept_sound}
use Rattle.due.proofs.Lists.{last_ones_all, last_ones_and_one, last_ones-take, stored_behind}

-- An unused place of the array holds the time 0.
abbrev pub no_time : Tick
no_time = record { 0 = 0 }

-- The rule for due times takes a time as a number.
abbrev pub number : Tick → ℕ
number t = t.0

-- The due time of a row's next job, released at t, by the rule over what is kept.
abbrev pub rule_due : Kept → Row → (t : ℕ) → ℕ
rule_due k r t = due_time r.x r.y r.d (earlier k) t

-- After one more due time, the newest x are kept, oldest first.
abbrev pub newest_with : Kept → Row → Tick → List Tick
newest_with k r t = last_ones r.x (kept_times k ++ (t ∷ []))

-- ---- how many are kept

-- As many due times are kept as are counted, and no more than there are places.
pub length-kept_times : (k : Kept) (n : ℕ) → length k.times ≡ max_kept → n ≡ min k.count max_kept → length (kept_times k) ≡ n
length-kept_times k n whole counted = length-take k.count k.times ∙ ap (min k.count) whole ∙ sym counted

module _ (k : Kept) (n : ℕ) (used : length (kept_times k) ≡ n) where
  -- The kept due times are the first n of the array.
  pub kept_first : kept_times k ≡ take n k.times
  kept_first = sym (take_as_many k.count k.times) ∙ ap (λ m. take m k.times) used

  -- The array has at least n places.
  kept_inside : n ≤ length k.times
  kept_inside = omega (arith, length-take k.count k.times)

  -- Each kept due time stands at its place of the array.
  pub kept_at : (i : ℕ) → i < n → get_or (kept_times k) i no_time ≡ get_or k.times i no_time
  kept_at i h = ap (λ l. get_or l i no_time) kept_first ∙ get_or-take n k.times i no_time h

  -- ---- the due time of a release

  -- The rule sees as many due times as are kept.
  length-earlier : length (earlier k) ≡ n
  length-earlier = length-reverse (map number (kept_times k)) ∙ length-map (kept_times k) number ∙ used

  -- The x-th due time that the rule sees, newest first, stands x places before the end of the kept ones.
  earlier_at : (x : ℕ) → 1 ≤ x → x ≤ n → get_or (earlier k) (x - 1) 0 ≡ (get_or k.times (n - x) no_time).0
  earlier_at x p h =
      let numbers = map number (kept_times k) in
      let place : length numbers - 1 - (x - 1) ≡ n - x = omega (arith, length-map (kept_times k) number) in
      get_or-reverse numbers (x - 1) 0 (omega (arith, length-map (kept_times k) number))
      ∙ ap (λ m. get_or numbers m 0) place
      ∙ get_or-map number (kept_times k) (n - x) no_time
      ∙ ap number (kept_at (n - x) (omega arith))

  module _ (r : Row) (t : ℕ) where
    -- With fewer than x kept, a job is due d after its release.
    pub due_alone : n < r.x → rule_due k r t ≡ t + r.d
    due_alone h = due_of_the_first r.x r.y r.d (earlier k) t (omega (arith, length-earlier))

    -- With x or more kept, a job is due at the later of d after its release and y after the due time of the x-th job before it.
    pub due_spaced : 1 ≤ r.x → r.x ≤ n → rule_due k r t ≡ max (t + r.d) ((get_or k.times (n - r.x) no_time).0 + r.y)
    due_spaced p h = due_of_the_further r.x r.y r.d (earlier k) t (omega (arith, length-earlier)) ∙ rw (earlier_at r.x p h)

-- No job is due before its release.
pub due_after_release : (k : Kept) (r : Row) (t : ℕ) → t ≤ rule_due k r t
due_after_release k r t = omega (arith, due_time_at_least_d r.x r.y r.d (earlier k) t)

-- ---- one due time more

-- For a row in range the newest x are kept.
pub kept_with_lem : (k : Kept) (r : Row) (t : Tick) → row_in_range r ≡ true → kept_with k r t ≡ kept_as k (newest_with k r t)
unfolding kept_with
kept_with_lem k r t fine = rw fine

-- For a row out of range nothing changes.
pub keeps_all : (k : Kept) (r : Row) (t : Tick) → row_in_range r ≡ false → kept_with k r t ≡ k
unfolding kept_with
keeps_all k r t out = rw out

-- For a row out of range keeping is refused, and nothing changes.
pub keep_refused : (k : Kept) (r : Row) (t : Tick) → row_in_range r ≡ false
    → keep_step k r t ≡ record { kept = k; answer = Err ValueOutOfRange }
keep_refused k r t out = rw (keeps_all k r t out, out)

-- For a row in range the due time is kept, and the answer says so.
pub keep_done : (k : Kept) (r : Row) (t : Tick) {m : Kept} → row_in_range r ≡ true → kept_with k r t ≡ m
    → keep_step k r t ≡ record { kept = m; answer = Ok tt }
keep_done k r t fine e = rw (e, fine)

-- If an array begins with some due times, storing one at the place right after them keeps them and that one.
kept_stored : (k : Kept) (m : List Tick) (i : ℕ) (t : Tick) → length m ≡ i → i < length k.times
    → kept_as k (m ++ (t ∷ [])) ≡ record { times = set (m ++ drop i k.times) i t; count = i + 1 }
kept_stored k m i t e h =
    let more : length (m ++ (t ∷ [])) ≡ i + 1 = omega (arith, length-append m (t ∷ [])) in
    rw (more, stored_behind m k.times i t e h)

module _ (k : Kept) (n : ℕ) (used : length (kept_times k) ≡ n) (r : Row) (t : Tick) (fine : row_in_range r ≡ true) where
  -- With fewer than x kept, the new one goes to the first unused place.
  pub kept_behind : n < r.x → n < length k.times → kept_with k r t ≡ record { times = set k.times n t; count = n + 1 }
  kept_behind h room =
      let all = kept_times k ++ (t ∷ []) in
      let array : kept_times k ++ drop n k.times ≡ k.times = rw (kept_first k n used) (take-append-drop n k.times) in
      kept_with_lem k r t fine
      ∙ ap (kept_as k) (last_ones_all r.x all (omega (arith, length-append (kept_times k) (t ∷ []))))
      ∙ kept_stored k (kept_times k) n t used room
      ∙ rw array

  -- With x or more kept, the newest x - 1 move down to the start, and the new one goes right after them.
  pub kept_moved : 1 ≤ r.x → r.x ≤ n
      → kept_with k r t ≡ record { times = set (copy_within k.times (n - (r.x - 1)) n 0) (r.x - 1) t; count = r.x }
  kept_moved p h =
      let last = r.x - 1 in
      let newest = take last (drop (n - last) k.times) in
      let places : n ≤ length k.times = kept_inside k n used in
      let moved : length newest ≡ last = length-take-le last (drop (n - last) k.times) (omega (arith, length-drop (n - last) k.times)) in
      let one_more : last + 1 ≡ r.x = omega arith in
      let all : n - (n - last) ≡ last = omega arith in
      let start : 0 + last ≡ last = omega arith in
      kept_with_lem k r t fine
      ∙ ap (kept_as k) (last_ones_and_one r.x (kept_times k) t p)
      ∙ ap (λ l. kept_as k (last_ones last l ++ (t ∷ []))) (kept_first k n used)
      ∙ ap (λ l. kept_as k (l ++ (t ∷ []))) (last_ones-take last n k.times (omega arith) places)
      ∙ kept_stored k newest last t moved (omega arith)
      ∙ rw (one_more, all, start)

-- ---- whether what is kept for a row is sound

-- If at most x due times are counted, what is kept is sound exactly when none is above 2^40.
pub sound_count : (k : Kept) (r : Row) → k.count ≤ r.x → kept_sound k r ≡ none_too_late (kept_times k)
unfolding kept_sound
sound_count k r h = rw (le-leb k.count r.x h)
