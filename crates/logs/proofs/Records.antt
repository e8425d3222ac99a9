-- The five numbers of a record are first tested and measured, and then written, one after another. (docs/RULES.md, section 8.)
use Rattle.std.specs.Prelude.{Result, Ok, Err}
use Prim.Native.Nat.{ℕ, ◌+◌, ◌-◌, ◌*◌, ◌≤◌, ◌<◌}
use native.Mathlib.Nat.{zero-add}
use native.Mathlib.Numerals.{add-one}
use native.Mathlib.Omega.{arith}
use mathlib.Core.Path.{◌≡◌, refl, sym, ap, ◌∙◌}
use mathlib.Core.Bool.{Bool, true, false, ◌&&◌, and-eq-true_iff}
use mathlib.Core.List.{List, [], ◌∷◌, ◌++◌, flatten, append-nil, append_assoc}
use lib.Dec.{leb}
use lib.ListN.{length, get_or, take, drop, length-append, length-take, length-drop, take-append-drop, drop_of_length-le}
use lib.Seq.{sets, sets-eq, length-sets, drop-cons, drop-drop, drop-append-le, drop-length, take-length}
use borrow.Author.Tests.{le-leb, lt-leb}
use borrow.Rule.Slice.PartMut.{mid_of, put_mid, mid_len}
use Rattle.kinds.specs.declared.Finish.{Finish}
use Rattle.kinds.specs.declared.Refusal.{Refusal}
use Rattle.kinds.specs.declared.Refusal.TheVariants.{NumberTooBig, NoRoom}
use Rattle.kinds.proofs.Apart.{impossible}
use Rattle.kinds.proofs.Lists.{sets-append}
use Rattle.numbers.specs.Spelling.{max_groups, max_number, spelling}
use Rattle.numbers.specs.Writing.{length_of, written, buffer_after}
use Rattle.numbers.proofs.Spellings.{spelling_length, length_answered}
use Rattle.logs.specs.Log.{values_of, spelled_numbers, spelled_finish, all_in_range, written_record}

-- ---- numbers spelled one after another

-- Each number takes one byte to six.
pub length-spelled_numbers : (vs : List ℕ) → (length vs ≤ length (spelled_numbers vs)) × (length (spelled_numbers vs) ≤ max_groups * length vs)
unfolding flatten
length-spelled_numbers [] = (omega arith, omega arith)
length-spelled_numbers (v ∷ vs) =
    let one = spelling_length v in
    let more = length-spelled_numbers vs in
    simp length-append (omega (arith, one, more), omega (arith, one, more))

module _ (vs : List ℕ) (i : ℕ) (h : i < length vs) where
  -- The spelling of the numbers from i on is the spelling of number i, and then that of the numbers after it.
  spelled_next : spelled_numbers (drop i vs) ≡ spelling (get_or vs i 0) ++ spelled_numbers (drop (i + 1) vs)
  unfolding flatten
  spelled_next = rw (add-one, drop-cons vs i 0 h)

  -- The bytes that the numbers from i on take are those of number i and those of the numbers after it.
  takes_next : length (spelled_numbers (drop i vs)) ≡ length (spelling (get_or vs i 0)) + length (spelled_numbers (drop (i + 1) vs))
  takes_next = ap length spelled_next ∙ simp length-append

  -- The numbers from i on all have spellings exactly where number i has one and all numbers after it have.
  range_next : all_in_range (drop i vs) ≡ (leb (get_or vs i 0) max_number && all_in_range (drop (i + 1) vs))
  range_next = rw (add-one, drop-cons vs i 0 h)

-- ---- the record writer's answer, by its tests

module _ (f : Finish) (room : ℕ) where
  pub answers_too_big : all_in_range (values_of f) ≡ false → written_record f room ≡ Err NumberTooBig
  answers_too_big e = simp e

  pub answers_no_room : all_in_range (values_of f) ≡ true → room < length (spelled_finish f) → written_record f room ≡ Err NoRoom
  answers_no_room e h = simp (e, lt-leb _ _ h)

  pub answers_length : all_in_range (values_of f) ≡ true → length (spelled_finish f) ≤ room → written_record f room ≡ Ok (length (spelled_finish f))
  answers_length e h = simp (e, le-leb _ _ h)

-- ---- the numbers are counted

-- Where the length of a number is answered, the number has a spelling, and this is its length.
length_told : (v : ℕ) (fits : Bool) → leb v max_number ≡ fits → (n : ℕ) → length_of v ≡ Ok n → (leb v max_number ≡ true) × (n ≡ length (spelling v))
length_told v true e n t = (e, cc)
length_told v false e n t = (cc, cc)

-- The first i values have spellings and take `room` bytes together.
pub record Counted (values : List ℕ) (room i : ℕ) : Type 0 where
  pub not_past : i ≤ length values
  pub in_range : all_in_range (drop i values) ≡ all_in_range values
  pub takes : room + length (spelled_numbers (drop i values)) ≡ length (spelled_numbers values)

-- Before the loop no value is counted.
pub none_counted : (values : List ℕ) → Counted values 0 0
none_counted values = record { not_past = omega arith; in_range = refl; takes = omega arith }

module _ {values : List ℕ} {room i : ℕ} (p : Counted values room i) where
  -- A value whose length is answered is counted.
  pub one_counted : i < length values → {n : ℕ} → length_of (get_or values i 0) ≡ Ok n → Counted values (room + n) (i + 1)
  one_counted h {n} e =
      let t = length_told (get_or values i 0) _ refl n e in
      record {
        not_past = omega arith;
        in_range = sym (range_next values i h ∙ simp t.0) ∙ p.in_range;
        takes = omega (arith, p.takes, t.1, takes_next values i h);
      }

  -- After the loop all values are counted: they have spellings, and `room` is the length of all of them together.
  pub all_counted : length values ≤ i → (all_in_range values ≡ true) × (room ≡ length (spelled_numbers values))
  unfolding flatten
  all_counted h =
      let none : drop i values ≡ [] = drop_of_length-le values h in
      (sym p.in_range ∙ rw none, omega (arith, rw none at p.takes))

-- ---- a log from a place on

module _ (log : List ℕ) (at : ℕ) where
  -- The part that is lent is the log from the place on.
  pub rest_of : mid_of at (length log - at) log ≡ drop at log
  rest_of = rw (← length-drop, take-length)

  -- Once a part that was lent from the place on is back, the log has what stood before the place, and then that part.
  pub rest_put : (rest : List ℕ) → put_mid at (length log - at) log rest ≡ take at log ++ rest
  rest_put rest = rw (← length-drop, drop-length, append-nil)

  -- After a number was written into a part from the place on that has room for it, the log has the number's groups there, one after another.
  number_put : (v n size : ℕ) (part : List ℕ) → n ≡ length (spelling v) → n ≤ length (mid_of at size log) → part ≡ buffer_after (Ok n) v (mid_of at size log)
      → put_mid at size log part ≡ sets log at (spelling v)
  number_put v n size part e h w =
      let kept : drop n (mid_of at size log) ++ drop size (drop at log) ≡ drop (at + n) log =
      sym (drop-append-le n (mid_of at size log) _ h) ∙ rw (take-append-drop, drop-drop) in
      let within : at + n ≤ length log = omega (arith, simp (length-take, length-drop) at h, spelling_length v) in
      rw (w, append_assoc, kept, ← append_assoc, e) (sym (sets-eq (spelling v) log at (omega arith)))

-- Six bytes that are lent have room for any number.
pub six_bytes_have_room : (log : List ℕ) (at v : ℕ) → at + max_groups ≤ length log
    → length (spelling v) ≤ length (mid_of at (at + max_groups - at) log)
six_bytes_have_room log at v h = rw (mid_len at (at + max_groups) log h) (omega (arith, spelling_length v))

-- ---- the numbers are written

-- All values have spellings and there is room for them. The first k of them stand in the rest, up to `at`, and storing the others behind them completes the
-- record.
pub record Standing (values rest₀ rest : List ℕ) (at k : ℕ) : Type 0 where
  pub not_past : k ≤ length values
  pub in_range : all_in_range (drop k values) ≡ true
  pub takes : at + length (spelled_numbers (drop k values)) ≡ length (spelled_numbers values)
  pub same_length : length rest ≡ length rest₀
  pub has_room : length (spelled_numbers values) ≤ length rest₀
  pub completes : sets rest at (spelled_numbers (drop k values)) ≡ sets rest₀ 0 (spelled_numbers values)

-- Before the loop no value stands there.
pub none_standing : (values rest : List ℕ) → all_in_range values ≡ true → length (spelled_numbers values) ≤ length rest → Standing values rest rest 0 0
none_standing values rest e h =
    record { not_past = omega arith; in_range = e; takes = omega arith; same_length = refl; has_room = h; completes = refl }

module _ {values rest₀ rest : List ℕ} {at k : ℕ} (p : Standing values rest₀ rest at k) (h : k < length values) where
  -- The next value has a spelling, and so have those after it.
  next_in_range : (leb (get_or values k 0) max_number ≡ true) × (all_in_range (drop (k + 1) values) ≡ true)
  next_in_range = (and-eq-true_iff _ _).0 (sym (range_next values k h) ∙ p.in_range)

  -- There is room for the next value.
  next_has_room : at + length (spelling (get_or values k 0)) ≤ length rest
  next_has_room = omega (arith, takes_next values k h, p.takes, p.same_length, p.has_room)

  -- The rest from the place on has room for the next value.
  pub rest_has_room : length (spelling (get_or values k 0)) ≤ length (mid_of at (length rest - at) rest)
  rest_has_room = rw (rest_of, length-drop) (omega (arith, next_has_room))

  -- The next value is written into a part from the place on that has room for it.
  module _ (size : ℕ) (has_room : length (spelling (get_or values k 0)) ≤ length (mid_of at size rest))
      {answer : Result ℕ Refusal} (e : answer ≡ written (get_or values k 0) (length (mid_of at size rest))) where
    -- The number writer answers the next value's length.
    next_fits : written (get_or values k 0) (length (mid_of at size rest)) ≡ Ok (length (spelling (get_or values k 0)))
    next_fits = simp (next_in_range.0, le-leb _ _ has_room)

    -- The next value is never refused.
    pub never_refused : {r : Refusal} → answer ≡ Err r → ⊥
    never_refused a = let f = next_fits in impossible cc

    -- After it was written, the next value stands behind the others.
    pub one_standing : {n : ℕ} {after : List ℕ} → after ≡ buffer_after answer (get_or values k 0) (mid_of at size rest) → answer ≡ Ok n
        → Standing values rest₀ (put_mid at size rest after) (at + n) (k + 1)
    one_standing {n} {after} w a =
        let took = (length_answered (get_or values k 0) _ n (sym e ∙ a)).spelled in
        rw (number_put rest at (get_or values k 0) n size after took (omega arith) (rw a at w)) record {
          not_past = omega arith;
          in_range = next_in_range.1;
          takes = omega (arith, took, takes_next values k h, p.takes);
          same_length = simp length-sets p.same_length;
          has_room = p.has_room;
          completes = rw (took, ← sets-append, ← spelled_next values k h) p.completes;
        }

-- After the loop all values stand at the start of the rest, and what comes after them is as it was.
pub all_standing : {values rest₀ rest : List ℕ} {at k : ℕ} → Standing values rest₀ rest at k → length values ≤ k
    → (at ≡ length (spelled_numbers values)) × (rest ≡ spelled_numbers values ++ drop at rest₀)
unfolding flatten
all_standing {values} {rest₀} {rest} {at} {k} p h =
    let none : drop k values ≡ [] = drop_of_length-le values h in
    let start : at ≡ length (spelled_numbers values) = omega (arith, rw none at p.takes) in
    let whole : rest ≡ sets rest₀ 0 (spelled_numbers values) = rw none at p.completes in
    (start, whole ∙ sets-eq (spelled_numbers values) rest₀ 0 (omega (arith, p.has_room)) ∙ rw (zero-add, start))
