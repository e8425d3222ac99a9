-- What `spelt` is at a place of a list of bytes, as a reader meets it: some groups have been read, and their worth so far is kept as a number.
use Rattle.std.specs.Prelude.{Ok}
use mathlib.Core.Path.{◌≡◌, refl, ap, ◌∙◌}
use Prim.Native.Nat.{ℕ, zero, suc, ◌+◌, ◌-◌, ◌*◌, ◌≤◌, ◌<◌}
use native.Mathlib.Nat.{le_of_suc-le-suc, mul-le-mul_left}
use native.Mathlib.Numerals.{add-one, sub-one}
use native.Mathlib.Omega.{arith}
use mathlib.Core.List.{List}
use mathlib.Core.Bool.{false, cond}
use lib.ListN.{length, get_or, drop, drop_of_length-le}
use lib.Seq.{drop-cons}
use lib.Dec.{ltb, eqb}
use borrow.Author.Tests.{lt-ltb, le-ltb, ne_eqb}
use Rattle.numbers.specs.Spelling.{max_groups}
use Rattle.numbers.specs.Reading.{Spelt, number, superfluous_zero, asks_for_more, cut_off, group_before, spelt, answered, read_at, misspelled_at}

-- 128 to the power of the number of groups. The numbers below it are those that so many groups can spell.
abbrev pub limit : ℕ → ℕ
limit zero = 1
limit (suc most) = 128 * limit most

-- The limit is at least 1.
pub limit_pos : (n : ℕ) → 1 ≤ limit n
limit_pos zero = omega arith
limit_pos (suc n) = omega (arith, limit_pos n)

-- The limit for more groups is no smaller.
limit_grows : (m n : ℕ) → m ≤ n → limit m ≤ limit n
limit_grows zero n h = limit_pos n
limit_grows (suc m) zero h = absurd (omega arith)
limit_grows (suc m) (suc n) h = omega (arith, limit_grows m n (le_of_suc-le-suc h))

-- What groups worth `value` spell together with the groups after them, which are worth `weight` times as much.
abbrev behind : (value weight : ℕ) → Spelt → Spelt
behind value weight (number n next) = cond (eqb n 0) (superfluous_zero (next - 1)) (number (value + weight * n) next)
behind value weight (superfluous_zero place) = superfluous_zero place
behind value weight (asks_for_more place) = asks_for_more place
behind value weight cut_off = cut_off

-- For one group, `group_before` and `behind` say the same.
before_is_behind : (low : ℕ) (r : Spelt) → group_before low r ≡ behind low 128 r
before_is_behind low (number n next) = refl
before_is_behind low (superfluous_zero place) = refl
before_is_behind low (asks_for_more place) = refl
before_is_behind low cut_off = refl

-- One group more may be counted among the groups read so far.
behind_before : (value weight low : ℕ) (r : Spelt) → behind value weight (group_before low r) ≡ behind (value + weight * low) (weight * 128) r
behind_before value weight low (number zero next) = refl
behind_before value weight low (number (suc n) next) =
    let e : eqb (low + 128 * suc n) 0 ≡ false = ne_eqb (low + 128 * suc n) 0 (λ z. omega arith) in
    let v : value + weight * (low + 128 * suc n) ≡ value + weight * low + weight * 128 * suc n = omega arith in
    simp (ne_eqb (suc n) 0 (λ z. omega arith), e, v)
behind_before value weight low (superfluous_zero place) = refl
behind_before value weight low (asks_for_more place) = refl
behind_before value weight low cut_off = refl

-- Where no group is allowed any more, the group before asked for one too many.
spelt_none : (s : List ℕ) (at : ℕ) → spelt 0 s at ≡ asks_for_more (at - 1)
unfolding spelt
spelt_none s at = refl

-- Where the bytes have ended, the number is cut off.
pub spelt_cut : (most : ℕ) (s : List ℕ) (at : ℕ) → 1 ≤ most → length s ≤ at → spelt most (drop at s) at ≡ cut_off
unfolding spelt
spelt_cut zero s at l h = absurd (omega arith)
spelt_cut (suc most) s at l h = rw (drop_of_length-le s h)

-- What is spelled at a place depends on the byte there: below 128 it is the last group, and from 128 on another group follows it.
spelt_here : (most : ℕ) (s : List ℕ) (at : ℕ) → 1 ≤ most → at < length s → spelt most (drop at s) at
    ≡ cond (ltb (get_or s at 0) 128) (number (get_or s at 0) (at + 1)) (group_before (get_or s at 0 - 128) (spelt (most - 1) (drop (at + 1) s) (at + 1)))
unfolding spelt
spelt_here zero s at l h = absurd (omega arith)
spelt_here (suc most) s at l h = rw (drop-cons s at 0 h, sub-one, add-one)

-- A byte below 128 is the last group, and its value is the number.
spelt_last : (most : ℕ) (s : List ℕ) (at : ℕ) → 1 ≤ most → at < length s → get_or s at 0 < 128
    → spelt most (drop at s) at ≡ number (get_or s at 0) (at + 1)
spelt_last most s at l h b = spelt_here most s at l h ∙ simp (lt-ltb _ _ b)

-- A byte from 128 on is a group that another follows.
spelt_more : (most : ℕ) (s : List ℕ) (at : ℕ) → 1 ≤ most → at < length s → 128 ≤ get_or s at 0
    → spelt most (drop at s) at ≡ group_before (get_or s at 0 - 128) (spelt (most - 1) (drop (at + 1) s) (at + 1))
spelt_more most s at l h b = spelt_here most s at l h ∙ simp (le-ltb _ _ b)

-- ---- a reader that has passed some groups, each of which asked for another

-- The groups read so far are worth `value`, and the groups from here on count `weight` times. The reader's answer is the answer for both together.
pub record Passed (s : List ℕ) (at value weight groups : ℕ) : Type 0 where
  pub some_groups : 1 ≤ groups
  pub not_too_many : groups ≤ max_groups
  pub inside : at + groups ≤ length s
  pub weighs : weight ≡ limit groups
  pub below : value < weight
  pub answers : read_at s at ≡ answered (length s) (behind value weight (spelt (max_groups - groups) (drop (at + groups) s) (at + groups)))

-- After a first group that asks for another, one group has been passed.
pub first_passed : (s : List ℕ) (at : ℕ) → at < length s → 128 ≤ get_or s at 0 → get_or s at 0 < 256 → Passed s at (get_or s at 0 - 128) 128 1
first_passed s at h l b = record {
  some_groups = omega arith;
  not_too_many = omega arith;
  inside = omega arith;
  weighs = refl;
  below = omega arith;
  answers =
      ap (answered (length s))
      (spelt_more max_groups s at (omega arith) h l ∙ before_is_behind (get_or s at 0 - 128) (spelt (max_groups - 1) (drop (at + 1) s) (at + 1)));
}

-- A first byte below 128 is the whole number.
pub read_one : (s : List ℕ) (at : ℕ) → at < length s → get_or s at 0 < 128
    → read_at s at ≡ Ok (record { value = get_or s at 0; next = at + 1 })
read_one s at h l = ap (answered (length s)) (spelt_last max_groups s at (omega arith) h l)

module _ {s : List ℕ} {at value weight groups : ℕ} (p : Passed s at value weight groups) where
  -- Where six groups have been passed, the number is refused, since the sixth asked for more.
  pub read_too_long : max_groups ≤ groups → read_at s at ≡ misspelled_at (at + max_groups - 1)
  read_too_long h =
      let none : max_groups - groups ≡ 0 = omega arith in
      let all : groups ≡ max_groups = omega (arith, p.not_too_many) in
      p.answers ∙ rw (none, spelt_none, all)

  module _ (h : groups < max_groups) where
    -- Where fewer than six groups have been passed, `weight` is at most the weight of a sixth group.
    pub weight_fits : weight ≤ limit (max_groups - 1)
    weight_fits = omega (arith, p.weighs, limit_grows groups (max_groups - 1) (omega arith))

    -- Where fewer than six groups have been passed, the number with one more group is in range.
    pub group_fits : (group : ℕ) → group < 128 → value + weight * group < limit max_groups
    group_fits group l = omega (arith, weight_fits, p.below, mul-le-mul_left {m = group} {n = 127} weight (omega arith))

    -- The number with a next group that asks for another is in range.
    pub more_fits : get_or s (at + groups) 0 < 256 → value + weight * (get_or s (at + groups) 0 - 128) < limit max_groups
    more_fits b = group_fits (get_or s (at + groups) 0 - 128) (omega arith)

    -- Where the bytes have ended, the number is refused as cut off.
    pub read_cut : length s ≤ at + groups → read_at s at ≡ misspelled_at (length s)
    read_cut e = p.answers ∙ rw (spelt_cut (max_groups - groups) s (at + groups) (omega arith) e)

    -- Where the next group is zero and the last, it is superfluous, and the number is refused.
    pub read_zero : at + groups < length s → get_or s (at + groups) 0 ≡ 0 → read_at s at ≡ misspelled_at (at + groups)
    read_zero e z =
        let place : at + groups + 1 - 1 ≡ at + groups = omega arith in
        p.answers ∙ simp (spelt_last (max_groups - groups) s (at + groups) (omega arith) e (omega arith), z, place)

    -- Where the next group is the last and not zero, the number ends with it and is read.
    pub read_last : at + groups < length s → (get_or s (at + groups) 0 ≡ 0 → ⊥) → get_or s (at + groups) 0 < 128
        → read_at s at ≡ Ok (record { value = value + weight * get_or s (at + groups) 0; next = at + groups + 1 })
    read_last e z l = p.answers ∙ simp (spelt_last (max_groups - groups) s (at + groups) (omega arith) e l, ne_eqb (get_or s (at + groups) 0) 0 z)

    -- Where the next group asks for another, one more group has been passed.
    pub next_passed : at + groups < length s → 128 ≤ get_or s (at + groups) 0 → get_or s (at + groups) 0 < 256
        → Passed s at (value + weight * (get_or s (at + groups) 0 - 128)) (weight * 128) (groups + 1)
    next_passed e l b =
        let low = get_or s (at + groups) 0 - 128 in
        let left : max_groups - groups - 1 ≡ max_groups - (groups + 1) = omega arith in
        let place : at + groups + 1 ≡ at + (groups + 1) = omega arith in
        record {
          some_groups = omega arith;
          not_too_many = omega arith;
          inside = omega arith;
          weighs = rw add-one (omega (arith, p.weighs));
          below = omega (arith, p.below, mul-le-mul_left {m = low} {n = 127} weight (omega arith));
          answers =
              p.answers
              ∙ ap (λ r. answered (length s) (behind value weight r)) (spelt_more (max_groups - groups) s (at + groups) (omega arith) e l)
              ∙ ap (answered (length s)) (behind_before value weight low (spelt (max_groups - groups - 1) (drop (at + groups + 1) s) (at + groups + 1)))
              ∙ rw (left, place);
        }
