-- The proofs about the period of some numbers within a limit. A walk through the numbers keeps one number h, the least common multiple of those passed. The
-- last part proves what each answer means.
use Rattle.std.specs.Prelude.{Result, Ok, Err}
use Prim.Native.Nat.{ℕ, ◌+◌, ◌*◌, ◌/◌, ◌≤◌, ◌<◌}
use native.Mathlib.Decide.{dec_le}
use native.Mathlib.Nat.{pos_of_dvd_of_pos, le-div_iff_mul-le, div-lt_iff_lt-mul}
use native.Mathlib.Numerals.{add-one}
use native.Mathlib.Omega.{arith}
use mathlib.Core.Path.{◌≡◌, refl, sym, ap, ◌∙◌}
use mathlib.Core.Bool.{Bool, true, false}
use mathlib.Core.List.{List, [], ◌∷◌, Memᴰ}
use lib.Dec.{leb}
use lib.ListN.{length, drop, get_or, drop_of_length-le}
use lib.Seq.{drop-cons}
use borrow.Author.Tests.{leb-true, le-leb, lt-leb}
use Rattle.kinds.specs.declared.Refusal.{Refusal}
use Rattle.kinds.specs.declared.Refusal.TheVariants.{ValueOutOfRange, PeriodTooLong}
use Rattle.kinds.specs.Numbering.{Says, values, refused_with}
use Rattle.kinds.proofs.Apart.{impossible}
use Rattle.kinds.proofs.Numbering.{said_in, never_zero, plain_refusals_apart}
use Rattle.periods.specs.Multiples.{least_common_multiple, IsLeastCommonMultiple, IsGreatestDivisor}
use Rattle.periods.specs.Periods.{all_positive, period_within, period_says, EachPositive}
use Rattle.periods.specs.Periods.{PeriodMeans, TooLongMeans, ZeroMeans, PeriodsNeverZero, PeriodsSaidApart}
use Rattle.periods.proofs.Each.{each_none, Each-cons, each_head, each_tail, stands_in}
use Rattle.periods.proofs.Multiples.{both_true, period_is_least, one_in_front, join, front_at_most, alone}

-- ---- positive numbers

-- Where the test `all_positive` is true, each number is at least 1.
pub positive_means : (ys : List ℕ) → all_positive ys ≡ true → EachPositive ys
positive_means [] e = each_none _
positive_means (y ∷ ys) e = let t = both_true (leb 1 y) (all_positive ys) e in Each-cons (leb-true 1 y t.0) (positive_means ys t.1)

-- Where each number is at least 1, the test `all_positive` is true.
pub positive_holds : (ys : List ℕ) → EachPositive ys → all_positive ys ≡ true
positive_holds [] h = refl
positive_holds (y ∷ ys) h = simp (le-leb 1 y (each_head h), positive_holds ys (each_tail h))

-- Where the test `all_positive` is false, a 0 is among the numbers.
zero_among : (ys : List ℕ) → all_positive ys ≡ false → Memᴰ 0 ys
zero_among [] e = impossible cc
zero_among (y ∷ ys) e = elim (dec_le 1 y) [
  | yes l ↦ Memᴰ.tail (zero_among ys (simp (le-leb 1 y l) at e))
  | no l ↦ let none : 0 ≡ y = omega arith in Memᴰ.head none
]

-- ---- number by number

-- The walk has passed the first i numbers. The least common multiple of all numbers is that of h and the numbers from i on, and h is within the limit.
pub record Grown (limit : ℕ) (ys : List ℕ) (h i : ℕ) : Type 0 where
  pub counted : i ≤ length ys
  pub within : h ≤ limit
  pub whole : IsLeastCommonMultiple (h ∷ drop i ys) (least_common_multiple ys)

module _ {ys : List ℕ} (positive : EachPositive ys) where
  -- The walk begins with h = 1, where the limit is at least 1.
  pub grown_none : {limit : ℕ} → 1 ≤ limit → Grown limit ys 1 0
  grown_none l = record { counted = omega arith; within = l; whole = one_in_front (period_is_least ys positive) }

  -- With a limit of 0 the answer is refusal 5.
  pub no_limit : (limit : ℕ) → limit < 1 → Err PeriodTooLong ≡ period_within limit ys
  no_limit limit l = simp (positive_holds ys positive, lt-leb (least_common_multiple ys) limit (omega (arith, (period_is_least ys positive).positive)))

  -- The number at each place is at least 1.
  pub some_number : (i : ℕ) → i < length ys → 1 ≤ get_or ys i 0
  some_number i l = positive (get_or ys i 0) (stands_in ys i 0 l)

  module _ {limit h i : ℕ} (grown : Grown limit ys h i) where
    -- Where every number is passed, the answer is h, the least common multiple.
    pub grown_all : length ys ≤ i → Ok h ≡ period_within limit ys
    grown_all l =
        let none : drop i ys ≡ [] = drop_of_length-le ys {i = i} l in
        let e : least_common_multiple ys ≡ h = alone (rw none at grown.whole) in
        simp (positive_holds ys positive, e, le-leb h limit grown.within)

    module _ (l : i < length ys) {g : ℕ} (d : IsGreatestDivisor h (get_or ys i 0) g) where
      -- The greatest common divisor of h and the number at i is at least 1.
      pub some_divisor : 1 ≤ g
      some_divisor = pos_of_dvd_of_pos d.of_second (some_number i l)

      -- After one more number, h / g times that number takes the place of h.
      next_whole : IsLeastCommonMultiple (h / g * get_or ys i 0 ∷ drop (i + 1) ys) (least_common_multiple ys)
      next_whole =
          let e : drop i ys ≡ get_or ys i 0 ∷ drop (i + 1) ys = rw (drop-cons ys i 0 l, add-one) in
          let w = grown.whole in
          join h (get_or ys i 0) g d (pos_of_dvd_of_pos (each_head w.multiple) w.positive) (some_number i l) (rw e at w)

      -- Where the code's test passes, the next h is within the limit.
      pub grown_fits : h / g ≤ limit / get_or ys i 0 → h / g * get_or ys i 0 ≤ limit
      grown_fits k = (le-div_iff_mul-le (some_number i l)).0 k

      -- Where the code's test passes, the walk goes on with the next h.
      pub grown_next : h / g ≤ limit / get_or ys i 0 → Grown limit ys (h / g * get_or ys i 0) (i + 1)
      grown_next k = record { counted = omega arith; within = grown_fits k; whole = next_whole }

      -- Where the next h is above the limit, the answer is refusal 5, since the least common multiple of all numbers is a multiple of the next h.
      pub grown_too_long : limit / get_or ys i 0 < h / g → Err PeriodTooLong ≡ period_within limit ys
      grown_too_long k =
          let above : limit < h / g * get_or ys i 0 = (div-lt_iff_lt-mul (some_number i l)).0 k in
          simp (positive_holds ys positive, lt-leb (least_common_multiple ys) limit (omega (arith, front_at_most next_whole)))

-- ---- what each answer means

-- The three answers, each with the conditions under which it is given.
data Outcome (limit : ℕ) (ys : List ℕ) : Result ℕ Refusal → Type 0 where
  period : EachPositive ys → least_common_multiple ys ≤ limit → Outcome limit ys (Ok (least_common_multiple ys))
  too_long : EachPositive ys → limit < least_common_multiple ys → Outcome limit ys (Err PeriodTooLong)
  zero_number : Memᴰ 0 ys → Outcome limit ys (Err ValueOutOfRange)

module _ (limit : ℕ) (ys : List ℕ) where
  -- Where each number is at least 1 and the least common multiple is within the limit, the answer is the least common multiple.
  pub period_within_limit : EachPositive ys → least_common_multiple ys ≤ limit → period_within limit ys ≡ Ok (least_common_multiple ys)
  period_within_limit p l = simp (positive_holds ys p, le-leb (least_common_multiple ys) limit l)

  -- Where each number is at least 1 and the least common multiple is above the limit, the answer is refusal 5.
  pub period_above_limit : EachPositive ys → limit < least_common_multiple ys → period_within limit ys ≡ Err PeriodTooLong
  period_above_limit p l = simp (positive_holds ys p, lt-leb (least_common_multiple ys) limit l)

  -- Where the test `all_positive` is false, the answer is refusal 3.
  pub with_zero : all_positive ys ≡ false → period_within limit ys ≡ Err ValueOutOfRange
  with_zero e = simp e

  -- The answer is one of the three.
  outcome : Outcome limit ys (period_within limit ys)
  outcome = by_test (all_positive ys) refl
    where
      by_test : (b : Bool) → all_positive ys ≡ b → Outcome limit ys (period_within limit ys)
      by_test false e = rw (with_zero e) (zero_number (zero_among ys e))
      by_test true e = elim (dec_le (least_common_multiple ys) limit) [
        | yes l ↦ let p = positive_means ys e in rw (period_within_limit p l) (period p l)
        | no l ↦
            let p = positive_means ys e in
            let above : limit < least_common_multiple ys = omega arith in
            rw (period_above_limit p above) (too_long p above)
      ]

  -- Where a 0 is among the numbers, the test `all_positive` is false.
  zero_fails : Memᴰ 0 ys → all_positive ys ≡ false
  zero_fails m = by_test (all_positive ys) refl
    where
      by_test : (b : Bool) → all_positive ys ≡ b → b ≡ false
      by_test false e = refl
      by_test true e = absurd (omega (arith, positive_means ys e 0 m))

-- For positive numbers the only refusal is 5, and it is given only where their least common multiple is above the limit.
pub refused_above : (limit : ℕ) (ys : List ℕ) → EachPositive ys → (r : Refusal) → period_within limit ys ≡ Err r
    → (r ≡ PeriodTooLong) × (limit < least_common_multiple ys)
refused_above limit ys positive r e = by_outcome _ (outcome limit ys) e
  where
    by_outcome : (a : Result ℕ Refusal) → Outcome limit ys a → a ≡ Err r → (r ≡ PeriodTooLong) × (limit < least_common_multiple ys)
    by_outcome a (period p l) f = impossible cc
    by_outcome a (too_long p l) f = (cc, l)
    by_outcome a (zero_number m) f = absurd (omega (arith, positive 0 m))

-- Two answers that say the same do not have different numbers.
pub numbers_apart : {A : Type 0} {m n : ℕ} {a b : Says} → a ≡ b → (said_in a).number ≡ m → (said_in b).number ≡ n → (m ≡ n → ⊥) → A
numbers_apart e p q apart = absurd (apart (sym p ∙ ap (λ (a : Says). (said_in a).number) e ∙ q))

pub period_means : PeriodMeans
period_means limit ys h = (to _ (outcome limit ys), λ m. rw (period_within_limit limit ys m.0 (rw m.1 at m.2), m.1))
  where
    to : (a : Result ℕ Refusal) → Outcome limit ys a → period_says a ≡ values (h ∷ []) → EachPositive ys × (h ≡ least_common_multiple ys) × (h ≤ limit)
    to a (period p l) e = let same : h ≡ least_common_multiple ys = cc in (p, same, rw same l)
    to a (too_long p l) e = impossible cc
    to a (zero_number m) e = impossible cc

pub too_long_means : TooLongMeans
too_long_means limit ys = (to _ (outcome limit ys), λ m. rw (period_above_limit limit ys m.0 m.1))
  where
    to : (a : Result ℕ Refusal) → Outcome limit ys a → period_says a ≡ refused_with 5 0 → EachPositive ys × (limit < least_common_multiple ys)
    to a (period p l) e = impossible cc
    to a (too_long p l) e = (p, l)
    to a (zero_number m) e = numbers_apart {m = 3} {n = 5} e refl refl (λ z. omega arith)

pub zero_means : ZeroMeans
zero_means limit ys = (to _ (outcome limit ys), λ m. rw (with_zero limit ys (zero_fails limit ys m)))
  where
    to : (a : Result ℕ Refusal) → Outcome limit ys a → period_says a ≡ refused_with 3 0 → Memᴰ 0 ys
    to a (period p l) e = impossible cc
    to a (too_long p l) e = numbers_apart {m = 5} {n = 3} e refl refl (λ z. omega arith)
    to a (zero_number m) e = m

pub periods_never_zero : PeriodsNeverZero
periods_never_zero (Ok h) = tt
periods_never_zero (Err r) = never_zero r

pub periods_said_apart : PeriodsSaidApart
periods_said_apart (Ok h) (Ok k) e = cc
periods_said_apart (Ok h) (Err r) e = impossible cc
periods_said_apart (Err q) (Ok k) e = impossible cc
periods_said_apart (Err q) (Err r) e = ap Err (plain_refusals_apart q r e)
