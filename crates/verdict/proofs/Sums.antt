-- The first elements of a list, one after another, as a loop passes the rows or the servers in use: what holds for the first i + 1 elements follows from what
-- holds for the first i and for element i.
use Prim.Native.Nat.{ℕ, zero, suc, ◌+◌, ◌*◌, ◌≤◌, ◌<◌}
use mathlib.Core.Path.{◌≡◌, refl}
use mathlib.Core.List.{List, [], ◌∷◌, ◌++◌, Memᴰ}
use native.Mathlib.Omega.{arith}
use native.Mathlib.Numerals.{add-one}
use lib.ListN.{length, take, get_or}
use lib.Seq.{take-suc}
use Rattle.theory.specs.Lists.{All, total}
use Rattle.theory.proofs.Lists.{All-append, total-append}

-- The loop has come to element i of the first n of a list, and `sum` is the sum of the weights of the elements before i and of `base`, which was there before
-- the first element.
pub record Summed {A : Type 0} (w : A → ℕ) (l : List A) (n base sum i : ℕ) : Type 0 where
  pub counted : i ≤ n
  pub so_far : sum ≡ total w (take i l) + base

module _ {A : Type 0} where
  -- Before the first element the sum is what was there before.
  pub none_summed : (w : A → ℕ) (l : List A) {n base sum : ℕ} → sum ≡ base → Summed w l n base sum 0
  unfolding total
  none_summed w l start = record { counted = omega arith; so_far = omega arith }

  -- After the last element, the sum is that of the weights of all n elements and of what was there before.
  pub all_summed : {w : A → ℕ} {l : List A} {n base sum i : ℕ} → Summed w l n base sum i → n ≤ i → sum ≡ total w (take n l) + base
  all_summed {n = n} {i = i} summed end =
      let all : i ≡ n = omega (arith, summed.counted) in
      rw all at summed.so_far

-- Each of the first n elements stands among them.
pub stands_among : {A : Type 0} (none : A) (l : List A) (n i : ℕ) → i < n → n ≤ length l → Memᴰ (get_or l i none) (take n l)
stands_among none l zero i h places = absurd (omega arith)
stands_among none [] (suc n) i h places = absurd (omega arith)
stands_among none (a ∷ l) (suc n) zero h places = Memᴰ.head refl
stands_among none (a ∷ l) (suc n) (suc i) h places = Memᴰ.tail (stands_among none l n i (omega arith) (omega arith))

module _ {A : Type 0} (none : A) (l : List A) where
  -- The elements before i + 1 are those before i, and element i.
  pub one_more : (i : ℕ) → i < length l → take (i + 1) l ≡ take i l ++ (get_or l i none ∷ [])
  one_more i h = rw add-one (take-suc l i none h)

  -- If each of the first n elements has a property, all of them have it.
  pub first_all : (P : A → Type 0) (n : ℕ) → n ≤ length l → ((i : ℕ) → i < n → P (get_or l i none)) → All P (take n l)
  first_all P zero h each = tt
  first_all P (suc i) h each =
      rw (← add-one i, one_more i h)
      (All-append P (take i l) (get_or l i none ∷ []) (first_all P i (omega arith) (λ k b. each k (omega arith))) (each i (omega arith), tt))

  module _ (w : A → ℕ) where
    -- The sum over the elements before i + 1 is the sum over those before i, and the weight of element i.
    pub total_more : (i : ℕ) → i < length l → total w (take (i + 1) l) ≡ total w (take i l) + w (get_or l i none)
    unfolding total
    total_more i h = rw (one_more i h, total-append) (omega arith)

    -- Where the weight of each of the first n elements is within a bound, the sum over the elements before i is at most i times that bound.
    pub total_at_most : (n most : ℕ) → n ≤ length l → ((i : ℕ) → i < n → w (get_or l i none) ≤ most) → (i : ℕ) → i ≤ n → total w (take i l) ≤ i * most
    unfolding total
    total_at_most n most places small zero h = omega arith
    total_at_most n most places small (suc i) h =
        rw (← add-one i)
        (omega (arith, total_more i (omega arith), small i h, total_at_most n most places small i (omega arith)))

-- One element more adds its weight to the sum.
pub summed_more : {A : Type 0} (none : A) {w : A → ℕ} {l : List A} {n base sum i : ℕ} → n ≤ length l → Summed w l n base sum i → i < n
    → Summed w l n base (sum + w (get_or l i none)) (i + 1)
summed_more none {w} {l} {n} {base} {sum} {i} places summed h =
    record { counted = omega arith; so_far = omega (arith, summed.so_far, total_more none l w i (omega arith)) }
