-- Laws about the definitions of specs/Lists.antt: properties that every element has, sums over lists that are made of other lists, sums of two weights, sums
-- over the elements that pass a test, and what happens to all these where an element is put into a list or taken out.
use Prim.Native.Nat.{ℕ, ◌+◌, ◌≤◌}
use mathlib.Core.Path.{◌≡◌, refl}
use mathlib.Core.Logic.{◌⊎◌, inl, inr, ⊎_elim}
use mathlib.Core.Bool.{Bool, true, false}
use mathlib.Core.List.{List, [], ◌∷◌, ◌++◌, flatten, Memᴰ}
use native.Mathlib.Omega.{arith}
use native.Mathlib.Nat.{le_refl}
use Rattle.theory.specs.Lists.{All, total, weight_if, Insert, here, there}
use Rattle.theory.proofs.Cases.{by_test}

-- ---- every element

module _ {A : Type 0} where
  -- A property that everything has, every element of a list has.
  pub all_of : {P : A → Type 0} → ((a : A) → P a) → (l : List A) → All P l
  all_of f [] = tt
  all_of f (a ∷ l) = (f a, all_of f l)

  -- Where P implies Q and every element has P, every element has Q.
  pub all_imply : {P Q : A → Type 0} → ((a : A) → P a → Q a) → (l : List A) → All P l → All Q l
  all_imply f [] h = tt
  all_imply f (a ∷ l) h = (f a h.0, all_imply f l h.1)

  -- Where every member of a list has P, `All P` holds for the list.
  pub all_of_members : {P : A → Type 0} (l : List A) → ((a : A) → Memᴰ a l → P a) → All P l
  all_of_members [] h = tt
  all_of_members (a ∷ l) h = (h a (Memᴰ.head refl), all_of_members l (λ b m. h b (Memᴰ.tail m)))

  module _ (P : A → Type 0) where
    -- Where `All P` holds for a list, every member of the list has P.
    pub all_at : {a : A} {l : List A} → All P l → Memᴰ a l → P a
    all_at h (Memᴰ.head e) = rw e h.0
    all_at h (Memᴰ.tail m) = all_at h.1 m

    -- A property that every element of two lists has, every element of the joined list has.
    pub All-append : (l m : List A) → All P l → All P m → All P (l ++ m)
    All-append [] m h k = k
    All-append (a ∷ l) m h k = (h.0, All-append l m h.1 k)

    -- A property that every element of several lists has, every element of the joined list has.
    pub All-flatten : (lists : List (List A)) → All (All P) lists → All P (flatten lists)
    unfolding flatten
    All-flatten [] h = tt
    All-flatten (l ∷ lists) h = All-append l (flatten lists) h.0 (All-flatten lists h.1)

    -- Where an element with P is put into a list whose elements all have P, every element of the new list has P.
    pub all_put_in : {a : A} {l m : List A} → Insert a l m → P a → All P l → All P m
    all_put_in here p h = (p, h)
    all_put_in (there i) p h = (h.0, all_put_in i p h.1)

    -- Where an element is taken out of a list whose elements all have P, that element has P, and so has every element of the rest.
    pub all_taken_out : {a : A} {l m : List A} → Insert a l m → All P m → P a × All P l
    all_taken_out here h = h
    all_taken_out (there i) h = let k = all_taken_out i h.1 in (k.0, (h.0, k.1))

  -- A member of a list can be taken out of it.
  pub taken_out : {a : A} {m : List A} → Memᴰ a m → (l : List A) × Insert a l m
  taken_out (Memᴰ.head {xs = l} e) = (l, rw (← e) here)
  taken_out (Memᴰ.tail {x = b} h) = let (l, i) = taken_out h in (b ∷ l, there i)

  -- ---- sums

  -- The sum over two joined lists is the sum of their sums.
  pub total-append : (w : A → ℕ) (l m : List A) → total w (l ++ m) ≡ total w l + total w m
  unfolding total
  total-append w [] m = omega arith
  total-append w (a ∷ l) m = omega (arith, total-append w l m)

  -- The sum over several joined lists is the sum of their sums.
  pub total-flatten : (w : A → ℕ) (lists : List (List A)) → total w (flatten lists) ≡ total (total w) lists
  unfolding total flatten
  total-flatten w [] = refl
  total-flatten w (l ∷ lists) = omega (arith, total-append w l (flatten lists), total-flatten w lists)

  -- The sum over a list with an element put in is the weight of that element plus the sum over the list without it.
  pub total_put_in : (w : A → ℕ) {a : A} {l m : List A} → Insert a l m → total w m ≡ w a + total w l
  unfolding total
  total_put_in w here = refl
  total_put_in w (there i) = omega (arith, total_put_in w i)

  -- The sum over a list of two weights added is the sum of the one weight plus the sum of the other.
  pub total-plus : (v w : A → ℕ) (l : List A) → total (λ a. v a + w a) l ≡ total v l + total w l
  unfolding total
  total-plus v w [] = refl
  total-plus v w (a ∷ l) = omega (arith, total-plus v w l)

  -- Where no element weighs more by v than by w, the sum by v is at most the sum by w.
  pub total_monotone : (v w : A → ℕ) (l : List A) → All (λ a. v a ≤ w a) l → total v l ≤ total w l
  unfolding total
  total_monotone v w [] h = le_refl 0
  total_monotone v w (a ∷ l) h = omega (arith, total_monotone v w l h.1)

  -- Where every element has the weight 0, the sum is 0.
  pub total_zero : (w : A → ℕ) (l : List A) → All (λ a. w a ≡ 0) l → total w l ≡ 0
  unfolding total
  total_zero w [] h = refl
  total_zero w (a ∷ l) h = omega (arith, total_zero w l h.1)

-- ---- sums over the elements that pass a test

module _ {A : Type 0} (test : A → Bool) where
  -- An element that passes the test counts with its weight.
  pub weight_if_lem : (w : A → ℕ) (a : A) → test a ≡ true → weight_if test w a ≡ w a
  weight_if_lem w a h = rw h

  -- An element that does not pass the test counts as 0.
  pub weight_unless : (w : A → ℕ) (a : A) → test a ≡ false → weight_if test w a ≡ 0
  weight_unless w a h = rw h

  -- No element counts with more than its weight.
  pub weight_at_most : (w : A → ℕ) (a : A) → weight_if test w a ≤ w a
  weight_at_most w a = by_test (test a) (λ h. omega (arith, weight_if_lem w a h)) (λ h. omega (arith, weight_unless w a h))

  -- Where no element passes the test, the sum over the elements that pass is 0.
  pub none_passes : (w : A → ℕ) (l : List A) → All (λ a. test a ≡ false) l → total (weight_if test w) l ≡ 0
  none_passes w l h = total_zero (weight_if test w) l (all_imply (weight_unless w) l h)

  -- Putting in an element that passes the test adds its weight to the sum over the elements that pass.
  passing_put_in : (w : A → ℕ) {a : A} {l m : List A} → Insert a l m → test a ≡ true → total (weight_if test w) m ≡ w a + total (weight_if test w) l
  passing_put_in w {a = a} i h = omega (arith, total_put_in (weight_if test w) i, weight_if_lem w a h)

  -- Either some element of a list passes the test, or none does.
  pub some_or_none_passes : (l : List A) → ((a : A) × Memᴰ a l × (test a ≡ true)) ⊎ All (λ a. test a ≡ false) l
  some_or_none_passes [] = inr tt
  some_or_none_passes (a ∷ l) = by_test (test a) (λ h. inl (a, Memᴰ.head refl, h))
      (λ h. ⊎_elim (λ found. inl (found.0, Memᴰ.tail found.1, found.2)) (λ none. inr (h, none)) (some_or_none_passes l))

  -- Where the number of elements that pass the test is 0, the sum of any weight over the elements that pass is 0.
  none_counted : (w : A → ℕ) (l : List A) → total (weight_if test (λ _. 1)) l ≡ 0 → total (weight_if test w) l ≡ 0
  none_counted w l none = ⊎_elim
      (λ found. absurd (omega (arith, none, passing_put_in (λ _. 1) (taken_out found.1).1 found.2)))
      (none_passes w l)
      (some_or_none_passes l)

  -- Where at most one element passes the test, the sum over the elements that pass is the weight of any member that passes.
  pub the_only_one : (w : A → ℕ) {a : A} {l : List A} → total (weight_if test (λ _. 1)) l ≤ 1 → Memᴰ a l → test a ≡ true
      → total (weight_if test w) l ≡ w a
  the_only_one w once m h =
      let (rest, i) = taken_out m in
      omega (arith, passing_put_in w i h, none_counted w rest (omega (arith, passing_put_in (λ _. 1) i h)))
