-- Laws of lists that the proofs about kept due times need: a list seen from its end, and one more element stored in place.
use Prim.Native.Nat.{ℕ, suc, ◌+◌, ◌-◌, ◌≤◌, ◌<◌}
use mathlib.Core.Path.{◌≡◌, sym, ap, ◌∙◌}
use mathlib.Core.List.{List, [], ◌∷◌, ◌++◌, map, reverse, reverse-append}
use native.Mathlib.Numerals.{add-one}
use native.Mathlib.Omega.{arith}
use lib.ListN.{length, take, drop, get_or, set, length-append, length-drop, length-map, length-reverse, take-append-drop}
use lib.Seq.{length-take-le, take_all, take_at, drop-cons, drop-append-le, append_snoc}
use lib.Seq.{set_at}
use Rattle.std.proofs.lemmas.List.{drop-take, drop-map}
use Rattle.theory.proofs.Cases.{by_lt}
use Rattle.due.specs.Kept.{last_ones}

-- ---- a list from its end

module _ {A : Type 0} where
  -- The last n elements are at most n.
  pub last_ones_few : (n : ℕ) (l : List A) → length (last_ones n l) ≤ n
  last_ones_few n l = omega (arith, length-drop (length l - n) l)

  -- If there are at most n elements, the last n are all of them.
  pub last_ones_all : (n : ℕ) (l : List A) → length l ≤ n → last_ones n l ≡ l
  last_ones_all n l h = let none : length l - n ≡ 0 = omega arith in rw none

  -- The first n elements of the reversed list are the last n of the list, reversed.
  pub take-reverse : (n : ℕ) (l : List A) → take n (reverse l) ≡ reverse (last_ones n l)
  take-reverse n l = by_lt n (length l)
      (λ h.
      let m = length l - n in
      ap (λ s. take n (reverse s)) (sym (take-append-drop m l))
      ∙ ap (take n) (reverse-append (take m l) (drop m l))
      ∙ take_at (reverse (drop m l)) (reverse (take m l)) n (omega (arith, length-reverse (drop m l), length-drop m l)))
      (λ h. take_all n (reverse l) (omega (arith, length-reverse l)) ∙ ap reverse (sym (last_ones_all n l h)))

  -- With one more element at the end, the last n are the last n - 1 of those before it, and it.
  pub last_ones_and_one : (n : ℕ) (l : List A) (a : A) → 1 ≤ n → last_ones n (l ++ (a ∷ [])) ≡ last_ones (n - 1) l ++ (a ∷ [])
  last_ones_and_one n l a p =
      let same : length (l ++ (a ∷ [])) - n ≡ length l - (n - 1) = omega (arith, length-append l (a ∷ [])) in
      ap (λ m. drop m (l ++ (a ∷ []))) same ∙ drop-append-le (length l - (n - 1)) l (a ∷ []) (omega arith)

  -- The last m of the first n elements are the m elements from place n - m on.
  pub last_ones-take : (m n : ℕ) (l : List A) → m ≤ n → n ≤ length l → last_ones m (take n l) ≡ take m (drop (n - m) l)
  last_ones-take m n l h k =
      let parts : n ≡ n - m + m = omega arith in
      ap (λ i. drop (i - m) (take n l)) (length-take-le n l k) ∙ ap (λ i. drop (n - m) (take i l)) parts ∙ drop-take (n - m) m l

-- The last n elements of a mapped list are the mapped last n elements.
pub map-last_ones : {A B : Type 0} (f : A → B) (n : ℕ) (l : List A) → map f (last_ones n l) ≡ last_ones n (map f l)
map-last_ones f n l = sym (drop-map f (length l - n) l) ∙ ap (λ m. drop (m - n) (map f l)) (sym (length-map l f))

-- ---- a list from its start

module _ {A : Type 0} where
  -- If a list begins with m, which is i long, then what is stored at place i stands right after m.
  pub stored_behind : (m l : List A) (i : ℕ) (a : A) → length m ≡ i → i < length l → set (m ++ drop i l) i a ≡ m ++ (a ∷ []) ++ drop (i + 1) l
  stored_behind m l i a e h =
      ap (λ r. set (m ++ r) i a) (drop-cons l i a h)
      ∙ set_at m (get_or l i a) (drop (suc i) l) a i e
      ∙ sym (append_snoc m a (drop (suc i) l))
      ∙ rw (← add-one i)
