-- Laws about lists that the crates above share: a list stored in a buffer, an array that is a field, and the first elements of a list.
use Prim.Native.Nat.{ℕ, zero, suc, ◌+◌}
use mathlib.Core.Path.{◌≡◌, refl, sym, ap, ◌∙◌}
use mathlib.Core.List.{List, [], ◌∷◌, ◌++◌, map}
use native.Mathlib.Omega.{arith}
use lib.ListN.{length, take, length-map}
use lib.Seq.{sets}

-- Storing two lists one behind the other is the same as storing the list that joins them.
pub sets-append : (s t l : List ℕ) (i : ℕ) → sets l i (s ++ t) ≡ sets (sets l i s) (i + length s) t
sets-append [] t l i = ap (λ (k : ℕ). sets l k t) (omega arith)
sets-append (v ∷ s) t l i = sets-append s t _ (suc i) ∙ ap (λ (k : ℕ). sets (sets l i (v ∷ s)) k t) (omega arith)

-- Where a mapped list has n elements, so has the list itself. It serves for an array of structs that is a field of another struct.
pub length_mapped : {A B : Type 0} (f : A → B) (l : List A) (n : ℕ) → length (map f l) ≡ n → length l ≡ n
length_mapped f l n h = sym (length-map l f) ∙ h

-- Let k be the length of the first n elements of a list, which may have fewer than n. Then its first k elements are its first n.
pub take_as_many : {A : Type 0} (n : ℕ) (l : List A) → take (length (take n l)) l ≡ take n l
take_as_many zero l = refl
take_as_many (suc n) [] = refl
take_as_many (suc n) (a ∷ l) = ap (◌∷◌ a) (take_as_many n l)
