-- Laws about properties that each element of a list has.
use Prim.Native.Nat.{ℕ, zero, suc, ◌<◌}
use native.Mathlib.Omega.{arith}
use mathlib.Core.Path.{refl}
use mathlib.Core.Logic.{⊎_elim}
use mathlib.Core.List.Memᴰ
use mathlib.Core.List.{List, [], ◌∷◌, map}
use mathlib.Core.List.{Memᴰ}
use lib.ListN.{length, take, get_or}

-- Each element has P.
abbrev pub Each : {A : Type 0} (P : A → Type 0) → List A → Type 0
Each {A} P l = (a : A) → Memᴰ a l → P a

-- The element at a place of a list is a member of the list.
pub stands_in : {A : Type 0} (l : List A) (i : ℕ) (d : A) → i < length l → Memᴰ (get_or l i d) l
stands_in [] i d h = absurd (omega arith)
stands_in (a ∷ l) zero d h = Memᴰ.head refl
stands_in (a ∷ l) (suc i) d h = Memᴰ.tail (stands_in l i d (omega arith))

module _ {A : Type 0} {P : A → Type 0} {a : A} {l : List A} where
  -- Where an element has the property and each element of a list has it, each element of the list with that element in front has it.
  pub Each-cons : P a → Each P l → Each P (a ∷ l)
  Each-cons p h = λ b m. ⊎_elim (λ e. rw e p) (h b) (Memᴰ.cases_cons m)

  -- Where each element of a list has the property, the first element has it.
  pub each_head : Each P (a ∷ l) → P a
  each_head h = h a (Memᴰ.head refl)

  -- Where each element of a list has the property, each element after the first has it.
  pub each_tail : Each P (a ∷ l) → Each P l
  each_tail h = λ b m. h b (Memᴰ.tail m)

module _ {A : Type 0} (P : A → Type 0) where
  -- Each element of the empty list has the property.
  pub each_none : Each P []
  each_none a m = absurd (Memᴰ.not-nil m)

  -- Where the element at each place below n has the property, each of the first n elements has it.
  pub each_taken : (n : ℕ) (l : List A) (none : A) → ((i : ℕ) → i < n → P (get_or l i none)) → Each P (take n l)
  each_taken zero l none h = each_none
  each_taken (suc n) [] none h = each_none
  each_taken (suc n) (a ∷ l) none h = Each-cons (h 0 (omega arith)) (each_taken n l none (λ i k. h (suc i) (omega arith)))

  -- Where f of each element of a list has the property, each element of the list mapped by f has it.
  pub each_mapped : {B : Type 0} (f : B → A) (l : List B) → Each (λ b. P (f b)) l → Each P (map f l)
  each_mapped f l h = λ a m. let o = Memᴰ.of_map f l m in rw (← o.2) (h o.0 o.1)
