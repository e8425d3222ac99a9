-- Definitions about lists that the other files use: a property that every element has, the sum of a weight, the sum over the elements that pass a test, and a
-- list with one more element.
use Rattle.std.specs.Prelude.{ℕ, ◌+◌, Bool, cond, List, [], ◌∷◌}

-- Every element of a list has the property P.
abbrev pub All : {A : Type 0} → (A → Type 0) → List A → Type 0
All P [] = Unit {0}
All P (a ∷ l) = P a × All P l

-- The sum of the weights of a list's elements.
unfoldable pub total : {A : Type 0} → (A → ℕ) → List A → ℕ
total w [] = 0
total w (a ∷ l) = w a + total w l

-- The weight of an element that passes a test, and 0 for any other. So `total (weight_if test w) l` is the sum over the elements of l that pass.
abbrev pub weight_if : {A : Type 0} → (test : A → Bool) → (A → ℕ) → A → ℕ
weight_if test w a = cond (test a) (w a) 0

-- The second list is the first list with the element a put in somewhere. So `Insert a rest l` also says that a stands in l, and that `rest` is what is left of
-- l when a is taken out.
pub data Insert {A : Type 0} (a : A) : List A → List A → Type 0 where
  -- The element is put in at the front.
  here : {l : List A} → Insert a l (a ∷ l)
  -- The element is put in somewhere after the first element.
  there : {b : A} {l m : List A} → Insert a l m → Insert a (b ∷ l) (b ∷ m)
