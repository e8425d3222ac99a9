-- Classes of lengths. The lengths from start + 1 to start + H fall into P classes. The lengths of a class are P apart, and its first length is one of start + 1
-- to start + P. Let f be the sum of a part that repeats itself every P and of a rest below a straight line. Then one look at a class's first length c can show
-- that all lengths of the class fit. It is enough that the part in c, the height of the line in c and K are together at most c, where K is at least the
-- amount by which the growth of f in H is above H.
use Rattle.std.specs.Prelude.{ℕ, ◌+◌, ◌-◌, ◌*◌, ◌/◌, ◌%◌, ◌≤◌, ◌<◌, ◌≡◌}
use Rattle.theory.specs.Descent.{FitsBetween, SmallestFrom}
use Rattle.theory.specs.Lines.{BelowLine}
use Rattle.theory.specs.Parts.{InParts, part_and_line}

-- The first length of the class of L: start + 1 + (L − start − 1) mod P.
abbrev pub class_of : (start P L : ℕ) → ℕ
class_of start P L = start + 1 + (L - (start + 1)) % P

-- How many lengths of its class come before L, from start + 1 on.
abbrev pub turn_of : (start P L : ℕ) → ℕ
turn_of start P L = (L - (start + 1)) / P

-- L is in the class of c, and k lengths of the class come before it.
pub record InClass (start P H c k L : ℕ) : Type 0 where
  pub here : L ≡ c + k * P
  pub above : start < c
  pub at_most : c ≤ start + P
  pub turns : k * P < H

-- Every length from start + 1 to start + H that is below `best` and in a class above `top` fits.
abbrev pub SettledAbove : (f : ℕ → ℕ) (start P H top best : ℕ) → Type 0
SettledAbove f start P H top best = (L : ℕ) → start < L → L ≤ start + H → L < best → top < class_of start P L → f L ≤ L

-- The length `now` is in the class of c, and those lengths of the class that come before it and are below `best` fit.
pub record Walked (f : ℕ → ℕ) (P c now best : ℕ) : Type 0 where
  pub turn : ℕ
  pub here : now ≡ c + turn * P
  pub fit : (k : ℕ) → k < turn → c + k * P < best → f (c + k * P) ≤ c + k * P

-- ---- what is proved about classes (proofs/Classes.antt)

-- Where the part in c, the line in c and K are together at most c, each length c + k · P with k · P ≤ H fits.
abbrev pub ClassFits : Type 0
ClassFits = (f part : ℕ → ℕ) (start P H growth slope lift K c k : ℕ) → InParts f part start P H growth slope lift → 1 ≤ H → growth ≤ H + K
    → start ≤ c → part_and_line part H slope lift c + K ≤ c → k * P ≤ H → f (c + k * P) ≤ c + k * P

-- Let f be the sum of a part that repeats itself every P and of a rest below a line. Where the part in c, the line in c and K are together at most c, each
-- length c + k · P with k · P ≤ H fits. This is `ClassFits` with every hypothesis written out.
abbrev pub ClassOfASumFits : Type 0
ClassOfASumFits = (f part rest : ℕ → ℕ) (start P H part_growth growth slope lift K c k : ℕ) → ((L : ℕ) → f L ≡ part L + rest L)
    → ((L : ℕ) → start ≤ L → part (L + P) ≡ part L + part_growth) → ((L : ℕ) → H * rest L ≤ slope * L + lift)
    → growth * P ≡ part_growth * H + slope * P → 1 ≤ H → growth ≤ H + K → start ≤ c → part c + (slope * c + lift) / H + K ≤ c → k * P ≤ H
    → f (c + k * P) ≤ c + k * P

-- Where a function is below a line whose slope is at most H and whose lift is below H, every length fits.
abbrev pub FitsBelowItsLine : Type 0
FitsBelowItsLine = (f : ℕ → ℕ) (H slope lift L : ℕ) → BelowLine f H slope lift → slope ≤ H → lift < H → f L ≤ L

-- Each length L from start + 1 to start + H is in the class of `class_of start P L`.
abbrev pub EachInItsClass : Type 0
EachInItsClass = (start P H L : ℕ) → 1 ≤ P → start < L → L ≤ start + H → InClass start P H (class_of start P L) (turn_of start P L) L

-- A length is in one class only: where c is one of start + 1 to start + P, the class of c + k · P is that of c.
abbrev pub OneClassOnly : Type 0
OneClassOnly = (start P c k : ℕ) → start < c → c ≤ start + P → class_of start P (c + k * P) ≡ c

-- No class is above start + P, so that nothing has to be settled above it.
abbrev pub NothingToSettle : Type 0
NothingToSettle = (f : ℕ → ℕ) (start P H best : ℕ) → 1 ≤ P → SettledAbove f start P H (start + P) best

-- Where the look at c shows that its class fits, for each c from x + 1 to top, what is settled above top is settled above x.
abbrev pub SettledByLooks : Type 0
SettledByLooks = (f part : ℕ → ℕ) (start P H growth slope lift K x top best : ℕ) → InParts f part start P H growth slope lift → 1 ≤ H → 1 ≤ P
    → growth ≤ H + K → ((c : ℕ) → start < c → x < c → c ≤ top → part_and_line part H slope lift c + K ≤ c)
    → SettledAbove f start P H top best → SettledAbove f start P H x best

-- Where the lengths of the class of x that are below `sooner` fit, what is settled above x is settled above x − 1, for the lengths below `sooner`.
abbrev pub SettledByAWalk : Type 0
SettledByAWalk = (f : ℕ → ℕ) (start P H x best sooner : ℕ) → 1 ≤ P → sooner ≤ best
    → ((k : ℕ) → x + k * P < sooner → f (x + k * P) ≤ x + k * P)
    → SettledAbove f start P H x best → SettledAbove f start P H (x - 1) sooner

-- What is settled above the start is settled for all lengths from start + 1 to start + H that are below `best`.
abbrev pub AllSettled : Type 0
AllSettled = (f : ℕ → ℕ) (start P H best L : ℕ) → SettledAbove f start P H start best → start < L → L ≤ start + H → L < best → f L ≤ L

-- Where no failing length was found, and so `best` is still above start + H, all lengths from start + 1 to start + H fit.
abbrev pub NoneFound : Type 0
NoneFound = (f : ℕ → ℕ) (start P H best : ℕ) → SettledAbove f start P H start best → start + H < best → FitsBetween f (start + 1) (start + H)

-- Where `best` is a failing length from start + 1 to start + H, it is the smallest of them.
abbrev pub BestIsSmallest : Type 0
BestIsSmallest = (f : ℕ → ℕ) (start P H best : ℕ) → SettledAbove f start P H start best → start < best → best ≤ start + H → best < f best
    → SmallestFrom f (start + 1) (start + H) best

-- A walk along a class starts at c.
abbrev pub WalkStarts : Type 0
WalkStarts = (f : ℕ → ℕ) (P c best : ℕ) → Walked f P c c best

-- Where `now` fits, the walk goes on to now + P.
abbrev pub WalkGoesOn : Type 0
WalkGoesOn = (f : ℕ → ℕ) (P c now best : ℕ) → Walked f P c now best → f now ≤ now → Walked f P c (now + P) best

-- Where `now` is at most `best`, it can take the place of `best`, and the walk goes on to now + P.
abbrev pub WalkFinds : Type 0
WalkFinds = (f : ℕ → ℕ) (P c now best : ℕ) → Walked f P c now best → now ≤ best → Walked f P c (now + P) now

-- Where a walk has come to `best` or beyond it, all lengths of the class that are below `best` fit.
abbrev pub WalkEnds : Type 0
WalkEnds = (f : ℕ → ℕ) (P c now best : ℕ) → Walked f P c now best → best ≤ now → (k : ℕ) → c + k * P < best → f (c + k * P) ≤ c + k * P
