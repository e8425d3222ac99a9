-- A row's demand. A row expects x jobs in any y ticks, each due d ticks after its release and costing at most c. In a length of L ticks only a limited number
-- of its jobs can be both released and due. The row's demand in L is what that many jobs cost. (docs/RULES.md, section 5; the paper, Lemma 4.1.)
use Rattle.std.specs.Prelude.{ℕ, ◌+◌, ◌-◌, ◌*◌, ◌/◌, ◌≤◌, ◌<◌, ◌≡◌, cond, ltb}
use Rattle.std.specs.Int.{◌∣◌}
use Rattle.theory.specs.Curves.{Curve}

-- How many jobs of a row can be both released and due in L ticks: none if L < d, and otherwise (floor((L − d)/y) + 1) · x. (5.1, 5.10)
unfoldable pub row_jobs : (x y d L : ℕ) → ℕ
row_jobs x y d L = cond (ltb L d) 0 (((L - d) / y + 1) * x)

-- A row's demand in a length L: 0 if L < d, and otherwise (floor((L − d)/y) + 1) · x · c. (5.1)
unfoldable pub row_demand : (x y d c L : ℕ) → ℕ
row_demand x y d c L = row_jobs x y d L * c

-- How much a row's demand grows over a period that is a multiple of y: x · c · (period/y). (5.7)
unfoldable pub row_growth : (x y c period : ℕ) → ℕ
row_growth x y c period = period / y * (x * c)

-- ---- what is proved about it (proofs/Demand.antt)

-- In a length below d no job of a row can be both released and due. (5.1)
abbrev pub NoJobsBelowD : Type 0
NoJobsBelowD = (x y d L : ℕ) → L < d → row_jobs x y d L ≡ 0

-- In a length L of d or more, the number of a row's jobs that can be both released and due is (floor((L − d)/y) + 1) · x. (That no more of them can be is
-- `JobsInAWindow`.) (5.1, 5.10)
abbrev pub JobsFromD : Type 0
JobsFromD = (x y d L : ℕ) → d ≤ L → row_jobs x y d L ≡ ((L - d) / y + 1) * x

-- In a length below d a row's demand is 0. (5.1)
abbrev pub NoDemandBelowD : Type 0
NoDemandBelowD = (x y d c L : ℕ) → L < d → row_demand x y d c L ≡ 0

-- In a length L of d or more a row's demand is (floor((L − d)/y) + 1) · x · c. (5.1)
abbrev pub DemandFromD : Type 0
DemandFromD = (x y d c L : ℕ) → d ≤ L → row_demand x y d c L ≡ ((L - d) / y + 1) * x * c

-- A row's demand in a longer time is no smaller.
abbrev pub DemandIsMonotone : Type 0
DemandIsMonotone = (x y d c L M : ℕ) → 1 ≤ y → L ≤ M → row_demand x y d c L ≤ row_demand x y d c M

-- A row's demand is a curve that starts at d, and any multiple of y may be its period.
abbrev pub RowsAreCurves : Type 0
RowsAreCurves = (x y d c period : ℕ) → 1 ≤ y → y ∣ period → Curve (row_demand x y d c) d period (row_growth x y c period)
