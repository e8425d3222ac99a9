-- Straight lines above the demand. A line has a slope and a lift, both in parts of 1/H. In a length L its height is (slope · L + lift)/H. The demand of a row,
-- of a server and of a timer is never above a line whose slope is its growth in H. A sum of them is never above the sum of their lines.
-- (docs/RULES.md, 5.1, 5.3, 5.7 and 5.16.)
use Rattle.std.specs.Prelude.{ℕ, ◌+◌, ◌-◌, ◌*◌, ◌/◌, ◌≤◌, List}
use Rattle.std.specs.Int.{◌∣◌}
use Rattle.theory.specs.Lists.{All, total}
use Rattle.theory.specs.Curves.{sum_over}
use Rattle.theory.specs.Descent.{NeverFalls}
use Rattle.theory.specs.Demand.{row_demand, row_growth}
use Rattle.theory.specs.Servers.{server_demand, server_growth}
use Rattle.theory.specs.Ticks.{timer_takes}
use Rattle.theory.specs.Terms.{term_demand}
use Rattle.theory.specs.TermCurves.{term_growth}

-- The height of a line in a length L, rounded down.
unfoldable pub line_at : (H slope lift L : ℕ) → ℕ
line_at H slope lift L = (slope * L + lift) / H

-- The function f is never above the line: H · f(L) ≤ slope · L + lift in every length L.
abbrev pub BelowLine : (f : ℕ → ℕ) (H slope lift : ℕ) → Type 0
BelowLine f H slope lift = (L : ℕ) → H * f L ≤ slope * L + lift

-- ---- what is proved about lines (proofs/Lines.antt)

-- A term is below the line whose slope is its growth and whose lift is its growth times up.
abbrev pub TermBelowItsLine : Type 0
TermBelowItsLine = (b a w up down H L : ℕ) → b ∣ H → H * term_demand b a w up down L ≤ term_growth b a w H * (L + up)

-- A row is below the line whose slope is its growth and whose lift is its growth times max(y − d, 0).
abbrev pub RowBelowItsLine : Type 0
RowBelowItsLine = (x y d c H L : ℕ) → 1 ≤ y → y ∣ H → H * row_demand x y d c L ≤ row_growth x y c H * (L + (y - d))

-- A server is below the line whose slope is its growth and which has no lift.
abbrev pub ServerBelowItsLine : Type 0
ServerBelowItsLine = (a b H L : ℕ) → b ∣ H → H * server_demand a b L ≤ server_growth a b H * L

-- A timer is below the line whose slope is its growth and whose lift is its growth times p − s.
abbrev pub TimerBelowItsLine : Type 0
TimerBelowItsLine = (s p H L : ℕ) → 1 ≤ p → s ≤ p → p ∣ H → H * timer_takes s p L ≤ s * (H / p) * (L + (p - s))

-- A term is below its line. Here the slope and the lift are apart.
abbrev pub TermHasALine : Type 0
TermHasALine = (b a w up down H : ℕ) → b ∣ H → BelowLine (term_demand b a w up down) H (term_growth b a w H) (term_growth b a w H * up)

-- A row is below its line. Here the slope and the lift are apart.
abbrev pub RowHasALine : Type 0
RowHasALine = (x y d c H : ℕ) → 1 ≤ y → y ∣ H → BelowLine (row_demand x y d c) H (row_growth x y c H) (row_growth x y c H * (y - d))

-- A server is below its line, which has no lift.
abbrev pub ServerHasALine : Type 0
ServerHasALine = (a b H : ℕ) → b ∣ H → BelowLine (server_demand a b) H (server_growth a b H) 0

-- A timer is below its line. Here the slope and the lift are apart.
abbrev pub TimerHasALine : Type 0
TimerHasALine = (s p H : ℕ) → 1 ≤ p → s ≤ p → p ∣ H → BelowLine (timer_takes s p) H (s * (H / p)) (s * (H / p) * (p - s))

-- The function that is 0 in every length is below every line.
abbrev pub NothingIsBelowLines : Type 0
NothingIsBelowLines = (H slope lift : ℕ) → BelowLine (λ L. 0) H slope lift

-- A sum of two functions is below the sum of their lines.
abbrev pub TwoBelowLines : Type 0
TwoBelowLines = (f g : ℕ → ℕ) (H slope lift slope' lift' : ℕ) → BelowLine f H slope lift → BelowLine g H slope' lift'
    → BelowLine (λ L. f L + g L) H (slope + slope') (lift + lift')

-- A sum over a list is below the line with the sum of the slopes and the sum of the lifts.
abbrev pub SumsBelowLines : Type 1
SumsBelowLines = (A : Type 0) (f : A → ℕ → ℕ) (slope lift : A → ℕ) (H : ℕ) (l : List A)
    → All (λ a. BelowLine (f a) H (slope a) (lift a)) l → BelowLine (sum_over f l) H (total slope l) (total lift l)

-- The rounded height of a line never falls.
abbrev pub LinesNeverFall : Type 0
LinesNeverFall = (H slope lift : ℕ) → 1 ≤ H → NeverFalls (line_at H slope lift)

-- A function below a line is at most the line's rounded height in every length.
abbrev pub BelowTheRoundedLine : Type 0
BelowTheRoundedLine = (f : ℕ → ℕ) (H slope lift L : ℕ) → 1 ≤ H → BelowLine f H slope lift → f L ≤ line_at H slope lift L
