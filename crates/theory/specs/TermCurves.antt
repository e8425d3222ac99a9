-- Terms are curves. A term's demand never falls, and in a period that its b divides it grows by period/b · a · w. The terms of rows and servers grow as the
-- rows and servers do. (docs/RULES.md, 5.7.)
use Rattle.std.specs.Prelude.{ℕ, ◌+◌, ◌*◌, ◌/◌, ◌≤◌, ◌≡◌}
use Rattle.std.specs.Int.{◌∣◌}
use Rattle.theory.specs.Curves.{Curve}
use Rattle.theory.specs.Descent.{NeverFalls}
use Rattle.theory.specs.Demand.{row_growth}
use Rattle.theory.specs.Servers.{server_growth}
use Rattle.theory.specs.Terms.{term_demand}

-- In a period that b divides, the demand of a term grows by (period/b) · a · w. (5.7)
unfoldable pub term_growth : (b a w period : ℕ) → ℕ
term_growth b a w period = period / b * a * w

-- ---- what is proved (proofs/TermCurves.antt)

-- A row's term grows in a period as the row does. (5.7)
abbrev pub RowTermGrows : Type 0
RowTermGrows = (x y c period : ℕ) → term_growth y 1 (x * c) period ≡ row_growth x y c period

-- A server's term grows in a period as the server does. (5.7)
abbrev pub ServerTermGrows : Type 0
ServerTermGrows = (a b period : ℕ) → term_growth b a 1 period ≡ server_growth a b period

-- The demand of a term with the weight 0 is 0.
abbrev pub NoDemandWithoutWeight : Type 0
NoDemandWithoutWeight = (b a up down L : ℕ) → term_demand b a 0 up down L ≡ 0

-- The demand of a term never falls.
abbrev pub TermNeverFalls : Type 0
TermNeverFalls = (b a w up down : ℕ) → 1 ≤ b → NeverFalls (term_demand b a w up down)

-- The demand of a term is a curve with any start at or after down − up. Any multiple of b may be its period.
abbrev pub TermIsACurve : Type 0
TermIsACurve = (b a w up down start period : ℕ) → 1 ≤ b → down ≤ start + up → b ∣ period
    → Curve (term_demand b a w up down) start period (term_growth b a w period)

-- The growths of a term in two periods that b divides are in the proportion of these periods.
abbrev pub TermGrowsInProportion : Type 0
TermGrowsInProportion = (b a w period other : ℕ) → b ∣ period → b ∣ other → term_growth b a w period * other ≡ term_growth b a w other * period
