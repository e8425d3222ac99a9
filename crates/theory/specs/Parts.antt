-- Parts of the demand. A period P that divides H may be much shorter than H. The terms whose b divides P repeat themselves every P, and together they are the
-- part for P. The other terms are left out of the part, and a straight line stands above them instead. So the part and the line are together never below the
-- demand, and they are known for every length from their heights in one P. (docs/RULES.md, 5.3 and 5.7.)
use Rattle.std.specs.Prelude.{ℕ, ◌+◌, ◌-◌, ◌*◌, ◌/◌, ◌%◌, ◌≤◌, ◌≡◌, cond, List, eqb}
use Rattle.std.specs.Int.{◌∣◌}
use Rattle.theory.specs.Lists.{All, total}
use Rattle.theory.specs.Curves.{Curve, sum_over}
use Rattle.theory.specs.Descent.{NeverFalls}
use Rattle.theory.specs.Demand.{row_demand, row_growth}
use Rattle.theory.specs.Servers.{server_demand, server_growth}
use Rattle.theory.specs.Ticks.{timer_takes}
use Rattle.theory.specs.Terms.{term_demand}
use Rattle.theory.specs.TermCurves.{term_growth}
use Rattle.theory.specs.Lines.{line_at, BelowLine}

-- The function f, which grows by `growth` in H, has a part that repeats itself every P from its start on, and the rest of f is below a line. The growth is what
-- the part grows by in H, which is H/P times what it grows by in P, and the line's slope.
pub record InParts (f part : ℕ → ℕ) (start P H growth slope lift : ℕ) : Type 0 where
  pub part_growth : ℕ
  pub repeats : (L : ℕ) → start ≤ L → part (L + P) ≡ part L + part_growth
  pub rest_below : (L : ℕ) → H * f L ≤ H * part L + (slope * L + lift)
  pub in_proportion : growth * P ≡ part_growth * H + slope * P

-- The amount n where b divides P, and otherwise 0. It is the weight, or the s of a timer, with which a term is taken into the part.
abbrev pub taken_into_part : (P b n : ℕ) → ℕ
taken_into_part P b n = cond (eqb (P % b) 0) n 0

-- The amount n where b does not divide P, and otherwise 0. It is what a term that is left out of the part adds to the slope or to the lift.
abbrev pub left_out_of_part : (P b n : ℕ) → ℕ
left_out_of_part P b n = cond (eqb (P % b) 0) 0 n

-- The part in a length L and the rounded height of the line there.
abbrev pub part_and_line : (part : ℕ → ℕ) (H slope lift L : ℕ) → ℕ
part_and_line part H slope lift L = part L + line_at H slope lift L

-- ---- what is proved about parts (proofs/Parts.antt)

-- A sum of a curve with period P and of a rest below a line is in parts.
abbrev pub CurveAndRest : Type 0
CurveAndRest = (f part rest : ℕ → ℕ) (start P H part_growth growth slope lift : ℕ) → ((L : ℕ) → f L ≡ part L + rest L)
    → Curve part start P part_growth → BelowLine rest H slope lift → growth * P ≡ part_growth * H + slope * P
    → InParts f part start P H growth slope lift

-- A sum of a curve with period P and of a rest below a line is in parts where P divides H and the growth is H/P times the curve's growth and the slope.
abbrev pub CurveAndRestByPeriods : Type 0
CurveAndRestByPeriods = (f part rest : ℕ → ℕ) (start P H part_growth growth slope lift : ℕ) → P ∣ H → ((L : ℕ) → f L ≡ part L + rest L)
    → Curve part start P part_growth → BelowLine rest H slope lift → growth ≡ H / P * part_growth + slope → InParts f part start P H growth slope lift

-- A curve with period P can be the part, with no rest. A line with slope 0 and lift 0 is above it.
abbrev pub CurveTakenIn : Type 0
CurveTakenIn = (f part : ℕ → ℕ) (start P H part_growth growth : ℕ) → ((L : ℕ) → f L ≡ part L) → Curve f start P part_growth
    → growth * P ≡ part_growth * H → InParts f part start P H growth 0 0

-- A function below a line whose slope is its growth can be the rest, with 0 as the part.
abbrev pub LineLeftOut : Type 0
LineLeftOut = (f part : ℕ → ℕ) (start P H growth lift : ℕ) → ((L : ℕ) → part L ≡ 0) → BelowLine f H growth lift
    → InParts f part start P H growth growth lift

-- A term whose b divides P can be taken in.
abbrev pub TermTakenIn : Type 0
TermTakenIn = (b a w up down start P H : ℕ) → 1 ≤ b → down ≤ start + up → b ∣ P → b ∣ H
    → InParts (term_demand b a w up down) (term_demand b a w up down) start P H (term_growth b a w H) 0 0

-- Any term can be left out: in the part its weight is 0.
abbrev pub TermLeftOut : Type 0
TermLeftOut = (b a w up down start P H : ℕ) → b ∣ H
    → InParts (term_demand b a w up down) (term_demand b a 0 up down) start P H (term_growth b a w H) (term_growth b a w H) (term_growth b a w H * up)

-- A row whose y divides P can be taken in, where the start is d or later.
abbrev pub RowTakenIn : Type 0
RowTakenIn = (x y d c start P H : ℕ) → 1 ≤ y → d ≤ start → y ∣ P → y ∣ H
    → InParts (row_demand x y d c) (row_demand x y d c) start P H (row_growth x y c H) 0 0

-- Any row can be left out.
abbrev pub RowLeftOut : Type 0
RowLeftOut = (x y d c start P H : ℕ) → 1 ≤ y → y ∣ H
    → InParts (row_demand x y d c) (λ L. 0) start P H (row_growth x y c H) (row_growth x y c H) (row_growth x y c H * (y - d))

-- A server whose b divides P can be taken in.
abbrev pub ServerTakenIn : Type 0
ServerTakenIn = (a b start P H : ℕ) → 1 ≤ b → b ∣ P → b ∣ H → InParts (server_demand a b) (server_demand a b) start P H (server_growth a b H) 0 0

-- Any server can be left out.
abbrev pub ServerLeftOut : Type 0
ServerLeftOut = (a b start P H : ℕ) → b ∣ H → InParts (server_demand a b) (λ L. 0) start P H (server_growth a b H) (server_growth a b H) 0

-- A timer whose p divides P can be taken in.
abbrev pub TimerTakenIn : Type 0
TimerTakenIn = (s p start P H : ℕ) → 1 ≤ p → s ≤ p → p ∣ P → p ∣ H → InParts (timer_takes s p) (timer_takes s p) start P H (s * (H / p)) 0 0

-- Any timer can be left out: in the part its s is 0.
abbrev pub TimerLeftOut : Type 0
TimerLeftOut = (s p start P H : ℕ) → 1 ≤ p → s ≤ p → p ∣ H
    → InParts (timer_takes s p) (timer_takes 0 p) start P H (s * (H / p)) (s * (H / p)) (s * (H / p) * (p - s))

-- Every term is in parts: it is taken in where b divides P, and otherwise left out.
abbrev pub TermInParts : Type 0
TermInParts = (b a w up down start P H : ℕ) → 1 ≤ b → down ≤ start + up → b ∣ H
    → InParts (term_demand b a w up down) (term_demand b a (taken_into_part P b w) up down) start P H
    (term_growth b a w H) (left_out_of_part P b (term_growth b a w H)) (left_out_of_part P b (term_growth b a w H * up))

-- Every timer is in parts: it is taken in where p divides P, and otherwise left out.
abbrev pub TimerInParts : Type 0
TimerInParts = (s p start P H : ℕ) → 1 ≤ p → s ≤ p → p ∣ H
    → InParts (timer_takes s p) (timer_takes (taken_into_part P p s) p) start P H
    (s * (H / p)) (left_out_of_part P p (s * (H / p))) (left_out_of_part P p (s * (H / p) * (p - s)))

-- A sum of two functions in parts is in parts: the parts, the growths, the slopes and the lifts add up.
abbrev pub TwoInParts : Type 0
TwoInParts = (f g part part' : ℕ → ℕ) (start P H growth slope lift growth' slope' lift' : ℕ)
    → InParts f part start P H growth slope lift → InParts g part' start P H growth' slope' lift'
    → InParts (λ L. f L + g L) (λ L. part L + part' L) start P H (growth + growth') (slope + slope') (lift + lift')

-- A sum over a list of functions in parts is in parts.
abbrev pub SumsInParts : Type 1
SumsInParts = (A : Type 0) (f part : A → ℕ → ℕ) (growth slope lift : A → ℕ) (start P H : ℕ) (l : List A)
    → All (λ a. InParts (f a) (part a) start P H (growth a) (slope a) (lift a)) l
    → InParts (sum_over f l) (sum_over part l) start P H (total growth l) (total slope l) (total lift l)

-- Where the part never falls, neither do the part and the line together.
abbrev pub PartAndLineNeverFall : Type 0
PartAndLineNeverFall = (part : ℕ → ℕ) (H slope lift : ℕ) → 1 ≤ H → NeverFalls part → NeverFalls (part_and_line part H slope lift)

-- A function in parts is never above its part and its line together.
abbrev pub AtMostPartAndLine : Type 0
AtMostPartAndLine = (f part : ℕ → ℕ) (start P H growth slope lift L : ℕ) → 1 ≤ H → InParts f part start P H growth slope lift
    → f L ≤ part_and_line part H slope lift L
