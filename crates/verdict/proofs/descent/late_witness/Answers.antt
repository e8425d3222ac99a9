-- `verdict::descent::late_witness` meets its contract. The least slack of the period after d is used up after k periods, and k is at most d, so that nothing
-- overflows.
use Prim.Native.Nat.{ℕ, ◌+◌, ◌-◌, ◌*◌, ◌≤◌, ◌<◌}
use mathlib.Core.Path.{◌≡◌, sym}
use native.Mathlib.Omega.{arith}
use native.Mathlib.Nat.{mul-le-mul}
use Rattle.theory.specs.Curves.{Curve, FitsUpTo}
use Rattle.theory.specs.Descent.{raised, LeastSlack, SmallestFrom, periods_to_fail}
use Rattle.theory.proofs.Descent.{tightest_fails, fails_soon, late}
use Rattle.table.specs.Limits.{max_d, max_period}
use Rattle.verdict.specs.declared.cycle.Cycle.{Cycle}
use Rattle.verdict.specs.HeldTerms.{max_searched}
use Rattle.verdict.specs.Searched.{held_by}
use Rattle.verdict.proofs.Searches.{found_for_sure}
use Rattle.verdict.proofs.descent.late_witness.Goals as goal

-- A cycle that grows by more than its period, and the least slack of the period after d.
module _ (cycle : Cycle) (grows : cycle.period < cycle.growth) (slack : ℕ) (least : LeastSlack (held_by cycle.terms) (cycle.d + 1) (cycle.d + cycle.period) slack) where
  -- By how much the growth is above the period.
  abbrev over : ℕ
  over = cycle.growth - cycle.period

  -- After so many periods the slack is used up.
  abbrev many : ℕ
  many = periods_to_fail slack over

  -- The growth is the period and that much.
  whole : cycle.period + over ≡ cycle.growth
  whole = omega arith

  -- The demand is a curve that grows by the period and that much.
  steep : Curve (held_by cycle.terms) cycle.d cycle.period (cycle.period + over)
  steep = rw whole cycle.curve

  -- The slack that is used up is at most d, and so is the number of periods.
  soon : (slack + over ≤ cycle.d) × (many * over ≤ cycle.d) × (many ≤ cycle.d)
  soon = fails_soon (held_by cycle.terms) _ cycle.period over slack steep cycle.some_period (omega arith) least

  -- The products of the number of periods with the period and with the growth are within limits.
  products : (many * cycle.period ≤ max_d * max_period) × (many * cycle.growth ≤ max_d * max_searched)
  products =
      let few : many ≤ max_d = omega (arith, soon.2, cycle.most_d) in
      let slow : cycle.growth ≤ max_searched = omega (arith, soon.0, whole, cycle.most_d, cycle.most_period) in
      (mul-le-mul few cycle.most_period, mul-le-mul few slow)

  -- Some length of the period has less to spare than is used up.
  fails : least.tightest < raised (held_by cycle.terms) (many * over) least.tightest
  fails = tightest_fails _ _ _ _ over (omega arith) least

  -- The demand in the smallest of them is at most d + period.
  small : {r : ℕ} → SmallestFrom (raised (held_by cycle.terms) (many * over)) (cycle.d + 1) (cycle.d + cycle.period) r
      → FitsUpTo (held_by cycle.terms) (cycle.d + cycle.period) → held_by cycle.terms r ≤ cycle.d + cycle.period
  small {r} found fits = omega (arith, found.to_hi, fits r (omega (arith, found.from_lo)) found.to_hi)

pub first-requires : goal.first-requires
first-requires c = omega (arith, (soon c.args.cycle.now c.requires.0 _ c.least_slack.ensures).1, c.args.cycle.now.most_d)

pub unwrap-r-requires : goal.unwrap-r-requires
unwrap-r-requires c =
    let least = c.least_slack.ensures in
    found_for_sure _ _ _ _ c.first.ensures least.tightest least.from_lo least.to_hi (fails c.args.cycle.now c.requires.0 _ least)

pub demand-requires : goal.demand-requires
demand-requires c =
    let found = rw c.unwrap-r.ensures at c.first.ensures in omega (arith, found.to_hi, c.args.cycle.now.most_d, c.args.cycle.now.most_period)

pub overflow_add-result-2 : goal.overflow_add-result-2
overflow_add-result-2 c =
    let k = c.args.cycle.now in
    let least = c.least_slack.ensures in
    let found = rw c.unwrap-r.ensures at c.first.ensures in
    omega (arith, products k c.requires.0 _ least, found.to_hi, small k c.requires.0 _ least found c.requires.1, c.demand.ensures, k.most_d, k.most_period)

pub returns : goal.returns
returns c =
    let k = c.args.cycle.now in
    let least = c.least_slack.ensures in
    let found = rw c.unwrap-r.ensures at c.first.ensures in
    let fit : FitsUpTo (held_by k.terms) k.d = λ L one high. c.requires.1 L one (omega arith) in
    let it = late (held_by k.terms) _ _ (over k c.requires.0 _ least) _ c.unwrap-r.result (steep k c.requires.0 _ least) k.some_period (omega arith) fit least found in
    (it.0, rw c.demand.ensures (sym (rw (whole k c.requires.0 _ least) at it.1)))
