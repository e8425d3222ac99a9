-- `verdict::lifts::lowered` meets its contract: what is left out repeats itself every `turn`, so that the lengths below d + turn stand for all.
use native.Mathlib.Omega.{arith}
use Rattle.verdict.proofs.HeldParts.{made_in_parts}
use Rattle.verdict.proofs.LowerLines.{lower_line_above, lower_in_parts}
use Rattle.verdict.proofs.lifts.lowered.Goals as goal

pub least_lift-part-requires : goal.least_lift-part-requires
least_lift-part-requires c =
    let k = c.args.cycle.now in
    let is = c.part_of.ensures in
    (omega (arith, k.most_d, k.most_period), rw is.is_period (made_in_parts k.terms.held k.repeats c.args.way.step k.curve is).rest_below)

pub returns-then-repeats_every : goal.returns-then-repeats_every
returns-then-repeats_every c =
    let k = c.args.cycle.now in
    let part = c.part_of.new.part in
    let is = c.part_of.ensures in
    let above = lower_line_above k.terms.held k.repeats c.args.way.step _ part.terms.entries part.terms.count _
    (c.repeats_every.ensures c.if-repeats_every.true) (omega (arith, c.if-turn-ge1.true)) is.demands is.is_slope (rw is.is_period at c.least_lift-part.ensures) in (
      record {
        is_period = is.is_period;
        is_extra = is.is_extra;
        in_parts = rw is.is_period (lower_in_parts _ (made_in_parts k.terms.held k.repeats c.args.way.step k.curve is) above);
      },
      is.demands,
      is.is_slope,
      omega (arith, is.is_lift, c.least_lift-part.ensures.at_most),
    )

pub returns-in_default : goal.returns-in_default
returns-in_default c =
    let k = c.args.cycle.now in
    let is = c.part_of.ensures in (
      record {
        is_period = is.is_period;
        is_extra = is.is_extra;
        in_parts = rw is.is_period (made_in_parts k.terms.held k.repeats c.args.way.step k.curve is);
      },
      is.demands,
      is.is_slope,
      omega (arith, is.is_lift),
    )
