-- `replay::play` meets its contract. Each record before the script's end stops the play, or the play on arrays goes on after it. At the end come the final
-- ticks.
use native.Mathlib.Omega.{arith}
use mathlib.Core.Path.{refl, sym, ◌∙◌}
use lib.Seq.{length-take-le}
use Rattle.std.proofs.lemmas.Result.{err_from_is_err_and}
use Rattle.run.proofs.Ticking.{facts}
use Rattle.replay.specs.Arrays.{SourceOf}
use Rattle.replay.proofs.Replaying.{plays_first, limits_within, log_as_long, plays_in_bounds}
use Rattle.replay.proofs.Replaying.{plays_refused, plays_ready, row_in_table, server_in_table, of_row, of_server, source_in_range, can_go, later_place}
use Rattle.replay.proofs.Replaying.{plays_stopped, plays_next}
use Rattle.replay.proofs.Replaying.{plays_too_long, plays_whole, stopped_ends, full_ends, fit_ends}
use Rattle.replay.proofs.play.Goals as goal
use Rattle.replay.proofs.play.Goals.{else-number-table, then-number-table}

pub overflow_add-in_use : goal.overflow_add-in_use
overflow_add-in_use c = let known = facts _ c.requires in omega (arith, known.few_rows, known.few_servers)

pub loop-at-init : goal.loop-at-init
loop-at-init c = rw (c.empty.ensures, c.empty-2.ensures) (plays_first c.args.script.now c.args.table c.args.log.now c.requires)

pub slice_bounds-limits-end : goal.slice_bounds-limits-end
slice_bounds-limits-end c = limits_within c.loop-at.invariant c.cost_limits-limits.ensures

pub slice_bounds-ready_at-end : goal.slice_bounds-ready_at-end
slice_bounds-ready_at-end c = sym (length-take-le _ c.cost_limits-limits.result (limits_within c.loop-at.invariant c.cost_limits-limits.ensures))

pub returns-in_err-ready : goal.returns-in_err-ready
returns-in_err-ready c =
    let a = c.args in
    let p = err_from_is_err_and c.from_residual.result c.from_residual.ensures.1 in
    rw (p.1, p.2)
    (stopped_ends a.script.now a.table a.log.now c.loop-at.log (log_as_long c.loop-at.invariant) _
    (plays_refused c.loop-at.invariant c.loop-at-test.true refl c.cost_limits-limits.ensures c.ready_at.ensures c.in_err-ready.was))

pub bounds-table-number : goal.bounds-table-number
bounds-table-number c =
    row_in_table c.loop-at.invariant
    (plays_ready c.loop-at.invariant c.loop-at-test.true refl c.cost_limits-limits.ensures c.ready_at.ensures c.in_ok-ready.was) c.if-number-table.true

pub offset_bounds-table-number : goal.offset_bounds-table-number
offset_bounds-table-number c = omega (arith, bounds-table-number c)

pub bounds-table-place : goal.bounds-table-place
bounds-table-place c =
    server_in_table c.loop-at.invariant
    (plays_ready c.loop-at.invariant c.loop-at-test.true refl c.cost_limits-limits.ensures c.ready_at.ensures c.in_ok-ready.was)

pub offset_bounds-table-place : goal.offset_bounds-table-place
offset_bounds-table-place c = omega (arith, bounds-table-place c)

pub invariant_of-timer : goal.invariant_of-timer
invariant_of-timer c = record { good = (facts _ c.requires).good_timer }

pub play_record-requires : goal.play_record-requires
play_record-requires c =
    let asks = plays_ready c.loop-at.invariant c.loop-at-test.true refl c.cost_limits-limits.ensures c.ready_at.ensures c.in_ok-ready.was in
    let its : SourceOf c.args.table c.in_ok-ready.ready.row.0 c.if-number-table.source =
    elim c.if-number-table.branch [
      | then-number-table w ↦ rw w.source-is (of_row c.loop-at.invariant asks w.if-number-table.true)
      | else-number-table w ↦ rw w.source-is (of_server c.loop-at.invariant asks w.if-number-table.false)
    ] in
    (source_in_range c.loop-at.invariant asks c.if-number-table.source its, can_go c.loop-at.invariant asks)

pub returns-in_err-play_record : goal.returns-in_err-play_record
returns-in_err-play_record c =
    let a = c.args in
    let p = err_from_is_err_and c.from_residual-in_err-play_record.result c.from_residual-in_err-play_record.ensures.1 in
    let asks = plays_ready c.loop-at.invariant c.loop-at-test.true refl c.cost_limits-limits.ensures c.ready_at.ensures c.in_ok-ready.was in
    let its : SourceOf a.table c.in_ok-ready.ready.row.0 c.if-number-table.source =
    elim c.if-number-table.branch [
      | then-number-table w ↦ rw w.source-is (of_row c.loop-at.invariant asks w.if-number-table.true)
      | else-number-table w ↦ rw w.source-is (of_server c.loop-at.invariant asks w.if-number-table.false)
    ] in
    rw (p.1, p.2)
    (stopped_ends a.script.now a.table a.log.now c.play_record.new.log (c.play_record.ensures.0 ∙ log_as_long c.loop-at.invariant) _
    (plays_stopped c.loop-at.invariant asks its _ _ c.play_record.result c.play_record.ensures.1 c.in_err-play_record.was))

pub loop-at-smaller : goal.loop-at-smaller
loop-at-smaller c =
    let asks = plays_ready c.loop-at.invariant c.loop-at-test.true refl c.cost_limits-limits.ensures c.ready_at.ensures c.in_ok-ready.was in
    let later = later_place c.loop-at.invariant asks (λ i. (c.type_inv.script i).fits) in
    omega (arith, later)

pub loop-at-preserved : goal.loop-at-preserved
loop-at-preserved c =
    let asks = plays_ready c.loop-at.invariant c.loop-at-test.true refl c.cost_limits-limits.ensures c.ready_at.ensures c.in_ok-ready.was in
    let its : SourceOf c.args.table c.in_ok-ready.ready.row.0 c.if-number-table.source =
    elim c.if-number-table.branch [
      | then-number-table w ↦ rw w.source-is (of_row c.loop-at.invariant asks w.if-number-table.true)
      | else-number-table w ↦ rw w.source-is (of_server c.loop-at.invariant asks w.if-number-table.false)
    ] in
    plays_next c.loop-at.invariant asks its _ _ c.play_record.result c.play_record.ensures.1 c.in_ok-play_record.was (λ i. (c.type_inv.script i).fits)

pub invariant_of-timer-2 : goal.invariant_of-timer-2
invariant_of-timer-2 c = record { good = (facts _ c.requires).good_timer }

pub run_until-requires : goal.run_until-requires
run_until-requires c = (omega arith, plays_in_bounds c.loop-at.invariant)

pub returns-then-going-gt0 : goal.returns-then-going-gt0
returns-then-going-gt0 c =
    let a = c.args in
    let ran = c.run_until in
    rw c.at.ensures
    (stopped_ends a.script.now a.table a.log.now ran.new.log (ran.ensures.0 ∙ log_as_long c.loop-at.invariant) _
    (plays_too_long c.loop-at.invariant (omega (arith, c.loop-at-test.false)) ran.ensures.1 c.if-going-gt0.true))

pub returns-then-going : goal.returns-then-going
returns-then-going c =
    rw c.at-then-going.ensures
    (full_ends (plays_whole c.loop-at.invariant (omega (arith, c.loop-at-test.false)) c.run_until.ensures.1 (omega (arith, c.if-going-gt0.false)))
    c.if-going.true)

pub returns : goal.returns
returns c =
    fit_ends (plays_whole c.loop-at.invariant (omega (arith, c.loop-at-test.false)) c.run_until.ensures.1 (omega (arith, c.if-going-gt0.false)))
    c.if-going.false
