use Prim.Native.Nat.{◌+◌}
use mathlib.Core.Path.{◌≡◌}
use native.Mathlib.Omega.{arith}
use Rattle.verdict.proofs.TableTerms.{timer_filled, server_is_good, server_filled, servers_filled, row_filled, all_filled}
use Rattle.verdict.proofs.TableTerms.{timer_placed, server_placed, servers_placed, row_placed, all_repeat}
use Rattle.verdict.proofs.terms.Terms.of_table.Goals as goal

pub loop-k-init : goal.loop-k-init
loop-k-init c =
    let it = c.of_timer-terms.ensures in
    (omega arith, it.1, timer_filled c.requires it.0 (rw it.1 at c.of_timer-terms.result.held) it.3, timer_placed c.requires _ it.2)

pub put-requires : goal.put-requires
put-requires c =
    let v = c.loop-k.invariant in
    (omega (arith, c.requires.few_servers), server_is_good _ (c.requires.good_servers _ c.loop-k-test.true))

pub loop-k-preserved : goal.loop-k-preserved
loop-k-preserved c =
    let v = c.loop-k.invariant in (
      omega arith,
      omega (arith, c.put.ensures.1),
      rw (c.put.ensures.0, v.1) (server_filled c.requires _ c.loop-k-test.true v.2),
      rw (c.put.ensures.0, v.1) (server_placed c.requires _ c.loop-k-test.true v.2 v.3),
    )

pub loop-i-init : goal.loop-i-init
loop-i-init c =
    let v = c.loop-k.invariant in
    (omega arith, omega arith, servers_filled c.requires (omega arith) v.2, servers_placed c.requires (omega arith) v.3)

pub loop-i-preserved : goal.loop-i-preserved
loop-i-preserved c =
    let v = c.loop-i.invariant in
    let pre = c.requires in (
      omega arith,
      omega (arith, c.put-in-loop-i.ensures.1),
      rw (c.put-in-loop-i.ensures.0, c.saturating_sub.ensures, c.saturating_sub-in-loop-i.ensures, v.1)
          (row_filled pre _ c.loop-i-test.true v.2),
      rw (c.put-in-loop-i.ensures.0, c.saturating_sub.ensures, c.saturating_sub-in-loop-i.ensures, v.1)
          (row_placed pre _ c.loop-i-test.true v.2 v.3),
    )

pub returns : goal.returns
returns c =
    let v = c.loop-i.invariant in
    let pre = c.requires in
    let all : c.loop-i.i ≡ c.args.table.count = omega arith in
    let count : c.loop-i.terms.count ≡ c.args.table.serving + c.args.table.count = omega arith in
    rw count (all_filled pre all v.2, all_repeat pre all v.3)
