use Prim.Native.Nat.{◌+◌, ◌-◌}
use mathlib.Core.Path.{◌≡◌, sym, ◌∙◌}
use native.Mathlib.Omega.{arith}
use borrow.Author.Rules.{rules}
use Rattle.columns.proofs.Finding.{looked_none, looked_more, looked_last}
use Rattle.columns.proofs.places.place_for.Goals as goal

pub loop-last-init : goal.loop-last-init
loop-last-init c =
    let a = c.args in (omega arith, looked_none a.due a.serial a.dues.now a.serials.now (search rules) (search rules) a.first a.count c.requires)

pub returns-then-not-goes_before : goal.returns-then-not-goes_before
returns-then-not-goes_before c =
    let k = c.loop-last in
    let a = c.args in
    let behind : k.last - 1 + 1 ≡ k.last = omega (arith, c.loop-last-test.true) in
    rw behind (
      k.auto.last,
      looked_last a.due a.serial a.dues.now a.serials.now (search rules) (search rules) a.first a.count c.requires k.last
          c.loop-last-test.true k.auto.last k.invariant.1 (sym c.goes_before.ensures ∙ c.if-not-goes_before.true),
    )

pub loop-last-preserved : goal.loop-last-preserved
loop-last-preserved c =
    let k = c.loop-last in
    let a = c.args in (
      omega (arith, c.loop-last-test.true),
      looked_more a.due a.serial a.dues.now a.serials.now (search rules) (search rules) a.first a.count c.requires k.last
          c.loop-last-test.true k.auto.last k.invariant.1 (sym c.goes_before.ensures ∙ c.if-not-goes_before.false),
    )
