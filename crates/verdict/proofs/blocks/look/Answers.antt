use Prim.Native.Nat.{ℕ, ◌+◌, ◌-◌, ◌%◌}
use mathlib.Core.Path.{◌≡◌, ap, ◌∙◌}
use native.Mathlib.Omega.{arith}
use native.Mathlib.Nat.{mod-add-mod}
use Rattle.theory.proofs.Cases.{by_lt}
use Rattle.verdict.specs.HeldTerms.{held_p}
use Rattle.verdict.proofs.HeldTerms.{held_at_most}
use Rattle.verdict.proofs.BlockRises.{added_one}
use Rattle.verdict.proofs.blocks.look.Goals as goal

pub overflow_add-sum : goal.overflow_add-sum
overflow_add-sum c =
    let p = c.requires in
    let t = c.args.terms.now in
    let v = c.loop-k.invariant in
    let sums = added_one t.held p c.args.block.within.some_length _ _ _ _ c.loop-k-test.true v.1 v.2 c.taken_at.ensures in
    omega (arith, sums, t.held.few, c.args.block.within.searched, held_at_most t.held t.count (c.args.block.base + c.loop-k.k) (omega arith) (omega (arith, c.args.block.within.searched)))

pub overflow_add-sum-in-loop-k : goal.overflow_add-sum-in-loop-k
overflow_add-sum-in-loop-k c =
    let p = c.requires in
    let t = c.args.terms.now in
    let v = c.loop-k.invariant in
    let sums = added_one t.held p c.args.block.within.some_length _ _ _ _ c.loop-k-test.true v.1 v.2 c.taken_at.ensures in
    omega (arith, sums, t.held.few, c.args.block.within.searched, held_at_most t.held t.count (c.args.block.base + c.loop-k.k) (omega arith) (omega (arith, c.args.block.within.searched)))

pub returns-then-length-sum : goal.returns-then-length-sum
returns-then-length-sum c =
    let p = c.requires in
    let v = c.loop-k.invariant in
    let sums = added_one c.args.terms.now.held p c.args.block.within.some_length _ _ _ _ c.loop-k-test.true v.1 v.2 c.taken_at.ensures in
    record { from_lo = omega arith; to_hi = omega arith; fails = omega (arith, sums, c.if-length-sum.true); smaller_fit = v.3 }

pub loop-k-preserved : goal.loop-k-preserved
loop-k-preserved c =
    let a = c.args in
    let p = c.requires in
    let held = a.terms.now.held in
    let last = held_p a.terms.now.entries in
    let k = c.loop-k in
    let v = k.invariant in
    let sums = added_one held p c.args.block.within.some_length _ _ _ _ c.loop-k-test.true v.1 v.2 c.taken_at.ensures in
    let e : a.block.base + (k.k + 1) - 1 ≡ a.block.base + k.k = omega (arith, c.args.block.within.some_length) in
    let e2 : a.block.base + k.k - 1 + 1 ≡ a.block.base + k.k = omega (arith, c.args.block.within.some_length) in
    let e3 : last - 1 + 1 ≡ last = omega (arith, held.header.good_timer.some_p) in (
      omega arith,
      rw e sums,
      c.rest_after-rest.ensures ∙ rw (e3, v.2, e) (mod-add-mod (a.block.base + k.k - 1) last 1 ∙ ap (λ (n : ℕ). n % last) e2),
      λ L from to. by_lt L (a.block.base + k.k) (λ h. v.3 L from h) (λ h.
          let here : L ≡ a.block.base + k.k = omega arith in rw here (omega (arith, sums, c.if-length-sum.false))),
    )
