use Prim.Native.Nat.{ℕ, ◌+◌, ◌-◌, ◌*◌, ◌/◌, ◌≤◌, ◌<◌}
use mathlib.Core.Path.{◌≡◌, refl, ap}
use mathlib.Core.List.{List}
use native.Mathlib.Omega.{arith}
use lib.ListN.{get_or}
use Rattle.theory.specs.Terms.{term_demand}
use Rattle.theory.specs.Steps.{RisesNext}
use Rattle.verdict.specs.HeldTerms.{group_of, held_term, GoodAt, Held}
use Rattle.verdict.specs.HeldParts.{held_w, held_up, held_down, held_b, held_a}
use Rattle.verdict.proofs.BlockRises.{none_yet, not_counted, one_counted, all_of_them, no_step, no_demand, rise_within}
use Rattle.verdict.proofs.BlockRises.{StepAt, at_the_step, soon, later, first_step, both_some}
use Rattle.verdict.proofs.blocks.add_steps.Goals as goal

pub returns-then-a-end-eq0 : goal.returns-then-a-end-eq0
returns-then-a-end-eq0 c =
    no_step c.args.terms.now.entries c.args.i
    (λ L h. no_demand _ _ _ _ _ L c.saturating_sub-end.result (omega (arith, c.saturating_sub-end.ensures)) c.if-a-end-eq0.true) c.requires.1

-- Term i of some terms is a good one.
good_term : {l : List ℕ} {count : ℕ} → Held l count → (i : ℕ) → i < count → GoodAt l i
good_term held i there = held.good i there

-- Term i rises next at `next`, from the length just before it on.
abbrev NextRise : List ℕ → (i next : ℕ) → Type 0
NextRise l i next = RisesNext (held_term l i) (held_w l i) (next - 1) next

-- The first step of the term from the block's start on.
first_of : (c : goal.After-struct_known-3-1) → (
    let l = c.args.terms.now.entries in let at = group_of c.args.i in
    let w = get_or l (at + 1) 0 in let up = get_or l (at + 2) 0 in let down = get_or l (at + 3) 0 in let b = get_or l (at + 4) 0 in let a = get_or l (at + 5) 0 in
    let number = a * c.saturating_sub-start.result / b + 1 in let first = (number * b + (a - 1)) / a in
    (c.args.block.base + up ≤ first + down) × (number * b ≤ a * first) × (a * first < number * b + a)
    × StepAt b a up down (first + down - up) (a * first - number * b) × RisesNext (term_demand b a w up down) w (c.args.block.base - 1) (first + down - up))
first_of c =
    let l = c.args.terms.now.entries in
    let at = group_of c.args.i in
    let b = get_or l (at + 4) 0 in
    let a = get_or l (at + 5) 0 in
    first_step b a (get_or l (at + 1) 0) (get_or l (at + 2) 0) (get_or l (at + 3) 0) c.args.block.within.some_length (both_some _ (c.saturating_sub-end.result) c.if-a-end-eq0.false).0
    (good_term c.args.terms.now.held c.args.i c.requires.0).a_within_b
    (ap (λ (v : ℕ). a * v / b + 1) c.saturating_sub-start.ensures) refl

pub overflow_sub-k : goal.overflow_sub-k
overflow_sub-k c = omega (arith, (first_of c).0)

pub loop-k-init : goal.loop-k-init
loop-k-init c =
    let l = c.args.terms.now.entries in
    let at = group_of c.args.i in
    let up = get_or l (at + 2) 0 in
    let down = get_or l (at + 3) 0 in
    let b = get_or l (at + 4) 0 in
    let a = get_or l (at + 5) 0 in
    let number = a * c.saturating_sub-start.result / b + 1 in
    let first = (number * b + (a - 1)) / a in
    let base = c.args.block.base in
    let f = first_of c in
    let e : base + (first + down - (base + up)) ≡ first + down - up = omega (arith, f.0) in
    (rw e (none_yet c.args.block.within.some_length c.requires.1 f.4), rw e f.3)

pub overflow_add-rises : goal.overflow_add-rises
overflow_add-rises c =
    let t = c.args.terms.now in
    let i = c.args.i in
    let p = c.requires in
    let k = c.loop-k.k in
    let here : NextRise t.entries i (c.args.block.base + k) = at_the_step _ _ _ _ _ (omega (arith, c.args.block.within.some_length)) c.loop-k.invariant.1 in
    omega (
      arith,
      not_counted c.loop-k.invariant.0 c.loop-k-test.true here,
      rise_within t.held i (c.args.block.base + k) (omega (arith, p.0)) (omega (arith, c.args.block.within.searched)),
      (good_term t.held i p.0).most_w,
      t.held.few,
    )

pub loop-k-preserved-then-remainder-part : goal.loop-k-preserved-then-remainder-part
loop-k-preserved-then-remainder-part c =
    let t = c.args.terms.now in
    let i = c.args.i in
    let p = c.requires in
    let k = c.loop-k in
    let b = held_b t.entries i in
    let a = held_a t.entries i in
    let here : NextRise t.entries i (c.args.block.base + k.k) = at_the_step _ _ _ _ _ (omega (arith, c.args.block.within.some_length)) k.invariant.1 in
    let on = later b a (held_w t.entries i) (held_up t.entries i) (held_down t.entries i) (good_term t.held i p.0).a_within_b k.invariant.1 c.if-remainder-part.true in
    let e : c.args.block.base + (k.k + (b / a + 1)) ≡ c.args.block.base + k.k + (b / a + 1) = omega arith in
    (rw e (one_counted c.args.block.within.most k.invariant.0 c.loop-k-test.true here on.1), rw e on.0)

pub loop-k-preserved : goal.loop-k-preserved
loop-k-preserved c =
    let t = c.args.terms.now in
    let i = c.args.i in
    let p = c.requires in
    let k = c.loop-k in
    let b = held_b t.entries i in
    let a = held_a t.entries i in
    let here : NextRise t.entries i (c.args.block.base + k.k) = at_the_step _ _ _ _ _ (omega (arith, c.args.block.within.some_length)) k.invariant.1 in
    let on = soon b a (held_w t.entries i) (held_up t.entries i) (held_down t.entries i) (good_term t.held i p.0).a_within_b k.invariant.1 (omega arith) in
    let e : c.args.block.base + (k.k + b / a) ≡ c.args.block.base + k.k + b / a = omega arith in
    (rw e (one_counted c.args.block.within.most k.invariant.0 c.loop-k-test.true here on.1), rw e on.0)

pub returns : goal.returns
returns c = all_of_them c.args.terms.now.held c.requires.0 (omega arith) c.loop-k.invariant.0
