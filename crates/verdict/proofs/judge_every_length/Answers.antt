-- `verdict::judge_every_length` meets its contract: the lengths that are scanned settle the verdict, and what the scan finds is that verdict.
use Prim.Native.Nat.{ℕ, ◌+◌, ◌*◌, ◌≤◌}
use mathlib.Core.Path.{◌≡◌}
use native.Mathlib.Omega.{arith}
use Rattle.table.specs.declared.Table.{Table}
use Rattle.verdict.specs.Demand.{max_length, largest_d}
use Rattle.verdict.proofs.Bounds.{last_at_most}
use Rattle.verdict.proofs.Accepted.{Known}
use Rattle.verdict.proofs.Scans.{Settles, settled_by_one_period, settled_by_many_periods, read_is_known, judged_as_accepted}
use Rattle.verdict.proofs.judge_every_length.Goals as goal
use Rattle.verdict.proofs.judge_every_length.Goals.{else-period-growth, then-period-growth}

-- The longest scan ends at or below max_length.
longest : {t : Table} {period d : ℕ} → Known t period → d ≡ largest_d t → (d + 1) * period + d ≤ max_length
longest {period = period} k is = rw is (last_at_most k.in_range _ k.most_period)

pub largest_d-d-requires : goal.largest_d-d-requires
largest_d-d-requires c = (read_is_known _ _ c.read_table-read.ensures _ c.in-Ok.is (λ i. (c.type_inv.bytes i).fits)).in_range

pub overflow_add-last : goal.overflow_add-last
overflow_add-last c =
    let k = read_is_known _ _ c.read_table-read.ensures _ c.in-Ok.is (λ i. (c.type_inv.bytes i).fits) in
    omega (arith, longest k c.largest_d-d.ensures)

pub growth-requires : goal.growth-requires
growth-requires c =
    let k = read_is_known _ _ c.read_table-read.ensures _ c.in-Ok.is (λ i. (c.type_inv.bytes i).fits) in (k.in_range, k.most_period)

pub overflow_add-last-then-period-growth : goal.overflow_add-last-then-period-growth
overflow_add-last-then-period-growth c =
    let k = read_is_known _ _ c.read_table-read.ensures _ c.in-Ok.is (λ i. (c.type_inv.bytes i).fits) in
    omega (arith, longest k c.largest_d-d.ensures)

pub overflow_mul-last : goal.overflow_mul-last
overflow_mul-last c =
    let k = read_is_known _ _ c.read_table-read.ensures _ c.in-Ok.is (λ i. (c.type_inv.bytes i).fits) in
    omega (arith, longest k c.largest_d-d.ensures)

pub overflow_add-last-then-period-growth-2 : goal.overflow_add-last-then-period-growth-2
overflow_add-last-then-period-growth-2 c =
    let k = read_is_known _ _ c.read_table-read.ensures _ c.in-Ok.is (λ i. (c.type_inv.bytes i).fits) in
    omega (arith, longest k c.largest_d-d.ensures)

pub scan_range-requires : goal.scan_range-requires
scan_range-requires c =
    let k = read_is_known _ _ c.read_table-read.ensures _ c.in-Ok.is (λ i. (c.type_inv.bytes i).fits) in
    let l = longest k c.largest_d-d.ensures in
    (k.in_range, elim c.if-period-growth.branch [ then-period-growth w ↦ omega arith | else-period-growth w ↦ omega arith ])

pub returns-in-None : goal.returns-in-None
returns-in-None c =
    let k = read_is_known _ _ c.read_table-read.ensures _ c.in-Ok.is (λ i. (c.type_inv.bytes i).fits) in
    let d = c.largest_d-d.ensures in
    let g = c.growth.ensures in
    let settled : Settles c.read_table-read.result.table c.if-period-growth.last =
    elim c.if-period-growth.branch [ then-period-growth w ↦ rw w.last-is (settled_by_many_periods _ _ k d g w.if-period-growth.true) | else-period-growth w ↦ rw w.last-is (settled_by_one_period _ _ k d g w.if-period-growth.false) ] in
    judged_as_accepted _ _ c.read_table-read.ensures _ c.in-Ok.is _ (settled (rw c.in-None.is at c.scan_range.ensures))
