-- `verdict::judge` meets its contract: a small witness is found by the scan of the first lengths, and the quick search settles what is left.
use native.Mathlib.Omega.{arith}
use Rattle.theory.specs.Curves.{FitsUpTo}
use Rattle.verdict.specs.Demand.{table_demand}
use Rattle.verdict.proofs.Bounds.{d_at_most}
use Rattle.verdict.proofs.Scans.{settled_by_one_period, read_is_known, judged_as_accepted}
use Rattle.verdict.proofs.judge.Goals as goal

pub largest_d-d-requires : goal.largest_d-d-requires
largest_d-d-requires c = (read_is_known _ _ c.read_table-read.ensures _ c.in-Ok.is (λ i. (c.type_inv.bytes i).fits)).in_range

pub overflow_add-d : goal.overflow_add-d
overflow_add-d c =
    let k = read_is_known _ _ c.read_table-read.ensures _ c.in-Ok.is (λ i. (c.type_inv.bytes i).fits) in
    omega (arith, c.largest_d-d.ensures, d_at_most k.in_range, k.most_period)

pub scan_range-requires : goal.scan_range-requires
scan_range-requires c =
    let k = read_is_known _ _ c.read_table-read.ensures _ c.in-Ok.is (λ i. (c.type_inv.bytes i).fits) in
    (k.in_range, omega (arith, c.min-early.ensures))

pub growth-growth-requires : goal.growth-growth-requires
growth-growth-requires c =
    let k = read_is_known _ _ c.read_table-read.ensures _ c.in-Ok.is (λ i. (c.type_inv.bytes i).fits) in (k.in_range, k.most_period)

pub overflow_add-d-2 : goal.overflow_add-d-2
overflow_add-d-2 c =
    let k = read_is_known _ _ c.read_table-read.ensures _ c.in-Ok.is (λ i. (c.type_inv.bytes i).fits) in
    omega (arith, c.largest_d-d.ensures, d_at_most k.in_range, k.most_period)

pub returns-then-growth-period : goal.returns-then-growth-period
returns-then-growth-period c =
    let k = read_is_known _ _ c.read_table-read.ensures _ c.in-Ok.is (λ i. (c.type_inv.bytes i).fits) in
    let fits : FitsUpTo (table_demand c.read_table-read.result.table) c.min-early.result = rw c.in_default.is at c.scan_range.ensures in
    judged_as_accepted _ _ c.read_table-read.ensures _ c.in-Ok.is _
    (settled_by_one_period _ _ k c.largest_d-d.ensures c.growth-growth.ensures c.if-growth-period.true
    (λ L one high. fits L one (omega (arith, c.min-early.ensures))))

pub search_on-requires : goal.search_on-requires
search_on-requires c =
    let k = read_is_known _ _ c.read_table-read.ensures _ c.in-Ok.is (λ i. (c.type_inv.bytes i).fits) in
    let fits : FitsUpTo (table_demand c.read_table-read.result.table) c.min-early.result = rw c.in_default.is at c.scan_range.ensures in (
      k.in_range,
      c.largest_d-d.ensures,
      k.some_period,
      k.most_period,
      k.whole,
      rw (c.largest_d-d.ensures, c.growth-growth.ensures) k.curve,
      omega (arith, c.min-early.ensures),
      fits,
    )
