-- `due::Kept::keep` meets its contract. With fewer than x kept, the new due time goes behind them. Otherwise the newest x - 1 move down to the start, and it
-- goes behind these.
use mathlib.Core.Path.{◌≡◌, sym}
use native.Mathlib.Omega.{arith}
use borrow.Author.Rules.{rules}
use lib.ListN.{length}
use Prim.Native.Nat.{◌<◌}
use Rattle.kinds.proofs.Lists.{length_mapped}
use Rattle.table.proofs.SpelledTables.{in_range_means}
use Rattle.due.specs.Kept.{max_kept}
use Rattle.due.proofs.Keeping.{length-kept_times, keep_refused, keep_done, kept_behind, kept_moved}
use Rattle.due.proofs.Kept.keep.Goals as goal

pub returns-then-not-in_range : goal.returns-then-not-in_range
returns-then-not-in_range c = sym (keep_refused _ _ _ (sym c.if-not-in_range.ensures))

pub returns-then-count-x : goal.returns-then-count-x
returns-then-count-x c =
    let a = c.args in
    let fine = sym c.if-not-in_range.ensures in
    let whole : length a.self.times ≡ max_kept = search (rules, length_mapped) in
    let used = length-kept_times a.self _ whole c.min-count.ensures in
    let room : c.min-count.result < length a.self.times = omega (arith, ((in_range_means a.row).0 fine).most_x, whole) in
    sym (keep_done a.self a.row a.due fine (kept_behind a.self _ used a.row a.due fine c.if-count-x.true room))

pub returns-else-count-x : goal.returns-else-count-x
returns-else-count-x c =
    let a = c.args in
    let fine = sym c.if-not-in_range.ensures in
    let used = length-kept_times a.self _ (search (rules, length_mapped)) c.min-count.ensures in
    rw c.copy_within.ensures.after
    (sym (keep_done a.self a.row a.due fine (kept_moved a.self _ used a.row a.due fine ((in_range_means a.row).0 fine).some_x c.if-count-x.false)))
