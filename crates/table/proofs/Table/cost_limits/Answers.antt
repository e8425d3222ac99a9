use Rattle.std.specs.Prelude.{min}
use Prim.Native.Nat.{ℕ, ◌+◌, ◌-◌, ◌≤◌, ◌<◌}
use mathlib.Core.Path.{◌≡◌, sym, ap, ap₂, ◌∙◌}
use mathlib.Core.List.{List, ◌++◌, map-append}
use native.Mathlib.Decide.{dec_le}
use native.Mathlib.Numerals.{add-one}
use native.Mathlib.Omega.{arith}
use lib.ListN.{length, take, get_or, set, replicate, length-set, take-append-drop}
use lib.Seq.{take_all, take-suc, take-suc-set, length-take-le}
use borrow.Author.Rules.{rules}
use Rattle.kinds.proofs.Lists.{length_mapped}
use Rattle.table.specs.declared.Table.{Table}
use Rattle.table.specs.Limits.{max_rows, max_sources, max_c}
use Rattle.table.specs.Tables.{no_row, rows_of}
use Rattle.table.specs.Costs.{cs_of, held_limits}
use Rattle.table.proofs.Reading.{unused_more}
use Rattle.table.proofs.Table.cost_limits.Invariants.{LimitsSoFar}
use Rattle.table.proofs.Table.cost_limits.Goals as goal

module _ {t : Table} {limits : List ℕ} {i : ℕ} (places : length t.rows ≡ max_rows) (p : LimitsSoFar t limits i) where
  -- One more turn of the loop writes the c of row i.
  one_more : i < t.count → i < max_rows → LimitsSoFar t (set limits i (get_or t.rows i no_row).c) (i + 1)
  one_more in_use room = record {
    not_past = omega arith;
    few = omega arith;
    all_places = length-set limits i _ ∙ p.all_places;
    so_far = rw (add-one, take-suc-set limits i (get_or t.rows i no_row).c (omega (arith, p.all_places)), p.so_far, take-suc t.rows i no_row (omega arith), map-append);
    behind = unused_more max_sources max_c limits i _ (omega arith) p.behind;
  }

  -- If the loop has ended, the rows passed are the rows in use.
  all_passed : min t.count max_rows ≤ i → take i t.rows ≡ rows_of t
  all_passed ended = elim (dec_le t.count max_rows) [
    | yes h ↦ let all : i ≡ t.count = omega (arith, p.not_past) in ap (λ (n : ℕ). take n t.rows) all
    | no h ↦ take_all i t.rows (omega arith) ∙ sym (take_all t.count t.rows (omega arith))
  ]

  -- Then all limits are written.
  pub all_written : min t.count max_rows ≤ i → limits ≡ held_limits t
  all_written ended =
      let same = all_passed ended in
      let long : length (rows_of t) ≡ i = ap length (sym same) ∙ length-take-le i t.rows (omega (arith, p.few)) in
      sym (take-append-drop i limits) ∙ ap₂ (◌++◌) (p.so_far ∙ ap cs_of same) (p.behind ∙ ap (λ (n : ℕ). replicate (max_sources - n) max_c) (sym long))

pub loop-i-preserved : goal.loop-i-preserved
loop-i-preserved c =
    let below : c.loop-i.i < min c.args.self.count max_rows = rw c.min-i-end.ensures at c.loop-i-test.true in
    one_more (search (rules, length_mapped)) c.loop-i.invariant (omega (arith, below)) (omega (arith, below))

pub returns : goal.returns
returns c =
    let ended : min c.args.self.count max_rows ≤ c.loop-i.i = rw c.min-i-end.ensures at c.loop-i-test.false in
    all_written (search rules) c.loop-i.invariant ended
