-- A play that is stopped with 1 or 14 is stopped at the first bad byte of the table or the script, and one that is stopped with 16 by its table. Up to the record that stops it the script is numbers, three
-- to a record. (docs/RULES.md, 3.8, 7.6, 8.1 and 8.5.)
use Rattle.std.specs.Prelude.{Ok, Err}
use Prim.Native.Nat.{ℕ, ◌≤◌}
use native.Mathlib.Omega.{arith}
use mathlib.Core.Path.{◌≡◌, ap, ◌∙◌}
use mathlib.Core.Logic.{⊎_elim}
use mathlib.Core.List.{List}
use Rattle.kinds.specs.Numbering.{refusal_number, refused_with}
use Rattle.kinds.specs.declared.RefusedAt.{RefusedAt}
use Rattle.numbers.specs.declared.Number.{Number}
use Rattle.numbers.specs.Reading.{read_at}
use Rattle.numbers.specs.SpelledNumbers.{Bytes}
use Rattle.numbers.specs.BadByte.{NumbersBetween, nothing_between, number_first, FirstBadByte}
use Rattle.numbers.proofs.Spellings.{number_has_one_spelling}
use Rattle.numbers.proofs.BadByte.{refused_at_the_bad_byte, numbers_joined, numbers_inside}
use Rattle.table.specs.Tables.{table_read}
use Rattle.table.specs.Answers.{table_says}
use Rattle.table.proofs.Answers.{tables_said_apart}
use Rattle.table.proofs.Refusals.{refused_as_a_table}
use Rattle.table.proofs.BadBytes.{refused_at_the_first_bad_byte}
use Rattle.run.proofs.Ticking.{Good}
use Rattle.play.specs.Play.{Progress}
use Rattle.play.specs.StoppingLaws.{StoppedInTheScript, StoppedInTheTable, StoppedWithSixteen}
use Rattle.play.specs.Refusals.{GapPassed, RowPassed, CostPassed, Unreadable, RecordRefused}
use Rattle.play.specs.Refusals.{no_gap, too_late, no_row_number, no_such_row, no_cost, cost_out_of_range, release_refused}
use Rattle.play.specs.Refusals.{ComesTo, begins, goes_further, StoppedFor, the_table, a_record, the_clock}
use Rattle.play.proofs.Refusing.{record_goes_on}
use Rattle.play.proofs.Stopping.{comes_sound, release_two_to_ten, stopped_means}

module _ (t s : List ℕ) (b : Bytes s) where
  -- A number that is read stands there.
  number_there : (at : ℕ) (n : Number) → read_at s at ≡ Ok n → NumbersBetween s at n.next
  number_there at n e = number_first n (number_has_one_spelling s at n b e) nothing_between

  -- A gap that passed its tests stands there.
  gap_there : {at : ℕ} {p : Progress} {gap : Number} → GapPassed s at p gap → NumbersBetween s at gap.next
  gap_there {at} {gap = gap} g = number_there at gap g.read

  -- A gap and a row number that passed their tests stand there, one after the other.
  row_there : {at : ℕ} {p : Progress} {gap row : Number} → RowPassed s at p gap row → NumbersBetween s at row.next
  row_there {gap = gap} {row = row} q = numbers_joined (gap_there q.gap_passed) (number_there gap.next row q.read)

  -- The three numbers of a record that passed their tests stand there, one after another.
  cost_there : {at : ℕ} {p : Progress} {gap row cost : Number} → CostPassed s at p gap row cost → NumbersBetween s at cost.next
  cost_there {row = row} {cost = cost} q = numbers_joined (row_there q.row_passed) (number_there row.next cost q.read)

  -- Up to the place that a play comes to, numbers stand.
  numbers_to : {at : ℕ} {p : Progress} → ComesTo t s at p → NumbersBetween s 0 at
  numbers_to (begins period e) = nothing_between
  numbers_to (goes_further {at = from} {p = before} c more q next e) =
      let w = (record_goes_on s from before q next).0 e in
      numbers_joined (numbers_to c) (rw w.right_after (cost_there w.passed))

  -- A number behind numbers that can't be read has the first bad byte.
  bad_behind : {start place : ℕ} → NumbersBetween s 0 start → Unreadable s start place → FirstBadByte s place
  bad_behind {start} {place} before e =
      record { start = start; before = before; bad = (refused_at_the_bad_byte s start place b (numbers_inside before (omega arith))).0 e }

  -- A record that is refused with 14 behind numbers is refused at the first bad byte.
  record_bad : {at : ℕ} {p : Progress} {n place : ℕ} → Good p.so_far.run → NumbersBetween s 0 at → RecordRefused s at p n place → n ≡ 14
      → FirstBadByte s place
  record_bad good before (no_gap e) is = bad_behind before e
  record_bad good before (too_late gap e late) is = absurd (omega arith)
  record_bad good before (no_row_number gap g e) is = bad_behind (numbers_joined before (gap_there g)) e
  record_bad good before (no_such_row gap row g e unused) is = absurd (omega arith)
  record_bad good before (no_cost gap row q e) is = bad_behind (numbers_joined before (row_there q)) e
  record_bad good before (cost_out_of_range gap row cost q e out) is = absurd (omega arith)
  record_bad {p = p} good before (release_refused gap row cost q number e) is =
      absurd (omega (arith, release_two_to_ten p gap.value row.value cost.value number good e))

  -- No record is refused with 16.
  record_not_sixteen : {at : ℕ} {p : Progress} {n place : ℕ} → Good p.so_far.run → RecordRefused s at p n place → n ≤ 14
  record_not_sixteen good (no_gap e) = omega arith
  record_not_sixteen good (too_late gap e late) = omega arith
  record_not_sixteen good (no_row_number gap g e) = omega arith
  record_not_sixteen good (no_such_row gap row g e unused) = omega arith
  record_not_sixteen good (no_cost gap row q e) = omega arith
  record_not_sixteen good (cost_out_of_range gap row cost q e out) = omega arith
  record_not_sixteen {p = p} good (release_refused gap row cost q number e) =
      omega (arith, release_two_to_ten p gap.value row.value cost.value number good e)

  -- A play that is stopped with 16 is stopped by its table.
  table_hopeless : (r : RefusedAt) → Bytes t → StoppedFor t s r → refusal_number r.refusal ≡ 16 → table_says (table_read t).answer ≡ refused_with 16 r.place
  table_hopeless r table (the_table e) is = e ∙ ap (λ number. refused_with number r.place) is
  table_hopeless r table (a_record at p c more refused) is = absurd (omega (arith, record_not_sixteen (comes_sound t s at p table c) refused))
  table_hopeless r table (the_clock p c some ten place) is = absurd (omega arith)

  -- No record is refused with 1.
  record_not_one : {at : ℕ} {p : Progress} {n place : ℕ} → Good p.so_far.run → RecordRefused s at p n place → 2 ≤ n
  record_not_one good (no_gap e) = omega arith
  record_not_one good (too_late gap e late) = omega arith
  record_not_one good (no_row_number gap g e) = omega arith
  record_not_one good (no_such_row gap row g e unused) = omega arith
  record_not_one good (no_cost gap row q e) = omega arith
  record_not_one good (cost_out_of_range gap row cost q e out) = omega arith
  record_not_one {p = p} good (release_refused gap row cost q number e) = (release_two_to_ten p gap.value row.value cost.value number good e).0

  -- A play that is stopped with 14 is stopped at the script's first bad byte.
  script_bad : (r : RefusedAt) → Bytes t → StoppedFor t s r → refusal_number r.refusal ≡ 14 → FirstBadByte s r.place
  script_bad r table (the_table e) is =
      absurd (⊎_elim (λ low. omega (arith, low.1)) (λ sixteen. omega arith)
      (refused_as_a_table t r table (tables_said_apart (table_read t).answer (Err r) e)))
  script_bad r table (a_record at p c more refused) is = record_bad (comes_sound t s at p table c) (numbers_to c) refused is
  script_bad r table (the_clock p c some ten place) is = absurd (omega arith)

  -- A play that is stopped with 1 is stopped at the table's first bad byte.
  table_bad : (r : RefusedAt) → Bytes t → StoppedFor t s r → refusal_number r.refusal ≡ 1 → FirstBadByte t r.place
  table_bad r table (the_table e) is = refused_at_the_first_bad_byte t r.place table (rw is at e)
  table_bad r table (a_record at p c more refused) is = absurd (omega (arith, record_not_one (comes_sound t s at p table c) refused))
  table_bad r table (the_clock p c some ten place) is = absurd (omega arith)

pub stopped_in_the_table : StoppedInTheTable
stopped_in_the_table t s r table script e is = table_bad t s script r table ((stopped_means t s r script).0 e) is

pub stopped_with_sixteen : StoppedWithSixteen
stopped_with_sixteen t s r table script e is = table_hopeless t s script r table ((stopped_means t s r script).0 e) is

pub stopped_in_the_script : StoppedInTheScript
stopped_in_the_script t s r table script e is = script_bad t s script r table ((stopped_means t s r script).0 e) is
