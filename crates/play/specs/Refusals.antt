-- How far a play comes, what a record must pass, and what stops a play. (docs/RULES.md, sections 8.1 to 8.7, 8.12 and 10.)
use Rattle.std.specs.Prelude.{ℕ, ◌+◌, ◌-◌, ◌^◌, ◌≤◌, ◌<◌, ◌≡◌, ◌⊎◌, ◌≢◌, List, [], ◌∷◌, ◌++◌, length, get_or, Ok}
use Rattle.kinds.specs.Numbering.{values, refusal_number, refused_with}
use Rattle.kinds.specs.declared.Refusal.{Refusal}
use Rattle.kinds.specs.declared.RefusedAt.{RefusedAt}
use Rattle.numbers.specs.declared.Number.{Number}
use Rattle.numbers.specs.Reading.{read_at}
use Rattle.numbers.specs.Answers.{number_says}
use Rattle.table.specs.declared.Table.{Table}
use Rattle.table.specs.Costs.{cost_limits}
use Rattle.table.specs.Tables.{table_read, rows_of}
use Rattle.table.specs.Answers.{table_says}
use Rattle.run.specs.Runs.{fresh_run}
use Rattle.run.specs.Release.{new_job, released}
use Rattle.run.specs.ManyTicks.{ticks, ticks_while_pending}
use Rattle.run.specs.Answers.{accepted, refused, release_says}
use Rattle.records.specs.Numbers.{numbers_at}
use Rattle.play.specs.Play.{Progress, begun, goes_on, stepped}

-- The refusals that can stop a play: those of a table, of a script's record, of a release and of the final ticks. Their numbers are 1 to 10, 14 and
-- 16. (10.4)
abbrev pub CanStop : Refusal → Type 0
CanStop r = (refusal_number r ≤ 10) ⊎ ((refusal_number r ≡ 14) ⊎ (refusal_number r ≡ 16))

-- How many row numbers of a table are in use: as many as it has rows and servers in use. First come the rows, and then the servers. (3.14)
abbrev pub sources_in_use : Table → ℕ
sources_in_use t = length (rows_of t) + t.serving

-- The most that a job of a row number in use may cost, which is the row's c, and 4,096 for a server. (1.6, 3.20)
abbrev pub most_of : Table → (row : ℕ) → ℕ
most_of t row = get_or (cost_limits t) row 0

-- The gap of the record at a place is read, and the record's script time is at most 2^40. (8.5, steps 1 and 2)
pub record GapPassed (s : List ℕ) (at : ℕ) (p : Progress) (gap : Number) : Type 0 where
  pub read : read_at s at ≡ Ok gap
  pub in_time : p.so_far.run.clock.0 + gap.value ≤ 2 ^ 40

-- The gap of the record at a place passed its tests, and its row number is read and in use. (8.5, steps 1 to 4)
pub record RowPassed (s : List ℕ) (at : ℕ) (p : Progress) (gap row : Number) : Type 0 where
  pub gap_passed : GapPassed s at p gap
  pub read : read_at s gap.next ≡ Ok row
  pub in_use : row.value < sources_in_use p.so_far.run.table

-- The gap and the row number of the record at a place passed their tests, and its cost is read and is from 1 to the row's c, for a server to 4,096. (8.5,
-- steps 1 to 6)
pub record CostPassed (s : List ℕ) (at : ℕ) (p : Progress) (gap row cost : Number) : Type 0 where
  pub row_passed : RowPassed s at p gap row
  pub read : read_at s row.next ≡ Ok cost
  pub some_cost : 1 ≤ cost.value
  pub allowed : cost.value ≤ most_of p.so_far.run.table row.value

-- No number can be read that starts at `at`: the number reader refuses it with 1, at its bad byte, which is at `place`. (2.7)
abbrev pub Unreadable : List ℕ → (at place : ℕ) → Type 0
Unreadable s at place = number_says (read_at s at) ≡ refused_with 1 place

-- The record at a place is refused with a number and a place, by the first test that it does not pass. (8.5)
pub data RecordRefused (s : List ℕ) (at : ℕ) (p : Progress) : (number place : ℕ) → Type 0 where
  no_gap : {place : ℕ} → Unreadable s at place → RecordRefused s at p 14 place
  too_late : (gap : Number) → read_at s at ≡ Ok gap → 2 ^ 40 < p.so_far.run.clock.0 + gap.value → RecordRefused s at p 10 at
  no_row_number : (gap : Number) → GapPassed s at p gap → {place : ℕ} → Unreadable s gap.next place → RecordRefused s at p 14 place
  no_such_row : (gap row : Number) → GapPassed s at p gap → read_at s gap.next ≡ Ok row → sources_in_use p.so_far.run.table ≤ row.value
      → RecordRefused s at p 6 gap.next
  no_cost : (gap row : Number) → RowPassed s at p gap row → {place : ℕ} → Unreadable s row.next place → RecordRefused s at p 14 place
  cost_out_of_range : (gap row cost : Number) → RowPassed s at p gap row → read_at s row.next ≡ Ok cost
      → (cost.value < 1) ⊎ (most_of p.so_far.run.table row.value < cost.value) → RecordRefused s at p 7 row.next
  -- The release at the record's script time is refused, at the record's start. (8.5, steps 7 and 8)
  release_refused : (gap row cost : Number) → CostPassed s at p gap row cost → (number : ℕ)
      → release_says (released (ticks gap.value p.so_far).run row.value cost.value).answer ≡ refused number 0 → RecordRefused s at p number at

-- The record at a place passed its tests, and its job was accepted after as many ticks as the gap says. The play goes on at the place right after it. (8.2)
pub record RecordTaken (s : List ℕ) (at : ℕ) (p q : Progress) (next : ℕ) : Type 0 where
  pub gap : Number
  pub row : Number
  pub cost : Number
  pub passed : CostPassed s at p gap row cost
  pub serial : ℕ
  pub due : ℕ
  pub accepted : release_says (released (ticks gap.value p.so_far).run row.value cost.value).answer ≡ accepted serial due
  pub run_then : q.so_far.run ≡ (released (ticks gap.value p.so_far).run row.value cost.value).run
  pub late_then : q.so_far.late ≡ (ticks gap.value p.so_far).late
  pub finished_then : q.so_far.finishes ≡ (ticks gap.value p.so_far).finishes
  pub one_job_more : q.accepted ≡ p.accepted ++ (new_job (ticks gap.value p.so_far).run row.value cost.value (record { 0 = due }) ∷ [])
  pub right_after : next ≡ cost.next

-- The places that a play comes to, with how far it has come there. On an accepted table it comes to the script's start, with a fresh run. From a record that
-- does not stop it, it comes to the place after that record. (8.1, 8.2)
pub data ComesTo (t s : List ℕ) : (at : ℕ) → Progress → Type 0 where
  begins : (period : ℕ) → table_says (table_read t).answer ≡ values (period ∷ []) → ComesTo t s 0 (begun (fresh_run (table_read t).table))
  goes_further : {at : ℕ} {p : Progress} → ComesTo t s at p → at ≢ length s → (q : Progress) (next : ℕ) → stepped p (numbers_at s at) ≡ goes_on q next
      → ComesTo t s next q

-- How far a play has come after its final ticks. They end when nothing is pending, or with the clock at 2^40. (8.3, 8.7)
abbrev pub at_last : Progress → Progress
at_last p = record { so_far = ticks_while_pending (2 ^ 40 - p.so_far.run.clock.0) p.so_far; accepted = p.accepted }

-- How many jobs are still pending after the final ticks. (8.7)
abbrev pub left_at_last : Progress → ℕ
left_at_last p = (at_last p).so_far.run.pending.count

-- A play is stopped with a refusal in one of three ways: the table is refused, a record that the play comes to is refused, or the clock is at 2^40 in the final
-- ticks with a job still pending. (8.1, 8.5, 8.7)
pub data StoppedFor (t s : List ℕ) (r : RefusedAt) : Type 0 where
  the_table : table_says (table_read t).answer ≡ refused_with (refusal_number r.refusal) r.place → StoppedFor t s r
  a_record : (at : ℕ) (p : Progress) → ComesTo t s at p → at ≢ length s → RecordRefused s at p (refusal_number r.refusal) r.place → StoppedFor t s r
  the_clock : (p : Progress) → ComesTo t s (length s) p → 1 ≤ left_at_last p → refusal_number r.refusal ≡ 10 → r.place ≡ length s → StoppedFor t s r
