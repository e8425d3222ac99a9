-- The whole history of a run's due times, and what it means that a run keeps it. (docs/RULES.md, sections 4 and 6.)
use Rattle.std.specs.Prelude.{ℕ, ◌+◌, ◌≤◌, ◌<◌, ◌≡◌, cond, List, ◌∷◌, eqb}
use Rattle.theory.specs.DueTimes.{due_time}
use Rattle.theory.specs.Servers.{server_due, last_due}
use Rattle.due.specs.KeptTimes.{KeepsNewest}
use Rattle.run.specs.declared.Run.{Run}
use Rattle.run.specs.Runs.{is_row, row_at, server_at, kept_of, last_of}

-- For each row in use the run keeps the newest x due times of the row's history, and for each server in use the newest of the server's history, or 0. The
-- history of a row number lists every due time given to it, newest first. (4.6, 4.9)
pub record KeepsHistory (run : Run) (history : ℕ → List ℕ) : Type 0 where
  pub newest : (i : ℕ) → i < run.table.count → KeepsNewest (kept_of run i) (row_at run.table i).x (history i)
  pub last : (i : ℕ) → run.table.count ≤ i → i < run.table.count + run.table.serving → (last_of run i).0 ≡ last_due (history i)

-- The histories of all row numbers, with one more due time for one of them.
abbrev pub with_due : (history : ℕ → List ℕ) (row due : ℕ) → ℕ → List ℕ
with_due history row due i = cond (eqb i row) (due ∷ history i) (history i)

-- The due time of a row number's next job, released at the clock, by the rule over all due times given to it, those of finished jobs too. For a server the cost
-- counts. (4.2, 4.3, 4.5, 4.9)
abbrev pub due_by_history : Run → (history : ℕ → List ℕ) (row cost : ℕ) → ℕ
due_by_history run history row cost =
    let r = row_at run.table row in
    let v = server_at run.table row in
    cond (is_row run.table row)
    (due_time r.x r.y r.d (history row) run.clock.0)
    (server_due v.a v.b (last_due (history row)) run.clock.0 cost)

-- A release gave the due time of the rule, and the run after it keeps what the rule needs of the history with the new one. (4.2, 4.3, 4.6, 4.9)
pub record GaveDue (run : Run) (history : ℕ → List ℕ) (row cost due : ℕ) (next : Run) : Type 0 where
  pub by_rule : due ≡ due_by_history run history row cost
  pub keeps_history : KeepsHistory next (with_due history row due)
