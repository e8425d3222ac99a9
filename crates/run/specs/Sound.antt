-- The conditions on which a run is sound, as a test and as facts. (docs/RULES.md, sections 6.20 to 6.24.)
use Rattle.kinds.specs.declared.Refusal.{Refusal}
use Rattle.std.specs.Prelude.{ℕ, ◌+◌, ◌≤◌, ◌<◌, ◌≡◌, ◌↔◌, Bool, true, false, ◌&&◌, List, [], ◌∷◌, leb, ltb, length, get_or, Result, Ok, Err}
use Rattle.kinds.specs.Numbering.{max_time}
use Rattle.table.specs.declared.Row.{Row}
use Rattle.kinds.specs.declared.Tick.{Tick}
use Rattle.table.specs.declared.Server.{Server}
use Rattle.table.specs.declared.Table.{Table}
use Rattle.table.specs.Limits.{max_rows, max_servers}
use Rattle.table.specs.Costs.{cost_limits, limit_of, cost_answer}
use Rattle.table.specs.Rows.{from_one_to, row_acceptable}
use Rattle.table.specs.Timer.{timer_in_range, GoodTimer}
use Rattle.table.specs.Servers.{server_in_range, no_server, GoodServer}
use Rattle.table.specs.Tables.{rows_of, servers_of}
use Rattle.table.specs.SpelledTables.{WithinLimits}
use Rattle.due.specs.declared.Kept.{Kept}
use Rattle.due.specs.Kept.{kept_sound}
use Rattle.due.specs.KeptTimes.{SoundKept}
use Rattle.jobs.specs.declared.Job.{Job}
use Rattle.jobs.specs.Places.{max_places, no_job, jobs_of}
use Rattle.jobs.specs.Serials.{distinct_serials}
use Rattle.run.specs.declared.Run.{Run}
use Rattle.run.specs.Runs.{row_at, cost_limit, kept_of}

-- What soundness asks of a pending job, apart from its row and its cost. It was released at or before the clock, has at least 1 unit left and at most its
-- stated cost, is due at 2^40 or before, and has a serial below the next serial. (6.22)
unfoldable pub job_fits : (clock next : ℕ) → Job → Bool
job_fits clock next j =
    leb j.release.0 clock
    && from_one_to j.cost j.left
    && leb j.due.0 max_time
    && ltb j.serial.0 next

-- The test of a row number and a cost allows them.
abbrev pub allows : Result (Unit {0}) Refusal → Bool
allows (Ok done) = true
allows (Err r) = false

-- A pending job is sound when its row number and cost pass the test that a release makes, and the rest of the job fits. (6.22)
unfoldable pub job_sound : (limits : List ℕ) (clock next : ℕ) → Job → Bool
job_sound limits clock next j = allows (cost_answer (limit_of limits j.row.0) j.cost) && job_fits clock next j

-- Every pending job is sound. (6.22)
abbrev pub jobs_sound : (limits : List ℕ) (clock next : ℕ) → List Job → Bool
jobs_sound limits clock next [] = true
jobs_sound limits clock next (j ∷ js) = job_sound limits clock next j && jobs_sound limits clock next js

-- Each row is one that a table may have, and has at most x due times kept, none of them above 2^40. A run has kept due times for every row that a table may
-- have, so the case of a row without them does not come up. (6.21, 6.24)
abbrev pub rows_sound : List Row → List Kept → Bool
rows_sound [] ks = true
rows_sound (r ∷ rs) [] = true
rows_sound (r ∷ rs) (k ∷ ks) = row_acceptable r && kept_sound k r && rows_sound rs ks

-- Each server is one that a table may have, and its last due time is at most 2^40. A run has a last due time for every server that a table may have, so the
-- case of a server without one does not come up. (6.21, 6.24)
abbrev pub servers_sound : List Server → List Tick → Bool
servers_sound [] ls = true
servers_sound (v ∷ vs) [] = true
servers_sound (v ∷ vs) (l ∷ ls) = server_in_range v && leb l.0 max_time && servers_sound vs ls

-- At most so many jobs are ended early. (6.23)
abbrev pub max_ended : ℕ
max_ended = max_time

-- The most that the next serial may be: the clock plus the number of pending jobs plus the number of ended ones. The job of each serial given out is pending,
-- was ended early, or was finished by a tick, and no two were finished by the same tick. (6.23)
abbrev pub serial_bound : Run → ℕ
serial_bound run = run.clock.0 + run.pending.count + run.ended

-- A run is sound when all of these hold. The counts and the clock are tested before any place is looked at and before the clock is added to. (6.20 to 6.24)
unfoldable pub sound_of : Run → Bool
sound_of run =
    timer_in_range run.table.s run.table.p
    && leb run.table.count max_rows
    && leb run.table.serving max_servers
    && leb run.clock.0 max_time
    && leb run.pending.count max_places
    && leb run.ended max_ended
    && rows_sound (rows_of run.table) run.kept
    && servers_sound (servers_of run.table) run.last
    && jobs_sound (cost_limits run.table) run.clock.0 run.next.0 (jobs_of run.pending)
    && distinct_serials (jobs_of run.pending)
    && leb run.next.0 (serial_bound run)

-- ---- soundness as facts

-- The facts about a sound pending job. (6.22)
pub record SoundJob (t : Table) (clock next : ℕ) (j : Job) : Type 0 where
  pub row_in_use : j.row.0 < t.count + t.serving
  pub released : j.release.0 ≤ clock
  pub some_cost : 1 ≤ j.cost
  pub cost_allowed : j.cost ≤ cost_limit t j.row.0
  pub some_left : 1 ≤ j.left
  pub left_of_cost : j.left ≤ j.cost
  pub due_in_time : j.due.0 ≤ max_time
  pub serial_given : j.serial.0 < next

-- The facts about a sound run. (6.20 to 6.24)
pub record Sound (run : Run) : Type 0 where
  pub good_timer : GoodTimer run.table.s run.table.p
  pub few_rows : run.table.count ≤ max_rows
  pub few_servers : run.table.serving ≤ max_servers
  pub clock_in_time : run.clock.0 ≤ max_time
  pub few_pending : run.pending.count ≤ max_places
  pub few_ended : run.ended ≤ max_ended
  pub rows : (i : ℕ) → i < run.table.count → WithinLimits (row_at run.table i)
  pub c_within_d : (i : ℕ) → i < run.table.count → (row_at run.table i).c ≤ (row_at run.table i).d
  pub kept : (i : ℕ) → i < run.table.count → SoundKept (kept_of run i) (row_at run.table i).x
  pub servers : (k : ℕ) → k < run.table.serving → GoodServer (get_or run.table.servers k no_server)
  pub last : (k : ℕ) → k < run.table.serving → (get_or run.last k (record { 0 = 0 })).0 ≤ max_time
  pub jobs : (i : ℕ) → i < length (jobs_of run.pending) → SoundJob run.table run.clock.0 run.next.0 (get_or (jobs_of run.pending) i no_job)
  pub apart : (i k : ℕ) → i < k → k < length (jobs_of run.pending)
      → (get_or (jobs_of run.pending) i no_job).serial.0 ≡ (get_or (jobs_of run.pending) k no_job).serial.0 → ⊥
  pub serials : run.next.0 ≤ run.clock.0 + run.pending.count + run.ended

-- The arrays of a run have all their places. Every run that a program can hold has them by its type. `Run::sound` takes any run and ensures this, whatever it
-- answers, so this premise of the laws holds for every run that a call is handed.
pub record Whole (run : Run) : Type 0 where
  pub all_rows : length run.table.rows ≡ max_rows
  pub all_kept : length run.kept ≡ max_rows
  pub all_servers : length run.table.servers ≡ max_servers
  pub all_last : length run.last ≡ max_servers
  pub all_places : length run.pending.places ≡ max_places

-- A run passes the test exactly when the facts about a sound run hold for it, and on no other condition. (6.20)
abbrev pub SoundMeans : Type 0
SoundMeans = (run : Run) → Whole run → (sound_of run ≡ true) ↔ Sound run
