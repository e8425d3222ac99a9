-- The test of a run means the facts of `Sound`, and nothing more. The second half of the page follows the code, which tests the jobs, the
-- rows and the servers one after another. (docs/RULES.md, sections 6.20 to 6.24.)
use Rattle.std.specs.Prelude.{Result, Ok, Err}
use Rattle.std.specs.List.{list_all, zip}
use Prim.Native.Nat.{ℕ, zero, suc, ◌+◌, ◌-◌, ◌≤◌, ◌<◌, suc-le-suc}
use mathlib.Core.Path.{◌≡◌, refl, sym, ap, ◌∙◌}
use mathlib.Core.Bool.{Bool, true, false, ◌&&◌}
use mathlib.Core.List.{List, [], ◌∷◌}
use native.Mathlib.Nat.{not-suc-le-zero, le_of_suc-le-suc}
use native.Mathlib.Numerals.{add-one}
use native.Mathlib.Decide.{dec_lt}
use native.Mathlib.Omega.{arith}
use lib.Dec.{leb, ltb}
use lib.ListN.{length, take, drop, get_or, replicate, length-append, length-take, length-map, length-replicate, drop_of_length-le}
use lib.Seq.{length-take-le, drop-cons, get_or-take}
use borrow.Author.Tests.{leb-true, ltb-true, le-leb, lt-leb, lt-ltb, le-ltb}
use Rattle.kinds.specs.Numbering.{max_time}
use Rattle.kinds.specs.declared.Refusal.{Refusal}
use Rattle.kinds.specs.declared.Tick.{Tick}
use Rattle.kinds.proofs.Apart.{impossible}
use Rattle.theory.proofs.Cases.{by_lt}
use Rattle.table.specs.declared.Row.{Row}
use Rattle.table.specs.declared.Server.{Server}
use Rattle.table.specs.Costs.{cs_of, cost_limits, held_limits, limit_of, cost_answer}
use Rattle.table.specs.declared.Table.{Table}
use Rattle.table.specs.Limits.{max_rows, max_servers, max_sources, max_c}
use Rattle.table.specs.Rows.{from_one_to, row_acceptable}
use Rattle.table.specs.Servers.{server_in_range, no_server, GoodServer}
use Rattle.table.specs.Tables.{no_row, rows_of, servers_of}
use Rattle.table.proofs.CostLimits.{CostTested, not_in_use, out_of_range, allowed, cost_tested}
use Rattle.table.proofs.CostLimits.{limits_are_the_first, one_limit_for_each, limit_is_its_c, limit_of_a_server}
use Rattle.table.proofs.Ranges.{both_true, acceptable_means}
use Rattle.table.proofs.ReadingServers.{server_in_range_means}
use Rattle.table.proofs.Timers.{timer_in_range_means}
use Rattle.due.specs.declared.Kept.{Kept}
use Rattle.due.specs.Kept.{no_kept, kept_sound}
use Rattle.due.proofs.NewestKept.{kept_sound_means as kept_means}
use Rattle.jobs.specs.declared.Job.{Job}
use Rattle.jobs.specs.Places.{max_places, no_job, jobs_of}
use Rattle.jobs.specs.Serials.{rising_above, rising_serials}
use Rattle.jobs.proofs.Changes.{distinct_means}
use Rattle.run.specs.declared.Run.{Run}
use Rattle.run.specs.Runs.{row_at, cost_limit, kept_of}
use Rattle.run.specs.Sound.{job_fits, allows, job_sound, jobs_sound, rows_sound, servers_sound, max_ended, serial_bound, sound_of}
use Rattle.run.specs.Sound.{SoundJob, Sound, Whole, SoundMeans}

-- ---- what the tests of jobs and rows mean

-- A number that passes the test is from 1 to the limit.
within : (most n : ℕ) → from_one_to most n ≡ true → (1 ≤ n) × (n ≤ most)
within most n e = let both = both_true (leb 1 n) (leb n most) e in (leb-true 1 n both.0, leb-true n most both.1)

-- A row number and a cost are allowed where the row number has a limit and the cost is from 1 to that limit.
pub allowed_means : (limits : List ℕ) (number cost : ℕ) → allows (cost_answer (limit_of limits number) cost) ≡ true
    → (number < length limits) × (1 ≤ cost) × (cost ≤ get_or limits number 0)
allowed_means limits number cost = to _ (cost_tested limits number cost)
  where
    to : (a : Result (Unit {0}) Refusal) → CostTested limits number cost a → allows a ≡ true
        → (number < length limits) × (1 ≤ cost) × (cost ≤ get_or limits number 0)
    to a (not_in_use h) e = impossible cc
    to a (out_of_range h o) e = impossible cc
    to a (allowed h l m) e = (h, l, m)

-- There are no more limits than rows and servers in use.
pub few_limits : (t : Table) → length (cost_limits t) ≤ t.count + t.serving
few_limits t =
    let both = length-append (cs_of (rows_of t)) (replicate t.serving max_c) in
    let cs = length-map (rows_of t) (λ (r : Row). r.c) in
    omega (arith, both, cs, length-take t.count t.rows, length-replicate t.serving max_c)

-- A row number that has a limit is in use.
pub in_use_where : (t : Table) (number : ℕ) → number < length (cost_limits t) → number < t.count + t.serving
in_use_where t number h = omega (arith, few_limits t)

-- The first of all limits that there is room for, as many as there are rows and servers in use, are the table's limits.
pub limits_lent : (t : Table) → t.count ≤ max_rows → length t.rows ≡ max_rows → t.serving ≤ max_servers
    → (all : List ℕ) → all ≡ held_limits t → take (t.count + t.serving) all ≡ cost_limits t
limits_lent t few places serving all e = ap (take (t.count + t.serving)) e ∙ sym (limits_are_the_first t few places serving)

-- There are at least as many limits as rows and servers in use.
pub enough_limits : (t : Table) → t.count ≤ max_rows → t.serving ≤ max_servers → (all : List ℕ) → all ≡ held_limits t → t.count + t.serving ≤ length all
enough_limits t few serving all e =
    let left = max_sources - length (rows_of t) in
    let both = length-append (cs_of (rows_of t)) (replicate left max_c) in
    let cs = length-map (rows_of t) (λ (r : Row). r.c) in
    rw e (omega (arith, both, cs, length-take t.count t.rows, length-replicate left max_c))

-- In this part, a table has room for all its rows, and no more are in use.
module _ (t : Table) (few : t.count ≤ max_rows) (places : length t.rows ≡ max_rows) where
  -- The limit at a row number in use is the most that a job of that row number may cost.
  pub limit_at : (number : ℕ) → number < t.count + t.serving → get_or (cost_limits t) number 0 ≡ cost_limit t number
  limit_at number in_use =
      by_lt number t.count
      (λ row. rw (lt-ltb number t.count row) (limit_is_its_c t number few places row))
      (λ server. rw (le-ltb number t.count server) (limit_of_a_server t number few places server in_use))

  module _ (clock next : ℕ) (j : Job) where
    -- A job that passes the test has the facts of a sound job.
    job_facts : job_sound (cost_limits t) clock next j ≡ true → SoundJob t clock next j
    unfolding job_sound job_fits
    job_facts e =
        let row = both_true _ _ e in
        let serial = both_true _ _ row.1 in
        let due = both_true _ _ serial.0 in
        let left = both_true _ _ due.0 in
        let cost = allowed_means (cost_limits t) j.row.0 j.cost row.0 in
        let in_use = in_use_where t j.row.0 cost.0 in
        record {
          row_in_use = in_use;
          released = leb-true _ _ left.0;
          some_cost = cost.1;
          cost_allowed = rw (limit_at j.row.0 in_use) at cost.2;
          some_left = (within _ _ left.1).0;
          left_of_cost = (within _ _ left.1).1;
          due_in_time = leb-true _ _ due.1;
          serial_given = ltb-true _ _ serial.1;
        }

    -- A job with the facts of a sound job passes the test.
    job_tested : SoundJob t clock next j → job_sound (cost_limits t) clock next j ≡ true
    unfolding job_sound job_fits
    job_tested s =
        simp (
          lt-ltb j.row.0 (length (cost_limits t)) (omega (arith, s.row_in_use, one_limit_for_each t few places)),
          limit_at j.row.0 s.row_in_use,
          le-leb _ _ s.released,
          le-leb _ _ s.some_cost,
          le-leb _ _ s.cost_allowed,
          le-leb _ _ s.some_left,
          le-leb _ _ s.left_of_cost,
          le-leb _ _ s.due_in_time,
          lt-ltb _ _ s.serial_given,
        )

module _ (limits : List ℕ) (clock next : ℕ) where
  -- Where the test of all jobs holds, each job is sound.
  each_job : (js : List Job) → jobs_sound limits clock next js ≡ true → (i : ℕ) → i < length js → job_sound limits clock next (get_or js i no_job) ≡ true
  each_job [] e i h = absurd (not-suc-le-zero h)
  each_job (j ∷ js) e zero h = (both_true _ _ e).0
  each_job (j ∷ js) e (suc i) h = each_job js (both_true (job_sound limits clock next j) _ e).1 i (le_of_suc-le-suc h)

  -- Where each job is sound, the test of all jobs holds.
  all_jobs : (js : List Job) → ((i : ℕ) → i < length js → job_sound limits clock next (get_or js i no_job) ≡ true) → jobs_sound limits clock next js ≡ true
  all_jobs [] f = refl
  all_jobs (j ∷ js) f = rw (f 0 (omega arith)) (all_jobs js (λ i h. f (suc i) (suc-le-suc h)))

-- A table may have the row, and its kept due times are sound.
abbrev RowSound : Row → Kept → Type 0
RowSound r k = (row_acceptable r ≡ true) × (kept_sound k r ≡ true)

-- Where the test of all rows holds, each row and its kept due times are sound.
each_row : (rs : List Row) (ks : List Kept) → length rs ≤ length ks → rows_sound rs ks ≡ true
    → (i : ℕ) → i < length rs → RowSound (get_or rs i no_row) (get_or ks i no_kept)
each_row [] ks l e i h = absurd (not-suc-le-zero h)
each_row (r ∷ rs) [] l e i h = absurd (not-suc-le-zero l)
each_row (r ∷ rs) (k ∷ ks) l e zero h = both_true _ _ (both_true _ (rows_sound rs ks) e).0
each_row (r ∷ rs) (k ∷ ks) l e (suc i) h =
    each_row rs ks (le_of_suc-le-suc l) (both_true (row_acceptable r && kept_sound k r) _ e).1 i (le_of_suc-le-suc h)

-- Where each row and its kept due times are sound, the test of all rows holds.
all_rows : (rs : List Row) (ks : List Kept) → ((i : ℕ) → i < length rs → RowSound (get_or rs i no_row) (get_or ks i no_kept)) → rows_sound rs ks ≡ true
all_rows [] ks f = refl
all_rows (r ∷ rs) [] f = refl
all_rows (r ∷ rs) (k ∷ ks) f = let p = f 0 (omega arith) in rw (p.0, p.1) (all_rows rs ks (λ i h. f (suc i) (suc-le-suc h)))

-- The last due time of a server that has no jobs yet.
abbrev pub no_time : Tick
no_time = record { 0 = 0 }

-- A table may have the server, and its last due time is at most 2^40.
abbrev ServerSound : Server → Tick → Type 0
ServerSound v l = (server_in_range v ≡ true) × (leb l.0 max_time ≡ true)

-- Where the test of all servers holds, each server and its last due time are sound.
each_server : (vs : List Server) (ls : List Tick) → length vs ≤ length ls → servers_sound vs ls ≡ true
    → (k : ℕ) → k < length vs → ServerSound (get_or vs k no_server) (get_or ls k no_time)
each_server [] ls l e k h = absurd (not-suc-le-zero h)
each_server (v ∷ vs) [] l e k h = absurd (not-suc-le-zero l)
each_server (v ∷ vs) (d ∷ ls) l e zero h = both_true _ _ (both_true _ (servers_sound vs ls) e).0
each_server (v ∷ vs) (d ∷ ls) l e (suc k) h =
    each_server vs ls (le_of_suc-le-suc l) (both_true (server_in_range v && leb d.0 max_time) _ e).1 k (le_of_suc-le-suc h)

-- Where each server and its last due time are sound, the test of all servers holds.
all_servers : (vs : List Server) (ls : List Tick) → ((k : ℕ) → k < length vs → ServerSound (get_or vs k no_server) (get_or ls k no_time))
    → servers_sound vs ls ≡ true
all_servers [] ls f = refl
all_servers (v ∷ vs) [] f = refl
all_servers (v ∷ vs) (d ∷ ls) f = let p = f 0 (omega arith) in rw (p.0, p.1) (all_servers vs ls (λ k h. f (suc k) (suc-le-suc h)))

-- ---- what the test of a run means

module _ (run : Run) (whole : Whole run) where
  abbrev table : Table
  table = run.table

  abbrev pending : List Job
  pending = jobs_of run.pending

  module _ (few : table.count ≤ max_rows) where
    -- The rows in use are as many as the table counts.
    counted : length (rows_of table) ≡ table.count
    counted = length-take-le table.count table.rows (omega (arith, whole.all_rows))

    -- A row in use stands at its number.
    at_number : (i : ℕ) → i < table.count → get_or (rows_of table) i no_row ≡ row_at table i
    at_number i h = get_or-take table.count table.rows i no_row h

    -- Where the test of all rows holds, the row of each row number in use is sound.
    each_numbered : rows_sound (rows_of table) run.kept ≡ true → (i : ℕ) → i < table.count → RowSound (row_at table i) (kept_of run i)
    each_numbered e i h =
        let enough : length (rows_of table) ≤ length run.kept = omega (arith, counted, whole.all_kept) in
        (rw (at_number i h) at (each_row (rows_of table) run.kept enough e i (omega (arith, counted))))

    -- Where the row of each row number in use is sound, the test of all rows holds.
    all_numbered : ((i : ℕ) → i < table.count → RowSound (row_at table i) (kept_of run i)) → rows_sound (rows_of table) run.kept ≡ true
    all_numbered f =
        all_rows (rows_of table) run.kept (λ i h. let k : i < table.count = omega (arith, counted) in rw (at_number i k) (f i k))

  module _ (few : table.serving ≤ max_servers) where
    -- The servers in use are as many as the table counts.
    counted_servers : length (servers_of table) ≡ table.serving
    counted_servers = length-take-le table.serving table.servers (omega (arith, whole.all_servers))

    -- A server in use stands at its place.
    at_place : (k : ℕ) → k < table.serving → get_or (servers_of table) k no_server ≡ get_or table.servers k no_server
    at_place k h = get_or-take table.serving table.servers k no_server h

    -- Where the test of all servers holds, each server in use is one that a table may have, and its last due time is at most 2^40.
    each_serving : servers_sound (servers_of table) run.last ≡ true → (k : ℕ) → k < table.serving
        → GoodServer (get_or table.servers k no_server) × ((get_or run.last k no_time).0 ≤ max_time)
    each_serving e k h =
        let enough : length (servers_of table) ≤ length run.last = omega (arith, counted_servers, whole.all_last) in
        let p = rw (at_place k h) at (each_server (servers_of table) run.last enough e k (omega (arith, counted_servers))) in
        ((server_in_range_means (get_or table.servers k no_server)).0 p.0, leb-true _ _ p.1)

    -- Where each server in use is one that a table may have, and its last due time is at most 2^40, the test of all servers holds.
    all_serving : ((k : ℕ) → k < table.serving → GoodServer (get_or table.servers k no_server))
        → ((k : ℕ) → k < table.serving → (get_or run.last k no_time).0 ≤ max_time) → servers_sound (servers_of table) run.last ≡ true
    all_serving good in_time =
        all_servers (servers_of table) run.last
        (λ k h.
        let l : k < table.serving = omega (arith, counted_servers) in
        rw (at_place k l) ((server_in_range_means (get_or table.servers k no_server)).1 (good k l), le-leb _ _ (in_time k l)))

  -- A run that passes the test has the facts of a sound run.
  sound_facts : sound_of run ≡ true → Sound run
  unfolding sound_of
  sound_facts e =
      let serials = both_true _ _ e in
      let apart = both_true _ _ serials.0 in
      let jobs = both_true _ _ apart.0 in
      let servers = both_true _ _ jobs.0 in
      let rows = both_true _ _ servers.0 in
      let ended = both_true _ _ rows.0 in
      let places = both_true _ _ ended.0 in
      let clock = both_true _ _ places.0 in
      let serving = both_true _ _ clock.0 in
      let timed = both_true _ _ serving.0 in
      let few = leb-true table.count max_rows timed.1 in
      let few_serving = leb-true table.serving max_servers serving.1 in
      record {
        good_timer = (timer_in_range_means table.s table.p).0 timed.0;
        few_rows = few;
        few_servers = few_serving;
        clock_in_time = leb-true _ _ clock.1;
        few_pending = leb-true _ _ places.1;
        few_ended = leb-true _ _ ended.1;
        rows = λ i h. ((acceptable_means (row_at table i)).0 (each_numbered few rows.1 i h).0).within_limits;
        c_within_d = λ i h. ((acceptable_means (row_at table i)).0 (each_numbered few rows.1 i h).0).c_within_d;
        kept = λ i h. (kept_means (kept_of run i) (row_at table i)).0 (each_numbered few rows.1 i h).1;
        servers = λ k h. (each_serving few_serving servers.1 k h).0;
        last = λ k h. (each_serving few_serving servers.1 k h).1;
        jobs = λ i h. job_facts table few whole.all_rows _ _ (get_or pending i no_job) (each_job _ _ _ pending jobs.1 i h);
        apart = (distinct_means pending).0 apart.1;
        serials = leb-true _ _ serials.1;
      }

  -- A run with the facts of a sound run passes the test.
  sound_tested : Sound run → sound_of run ≡ true
  unfolding sound_of
  sound_tested s =
      let row : (i : ℕ) → i < table.count → RowSound (row_at table i) (kept_of run i) =
      λ i h. (
        (acceptable_means (row_at table i)).1 (record { within_limits = s.rows i h; c_within_d = s.c_within_d i h }),
        (kept_means (kept_of run i) (row_at table i)).1 (s.kept i h),
      ) in
      simp (
        (timer_in_range_means table.s table.p).1 s.good_timer,
        le-leb table.count max_rows s.few_rows,
        le-leb table.serving max_servers s.few_servers,
        le-leb run.clock.0 max_time s.clock_in_time,
        le-leb run.pending.count max_places s.few_pending,
        le-leb run.ended max_ended s.few_ended,
        all_numbered s.few_rows row,
        all_serving s.few_servers s.servers s.last,
        all_jobs _ _ _ pending (λ i h. job_tested table s.few_rows whole.all_rows _ _ (get_or pending i no_job) (s.jobs i h)),
        (distinct_means pending).1 s.apart,
        le-leb run.next.0 (serial_bound run) s.serials,
      )

pub sound_means : SoundMeans
sound_means run whole = (sound_facts run whole, sound_tested run whole)

-- ---- the pending jobs, one after another

-- The job at a place.
abbrev job_at : List Job → (i : ℕ) → Job
job_at js i = get_or js i no_job

-- All jobs are sound exactly when the jobs from the place i on are.
pub record JobsFrom (limits : List ℕ) (clock next : ℕ) (js : List Job) (i : ℕ) : Type 0 where
  pub settled : jobs_sound limits clock next (drop i js) ≡ jobs_sound limits clock next js

module _ {limits : List ℕ} {clock next : ℕ} {js : List Job} {i : ℕ} (from : JobsFrom limits clock next js i) where
  -- Where no job is left to test, all jobs are sound.
  pub no_job_left : length js ≤ i → true ≡ jobs_sound limits clock next js
  no_job_left h = rw (drop_of_length-le js h) at from.settled

  module _ (here : i < length js) where
    -- Where a job is left, all jobs are sound exactly when the job at i and the jobs after it are.
    job_and_later : (job_sound limits clock next (job_at js i) && jobs_sound limits clock next (drop (i + 1) js)) ≡ jobs_sound limits clock next js
    job_and_later = rw add-one (rw (drop-cons js i no_job here) at from.settled)

    -- Where the row number or the cost of the job at i is refused, not all jobs are sound.
    pub job_not_allowed : (r : Refusal) → cost_answer (limit_of limits (job_at js i).row.0) (job_at js i).cost ≡ Err r
        → false ≡ jobs_sound limits clock next js
    unfolding job_sound
    job_not_allowed r h = rw h at job_and_later

    module _ (ok : cost_answer (limit_of limits (job_at js i).row.0) (job_at js i).cost ≡ Ok tt) where
      -- Where the job at i does not fit, not all jobs are sound.
      pub job_does_not_fit : job_fits clock next (job_at js i) ≡ false → false ≡ jobs_sound limits clock next js
      unfolding job_sound
      job_does_not_fit h = rw (ok, h) at job_and_later

      -- Where the job at i fits, all jobs are sound exactly when the jobs after it are.
      pub job_does_fit : job_fits clock next (job_at js i) ≡ true → JobsFrom limits clock next js (i + 1)
      unfolding job_sound
      job_does_fit h = record { settled = rw (ok, h) at job_and_later }

-- A job that fits has a serial below the next serial.
pub serial_below : (clock next : ℕ) (j : Job) → job_fits clock next j ≡ true → j.serial.0 < next
unfolding job_fits
serial_below clock next j e =
    let before = leb j.release.0 clock && from_one_to j.cost j.left && leb j.due.0 max_time in
    ltb-true j.serial.0 next (both_true before (ltb j.serial.0 next) e).1

-- The serials rise, and the first of them is at least `lowest`.
abbrev rises_from : (lowest : ℕ) → List Job → Bool
rises_from lowest [] = true
rises_from lowest (j ∷ js) = leb lowest j.serial.0 && rising_above j.serial.0 js

-- The serials before the place i rise, as far as `rising` says so: if those from i on rise too, and the first of them is at least `lowest`, all serials rise.
abbrev pub RisenTo : List Job → (rising : Bool) (lowest i : ℕ) → Type 0
RisenTo js rising lowest i = rising ≡ true → rises_from lowest (drop i js) ≡ true → rising_serials js ≡ true

-- Serials that rise above s are those that rise from s + 1 on.
above_is_from : (s : ℕ) (js : List Job) → rising_above s js ≡ rises_from (s + 1) js
above_is_from s [] = refl
above_is_from s (j ∷ js) = elim (dec_lt s j.serial.0) [
  | yes h ↦ rw (lt-ltb s j.serial.0 h, le-leb (s + 1) j.serial.0 (omega arith))
  | no h ↦ rw (le-ltb s j.serial.0 (omega arith), lt-leb (s + 1) j.serial.0 (omega arith))
]

module _ (js : List Job) (rising : Bool) (lowest i : ℕ) (risen : RisenTo js rising lowest i) where
  -- Where no job is left, all serials rise.
  pub all_risen : length js ≤ i → rising ≡ true → rising_serials js ≡ true
  all_risen h r = risen r (rw (drop_of_length-le js h))

  -- Where the serial at i is at least `lowest`, the serials up to and with it rise.
  pub rises_on : i < length js → lowest ≤ (job_at js i).serial.0 → RisenTo js rising ((job_at js i).serial.0 + 1) (i + 1)
  rises_on h l r e =
      let here = (job_at js i).serial.0 in
      risen r (rw (drop-cons js i no_job h, le-leb lowest here l, above_is_from here (drop (suc i) js)) (rw (add-one i) at e))

-- ---- the rows and the servers, each beside what is kept for it

-- The rows are tested one by one, each with its kept due times.
pub rows_tested : (rs : List Row) (ks : List Kept)
    → list_all (λ (p : Row × Kept). row_acceptable p.0 && kept_sound p.1 p.0) (zip rs ks) ≡ rows_sound rs ks
rows_tested [] ks = refl
rows_tested (r ∷ rs) [] = refl
rows_tested (r ∷ rs) (k ∷ ks) = ap (◌&&◌ (row_acceptable r && kept_sound k r)) (rows_tested rs ks)

-- The servers are tested one by one, each with its last due time.
pub servers_tested : (vs : List Server) (ls : List Tick)
    → list_all (λ (p : Server × Tick). server_in_range p.0 && leb p.1.0 max_time) (zip vs ls) ≡ servers_sound vs ls
servers_tested [] ls = refl
servers_tested (v ∷ vs) [] = refl
servers_tested (v ∷ vs) (l ∷ ls) = ap (◌&&◌ (server_in_range v && leb l.0 max_time)) (servers_tested vs ls)
