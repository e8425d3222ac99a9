-- A record is played on arrays: after the ticks until its script time, its job is refused or put in. (docs/RULES.md, sections 6.6 to 6.9, 8.2 and 8.5.)
use Rattle.std.specs.Prelude.{Result, Ok, Err}
use Prim.Native.Nat.{ℕ, ◌+◌, ◌≤◌, ◌<◌}
use mathlib.Core.Path.{◌≡◌, sym, ap, ap₂, subst, ◌∙◌}
use mathlib.Core.List.{List, [], ◌∷◌, ◌++◌}
use native.Mathlib.Omega.{arith}
use lib.Dec.{eqb}
use lib.ListN.{get_or, length}
use borrow.Author.Tests.{lt-ltb}
use Rattle.kinds.specs.Numbering.{max_time}
use Rattle.kinds.specs.declared.Refusal.{Refusal}
use Rattle.kinds.specs.declared.Refusal.TheVariants.{PlacesFull}
use Rattle.kinds.specs.declared.Serial.{Serial}
use Rattle.kinds.specs.declared.Tick.{Tick}
use Rattle.theory.proofs.Cases.{by_test}
use Rattle.table.specs.declared.Table.{Table}
use Rattle.table.specs.Limits.{max_servers}
use Rattle.due.specs.OddJobs.{odd_due_of}
use Rattle.jobs.specs.declared.Job.{Job}
use Rattle.jobs.specs.Places.{max_places}
use Rattle.columns.specs.declared.Columns.{Columns}
use Rattle.columns.specs.Columns.{max_entries, used_in, start_in, with_room, put_in, put_answer}
use Rattle.rings.specs.declared.Rings.{Rings}
use Rattle.rings.specs.Rings.{due_in, rings_after_due}
use Rattle.rings.specs.RingShapes.{RingsHold}
use Rattle.rings.proofs.Holding.{due_is_the_rows, holds_on}
use Rattle.run.specs.declared.Run.{Run}
use Rattle.run.specs.declared.ReleaseStep.{ReleaseStep}
use Rattle.run.specs.Release.{new_job, kept_by_release, last_by_release, with_job, due_next, released}
use Rattle.run.proofs.Release.{Passed, passes, places_full, due_of_row, due_of_server, due_settles}
use Rattle.run.proofs.Release.{kept_by_row, kept_by_server, last_by_row, last_by_server}
use Rattle.run.proofs.Ticking.{Good, facts}
use Rattle.records.specs.declared.Ready.{Ready}
use Rattle.play.specs.Play.{Progress, stops, ticked_to, released_at}
use Rattle.play.proofs.SingleTicks.{TicksFrom}
use Rattle.play.proofs.OnItsWay.{released_on}
use Rattle.replay.specs.declared.Going.{Going}
use Rattle.replay.specs.declared.Source.{Source}
use Rattle.replay.specs.declared.Source.TheVariants as source
use Rattle.replay.specs.Arrays.{TickArrays, ArraysHoldRun, LeadsTo, lasts_after_due, tick_arrays_in, ArraysHoldPlay}
use Rattle.replay.specs.Arrays.{PlaceInRange, SourceOf, MayRelease, SteppedTo}
use Rattle.replay.proofs.OneRecord.{held_at, arrived_keeps, stands_arrived, release_accepted, stands_released}

-- Where a place is unused, putting in a job is done.
pub put_done : (c : Columns) → c.count < max_places → put_answer c ≡ Ok tt
put_done c room = rw (lt-ltb c.count max_places room)

-- Where a place is unused, one more job is pending once it is put in.
one_more_in : (c : Columns) (j : Job) → c.count < max_places → (put_in c j).count ≡ c.count + 1
unfolding put_in with_room
one_more_in c j room =
    rw (lt-ltb c.count max_places room) (by_test (eqb (start_in c + used_in c) max_entries) (λ full. rw full (omega arith)) (λ free. rw free (omega arith)))

-- ---- the due time of a row's or a server's job

-- A server that has its row number in use stands at a place that a table has room for.
pub place_in_range : (t : Table) → t.serving ≤ max_servers → (number : ℕ) (from : Source) → SourceOf t number from → PlaceInRange from
place_in_range t few number (source.Row r) its = tt
place_in_range t few number (source.Server o) its = omega (arith, its.1, its.3)

-- The due time of the next job of a row or a server, released at t with a stated cost, by what the arrays of a play hold. (4.2, 4.3, 4.9)
abbrev pub due_by : Going → (number : ℕ) → Source → (t cost : ℕ) → Result Tick Refusal
due_by g number (source.Row r) t cost = due_in g.rings number r t cost
due_by g number (source.Server o) t cost = odd_due_of o.server (get_or g.lasts o.place (record { 0 = 0 })).0 t cost

-- The rings after an answer about the next job of a row or a server. A server's answer leaves them alone. (4.6)
abbrev pub rings_by : Result Tick Refusal → Going → (number : ℕ) → Source → Rings
rings_by d g number (source.Row r) = rings_after_due d g.rings number r
rings_by d g number (source.Server o) = g.rings

-- The last due times after an answer about the next job of a row or a server. A row's answer leaves them alone. (4.9)
abbrev pub lasts_by : Result Tick Refusal → Going → Source → List Tick
lasts_by d g (source.Row r) = g.lasts
lasts_by d g (source.Server o) = lasts_after_due d g.lasts o.place

-- The due time of a job was asked for, by the arrays of a play: the answer is `d`, and afterwards there are these rings and last due times.
pub record WasAsked (g : Going) (number : ℕ) (from : Source) (t cost : ℕ) (d : Result Tick Refusal) (kept : Rings) (lasts : List Tick) : Type 0 where
  pub given : d ≡ due_by g number from t cost
  pub rings_then : kept ≡ rings_by d g number from
  pub lasts_then : lasts ≡ lasts_by d g from

-- In this part, the arrays of a play hold what a run keeps of due times.
module _ (run : Run) (g : Going) (kept : RingsHold g.rings run.table.count run.table.rows run.kept) (last : run.last ≡ g.lasts)
    (number : ℕ) where
  -- The due time by the arrays is that of the run's next job of the row number.
  due_by_arrays : (cost : ℕ) (from : Source) → SourceOf run.table number from → due_next run number cost ≡ due_by g number from run.clock.0 cost
  due_by_arrays cost (source.Row r) its =
      due_of_row run number cost its.0
      ∙ rw its.1 (sym (due_is_the_rows g.rings run.table.count run.table.rows run.kept kept number run.clock.0 cost its.0))
  due_by_arrays cost (source.Server o) its =
      due_of_server run number cost its.0
      ∙ rw (its.2, its.3, last)

  -- The rings after a due time was given hold the kept due times of the run after the release.
  kept_by_arrays : run.table.count ≤ length run.kept → (u : Tick) (from : Source) → SourceOf run.table number from
      → RingsHold (rings_by (Ok u) g number from) run.table.count run.table.rows (kept_by_release run number u)
  kept_by_arrays room u (source.Row r) its =
      rw (kept_by_row run number u its.0, its.1)
      (holds_on g.rings run.table.count run.table.rows run.kept kept room number u its.0)
  kept_by_arrays room u (source.Server o) its = rw (kept_by_server run number u its.0) kept

  -- The last due times after a due time was given are those of the run after the release.
  last_by_arrays : (u : Tick) (from : Source) → SourceOf run.table number from → last_by_release run number u ≡ lasts_by (Ok u) g from
  last_by_arrays u (source.Row r) its = last_by_row run number u its.0 ∙ last
  last_by_arrays u (source.Server o) its =
      last_by_server run number u its.0 ∙ rw (its.3, last)

-- ---- a record

module _ {p : Progress} {log₀ log : List ℕ} {g : Going} (w : ArraysHoldPlay p log₀ log g) {ts tp : ℕ} {ready : Ready} {from : Source}
    (may : MayRelease ts tp p ready from) (in_time : ready.time.0 ≤ max_time) {h : TickArrays} (led : LeadsTo ts tp ready.time.0 (tick_arrays_in log g) h)
    (place : ℕ) where
  -- `there` is the play at the record's script time, and `run` is its run.
  abbrev there : Progress
  there = ticked_to ready.time.0 p

  abbrev run : Run
  run = there.so_far.run

  ahead : g.clock.0 ≤ ready.time.0
  ahead = omega (arith, w.stands.clocks, may.ahead)

  stands_there : ArraysHoldRun there.so_far log₀ (held_at ready.time.0 h)
  stands_there = stands_arrived w.stands ahead in_time may.its_timer led

  keeps : TicksFrom p.so_far there.so_far
  keeps = arrived_keeps w.stands ahead in_time

  good : Good run
  good = stands_there.on_its_way.good

  -- At that time the record's row or server is still that of its row number, and the arrays still hold what the run keeps of due times.
  its_source : SourceOf run.table ready.row.0 from
  its_source = subst (λ (t : Table). SourceOf t ready.row.0 from) (sym keeps.same_table) may.its_source

  kept_there : RingsHold g.rings run.table.count run.table.rows run.kept
  kept_there = rw (keeps.same_table, keeps.same_kept) w.kept

  last_there : run.last ≡ g.lasts
  last_there = keeps.same_last ∙ w.last_held

  -- Where the release is refused, the play stops with that refusal at the record's start.
  refused_so : {refusal : Refusal} → (released run ready.row.0 ready.cost).answer ≡ Err refusal
      → released_at place ready there ≡ stops (record { refusal = refusal; place = place })
  refused_so e = rw e

  -- Where all places are in use, the play stops with 8.
  pub stops_full : max_places ≤ h.jobs.count → released_at place ready there ≡ stops (record { refusal = PlacesFull; place = place })
  stops_full full =
      refused_so (ap (λ (x : ReleaseStep). x.answer)
      (sym (places_full run ready.row.0 ready.cost good.0 (rw keeps.same_table may.allowed) (omega (arith, stands_there.counts)))))

  -- From here on a place is unused.
  module _ (room : h.jobs.count < max_places) {d : Result Tick Refusal} {rings_after : Rings} {lasts_after : List Tick}
      (asked : WasAsked g ready.row.0 from ready.time.0 ready.cost d rings_after lasts_after) where
    passed : Passed run ready.row.0 ready.cost
    passed = passes run ready.row.0 ready.cost good.0 (rw keeps.same_table may.allowed) (omega (arith, stands_there.counts))

    -- The due time by the arrays is that of the run's next job of the record's row number.
    due_so : due_next run ready.row.0 ready.cost ≡ d
    due_so =
        due_by_arrays run g kept_there last_there ready.row.0 ready.cost from its_source
        ∙ ap (λ (t : ℕ). due_by g ready.row.0 from t ready.cost) stands_there.clocks ∙ sym asked.given

    -- Where the due time is above 2^40, the play stops with its refusal.
    pub stops_due : {refusal : Refusal} → d ≡ Err refusal → released_at place ready there ≡ stops (record { refusal = refusal; place = place })
    stops_due {refusal} e =
        refused_so (ap (λ (x : ReleaseStep). x.answer) (sym (due_settles run ready.row.0 ready.cost passed (Err refusal) (due_so ∙ e))))

    -- From here on the due time is given. It is kept, and the job is put in.
    module _ {u : Tick} (e : d ≡ Ok u) where
      -- `job` is the job as the code makes it.
      abbrev job : Job
      job = record { serial = g.next; row = ready.row; release = ready.time; due = u; cost = ready.cost; left = ready.cost }

      job_so : job ≡ new_job run ready.row.0 ready.cost u
      job_so =
          let serial : run.next ≡ g.next = keeps.same_next ∙ w.same_next in
          let clock : run.clock ≡ ready.time = ap (λ (t : ℕ). record { 0 = t }) stands_there.clocks in
          sym (ap₂ (λ (s : Serial). λ (t : Tick).
          record { serial = s; row = ready.row; release = t; due = u; cost = ready.cost; left = ready.cost }) serial clock)

      module _ {jobs : Columns} (jobs_are : jobs ≡ put_in h.jobs job) where
        -- `going` is how far the play has come after the release.
        abbrev going : Going
        going = record {
          jobs = jobs;
          rings = rings_after;
          lasts = lasts_after;
          clock = ready.time;
          next = record { 0 = g.next.0 + 1 };
          logged = h.logged;
        }

        put_so : jobs ≡ put_in h.jobs (new_job run ready.row.0 ready.cost u)
        put_so = jobs_are ∙ ap (put_in h.jobs) job_so

        one_more : jobs.count ≡ h.jobs.count + 1
        one_more = ap (λ (c : Columns). c.count) jobs_are ∙ one_more_in h.jobs job room

        accepted : released run ready.row.0 ready.cost ≡ record {
          run = with_job run ready.row.0 ready.cost u;
          answer = Ok (record { serial = run.next; due = u });
        }
        accepted = release_accepted stands_there passed (due_so ∙ e)

        -- The play goes on after the record, and the arrays hold it.
        pub goes_further : SteppedTo (released_at place ready there) ready.next log₀ h.log going (Ok tt)
        goes_further = (
          record {
            so_far = released_on there.so_far ready.row.0 ready.cost;
            accepted = p.accepted ++ (new_job run ready.row.0 ready.cost u ∷ []);
          },
          rw (ap (λ (x : ReleaseStep). x.answer) accepted),
          record {
            stands = stands_released stands_there passed (due_so ∙ e) put_so one_more;
            kept = rw (accepted, asked.rings_then, e)
                (kept_by_arrays run g kept_there last_there ready.row.0 (omega (arith, (facts run good).few_rows, good.1.all_kept)) u from its_source);
            last_held = rw (accepted, asked.lasts_then, e) (last_by_arrays run g kept_there last_there ready.row.0 u from its_source);
            same_next = rw (accepted, keeps.same_next, w.same_next);
          },
        )
