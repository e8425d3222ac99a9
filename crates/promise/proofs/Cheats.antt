-- The cheats are shut out: the proofs.
use Rattle.std.specs.Prelude.{Result, Ok, Err}
use Rattle.kinds.specs.declared.Refusal.{Refusal}
use Rattle.kinds.specs.declared.RefusedAt.{RefusedAt}
use Prim.Native.Nat.{ℕ, ◌≤◌, ◌<◌}
use mathlib.Core.Path.{◌≡◌, refl}
use mathlib.Core.List.{flatten}
use native.Mathlib.Omega.{arith}
use Rattle.kinds.proofs.Apart.{impossible}
use Rattle.numbers.specs.Reading as reading
use Rattle.numbers.specs.Spelling as spelling
use Rattle.theory.specs.DueTimes.{due_time}
use Rattle.table.specs.declared.Table.{Table}
use Rattle.table.specs.Servers as servers
use Rattle.table.specs.Tables.{table_read, read_rows}
use Rattle.table.specs.Period.{first_multiple, least_common_multiple}
use Rattle.due.specs.Kept.{due_of, kept_with, kept_sound}
use Rattle.jobs.specs.Places.{put, taken_out}
use Rattle.jobs.specs.Units.{after}
use Rattle.jobs.specs.Late.{late_count}
use Rattle.jobs.specs.Choice.{goes_before}
use Rattle.verdict.specs.declared.Witness.{Witness}
use Rattle.verdict.specs.declared.Verdict.TheVariants as verdict
use Rattle.verdict.specs.Demand.{table_demand}
use Rattle.verdict.specs.Verdict.{RightOfRead}
use Rattle.verdict.proofs.Verdicts.{one_verdict}
use Rattle.run.specs.declared.Accepted.{Accepted}
use Rattle.run.specs.Sound.{sound_of, job_fits, job_sound}
use Rattle.run.specs.Release.{released}
use Rattle.run.specs.Ticking.{ticked}
use Rattle.run.specs.Answers.{accepted, release_says}
use Rattle.run.proofs.Ticking.{idle_means}
use Rattle.play.proofs.OnItsWay.{release_adds_one}
use Rattle.promise.specs.Traces.{run_at}
use Rattle.promise.specs.Examples.{v1, v8}
use Rattle.promise.specs.Cheats.{NotAllRefused, NotAllReleasesRefused, NotAlwaysFeasible, NoBlankWitness, NotAlwaysIdle, NotIdleAfterARelease}
use Rattle.promise.proofs.NoOrder.{says_overloaded}
use Rattle.promise.proofs.Examples.{v1_is_feasible, v8_is_overloaded}

-- ---- verdicts

pub not_all_refused : NotAllRefused
not_all_refused v judged = rw (one_verdict v1 v verdict.Feasible judged v1_is_feasible)

pub not_always_feasible : NotAlwaysFeasible
not_always_feasible v judged = rw (one_verdict v8 v (verdict.Overloaded (record { length = 26; demand = 27 })) judged v8_is_overloaded)

-- The witness of a right overloaded verdict has a length that fails, and the table's demand in it.
witness_is_right : (t : Table) (a : Result ℕ RefusedAt) (w : Witness) → RightOfRead t a (verdict.Overloaded w)
    → (1 ≤ w.length) × (w.length < w.demand) × (w.demand ≡ table_demand t w.length)
witness_is_right t (Ok period) w right = (right.0.some_length, rw right.1 right.0.fails, right.1)
witness_is_right t (Err r) w right = impossible cc

pub no_blank_witness : NoBlankWitness
no_blank_witness bytes v judged L units said =
    witness_is_right (table_read bytes).table (table_read bytes).answer (record { length = L; demand = units })
    (rw (says_overloaded v L units said) at judged)

-- ---- releases and ticks

pub not_all_releases_refused : NotAllReleasesRefused
unfolding
    run_at released sound_of job_fits job_sound put due_of kept_with kept_sound due_time read_rows servers.read_servers least_common_multiple first_multiple reading.spelt
    spelling.groups_of flatten
not_all_releases_refused = refl

pub not_always_idle : NotAlwaysIdle
unfolding
    run_at released ticked sound_of job_fits job_sound put taken_out after late_count goes_before due_of kept_with kept_sound due_time read_rows servers.read_servers
    least_common_multiple first_multiple reading.spelt spelling.groups_of flatten
not_always_idle = refl

-- An answer that says accepted is an accepted release.
says_accepted : (r : Result Accepted Refusal) (serial due : ℕ) → release_says r ≡ accepted serial due → (a : Accepted) × (r ≡ Ok a)
says_accepted (Ok a) serial due said = (a, refl)
says_accepted (Err r) serial due said = impossible cc

-- A tick is idle only where nothing is pending, and after an accepted release something is pending.
pub not_idle_after_a_release : NotIdleAfterARelease
unfolding run_at
not_idle_after_a_release bytes ok calls row cost serial due said none =
    let run = run_at bytes calls in
    let was = says_accepted (released run row cost).answer serial due said in
    omega (arith, ((idle_means (released run row cost).run).0 none).3, (release_adds_one run row cost was.0 was.1).0)
