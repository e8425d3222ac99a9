-- One tick, as the calls make it: nothing is pending, or the job that goes first gets a unit. What one look at the jobs says about it.
use Rattle.std.specs.Prelude.{Some, None}
use Prim.Native.Nat.{ℕ, ◌+◌, ◌≤◌, ◌<◌}
use mathlib.Core.Path.{◌≡◌, sym, ap, ◌∙◌}
use mathlib.Core.Bool.{Bool, cond}
use native.Mathlib.Omega.{arith}
use lib.ListN.{get_or}
use borrow.Author.Tests.{eq-eqb, ne_eqb}
use Rattle.jobs.specs.declared.Pending.{Pending}
use Rattle.jobs.specs.declared.FirstJob.{FirstJob}
use Rattle.jobs.specs.declared.Look.{Look}
use Rattle.jobs.specs.declared.Turned.{Turned}
use Rattle.jobs.specs.Places.{no_job, jobs_of, used}
use Rattle.jobs.specs.Choice.{first_place}
use Rattle.jobs.specs.Units.{ran_of, after}
use Rattle.jobs.specs.Late.{late_count}
use Rattle.jobs.specs.OneLook.{look_of, finishes_when_due}
use Rattle.jobs.specs.Turns.{first_job, one_tick, turned}
use Rattle.jobs.proofs.First.{nobody_found, found_is_first}
use Rattle.jobs.proofs.Changes.{first_is_there, place_holds_job}
use Rattle.jobs.proofs.OneLook.{late_after}

-- This is the outcome of a tick if nothing is pending.
abbrev pub idle_turn : Pending → Turned
idle_turn p = record { pending = p; turn = None; late = 0 }

-- This is the outcome of a tick that takes the clock to `clock`, if the job that goes first gets the unit.
abbrev pub busy_turn : Pending → (clock : ℕ) → Turned
busy_turn p clock = record { pending = one_tick p; turn = Some (ran_of (first_job p)); late = late_count clock (jobs_of (one_tick p)) }

module _ (p : Pending) (clock : ℕ) where
  -- If nothing is pending, the tick is idle.
  pub turned_idle : used p ≡ 0 → turned p clock ≡ idle_turn p
  unfolding turned
  turned_idle e = rw (eq-eqb (used p) 0 e)

  -- If a job is pending, the job that goes first gets the unit.
  pub turned_busy : 1 ≤ used p → turned p clock ≡ busy_turn p clock
  unfolding turned
  turned_busy h = rw (ne_eqb (used p) 0 (λ e. omega arith))

-- ---- what the look says

-- The look has found the job that goes first, and its place is in use.
pub record Found (p : Pending) (f : FirstJob) : Type 0 where
  pub some : 1 ≤ used p
  pub place : f.place ≡ first_place (jobs_of p)
  pub inside : f.place < used p
  pub job : f.job ≡ get_or p.places f.place no_job

module _ (p : Pending) (clock : ℕ) (l : Look) (e : l ≡ look_of clock (jobs_of p)) where
  -- If the look has found nobody, the tick is idle.
  pub nobody_gets_it : l.first ≡ None → idle_turn p ≡ turned p clock
  nobody_gets_it none = sym (turned_idle p clock (nobody_found (jobs_of p) (sym (ap (λ (l : Look). l.first) e) ∙ none)))

  module _ (f : FirstJob) (is : l.first ≡ Some f) where
    pub found : Found p f
    found =
        let first = found_is_first (jobs_of p) f (sym (ap (λ (l : Look). l.first) e) ∙ is) in
        let inside : f.place < used p = omega (arith, first.1, first_is_there p first.0) in record {
          some = first.0;
          place = first.1;
          inside = inside;
          job = first.2 ∙ ap (λ (at : ℕ). get_or (jobs_of p) at no_job) (sym first.1) ∙ sym (place_holds_job p f.place inside);
        }

    -- The late count after the unit, with one more if the job finishes when it is due, is what the look counted.
    pub late_counted : (b : Bool) → b ≡ finishes_when_due clock f.job → late_count clock (jobs_of (after p f.place)) + cond b 1 0 ≡ l.late
    late_counted b d =
        late_after clock p f.place found.inside b (sym (rw found.job at d)) ∙ sym (ap (λ (l : Look). l.late) e)

    -- The job that the look found gets the unit.
    pub first_gets_it : (next : Pending) (late : ℕ) → next ≡ after p f.place → late ≡ late_count clock (jobs_of (after p f.place))
        → record { pending = next; turn = Some (ran_of f.job); late = late } ≡ turned p clock
    first_gets_it next late n d = rw (n, d, found.job, found.place) (sym (turned_busy p clock found.some))
