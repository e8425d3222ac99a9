-- Traces: what a scheduler did, event by event. A trace knows nothing about tables, verdicts, limits or rules of choice. A job is accepted at the clock; a tick
-- is taken, idles, or gives a unit to any job that waits; a job leaves early. A job waits while it is pending. That the unit goes to a job with the earliest
-- due time, and that no tick idles while a job waits, are two predicates on traces; another rule of choice would be another predicate. The theorem is: where
-- both hold, a job is late only if some window that ends at its due time asked for more than its free ticks. (docs/RULES.md, section 6.)
use Rattle.std.specs.Prelude.{ℕ, suc, ◌+◌, ◌≤◌, ◌<◌, ◌≡◌, ◌≢◌, Bool, true, false, length}
use Rattle.std.proofs.Math.Option.{Option, none, some}
use mathlib.Core.List.{List, [], ◌∷◌, Memᴰ}
use Rattle.theory.specs.Lists.{All, total, weight_if, Insert}
use Rattle.theory.specs.Curves.{EveryLengthFits}
use Rattle.theory.specs.Jobs.{Job, DistinctNames, named, due_by, costs, asked, BoundedBy}
use Rattle.theory.specs.Ticks.{free, had, none_taken, TakenAtMost}

-- A job that waits, and its units left. (1.7)
pub record Waiting : Type 0 where
  pub job : Job
  pub left : ℕ

-- How many units the job named n has been given in the ticks so far. Each entry of `ticks` says which job had that tick, if any, and the newest stands first.
-- Such a list is made from the answers of a run's ticks. (6.26)
unfoldable pub units : (n : ℕ) → List (Option ℕ) → ℕ
units n ticks = total (had n) ticks

-- What waits after the job j was given a unit. `left` is its units left after that, `rest` are the other jobs that wait, and `after` is what waits then.
pub data Onward (j : Job) : (left : ℕ) (rest after : List Waiting) → Type 0 where
  -- The job has no units left, so it is finished and waits no more. (1.7)
  done : {rest : List Waiting} → Onward j 0 rest rest
  -- The job has units left, so it still waits, somewhere among the rest.
  on : {left : ℕ} {rest after : List Waiting} → Insert (record { job = j; left = suc left }) rest after → Onward j (suc left) rest after

-- A trace up to the clock, with four lists: the jobs that wait, the jobs accepted so far, which job had each tick, and the jobs that left early with their
-- units left then. The last three lists have the newest first.
pub data Trace (taken : ℕ → Bool) : (clock : ℕ) → List Waiting → List Job → List (Option ℕ) → List Waiting → Type 0 where
  -- Nothing has happened yet, and the clock is at 0.
  begin : Trace taken 0 [] [] [] []
  -- A job of cost 1 or more is accepted, released at the clock, with as many units left as it costs.
  accept : {t : ℕ} {waiting after : List Waiting} {accepted : List Job} {ticks : List (Option ℕ)} {left_early : List Waiting}
      → Trace taken t waiting accepted ticks left_early
      → (j : Job) → j.release ≡ t → 1 ≤ j.cost → Insert (record { job = j; left = j.cost }) waiting after
      → Trace taken t after (j ∷ accepted) ticks left_early
  -- A taken tick goes by, which no job can have.
  lost : {t : ℕ} {waiting : List Waiting} {accepted : List Job} {ticks : List (Option ℕ)} {left_early : List Waiting}
      → Trace taken t waiting accepted ticks left_early → taken t ≡ true
      → Trace taken (suc t) waiting accepted (none ∷ ticks) left_early
  -- A free tick goes by that no job has.
  idle : {t : ℕ} {waiting : List Waiting} {accepted : List Job} {ticks : List (Option ℕ)} {left_early : List Waiting}
      → Trace taken t waiting accepted ticks left_early → taken t ≡ false
      → Trace taken (suc t) waiting accepted (none ∷ ticks) left_early
  -- A free tick gives one unit to a job that waits. (6.10)
  serve : {t : ℕ} {waiting after : List Waiting} {accepted : List Job} {ticks : List (Option ℕ)} {left_early : List Waiting}
      → Trace taken t waiting accepted ticks left_early → taken t ≡ false
      → (j : Job) (left : ℕ) {rest : List Waiting} → Insert (record { job = j; left = suc left }) rest waiting → Onward j left rest after
      → Trace taken (suc t) after accepted (some j.name ∷ ticks) left_early
  -- A job that waits leaves early, before it has had its cost.
  leave : {t : ℕ} {waiting rest : List Waiting} {accepted : List Job} {ticks : List (Option ℕ)} {left_early : List Waiting}
      → Trace taken t waiting accepted ticks left_early → (w : Waiting) → Insert w rest waiting
      → Trace taken t rest accepted ticks (w ∷ left_early)

-- ---- rules of choice, as predicates on a trace

module _ {taken : ℕ → Bool} where
  -- Every unit went to a job with the earliest due time among those that waited. This leaves open which one, where several have that due time. The rules'
  -- choice, the lowest serial, is one way to settle it.
  unfoldable pub ServesEarliestDue : {t : ℕ} {waiting : List Waiting} {accepted : List Job} {ticks : List (Option ℕ)} {left_early : List Waiting}
      → Trace taken t waiting accepted ticks left_early → Type 0
  ServesEarliestDue begin = Unit {0}
  ServesEarliestDue (accept r j at some_cost put) = ServesEarliestDue r
  ServesEarliestDue (lost r k) = ServesEarliestDue r
  ServesEarliestDue (idle r k) = ServesEarliestDue r
  ServesEarliestDue (serve {waiting = waiting} r k j left from goes) = All (λ w. j.due ≤ w.job.due) waiting × ServesEarliestDue r
  ServesEarliestDue (leave r w from) = ServesEarliestDue r

  -- No free tick idled while a job waited. (6.12)
  unfoldable pub NeverIdlesInVain : {t : ℕ} {waiting : List Waiting} {accepted : List Job} {ticks : List (Option ℕ)} {left_early : List Waiting}
      → Trace taken t waiting accepted ticks left_early → Type 0
  NeverIdlesInVain begin = Unit {0}
  NeverIdlesInVain (accept r j at some_cost put) = NeverIdlesInVain r
  NeverIdlesInVain (lost r k) = NeverIdlesInVain r
  NeverIdlesInVain (idle {waiting = waiting} r k) = (waiting ≡ []) × NeverIdlesInVain r
  NeverIdlesInVain (serve r k j left from goes) = NeverIdlesInVain r
  NeverIdlesInVain (leave r w from) = NeverIdlesInVain r

-- ---- definitions for what is proved

-- The units left of the jobs of a kind, added up over a list of jobs that wait or that left early. (1.7)
unfoldable pub units_left : (kind : Job → Bool) → List Waiting → ℕ
units_left kind ws = total (weight_if (λ w. kind w.job) (λ w. w.left)) ws

-- The invariant of earliest due first, for a time D and the clock t. There is a window from `from` to D, begun at t or before. The units left of the waiting
-- jobs that are due by D, plus the free ticks of the window up to t, are at most what the jobs accepted so far ask for in the window.
pub record Busy (taken : ℕ → Bool) (t : ℕ) (waiting : List Waiting) (accepted : List Job) (D : ℕ) : Type 0 where
  pub from : ℕ
  pub begun : from ≤ t
  pub bound : units_left (due_by D) waiting + free taken from t ≤ asked from D accepted

-- A job that waits or that left early was accepted, has at least 1 unit left, and has been given the rest of its cost.
pub record Accounted (accepted : List Job) (ticks : List (Option ℕ)) (w : Waiting) : Type 0 where
  pub was_accepted : Memᴰ w.job accepted
  pub some_left : 1 ≤ w.left
  pub had_the_rest : units w.job.name ticks + w.left ≡ w.job.cost

-- The job j stands in a list of jobs that wait or that left early, has at least 1 unit left, and has been given the rest of its cost.
pub record Unfinished (j : Job) (ws : List Waiting) (ticks : List (Option ℕ)) : Type 0 where
  pub left : ℕ
  pub some_left : 1 ≤ left
  pub among : Memᴰ (record { job = j; left = left }) ws
  pub had_the_rest : units j.name ticks + left ≡ j.cost

-- The job j waits no more: it was served or it left early.
pub data ServedOrEnded (j : Job) (ticks : List (Option ℕ)) (left_early : List Waiting) : Type 0 where
  -- The job was served: it has had exactly its cost in units.
  served : units j.name ticks ≡ j.cost → ServedOrEnded j ticks left_early
  -- The job left early, and has had its cost less the units that it had left then.
  ended : Unfinished j left_early ticks → ServedOrEnded j ticks left_early

-- What has become of an accepted job.
pub data Fate (j : Job) (waiting : List Waiting) (ticks : List (Option ℕ)) (left_early : List Waiting) : Type 0 where
  -- The job still waits, and has had its cost less its units left.
  waits : Unfinished j waiting ticks → Fate j waiting ticks left_early
  -- The job waits no more: it was served or it left early.
  over : ServedOrEnded j ticks left_early → Fate j waiting ticks left_early

-- ---- what is proved about every trace (proofs/Trace.antt)

module _ (taken : ℕ → Bool) (t : ℕ) (waiting : List Waiting) (accepted : List Job) (ticks : List (Option ℕ)) (left_early : List Waiting) where
  -- The list of ticks has one entry for each tick of the clock.
  abbrev pub OneEntryATick : Type 0
  OneEntryATick = Trace taken t waiting accepted ticks left_early → length ticks ≡ t

  -- In a trace any tick, even a free one, may go by without a unit being given. That no free tick does so while a job waits is a rule of choice.
  abbrev pub AnyTickMayPass : Type 0
  AnyTickMayPass = Trace taken t waiting accepted ticks left_early → Trace taken (suc t) waiting accepted (none ∷ ticks) left_early

  -- Every accepted job was released at the clock or before.
  abbrev pub ReleasedByTheClock : Type 0
  ReleasedByTheClock = Trace taken t waiting accepted ticks left_early → All (λ j. j.release ≤ t) accepted

  -- No unit is lost or made up. For each name, the units given, the units left of the jobs that wait, and the units left of the jobs that left early add up to
  -- the costs of the accepted jobs of that name. This holds even where several jobs have the same name.
  abbrev pub Conserved : Type 0
  Conserved = Trace taken t waiting accepted ticks left_early
      → (n : ℕ) → units n ticks + units_left (named n) waiting + units_left (named n) left_early ≡ costs (named n) accepted

  -- A name that no accepted job has was given no unit. So units go to accepted jobs only.
  abbrev pub OnlyAcceptedHaveTicks : Type 0
  OnlyAcceptedHaveTicks = Trace taken t waiting accepted ticks left_early → (n : ℕ) → All (λ j. j.name ≢ n) accepted → units n ticks ≡ 0

  -- Each accepted job waits, has had exactly its cost, or left early.
  abbrev pub EveryJobHasItsFate : Type 0
  EveryJobHasItsFate = Trace taken t waiting accepted ticks left_early → DistinctNames accepted → All (λ j. Fate j waiting ticks left_early) accepted

  -- Each job that waits was accepted, and has had its cost less its units left.
  abbrev pub WaitingAreAccounted : Type 0
  WaitingAreAccounted = Trace taken t waiting accepted ticks left_early → DistinctNames accepted → All (Accounted accepted ticks) waiting

  -- Each job that left early was accepted, and has had its cost less the units that it had left then.
  abbrev pub LeftEarlyAreAccounted : Type 0
  LeftEarlyAreAccounted = Trace taken t waiting accepted ticks left_early → DistinctNames accepted → All (Accounted accepted ticks) left_early

  -- In a trace any job that waits may leave early. It then stands among those that left early, and has had its cost less its units left.
  abbrev pub AnyMayLeave : Type 0
  AnyMayLeave = Trace taken t waiting accepted ticks left_early → DistinctNames accepted → (w : Waiting) (rest : List Waiting) → Insert w rest waiting
      → Trace taken t rest accepted ticks (w ∷ left_early) × Unfinished w.job (w ∷ left_early) ticks

  -- No job ever gets more units than its cost, whatever the rule of choice. (6.26)
  abbrev pub NeverMoreThanItsCost : Type 0
  NeverMoreThanItsCost = Trace taken t waiting accepted ticks left_early → DistinctNames accepted → All (λ j. units j.name ticks ≤ j.cost) accepted

  -- ---- what is proved about earliest due first (proofs/EarliestDue.antt)

  -- Giving a unit to a job that waits keeps earliest due first, where no job that waits is due before it. So jobs with equal due times may be served in any
  -- order.
  abbrev pub AnEarliestMayBeServed : Type 0
  AnEarliestMayBeServed = (r : Trace taken t waiting accepted ticks left_early) → ServesEarliestDue r → (is_free : taken t ≡ false)
      → (j : Job) (left : ℕ) (rest after : List Waiting) (from : Insert (record { job = j; left = suc left }) rest waiting)
      → (goes : Onward j left rest after) → All (λ w. j.due ≤ w.job.due) waiting → ServesEarliestDue (serve r is_free j left from goes)

  -- Where earliest due goes first and no free tick idles while a job waits, the invariant `Busy` holds for every time D.
  abbrev pub AlwaysBusy : Type 0
  AlwaysBusy = (r : Trace taken t waiting accepted ticks left_early) → ServesEarliestDue r → NeverIdlesInVain r → (D : ℕ) → Busy taken t waiting accepted D

  -- Where earliest due goes first, no free tick idles while a job waits, and no window that ends at the clock asks for more than its free ticks, no job that is
  -- due by the clock still waits.
  abbrev pub NothingDueWaits : Type 0
  NothingDueWaits = (r : Trace taken t waiting accepted ticks left_early) → ServesEarliestDue r → NeverIdlesInVain r
      → ((a : ℕ) → a ≤ t → asked a t accepted ≤ free taken a t) → All (λ w. t < w.job.due) waiting

  -- Let earliest due go first and no free tick idle while a job waits. Where the jobs' demand and the taken ticks together are at most the length, for every
  -- length, each accepted job that is due by the clock has had exactly its cost in units, or left early. (6.26)
  abbrev pub TraceIsInTime : Type 0
  TraceIsInTime = (r : Trace taken t waiting accepted ticks left_early) → ServesEarliestDue r → NeverIdlesInVain r → DistinctNames accepted
      → (demand lost_ticks : ℕ → ℕ) → BoundedBy demand accepted → TakenAtMost lost_ticks taken
      → demand 0 ≡ 0 → EveryLengthFits (λ L. demand L + lost_ticks L)
      → All (λ j. j.due ≤ t → ServedOrEnded j ticks left_early) accepted

-- ---- a trace with a job that leaves early (proofs/Trace.antt)

-- For a job that is released at zero and costs 2 units or more, there is a trace in which it gets one unit and then leaves early with the other units left.
abbrev pub SomebodyLeaves : Type 0
SomebodyLeaves = (j : Job) (left : ℕ) → j.release ≡ 0 → j.cost ≡ suc (suc left)
    → Trace none_taken 1 [] (j ∷ []) (some j.name ∷ []) (record { job = j; left = suc left } ∷ [])
