-- One tick: what each of its cases answers, that it is one turn of the pending jobs, and that a sound run stays sound. (docs/RULES.md, sections 6.5 and 6.10 to
-- 6.17.)
use Rattle.std.specs.Prelude.{Option, Some, None}
use Rattle.jobs.specs.declared.Ran.{Ran}
use Prim.Native.Nat.{ℕ, zero, suc, ◌+◌, ◌-◌, ◌%◌, ◌≤◌, ◌<◌, suc-le-suc}
use mathlib.Core.Path.{◌≡◌, refl}
use mathlib.Core.Logic.{◌↔◌}
use mathlib.Core.Bool.{Bool, true, false}
use mathlib.Core.List.{List, [], ◌∷◌}
use native.Mathlib.Nat.{not-suc-le-zero, le_of_suc-le-suc}
use native.Mathlib.Decide.{dec_le, dec_lt}
use native.Mathlib.Omega.{arith}
use lib.ListN.{length, set, get_or, length-set}
use lib.Seq.{length-take-le}
use borrow.Author.Tests.{ltb-true, le-leb, lt-leb, lt-ltb, le-ltb, eq-eqb, ne_eqb}
use Rattle.kinds.specs.Numbering.{max_time}
use Rattle.kinds.specs.declared.Refusal.TheVariants.{RunNotSound, TimeTooLate}
use Rattle.kinds.proofs.Apart.{impossible}
use Rattle.jobs.specs.declared.Job.{Job}
use Rattle.jobs.specs.declared.Pending.{Pending}
use Rattle.jobs.specs.declared.Turned.{Turned}
use Rattle.jobs.specs.Places.{no_job, jobs_of, used, without}
use Rattle.jobs.specs.Choice.{first_place}
use Rattle.jobs.specs.Units.{worked, after}
use Rattle.jobs.specs.Turns.{one_tick, turned}
use Rattle.jobs.specs.Serials.{distinct_serials}
use Rattle.jobs.specs.JobChanges.{WellFormed, unit_at}
use Rattle.jobs.proofs.Turns.{turned_idle, turned_busy}
use Rattle.jobs.proofs.Changes.{first_is_there, after_a_unit, after_keeps_form, after_keeps_serials, distinct_means, without_is_one_less}
use Rattle.run.specs.declared.Run.{Run}
use Rattle.run.specs.declared.Ticked.{Ticked}
use Rattle.run.specs.declared.Ticked.TheVariants as answer
use Rattle.run.specs.declared.TickStep.{TickStep}
use Rattle.run.specs.Sound.{sound_of, SoundJob, Sound, Whole}
use Rattle.run.specs.Ticking.{refused_tick, run_with, is_taken, taken_tick, idle_tick, busy_tick, ticked}
use Rattle.run.specs.Answers.{idle, taken, tick_says}
use Rattle.run.specs.RunLaws.{ClockGrows, TickGivesOneUnit, TickKeepsSound, TakenMeans, IdleMeans, TakenTickChangesNothingElse, TickWithoutTimer}
use Rattle.run.proofs.Sound.{sound_means}

-- ---- the answers, one by one

module _ (run : Run) where
  pub tick_unsound : sound_of run ≡ false → ticked run ≡ refused_tick run RunNotSound
  unfolding ticked
  tick_unsound e = rw e

  module _ (sound : sound_of run ≡ true) where
    pub tick_too_late : max_time ≤ run.clock.0 → ticked run ≡ refused_tick run TimeTooLate
    unfolding ticked
    tick_too_late h = rw (sound, le-ltb run.clock.0 max_time h)

    module _ (in_time : run.clock.0 < max_time) where
      pub tick_taken : is_taken run ≡ true → ticked run ≡ taken_tick run
      unfolding ticked
      tick_taken e = rw (sound, lt-ltb run.clock.0 max_time in_time, e)

      module _ (free : is_taken run ≡ false) where
        pub tick_idle : run.pending.count ≡ 0 → ticked run ≡ idle_tick run
        unfolding ticked
        tick_idle e = rw (sound, lt-ltb run.clock.0 max_time in_time, free, eq-eqb run.pending.count 0 e)

        pub tick_busy : 1 ≤ run.pending.count → ticked run ≡ busy_tick run
        unfolding ticked
        tick_busy h = rw (sound, lt-ltb run.clock.0 max_time in_time, free, ne_eqb run.pending.count 0 (λ e. omega arith))

-- ---- lists of jobs with one taken out or replaced

-- Let P imply Q, and let each of some jobs have P. Then each job has Q after one was taken out, and also after one was replaced by a job that has Q.
module _ (P Q : Job → Type 0) (on : (j : Job) → P j → Q j) where
  pub each_without : (js : List Job) (at : ℕ) → ((i : ℕ) → i < length js → P (get_or js i no_job))
      → (i : ℕ) → i < length (without js at) → Q (get_or (without js at) i no_job)
  each_without [] at f i h = absurd (not-suc-le-zero h)
  each_without (j ∷ js) zero f i h = on _ (f (suc i) (suc-le-suc h))
  each_without (j ∷ js) (suc at) f zero h = on j (f 0 (omega arith))
  each_without (j ∷ js) (suc at) f (suc i) h = each_without js at (λ k l. f (suc k) (suc-le-suc l)) i (le_of_suc-le-suc h)

  each_set : (js : List Job) (at : ℕ) (a : Job) → Q a → ((i : ℕ) → i < length js → P (get_or js i no_job))
      → (i : ℕ) → i < length (set js at a) → Q (get_or (set js at a) i no_job)
  each_set [] at a q f i h = absurd (not-suc-le-zero h)
  each_set (j ∷ js) zero a q f zero h = q
  each_set (j ∷ js) zero a q f (suc i) h = on _ (f (suc i) h)
  each_set (j ∷ js) (suc at) a q f zero h = on j (f 0 (omega arith))
  each_set (j ∷ js) (suc at) a q f (suc i) h = each_set js at a q (λ k l. f (suc k) (suc-le-suc l)) i (le_of_suc-le-suc h)

-- ---- a sound run

-- A run is good when it is sound and its arrays have all their places.
abbrev pub Good : Run → Type 0
Good run = (sound_of run ≡ true) × Whole run

module _ (run : Run) (good : Good run) where
  -- The facts about a sound run hold for a good run.
  pub facts : Sound run
  facts = (sound_means run good.1).0 good.0

  -- The pending jobs are as many as the run counts.
  pub counted : used run.pending ≡ run.pending.count
  counted = length-take-le run.pending.count run.pending.places (omega (arith, facts.few_pending, good.1.all_places))

  -- The pending jobs are well formed.
  pub formed : WellFormed run.pending
  formed = record { all_places = good.1.all_places; in_places = facts.few_pending }

  -- The job is sound at the run's clock.
  abbrev SoundNow : Job → Type 0
  SoundNow = SoundJob run.table run.clock.0 run.next.0

  -- The job is sound at the clock after one tick.
  abbrev SoundNext : Job → Type 0
  SoundNext = SoundJob run.table (run.clock.0 + 1) run.next.0

  -- A job is still sound after a tick where only its units left change, and at least one is left.
  still_sound : (j : Job) (left : ℕ) → 1 ≤ left → left ≤ j.left → SoundNow j
      → SoundNext (record { serial = j.serial; row = j.row; release = j.release; due = j.due; cost = j.cost; left = left })
  still_sound j left some few s = record {
    row_in_use = s.row_in_use;
    released = omega arith;
    some_cost = s.some_cost;
    cost_allowed = s.cost_allowed;
    some_left = some;
    left_of_cost = omega arith;
    due_in_time = s.due_in_time;
    serial_given = s.serial_given;
  }

  -- A job that gets no unit is still sound after a tick.
  untouched : (j : Job) → SoundNow j → SoundNext j
  untouched j s = still_sound j j.left s.some_left (omega arith) s

  -- What is needed of the pending jobs after a tick.
  record Later (p : Pending) : Type 0 where
    form : WellFormed p
    jobs : (i : ℕ) → i < used p → SoundNext (get_or (jobs_of p) i no_job)
    apart : distinct_serials (jobs_of p) ≡ true
    one_less : used run.pending ≤ used p + 1

  -- Where the pending jobs after a tick are as needed, the run is good at the next clock.
  later_sound : run.clock.0 < max_time → (p : Pending) → Later p → Good (run_with run (run.clock.0 + 1) p)
  later_sound in_time p l =
      let next : Run = run_with run (run.clock.0 + 1) p in
      let whole : Whole next = record {
        all_rows = good.1.all_rows;
        all_kept = good.1.all_kept;
        all_servers = good.1.all_servers;
        all_last = good.1.all_last;
        all_places = l.form.all_places;
      } in
      let as_many : used p ≡ p.count = length-take-le p.count p.places (omega (arith, l.form.in_places, l.form.all_places)) in (
        (sound_means next whole).1 record {
          good_timer = facts.good_timer;
          few_rows = facts.few_rows;
          few_servers = facts.few_servers;
          clock_in_time = omega arith;
          few_pending = l.form.in_places;
          few_ended = facts.few_ended;
          rows = facts.rows;
          c_within_d = facts.c_within_d;
          kept = facts.kept;
          servers = facts.servers;
          last = facts.last;
          jobs = l.jobs;
          apart = (distinct_means (jobs_of p)).0 l.apart;
          serials = omega (arith, facts.serials, l.one_less, counted);
        },
        whole,
      )

  -- After a tick that is idle or taken the pending jobs are as needed.
  later_same : Later run.pending
  later_same = record {
    form = formed;
    jobs = λ i h. untouched (get_or (jobs_of run.pending) i no_job) (facts.jobs i h);
    apart = (distinct_means (jobs_of run.pending)).1 facts.apart;
    one_less = omega arith;
  }

  -- In this part, the job at a place gets a unit.
  module _ (at : ℕ) (h : at < used run.pending) where
    abbrev js : List Job
    js = jobs_of run.pending

    -- Each pending job is still sound. The job that got the unit is taken out, or has at least one unit left.
    each_later : (i : ℕ) → i < length (unit_at js at) → SoundNext (get_or (unit_at js at) i no_job)
    each_later = elim (dec_le (get_or js at no_job).left 1) [
      | yes l ↦ rw (le-leb (get_or js at no_job).left 1 l) (each_without SoundNow SoundNext untouched js at facts.jobs)
      | no l ↦
          let j = get_or js at no_job in
          rw (lt-leb j.left 1 (omega arith))
          (each_set SoundNow SoundNext untouched js at (worked j) (still_sound j (j.left - 1) (omega arith) (omega arith) (facts.jobs at h)) facts.jobs)
    ]

    -- At most one job fewer is pending.
    one_less_at : length js ≤ length (unit_at js at) + 1
    one_less_at = elim (dec_le (get_or js at no_job).left 1) [
      | yes l ↦ rw (le-leb (get_or js at no_job).left 1 l) (omega (arith, without_is_one_less js at h))
      | no l ↦ rw (lt-leb (get_or js at no_job).left 1 (omega arith)) (omega (arith, length-set js at (worked (get_or js at no_job))))
    ]

    -- After the unit was given the pending jobs are as needed.
    Later-after : Later (after run.pending at)
    Later-after =
        let e = after_a_unit run.pending at h in
        record {
          form = after_keeps_form run.pending at formed;
          jobs = rw e each_later;
          apart = (after_keeps_serials run.pending at h).distinct ((distinct_means js).1 facts.apart);
          one_less = rw e one_less_at;
        }

  -- Where a job is pending, the place of the chosen job is in use.
  first_there : 1 ≤ run.pending.count → first_place (jobs_of run.pending) < used run.pending
  first_there h = first_is_there run.pending (omega (arith, counted))

  module _ (in_time : run.clock.0 < max_time) where
    pub taken_keeps : Good (taken_tick run).run
    taken_keeps = later_sound in_time run.pending later_same

    pub idle_keeps : Good (idle_tick run).run
    idle_keeps = later_sound in_time run.pending later_same

    pub busy_keeps : 1 ≤ run.pending.count → Good (busy_tick run).run
    busy_keeps h = later_sound in_time (one_tick run.pending) (Later-after (first_place (jobs_of run.pending)) (first_there h))

-- ---- the laws

-- The timer takes the tick at the run's clock t exactly when t mod p < s.
pub taken_where : (run : Run) → (is_taken run ≡ true) ↔ (run.clock.0 % run.table.p < run.table.s)
taken_where run = (ltb-true _ _, lt-ltb _ _)

-- A property of the five cases of a tick is a property of every tick.
pub by_answer : (P : TickStep → Type 0) (run : Run)
    → (sound_of run ≡ false → P (refused_tick run RunNotSound))
    → (max_time ≤ run.clock.0 → P (refused_tick run TimeTooLate))
    → (sound_of run ≡ true → run.clock.0 < max_time → is_taken run ≡ true → P (taken_tick run))
    → (sound_of run ≡ true → run.clock.0 < max_time → is_taken run ≡ false → run.pending.count ≡ 0 → P (idle_tick run))
    → (run.clock.0 < max_time → is_taken run ≡ false → 1 ≤ run.pending.count → P (busy_tick run))
    → P (ticked run)
by_answer P run unsound late takes idles busy = by_sound (sound_of run) refl
  where
    by_timer : sound_of run ≡ true → run.clock.0 < max_time → (b : Bool) → is_taken run ≡ b → P (ticked run)
    by_timer e l true t = rw (tick_taken run e l t) (takes e l t)
    by_timer e l false t = elim (dec_le 1 run.pending.count) [
      | no m ↦ let none : run.pending.count ≡ 0 = omega arith in rw (tick_idle run e l t none) (idles e l t none)
      | yes m ↦ rw (tick_busy run e l t m) (busy l t m)
    ]

    by_sound : (b : Bool) → sound_of run ≡ b → P (ticked run)
    by_sound false e = rw (tick_unsound run e) (unsound e)
    by_sound true e = elim (dec_lt run.clock.0 max_time) [
      | no l ↦ let past : max_time ≤ run.clock.0 = omega arith in rw (tick_too_late run e past) (late past)
      | yes l ↦ by_timer e l (is_taken run) refl
    ]

pub tick_keeps_good : (run : Run) → Good run → Good (ticked run).run
tick_keeps_good run good =
    by_answer (λ t. Good t.run) run (λ e. good) (λ h. good) (λ e l t. taken_keeps run good l) (λ e l t m. idle_keeps run good l)
    (λ l t m. busy_keeps run good l m)

pub tick_keeps_sound : TickKeepsSound
tick_keeps_sound run whole sound = tick_keeps_good run (sound, whole)

pub clock_grows : ClockGrows
clock_grows run =
    by_answer (λ t. run.clock.0 ≤ t.run.clock.0) run (λ e. omega arith) (λ h. omega arith) (λ e l t. omega arith) (λ e l t m. omega arith)
    (λ l t m. omega arith)

pub tick_gives_one_unit : TickGivesOneUnit
tick_gives_one_unit run whole sound in_time free h =
    rw (tick_busy run sound in_time free h) (after_a_unit run.pending (first_place (jobs_of run.pending)) (first_there run (sound, whole) h))

pub taken_means : TakenMeans
taken_means run = (
  by_answer
      (λ t. tick_says t.answer ≡ taken → (sound_of run ≡ true) × (run.clock.0 < max_time) × (run.clock.0 % run.table.p < run.table.s))
      run
      (λ e f. impossible cc)
      (λ h f. impossible cc)
      (λ e l t f. (e, l, (taken_where run).0 t))
      (λ e l t m f. impossible cc)
      (λ l t m f. impossible cc),
  λ h. rw (tick_taken run h.0 h.1 ((taken_where run).1 h.2)) refl,
)

pub idle_means : IdleMeans
idle_means run = (
  by_answer
      (λ t. tick_says t.answer ≡ idle → (sound_of run ≡ true) × (run.clock.0 < max_time) × (is_taken run ≡ false) × (run.pending.count ≡ 0))
      run
      (λ e f. impossible cc)
      (λ h f. impossible cc)
      (λ e l t f. impossible cc)
      (λ e l t m f. (e, l, t, m))
      (λ l t m f. impossible cc),
  λ h. rw (tick_idle run h.0 h.1 h.2 h.3) refl,
)

pub taken_tick_changes_nothing_else : TakenTickChangesNothingElse
taken_tick_changes_nothing_else run said =
    let h = (taken_means run).0 said in
    rw (tick_taken run h.0 h.1 ((taken_where run).1 h.2)) (refl, refl)

pub tick_without_timer : TickWithoutTimer
unfolding ticked
tick_without_timer run none =
    let free : is_taken run ≡ false = le-ltb (run.clock.0 % run.table.p) run.table.s (omega arith) in rw free

-- ---- a free tick is one turn

-- What a tick answers where the pending jobs had this turn.
abbrev pub answer_of : Option Ran → Ticked
answer_of None = answer.Idle
answer_of (Some r) = answer.Ran r

-- The tick of a run whose pending jobs had this turn.
abbrev pub step_of : Run → Turned → TickStep
step_of run t = record { run = run_with run (run.clock.0 + 1) t.pending; answer = answer_of t.turn; late = t.late }

pub tick_is_a_turn : (run : Run) → Good run → run.clock.0 < max_time → is_taken run ≡ false
    → step_of run (turned run.pending (run.clock.0 + 1)) ≡ ticked run
tick_is_a_turn run good in_time free =
    let p = run.pending in
    elim (dec_le 1 p.count) [
      | yes h ↦ rw (turned_busy p (run.clock.0 + 1) (omega (arith, counted run good)), tick_busy run good.0 in_time free h)
      | no h ↦ rw (turned_idle p (run.clock.0 + 1) (omega (arith, counted run good)), tick_idle run good.0 in_time free (omega arith))
    ]
