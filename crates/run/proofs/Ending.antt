-- Each answer of an end follows from the tests that lead to it. A refused end changes nothing. One that is done takes out the job with the serial, and a sound
-- run stays sound. Ticks and ends leave every history of due times as it was. (docs/RULES.md, sections 6.17, 6.18, 6.25 and 6.27 to 6.30.)
use Rattle.std.specs.Prelude.{Option, Some, None, Ok}
use Prim.Native.Nat.{ℕ, ◌+◌, ◌≤◌, ◌<◌}
use mathlib.Core.Path.{◌≡◌, refl, sym, subst}
use mathlib.Core.Bool.{true, false}
use native.Mathlib.Omega.{arith}
use lib.ListN.{length, get_or}
use lib.Seq.{length-take-le}
use borrow.Author.Tests.{lt-ltb, le-ltb}
use Rattle.kinds.specs.declared.Refusal.TheVariants.{RunNotSound, NotPending, TooManyEnded}
use Rattle.kinds.proofs.Apart.{impossible}
use Rattle.theory.proofs.Cases.{by_lt, by_test}
use Rattle.jobs.specs.declared.Job.{Job}
use Rattle.jobs.specs.Places.{max_places, no_job, jobs_of, used, without}
use Rattle.jobs.specs.Serials.{place_of}
use Rattle.jobs.specs.JobChanges.{WellFormed}
use Rattle.jobs.proofs.Changes.{found_means, nobody_found_means, taken_out_is_without, taken_out_keeps_form, taken_out_keeps_serials}
use Rattle.jobs.proofs.Changes.{without_is_one_less, distinct_means}
use Rattle.run.specs.declared.Run.{Run}
use Rattle.run.specs.declared.EndStep.{EndStep}
use Rattle.run.specs.Sound.{max_ended, sound_of, SoundJob, Whole}
use Rattle.run.specs.Ending.{refused_end, units_given, with_ended, ended}
use Rattle.run.specs.Answers.{EndingSays, ended_with, end_says}
use Rattle.run.specs.History.{KeepsHistory}
use Rattle.run.specs.RunLaws.{EndKeepsSound, EndNotSoundMeans, NotPendingMeans, TooManyEndedMeans, EndIsDoneMeans, EndedAt, EndChangesNothingElse}
use Rattle.run.specs.RunLaws.{RefusedEndChangesNothing, HistoriesStay}
use Rattle.run.proofs.Sound.{sound_means}
use Rattle.run.proofs.Release.{bounded}
use Rattle.run.proofs.Ticking.{Good, facts, counted, formed, each_without, by_answer}

-- ---- each answer, by the tests that lead to it

-- The end of the job at a place, where it is done: the units that the job was given are answered.
abbrev pub done_at : Run → (at : ℕ) → EndStep
done_at run at = record { run = with_ended run at; answer = Ok (units_given (get_or (jobs_of run.pending) at no_job)) }

module _ (run : Run) (serial : ℕ) where
  -- The place that is found for the serial.
  abbrev pub found : Option ℕ
  found = place_of serial (jobs_of run.pending)

  -- An end on a run that is not sound is refused with 11.
  pub end_unsound : sound_of run ≡ false → refused_end run RunNotSound ≡ ended run serial
  unfolding ended
  end_unsound e = simp e

  module _ (sound : sound_of run ≡ true) where
    -- An end for a serial that no pending job has is refused with 17.
    pub end_nobody : found ≡ None → refused_end run NotPending ≡ ended run serial
    unfolding ended
    end_nobody e = simp (sound, e)

    module _ (at : ℕ) (there : found ≡ Some at) where
      -- An end after 2^40 ended jobs is refused with 18.
      pub end_too_many : max_ended ≤ run.ended → refused_end run TooManyEnded ≡ ended run serial
      unfolding ended
      end_too_many h = simp (sound, there, le-ltb run.ended max_ended h)

      -- Any other end is done.
      pub end_done : run.ended < max_ended → done_at run at ≡ ended run serial
      unfolding ended
      end_done h = simp (sound, there, lt-ltb run.ended max_ended h)

  -- A property of the four cases of an end is a property of every end.
  module _ (P : EndStep → Type 0)
      (unsound : sound_of run ≡ false → P (refused_end run RunNotSound))
      (nobody : sound_of run ≡ true → found ≡ None → P (refused_end run NotPending))
      (too_many : sound_of run ≡ true → (at : ℕ) → found ≡ Some at → max_ended ≤ run.ended → P (refused_end run TooManyEnded))
      (done : sound_of run ≡ true → (at : ℕ) → found ≡ Some at → run.ended < max_ended → P (done_at run at)) where
    -- An end on a sound run is refused with 17 or 18, or it is done.
    by_place : sound_of run ≡ true → (c : Option ℕ) → found ≡ c → P (ended run serial)
    by_place sound (Some at) e =
        by_lt run.ended max_ended
        (λ few. subst P (end_done sound at e few) (done sound at e few))
        (λ many. subst P (end_too_many sound at e many) (too_many sound at e many))
    by_place sound None e = subst P (end_nobody sound e) (nobody sound e)

    -- Any end is refused with 11, or is an end on a sound run.
    pub each_end : P (ended run serial)
    each_end = by_test (sound_of run) (λ sound. by_place sound _ refl) (λ e. subst P (end_unsound e) (unsound e))

  -- The place that is found is in use, and its job has the serial.
  pub found_there : (at : ℕ) → found ≡ Some at
      → (at < used run.pending) × ((get_or (jobs_of run.pending) at no_job).serial.0 ≡ serial)
  found_there at e = let means = (found_means serial at (jobs_of run.pending)).0 e in (means.0, means.1)

  -- The place that is found is one of the run's places.
  pub found_in_places : Good run → (at : ℕ) → found ≡ Some at → at < max_places
  found_in_places good at e = omega (arith, (found_there at e).0, counted run good, (facts run good).few_pending)

-- ---- an end that is done keeps a run sound

-- In this part, the job at a place of a good run is ended.
module _ (run : Run) (good : Good run) (at : ℕ) (inside : at < used run.pending) where
  -- The run after the end.
  abbrev next : Run
  next = with_ended run at

  -- The pending jobs after the end are those without the job at the place.
  jobs_after : jobs_of next.pending ≡ without (jobs_of run.pending) at
  jobs_after = taken_out_is_without run.pending at

  -- The pending jobs after the end are well formed.
  formed_after : WellFormed next.pending
  formed_after = taken_out_keeps_form run.pending at (formed run good)

  -- One job fewer is pending.
  one_less : next.pending.count + 1 ≡ run.pending.count
  one_less =
      let p = next.pending in
      let as_many : used p ≡ p.count = length-take-le p.count p.places (omega (arith, formed_after.in_places, formed_after.all_places)) in
      let fewer : length (without (jobs_of run.pending) at) + 1 ≡ used run.pending = without_is_one_less (jobs_of run.pending) at inside in
      let those : used p + 1 ≡ used run.pending = rw jobs_after fewer in
      omega (arith, counted run good)

  -- Each job that is still pending is still sound.
  each_after : (i : ℕ) → i < length (jobs_of next.pending)
      → SoundJob run.table run.clock.0 run.next.0 (get_or (jobs_of next.pending) i no_job)
  each_after =
      let SoundNow : Job → Type 0 = SoundJob run.table run.clock.0 run.next.0 in
      rw jobs_after (each_without SoundNow SoundNow (λ j s. s) (jobs_of run.pending) at (facts run good).jobs)

  -- The arrays of the run have all their places after the end.
  whole_after : Whole next
  whole_after = record {
    all_rows = good.1.all_rows;
    all_kept = good.1.all_kept;
    all_servers = good.1.all_servers;
    all_last = good.1.all_last;
    all_places = formed_after.all_places;
  }

  -- The run is sound after the end. The next serial is still within its bound, since one job fewer is pending and one more was ended.
  sound_after : run.ended < max_ended → sound_of next ≡ true
  sound_after few = (sound_means next whole_after).1 record {
    good_timer = (facts run good).good_timer;
    few_rows = (facts run good).few_rows;
    few_servers = (facts run good).few_servers;
    clock_in_time = (facts run good).clock_in_time;
    few_pending = formed_after.in_places;
    few_ended = omega arith;
    rows = (facts run good).rows;
    c_within_d = (facts run good).c_within_d;
    kept = (facts run good).kept;
    servers = (facts run good).servers;
    last = (facts run good).last;
    jobs = each_after;
    apart =
        (distinct_means (jobs_of next.pending)).0
        ((taken_out_keeps_serials run.pending at).distinct ((distinct_means (jobs_of run.pending)).1 (facts run good).apart));
    serials = omega (arith, (facts run good).serials, one_less);
  }

-- ---- the laws

pub end_keeps_sound : EndKeepsSound
end_keeps_sound run serial whole sound =
    each_end run serial (λ step. Good step.run) (λ e. (sound, whole)) (λ s e. (sound, whole)) (λ s at e many. (sound, whole))
    (λ s at e few.
    let inside = (found_there run serial at e).0 in
    (sound_after run (sound, whole) at inside few, whole_after run (sound, whole) at inside))

pub end_not_sound_means : EndNotSoundMeans
end_not_sound_means run serial = (
  each_end run serial (λ step. end_says step.answer ≡ EndingSays.refused 11 0 → sound_of run ≡ false)
      (λ e f. e)
      (λ s e f. impossible cc)
      (λ s at e many f. impossible cc)
      (λ s at e few f. impossible cc),
  λ e. rw (← end_unsound run serial e) refl,
)

pub not_pending_means : NotPendingMeans
not_pending_means run serial = (
  each_end run serial
      (λ step. end_says step.answer ≡ EndingSays.refused 17 0 → (sound_of run ≡ true)
      × ((i : ℕ) → i < length (jobs_of run.pending) → (get_or (jobs_of run.pending) i no_job).serial.0 ≡ serial → ⊥))
      (λ e f. impossible cc)
      (λ s e f. (s, (nobody_found_means serial (jobs_of run.pending)).0 e))
      (λ s at e many f. impossible cc)
      (λ s at e few f. impossible cc),
  λ h. rw (← end_nobody run serial h.0 ((nobody_found_means serial (jobs_of run.pending)).1 h.1)) refl,
)

-- Where a pending job has the serial, a place is found for it.
is_found : (run : Run) (serial at : ℕ) → at < length (jobs_of run.pending) → (get_or (jobs_of run.pending) at no_job).serial.0 ≡ serial
    → (c : Option ℕ) → found run serial ≡ c → (p : ℕ) × (found run serial ≡ Some p)
is_found run serial at inside its (Some p) e = (p, e)
is_found run serial at inside its None e = absurd ((nobody_found_means serial (jobs_of run.pending)).0 e at inside its)

pub too_many_ended_means : TooManyEndedMeans
too_many_ended_means run serial = (
  each_end run serial
      (λ step. end_says step.answer ≡ EndingSays.refused 18 0 → (sound_of run ≡ true)
      × ((at : ℕ) × (at < length (jobs_of run.pending)) × ((get_or (jobs_of run.pending) at no_job).serial.0 ≡ serial)) × (run.ended ≡ max_ended))
      (λ e f. impossible cc)
      (λ s e f. impossible cc)
      (λ s at e many f.
      let there = found_there run serial at e in
      (s, (at, there.0, there.1), omega (arith, (bounded run s).few_ended)))
      (λ s at e few f. impossible cc),
  λ h.
      let where_found = is_found run serial h.1.0 h.1.1 h.1.2 _ refl in
      let many : max_ended ≤ run.ended = omega (arith, h.2) in
      rw (← end_too_many run serial h.0 where_found.0 where_found.1 many) refl,
)

pub end_is_done_means : EndIsDoneMeans
end_is_done_means run serial = (
  λ said.
      each_end run serial
      (λ step. end_says step.answer ≡ ended_with said.0 → (sound_of run ≡ true)
      × ((at : ℕ) × (at < length (jobs_of run.pending)) × ((get_or (jobs_of run.pending) at no_job).serial.0 ≡ serial)) × (run.ended < max_ended))
      (λ e f. impossible cc)
      (λ s e f. impossible cc)
      (λ s at e many f. impossible cc)
      (λ s at e few f.
      let there = found_there run serial at e in
      (s, (at, there.0, there.1), few))
      said.1,
  λ h.
      let where_found = is_found run serial h.1.0 h.1.1 h.1.2 _ refl in
      (units_given (get_or (jobs_of run.pending) where_found.0 no_job), rw (← end_done run serial h.0 where_found.0 where_found.1 h.2) refl),
)

pub end_changes_nothing_else : EndChangesNothingElse
end_changes_nothing_else run serial units whole =
    each_end run serial (λ step. end_says step.answer ≡ ended_with units → EndedAt run serial units step.run)
    (λ e f. impossible cc)
    (λ s e f. impossible cc)
    (λ s at e many f. impossible cc)
    (λ s at e few f.
    let there = found_there run serial at e in
    let j = get_or (jobs_of run.pending) at no_job in
    let its : units_given j ≡ units = cc in
    record {
      at = at;
      inside = there.0;
      its_serial = there.1;
      its_units = sym its;
      fewer = omega (arith, (facts run (s, whole)).jobs at there.0);
      others = taken_out_is_without run.pending at;
      nothing_else = refl;
    })

pub refused_end_changes_nothing : RefusedEndChangesNothing
refused_end_changes_nothing run serial number place =
    each_end run serial (λ step. end_says step.answer ≡ EndingSays.refused number place → step.run ≡ run)
    (λ e f. refl)
    (λ s e f. refl)
    (λ s at e many f. refl)
    (λ s at e few f. impossible cc)

pub histories_stay : HistoriesStay
histories_stay run history serial keeps = (
  by_answer (λ step. KeepsHistory step.run history) run
      (λ e. keeps)
      (λ h. keeps)
      (λ e l t. record { newest = keeps.newest; last = keeps.last })
      (λ e l t m. record { newest = keeps.newest; last = keeps.last })
      (λ l t m. record { newest = keeps.newest; last = keeps.last }),
  each_end run serial (λ step. KeepsHistory step.run history)
      (λ e. keeps)
      (λ s e. keeps)
      (λ s at e many. keeps)
      (λ s at e few. record { newest = keeps.newest; last = keeps.last }),
)
