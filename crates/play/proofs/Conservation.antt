-- No job is lost: each accepted job is pending or has its record in the log. (docs/RULES.md, sections 6.7, 6.13 and 8.8.)
use Prim.Native.Nat.{ℕ, zero, suc, ◌+◌, ◌<◌}
use mathlib.Core.Path.{◌≡◌, refl}
use mathlib.Core.Logic.{◌⊎◌, inl, inr, ⊎_elim}
use mathlib.Core.List.Memᴰ
use mathlib.Core.List.{List, [], ◌∷◌, ◌++◌, Memᴰ}
use native.Mathlib.Omega.{arith}
use lib.ListN.{set, get_or}
use Rattle.kinds.specs.declared.Finish.{Finish}
use Rattle.jobs.specs.declared.Job.{Job}
use Rattle.jobs.specs.Places.{no_job, without}
use Rattle.jobs.specs.Units.{worked}
use Rattle.jobs.specs.Turns.{finish_at}
use Rattle.play.specs.LogRecords.{RecordOf}
use Rattle.play.proofs.ThreeChanges.{Seen, Moves}

-- ---- a job among others

-- A job of a list is the one at a place, or it is still in the list without that place.
among_without : {k : Job} {js : List Job} → Memᴰ k js → (at : ℕ) → (k ≡ get_or js at no_job) ⊎ Memᴰ k (without js at)
among_without (Memᴰ.head e) zero = inl e
among_without (Memᴰ.head e) (suc at) = inr (Memᴰ.head e)
among_without (Memᴰ.tail m) zero = inr m
among_without (Memᴰ.tail m) (suc at) = ⊎_elim (λ e. inl e) (λ n. inr (Memᴰ.tail n)) (among_without m at)

-- A job of a list is the one at a place, or it is still in the list after another job was put into that place. In the first case that other job is in the list.
among_set : {k : Job} {js : List Job} → Memᴰ k js → (at : ℕ) (a : Job)
    → ((k ≡ get_or js at no_job) × Memᴰ a (set js at a)) ⊎ Memᴰ k (set js at a)
among_set (Memᴰ.head e) zero a = inl (e, Memᴰ.head refl)
among_set (Memᴰ.head e) (suc at) a = inr (Memᴰ.head e)
among_set (Memᴰ.tail m) zero a = inr (Memᴰ.tail m)
among_set (Memᴰ.tail m) (suc at) a =
    ⊎_elim (λ n. inl (n.0, Memᴰ.tail n.1)) (λ n. inr (Memᴰ.tail n)) (among_set m at a)

-- ---- pending, or recorded

-- A pending job is the same as an accepted one: it has the same serial, row, release and due time.
pub record SameJob (j k : Job) : Type 0 where
  pub serial : k.serial ≡ j.serial
  pub row : k.row ≡ j.row
  pub release : k.release ≡ j.release
  pub due : k.due ≡ j.due

-- An accepted job is among the pending ones.
abbrev pub Waits : List Job → Job → Type 0
Waits js j = (k : Job) × Memᴰ k js × SameJob j k

-- An accepted job has its record in the log.
abbrev pub Recorded : List Finish → Job → Type 0
Recorded fs j = (f : Finish) × Memᴰ f fs × RecordOf j f

-- Every accepted job is pending or has its record in the log.
abbrev pub NoneLost : Seen → Type 0
NoneLost s = (j : Job) → Memᴰ j s.accepted → Waits s.pending j ⊎ Recorded s.finishes j

module _ (js : List Job) (at : ℕ) (j : Job) (w : Waits js j) where
  abbrev its : Job
  its = get_or js at no_job

  -- A pending job stays pending where the unit that was given was not its job's last.
  waits_on : Waits (set js at (worked its)) j
  waits_on =
      let same = w.2 in
      ⊎_elim
      (λ (n : (w.0 ≡ its) × Memᴰ (worked its) (set js at (worked its))).
      let here : SameJob j its = rw n.0 at same in
      (worked its, n.1, record { serial = here.serial; row = here.row; release = here.release; due = here.due }))
      (λ (n : Memᴰ w.0 (set js at (worked its))). (w.0, n, same)) (among_set w.1 at (worked its))

  -- Where a job got its last unit, its record is in the log, with a finish after its release. Every other pending job stays pending.
  waits_or_finished : (fs : List Finish) (clock : ℕ) → its.release.0 < clock
      → Waits (without js at) j ⊎ Recorded (fs ++ (finish_at clock its ∷ [])) j
  waits_or_finished fs clock later =
      let same = w.2 in
      ⊎_elim
      (λ (n : w.0 ≡ its).
      let here : SameJob j its = rw n at same in
      let released : its.release ≡ j.release = here.release in
      inr (
        finish_at clock its,
        Memᴰ.append_right fs (Memᴰ.head refl),
        record {
          serial = here.serial;
          row = here.row;
          release = here.release;
          due = here.due;
          after_release = rw (← released) later;
        },
      ))
      (λ (n : Memᴰ w.0 (without js at)). inl (w.0, n, same)) (among_without w.1 at)

pub none_lost : Moves NoneLost
none_lost = record {
  start = λ t j m. absurd (Memᴰ.not-nil m);
  quiet = λ s at sound more q j m. ⊎_elim (λ w. inl (waits_on s.pending at j w)) (λ r. inr r) (q j m);
  finish = λ s at sound h q j m. ⊎_elim
      (λ w. waits_or_finished s.pending at j w s.finishes (s.clock + 1) (omega (arith, (sound at h).released)))
      (λ (r : Recorded s.finishes j). inr (r.0, Memᴰ.append_left _ r.1, r.2)) (q j m);
  release = λ s a serial later q j m. ⊎_elim
      (λ old. ⊎_elim (λ (w : Waits s.pending j). inl (w.0, Memᴰ.append_left _ w.1, w.2)) (λ r. inr r) (q j old))
      (λ new.
      let same : j ≡ a = Memᴰ.eq_of_singleton new in
      rw same (inl (a, Memᴰ.append_right s.pending (Memᴰ.head refl), record { serial = refl; row = refl; release = refl; due = refl })))
      (Memᴰ.append_cases s.accepted m);
}
