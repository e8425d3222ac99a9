-- The proofs about every trace. They rest on one law of conservation: for each name, the units given, the units left of the jobs that wait, and the units left
-- of the jobs that left early add up to the costs accepted. Its proof has one step for each event, and holds for any names. Where the accepted names are
-- distinct, at most one job of a name waits or has left early. Then the law's sums are the numbers of one job, and the law tells what has become of it.
use Prim.Native.Nat.{ℕ, suc, ◌+◌, ◌≤◌}
use mathlib.Core.Path.{◌≡◌, refl, ap}
use mathlib.Core.Logic.{⊎_elim}
use mathlib.Core.Bool.{Bool, true, false, cond}
use mathlib.Core.Option.{Option, some}
use mathlib.Core.List.Memᴰ
use mathlib.Core.List.{List, [], ◌∷◌, ◌++◌, Memᴰ}
use native.Mathlib.Omega.{arith}
use borrow.Author.Tests.{eq-eqb, eqb-true}
use Rattle.theory.specs.Lists.{All, total, weight_if, Insert, here}
use Rattle.theory.specs.Jobs.{Job, DistinctNames, named, weighed}
use Rattle.theory.specs.Ticks.{none_taken}
use Rattle.theory.specs.Trace.{Waiting, units, units_left, Onward, done, on, Trace, begin, accept, lost, idle, serve, leave}
use Rattle.theory.specs.Trace.{Accounted, Unfinished, served, ended, Fate, waits, over}
use Rattle.theory.specs.Trace.{OneEntryATick, AnyTickMayPass, ReleasedByTheClock, Conserved, OnlyAcceptedHaveTicks}
use Rattle.theory.specs.Trace.{EveryJobHasItsFate, WaitingAreAccounted, LeftEarlyAreAccounted, NeverMoreThanItsCost, AnyMayLeave, SomebodyLeaves}
use Rattle.theory.proofs.Cases.{by_test}
use Rattle.theory.proofs.Lists.{all_imply, all_of_members, all_at, All-append, all_put_in, all_taken_out, total-append, total_put_in}
use Rattle.theory.proofs.Lists.{none_passes, some_or_none_passes, the_only_one}
use Rattle.theory.proofs.Jobs.{none_named, at_most_one_named, own_cost, one_job_a_name}

-- ---- the clock

-- The list of ticks has one entry for each tick of the clock.
pub one_entry_a_tick : {taken : ℕ → Bool} {t : ℕ} {waiting : List Waiting} {accepted : List Job} {ticks : List (Option ℕ)} {left_early : List Waiting}
    → OneEntryATick taken t waiting accepted ticks left_early
one_entry_a_tick begin = refl
one_entry_a_tick (accept r j at some_cost put) = one_entry_a_tick r
one_entry_a_tick (lost r k) = ap suc (one_entry_a_tick r)
one_entry_a_tick (idle r k) = ap suc (one_entry_a_tick r)
one_entry_a_tick (serve r k j left from goes) = ap suc (one_entry_a_tick r)
one_entry_a_tick (leave r w from) = one_entry_a_tick r

-- A tick that is taken is lost, and one that is free may idle.
pub any_tick_may_pass : {taken : ℕ → Bool} {t : ℕ} {waiting : List Waiting} {accepted : List Job} {ticks : List (Option ℕ)} {left_early : List Waiting}
    → AnyTickMayPass taken t waiting accepted ticks left_early
any_tick_may_pass {taken = taken} {t = t} r = by_test (taken t) (λ is_taken. lost r is_taken) (λ is_free. idle r is_free)

-- Jobs that were released by t were released by t + 1.
a_tick_later : (t : ℕ) (js : List Job) → All (λ j. j.release ≤ t) js → All (λ j. j.release ≤ suc t) js
a_tick_later t = all_imply (λ j h. omega arith)

-- Every accepted job was released at the clock or before.
pub released_by_the_clock : {taken : ℕ → Bool} {t : ℕ} {waiting : List Waiting} {accepted : List Job} {ticks : List (Option ℕ)} {left_early : List Waiting}
    → ReleasedByTheClock taken t waiting accepted ticks left_early
released_by_the_clock begin = tt
released_by_the_clock (accept r j at some_cost put) = (omega arith, released_by_the_clock r)
released_by_the_clock (lost {t = t} {accepted = js} r k) = a_tick_later t js (released_by_the_clock r)
released_by_the_clock (idle {t = t} {accepted = js} r k) = a_tick_later t js (released_by_the_clock r)
released_by_the_clock (serve {t = t} {accepted = js} r k j left from goes) = a_tick_later t js (released_by_the_clock r)
released_by_the_clock (leave r w from) = released_by_the_clock r

-- ---- what waits after a unit was given

-- All jobs that wait after a unit was given have P, where the rest have P, and the served job has P if it still waits.
pub All-Onward : (P : Waiting → Type 0) {j : Job} {left : ℕ} {rest after : List Waiting}
    → Onward j left rest after → (1 ≤ left → P (record { job = j; left = left })) → All P rest → All P after
All-Onward P done p h = h
All-Onward P (on put) p h = all_put_in P put (p (omega arith)) h

-- The jobs that wait after a unit was given weigh at most as much as the rest and the served job, with its new units left, together.
pub total-Onward : (w : Waiting → ℕ) {j : Job} {left : ℕ} {rest after : List Waiting}
    → Onward j left rest after → total w after ≤ w (record { job = j; left = left }) + total w rest
total-Onward w done = omega arith
total-Onward w (on put) = omega (arith, total_put_in w put)

module _ (kind : Job → Bool) where
  -- Putting a job into a list adds its units left to those of a kind, if the job is of that kind, and otherwise nothing.
  pub units_left_put_in : {w : Waiting} {l m : List Waiting} → Insert w l m → units_left kind m ≡ cond (kind w.job) w.left 0 + units_left kind l
  unfolding units_left
  units_left_put_in put = total_put_in (weight_if (λ w. kind w.job) (λ w. w.left)) put

  -- Giving a unit takes one off the units left of a kind, if the served job is of that kind, and otherwise nothing.
  pub unit_taken_off : {j : Job} {left : ℕ} {rest waiting after : List Waiting} → Insert (record { job = j; left = suc left }) rest waiting
      → Onward j left rest after → units_left kind waiting ≡ cond (kind j) 1 0 + units_left kind after
  unit_taken_off from done = units_left_put_in from
  unit_taken_off {j = j} from (on {left = left} put) = omega (arith, units_left_put_in from, units_left_put_in put, one_more (kind j))
    where
      one_more : (b : Bool) → cond b (suc (suc left)) 0 ≡ cond b 1 0 + cond b (suc left) 0
      one_more true = omega arith
      one_more false = omega arith

-- ---- what holds for every trace

-- For each name, the units given, the units left of the jobs that wait, and the units left of the jobs that left early add up to the costs accepted.
pub conserved : {taken : ℕ → Bool} {t : ℕ} {waiting : List Waiting} {accepted : List Job} {ticks : List (Option ℕ)} {left_early : List Waiting}
    → Conserved taken t waiting accepted ticks left_early
unfolding units units_left weighed total
conserved begin n = refl
conserved (accept r j at some_cost put) n = omega (arith, conserved r n, units_left_put_in (named n) put)
conserved (lost r k) n = omega (arith, conserved r n)
conserved (idle r k) n = omega (arith, conserved r n)
conserved (serve r k j left from goes) n = omega (arith, conserved r n, unit_taken_off (named n) from goes)
conserved (leave r w from) n = omega (arith, conserved r n, units_left_put_in (named n) from)

-- 1 for a job named n that waits or left early, and 0 for any other.
abbrev one_if_named : (n : ℕ) → Waiting → ℕ
one_if_named n = weight_if (λ w. named n w.job) (λ _. 1)

-- For each name, no more jobs wait or have left early than were accepted.
no_more_than_accepted : {taken : ℕ → Bool} {t : ℕ} {waiting : List Waiting} {accepted : List Job} {ticks : List (Option ℕ)} {left_early : List Waiting}
    → Trace taken t waiting accepted ticks left_early
    → (n : ℕ) → total (one_if_named n) waiting + total (one_if_named n) left_early ≤ weighed (λ _. 1) (named n) accepted
unfolding weighed total
no_more_than_accepted begin n = omega arith
no_more_than_accepted (accept r j at some_cost put) n = omega (arith, no_more_than_accepted r n, total_put_in (one_if_named n) put)
no_more_than_accepted (lost r k) n = no_more_than_accepted r n
no_more_than_accepted (idle r k) n = no_more_than_accepted r n
no_more_than_accepted (serve r k j left from goes) n =
    omega (arith, no_more_than_accepted r n, total_put_in (one_if_named n) from, total-Onward (one_if_named n) goes)
no_more_than_accepted (leave r w from) n = omega (arith, no_more_than_accepted r n, total_put_in (one_if_named n) from)

-- The job was accepted, and has at least 1 unit left.
abbrev pub Owed : List Job → Waiting → Type 0
Owed accepted w = Memᴰ w.job accepted × (1 ≤ w.left)

-- Jobs that are `Owed` are still so when another job is accepted.
still_owed : (j : Job) (accepted : List Job) (ws : List Waiting) → All (Owed accepted) ws → All (Owed (j ∷ accepted)) ws
still_owed j accepted = all_imply (λ w h. (Memᴰ.tail h.0, h.1))

-- Each job that waits or left early was accepted, and has at least 1 unit left.
pub all_owed : {taken : ℕ → Bool} {t : ℕ} {waiting : List Waiting} {accepted : List Job} {ticks : List (Option ℕ)} {left_early : List Waiting}
    → Trace taken t waiting accepted ticks left_early → All (Owed accepted) waiting × All (Owed accepted) left_early
all_owed begin = (tt, tt)
all_owed (accept {waiting = ws} {accepted = js} {left_early = es} r j at some_cost put) =
    let h = all_owed r in
    (all_put_in (Owed (j ∷ js)) put (Memᴰ.head refl, some_cost) (still_owed j js ws h.0), still_owed j js es h.1)
all_owed (lost r k) = all_owed r
all_owed (idle r k) = all_owed r
all_owed (serve {accepted = js} r k j left from goes) =
    let h = all_owed r in
    let out = all_taken_out (Owed js) from h.0 in
    (All-Onward (Owed js) goes (λ some_left. (out.0.0, some_left)) out.1, h.1)
all_owed (leave {accepted = js} r w from) =
    let h = all_owed r in
    let out = all_taken_out (Owed js) from h.0 in
    (out.1, (out.0, h.1))

-- ---- what follows about each job

module _ {taken : ℕ → Bool} {t : ℕ} {waiting : List Waiting} {accepted : List Job} {ticks : List (Option ℕ)} {left_early : List Waiting} where
  -- A name that no accepted job has was given no tick.
  pub only_accepted_have_ticks : OnlyAcceptedHaveTicks taken t waiting accepted ticks left_early
  unfolding weighed
  only_accepted_have_ticks r n h = omega (arith, conserved r n, none_passes (named n) (λ j. j.cost) accepted (none_named n accepted h))

  module _ (r : Trace taken t waiting accepted ticks left_early) (distinct : DistinctNames accepted) where
    -- The jobs that wait and the jobs that left early, in one list.
    abbrev unfinished : List Waiting
    unfinished = waiting ++ left_early

    -- The cost of an accepted job is the units that it was given plus the units left under its name.
    own_share : {j : Job} → Memᴰ j accepted → units j.name ticks + units_left (named j.name) unfinished ≡ j.cost
    unfolding units_left
    own_share {j} m = omega (
      arith,
      conserved r j.name,
      own_cost accepted distinct m,
      total-append (weight_if (λ w. named j.name w.job) (λ w. w.left)) waiting left_early,
    )

    -- For each name at most one job waits or left early.
    at_most_one_unfinished : (n : ℕ) → total (one_if_named n) unfinished ≤ 1
    at_most_one_unfinished n =
        omega (arith, total-append (one_if_named n) waiting left_early, no_more_than_accepted r n, at_most_one_named n accepted distinct)

    -- Each job that waits or left early was accepted, has at least 1 unit left, and has been given the rest of its cost.
    pub accounted : (w : Waiting) → Memᴰ w unfinished → Accounted accepted ticks w
    unfolding units_left
    accounted w m =
        let h = all_owed r in
        let owed = all_at (Owed accepted) (All-append (Owed accepted) waiting left_early h.0 h.1) m in
        let n = w.job.name in
        let its_own = the_only_one (λ v. named n v.job) (λ v. v.left) (at_most_one_unfinished n) m (eq-eqb n n refl) in
        record { was_accepted = owed.0; some_left = owed.1; had_the_rest = omega (arith, own_share owed.0, its_own) }

    -- What has become of a job that stands in the list of those that wait or left early.
    fate_of_unfinished : (w : Waiting) → Memᴰ w unfinished → Fate w.job waiting ticks left_early
    fate_of_unfinished w m = ⊎_elim (λ k. waits (in_list waiting k)) (λ k. over (ended (in_list left_early k))) (Memᴰ.append_cases waiting m)
      where
        in_list : (ws : List Waiting) → Memᴰ w ws → Unfinished w.job ws ticks
        in_list ws k =
            let a = accounted w m in
            record { left = w.left; some_left = a.some_left; among = k; had_the_rest = a.had_the_rest }

    -- An accepted job whose name no job has that waits or left early has had its cost.
    fate_of_finished : (j : Job) → Memᴰ j accepted → All (λ w. named j.name w.job ≡ false) unfinished → Fate j waiting ticks left_early
    unfolding units_left
    fate_of_finished j m none =
        over (served (omega (arith, own_share m, none_passes (λ w. named j.name w.job) (λ w. w.left) unfinished none)))

    -- What has become of each accepted job.
    fate_of : (j : Job) → Memᴰ j accepted → Fate j waiting ticks left_early
    fate_of j m = ⊎_elim
        (λ found.
        let (w, k, same) = found in
        let one = one_job_a_name distinct (accounted w k).was_accepted m (eqb-true w.job.name j.name same) in
        rw one at (fate_of_unfinished w k))
        (fate_of_finished j m)
        (some_or_none_passes (λ w. named j.name w.job) unfinished)

  -- Each accepted job waits, has had its cost, or left early.
  pub every_job_has_its_fate : EveryJobHasItsFate taken t waiting accepted ticks left_early
  every_job_has_its_fate r distinct = all_of_members accepted (fate_of r distinct)

  -- Each job that waits was accepted, and has had its cost less its units left.
  pub waiting_are_accounted : WaitingAreAccounted taken t waiting accepted ticks left_early
  waiting_are_accounted r distinct = all_of_members waiting (λ w m. accounted r distinct w (Memᴰ.append_left left_early m))

  -- Each job that left early was accepted, and has had its cost less the units that it had left then.
  pub left_early_are_accounted : LeftEarlyAreAccounted taken t waiting accepted ticks left_early
  left_early_are_accounted r distinct = all_of_members left_early (λ w m. accounted r distinct w (Memᴰ.append_right waiting m))

  -- No accepted job has had more units than its cost.
  pub never_more_than_its_cost : NeverMoreThanItsCost taken t waiting accepted ticks left_early
  never_more_than_its_cost r distinct = all_of_members accepted (λ j m. omega (arith, own_share r distinct m))

-- ---- a job that leaves early

-- A job that waits may leave early, and is then among those that left early.
pub any_may_leave : {taken : ℕ → Bool} {t : ℕ} {waiting : List Waiting} {accepted : List Job} {ticks : List (Option ℕ)} {left_early : List Waiting}
    → AnyMayLeave taken t waiting accepted ticks left_early
any_may_leave r distinct w rest from =
    let gone = leave r w from in
    let a = accounted gone distinct w (Memᴰ.append_right rest (Memᴰ.head refl)) in
    (gone, record { left = w.left; some_left = a.some_left; among = Memᴰ.head refl; had_the_rest = a.had_the_rest })

pub somebody_leaves : SomebodyLeaves
somebody_leaves j left at cost =
    let first : Waiting = record { job = j; left = suc (suc left) } in
    let put : Insert (record { job = j; left = j.cost }) [] (first ∷ []) = rw cost here in
    let one : Trace none_taken 0 (first ∷ []) (j ∷ []) [] [] = accept begin j at (omega arith) put in
    let two : Trace none_taken 1 (record { job = j; left = suc left } ∷ []) (j ∷ []) (some j.name ∷ []) [] = serve one refl j (suc left) here (on here) in
    leave two (record { job = j; left = suc left }) here
