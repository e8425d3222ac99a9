-- What the answer of `Columns::work` says about the clock and the number of jobs. (docs/RULES.md, 6.10 to 6.13.)
use Rattle.std.specs.Prelude.{Some, None}
use Prim.Native.Nat.{ℕ, ◌+◌, ◌-◌, ◌≤◌, ◌<◌}
use mathlib.Core.Path.{◌≡◌}
use mathlib.Core.Bool.{true, false, ◌||◌}
use native.Mathlib.Omega.{arith}
use lib.Dec.{eqb, leb}
use lib.ListN.{get_or, set}
use borrow.Author.Tests.{lt-ltb, le-ltb, eq-eqb}
use Rattle.kinds.specs.declared.Finish.{Finish}
use Rattle.kinds.proofs.Apart.{impossible}
use Rattle.theory.proofs.Cases.{by_lt, by_test}
use Rattle.jobs.specs.Places.{max_places}
use Rattle.columns.specs.declared.Worked.{Worked}
use Rattle.columns.specs.declared.Columns.{Columns}
use Rattle.columns.specs.Columns.{columns, settled, used_in, start_in}
use Rattle.columns.specs.Ticks.{units_of_first, first_finish, work_on, work_answer}
use Rattle.columns.proofs.Strides.{to_go_some}

module _ (c : Columns) (clock until : ℕ) where
  -- A property of each of the three cases of `work` is a property of its answer and of the columns that it leaves: nothing happens, the first job gets all
  -- ticks, or it finishes.
  each_work : (P : Worked → Columns → Type 0)
      → P (record { clock = record { 0 = clock }; finished = None }) (settled c)
      → P (record { clock = record { 0 = until }; finished = None })
      (columns c.serials c.rows c.releases c.dues (set c.left (start_in c) (get_or c.left (start_in c) 0 - (until - clock))) (start_in c) (used_in c))
      → (1 ≤ used_in c → units_of_first c ≤ until - clock → P (record {
        clock = record { 0 = clock + units_of_first c };
        finished = Some (first_finish c (clock + units_of_first c));
      }) (columns c.serials c.rows c.releases c.dues c.left (start_in c + 1) (used_in c - 1))) → P (work_answer c clock until) (work_on c clock until)
  unfolding work_answer work_on
  each_work P idles shorts finishes = by_test (eqb (used_in c) 0 || leb until clock)
      (λ idle. rw idle idles)
      (λ busy. by_lt (until - clock) (units_of_first c)
      (λ short. rw (busy, lt-ltb (until - clock) (units_of_first c) short) shorts)
      (λ enough. rw (busy, le-ltb (until - clock) (units_of_first c) enough)
      (finishes (by_lt 0 (used_in c) (λ some. some)
      (λ none. let wrong : true ≡ false = rw (eq-eqb (used_in c) 0 (omega arith)) at busy in impossible cc)) enough)))

  -- There are never more jobs than places afterwards.
  pub few_after : (work_on c clock until).count ≤ max_places
  few_after = each_work (λ r after. after.count ≤ max_places) (omega arith) (omega arith) (λ some enough. omega arith)

  -- A job finished: the clock is later than before and not past the time, and one job fewer is pending.
  pub record FinishedSo (r : Worked) (after : Columns) : Type 0 where
    pub later : clock < r.clock.0
    pub in_time : r.clock.0 ≤ until
    pub one_less : after.count + 1 ≡ used_in c

  pub finished_so : (f : Finish) → (work_answer c clock until).finished ≡ Some f → FinishedSo (work_answer c clock until) (work_on c clock until)
  finished_so f = each_work (λ r after. r.finished ≡ Some f → FinishedSo r after)
      (λ e. impossible cc)
      (λ e. impossible cc)
      (λ some enough e.
      let units = (to_go_some (get_or c.left (start_in c) 0)).0 in
      record { later = omega (arith, units); in_time = omega (arith, units); one_less = omega arith })
