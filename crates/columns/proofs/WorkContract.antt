-- What `work` does is what its contract says, in each of its four cases. (docs/RULES.md, 6.10 to 6.13.)
use Rattle.std.specs.Prelude.{Some, None}
use Prim.Native.Nat.{ℕ, ◌+◌, ◌-◌, ◌≤◌, ◌<◌, min}
use mathlib.Core.Path.{◌≡◌, refl, sym, ap, ◌∙◌}
use mathlib.Core.Bool.{true, false, ◌||◌}
use native.Mathlib.Omega.{arith}
use lib.Dec.{eqb, leb}
use lib.ListN.{get_or, set}
use borrow.Author.Tests.{lt-ltb, le-ltb, le-leb, lt-leb, eq-eqb, ne_eqb}
use Rattle.kinds.specs.declared.Tick.{Tick}
use Rattle.columns.specs.declared.Worked.{Worked}
use Rattle.columns.specs.declared.Columns.{Columns}
use Rattle.columns.specs.Columns.{columns, max_entries, used_in, start_in}
use Rattle.columns.specs.Ticks.{units_to_go, units_of_first, work_on, work_answer}
use Rattle.columns.proofs.Strides.{to_go_all, to_go_some}

-- The columns d and the answer r are what the definitions say about ticks on the columns c.
abbrev pub WorkedAs : Columns → (clock until : Tick) → Columns → Worked → Type 0
WorkedAs c clock until d r = (r ≡ work_answer c clock.0 until.0) × (d ≡ work_on c clock.0 until.0)

module _ (c : Columns) (clock until : Tick) (many at : ℕ) (used : many ≡ used_in c) (begins : at ≡ min c.first (max_entries - many)) where
  -- The first job stands at this entry.
  start_so : at ≡ start_in c
  start_so = begins ∙ ap (λ (n : ℕ). min c.first (max_entries - n)) used

  -- Where no tick is given, only the first entry and the count are said as they are used.
  works_not : eqb (used_in c) 0 || leb until.0 clock.0 ≡ true
      → WorkedAs c clock until (columns c.serials c.rows c.releases c.dues c.left at many) (record { clock = clock; finished = None })
  unfolding work_answer work_on
  works_not idle = rw (idle, start_so, used) (refl, refl)

  -- Where nothing is pending, no tick is given.
  pub works_nothing : many ≡ 0
      → WorkedAs c clock until (columns c.serials c.rows c.releases c.dues c.left at many) (record { clock = clock; finished = None })
  works_nothing e = works_not (rw (eq-eqb (used_in c) 0 (sym used ∙ e)))

  module _ (some : many ≡ 0 → ⊥) where
    -- The test says that something is pending.
    pending : eqb (used_in c) 0 ≡ false
    pending = ne_eqb (used_in c) 0 (λ e. some (used ∙ e))

    -- Where the clock is at `until` or past it, no tick is given.
    pub works_no_time : until.0 ≤ clock.0
        → WorkedAs c clock until (columns c.serials c.rows c.releases c.dues c.left at many) (record { clock = clock; finished = None })
    works_no_time late = works_not (rw (pending, le-leb until.0 clock.0 late))

    module _ (early : clock.0 < until.0) (units : ℕ) (to_go : units ≡ units_to_go (get_or c.left at 0)) where
      -- The test says that ticks are given.
      busy : eqb (used_in c) 0 || leb until.0 clock.0 ≡ false
      busy = rw (pending, lt-leb until.0 clock.0 early)

      -- The first job gets so many units before it finishes.
      units_so : units_of_first c ≡ units
      units_so = rw (← start_so) (sym to_go)

      -- Where the first job needs more units than there are ticks, it gets all of them.
      pub works_on : until.0 - clock.0 < units
          → WorkedAs c clock until (columns c.serials c.rows c.releases c.dues (set c.left at (units - (until.0 - clock.0))) at many)
          (record { clock = until; finished = None })
      unfolding work_answer work_on
      works_on few =
          let left = get_or c.left at 0 in
          let more : 1 < left = (to_go_some left).1 (omega arith) in
          let less : units - (until.0 - clock.0) ≡ left - (until.0 - clock.0) = omega (arith, to_go_all left (omega arith)) in
          rw (busy, units_so, lt-ltb (until.0 - clock.0) units few, less, ← start_so, ← used) (refl, refl)

      -- Where there are as many ticks as the first job needs, it finishes and leaves at the front.
      pub works_finished : units ≤ until.0 - clock.0
          → WorkedAs c clock until (columns c.serials c.rows c.releases c.dues c.left (at + 1) (many - 1))
          (record {
            clock = record { 0 = clock.0 + units };
            finished = Some (record {
              serial = record { 0 = get_or c.serials at 0 };
              row = record { 0 = get_or c.rows at 0 };
              release = record { 0 = get_or c.releases at 0 };
              due = record { 0 = get_or c.dues at 0 };
              finish = record { 0 = clock.0 + units };
            });
          })
      unfolding work_answer work_on
      works_finished enough = rw (busy, units_so, le-ltb (until.0 - clock.0) units enough, start_so, used) (refl, refl)
