-- The proofs about schedules of any kind. A tick goes to at most one name, so of jobs with distinct names at most one gets a unit from it, and none if it is
-- taken. Added up over a window, the jobs get at most as many units as it has free ticks. A job that is released and due inside the window, and is given its
-- cost in time, gets its cost there. So where every due time is met, no window asks for more than its free ticks. Jobs that are due by L and cost more than the
-- free ticks before L ask for too much in the window from zero to L.
use Prim.Native.Nat.{ℕ, ◌+◌, ◌-◌, ◌≤◌}
use mathlib.Core.Path.{◌≡◌, refl}
use mathlib.Core.Bool.{Bool, true, false, cond}
use mathlib.Core.Option.{Option, none, some}
use mathlib.Core.List.{List, flatten}
use native.Mathlib.Omega.{arith}
use native.Mathlib.Decide.{le_ind}
use native.Mathlib.Nat.{le_refl}
use Rattle.theory.specs.Lists.{All, total, weight_if}
use Rattle.theory.specs.Jobs.{Job, DistinctNames, within, weighed, asked}
use Rattle.theory.specs.Ticks.{free_before, free, had}
use Rattle.theory.specs.Schedules.{units_before, units_in, Meets, GivesAll, WindowsFit, Overload, OverloadOfSources, UnitsOfAStretch, GivenTheirTicks}
use Rattle.theory.proofs.Cases.{by_lt}
use Rattle.theory.proofs.Lists.{all_of, all_imply, All-flatten, total-flatten, total-plus, total_monotone, total_zero}
use Rattle.theory.proofs.Jobs.{weight_inside, weight_early, weight_late, at_most_one_named}
use Rattle.theory.proofs.Ticks.{had_either_way, had_by_its_own}

-- ---- one tick

-- A tick that goes to nobody gives no job a unit.
nobody_has_it : (js : List Job) → total (λ j. had j.name none) js ≡ 0
nobody_has_it js = total_zero (λ j. had j.name none) js (all_of (λ j. refl) js)

-- Of jobs with distinct names at most one has a given tick.
one_has_it : (tick : Option ℕ) (js : List Job) → DistinctNames js → total (λ j. had j.name tick) js ≤ 1
unfolding weighed
one_has_it none js distinct = omega (arith, nobody_has_it js)
one_has_it (some n) js distinct =
    let same = total_monotone (λ j. had j.name (some n)) (λ j. had n (some j.name)) js (all_of (λ j. omega (arith, had_either_way j.name n)) js) in
    omega (arith, same, at_most_one_named n js distinct)

-- ---- the ticks of a window

-- What a job asks for in a window: its cost if it is released and due inside, and otherwise 0.
abbrev cost_in : (a b : ℕ) → Job → ℕ
cost_in a b = weight_if (within a b) (λ j. j.cost)

module _ (taken : ℕ → Bool) (who : ℕ → Option ℕ) where
  -- How many units a job gets from the tick that starts at t.
  abbrev has_at : (t : ℕ) → Job → ℕ
  has_at t j = cond (taken t) 0 (had j.name (who t))

  -- How many units a job gets from the ticks before t.
  abbrev has_before : (t : ℕ) → Job → ℕ
  has_before t j = units_before taken who j.name t

  -- Jobs with distinct names together get at most one unit from a tick, and none if it is taken.
  one_unit_a_free_tick : (t : ℕ) (js : List Job) → DistinctNames js → total (has_at t) js ≤ cond (taken t) 0 1
  one_unit_a_free_tick t js distinct = go (taken t)
    where
      go : (b : Bool) → total (λ j. cond b 0 (had j.name (who t))) js ≤ cond b 0 1
      go true = omega (arith, nobody_has_it js)
      go false = one_has_it (who t) js distinct

  -- Jobs with distinct names together get no more units in a window than it has free ticks.
  units_fit : (a b : ℕ) (js : List Job) → DistinctNames js → a ≤ b
      → total (has_before b) js + free_before taken a ≤ total (has_before a) js + free_before taken b
  unfolding free_before units_before
  units_fit a b js distinct h = le_ind
      (λ t. total (has_before t) js + free_before taken a ≤ total (has_before a) js + free_before taken t)
      (le_refl _)
      (λ t l k. omega (arith, one_unit_a_free_tick t js distinct, total-plus (has_at t) (has_before t) js))
      b
      h

  -- A job has had no fewer units at a later time.
  units_grow : (a b : ℕ) (j : Job) → a ≤ b → has_before a j ≤ has_before b j
  unfolding units_before
  units_grow a b j h = le_ind (λ t. has_before a j ≤ has_before t j) (le_refl _) (λ t l k. omega arith) b h

  -- A job whose due time is met gets in a window what it asks for there.
  had_what_it_asked : (a b : ℕ) → a ≤ b → (j : Job) → j.cost ≤ units_in taken who j.name j.release j.due
      → cost_in a b j + has_before a j ≤ has_before b j
  unfolding units_in
  had_what_it_asked a b h j met =
      let grow = units_grow a b j h in
      by_lt j.release a (λ k. omega (arith, weight_early (λ i. i.cost) a b j k)) λ k.
      by_lt b j.due (λ l. omega (arith, weight_late (λ i. i.cost) a b j l)) λ l.
      omega (arith, weight_inside (λ i. i.cost) a b j k l, units_grow a j.release j k, units_grow j.due b j l)

  -- Jobs whose due times are met together get in a window what they ask for there.
  had_what_they_asked : (a b : ℕ) (js : List Job) → a ≤ b → Meets taken who js → asked a b js + total (has_before a) js ≤ total (has_before b) js
  unfolding weighed
  had_what_they_asked a b js h met = rw (← total-plus (cost_in a b) (has_before a) js)
      (total_monotone (λ j. cost_in a b j + has_before a j) (has_before b) js (all_imply (λ j m. had_what_it_asked a b h j (omega (arith, m))) js met))

-- Where every due time is met, no window asks for more than its free ticks.
pub windows_fit : WindowsFit
unfolding free
windows_fit taken who js distinct met a b h = omega (arith, units_fit taken who a b js distinct h, had_what_they_asked taken who a b js h met)

-- ---- the window from zero to L

-- Jobs that are due by L ask in the window from zero to L for all that they cost.
all_asked_by : (L : ℕ) (js : List Job) → All (λ j. j.due ≤ L) js → total (λ j. j.cost) js ≤ asked 0 L js
unfolding weighed
all_asked_by L js due =
    total_monotone (λ j. j.cost) (cost_in 0 L) js (all_imply (λ j k. omega (arith, weight_inside (λ i. i.cost) 0 L j (omega arith) k)) js due)

-- No assignment meets all due times of jobs that are due by L and cost more than the free ticks before L.
pub overload : Overload
overload taken L js distinct due more who met = omega (arith, all_asked_by L js due, windows_fit taken who js distinct met 0 L (omega arith))

-- No assignment meets all due times of the jobs of several sources, where these are due by L and together cost more than the free ticks before L.
pub overload_of_sources : OverloadOfSources
overload_of_sources taken L lists distinct due more =
    overload taken L (flatten lists) distinct (All-flatten (λ j. j.due ≤ L) lists due) (rw (total-flatten (λ j. j.cost) lists) more)

-- ---- consecutive ticks

-- Where every tick from a on and before b is free and given to a job, the job has b − a more units at b than at a.
units_of_a_stretch_before : (taken : ℕ → Bool) (who : ℕ → Option ℕ) (n a b : ℕ) → a ≤ b → GivesAll taken who n a b
    → units_before taken who n b ≡ units_before taken who n a + (b - a)
unfolding units_before
units_of_a_stretch_before taken who n a b h gives = le_ind
    (λ t. t ≤ b → units_before taken who n t ≡ units_before taken who n a + (t - a))
    (λ _. omega arith)
    (λ t l more within.
    let tick = gives t l within in
    let one : cond (taken t) 0 (had n (who t)) ≡ 1 = rw (tick.0, tick.1) (had_by_its_own n n refl) in
    omega (arith, one, more (omega arith)))
    b
    h
    (le_refl b)

pub units_of_a_stretch : UnitsOfAStretch
unfolding units_in
units_of_a_stretch taken who n a b h gives = omega (arith, units_of_a_stretch_before taken who n a b h gives)

pub given_their_ticks : GivenTheirTicks
unfolding units_in
given_their_ticks taken who = all_imply λ j g.
    let given = units_of_a_stretch_before taken who j.name g.from (g.from + j.cost) (omega arith) g.gives_all in
    let early = units_grow taken who j.release g.from j g.not_before_release in
    omega (arith, given, early, units_grow taken who (g.from + j.cost) j.due j g.in_time)
