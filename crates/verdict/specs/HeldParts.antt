-- The part of a held demand that repeats itself every P, and the straight line above the rest of it. P is a number of lengths, and may be much shorter than the
-- period. (docs/RULES.md, 5.3 and 5.7.)
use Rattle.std.specs.Prelude.{ℕ, ◌+◌, ◌-◌, ◌*◌, ◌/◌, ◌%◌, ◌≤◌, ◌<◌, ◌≡◌, ◌≢◌, get_or}
use Rattle.std.specs.Int.{◌∣◌}
use mathlib.Core.List.{List, Memᴰ}
use Rattle.theory.specs.Ticks.{timer_takes}
use Rattle.theory.specs.Terms.{term_demand}
use Rattle.theory.specs.TermCurves.{term_growth}
use Rattle.theory.specs.Parts.{taken_into_part, left_out_of_part}
use Rattle.table.specs.declared.Row.{Row}
use Rattle.table.specs.declared.Server.{Server}
use Rattle.table.specs.declared.Table.{Table}
use Rattle.table.specs.Tables.{rows_of, servers_of}
use Rattle.table.specs.Limits.{max_y, max_period}
use Rattle.verdict.specs.HeldTerms.{group_of, held_s, held_p, sum_below}

-- The w of term i.
abbrev pub held_w : List ℕ → (i : ℕ) → ℕ
held_w l i = get_or l (group_of i + 1) 0

-- The `up` of term i.
abbrev pub held_up : List ℕ → (i : ℕ) → ℕ
held_up l i = get_or l (group_of i + 2) 0

-- The `down` of term i.
abbrev pub held_down : List ℕ → (i : ℕ) → ℕ
held_down l i = get_or l (group_of i + 3) 0

-- The b of term i.
abbrev pub held_b : List ℕ → (i : ℕ) → ℕ
held_b l i = get_or l (group_of i + 4) 0

-- The a of term i.
abbrev pub held_a : List ℕ → (i : ℕ) → ℕ
held_a l i = get_or l (group_of i + 5) 0

-- The timer's p, each row's y and each server's b divide the period. (5.7)
pub record PeriodOf (t : Table) (period : ℕ) : Type 0 where
  pub p_divides : t.p ∣ period
  pub y_divides : (r : Row) → Memᴰ r (rows_of t) → r.y ∣ period
  pub b_divides : (v : Server) → Memᴰ v (servers_of t) → v.b ∣ period

-- The timer's p and the b of each term divide the period, and from d on each term repeats itself.
pub record Repeats (l : List ℕ) (count d period : ℕ) : Type 0 where
  pub p_divides : held_p l ∣ period
  pub b_divides : (i : ℕ) → i < count → held_b l i ∣ period
  pub from_d : (i : ℕ) → i < count → held_down l i ≤ d + held_up l i

-- How much term i grows in a period. (5.7)
abbrev pub held_growth : List ℕ → (period i : ℕ) → ℕ
held_growth l period i = term_growth (held_b l i) (held_a l i) (held_w l i) period

-- How much the ticks that the timer takes grow in a period. (5.7)
abbrev pub timer_growth : List ℕ → (period : ℕ) → ℕ
timer_growth l period = held_s l * (period / held_p l)

-- The part for P: the demand of the terms whose b divides P, and the ticks that the timer takes where its p divides P.
unfoldable pub part_demand : List ℕ → (count P L : ℕ) → ℕ
part_demand l count P L =
    sum_below count (λ i. term_demand (held_b l i) (held_a l i) (taken_into_part P (held_b l i) (held_w l i)) (held_up l i) (held_down l i) L)
    + timer_takes (taken_into_part P (held_p l) (held_s l)) (held_p l) L

-- The slope of the line above the rest: what all that is left out of the part grows by in a period.
unfoldable pub line_slope : List ℕ → (count P period : ℕ) → ℕ
line_slope l count P period = sum_below count (λ i. left_out_of_part P (held_b l i) (held_growth l period i)) + left_out_of_part P (held_p l) (timer_growth l period)

-- The lift of the line above the rest: for each term that is left out its growth times its `up`, and for the timer its growth times p − s.
unfoldable pub line_lift : List ℕ → (count P period : ℕ) → ℕ
line_lift l count P period =
    sum_below count (λ i. left_out_of_part P (held_b l i) (held_growth l period i * held_up l i))
    + left_out_of_part P (held_p l) (timer_growth l period * (held_p l - held_s l))

-- A demand whose growth in a period is above the period by more than this is not searched by classes.
abbrev pub max_over : ℕ
max_over = 64

-- A line whose numbers are so small that its height in a length can be worked out.
pub record GoodLine (slope lift period : ℕ) : Type 0 where
  pub some_period : 1 ≤ period
  pub most_slope : slope ≤ max_period + max_over
  pub most_lift : lift ≤ slope * max_y

-- The walk along the class of x by steps of P found r: it is the smallest length of the class that is below `best` and fails, or `best` if there is none.
pub record WalkFound (f : ℕ → ℕ) (P x best r : ℕ) : Type 0 where
  pub at_most : r ≤ best
  pub smaller_fit : (k : ℕ) → x + k * P < r → f (x + k * P) ≤ x + k * P
  pub fails : r < best → (x ≤ r) × (r < f r)

-- ---- lower lines

-- The b of each term that is left out of the part for P divides Q, and so does the timer's p if the timer is left out. So what is left out repeats itself every
-- Q.
pub record LeftOutRepeats (l : List ℕ) (count P Q : ℕ) : Type 0 where
  pub p_divides : P % held_p l ≢ 0 → held_p l ∣ Q
  pub b_divides : (i : ℕ) → i < count → P % held_b l i ≢ 0 → held_b l i ∣ Q

-- A line is above what a part leaves out of f, in every length.
abbrev pub LineAbove : (f part : ℕ → ℕ) (H slope lift : ℕ) → Type 0
LineAbove f part H slope lift = (L : ℕ) → H * f L ≤ H * part L + (slope * L + lift)

-- The lift r is no larger, and with it the line is above what a part leaves out of f in each length below `end`.
pub record LowerLift (f part : ℕ → ℕ) (H slope lift end r : ℕ) : Type 0 where
  pub at_most : r ≤ lift
  pub above : (L : ℕ) → L < end → H * f L ≤ H * part L + (slope * L + r)

-- ---- the rest of a class

-- A look at any length of a class can show that this length and the later ones of the class fit. Here u is the part, the line and what they are raised by.
abbrev pub LooksSettle : (f u : ℕ → ℕ) (start P H : ℕ) → Type 0
LooksSettle f u start P H = (c k : ℕ) → start ≤ c → u c ≤ c → k * P ≤ H → f (c + k * P) ≤ c + k * P

-- A look at r, which is a length of the class of x, shows that it and the later ones fit, or r is `best`.
pub record SettledFrom (u : ℕ → ℕ) (P x best r : ℕ) : Type 0 where
  pub at_most : r ≤ best
  pub turn : ℕ
  pub here : r < best → r ≡ x + turn * P
  pub looked : r < best → u r ≤ r
