-- The timer takes the first s ticks of every p: the ranges of s and p, and how they are read from bytes. (docs/RULES.md, 3.16 and 3.17.)
use Rattle.std.specs.Prelude.{ℕ, ◌≤◌, ◌<◌, ◌≡◌, ◌↔◌, Bool, true, cond, ◌&&◌, List, ltb, Result, Ok, Err}
use Rattle.std.proofs.Math.Option.{Option, none, some}
use Rattle.kinds.specs.declared.RefusedAt.{RefusedAt}
use Rattle.kinds.specs.declared.Refusal.{Refusal}
use Rattle.kinds.specs.declared.Refusal.TheVariants.{ValueOutOfRange}
use Rattle.numbers.specs.declared.Number.{Number}
use Rattle.numbers.specs.Reading.{read_at}
use Rattle.table.specs.declared.TimerAt.{TimerAt}
use Rattle.table.specs.Limits.{max_p}
use Rattle.table.specs.Rows.{within_limit, fine, tested_at, read_value}

-- A p is refused unless it is from 1 to its limit. (3.16)
abbrev pub rule_of_p : ℕ → Option Refusal
rule_of_p p = within_limit max_p p

-- An s is refused unless it is below p. (3.16)
abbrev pub rule_of_s : (p s : ℕ) → Option Refusal
rule_of_s p s = cond (ltb s p) none (some ValueOutOfRange)

-- A timer is in range when p is from 1 to its limit and s is below p. (3.16)
abbrev pub timer_in_range : (s p : ℕ) → Bool
timer_in_range s p = fine (rule_of_p p) && fine (rule_of_s p s)

-- A table may have this timer: p is from 1 to its limit, and s is below p. (3.16)
pub record GoodTimer (s p : ℕ) : Type 0 where
  pub some_p : 1 ≤ p
  pub most_p : p ≤ max_p
  pub s_below_p : s < p

-- After a number that was read the timer goes on with `k`, and a refusal ends it. (3.7)
abbrev pub after_timer_number : Result Number RefusedAt → (Number → Result TimerAt RefusedAt) → Result TimerAt RefusedAt
after_timer_number (Ok n) k = k n
after_timer_number (Err r) k = Err r

-- The timer is read as s, at place 0, and p. Once both are read, p is tested first, and then s, which is refused at its start. (3.6, 3.17)
abbrev pub read_timer : List ℕ → Result TimerAt RefusedAt
read_timer bytes =
    after_timer_number (read_at bytes 0) λ s.
    after_timer_number (read_value rule_of_p bytes s.next) λ p.
    after_timer_number (tested_at 0 (rule_of_s p.value s.value) s) λ good.
    Ok (record { s = good.value; p = p.value; next = p.next })

-- ---- what is proved (proofs/Timers.antt)

-- A timer passes the test `timer_in_range` exactly when p is from 1 to its limit and s is below p. (3.16)
abbrev pub TimerInRangeMeans : Type 0
TimerInRangeMeans = (s p : ℕ) → (timer_in_range s p ≡ true) ↔ GoodTimer s p
