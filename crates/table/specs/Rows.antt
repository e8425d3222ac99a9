-- The ranges of a row's values, and how a row is read from bytes. (docs/RULES.md, section 3.)
use Rattle.std.specs.Prelude.{ℕ, Bool, true, false, not, cond, ◌&&◌, List, leb, ltb, Result, Ok, Err}
use Rattle.std.proofs.Math.Option.{Option, none, some}
use Rattle.kinds.specs.declared.RefusedAt.{RefusedAt}
use Rattle.kinds.specs.declared.Refusal.{Refusal}
use Rattle.kinds.specs.declared.Refusal.TheVariants.{ValueOutOfRange, HopelessRow}
use Rattle.numbers.specs.declared.Number.{Number}
use Rattle.numbers.specs.Reading.{read_at}
use Rattle.table.specs.declared.RowAt.{RowAt}
use Rattle.table.specs.declared.Row.{Row}
use Rattle.table.specs.Limits.{max_x, max_y, max_d, max_c}

-- `from_one_to` tests whether the number n is from 1 to the limit `most`. (3.2)
abbrev pub from_one_to : (most n : ℕ) → Bool
from_one_to most n = leb 1 n && leb n most

-- A value from 1 to a limit is in range; any other gets refusal 3. (3.2, 3.10)
abbrev pub within_limit : (most v : ℕ) → Option Refusal
within_limit most v = cond (from_one_to most v) none (some ValueOutOfRange)

-- An x is refused unless it is from 1 to its limit. (3.2)
abbrev pub rule_of_x : ℕ → Option Refusal
rule_of_x x = within_limit max_x x

-- A y is refused unless it is from 1 to its limit. (3.2)
abbrev pub rule_of_y : ℕ → Option Refusal
rule_of_y y = within_limit max_y y

-- A d is refused unless it is from 1 to its limit. (3.2)
abbrev pub rule_of_d : ℕ → Option Refusal
rule_of_d d = within_limit max_d d

-- A c is in its own range when it is from 1 to its limit, whatever d is. (3.2)
abbrev pub range_of_c : ℕ → Option Refusal
range_of_c c = within_limit max_c c

-- A c above the row's d is refusal 16: no processor gives a job c units within d ticks. (3.3)
abbrev pub within_its_d : (d c : ℕ) → Option Refusal
within_its_d d c = cond (ltb d c) (some HopelessRow) none

-- A value that its range refuses stays refused, and any other goes on to the next test. (3.3, 3.7)
abbrev pub after_range : Option Refusal → (next : Option Refusal) → Option Refusal
after_range none next = next
after_range (some r) next = some r

-- A c is refused unless it is from 1 to its limit. After that test it is refused if it is above the row's d. (3.2, 3.3)
abbrev pub rule_of_c : (d c : ℕ) → Option Refusal
rule_of_c d c = after_range (range_of_c c) (within_its_d d c)

-- A value is fine when its rule gives no refusal.
abbrev pub fine : Option Refusal → Bool
fine none = true
fine (some r) = false

-- A row is in range when each of its four values is. Whether c is above d plays no part in this. (3.2)
abbrev pub row_in_range : Row → Bool
row_in_range r = fine (rule_of_x r.x) && fine (rule_of_y r.y) && fine (rule_of_d r.d) && fine (range_of_c r.c)

-- A row is hopeless when its c is above its d: a job of full cost can never be met. (3.3)
abbrev pub hopeless : Row → Bool
hopeless r = ltb r.d r.c

-- A table may have a row that is in range and not hopeless. (3.2, 3.3)
abbrev pub row_acceptable : Row → Bool
row_acceptable r = row_in_range r && not (hopeless r)

-- A number that was read at the place `at` is answered as it is if its rule gives no refusal. Otherwise that refusal is answered, at the number's start. (3.10)
abbrev pub tested_at : (at : ℕ) → Option Refusal → Number → Result Number RefusedAt
tested_at at none n = Ok n
tested_at at (some r) n = Err (record { refusal = r; place = at })

-- A number that was read is tested by its rule, and a number that can't be read keeps the reader's refusal. (3.8, 3.10)
abbrev pub tested : (rule : ℕ → Option Refusal) (at : ℕ) → Result Number RefusedAt → Result Number RefusedAt
tested rule at (Ok n) = tested_at at (rule n.value) n
tested rule at (Err r) = Err r

-- A value is tested as it is read, before the next one is looked at. (3.7)
abbrev pub read_value : (rule : ℕ → Option Refusal) → List ℕ → (at : ℕ) → Result Number RefusedAt
read_value rule s at = tested rule at (read_at s at)

-- After a value that was read the row goes on with `k`, and a refusal ends it. (3.7)
abbrev pub after_value : Result Number RefusedAt → (Number → Result RowAt RefusedAt) → Result RowAt RefusedAt
after_value (Ok n) k = k n
after_value (Err r) k = Err r

-- A row is read as x, y, d and c, from left to right. The rule of c looks at the d that was read before it. (3.3, 3.6, 3.7)
abbrev pub read_row : List ℕ → (at : ℕ) → Result RowAt RefusedAt
read_row s at =
    after_value (read_value rule_of_x s at) λ x.
    after_value (read_value rule_of_y s x.next) λ y.
    after_value (read_value rule_of_d s y.next) λ d.
    after_value (read_value (rule_of_c d.value) s d.next) λ c.
    Ok (record { row = record { x = x.value; y = y.value; d = d.value; c = c.value }; next = c.next })
