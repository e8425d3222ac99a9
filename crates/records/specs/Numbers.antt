-- The three numbers of a script's record, and their tests. The tests need only the most that a job of each row may cost and the time reached. (docs/RULES.md,
-- 7.1 to 7.6 and 8.5, steps 1 to 6.)
use Rattle.records.specs.declared.Asked.{Asked}
use Rattle.records.specs.declared.Ready.{Ready}
use Rattle.kinds.specs.declared.RefusedAt.{RefusedAt}
use Rattle.std.specs.Prelude.{ℕ, ◌+◌, cond, List, leb, Option, Some, None, Result, Ok, Err}
use Rattle.kinds.specs.Numbering.{max_time}
use Rattle.kinds.specs.declared.Refusal.{Refusal}
use Rattle.kinds.specs.declared.Tick.{Tick}
use Rattle.kinds.specs.declared.Refusal.TheVariants.{NoSuchRow, TimeTooLate}
use Rattle.numbers.specs.declared.Number.{Number}
use Rattle.script.specs.declared.Record.{Record}
use Rattle.script.specs.Records.{script_number}
use Rattle.table.specs.declared.Table.{Table}
use Rattle.table.specs.Costs.{cost_limits, limit_of, cost_answer}
use Rattle.records.specs.declared.Placed.{Placed}
use Rattle.records.specs.declared.Numbers.{Numbers}

-- ---- a record's numbers

-- A number of a script: the place where it starts, and what is read there. (7.6)
abbrev pub placed_at : List ℕ → (at : ℕ) → Placed
placed_at s at = record { place = at; read = script_number s at }

-- The place right after a number. For a number that can't be read it is the number's own place.
abbrev pub place_after_number : Result Number RefusedAt → (at : ℕ) → ℕ
place_after_number (Ok n) at = n.next
place_after_number (Err r) at = at

-- The number of a script that starts right after another number.
abbrev pub number_after : List ℕ → Placed → Placed
number_after s p = placed_at s (place_after_number p.read p.place)

-- The three numbers of the record at a place, one after another: the gap, the row number and the cost. (7.1)
abbrev pub numbers_at : List ℕ → (at : ℕ) → Numbers
numbers_at s at = record { gap = placed_at s at; row = number_after s (placed_at s at); cost = number_after s (number_after s (placed_at s at)) }

-- ---- the tests of a record's numbers

-- The answer of a test that refuses: the refusal, with a place. (10.2)
abbrev pub refused_at : Refusal → (place : ℕ) → Result Ready RefusedAt
refused_at r place = Err (record { refusal = r; place = place })

-- A number that was read goes on to the tests `k`. A number that can't be read is refused as its reader refused it. (8.5, steps 1, 3 and 5)
abbrev pub on_number : Result Number RefusedAt → (Number → Result Ready RefusedAt) → Result Ready RefusedAt
on_number (Ok n) k = k n
on_number (Err r) k = Err r

-- The script time of a record: the time reached and the record's gap. There is none above 2^40. (8.5, step 2)
abbrev pub time_after : (time gap : ℕ) → Option Tick
time_after time gap = cond (leb (time + gap) max_time) (Some (record { 0 = time + gap })) None

-- A row number in use goes on to the tests `then`. One that is not in use is refused with 6, at its start. (8.5, step 4)
abbrev pub on_row : Option ℕ → (place : ℕ) → Result Ready RefusedAt → Result Ready RefusedAt
on_row (Some most) place then = then
on_row None place then = refused_at NoSuchRow place

-- A cost that is allowed goes on to `then`. One that is not is refused at its start. (8.5, step 6)
abbrev pub on_cost : Result (Unit {0}) Refusal → (place : ℕ) → Result Ready RefusedAt → Result Ready RefusedAt
on_cost (Ok done) place then = then
on_cost (Err r) place then = refused_at r place

-- The tests of a record's three numbers, in their order. Each number is tested before the next is looked at: the gap by 14 and 10, the row number by 14 and 6,
-- the cost by 14 and 7. `limits` has the most that a job of each row may cost, and `time` is the script time of the record before. (8.5, steps 1 to 6)
abbrev pub tested_by : (limits : List ℕ) (time : ℕ) → Numbers → Result Ready RefusedAt
tested_by limits time n =
    on_number n.gap.read λ gap.
    cond (leb (time + gap.value) max_time)
    (on_number n.row.read λ row.
    on_row (limit_of limits row.value) n.row.place
    (on_number n.cost.read λ cost.
    on_cost (cost_answer (limit_of limits row.value) cost.value) n.cost.place
    (Ok (record { time = record { 0 = time + gap.value }; row = record { 0 = row.value }; cost = cost.value; next = cost.next }))))
    (refused_at TimeTooLate n.gap.place)

-- The tests of a record's three numbers on a table: its rows in use give the limits. (8.5, steps 1 to 6)
abbrev pub tested_numbers : Table → (time : ℕ) → Numbers → Result Ready RefusedAt
tested_numbers t time n = tested_by (cost_limits t) time n

-- ---- a record that was read already

-- A record whose cost is allowed goes on to `then`. A record whose cost is not allowed is refused as its cost is.
abbrev pub allowed_or : Result (Unit {0}) Refusal → Result Asked Refusal → Result Asked Refusal
allowed_or (Ok done) then = then
allowed_or (Err r) then = Err r

-- The tests of a record whose three numbers were read already. They refuse with 10, 6 or 7, in this order, and name no place. (10.7)
abbrev pub record_tested : (limits : List ℕ) (time : ℕ) → Record → Result Asked Refusal
record_tested limits time r =
    cond (leb (time + r.gap) max_time)
    (allowed_or (cost_answer (limit_of limits r.row.0) r.cost)
    (Ok (record { time = record { 0 = time + r.gap }; row = r.row; cost = r.cost })))
    (Err TimeTooLate)

-- The answer of the tests of a record's numbers, without its places: neither the place of a refusal nor the place after the record.
abbrev pub places_aside : Result Ready RefusedAt → Result Asked Refusal
places_aside (Ok r) = Ok (record { time = r.time; row = r.row; cost = r.cost })
places_aside (Err r) = Err r.refusal
