-- One test of a row number and a cost. A release, the soundness of a run and a script's record all use it. It answers 6 where the row number is not in use, and
-- 7 where the cost is 0 or above the row's c. A server is a row whose c is 4,096. (docs/RULES.md, 3.20, 6.8 and 2.11.)
use Rattle.std.specs.Prelude.{ℕ, ◌+◌, ◌-◌, ◌≤◌, ◌<◌, ◌≡◌, ◌↔◌, ◌⊎◌, cond, List, [], ◌∷◌, ◌++◌, map, ltb, length, take, get_or, replicate}
use Rattle.std.specs.Prelude.{Option, Some, None, Result, Ok, Err}
use Rattle.kinds.specs.declared.Refusal.{Refusal}
use Rattle.kinds.specs.declared.Refusal.TheVariants as refusal
use Rattle.kinds.specs.Numbering.{Says, numbered, values, refused_says, without_place, NeverNumberedZero, SaysApart, refused_with}
use Rattle.table.specs.declared.Row.{Row}
use Rattle.table.specs.declared.Table.{Table}
use Rattle.table.specs.Limits.{max_rows, max_servers, max_sources, max_c}
use Rattle.table.specs.Rows.{from_one_to}
use Rattle.table.specs.Tables.{no_row, rows_of}

-- `cs_of` lists the c of each row, in the order of the rows. (1.6)
abbrev pub cs_of : List Row → List ℕ
cs_of rows = map (λ (r : Row). r.c) rows

-- A table's cost limits, in the order of the row numbers, are the c of each row in use, and then 4,096 for each server in use. (1.6, 3.20)
abbrev pub cost_limits : Table → List ℕ
cost_limits t = cs_of (rows_of t) ++ replicate t.serving max_c

-- `cost_limits` lists the c of each row in use, and then 4,096 for every row number that is left. (1.6, 3.20)
abbrev pub held_limits : Table → List ℕ
held_limits t = cs_of (rows_of t) ++ replicate (max_sources - length (rows_of t)) max_c

-- `limits` has one cost limit for each row number in use. A row number below their count has the limit at that number, and any other number is not in use.
-- (6.8)
abbrev pub limit_of : (limits : List ℕ) (number : ℕ) → Option ℕ
limit_of limits number = cond (ltb number (length limits)) (Some (get_or limits number 0)) None

-- A cost from 1 to the most is allowed, and any other is refusal 7. Where the row number is not in use, every cost is refusal 6. (6.8)
abbrev pub cost_answer : Option ℕ → (cost : ℕ) → Result (Unit {0}) Refusal
cost_answer None cost = Err refusal.NoSuchRow
cost_answer (Some most) cost = cond (from_one_to most cost) (Ok tt) (Err refusal.CostOutOfRange)

-- A limit says the most that a job may cost. Where the row number is not in use it says refusal 6, at place 0, since no place is named. (10.2, 10.7)
abbrev pub limit_says : Option ℕ → Says
limit_says (Some most) = values (most ∷ [])
limit_says None = numbered (refused_says (without_place refusal.NoSuchRow))

-- A cost that is allowed says no value. A cost that is refused says its refusal, at place 0, since no place is named. (10.2, 10.7)
abbrev pub cost_says : Result (Unit {0}) Refusal → Says
cost_says (Ok done) = values []
cost_says (Err r) = numbered (refused_says (without_place r))

-- ---- what is proved (proofs/CostLimits.antt)

-- No answer about limits and costs has the number 0. (1.16)
abbrev pub CostsNeverZero : Type 0
CostsNeverZero = NeverNumberedZero limit_says × NeverNumberedZero cost_says

-- Different answers about limits and costs say different things.
abbrev pub CostsSaidApart : Type 0
CostsSaidApart = SaysApart limit_says × SaysApart cost_says

-- A limit is given exactly where the row number is in use, and it is the one that stands at that number. (10.7)
abbrev pub LimitMeans : Type 0
LimitMeans = (limits : List ℕ) (number most : ℕ)
    → (limit_says (limit_of limits number) ≡ values (most ∷ [])) ↔ ((number < length limits) × (most ≡ get_or limits number 0))

-- A limit is refused with 6 exactly where the row number is not in use. (10.7)
abbrev pub NoLimitMeans : Type 0
NoLimitMeans = (limits : List ℕ) (number : ℕ) → (limit_says (limit_of limits number) ≡ refused_with 6 0) ↔ (length limits ≤ number)

-- A job is refused with 6 exactly where its row number is not in use, whatever its cost is. (6.8)
abbrev pub NotInUseMeans : Type 0
NotInUseMeans = (limits : List ℕ) (number cost : ℕ) → (cost_says (cost_answer (limit_of limits number) cost) ≡ refused_with 6 0) ↔ (length limits ≤ number)

-- A job is refused with 7 exactly where its row number is in use and its cost is 0 or above the row's limit. (6.8)
abbrev pub OutOfRangeCostMeans : Type 0
OutOfRangeCostMeans = (limits : List ℕ) (number cost : ℕ)
    → (cost_says (cost_answer (limit_of limits number) cost) ≡ refused_with 7 0)
    ↔ ((number < length limits) × ((cost ≡ 0) ⊎ (get_or limits number 0 < cost)))

-- A job is allowed exactly where its row number is in use and its cost is from 1 to the row's limit. (6.8)
abbrev pub AllowedMeans : Type 0
AllowedMeans = (limits : List ℕ) (number cost : ℕ)
    → (cost_says (cost_answer (limit_of limits number) cost) ≡ values [])
    ↔ ((number < length limits) × (1 ≤ cost) × (cost ≤ get_or limits number 0))

-- `cost_limits` gives a limit for every row number that there is room for. Those of the row numbers in use are the first of them. (3.14)
abbrev pub LimitsAreTheFirst : Type 0
LimitsAreTheFirst = (t : Table) → t.count ≤ max_rows → length t.rows ≡ max_rows → t.serving ≤ max_servers
    → cost_limits t ≡ take (t.count + t.serving) (held_limits t)

-- A table has as many cost limits as rows and servers in use. (3.14)
abbrev pub OneLimitForEach : Type 0
OneLimitForEach = (t : Table) → t.count ≤ max_rows → length t.rows ≡ max_rows → length (cost_limits t) ≡ t.count + t.serving

-- The cost limit at a row's number is the c of that row. (1.6)
abbrev pub LimitIsItsC : Type 0
LimitIsItsC = (t : Table) (number : ℕ) → t.count ≤ max_rows → length t.rows ≡ max_rows → number < t.count
    → get_or (cost_limits t) number 0 ≡ (get_or t.rows number no_row).c

-- The cost limit at a server's row number is 4,096. (3.20)
abbrev pub LimitOfAServer : Type 0
LimitOfAServer = (t : Table) (number : ℕ) → t.count ≤ max_rows → length t.rows ≡ max_rows → t.count ≤ number → number < t.count + t.serving
    → get_or (cost_limits t) number 0 ≡ 4096
