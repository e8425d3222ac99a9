-- Odd jobs: the due time of a server's next job, by the server's last due time. The rule itself is `server_due` of the theory. (docs/RULES.md, 4.9.)
use Rattle.std.specs.Prelude.{ℕ, ◌≤◌, ◌<◌, ◌≡◌, ◌↔◌, true, false, cond, [], ◌∷◌, Result, Err}
use Rattle.kinds.specs.Numbering.{max_time, values, refused_with}
use Rattle.kinds.specs.declared.Tick.{Tick}
use Rattle.kinds.specs.declared.Refusal.{Refusal}
use Rattle.kinds.specs.declared.Refusal.TheVariants.{ValueOutOfRange, CostOutOfRange}
use Rattle.theory.specs.Servers.{server_due}
use Rattle.table.specs.declared.Server.{Server}
use Rattle.table.specs.Limits.{max_c}
use Rattle.table.specs.Rows.{from_one_to}
use Rattle.table.specs.Servers.{server_in_range}
use Rattle.due.specs.Kept.{not_too_late}
use Rattle.due.specs.Answers.{due_says}

-- This is the due time of a server's next job, released at t with a stated cost, where `last` is the server's last due time. A server out of range is refusal
-- 3, a cost that no odd job may have is 7, and a due time above 2^40 is 9. (3.20, 4.7, 4.9, 10.7)
unfoldable pub odd_due_of : Server → (last t cost : ℕ) → Result Tick Refusal
odd_due_of v last t cost =
    cond (server_in_range v)
    (cond (from_one_to max_c cost) (not_too_late (server_due v.a v.b last t cost)) (Err CostOutOfRange))
    (Err ValueOutOfRange)

-- The due time `at` is given to an odd job: the server is in range, the cost is from 1 to 4,096, `at` is the due time by the rule, and it is at most 2^40.
-- (4.9)
pub record GivenOddDue (v : Server) (last t cost at : ℕ) : Type 0 where
  pub in_range : server_in_range v ≡ true
  pub cost_allowed : from_one_to max_c cost ≡ true
  pub by_rule : server_due v.a v.b last t cost ≡ at
  pub in_time : at ≤ max_time

-- ---- what is proved (proofs/OddJobs.antt)

-- The answer says the time `at` exactly when it is the due time by the rule, for a server in range and a cost of 1 to 4,096, and at most 2^40. (4.7, 4.9)
abbrev pub OddGivenMeans : Type 0
OddGivenMeans = (v : Server) (last t cost at : ℕ) → (due_says (odd_due_of v last t cost) ≡ values (at ∷ [])) ↔ GivenOddDue v last t cost at

-- The answer says 9 exactly when server and cost are in range and the due time by the rule is above 2^40. (4.7, 4.9)
abbrev pub OddTooLateMeans : Type 0
OddTooLateMeans = (v : Server) (last t cost : ℕ) → (due_says (odd_due_of v last t cost) ≡ refused_with 9 0)
    ↔ ((server_in_range v ≡ true) × (from_one_to max_c cost ≡ true) × (max_time < server_due v.a v.b last t cost))

-- The answer says 7 exactly when the server is in range and the cost is 0 or above 4,096. (3.20, 10.7)
abbrev pub OddCostMeans : Type 0
OddCostMeans = (v : Server) (last t cost : ℕ) → (due_says (odd_due_of v last t cost) ≡ refused_with 7 0)
    ↔ ((server_in_range v ≡ true) × (from_one_to max_c cost ≡ false))

-- The answer says 3 exactly when the server is out of range. (3.18, 10.7)
abbrev pub OddOutOfRangeMeans : Type 0
OddOutOfRangeMeans = (v : Server) (last t cost : ℕ) → (due_says (odd_due_of v last t cost) ≡ refused_with 3 0) ↔ (server_in_range v ≡ false)
