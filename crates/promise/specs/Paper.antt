-- The paper. The verdict is the paper's Theorem 4.2, with the demand of its Lemma 4.1, and with the servers' demand and the ticks that the timer takes beside
-- it. Due times of rows are those of its recurrence (1), and those of odd jobs are the server's rule. (1.19, 4.2, 4.3, 4.9, 5.2 to 5.4)
use Rattle.std.specs.Prelude.{ℕ, ◌+◌, ◌≤◌, ◌<◌, ◌≡◌, ◌↔◌, List, [], ◌∷◌, length}
use Rattle.kinds.specs.Numbering.{values}
use Rattle.numbers.specs.SpelledNumbers.{Bytes}
use Rattle.theory.specs.Lists.{total}
use Rattle.theory.specs.Ticks.{timer_takes}
use Rattle.theory.specs.Curves.{sum_over}
use Rattle.theory.specs.Paper.{paper_demand}
use Rattle.theory.specs.DueTimes.{RecurrenceOne, jth, releases, dues}
use Rattle.theory.specs.Servers.{ByServer}
use Rattle.theory.specs.Sources.{own}
use Rattle.table.specs.declared.Row.{Row}
use Rattle.table.specs.declared.Table.{Table}
use Rattle.table.specs.Tables.{rows_of, servers_of, table_read}
use Rattle.table.specs.Answers.{table_says}
use Rattle.verdict.specs.declared.Verdict.{Verdict}
use Rattle.verdict.specs.Demand.{server_demand_of}
use Rattle.verdict.specs.Verdict.{Judged, verdict_says}
use Rattle.run.specs.Runs.{row_at, server_at}
use Rattle.promise.specs.Traces.{Call, trace, jobs_of_trace}

-- `paper_sum` is the paper's sum in a length L: f(floor((L − d + y)/y)) · x · c over all rows. `paper_demand` is that expression of its Lemma 4.1. (5.2)
abbrev pub paper_sum : Table → (L : ℕ) → ℕ
paper_sum t L = total (λ (r : Row). paper_demand r.x r.y r.d r.c L) (rows_of t)

-- The paper's condition is that, for every L above 0, its sum is at most L. Here the servers' demand, the sum of floor(a · L / b), and the ticks that the timer
-- takes, floor(L/p) · s + min(s, L mod p), stand beside the sum: what they take is not there for the rows' jobs. (5.2 to 5.4, 5.16)
abbrev pub Theorem42 : Table → Type 0
Theorem42 t = (L : ℕ) → 0 < L → paper_sum t L + (sum_over server_demand_of (servers_of t) L + timer_takes t.s t.p L) ≤ L

-- For an accepted table, `judge` says feasible exactly when this condition holds. (A table is accepted where reading it answers its period h.) (5.2 to 5.4)
abbrev pub FeasibleIsTheorem42 : Type 0
FeasibleIsTheorem42 = (bytes : List ℕ) → Bytes bytes → (h : ℕ) → table_says (table_read bytes).answer ≡ values (h ∷ []) → (v : Verdict) → Judged bytes v
    → ((verdict_says v).number ≡ 20) ↔ Theorem42 (table_read bytes).table

-- The accepted jobs of a row, counted from 1 in the order in which they are accepted, are due as recurrence (1) says. (4.1 to 4.3)
abbrev pub DueTimesAreRecurrenceOne : Type 0
DueTimesAreRecurrenceOne = (bytes : List ℕ) → Bytes bytes → (calls : List Call) (row : ℕ) → row < (table_read bytes).table.count
    → let r = row_at (table_read bytes).table row in let js = own row (jobs_of_trace (trace bytes calls)) in
    RecurrenceOne r.x r.y r.d (length js) (jth (releases js)) (jth (dues js))

-- The accepted odd jobs of a server are due as the server's rule says, each after the jobs that were accepted before it, over the whole trace. (4.9)
abbrev pub OddJobsAreDueByTheRule : Type 0
OddJobsAreDueByTheRule = (bytes : List ℕ) → Bytes bytes → (calls : List Call) (row : ℕ)
    → let t = (table_read bytes).table in t.count ≤ row → row < t.count + t.serving
    → let v = server_at t row in ByServer v.a v.b (own row (jobs_of_trace (trace bytes calls)))
