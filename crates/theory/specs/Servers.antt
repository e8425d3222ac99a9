-- Servers. A server of size a/b gives odd jobs, which have no rate, a share of the processor: a units in b ticks. A job's due time is set on its arrival, as
-- far after the later of its release and the server's last due time as its cost takes at the server's size. From this alone it follows that in any window of
-- L ticks the jobs of a server cost at most floor(a · L / b), whatever their costs and releases are, and one job reaches that bound. (docs/RULES.md, 4.9,
-- 4.10 and 5.16; the total bandwidth server.)
use Rattle.std.specs.Prelude.{ℕ, ◌+◌, ◌-◌, ◌*◌, ◌/◌, ◌≤◌, ◌<◌, max, ◌≡◌, List, [], ◌∷◌}
use Rattle.std.specs.Int.{◌∣◌}
use Rattle.theory.specs.Curves.{Curve}
use Rattle.theory.specs.Jobs.{Job, BoundedBy}
use Rattle.theory.specs.DueTimes.{dues}

-- How many ticks a cost of e units takes at the size a/b: e · b / a, rounded up. (4.9)
unfoldable pub ticks_for : (a b e : ℕ) → ℕ
ticks_for a b e = (e * b + (a - 1)) / a

-- The due time of a server's job that is released at t with the cost e, where `last` is the server's last due time: the later of t and the last due time, plus
-- e · b / a rounded up. (4.9)
unfoldable pub server_due : (a b last t e : ℕ) → ℕ
server_due a b last t e = max t last + ticks_for a b e

-- A server's last due time, where `earlier` has the due times of its earlier jobs, newest first. It is 0 at first. (4.9)
abbrev pub last_due : (earlier : List ℕ) → ℕ
last_due [] = 0
last_due (due ∷ earlier) = due

-- A server's demand in a length L is floor(a · L / b). (5.16)
unfoldable pub server_demand : (a b L : ℕ) → ℕ
server_demand a b L = a * L / b

-- In a period that b divides, a server's demand grows by a · (period/b). (5.7)
abbrev pub server_growth : (a b period : ℕ) → ℕ
server_growth a b period = a * (period / b)

-- The jobs are those of one server, newest first, and each has the due time that the rule gives it after the jobs before it. Nothing else is asked of them:
-- their costs and releases may be any. (4.9)
unfoldable pub ByServer : (a b : ℕ) → List Job → Type 0
ByServer a b [] = Unit {0}
ByServer a b (j ∷ earlier) = (j.due ≡ server_due a b (last_due (dues earlier)) j.release j.cost) × ByServer a b earlier

-- The one odd job that a length L names: released at zero, as the server's first, with a cost of floor(a · L / b), as large as the length allows. (5.17)
abbrev pub longest_odd : (a b source name L : ℕ) → Job
longest_odd a b source name L = record {
  name = name;
  source = source;
  release = 0;
  due = server_due a b 0 0 (server_demand a b L);
  cost = server_demand a b L;
}

-- ---- what is proved about servers (proofs/Servers.antt)

-- A cost takes at least e · b / a ticks, and less than one tick more. So it is rounded up, and no further. (4.9)
abbrev pub RoundedUp : Type 0
RoundedUp = (a b e : ℕ) → 1 ≤ a → (e * b ≤ a * ticks_for a b e) × (a * ticks_for a b e < e * b + a)

-- A job of a server is due after its release, where it costs something. (4.9)
abbrev pub OddDueAfterRelease : Type 0
OddDueAfterRelease = (a b last t e : ℕ) → 1 ≤ a → 1 ≤ b → 1 ≤ e → t < server_due a b last t e

-- In any window of time, what a server's jobs released and due inside it cost is at most floor(a · L / b), where L is the window's length. (5.12, 5.16)
abbrev pub ServerIsBounded : Type 0
ServerIsBounded = (a b : ℕ) (js : List Job) → 1 ≤ a → 1 ≤ b → ByServer a b js → BoundedBy (server_demand a b) js

-- A server's demand is a curve that starts at 0. Any multiple of b may be its period, in which it grows by a for each b. (5.7, 5.16)
abbrev pub ServerIsACurve : Type 0
ServerIsACurve = (a b period : ℕ) → 1 ≤ b → b ∣ period → Curve (server_demand a b) 0 period (server_growth a b period)

-- The bound is reached: one job of cost floor(a · L / b), released at zero as the server's first, is due within L. So no smaller bound on what a server's jobs
-- cost in a window holds. (5.16, 5.17)
abbrev pub ServerReachesItsDemand : Type 0
ServerReachesItsDemand = (a b source name L : ℕ) → 1 ≤ a → 1 ≤ b
    → ByServer a b (longest_odd a b source name L ∷ []) × ((longest_odd a b source name L).due ≤ L)

-- No longer job would do: a job released at zero as the server's first that is due within L costs at most floor(a · L / b). (5.16, 5.17)
abbrev pub NoLongerOddJob : Type 0
NoLongerOddJob = (a b e L : ℕ) → 1 ≤ a → 1 ≤ b → server_due a b 0 0 e ≤ L → e ≤ server_demand a b L

-- The example of the slides, in tenths of their units: a server of size 1/4, and jobs that arrive at 30, 69 and 140 with costs of 10, 20 and 20, are due at 70,
-- 150 and 230. (4.10)
abbrev pub SlidesExample : Type 0
SlidesExample =
    (server_due 1 4 0 30 10 ≡ 70)
    × (server_due 1 4 (server_due 1 4 0 30 10) 69 20 ≡ 150)
    × (server_due 1 4 (server_due 1 4 (server_due 1 4 0 30 10) 69 20) 140 20 ≡ 230)
