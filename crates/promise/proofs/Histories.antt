-- Histories. This page says what one more accepted job does to the jobs of each row and of each server, and to their due times. (4.6, 4.9)
use Prim.Native.Nat.{ℕ, ◌≤◌}
use mathlib.Core.Path.{◌≡◌}
use mathlib.Core.List.{List, [], ◌∷◌}
use native.Mathlib.Omega.{arith}
use borrow.Author.Tests.{eq-eqb, ne_eqb}
use Rattle.theory.specs.Lists.{All}
use Rattle.theory.specs.Jobs.{Job}
use Rattle.theory.specs.DueTimes.{dues, latest, Next, ByRule}
use Rattle.theory.specs.Servers.{server_due, last_due, ByServer}
use Rattle.theory.specs.Sources.{own}
use Rattle.theory.proofs.Cases.{by_eq}
use Rattle.theory.proofs.Sources.{own_of_it, own_of_another}
use Rattle.run.specs.History.{with_due}

-- `dues_of` lists the due times of the jobs of each row number, newest first.
abbrev pub dues_of : List Job → ℕ → List ℕ
dues_of js i = dues (own i js)

-- With one more job, its row number has its due time in front, and the due times of the other row numbers are as they were.
pub dues_with : (j : Job) (js : List Job) (i : ℕ) → with_due (dues_of js) j.source j.due i ≡ dues_of (j ∷ js) i
dues_with j js i = by_eq i j.source
    (λ e. rw (eq-eqb i j.source e, own_of_it i j js (omega arith)))
    (λ n. rw (ne_eqb i j.source n, own_of_another i j js (λ e. n (omega arith))))

-- Where all jobs were released by a time, the newest job of each row was released by that time.
pub latest_by : (t i : ℕ) (js : List Job) → All (λ j. j.release ≤ t) js → latest (own i js) ≤ t
unfolding own
latest_by t i [] h = omega arith
latest_by t i (j ∷ js) h = by_eq j.source i
    (λ e. rw (own_of_it i j js e) h.0)
    (λ n. rw (own_of_another i j js n) (latest_by t i js h.1))

-- The jobs of each row follow the rule of due times with one more job, where that job comes next in its row.
pub by_rule_with : (x y d c i : ℕ) (j : Job) (js : List Job) → (j.source ≡ i → Next x y d c (own i js) j)
    → ByRule x y d c (own i js) → ByRule x y d c (own i (j ∷ js))
unfolding ByRule
by_rule_with x y d c i j js next h = by_eq j.source i
    (λ e. rw (own_of_it i j js e) (next e, h))
    (λ n. rw (own_of_another i j js n) h)

-- The jobs of each server follow the server's rule with one more job, where that job comes next in its server.
pub by_server_with : (a b i : ℕ) (j : Job) (js : List Job)
    → (j.source ≡ i → j.due ≡ server_due a b (last_due (dues (own i js))) j.release j.cost)
    → ByServer a b (own i js) → ByServer a b (own i (j ∷ js))
unfolding ByServer
by_server_with a b i j js next h = by_eq j.source i
    (λ e. rw (own_of_it i j js e) (next e, h))
    (λ n. rw (own_of_another i j js n) h)
