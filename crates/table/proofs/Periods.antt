-- The period of a table without servers is that of its timer and its rows. If the timer has p = 1, it is that of the rows alone: every number is a multiple of
-- 1. (docs/RULES.md, 3.4 and 5.18.)
use Prim.Native.Nat.{ℕ, zero, suc, ◌+◌, ◌*◌}
use native.Mathlib.Omega.{arith}
use native.Mathlib.Nat.{mod-one}
use mathlib.Core.Path.{◌≡◌, refl, ap, ◌∙◌}
use mathlib.Core.List.{List, [], ◌∷◌, append-nil}
use Rattle.periods.specs.Multiples.{product}
use Rattle.periods.proofs.Multiples.{period_is_least, alone}
use Rattle.table.specs.Period.{first_multiple, least_common_multiple, ys_of, PeriodOfOneServer, PeriodWithoutServers, PeriodOfRowsAlone}
use Rattle.table.proofs.Each.{each_none, Each-cons}

pub period_without_servers : PeriodWithoutServers
period_without_servers s p rows = ap (λ ys. least_common_multiple (p ∷ ys)) (append-nil (ys_of rows))

-- A 1 among the numbers does not change which number is the first that is a multiple of each.
without_one : (tries : ℕ) (ys : List ℕ) (n : ℕ) → first_multiple tries (1 ∷ ys) n ≡ first_multiple tries ys n
unfolding first_multiple
without_one zero ys n = refl
without_one (suc tries) ys n = rw (mod-one n, without_one tries ys (n + 1))

-- A 1 in front of the numbers does not change their least common multiple.
one_in_front : (ys : List ℕ) → least_common_multiple (1 ∷ ys) ≡ least_common_multiple ys
unfolding least_common_multiple
one_in_front ys =
    let same : 1 * product ys ≡ product ys = omega arith in
    ap (λ tries. first_multiple tries (1 ∷ ys) 1) same ∙ without_one (product ys) ys 1

pub period_of_rows_alone : PeriodOfRowsAlone
period_of_rows_alone rows = period_without_servers 0 1 rows ∙ one_in_front (ys_of rows)

-- One server's b is the only number that counts beside the 1 of the timer.
pub period_of_one_server : PeriodOfOneServer
period_of_one_server v some = one_in_front (v.b ∷ []) ∙ alone (period_is_least (v.b ∷ []) (Each-cons some (each_none _)))
