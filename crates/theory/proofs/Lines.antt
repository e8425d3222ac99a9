-- The proofs about lines. A term's count q has q · b ≤ a · v, and v is at most L + up. Multiplied by (H/b) · w this is the term's line. For a timer, let q be
-- the quotient and j the rest of L by p. Then it is enough that p · min(s, j) ≤ s · j + s · (p − s). Where j ≤ s this is j · (p − s) ≤ s · (p − s), and
-- otherwise it is s · s ≤ s · j.
use Prim.Native.Nat.{ℕ, ◌+◌, ◌-◌, ◌*◌, ◌/◌, ◌%◌, ◌≤◌, min}
use mathlib.Core.Path.{◌≡◌, ap}
use mathlib.Core.List.{[], ◌∷◌}
use native.Mathlib.Omega.{arith}
use native.Mathlib.Nat.{div-add-mod', div-mul_cancel, div-mul-le_self, le-div_iff_mul-le, mul-le-mul_left, mul-le-mul_right}
use Rattle.theory.specs.Lists.{total}
use Rattle.theory.specs.Terms.{term_demand}
use Rattle.theory.specs.TermCurves.{term_growth}
use Rattle.theory.specs.Lines.{line_at, TermBelowItsLine, RowBelowItsLine, ServerBelowItsLine, TimerBelowItsLine}
use Rattle.theory.specs.Lines.{TermHasALine, RowHasALine, ServerHasALine, TimerHasALine, NothingIsBelowLines, TwoBelowLines, SumsBelowLines}
use Rattle.theory.specs.Lines.{LinesNeverFall, BelowTheRoundedLine}
use Rattle.theory.proofs.Cases.{by_lt}
use Rattle.theory.proofs.Demand.{floor_is_monotone}
use Rattle.theory.proofs.Terms.{row_is_a_term, server_is_a_term}
use Rattle.theory.proofs.TermCurves.{row_term_grows, server_term_grows}

-- ---- one term

pub term_below_its_line : TermBelowItsLine
unfolding term_demand term_growth
term_below_its_line b a w up down H L whole =
    let v = L + up - down in
    let q = a * v / b in
    let n = H / b in
    let high : v ≤ L + up = omega arith in
    let steep : q * b ≤ a * (L + up) = omega (arith, div-mul-le_self (a * v) b, mul-le-mul_left a high) in
    let times : n * w * (q * b) ≤ n * w * (a * (L + up)) = mul-le-mul_left (n * w) steep in
    omega (arith, times, ap (λ (k : ℕ). k * (q * w)) (div-mul_cancel b whole))

pub row_below_its_line : RowBelowItsLine
row_below_its_line x y d c H L py whole =
    rw (row_is_a_term x y d c L py, row_term_grows x y c H) at (term_below_its_line y 1 (x * c) (y - d) (d - y) H L whole)

pub server_below_its_line : ServerBelowItsLine
server_below_its_line a b H L whole =
    let same : L + 0 ≡ L = omega arith in
    rw (server_is_a_term a b L, server_term_grows a b H, same) at (term_below_its_line b a 1 0 0 H L whole)

-- ---- the timer

-- In a part of a period, j ticks long, a timer takes min(s, j) ticks, and p times that is at most s · (j + (p − s)).
within_a_period : (s p j : ℕ) → s ≤ p → p * min s j ≤ s * j + s * (p - s)
within_a_period s p j most =
    let rest = p - s in
    let split : p ≡ s + rest = omega arith in
    by_lt j s
    (λ short.
    let least : min s j ≡ j = omega arith in
    let fewer : j ≤ s = omega arith in
    rw least (omega (arith, ap (λ (n : ℕ). n * j) split, mul-le-mul_right rest fewer)))
    (λ long.
    let least : min s j ≡ s = omega arith in
    rw least (omega (arith, ap (λ (n : ℕ). n * s) split, mul-le-mul_left s long)))

pub timer_below_its_line : TimerBelowItsLine
timer_below_its_line s p H L some most whole =
    let n = H / p in
    let q = L / p in
    let j = L % p in
    let rest = p - s in
    let part : n * (p * min s j) ≤ n * (s * j + s * rest) = mul-le-mul_left n (within_a_period s p j most) in
    let periods : n * p * (q * s + min s j) ≡ H * (q * s + min s j) = ap (λ (k : ℕ). k * (q * s + min s j)) (div-mul_cancel p whole) in
    let length : s * n * (q * p + j) ≡ s * n * L = ap (λ (k : ℕ). s * n * k) (div-add-mod' L p) in
    omega (arith, part, periods, length)

-- ---- slopes and lifts

pub term_has_a_line : TermHasALine
term_has_a_line b a w up down H whole L = omega (arith, term_below_its_line b a w up down H L whole)

pub row_has_a_line : RowHasALine
row_has_a_line x y d c H py whole L = omega (arith, row_below_its_line x y d c H L py whole)

pub server_has_a_line : ServerHasALine
server_has_a_line a b H whole L = omega (arith, server_below_its_line a b H L whole)

pub timer_has_a_line : TimerHasALine
timer_has_a_line s p H some most whole L = omega (arith, timer_below_its_line s p H L some most whole)

-- ---- sums and rounding

pub nothing_is_below_lines : NothingIsBelowLines
nothing_is_below_lines H slope lift L = omega arith

pub two_below_lines : TwoBelowLines
two_below_lines f g H slope lift slope' lift' below below' L = omega (arith, below L, below' L)

pub sums_below_lines : SumsBelowLines
unfolding total
sums_below_lines A f slope lift H [] all = nothing_is_below_lines H 0 0
sums_below_lines A f slope lift H (a ∷ l) all =
    two_below_lines (f a) (λ L. total (λ b. f b L) l) H (slope a) (lift a) (total slope l) (total lift l)
    all.0 (sums_below_lines A f slope lift H l all.1)

pub lines_never_fall : LinesNeverFall
unfolding line_at
lines_never_fall H slope lift some L M h =
    floor_is_monotone (slope * L + lift) (slope * M + lift) H some (omega (arith, mul-le-mul_left slope h))

pub below_the_rounded_line : BelowTheRoundedLine
unfolding line_at
below_the_rounded_line f H slope lift L some below = (le-div_iff_mul-le some).1 (omega (arith, below L))
