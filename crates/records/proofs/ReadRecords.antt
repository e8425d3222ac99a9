-- A record whose numbers pass their tests is the record that the record reader answers there. (docs/RULES.md, section 8.5.)
use Rattle.std.specs.Prelude.{Some, Ok}
use Prim.Native.Nat.{ℕ, ◌<◌}
use mathlib.Core.Path.{◌≡◌, subst}
use mathlib.Core.List.{List}
use native.Mathlib.Omega.{arith}
use lib.ListN.{length}
use Rattle.script.specs.Records.{script_number, record_at}
use Rattle.script.proofs.Records.{record_read}
use Rattle.records.specs.declared.Numbers.{Numbers}
use Rattle.records.specs.declared.Ready.{Ready}
use Rattle.records.specs.Numbers.{numbers_at, tested_by}
use Rattle.records.specs.PassedTests.{Passed}
use Rattle.records.proofs.Tests.{TestedSo, tests_mean}

-- A record that is ready passed all its tests.
pub ready_passed : (limits : List ℕ) (time : ℕ) (n : Numbers) (r : Ready) → tested_by limits time n ≡ Ok r → Passed limits time n r
ready_passed limits time n r e = subst (TestedSo limits time n) e (tests_mean limits time n)

-- Where the three numbers at a place passed their tests, the record reader answers the record of these numbers.
pub passed_is_read : (s : List ℕ) (at : ℕ) → at < length s → {limits : List ℕ} {time : ℕ} {r : Ready} → (p : Passed limits time (numbers_at s at) r)
    → record_at s at ≡ Ok (Some (record { release = record { gap = p.gap.value; row = r.row; cost = r.cost }; next = r.next }))
passed_is_read s at inside p =
    let gap : script_number s at ≡ Ok p.gap = p.row_fits.gap_fits.gap_read in
    let row : script_number s p.gap.next ≡ Ok p.row = rw gap at p.row_fits.row_read in
    let cost : script_number s p.row.next ≡ Ok p.cost = rw (gap, row) at p.cost_read in
    rw p.asks_for (record_read s at (λ z. omega arith) p.gap gap p.row row p.cost cost)
