-- Where its table has no servers, a run is sound by its rows, and a release is that by the rows alone. (docs/RULES.md, 5.18.)
use Rattle.std.specs.Prelude.{Result, Ok, Err}
use Rattle.kinds.specs.declared.Refusal.{Refusal}
use Rattle.kinds.specs.declared.Tick.{Tick}
use Prim.Native.Nat.{ℕ, ◌+◌, ◌<◌}
use mathlib.Core.Path.{◌≡◌, refl, sym, ap, ◌∙◌}
use mathlib.Core.Bool.{true, false, and-true}
use mathlib.Core.List.{append-nil}
use native.Mathlib.Omega.{arith}
use borrow.Author.Tests.{lt-ltb, le-ltb}
use Rattle.theory.proofs.Cases.{by_lt, by_test}
use Rattle.table.specs.declared.Table.{Table}
use Rattle.table.specs.Costs.{cs_of, cost_limits}
use Rattle.table.specs.Rows.{from_one_to}
use Rattle.table.specs.Tables.{rows_of}
use Rattle.due.specs.Kept.{due_of}
use Rattle.run.specs.declared.Run.{Run}
use Rattle.run.specs.Runs.{row_at, kept_of}
use Rattle.run.specs.Sound.{sound_of}
use Rattle.run.specs.Release.{at_due, due_next, released}
use Rattle.run.specs.WithoutServers.{sound_by_rows, at_due_of_row, released_by_rows, SoundWithoutServers, ReleaseWithoutServers}
use Rattle.run.proofs.Release.{bounded, due_of_row, one_test_means}

-- Without servers, a table's cost limits are the c of each row in use.
limits_of_rows : (t : Table) → t.serving ≡ 0 → cost_limits t ≡ cs_of (rows_of t)
limits_of_rows t none = rw none (append-nil (cs_of (rows_of t)))

pub sound_without_servers : SoundWithoutServers
unfolding sound_of sound_by_rows
sound_without_servers run none = rw (limits_of_rows run.table none, none) (simp and-true)

-- What the last test of a row's release answers does not look at servers.
same_at_due : (run : Run) (row cost : ℕ) → row < run.table.count → (d : Result Tick Refusal) → at_due run row cost d ≡ at_due_of_row run row cost d
same_at_due run row cost h (Ok t) = rw (lt-ltb row run.table.count h)
same_at_due run row cost h (Err r) = refl

-- The last test of a row's release is that by the kept due times of its row.
last_test : (run : Run) (row cost : ℕ) → row < run.table.count
    → at_due run row cost (due_next run row cost) ≡ at_due_of_row run row cost (due_of (kept_of run row) (row_at run.table row) run.clock.0 cost)
last_test run row cost h =
    let d = due_of (kept_of run row) (row_at run.table row) run.clock.0 cost in
    ap (at_due run row cost) (due_of_row run row cost h) ∙ same_at_due run row cost h d

pub release_without_servers : ReleaseWithoutServers
unfolding released released_by_rows
release_without_servers run row cost whole none =
    let same = sound_without_servers run none in
    by_test (sound_of run)
    (λ sound.
    let by_rows : sound_by_rows run ≡ true = sym same ∙ sound in
    let test = one_test_means run.table (bounded run sound).few_rows whole.all_rows row cost in
    rw (sound, by_rows, test)
    (by_lt row run.table.count
    (λ h.
    let in_use = lt-ltb row (run.table.count + run.table.serving) (omega arith) in
    rw (in_use, lt-ltb row run.table.count h)
    (by_test (from_one_to (row_at run.table row).c cost) (λ allowed. rw (allowed, last_test run row cost h)) (λ refused. rw refused)))
    (λ h. rw (le-ltb row (run.table.count + run.table.serving) (omega arith), le-ltb row run.table.count h))))
    (λ unsound. let by_rows : sound_by_rows run ≡ false = sym same ∙ unsound in rw (unsound, by_rows))
