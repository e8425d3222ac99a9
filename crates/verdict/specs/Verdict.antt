-- Which verdict is right for a table. This is a relation and not a computation. Feasible is right if the demand in every length is at most the length.
-- Overloaded is right with the smallest length whose demand is above it, and that demand. A table that is refused has its refusal for a verdict. It is proved
-- that for any bytes exactly one verdict is right. (docs/RULES.md, section 5.)
use Rattle.kinds.specs.declared.RefusedAt.{RefusedAt}
use Rattle.std.specs.Prelude.{ℕ, ◌≤◌, ◌<◌, ◌≡◌, List, Option, Some, None, Result, Ok, Err}
use Rattle.kinds.specs.Numbering.{Said, refused_says, refusal_number, refusal_at}
use Rattle.kinds.specs.declared.Refusal.{Refusal}
use Rattle.numbers.specs.SpelledNumbers.{Bytes}
use Rattle.theory.specs.Curves.{EveryLengthFits, SmallestFailing}
use Rattle.table.specs.declared.Table.{Table}
use Rattle.table.specs.Tables.{table_read}
use Rattle.verdict.specs.declared.Verdict.{Verdict}
use Rattle.verdict.specs.declared.Verdict.TheVariants as verdict
use Rattle.verdict.specs.declared.Witness.{Witness}
use Rattle.verdict.specs.Demand.{table_demand}

-- Where f L is the demand in L, feasible is right if f L is at most L, for every L ≥ 1. Overloaded is right with the smallest L whose demand is above L, and
-- that demand. No other verdict is right. (5.4, 5.5, 5.6)
abbrev pub RightFor : (f : ℕ → ℕ) → Verdict → Type 0
RightFor f verdict.Feasible = EveryLengthFits f
RightFor f (verdict.Overloaded w) = SmallestFailing f w.length × (w.demand ≡ f w.length)
RightFor f (verdict.Refused r) = ⊥

-- A verdict is right for an accepted table if it is right for the table's demand, in which servers and the ticks that the timer takes are counted. (5.3 to 5.5)
abbrev pub RightOf : Table → Verdict → Type 0
RightOf t v = RightFor (table_demand t) v

-- A verdict is right for what was read if it is right for the table. If the table was refused, only that refusal is right. (9.2)
abbrev pub RightOfRead : Table → Result ℕ RefusedAt → Verdict → Type 0
RightOfRead t (Ok period) v = RightOf t v
RightOfRead t (Err r) v = v ≡ verdict.Refused r

-- A verdict is right for bytes if it is right for what they are read as.
abbrev pub Judged : List ℕ → Verdict → Type 0
Judged s v = RightOfRead (table_read s).table (table_read s).answer v

-- Each verdict has a number and two values, which the host answers. (1.15, 1.17, 9.5)
abbrev pub verdict_says : Verdict → Said
verdict_says verdict.Feasible = record { number = 20; first = 0; second = 0 }
verdict_says (verdict.Overloaded w) = record { number = 21; first = w.length; second = w.demand }
verdict_says (verdict.Refused r) = refused_says r

-- A scan of the lengths from `first` to `last` found that f L is at most L for each of them, or it found the smallest for which it is not, with its f L.
abbrev pub Scanned : (f : ℕ → ℕ) (first last : ℕ) → Option Witness → Type 0
Scanned f first last None = (L : ℕ) → first ≤ L → L ≤ last → f L ≤ L
Scanned f first last (Some w) =
    (first ≤ w.length) × (w.length ≤ last) × (w.length < f w.length) × (w.demand ≡ f w.length)
    × ((M : ℕ) → first ≤ M → M < w.length → f M ≤ M)

-- ---- what is proved (proofs/Verdicts.antt)

-- At most one verdict is right for any bytes. So no table is both feasible and overloaded. (5.6)
abbrev pub OneVerdict : Type 0
OneVerdict = (s : List ℕ) (v w : Verdict) → Judged s v → Judged s w → v ≡ w

-- Some verdict is right for any bytes. So every accepted table is feasible or overloaded. (3.13, 5.6)
abbrev pub SomeVerdict : Type 0
SomeVerdict = (s : List ℕ) → Bytes s → (v : Verdict) × Judged s v

-- No verdict has the number 0. (1.16)
abbrev pub VerdictNeverSaysZero : Type 0
VerdictNeverSaysZero = (v : Verdict) → 1 ≤ (verdict_says v).number

-- Different verdicts differ in their number or in their values.
abbrev pub VerdictsSaidApart : Type 0
VerdictsSaidApart = (v w : Verdict) → verdict_says v ≡ verdict_says w → v ≡ w

-- Feasible says 20, 0 and 0. (9.5)
abbrev pub FeasibleSays : Type 0
FeasibleSays = verdict_says verdict.Feasible ≡ record { number = 20; first = 0; second = 0 }

-- Overloaded says 21, the witness's length and its demand. (9.5)
abbrev pub OverloadedSays : Type 0
OverloadedSays = (L demand : ℕ)
    → verdict_says (verdict.Overloaded (record { length = L; demand = demand })) ≡ record { number = 21; first = L; second = demand }

-- A refused verdict says the refusal's number, its place and 0. (9.5)
abbrev pub RefusedVerdictSays : Type 0
RefusedVerdictSays = (r : Refusal) (place : ℕ)
    → verdict_says (verdict.Refused (record { refusal = r; place = place })) ≡ refusal_at (refusal_number r) place
