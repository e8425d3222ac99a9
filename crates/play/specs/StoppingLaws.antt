-- The laws of what stops a play and how it comes to its end: each refusal comes exactly where its rule says. (docs/RULES.md, sections 8.1 to 8.7, 8.12 and 10.)
use Rattle.std.specs.Prelude.{ℕ, ◌+◌, ◌<◌, ◌≡◌, ◌↔◌, List, length}
use Rattle.kinds.specs.Numbering.{refusal_number, refused_with}
use Rattle.kinds.specs.declared.RefusedAt.{RefusedAt}
use Rattle.numbers.specs.SpelledNumbers.{Bytes}
use Rattle.numbers.specs.BadByte.{FirstBadByte}
use Rattle.table.specs.Tables.{table_read}
use Rattle.table.specs.Answers.{table_says}
use Rattle.run.specs.Runs.{cost_limit}
use Rattle.records.specs.Numbers.{numbers_at}
use Rattle.play.specs.Play.{Progress, goes_on, stops, stepped, whole, stopped, played}
use Rattle.play.specs.Refusals.{CanStop, sources_in_use, most_of, RecordRefused, RecordTaken, ComesTo, at_last, left_at_last, StoppedFor}

-- ---- what is proved about records and plays (proofs/Refusing.antt, Stopping.antt and BadBytes.antt)

-- At any place, the record there stops the play exactly where it is refused, and with the same refusal and place. (8.5, 10.1)
abbrev pub RecordStops : Type 0
RecordStops = (s : List ℕ) (at : ℕ) (p : Progress) (r : RefusedAt)
    → (stepped p (numbers_at s at) ≡ stops r) ↔ RecordRefused s at p (refusal_number r.refusal) r.place

-- The play goes on after a record exactly where the record passed its tests and its job was accepted. (8.2, 8.5)
abbrev pub RecordGoesOn : Type 0
RecordGoesOn = (s : List ℕ) (at : ℕ) (p q : Progress) (next : ℕ) → (stepped p (numbers_at s at) ≡ goes_on q next) ↔ RecordTaken s at p q next

-- At every place that a play comes to, the row numbers in use are those below the sum of the row count and the server count, and the most that a job of one may
-- cost is what a release allows. So the tests of a record refuse with 6 and 7 exactly what a release refuses so. (3.14, 3.20, 6.8, 8.5)
abbrev pub TestsAsAtARelease : Type 0
TestsAsAtARelease = (t s : List ℕ) (at : ℕ) (p : Progress) → Bytes t → ComesTo t s at p
    → (sources_in_use p.so_far.run.table ≡ p.so_far.run.table.count + p.so_far.run.table.serving)
    × ((row : ℕ) → row < sources_in_use p.so_far.run.table → most_of p.so_far.run.table row ≡ cost_limit p.so_far.run.table row)

-- A play is stopped with a refusal and a place exactly where a rule gives that refusal there and no test before it refuses. (10.1)
abbrev pub StoppedMeans : Type 0
StoppedMeans = (t s : List ℕ) (r : RefusedAt) → Bytes s → (played t s ≡ stopped r) ↔ StoppedFor t s r

-- A play that is stopped with 1 is stopped at the table's first bad byte. (3.8, 8.1)
abbrev pub StoppedInTheTable : Type 0
StoppedInTheTable = (t s : List ℕ) (r : RefusedAt) → Bytes t → Bytes s → played t s ≡ stopped r → refusal_number r.refusal ≡ 1 → FirstBadByte t r.place

-- A play that is stopped with 14 is stopped at the script's first bad byte. (7.6, 8.5)
abbrev pub StoppedInTheScript : Type 0
StoppedInTheScript = (t s : List ℕ) (r : RefusedAt) → Bytes t → Bytes s → played t s ≡ stopped r → refusal_number r.refusal ≡ 14 → FirstBadByte s r.place

-- A play that is stopped with 16 is stopped by its table, at the place that the table's refusal names. (3.3, 8.1)
abbrev pub StoppedWithSixteen : Type 0
StoppedWithSixteen = (t s : List ℕ) (r : RefusedAt) → Bytes t → Bytes s → played t s ≡ stopped r → refusal_number r.refusal ≡ 16
    → table_says (table_read t).answer ≡ refused_with 16 r.place

-- A play comes to its end exactly where it comes to the script's end and nothing is pending after the final ticks. (8.3, 8.7)
abbrev pub WholeMeans : Type 0
WholeMeans = (t s : List ℕ) (q : Progress) → Bytes s
    → (played t s ≡ whole q) ↔ ((p : Progress) × ComesTo t s (length s) p × (left_at_last p ≡ 0) × (q ≡ at_last p))

-- A play is stopped only by 1 to 10, by 14 and by 16. So 11, 13, 17, 18 and 25 never stop it, and neither does 12, which comes last of all. (8.12, 10.4, 10.6)
abbrev pub StoppedBy : Type 0
StoppedBy = (t s : List ℕ) (r : RefusedAt) → Bytes t → Bytes s → played t s ≡ stopped r → CanStop r.refusal
