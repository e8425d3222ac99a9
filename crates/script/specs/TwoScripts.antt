-- What the chooser can find in its two scripts. (docs/RULES.md, section 7.)
use Rattle.std.specs.Prelude.{ℕ, ◌≤◌, ◌≡◌, List, [], ◌∷◌, length, Some, Ok}
use Rattle.kinds.specs.Numbering.{max_time, Said, numbered, values}
use Rattle.script.specs.declared.RecordAt.{RecordAt}
use Rattle.script.specs.declared.Which.{Which}
use Rattle.script.specs.declared.Which.TheVariants as which
use Rattle.script.specs.declared.Next.{Next}
use Rattle.script.specs.Records.{record_at}
use Rattle.script.specs.Chooser.{part_of}
use Rattle.script.specs.Answers.{record_says}
use Rattle.script.specs.SpelledScripts.{spelled_record}

-- The script that `Which` names, of two.
abbrev pub script_named : Which → (s₁ s₂ : List ℕ) → List ℕ
script_named which.First s₁ s₂ = s₁
script_named which.Second s₁ s₂ = s₂

-- What is known about a record that comes next. It is the first record of the script that the chooser names, and the part is its spelling. (7.8)
pub record FirstOfItsScript (s₁ s₂ : List ℕ) (n : Next) (found : RecordAt) : Type 0 where
  pub read_there : record_at (script_named n.script s₁ s₂) 0 ≡ Ok (Some found)
  pub its_length : n.length ≡ found.next
  pub within : n.length ≤ length (script_named n.script s₁ s₂)
  pub spelled : part_of (Ok (Some n)) s₁ s₂ ≡ spelled_record found.release

-- A script begins with this record, and the record reader says so.
abbrev pub BeginsWith : List ℕ → RecordAt → Type 0
BeginsWith s a = record_says (record_at s 0) ≡ values (a.release.gap ∷ a.release.row.0 ∷ a.release.cost ∷ a.next ∷ [])

-- A script has ended at its start: it has no record. (7.5)
abbrev pub HasEnded : List ℕ → Type 0
HasEnded s = record_says (record_at s 0) ≡ values []

-- The first record of a script is refused, and the record reader says this. (7.6)
abbrev pub RefusedFirst : List ℕ → Said → Type 0
RefusedFirst s said = record_says (record_at s 0) ≡ numbered said

-- Each of two scripts has a first record, and neither has reached a time above 2^40. (7.9)
pub record TwoRecords (s₁ s₂ : List ℕ) (time₁ time₂ : ℕ) (a b : RecordAt) : Type 0 where
  pub first_time : time₁ ≤ max_time
  pub second_time : time₂ ≤ max_time
  pub first : BeginsWith s₁ a
  pub second : BeginsWith s₂ b
