-- The laws of the chooser. (docs/RULES.md, section 7.)
use Rattle.script.specs.declared.RefusedIn.{RefusedIn}
use Rattle.std.specs.Prelude.{ℕ, ◌+◌, ◌≤◌, ◌<◌, ◌≡◌, List, [], ◌∷◌, Option, Some, Result, Ok}
use Rattle.kinds.specs.Numbering.{max_time, Said, numbered, values}
use Rattle.numbers.specs.SpelledNumbers.{Bytes}
use Rattle.script.specs.declared.RecordAt.{RecordAt}
use Rattle.script.specs.declared.Next.{Next}
use Rattle.script.specs.Chooser.{chosen, part_of}
use Rattle.script.specs.Answers.{chosen_says, refusal_in}
use Rattle.script.specs.TwoScripts.{FirstOfItsScript, BeginsWith, HasEnded, RefusedFirst, TwoRecords}

-- ---- what is proved about the chooser (proofs/Scripts.antt, proofs/Choices.antt)

-- Where a record comes next, the part is the spelling of one record, the first of its script. (7.8)
abbrev pub PartIsOneRecord : Type 0
PartIsOneRecord = (s₁ s₂ : List ℕ) (time₁ time₂ : ℕ) (n : Next) → Bytes s₁ → Bytes s₂ → chosen s₁ s₂ time₁ time₂ ≡ Ok (Some n)
    → (found : RecordAt) × FirstOfItsScript s₁ s₂ n found

-- Where no record comes next, the part is empty. (7.10, 7.14)
abbrev pub PartIsEmpty : Type 0
PartIsEmpty = (c : Result (Option Next) RefusedIn) (s₁ s₂ : List ℕ) → ((n : Next) → c ≡ Ok (Some n) → ⊥) → part_of c s₁ s₂ ≡ []

-- Of two records the first script's comes next unless its time is later, also where a time is above 2^40. (7.9, 7.13)
abbrev pub FirstUnlessLater : Type 0
FirstUnlessLater = (s₁ s₂ : List ℕ) (time₁ time₂ : ℕ) (a b : RecordAt) → TwoRecords s₁ s₂ time₁ time₂ a b
    → time₁ + a.release.gap ≤ time₂ + b.release.gap → chosen_says (chosen s₁ s₂ time₁ time₂) ≡ values (1 ∷ a.next ∷ [])

-- At equal times the first script's record comes next. (7.9)
abbrev pub FirstAtEqualTimes : Type 0
FirstAtEqualTimes = (s₁ s₂ : List ℕ) (time₁ time₂ : ℕ) (a b : RecordAt) → TwoRecords s₁ s₂ time₁ time₂ a b
    → time₁ + a.release.gap ≡ time₂ + b.release.gap → chosen_says (chosen s₁ s₂ time₁ time₂) ≡ values (1 ∷ a.next ∷ [])

-- Of two records the second script's comes next where its time is earlier, also where a time is above 2^40. (7.9, 7.13)
abbrev pub SecondIfEarlier : Type 0
SecondIfEarlier = (s₁ s₂ : List ℕ) (time₁ time₂ : ℕ) (a b : RecordAt) → TwoRecords s₁ s₂ time₁ time₂ a b
    → time₂ + b.release.gap < time₁ + a.release.gap → chosen_says (chosen s₁ s₂ time₁ time₂) ≡ values (2 ∷ b.next ∷ [])

-- Where the second script has ended, the first script's record comes next. (7.10)
abbrev pub FirstAlone : Type 0
FirstAlone = (s₁ s₂ : List ℕ) (time₁ time₂ : ℕ) (a : RecordAt) → time₁ ≤ max_time → time₂ ≤ max_time
    → BeginsWith s₁ a → HasEnded s₂ → chosen_says (chosen s₁ s₂ time₁ time₂) ≡ values (1 ∷ a.next ∷ [])

-- Where the first script has ended, the second script's record comes next. (7.10)
abbrev pub SecondAlone : Type 0
SecondAlone = (s₁ s₂ : List ℕ) (time₁ time₂ : ℕ) (b : RecordAt) → time₁ ≤ max_time → time₂ ≤ max_time
    → HasEnded s₁ → BeginsWith s₂ b → chosen_says (chosen s₁ s₂ time₁ time₂) ≡ values (2 ∷ b.next ∷ [])

-- Where both scripts have ended, no record comes next. (7.10)
abbrev pub BothEnded : Type 0
BothEnded = (s₁ s₂ : List ℕ) (time₁ time₂ : ℕ) → time₁ ≤ max_time → time₂ ≤ max_time
    → HasEnded s₁ → HasEnded s₂ → chosen_says (chosen s₁ s₂ time₁ time₂) ≡ values []

-- A time above 2^40 that the first script has reached is refusal 10, with 1 for the first script and place 0, whatever the scripts hold. (7.11)
abbrev pub TooLateInFirst : Type 0
TooLateInFirst = (s₁ s₂ : List ℕ) (time₁ time₂ : ℕ) → max_time < time₁ → chosen_says (chosen s₁ s₂ time₁ time₂) ≡ numbered (refusal_in 1 10 0)

-- Where the first script's time is at most 2^40, a time above 2^40 reached by the second is refusal 10, with 2 for the second script and place 0. (7.11)
abbrev pub TooLateInSecond : Type 0
TooLateInSecond = (s₁ s₂ : List ℕ) (time₁ time₂ : ℕ) → time₁ ≤ max_time → max_time < time₂
    → chosen_says (chosen s₁ s₂ time₁ time₂) ≡ numbered (refusal_in 2 10 0)

-- Where both times are at most 2^40, a first script whose next record can't be read is refused as that record is, with 1 for the first script. (7.12)
abbrev pub RefusedInFirst : Type 0
RefusedInFirst = (s₁ s₂ : List ℕ) (time₁ time₂ : ℕ) (said : Said) → time₁ ≤ max_time → time₂ ≤ max_time → RefusedFirst s₁ said
    → chosen_says (chosen s₁ s₂ time₁ time₂) ≡ numbered (refusal_in 1 said.number said.first)

-- Where both times are at most 2^40 and the first script's next record is not refused, a second script whose next record can't be read is refused as that
-- record is, with 2 for the second script. (7.12)
abbrev pub RefusedInSecond : Type 0
RefusedInSecond = (s₁ s₂ : List ℕ) (time₁ time₂ : ℕ) (said : Said) → time₁ ≤ max_time → time₂ ≤ max_time
    → ((other : Said) → RefusedFirst s₁ other → ⊥) → RefusedFirst s₂ said
    → chosen_says (chosen s₁ s₂ time₁ time₂) ≡ numbered (refusal_in 2 said.number said.first)
