-- What the probe's chooser call returns, and what it leaves in the two buffers that are lent to it. (docs/RULES.md, section 7.)
use Rattle.script.specs.declared.RefusedIn.{RefusedIn}
use Rattle.script.specs.declared.Next.{Next}
use Rattle.std.specs.Prelude.{ℕ, ◌*◌, min, cond, List, [], ◌∷◌, ◌++◌, eqb, length, take, drop, Option, Result}
use Rattle.kinds.specs.Numbering.{Said, Says, numbered, values, refusal_number}
use Rattle.kinds.specs.declared.Refusal.TheVariants.{AnswerNot16Bytes}
use Rattle.script.specs.Answers.{chosen_says}
use Rattle.script.specs.Chooser.{chosen, part_of}
use Rattle.words.specs.Words.{word_length}
use Rattle.probe.specs.Words.{words_bytes}

-- The length of the call's answer buffer in bytes: 16, which is two words of eight bytes.
abbrev pub choice_length : ℕ
choice_length = 2 * word_length

-- A buffer after bytes were copied to its start, as many as fit. The rest of the buffer stays as it was.
abbrev pub copied : (bytes buffer : List ℕ) → List ℕ
copied bytes buffer = let fit = min (length bytes) (length buffer) in take fit bytes ++ drop fit buffer

-- Which script the next record belongs to, 1 or 2. It is the first of the values that the chooser says. It is 0 where both scripts have ended.
abbrev pub script_in : List ℕ → ℕ
script_in [] = 0
script_in (script ∷ more) = script

-- The length of the next record in bytes. It is the second of the values that the chooser says. It is 0 where both scripts have ended.
abbrev pub length_in : List ℕ → ℕ
length_in [] = 0
length_in (script ∷ []) = 0
length_in (script ∷ long ∷ more) = long

-- What the chooser says, as a status and two numbers. Where nothing is refused, they are 1, the next record's length and its script. A refusal has its own
-- number, its place and which script it is.
abbrev pub in_three_numbers : Says → Said
in_three_numbers (values vs) = record { number = 1; first = length_in vs; second = script_in vs }
in_three_numbers (numbered s) = s

-- The status and the two numbers of a choice. (7.8 to 7.12)
abbrev pub chosen_said : Result (Option Next) RefusedIn → Said
chosen_said c = in_three_numbers (chosen_says c)

-- What the chooser call returns, and its two buffers afterwards.
pub record Answered : Type 0 where
  pub status : ℕ
  pub part : List ℕ
  pub answer : List ℕ

-- The chooser call after a choice. It returns the status, the answer buffer holds the two numbers, and the next record's bytes are copied to the start of
-- `part`. (7.8)
abbrev pub answered_by : Result (Option Next) RefusedIn → (s₁ s₂ part : List ℕ) → Answered
answered_by c s₁ s₂ part = record {
  status = (chosen_said c).number;
  part = copied (part_of c s₁ s₂) part;
  answer = words_bytes ((chosen_said c).first ∷ (chosen_said c).second ∷ []);
}

-- The chooser call on two scripts and their times. An answer buffer that is not 16 bytes long is refused with 13 before everything else, and nothing is
-- written.
abbrev pub chosen_answered : (s₁ s₂ : List ℕ) (time₁ time₂ : ℕ) (part answer : List ℕ) → Answered
chosen_answered s₁ s₂ time₁ time₂ part answer =
    cond (eqb (length answer) choice_length)
    (answered_by (chosen s₁ s₂ time₁ time₂) s₁ s₂ part)
    (record { status = refusal_number AnswerNot16Bytes; part = part; answer = answer })
