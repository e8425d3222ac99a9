-- What the answers of the number reader and the number writer say. (docs/RULES.md, sections 2 and 10.)
use Rattle.std.specs.Prelude.{ℕ, ◌≡◌, [], ◌∷◌, Result, Ok, Err}
use Rattle.kinds.specs.declared.RefusedAt.{RefusedAt}
use Rattle.kinds.specs.Numbering.{Says, numbered, values, refusal_number, refused_says, without_place, NeverNumberedZero, SaysApart, refused_with}
use Rattle.kinds.specs.declared.Refusal.{Refusal}
use Rattle.numbers.specs.declared.Number.{Number}

-- The reader's answer says the number's value and the place right after it, or the refusal with its place. (1.17, 2.6, 2.7)
abbrev pub number_says : Result Number RefusedAt → Says
number_says (Ok n) = values (n.value ∷ n.next ∷ [])
number_says (Err r) = numbered (refused_says r)

-- The writer's answer says the length of the spelling in bytes, or the refusal, which names no place. (1.17, 2.12, 2.13)
abbrev pub written_says : Result ℕ Refusal → Says
written_says (Ok k) = values (k ∷ [])
written_says (Err r) = numbered (refused_says (without_place r))

-- ---- what is proved (proofs/Answers.antt)

-- Where a number is read, the answer says its value and the place right after it, in this order. (2.6)
abbrev pub NumberReadSays : Type 0
NumberReadSays = (n next : ℕ) → number_says (Ok (record { value = n; next = next })) ≡ values (n ∷ next ∷ [])

-- Where the reader refuses, the answer says the refusal's number, its place and 0. (9.5)
abbrev pub RefusedReadSays : Type 0
RefusedReadSays = (r : Refusal) (place : ℕ) → number_says (Err (record { refusal = r; place = place })) ≡ refused_with (refusal_number r) place

-- Where a number is written, the answer says the length of its spelling. (2.12)
abbrev pub NumberWrittenSays : Type 0
NumberWrittenSays = (took : ℕ) → written_says (Ok took) ≡ values (took ∷ [])

-- Where the writer refuses, the answer says the refusal's number, place 0 and 0. (10.2)
abbrev pub RefusedWriteSays : Type 0
RefusedWriteSays = (r : Refusal) → written_says (Err r) ≡ refused_with (refusal_number r) 0

-- No answer of the reader or the writer has the number 0. (1.16)
abbrev pub NumbersNeverZero : Type 0
NumbersNeverZero = NeverNumberedZero number_says × NeverNumberedZero written_says

-- Two different answers of the reader never say the same, nor do two different answers of the writer.
abbrev pub NumbersSaidApart : Type 0
NumbersSaidApart = SaysApart number_says × SaysApart written_says
