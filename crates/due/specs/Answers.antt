-- What the answers say when a due time is asked for, and when one is to be kept. (docs/RULES.md, sections 4 and 10.)
use Rattle.std.specs.Prelude.{◌≡◌, [], ◌∷◌, Result, Ok, Err}
use Rattle.kinds.specs.Numbering.{Says, numbered, values, refused_says, without_place, refusal_number, NeverNumberedZero, SaysApart, refused_with}
use Rattle.kinds.specs.declared.Tick.{Tick}
use Rattle.kinds.specs.declared.Refusal.{Refusal}

-- Asking for a due time says the time. If it is refused, it says the refusal, at place 0, since no place is named. (1.17, 10.2)
abbrev pub due_says : Result Tick Refusal → Says
due_says (Ok t) = values (t.0 ∷ [])
due_says (Err r) = numbered (refused_says (without_place r))

-- Keeping a due time says no value. If it is refused, it says the refusal, at place 0, since no place is named. (1.17, 10.2)
abbrev pub keep_says : Result (Unit {0}) Refusal → Says
keep_says (Ok _) = values []
keep_says (Err r) = numbered (refused_says (without_place r))

-- ---- what is proved (proofs/Answers.antt)

-- If a due time is given, the answer says its time. (1.17)
abbrev pub DueGivenSays : Type 0
DueGivenSays = (t : Tick) → due_says (Ok t) ≡ values (t.0 ∷ [])

-- If a due time is refused, the answer says the refusal's number, and 0 and 0 beside it. (10.2)
abbrev pub DueRefusedSays : Type 0
DueRefusedSays = (r : Refusal) → due_says (Err r) ≡ refused_with (refusal_number r) 0

-- If a due time was kept, the answer says no value and no number. (1.17)
abbrev pub KeepDoneSays : Type 0
KeepDoneSays = keep_says (Ok tt) ≡ values []

-- If a due time was not kept, the answer says the refusal's number, and 0 and 0 beside it. (10.2)
abbrev pub KeepRefusedSays : Type 0
KeepRefusedSays = (r : Refusal) → keep_says (Err r) ≡ refused_with (refusal_number r) 0

-- No answer about due times has the number 0. (1.16)
abbrev pub DuesNeverZero : Type 0
DuesNeverZero = NeverNumberedZero due_says × NeverNumberedZero keep_says

-- Different answers about due times say different things.
abbrev pub DuesSaidApart : Type 0
DuesSaidApart = SaysApart due_says × SaysApart keep_says
