-- What the answers of the record reader and of the chooser say, in numbers. (docs/RULES.md, sections 7 and 10.)
use Rattle.script.specs.declared.RefusedIn.{RefusedIn}
use Rattle.script.specs.declared.Next.{Next}
use Rattle.kinds.specs.declared.RefusedAt.{RefusedAt}
use Rattle.script.specs.declared.RecordAt.{RecordAt}
use Rattle.std.specs.Prelude.{ℕ, ◌≡◌, [], ◌∷◌, Option, Some, None, Result, Ok, Err}
use Rattle.kinds.specs.Numbering.{Said, Says, numbered, values, refusal_number, refused_says, NeverNumberedZero, SaysApart, refused_with}
use Rattle.kinds.specs.declared.Refusal.{Refusal}
use Rattle.script.specs.declared.Which.{Which}
use Rattle.script.specs.declared.Which.TheVariants as which

-- What an answer of the record reader says: the record's gap, row number and cost and the place after it; no value at the end of the script; or the refusal
-- with its place. (1.17, 7.4 to 7.6)
abbrev pub record_says : Result (Option RecordAt) RefusedAt → Says
record_says (Ok (Some r)) = values (r.release.gap ∷ r.release.row.0 ∷ r.release.cost ∷ r.next ∷ [])
record_says (Ok None) = values []
record_says (Err r) = numbered (refused_says r)

-- The number that says which of two scripts it is: 1 for the first, and 2 for the second.
abbrev pub which_number : Which → ℕ
which_number which.First = 1
which_number which.Second = 2

-- What an answer of the chooser says: which script's record comes next, and the record's length; no value where both scripts have ended; or the refusal, its
-- place and which script it is. (1.17, 7.8 to 7.12)
abbrev pub chosen_says : Result (Option Next) RefusedIn → Says
chosen_says (Ok (Some n)) = values (which_number n.script ∷ n.length ∷ [])
chosen_says (Ok None) = values []
chosen_says (Err r) =
    numbered (record { number = refusal_number r.at.refusal; first = r.at.place; second = which_number r.script })

-- A refusal in one of two scripts, in numbers: the refusal's number, its place, and which script it is. (7.11, 7.12)
abbrev pub refusal_in : (script number place : ℕ) → Said
refusal_in script number place = record { number = number; first = place; second = script }

-- ---- what is proved (proofs/Answers.antt)

-- A record that was read says its gap, its row number, its cost and the place after it, in this order. (7.4)
abbrev pub RecordReadSays : Type 0
RecordReadSays = (gap row cost next : ℕ)
    → record_says (Ok (Some (record { release = record { gap = gap; row = record { 0 = row }; cost = cost }; next = next })))
    ≡ values (gap ∷ row ∷ cost ∷ next ∷ [])

-- The end of a script is no refusal, and says no value. (7.5)
abbrev pub EndSays : Type 0
EndSays = record_says (Ok None) ≡ values []

-- A refusal of the record reader says its number, its place and 0. (1.17)
abbrev pub RefusedRecordSays : Type 0
RefusedRecordSays = (r : Refusal) (place : ℕ) → record_says (Err (record { refusal = r; place = place })) ≡ refused_with (refusal_number r) place

-- Where the first script's record comes next, the chooser says 1 and the record's length. (7.8)
abbrev pub FirstNextSays : Type 0
FirstNextSays = (length : ℕ) → chosen_says (Ok (Some (record { script = which.First; length = length }))) ≡ values (1 ∷ length ∷ [])

-- Where the second script's record comes next, the chooser says 2 and the record's length. (7.8)
abbrev pub SecondNextSays : Type 0
SecondNextSays = (length : ℕ) → chosen_says (Ok (Some (record { script = which.Second; length = length }))) ≡ values (2 ∷ length ∷ [])

-- Where both scripts have ended, the chooser says no value. (7.10)
abbrev pub EndedSays : Type 0
EndedSays = chosen_says (Ok None) ≡ values []

-- A refusal in the first script says its number, its place and 1. (7.11, 7.12)
abbrev pub RefusedInFirstSays : Type 0
RefusedInFirstSays = (r : Refusal) (place : ℕ)
    → chosen_says (Err (record { script = which.First; at = record { refusal = r; place = place } })) ≡ numbered (refusal_in 1 (refusal_number r) place)

-- A refusal in the second script says its number, its place and 2. (7.11, 7.12)
abbrev pub RefusedInSecondSays : Type 0
RefusedInSecondSays = (r : Refusal) (place : ℕ)
    → chosen_says (Err (record { script = which.Second; at = record { refusal = r; place = place } })) ≡ numbered (refusal_in 2 (refusal_number r) place)

-- No answer of the record reader or of the chooser is numbered 0. (1.16)
abbrev pub ScriptsNeverZero : Type 0
ScriptsNeverZero = NeverNumberedZero record_says × NeverNumberedZero chosen_says

-- Different answers of the record reader say different things, and so do different answers of the chooser.
abbrev pub ScriptsSaidApart : Type 0
ScriptsSaidApart = SaysApart record_says × SaysApart chosen_says
