-- What the tests of a record say. (docs/RULES.md, sections 8 and 10.)
use Rattle.records.specs.declared.Asked.{Asked}
use Rattle.kinds.specs.declared.RefusedAt.{RefusedAt}
use Rattle.records.specs.declared.Ready.{Ready}
use Rattle.std.specs.Prelude.{ℕ, ◌≡◌, [], ◌∷◌, Result, Ok, Err}
use Rattle.kinds.specs.Numbering.{Says, numbered, values, refusal_number, refused_says, without_place, NeverNumberedZero, SaysApart, refused_with}
use Rattle.kinds.specs.declared.Refusal.{Refusal}

-- What the tests of a record's numbers say outside. A record that is ready says its time, its row number, its cost and the place after it. A refusal says its
-- number and its place. (1.17, 10.2)
abbrev pub tested_says : Result Ready RefusedAt → Says
tested_says (Ok r) = values (r.time.0 ∷ r.row.0 ∷ r.cost ∷ r.next ∷ [])
tested_says (Err r) = numbered (refused_says r)

-- What the tests of a record that was read already say outside. A record that is ready says its time, its row number and its cost. A refusal says its number,
-- at place 0. (1.17, 10.2)
abbrev pub record_tested_says : Result Asked Refusal → Says
record_tested_says (Ok a) = values (a.time.0 ∷ a.row.0 ∷ a.cost ∷ [])
record_tested_says (Err r) = numbered (refused_says (without_place r))

-- ---- what is proved about what the answers say (proofs/Answers.antt)

-- A record at a place that is ready says its time, its row number, its cost and the place after it. (1.17)
abbrev pub TestReadySays : Type 0
TestReadySays = (time row cost next : ℕ)
    → tested_says (Ok (record { time = record { 0 = time }; row = record { 0 = row }; cost = cost; next = next }))
    ≡ values (time ∷ row ∷ cost ∷ next ∷ [])

-- A record at a place that is refused says the refusal's number, its place and 0. (1.17, 10.2)
abbrev pub TestRefusedSays : Type 0
TestRefusedSays = (r : Refusal) (place : ℕ)
    → tested_says (Err (record { refusal = r; place = place })) ≡ refused_with (refusal_number r) place

-- A record that was read already and is ready says its time, its row number and its cost. (1.17)
abbrev pub RecordReadySays : Type 0
RecordReadySays = (time row cost : ℕ)
    → record_tested_says (Ok (record { time = record { 0 = time }; row = record { 0 = row }; cost = cost })) ≡ values (time ∷ row ∷ cost ∷ [])

-- A record that was read already and is refused says the refusal's number, 0 and 0. (1.17, 10.2)
abbrev pub RecordRefusedSays : Type 0
RecordRefusedSays = (r : Refusal) → record_tested_says (Err r) ≡ refused_with (refusal_number r) 0

-- No answer of either test is numbered 0. (1.16)
abbrev pub TestsNeverZero : Type 0
TestsNeverZero = NeverNumberedZero tested_says × NeverNumberedZero record_tested_says

-- Different answers of a test say different things. (1.17)
abbrev pub TestsSaidApart : Type 0
TestsSaidApart = SaysApart tested_says × SaysApart record_tested_says
