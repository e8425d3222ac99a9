-- What the answer to reading a table says: its number and its values. (docs/RULES.md, sections 3 and 10.)
use Rattle.std.specs.Prelude.{ℕ, ◌≡◌, [], ◌∷◌, Result, Ok, Err}
use Rattle.kinds.specs.declared.RefusedAt.{RefusedAt}
use Rattle.kinds.specs.declared.Refusal.{Refusal}
use Rattle.kinds.specs.Numbering.{Says, numbered, values, refusal_number, refused_says, NeverNumberedZero, SaysApart, refused_with}

-- An accepted table says its H, and a refused table says the refusal's number and its place. (1.17)
abbrev pub table_says : Result ℕ RefusedAt → Says
table_says (Ok period) = values (period ∷ [])
table_says (Err r) = numbered (refused_says r)

-- ---- what is proved (proofs/Answers.antt)

-- An accepted table says its H and nothing else. (1.17)
abbrev pub AcceptedTableSays : Type 0
AcceptedTableSays = (h : ℕ) → table_says (Ok h) ≡ values (h ∷ [])

-- A refused table says the refusal's number, its place and 0. (9.5)
abbrev pub RefusedTableSays : Type 0
RefusedTableSays = (r : Refusal) (place : ℕ) → table_says (Err (record { refusal = r; place = place })) ≡ refused_with (refusal_number r) place

-- No answer to reading a table has the number 0. (1.16)
abbrev pub TablesNeverZero : Type 0
TablesNeverZero = NeverNumberedZero table_says

-- Different answers to reading a table say different things.
abbrev pub TablesSaidApart : Type 0
TablesSaidApart = SaysApart table_says
