-- What the answers to reading a table say: none has the number 0, and different answers say different things. So what is said determines the answer.
use Rattle.std.specs.Prelude.{Result, Ok, Err}
use Prim.Native.Nat.{ℕ}
use mathlib.Core.Path.{◌≡◌, refl, ap}
use mathlib.Core.List.{[], ◌∷◌}
use Rattle.kinds.specs.Numbering.{values, refusal_number, refused_with}
use Rattle.kinds.specs.declared.RefusedAt.{RefusedAt}
use Rattle.kinds.proofs.Apart.{impossible}
use Rattle.kinds.proofs.Numbering.{said_in, never_zero, refusals_apart}
use Rattle.table.specs.Answers.{table_says, AcceptedTableSays, RefusedTableSays, TablesNeverZero, TablesSaidApart}

pub accepted_table_says : AcceptedTableSays
accepted_table_says h = refl

pub refused_table_says : RefusedTableSays
refused_table_says r place = refl

pub tables_never_zero : TablesNeverZero
tables_never_zero (Ok period) = tt
tables_never_zero (Err r) = never_zero r.refusal

pub tables_said_apart : TablesSaidApart
tables_said_apart (Ok h) (Ok k) e = cc
tables_said_apart (Ok h) (Err r) e = impossible cc
tables_said_apart (Err q) (Ok k) e = impossible cc
tables_said_apart (Err q) (Err r) e = ap Err (refusals_apart q r e)

-- An answer that says an H accepts the table with that H.
pub said_accepted : (a : Result ℕ RefusedAt) (h : ℕ) → table_says a ≡ values (h ∷ []) → a ≡ Ok h
said_accepted a h e = tables_said_apart a (Ok h) e

-- An answer that says a number and a place is a refusal with that number, at that place.
pub said_refused : (a : Result ℕ RefusedAt) (number place : ℕ) → table_says a ≡ refused_with number place
    → (r : RefusedAt) × (a ≡ Err r) × (refusal_number r.refusal ≡ number) × (r.place ≡ place)
said_refused (Ok h) number place e = impossible cc
said_refused (Err r) number place e = (r, refl, ap (λ a. (said_in a).number) e, ap (λ a. (said_in a).first) e)
