-- The spelling of a log's record, and what the record writer answers and leaves. (docs/RULES.md, 8.8 to 8.10.)
use Rattle.kinds.specs.declared.Refusal.{Refusal}
use Rattle.std.specs.Prelude.{ℕ, Bool, cond, leb, length, drop, Result, Ok, Err}
use Rattle.std.specs.List.{list_all}
use mathlib.Core.List.{List, [], ◌∷◌, ◌++◌, flatten, map}
use Rattle.kinds.specs.declared.Finish.{Finish}
use Rattle.kinds.specs.declared.Refusal.TheVariants.{NumberTooBig, NoRoom}
use Rattle.numbers.specs.Spelling.{max_number, spelling}

-- The five numbers of a record, left to right: serial, row number, release, due time, finish. (8.8)
abbrev pub values_of : Finish → List ℕ
values_of f = f.serial.0 ∷ f.row.0 ∷ f.release.0 ∷ f.due.0 ∷ f.finish.0 ∷ []

-- The spellings of numbers, one after another. (2.1)
abbrev pub spelled_numbers : List ℕ → List ℕ
spelled_numbers vs = flatten (map spelling vs)

-- The spelling of a record: its five numbers, one after another. (8.8)
abbrev pub spelled_finish : Finish → List ℕ
spelled_finish f = spelled_numbers (values_of f)

-- Every one of the numbers is at most 2^42 - 1, so that it has a spelling. (2.4)
abbrev pub all_in_range : List ℕ → Bool
all_in_range vs = list_all (λ v. leb v max_number) vs

-- What the record writer answers: 25 if any of the five numbers is above 2^42 - 1, then 12 if the record is longer than the room, and else its length. (8.10)
abbrev pub written_record : Finish → (room : ℕ) → Result ℕ Refusal
written_record f room =
    cond (all_in_range (values_of f))
    (cond (leb (length (spelled_finish f)) room) (Ok (length (spelled_finish f))) (Err NoRoom))
    (Err NumberTooBig)

-- The rest of the log after the record writer's answer. After a length it has the record, and behind that what stood there before. After a refusal it is
-- unchanged. (8.10)
abbrev pub rest_after : Result ℕ Refusal → Finish → List ℕ → List ℕ
rest_after (Ok k) f rest = spelled_finish f ++ drop k rest
rest_after (Err r) f rest = rest
