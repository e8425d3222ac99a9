-- What the number writer answers, and what the buffer holds afterwards. (docs/RULES.md, section 2.)
use Rattle.std.specs.Prelude.{ℕ, cond, List, ◌++◌, leb, length, drop, Result, Ok, Err}
use Rattle.kinds.specs.declared.Refusal.{Refusal}
use Rattle.kinds.specs.declared.Refusal.TheVariants.{NumberTooBig, NoRoom}
use Rattle.numbers.specs.Spelling.{max_number, spelling}

-- The length of a number's spelling in bytes, or refusal 25 where the number is above 2^42 − 1. (10.7)
abbrev pub length_of : ℕ → Result ℕ Refusal
length_of n = cond (leb n max_number) (Ok (length (spelling n))) (Err NumberTooBig)

-- The writer's answer for a number n and a buffer of `room` bytes. It is 25 where n is above 2^42 − 1, else 12 where the spelling is longer than the buffer,
-- and else the length of the spelling. (2.12, 2.13)
abbrev pub written : (n room : ℕ) → Result ℕ Refusal
written n room =
    cond (leb n max_number)
    (cond (leb (length (spelling n)) room) (Ok (length (spelling n))) (Err NoRoom))
    (Err NumberTooBig)

-- The buffer after the writer's answer. After a length it holds the spelling of n at its start, and the rest as it was. After a refusal the whole buffer is
-- unchanged. (2.12, 2.14)
abbrev pub buffer_after : Result ℕ Refusal → ℕ → List ℕ → List ℕ
buffer_after (Ok k) n buffer = spelling n ++ drop k buffer
buffer_after (Err r) n buffer = buffer
