-- Two numbers fill an answer buffer, and its bytes settle both numbers. (docs/RULES.md, 9.4.)
use Prim.Native.Nat.{ℕ}
use mathlib.Core.Path.{◌≡◌, sym, ap, ◌∙◌}
use mathlib.Core.List.{List, ◌++◌}
use native.Mathlib.Omega.{arith}
use lib.ListN.{length, take, drop, length-append}
use lib.Seq.{take_at, drop_at, sets}
use Rattle.kinds.specs.Numbering.{Said}
use Rattle.words.specs.Words.{word_length, lowest_first}
use Rattle.kinds.proofs.Lists.{sets-append}
use Rattle.words.proofs.Storing.{length-lowest_first, bytes_say_the_number, sets_whole}
use Rattle.host.specs.Answer.{answer_length, answer_bytes, AnswerSaysItsNumbers}

-- After one number was written at the answer buffer's start and another behind it, the buffer holds their bytes and nothing else.
pub both_numbers : (answer : List ℕ) (first second : ℕ) → length answer ≡ answer_length
    → sets (sets answer 0 (lowest_first word_length first)) word_length (lowest_first word_length second)
    ≡ lowest_first word_length first ++ lowest_first word_length second
both_numbers answer first second l =
    let one = lowest_first word_length first in
    let other = lowest_first word_length second in
    let long = length-lowest_first word_length first in
    let whole : length (one ++ other) ≡ length answer = length-append one other ∙ omega (arith, long, length-lowest_first word_length second) in
    sym (rw long at (sets-append one other answer 0)) ∙ sets_whole (one ++ other) answer whole

-- The two halves of an answer buffer are the bytes of the two numbers.
halves : (s : Said)
    → (take word_length (answer_bytes s) ≡ lowest_first word_length s.first) × (drop word_length (answer_bytes s) ≡ lowest_first word_length s.second)
halves s =
    let first = lowest_first word_length s.first in
    let second = lowest_first word_length s.second in
    let long = length-lowest_first word_length s.first in
    (take_at first second word_length long, drop_at first second word_length long)

pub answer_says_its_numbers : AnswerSaysItsNumbers
answer_says_its_numbers s t h j e = (
  bytes_say_the_number s.first t.first h.0 j.0 (sym (halves s).0 ∙ ap (take word_length) e ∙ (halves t).0),
  bytes_say_the_number s.second t.second h.1 j.1 (sym (halves s).1 ∙ ap (drop word_length) e ∙ (halves t).1),
)
