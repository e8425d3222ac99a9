-- Numbers written as words of eight bytes, one after another. (docs/RULES.md, 9.4.)
use Rattle.std.specs.Prelude.{ℕ}
use mathlib.Core.List.{List, flatten, map}
use Rattle.words.specs.Words.{word_length, lowest_first}

-- The most words that one answer has.
abbrev pub most_words : ℕ
most_words = 4

-- The bytes of some numbers, one after another, each in eight bytes, lowest byte first. (9.4)
abbrev pub words_bytes : List ℕ → List ℕ
words_bytes ws = flatten (map (lowest_first word_length) ws)
