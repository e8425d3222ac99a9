-- Words one after another: how many bytes they take, and how they are written. (docs/RULES.md, 9.4.)
use Prim.Native.Nat.{ℕ, ◌+◌, ◌-◌, ◌*◌, ◌<◌, ◌≤◌}
use mathlib.Core.Path.{◌≡◌, refl, sym, ap, ◌∙◌}
use mathlib.Core.List.{List, [], ◌∷◌, ◌++◌, flatten, append-nil, append_assoc}
use native.Mathlib.Nat.{zero-add}
use native.Mathlib.Numerals.{add-one}
use native.Mathlib.Omega.{arith}
use lib.ListN.{length, get_or, drop, length-append, length-drop}
use lib.Seq.{sets, sets-eq, take-length, drop-cons, drop-drop, drop-length}
use borrow.Rule.Slice.PartMut.{mid_of, put_mid}
use Rattle.words.specs.Words.{word_length, lowest_first}
use Rattle.words.proofs.Storing.{length-lowest_first, sets_whole}
use Rattle.probe.specs.Words.{words_bytes}

-- Each word takes eight bytes.
pub length-words_bytes : (ws : List ℕ) → length (words_bytes ws) ≡ word_length * length ws
unfolding flatten
length-words_bytes [] = refl
length-words_bytes (w ∷ ws) =
    length-append (lowest_first word_length w) (words_bytes ws) ∙ omega (arith, length-lowest_first word_length w, length-words_bytes ws)

-- Words that take as many bytes as a buffer has fill it.
pub words_fill : (buffer ws : List ℕ) → length buffer ≡ word_length * length ws → sets buffer 0 (words_bytes ws) ≡ words_bytes ws
words_fill buffer ws h = sets_whole (words_bytes ws) buffer (omega (arith, length-words_bytes ws))

-- The bytes of two words are those of the first and then those of the second.
pub two_words : (first second : ℕ) → words_bytes (first ∷ second ∷ []) ≡ lowest_first word_length first ++ lowest_first word_length second
unfolding flatten
two_words first second = ap (λ l. lowest_first word_length first ++ l) (append-nil (lowest_first word_length second))

-- The words from a place on are the word there and the words after it.
pub words_next : (ws : List ℕ) (k : ℕ) → k < length ws
    → words_bytes (drop k ws) ≡ lowest_first word_length (get_or ws k 0) ++ words_bytes (drop (k + 1) ws)
unfolding flatten
words_next ws k h = rw (drop-cons ws k 0 h, add-one)

-- Bytes that are stored at the start of the rest of a buffer, which begins at a place, are stored from that place on.
pub stored_from : (buffer bytes : List ℕ) (at : ℕ) → at + length bytes ≤ length buffer
    → put_mid at (length buffer - at) buffer (sets (mid_of at (length buffer - at) buffer) 0 bytes) ≡ sets buffer at bytes
stored_from buffer bytes at h =
    let lent : mid_of at (length buffer - at) buffer ≡ drop at buffer = rw (← length-drop, take-length) in
    let put : sets (drop at buffer) 0 bytes ≡ bytes ++ drop (length bytes) (drop at buffer) =
    sets-eq bytes (drop at buffer) 0 (simp length-drop (omega arith)) ∙ rw zero-add in
    rw (lent, put, ← length-drop, drop-length, append-nil, drop-drop, ← append_assoc) (sym (sets-eq bytes buffer at (omega arith)))
