-- The proofs of the laws of words: a word has eight bytes, and these bytes say its number. (docs/RULES.md, 9.4.)
use Rattle.std.specs.Prelude.{◌^◌, Result, Ok}
use Rattle.std.specs.Int.{w64, to_le_bytes, from_le_bytes}
use Rattle.std.proofs.lemmas.Nat.{le_bytes_8}
use Prim.Native.Nat.{ℕ, zero, suc, ◌+◌, ◌-◌, ◌*◌, ◌/◌, ◌%◌, ◌<◌, ◌≤◌}
use mathlib.Core.Path.{◌≡◌, refl, sym, ap, ◌∙◌}
use mathlib.Core.List.{List, [], ◌∷◌, ◌++◌, append-nil, append_assoc}
use native.Mathlib.Omega.{arith}
use native.Mathlib.Nat.{zero-add, div-div-eq-div-mul}
use native.Mathlib.Decide.{dec_le}
use lib.ListN.{length, take, drop, length-append, length-drop, drop_of_length-le}
use lib.Seq.{take_at, take-length, length-take-le, get_or-drop, drop-drop, drop-length, drop-append_seam, sets, sets-eq}
use borrow.Author.Tests.{le-leb, lt-leb}
use borrow.Rule.Slice.PartMut.{mid_of, put_mid}
use Rattle.kinds.specs.declared.Refusal.{Refusal}
use Rattle.kinds.proofs.Apart.{impossible}
use Rattle.numbers.specs.SpelledNumbers.{Bytes}
use Rattle.words.specs.Words.{word_length, lowest_first, from_lowest_first, put_word, rest_with, word_at}
use Rattle.words.specs.WordLaws.{WordIsPut, NoRoomForAWord, WordCutOff, WordStands, WordReadsBack, PutReadsBack, BytesSayTheNumber}

-- A number in a given number of bytes is a list of that length.
pub length-lowest_first : (bytes n : ℕ) → length (lowest_first bytes n) ≡ bytes
unfolding lowest_first
length-lowest_first zero n = refl
length-lowest_first (suc k) n = ap suc (length-lowest_first k _)

-- 256 to the power of the number of bytes. The numbers below it are those that fit so many bytes.
abbrev limit : ℕ → ℕ
limit zero = 1
limit (suc k) = 256 * limit k

-- The k bytes of a number that fits k bytes say that number.
said_by_its_bytes : (k n : ℕ) → n < limit k → from_lowest_first (lowest_first k n) ≡ n
unfolding lowest_first from_lowest_first
said_by_its_bytes zero n h = omega arith
said_by_its_bytes (suc k) n h = omega (arith, said_by_its_bytes k (n / 256) (omega arith))

pub word_reads_back : WordReadsBack
word_reads_back front n rest h =
    let bytes = lowest_first word_length n in
    let long = length-lowest_first word_length n in
    let room : length front + word_length ≤ length (front ++ (bytes ++ rest)) = simp (length-append, long) (omega arith) in
    simp (le-leb _ _ room, drop-append_seam, take_at bytes rest word_length long, said_by_its_bytes word_length n h)

pub put_reads_back : PutReadsBack
put_reads_back n rest h room = simp (le-leb _ _ room) (word_reads_back [] n _ h)

pub bytes_say_the_number : BytesSayTheNumber
bytes_say_the_number n m h j e = sym (said_by_its_bytes word_length n h) ∙ ap from_lowest_first e ∙ said_by_its_bytes word_length m j

-- The library's eight bytes of a number are ours.
pub same_bytes : (n : ℕ) → to_le_bytes w64 n ≡ lowest_first word_length n
unfolding lowest_first
same_bytes n = simp div-div-eq-div-mul refl

-- ---- what each call says

pub word_is_put : WordIsPut
word_is_put room h = simp (le-leb word_length room h)

pub no_room_for_a_word : NoRoomForAWord
no_room_for_a_word room h = simp (lt-leb word_length room h)

pub word_cut_off : WordCutOff
word_cut_off s at h = simp (lt-leb (at + word_length) (length s) h)

-- A list of bytes is the bytes of the number that it says.
bytes_of_what_they_say : (s : List ℕ) → Bytes s → lowest_first (length s) (from_lowest_first s) ≡ s
unfolding lowest_first from_lowest_first
bytes_of_what_they_say [] b = refl
bytes_of_what_they_say (x ∷ s) b =
    let more = from_lowest_first s in
    let low : (x + 256 * more) % 256 ≡ x = omega (arith, b 0) in
    let high : (x + 256 * more) / 256 ≡ more = omega (arith, b 0) in
    rw (low, high, bytes_of_what_they_say s (λ i. b (suc i)))

-- The first bytes of a list of bytes are bytes.
bytes_taken : (k : ℕ) (s : List ℕ) → Bytes s → Bytes (take k s)
bytes_taken zero s b i = omega arith
bytes_taken (suc k) [] b i = omega arith
bytes_taken (suc k) (x ∷ s) b zero = b 0
bytes_taken (suc k) (x ∷ s) b (suc i) = bytes_taken k s (λ j. b (suc j)) i

pub word_stands : WordStands
word_stands s at n next b e = elim (dec_le (at + word_length) (length s)) [
  | yes l ↦
      let word = take word_length (drop at s) in
      let said = simp (le-leb (at + word_length) (length s) l) at e in
      let value : from_lowest_first word ≡ n = cc in
      let place : at + word_length ≡ next = cc in
      let long : length word ≡ word_length = length-take-le word_length (drop at s) (simp length-drop (omega arith)) in
      let bytes : Bytes word = bytes_taken word_length (drop at s) (λ i. rw get_or-drop (b (at + i))) in
      record {
        stands_here = sym (rw (long, value) at (bytes_of_what_they_say word bytes));
        ends = sym place;
        within = omega arith;
      }
  | no l ↦ let cut = word_cut_off s at (omega arith) in impossible cc
]

-- The number that the library reads in the eight bytes at a place is the word there.
pub word_found : (s : List ℕ) (at n : ℕ) {word : List ℕ} → Bytes s → at + word_length ≤ length s → word ≡ take word_length (drop at s) → n < 2 ^ 64
    → n ≡ from_le_bytes w64 word → Ok (record { value = n; next = at + word_length }) ≡ word_at s at
word_found s at n {word} b within here fits e =
    let long : length word ≡ word_length = rw here (length-take-le word_length (drop at s) (simp length-drop (omega arith))) in
    let bytes : Bytes word = rw here (bytes_taken word_length (drop at s) (λ i. rw get_or-drop (b (at + i)))) in
    let said : n ≡ from_lowest_first word =
    sym (said_by_its_bytes word_length n fits) ∙ ap from_lowest_first (sym (same_bytes n) ∙ le_bytes_8 word n long bytes e) in
    rw (said, here) (simp (le-leb _ _ within) refl)

-- ---- words written one behind another

-- Storing a list that is as long as the buffer leaves exactly that list.
pub sets_whole : (s l : List ℕ) → length s ≡ length l → sets l 0 s ≡ s
sets_whole s l h = sets-eq s l 0 (omega arith) ∙ rw (zero-add, drop_of_length-le l {i = length s} (omega arith), append-nil s)

-- Writing a word at a buffer's start stores its eight bytes from place 0 on.
pub put_stores_first : (buffer : List ℕ) (value : ℕ) {answer : Result ℕ Refusal} {last : List ℕ} → word_length ≤ length buffer
    → (answer ≡ put_word (length buffer)) × (last ≡ rest_with answer value buffer) → last ≡ sets buffer 0 (lowest_first word_length value)
put_stores_first buffer value h e =
    let bytes = lowest_first word_length value in
    let long = length-lowest_first word_length value in
    simp (e.0, le-leb word_length (length buffer) h) at e.1 ∙ sym (rw long at (sets-eq bytes buffer 0 (omega arith)))

-- Writing a word into the rest of a buffer that begins at a place stores its eight bytes from that place on.
pub put_stores : (buffer : List ℕ) (at value : ℕ) {answer : Result ℕ Refusal} {last : List ℕ} → at + word_length ≤ length buffer
    → (let rest = mid_of at (length buffer - at) buffer in (answer ≡ put_word (length rest)) × (last ≡ rest_with answer value rest))
    → put_mid at (length buffer - at) buffer last ≡ sets buffer at (lowest_first word_length value)
put_stores buffer at value {answer} {last} h e =
    let bytes = lowest_first word_length value in
    let long = length-lowest_first word_length value in
    let lent : mid_of at (length buffer - at) buffer ≡ drop at buffer = rw (← length-drop, take-length) in
    let took : answer ≡ Ok word_length = e.0 ∙ rw lent (simp (le-leb word_length (length (drop at buffer)) (simp length-drop (omega arith)))) in
    let put : last ≡ bytes ++ drop (at + word_length) buffer = rw (took, lent, drop-drop) at e.1 in
    rw (put, ← length-drop, drop-length, append-nil, ← append_assoc) (sym (rw long at (sets-eq bytes buffer at (omega arith))))
