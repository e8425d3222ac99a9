-- The proofs of the laws of the spelling. Every number written reads back as itself, and bytes that read as a number are its spelling. Both proofs go by
-- induction on the number of groups that are allowed.
use Rattle.std.specs.Prelude.{Ok, Err}
use mathlib.Core.Path.{◌≡◌, refl, sym, ap, ◌∙◌}
use mathlib.Core.Logic.{◌⊎◌, inl, inr}
use Prim.Native.Nat.{ℕ, zero, suc, ◌+◌, ◌-◌, ◌*◌, ◌/◌, ◌%◌, ◌≤◌, ◌<◌}
use native.Mathlib.Omega.{arith}
use native.Mathlib.Decide.{dec_le}
use mathlib.Core.List.{List, [], ◌∷◌, ◌++◌, append_cancel_left}
use mathlib.Core.Bool.{true, false}
use lib.ListN.{length, drop, length-append, length-drop}
use lib.Seq.{get_or-drop, drop-drop, drop-append_seam}
use lib.Dec.{ltb, eqb}
use borrow.Author.Tests.{lt-ltb, le-ltb, le-leb, lt-leb, ne_eqb}
use Rattle.kinds.specs.declared.Refusal.{Refusal}
use Rattle.kinds.specs.declared.Refusal.TheVariants.{NumberTooBig, NoRoom}
use Rattle.kinds.proofs.Apart.{impossible}
use Rattle.numbers.specs.declared.Number.{Number}
use Rattle.numbers.specs.Spelling.{max_groups, max_number, groups_of, spelling}
use Rattle.numbers.specs.Reading.{Spelt, number, superfluous_zero, asks_for_more, cut_off, group_before, spelt, answered, read_at, misspelled_at}
use Rattle.numbers.specs.Writing.{length_of, written}
use Rattle.numbers.specs.SpelledNumbers.{Bytes, Spelled, Wrote}
use Rattle.numbers.specs.NumberLaws.{LargestNumber, ReadsBack, NumberWrittenReadsBack, NumberHasOneSpelling, SpellingLength, SpelledInBytes, SpellingsDiffer}
use Rattle.numbers.proofs.Reading.{limit, limit_pos, spelt_cut}

pub largest_number : LargestNumber
largest_number = refl

-- ---- the groups of a number

-- A number below 128 is one group.
pub groups_last : (most n : ℕ) → n < 128 → groups_of (suc most) n ≡ n ∷ []
unfolding groups_of
groups_last most n h = simp (lt-ltb n 128 h)

-- A number from 128 on is its lowest group with 128 added, and then the groups of the number divided by 128.
pub groups_more : (most n : ℕ) → 128 ≤ n → groups_of (suc most) n ≡ (n % 128 + 128) ∷ groups_of most (n / 128)
unfolding groups_of
groups_more most n h = simp (le-ltb n 128 h)

-- Where `most` groups are enough for a number, allowing one group more does not change them.
groups_enough : (most n : ℕ) → n < limit most → 0 < most + n → groups_of (suc most) n ≡ groups_of most n
groups_enough zero n h p = absurd (omega arith)
groups_enough (suc most) n h p = elim (dec_le 128 n) [
  | yes l ↦ simp (groups_more (suc most) n l, groups_more most n l, groups_enough most (n / 128) (omega arith) (omega arith))
  | no l ↦ let k : n < 128 = omega arith in simp (groups_last (suc most) n k, groups_last most n k)
]

-- The spelling of a number below 128 is one group.
pub spelling_last : (n : ℕ) → n < 128 → spelling n ≡ n ∷ []
spelling_last n h = groups_last (max_groups - 1) n h

-- The spelling of a number from 128 on is its lowest group with 128 added, and then the spelling of the number divided by 128.
pub spelling_more : (n : ℕ) → n ≤ max_number → 128 ≤ n → spelling n ≡ (n % 128 + 128) ∷ spelling (n / 128)
spelling_more n h l =
    let most = max_groups - 1 in
    groups_more most n l ∙ ap (λ (t : List ℕ). (n % 128 + 128) ∷ t) (sym (groups_enough most (n / 128) (omega arith) (omega arith)))

-- A number has at least one group.
groups_some : (most n : ℕ) → 1 ≤ length (groups_of (suc most) n)
groups_some most n = elim (dec_le 128 n)
    [ yes l ↦ simp (groups_more most n l) (omega arith) | no l ↦ simp (groups_last most n (omega arith)) (omega arith) ]

-- A number has at most as many groups as are allowed.
groups_most : (most n : ℕ) → length (groups_of most n) ≤ most
unfolding groups_of
groups_most zero n = omega arith
groups_most (suc most) n = elim (dec_le 128 n) [
  | yes l ↦ simp (groups_more most n l) (omega (arith, groups_most most (n / 128)))
  | no l ↦ simp (groups_last most n (omega arith)) (omega arith)
]

pub spelling_length : SpellingLength
spelling_length n = (groups_some (max_groups - 1) n, groups_most max_groups n)

-- A byte put in front of bytes gives bytes.
pub Bytes-cons : (b : ℕ) (s : List ℕ) → b < 256 → Bytes s → Bytes (b ∷ s)
Bytes-cons b s h k zero = h
Bytes-cons b s h k (suc i) = k i

-- Each group is a byte.
groups_bytes : (most n : ℕ) → Bytes (groups_of most n)
unfolding groups_of
groups_bytes zero n = λ i. omega arith
groups_bytes (suc most) n = elim (dec_le 128 n) [
  | yes l ↦ rw (groups_more most n l) (Bytes-cons (n % 128 + 128) (groups_of most (n / 128)) (omega arith) (groups_bytes most (n / 128)))
  | no l ↦ rw (groups_last most n (omega arith)) (Bytes-cons n [] (omega arith) (λ i. omega arith))
]

pub spelled_in_bytes : SpelledInBytes
spelled_in_bytes n = groups_bytes max_groups n

-- ---- reading what was written, whatever follows

-- The groups of a number, whatever follows them, spell that number.
spelt_groups : (most n : ℕ) (rest : List ℕ) (at : ℕ) → n < limit most → 0 < most + n
    → spelt most (groups_of most n ++ rest) at ≡ number n (at + length (groups_of most n))
unfolding spelt
spelt_groups zero n rest at h p = absurd (omega arith)
spelt_groups (suc most) n rest at h p = elim (dec_le 128 n) [
  | yes l ↦
      let ih = spelt_groups most (n / 128) rest (at + 1) (omega arith) (omega arith) in
      let low : n % 128 + 128 - 128 + 128 * (n / 128) ≡ n = omega arith in
      simp (groups_more most n l, le-ltb (n % 128 + 128) 128 (omega arith), ih, ne_eqb (n / 128) 0 (λ z. omega arith), low)
      (ap (number n) (omega arith))
  | no l ↦
      let k : n < 128 = omega arith in
      simp (groups_last most n k, lt-ltb n 128 k)
]

-- Where the spelling of a number stands, the reader reads that number.
pub read_here : (s : List ℕ) (at n : ℕ) (rest : List ℕ) → n ≤ max_number → drop at s ≡ spelling n ++ rest
    → read_at s at ≡ Ok (record { value = n; next = at + length (spelling n) })
read_here s at n rest h d = rw (d, spelt_groups max_groups n rest at (omega arith) (omega arith))

pub reads_back : ReadsBack
reads_back front n rest h = read_here (front ++ (spelling n ++ rest)) (length front) n rest h (drop-append_seam front (spelling n ++ rest))

-- ---- what the writer answers

-- The three cases of the writer's two tests: the spelling has room, or it has no room, or the number is too big.
by_answer : {G : Type 0} (n room : ℕ)
    → (n ≤ max_number → length (spelling n) ≤ room → written n room ≡ Ok (length (spelling n)) → G)
    → (n ≤ max_number → room < length (spelling n) → written n room ≡ Err NoRoom → G)
    → (max_number < n → written n room ≡ Err NumberTooBig → G)
    → G
by_answer n room has_room no_room too_big = elim (dec_le n max_number) [
  | yes l ↦ elim (dec_le (length (spelling n)) room) [
    | yes k ↦ has_room l k (simp (le-leb n max_number l, le-leb (length (spelling n)) room k))
    | no k ↦ let j : room < length (spelling n) = omega arith in no_room l j (simp (le-leb n max_number l, lt-leb (length (spelling n)) room j))
  ]
  | no l ↦ let j : max_number < n = omega arith in too_big j (simp (lt-leb n max_number j))
]

-- Where the writer answers a length, the number is in range, its spelling has that length, and there is room for it.
pub length_answered : (n room took : ℕ) → written n room ≡ Ok took → Wrote n room took
length_answered n room took e = by_answer n room
    (λ l k w. let z : took ≡ length (spelling n) = cc in record { in_range = l; spelled = z; had_room = omega arith })
    (λ l k w. impossible cc)
    (λ l w. impossible cc)

-- Where the writer refuses, the number is too big or has no room.
pub refusal_answered : (n room : ℕ) (r : Refusal) → written n room ≡ Err r
    → ((r ≡ NumberTooBig) × (max_number < n)) ⊎ ((r ≡ NoRoom) × (n ≤ max_number) × (room < length (spelling n)))
refusal_answered n room r e = by_answer n room
    (λ l k w. impossible cc)
    (λ l k w. inr (cc, l, k))
    (λ l w. inl (cc, l))

-- For a number in range the length answered is the length of its spelling.
pub length_of_a_spelling : (n : ℕ) → n ≤ max_number → length_of n ≡ Ok (length (spelling n))
length_of_a_spelling n h = simp (le-leb n max_number h)

-- For a number that is too big the answer is refusal 25.
pub too_big_has_no_length : (n : ℕ) → max_number < n → length_of n ≡ Err NumberTooBig
too_big_has_no_length n h = simp (lt-leb n max_number h)

pub number_written_reads_back : NumberWrittenReadsBack
number_written_reads_back n took buffer e =
    let w = length_answered n (length buffer) took e in
    reads_back [] n _ w.in_range ∙ ap (λ next. Ok (record { value = n; next = next })) (omega (arith, w.spelled))

-- ---- what reads as a number

-- Where a group worth `low` and the groups after it spell n, the groups after it spell some m above 0, and n is low + 128 · m.
before_inverse : (low n next : ℕ) (r : Spelt) → group_before low r ≡ number n next
    → (m : ℕ) × (r ≡ number m next) × (n ≡ low + 128 * m) × (0 < m)
before_inverse low n next (number zero k) e = impossible cc
before_inverse low n next (number (suc m) k) e =
    let q : eqb (suc m) 0 ≡ false = ne_eqb (suc m) 0 (λ h. omega arith) in
    (suc m, cc, cc, omega arith)
before_inverse low n next (superfluous_zero k) e = impossible cc
before_inverse low n next (asks_for_more k) e = impossible cc
before_inverse low n next cut_off e = impossible cc

-- A number that is read in at most `most` groups is below `limit most`.
spelt_small : (most : ℕ) (s : List ℕ) (at n next : ℕ) → Bytes s → spelt most s at ≡ number n next → n < limit most
unfolding spelt
spelt_small zero s at n next h e = impossible cc
spelt_small (suc most) [] at n next h e = impossible cc
spelt_small (suc most) (b ∷ s) at n next h e = elim (dec_le 128 b) [
  | yes l ↦
      let t = before_inverse (b - 128) n next (spelt most s (at + 1)) (simp (le-ltb b 128 l) at e) in
      omega (arith, h 0, spelt_small most s (at + 1) t.0 next (λ i. h (suc i)) t.1)
  | no l ↦
      let q : ltb b 128 ≡ true = lt-ltb b 128 (omega arith) in
      let z : b ≡ n = cc in
      omega (arith, limit_pos most)
]

-- A number that is read takes at least one byte, and ends within the bytes.
pub spelt_within : (most : ℕ) (s : List ℕ) (at n next : ℕ) → spelt most s at ≡ number n next → (at < next) × (next ≤ at + length s)
unfolding spelt
spelt_within zero s at n next e = impossible cc
spelt_within (suc most) [] at n next e = impossible cc
spelt_within (suc most) (b ∷ s) at n next e = elim (dec_le 128 b) [
  | yes l ↦
      let t = before_inverse (b - 128) n next (spelt most s (at + 1)) (simp (le-ltb b 128 l) at e) in
      omega (arith, spelt_within most s (at + 1) t.0 next t.1)
  | no l ↦
      let q : ltb b 128 ≡ true = lt-ltb b 128 (omega arith) in
      let y : at + 1 ≡ next = cc in
      omega arith
]

-- Bytes that read as n are the groups of n, followed by any bytes.
spelt_is_groups : (most : ℕ) (s : List ℕ) (at n next : ℕ) → Bytes s → spelt most s at ≡ number n next
    → (rest : List ℕ) × (s ≡ groups_of most n ++ rest) × (next ≡ at + length (groups_of most n))
unfolding spelt
spelt_is_groups zero s at n next h e = impossible cc
spelt_is_groups (suc most) [] at n next h e = impossible cc
spelt_is_groups (suc most) (b ∷ s) at n next h e = elim (dec_le 128 b) [
  | yes l ↦
      let t = before_inverse (b - 128) n next (spelt most s (at + 1)) (simp (le-ltb b 128 l) at e) in
      let ih = spelt_is_groups most s (at + 1) t.0 next (λ i. h (suc i)) t.1 in
      let low : n % 128 + 128 ≡ b = omega (arith, h 0) in
      let high : n / 128 ≡ t.0 = omega (arith, h 0) in
      let g = groups_more most n (omega arith) in
      (ih.0, simp (g, low, high) (ap (λ (l : List ℕ). b ∷ l) ih.1), simp (g, high) (omega arith))
  | no l ↦
      let q : ltb b 128 ≡ true = lt-ltb b 128 (omega arith) in
      let z : b ≡ n = cc in
      let y : at + 1 ≡ next = cc in
      let g = groups_last most n (omega arith) in
      (s, simp (g, z), simp g (sym y))
]

-- Where the reader answers a number, the bytes spelled that number.
answered_number : (end : ℕ) (r : Spelt) (k : Number) → answered end r ≡ Ok k → r ≡ number k.value k.next
answered_number end (number n next) k e = let v : n ≡ k.value = cc in let w : next ≡ k.next = cc in cc
answered_number end (superfluous_zero place) k e = impossible cc
answered_number end (asks_for_more place) k e = impossible cc
answered_number end cut_off k e = impossible cc

-- Where the spelling of a number in range stands at a place, and `next` is the place right after it, everything that `Spelled` says holds.
pub spelled_rest : (s rest : List ℕ) (at : ℕ) (k : Number) → k.value ≤ max_number → drop at s ≡ spelling k.value ++ rest
    → k.next ≡ at + length (spelling k.value) → Spelled s at k
spelled_rest s rest at k h d e =
    let room : length s - at ≡ length (spelling k.value) + length rest = rw (← length-drop, d, length-append) in
    record {
      in_range = h;
      stands_here = rw (e, ← drop-drop, d, drop-append_seam);
      ends = e;
      forward = omega (arith, spelling_length k.value);
      within = omega (arith, spelling_length k.value);
    }

pub number_has_one_spelling : NumberHasOneSpelling
number_has_one_spelling s at k h e =
    let b : Bytes (drop at s) = λ i. rw get_or-drop (h (at + i)) in
    let n = answered_number (length s) (spelt max_groups (drop at s) at) k e in
    let r = spelt_is_groups max_groups (drop at s) at k.value k.next b n in
    spelled_rest s r.0 at k (omega (arith, spelt_small max_groups (drop at s) at k.value k.next b n)) r.1 r.2

-- A place at the end of the bytes or past it is refused with 1, at that place.
pub nothing_past_the_end : (s : List ℕ) (at : ℕ) → length s ≤ at → read_at s at ≡ misspelled_at (length s)
nothing_past_the_end s at h = rw (spelt_cut max_groups s at (omega arith) h)

module _ {s : List ℕ} {at : ℕ} where
  -- Where the spelling of a number stands at a place, the reader reads that number.
  pub spelled_read : {n : Number} → Spelled s at n → read_at s at ≡ Ok n
  spelled_read {n} p =
      read_here s at n.value (drop n.next s) p.in_range p.stands_here
      ∙ ap (λ next. Ok (record { value = n.value; next = next })) (sym p.ends)

-- Bytes that begin with the spelling of a number spell that number.
front : (n : ℕ) (s : List ℕ) → n ≤ max_number → spelt max_groups (spelling n ++ s) 0 ≡ number n (length (spelling n))
front n s h = spelt_groups max_groups n s 0 (omega arith) (omega arith) ∙ ap (number n) (omega arith)

pub spellings_differ : SpellingsDiffer
spellings_differ m n s t h k e =
    let both : number m (length (spelling m)) ≡ number n (length (spelling n)) = sym (front m s h) ∙ ap (λ l. spelt max_groups l 0) e ∙ front n t k in
    let same : m ≡ n = cc in
    (same, append_cancel_left (spelling n) s t (rw same at e))
