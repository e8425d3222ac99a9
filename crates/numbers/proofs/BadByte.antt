-- The number reader refuses at the bad byte. The reader's walk over the groups ends in a number or in one of three faults. Each fault is at the bad byte, and
-- a number has one bad byte only.
use Rattle.std.specs.Prelude.{Result, Ok, Err}
use Prim.Native.Nat.{ℕ, zero, suc, ◌+◌, ◌-◌, ◌*◌, ◌/◌, ◌%◌, ◌≤◌, ◌<◌}
use native.Mathlib.Decide.{dec_le}
use native.Mathlib.Omega.{arith}
use mathlib.Core.Path.{◌≡◌, refl, sym, ap, subst, ◌∙◌}
use mathlib.Core.Logic.{inl, inr, ⊎_elim}
use mathlib.Core.List.{List, [], ◌∷◌, ◌++◌, append_assoc, append-nil}
use mathlib.Core.Bool.{Bool, true, false, cond}
use lib.ListN.{length, take, drop, get_or, length-append, length-drop, take-append-drop}
use lib.Seq.{get_or-drop, take-add, take-append-le, take-append-add}
use lib.Dec.{ltb}
use borrow.Author.Tests.{lt-ltb, le-ltb, ne_eqb}
use Rattle.kinds.specs.Numbering.{numbered, refusal_at, refused_with}
use Rattle.kinds.specs.declared.Refusal.TheVariants.{Misspelled}
use Rattle.kinds.specs.declared.RefusedAt.{RefusedAt}
use Rattle.kinds.proofs.Apart.{impossible}
use Rattle.kinds.proofs.Numbering.{said_in}
use Rattle.numbers.specs.declared.Number.{Number}
use Rattle.numbers.specs.Spelling.{max_groups, groups_of, spelling}
use Rattle.numbers.specs.Reading.{Spelt, number, superfluous_zero, asks_for_more, cut_off, group_before, spelt, answered, read_at, misspelled_at}
use Rattle.numbers.specs.Answers.{number_says}
use Rattle.numbers.specs.SpelledNumbers.{Bytes, Spelled, NoNumber}
use Rattle.numbers.specs.BadByte.{bytes_between, Begins, WantsMore, BadByteAt, RefusedAtTheBadByte, OneBadByte, BadByteIfNoNumber}
use Rattle.numbers.specs.BadByte.{NumbersBetween, nothing_between, number_first, OneFirstBadByte, RefusedWithOne, ZeroGroupIsBad, SixthGroupIsBad, CutOffIsBad}
use Rattle.numbers.proofs.Reading.{limit, limit_pos, Passed, first_passed, next_passed, read_one, read_too_long, read_cut, read_zero, read_last}
use Rattle.numbers.proofs.Spellings.{groups_last, groups_more, Bytes-cons, spelt_within, number_has_one_spelling, spellings_differ, nothing_past_the_end}
use Rattle.numbers.proofs.Answers.{numbers_said_apart}

-- ---- where a fault lies

-- The place of a fault is no earlier than `at`, and no later than `end`.
abbrev FaultBetween : (at end : ℕ) → Spelt → Type 0
FaultBetween at end (number n next) = 0 ≤ 0
FaultBetween at end (superfluous_zero place) = (at ≤ place) × (place ≤ end)
FaultBetween at end (asks_for_more place) = (at ≤ place) × (place ≤ end)
FaultBetween at end cut_off = 0 ≤ 0

-- A group in front moves no fault.
fault_before : (low at end : ℕ) (r : Spelt) → ((n next : ℕ) → r ≡ number n next → (at + 1 < next) × (next ≤ end)) → FaultBetween at end r
    → FaultBetween at end (group_before low r)
fault_before low at end (number zero next) w f = (omega (arith, w zero next refl), omega (arith, w zero next refl))
fault_before low at end (number (suc n) next) w f = simp (ne_eqb (suc n) 0 (λ z. omega arith)) f
fault_before low at end (superfluous_zero place) w f = f
fault_before low at end (asks_for_more place) w f = f
fault_before low at end cut_off w f = f

-- A fault that lies between two places lies between two others that are wider apart.
fault_wider : (at low end high : ℕ) (r : Spelt) → low ≤ at → end ≤ high → FaultBetween at end r → FaultBetween low high r
fault_wider at low end high (number n next) l h f = f
fault_wider at low end high (superfluous_zero place) l h f = (omega (arith, f.0), omega (arith, f.1))
fault_wider at low end high (asks_for_more place) l h f = (omega (arith, f.0), omega (arith, f.1))
fault_wider at low end high cut_off l h f = f

-- A fault of some groups lies where they stand.
spelt_fault : (most : ℕ) (s : List ℕ) (at : ℕ) → FaultBetween at (at + length s) (spelt (suc most) s at)
unfolding spelt
spelt_fault most [] at = omega arith
spelt_fault zero (b ∷ s) at = elim (dec_le 128 b) [
  | yes l ↦ simp (le-ltb b 128 l) (omega arith, omega arith)
  | no l ↦ simp (lt-ltb b 128 (omega arith)) (omega arith)
]
spelt_fault (suc most) (b ∷ s) at = elim (dec_le 128 b) [
  | yes l ↦
      simp (le-ltb b 128 l)
      (fault_before (b - 128) at (at + suc (length s)) (spelt (suc most) s (at + 1))
      (λ n next e. let w = spelt_within (suc most) s (at + 1) n next e in (w.0, omega (arith, w.1)))
      (fault_wider (at + 1) at (at + 1 + length s) (at + suc (length s)) (spelt (suc most) s (at + 1)) (omega arith) (omega arith)
      (spelt_fault most s (at + 1))))
  | no l ↦ simp (lt-ltb b 128 (omega arith)) (omega arith)
]

-- What is answered for a fault, by where it lies.
answered_refused : (at end : ℕ) (r : Spelt) (q : RefusedAt) → FaultBetween at end r → at ≤ end → answered end r ≡ Err q
    → (q.refusal ≡ Misspelled) × (q.place ≤ end) × (at ≤ q.place)
answered_refused at end (number n next) q f h e = impossible cc
answered_refused at end (superfluous_zero place) q f h e =
    let same : place ≡ q.place = cc in
    (cc, omega (arith, f.1), omega (arith, f.0))
answered_refused at end (asks_for_more place) q f h e =
    let same : place ≡ q.place = cc in
    (cc, omega (arith, f.1), omega (arith, f.0))
answered_refused at end cut_off q f h e =
    let same : end ≡ q.place = cc in
    (cc, omega arith, omega arith)

-- Whatever is refused is refused with 1, between the number's start and the end.
pub refused_between : (s : List ℕ) (at : ℕ) (r : RefusedAt) → read_at s at ≡ Err r
    → (r.refusal ≡ Misspelled) × (r.place ≤ length s) × (at ≤ length s → at ≤ r.place)
refused_between s at r e = elim (dec_le (length s) at) [
  | yes l ↦
      let q : misspelled_at (length s) ≡ Err r = sym (nothing_past_the_end s at l) ∙ e in
      let same : length s ≡ r.place = cc in
      (cc, omega arith, λ h. omega arith)
  | no l ↦
      let end : at + length (drop at s) ≡ length s = rw length-drop (omega arith) in
      let f = rw end at (spelt_fault (max_groups - 1) (drop at s) at) in
      let w = answered_refused at (length s) (spelt max_groups (drop at s) at) r f (omega arith) e in
      (w.0, w.1, λ h. w.2)
]

pub refused_with_one : RefusedWithOne
refused_with_one s at said e = by_answer (read_at s at) refl e
  where
    by_answer : (v : Result Number RefusedAt) → read_at s at ≡ v → number_says v ≡ numbered said
        → (said ≡ refusal_at 1 said.first) × (said.first ≤ length s) × (at ≤ length s → at ≤ said.first)
    by_answer (Ok n) p q = impossible cc
    by_answer (Err r) p q =
        let w = refused_between s at r p in
        let one = w.0 in
        let same : said ≡ refusal_at 1 r.place = sym (ap said_in q) ∙ rw one in
        rw same (refl, w.1, w.2)

-- ---- groups that ask for more

-- So many bytes at the front of a list are there, and each asks for another.
record Asking (k : ℕ) (l : List ℕ) : Type 0 where
  enough : k ≤ length l
  each : (i : ℕ) → i < k → 128 ≤ get_or l i 0

-- Without the first of these bytes, the others still ask for more.
asking_tail : {k b : ℕ} {l : List ℕ} → Asking (suc k) (b ∷ l) → Asking k l
asking_tail a = record { enough = omega (arith, a.enough); each = λ i h. a.each (suc i) (omega arith) }

-- Fewer bytes at the front of the list ask for more too.
asking_fewer : {j k : ℕ} {l : List ℕ} → j ≤ k → Asking k l → Asking j l
asking_fewer h a = record { enough = omega (arith, a.enough); each = λ i l. a.each i (omega arith) }

-- Some bytes are the groups of a number from 1 on.
record Grouped (most : ℕ) (l : List ℕ) : Type 0 where
  n : ℕ
  some : 1 ≤ n
  small : n < limit most
  groups : l ≡ groups_of most n

-- With a byte in front that asks for more, the groups of a number are the groups of a larger one.
grouped_more : {most : ℕ} {l : List ℕ} (c : ℕ) → 128 ≤ c → c < 256 → Grouped most l → Grouped (suc most) (c ∷ l)
grouped_more {most} {l} c asks byte g =
    let m = g.n in
    let some : 1 ≤ m = g.some in
    let small : m < limit most = g.small in
    let low : (c - 128 + 128 * m) % 128 + 128 ≡ c = omega arith in
    let high : (c - 128 + 128 * m) / 128 ≡ m = omega arith in
    record {
      n = c - 128 + 128 * m;
      some = omega arith;
      small = omega arith;
      groups = simp (groups_more most (c - 128 + 128 * m) (omega arith), low, high) (ap (λ (t : List ℕ). c ∷ t) g.groups);
    }

-- Fewer groups that ask for more than are allowed, and then a 1, are the groups of a number.
asking_goes_on : (k most : ℕ) (l : List ℕ) → Asking k l → Bytes l → k < most → Grouped most (take k l ++ (1 ∷ []))
asking_goes_on zero zero l a b h = absurd (omega arith)
asking_goes_on zero (suc most) l a b h =
    record { n = 1; some = omega arith; small = omega (arith, limit_pos most); groups = sym (groups_last most 1 (omega arith)) }
asking_goes_on (suc k) zero l a b h = absurd (omega arith)
asking_goes_on (suc k) (suc most) [] a b h = absurd (omega (arith, a.enough))
asking_goes_on (suc k) (suc most) (c ∷ l) a b h =
    grouped_more c (a.each 0 (omega arith)) (b 0) (asking_goes_on k most l (asking_tail a) (λ i. b (suc i)) (omega arith))

-- Behind groups that ask for more, no number has a zero group; and a number from 1 on has none at its front.
no_zero_group : (k most n : ℕ) (l rest : List ℕ) → Asking k l → k < length l → get_or l k 0 ≡ 0 → 1 ≤ k + n
    → take (suc k) l ++ rest ≡ groups_of most n → ⊥
unfolding groups_of
no_zero_group k zero n [] rest a h z s e = absurd (omega arith)
no_zero_group k zero n (c ∷ l) rest a h z s e = impossible cc
no_zero_group k (suc most) n [] rest a h z s e = absurd (omega arith)
no_zero_group zero (suc most) n (c ∷ l) rest a h z s e = elim (dec_le 128 n) [
  | yes m ↦ let g = groups_more most n m in let same : c ≡ n % 128 + 128 = cc in omega arith
  | no m ↦ let g = groups_last most n (omega arith) in let same : c ≡ n = cc in omega arith
]
no_zero_group (suc k) (suc most) n (c ∷ l) rest a h z s e = elim (dec_le 128 n) [
  | yes m ↦
      let g = groups_more most n m in
      let tail : take (suc k) l ++ rest ≡ groups_of most (n / 128) = cc in
      no_zero_group k most (n / 128) l rest (asking_tail a) (omega arith) z (omega arith) tail
  | no m ↦
      let g = groups_last most n (omega arith) in
      let same : c ≡ n = cc in
      omega (arith, a.each 0 (omega arith))
]

-- The groups of a number are not as many as are allowed, all of which ask for more.
not_all_ask : (most n : ℕ) (l rest : List ℕ) → Asking most l → n < limit most → 1 ≤ most + n → take most l ++ rest ≡ groups_of most n → ⊥
unfolding groups_of
not_all_ask zero n l rest a h s e = absurd (omega arith)
not_all_ask (suc most) n [] rest a h s e = absurd (omega (arith, a.enough))
not_all_ask (suc most) n (c ∷ l) rest a h s e = elim (dec_le 128 n) [
  | yes m ↦
      let g = groups_more most n m in
      let tail : take most l ++ rest ≡ groups_of most (n / 128) = cc in
      not_all_ask most (n / 128) l rest (asking_tail a) (omega arith) (omega arith) tail
  | no m ↦
      let g = groups_last most n (omega arith) in
      let same : c ≡ n = cc in
      omega (arith, a.each 0 (omega arith))
]

-- ---- the three faults

module _ (s : List ℕ) (at : ℕ) (b : Bytes s) where
  -- Up to five groups that ask for more are unfinished.
  asking_unfinished : (k place : ℕ) → place ≡ at + k → k < max_groups → Asking k (drop at s) → WantsMore (bytes_between s at place)
  asking_unfinished k place is h a =
      let g = asking_goes_on k max_groups (drop at s) a (λ i. rw get_or-drop (b (at + i))) h in
      let many : place - at ≡ k = omega arith in
      record { n = g.n; byte = 1; rest = []; in_range = omega (arith, g.small); goes_on = rw many g.groups }

  -- A zero group behind groups that ask for more is bad.
  zero_is_bad : (k : ℕ) → 1 ≤ k → k < max_groups → Asking k (drop at s) → at + k < length s → get_or s (at + k) 0 ≡ 0 → BadByteAt s at (at + k)
  zero_is_bad k some few a inside z =
      let many : at + k + 1 - at ≡ suc k = omega arith in
      let long : k < length (drop at s) = rw length-drop (omega arith) in
      let here : get_or (drop at s) k 0 ≡ 0 = get_or-drop at s k 0 ∙ z in
      record {
        from = omega arith;
        within = omega arith;
        unfinished = asking_unfinished k (at + k) refl few a;
        no_further = inr (λ g. no_zero_group k max_groups g.n (drop at s) g.rest a long here (omega arith) (rw many at g.goes_on));
      }

  -- The last group that is allowed is bad where it asks for more.
  last_is_bad : Asking max_groups (drop at s) → at + max_groups ≤ length s → BadByteAt s at (at + max_groups - 1)
  last_is_bad a inside =
      let many : at + max_groups - 1 + 1 - at ≡ max_groups = omega arith in
      record {
        from = omega arith;
        within = omega arith;
        unfinished = asking_unfinished (max_groups - 1) (at + max_groups - 1) (omega arith) (omega arith) (asking_fewer (omega arith) a);
        no_further = inr (λ g. not_all_ask max_groups g.n (drop at s) g.rest a (omega (arith, g.in_range)) (omega arith) (rw many at g.goes_on));
      }

  -- The end is bad behind fewer groups than are allowed, each of which asks for more.
  end_is_bad : (k : ℕ) → k < max_groups → Asking k (drop at s) → at + k ≡ length s → BadByteAt s at (length s)
  end_is_bad k few a ends = record {
    from = omega arith;
    within = omega arith;
    unfinished = asking_unfinished k (length s) (omega arith) few a;
    no_further = inl refl;
  }

  -- ---- the reader's walk

  -- What the reader answers: a number, or a refusal at the bad byte.
  data Answers : Type 0 where
    a_number : (n : Number) → read_at s at ≡ Ok n → Answers
    bad : (place : ℕ) → BadByteAt s at place → read_at s at ≡ misspelled_at place → Answers

  -- If so many groups ask for more and the next byte does, one group more asks for more.
  asking_more : (k : ℕ) → Asking k (drop at s) → at + k < length s → 128 ≤ get_or s (at + k) 0 → Asking (suc k) (drop at s)
  asking_more k a inside asks = record {
    enough = rw length-drop (omega arith);
    each = λ i h. elim (dec_le k i) [ yes l ↦ (let same : i ≡ k = omega arith in rw (same, get_or-drop) asks) | no l ↦ a.each i (omega arith) ];
  }

  -- The walk from a group on, with as many groups left to look at as are still allowed.
  walk : (left value weight groups : ℕ) → groups + left ≡ max_groups → Passed s at value weight groups → Asking groups (drop at s) → Answers
  walk zero value weight groups all p a =
      let last : groups ≡ max_groups = omega arith in
      bad (at + max_groups - 1) (last_is_bad (rw last at a) (omega (arith, p.inside))) (read_too_long p (omega arith))
  walk (suc left) value weight groups all p a = elim (dec_le (length s) (at + groups)) [
    | yes ends ↦ bad (length s) (end_is_bad groups (omega arith) a (omega (arith, p.inside))) (read_cut p (omega arith) ends)
    | no more ↦ elim (dec_le 128 (get_or s (at + groups) 0)) [
      | yes asks ↦
          let next = asking_more groups a (omega arith) asks in
          walk left _ _ (groups + 1) (omega arith) (next_passed p (omega arith) (omega arith) asks (b (at + groups))) (asking_fewer (omega arith) next)
      | no ends ↦ elim (dec_le 1 (get_or s (at + groups) 0)) [
        | yes some ↦ a_number _ (read_last p (omega arith) (omega arith) (λ z. omega arith) (omega arith))
        | no none ↦
            let z : get_or s (at + groups) 0 ≡ 0 = omega arith in
            bad (at + groups) (zero_is_bad groups p.some_groups (omega arith) a (omega arith) z) (read_zero p (omega arith) (omega arith) z)
      ]
    ]
  ]

  -- The reader answers so at every place up to the end.
  reader_answers : at ≤ length s → Answers
  reader_answers h = elim (dec_le (length s) at) [
    | yes ends ↦
        bad (length s) (end_is_bad 0 (omega arith) (record { enough = omega arith; each = λ i l. absurd (omega arith) }) (omega arith))
        (nothing_past_the_end s at ends)
    | no more ↦ elim (dec_le 128 (get_or s at 0)) [
      | yes asks ↦
          let place : at + 0 ≡ at = omega arith in
          let here : 128 ≤ get_or s (at + 0) 0 = rw place asks in
          walk (max_groups - 1) _ _ 1 refl (first_passed s at (omega arith) asks (b at))
          (asking_more 0 (record { enough = omega arith; each = λ i l. absurd (omega arith) }) (omega arith) here)
      | no ends ↦ a_number _ (read_one s at (omega arith) (omega arith))
    ]
  ]

-- ---- one bad byte

-- Unfinished bytes begin a number, and so does each beginning of them.
unfinished_begins : (j k : ℕ) (l : List ℕ) → j ≤ k → WantsMore (take k l) → Begins (take j l)
unfinished_begins j k l h u =
    let more : k ≡ j + (k - j) = omega arith in
    let cut : take k l ≡ take j l ++ take (k - j) (drop j l) = ap (λ i. take i l) more ∙ take-add j (k - j) l in
    let tail = take (k - j) (drop j l) in
    record {
      n = u.n;
      rest = tail ++ (u.byte ∷ u.rest);
      in_range = u.in_range;
      goes_on = sym (append_assoc (take j l) tail (u.byte ∷ u.rest)) ∙ rw (← cut) u.goes_on;
    }

-- No byte is bad before another bad one.
no_earlier : (s : List ℕ) (at place other : ℕ) → BadByteAt s at place → BadByteAt s at other → place < other → ⊥
no_earlier s at place other p q h = ⊎_elim
    (λ ends. omega (arith, q.within))
    (λ none. none (unfinished_begins (place + 1 - at) (other - at) (drop at s) (omega (arith, p.from)) q.unfinished))
    p.no_further

pub one_bad_byte : OneBadByte
one_bad_byte s at place other p q = elim (dec_le place other) [
  | yes l ↦ elim (dec_le other place) [ yes m ↦ omega arith | no m ↦ absurd (no_earlier s at place other p q (omega arith)) ]
  | no l ↦ absurd (no_earlier s at other place q p (omega arith))
]

-- ---- no bad byte in a number

-- A number that is spelled has no bad byte.
pub spelled_not_bad : {s : List ℕ} {at place : ℕ} {n : Number} → Spelled s at n → BadByteAt s at place → ⊥
spelled_not_bad {s} {at} {place} {n} p q = elim (dec_le n.next place) [
  | yes after ↦
      let u = q.unfinished in
      let many : place - at ≡ length (spelling n.value) + (place - n.next) = omega (arith, p.ends, p.forward) in
      let tail = take (place - n.next) (drop n.next s) in
      let here : bytes_between s at place ≡ spelling n.value ++ tail =
      rw (many, p.stands_here, take-append-add) in
      let e : spelling n.value ++ (tail ++ (u.byte ∷ u.rest)) ≡ spelling u.n ++ [] =
      sym (append_assoc (spelling n.value) tail (u.byte ∷ u.rest)) ∙ rw (← here) u.goes_on ∙ sym (append-nil (spelling u.n)) in
      let nothing = (spellings_differ n.value u.n (tail ++ (u.byte ∷ u.rest)) [] p.in_range u.in_range e).1 in
      omega (arith, simp length-append at (ap length nothing))
  | no inside ↦
      let many : place + 1 - at ≤ length (spelling n.value) = omega (arith, p.ends, q.from) in
      let here : bytes_between s at (place + 1) ≡ take (place + 1 - at) (spelling n.value) = rw (p.stands_here, take-append-le) in
      ⊎_elim
      (λ ends. omega (arith, p.within))
      (λ none. none (record {
        n = n.value;
        rest = drop (place + 1 - at) (spelling n.value);
        in_range = p.in_range;
        goes_on = rw (here, take-append-drop);
      }))
      q.no_further
]

-- ---- the first bad byte

-- At a place one number at most is spelled.
pub one_number_there : {s : List ℕ} {at : ℕ} (n m : Number) → Spelled s at n → Spelled s at m → n.next ≡ m.next
one_number_there {s} n m p q =
    let e = sym p.stands_here ∙ q.stands_here in
    let same = (spellings_differ n.value m.value (drop n.next s) (drop m.next s) p.in_range q.in_range e).0 in
    p.ends ∙ rw same (sym q.ends)

-- Numbers and then numbers are numbers.
pub numbers_joined : {s : List ℕ} {start mid end : ℕ} → NumbersBetween s start mid → NumbersBetween s mid end → NumbersBetween s start end
numbers_joined nothing_between later = later
numbers_joined (number_first n p more) later = number_first n p (numbers_joined more later)

-- Numbers end inside the bytes.
pub numbers_inside : {s : List ℕ} {start end : ℕ} → NumbersBetween s start end → start ≤ length s → end ≤ length s
numbers_inside nothing_between h = h
numbers_inside (number_first n p more) h = numbers_inside more p.within

-- From a place on, one number at most is the first that is bad.
one_bad_start : {s : List ℕ} {from start other place last : ℕ} → NumbersBetween s from start → NumbersBetween s from other
    → BadByteAt s start place → BadByteAt s other last → place ≡ last
one_bad_start {s} {from} {place = place} {last = last} nothing_between nothing_between p q = one_bad_byte s from place last p q
one_bad_start nothing_between (number_first n there more) p q = absurd (spelled_not_bad there p)
one_bad_start (number_first n there more) nothing_between p q = absurd (spelled_not_bad there q)
one_bad_start {s} {other = other} (number_first n there more) (number_first m here later) p q =
    one_bad_start more (subst (λ at. NumbersBetween s at other) (sym (one_number_there n m there here)) later) p q

pub one_first_bad_byte : OneFirstBadByte
one_first_bad_byte s place other p q = one_bad_start p.before q.before p.bad q.bad

-- ---- the laws, of the reader's answers

module _ {s : List ℕ} {at : ℕ} where
  -- What is refused is refused with 1, at the bad byte.
  pub refused_bad : {r : RefusedAt} → Bytes s → at ≤ length s → read_at s at ≡ Err r
      → (r ≡ record { refusal = Misspelled; place = r.place }) × BadByteAt s at r.place
  refused_bad {r} b h e = go (reader_answers s at b h)
    where
      go : Answers s at b → (r ≡ record { refusal = Misspelled; place = r.place }) × BadByteAt s at r.place
      go (a_number n f) = impossible cc
      go (bad place p f) =
          let is : r ≡ record { refusal = Misspelled; place = place } = cc in
          rw is (refl, p)

  -- A number with a bad byte is refused with 1, at that byte.
  pub bad_read : {place : ℕ} → Bytes s → BadByteAt s at place → read_at s at ≡ misspelled_at place
  bad_read {place} b p = go (reader_answers s at b (omega (arith, p.from, p.within)))
    where
      go : Answers s at b → read_at s at ≡ misspelled_at place
      go (a_number n f) = absurd (spelled_not_bad (number_has_one_spelling s at n b f) p)
      go (bad other q f) = f ∙ ap misspelled_at (one_bad_byte s at other place q p)

pub refused_at_the_bad_byte : RefusedAtTheBadByte
refused_at_the_bad_byte s at place b h =
    (λ e. (refused_bad b h (numbers_said_apart.0 (read_at s at) (misspelled_at place) e)).1, λ p. ap number_says (bad_read b p))

pub bad_byte_if_no_number : BadByteIfNoNumber
bad_byte_if_no_number s at b h = (λ none. go none (reader_answers s at b h), λ p n q. spelled_not_bad q p.1)
  where
    go : NoNumber s at → Answers s at b → (place : ℕ) × BadByteAt s at place
    go none (a_number n f) = absurd (none n (number_has_one_spelling s at n b f))
    go none (bad place p f) = (place, p)

-- ---- examples

-- Whether each of some numbers is a byte.
all_bytes : List ℕ → Bool
all_bytes [] = true
all_bytes (b ∷ s) = cond (ltb b 256) (all_bytes s) false

-- Numbers that are tested so are bytes.
tested_bytes : (s : List ℕ) → all_bytes s ≡ true → Bytes s
unfolding all_bytes
tested_bytes [] e = λ i. omega arith
tested_bytes (b ∷ s) e = elim (dec_le 256 b) [
  | yes l ↦ let no : ltb b 256 ≡ false = le-ltb b 256 l in impossible cc
  | no l ↦ Bytes-cons b s (omega arith) (tested_bytes s (simp (lt-ltb b 256 (omega arith)) at e))
]

-- A place that the reader refuses is the bad byte of these bytes.
bad_in : (s : List ℕ) (place : ℕ) → all_bytes s ≡ true → number_says (read_at s 0) ≡ refused_with 1 place → BadByteAt s 0 place
bad_in s place b e = (refused_at_the_bad_byte s 0 place (tested_bytes s b) (omega arith)).0 e

pub zero_group_is_bad : ZeroGroupIsBad
unfolding spelt all_bytes
zero_group_is_bad =
    let p = bad_in (128 ∷ 0 ∷ []) 1 refl refl in
    (⊎_elim (λ ends. absurd (omega arith)) (λ none. none) p.no_further, p)

pub sixth_group_is_bad : SixthGroupIsBad
unfolding spelt all_bytes
sixth_group_is_bad =
    let p = bad_in (128 ∷ 128 ∷ 128 ∷ 128 ∷ 128 ∷ 128 ∷ []) 5 refl refl in (
      ⊎_elim (λ ends. absurd (omega arith)) (λ none. none) p.no_further,
      p,
      bad_in (128 ∷ 128 ∷ 128 ∷ 128 ∷ 128 ∷ 128 ∷ 1 ∷ []) 5 refl refl,
    )

pub cut_off_is_bad : CutOffIsBad
unfolding spelt all_bytes
cut_off_is_bad =
    let five : List ℕ = 128 ∷ 128 ∷ 128 ∷ 128 ∷ 128 ∷ [] in
    let p = bad_in five 5 refl refl in
    let q = bad_in [] 0 refl refl in
    (unfinished_begins 5 5 five (omega arith) p.unfinished, p, unfinished_begins 0 0 [] (omega arith) q.unfinished, q)
