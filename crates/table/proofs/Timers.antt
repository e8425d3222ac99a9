-- The timer is read exactly where its s and p are spelled and a table may have them, and is refused exactly as the rules say. (docs/RULES.md, 3.16 and 3.17.)
use Rattle.std.specs.Prelude.{Result, Ok, Err}
use Prim.Native.Nat.{ℕ, ◌≤◌, ◌<◌}
use native.Mathlib.Decide.{dec_le}
use native.Mathlib.Omega.{arith}
use mathlib.Core.Path.{◌≡◌, refl, sym, subst, ◌∙◌}
use mathlib.Core.Option.{Option, none, some}
use mathlib.Core.List.{List}
use lib.Dec.{ltb}
use borrow.Author.Tests.{lt-ltb, le-ltb, ltb-true}
use Rattle.kinds.specs.Numbering.{refusal_number}
use Rattle.kinds.specs.declared.Refusal.{Refusal}
use Rattle.kinds.specs.declared.Refusal.TheVariants.{Misspelled, ValueOutOfRange}
use Rattle.kinds.specs.declared.RefusedAt.{RefusedAt}
use Rattle.kinds.proofs.Apart.{impossible}
use Rattle.numbers.specs.declared.Number.{Number}
use Rattle.numbers.specs.Spelling.{spelling}
use Rattle.numbers.specs.Reading.{read_at}
use Rattle.numbers.specs.SpelledNumbers.{Bytes, Spelled}
use Rattle.numbers.proofs.Spellings.{number_has_one_spelling, spelled_read}
use Rattle.numbers.proofs.BadByte.{bad_read, refused_bad}
use Rattle.table.specs.declared.TimerAt.{TimerAt}
use Rattle.table.specs.Limits.{max_p}
use Rattle.table.specs.Rows.{fine, tested_at, read_value}
use Rattle.table.specs.Timer.{rule_of_p, rule_of_s, after_timer_number, read_timer, TimerInRangeMeans}
use Rattle.table.specs.Refusals.{TimerEnds, TimerRefusedSo, no_s, bad_p, s_not_below}
use Rattle.table.proofs.Ranges.{both_true, fine_where, fine_limits, within_fine}
use Rattle.table.proofs.Reading.{tested_fine}
use Rattle.table.proofs.Spelling.{parted, joined, spelled_stands, number_read, value_read}
use Rattle.table.proofs.BadValues.{ValueAnswer, good, bad, good_value, value_answer, bad_refused}

pub timer_in_range_means : TimerInRangeMeans
timer_in_range_means s p = (
  λ e.
      let both = both_true (fine (rule_of_p p)) (fine (rule_of_s p s)) e in
      let limits = fine_limits max_p p both.0 in
      let below = ltb-true s p (sym (fine_where (ltb s p) ValueOutOfRange) ∙ both.1) in
      record { some_p = limits.0; most_p = limits.1; s_below_p = below },
  λ t. simp (within_fine max_p p t.some_p t.most_p, lt-ltb s p t.s_below_p),
)

-- ---- each answer of the code

module _ (bytes : List ℕ) where
  -- If s can't be read, the timer keeps the reader's refusal.
  pub s_refused : (r : RefusedAt) → read_at bytes 0 ≡ Err r → Err r ≡ read_timer bytes
  s_refused r e = rw e

  module _ (s : Number) (s_read : read_at bytes 0 ≡ Ok s) where
    -- If p is refused as it is read, the timer is refused so.
    pub p_refused : (r : RefusedAt) → read_value rule_of_p bytes s.next ≡ Err r → Err r ≡ read_timer bytes
    p_refused r e = rw (s_read, e)

    module _ (p : Number) (p_read : read_value rule_of_p bytes s.next ≡ Ok p) where
      -- An s that is not below p is refused with 3, at its start.
      pub s_too_large : p.value ≤ s.value → Err (record { refusal = ValueOutOfRange; place = 0 }) ≡ read_timer bytes
      s_too_large h = rw (s_read, p_read, le-ltb s.value p.value h)

      -- An s below p is answered, with p and the place right after it.
      pub timer_stands : s.value < p.value → Ok (record { s = s.value; p = p.value; next = p.next }) ≡ read_timer bytes
      timer_stands h = rw (s_read, p_read, lt-ltb s.value p.value h)

-- A timer that was read has a p of at least 1.
pub some_p_read : (bytes : List ℕ) (t : TimerAt) → read_timer bytes ≡ Ok t → 1 ≤ t.p
some_p_read bytes t e = by_s (read_at bytes 0) e
  where
    by_rule : (s p : Number) (o : Option Refusal) → 1 ≤ p.value
        → after_timer_number (tested_at 0 o s) (λ m. Ok (record { s = m.value; p = p.value; next = p.next })) ≡ Ok t → 1 ≤ t.p
    by_rule s p none l f = let same : record { s = s.value; p = p.value; next = p.next } ≡ t = cc in rw (← same) l
    by_rule s p (some r) l f = impossible cc

    by_p : (s : Number) (v : Result Number RefusedAt) → read_value rule_of_p bytes s.next ≡ v
        → after_timer_number v (λ p. after_timer_number (tested_at 0 (rule_of_s p.value s.value) s) (λ m.
        Ok (record { s = m.value; p = p.value; next = p.next }))) ≡ Ok t
        → 1 ≤ t.p
    by_p s (Ok p) f g =
        let limits = fine_limits max_p p.value (tested_fine rule_of_p s.next (read_at bytes s.next) p f) in
        by_rule s p (rule_of_s p.value s.value) limits.0 g
    by_p s (Err r) f g = impossible cc

    by_s : (v : Result Number RefusedAt)
        → after_timer_number v (λ s. after_timer_number (read_value rule_of_p bytes s.next) (λ p.
        after_timer_number (tested_at 0 (rule_of_s p.value s.value) s) (λ m. Ok (record { s = m.value; p = p.value; next = p.next })))) ≡ Ok t
        → 1 ≤ t.p
    by_s (Ok s) f = by_p s (read_value rule_of_p bytes s.next) refl f
    by_s (Err r) f = impossible cc

-- ---- what is answered

-- If a timer that a table may have stands in front, it is read.
pub timer_then : {bytes : List ℕ} {at s p : ℕ} → TimerEnds bytes at s p → read_timer bytes ≡ Ok (record { s = s; p = p; next = at })
timer_then {bytes} {at} {s} {p} e =
    let w = e.good_timer in
    let parts = parted (spelling s) (spelling p) e.before in
    let s_read = number_read s (omega (arith, w.s_below_p, w.most_p)) parts.1 in
    let p_read = value_read max_p p (omega arith) w.some_p w.most_p parts.2 in
    sym (timer_stands bytes (record { value = s; next = parts.0 }) s_read (record { value = p; next = at }) p_read w.s_below_p)

-- Reading the timer is refused at this place, with a refusal of this number.
pub record TimerRefused (bytes : List ℕ) (n place : ℕ) : Type 0 where
  pub how : RefusedAt
  pub its_number : refusal_number how.refusal ≡ n
  pub its_place : how.place ≡ place
  pub answer : read_timer bytes ≡ Err how

-- If the rules refuse the timer, reading it is refused so.
pub timer_refused_if_so : {bytes : List ℕ} {n place : ℕ} → Bytes bytes → TimerRefusedSo bytes n place → TimerRefused bytes n place
timer_refused_if_so {bytes} {place = place} b (no_s w) = record {
  how = record { refusal = Misspelled; place = place };
  its_number = refl;
  its_place = refl;
  answer = sym (s_refused bytes _ (bad_read b w));
}
timer_refused_if_so {bytes} {place = place} b (bad_p s stands w) =
    let wrong = bad_refused b w in
    record {
      how = record { refusal = wrong.kind; place = place };
      its_number = wrong.its_number;
      its_place = refl;
      answer = sym (p_refused bytes s (spelled_read stands) _ wrong.answer);
    }
timer_refused_if_so {bytes} b (s_not_below s p s_stands p_stands least most above) = record {
  how = record { refusal = ValueOutOfRange; place = 0 };
  its_number = refl;
  its_place = refl;
  answer = sym (s_too_large bytes s (spelled_read s_stands) p (good_value p_stands least most) above);
}

-- What reading the timer answers: a timer that a table may have and that stands in front, or the refusal that the rules say.
data TimerAnswer (bytes : List ℕ) : Result TimerAt RefusedAt → Type 0 where
  ends : (t : TimerAt) → TimerEnds bytes t.next t.s t.p → TimerAnswer bytes (Ok t)
  refused : (r : RefusedAt) → TimerRefusedSo bytes (refusal_number r.refusal) r.place → TimerAnswer bytes (Err r)

timer_answer : (bytes : List ℕ) → Bytes bytes → TimerAnswer bytes (read_timer bytes)
timer_answer bytes b = by_s (read_at bytes 0) refl
  where
    by_p : (s : Number) → read_at bytes 0 ≡ Ok s → Spelled bytes 0 s → (v : Result Number RefusedAt) → read_value rule_of_p bytes s.next ≡ v
        → ValueAnswer bytes s.next max_p v → TimerAnswer bytes (read_timer bytes)
    by_p s s_read s_stands (Ok p) p_read (good p_stands least most) = elim (dec_le p.value s.value) [
      | yes above ↦
          subst (TimerAnswer bytes) (s_too_large bytes s s_read p p_read above)
          (refused (record { refusal = ValueOutOfRange; place = 0 }) (s_not_below s p s_stands p_stands least most above))
      | no below ↦
          let it : TimerAt = record { s = s.value; p = p.value; next = p.next } in
          subst (TimerAnswer bytes) (timer_stands bytes s s_read p p_read (omega arith))
          (ends it (record {
            good_timer = record { some_p = least; most_p = most; s_below_p = omega arith };
            before = joined (spelled_stands s_stands) (spelled_stands p_stands);
          }))
    ]
    by_p s s_read s_stands (Err r) p_read (bad how w) =
        subst (TimerAnswer bytes) (p_refused bytes s s_read r p_read) (refused r (bad_p s s_stands w))

    by_s : (v : Result Number RefusedAt) → read_at bytes 0 ≡ v → TimerAnswer bytes (read_timer bytes)
    by_s (Ok s) s_read =
        let s_stands = number_has_one_spelling bytes 0 s b s_read in
        by_p s s_read s_stands (read_value rule_of_p bytes s.next) refl (value_answer b s_stands.within)
    by_s (Err r) s_read =
        let w = refused_bad {s = bytes} {at = 0} b (omega arith) s_read in
        let is : r ≡ record { refusal = Misspelled; place = r.place } = cc w.0 in
        subst (TimerAnswer bytes) (s_refused bytes r s_read)
        (subst (λ q. TimerAnswer bytes (Err q)) (sym is) (refused (record { refusal = Misspelled; place = r.place }) (no_s w.1)))

-- If a timer is read, it stands in front, and a table may have it.
pub timer_ends : {bytes : List ℕ} {t : TimerAt} → Bytes bytes → read_timer bytes ≡ Ok t → TimerEnds bytes t.next t.s t.p
timer_ends {bytes} {t} b e = of_answer (read_timer bytes) (timer_answer bytes b) e
  where
    of_answer : (v : Result TimerAt RefusedAt) → TimerAnswer bytes v → v ≡ Ok t → TimerEnds bytes t.next t.s t.p
    of_answer (Ok q) (ends it w) f = let same : q ≡ t = cc in rw (← same) w
    of_answer (Err q) (refused how w) f = impossible cc

-- If reading the timer is refused, the rules refuse it so.
pub timer_so_if_refused : {bytes : List ℕ} {r : RefusedAt} → Bytes bytes → read_timer bytes ≡ Err r
    → TimerRefusedSo bytes (refusal_number r.refusal) r.place
timer_so_if_refused {bytes} {r} b e = of_answer (read_timer bytes) (timer_answer bytes b) e
  where
    of_answer : (v : Result TimerAt RefusedAt) → TimerAnswer bytes v → v ≡ Err r → TimerRefusedSo bytes (refusal_number r.refusal) r.place
    of_answer (Ok q) (ends it w) f = impossible cc
    of_answer (Err q) (refused how w) f = let same : q ≡ r = cc in rw (← same) w
