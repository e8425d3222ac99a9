-- The laws of records and logs are proved: what was written reads back as itself, and as nothing else. (docs/RULES.md, section 8.)
use Rattle.std.specs.Prelude.{Result, Ok, Err}
use Rattle.kinds.specs.declared.RefusedAt.{RefusedAt}
use Prim.Native.Nat.{ℕ, ◌+◌, ◌-◌, ◌≤◌, ◌<◌}
use native.Mathlib.Decide.{dec_le}
use native.Mathlib.Omega.{arith}
use mathlib.Core.Path.{◌≡◌, refl, sym, ap, ◌∙◌}
use mathlib.Core.Logic.{◌↔◌, ⊎_elim}
use mathlib.Core.Bool.{Bool, true, false, and-eq-true_iff}
use mathlib.Core.Option.{Option, some}
use mathlib.Core.List.Memᴰ
use mathlib.Core.List.{List, [], ◌∷◌, ◌++◌, flatten, append-nil, append_assoc, append_cancel_left}
use lib.Dec.{leb}
use lib.ListN.{length, take, drop, length-append, length-drop, take-append-drop, drop_of_length-le}
use lib.Seq.{length-take-le, drop-drop, drop-append_seam, take_at, drop_at}
use borrow.Author.Tests.{leb-true, le-leb}
use Rattle.kinds.specs.declared.Finish.{Finish}
use Rattle.kinds.specs.declared.Refusal.TheVariants.{NumberTooBig, NoRoom}
use Rattle.kinds.proofs.Apart.{impossible}
use Rattle.numbers.specs.declared.Number.{Number}
use Rattle.numbers.specs.Spelling.{max_number, spelling}
use Rattle.numbers.specs.Reading.{read_at}
use Rattle.numbers.specs.SpelledNumbers.{Bytes}
use Rattle.numbers.proofs.Spellings.{reads_back, number_has_one_spelling, nothing_past_the_end, spelling_length}
use Rattle.logs.specs.Log.{values_of, spelled_numbers, spelled_finish, all_in_range, written_record}
use Rattle.logs.specs.SpelledLogs.{spelled_log, EachInRange, FinishAt, after_log_number, finish_read_at, ReadsAs, ended, one_more, WroteRecord}
use Rattle.logs.specs.LogLaws.{RecordLength, FinishReadsBack, FinishIsSpelled, RecordsDiffer}
use Rattle.logs.specs.LogLaws.{SpelledLogReadsBack, LogIsSpelled, ReadsOneWay, OneLog, RestOfLog, LogGrows, LogKept}
use Rattle.logs.proofs.Records.{length-spelled_numbers, rest_of, rest_put, answers_too_big, answers_no_room, answers_length}

pub record_length : RecordLength
record_length f = length-spelled_numbers (values_of f)

-- ---- numbers that stand in a log

-- From `at` up to `next`, the bytes are the spellings of the numbers `vs`, one after another, and every number has a spelling.
record Stand (s : List ℕ) (at : ℕ) (vs : List ℕ) (next : ℕ) : Type 0 where
  in_range : all_in_range vs ≡ true
  here : drop at s ≡ spelled_numbers vs ++ drop next s
  ends : next ≡ at + length (spelled_numbers vs)

-- No numbers stand between a place and itself.
none_stand : (s : List ℕ) (at : ℕ) → Stand s at [] at
unfolding flatten
none_stand s at = record { in_range = refl; here = refl; ends = omega arith }

-- Where numbers stand at a place, the first of them is read there, and the others stand right after it.
first_read : {s : List ℕ} {at v : ℕ} {vs : List ℕ} {next : ℕ} → Stand s at (v ∷ vs) next
    → (mid : ℕ) × (read_at s at ≡ Ok (record { value = v; next = mid })) × Stand s mid vs next
unfolding flatten
first_read {s} {at} {v} {vs} {next} p =
    let fits = (and-eq-true_iff (leb v max_number) (all_in_range vs)).0 p.in_range in
    let mid = at + length (spelling v) in
    let after : drop at s ≡ spelling v ++ (spelled_numbers vs ++ drop next s) = p.here ∙ append_assoc (spelling v) (spelled_numbers vs) (drop next s) in
    let others : drop mid s ≡ spelled_numbers vs ++ drop next s = rw (← drop-drop, after, drop-append_seam) in
    let inside : at ≤ length s = omega (arith, spelling_length v, simp (length-drop, length-append) at (ap length after)) in
    let place : length (take at s) ≡ at = length-take-le at s inside in
    let whole : take at s ++ (spelling v ++ (spelled_numbers vs ++ drop next s)) ≡ s = rw (← after) (take-append-drop at s) in (
      mid,
      rw (whole, place) at (reads_back (take at s) v (spelled_numbers vs ++ drop next s) (leb-true v max_number fits.0)),
      record { in_range = fits.1; here = others; ends = omega (arith, p.ends, length-append (spelling v) (spelled_numbers vs)) },
    )

-- Where a number is read at a place and numbers stand right after it, all of them stand there together.
first_stands : {s : List ℕ} (at : ℕ) {n : Number} {vs : List ℕ} {next : ℕ} → Bytes s → read_at s at ≡ Ok n → Stand s n.next vs next
    → Stand s at (n.value ∷ vs) next
unfolding flatten
first_stands {s} at {n} {vs} {next} b e p =
    let o = number_has_one_spelling s at n b e in
    record {
      in_range = rw (le-leb n.value max_number o.in_range) p.in_range;
      here = o.stands_here ∙ rw (p.here, append_assoc);
      ends = omega (arith, p.ends, o.ends, length-append (spelling n.value) (spelled_numbers vs));
    }

-- ---- records

-- A record is found after a number only where the number was read.
after_number : {G : Type 0} (v : Result Number RefusedAt) (k : Number → Option FinishAt) {found : FinishAt} → after_log_number v k ≡ some found
    → ((n : Number) → v ≡ Ok n → k n ≡ some found → G) → G
after_number (Ok n) k e then = then n refl e
after_number (Err r) k e then = impossible cc

-- Two findings that are the same have found the same record.
one_found : {x y : FinishAt} → some x ≡ some y → x ≡ y
one_found e = cc

-- Where the five numbers of a record stand, the record is read.
record_read : {s : List ℕ} {at next : ℕ} (f : Finish) → Stand s at (values_of f) next → finish_read_at s at ≡ some (record { finish = f; next = next })
unfolding flatten
record_read {s} {at} {next} f p =
    let serial = first_read p in
    let row = first_read serial.2 in
    let release = first_read row.2 in
    let due = first_read release.2 in
    let finish = first_read due.2 in
    let last : finish.0 ≡ next = omega (arith, finish.2.ends) in
    simp (serial.1, row.1, release.1, due.1, finish.1, last)

-- Where a record is read, its five numbers stand.
record_stands : {s : List ℕ} (at : ℕ) {found : FinishAt} → Bytes s → finish_read_at s at ≡ some found → Stand s at (values_of found.finish) found.next
record_stands {s} at {found} b e =
    after_number (read_at s at) _ e λ serial h₁ e₁.
    after_number (read_at s serial.next) _ e₁ λ row h₂ e₂.
    after_number (read_at s row.next) _ e₂ λ release h₃ e₃.
    after_number (read_at s release.next) _ e₃ λ due h₄ e₄.
    after_number (read_at s due.next) _ e₄ λ finish h₅ e₅.
    rw (← one_found e₅)
    (first_stands at b h₁
    (first_stands serial.next b h₂
    (first_stands row.next b h₃
    (first_stands release.next b h₄
    (first_stands due.next b h₅ (none_stand s finish.next))))))

pub finish_reads_back : FinishReadsBack
finish_reads_back front f rest e =
    record_read f (record { in_range = e; here = rw (drop-append_seam, ← drop-drop, drop-append_seam, drop-append_seam); ends = refl })

pub finish_is_spelled : FinishIsSpelled
finish_is_spelled s at found b e = let p = record_stands at b e in record { in_range = p.in_range; stands_here = p.here; ends = p.ends }

pub records_differ : RecordsDiffer
records_differ f g s t a b e =
    let both = one_found (sym (finish_reads_back [] f s a) ∙ ap (λ l. finish_read_at l 0) e ∙ finish_reads_back [] g t b) in
    let same : f ≡ g = ap (λ (found : FinishAt). found.finish) both in
    (same, append_cancel_left (spelled_finish g) s t (rw same at e))

-- The record writer answers a length in one of the four cases of its two tests: the numbers have spellings, and there is room.
by_tests : (f : Finish) (room took : ℕ) (in_range had_room : Bool) → all_in_range (values_of f) ≡ in_range
    → leb (length (spelled_finish f)) room ≡ had_room → written_record f room ≡ Ok took → WroteRecord f room took
by_tests f room took true true p q e =
    let z : took ≡ length (spelled_finish f) = cc in
    record { in_range = p; spelled = z; had_room = omega (arith, leb-true (length (spelled_finish f)) room q) }
by_tests f room took true false p q e = impossible cc
by_tests f room took false true p q e = impossible cc
by_tests f room took false false p q e = impossible cc

-- Where a length is answered, the record was written. (What the answers say is proved in proofs/Answers.antt.)
pub record_written : (f : Finish) (room took : ℕ) → written_record f room ≡ Ok took → WroteRecord f room took
record_written f room took e = by_tests f room took _ _ refl refl e

-- A record with a number above 2^42 - 1 is refused with 25, and after that one that has no room with 12.
pub record_refusals : (f : Finish) (room : ℕ)
    → ((written_record f room ≡ Err NumberTooBig) ↔ (all_in_range (values_of f) ≡ false))
    × ((written_record f room ≡ Err NoRoom) ↔ ((all_in_range (values_of f) ≡ true) × (room < length (spelled_finish f))))
record_refusals f room = by_range _ refl
  where
    by_range : (b : Bool) → all_in_range (values_of f) ≡ b
        → ((written_record f room ≡ Err NumberTooBig) ↔ (all_in_range (values_of f) ≡ false))
        × ((written_record f room ≡ Err NoRoom) ↔ ((all_in_range (values_of f) ≡ true) × (room < length (spelled_finish f))))
    by_range false p =
        let answer = answers_too_big f room p in
        ((λ e. p, λ q. answer), (λ e. impossible cc, λ q. impossible cc))
    by_range true p = elim (dec_le (length (spelled_finish f)) room) [
      | yes l ↦
          let answer = answers_length f room p l in
          ((λ e. impossible cc, λ q. impossible cc), (λ e. impossible cc, λ q. absurd (omega arith)))
      | no l ↦
          let answer = answers_no_room f room p (omega arith) in
          ((λ e. impossible cc, λ q. impossible cc), (λ e. (p, omega arith), λ q. answer))
    ]

-- ---- logs

-- Where the rest of the bytes from a place on is the spelling of some records, they read as these records.
log_reads : (s : List ℕ) (at : ℕ) (fs : List Finish) → at ≤ length s → drop at s ≡ spelled_log fs → EachInRange fs → ReadsAs s at fs
unfolding flatten
log_reads s at [] h d r = ended {at = at} (omega (arith, length-drop at s, ap length d))
log_reads s at (f ∷ fs) h d r =
    let next = at + length (spelled_finish f) in
    let others : drop next s ≡ spelled_log fs = rw (← drop-drop, d, drop-append_seam) in
    let p : Stand s at (values_of f) next = record { in_range = r f (Memᴰ.head refl); here = d ∙ rw others; ends = refl } in
    let inside : next ≤ length s = omega (arith, length-drop at s, ap length d, length-append (spelled_finish f) (spelled_log fs)) in
    one_more (record_read f p) (log_reads s next fs inside others (λ g m. r g (Memᴰ.tail m)))

pub spelled_log_reads_back : SpelledLogReadsBack
spelled_log_reads_back fs r = log_reads (spelled_log fs) 0 fs (omega arith) refl r

-- Where bytes read as some records from a place on, the rest of the bytes from there is the spelling of these records.
left_of_log : {s : List ℕ} {at : ℕ} {fs : List Finish} → Bytes s → ReadsAs s at fs → EachInRange fs × (drop at s ≡ spelled_log fs)
unfolding flatten
left_of_log {s} {at} b (ended e) = (λ f m. absurd (Memᴰ.not-nil m), drop_of_length-le s {i = at} (omega arith))
left_of_log {s} {at} b (one_more e r) =
    let p = record_stands at b e in
    let others = left_of_log b r in
    (λ g m. ⊎_elim (λ h. rw h p.in_range) (others.0 g) (Memᴰ.cases_cons m), p.here ∙ rw others.1)

pub log_is_spelled : LogIsSpelled
log_is_spelled s fs b r = left_of_log b r

-- At the end of the bytes no record is read.
none_at_the_end : (s : List ℕ) (at : ℕ) {found : FinishAt} → at ≡ length s → finish_read_at s at ≡ some found → ⊥
none_at_the_end s at h e =
    let n = rw (nothing_past_the_end s at (omega arith)) at e in
    impossible cc

pub reads_one_way : ReadsOneWay
reads_one_way s at fs gs (ended e) (ended d) = refl
reads_one_way s at fs gs (ended e) (one_more d q) = absurd (none_at_the_end s at e d)
reads_one_way s at fs gs (one_more e r) (ended d) = absurd (none_at_the_end s at d e)
reads_one_way s at fs gs (one_more {found} {fs = more} e r) (one_more {found = other} {fs = others} d q) =
    let same : found ≡ other = one_found (sym e ∙ d) in
    let rest : more ≡ others = reads_one_way s found.next more others r (rw same q) in
    rw (same, rest)

pub one_log : OneLog
one_log fs gs a b e = reads_one_way (spelled_log fs) 0 fs gs (spelled_log_reads_back fs a) (rw e (spelled_log_reads_back gs b))

-- ---- the rest of a log, lent from a place on

pub rest_of_log : RestOfLog
rest_of_log log at f answer rest a r = record {
  answered = a ∙ ap (written_record f) (rw (rest_of log at, length-drop));
  whole = rest_put log at rest ∙ rw (r, rest_of log at);
}

-- The log of some records and one more is their log with the spelling of the one more behind it.
log_of_one_more : (fs : List Finish) (f : Finish) → spelled_log (fs ++ (f ∷ [])) ≡ spelled_log fs ++ spelled_finish f
unfolding flatten
log_of_one_more [] f = append-nil (spelled_finish f)
log_of_one_more (g ∷ fs) f = rw (log_of_one_more fs f) (sym (append_assoc (spelled_finish g) (spelled_log fs) (spelled_finish f)))

pub log_grows : LogGrows
log_grows fs log₀ log at h f took after b =
    let w = record_written f (length log - at) took (sym b.answered) in
    let before : take at log ≡ spelled_log fs = rw (h.stands, take_at (spelled_log fs) (drop at log₀) at (sym h.up_to)) in
    let behind : drop at log ≡ drop at log₀ = rw (h.stands, drop_at (spelled_log fs) (drop at log₀) at (sym h.up_to)) in
    let all : after ≡ spelled_log (fs ++ (f ∷ [])) ++ drop (at + took) log₀ = b.whole ∙ rw (before, behind, drop-drop, log_of_one_more, append_assoc) in
    let new : length (spelled_log (fs ++ (f ∷ []))) ≡ at + took = rw (log_of_one_more, length-append) (omega (arith, w.spelled, h.up_to)) in
    let same : length after ≡ length log₀ = rw (all, length-append, length-drop, new) (omega (arith, w.had_room, h.within, h.same_length)) in
    record { up_to = sym new; within = omega (arith, w.had_room, h.within, h.same_length); same_length = same; stands = all }

pub log_kept : LogKept
log_kept log at f r after b = b.whole ∙ take-append-drop at log
