-- A record of a script is read as its three numbers, and where a record is read its spelling stands. Each answer of the record reader is stated as a law.
-- (docs/RULES.md, section 7.)
use Rattle.std.specs.Prelude.{Option, Some, None, Result, Ok, Err, MatchResult, IsErrAnd}
use Prim.Native.Nat.{ℕ, ◌+◌, ◌≤◌, ◌<◌}
use native.Mathlib.Omega.{arith}
use mathlib.Core.Path.{◌≡◌, refl, sym, ap, ap₂, ◌∙◌}
use mathlib.Core.Bool.{Bool, true, false, cond}
use mathlib.Core.List.{List, ◌++◌, append_assoc}
use lib.ListN.{length, drop, length-append, length-drop}
use lib.Seq.{drop-drop, drop-append_seam}
use lib.Dec.{eqb}
use borrow.Author.Tests.{eq-eqb, ne_eqb, eqb-true}
use Rattle.kinds.specs.declared.RefusedAt.{RefusedAt}
use Rattle.kinds.specs.declared.Refusal.TheVariants.{ScriptMisspelled}
use Rattle.kinds.proofs.Apart.{impossible}
use Rattle.numbers.specs.declared.Number.{Number}
use Rattle.numbers.specs.Spelling.{max_number, spelling}
use Rattle.numbers.specs.Reading.{read_at, misspelled_at}
use Rattle.numbers.specs.SpelledNumbers.{Bytes, Spelled}
use Rattle.numbers.specs.BadByte.{BadByteAt}
use Rattle.numbers.proofs.Spellings.{read_here, number_has_one_spelling, spelling_length, nothing_past_the_end}
use Rattle.numbers.proofs.BadByte.{refused_between, refused_bad}
use Rattle.script.specs.declared.Record.{Record}
use Rattle.script.specs.declared.RecordAt.{RecordAt}
use Rattle.script.specs.Records.{as_scripts, script_number, after_number, record_at}
use Rattle.script.specs.SpelledScripts.{spelled_record, CanBeSpelled, SpelledHere, NoNumberOf, no_gap, no_row, no_cost}

-- ---- a number, as a script's

-- A reading whose number stays and whose refusal becomes 14 at the same place is the script's reading.
pub told_as_scripts : (v told : Result Number RefusedAt) (post : RefusedAt → RefusedAt → Type 0)
    → ((r q : RefusedAt) → post r q → q ≡ record { refusal = ScriptMisspelled; place = r.place })
    → MatchResult v (λ n. told ≡ Ok n) (λ r. IsErrAnd told (post r)) → told ≡ as_scripts v
told_as_scripts (Ok n) told post says m = m
told_as_scripts (Err r) (Ok n) post says m = absurd m
told_as_scripts (Err r) (Err q) post says m = ap Err (says r q m)

-- ---- the answers of the number reader and the record reader

-- A number that the number reader reads is the script's number at that place.
pub number_stands : (s : List ℕ) (at : ℕ) {n : Number} → read_at s at ≡ Ok n → script_number s at ≡ Ok n
unfolding script_number
number_stands s at e = rw e

-- A number that can't be read is refused with 14, at the place where the number reader refuses it.
pub number_misspelled : (s : List ℕ) (at : ℕ) {r : RefusedAt} → read_at s at ≡ Err r
    → script_number s at ≡ Err (record { refusal = ScriptMisspelled; place = r.place })
unfolding script_number
number_misspelled s at e = rw e

-- A number at a place past the end is refused at the script's length.
pub number_past_end : (s : List ℕ) (at : ℕ) → length s < at → script_number s at ≡ Err (record { refusal = ScriptMisspelled; place = length s })
number_past_end s at h = number_misspelled s at (nothing_past_the_end s at (omega arith))

-- A property of every number and of every refusal with 14 is a property of what is read as a script's number.
pub number_or_14 : (P : Result Number RefusedAt → Type 0) (s : List ℕ) (at : ℕ) → ((n : Number) → P (Ok n))
    → ((place : ℕ) → P (Err (record { refusal = ScriptMisspelled; place = place }))) → P (script_number s at)
unfolding script_number
number_or_14 P s at reads refuses = by_answer (read_at s at)
  where
    by_answer : (v : Result Number RefusedAt) → P (as_scripts v)
    by_answer (Ok n) = reads n
    by_answer (Err r) = refuses r.place

-- A script's number that is refused is refused with 14, where the number reader refuses it with 1.
pub number_refused_there : (s : List ℕ) (at : ℕ) {r : RefusedAt} → script_number s at ≡ Err r
    → (r.refusal ≡ ScriptMisspelled) × (read_at s at ≡ misspelled_at r.place)
unfolding script_number
number_refused_there s at {r} e = by_answer (read_at s at) refl e
  where
    by_answer : (v : Result Number RefusedAt) → read_at s at ≡ v → as_scripts v ≡ Err r
        → (r.refusal ≡ ScriptMisspelled) × (read_at s at ≡ misspelled_at r.place)
    by_answer (Ok n) f g = impossible cc
    by_answer (Err q) f g =
        let one = (refused_between s at q f).0 in
        let same : q.place ≡ r.place = cc in
        (cc, f ∙ ap₂ (λ kind place. Err (record { refusal = kind; place = place })) one same)

-- At its length a script has ended.
pub record_end : (s : List ℕ) (at : ℕ) → at ≡ length s → record_at s at ≡ Ok None
record_end s at e = rw (eq-eqb at (length s) e)

module _ (s : List ℕ) (at : ℕ) (elsewhere : at ≡ length s → ⊥) where
  -- Elsewhere than at its end the script has not ended.
  before_end : (then : Result (Option RecordAt) RefusedAt) → cond (eqb at (length s)) (Ok None) then ≡ then
  before_end then = rw (ne_eqb at (length s) elsewhere)

  -- Where the gap is refused, the record is refused with it.
  pub gap_refused : (r : RefusedAt) → script_number s at ≡ Err r → record_at s at ≡ Err r
  gap_refused r e = before_end _ ∙ rw e

  module _ (gap : Number) (g : script_number s at ≡ Ok gap) where
    -- Where the row number after the gap is refused, the record is refused with it.
    pub row_refused : (r : RefusedAt) → script_number s gap.next ≡ Err r → record_at s at ≡ Err r
    row_refused r e = before_end _ ∙ rw (g, e)

    module _ (row : Number) (n : script_number s gap.next ≡ Ok row) where
      -- Where the cost after the row number is refused, the record is refused with it.
      pub cost_refused : (r : RefusedAt) → script_number s row.next ≡ Err r → record_at s at ≡ Err r
      cost_refused r e = before_end _ ∙ rw (g, n, e)

      -- Where three numbers are read, they are the record.
      pub record_read : (cost : Number) → script_number s row.next ≡ Ok cost
          → record_at s at
          ≡ Ok (Some (record { release = record { gap = gap.value; row = record { 0 = row.value }; cost = cost.value }; next = cost.next }))
      record_read cost e = before_end _ ∙ rw (g, n, e)

-- A record at a place past the end is refused at the script's length.
pub record_past_end : (s : List ℕ) (at : ℕ) → length s < at → record_at s at ≡ Err (record { refusal = ScriptMisspelled; place = length s })
record_past_end s at h = gap_refused s at (λ z. omega arith) _ (number_past_end s at h)

-- ---- where a record was read

-- A number that was read as a script's is what the number reader reads there.
pub number_read : (s : List ℕ) (at : ℕ) (n : Number) → script_number s at ≡ Ok n → read_at s at ≡ Ok n
unfolding script_number
number_read s at n e = by_answer (read_at s at) e
  where
    by_answer : (v : Result Number RefusedAt) → as_scripts v ≡ Ok n → v ≡ Ok n
    by_answer (Ok m) q = q
    by_answer (Err r) q = impossible cc

-- Where a record was read, the number that it was to begin with was read.
number_before : (v : Result Number RefusedAt) (k : Number → Result (Option RecordAt) RefusedAt) (found : RecordAt) → after_number v k ≡ Ok (Some found)
    → (n : Number) × (v ≡ Ok n) × (k n ≡ Ok (Some found))
number_before (Ok n) k found e = (n, refl, e)
number_before (Err r) k found e = impossible cc

-- Where a record was read, the script had not ended.
not_ended : (t : Bool) (then : Result (Option RecordAt) RefusedAt) (found : RecordAt) → cond t (Ok None) then ≡ Ok (Some found) → then ≡ Ok (Some found)
not_ended true then found e = impossible cc
not_ended false then found e = e

-- The three numbers of a record that was read, one after the other.
record ThreeNumbers (s : List ℕ) (at : ℕ) (found : RecordAt) : Type 0 where
  gap : Number
  row : Number
  cost : Number
  gap_read : read_at s at ≡ Ok gap
  row_read : read_at s gap.next ≡ Ok row
  cost_read : read_at s row.next ≡ Ok cost
  make_record : found ≡ record { release = record { gap = gap.value; row = record { 0 = row.value }; cost = cost.value }; next = cost.next }

-- A record that was read consists of three numbers that were read.
three_numbers : (s : List ℕ) (at : ℕ) (found : RecordAt) → record_at s at ≡ Ok (Some found) → ThreeNumbers s at found
three_numbers s at found e =
    let gap = number_before _ _ found (not_ended (eqb at (length s)) _ found e) in
    let row = number_before _ _ found gap.2 in
    let cost = number_before _ _ found row.2 in
    record {
      gap = gap.0;
      row = row.0;
      cost = cost.0;
      gap_read = number_read s at gap.0 gap.1;
      row_read = number_read s gap.0.next row.0 row.1;
      cost_read = number_read s row.0.next cost.0 cost.1;
      make_record = cc;
    }

-- Where a record was read, its spelling stands from the place on.
pub record_stands : (s : List ℕ) (at : ℕ) (found : RecordAt) → Bytes s → record_at s at ≡ Ok (Some found) → SpelledHere s at found
record_stands s at found b e =
    let t = three_numbers s at found e in
    let gap = number_has_one_spelling s at t.gap b t.gap_read in
    let row = number_has_one_spelling s t.gap.next t.row b t.row_read in
    let cost = number_has_one_spelling s t.row.next t.cost b t.cost_read in
    rw t.make_record (record {
      in_range = record { gap = gap.in_range; row = row.in_range; cost = cost.in_range };
      stands_here = gap.stands_here ∙ rw (row.stands_here, cost.stands_here, append_assoc, append_assoc);
      ends = rw (length-append, length-append) (omega (arith, gap.ends, row.ends, cost.ends));
      forward = omega (arith, gap.forward, row.forward, cost.forward);
      within = cost.within;
    })

-- ---- where a record was refused

-- Where what begins with a number was refused, the number was read and what comes after it refused, or its bad byte was refused with 14.
refused_there : {G : Type 0} (s : List ℕ) (at : ℕ) (k : Number → Result (Option RecordAt) RefusedAt) (r : RefusedAt) → Bytes s → at ≤ length s
    → after_number (script_number s at) k ≡ Err r
    → (r.refusal ≡ ScriptMisspelled → BadByteAt s at r.place → G) → ((n : Number) → Spelled s at n → k n ≡ Err r → G) → G
unfolding script_number
refused_there {G} s at k r b inside e none later = go (read_at s at) refl e
  where
    go : (v : Result Number RefusedAt) → read_at s at ≡ v → after_number (as_scripts v) k ≡ Err r → G
    go (Ok n) f g = later n (number_has_one_spelling s at n b f) g
    go (Err q) f g = let same : q.place ≡ r.place = cc in none (cc) (rw same at (refused_bad b inside f).1)

-- Where a record is refused, the place is that of the first of its three numbers that can't be read.
pub no_number_of : (s : List ℕ) (at : ℕ) (r : RefusedAt) → Bytes s → at < length s → record_at s at ≡ Err r
    → (r.refusal ≡ ScriptMisspelled) × NoNumberOf s at r.place
no_number_of s at r b inside e =
    refused_there s at _ r b (omega arith) (sym (before_end s at (λ z. omega arith) _) ∙ e) (λ is bad. (is, no_gap bad)) λ gap g f.
    refused_there s gap.next _ r b g.within f (λ is bad. (is, no_row gap g bad)) λ row n h.
    refused_there s row.next _ r b n.within h (λ is bad. (is, no_cost gap row g n bad)) λ cost c made. impossible cc

-- ---- where a script has ended

-- A record is not the end of a script.
no_end : (found : RecordAt) → ◌≡◌ {A = Result (Option RecordAt) RefusedAt} (Ok (Some found)) (Ok None) → ⊥
no_end found e = impossible cc

-- What begins with a number is not the end of a script.
no_end_after : (v : Result Number RefusedAt) (k : Number → Result (Option RecordAt) RefusedAt)
    → ((n : Number) → k n ≡ Ok None → ⊥) → after_number v k ≡ Ok None → ⊥
no_end_after (Ok n) k h e = h n e
no_end_after (Err r) k h e = impossible cc

-- Where the end is answered, the test for the script's length has passed.
length_passed : (t : Bool) (then : Result (Option RecordAt) RefusedAt) → (then ≡ Ok None → ⊥) → cond t (Ok None) then ≡ Ok None → t ≡ true
length_passed true then h e = refl
length_passed false then h e = absurd (h e)

-- Where the end is answered, the place is the script's length.
pub end_is_length : (s : List ℕ) (at : ℕ) → record_at s at ≡ Ok None → at ≡ length s
end_is_length s at e =
    let three_numbers_are_none =
    no_end_after (script_number s at) _ λ gap.
    no_end_after (script_number s gap.next) _ λ row.
    no_end_after (script_number s row.next) _ λ cost. no_end _ in
    eqb-true at (length s) (length_passed (eqb at (length s)) _ three_numbers_are_none e)

-- ---- where a spelling stands

-- From a place to the end of the script stands `rest`.
pub record From (s : List ℕ) (at : ℕ) (rest : List ℕ) : Type 0 where
  pub stands_here : drop at s ≡ rest
  pub within : at ≤ length s

-- Behind the bytes `front`, at the place of their length, stands `rest`.
pub from_behind : (front rest : List ℕ) → From (front ++ rest) (length front) rest
from_behind front rest = record { stands_here = drop-append_seam front rest; within = omega (arith, length-append front rest) }

module _ {s : List ℕ} {at : ℕ} (part rest : List ℕ) (p : From s at (part ++ rest)) where
  -- The script is as long as the place, the part and the rest together.
  how_long : length s ≡ at + length part + length rest
  how_long = omega (arith, p.within, simp (length-drop, length-append) at (ap length p.stands_here))

  -- Behind the part stands the rest.
  pub from_later : From s (at + length part) rest
  from_later = record { stands_here = rw (← drop-drop, p.stands_here, drop-append_seam); within = omega (arith, how_long) }

-- A number is read where its spelling stands.
number_here : {s : List ℕ} {at : ℕ} (v : ℕ) (rest : List ℕ) → v ≤ max_number → From s at (spelling v ++ rest)
    → script_number s at ≡ Ok (record { value = v; next = at + length (spelling v) })
number_here {s} {at} v rest h p = number_stands s at (read_here s at v rest h p.stands_here)

-- A record is read where its spelling stands.
pub record_here : {s : List ℕ} {at : ℕ} (r : Record) (rest : List ℕ) → CanBeSpelled r → From s at (spelled_record r ++ rest)
    → record_at s at ≡ Ok (Some (record { release = r; next = at + length (spelled_record r) }))
record_here {s} {at} r rest can p =
    let gap = spelling r.gap in
    let row = spelling r.row.0 in
    let cost = spelling r.cost in
    let gap_stands : From s at (gap ++ (row ++ (cost ++ rest))) = rw (append_assoc, append_assoc) at p in
    let row_stands = from_later gap (row ++ (cost ++ rest)) gap_stands in
    let cost_stands = from_later row (cost ++ rest) row_stands in
    let inside : at < length s = omega (arith, how_long gap (row ++ (cost ++ rest)) gap_stands, spelling_length r.gap) in
    let gap_read = number_here r.gap (row ++ (cost ++ rest)) can.gap gap_stands in
    let row_read = number_here r.row.0 (cost ++ rest) can.row row_stands in
    let cost_read = number_here r.cost rest can.cost cost_stands in
    record_read s at (λ z. omega arith) _ gap_read _ row_read _ cost_read
    ∙ ap (λ (n : ℕ). Ok (Some (record { release = r; next = n }))) (omega (arith, length-append gap (row ++ cost), length-append row cost))
