-- The laws of the script reader: one step goes by what was found, and many steps go by the records that stand from a place on. (docs/RULES.md, 7.7.)
use Rattle.std.specs.Prelude.{Some, None, Ok}
use Prim.Native.Nat.{ℕ, zero, suc, ◌+◌, ◌≤◌}
use native.Mathlib.Omega.{arith}
use mathlib.Core.Path.{◌≡◌, refl, sym, ap, ◌∙◌}
use mathlib.Core.List.Memᴰ
use mathlib.Core.List.{List, [], ◌∷◌, ◌++◌, flatten, append_assoc, append-nil}
use lib.ListN.{length, length-append}
use Rattle.script.specs.declared.Record.{Record}
use Rattle.script.specs.declared.RecordAt.{RecordAt}
use Rattle.script.specs.SpelledScripts.{spelled_record, spelled_script, AllCanBeSpelled}
use Rattle.script.specs.Answers.{record_says}
use Rattle.script.proofs.Scripts.{record_reads_back, record_is_spelled, end_is_the_length}
use Rattle.script.proofs.Answers.{scripts_said_apart, refused_record}
use Rattle.reader.specs.declared.ScriptReader.{ScriptReader}
use Rattle.reader.specs.Reader.{found_by, moved}
use Rattle.reader.specs.ReaderPlaces.{moved_times, placed}
use Rattle.reader.specs.ReaderLaws.{MovesPastARecord, StaysAtTheEnd, StaysOnARefusal, YieldedByAReader}
use Rattle.reader.specs.ReaderLaws.{StandsAfterTheFirst, FindsTheNext, EndsAfterTheLast}

-- ---- one step

pub moves_past_a_record : MovesPastARecord
moves_past_a_record reader found b said =
    let e = scripts_said_apart.0 (found_by reader) (Ok (Some found)) said in
    rw (e, (record_is_spelled reader.script.now reader.at found b e).ends)

-- Where the end is found, the script reader keeps its place.
stays_there : (reader : ScriptReader) → found_by reader ≡ Ok None → moved reader ≡ reader
stays_there reader e = rw e

pub stays_at_the_end : StaysAtTheEnd
stays_at_the_end reader said = stays_there reader (scripts_said_apart.0 (found_by reader) (Ok None) said)

pub stays_on_a_refusal : StaysOnARefusal
stays_on_a_refusal reader said e = refused_record (found_by reader) said e λ r is says. rw is

pub yielded_by_a_reader : YieldedByAReader
yielded_by_a_reader reader = refl

-- ---- many steps

-- Some records stand behind the bytes `front`. A script reader at the first of them is past all of them after one step for each.
past_records : (reader : ScriptReader) (front : List ℕ) (rs : List Record) (rest : List ℕ) → AllCanBeSpelled rs
    → reader.script.now ≡ front ++ (spelled_script rs ++ rest) → reader.at ≡ length front
    → moved_times (length rs) reader ≡ placed reader (length front + length (spelled_script rs))
unfolding moved_times flatten
past_records reader front [] rest all holds here = ap (placed reader) (omega arith)
past_records reader front (r ∷ rs) rest all holds here =
    let one = spelled_record r in
    let found : found_by reader ≡ Ok (Some (record { release = r; next = length front + length one })) =
    rw (holds, here, append_assoc one (spelled_script rs) rest) (record_reads_back front r (spelled_script rs ++ rest) (all r (Memᴰ.head refl))) in
    let next : moved reader ≡ placed reader (length front + length one) = rw found in
    let behind : reader.script.now ≡ (front ++ one) ++ (spelled_script rs ++ rest) =
    holds ∙ rw (append_assoc one (spelled_script rs) rest, append_assoc front one (spelled_script rs ++ rest)) in
    ap (moved_times (length rs)) next
    ∙ past_records (placed reader (length front + length one)) (front ++ one) rs rest (λ q m. all q (Memᴰ.tail m)) behind (sym (length-append front one))
    ∙ ap (placed reader) (omega (arith, length-append front one, length-append one (spelled_script rs)))

pub stands_after_the_first : StandsAfterTheFirst
stands_after_the_first reader first rest all start =
    past_records reader [] first rest all start.holds start.at_start ∙ ap (placed reader) (omega arith)

pub finds_the_next : FindsTheNext
finds_the_next reader first r rest all can start =
    let here : RecordAt = record { release = r; next = length (spelled_script first) + length (spelled_record r) } in
    let found : found_by (moved_times (length first) reader) ≡ Ok (Some here) =
    rw (stands_after_the_first reader first (spelled_record r ++ rest) all start, start.holds) (record_reads_back (spelled_script first) r rest can) in
    ap record_says found

-- At the end more steps change nothing.
stays_for_good : (n : ℕ) (reader : ScriptReader) → found_by reader ≡ Ok None → moved_times n reader ≡ reader
unfolding moved_times
stays_for_good zero reader e = refl
stays_for_good (suc n) reader e = ap (moved_times n) (stays_there reader e) ∙ stays_for_good n reader e

-- A script reader that is at the end after m steps is there after any larger number of steps.
end_for_good : (m n : ℕ) (reader : ScriptReader) → m ≤ n → found_by (moved_times m reader) ≡ Ok None → moved_times n reader ≡ moved_times m reader
unfolding moved_times
end_for_good zero n reader h e = stays_for_good n reader e
end_for_good (suc m) zero reader h e = absurd (omega arith)
end_for_good (suc m) (suc n) reader h e = end_for_good m n (moved reader) (omega arith) e

pub ends_after_the_last : EndsAfterTheLast
ends_after_the_last reader rs n all start many =
    let last = placed reader (length (spelled_script rs)) in
    let whole : reader.script.now ≡ spelled_script rs = start.holds in
    let end : found_by last ≡ Ok None = (end_is_the_length reader.script.now (length (spelled_script rs))).1 (ap length (sym whole)) in
    let stands : moved_times (length rs) reader ≡ last =
    stands_after_the_first reader rs [] all (record { holds = whole ∙ sym (append-nil (spelled_script rs)); at_start = start.at_start }) in
    let there : moved_times n reader ≡ last = end_for_good (length rs) n reader many (ap found_by stands ∙ end) ∙ stands in
    (there, ap record_says (ap found_by there ∙ end))
