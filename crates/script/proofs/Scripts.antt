-- Bytes are read as records exactly where the records are spelled, and what comes next of two scripts is one record. (docs/RULES.md, section 7.)
use Rattle.std.specs.Prelude.{Some, None, Ok, Err}
use Prim.Native.Nat.{ℕ}
use native.Mathlib.Omega.{arith}
use mathlib.Core.Path.{◌≡◌, refl, ap, ◌∙◌}
use mathlib.Core.Logic.{◌↔◌, ⊎_elim}
use mathlib.Core.List.Memᴰ
use mathlib.Core.List.{List, [], ◌∷◌, ◌++◌, flatten}
use lib.ListN.{length, length-drop}
use lib.Seq.{drop-length}
use Rattle.kinds.proofs.Apart.{impossible}
use Rattle.numbers.specs.SpelledNumbers.{Bytes}
use Rattle.script.specs.declared.Record.{Record}
use Rattle.script.specs.Records.{record_at}
use Rattle.script.specs.SpelledScripts.{spelled_record, spelled_script, AllCanBeSpelled, SpelledToTheEnd, Reads, ended, then}
use Rattle.script.specs.ScriptLaws.{RecordReadsBack, RecordIsSpelled, ScriptIsRead, ScriptReadsBack, ReadInOneWay}
use Rattle.script.specs.ScriptLaws.{SpellingsOfScriptsDiffer}
use Rattle.script.specs.ChooserLaws.{PartIsOneRecord, PartIsEmpty}
use Rattle.script.proofs.Records.{record_end, record_stands, end_is_length, From, from_behind, from_later, record_here}
use Rattle.script.proofs.Chooser.{next_is_first}

-- ---- a record

pub record_reads_back : RecordReadsBack
record_reads_back front r rest can = record_here r rest can (from_behind front (spelled_record r ++ rest))

pub record_is_spelled : RecordIsSpelled
record_is_spelled = record_stands

-- A script ends at its length and nowhere else. The law about what is said there is in proofs/Answers.antt.
pub end_is_the_length : (s : List ℕ) (at : ℕ) → (record_at s at ≡ (Ok None)) ↔ (at ≡ length s)
end_is_the_length s at = (end_is_length s at, record_end s at)

-- ---- a script

-- Records are read where their spellings stand, one after the other to the end.
records_here : {s : List ℕ} {at : ℕ} (rs : List Record) → AllCanBeSpelled rs → From s at (spelled_script rs) → Reads s at rs
unfolding flatten
records_here {s} {at} [] all p = ended (record_end s at (omega (arith, p.within, simp length-drop at (ap length p.stands_here))))
records_here {s = s} {at = at} (r ∷ rs) all p =
    then _ (record_here r (spelled_script rs) (all r (Memᴰ.head refl)) p)
    (records_here {at = Prim.Native.Nat.◌+◌ at (length (spelled_record r))} rs (λ q m. all q (Memᴰ.tail m)) (from_later (spelled_record r) (spelled_script rs) p))

-- Where records are read, their spellings stand, one after the other to the end.
records_stand : {s : List ℕ} {at : ℕ} {rs : List Record} → Bytes s → Reads s at rs → SpelledToTheEnd s at rs
unfolding flatten
records_stand {s} {at} b (ended e) =
    let place = end_is_length s at e in
    record { in_range = λ r m. absurd (Memᴰ.not-nil m); stands_here = rw (place, drop-length); within = omega arith }
records_stand {s} {at} b (then found e more) =
    let one = record_stands s at found b e in
    let others = records_stand b more in
    record {
      in_range = λ r m. ⊎_elim (λ h. rw h one.in_range) (others.in_range r) (Memᴰ.cases_cons m);
      stands_here = one.stands_here ∙ rw others.stands_here;
      within = omega (arith, one.forward, one.within);
    }

pub script_is_read : ScriptIsRead
script_is_read s at rs b = (records_stand b, λ h. records_here rs h.in_range (record { stands_here = h.stands_here; within = h.within }))

pub script_reads_back : ScriptReadsBack
script_reads_back front rs all = records_here rs all (from_behind front (spelled_script rs))

pub read_in_one_way : ReadInOneWay
read_in_one_way s at _ _ (ended e) (ended d) = refl
read_in_one_way s at _ _ (ended e) (then found d more) = impossible cc
read_in_one_way s at _ _ (then found e more) (ended d) = impossible cc
read_in_one_way s at _ _ (then found e more) (then other d rest) =
    let same : other ≡ found = cc in
    cc (read_in_one_way s found.next _ _ more (rw same at rest))

pub spellings_of_scripts_differ : SpellingsOfScriptsDiffer
spellings_of_scripts_differ rs others all can e =
    read_in_one_way (spelled_script others) 0 rs others (rw e at (script_reads_back [] rs all)) (script_reads_back [] others can)

-- ---- the chooser

pub part_is_one_record : PartIsOneRecord
part_is_one_record s₁ s₂ time₁ time₂ n b₁ b₂ e = next_is_first s₁ s₂ b₁ b₂ time₁ time₂ n e

pub part_is_empty : PartIsEmpty
part_is_empty (Ok (Some n)) s₁ s₂ none = absurd (none n refl)
part_is_empty (Ok None) s₁ s₂ none = refl
part_is_empty (Err r) s₁ s₂ none = refl
