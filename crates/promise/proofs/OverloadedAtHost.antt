-- No order at the host's calls: the first number in the answer buffer is the verdict's own length. (5.11, 9.5)
use Prim.Native.Nat.{ℕ, ◌^◌, ◌<◌}
use mathlib.Core.Path.{◌≡◌, sym, ap, ◌∙◌}
use mathlib.Core.List.{List}
use native.Mathlib.Omega.{arith}
use lib.ListN.{take}
use lib.Seq.{take_at}
use Rattle.kinds.specs.Numbering.{Said}
use Rattle.numbers.specs.SpelledNumbers.{Bytes}
use Rattle.words.specs.Words.{word_length, lowest_first}
use Rattle.words.proofs.Storing.{length-lowest_first, bytes_say_the_number}
use Rattle.verdict.specs.declared.Verdict.{Verdict}
use Rattle.verdict.specs.Verdict.{Judged, verdict_says}
use Rattle.host.specs.Answer.{VerdictAnswered, answer_bytes}
use Rattle.host.specs.Answer as host
use Rattle.host.specs.Buffers.{Filled}
use Rattle.host.proofs.Answering.{answer_filled}
use Rattle.promise.specs.AtHost.{NoOrderAtHostCalls}
use Rattle.promise.proofs.NoOrder.{witness_is_in_time, no_order}

-- An answer buffer begins with its first number.
begins_with : (s : Said) → take word_length (answer_bytes s) ≡ lowest_first word_length s.first
begins_with s = take_at (lowest_first word_length s.first) (lowest_first word_length s.second) word_length (length-lowest_first word_length s.first)

-- An answer buffer settles its first number.
same_first : (s t : Said) → s.first < 2 ^ 64 → t.first < 2 ^ 64 → answer_bytes s ≡ answer_bytes t → s.first ≡ t.first
same_first s t h j e = bytes_say_the_number s.first t.first h j (sym (begins_with s) ∙ ap (take word_length) e ∙ begins_with t)

module _ (table : List ℕ) (fine : Bytes table) (v : Verdict) (judged : Judged table v) (overloaded : 21 ≡ (verdict_says v).number) where
  -- A verdict numbered 21 says 21 and its two numbers.
  says_21 : verdict_says v ≡ record { number = 21; first = (verdict_says v).first; second = (verdict_says v).second }
  says_21 = rw overloaded

  -- The length of the verdict is the one in the buffer.
  length_written : (L demand : ℕ) (written : List ℕ) → L < 2 ^ 64 → written ≡ answer_bytes (verdict_says v)
      → Filled (record { number = 21; first = L; second = demand }) written → (verdict_says v).first ≡ L
  length_written L demand written small said filled =
      let told : Said = record { number = 21; first = L; second = demand } in
      let in_time = witness_is_in_time table fine v judged (verdict_says v).first (verdict_says v).second says_21 in
      same_first (verdict_says v) told (omega arith) small (sym said ∙ (answer_filled told written).0 filled)

-- Nobody serves the jobs that the length in the answer buffer names.
pub no_order_at_host_calls : NoOrderAtHostCalls
no_order_at_host_calls table fine lent written (host.VerdictAnswered.wrong_size l s w) L demand small filled who = absurd (omega arith)
no_order_at_host_calls table fine lent written (host.VerdictAnswered.said l v judged s w) L demand small filled who =
    let same = length_written table fine v judged s L demand written small w filled in
    rw same at (no_order table fine v judged (verdict_says v).first (verdict_says v).second (says_21 table fine v judged s) who)
