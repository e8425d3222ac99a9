-- Refusals point at the bad byte is proved: the table's refusals and the play's do, and the verdict, the replay and the host's calls hand them on.
-- (docs/RULES.md, 2.10, 3.8, 7.6, 8.1 and 9.5.)
use Rattle.std.specs.Prelude.{Result, Ok, Err}
use Rattle.kinds.specs.declared.RefusedAt.{RefusedAt}
use Prim.Native.Nat.{ℕ, ◌≤◌}
use native.Mathlib.Omega.{arith}
use mathlib.Core.Path.{◌≡◌, refl, sym, ap, subst, ◌∙◌}
use mathlib.Core.Logic.{◌≢◌}
use lib.Dec.{leb, eqb}
use lib.ListN.{length}
use Rattle.kinds.specs.Numbering.{Said, refusal_at, refused_with}
use Rattle.numbers.specs.BadByte.{FirstBadByte}
use Rattle.theory.proofs.Cases.{by_eq, by_test}
use Rattle.table.specs.declared.Table.{Table}
use Rattle.table.specs.Tables.{table_read}
use Rattle.table.specs.Answers.{table_says}
use Rattle.table.proofs.BadBytes.{refused_at_the_first_bad_byte}
use Rattle.verdict.specs.declared.Verdict.{Verdict}
use Rattle.verdict.specs.declared.Verdict.TheVariants as verdict
use Rattle.verdict.specs.Verdict.{RightOf, RightOfRead, verdict_says}
use Rattle.logs.specs.SpelledLogs.{spelled_log}
use Rattle.play.specs.Play.{Progress, Played, whole, stopped, played}
use Rattle.play.specs.Late.{late_finishes}
use Rattle.play.proofs.BadBytes.{stopped_in_the_table, stopped_in_the_script}
use Rattle.replay.specs.declared.Replayed.{Replayed}
use Rattle.replay.specs.declared.Replayed.TheVariants as replayed
use Rattle.replay.specs.Outcome.{replay_outcome, replay_of, replay_says}
use Rattle.host.specs.Answer.{answer_length, answer_bytes}
use Rattle.host.specs.Answer as host
use Rattle.host.specs.Buffers.{Filled}
use Rattle.host.proofs.Answering.{answer_filled, replay_of_another_size, replay_of_sixteen}
use Rattle.promise.specs.BadByte.{VerdictPoints, ReplayPointsInTheTable, ReplayPointsInTheScript, VerdictCallPoints, ReplayCallPoints}

-- ---- the verdict

pub verdict_points : VerdictPoints
verdict_points table v b judged one = by_answer (table_read table).answer refl judged
  where
    of_accepted : (t : Table) (w : Verdict) → RightOf t w → (verdict_says w).number ≡ 1 → ⊥
    of_accepted t verdict.Feasible right is = omega arith
    of_accepted t (verdict.Overloaded o) right is = omega arith
    of_accepted t (verdict.Refused r) right is = right

    by_answer : (a : Result ℕ RefusedAt) → (table_read table).answer ≡ a → RightOfRead (table_read table).table a v → FirstBadByte table (verdict_says v).first
    by_answer (Ok period) e right = absurd (of_accepted (table_read table).table v right one)
    by_answer (Err r) e right =
        let is = rw right at one in
        rw right (refused_at_the_first_bad_byte table r.place b (ap table_says e ∙ ap (λ number. refused_with number r.place) is))

-- ---- the replay

-- A play that came to its end says 22, 23 or 12.
whole_says : (room end : ℕ) (p : Progress) → 12 ≤ (replay_says (replay_outcome room end (whole p))).number
    × ((replay_says (replay_outcome room end (whole p))).number ≢ 14)
whole_says room end p = by_test (leb (length (spelled_log p.so_far.finishes)) room)
    (λ fits. by_test (eqb (late_finishes p.so_far.finishes) 0)
    (λ none. rw (fits, none) (omega arith, λ e. omega arith))
    (λ some. rw (fits, some) (omega arith, λ e. omega arith)))
    (λ full. rw full (omega arith, λ e. omega arith))

pub replay_points_in_the_table : ReplayPointsInTheTable
replay_points_in_the_table table script room rows records one = by_end (played table script) refl one
  where
    by_end : (p : Played) → played table script ≡ p → (replay_says (replay_outcome room (length script) p)).number ≡ 1
        → FirstBadByte table (replay_says (replay_outcome room (length script) p)).first
    by_end (whole p) e is = absurd (omega (arith, (whole_says room (length script) p).0))
    by_end (stopped r) e is = stopped_in_the_table table script r rows records e is

pub replay_points_in_the_script : ReplayPointsInTheScript
replay_points_in_the_script table script room rows records fourteen = by_end (played table script) refl fourteen
  where
    by_end : (p : Played) → played table script ≡ p → (replay_says (replay_outcome room (length script) p)).number ≡ 14
        → FirstBadByte script (replay_says (replay_outcome room (length script) p)).first
    by_end (whole p) e is = absurd ((whole_says room (length script) p).1 is)
    by_end (stopped r) e is = stopped_in_the_script table script r rows records e is

-- ---- the host's calls

-- What is said of a refusal is its number, its place and 0.
verdict_told : (v : Verdict) → (verdict_says v).number ≡ 1 → verdict_says v ≡ refusal_at 1 (verdict_says v).first
verdict_told verdict.Feasible is = absurd (omega arith)
verdict_told (verdict.Overloaded o) is = absurd (omega arith)
verdict_told (verdict.Refused r) is = ap (λ number. refusal_at number r.place) is

pub verdict_call_points : VerdictCallPoints
verdict_call_points table b lent written (host.VerdictAnswered.wrong_size l is w) = absurd (omega arith)
verdict_call_points table b lent written (host.VerdictAnswered.said l v judged is w) = record {
  place = (verdict_says v).first;
  first_bad = verdict_points table v b judged (sym is);
  told = (answer_filled (refusal_at 1 (verdict_says v).first) written).1 (w ∙ ap answer_bytes (verdict_told v (sym is)));
}

-- What a replay says of a refusal is its number, its place and 0.
replay_told : (r : Replayed) (number : ℕ) → number ≤ 21 → (replay_says r).number ≡ number → replay_says r ≡ refusal_at number (replay_says r).first
replay_told (replayed.InTime n) number small is = absurd (omega arith)
replay_told (replayed.Late l) number small is = absurd (omega arith)
replay_told (replayed.Refused r) number small is = ap (λ k. refusal_at k r.place) is

pub replay_call_points : ReplayCallPoints
replay_call_points table script rows records log answer status after left leaves = by_eq (length answer) answer_length
    (λ sixteen.
    let told = (replay_of_sixteen table script log answer status after left sixteen).0 leaves in
    let r = replay_of table script (length log) in (
      λ is.
          let one = sym told.its_number ∙ is in
          record {
            place = (replay_says r).first;
            first_bad = replay_points_in_the_table table script (length log) rows records one;
            told = subst (λ (said : Said). Filled said after) (replay_told r 1 (omega arith) one) told.its_answer;
          },
      λ is.
          let fourteen = sym told.its_number ∙ is in
          record {
            place = (replay_says r).first;
            first_bad = replay_points_in_the_script table script (length log) rows records fourteen;
            told = subst (λ (said : Said). Filled said after) (replay_told r 14 (omega arith) fourteen) told.its_answer;
          },
    ))
    (λ other.
    let thirteen : status ≡ 13 = sym leaves.0 ∙ (replay_of_another_size table script log answer other).0 in
    (λ is. absurd (omega arith), λ is. absurd (omega arith)))
