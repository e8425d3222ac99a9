-- For each table and answer buffer exactly one status and one answer buffer afterwards are right, and no status of either call is 0.
use Prim.Native.Nat.{ℕ, ◌≤◌}
use mathlib.Core.Path.{refl, sym, ◌∙◌}
use mathlib.Core.Bool.{Bool, true, false, cond}
use native.Mathlib.Decide.{ℕ_discrete}
use native.Mathlib.Omega.{arith}
use lib.Dec.{eqb}
use lib.ListN.{length}
use Rattle.kinds.proofs.Numbering.{never_zero}
use Rattle.verdict.proofs.Verdicts.{some_verdict, one_verdict, verdict_never_says_zero}
use Rattle.verdict.specs.Verdict.{verdict_says}
use Rattle.replay.specs.declared.Replayed.{Replayed}
use Rattle.replay.specs.declared.Replayed.TheVariants as replayed
use Rattle.replay.specs.Outcome.{replay_of, replay_says}
use Rattle.host.specs.Answer.{answer_length, answer_bytes, wrong_size, said, SomeVerdictAnswered, OneVerdictAnswered, VerdictNeverZero, ReplayNeverZero}

pub some_verdict_answered : SomeVerdictAnswered
some_verdict_answered table answer bytes = elim (ℕ_discrete (length answer) answer_length) [
  | yes l ↦
      let v = some_verdict table bytes in
      ((verdict_says v.0).number, answer_bytes (verdict_says v.0), said l v.0 v.1 refl refl)
  | no l ↦ (13, answer, wrong_size l refl refl)
]

pub one_verdict_answered : OneVerdictAnswered
one_verdict_answered table answer status status' after after' (wrong_size l s a) (wrong_size l' s' a') = (cc, cc)
one_verdict_answered table answer status status' after after' (wrong_size l s a) (said l' v j s' a') = absurd (l l')
one_verdict_answered table answer status status' after after' (said l v j s a) (wrong_size l' s' a') = absurd (l' l)
one_verdict_answered table answer status status' after after' (said l v j s a) (said l' v' j' s' a') =
    let same = one_verdict table v v' j j' in
    (s ∙ rw same (sym s'), a ∙ rw same (sym a'))

pub verdict_never_zero : VerdictNeverZero
verdict_never_zero table answer status after (wrong_size l s a) = omega arith
verdict_never_zero table answer status after (said l v j s a) = omega (arith, verdict_never_says_zero v)

-- No outcome of a replay has the number 0.
outcome_never_zero : (v : Replayed) → 1 ≤ (replay_says v).number
outcome_never_zero (replayed.InTime n) = omega arith
outcome_never_zero (replayed.Late l) = omega arith
outcome_never_zero (replayed.Refused r) = never_zero r.refusal

-- A number that is not 0, or 13 in its place, is not 0.
or_13 : (b : Bool) (n : ℕ) → 1 ≤ n → 1 ≤ cond b n 13
or_13 true n h = h
or_13 false n h = omega arith

pub replay_never_zero : ReplayNeverZero
replay_never_zero table script room size = or_13 (eqb size answer_length) _ (outcome_never_zero (replay_of table script room))
