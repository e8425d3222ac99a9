-- Accepted jobs in the order of their serials, and records in the order of their finishes. (docs/RULES.md, sections 6.7 and 8.8.)
use Prim.Native.Nat.{ℕ, ◌+◌, ◌≤◌, ◌<◌}
use mathlib.Core.Path.{◌≡◌, sym, ◌∙◌}
use mathlib.Core.List.{List, [], ◌∷◌, ◌++◌}
use native.Mathlib.Nat.{not-suc-le-zero}
use native.Mathlib.Omega.{arith}
use lib.ListN.{length, get_or, length-append, get_or-append}
use lib.Seq.{get_or-append_seam}
use Rattle.kinds.specs.declared.Finish.{Finish}
use Rattle.theory.proofs.Cases.{by_lt}
use Rattle.jobs.specs.Places.{no_job}
use Rattle.jobs.specs.Turns.{no_finish, finish_at}
use Rattle.play.proofs.ThreeChanges.{Seen, Moves}

-- If each element of a list has a property with its place, and one more element has it with the next place, then each element of the list with that one at its
-- end has it.
each_more : {A : Type 0} (P : ℕ → A → Type 0) (d : A) (l : List A) (a : A) → ((i : ℕ) → i < length l → P i (get_or l i d)) → P (length l) a
    → (i : ℕ) → i < length (l ++ (a ∷ [])) → P i (get_or (l ++ (a ∷ [])) i d)
each_more P d l a each here i h =
    by_lt i (length l)
    (λ old. rw (get_or-append l (a ∷ []) d i old) (each i old))
    (λ new. let last : i ≡ length l = omega (arith, length-append l (a ∷ [])) in rw (last, get_or-append_seam l a [] d) here)

-- The next serial is the number of accepted jobs, and each accepted job's serial is its place among them.
abbrev pub Counted : Seen → Type 0
Counted s = (length s.accepted ≡ s.next) × ((i : ℕ) → i < length s.accepted → (get_or s.accepted i no_job).serial.0 ≡ i)

pub accepted_counted : Moves Counted
accepted_counted = record {
  start = λ t. (omega arith, λ i h. absurd (not-suc-le-zero h));
  quiet = λ s at sound more q. q;
  finish = λ s at sound h q. q;
  release = λ s j serial later q. (
    omega (arith, length-append s.accepted (j ∷ []), q.0),
    each_more (λ i k. k.serial.0 ≡ i) no_job s.accepted j q.1 (serial ∙ sym q.0),
  );
}

-- Each job finished later than those before it, and none finished after the clock.
pub record Rising (s : Seen) : Type 0 where
  pub by_now : (i : ℕ) → i < length s.finishes → (get_or s.finishes i no_finish).finish.0 ≤ s.clock
  pub rising : (i k : ℕ) → i < k → k < length s.finishes → (get_or s.finishes i no_finish).finish.0 < (get_or s.finishes k no_finish).finish.0

-- A list of finishes that rise still rises with a later finish at its end.
module _ (fs : List Finish) (f : Finish) (earlier : (i : ℕ) → i < length fs → (get_or fs i no_finish).finish.0 < f.finish.0)
    (rising : (i k : ℕ) → i < k → k < length fs → (get_or fs i no_finish).finish.0 < (get_or fs k no_finish).finish.0) where
  abbrev all : List Finish
  all = fs ++ (f ∷ [])

  rises_still : (i k : ℕ) → i < k → k < length all → (get_or all i no_finish).finish.0 < (get_or all k no_finish).finish.0
  rises_still i k h l =
      each_more (λ k g. (i : ℕ) → i < k → (get_or all i no_finish).finish.0 < g.finish.0) no_finish fs f
      (λ k l i h. rw (get_or-append fs (f ∷ []) no_finish i (omega arith)) (rising i k h l))
      (λ i h. rw (get_or-append fs (f ∷ []) no_finish i h) (earlier i h))
      k l i h

pub finishes_rising : Moves Rising
finishes_rising = record {
  start = λ t. record { by_now = λ i h. absurd (not-suc-le-zero h); rising = λ i k h l. absurd (not-suc-le-zero l) };
  quiet = λ s at sound more q. record { by_now = λ i h. omega (arith, q.by_now i h); rising = q.rising };
  finish = λ s at sound h q.
      let f = finish_at (s.clock + 1) (get_or s.pending at no_job) in
      record {
        by_now = each_more (λ i g. g.finish.0 ≤ s.clock + 1) no_finish s.finishes f (λ i l. omega (arith, q.by_now i l)) (omega arith);
        rising = rises_still s.finishes f (λ i l. omega (arith, q.by_now i l)) q.rising;
      };
  release = λ s j serial later q. record { by_now = q.by_now; rising = q.rising };
}
