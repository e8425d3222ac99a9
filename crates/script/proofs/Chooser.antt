-- Each answer of the chooser is stated as a law, and a record that it names stands at the start of its script. (docs/RULES.md, section 7.)
use Rattle.std.specs.Prelude.{Option, Some, None, Result, Ok, Err, MatchResult, IsErrAnd}
use Rattle.script.specs.declared.RefusedIn.{RefusedIn}
use Rattle.kinds.specs.declared.RefusedAt.{RefusedAt}
use Prim.Native.Nat.{ℕ, ◌+◌, ◌≤◌, ◌<◌}
use native.Mathlib.Omega.{arith}
use mathlib.Core.Path.{◌≡◌, refl, sym, ap, ◌∙◌}
use mathlib.Core.Bool.{Bool, true, false, cond}
use mathlib.Core.List.{List}
use lib.Dec.{leb}
use lib.ListN.{length, take}
use lib.Seq.{take_at, length-take-le}
use borrow.Author.Tests.{le-leb, lt-leb}
use Rattle.kinds.specs.Numbering.{max_time}
use Rattle.kinds.proofs.Apart.{impossible}
use Rattle.numbers.specs.SpelledNumbers.{Bytes}
use Rattle.script.specs.declared.RecordAt.{RecordAt}
use Rattle.script.specs.declared.Which.{Which}
use Rattle.script.specs.declared.Which.TheVariants as which
use Rattle.script.specs.declared.Next.{Next}
use Rattle.script.specs.Records.{record_at}
use Rattle.script.specs.Chooser.{too_late, next_of, earlier_of, comes_next, chosen, part_of}
use Rattle.script.specs.SpelledScripts.{spelled_record}
use Rattle.script.specs.TwoScripts.{script_named, FirstOfItsScript}
use Rattle.script.proofs.Records.{record_stands}

-- ---- the earlier of two records

module _ (a b : RecordAt) (time₁ time₂ : ℕ) where
  -- The first script's record comes next where its time is earlier or equal.
  pub first_earlier : time₁ + a.release.gap ≤ time₂ + b.release.gap → earlier_of a b time₁ time₂ ≡ next_of which.First a.next
  first_earlier h = rw (le-leb _ _ h)

  -- The second script's record comes next where its time is earlier.
  pub second_earlier : time₂ + b.release.gap < time₁ + a.release.gap → earlier_of a b time₁ time₂ ≡ next_of which.Second b.next
  second_earlier h = rw (lt-leb _ _ h)

-- ---- the choice

module _ (s₁ s₂ : List ℕ) (time₁ time₂ : ℕ) where
  -- A time above 2^40 that the first script has reached is refused.
  pub first_too_late : max_time < time₁ → chosen s₁ s₂ time₁ time₂ ≡ too_late which.First
  unfolding chosen
  first_too_late h = rw (lt-leb time₁ max_time h)

  module _ (first_within : time₁ ≤ max_time) where
    -- A time above 2^40 that the second script has reached is refused, where the first script's is at most 2^40.
    pub second_too_late : max_time < time₂ → chosen s₁ s₂ time₁ time₂ ≡ too_late which.Second
    unfolding chosen
    second_too_late h = rw (le-leb time₁ max_time first_within, lt-leb time₂ max_time h)

    -- Where both times are at most 2^40, what is read at the start of each script decides.
    pub by_records : time₂ ≤ max_time → {one other : Result (Option RecordAt) RefusedAt} → record_at s₁ 0 ≡ one → record_at s₂ 0 ≡ other
        → chosen s₁ s₂ time₁ time₂ ≡ comes_next one other time₁ time₂
    unfolding chosen
    by_records h p q = rw (le-leb time₁ max_time first_within, le-leb time₂ max_time h, p, q)

-- ---- what was read, once its refusal says in which script it is

module _ (v : Result (Option RecordAt) RefusedAt) (told : Result (Option RecordAt) RefusedIn) (post : RefusedAt → RefusedIn → Type 0)
    (m : MatchResult v (λ found. told ≡ Ok found) (λ r. IsErrAnd told (post r))) where
  -- What is found is what was read.
  pub read_as_found : {found : Option RecordAt} → told ≡ Ok found → v ≡ Ok found
  read_as_found = by_cases v told m
    where
      by_cases : (v : Result (Option RecordAt) RefusedAt) (told : Result (Option RecordAt) RefusedIn) {found : Option RecordAt}
          → MatchResult v (λ f. told ≡ Ok f) (λ r. IsErrAnd told (post r)) → told ≡ Ok found → v ≡ Ok found
      by_cases (Ok f) told m e = cc
      by_cases (Err r) (Ok f) m e = absurd m
      by_cases (Err r) (Err q) m e = impossible cc

  -- A refusal comes from the refusal that was read.
  pub refused_as_read : {w : Which} → ((r : RefusedAt) (q : RefusedIn) → post r q → q ≡ record { script = w; at = r }) → {q : RefusedIn} → told ≡ Err q
      → (r : RefusedAt) × (v ≡ Err r) × (q ≡ record { script = w; at = r })
  refused_as_read {w = w} says = by_cases v told m
    where
      by_cases : (v : Result (Option RecordAt) RefusedAt) (told : Result (Option RecordAt) RefusedIn) {q : RefusedIn}
          → MatchResult v (λ f. told ≡ Ok f) (λ r. IsErrAnd told (post r)) → told ≡ Err q → (r : RefusedAt) × (v ≡ Err r) × (q ≡ record { script = w; at = r })
      by_cases (Ok f) told m e = impossible cc
      by_cases (Err r) (Ok f) m e = absurd m
      by_cases (Err r) (Err p) {q} m e = let same : q ≡ p = cc in (r, refl, same ∙ says r p m)

-- ---- a record that comes next

-- An answer that names a record is not a refusal of a time.
not_too_late : (t u : Bool) (then : Result (Option Next) RefusedIn) (n : Next)
    → cond t (cond u then (too_late which.Second)) (too_late which.First) ≡ Ok (Some n)
    → then ≡ Ok (Some n)
not_too_late true true then n e = e
not_too_late true false then n e = impossible cc
not_too_late false u then n e = impossible cc

-- The part for a record that comes next is the beginning of the script that is named.
part_named : (w : Which) (k : ℕ) (s₁ s₂ : List ℕ) → part_of (next_of w k) s₁ s₂ ≡ take k (script_named w s₁ s₂)
part_named which.First k s₁ s₂ = refl
part_named which.Second k s₁ s₂ = refl

module _ (s₁ s₂ : List ℕ) (b₁ : Bytes s₁) (b₂ : Bytes s₂) where
  -- The script that is named consists of bytes, since both scripts do.
  bytes_named : (w : Which) → Bytes (script_named w s₁ s₂)
  bytes_named which.First = b₁
  bytes_named which.Second = b₂

  -- A record that is read at the start of the named script is the first of that script.
  first_of_its_script : (w : Which) (found : RecordAt) → record_at (script_named w s₁ s₂) 0 ≡ Ok (Some found)
      → FirstOfItsScript s₁ s₂ (record { script = w; length = found.next }) found
  first_of_its_script w found e =
      let here = record_stands (script_named w s₁ s₂) 0 found (bytes_named w) e in
      record {
        read_there = e;
        its_length = refl;
        within = here.within;
        spelled =
            part_named w found.next s₁ s₂
            ∙ ap (take found.next) here.stands_here
            ∙ take_at (spelled_record found.release) _ found.next (omega (arith, here.ends));
      }

  -- Where one script's record is named, it is the first of its script.
  named : (w : Which) (found : RecordAt) (n : Next) → record_at (script_named w s₁ s₂) 0 ≡ Ok (Some found) → next_of w found.next ≡ Ok (Some n)
      → (first : RecordAt) × FirstOfItsScript s₁ s₂ n first
  named w found n e q =
      let same : record { script = w; length = found.next } ≡ n = cc in
      (found, rw (← same) (first_of_its_script w found e))

  -- Where the earlier of two records is named, it is the first of its script.
  named_of_two : (t : Bool) (a b : RecordAt) (n : Next) → record_at s₁ 0 ≡ Ok (Some a) → record_at s₂ 0 ≡ Ok (Some b)
      → cond t (next_of which.First a.next) (next_of which.Second b.next) ≡ Ok (Some n) → (first : RecordAt) × FirstOfItsScript s₁ s₂ n first
  named_of_two true a b n p q e = named which.First a n p e
  named_of_two false a b n p q e = named which.Second b n q e

  -- A record that is named by what was read in both scripts is the first of its script.
  named_by_records : (one other : Result (Option RecordAt) RefusedAt) (time₁ time₂ : ℕ) (n : Next) → record_at s₁ 0 ≡ one → record_at s₂ 0 ≡ other
      → comes_next one other time₁ time₂ ≡ Ok (Some n) → (first : RecordAt) × FirstOfItsScript s₁ s₂ n first
  named_by_records (Err r) (Err other) time₁ time₂ n p q e = impossible cc
  named_by_records (Err r) (Ok (Some b)) time₁ time₂ n p q e = impossible cc
  named_by_records (Err r) (Ok None) time₁ time₂ n p q e = impossible cc
  named_by_records (Ok (Some a)) (Err r) time₁ time₂ n p q e = impossible cc
  named_by_records (Ok (Some a)) (Ok (Some b)) time₁ time₂ n p q e = named_of_two (leb (time₁ + a.release.gap) (time₂ + b.release.gap)) a b n p q e
  named_by_records (Ok (Some a)) (Ok None) time₁ time₂ n p q e = named which.First a n p e
  named_by_records (Ok None) (Err r) time₁ time₂ n p q e = impossible cc
  named_by_records (Ok None) (Ok (Some b)) time₁ time₂ n p q e = named which.Second b n q e
  named_by_records (Ok None) (Ok None) time₁ time₂ n p q e = impossible cc

  -- A record that the chooser names is the first of its script.
  pub next_is_first : (time₁ time₂ : ℕ) (n : Next) → chosen s₁ s₂ time₁ time₂ ≡ Ok (Some n) → (first : RecordAt) × FirstOfItsScript s₁ s₂ n first
  unfolding chosen
  next_is_first time₁ time₂ n e = named_by_records _ _ time₁ time₂ n refl refl (not_too_late (leb time₁ max_time) (leb time₂ max_time) _ n e)

  -- The record that comes next ends within its script, so that its part has as many bytes as the record.
  pub part_has_its_length : (time₁ time₂ : ℕ) {w : Which} {n : Next} → chosen s₁ s₂ time₁ time₂ ≡ Ok (Some n) → n.script ≡ w
      → n.length ≡ length (take n.length (script_named w s₁ s₂))
  part_has_its_length time₁ time₂ {n = n} e is =
      sym (length-take-le _ _ (rw is at (next_is_first time₁ time₂ n e).1.within))
