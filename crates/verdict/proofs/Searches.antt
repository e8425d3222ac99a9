-- What the loops of the quick search keep: which lengths are known to fit, and which is known to fail. (docs/RULES.md, 5.4 to 5.9.)
use Rattle.std.specs.Prelude.{Option, Some, None, IsSome}
use Prim.Native.Nat.{ℕ, ◌+◌, ◌-◌, ◌*◌, ◌≤◌, ◌<◌}
use mathlib.Core.Path.{◌≡◌, refl, ap}
use native.Mathlib.Omega.{arith}
use native.Mathlib.Nat.{mul-le-mul_right}
use Rattle.theory.specs.Curves.{SmallestFailing, FitsUpTo}
use Rattle.theory.specs.Descent.{NeverFalls, raised, FitsBetween, LargestFrom, SmallestFrom, LeastSlack}
use Rattle.theory.specs.Parts.{InParts, part_and_line}
use Rattle.theory.specs.Classes.{SettledAbove, Walked}
use Rattle.theory.proofs.Cases.{by_lt}
use Rattle.theory.proofs.Descent.{descent}
use Rattle.theory.proofs.Classes.{class_fits, nothing_to_settle, settled_by_looks, settled_by_a_walk, none_found, best_is_smallest, walk_finds, walk_ends}
use Rattle.verdict.specs.HeldParts.{LooksSettle, SettledFrom, WalkFound}
use Rattle.verdict.specs.QuickVerdict.{SmallestOrNone}

-- ---- from the end of a stretch down

-- Every length above `at`, up to hi, fits.
abbrev pub FitsAbove : (f : ℕ → ℕ) (hi at : ℕ) → Type 0
FitsAbove f hi at = (L : ℕ) → at < L → L ≤ hi → f L ≤ L

-- Where `at` fits and the lengths above it fit, every length from the demand in `at` on fits.
pub passed_down : (f : ℕ → ℕ) (extra hi at v : ℕ) → NeverFalls f → v ≡ raised f extra at → v ≤ at → FitsAbove (raised f extra) hi at
    → FitsBetween (raised f extra) v hi
passed_down f extra hi at v never_falls is fits above L low high = by_lt at L
    (λ h. above L h high)
    (λ h. descent f extra at never_falls (omega (arith, is)) L (omega (arith, is)) h)

-- ---- from the start of a stretch up

-- Every length from lo on and below `low` fits.
abbrev pub FitsBelow : (f : ℕ → ℕ) (lo low : ℕ) → Type 0
FitsBelow f lo low = (L : ℕ) → lo ≤ L → L < low → f L ≤ L

-- Where the lengths below `low` fit and those from `low` to `high` fit, those below `high + 1` fit.
pub fits_further : {f : ℕ → ℕ} {lo low high : ℕ} → FitsBelow f lo low → FitsBetween f low high → FitsBelow f lo (high + 1)
fits_further {low = low} below fits L from to = by_lt L low (λ h. below L from h) (λ h. fits L h (omega arith))

-- The smallest that fails from `low` on is the smallest that fails from lo on, where the lengths between fit.
pub smallest_found : {f : ℕ → ℕ} {lo hi low found r : ℕ} → lo ≤ low → found ≤ hi → FitsBelow f lo low → SmallestFrom f low found r → SmallestFrom f lo hi r
smallest_found {low = low} from within below s = record {
  from_lo = omega (arith, s.from_lo);
  to_hi = omega (arith, s.to_hi);
  fails = s.fails;
  smaller_fit = λ M low_end small. by_lt M low (λ k. below M low_end k) (λ k. s.smaller_fit M k small);
}

-- ---- the least slack

-- The lengths above `top` have at least `slack` ticks to spare, and one of them has no more.
pub record SlackAbove (f : ℕ → ℕ) (lo hi top slack : ℕ) : Type 0 where
  pub to_spare : (L : ℕ) → top < L → L ≤ hi → f L + slack ≤ L
  pub tightest : ℕ
  pub from_lo : lo ≤ tightest
  pub to_hi : tightest ≤ hi
  pub no_more : f tightest + slack ≡ tightest

module _ {f : ℕ → ℕ} {lo hi : ℕ} where
  -- The last length alone.
  pub slack_at_end : lo ≤ hi → f hi ≤ hi → SlackAbove f lo hi (hi - 1) (hi - f hi)
  slack_at_end within fits = record {
    to_spare = λ L low high. (let e : L ≡ hi = omega arith in rw e (omega arith));
    tightest = hi;
    from_lo = within;
    to_hi = omega arith;
    no_more = omega arith;
  }

  -- The largest length with less to spare than all above it has the least slack so far.
  pub slack_lower : {top slack found : ℕ} → SlackAbove f lo hi top slack → top ≤ hi → LargestFrom (raised f slack) lo top found → f found ≤ found
      → SlackAbove f lo hi (found - 1) (found - f found)
  slack_lower {top} {slack} {found} so_far within largest fits = record {
    to_spare = λ L low high. by_lt found L
        (λ above. by_lt top L
        (λ far. omega (arith, so_far.to_spare L far high, largest.fails))
        (λ near. omega (arith, largest.larger_fit L above near, largest.fails)))
        (λ here. let e : L ≡ found = omega arith in rw e (omega arith));
    tightest = found;
    from_lo = largest.from_lo;
    to_hi = omega (arith, largest.to_hi);
    no_more = omega arith;
  }

  -- Where the lengths up to `top` have as much to spare, the slack is the least.
  pub slack_is_least : {top slack : ℕ} → SlackAbove f lo hi top slack → FitsBetween (raised f slack) lo top → LeastSlack f lo hi slack
  slack_is_least {top} so_far fits = record {
    to_spare = λ L low high. by_lt top L (λ far. so_far.to_spare L far high) (λ near. fits L low near);
    tightest = so_far.tightest;
    from_lo = so_far.from_lo;
    to_hi = so_far.to_hi;
    no_more = so_far.no_more;
  }

-- What is found for the curve that is raised by 0 is found for the curve itself.
pub not_raised : (f : ℕ → ℕ) (lo hi : ℕ) (r : Option ℕ) → SmallestOrNone (raised f 0) lo hi r → SmallestOrNone f lo hi r
not_raised f lo hi None fits = λ L from to. omega (arith, fits L from to)
not_raised f lo hi (Some r) it = record {
  from_lo = it.from_lo;
  to_hi = it.to_hi;
  fails = omega (arith, it.fails);
  smaller_fit = λ M from below. omega (arith, it.smaller_fit M from below);
}

-- A length that is found in the first part of a stretch is found in the whole stretch.
pub found_sooner : {f : ℕ → ℕ} {lo middle hi r : ℕ} → SmallestFrom f lo middle r → middle ≤ hi → SmallestFrom f lo hi r
found_sooner it within = record { from_lo = it.from_lo; to_hi = omega (arith, it.to_hi); fails = it.fails; smaller_fit = it.smaller_fit }

-- ---- a length that is known to be there

-- Where some length fails, one was found.
pub found_for_sure : (f : ℕ → ℕ) (lo hi : ℕ) (r : Option ℕ) → SmallestOrNone f lo hi r → (t : ℕ) → lo ≤ t → t ≤ hi → t < f t → IsSome r
found_for_sure f lo hi None fits t low high fails = absurd (omega (arith, fits t low high))
found_for_sure f lo hi (Some r) it t low high fails = refl

module _ {f : ℕ → ℕ} {done : ℕ} (fit : FitsUpTo f done) where
  -- The smallest that fails after the lengths that fit is the smallest of all.
  pub first_is_smallest : {last L : ℕ} → SmallestFrom f (done + 1) last L → SmallestFailing f L
  first_is_smallest s = record {
    some_length = omega (arith, s.from_lo);
    fails = s.fails;
    smaller_fit = λ M one below. by_lt done M (λ h. s.smaller_fit M (omega arith) below) (λ h. fit M one h);
  }

  -- Where none fails after the lengths that fit, all fit.
  pub all_fit : {last : ℕ} → FitsBetween f (done + 1) last → FitsUpTo f last
  all_fit rest L one high = by_lt done L (λ h. rest L (omega arith) high) (λ h. fit L one h)

  -- Where the lengths up to `near` fit as well, the smallest that fails after `near` is the smallest that fails after `done`.
  pub from_there_on : {near : ℕ} (last : ℕ) (r : Option ℕ) → FitsUpTo f near → SmallestOrNone f (near + 1) last r → SmallestOrNone f (done + 1) last r
  from_there_on {near} last None fits rest = λ L from to. by_lt near L (λ h. rest L (omega arith) to) (λ h. fits L (omega arith) h)
  from_there_on {near} last (Some r) fits it = record {
    from_lo = by_lt done r (λ h. omega arith) (λ h. absurd (omega (arith, fit r (omega (arith, it.from_lo)) h, it.fails)));
    to_hi = it.to_hi;
    fails = it.fails;
    smaller_fit = λ M from below. by_lt near M (λ h. it.smaller_fit M (omega arith) below) (λ h. fits M (omega arith) h);
  }

-- ---- classes of lengths

module _ {f : ℕ → ℕ} {P x at best : ℕ} (walked : Walked f P x at best) where
  -- A walk that comes to a failing length has found it.
  pub walk_stopped : at < best → at < f at → WalkFound f P x best at
  walk_stopped sooner fails = record {
    at_most = omega arith;
    smaller_fit = walk_ends f P x (at + P) at (walk_finds f P x at best walked (omega arith)) (omega arith);
    fails = λ h. (omega (arith, walked.here), fails);
  }

  -- A walk that comes to `best` has found no other.
  pub walk_ended : best ≤ at → WalkFound f P x best best
  walk_ended past = record { at_most = omega arith; smaller_fit = walk_ends f P x at best walked past; fails = λ h. absurd (omega arith) }

-- A look at any length of a class settles the later ones, where f is in parts.
pub looks_settle : {f part : ℕ → ℕ} {start P H growth slope lift : ℕ} (K : ℕ) → InParts f part start P H growth slope lift → 1 ≤ H → growth ≤ H + K
    → LooksSettle f (raised (part_and_line part H slope lift) K) start P H
looks_settle {f} {part} {start} {P} {H} {growth} {slope} {lift} K parts some grows c k from looked turns =
    class_fits f part start P H growth slope lift K c k parts some grows from looked turns

-- The length `at` is in the class of x.
pub record InTurn (P x at : ℕ) : Type 0 where
  pub turn : ℕ
  pub here : at ≡ x + turn * P

module _ {f : ℕ → ℕ} {P x best end found : ℕ} (walked : WalkFound f P x end found) where
  -- A failing length before `end` is before `best`.
  pub found_before_end : found < end → end ≤ best → WalkFound f P x best found
  found_before_end sooner within =
      record { at_most = omega arith; smaller_fit = walked.smaller_fit; fails = λ h. walked.fails sooner }

  -- Where none fails before `end`, and a look at `end` settles the later lengths of the class, none fails before `best`.
  pub none_before_best : (u : ℕ → ℕ) (start H : ℕ) → LooksSettle f u start P H → 1 ≤ P → start < x → best ≤ start + H + 1 → SettledFrom u P x best end
      → end ≤ found → WalkFound f P x best best
  none_before_best u start H settles step above within settled none = record {
    at_most = omega arith;
    smaller_fit = λ k sooner. by_lt (x + k * P) found
        (λ early. walked.smaller_fit k early)
        (λ late.
        let before : end < best = omega (arith, walked.at_most) in
        let n = settled.turn in
        let here : end ≡ x + n * P = settled.here before in
        let reached : n ≤ k = by_lt k n (λ less. absurd (let next : k + 1 ≤ n = omega arith in let more :
        (k + 1) * P ≤ n * P = mul-le-mul_right P next in omega arith)) (λ h. h) in
        let whole : k ≡ n + (k - n) = omega arith in
        let turns : k * P ≡ (n + (k - n)) * P = ap (λ (m : ℕ). m * P) whole in
        rest_fits (k - n) k n here turns (settled.looked before) (omega arith));
    fails = λ h. absurd (omega arith);
  }
    where
      rest_fits : (j k n : ℕ) → end ≡ x + n * P → k * P ≡ (n + j) * P → u end ≤ end → x + k * P < best → f (x + k * P) ≤ x + k * P
      rest_fits j k n here turns looked sooner =
          let there : x + k * P ≡ end + j * P = omega arith in
          rw there (settles end j (omega arith) looked (omega arith))

-- What a search by classes keeps: the classes above `top` are settled, and `best` fails, or none was found and it is past the period.
pub record ClassesDone (f : ℕ → ℕ) (start P H top best : ℕ) : Type 0 where
  pub settled : SettledAbove f start P H top best
  pub at_most : best ≤ start + H + 1
  pub found : best ≤ start + H → (start < best) × (best < f best)

module _ {f : ℕ → ℕ} {start P H : ℕ} where
  -- At first no class is settled.
  pub no_class_done : 1 ≤ P → ClassesDone f start P H (start + P) (start + H + 1)
  no_class_done some = record {
    settled = nothing_to_settle f start P H (start + H + 1) some;
    at_most = omega arith;
    found = λ h. absurd (omega arith);
  }

  module _ {part : ℕ → ℕ} {growth slope lift top best : ℕ} (K : ℕ) (parts : InParts f part start P H growth slope lift) (some : 1 ≤ H) (step : 1 ≤ P)
      (grows : growth ≤ H + K) (done : ClassesDone f start P H top best) where
    -- Where no look fails, all classes are settled.
    pub all_classes_done : FitsBetween (raised (part_and_line part H slope lift) K) (start + 1) top → ClassesDone f start P H start best
    all_classes_done fits = record {
      settled = settled_by_looks f part start P H growth slope lift K start top best parts some step grows (λ c above x to. fits c (omega arith) to)
          done.settled;
      at_most = done.at_most;
      found = done.found;
    }

    -- Where x is the largest at which a look fails, the classes above x are settled by looks, and that of x by a walk.
    pub class_done : {x sooner : ℕ} → LargestFrom (raised (part_and_line part H slope lift) K) (start + 1) top x → WalkFound f P x best sooner
        → ClassesDone f start P H (x - 1) sooner
    class_done {x} {sooner} largest walked = record {
      settled = settled_by_a_walk f start P H x best sooner step walked.at_most walked.smaller_fit
          (settled_by_looks f part start P H growth slope lift K x top best parts some step grows (λ c above x to. largest.larger_fit c x to)
          done.settled);
      at_most = omega (arith, walked.at_most, done.at_most);
      found = λ h. by_lt sooner best
          (λ less. let w = walked.fails less in (omega (arith, w.0, largest.from_lo), w.1))
          (λ same. let e : sooner ≡ best = omega (arith, walked.at_most) in rw e (done.found (omega arith)));
    }

  module _ {top best : ℕ} (done : ClassesDone f start P H top best) (all : top ≤ start) where
    -- All classes are settled.
    all_settled : SettledAbove f start P H start best
    all_settled L above at_most sooner inside = done.settled L above at_most sooner (omega arith)

    -- Where `best` is past the period, no length of it fails.
    pub no_class_fails : start + H < best → FitsBetween f (start + 1) (start + H)
    no_class_fails past = none_found f start P H best all_settled past

    -- Otherwise `best` is the smallest that fails.
    pub class_fails : best ≤ start + H → SmallestFrom f (start + 1) (start + H) best
    class_fails within = best_is_smallest f start P H best all_settled (done.found within).0 within (done.found within).1
