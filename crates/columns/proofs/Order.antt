-- Which job is chosen, by lists of due times and serials. (docs/RULES.md, 6.11.)
use Prim.Native.Nat.{ℕ, suc}
use mathlib.Core.Path.{◌≡◌, refl}
use mathlib.Core.List.{List, [], ◌∷◌}
use Rattle.jobs.specs.declared.Job.{Job}
use Rattle.jobs.specs.Choice.{goes_before, first_from, first_place}
use Rattle.kinds.proofs.Apart.{impossible}
use Rattle.columns.specs.Columns.{serials_of, dues_of}

-- ---- jobs with the same due times and serials have the same choice

-- Jobs with the same due times and serials go before each other in the same way.
goes_alike : (a b c d : Job) → a.due.0 ≡ c.due.0 → a.serial.0 ≡ c.serial.0 → b.due.0 ≡ d.due.0 → b.serial.0 ≡ d.serial.0
    → goes_before a b ≡ goes_before c d
unfolding goes_before
goes_alike a b c d p q r s = rw (p, q, r, s)

-- The search ends at the same place for jobs with the same due times and serials.
search_alike : (i at : ℕ) (a b : Job) (js ks : List Job) → a.due.0 ≡ b.due.0 → a.serial.0 ≡ b.serial.0
    → dues_of js ≡ dues_of ks → serials_of js ≡ serials_of ks → first_from i at a js ≡ first_from i at b ks
search_alike i at a b [] [] p q e f = refl
search_alike i at a b [] (k ∷ ks) p q e f = impossible cc
search_alike i at a b (j ∷ js) [] p q e f = impossible cc
search_alike i at a b (j ∷ js) (k ∷ ks) p q e f =
    rw (goes_alike j a k b (cc) (cc) p q, search_alike (suc i) i j k js ks (cc) (cc) (cc) (cc), search_alike (suc i) at a b js ks p q (cc) (cc))

pub first_alike : (js ks : List Job) → dues_of js ≡ dues_of ks → serials_of js ≡ serials_of ks → first_place js ≡ first_place ks
first_alike [] [] e f = refl
first_alike [] (k ∷ ks) e f = impossible cc
first_alike (j ∷ js) [] e f = impossible cc
first_alike (j ∷ js) (k ∷ ks) e f = search_alike 1 0 j k js ks (cc) (cc) (cc) (cc)
