-- The search for the job that goes first, one job at a time, and what it finds.
use Rattle.std.specs.Prelude.{Some, None}
use Prim.Native.Nat.{ℕ, ◌+◌, ◌≤◌, ◌<◌}
use mathlib.Core.Path.{◌≡◌, refl, sym, ap}
use mathlib.Core.List.{List, [], ◌∷◌}
use mathlib.Core.Bool.{Bool, true, false, cond}
use native.Mathlib.Omega.{arith}
use native.Mathlib.Numerals.{add-one}
use lib.ListN.{length, drop, get_or, drop_of_length-le}
use lib.Seq.{drop-cons}
use Rattle.kinds.proofs.Apart.{impossible}
use Rattle.jobs.specs.declared.Job.{Job}
use Rattle.jobs.specs.declared.FirstJob.{FirstJob}
use Rattle.jobs.specs.Places.{no_job}
use Rattle.jobs.specs.OneLook.{first_found}
use Rattle.jobs.specs.Choice.{goes_before, first_from, first_place}

-- The next job becomes the best so far if it goes before the one that was.
pub first_next : (js : List Job) (i at : ℕ) (best d : Job) → i < length js → (b : Bool) → goes_before (get_or js i d) best ≡ b
    → first_from i at best (drop i js) ≡ first_from (i + 1) (cond b i at) (cond b (get_or js i d) best) (drop (i + 1) js)
first_next js i at best d h true e = rw (drop-cons js i d h, e, add-one)
first_next js i at best d h false e = rw (drop-cons js i d h, e, add-one)

-- When no job is left to compare, the place found is that of the job that goes first.
pub first_end : (js : List Job) (i at : ℕ) (best : Job) → length js ≤ i → first_from i at best (drop i js) ≡ first_place js → at ≡ first_place js
first_end js i at best h e = rw (drop_of_length-le js h) at e

-- Where a job is pending, the one that goes first is found.
pub found_first : (js : List Job) → 1 ≤ length js → Some (record { place = first_place js; job = get_or js (first_place js) no_job }) ≡ first_found js
found_first [] h = absurd (omega arith)
found_first (j ∷ js) h = refl

-- Where nobody is found, no job is pending.
pub nobody_found : (js : List Job) → first_found js ≡ None → length js ≡ 0
nobody_found [] e = refl
nobody_found (j ∷ js) e = impossible cc

-- Where a job is found, it is the one that goes first, and a job is pending.
pub found_is_first : (js : List Job) (f : FirstJob) → first_found js ≡ Some f
    → (1 ≤ length js) × (f.place ≡ first_place js) × (f.job ≡ get_or js (first_place js) no_job)
found_is_first [] f e = impossible cc
found_is_first (j ∷ js) f e =
    let same : record { place = first_place (j ∷ js); job = get_or (j ∷ js) (first_place (j ∷ js)) no_job } ≡ f = cc in
    (omega arith, ap (λ (f : FirstJob). f.place) (sym same), ap (λ (f : FirstJob). f.job) (sym same))
