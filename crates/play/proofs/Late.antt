-- The laws of the number of jobs late are proved. (docs/RULES.md, section 8.14.)
use mathlib.Core.Path.{◌≡◌, refl}
use mathlib.Core.Logic.{⊎_elim}
use mathlib.Core.List.Memᴰ
use mathlib.Core.List.{List, [], ◌∷◌}
use native.Mathlib.Omega.{arith}
use borrow.Author.Tests.{lt-ltb, le-ltb}
use Rattle.kinds.specs.declared.Finish.{Finish}
use Rattle.theory.proofs.Cases.{by_lt}
use Rattle.play.specs.Late as laws
use Rattle.play.specs.Late.{late_finishes, AllInTime}

pub one_late : laws.OneLate
unfolding late_finishes
one_late f h = rw (lt-ltb f.due.0 f.finish.0 h)

pub one_in_time : laws.OneInTime
unfolding late_finishes
one_in_time f h = rw (le-ltb f.due.0 f.finish.0 h)

pub late_together : laws.LateTogether
unfolding late_finishes
late_together [] gs = omega arith
late_together (f ∷ fs) gs = omega (arith, late_together fs gs)

-- Where the number of jobs late is 0, every job is in time.
all_in_time : (fs : List Finish) → late_finishes fs ≡ 0 → AllInTime fs
unfolding late_finishes
all_in_time [] none f m = absurd (Memᴰ.not-nil m)
all_in_time (g ∷ fs) none f m =
    by_lt g.due.0 g.finish.0
    (λ late. absurd (omega (arith, rw (lt-ltb g.due.0 g.finish.0 late) at none)))
    (λ in_time. ⊎_elim (λ (e : f ≡ g). rw e in_time) (λ n. all_in_time fs (omega arith) f n) (Memᴰ.cases_cons m))

-- Where every job is in time, the number of jobs late is 0.
none_late : (fs : List Finish) → AllInTime fs → late_finishes fs ≡ 0
unfolding late_finishes
none_late [] all = refl
none_late (f ∷ fs) all =
    let rest = none_late fs (λ g m. all g (Memᴰ.tail m)) in
    rw (le-ltb f.due.0 f.finish.0 (all f (Memᴰ.head refl)), rest)

pub none_late_means : laws.NoneLateMeans
none_late_means fs = (all_in_time fs, none_late fs)
