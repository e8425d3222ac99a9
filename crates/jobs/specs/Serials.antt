-- The test that no two pending jobs have the same serial, and the place of the job with a serial. (docs/RULES.md, 6.22 and 6.27.)
use Rattle.std.specs.Prelude.{ℕ, Bool, true, not, ◌&&◌, List, [], ◌∷◌, eqb, ltb, Option}
use Rattle.std.specs.List.{list_all, position_from}
use Rattle.jobs.specs.declared.Job.{Job}

-- `has_not` tests that no job of the list has the serial s. (6.22)
abbrev pub has_not : (s : ℕ) → List Job → Bool
has_not s js = list_all (λ j. not (eqb j.serial.0 s)) js

-- `distinct_serials` tests that no two jobs have the same serial. (6.22)
abbrev pub distinct_serials : List Job → Bool
distinct_serials [] = true
distinct_serials (j ∷ js) = has_not j.serial.0 js && distinct_serials js

-- `rising_above` tests that the first serial is above s, and each later one above the one before it.
abbrev pub rising_above : (s : ℕ) → List Job → Bool
rising_above s [] = true
rising_above s (j ∷ js) = ltb s j.serial.0 && rising_above j.serial.0 js

-- `rising_serials` tests that each serial is above the one before it. Serials that rise are distinct. (6.22)
abbrev pub rising_serials : List Job → Bool
rising_serials [] = true
rising_serials (j ∷ js) = rising_above j.serial.0 js

-- `place_from` is the place of the first job that has the serial s, where the list holds the jobs from the place i on, or nobody. (6.27)
abbrev pub place_from : (i s : ℕ) → List Job → Option ℕ
place_from i s js = position_from (λ j. eqb j.serial.0 s) i js

-- `place_of` is the place of the pending job that has the serial s, or nobody. (6.27)
abbrev pub place_of : (s : ℕ) → List Job → Option ℕ
place_of s js = place_from 0 s js
