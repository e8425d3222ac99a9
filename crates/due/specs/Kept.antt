-- The kept due times of a row, and the due time of a release. The rule itself is the paper's recurrence, `due_time` of the theory; what is kept is as much of
-- a row's history as the rule looks at. (docs/RULES.md, section 4.)
use Rattle.std.specs.Prelude.{ℕ, ◌-◌, Bool, cond, ◌&&◌, List, [], ◌∷◌, ◌++◌, map, reverse, leb, length, take, drop, replicate, Result, Ok, Err}
use Rattle.std.specs.List.{list_all}
use Rattle.kinds.specs.Numbering.{max_time}
use Rattle.kinds.specs.declared.Tick.{Tick}
use Rattle.kinds.specs.declared.Refusal.{Refusal}
use Rattle.kinds.specs.declared.Refusal.TheVariants.{ValueOutOfRange, DueTooLate}
use Rattle.theory.specs.DueTimes.{due_time}
use Rattle.table.specs.declared.Row.{Row}
use Rattle.table.specs.Limits.{max_x}
use Rattle.table.specs.Rows.{row_in_range}
use Rattle.due.specs.declared.Kept.{Kept}
use Rattle.due.specs.declared.KeepStep.{KeepStep}

-- At most x due times are kept for a row, so there is room for as many as x may be. (3.2, 4.6)
abbrev pub max_kept : ℕ
max_kept = max_x

-- A row with no jobs yet keeps no due times. (6.3)
abbrev pub nothing_kept : Kept
nothing_kept = record { times = replicate max_kept (record { 0 = 0 }); count = 0 }

-- `no_kept` is the default for a row number that is not in use.
abbrev pub no_kept : Kept
no_kept = record { times = []; count = 0 }

-- The kept due times are the first `count`, oldest first. (4.6)
abbrev pub kept_times : Kept → List Tick
kept_times k = take k.count k.times

-- The rule for due times takes the kept ones as numbers, newest first. (4.6)
abbrev pub earlier : Kept → List ℕ
earlier k = reverse (map (λ (t : Tick). t.0) (kept_times k))

-- A due time of at most 2^40 is accepted, and one above it is refusal 9. (4.7)
abbrev pub not_too_late : ℕ → Result Tick Refusal
not_too_late t = cond (leb t max_time) (Ok (record { 0 = t })) (Err DueTooLate)

-- This is the due time of a row's next job, released at t. It goes by the kept due times alone: whether those jobs have finished, and the cost, play no part. A
-- row out of range is refusal 3. (4.2, 4.3, 4.5, 4.8)
unfoldable pub due_of : Kept → Row → (t cost : ℕ) → Result Tick Refusal
due_of k r t cost = cond (row_in_range r) (not_too_late (due_time r.x r.y r.d (earlier k) t)) (Err ValueOutOfRange)

-- `last_ones n` are the last n elements of a list.
abbrev pub last_ones : {A : Type 0} → (n : ℕ) → List A → List A
last_ones n l = drop (length l - n) l

-- `kept_as` puts a list of due times into the first places. The later places stay as they were.
abbrev pub kept_as : Kept → List Tick → Kept
kept_as k l = record { times = l ++ drop (length l) k.times; count = length l }

-- After one more due time, the newest x are kept. For a row out of range nothing changes. (4.6, 10.7)
unfoldable pub kept_with : Kept → Row → Tick → Kept
kept_with k r t = cond (row_in_range r) (kept_as k (last_ones r.x (kept_times k ++ (t ∷ [])))) k

-- A due time is kept for a row in range, and any other row is refusal 3. (10.7)
abbrev pub keep_answer : Row → Result (Unit {0}) Refusal
keep_answer r = cond (row_in_range r) (Ok tt) (Err ValueOutOfRange)

-- Keeping one more due time gives what is kept afterwards, and the answer. (4.6, 10.7)
abbrev pub keep_step : Kept → Row → Tick → KeepStep
keep_step k r t = record { kept = kept_with k r t; answer = keep_answer r }

-- `none_too_late` tests that no due time of a list is above 2^40. (4.7)
abbrev pub none_too_late : List Tick → Bool
none_too_late = list_all (λ (t : Tick). leb t.0 max_time)

-- What is kept for a row is sound if at most x due times are counted, and none of these is above 2^40. (6.24)
unfoldable pub kept_sound : Kept → Row → Bool
kept_sound k r = leb k.count r.x && none_too_late (kept_times k)
