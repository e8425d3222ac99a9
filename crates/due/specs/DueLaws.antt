-- The laws of due times and of what is kept of them. (docs/RULES.md, section 4.)
use Rattle.std.specs.Prelude.{ℕ, ◌≤◌, ◌<◌, ◌≡◌, ◌↔◌, true, false, List, [], ◌∷◌}
use Rattle.kinds.specs.Numbering.{max_time, values, refused_with}
use Rattle.kinds.specs.declared.Tick.{Tick}
use Rattle.theory.specs.DueTimes.{due_time}
use Rattle.table.specs.declared.Row.{Row}
use Rattle.table.specs.Rows.{row_in_range}
use Rattle.due.specs.declared.Kept.{Kept}
use Rattle.due.specs.Kept.{nothing_kept, earlier, due_of, kept_with, keep_step, kept_sound}
use Rattle.due.specs.Answers.{due_says, keep_says}
use Rattle.due.specs.KeptTimes.{KeepsNewest, GivenDue, SoundKept}

-- ---- what is proved (proofs/NewestKept.antt)

-- A row with no jobs yet keeps no due times. (4.6, 6.3)
abbrev pub StartsEmpty : Type 0
StartsEmpty = (x : ℕ) → KeepsNewest nothing_kept x []

-- After one more due time, the newest x of the history that begins with it are kept. (4.6)
abbrev pub KeepsOnKeeping : Type 0
KeepsOnKeeping = (k : Kept) (r : Row) (history : List ℕ) (t : Tick) → row_in_range r ≡ true → KeepsNewest k r.x history
    → KeepsNewest (kept_with k r t) r.x (t.0 ∷ history)

-- Over what is kept, the rule gives the due time that the paper's rule gives over the row's whole history. That history has finished jobs too, so the due time
-- of job j − x goes on counting after that job has finished. (4.2, 4.3, 4.5)
abbrev pub DueIsThePapers : Type 0
DueIsThePapers = (k : Kept) (r : Row) (history : List ℕ) (t : ℕ) → row_in_range r ≡ true → KeepsNewest k r.x history
    → due_time r.x r.y r.d (earlier k) t ≡ due_time r.x r.y r.d history t

-- The stated cost plays no part in a row's due time. (4.8)
abbrev pub CostPlaysNoPart : Type 0
CostPlaysNoPart = (k : Kept) (r : Row) (t cost other : ℕ) → due_of k r t cost ≡ due_of k r t other

-- ---- when each answer is given (proofs/DueAnswers.antt)

-- The answer says the time v exactly when v is the due time by the rule, for a row in range, and at most 2^40. (4.2, 4.3, 4.7)
abbrev pub GivenMeans : Type 0
GivenMeans = (k : Kept) (r : Row) (t cost v : ℕ) → (due_says (due_of k r t cost) ≡ values (v ∷ [])) ↔ GivenDue k r t v

-- The answer says 9 exactly when the row is in range and the due time by the rule is above 2^40. (4.7)
abbrev pub TooLateMeans : Type 0
TooLateMeans = (k : Kept) (r : Row) (t cost : ℕ)
    → (due_says (due_of k r t cost) ≡ refused_with 9 0) ↔ ((row_in_range r ≡ true) × (max_time < due_time r.x r.y r.d (earlier k) t))

-- The answer says 3 exactly when the row is out of range. (3.2, 10.7)
abbrev pub OutOfRangeMeans : Type 0
OutOfRangeMeans = (k : Kept) (r : Row) (t cost : ℕ) → (due_says (due_of k r t cost) ≡ refused_with 3 0) ↔ (row_in_range r ≡ false)

-- A due time is kept exactly when the row is in range. (10.7)
abbrev pub KeptMeans : Type 0
KeptMeans = (k : Kept) (r : Row) (t : Tick) → (keep_says (keep_step k r t).answer ≡ values []) ↔ (row_in_range r ≡ true)

-- Keeping a due time says 3 exactly when the row is out of range. (3.2, 10.7)
abbrev pub NotKeptMeans : Type 0
NotKeptMeans = (k : Kept) (r : Row) (t : Tick) → (keep_says (keep_step k r t).answer ≡ refused_with 3 0) ↔ (row_in_range r ≡ false)

-- If keeping a due time says 3, what is kept is unchanged. (10.7)
abbrev pub NotKeptStays : Type 0
NotKeptStays = (k : Kept) (r : Row) (t : Tick) → keep_says (keep_step k r t).answer ≡ refused_with 3 0 → (keep_step k r t).kept ≡ k

-- ---- whether what is kept for a row is sound (proofs/NewestKept.antt)

-- The test `kept_sound` passes exactly when at most x due times are counted and each counted one is at most 2^40. (6.24)
abbrev pub KeptSoundMeans : Type 0
KeptSoundMeans = (k : Kept) (r : Row) → (kept_sound k r ≡ true) ↔ SoundKept k r.x

-- For a row with no jobs yet, what is kept is sound, whatever the row's values are. (6.24, 6.25)
abbrev pub EmptyIsSound : Type 0
EmptyIsSound = (r : Row) → kept_sound nothing_kept r ≡ true

-- After one more due time of at most 2^40, what is kept is still sound. (6.24, 6.25)
abbrev pub StaysSound : Type 0
StaysSound = (k : Kept) (r : Row) (t : Tick) → row_in_range r ≡ true → t.0 ≤ max_time
    → kept_sound k r ≡ true → kept_sound (kept_with k r t) r ≡ true
