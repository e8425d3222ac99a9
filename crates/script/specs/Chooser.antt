-- The chooser: which of two scripts has the record that comes next. (docs/RULES.md, section 7.)
use Rattle.script.specs.declared.RefusedIn.{RefusedIn}
use Rattle.script.specs.declared.Next.{Next}
use Rattle.std.specs.Prelude.{ℕ, ◌+◌, cond, List, leb, take, Option, Some, None, Result, Ok, Err}
use Rattle.kinds.specs.Numbering.{max_time}
use Rattle.kinds.specs.declared.RefusedAt.{RefusedAt}
use Rattle.kinds.specs.declared.Refusal.TheVariants.{TimeTooLate}
use Rattle.script.specs.declared.RecordAt.{RecordAt}
use Rattle.script.specs.declared.Which.{Which}
use Rattle.script.specs.declared.Which.TheVariants as which
use Rattle.script.specs.Records.{record_at}

-- A refusal of the chooser says which script it is about. (7.11, 7.12)
abbrev pub refused_in : Which → RefusedAt → Result (Option Next) RefusedIn
refused_in script at = Err (record { script = script; at = at })

-- A time reached above 2^40 is refusal 10, with which script it is and place 0. (7.11)
abbrev pub too_late : Which → Result (Option Next) RefusedIn
too_late script = refused_in script (record { refusal = TimeTooLate; place = 0 })

-- The record that comes next is the first of this script, and its spelling has this many bytes. (7.8)
abbrev pub next_of : Which → (length : ℕ) → Result (Option Next) RefusedIn
next_of script length = Ok (Some (record { script = script; length = length }))

-- Of two records the one with the earlier time comes next, and at equal times the first script's. A record's time is the time that its script has reached plus
-- its gap. A time above 2^40 is compared like any other, and is not refused. (7.9, 7.13)
abbrev pub earlier_of : RecordAt → RecordAt → (time₁ time₂ : ℕ) → Result (Option Next) RefusedIn
earlier_of a b time₁ time₂ =
    cond (leb (time₁ + a.release.gap) (time₂ + b.release.gap)) (next_of which.First a.next) (next_of which.Second b.next)

-- The choice by what is read at the start of each script. A record that can't be read is refused, the first script's before the second's. When one script has
-- ended, the other's record comes next. When both have ended, none does. (7.9, 7.10, 7.12)
abbrev pub comes_next : Result (Option RecordAt) RefusedAt → Result (Option RecordAt) RefusedAt → (time₁ time₂ : ℕ) → Result (Option Next) RefusedIn
comes_next (Err r) other time₁ time₂ = refused_in which.First r
comes_next (Ok one) (Err r) time₁ time₂ = refused_in which.Second r
comes_next (Ok (Some a)) (Ok (Some b)) time₁ time₂ = earlier_of a b time₁ time₂
comes_next (Ok (Some a)) (Ok None) time₁ time₂ = next_of which.First a.next
comes_next (Ok None) (Ok (Some b)) time₁ time₂ = next_of which.Second b.next
comes_next (Ok None) (Ok None) time₁ time₂ = Ok None

-- The chooser's answer. The times reached are tested first, the first script's before the second's, and then the records at the start of each script decide.
-- The places in its refusals count from the start of the part of a script that was lent. (7.8 to 7.13, 7.15)
unfoldable pub chosen : (s₁ s₂ : List ℕ) (time₁ time₂ : ℕ) → Result (Option Next) RefusedIn
chosen s₁ s₂ time₁ time₂ =
    cond (leb time₁ max_time)
    (cond (leb time₂ max_time) (comes_next (record_at s₁ 0) (record_at s₂ 0) time₁ time₂) (too_late which.Second))
    (too_late which.First)

-- The bytes of the record that comes next, as a part of one script or the other. When both scripts have ended, and with a refusal, it is an empty part of the
-- first script. (7.8, 7.10, 7.14)
abbrev pub part_of : Result (Option Next) RefusedIn → (s₁ s₂ : List ℕ) → List ℕ
part_of (Ok (Some n)) s₁ s₂ = beginning n.script
  where
    beginning : Which → List ℕ
    beginning which.First = take n.length s₁
    beginning which.Second = take n.length s₂
part_of (Ok None) s₁ s₂ = take 0 s₁
part_of (Err r) s₁ s₂ = take 0 s₁

-- Where the part with the next record starts in memory, as a block and an offset in it. It is the start of the script that the record belongs to. When both
-- scripts have ended, and with a refusal, it is the start of the first script. (7.8, 7.10, 7.14)
abbrev pub part_start : Result (Option Next) RefusedIn → (start₁ start₂ : ℕ × ℕ) → ℕ × ℕ
part_start (Ok (Some n)) start₁ start₂ = begins n.script
  where
    begins : Which → ℕ × ℕ
    begins which.First = start₁
    begins which.Second = start₂
part_start (Ok None) start₁ start₂ = start₁
part_start (Err r) start₁ start₂ = start₁
