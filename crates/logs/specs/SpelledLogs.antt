-- How a log is spelled, how its records are read, and what it means that a log holds the records of some jobs. (docs/RULES.md, section 8.)
use Rattle.kinds.specs.declared.Refusal.{Refusal}
use Rattle.kinds.specs.declared.RefusedAt.{RefusedAt}
use Rattle.std.specs.Prelude.{ℕ, ◌+◌, ◌-◌, ◌≤◌, ◌≡◌, true, length, take, drop, Result, Ok, Err}
use Rattle.std.proofs.Math.Option.{Option, none, some}
use mathlib.Core.List.{List, [], ◌∷◌, ◌++◌, flatten, map, Memᴰ}
use Rattle.kinds.specs.declared.Finish.{Finish}
use Rattle.numbers.specs.declared.Number.{Number}
use Rattle.numbers.specs.Reading.{read_at}
use Rattle.logs.specs.Log.{values_of, spelled_finish, all_in_range, written_record, rest_after}

-- The spelling of a log: its records' spellings, one after another. (8.8)
abbrev pub spelled_log : List Finish → List ℕ
spelled_log fs = flatten (map spelled_finish fs)

-- Every number of every record is at most 2^42 - 1, so that it has a spelling. (2.4)
abbrev pub EachInRange : List Finish → Type 0
EachInRange fs = (f : Finish) → Memᴰ f fs → all_in_range (values_of f) ≡ true

-- A record that was read from a log, and the place right after it.
pub record FinishAt : Type 0 where
  pub finish : Finish
  pub next : ℕ

-- A number that was read goes on to `k`. Where a number can't be read there is no record.
abbrev pub after_log_number : Result Number RefusedAt → (Number → Option FinishAt) → Option FinishAt
after_log_number (Ok n) k = k n
after_log_number (Err r) k = none

-- The record of a log at a place: serial, row number, release, due time and finish, each as a number of section 2. There is none where one of them can't be
-- read. (8.8)
abbrev pub finish_read_at : List ℕ → (at : ℕ) → Option FinishAt
finish_read_at s at =
    after_log_number (read_at s at) λ serial.
    after_log_number (read_at s serial.next) λ row.
    after_log_number (read_at s row.next) λ release.
    after_log_number (read_at s release.next) λ due.
    after_log_number (read_at s due.next) λ finish.
    some (record {
      finish = record {
        serial = record { 0 = serial.value };
        row = record { 0 = row.value };
        release = record { 0 = release.value };
        due = record { 0 = due.value };
        finish = record { 0 = finish.value };
      };
      next = finish.next;
    })

-- From a place on, a log reads as these records, one after another, up to its end. (8.8)
pub data ReadsAs (s : List ℕ) : (at : ℕ) → List Finish → Type 0 where
  ended : {at : ℕ} → at ≡ length s → ReadsAs s at []
  one_more : {at : ℕ} {found : FinishAt} {fs : List Finish} → finish_read_at s at ≡ some found → ReadsAs s found.next fs → ReadsAs s at (found.finish ∷ fs)

-- What is known about a record that was read at a place: its numbers have spellings, and its own spelling stands there, up to the place after it.
pub record FinishSpelledHere (s : List ℕ) (at : ℕ) (found : FinishAt) : Type 0 where
  pub in_range : all_in_range (values_of found.finish) ≡ true
  pub stands_here : drop at s ≡ spelled_finish found.finish ++ drop found.next s
  pub ends : found.next ≡ at + length (spelled_finish found.finish)

-- What is known about a record that was written: its numbers have spellings, the answer is the length of its own spelling, and there was room for it. (8.10)
pub record WroteRecord (f : Finish) (room took : ℕ) : Type 0 where
  pub in_range : all_in_range (values_of f) ≡ true
  pub spelled : took ≡ length (spelled_finish f)
  pub had_room : took ≤ room

-- A record was handed to the writer with the rest of a log, from a place on. The answer goes by the room of that rest. The log afterwards has what stood before
-- the place, and then the rest as the writer left it. (8.9, 8.10)
pub record RecordBehind (log : List ℕ) (at : ℕ) (f : Finish) (answer : Result ℕ Refusal) (after : List ℕ) : Type 0 where
  pub answered : answer ≡ written_record f (length log - at)
  pub whole : after ≡ take at log ++ rest_after answer f (drop at log)

-- The log buffer holds the spelling of these records up to a place, and from there on the bytes that it held at first. (8.9, 8.16)
pub record HoldsRecords (fs : List Finish) (log₀ log : List ℕ) (at : ℕ) : Type 0 where
  pub up_to : at ≡ length (spelled_log fs)
  pub within : at ≤ length log
  pub same_length : length log ≡ length log₀
  pub stands : log ≡ spelled_log fs ++ drop at log₀
