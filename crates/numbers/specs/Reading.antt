-- What the number reader finds at a place of a list of bytes: a number, or one of three faults. (docs/RULES.md, section 2.)
use Rattle.std.specs.Prelude.{ℕ, zero, suc, ◌+◌, ◌-◌, ◌*◌, cond, List, [], ◌∷◌, ltb, eqb, length, drop, Result, Ok, Err}
use Rattle.kinds.specs.declared.RefusedAt.{RefusedAt}
use Rattle.kinds.specs.declared.Refusal.TheVariants.{Misspelled}
use Rattle.numbers.specs.declared.Number.{Number}
use Rattle.numbers.specs.Spelling.{max_groups}

-- What the groups from a place on spell. A fault that is about a byte has the place of that byte.
pub data Spelt : Type 0 where
  -- The bytes spell the number n, and `next` is the place right after its last byte.
  number : (n next : ℕ) → Spelt
  -- The last group of a number with more than one group is zero.
  superfluous_zero : (place : ℕ) → Spelt
  -- The sixth group, which is the last that is allowed, asks for more.
  asks_for_more : (place : ℕ) → Spelt
  -- The bytes end before the number's last group.
  cut_off : Spelt

-- What a group worth `low` spells together with the groups after it, which are worth 128 times as much. Where the groups after it spell 0, the last of them is
-- a superfluous zero group. (2.1, 2.3)
abbrev pub group_before : (low : ℕ) → Spelt → Spelt
group_before low (number n next) = cond (eqb n 0) (superfluous_zero (next - 1)) (number (low + 128 * n) next)
group_before low (superfluous_zero place) = superfluous_zero place
group_before low (asks_for_more place) = asks_for_more place
group_before low cut_off = cut_off

-- What a list of bytes spells in at most `most` groups, where its first byte stands at the place `at`. Where no group is allowed any more, the group before
-- asked for one too many. (2.1, 2.2, 2.7)
unfoldable pub spelt : (most : ℕ) → List ℕ → (at : ℕ) → Spelt
spelt zero s at = asks_for_more (at - 1)
spelt (suc most) [] at = cut_off
spelt (suc most) (b ∷ s) at = cond (ltb b 128) (number b (at + 1)) (group_before (b - 128) (spelt most s (at + 1)))

-- The reader's only refusal: 1, at a place. (2.7)
abbrev pub misspelled_at : ℕ → Result Number RefusedAt
misspelled_at place = Err (record { refusal = Misspelled; place = place })

-- The reader's answer, for bytes that end at the place `end`. A superfluous zero group and a group that asks for one too many are refused at their own byte.
-- A number that is cut off is refused at the end of the bytes. (2.7, 2.8)
abbrev pub answered : (end : ℕ) → Spelt → Result Number RefusedAt
answered end (number n next) = Ok (record { value = n; next = next })
answered end (superfluous_zero place) = misspelled_at place
answered end (asks_for_more place) = misspelled_at place
answered end cut_off = misspelled_at end

-- What the reader answers at a place. Nothing stands at a place past the end, so that the number there is cut off. (2.9)
abbrev pub read_at : List ℕ → ℕ → Result Number RefusedAt
read_at s at = answered (length s) (spelt max_groups (drop at s) at)
