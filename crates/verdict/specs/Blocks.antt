-- Blocks of rises, as the quick search for a verdict adds them up. A block holds, for some lengths one after another, how much the demand of the terms rises at
-- each of them. (docs/RULES.md, 5.3.)
use Rattle.std.specs.Prelude.{ℕ, ◌+◌, ◌≤◌, ◌<◌, ◌≡◌, List, length, get_or}
use Rattle.theory.specs.Steps.{rise_at}
use Rattle.verdict.specs.HeldTerms.{max_searched, held_term, sum_below}

-- The entries of a block.
abbrev pub block_size : ℕ
block_size = 4096

-- The demand of the first n terms of an array in a length L, without the ticks that the timer takes.
unfoldable pub terms_demand : List ℕ → (n L : ℕ) → ℕ
terms_demand l n L = sum_below n (λ i. held_term l i L)

-- The lengths from `base` on, `size` of them, are in one block, and the search may look at all of them.
pub record InBlock (base size : ℕ) : Type 0 where
  pub some_length : 1 ≤ base
  pub most : size ≤ block_size
  pub searched : base + size ≤ max_searched + 1

-- Entry k of a block is how much f rises at the length base + k, for the first `size` entries.
pub record RisesOf (f : ℕ → ℕ) (base size : ℕ) (rises : List ℕ) : Type 0 where
  pub as_long : length rises ≡ block_size
  pub each : (k : ℕ) → k < size → get_or rises k 0 ≡ rise_at f (base + k)
