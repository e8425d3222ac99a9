-- The demand of a table in one array of numbers, as the quick search for a verdict holds it. The array has groups of six numbers. The first group holds the
-- timer's s, its p and the reciprocal of p. Each later group holds one term: its reciprocal, w, up, down, b and a. Each row and each server is one term.
-- (docs/RULES.md, 5.3.)
use Rattle.std.specs.Prelude.{ℕ, zero, suc, ◌+◌, ◌*◌, ◌≤◌, ◌<◌, ◌≡◌, List, [], ◌∷◌, get_or}
use Rattle.std.proofs.lemmas.List.Edits.{sets}
use Rattle.theory.specs.Ticks.{timer_takes}
use Rattle.theory.specs.Terms.{term_demand, reciprocal}
use Rattle.table.specs.Limits.{max_sources, max_x, max_y, max_c, max_d, max_b, max_period}
use Rattle.table.specs.Timer.{GoodTimer}

-- Reciprocals are in parts of this.
abbrev pub parts : ℕ
parts = 8589934592

-- The quick search works out no demand in a length above this: it is the bound of 5.8 with the largest d and the largest H that a table may have. (5.8)
abbrev pub max_searched : ℕ
max_searched = max_period + max_d

-- The numbers of one group, of which there is one for the timer and one for each term.
abbrev pub group_size : ℕ
group_size = 6

-- The array has so many entries.
abbrev pub held_entries : ℕ
held_entries = group_size * (max_sources + 1)

-- The group of term i starts at this entry.
abbrev pub group_of : (i : ℕ) → ℕ
group_of i = group_size * i + group_size

-- The timer's s.
abbrev pub held_s : List ℕ → ℕ
held_s l = get_or l 0 0

-- The timer's p.
abbrev pub held_p : List ℕ → ℕ
held_p l = get_or l 1 0

-- The demand of term i in a length L.
abbrev pub held_term : List ℕ → (i L : ℕ) → ℕ
held_term l i L =
    let at = group_of i in
    term_demand (get_or l (at + 4) 0) (get_or l (at + 5) 0) (get_or l (at + 1) 0) (get_or l (at + 2) 0) (get_or l (at + 3) 0) L

-- The sum of w i over the numbers i below n.
unfoldable pub sum_below : (n : ℕ) (w : ℕ → ℕ) → ℕ
sum_below zero w = 0
sum_below (suc n) w = sum_below n w + w n

-- The demand that an array holds is the sum over its first `count` terms and the ticks that its timer takes. (5.3)
unfoldable pub held_demand : List ℕ → (count L : ℕ) → ℕ
held_demand l count L = sum_below count (λ i. held_term l i L) + timer_takes (held_s l) (held_p l) L

-- A term whose numbers are small enough, with its reciprocal m.
pub record GoodTerm (m w up b a : ℕ) : Type 0 where
  pub some_b : 1 ≤ b
  pub most_b : b ≤ max_b
  pub a_within_b : a ≤ b
  pub most_w : w ≤ max_x * max_c
  pub most_up : up ≤ max_y
  pub is_reciprocal : m ≡ reciprocal parts a b

-- Term i of the array is a good one.
abbrev pub GoodAt : List ℕ → (i : ℕ) → Type 0
GoodAt l i =
    let at = group_of i in
    GoodTerm (get_or l at 0) (get_or l (at + 1) 0) (get_or l (at + 2) 0) (get_or l (at + 4) 0) (get_or l (at + 5) 0)

-- The array holds a timer that a table may have, with its reciprocal.
pub record GoodHeader (l : List ℕ) : Type 0 where
  pub good_timer : GoodTimer (held_s l) (held_p l)
  pub is_reciprocal : get_or l 2 0 ≡ reciprocal parts 1 (held_p l)

-- The array holds a timer and `count` terms, which are no more than a table may have.
pub record Held (l : List ℕ) (count : ℕ) : Type 0 where
  pub header : GoodHeader l
  pub few : count ≤ max_sources
  pub good : (i : ℕ) → i < count → GoodAt l i

-- The array with the group of term i set to these numbers.
abbrev pub with_term : (i b a w up down : ℕ) → List ℕ → List ℕ
with_term i b a w up down l = sets l (group_of i) (reciprocal parts a b ∷ w ∷ up ∷ down ∷ b ∷ a ∷ [])
