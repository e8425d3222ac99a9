-- An array of terms is filled one term after another. A term that is set stands after those that are there, and changes none of them. (docs/RULES.md, 5.3.)
use Prim.Native.Nat.{ℕ, zero, suc, ◌+◌, ◌≤◌, ◌<◌}
use mathlib.Core.Path.{◌≡◌, refl, sym, ◌∙◌}
use mathlib.Core.List.{List, [], ◌∷◌}
use native.Mathlib.Omega.{arith}
use lib.ListN.{length, get_or, set, length-set}
use lib.Seq.{sets, length-sets, get_or-set_same, get_or-set_other}
use Rattle.theory.specs.Ticks.{timer_takes}
use Rattle.theory.specs.Terms.{term_demand, reciprocal}
use Rattle.theory.proofs.Cases.{by_eq}
use Rattle.table.specs.Limits.{max_sources}
use Rattle.verdict.specs.HeldTerms.{parts, held_entries, group_of, held_s, held_p, held_term, held_demand}
use Rattle.verdict.specs.HeldTerms.{GoodTerm, GoodAt, GoodHeader, Held, with_term}
use Rattle.verdict.specs.HeldParts.{held_up, held_down, held_b}
use Rattle.verdict.proofs.HeldTerms.{no_terms, one_term_more}

-- ---- entries that are set

-- Six stores one after another set six entries.
pub six_stores : (l : List ℕ) (at m w up down b a : ℕ)
    → set (set (set (set (set (set l at m) (at + 1) w) (at + 2) up) (at + 3) down) (at + 4) b) (at + 5) a ≡ sets l at (m ∷ w ∷ up ∷ down ∷ b ∷ a ∷ [])
six_stores l at m w up down b a =
    let e : at + 1 ≡ suc at = omega arith in
    let e2 : at + 2 ≡ suc (suc at) = omega arith in
    let e3 : at + 3 ≡ suc (suc (suc at)) = omega arith in
    let e4 : at + 4 ≡ suc (suc (suc (suc at))) = omega arith in
    let e5 : at + 5 ≡ suc (suc (suc (suc (suc at)))) = omega arith in
    rw (e, e2, e3, e4, e5) refl

-- The entries before those that are set stay as they were.
sets_before : (vs l : List ℕ) (at k : ℕ) → k < at → get_or (sets l at vs) k 0 ≡ get_or l k 0
sets_before [] l at k h = refl
sets_before (v ∷ vs) l at k h = sets_before vs (set l at v) (suc at) k (omega arith) ∙ get_or-set_other l at k v 0 (λ e. omega (arith, e))

-- Each entry that is set is what it is set to.
sets_here : (vs l : List ℕ) (at j : ℕ) → j < length vs → at + length vs ≤ length l → get_or (sets l at vs) (at + j) 0 ≡ get_or vs j 0
sets_here [] l at j h room = absurd (omega arith)
sets_here (v ∷ vs) l at zero h room =
    let e : at + 0 ≡ at = omega arith in
    rw e (sets_before vs (set l at v) (suc at) at (omega arith) ∙ get_or-set_same l at v 0 (omega arith))
sets_here (v ∷ vs) l at (suc j) h room =
    let e : at + suc j ≡ suc at + j = omega arith in
    rw e (sets_here vs (set l at v) (suc at) j (omega arith) (omega (arith, length-set l at v)))

-- ---- the terms before

-- The entries before `end` are the same in both arrays.
abbrev Same : (l k : List ℕ) (end : ℕ) → Type 0
Same l k end = (e : ℕ) → e < end → get_or k e 0 ≡ get_or l e 0

module _ (l k : List ℕ) (n : ℕ) (same : Same l k (group_of n)) where
  -- The terms before are as good as they were.
  same_good : (i : ℕ) → i < n → GoodAt l i → GoodAt k i
  same_good i h good =
      let at = group_of i in
      rw (same at (omega arith), same (at + 1) (omega arith), same (at + 2) (omega arith), same (at + 4) (omega arith), same (at + 5) (omega arith)) good

  -- The terms before have the same demand.
  same_term : (i L : ℕ) → i < n → held_term k i L ≡ held_term l i L
  same_term i L h =
      let at = group_of i in
      rw (same (at + 1) (omega arith), same (at + 2) (omega arith), same (at + 3) (omega arith), same (at + 4) (omega arith), same (at + 5) (omega arith)) refl

  -- The timer is the same.
  same_header : GoodHeader l → GoodHeader k
  same_header header = record {
    good_timer = rw (same 0 (omega arith), same 1 (omega arith)) header.good_timer;
    is_reciprocal = rw (same 2 (omega arith), same 1 (omega arith)) header.is_reciprocal;
  }

  -- The demand of the first i terms is the same.
  same_demand : (i L : ℕ) → i ≤ n → held_demand k i L ≡ held_demand l i L
  same_demand zero L h = no_terms k L ∙ rw (same 0 (omega arith), same 1 (omega arith)) (sym (no_terms l L))
  same_demand (suc i) L h =
      let e : suc i ≡ i + 1 = omega arith in
      rw e (omega (arith, one_term_more k i L, one_term_more l i L, same_term i L (omega arith), same_demand i L (omega arith)))

-- ---- filling

-- The array is long enough, holds n terms, and its demand in each length L is `demand L`.
pub record Filled (l : List ℕ) (n : ℕ) (demand : ℕ → ℕ) : Type 0 where
  pub as_long : length l ≡ held_entries
  pub held : Held l n
  pub demands : (L : ℕ) → held_demand l n L ≡ demand L

-- An array with a good header and no terms yet.
pub none_filled : (l : List ℕ) → length l ≡ held_entries → GoodHeader l → Filled l 0 (timer_takes (held_s l) (held_p l))
none_filled l long header = record {
  as_long = long;
  held = record { header = header; few = omega arith; good = λ i h. absurd (omega arith) };
  demands = no_terms l;
}

-- The timer's p is this one, and each of the first n terms has the property Q of its b, its `up` and its `down`.
pub record Placed (p : ℕ) (Q : (b up down : ℕ) → Type 0) (l : List ℕ) (n : ℕ) : Type 0 where
  pub is_p : held_p l ≡ p
  pub each : (i : ℕ) → i < n → Q (held_b l i) (held_up l i) (held_down l i)

-- An array with no terms yet.
pub none_placed : {p : ℕ} {Q : (b up down : ℕ) → Type 0} (l : List ℕ) → held_p l ≡ p → Placed p Q l 0
none_placed l is_p = record { is_p = is_p; each = λ i h. absurd (omega arith) }

-- What is filled with one demand is filled with the same demand in other words.
pub filled_as : {l : List ℕ} {n : ℕ} {f g : ℕ → ℕ} → Filled l n f → ((L : ℕ) → f L ≡ g L) → Filled l n g
filled_as filled same = record { as_long = filled.as_long; held = filled.held; demands = λ L. filled.demands L ∙ same L }

module _ {l : List ℕ} {n : ℕ} {f : ℕ → ℕ} (filled : Filled l n f) (room : n < max_sources) (b a w up down : ℕ)
    (good : GoodTerm (reciprocal parts a b) w up b a) where
  -- The array with one term more.
  abbrev more : List ℕ
  more = with_term n b a w up down l

  -- Each entry of the group is what it is set to.
  entry : (j : ℕ) → j < 6 → get_or more (group_of n + j) 0 ≡ get_or (reciprocal parts a b ∷ w ∷ up ∷ down ∷ b ∷ a ∷ []) j 0
  entry j h = sets_here (reciprocal parts a b ∷ w ∷ up ∷ down ∷ b ∷ a ∷ []) l (group_of n) j h (omega (arith, filled.as_long))

  -- The first entry of the group is the reciprocal.
  entry_zero : get_or more (group_of n) 0 ≡ reciprocal parts a b
  entry_zero = let e : group_of n + 0 ≡ group_of n = omega arith in rw e at (entry 0 (omega arith))

  -- The entries before the group are as they were.
  unchanged : Same l more (group_of n)
  unchanged e h = sets_before (reciprocal parts a b ∷ w ∷ up ∷ down ∷ b ∷ a ∷ []) l (group_of n) e h

  -- The term that is set is a good one.
  good_here : GoodAt more n
  good_here = rw (entry_zero, entry 1 (omega arith), entry 2 (omega arith), entry 4 (omega arith), entry 5 (omega arith)) good

  -- The demand of the term that is set.
  term_here : (L : ℕ) → held_term more n L ≡ term_demand b a w up down L
  term_here L = rw (entry 1 (omega arith), entry 2 (omega arith), entry 3 (omega arith), entry 4 (omega arith), entry 5 (omega arith)) refl

  -- One term more is filled, and its demand is added.
  pub one_more_filled : Filled more (n + 1) (λ L. f L + term_demand b a w up down L)
  one_more_filled = record {
    as_long = length-sets l (group_of n) (reciprocal parts a b ∷ w ∷ up ∷ down ∷ b ∷ a ∷ []) ∙ filled.as_long;
    held = record {
      header = same_header l more n unchanged filled.held.header;
      few = omega arith;
      good = λ i h. by_eq i n (λ e. rw e good_here) (λ e. same_good l more n unchanged i (omega (arith, e)) (filled.held.good i (omega (arith, e))));
    };
    demands = λ L.
        omega (arith, one_term_more more n L, same_demand l more n unchanged n L (omega arith), filled.demands L, term_here L);
  }

  -- Where the term that is set has a property that those before have, all have it.
  pub one_more_placed : {p : ℕ} {Q : (b up down : ℕ) → Type 0} → Placed p Q l n → Q b up down → Placed p Q more (n + 1)
  one_more_placed {p} {Q} placed q = record {
    is_p = unchanged 1 (omega arith) ∙ placed.is_p;
    each = λ i h. by_eq i n
        (λ e. rw (e, entry 2 (omega arith), entry 3 (omega arith), entry 4 (omega arith)) q)
        (λ e.
        let before : i < n = omega (arith, e) in
        let at = group_of i in
        rw (unchanged (at + 2) (omega arith), unchanged (at + 3) (omega arith), unchanged (at + 4) (omega arith)) (placed.each i before));
  }
