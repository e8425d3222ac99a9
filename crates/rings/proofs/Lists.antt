-- Laws of the entries that are read from a place on, and of a list that is read in turn: from a place to its end, and then from its start to that place.
use Prim.Native.Nat.{ℕ, zero, suc, ◌+◌, ◌-◌, ◌≤◌, ◌<◌}
use mathlib.Core.Path.{◌≡◌, refl, sym, ap, ap₂, ◌∙◌}
use mathlib.Core.Logic.{◌≢◌}
use mathlib.Core.List.{List, [], ◌∷◌, ◌++◌, append-nil, append_assoc}
use native.Mathlib.Nat.{add-zero}
use native.Mathlib.Numerals.{add-one}
use native.Mathlib.Omega.{arith}
use lib.ListN.{length, take, drop, get_or, set, length-append, length-take, length-drop, length-set, drop_of_length-le}
use lib.Seq.{take_all, take-set-lt, take-suc-set, drop-append-le, drop-drop, drop-set-lt, get_or-set_same, get_or-set_other}
use borrow.Author.Tests.{lt-ltb, le-ltb}
use Rattle.theory.proofs.Cases.{by_lt}
use Rattle.due.specs.Kept.{last_ones}
use Rattle.due.proofs.Lists.{last_ones_and_one}
use Rattle.rings.specs.Rings.{entries_from, oldest_first, place_after_oldest}

-- ---- entries from a place on

-- Reading n entries gives n entries.
pub length-entries_from : (n at : ℕ) (l : List ℕ) → length (entries_from n at l) ≡ n
unfolding entries_from
length-entries_from zero at l = refl
length-entries_from (suc n) at l = ap suc (length-entries_from n (suc at) l)

-- Each entry that is read is the list's entry at its place.
pub entries_at : (n at i : ℕ) (l : List ℕ) → i < n → get_or (entries_from n at l) i 0 ≡ get_or l (at + i) 0
unfolding entries_from
entries_at zero at i l h = absurd (omega arith)
entries_at (suc n) at zero l h = ap (λ k. get_or l k 0) (sym (add-zero at))
entries_at (suc n) at (suc i) l h =
    let place : suc at + i ≡ at + suc i = omega arith in
    entries_at n (suc at) i l (omega arith) ∙ ap (λ k. get_or l k 0) place

-- Storing a value outside of the entries that are read leaves them as they were.
pub entries_outside : (n at place v : ℕ) (l : List ℕ) → ((i : ℕ) → i < n → at + i ≢ place) → entries_from n at (set l place v) ≡ entries_from n at l
unfolding entries_from
entries_outside zero at place v l ne = refl
entries_outside (suc n) at place v l ne =
    ap₂ (λ a m. a ∷ m)
    (get_or-set_other l place at v 0 (λ e. ne 0 (omega arith) (omega arith)))
    (entries_outside n (suc at) place v l (λ i h e. ne (suc i) (omega arith) (omega arith)))

-- A value that is stored at one of the entries that are read stands there.
pub entries_inside : (n at i v : ℕ) (l : List ℕ) → i < n → at + i < length l → entries_from n at (set l (at + i) v) ≡ set (entries_from n at l) i v
unfolding entries_from
entries_inside zero at i v l h room = absurd (omega arith)
entries_inside (suc n) at zero v l h room =
    ap₂ (λ a m. a ∷ m)
    (ap (λ k. get_or (set l k v) at 0) (add-zero at) ∙ get_or-set_same l at v 0 (omega arith))
    (entries_outside n (suc at) (at + 0) v l (λ i inside e. omega arith))
entries_inside (suc n) at (suc i) v l h room =
    let place : at + suc i ≡ suc at + i = omega arith in
    ap₂ (λ a m. a ∷ m)
    (get_or-set_other l (at + suc i) at v 0 (λ e. omega arith))
    (ap (λ k. entries_from n (suc at) (set l k v)) place ∙ entries_inside n (suc at) i v l (omega arith) (omega arith))

-- ---- a list in turn

-- A list in turn is as long as the list.
pub turned_length : (o : ℕ) (l : List ℕ) → length (drop o l ++ take o l) ≡ length l
turned_length o l = omega (arith, length-append (drop o l) (take o l), length-drop o l, length-take o l)

-- A list in turn from place 0 on is the list itself.
pub not_turned : (o : ℕ) (l : List ℕ) → o ≡ 0 → drop o l ++ take o l ≡ l
not_turned o l e = rw e (append-nil l)

-- The place after the oldest's is below x.
pub place_inside : (o x : ℕ) → o < x → place_after_oldest o x < x
place_inside o x h = by_lt (o + 1) x (λ k. rw (lt-ltb (o + 1) x k) (omega arith)) (λ k. rw (le-ltb (o + 1) x k) (omega arith))

module _ (o x : ℕ) (l : List ℕ) (v : ℕ) (all : length l ≡ x) (inside : o < x) where
  -- Of a list of x in turn with one value added, the newest x are all but the oldest, and the added value.
  newest_of_turned : last_ones x ((drop o l ++ take o l) ++ (v ∷ [])) ≡ drop (o + 1) l ++ (take o l ++ (v ∷ []))
  newest_of_turned =
      let order = drop o l ++ take o l in
      let one : length order - (x - 1) ≡ 1 = omega (arith, turned_length o l) in
      last_ones_and_one x order v (omega arith)
      ∙ ap (λ n. drop n order ++ (v ∷ [])) one
      ∙ ap (λ m. m ++ (v ∷ [])) (drop-append-le 1 (drop o l) (take o l) (omega (arith, length-drop o l)))
      ∙ ap (λ m. (m ++ take o l) ++ (v ∷ [])) (drop-drop 1 o l)
      ∙ append_assoc (drop (o + 1) l) (take o l) (v ∷ [])

  -- Where the new value has the oldest's place, the list in turn from the next place on is the newest x.
  turned_behind : drop (o + 1) (set l o v) ++ take (o + 1) (set l o v) ≡ last_ones x ((drop o l ++ take o l) ++ (v ∷ []))
  turned_behind =
      ap (λ m. m ++ take (o + 1) (set l o v)) (drop-set-lt (o + 1) l o v (omega arith))
      ∙ ap (λ n. drop (o + 1) l ++ take n (set l o v)) (add-one o)
      ∙ ap (λ m. drop (o + 1) l ++ m) (take-suc-set l o v (omega arith))
      ∙ sym newest_of_turned

  -- Where the new value has the oldest's place, and that is the last place, the list in turn from place 0 on is the newest x.
  pub turned_on : drop (place_after_oldest o x) (set l o v) ++ take (place_after_oldest o x) (set l o v) ≡ last_ones x ((drop o l ++ take o l) ++ (v ∷ []))
  turned_on = by_lt (o + 1) x
      (λ h. rw (lt-ltb (o + 1) x h) turned_behind)
      (λ h.
      let after = set l o v in
      let short : length after ≤ o + 1 = omega (arith, length-set l o v) in
      let past : drop (o + 1) after ++ take (o + 1) after ≡ after = rw (drop_of_length-le after short, take_all (o + 1) after short) in
      rw (le-ltb (o + 1) x h) (append-nil after ∙ sym past ∙ turned_behind))

-- While the oldest stands at place 0, a value in the first unused place of a ring is the newest.
pub in_turn_behind : (many o v : ℕ) (l : List ℕ) → many < length l → o ≡ 0 → oldest_first (many + 1) o (set l many v) ≡ oldest_first many o l ++ (v ∷ [])
in_turn_behind many o v l inside start =
    not_turned o (take (many + 1) (set l many v)) start
    ∙ ap (λ n. take n (set l many v)) (add-one many)
    ∙ take-suc-set l many v inside
    ∙ ap (λ m. m ++ (v ∷ [])) (sym (not_turned o (take many l) start))

-- In a ring of x places that are all in use, a value stored in the oldest's place is the newest, and the oldest is gone.
pub in_turn_instead : (o x v : ℕ) (l : List ℕ) → length (take x l) ≡ x → o < x
    → oldest_first x (place_after_oldest o x) (set l o v) ≡ last_ones x (oldest_first x o l ++ (v ∷ []))
in_turn_instead o x v l all inside =
    ap (λ m. drop (place_after_oldest o x) m ++ take (place_after_oldest o x) m) (take-set-lt x l o v inside) ∙ turned_on o x (take x l) v all inside
