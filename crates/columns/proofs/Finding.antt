-- The place of a job among jobs in order is found from the last of them on. (docs/RULES.md, 6.11.)
use Prim.Native.Nat.{ℕ, zero, suc, ◌+◌, ◌-◌, ◌≤◌, ◌<◌}
use mathlib.Core.Path.{◌≡◌, sym, ◌∙◌}
use mathlib.Core.Bool.{true, false}
use mathlib.Core.List.{List, [], ◌∷◌}
use native.Mathlib.Nat.{not-suc-le-zero, le_of_suc-le-suc}
use native.Mathlib.Omega.{arith}
use lib.ListN.{length, drop, get_or, drop_of_length-le, length-drop}
use lib.Seq.{drop-cons, get_or-drop, get_or-take}
use borrow.Author.Tests.{eq-eqb, ne_eqb}
use Rattle.columns.specs.Columns.{max_entries, due_before, behind, entries}
use Rattle.columns.proofs.Moving.{entries_many}

module _ (due serial : ℕ) where
  -- The jobs from the place k on are all chosen after a job with this due time and serial.
  abbrev pub AfterFrom : (ds ss : List ℕ) (k : ℕ) → Type 0
  AfterFrom ds ss k = behind due serial (drop k ds) (drop k ss) ≡ length ds - k

  -- No job stands behind the last one.
  after_none : (ds ss : List ℕ) (k : ℕ) → length ds ≤ k → AfterFrom ds ss k
  unfolding behind
  after_none ds ss k h = rw (drop_of_length-le ds h) (omega arith)

  -- Where the job at k is chosen after it too, all jobs from k on are.
  after_more : (ds ss : List ℕ) (k : ℕ) → length ss ≡ length ds → k < length ds → AfterFrom ds ss (suc k)
      → due_before due serial (get_or ds k 0) (get_or ss k 0) ≡ true → AfterFrom ds ss k
  unfolding behind
  after_more ds ss k e h a t =
      let all : behind due serial (drop (suc k) ds) (drop (suc k) ss) ≡ length (drop (suc k) ds) = a ∙ sym (length-drop (suc k) ds) in
      rw (drop-cons ds k 0 h, drop-cons ss k 0 (omega arith), eq-eqb _ _ all, t) (omega arith)

  -- Where the job at k is not chosen after it, no job before k counts.
  after_last : (ds ss : List ℕ) (k : ℕ) → length ss ≡ length ds → k < length ds → AfterFrom ds ss (suc k)
      → due_before due serial (get_or ds k 0) (get_or ss k 0) ≡ false → behind due serial ds ss ≡ length ds - suc k
  unfolding behind
  after_last [] ss k e h a t = absurd (not-suc-le-zero h)
  after_last (d ∷ ds) [] k e h a t = absurd (omega arith)
  after_last (d ∷ ds) (s ∷ ss) zero e h a t = rw (eq-eqb (behind due serial ds ss) (length ds) (omega arith), t) (omega arith)
  after_last (d ∷ ds) (s ∷ ss) (suc k) e h a t =
      let less : behind due serial ds ss ≡ length ds - suc k = after_last ds ss k (omega arith) (le_of_suc-le-suc h) (omega arith) t in
      rw (ne_eqb (behind due serial ds ss) (length ds) (λ same. omega arith)) (omega arith)

-- The jobs that stand from `first` on have been looked at from the last down to the entry `at`, and a job with this due time and serial goes before all these.
abbrev pub Looked : (due serial : ℕ) (dues serials : List ℕ) (first count at : ℕ) → Type 0
Looked due serial dues serials first count at = AfterFrom due serial (entries first count dues) (entries first count serials) (at - first)

-- The entry `at` is the one where a job with this due time and serial goes in.
abbrev pub Found : (due serial : ℕ) (dues serials : List ℕ) (first count at : ℕ) → Type 0
Found due serial dues serials first count at =
    at ≡ first + (count - behind due serial (entries first count dues) (entries first count serials))

-- The entry at k of a part of a list is that at `first + k` of the list.
entry_at : (l : List ℕ) (first count k : ℕ) → k < count → get_or (entries first count l) k 0 ≡ get_or l (first + k) 0
entry_at l first count k h = get_or-take count (drop first l) k 0 h ∙ get_or-drop first l k 0

module _ (due serial : ℕ) (dues serials : List ℕ) (d : length dues ≡ max_entries) (s : length serials ≡ max_entries) (first count : ℕ)
    (within : first + count ≤ max_entries) where
  -- At the start no job has been looked at.
  pub looked_none : Looked due serial dues serials first count (first + count)
  looked_none =
      after_none due serial (entries first count dues) (entries first count serials) (first + count - first)
      (omega (arith, entries_many dues first count (omega arith)))

  module _ (at : ℕ) (h : first < at) (k : at ≤ first + count) (looked : Looked due serial dues serials first count at) where
    -- The job before the entry `at` is looked at by its place among the jobs.
    looked_here : due_before due serial (get_or (entries first count dues) (at - 1 - first) 0) (get_or (entries first count serials) (at - 1 - first) 0)
        ≡ due_before due serial (get_or dues (at - 1) 0) (get_or serials (at - 1) 0)
    looked_here =
        let e : first + (at - 1 - first) ≡ at - 1 = omega arith in
        rw (entry_at dues first count (at - 1 - first) (omega arith), entry_at serials first count (at - 1 - first) (omega arith), e)

    -- Where the job goes before the one before the entry `at`, that one has been looked at too.
    pub looked_more : due_before due serial (get_or dues (at - 1) 0) (get_or serials (at - 1) 0) ≡ true → Looked due serial dues serials first count (at - 1)
    looked_more t =
        let e : at - first ≡ suc (at - 1 - first) = omega arith in
        let dues_many = entries_many dues first count (omega arith) in
        let serials_many = entries_many serials first count (omega arith) in
        after_more due serial (entries first count dues) (entries first count serials) (at - 1 - first) (serials_many ∙ sym dues_many)
        (omega arith) (rw e at looked) (looked_here ∙ t)

    -- Where the job does not go before the one before the entry `at`, it goes in there.
    pub looked_last : due_before due serial (get_or dues (at - 1) 0) (get_or serials (at - 1) 0) ≡ false → Found due serial dues serials first count at
    looked_last t =
        let e : at - first ≡ suc (at - 1 - first) = omega arith in
        let dues_many = entries_many dues first count (omega arith) in
        let serials_many = entries_many serials first count (omega arith) in
        omega (
          arith,
          after_last due serial (entries first count dues) (entries first count serials) (at - 1 - first) (serials_many ∙ sym dues_many)
              (omega arith) (rw e at looked) (looked_here ∙ t),
        )
