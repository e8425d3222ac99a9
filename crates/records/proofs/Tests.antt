-- The tests of a record's numbers: the tests that lead to each answer, and that there is no other answer. (docs/RULES.md, section 8.5.)
use Rattle.std.specs.Prelude.{Some, None, Result, Ok, Err}
use Prim.Native.Nat.{ℕ, ◌+◌, ◌<◌}
use mathlib.Core.Path.{◌≡◌, refl, sym, ap, subst, ◌∙◌}
use mathlib.Core.Logic.{inl, inr, ⊎_elim}
use mathlib.Core.List.{List}
use native.Mathlib.Omega.{arith}
use native.Mathlib.Decide.{dec_le}
use lib.ListN.{length, get_or}
use borrow.Author.Tests.{le-leb, lt-leb}
use Rattle.kinds.specs.Numbering.{max_time, refusal_number}
use Rattle.kinds.specs.declared.Refusal.{Refusal}
use Rattle.kinds.specs.declared.RefusedAt.{RefusedAt}
use Rattle.kinds.specs.declared.Refusal.TheVariants.{NoSuchRow, CostOutOfRange, TimeTooLate}
use Rattle.numbers.specs.declared.Number.{Number}
use Rattle.table.specs.Costs.{limit_of, cost_answer}
use Rattle.table.proofs.CostLimits.{limit_in_use, limit_not_in_use, cost_allowed, no_cost, cost_too_high}
use Rattle.records.specs.declared.Numbers.{Numbers}
use Rattle.records.specs.declared.Ready.{Ready}
use Rattle.records.specs.Numbers.{refused_at, tested_by}
use Rattle.records.specs.PassedTests.{GapFits, RowFits, Passed, NumbersRefused}

-- ---- each answer by the tests that lead to it

module _ (limits : List ℕ) where
  module _ (time : ℕ) (n : Numbers) where
    -- A gap that can't be read is refused with 14.
    pub gap_unread : {r : RefusedAt} → n.gap.read ≡ Err r → Err r ≡ tested_by limits time n
    gap_unread e = rw e

    -- A time above 2^40 is refused with 10.
    pub time_too_late : {gap : Number} → n.gap.read ≡ Ok gap → max_time < time + gap.value
        → refused_at TimeTooLate n.gap.place ≡ tested_by limits time n
    time_too_late {gap} e h = simp (e, lt-leb (time + gap.value) max_time h)

  module _ {time : ℕ} {n : Numbers} {gap : Number} (p : GapFits time n gap) where
    -- A row number that can't be read is refused with 14.
    pub row_unread : {r : RefusedAt} → n.row.read ≡ Err r → Err r ≡ tested_by limits time n
    row_unread e = simp (p.gap_read, le-leb (time + gap.value) max_time p.in_time, e)

    -- A row number that is not in use is refused with 6.
    pub no_such_row : {row : Number} → n.row.read ≡ Ok row → limit_of limits row.value ≡ None
        → refused_at NoSuchRow n.row.place ≡ tested_by limits time n
    no_such_row e h = rw (p.gap_read, le-leb (time + gap.value) max_time p.in_time, e, h)

  module _ {time : ℕ} {n : Numbers} {gap row : Number} (p : RowFits limits time n gap row) where
    -- A cost that can't be read is refused with 14.
    pub cost_unread : {r : RefusedAt} → n.cost.read ≡ Err r → Err r ≡ tested_by limits time n
    cost_unread e = rw (
      p.gap_fits.gap_read,
      le-leb (time + gap.value) max_time p.gap_fits.in_time,
      p.row_read,
      limit_in_use limits row.value p.in_use,
      e,
    )

    module _ {cost : Number} (e : n.cost.read ≡ Ok cost) where
      -- A cost that is not allowed is refused with 7.
      pub not_allowed : {r : Refusal} → cost_answer (Some (get_or limits row.value 0)) cost.value ≡ Err r
          → refused_at r n.cost.place ≡ tested_by limits time n
      not_allowed h = rw (
        p.gap_fits.gap_read,
        le-leb (time + gap.value) max_time p.gap_fits.in_time,
        p.row_read,
        limit_in_use limits row.value p.in_use,
        e,
        h,
      )

      -- A record that no test refuses is ready.
      pub ready : cost_answer (Some (get_or limits row.value 0)) cost.value ≡ Ok tt
          → Ok (record { time = record { 0 = time + gap.value }; row = record { 0 = row.value }; cost = cost.value; next = cost.next })
          ≡ tested_by limits time n
      ready h = rw (
        p.gap_fits.gap_read,
        le-leb (time + gap.value) max_time p.gap_fits.in_time,
        p.row_read,
        limit_in_use limits row.value p.in_use,
        e,
        h,
      )

-- ---- what each answer means

-- A reading has read a number, or it was refused.
by_read : {G : Type 0} (v : Result Number RefusedAt) → ((x : Number) → v ≡ Ok x → G) → ((r : RefusedAt) → v ≡ Err r → G) → G
by_read (Ok x) read refused = read x refl
by_read (Err r) read refused = refused r refl

module _ (limits : List ℕ) (time : ℕ) (n : Numbers) where
  -- What is known about the numbers of a record, given the answer of their tests.
  abbrev pub TestedSo : Result Ready RefusedAt → Type 0
  TestedSo (Ok r) = Passed limits time n r
  TestedSo (Err r) = NumbersRefused limits time n (refusal_number r.refusal) r.place

  -- The tests in their order lead to one of these answers, and there is no other.
  pub tests_mean : TestedSo (tested_by limits time n)
  tests_mean =
      by_read n.gap.read
      (λ gap e₁. elim (dec_le (time + gap.value) max_time) [
        | no h ↦ subst TestedSo (time_too_late limits time n e₁ (omega arith)) (NumbersRefused.too_late gap e₁ (omega arith))
        | yes h ↦ in_time gap (record { gap_read = e₁; in_time = h })
      ])
      (λ r e₁. subst TestedSo (gap_unread limits time n e₁) (NumbersRefused.no_gap r e₁))
    where
      with_cost : (gap row cost : Number) → RowFits limits time n gap row → n.cost.read ≡ Ok cost → TestedSo (tested_by limits time n)
      with_cost gap row cost p e = let most = get_or limits row.value 0 in elim (dec_le 1 cost.value) [
        | no l ↦ subst TestedSo (not_allowed limits p e (no_cost most cost.value (omega arith)))
            (NumbersRefused.cost_out_of_range gap row cost p e (inl (omega arith)))
        | yes l ↦ elim (dec_le cost.value most) [
          | no m ↦ subst TestedSo (not_allowed limits p e (cost_too_high most cost.value l (omega arith)))
              (NumbersRefused.cost_out_of_range gap row cost p e (inr (omega arith)))
          | yes m ↦ subst TestedSo (ready limits p e (cost_allowed most cost.value l m))
              (record { gap = gap; row = row; cost = cost; row_fits = p; cost_read = e; some_cost = l; allowed = m; asks_for = refl })
        ]
      ]

      in_time : (gap : Number) → GapFits time n gap → TestedSo (tested_by limits time n)
      in_time gap p =
          by_read n.row.read
          (λ row e₂. elim (dec_le (length limits) row.value) [
            | yes h ↦ subst TestedSo (no_such_row limits p e₂ (limit_not_in_use limits row.value h)) (NumbersRefused.no_such_row gap row p e₂ h)
            | no h ↦ let fits : RowFits limits time n gap row = record { gap_fits = p; row_read = e₂; in_use = omega arith } in
                by_read n.cost.read (λ cost e₃. with_cost gap row cost fits e₃)
                (λ r e₃. subst TestedSo (cost_unread limits fits e₃) (NumbersRefused.no_cost gap row fits r e₃))
          ])
          (λ r e₂. subst TestedSo (row_unread limits p e₂) (NumbersRefused.no_row_number gap p r e₂))

  -- A record whose numbers pass is ready.
  pub passed_ready : {r : Ready} → Passed limits time n r → tested_by limits time n ≡ Ok r
  passed_ready w =
      sym (ready limits w.row_fits w.cost_read (cost_allowed (get_or limits w.row.value 0) w.cost.value w.some_cost w.allowed))
      ∙ ap Ok (sym w.asks_for)

  -- A record that a test refuses is refused with that number and at that place.
  pub refused_so : {k place : ℕ} → NumbersRefused limits time n k place
      → (r : RefusedAt) × (tested_by limits time n ≡ Err r) × (refusal_number r.refusal ≡ k) × (r.place ≡ place)
  refused_so (NumbersRefused.no_gap r e) = (r, sym (gap_unread limits time n e), refl, refl)
  refused_so (NumbersRefused.too_late gap e late) = (_, sym (time_too_late limits time n e late), refl, refl)
  refused_so (NumbersRefused.no_row_number gap p r e) = (r, sym (row_unread limits p e), refl, refl)
  refused_so (NumbersRefused.no_such_row gap row p e unused) = (_, sym (no_such_row limits p e (limit_not_in_use limits row.value unused)), refl, refl)
  refused_so (NumbersRefused.no_cost gap row p r e) = (r, sym (cost_unread limits p e), refl, refl)
  refused_so (NumbersRefused.cost_out_of_range gap row cost p e out) =
      let most = get_or limits row.value 0 in
      let so : cost_answer (Some most) cost.value ≡ Err CostOutOfRange = elim (dec_le 1 cost.value) [
        | yes l ↦ cost_too_high most cost.value l (⊎_elim (λ none. absurd (omega arith)) (λ above. above) out)
        | no l ↦ no_cost most cost.value (omega arith)
      ] in
      (_, sym (not_allowed limits p e so), refl, refl)
