-- The laws of a server's due times: each answer follows from the tests before it, and it says what it says exactly when its rule holds. (docs/RULES.md, 4.9.)
use Prim.Native.Nat.{ℕ, ◌+◌, ◌*◌, ◌≤◌, ◌<◌, max}
use mathlib.Core.Path.{◌≡◌, sym, ap, ◌∙◌}
use mathlib.Core.Logic.{◌↔◌}
use mathlib.Core.Bool.{true, false}
use native.Mathlib.Omega.{arith}
use borrow.Author.Rules.{rules}
use borrow.Author.Tests.{tests, lt-ltb}
use Rattle.std.specs.Prelude.{Ok, Err}
use Rattle.std.specs.Int.{div_ceil}
use Rattle.std.specs.Ordering.{ord_max, nat_cmp}
use Rattle.std.proofs.Math.Nat.{div-eq_of_lt-le}
use Rattle.std.proofs.lemmas.Grind.{div_ceil_times}
use Rattle.kinds.specs.Numbering.{max_time}
use Rattle.kinds.specs.declared.Tick.{Tick}
use Rattle.kinds.specs.declared.Refusal.{Refusal}
use Rattle.kinds.specs.declared.Refusal.TheVariants.{ValueOutOfRange, CostOutOfRange, DueTooLate}
use Rattle.kinds.proofs.Apart.{impossible}
use Rattle.theory.specs.Servers.{ticks_for, server_due}
use Rattle.theory.proofs.Cases.{by_lt, by_test}
use Rattle.table.specs.declared.Server.{Server}
use Rattle.table.specs.Limits.{max_c}
use Rattle.table.specs.Rows.{from_one_to}
use Rattle.table.specs.Servers.{server_in_range}
use Rattle.due.specs.Answers.{due_says}
use Rattle.due.specs.Kept.{not_too_late}
use Rattle.due.specs.OddJobs.{odd_due_of, GivenOddDue, OddGivenMeans, OddTooLateMeans, OddCostMeans, OddOutOfRangeMeans}
use Rattle.due.proofs.Keeping.{number}
use Rattle.due.proofs.NewestKept.{in_time_given, late_refused, refused}
use Rattle.due.proofs.Answers.{dues_said_apart}
use Rattle.due.proofs.DueAnswers.{by_what_it_says}

-- ---- the rule as the code works it out

-- The later of two times is the later of their ticks.
pub later_of : (t last m : Tick) → m ≡ ord_max (λ (a b : Tick). nat_cmp a.0 b.0) t last → m.0 ≡ max t.0 last.0
later_of t last m e = rw e
    (by_lt last.0 t.0 (λ h. rw (lt-ltb last.0 t.0 h) (omega arith)) (λ h. search (rules, tests, h)))

-- The ticks that a cost takes, rounded up, make the due time by the rule.
pub rule_rounded : (a b last t e : ℕ) → 1 ≤ a → server_due a b last t e ≡ max t last + div_ceil (e * b) a
unfolding server_due ticks_for
rule_rounded a b last t e p =
    let bounds = div_ceil_times (e * b) a p in
    let k = div_ceil (e * b) a in
    ap (λ n. max t last + n) (div-eq_of_lt-le {k = k} a (omega (arith, bounds)) (omega (arith, bounds)))

-- ---- which case each answer is

module _ (v : Server) (last t cost : ℕ) where
  -- This is the due time by the rule.
  abbrev by_the_rule : ℕ
  by_the_rule = server_due v.a v.b last t cost

  -- For a server out of range the due time is refused with 3.
  none_given : server_in_range v ≡ false → odd_due_of v last t cost ≡ Err ValueOutOfRange
  unfolding odd_due_of
  none_given e = rw e

  module _ (fine : server_in_range v ≡ true) where
    -- For a server in range, a cost that no odd job may have is refused with 7.
    cost_refused : from_one_to max_c cost ≡ false → odd_due_of v last t cost ≡ Err CostOutOfRange
    unfolding odd_due_of
    cost_refused e = rw (fine, e)

    module _ (allowed : from_one_to max_c cost ≡ true) where
      -- With server and cost in range, the answer goes by the due time alone.
      pub by_due_alone : odd_due_of v last t cost ≡ not_too_late by_the_rule
      unfolding odd_due_of
      by_due_alone = rw (fine, allowed)

      -- With server and cost in range, a due time of at most 2^40 is given.
      rule_given : by_the_rule ≤ max_time → odd_due_of v last t cost ≡ Ok (record { 0 = by_the_rule })
      rule_given h = by_due_alone ∙ in_time_given by_the_rule h

      -- With server and cost in range, a due time above 2^40 is refused with 9.
      rule_refused : max_time < by_the_rule → odd_due_of v last t cost ≡ Err DueTooLate
      rule_refused h = by_due_alone ∙ late_refused by_the_rule h

      -- With server and cost in range, where a time before the due time is refused, the due time is refused alike.
      pub late_before : (w : ℕ) (e : Refusal) → Err e ≡ not_too_late w → w ≤ by_the_rule → Err e ≡ odd_due_of v last t cost
      late_before w e late h =
          let p = refused w e late in
          late ∙ late_refused w p.0 ∙ sym (rule_refused (omega (arith, p.0)))

  -- One of four cases holds, and each of them has its answer.
  by_answer : {G : Type 0}
      → (server_in_range v ≡ true → from_one_to max_c cost ≡ true → by_the_rule ≤ max_time → odd_due_of v last t cost ≡ Ok (record { 0 = by_the_rule }) → G)
      → (server_in_range v ≡ true → from_one_to max_c cost ≡ true → max_time < by_the_rule → odd_due_of v last t cost ≡ Err DueTooLate → G)
      → (server_in_range v ≡ true → from_one_to max_c cost ≡ false → odd_due_of v last t cost ≡ Err CostOutOfRange → G)
      → (server_in_range v ≡ false → odd_due_of v last t cost ≡ Err ValueOutOfRange → G) → G
  by_answer {G} given late wrong out =
      by_test (server_in_range v)
      (λ fine. by_test (from_one_to max_c cost) (by_time fine) (λ e. wrong fine e (cost_refused fine e)))
      (λ e. out e (none_given e))
    where
      by_time : server_in_range v ≡ true → from_one_to max_c cost ≡ true → G
      by_time fine allowed =
          by_lt max_time by_the_rule (λ h. late fine allowed h (rule_refused fine allowed h)) (λ h. given fine allowed h (rule_given fine allowed h))

  -- The answer is a due time exactly when it is the one by the rule.
  pub odd_due_given : (at : Tick) → (odd_due_of v last t cost ≡ Ok at) ↔ GivenOddDue v last t cost at.0
  odd_due_given at = (
    λ e. by_answer
        (λ fine allowed h a.
        let same : record { 0 = by_the_rule } ≡ at = cc in
        let by_rule : by_the_rule ≡ at.0 = ap number same in
        record { in_range = fine; cost_allowed = allowed; by_rule = by_rule; in_time = omega arith })
        (λ fine allowed h a. impossible cc)
        (λ fine wrong a. impossible cc)
        (λ out a. impossible cc),
    λ g.
        let in_time : by_the_rule ≤ max_time = omega (arith, g.by_rule, g.in_time) in
        rule_given g.in_range g.cost_allowed in_time ∙ rw g.by_rule,
  )

  -- The answer is refusal 9 exactly when server and cost are in range and the due time by the rule is above 2^40.
  pub odd_due_too_late : (odd_due_of v last t cost ≡ Err DueTooLate)
      ↔ ((server_in_range v ≡ true) × (from_one_to max_c cost ≡ true) × (max_time < by_the_rule))
  odd_due_too_late = (
    λ e. by_answer
        (λ fine allowed h a. impossible cc)
        (λ fine allowed h a. (fine, allowed, h))
        (λ fine wrong a. impossible cc)
        (λ out a. impossible cc),
    λ h. rule_refused h.0 h.1 h.2,
  )

  -- The answer is refusal 7 exactly when the server is in range and the cost is not.
  pub odd_due_cost : (odd_due_of v last t cost ≡ Err CostOutOfRange) ↔ ((server_in_range v ≡ true) × (from_one_to max_c cost ≡ false))
  odd_due_cost = (
    λ e. by_answer
        (λ fine allowed h a. impossible cc)
        (λ fine allowed h a. impossible cc)
        (λ fine wrong a. (fine, wrong))
        (λ out a. impossible cc),
    λ h. cost_refused h.0 h.1,
  )

  -- The answer is refusal 3 exactly when the server is out of range.
  pub odd_due_out_of_range : (odd_due_of v last t cost ≡ Err ValueOutOfRange) ↔ (server_in_range v ≡ false)
  odd_due_out_of_range = (
    λ e. by_answer
        (λ fine allowed h a. impossible cc)
        (λ fine allowed h a. impossible cc)
        (λ fine wrong a. impossible cc)
        (λ out a. out),
    none_given,
  )

-- ---- what each answer says

pub odd_given_means : OddGivenMeans
odd_given_means v last t cost at =
    by_what_it_says due_says dues_said_apart.0 (odd_due_of v last t cost) (Ok (record { 0 = at })) (odd_due_given v last t cost (record { 0 = at }))

pub odd_too_late_means : OddTooLateMeans
odd_too_late_means v last t cost =
    by_what_it_says due_says dues_said_apart.0 (odd_due_of v last t cost) (Err DueTooLate) (odd_due_too_late v last t cost)

pub odd_cost_means : OddCostMeans
odd_cost_means v last t cost =
    by_what_it_says due_says dues_said_apart.0 (odd_due_of v last t cost) (Err CostOutOfRange) (odd_due_cost v last t cost)

pub odd_out_of_range_means : OddOutOfRangeMeans
odd_out_of_range_means v last t cost =
    by_what_it_says due_says dues_said_apart.0 (odd_due_of v last t cost) (Err ValueOutOfRange) (odd_due_out_of_range v last t cost)
