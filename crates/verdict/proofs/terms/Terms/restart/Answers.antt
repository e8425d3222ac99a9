-- `Terms::restart` meets its contract: the first three entries are the timer's, and there is no term.
use Prim.Native.Nat.{ℕ}
use mathlib.Core.Path.{◌≡◌, refl, ap, ◌∙◌}
use mathlib.Core.List.{List}
use lib.ListN.{set}
use Rattle.std.proofs.Common.{rules}
use Rattle.theory.specs.Ticks.{timer_takes}
use Rattle.verdict.specs.HeldTerms.{held_s, held_p}
use Rattle.verdict.proofs.HeldTerms.{no_terms}
use Rattle.verdict.proofs.terms.Terms.restart.Goals as goal

pub returns : goal.returns
returns c =
    let a = c.args in
    let l : List ℕ = set (set (set a.self.now.entries 0 a.s) 1 a.p) 2 a.m in
    let s_so : held_s l ≡ a.s = search rules in
    let p_so : held_p l ≡ a.p = search rules in
    (search rules, refl, p_so, λ L. no_terms l L ∙ ap (λ s. timer_takes s (held_p l) L) s_so ∙ ap (λ p. timer_takes a.s p L) p_so)
