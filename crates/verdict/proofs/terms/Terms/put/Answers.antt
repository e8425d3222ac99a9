-- `Terms::put` meets its contract: the term stands after those that are there.
use mathlib.Core.Path.{◌≡◌, refl}
use Rattle.std.proofs.Common.{rules}
use lib.ListN.{length}
use Rattle.theory.specs.Terms.{reciprocal}
use Rattle.verdict.specs.HeldTerms.{parts, held_entries, group_of}
use Rattle.verdict.proofs.FilledTerms.{six_stores, one_more_filled}
use Rattle.verdict.proofs.terms.Terms.put.Goals as goal

pub invariant_of-self : goal.invariant_of-self
invariant_of-self c =
    let a = c.args in
    let t = a.self.now in
    let long : length t.entries ≡ held_entries = search rules in
    record {
      held = rw (six_stores t.entries (group_of t.count) (reciprocal parts a.a a.b) a.w a.up a.down a.b a.a)
          (one_more_filled (record { as_long = long; held = t.held; demands = λ L. refl }) c.requires.0 a.b a.a a.w a.up a.down c.requires.1).held;
    }
