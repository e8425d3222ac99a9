-- What the quick search for a verdict lends from call to call: the terms of a demand, a part of them, and a line above the rest. (docs/RULES.md, 5.3 and 5.7.)
use Rattle.std.specs.Prelude.{ℕ, ◌-◌, ◌≡◌}
use mathlib.Core.List.{List}
use Rattle.theory.specs.Descent.{raised}
use Rattle.theory.specs.Parts.{InParts, part_and_line}
use Rattle.verdict.specs.declared.terms.Terms.{Terms}
use Rattle.verdict.specs.declared.line.Line.{Line}
use Rattle.verdict.specs.declared.parts.Part.{Part}
use Rattle.verdict.specs.HeldTerms.{held_demand}
use Rattle.verdict.specs.HeldParts.{part_demand, line_slope, line_lift}

-- The demand that terms hold, in a length L. (5.3)
abbrev pub held_by : Terms → (L : ℕ) → ℕ
held_by t L = held_demand t.entries t.count L

-- What a look at a length L tells: the demand that terms hold, the height of a line, and the line's `extra`.
abbrev pub with_line : Terms → Line → (L : ℕ) → ℕ
with_line t line L = raised (part_and_line (held_by t) line.period line.slope line.lift) line.extra L

-- What `part_of` makes: terms whose demand is the part for P, and the line above the rest.
pub record IsPart (l : List ℕ) (count P period growth : ℕ) (part : Part) : Type 0 where
  pub demands : (L : ℕ) → held_by part.terms L ≡ part_demand l count P L
  pub is_slope : part.line.slope ≡ line_slope l count P period
  pub is_lift : part.line.lift ≡ line_lift l count P period
  pub is_period : part.line.period ≡ period
  pub is_extra : part.line.extra ≡ growth - period

-- With the part and the line above the rest the demand f is in parts.
pub record IsLine (f : ℕ → ℕ) (part : Terms) (start P period growth : ℕ) (line : Line) : Type 0 where
  pub is_period : line.period ≡ period
  pub is_extra : line.extra ≡ growth - period
  pub in_parts : InParts f (held_by part) start P line.period growth line.slope line.lift
