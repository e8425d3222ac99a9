-- What the private functions of the rings compute, for their contracts alone. (docs/RULES.md, section 4.)
use Rattle.std.specs.Prelude.{ℕ, ◌+◌, max, cond, ltb, Option, Some, None}

-- The place in a row's ring where its next due time goes. It is the first unused place while fewer than x are kept, and the oldest's place after that. (4.6)
abbrev pub place_in : (many oldest x : ℕ) → ℕ
place_in many oldest x = cond (ltb many x) many oldest

-- The due time of a job released at t. It is t + d; if it is spaced from an earlier due time, it is the later of t + d and that one + y. (4.2, 4.3, 4.6)
abbrev pub due_after : (t d y : ℕ) (before : Option ℕ) → ℕ
due_after t d y None = t + d
due_after t d y (Some before) = max (t + d) (before + y)
