-- The proofs of the laws about the refusals' numbers. No two refusals share a number, because a list gives each number its refusal back.
use Prim.Native.Nat.{ℕ, ◌≤◌}
use mathlib.Core.Path.{◌≡◌, refl, sym, ap, ap₂, ◌∙◌}
use mathlib.Core.Logic.{inl, inr, ⊎_elim}
use mathlib.Core.List.{List, [], ◌∷◌, ◌++◌}
use native.Mathlib.Decide.{dec_le}
use native.Mathlib.Omega.{arith}
use lib.ListN.{take, get_or, get_or-eq_default}
use Rattle.kinds.specs.declared.Refusal.{Refusal}
use Rattle.kinds.specs.declared.Refusal.TheVariants as refusal
use Rattle.kinds.specs.Numbering.{refusal_number, all_refusals, NumbersDiffer, NeverZero, NeverAnAnswer, LatestTime, NumbersInOrder, RefusalSays}
use Rattle.kinds.specs.Numbering.{Said, Says, RefusalsApart, PlainRefusalsApart}
use Rattle.kinds.specs.Numbering as says

-- The refusals numbered 1 to 18, each at the place of its number. (No refusal has the number 0 or 15, so these two places are never looked at.)
in_order : List Refusal
in_order = refusal.Misspelled ∷ (take 14 all_refusals ++ (refusal.Misspelled ∷ refusal.HopelessRow ∷ refusal.NotPending ∷ refusal.TooManyEnded ∷ []))

-- The refusal with a given number.
numbered : ℕ → Refusal
unfolding in_order
numbered n = get_or in_order n refusal.NumberTooBig

-- The number of a refusal gives back that refusal.
back : (r : Refusal) → numbered (refusal_number r) ≡ r
unfolding in_order numbered
back refusal.Misspelled = refl
back refusal.TooManyRows = refl
back refusal.ValueOutOfRange = refl
back refusal.ExtraBytes = refl
back refusal.PeriodTooLong = refl
back refusal.NoSuchRow = refl
back refusal.CostOutOfRange = refl
back refusal.PlacesFull = refl
back refusal.DueTooLate = refl
back refusal.TimeTooLate = refl
back refusal.RunNotSound = refl
back refusal.NoRoom = refl
back refusal.AnswerNot16Bytes = refl
back refusal.ScriptMisspelled = refl
back refusal.HopelessRow = refl
back refusal.NotPending = refl
back refusal.TooManyEnded = refl
back refusal.NumberTooBig = refl

pub numbers_differ : NumbersDiffer
numbers_differ r s e = sym (back r) ∙ ap numbered e ∙ back s

-- What a numbered answer says. For an answer that says its values alone this is zeros.
abbrev pub said_in : Says → Said
said_in (says.Says.numbered s) = s
said_in (says.Says.values vs) = record { number = 0; first = 0; second = 0 }

pub refusals_apart : RefusalsApart
refusals_apart q r e =
    ap₂ (λ kind place. record { refusal = kind; place = place }) (numbers_differ q.refusal r.refusal (ap (λ a. (said_in a).number) e))
    (ap (λ a. (said_in a).first) e)

pub plain_refusals_apart : PlainRefusalsApart
plain_refusals_apart q r e = numbers_differ q r (ap (λ a. (said_in a).number) e)

-- The refusal that the list has for a refusal's number has that number.
same : (r : Refusal) → refusal_number r ≡ refusal_number (numbered (refusal_number r))
same r = ap refusal_number (sym (back r))

pub never_zero : NeverZero
unfolding in_order numbered
never_zero r = elim (dec_le 1 (refusal_number r)) [
  | yes l ↦ l
  | no l ↦ let z : refusal_number r ≡ 0 = omega arith in absurd (let e : ◌≡◌ {A = ℕ} 0 1 = sym z ∙ same r ∙ ap (λ n. refusal_number (numbered n)) z in omega arith)
]

pub never_an_answer : NeverAnAnswer
unfolding in_order numbered
never_an_answer r = elim (dec_le 20 (refusal_number r)) [
  | yes l ↦ inr (let e : refusal_number r ≡ 25 = same r ∙ ap refusal_number (get_or-eq_default in_order refusal.NumberTooBig {n = refusal_number r} (omega arith)) in omega arith)
  | no l ↦ inl (omega arith)
]

-- No refusal has a number from 20 to 23.
pub no_answer : (r : Refusal) → 20 ≤ refusal_number r → refusal_number r ≤ 23 → ⊥
no_answer r least most = ⊎_elim (λ h. omega arith) (λ h. omega arith) (never_an_answer r)

pub latest_time : LatestTime
latest_time = refl

pub numbers_in_order : NumbersInOrder
numbers_in_order = refl

pub refusal_says : RefusalSays
refusal_says r place = refl
