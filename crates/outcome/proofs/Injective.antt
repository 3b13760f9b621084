-- No two cases have one number: the outcome is found again from its number and its value. So what is printed of a
-- step, the two figures, tells its outcome, and a definition that speaks of a number speaks of one case.
use mathlib.Core.Bool.{cond}
use mathlib.Core.List.{List, [], ◌∷◌}
use mathlib.Core.Path.{◌≡◌, refl, sym, ap, ap₂, ◌∙◌}
use Prim.Native.Nat.{ℕ}
use lib.Dec.{eqb}
use Rattle.std.specs.Prelude.{Ok, Err}
use Rattle.outcome.specs.declared.Refusal.{Refusal}
use Rattle.outcome.specs.Figures.{refusal_number, refusal_value, number_of, value_of, Outcome}

-- all refusals, with this value where one is carried
abbrev table : ℕ → List Refusal
table value =
    Refusal.Settings ∷ Refusal.Unreadable ∷ Refusal.NoVault ∷ Refusal.NotBooked ∷ Refusal.WrongVault ∷ Refusal.Malformed
    ∷ Refusal.Repeated value ∷ Refusal.Unsupported value ∷ Refusal.Unbalanced ∷ Refusal.Full
    ∷ Refusal.NotCreated value ∷ Refusal.Retired value ∷ Refusal.InputReserved value ∷ Refusal.OutputReserved value
    ∷ Refusal.NotSigned ∷ Refusal.TooFewSigners ∷ Refusal.TooManyAbsent ∷ Refusal.NotHeld ∷ Refusal.NotSignedHere ∷ Refusal.NotSuperseded
    ∷ Refusal.NoSetWorks ∷ Refusal.NoClient ∷ Refusal.OverQuota ∷ Refusal.Reversed value ∷ Refusal.NoneBalances ∷ Refusal.NoContest ∷ []

-- the refusal among these that has this number; where none has, a step carried out
abbrev numbered : ℕ → ℕ → List Refusal → Outcome
numbered number value [] = Ok value
numbered number value (r ∷ l) = cond (eqb (refusal_number r) number) (Err r) (numbered number value l)

-- the outcome with these figures
abbrev pub outcome_at : ℕ → ℕ → Outcome
outcome_at number value = numbered number value (table value)

refusal_back : (r : Refusal) → outcome_at (refusal_number r) (refusal_value r) ≡ Err r
refusal_back Refusal.Settings = refl
refusal_back Refusal.Unreadable = refl
refusal_back Refusal.NoVault = refl
refusal_back Refusal.NotBooked = refl
refusal_back Refusal.WrongVault = refl
refusal_back Refusal.Malformed = refl
refusal_back (Refusal.Repeated e) = refl
refusal_back (Refusal.Unsupported e) = refl
refusal_back Refusal.Unbalanced = refl
refusal_back Refusal.Full = refl
refusal_back (Refusal.NotCreated e) = refl
refusal_back (Refusal.Retired e) = refl
refusal_back (Refusal.InputReserved e) = refl
refusal_back (Refusal.OutputReserved e) = refl
refusal_back Refusal.NotSigned = refl
refusal_back Refusal.TooFewSigners = refl
refusal_back Refusal.TooManyAbsent = refl
refusal_back Refusal.NotHeld = refl
refusal_back Refusal.NotSignedHere = refl
refusal_back Refusal.NotSuperseded = refl
refusal_back Refusal.NoSetWorks = refl
refusal_back Refusal.NoClient = refl
refusal_back Refusal.OverQuota = refl
refusal_back (Refusal.Reversed e) = refl
refusal_back Refusal.NoneBalances = refl
refusal_back Refusal.NoContest = refl

pub outcome_back : (o : Outcome) → outcome_at (number_of o) (value_of o) ≡ o
outcome_back (Ok v) = refl
outcome_back (Err r) = refusal_back r

-- outcomes with one number are the same case, each with its own value
pub number_injective : (o p : Outcome) → number_of o ≡ number_of p → p ≡ outcome_at (number_of o) (value_of p)
number_injective o p e = sym (ap (λ (n : ℕ). outcome_at n (value_of p)) e ∙ outcome_back p)

-- outcomes with the same figures are equal
pub figures_injective : (o p : Outcome) → number_of o ≡ number_of p → value_of o ≡ value_of p → o ≡ p
figures_injective o p e v = sym (outcome_back o) ∙ ap₂ outcome_at e v ∙ outcome_back p
