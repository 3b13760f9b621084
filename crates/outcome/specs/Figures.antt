-- The two figures that document 01 gives for each answer ("Turned back"): its number, and its value.
use Rattle.std.specs.Prelude.{ℕ, Result, Ok, Err}
use Rattle.outcome.specs.declared.Refusal.{Refusal}

-- what a step answers, its value or why it is refused; and the answer of a row of checks
abbrev pub Outcome : Type 0
Outcome = Result ℕ Refusal

abbrev pub Verdict : Type 0
Verdict = Result (Unit {0}) Refusal

-- a refusal's place in the table, and the entry of refusals 7, 8 and 11 to 14, else 0; document 02 has 19 and 20 (M-105), 21 (M-108), 22 and 23 (M-109), 24,
-- with an entry, and 25 (M-110), and 26 (M-111)
abbrev figures_of : Refusal → ℕ × ℕ
figures_of Refusal.Settings = (1, 0)
figures_of Refusal.Unreadable = (2, 0)
figures_of Refusal.NoVault = (3, 0)
figures_of Refusal.NotBooked = (4, 0)
figures_of Refusal.WrongVault = (5, 0)
figures_of Refusal.Malformed = (6, 0)
figures_of (Refusal.Repeated e) = (7, e)
figures_of (Refusal.Unsupported e) = (8, e)
figures_of Refusal.Unbalanced = (9, 0)
figures_of Refusal.Full = (10, 0)
figures_of (Refusal.NotCreated e) = (11, e)
figures_of (Refusal.Retired e) = (12, e)
figures_of (Refusal.InputReserved e) = (13, e)
figures_of (Refusal.OutputReserved e) = (14, e)
figures_of Refusal.NotSigned = (15, 0)
figures_of Refusal.TooFewSigners = (16, 0)
figures_of Refusal.TooManyAbsent = (17, 0)
figures_of Refusal.NotHeld = (18, 0)
figures_of Refusal.NotSignedHere = (19, 0)
figures_of Refusal.NotSuperseded = (20, 0)
figures_of Refusal.NoSetWorks = (21, 0)
figures_of Refusal.NoClient = (22, 0)
figures_of Refusal.OverQuota = (23, 0)
figures_of (Refusal.Reversed e) = (24, e)
figures_of Refusal.NoneBalances = (25, 0)
figures_of Refusal.NoContest = (26, 0)

abbrev pub refusal_number : Refusal → ℕ
refusal_number r = (figures_of r).0

abbrev pub refusal_value : Refusal → ℕ
refusal_value r = (figures_of r).1

-- a step carried out is 0 with its value
abbrev pub number_of : Outcome → ℕ
number_of (Ok v) = 0
number_of (Err r) = refusal_number r

abbrev pub value_of : Outcome → ℕ
value_of (Ok v) = v
value_of (Err r) = refusal_value r
