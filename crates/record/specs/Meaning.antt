-- What a used entry is, and a label, said without a search. proofs/Meaning.antt shows that the tests decide these claims.
use Rattle.std.specs.Prelude.{◌⊎◌, ◌≡◌, ◌-◌, ◌<◌, ◌≤◌, ℕ}
use Rattle.base.specs.Search.{Every}
use Rattle.record.specs.Labels.{char_at}
use Rattle.record.specs.declared.Job.{Job}

-- an input that the job counts, or an output
abbrev pub Used : Job → ℕ → Type 0
Used j i = ((i < 4) × (i < j.inputs)) ⊎ ((4 ≤ i) × (i - 4 < j.outputs))

abbrev pub Alphanumeric : ℕ → Type 0
Alphanumeric c = ((48 ≤ c) × (c ≤ 57)) ⊎ ((65 ≤ c) × (c ≤ 90))

-- six of A–Z or 0–9, then two characters with this ending
pub record Named (Ending : ℕ → Type 0) (label : ℕ) : Type 0 where
  pub name : Every 6 (λ i. Alphanumeric (char_at label i))
  pub ending : Ending label

-- `L` and a digit 5 to 9
abbrev pub EndsL : ℕ → Type 0
EndsL label = (char_at label 6 ≡ 76) × ((53 ≤ char_at label 7) × (char_at label 7 ≤ 57))

-- `M8`
abbrev pub EndsM8 : ℕ → Type 0
EndsM8 label = (char_at label 6 ≡ 77) × (char_at label 7 ≡ 56)

abbrev pub Label : ℕ → Type 0
Label label = Named (λ l. EndsL l ⊎ EndsM8 l) label
