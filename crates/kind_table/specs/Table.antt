-- The table of kinds: of each kind how long its body is, what that names, and whether it looks at all vaults.
use Rattle.std.specs.Prelude.{Bool, false, true, ℕ}
use Rattle.runfile.specs.Steps.{body_size, kind_of}
use Rattle.runfile.specs.declared.Kind.{Kind}
use Rattle.runfile.specs.declared.Kind.TheVariants.{ClientPreflight, Commit, Dependencies, Draw, Equivocating, FaultyAcknowledge, FaultySign, Generations}
use Rattle.runfile.specs.declared.Kind.TheVariants.{Preflight, Propose, Release, Show, Snapshot, Unknown}
use Rattle.kind_table.specs.declared.Form.{Form}
use Rattle.kind_table.specs.declared.Form.TheVariants.{Bare, OfClient, OfJob, OfVault, Unreadable}
use Rattle.kind_table.specs.declared.Operation.{Operation}

-- what the body of a kind names
abbrev pub form_of : Kind → Form
form_of Propose = Bare
form_of Preflight = OfVault
form_of Commit = OfVault
form_of FaultySign = OfVault
form_of FaultyAcknowledge = OfVault
form_of Show = OfJob
form_of Draw = OfJob
form_of Generations = OfJob
form_of Snapshot = Bare
form_of Release = OfVault
form_of Dependencies = OfVault
form_of ClientPreflight = OfClient
form_of Equivocating = Bare
form_of Unknown = Unreadable

-- generations ask which vaults hold the job, missing dependencies which jobs they hold, kind 13 what they signed: all vaults are looked at
abbrev pub is_wide : Kind → Bool
is_wide Propose = false
is_wide Preflight = false
is_wide Commit = false
is_wide FaultySign = false
is_wide FaultyAcknowledge = false
is_wide Show = false
is_wide Draw = false
is_wide Generations = true
is_wide Snapshot = false
is_wide Release = false
is_wide Dependencies = true
is_wide ClientPreflight = false
is_wide Equivocating = true
is_wide Unknown = false

abbrev pub row_of : ℕ → Kind → Operation
row_of version k = record { kind = k; size = body_size version k; form = form_of k; wide = is_wide k }

unfoldable pub operation_of : ℕ → ℕ → Operation
operation_of version b = row_of version (kind_of b)
