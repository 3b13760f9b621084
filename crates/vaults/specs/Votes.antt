-- The votes on a job: the vaults whose signature of it is recorded, and those whose acknowledgement is. Both are sets of vaults, so a vote is one
-- thing, in one of two columns.
use Rattle.std.specs.Prelude.{ℕ}
use Rattle.sets.specs.Bits.{with_member}
use Rattle.vaults.specs.declared.Column.{Column}
use Rattle.vaults.specs.declared.Column.TheVariants.{Acknowledgements, Signatures}
use Rattle.vaults.specs.declared.Votes.{Votes}

abbrev pub no_votes : Votes
no_votes = record { signatures = 0; acknowledgements = 0 }

abbrev pub column_of : Column → Votes → ℕ
column_of Signatures x = x.signatures
column_of Acknowledgements x = x.acknowledgements

-- the vault's vote joins those in the column
abbrev pub with_vote : Column → ℕ → Votes → Votes
with_vote Signatures v x = record { signatures = with_member 16 x.signatures v; acknowledgements = x.acknowledgements }
with_vote Acknowledgements v x = record { signatures = x.signatures; acknowledgements = with_member 16 x.acknowledgements v }
