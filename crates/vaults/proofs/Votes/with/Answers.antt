use Rattle.vaults.proofs.Votes.with.Goals as goal

pub returns-in-Signatures : goal.returns-in-Signatures
returns-in-Signatures c = simp (c.in-Signatures.is, c.with.ensures)

pub returns-in-Acknowledgements : goal.returns-in-Acknowledgements
returns-in-Acknowledgements c = simp (c.in-Acknowledgements.is, c.with-in-Acknowledgements.ensures)
