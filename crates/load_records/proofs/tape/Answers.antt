-- The label is the one that was made.
use Rattle.load_records.proofs.tape.Goals as goal

pub returns : goal.returns
returns c = cc
