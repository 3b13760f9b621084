-- What is written is the job's record, and a record says its job.
use borrow.Author.Rules.{rules}
use Rattle.codec.proofs.RoundTrip.{entries_fit, same_job}
use Rattle.codec.proofs.Sizes.{size_most}
use mathlib.Core.Path.{◌∙◌}
use Rattle.round_trips.proofs.reread.Goals as goal

pub returns : goal.returns
returns c =
    let entries = c.well_formed.1.0.1.1.1.1.1.1.0.1 in
    c.read.ensures
    ∙ same_job c.args.version c.args.job _ _ (record { eight = entries.0.1; fit = entries_fit _ _ entries.1; trimmed = search rules }) (size_most _)
    c.write.ensures.1
