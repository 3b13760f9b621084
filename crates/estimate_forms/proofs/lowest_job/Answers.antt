-- Each entry has its label and its lowest count, in order.
use Rattle.std.proofs.Common.{rules}
use Rattle.estimate_forms.proofs.Made.{made}
use Rattle.ranges.specs.Form.{lowest_entry, lowest_job}
use Rattle.record.specs.Entries.{no_entry}
use Rattle.estimate_forms.proofs.lowest_job.Goals as goal

pub returns : goal.returns
unfolding lowest_entry lowest_job
returns c = simp (made _ (lowest_entry c.args.e) (λ x r q k. search rules) _ no_entry 8 c.from_fn-entries.ensures.items)
