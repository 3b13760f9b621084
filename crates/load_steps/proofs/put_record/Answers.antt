-- The record is written into the part that is lent.
use mathlib.Core.Path.{refl}
use Rattle.load.proofs.Writes.{eight, recorded}
use Rattle.load.specs.Records.{job_for}
use Rattle.load_steps.proofs.put_record.Goals as goal

pub returns : goal.returns
returns c = let a = c.args in (
  recorded a.out.now _ a.at (job_for a.first a.job) _ (eight a.first a.job) c.requires
      c.job.ensures c.write.ensures.1,
  refl,
)
