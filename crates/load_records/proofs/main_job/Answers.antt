-- Each return is the job of its case, with the tapes that were made for it.
use borrow.Author.Tests.{eq-eqb, ne_eqb}
use Rattle.load.specs.Records.{main_job}
use Rattle.load_records.proofs.main_job.Goals as goal

pub returns-then-round-eq0 : goal.returns-then-round-eq0
unfolding main_job
returns-then-round-eq0 c = simp (eq-eqb _ _ c.if-round-eq0.true, c.accession.ensures, c.tape-then-round-eq0.ensures, c.tape.ensures)

pub returns : goal.returns
unfolding main_job
returns c = simp (
  ne_eqb _ _ c.if-round-eq0.false,
  c.migration.ensures,
  c.tape-5.ensures,
  c.tape-4.ensures,
  c.tape-3.ensures,
  c.tape-2.ensures,
)
