-- The two sides together, but the job itself.
use mathlib.Core.Path.{◌∙◌}
use Rattle.job_sets.proofs.Jobs.{union_words, without_words}
use Rattle.rivalry.specs.Rivals.{rivals_by}
use Rattle.rivalry.proofs.rivals_by.Goals as goal

pub returns : goal.returns
unfolding rivals_by
returns c =
    let all = c.union.ensures in
    let writers = c.sharers-writers.ensures in
    let readers = c.sharers-readers.ensures in (
      c.without.ensures ∙ simp (all, writers.0, readers.0),
      rw (c.without.ensures, all) (without_words _ _ (union_words _ _ readers.1 writers.1)),
    )
