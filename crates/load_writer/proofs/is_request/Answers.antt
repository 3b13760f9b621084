-- Ten bytes are counted first; then the settings are tested as check 1 tests them.
use borrow.Author.Tests.{eq-eqb, ne_eqb}
use Rattle.load.specs.Loads.{is_request}
use Rattle.load_writer.proofs.is_request.Goals as goal

pub returns : goal.returns
unfolding is_request
returns c = simp (eq-eqb _ _ c.if-input-ne-REQUEST.false) c.is_lawful.ensures

pub returns-then-input-ne-REQUEST : goal.returns-then-input-ne-REQUEST
unfolding is_request
returns-then-input-ne-REQUEST c = simp (ne_eqb _ _ c.if-input-ne-REQUEST.true)
