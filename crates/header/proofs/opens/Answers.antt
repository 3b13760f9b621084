-- Each return is one way through the tests.
use mathlib.Core.Path.{◌∙◌, sym}
use borrow.Author.Tests.{le-leb, lt-leb}
use Rattle.runfile.specs.Run.{opens_up_to}
use Rattle.header.proofs.opens.Goals as goal

pub returns-then-input-gt65536 : goal.returns-then-input-gt65536
unfolding opens_up_to
returns-then-input-gt65536 c = simp (lt-leb _ _ c.if-input-gt65536.true)

pub returns-else-is_header : goal.returns-else-is_header
unfolding opens_up_to
returns-else-is_header c = simp (le-leb _ _ c.if-input-gt65536.false, sym c.is_header.ensures ∙ c.if-is_header.false) c.if-is_header.false

pub returns-then-is_header : goal.returns-then-is_header
unfolding opens_up_to
returns-then-is_header c =
    simp (le-leb _ _ c.if-input-gt65536.false, sym c.is_header.ensures ∙ c.if-is_header.true, ← c.settings_in.ensures, c.is_lawful.ensures)
