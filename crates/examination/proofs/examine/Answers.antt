-- Each return is one way through the test of `examined`; a record alone is its own front.
use mathlib.Core.Path.{◌∙◌, ◌≡◌, ap, sym}
use lib.ListN.{length}
use borrow.Author.Tests.{eq-eqb, ne_eqb}
use Rattle.codec.proofs.RoundTrip.{front_whole}
use Rattle.codec.specs.Codec.{record_size}
use Rattle.checks.specs.Checks.{check_of, examined}
use Rattle.examination.proofs.examine.Goals as goal

pub returns-then-bytes-record_size : goal.returns-then-bytes-record_size
unfolding examined
returns-then-bytes-record_size c =
    let a = c.args in
    let n : length a.bytes.now ≡ record_size a.version = c.if-bytes-record_size.true ∙ c.record_size.ensures.0 in
    simp (eq-eqb _ _ n) (c.check.ensures ∙ ap check_of (c.read.ensures ∙ front_whole _ _ n))

pub returns-else-bytes-record_size : goal.returns-else-bytes-record_size
unfolding examined
returns-else-bytes-record_size c =
    let a = c.args in
    simp (ne_eqb (length a.bytes.now) (record_size a.version) (λ e. c.if-bytes-record_size.false (e ∙ sym c.record_size.ensures.0)))
