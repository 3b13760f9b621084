-- Each return is one way through check 4 of the rival, 19 and 20.
use Rattle.journal.proofs.Booked.{reflect_booked}
use Rattle.ledger.specs.Decisions.{supersession}
use mathlib.Core.Path.{◌∙◌, sym}
use Rattle.supersession.proofs.supersession.Goals as goal

pub is_superseded-requires : goal.is_superseded-requires
is_superseded-requires c =
    let b = c in
    let p = b.requires in
    (p.0, ((reflect_booked _ _ _ _).sound (sym b.is_booked.ensures ∙ b.if-not-is_booked.false)).below, p.1)

pub returns-then-not-is_booked : goal.returns-then-not-is_booked
unfolding supersession
returns-then-not-is_booked c = simp (sym c.is_booked.ensures ∙ c.if-not-is_booked.true)

pub returns-then-not-has : goal.returns-then-not-has
unfolding supersession
returns-then-not-has c = simp (sym c.is_booked.ensures ∙ c.if-not-is_booked.false, sym c.has.ensures ∙ c.if-not-has.true)

pub returns-then-is_superseded : goal.returns-then-is_superseded
unfolding supersession
returns-then-is_superseded c =
    simp (
      sym c.is_booked.ensures ∙ c.if-not-is_booked.false,
      sym c.has.ensures ∙ c.if-not-has.false,
      sym c.is_superseded.ensures ∙ c.if-is_superseded.true,
    )

pub returns : goal.returns
unfolding supersession
returns c =
    simp (
      sym c.is_booked.ensures ∙ c.if-not-is_booked.false,
      sym c.has.ensures ∙ c.if-not-has.false,
      sym c.is_superseded.ensures ∙ c.if-is_superseded.false,
    )
