-- The record's bytes where check 4 passes, else the empty part.
use mathlib.Core.Path.{◌∙◌, sym}
use native.Mathlib.Omega.{arith}
use Rattle.codec.proofs.Sizes.{place_before}
use Rattle.journal.proofs.Booked.{reflect_booked}
use Rattle.journal.specs.Journal.{record_at}
use Rattle.journal.proofs.lookup.Goals as goal

pub slot-requires : goal.slot-requires
slot-requires c =
    let a = c.args in
    let b = (reflect_booked a.version a.journal.now a.booked a.job).sound (sym c.is_booked.ensures ∙ c.if-is_booked.true) in
    omega (arith, b.inside, place_before a.version a.job a.booked b.below)

pub returns-then-is_booked : goal.returns-then-is_booked
unfolding record_at
returns-then-is_booked c = simp (sym c.is_booked.ensures ∙ c.if-is_booked.true) c.slot.ensures

pub returns : goal.returns
unfolding record_at
returns c = simp (sym c.is_booked.ensures ∙ c.if-is_booked.false)
