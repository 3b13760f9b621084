-- The run is carried on up to the next number: there is a next step, and room for its text, so it is carried out.
use Rattle.run.proofs.Once.{to_turn, turned_once}
use Rattle.run.proofs.turn.Goals as goal

pub carry_on-requires : goal.carry_on-requires
carry_on-requires c =
    let u = c in
    let p = u.requires in
    to_turn p.0 _ u.cursor_at-c.ensures _ p.1

pub returns : goal.returns
returns c =
    let r = c in
    let p = r.requires in
    turned_once _ r.cursor_at-c.ensures r.carry_on.ensures p.2 p.3
