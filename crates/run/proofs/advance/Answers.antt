-- The run is carried on from the front of the buffer, with nothing kept of kind 13 yet; no file has more steps than 65,536.
use mathlib.Core.Path.{refl}
use Rattle.run.proofs.Once.{advanced, to_advance}
use Rattle.run.proofs.advance.Goals as goal

pub carry_on-turned-requires : goal.carry_on-turned-requires
carry_on-turned-requires c =
    let u = c in
    let p = u.requires in
    to_advance p _ u.cursor_at-c.ensures _ refl

pub returns : goal.returns
returns c =
    let r = c in
    advanced _ r.cursor_at-c.ensures r.carry_on-turned.ensures
