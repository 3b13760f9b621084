-- The job's position is the first at which it stands, so `generation` answers there.
use mathlib.Core.Path.{sym}
use native.Mathlib.Omega.{arith}
use Rattle.generations.proofs.Memos.{age_found, age_missing, position_first}
use Rattle.generations.proofs.age_along.Goals as goal

pub generation-requires : goal.generation-requires
generation-requires c =
    let s = c in
    let first = position_first s.args.order.now _ _ _ (sym c.in-Some.ensures.1) c.in-Some.ensures.0 in
    record {
      ready = s.requires;
      first_at = rw (sym first.has) at first;
    }

pub returns-in-Some : goal.returns-in-Some
returns-in-Some c =
    let g = c.generation.ensures in
    record {
      value = age_found _ _ _ _ _ _ (sym c.in-Some.ensures.1) c.in-Some.ensures.0 g.value;
      memo = g.memo;
    }

pub returns-in-None : goal.returns-in-None
returns-in-None c =
    let s = c in
    record {
      value = age_missing _ _ _ _ _ (sym c.in-None.ensures) (omega arith);
      memo = s.requires.right;
    }
