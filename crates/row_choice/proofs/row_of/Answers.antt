use mathlib.Core.Path.{refl}
use Rattle.base.proofs.Tests.{flag_true}
use Rattle.row_choice.proofs.Chosen.{choices, of_kind, stands}
use native.Mathlib.Omega.{arith}
use borrow.Author.Rules.{rules}
use Rattle.row_choice.proofs.row_of.Goals as goal

ruleset by = (choices, flag_true, rules)

pub returns : goal.returns
returns c =
    of_kind _ _ _ _ c.byte_at-kind.ensures c.if-kind-eq1.false refl
    (stands c.put_row.ensures.0 (omega (arith, c.put_row.ensures.1)) (search rules))

pub returns-then-kind-eq1 : goal.returns-then-kind-eq1
returns-then-kind-eq1 c = search by
