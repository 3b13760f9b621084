use Rattle.parsing.proofs.Singles.{hex_taken, singles}
use native.Mathlib.Omega.{arith}
use borrow.Author.Rules.{rules}
use Rattle.parsing.proofs.items.hex.Goals as goal

ruleset by = (singles, rules)

pub returns : goal.returns
returns c =
    let second = c in
    let first = second in
    hex_taken _ _ _ _ _ c.token-2.ensures (omega arith) first.hex_of-a.ensures (omega arith) second.hex_of-b.ensures (omega arith)

pub returns-then-text-at-lt2 : goal.returns-then-text-at-lt2
returns-then-text-at-lt2 c = search by

pub returns-then-a-gt15 : goal.returns-then-a-gt15
returns-then-a-gt15 c = search by

pub returns-then-b-gt15 : goal.returns-then-b-gt15
returns-then-b-gt15 c = search by
