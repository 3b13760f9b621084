-- The row that the word chooses.
use Rattle.lines.proofs.ByRow.{no_word_lem, reads, second_header_lem}
use native.Mathlib.Omega.{arith}
use borrow.Author.Rules.{rules}
use Rattle.lines.proofs.step_read.Goals as goal

ruleset by = (reads, rules)

pub returns-then-k-ge-ROWS : goal.returns-then-k-ge-ROWS
returns-then-k-ge-ROWS c =
    let chosen = c in
    let start = chosen in
    no_word_lem _ _ _ _ _ start.requires.0 (omega (arith, start.requires.2)) _ _ chosen.row_for-k.ensures c.if-k-ge-ROWS.true c.wrong.ensures

pub returns-then-k-lt2 : goal.returns-then-k-lt2
returns-then-k-lt2 c =
    let chosen = c in
    let start = chosen in
    second_header_lem _ _ _ _ _ start.requires.0 (omega (arith, start.requires.2)) _ _ chosen.row_for-k.ensures c.if-k-ge-ROWS.false
    c.if-k-lt2.true c.wrong-then-k-lt2.ensures

pub returns-then-k-le3 : goal.returns-then-k-le3
returns-then-k-le3 c = search by

pub returns-then-k-eq4 : goal.returns-then-k-eq4
returns-then-k-eq4 c = search by

pub returns : goal.returns
returns c = search by
