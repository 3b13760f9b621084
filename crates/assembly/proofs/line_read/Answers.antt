-- The first line is the header; any other is a step of the version that the header names.
use Rattle.assembly.proofs.Making.{header_line_lem, step_line}
use Rattle.assembly.proofs.line_read.Goals as goal

pub returns-then-made-eq0 : goal.returns-then-made-eq0
returns-then-made-eq0 c =
    let start = c in
    header_line_lem start.args.made.now start.args.at c.if-made-eq0.true c.header_read.ensures

pub returns : goal.returns
returns c =
    let step = c in
    let version = step in
    let start = version in
    step_line start.args.made.now start.args.at _ version.if-made-eq0.false version.word_at.ensures step.step_read.ensures
