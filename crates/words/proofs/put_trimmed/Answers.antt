use Rattle.words.proofs.Copies.{frames_end, frames_put, rows_put, zeros_put}
use borrow.Author.Rules.{rules}
use Rattle.words.proofs.put_trimmed.Goals as goal

ruleset by = (rows_put, rules)

pub returns-then-trimmed-eq0 : goal.returns-then-trimmed-eq0
returns-then-trimmed-eq0 c =
    let put = zeros_put _ _ c.if-version-ne2.false c.if-trimmed-eq0.true c.put_times.ensures.0 in
    (put, frames_end _ _ put)

pub returns-else-trimmed-eq0 : goal.returns-else-trimmed-eq0
returns-else-trimmed-eq0 c =
    let put = frames_put _ _ c.if-version-ne2.false c.if-trimmed-eq0.false c.put.ensures.0 in
    (put, frames_end _ _ put)

pub returns-then-version-ne2 : goal.returns-then-version-ne2
returns-then-version-ne2 c = search by
