use Rattle.words.proofs.Copies.{half_end, half_put, rows_put}
use borrow.Author.Rules.{rules}
use Rattle.words.proofs.put_half.Goals as goal

ruleset by = (rows_put, rules)

pub returns : goal.returns
returns c =
    let zeros = c in
    let entries = zeros in
    let put = half_put _ entries.put_times-end.ensures.0 zeros.put_times.ensures.0 in
    (put, half_end _ entries.requires.0 put)
