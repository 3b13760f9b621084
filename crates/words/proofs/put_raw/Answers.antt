use Rattle.words.proofs.Copies.{bytes_end, raw_put, rows_put}
use native.Mathlib.Omega.{arith}
use borrow.Author.Rules.{rules}
use Rattle.words.proofs.put_raw.Goals as goal

ruleset by = (rows_put, rules)

pub returns : goal.returns
returns c =
    let bytes = c in
    let size = bytes in
    let row = size in (
      raw_put _ _ size.record_size.ensures.0 row.put_row-end.ensures.0 bytes.put_times.ensures.0,
      omega (arith, bytes_end _ size.record_size.ensures.1.1 bytes.put_times.ensures.0, row.put_row-end.ensures.1),
    )
