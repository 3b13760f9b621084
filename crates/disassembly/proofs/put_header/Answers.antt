-- The header's row is the version's.
use Rattle.row_choice.proofs.Chosen.{stands}
use Rattle.disassembly.proofs.Made.{line_end, line_put, row_end, row_room_lem}
use Rattle.disassembly.proofs.Saying.{header_few, header_is, header_long, header_some}
use native.Mathlib.Omega.{arith}
use borrow.Author.Rules.{rules}
use Rattle.disassembly.proofs.put_header.Goals as goal

ruleset by = (header_long, header_some, rules)

pub write_row-end-requires : goal.write_row-end-requires
write_row-end-requires c =
    let front = c in
    let put = front in
    let start = put in
    let row = stands put.put_row-n.ensures.0 (omega (arith, put.put_row-n.ensures.1)) (search rules) in
    let few = header_few _ _ start.requires.0 start.requires.1 _ row (search rules) in
    (search rules, row_room_lem _ row front.front.ensures.0 0 _ (omega (arith, few, start.requires.2)))

pub put-requires : goal.put-requires
put-requires c =
    let write = c in
    let front = write in
    let put = front in
    let start = put in
    let row = stands put.put_row-n.ensures.0 (omega (arith, put.put_row-n.ensures.1)) (search rules) in
    let few = header_few _ _ start.requires.0 start.requires.1 _ row (search rules) in
    omega (arith, few, row_end _ row front.front.ensures.0 0 _ write.write_row-end.ensures.1, start.requires.2)

pub returns : goal.returns
returns c =
    let end = c in
    let write = end in
    let part = write in
    let front = part in
    let put = front in
    let start = put in
    let row = stands put.put_row-n.ensures.0 (omega (arith, put.put_row-n.ensures.1)) (search rules) in
    let few = header_few _ _ start.requires.0 start.requires.1 _ row (search rules) in (
      header_is _ _ _ _ start.requires.0 (search rules) part.part.ensures
          (line_put _ row front.front.ensures.0 _ write.write_row-end.ensures.0 end.put.ensures.0),
      omega (arith, few, line_end _ row front.front.ensures.0 0 _ write.write_row-end.ensures.1 _ end.put.ensures.1),
    )

pub overflow_sub-version : goal.overflow_sub-version
overflow_sub-version c = search by

pub part-requires : goal.part-requires
part-requires c = search by
