use Rattle.ledger.proofs.Writes.{is_book_lem, unwritten, written}
use Rattle.gates.proofs.write.Goals as goal

pub put_at-requires : goal.put_at-requires
put_at-requires c =
    let b = is_book_lem _ _ c.is_book.ensures c.if-is_book.true in
    (c.requires.room b, c.requires.size b)

pub returns-then-is_book : goal.returns-then-is_book
returns-then-is_book c =
    let s = c.args in
    written s.change _ s.booked s.version s.journal.now s.bytes.now _ c.is_book.ensures
    c.if-is_book.true c.put_at.ensures

pub returns : goal.returns
returns c =
    let s = c.args in
    unwritten s.change _ s.booked s.version s.journal.now s.bytes.now c.is_book.ensures c.if-is_book.false
