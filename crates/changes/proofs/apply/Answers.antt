use Rattle.ledger.specs.State.{applied, booking, counted, visited, voted, with_vault}
use Rattle.changes.proofs.apply.Goals as goal

pub returns-in-Nothing : goal.returns-in-Nothing
unfolding applied
returns-in-Nothing c = simp c.in-Nothing.is

pub returns-in-Book : goal.returns-in-Book
unfolding applied booking
returns-in-Book c = simp c.in-Book.is

pub returns-in-Sign : goal.returns-in-Sign
unfolding applied voted with_vault
returns-in-Sign c = simp (c.in-Sign.is, c.with.ensures)

pub returns-in-Hold : goal.returns-in-Hold
unfolding applied voted with_vault
returns-in-Hold c = simp (c.in-Hold.is, c.arrive.ensures, c.with-in-Hold.ensures)

pub returns-in-Release : goal.returns-in-Release
unfolding applied with_vault
returns-in-Release c = simp c.in-Release.is

pub returns-in-Record : goal.returns-in-Record
unfolding applied voted
returns-in-Record c = simp (c.in-Record.is, c.with-in-Record.ensures)

pub returns-in-See : goal.returns-in-See
unfolding applied visited
returns-in-See c = simp (c.in-See.is, c.following-next.ensures)

pub returns-in-Count : goal.returns-in-Count
unfolding applied counted
returns-in-Count c = simp (c.in-Count.is, c.place-place.ensures.0)

pub returns-in-Grant : goal.returns-in-Grant
unfolding applied counted voted with_vault
returns-in-Grant c =
    let told = c in
    simp (told.in-Grant.is, c.with-in-Grant.ensures, c.place-at.ensures.0)
