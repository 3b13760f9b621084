-- An entry is two numbers stored one after the other.
use Rattle.codec.proofs.Jobs.{entry_stores}
use Rattle.codec.proofs.put_entry.Goals as goal

pub returns : goal.returns
returns c =
    entry_stores _ _ _ _ _ c.put_number.ensures c.put_number-2.ensures
