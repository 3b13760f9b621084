-- The entries are entered and the record is filed.
use Rattle.index.proofs.Tables.{indexed_next, indexed_size}
use Rattle.indexing.proofs.enter.Goals as goal

pub file-requires : goal.file-requires
file-requires c =
    let p = c.requires in
    (p.0.few, (indexed_size _ _ _ _ _ _ p.2).2)

pub returns : goal.returns
returns c =
    let d = c in
    let p = d.requires in
    indexed_next _ _ _ _ _ _ p.2 _ _ _ _ p.0 p.1 d.enter_entries.ensures c.file.ensures
