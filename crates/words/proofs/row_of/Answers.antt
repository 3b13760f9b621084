-- Between two starts stands a row; past the last there is none.
use mathlib.Core.Path.{◌∙◌}
use Rattle.words.proofs.Rows.{row_between, row_past}
use Rattle.words.proofs.row_of.Goals as goal

pub returns-in-len2-up : goal.returns-in-len2-up
returns-in-len2-up c = c.part.ensures ∙ row_between _ _ _ c.rest.ensures c.in-len2-up.len_at_least

pub returns-in_default : goal.returns-in_default
returns-in_default c = row_past _ _ _ c.rest.ensures c.in_default.len_below
