-- The tapes of a job as lists: the used entries of its inputs and of its outputs.
use Rattle.std.specs.Prelude.{Bool, ◌&&◌, cond, List, [], ◌∷◌, map, suc, zero, ℕ, eqb, get_or}
use Rattle.base.specs.Lists.{total}
use Rattle.record.specs.Entries.{is_used, no_entry}
use Rattle.record.specs.declared.Entry.{Entry}
use Rattle.record.specs.declared.Job.{Job}

-- the used ones of the n entries from i on
unfoldable pub used_from : Job → ℕ → ℕ → List Entry
used_from j i zero = []
used_from j i (suc n) = cond (is_used j i) (get_or j.entries i no_entry ∷ used_from j (suc i) n) (used_from j (suc i) n)

abbrev pub input_tapes : Job → List Entry
input_tapes j = used_from j 0 4

abbrev pub output_tapes : Job → List Entry
output_tapes j = used_from j 4 4

abbrev pub labels : List Entry → List ℕ
labels l = map (λ (t : Entry). t.label) l

-- their frames added up
abbrev pub frames_in : List Entry → ℕ
frames_in l = total (λ (t : Entry). t.frames) l

-- the same label and the same frames
unfoldable pub same_tape : Entry → Entry → Bool
same_tape s t = eqb s.label t.label && eqb s.frames t.frames
