-- The entries of a job: inputs in entries 0 to 3, outputs in 4 to 7, each half filled from its first ("Records").
use Rattle.std.specs.Prelude.{Bool, cond, ℕ, ◌-◌, ltb, get_or}
use Rattle.record.specs.declared.Entry.{Entry}
use Rattle.record.specs.declared.Job.{Job}

abbrev pub no_entry : Entry
no_entry = record { label = 0; frames = 0 }

unfoldable pub label_of : Job → ℕ → ℕ
label_of j i = (get_or j.entries i no_entry).label

unfoldable pub frames_of : Job → ℕ → ℕ
frames_of j i = (get_or j.entries i no_entry).frames

-- entry i is one of the inputs or outputs that the job counts
unfoldable pub is_used : Job → ℕ → Bool
is_used j i = cond (ltb i 4) (ltb i j.inputs) (ltb (i - 4) j.outputs)

-- the frames of a used entry, 0 of an unused one
unfoldable pub used_frames : Job → ℕ → ℕ
used_frames j i = cond (is_used j i) (frames_of j i) 0
