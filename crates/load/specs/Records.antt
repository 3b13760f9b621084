-- The forty records of a load (docs/LOADS.md, "Records").
use Rattle.std.specs.Prelude.{cond, [], ◌∷◌, ◌%◌, ◌*◌, ◌+◌, ◌-◌, ◌/◌, ℕ, eqb}
use Rattle.codec.specs.Codec.{le_at}
use Rattle.record.specs.Entries.{no_entry}
use Rattle.record.specs.declared.Entry.{Entry}
use Rattle.record.specs.declared.Job.{Job}

-- "`TL`, a letter, `0`, the job's number in two digits, `L` and the medium"
unfoldable pub label_for : ℕ → ℕ → ℕ → ℕ
label_for letter j medium = le_at (84 ∷ 76 ∷ letter ∷ 48 ∷ (48 + j / 10) ∷ (48 + j % 10) ∷ 76 ∷ (48 + medium) ∷ []) 0 8

abbrev pub tape : ℕ → ℕ → ℕ → ℕ → Entry
tape letter j medium frames = record { label = label_for letter j medium; frames = frames }

abbrev pub A : ℕ
A = 65

abbrev pub B : ℕ
B = 66

abbrev pub accession : ℕ → ℕ → Entry → Entry → Job
accession drive outputs first second =
    record {
      kind = 0;
      drive = drive;
      inputs = 0;
      outputs = outputs;
      entries = no_entry ∷ no_entry ∷ no_entry ∷ no_entry ∷ first ∷ second ∷ no_entry ∷ no_entry ∷ [];
      trimmed = 0;
    }

-- as many tapes as are read are written
abbrev pub migration : ℕ → ℕ → Entry → Entry → Entry → Entry → Job
migration drive count from second to other =
    record {
      kind = 1;
      drive = drive;
      inputs = count;
      outputs = count;
      entries = from ∷ second ∷ no_entry ∷ no_entry ∷ to ∷ other ∷ no_entry ∷ no_entry ∷ [];
      trimmed = 0;
    }

-- jobs 0, 10, 20 and 30: an accession, and a chain of migrations
unfoldable pub main_job : ℕ → ℕ → ℕ → Job
main_job f g r =
    cond (eqb r 0) (accession 5 2 (tape A 0 5 f) (tape B 0 5 g))
    (migration (5 + r) 2 (tape A (10 * r - 10) (4 + r) f) (tape B (10 * r - 10) (4 + r) g) (tape A (10 * r) (5 + r) f) (tape B (10 * r) (5 + r) g))

-- jobs 1, 11, 21 and 31: job 1 makes a label of job 0, the others retire an input of their round's main job
unfoldable pub rival_job : ℕ → ℕ → Job
rival_job f r =
    cond (eqb r 0) (accession 5 2 (tape A 1 5 f) (tape A 0 5 f))
    (migration (5 + r) 1 (tape A (10 * r - 10) (4 + r) f) no_entry (tape A (10 * r + 1) (5 + r) f) no_entry)

unfoldable pub side_job : ℕ → Job
side_job j = accession (5 + j % 5) 1 (tape A j (5 + j % 5) (100 * (j + 1))) no_entry

-- "f is its lower 16 bits plus 1, g its upper 16 bits plus 1"
abbrev pub lower_frames : ℕ → ℕ
lower_frames first = first % 65536 + 1

abbrev pub upper_frames : ℕ → ℕ
upper_frames first = first / 65536 + 1

unfoldable pub job_for : ℕ → ℕ → Job
job_for first j =
    cond (eqb (j % 10) 0) (main_job (lower_frames first) (upper_frames first) (j / 10))
    (cond (eqb (j % 10) 1) (rival_job (lower_frames first) (j / 10)) (side_job j))
