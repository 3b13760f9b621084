-- A job and its record ("Records", document 01): kind, drive, number of inputs and of outputs, a byte each; then eight
-- entries, each an eight-byte label and frames as 32 bits; in version 2, "32 bits of trimmed frames follow the last entry"
-- (M-102). Multi-byte numbers are little-endian.
use Rattle.std.specs.Prelude.{◌≡◌, Bool, cond, List, [], ◌∷◌, ◌++◌, ℕ, zero, suc, ◌+◌, ◌*◌, ◌/◌, ◌%◌, ◌^◌, ◌<◌, get_or, length, take, drop, eqb, leb}
use Rattle.record.specs.declared.Entry.{Entry}
use Rattle.record.specs.declared.Job.{Job}

-- ---- sizes

-- a record says how many frames are trimmed; of no other version than 1 and 2 is there a record
unfoldable pub says_trimmed : ℕ → Bool
says_trimmed version = eqb version 2

-- "A job record has 100 bytes" in version 1; "A run file of version 2 has records of 104 bytes" (M-102)
unfoldable pub record_size : ℕ → ℕ
record_size version = cond (says_trimmed version) 104 100

-- the most bytes that a record has
abbrev pub longest_record : ℕ
longest_record = 104

-- an entry has 12 bytes, what stands before the entries 4, and what stands before the trimmed frames 100
abbrev pub entry_size : ℕ
entry_size = 12

abbrev pub head_size : ℕ
head_size = 4

abbrev pub body_size : ℕ
body_size = 100

-- where record k begins in a row of records
unfoldable pub place_of : ℕ → ℕ → ℕ
place_of version k = record_size version * k

-- how many whole records n bytes hold
unfoldable pub whole_in : ℕ → ℕ → ℕ
whole_in version n = n / record_size version

-- ---- from bytes to a job

-- the number of the k bytes from place i on; a byte past the end counts as 0
unfoldable pub le_at : List ℕ → ℕ → ℕ → ℕ
le_at s i zero = 0
le_at s i (suc k) = get_or s i 0 + 256 * le_at s (i + 1) k

unfoldable pub entry_at : List ℕ → ℕ → Entry
entry_at s i = record { label = le_at s i 8; frames = le_at s (i + 8) 4 }

unfoldable pub entries_at : List ℕ → ℕ → ℕ → List Entry
entries_at s i zero = []
entries_at s i (suc n) = entry_at s i ∷ entries_at s (i + entry_size) n

-- the job of a record's own bytes: a version 1 record ends before the trimmed frames, so "its jobs have 0 trimmed" (M-102)
unfoldable pub job_of : List ℕ → Job
job_of s = record {
  kind = get_or s 0 0;
  drive = get_or s 1 0;
  inputs = get_or s 2 0;
  outputs = get_or s 3 0;
  entries = entries_at s head_size 8;
  trimmed = le_at s body_size 4;
}

-- the job of the record at the front of some bytes
unfoldable pub front_job : ℕ → List ℕ → Job
front_job version s = job_of (take (record_size version) s)

-- ---- from a job to bytes

-- the k bytes of a number
unfoldable pub le_bytes : ℕ → ℕ → List ℕ
le_bytes zero v = []
le_bytes (suc k) v = v % 256 ∷ le_bytes k (v / 256)

unfoldable pub entry_bytes : Entry → List ℕ
entry_bytes e = le_bytes 8 e.label ++ le_bytes 4 e.frames

unfoldable pub entries_bytes : List Entry → List ℕ
entries_bytes [] = []
entries_bytes (e ∷ es) = entry_bytes e ++ entries_bytes es

-- what records of both versions have
unfoldable pub body_of : Job → List ℕ
body_of j = j.kind ∷ j.drive ∷ j.inputs ∷ j.outputs ∷ entries_bytes j.entries

unfoldable pub bytes_of : ℕ → Job → List ℕ
bytes_of version j = body_of j ++ cond (says_trimmed version) (le_bytes 4 j.trimmed) []

-- a buffer has room for a record
unfoldable pub fits_record : ℕ → List ℕ → Bool
fits_record version out = leb (record_size version) (length out)

-- the buffer with the record at its front, or as it was where there is no room
unfoldable pub written : ℕ → Job → List ℕ → List ℕ
written version j out = cond (fits_record version out) (bytes_of version j ++ drop (record_size version) out) out

-- what a record of the version says of a job: version 1 has no place for trimmed frames
unfoldable pub said_of : ℕ → Job → Job
said_of version j = record {
  kind = j.kind;
  drive = j.drive;
  inputs = j.inputs;
  outputs = j.outputs;
  entries = j.entries;
  trimmed = cond (says_trimmed version) j.trimmed 0;
}

-- ---- what the round trips ask

-- the entries fit their widths
unfoldable pub EntriesFit : List Entry → Type 0
EntriesFit [] = Unit {0}
EntriesFit (e ∷ es) = (e.label < 2 ^ 64) × (e.frames < 2 ^ 32) × EntriesFit es

-- what every value of the struct `Job` meets
pub record JobFits (j : Job) : Type 0 where
  pub eight : length j.entries ≡ 8
  pub fit : EntriesFit j.entries
  pub trimmed : j.trimmed < 2 ^ 32

-- what every byte slice meets
abbrev pub AreBytes : List ℕ → Type 0
AreBytes s = (i : ℕ) → get_or s i 0 < 256
