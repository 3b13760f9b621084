-- The journal that a caller lends, document 01's book: records one after the other, at most 128 of them. The booked
-- records are its first; what follows them may be anything, and the lent journal may be shorter than they are. Each definition takes the version
-- of its records first, and so a record's size.
use Rattle.std.specs.Prelude.{Bool, cond, ◌&&◌, List, [], ◌++◌, ℕ, ◌+◌, ◌<◌, ◌≤◌, min, leb, ltb, length, take, drop}
use Rattle.base.specs.Lists.{same_list}
use Rattle.base.specs.Search.{first_below}
use Rattle.record.specs.declared.Job.{Job}
use Rattle.codec.specs.Codec.{job_of, place_of, record_size, whole_in}

-- "The book holds at most 128 records, numbered from 0"
abbrev pub capacity : ℕ
capacity = 128

-- the bytes in place k
unfoldable pub slot_at : ℕ → List ℕ → ℕ → List ℕ
slot_at version journal k = take (record_size version) (drop (place_of version k) journal)

-- how many whole records fit the journal
abbrev pub slots : ℕ → List ℕ → ℕ
slots version journal = whole_in version (length journal)

-- every booked record lies wholly inside the journal
abbrev pub is_whole : ℕ → List ℕ → ℕ → Bool
is_whole version journal booked = leb booked (slots version journal)

-- check 4 passes: the job is booked, and every booked record lies wholly inside the journal
unfoldable pub is_booked : ℕ → List ℕ → ℕ → ℕ → Bool
is_booked version journal booked k = is_whole version journal booked && ltb k booked

-- the same, said without a test
pub record Booked (version : ℕ) (journal : List ℕ) (booked job : ℕ) : Type 0 where
  pub inside : place_of version booked ≤ length journal
  pub below : job < booked

-- "A booked record is shown as the hundred bytes inside the caller's book, not as a copy; where check 4 fails, the part
-- shown is empty." "A booked version 2 record is shown as its 104 bytes." (M-102)
unfoldable pub record_at : ℕ → List ℕ → ℕ → ℕ → List ℕ
record_at version journal booked k = cond (is_booked version journal booked k) (slot_at version journal k) []

-- the job that a booked record says
unfoldable pub job_at : ℕ → List ℕ → ℕ → ℕ → Job
job_at version journal booked k = job_of (record_at version journal booked k)

-- "Equals are sought among the booked records that lie wholly inside the caller's book."
unfoldable pub inside_of : ℕ → List ℕ → ℕ → ℕ
inside_of version journal booked = min booked (slots version journal)

unfoldable pub equal_at : ℕ → List ℕ → List ℕ → ℕ → Bool
equal_at version journal bytes k = same_list (slot_at version journal k) bytes

-- the first booked equal, or the number of records that were looked at
unfoldable pub equal_in : ℕ → List ℕ → ℕ → List ℕ → ℕ
equal_in version journal booked bytes = first_below (inside_of version journal booked) (equal_at version journal bytes)

-- check 10 passes: fewer than 128 records, and room for one more
unfoldable pub has_room : ℕ → List ℕ → ℕ → Bool
has_room version journal booked = ltb booked capacity && ltb booked (slots version journal)

-- the journal with the bytes in place k
unfoldable pub put_at : ℕ → List ℕ → ℕ → List ℕ → List ℕ
put_at version journal k bytes = take (place_of version k) journal ++ (bytes ++ drop (place_of version k + record_size version) journal)
