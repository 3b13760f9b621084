-- Entry e of job k stands at place 8k + e. A used place has two numbers: the first used place with its label, and the first with its label
-- and frames; so equal numbers mean equal labels, or equal tapes. At each number stand the sets of the jobs that have the label as an input,
-- that have it as an output, and that make the tape. A bucket's places are chained, each to the last before it.
use Rattle.std.specs.Prelude.{Bool, ◌&&◌, ◌||◌, cond, false, not, true, List, ◌≡◌, ◌%◌, ◌*◌, ◌+◌, ◌/◌, ◌<◌, ◌≤◌, ℕ, eqb, ltb, get_or, length}
use Rattle.base.specs.Search.{any_below, first_below}
use Rattle.codec.specs.Codec.{job_of, place_of}
use Rattle.record.specs.Entries.{frames_of, is_used, label_of}
use Rattle.record.specs.declared.Job.{Job}
use Rattle.journal.specs.Journal.{capacity, slot_at}
use Rattle.index.specs.Chains.{last_below}
use Rattle.index.specs.Words.{bit_at}

-- ---- sizes

-- as many jobs as a journal books, of eight entries
abbrev pub places : ℕ
places = 8 * capacity

abbrev pub buckets : ℕ
buckets = 1021

-- where the links and the heads stand among the numbers, after the numbers of labels and those of tapes
abbrev pub links_at : ℕ
links_at = 2 * places

abbrev pub heads_at : ℕ
heads_at = 3 * places

abbrev pub numbers_size : ℕ
numbers_size = heads_at + buckets

-- three sets of two words at each number
abbrev pub sets_size : ℕ
sets_size = 6 * places

-- ---- the jobs of a journal, booked or not

unfoldable pub slot_job : ℕ → List ℕ → ℕ → Job
slot_job version journal k = job_of (slot_at version journal k)

-- the journal holds the records of the first m places
pub record Holds (version : ℕ) (journal : List ℕ) (m : ℕ) : Type 0 where
  pub few : m ≤ places
  pub inside : place_of version ((m + 7) / 8) ≤ length journal

-- ---- what a place has

unfoldable pub bucket_of : ℕ → ℕ
bucket_of label = label % buckets

-- the label is the one, and where they are asked the frames are
unfoldable pub fits : Bool → ℕ → ℕ → ℕ → ℕ → Bool
fits exact label frames l f = eqb l label && (not exact || eqb f frames)

module _ (job : ℕ → Job) where
  unfoldable pub used_at : ℕ → Bool
  used_at p = is_used (job (p / 8)) (p % 8)

  unfoldable pub label_at : ℕ → ℕ
  label_at p = label_of (job (p / 8)) (p % 8)

  unfoldable pub frames_at : ℕ → ℕ
  frames_at p = frames_of (job (p / 8)) (p % 8)

  -- the place is used, and has the label or the tape
  unfoldable pub is_match : Bool → ℕ → ℕ → ℕ → Bool
  is_match exact label frames p = used_at p && fits exact label frames (label_at p) (frames_at p)

  -- the number of its label, or of its tape: the first place that has it too
  unfoldable pub number_at : Bool → ℕ → ℕ
  number_at exact p = first_below p (is_match exact (label_at p) (frames_at p))

  -- the place is used, and its label is in the bucket
  unfoldable pub in_bucket : ℕ → ℕ → Bool
  in_bucket b p = used_at p && eqb (bucket_of (label_at p)) b

-- the place is used, and has the label and the frames
pub record UsedEntry (job : ℕ → Job) (p label frames : ℕ) : Type 0 where
  pub used : used_at job p ≡ true
  pub label_is : label ≡ label_at job p
  pub frames_are : frames ≡ frames_at job p

-- the two numbers of a tape that is sought among the first m places
pub record Sought (job : ℕ → Job) (label frames m name tape : ℕ) : Type 0 where
  pub name_first : name ≡ first_below m (is_match job false label frames)
  pub tape_first : tape ≡ first_below m (is_match job true label frames)
  pub name_low : name ≤ m
  pub tape_low : tape ≤ m

-- where the numbers of labels and of tapes stand
abbrev pub numbers_at : Bool → ℕ
numbers_at exact = cond exact places 0

-- ---- the sets

-- where the bit of job k stands: 0, as an input; 1, as an output; 2, as a maker
abbrev pub bit_of : ℕ → ℕ → ℕ → ℕ
bit_of kind number k = capacity * (3 * number + kind) + k

-- inputs and outputs
unfoldable pub side_of : ℕ → ℕ
side_of e = cond (ltb e 4) 0 1

module _ (job : ℕ → Job) where
  -- the place enters its job at the number of its label, and that of an output also at the number of its tape
  unfoldable pub marks : ℕ → ℕ → Bool
  marks b p =
      used_at job p
      && (eqb b (bit_of (side_of (p % 8)) (number_at job false p) (p / 8)) || (not (ltb (p % 8) 4) && eqb b (bit_of 2 (number_at job true p) (p / 8))))

-- ---- the index of the first m places

pub record Numbered (job : ℕ → Job) (m : ℕ) (numbers : List ℕ) : Type 0 where
  pub size : length numbers ≡ numbers_size
  -- what stands for a number is one
  pub small : (i : ℕ) → i < links_at → get_or numbers i 0 < places
  -- each used place has its two numbers
  pub named : (exact : Bool) (p : ℕ) → p < m → used_at job p ≡ true → get_or numbers (numbers_at exact + p) 0 ≡ number_at job exact p
  -- and is linked to the last before it in its bucket
  pub linked : (p : ℕ) → p < m → used_at job p ≡ true → get_or numbers (links_at + p) 0 ≡ last_below p (in_bucket job (bucket_of (label_at job p)))
  -- each bucket's head is the last place in it
  pub headed : (b : ℕ) → b < buckets → get_or numbers (heads_at + b) 0 ≡ last_below m (in_bucket job b)

-- a bit is set exactly where a place enters it
pub record Marked (job : ℕ → Job) (m : ℕ) (sets : List ℕ) : Type 0 where
  pub size : length sets ≡ sets_size
  pub bits : (b : ℕ) → b < 64 * sets_size → bit_at sets b ≡ any_below m (marks job b)

-- the whole of it
pub record Entered (job : ℕ → Job) (m : ℕ) (numbers sets : List ℕ) : Type 0 where
  pub numbered : Numbered job m numbers
  pub marked : Marked job m sets
