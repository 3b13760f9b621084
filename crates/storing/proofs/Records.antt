-- A new record, put after the booked ones, is entered in the index of the journal as it then is.
use mathlib.Core.Bool.{Bool, false, true}
use mathlib.Core.List.{List}
use mathlib.Core.Path.{◌∙◌, ◌≡◌, ap, refl, subst, sym}
use Prim.Native.Nat.{◌+◌, ◌≤◌, ℕ}
use native.Mathlib.Omega.{arith}
use lib.ListN.{drop, length, length-drop, length-take, take}
use Rattle.codec.proofs.RoundTrip.{front_whole}
use Rattle.codec.proofs.Sizes.{size_least}
use Rattle.codec.specs.Codec.{front_job, job_of, place_of, record_size}
use Rattle.record.specs.declared.Job.{Job}
use Rattle.journal.proofs.Putting.{put_length, slot_put}
use Rattle.journal.specs.Journal.{put_at}
use Rattle.index.proofs.Tables.{indexed_put}
use Rattle.index.specs.Index.{HasRecord, Indexed}
use Rattle.index.specs.Places.{slot_job}
use Rattle.ledger.proofs.Writes.{is_book_lem, unwritten}
use Rattle.ledger.specs.Decisions.{is_book}
use Rattle.ledger.specs.Given.{Writable}
use Rattle.ledger.specs.declared.Change.{Change}
use Rattle.ledger.specs.declared.Change.TheVariants.{Book, Count, Grant, Hold, Nothing, Record, Release, See, Sign}
use Rattle.storing.specs.Stored.{Stored, booked_after}

module _ (change : Change) (r : Bool) (booked at version : ℕ) (journal input : List ℕ) (e : r ≡ is_book change) (t : r ≡ true)
    (w : Writable change booked version journal (take (record_size version) (drop at input))) where
  abbrev bytes : List ℕ
  bytes = take (record_size version) (drop at input)

  booked_now : change ≡ Book
  booked_now = is_book_lem change r e t

  size : length bytes ≡ record_size version
  size = w.size booked_now

  pub record_inside : at + record_size version ≤ length input
  record_inside = omega (arith, size_least version, size, length-take (record_size version) (drop at input), length-drop at input)

  pub record_room : place_of version booked + record_size version ≤ length journal
  record_room = w.room booked_now

  -- the part of the input that is lent
  pub record_size_lem : (part : List ℕ) → part ≡ bytes → length part ≡ record_size version
  record_size_lem part part_is = rw part_is size

  module _ (part journal' : List ℕ) (part_is : part ≡ bytes) (p : journal' ≡ put_at version journal booked part) where
    put : journal' ≡ put_at version journal booked bytes
    put = p ∙ ap (put_at version journal booked) part_is

    pub has_record_lem : HasRecord version journal' booked
    has_record_lem = record { few = w.few booked_now; inside = rw put (omega (arith, record_room, put_length version booked journal bytes size record_room)) }

    pub says : (a : Job) → a ≡ front_job version part → a ≡ slot_job version journal' booked
    unfolding slot_job
    says a h =
        h ∙ ap (front_job version) part_is ∙ front_whole version bytes size ∙ rw put (ap job_of (sym (slot_put version booked journal bytes size record_room)))

    pub still_indexed : (numbers sets records : List ℕ) → Indexed version journal booked numbers sets records
        → Indexed version journal' booked numbers sets records
    still_indexed numbers sets records i = rw put (indexed_put version journal booked numbers sets records i bytes size record_room)

    pub stored : (numbers' sets' records' : List ℕ) → Indexed version journal' (booked + 1) numbers' sets' records'
        → Stored change booked version journal bytes journal' numbers' sets' records'
    stored numbers' sets' records' i =
        subst (λ (c : Change). Stored c booked version journal bytes journal' numbers' sets' records') (sym booked_now) (record { written = put; indexed = i })

-- no other change books
same_booked : (c : Change) (r : Bool) (n : ℕ) → r ≡ is_book c → r ≡ false → booked_after c n ≡ n
same_booked Nothing r n e t = refl
same_booked Book r n e t = cc
same_booked (Sign state) r n e t = refl
same_booked (Hold state) r n e t = refl
same_booked (Release state) r n e t = refl
same_booked (Record column) r n e t = refl
same_booked (See seen) r n e t = refl
same_booked (Count history) r n e t = refl
same_booked (Grant grant) r n e t = refl

pub unstored : (change : Change) (r : Bool) (booked version : ℕ) (journal bytes numbers sets records : List ℕ) → r ≡ is_book change → r ≡ false
    → Indexed version journal booked numbers sets records → Stored change booked version journal bytes journal numbers sets records
unstored change r booked version journal bytes numbers sets records e t i =
    record { written = unwritten change r booked version journal bytes e t; indexed = rw (same_booked change r booked e t) i }

pub ruleset records_laws = (record_inside, record_room, record_size_lem, has_record_lem, says, still_indexed, stored, unstored)
