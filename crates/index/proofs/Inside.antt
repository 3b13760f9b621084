-- The jobs of a journal's places are those that it books, and an entry is read from its record's part.
use mathlib.Core.List.{List}
use mathlib.Core.Path.{◌∙◌, ◌≡◌, ap, sym}
use Prim.Native.Nat.{◌%◌, ◌*◌, ◌+◌, ◌/◌, ◌<◌, ◌≤◌, ℕ}
use native.Mathlib.Nat.{le_refl}
use native.Mathlib.Omega.{arith}
use lib.ListN.{drop, get_or, length, take}
use lib.Seq.{take-take}
use borrow.Author.Tests.{le-leb, lt-ltb}
use Rattle.codec.proofs.Sizes.{place_before, place_mono, place_next, place_whole}
use Rattle.codec.specs.Codec.{front_job, job_of, place_of, record_size}
use Rattle.record.specs.Entries.{frames_of, label_of, no_entry}
use Rattle.record.specs.declared.Entry.{Entry}
use Rattle.record.specs.declared.Job.{Job}
use Rattle.journal.specs.Journal.{capacity, is_booked, job_at, record_at, slot_at, slots}
use Rattle.index.specs.Index.{HasRecord}
use Rattle.index.specs.Places.{Holds, frames_at, label_at, slot_job}

-- a booked record is the one in its place
part_slot : (version : ℕ) (journal : List ℕ) (booked k : ℕ) → place_of version booked ≤ length journal → k < booked
    → record_at version journal booked k ≡ slot_at version journal k
unfolding record_at is_booked
part_slot version journal booked k h l = simp (le-leb booked (slots version journal) (place_whole version booked (length journal) h), lt-ltb k booked l)

pub slot_booked : (version : ℕ) (journal : List ℕ) (booked k : ℕ) → place_of version booked ≤ length journal → k < booked
    → slot_job version journal k ≡ job_at version journal booked k
unfolding slot_job job_at
slot_booked version journal booked k h l = ap job_of (sym (part_slot version journal booked k h l))

-- the part of the journal that is record k
pub part_job : (version : ℕ) (journal part : List ℕ) (k : ℕ) → part ≡ slot_at version journal k → job_of part ≡ slot_job version journal k
unfolding slot_job
part_job version journal part k e = ap job_of e

pub place_read : (version : ℕ) (journal part : List ℕ) (at : ℕ) (r : Entry) → part ≡ slot_at version journal (at / 8) → r ≡ get_or (job_of part).entries
    (at % 8) no_entry
    → (r.label ≡ label_at (slot_job version journal) at) × (r.frames ≡ frames_at (slot_job version journal) at)
unfolding label_at frames_at label_of frames_of
place_read version journal part at r p e =
    let q = e ∙ ap (λ (a : Job). get_or a.entries (at % 8) no_entry) (part_job version journal part (at / 8) p) in
    (ap (λ (x : Entry). x.label) q, ap (λ (x : Entry). x.frames) q)

-- a record's part read as its front
pub front_job_lem : (version : ℕ) (journal part : List ℕ) (k : ℕ) → part ≡ slot_at version journal k → front_job version part ≡ slot_job version journal k
unfolding slot_job slot_at front_job
front_job_lem version journal part k e =
    ap (λ (s : List ℕ). job_of (take (record_size version) s)) e
    ∙ ap job_of (take-take (record_size version) (record_size version) (drop (place_of version k) journal) (le_refl (record_size version)))

-- ---- which records lie inside
module _ (version : ℕ) (journal : List ℕ) where
  pub holds_before : (m : ℕ) → Holds version journal (m + 1) → Holds version journal m
  holds_before m h = record {
    few = omega (arith, h.few);
    inside = omega (arith, h.inside, place_mono version ((m + 7) / 8) ((m + 1 + 7) / 8) (omega arith));
  }

  pub holds_at_lem : (m at : ℕ) → Holds version journal m → at < m → place_of version (at / 8) + record_size version ≤ length journal
  holds_at_lem m at h l = omega (arith, h.inside, place_before version (at / 8) ((m + 7) / 8) (omega arith))

  pub record_holds : (n e : ℕ) → HasRecord version journal n → e < 8 → Holds version journal (8 * n + e + 1)
  record_holds n e h l =
      let z : (8 * n + e + 1 + 7) / 8 ≡ n + 1 = omega arith in
      record { few = omega (arith, h.few); inside = rw z (omega (arith, h.inside, place_next version n)) }

  pub room_at : (n k : ℕ) → place_of version n ≤ length journal → k < n → place_of version k + record_size version ≤ length journal
  room_at n k h l = omega (arith, h, place_before version k n l)

  pub inside_record : (n k : ℕ) → n ≤ capacity → place_of version n ≤ length journal → k < n → HasRecord version journal k
  inside_record n k few h l = record { few = omega arith; inside = room_at n k h l }
