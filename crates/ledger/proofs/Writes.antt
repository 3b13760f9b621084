-- What a change does to the journal: only a booked record is written, and where one is booked there is room for it.
use mathlib.Core.Bool.{Bool, cond, false, true, true≢false}
use mathlib.Core.List.{List}
use mathlib.Core.Path.{◌∙◌, ◌≡◌, ap, refl, sym}
use Prim.Native.Nat.{◌+◌, ◌<◌, ◌≤◌, ℕ}
use native.Mathlib.Omega.{arith}
use lib.Dec.{ltb}
use lib.ListN.{length}
use borrow.Author.Tests.{ltb-true}
use Rattle.base.proofs.Reflect.{and_true}
use Rattle.outcome.specs.Figures.{Verdict}
use Rattle.std.specs.Prelude.{Ok, Err}
use Rattle.outcome.specs.declared.Refusal.TheVariants.{Full}
use Rattle.checks.specs.Checks.{examined}
use Rattle.codec.proofs.Sizes.{whole_place, whole_room}
use Rattle.codec.specs.Codec.{place_of, record_size}
use Rattle.journal.specs.Journal.{capacity, equal_in, has_room, inside_of, put_at, slots}
use Rattle.index.proofs.Tables.{records_part}
use Rattle.index.specs.Index.{Indexed}
use Rattle.ledger.proofs.Places.{examined_length}
use Rattle.ledger.specs.Decisions.{gated, is_book, placing, proposal, settling}
use Rattle.ledger.specs.Given.{Searchable, Writable}
use Rattle.ledger.specs.Steps.{journal_with}
use Rattle.ledger.specs.declared.Change.{Change}
use Rattle.ledger.specs.declared.Change.TheVariants.{Book, Count, Grant, Hold, Nothing, Record, Release, See, Sign}
use Rattle.ledger.specs.declared.Decision.{Decision}

-- ---- what is written
pub is_book_lem : (c : Change) (r : Bool) → r ≡ is_book c → r ≡ true → c ≡ Book
is_book_lem Nothing r e t = absurd (true≢false (sym t ∙ e))
is_book_lem Book r e t = refl
is_book_lem (Sign state) r e t = absurd (true≢false (sym t ∙ e))
is_book_lem (Hold state) r e t = absurd (true≢false (sym t ∙ e))
is_book_lem (Release state) r e t = absurd (true≢false (sym t ∙ e))
is_book_lem (Record column) r e t = absurd (true≢false (sym t ∙ e))
is_book_lem (See seen) r e t = absurd (true≢false (sym t ∙ e))
is_book_lem (Count history) r e t = absurd (true≢false (sym t ∙ e))
is_book_lem (Grant grant) r e t = absurd (true≢false (sym t ∙ e))

pub written : (c : Change) (r : Bool) (booked version : ℕ) (journal bytes after : List ℕ) → r ≡ is_book c → r ≡ true → after ≡ put_at version journal booked bytes
    → after ≡ journal_with c booked version journal bytes
written c r booked version journal bytes after e t w = simp (is_book_lem c r e t) w

pub unwritten : (c : Change) (r : Bool) (booked version : ℕ) (journal bytes : List ℕ) → r ≡ is_book c → r ≡ false
    → journal ≡ journal_with c booked version journal bytes
unwritten Nothing r booked version journal bytes e t = refl
unwritten Book r booked version journal bytes e t = absurd (true≢false (sym e ∙ t))
unwritten (Sign state) r booked version journal bytes e t = refl
unwritten (Hold state) r booked version journal bytes e t = refl
unwritten (Release state) r booked version journal bytes e t = refl
unwritten (Record column) r booked version journal bytes e t = refl
unwritten (See seen) r booked version journal bytes e t = refl
unwritten (Count history) r booked version journal bytes e t = refl
unwritten (Grant grant) r booked version journal bytes e t = refl

-- ---- a proposal that is booked
module _ (version : ℕ) (journal : List ℕ) (booked : ℕ) (bytes : List ℕ) where
  room : has_room version journal booked ≡ true → (booked < capacity) × (place_of version booked + record_size version ≤ length journal)
  unfolding has_room
  room e = let r = and_true _ _ e in (ltb-true _ _ r.0, whole_room version booked (length journal) (ltb-true booked (slots version journal) r.1))

  -- it passes checks 6 to 9, and there is room
  books : (proposal version journal booked bytes).change ≡ Book → (examined version bytes ≡ Ok (tt {0})) × (has_room version journal booked ≡ true)
  unfolding proposal settling placing
  books e =
      by (examined version bytes) refl (ltb (equal_in version journal booked bytes) (inside_of version journal booked)) (has_room version journal booked) refl e
    where
      no : {A : Type 0} → ◌≡◌ {A = Change} Nothing Book → A
      no q = absurd (true≢false (sym (ap is_book q)))

      by : (v : Verdict) → examined version bytes ≡ v → (a b : Bool) → has_room version journal booked ≡ b
          → (gated v (cond a (record { outcome = Ok (equal_in version journal booked bytes); change = Nothing })
          (cond b (record { outcome = Ok booked; change = Book }) (record { outcome = Err Full; change = Nothing })))).change ≡ Book
          → (examined version bytes ≡ Ok (tt {0})) × (has_room version journal booked ≡ true)
      by (Err why) p a b q h = no h
      by (Ok _) p true b q h = no h
      by (Ok _) p false false q h = no h
      by (Ok _) p false true q h = (p, q)

  pub writes : (d : Decision) → d ≡ proposal version journal booked bytes → Writable d.change booked version journal bytes
  writes d e = record {
    few = λ h. (room (books (sym (ap (λ (x : Decision). x.change) e) ∙ h)).1).0;
    room = λ h. (room (books (sym (ap (λ (x : Decision). x.change) e) ∙ h)).1).1;
    size = λ h. examined_length version bytes (books (sym (ap (λ (x : Decision). x.change) e) ∙ h)).0;
  }

-- ---- an index that was made
pub searchable : (version : ℕ) (journal : List ℕ) (booked n : ℕ) (numbers sets records : List ℕ) → booked ≤ capacity → n ≡ inside_of version journal booked
    → Indexed version journal n numbers sets records → Searchable version journal booked records
searchable version journal booked n numbers sets records few e i =
    record { few = few; indexed = rw e at (records_part version journal n numbers sets records i) }

-- what lies inside can be indexed
pub buildable : (version : ℕ) (journal : List ℕ) (booked n : ℕ) → booked ≤ capacity → n ≡ inside_of version journal booked → (n ≤ capacity) ×
    (place_of version n ≤ length journal)
unfolding inside_of
buildable version journal booked n few e =
    (omega arith, whole_place version n (length journal) (omega arith))
