-- What is decided on a proposal, taken apart: one case for each of its answers, and no other answer is meant.
use mathlib.Core.Bool.{Bool, ◌&&◌, cond, false, true, true≢false}
use mathlib.Core.List.{List}
use mathlib.Core.Logic.{◌⊎◌, inl, inr, ⊎_elim}
use mathlib.Core.Path.{◌≡◌, refl}
use Prim.Native.Nat.{◌+◌, ◌<◌, ◌≤◌, ℕ}
use native.Mathlib.Omega.{arith}
use lib.Dec.{ltb}
use lib.ListN.{length}
use borrow.Author.Tests.{eqb-true, lt-ltb, ltb-false, ltb-true}
use Rattle.base.proofs.Lists.{reflect_same}
use Rattle.base.proofs.Reflect.{and_true, not_true_false, refuted, refutes}
use Rattle.base.proofs.Search.{first_complete, first_end_complete, first_end_sound, first_sound, found_none, unfound}
use Rattle.base.specs.Reflect.{Reflects}
use Rattle.base.specs.Search.{Least}
use Rattle.outcome.specs.declared.Refusal.TheVariants.{Settings as BadSettings}
use Rattle.outcome.specs.Figures.{Verdict}
use Rattle.std.specs.Prelude.{Ok, Err}
use Rattle.checks.specs.Checks.{examined}
use Rattle.codec.proofs.Sizes.{room_whole, whole_room, whole_short}
use Rattle.codec.specs.Codec.{place_of, record_size}
use Rattle.journal.specs.Journal.{capacity, equal_at, equal_in, has_room, inside_of, slot_at, slots}
use Rattle.ledger.proofs.Gates.{passed_test, reflect_sane}
use Rattle.ledger.specs.Decisions.{gated, placing, proposal, settling}
use Rattle.ledger.specs.Meaning.{KnownAt, NewAt, Proposed, Sane, Unknown, failed, full, insane, known, new}
use Rattle.ledger.specs.State.{is_sane, version_of}
use Rattle.ledger.specs.Steps.{propose_decision, sane_gate}
use Rattle.ledger.specs.declared.Decision.{Decision}
use Rattle.ledger.specs.declared.Ledger.{Ledger}

pub examined_length : (version : ℕ) (bytes : List ℕ) → examined version bytes ≡ Ok (tt {0}) → length bytes ≡ record_size version
unfolding examined
examined_length version bytes e = eqb-true _ _ (passed_test _ _ _ e)

module _ (l : Ledger) (journal bytes : List ℕ) where
  same_at : (i : ℕ) → i < inside_of (version_of l) journal l.booked → Reflects (equal_at (version_of l) journal bytes i) (slot_at (version_of l) journal i ≡ bytes)
  unfolding equal_at
  same_at i h = reflect_same (slot_at (version_of l) journal i) bytes

  abbrev equal : ℕ
  equal = equal_in (version_of l) journal l.booked bytes

  abbrev inside : ℕ
  inside = inside_of (version_of l) journal l.booked

  found : ltb equal inside ≡ true → Least inside (λ i. slot_at (version_of l) journal i ≡ bytes) equal
  unfolding equal_in
  found e = first_sound inside same_at equal (ltb-true _ _ e) refl

  none : ltb equal inside ≡ false → Unknown l journal bytes
  unfolding equal_in
  none e = first_end_sound inside same_at (unfound (equal_at (version_of l) journal bytes) inside e)

  room : has_room (version_of l) journal l.booked ≡ true → (l.booked < capacity) ×
      (place_of (version_of l) l.booked + record_size (version_of l) ≤ length journal)
  unfolding has_room
  room e =
      let r = and_true _ _ e in
      (ltb-true _ _ r.0, whole_room (version_of l) l.booked (length journal) (ltb-true l.booked (slots (version_of l) journal) r.1))

  no_room : has_room (version_of l) journal l.booked ≡ false → (capacity ≤ l.booked) ⊎
      (length journal < place_of (version_of l) l.booked + record_size (version_of l))
  unfolding has_room
  no_room e = by (ltb l.booked capacity) refl (ltb l.booked (slots (version_of l) journal)) refl e
    where
      by : (a : Bool) → ltb l.booked capacity ≡ a → (b : Bool) → ltb l.booked (slots (version_of l) journal) ≡ b → (a && b) ≡ false
          → (capacity ≤ l.booked) ⊎ (length journal < place_of (version_of l) l.booked + record_size (version_of l))
      by false p b q h = inl (ltb-false _ _ p)
      by true p true q h = absurd (true≢false h)
      by true p false q h = inr (whole_short (version_of l) l.booked (length journal) (ltb-false l.booked (slots (version_of l) journal) q))

  placed : Sane l → examined (version_of l) bytes ≡ Ok (tt {0}) → Proposed l journal bytes
      (placing equal inside l.booked (has_room (version_of l) journal l.booked))
  unfolding placing
  placed s p = by (ltb equal inside) refl (has_room (version_of l) journal l.booked) refl
    where
      by : (a : Bool) → ltb equal inside ≡ a → (b : Bool) → has_room (version_of l) journal l.booked ≡ b
          → Proposed l journal bytes (placing equal inside l.booked (has_room (version_of l) journal l.booked))
      by true e b f = simp e (known equal (record { sane = s; passes = p; first = found e }))
      by false e true f = simp (e, f) (new (record { sane = s; passes = p; unknown = none e; below = (room f).0; fits = (room f).1 }))
      by false e false f = simp (e, f) (full (record { sane = s; passes = p; unknown = none e; full = no_room f }))

  pub proposed : Proposed l journal bytes (propose_decision l journal bytes)
  unfolding propose_decision sane_gate proposal settling
  proposed = by (is_sane l) refl (examined (version_of l) bytes) refl
    where
      by : (a : Bool) → is_sane l ≡ a → (v : Verdict) → examined (version_of l) bytes ≡ v
          → Proposed l journal bytes
          (gated (cond a (Ok (tt {0})) (Err BadSettings)) (gated v (placing equal inside l.booked (has_room (version_of l) journal l.booked))))
      by true e (Ok _) f = placed ((reflect_sane l).sound e) f
      by true e (Err why) f = failed why ((reflect_sane l).sound e) f
      by false e v f = insane (refuted (reflect_sane l) e)

  -- and no other answer is meant
  past : Unknown l journal bytes → ltb equal inside ≡ false
  unfolding equal_in
  past u = found_none (equal_at (version_of l) journal bytes) inside (first_end_complete inside same_at u)

  filled : (capacity ≤ l.booked) ⊎ (length journal < place_of (version_of l) l.booked + record_size (version_of l)) → has_room (version_of l) journal
      l.booked ≡ false
  unfolding has_room
  filled h = not_true_false (ltb l.booked capacity && ltb l.booked (slots (version_of l) journal)) (λ e.
      let r = and_true _ _ e in
      let a : l.booked < capacity = ltb-true _ _ r.0 in
      let b : l.booked < slots (version_of l) journal = ltb-true _ _ r.1 in
      ⊎_elim (λ (x : capacity ≤ l.booked). omega arith) (λ (x : length journal < place_of (version_of l) l.booked + record_size (version_of l)).
      omega (arith, x, whole_room (version_of l) l.booked (length journal) b)) h)

  roomy : NewAt l journal bytes → has_room (version_of l) journal l.booked ≡ true
  unfolding has_room
  roomy h = simp (lt-ltb _ _ h.below, lt-ltb l.booked (slots (version_of l) journal) (room_whole (version_of l) l.booked (length journal) h.fits))

  at : (k : ℕ) → KnownAt l journal bytes k → equal ≡ k
  unfolding equal_in
  at k h = first_complete inside same_at k h.first

  pub means : (d : Decision) → Proposed l journal bytes d → propose_decision l journal bytes ≡ d
  unfolding propose_decision sane_gate proposal settling placing
  means d (insane n) = simp (refutes (reflect_sane l) n)
  means d (failed why s e) = simp ((reflect_sane l).complete s, e)
  means d (known k h) = simp ((reflect_sane l).complete h.sane, h.passes, at k h, lt-ltb k inside h.first.below)
  means d (new h) = simp ((reflect_sane l).complete h.sane, h.passes, past h.unknown, roomy h)
  means d (full h) = simp ((reflect_sane l).complete h.sane, h.passes, past h.unknown, filled h.full)
