-- Checks 1, 3, 4 and 5 decide what specs/Meaning.antt says of them: a gate passes exactly where its claim holds. What a step may do
-- behind its gate follows, and the rules by which the operations are proved: through an open gate, and through a shut one.
use mathlib.Core.Bool.{Bool, beq, cond, false, true, true≢false}
use mathlib.Core.List.{List}
use mathlib.Core.Path.{◌∙◌, ◌≡◌, refl, sym}
use Prim.Native.Nat.{◌<◌, ◌≤◌, ℕ}
use native.Mathlib.Omega.{arith}
use lib.Dec.{ltb}
use lib.ListN.{length}
use borrow.Author.Tests.{lt-ltb, ltb-true}
use Rattle.base.proofs.Reflect.{reflect_and, reflect_as, reflect_le, reflect_lt}
use Rattle.base.specs.Reflect.{Reflects}
use Rattle.outcome.specs.Figures.{Verdict}
use Rattle.std.specs.Prelude.{Ok, Err}
use Rattle.outcome.specs.declared.Refusal.{Refusal}
use Rattle.sets.specs.Bits.{has_bit}
use Rattle.federation.proofs.Lawful.{reflect_lawful}
use Rattle.codec.specs.Codec.{place_of}
use Rattle.journal.proofs.Booked.{reflect_booked, reflect_whole}
use Rattle.journal.specs.Journal.{Booked, capacity}
use Rattle.ledger.specs.Meaning.{Entered, Sane}
use Rattle.ledger.specs.Register.{is_done}
use Rattle.ledger.specs.State.{applied, is_sane, version_of}
use Rattle.ledger.specs.Steps.{booked_gate, carried, gate_of, turned, vault_gate, whole_gate}
use Rattle.ledger.specs.Decisions.{gated, gated_listing, unlisted}
use Rattle.ledger.specs.Given.{Placed}
use Rattle.ledger.specs.declared.Decision.{Decision}
use Rattle.ledger.specs.declared.Reply.{Reply}
use Rattle.ledger.specs.declared.Ledger.{Ledger}
use Rattle.ledger.specs.declared.Listing.{Listing}

pub reflect_sane : (l : Ledger) → Reflects (is_sane l) (Sane l)
unfolding is_sane
reflect_sane l =
    reflect_as
    (reflect_and (reflect_lawful l.settings)
    (reflect_and (reflect_le l.booked capacity) (reflect_and (reflect_le l.arrivals capacity) (reflect_lt l.next l.settings.n))))
    (λ h. record { lawful = h.0; booked = h.1.0; arrivals = h.1.1.0; next = h.1.1.1 })
    (λ h. (h.lawful, (h.booked, (h.arrivals, h.next))))

reflect_beq : (a b : Bool) → Reflects (beq a b) (a ≡ b)
reflect_beq true true = record { sound = λ e. refl; complete = λ e. refl }
reflect_beq true false = record { sound = λ e. absurd (true≢false (sym e)); complete = λ e. absurd (true≢false e) }
reflect_beq false true = record { sound = λ e. absurd (true≢false (sym e)); complete = λ e. absurd (true≢false (sym e)) }
reflect_beq false false = record { sound = λ e. refl; complete = λ e. refl }

-- a row of checks that passes passed its first
pub passed_test : (b : Bool) (v : Verdict) (why : Refusal) → cond b v (Err why) ≡ Ok (tt {0}) → b ≡ true
passed_test true v why e = refl
passed_test false v why e = cc

pub passed_rest : (b : Bool) (v : Verdict) (why : Refusal) → cond b v (Err why) ≡ Ok (tt {0}) → v ≡ Ok (tt {0})
passed_rest true v why e = e
passed_rest false v why e = cc

-- a step that is answered 0 passed its gate
pub done_gate : (g : Verdict) (d : Decision) → is_done (gated g d).outcome ≡ true → g ≡ Ok (tt {0})
done_gate (Ok _) d e = refl
done_gate (Err why) d e = absurd (true≢false (sym e))

pub booked_entered : (l : Ledger) (journal : List ℕ) (job : ℕ) → booked_gate l journal job ≡ Ok (tt {0}) → Sane l × Booked (version_of l) journal l.booked job
unfolding booked_gate
booked_entered l journal job e =
    let sane = passed_test (is_sane l) _ _ e in
    let rest = passed_rest (is_sane l) _ _ e in
    ((reflect_sane l).sound sane, (reflect_booked (version_of l) journal l.booked job).sound (passed_test _ _ _ rest))

pub whole_entered : (l : Ledger) (journal : List ℕ) → whole_gate l journal ≡ Ok (tt {0}) → Sane l × (place_of (version_of l) l.booked ≤ length journal)
unfolding whole_gate
whole_entered l journal e =
    let rest = passed_rest (is_sane l) _ _ e in
    ((reflect_sane l).sound (passed_test (is_sane l) _ _ e), (reflect_whole (version_of l) journal l.booked).sound (passed_test _ _ _ rest))

pub whole_passes : (l : Ledger) (journal : List ℕ) → Sane l → place_of (version_of l) l.booked ≤ length journal → whole_gate l journal ≡ Ok (tt {0})
unfolding whole_gate
whole_passes l journal s h = simp ((reflect_sane l).complete s, (reflect_whole (version_of l) journal l.booked).complete h)

pub entered : (l : Ledger) (journal : List ℕ) (v job : ℕ) (faulty : Bool) → vault_gate l journal v job faulty ≡ Ok (tt {0})
    → Entered l journal v job faulty
unfolding vault_gate gate_of
entered l journal v job faulty e =
    let vault = passed_rest (is_sane l) _ _ e in
    let role = passed_rest (ltb v l.settings.n) _ _ vault in
    let job· = passed_rest (beq (has_bit l.settings.faulty v) faulty) _ _ role in
    record {
      sane = (reflect_sane l).sound (passed_test (is_sane l) _ _ e);
      vault = ltb-true _ _ (passed_test (ltb v l.settings.n) _ _ vault);
      role = (reflect_beq _ _).sound (passed_test (beq (has_bit l.settings.faulty v) faulty) _ _ role);
      known = (reflect_booked (version_of l) journal l.booked job).sound (passed_test _ _ _ job·);
    }

pub enters : (l : Ledger) (journal : List ℕ) (v job : ℕ) (faulty : Bool) → Entered l journal v job faulty
    → vault_gate l journal v job faulty ≡ Ok (tt {0})
unfolding vault_gate gate_of
enters l journal v job faulty h =
    simp (
      (reflect_sane l).complete h.sane,
      lt-ltb _ _ h.vault,
      (reflect_beq _ _).complete h.role,
      (reflect_booked (version_of l) journal
          l.booked job).complete h.known,
    )

-- ---- what a step may rely on behind its gate
module _ (l : Ledger) (journal : List ℕ) (v job : ℕ) (faulty : Bool) where
  pub in_place : Entered l journal v job faulty → Placed l v job
  in_place h = record {
    vault = omega (arith, h.vault, h.sane.lawful.vaults);
    job = omega (arith, h.known.below, h.sane.booked);
    booked = h.sane.booked;
    arrivals = h.sane.arrivals;
  }

  pub placed : (r : Verdict) → r ≡ vault_gate l journal v job faulty → r ≡ Ok (tt {0}) → Placed l v job
  placed r p q = in_place (entered l journal v job faulty (sym p ∙ q))

  pub placed_vault : (r : Verdict) → r ≡ vault_gate l journal v job faulty → r ≡ Ok (tt {0}) → v < 16
  placed_vault r p q = (placed r p q).vault

  pub placed_known : (r : Verdict) → r ≡ vault_gate l journal v job faulty → r ≡ Ok (tt {0}) → Booked (version_of l) journal l.booked job
  placed_known r p q = (entered l journal v job faulty (sym p ∙ q)).known

  pub placed_few : (r : Verdict) → r ≡ vault_gate l journal v job faulty → r ≡ Ok (tt {0}) → l.booked ≤ capacity
  placed_few r p q = (placed r p q).booked

  pub placed_job : (r : Verdict) → r ≡ vault_gate l journal v job faulty → r ≡ Ok (tt {0}) → job < 128
  placed_job r p q = (placed r p q).job

  pub placed_vaults : (r : Verdict) → r ≡ vault_gate l journal v job faulty → r ≡ Ok (tt {0}) → l.settings.n ≤ 16
  placed_vaults r p q = (entered l journal v job faulty (sym p ∙ q)).sane.lawful.vaults

module _ (l : Ledger) (journal : List ℕ) (job : ℕ) where
  pub known_job : (r : Verdict) → r ≡ booked_gate l journal job → r ≡ Ok (tt {0}) → job < 128
  known_job r p q = let h = booked_entered l journal job (sym p ∙ q) in omega (arith, h.1.below, h.0.booked)

  pub known_booked : (r : Verdict) → r ≡ booked_gate l journal job → r ≡ Ok (tt {0}) → Booked (version_of l) journal l.booked job
  known_booked r p q = (booked_entered l journal job (sym p ∙ q)).1

  pub known_sane : (r : Verdict) → r ≡ booked_gate l journal job → r ≡ Ok (tt {0}) → Sane l
  known_sane r p q = (booked_entered l journal job (sym p ∙ q)).0

  pub known_few : (r : Verdict) → r ≡ booked_gate l journal job → r ≡ Ok (tt {0}) → l.booked ≤ capacity
  known_few r p q = (known_sane r p q).booked

  pub known_arrivals : (r : Verdict) → r ≡ booked_gate l journal job → r ≡ Ok (tt {0}) → l.arrivals ≤ capacity
  known_arrivals r p q = (known_sane r p q).arrivals

  pub known_vaults : (r : Verdict) → r ≡ booked_gate l journal job → r ≡ Ok (tt {0}) → l.settings.n ≤ 16
  known_vaults r p q = (known_sane r p q).lawful.vaults

module _ (l : Ledger) (journal : List ℕ) where
  pub whole_few : (r : Verdict) → r ≡ whole_gate l journal → r ≡ Ok (tt {0}) → l.booked ≤ capacity
  whole_few r p q = (whole_entered l journal (sym p ∙ q)).0.booked

  pub whole_vaults : (r : Verdict) → r ≡ whole_gate l journal → r ≡ Ok (tt {0}) → l.settings.n ≤ 16
  whole_vaults r p q = (whole_entered l journal (sym p ∙ q)).0.lawful.vaults

  pub whole_inside : (r : Verdict) → r ≡ whole_gate l journal → r ≡ Ok (tt {0}) → place_of (version_of l) l.booked ≤ length journal
  whole_inside r p q = (whole_entered l journal (sym p ∙ q)).1

module _ (l : Ledger) where
  pub sane_placed : (r : Bool) → r ≡ is_sane l → r ≡ true → Placed l 0 0
  sane_placed r p q = let h = (reflect_sane l).sound (sym p ∙ q) in record { vault = omega arith; job = omega arith; booked = h.booked; arrivals = h.arrivals }

  pub sane_booked : (r : Bool) → r ≡ is_sane l → r ≡ true → l.booked ≤ capacity
  sane_booked r p q = ((reflect_sane l).sound (sym p ∙ q)).booked

  pub sane_next : (r : Bool) → r ≡ is_sane l → r ≡ true → l.next < 16
  sane_next r p q = let h = (reflect_sane l).sound (sym p ∙ q) in omega (arith, h.next, h.lawful.vaults)

pub ruleset entering = (
  placed,
  placed_vault,
  placed_job,
  placed_few,
  placed_known,
  placed_vaults,
  known_job,
  known_booked,
  known_few,
  known_arrivals,
  known_vaults,
  whole_few,
  whole_vaults,
  whole_inside,
  sane_placed,
  sane_booked,
  sane_next,
)

-- ---- the two ways of a step: its gate passes and what was decided is carried, or its gate fails
module _ (l : Ledger) (v job : ℕ) where
  pub opened : (g r : Verdict) (d e : Decision) (z : Reply) → r ≡ g → r ≡ Ok (tt {0}) → e ≡ gated r d → z ≡ carried l e v job → z ≡ carried l (gated g d) v job
  opened g r d e z p q u w = simp (← p, ← u) w

  pub shut : (g r : Verdict) (d : Decision) (why : Refusal) (z : Reply) → r ≡ g → r ≡ Err why → z ≡ turned l why → z ≡ carried l (gated g d) v job
  unfolding applied
  shut g r d why z p q w = simp (sym p ∙ q) w

  -- what was decided behind the open gate
  pub passed : (g r : Verdict) (d e : Decision) (z : Reply) → r ≡ g → r ≡ Ok (tt {0}) → e ≡ d → z ≡ carried l e v job → z ≡ carried l (gated g d) v job
  passed g r d e z p q u w = simp (sym p ∙ q, ← u) w

-- the same of a step that only reads
pub read_opened : (g r : Verdict) (d e : Decision) → r ≡ g → r ≡ Ok (tt {0}) → e ≡ gated r d → e.outcome ≡ (gated g d).outcome
read_opened g r d e p q u = simp (← p, ← u)

pub read_shut : (g r : Verdict) (d : Decision) (why : Refusal) → r ≡ g → r ≡ Err why → Err why ≡ (gated g d).outcome
read_shut g r d why p q = simp (sym p ∙ q)

pub read_passed : (g r : Verdict) (d e : Decision) → r ≡ g → r ≡ Ok (tt {0}) → e ≡ d → e.outcome ≡ (gated g d).outcome
read_passed g r d e p q u = simp (sym p ∙ q, ← u)

-- and of one that lists
pub list_passed : (g r : Verdict) (d e : Listing) → r ≡ g → r ≡ Ok (tt {0}) → e ≡ d → e ≡ gated_listing g d
list_passed g r d e p q u = simp (sym p ∙ q) u

pub list_shut : (g r : Verdict) (d : Listing) (why : Refusal) (e : Listing) → r ≡ g → r ≡ Err why → e ≡ unlisted why → e ≡ gated_listing g d
list_shut g r d why e p q u = simp (sym p ∙ q) u

pub ruleset ways = (opened, passed, shut, read_opened, read_passed, read_shut, list_passed, list_shut, entering)
