-- "Signatures stay", and so does what is held, acknowledged and booked: from one world to the next these only grow. What a vault has signed, which reserves
-- tapes there, stays too, but for a release (document 02): "A job that lost to a rival reserves its other tapes for ever."
use Rattle.std.specs.Prelude.{false, true, List, ◌++◌, ◌≢◌, ◌⊎◌, ◌≡◌, ℕ}
use Rattle.conflicts.specs.Conflicts.{conflicting}
use Rattle.federation.specs.Federation.{Lawful}
use Rattle.sets.specs.Bits.{has_bit}
use Rattle.job_sets.specs.Jobs.{job_has}
use Rattle.ledger.specs.Demand2.{accepts}
use Rattle.ledger.specs.Demand3.{Correct, booked_job}
use Rattle.ledger.specs.State.{acknowledgers_of, signers_of, vault_at}
use Rattle.ledger.specs.Steps.{release_of}
use Rattle.ledger.specs.Worlds.{Event, World, after, after_all, preflight, release, start}
use Rattle.ledger.specs.declared.Ledger.{Ledger}

-- the vault signed the job and released it: its signature is recorded, and it holds a rival, which it never signed
pub record Released (w : World) (v k : ℕ) : Type 0 where
  pub recorded : has_bit (signers_of w.ledger k) v ≡ true
  pub unsigned : job_has (vault_at w.ledger v).signed k ≡ false
  pub rival : ℕ
  pub other : rival ≢ k
  pub conflicts : conflicting (booked_job w rival) (booked_job w k) ≡ true
  pub held : job_has (vault_at w.ledger v).held rival ≡ true
  pub never : has_bit (signers_of w.ledger rival) v ≡ false

pub record Grows (w w' : World) : Type 0 where
  pub held : (v k : ℕ) → job_has (vault_at w.ledger v).held k ≡ true → job_has (vault_at w'.ledger v).held k ≡ true
  pub signatures : (v k : ℕ) → has_bit (signers_of w.ledger k) v ≡ true → has_bit (signers_of w'.ledger k) v ≡ true
  pub acknowledgements : (v k : ℕ) → has_bit (acknowledgers_of w.ledger k) v ≡ true → has_bit (acknowledgers_of w'.ledger k) v ≡ true
  -- the booked bytes go on
  pub more : List ℕ
  pub booked : w'.booked ≡ w.booked ++ more

-- wherever a list of steps has led, and further steps after it
abbrev pub SignedStays : Type 0
SignedStays =
    (n b faulty version : ℕ) → Lawful (record { n = n; b = b; faulty = faulty; version = version }) → (es fs : List Event) (v k : ℕ)
    → Correct (record { n = n; b = b; faulty = faulty; version = version }) v
    → job_has (vault_at (after_all (start n b faulty version) es).ledger v).signed k ≡ true
    → (job_has (vault_at (after_all (after_all (start n b faulty version) es) fs).ledger v).signed k ≡ true)
    ⊎ Released (after_all (after_all (start n b faulty version) es) fs) v k

-- "A later preflight treats the job as not signed there", and turns it back, whatever journal is lent: its rival stays held
abbrev pub ReleasedForGood : Type 0
ReleasedForGood =
    (n b faulty version : ℕ) → Lawful (record { n = n; b = b; faulty = faulty; version = version }) → (es fs : List Event) (v k : ℕ)
    → Correct (record { n = n; b = b; faulty = faulty; version = version }) v → Released (after_all (start n b faulty version) es) v k
    → Released (after_all (after_all (start n b faulty version) es) fs) v k
    × ((size : ℕ) (beyond : List ℕ) → accepts (after_all (after_all (start n b faulty version) es) fs) size beyond (preflight v k) ≡ false)

-- a release that is answered 0 leaves its job released
abbrev pub AfterRelease : Type 0
AfterRelease =
    (n b faulty version : ℕ) → Lawful (record { n = n; b = b; faulty = faulty; version = version }) → (es : List Event) (size : ℕ) (beyond : List ℕ)
    (v k rival : ℕ) → let w = after_all (start n b faulty version) es in accepts w size beyond (release v k rival) ≡ true
    → Released (after w (record { request = release v k rival; size = size; beyond = beyond })) v k

-- "takes the job from the signed set", and changes nothing else: no recorded vote, no count, no held set, no order
pub record OnlySigned (l l' : Ledger) (v k : ℕ) : Type 0 where
  pub settings : l'.settings ≡ l.settings
  pub booked : l'.booked ≡ l.booked
  pub votes : l'.votes ≡ l.votes
  pub order : l'.order ≡ l.order
  pub arrivals : l'.arrivals ≡ l.arrivals
  pub next : l'.next ≡ l.next
  pub seen : l'.seen ≡ l.seen
  pub histories : l'.histories ≡ l.histories
  pub held : (u m : ℕ) → job_has (vault_at l' u).held m ≡ job_has (vault_at l u).held m
  pub signed : (u m : ℕ) → job_has (vault_at l u).signed m ≡ true → (job_has (vault_at l' u).signed m ≡ true) ⊎ ((u ≡ v) × (m ≡ k))
  pub no_more : (u m : ℕ) → job_has (vault_at l' u).signed m ≡ true → job_has (vault_at l u).signed m ≡ true

-- of any ledger, journal and arguments, refused or not
abbrev pub ReleaseTakes : Type 0
ReleaseTakes = (l : Ledger) (journal : List ℕ) (v k rival : ℕ) → OnlySigned l (release_of l journal v k rival).ledger v k
