-- What lasts from one step to the next, part by part and as it is seen from outside: which vault has signed or holds which job, whose vote is recorded. So a
-- statement can say what moved and that nothing else did.
use Rattle.std.specs.Prelude.{Bool, false, true, List, [], ◌++◌, ◌∷◌, ◌⊎◌, ◌≡◌, ℕ}
use Rattle.std.specs.Int.Count.{ones}
use Rattle.base.specs.Lists.{In}
use Rattle.federation.specs.Federation.{Lawful}
use Rattle.sets.specs.Bits.{has_bit}
use Rattle.job_sets.specs.Jobs.{job_has}
use Rattle.vaults.specs.declared.Column.{Column}
use Rattle.ledger.specs.State.{vault_at, votes_in}
use Rattle.ledger.specs.Worlds.{Event, World, after_all, start}

-- ---- relations of vaults and jobs

-- the job is among those that the vault has signed and not released
abbrev pub has_signed : World → ℕ → ℕ → Bool
has_signed w v k = job_has (vault_at w.ledger v).signed k

abbrev pub has_held : World → ℕ → ℕ → Bool
has_held w v k = job_has (vault_at w.ledger v).held k

-- the vault's signature, or its acknowledgement, is recorded
abbrev pub has_voted : World → Column → ℕ → ℕ → Bool
has_voted w column v k = has_bit (votes_in w.ledger column k) v

-- how many vaults' are: "totals are the recorded vaults"
abbrev pub votes_on : World → Column → ℕ → ℕ
votes_on w column k = ones (votes_in w.ledger column k)

-- the pair (v, k) joins, and no other
pub record Joins (before after : ℕ → ℕ → Bool) (v k : ℕ) : Type 0 where
  pub joined : after v k ≡ true
  pub kept : (u m : ℕ) → before u m ≡ true → after u m ≡ true
  pub only : (u m : ℕ) → after u m ≡ true → (before u m ≡ true) ⊎ ((u ≡ v) × (m ≡ k))

-- the pair (v, k) goes, and no other
pub record Goes (before after : ℕ → ℕ → Bool) (v k : ℕ) : Type 0 where
  pub gone : after v k ≡ false
  pub kept : (u m : ℕ) → before u m ≡ true → (after u m ≡ true) ⊎ ((u ≡ v) × (m ≡ k))
  pub only : (u m : ℕ) → after u m ≡ true → before u m ≡ true

-- "Arrival order is the order in which jobs are first held by a sound vault": the job stands at its end, unless it was there
pub record Arrival (before after : List ℕ) (k : ℕ) : Type 0 where
  pub again : In k before → after ≡ before
  pub first : (In k before → ⊥) → after ≡ before ++ (k ∷ [])

-- ---- the parts
pub data Part : Type 0 where
  settings : Part
  -- the booked records: how many, and their bytes
  records : Part
  -- the arrival order
  order : Part
  held : Part
  signed : Part
  -- the recorded signatures, or acknowledgements
  votes : Column → Part
  -- the snapshot's round: the vault that is visited next, and the jobs seen
  round : Part
  -- the clients' histories
  histories : Part

abbrev pub Same : Part → World → World → Type 0
Same settings w w' = w'.ledger.settings ≡ w.ledger.settings
Same records w w' = (w'.ledger.booked ≡ w.ledger.booked) × (w'.booked ≡ w.booked)
Same order w w' = (w'.ledger.arrivals ≡ w.ledger.arrivals) × (w'.ledger.order ≡ w.ledger.order)
Same held w w' = (v : ℕ) → (vault_at w'.ledger v).held ≡ (vault_at w.ledger v).held
Same signed w w' = (v : ℕ) → (vault_at w'.ledger v).signed ≡ (vault_at w.ledger v).signed
Same (votes column) w w' = (k : ℕ) → votes_in w'.ledger column k ≡ votes_in w.ledger column k
Same round w w' = (w'.ledger.next ≡ w.ledger.next) × (w'.ledger.seen ≡ w.ledger.seen)
Same histories w w' = w'.ledger.histories ≡ w.ledger.histories

-- nothing moves but, at most, these parts
abbrev pub Only : List Part → World → World → Type 0
Only moved w w' = (p : Part) → (In p moved → ⊥) → Same p w w'

-- the parts are all that lasts: two lists of steps that leave each part the same leave the same
abbrev pub AllParts : Type 0
AllParts =
    (n b faulty version : ℕ) → Lawful (record { n = n; b = b; faulty = faulty; version = version }) → (es fs : List Event)
    → let w = after_all (start n b faulty version) es in let w' = after_all (start n b faulty version) fs in
    ((p : Part) → Same p w w') → w' ≡ w
