-- Outputs in common (document 02, M-107): "The paper's independence condition forgets outputs in common; show a pair for which the law fails without it."
use Rattle.std.specs.Prelude.{false, true, List, [], ◌∷◌, ◌≢◌, ◌≡◌, ℕ, get_or}
use Rattle.base.specs.Lists.{In}
use Rattle.conflicts.specs.Tapes.{labels, output_tapes}
use Rattle.consequences.specs.Independence.{CausallyIndependent, CommutingIf, Eligible, Reached}
use Rattle.instances.specs.Records.{accession_by, first_tape}
use Rattle.ledger.specs.Register.{Fed, Register, feed, feed_all, is_admissible, new_register, tabled, taking}
use Rattle.ledger.specs.Worlds.{Request, commit, propose}

-- the law by the paper's condition, of two different jobs, which can't be
abbrev pub PaperFails : Type 0
PaperFails = CommutingIf CausallyIndependent → ⊥

-- a pair for which it fails, on empty books
pub record Clash (r : Register) (i k : ℕ) : Type 0 where
  pub reached : Reached r
  pub empty : r.taken ≡ []
  -- they are different jobs, with different records
  pub different : i ≢ k
  pub records : get_or r.table i [] ≢ get_or r.table k []
  -- both are admissible now, and they meet the paper's condition
  pub ready : Eligible r i
  pub ready' : Eligible r k
  pub independent : CausallyIndependent (tabled r.table i) (tabled r.table k)
  -- an output label in common
  pub label : ℕ
  pub shared : In label (labels (output_tapes (tabled r.table i)))
  pub shared' : In label (labels (output_tapes (tabled r.table k)))
  -- after either the other is not admissible, and the register stops where both are committed
  pub second : is_admissible (taking r i) (get_or r.table k []) ≡ false
  pub first : is_admissible (taking r k) (get_or r.table i []) ≡ false
  pub stops : (v w signers signers' : ℕ) → (feed (feed r (commit v i signers) true) (commit w k signers') true).running ≡ false
  pub stops' : (v w signers signers' : ℕ) → (feed (feed r (commit w k signers') true) (commit v i signers) true).running ≡ false

abbrev pub answered : Request → Fed
answered request = record { request = request; done = true }

-- two accessions of VAA001L5, by drives 6 and 7, are proposed
abbrev pub rivals : List Fed
rivals = answered (propose (accession_by 6 first_tape)) ∷ answered (propose (accession_by 7 first_tape)) ∷ []

abbrev pub OneLabel : Type 0
OneLabel = Clash (feed_all (new_register 1) rivals) 0 1
