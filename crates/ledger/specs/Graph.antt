-- A vault's jobs as the paper's local graph (paper 2.2 and 2.3): who created a tape and who consumed a label. Over it Algorithms 1 and 2, line by line. What
-- stands in quotation marks is the paper's, and behind the word mend document 01's; where the paper leaves something open, a reading says how it is taken.
use Rattle.std.specs.Prelude.{true, ◌⊎◌, ◌≡◌, ◌<◌, ◌≤◌, ℕ, Ok}
use Rattle.std.specs.Int.Count.{ones}
use Rattle.base.specs.Lists.{Distinct, In}
use Rattle.checks.specs.Checks.{check_of}
use Rattle.conflicts.specs.Tapes.{input_tapes, labels, output_tapes, used_from}
use Rattle.record.specs.declared.Entry.{Entry}
use Rattle.record.specs.declared.Job.{Job}
use Rattle.sets.specs.Bits.{has_bit}
use Rattle.job_sets.specs.Jobs.{job_has}
use Rattle.job_sets.specs.declared.job_set.JobSet.{JobSet}
use Rattle.federation.specs.Federation.{threshold_of}
use Rattle.federation.specs.declared.Settings.{Settings}

module _ (job : ℕ → Job) (booked : ℕ) where
  -- "creator(e) = t": a booked job of the set has the tape, label and frames, as an output
  pub record Creator (set : JobSet) (t : Entry) : Type 0 where
    pub which : ℕ
    pub below : which < booked
    pub member : job_has set which ≡ true
    pub makes : In t (output_tapes (job which))

  -- a booked job of the set has the label in the half: among its inputs, "consumer(e) = t", or among its outputs
  pub record Lister (half : ℕ) (set : JobSet) (label : ℕ) : Type 0 where
    pub which : ℕ
    pub below : which < booked
    pub member : job_has set which ≡ true
    pub lists : In label (labels (used_from (job which) half 4))

  abbrev pub Consumer : JobSet → ℕ → Type 0
  Consumer = Lister 0

  abbrev pub Maker : JobSet → ℕ → Type 0
  Maker = Lister 4

  -- "e was produced and has not yet been consumed". Mends: only an accession creates a tape, so there is no genesis set; a tape is
  -- consumed with its label.
  pub record Frontier (held : JobSet) (t : Entry) : Type 0 where
    pub created : Creator held t
    pub unconsumed : Consumer held t.label → ⊥

  -- "admissible over G", clause by clause
  pub record Admissible (held : JobSet) (j : Job) : Type 0 where
    -- 1: "PoBValid(t)". Document 01 puts the drive and frame rules in its place: checks 6 to 9
    pub valid : check_of j ≡ Ok tt
    -- 2: "In(t) has no duplicates". A reading, here and below: a tape is known by its label, so no label stands twice
    pub inputs_once : Distinct (labels (input_tapes j))
    -- 3: "Out(t) has no duplicates"
    pub outputs_once : Distinct (labels (output_tapes j))
    -- 4: "In(t) ∩ Out(t) = ∅"
    pub apart : (x : ℕ) → In x (labels (input_tapes j)) → In x (labels (output_tapes j)) → ⊥
    -- 5: "inputs are on the frontier: In(t) ⊆ Frontier(G)", label and frames
    pub frontier : (t : Entry) → In t (input_tapes j) → Frontier held t
    -- 6: "outputs are fresh: for every e ∈ Out(t), e ∉ E_G". A reading: E_G grows by Out alone, so a label that a held job has only as an input is fresh
    pub fresh : (x : ℕ) → In x (labels (output_tapes j)) → Maker held x → ⊥

  -- Algorithm 1, where member r signs. `others` are the jobs that r signed and has not released, but for this one: those whose marks stand. Mend: a commit
  -- clears no mark; a release does (document 02), which a vault makes only of a job that lost to one that it holds.
  pub record Algorithm1 (held others : JobSet) (j : Job) : Type 0 where
    -- "verify PoBValid(t); verify clauses 2–4 of Adm; if not (In(t) ⊆ Frontier(G_r)) then return reject; if some e ∈ Out(t) already in E_{G_r} then return
    -- reject"
    pub admissible : Admissible held j
    -- "mark In(t) as tentatively consumed in G_r", which "prevents r from signing any conflicting transaction"
    pub unmarked_inputs : (x : ℕ) → In x (labels (input_tapes j)) → Consumer others x → ⊥
    -- mend: "here outputs are reserved too, else two accessions could make one label"
    pub unmarked_outputs : (x : ℕ) → In x (labels (output_tapes j)) → Maker others x → ⊥

  -- the same without what the record alone decides: what checks 11 to 14 ask
  pub record Unblocked (held others : JobSet) (j : Job) : Type 0 where
    pub created : (t : Entry) → In t (input_tapes j) → Creator held t
    pub unconsumed : (x : ℕ) → In x (labels (input_tapes j)) → Consumer held x → ⊥
    pub unmarked : (x : ℕ) → In x (labels (input_tapes j)) → Consumer others x → ⊥
    pub unmade : (x : ℕ) → In x (labels (output_tapes j)) → Maker held x ⊎ Maker others x → ⊥

-- "a single short signature that verifies iff |S| ≥ τ", "τ = q = n − b". Mend: "a signature is a fact kept by the engine", so what is carried is the set S
-- itself, and each of it must have signed. Checks 15 and 16.
pub record Certificate (s : Settings) (recorded signers : ℕ) : Type 0 where
  pub signed : (v : ℕ) → has_bit signers v ≡ true → has_bit recorded v ≡ true
  pub enough : threshold_of s ≤ ones signers

-- Algorithm 2, where member r acknowledges. What follows in it is what it leaves (`ByCommit` in Demand2.antt): "if t ∈ T_{G_r} then return ack", else "append t
-- to G_r". Mend: it does not "clear any tentative marks on In(t)". Members "do not re-check admissibility".
pub record Algorithm2 (s : Settings) (recorded signers : ℕ) (j : Job) : Type 0 where
  -- "verify σ is a valid threshold signature on t"
  pub signature : Certificate s recorded signers
  -- "verify PoBValid(t)": checks 6 to 9. A reading: of a job already held too; a booked record passed them
  pub valid : check_of j ≡ Ok tt
