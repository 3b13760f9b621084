-- A run of a load prints a line for each of its steps, since none of them lists anything; and none says 2, since each is read, and no check of a step has
-- that number.
use mathlib.Core.Bool.{Bool, beq, cond, false, true, true≢false}
use mathlib.Core.List.{List, [], ◌++◌, ◌∷◌, append-nil, map}
use mathlib.Core.Logic.{⊎_elim}
use mathlib.Core.Path.{◌∙◌, ◌≡◌, ap, ap₂, refl, subst, sym}
use Prim.Native.Nat.{◌+◌, ◌≤◌, suc, zero, ℕ}
use native.Mathlib.Omega.{arith}
use lib.Count.{ones}
use lib.Dec.{eqb, leb, ltb}
use lib.ListN.{length}
use Rattle.base.specs.Lists.{In}
use Rattle.base.specs.Search.{first_below}
use Rattle.binomials.specs.Draw.{draw_of}
use Rattle.checks.specs.Checks.{balanced, check_of, examined, repeated_at, unsupported_at, well_formed}
use Rattle.codec.specs.Codec.{job_of, record_size}
use Rattle.federation.specs.Federation.{is_lawful, threshold_of}
use Rattle.federation.specs.declared.Settings.{Settings}
use Rattle.job_sets.specs.Jobs.{job_has, no_jobs}
use Rattle.job_sets.specs.declared.job_set.JobSet.{JobSet}
use Rattle.journal.specs.Journal.{is_booked}
use Rattle.ledger.specs.Decisions.{
  admission_at,
  ageing,
  certificate,
  committing,
  consent,
  consenting,
  gated,
  placing,
  preflighting,
  proposal,
  receiving,
  settling,
}
use Rattle.ledger.specs.State.{is_sane, version_of}
use Rattle.ledger.specs.Steps.{
  booked_gate,
  commit_decision,
  faulty_vote_decision,
  gate_of,
  generations_decision,
  preflight_decision,
  propose_decision,
  sane_gate,
  show_decision,
  vault_gate,
}
use Rattle.ledger.specs.declared.Decision.{Decision}
use Rattle.ledger.specs.declared.Ledger.{Ledger}
use Rattle.outcome.specs.Figures.{number_of, refusal_number, Outcome, Verdict}
use Rattle.std.specs.Prelude.{Ok, Err}
use Rattle.outcome.specs.declared.Refusal.{Refusal}
use Rattle.outcome.specs.declared.Refusal.TheVariants.{
  Full,
  InputReserved,
  Malformed,
  NoVault,
  NotBooked,
  NotCreated,
  NotHeld,
  NotSigned,
  OutputReserved,
  Repeated,
  Retired,
  Settings as BadSettings,
  TooFewSigners,
  TooManyAbsent,
  Unbalanced,
  Unsupported,
  WrongVault,
}
use Rattle.queries.specs.Admission.{admission, consumed_at, not_created_at, remade_at}
use Rattle.record.specs.declared.Job.{Job}
use Rattle.runfile.specs.Run.{Run, command_of, text_next, text_of, turn}
use Rattle.runfile.specs.Steps.{Command, listed_by, reply_of}
use Rattle.sets.specs.Bits.{has_bit, subset_of, with_member}
use Rattle.text.specs.Text.{line_for, lines_of, members_from, members_of}
use Rattle.vaults.specs.Vaults.{consented, vault_preflight}
use Rattle.vaults.specs.declared.Consent.TheVariants.{Already}
use Rattle.vaults.specs.declared.Signing.{Signing}
use Rattle.vaults.specs.declared.Vault.{Vault}
use Rattle.load.proofs.Reading.{Reads, next_step, no_step}
use Rattle.load.specs.Answers.{lines_after, outcome_next}
use Rattle.load.specs.Commands.{command_for}
use Rattle.load.specs.Visits.{runs_next}
use Rattle.load.specs.declared.Step.{Step}
use Rattle.load.specs.declared.Step.TheVariants.{Commit, Draw, FaultyAcknowledge, FaultySign, Generations, Preflight, Propose, Show}

-- ---- no check of a step has the number 2
abbrev verdict_number : Verdict → ℕ
verdict_number (Ok _) = 0
verdict_number (Err why) = refusal_number why

record Other (v : Verdict) : Type 0 where
  fails : eqb (verdict_number v) 2 ≡ false

record Answered (o : Outcome) : Type 0 where
  says : eqb (number_of o) 2 ≡ false

pass : Other (Ok (tt {0}))
pass = record { fails = refl }

fail : (why : Refusal) → eqb (refusal_number why) 2 ≡ false → Other (Err why)
fail why e = record { fails = e }

done : (value : ℕ) → Answered (Ok value)
done value = record { says = refl }

refused : (why : Refusal) → Other (Err why) → Answered (Err why)
refused why o = record { says = o.fails }

-- a row of checks, and what is decided behind it
row : (b : Bool) (x y : Verdict) → Other x → Other y → Other (cond b x y)
row true x y p q = p
row false x y p q = q

behind : (g : Verdict) (d : Decision) → Other g → Answered d.outcome → Answered (gated g d).outcome
behind (Ok _) d p q = q
behind (Err why) d p q = refused why p

either : (b : Bool) (d e : Decision) → Answered d.outcome → Answered e.outcome → Answered (cond b d e).outcome
either true d e p q = p
either false d e p q = q

examines : (version : ℕ) (bytes : List ℕ) → Other (examined version bytes)
unfolding examined check_of
examines version bytes =
    let j = job_of bytes in
    row (eqb (length bytes) (record_size version)) _ _
    (row (well_formed j) _ _
    (row (ltb (first_below 8 (repeated_at j)) 8) _ _ (fail (Repeated _) refl)
    (row (ltb (first_below 8 (unsupported_at j)) 8) _ _ (fail (Unsupported _) refl) (row (balanced j) _ _ pass (fail Unbalanced refl))))
    (fail Malformed refl))
    (fail Malformed refl)

admits : (job : ℕ → Job) (booked : ℕ) (held others : JobSet) (j : Job) → Other (admission job booked held others j)
unfolding admission
admits job booked held others j =
    row (ltb (first_below 8 (not_created_at job booked held j)) 8) _ _ (fail (NotCreated _) refl)
    (row (ltb (first_below 8 (consumed_at job booked held j)) 8) _ _ (fail (Retired _) refl)
    (row (ltb (first_below 8 (consumed_at job booked others j)) 8) _ _ (fail (InputReserved _) refl)
    (row (ltb (first_below 8 (remade_at job booked held others j)) 8) _ _ (fail (OutputReserved _) refl) pass)))

certifies : (s : Settings) (recorded signers : ℕ) → Other (certificate s recorded signers)
unfolding certificate
certifies s recorded signers =
    row (subset_of signers recorded) _ _ (row (leb (threshold_of s) (ones signers)) _ _ pass (fail TooFewSigners refl)) (fail NotSigned refl)

consents : (state : Vault) (d : Verdict) (signers v k : ℕ) → Other d → Answered (consent state d signers v k).outcome
unfolding consent vault_preflight
consents state d signers v k n = by (job_has state.signed k) d n
  where
    by : (b : Bool) (d : Verdict) → Other d
        → let answer : Signing = cond b (record { consent = Already; vault = state }) (consented d state k) in
        Answered (consenting answer.consent answer.vault signers v).outcome
    by true d n = done (ones signers)
    by false (Ok _) n = done (ones (with_member 16 signers v))
    by false (Err why) n = refused why n

module _ (l : Ledger) (journal : List ℕ) where
  is_sane_lem : Other (sane_gate l)
  unfolding sane_gate
  is_sane_lem = row (is_sane l) _ _ pass (fail BadSettings refl)

  booked_or_lem : (k : ℕ) → Other (cond (is_booked (version_of l) journal l.booked k) (Ok (tt {0})) (Err NotBooked))
  booked_or_lem k = row (is_booked (version_of l) journal l.booked k) _ _ pass (fail NotBooked refl)

  of_job_lem : (k : ℕ) → Other (booked_gate l journal k)
  unfolding booked_gate
  of_job_lem k = row (is_sane l) _ _ (booked_or_lem k) (fail BadSettings refl)

  at_vault : (v k : ℕ) (faulty : Bool) → Other (vault_gate l journal v k faulty)
  unfolding vault_gate gate_of
  at_vault v k faulty =
      row (is_sane l) _ _
      (row (ltb v l.settings.n) _ _
      (row (beq (has_bit l.settings.faulty v) faulty) _ _ (booked_or_lem k) (fail WrongVault refl))
      (fail NoVault refl))
      (fail BadSettings refl)

  places : (equal inside booked : ℕ) (room : Bool) → Answered (placing equal inside booked room).outcome
  unfolding placing
  places equal inside booked room = either (ltb equal inside) _ _ (done equal) (either room _ _ (done booked) (refused Full (fail Full refl)))

  receives : (state : Vault) (acknowledgers v k : ℕ) → Answered (receiving state acknowledgers v k).outcome
  unfolding receiving
  receives state acknowledgers v k = either (job_has state.held k) _ _ (done (ones acknowledgers)) (done (ones (with_member 16 acknowledgers v)))

  ages : (b : Bool) (age : ℕ) → Answered (ageing b age).outcome
  unfolding ageing
  ages b age = either b _ _ (done age) (refused NotHeld (fail NotHeld refl))

  draws : (s : Settings) (u : ℕ) → Answered (draw_of s u)
  unfolding draw_of
  draws s u = by (is_lawful s) (leb u s.n) _
    where
      by : (b c : Bool) (value : ℕ) → Answered (cond b (cond c (Ok value) (Err TooManyAbsent)) (Err BadSettings))
      by true true value = done value
      by true false value = refused TooManyAbsent (fail TooManyAbsent refl)
      by false c value = refused BadSettings (fail BadSettings refl)

  step_answered : (first : ℕ) (s : Step) → Answered (reply_of l journal (command_for first s)).outcome
  unfolding propose_decision proposal settling preflight_decision preflighting admission_at commit_decision committing faulty_vote_decision show_decision
      generations_decision
  step_answered first (Propose j) = behind (sane_gate l) _ is_sane_lem (behind (examined _ _) _ (examines _ _) (places _ _ _ _))
  step_answered first (Preflight v j) = behind (vault_gate l journal v j false) _ (at_vault v j false) (consents _ _ _ _ _ (admits _ _ _ _ _))
  step_answered first (Commit v j signers) =
      behind (vault_gate l journal v j false) _ (at_vault v j false) (behind (certificate _ _ _) _ (certifies _ _ _) (receives _ _ _ _))
  step_answered first (FaultySign v j) = behind (vault_gate l journal v j true) _ (at_vault v j true) (done _)
  step_answered first (FaultyAcknowledge v j) = behind (vault_gate l journal v j true) _ (at_vault v j true) (done _)
  step_answered first (Show j) = behind (booked_gate l journal j) _ (of_job_lem j) (done _)
  step_answered first (Draw u) = draws l.settings u
  step_answered first (Generations j) = behind (booked_gate l journal j) _ (of_job_lem j) (ages _ _)

  -- and none of them lists anything
  nothing_listed : (first : ℕ) (s : Step) → listed_by l journal (command_for first s) ≡ no_jobs
  nothing_listed first (Propose j) = refl
  nothing_listed first (Preflight v j) = refl
  nothing_listed first (Commit v j signers) = refl
  nothing_listed first (FaultySign v j) = refl
  nothing_listed first (FaultyAcknowledge v j) = refl
  nothing_listed first (Show j) = refl
  nothing_listed first (Draw u) = refl
  nothing_listed first (Generations j) = refl

no_lines : lines_of (members_of no_jobs) ≡ []
unfolding members_from job_has no_jobs has_bit
no_lines = refl

-- ---- the whole run
pub record Lines (first : ℕ) (steps : List Step) (input : List ℕ) (r : Run) (n : ℕ) : Type 0 where
  pub text : text_next n input r ≡ lines_after r.count (map (outcome_next input) (runs_next n input r))
  pub count : length (map (outcome_next input) (runs_next n input r)) ≡ length steps
  pub none : (o : Outcome) → In o (map (outcome_next input) (runs_next n input r)) → number_of o ≡ 2 → ⊥

pub all_lines : (first : ℕ) (steps : List Step) (input : List ℕ) (r : Run) (n : ℕ) → length steps ≤ n → Reads first steps input r → Lines first steps input r n
unfolding text_next runs_next turn
all_lines first [] input r zero l h = record { text = refl; count = refl; none = λ o m. absurd m }
all_lines first [] input r (suc n) l h =
    let e = no_step first input r h in record { text = simp e; count = simp e; none = λ o m. absurd (simp e at m) }
all_lines first (s ∷ steps) input r zero l h = absurd (omega arith)
all_lines first (s ∷ steps) input r (suc n) l h =
    let e = next_step first s steps input r h in
    let rest = all_lines first steps input (turn input r) n (omega arith) e.onward in
    let listed : lines_of (members_of (listed_by r.ledger r.journal (command_of input r))) ≡ [] =
    ap (λ (c : Command). lines_of (members_of (listed_by r.ledger r.journal c))) e.reads
    ∙ ap (λ (members : JobSet). lines_of (members_of members)) (nothing_listed r.ledger r.journal first s)
    ∙ no_lines in
    let line : text_of (r.count + 1) r.ledger r.journal (command_of input r) ≡ line_for (r.count + 1) (outcome_next input r) =
    ap (λ (t : List ℕ). line_for (r.count + 1) (outcome_next input r) ++ t) listed ∙ append-nil (line_for (r.count + 1) (outcome_next input r)) in
    let here : Answered (outcome_next input r) =
    subst (λ (c : Command). Answered (reply_of r.ledger r.journal c).outcome) (sym e.reads) (step_answered r.ledger r.journal first s) in
    record {
      text = simp e.more (ap₂ (λ (x y : List ℕ). x ++ y) line rest.text);
      count = simp e.more (ap suc rest.count);
      none = λ o. simp e.more
          (⊎_elim (λ q t. true≢false (sym (ap (λ (x : ℕ). eqb x 2) (sym (ap number_of q) ∙ t)) ∙ here.says)) (rest.none o));
    }
