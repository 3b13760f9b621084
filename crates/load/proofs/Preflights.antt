-- At least forty steps of a load are preflights of booked jobs at correct vaults: which steps they are goes by the index alone.
use mathlib.Core.Bool.{Bool, cond, false, true}
use mathlib.Core.List.{List, ◌∷◌}
use mathlib.Core.Logic.{⊎_elim}
use mathlib.Core.Path.{◌∙◌, ◌≡◌, ap, refl, subst, sym}
use Prim.Native.Nat.{◌%◌, ◌*◌, ◌+◌, ◌-◌, ◌/◌, ◌<◌, ◌^◌, ◌≤◌, min, suc, zero, ℕ}
use native.Mathlib.Omega.{arith}
use lib.Dec.{ltb}
use lib.ListN.{length, length-replicate}
use borrow.Author.Tests.{ltb-false, ltb-true}
use Rattle.base.proofs.Reflect.{by_cases}
use Rattle.base.specs.Lists.{In, keep_if}
use Rattle.codec.specs.Codec.{bytes_of}
use Rattle.federation.specs.Federation.{Lawful}
use Rattle.federation.specs.declared.Settings.{Settings}
use Rattle.generator.specs.Generator.{drawn, next}
use Rattle.ledger.specs.State.{new_ledger}
use Rattle.ledger.specs.Worlds.{commit, faulty_vote, generations, preflight, propose, show}
use Rattle.vaults.specs.declared.Column.TheVariants.{Acknowledgements, Signatures}
use Rattle.ledger.specs.declared.Ledger.{Ledger}
use Rattle.runfile.specs.Run.{Run, begins, opened, turn}
use Rattle.runfile.specs.Steps.{Command, journal_by, reply_of, request}
use Rattle.sets.specs.Bits.{has_bit}
use Rattle.load.proofs.Booking.{Standing, other_standing, passes_gate, proposed_standing}
use Rattle.load.proofs.Reading.{Reads, next_step, no_step}
use Rattle.load.proofs.Vaults.{CorrectAt, from_correct}
use Rattle.load.proofs.Whole.{drawn_below, fair, faulty_word, lawful_load, long, reads_load}
use Rattle.load.specs.Commands.{command_for}
use Rattle.load.specs.Loads.{load_bytes, steps_from, steps_of}
use Rattle.load.specs.Plans.{Fair, correct_from, faulty_of, plan_of, plan_with}
use Rattle.load.specs.Records.{job_for}
use Rattle.load.specs.Steps.{asking, delivering, header_bytes, step_for}
use Rattle.load.specs.Visits.{asks_well, is_pass, preflights_well, runs_next}
use Rattle.load.specs.declared.Plan.{Plan}
use Rattle.load.specs.declared.Step.{Step}
use Rattle.load.specs.declared.Step.TheVariants.{Commit, Draw, FaultyAcknowledge, FaultySign, Generations, Preflight, Propose, Show}

-- ---- what kind of step each is
-- how many records are booked before step i
abbrev booked_at : ℕ → ℕ
booked_at i = i / 50 * 10 + min (i % 50) 10

-- step k of a round is a preflight
abbrev is_ask : ℕ → Bool
is_ask k = cond (ltb k 29) (cond (ltb k 10) false (cond (ltb k 26) true (cond (ltb k 28) false true))) false

-- neither a proposal nor a preflight
abbrev Quiet : Step → Type 0
Quiet (Propose j) = ⊥
Quiet (Preflight v j) = ⊥
Quiet (Commit v j signers) = Unit {0}
Quiet (FaultySign v j) = Unit {0}
Quiet (FaultyAcknowledge v j) = Unit {0}
Quiet (Show j) = Unit {0}
Quiet (Draw u) = Unit {0}
Quiet (Generations j) = Unit {0}

data Sort (p : Plan) (i : ℕ) : Step → Bool → Type 0 where
  proposes : (j : ℕ) → j ≡ booked_at i → i % 50 < 10 → Sort p i (Propose j) false
  asks : (v j : ℕ) → CorrectAt p v → j < booked_at i → 10 ≤ i % 50 → Sort p i (Preflight v j) true
  quiet : (s : Step) → Quiet s → 10 ≤ i % 50 → Sort p i s false

if_quiet : (b : Bool) (x y : Step) → Quiet x → Quiet y → Quiet (cond b x y)
if_quiet true x y h g = h
if_quiet false x y h g = g

module _ (p : Plan) (fair : Fair p) (i d : ℕ) (h : i < 200) where
  abbrev main : ℕ
  main = i / 50 * 10

  abbrev k : ℕ
  k = i % 50

  sort_asking : Sort p i (asking p main k d) (cond (ltb k 10) false (cond (ltb k 26) true (cond (ltb k 28) false true)))
  unfolding asking
  sort_asking =
      by_cases (λ b. Sort p i (cond b (Propose (main + k)) (cond (ltb k 26) (Preflight (correct_from p (p.turn + k)) main) (cond (ltb k 28) (FaultySign
      p.start (main + (k - 26))) (Preflight (correct_from p d) (main + 1)))))
      (cond b false (cond (ltb k 26) true (cond (ltb k 28) false true)))) (ltb k 10)
      (λ e. let l : k < 10 = ltb-true k 10 e in proposes (main + k) (omega arith) l)
      (λ e. let l : 10 ≤ k = ltb-false k 10 e in
      by_cases (λ b. Sort p i (cond b (Preflight (correct_from p (p.turn + k)) main) (cond (ltb k 28) (FaultySign p.start (main + (k - 26))) (Preflight
      (correct_from p d) (main + 1)))) (cond b true (cond (ltb k 28) false true))) (ltb k 26)
      (λ f. asks (correct_from p (p.turn + k)) main (from_correct p fair (p.turn + k)) (omega arith) l)
      (λ f. by_cases (λ b. Sort p i (cond b (FaultySign p.start (main + (k - 26))) (Preflight (correct_from p d) (main + 1))) (cond b false true)) (ltb k 28)
      (λ g. quiet (FaultySign p.start (main + (k - 26))) tt l)
      (λ g. asks (correct_from p d) (main + 1) (from_correct p fair d) (omega arith) l)))

  quiet_delivering : Quiet (delivering p main k d)
  unfolding delivering
  quiet_delivering = if_quiet (ltb k 30) _ _ tt (if_quiet (ltb k 46) _ _ tt (if_quiet (ltb k 47) _ _ tt (if_quiet (ltb k 48) _ _ tt (if_quiet
      (ltb k 49) _ _ tt tt))))

  sorted : Sort p i (step_for p i d) (is_ask k)
  unfolding step_for
  sorted =
      by_cases (λ b. Sort p i (cond b (asking p main k d) (delivering p main k d)) (cond b (cond (ltb k 10) false (cond (ltb k 26) true (cond
      (ltb k 28) false true))) false)) (ltb k 29)
      (λ e. sort_asking)
      (λ e. quiet (delivering p main k d) quiet_delivering (omega (arith, ltb-false k 29 e)))

-- a proposal is of one of the forty jobs
sort_below : (p : Plan) (i : ℕ) (s : Step) (a : Bool) → i < 200 → Sort p i s a → (j : ℕ) → Propose j ≡ s → j < 40
sort_below p i s a h (proposes m e k) j q = let z : j ≡ m = cc in omega arith
sort_below p i s a h (asks v m c b k) j q = let z : ◌≡◌ {A = ℕ} 0 1 = cc in absurd (omega arith)
sort_below p i s a h (quiet _ t k) j q = absurd (subst Quiet (sym q) t)

pub proposed_below : (p : Plan) → Fair p → (count i state : ℕ) → i + count ≡ 200 → (j : ℕ) → In (Propose j) (steps_from p count i state) → j < 40
unfolding steps_from
proposed_below p fair zero i state e j m = absurd m
proposed_below p fair (suc count) i state e j m =
    let b : i < 200 = omega arith in
    ⊎_elim (sort_below p i (step_for p i (drawn (next state))) (is_ask (i % 50)) b (sorted p fair i (drawn (next state)) b) j)
    (proposed_below p fair count (suc i) (next state) (omega arith) j) m

-- ---- how many there are
asks_from : ℕ → ℕ → ℕ
asks_from zero i = 0
asks_from (suc count) i = cond (is_ask (i % 50)) (suc (asks_from count (suc i))) (asks_from count (suc i))

sixty_eight : asks_from 200 0 ≡ 68
unfolding asks_from
sixty_eight = refl

count_if : {A : Type 0} (b c : Bool) (x : A) (l : List A) → b ≡ c → length (cond b (x ∷ l) l) ≡ cond c (suc (length l)) (length l)
count_if true c x l e = rw (sym e)
count_if false c x l e = rw (sym e)

module _ (first : ℕ) (small : first < 2 ^ 32) (p : Plan) (fair : Fair p) (s : Settings) (lawful : Lawful s) (n-is : s.n ≡ p.n)
    (faulty_is : s.faulty ≡ faulty_of p) where
  -- a step keeps what is booked, or books the next record
  after_step : (i : ℕ) (t : Step) (a : Bool) → i < 200 → Sort p i t a → (l : Ledger) (journal : List ℕ) → Standing first s (booked_at i) l journal
      → Standing first s (booked_at (suc i)) (reply_of l journal (command_for first t)).ledger (journal_by l journal (command_for first t))
  after_step i t a h (proposes j e k) l journal st =
      let z : suc (booked_at i) ≡ booked_at (suc i) = omega arith in
      subst (λ (m : ℕ). Standing first s m (reply_of l journal (request (propose (bytes_of 1 (job_for first j))))).ledger (journal_by l journal (request
      (propose (bytes_of 1 (job_for first j)))))) z
      (subst (λ (m : ℕ). Standing first s (suc (booked_at i)) (reply_of l journal (request (propose (bytes_of 1 (job_for first m))))).ledger
      (journal_by l journal (request (propose (bytes_of 1 (job_for first m)))))) (sym e)
      (proposed_standing first s (booked_at i) l journal st lawful small (omega arith)))
  after_step i t a h (asks v j c b k) l journal st =
      let z : booked_at i ≡ booked_at (suc i) = omega arith in
      subst (λ (m : ℕ). Standing first s m (reply_of l journal (request (preflight v j))).ledger journal) z (other_standing first s
      (booked_at i) l journal st (preflight v j) tt)
  after_step i _ a h (quiet t q k) l journal st =
      let z : booked_at i ≡ booked_at (suc i) = omega arith in
      subst (λ (m : ℕ). Standing first s m (reply_of l journal (command_for first t)).ledger (journal_by l journal (command_for first t))) z (by t q)
    where
      by : (t : Step) → Quiet t → Standing first s (booked_at i) (reply_of l journal (command_for first t)).ledger (journal_by l journal (command_for first t))
      by (Propose j) q = absurd q
      by (Preflight v j) q = absurd q
      by (Commit v j signers) q = other_standing first s (booked_at i) l journal st (commit v j signers) tt
      by (FaultySign v j) q = other_standing first s (booked_at i) l journal st (faulty_vote Signatures v j) tt
      by (FaultyAcknowledge v j) q = other_standing first s (booked_at i) l journal st (faulty_vote Acknowledgements v j) tt
      by (Show j) q = other_standing first s (booked_at i) l journal st (show j) tt
      by (Draw u) q = st
      by (Generations j) q = other_standing first s (booked_at i) l journal st (generations j) tt

  -- and it is a preflight of a booked job at a correct vault exactly where its index says so
  asked_step : (i : ℕ) (t : Step) (a : Bool) → i < 200 → Sort p i t a → (r : Run) → Standing first s (booked_at i) r.ledger r.journal
      → asks_well r (command_for first t) ≡ a
  asked_step i t a h (proposes j e k) r st = refl
  asked_step i t a h (asks v j c b k) r st =
      ap is_pass (passes_gate first s (booked_at i) r.ledger r.journal st lawful (omega arith) v j (omega (
        arith,
        c.below,
        n-is,
      )) (ap (λ (f : ℕ). has_bit f v) faulty_is ∙ c.correct) b)
  asked_step i _ a h (quiet t q k) r st = by t q
    where
      by : (t : Step) → Quiet t → asks_well r (command_for first t) ≡ false
      by (Propose j) q = absurd q
      by (Preflight v j) q = absurd q
      by (Commit v j signers) q = refl
      by (FaultySign v j) q = refl
      by (FaultyAcknowledge v j) q = refl
      by (Show j) q = refl
      by (Draw u) q = refl
      by (Generations j) q = refl

  counted : (input : List ℕ) (count i state n : ℕ) (r : Run) → i + count ≡ 200 → count ≤ n → Reads first (steps_from p count i state) input r
      → Standing first s (booked_at i) r.ledger r.journal → length (keep_if (preflights_well input) (runs_next n input r)) ≡ asks_from count i
  unfolding steps_from runs_next asks_from turn
  counted input zero i state zero r e l h st = refl
  counted input zero i state (suc n) r e l h st = simp (no_step first input r h)
  counted input (suc count) i state zero r e l h st = absurd (omega arith)
  counted input (suc count) i state (suc n) r e l h st =
      let t = step_for p i (drawn (next state)) in
      let b : i < 200 = omega arith in
      let step = next_step first t (steps_from p count (suc i) (next state)) input r h in
      let sort = sorted p fair i (drawn (next state)) b in
      let asked : preflights_well input r ≡ is_ask (i % 50) = ap (asks_well r) step.reads ∙ asked_step i t (is_ask (i % 50)) b sort r st in
      let later : Standing first s (booked_at (suc i)) (turn input r).ledger (turn input r).journal =
      subst (λ (c : Command). Standing first s (booked_at (suc i)) (reply_of r.ledger r.journal c).ledger (journal_by r.ledger r.journal c))
      (sym step.reads) (after_step i t (is_ask (i % 50)) b sort r.ledger r.journal st) in
      let rest = counted input count (suc i) (next state) n (turn input r) (omega arith) (omega arith) step.onward later in
      simp step.more (count_if (preflights_well input r) (is_ask (i % 50)) r (keep_if (preflights_well input) (runs_next n input (turn input r))) asked ∙ rw rest)

-- ---- "at least forty steps are preflights of booked jobs at sound vaults"
module _ (seed n b : ℕ) (vaults : n ≤ 16) (few : 3 * b < n) where
  abbrev load : List ℕ
  load = load_bytes seed n b

  abbrev settings : Settings
  settings = record { n = n; b = b; faulty = faulty_of (plan_of seed n b); version = 1 }

  standing : Standing (drawn (next seed)) settings 0 (begins load).ledger (begins load).journal
  unfolding opened new_ledger load_bytes header_bytes
  standing = record {
    settings = ap (λ (f : ℕ). record { n = n; b = b; faulty = f; version = 1 }) (faulty_word seed n b vaults few);
    version = refl;
    booked = refl;
    arrivals = omega arith;
    next = omega (arith, few);
    size = length-replicate {A = ℕ} 13312 0;
    records = λ m h. absurd (omega arith);
  }

  pub preflights_counted : length (keep_if (preflights_well load) (runs_next (length load) load (begins load))) ≡ 68
  unfolding plan_of plan_with steps_of
  preflights_counted =
      counted (drawn (next seed)) (drawn_below seed) (plan_of seed n b) (fair seed n b vaults few) settings
      (lawful_load seed n b vaults few) refl refl load 200 0 (next (next (next seed))) (length load)
      (begins load) refl (omega (arith, long seed n b vaults few)) (reads_load seed n b vaults few) standing
      ∙ sixty_eight
