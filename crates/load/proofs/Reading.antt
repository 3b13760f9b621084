-- A run reads a load as exactly its steps.
use mathlib.Core.Bool.{false, true}
use mathlib.Core.List.{List, [], ◌++◌, ◌∷◌, append_assoc, append-nil, map}
use mathlib.Core.Path.{◌∙◌, ◌≡◌, ap, ap₂, refl, subst, sym}
use Prim.Native.Nat.{◌%◌, ◌+◌, ◌/◌, ◌<◌, ◌^◌, ◌≤◌, suc, zero, ℕ}
use native.Mathlib.Nat.{add_assoc, add-zero}
use native.Mathlib.Omega.{arith}
use lib.ListN.{drop, get_or, length, length-append, take}
use lib.Seq.{drop-append-add, get_or-append-add, take-append_seam}
use borrow.Author.Tests.{le-leb, lt-leb, lt-ltb}
use Rattle.codec.proofs.Jobs.{length_bytes_of}
use Rattle.codec.specs.Codec.{bytes_of, le_bytes, record_size}
use Rattle.federation.specs.declared.Settings.{Settings}
use Rattle.ledger.proofs.Effects.{applied_settings}
use Rattle.ledger.specs.State.{version_of}
use Rattle.ledger.specs.declared.Ledger.{Ledger}
use Rattle.ledger.specs.Worlds.{commit, faulty_vote, generations, preflight, propose, show}
use Rattle.vaults.specs.declared.Column.TheVariants.{Acknowledgements, Signatures}
use Rattle.runfile.specs.History.{item_of, items_next}
use Rattle.runfile.specs.Run.{Run, command_of, ended, turn}
use Rattle.runfile.specs.Steps.{Command, body_size, draw, kind_at, kind_of, next_at, reply_of, request, step_at, unreadable, word_at}
use Rattle.load.proofs.Writes.{eight}
use Rattle.load.specs.Commands.{AllWritten, Written, command_for, command_in, commands_of}
use Rattle.load.specs.Loads.{all_bytes}
use Rattle.load.specs.Records.{job_for}
use Rattle.load.specs.Steps.{step_bytes}
use Rattle.load.specs.declared.Step.{Step}
use Rattle.load.specs.declared.Step.TheVariants.{Commit, Draw, FaultyAcknowledge, FaultySign, Generations, Preflight, Propose, Show}

-- what a step's bytes are read as, and where the next step stands
record Read (input : List ℕ) (pos : ℕ) (command : Command) (size : ℕ) : Type 0 where
  command_is : step_at 1 input pos ≡ command
  next_is : next_at 1 input pos ≡ pos + size

module _ (pre rest : List ℕ) where
  -- byte i of what stands behind pre
  byte : (t : List ℕ) (i : ℕ) → get_or (pre ++ t) (length pre + i) 0 ≡ get_or t i 0
  byte t i = get_or-append-add pre t i 0

  kind_byte : (t : List ℕ) → get_or (pre ++ t) (length pre) 0 ≡ get_or t 0 0
  kind_byte t = ap (λ (n : ℕ). get_or (pre ++ t) n 0) (sym (add-zero (length pre))) ∙ byte t 0

  second : (t : List ℕ) → get_or (pre ++ t) (length pre + 1 + 1) 0 ≡ get_or t 2 0
  second t = ap (λ (n : ℕ). get_or (pre ++ t) n 0) (add_assoc (length pre) 1 1) ∙ byte t 2

  kind_at_lem : (t : List ℕ) → body_size 1 (kind_of (get_or t 0 0)) < length t → kind_at 1 (pre ++ t) (length pre) ≡ kind_of (get_or t 0 0)
  unfolding kind_at
  kind_at_lem t h = rw (kind_byte t) (simp (lt-ltb (length pre + body_size 1 (kind_of (get_or t 0 0))) (length (pre ++ t)) (simp length-append (omega arith))))

  read_preflight : (v j : ℕ) → Read (pre ++ (2 ∷ v ∷ j ∷ rest)) (length pre) (request (preflight v j)) 3
  unfolding kind_of
  read_preflight v j =
      let t : List ℕ = 2 ∷ v ∷ j ∷ rest in let k = kind_at_lem t (omega arith) in
      record { command_is = simp (k, byte t 1, second t); next_is = simp k (omega arith) }

  read_sign : (v j : ℕ) → Read (pre ++ (4 ∷ v ∷ j ∷ rest)) (length pre) (request (faulty_vote Signatures v j)) 3
  unfolding kind_of
  read_sign v j =
      let t : List ℕ = 4 ∷ v ∷ j ∷ rest in let k = kind_at_lem t (omega arith) in
      record { command_is = simp (k, byte t 1, second t); next_is = simp k (omega arith) }

  read_acknowledge : (v j : ℕ) → Read (pre ++ (5 ∷ v ∷ j ∷ rest)) (length pre) (request (faulty_vote Acknowledgements v j)) 3
  unfolding kind_of
  read_acknowledge v j =
      let t : List ℕ = 5 ∷ v ∷ j ∷ rest in let k = kind_at_lem t (omega arith) in
      record { command_is = simp (k, byte t 1, second t); next_is = simp k (omega arith) }

  read_show : (x : ℕ) → Read (pre ++ (6 ∷ x ∷ rest)) (length pre) (request (show x)) 2
  unfolding kind_of
  read_show x = let t : List ℕ = 6 ∷ x ∷ rest in let k = kind_at_lem t (omega arith) in record { command_is = simp (k, byte t 1); next_is = simp k (omega arith) }

  read_draw : (x : ℕ) → Read (pre ++ (7 ∷ x ∷ rest)) (length pre) (draw x) 2
  unfolding kind_of
  read_draw x = let t : List ℕ = 7 ∷ x ∷ rest in let k = kind_at_lem t (omega arith) in record { command_is = simp (k, byte t 1); next_is = simp k (omega arith) }

  read_generations : (x : ℕ) → Read (pre ++ (8 ∷ x ∷ rest)) (length pre) (request (generations x)) 2
  unfolding kind_of
  read_generations x = let t : List ℕ = 8 ∷ x ∷ rest in let k = kind_at_lem t (omega arith) in
      record { command_is = simp (k, byte t 1); next_is = simp k (omega arith) }

  -- a commit's signers are the two bytes behind vault and job
  read_commit : (v j signers : ℕ) → signers < 2 ^ 16 → Read (pre ++ (3 ∷ v ∷ j ∷ (le_bytes 2 signers ++ rest))) (length pre) (request (commit v j signers)) 5
  unfolding kind_of le_bytes
  read_commit v j signers h =
      let t : List ℕ = 3 ∷ v ∷ j ∷ (le_bytes 2 signers ++ rest) in
      let k = kind_at_lem t (omega arith) in
      let low : get_or (pre ++ t) (length pre + 1 + 2) 0 ≡ signers % 256 = ap (λ (n : ℕ). get_or (pre ++ t) n 0) (add_assoc (length pre) 1 2) ∙ byte t 3 in
      let high : get_or (pre ++ t) (length pre + 1 + 2 + 1) 0 ≡ signers / 256 % 256 =
      ap (λ (n : ℕ). get_or (pre ++ t) n 0) (omega arith) ∙ byte t 4 in
      let word : word_at (pre ++ t) (length pre + 1 + 2) ≡ signers = omega (arith, low, high) in
      record {
        command_is = simp k (ap₂ (λ (x y : ℕ). request (commit x y (word_at (pre ++ t) (length pre + 1 + 2)))) (byte t 1) (second t)
            ∙ ap (λ (w : ℕ). request (commit v j w)) word);
        next_is = simp k (omega arith);
      }

  -- a proposal's record is the bytes behind its kind
  read_propose : (bytes : List ℕ) → length bytes ≡ record_size 1 → Read (pre ++ (1 ∷ (bytes ++ rest))) (length pre) (request (propose bytes))
      (suc (record_size 1))
  unfolding kind_of
  read_propose bytes n =
      let t : List ℕ = 1 ∷ (bytes ++ rest) in
      let k = kind_at_lem t (simp length-append (omega (arith, n))) in
      let body : drop (length pre + 1) (pre ++ t) ≡ bytes ++ rest = drop-append-add pre t 1 in
      record {
        command_is = simp k (ap (λ (x : List ℕ). request (propose (take (record_size 1) x))) body
            ∙ ap (λ (m : ℕ). request (propose (take m (bytes ++ rest)))) (sym n) ∙ ap (λ (x : List ℕ). request (propose x)) (take-append_seam bytes rest));
        next_is = simp k (omega arith);
      }

  read_step : (first : ℕ) (s : Step) → Written s → Read (pre ++ (step_bytes first s ++ rest)) (length pre) (command_for first s) (length (step_bytes first s))
  unfolding le_bytes
  read_step first (Propose j) w =
      let n = length_bytes_of 1 (job_for first j) (eight first j) in
      subst (Read (pre ++ (1 ∷ (bytes_of 1 (job_for first j) ++ rest))) (length pre) (request (propose (bytes_of 1 (job_for first j))))) (sym (ap suc n))
      (read_propose (bytes_of 1 (job_for first j)) n)
  read_step first (Preflight v j) w = read_preflight v j
  read_step first (Commit v j signers) w = read_commit v j signers w
  read_step first (FaultySign v j) w = read_sign v j
  read_step first (FaultyAcknowledge v j) w = read_acknowledge v j
  read_step first (Show j) w = read_show j
  read_step first (Draw u) w = read_draw u
  read_step first (Generations j) w = read_generations j

pub step_nonempty : (first : ℕ) (s : Step) → 0 < length (step_bytes first s)
step_nonempty first (Propose j) = omega arith
step_nonempty first (Preflight v j) = omega arith
step_nonempty first (Commit v j signers) = omega arith
step_nonempty first (FaultySign v j) = omega arith
step_nonempty first (FaultyAcknowledge v j) = omega arith
step_nonempty first (Show j) = omega arith
step_nonempty first (Draw u) = omega arith
step_nonempty first (Generations j) = omega arith

-- ---- a run that has these steps before it
pub record Reads (first : ℕ) (steps : List Step) (input : List ℕ) (r : Run) : Type 0 where
  pub before : List ℕ
  pub here : r.pos ≡ length before
  pub whole : input ≡ before ++ all_bytes first steps
  pub written : AllWritten steps
  pub version : version_of r.ledger ≡ 1

-- a command leaves the version
reply_version : (l : Ledger) (journal : List ℕ) (c : Command) → version_of (reply_of l journal c).ledger ≡ version_of l
reply_version l journal (request q) = ap (λ (s : Settings). s.version) (applied_settings l _ _ _)
reply_version l journal (draw u) = refl
reply_version l journal unreadable = refl

-- the next step is read as what it is, and then the others are before the run
pub record Next (first : ℕ) (s : Step) (steps : List Step) (input : List ℕ) (r : Run) : Type 0 where
  pub more : ended input r ≡ false
  pub reads : command_of input r ≡ command_for first s
  pub onward : Reads first steps input (turn input r)

pub next_step : (first : ℕ) (s : Step) (steps : List Step) (input : List ℕ) (r : Run) → Reads first (s ∷ steps) input r → Next first s steps input r
unfolding turn
next_step first s steps input r h =
    let rest = all_bytes first steps in
    let read = read_step h.before rest first s h.written.0 in
    let size : length input ≡ length h.before + (length (step_bytes first s) + length rest) = ap length h.whole ∙ simp length-append in
    let at : Read input r.pos (command_for first s) (length (step_bytes first s)) = rw (h.whole, h.here) read in
    record {
      more = lt-leb (length input) r.pos (omega (arith, size, h.here, step_nonempty first s));
      reads = ap (λ (v : ℕ). step_at v input r.pos) h.version ∙ at.command_is;
      onward = record {
        before = h.before ++ step_bytes first s;
        here = ap (λ (v : ℕ). next_at v input r.pos) h.version ∙ at.next_is ∙ rw (h.here, length-append);
        whole = h.whole ∙ sym (append_assoc h.before (step_bytes first s) rest);
        written = h.written.1;
        version = reply_version r.ledger r.journal (command_of input r) ∙ h.version;
      };
    }

pub no_step : (first : ℕ) (input : List ℕ) (r : Run) → Reads first [] input r → ended input r ≡ true
no_step first input r h = le-leb (length input) r.pos (omega (arith, ap length h.whole ∙ ap length (append-nil h.before), h.here))

-- ---- the whole run
item_command : (r : Run) (c : Command) → command_in (item_of r c) ≡ c
item_command r (request q) = refl
item_command r (draw u) = refl
item_command r unreadable = refl

pub all_commands : (first : ℕ) (steps : List Step) (input : List ℕ) (r : Run) (n : ℕ) → length steps ≤ n → Reads first steps input r
    → commands_of (items_next n input r) ≡ map (command_for first) steps
unfolding items_next
all_commands first [] input r zero l h = refl
all_commands first [] input r (suc n) l h = simp (no_step first input r h)
all_commands first (s ∷ steps) input r zero l h = absurd (omega arith)
all_commands first (s ∷ steps) input r (suc n) l h =
    let e = next_step first s steps input r h in
    simp e.more (ap₂ (λ (c : Command) (cs : List Command). c ∷ cs) (item_command r (command_of input r)
    ∙ e.reads) (all_commands first steps input (turn input r) n (omega arith) e.onward))
