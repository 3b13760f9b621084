-- "The single register starts empty and takes jobs one at a time. It is fed the steps with their arguments and, of each answer,
-- only whether it was 0 or a refusal."
use Rattle.std.specs.Prelude.{Bool, ◌&&◌, cond, false, not, true, List, [], ◌++◌, ◌∷◌, ◌+◌, ℕ, eqb, ltb, get_or, length, Ok, Err}
use Rattle.base.specs.Lists.{all_in, any_in, keep_if, same_list}
use Rattle.outcome.specs.Figures.{Outcome, Verdict}
use Rattle.checks.specs.Checks.{examined}
use Rattle.codec.specs.Codec.{job_of}
use Rattle.conflicts.specs.Tapes.{frames_in, input_tapes, labels, output_tapes, same_tape}
use Rattle.record.specs.declared.Entry.{Entry}
use Rattle.record.specs.declared.Job.{Job}
use Rattle.ledger.specs.Worlds.{Event, Request, World, after, client_preflight, commit, dependencies, equivocating, faulty_vote, generations, preflight}
use Rattle.ledger.specs.Worlds.{propose, release, reply_to, show, snapshot}

-- "It keeps a table of records, the list of jobs taken, the standing tapes, the labels made and the frames accessioned." Its version is that of
-- the sequence of steps that it is fed (M-102), by which it reads a record.
pub record Register : Type 0 where
  pub version : ℕ
  pub running : Bool
  pub table : List (List ℕ)
  pub taken : List ℕ
  pub standing : List Entry
  pub made : List ℕ
  pub accessioned : ℕ

abbrev pub new_register : ℕ → Register
new_register version = record { version = version; running = true; table = []; taken = []; standing = []; made = []; accessioned = 0 }

abbrev pub passes : Verdict → Bool
passes (Ok _) = true
passes (Err why) = false

-- the job of a number in the table
abbrev pub tabled : List (List ℕ) → ℕ → Job
tabled table k = job_of (get_or table k [])

abbrev pub is_standing : List Entry → Entry → Bool
is_standing standing t = any_in (same_tape t) standing

abbrev pub is_made : List ℕ → Entry → Bool
is_made made t = any_in (eqb t.label) made

-- "checks 6 to 9 pass, its input tapes stand with their frames and its output labels are new"
unfoldable pub is_admissible : Register → List ℕ → Bool
is_admissible r bytes =
    passes (examined r.version bytes)
    && (all_in (is_standing r.standing) (input_tapes (job_of bytes)) && all_in (λ t. not (is_made r.made t)) (output_tapes (job_of bytes)))

-- "an accession adds its output frames"
abbrev pub accession_of : Job → ℕ
accession_of j = cond (eqb j.kind 0) (frames_in (output_tapes j)) 0

-- the tapes without those of the job's inputs
abbrev pub without_inputs : Job → List Entry → List Entry
without_inputs j standing = keep_if (λ t. not (any_in (λ s. same_tape s t) (input_tapes j))) standing

-- "Then the job joins the list, its input tapes no longer stand, its output tapes do, their labels are made, and an accession adds
-- its output frames."
unfoldable pub taking : Register → ℕ → Register
taking r k =
    let j = tabled r.table k in
    record {
      version = r.version;
      running = r.running;
      table = r.table;
      taken = r.taken ++ (k ∷ []);
      standing = without_inputs j r.standing ++ output_tapes j;
      made = r.made ++ labels (output_tapes j);
      accessioned = r.accessioned + accession_of j;
    }

-- "the register stops"
unfoldable pub stopped : Register → Register
stopped r =
    record {
      version = r.version;
      running = false;
      table = r.table;
      taken = r.taken;
      standing = r.standing;
      made = r.made;
      accessioned = r.accessioned;
    }

unfoldable pub entering : Register → List ℕ → Register
entering r bytes =
    record {
      version = r.version;
      running = r.running;
      table = r.table ++ (bytes ∷ []);
      taken = r.taken;
      standing = r.standing;
      made = r.made;
      accessioned = r.accessioned;
    }

-- "A proposal answered 0 gives its record the next number, from 0, unless the table has that record."
unfoldable pub feed_proposal : Register → List ℕ → Register
feed_proposal r bytes = cond (any_in (λ x. same_list x bytes) r.table) r (entering r bytes)

-- "A commit answered 0 of a job already taken changes nothing. For any other commit answered 0, the number must be in the table and
-- its job admissible"
unfoldable pub feed_commit : Register → ℕ → Register
feed_commit r k =
    cond (any_in (eqb k) r.taken) r
    (cond (ltb k (length r.table) && is_admissible r (get_or r.table k [])) (taking r k) (stopped r))

-- a request that was answered 0. "All other steps change nothing in it."
abbrev pub feed_done : Register → Request → Register
feed_done r (propose bytes) = feed_proposal r bytes
feed_done r (preflight v job) = r
feed_done r (commit v job signers) = feed_commit r job
feed_done r (faulty_vote column v job) = r
feed_done r (show job) = r
feed_done r (generations job) = r
feed_done r snapshot = r
feed_done r (release v job rival) = r
feed_done r (dependencies v job) = r
feed_done r (client_preflight v job client) = r
feed_done r equivocating = r

-- a stopped register stays as it is, and so does one that is fed a refused step
abbrev pub feed : Register → Request → Bool → Register
feed r request is_done = cond (is_done && r.running) (feed_done r request) r

-- whether the answer was 0
abbrev pub is_done : Outcome → Bool
is_done (Ok value) = true
is_done (Err why) = false

-- ---- what the register is fed of a list of steps
pub record Fed : Type 0 where
  pub request : Request
  pub done : Bool

abbrev pub log : World → List Event → List Fed
log w [] = []
log w (e ∷ es) = record { request = e.request; done = is_done (reply_to w e).outcome } ∷ log (after w e) es

abbrev pub feed_all : Register → List Fed → Register
feed_all r [] = r
feed_all r (x ∷ xs) = feed_all (feed r x.request x.done) xs
