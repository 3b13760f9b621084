-- The steps of a run file: "each a kind byte and its body; vault, job and u are one byte".
use Rattle.std.specs.Prelude.{Bool, cond, false, true, List, ◌*◌, ◌+◌, ℕ, eqb, ltb, drop, get_or, length, take, Err}
use Rattle.outcome.specs.Figures.{Outcome}
use Rattle.outcome.specs.declared.Refusal.TheVariants.{Unreadable}
use Rattle.job_sets.specs.Jobs.{no_jobs}
use Rattle.job_sets.specs.declared.job_set.JobSet.{JobSet}
use Rattle.binomials.specs.Draw.{draw_of}
use Rattle.codec.specs.Codec.{record_size}
use Rattle.vaults.specs.declared.Column.TheVariants.{Acknowledgements, Signatures}
use Rattle.ledger.specs.Steps.{dependencies_of, equivocators_of}
use Rattle.ledger.specs.Worlds.{Request, client_preflight, commit, dependencies, equivocating, faulty_vote, generations, left_by, preflight, propose, release}
use Rattle.ledger.specs.Worlds.{show, snapshot, step_of}
use Rattle.ledger.specs.declared.Ledger.{Ledger}
use Rattle.ledger.specs.declared.Reply.{Reply}
use Rattle.runfile.specs.declared.Kind.{Kind}
use Rattle.runfile.specs.declared.Kind.TheVariants.{
  ClientPreflight,
  Commit,
  Dependencies,
  Draw,
  Equivocating,
  FaultyAcknowledge,
  FaultySign,
  Generations,
  Preflight,
  Propose,
  Release,
  Show,
  Snapshot,
  Unknown,
}

-- "1 propose (record); 2 preflight (vault, job); 3 commit (vault, job, signers); 4 faulty signature (vault, job); 5 faulty acknowledgement
-- (vault, job); 6 show (job); 7 draw (u); 8 generations (job)"; and document 02's 9, a snapshot, "without a body", 10, a release "(vault, job, rival)", 11, a
-- job's missing dependencies "(vault, job)", 12, a preflight from a client "(vault, job, desk in one byte)", and 13, the vaults that
-- equivocate, "without a body"
unfoldable pub kind_of : ℕ → Kind
kind_of b =
    cond (eqb b 1) Propose
    (cond (eqb b 2) Preflight
    (cond (eqb b 3) Commit
    (cond (eqb b 4) FaultySign
    (cond (eqb b 5) FaultyAcknowledge
    (cond (eqb b 6) Show
    (cond (eqb b 7) Draw
    (cond (eqb b 8) Generations
    (cond (eqb b 9) Snapshot
    (cond (eqb b 10) Release
    (cond (eqb b 11) Dependencies
    (cond (eqb b 12) ClientPreflight
    (cond (eqb b 13) Equivocating Unknown))))))))))))

-- how long the body is, in a file of the version
abbrev pub body_size : ℕ → Kind → ℕ
body_size version Propose = record_size version
body_size version Preflight = 2
body_size version Commit = 4
body_size version FaultySign = 2
body_size version FaultyAcknowledge = 2
body_size version Show = 1
body_size version Draw = 1
body_size version Generations = 1
body_size version Snapshot = 0
body_size version Release = 3
body_size version Dependencies = 2
body_size version ClientPreflight = 3
body_size version Equivocating = 0
body_size version Unknown = 0

-- 16 bits, the low byte first
abbrev pub word_at : List ℕ → ℕ → ℕ
word_at input at = get_or input at 0 + 256 * get_or input (at + 1) 0

-- what a step asks for: something of the ledger, or a draw, which "neither reads nor changes what the engine keeps", or nothing that can be read
pub data Command : Type 0 where
  request : Request → Command
  draw : ℕ → Command
  unreadable : Command

-- the command of a kind whose body starts at `at`
abbrev pub command_in : ℕ → Kind → List ℕ → ℕ → Command
command_in version Propose input at = request (propose (take (record_size version) (drop at input)))
command_in version Preflight input at = request (preflight (get_or input at 0) (get_or input (at + 1) 0))
command_in version Commit input at = request (commit (get_or input at 0) (get_or input (at + 1) 0) (word_at input (at + 2)))
command_in version FaultySign input at = request (faulty_vote Signatures (get_or input at 0) (get_or input (at + 1) 0))
command_in version FaultyAcknowledge input at = request (faulty_vote Acknowledgements (get_or input at 0) (get_or input (at + 1) 0))
command_in version Show input at = request (show (get_or input at 0))
command_in version Draw input at = draw (get_or input at 0)
command_in version Generations input at = request (generations (get_or input at 0))
command_in version Snapshot input at = request snapshot
command_in version Release input at = request (release (get_or input at 0) (get_or input (at + 1) 0) (get_or input (at + 2) 0))
command_in version Dependencies input at = request (dependencies (get_or input at 0) (get_or input (at + 1) 0))
command_in version ClientPreflight input at = request (client_preflight (get_or input at 0) (get_or input (at + 1) 0) (get_or input (at + 2) 0))
command_in version Equivocating input at = request equivocating
command_in version Unknown input at = unreadable

-- the kind of the step at pos, where its body is all there: "2: kind unknown or body cut short"
unfoldable pub kind_at : ℕ → List ℕ → ℕ → Kind
kind_at version input pos =
    let kind = kind_of (get_or input pos 0) in
    cond (ltb (pos + body_size version kind) (length input)) kind Unknown

-- refusal 2
abbrev pub is_unknown : Kind → Bool
is_unknown Propose = false
is_unknown Preflight = false
is_unknown Commit = false
is_unknown FaultySign = false
is_unknown FaultyAcknowledge = false
is_unknown Show = false
is_unknown Draw = false
is_unknown Generations = false
is_unknown Snapshot = false
is_unknown Release = false
is_unknown Dependencies = false
is_unknown ClientPreflight = false
is_unknown Equivocating = false
is_unknown Unknown = true

abbrev pub step_at : ℕ → List ℕ → ℕ → Command
step_at version input pos = command_in version (kind_at version input pos) input (pos + 1)

-- where the next one stands; "refusal 2 prints its line and ends": nothing is left to read
abbrev pub end_of : ℕ → Kind → ℕ → ℕ → ℕ
end_of version Propose pos size = pos + body_size version Propose + 1
end_of version Preflight pos size = pos + body_size version Preflight + 1
end_of version Commit pos size = pos + body_size version Commit + 1
end_of version FaultySign pos size = pos + body_size version FaultySign + 1
end_of version FaultyAcknowledge pos size = pos + body_size version FaultyAcknowledge + 1
end_of version Show pos size = pos + body_size version Show + 1
end_of version Draw pos size = pos + body_size version Draw + 1
end_of version Generations pos size = pos + body_size version Generations + 1
end_of version Snapshot pos size = pos + body_size version Snapshot + 1
end_of version Release pos size = pos + body_size version Release + 1
end_of version Dependencies pos size = pos + body_size version Dependencies + 1
end_of version ClientPreflight pos size = pos + body_size version ClientPreflight + 1
end_of version Equivocating pos size = pos + body_size version Equivocating + 1
end_of version Unknown pos size = size

abbrev pub next_at : ℕ → List ℕ → ℕ → ℕ
next_at version input pos = end_of version (kind_at version input pos) pos (length input)

-- ---- a command carried out, by the functions that demand 3 speaks of
abbrev pub reads : Outcome → Ledger → Reply
reads outcome l = record { outcome = outcome; ledger = l }

abbrev pub reply_of : Ledger → List ℕ → Command → Reply
reply_of l journal (request q) = step_of l journal q
reply_of l journal (draw u) = reads (draw_of l.settings u) l
reply_of l journal unreadable = reads (Err Unreadable) l

-- the journal afterwards
abbrev pub journal_by : Ledger → List ℕ → Command → List ℕ
journal_by l journal (request q) = left_by l journal q
journal_by l journal (draw u) = journal
journal_by l journal unreadable = journal

-- ---- what a command lists

-- the numbers that a request lists: of kind 11 the jobs that are missing, of kind 13 the vaults that equivocate
abbrev pub listed_in : Ledger → List ℕ → Request → JobSet
listed_in l journal (propose bytes) = no_jobs
listed_in l journal (preflight v job) = no_jobs
listed_in l journal (commit v job signers) = no_jobs
listed_in l journal (faulty_vote column v job) = no_jobs
listed_in l journal (show job) = no_jobs
listed_in l journal (generations job) = no_jobs
listed_in l journal snapshot = no_jobs
listed_in l journal (release v job rival) = no_jobs
listed_in l journal (dependencies v job) = (dependencies_of l journal v job).members
listed_in l journal (client_preflight v job client) = no_jobs
listed_in l journal equivocating = (equivocators_of l journal).members

abbrev pub listed_by : Ledger → List ℕ → Command → JobSet
listed_by l journal (request q) = listed_in l journal q
listed_by l journal (draw u) = no_jobs
listed_by l journal unreadable = no_jobs
