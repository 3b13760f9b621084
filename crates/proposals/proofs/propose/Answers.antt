-- A record of the version's size says the job that is read, and each return is one way through the checks.
use mathlib.Core.List.{List}
use mathlib.Core.Path.{◌∙◌, ◌≡◌, sym}
use Prim.Native.Nat.{ℕ}
use lib.ListN.{length}
use borrow.Author.Tests.{eq-eqb, ne_eqb}
use Rattle.checks.specs.Checks.{examined}
use Rattle.codec.proofs.RoundTrip.{front_whole}
use Rattle.codec.specs.Codec.{front_job, job_of, record_size}
use Rattle.ledger.specs.Decisions.{proposal}
use Rattle.record.specs.declared.Job.{Job}
use Rattle.proposals.proofs.propose.Goals as goal

-- the bytes are as many as the size that was found
sized : (version size : ℕ) (bytes : List ℕ) → length bytes ≡ size → size ≡ record_size version → length bytes ≡ record_size version
sized version size bytes e f = e ∙ f

own : (version size : ℕ) (bytes : List ℕ) (j : Job) → length bytes ≡ size → size ≡ record_size version → j ≡ front_job version bytes → j ≡ job_of bytes
own version size bytes j e f q = q ∙ front_whole version bytes (sized version size bytes e f)

pub returns-then-bytes-record_size : goal.returns-then-bytes-record_size
unfolding proposal examined
returns-then-bytes-record_size c =
    let a = c.args in
    simp (ne_eqb (length a.bytes.now) (record_size a.version) (λ e. c.if-bytes-record_size.true (e ∙ sym c.record_size.ensures.0)))
    c.refuse.ensures

pub settle-requires : goal.settle-requires
settle-requires c = (
  own _ _ _ _ c.if-bytes-record_size.false c.record_size.ensures.0
      c.read-job.ensures,
  c.requires,
)

pub returns-in-Ok : goal.returns-in-Ok
unfolding proposal examined
returns-in-Ok c =
    simp (
      eq-eqb _ _ (sized _ _ c.args.bytes.now
          c.if-bytes-record_size.false c.record_size.ensures.0),
      ← own _ _ _ _ c.if-bytes-record_size.false c.record_size.ensures.0
          c.read-job.ensures,
      ← c.check-verdict.ensures,
      c.in-Ok.is,
    ) c.settle.ensures

pub returns-in-Err : goal.returns-in-Err
unfolding proposal examined
returns-in-Err c =
    simp (
      eq-eqb _ _ (sized _ _ c.args.bytes.now
          c.if-bytes-record_size.false c.record_size.ensures.0),
      ← own _ _ _ _ c.if-bytes-record_size.false
          c.record_size.ensures.0 c.read-job.ensures,
      ← c.check-verdict.ensures,
      c.in-Err.is,
    ) c.refuse-in-Err.ensures
