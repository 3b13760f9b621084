-- Each arm is a form.
use Rattle.reading.proofs.formed_step.Goals as goal

pub returns-in-Bare : goal.returns-in-Bare
returns-in-Bare c = simp (c.in-Bare.is, c.named.ensures)

pub returns-in-OfJob : goal.returns-in-OfJob
returns-in-OfJob c = simp (c.in-OfJob.is, c.byte_at-job.ensures, c.named-in-OfJob.ensures)

pub returns-in-OfVault : goal.returns-in-OfVault
returns-in-OfVault c = let b = c in
    simp (b.in-OfVault.is, b.byte_at-vault.ensures, c.byte_at-job-in-OfVault.ensures, c.named-in-OfVault.ensures)

pub returns-in-OfClient : goal.returns-in-OfClient
returns-in-OfClient c = let b = c in
    let a = b in
    simp (
      a.in-OfClient.is,
      a.byte_at-vault-in-OfClient.ensures,
      b.byte_at-job-in-OfClient.ensures,
      b.byte_at.ensures,
      c.place-place.ensures.0,
      c.named-in-OfClient.ensures,
    )

pub returns-in-Unreadable : goal.returns-in-Unreadable
returns-in-Unreadable c = simp (c.in-Unreadable.is, c.unreadable.ensures)
