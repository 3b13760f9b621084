-- Each return is one way through checks 3, 5 and 4.
use Rattle.ledger.specs.Steps.{gate_of}
use borrow.Author.Tests.{le-ltb, lt-ltb, not-false, not-true}
use mathlib.Core.Bool.{beq}
use Rattle.decisions.proofs.gate.Goals as goal

pub returns-then-vault-settings : goal.returns-then-vault-settings
unfolding gate_of
returns-then-vault-settings c = simp (le-ltb _ _ c.if-vault-settings.true)

pub returns-then-has-faulty : goal.returns-then-has-faulty
unfolding gate_of
returns-then-has-faulty c =
    simp (
      lt-ltb _ _ c.if-vault-settings.false,
      ← c.has.ensures,
      not-true
          (beq c.has.result c.args.faulty) c.if-has-faulty.true,
    )

pub returns-then-booked : goal.returns-then-booked
unfolding gate_of
returns-then-booked c =
    simp (
      lt-ltb _ _ c.if-vault-settings.false,
      ← c.has.ensures,
      not-false
          (beq c.has.result c.args.faulty) c.if-has-faulty.false,
      c.if-booked.true,
    )

pub returns : goal.returns
unfolding gate_of
returns c =
    simp (
      lt-ltb _ _ c.if-vault-settings.false,
      ← c.has.ensures,
      not-false
          (beq c.has.result c.args.faulty) c.if-has-faulty.false,
      c.if-booked.false,
    )
