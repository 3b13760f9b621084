-- By check 18. A refusal leaves the memo as it was, which was right.
use Rattle.ledger.specs.Decisions.{ageing}
use mathlib.Core.Path.{◌∙◌, sym}
use Rattle.dependencies.proofs.generations.Goals as goal

pub returns-then-is_held : goal.returns-then-is_held
unfolding ageing
returns-then-is_held c =
    record {
      decision = simp (
        sym c.is_held.ensures ∙
            c.if-is_held.true,
        ← c.age.ensures.value,
      ) c.answer.ensures;
      right = c.age.ensures.memo;
      size = c.age.ensures.memo_len;
    }

pub returns : goal.returns
unfolding ageing
returns c =
    record {
      decision = simp (sym c.is_held.ensures ∙ c.if-is_held.false)
          c.refuse.ensures;
      right = c.requires.1.right;
      size = c.requires.1.size;
    }
