-- The parts of a survey, put together.
use mathlib.Core.List.{List}
use mathlib.Core.Path.{◌∙◌, ◌≡◌, ap}
use Prim.Native.Nat.{◌+◌, ◌≤◌, ℕ}
use Rattle.std.specs.Prelude.{unwrap_or}
use Rattle.job_sets.specs.Jobs.{no_jobs}
use Rattle.job_sets.specs.declared.job_set.JobSet.{JobSet}
use Rattle.ledger.specs.declared.Listing.{Listing}
use Rattle.digits.specs.Digits.{Put}
use Rattle.text.specs.Text.{longest_text, text_for}
use Rattle.questions.specs.Answers.{Answered, surveyed}
use Rattle.surveys.specs.Surveyed.{Surveyed}
use Rattle.questions.specs.declared.Books.{Books}
use Rattle.naming.specs.Kept.{Found, Remembered}
use Rattle.reading.specs.declared.Step.{Step}

pub surveyed_so : (a : Books) (s : Step) (at : ℕ) (order journal out memo' out' : List ℕ) (r : ℕ) (named : Remembered) (none vaults : JobSet) (answer : Listing)
    → none ≡ no_jobs → vaults ≡ unwrap_or named none → Found a.settings a.votes journal a.booked s.kind named
    → Answered a order journal memo' (surveyed a vaults order journal s.kind s.vault s.job) answer
    → Put out at (text_for s.number answer.outcome answer.members) out' r → r ≤ at + longest_text
    → Surveyed a s at order journal out memo' out' (record { outcome = answer.outcome; members = answer.members; named = named; at = r })
surveyed_so a s at order journal out memo' out' r named none vaults answer e v f h p short = record {
  found = f;
  answer_is = h.told ∙ ap (λ (x : JobSet). surveyed a x order journal s.kind s.vault s.job) (v ∙ ap (unwrap_or named) e);
  said = record { text = p; short = short };
  right = h.right;
  size = h.size;
}
