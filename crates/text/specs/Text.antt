-- What is printed: "For each step a line: step number from 1, 0 or the refusal, a value; single spaces between", and a line for each number that
-- it lists.
use Rattle.std.specs.Prelude.{cond, true, List, [], ◌++◌, ◌∷◌, ◌↔◌, ◌≡◌, ◌≤◌, suc, zero, ℕ, length}
use Rattle.base.specs.Lists.{In}
use Rattle.digits.specs.Digits.{decimal}
use Rattle.outcome.specs.Figures.{number_of, value_of, Outcome}
use Rattle.job_sets.specs.Jobs.{job_count, job_has}
use Rattle.job_sets.specs.declared.job_set.JobSet.{JobSet}

-- a line: three numbers, single spaces between
unfoldable pub line_of : ℕ → ℕ → ℕ → List ℕ
line_of step number value = decimal step ++ (32 ∷ (decimal number ++ (32 ∷ (decimal value ++ (10 ∷ [])))))

-- the line of a step that was answered so
abbrev pub line_for : ℕ → Outcome → List ℕ
line_for step outcome = line_of step (number_of outcome) (value_of outcome)

-- six digits at most for the step, four for the number and ten for the value, two spaces and the line's end
abbrev pub longest_line : ℕ
longest_line = 23

-- ---- what a step lists (document 02): "each job number alone on a line, in ascending order"

unfoldable pub number_line : ℕ → List ℕ
number_line k = decimal k ++ (10 ∷ [])

abbrev pub lines_of : List ℕ → List ℕ
lines_of [] = []
lines_of (k ∷ ks) = number_line k ++ lines_of ks

-- the members among the n numbers from i on, ascending
unfoldable pub members_from : JobSet → ℕ → ℕ → List ℕ
members_from s i zero = []
members_from s i (suc n) = cond (job_has s i) (i ∷ members_from s (suc i) n) (members_from s (suc i) n)

abbrev pub members_of : JobSet → List ℕ
members_of s = members_from s 0 128

-- the same without a search: ascending, each member and nothing else, and as many as the set has
abbrev pub AscendFrom : ℕ → List ℕ → Type 0
AscendFrom i [] = Unit {0}
AscendFrom i (k ∷ ks) = (i ≤ k) × AscendFrom (suc k) ks

pub record Lists (s : JobSet) (ks : List ℕ) : Type 0 where
  pub ascending : AscendFrom 0 ks
  pub members : (k : ℕ) → In k ks ↔ (job_has s k ≡ true)
  pub size : length ks ≡ job_count s

-- four digits at most for each of 128 numbers, and the line's end
abbrev pub longest_lines : ℕ
longest_lines = 640

-- ---- the text of a step: its line, and the lines of what it lists
abbrev pub text_for : ℕ → Outcome → JobSet → List ℕ
text_for step outcome members = line_for step outcome ++ lines_of (members_of members)

-- a line and as many numbers as a set can have
abbrev pub longest_text : ℕ
longest_text = 663
