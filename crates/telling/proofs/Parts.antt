-- The parts of a step's explanation, put together; and there is room, since no step has more than 105 bytes.
use mathlib.Core.Bool.{Bool, false, not, true}
use mathlib.Core.List.{List, [], ◌∷◌}
use mathlib.Core.Logic.{inl, inr}
use mathlib.Core.Path.{◌∙◌, ◌≡◌, ap, sym}
use Prim.Native.Nat.{◌+◌, ◌-◌, ◌<◌, ◌≤◌, ℕ}
use native.Mathlib.Omega.{arith}
use lib.ListN.{drop, get_or, length, take}
use lib.Dec.{eqb}
use borrow.Author.Tests.{eq-eqb, eqb-false, eqb-true, ne_eqb}
use Rattle.codec.specs.Codec.{record_size, says_trimmed}
use Rattle.base.proofs.Reflect.{by_test}
use Rattle.explanations.specs.Answers.{answer_text}
use Rattle.explanations.specs.Explained.{answer_at, record_for, said_at, step_text}
use Rattle.federation.specs.Federation.{latest, threshold_of}
use Rattle.federation.specs.declared.Settings.{Settings}
use Rattle.journal.specs.Journal.{record_at}
use Rattle.notation.proofs.Lengths.{at_brief}
use Rattle.notation.proofs.Shapes.{Version}
use Rattle.notation.proofs.Views.{known_at}
use Rattle.notation.specs.Files.{bytes_at}
use Rattle.notation.specs.Lines.{line_of, row_of}
use Rattle.outcome.specs.Figures.{Outcome}
use Rattle.reading.specs.Reading.{Read}
use Rattle.reading.specs.declared.Step.{Step}
use Rattle.rows.specs.Table.{letters}
use Rattle.rows.specs.Writing.{longest_by}
use Rattle.runfile.specs.Steps.{body_size, is_unknown, kind_at, kind_of}
use Rattle.runfile.specs.declared.Kind.{Kind}
use Rattle.runfile.specs.declared.Kind.TheVariants.{ClientPreflight, Commit, Dependencies, Draw, Equivocating, FaultyAcknowledge, FaultySign, Generations}
use Rattle.runfile.specs.declared.Kind.TheVariants.{Preflight, Propose, Release, Show, Snapshot, Unknown}
use Rattle.job_sets.specs.declared.job_set.JobSet.{JobSet}
use Rattle.digits.proofs.Writing.{then}
use Rattle.digits.specs.Digits.{Put, decimal}
use Rattle.words.proofs.Copies.{put_none}

-- ---- the text of a step
record_few : (version : ℕ) → record_size version ≤ 104
unfolding record_size
record_few version = by_test (says_trimmed version) (λ e. rw e (omega arith)) (λ e. rw e (omega arith))

body_few : (version : ℕ) (k : Kind) → body_size version k ≤ 104
body_few version Propose = record_few version
body_few version Preflight = omega arith
body_few version Commit = omega arith
body_few version FaultySign = omega arith
body_few version FaultyAcknowledge = omega arith
body_few version Show = omega arith
body_few version Draw = omega arith
body_few version Generations = omega arith
body_few version Snapshot = omega arith
body_few version Release = omega arith
body_few version Dependencies = omega arith
body_few version ClientPreflight = omega arith
body_few version Equivocating = omega arith
body_few version Unknown = omega arith

version_of_lem : (version : ℕ) → 1 ≤ version → version ≤ latest → Version version
version_of_lem version l h =
    by_test (eqb version 2) (λ e. inr (eqb-true version 2 e)) (λ e. inl (omega (arith, l, h, eqb-false version 2 e)))

module _ (version : ℕ) (input : List ℕ) (pos : ℕ) (s : Step) (read : Read version input pos 0 s) (b : Bool) (is : b ≡ is_unknown s.kind) where
  unknown : is_unknown (kind_at version input pos) ≡ b
  unknown = sym (is ∙ ap is_unknown read.kind_is)

  pub said_none : (o : List ℕ) (at : ℕ) → b ≡ true → Put o at (said_at version input pos) o at
  unfolding said_at
  said_none o at t = rw (unknown ∙ t) (put_none o at)

  module _ (p : List ℕ) (part : p ≡ take (s.end - pos) (drop pos input)) (f : b ≡ false) where
    step_is : p ≡ bytes_at version input pos
    step_is = part ∙ ap (λ (k : ℕ). take (k - pos) (drop pos input)) read.end_is

    pub said_here : {o q t : List ℕ} {at e r : ℕ} → Put o at (32 ∷ []) q e → Put q e (line_of version p) t r → Put o at (said_at version input pos) t r
    unfolding said_at
    said_here w x = rw (unknown ∙ f) (then w (rw step_is at x))

    pub said_few : pos < length input → 1 ≤ version → version ≤ latest → longest_by (row_of version p) ≤ 2100
    said_few here l h =
        let known = known_at version input pos (ap not (unknown ∙ f)) in
        rw step_is
        (omega (arith, at_brief version input pos here known (version_of_lem version l h), known.next, body_few version (kind_of (get_or input pos 0))))

-- ---- the answer
pub quorum_few : (s : Settings) (t : ℕ) → t ≡ threshold_of s → t ≤ s.n
unfolding threshold_of
quorum_few s t e = omega (arith, e)

module _ (s : Settings) (journal : List ℕ) (booked : ℕ) (input : List ℕ) (pos : ℕ) (outcome : Outcome) (members : JobSet) (kind threshold : ℕ)
    (bytes : List ℕ) {o p : List ℕ} {at r : ℕ} (is : kind ≡ get_or input pos 0) (enough : threshold ≡ threshold_of s)
    (w : Put o at (answer_text kind outcome members threshold bytes) p r) where
  pub answer_own : kind ≡ 1 → bytes ≡ drop (pos + 1) input → Put o at (answer_at s journal booked input pos outcome members) p r
  unfolding answer_at record_for
  answer_own e q = rw (eq-eqb (get_or input pos 0) 1 (sym is ∙ e)) (rw (is, enough, q) at w)

  pub answer_named : (job : ℕ) → (kind ≡ 1 → ⊥) → job ≡ get_or input (pos + 2) 0 → bytes ≡ record_at s.version journal booked job
      → Put o at (answer_at s journal booked input pos outcome members) p r
  unfolding answer_at record_for
  answer_named job n j q = rw (ne_eqb (get_or input pos 0) 1 (λ x. n (is ∙ x))) (rw (is, enough, q ∙ ap (record_at s.version journal booked) j) at w)

-- ---- the whole
pub step_put : {o p q t u v : List ℕ} {a b c d r : ℕ} (number : ℕ) (s : Settings) (journal : List ℕ) (booked : ℕ) (input : List ℕ) (pos : ℕ)
    (outcome : Outcome) (members : JobSet) → Put o 0 (decimal number) p a → Put p a (said_at s.version input pos) q b → Put q b (letters ": ") t c
    → Put t c (answer_at s journal booked input pos outcome members) u d → Put u d (10 ∷ []) v r
    → Put o 0 (step_text number s journal booked input pos outcome members) v r
unfolding step_text
step_put number s journal booked input pos outcome members f g h i j = then f (then g (then h (then i j)))
