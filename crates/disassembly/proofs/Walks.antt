-- The steps of a file one after another: each can be read.
use mathlib.Core.Bool.{Bool, false, true}
use mathlib.Core.List.{List}
use mathlib.Core.Path.{◌∙◌, ◌≡◌, ap, sym}
use Prim.Native.Nat.{◌+◌, ◌-◌, ◌<◌, ◌≤◌, suc, ℕ}
use native.Mathlib.Omega.{arith}
use lib.Dec.{leb}
use lib.ListN.{length}
use borrow.Author.Tests.{le-leb, lt-leb}
use Rattle.runfile.specs.Run.{longest, opens, version_in}
use Rattle.runfile.specs.Steps.{is_unknown, kind_at}
use Rattle.reading.specs.Reading.{Read}
use Rattle.reading.specs.declared.Step.{Step}
use Rattle.notation.proofs.Views.{opened_of}
use Rattle.notation.specs.Files.{sayable, whole_from}

pub record Walking (version : ℕ) (input : List ℕ) (passed pos : ℕ) : Type 0 where
  pub same : whole_from (length input - passed) version input pos ≡ whole_from (length input) version input 9
  pub inside : pos ≤ length input

module _ {version : ℕ} {input : List ℕ} where
  pub walk_begun : 9 ≤ length input → Walking version input 0 9
  walk_begun h = record { same = ap (λ (k : ℕ). whole_from k version input 9) (omega arith); inside = h }

  module _ {passed pos : ℕ} (now : Walking version input passed pos) where
    pub walk_none : (b : Bool) → length input ≤ passed → b ≡ leb (length input) pos → b ≡ whole_from (length input) version input 9
    unfolding whole_from
    walk_none b h e = let z : length input - passed ≡ 0 = omega arith in e ∙ sym (rw z) ∙ now.same

    module _ (some : passed < length input) where
      lead : whole_from (length input - passed) version input pos ≡ whole_from (suc (length input - (passed + 1))) version input pos
      lead = ap (λ (k : ℕ). whole_from k version input pos) (omega arith)

      pub walk_over : length input ≤ pos → true ≡ whole_from (length input) version input 9
      unfolding whole_from
      walk_over h = sym (lead ∙ rw (le-leb (length input) pos h)) ∙ now.same

      module _ (here : pos < length input) (s : Step) (read : Read version input pos 0 s) (b : Bool) (is : b ≡ is_unknown s.kind) where
        unknown : is_unknown (kind_at version input pos) ≡ b
        unknown = sym (is ∙ ap is_unknown read.kind_is)

        pub walk_turn : b ≡ false → Walking version input (passed + 1) s.end
        unfolding whole_from
        walk_turn f = record {
          same = sym (lead ∙ rw (lt-leb (length input) pos here, unknown ∙ f, sym read.end_is)) ∙ now.same;
          inside = read.inside;
        }

        pub walk_stop : b ≡ true → false ≡ whole_from (length input) version input 9
        unfolding whole_from
        walk_stop t = sym (lead ∙ rw (lt-leb (length input) pos here, unknown ∙ t)) ∙ now.same

pub ruleset walks = (walk_begun, walk_none, walk_over, walk_turn, walk_stop)

-- ---- a file that can be said
module _ (input : List ℕ) (a : Bool) (e : a ≡ opens input) where
  pub say_whole : (b : Bool) (v : ℕ) → a ≡ true → v ≡ version_in input → b ≡ whole_from (length input) v input 9 → b ≡ sayable input
  unfolding sayable
  say_whole b v t q w = rw (sym e ∙ t) (rw q at w)

  pub say_not : a ≡ false → false ≡ sayable input
  unfolding sayable
  say_not f = rw (sym e ∙ f)

  pub open_long : a ≡ true → 9 ≤ length input
  open_long t = (opened_of input (sym e ∙ t)).long

  pub open_few : a ≡ true → length input ≤ longest
  open_few t = (opened_of input (sym e ∙ t)).few

pub ruleset sayings = (say_whole, say_not, open_long, open_few)
