-- The members of a set one after another: what is written, with those that remain, is the whole.
use mathlib.Core.Bool.{Bool, cond, false, true}
use mathlib.Core.List.{List, [], ◌++◌, ◌∷◌}
use mathlib.Core.Path.{◌∙◌, ◌≡◌, ap, refl, sym}
use Prim.Native.Nat.{◌*◌, ◌+◌, ◌-◌, ◌<◌, ◌≤◌, suc, ℕ}
use native.Mathlib.Omega.{arith}
use lib.ListN.{length, length-append}
use lib.Seq.{length-sets, sets}
use Rattle.codec.proofs.Numbers.{sets_append}
use Rattle.explanations.specs.Answers.{joined, names, others}
use Rattle.printing.specs.Member.{member}
use Rattle.rows.specs.Table.{letters}
use Rattle.job_sets.specs.Jobs.{job_has}
use Rattle.job_sets.specs.declared.job_set.JobSet.{JobSet}
use Rattle.digits.specs.Digits.{Put}
use Rattle.text.specs.Text.{members_from}

-- what is still to be written of a list: nothing of it is written yet, or something is
abbrev remaining : Bool → List ℕ → List ℕ
remaining true ks = joined ks
remaining false ks = others ks

said : (i : ℕ) (first : Bool) (ks : List ℕ) → remaining first (i ∷ ks) ≡ member first i ++ others ks
unfolding member
said i true ks = refl
said i false ks = refl

pub record Naming (s : JobSet) (before : List ℕ) (at i end : ℕ) (first : Bool) (out : List ℕ) : Type 0 where
  pub puts : sets out end (remaining first (members_from s i (128 - i))) ≡ sets before at (names s)
  pub moves : end + length (remaining first (members_from s i (128 - i))) ≡ at + length (names s)
  pub within : i ≤ 128
  pub few : end ≤ at + 11 * i
  pub size : length out ≡ length before

pub name_begun : (s : JobSet) (before : List ℕ) (at : ℕ) → Naming s before at 0 at true before
unfolding names
name_begun s before at = record { puts = refl; moves = refl; within = omega arith; few = omega arith; size = refl }

module _ {s : JobSet} {before : List ℕ} {at i end : ℕ} {first : Bool} {out : List ℕ} (now : Naming s before at i end first out) where
  more : (n : ℕ) → members_from s i (suc n) ≡ cond (job_has s i) (i ∷ members_from s (suc i) n) (members_from s (suc i) n)
  unfolding members_from
  more n = refl

  pub name_turn : (b : Bool) (r : ℕ) (out₁ : List ℕ) → i < 128 → b ≡ job_has s i → b ≡ true → Put out end (member first i) out₁ r → r ≤ end + 11
      → Naming s before at (i + 1) r false out₁
  name_turn b r out₁ h e t w k =
      let n : 128 - i ≡ suc (128 - suc i) = omega arith in
      let f : i + 1 ≡ suc i = omega arith in
      let ks = members_from s (suc i) (128 - suc i) in
      let m : members_from s i (128 - i) ≡ i ∷ ks = rw n (more (128 - suc i) ∙ rw (sym e ∙ t)) in
      let l = others ks in
      let whole : remaining first (members_from s i (128 - i)) ≡ member first i ++ l = ap (remaining first) m ∙ said i first ks in
      record {
        puts = rw (f, w.wrote, w.moved) (sym (sets_append (member first i) out end l) ∙ ap (sets out end) (sym whole) ∙ now.puts);
        moves = rw f (omega (arith, w.moved, length-append (member first i) l, ap length whole, now.moves));
        within = omega arith;
        few = omega (arith, now.few);
        size = rw w.wrote (length-sets out end (member first i) ∙ now.size);
      }

  pub name_pass : (b : Bool) → i < 128 → b ≡ job_has s i → b ≡ false → Naming s before at (i + 1) end first out
  name_pass b h e t =
      let n : 128 - i ≡ suc (128 - suc i) = omega arith in
      let f : i + 1 ≡ suc i = omega arith in
      let m : members_from s i (128 - i) ≡ members_from s (suc i) (128 - suc i) = rw n (more (128 - suc i) ∙ rw (sym e ∙ t)) in
      let whole = ap (remaining first) m in
      record {
        puts = rw f (ap (sets out end) (sym whole) ∙ now.puts);
        moves = rw f (omega (arith, ap length whole, now.moves));
        within = omega arith;
        few = omega (arith, now.few);
        size = now.size;
      }

  over : 128 ≤ i → members_from s i (128 - i) ≡ []
  unfolding members_from
  over h = let n : 128 - i ≡ 0 = omega arith in rw n

  left : (b : Bool) → 128 ≤ i → first ≡ b → remaining first (members_from s i (128 - i)) ≡ remaining b []
  left b h e = ap (remaining first) (over h) ∙ ap (λ (x : Bool). remaining x []) e

  pub name_end : 128 ≤ i → first ≡ false → Put before at (names s) out end
  name_end h e = record { moved = omega (arith, now.moves, ap length (left false h e)); wrote = ap (sets out end) (sym (left false h e)) ∙ now.puts }

  pub name_none : {p : List ℕ} {r : ℕ} → 128 ≤ i → first ≡ true → Put out end (letters "none") p r → Put before at (names s) p r
  name_none h e w = record {
    moved = omega (arith, w.moved, now.moves, ap length (left true h e));
    wrote = w.wrote ∙ ap (sets out end) (sym (left true h e)) ∙ now.puts;
  }
