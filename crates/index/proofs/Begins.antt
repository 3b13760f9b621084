-- The index of no job, and that it speaks of the entered jobs alone.
use mathlib.Core.Bool.{Bool, false, true}
use mathlib.Core.List.{List}
use mathlib.Core.Path.{◌∙◌, ◌≡◌, ap, refl}
use Prim.Native.Nat.{◌%◌, ◌*◌, ◌+◌, ◌/◌, ◌<◌, suc, zero, ℕ}
use native.Mathlib.Nat.{le_refl, not-suc-le-zero}
use native.Mathlib.Omega.{arith}
use lib.ListN.{get_or, get_or-replicate, length-replicate, replicate}
use Rattle.base.proofs.Search.{any_same, first_same}
use Rattle.base.specs.Search.{any_below}
use Rattle.record.specs.Entries.{frames_of, is_used, label_of}
use Rattle.record.specs.declared.Job.{Job}
use Rattle.sets.proofs.Bits.{has_none}
use Rattle.index.specs.Chains.{last_below}
use Rattle.index.specs.Places.{Entered, Marked, Numbered, bucket_of, frames_at, heads_at, in_bucket, is_match}
use Rattle.index.specs.Places.{label_at, marks, number_at, numbers_size, sets_size, used_at}
use Rattle.index.specs.Words.{bit_at}

-- ---- no job
zero_at : (n i : ℕ) → i < n → ◌≡◌ {A = ℕ} (get_or {A = ℕ} (replicate {A = ℕ} n 0) i 0) 0
zero_at n i l = get_or-replicate {A = ℕ} n i 0 0 l

numbered_new : (job : ℕ → Job) → Numbered job 0 (replicate numbers_size 0)
unfolding last_below
numbered_new job = record {
  size = length-replicate {A = ℕ} numbers_size 0;
  small = λ i l. rw (zero_at numbers_size i (omega arith)) (omega arith);
  named = λ exact p l u. absurd (not-suc-le-zero l);
  linked = λ p l u. absurd (not-suc-le-zero l);
  headed = λ b l. zero_at numbers_size (heads_at + b) (omega arith);
}

marked_new : (job : ℕ → Job) → Marked job 0 (replicate sets_size 0)
unfolding bit_at any_below
marked_new job = record {
  size = length-replicate {A = ℕ} sets_size 0;
  bits = λ b l. rw (zero_at sets_size (b / 64) (omega arith)) (has_none (b % 64));
}

pub entered_new : (job : ℕ → Job) → Entered job 0 (replicate numbers_size 0) (replicate sets_size 0)
entered_new job = record { numbered = numbered_new job; marked = marked_new job }

-- ---- other jobs that are the same below n
pub last_same : (p q : ℕ → Bool) (n : ℕ) → ((i : ℕ) → i < n → p i ≡ q i) → last_below n p ≡ last_below n q
unfolding last_below
last_same p q zero h = refl
last_same p q (suc n) h = rw (h n (le_refl (suc n)), last_same p q n (λ i l. h i (omega arith)))

module _ (job job' : ℕ → Job) (n : ℕ) (alike : (k : ℕ) → k < n → job k ≡ job' k) where
  there : (p : ℕ) → p < 8 * n → job (p / 8) ≡ job' (p / 8)
  there p l = alike (p / 8) (omega arith)

  pub used_alike : (p : ℕ) → p < 8 * n → used_at job p ≡ used_at job' p
  unfolding used_at
  used_alike p l = ap (λ (a : Job). is_used a (p % 8)) (there p l)

  pub label_alike : (p : ℕ) → p < 8 * n → label_at job p ≡ label_at job' p
  unfolding label_at
  label_alike p l = ap (λ (a : Job). label_of a (p % 8)) (there p l)

  frames_alike : (p : ℕ) → p < 8 * n → frames_at job p ≡ frames_at job' p
  unfolding frames_at
  frames_alike p l = ap (λ (a : Job). frames_of a (p % 8)) (there p l)

  pub number_alike : (exact : Bool) (p : ℕ) → p < 8 * n → number_at job exact p ≡ number_at job' exact p
  unfolding number_at is_match
  number_alike exact p l =
      first_same _ _ p (λ i li.
      let m : i < 8 * n = omega arith in
      rw (used_alike i m, label_alike i m, frames_alike i m, label_alike p l, frames_alike p l))

  bucket_alike : (b p : ℕ) → p < 8 * n → in_bucket job b p ≡ in_bucket job' b p
  unfolding in_bucket
  bucket_alike b p l = rw (used_alike p l, label_alike p l)

  marks_alike : (b p : ℕ) → p < 8 * n → marks job b p ≡ marks job' b p
  unfolding marks
  marks_alike b p l = rw (used_alike p l, number_alike false p l, number_alike true p l)

  pub entered_alike : (numbers sets : List ℕ) → Entered job (8 * n) numbers sets → Entered job' (8 * n) numbers sets
  entered_alike numbers sets t = record {
    numbered = record {
      size = t.numbered.size;
      small = t.numbered.small;
      named = λ exact p l u. t.numbered.named exact p l (used_alike p l ∙ u) ∙ number_alike exact p l;
      linked = λ p l u.
          t.numbered.linked p l (used_alike p l ∙ u)
          ∙ ap (λ (b : ℕ). last_below p (in_bucket job (bucket_of b))) (label_alike p l)
          ∙ last_same _ _ p (λ i li. bucket_alike _ i (omega arith));
      headed = λ b l. t.numbered.headed b l ∙ last_same _ _ (8 * n) (bucket_alike b);
    };
    marked = record {
      size = t.marked.size;
      bits = λ b l. t.marked.bits b l ∙ any_same _ _ (8 * n) (marks_alike b);
    };
  }
