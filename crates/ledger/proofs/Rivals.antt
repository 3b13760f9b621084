-- Rivals (document 02, "Two different jobs are rivals if they share an input label or an output label"): jobs that are
-- apart do not conflict.
use mathlib.Core.Bool.{false, true}
use mathlib.Core.Logic.{◌≢◌, inl, inr, ⊎_elim}
use mathlib.Core.Path.{◌≡◌, sym}
use Prim.Native.Nat.{ℕ}
use Rattle.base.proofs.Reflect.{refuted}
use Rattle.base.specs.Lists.{In}
use Rattle.conflicts.proofs.Meaning.{conflicting_sym, reflect_conflicting, reflect_label_in}
use Rattle.conflicts.proofs.Tapes.{label_listed, listed_label}
use Rattle.conflicts.specs.Conflicts.{conflicting}
use Rattle.conflicts.specs.Meaning.{LabelIn}
use Rattle.conflicts.specs.Tapes.{labels, used_from}
use Rattle.record.specs.declared.Job.{Job}
use Rattle.ledger.specs.Demand3.{Apart}

pub apart_sym : {a c : Job} → Apart a c → Apart c a
apart_sym h = record { inputs = λ x m n. h.inputs x n m; outputs = λ x m n. h.outputs x n m }

-- a label of a half, as the tests find it and as the list of tapes has it
pub listed : (j : Job) (half x : ℕ) → LabelIn half j x → In x (labels (used_from j half 4))
listed j half x h = label_listed j half x ((reflect_label_in half j x).complete h)

pub apart_peaceful : {a c : Job} → Apart a c → conflicting a c ≡ true → ⊥
apart_peaceful {a} {c} h e =
    ⊎_elim (λ s. h.inputs s.0 (listed a 0 s.0 s.1.0) (listed c 0 s.0 s.1.1))
    (λ s. h.outputs s.0 (listed a 4 s.0 s.1.0) (listed c 4 s.0 s.1.1)) ((reflect_conflicting a c).sound e)

-- the job m is a rival of the job k
pub record Rival (job : ℕ → Job) (m k : ℕ) : Type 0 where
  pub other : m ≢ k
  pub conflicts : conflicting (job m) (job k) ≡ true

pub rival_sym : {job : ℕ → Job} {m k : ℕ} → Rival job m k → Rival job k m
rival_sym {job} {m} {k} r = record { other = λ e. r.other (sym e); conflicts = conflicting_sym (job m) (job k) r.conflicts }

-- a job that is apart from itself has no labels, and so no rival
pub no_labels : {job : ℕ → Job} {m k : ℕ} → Apart (job m) (job m) → Rival job m k → ⊥
no_labels h r = apart_peaceful (record { inputs = λ x m n. h.inputs x m m; outputs = λ x m n. h.outputs x m m }) r.conflicts

-- and jobs that do not conflict are apart
pub peaceful_apart : {a c : Job} → conflicting a c ≡ false → Apart a c
peaceful_apart {a} {c} e = record {
  inputs = λ x m n. refuted (reflect_conflicting a c) e (inl (x, (label a 0 x m, label c 0 x n)));
  outputs = λ x m n. refuted (reflect_conflicting a c) e (inr (x, (label a 4 x m, label c 4 x n)));
}
  where
    label : (j : Job) (half x : ℕ) → In x (labels (used_from j half 4)) → LabelIn half j x
    label j half x m = (reflect_label_in half j x).sound (listed_label j half x m)
