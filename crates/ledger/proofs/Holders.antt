-- Kinds 6 and 8 by vaults: check 18 passes exactly where some correct vault holds the job, as demand 3 has it; and what kind 6 answers is
-- what the quorums of signatures and acknowledgements make of the job.
use mathlib.Core.Bool.{Bool, ◌&&◌, ◌||◌, cond, false, not, true}
use mathlib.Core.List.{List}
use mathlib.Core.Path.{◌∙◌, ◌≡◌, ap, refl, subst, sym}
use Prim.Native.Nat.{◌+◌, ◌≤◌, suc, zero, ℕ}
use native.Mathlib.Omega.{arith}
use lib.Count.{ones}
use lib.Dec.{leb}
use lib.ListN.{get_or}
use Rattle.base.proofs.Reflect.{reflect_and, reflect_as, reflect_false, reflect_true, refuted, refutes}
use Rattle.base.proofs.Search.{reflect_any}
use Rattle.base.specs.Reflect.{Reflects}
use Rattle.base.specs.Search.{any_below}
use Rattle.sets.proofs.Size.{reflect_at_least}
use Rattle.sets.specs.Bits.{has_bit}
use Rattle.job_sets.proofs.Jobs.{has_no_jobs, job_union_has}
use Rattle.job_sets.specs.Jobs.{job_has, job_union, no_jobs}
use Rattle.job_sets.specs.declared.job_set.JobSet.{JobSet}
use Rattle.federation.specs.Federation.{threshold_of}
use Rattle.federation.specs.declared.Settings.{Settings}
use Rattle.ledger.specs.Decisions.{status_of}
use Rattle.ledger.specs.Demand3.{Held}
use Rattle.ledger.specs.Holders.{held_below, held_somewhere, holds_at, is_held}
use Rattle.ledger.specs.Meaning.{Quorum, Status, certified, finished, uncertified}
use Rattle.ledger.specs.State.{vault_at}
use Rattle.ledger.specs.declared.Ledger.{Ledger}
use Rattle.vaults.specs.Vaults.{new_vault}
use Rattle.vaults.specs.declared.Vault.{Vault}
use Rattle.vaults.specs.declared.Votes.{Votes}

-- ---- check 18
pub reflect_held : (l : Ledger) (k : ℕ) → Reflects (is_held l.settings l.vaults k) (Held l k)
unfolding is_held holds_at
reflect_held l k =
    reflect_as
    (reflect_any l.settings.n (λ v h. reflect_and (reflect_false (has_bit l.settings.faulty v)) (reflect_true (job_has (vault_at l v).held k))))
    (λ s. record { vault = s.which; by = record { correct = record { below = s.below; sound = s.has.0 }; held = s.has.1 } })
    (λ h. record { which = h.vault; below = h.by.correct.below; has = (h.by.correct.sound, h.by.held) })

-- the same by the set of what correct vaults hold
swap : (a c : Bool) → (a || c) ≡ (c || a)
swap true true = refl
swap true false = refl
swap false true = refl
swap false false = refl

one_more : (f : Bool) (a c : JobSet) (k : ℕ) (rest : Bool) → job_has a k ≡ rest → job_has (cond f a (job_union a c)) k ≡ ((not f && job_has c k) || rest)
one_more true a c k rest e = e
one_more false a c k rest e = job_union_has a c k ∙ (ap (λ (x : Bool). x || job_has c k) e ∙ swap rest (job_has c k))

pub held_below_lem : (s : Settings) (vaults : List Vault) (k n : ℕ) → job_has (held_below s vaults n) k ≡ any_below n (holds_at s vaults k)
unfolding held_below any_below holds_at
held_below_lem s vaults k zero = has_no_jobs k
held_below_lem s vaults k (suc n) = one_more (has_bit s.faulty n) (held_below s vaults n) (get_or vaults n new_vault).held k _ (held_below_lem s vaults k n)

pub somewhere_held : (l : Ledger) (k : ℕ) → Reflects (job_has (held_somewhere l.settings l.vaults) k) (Held l k)
unfolding is_held
somewhere_held l k =
    subst (λ (b : Bool). Reflects b (Held l k)) (sym (held_below_lem l.settings l.vaults k l.settings.n)) (reflect_held l k)

-- one vault after another
module _ (s : Settings) (vaults : List Vault) where
  pub held_start : (r : JobSet) → r ≡ no_jobs → r ≡ held_below s vaults 0
  unfolding held_below
  held_start r e = e

  pub held_more : (v : ℕ) (a r : JobSet) → a ≡ held_below s vaults v
      → r ≡ cond (has_bit s.faulty v) a (job_union a (get_or vaults v new_vault).held) → r ≡ held_below s vaults (v + 1)
  unfolding held_below
  held_more v a r ea er = let q : v + 1 ≡ suc v = omega arith in rw q (er ∙ rw ea refl)

  pub held_end : (n v : ℕ) (r : JobSet) → r ≡ held_below s vaults v → n ≡ s.n → v ≤ n → n ≤ v → r ≡ held_somewhere s vaults
  held_end n v r er en l h = let q : v ≡ s.n = omega (arith, en) in er ∙ ap (held_below s vaults) q

pub ruleset holders = (held_start, held_more, held_end)

-- ---- kind 6
module _ (s : Settings) (votes : Votes) where
  finished? : Reflects (leb (threshold_of s) (ones votes.acknowledgements)) (Quorum s votes.acknowledgements)
  finished? = reflect_at_least (threshold_of s) votes.acknowledgements

  certified? : Reflects (leb (threshold_of s) (ones votes.signatures)) (Quorum s votes.signatures)
  certified? = reflect_at_least (threshold_of s) votes.signatures

  pub status_means : Status s votes (status_of s votes)
  unfolding status_of
  status_means = by _ finished? _ certified?
    where
      by : (a : Bool) → Reflects a (Quorum s votes.acknowledgements) → (c : Bool) → Reflects c (Quorum s votes.signatures)
          → Status s votes (cond a 2 (cond c 1 0))
      by true p c q = finished (p.sound refl)
      by false p true q = certified (refuted p refl) (q.sound refl)
      by false p false q = uncertified (refuted p refl) (refuted q refl)

  pub means_status : (x : ℕ) → Status s votes x → x ≡ status_of s votes
  unfolding status_of
  means_status x (finished a) = simp (finished?.complete a)
  means_status x (certified n c) = simp (refutes finished? n, certified?.complete c)
  means_status x (uncertified n m) = simp (refutes finished? n, refutes certified? m)
