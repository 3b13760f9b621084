-- The sets of jobs that a list of steps leaves fit into their words, since each is made of the empty one by adding jobs; so the count of a set is the length
-- of a list of its members.
use mathlib.Core.Bool.{Bool, cond, true}
use mathlib.Core.List.{List, [], ◌∷◌}
use mathlib.Core.Logic.{◌↔◌, inl, inr}
use mathlib.Core.Path.{◌∙◌, ◌≡◌, refl, subst, sym}
use Prim.Native.Nat.{◌+◌, ◌<◌, ◌≤◌, suc, zero, ℕ}
use native.Mathlib.Omega.{arith}
use lib.Dec.{eqb}
use lib.ListN.{get_or, length, set}
use borrow.Author.Tests.{eqb-false, eqb-true}
use Rattle.base.proofs.Members.{distinct_keep, in_keep, keep_in}
use Rattle.base.proofs.Reflect.{by_cases}
use Rattle.base.specs.Lists.{Distinct, In, keep_if}
use Rattle.base.specs.Search.{sum_from}
use Rattle.job_sets.proofs.Jobs.{job_below, job_count_counts, no_jobs_words, union_words, with_words}
use Rattle.sets.specs.Bits.{has_bit}
use Rattle.job_sets.specs.Jobs.{InWords, job_count, job_has, no_jobs}
use Rattle.job_sets.specs.declared.job_set.JobSet.{JobSet}
use Rattle.snapshot.specs.Snapshot.{seen_after, seen_before, visible}
use Rattle.ledger.proofs.Changes.{Change, appends, changes, counts, grants, holds, idle, nothing, releases, seen_next, sees, signs, votes}
use Rattle.ledger.proofs.Demand3.{filled, kept}
use Rattle.ledger.proofs.Effects.{hold_seen, kept_vaults}
use Rattle.ledger.proofs.Invariant.{Inv}
use Rattle.ledger.proofs.Views.{at_store}
use Rattle.ledger.specs.Register.{Register, is_done}
use Rattle.ledger.specs.Rounds.{CountOf}
use Rattle.ledger.specs.State.{booking, counted, new_ledger, vault_at, visited, voted, with_vault}
use Rattle.ledger.specs.Worlds.{Event, Request, World, after, after_all, reply_to, start}
use Rattle.ledger.specs.declared.Ledger.{Ledger}
use Rattle.vaults.specs.Vaults.{holding, new_vault, signing, unsigning}
use Rattle.vaults.specs.declared.Vault.{Vault}

-- ---- what is kept
pub record Fitting (l : Ledger) : Type 0 where
  pub held : (v : ℕ) → InWords (vault_at l v).held
  pub seen : InWords l.seen

-- a vault is stored whose held jobs fit
stored : (vaults : List Vault) (v : ℕ) (state : Vault) → ((u : ℕ) → InWords (get_or vaults u new_vault).held) → InWords state.held
    → (u : ℕ) → InWords (get_or (set vaults v state) u new_vault).held
stored vaults v state h fits u =
    at_store vaults v state new_vault (λ _ (x y : Vault). InWords x.held → InWords y.held) (λ _ x p. p) (λ _. fits) u (h u)

pub seen_words : {l : Ledger} → Fitting l → InWords (seen_next l)
unfolding seen_after seen_before visible
seen_words {l} f =
    union_words _ _ (by_cases (λ b. InWords (cond b no_jobs l.seen)) (eqb l.next 0) (λ _. no_jobs_words) (λ _. f.seen))
    (by_cases (λ b. InWords (cond b no_jobs (vault_at l l.next).held)) (has_bit l.settings.faulty l.next) (λ _. no_jobs_words)
    (λ _. f.held l.next))

fits : (w : World) → Fitting w.ledger → (q : Request) (done : Bool) (w' : World) → Change w q done w' → Fitting w'.ledger
unfolding booking counted visited voted with_vault signing holding unsigning
fits w f q done w' (nothing p) = f
fits w f q done w' (idle p m) = f
fits w f q done w' (appends bytes e h n) = record { held = f.held; seen = f.seen }
fits w f q done w' (signs v k c h u) = record { held = stored w.ledger.vaults v _ f.held (f.held v); seen = f.seen }
fits w f q done w' (votes d v k h x b) = record { held = f.held; seen = f.seen }
fits w f q done w' (holds v k signers c h e) = record {
  held = subst (λ (vaults : List Vault). (u : ℕ) → InWords (get_or vaults u new_vault).held) (sym (kept_vaults w.ledger v k))
      (stored w.ledger.vaults v _ f.held (with_words (vault_at w.ledger v).held k (f.held v)));
  seen = subst InWords (sym (hold_seen w.ledger v k)) f.seen;
}
fits w f q done w' sees = record { held = f.held; seen = seen_words f }
fits w f q done w' (releases v k m c s h n) = record { held = stored w.ledger.vaults v _ f.held (f.held v); seen = f.seen }
fits w f q done w' (counts v k client d h) = record { held = f.held; seen = f.seen }
fits w f q done w' (grants v k client h c b u) = record { held = stored w.ledger.vaults v _ f.held (f.held v); seen = f.seen }

pub fits_first : (n b faulty version : ℕ) → Fitting (start n b faulty version).ledger
unfolding start new_ledger no_jobs
fits_first n b faulty version = record {
  held = λ v. subst (λ (x : Vault). InWords x.held) (sym (filled 16 v new_vault)) no_jobs_words;
  seen = no_jobs_words;
}

pub fits_along : (es : List Event) (w : World) (r : Register) → Inv w r → Fitting w.ledger → Fitting (after_all w es).ledger
fits_along [] w r i f = f
fits_along (e ∷ es) w r i f =
    fits_along es (after w e) _ (kept w r i e) (fits w f e.request (is_done (reply_to w e).outcome) (after w e) (changes w i.shape e))

-- ---- a list of the members

abbrev numbers : ℕ → ℕ → List ℕ
numbers i zero = []
numbers i (suc n) = i ∷ numbers (suc i) n

from_numbers : (i n k : ℕ) → In k (numbers i n) → i ≤ k
from_numbers i zero k x' = elim x' [ ]
from_numbers i (suc n) k (inl e) = omega (arith, e)
from_numbers i (suc n) k (inr m) = omega (arith, from_numbers (suc i) n k m)

in_numbers : (i n k : ℕ) → i ≤ k → k < i + n → In k (numbers i n)
in_numbers i zero k h b = absurd (omega (arith, h, b))
in_numbers i (suc n) k h b =
    by_cases (λ _. In k (numbers i (suc n))) (eqb k i) (λ e. inl (eqb-true k i e))
    (λ e. inr (in_numbers (suc i) n k (omega (arith, h, eqb-false k i e)) (omega (arith, b))))

numbers_once : (i n : ℕ) → Distinct (numbers i n)
numbers_once i zero = tt
numbers_once i (suc n) = (λ m. absurd (omega (arith, from_numbers (suc i) n i m)), numbers_once (suc i) n)

count_kept : (p : ℕ → Bool) (i n : ℕ) → length (keep_if p (numbers i n)) ≡ sum_from (λ k. cond (p k) 1 0) i n
unfolding sum_from
count_kept p i zero = refl
count_kept p i (suc n) =
    let rest = count_kept p (suc i) n in
    by_cases (λ b. length (cond b (i ∷ keep_if p (numbers (suc i) n)) (keep_if p (numbers (suc i) n))) ≡ cond b 1 0 + sum_from (λ k. cond (p k) 1 0) (suc i) n)
    (p i)
    (λ _. omega (arith, rest)) (λ _. omega (arith, rest))

-- as many members as the count says can be listed
pub count_lists : (s : JobSet) → InWords s → (Seen : ℕ → Type 0) → ((k : ℕ) → (job_has s k ≡ true) ↔ Seen k) → CountOf Seen (job_count s)
count_lists s w Seen is = record {
  jobs = keep_if (job_has s) (numbers 0 128);
  once = distinct_keep (job_has s) (numbers 0 128) (numbers_once 0 128);
  each = λ k. (
    λ m. (is k).0 (keep_in (job_has s) (numbers 0 128) k m).1,
    λ x. let t = (is k).1 x in in_keep (job_has s) (numbers 0 128) k (in_numbers 0 128 k (omega arith) (omega (arith, job_below s k t))) t,
  );
  size = count_kept (job_has s) 0 128 ∙ sym (job_count_counts s w);
}
