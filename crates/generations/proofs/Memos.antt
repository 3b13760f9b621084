-- Laws of the memo. It stands by first positions, so it is right whatever the order is; and since generations depend on the jobs
-- up to a position alone, it stays right when another job arrives and when other jobs are booked.
use mathlib.Core.List.{List}
use mathlib.Core.Logic.{inl, inr, ⊎_elim}
use mathlib.Core.Path.{◌∙◌, ◌≡◌, ap, refl, sym}
use Prim.Native.Nat.{◌+◌, ◌-◌, ◌<◌, ◌≤◌, suc, ℕ}
use native.Mathlib.Nat.{le_antisymm}
use native.Mathlib.Omega.{arith}
use lib.Dec.{eqb}
use lib.ListN.{get_or-eq_default, get_or, get_or-replicate, length, length-replicate, length-take, replicate, set, take}
use lib.Seq.{get_or-set_other, get_or-set_same, get_or-take}
use borrow.Author.Tests.{eqb-false, eqb-true, le-ltb, lt-ltb}
use Rattle.base.proofs.Reflect.{reflect_eq}
use Rattle.base.proofs.Search.{first_complete, first_same, first_sound}
use Rattle.base.specs.Search.{Least, first_below}
use Rattle.record.specs.declared.Job.{Job}
use Rattle.journal.specs.Journal.{job_at}
use Rattle.generations.proofs.Ages.{by_test, generation_agree, lt_or_le}
use Rattle.generations.specs.Generations.{age_in, along, generation_at, is_at}
use Rattle.generations.specs.Memo.{FirstAt, Known, Memo, Ready}

-- two that are least are the same
least_one : {n : ℕ} {P : ℕ → Type 0} {i j : ℕ} → Least n P i → Least n P j → i ≡ j
least_one {n} {P} {i} {j} s t =
    ⊎_elim
    (λ l. absurd (t.none_before i l s.has))
    (λ g. ⊎_elim (λ l. absurd (s.none_before j l t.has)) (λ h. le_antisymm h g) (lt_or_le j i))
    (lt_or_le i j)

-- ---- the search for a job's position
module _ (order : List ℕ) (n k p : ℕ) where
  pub position_first : p ≡ first_below n (is_at order k) → p < n → FirstAt order n k p
  unfolding is_at
  position_first e l = first_sound n (λ i _. reflect_eq (get_or order i 0) k) p l (sym e)

  first_position : FirstAt order n k p → first_below n (is_at order k) ≡ p
  unfolding is_at
  first_position = first_complete n (λ i _. reflect_eq (get_or order i 0) k) p

module _ (job : ℕ → Job) (order : List ℕ) (n : ℕ) where
  -- ---- the age of a job
  pub age_found : (k p r : ℕ) → p ≡ first_below n (is_at order k) → p < n → r ≡ generation_at job (along order) p → r ≡ age_in job order n k
  unfolding age_in
  age_found k p r e l g = g ∙ simp (← e, lt-ltb p n l)

  pub age_missing : (k p : ℕ) → p ≡ first_below n (is_at order k) → n ≤ p → 0 ≡ age_in job order n k
  unfolding age_in
  age_missing k p e l = simp (← e, le-ltb p n l)

  -- ---- what a right memo knows
  module _ (memo : List ℕ) (right : Memo job order n memo) where
    known : (k : ℕ) → 0 < get_or memo k 0 → Known job order n k (get_or memo k 0)
    unfolding Memo
    known k l = ⊎_elim (λ z. absurd (omega arith)) (λ h. h) (right k)

    pub memo_known : (k p : ℕ) → 0 < get_or memo k 0 → FirstAt order n k p → get_or memo k 0 - 1 ≡ generation_at job (along order) p
    memo_known k p l f =
        let h = known k l in
        omega (arith, h.is, ap (generation_at job (along order)) (least_one h.first f))

    pub memo_age : (k : ℕ) → 0 < get_or memo k 0 → get_or memo k 0 - 1 ≡ age_in job order n k
    memo_age k l =
        let h = known k l in
        age_found k h.position _ (sym (first_position order n k h.position h.first)) h.first.below (omega (arith, h.is))

    -- what is found is put down
    pub memo_set : (k p r : ℕ) → k < length memo → FirstAt order n k p → r ≡ generation_at job (along order) p
        → Memo job order n (set memo k (r + 1))
    unfolding Memo
    memo_set k p r l f e j =
        ⊎_elim
        (λ t.
        let same : j ≡ k = eqb-true j k t in
        rw same (inr (record { position = p; first = f; is = get_or-set_same memo k (r + 1) 0 l ∙ omega (arith, e) })))
        (λ t. rw (get_or-set_other memo k j (r + 1) 0 (eqb-false j k t)) (right j))
        (by_test (eqb j k))

  -- a memo of zeros says nothing
  pub memo_none : (m : ℕ) → Memo job order n (replicate m 0)
  unfolding Memo
  memo_none m k =
      ⊎_elim
      (λ l. inl (get_or-replicate m k 0 0 l))
      (λ g. inl (get_or-eq_default (replicate m 0) 0 (rw (length-replicate {A = ℕ} m 0) g)))
      (lt_or_le k m)

-- ---- orders and jobs that agree at the first positions
module _ (job job' : ℕ → Job) (order order' : List ℕ) (n m : ℕ) (more : n ≤ m)
    (orders : (q : ℕ) → q < n → get_or order q 0 ≡ get_or order' q 0) (jobs : (q : ℕ) → q < n → job (get_or order q 0) ≡ job' (get_or order' q 0)) where
  known_agree : (k number : ℕ) → Known job order n k number → Known job' order' m k number
  known_agree k number h =
      let p = h.position in
      let l : p < n = h.first.below in
      record {
        position = p;
        first = record {
          below = omega arith;
          has = sym (orders p l) ∙ h.first.has;
          none_before = λ q b e. h.first.none_before q b (orders q (omega arith) ∙ e);
        };
        is = h.is ∙ ap suc (generation_agree job job' (along order) (along order') p (λ q b. jobs q (omega arith)));
      }

  pub memo_agree : (memo : List ℕ) → Memo job order n memo → Memo job' order' m memo
  unfolding Memo
  memo_agree memo right k = ⊎_elim inl (λ h. inr (known_agree k (get_or memo k 0) h)) (right k)

-- one more job arrives
pub memo_arrive : (job : ℕ → Job) (order : List ℕ) (n k : ℕ) (memo : List ℕ) → Memo job order n memo → Memo job (set order n k) (n + 1) memo
memo_arrive job order n k =
    let same : (q : ℕ) → q < n → get_or order q 0 ≡ get_or (set order n k) q 0 = λ q l. sym (get_or-set_other order n q k 0 (λ e. omega arith)) in
    memo_agree job job order (set order n k) n (n + 1) (omega arith) same (λ q l. ap job (same q l))

-- other jobs are booked
pub memo_book : (job job' : ℕ → Job) (order : List ℕ) (n : ℕ) (memo : List ℕ)
    → ((q : ℕ) → q < n → job (get_or order q 0) ≡ job' (get_or order q 0))
    → Memo job order n memo → Memo job' order n memo
memo_book job job' order n memo jobs = memo_agree job job' order order n n (omega arith) (λ q l. refl) jobs memo

-- ---- the arrived jobs alone
module _ (job : ℕ → Job) (order : List ℕ) (n : ℕ) where
  taken_at : (q : ℕ) → q < n → get_or (take n order) q 0 ≡ get_or order q 0
  taken_at q l = get_or-take n order q 0 l

  memo_taken : (memo : List ℕ) → Memo job order n memo → Memo job (take n order) n memo
  memo_taken = memo_agree job job order (take n order) n n (omega arith) (λ q l. sym (taken_at q l)) (λ q l. ap job (sym (taken_at q l)))

  taken_memo : (memo : List ℕ) → Memo job (take n order) n memo → Memo job order n memo
  taken_memo = memo_agree job job (take n order) order n n (omega arith) taken_at (λ q l. ap job (taken_at q l))

  -- the search for the job is the same, and so are the generations there
  age_taken : (k : ℕ) → age_in job (take n order) n k ≡ age_in job order n k
  unfolding is_at
  age_taken k =
      let e : first_below n (is_at (take n order) k) ≡ first_below n (is_at order k) =
      first_same _ _ n (λ q l. ap (λ (x : ℕ). eqb x k) (taken_at q l)) in
      ⊎_elim
      (λ l. age_found job order n k _ _ e l (sym (age_found job (take n order) n k _ _ refl l refl)
      ∙ generation_agree job job (along (take n order)) (along order) _ (λ q b. ap job (taken_at q (omega arith)))))
      (λ g. sym (age_missing job (take n order) n k _ refl g) ∙ age_missing job order n k _ e g)
      (lt_or_le (first_below n (is_at (take n order) k)) n)

-- the arrived jobs as a list of their own, and what is found along it
module _ (version : ℕ) (journal : List ℕ) (booked : ℕ) (numbers sets order : List ℕ) (n : ℕ) (memo : List ℕ)
    (ready : Ready version journal booked numbers sets order n memo) where
  pub taken_length : n ≡ length (take n order)
  taken_length = simp length-take (omega (arith, ready.placed))

  pub ready_taken : Ready version journal booked numbers sets (take n order) (length (take n order)) memo
  ready_taken =
      rw (sym taken_length) (record {
        few = ready.few;
        inside = ready.inside;
        entered = ready.entered;
        short = ready.short;
        placed = omega (arith, taken_length);
        size = ready.size;
        right = memo_taken (job_at version journal booked) order n memo ready.right;
      })

  pub found_taken : (k r : ℕ) (after : List ℕ) → r ≡ age_in (job_at version journal booked) (take n order) (length (take n order)) k
      → Memo (job_at version journal booked) (take n order) (length (take n order)) after
      → (r ≡ age_in (job_at version journal booked) order n k) × Memo (job_at version journal booked) order n after
  found_taken k r after e h = (
    rw (sym taken_length) at e ∙ age_taken (job_at version journal booked) order n k,
    taken_memo (job_at version journal booked) order n after (rw (sym taken_length) at h),
  )
