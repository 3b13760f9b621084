-- The sets of kind 13 name the vaults that the rule names. For a rival k of i, that i has no certified rival but k means that i has none, where k is not
-- certified, and at most one, where it is. So which rivals make an unexcused pair with i follows from how many certified rivals each has.
use mathlib.Core.Bool.{Bool, ◌&&◌, ◌||◌, cond, false, not, true, true≢false}
use mathlib.Core.Path.{◌∙◌, ◌≡◌, ap, ap₂, refl, sym}
use Prim.Native.Nat.{◌<◌, ◌≤◌, suc, zero, ℕ}
use native.Mathlib.Omega.{arith}
use lib.Bits.{bit_and, bit_or}
use lib.Dec.{eqb, ltb}
use borrow.Author.Tests.{eqb-false, eqb-true, le-leb, leb-true, lt-ltb, ltb-true}
use Rattle.base.proofs.Reflect.{and_true, by_cases, by_test, not_true_false}
use Rattle.base.proofs.Search.{any_and, any_elim, any_intro, any_same}
use Rattle.base.specs.Search.{any_below}
use Rattle.conflicts.proofs.Meaning.{reflect_rival, rivals_sym}
use Rattle.conflicts.specs.Conflicts.{is_rival}
use Rattle.federation.specs.declared.Settings.{Settings}
use Rattle.rivalry.specs.Rivals.{rivals_of}
use Rattle.ledger.specs.Decisions.{listing}
use Rattle.ledger.specs.Equivocation.{equivocators, excuses, is_certified, is_equivocating, is_excused, is_unexcused, signed_both}
use Rattle.ledger.specs.State.{signers_of, votes_in}
use Rattle.ledger.specs.declared.Ledger.{Ledger}
use Rattle.ledger.specs.declared.Listing.{Listing}
use Rattle.record.specs.declared.Job.{Job}
use Rattle.sets.proofs.Bits.{has_common, has_none, has_union}
use Rattle.job_sets.proofs.Few.{jobs_below_same, none_count, none_of, one_member, one_of}
use Rattle.job_sets.proofs.Jobs.{common_words, has_jobs_below, has_no_jobs, job_below, jobs_below_words, jobs_common_has, jobs_same, no_jobs_words}
use Rattle.sets.specs.Bits.{has_bit}
use Rattle.job_sets.specs.Jobs.{InWords, job_count, job_has, jobs_below, jobs_common, no_jobs}
use Rattle.job_sets.specs.declared.job_set.JobSet.{JobSet}
use Rattle.equivocation.specs.Partners.{certified_jobs, has_few, jobs_with_few, partners_by, recorded_in, signed_pairs, signers_among}

module _ (s : Settings) (signers : ℕ → ℕ) (job : ℕ → Job) (booked : ℕ) (few : booked ≤ 128) where
  abbrev certified : JobSet
  certified = certified_jobs s signers booked

  abbrev excusing : ℕ → JobSet
  excusing i = jobs_common (rivals_of job booked i) certified

  certified_words : InWords certified
  unfolding certified_jobs
  certified_words = jobs_below_words booked _

  excusing_words : (i : ℕ) → InWords (excusing i)
  excusing_words i = common_words (rivals_of job booked i) certified certified_words

  below : (p : ℕ → Bool) (k : ℕ) → k < booked → job_has (jobs_below booked p) k ≡ p k
  below p k l = has_jobs_below booked p k (omega arith) ∙ simp (lt-ltb k booked l)

  certified_has : (k : ℕ) → k < booked → job_has certified k ≡ is_certified s signers k
  unfolding certified_jobs
  certified_has k l = below (is_certified s signers) k l

  rivals_has : (i k : ℕ) → k < booked → job_has (rivals_of job booked i) k ≡ is_rival job i k
  unfolding rivals_of
  rivals_has i k l = below (is_rival job i) k l

  excusing_has : (i m : ℕ) → m < booked → job_has (excusing i) m ≡ (is_rival job i m && is_certified s signers m)
  excusing_has i m l = jobs_common_has (rivals_of job booked i) certified m ∙ ap₂ ◌&&◌ (rivals_has i m l) (certified_has m l)

  -- a member is a booked job, a rival and certified
  member_below : (i m : ℕ) → job_has (excusing i) m ≡ true → m < booked
  unfolding rivals_of
  member_below i m t =
      let r = (and_true (job_has (rivals_of job booked i) m) _ (sym (jobs_common_has (rivals_of job booked i) certified m) ∙ t)).0 in
      ltb-true m booked (and_true (ltb m booked) _ (sym (has_jobs_below booked (is_rival job i) m (job_below _ m t)) ∙ r)).0

  -- one that is not k excuses
  excused_by : (i k m : ℕ) → job_has (excusing i) m ≡ true → eqb m k ≡ false → is_excused s signers job booked i k ≡ true
  unfolding is_excused excuses
  excused_by i k m t ne =
      let l = member_below i m t in
      let h = and_true (is_rival job i m) _ (sym (excusing_has i m l) ∙ t) in
      any_intro _ booked m l (simp (ne, h.0, h.1))

  -- and whoever is excused has one
  excuse_in : (i k : ℕ) → is_excused s signers job booked i k ≡ true → (m : ℕ) × ((eqb m k ≡ false) × (job_has (excusing i) m ≡ true))
  unfolding is_excused excuses
  excuse_in i k e =
      let x = any_elim _ booked e in
      let h = and_true (not (eqb x.which k)) _ x.has in
      let g = and_true (is_certified s signers x.which) _ h.1 in
      (x.which, (negated (eqb x.which k) h.0, excusing_has i x.which x.below ∙ simp (g.0, g.1)))
    where
      negated : (b : Bool) → not b ≡ true → b ≡ false
      negated false e = refl
      negated true e = absurd (true≢false (sym e))

  abbrev Few : ℕ → ℕ → Bool
  Few most i = has_few certified job booked most i

  few_true : (most i : ℕ) → job_count (excusing i) ≤ most → Few most i ≡ true
  unfolding has_few
  few_true most i h = le-leb (job_count (excusing i)) most h

  true_few : (most i : ℕ) → Few most i ≡ true → job_count (excusing i) ≤ most
  unfolding has_few
  true_few most i h = leb-true (job_count (excusing i)) most h

  few_more : (i : ℕ) → Few 0 i ≡ true → Few 1 i ≡ true
  few_more i h = few_true 1 i (omega (arith, true_few 0 i h))

  -- i has no certified rival but its rival k
  lone : (i k : ℕ) → k < booked → is_rival job i k ≡ true → not (is_excused s signers job booked i k) ≡ cond (is_certified s signers k) (Few 1 i) (Few 0 i)
  lone i k l r = by (is_certified s signers k) refl (is_excused s signers job booked i k) refl
    where
      by : (c : Bool) → is_certified s signers k ≡ c → (e : Bool) → is_excused s signers job booked i k ≡ e → not e ≡ cond c (Few 1 i) (Few 0 i)
      by true c true e =
          let x = excuse_in i k e in
          let k_in : job_has (excusing i) k ≡ true = excusing_has i k l ∙ simp (r, c) in
          sym (not_true_false _ (λ t. eqb-false x.0 k x.1.0 (one_of (excusing i) (excusing_words i) (true_few 1 i t) k x.0 k_in x.1.1)))
      by false c true e =
          let x = excuse_in i k e in
          sym (not_true_false _ (λ t. true≢false (sym x.1.1 ∙ none_of (excusing i) (excusing_words i) (true_few 0 i t) x.0)))
      by true c false e =
          sym (few_true 1 i (one_member (excusing i) (excusing_words i) k (omega arith) (λ m t.
          by_test (eqb m k) (eqb-true m k) (λ ne. absurd (true≢false (sym (excused_by i k m t ne) ∙ e))))))
      by false c false e =
          sym (few_true 0 i (none_count (excusing i) (excusing_words i) (λ m. not_true_false _ (λ t.
          by_test (eqb m k)
          (λ q.
          let h = (and_true (is_rival job i m) _ (sym (excusing_has i m (member_below i m t)) ∙ t)).1 in
          true≢false (sym h ∙ (ap (is_certified s signers) (eqb-true m k q) ∙ c)))
          (λ ne. true≢false (sym (excused_by i k m t ne) ∙ e))))))

  -- ---- partners
  rival_sym : (i k : ℕ) → is_rival job i k ≡ true → is_rival job k i ≡ true
  rival_sym i k r = (reflect_rival job k i).complete (rivals_sym job i k ((reflect_rival job i k).sound r))

  abbrev none : JobSet
  none = jobs_with_few certified job booked 0

  abbrev one : JobSet
  one = jobs_with_few certified job booked 1

  few_has : (most i : ℕ) → i < booked → job_has (jobs_with_few certified job booked most) i ≡ Few most i
  unfolding jobs_with_few
  few_has most i l = below (has_few certified job booked most) i l

  -- as tests: z and o say that i has no, or at most one, certified rival, c that k is certified, y that k has none but i
  tests : (r z o c y : Bool) → (z ≡ true → o ≡ true) → cond z (r && y) (cond o ((r && y) && c) false) ≡ (r && (cond c o z && y))
  tests false true o c y h = refl
  tests false false true c y h = refl
  tests false false false c y h = refl
  tests true true o true y h = rw (h refl) refl
  tests true true o false y h = refl
  tests true false true true true h = refl
  tests true false true true false h = refl
  tests true false true false true h = refl
  tests true false true false false h = refl
  tests true false false true y h = refl
  tests true false false false y h = refl

  unexcused_is : (i k : ℕ) → i < booked → k < booked → is_unexcused s signers job booked i k
      ≡ (is_rival job i k && (cond (is_certified s signers k) (Few 1 i) (Few 0 i) && cond (is_certified s signers i) (Few 1 k) (Few 0 k)))
  unfolding is_unexcused
  unexcused_is i k li lk = by_cases (λ b. is_rival job i k ≡ b → (b && (not (is_excused s signers job booked i k) && not (is_excused s signers job booked k i)))
      ≡ (b && (cond (is_certified s signers k) (Few 1 i) (Few 0 i) && cond (is_certified s signers i) (Few 1 k) (Few 0 k)))) (is_rival job i k)
      (λ _ r. ap₂ ◌&&◌ (lone i k lk r) (lone k i li (rival_sym i k r))) (λ _ r. refl) refl

  near_has : (i k : ℕ) → i < booked → k < booked → job_has (cond (job_has certified i) one none) k ≡ cond (is_certified s signers i) (Few 1 k) (Few 0 k)
  near_has i k li lk =
      rw (certified_has i li)
      (by_cases (λ b. job_has (cond b one none) k ≡ cond b (Few 1 k) (Few 0 k)) (is_certified s signers i) (λ _. few_has 1 k lk) (λ _. few_has 0 k lk))

  partners_has : (i k : ℕ) → i < booked → k < booked
      → job_has (partners_by (rivals_of job booked i) certified none one i) k ≡ is_unexcused s signers job booked i k
  unfolding partners_by
  partners_has i k li lk =
      let near = cond (job_has certified i) one none in
      let found = jobs_common (rivals_of job booked i) near in
      let f : job_has found k ≡ (is_rival job i k && cond (is_certified s signers i) (Few 1 k) (Few 0 k)) =
      jobs_common_has (rivals_of job booked i) near k ∙ ap₂ ◌&&◌ (rivals_has i k lk) (near_has i k li lk) in
      split (job_has none i) (job_has one i) found k
      ∙ (rw (few_has 0 i li, few_has 1 i li, f, certified_has k lk)
      (tests (is_rival job i k) (Few 0 i) (Few 1 i) (is_certified s signers k) (cond (is_certified s signers i) (Few 1 k) (Few 0 k)) (few_more i))
      ∙ sym (unexcused_is i k li lk))
    where
      split : (z o : Bool) (found : JobSet) (k : ℕ)
          → job_has (cond z found (cond o (jobs_common found certified) no_jobs)) k ≡ cond z (job_has found k) (cond o (job_has found k && job_has certified k) false)
      split true o found k = refl
      split false true found k = jobs_common_has found certified k
      split false false found k = has_no_jobs k

  -- partners are rivals, so they are booked
  partners_within : (rivals c n o : JobSet) (i k : ℕ) → job_has (partners_by rivals c n o i) k ≡ true → job_has rivals k ≡ true
  unfolding partners_by
  partners_within rivals c n o i k = let near = cond (job_has c i) o n in by near (job_has n i) (job_has o i)
    where
      by : (near : JobSet) (z y : Bool) → job_has (cond z (jobs_common rivals near) (cond y (jobs_common (jobs_common rivals near) c) no_jobs)) k ≡ true
          → job_has rivals k ≡ true
      by near true y t = (and_true (job_has rivals k) _ (sym (jobs_common_has rivals near k) ∙ t)).0
      by near false true t =
          let f = (and_true (job_has (jobs_common rivals near) k) _ (sym (jobs_common_has (jobs_common rivals near) c k) ∙ t)).0 in
          (and_true (job_has rivals k) _ (sym (jobs_common_has rivals near k) ∙ f)).0
      by near false false t = absurd (true≢false (sym t ∙ has_no_jobs k))

  partners_words : (rivals c n o : JobSet) (i : ℕ) → InWords c → InWords n → InWords o → InWords (partners_by rivals c n o i)
  unfolding partners_by
  partners_words rivals c n o i wc wn wo =
      by (cond (job_has c i) o n) (by_cases (λ b. InWords (cond b o n)) (job_has c i) (λ _. wo) (λ _. wn)) (job_has n i) (job_has o i)
    where
      by : (near : JobSet) → InWords near → (z y : Bool) → InWords (cond z (jobs_common rivals near) (cond y (jobs_common (jobs_common rivals near) c) no_jobs))
      by near w true y = common_words rivals near w
      by near w false true = common_words (jobs_common rivals near) c wc
      by near w false false = no_jobs_words

  few_words : (most : ℕ) → InWords (jobs_with_few certified job booked most)
  unfolding jobs_with_few
  few_words most = jobs_below_words booked _

  -- the jobs with which i makes an unexcused pair
  abbrev partners_of : ℕ → JobSet
  partners_of i = jobs_below booked (is_unexcused s signers job booked i)

  partners_are : (i : ℕ) → i < booked → partners_by (rivals_of job booked i) certified none one i ≡ partners_of i
  unfolding rivals_of
  partners_are i li =
      let words = partners_words (rivals_of job booked i) certified none one i certified_words (few_words 0) (few_words 1) in
      jobs_same _ _ words (jobs_below_words booked _) (λ k l.
      by_test (ltb k booked)
      (λ e. let lk = ltb-true k booked e in partners_has i k li lk ∙ sym (below (is_unexcused s signers job booked i) k lk))
      (λ e.
      not_true_false _ (λ t.
      let r = partners_within (rivals_of job booked i) certified none one i k t in
      true≢false (sym (and_true (ltb k booked) _ (sym (has_jobs_below booked (is_rival job i) k l) ∙ r)).0 ∙ e))
      ∙ sym (has_jobs_below booked (is_unexcused s signers job booked i) k l ∙ simp e)))

  -- ---- vaults
  among_has : (jobs : JobSet) (n v : ℕ) → has_bit (signers_among signers jobs n) v ≡ any_below n (λ k. job_has jobs k && has_bit (signers k) v)
  unfolding signers_among any_below
  among_has jobs zero v = has_none v
  among_has jobs (suc n) v =
      let rest = among_has jobs n v in
      by_cases (λ b. has_bit (cond b (bit_or (signers n) (signers_among signers jobs n)) (signers_among signers jobs n)) v
      ≡ ((b && has_bit (signers n) v) || any_below n (λ k. job_has jobs k && has_bit (signers k) v))) (job_has jobs n)
      (λ _. has_union (signers n) (signers_among signers jobs n) v ∙ ap (λ (b : Bool). has_bit (signers n) v || b) rest) (λ _. rest)

  abbrev pairs : ℕ → ℕ
  pairs n = signed_pairs signers job booked certified none one n

  pairs_has : (n v : ℕ) → n ≤ booked → has_bit (pairs n) v ≡ any_below n (λ i. has_bit (signers i) v && has_bit (signers_among signers (partners_of i) booked) v)
  unfolding signed_pairs any_below
  pairs_has zero v l = has_none v
  pairs_has (suc n) v l =
      let others = signers_among signers (partners_by (rivals_of job booked n) certified none one n) booked in
      has_union (bit_and (signers n) others) (pairs n) v
      ∙ ap₂ ◌||◌
      (has_common (signers n) others v
      ∙ ap (λ (jobs : JobSet). has_bit (signers n) v && has_bit (signers_among signers jobs booked) v) (partners_are n (omega arith)))
      (pairs_has n v (omega arith))

  swapped : (a b : Bool) → (a && b) ≡ (b && a)
  swapped true true = refl
  swapped true false = refl
  swapped false true = refl
  swapped false false = refl

  -- the vaults that signed i and a partner of it
  with_partner : (v i : ℕ) → (has_bit (signers i) v && has_bit (signers_among signers (partners_of i) booked) v)
      ≡ any_below booked (signed_both s signers job booked v i)
  unfolding signed_both
  with_partner v i =
      ap (λ (b : Bool). has_bit (signers i) v && b)
      (among_has (partners_of i) booked v
      ∙ any_same _ (λ k. has_bit (signers k) v && is_unexcused s signers job booked i k) booked (λ k l.
      ap (λ (b : Bool). b && has_bit (signers k) v) (below (is_unexcused s signers job booked i) k l)
      ∙ swapped (is_unexcused s signers job booked i k) (has_bit (signers k) v)))
      ∙ sym (any_and (has_bit (signers i) v) (λ k. has_bit (signers k) v && is_unexcused s signers job booked i k) booked)

  equivocators_are : jobs_below s.n (has_bit (pairs booked)) ≡ equivocators s signers job booked
  unfolding equivocators is_equivocating
  equivocators_are = jobs_below_same _ _ s.n (λ v l. pairs_has booked v (omega arith) ∙ any_same _ _ booked (λ i m. with_partner v i))

  -- found one after another
  pub equivocators_found : (c n o : JobSet) (all : ℕ) (r : JobSet) → c ≡ certified_jobs s signers booked → n ≡ jobs_with_few c job booked 0
      → o ≡ jobs_with_few c job booked 1 → all ≡ signed_pairs signers job booked c n o booked → r ≡ jobs_below s.n (has_bit all)
      → r ≡ equivocators s signers job booked
  equivocators_found c n o all r ec en eo ea er = er ∙ rw (ea, en, eo, ec) equivocators_are

-- ---- of a ledger
recorded_signers : (l : Ledger) → recorded_in l.votes ≡ signers_of l
unfolding recorded_in votes_in
recorded_signers l = refl

pub listed_by_lem : (l : Ledger) (job : ℕ → Job) (found : JobSet) (r : Listing) → found ≡ equivocators l.settings (recorded_in l.votes) job l.booked
    → r ≡ listing found → r ≡ listing (equivocators l.settings (signers_of l) job l.booked)
listed_by_lem l job found r e h =
    h ∙ ap listing (e ∙ ap (λ (f : ℕ → ℕ). equivocators l.settings f job l.booked) (recorded_signers l))
