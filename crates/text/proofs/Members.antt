-- The members of a set from one to the next: the first, and those of the set without it. The first member is the first bit of the low word,
-- or of the high one.
use mathlib.Core.Bool.{Bool, cond, false, not, true, true≢false}
use mathlib.Core.List.{List, [], ◌++◌, ◌∷◌, append_assoc, append-nil}
use mathlib.Core.Logic.{◌≢◌, inl, inr}
use mathlib.Core.Path.{◌∙◌, ◌≡◌, ap, refl, subst, sym}
use Prim.Native.Nat.{◌%◌, ◌*◌, ◌+◌, ◌-◌, ◌/◌, ◌<◌, ◌≤◌, suc, zero, ℕ}
use native.Mathlib.Omega.{arith}
use lib.Count.{ones-le, count_trailing_zeros, under}
use lib.Dec.{eqb, ltb}
use lib.ListN.{length}
use borrow.Author.Tests.{eq-eqb, eqb-false, eqb-true, ltb-false, ltb-true, ne_eqb}
use Rattle.base.proofs.Reflect.{by_cases, by_test, not_true_false}
use Rattle.base.proofs.Search.{any_intro, any_none, any_start, first_any, first_is, first_least, first_none, least_first, none_any}
use Rattle.base.specs.Lists.{In}
use Rattle.base.specs.Search.{Least, any_below, first_below, sum_from}
use Rattle.outcome.specs.Figures.{Outcome}
use Rattle.sets.proofs.Bits.{bit_zero, has_none, has_suc, reflect_some}
use Rattle.job_sets.proofs.Jobs.{has_no_jobs, in_high, in_low, job_below, job_count_counts, job_count_with, job_with_other, job_with_same}
use Rattle.job_sets.proofs.Jobs.{job_without_other, job_without_same, jobs_same, with_words, without_words}
use Rattle.sets.specs.Bits.{bit, has_bit}
use Rattle.job_sets.specs.Jobs.{InWords, job_count, job_has, job_with, job_without, no_jobs}
use Rattle.job_sets.specs.declared.job_set.JobSet.{JobSet}
use Rattle.digits.proofs.Writing.{then}
use Rattle.digits.specs.Digits.{Put}
use Rattle.text.specs.Text.{AscendFrom, Lists, line_for, lines_of, longest_lines, members_from, members_of, number_line, text_for}

-- ---- the first bit

-- the first that passes, of those from 1 on
first_suc : (k : ℕ) (p q : ℕ → Bool) → p 0 ≡ false → ((i : ℕ) → p (suc i) ≡ q i) → first_below (suc k) p ≡ suc (first_below k q)
first_suc k p q z s = by_test (any_below k q) some none
  where
    some : any_below k q ≡ true → first_below (suc k) p ≡ suc (first_below k q)
    some e =
        let l = first_least q k (first_any q k e) in
        least_first p (suc k) (suc (first_below k q)) (record {
          below = omega (arith, l.below);
          has = s (first_below k q) ∙ l.has;
          none_before = λ m. before l m;
        })
      where
        before : Least k (λ i. q i ≡ true) (first_below k q) → (m : ℕ) → m < suc (first_below k q) → p m ≡ true → ⊥
        before l zero h t = true≢false (sym t ∙ z)
        before l (suc m) h t = l.none_before m (omega arith) (sym (s m) ∙ t)

    none : any_below k q ≡ false → first_below (suc k) p ≡ suc (first_below k q)
    none e = first_none p (suc k) (none_any p (suc k) never) ∙ ap suc (sym (first_none q k e))
      where
        never : (i : ℕ) → i < suc k → p i ≡ false
        never zero h = z
        never (suc i) h = s i ∙ any_none q k e i (omega arith)

low_bit : (n : ℕ) → n % 2 ≡ 0 → has_bit n 0 ≡ false
unfolding has_bit
low_bit n e = ne_eqb (bit n 0) 1 (λ q. omega (arith, bit_zero n, q))

low_set : (n : ℕ) (d : ℕ) → n % 2 ≡ suc d → has_bit n 0 ≡ true
unfolding has_bit
low_set n d e = eq-eqb (bit n 0) 1 (omega (arith, bit_zero n))

pub trailing_first : (k n : ℕ) → count_trailing_zeros k n ≡ first_below k (has_bit n)
unfolding count_trailing_zeros first_below
trailing_first zero n = refl
trailing_first (suc k) n = by (n % 2) refl (trailing_first k (n / 2))
  where
    by : (d : ℕ) → n % 2 ≡ d → count_trailing_zeros k (n / 2) ≡ first_below k (has_bit (n / 2))
        → under d (count_trailing_zeros k (n / 2)) ≡ first_below (suc k) (has_bit n)
    by zero e r = ap suc r ∙ sym (first_suc k (has_bit n) (has_bit (n / 2)) (low_bit n e) (has_suc n))
    by (suc d) e r = sym (first_is (has_bit n) (suc k) 0 (omega arith) (any_start (has_bit n)) (low_set n d e))

-- ---- the first member
module _ (s : JobSet) where
  pub first_low : InWords s → s.low ≢ 0 → count_trailing_zeros 64 s.low ≡ first_below 128 (job_has s)
  first_low w ne =
      let m = (reflect_some 64 s.low w.low_fits).sound (ap not (ne_eqb s.low 0 ne)) in
      let l = first_least (has_bit s.low) 64 (first_any (has_bit s.low) 64 (any_intro (has_bit s.low) 64 m.which m.below m.has)) in
      trailing_first 64 s.low
      ∙ sym (least_first (job_has s) 128 (first_below 64 (has_bit s.low)) (record {
        below = omega (arith, l.below);
        has = in_low s _ l.below ∙ l.has;
        none_before = λ i h t. l.none_before i h (sym (in_low s i (omega (arith, l.below))) ∙ t);
      }))

  pub first_high : s.low ≡ 0 → 64 + count_trailing_zeros 64 s.high ≡ first_below 128 (job_has s)
  first_high z = ap (λ (x : ℕ). 64 + x) (trailing_first 64 s.high) ∙ sym (by_test (any_below 64 (has_bit s.high)) some none)
    where
      not_low : (i : ℕ) → i < 64 → job_has s i ≡ false
      not_low i h = in_low s i h ∙ (ap (λ (x : ℕ). has_bit x i) z ∙ has_none i)

      at_high : (i : ℕ) → 64 ≤ i → i < 128 → job_has s i ≡ has_bit s.high (i - 64)
      at_high i a b = let q : 64 + (i - 64) ≡ i = omega arith in ap (job_has s) (sym q) ∙ in_high s (i - 64) (omega arith)

      some : any_below 64 (has_bit s.high) ≡ true → first_below 128 (job_has s) ≡ 64 + first_below 64 (has_bit s.high)
      some e =
          let l = first_least (has_bit s.high) 64 (first_any (has_bit s.high) 64 e) in
          least_first (job_has s) 128 (64 + first_below 64 (has_bit s.high)) (record {
            below = omega (arith, l.below);
            has = in_high s _ l.below ∙ l.has;
            none_before = λ i h t. by_test (ltb i 64)
                (λ a. true≢false (sym t ∙ not_low i (ltb-true i 64 a)))
                (λ a.
                let g = ltb-false i 64 a in
                l.none_before (i - 64) (omega (arith, h, g)) (sym (at_high i g (omega (arith, h, l.below))) ∙ t));
          })

      none : any_below 64 (has_bit s.high) ≡ false → first_below 128 (job_has s) ≡ 64 + first_below 64 (has_bit s.high)
      none e =
          first_none (job_has s) 128 (none_any (job_has s) 128 (λ i h. by_test (ltb i 64) (λ a. not_low i (ltb-true i 64 a))
          (λ a. let g = ltb-false i 64 a in at_high i g h ∙ any_none (has_bit s.high) 64 e (i - 64) (omega (arith, g, h)))))
          ∙ ap (λ (x : ℕ). 64 + x) (sym (first_none (has_bit s.high) 64 e))

  -- where it is past the last job there is none
  pub no_member : (r : ℕ) → r ≡ first_below 128 (job_has s) → 128 ≤ r → (m : ℕ) → job_has s m ≡ false
  no_member r e h m = not_true_false _ (λ t.
      let a = first_any (job_has s) 128 (any_intro (job_has s) 128 m (job_below s m t) t) in omega (arith, a, e, h))

-- ---- the members, ascending
members_same : (n i : ℕ) (a b : JobSet) → ((m : ℕ) → i ≤ m → job_has a m ≡ job_has b m) → members_from a i n ≡ members_from b i n
unfolding members_from
members_same zero i a b h = refl
members_same (suc n) i a b h =
    rw (h i (omega arith)) (ap (λ (t : List ℕ). cond (job_has b i) (i ∷ t) t) (members_same n (suc i) a b (λ m l. h m (omega arith))))

members_none : (n i : ℕ) (s : JobSet) → ((m : ℕ) → job_has s m ≡ false) → members_from s i n ≡ []
unfolding members_from
members_none zero i s h = refl
members_none (suc n) i s h = rw (h i) (members_none n (suc i) s h)

members_first : (n i : ℕ) (s : JobSet) (k : ℕ) → i ≤ k → k < i + n → job_has s k ≡ true → ((m : ℕ) → m < k → job_has s m ≡ true → ⊥)
    → members_from s i n ≡ k ∷ members_from (job_without s k) i n
unfolding members_from
members_first zero i s k l h t f = absurd (omega arith)
members_first (suc n) i s k l h t f = by_test (eqb i k) here (later (members_first n (suc i) s k))
  where
    here : eqb i k ≡ true → members_from s i (suc n) ≡ k ∷ members_from (job_without s k) i (suc n)
    here e =
        let q : i ≡ k = eqb-true i k e in
        rw (q, t, job_without_same s k)
        (ap (λ (x : List ℕ). k ∷ x) (members_same n (suc k) s (job_without s k)
        (λ m g. let ne : m ≢ k = λ z. omega (arith, z, g) in sym (job_without_other s k m ne))))

    later : (suc i ≤ k → k < suc i + n → job_has s k ≡ true → ((m : ℕ) → m < k → job_has s m ≡ true → ⊥)
        → members_from s (suc i) n ≡ k ∷ members_from (job_without s k) (suc i) n) → eqb i k ≡ false
        → members_from s i (suc n) ≡ k ∷ members_from (job_without s k) i (suc n)
    later r e =
        let ne = eqb-false i k e in
        let past : i < k = omega (arith, ne) in
        let absent : job_has s i ≡ false = not_true_false _ (f i past) in
        rw (absent, job_without_other s k i ne ∙ absent) (r (omega arith) (omega arith) t f)

-- a set without a member has one less
count_without : (s : JobSet) (k : ℕ) → InWords s → job_has s k ≡ true → job_count s ≡ suc (job_count (job_without s k))
count_without s k w t =
    let back : job_with (job_without s k) k ≡ s =
    jobs_same _ _ (with_words _ k (without_words s k w)) w
    (λ i l. by_test (eqb i k)
    (λ e. rw (eqb-true i k e) (job_with_same (job_without s k) k (job_below s k t) ∙ sym t))
    (λ e. job_with_other (job_without s k) k i (eqb-false i k e) ∙ job_without_other s k i (eqb-false i k e))) in
    ap job_count (sym back) ∙ job_count_with (job_without s k) k (job_below s k t) (job_without_same s k)

-- ---- written one after another: what is done, and the lines of the rest
pub record Listed (out : List ℕ) (at : ℕ) (all : JobSet) (out' : List ℕ) (end : ℕ) (rest : JobSet) : Type 0 where
  pub done : List ℕ
  pub put : Put out at done out' end
  pub left : done ++ lines_of (members_of rest) ≡ lines_of (members_of all)
  pub words : InWords rest
  pub short : end + 5 * job_count rest ≤ at + longest_lines

pub listed_start : (out : List ℕ) (at : ℕ) (all : JobSet) → InWords all → Listed out at all out at all
unfolding job_count
listed_start out at all w = record {
  done = [];
  put = record { moved = omega arith; wrote = refl };
  left = refl;
  words = w;
  short = omega (arith, ones-le 64 all.low w.low_fits, ones-le 64 all.high w.high_fits);
}

module _ {out : List ℕ} {at : ℕ} {all : JobSet} {mid : List ℕ} {end : ℕ} {rest : JobSet} (t : Listed out at all mid end rest) (k : ℕ)
    (is : k ≡ first_below 128 (job_has rest)) where
  -- there is room for one more, as each member has at most five bytes
  pub listed_room : k < 128 → end + 5 ≤ at + longest_lines
  listed_room h =
      let l = first_least (job_has rest) 128 (omega (arith, is, h)) in
      let has : job_has rest k ≡ true = rw is l.has in
      omega (arith, t.short, count_without rest k t.words has)

  pub listed_more : k < 128 → {mid' : List ℕ} {end' : ℕ} {rest' : JobSet} → Put mid end (number_line k) mid' end' → end' ≤ end + 5
      → rest' ≡ job_without rest k → Listed out at all mid' end' rest'
  listed_more h {mid'} {end'} {rest'} p e q =
      let l = first_least (job_has rest) 128 (omega (arith, is, h)) in
      let has : job_has rest k ≡ true = rw is l.has in
      let first : lines_of (members_of rest) ≡ number_line k ++ lines_of (members_of (job_without rest k)) =
      ap lines_of (members_first 128 0 rest k (omega arith) (omega arith) has (λ m g z. l.none_before m (omega (arith, is, g)) z)) in
      let count = count_without rest k t.words has in
      rw q (record {
        done = t.done ++ number_line k;
        put = then t.put p;
        left = append_assoc t.done (number_line k) _ ∙ (ap (λ (x : List ℕ). t.done ++ x) (sym first) ∙ t.left);
        words = without_words rest k t.words;
        short = omega (arith, count, t.short, e);
      })

  -- one member fewer is left
  pub listed_less : k < 128 → {rest' : JobSet} → rest' ≡ job_without rest k → job_count rest' < job_count rest
  listed_less h {rest'} q =
      let l = first_least (job_has rest) 128 (omega (arith, is, h)) in
      let has : job_has rest k ≡ true = rw is l.has in
      rw q (omega (arith, count_without rest k t.words has))

  pub listed_end : 128 ≤ k → Put out at (lines_of (members_of all)) mid end × (end ≤ at + longest_lines)
  listed_end h =
      let none : lines_of (members_of rest) ≡ [] = ap lines_of (members_none 128 0 rest (no_member rest k is h)) in
      let whole : t.done ≡ lines_of (members_of all) = sym (append-nil t.done) ∙ (ap (λ (x : List ℕ). t.done ++ x) (sym none) ∙ t.left) in
      (subst (λ (x : List ℕ). Put out at x mid end) whole t.put, omega (arith, t.short))

-- a step that lists nothing
pub nothing_listed : (step : ℕ) (o : Outcome) → text_for step o no_jobs ≡ line_for step o
nothing_listed step o = ap (λ (ms : List ℕ). line_for step o ++ lines_of ms) (members_none 128 0 no_jobs has_no_jobs) ∙ append-nil (line_for step o)

-- ---- what the list is
ascend_sooner : (i : ℕ) (ks : List ℕ) → AscendFrom (suc i) ks → AscendFrom i ks
ascend_sooner i [] a = tt
ascend_sooner i (k ∷ ks) a = (omega (arith, a.0), a.1)

members_ascend : (n i : ℕ) (s : JobSet) → AscendFrom i (members_from s i n)
unfolding members_from
members_ascend zero i s = tt
members_ascend (suc n) i s =
    let rest = members_ascend n (suc i) s in
    by_cases (λ b. AscendFrom i (cond b (i ∷ members_from s (suc i) n) (members_from s (suc i) n))) (job_has s i)
    (λ e. (omega arith, rest)) (λ e. ascend_sooner i (members_from s (suc i) n) rest)

-- each of them is a member, and stands at i or later
members_are : (n i : ℕ) (s : JobSet) (k : ℕ) → In k (members_from s i n) → job_has s k ≡ true
unfolding members_from
members_are zero i s k m = absurd m
members_are (suc n) i s k m = by (members_are n (suc i) s k) (job_has s i) refl m
  where
    by : (In k (members_from s (suc i) n) → job_has s k ≡ true) → (b : Bool) → job_has s i ≡ b
        → In k (cond b (i ∷ members_from s (suc i) n) (members_from s (suc i) n)) → job_has s k ≡ true
    by r true e (inl q) = ap (job_has s) q ∙ e
    by r true e (inr q) = r q
    by r false e q = r q

members_in : (n i : ℕ) (s : JobSet) (k : ℕ) → i ≤ k → k < i + n → job_has s k ≡ true → In k (members_from s i n)
unfolding members_from
members_in zero i s k l h t = absurd (omega arith)
members_in (suc n) i s k l h t = by_test (eqb i k) here (later (members_in n (suc i) s k))
  where
    here : eqb i k ≡ true → In k (members_from s i (suc n))
    here e = let q : i ≡ k = eqb-true i k e in rw (q, t) (inl refl)

    later : (suc i ≤ k → k < suc i + n → job_has s k ≡ true → In k (members_from s (suc i) n)) → eqb i k ≡ false → In k (members_from s i (suc n))
    later r e =
        let rest = r (omega (arith, eqb-false i k e)) (omega arith) t in
        by_cases (λ b. In k (cond b (i ∷ members_from s (suc i) n) (members_from s (suc i) n))) (job_has s i) (λ _. inr rest) (λ _. rest)

members_count : (n i : ℕ) (s : JobSet) → length (members_from s i n) ≡ sum_from (λ k. cond (job_has s k) 1 0) i n
unfolding members_from sum_from
members_count zero i s = refl
members_count (suc n) i s =
    by_cases (λ b. length (cond b (i ∷ members_from s (suc i) n) (members_from s (suc i) n)) ≡ cond b 1 0 + sum_from (λ k. cond (job_has s k) 1 0) (suc i) n)
    (job_has s i) (λ _. ap suc (members_count n (suc i) s) ∙ omega arith) (λ _. members_count n (suc i) s ∙ omega arith)

pub members_list : (s : JobSet) → InWords s → Lists s (members_of s)
members_list s w = record {
  ascending = members_ascend 128 0 s;
  members = λ k. (members_are 128 0 s k, λ t. members_in 128 0 s k (omega arith) (omega (arith, job_below s k t)) t);
  size = members_count 128 0 s ∙ sym (job_count_counts s w);
}
