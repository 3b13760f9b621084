-- The walk along a chain from the last to the first finds the first that passes; and a filed record keeps the chains.
use mathlib.Core.Bool.{Bool, ◌||◌, cond, false, true, true≢false}
use mathlib.Core.List.{List}
use mathlib.Core.Logic.{◌≢◌, ⊎_elim}
use mathlib.Core.Path.{◌∙◌, ◌≡◌, ap, refl, sym}
use Prim.Native.Nat.{◌%◌, ◌*◌, ◌+◌, ◌-◌, ◌<◌, ◌≤◌, suc, zero, ℕ}
use native.Mathlib.Nat.{mod-lt, not-suc-le-zero}
use native.Mathlib.Numerals.{add-one}
use native.Mathlib.Omega.{arith}
use lib.Dec.{eqb}
use lib.ListN.{get_or, get_or-replicate, length, length-replicate, length-set, replicate, set}
use lib.Seq.{get_or-set_other, get_or-set_same}
use borrow.Author.Tests.{eq-eqb, eqb-false, eqb-true, ne_eqb}
use Rattle.base.proofs.Lists.{reflect_same}
use Rattle.base.proofs.Reflect.{by_cases, by_test, not_true_false}
use Rattle.base.proofs.Search.{first_none, last_or_below}
use Rattle.base.specs.Search.{any_below, first_below}
use Rattle.codec.specs.Codec.{job_of}
use Rattle.record.specs.Entries.{frames_of, label_of}
use Rattle.record.specs.declared.Job.{Job}
use Rattle.journal.specs.Journal.{capacity, equal_at, slot_at}
use Rattle.index.proofs.Chains.{last_has, last_le, last_no, last_skip, last_yes}
use Rattle.index.specs.Chains.{last_below}
use Rattle.index.specs.Places.{bucket_of, buckets, slot_job}
use Rattle.index.specs.Records.{Filed, in_sum, records_size, records_with, sum_of, sum_to}

-- ---- the sum
pub sum_next : (a : Job) (e before b f : ℕ) → before ≡ sum_to e a → b ≡ bucket_of (label_of a e) → f ≡ frames_of a e
    → (31 * before + b + f) % buckets ≡ sum_to (e + 1) a
unfolding sum_to
sum_next a e before b f q v u = rw (add-one e, q, v, u)

sum_below : (a : Job) → sum_of a < buckets
unfolding sum_to
sum_below a = mod-lt _ (omega arith)

-- ---- the first below x that passes, or else d
unfoldable pub first_or : (ℕ → Bool) → ℕ → ℕ → ℕ
first_or q x d = cond (any_below x q) (first_below x q) d

module _ (q : ℕ → Bool) where
  or_no : (y d : ℕ) → q y ≡ false → first_or q (suc y) d ≡ first_or q y d
  unfolding first_or any_below first_below
  or_no y d h =
      by_cases (λ t. cond (q y || t) (cond t (first_below y q) (cond (q y) y (suc y))) d ≡ cond t (first_below y q) d) (any_below y q) (λ _. simp h) (λ _. simp h)

  or_yes : (y d : ℕ) → q y ≡ true → first_or q (suc y) d ≡ first_or q y y
  unfolding first_or any_below first_below
  or_yes y d h = simp h

  or_end : (d : ℕ) → first_or q 0 d ≡ d
  unfolding first_or any_below
  or_end d = refl

  or_all : (n : ℕ) → first_or q n n ≡ first_below n q
  unfolding first_or
  or_all n = by_cases (λ t. cond t (first_below n q) n ≡ first_below n q) (any_below n q) (λ _. refl) (λ e. sym (first_none q n e))

or_skip : (p q : ℕ → Bool) → ((i : ℕ) → q i ≡ true → p i ≡ true) → (n d : ℕ) → first_or q (last_below n p) d ≡ first_or q n d
unfolding last_below
or_skip p q h zero d = refl
or_skip p q h (suc n) d =
    by_cases (λ t. first_or q (cond t (suc n) (last_below n p)) d ≡ first_or q (suc n) d) (p n)
    (λ _. refl) (λ e. or_skip p q h n d ∙ sym (or_no q n d (not_true_false (q n) (λ t. true≢false (sym (h n t) ∙ e)))))

-- ---- the walk: x is one more than a place of the chain, or 0, and d is the first found from there on
pub record Hunt (p q : ℕ → Bool) (n x d : ℕ) : Type 0 where
  pub below : x ≤ n
  pub on : last_below x p ≡ x
  pub left : first_or q x d ≡ first_below n q

module _ (p q : ℕ → Bool) (sub : (i : ℕ) → q i ≡ true → p i ≡ true) (n : ℕ) where
  hunt_start : (x : ℕ) → x ≡ last_below n p → Hunt p q n x n
  hunt_start x e = rw e (record { below = last_le p n; on = last_skip p p (λ i h. h) n; left = or_skip p q sub n n ∙ or_all q n })

  hunt_next : (y d x f : ℕ) → Hunt p q n (suc y) d → x ≡ last_below y p → f ≡ cond (q y) y d → Hunt p q n x f
  hunt_next y d x f w e ef =
      rw (e, ef) (record {
        below = omega (arith, last_le p y, w.below);
        on = last_skip p p (λ i h. h) y;
        left = or_skip p q sub y _ ∙ near ∙ w.left;
      })
    where
      near : first_or q y (cond (q y) y d) ≡ first_or q (suc y) d
      near = by_cases (λ t. first_or q y (cond t y d) ≡ first_or q (suc y) d) (q y) (λ h. sym (or_yes q y d h)) (λ h. sym (or_no q y d h))

-- ---- the records of a journal
equal_sum : (version : ℕ) (journal bytes : List ℕ) (k : ℕ) → equal_at version journal bytes k ≡ true → in_sum (slot_job version journal)
    (sum_of (job_of bytes)) k ≡ true
unfolding equal_at in_sum slot_job
equal_sum version journal bytes k h =
    let e = (reflect_same (slot_at version journal k) bytes).sound h in
    eq-eqb _ _ (ap (λ (s : List ℕ). sum_of (job_of s)) e)

abbrev pub Seeking : ℕ → List ℕ → List ℕ → ℕ → ℕ → ℕ → Type 0
Seeking version journal bytes n x d = Hunt (in_sum (slot_job version journal) (sum_of (job_of bytes))) (equal_at version journal bytes) n x d

module _ (version : ℕ) (journal bytes records : List ℕ) (n : ℕ) (t : Filed (slot_job version journal) n records) where
  abbrev chain : ℕ → Bool
  chain = in_sum (slot_job version journal) (sum_of (job_of bytes))

  pub find_start : (a : Job) (b x : ℕ) → a ≡ job_of bytes → (b ≡ sum_of a) × (b < buckets) → x ≡ get_or records b 0 → Seeking version journal bytes n x n
  find_start a b x ea e h =
      hunt_start chain (equal_at version journal bytes) (equal_sum version journal bytes) n x
      (h ∙ t.headed b e.1 ∙ ap (λ (c : ℕ). last_below n (in_sum (slot_job version journal) c)) (e.0 ∙ ap sum_of ea))

  module _ (x d : ℕ) (some : 0 < x) (w : Seeking version journal bytes n x d) where
    turn : x ≡ suc (x - 1)
    turn = omega arith

    at : Seeking version journal bytes n (suc (x - 1)) d
    at = rw (sym turn) w

    own : sum_of (slot_job version journal (x - 1)) ≡ sum_of (job_of bytes)
    unfolding in_sum
    own = eqb-true _ _ (last_has chain (suc (x - 1)) (x - 1) at.on)

    link : get_or records (buckets + (x - 1)) 0 ≡ last_below (x - 1) chain
    link = t.linked (x - 1) (omega (arith, w.below)) ∙ ap (λ (c : ℕ). last_below (x - 1) (in_sum (slot_job version journal) c)) own

    pub find_less : (y : ℕ) → y ≡ get_or records (buckets + (x - 1)) 0 → y < x
    find_less y e = omega (arith, e, link, last_le chain (x - 1))

    pub find_next : (y f : ℕ) → y ≡ get_or records (buckets + (x - 1)) 0 → f ≡ cond (equal_at version journal bytes (x - 1)) (x - 1) d
        → Seeking version journal bytes n y f
    find_next y f e g = hunt_next chain (equal_at version journal bytes) (equal_sum version journal bytes) n (x - 1) d y f at (e ∙ link) g

  pub find_end : (x d : ℕ) → x ≤ 0 → Seeking version journal bytes n x d → d ≡ first_below n (equal_at version journal bytes)
  find_end x d l w =
      let z : x ≡ 0 = omega arith in
      sym (or_end (equal_at version journal bytes) d) ∙ (rw z at w).left

-- ---- one record more
module _ (job : ℕ → Job) (n : ℕ) (records : List ℕ) (t : Filed job n records) (few : n < capacity) (a : Job) (ea : a ≡ job n) where
  abbrev b : ℕ
  b = sum_of a

  abbrev one : List ℕ
  one = set records (buckets + n) (get_or records b 0)

  size_one : length one ≡ records_size
  size_one = length-set records _ _ ∙ t.size

  with_head : get_or (records_with records b n) b 0 ≡ suc n
  unfolding records_with
  with_head = get_or-set_same one b (suc n) 0 (omega (arith, size_one, sum_below a))

  with_link : get_or (records_with records b n) (buckets + n) 0 ≡ get_or records b 0
  unfolding records_with
  with_link =
      get_or-set_other one b (buckets + n) (suc n) 0 (λ e. omega (arith, e, sum_below a))
      ∙ get_or-set_same records (buckets + n) _ 0 (omega (arith, t.size))

  with_other : (i : ℕ) → i ≢ b → i ≢ buckets + n → get_or (records_with records b n) i 0 ≡ get_or records i 0
  unfolding records_with
  with_other i x y = get_or-set_other one b i (suc n) 0 x ∙ get_or-set_other records (buckets + n) i _ 0 y

  pub filed_next : Filed job (suc n) (records_with records b n)
  unfolding records_with in_sum
  filed_next = record {
    size = length-set one _ _ ∙ size_one;
    linked = λ k l. ⊎_elim
        (λ (e : k ≡ n). rw e (with_link ∙ t.headed b (sum_below a) ∙ ap (λ (j : Job). last_below n (in_sum job (sum_of j))) ea))
        (λ (o : k < n). with_other (buckets + k) (λ e. omega (arith, e, sum_below a)) (λ e. omega arith) ∙ t.linked k o)
        (last_or_below l);
    headed = λ c l. by_test (eqb c b)
        (λ e. let q = eqb-true c b e in rw q (with_head ∙ sym (last_yes (in_sum job b) n (eq-eqb _ _ (ap sum_of (sym ea))))))
        (λ e.
        let q = eqb-false c b e in
        with_other c q (λ e. omega arith) ∙ t.headed c l ∙ sym (last_no (in_sum job c) n (ne_eqb _ _ (λ r. q (sym r ∙ ap sum_of (sym ea))))));
  }

-- ---- no record
pub filed_new : (job : ℕ → Job) → Filed job 0 (replicate records_size 0)
unfolding last_below
filed_new job = record {
  size = length-replicate {A = ℕ} records_size 0;
  linked = λ k l. absurd (not-suc-le-zero l);
  headed = λ b l. get_or-replicate {A = ℕ} records_size b 0 0 (omega arith);
}
