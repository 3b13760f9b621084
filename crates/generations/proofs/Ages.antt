-- Laws of generations: the list of those at the first positions has at each what `generation_at` says; they depend on the jobs up
-- to the position alone; and none is above one more than its position, so one more still fits a byte.
use mathlib.Core.Bool.{Bool, cond, false, true}
use mathlib.Core.List.{List, [], ◌∷◌}
use mathlib.Core.Logic.{◌⊎◌, inl, inr, ⊎_elim, ⊎_map}
use mathlib.Core.Path.{◌∙◌, ◌≡◌, ap, refl, sym}
use Prim.Native.Nat.{◌+◌, ◌<◌, ◌≤◌, max, suc, zero, zero-le, ℕ}
use native.Mathlib.Nat.{eq-or-lt_of_le, le_of_suc-le-suc, le_refl, not-suc-le-zero}
use native.Mathlib.Numerals.{add-one}
use native.Mathlib.Omega.{arith}
use lib.Dec.{ltb}
use lib.ListN.{get_or-append, get_or-eq_default, get_or, length, length-append}
use lib.Seq.{get_or_at}
use borrow.Author.Tests.{le-ltb, lt-ltb, ltb-false, ltb-true}
use Rattle.base.proofs.Search.{first_same}
use Rattle.base.specs.Search.{any_below, first_below}
use Rattle.conflicts.specs.Conflicts.{is_label_at, is_tape_at, makes_tape}
use Rattle.record.specs.Entries.{frames_of, is_used, label_of, no_entry}
use Rattle.record.specs.declared.Entry.{Entry}
use Rattle.record.specs.declared.Job.{Job}
use Rattle.generations.specs.Generations.{created_at, creator_of, generation_at, generation_from, generations_before, highest}
use Rattle.generations.specs.Memo.{from_input, inputs_of}

-- the two cases of a test, and of an order
pub by_test : (t : Bool) → (t ≡ true) ⊎ (t ≡ false)
by_test true = inl refl
by_test false = inr refl

pub lt_or_le : (a b : ℕ) → (a < b) ⊎ (b ≤ a)
lt_or_le a b = ⊎_map (ltb-true a b) (ltb-false a b) (by_test (ltb a b))

-- ---- the largest of several numbers
highest_le : (k : ℕ) (f : ℕ → ℕ) (m : ℕ) → ((e : ℕ) → f e ≤ m) → highest k f ≤ m
unfolding highest
highest_le zero f m h = omega arith
highest_le (suc k) f m h = omega (arith, h k, highest_le k f m h)

highest_same : (k : ℕ) (f g : ℕ → ℕ) → ((e : ℕ) → e < k → f e ≡ g e) → highest k f ≡ highest k g
unfolding highest
highest_same zero f g h = refl
highest_same (suc k) f g h = rw (h k (le_refl (suc k)), highest_same k f g (λ e l. h e (omega arith)))

-- zeros add nothing
highest_short : (k n : ℕ) (f : ℕ → ℕ) → k ≤ n → ((e : ℕ) → k ≤ e → e < n → f e ≡ 0) → highest n f ≡ highest k f
unfolding highest
highest_short k zero f l h = let z : k ≡ 0 = omega arith in rw z refl
highest_short k (suc n) f l h =
    ⊎_elim
    (λ (e : k ≡ suc n). rw e refl)
    (λ (m : k < suc n).
    let q : k ≤ n = omega arith in
    omega (arith, h n q (le_refl (suc n)), highest_short k n f q (λ e a b. h e a (omega arith))))
    (eq-or-lt_of_le l)

one_more_le : (b : Bool) (a m : ℕ) → a ≤ m → cond b (suc a) 0 ≤ m + 1
one_more_le true a m h = omega arith
one_more_le false a m h = omega arith

-- ---- the generations along the order
module _ (job : ℕ → Job) (order : ℕ → ℕ) where
  pub before_length : (p : ℕ) → length (generations_before job order p) ≡ p
  unfolding generations_before
  before_length zero = refl
  before_length (suc p) = simp (length-append, before_length p) (omega arith)

  pub before_at : (p q : ℕ) → q < p → get_or (generations_before job order p) q 0 ≡ generation_at job order q
  unfolding generations_before generation_at
  before_at zero q l = absurd (not-suc-le-zero l)
  before_at (suc p) q l =
      let n : length (generations_before job order p) ≡ p = before_length p in
      ⊎_elim
      (λ e. rw e (get_or_at (generations_before job order p) _ [] 0 p n))
      (λ m. get_or-append (generations_before job order p) _ 0 q (rw n m) ∙ before_at p q m)
      (eq-or-lt_of_le (le_of_suc-le-suc l))

  pub before_past : (p q : ℕ) → p ≤ q → get_or (generations_before job order p) q 0 ≡ 0
  before_past p q l = get_or-eq_default (generations_before job order p) 0 (rw (before_length p) l)

  -- ---- none is above one more than its position
  at_le : (p : ℕ) → ((q : ℕ) → get_or (generations_before job order p) q 0 ≤ p) → generation_at job order p ≤ p + 1
  unfolding generation_at generation_from
  at_le p h = highest_le 4 _ (p + 1) (λ i. one_more_le (is_used (job (order p)) i) _ p (h (creator_of job order p i)))

  before_le : (p q : ℕ) → get_or (generations_before job order p) q 0 ≤ p
  before_le zero q = omega (arith, before_past 0 q zero-le)
  before_le (suc p) q =
      ⊎_elim
      (λ l. ⊎_elim
      (λ e. omega (arith, before_at (suc p) q l, ap (generation_at job order) e, at_le p (before_le p)))
      (λ m. omega (arith, before_at (suc p) q l, before_at p q m, before_le p q))
      (eq-or-lt_of_le (le_of_suc-le-suc l)))
      (λ g. omega (arith, before_past (suc p) q g))
      (lt_or_le q (suc p))

  pub generation_le : (p : ℕ) → generation_at job order p ≤ p + 1
  generation_le p = at_le p (before_le p)

  -- ---- the same, input by input
  pub generation_is : (p : ℕ) → generation_at job order p ≡ highest 4 (from_input job order p)
  unfolding generation_at generation_from from_input
  generation_is p = refl

  input_le : (p i : ℕ) → from_input job order p i ≤ p + 1
  unfolding from_input
  input_le p i = one_more_le (is_used (job (order p)) i) _ p (before_le p (creator_of job order p i))

  pub input_none : (p i : ℕ) → is_used (job (order p)) i ≡ false → from_input job order p i ≡ 0
  unfolding from_input
  input_none p i unused = simp unused

  -- an input whose creator stands earlier, and one that has none
  module _ (p i q : ℕ) (used : is_used (job (order p)) i ≡ true) (e : q ≡ creator_of job order p i) where
    pub input_from : q < p → from_input job order p i ≡ suc (generation_at job order q)
    unfolding from_input
    input_from l = simp (used, ← e, before_at p q l)

    pub input_new : p ≤ q → from_input job order p i ≡ 1
    unfolding from_input
    input_new l = simp (used, ← e, before_past p q l)

  -- the loop over the inputs of the job at p, `most` of them so far
  module _ (p : ℕ) where
    pub most_start : 0 ≡ highest 0 (from_input job order p)
    unfolding highest
    most_start = refl

    pub most_more : (i most r next : ℕ) → most ≡ highest i (from_input job order p) → r ≡ from_input job order p i → next ≡ max most r
        → next ≡ highest (i + 1) (from_input job order p)
    unfolding highest
    most_more i most r next e f g = g ∙ rw (add-one, e, f) refl

    pub most_le : (i most : ℕ) → most ≡ highest i (from_input job order p) → most ≤ p + 1
    most_le i most e = rw e (highest_le i _ (p + 1) (input_le p))

    -- the entries past the inputs are unused
    unused_past : (i : ℕ) → inputs_of (job (order p)) ≤ i → i < 4 → from_input job order p i ≡ 0
    unfolding inputs_of is_used
    unused_past i a b = input_none p i (simp (lt-ltb i 4 b) (le-ltb i (job (order p)).inputs (omega arith)))

    pub most_end : (i most : ℕ) → most ≡ highest i (from_input job order p) → i ≡ inputs_of (job (order p)) → most ≡ generation_at job order p
    unfolding inputs_of
    most_end i most e s =
        e ∙ sym (highest_short i 4 (from_input job order p) (omega arith) (λ k a b. unused_past k (rw s at a) b)) ∙ sym (generation_is p)

  pub none_from : (p : ℕ) → ((i : ℕ) → i < 4 → is_used (job (order p)) i ≡ false) → generation_at job order p ≡ 0
  unfolding highest
  none_from p h = generation_is p ∙ highest_short 0 4 (from_input job order p) zero-le (λ i a b. input_none p i (h i b))

-- an entry before the number of inputs is one
pub input_used : (j : Job) (i : ℕ) → i < inputs_of j → is_used j i ≡ true
unfolding inputs_of is_used
input_used j i l = simp (lt-ltb i 4 (omega arith)) (lt-ltb i j.inputs (omega arith))

-- ---- they depend on the jobs up to the position alone
module _ (job job' : ℕ → Job) (order order' : ℕ → ℕ) where
  abbrev Agree : ℕ → Type 0
  Agree p = (q : ℕ) → q < p → job (order q) ≡ job' (order' q)

  created_agree : (p i : ℕ) → Agree (suc p) → (q : ℕ) → q < p → created_at job order p i q ≡ created_at job' order' p i q
  unfolding created_at
  created_agree p i h q l = rw (h q (omega arith), h p (le_refl (suc p)))

  from_agree : (p : ℕ) (l l' : List ℕ) → Agree (suc p) → l ≡ l' → generation_from job order l p ≡ generation_from job' order' l' p
  unfolding generation_from creator_of
  from_agree p l l' h e =
      highest_same 4 _ _ (λ i _. rw (h p (le_refl (suc p)), e, first_same _ _ p (created_agree p i h)))

  before_agree : (p : ℕ) → Agree p → generations_before job order p ≡ generations_before job' order' p
  unfolding generations_before
  before_agree zero h = refl
  before_agree (suc p) h =
      let b = before_agree p (λ q l. h q (omega arith)) in
      rw (from_agree p _ _ h b, b)

  pub generation_agree : (p : ℕ) → Agree (suc p) → generation_at job order p ≡ generation_at job' order' p
  unfolding generation_at
  generation_agree p h = from_agree p _ _ h (before_agree p (λ q l. h q (omega arith)))

-- ---- a worked value: an accession of two tapes, a migration of one of them, and one of its tape and the other
tape : ℕ → Entry
tape label = record { label = label; frames = 10 }

-- the four entries of a half, the first two from these
half : Entry → Entry → List Entry → List Entry
half a b rest = a ∷ b ∷ no_entry ∷ no_entry ∷ rest

three : ℕ → Job
three zero =
    record { kind = 0; drive = 7; inputs = 0; outputs = 2; entries = half no_entry no_entry (half (tape 1) (tape 2) []); trimmed = 0 }
three (suc zero) =
    record { kind = 1; drive = 7; inputs = 1; outputs = 1; entries = half (tape 1) no_entry (half (tape 3) no_entry []); trimmed = 0 }
three (suc (suc k)) =
    record { kind = 1; drive = 7; inputs = 2; outputs = 1; entries = half (tape 2) (tape 3) (half (tape 4) no_entry []); trimmed = 0 }

worked : generations_before three (λ q. q) 3 ≡ 0 ∷ 1 ∷ 2 ∷ []
unfolding generations_before generation_from highest creator_of created_at first_below any_below makes_tape is_tape_at is_label_at is_used label_of frames_of three half tape
worked = refl
