-- What a place stores, and that the index of the places so far becomes that of one more.
use mathlib.Core.Bool.{Bool, ◌&&◌, ◌||◌, cond, false, not, true, true≢false}
use mathlib.Core.List.{List}
use mathlib.Core.Logic.{◌≢◌, ⊎_elim}
use mathlib.Core.Path.{◌∙◌, ◌≡◌, ap, refl, sym}
use Prim.Native.Nat.{◌%◌, ◌*◌, ◌+◌, ◌/◌, ◌<◌, ◌≤◌, suc, ℕ}
use native.Mathlib.Omega.{arith}
use lib.Dec.{eqb, ltb}
use lib.ListN.{get_or, length, length-set, set}
use lib.Seq.{get_or-set_other, get_or-set_same}
use borrow.Author.Tests.{eq-eqb, eqb-false, eqb-true, le-ltb, lt-ltb, ne_eqb}
use Rattle.base.proofs.Reflect.{by_cases, by_test}
use Rattle.base.proofs.Search.{last_or_below}
use Rattle.base.specs.Search.{any_below}
use Rattle.record.specs.Entries.{frames_of, is_used, label_of}
use Rattle.record.specs.declared.Job.{Job}
use Rattle.journal.specs.Journal.{capacity}
use Rattle.index.proofs.Chains.{last_no, last_yes}
use Rattle.index.proofs.Marks.{mark_other, mark_sets, mark_size}
use Rattle.index.specs.Chains.{last_below}
use Rattle.index.specs.Entering.{numbers_with, sets_with}
use Rattle.index.specs.Places.{Marked, Numbered, bit_of, bucket_of, buckets, frames_at, heads_at, in_bucket, label_at, links_at}
use Rattle.index.specs.Places.{marks, number_at, numbers_at, numbers_size, places, side_of, used_at}
use Rattle.index.specs.Words.{bit_at, marked}

-- ---- the four stores
module _ (numbers : List ℕ) (size : length numbers ≡ numbers_size) (m label tape b : ℕ) (lm : m < places) (lb : b < buckets) where
  abbrev one : List ℕ
  one = set numbers m label

  abbrev two : List ℕ
  two = set one (places + m) tape

  abbrev three : List ℕ
  three = set two (links_at + m) (get_or numbers (heads_at + b) 0)

  size_one : length one ≡ numbers_size
  size_one = length-set numbers _ _ ∙ size

  size_two : length two ≡ numbers_size
  size_two = length-set one _ _ ∙ size_one

  size_three : length three ≡ numbers_size
  size_three = length-set two _ _ ∙ size_two

  with_size : length (numbers_with numbers m label tape b) ≡ numbers_size
  unfolding numbers_with
  with_size = length-set three _ _ ∙ size_three

  with_head : get_or (numbers_with numbers m label tape b) (heads_at + b) 0 ≡ suc m
  unfolding numbers_with
  with_head = get_or-set_same three (heads_at + b) (suc m) 0 (omega (arith, size_three))

  with_link : get_or (numbers_with numbers m label tape b) (links_at + m) 0 ≡ get_or numbers (heads_at + b) 0
  unfolding numbers_with
  with_link =
      get_or-set_other three (heads_at + b) (links_at + m) (suc m) 0 (λ e. omega arith)
      ∙ get_or-set_same two (links_at + m) _ 0 (omega (arith, size_two))

  with_tape : get_or (numbers_with numbers m label tape b) (places + m) 0 ≡ tape
  unfolding numbers_with
  with_tape =
      get_or-set_other three (heads_at + b) (places + m) (suc m) 0 (λ e. omega arith)
      ∙ get_or-set_other two (links_at + m) (places + m) _ 0 (λ e. omega arith)
      ∙ get_or-set_same one (places + m) tape 0 (omega (arith, size_one))

  with_label : get_or (numbers_with numbers m label tape b) m 0 ≡ label
  unfolding numbers_with
  with_label =
      get_or-set_other three (heads_at + b) m (suc m) 0 (λ e. omega arith)
      ∙ get_or-set_other two (links_at + m) m _ 0 (λ e. omega arith)
      ∙ get_or-set_other one (places + m) m tape 0 (λ e. omega arith)
      ∙ get_or-set_same numbers m label 0 (omega (arith, size))

  with_other : (i : ℕ) → i ≢ m → i ≢ places + m → i ≢ links_at + m → i ≢ heads_at + b
      → get_or (numbers_with numbers m label tape b) i 0 ≡ get_or numbers i 0
  unfolding numbers_with
  with_other i w x y z =
      get_or-set_other three (heads_at + b) i (suc m) 0 z
      ∙ get_or-set_other two (links_at + m) i _ 0 y
      ∙ get_or-set_other one (places + m) i tape 0 x
      ∙ get_or-set_other numbers m i label 0 w

-- ---- one place more
module _ (job : ℕ → Job) (m : ℕ) (numbers : List ℕ) (t : Numbered job m numbers) (lm : m < places) (used : used_at job m ≡ true)
    (label tape b : ℕ) (ll : label ≤ m) (lt : tape ≤ m) (lb : b < buckets)
    (el : label ≡ number_at job false m) (et : tape ≡ number_at job true m) (eb : b ≡ bucket_of (label_at job m)) where
  abbrev entered : List ℕ
  entered = numbers_with numbers m label tape b

  named_now : (exact : Bool) → get_or entered (numbers_at exact + m) 0 ≡ number_at job exact m
  named_now true = with_tape numbers t.size m label tape b lm lb ∙ et
  named_now false = let z : 0 + m ≡ m = omega arith in rw z (with_label numbers t.size m label tape b lm lb ∙ el)

  named_before : (exact : Bool) (p : ℕ) → p < m → get_or entered (numbers_at exact + p) 0 ≡ get_or numbers (numbers_at exact + p) 0
  named_before true p l =
      with_other numbers t.size m label tape b lm lb (places + p) (λ e. omega arith) (λ e. omega arith) (λ e. omega arith) (λ e. omega arith)
  named_before false p l = with_other numbers t.size m label tape b lm lb (0 + p) (λ e. omega arith) (λ e. omega arith) (λ e. omega arith) (λ e. omega arith)

  in_own : in_bucket job b m ≡ true
  unfolding in_bucket
  in_own = simp (used, eq-eqb (bucket_of (label_at job m)) b (sym eb))

  in_other : (c : ℕ) → c ≢ b → in_bucket job c m ≡ false
  unfolding in_bucket
  in_other c ne = simp (used, ne_eqb (bucket_of (label_at job m)) c (λ e. ne (sym e ∙ sym eb)))

  small_next : (i : ℕ) → i < links_at → get_or entered i 0 < places
  small_next i l =
      by_test (eqb i m)
      (λ e. let q = eqb-true i m e in rw q (omega (arith, with_label numbers t.size m label tape b lm lb)))
      (λ e.
      by_test (eqb i (places + m))
      (λ f. let q = eqb-true i (places + m) f in rw q (omega (arith, with_tape numbers t.size m label tape b lm lb)))
      (λ f.
      let kept =
      with_other numbers t.size m label tape b lm lb i (eqb-false i m e) (eqb-false i (places + m) f) (λ e. omega arith) (λ e. omega arith) in
      omega (arith, t.small i l, kept)))

  pub numbered_next : Numbered job (suc m) entered
  numbered_next = record {
    size = with_size numbers t.size m label tape b lm lb;
    small = small_next;
    named = λ exact p l u. ⊎_elim
        (λ (e : p ≡ m). rw e (named_now exact))
        (λ (o : p < m). named_before exact p o ∙ t.named exact p o u)
        (last_or_below l);
    linked = λ p l u. ⊎_elim
        (λ (e : p ≡ m). rw e (with_link numbers t.size m label tape b lm lb ∙ t.headed b lb ∙ ap (λ (c : ℕ). last_below m (in_bucket job c)) eb))
        (λ (o : p < m).
        with_other numbers t.size m label tape b lm lb (links_at + p) (λ e. omega arith) (λ e. omega arith) (λ e. omega arith) (λ e. omega arith)
        ∙ t.linked p o u)
        (last_or_below l);
    headed = λ c l. by_test (eqb c b)
        (λ e. let q = eqb-true c b e in rw q (with_head numbers t.size m label tape b lm lb ∙ sym (last_yes (in_bucket job b) m in_own)))
        (λ e.
        let q = eqb-false c b e in
        with_other numbers t.size m label tape b lm lb (heads_at + c) (λ e. omega arith) (λ e. omega arith) (λ e. omega arith) (λ e. q (omega arith))
        ∙ t.headed c l ∙ sym (last_no (in_bucket job c) m (in_other c q)));
  }

-- ---- the sets
mark_bit : (words : List ℕ) (b : ℕ) → b < 64 * length words → (x : ℕ) (t : Bool) → bit_at (marked words b t) x ≡ ((t && eqb x b) || bit_at words x)
unfolding marked
mark_bit words b room x false = refl
mark_bit words b room x true =
    by_cases (λ u. bit_at (marked words b true) x ≡ (u || bit_at words x)) (eqb x b)
    (λ e. let q = eqb-true x b e in rw q (mark_sets words b room true refl)) (λ e. mark_other words b room x true (eqb-false x b e))

regroup : (a b c : Bool) → (a || (b || c)) ≡ ((b || a) || c)
regroup true true c = refl
regroup true false c = refl
regroup false true c = refl
regroup false false c = refl

pub side_low : (e : ℕ) → side_of e < 2
unfolding side_of
side_low e = by_cases (λ t. cond t 0 1 < 2) (ltb e 4) (λ _. omega arith) (λ _. omega arith)

module _ (job : ℕ → Job) (m : ℕ) (sets : List ℕ) (t : Marked job m sets) (lm : m < places) (used : used_at job m ≡ true)
    (label tape n e : ℕ) (el : label ≡ number_at job false m) (et : tape ≡ number_at job true m) (en : n ≡ m / 8) (ee : e ≡ m % 8)
    (ll : label ≤ m) (lt : tape ≤ m) where
  abbrev first : List ℕ
  first = marked sets (bit_of (side_of e) label n) true

  room_one : bit_of (side_of e) label n < 64 * length sets
  room_one = omega (arith, t.size, side_low e)

  room_two : bit_of 2 tape n < 64 * length first
  room_two = omega (arith, t.size, mark_size sets (bit_of (side_of e) label n) true)

  pub marked_next : Marked job (suc m) (sets_with sets label tape n e)
  unfolding sets_with any_below marks
  marked_next = record {
    size = mark_size first _ _ ∙ mark_size sets _ _ ∙ t.size;
    bits = λ x l.
        mark_bit first (bit_of 2 tape n) room_two x (not (ltb e 4))
        ∙ ap (λ (u : Bool). (not (ltb e 4) && eqb x (bit_of 2 tape n)) || u) (mark_bit sets (bit_of (side_of e) label n) room_one x true)
        ∙ regroup (not (ltb e 4) && eqb x (bit_of 2 tape n)) (eqb x (bit_of (side_of e) label n)) (bit_at sets x)
        ∙ simp (used, sym el, sym et, sym en, sym ee, t.bits x l);
  }

-- ---- a place that is not used
module _ (job : ℕ → Job) (m : ℕ) (unused : used_at job m ≡ false) where
  no_bucket : (b : ℕ) → in_bucket job b m ≡ false
  unfolding in_bucket
  no_bucket b = simp unused

  -- a used place below is another
  before : (p : ℕ) → p < suc m → used_at job p ≡ true → p < m
  before p l u = ⊎_elim (λ (e : p ≡ m). absurd (true≢false (sym u ∙ ap (used_at job) e ∙ unused))) (λ (o : p < m). o) (last_or_below l)

  pub numbered_same : (numbers : List ℕ) → Numbered job m numbers → Numbered job (suc m) numbers
  numbered_same numbers t = record {
    size = t.size;
    small = t.small;
    named = λ exact p l u. t.named exact p (before p l u) u;
    linked = λ p l u. t.linked p (before p l u) u;
    headed = λ b l. t.headed b l ∙ sym (last_no (in_bucket job b) m (no_bucket b));
  }

  pub marked_same : (sets : List ℕ) → Marked job m sets → Marked job (suc m) sets
  unfolding any_below marks
  marked_same sets t = record { size = t.size; bits = λ x l. simp unused (t.bits x l) }

-- the place of an entry
module _ (job : ℕ → Job) (n e : ℕ) (le : e < 8) (a : Job) (ea : a ≡ job n) where
  job_there : (8 * n + e) / 8 ≡ n
  job_there = omega arith

  entry_there : (8 * n + e) % 8 ≡ e
  entry_there = omega arith

  pub place_used : used_at job (8 * n + e) ≡ is_used a e
  unfolding used_at
  place_used = rw (job_there, entry_there, ea)

  pub place_label : label_at job (8 * n + e) ≡ label_of a e
  unfolding label_at
  place_label = rw (job_there, entry_there, ea)

  pub place_frames : frames_at job (8 * n + e) ≡ frames_of a e
  unfolding frames_at
  place_frames = rw (job_there, entry_there, ea)

-- ---- the marks of an entry
mark_none : (words : List ℕ) (b : ℕ) → marked words b false ≡ words
unfolding marked
mark_none words b = refl

module _ (sets : List ℕ) (label tape n e : ℕ) where
  pub mark_input : (after : List ℕ) → e < 4 → after ≡ marked sets (capacity * (3 * label) + n) true → after ≡ sets_with sets label tape n e
  unfolding sets_with side_of
  mark_input after l h =
      let z : 3 * label + 0 ≡ 3 * label = omega arith in
      h ∙ sym (simp (lt-ltb e 4 l, z, mark_none))

  pub mark_output : (one after : List ℕ) → 4 ≤ e → one ≡ marked sets (capacity * (3 * label + 1) + n) true
      → after ≡ marked one (capacity * (3 * tape + 2) + n) true → after ≡ sets_with sets label tape n e
  unfolding sets_with side_of
  mark_output one after l g h = h ∙ sym (simp (le-ltb e 4 l, sym g))
