-- What the sets at a number have: the jobs with the label on that side, or the makers of the tape.
use mathlib.Core.Bool.{Bool, ◌&&◌, cond, false, not, true}
use mathlib.Core.Logic.{◌⊎◌, inl, inr, ⊎_elim}
use mathlib.Core.Path.{◌∙◌, ◌≡◌, ap, refl, sym}
use Prim.Native.Nat.{◌%◌, ◌*◌, ◌+◌, ◌-◌, ◌/◌, ◌<◌, ◌≤◌, suc, ℕ}
use native.Mathlib.Nat.{eq-or-lt_of_le}
use native.Mathlib.Omega.{arith}
use lib.Dec.{eqb, ltb}
use borrow.Author.Tests.{eq-eqb, eqb-true, le-ltb, lt-ltb, ltb-false, ltb-true}
use Rattle.base.proofs.Reflect.{and_true, by_cases, or_intro, or_true, reflect_false, same_truth}
use Rattle.base.proofs.Search.{any_elim, any_intro, first_least, first_le, first_same}
use Rattle.base.specs.Search.{any_below, first_below}
use Rattle.conflicts.specs.Conflicts.{is_label_at, is_tape_at, label_in, makes_tape}
use Rattle.record.specs.Entries.{is_used}
use Rattle.record.specs.declared.Job.{Job}
use Rattle.journal.specs.Journal.{capacity}
use Rattle.index.proofs.Chains.{first_short}
use Rattle.index.proofs.Enters.{place_frames, place_label, place_used, side_low}
use Rattle.index.proofs.Seeks.{fits_alike, fits_label}
use Rattle.index.specs.Places.{bit_of, fits, frames_at, is_match, label_at, marks, number_at, side_of, used_at}

-- ---- equal numbers mean equal labels, or equal tapes
fits_self : (exact : Bool) (l f : ℕ) → fits exact l f l f ≡ true
unfolding fits
fits_self true l f = simp (eq-eqb l l refl, eq-eqb f f refl)
fits_self false l f = simp (eq-eqb l l refl)

fits_labels : (l f m g : ℕ) → l ≡ m → fits false l f m g ≡ true
unfolding fits
fits_labels l f m g e = simp (eq-eqb m l (sym e))

fits_tapes : (l f m g : ℕ) → l ≡ m → f ≡ g → fits true l f m g ≡ true
unfolding fits
fits_tapes l f m g e h = simp (eq-eqb m l (sym e), eq-eqb g f (sym h))

-- what fits a tape has the frames too
fits_frames : (label frames l f : ℕ) → fits true label frames l f ≡ true → f ≡ frames
unfolding fits
fits_frames label frames l f e = eqb-true f frames (and_true (eqb l label) (eqb f frames) e).1

module _ (job : ℕ → Job) (exact : Bool) where
  -- q has what p has
  abbrev alike : ℕ → ℕ → Bool
  alike p q = is_match job exact (label_at job p) (frames_at job p) q

  alike_self : (p : ℕ) → used_at job p ≡ true → alike p p ≡ true
  unfolding is_match
  alike_self p u = simp (u, fits_self exact (label_at job p) (frames_at job p))

  number_alike : (p : ℕ) → used_at job p ≡ true → alike p (number_at job exact p) ≡ true
  unfolding number_at
  number_alike p u =
      ⊎_elim
      (λ (e : first_below p (alike p) ≡ p). rw e (alike_self p u))
      (λ (l : first_below p (alike p) < p). (first_least (alike p) p l).has)
      (eq-or-lt_of_le (first_le (alike p) p))

  -- the places that have the same have the same number
  pub number_eq : (p q : ℕ) → used_at job p ≡ true → used_at job q ≡ true
      → fits exact (label_at job p) (frames_at job p) (label_at job q) (frames_at job q) ≡ true → number_at job exact p ≡ number_at job exact q
  unfolding number_at is_match
  number_eq p q u v h =
      sym (first_short (alike p) (suc (p + q)) p (omega arith) (alike_self p u))
      ∙ first_same (alike p) (alike q) (suc (p + q)) (λ i _. ap (λ (b : Bool). used_at job i && b)
      (fits_alike exact (label_at job p) (frames_at job p) (label_at job q) (frames_at job q) h (label_at job i) (frames_at job i)))
      ∙ first_short (alike q) (suc (p + q)) q (omega arith) (alike_self q v)

  -- and only those
  pub number_fits : (p q : ℕ) → used_at job p ≡ true → used_at job q ≡ true → number_at job exact p ≡ number_at job exact q
      → fits exact (label_at job p) (frames_at job p) (label_at job q) (frames_at job q) ≡ true
  unfolding is_match
  number_fits p q u v e =
      let n = number_at job exact p in
      let a = (and_true (used_at job n) _ (number_alike p u)).1 in
      let b = (and_true (used_at job n) _ (rw (sym e) at (number_alike q v))).1 in
      fits_alike exact _ _ _ _ a (label_at job q) (frames_at job q)
      ∙ sym (fits_alike exact _ _ _ _ b (label_at job q) (frames_at job q))
      ∙ fits_self exact (label_at job q) (frames_at job q)

-- ---- the parts of a bit
bit_parts : (kind number k kind' number' k' : ℕ) → kind < 3 → kind' < 3 → k < capacity → k' < capacity → bit_of kind number k ≡ bit_of kind' number' k'
    → (kind ≡ kind') × (number ≡ number') × (k ≡ k')
bit_parts kind number k kind' number' k' lk lk' lj lj' e =
    let a : 3 * number + kind ≡ 3 * number' + kind' = omega arith in
    (omega arith, omega arith, omega arith)

-- the entry stands in the half that its side says
side_half : (e : ℕ) → e < 8 → (4 * side_of e ≤ e) × (e < 4 * side_of e + 4)
unfolding side_of
side_half e l =
    by_cases (λ t. (4 * cond t 0 1 ≤ e) × (e < 4 * cond t 0 1 + 4)) (ltb e 4)
    (λ h. (omega arith, omega (arith, ltb-true e 4 h))) (λ h. (omega (arith, ltb-false e 4 h), omega arith))

half_side : (kind i : ℕ) → kind < 2 → i < 4 → side_of (4 * kind + i) ≡ kind
unfolding side_of
half_side kind i lk li =
    by_cases (λ t. cond t 0 1 ≡ kind) (ltb (4 * kind + i) 4)
    (λ h. omega (arith, ltb-true (4 * kind + i) 4 h)) (λ h. omega (arith, ltb-false (4 * kind + i) 4 h))

-- what a used place enters
module _ (job : ℕ → Job) (b q : ℕ) (v : used_at job q ≡ true) where
  marks_label : b ≡ bit_of (side_of (q % 8)) (number_at job false q) (q / 8) → marks job b q ≡ true
  unfolding marks
  marks_label e = simp (v, eq-eqb b _ e)

  marks_tape : 4 ≤ q % 8 → b ≡ bit_of 2 (number_at job true q) (q / 8) → marks job b q ≡ true
  unfolding marks
  marks_tape l e = simp (v, le-ltb (q % 8) 4 l) (or_intro (eqb b (bit_of (side_of (q % 8)) (number_at job false q) (q / 8))) _ (inr (eq-eqb b _ e)))

-- a used place is an entry of its job
module _ (job : ℕ → Job) (half i k q : ℕ) (ei : half + i ≡ q % 8) (ek : k ≡ q / 8) (v : used_at job q ≡ true) where
  place_listed : (label : ℕ) → label_at job q ≡ label → is_label_at half (job k) label i ≡ true
  unfolding is_label_at used_at label_at
  place_listed label l = rw (ei, ek) (simp (v, eq-eqb _ _ l))

  place_made : (label frames : ℕ) → half ≡ 4 → label_at job q ≡ label → frames_at job q ≡ frames → is_tape_at (job k) label frames i ≡ true
  unfolding is_tape_at frames_at
  place_made label frames h l f =
      let a : 4 + i ≡ q % 8 = omega arith in
      simp (rw h at (place_listed label l)) (rw (a, ek) (eq-eqb _ _ f))

module _ (job : ℕ → Job) (n : ℕ) (few : n ≤ capacity) (p : ℕ) (u : used_at job p ≡ true) (k : ℕ) (lk : k < capacity) where
  abbrev number : Bool → ℕ
  number exact = number_at job exact p

  -- what a place that enters the bit is
  module _ (kind x q : ℕ) (lx : kind < 3) (lq : q < 8 * n) (h : marks job (bit_of kind x k) q ≡ true) where
    mark_used : used_at job q ≡ true
    unfolding marks
    mark_used = (and_true (used_at job q) _ h).0

    mark_place : ((kind ≡ side_of (q % 8)) × (x ≡ number_at job false q) × (k ≡ q / 8))
        ⊎ ((4 ≤ q % 8) × (kind ≡ 2) × (x ≡ number_at job true q) × (k ≡ q / 8))
    unfolding marks
    mark_place =
        ⊎_elim
        (λ e. inl (bit_parts kind x k (side_of (q % 8)) (number_at job false q) (q / 8) lx (omega (arith, side_low (q % 8))) lk (omega arith) (eqb-true _ _ e)))
        (λ e.
        let b = and_true (not (ltb (q % 8) 4)) _ e in
        let r = bit_parts kind x k 2 (number_at job true q) (q / 8) lx (omega arith) lk (omega arith) (eqb-true _ _ b.1) in
        inr (ltb-false (q % 8) 4 ((reflect_false (ltb (q % 8) 4)).sound b.0), r.0, r.1, r.2))
        (or_true _ _ (and_true (used_at job q) _ h).1)

  -- the entry i of a half, of job k
  abbrev there : ℕ → ℕ → ℕ
  there half i = 8 * k + (half + i)

  -- ---- the jobs with the label on a side
  module _ (kind : ℕ) (lx : kind < 2) where
    label_out : any_below (8 * n) (marks job (bit_of kind (number false) k)) ≡ true → (ltb k n && label_in (4 * kind) (job k) (label_at job p)) ≡ true
    unfolding label_in
    label_out e =
        let s = any_elim (marks job (bit_of kind (number false) k)) (8 * n) e in
        let q = s.which in
        let v = mark_used kind (number false) q (omega arith) s.below s.has in
        ⊎_elim
        (λ r.
        let i : ℕ = q % 8 - 4 * kind in
        let half = side_half (q % 8) (omega arith) in
        let z : 4 * kind + i ≡ q % 8 = omega (arith, half.0, r.0) in
        let l : label_at job q ≡ label_at job p =
        fits_label false (label_at job p) (frames_at job p) (label_at job q) (frames_at job q) (number_fits job false p q u v r.1) in
        simp (lt-ltb k n (omega (arith, r.2, s.below)))
        (any_intro _ 4 i (omega (arith, half.0, half.1, r.0)) (place_listed job (4 * kind) i k q z r.2 v _ l)))
        (λ r. absurd (omega (arith, r.1, lx)))
        (mark_place kind (number false) q (omega arith) s.below s.has)

    -- a place of the job that enters it
    label_in_lem : (i : ℕ) → k < n → i < 4 → is_label_at (4 * kind) (job k) (label_at job p) i ≡ true
        → any_below (8 * n) (marks job (bit_of kind (number false) k)) ≡ true
    unfolding is_label_at
    label_in_lem i ln li h =
        let q = there (4 * kind) i in
        let le : 4 * kind + i < 8 = omega arith in
        let b = and_true (is_used (job k) (4 * kind + i)) _ h in
        let v : used_at job q ≡ true = place_used job k (4 * kind + i) le (job k) refl ∙ b.0 in
        let l : label_at job q ≡ label_at job p = place_label job k (4 * kind + i) le (job k) refl ∙ eqb-true _ _ b.1 in
        let x : number_at job false q ≡ number false = number_eq job false q p v u (fits_labels _ _ _ _ l) in
        let y : q % 8 ≡ 4 * kind + i = omega arith in
        let z : q / 8 ≡ k = omega arith in
        let w : bit_of kind (number false) k ≡ bit_of (side_of (q % 8)) (number_at job false q) (q / 8) = rw (x, y, z, half_side kind i lx li) in
        any_intro _ (8 * n) q (omega arith) (marks_label job _ q v w)

    pub label_set : any_below (8 * n) (marks job (bit_of kind (number false) k)) ≡ (ltb k n && label_in (4 * kind) (job k) (label_at job p))
    unfolding label_in
    label_set = same_truth _ _ label_out (λ e.
        let b = and_true (ltb k n) _ e in
        let s = any_elim (is_label_at (4 * kind) (job k) (label_at job p)) 4 b.1 in
        label_in_lem s.which (ltb-true k n b.0) s.below s.has)

  -- ---- the makers of the tape
  tape_out : any_below (8 * n) (marks job (bit_of 2 (number true) k)) ≡ true → (ltb k n && makes_tape (job k) (label_at job p) (frames_at job p)) ≡ true
  unfolding makes_tape
  tape_out e =
      let s = any_elim (marks job (bit_of 2 (number true) k)) (8 * n) e in
      let q = s.which in
      let v = mark_used 2 (number true) q (omega arith) s.below s.has in
      ⊎_elim
      (λ r. absurd (omega (arith, r.0, side_low (q % 8))))
      (λ r.
      let i : ℕ = q % 8 - 4 in
      let z : 4 + i ≡ q % 8 = omega (arith, r.0) in
      let t = number_fits job true p q u v r.2 in
      let l : label_at job q ≡ label_at job p = fits_label true (label_at job p) (frames_at job p) (label_at job q) (frames_at job q) t in
      let f : frames_at job q ≡ frames_at job p = fits_frames (label_at job p) (frames_at job p) (label_at job q) (frames_at job q) t in
      simp (lt-ltb k n (omega (arith, r.3, s.below)))
      (any_intro _ 4 i (omega (arith, r.0)) (place_made job 4 i k q z r.3 v _ _ refl l f)))
      (mark_place 2 (number true) q (omega arith) s.below s.has)

  tape_in : (i : ℕ) → k < n → i < 4 → is_tape_at (job k) (label_at job p) (frames_at job p) i ≡ true → any_below (8 * n) (marks job (bit_of 2 (number true) k)) ≡ true
  unfolding is_tape_at is_label_at
  tape_in i ln li h =
      let q = there 4 i in
      let le : 4 + i < 8 = omega arith in
      let a = and_true (is_label_at 4 (job k) (label_at job p) i) _ h in
      let b = and_true (is_used (job k) (4 + i)) _ a.0 in
      let v : used_at job q ≡ true = place_used job k (4 + i) le (job k) refl ∙ b.0 in
      let l : label_at job q ≡ label_at job p = place_label job k (4 + i) le (job k) refl ∙ eqb-true _ _ b.1 in
      let f : frames_at job q ≡ frames_at job p = place_frames job k (4 + i) le (job k) refl ∙ eqb-true _ _ a.1 in
      let x : number_at job true q ≡ number true = number_eq job true q p v u (fits_tapes _ _ _ _ l f) in
      let y : q % 8 ≡ 4 + i = omega arith in
      let z : q / 8 ≡ k = omega arith in
      let w : bit_of 2 (number true) k ≡ bit_of 2 (number_at job true q) (q / 8) = rw (x, z) in
      any_intro _ (8 * n) q (omega arith) (marks_tape job _ q v (omega arith) w)

  pub tape_set : any_below (8 * n) (marks job (bit_of 2 (number true) k)) ≡ (ltb k n && makes_tape (job k) (label_at job p) (frames_at job p))
  unfolding makes_tape
  tape_set = same_truth _ _ tape_out (λ e.
      let b = and_true (ltb k n) _ e in
      let s = any_elim (is_tape_at (job k) (label_at job p) (frames_at job p)) 4 b.1 in
      tape_in s.which (ltb-true k n b.0) s.below s.has)
