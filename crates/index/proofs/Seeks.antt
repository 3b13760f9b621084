-- The walk along a bucket's chain finds the last place that matches, and its numbers are those of the label or the tape.
use mathlib.Core.Bool.{Bool, ◌&&◌, cond, false, true}
use mathlib.Core.List.{List}
use mathlib.Core.Logic.{◌≢◌}
use mathlib.Core.Path.{◌∙◌, ◌≡◌, ap, refl, sym}
use Prim.Native.Nat.{◌+◌, ◌-◌, ◌<◌, ◌≤◌, suc, ℕ}
use native.Mathlib.Omega.{arith}
use lib.Dec.{eqb}
use lib.ListN.{get_or}
use borrow.Author.Tests.{eq-eqb, eqb-false, eqb-true, ne_eqb}
use Rattle.base.proofs.Reflect.{and_true, by_cases}
use Rattle.base.proofs.Search.{first_le, first_none, first_same}
use Rattle.base.specs.Search.{first_below}
use Rattle.record.specs.declared.Job.{Job}
use Rattle.index.proofs.Chains.{Walk, first_short, last_le, last_no, last_none, last_skip, last_zero, walk_next, walk_on, walk_start}
use Rattle.index.specs.Chains.{last_below}
use Rattle.index.specs.Places.{Numbered, Sought, bucket_of, buckets, fits, frames_at, heads_at, in_bucket, is_match, label_at}
use Rattle.index.specs.Places.{links_at, number_at, numbers_at, places, used_at}

-- what fits has the label
pub fits_label : (exact : Bool) (label frames l f : ℕ) → fits exact label frames l f ≡ true → l ≡ label
unfolding fits
fits_label exact label frames l f e = eqb-true l label (and_true (eqb l label) _ e).0

module _ (job : ℕ → Job) (exact : Bool) (label frames : ℕ) where
  match_used : (p : ℕ) → is_match job exact label frames p ≡ true → used_at job p ≡ true
  unfolding is_match
  match_used p e = (and_true (used_at job p) _ e).0

  match_fits : (p : ℕ) → is_match job exact label frames p ≡ true → fits exact label frames (label_at job p) (frames_at job p) ≡ true
  unfolding is_match
  match_fits p e = (and_true (used_at job p) _ e).1

  match_chained : (p : ℕ) → is_match job exact label frames p ≡ true → in_bucket job (bucket_of label) p ≡ true
  unfolding in_bucket
  match_chained p e =
      let l = fits_label exact label frames _ _ (match_fits p e) in
      simp (match_used p e, eq-eqb (bucket_of (label_at job p)) (bucket_of label) (ap bucket_of l))

match_made : (job : ℕ → Job) (exact : Bool) (label frames p : ℕ) → used_at job p ≡ true → fits exact label frames (label_at job p) (frames_at job p) ≡ true
    → is_match job exact label frames p ≡ true
unfolding is_match
match_made job exact label frames p u h = simp (u, h)

abbrev pub Seek : (ℕ → Job) → Bool → ℕ → ℕ → ℕ → ℕ → Type 0
Seek job exact label frames m x = Walk (in_bucket job (bucket_of label)) (is_match job exact label frames) m x

-- a place in the bucket is used, and its label's bucket is that
chained_used : (job : ℕ → Job) (b p : ℕ) → in_bucket job b p ≡ true → (used_at job p ≡ true) × (bucket_of (label_at job p) ≡ b)
unfolding in_bucket
chained_used job b p e = let h = and_true (used_at job p) _ e in (h.0, eqb-true _ _ h.1)

module _ (job : ℕ → Job) (m : ℕ) (numbers : List ℕ) (t : Numbered job m numbers) (exact : Bool) (label frames : ℕ) where
  abbrev chain : ℕ → Bool
  chain = in_bucket job (bucket_of label)

  abbrev match : ℕ → Bool
  match = is_match job exact label frames

  pub seek_start : (b x : ℕ) → b ≡ bucket_of label → b < buckets → x ≡ get_or numbers (heads_at + b) 0 → Seek job exact label frames m x
  seek_start b x e l h =
      walk_start chain match (match_chained job exact label frames) m x (h ∙ t.headed b l ∙ ap (λ (c : ℕ). last_below m (in_bucket job c)) e)

  module _ (x : ℕ) (some : 0 < x) (w : Seek job exact label frames m x) where
    turn : x ≡ suc (x - 1)
    turn = omega arith

    at : Seek job exact label frames m (suc (x - 1))
    at = rw (sym turn) w

    on : (used_at job (x - 1) ≡ true) × (bucket_of (label_at job (x - 1)) ≡ bucket_of label)
    on = chained_used job (bucket_of label) (x - 1) (walk_on chain match (match_chained job exact label frames) m (x - 1) at)

    pub seek_below : x - 1 < m
    seek_below = omega (arith, w.below)

    link : get_or numbers (links_at + (x - 1)) 0 ≡ last_below (x - 1) chain
    link =
        t.linked (x - 1) seek_below on.0 ∙ ap (λ (b : ℕ). last_below (x - 1) (in_bucket job b)) on.1

    pub seek_less : (y : ℕ) → y ≡ get_or numbers (links_at + (x - 1)) 0 → y < x
    seek_less y e = omega (arith, e, link, last_le chain (x - 1))

    pub seek_next : (r : Bool) (y : ℕ) → r ≡ fits exact label frames (label_at job (x - 1)) (frames_at job (x - 1)) → r ≡ false
        → y ≡ get_or numbers (links_at + (x - 1)) 0 → Seek job exact label frames m y
    unfolding is_match
    seek_next r y e h q =
        walk_next chain match (match_chained job exact label frames) m (x - 1) y at (simp (on.0, sym e ∙ h)) (q ∙ link)

-- ---- the number at the last place that matches

-- what fits the same fits alike
pub fits_alike : (exact : Bool) (label frames l f : ℕ) → fits exact label frames l f ≡ true → (k g : ℕ) → fits exact label frames k g ≡ fits exact l f k g
unfolding fits
fits_alike true label frames l f e k g =
    let h = and_true (eqb l label) (eqb f frames) e in
    let a = eqb-true l label h.0 in
    let b = eqb-true f frames h.1 in
    simp (a, b)
fits_alike false label frames l f e k g = let a = eqb-true l label (and_true (eqb l label) true e).0 in simp a

module _ (job : ℕ → Job) (m : ℕ) (numbers : List ℕ) (t : Numbered job m numbers) (exact : Bool) (label frames : ℕ) where
  -- a place that matches has the number of the label, or of the tape
  pub number_same : (y : ℕ) → y < m → is_match job exact label frames y ≡ true → first_below m (is_match job exact label frames) ≡ number_at job exact y
  unfolding number_at is_match
  number_same y l h =
      first_short (is_match job exact label frames) m y l h
      ∙ first_same _ _ y (λ i _. ap (λ (b : Bool). used_at job i && b)
      (fits_alike exact label frames (label_at job y) (frames_at job y) (match_fits job exact label frames y h) (label_at job i) (frames_at job i)))

  module _ (x : ℕ) (e : x ≡ last_below m (is_match job exact label frames)) where
    -- no place has it
    pub number_none : x ≡ 0 → m ≡ first_below m (is_match job exact label frames)
    number_none z = sym (first_none (is_match job exact label frames) m (last_none (is_match job exact label frames) m (sym e ∙ z)))

  -- what stands in the table for a place that has it
  pub number_found : (y s r : ℕ) → y < m → is_match job exact label frames y ≡ true → s ≡ numbers_at exact + y → r ≡ get_or numbers s 0
      → (r ≡ first_below m (is_match job exact label frames)) × (r ≤ m)
  number_found y s r l h q g =
      let v : r ≡ first_below m (is_match job exact label frames) =
      g ∙ ap (λ (a : ℕ). get_or numbers a 0) q ∙ t.named exact y l (match_used job exact label frames y h) ∙ sym (number_same y l h) in
      (v, omega (arith, v, first_le (is_match job exact label frames) m))

-- a place that has the tape has the label
match_label : (job : ℕ → Job) (label frames y : ℕ) → is_match job true label frames y ≡ true → is_match job false label frames y ≡ true
unfolding is_match fits
match_label job label frames y h =
    let l = fits_label true label frames _ _ (match_fits job true label frames y h) in
    simp (match_used job true label frames y h, eq-eqb _ label l)

-- ---- the label, on the way to the tape: a place that has it, or none from here on
pub record Seen (q : ℕ → Bool) (m x seen : ℕ) : Type 0 where
  pub low : seen ≤ m
  pub has : seen ≢ 0 → q (seen - 1) ≡ true
  pub none : seen ≡ 0 → last_below x q ≡ last_below m q

-- the walk that looks for the tape and keeps an eye on the label
pub record Look (job : ℕ → Job) (label frames m x seen : ℕ) : Type 0 where
  pub walk : Seek job true label frames m x
  pub eye : Seen (is_match job false label frames) m x seen

module _ (job : ℕ → Job) (m : ℕ) (numbers : List ℕ) (t : Numbered job m numbers) (label frames : ℕ) where
  abbrev named : ℕ → Bool
  named = is_match job false label frames

  pub look_start : (b x : ℕ) → (b ≡ bucket_of label) × (b < buckets) → x ≡ get_or numbers (heads_at + b) 0 → Look job label frames m x 0
  look_start b x e h =
      let l = seek_start job m numbers t false label frames b x e.0 e.1 h in
      record {
        walk = seek_start job m numbers t true label frames b x e.0 e.1 h;
        eye = record { low = omega arith; has = λ some. absurd (some refl); none = λ _. l.left };
      }

  module _ (x seen : ℕ) (some : 0 < x) (w : Look job label frames m x seen) where
    place_used : used_at job (x - 1) ≡ true
    place_used = (on job m numbers t true label frames x some w.walk).0

    label_here : label_at job (x - 1) ≡ label → named (x - 1) ≡ true
    unfolding is_match fits
    label_here e = simp (place_used, eq-eqb (label_at job (x - 1)) label e)

    label_elsewhere : label_at job (x - 1) ≢ label → named (x - 1) ≡ false
    unfolding is_match fits
    label_elsewhere ne = simp (place_used, ne_eqb (label_at job (x - 1)) label ne)

    eye_next : (y u : ℕ) → y ≡ get_or numbers (links_at + (x - 1)) 0 → u ≡ cond (eqb (label_at job (x - 1)) label) x seen → Seen named m y u
    eye_next y u e eu =
        by_cases (λ b. u ≡ cond b x seen → Seen named m y u) (eqb (label_at job (x - 1)) label)
        (λ h g. record {
          low = omega (arith, w.walk.below);
          has = λ _. let z : u - 1 ≡ x - 1 = omega arith in rw z (label_here (eqb-true (label_at job (x - 1)) label h));
          none = λ z. absurd (omega arith);
        })
        (λ h g. record {
          low = omega (arith, w.eye.low);
          has = λ o. rw g (w.eye.has (λ z. o (g ∙ z)));
          none = λ z.
              let miss = label_elsewhere (eqb-false (label_at job (x - 1)) label h) in
              let turn : suc (x - 1) ≡ x = omega arith in
              ap (λ (i : ℕ). last_below i named) (e ∙ link job m numbers t true label frames x some w.walk)
              ∙ last_skip (in_bucket job (bucket_of label)) named (match_chained job false label frames) (x - 1)
              ∙ sym (last_no named (x - 1) miss) ∙ ap (λ (i : ℕ). last_below i named) turn ∙ w.eye.none (sym g ∙ z);
        })
        eu

    pub look_next : (r : Bool) (l f u y : ℕ) → (l ≡ label_at job (x - 1)) × (f ≡ frames_at job (x - 1)) → r ≡ fits true label frames l f → r ≡ false
        → u ≡ cond (eqb l label) x seen → y ≡ get_or numbers (links_at + (x - 1)) 0 → Look job label frames m y u
    look_next r l f u y e er h eu ey = record {
      walk = seek_next job m numbers t true label frames x some w.walk r y (er ∙ rw (e.0, e.1)) h ey;
      eye = eye_next y u ey (eu ∙ rw e.0);
    }

    pub look_less : (y : ℕ) → y ≡ get_or numbers (links_at + (x - 1)) 0 → y < x
    look_less = seek_less job m numbers t true label frames x some w.walk

    pub look_found : (r : Bool) (l f name tape : ℕ) → (l ≡ label_at job (x - 1)) × (f ≡ frames_at job (x - 1)) → r ≡ fits true label frames l f → r ≡ true
        → name ≡ get_or numbers (x - 1) 0 → tape ≡ get_or numbers (places + (x - 1)) 0 → Sought job label frames m name tape
    look_found r l f name tape e er h a b =
        let lx : x - 1 < m = omega (arith, w.walk.below) in
        let hit : is_match job true label frames (x - 1) ≡ true = tape_here (sym (er ∙ rw (e.0, e.1)) ∙ h) in
        let p = number_found job m numbers t false label frames (x - 1) (x - 1) name lx (match_label job label frames (x - 1) hit) (omega arith) a in
        let q = number_found job m numbers t true label frames (x - 1) (places + (x - 1)) tape lx hit (omega arith) b in
        record { name_first = p.0; tape_first = q.0; name_low = p.1; tape_low = q.1 }
      where
        tape_here : fits true label frames (label_at job (x - 1)) (frames_at job (x - 1)) ≡ true → is_match job true label frames (x - 1) ≡ true
        tape_here g = match_made job true label frames (x - 1) place_used g

  pub look_end : (x seen name : ℕ) → x ≤ 0 → Look job label frames m x seen → name ≡ cond (eqb seen 0) m (get_or numbers (seen - 1) 0)
      → Sought job label frames m name m
  look_end x seen name lx w e =
      by_cases (λ b. name ≡ cond b m (get_or numbers (seen - 1) 0) → Sought job label frames m name m) (eqb seen 0)
      (λ h g.
      let no_label = number_none job m numbers t false label frames 0 (sym (none_left named) ∙ w.eye.none (eqb-true seen 0 h)) refl in
      record { name_first = g ∙ no_label; tape_first = no_tape; name_low = omega arith; tape_low = omega arith })
      (λ h g.
      let o = eqb-false seen 0 h in
      let p = number_found job m numbers t false label frames (seen - 1) (seen - 1) name (omega (arith, w.eye.low)) (w.eye.has o) (omega arith) g in
      record { name_first = p.0; tape_first = no_tape; name_low = p.1; tape_low = omega arith })
      e
    where
      none_left : (q : ℕ → Bool) → last_below x q ≡ 0
      none_left q = let z : x ≡ 0 = omega arith in ap (λ (i : ℕ). last_below i q) z ∙ last_zero q

      no_tape : m ≡ first_below m (is_match job true label frames)
      no_tape = number_none job m numbers t true label frames 0 (sym (none_left (is_match job true label frames)) ∙ w.walk.left) refl
