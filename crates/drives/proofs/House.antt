-- Each row of the house table is one computed test of `supports`: at M8, at the five columns of L, and at the number that is no medium. Every label names one
-- of these by its last two characters, so the test speaks of all labels.
use mathlib.Core.Bool.{Bool, ◌&&◌, ◌||◌, cond, false, not, true, true≢false}
use mathlib.Core.List.{List}
use mathlib.Core.Path.{◌∙◌, ◌≡◌, ap, ap₂, refl, subst, sym}
use Prim.Native.Nat.{◌+◌, ◌-◌, ◌<◌, ◌≤◌, ℕ}
use native.Mathlib.Omega.{arith}
use lib.Dec.{eqb, lit<}
use borrow.Author.Tests.{eqb-true, not-true}
use Rattle.base.proofs.Members.{all_in_lem, reflect_member}
use Rattle.base.proofs.Reflect.{and_true, by_cases, reflect_and, reflect_as, reflect_eq}
use Rattle.base.proofs.Search.{all_at}
use Rattle.base.specs.Lists.{In, all_in, any_in}
use Rattle.base.specs.Reflect.{Reflects}
use Rattle.base.specs.Search.{all_below}
use Rattle.drives.proofs.Table.{agree, agree_eq}
use Rattle.drives.specs.Drives.{is_drive, supports}
use Rattle.drives.specs.House.{Ending, House, M, Row, ending_of}
use Rattle.record.proofs.Ranges.{reflect_between}
use Rattle.record.specs.Labels.{M8, is_between, media, medium_of}

abbrev is_m8 : Ending → Bool
is_m8 e = eqb e.letter 77 && eqb e.digit 56

abbrev is_l : Ending → Bool
is_l e = eqb e.letter 76 && is_between 53 57 e.digit

-- the medium that an ending names, as `medium_of` has it
abbrev medium_by : Ending → ℕ
medium_by e = cond (is_m8 e) M8 (cond (is_l e) (e.digit - 53) media)

medium_by_lem : (label : ℕ) → medium_of label ≡ medium_by (ending_of label)
unfolding medium_of
medium_by_lem label = refl

-- an ending is in a row
abbrev same : Ending → Ending → Bool
same e x = eqb e.letter x.letter && eqb e.digit x.digit

reflect_same : (e x : Ending) → Reflects (same e x) (e ≡ x)
reflect_same e x =
    reflect_as (reflect_and (reflect_eq e.letter x.letter) (reflect_eq e.digit x.digit))
    (λ h. ap₂ (λ (c d : ℕ). record { letter = c; digit = d }) h.0 h.1)
    (λ h. (ap (λ (y : Ending). y.letter) h, ap (λ (y : Ending). y.digit) h))

abbrev listed : Ending → List Ending → Bool
listed e row = any_in (same e) row

reflect_listed : (e : Ending) (row : List Ending) → Reflects (listed e row) (In e row)
reflect_listed e row = reflect_member e row (reflect_same e)

-- the test of a row: it lists media alone, and `supports` says of each of the six what the row says, and no of the number that is none
row_right : Bool → ℕ → List Ending → Bool
row_right writing d row =
    all_in (λ e. is_m8 e || is_l e) row
    && (not (supports writing d media)
    && (agree (supports writing d M8) (listed (M 8) row)
    && all_below 5 (λ k. agree (supports writing d k) (listed (record { letter = 76; digit = 53 + k }) row))))

module _ (writing : Bool) (d : ℕ) (row : List Ending) (right : row_right writing d row ≡ true) where
  -- the four parts of the test
  parts : (all_in (λ e. is_m8 e || is_l e) row ≡ true) × ((supports writing d media ≡ false) × ((agree (supports writing d M8) (listed (M 8) row) ≡ true)
      × (all_below 5 (λ k. agree (supports writing d k) (listed (record { letter = 76; digit = 53 + k }) row)) ≡ true)))
  unfolding row_right
  parts =
      let a = and_true (all_in (λ e. is_m8 e || is_l e) row) _ right in
      let b = and_true (not (supports writing d media)) _ a.1 in
      (a.0, (not-true _ b.0, and_true _ _ b.1))

  -- an ending x of which `supports` says what the row says
  as_listed : (e x : Ending) (m : ℕ) → e ≡ x → agree (supports writing d m) (listed x row) ≡ true → Reflects (supports writing d m) (In e row)
  as_listed e x m q a =
      subst (λ (b : Bool). Reflects b (In e row)) (sym (agree_eq _ _ a))
      (subst (λ (y : Ending). Reflects (listed x row) (In y row)) (sym q) (reflect_listed x row))

  row_by : (e : Ending) → Reflects (supports writing d (medium_by e)) (In e row)
  row_by e =
      by_cases (λ b. Reflects (supports writing d (cond b M8 (cond (is_l e) (e.digit - 53) media))) (In e row)) (is_m8 e)
      (λ t. as_listed e (M 8) M8 ((reflect_same e (M 8)).sound t) parts.1.1.0)
      (λ n.
      by_cases (λ b. Reflects (supports writing d (cond b (e.digit - 53) media)) (In e row)) (is_l e)
      (λ t.
      let h = (reflect_and (reflect_eq e.letter 76) (reflect_between 53 57 e.digit)).sound t in
      let q : e.digit ≡ 53 + (e.digit - 53) = omega (arith, h.1.0) in
      as_listed e (record { letter = 76; digit = 53 + (e.digit - 53) }) (e.digit - 53) (ap₂ (λ (c k : ℕ). record { letter = c; digit = k }) h.0 q)
      (all_at (λ k. agree (supports writing d k) (listed (record { letter = 76; digit = 53 + k }) row)) 5 parts.1.1.1 (e.digit - 53)
      (omega (arith, h.1.0, h.1.1))))
      (λ f. record {
        sound = λ s. absurd (true≢false (sym s ∙ parts.1.0));
        complete = λ m. absurd (true≢false (sym (all_in_lem (λ e. is_m8 e || is_l e) row parts.0 e m) ∙ simp (n, f)));
      }))

  row_of : (label : ℕ) → Reflects (supports writing d (medium_of label)) (In (ending_of label) row)
  row_of label = subst (λ (m : ℕ). Reflects (supports writing d m) (In (ending_of label) row)) (sym (medium_by_lem label)) (row_by (ending_of label))

row_right_lem : (d : ℕ) (read written : List Ending) → row_right false d read ≡ true → row_right true d written ≡ true → Row d read written
row_right_lem d read written r w = record { reads = row_of false d read r; writes = row_of true d written w }

-- ---- the drives
only_drives : (writing : Bool) (d m : ℕ) → supports writing d m ≡ true → (5 ≤ d) × (d ≤ 9)
unfolding supports is_drive
only_drives writing d m e = (reflect_between 5 9 d).sound (and_true (is_between 5 9 d) _ e).0

-- M8, at each of the five
m8_right : Bool → Bool
m8_right writing = all_below 5 (λ k. agree (supports writing (5 + k) M8) (eqb (5 + k) 8))

m8_right_lem : (writing : Bool) → m8_right writing ≡ true
unfolding m8_right all_below supports is_drive is_between
m8_right_lem true = refl
m8_right_lem false = refl

m8_at : (writing : Bool) (k : ℕ) → k < 5 → supports writing (5 + k) M8 ≡ eqb (5 + k) 8
unfolding m8_right
m8_at writing k h = agree_eq _ _ (all_at (λ k. agree (supports writing (5 + k) M8) (eqb (5 + k) 8)) 5 (m8_right_lem writing) k h)

m8_drive : (writing : Bool) (d : ℕ) → Reflects (supports writing d M8) (d ≡ 8)
m8_drive writing d = record {
  sound = λ e.
      let h = only_drives writing d M8 e in
      let q : 5 + (d - 5) ≡ d = omega (arith, h.0) in
      eqb-true d 8 (subst (λ (x : ℕ). eqb x 8 ≡ true) q
      (sym (m8_at writing (d - 5) (omega (arith, h.0, h.1))) ∙ ap (λ (x : ℕ). supports writing x M8) q ∙ e));
  complete = λ e. ap (λ (x : ℕ). supports writing x M8) e ∙ m8_at writing 3 (lit< tt);
}

medium_m8 : (label : ℕ) → ending_of label ≡ M 8 → medium_of label ≡ M8
medium_m8 label e = medium_by_lem label ∙ ap medium_by e

pub house : House
unfolding row_right all_below supports is_drive is_between
house = record {
  five = row_right_lem 5 _ _ refl refl;
  six = row_right_lem 6 _ _ refl refl;
  seven = row_right_lem 7 _ _ refl refl;
  eight = row_right_lem 8 _ _ refl refl;
  nine = row_right_lem 9 _ _ refl refl;
  none = λ writing d label. only_drives writing d (medium_of label);
  m8 = λ writing d label e. subst (λ (m : ℕ). Reflects (supports writing d m) (d ≡ 8)) (sym (medium_m8 label e)) (m8_drive writing d);
}
