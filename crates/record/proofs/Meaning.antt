-- The tests of entries and labels decide what specs/Meaning.antt says: their connectives are read off one by one.
use mathlib.Core.Bool.{Bool, ◌&&◌, cond, false, true, true≢false}
use mathlib.Core.Logic.{◌⊎◌, inl, inr, ⊎_elim}
use mathlib.Core.Path.{◌≡◌, refl, sym}
use Prim.Native.Nat.{◌-◌, ◌<◌, ◌≤◌, ℕ}
use native.Mathlib.Omega.{arith}
use lib.Dec.{eqb, ltb}
use borrow.Author.Tests.{lt-ltb, ne_eqb}
use Rattle.base.proofs.Reflect.{reflect_and, reflect_as, reflect_cond, reflect_eq, reflect_lt, reflect_or}
use Rattle.base.proofs.Reflect.{by_cases, refuted}
use Rattle.base.proofs.Search.{reflect_all}
use Rattle.base.specs.Reflect.{Reflects}
use Rattle.record.proofs.Ranges.{reflect_between}
use Rattle.record.specs.Entries.{is_used}
use Rattle.record.specs.Labels.{M8, char_at, is_alphanumeric, is_between, is_label, is_m8, media, medium_of, type_l}
use Rattle.record.specs.Meaning.{Alphanumeric, EndsL, EndsM8, Label, Used}
use Rattle.record.specs.declared.Job.{Job}

pub reflect_used : (j : Job) (i : ℕ) → Reflects (is_used j i) (Used j i)
unfolding is_used
reflect_used j i =
    reflect_as (reflect_cond (reflect_lt i 4) (reflect_lt i j.inputs) (reflect_lt (i - 4) j.outputs))
    (⊎_elim (λ h. inl h) (λ h. inr (not_lt h.0, h.1)))
    (⊎_elim (λ h. inl h) (λ h. inr ((λ l. absurd (omega (arith, h.0, l))), h.1)))
  where
    not_lt : (i < 4 → ⊥) → 4 ≤ i
    not_lt h = omega (arith, h)

reflect_alphanumeric : (c : ℕ) → Reflects (is_alphanumeric c) (Alphanumeric c)
unfolding is_alphanumeric
reflect_alphanumeric c = reflect_or (reflect_between 48 57 c) (reflect_between 65 90 c)

-- a choice of two media by a test
medium_by_lem : {P Q : Type 0} (t : Bool) (m n : ℕ) → Reflects t P → (P → m < media) → Reflects (ltb n media) Q
    → Reflects (ltb (cond t m n) media) (P ⊎ Q)
medium_by_lem true m n r h q = record { sound = λ e. inl (r.sound refl); complete = λ p. lt-ltb _ _ (h (r.sound refl)) }
medium_by_lem false m n r h q = record { sound = λ e. inr (q.sound e); complete = ⊎_elim (λ p. absurd (refuted r refl p)) q.complete }

-- `media` is no medium
no_medium : Reflects (ltb media media) ⊥
no_medium = record { sound = λ e. absurd (true≢false (sym e)); complete = λ p. absurd p }

pub reflect_m8 : (l : ℕ) → Reflects (is_m8 l) (EndsM8 l)
reflect_m8 l = reflect_and (reflect_eq (char_at l 6) 77) (reflect_eq (char_at l 7) 56)

reflect_l : (l : ℕ) → Reflects (eqb (char_at l 6) 76 && is_between 53 57 (char_at l 7)) (EndsL l)
reflect_l l = reflect_and (reflect_eq (char_at l 6) 76) (reflect_between 53 57 (char_at l 7))

pub reflect_type_l : (l : ℕ) → Reflects (ltb (type_l l) media) (EndsL l)
reflect_type_l l =
    reflect_as
    (medium_by_lem _ (char_at l 7 - 53) media (reflect_l l) (λ p. omega (arith, p.1.0, p.1.1)) no_medium)
    (⊎_elim (λ p. p) absurd)
    inl

-- `L` and a digit never name M8
pub type_l_other : (l : ℕ) → eqb (type_l l) M8 ≡ false
type_l_other l =
    by_cases (λ t. eqb (cond t (char_at l 7 - 53) media) M8 ≡ false) _
    (λ t. let d = (reflect_l l).sound t in ne_eqb (char_at l 7 - 53) M8 (λ q. absurd (omega (arith, d.1.0, d.1.1, q))))
    (λ t. refl)

pub reflect_label : (l : ℕ) → Reflects (is_label l) (Label l)
unfolding is_label medium_of
reflect_label l =
    reflect_as
    (reflect_and
    (reflect_all 6 (λ i h. reflect_alphanumeric (char_at l i)))
    (medium_by_lem (is_m8 l) M8 (type_l l) (reflect_m8 l) (λ p. omega arith) (reflect_type_l l)))
    (λ h. record { name = h.0; ending = ⊎_elim inr inl h.1 })
    (λ h. (h.name, ⊎_elim inr inl h.ending))
