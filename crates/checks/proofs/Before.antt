-- A well-formed record stays so under a wider claim of labels, and a label that does not end in `M8` names the medium that it named.
use mathlib.Core.Bool.{Bool, ◌&&◌, ◌||◌, false, true}
use mathlib.Core.Logic.{◌⊎◌, inl, inr, ⊎_elim}
use mathlib.Core.Path.{◌∙◌, ◌≡◌, ap, refl, sym}
use Prim.Native.Nat.{◌<◌, ℕ}
use lib.Dec.{eqb}
use borrow.Author.Tests.{lt-ltb, ltb-true}
use Rattle.base.proofs.Reflect.{and_false, reflect_as, refutes}
use Rattle.record.proofs.Meaning.{reflect_m8, reflect_type_l, type_l_other}
use Rattle.drives.specs.Drives.{is_drive, is_in_table, supports}
use Rattle.record.specs.Entries.{label_of}
use Rattle.record.specs.Labels.{M8, medium_of, type_l}
use Rattle.record.specs.Meaning.{EndsM8, Label, Named, Used}
use Rattle.record.specs.declared.Job.{Job}
use Rattle.checks.proofs.Meaning.{reflect_formed, reflect_unsupported}
use Rattle.checks.specs.Before.{SinceM8, WasLabel, took}
use Rattle.checks.specs.Meaning.{UnsupportedAt, WellFormed, takes}

-- a claim that each used label has may take the place of another
formed_as : {P Q : ℕ → Type 0} (j : Job) → ((i : ℕ) → i < 8 → Used j i → P (label_of j i) → Q (label_of j i)) → WellFormed P j → WellFormed Q j
formed_as j f h = record {
  drive = h.drive;
  inputs = h.inputs;
  outputs = h.outputs;
  trimmed = h.trimmed;
  used = λ i l u. let e = h.used i l u in (f i l u e.0, e.1);
  unused = h.unused;
}

-- and so may what a drive can do, where it can do the same
unsupported_as : (can may : Bool → ℕ → ℕ → Bool) (j : Job) (i : ℕ)
    → (Used j i → (w : Bool) → may w j.drive (label_of j i) ≡ can w j.drive (label_of j i))
    → UnsupportedAt can j i → UnsupportedAt may j i
unsupported_as can may j i same h =
    (h.0, ⊎_elim (λ e. inl (e.0, same h.0 true ∙ e.1)) (λ e. inr (e.0, same h.0 false ∙ e.1)) h.1)

-- ---- labels
was_label : (l : ℕ) → WasLabel l → Label l
was_label l h = record { name = h.name; ending = inl ((reflect_type_l l).sound (lt-ltb _ _ h.ending)) }

m8_label : (l : ℕ) → Named EndsM8 l → Label l
m8_label l h = record { name = h.name; ending = inr h.ending }

label_either : (l : ℕ) → Label l → WasLabel l ⊎ Named EndsM8 l
label_either l h =
    ⊎_elim
    (λ e. inl (record { name = h.name; ending = ltb-true _ _ ((reflect_type_l l).complete e) }))
    (λ e. inr (record { name = h.name; ending = e }))
    h.ending

-- ---- media
medium_same : (l : ℕ) → (EndsM8 l → ⊥) → medium_of l ≡ type_l l
unfolding medium_of
medium_same l n = simp (refutes (reflect_m8 l) n)

table_same : (w : Bool) (d m : ℕ) → eqb m M8 ≡ false → supports w d m ≡ (is_drive d && is_in_table w d m)
unfolding supports
table_same w d m e = simp (e, and_false, or_false)
  where
    or_false : (b : Bool) → (b || false) ≡ b
    or_false true = refl
    or_false false = refl

took_same : (w : Bool) (d l : ℕ) → (EndsM8 l → ⊥) → takes w d l ≡ took w d l
took_same w d l n = ap (λ (m : ℕ). supports w d m) (medium_same l n) ∙ table_same w d (type_l l) (type_l_other l)

pub since_m8 : (j : Job) → SinceM8 j
since_m8 j = record {
  kept = λ h. (reflect_formed j).complete (formed_as j (λ i l u. was_label (label_of j i)) h);
  opened =
      reflect_as (reflect_formed j)
      (formed_as j (λ i l u. label_either (label_of j i)))
      (formed_as j (λ i l u. ⊎_elim (was_label (label_of j i)) (m8_label (label_of j i))));
  formed = λ n.
      reflect_as (reflect_formed j)
      (formed_as j (λ i l u h. ⊎_elim (λ w. w) (λ m. absurd (n i l u m.ending)) (label_either (label_of j i) h)))
      (formed_as j (λ i l u. was_label (label_of j i)));
  unsupported = λ n i l.
      let same : Used j i → (w : Bool) → takes w j.drive (label_of j i) ≡ took w j.drive (label_of j i) = λ u w. took_same w _ _ (n i l u) in
      reflect_as (reflect_unsupported j i)
      (unsupported_as takes took j i (λ u w. sym (same u w)))
      (unsupported_as took takes j i same);
}
