-- How tests that decide claims are put together: each connective of Bool decides that of claims, and each search
-- decides that some, every or the least number has the claim. A twin of a check is proved by composing these.
use mathlib.Core.Bool.{Bool, ◌&&◌, ◌||◌, cond, false, not, true, true≢false}
use mathlib.Core.Logic.{◌⊎◌, inl, inr, ⊎_elim}
use mathlib.Core.Path.{◌∙◌, ◌≡◌, refl, sym}
use Prim.Native.Nat.{◌<◌, ◌≤◌, ℕ}
use lib.Dec.{eqb, leb, ltb}
use borrow.Author.Tests.{eq-eqb, eqb-true, le-leb, leb-true, lt-ltb, ltb-true}
use Rattle.base.specs.Reflect.{Reflects}

pub reflect_eq : (a b : ℕ) → Reflects (eqb a b) (a ≡ b)
reflect_eq a b = record { sound = eqb-true a b; complete = eq-eqb a b }

pub reflect_le : (a b : ℕ) → Reflects (leb a b) (a ≤ b)
reflect_le a b = record { sound = leb-true a b; complete = le-leb a b }

pub reflect_lt : (a b : ℕ) → Reflects (ltb a b) (a < b)
reflect_lt a b = record { sound = ltb-true a b; complete = lt-ltb a b }

-- a test decides that it is true
pub reflect_true : (b : Bool) → Reflects b (b ≡ true)
reflect_true b = record { sound = λ e. e; complete = λ e. e }

pub and_true : (a b : Bool) → (a && b) ≡ true → (a ≡ true) × (b ≡ true)
and_true true b e = (refl, e)
and_true false b e = absurd (true≢false (sym e))

pub and_false : (a : Bool) → (a && false) ≡ false
and_false true = refl
and_false false = refl

pub or_true : (a b : Bool) → (a || b) ≡ true → (a ≡ true) ⊎ (b ≡ true)
or_true true b e = inl refl
or_true false b e = inr e

pub or_false : (a b : Bool) → (a || b) ≡ false → (a ≡ false) × (b ≡ false)
or_false true b e = absurd (true≢false e)
or_false false b e = (refl, e)

pub or_intro : (a b : Bool) → (a ≡ true) ⊎ (b ≡ true) → (a || b) ≡ true
or_intro true b e = refl
or_intro false b (inl e) = absurd (true≢false (sym e))
or_intro false b (inr e) = e

-- a test has one of two answers, and where it is asked the answer is known
pub by_cases : (P : Bool → Type 0) (b : Bool) → (b ≡ true → P true) → (b ≡ false → P false) → P b
by_cases P true t f = t refl
by_cases P false t f = f refl

-- the same, of a claim that does not name the answer
pub by_test : {P : Type 0} (b : Bool) → (b ≡ true → P) → (b ≡ false → P) → P
by_test {P} b = by_cases (λ _. P) b

-- what is not false is true
pub not_false_true : (b : Bool) → (b ≡ false → ⊥) → b ≡ true
not_false_true true h = refl
not_false_true false h = absurd (h refl)

pub not_true_false : (b : Bool) → (b ≡ true → ⊥) → b ≡ false
not_true_false true h = absurd (h refl)
not_true_false false h = refl

-- two tests that hold in the same cases
pub same_truth : (a b : Bool) → (a ≡ true → b ≡ true) → (b ≡ true → a ≡ true) → a ≡ b
same_truth a b f g = by_cases (λ t. t ≡ b) a (λ e. sym (f e)) (λ e. sym (not_true_false b (λ h. true≢false (sym (g h) ∙ e))))

-- a test that decides a claim is false exactly where the claim fails
pub refuted : {b : Bool} {P : Type 0} → Reflects b P → b ≡ false → P → ⊥
refuted r e p = true≢false (sym (r.complete p) ∙ e)

pub refutes : {b : Bool} {P : Type 0} → Reflects b P → (P → ⊥) → b ≡ false
refutes {b} r h = not_true_false b (λ e. h (r.sound e))

pub reflect_and : {a b : Bool} {P Q : Type 0} → Reflects a P → Reflects b Q → Reflects (a && b) (P × Q)
reflect_and {a} {b} p q = record {
  sound = λ e. let h = and_true a b e in (p.sound h.0, q.sound h.1);
  complete = λ h. simp (p.complete h.0, q.complete h.1);
}

pub reflect_or : {a b : Bool} {P Q : Type 0} → Reflects a P → Reflects b Q → Reflects (a || b) (P ⊎ Q)
reflect_or {a} {b} p q = record {
  sound = λ e. ⊎_elim (λ h. inl (p.sound h)) (λ h. inr (q.sound h)) (or_true a b e);
  complete = λ h. or_intro a b (⊎_elim (λ x. inl (p.complete x)) (λ x. inr (q.complete x)) h);
}

-- a negated test decides that the test is false
pub reflect_false : (b : Bool) → Reflects (not b) (b ≡ false)
reflect_false true = record { sound = λ e. sym e; complete = λ e. sym e }
reflect_false false = record { sound = λ e. refl; complete = λ e. refl }

pub reflect_not : {b : Bool} {P : Type 0} → Reflects b P → Reflects (not b) (P → ⊥)
reflect_not {b} r = record { sound = λ e. refuted r ((reflect_false b).sound e); complete = λ h. simp (refutes r h) }

-- the same test, of a claim that says the same
pub reflect_as : {b : Bool} {P Q : Type 0} → Reflects b P → (P → Q) → (Q → P) → Reflects b Q
reflect_as r f g = record { sound = λ e. f (r.sound e); complete = λ q. r.complete (g q) }

-- a choice by a test
pub reflect_cond : {a b c : Bool} {P Q R : Type 0} → Reflects a P → Reflects b Q → Reflects c R
    → Reflects (cond a b c) ((P × Q) ⊎ ((P → ⊥) × R))
reflect_cond {a} {b} {c} {P} {Q} {R} p q r =
    by_cases (λ t. Reflects (cond t b c) ((P × Q) ⊎ ((P → ⊥) × R))) a
    (λ e. record { sound = λ h. inl (p.sound e, q.sound h); complete = ⊎_elim (λ x. q.complete x.1) (λ x. absurd (x.0 (p.sound e))) })
    (λ e. record { sound = λ h. inr (refuted p e, r.sound h); complete = ⊎_elim (λ x. absurd (refuted p e x.0)) (λ x. r.complete x.1) })

-- the same, said by what each side of the test asks
pub reflect_if : {a b c : Bool} {P Q R : Type 0} → Reflects a P → Reflects b Q → Reflects c R
    → Reflects (cond a b c) ((P → Q) × ((P → ⊥) → R))
reflect_if {a} {b} {c} {P} {Q} {R} p q r =
    by_cases (λ t. Reflects (cond t b c) ((P → Q) × ((P → ⊥) → R))) a
    (λ e. record { sound = λ h. ((λ x. q.sound h), (λ n. absurd (n (p.sound e)))); complete = λ h. q.complete (h.0 (p.sound e)) })
    (λ e. record { sound = λ h. ((λ x. absurd (refuted p e x)), (λ n. r.sound h)); complete = λ h. r.complete (h.1 (refuted p e)) })

-- a decided claim that can't fail holds
pub decided : {b : Bool} {P : Type 0} → Reflects b P → ((P → ⊥) → ⊥) → P
decided {b} r h = r.sound (not_false_true b (λ e. h (refuted r e)))

-- tests of one claim are equal
pub reflects_same : {a b : Bool} {P : Type 0} → Reflects a P → Reflects b P → a ≡ b
reflects_same {a} {b} p q = same_truth a b (λ e. q.complete (p.sound e)) (λ e. p.complete (q.sound e))
