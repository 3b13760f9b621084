-- The searches for a label, a tape and a conflict decide what specs/Meaning.antt says.
use mathlib.Core.Bool.{true}
use mathlib.Core.Logic.{inl, inr, ⊎_elim}
use mathlib.Core.Path.{◌≡◌, refl, subst, sym}
use Prim.Native.Nat.{◌+◌, ℕ}
use Rattle.base.proofs.Reflect.{reflect_and, reflect_as, reflect_eq, reflect_not, reflect_or}
use Rattle.base.proofs.Search.{reflect_any}
use Rattle.base.specs.Reflect.{Reflects}
use Rattle.conflicts.specs.Conflicts.{conflicting, is_label_at, is_rival, is_tape_at, label_in, makes_tape, shares_at, shares_in}
use Rattle.record.specs.Entries.{frames_of, label_of}
use Rattle.conflicts.specs.Meaning.{Conflicting, LabelIn, MakesTape, Rivals, SharesIn}
use Rattle.record.specs.declared.Job.{Job}
use Rattle.record.proofs.Meaning.{reflect_used}

-- ---- conflicts
pub reflect_label_in : (half : ℕ) (j : Job) (label : ℕ) → Reflects (label_in half j label) (LabelIn half j label)
unfolding label_in is_label_at
reflect_label_in half j label =
    reflect_any 4 (λ i h. reflect_and (reflect_used j (half + i)) (reflect_eq (label_of j (half + i)) label))

pub reflect_makes : (j : Job) (label frames : ℕ) → Reflects (makes_tape j label frames) (MakesTape j label frames)
unfolding makes_tape is_tape_at is_label_at
reflect_makes j label frames =
    reflect_any 4 (λ i h. reflect_and (reflect_and (reflect_used j (4 + i)) (reflect_eq (label_of j (4 + i)) label)) (reflect_eq (frames_of j (4 + i)) frames))

reflect_shares : (half : ℕ) (a b : Job) → Reflects (shares_in half a b) (SharesIn half a b)
unfolding shares_in shares_at
reflect_shares half a b =
    reflect_as (reflect_any 4 (λ i h. reflect_and (reflect_used a (half + i)) (reflect_label_in half b (label_of a (half + i)))))
    (λ s. (label_of a (half + s.which), (record { which = s.which; below = s.below; has = (s.has.0, refl) }, s.has.1)))
    (λ s. record {
      which = s.1.0.which;
      below = s.1.0.below;
      has = (s.1.0.has.0, subst (λ (l : ℕ). LabelIn half b l) (sym s.1.0.has.1) s.1.1);
    })

pub reflect_conflicting : (a b : Job) → Reflects (conflicting a b) (Conflicting a b)
unfolding conflicting
reflect_conflicting a b = reflect_or (reflect_shares 0 a b) (reflect_shares 4 a b)

-- to conflict goes both ways
shares_sym : (a b : Job) → Conflicting a b → Conflicting b a
shares_sym a b h = ⊎_elim (λ s. inl (s.0, (s.1.1, s.1.0))) (λ s. inr (s.0, (s.1.1, s.1.0))) h

pub conflicting_sym : (a b : Job) → conflicting a b ≡ true → conflicting b a ≡ true
conflicting_sym a b e = (reflect_conflicting b a).complete (shares_sym a b ((reflect_conflicting a b).sound e))

-- ---- rivals
pub reflect_rival : (job : ℕ → Job) (i k : ℕ) → Reflects (is_rival job i k) (Rivals job i k)
unfolding is_rival
reflect_rival job i k =
    reflect_as (reflect_and (reflect_not (reflect_eq i k)) (reflect_conflicting (job i) (job k)))
    (λ h. record { different = h.0; shares = h.1 })
    (λ h. (h.different, h.shares))

-- to be rivals goes both ways
pub rivals_sym : (job : ℕ → Job) (i k : ℕ) → Rivals job i k → Rivals job k i
rivals_sym job i k h = record { different = λ e. h.different (sym e); shares = shares_sym (job i) (job k) h.shares }
