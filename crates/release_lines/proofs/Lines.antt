-- Lines written one after another are the lines of the lists one after another; and there is room, since a job has four inputs at most.
use mathlib.Core.Bool.{Bool, cond, false, true}
use mathlib.Core.List.{List, [], ◌++◌, ◌∷◌, append_assoc, append-nil, map}
use mathlib.Core.Path.{◌∙◌, ◌≡◌, ap, refl, subst, sym}
use Prim.Native.Nat.{◌*◌, ◌+◌, ◌≤◌, suc, zero, ℕ}
use native.Mathlib.Nat.{add-zero, zero-add}
use native.Mathlib.Omega.{arith}
use lib.ListN.{get_or, length, length-append}
use Rattle.base.proofs.Members.{map_append}
use Rattle.base.proofs.Reflect.{by_cases}
use Rattle.conflicts.proofs.Tapes.{used_append}
use Rattle.conflicts.specs.Tapes.{used_from}
use Rattle.record.specs.Entries.{is_used, no_entry}
use Rattle.record.specs.declared.Entry.{Entry}
use Rattle.record.specs.declared.Job.{Job}
use Rattle.consequences.specs.Freed.{Freed}
use Rattle.digits.proofs.Writing.{then}
use Rattle.digits.specs.Digits.{Put}
use Rattle.release_lines.specs.Tapes.{Listed, of_job, tape_line, tape_lines}
use Rattle.release_lines.specs.declared.Cursor.{Cursor}

lines_append : (xs ys : List Freed) → tape_lines (xs ++ ys) ≡ tape_lines xs ++ tape_lines ys
lines_append [] ys = refl
lines_append (x ∷ xs) ys = ap (λ (t : List ℕ). tape_line x ++ t) (lines_append xs ys) ∙ sym (append_assoc (tape_line x) (tape_lines xs) (tape_lines ys))

pub listed_none : (o : List ℕ) (c : Cursor) → Listed o c [] o c
listed_none o c = record { put = record { moved = sym (add-zero c.at); wrote = refl }; counted = sym (add-zero c.count); short = omega arith }

pub listed_on : {o p q : List ℕ} {c d e : Cursor} (xs ys : List Freed) → Listed o c xs p d → Listed p d ys q e → Listed o c (xs ++ ys) q e
listed_on {o} {p} {q} {c} {d} {e} xs ys a b = record {
  put = subst (λ (t : List ℕ). Put o c.at t q e.at) (sym (lines_append xs ys)) (then a.put b.put);
  counted = omega (arith, a.counted, b.counted, length-append xs ys);
  short = omega (arith, a.short, b.short, length-append xs ys);
}

-- one tape more
pub listed_one : {o p : List ℕ} {c : Cursor} {r n : ℕ} (x : Freed) → Put o c.at (tape_line x) p r → r ≤ c.at + 25 → n ≡ c.count + 1
    → Listed o c (x ∷ []) p (record { at = r; count = n })
listed_one {o} {p} {c} {r} x w h e = record {
  put = subst (λ (t : List ℕ). Put o c.at t p r) (sym (append-nil (tape_line x))) w;
  counted = e;
  short = h;
}

-- ---- how many there are
used_few : (j : Job) (i n : ℕ) → length (used_from j i n) ≤ n
unfolding used_from
used_few j i zero = omega arith
used_few j i (suc n) =
    let rest = used_few j (suc i) n in
    by_cases (λ b. length (cond b (get_or j.entries i no_entry ∷ used_from j (suc i) n) (used_from j (suc i) n)) ≤ suc n) (is_used j i)
    (λ e. omega (arith, rest)) (λ e. omega (arith, rest))

-- a tape of job k
abbrev of : ℕ → Entry → Freed
of k t = record { tape = t; job = k }

length_map : {A B : Type 0} (f : A → B) (xs : List A) → length (map f xs) ≡ length xs
length_map f [] = refl
length_map f (x ∷ xs) = ap suc (length_map f xs)

pub job_few : (k : ℕ) (j : Job) (i n : ℕ) → length (of_job k (used_from j i n)) ≤ n
job_few k j i n = omega (arith, length_map (of k) (used_from j i n), used_few j i n)

-- ---- from one entry to the next
pub job_on : (k : ℕ) (j : Job) (n : ℕ) → of_job k (used_from j 0 (n + 1)) ≡ of_job k (used_from j 0 n) ++ of_job k (used_from j n 1)
job_on k j n =
    let e : used_from j 0 (n + 1) ≡ used_from j 0 n ++ used_from j n 1 = used_append j 0 n 1 ∙ rw zero-add in
    ap (of_job k) e ∙ map_append (of k) (used_from j 0 n) (used_from j n 1)

pub inputs_first : (o : List ℕ) (c : Cursor) (k : ℕ) (j : Job) → Listed o c (of_job k (used_from j 0 0)) o c
unfolding used_from
inputs_first o c k j = listed_none o c

-- one entry, where it is used
pub entry_listed : {o p : List ℕ} {c : Cursor} {r : ℕ} (k : ℕ) (j : Job) (e : ℕ) (u : Bool) → u ≡ is_used j e → u ≡ true
    → Put o c.at (tape_line (of k (get_or j.entries e no_entry))) p r → r ≤ c.at + 25
    → Listed o c (of_job k (used_from j e 1)) p (record { at = r; count = c.count + 1 })
unfolding used_from
entry_listed k j e u q t w h = rw (sym q ∙ t) (listed_one _ w h refl)

pub entry_skipped : (o : List ℕ) (c : Cursor) (k : ℕ) (j : Job) (e : ℕ) (u : Bool) → u ≡ is_used j e → u ≡ false → Listed o c (of_job k (used_from j e 1)) o c
unfolding used_from
entry_skipped o c k j e u q f = rw (sym q ∙ f) (listed_none o c)

module _ {o p : List ℕ} {c d : Cursor} (k : ℕ) (j : Job) (e : ℕ) (a : Listed o c (of_job k (used_from j 0 e)) p d) where
  pub inputs_on : {q : List ℕ} {f : Cursor} → Listed p d (of_job k (used_from j e 1)) q f → Listed o c (of_job k (used_from j 0 (e + 1))) q f
  inputs_on {q} {f} b =
      subst (λ (xs : List Freed). Listed o c xs q f) (sym (job_on k j e)) (listed_on (of_job k (used_from j 0 e)) (of_job k (used_from j e 1)) a b)

  pub inputs_room : (d.at ≤ c.at + 25 * e) × (d.count ≤ c.count + e)
  inputs_room = let few = job_few k j 0 e in (omega (arith, few, a.short), omega (arith, few, a.counted))
