-- What lending a journal does: where the lent bytes overlap the booked ones they agree, so the booked records that lie inside are
-- read as they are; a step that books nothing leaves the booked bytes, however short the lent journal, and one that books a record
-- appends it. Every journal that agrees with the booked bytes is lent by some event, and only such.
use mathlib.Core.Bool.{cond}
use mathlib.Core.List.{List, [], ◌++◌, ◌∷◌, append_assoc}
use mathlib.Core.Path.{◌∙◌, ◌≡◌, ap, ap₂, refl, sym}
use Prim.Native.Nat.{◌+◌, ◌<◌, ◌≤◌, suc, zero, ℕ}
use native.Mathlib.Nat.{le_of_suc-le-suc, not-suc-le-zero}
use native.Mathlib.Numerals.{add-one}
use native.Mathlib.Omega.{arith}
use lib.ListN.{get_or-eq_default, drop, get_or, length, length-append, length-drop, length-take, take}
use lib.Seq.{drop-append-le, drop-drop, take-append-le, take_at, take-length, take-take}
use Rattle.base.proofs.Lists.{take_drop}
use Rattle.base.proofs.Reflect.{by_cases, refuted}
use Rattle.base.specs.Reflect.{Reflects}
use Rattle.codec.proofs.Sizes.{place_before, place_first, place_next, place_suc}
use Rattle.codec.specs.Codec.{job_of, place_of, record_size}
use Rattle.journal.proofs.Booked.{reflect_booked}
use Rattle.ledger.specs.Demand3.{records_in}
use Rattle.journal.specs.Journal.{Booked, is_booked, job_at, put_at, record_at, slot_at}
use Rattle.ledger.specs.Register.{tabled}
use Rattle.ledger.specs.Worlds.{lend, overlay}

-- ---- the lent journal and the booked bytes
prefix : (c size : ℕ) (bs xs : List ℕ) → c ≤ length bs → c ≤ length (lend bs size xs) → take c (lend bs size xs) ≡ take c bs
unfolding lend
prefix c size bs xs h h' =
    let s : c ≤ size = omega (arith, length-take size (bs ++ xs)) in
    take-take c size (bs ++ xs) s ∙ take-append-le c bs xs h

-- nothing booked: the booked bytes stay
pub kept_bytes : (size : ℕ) (bs xs : List ℕ) → take (length bs) (overlay (lend bs size xs) bs) ≡ bs
unfolding lend overlay
kept_bytes zero bs xs = take-length bs
kept_bytes (suc n) [] xs = refl
kept_bytes (suc n) (x ∷ bs) xs = ap (λ (t : List ℕ). x ∷ t) (kept_bytes n bs xs)

-- ---- records, by their version
module _ (version : ℕ) where
  pub slot_agrees : (k size : ℕ) (bs xs : List ℕ) → place_of version k + record_size version ≤ length bs → place_of version k + record_size version ≤ length
      (lend bs size xs)
      → slot_at version (lend bs size xs) k ≡ slot_at version bs k
  unfolding slot_at
  slot_agrees k size bs xs h h' =
      take_drop (place_of version k) (record_size version) (lend bs size xs)
      ∙ ap (drop (place_of version k)) (prefix (place_of version k + record_size version) size bs xs h h')
      ∙ sym (take_drop (place_of version k) (record_size version) bs)

  -- a record put after them: they are followed by it
  pub grown_bytes : (size : ℕ) (bs xs bytes : List ℕ) (k : ℕ) → length bs ≡ place_of version k → length bytes ≡ record_size version
      → place_of version k + record_size version ≤ length (lend bs size xs)
      → take (place_of version (k + 1)) (overlay (put_at version (lend bs size xs) k bytes) bs) ≡ bs ++ bytes
  unfolding overlay put_at
  grown_bytes size bs xs bytes k e b h =
      let js : List ℕ = lend bs size xs in
      let m : ℕ = place_of version k in
      let front : take m js ≡ bs = prefix m size bs xs (omega (arith, e)) (omega arith) ∙ ap (λ (n : ℕ). take n bs) (sym e) ∙ take-length bs in
      let rest : List ℕ = drop (m + record_size version) js in
      let tail : List ℕ = drop (length (take m js ++ (bytes ++ rest))) bs in
      let size' : place_of version (k + 1) ≡ length (bs ++ bytes) = omega (arith, length-append bs bytes, place_next version k) in
      ap (λ (t : List ℕ). take (place_of version (k + 1)) ((t ++ (bytes ++ rest)) ++ tail)) front
      ∙ ap (take (place_of version (k + 1))) (ap (λ (t : List ℕ). t ++ tail) (sym (append_assoc bs bytes rest)) ∙ append_assoc (bs ++ bytes) rest tail)
      ∙ take_at (bs ++ bytes) (rest ++ tail) (place_of version (k + 1)) (sym size')

  -- ---- the booked records
  pub records_length : (n : ℕ) (bs : List ℕ) → length (records_in version n bs) ≡ n
  unfolding records_in
  records_length zero bs = refl
  records_length (suc n) bs = ap suc (records_length n (drop (record_size version) bs))

  pub records_at : (n k : ℕ) (bs : List ℕ) → k < n → get_or (records_in version n bs) k [] ≡ slot_at version bs k
  unfolding records_in slot_at
  records_at zero k bs h = absurd (not-suc-le-zero h)
  records_at (suc n) zero bs h = rw (place_first version)
  records_at (suc n) (suc k) bs h =
      records_at n k (drop (record_size version) bs) (le_of_suc-le-suc h)
      ∙ ap (take (record_size version)) (drop-drop (place_of version k) (record_size version) bs ∙ ap (λ (m : ℕ). drop m bs) next)
    where
      next : record_size version + place_of version k ≡ place_of version (suc k)
      next = omega (arith, place_suc version k)

  one_more : (n : ℕ) (bs bytes : List ℕ) → length bs ≡ place_of version n → length bytes ≡ record_size version
      → records_in version (suc n) (bs ++ bytes) ≡ records_in version n bs ++ (bytes ∷ [])
  unfolding records_in
  one_more zero [] bytes e b = ap (λ (x : List ℕ). x ∷ []) (ap (λ (m : ℕ). take m bytes) (sym b) ∙ take-length bytes)
  one_more zero (y ∷ bs) bytes e b = absurd (omega (arith, e, place_first version))
  one_more (suc n) bs bytes e b =
      let h : record_size version ≤ length bs = omega (arith, e, place_suc version n) in
      ap₂ (λ (x : List ℕ) (l : List (List ℕ)). x ∷ l) (take-append-le (record_size version) bs bytes h)
      (ap (records_in version (suc n)) (drop-append-le (record_size version) bs bytes h)
      ∙ one_more n (drop (record_size version) bs) bytes (omega (arith, length-drop (record_size version) bs, e, place_suc version n)) b)

  pub records_snoc : (n : ℕ) (bs bytes : List ℕ) → length bs ≡ place_of version n → length bytes ≡ record_size version
      → records_in version (n + 1) (bs ++ bytes) ≡ records_in version n bs ++ (bytes ∷ [])
  records_snoc n bs bytes e b = rw add-one (one_more n bs bytes e b)

  -- ---- the booked jobs are read as they are, whatever is lent, where check 4 passes
  module _ (n size : ℕ) (bs xs : List ℕ) (e : length bs ≡ place_of version n) (h : place_of version n ≤ length (lend bs size xs)) where
    pub slot_read : (k : ℕ) → k < n → slot_at version (lend bs size xs) k ≡ get_or (records_in version n bs) k []
    slot_read k l = let p = place_before version k n l in slot_agrees k size bs xs (omega (arith, e, p)) (omega (arith, h, p)) ∙ sym (records_at n k bs l)

    pub record_read : (k : ℕ) → record_at version (lend bs size xs) n k ≡ get_or (records_in version n bs) k []
    unfolding record_at
    record_read k =
        by_cases (λ b. cond b (slot_at version (lend bs size xs) k) [] ≡ get_or (records_in version n bs) k []) (is_booked version (lend bs size xs) n k)
        (λ t. slot_read k (booked?.sound t).below)
        (λ t.
        let past : n ≤ k = not_below (λ (l : k < n). refuted booked? t (record { inside = h; below = l })) in
        sym (get_or-eq_default (records_in version n bs) [] {n = k} (omega (arith, records_length n bs))))
      where
        booked? : Reflects (is_booked version (lend bs size xs) n k) (Booked version (lend bs size xs) n k)
        booked? = reflect_booked version (lend bs size xs) n k

        not_below : (k < n → ⊥) → n ≤ k
        not_below f = omega (arith, f)

    pub jobs_read : job_at version (lend bs size xs) n ≡ tabled (records_in version n bs)
    unfolding job_at
    jobs_read = λ i k. ap job_of (record_read k) i

-- ---- every journal that agrees with the booked bytes where the two overlap is lent by some event, and only such
abbrev pub Agree : List ℕ → List ℕ → Type 0
Agree [] journal = Unit {0}
Agree (x ∷ bs) [] = Unit {0}
Agree (x ∷ bs) (y ∷ journal) = (y ≡ x) × Agree bs journal

pub lend_agrees : (size : ℕ) (bs xs : List ℕ) → Agree bs (lend bs size xs)
unfolding lend
lend_agrees zero [] xs = tt
lend_agrees zero (x ∷ bs) xs = tt
lend_agrees (suc n) [] xs = tt
lend_agrees (suc n) (x ∷ bs) xs = (refl, lend_agrees n bs xs)

pub agrees_lend : (bs journal : List ℕ) → Agree bs journal → journal ≡ lend bs (length journal) (drop (length bs) journal)
unfolding lend
agrees_lend [] journal a = sym (take-length journal)
agrees_lend (x ∷ bs) [] a = refl
agrees_lend (x ∷ bs) (y ∷ journal) (e, a) = ap₂ (λ (z : ℕ) (t : List ℕ). z ∷ t) e (agrees_lend bs journal a)
