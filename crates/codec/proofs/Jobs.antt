-- Records: a step of each loop over the entries.
use mathlib.Core.Bool.{cond, false, true}
use mathlib.Core.List.{List, [], ◌++◌, ◌∷◌, append-nil}
use mathlib.Core.Path.{◌∙◌, ◌≡◌, ap, refl, sym}
use Prim.Native.Nat.{◌*◌, ◌+◌, ◌-◌, ◌<◌, ◌≤◌, suc, zero, ℕ}
use native.Mathlib.Nat.{not-suc-le-zero, zero-add}
use native.Mathlib.Numerals.{add-one}
use native.Mathlib.Omega.{arith}
use lib.Dec.{leb}
use lib.ListN.{drop, drop_of_length-le, get_or, length, length-append, length-drop, set}
use lib.Seq.{drop-cons, sets, sets-eq}
use borrow.Author.Tests.{le-leb, leb-true}
use Rattle.base.proofs.Reflect.{by_cases}
use Rattle.codec.proofs.Numbers.{length_le_bytes, sets_append}
use Rattle.codec.specs.Codec.{body_of, bytes_of, entries_at, entries_bytes, entry_at, entry_bytes, entry_size, fits_record, head_size, job_of, le_bytes}
use Rattle.codec.specs.Codec.{front_job, record_size, says_trimmed, written}
use Rattle.record.specs.Entries.{no_entry}
use Rattle.record.specs.declared.Entry.{Entry}
use Rattle.record.specs.declared.Job.{Job}
use Rattle.record.proofs.Eight.{entry_past}

pub entry_stores : (o o₁ o₂ : List ℕ) (at : ℕ) (e : Entry) → o₁ ≡ sets o at (le_bytes 8 e.label) → o₂ ≡ sets o₁ (at + 8) (le_bytes 4 e.frames)
    → o₂ ≡ sets o at (entry_bytes e)
unfolding entry_bytes
entry_stores o o₁ o₂ at e p q =
    q ∙ ap (λ (l : List ℕ). sets l (at + 8) (le_bytes 4 e.frames)) p
    ∙ sym (sets_append (le_bytes 8 e.label) o at (le_bytes 4 e.frames) ∙ rw (length_le_bytes 8 e.label))

pub read_step : (s : List ℕ) (l : List Entry) (i : ℕ) → i < 8
    → sets (set l i (entry_at s (4 + 12 * i))) (i + 1) (entries_at s (4 + 12 * (i + 1)) (8 - (i + 1))) ≡ sets l i (entries_at s (4 + 12 * i) (8 - i))
unfolding entries_at
read_step s l i h =
    let n : 8 - i ≡ suc (8 - (i + 1)) = omega arith in
    let p : 4 + 12 * i + 12 ≡ 4 + 12 * (i + 1) = omega arith in
    rw (n, p, add-one i)

pub read_done : (s : List ℕ) (l : List Entry) (i : ℕ) → 8 ≤ i → sets l i (entries_at s (4 + 12 * i) (8 - i)) ≡ entries_at s 4 8 → l ≡ entries_at s 4 8
unfolding entries_at
read_done s l i h e = let n : 8 - i ≡ 0 = omega arith in rw n at e

pub length_entry_bytes : (e : Entry) → length (entry_bytes e) ≡ 12
unfolding entry_bytes
length_entry_bytes e = rw (length-append, length_le_bytes 8, length_le_bytes 4)

pub write_step : (o : List ℕ) (es : List Entry) (d : Entry) (i : ℕ) → i < length es
    → sets (sets o (4 + 12 * i) (entry_bytes (get_or es i d))) (4 + 12 * (i + 1)) (entries_bytes (drop (i + 1) es)) ≡ sets o (4 + 12 * i) (entries_bytes (drop i es))
unfolding entries_bytes
write_step o es d i h =
    let p : 4 + 12 * (i + 1) ≡ 4 + 12 * i + 12 = omega arith in
    rw (p, add-one i, drop-cons es i d h, sets_append, length_entry_bytes)

pub length_entries_bytes : (es : List Entry) → length (entries_bytes es) ≡ 12 * length es
unfolding entries_bytes
length_entries_bytes [] = refl
length_entries_bytes (e ∷ es) = rw (length-append, length_entry_bytes, length_entries_bytes es) (omega arith)

pub length_body_of : (j : Job) → length j.entries ≡ 8 → length (body_of j) ≡ 100
unfolding body_of
length_body_of j h = omega (arith, length_entries_bytes j.entries)

pub length_bytes_of : (version : ℕ) (j : Job) → length j.entries ≡ 8 → length (bytes_of version j) ≡ record_size version
unfolding bytes_of record_size
length_bytes_of version j h =
    by_cases (λ t. length (body_of j ++ cond t (le_bytes 4 j.trimmed) []) ≡ cond t 104 100) (says_trimmed version)
    (λ _. length-append (body_of j) (le_bytes 4 j.trimmed) ∙ rw (length_body_of j h, length_le_bytes 4 j.trimmed))
    (λ _. length-append (body_of j) [] ∙ rw (length_body_of j h))

-- all entries stored after the head
pub body_done : (o out : List ℕ) (j : Job) (i : ℕ) → 8 ≤ i → length j.entries ≡ 8
    → sets out (4 + 12 * i) (entries_bytes (drop i j.entries)) ≡ sets o 0 (body_of j) → out ≡ sets o 0 (body_of j)
unfolding entries_bytes
body_done o out j i hi n e =
    let none : drop i j.entries ≡ [] = drop_of_length-le j.entries {i = i} (omega arith) in
    rw none at e

-- the whole record stored at the front
pub whole_record : (version : ℕ) (o : List ℕ) (j : Job) → length j.entries ≡ 8 → record_size version ≤ length o
    → sets o 0 (bytes_of version j) ≡ written version j o
unfolding written fits_record
whole_record version o j n h =
    let all = length_bytes_of version j n in
    simp (le-leb (record_size version) (length o) h) (sets-eq (bytes_of version j) o 0 (omega (arith, all, h)) ∙ rw (all, zero-add))

pub length_written : (version : ℕ) (j : Job) (o : List ℕ) → length j.entries ≡ 8 → length (written version j o) ≡ length o
unfolding written fits_record
length_written version j o n =
    let all = length_bytes_of version j n in
    by_cases (λ t. length (cond t (bytes_of version j ++ drop (record_size version) o) o) ≡ length o) (leb (record_size version) (length o))
    (λ t. rw (length-append, all, length-drop) (omega (arith, leb-true (record_size version) (length o) t)))
    (λ _. refl)

pub write_plain : (version : ℕ) (o out : List ℕ) (j : Job) → says_trimmed version ≡ false → length j.entries ≡ 8 → record_size version ≤ length o
    → out ≡ sets o 0 (body_of j) → out ≡ written version j o
unfolding bytes_of
write_plain version o out j t n h e =
    let plain : bytes_of version j ≡ body_of j = simp (t, append-nil) in
    e ∙ ap (λ (l : List ℕ). sets o 0 l) (sym plain) ∙ whole_record version o j n h

pub write_trimmed : (version : ℕ) (o mid out : List ℕ) (j : Job) → says_trimmed version ≡ true → length j.entries ≡ 8 → record_size version ≤ length o
    → mid ≡ sets o 0 (body_of j) → out ≡ sets mid 100 (le_bytes 4 j.trimmed) → out ≡ written version j o
unfolding bytes_of
write_trimmed version o mid out j t n h a b =
    let more : bytes_of version j ≡ body_of j ++ le_bytes 4 j.trimmed = simp t in
    b ∙ ap (λ (l : List ℕ). sets l 100 (le_bytes 4 j.trimmed)) a
    ∙ sym (sets_append (body_of j) o 0 (le_bytes 4 j.trimmed) ∙ rw (length_body_of j n))
    ∙ ap (λ (l : List ℕ). sets o 0 l) (sym more) ∙ whole_record version o j n h

-- ---- an entry of the job that some bytes say
entries_get : (s : List ℕ) (at n e : ℕ) → e < n → get_or (entries_at s at n) e no_entry ≡ entry_at s (at + entry_size * e)
unfolding entries_at
entries_get s at zero e l = absurd (not-suc-le-zero l)
entries_get s at (suc n) zero l = let z : at + entry_size * 0 ≡ at = omega arith in rw z
entries_get s at (suc n) (suc e) l =
    let z : at + entry_size * suc e ≡ at + entry_size + entry_size * e = omega arith in
    rw z (entries_get s (at + entry_size) n e (omega arith))

pub job_entry : (s : List ℕ) (e : ℕ) → e < 8 → get_or (job_of s).entries e no_entry ≡ entry_at s (head_size + entry_size * e)
unfolding job_of
job_entry s e l = entries_get s head_size 8 e l

pub no_entry_lem : (s : List ℕ) (e : ℕ) → 8 ≤ e → no_entry ≡ get_or (job_of s).entries e no_entry
unfolding job_of entries_at
no_entry_lem s e h = entry_past (job_of s) e refl h

pub front_eight : (version : ℕ) (s : List ℕ) (j : Job) → j ≡ front_job version s → length j.entries ≡ 8
unfolding front_job job_of entries_at
front_eight version s j e = ap (λ (x : Job). length x.entries) e
