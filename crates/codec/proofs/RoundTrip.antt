-- A record and its job are one another's.
use mathlib.Core.Bool.{cond, false, true, true≢false}
use mathlib.Core.List.{List, [], ◌++◌, ◌∷◌, append_assoc, append-nil}
use mathlib.Core.Logic.{◌⊎◌, ⊎_elim}
use mathlib.Core.Path.{◌∙◌, ◌≡◌, ap, ap₂, refl, sym}
use Prim.Native.Nat.{◌%◌, ◌*◌, ◌+◌, ◌/◌, ◌<◌, ◌^◌, ◌≤◌, suc, zero, ℕ}
use native.Mathlib.Nat.{add_assoc, add-zero}
use native.Mathlib.Numerals.{add-one}
use native.Mathlib.Omega.{arith}
use lib.ListN.{get_or-eq_default, drop, get_or, length, length-append, take}
use lib.Pow.{pow-add}
use mir.Val.{Val}
use denote.Array.{each}
use denote.Shadow.{shadow}
use borrow.Author.Tests.{le-leb}
use lib.Seq.{drop-cons, drop-drop, get_or-append-add, take-add, take_all, take-append_seam}
use Rattle.base.proofs.Reflect.{by_cases}
use Rattle.codec.proofs.Jobs.{length_body_of, length_bytes_of, length_entry_bytes, length_written}
use Rattle.codec.proofs.Numbers.{length_le_bytes}
use Rattle.codec.specs.Codec.{AreBytes, EntriesFit, JobFits, body_of, body_size, bytes_of, entries_at, entries_bytes, entry_at, entry_bytes, fits_record}
use Rattle.codec.specs.Codec.{front_job, job_of, le_at, le_bytes, record_size, said_of, says_trimmed, written}
use Rattle.record.specs.contracts.Entry.{the_row}
use Rattle.record.specs.declared.Entry.{Entry}
use Rattle.record.specs.declared.Job.{Job}

-- ---- from a job to its record and back

pub le_at_append : (p s : List ℕ) (at k : ℕ) → le_at (p ++ s) (length p + at) k ≡ le_at s at k
unfolding le_at
le_at_append p s at zero = refl
le_at_append p s at (suc k) = rw (get_or-append-add, add_assoc, le_at_append p s (at + 1) k)

pub le_at_bytes : (k v : ℕ) (s : List ℕ) → v < 2 ^ (8 * k) → le_at (le_bytes k v ++ s) 0 k ≡ v
unfolding le_at le_bytes
le_at_bytes zero v s h = omega arith
le_at_bytes (suc k) v s h =
    let e : 2 ^ (8 * suc k) ≡ 2 ^ (8 * k) * 256 = ap (λ (x : ℕ). 2 ^ x) (omega arith) ∙ pow-add 2 (8 * k) 8 in
    let rest : le_at (v % 256 ∷ (le_bytes k (v / 256) ++ s)) 1 k ≡ v / 256 =
    le_at_append (v % 256 ∷ []) (le_bytes k (v / 256) ++ s) 0 k ∙ le_at_bytes k (v / 256) s (omega arith) in
    omega arith

entry_at_append : (p s : List ℕ) (at : ℕ) → entry_at (p ++ s) (length p + at) ≡ entry_at s at
unfolding entry_at
entry_at_append p s at = rw (le_at_append, add_assoc, le_at_append)

entry_at_bytes : (e : Entry) (s : List ℕ) → e.label < 2 ^ 64 → e.frames < 2 ^ 32 → entry_at (entry_bytes e ++ s) 0 ≡ e
unfolding entry_at entry_bytes
entry_at_bytes e s hl hf =
    let l : le_at (le_bytes 8 e.label ++ (le_bytes 4 e.frames ++ s)) 0 8 ≡ e.label = le_at_bytes 8 e.label _ hl in
    let at8 : length (le_bytes 8 e.label) + 0 ≡ 8 = add-zero _ ∙ length_le_bytes 8 e.label in
    let f : le_at (le_bytes 8 e.label ++ (le_bytes 4 e.frames ++ s)) 8 4 ≡ e.frames =
    rw at8 at (le_at_append (le_bytes 8 e.label) (le_bytes 4 e.frames ++ s) 0 4) ∙ le_at_bytes 4 e.frames s hf in
    rw append_assoc (ap₂ (λ (x y : ℕ). record { label = x; frames = y }) l f)

entries_at_append : (p s : List ℕ) (at n : ℕ) → entries_at (p ++ s) (length p + at) n ≡ entries_at s at n
unfolding entries_at
entries_at_append p s at zero = refl
entries_at_append p s at (suc n) = rw (entry_at_append, add_assoc, entries_at_append p s (at + 12) n)

entries_at_bytes : (es : List Entry) (s : List ℕ) → EntriesFit es → entries_at (entries_bytes es ++ s) 0 (length es) ≡ es
unfolding entries_at entries_bytes EntriesFit entry_bytes le_bytes
entries_at_bytes [] s h = refl
entries_at_bytes (e ∷ es) s h =
    let at12 : length (entry_bytes e) + 0 ≡ 12 = add-zero _ ∙ length_entry_bytes e in
    let first : entry_at (entry_bytes e ++ (entries_bytes es ++ s)) 0 ≡ e = entry_at_bytes e _ h.0 h.1 in
    let rest : entries_at (entry_bytes e ++ (entries_bytes es ++ s)) 12 (length es) ≡ es =
    rw at12 at (entries_at_append (entry_bytes e) (entries_bytes es ++ s) 0 (length es)) ∙ entries_at_bytes es s h.2 in
    rw append_assoc (ap₂ (λ (x : Entry) (xs : List Entry). x ∷ xs) first rest)

-- a number that begins where the bytes end is 0
le_at_past : (k : ℕ) (s : List ℕ) (at : ℕ) → length s ≤ at → le_at s at k ≡ 0
unfolding le_at
le_at_past zero s at h = refl
le_at_past (suc k) s at h = omega (arith, get_or-eq_default s 0 {n = at} h, le_at_past k s (at + 1) (omega arith))

trimmed_read : (version : ℕ) (j : Job) → JobFits j → le_at (bytes_of version j) body_size 4 ≡ cond (says_trimmed version) j.trimmed 0
unfolding bytes_of
trimmed_read version j h =
    let n : length (body_of j) ≡ 100 = length_body_of j h.eight in
    let at : length (body_of j) + 0 ≡ 100 = add-zero _ ∙ n in
    by_cases (λ t. le_at (body_of j ++ cond t (le_bytes 4 j.trimmed) []) body_size 4 ≡ cond t j.trimmed 0) (says_trimmed version)
    (λ _. rw at at (le_at_append (body_of j) (le_bytes 4 j.trimmed) 0 4) ∙ ap (λ (l : List ℕ). le_at l 0 4) (sym (append-nil (le_bytes 4 j.trimmed)))
    ∙ le_at_bytes 4 j.trimmed [] h.trimmed)
    (λ _. le_at_past 4 (body_of j ++ []) body_size (omega (arith, n, length-append (body_of j) [])))

entries_read : (version : ℕ) (j : Job) → JobFits j → entries_at (bytes_of version j) 4 8 ≡ j.entries
unfolding bytes_of body_of
entries_read version j h =
    let rest = cond (says_trimmed version) (le_bytes 4 j.trimmed) [] in
    entries_at_append (j.kind ∷ j.drive ∷ j.inputs ∷ j.outputs ∷ []) (entries_bytes j.entries ++ rest) 0 8
    ∙ rw h.eight at (entries_at_bytes j.entries rest h.fit)

-- of a record's own bytes
pub job_record_job : (version : ℕ) (j : Job) → JobFits j → job_of (bytes_of version j) ≡ said_of version j
unfolding job_of said_of bytes_of body_of
job_record_job version j h =
    ap₂ (λ (es : List Entry) (t : ℕ). record { kind = j.kind; drive = j.drive; inputs = j.inputs; outputs = j.outputs; entries = es; trimmed = t })
    (entries_read version j h)
    (trimmed_read version j h)

-- ---- from a record to its job and back

pub le_bytes_le_at : (k : ℕ) (s : List ℕ) (at : ℕ) → AreBytes s → at + k ≤ length s → le_bytes k (le_at s at k) ≡ take k (drop at s)
unfolding le_at le_bytes
le_bytes_le_at zero s at b h = refl
le_bytes_le_at (suc k) s at b h =
    let low : (get_or s at 0 + 256 * le_at s (at + 1) k) % 256 ≡ get_or s at 0 = omega (arith, b at) in
    let high : (get_or s at 0 + 256 * le_at s (at + 1) k) / 256 ≡ le_at s (at + 1) k = omega (arith, b at) in
    rw (low, high, drop-cons s at 0 (omega arith), le_bytes_le_at k s (at + 1) b (omega arith), add-one at)

entry_bytes_entry_at : (s : List ℕ) (at : ℕ) → AreBytes s → at + 12 ≤ length s → entry_bytes (entry_at s at) ≡ take 12 (drop at s)
unfolding entry_at entry_bytes
entry_bytes_entry_at s at b h =
    rw (le_bytes_le_at 8 s at b (omega arith), le_bytes_le_at 4 s (at + 8) b (omega arith))
    (sym (take-add 8 4 (drop at s) ∙ rw (drop-drop 8 at s)))

entries_bytes_entries_at : (n : ℕ) (s : List ℕ) (at : ℕ) → AreBytes s → at + 12 * n ≤ length s → entries_bytes (entries_at s at n) ≡ take (12 * n) (drop at s)
unfolding entries_at entries_bytes
entries_bytes_entries_at zero s at b h = refl
entries_bytes_entries_at (suc n) s at b h =
    let m : 12 * suc n ≡ 12 + 12 * n = omega arith in
    rw (entry_bytes_entry_at s at b (omega arith), entries_bytes_entries_at n s (at + 12) b (omega arith), m)
    (sym (take-add 12 (12 * n) (drop at s) ∙ rw (drop-drop 12 at s)))

body_record : (r : List ℕ) → 100 ≤ length r → AreBytes r → body_of (job_of r) ≡ take 100 r
unfolding job_of body_of
body_record r n b =
    let body : entries_bytes (entries_at r 4 8) ≡ take 96 (drop 4 r) = entries_bytes_entries_at 8 r 4 b (omega arith) in
    rw body (sym (ap (take 100) (drop-cons r 0 0 (omega arith) ∙ ap (λ (l : List ℕ). get_or r 0 0 ∷ l) (drop-cons r 1 0 (omega arith)
    ∙ ap (λ (l : List ℕ). get_or r 1 0 ∷ l) (drop-cons r 2 0 (omega arith) ∙ ap (λ (l : List ℕ). get_or r 2 0 ∷ l) (drop-cons r 3 0 (omega arith)))))))

last_record : (r : List ℕ) → length r ≡ 104 → AreBytes r → le_bytes 4 (job_of r).trimmed ≡ take 4 (drop 100 r)
unfolding job_of
last_record r m b = le_bytes_le_at 4 r 100 b (omega (arith, m))

pub record_job_record : (version : ℕ) (r : List ℕ) → length r ≡ record_size version → AreBytes r → bytes_of version (job_of r) ≡ r
unfolding bytes_of record_size
record_job_record version r n b =
    by_cases (λ t. length r ≡ cond t 104 100 → body_of (job_of r) ++ cond t (le_bytes 4 (job_of r).trimmed) [] ≡ r) (says_trimmed version)
    (λ _ m. rw (body_record r (omega (arith, m)) b, last_record r m b) (sym (take-add 100 4 r) ∙ take_all 104 r (omega (arith, m))))
    (λ _ m. append-nil _ ∙ body_record r (omega (arith, m)) b ∙ take_all 100 r (omega (arith, m)))
    n

-- ---- as the code asks them

-- the ranges of an array of entries, as the language has them
pub entries_fit : (es : List Entry) (us : List Val) → shadow (each the_row.Denot the_row.own_val es us) → EntriesFit es
unfolding EntriesFit
entries_fit [] us s = tt
entries_fit (e ∷ es) [] s = absurd s
entries_fit (e ∷ es) (u ∷ us) s = (s.0.1.1.0.1, s.0.1.1.1.0.1, entries_fit es us s.1)

-- what stands at the front of a buffer with room for it is the record
pub front_record : (version : ℕ) (j : Job) (o : List ℕ) → length j.entries ≡ 8 → record_size version ≤ length o
    → take (record_size version) (written version j o) ≡ bytes_of version j
unfolding written fits_record
front_record version j o n h =
    let size = length_bytes_of version j n in
    simp (le-leb (record_size version) (length o) h) (rw (sym size) (take-append_seam (bytes_of version j) _))

pub same_job : (version : ℕ) (j : Job) (o out : List ℕ) → JobFits j → record_size version ≤ length o → out ≡ written version j o
    → front_job version out ≡ said_of version j
unfolding front_job
same_job version j o out h n e =
    ap (λ (l : List ℕ). job_of (take (record_size version) l)) e ∙ ap job_of (front_record version j o h.eight n) ∙ job_record_job version j h

-- a record alone is its own front
pub front_whole : (version : ℕ) (r : List ℕ) → length r ≡ record_size version → front_job version r ≡ job_of r
unfolding front_job
front_whole version r n = ap job_of (take_all (record_size version) r (omega (arith, n)))

pub same_bytes : (version : ℕ) (j : Job) (r o out : List ℕ) → length j.entries ≡ 8 → length r ≡ record_size version → length o ≡ record_size version
    → AreBytes r → j ≡ front_job version r → out ≡ written version j o → out ≡ r
same_bytes version j r o out eight m n b q e =
    let all : length out ≡ record_size version = ap length e ∙ length_written version j o eight ∙ n in
    sym (take_all (record_size version) out (omega (arith, all))) ∙ ap (take (record_size version)) e ∙ front_record version j o eight (omega (arith, n))
    ∙ ap (bytes_of version) (q ∙ front_whole version r m) ∙ record_job_record version r m b

-- a record whose version has no place for trimmed frames says none
pub plain_untrimmed : (version : ℕ) (r : List ℕ) → says_trimmed version ≡ false → length r ≡ record_size version → (job_of r).trimmed ≡ 0
unfolding job_of record_size
plain_untrimmed version r e n =
    let plain : record_size version ≡ 100 = simp e in
    le_at_past 4 r body_size (omega (arith, n, plain))

-- what a record says of a job is the job, in version 2, and in version 1 if it trims nothing
pub said_same : (version : ℕ) (j : Job) → (says_trimmed version ≡ true) ⊎ (j.trimmed ≡ 0) → said_of version j ≡ j
unfolding said_of
said_same version j h =
    ap (λ (t : ℕ). record { kind = j.kind; drive = j.drive; inputs = j.inputs; outputs = j.outputs; entries = j.entries; trimmed = t })
    (by_cases (λ t. says_trimmed version ≡ t → cond t j.trimmed 0 ≡ j.trimmed) (says_trimmed version)
    (λ _ e. refl)
    (λ _ e. ⊎_elim (λ t. absurd (true≢false (sym t ∙ e))) (λ z. sym z) h) refl)
