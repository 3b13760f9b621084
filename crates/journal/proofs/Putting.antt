-- A record put into the journal: the journal stays as long as it was, the places before are as they were, and the place has the record.
use mathlib.Core.List.{List, ◌++◌}
use mathlib.Core.Path.{◌∙◌, ◌≡◌, ap, sym}
use Prim.Native.Nat.{◌+◌, ◌<◌, ◌≤◌, ℕ}
use native.Mathlib.Omega.{arith}
use lib.ListN.{drop, length, length-append, length-drop, length-take, take}
use lib.Seq.{drop-append_seam, length-take-le, take-append-le, take-append_seam, take-take}
use Rattle.codec.proofs.Sizes.{place_before}
use Rattle.codec.specs.Codec.{place_of, record_size}
use Rattle.base.proofs.Lists.{take_drop}
use Rattle.journal.specs.Journal.{put_at, slot_at}

module _ (version n : ℕ) (journal bytes : List ℕ) (size : length bytes ≡ record_size version)
    (room : place_of version n + record_size version ≤ length journal) where
  pub put_length : length (put_at version journal n bytes) ≡ length journal
  unfolding put_at
  put_length = simp (length-append, length-take, length-drop) (omega (arith, size))

  front : length (take (place_of version n) journal) ≡ place_of version n
  front = length-take-le (place_of version n) journal (omega arith)

  pub slot_before : (k : ℕ) → k < n → slot_at version (put_at version journal n bytes) k ≡ slot_at version journal k
  unfolding slot_at put_at
  slot_before k h =
      let e = place_before version k n h in
      let head = take (place_of version n) journal in
      let rest = bytes ++ drop (place_of version n + record_size version) journal in
      let kept = take-append-le (place_of version k + record_size version) head rest (omega (arith, front, e)) in
      take_drop (place_of version k) (record_size version) (head ++ rest)
      ∙ ap (drop (place_of version k)) (kept ∙ take-take (place_of version k + record_size version) (place_of version n) journal e)
      ∙ sym (take_drop (place_of version k) (record_size version) journal)

  pub slot_put : slot_at version (put_at version journal n bytes) n ≡ bytes
  unfolding slot_at put_at
  slot_put =
      let head = take (place_of version n) journal in
      let tail = drop (place_of version n + record_size version) journal in
      ap (λ (m : ℕ). take (record_size version) (drop m (head ++ (bytes ++ tail)))) (sym front)
      ∙ ap (take (record_size version)) (drop-append_seam head (bytes ++ tail))
      ∙ ap (λ (m : ℕ). take m (bytes ++ tail)) (sym size)
      ∙ take-append_seam bytes tail
