-- The 16 bits of a run file are two bytes, the low one first, as the numbers of a record are: what is written so reads back, and what is
-- read was written so.
use mathlib.Core.List.{List, ◌++◌}
use mathlib.Core.Path.{◌∙◌, ◌≡◌, ap, sym}
use Prim.Native.Nat.{◌+◌, ◌<◌, ◌^◌, ◌≤◌, ℕ}
use native.Mathlib.Nat.{add-zero}
use native.Mathlib.Omega.{arith}
use lib.ListN.{drop, length, take}
use Rattle.codec.proofs.RoundTrip.{le_at_append, le_at_bytes, le_bytes_le_at}
use Rattle.codec.specs.Codec.{AreBytes, le_at, le_bytes}
use Rattle.runfile.specs.Steps.{word_at}

word_number : (input : List ℕ) (at : ℕ) → word_at input at ≡ le_at input at 2
unfolding le_at
word_number input at = omega arith

pub word_written : (before rest : List ℕ) (x : ℕ) → x < 2 ^ 16 → word_at (before ++ (le_bytes 2 x ++ rest)) (length before) ≡ x
word_written before rest x h =
    word_number (before ++ (le_bytes 2 x ++ rest)) (length before)
    ∙ ap (λ (at : ℕ). le_at (before ++ (le_bytes 2 x ++ rest)) at 2) (sym (add-zero (length before)))
    ∙ le_at_append before (le_bytes 2 x ++ rest) 0 2
    ∙ le_at_bytes 2 x rest h

pub word_read : (input : List ℕ) (at : ℕ) → AreBytes input → at + 2 ≤ length input → le_bytes 2 (word_at input at) ≡ take 2 (drop at input)
word_read input at b h = ap (le_bytes 2) (word_number input at) ∙ le_bytes_le_at 2 input at b h
