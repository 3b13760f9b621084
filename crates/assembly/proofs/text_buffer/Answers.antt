-- The length of an array of zeros, without counting them.
use mathlib.Core.Path.{subst, sym}
use Prim.Native.Nat.{◌<◌, ℕ}
use lib.ListN.{length, length-replicate, replicate}
use native.Mathlib.Omega.{arith}
use Rattle.notation.specs.Files.{longest_text}
use Rattle.assembly.proofs.text_buffer.Goals as goal

takes : (n : ℕ) → longest_text < n → longest_text < length (replicate {A = ℕ} n 0)
takes n h = subst (λ (k : ℕ). longest_text < k) (sym (length-replicate {0} {A = ℕ} n 0)) h

pub returns : goal.returns
returns c = takes 2097153 (omega arith)
