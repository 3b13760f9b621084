-- The loop over a proposal's line.
use mathlib.Core.Bool.{Bool, cond, false, true}
use mathlib.Core.List.{List}
use mathlib.Core.Path.{◌∙◌, ◌≡◌, ap, sym}
use Prim.Native.Nat.{◌+◌, ◌<◌, ◌≤◌, ℕ}
use native.Mathlib.Omega.{arith}
use lib.ListN.{drop, get_or, length}
use borrow.Author.Tests.{le-ltb, lt-ltb}
use Rattle.parsing.proofs.Turns.{at_end, at_place}
use Rattle.notation.specs.Lines.{closes, counted, mark, scan, unseen}
use Rattle.notation.specs.declared.Shape.{Shape}

pub record Scanning (first : Shape) (text : List ℕ) (from : ℕ) (s : Shape) (at : ℕ) : Type 0 where
  pub same : scan s (drop at text) ≡ scan first (drop from text)
  pub inside : at ≤ length text

pub scan_begun : {text : List ℕ} {from : ℕ} {s : Shape} (k : ℕ) → s ≡ unseen k → from ≤ length text → Scanning (unseen k) text from s from
scan_begun {text} {from} k e h = record { same = ap (λ (x : Shape). scan x (drop from text)) e; inside = h }

module _ {first : Shape} {text : List ℕ} {from : ℕ} {s : Shape} {at : ℕ} (now : Scanning first text from s at) where
  pub scan_turn : (b : Bool) (t : Shape) → at < length text → b ≡ closes (get_or text at 0) → b ≡ false → t ≡ mark s (get_or text at 0)
      → Scanning first text from t (at + 1)
  unfolding scan
  scan_turn b t h e f m = record {
    same = sym (ap (scan s) (at_place text at h) ∙ rw (sym e ∙ f, sym m)) ∙ now.same;
    inside = omega arith;
  }

  pub scan_closed : (b : Bool) → at < length text → b ≡ closes (get_or text at 0) → b ≡ true → s ≡ scan first (drop from text)
  unfolding scan
  scan_closed b h e t = sym (ap (scan s) (at_place text at h) ∙ rw (sym e ∙ t)) ∙ now.same

  pub scan_over : length text ≤ at → s ≡ scan first (drop from text)
  unfolding scan
  scan_over h = sym (ap (scan s) (at_end text at h now.inside)) ∙ now.same

-- ---- one more
pub count_more : (hit : Bool) (n : ℕ) → hit ≡ true → n < 5 → n + 1 ≡ cond hit (counted n) n
unfolding counted
count_more hit n t h = rw (t, lt-ltb n 5 h)

pub count_full : (hit : Bool) (n : ℕ) → hit ≡ true → 5 ≤ n → n ≡ cond hit (counted n) n
unfolding counted
count_full hit n t h = rw (t, le-ltb n 5 h)

pub ruleset scans = (scan_begun, scan_turn, scan_closed, scan_over)
