-- What the call answers (document 02, M-110), by sums; what the answers mean for choices of counts is in Meaning.antt.
use Rattle.std.specs.Prelude.{Bool, true, cond, ◌&&◌, List, ℕ, ◌+◌, ◌-◌, min, max, leb, ltb, eqb, Ok, Err}
use Rattle.base.specs.Search.{first_below, sum_from}
use Rattle.outcome.specs.Figures.{Verdict}
use Rattle.outcome.specs.declared.Refusal.{Refusal}
use Rattle.outcome.specs.declared.Refusal.TheVariants.{Reversed, NoneBalances}
use Rattle.ranges.specs.declared.Estimate.{Estimate}
use Rattle.ranges.specs.declared.Range.{Range}
use Rattle.ranges.specs.declared.Tightened.{Tightened}
use Rattle.ranges.specs.declared.Span.{Span}
use Rattle.ranges.specs.Form.{form_of}
use Rattle.ranges.specs.Ranges.{low, high, list_from, range_at}

-- ---- 24: "the first entry whose lowest exceeds its highest"
unfoldable pub is_reversed : Estimate → ℕ → Bool
is_reversed e i = ltb (high e i) (low e i)

unfoldable pub order_of : Estimate → Verdict
order_of e = let reversed = first_below 8 (is_reversed e) in cond (ltb reversed 8) (Err (Reversed reversed)) (Ok tt)

-- ---- 25: "if no choice balances"

-- the least and the most of four entries from half on, with extra, where l and h are the entries' ends
unfoldable pub span_of : (ℕ → ℕ) → (ℕ → ℕ) → ℕ → ℕ → Span
span_of l h half extra = record { least = extra + sum_from l half 4; most = extra + sum_from h half 4 }

-- what goes in; what comes out, with what is trimmed
unfoldable pub inflow : Estimate → Span
inflow e = span_of (low e) (high e) 0 0

unfoldable pub outflow : Estimate → Span
outflow e = span_of (low e) (high e) 4 e.trimmed

unfoldable pub meets : Span → Span → Bool
meets a b = leb a.least b.most && leb b.least a.most

-- only a migration has to balance
unfoldable pub can_balance : Estimate → Bool
can_balance e = cond (eqb e.kind 1) (meets (inflow e) (outflow e)) true

unfoldable pub balance_of : Estimate → Verdict
balance_of e = cond (can_balance e) (Ok tt) (Err NoneBalances)

-- ---- "Checks, after 6 to 8, ..: 24 ..; then 25"
abbrev pub first_failing : Verdict → Verdict → Verdict
first_failing (Err r) later = Err r
first_failing (Ok _) later = later

unfoldable pub checks_of : Estimate → Verdict
checks_of e = first_failing (form_of e) (first_failing (order_of e) (balance_of e))

-- ---- the tightest ranges

-- what the entry must have where all else on its own side is at its most and the other side at its least
unfoldable pub lower_end : Span → Span → Range → ℕ
lower_end own other r = max r.lowest (other.least + r.highest - own.most)

-- what it can have where all else on its own side is at its least and the other side at its most
unfoldable pub upper_end : Span → Span → Range → ℕ
upper_end own other r = min r.highest (other.most + r.lowest - own.least)

unfoldable pub tightest_in : Span → Span → Range → Range
tightest_in own other r = record { lowest = lower_end own other r; highest = upper_end own other r }

-- of entry i: an input's own side is what goes in, an output's what comes out
unfoldable pub tightest_by : Span → Span → ℕ → Range → Range
tightest_by inward outward i r = cond (ltb i 4) (tightest_in inward outward r) (tightest_in outward inward r)

unfoldable pub tightest_at : Estimate → ℕ → Range
tightest_at e i = tightest_by (inflow e) (outflow e) i (range_at e.ranges i)

-- "An accession keeps its ranges."
unfoldable pub tightest_of : Estimate → List Range
tightest_of e = cond (eqb e.kind 1) (list_from (tightest_at e) 0 8) e.ranges

-- ---- the answer

-- a refusal hands the ranges back as they were
abbrev pub refuse : Refusal → Estimate → Tightened
refuse r e = record { outcome = Err r; ranges = e.ranges }

abbrev pub settle : Verdict → Estimate → Tightened
settle (Err r) e = refuse r e
settle (Ok _) e = record { outcome = Ok 0; ranges = tightest_of e }

unfoldable pub tighten_of : Estimate → Tightened
tighten_of e = settle (checks_of e) e
