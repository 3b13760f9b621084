-- Document 02's rule worked out on estimates, by computation.
use mathlib.Core.List.{List, [], ◌∷◌}
use mathlib.Core.Path.{◌≡◌, refl}
use Prim.Native.Nat.{ℕ}
use Rattle.base.specs.Search.{all_below, any_below, first_below, sum_from}
use Rattle.outcome.specs.Figures.{Outcome}
use Rattle.std.specs.Prelude.{Ok, Err}
use Rattle.outcome.specs.declared.Refusal.TheVariants.{Malformed, NoneBalances, Reversed}
use Rattle.drives.specs.Drives.{is_drive, supports}
use Rattle.record.specs.Entries.{frames_of, is_used, label_of, used_frames}
use Rattle.record.specs.Labels.{char_at, is_alphanumeric, is_between, is_label, medium_of}
use Rattle.checks.specs.Checks.{trimmed_formed}
use Rattle.checks.specs.Checks.{balanced, check_of, counts_formed, entry_formed, has_label_of, inputs_formed, is_blank}
use Rattle.checks.specs.Checks.{is_filled, is_written, repeated_at, unsupported_at, well_formed}
use Rattle.ranges.specs.Form.{form_of, is_bounded, lowest_entry, lowest_job}
use Rattle.ranges.specs.Ranges.{list_from, no_range}
use Rattle.ranges.specs.Tighten.{balance_of, can_balance, checks_of, inflow, is_reversed, lower_end, meets, order_of, outflow, span_of, tighten_of}
use Rattle.ranges.specs.Tighten.{tightest_at, tightest_by, tightest_in, tightest_of, upper_end}
use Rattle.ranges.specs.declared.Estimate.{Estimate}
use Rattle.ranges.specs.declared.Range.{Range}
use Rattle.ranges.specs.declared.Tightened.{Tightened}

abbrev to : ℕ → ℕ → Range
to lowest highest = record { lowest = lowest; highest = highest }

-- one input, VAA001L5, and two outputs, VAB001L7 and VAC001L7; the third range is that of an unused entry
abbrev ranges : Range → Range → Range → Range → List Range
ranges input unused first second = input ∷ unused ∷ no_range ∷ no_range ∷ first ∷ second ∷ no_range ∷ no_range ∷ []

abbrev migration : List Range → ℕ → Estimate
migration known trimmed = record {
  kind = 1;
  drive = 7;
  inputs = 1;
  outputs = 2;
  labels = 3840498665277964630 ∷ 0 ∷ 0 ∷ 0 ∷ 3984613853353886038 ∷ 3984613853353951574 ∷ 0 ∷ 0 ∷ [];
  ranges = known;
  trimmed = trimmed;
}

-- an estimate, and what is answered
pub record Row : Type 0 where
  pub known : List Range
  pub trimmed : ℕ
  pub outcome : Outcome
  pub ranges : List Range

abbrev refused : List Range → ℕ → Outcome → Row
refused known trimmed outcome = record { known = known; trimmed = trimmed; outcome = outcome; ranges = known }

abbrev rows : List Row
rows =
    record {
      known = ranges (to 1000 1000) no_range (to 100 900) (to 300 400);
      trimmed = 0;
      outcome = Ok 0;
      ranges = ranges (to 1000 1000) no_range (to 600 700) (to 300 400);
    }
    ∷ record {
      known = ranges (to 1000 1000) no_range (to 100 900) (to 300 400);
      trimmed = 50;
      outcome = Ok 0;
      ranges = ranges (to 1000 1000) no_range (to 550 650) (to 300 400);
    }
    ∷ refused (ranges (to 10 10) no_range (to 5 10) (to 6 10)) 0 (Err NoneBalances)
    ∷ refused (ranges (to 10 10) no_range (to 5 4) (to 6 10)) 0 (Err (Reversed 4))
    ∷ refused (ranges (to 10 10) (to 0 1) (to 5 4) (to 6 10)) 0 (Err Malformed)
    ∷ []

abbrev answered : List Row → List Tightened
answered [] = []
answered (r ∷ rs) = tighten_of (migration r.known r.trimmed) ∷ answered rs

abbrev given : List Row → List Tightened
given [] = []
given (r ∷ rs) = record { outcome = r.outcome; ranges = r.ranges } ∷ given rs

pub worked : answered rows ≡ given rows
unfolding any_below all_below first_below sum_from inputs_formed counts_formed is_filled is_blank entry_formed trimmed_formed well_formed has_label_of repeated_at is_written
    unsupported_at balanced check_of is_drive supports label_of frames_of is_used used_frames is_between char_at is_alphanumeric medium_of is_label lowest_entry
    lowest_job is_bounded form_of list_from is_reversed span_of inflow outflow meets can_balance order_of balance_of checks_of lower_end upper_end tightest_in
    tightest_by tightest_at tightest_of tighten_of
worked = refl
