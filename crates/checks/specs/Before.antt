-- M-100 let labels end in `M8`. Checks 6 and 8 as they were until then, and what may be relied on of them now.
use Rattle.std.specs.Prelude.{Bool, ◌&&◌, true, ◌⊎◌, ◌≡◌, ◌<◌, ℕ}
use Rattle.base.specs.Reflect.{Reflects}
use Rattle.base.specs.Search.{Every}
use Rattle.drives.specs.Drives.{is_drive, is_in_table}
use Rattle.record.specs.Entries.{label_of}
use Rattle.record.specs.Labels.{media, type_l}
use Rattle.record.specs.Meaning.{EndsM8, Named, Used}
use Rattle.record.specs.declared.Job.{Job}
use Rattle.checks.specs.Checks.{unsupported_at, well_formed}
use Rattle.checks.specs.Meaning.{UnsupportedAt, WellFormed}

-- ---- before: the last two characters were `L` and 5 to 9 (`type_l`), and a drive did what document 01's table says
abbrev pub WasLabel : ℕ → Type 0
WasLabel = Named (λ l. type_l l < media)

abbrev pub took : Bool → ℕ → ℕ → Bool
took writing drive label = is_drive drive && is_in_table writing drive (type_l label)

-- ---- now

-- no used entry's label ends in `M8`
abbrev pub WithoutM8 : Job → Type 0
WithoutM8 j = Every 8 (λ i. Used j i → EndsM8 (label_of j i) → ⊥)

pub record SinceM8 (j : Job) : Type 0 where
  -- a record that was well-formed is
  pub kept : WellFormed WasLabel j → well_formed j ≡ true
  -- "A record malformed until now for its M8 labels alone is well-formed", and no other has become so
  pub opened : Reflects (well_formed j) (WellFormed (λ l. WasLabel l ⊎ Named EndsM8 l) j)
  -- of a record without M8 labels checks 6 and 8 decide what they decided
  pub formed : WithoutM8 j → Reflects (well_formed j) (WellFormed WasLabel j)
  pub unsupported : WithoutM8 j → Every 8 (λ i. Reflects (unsupported_at j i) (UnsupportedAt took j i))
