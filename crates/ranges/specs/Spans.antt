-- When two spans meet, as the functions that tighten ask it: their sums fit 64 bits. Nothing rests on this but those functions.
use Rattle.std.specs.Prelude.{◌≤◌}
use Rattle.ranges.specs.declared.Span.{Span}

pub record Meeting (own other : Span) : Type 0 where
  pub there : own.least ≤ other.most
  pub back : other.least ≤ own.most
  pub small : other.least ≤ 21474836475
  pub limited : other.most ≤ 21474836475
