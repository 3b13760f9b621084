-- How long the text and the explanation of a step can be, and what a buffer must have where they are written.
use Rattle.std.specs.Prelude.{ℕ}

-- twenty characters for each byte of the longest step, and the space before it
abbrev pub line_long : ℕ
line_long = 2101

abbrev pub line_room : ℕ
line_room = 2400

abbrev pub step_long : ℕ
step_long = 4096

abbrev pub step_room : ℕ
step_room = 8192
