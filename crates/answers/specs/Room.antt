-- How long an answer and a job's line can be, and what a buffer must have where they are written.
use Rattle.std.specs.Prelude.{ℕ}

-- a row's 128 characters, and a set's: a comma and a number for each of 128 members, or `none`
abbrev pub answer_long : ℕ
answer_long = 1600

abbrev pub answer_room : ℕ
answer_room = 2048
