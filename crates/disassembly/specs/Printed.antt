-- What is printed of a file.
use Rattle.std.specs.Prelude.{cond, List, ◌+◌, ℕ}
use Rattle.notation.specs.Files.{disassembled, longest_text, sayable}
use Rattle.printing.specs.Member.{item_room}
use Rattle.rows.specs.Table.{letters}

-- its text; or, where no text can say it, a comment that says so
unfoldable pub printed : List ℕ → List ℕ
printed input = cond (sayable input) (disassembled input) (letters "# no text can say this file: it has a refusal 1 or 2 in it\n")

-- what a buffer must have in which a text is made
abbrev pub text_room : ℕ
text_room = longest_text + item_room
