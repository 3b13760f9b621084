-- A line read by a row: the bytes of its step.
use Rattle.std.specs.Prelude.{List, [], ◌++◌, ◌∷◌, cond, ℕ, eqb}
use Rattle.codec.specs.Codec.{le_bytes}
use Rattle.rows.specs.Items.{Token, form_of, take_as, width}

-- the bytes that were read, what follows, and why the reading stopped, if it did
pub record Parsed : Type 0 where
  pub reason : ℕ
  pub bytes : List ℕ
  pub rest : List ℕ

-- the bytes of an item, and those of the others
abbrev pub onward : List ℕ → Parsed → Parsed
onward bytes p = record { reason = p.reason; bytes = bytes ++ p.bytes; rest = p.rest }

abbrev pub stopped : Token → Parsed
stopped t = record { reason = t.reason; bytes = []; rest = t.rest }

unfoldable pub read_by : List ℕ → List ℕ → Parsed
read_by [] l = record { reason = 0; bytes = []; rest = l }
read_by (i ∷ is) l =
    let t = take_as (form_of i) i l in
    cond (eqb t.reason 0) (onward (le_bytes (width (form_of i)) t.value) (read_by is t.rest)) (stopped t)
