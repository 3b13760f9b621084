-- The lines of a script, by their first characters, and where a case's bytes end.
use Rattle.std.specs.Prelude.{Bool, ◌||◌, cond, ◌+◌, ℕ, eqb}
use Rattle.parsing.specs.declared.Token.{Token}

abbrev pub is_comment : ℕ → Bool
is_comment c = eqb c 35

abbrev pub is_shown : ℕ → Bool
is_shown c = eqb c 10 || eqb c 61

-- the kind and so many bytes as the number says that was read before the case; all where there is none
abbrev pub end_of : Token → ℕ → ℕ
end_of cut end = cond (eqb cut.reason 0) (1 + cut.value) end
