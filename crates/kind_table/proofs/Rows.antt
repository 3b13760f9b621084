-- What the table says of a byte that it does not have, and how long a body can be.
use mathlib.Core.Path.{◌∙◌, ◌≡◌}
use Prim.Native.Nat.{◌≤◌, ℕ}
use native.Mathlib.Omega.{arith}
use borrow.Author.Tests.{ne_eqb}
use Rattle.codec.proofs.Sizes.{size_least}
use Rattle.codec.specs.Codec.{record_size}
use Rattle.runfile.specs.Steps.{body_size, kind_of}
use Rattle.runfile.specs.declared.Kind.{Kind}
use Rattle.runfile.specs.declared.Kind.TheVariants.{ClientPreflight, Commit, Dependencies, Draw, Equivocating, FaultyAcknowledge, FaultySign, Generations}
use Rattle.runfile.specs.declared.Kind.TheVariants.{Preflight, Propose, Release, Show, Snapshot, Unknown}
use Rattle.kind_table.specs.Table.{operation_of, row_of}
use Rattle.kind_table.specs.declared.Operation.{Operation}

-- a byte that the table does not have
pub unknown_row : (version b : ℕ) (r : Operation) → (b ≡ 1 → ⊥) → (b ≡ 2 → ⊥) → (b ≡ 3 → ⊥) → (b ≡ 4 → ⊥) → (b ≡ 5 → ⊥) → (b ≡ 6 → ⊥) → (b ≡ 7 → ⊥)
    → (b ≡ 8 → ⊥) → (b ≡ 9 → ⊥) → (b ≡ 10 → ⊥) → (b ≡ 11 → ⊥) → (b ≡ 12 → ⊥) → (b ≡ 13 → ⊥) → r ≡ row_of version Unknown
    → r ≡ operation_of version b
unfolding operation_of kind_of
unknown_row version b r a c d e f g h i j k m p n q =
    q
    ∙ simp (
      ne_eqb b 1 a,
      ne_eqb b 2 c,
      ne_eqb b 3 d,
      ne_eqb b 4 e,
      ne_eqb b 5 f,
      ne_eqb b 6 g,
      ne_eqb b 7 h,
      ne_eqb b 8 i,
      ne_eqb b 9 j,
      ne_eqb b 10 k,
      ne_eqb b 11 m,
      ne_eqb b 12 p,
      ne_eqb b 13 n,
    )

-- no body is longer than a record
small : (version : ℕ) (k : Kind) → body_size version k ≤ record_size version
small version Propose = search (size_least version, arith)
small version Preflight = search (size_least version, arith)
small version Commit = search (size_least version, arith)
small version FaultySign = search (size_least version, arith)
small version FaultyAcknowledge = search (size_least version, arith)
small version Show = search (size_least version, arith)
small version Draw = search (size_least version, arith)
small version Generations = search (size_least version, arith)
small version Snapshot = search (size_least version, arith)
small version Release = search (size_least version, arith)
small version Dependencies = search (size_least version, arith)
small version ClientPreflight = search (size_least version, arith)
small version Equivocating = search (size_least version, arith)
small version Unknown = search (size_least version, arith)

pub size_small : (version b : ℕ) (o : Operation) → o ≡ operation_of version b → o.size ≤ record_size version
unfolding operation_of
size_small version b o e = rw e (small version (kind_of b))
