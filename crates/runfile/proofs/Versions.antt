-- The highest version that a reader knows is looked at in check 1 alone, and there only for the version that the header names.
use mathlib.Core.Bool.{Bool, ◌&&◌, false}
use mathlib.Core.List.{List}
use mathlib.Core.Path.{◌∙◌, ◌≡◌, ap, refl, sym}
use Prim.Native.Nat.{ℕ}
use lib.Dec.{leb}
use lib.ListN.{length}
use Rattle.base.proofs.Reflect.{and_false}
use Rattle.federation.specs.Federation.{is_federation, is_known, is_lawful_up_to}
use Rattle.ledger.specs.State.{new_ledger}
use Rattle.runfile.specs.Run.{Versions, is_header, longest, opened, opens_up_to, text_up_to, version_in}

-- whether a reader takes an input hangs on the version alone
opens_known : (highest : ℕ) (input : List ℕ)
    → opens_up_to highest input ≡ (leb (length input) longest && (is_header input && (is_known highest (version_in input) && is_federation (opened input).settings)))
unfolding opens_up_to is_lawful_up_to opened new_ledger
opens_known highest input = refl

same_known : (a b : ℕ) (input : List ℕ) → is_known a (version_in input) ≡ is_known b (version_in input) → opens_up_to a input ≡ opens_up_to b input
same_known a b input e =
    opens_known a input ∙ ap (λ (known : Bool). leb (length input) longest && (is_header input && (known && is_federation (opened input).settings))) e
    ∙ sym (opens_known b input)

unknown : (highest : ℕ) (input : List ℕ) → is_known highest (version_in input) ≡ false → opens_up_to highest input ≡ false
unknown highest input e = opens_known highest input ∙ simp (e, and_false)

pub versions : Versions
unfolding text_up_to is_known
versions = record {
  turned = λ input e. simp (unknown 1 input (rw e));
  readable = λ input e. simp (same_known 2 1 input (rw e));
}
