-- What is printed for kind 13 (document 02, M-113): "the usual line with the number of vaults listed, then lists, each alone on a line in ascending order, each
-- vault" that the rule names.
use Rattle.std.specs.Prelude.{List, ◌++◌, ◌↔◌, ◌≡◌, ◌≤◌, ℕ, length}
use Rattle.base.specs.Lists.{In}
use Rattle.federation.specs.Federation.{Lawful}
use Rattle.ledger.specs.Equivocators.{Named, Whole}
use Rattle.ledger.specs.Worlds.{Event, after_all, equivocating, lend, start}
use Rattle.ledger.specs.declared.Ledger.{Ledger}
use Rattle.runfile.specs.Run.{text_of}
use Rattle.runfile.specs.Steps.{request}
use Rattle.text.specs.Text.{AscendFrom, line_of, lines_of}

-- for step number k, of at most b vaults
pub record PrintsNamed (k b : ℕ) (l : Ledger) (journal : List ℕ) : Type 0 where
  pub vaults : List ℕ
  pub text : text_of k l journal (request equivocating) ≡ line_of k 0 (length vaults) ++ lines_of vaults
  -- each number is above the one before it, so none stands twice
  pub ascending : AscendFrom 0 vaults
  pub each : (v : ℕ) → In v vaults ↔ Named l journal v
  pub few : length vaults ≤ b

-- wherever a list of steps has led, and whatever journal is lent; 4 where some booked record is not wholly inside it
abbrev pub PrintsEquivocators : Type 0
PrintsEquivocators =
    (n b faulty version : ℕ) → Lawful (record { n = n; b = b; faulty = faulty; version = version }) → (es : List Event) (size : ℕ) (beyond : List ℕ) (k : ℕ)
    → let w = after_all (start n b faulty version) es in
    let journal = lend w.booked size beyond in
    (Whole w.ledger journal → PrintsNamed k b w.ledger journal)
    × ((Whole w.ledger journal → ⊥) → text_of k w.ledger journal (request equivocating) ≡ line_of k 4 0)
