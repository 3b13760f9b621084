-- What the operation `list` answers wherever a list of steps has led, whatever journal it is lent: the list of which `free_for_good` speaks, or 4 and no list.
use Rattle.std.specs.Prelude.{List, ◌≡◌, ◌<◌, ◌≤◌, ℕ, length, Ok, Err}
use Rattle.codec.specs.Codec.{place_of}
use Rattle.consequences.specs.Freed.{Freed, freed_in}
use Rattle.digits.specs.Digits.{Put}
use Rattle.federation.specs.Federation.{Lawful}
use Rattle.ledger.specs.State.{version_of}
use Rattle.ledger.specs.Worlds.{Event, World, after_all, lend, start}
use Rattle.outcome.specs.declared.Refusal.TheVariants.{NotBooked}
use Rattle.release_list.specs.Listing.{Released, list_text}
use Rattle.release_list.specs.declared.Releases.{Releases}

-- the tapes are counted in the answer, and listed at the front of the buffer
pub record Lists (tapes : List Freed) (before after : List ℕ) (r : Releases) : Type 0 where
  pub answer : r.outcome ≡ Ok (length tapes)
  pub text : Put before 0 (list_text tapes) after r.written

-- refusal 4, and nothing is written
pub record Lacks (before after : List ℕ) (r : Releases) : Type 0 where
  pub answer : r.outcome ≡ Err NotBooked
  pub written : r.written ≡ 0
  pub unchanged : after ≡ before

pub record Answers (w : World) (journal before after : List ℕ) (r : Releases) : Type 0 where
  pub whole : place_of (version_of w.ledger) w.ledger.booked ≤ length journal → Lists (freed_in w) before after r
  -- "some booked record isn't wholly inside the caller's book"
  pub cut : length journal < place_of (version_of w.ledger) w.ledger.booked → Lacks before after r

-- `Released` is the operation's promise
abbrev pub ListsWhatIsFree : Type 0
ListsWhatIsFree =
    (n b faulty version : ℕ) → Lawful (record { n = n; b = b; faulty = faulty; version = version }) → (es : List Event) (size : ℕ) (beyond : List ℕ)
    → let w = after_all (start n b faulty version) es in
    let journal = lend w.booked size beyond in
    (before after : List ℕ) (r : Releases) → Released w.ledger journal before after r → Answers w journal before after r
