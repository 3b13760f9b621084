-- What `releases` prints of a run file: its release list. "A file that refusal 1 or 2 turns back or cuts short gets that line and no list: blanks are never
-- ordered from half a file."
use Rattle.std.specs.Prelude.{cond, true, List, ◌≡◌, ◌+◌, suc, zero, ℕ, eqb, leb, length, Err}
use Rattle.base.specs.Lists.{In}
use Rattle.conflicts.specs.Tapes.{labels}
use Rattle.consequences.specs.Freed.{Free, Freed, freed_in}
use Rattle.ledger.specs.Register.{Register, feed_all, log, new_register}
use Rattle.ledger.specs.Worlds.{Event, World, after_all}
use Rattle.outcome.specs.declared.Refusal.TheVariants.{Settings as BadSettings, Unreadable}
use Rattle.release_list.specs.Listing.{list_text, tapes_freed}
use Rattle.runfile.specs.History.{begun, events, final_run, steps}
use Rattle.runfile.specs.Run.{Run, header_size, opens, version_in}
use Rattle.runfile.specs.Steps.{is_unknown, kind_at, next_at}
use Rattle.text.specs.Text.{line_for}

-- the number of the first of the next n steps that can't be read, after k others, or 0
unfoldable pub unread_next : ℕ → ℕ → List ℕ → ℕ → ℕ → ℕ
unread_next zero version input pos k = 0
unread_next (suc n) version input pos k =
    cond (leb (length input) pos) 0
    (cond (is_unknown (kind_at version input pos)) (k + 1) (unread_next n version input (next_at version input pos) (k + 1)))

abbrev pub unread_in : List ℕ → ℕ
unread_in input = unread_next (length input) (version_in input) input header_size 0

-- the tapes that are free at the end of a run
abbrev pub freed_at : Run → List Freed
freed_at r = tapes_freed r.ledger r.journal

unfoldable pub releases_text : List ℕ → List ℕ
releases_text input =
    cond (opens input)
    (cond (eqb (unread_in input) 0) (list_text (freed_at (final_run input))) (line_for (unread_in input) (Err Unreadable)))
    (line_for 0 (Err BadSettings))

-- ---- the list of a run is that of the world to which its steps lead, and of no other, so that all is true of it that is proved of that
abbrev pub world_after : List ℕ → World
world_after input = after_all (begun input) (events (steps input))

abbrev pub register_after : List ℕ → Register
register_after input = feed_all (new_register (version_in input)) (log (begun input) (events (steps input)))

pub record Lists (input : List ℕ) : Type 0 where
  pub same : freed_at (final_run input) ≡ freed_in (world_after input)
  pub free : Free (world_after input) (register_after input)
  -- whatever steps follow, what is listed stays listed, and no tape with its label ever stands again
  pub for_good : (more : List Event) (x : Freed) → In x (freed_at (final_run input)) → In x (freed_in (after_all (world_after input) more))
      × (In x.tape.label (labels (feed_all (register_after input) (log (world_after input) more)).standing) → ⊥)

abbrev pub ListsFreed : Type 0
ListsFreed = (input : List ℕ) → opens input ≡ true → Lists input
