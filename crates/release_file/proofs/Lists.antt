-- The run lends its whole journal, so the jobs that are read of it are the booked ones; the rest is `free_for_good` of the list of the run's steps.
use mathlib.Core.List.{List, []}
use mathlib.Core.Path.{◌∙◌, ◌≡◌, ap, subst, sym}
use Prim.Native.Nat.{◌≤◌, ℕ}
use native.Mathlib.Omega.{arith}
use lib.ListN.{drop, get_or, length, length-take, take}
use Rattle.base.specs.Lists.{In}
use Rattle.codec.specs.Codec.{place_of}
use Rattle.ledger.proofs.Demand3.{along, first}
use Rattle.ledger.proofs.Invariant.{Inv}
use Rattle.consequences.proofs.Freed.{free_for_good}
use Rattle.consequences.specs.Freed.{Freed, freed_in}
use Rattle.ledger.specs.Register.{new_register}
use Rattle.ledger.specs.State.{new_ledger, version_of}
use Rattle.ledger.specs.Worlds.{World, lend}
use Rattle.release_file.specs.Releases.{ListsFreed, register_after}
use Rattle.release_list.proofs.Lent.{tapes_lent}
use Rattle.release_list.specs.Listing.{tapes_freed}
use Rattle.runfile.proofs.History.{lent_whole, opens_lawful, run_keeps}
use Rattle.runfile.specs.History.{begun, events, final_run, steps}
use Rattle.runfile.specs.Run.{opened, version_in}
use Rattle.runfile.specs.Steps.{word_at}

pub lists_freed : ListsFreed
unfolding opened new_ledger
lists_freed input o =
    let r = final_run input in
    let there = (run_keeps input o).world in
    let lawful = opens_lawful input o in
    let es = events (steps input) in
    let begun_inv = first (get_or input 5 0) (get_or input 6 0) (word_at input 7) (version_in input) lawful in
    let kept = subst (λ (w : World). Inv w (register_after input)) there (along es (begun input) (new_register (version_in input)) begun_inv) in
    let end = place_of (version_of r.ledger) r.ledger.booked in
    let whole : lend (take end r.journal) (length r.journal) (drop end r.journal) ≡ r.journal = lent_whole end r.journal in
    let inside : end ≤ length r.journal = omega (arith, kept.shape.records, length-take end r.journal) in
    let same =
    ap (tapes_freed r.ledger) (sym whole)
    ∙ tapes_lent kept (length r.journal) (drop end r.journal) (subst (λ (j : List ℕ). end ≤ length j) (sym whole) inside)
    ∙ ap freed_in (sym there) in
    let freed = free_for_good (get_or input 5 0) (get_or input 6 0) (word_at input 7) (version_in input) lawful es in
    record {
      same = same;
      free = (freed []).0;
      for_good = λ more x m. (freed more).2 x (subst (λ (xs : List Freed). In x xs) same m);
    }
