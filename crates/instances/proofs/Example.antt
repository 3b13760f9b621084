-- Document 01's whole run ("One run whole") through the functions that demand 3 is about, and the register beside it: computed from its
-- real bytes. The label VAA001L5 reads as the number 3840498665277964630.
use mathlib.Core.Bool.{true}
use mathlib.Core.List.{List, [], ◌∷◌}
use mathlib.Core.Path.{◌≡◌, refl}
use lib.Count.{ones, ones_in}
use lib.ListN.{replicate}
use Rattle.base.specs.Lists.{same_list}
use Rattle.base.specs.Search.{all_below, any_below, first_below, sum_from}
use Rattle.std.specs.Prelude.{Ok, Err}
use Rattle.outcome.specs.declared.Refusal.TheVariants.{NotCreated, NotSigned, TooFewSigners}
use Rattle.checks.specs.Checks.{
  balanced,
  check_of,
  counts_formed,
  entry_formed,
  trimmed_formed,
  examined,
  has_label_of,
  inputs_formed,
  is_blank,
  is_filled,
  is_written,
  repeated_at,
  unsupported_at,
  well_formed,
}
use Rattle.codec.specs.Codec.{entries_at, entry_at, job_of, le_at, place_of, record_size, says_trimmed, whole_in}
use Rattle.conflicts.specs.Conflicts.{is_label_at, is_tape_at, label_in, makes_tape}
use Rattle.drives.specs.Drives.{is_drive, supports}
use Rattle.record.specs.Entries.{frames_of, is_used, label_of, used_frames}
use Rattle.record.specs.Labels.{char_at, is_alphanumeric, is_between, is_label, medium_of}
use Rattle.conflicts.specs.Tapes.{same_tape, used_from}
use Rattle.sets.specs.Bits.{has_bit, subset_of, with_bit, with_member, without_bit}
use Rattle.job_sets.specs.Jobs.{job_has, job_with, job_without}
use Rattle.queries.specs.Admission.{admission, consumed_at, listed_by, lists_at, made_before, made_by, makes_at, not_created_at, remade_at}
use Rattle.federation.specs.Federation.{is_federation, is_known, is_lawful_up_to, threshold_of}
use Rattle.generations.specs.Generations.{age_in, created_at, creator_of, generation_at, generation_from, generations_before, highest}
use Rattle.ledger.specs.Holders.{holds_at, is_held}
use Rattle.journal.specs.Journal.{equal_at, equal_in, has_room, inside_of, is_booked, job_at, put_at, record_at, slot_at}
use Rattle.ledger.specs.Register.{entering, feed_all, feed_commit, feed_proposal, is_admissible, log, new_register, stopped, taking}
use Rattle.generations.specs.Generations.{is_at}
use Rattle.ledger.specs.State.{applied, arriving, booking, enqueued, has_arrived, is_sane, new_ledger, voted, votes_in, with_vault}
use Rattle.vaults.specs.declared.Column.TheVariants.{Signatures}
use Rattle.ledger.specs.Decisions.{admission_at, ageing, certificate, committing, consent, placing, preflighting, proposal, receiving, settling, status_of}
use Rattle.ledger.specs.Steps.{
  booked_gate,
  commit_decision,
  faulty_vote_decision,
  gate_of,
  generations_decision,
  journal_after,
  preflight_decision,
  propose_decision,
  sane_gate,
  show_decision,
  vault_gate,
}
use Rattle.vaults.specs.Vaults.{holding, signing, vault_preflight}
use Rattle.instances.specs.Records.{accession, migration}
use Rattle.ledger.specs.Worlds.{Event, Request, after, commit, faulty_vote, generations, lend, outcomes, overlay, preflight, propose, show, start}

-- each step is lent 300 bytes, and all that are not booked are 7
abbrev pub lending : Request → Event
lending request = record { request = request; size = 300; beyond = replicate 300 7 }

abbrev pub run : List Event
run =
    lending (propose accession)
    ∷ lending (propose migration)
    ∷ lending (preflight 0 1)
    ∷ lending (preflight 0 0)
    ∷ lending (preflight 1 0)
    ∷ lending (faulty_vote Signatures 3 0)
    ∷ lending (commit 0 0 3)
    ∷ lending (commit 0 0 11)
    ∷ lending (commit 2 0 15)
    ∷ lending (show 0)
    ∷ lending (preflight 0 1)
    ∷ lending (generations 0)
    ∷ []

-- what each step is answered; the register took job 0 alone, and runs
pub whole_run :
    (outcomes (start 4 1 8 1) run
    ≡ Ok 0 ∷ Ok 1 ∷ Err (NotCreated 0) ∷ Ok 1 ∷ Ok 2 ∷ Ok 3 ∷ Err TooFewSigners ∷ Ok 1 ∷ Err NotSigned ∷ Ok 1 ∷ Ok 1 ∷ Ok 0 ∷ [])
    × (feed_all (new_register 1) (log (start 4 1 8 1) run)
    ≡ record {
      version = 1;
      running = true;
      table = accession ∷ migration ∷ [];
      taken = 0 ∷ [];
      standing = record { label = 3840498665277964630; frames = 1000 } ∷ [];
      made = 3840498665277964630 ∷ [];
      accessioned = 1000;
    })
unfolding same_list any_below all_below first_below sum_from has_bit with_bit with_member without_bit subset_of job_has job_with job_without inputs_formed
    counts_formed is_filled is_blank entry_formed trimmed_formed well_formed has_label_of repeated_at is_written unsupported_at balanced check_of examined
    record_size says_trimmed place_of whole_in le_at entry_at entries_at job_of is_label_at label_in is_tape_at makes_tape is_drive supports label_of frames_of is_used
    used_frames is_between char_at is_alphanumeric medium_of is_label used_from same_tape makes_at made_by lists_at listed_by not_created_at consumed_at made_before
    remade_at admission is_known is_federation is_lawful_up_to threshold_of highest created_at creator_of generation_from generations_before generation_at holds_at
    is_held is_at age_in slot_at is_booked record_at job_at inside_of equal_at equal_in has_room put_at is_admissible taking stopped entering feed_proposal
    feed_commit votes_in has_arrived is_sane new_ledger booking voted with_vault enqueued arriving applied booked_gate gate_of sane_gate vault_gate placing
    settling proposal propose_decision journal_after consent preflighting preflight_decision certificate receiving committing commit_decision
    faulty_vote_decision status_of show_decision ageing generations_decision signing holding admission_at vault_preflight lend overlay after start ones
    ones_in
whole_run = (refl, refl)
