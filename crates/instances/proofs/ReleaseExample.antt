-- A job that is released: in document 01's federation, n 4, b 1 and vault 3 faulty, two records accession VAA001L5, by drives 7 and 6. Vault 0 signs the
-- first, the others the second, which comes to vault 0 with their signatures; there it lets the first go, and its signature stays counted. Computed from the
-- real bytes.
use mathlib.Core.List.{List, [], ◌++◌, ◌∷◌}
use mathlib.Core.Path.{◌≡◌, ap, refl}
use Prim.Native.Nat.{ℕ}
use lib.Count.{ones, ones_in}
use lib.ListN.{replicate}
use Rattle.base.specs.Lists.{same_list}
use Rattle.base.specs.Search.{all_below, any_below, first_below, sum_from}
use Rattle.std.specs.Prelude.{Ok, Err}
use Rattle.outcome.specs.declared.Refusal.TheVariants.{NotSignedHere, NotSuperseded, OutputReserved}
use Rattle.checks.specs.Checks.{
  balanced,
  check_of,
  counts_formed,
  entry_formed,
  examined,
  has_label_of,
  inputs_formed,
  is_blank,
  is_filled,
  is_written,
  repeated_at,
  trimmed_formed,
  unsupported_at,
  well_formed,
}
use Rattle.codec.specs.Codec.{entries_at, entry_at, job_of, le_at, place_of, record_size, says_trimmed, whole_in}
use Rattle.conflicts.specs.Conflicts.{conflicting, is_label_at, is_tape_at, label_in, makes_tape, shares_at, shares_in}
use Rattle.drives.specs.Drives.{is_drive, supports}
use Rattle.record.specs.Entries.{frames_of, is_used, label_of, used_frames}
use Rattle.record.specs.Labels.{char_at, is_alphanumeric, is_between, is_label, medium_of}
use Rattle.sets.specs.Bits.{has_bit, subset_of, with_bit, with_member, without_bit}
use Rattle.job_sets.specs.Jobs.{job_has, job_with, job_without}
use Rattle.queries.specs.Admission.{admission, consumed_at, listed_by, lists_at, made_before, made_by, makes_at, not_created_at, remade_at}
use Rattle.federation.specs.Federation.{is_federation, is_known, is_lawful_up_to, threshold_of}
use Rattle.journal.specs.Journal.{equal_at, equal_in, has_room, inside_of, is_booked, job_at, put_at, record_at, slot_at}
use Rattle.generations.specs.Generations.{is_at}
use Rattle.vaults.specs.Vaults.{holding, signing, unsigning, vault_preflight}
use Rattle.vaults.specs.declared.Column.TheVariants.{Signatures}
use Rattle.ledger.proofs.Demand2.{demand2}
use Rattle.ledger.proofs.Releases.{after_release}
use Rattle.ledger.specs.Decisions.{
  admission_at,
  certificate,
  committing,
  consent,
  placing,
  preflighting,
  proposal,
  receiving,
  releasing,
  settling,
  superseded_at,
  supersession,
}
use Rattle.ledger.specs.Demand2.{ByRelease}
use Rattle.ledger.specs.Growth.{Released}
use Rattle.ledger.specs.Register.{is_done}
use Rattle.ledger.specs.State.{applied, arriving, booking, enqueued, has_arrived, is_sane, new_ledger, voted, votes_in, with_vault}
use Rattle.ledger.specs.Steps.{
  commit_decision,
  faulty_vote_decision,
  gate_of,
  journal_after,
  preflight_decision,
  propose_decision,
  release_decision,
  sane_gate,
  vault_gate,
}
use Rattle.ledger.specs.Worlds.{Event, World, after, after_all, commit, faulty_vote, lend, outcomes, overlay, preflight, propose, release, reply_to, start}
use Rattle.instances.proofs.Example.{lending}
use Rattle.instances.proofs.ReadyExample.{lawful}
use Rattle.instances.specs.Records.{accession, accession_by, first_tape}

-- the same tape, by drive 6
abbrev pub rival : List ℕ
rival = accession_by 6 first_tape

-- job 0 is signed at vault 0, and job 1, its rival, by the other three; the certificate 14 names them
abbrev pub past : List Event
past =
    lending (propose accession)
    ∷ lending (propose rival)
    ∷ lending (preflight 0 0)
    ∷ lending (preflight 1 1)
    ∷ lending (preflight 2 1)
    ∷ lending (faulty_vote Signatures 3 1)
    ∷ lending (release 0 0 1)
    ∷ lending (commit 0 1 14)
    ∷ []

abbrev pub world : World
world = after_all (start 4 1 8 1) past

-- the release comes too early, then in time, with the count of the signature that stays; it is made once, and a later preflight is turned back
pub answers :
    (outcomes (start 4 1 8 1) (past ++ (lending (release 0 0 1) ∷ lending (release 0 0 1) ∷ lending (preflight 0 0) ∷ []))
    ≡ Ok 0 ∷ Ok 1 ∷ Ok 1 ∷ Ok 1 ∷ Ok 2 ∷ Ok 3 ∷ Err NotSuperseded ∷ Ok 1 ∷ Ok 1 ∷ Err NotSignedHere ∷ Err (OutputReserved 4) ∷ [])
    × ((reply_to world (lending (release 0 0 1))).outcome ≡ Ok 1)
unfolding same_list any_below all_below first_below sum_from has_bit with_bit with_member without_bit subset_of job_has job_with job_without inputs_formed counts_formed
    is_filled is_blank entry_formed trimmed_formed well_formed has_label_of repeated_at is_written unsupported_at balanced check_of examined record_size says_trimmed
    place_of whole_in le_at entry_at entries_at job_of is_label_at label_in is_tape_at makes_tape shares_at shares_in conflicting is_drive supports label_of frames_of is_used
    used_frames is_between char_at is_alphanumeric medium_of is_label makes_at made_by lists_at listed_by not_created_at consumed_at made_before remade_at admission is_known
    is_federation is_lawful_up_to threshold_of is_at slot_at is_booked record_at job_at inside_of equal_at equal_in has_room put_at votes_in has_arrived is_sane new_ledger
    booking voted with_vault enqueued arriving applied gate_of sane_gate vault_gate placing settling proposal propose_decision journal_after consent preflighting
    preflight_decision certificate receiving committing commit_decision faulty_vote_decision superseded_at supersession releasing release_decision signing holding
    unsigning admission_at vault_preflight lend overlay after start ones ones_in
answers = (refl, refl)

-- what demand 2 says of a release that is answered 0 is said of this one: job 0 is unsigned at vault 0, and its one signature is recorded as it was
pub example_left : ByRelease world (after world (lending (release 0 0 1))) 0 0 1
example_left = (demand2 4 1 8 1 lawful past).leaves (lending (release 0 0 1)) 1 answers.1

-- so it is released there
pub example_released : Released (after world (lending (release 0 0 1))) 0 0
example_released = after_release 4 1 8 1 lawful past 300 (replicate 300 7) 0 0 1 (ap is_done answers.1)
