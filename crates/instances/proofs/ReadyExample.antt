-- The premises of a ready job can be met: in document 01's federation, n 4, b 1 and vault 3 faulty, the accession of document 01's run has come to vaults 0, 1
-- and 2, and the migration is ready there. Between the steps of its two rounds another job is proposed, signed and turned back. Computed from the real bytes.
use mathlib.Core.Bool.{false, true≢false}
use mathlib.Core.Logic.{◌≢◌, inl, inr}
use mathlib.Core.List.{List, [], ◌++◌, ◌∷◌}
use mathlib.Core.Path.{◌∙◌, ◌≡◌, refl, sym}
use Prim.Native.Nat.{suc, zero, ℕ}
use native.Mathlib.Omega.{arith}
use lib.Dec.{lit≤}
use lib.Count.{ones, ones_in}
use lib.ListN.{replicate}
use Rattle.base.specs.Lists.{same_list}
use Rattle.base.specs.Search.{all_below, any_below, first_below, sum_from}
use Rattle.std.specs.Prelude.{Ok, Err}
use Rattle.outcome.specs.declared.Refusal.TheVariants.{NotSigned, NotSuperseded}
use Rattle.checks.specs.Checks.{
  balanced,
  check_of,
  counts_formed,
  entry_formed,
  examined,
  has_label_of,
  inputs_formed,
  is_blank,
  is_filled,
  is_written,
  repeated_at,
  trimmed_formed,
  unsupported_at,
  well_formed,
}
use Rattle.codec.specs.Codec.{entries_at, entry_at, job_of, le_at, place_of, record_size, says_trimmed, whole_in}
use Rattle.conflicts.specs.Conflicts.{conflicting, is_label_at, is_tape_at, label_in, makes_tape, shares_at, shares_in}
use Rattle.drives.specs.Drives.{is_drive, supports}
use Rattle.record.specs.Entries.{frames_of, is_used, label_of, used_frames}
use Rattle.record.specs.Labels.{char_at, is_alphanumeric, is_between, is_label, medium_of}
use Rattle.conflicts.specs.Tapes.{used_from}
use Rattle.sets.specs.Bits.{has_bit, subset_of, with_bit, with_member, without_bit}
use Rattle.job_sets.specs.Jobs.{job_count, job_has, job_union, job_with, job_without, no_jobs}
use Rattle.queries.specs.Admission.{admission, consumed_at, listed_by, lists_at, made_before, made_by, makes_at, not_created_at, remade_at}
use Rattle.federation.specs.Federation.{is_federation, is_known, is_lawful_up_to, threshold_of}
use Rattle.journal.specs.Journal.{equal_at, equal_in, has_room, inside_of, is_booked, job_at, put_at, record_at, slot_at}
use Rattle.generations.specs.Generations.{is_at}
use Rattle.ledger.specs.State.{applied, arriving, booking, enqueued, has_arrived, is_sane, new_ledger, vault_at, visited, voted, votes_in, with_vault}
use Rattle.vaults.specs.declared.Column.TheVariants.{Signatures}
use Rattle.ledger.specs.Decisions.{
  admission_at,
  certificate,
  committing,
  consent,
  placing,
  preflighting,
  proposal,
  receiving,
  releasing,
  settling,
  snapshotting,
  status_of,
  superseded_at,
  supersession,
}
use Rattle.ledger.specs.Steps.{
  booked_gate,
  commit_decision,
  faulty_vote_decision,
  gate_of,
  journal_after,
  preflight_decision,
  propose_decision,
  release_decision,
  sane_gate,
  show_decision,
  snapshot_decision,
  vault_gate,
}
use Rattle.vaults.specs.Vaults.{holding, signing, unsigning, vault_preflight}
use Rattle.ledger.specs.Worlds.{Event, World, after, after_all, commit, faulty_vote, lend, outcomes, overlay, preflight, propose, release, show, snapshot, start}
use Rattle.ledger.specs.Demand3.{records_in}
use Rattle.consequences.specs.Ready.{Accepted, Accepts, Allowed, AtEach, Harmless, Ready, Round, Through}
use Rattle.instances.proofs.Example.{lending}
use Rattle.instances.specs.Records.{accession, accession_by, migration}
use Rattle.consequences.proofs.Ready.{accepted_is_ready, ready_amid_releases, ready_gets_through}
use Rattle.ledger.proofs.Rivals.{peaceful_apart}
use Rattle.federation.specs.Federation.{Lawful}
use Rattle.snapshot.specs.Snapshot.{following, seen_after, seen_before, visible}
use Rattle.sets.proofs.Bits.{has_none, has_suc}
use Rattle.federation.proofs.Lawful.{reflect_lawful}

-- a third record, which accessions another tape
abbrev pub third_tape : List ℕ
third_tape = 86 ∷ 65 ∷ 67 ∷ 48 ∷ 48 ∷ 49 ∷ 76 ∷ 55 ∷ 244 ∷ 1 ∷ 0 ∷ 0 ∷ []

abbrev pub another : List ℕ
another = accession_by 7 third_tape

-- job 0 is held at vaults 0, 1 and 2, and job 1 is booked
abbrev pub past : List Event
past =
    lending (propose accession)
    ∷ lending (preflight 0 0)
    ∷ lending (preflight 1 0)
    ∷ lending (preflight 2 0)
    ∷ lending (commit 0 0 7)
    ∷ lending (commit 1 0 7)
    ∷ lending (commit 2 0 7)
    ∷ lending (propose migration)
    ∷ []

abbrev pub world : World
world = after_all (start 4 1 8 1) past

-- the round of preflights, in which job 2 is proposed and signed at vault 0, and a visit comes
abbrev pub preflights : List Event
preflights =
    lending (preflight 2 1)
    ∷ lending (propose another)
    ∷ lending (preflight 0 1)
    ∷ lending (preflight 0 2)
    ∷ lending snapshot
    ∷ lending (preflight 1 1)
    ∷ []

-- the round of commits, in which job 2 is turned back at vault 0 and gets a faulty signature
abbrev pub commits : List Event
commits =
    lending (commit 1 1 7)
    ∷ lending (commit 0 2 7)
    ∷ lending (commit 0 1 7)
    ∷ lending (faulty_vote Signatures 3 2)
    ∷ lending (commit 2 1 7)
    ∷ []

-- the vaults of the set 7 are 0, 1 and 2
of_seven : (P : ℕ → Type 0) → P 0 → P 1 → P 2 → AtEach 7 P
of_seven P a b c zero m = a
of_seven P a b c (suc zero) m = b
of_seven P a b c (suc (suc zero)) m = c
of_seven P a b c (suc (suc (suc v))) m =
    absurd (true≢false (sym m ∙ (has_suc 7 (suc (suc v)) ∙ (has_suc 3 (suc v) ∙ (has_suc 1 v ∙ has_none v)))))

pub lawful : Lawful (record { n = 4; b = 1; faulty = 8; version = 1 })
unfolding is_known is_federation is_lawful_up_to ones ones_in
lawful = (reflect_lawful _).sound refl

-- job 2 is not job 1
other : ◌≢◌ {A = ℕ} 2 1
other e = absurd (omega (arith, e))

-- the premises, and what the steps of the two rounds and a show of the job are answered
pub premises :
    Accepted world 7 1
    × AtEach 7 (λ v. job_has (vault_at world.ledger v).held 1 ≡ false)
    × Round Allowed (λ v. preflight v 1) world 7 1 preflights
    × Round Allowed (λ v. commit v 1 7) (after_all world preflights) 7 1 commits
    × (outcomes world (preflights ++ (commits ++ (lending (show 1) ∷ [])))
    ≡ Ok 1 ∷ Ok 2 ∷ Ok 2 ∷ Ok 1 ∷ Ok 1 ∷ Ok 3 ∷ Ok 1 ∷ Err NotSigned ∷ Ok 2 ∷ Ok 2 ∷ Ok 3 ∷ Ok 2 ∷ [])
unfolding same_list any_below all_below first_below sum_from has_bit with_bit with_member without_bit subset_of job_has job_with job_without inputs_formed
    counts_formed is_filled is_blank entry_formed trimmed_formed well_formed has_label_of repeated_at is_written unsupported_at balanced check_of examined
    record_size says_trimmed place_of whole_in le_at
    entry_at
    entries_at job_of is_label_at label_in is_tape_at makes_tape is_drive supports label_of frames_of is_used used_frames is_between char_at is_alphanumeric medium_of
    is_label used_from makes_at made_by lists_at listed_by not_created_at consumed_at made_before remade_at admission is_known is_federation is_lawful_up_to
    threshold_of is_at slot_at is_booked
    record_at job_at inside_of equal_at equal_in has_room put_at votes_in has_arrived is_sane new_ledger booking voted with_vault enqueued arriving applied
    booked_gate gate_of sane_gate vault_gate placing settling proposal propose_decision journal_after consent preflighting preflight_decision certificate
    receiving committing commit_decision faulty_vote_decision status_of show_decision signing holding admission_at vault_preflight lend overlay after start
    ones ones_in shares_at shares_in conflicting records_in following visible seen_before seen_after snapshotting visited snapshot_decision job_count job_union
    no_jobs
premises = (
  record {
    enough = lit≤ tt;
    each = of_seven (Accepts world 1)
        (record { size = 300; beyond = replicate 300 7; is = refl })
        (record { size = 300; beyond = replicate 300 7; is = refl })
        (record { size = 300; beyond = replicate 300 7; is = refl });
  },
  of_seven (λ v. job_has (vault_at world.ledger v).held 1 ≡ false) refl refl refl,
  record {
    whole = (lit≤ tt, (lit≤ tt, (lit≤ tt, (lit≤ tt, (lit≤ tt, (lit≤ tt, tt))))));
    steps = (
      inl (2, (refl, refl)),
      (
        inr tt,
        (
          inl (0, (refl, refl)),
          (
            inr (other, λ n b. peaceful_apart refl),
            (inr tt, (inl (1, (refl, refl)), tt)),
          ),
        ),
      ),
    );
    each = of_seven _ (inr (inr (inl refl))) (inr (inr (inr (inr (inr (inl refl)))))) (inl refl);
  },
  record {
    whole = (lit≤ tt, (lit≤ tt, (lit≤ tt, (lit≤ tt, (lit≤ tt, tt)))));
    steps = (
      inl (1, (refl, refl)),
      (
        inr (other, λ n b. peaceful_apart refl),
        (
          inl (0, (refl, refl)),
          (
            inr (other, λ n b. peaceful_apart refl),
            (inl (2, (refl, refl)), tt),
          ),
        ),
      ),
    );
    each = of_seven _ (inr (inr (inl refl))) (inl refl) (inr (inr (inr (inr (inl refl)))));
  },
  refl,
)

ready : Ready world 7 1
ready =
    let a = accepted_is_ready 4 1 8 1 lawful past 7 1 premises.0 in
    record { booked = a.booked; correct = a.correct; creators = a.creators; unheld = premises.1; accepted = premises.0 }

-- so the migration is certified and finished, by the theorem
pub example_gets_through : Through world 7 1 preflights commits
example_gets_through = ready_gets_through 4 1 8 1 lawful past 7 1 ready preflights premises.2 commits premises.3

-- ---- the same with releases: vault 2 is asked to release the migration that it has signed, and turns that back; and so is vault 0 between the commits
abbrev pub preflights_amid : List Event
preflights_amid = lending (preflight 2 1) ∷ lending (release 2 1 0) ∷ lending (preflight 0 1) ∷ lending (preflight 1 1) ∷ []

abbrev pub commits_amid : List Event
commits_amid = lending (commit 0 1 7) ∷ lending (release 0 1 0) ∷ lending (commit 1 1 7) ∷ lending (commit 2 1 7) ∷ []

pub premises_amid :
    Round Harmless (λ v. preflight v 1) world 7 1 preflights_amid
    × Round Harmless (λ v. commit v 1 7) (after_all world preflights_amid) 7 1 commits_amid
    × (outcomes world (preflights_amid ++ (commits_amid ++ (lending (show 1) ∷ [])))
    ≡ Ok 1 ∷ Err NotSuperseded ∷ Ok 2 ∷ Ok 3 ∷ Ok 1 ∷ Err NotSuperseded ∷ Ok 2 ∷ Ok 3 ∷ Ok 2 ∷ [])
unfolding same_list any_below all_below first_below sum_from has_bit with_bit with_member without_bit subset_of job_has job_with job_without inputs_formed
    counts_formed is_filled is_blank entry_formed trimmed_formed well_formed has_label_of repeated_at is_written unsupported_at balanced check_of examined
    record_size says_trimmed place_of whole_in le_at
    entry_at
    entries_at job_of is_label_at label_in is_tape_at makes_tape is_drive supports label_of frames_of is_used used_frames is_between char_at is_alphanumeric medium_of
    is_label used_from makes_at made_by lists_at listed_by not_created_at consumed_at made_before remade_at admission is_known is_federation is_lawful_up_to
    threshold_of is_at slot_at is_booked
    record_at job_at inside_of equal_at equal_in has_room put_at votes_in has_arrived is_sane new_ledger booking voted with_vault enqueued arriving applied
    booked_gate gate_of sane_gate vault_gate placing settling proposal propose_decision journal_after consent preflighting preflight_decision certificate
    receiving committing commit_decision faulty_vote_decision status_of show_decision signing holding admission_at vault_preflight lend overlay after start
    ones ones_in shares_at shares_in conflicting records_in following visible seen_before seen_after snapshotting visited snapshot_decision job_count job_union
    no_jobs superseded_at supersession releasing release_decision unsigning
premises_amid = (
  record {
    whole = (lit≤ tt, (lit≤ tt, (lit≤ tt, (lit≤ tt, tt))));
    steps = (
      inl (2, (refl, refl)),
      (inr (inr (record { vault = 2; job = 1; rival = 0; is = refl })), (inl (0, (refl, refl)), (inl (1, (refl, refl)), tt))),
    );
    each = of_seven _ (inr (inr (inl refl))) (inr (inr (inr (inl refl)))) (inl refl);
  },
  record {
    whole = (lit≤ tt, (lit≤ tt, (lit≤ tt, (lit≤ tt, tt))));
    steps = (
      inl (0, (refl, refl)),
      (inr (inr (record { vault = 0; job = 1; rival = 0; is = refl })), (inl (1, (refl, refl)), (inl (2, (refl, refl)), tt))),
    );
    each = of_seven _ (inl refl) (inr (inr (inl refl))) (inr (inr (inr (inl refl))));
  },
  refl,
)

pub example_amid_releases : Through world 7 1 preflights_amid commits_amid
example_amid_releases = ready_amid_releases 4 1 8 1 lawful past 7 1 ready preflights_amid premises_amid.0 commits_amid premises_amid.1
