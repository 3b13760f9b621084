-- Twelve refusals by the quota in a row: a client that got four signatures asks for a fifth job. Computed through the functions that demand 3 is about.
use mathlib.Core.Bool.{false, true}
use mathlib.Core.List.{List, [], ◌++◌, ◌∷◌}
use mathlib.Core.Logic.{inl, inr}
use mathlib.Core.Path.{◌≡◌, ap, refl}
use Prim.Native.Nat.{◌+◌, suc, zero, ℕ}
use lib.Count.{ones, ones_in}
use lib.ListN.{replicate}
use Rattle.base.specs.Lists.{same_list}
use Rattle.base.specs.Search.{all_below, any_below, first_below, sum_from}
use Rattle.checks.specs.Checks.{
  balanced,
  check_of,
  counts_formed,
  entry_formed,
  examined,
  has_label_of,
  inputs_formed,
  is_blank,
  is_filled,
  is_written,
  repeated_at,
  trimmed_formed,
  unsupported_at,
  well_formed,
}
use Rattle.codec.specs.Codec.{entries_at, entry_at, job_of, le_at, place_of, record_size, says_trimmed, whole_in}
use Rattle.conflicts.specs.Conflicts.{is_label_at, is_tape_at, label_in, makes_tape}
use Rattle.federation.specs.Federation.{is_federation, is_known, is_lawful_up_to}
use Rattle.queries.specs.Admission.{admission, consumed_at, listed_by, lists_at, made_before, made_by, makes_at, not_created_at, remade_at}
use Rattle.journal.specs.Journal.{equal_at, equal_in, has_room, inside_of, is_booked, job_at, put_at, record_at, slot_at}
use Rattle.quota.specs.Asks.{AllOver, Ask}
use Rattle.quota.specs.Quota.{history_place, is_client, is_spent, remembered}
use Rattle.drives.specs.Drives.{is_drive, supports}
use Rattle.record.specs.Entries.{frames_of, is_used, label_of, used_frames}
use Rattle.record.specs.Labels.{char_at, is_alphanumeric, is_between, is_label, medium_of}
use Rattle.sets.specs.Bits.{has_bit, with_bit, with_member, without_bit}
use Rattle.job_sets.specs.Jobs.{job_has, job_with, job_without}
use Rattle.instances.specs.Records.{blank}
use Rattle.ledger.specs.Decisions.{admission_at, client_preflighting, counted_consent, placing, proposal, settling, within_quota}
use Rattle.ledger.specs.Quota.{Twelve, asked}
use Rattle.ledger.specs.State.{applied, booking, counted, history_at, is_sane, new_ledger, voted, votes_in, with_vault}
use Rattle.ledger.specs.Steps.{client_preflight_decision, gate_of, journal_after, propose_decision, sane_gate, vault_gate}
use Rattle.ledger.specs.Worlds.{Event, Request, after, client_preflight, lend, overlay, propose, start}
use Rattle.vaults.specs.Vaults.{signing, vault_preflight}

-- the accession of a tape of its own, VAA00 with a digit, L5 and one frame
abbrev tape : ℕ → List ℕ
tape i = 86 ∷ 65 ∷ 65 ∷ 48 ∷ 48 ∷ (48 + i) ∷ 76 ∷ 53 ∷ 1 ∷ 0 ∷ 0 ∷ 0 ∷ []

abbrev minted : ℕ → List ℕ
minted i = (0 ∷ 7 ∷ 0 ∷ 1 ∷ []) ++ blank ++ blank ++ blank ++ blank ++ tape i ++ blank ++ blank ++ blank

abbrev lending : Request → Event
lending request = record { request = request; size = 500; beyond = replicate 500 0 }

abbrev asking : ℕ → Event
asking job = lending (client_preflight 0 job 0)

abbrev busy : List Event
busy =
    lending (propose (minted 0)) ∷ lending (propose (minted 1)) ∷ lending (propose (minted 2)) ∷ lending (propose (minted 3)) ∷ lending (propose (minted 4))
    ∷ asking 0 ∷ asking 1 ∷ asking 2 ∷ asking 3 ∷ replicate 12 (asking 4)

abbrev granted : Ask
granted = record { fresh = true; over = false }

abbrev turned : Ask
turned = record { fresh = false; over = true }

all_over : (n : ℕ) → AllOver (replicate n turned)
all_over zero a m = absurd m
all_over (suc n) a (inl e) = ap (λ (x : Ask). x.over) e
all_over (suc n) a (inr m) = all_over n a m

seen : asked 0 0 (start 1 0 0 1) busy [] ≡ replicate 12 turned ++ replicate 4 granted
unfolding same_list any_below all_below first_below sum_from has_bit with_bit with_member without_bit job_has job_with job_without inputs_formed counts_formed is_filled
    is_blank entry_formed trimmed_formed well_formed has_label_of repeated_at is_written unsupported_at balanced check_of examined record_size says_trimmed place_of
    whole_in le_at entry_at entries_at job_of is_label_at label_in is_tape_at makes_tape is_drive supports label_of frames_of is_used used_frames is_between char_at
    is_alphanumeric medium_of is_label makes_at made_by lists_at listed_by not_created_at consumed_at made_before remade_at admission is_known is_federation is_lawful_up_to
    slot_at record_at is_booked job_at inside_of equal_at equal_in has_room put_at votes_in is_sane new_ledger booking voted with_vault counted history_at applied gate_of
    sane_gate vault_gate placing settling proposal propose_decision journal_after admission_at within_quota counted_consent client_preflighting
    client_preflight_decision signing vault_preflight is_client is_spent history_place remembered lend overlay after start ones ones_in
seen = refl

pub twelve : Twelve
twelve = (busy, replicate 12 turned, record { newer = []; older = replicate 4 granted; whole = seen }, all_over 12, refl)
