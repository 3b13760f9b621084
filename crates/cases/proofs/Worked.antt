-- Each row of the table of C1 to C10 is answered as the documents say: by computation.
use mathlib.Core.Path.{◌≡◌, refl}
use lib.Count.{ones, ones_in}
use Rattle.base.specs.Lists.{same_list}
use Rattle.base.specs.Search.{all_below, any_below, first_below, sum_from}
use Rattle.checks.specs.Checks.{balanced, check_of, counts_formed, entry_formed, examined, has_label_of, inputs_formed, is_blank}
use Rattle.checks.specs.Checks.{is_filled, is_written, repeated_at, trimmed_formed, unsupported_at, well_formed}
use Rattle.codec.specs.Codec.{entries_at, entry_at, job_of, le_at, place_of, record_size, says_trimmed, whole_in}
use Rattle.drives.specs.Drives.{is_drive, supports}
use Rattle.record.specs.Entries.{frames_of, is_used, label_of, used_frames}
use Rattle.record.specs.Labels.{char_at, is_alphanumeric, is_between, is_label, medium_of}
use Rattle.federation.specs.Federation.{is_federation, is_known, is_lawful_up_to, threshold_of}
use Rattle.job_sets.specs.Jobs.{job_has}
use Rattle.journal.specs.Journal.{equal_at, equal_in, has_room, inside_of, is_booked, slot_at}
use Rattle.ledger.specs.State.{applied, booking, is_sane, new_ledger, voted}
use Rattle.ledger.specs.Decisions.{certificate, committing, placing, proposal, receiving, settling}
use Rattle.ledger.specs.Steps.{commit_decision, commit_of, gate_of, new_of, propose_decision, propose_of, sane_gate, vault_gate}
use Rattle.sets.specs.Bits.{has_bit, subset_of, with_bit, with_member}
use Rattle.binomials.specs.Binomials.{choose, factorial}
use Rattle.binomials.specs.Draw.{draw_of, failing, thousandths, to_even}
use Rattle.cases.specs.Table.{answered, given, table}

pub cases : answered table ≡ given table
unfolding same_list any_below all_below first_below sum_from inputs_formed counts_formed is_filled is_blank entry_formed trimmed_formed well_formed has_label_of
    repeated_at is_written unsupported_at balanced check_of examined record_size says_trimmed place_of whole_in le_at entry_at entries_at job_of is_drive supports
    label_of frames_of is_used used_frames is_between char_at is_alphanumeric medium_of is_label is_known is_federation is_lawful_up_to threshold_of equal_at equal_in
    has_room inside_of slot_at booking is_sane new_ledger applied placing settling proposal new_of propose_decision propose_of sane_gate choose factorial
    draw_of failing thousandths to_even ones ones_in has_bit with_bit with_member subset_of job_has is_booked voted certificate receiving committing gate_of vault_gate
    commit_decision commit_of
cases = refl
