-- Why outputs in common matter: two accessions of VAA001L5, by drives 6 and 7, have no inputs, so they meet the paper's condition; but a label is
-- made once. Computed from the real bytes. Beside it, the theorem at work on two labels.
use mathlib.Core.Bool.{true≢false}
use mathlib.Core.List.{List, [], ◌++◌, ◌∷◌}
use mathlib.Core.Logic.{inl, ⊎_elim}
use mathlib.Core.Path.{◌∙◌, ◌≡◌, ap, refl, sym}
use Prim.Native.Nat.{ℕ}
use native.Mathlib.Omega.{arith}
use lib.Dec.{lit<}
use lib.ListN.{get_or}
use Rattle.base.specs.Lists.{same_list}
use Rattle.base.specs.Search.{all_below, any_below, first_below, sum_from}
use Rattle.checks.specs.Checks.{
  balanced,
  check_of,
  counts_formed,
  entry_formed,
  examined,
  has_label_of,
  inputs_formed,
  is_blank,
  is_filled,
  is_written,
  repeated_at,
  trimmed_formed,
  unsupported_at,
  well_formed,
}
use Rattle.codec.specs.Codec.{entries_at, entry_at, job_of, le_at, record_size, says_trimmed}
use Rattle.conflicts.specs.Tapes.{same_tape, used_from}
use Rattle.drives.specs.Drives.{is_drive, supports}
use Rattle.record.specs.Entries.{frames_of, is_used, label_of, used_frames}
use Rattle.record.specs.Labels.{char_at, is_alphanumeric, is_between, is_label, medium_of}
use Rattle.instances.specs.OneLabel.{OneLabel, PaperFails, answered, rivals}
use Rattle.instances.specs.Records.{accession, accession_by, blank, first_tape}
use Rattle.consequences.proofs.Independence.{commuting}
use Rattle.consequences.specs.Independence.{EitherWay}
use Rattle.ledger.specs.Register.{Fed, entering, feed_all, feed_commit, feed_proposal, is_admissible, new_register, stopped, taking}
use Rattle.ledger.specs.Worlds.{commit, propose}

-- VAC001L5 and VAB001L7, with 500 and 900 frames
abbrev third_tape : List ℕ
third_tape = 86 ∷ 65 ∷ 67 ∷ 48 ∷ 48 ∷ 49 ∷ 76 ∷ 53 ∷ 244 ∷ 1 ∷ 0 ∷ 0 ∷ []

abbrev shorter_tape : List ℕ
shorter_tape = 86 ∷ 65 ∷ 66 ∷ 48 ∷ 48 ∷ 49 ∷ 76 ∷ 55 ∷ 132 ∷ 3 ∷ 0 ∷ 0 ∷ []

-- 100 of 1000 frames are trimmed
abbrev trimming : List ℕ
trimming = (1 ∷ 7 ∷ 1 ∷ 1 ∷ []) ++ first_tape ++ blank ++ blank ++ blank ++ shorter_tape ++ blank ++ blank ++ blank ++ (100 ∷ 0 ∷ 0 ∷ 0 ∷ [])

abbrev untrimmed : List ℕ
untrimmed = 0 ∷ 0 ∷ 0 ∷ 0 ∷ []

pub one_label : OneLabel
unfolding same_list any_below all_below first_below sum_from inputs_formed counts_formed is_filled is_blank entry_formed trimmed_formed well_formed has_label_of
    repeated_at is_written unsupported_at balanced check_of examined record_size says_trimmed le_at entry_at entries_at job_of is_drive supports
    label_of frames_of is_used used_frames is_between char_at is_alphanumeric medium_of is_label used_from same_tape is_admissible taking stopped entering
    feed_proposal feed_commit
one_label = record {
  reached = record { version = 1; fed = rivals; leads = refl; running = refl };
  empty = refl;
  different = λ e. absurd (omega (arith, e));
  records = λ e. absurd (omega (arith, ap (λ (bytes : List ℕ). get_or bytes 1 0) e));
  ready = record { known = lit< tt; admissible = refl };
  ready' = record { known = lit< tt; admissible = refl };
  independent = record { in_in = λ x m n. absurd n; out_in = λ x m n. absurd n; in_out = λ x m n. absurd n };
  label = 3840498665277964630;
  shared = inl refl;
  shared' = inl refl;
  second = refl;
  first = refl;
  stops = λ v w signers signers'. refl;
  stops' = λ v w signers signers'. refl;
}

pub paper_fails : PaperFails
unfolding taking
paper_fails law =
    let c = one_label in
    true≢false
    (sym (law (feed_all (new_register 1) rivals) c.reached 0 1 c.different c.ready c.ready' c.independent).second.admissible ∙ c.second)

-- the theorem at work, over version 2 records: job 0 is taken; job 1 migrates its tape, and job 2 accessions another
abbrev others : List Fed
others =
    answered (propose (accession ++ untrimmed))
    ∷ answered (propose trimming)
    ∷ answered (propose (accession_by 6 third_tape ++ untrimmed))
    ∷ answered (commit 0 0 11)
    ∷ []

pub two_labels : EitherWay (feed_all (new_register 2) others) 1 2
unfolding same_list any_below all_below first_below sum_from inputs_formed counts_formed is_filled is_blank entry_formed trimmed_formed well_formed has_label_of
    repeated_at is_written unsupported_at balanced check_of examined record_size says_trimmed le_at entry_at entries_at job_of is_drive supports
    label_of frames_of is_used used_frames is_between char_at is_alphanumeric medium_of is_label used_from same_tape is_admissible taking stopped entering
    feed_proposal feed_commit
two_labels =
    commuting (feed_all (new_register 2) others) (record { version = 2; fed = others; leads = refl; running = refl }) 1 2 (λ e. absurd (omega (arith, e)))
    (record { known = lit< tt; admissible = refl })
    (record { known = lit< tt; admissible = refl })
    (record {
      inputs = λ x m n. absurd n;
      outputs = λ x m n. ⊎_elim
          (λ (e : x ≡ 3984613853353886038). ⊎_elim (λ (f : x ≡ 3840498665278095702). absurd (omega (arith, e, f))) (λ z. z) n) (λ z. z) m;
    })
