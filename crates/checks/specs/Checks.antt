-- Checks 6 to 9 ("Records" and "Turned back"), each of which needs the record alone.
use Rattle.std.specs.Prelude.{Bool, true, cond, not, ◌&&◌, List, ℕ, ◌+◌, eqb, leb, ltb, length, Ok, Err}
use Rattle.base.specs.Search.{any_below, all_below, first_below, sum_from}
use Rattle.outcome.specs.Figures.{Verdict}
use Rattle.outcome.specs.declared.Refusal.TheVariants.{Malformed, Repeated, Unsupported, Unbalanced}
use Rattle.record.specs.declared.Job.{Job}
use Rattle.codec.specs.Codec.{record_size, job_of}
use Rattle.record.specs.Entries.{label_of, frames_of, is_used, used_frames}
use Rattle.record.specs.Labels.{is_between, is_label, medium_of}
use Rattle.drives.specs.Drives.{is_drive, supports}

-- ---- 6: "An accession has 0 inputs, a migration 1 to 4; both have 1 to 4 outputs."
unfoldable pub inputs_formed : Job → Bool
inputs_formed j = cond (eqb j.kind 0) (eqb j.inputs 0) (eqb j.kind 1 && is_between 1 4 j.inputs)

unfoldable pub counts_formed : Job → Bool
counts_formed j = inputs_formed j && is_between 1 4 j.outputs

-- "Frames of a used entry are at least 1."
unfoldable pub is_filled : Job → ℕ → Bool
is_filled j i = is_label (label_of j i) && leb 1 (frames_of j i)

-- "unused entries are all zero."
unfoldable pub is_blank : Job → ℕ → Bool
is_blank j i = eqb (label_of j i) 0 && eqb (frames_of j i) 0

unfoldable pub entry_formed : Job → ℕ → Bool
entry_formed j i = cond (is_used j i) (is_filled j i) (is_blank j i)

-- "an accession has 0 trimmed, else 6" (M-102)
unfoldable pub trimmed_formed : Job → Bool
trimmed_formed j = cond (eqb j.kind 0) (eqb j.trimmed 0) true

unfoldable pub well_formed : Job → Bool
well_formed j = is_drive j.drive && (counts_formed j && (trimmed_formed j && all_below 8 (entry_formed j)))

-- ---- 7: "a used entry's label equals an earlier used entry's"

-- entry k is used and has the label of entry i
unfoldable pub has_label_of : Job → ℕ → ℕ → Bool
has_label_of j i k = is_used j k && eqb (label_of j k) (label_of j i)

unfoldable pub repeated_at : Job → ℕ → Bool
repeated_at j i = is_used j i && any_below i (has_label_of j i)

-- ---- 8: "Inputs of a migration and outputs of an accession must be readable, outputs of a migration writable."
unfoldable pub is_written : Job → ℕ → Bool
is_written j i = leb 4 i && eqb j.kind 1

unfoldable pub unsupported_at : Job → ℕ → Bool
unsupported_at j i = is_used j i && not (supports (is_written j i) j.drive (medium_of (label_of j i)))

-- ---- 9: "In a migration input frames equal output frames plus trimmed" (M-102)
unfoldable pub balanced : Job → Bool
balanced j = cond (eqb j.kind 1) (eqb (sum_from (used_frames j) 0 4) (sum_from (used_frames j) 4 4 + j.trimmed)) true

-- ---- the first refusal, in the table's order
unfoldable pub check_of : Job → Verdict
check_of j =
    cond (well_formed j)
    (let repeated = first_below 8 (repeated_at j) in
    cond (ltb repeated 8) (Err (Repeated repeated))
    (let unsupported = first_below 8 (unsupported_at j) in
    cond (ltb unsupported 8) (Err (Unsupported unsupported))
    (cond (balanced j) (Ok tt) (Err Unbalanced))))
    (Err Malformed)

-- of bytes: any other number of them than the version's records have is malformed
unfoldable pub examined : ℕ → List ℕ → Verdict
examined version bytes = cond (eqb (length bytes) (record_size version)) (check_of (job_of bytes)) (Err Malformed)
