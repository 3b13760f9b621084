-- The tapes that a job frees, by its votes.
use Rattle.std.specs.Prelude.{cond, List, [], ℕ, leb}
use Rattle.std.specs.Int.Count.{ones}
use Rattle.conflicts.specs.Tapes.{input_tapes}
use Rattle.federation.specs.Federation.{threshold_of}
use Rattle.federation.specs.declared.Settings.{Settings}
use Rattle.record.specs.declared.Job.{Job}
use Rattle.vaults.specs.declared.Votes.{Votes}
use Rattle.consequences.specs.Freed.{Freed}
use Rattle.release_lines.specs.Tapes.{of_job}

-- the inputs of a job with these votes, where they finish it
unfoldable pub freed_with : Settings → Votes → Job → ℕ → List Freed
freed_with s votes j k = cond (leb (threshold_of s) (ones votes.acknowledgements)) (of_job k (input_tapes j)) []
