-- What was answered to a step, in words.
use Rattle.std.specs.Prelude.{◌||◌, cond, not, List, [], ◌++◌, ◌∷◌, ◌*◌, ◌+◌, ℕ, eqb, drop}
use Rattle.std.specs.Int.Count.{ones}
use Rattle.codec.specs.Codec.{entry_size, head_size}
use Rattle.federation.specs.declared.Settings.{Settings}
use Rattle.ledger.specs.Decisions.{status_of}
use Rattle.outcome.specs.Figures.{number_of, value_of, Outcome}
use Rattle.rows.specs.Table.{letters}
use Rattle.rows.specs.Writing.{text_by}
use Rattle.sets.specs.Bits.{has_bit}
use Rattle.job_sets.specs.Jobs.{jobs_below}
use Rattle.job_sets.specs.declared.job_set.JobSet.{JobSet}
use Rattle.digits.specs.Digits.{decimal}
use Rattle.text.specs.Text.{members_of}
use Rattle.vaults.specs.declared.Votes.{Votes}
use Rattle.explanations.specs.Words.{meaning, reason, status}

-- ---- sets: the numbers with commas between, or `none`
abbrev pub others : List ℕ → List ℕ
others [] = []
others (k ∷ ks) = letters "," ++ (decimal k ++ others ks)

abbrev pub joined : List ℕ → List ℕ
joined [] = letters "none"
joined (k ∷ ks) = decimal k ++ others ks

unfoldable pub names : JobSet → List ℕ
names s = joined (members_of s)

-- ---- a step that was carried out: kind 6 answers a state, kinds 11 and 13 list numbers, all others answer a figure
unfoldable pub figure : ℕ → ℕ → JobSet → List ℕ
figure kind value members = cond (eqb kind 6) (status value) (cond (eqb kind 11 || eqb kind 13) (names members) (decimal value))

unfoldable pub done_text : ℕ → ℕ → JobSet → List ℕ
done_text kind value members = meaning kind ++ figure kind value members

-- ---- a step that was refused: by 16 for want of n − b signers, and by 7, 8 and 11 to 14 at an entry, whose label its record has first
abbrev pub entry_in : List ℕ → ℕ → List ℕ
entry_in bytes entry = drop (head_size + entry_size * entry) bytes

unfoldable pub refused_text : ℕ → ℕ → ℕ → List ℕ → List ℕ
refused_text number entry threshold bytes = text_by (reason number) (cond (eqb number 16) (threshold ∷ []) (entry_in bytes entry))

-- either, of a step of a kind; the bytes are those of the record that it is about
unfoldable pub answer_text : ℕ → Outcome → JobSet → ℕ → List ℕ → List ℕ
answer_text kind outcome members threshold bytes =
    cond (eqb (number_of outcome) 0) (done_text kind (value_of outcome) members) (refused_text (number_of outcome) (value_of outcome) threshold bytes)

-- ---- a job's line: its state, how many have signed and acknowledged it, and which vaults are still to sign
abbrev pub job_row : ℕ → List ℕ
job_row state = letters "job # " ++ (status state ++ letters ": signatures #, acknowledgements #, still to sign ")

-- the vaults that have not signed
unfoldable pub to_sign : ℕ → ℕ → JobSet
to_sign n signers = jobs_below n (λ v. not (has_bit signers v))

unfoldable pub job_line : Settings → Votes → ℕ → List ℕ
job_line s votes job =
    text_by (job_row (status_of s votes)) (job ∷ ones votes.signatures ∷ ones votes.acknowledgements ∷ [])
    ++ (names (to_sign s.n votes.signatures) ++ (10 ∷ []))
