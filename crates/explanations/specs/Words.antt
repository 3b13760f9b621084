-- The words of an answer, in the words of docs/FORMAT.md's tables.
use Rattle.std.specs.Prelude.{List, [], ◌∷◌, ℕ, get_or}
use Rattle.rows.specs.Table.{letters}

-- A row for each refusal, by its number, in the notation of the text form's rows: `????????` stands for the label of the entry that offends, `#` for n − b.
abbrev pub reasons : List (List ℕ)
reasons =
    []
    ∷ letters "refused 1, the header or the settings are wrong, or the file is too long"
    ∷ letters "refused 2, the kind is unknown, or the body is cut short"
    ∷ letters "refused 3, there is no such vault"
    ∷ letters "refused 4, the job is not booked, or its rival is not"
    ∷ letters "refused 5, a correct vault's step at a faulty vault, or the reverse"
    ∷ letters "refused 6, the record is malformed"
    ∷ letters "refused 7, ???????? stands twice in the record"
    ∷ letters "refused 8, the drive can't read or write ????????"
    ∷ letters "refused 9, the frames don't add up"
    ∷ letters "refused 10, 128 records are booked"
    ∷ letters "refused 11, no job that this vault holds made ????????"
    ∷ letters "refused 12, a job that this vault holds has retired ????????"
    ∷ letters "refused 13, another job that this vault has signed has ???????? as an input"
    ∷ letters "refused 14, a job held here, or another signed here, makes ????????"
    ∷ letters "refused 15, a named signer has not signed"
    ∷ letters "refused 16, fewer than # signers"
    ∷ letters "refused 17, more vaults are absent than there are"
    ∷ letters "refused 18, no correct vault holds the job"
    ∷ letters "refused 19, the job is not signed at this vault, or was released before"
    ∷ letters "refused 20, the other job is no rival of it, or is not held at this vault"
    ∷ letters "refused 21, no set of jobs that correct vaults hold makes this vault accept the job"
    ∷ letters "refused 22, the client is above 7"
    ∷ letters "refused 23, four of the client's previous fifteen requests at this vault brought a new signature"
    ∷ []

unfoldable pub reason : ℕ → List ℕ
reason number = get_or reasons number []

-- What stands before the value of a step that was carried out, by its kind; a job's state is its own word.
abbrev pub meanings : List (List ℕ)
meanings =
    []
    ∷ letters "job "
    ∷ letters "signatures "
    ∷ letters "acknowledgements "
    ∷ letters "signatures "
    ∷ letters "acknowledgements "
    ∷ []
    ∷ letters "chance in thousandths "
    ∷ letters "generations "
    ∷ letters "jobs seen "
    ∷ letters "signatures "
    ∷ letters "jobs "
    ∷ letters "signatures "
    ∷ letters "vaults "
    ∷ []

unfoldable pub meaning : ℕ → List ℕ
meaning kind = get_or meanings kind []

-- the state of a job, as kind 6 answers it
abbrev pub states : List (List ℕ)
states = letters "open" ∷ letters "certified" ∷ letters "finished" ∷ []

unfoldable pub status : ℕ → List ℕ
status value = get_or states value []
