-- What the ledger keeps: the settings, how many records are booked, the votes on each job, the arrival order, the vaults, the snapshot's round and the clients'
-- histories. What a step changes is applied by one definition, at the end.
use Rattle.std.specs.Prelude.{Bool, cond, ◌&&◌, ◌||◌, List, ℕ, ◌+◌, leb, ltb, get_or, set, replicate, take}
use Rattle.base.specs.Search.{any_below}
use Rattle.job_sets.specs.Jobs.{no_jobs}
use Rattle.job_sets.specs.declared.job_set.JobSet.{JobSet}
use Rattle.quota.specs.Quota.{history_place}
use Rattle.snapshot.specs.Snapshot.{following}
use Rattle.vaults.specs.declared.Vault.{Vault}
use Rattle.ledger.specs.declared.Change.{Change}
use Rattle.ledger.specs.declared.Change.TheVariants.{Book, Count, Grant, Hold, Nothing, Record, Release, See, Sign}
use Rattle.ledger.specs.declared.History.{History}
use Rattle.ledger.specs.declared.Ledger.{Ledger}
use Rattle.federation.specs.Federation.{is_lawful}
use Rattle.journal.specs.Journal.{capacity}
use Rattle.generations.specs.Generations.{is_at}
use Rattle.vaults.specs.declared.Column.{Column}
use Rattle.vaults.specs.declared.Column.TheVariants.{Acknowledgements, Signatures}
use Rattle.vaults.specs.declared.Votes.{Votes}
use Rattle.vaults.specs.Vaults.{new_vault}
use Rattle.vaults.specs.Votes.{column_of, no_votes, with_vote}

-- ---- views

abbrev pub vault_at : Ledger → ℕ → Vault
vault_at l v = get_or l.vaults v new_vault

abbrev pub votes_at : Ledger → ℕ → Votes
votes_at l job = get_or l.votes job no_votes

-- the vaults whose vote on the job is recorded in the column
unfoldable pub votes_in : Ledger → Column → ℕ → ℕ
votes_in l column job = column_of column (votes_at l job)

abbrev pub signers_of : Ledger → ℕ → ℕ
signers_of l = votes_in l Signatures

abbrev pub acknowledgers_of : Ledger → ℕ → ℕ
acknowledgers_of l = votes_in l Acknowledgements

-- "a book and its sequence of steps have one version" (M-102)
abbrev pub version_of : Ledger → ℕ
version_of l = l.settings.version

-- a client's history at a vault
unfoldable pub history_at : Ledger → ℕ → ℕ → ℕ
history_at l v client = get_or l.histories (history_place v client) 0

-- the jobs in arrival order
abbrev pub arrived : Ledger → List ℕ
arrived l = take l.arrivals l.order

-- the job is among the first n
unfoldable pub has_arrived : List ℕ → ℕ → ℕ → Bool
has_arrived order n job = any_below n (is_at order job)

-- a state that a run can reach has lawful settings, counts within the capacity, and a vault to visit next
unfoldable pub is_sane : Ledger → Bool
is_sane l = is_lawful l.settings && (leb l.booked capacity && (leb l.arrivals capacity && ltb l.next l.settings.n))

-- ---- changes

-- "no record booked, nothing held, signed or acknowledged, counts 0 and no arrivals"
unfoldable pub new_ledger : ℕ → ℕ → ℕ → ℕ → Ledger
new_ledger n b faulty version =
    record {
      settings = record { n = n; b = b; faulty = faulty; version = version };
      booked = 0;
      arrivals = 0;
      next = 0;
      seen = no_jobs;
      votes = replicate 128 no_votes;
      order = replicate 128 0;
      vaults = replicate 16 new_vault;
      histories = replicate 128 0;
    }

-- one record more
unfoldable pub booking : Ledger → Ledger
booking l =
    record {
      settings = l.settings;
      booked = l.booked + 1;
      arrivals = l.arrivals;
      next = l.next;
      seen = l.seen;
      votes = l.votes;
      order = l.order;
      vaults = l.vaults;
      histories = l.histories;
    }

-- the vault's vote on the job recorded
unfoldable pub voted : Ledger → Column → ℕ → ℕ → Ledger
voted l column v job =
    record {
      settings = l.settings;
      booked = l.booked;
      arrivals = l.arrivals;
      next = l.next;
      seen = l.seen;
      votes = set l.votes job (with_vote column v (votes_at l job));
      order = l.order;
      vaults = l.vaults;
      histories = l.histories;
    }

-- another state of a vault
unfoldable pub with_vault : Ledger → ℕ → Vault → Ledger
with_vault l v state =
    record {
      settings = l.settings;
      booked = l.booked;
      arrivals = l.arrivals;
      next = l.next;
      seen = l.seen;
      votes = l.votes;
      order = l.order;
      vaults = set l.vaults v state;
      histories = l.histories;
    }

-- the job at the end of the order
unfoldable pub enqueued : Ledger → ℕ → Ledger
enqueued l job =
    record {
      settings = l.settings;
      booked = l.booked;
      arrivals = l.arrivals + 1;
      next = l.next;
      seen = l.seen;
      votes = l.votes;
      order = set l.order l.arrivals job;
      vaults = l.vaults;
      histories = l.histories;
    }

-- "Arrival order is the order in which jobs are first held by a sound vault": a job that has not arrived goes to its end
unfoldable pub arriving : Ledger → ℕ → Ledger
arriving l job = cond (has_arrived l.order l.arrivals job || leb capacity l.arrivals) l (enqueued l job)

-- a vault visited, and the jobs seen in this round
unfoldable pub visited : Ledger → JobSet → Ledger
visited l seen =
    record {
      settings = l.settings;
      booked = l.booked;
      arrivals = l.arrivals;
      next = following l.settings.n l.next;
      seen = seen;
      votes = l.votes;
      order = l.order;
      vaults = l.vaults;
      histories = l.histories;
    }

-- a client's history at the vault
unfoldable pub counted : Ledger → ℕ → History → Ledger
counted l v h =
    record {
      settings = l.settings;
      booked = l.booked;
      arrivals = l.arrivals;
      next = l.next;
      seen = l.seen;
      votes = l.votes;
      order = l.order;
      vaults = l.vaults;
      histories = set l.histories (history_place v h.client) h.requests;
    }

-- the one place where a ledger changes, by the vault and the job that the step names
unfoldable pub applied : Ledger → Change → ℕ → ℕ → Ledger
applied l Nothing v job = l
applied l Book v job = booking l
applied l (Sign state) v job = voted (with_vault l v state) Signatures v job
applied l (Hold state) v job = arriving (voted (with_vault l v state) Acknowledgements v job) job
applied l (Release state) v job = with_vault l v state
applied l (Record column) v job = voted l column v job
applied l (See seen) v job = visited l seen
applied l (Count history) v job = counted l v history
applied l (Grant grant) v job = counted (voted (with_vault l v grant.vault) Signatures v job) v grant.history
