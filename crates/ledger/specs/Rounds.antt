-- A round of the snapshot (document 02, "Stock-take while jobs go on"): each vault is visited once, and other steps may come between. "At the end of a round
-- the jobs seen include all that sound vaults held when it began, and none that no sound vault holds when it ends." And of every visit: "The value is the
-- number of different jobs seen in this round."
use Rattle.std.specs.Prelude.{Bool, cond, false, true, List, [], ◌++◌, ◌∷◌, ◌↔◌, ◌≡◌, ◌%◌, ◌+◌, ◌<◌, suc, ℕ, length, Ok}
use Rattle.base.specs.Lists.{Distinct, In}
use Rattle.outcome.specs.Figures.{Outcome}
use Rattle.job_sets.specs.Jobs.{job_count, job_has}
use Rattle.federation.specs.Federation.{Lawful}
use Rattle.ledger.specs.Demand3.{Held, HeldBy}
use Rattle.ledger.specs.Worlds.{Event, Request, World, after_all, client_preflight, commit, dependencies, equivocating, faulty_vote, generations}
use Rattle.ledger.specs.Worlds.{preflight, propose, release, reply_to, show, snapshot, start}

abbrev pub is_snapshot : Request → Bool
is_snapshot (propose bytes) = false
is_snapshot (preflight v job) = false
is_snapshot (commit v job signers) = false
is_snapshot (faulty_vote column v job) = false
is_snapshot (show job) = false
is_snapshot (generations job) = false
is_snapshot snapshot = true
is_snapshot (release v job rival) = false
is_snapshot (dependencies v job) = false
is_snapshot (client_preflight v job client) = false
is_snapshot equivocating = false

-- how many events are of kind 9
abbrev pub visits : List Event → ℕ
visits [] = 0
visits (e ∷ es) = cond (is_snapshot e.request) (suc (visits es)) (visits es)

-- n visits, the last of them the last event. Events before the first visit may be among them: the claim is then about what was held before those.
pub record Round (n : ℕ) (es : List Event) : Type 0 where
  pub before : List Event
  pub last : Event
  pub split : es ≡ before ++ (last ∷ [])
  pub closes : last.request ≡ snapshot
  pub count : visits es ≡ n

-- of the worlds before and after, and of the last answer
pub record Counted (w w' : World) (answer : Outcome) : Type 0 where
  pub included : (k : ℕ) → Held w.ledger k → job_has w'.ledger.seen k ≡ true
  pub genuine : (k : ℕ) → job_has w'.ledger.seen k ≡ true → Held w'.ledger k
  pub value : answer ≡ Ok (job_count w'.ledger.seen)
  -- the following visit begins anew
  pub anew : w'.ledger.next ≡ 0

-- wherever a list of steps has led and a round is about to begin
abbrev pub Rounds : Type 0
Rounds =
    (n b faulty version : ℕ) → Lawful (record { n = n; b = b; faulty = faulty; version = version }) → (es : List Event)
    → (after_all (start n b faulty version) es).ledger.next ≡ 0 → (rs : List Event) (r : Round n rs)
    → Counted (after_all (start n b faulty version) es) (after_all (after_all (start n b faulty version) es) rs)
    (reply_to (after_all (after_all (start n b faulty version) es) r.before) r.last).outcome

-- ---- every visit

-- "visits the next vault, beginning at 0 .. After the last vault the following such step begins anew": the vault to which the next visit comes
abbrev pub turn_after : World → List Event → ℕ
turn_after w es = visits es % w.ledger.settings.n

-- the job is seen in the round of the list's last visit: at some visit of that round, the visited vault was correct and held it
pub record SeenAlong (w : World) (es : List Event) (k : ℕ) : Type 0 where
  pub before : List Event
  pub visit : Event
  pub later : List Event
  pub split : es ≡ before ++ (visit ∷ later)
  pub visits_here : visit.request ≡ snapshot
  -- the visits after it have not come past the last vault
  pub this_round : turn_after w before + visits later < w.ledger.settings.n
  -- "sees the jobs held there; a step that comes to a faulty vault adds no job"
  pub held : HeldBy (after_all w before).ledger k (turn_after w before)

-- so many different jobs are seen
pub record CountOf (Seen : ℕ → Type 0) (value : ℕ) : Type 0 where
  pub jobs : List ℕ
  pub once : Distinct jobs
  pub each : (k : ℕ) → In k jobs ↔ Seen k
  pub size : length jobs ≡ value

-- after any list of steps a visit is answered 0, and its value is the number of different jobs seen in this round, itself included
abbrev pub EveryVisit : Type 0
EveryVisit =
    (n b faulty version : ℕ) → Lawful (record { n = n; b = b; faulty = faulty; version = version }) → (es : List Event) (e : Event)
    → e.request ≡ snapshot
    → (value : ℕ) × ((reply_to (after_all (start n b faulty version) es) e).outcome ≡ Ok value)
    × CountOf (SeenAlong (start n b faulty version) (es ++ (e ∷ []))) value
