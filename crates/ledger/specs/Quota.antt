-- The quota of a client at a vault (document 02, "A fair quota for each desk"), over lists of steps and read from outside: from the requests, the answers, and
-- whether the job was signed there before and after.
use Rattle.std.specs.Prelude.{Bool, ◌&&◌, ◌||◌, cond, false, not, true, List, [], ◌++◌, ◌∷◌, ◌≡◌, ◌≤◌, ℕ, eqb, length}
use Rattle.federation.specs.Federation.{Lawful}
use Rattle.outcome.specs.Figures.{number_of, Outcome}
use Rattle.quota.specs.Asks.{AllOver, Ask, NoNews, Stretch, news, spends}
use Rattle.quota.specs.Quota.{is_client}
use Rattle.job_sets.specs.Jobs.{job_has}
use Rattle.ledger.specs.Refused.{is_counted}
use Rattle.ledger.specs.Register.{is_done}
use Rattle.ledger.specs.State.{vault_at}
use Rattle.ledger.specs.Worlds.{
  Event,
  Request,
  World,
  after,
  after_all,
  client_preflight,
  commit,
  decision_of,
  dependencies,
  equivocating,
  faulty_vote,
  generations,
  preflight,
  propose,
  release,
  reply_to,
  show,
  snapshot,
  start,
  step_of,
}
use Rattle.ledger.specs.declared.Ledger.{Ledger}

abbrev pub counts : Outcome → Bool
counts answer = is_counted (number_of answer)

-- turned back by the quota
abbrev pub is_over : Outcome → Bool
is_over answer = eqb (number_of answer) 23

abbrev pub signed_in : World → ℕ → ℕ → Bool
signed_in w v k = job_has (vault_at w.ledger v).signed k

-- a request for a job at a vault, as it is seen from outside
abbrev pub ask_of : ℕ → ℕ → World → Event → Ask
ask_of v k w e = record { fresh = not (signed_in w v k) && signed_in (after w e) v k; over = is_over (reply_to w e).outcome }

-- a counted request of this client at this vault joins those before it; no other step does
abbrev pub asks : ℕ → ℕ → World → Event → Request → List Ask → List Ask
asks v c w e (propose bytes) past = past
asks v c w e (preflight u k) past = past
asks v c w e (commit u k signers) past = past
asks v c w e (faulty_vote column u k) past = past
asks v c w e (show k) past = past
asks v c w e (generations k) past = past
asks v c w e snapshot past = past
asks v c w e (release u k rival) past = past
asks v c w e (dependencies u k) past = past
asks v c w e equivocating past = past
asks v c w e (client_preflight u k d) past = cond (eqb u v && (eqb d c && counts (reply_to w e).outcome)) (ask_of u k w e ∷ past) past

-- the counted requests of a client at a vault along a list of steps, the newest first, after those before it
abbrev pub asked : ℕ → ℕ → World → List Event → List Ask → List Ask
asked v c w [] past = past
asked v c w (e ∷ es) past = asked v c (after w e) es (asks v c w e e.request past)

-- the preflight of kind 2 in the place of an event
abbrev pub as_preflight : ℕ → ℕ → Event → Event
as_preflight v k e = record { request = preflight v k; size = e.size; beyond = e.beyond }

-- of a client at a vault, where `past` are its counted requests there so far
pub record Fair (v c : ℕ) (w : World) (past : List Ask) : Type 0 where
  -- "a desk gets at most four new signatures from a vault in any sixteen consecutive requests of its own there"
  pub window : (s : List Ask) → Stretch s past → length s ≤ 16 → news s ≤ 4
  -- "The quota's yes or no depends only on that desk's earlier counted requests at that vault and on which of them brought a new signature": a counted request
  -- is turned back with 23 exactly if the job is not signed there and four or more of the previous fifteen brought one
  pub decides : (e : Event) (k : ℕ) → e.request ≡ client_preflight v k c → counts (reply_to w e).outcome ≡ true
      → is_over (reply_to w e).outcome ≡ (not (signed_in w v k) && spends past)
  -- "a preflight from one of desks 0 to 7": it is answered 0 exactly where a preflight is, if there is such a client, and the job is signed there or the quota
  -- allows it
  pub grants : (e : Event) (k : ℕ) → e.request ≡ client_preflight v k c
      → is_done (reply_to w e).outcome
      ≡ (is_client c && (is_done (reply_to w (as_preflight v k e)).outcome && (signed_in w v k || not (spends past))))
  -- "Whoever keeps asking comes within the quota again after at most twelve refusals by it."
  pub patience : (s : List Ask) → Stretch s past → AllOver s → length s ≤ 12
  -- where its newest twelve counted requests there brought no new signature, repeats of signed jobs among them, the next one is not refused by the quota
  pub again : (s older : List Ask) → past ≡ s ++ older → NoNews s → length s ≡ 12
      → (e : Event) (k : ℕ) → e.request ≡ client_preflight v k c → is_over (reply_to w e).outcome ≡ false

-- wherever a list of steps has led
abbrev pub Quota : Type 0
Quota =
    (n b faulty version : ℕ) → Lawful (record { n = n; b = b; faulty = faulty; version = version }) → (es : List Event) (v c : ℕ)
    → Fair v c (after_all (start n b faulty version) es) (asked v c (start n b faulty version) es [])

-- and twelve occur
abbrev pub Twelve : Type 0
Twelve = (es : List Event) × (s : List Ask) × Stretch s (asked 0 0 (start 1 0 0 1) es []) × AllOver s × (length s ≡ 12)

-- ---- "Kind 2 has no quota", nor has any other kind: it neither reads nor writes a history

abbrev pub is_client_preflight : Request → Bool
is_client_preflight (propose bytes) = false
is_client_preflight (preflight v k) = false
is_client_preflight (commit v k signers) = false
is_client_preflight (faulty_vote column v k) = false
is_client_preflight (show k) = false
is_client_preflight (generations k) = false
is_client_preflight snapshot = false
is_client_preflight (release v k rival) = false
is_client_preflight (dependencies v k) = false
is_client_preflight equivocating = false
is_client_preflight (client_preflight v k client) = true

abbrev pub with_histories : Ledger → List ℕ → Ledger
with_histories l histories =
    record {
      settings = l.settings;
      booked = l.booked;
      arrivals = l.arrivals;
      next = l.next;
      seen = l.seen;
      votes = l.votes;
      order = l.order;
      vaults = l.vaults;
      histories = histories;
    }

-- of any ledger, journal and histories
abbrev pub NoQuota : Type 0
NoQuota =
    (l : Ledger) (journal histories : List ℕ) (q : Request) → is_client_preflight q ≡ false
    → (decision_of (with_histories l histories) journal q ≡ decision_of l journal q) × ((step_of l journal q).ledger.histories ≡ l.histories)
