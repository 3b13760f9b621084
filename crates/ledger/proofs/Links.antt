-- By unfolding: both sides are the same decision carried out. What only reads carries no change, whether it passes its checks or not.
use mathlib.Core.Bool.{Bool, cond, false, true}
use mathlib.Core.List.{List, []}
use mathlib.Core.Path.{◌≡◌, refl, subst, sym}
use Prim.Native.Nat.{ℕ}
use lib.ListN.{get_or}
use Rattle.base.proofs.Reflect.{by_cases}
use Rattle.federation.specs.Federation.{is_lawful}
use Rattle.outcome.specs.Figures.{Outcome, Verdict}
use Rattle.std.specs.Prelude.{Ok, Err}
use Rattle.outcome.specs.declared.Refusal.TheVariants.{NotHeld}
use Rattle.journal.specs.Journal.{record_at}
use Rattle.ledger.proofs.Changes.{shape_sane}
use Rattle.ledger.proofs.Demand3.{along, first}
use Rattle.ledger.proofs.Gates.{reflect_sane}
use Rattle.ledger.proofs.Lending.{record_read}
use Rattle.ledger.specs.Decisions.{ageing, answering, gated, refusing}
use Rattle.ledger.specs.Links.{Chained, Linked, Links, Lookups, reading}
use Rattle.ledger.specs.Demand3.{records_in}
use Rattle.ledger.specs.Register.{new_register}
use Rattle.ledger.specs.State.{applied, new_ledger, version_of}
use Rattle.ledger.specs.Steps.{
  booked_gate,
  carried,
  client_preflight_of,
  commit_of,
  dependencies_decision,
  equivocators_decision,
  faulty_vote_of,
  generations_decision,
  journal_after,
  new_of,
  preflight_of,
  propose_of,
  release_of,
  show_decision,
  shown_of,
  snapshot_of,
}
use Rattle.ledger.specs.Worlds.{after, after_all, lend, start}
use Rattle.ledger.specs.declared.Ledger.{Ledger}

answered : (l : Ledger) (g : Verdict) (value v k : ℕ) → carried l (gated g (answering value)) v k ≡ reading l (gated g (answering value)).outcome
unfolding applied
answered l (Ok _) value v k = refl
answered l (Err why) value v k = refl

aged : (l : Ledger) (g : Verdict) (held : Bool) (age v k : ℕ) → carried l (gated g (ageing held age)) v k ≡ reading l (gated g (ageing held age)).outcome
unfolding applied ageing
aged l (Ok _) held age v k =
    by_cases (λ b. carried l (cond b (answering age) (refusing NotHeld)) v k ≡ reading l (cond b (answering age) (refusing NotHeld)).outcome) held (λ e. refl)
    (λ e. refl)
aged l (Err why) held age v k = refl

linked : (l : Ledger) (journal : List ℕ) → Linked l journal
unfolding propose_of journal_after preflight_of commit_of faulty_vote_of snapshot_of release_of client_preflight_of show_decision generations_decision dependencies_decision
    equivocators_decision applied
linked l journal = record {
  proposes = λ bytes. refl;
  writes = λ bytes. refl;
  preflights = λ v k. refl;
  commits = λ v k signers. refl;
  votes = λ column v k. refl;
  shows = λ k. answered l (booked_gate l journal k) _ 0 k;
  ages = λ k. aged l (booked_gate l journal k) _ _ 0 k;
  visits = refl;
  releases = λ v k rival. refl;
  depends = λ v k. refl;
  asks = λ v k client. refl;
  names = refl;
}

-- the new ledger comes with either answer
either_way : (lawful : Bool) (l : Ledger) (a b : Outcome) → l ≡ (cond lawful (reading l a) (reading l b)).ledger
either_way true l a b = refl
either_way false l a b = refl

chained : Chained
unfolding after start new_of
chained = record {
  begins = λ n b faulty version. either_way (is_lawful (new_ledger n b faulty version).settings) (new_ledger n b faulty version) _ _;
  goes_on = λ w e. refl;
}

-- where check 4 passes, the booked records are read as they are
lookups : Lookups
unfolding shown_of
lookups n b faulty version lawful es size beyond k h =
    let w = after_all (start n b faulty version) es in
    let i = along es (start n b faulty version) (new_register version) (first n b faulty version lawful) in
    subst (λ (sane : Bool). cond sane (record_at (version_of w.ledger) (lend w.booked size beyond) w.ledger.booked k) []
    ≡ get_or (records_in (version_of w.ledger) w.ledger.booked w.booked) k []) (sym ((reflect_sane w.ledger).complete (shape_sane i.shape)))
    (record_read (version_of w.ledger) w.ledger.booked size w.booked beyond i.shape.records h k)

pub links : Links
links = record { linked = linked; chained = chained; lookups = lookups }
