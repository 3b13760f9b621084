-- The rule of kind 13 spares correct vaults: of two rivals that a correct vault signed it released one, so it holds a rival of that one, which it never signed;
-- and what is held is certified. That rival is outside the pair. So the listed vaults are faulty, and of those there are at most b.
use mathlib.Core.Bool.{true, true≢false}
use mathlib.Core.List.{List}
use mathlib.Core.Path.{◌∙◌, ◌≡◌, ap, refl, subst, sym}
use Prim.Native.Nat.{◌<◌, ◌≤◌, ℕ}
use native.Mathlib.Nat.{le_refl, le_trans}
use native.Mathlib.Omega.{arith}
use lib.Count.{ones}
use lib.ListN.{length}
use borrow.Author.Tests.{leb-true}
use Rattle.base.proofs.Reflect.{by_test, not_false_true, not_true_false}
use Rattle.base.specs.Lists.{Distinct, In}
use Rattle.conflicts.proofs.Meaning.{reflect_conflicting}
use Rattle.conflicts.specs.Meaning.{Rivals}
use Rattle.federation.specs.declared.Settings.{Settings}
use Rattle.outcome.specs.Figures.{value_of}
use Rattle.record.specs.declared.Job.{Job}
use Rattle.job_sets.proofs.Jobs.{has_no_jobs}
use Rattle.sets.proofs.Size.{reflect_at_least}
use Rattle.sets.specs.Bits.{has_bit}
use Rattle.job_sets.specs.Jobs.{job_has}
use Rattle.ledger.proofs.Demand3.{along, first, settings_along, settings_first}
use Rattle.ledger.proofs.Equivocation.{answers, flipped}
use Rattle.ledger.proofs.Invariant.{Inv}
use Rattle.ledger.proofs.Lending.{jobs_read}
use Rattle.ledger.proofs.Releases.{correct_along}
use Rattle.ledger.proofs.Rivals.{apart_peaceful, rival_sym}
use Rattle.ledger.proofs.Safety.{Superseded}
use Rattle.ledger.proofs.Views.{held_at, recorded_at, signed_at, voted_at}
use Rattle.ledger.proofs.Words.{count_lists}
use Rattle.ledger.specs.Demand3.{Correct, booked_job}
use Rattle.ledger.specs.Equivocation.{Equivocates, Outside}
use Rattle.ledger.specs.Equivocators.{Answers, AtMostB, CorrectNeverNamed, Unnamed, insane, listed, short}
use Rattle.ledger.specs.Register.{Register, new_register, tabled}
use Rattle.ledger.specs.State.{signers_of, version_of}
use Rattle.ledger.specs.Steps.{equivocators_of}
use Rattle.ledger.specs.Worlds.{World, after_all, lend, start}
use Rattle.ledger.specs.declared.Ledger.{Ledger}
use Rattle.ledger.specs.declared.Listing.{Listing}

module _ {w : World} {r : Register} (i : Inv w r) (v : ℕ) (c : Correct w.ledger.settings v) where
  abbrev l : Ledger
  l = w.ledger

  abbrev jobs : ℕ → Job
  jobs = tabled r.table

  recorded_is : (k : ℕ) → has_bit (signers_of l k) v ≡ recorded_at l v k
  unfolding voted_at
  recorded_is k = refl

  -- the job that the vault holds instead is a rival, and certified; the vault never signed it, so it is not the other of the pair
  module _ (a k : ℕ) (lost : Superseded jobs (held_at l) (recorded_at l) v a) (t : recorded_at l v k ≡ true) where
    instead : Rivals jobs a lost.rival
    instead = let r = rival_sym lost.is in record { different = r.other; shares = (reflect_conflicting _ _).sound r.conflicts }

    outside : Outside l.settings (signers_of l) jobs l.booked a k lost.rival
    outside = record {
      known = i.safe.booked_held v lost.rival lost.holds;
      not_first = lost.is.other;
      not_second = λ e. true≢false (sym t ∙ (ap (recorded_at l v) (sym e) ∙ lost.unsigned));
      certified = i.safe.certified v lost.rival lost.holds;
    }

  never : Equivocates l.settings (signers_of l) jobs l.booked v → ⊥
  never e =
      let a = e.first in
      let k = e.second in
      let ta : recorded_at l v a ≡ true = sym (recorded_is a) ∙ e.first_signed in
      let tk : recorded_at l v k ≡ true = sym (recorded_is k) ∙ e.second_signed in
      by_test (signed_at l v a)
      (λ sa. by_test (signed_at l v k)
      (λ sk. apart_peaceful (i.safe.apart v a k sa sk e.rivals.different) ((reflect_conflicting (jobs a) (jobs k)).complete e.rivals.shares))
      (λ nk.
      let lost = i.safe.released v k c tk nk in
      (e.unexcused lost.rival (flipped l.settings (signers_of l) jobs l.booked k a lost.rival (outside k a lost ta))).1 (instead k a lost ta)))
      (λ na.
      let lost = i.safe.released v a c ta na in
      (e.unexcused lost.rival (outside a k lost tk)).0 (instead a k lost tk))

  pub unnamed : Unnamed w v
  unnamed = record { rule = rule; unlisted = λ size beyond. not_true_false _ (λ e. hidden size beyond (answers l (lend w.booked size beyond)) e) }
    where
      rule : Equivocates l.settings (signers_of l) (booked_job w) l.booked v → ⊥
      rule e = never (subst (λ (t : List (List ℕ)). Equivocates l.settings (signers_of l) (tabled t) l.booked v) (sym i.table) e)

      hidden : (size : ℕ) (beyond : List ℕ) {r : Listing} → Answers l (lend w.booked size beyond) r → job_has r.members v ≡ true → ⊥
      hidden size beyond (insane n) e = true≢false (sym e ∙ has_no_jobs v)
      hidden size beyond (short h n) e = true≢false (sym e ∙ has_no_jobs v)
      hidden size beyond (listed vaults h whole fits named) e =
          rule (subst (λ (job : ℕ → Job). Equivocates l.settings (signers_of l) job l.booked v)
          (jobs_read (version_of l) l.booked size w.booked beyond i.shape.records whole) ((named v).sound e).1)

pub correct_never_named : CorrectNeverNamed
correct_never_named n b faulty version lawful es v c =
    unnamed (along es (start n b faulty version) (new_register version) (first n b faulty version lawful)) v (correct_along n b faulty version lawful es v c)

-- ---- at most b

-- what is listed is a vault
listed_below : (l : Ledger) (journal : List ℕ) (v : ℕ) {r : Listing} → Answers l journal r → job_has r.members v ≡ true → v < l.settings.n
listed_below l journal v (insane n) e = absurd (true≢false (sym e ∙ has_no_jobs v))
listed_below l journal v (short h n) e = absurd (true≢false (sym e ∙ has_no_jobs v))
listed_below l journal v (listed vaults h whole fits named) e = ((named v).sound e).0

-- the number that is answered is that of the listed vaults, and 0 with a refusal
value_few : (l : Ledger) (journal : List ℕ) (b : ℕ) {r : Listing} → Answers l journal r
    → ((vs : List ℕ) → Distinct vs → ((v : ℕ) → In v vs → job_has r.members v ≡ true) → length vs ≤ b) → value_of r.outcome ≤ b
value_few l journal b (insane n) few = omega arith
value_few l journal b (short h n) few = omega arith
value_few l journal b (listed vaults h whole fits named) few =
    let c = count_lists vaults fits (λ v. job_has vaults v ≡ true) (λ v. (λ t. t, λ t. t)) in
    omega (arith, c.size, few c.jobs c.once (λ v m. (c.each v).0 m))

pub at_most_b : AtMostB
at_most_b n b faulty version lawful es size beyond =
    let w = after_all (start n b faulty version) es in
    let journal = lend w.booked size beyond in
    let answer = equivocators_of w.ledger journal in
    let vaults : w.ledger.settings.n ≡ n =
    ap (λ (s : Settings). s.n)
    (settings_along es (start n b faulty version) (new_register version) (first n b faulty version lawful) ∙ settings_first n b faulty version) in
    let bad : (v : ℕ) → job_has answer.members v ≡ true → has_bit faulty v ≡ true =
    λ (v : ℕ) (t : job_has answer.members v ≡ true). not_false_true (has_bit faulty v)
    (λ f. true≢false (sym t ∙ (correct_never_named n b faulty version lawful es v
    (record { below = omega (arith, vaults, listed_below w.ledger journal v (answers w.ledger journal) t); sound = f })).unlisted size beyond)) in
    let few : (vs : List ℕ) → Distinct vs → ((v : ℕ) → In v vs → job_has answer.members v ≡ true) → length vs ≤ b =
    λ (vs : List ℕ) (d : Distinct vs) (m : (v : ℕ) → In v vs → job_has answer.members v ≡ true). le_trans
    (leb-true (length vs) (ones faulty)
    ((reflect_at_least (length vs) faulty).complete (record { members = vs; once = d; each = λ v i. bad v (m v i); enough = le_refl (length vs) })))
    lawful.bound in
    record { faulty = bad; few = few; value = value_few w.ledger journal b (answers w.ledger journal) few }
