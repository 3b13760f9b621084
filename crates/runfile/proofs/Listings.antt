-- What is printed for kind 13 are the members of the set that it answers, in their order, and that set has the vaults that the rule names.
use mathlib.Core.Bool.{true≢false}
use mathlib.Core.List.{List, [], ◌++◌, ◌∷◌, append-nil}
use mathlib.Core.Logic.{inl}
use mathlib.Core.Path.{◌∙◌, ◌≡◌, ap, refl, sym}
use Prim.Native.Nat.{◌≤◌, ℕ}
use native.Mathlib.Omega.{arith}
use Rattle.base.specs.Lists.{In}
use Rattle.job_sets.proofs.Jobs.{has_no_jobs, no_jobs_words}
use Rattle.job_sets.specs.Jobs.{no_jobs}
use Rattle.ledger.proofs.Changes.{shape_sane}
use Rattle.ledger.proofs.Demand3.{along, first}
use Rattle.ledger.proofs.Equivocation.{lists_exactly}
use Rattle.ledger.proofs.Unnamed.{at_most_b}
use Rattle.ledger.specs.Equivocators.{Answers, Whole, insane, listed, short}
use Rattle.ledger.specs.Meaning.{Sane}
use Rattle.ledger.specs.Register.{new_register}
use Rattle.ledger.specs.Steps.{equivocators_decision, equivocators_of}
use Rattle.ledger.specs.Worlds.{after_all, equivocating, lend, start}
use Rattle.ledger.specs.declared.Ledger.{Ledger}
use Rattle.ledger.specs.declared.Listing.{Listing}
use Rattle.outcome.specs.Figures.{value_of}
use Rattle.runfile.specs.Listings.{PrintsEquivocators, PrintsNamed}
use Rattle.runfile.specs.Run.{text_of}
use Rattle.runfile.specs.Steps.{request}
use Rattle.text.proofs.Members.{members_list}
use Rattle.text.specs.Text.{line_of, lines_of, members_of, text_for}

no_elements : (ks : List ℕ) → ((k : ℕ) → In k ks → ⊥) → ks ≡ []
no_elements [] h = refl
no_elements (k ∷ ks) h = absurd (h k (inl refl))

-- the empty set has no lines
no_members : members_of no_jobs ≡ []
no_members = no_elements (members_of no_jobs) (λ k m. true≢false (sym (((members_list no_jobs no_jobs_words).members k).0 m) ∙ has_no_jobs k))

module _ (k : ℕ) (l : Ledger) (journal : List ℕ) where
  -- the text, by what is answered
  by_answer : text_of k l journal (request equivocating) ≡ text_for k (equivocators_of l journal).outcome (equivocators_of l journal).members
  unfolding equivocators_decision
  by_answer = refl

  lists : (b : ℕ) {r : Listing} → Answers l journal r → text_of k l journal (request equivocating) ≡ text_for k r.outcome r.members
      → value_of r.outcome ≤ b → Sane l → Whole l journal → PrintsNamed k b l journal
  lists b (insane n) text few sane whole = absurd (n sane)
  lists b (short h n) text few sane whole = absurd (n whole)
  lists b (listed vaults h q fits named) text few sane whole =
      let all = members_list vaults fits in record {
        vaults = members_of vaults;
        text = text ∙ ap (λ (n : ℕ). line_of k 0 n ++ lines_of (members_of vaults)) (sym all.size);
        ascending = all.ascending;
        each = λ v. (λ m. (named v).sound ((all.members v).0 m), λ x. (all.members v).1 ((named v).complete x));
        few = omega (arith, few, all.size);
      }

  turned_back_lem : {r : Listing} → Answers l journal r → text_of k l journal (request equivocating) ≡ text_for k r.outcome r.members
      → Sane l → (Whole l journal → ⊥) → text_of k l journal (request equivocating) ≡ line_of k 4 0
  turned_back_lem (insane n) text sane part = absurd (n sane)
  turned_back_lem (short h n) text sane part = text ∙ (ap (λ (ks : List ℕ). line_of k 4 0 ++ lines_of ks) no_members ∙ append-nil (line_of k 4 0))
  turned_back_lem (listed vaults h q fits named) text sane part = absurd (part q)

pub prints_equivocators : PrintsEquivocators
prints_equivocators n b faulty version lawful es size beyond k =
    let w = after_all (start n b faulty version) es in
    let journal = lend w.booked size beyond in
    let sane = shape_sane (along es (start n b faulty version) (new_register version) (first n b faulty version lawful)).shape in
    let answer = (lists_exactly w.ledger journal).0 in (
      lists k w.ledger journal b answer (by_answer k w.ledger journal) (at_most_b n b faulty version lawful es size beyond).value sane,
      turned_back_lem k w.ledger journal answer (by_answer k w.ledger journal) sane,
    )
