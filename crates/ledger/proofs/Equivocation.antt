-- The tests of kind 13 decide the rule, so the vaults that are listed are those that it names.
use mathlib.Core.Bool.{Bool, ◌&&◌, cond, false, true}
use mathlib.Core.List.{List}
use mathlib.Core.Logic.{◌≢◌}
use mathlib.Core.Path.{◌∙◌, ◌≡◌, ap, refl, sym}
use Prim.Native.Nat.{◌<◌, ◌≤◌, ℕ}
use native.Mathlib.Omega.{arith}
use lib.Count.{ones}
use lib.Dec.{ltb}
use Rattle.base.proofs.Reflect.{reflect_and, reflect_as, reflect_eq, reflect_le, reflect_lt, reflect_not, reflect_true, reflects_same, refuted, refutes}
use Rattle.base.proofs.Search.{reflect_any}
use Rattle.base.specs.Reflect.{Reflects}
use Rattle.base.specs.Search.{Some}
use Rattle.conflicts.proofs.Meaning.{reflect_rival}
use Rattle.conflicts.specs.Meaning.{Rivals}
use Rattle.federation.specs.Federation.{threshold_of}
use Rattle.federation.specs.declared.Settings.{Settings}
use Rattle.journal.proofs.Booked.{reflect_whole}
use Rattle.journal.specs.Journal.{is_whole, job_at}
use Rattle.outcome.specs.declared.Refusal.TheVariants.{NotBooked, Settings as BadSettings}
use Rattle.std.specs.Prelude.{Ok, Err}
use Rattle.record.specs.declared.Job.{Job}
use Rattle.job_sets.proofs.Jobs.{has_jobs_below, job_below, jobs_below_words, jobs_same}
use Rattle.sets.specs.Bits.{has_bit}
use Rattle.job_sets.specs.Jobs.{InWords, job_has}
use Rattle.job_sets.specs.declared.job_set.JobSet.{JobSet}
use Rattle.ledger.proofs.Gates.{reflect_sane}
use Rattle.ledger.specs.Decisions.{gated_listing, listing}
use Rattle.ledger.specs.Equivocation.{
  Equivocates,
  Outside,
  Unexcused,
  equivocators,
  excuses,
  is_certified,
  is_equivocating,
  is_excused,
  is_unexcused,
  signed_both,
}
use Rattle.ledger.specs.Equivocators.{Answers, ListsExactly, Whole, insane, listed, short}
use Rattle.ledger.specs.Meaning.{Sane}
use Rattle.ledger.specs.State.{is_sane, signers_of, version_of}
use Rattle.ledger.specs.Steps.{equivocators_of, whole_gate}
use Rattle.ledger.specs.declared.Ledger.{Ledger}
use Rattle.ledger.specs.declared.Listing.{Listing}

-- ---- the tests decide the rule
module _ (s : Settings) (signers : ℕ → ℕ) (job : ℕ → Job) (booked : ℕ) where
  -- a certified rival of i other than k
  abbrev Excuse : ℕ → ℕ → ℕ → Type 0
  Excuse i k m = (m ≢ k) × ((threshold_of s ≤ ones (signers m)) × Rivals job i m)

  abbrev Excused : ℕ → ℕ → Type 0
  Excused i k = Some booked (Excuse i k)

  reflect_excused : (i k : ℕ) → Reflects (is_excused s signers job booked i k) (Excused i k)
  unfolding is_excused excuses is_certified
  reflect_excused i k =
      reflect_any _ (λ m h. reflect_and (reflect_not (reflect_eq m k))
      (reflect_and (reflect_le (threshold_of s) (ones (signers m))) (reflect_rival job i m)))

  -- it is outside the pair, since no job is its own rival
  beyond : (i k : ℕ) (x : Excused i k) → Outside s signers job booked i k x.which
  beyond i k x = record { known = x.below; not_first = λ e. x.has.1.1.different (sym e); not_second = x.has.0; certified = x.has.1.0 }

  -- in either order
  pub flipped : (i k m : ℕ) → Outside s signers job booked i k m → Outside s signers job booked k i m
  flipped i k m o = record { known = o.known; not_first = o.not_second; not_second = o.not_first; certified = o.certified }

  pub reflect_unexcused : (i k : ℕ) → Reflects (is_unexcused s signers job booked i k) (Rivals job i k × Unexcused s signers job booked i k)
  unfolding is_unexcused
  reflect_unexcused i k =
      reflect_as (reflect_and (reflect_rival job i k) (reflect_and (reflect_not (reflect_excused i k)) (reflect_not (reflect_excused k i))))
      (λ h. (
        h.0,
        λ m o. (
          λ r. h.1.0 (record { which = m; below = o.known; has = (o.not_second, (o.certified, r)) }),
          λ r. h.1.1 (record { which = m; below = o.known; has = (o.not_first, (o.certified, r)) }),
        ),
      ))
      (λ h. (
        h.0,
        (
          λ x. (h.1 x.which (beyond i k x)).0 x.has.1.1,
          λ x. (h.1 x.which (flipped k i x.which (beyond k i x))).1 x.has.1.1,
        ),
      ))

  pub reflect_equivocating : (v : ℕ) → Reflects (is_equivocating s signers job booked v) (Equivocates s signers job booked v)
  unfolding is_equivocating signed_both
  reflect_equivocating v =
      reflect_as
      (reflect_any booked (λ i _. reflect_any booked (λ k _. reflect_and (reflect_true (has_bit (signers i) v))
      (reflect_and (reflect_true (has_bit (signers k) v)) (reflect_unexcused i k)))))
      (λ x. let y = x.has in record {
        first = x.which;
        second = y.which;
        first_known = x.below;
        second_known = y.below;
        first_signed = y.has.0;
        second_signed = y.has.1.0;
        rivals = y.has.1.1.0;
        unexcused = y.has.1.1.1;
      })
      (λ e. record {
        which = e.first;
        below = e.first_known;
        has = record { which = e.second; below = e.second_known; has = (e.first_signed, (e.second_signed, (e.rivals, e.unexcused))) };
      })

  -- the set has the vaults below n that the rule names
  pub reflect_listed : s.n ≤ 16 → (v : ℕ) → Reflects (job_has (equivocators s signers job booked) v) ((v < s.n) × Equivocates s signers job booked v)
  unfolding equivocators
  reflect_listed few v = record {
    sound = λ e. both.sound (sym (has_jobs_below s.n (is_equivocating s signers job booked) v (job_below _ v e)) ∙ e);
    complete = λ h. has_jobs_below s.n (is_equivocating s signers job booked) v (omega (arith, h.0)) ∙ both.complete h;
  }
    where
      both : Reflects (ltb v s.n && is_equivocating s signers job booked v) ((v < s.n) × Equivocates s signers job booked v)
      both = reflect_and (reflect_lt v s.n) (reflect_equivocating v)

-- ---- what each answer means
module _ (l : Ledger) (journal : List ℕ) where
  abbrev found : JobSet
  found = equivocators l.settings (signers_of l) (job_at (version_of l) journal l.booked) l.booked

  abbrev sane? : Reflects (is_sane l) (Sane l)
  sane? = reflect_sane l

  abbrev whole? : Reflects (is_whole (version_of l) journal l.booked) (Whole l journal)
  whole? = reflect_whole (version_of l) journal l.booked

  found_words : InWords found
  unfolding equivocators
  found_words = jobs_below_words l.settings.n _

  pub answers : Answers l journal (equivocators_of l journal)
  unfolding equivocators_of whole_gate
  answers = by (is_sane l) sane? (is_whole (version_of l) journal l.booked) whole?
    where
      by : (a : Bool) → Reflects a (Sane l) → (c : Bool) → Reflects c (Whole l journal)
          → Answers l journal (gated_listing (cond a (cond c (Ok (tt {0})) (Err NotBooked)) (Err BadSettings)) (listing found))
      by false p c q = insane (refuted p refl)
      by true p false q = short (p.sound refl) (refuted q refl)
      by true p true q =
          let h = p.sound refl in
          let named = reflect_listed l.settings (signers_of l) (job_at (version_of l) journal l.booked) l.booked h.lawful.vaults in
          listed found h (q.sound refl) found_words named

  means : (r : Listing) → Answers l journal r → r ≡ equivocators_of l journal
  unfolding equivocators_of whole_gate
  means r (insane n) = simp (refutes sane? n)
  means r (short h n) = simp (sane?.complete h, refutes whole? n)
  means r (listed vaults h w fits named) =
      simp (sane?.complete h, whole?.complete w) (ap listing (jobs_same vaults found fits found_words
      (λ v _. reflects_same (named v)
      (reflect_listed l.settings (signers_of l) (job_at (version_of l) journal l.booked) l.booked h.lawful.vaults v))))

pub lists_exactly : ListsExactly
lists_exactly l journal = (answers l journal, means l journal)
