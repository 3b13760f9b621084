-- A row of demand 1 is met by one pair of figures: where a claim holds its refusal is the only answer, and where it does not the rest of the row has one. The
-- least entry is one, and so are the smallest set, the set of the vaults that a rule names, and the generations that rest on the creators' own.
use mathlib.Core.List.{List, [], ◌∷◌}
use mathlib.Core.Logic.{inl, inr}
use mathlib.Core.Path.{◌∙◌, ◌≡◌, ap, refl, subst, sym}
use Prim.Native.Nat.{◌<◌, suc, zero, ℕ}
use native.Mathlib.Omega.{arith}
use Rattle.base.proofs.Members.{in_left}
use Rattle.base.proofs.Reflect.{decided, reflects_same}
use Rattle.base.specs.Lists.{In}
use Rattle.base.specs.Search.{Least}
use Rattle.conflicts.specs.Tapes.{input_tapes}
use Rattle.job_sets.proofs.Jobs.{jobs_same}
use Rattle.job_sets.specs.Jobs.{job_count}
use Rattle.quota.specs.Asks.{Ask}
use Rattle.record.specs.declared.Entry.{Entry}
use Rattle.vaults.specs.declared.Column.TheVariants.{Acknowledgements, Signatures}
use Rattle.ledger.proofs.Demand3.{along, first}
use Rattle.ledger.proofs.Holders.{reflect_held}
use Rattle.ledger.proofs.Invariant.{Inv}
use Rattle.ledger.specs.Demand1.{Admitted, AtFaulty, AtCorrect, CheckRow, First, FirstAmong, GenerationsOf, Gives, NamedVaults, OneAnswer}
use Rattle.ledger.specs.Demand1.{SmallestSize, Value, Where, order}
use Rattle.ledger.specs.Demand3.{ByCreators, Held, OneCreator, booked_job}
use Rattle.ledger.specs.Register.{Register, new_register}
use Rattle.ledger.specs.State.{arrived}
use Rattle.ledger.specs.Worlds.{Event, Request, World, client_preflight, commit, dependencies, equivocating, faulty_vote, generations, preflight, propose}
use Rattle.ledger.specs.Worlds.{release, show, snapshot, start}

-- ---- rows
abbrev Once : CheckRow → Type 0
Once row = (n x m y : ℕ) → row n x → row m y → (n ≡ m) × (x ≡ y)

where_once : (Claim : Type 0) (this rest : CheckRow) → Once this → ((Claim → ⊥) → Once rest) → Once (Where Claim this rest)
where_once Claim this rest a b n x m y (inl p) (inl q) = a n x m y p.1 q.1
where_once Claim this rest a b n x m y (inl p) (inr q) = absurd (q.0 p.0)
where_once Claim this rest a b n x m y (inr p) (inl q) = absurd (p.0 q.0)
where_once Claim this rest a b n x m y (inr p) (inr q) = b p.0 n x m y p.1 q.1

first_once : (Claim : Type 0) (refusal : ℕ) (rest : CheckRow) → ((Claim → ⊥) → Once rest) → Once (First Claim refusal rest)
first_once Claim refusal rest b =
    where_once Claim (λ n x. (n ≡ refusal) × (x ≡ 0)) rest (λ n x m y p q. (p.0 ∙ sym q.0, p.1 ∙ sym q.1)) b

least_once : {many : ℕ} {P : ℕ → Type 0} (i k : ℕ) → Least many P i → Least many P k → i ≡ k
least_once i k p q =
    let a : i < k → ⊥ = λ h. q.none_before i h p.has in
    let b : k < i → ⊥ = λ h. p.none_before k h q.has in
    omega (arith, a, b)

among_once : (many : ℕ) (Claim : ℕ → Type 0) (this : ℕ) (rest : CheckRow) → Once rest → Once (FirstAmong many Claim this rest)
among_once many Claim this rest b n x m y (inl p) (inl q) = (p.0 ∙ sym q.0, least_once x y p.1 q.1)
among_once many Claim this rest b n x m y (inl p) (inr q) = absurd (q.0 x p.1.below p.1.has)
among_once many Claim this rest b n x m y (inr p) (inl q) = absurd (p.0 y q.1.below q.1.has)
among_once many Claim this rest b n x m y (inr p) (inr q) = b n x m y p.1 q.1

gives_once : (Claim : ℕ → Type 0) → ((x y : ℕ) → Claim x → Claim y → x ≡ y) → Once (Gives Claim)
gives_once Claim a n x m y p q = (p.0 ∙ sym q.0, a x y p.1 q.1)

value_once : (v : ℕ) → Once (Value v)
value_once v = gives_once (λ x. x ≡ v) (λ x y p q. p ∙ sym q)

-- ---- generations
module _ {w : World} {r : Register} (i : Inv w r) where
  abbrev Along : (ℕ → ℕ) → ℕ → Type 0
  Along f k = ByCreators (booked_job w) (arrived w.ledger) f k

  -- a creator has arrived, so it is held
  creator_held : {k : ℕ} {t : Entry} (c : OneCreator (booked_job w) (arrived w.ledger) k t) → Held w.ledger c.creator
  creator_held c =
      i.taken_held c.creator
      (subst (λ (l : List ℕ). In c.creator l) (sym (i.taken ∙ c.made.split)) (in_left c.made.earlier _ c.creator c.made.before))

  module _ (f g : ℕ → ℕ) (creators_f : (m : ℕ) → Held w.ledger m → Along f m) (creators_g : (m : ℕ) → Held w.ledger m → Along g m) where
    -- a job's creators have fewer, and agree
    agree : (n k : ℕ) → Held w.ledger k → f k < n → f k ≡ g k
    agree zero k h b = absurd (omega (arith, b))
    agree (suc n) k h b = by (input_tapes (booked_job w k)) refl (λ c hc less. agree n c hc (omega (arith, less, b)))
      where
        none : input_tapes (booked_job w k) ≡ [] → (t : Entry) → In t (input_tapes (booked_job w k)) → ⊥
        none e t m = subst (λ (l : List Entry). In t l) e m

        by : (ts : List Entry) → input_tapes (booked_job w k) ≡ ts → ((c : ℕ) → Held w.ledger c → f c < f k → f c ≡ g c) → f k ≡ g k
        by [] e same = (creators_f k h).accession (none e) ∙ sym ((creators_g k h).accession (none e))
        by (t ∷ ts) e same =
            let m : In t (input_tapes (booked_job w k)) = subst (λ (l : List Entry). In t l) (sym e) (inl refl) in
            let p = (creators_f k h).reached t m in
            let q = (creators_g k h).reached t m in
            let c = p.1.1.0 in
            let d = q.1.1.0 in
            let fewer = (creators_f k h).above q.0 q.1.0 d in
            let less : f c.creator < f k = omega (arith, p.1.1.1) in
            omega (
              arith,
              p.1.1.1,
              q.1.1.1,
              (creators_g k h).above p.0 p.1.0 c,
              fewer,
              same c.creator (creator_held c) less,
              same d.creator (creator_held d) fewer,
            )

  generations_once : (e : Event) (k : ℕ) → ((Held w.ledger k → ⊥) → ⊥) → (x y : ℕ) → GenerationsOf w e k x → GenerationsOf w e k y → x ≡ y
  generations_once e k n x y p q =
      p.is ∙ (agree p.figure q.figure p.by_creators q.by_creators (suc (p.figure k)) k (decided (reflect_held w.ledger k) n) (omega arith)
      ∙ sym q.is)

  -- ---- sets
  smallest_once : (e : Event) (v k x y : ℕ) → SmallestSize w e v k x → SmallestSize w e v k y → x ≡ y
  smallest_once e v k x y p q = omega (arith, p.is, q.is, p.smallest q.jobs q.works, q.smallest p.jobs p.works)

  named_once : (e : Event) (x y : ℕ) → NamedVaults w e x → NamedVaults w e y → x ≡ y
  named_once e x y p q =
      p.is ∙ (ap job_count (jobs_same p.vaults q.vaults p.fits q.fits (λ v h. reflects_same (p.each v) (q.each v))) ∙ sym q.is)

  -- ---- the rows
  module _ (e : Event) (past : ℕ → ℕ → List Ask) where
    at_correct : (v k : ℕ) (rest : CheckRow) → Once rest → Once (AtCorrect w e v k rest)
    at_correct v k rest b = first_once _ 3 _ (λ _. first_once _ 5 _ (λ _. first_once _ 4 rest (λ _. b)))

    at_faulty : (v k : ℕ) (rest : CheckRow) → Once rest → Once (AtFaulty w e v k rest)
    at_faulty v k rest b = first_once _ 3 _ (λ _. first_once _ 5 _ (λ _. first_once _ 4 rest (λ _. b)))

    admitted : (v k : ℕ) (rest : CheckRow) → Once rest → Once (Admitted w e v k rest)
    admitted v k rest b = among_once 8 _ 11 _ (among_once 8 _ 12 _ (among_once 8 _ 13 _ (among_once 8 _ 14 rest b)))

    row_once : (q : Request) → Once (order w e past q)
    row_once (propose bytes) =
        first_once _ 6 _ (λ _. among_once 8 _ 7 _ (among_once 8 _ 8 _ (first_once _ 9 _
        (λ _. among_once _ _ 0 _ (first_once _ 10 _ (λ _. value_once _))))))
    row_once (preflight v k) = at_correct v k _ (where_once _ _ _ (value_once _) (λ _. admitted v k _ (value_once _)))
    row_once (commit v k signers) = at_correct v k _ (first_once _ 15 _ (λ _. first_once _ 16 _ (λ _. value_once _)))
    row_once (faulty_vote Signatures v k) = at_faulty v k _ (value_once _)
    row_once (faulty_vote Acknowledgements v k) = at_faulty v k _ (value_once _)
    row_once (show k) = first_once _ 4 _ (λ _. where_once _ _ _ (value_once 2) (λ _. where_once _ _ _ (value_once 1) (λ _. value_once 0)))
    row_once (generations k) = first_once _ 4 _ (λ _. first_once _ 18 _ (λ n. gives_once _ (generations_once e k n)))
    row_once snapshot = value_once _
    row_once (release v k rival) =
        at_correct v k _ (first_once _ 4 _ (λ _. first_once _ 19 _ (λ _. first_once _ 20 _ (λ _. value_once _))))
    row_once (dependencies v k) = at_correct v k _ (first_once _ 21 _ (λ _. gives_once _ (smallest_once e v k)))
    row_once (client_preflight v k client) =
        at_correct v k _ (first_once _ 22 _ (λ _. where_once _ _ _ (value_once _) (λ _. first_once _ 23 _ (λ _. admitted v k _ (value_once _)))))
    row_once equivocating = first_once _ 4 _ (λ _. gives_once _ (named_once e))

pub one_answer : OneAnswer
one_answer n b faulty version lawful es e past number value number' value' p q =
    row_once (along es (start n b faulty version) (new_register version) (first n b faulty version lawful)) e past e.request number value number' value' p q
