-- Which refusals of a client's request count: those of the shared checks and of check 22 have numbers that do not, those of 11 to 14 and 23 have others.
use mathlib.Core.Bool.{Bool, beq, cond, false, true}
use mathlib.Core.List.{List}
use mathlib.Core.Path.{◌≡◌}
use Prim.Native.Nat.{ℕ}
use lib.Dec.{ltb}
use Rattle.base.specs.Search.{first_below}
use Rattle.outcome.specs.Figures.{refusal_number, Verdict}
use Rattle.std.specs.Prelude.{Ok, Err}
use Rattle.sets.specs.Bits.{has_bit}
use Rattle.job_sets.specs.Jobs.{job_without}
use Rattle.queries.specs.Admission.{admission, consumed_at, not_created_at, remade_at}
use Rattle.journal.specs.Journal.{is_booked, job_at}
use Rattle.ledger.specs.Decisions.{admission_at}
use Rattle.ledger.specs.State.{is_sane, version_of}
use Rattle.ledger.specs.Steps.{gate_of, vault_gate}
use Rattle.ledger.specs.declared.Ledger.{Ledger}
use Rattle.vaults.specs.declared.Vault.{Vault}

-- a test of the number that a row of checks refuses with
abbrev pub Says : (ℕ → Bool) → Bool → Verdict → Type 0
Says p b (Ok _) = Unit {0}
Says p b (Err why) = p (refusal_number why) ≡ b

module _ (p : ℕ → Bool) (b : Bool) where
  choose : (t : Bool) (x y : Verdict) → Says p b x → Says p b y → Says p b (cond t x y)
  choose true x y h k = h
  choose false x y h k = k

  -- checks 1, 3, 5 and 4
  pub gate_says : (l : Ledger) (journal : List ℕ) (v k : ℕ) (faulty : Bool) → p 1 ≡ b → p 3 ≡ b → p 4 ≡ b → p 5 ≡ b
      → Says p b (vault_gate l journal v k faulty)
  unfolding vault_gate gate_of
  gate_says l journal v k faulty one three four five =
      choose (is_sane l) _ _
      (choose (ltb v l.settings.n) _ _
      (choose (beq (has_bit l.settings.faulty v) faulty) _ _
      (choose (is_booked (version_of l) journal l.booked k) _ _ tt four)
      five)
      three)
      one

  -- checks 11 to 14
  pub admission_says : (state : Vault) (version : ℕ) (journal : List ℕ) (booked k : ℕ) → p 11 ≡ b → p 12 ≡ b → p 13 ≡ b → p 14 ≡ b
      → Says p b (admission_at state version journal booked k)
  unfolding admission_at admission
  admission_says state version journal booked k eleven twelve thirteen fourteen =
      let job = job_at version journal booked in
      let others = job_without state.signed k in
      choose (ltb (first_below 8 (not_created_at job booked state.held (job k))) 8) _ _ eleven
      (choose (ltb (first_below 8 (consumed_at job booked state.held (job k))) 8) _ _ twelve
      (choose (ltb (first_below 8 (consumed_at job booked others (job k))) 8) _ _ thirteen
      (choose (ltb (first_below 8 (remade_at job booked state.held others (job k))) 8) _ _ fourteen tt)))
