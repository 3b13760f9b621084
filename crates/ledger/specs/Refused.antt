-- What a refused step changes: nothing, but for a client's history. Document 02, "A fair quota for each desk": "The desk's record of counted requests is all
-- that a refused request of this kind changes".
use Rattle.std.specs.Prelude.{Bool, cond, false, not, [], ◌∷◌, ℕ, eqb}
use Rattle.base.specs.Lists.{any_in}
use Rattle.outcome.specs.Figures.{refusal_number}
use Rattle.outcome.specs.declared.Refusal.{Refusal}
use Rattle.ledger.specs.Decisions.{history_with}
use Rattle.ledger.specs.State.{counted, history_at}
use Rattle.ledger.specs.Worlds.{Request, client_preflight, commit, dependencies, equivocating, faulty_vote, generations, preflight, propose}
use Rattle.ledger.specs.Worlds.{release, show, snapshot}
use Rattle.ledger.specs.declared.Ledger.{Ledger}

-- by the number of the answer: "A request turned back with 3, 4, 5 or 22 counts for no desk; every other one counts, 23 included." 1 comes before every other
-- check.
abbrev pub is_counted : ℕ → Bool
is_counted number = not (any_in (eqb number) (1 ∷ 3 ∷ 4 ∷ 5 ∷ 22 ∷ []))

-- the ledger after a step that was refused for this reason
abbrev pub refused_ledger : Ledger → Request → Refusal → Ledger
refused_ledger l (propose bytes) why = l
refused_ledger l (preflight v job) why = l
refused_ledger l (commit v job signers) why = l
refused_ledger l (faulty_vote column v job) why = l
refused_ledger l (show job) why = l
refused_ledger l (generations job) why = l
refused_ledger l snapshot why = l
refused_ledger l (release v job rival) why = l
refused_ledger l (dependencies v job) why = l
refused_ledger l equivocating why = l
refused_ledger l (client_preflight v job client) why =
    cond (is_counted (refusal_number why)) (counted l v (history_with client (history_at l v client) false)) l
