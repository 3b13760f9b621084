-- The game of document 02, M-111: "Two desks with rival jobs move in turn." Its desks are clients here, their rival jobs conflicting, its two-faced
-- vaults equivocating and its sound ones correct. The vaults are the numbers below n, and `equivocates` says which of them are equivocating.
use Rattle.std.specs.Prelude.{◌≡◌, Bool, true, false, not, cond, ◌&&◌, List, [], ◌∷◌, ℕ, zero, suc, ◌+◌, ◌<◌, eqb, length}
use Rattle.base.specs.Lists.{any_in}
use Rattle.base.specs.Search.{Every}

pub data Client : Type 0 where
  first : Client
  second : Client

abbrev pub other : Client → Client
other first = second
other second = first

-- A position: the vaults that each client has asked, the latest at the front. Each of them has signed.
pub record Position : Type 0 where
  pub by_first : List ℕ
  pub by_second : List ℕ

abbrev pub start : Position
start = record { by_first = []; by_second = [] }

abbrev pub asked_by : Client → Position → List ℕ
asked_by first p = p.by_first
asked_by second p = p.by_second

abbrev pub signatures : Client → Position → ℕ
signatures c p = length (asked_by c p)

-- the position after client c has asked vault v, "which signs"
abbrev pub ask : Client → ℕ → Position → Position
ask first v p = record { by_first = v ∷ p.by_first; by_second = p.by_second }
ask second v p = record { by_first = p.by_first; by_second = v ∷ p.by_second }

abbrev pub has_asked : Client → Position → ℕ → Bool
has_asked c p v = any_in (eqb v) (asked_by c p)

-- "a sound vault that no desk has asked", "or a two-faced vault that this desk hasn't asked"
unfoldable pub may_ask : (ℕ → Bool) → Client → Position → ℕ → Bool
may_ask equivocates c p v = not (has_asked c p v) && cond (equivocates v) true (not (has_asked (other c) p v))

-- "in turn": whose turn it is, counted from 0
abbrev pub mover : ℕ → Client
mover zero = first
mover (suc i) = other (mover i)

module _ (n : ℕ) (equivocates : ℕ → Bool) where
  -- the client has no move
  abbrev pub Stuck : Client → Position → Type 0
  Stuck c p = Every n (λ v. may_ask equivocates c p v ≡ false)

  -- the client's turn leads from p to q: a move, and "a desk without a move passes"
  pub data Turn (c : Client) (p q : Position) : Type 0 where
    asks : (v : ℕ) → v < n → may_ask equivocates c p v ≡ true → ask c v p ≡ q → Turn c p q
    passes : Stuck c p → p ≡ q → Turn c p q

  -- a line of play: the position before each turn
  pub record Line (line : ℕ → Position) : Type 0 where
    pub begins : line 0 ≡ start
    pub goes : (i : ℕ) → Turn (mover i) (line i) (line (suc i))

  -- "neither can move": the play is over, and on a line both pass for ever
  abbrev pub Ended : Position → Type 0
  Ended p = Stuck first p × Stuck second p

-- how many of the numbers below n pass: f of the n vaults are equivocating if `count n equivocates` is f
unfoldable pub count : ℕ → (ℕ → Bool) → ℕ
count zero p = 0
count (suc n) p = cond (p n) 1 0 + count n p
