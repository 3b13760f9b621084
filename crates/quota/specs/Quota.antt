-- A client's quota at a vault (document 02, "A fair quota for each desk"; a client is its desk). The last fifteen counted requests are kept as a number, the
-- newest in the lowest bit; a bit is set where the request brought a new signature.
use Rattle.std.specs.Prelude.{Bool, cond, ℕ, ◌%◌, ◌*◌, ◌+◌, ◌^◌, leb, ltb}
use Rattle.std.specs.Int.Count.{ones}

-- "one of desks 0 to 7"
unfoldable pub is_client : ℕ → Bool
is_client client = ltb client 8

-- "if four of the desk's previous fifteen requests there brought a new signature"
unfoldable pub is_spent : ℕ → Bool
is_spent history = leb 4 (ones history)

-- the history after one request more: the oldest of the fifteen is forgotten
unfoldable pub remembered : ℕ → Bool → ℕ
remembered history fresh = cond fresh (history % 2 ^ 14 * 2 + 1) (history % 2 ^ 14 * 2)

-- where a client's history at a vault stands among all histories; behind checks 3 and 22 the remainders are the vault and the client themselves
unfoldable pub history_place : ℕ → ℕ → ℕ
history_place v client = 8 * (v % 16) + client % 8
