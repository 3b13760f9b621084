-- What the quota gives over any list of a client's counted requests. A request that brought a new signature had at most three among the fifteen before it, so
-- sixteen in a row have at most four. A refusal by the quota had four among the fifteen before it; after twelve refusals in a row only three of those fifteen
-- can be others; and so after any twelve that brought none. The history's bits are the list's newest fifteen, so counting its ones counts them.
use mathlib.Core.Bool.{Bool, cond, false, true}
use mathlib.Core.List.{List, [], ◌++◌, ◌∷◌}
use mathlib.Core.Logic.{inl, inr}
use mathlib.Core.Path.{◌∙◌, ◌≡◌, ap, ap₂, refl, subst}
use Prim.Native.Nat.{◌%◌, ◌*◌, ◌+◌, ◌/◌, ◌<◌, ◌^◌, ◌≤◌, suc, zero, zero-le, ℕ}
use native.Mathlib.Nat.{mul_assoc, mul_comm, not-suc-le-zero, pow-suc}
use native.Mathlib.Omega.{arith}
use lib.Count.{ones, ones_step}
use lib.Dec.{leb}
use lib.ListN.{length, take}
use borrow.Author.Tests.{leb-false, leb-true, lt-leb}
use Rattle.base.proofs.Reflect.{by_cases}
use Rattle.quota.specs.Asks.{AllOver, Ask, NoNews, Recovers, Stretch, news, spends}
use Rattle.quota.specs.Quota.{is_spent, remembered}

-- ---- the bits of a history

abbrev bit : Ask → ℕ
bit a = cond a.fresh 1 0

bit_small : (a : Ask) → bit a ≤ 1
bit_small a = by_cases (λ b. cond b 1 0 ≤ 1) a.fresh (λ _. omega arith) (λ _. omega arith)

-- the newest k requests, the latest in the lowest bit
abbrev pub bits : ℕ → List Ask → ℕ
bits zero l = 0
bits (suc k) [] = 0
bits (suc k) (a ∷ l) = bit a + 2 * bits k l

no_bits : (k : ℕ) → bits k [] ≡ 0
no_bits zero = refl
no_bits (suc k) = refl

bits_below : (k : ℕ) (l : List Ask) → bits k l < 2 ^ k
bits_below zero l = omega arith
bits_below (suc k) [] = let h = bits_below k [] in let e : bits k [] ≡ 0 = no_bits k in omega (arith, pow-suc 2 k)
bits_below (suc k) (a ∷ l) = let h = bits_below k l in let s = bit_small a in omega (arith, pow-suc 2 k)

-- one bit more, at the top
bits_more : (k : ℕ) (l : List Ask) → (t : ℕ) × (t ≤ 1) × (bits (suc k) l ≡ bits k l + 2 ^ k * t)
bits_more zero [] = (0, omega arith, omega arith)
bits_more zero (a ∷ l) = (bit a, bit_small a, omega arith)
bits_more (suc k) [] = (0, omega arith, omega arith)
bits_more (suc k) (a ∷ l) =
    let r = bits_more k l in
    let e : 2 ^ suc k * r.0 ≡ 2 * (2 ^ k * r.0) = ap (λ (x : ℕ). x * r.0) (pow-suc 2 k ∙ mul_comm (2 ^ k) 2) ∙ mul_assoc 2 (2 ^ k) r.0 in
    (r.0, r.1, omega (arith, r.2, e))

-- a history with one request more
pub remembers : (a : Ask) (l : List Ask) → remembered (bits 15 l) a.fresh ≡ bits 15 (a ∷ l)
unfolding remembered
remembers a l =
    let r = bits_more 14 l in
    let h : bits 14 l < 2 ^ 14 = bits_below 14 l in
    let t = r.1 in
    let e : bits 15 l ≡ bits 14 l + 16384 * r.0 = r.2 in
    by_cases (λ b. cond b (bits 15 l % 2 ^ 14 * 2 + 1) (bits 15 l % 2 ^ 14 * 2) ≡ cond b 1 0 + 2 * bits 14 l) a.fresh
    (λ _. omega arith) (λ _. omega arith)

ones_bits : (k : ℕ) (l : List Ask) → ones (bits k l) ≡ news (take k l)
unfolding ones
ones_bits zero l = refl
ones_bits (suc k) [] = refl
ones_bits (suc k) (a ∷ l) =
    let s = bit_small a in
    let m : (bit a + 2 * bits k l) % 2 ≡ bit a = omega arith in
    let d : (bit a + 2 * bits k l) / 2 ≡ bits k l = omega arith in
    ones_step (bit a + 2 * bits k l) ∙ ap₂ (λ (x y : ℕ). x + ones y) m d ∙ ap (λ (x : ℕ). bit a + x) (ones_bits k l)

pub spent_is : (l : List Ask) → is_spent (bits 15 l) ≡ spends l
unfolding is_spent
spent_is l = ap (leb 4) (ones_bits 15 l)

-- ---- lists that the quota lets come about

-- each request by those before it
abbrev pub Ruled : List Ask → Type 0
Ruled [] = Unit {0}
Ruled (a ∷ l) = (a.fresh ≡ true → spends l ≡ false) × (a.over ≡ true → (spends l ≡ true) × (a.fresh ≡ false)) × Ruled l

ruled_older : (xs ys : List Ask) → Ruled (xs ++ ys) → Ruled ys
ruled_older [] ys h = h
ruled_older (x ∷ xs) ys (a, b, h) = ruled_older xs ys h

news_prefix : (k : ℕ) (ys zs : List Ask) → length ys ≤ k → news ys ≤ news (take k (ys ++ zs))
news_prefix k [] zs h = zero-le
news_prefix zero (y ∷ ys) zs h = absurd (not-suc-le-zero h)
news_prefix (suc k) (y ∷ ys) zs h = let r = news_prefix k ys zs (omega arith) in omega arith

few : (ys zs : List Ask) → Ruled (ys ++ zs) → length ys ≤ 16 → news ys ≤ 4
few [] zs h q = zero-le
few (y ∷ ys) zs (f, o, h) q =
    let rest = few ys zs h (omega arith) in
    let p = news_prefix 15 ys zs (omega arith) in
    by_cases (λ b. (b ≡ true → spends (ys ++ zs) ≡ false) → cond b 1 0 + news ys ≤ 4) y.fresh
    (λ _ s. let n = leb-false 4 (news (take 15 (ys ++ zs))) (s refl) in omega arith) (λ _ s. omega arith) f

-- "at most four new signatures from a vault in any sixteen consecutive requests of its own there"
pub window : (l : List Ask) → Ruled l → (s : List Ask) → Stretch s l → length s ≤ 16 → news s ≤ 4
window l r s x h = few s x.older (ruled_older x.newer (s ++ x.older) (subst Ruled x.whole r)) h

news_few : (k : ℕ) (l : List Ask) → news (take k l) ≤ k
news_few zero l = zero-le
news_few (suc k) [] = zero-le
news_few (suc k) (a ∷ l) = let r = news_few k l in let s = bit_small a in omega arith

-- requests that brought nothing leave fewer places
news_stale : (k : ℕ) (ys zs : List Ask) → NoNews ys → length ys ≤ k → news (take k (ys ++ zs)) + length ys ≤ k
news_stale k [] zs h q = let r = news_few k zs in omega arith
news_stale zero (y ∷ ys) zs h q = absurd (not-suc-le-zero q)
news_stale (suc k) (y ∷ ys) zs h q =
    let e : bit y ≡ 0 = ap (λ (b : Bool). cond b 1 0) (h y (inl refl)) in
    let r = news_stale k ys zs (λ a m. h a (inr m)) (omega arith) in
    omega arith

stale : (ys zs : List Ask) → Ruled (ys ++ zs) → AllOver ys → NoNews ys
stale (y ∷ ys) zs (f, o, h) t a (inl e) = rw e (o (t y (inl refl))).1
stale (y ∷ ys) zs (f, o, h) t a (inr m) = stale ys zs h (λ x i. t x (inr i)) a m
stale [] zs _ t a x4 = elim x4 [ ]

soon : (ys zs : List Ask) → Ruled (ys ++ zs) → AllOver ys → length ys ≤ 12
soon [] zs h t = zero-le
soon (y ∷ ys) zs (f, o, h) t =
    let rest = soon ys zs h (λ x i. t x (inr i)) in
    let spent = leb-true 4 (news (take 15 (ys ++ zs))) (o (t y (inl refl))).0 in
    by_cases (λ b. suc (length ys) ≤ 12) (leb (length ys) 11)
    (λ e. let q = leb-true (length ys) 11 e in omega arith)
    (λ e. let q = leb-false (length ys) 11 e in let b = news_stale 15 ys zs (stale ys zs h (λ x i. t x (inr i))) (omega arith) in absurd (omega arith))

-- "Whoever keeps asking comes within the quota again after at most twelve refusals by it"
pub patience : (l : List Ask) → Ruled l → (s : List Ask) → Stretch s l → AllOver s → length s ≤ 12
patience l r s x t = soon s x.older (ruled_older x.newer (s ++ x.older) (subst Ruled x.whole r)) t

-- at most three of the previous fifteen brought one
pub recovers : Recovers
recovers s older n h = let r = news_stale 15 s older n (omega (arith, h)) in lt-leb 4 (news (take 15 (s ++ older))) (omega (arith, h, r))
