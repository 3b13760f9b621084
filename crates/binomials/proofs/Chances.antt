-- What the draw computes with stays within its types where the settings are lawful: there is a quorum, no more of them are without the
-- absent vaults than there are, and a share is at most a thousand thousandths.
use mathlib.Core.Bool.{Bool, cond, false, true}
use mathlib.Core.Path.{◌≡◌, ap, refl, subst}
use Prim.Native.Nat.{◌+◌, ◌-◌, ◌<◌, ◌≤◌, ℕ}
use native.Mathlib.Omega.{arith}
use lib.Dec.{leb}
use borrow.Author.Tests.{le-leb, leb-false, leb-true, lt-leb}
use Rattle.base.proofs.Reflect.{refuted, refutes}
use Rattle.outcome.specs.Figures.{value_of, Outcome}
use Rattle.std.specs.Prelude.{Ok, Err}
use Rattle.outcome.specs.declared.Refusal.TheVariants.{Settings as BadSettings, TooManyAbsent}
use Rattle.federation.proofs.Lawful.{reflect_lawful}
use Rattle.federation.specs.Federation.{Lawful, is_lawful, threshold_of}
use Rattle.federation.specs.declared.Settings.{Settings}
use Rattle.binomials.proofs.Binomials.{choose_grows, choose_positive}
use Rattle.binomials.proofs.Rows.{choose_bound}
use Rattle.binomials.proofs.Rounding.{nearest, nearest_once, share_most}
use Rattle.binomials.specs.Binomials.{choose}
use Rattle.binomials.specs.Draw.{Drawn, absent, chance, draw_of, failing, thousandths, unlawful}

module _ (s : Settings) (u : ℕ) (e : is_lawful s ≡ true) (l : u ≤ s.n) where
  lawful : Lawful s
  lawful = (reflect_lawful s).sound e

  pub small : s.n ≤ 16
  small = lawful.vaults

  within : threshold_of s ≤ s.n
  unfolding threshold_of
  within = omega arith

  pub some_quorum : 0 < choose s.n (threshold_of s)
  some_quorum = choose_positive s.n (threshold_of s) within

  pub quorums_fit : choose s.n (threshold_of s) ≤ 12870
  quorums_fit = choose_bound s.n (threshold_of s) small within

  pub fewer_quorums : choose (s.n - u) (threshold_of s) ≤ choose s.n (threshold_of s)
  fewer_quorums =
      let back : u + (s.n - u) ≡ s.n = omega (arith, l) in
      subst (λ (n : ℕ). choose (s.n - u) (threshold_of s) ≤ choose n (threshold_of s)) back
      (choose_grows u (s.n - u) (threshold_of s))

-- so a draw's value, refused or not, has at most four digits
pub draw_small : (s : Settings) (u : ℕ) → value_of (draw_of s u) ≤ 1000
unfolding draw_of failing
draw_small s u = by (is_lawful s) refl (leb u s.n) refl
  where
    by : (a : Bool) → is_lawful s ≡ a → (b : Bool) → leb u s.n ≡ b
        → value_of (cond a (cond b (Ok (thousandths (failing s u) (choose s.n (threshold_of s)))) (Err TooManyAbsent)) (Err BadSettings)) ≤ 1000
    by true e true l = share_most (failing s u) (choose s.n (threshold_of s)) (some_quorum s u e (leb-true u s.n l)) (omega arith)
    by true e false l = omega arith
    by false e b l = omega arith

-- ---- the draw as a whole
module _ (s : Settings) (u : ℕ) where
  abbrev quorums : ℕ
  quorums = choose s.n (threshold_of s)

  pub draw_means : Drawn s u (draw_of s u)
  unfolding draw_of
  draw_means = by (is_lawful s) refl (leb u s.n) refl
    where
      by : (a : Bool) → is_lawful s ≡ a → (b : Bool) → leb u s.n ≡ b
          → Drawn s u (cond a (cond b (Ok (thousandths (failing s u) quorums)) (Err TooManyAbsent)) (Err BadSettings))
      by true e true l =
          chance _ ((reflect_lawful s).sound e) (leb-true u s.n l) (nearest (failing s u) quorums (some_quorum s u e (leb-true u s.n l)))
      by true e false l = absent ((reflect_lawful s).sound e) (leb-false u s.n l)
      by false e b l = unlawful (refuted (reflect_lawful s) e)

  pub means_draw : (o : Outcome) → Drawn s u o → o ≡ draw_of s u
  unfolding draw_of
  means_draw o (unlawful n) = simp (refutes (reflect_lawful s) n)
  means_draw o (absent h l) = simp ((reflect_lawful s).complete h, lt-leb u s.n l)
  means_draw o (chance r h l x) =
      let e = (reflect_lawful s).complete h in
      let some = some_quorum s u e l in
      simp (e, le-leb u s.n l) (ap Ok (nearest_once (failing s u) quorums some r _ x (nearest (failing s u) quorums some)))
