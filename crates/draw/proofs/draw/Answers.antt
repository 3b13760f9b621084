-- Each return is one way through checks 1 and 17; behind them there is a quorum and no more without the absent vaults.
use mathlib.Core.Bool.{Bool, true}
use mathlib.Core.Path.{◌∙◌, ◌≡◌, sym}
use Prim.Native.Nat.{◌-◌, ◌<◌}
use native.Mathlib.Omega.{arith}
use borrow.Author.Tests.{le-leb, lt-leb}
use Rattle.federation.specs.Federation.{is_lawful}
use Rattle.binomials.proofs.Chances.{fewer_quorums, quorums_fit, small, some_quorum}
use Rattle.binomials.proofs.Rounding.{share_most}
use Rattle.binomials.specs.Draw.{draw_of, failing}
use Rattle.draw.proofs.draw.Goals as goal

-- past check 1: what the code found is what the definition says
lawful : {a b : Bool} → a ≡ b → a ≡ true → b ≡ true
lawful said holds = sym said ∙ holds

pub returns-then-not-is_lawful : goal.returns-then-not-is_lawful
unfolding draw_of
returns-then-not-is_lawful c = simp (sym c.is_lawful.ensures ∙ c.if-not-is_lawful.true)

pub returns-then-n-u : goal.returns-then-n-u
unfolding draw_of
returns-then-n-u c = simp (lawful c.is_lawful.ensures c.if-not-is_lawful.false, lt-leb _ _ c.if-n-u.true)

pub choose-all-requires : goal.choose-all-requires
choose-all-requires c = small _ _ (lawful c.is_lawful.ensures c.if-not-is_lawful.false) c.if-n-u.false

pub choose-good-requires : goal.choose-good-requires
choose-good-requires c = let e = c in omega (arith, small _ _ (lawful e.is_lawful.ensures e.if-not-is_lawful.false) e.if-n-u.false)

pub overflow_sub-all : goal.overflow_sub-all
overflow_sub-all c =
    let t = c in
    rw (c.choose-all.ensures, c.choose-good.ensures, t.threshold-k.ensures)
    (fewer_quorums _ _ (lawful t.is_lawful.ensures t.if-not-is_lawful.false) t.if-n-u.false)

pub thousandths-requires : goal.thousandths-requires
thousandths-requires c =
    let t = c in
    let b = lawful t.is_lawful.ensures t.if-not-is_lawful.false in
    let l = t.if-n-u.false in
    rw (c.choose-all.ensures, t.threshold-k.ensures) (some_quorum _ _ b l, omega arith, omega (arith, quorums_fit _ _ b l))

pub overflow_cast-result : goal.overflow_cast-result
overflow_cast-result c =
    let a = c in
    let t = a in
    let whole : 0 < a.choose-all.result =
    rw (a.choose-all.ensures, t.threshold-k.ensures) (some_quorum _ _ (lawful t.is_lawful.ensures t.if-not-is_lawful.false) t.if-n-u.false) in
    omega (arith, share_most (a.choose-all.result - c.choose-good.result) a.choose-all.result whole (omega arith), c.thousandths.ensures)

pub returns : goal.returns
unfolding draw_of failing
returns c =
    let t = c in
    simp (
      lawful t.is_lawful.ensures t.if-not-is_lawful.false,
      le-leb _ _ t.if-n-u.false,
      sym c.thousandths.ensures,
      sym c.choose-good.ensures,
      sym c.choose-all.ensures,
      sym t.threshold-k.ensures,
    )
