-- "All other draws keep their values" (M-103): one computed test over all settings, and the law that turns it into the claim.
use mathlib.Core.Bool.{Bool, ◌&&◌, ◌||◌, true}
use mathlib.Core.Path.{◌≡◌, refl}
use Prim.Native.Nat.{◌*◌, ◌+◌, ◌<◌, ◌≤◌, ℕ}
use native.Mathlib.Nat.{div-add-mod', mod-lt}
use native.Mathlib.Omega.{arith}
use lib.Dec.{eqb, leb, ltb}
use borrow.Author.Tests.{eqb-true, le-leb, le-ltb, lt-leb}
use Rattle.base.proofs.Reflect.{by_cases, reflect_and, reflect_as, reflect_eq, refuted, refutes}
use Rattle.base.proofs.Search.{all_at}
use Rattle.base.specs.Reflect.{Reflects}
use Rattle.base.specs.Search.{all_below}
use Rattle.std.specs.Prelude.{Ok}
use Rattle.federation.proofs.Lawful.{reflect_lawful}
use Rattle.federation.specs.Federation.{Lawful, threshold_of}
use Rattle.federation.specs.declared.Settings.{Settings}
use Rattle.binomials.specs.Binomials.{choose, factorial}
use Rattle.binomials.specs.Draw.{draw_of, failing, thousandths, to_even}
use Rattle.binomials.specs.Halves.{C9, Kept, NearestUp, changed, halves_up, same}

-- what "halves rounded up" means
pub nearest_up : (part whole : ℕ) → 0 < whole → NearestUp part whole (halves_up part whole)
unfolding halves_up
nearest_up part whole h =
    let d : 0 < 2 * whole = omega (arith, h) in
    let e = div-add-mod' (2000 * part + whole) (2 * whole) in
    let m = mod-lt (2000 * part + whole) d in
    record { not_above = omega (arith, e); not_below = omega (arith, e, m) }

is_c9 : ℕ → ℕ → ℕ → Bool
is_c9 n b u = eqb n 16 && (eqb b 3 && eqb u 1)

reflect_c9 : (s : Settings) (u : ℕ) → Reflects (is_c9 s.n s.b u) (C9 s u)
unfolding is_c9
reflect_c9 s u =
    reflect_as (reflect_and (reflect_eq s.n 16) (reflect_and (reflect_eq s.b 3) (reflect_eq u 1)))
    (λ h. record { vaults = h.0; bound = h.1.0; away = h.1.1 })
    (λ c. (c.vaults, (c.bound, c.away)))

-- the draw's value by another rounding
abbrev by_rounding : (ℕ → ℕ → ℕ) → Settings → ℕ → ℕ
by_rounding round s u = round (failing s u) (choose s.n (threshold_of s))

-- the settings are not lawful, or more vaults are away than there are, or it is C9, or the two roundings agree
agrees : ℕ → ℕ → ℕ → Bool
agrees n b u =
    let s : Settings = record { n = n; b = b; faulty = 0; version = 1 } in
    leb n (3 * b) || (ltb n u || (is_c9 n b u || eqb (by_rounding thousandths s u) (by_rounding halves_up s u)))

all_agree : all_below 17 (λ n. all_below 6 (λ b. all_below 17 (agrees n b))) ≡ true
unfolding agrees all_below is_c9 failing threshold_of choose factorial thousandths to_even halves_up
all_agree = refl

-- C9's share does not depend on which vaults are faulty
c9_values : (s : Settings) (u : ℕ) → C9 s u → (by_rounding thousandths s u ≡ 812) × (by_rounding halves_up s u ≡ 813)
unfolding failing threshold_of choose factorial thousandths to_even halves_up
c9_values s u c = rw (c.vaults, c.bound, c.away) (refl, refl)

module _ (s : Settings) (u : ℕ) (h : Lawful s) (l : u ≤ s.n) where
  drawn : draw_of s u ≡ Ok (by_rounding thousandths s u)
  unfolding draw_of
  drawn = simp ((reflect_lawful s).complete h, le-leb u s.n l)

  agree : (C9 s u → ⊥) → by_rounding thousandths s u ≡ by_rounding halves_up s u
  unfolding agrees failing threshold_of
  agree n =
      let over_b = all_at (λ n. all_below 6 (λ b. all_below 17 (agrees n b))) 17 all_agree s.n (omega (arith, h)) in
      let over_u = all_at (λ b. all_below 17 (agrees s.n b)) 6 over_b s.b (omega (arith, h)) in
      let at_u = all_at (agrees s.n s.b) 17 over_u u (omega (arith, h, l)) in
      eqb-true _ _ (rw (lt-leb s.n (3 * s.b) h.few, le-ltb s.n u l, refutes (reflect_c9 s u) n) at at_u)

  pub draws_keep : Kept s u (draw_of s u)
  draws_keep =
      rw drawn
      (by_cases (λ _. Kept s u (Ok (by_rounding thousandths s u))) (is_c9 s.n s.b u)
      (λ e. let c = (reflect_c9 s u).sound e in rw (c9_values s u c).0 (changed c (c9_values s u c).1))
      (λ e. let n = refuted (reflect_c9 s u) e in rw (agree n) (same n)))
