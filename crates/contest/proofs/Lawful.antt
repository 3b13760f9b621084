-- The test of a contest's numbers decides the claim.
use mathlib.Core.Bool.{true}
use mathlib.Core.Path.{◌≡◌}
use Prim.Native.Nat.{ℕ}
use Rattle.base.proofs.Reflect.{reflect_and, reflect_as, reflect_le}
use Rattle.base.specs.Reflect.{Reflects}
use Rattle.contest.specs.Contest.{Lawful, is_lawful}

pub reflect_lawful : (n f t : ℕ) → Reflects (is_lawful n f t) (Lawful n f t)
unfolding is_lawful
reflect_lawful n f t =
    reflect_as
    (reflect_and (reflect_le 1 n) (reflect_and (reflect_le n 16) (reflect_and (reflect_le f n) (reflect_and (reflect_le 1 t) (reflect_le t n)))))
    (λ h. record { some = h.0; few = h.1.0; among = h.1.1.0; one = h.1.1.1.0; most = h.1.1.1.1 })
    (λ h. (h.some, (h.few, (h.among, (h.one, h.most)))))

pub law : (n f t : ℕ) → is_lawful n f t ≡ true → Lawful n f t
law n f t = (reflect_lawful n f t).sound
