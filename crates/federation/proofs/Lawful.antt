-- The test of settings decides the claim.
use Prim.Native.Nat.{◌*◌, ◌^◌}
use lib.Count.{ones}
use Rattle.base.proofs.Reflect.{reflect_and, reflect_as, reflect_le, reflect_lt}
use Rattle.base.specs.Reflect.{Reflects}
use Rattle.federation.specs.Federation.{Lawful, is_federation, is_known, is_lawful, is_lawful_up_to, latest}
use Rattle.federation.specs.declared.Settings.{Settings}

pub reflect_lawful : (s : Settings) → Reflects (is_lawful s) (Lawful s)
unfolding is_lawful_up_to is_known is_federation
reflect_lawful s =
    reflect_as
    (reflect_and (reflect_and (reflect_le 1 s.version) (reflect_le s.version latest))
    (reflect_and (reflect_le s.n 16)
    (reflect_and (reflect_lt (3 * s.b) s.n)
    (reflect_and (reflect_lt s.faulty (2 ^ s.n)) (reflect_le (ones s.faulty) s.b)))))
    (λ h. record { vaults = h.1.0; few = h.1.1.0; below = h.1.1.1.0; bound = h.1.1.1.1; version = h.0 })
    (λ h. (h.version, (h.vaults, (h.few, (h.below, h.bound)))))
