-- What it means that a test decides a claim: it is true where the claim holds, and only there.
-- Each executable check of `specs/` stands beside its claim, and a proof of `Reflects` joins the two.
use Rattle.std.specs.Prelude.{◌≡◌, Bool, true}

pub record Reflects (test : Bool) (Claim : Type 0) : Type 0 where
  pub sound : test ≡ true → Claim
  pub complete : Claim → test ≡ true
