-- Which inputs ask for a load, and the answer put together.
use mathlib.Core.Bool.{false, true}
use mathlib.Core.List.{List}
use mathlib.Core.Path.{◌∙◌, ◌≡◌}
use Prim.Native.Nat.{◌*◌, ◌<◌, ◌≤◌, ℕ}
use lib.ListN.{get_or, length}
use borrow.Author.Tests.{eqb-true}
use Rattle.base.proofs.Reflect.{and_true}
use Rattle.codec.specs.Codec.{le_at}
use Rattle.federation.proofs.Lawful.{reflect_lawful}
use Rattle.generator.specs.Generator.{drawn, next}
use Rattle.std.specs.Prelude.{Err}
use Rattle.outcome.specs.declared.Refusal.TheVariants.{Settings as BadSettings}
use Rattle.digits.proofs.Writing.{then}
use Rattle.digits.specs.Digits.{Put}
use Rattle.text.specs.Text.{line_for}
use Rattle.load.specs.Loads.{answer_of, is_request, load_bytes, steps_bytes, steps_of}
use Rattle.load.specs.Plans.{faulty_of, plan_of, plan_with}
use Rattle.load.specs.Steps.{header_bytes}
use Rattle.load.specs.declared.Plan.{Plan}

-- what the test has made sure of
pub record Asked (input : List ℕ) : Type 0 where
  pub ten : length input ≡ 10
  pub vaults : get_or input 8 0 ≤ 16
  pub few : 3 * get_or input 9 0 < get_or input 8 0

pub asked : (input : List ℕ) → is_request input ≡ true → Asked input
unfolding is_request
asked input e =
    let h = and_true _ _ e in
    let s = (reflect_lawful _).sound h.1 in
    record { ten = eqb-true _ _ h.0; vaults = s.vaults; few = s.few }

-- the plan, from the states and their draws
pub planned : (seed n b one two three first second third : ℕ) (p : Plan) → one ≡ next seed → two ≡ next one → three ≡ next two
    → first ≡ drawn one → second ≡ drawn two → third ≡ drawn three → p ≡ plan_with n b first second third → p ≡ plan_of seed n b
unfolding plan_of
planned seed n b one two three first second third p e f g x y z h = h ∙ simp (x, y, z) (simp (g) (simp f (simp e)))

pub joined : {o m q : List ℕ} {j r : ℕ} (seed n b three f : ℕ) (p : Plan) → three ≡ next (next (next seed)) → p ≡ plan_of seed n b → f ≡ faulty_of p
    → j ≡ 9 → Put o 0 (header_bytes n b f) m j → Put m 9 (steps_bytes p 200 0 three) q r → Put o 0 (load_bytes seed n b) q r
unfolding load_bytes steps_bytes steps_of
joined seed n b three f p e g h k w v = then (rw (h, g, k) at w) (rw (e, g) at v)

pub answered : {o q : List ℕ} {r : ℕ} (input : List ℕ) (seed : ℕ) → is_request input ≡ true → seed ≡ le_at input 0 8
    → Put o 0 (load_bytes seed (get_or input 8 0) (get_or input 9 0)) q r → Put o 0 (answer_of input) q r
unfolding answer_of
answered input seed e f w = rw e (rw f at w)

pub declined : {o q : List ℕ} {r : ℕ} (input : List ℕ) → is_request input ≡ false → Put o 0 (line_for 0 (Err BadSettings)) q r → Put o 0 (answer_of input) q r
unfolding answer_of
declined input e w = rw e w
