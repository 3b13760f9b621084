-- The first draws of two seeds, by computation.
use Rattle.std.proofs.Common.{◌≡◌, [], ◌∷◌, refl}
use Rattle.generator.specs.Generator.{drawn, draws, next}

pub seed_0 : draws 2 0 ≡ 335903614 ∷ 436792849 ∷ []
unfolding draws drawn next
seed_0 = refl

pub seed_1 : draws 1 1 ≡ 1817669548 ∷ []
unfolding draws drawn next
seed_1 = refl
