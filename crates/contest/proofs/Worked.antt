-- Contests worked by computation from the definition, one table: n, f, t, and the answer.
use mathlib.Core.Bool.{true, false}
use mathlib.Core.Path.{◌≡◌, refl}
use Rattle.std.specs.Prelude.{Ok, Err}
use Rattle.outcome.specs.declared.Refusal.TheVariants.{NoContest}
use Rattle.contest.specs.Contest.{Answer, both_of, forecast_of, is_lawful, prospect_of, share_of}
use Rattle.contest.specs.declared.Prospect.{Prospect}
use Rattle.contest.specs.declared.Prospect.TheVariants.{First, Neither}

abbrev both : Prospect → Answer
both r = Ok (record { prospect = r; both = true })

abbrev one : Prospect → Answer
one r = Ok (record { prospect = r; both = false })

pub worked :
    (forecast_of 1 0 1 ≡ one First)
    × (forecast_of 2 0 2 ≡ one Neither)
    × (forecast_of 3 1 2 ≡ both First)
    × (forecast_of 4 1 3 ≡ one First)
    × (forecast_of 4 1 4 ≡ one Neither)
    × (forecast_of 6 1 5 ≡ one Neither)
    × (forecast_of 16 16 16 ≡ both First)
    × (forecast_of 0 0 0 ≡ Err NoContest)
    × (forecast_of 17 0 1 ≡ Err NoContest)
    × (forecast_of 4 5 1 ≡ Err NoContest)
    × (forecast_of 4 1 0 ≡ Err NoContest)
    × (forecast_of 4 1 5 ≡ Err NoContest)
unfolding forecast_of is_lawful prospect_of share_of both_of
worked = (refl, refl, refl, refl, refl, refl, refl, refl, refl, refl, refl, refl)
