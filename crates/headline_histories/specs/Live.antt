-- The history that the lines said tell is legal, and what must be kept is kept: the second part of the headline.
use Rattle.std.specs.Prelude.{ℕ, List}
use Rattle.tree_definitions.specs.Removal.{IsLegal, Keeps}
use Rattle.sector_world.specs.World.{World}
use Rattle.core_definitions.specs.Runs.{State as RunMoment}
use Rattle.headline_definitions.specs.Beginning.{Beginning}
use Rattle.headline_definitions.specs.Headline.{live}
use Rattle.headline_definitions.specs.Witnessed.{Witnessed}
use Rattle.headline_histories.specs.Moments.{IsMomentOf, witnessed_to}

-- as the headline says it
pub record LiveIsKept (b : Beginning) (witnessed : List Witnessed) : Type 0 where
  pub live_legal : IsLegal b.opening (live b witnessed)
  pub live_kept : Keeps b.opening (live b witnessed)

-- so it is at each moment of a run
abbrev pub MomentsKeepTheLive : Type 0
MomentsKeepTheLive = (b : Beginning) (s : RunMoment) (w : World) (when : ℕ → ℕ) (numbers : List ℕ) (m : IsMomentOf b s w when numbers) → LiveIsKept b (witnessed_to b s m.run)
