-- Runs of the theorem on sectors, one behind the other.
use Rattle.std.proofs.Common.{◌≡◌, List, [], ◌∷◌, ◌++◌, refl}
use Rattle.sector_world.specs.Steps.{Event, Run, after}
use Rattle.sector_world.specs.Steps.Run.{goes, stays}
use Rattle.sector_world.specs.World.{World}

pub run_on : (w : World) (events : List Event) (u : World) → Run w events u → (others : List Event) (v : World) → Run u others v → Run w (events ++ others) v
run_on w [] u stays others v more = more
run_on w (event ∷ events) u (goes can rest) others v more = goes can (run_on (after w event) events u rest others v more)

-- a run leads to one world
pub one_end : (w : World) (events : List Event) (u v : World) → Run w events u → Run w events v → u ≡ v
one_end w [] u v stays stays = refl
one_end w (event ∷ events) u v (goes can rest) (goes may more) = one_end (after w event) events u v rest more
