-- One search behind another, and the same search by other words.
use Rattle.std.proofs.Common.{◌≡◌, ℕ, Option, Some, None, subst}
use Rattle.core_definitions.specs.Cores.{Core}
use Rattle.hall_runs.specs.Asking.{event_of}
use Rattle.hall_runs.specs.declared.event.Event.{Event}
use Rattle.world_state.specs.States.{State}
use Rattle.world_next.specs.Picking.{Picks, PicksBeside, PicksOf}
use Rattle.world_next.proofs.Together.{besides}

-- where the last of several searches finds nothing, all of them did
pub picks_more : (c : Core) (Less More : Core → Type 0) (result : Option Event) → (Less c → More c) → PicksBeside c Less result → PicksBeside c More result
picks_more c Less More None widen none = widen none
picks_more c Less More (Some event) widen can = can

-- the same, where what is picked may be any event
pub picks_any : (c : Core) (Less More : Core → Type 0) (result : Option Event) → (Less c → More c) → PicksBeside c Less result → Picks c More result
picks_any c Less More None widen none = widen none
picks_any c Less More (Some event) widen can = (besides c (event_of event) can).going

-- of the same world and of the same server
pub picks_same : (s t : State) (a b : ℕ) (NoneIs : Core → ℕ → Type 0) (result : Option Event) → s ≡ t → a ≡ b → PicksOf s (λ c. NoneIs c a) result → PicksOf t (λ c. NoneIs c b) result
picks_same s t a b NoneIs result world number picks = subst (λ (w : State). PicksOf w (λ c. NoneIs c b) result) world (subst (λ (n : ℕ). PicksOf s (λ c. NoneIs c n) result) number picks)
