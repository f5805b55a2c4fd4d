-- A plan that walks a path ends as the walk does, or goes on from where it leads.
use Rattle.std.proofs.Common.{◌≡◌, ℕ, Result, Ok, Err, List, subst, sym}
use Rattle.disk_definitions.specs.Ask.{Ask, bind}
use Rattle.disk_definitions.specs.Walks.{Spot, walk}
use Rattle.disk_definitions.specs.Plans.{Plan}
use Rattle.dir_lookup.specs.declared.hand.Hand.{Hand}
use Rattle.dir_lookup.specs.declared.spot.Spot.{Spot as CodeSpot}
use Rattle.dir_lookup.specs.Hands.{over}
use Rattle.dir_lookup.specs.Spots.{spot_of}
use Rattle.plan_steps.specs.declared.edit.Outcome.{Outcome}
use Rattle.plan_steps.specs.declared.stop.Stop.{Stop}
use Rattle.plan_steps.specs.Ends.{Comes}
use Rattle.plan_steps.specs.Spots.{FindsSpot}
use Rattle.plan_steps.proofs.Ending.{comes_as, spot_stops}

module _ (hand : Hand) (path : List (List ℕ)) (next : List ℕ → Spot → Ask Plan) (r : Result Outcome Stop) where
  pub walk_stops : (e : Stop) → r ≡ Err e → FindsSpot hand.sectors.now.entries hand.held.now path (Err e) → Comes (over (bind (walk path) (λ w. next w.dirs w.spot)) hand) r
  walk_stops e o f =
      subst (Comes (over (bind (walk path) (λ w. next w.dirs w.spot)) hand)) (sym o) (spot_stops hand.sectors.now.entries hand.held.now path next e f)

  pub walk_goes : (s : CodeSpot) → FindsSpot hand.sectors.now.entries hand.held.now path (Ok s) → ((dirs : List ℕ) → Comes (over (next dirs (spot_of s)) hand) r)
      → Comes (over (bind (walk path) (λ w. next w.dirs w.spot)) hand) r
  walk_goes s f g = comes_as (over (bind (walk path) (λ w. next w.dirs w.spot)) hand) (over (next f.0 (spot_of s)) hand) r (f.1 next) (g f.0)
