-- Each plan that walks a path goes by where the walk leads, through the directories that it passed.
use Rattle.std.proofs.Common.{ℕ, Bool, Result, Ok, Err, List, [], IfOk, sym}
use Rattle.disk_definitions.specs.Held.{Segments}
use Rattle.disk_definitions.specs.Walks.{Walked, walk}
use Rattle.disk_definitions.specs.Written.{Cached}
use Rattle.dir_lookup.specs.Reading.{Lacks, Gives}
use Rattle.dir_lookup.specs.declared.need.Need.{Need}
use Rattle.dir_lookup.specs.declared.spot.Spot.{Spot as CodeSpot}
use Rattle.dir_lookup.specs.Spots.{spot_of}
use Rattle.dir_lookup.specs.Passing.{PassesFrom}
use Rattle.dir_lookup.proofs.Searches.{goes_on}
use Rattle.plan_steps.specs.Spots.{FindsPassing, IsStanding}
use Rattle.plan_steps.proofs.Bounds.{walk_stands}
use Rattle.plan_steps.proofs.Leading.{code_directory}

module _ (cached : Cached) (held : Segments) (path : List (List ℕ)) (inode : ℕ) where
  pub finds_passing : (result : Result (CodeSpot × Bool) Need) → PassesFrom cached held 0 path inode [] result → FindsPassing cached held path inode result
  finds_passing (Ok p) f = (f.0, f.1, λ next. sym (goes_on (walk path) (λ w. next w.dirs w.spot) cached held (Gives (record { spot = spot_of p.0; dirs = f.0 })) (sym f.2)))
  finds_passing (Err need) f = λ next. sym (goes_on (walk path) (λ w. next w.dirs w.spot) cached held (Lacks need.0.0) (sym f))

  pub passing_stands : (result : Result (CodeSpot × Bool) Need) → PassesFrom cached held 0 path inode [] result → IfOk result (λ p. IsStanding p.0)
  passing_stands (Ok p) f =
      let w : Walked = record { spot = spot_of p.0; dirs = f.0 } in
      code_directory p.0 (walk_stands cached held w path [] 0 f.2)
  passing_stands (Err need) f = tt
