-- A prefix of what is witnessed along a run.
use Rattle.std.specs.Prelude.{◌≡◌, ℕ, take}
use Rattle.core_definitions.specs.Runs.{State as RunMoment, Run}
use Rattle.headline_definitions.specs.Runs.{witnessed_in}

-- a run comes by a moment before which the first so many of what it witnesses were witnessed, or all, and goes on to its end
pub record RunsThrough (s w : RunMoment) (run : Run s w) (k : ℕ) : Type 0 where
  pub moment : RunMoment
  pub before : Run s moment
  pub behind : Run moment w
  pub witnessed : witnessed_in s moment before ≡ take k (witnessed_in s w run)

-- so each prefix of what is witnessed along a run is what is witnessed along a run
abbrev pub EachPrefixIsWitnessed : Type 0
EachPrefixIsWitnessed = (s w : RunMoment) (run : Run s w) (k : ℕ) → RunsThrough s w run k
