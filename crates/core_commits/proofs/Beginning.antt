-- The first moment of a run is one of a run of lines: nothing has happened.
use Rattle.core_definitions.specs.Runs.Run.{Stays}
use Rattle.core_world.specs.Events.{FirstMomentsAreGood, FirstMomentsAreWorlds}
use Rattle.core_commits.specs.Moments.{FirstMomentsAreOfARun}

pub begins : FirstMomentsAreWorlds → FirstMomentsAreGood → FirstMomentsAreOfARun
begins worlds good bytes script segments number disk logged of_files home journal when first_tree numbers read whole zero times stands follows parameters = record {
  reached = record { bytes = bytes; script = script; read = read; segments = segments; number = number; disk = disk; run = Stays };
  whole = whole;
  world = worlds _ disk logged of_files home journal zero;
  good = good disk logged of_files home;
  zeros = λ a s free. tt;
  lines = record { times = times; stands = stands; legal = record { live = tt; left = tt }; distinct = tt; follows = follows; parameters = parameters };
  sets = λ a under e. absurd (cc);
}
