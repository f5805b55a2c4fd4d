-- A step adds one at most.
use Rattle.headline_runs.proofs.Prefixes.{prefixes_have_faults}
use Rattle.headline_runs.proofs.each_prefix_has_its_faults.Goals as goal

pub returns : goal.returns
returns c = record { through = prefixes_have_faults }
