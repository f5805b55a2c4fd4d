-- By the lemmas on changed blocks.
use Rattle.std.proofs.Common.{refl, ◌∙◌}
use Rattle.sector_bytes.specs.Changes.{changed}
use Rattle.sector_bytes.proofs.ChangeLaws.{length-fit, length-changed, version-changed, head-changed, spelling_is, well_formed}
use Rattle.sector_bytes.proofs.what_a_change_makes.Goals as goal

pub returns-clause-fit : goal.returns-clause-fit
returns-clause-fit c = length-fit

pub returns-clause-length : goal.returns-clause-length
returns-clause-length c = length-changed

pub returns-clause-version : goal.returns-clause-version
returns-clause-version c = version-changed

pub returns-clause-head : goal.returns-clause-head
returns-clause-head c = λ block change e. head-changed block change ∙ spelling_is change.version (well_formed change e).version

pub returns-clause-rest : goal.returns-clause-rest
unfolding changed
returns-clause-rest c = λ block change. refl
