-- By the bounds of the disk.
use Rattle.code_plan_laws.proofs.Versions.{next_versions, holds_segments}
use Rattle.code_plan_laws.proofs.code.what_is_changed_has_a_next_version.Goals as goal

pub returns-clause-versions : goal.returns-clause-versions
returns-clause-versions c = next_versions

pub returns-clause-segments : goal.returns-clause-segments
returns-clause-segments c = holds_segments
