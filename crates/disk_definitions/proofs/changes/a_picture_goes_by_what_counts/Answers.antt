-- By the lemmas over plain variables.
use Rattle.disk_definitions.proofs.Counts.{files_fit, pictures_go_by_what_counts}
use Rattle.disk_definitions.proofs.changes.a_picture_goes_by_what_counts.Goals as goal

pub returns-clause-counts : goal.returns-clause-counts
returns-clause-counts c = pictures_go_by_what_counts

pub returns-clause-fit : goal.returns-clause-fit
returns-clause-fit c = files_fit
