-- Each by the changes of which it is composed.
use Rattle.plan_laws.proofs.Making.{create_planned, mkdir_planned, symlink_planned}
use Rattle.plan_laws.proofs.Removing.{unlink_planned, rmdir_planned}
use Rattle.plan_laws.proofs.Linking.{link_planned}
use Rattle.plan_laws.proofs.Renaming.{rename_planned}
use Rattle.plan_laws.proofs.meeting.names_are_planned_as_the_tree_has_them.Goals as goal

pub returns-clause-create : goal.returns-clause-create
returns-clause-create c = create_planned

pub returns-clause-mkdir : goal.returns-clause-mkdir
returns-clause-mkdir c = mkdir_planned

pub returns-clause-symlink : goal.returns-clause-symlink
returns-clause-symlink c = symlink_planned

pub returns-clause-unlink : goal.returns-clause-unlink
returns-clause-unlink c = unlink_planned

pub returns-clause-rmdir : goal.returns-clause-rmdir
returns-clause-rmdir c = rmdir_planned

pub returns-clause-link : goal.returns-clause-link
returns-clause-link c = link_planned

pub returns-clause-rename : goal.returns-clause-rename
returns-clause-rename c = rename_planned
