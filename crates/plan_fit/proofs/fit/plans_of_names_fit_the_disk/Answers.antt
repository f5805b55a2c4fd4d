-- Each by the changes of which it is composed.
use Rattle.plan_fit.proofs.Making.{create_fits, mkdir_fits, symlink_fits}
use Rattle.plan_fit.proofs.Linking.{link_fits}
use Rattle.plan_fit.proofs.Removing.{unlink_fits, rmdir_fits}
use Rattle.plan_fit.proofs.Renaming.{rename_fits}
use Rattle.plan_fit.proofs.fit.plans_of_names_fit_the_disk.Goals as goal

pub returns-clause-create : goal.returns-clause-create
returns-clause-create c = create_fits

pub returns-clause-mkdir : goal.returns-clause-mkdir
returns-clause-mkdir c = mkdir_fits

pub returns-clause-symlink : goal.returns-clause-symlink
returns-clause-symlink c = symlink_fits

pub returns-clause-link : goal.returns-clause-link
returns-clause-link c = link_fits

pub returns-clause-unlink : goal.returns-clause-unlink
returns-clause-unlink c = unlink_fits

pub returns-clause-rmdir : goal.returns-clause-rmdir
returns-clause-rmdir c = rmdir_fits

pub returns-clause-rename : goal.returns-clause-rename
returns-clause-rename c = rename_fits
