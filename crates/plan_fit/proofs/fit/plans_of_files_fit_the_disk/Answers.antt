-- By what the plans come to.
use Rattle.plan_fit.proofs.Writing.{write_fits, fill_fits}
use Rattle.plan_fit.proofs.Cutting.{truncate_fits}
use Rattle.plan_fit.proofs.Looking.{read_fits, stat_fits, list_fits, readlink_fits, time_fits}
use Rattle.plan_fit.proofs.fit.plans_of_files_fit_the_disk.Goals as goal

pub returns-clause-write : goal.returns-clause-write
returns-clause-write c = write_fits

pub returns-clause-fill : goal.returns-clause-fill
returns-clause-fill c = fill_fits

pub returns-clause-truncate : goal.returns-clause-truncate
returns-clause-truncate c = truncate_fits

pub returns-clause-read : goal.returns-clause-read
returns-clause-read c = read_fits

pub returns-clause-stat : goal.returns-clause-stat
returns-clause-stat c = stat_fits

pub returns-clause-list : goal.returns-clause-list
returns-clause-list c = list_fits

pub returns-clause-readlink : goal.returns-clause-readlink
returns-clause-readlink c = readlink_fits

pub returns-clause-time : goal.returns-clause-time
returns-clause-time c = time_fits
