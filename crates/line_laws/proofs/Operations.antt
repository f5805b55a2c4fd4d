-- Operation by operation.
use Rattle.frang_base.specs.declared.op.Op.{Op}
use Rattle.frang_base.specs.declared.op.Op.TheVariants as op
use Rattle.plan_laws.specs.NamesPlanned.{IsPlanned}
use Rattle.plan_laws.proofs.Making.{create_planned, mkdir_planned, symlink_planned}
use Rattle.plan_laws.proofs.Removing.{unlink_planned, rmdir_planned}
use Rattle.plan_laws.proofs.Linking.{link_planned}
use Rattle.plan_laws.proofs.Renaming.{rename_planned}
use Rattle.plan_laws.specs.FilesPlanned.{IsPlannedForFiles}
use Rattle.plan_laws.proofs.Looking.{stat_planned, readlink_planned, time_planned}
use Rattle.plan_laws.proofs.Listing.{list_planned}
use Rattle.plan_laws.proofs.Reading.{read_planned}
use Rattle.plan_laws.proofs.Truncating.{truncate_planned}
use Rattle.plan_laws.proofs.Writing.{write_planned, fill_planned}
use Rattle.plan_fit.proofs.Making.{create_fits, mkdir_fits, symlink_fits}
use Rattle.plan_fit.proofs.Linking.{link_fits}
use Rattle.plan_fit.proofs.Removing.{unlink_fits, rmdir_fits}
use Rattle.plan_fit.proofs.Renaming.{rename_fits}
use Rattle.plan_fit.proofs.Writing.{write_fits, fill_fits}
use Rattle.plan_fit.proofs.Cutting.{truncate_fits}
use Rattle.plan_fit.proofs.Looking.{read_fits, stat_fits, list_fits, readlink_fits, time_fits}
use Rattle.disk_definitions.specs.OnDisk.{StandsWhenPlanned}
use Rattle.disk_definitions.specs.FitPlans.{HasFitPlan}
use Rattle.line_laws.specs.Laws.{HasPath, PlansStand}
use Rattle.line_laws.proofs.AllPlans.{one_stands}

of_names : (o : Op) → IsPlanned o → HasFitPlan o → StandsWhenPlanned o
of_names o planned fit cached held all sectors tree birth when m allowed of below new small timely count =
    one_stands o (λ h s tree n birth when m of hand new files. planned h s tree n birth when m of hand new) fit cached held all sectors tree birth when m allowed of below new small timely count

of_files : (o : Op) → IsPlannedForFiles o → HasFitPlan o → StandsWhenPlanned o
of_files o planned fit cached held all sectors tree birth when m allowed of below new small timely count = one_stands o planned fit cached held all sectors tree birth when m allowed of below new small timely count

-- each has fit edits
pub all_fit : (o : Op) → HasPath o → HasFitPlan o
all_fit (op.Create path) p = create_fits path
all_fit (op.Mkdir path) p = mkdir_fits path
all_fit (op.Symlink path target) p = symlink_fits path target
all_fit (op.Link path to) p = link_fits path to
all_fit (op.Unlink path) p = unlink_fits path
all_fit (op.Rmdir path) p = rmdir_fits path
all_fit (op.Rename path to) p = rename_fits path to
all_fit (op.Write path off bytes) p = write_fits path off bytes
all_fit (op.Fill path off len byte) p = fill_fits path off len byte
all_fit (op.Truncate path len) p = truncate_fits path len
all_fit (op.Read path off len) p = read_fits path off len
all_fit (op.Stat path) p = stat_fits path
all_fit (op.List path) p = list_fits path
all_fit (op.Readlink path) p = readlink_fits path
all_fit (op.Time path) p = time_fits path
all_fit _ p = absurd p

pub all_stand : PlansStand
all_stand (op.Create path) p = of_names (op.Create path) (create_planned path) (create_fits path)
all_stand (op.Mkdir path) p = of_names (op.Mkdir path) (mkdir_planned path) (mkdir_fits path)
all_stand (op.Symlink path target) p = of_names (op.Symlink path target) (symlink_planned path target) (symlink_fits path target)
all_stand (op.Link path to) p = of_names (op.Link path to) (link_planned path to) (link_fits path to)
all_stand (op.Unlink path) p = of_names (op.Unlink path) (unlink_planned path) (unlink_fits path)
all_stand (op.Rmdir path) p = of_names (op.Rmdir path) (rmdir_planned path) (rmdir_fits path)
all_stand (op.Rename path to) p = of_names (op.Rename path to) (rename_planned path to) (rename_fits path to)
all_stand (op.Write path off bytes) p = of_files (op.Write path off bytes) (write_planned path off bytes) (write_fits path off bytes)
all_stand (op.Fill path off len byte) p = of_files (op.Fill path off len byte) (fill_planned path off len byte) (fill_fits path off len byte)
all_stand (op.Truncate path len) p = of_files (op.Truncate path len) (truncate_planned path len) (truncate_fits path len)
all_stand (op.Read path off len) p = of_names (op.Read path off len) (read_planned path off len) (read_fits path off len)
all_stand (op.Stat path) p = of_names (op.Stat path) (stat_planned path) (stat_fits path)
all_stand (op.List path) p = of_names (op.List path) (list_planned path) (list_fits path)
all_stand (op.Readlink path) p = of_names (op.Readlink path) (readlink_planned path) (readlink_fits path)
all_stand (op.Time path) p = of_names (op.Time path) (time_planned path) (time_fits path)
all_stand _ p = absurd p
