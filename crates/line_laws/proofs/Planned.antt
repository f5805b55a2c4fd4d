-- The plan of a line meets what the tree performs.
use Rattle.std.proofs.Common.{ℕ, List, [], map, sym, subst}
use Rattle.frang_base.specs.declared.op.Op.{Op}
use Rattle.frang_base.specs.declared.op.Op.TheVariants as op
use Rattle.frang_base.specs.declared.reply.Reply.TheVariants as reply
use Rattle.tree_definitions.specs.Tree.{FileTree}
use Rattle.tree_definitions.specs.Apply.{Applied}
use Rattle.tree_definitions.specs.Perform.{Step, Goes, Stops, perform_step, resolved}
use Rattle.tree_definitions.specs.WellFormed.{IsNew}
use Rattle.disk_definitions.specs.Store.{Store}
use Rattle.disk_definitions.specs.Naming.{Naming}
use Rattle.disk_definitions.specs.Plans.{Hand, Plan, Lacks, Clears, Finishes}
use Rattle.disk_definitions.specs.Meets.{IsOfTree, IsHandOf}
use Rattle.plan_laws.specs.FilesPlanned.{HasFiles, IsPlannedForFiles}
use Rattle.plan_laws.specs.Keeping.{PlanKeeps}
use Rattle.plan_laws.proofs.Making.{create_planned, mkdir_planned, symlink_planned}
use Rattle.plan_laws.proofs.Removing.{unlink_planned, rmdir_planned}
use Rattle.plan_laws.proofs.Linking.{link_planned}
use Rattle.plan_laws.proofs.Renaming.{rename_planned}
use Rattle.plan_laws.proofs.Looking.{stat_planned, readlink_planned, time_planned}
use Rattle.plan_laws.proofs.Listing.{list_planned}
use Rattle.plan_laws.proofs.Reading.{read_planned}
use Rattle.plan_laws.proofs.Truncating.{truncate_planned}
use Rattle.plan_laws.proofs.Writing.{write_planned, fill_planned}
use Rattle.plan_laws.proofs.Refusing.{refuse_meets}
use Rattle.disk_definitions.specs.Lines.{with_trail}
use Rattle.line_laws.specs.Planned.{LinesArePlannedAsTheTreePerforms}
use Rattle.line_laws.proofs.Running.{step_plan, run_performed}

-- every operation over paths without links is planned
pub all_planned : (o : Op) → IsPlannedForFiles o
all_planned (op.Create path) h s tree n birth when m of hand new files = create_planned path h s tree n birth when m of hand new
all_planned (op.Mkdir path) h s tree n birth when m of hand new files = mkdir_planned path h s tree n birth when m of hand new
all_planned (op.Symlink path target) h s tree n birth when m of hand new files = symlink_planned path target h s tree n birth when m of hand new
all_planned (op.Link path to) h s tree n birth when m of hand new files = link_planned path to h s tree n birth when m of hand new
all_planned (op.Unlink path) h s tree n birth when m of hand new files = unlink_planned path h s tree n birth when m of hand new
all_planned (op.Rmdir path) h s tree n birth when m of hand new files = rmdir_planned path h s tree n birth when m of hand new
all_planned (op.Rename path to) h s tree n birth when m of hand new files = rename_planned path to h s tree n birth when m of hand new
all_planned (op.Write path off bytes) h s tree n birth when m of hand new files = write_planned path off bytes h s tree n birth when m of hand new files
all_planned (op.Fill path off len byte) h s tree n birth when m of hand new files = fill_planned path off len byte h s tree n birth when m of hand new files
all_planned (op.Truncate path len) h s tree n birth when m of hand new files = truncate_planned path len h s tree n birth when m of hand new files
all_planned (op.Read path off len) h s tree n birth when m of hand new files = read_planned path off len h s tree n birth when m of hand new
all_planned (op.Stat path) h s tree n birth when m of hand new files = stat_planned path h s tree n birth when m of hand new
all_planned (op.List path) h s tree n birth when m of hand new files = list_planned path h s tree n birth when m of hand new
all_planned (op.Readlink path) h s tree n birth when m of hand new files = readlink_planned path h s tree n birth when m of hand new
all_planned (op.Time path) h s tree n birth when m of hand new files = time_planned path h s tree n birth when m of hand new
all_planned op.Sync h s tree n birth when m of hand new files = refuse_meets h s tree n of reply.Ok []
all_planned op.Mount h s tree n birth when m of hand new files = refuse_meets h s tree n of reply.Ok []
all_planned op.Unmount h s tree n birth when m of hand new files = refuse_meets h s tree n of reply.Ok []
all_planned op.Crash h s tree n birth when m of hand new files = refuse_meets h s tree n of reply.Ok []
all_planned (op.CrashAt k) h s tree n birth when m of hand new files = refuse_meets h s tree n of reply.Ok []
all_planned (op.CutAt k) h s tree n birth when m of hand new files = refuse_meets h s tree n of reply.Ok []
all_planned op.Stall h s tree n birth when m of hand new files = refuse_meets h s tree n of reply.Ok []

-- more locks do no harm
trail_meets : (h : Hand) (s : Store) (tree : FileTree) (n : Naming) (a : Applied) (trail : List ℕ) (p : Plan) → PlanKeeps h s tree n a p → PlanKeeps h s tree n a (with_trail trail p)
trail_meets h s tree n a trail Lacks m = m
trail_meets h s tree n a trail (Clears k locks) m = m
trail_meets h s tree n a trail (Finishes f) m = record { meets = record { answer = m.meets.answer; naming = m.meets.naming; tree = m.meets.tree }; inodes = m.inodes }

step_meets : (h : Hand) (s : Store) (tree : FileTree) (n : Naming) (birth when m : ℕ) → IsOfTree s tree n → IsHandOf h s tree.segments → IsNew tree birth → HasFiles s tree m →
    (trail : List ℕ) (step : Step) → PlanKeeps h s tree n (perform_step tree step birth when m) (step_plan h s birth when trail step)
step_meets h s tree n birth when m of hand new files trail (Goes o) = trail_meets h s tree n _ trail _ (all_planned o h s tree n birth when m of hand new files)
step_meets h s tree n birth when m of hand new files trail (Stops r) = refuse_meets h s tree n of r trail

pub lines_planned : LinesArePlannedAsTheTreePerforms
lines_planned o h s tree n birth when m of hand new files =
    let w = resolved tree o in
    subst (PlanKeeps h s tree n (perform_step tree w.step birth when m)) (sym (run_performed h s birth when tree n of o)) (step_meets h s tree n birth when m of hand new files (map n.inode w.trail) w.step)
