-- The plan of each operation tells what it does.
use Rattle.std.proofs.Common.{ℕ, ◌≡◌, true, false, [], refl}
use Rattle.frang_base.specs.declared.op.Op.{Op}
use Rattle.frang_base.specs.declared.op.Op.TheVariants as op
use Rattle.tree_definitions.specs.declared.node.Node.TheVariants.{Dir, File, Link}
use Rattle.tree_definitions.specs.Tree.{FileTree}
use Rattle.tree_definitions.specs.Apply.{Applied, apply}
use Rattle.tree_definitions.specs.Removal.{writes_file}
use Rattle.tree_definitions.specs.WellFormed.{IsNew}
use Rattle.tree_laws.specs.Refusals.{is_look}
use Rattle.tree_laws.proofs.Refusals.{looks_leave}
use Rattle.disk_definitions.specs.Store.{Store}
use Rattle.disk_definitions.specs.Naming.{Naming}
use Rattle.disk_definitions.specs.Ask.{run}
use Rattle.disk_definitions.specs.Plans.{Hand, Plan, Lacks, Clears, Finishes}
use Rattle.disk_definitions.specs.PlanOf.{plan_of}
use Rattle.disk_definitions.specs.Meets.{IsOfTree, IsHandOf}
use Rattle.plan_laws.proofs.Making.{create_planned, mkdir_planned, symlink_planned}
use Rattle.plan_laws.proofs.Linking.{link_planned}
use Rattle.plan_laws.proofs.Removing.{unlink_planned, rmdir_planned}
use Rattle.plan_laws.proofs.Renaming.{rename_planned}
use Rattle.line_laws.proofs.Telling.{Stays, PlanTells, by_answer}
use Rattle.line_laws.proofs.Making.{plan_made_tells, plan_linked_tells}
use Rattle.line_laws.proofs.Removing.{plan_unlinked_tells, plan_dir_removed_tells}
use Rattle.line_laws.proofs.Renaming.{plan_renamed_tells}
use Rattle.line_laws.proofs.Filing.{HasNoEdits, described_none, timed_none, listed_none, target_none, read_none, file_tells, truncated_dates, written_tells, filled_tells}

-- a plan without edits, of an operation that leaves the tree
look_tells : (tree : FileTree) (a : Applied) (s : Store) (p : Plan) → a.tree ≡ tree → HasNoEdits p → PlanTells false tree a s p
look_tells tree a s Lacks left none = tt
look_tells tree a s (Clears block locks) left none = tt
look_tells tree a s (Finishes f) left none = Stays refl none left

module _ (h : Hand) (s : Store) (tree : FileTree) (n : Naming) (of : IsOfTree s tree n) (hand : IsHandOf h s tree.segments) (birth : ℕ) (new : IsNew tree birth) (when m : ℕ) where
  abbrev Told : Op → Type 0
  Told o = PlanTells (writes_file o) tree (apply tree o birth when m) s (run (plan_of h birth when o) s)

  look_told : (o : Op) → is_look o ≡ true → writes_file o ≡ false → HasNoEdits (run (plan_of h birth when o) s) → PlanTells false tree (apply tree o birth when m) s (run (plan_of h birth when o) s)
  look_told o look plain none = look_tells tree (apply tree o birth when m) s (run (plan_of h birth when o) s) (looks_leave tree o birth when m look) none

  pub all_told : (o : Op) → Told o
  all_told (op.Create path) =
      by_answer h tree n _ s (run (plan_of h birth when (op.Create path)) s) (create_planned path h s tree n birth when m of hand new) (plan_made_tells h s tree n of birth (File [] 1 0) path)
  all_told (op.Mkdir path) =
      by_answer h tree n _ s (run (plan_of h birth when (op.Mkdir path)) s) (mkdir_planned path h s tree n birth when m of hand new) (plan_made_tells h s tree n of birth (Dir [] 0) path)
  all_told (op.Symlink path target) =
      by_answer h tree n _ s (run (plan_of h birth when (op.Symlink path target)) s) (symlink_planned path target h s tree n birth when m of hand new) (plan_made_tells h s tree n of birth (Link target 1) path)
  all_told (op.Link path to) =
      by_answer h tree n _ s (run (plan_of h birth when (op.Link path to)) s) (link_planned path to h s tree n birth when m of hand new) (plan_linked_tells h s tree n of path to)
  all_told (op.Unlink path) =
      by_answer h tree n _ s (run (plan_of h birth when (op.Unlink path)) s) (unlink_planned path h s tree n birth when m of hand new) (plan_unlinked_tells s tree n of path)
  all_told (op.Rmdir path) =
      by_answer h tree n _ s (run (plan_of h birth when (op.Rmdir path)) s) (rmdir_planned path h s tree n birth when m of hand new) (plan_dir_removed_tells s tree n of path)
  all_told (op.Rename path to) =
      by_answer h tree n _ s (run (plan_of h birth when (op.Rename path to)) s) (rename_planned path to h s tree n birth when m of hand new) (plan_renamed_tells h s tree n of path to)
  all_told (op.Write path off bytes) = file_tells tree _ s (run (plan_of h birth when (op.Write path off bytes)) s) (written_tells s h when path off bytes)
  all_told (op.Fill path off len byte) = file_tells tree _ s (run (plan_of h birth when (op.Fill path off len byte)) s) (filled_tells s h when path off len byte)
  all_told (op.Truncate path len) = file_tells tree _ s (run (plan_of h birth when (op.Truncate path len)) s) (truncated_dates s when path len)
  all_told (op.Read path off len) = look_told (op.Read path off len) refl refl (read_none s path off len)
  all_told (op.Stat path) = look_told (op.Stat path) refl refl (described_none s path)
  all_told (op.List path) = look_told (op.List path) refl refl (listed_none s path)
  all_told (op.Readlink path) = look_told (op.Readlink path) refl refl (target_none s path)
  all_told (op.Time path) = look_told (op.Time path) refl refl (timed_none s path)
  all_told op.Sync = Stays refl refl refl
  all_told op.Mount = Stays refl refl refl
  all_told op.Unmount = Stays refl refl refl
  all_told op.Crash = Stays refl refl refl
  all_told (op.CrashAt k) = Stays refl refl refl
  all_told (op.CutAt k) = Stays refl refl refl
  all_told op.Stall = Stays refl refl refl
