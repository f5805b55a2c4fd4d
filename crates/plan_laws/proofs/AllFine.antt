-- The locks of each plan cover what it looks at and edits, over the disk of a tree.
use Rattle.std.proofs.Common.{ℕ, ◌≡◌, ◌<◌, ◌-◌, ⊎_elim, List, [], ◌∷◌, ◌++◌, length, slice_index, subst, arith}
use Rattle.std.specs.List.{Contains}
use Rattle.frang_base.specs.declared.op.Op.{Op}
use Rattle.frang_base.specs.declared.op.Op.TheVariants as op
use Rattle.frang_base.specs.declared.reply.Reply.TheVariants as reply
use Rattle.tree_definitions.specs.declared.node.Node.TheVariants.{Dir, File, Link}
use Rattle.disk_definitions.specs.Store.{Store}
use Rattle.disk_definitions.specs.Naming.{Naming}
use Rattle.disk_definitions.specs.Edits.{Edit}
use Rattle.disk_definitions.specs.Edits.Edit.{SetInode, SetBit, SetUse, SetPlace, SetLarge, SetBytes, SetLargeBytes}
use Rattle.disk_definitions.specs.Ask.{run}
use Rattle.disk_definitions.specs.Walks.{walk}
use Rattle.disk_definitions.specs.Plans.{Hand, Lock, Finish}
use Rattle.disk_definitions.specs.Plans.Plan.{Finishes}
use Rattle.disk_definitions.specs.LookPlans.{described, timed}
use Rattle.disk_definitions.specs.PlanOf.{plan_of}
use Rattle.plan_laws.specs.Locks.{IsSole}
use Rattle.plan_laws.proofs.Covering.{has_cases}
use Rattle.plan_laws.specs.Looked.{edited_at}
use Rattle.disk_definitions.specs.Covers.{cover_of}
use Rattle.plan_laws.specs.Covers.{EditsAreCovered, LooksAreCovered, BytesKeepOffDirectories}
use Rattle.plan_laws.proofs.Standing.{DiskStands, disk_stands}
use Rattle.plan_laws.proofs.Fine.{EditFits, EditsFit, PlanFits, Fine, refuse_fine}
use Rattle.plan_laws.proofs.NamesFine.{made_path_fine, link_dirs, link_fine, unlink_fine, removed_dir, rmdir_fine}
use Rattle.plan_laws.proofs.RenamesFine.{rename_touched, rename_fine}
use Rattle.plan_laws.proofs.Targets.{any_kind, is_kind}
use Rattle.plan_laws.proofs.TargetsFine.{node_touched, write_fine, truncate_fine, read_fine, show_fine, list_fine, readlink_fine}

module _ (h : Hand) (s : Store) (n : Naming) (disk : DiskStands h s n) where
  -- the inodes of the nodes that a plan touches as it walks, of whatever reply
  abbrev pub touched : Op → List ℕ
  touched (op.Create path) = (run (walk path) s).dirs
  touched (op.Mkdir path) = (run (walk path) s).dirs
  touched (op.Symlink path target) = (run (walk path) s).dirs
  touched (op.Link path to) = (run (walk path) s).dirs ++ link_dirs h s n disk to (run (walk path) s).spot
  touched (op.Unlink path) = (run (walk path) s).dirs
  touched (op.Rmdir path) = (run (walk path) s).dirs ++ removed_dir h s n disk (run (walk path) s).spot
  touched (op.Rename path to) = rename_touched h s n disk path to
  touched (op.Write path off bytes) = node_touched h s n disk (is_kind 1) path
  touched (op.Fill path off len byte) = node_touched h s n disk (is_kind 1) path
  touched (op.Truncate path len) = node_touched h s n disk (is_kind 1) path
  touched (op.Read path off len) = node_touched h s n disk (is_kind 1) path
  touched (op.Stat path) = node_touched h s n disk any_kind path
  touched (op.Time path) = node_touched h s n disk any_kind path
  touched (op.List path) = node_touched h s n disk (is_kind 2) path
  touched (op.Readlink path) = node_touched h s n disk (is_kind 3) path
  touched _ = []

  pub plan_fine : (o : Op) (birth when : ℕ) → Fine h s n (touched o) (plan_of h birth when o)
  plan_fine (op.Create path) birth when = made_path_fine h s n disk birth (File [] 1 0) path
  plan_fine (op.Mkdir path) birth when = made_path_fine h s n disk birth (Dir [] 0) path
  plan_fine (op.Symlink path target) birth when = made_path_fine h s n disk birth (Link target 1) path
  plan_fine (op.Link path to) birth when = link_fine h s n disk path to
  plan_fine (op.Unlink path) birth when = unlink_fine h s n disk path
  plan_fine (op.Rmdir path) birth when = rmdir_fine h s n disk path
  plan_fine (op.Rename path to) birth when = rename_fine h s n disk path to
  plan_fine (op.Write path off bytes) birth when = write_fine h s n disk (record { off = off; len = length bytes; when = when; byte = λ j. slice_index bytes (j - off) }) path
  plan_fine (op.Fill path off len byte) birth when = write_fine h s n disk (record { off = off; len = len; when = when; byte = λ j. byte }) path
  plan_fine (op.Truncate path len) birth when = truncate_fine h s n disk when path len
  plan_fine (op.Read path off len) birth when = read_fine h s n disk path off len
  plan_fine (op.Stat path) birth when = show_fine h s n disk described path
  plan_fine (op.Time path) birth when = show_fine h s n disk timed path
  plan_fine (op.List path) birth when = list_fine h s n disk path
  plan_fine (op.Readlink path) birth when = readlink_fine h s n disk path
  plan_fine op.Sync birth when = refuse_fine h s n [] [] reply.Ok (λ i c. c)
  plan_fine op.Mount birth when = refuse_fine h s n [] [] reply.Ok (λ i c. c)
  plan_fine op.Unmount birth when = refuse_fine h s n [] [] reply.Ok (λ i c. c)
  plan_fine op.Crash birth when = refuse_fine h s n [] [] reply.Ok (λ i c. c)
  plan_fine (op.CrashAt k) birth when = refuse_fine h s n [] [] reply.Ok (λ i c. c)
  plan_fine (op.CutAt k) birth when = refuse_fine h s n [] [] reply.Ok (λ i c. c)
  plan_fine op.Stall birth when = refuse_fine h s n [] [] reply.Ok (λ i c. c)

  each : (locks : List Lock) (es : List Edit) (e : Edit) → EditsFit h s n locks es → Contains es e → EditFits h s n locks e
  each locks [] e a c = absurd (let z : c.0 < 0 = c.1 in omega arith)
  each locks (d ∷ es) e a c = ⊎_elim (λ q. subst (EditFits h s n locks) q a.0) (λ i. each locks es e a.1 i) (has_cases d e es c)

  edit_fits : (o : Op) (birth when : ℕ) (f : Finish) → run (plan_of h birth when o) s ≡ Finishes f → (e : Edit) → Contains f.edits e → EditFits h s n f.locks e
  edit_fits o birth when f p e c = each f.locks f.edits e (subst (PlanFits h s n) p (plan_fine o birth when).edits) c

  one : (locks : List Lock) (e : Edit) → EditFits h s n locks e → IsSole locks (cover_of n (edited_at e))
  one locks (SetInode i x dated) c = c
  one locks (SetBit i b) c = c
  one locks (SetUse k u) c = c
  one locks (SetPlace k p e) c = c
  one locks (SetLarge g b) c = c
  one locks (SetBytes k part bytes) c = c.0
  one locks (SetLargeBytes g part bytes) c = c

pub edits_are_covered : EditsAreCovered
edits_are_covered o h s tree n birth when f of hand p e c = let disk = disk_stands h s tree n of hand in one h s n disk f.locks e (edit_fits h s n disk o birth when f p e c)

pub looks_are_covered : LooksAreCovered
looks_are_covered o h s tree n birth when of hand x c = (plan_fine h s n (disk_stands h s tree n of hand) o birth when).looks x c

pub bytes_keep_off : BytesKeepOffDirectories
bytes_keep_off o h s tree n birth when f of hand p k part bytes c = (edit_fits h s n (disk_stands h s tree n of hand) o birth when f p (SetBytes k part bytes) c).1
