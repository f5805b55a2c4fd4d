-- Over the disk of a tree a line looks only at sectors of blocks that are a directory's, or become one's and are known to be zero.
use Rattle.std.proofs.Common.{◌≡◌, ◌-◌, ◌==◌, ℕ, ⊎_elim, Bool, true, false, List, [], ◌∷◌, length, slice_index, if◌then◌else◌, refl, sym, subst}
use Rattle.std.specs.List.{Contains}
use Rattle.frang_base.specs.declared.op.Op.{Op}
use Rattle.frang_base.specs.declared.op.Op.TheVariants as op
use Rattle.frang_base.specs.declared.reply.Reply.TheVariants as reply
use Rattle.tree_definitions.specs.declared.node.Node.TheVariants.{Dir, File, Link}
use Rattle.tree_definitions.specs.Perform.{Step, Goes, Stops, resolved as tree_resolved}
use Rattle.tree_definitions.specs.Tree.{FileTree}
use Rattle.disk_definitions.specs.Store.{Store}
use Rattle.disk_definitions.specs.Naming.{Naming}
use Rattle.disk_definitions.specs.Ask.{Sector, looks}
use Rattle.disk_definitions.specs.Walks.{Target}
use Rattle.disk_definitions.specs.Plans.{Hand, refused}
use Rattle.disk_definitions.specs.PlanOf.{plan_of}
use Rattle.disk_definitions.specs.Lines.{plan_of_line, resolved}
use Rattle.disk_definitions.specs.LookPlans.{at_inode, described, timed, listing}
use Rattle.disk_definitions.specs.FilePlans.{Writing, writing, cutting, showing}
use Rattle.disk_definitions.specs.Meets.{IsOfTree, IsHandOf}
use Rattle.plan_laws.proofs.Covering.{has_cases, not_in_none}
use Rattle.plan_laws.proofs.WalksFine.{kind_two}
use Rattle.line_laws.proofs.Running.{step_looks, looks_performed}
use Rattle.line_sectors.specs.Looks.{IsOfDirectory, LinesLookAtDirectories}
use Rattle.line_sectors.proofs.Walks.{AreOfDirectories, both_of}
use Rattle.line_sectors.proofs.Names.{made_of, unlinked_of, removed_of, linked_of, renamed_of}
use Rattle.line_sectors.proofs.Trails.{resolved_all}
use Rattle.line_sectors.proofs.Files.{IsTarget, node_then, inode_then, list_then, file_then, writing_of, cutting_of, showing_of}

module _ (h : Hand) (s : Store) (tree : FileTree) (n : Naming) (of : IsOfTree s tree n) (hand : IsHandOf h s tree.segments) (birth when : ℕ) where
  abbrev All : List Sector → Type 0
  All = AreOfDirectories h s

  all_of : (o : Op) → All (looks (plan_of h birth when o) s)
  all_of (op.Create path) = made_of h s tree n of hand birth (File [] 1 0) path
  all_of (op.Mkdir path) = made_of h s tree n of hand birth (Dir [] 0) path
  all_of (op.Symlink path target) = made_of h s tree n of hand birth (Link target 1) path
  all_of (op.Link path to) = linked_of h s tree n of hand path to
  all_of (op.Unlink path) = unlinked_of h s tree n of hand path
  all_of (op.Rmdir path) = removed_of h s tree n of hand path
  all_of (op.Rename path to) = renamed_of h s tree n of hand path to
  all_of (op.Write path off bytes) = let w : Writing = record { off = off; len = length bytes; when = when; byte = λ j. slice_index bytes (j - off) } in file_then h s tree n of path (writing h w) (writing_of h s w)
  all_of (op.Fill path off len byte) = let w : Writing = record { off = off; len = len; when = when; byte = λ j. byte } in file_then h s tree n of path (writing h w) (writing_of h s w)
  all_of (op.Truncate path len) = file_then h s tree n of path (cutting when len) (cutting_of h s when len)
  all_of (op.Read path off len) = file_then h s tree n of path (showing off len) (showing_of h s off len)
  all_of (op.Stat path) = node_then h s tree n of path (at_inode (λ touched x. refused (described x) touched)) (λ t is. inode_then h s tree n of (λ touched x. refused (described x) touched) (λ touched x. tt) t)
  all_of (op.Time path) = node_then h s tree n of path (at_inode (λ touched x. refused (timed x) touched)) (λ t is. inode_then h s tree n of (λ touched x. refused (timed x) touched) (λ touched x. tt) t)
  all_of (op.List path) = node_then h s tree n of path (λ t. if t.kind == 2 then at_inode listing t else refused reply.NotDir t.dirs) (λ t is. by_kind t is (t.kind == 2) refl)
    where
      by_kind : (t : Target) → IsTarget h s tree n of t → (c : Bool) → (t.kind == 2) ≡ c → All (looks (if c then at_inode listing t else refused reply.NotDir t.dirs) s)
      by_kind t is true e = list_then h s tree n of t is (kind_two t.kind e)
      by_kind t is false e = tt
  all_of (op.Readlink path) = node_then h s tree n of path (λ t. if t.kind == 3 then at_inode (λ touched x. refused (reply.Target x.target) touched) t else refused reply.Inval t.dirs) (λ t is. by_kind t (t.kind == 3))
    where
      by_kind : (t : Target) (c : Bool) → All (looks (if c then at_inode (λ touched x. refused (reply.Target x.target) touched) t else refused reply.Inval t.dirs) s)
      by_kind t true = inode_then h s tree n of (λ touched x. refused (reply.Target x.target) touched) (λ touched x. tt) t
      by_kind t false = tt
  all_of op.Sync = tt
  all_of op.Mount = tt
  all_of op.Unmount = tt
  all_of op.Crash = tt
  all_of (op.CrashAt k) = tt
  all_of (op.CutAt k) = tt
  all_of op.Stall = tt

  step_all : (step : Step) → All (step_looks h s birth when step)
  step_all (Goes o) = all_of o
  step_all (Stops r) = tt

  one_of : (xs : List Sector) → All xs → (x : Sector) → Contains xs x → IsOfDirectory h s x
  one_of [] all x c = absurd (not_in_none x c)
  one_of (y ∷ xs) all x c = ⊎_elim (λ e. subst (IsOfDirectory h s) e all.0) (λ d. one_of xs all.1 x d) (has_cases y x xs c)

  line_all : (o : Op) → All (looks (plan_of_line h birth when o) s)
  line_all o = subst All (sym (looks_performed h s birth when tree n of o)) (both_of h s (looks (resolved o) s) (step_looks h s birth when (tree_resolved tree o).step) (resolved_all h s tree n of o) (step_all (tree_resolved tree o).step))

pub lines_look_at_directories : LinesLookAtDirectories
lines_look_at_directories o h s tree n birth when of hand x c = one_of h s tree n of hand birth when (looks (plan_of_line h birth when o) s) (line_all h s tree n of hand birth when o) x c
