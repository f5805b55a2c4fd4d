-- Operation by operation: where the tree's node is another after it, the plan said `ok`, and holds the node alone.
use Rattle.std.proofs.Common.{ℕ, ◌≡◌, ◌≢◌, ◌+◌, ◌-◌, ◌*◌, ◌&&◌, Bool, true, false, nat_lt, max, if◌then◌else◌, List, [], ◌∷◌, length, map, take, replicate, slice_index, refl, ap, subst, is_some}
use Rattle.frang_base.specs.declared.lock.LockId.TheVariants as lock
use Rattle.frang_base.specs.declared.op.Op.{Op}
use Rattle.frang_base.specs.declared.op.Op.TheVariants as op
use Rattle.frang_base.specs.declared.reply.Reply.TheVariants as reply
use Rattle.tree_definitions.specs.declared.node.Node.TheVariants.{Dir, File, Link}
use Rattle.tree_definitions.specs.declared.cells.Cell.{Cell}
use Rattle.tree_definitions.specs.declared.cells.Cell.TheVariants.{Byte}
use Rattle.tree_definitions.specs.Tree.{FileTree, node_at, with_node, count_of, file_blocks, small_blocks_of, large_blocks_of, larges_full}
use Rattle.tree_definitions.specs.Apply.{says, apply, overwritten, written, truncated}
use Rattle.tree_definitions.specs.WellFormed.{IsNew}
use Rattle.tree_laws.specs.Refusals.{says_ok, is_look}
use Rattle.tree_laws.proofs.Refusals.{refusals_leave, looks_leave}
use Rattle.disk_definitions.specs.Store.{Store}
use Rattle.disk_definitions.specs.Naming.{Naming}
use Rattle.disk_definitions.specs.Ask.{run}
use Rattle.disk_definitions.specs.Plans.{Hand, Finish}
use Rattle.disk_definitions.specs.Plans.Plan.{Finishes}
use Rattle.disk_definitions.specs.FilePlans.{Writing, writing, cutting}
use Rattle.disk_definitions.specs.PlanOf.{plan_of}
use Rattle.disk_definitions.specs.Meets.{IsOfTree, IsHandOf, FinishMeets}
use Rattle.plan_laws.specs.Keeping.{FinishKeeps, PlanKeeps}
use Rattle.plan_laws.proofs.Making.{create_planned, mkdir_planned, symlink_planned}
use Rattle.plan_laws.proofs.Linking.{link_planned}
use Rattle.plan_laws.proofs.Removing.{unlink_planned, rmdir_planned}
use Rattle.plan_laws.proofs.Renaming.{rename_planned}
use Rattle.plan_laws.specs.Locks.{IsSole}
use Rattle.plan_laws.specs.FilesPlanned.{HasFiles}
use Rattle.plan_laws.proofs.Truncating.{truncate_planned}
use Rattle.plan_laws.proofs.Writing.{write_planned, fill_planned}
use Rattle.plan_laws.proofs.Covering.{has_head}
use Rattle.plan_laws.specs.Covers.{changes_bytes, ChangedNodesAreHeldAlone}
use Rattle.plan_laws.proofs.Telling.{Tells, Alone}
use Rattle.plan_laws.proofs.TellingFiles.{cutting_alone, writing_alone, path_alone}
use Rattle.plan_laws.proofs.Changing.{OnlyAt, only_same, only_with, only_if}
use Rattle.plan_laws.proofs.ChangedAlone.{ok_of, made_changed, link_changes, unlink_changes, rmdir_changes, rename_changes, file_changes}

written_only : (t : FileTree) (m b : ℕ) (cells : List Cell) (links when off len : ℕ) (put : List Cell → List Cell) → OnlyAt t (written t m b cells links when off len put).tree (b ∷ [])
written_only t m b cells links when off len put =
    let size = max (length cells) (off + len) in
    let done = says (with_node t b (File (put cells) links when)) reply.Ok in
    let lacks = nat_lt (1024 * t.segments - m) (count_of file_blocks t + (small_blocks_of size - small_blocks_of (length cells))) in
    let large = nat_lt (large_blocks_of (length cells)) (large_blocks_of size) && larges_full t in
    let room = if lacks then says t (reply.NoBlock m) else done in
    let grows = if large then says t reply.NoLarge else room in
    let fits = if nat_lt 1114112 (off + len) then says t reply.TooBig else grows in
    only_if (nat_lt (length cells) off) t (says t reply.BadOffset) fits (b ∷ []) (only_same t (b ∷ []))
    (only_if (nat_lt 1114112 (off + len)) t (says t reply.TooBig) grows (b ∷ []) (only_same t (b ∷ []))
    (only_if large t (says t reply.NoLarge) room (b ∷ []) (only_same t (b ∷ []))
    (only_if lacks t (says t (reply.NoBlock m)) done (b ∷ []) (only_same t (b ∷ [])) (only_with t b (File (put cells) links when)))))

truncated_only : (t : FileTree) (b : ℕ) (cells : List Cell) (links when len : ℕ) → OnlyAt t (truncated t b cells links when len).tree (b ∷ [])
truncated_only t b cells links when len = only_if (nat_lt (length cells) len) t (says t reply.BadOffset) (says (with_node t b (File (take len cells) links when)) reply.Ok) (b ∷ []) (only_same t (b ∷ [])) (only_with t b (File (take len cells) links when))

module _ (h : Hand) (s : Store) (tree : FileTree) (n : Naming) (birth when m : ℕ) (f : Finish) (of : IsOfTree s tree n) (hand : IsHandOf h s tree.segments) (new : IsNew tree birth) (b : ℕ) (there : is_some (node_at tree b) ≡ true) where
  abbrev Goal : Op → Type 0
  Goal o = run (plan_of h birth when o) s ≡ Finishes f → node_at (apply tree o birth when m).tree b ≢ node_at tree b → IsSole f.locks (lock.Node (n.inode b))

  by_answer : (o : Op) → PlanKeeps h s tree n (apply tree o birth when m) (run (plan_of h birth when o) s) → (node_at (apply tree o birth when m).tree b ≢ node_at tree b → Tells (Alone (n.inode b ∷ [])) (run (plan_of h birth when o) s)) → Goal o
  by_answer o planned tells p d =
      let keeps : FinishKeeps s tree n (apply tree o birth when m) f = subst (PlanKeeps h s tree n (apply tree o birth when m)) p planned in
      let alone : Alone (n.inode b ∷ []) f = subst (Tells (Alone (n.inode b ∷ []))) p (tells d) in
      go keeps.meets alone (says_ok (apply tree o birth when m).answer) refl
    where
      go : FinishMeets s (apply tree o birth when m) f → Alone (n.inode b ∷ []) f → (c : Bool) → says_ok (apply tree o birth when m).answer ≡ c → IsSole f.locks (lock.Node (n.inode b))
      go meets alone true e = alone (ok_of (apply tree o birth when m).answer f.reply meets.answer e) (n.inode b) (has_head (n.inode b) [])
      go meets alone false e = absurd (d (ap (λ t. node_at t b) (refusals_leave tree o birth when m e)))

  by_look : (o : Op) → is_look o ≡ true → Goal o
  by_look o e p d = absurd (d (ap (λ t. node_at t b) (looks_leave tree o birth when m e)))

  nothing : (o : Op) → (apply tree o birth when m).tree ≡ tree → Goal o
  nothing o e p d = absurd (d (ap (λ t. node_at t b) e))

  changed : (o : Op) → (changes_bytes o ≡ true → HasFiles s tree m) → Goal o
  changed (op.Create path) files = by_answer (op.Create path) (create_planned path h s tree n birth when m of hand new) (made_changed h s tree n of b there birth (File [] 1 0) new path)
  changed (op.Mkdir path) files = by_answer (op.Mkdir path) (mkdir_planned path h s tree n birth when m of hand new) (made_changed h s tree n of b there birth (Dir [] 0) new path)
  changed (op.Symlink path target) files = by_answer (op.Symlink path target) (symlink_planned path target h s tree n birth when m of hand new) (made_changed h s tree n of b there birth (Link target 1) new path)
  changed (op.Link path to) files = by_answer (op.Link path to) (link_planned path to h s tree n birth when m of hand new) (link_changes h s tree n of b there path to)
  changed (op.Unlink path) files = by_answer (op.Unlink path) (unlink_planned path h s tree n birth when m of hand new) (unlink_changes h s tree n of b there path)
  changed (op.Rmdir path) files = by_answer (op.Rmdir path) (rmdir_planned path h s tree n birth when m of hand new) (rmdir_changes h s tree n of b there path)
  changed (op.Rename path to) files = by_answer (op.Rename path to) (rename_planned path to h s tree n birth when m of hand new) (rename_changes h s tree n of b there path to)
  changed (op.Write path off bytes) files =
      let w : Writing = record { off = off; len = length bytes; when = when; byte = λ j. slice_index bytes (j - off) } in
      let put : List Cell → List Cell = λ all. overwritten all off (map Byte bytes) in
      by_answer (op.Write path off bytes) (write_planned path off bytes h s tree n birth when m of hand new (files refl))
      (λ d. file_changes h s tree n of b there (λ b cells links old. written tree m b cells links when off (length bytes) put) (λ b links old cells. written_only tree m b cells links when off (length bytes) put) path (run (plan_of h birth when (op.Write path off bytes)) s) d
      (path_alone h s (writing h w) (writing_alone h s w) path))
  changed (op.Fill path off len byte) files =
      let w : Writing = record { off = off; len = len; when = when; byte = λ j. byte } in
      let put : List Cell → List Cell = λ all. overwritten all off (replicate len (Byte byte)) in
      by_answer (op.Fill path off len byte) (fill_planned path off len byte h s tree n birth when m of hand new (files refl))
      (λ d. file_changes h s tree n of b there (λ b cells links old. written tree m b cells links when off len put) (λ b links old cells. written_only tree m b cells links when off len put) path (run (plan_of h birth when (op.Fill path off len byte)) s) d
      (path_alone h s (writing h w) (writing_alone h s w) path))
  changed (op.Truncate path len) files = by_answer (op.Truncate path len) (truncate_planned path len h s tree n birth when m of hand new (files refl))
      (λ d. file_changes h s tree n of b there (λ b cells links old. truncated tree b cells links when len) (λ b links old cells. truncated_only tree b cells links when len) path (run (plan_of h birth when (op.Truncate path len)) s) d
      (path_alone h s (cutting when len) (cutting_alone h s when len) path))
  changed (op.Read path off len) files = by_look (op.Read path off len) refl
  changed (op.Stat path) files = by_look (op.Stat path) refl
  changed (op.List path) files = by_look (op.List path) refl
  changed (op.Readlink path) files = by_look (op.Readlink path) refl
  changed (op.Time path) files = by_look (op.Time path) refl
  changed op.Sync files = nothing op.Sync refl
  changed op.Mount files = nothing op.Mount refl
  changed op.Unmount files = nothing op.Unmount refl
  changed op.Crash files = nothing op.Crash refl
  changed (op.CrashAt k) files = nothing (op.CrashAt k) refl
  changed (op.CutAt k) files = nothing (op.CutAt k) refl
  changed op.Stall files = nothing op.Stall refl

pub changed_held : ChangedNodesAreHeldAlone
changed_held o h s tree n birth when m f of hand new files p b there d = changed h s tree n birth when m f of hand new b there o files p d
