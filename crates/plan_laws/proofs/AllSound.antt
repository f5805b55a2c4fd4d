-- The edits of each plan are sound, over the disk of a tree.
use Rattle.std.proofs.Common.{ℕ, ◌≡◌, ◌-◌, ◌*◌, ◌/◌, ◌==◌, Bool, true, false, nat_eq, nat_lt, ◌%◌, arith, min, if◌then◌else◌, Some, List, [], ◌∷◌, ◌++◌, length, take, drop, slice_index, refl, sym, subst}
use Rattle.std.proofs.lemmas.Bool.Decides.{nat_tests}
use Rattle.frang_base.specs.declared.op.Op.{Op}
use Rattle.frang_base.specs.declared.op.Op.TheVariants as op
use Rattle.frang_base.specs.declared.reply.Reply.{Reply}
use Rattle.frang_base.specs.declared.reply.Reply.TheVariants as reply
use Rattle.tree_definitions.specs.declared.node.Node.TheVariants.{Dir, File, Link}
use Rattle.tree_definitions.specs.Tree.{FileTree, node_at}
use Rattle.disk_definitions.specs.Store.{Store, StoredNode}
use Rattle.disk_definitions.specs.Naming.{Naming, Pictures}
use Rattle.disk_definitions.specs.Ask.{Ask, ReadInode, run}
use Rattle.disk_definitions.specs.Walks.{Spot, Target, walk, at_spot, at_target}
use Rattle.disk_definitions.specs.Walks.Spot.{AtRoot, AtName, AtGap, Lost}
use Rattle.disk_definitions.specs.Plans.{Hand, Plan, refused}
use Rattle.disk_definitions.specs.FilePlans.{Writing, sectors_met, read_sectors, writing, cutting, showing, at_file, with_file, plan_of_file}
use Rattle.disk_definitions.specs.LookPlans.{plan_of_node, with_inode, at_inode, described, timed, listing, sorted_names}
use Rattle.disk_definitions.specs.PlanOf.{plan_of}
use Rattle.disk_definitions.specs.Meets.{IsOfTree, IsHandOf}
use Rattle.plan_laws.proofs.Asking.{run-bind}
use Rattle.plan_laws.proofs.Bytes.{run-sectors}
use Rattle.plan_laws.proofs.Gathering.{run-entries}
use Rattle.plan_laws.proofs.Standing.{HasKind, IsFileNode, DiskStands, disk_stands}
use Rattle.plan_laws.proofs.WalksFine.{SpotStands, walk_stands}
use Rattle.plan_laws.proofs.Sound.{none_sound}
use Rattle.plan_laws.proofs.NamesSound.{IsSoundPlan, Ends, made_path_sound, link_sound, unlink_sound, rmdir_sound}
use Rattle.plan_laws.proofs.RenamesSound.{rename_sound}
use Rattle.plan_laws.proofs.FilesSound.{cutting_sound, writing_sound}

module _ (h : Hand) (s : Store) (tree : FileTree) (n : Naming) (of : IsOfTree s tree n) (hand : IsHandOf h s tree.segments) where
  abbrev g : Pictures s (node_at tree) n
  g = of.pictures

  abbrev disk : DiskStands h s n
  disk = disk_stands h s tree n of hand

  -- ---- the node that a path names
  module _ (next : Target → Ask Plan) (each : (t : Target) → HasKind s t.inode t.kind → Ends s (next t)) where
    spot_sound : (v : Spot) (dirs : List ℕ) → SpotStands h s n disk dirs v → Ends s (at_spot v dirs refused next)
    spot_sound AtRoot dirs t = each (record { inode = 0; kind = 2; dirs = dirs }) disk.root
    spot_sound (AtName i x name q e) dirs t = each (record { inode = e.inode; kind = e.kind; dirs = dirs }) t.2
    spot_sound (AtGap i x name) dirs t = none_sound s
    spot_sound (Lost r) dirs t = none_sound s

    node_sound : (path : List (List ℕ)) → Ends s (plan_of_node path next)
    node_sound path = let w = run (walk path) s in subst (IsSoundPlan s) (sym (run-bind (walk path) (λ w. at_target w refused next) s)) (spot_sound w.spot w.dirs (walk_stands h s n disk path).spot)

  inode_sound : (next : List ℕ → StoredNode → Ask Plan) → ((touched : List ℕ) (x : StoredNode) → Ends s (next touched x)) → (t : Target) → HasKind s t.inode t.kind → Ends s (at_inode next t)
  inode_sound next each t k = let touched = t.dirs ++ t.inode ∷ [] in subst (λ o. Ends s (with_inode next touched o)) (sym k.is) (each touched k.node)

  kind_sound : (next : Target → Ask Plan) (want : ℕ) (r : Reply) → ((t : Target) → HasKind s t.inode t.kind → Ends s (next t)) → (t : Target) → HasKind s t.inode t.kind → Ends s (if t.kind == want then next t else refused r t.dirs)
  kind_sound next want r each t k = go (t.kind == want)
    where
      go : (b : Bool) → Ends s (if b then next t else refused r t.dirs)
      go true = each t k
      go false = none_sound s

  file_sound : (next : ℕ → List ℕ → StoredNode → Ask Plan) → ((i : ℕ) (x : StoredNode) → s.inode i ≡ Some x → IsFileNode s x → (touched : List ℕ) → Ends s (next i touched x)) → (t : Target) → HasKind s t.inode t.kind → Ends s (at_file next t)
  file_sound next each t k = go (nat_eq t.kind 2) refl (nat_eq t.kind 1) refl
    where
      touched : List ℕ
      touched = t.dirs ++ t.inode ∷ []

      go : (a : Bool) → nat_eq t.kind 2 ≡ a → (b : Bool) → nat_eq t.kind 1 ≡ b → Ends s (if a then refused reply.IsDir t.dirs else (if b then ReadInode t.inode (with_file (next t.inode touched) touched) else refused reply.Inval t.dirs))
      go true p b q = none_sound s
      go false p false q = none_sound s
      go false p true q =
          let one : t.kind ≡ 1 = grind (arith, nat_tests) in
          let file : k.node.kind ≡ 1 = subst (λ z. k.node.kind ≡ z) one k.kind_is in
          let kind : nat_eq k.node.kind 1 ≡ true = grind (arith, nat_tests) in
          subst (λ o. Ends s (with_file (next t.inode touched) touched o)) (sym k.is)
          (subst (λ c. Ends s (if c then next t.inode touched k.node else refused reply.Inval touched)) (sym kind) (each t.inode k.node k.is ((disk.nodes t.inode k.node k.is).file file) touched))

  -- ---- plans that only look
  shown_sound : (said : StoredNode → Reply) (t : Target) → HasKind s t.inode t.kind → Ends s (at_inode (λ touched x. refused (said x) touched) t)
  shown_sound said = inode_sound (λ touched x. refused (said x) touched) (λ touched x. none_sound s)

  listing_sound : (touched : List ℕ) (x : StoredNode) → Ends s (listing touched x)
  listing_sound touched x = subst (IsSoundPlan s) (sym (run-entries s x.small 0 (8 * x.blocks) (λ entries. refused (reply.Names (sorted_names entries)) touched))) (none_sound s)

  showing_sound : (off len i : ℕ) (touched : List ℕ) (x : StoredNode) → Ends s (showing off len i touched x)
  showing_sound off len i touched x = go (nat_lt x.size off)
    where
      shown : ℕ
      shown = min len (x.size - off)

      next : List ℕ → Ask Plan
      next bytes = refused (reply.Shown (take shown (drop (off % 512) bytes))) touched

      go : (b : Bool) → Ends s (if b then refused reply.BadOffset touched else read_sectors x (off / 512) (sectors_met off shown) next)
      go true = none_sound s
      go false = subst (IsSoundPlan s) (sym (run-sectors s x (off / 512) (sectors_met off shown) next)) (none_sound s)

  -- ---- operation by operation
  write_sound : (w : Writing) (path : List (List ℕ)) → Ends s (plan_of_file path (writing h w))
  write_sound w path = node_sound (at_file (writing h w)) (file_sound (writing h w) (λ i x is file touched. writing_sound h s tree n of hand disk i x is file touched w)) path

  pub plan_sound : (o : Op) (birth when : ℕ) → Ends s (plan_of h birth when o)
  plan_sound (op.Create path) birth when = made_path_sound h s (node_at tree) n g disk birth (File [] 1 0) refl path
  plan_sound (op.Mkdir path) birth when = made_path_sound h s (node_at tree) n g disk birth (Dir [] 0) (refl, refl) path
  plan_sound (op.Symlink path target) birth when = made_path_sound h s (node_at tree) n g disk birth (Link target 1) tt path
  plan_sound (op.Link path to) birth when = link_sound h s (node_at tree) n g disk path to
  plan_sound (op.Unlink path) birth when = unlink_sound h s (node_at tree) n g disk path
  plan_sound (op.Rmdir path) birth when = rmdir_sound h s (node_at tree) n g disk path
  plan_sound (op.Rename path to) birth when = rename_sound h s (node_at tree) n g disk path to
  plan_sound (op.Write path off bytes) birth when = write_sound (record { off = off; len = length bytes; when = when; byte = λ j. slice_index bytes (j - off) }) path
  plan_sound (op.Fill path off len byte) birth when = write_sound (record { off = off; len = len; when = when; byte = λ j. byte }) path
  plan_sound (op.Truncate path len) birth when = node_sound (at_file (cutting when len)) (file_sound (cutting when len) (λ i x is file touched. cutting_sound h s tree n of hand disk i x is file touched len when)) path
  plan_sound (op.Read path off len) birth when = node_sound (at_file (showing off len)) (file_sound (showing off len) (λ i x is file touched. showing_sound off len i touched x)) path
  plan_sound (op.Stat path) birth when = node_sound (at_inode (λ touched x. refused (described x) touched)) (shown_sound described) path
  plan_sound (op.Time path) birth when = node_sound (at_inode (λ touched x. refused (timed x) touched)) (shown_sound timed) path
  plan_sound (op.List path) birth when = node_sound (λ t. if t.kind == 2 then at_inode listing t else refused reply.NotDir t.dirs) (kind_sound (at_inode listing) 2 reply.NotDir (inode_sound listing listing_sound)) path
  plan_sound (op.Readlink path) birth when =
      node_sound (λ t. if t.kind == 3 then at_inode (λ touched x. refused (reply.Target x.target) touched) t else refused reply.Inval t.dirs)
      (kind_sound (at_inode (λ touched x. refused (reply.Target x.target) touched)) 3 reply.Inval (shown_sound (λ x. reply.Target x.target))) path
  plan_sound op.Sync birth when = none_sound s
  plan_sound op.Mount birth when = none_sound s
  plan_sound op.Unmount birth when = none_sound s
  plan_sound op.Crash birth when = none_sound s
  plan_sound (op.CrashAt k) birth when = none_sound s
  plan_sound (op.CutAt k) birth when = none_sound s
  plan_sound op.Stall birth when = none_sound s
