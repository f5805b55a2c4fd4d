-- The edits of each plan leave no sector of a file unwritten, over the disk of a tree.
use Rattle.std.proofs.Common.{ℕ, ◌≡◌, ◌∙◌, ◌⊎◌, inl, inr, ⊎_elim, ◌-◌, ◌*◌, ◌/◌, ◌==◌, Bool, true, false, nat_eq, nat_lt, ◌%◌, arith, min, if◌then◌else◌, Some, List, [], ◌∷◌, ◌++◌, length, take, drop, slice_index, refl, sym, subst}
use Rattle.std.proofs.lemmas.Bool.Decides.{nat_tests}
use Rattle.frang_base.specs.declared.op.Op.{Op}
use Rattle.frang_base.specs.declared.op.Op.TheVariants as op
use Rattle.frang_base.specs.declared.reply.Reply.{Reply}
use Rattle.frang_base.specs.declared.reply.Reply.TheVariants as reply
use Rattle.tree_definitions.specs.declared.node.Node.TheVariants.{Dir, File, Link}
use Rattle.tree_definitions.specs.Tree.{FileTree}
use Rattle.disk_definitions.specs.Store.{Store, StoredNode}
use Rattle.disk_definitions.specs.Store.Use.{Fresh}
use Rattle.disk_definitions.specs.Edits.{Edit}
use Rattle.disk_definitions.specs.Naming.{Naming}
use Rattle.disk_definitions.specs.Ask.{Ask, ReadInode, run}
use Rattle.disk_definitions.specs.Walks.{Spot, Target, walk, at_spot, at_target}
use Rattle.disk_definitions.specs.Walks.Spot.{AtRoot, AtName, AtGap, Lost}
use Rattle.disk_definitions.specs.Plans.{Hand, Plan, Finish, refused}
use Rattle.disk_definitions.specs.FilePlans.{sectors_met, read_sectors, writing, cutting, showing, at_file, with_file, plan_of_file}
use Rattle.disk_definitions.specs.LookPlans.{plan_of_node, with_inode, at_inode, described, timed, listing, sorted_names}
use Rattle.disk_definitions.specs.PlanOf.{plan_of}
use Rattle.disk_definitions.specs.Meets.{IsOfTree, IsHandOf}
use Rattle.plan_laws.proofs.Asking.{run-bind}
use Rattle.plan_laws.proofs.Bytes.{run-sectors}
use Rattle.plan_laws.proofs.Gathering.{run-entries}
use Rattle.plan_laws.proofs.Standing.{HasKind, IsFileNode, DiskStands, disk_stands}
use Rattle.plan_laws.proofs.WalksFine.{SpotStands, walk_stands}
use Rattle.line_histories.proofs.Names.{IsFinePlan, Ends, made_path_fine, link_fine, unlink_fine, rmdir_fine}
use Rattle.line_histories.proofs.Renames.{rename_fine}
use Rattle.line_histories.specs.Sectors.{Asked, asked_of, spot_inode, IsPiece}
use Rattle.line_histories.proofs.Files.{cutting_fine, writing_fine}

-- where a spot leads: to the root, or to this inode
abbrev Leads : Spot → Target → Type 0
Leads v t = (t.kind ≡ 2) ⊎ (spot_inode v ≡ Some t.inode)

module _ (P : Finish → Edit → Type 0) (h : Hand) (s : Store) (n : Naming) (disk : DiskStands h s n) where
  -- ---- the node that a path names
  module _ (next : Target → Ask Plan) where
    spot_fine : (v : Spot) (dirs : List ℕ) → ((t : Target) → HasKind s t.inode t.kind → Leads v t → Ends P s (next t)) → SpotStands h s n disk dirs v → Ends P s (at_spot v dirs refused next)
    spot_fine AtRoot dirs each t = each (record { inode = 0; kind = 2; dirs = dirs }) disk.root (inl refl)
    spot_fine (AtName i x name q e) dirs each t = each (record { inode = e.inode; kind = e.kind; dirs = dirs }) t.2 (inr refl)
    spot_fine (AtGap i x name) dirs each t = (Fresh, tt)
    spot_fine (Lost r) dirs each t = (Fresh, tt)

    led_fine : (path : List (List ℕ)) → ((t : Target) → HasKind s t.inode t.kind → Leads (run (walk path) s).spot t → Ends P s (next t)) → Ends P s (plan_of_node path next)
    led_fine path each = let w = run (walk path) s in subst (IsFinePlan P s) (sym (run-bind (walk path) (λ w. at_target w refused next) s)) (spot_fine w.spot w.dirs each (walk_stands h s n disk path).spot)

    node_fine : ((t : Target) → HasKind s t.inode t.kind → Ends P s (next t)) → (path : List (List ℕ)) → Ends P s (plan_of_node path next)
    node_fine each path = led_fine path (λ t k l. each t k)

  inode_fine : (next : List ℕ → StoredNode → Ask Plan) → ((touched : List ℕ) (x : StoredNode) → Ends P s (next touched x)) → (t : Target) → HasKind s t.inode t.kind → Ends P s (at_inode next t)
  inode_fine next each t k = let touched = t.dirs ++ t.inode ∷ [] in subst (λ o. Ends P s (with_inode next touched o)) (sym k.is) (each touched k.node)

  kind_fine : (next : Target → Ask Plan) (want : ℕ) (r : Reply) → ((t : Target) → HasKind s t.inode t.kind → Ends P s (next t)) → (t : Target) → HasKind s t.inode t.kind → Ends P s (if t.kind == want then next t else refused r t.dirs)
  kind_fine next want r each t k = go (t.kind == want)
    where
      go : (b : Bool) → Ends P s (if b then next t else refused r t.dirs)
      go true = each t k
      go false = (Fresh, tt)

  file_fine : (v : Spot) (next : ℕ → List ℕ → StoredNode → Ask Plan) → ((i : ℕ) (x : StoredNode) → s.inode i ≡ Some x → x.kind ≡ 1 → IsFileNode s x → spot_inode v ≡ Some i → (touched : List ℕ) → Ends P s (next i touched x)) → (t : Target) → HasKind s t.inode t.kind → Leads v t → Ends P s (at_file next t)
  file_fine v next each t k leads = go (nat_eq t.kind 2) refl (nat_eq t.kind 1) refl
    where
      touched : List ℕ
      touched = t.dirs ++ t.inode ∷ []

      go : (a : Bool) → nat_eq t.kind 2 ≡ a → (b : Bool) → nat_eq t.kind 1 ≡ b → Ends P s (if a then refused reply.IsDir t.dirs else (if b then ReadInode t.inode (with_file (next t.inode touched) touched) else refused reply.Inval t.dirs))
      go true p b q = (Fresh, tt)
      go false p false q = (Fresh, tt)
      go false p true q =
          let one : t.kind ≡ 1 = grind (arith, nat_tests) in
          let file : k.node.kind ≡ 1 = subst (λ z. k.node.kind ≡ z) one k.kind_is in
          let kind : nat_eq k.node.kind 1 ≡ true = grind (arith, nat_tests) in
          subst (λ o. Ends P s (with_file (next t.inode touched) touched o)) (sym k.is)
          (subst (λ c. Ends P s (if c then next t.inode touched k.node else refused reply.Inval touched)) (sym kind) (each t.inode k.node k.is file ((disk.nodes t.inode k.node k.is).file file) (⊎_elim (λ two. absurd (let z : 1 ≡ 2 = sym one ∙ two in cc)) (λ there. there) leads) touched))

  -- ---- plans that only look
  shown_fine : (said : StoredNode → Reply) (t : Target) → HasKind s t.inode t.kind → Ends P s (at_inode (λ touched x. refused (said x) touched) t)
  shown_fine said = inode_fine (λ touched x. refused (said x) touched) (λ touched x. (Fresh, tt))

  listing_fine : (touched : List ℕ) (x : StoredNode) → Ends P s (listing touched x)
  listing_fine touched x = subst (IsFinePlan P s) (sym (run-entries s x.small 0 (8 * x.blocks) (λ entries. refused (reply.Names (sorted_names entries)) touched))) ((Fresh, tt))

  showing_fine : (off len i : ℕ) (touched : List ℕ) (x : StoredNode) → Ends P s (showing off len i touched x)
  showing_fine off len i touched x = go (nat_lt x.size off)
    where
      shown : ℕ
      shown = min len (x.size - off)

      next : List ℕ → Ask Plan
      next bytes = refused (reply.Shown (take shown (drop (off % 512) bytes))) touched

      go : (b : Bool) → Ends P s (if b then refused reply.BadOffset touched else read_sectors x (off / 512) (sectors_met off shown) next)
      go true = (Fresh, tt)
      go false = subst (IsFinePlan P s) (sym (run-sectors s x (off / 512) (sectors_met off shown) next)) ((Fresh, tt))

  -- ---- a file
  path_fine : (path : List (List ℕ)) (next : ℕ → List ℕ → StoredNode → Ask Plan)
      → ((i : ℕ) (x : StoredNode) → s.inode i ≡ Some x → x.kind ≡ 1 → IsFileNode s x → spot_inode (run (walk path) s).spot ≡ Some i → (touched : List ℕ) → Ends P s (next i touched x)) → Ends P s (plan_of_file path next)
  path_fine path next each = led_fine (at_file next) path (file_fine (run (walk path) s).spot next each)

-- ---- operation by operation
module _ (h : Hand) (s : Store) (tree : FileTree) (n : Naming) (of : IsOfTree s tree n) (hand : IsHandOf h s tree.segments) where
  abbrev disk : DiskStands h s n
  disk = disk_stands h s tree n of hand

  -- the edits of bytes by a write or fill are its pieces
  write_fine : (o : Op) (when : ℕ) (a : Asked) → asked_of when o ≡ Some a → Ends (IsPiece when o s) s (plan_of_file a.path (writing h a.piece))
  write_fine o when a asked = path_fine (IsPiece when o s) h s n disk a.path (writing h a.piece) (λ i x is kind file leads touched.
      writing_fine (IsPiece when o s) h s n disk i x is file touched a.piece
      (λ f y ok inode kept size low t lo hi. record {
        asked = a;
        is_asked = asked;
        inode = i;
        leads = leads;
        before = x;
        is = is;
        kind = kind;
        begins = low;
        after = y;
        reply = ok;
        written = inode;
        file = kept ∙ kind;
        size = size;
        index = t;
        from = lo;
        to = hi;
        sets = refl;
      }))

  pub plan_fine : (o : Op) (birth when : ℕ) → Ends (IsPiece when o s) s (plan_of h birth when o)
  plan_fine (op.Create path) birth when = made_path_fine (IsPiece when (op.Create path) s) h s n disk birth (File [] 1 0) refl path
  plan_fine (op.Mkdir path) birth when = made_path_fine (IsPiece when (op.Mkdir path) s) h s n disk birth (Dir [] 0) (refl, refl) path
  plan_fine (op.Symlink path target) birth when = made_path_fine (IsPiece when (op.Symlink path target) s) h s n disk birth (Link target 1) tt path
  plan_fine (op.Link path to) birth when = link_fine (IsPiece when (op.Link path to) s) h s n disk path to
  plan_fine (op.Unlink path) birth when = unlink_fine (IsPiece when (op.Unlink path) s) h s n disk path
  plan_fine (op.Rmdir path) birth when = rmdir_fine (IsPiece when (op.Rmdir path) s) h s n disk path
  plan_fine (op.Rename path to) birth when = rename_fine (IsPiece when (op.Rename path to) s) h s n disk path to
  plan_fine (op.Write path off bytes) birth when = write_fine (op.Write path off bytes) when (record { path = path; piece = record { off = off; len = length bytes; when = when; byte = λ j. slice_index bytes (j - off) } }) refl
  plan_fine (op.Fill path off len byte) birth when = write_fine (op.Fill path off len byte) when (record { path = path; piece = record { off = off; len = len; when = when; byte = λ j. byte } }) refl
  plan_fine (op.Truncate path len) birth when = path_fine (IsPiece when (op.Truncate path len) s) h s n disk path (cutting when len) (λ i x is kind file leads touched. cutting_fine (IsPiece when (op.Truncate path len) s) h s n disk i x is file touched len when)
  plan_fine (op.Read path off len) birth when = path_fine (IsPiece when (op.Read path off len) s) h s n disk path (showing off len) (λ i x is kind file leads touched. showing_fine (IsPiece when (op.Read path off len) s) h s n disk off len i touched x)
  plan_fine (op.Stat path) birth when = node_fine (IsPiece when (op.Stat path) s) h s n disk (at_inode (λ touched x. refused (described x) touched)) (shown_fine (IsPiece when (op.Stat path) s) h s n disk described) path
  plan_fine (op.Time path) birth when = node_fine (IsPiece when (op.Time path) s) h s n disk (at_inode (λ touched x. refused (timed x) touched)) (shown_fine (IsPiece when (op.Time path) s) h s n disk timed) path
  plan_fine (op.List path) birth when = node_fine (IsPiece when (op.List path) s) h s n disk (λ t. if t.kind == 2 then at_inode listing t else refused reply.NotDir t.dirs) (kind_fine (IsPiece when (op.List path) s) h s n disk (at_inode listing) 2 reply.NotDir (inode_fine (IsPiece when (op.List path) s) h s n disk listing (listing_fine (IsPiece when (op.List path) s) h s n disk))) path
  plan_fine (op.Readlink path) birth when =
      node_fine (IsPiece when (op.Readlink path) s) h s n disk (λ t. if t.kind == 3 then at_inode (λ touched x. refused (reply.Target x.target) touched) t else refused reply.Inval t.dirs)
      (kind_fine (IsPiece when (op.Readlink path) s) h s n disk (at_inode (λ touched x. refused (reply.Target x.target) touched)) 3 reply.Inval (shown_fine (IsPiece when (op.Readlink path) s) h s n disk (λ x. reply.Target x.target))) path
  plan_fine op.Sync birth when = (Fresh, tt)
  plan_fine op.Mount birth when = (Fresh, tt)
  plan_fine op.Unmount birth when = (Fresh, tt)
  plan_fine op.Crash birth when = (Fresh, tt)
  plan_fine (op.CrashAt k) birth when = (Fresh, tt)
  plan_fine (op.CutAt k) birth when = (Fresh, tt)
  plan_fine op.Stall birth when = (Fresh, tt)
