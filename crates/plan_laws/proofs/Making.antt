-- The plan of create, mkdir or symlink: a node comes into a free inode, and then its name into the directory.
use Rattle.std.proofs.Common.{ℕ, ◌≡◌, ◌≢◌, Bool, true, false, Option, Some, None, List, [], ◌++◌, length, nat_le, if◌then◌else◌, refl, sym, ◌∙◌, ap, ap₂, subst, is_some}
use Rattle.std.proofs.Math.Path.{fun_ext}
use Rattle.std.specs.Map.{keys_of}
use Rattle.frang_base.specs.declared.op.Op.TheVariants as op
use Rattle.frang_base.specs.declared.reply.Reply.TheVariants as reply
use Rattle.tree_definitions.specs.declared.node.Node.{Node}
use Rattle.tree_definitions.specs.declared.node.Node.TheVariants.{Dir, File, Link}
use Rattle.tree_definitions.specs.Entries.{Entries, entry_at, with_entry}
use Rattle.tree_definitions.specs.Tree.{FileTree, node_at, with_node, grown, inodes_full, lacks_block}
use Rattle.tree_definitions.specs.Place.{Free, place}
use Rattle.tree_definitions.specs.Apply.{says, named, made}
use Rattle.frang_base.proofs.Basics.{put_same, put_other}
use Rattle.tree_definitions.specs.WellFormed.{IsWellFormed, IsNew, put as put_node}
use Rattle.tree_laws.proofs.Nodes.{node_with, put_other as node_other}
use Rattle.tree_laws.proofs.Keeping.{names_nodes}
use Rattle.tree_laws.proofs.StepsLaws.{apply_keeps}
use Rattle.disk_definitions.specs.Store.{Store, StoredNode, StoredEntry}
use Rattle.disk_definitions.specs.Naming.{Naming, Nodes, kind_of, find_in, entry_of}
use Rattle.disk_definitions.specs.Picks.{picked_inode}
use Rattle.disk_definitions.specs.Edits.{edited_all}
use Rattle.disk_definitions.specs.Changes.{new_node}
use Rattle.disk_definitions.specs.Namings.{named_new}
use Rattle.disk_definitions.specs.ChangeLaws.{IsBare, MayCome}
use Rattle.disk_definitions.proofs.Puts.{edited_append}
use Rattle.disk_definitions.specs.Ask.{run}
use Rattle.disk_definitions.specs.Walks.{AtGap, walk}
use Rattle.disk_definitions.specs.Plans.{Hand, Room, enter, find_room, finish_in, must_clear, refused, read_held}
use Rattle.disk_definitions.specs.Plans.Room.{Inside, InBlock, NoRoom}
use Rattle.disk_definitions.specs.NamePlans.{made_by, making_in, making_with, making, plan_made}
use Rattle.disk_definitions.specs.Meets.{IsOfTree, IsHandOf}
use Rattle.plan_laws.specs.Keeping.{FinishKeeps}
use Rattle.plan_laws.specs.NamesPlanned.{CreateIsPlanned, MkdirIsPlanned, SymlinkIsPlanned}
use Rattle.plan_laws.proofs.Asking.{run-bind, run-segments}
use Rattle.plan_laws.proofs.Cases.{inode_by, has_inode, by_spot}
use Rattle.plan_laws.proofs.Refusing.{Meets, passes, refuse_meets, none_meets}
use Rattle.plan_laws.proofs.Picks.{inode_some, inode_none}
use Rattle.plan_laws.proofs.Stages.{stage_of, of_stage, comes, still}
use Rattle.plan_laws.proofs.Entering.{IsRoomFor, room_found, lacks_none_inside, lacks_by_blocks, TakesEntry, HasEntered, enters}
use Rattle.plan_laws.proofs.Walking.{walks_lead}

module _ (h : Hand) (s : Store) (tree : FileTree) (n : Naming) (of : IsOfTree s tree n) (hand : IsHandOf h s tree.segments) (birth : ℕ) (node : Node) (new : IsNew tree birth) (bare : IsBare node) (dirs : List ℕ) where
  module _ (d blocks : ℕ) (entries : Entries) (name : List ℕ) (is : node_at tree d ≡ Some (Dir entries blocks)) (absent : entry_at entries name ≡ None) where
    abbrev x : StoredNode
    x = inode_by n d (Dir entries blocks)

    abbrev result : FileTree
    result = named (with_node tree birth node) d entries blocks name birth

    apart : d ≢ birth
    apart e = let z : Some (Dir entries blocks) ≡ None = sym is ∙ ap (node_at tree) e ∙ new in cc

    -- a node that is there is another
    far : (c : ℕ) → is_some (node_at tree c) ≡ true → c ≢ birth
    far c there q = let z : is_some (node_at tree birth) ≡ true = subst (λ b. is_some (node_at tree b) ≡ true) q there in let y : is_some (node_at tree birth) ≡ false = ap is_some new in cc

    -- the nodes that the two changes lead to are the new tree's
    same_nodes : (b : ℕ) → node_at result b ≡ put_node (put_node (node_at tree) birth (Some node)) d (Some (Dir (with_entry entries name birth) (grown entries blocks))) b
    same_nodes b =
        let z : node_at (with_node tree birth node) ≡ put_node (node_at tree) birth (Some node) = fun_ext (node_with tree birth node) in
        node_with (with_node tree birth node) d (Dir (with_entry entries name birth) (grown entries blocks)) b ∙ ap (λ f. put_node f d (Some (Dir (with_entry entries name birth) (grown entries blocks))) b) z

    module _ (j : ℕ) (picked : picked_inode h.held ≡ Some j) where
      abbrev m : Naming
      m = named_new n birth j birth (kind_of node)

      abbrev mid : Nodes
      mid = put_node (node_at tree) birth (Some node)

      abbrev t : Store
      t = edited_all s (new_node j birth node)

      abbrev entry : StoredEntry
      entry = record { name = name; inode = j; kind = kind_of node }

      may_come : MayCome s (node_at tree) birth j node
      may_come = record {
        new = new;
        unnamed = λ c w e. unnamed c w (node_at tree c) refl e;
        free = (inode_some h s tree n of hand j picked).0;
        bare = bare;
      }
        where
          unnamed : (c : ℕ) (w : List ℕ) (o : Option Node) → node_at tree c ≡ o → find_in o w ≡ Some birth → ⊥
          unnamed c w (Some (Dir es k)) i e = let z : is_some (node_at tree birth) ≡ true = names_nodes tree of.well_formed c es k w birth i e in let y : is_some (node_at tree birth) ≡ false = ap is_some new in cc
          unnamed c w (Some (File cells links when)) i e = cc
          unnamed c w (Some (Link target links)) i e = cc
          unnamed c w None i e = cc

      entered : (room : Room) → TakesEntry t tree.segments m d entries blocks room → HasEntered (edited_all t (enter (n.inode d) x entry room)) tree.segments mid m d (Dir (with_entry entries name birth) (grown entries blocks))
      entered room takes =
          let c = comes s tree.segments (node_at tree) n (stage_of s tree n of) birth j node may_come (inode_some h s tree n of hand j picked).1 in
          let r = still s t (node_at tree) n m birth d (Some node) (Dir entries blocks) x of.pictures c.0.pictures c.1 apart (has_inode s (node_at tree) n of.pictures d (Dir entries blocks) is) in
          let there = has_inode t mid m c.0.pictures d (Dir entries blocks) r.1.is in
          let same : inode_by m d (Dir entries blocks) ≡ x = (let z : Some (inode_by m d (Dir entries blocks)) ≡ Some x = sym there.inode ∙ r.1.inode in cc) in
          let e : entry_of m name birth ≡ entry = ap₂ (λ i k. record { name = name; inode = i; kind = k }) (put_same n.inode birth j) (put_same n.kind birth (kind_of node)) in
          let made = enters t tree.segments mid m c.0 d birth blocks entries there name absent room takes in
          let edits : edited_all t (enter (m.inode d) (inode_by m d (Dir entries blocks)) (entry_of m name birth) room) ≡ edited_all t (enter (n.inode d) x entry room) = rw (r.0, same, e) refl in
          subst (λ z. HasEntered z tree.segments mid m d (Dir (with_entry entries name birth) (grown entries blocks))) edits made

      finished : (room : Room) → TakesEntry t tree.segments m d entries blocks room → IsWellFormed result → FinishKeeps s tree n (says result reply.Ok) (made_by (n.inode d) x name birth node dirs j room)
      finished room takes well =
          let r = entered room takes in
          let edits : edited_all s (new_node j birth node ++ enter (n.inode d) x entry room) ≡ edited_all t (enter (n.inode d) x entry room) = edited_append s (new_node j birth node) (enter (n.inode d) x entry room) in
          record {
            meets = record {
              answer = refl;
              naming = r.naming;
              tree = subst (λ z. IsOfTree z result r.naming) (sym edits)
                  (of_stage (edited_all t (enter (n.inode d) x entry room)) tree.segments (put_node mid d (Some (Dir (with_entry entries name birth) (grown entries blocks)))) r.naming result r.stage same_nodes well refl of.few);
            };
            inodes = λ c there stays. r.others.inode c (ap is_some (node_other (node_at tree) birth (Some node) c (far c there)) ∙ there) ∙ put_other n.inode birth j c (far c there);
          }

      room_case : (room : Room) → IsRoomFor h s tree n d entries blocks room → Meets h s tree n (if lacks_block tree entries blocks then says tree reply.NoDirBlock else says result reply.Ok) (run (making_in h (n.inode d) x name birth node dirs j room) s)
      room_case NoRoom r = λ well. none_meets h s tree n of reply.NoDirBlock dirs (lacks_block tree entries blocks) (says result reply.Ok) (λ all. lacks_by_blocks tree entries blocks true r.0 (r.1 all))
      room_case (Inside q) r = passes h s tree n (lacks_block tree entries blocks) (says tree reply.NoDirBlock) (says result reply.Ok) (run (making_in h (n.inode d) x name birth node dirs j (Inside q)) s) (lacks_none_inside tree entries blocks r.1)
          (finished (Inside q) (record { inside = r.0.inside; vacant = r.0.vacant }, r.1))
      room_case (InBlock k) r = passes h s tree n (lacks_block tree entries blocks) (says tree reply.NoDirBlock) (says result reply.Ok) (run (making_in h (n.inode d) x name birth node dirs j (InBlock k)) s) (lacks_by_blocks tree entries blocks false r.0 r.2)
          (by_clear (must_clear h k) refl)
        where
          by_clear : (c : Bool) → must_clear h k ≡ c → Meets h s tree n (says result reply.Ok) (run (finish_in h (InBlock k) (made_by (n.inode d) x name birth node dirs j (InBlock k))) s)
          by_clear true e well = rw e e
          by_clear false e well = rw e (finished (InBlock k) (r.0, record { free = (r.3 e).free; clear = (r.3 e).clear }, r.1) well)

    inode_case : (o : Option ℕ) → nat_le 896 (length entries) ≡ false → picked_inode h.held ≡ o → Meets h s tree n (if inodes_full tree then says tree reply.NoInode else (if lacks_block tree entries blocks then says tree reply.NoDirBlock else says result reply.Ok)) (run (making_with h (n.inode d) x name birth node dirs o) s)
    inode_case None few e = λ well. none_meets h s tree n of reply.NoInode dirs (inodes_full tree) (if lacks_block tree entries blocks then says tree reply.NoDirBlock else says result reply.Ok) (inode_none h s tree n of hand e)
    inode_case (Some j) few e = rw (run-bind (find_room h x) (making_in h (n.inode d) x name birth node dirs j) s)
        (passes h s tree n (inodes_full tree) (says tree reply.NoInode) (if lacks_block tree entries blocks then says tree reply.NoDirBlock else says result reply.Ok) (run (making_in h (n.inode d) x name birth node dirs j (run (find_room h x) s)) s)
        (inode_some h s tree n of hand j e).2 (room_case j e (run (find_room h x) s) (room_found h s tree n of hand d blocks entries is few)))

    pub gap_meets : Meets h s tree n (made tree birth node (Free d entries blocks name)) (run (making h birth node dirs (AtGap (n.inode d) x name)) s)
    gap_meets = by_size (nat_le 896 (length entries)) refl
      where
        by_size : (c : Bool) → nat_le 896 (length entries) ≡ c → Meets h s tree n (if c then says tree reply.DirFull else (if inodes_full tree then says tree reply.NoInode else (if lacks_block tree entries blocks then says tree reply.NoDirBlock else says result reply.Ok)))
            (run (if c then refused reply.DirFull dirs else read_held h (making_with h (n.inode d) x name birth node dirs (picked_inode h.held))) s)
        by_size true few = λ well. refuse_meets h s tree n of reply.DirFull dirs
        by_size false few = rw (run-segments (keys_of h.held) (making_with h (n.inode d) x name birth node dirs (picked_inode h.held)) s) (inode_case (picked_inode h.held) few refl)

pub made_meets : (h : Hand) (s : Store) (tree : FileTree) (n : Naming) → IsOfTree s tree n → IsHandOf h s tree.segments → (birth : ℕ) (node : Node) → IsNew tree birth → IsBare node → (path : List (List ℕ)) →
    Meets h s tree n (made tree birth node (place tree path)) (run (plan_made h birth node path) s)
made_meets h s tree n of hand birth node new bare path =
    let w = run (walk path) s in
    rw (run-bind (walk path) (λ w. making h birth node w.dirs w.spot) s)
    (by_spot s (node_at tree) n of.pictures (λ v p. Meets h s tree n (made tree birth node p) (run (making h birth node w.dirs v) s))
    (λ well. refuse_meets h s tree n of reply.Exist w.dirs)
    (λ r well. refuse_meets h s tree n of r w.dirs)
    (λ d blocks entries name b is had well. refuse_meets h s tree n of reply.Exist w.dirs)
    (λ d blocks entries name is absent. gap_meets h s tree n of hand birth node new bare w.dirs d blocks entries name is absent)
    w.spot (place tree path) (walks_lead s tree n path of).0)

pub create_planned : CreateIsPlanned
create_planned path h s tree n birth when m of hand new = made_meets h s tree n of hand birth (File [] 1 0) new refl path (apply_keeps tree (op.Create path) birth when m of.well_formed new)

pub mkdir_planned : MkdirIsPlanned
mkdir_planned path h s tree n birth when m of hand new = made_meets h s tree n of hand birth (Dir [] 0) new (refl, refl) path (apply_keeps tree (op.Mkdir path) birth when m of.well_formed new)

pub symlink_planned : SymlinkIsPlanned
symlink_planned path target h s tree n birth when m of hand new = made_meets h s tree n of hand birth (Link target 1) new tt path (apply_keeps tree (op.Symlink path target) birth when m of.well_formed new)
