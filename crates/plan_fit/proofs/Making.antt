-- The plans of create, mkdir and symlink are fit.
use Rattle.std.proofs.Common.{◌≡◌, ℕ, ◌*◌, ◌<◌, ◌≤◌, Bool, true, false, if◌then◌else◌, Option, Some, None, List, [], ◌++◌, refl, arith}
use Rattle.std.specs.Map.{keys_of}
use Rattle.frang_base.specs.Name.{is_name}
use Rattle.frang_base.specs.declared.reply.Reply.TheVariants as reply
use Rattle.tree_definitions.specs.declared.node.Node.{Node}
use Rattle.tree_definitions.specs.declared.node.Node.TheVariants.{Dir, File, Link}
use Rattle.tree_definitions.specs.Entries.{Entries}
use Rattle.tree_definitions.specs.Tree.{FileTree, node_at}
use Rattle.tree_definitions.specs.Place.{place}
use Rattle.disk_definitions.specs.Store.{Store, StoredNode, StoredEntry}
use Rattle.disk_definitions.specs.Naming.{Naming, inode_of, kind_of}
use Rattle.disk_definitions.specs.Picks.{picked_inode}
use Rattle.disk_definitions.specs.Edits.{edited_all}
use Rattle.disk_definitions.specs.Changes.{new_node}
use Rattle.disk_definitions.specs.Ask.{run}
use Rattle.disk_definitions.specs.Walks.{AtGap, walk}
use Rattle.disk_definitions.specs.Plans.{Hand, Room, enter, find_room, is_full, refused, read_held}
use Rattle.disk_definitions.specs.Plans.Room.{Inside, InBlock, NoRoom}
use Rattle.disk_definitions.specs.NamePlans.{made_by, making_in, making_with, making, plan_made}
use Rattle.disk_definitions.specs.Meets.{IsOfTree, IsHandOf}
use Rattle.plan_laws.proofs.Asking.{run-bind, run-segments}
use Rattle.plan_laws.proofs.Cases.{inode_by, by_spot}
use Rattle.plan_laws.proofs.Picks.{inode_some}
use Rattle.plan_laws.proofs.Walking.{walks_lead}
use Rattle.disk_definitions.specs.FitEdits.{IsFitNode, IsFitEntry}
use Rattle.disk_definitions.specs.Allowed.{AreNames}
use Rattle.disk_definitions.specs.FitPlans.{IsFitStore, IsFitFinish, PlanIsFit}
use Rattle.plan_fit.specs.FitNames.{CreateIsFit, MkdirIsFit, SymlinkIsFit}
use Rattle.plan_fit.proofs.Links.{new_file, new_directory, new_link}
use Rattle.plan_fit.proofs.Pieces.{fit_join, new_node_fits, enter_fits}
use Rattle.plan_fit.proofs.OnDisk.{kind_known, node_fits}
use Rattle.plan_fit.proofs.Named.{HasName, walk_named}
use Rattle.plan_fit.proofs.FoundRooms.{Becomes, IsFound, IsClear, finished_fits, room_found, clear_after, may_enter}
use Rattle.plan_fit.proofs.Refusing.{refuse_fits, none_fits}

module _ (h : Hand) (s : Store) (tree : FileTree) (n : Naming) (of : IsOfTree s tree n) (hand : IsHandOf h s tree.segments) (fit : IsFitStore tree.segments s)
    (birth : ℕ) (node : Node) (whole : IsFitNode (inode_of birth (λ j. 0) 0 node)) (dirs : List ℕ) where
  module _ (d blocks : ℕ) (entries : Entries) (name : List ℕ) (is : node_at tree d ≡ Some (Dir entries blocks)) (named : is_name name ≡ true) where
    abbrev x : StoredNode
    x = inode_by n d (Dir entries blocks)

    module _ (j : ℕ) (picked : picked_inode h.held ≡ Some j) where
      abbrev entry : StoredEntry
      entry = record { name = name; inode = j; kind = kind_of node }

      entry_fits : IsFitEntry entry
      entry_fits =
          let l : j < 64 * tree.segments = (inode_some h s tree n of hand j picked).1 in
          let few : tree.segments ≤ 64 = of.few in
          record { name = named; inode = omega arith; some = (kind_known node).0; kind = (kind_known node).1 }

      abbrev end : Room → Store
      end room = edited_all s (new_node j birth node ++ enter (n.inode d) x entry room)

      becomes : (room : Room) → Becomes s (end room) room
      becomes (Inside q) = refl
      becomes (InBlock k) = refl
      becomes NoRoom = refl

      made_fits : (room : Room) → IsFound h blocks entries room → IsClear h room → IsFitFinish h tree.segments s (made_by (n.inode d) x name birth node dirs j room)
      made_fits room found clear = record {
        edits = fit_join tree.segments (end room) (new_node j birth node) (enter (n.inode d) x entry room)
            (new_node_fits tree.segments (end room) j birth node (inode_some h s tree n of hand j picked).1 whole)
            (enter_fits tree.segments (end room) (n.inode d) x entry room (node_fits s tree n of fit d (Dir entries blocks) is).0 entry_fits (may_enter h s tree n of hand d blocks entries is fit (end room) room found (becomes room)));
        clear = clear_after h s tree n of hand d blocks entries is (end room) room found clear (becomes room);
      }

      room_case : (room : Room) → IsFound h blocks entries room → PlanIsFit h tree.segments s (run (making_in h (n.inode d) x name birth node dirs j room) s)
      room_case NoRoom found = none_fits h tree.segments s reply.NoDirBlock dirs
      room_case (Inside q) found = finished_fits h tree.segments s (Inside q) (made_by (n.inode d) x name birth node dirs j (Inside q)) (made_fits (Inside q) found)
      room_case (InBlock k) found = finished_fits h tree.segments s (InBlock k) (made_by (n.inode d) x name birth node dirs j (InBlock k)) (made_fits (InBlock k) found)

    inode_case : (o : Option ℕ) → picked_inode h.held ≡ o → PlanIsFit h tree.segments s (run (making_with h (n.inode d) x name birth node dirs o) s)
    inode_case None e = none_fits h tree.segments s reply.NoInode dirs
    inode_case (Some j) e = rw (run-bind (find_room h x) (making_in h (n.inode d) x name birth node dirs j) s) (room_case j e (run (find_room h x) s) (room_found h s tree n of hand d blocks entries is))

    pub gap_fits : PlanIsFit h tree.segments s (run (making h birth node dirs (AtGap (n.inode d) x name)) s)
    gap_fits = go (is_full x)
      where
        go : (c : Bool) → PlanIsFit h tree.segments s (run (if c then refused reply.DirFull dirs else read_held h (making_with h (n.inode d) x name birth node dirs (picked_inode h.held))) s)
        go true = refuse_fits h tree.segments s reply.DirFull dirs
        go false = rw (run-segments (keys_of h.held) (making_with h (n.inode d) x name birth node dirs (picked_inode h.held)) s) (inode_case (picked_inode h.held) refl)

made_fit : (h : Hand) (s : Store) (tree : FileTree) (n : Naming) → IsOfTree s tree n → IsHandOf h s tree.segments → IsFitStore tree.segments s → (birth : ℕ) (node : Node) → IsFitNode (inode_of birth (λ j. 0) 0 node) → (path : List (List ℕ)) → AreNames path →
    PlanIsFit h tree.segments s (run (plan_made h birth node path) s)
made_fit h s tree n of hand fit birth node whole path names =
    let w = run (walk path) s in
    rw (run-bind (walk path) (λ w. making h birth node w.dirs w.spot) s)
    (by_spot s (node_at tree) n of.pictures (λ v p. HasName v → PlanIsFit h tree.segments s (run (making h birth node w.dirs v) s))
    (λ named. refuse_fits h tree.segments s reply.Exist w.dirs)
    (λ r named. refuse_fits h tree.segments s r w.dirs)
    (λ d blocks entries name b is had named. refuse_fits h tree.segments s reply.Exist w.dirs)
    (λ d blocks entries name is absent named. gap_fits h s tree n of hand fit birth node whole w.dirs d blocks entries name is named)
    w.spot (place tree path) (walks_lead s tree n path of).0 (walk_named s path names))

pub create_fits : CreateIsFit
create_fits path h s tree n birth when of hand fit old late allowed = made_fit h s tree n of hand fit birth (File [] 1 0) (new_file birth old) path allowed

pub mkdir_fits : MkdirIsFit
mkdir_fits path h s tree n birth when of hand fit old late allowed = made_fit h s tree n of hand fit birth (Dir [] 0) (new_directory birth old) path allowed

pub symlink_fits : SymlinkIsFit
symlink_fits path target h s tree n birth when of hand fit old late allowed = made_fit h s tree n of hand fit birth (Link target 1) (new_link birth target old allowed.1) path allowed.0
