-- The plan of link is fit.
use Rattle.std.proofs.Common.{◌≡◌, ◌≢◌, ℕ, ◌+◌, ◌*◌, ◌<◌, ◌≤◌, Bool, true, false, ◌==◌, nat_le, if◌then◌else◌, Some, List, [], ◌∷◌, ◌++◌, refl, sym, ◌∙◌, subst, arith}
use Rattle.std.proofs.lemmas.Bool.Decides.{nat_tests}
use Rattle.std.proofs.lemmas.Bool.{eqb-false}
use Rattle.frang_base.specs.Name.{is_name}
use Rattle.frang_base.specs.declared.reply.Reply.TheVariants as reply
use Rattle.frang_base.proofs.Tests.{some_there}
use Rattle.tree_definitions.specs.declared.node.Node.{Node}
use Rattle.tree_definitions.specs.declared.node.Node.TheVariants.{Dir}
use Rattle.tree_definitions.specs.Entries.{Entries, entry_at}
use Rattle.tree_definitions.specs.Tree.{FileTree, node_at}
use Rattle.tree_definitions.specs.Place.{place}
use Rattle.tree_laws.proofs.Keeping.{names_nodes}
use Rattle.disk_definitions.specs.Store.{Store, StoredNode, StoredEntry}
use Rattle.disk_definitions.specs.Naming.{Naming, kind_of, entry_of}
use Rattle.disk_definitions.specs.Edits.{edited_all}
use Rattle.disk_definitions.specs.Changes.{relink}
use Rattle.disk_definitions.proofs.Kept.{inode_is}
use Rattle.disk_definitions.specs.Ask.{bind, run}
use Rattle.disk_definitions.specs.Walks.{AtName, AtGap, walk}
use Rattle.disk_definitions.specs.Plans.{Hand, Room, enter, find_room, is_full, refused}
use Rattle.disk_definitions.specs.Plans.Room.{Inside, InBlock, NoRoom}
use Rattle.disk_definitions.specs.NamePlans.{linked_by, linking_in, linking_node, linking_to, linking}
use Rattle.disk_definitions.specs.Meets.{IsOfTree, IsHandOf}
use Rattle.plan_laws.proofs.Asking.{run-bind}
use Rattle.plan_laws.proofs.Cases.{inode_by, by_spot}
use Rattle.plan_laws.proofs.Linking.{kind_are}
use Rattle.plan_laws.proofs.Walking.{walks_lead}
use Rattle.disk_definitions.specs.FitEdits.{IsFitEntry}
use Rattle.disk_definitions.specs.Allowed.{AreNames}
use Rattle.disk_definitions.specs.FitPlans.{IsFitStore, IsFitFinish, PlanIsFit}
use Rattle.plan_fit.specs.FitNames.{LinkIsFit}
use Rattle.plan_fit.proofs.Pieces.{fit_join, relink_fits, enter_fits}
use Rattle.plan_fit.proofs.OnDisk.{kind_known, node_fits}
use Rattle.plan_fit.proofs.Named.{HasName, walk_named}
use Rattle.plan_fit.proofs.FoundRooms.{Becomes, IsFound, IsClear, finished_fits, room_found, clear_after, may_enter}
use Rattle.plan_fit.proofs.Refusing.{refuse_fits, none_fits}

module _ (h : Hand) (s : Store) (tree : FileTree) (n : Naming) (of : IsOfTree s tree n) (hand : IsHandOf h s tree.segments) (fit : IsFitStore tree.segments s) where
  module _ (dirs : List ℕ) (b : ℕ) (node : Node) (at : node_at tree b ≡ Some node) (plain : (inode_by n b node).kind ≢ 2) (d blocks : ℕ) (entries : Entries) (name : List ℕ) (is : node_at tree d ≡ Some (Dir entries blocks)) (named : is_name name ≡ true) where
    abbrev x : StoredNode
    x = inode_by n d (Dir entries blocks)

    abbrev y : StoredNode
    y = inode_by n b node

    abbrev entry : StoredEntry
    entry = record { name = name; inode = n.inode b; kind = y.kind }

    entry_fits : IsFitEntry entry
    entry_fits =
        let l : n.inode b < 64 * tree.segments = (node_fits s tree n of fit b node at).0 in
        let few : tree.segments ≤ 64 = of.few in
        let k = kind_known node in
        let e : y.kind ≡ kind_of node = kind_are n b node in
        record { name = named; inode = omega arith; some = subst (λ c. 1 ≤ c) (sym e) k.0; kind = subst (λ c. c ≤ 3) (sym e) k.1 }

    abbrev end : Room → Store
    end room = edited_all s (relink (n.inode b) y (y.links + 1) ++ enter (n.inode d) x entry room)

    becomes : (room : Room) → Becomes s (end room) room
    becomes (Inside q) = refl
    becomes (InBlock k) = refl
    becomes NoRoom = refl

    module _ (few : nat_le 1000 y.links ≡ false) where
      linked_fits : (room : Room) → IsFound h blocks entries room → IsClear h room → IsFitFinish h tree.segments s (linked_by (n.inode d) x name (n.inode b) y dirs room)
      linked_fits room found clear =
          let own = node_fits s tree n of fit b node at in
          let most : y.links + 1 ≤ 1000 = grind (arith, nat_tests) in
          record {
            edits = fit_join tree.segments (end room) (relink (n.inode b) y (y.links + 1)) (enter (n.inode d) x entry room)
                (relink_fits tree.segments (end room) (n.inode b) y (y.links + 1) own.0 own.1 plain (omega arith) most)
                (enter_fits tree.segments (end room) (n.inode d) x entry room (node_fits s tree n of fit d (Dir entries blocks) is).0 entry_fits (may_enter h s tree n of hand d blocks entries is fit (end room) room found (becomes room)));
            clear = clear_after h s tree n of hand d blocks entries is (end room) room found clear (becomes room);
          }

      room_case : (room : Room) → IsFound h blocks entries room → PlanIsFit h tree.segments s (run (linking_in h (n.inode d) x name (n.inode b) y dirs room) s)
      room_case NoRoom found = none_fits h tree.segments s reply.NoDirBlock (dirs ++ n.inode b ∷ [])
      room_case (Inside q) found = finished_fits h tree.segments s (Inside q) (linked_by (n.inode d) x name (n.inode b) y dirs (Inside q)) (linked_fits (Inside q) found)
      room_case (InBlock k) found = finished_fits h tree.segments s (InBlock k) (linked_by (n.inode d) x name (n.inode b) y dirs (InBlock k)) (linked_fits (InBlock k) found)

    tested : (a c : Bool) → nat_le 1000 y.links ≡ a → PlanIsFit h tree.segments s
        (run (if a then refused reply.MLink (dirs ++ n.inode b ∷ []) else (if c then refused reply.DirFull (dirs ++ n.inode b ∷ []) else bind (find_room h x) (linking_in h (n.inode d) x name (n.inode b) y dirs))) s)
    tested true c e = refuse_fits h tree.segments s reply.MLink (dirs ++ n.inode b ∷ [])
    tested false true e = refuse_fits h tree.segments s reply.DirFull (dirs ++ n.inode b ∷ [])
    tested false false e = rw (run-bind (find_room h x) (linking_in h (n.inode d) x name (n.inode b) y dirs) s) (room_case e (run (find_room h x) s) (room_found h s tree n of hand d blocks entries is))

    gap_fits : PlanIsFit h tree.segments s (run (linking_to h (n.inode b) dirs (AtGap (n.inode d) x name)) s)
    gap_fits = subst (λ o. PlanIsFit h tree.segments s (run (linking_node h (n.inode d) x name (n.inode b) dirs o) s)) (sym (inode_is s (node_at tree) n of.pictures b node at)) (tested (nat_le 1000 y.links) (is_full x) refl)

  -- to where the second path leads
  linking_to_fits : (to : List (List ℕ)) → AreNames to → (dirs : List ℕ) (b : ℕ) (node : Node) → node_at tree b ≡ Some node → (inode_by n b node).kind ≢ 2 →
      PlanIsFit h tree.segments s (run (bind (walk to) (λ w. linking_to h (n.inode b) (dirs ++ w.dirs) w.spot)) s)
  linking_to_fits to names dirs b node at plain =
      let w = run (walk to) s in
      rw (run-bind (walk to) (λ w. linking_to h (n.inode b) (dirs ++ w.dirs) w.spot) s)
      (by_spot s (node_at tree) n of.pictures (λ v p. HasName v → PlanIsFit h tree.segments s (run (linking_to h (n.inode b) (dirs ++ w.dirs) v) s))
      (λ named. refuse_fits h tree.segments s reply.Exist (dirs ++ w.dirs))
      (λ r named. refuse_fits h tree.segments s r (dirs ++ w.dirs))
      (λ d blocks entries name c is had named. refuse_fits h tree.segments s reply.Exist (dirs ++ w.dirs))
      (λ d blocks entries name is absent named. gap_fits (dirs ++ w.dirs) b node at plain d blocks entries name is named)
      w.spot (place tree to) (walks_lead s tree n to of).0 (walk_named s to names))

  name_fits : (to : List (List ℕ)) → AreNames to → (dirs : List ℕ) (d blocks : ℕ) (entries : Entries) (name : List ℕ) (b : ℕ) → node_at tree d ≡ Some (Dir entries blocks) → entry_at entries name ≡ Some b →
      PlanIsFit h tree.segments s (run (linking h to dirs (AtName (n.inode d) (inode_by n d (Dir entries blocks)) name (n.spot d name) (entry_of n name b))) s)
  name_fits to names dirs d blocks entries name b is had = go (n.kind b == 2) refl
    where
      go : (c : Bool) → n.kind b == 2 ≡ c → PlanIsFit h tree.segments s (run (if c then refused reply.IsDir dirs else bind (walk to) (λ w. linking_to h (n.inode b) (dirs ++ w.dirs) w.spot)) s)
      go true e = refuse_fits h tree.segments s reply.IsDir dirs
      go false e =
          let r = some_there (node_at tree b) (names_nodes tree of.well_formed d entries blocks name b is had) in
          let kind : n.kind b ≡ (inode_by n b r.0).kind = of.pictures.kinds b r.0 r.1 ∙ sym (kind_are n b r.0) in
          linking_to_fits to names dirs b r.0 r.1 (subst (λ k. k ≢ 2) kind (eqb-false (n.kind b) 2 e))

pub link_fits : LinkIsFit
link_fits path to h s tree n birth when of hand fit old late allowed =
    let w = run (walk path) s in
    rw (run-bind (walk path) (λ w. linking h to w.dirs w.spot) s)
    (by_spot s (node_at tree) n of.pictures (λ v p. PlanIsFit h tree.segments s (run (linking h to w.dirs v) s))
    (refuse_fits h tree.segments s reply.IsDir w.dirs)
    (λ r. refuse_fits h tree.segments s r w.dirs)
    (name_fits h s tree n of hand fit to allowed.1 w.dirs)
    (λ d blocks entries name is absent. refuse_fits h tree.segments s reply.NoEnt w.dirs)
    w.spot (place tree path) (walks_lead s tree n path of).0)
