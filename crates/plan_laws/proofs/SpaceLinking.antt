-- What the plan of link comes to: the node may get a link more, and then there is room for its second name.
use Rattle.std.proofs.Common.{ℕ, ◌≡◌, ◌==◌, Bool, true, false, Option, Some, None, List, [], ◌∷◌, ◌++◌, length, nat_le, if◌then◌else◌, refl, sym, subst, is_some}
use Rattle.frang_base.specs.declared.reply.Reply.TheVariants as reply
use Rattle.tree_definitions.specs.declared.node.Node.{Node}
use Rattle.tree_definitions.specs.declared.node.Node.TheVariants.{Dir, File, Link}
use Rattle.tree_definitions.specs.Entries.{Entries, entry_at}
use Rattle.tree_definitions.specs.Tree.{FileTree, node_at, must_grow}
use Rattle.tree_definitions.specs.Place.{Taken, Free, place}
use Rattle.tree_definitions.specs.Apply.{is_dir, links_of}
use Rattle.tree_laws.proofs.Keeping.{names_nodes}
use Rattle.disk_definitions.specs.Store.{Store, StoredNode}
use Rattle.disk_definitions.specs.Naming.{Naming, entry_of}
use Rattle.disk_definitions.specs.Picks.{picked_inode}
use Rattle.disk_definitions.proofs.Kept.{inode_is}
use Rattle.disk_definitions.specs.Ask.{ReadInode, bind, run}
use Rattle.disk_definitions.specs.Walks.{AtName, AtGap, walk}
use Rattle.disk_definitions.specs.Plans.{Hand, Room, find_room, refused}
use Rattle.disk_definitions.specs.Plans.Room.{Inside, InBlock, NoRoom}
use Rattle.disk_definitions.specs.NamePlans.{linked_by, linking_in, linking_node, linking_to, linking, plan_linked}
use Rattle.disk_definitions.specs.Meets.{IsOfTree}
use Rattle.plan_laws.proofs.Asking.{run-bind}
use Rattle.plan_laws.proofs.Cases.{inode_by, by_spot}
use Rattle.plan_laws.proofs.Linking.{links_are}
use Rattle.plan_laws.proofs.Walking.{walks_lead}
use Rattle.plan_laws.proofs.Covering.{IsFine, walk_fine}
use Rattle.plan_laws.specs.Wants.{Wants, wants_name, wants_second, wants_linked}
use Rattle.plan_laws.proofs.Outcomes.{Outcome}
use Rattle.plan_laws.proofs.Rooms.{IsRoom, room_found, no_room, in_place, in_new_block}

module _ (h : Hand) (s : Store) (tree : FileTree) (n : Naming) (of : IsOfTree s tree n) (dirs : List ℕ) (b : ℕ) (node : Node) (at : node_at tree b ≡ Some node) (d blocks : ℕ) (entries : Entries) (name : List ℕ) (is : node_at tree d ≡ Some (Dir entries blocks)) where
  abbrev x : StoredNode
  x = inode_by n d (Dir entries blocks)

  abbrev y : StoredNode
  y = inode_by n b node

  abbrev grows : Bool
  grows = must_grow entries blocks

  abbrev w : Wants
  w = record { inode = false; grows = grows; large = false; small = 0 }

  some : false ≡ true → picked_inode h.held ≡ None → ⊥
  some t e = cc

  room_case : (room : Room) → IsRoom h grows room → Outcome h (Some w) (run (linking_in h (n.inode d) x name (n.inode b) y dirs room) s)
  room_case NoRoom r = no_room h s false grows some r reply.NoDirBlock (dirs ++ n.inode b ∷ []) refl
  room_case (Inside q) r = in_place h s false grows some q r (linked_by (n.inode d) x name (n.inode b) y dirs (Inside q)) refl
  room_case (InBlock k) r = in_new_block h s false grows some k r (linked_by (n.inode d) x name (n.inode b) y dirs (InBlock k)) refl

  by_size : (c : Bool) → nat_le 896 (length entries) ≡ c → Outcome h (if c then None else Some w) (run (if c then refused reply.DirFull (dirs ++ n.inode b ∷ []) else bind (find_room h x) (linking_in h (n.inode d) x name (n.inode b) y dirs)) s)
  by_size true few = refl
  by_size false few = rw (run-bind (find_room h x) (linking_in h (n.inode d) x name (n.inode b) y dirs) s) (room_case (run (find_room h x) s) (room_found h s tree n of d blocks entries is few))

  by_links : (c : Bool) → Outcome h (if c then None else wants_name false entries blocks)
      (run (if c then refused reply.MLink (dirs ++ n.inode b ∷ []) else (if nat_le 896 (length entries) then refused reply.DirFull (dirs ++ n.inode b ∷ []) else bind (find_room h x) (linking_in h (n.inode d) x name (n.inode b) y dirs))) s)
  by_links true = refl
  by_links false = by_size (nat_le 896 (length entries)) refl

  -- a second name that isn't there
  gap_outcome : Outcome h (if nat_le 1000 (links_of (Some node)) then None else wants_name false entries blocks) (run (ReadInode (n.inode b) (linking_node h (n.inode d) x name (n.inode b) dirs)) s)
  gap_outcome =
      subst (λ o. Outcome h (if nat_le 1000 (links_of (Some node)) then None else wants_name false entries blocks) (run (linking_node h (n.inode d) x name (n.inode b) dirs o) s)) (sym (inode_is s (node_at tree) n of.pictures b node at))
      (subst (λ k. Outcome h (if nat_le 1000 k then None else wants_name false entries blocks) (run (linking_node h (n.inode d) x name (n.inode b) dirs (Some y)) s)) (sym (links_are n b node)) (by_links (nat_le 1000 y.links)))

  pub second_outcome : Outcome h (wants_second tree b (Free d entries blocks name)) (run (linking_to h (n.inode b) dirs (AtGap (n.inode d) x name)) s)
  second_outcome = subst (λ o. Outcome h (if nat_le 1000 (links_of o) then None else wants_name false entries blocks) (run (linking_to h (n.inode b) dirs (AtGap (n.inode d) x name)) s)) (sym at) gap_outcome

module _ (h : Hand) (s : Store) (tree : FileTree) (n : Naming) (of : IsOfTree s tree n) (to : List (List ℕ)) (dirs : List ℕ) where
  -- of a node that is no directory
  to_outcome : (b : ℕ) (node : Node) → node_at tree b ≡ Some node → Outcome h (wants_second tree b (place tree to)) (run (bind (walk to) (λ w. linking_to h (n.inode b) (dirs ++ w.dirs) w.spot)) s)
  to_outcome b node at =
      let w = run (walk to) s in
      rw (run-bind (walk to) (λ w. linking_to h (n.inode b) (dirs ++ w.dirs) w.spot) s)
      (by_spot s (node_at tree) n of.pictures (λ v p. IsFine v → Outcome h (wants_second tree b p) (run (linking_to h (n.inode b) (dirs ++ w.dirs) v) s))
      (λ f. refl)
      (λ r f. f)
      (λ d blocks entries name c is had f. refl)
      (λ d blocks entries name is absent f. second_outcome h s tree n of (dirs ++ w.dirs) b node at d blocks entries name is)
      w.spot (place tree to) (walks_lead s tree n to of).0 (walk_fine s to))

  by_node : (b : ℕ) (o : Option Node) → node_at tree b ≡ o → is_some o ≡ true →
      Outcome h (if is_dir o then None else wants_second tree b (place tree to)) (run (if n.kind b == 2 then refused reply.IsDir dirs else bind (walk to) (λ w. linking_to h (n.inode b) (dirs ++ w.dirs) w.spot)) s)
  by_node b None e some = absurd (cc)
  by_node b (Some (Dir es k)) e some = rw (of.pictures.kinds b (Dir es k) e) refl
  by_node b (Some (File cells links when)) e some = rw (of.pictures.kinds b (File cells links when) e) (to_outcome b (File cells links when) e)
  by_node b (Some (Link target links)) e some = rw (of.pictures.kinds b (Link target links) e) (to_outcome b (Link target links) e)

  pub name_outcome : (d blocks : ℕ) (entries : Entries) (name : List ℕ) (b : ℕ) → node_at tree d ≡ Some (Dir entries blocks) → entry_at entries name ≡ Some b →
      Outcome h (wants_linked tree (Taken d entries blocks name b) (place tree to)) (run (linking h to dirs (AtName (n.inode d) (inode_by n d (Dir entries blocks)) name (n.spot d name) (entry_of n name b))) s)
  name_outcome d blocks entries name b is had = by_node b (node_at tree b) refl (names_nodes tree of.well_formed d entries blocks name b is had)

pub linked_outcome : (h : Hand) (s : Store) (tree : FileTree) (n : Naming) → IsOfTree s tree n → (path to : List (List ℕ)) → Outcome h (wants_linked tree (place tree path) (place tree to)) (run (plan_linked h path to) s)
linked_outcome h s tree n of path to =
    let w = run (walk path) s in
    rw (run-bind (walk path) (λ w. linking h to w.dirs w.spot) s)
    (by_spot s (node_at tree) n of.pictures (λ v p. IsFine v → Outcome h (wants_linked tree p (place tree to)) (run (linking h to w.dirs v) s))
    (λ f. refl)
    (λ r f. f)
    (λ d blocks entries name b is had f. name_outcome h s tree n of to w.dirs d blocks entries name b is had)
    (λ d blocks entries name is absent f. refl)
    w.spot (place tree path) (walks_lead s tree n path of).0 (walk_fine s path))
