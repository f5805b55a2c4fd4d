-- What the plans of create, mkdir and symlink come to: an inode first, and then room for the name.
use Rattle.std.proofs.Common.{ℕ, ◌≡◌, Bool, true, false, Option, Some, None, List, length, nat_le, if◌then◌else◌, refl, inl}
use Rattle.std.specs.Map.{keys_of}
use Rattle.frang_base.specs.declared.reply.Reply.TheVariants as reply
use Rattle.tree_definitions.specs.declared.node.Node.{Node}
use Rattle.tree_definitions.specs.declared.node.Node.TheVariants.{Dir}
use Rattle.tree_definitions.specs.Entries.{Entries}
use Rattle.tree_definitions.specs.Tree.{FileTree, node_at, must_grow}
use Rattle.tree_definitions.specs.Place.{Free, place}
use Rattle.disk_definitions.specs.Store.{Store, StoredNode}
use Rattle.disk_definitions.specs.Naming.{Naming}
use Rattle.disk_definitions.specs.Picks.{picked_inode}
use Rattle.disk_definitions.specs.Ask.{run}
use Rattle.disk_definitions.specs.Walks.{AtGap, walk}
use Rattle.disk_definitions.specs.Plans.{Hand, Room, find_room, refused, read_held}
use Rattle.disk_definitions.specs.Plans.Room.{Inside, InBlock, NoRoom}
use Rattle.disk_definitions.specs.NamePlans.{made_by, making_in, making_with, making, plan_made}
use Rattle.disk_definitions.specs.Meets.{IsOfTree}
use Rattle.plan_laws.proofs.Asking.{run-bind, run-segments}
use Rattle.plan_laws.proofs.Cases.{inode_by, by_spot}
use Rattle.plan_laws.proofs.Walking.{walks_lead}
use Rattle.plan_laws.proofs.Covering.{IsFine, walk_fine}
use Rattle.plan_laws.specs.Wants.{Wants, wants_made}
use Rattle.plan_laws.proofs.Outcomes.{Outcome, none_outcome}
use Rattle.plan_laws.proofs.Rooms.{IsRoom, room_found, no_room, in_place, in_new_block}

module _ (h : Hand) (s : Store) (tree : FileTree) (n : Naming) (of : IsOfTree s tree n) (birth : ℕ) (node : Node) (dirs : List ℕ) where
  module _ (d blocks : ℕ) (entries : Entries) (name : List ℕ) (is : node_at tree d ≡ Some (Dir entries blocks)) where
    abbrev x : StoredNode
    x = inode_by n d (Dir entries blocks)

    abbrev grows : Bool
    grows = must_grow entries blocks

    abbrev w : Wants
    w = record { inode = true; grows = grows; large = false; small = 0 }

    module _ (j : ℕ) (picked : picked_inode h.held ≡ Some j) where
      some : true ≡ true → picked_inode h.held ≡ None → ⊥
      some t e = cc

      room_case : (room : Room) → IsRoom h grows room → Outcome h (Some w) (run (making_in h (n.inode d) x name birth node dirs j room) s)
      room_case NoRoom r = no_room h s true grows some r reply.NoDirBlock dirs refl
      room_case (Inside q) r = in_place h s true grows some q r (made_by (n.inode d) x name birth node dirs j (Inside q)) refl
      room_case (InBlock k) r = in_new_block h s true grows some k r (made_by (n.inode d) x name birth node dirs j (InBlock k)) refl

    inode_case : (o : Option ℕ) → nat_le 896 (length entries) ≡ false → picked_inode h.held ≡ o → Outcome h (Some w) (run (making_with h (n.inode d) x name birth node dirs o) s)
    inode_case None few e = none_outcome h s w reply.NoInode dirs refl (inl (refl, e))
    inode_case (Some j) few e = rw (run-bind (find_room h x) (making_in h (n.inode d) x name birth node dirs j) s) (room_case j e (run (find_room h x) s) (room_found h s tree n of d blocks entries is few))

    gap_outcome : Outcome h (wants_made (Free d entries blocks name)) (run (making h birth node dirs (AtGap (n.inode d) x name)) s)
    gap_outcome = by_size (nat_le 896 (length entries)) refl
      where
        by_size : (c : Bool) → nat_le 896 (length entries) ≡ c → Outcome h (if c then None else Some w) (run (if c then refused reply.DirFull dirs else read_held h (making_with h (n.inode d) x name birth node dirs (picked_inode h.held))) s)
        by_size true few = refl
        by_size false few = rw (run-segments (keys_of h.held) (making_with h (n.inode d) x name birth node dirs (picked_inode h.held)) s) (inode_case (picked_inode h.held) few refl)

pub made_outcome : (h : Hand) (s : Store) (tree : FileTree) (n : Naming) → IsOfTree s tree n → (birth : ℕ) (node : Node) (path : List (List ℕ)) → Outcome h (wants_made (place tree path)) (run (plan_made h birth node path) s)
made_outcome h s tree n of birth node path =
    let w = run (walk path) s in
    rw (run-bind (walk path) (λ w. making h birth node w.dirs w.spot) s)
    (by_spot s (node_at tree) n of.pictures (λ v p. IsFine v → Outcome h (wants_made p) (run (making h birth node w.dirs v) s))
    (λ f. refl)
    (λ r f. f)
    (λ d blocks entries name b is had f. refl)
    (λ d blocks entries name is absent f. gap_outcome h s tree n of birth node w.dirs d blocks entries name is)
    w.spot (place tree path) (walks_lead s tree n path of).0 (walk_fine s path))
