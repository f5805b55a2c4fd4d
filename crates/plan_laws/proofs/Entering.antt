-- An entry comes into a directory: in the first free place, or in a block that the directory takes.
use Rattle.std.proofs.Common.{ℕ, ◌≡◌, ◌<◌, ◌+◌, ◌*◌, ◌/◌, ◌%◌, Bool, true, false, nat_le, nat_lt, if◌then◌else◌, Option, Some, None, List, length, refl, sym, ◌∙◌, ap, ap₂, subst, arith, is_some}
use Rattle.std.proofs.lemmas.Bool.Decides.{nat_tests}
use Rattle.tree_definitions.specs.declared.node.Node.{Node}
use Rattle.tree_definitions.specs.declared.node.Node.TheVariants.{Dir}
use Rattle.tree_definitions.specs.Entries.{Entries, entry_at, with_entry}
use Rattle.tree_definitions.specs.Tree.{FileTree, node_at, must_grow, grown, blocks_full, lacks_block}
use Rattle.frang_base.specs.Functions.{put}
use Rattle.frang_base.proofs.Basics.{put_same}
use Rattle.tree_definitions.specs.WellFormed.{put as put_node}
use Rattle.tree_definitions.proofs.Births.{each_but}
use Rattle.tree_laws.proofs.Nodes.{put_same as node_same, put_other as node_other}
use Rattle.disk_definitions.specs.Store.{Store, StoredNode, StoredEntry}
use Rattle.disk_definitions.specs.Naming.{Naming, Nodes, first_blocks, entry_of, place_of, dir_place}
use Rattle.disk_definitions.specs.Least.{least}
use Rattle.disk_definitions.specs.Picks.{picked_directory}
use Rattle.disk_definitions.specs.Edits.{edited_all}
use Rattle.disk_definitions.specs.Changes.{put_entry, grow}
use Rattle.disk_definitions.specs.Namings.{named_at, named_block, KeepsOthers}
use Rattle.disk_definitions.specs.ChangeLaws.{HasInode, IsFreePlace, IsFreeBlock}
use Rattle.disk_definitions.proofs.Puts.{put_twice, edited_append}
use Rattle.disk_definitions.proofs.Names.{names_come}
use Rattle.disk_definitions.proofs.Free.{no_entries}
use Rattle.std.specs.Map.{keys_of}
use Rattle.disk_definitions.specs.Ask.{Got, run}
use Rattle.disk_definitions.specs.Walks.{search, is_vacant}
use Rattle.disk_definitions.specs.Plans.{Hand, Room, room_at, room_in, read_held, find_room, with_block, enter, must_clear}
use Rattle.disk_definitions.specs.Plans.Room.{Inside, InBlock, NoRoom}
use Rattle.disk_definitions.specs.Meets.{IsOfTree, IsHandOf}
use Rattle.plan_laws.proofs.Asking.{run-bind, run-segments}
use Rattle.plan_laws.proofs.Searching.{found_in, run-search}
use Rattle.plan_laws.proofs.Cases.{inode_by}
use Rattle.plan_laws.proofs.Picks.{block_some, block_clear, block_none}
use Rattle.plan_laws.proofs.Places.{free_place, place_some, place_none}
use Rattle.plan_laws.proofs.Stages.{IsStage, gets, grows}

-- ---- the room that is found

-- what is found of a directory, against what the tree says of it
abbrev pub IsRoomFor : Hand → Store → FileTree → Naming → ℕ → Entries → ℕ → Room → Type 0
IsRoomFor h s tree n d entries blocks (Inside q) = IsFreePlace s n d blocks q × (must_grow entries blocks ≡ false)
IsRoomFor h s tree n d entries blocks (InBlock k) = (must_grow entries blocks ≡ true) × (k < 1024 * tree.segments) × (blocks_full tree ≡ false) × (must_clear h k ≡ false → IsFreeBlock s k)
IsRoomFor h s tree n d entries blocks NoRoom = (must_grow entries blocks ≡ true) × (h.all ≡ true → blocks_full tree ≡ true)

module _ (h : Hand) (s : Store) (tree : FileTree) (n : Naming) (of : IsOfTree s tree n) (hand : IsHandOf h s tree.segments) (d blocks : ℕ) (entries : Entries) (is : node_at tree d ≡ Some (Dir entries blocks)) (few : nat_le 896 (length entries) ≡ false) where
  abbrev x : StoredNode
  x = inode_by n d (Dir entries blocks)

  abbrev row : ℕ → Option StoredEntry
  row = place_of s.place (first_blocks blocks (n.block d))

  abbrev vacant : ℕ → Bool
  vacant q = is_vacant (row q)

  in_block : (o : Option ℕ) → picked_directory h.held ≡ o → must_grow entries blocks ≡ true → IsRoomFor h s tree n d entries blocks (room_in o)
  in_block None e grow = (grow, block_none h s tree n of hand e)
  in_block (Some k) e grow = let r = block_some h s tree n of hand k e in (grow, r.1, r.2, block_clear h s tree n of hand k e)

  room_is : (o : Option ℕ) → least vacant (56 * blocks) ≡ o → IsRoomFor h s tree n d entries blocks (run (room_at h x (found_in row o)) s)
  room_is (Some q) e =
      (free_place s (node_at tree) n of.pictures d blocks entries is (of.well_formed.names d entries blocks is) q e, place_some s (node_at tree) n of.pictures d blocks entries is (of.well_formed.names d entries blocks is) q e)
  room_is None e = by_blocks (nat_lt blocks 16) refl (place_none s (node_at tree) n of.pictures d blocks entries is (of.well_formed.names d entries blocks is) e)
    where
      -- with 16 blocks the directory would have 896 entries
      by_blocks : (c : Bool) → nat_lt blocks 16 ≡ c → must_grow entries blocks ≡ true → IsRoomFor h s tree n d entries blocks (run (if c then read_held h (Got (room_in (picked_directory h.held))) else Got NoRoom) s)
      by_blocks true f grow = rw (run-segments (keys_of h.held) (Got (room_in (picked_directory h.held))) s) (in_block (picked_directory h.held) refl grow)
      by_blocks false f grow =
          let impossible : ⊥ = grind (arith, nat_tests, f, grow, few) in
          absurd impossible

  pub room_found : IsRoomFor h s tree n d entries blocks (run (find_room h x) s)
  room_found =
      let size : 7 * (8 * blocks) ≡ 56 * blocks = omega arith in
      let e : run (search x.small is_vacant 0 (8 * blocks)) s ≡ found_in row (least vacant (56 * blocks)) = run-search x.small is_vacant s (8 * blocks) ∙ ap (λ k. found_in row (least vacant k)) size in
      subst (λ r. IsRoomFor h s tree n d entries blocks r) (sym (run-bind (search x.small is_vacant 0 (8 * blocks)) (room_at h x) s ∙ ap (λ f. run (room_at h x f) s) e))
      (room_is (least vacant (56 * blocks)) refl)

-- whether the tree lacks the block
pub lacks_none_inside : (tree : FileTree) (entries : Entries) (blocks : ℕ) → must_grow entries blocks ≡ false → lacks_block tree entries blocks ≡ false
lacks_none_inside tree entries blocks e = rw e refl

pub lacks_by_blocks : (tree : FileTree) (entries : Entries) (blocks : ℕ) (full : Bool) → must_grow entries blocks ≡ true → blocks_full tree ≡ full → lacks_block tree entries blocks ≡ full
lacks_by_blocks tree entries blocks full e f = rw e f

-- ---- the entry comes

-- a change and then another of one birth
pub keeps_twice : (at : Nodes) (d : ℕ) (node : Node) (n m k : Naming) → is_some (at d) ≡ true → KeepsOthers at d n m → KeepsOthers (put_node at d (Some node)) d m k → KeepsOthers at d n k
keeps_twice at d node n m k some a b = record {
  inode = λ c e. b.inode c (there c e) ∙ a.inode c e;
  kind = λ c e. b.kind c (there c e) ∙ a.kind c e;
  stamp = λ c e. b.stamp c (there c e) ∙ a.stamp c e;
  block = λ c f. b.block c f ∙ a.block c f;
  large = λ c f. b.large c f ∙ a.large c f;
  spot = λ c f. b.spot c f ∙ a.spot c f;
  birth = λ i c f. (λ e. (a.birth i c f).0 ((b.birth i c f).0 e), λ e. (b.birth i c f).1 ((a.birth i c f).1 e));
  owner = λ i c j f. (λ e. (a.owner i c j f).0 ((b.owner i c j f).0 e), λ e. (b.owner i c j f).1 ((a.owner i c j f).1 e));
  large_owner = λ i c f. (λ e. (a.large_owner i c f).0 ((b.large_owner i c f).0 e), λ e. (b.large_owner i c f).1 ((a.large_owner i c f).1 e));
}
  where
    there : (c : ℕ) → is_some (at c) ≡ true → is_some (put_node at d (Some node) c) ≡ true
    there c = each_but (λ c. is_some (at c) ≡ true → is_some (put_node at d (Some node) c) ≡ true) d (λ e. ap is_some (node_same at d (Some node))) (λ c f e. ap is_some (node_other at d (Some node) c f) ∙ e) c

-- the store with the entry, and its naming
pub record HasEntered (t : Store) (segments : ℕ) (at : Nodes) (n : Naming) (d : ℕ) (node : Node) : Type 0 where
  pub naming : Naming
  pub stage : IsStage t segments (put_node at d (Some node)) naming
  pub others : KeepsOthers at d n naming

module _ (s : Store) (segments : ℕ) (at : Nodes) (n : Naming) (stage : IsStage s segments at n) (d b blocks : ℕ) (entries : Entries) (has : HasInode s at n d (Dir entries blocks) (inode_by n d (Dir entries blocks))) (name : List ℕ) (absent : entry_at entries name ≡ None) where
  abbrev old : StoredNode
  old = inode_by n d (Dir entries blocks)

  abbrev new : Entries
  new = with_entry entries name b

  abbrev Enters : ℕ → Room → Type 0
  Enters more room = HasEntered (edited_all s (enter (n.inode d) old (entry_of n name b) room)) segments at n d (Dir new more)

  pub enters_inside : (q : ℕ) → IsFreePlace s n d blocks q → Enters blocks (Inside q)
  enters_inside q free =
      let r = gets s segments at n stage d blocks q b old entries new name has (names_come entries name b absent) free in
      record { naming = named_at n d name q; stage = r.0; others = r.1 }

  pub enters_block : (k : ℕ) → IsFreeBlock s k → k < 1024 * segments → Enters (blocks + 1) (InBlock k)
  enters_block k free l =
      let t = edited_all s (grow (n.inode d) old k) in
      let m = named_block n d blocks k in
      let mid = put_node at d (Some (Dir entries (blocks + 1))) in
      let r = grows s segments at n stage d blocks k old entries has free l in
      let there : HasInode t mid m d (Dir entries (blocks + 1)) (with_block old k) = record { is = node_same at d (Some (Dir entries (blocks + 1))); inode = put_same s.inode (n.inode d) (Some (with_block old k)) } in
      let first : (56 * blocks) / 56 ≡ blocks = omega arith in
      let rest : (56 * blocks) % 56 ≡ 0 = omega arith in
      let block : m.block d ((56 * blocks) / 56) ≡ k = ap (m.block d) first ∙ ap (λ f. f blocks) (put_same n.block d (put (n.block d) blocks k)) ∙ put_same (n.block d) blocks k in
      let vacant : dir_place t m d (56 * blocks) ≡ None = ap₂ (λ c p. s.place c p) block rest ∙ no_entries s at n stage.pictures k free 0 (omega arith) in
      let u = gets t segments mid m r.0 d (blocks + 1) (56 * blocks) b (with_block old k) entries new name there (names_come entries name b absent) (record { inside = omega arith; vacant = vacant }) in
      let same : put_node mid d (Some (Dir new (blocks + 1))) ≡ put_node at d (Some (Dir new (blocks + 1))) = put_twice at d (Some (Dir entries (blocks + 1))) (Some (Dir new (blocks + 1))) in
      let edits : edited_all s (enter (n.inode d) old (entry_of n name b) (InBlock k)) ≡ edited_all t (put_entry (n.inode d) (with_block old k) (56 * blocks) (entry_of n name b)) = edited_append s (grow (n.inode d) old k) (put_entry (n.inode d) (with_block old k) (56 * blocks) (entry_of n name b)) in
      record {
        naming = named_at m d name (56 * blocks);
        stage = subst (λ z. IsStage z segments (put_node at d (Some (Dir new (blocks + 1)))) (named_at m d name (56 * blocks))) (sym edits) (subst (λ f. IsStage (edited_all t (put_entry (n.inode d) (with_block old k) (56 * blocks) (entry_of n name b))) segments f (named_at m d name (56 * blocks))) same u.0);
        others = keeps_twice at d (Dir entries (blocks + 1)) n m (named_at m d name (56 * blocks)) (ap is_some has.is) r.1 u.1;
      }

-- room that needs no clearing
abbrev pub TakesEntry : Store → ℕ → Naming → ℕ → Entries → ℕ → Room → Type 0
TakesEntry s segments n d entries blocks (Inside q) = IsFreePlace s n d blocks q × (must_grow entries blocks ≡ false)
TakesEntry s segments n d entries blocks (InBlock k) = (must_grow entries blocks ≡ true) × IsFreeBlock s k × (k < 1024 * segments)
TakesEntry s segments n d entries blocks NoRoom = ⊥

pub enters : (s : Store) (segments : ℕ) (at : Nodes) (n : Naming) → IsStage s segments at n → (d b blocks : ℕ) (entries : Entries) → HasInode s at n d (Dir entries blocks) (inode_by n d (Dir entries blocks)) → (name : List ℕ) → entry_at entries name ≡ None →
    (room : Room) → TakesEntry s segments n d entries blocks room → HasEntered (edited_all s (enter (n.inode d) (inode_by n d (Dir entries blocks)) (entry_of n name b) room)) segments at n d (Dir (with_entry entries name b) (grown entries blocks))
enters s segments at n stage d b blocks entries has name absent (Inside q) r = rw r.1 (enters_inside s segments at n stage d b blocks entries has name absent q r.0)
enters s segments at n stage d b blocks entries has name absent (InBlock k) r = rw r.0 (enters_block s segments at n stage d b blocks entries has name absent k r.1 r.2)
enters s segments at n stage d b blocks entries has name absent NoRoom r = absurd r
