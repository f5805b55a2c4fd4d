-- A fact of a spot and of the place that it mirrors, by the four sorts of places, with what the sectors say by the naming.
use Rattle.std.proofs.Common.{ℕ, ◌≡◌, Some, None, List}
use Rattle.frang_base.specs.declared.reply.Reply.{Reply}
use Rattle.tree_definitions.specs.declared.node.Node.{Node}
use Rattle.tree_definitions.specs.declared.node.Node.TheVariants.{Dir}
use Rattle.tree_definitions.specs.Entries.{Entries, entry_at}
use Rattle.tree_definitions.specs.Place.{Place, Root, Taken, Free, Nowhere}
use Rattle.disk_definitions.specs.Store.{Store, StoredNode}
use Rattle.disk_definitions.specs.Naming.{Naming, Nodes, Pictures, inode_of, entry_of}
use Rattle.disk_definitions.specs.ChangeLaws.{HasInode}
use Rattle.disk_definitions.proofs.Kept.{inode_is}
use Rattle.disk_definitions.proofs.Entry.{stored_is}
use Rattle.disk_definitions.specs.Walks.{Spot, AtRoot, AtName, AtGap, Lost}
use Rattle.plan_laws.specs.Walking.{Mirrors}

-- what stands in the inode of a node
abbrev pub inode_by : Naming → ℕ → Node → StoredNode
inode_by n b node = inode_of (n.stamp b) (n.block b) (n.large b) node

pub has_inode : (s : Store) (at : Nodes) (n : Naming) → Pictures s at n → (b : ℕ) (node : Node) → at b ≡ Some node → HasInode s at n b node (inode_by n b node)
has_inode s at n g b node is = record { is = is; inode = inode_is s at n g b node is }

module _ (s : Store) (at : Nodes) (n : Naming) (g : Pictures s at n) (P : Spot → Place → Type 0) (root : P AtRoot Root) (lost : (r : Reply) → P (Lost r) (Nowhere r))
    (taken : (d blocks : ℕ) (entries : Entries) (name : List ℕ) (b : ℕ) → at d ≡ Some (Dir entries blocks) → entry_at entries name ≡ Some b → P (AtName (n.inode d) (inode_by n d (Dir entries blocks)) name (n.spot d name) (entry_of n name b)) (Taken d entries blocks name b))
    (free : (d blocks : ℕ) (entries : Entries) (name : List ℕ) → at d ≡ Some (Dir entries blocks) → entry_at entries name ≡ None → P (AtGap (n.inode d) (inode_by n d (Dir entries blocks)) name) (Free d entries blocks name)) where
  pub by_spot : (v : Spot) (p : Place) → Mirrors s at n v p → P v p
  by_spot AtRoot Root m = root
  by_spot (Lost r) (Nowhere z) m = rw m (lost z)
  by_spot (AtName i x w q e) (Taken d entries blocks u b) m =
      rw (m.0.number, stored_is s at n g d (Dir entries blocks) x m.0.has.is m.0.has.inode, m.1, m.3, m.4) (taken d blocks entries u b m.0.has.is m.2)
  by_spot (AtGap i x w) (Free d entries blocks u) m =
      rw (m.0.number, stored_is s at n g d (Dir entries blocks) x m.0.has.is m.0.has.inode, m.1) (free d blocks entries u m.0.has.is m.2)
  by_spot AtRoot (Taken d entries blocks u b) m = absurd m
  by_spot AtRoot (Free d entries blocks u) m = absurd m
  by_spot AtRoot (Nowhere z) m = absurd m
  by_spot (AtName i x w q e) Root m = absurd m
  by_spot (AtName i x w q e) (Free d entries blocks u) m = absurd m
  by_spot (AtName i x w q e) (Nowhere z) m = absurd m
  by_spot (AtGap i x w) Root m = absurd m
  by_spot (AtGap i x w) (Taken d entries blocks u b) m = absurd m
  by_spot (AtGap i x w) (Nowhere z) m = absurd m
  by_spot (Lost r) Root m = absurd m
  by_spot (Lost r) (Taken d entries blocks u b) m = absurd m
  by_spot (Lost r) (Free d entries blocks u) m = absurd m
