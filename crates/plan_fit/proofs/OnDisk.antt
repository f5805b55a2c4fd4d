-- What the nodes of a tree have of a disk is the disk's.
use Rattle.std.proofs.Common.{◌≡◌, ◌≢◌, ℕ, ◌+◌, ◌-◌, ◌*◌, ◌/◌, ◌<◌, ◌≤◌, ⊎_elim, Bool, true, false, ◌==◌, nat_lt, if◌then◌else◌, Some, List, length, refl, sym, ◌∙◌, ap, subst, arith, is_some}
use Rattle.std.proofs.lemmas.Bool.{cases_lt}
use Rattle.frang_base.specs.Name.{is_name}
use Rattle.tree_definitions.specs.declared.cells.Cell.{Cell}
use Rattle.tree_definitions.specs.declared.node.Node.{Node}
use Rattle.tree_definitions.specs.declared.node.Node.TheVariants.{Dir, File, Link}
use Rattle.tree_definitions.specs.Entries.{Entries, entry_at}
use Rattle.tree_definitions.specs.Tree.{FileTree, node_at, small_blocks_of}
use Rattle.disk_definitions.specs.Store.{Store}
use Rattle.disk_definitions.specs.Store.Use.{Fresh, Bytes, Entries as OfEntries}
use Rattle.disk_definitions.specs.Naming.{Naming, kind_of, blocks_of, has_large, room_in, find_in, first_blocks, use_by, use_for, entry_of}
use Rattle.disk_definitions.specs.Changes.{freed}
use Rattle.disk_definitions.proofs.Rooms.{which_block}
use Rattle.disk_definitions.proofs.Kept.{inode_is}
use Rattle.disk_definitions.specs.Meets.{IsOfTree, is_directory_use}
use Rattle.plan_laws.proofs.Cases.{inode_by}
use Rattle.disk_definitions.specs.FitEdits.{IsFitNode, IsFitEntry}
use Rattle.disk_definitions.specs.FitPlans.{IsFitStore}
use Rattle.disk_definitions.proofs.NodeLaws.{first_past, first_is}
use Rattle.plan_fit.proofs.Directories.{directory_bounds, directory_fits}
use Rattle.plan_fit.proofs.Pieces.{IsPlaced, IsOnDisk}

pub kind_known : (node : Node) → (1 ≤ kind_of node) × (kind_of node ≤ 3)
kind_known (Dir entries blocks) = (omega arith, omega arith)
kind_known (File cells links when) = (omega arith, omega arith)
kind_known (Link target links) = (omega arith, omega arith)

module _ (s : Store) (tree : FileTree) (n : Naming) (of : IsOfTree s tree n) where
  in_disk : (k : ℕ) → s.use_of k ≢ Fresh → k < 1024 * tree.segments
  in_disk k h = ⊎_elim (λ l. l) (λ g. absurd (h (of.blocks k g))) (cases_lt k (1024 * tree.segments))

  owned_use : (b j : ℕ) (node : Node) → node_at tree b ≡ Some node → j < blocks_of (Some node) → s.use_of (n.block b j) ≡ use_by (Some node)
  owned_use b j node is l =
      let m : j < blocks_of (node_at tree b) = subst (λ o. j < blocks_of o) (sym is) l in
      of.pictures.uses (n.block b j) ∙ ap (use_for (n.was (n.block b j)) (node_at tree)) (of.pictures.owned b j m) ∙ ap use_by is

  entries_in_disk : (k : ℕ) → s.use_of k ≡ OfEntries → k < 1024 * tree.segments
  entries_in_disk k e = in_disk k (λ f. let z : OfEntries ≡ Fresh = sym e ∙ f in cc)

  bytes_in_disk : (k : ℕ) → s.use_of k ≡ Bytes → k < 1024 * tree.segments
  bytes_in_disk k e = in_disk k (λ f. let z : Bytes ≡ Fresh = sym e ∙ f in cc)

  -- a directory's block is in use for entries, and a file's for bytes
  directory_use : (d blocks : ℕ) (entries : Entries) → node_at tree d ≡ Some (Dir entries blocks) → (j : ℕ) → j < blocks → s.use_of (first_blocks blocks (n.block d) j) ≡ OfEntries
  directory_use d blocks entries is j l = ap s.use_of (first_is blocks (n.block d) j l) ∙ owned_use d j (Dir entries blocks) is l

  file_use : (b links when : ℕ) (cells : List Cell) → node_at tree b ≡ Some (File cells links when) → (j : ℕ) → j < small_blocks_of (length cells) → s.use_of (first_blocks (small_blocks_of (length cells)) (n.block b) j) ≡ Bytes
  file_use b links when cells is j l = ap s.use_of (first_is (small_blocks_of (length cells)) (n.block b) j l) ∙ owned_use b j (File cells links when) is l

  small_on_disk : (b : ℕ) (node : Node) → node_at tree b ≡ Some node → (j : ℕ) → j < (inode_by n b node).blocks → (inode_by n b node).small j < 1024 * tree.segments
  small_on_disk b (Dir entries blocks) is j l = entries_in_disk (first_blocks blocks (n.block b) j) (directory_use b blocks entries is j l)
  small_on_disk b (File cells links when) is j l = bytes_in_disk (first_blocks (small_blocks_of (length cells)) (n.block b) j) (file_use b links when cells is j l)
  small_on_disk b (Link target links) is j l = absurd (let m : j < 0 = l in omega arith)

  -- once the node goes, its blocks are directories' as they were
  pub freed_alike : (b : ℕ) (node : Node) → node_at tree b ≡ Some node → (j : ℕ) → j < (inode_by n b node).blocks → is_directory_use (freed (inode_by n b node).kind) ≡ is_directory_use (s.use_of ((inode_by n b node).small j))
  freed_alike b (Dir entries blocks) is j l = sym (ap is_directory_use (directory_use b blocks entries is j l))
  freed_alike b (File cells links when) is j l = sym (ap is_directory_use (file_use b links when cells is j l))
  freed_alike b (Link target links) is j l = absurd (let m : j < 0 = l in omega arith)

  large_on_disk : (b : ℕ) (node : Node) → node_at tree b ≡ Some node → (inode_by n b node).large == 0 ≡ false → (inode_by n b node).large - 1 < tree.segments
  large_on_disk b (Dir entries blocks) is e = absurd (cc)
  large_on_disk b (Link target links) is e = absurd (cc)
  large_on_disk b (File cells links when) is e = go (nat_lt 65536 (length cells)) refl e
    where
      go : (c : Bool) → nat_lt 65536 (length cells) ≡ c → (if c then n.large b + 1 else 0) == 0 ≡ false → (if c then n.large b + 1 else 0) - 1 < tree.segments
      go false h e = absurd (cc)
      go true h e =
          let has : has_large (node_at tree b) ≡ true = ap has_large is ∙ h in
          let bit : s.large_bit (n.large b) ≡ true = of.pictures.large_bits (n.large b) ∙ ap is_some (of.pictures.larges b has) in
          let l : n.large b < tree.segments = of.larges (n.large b) bit in omega arith

  module _ (fit : IsFitStore tree.segments s) where
    pub node_fits : (b : ℕ) (node : Node) → node_at tree b ≡ Some node → (n.inode b < 64 * tree.segments) × IsFitNode (inode_by n b node)
    node_fits b node is = fit.nodes (n.inode b) (inode_by n b node) (inode_is s (node_at tree) n of.pictures b node is)

    pub on_disk : (b : ℕ) (node : Node) → node_at tree b ≡ Some node → IsOnDisk tree.segments (n.inode b) (inode_by n b node)
    on_disk b node is = let r = node_fits b node is in record { inode = r.0; node = r.1; small = small_on_disk b node is; large = large_on_disk b node is }

    pub entry_fits : (name : List ℕ) (b : ℕ) (node : Node) → node_at tree b ≡ Some node → is_name name ≡ true → IsFitEntry (entry_of n name b)
    entry_fits name b node is named =
        let l : n.inode b < 64 * tree.segments = (node_fits b node is).0 in
        let few : tree.segments ≤ 64 = of.few in
        let k : n.kind b ≡ kind_of node = of.pictures.kinds b node is in
        let r = kind_known node in
        record { name = named; inode = omega arith; some = subst (λ c. 1 ≤ c) (sym k) r.0; kind = subst (λ c. c ≤ 3) (sym k) r.1 }

    module _ (d blocks : ℕ) (entries : Entries) (is : node_at tree d ≡ Some (Dir entries blocks)) where
      pub bounds : (blocks ≤ 16) × (length entries ≤ 56 * blocks)
      bounds = directory_bounds (length entries) (n.stamp d) blocks (first_blocks blocks (n.block d)) (node_fits d (Dir entries blocks) is).1

      pub sized_fits : (size : ℕ) → size ≤ 56 * blocks → IsFitNode (record (inode_by n d (Dir entries blocks)) { size = size })
      sized_fits size l = let f = (node_fits d (Dir entries blocks) is).1 in
          directory_fits size (n.stamp d) blocks (first_blocks blocks (n.block d)) f.birth f.small bounds.0 l (first_past blocks (n.block d))

      pub placed : (q : ℕ) → q < 56 * blocks → IsPlaced tree.segments s ((inode_by n d (Dir entries blocks)).small (q / 56))
      placed q l =
          let e = directory_use d blocks entries is (q / 56) (which_block q blocks l) in
          (entries_in_disk (first_blocks blocks (n.block d) (q / 56)) e, ap is_directory_use e)

      pub spot_inside : (name : List ℕ) (b : ℕ) → entry_at entries name ≡ Some b → n.spot d name < 56 * blocks
      spot_inside name b had = subst (λ o. n.spot d name < 56 * room_in o) is (of.pictures.names d b name (ap (λ o. find_in o name) is ∙ had)).0
