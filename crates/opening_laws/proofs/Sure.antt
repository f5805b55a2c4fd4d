-- The tree of a disk of bytes, where no cell is in doubt, is one whose names, targets and bytes can be said.
use Rattle.std.proofs.Common.{ℕ, zero, suc, ◌≡◌, ◌≤◌, ◌<◌, ◌-◌, ◌/◌, ◌%◌, Bool, true, false, nat_lt, nat_le, ◌&&◌, if◌then◌else◌, Option, Some, None, List, [], ◌∷◌, length, refl, sym, ◌∙◌, ap, subst, arith}
use Rattle.std.specs.Prelude.{slice_index}
use Rattle.std.specs.List.{AllByRecursion, list_all, slice_get}
use Rattle.std.specs.Map.{keys_of}
use Rattle.std.specs.Option.{IfSome, IsSome}
use Rattle.std.specs.Ordering.{nat_cmp}
use Rattle.std.proofs.lemmas.Bool.{and_from, le-leb, lt-ltb}
use Rattle.std.proofs.lemmas.Cmp.{eq_by_cmp_equiv, nat_cmp_total, nat_list_cmp_total}
use Rattle.std.proofs.lemmas.List.Elements.{All-from_recursion, recursion_from_All}
use Rattle.std.proofs.lemmas.Map.Keys.{IsDistinct-from_sorted}
use Rattle.std.proofs.lemmas.Map.Views.{All-keys_from_lookup, All-values_from_lookup}
use Rattle.frang_base.specs.Name.{is_name, is_target, is_target_byte}
use Rattle.tree_definitions.specs.declared.cells.Cell.{Cell}
use Rattle.tree_definitions.specs.declared.cells.Cell.TheVariants.{Byte, Doubtful}
use Rattle.tree_definitions.specs.declared.node.Node.{Node}
use Rattle.tree_definitions.specs.declared.node.Node.TheVariants.{Dir, File, Link}
use Rattle.tree_definitions.specs.Entries.{Entries, entry_at}
use Rattle.tree_definitions.specs.Tree.{FileTree, node_at}
use Rattle.script_definitions.specs.Sayable.{AreSayableEntries, IsNodeOf, IsSureCell, IsSureTree}
use Rattle.sector_bytes.specs.Blocks.{Block}
use Rattle.sector_bytes.specs.Sectors.{Sectors}
use Rattle.disk_definitions.specs.FitPlans.{IsFitStore}
use Rattle.disk_definitions.specs.Naming.{Naming, cell_in, entry_of, file_byte, find_in, inode_of}
use Rattle.disk_definitions.specs.Regions.{sector_of}
use Rattle.disk_definitions.specs.declared.region.Region.TheVariants as region
use Rattle.disk_definitions.specs.Standing.{AllBytes, HasNoDoubt, IsMetadata, StandsFor}
use Rattle.disk_definitions.specs.Store.{Store, store_of}
use Rattle.disk_definitions.specs.Store.Use.{Entries as OfEntries}
use Rattle.disk_definitions.proofs.Counts.{below_56}
use Rattle.disk_definitions.proofs.Kept.{inode_is}
use Rattle.disk_definitions.proofs.Rooms.{dir_use}
use Rattle.plan_fit.proofs.DecodedEntries.{disks_fit}
use Rattle.standing_laws.proofs.Shapes.{Shape, disk_shape}
use Rattle.standing_laws.proofs.Shapes.Shape.{OfFile, OfDir, OfLink}
use Rattle.opening_laws.specs.Bytes.{AreBytes}

-- ---- bytes

-- each place of a block of bytes has one, and those past its end count as 0
byte_small : (block : Block) (at : ℕ) → AllByRecursion (λ byte. byte < 256) block → slice_index block at < 256
byte_small [] at all = omega arith
byte_small (b ∷ bytes) zero all = all.0
byte_small (b ∷ bytes) (suc at) all = byte_small bytes at all.1

module _ (segments : ℕ) (disk : Sectors) (bytes : (sector : ℕ) → AreBytes (disk sector)) where
  at_sector : (sector at : ℕ) → slice_index (disk sector) at < 256
  at_sector sector at = byte_small (disk sector) at (recursion_from_All (λ byte. byte < 256) (disk sector) (bytes sector))

  file_byte_small : (n : Naming) (b j : ℕ) → file_byte (store_of segments disk) n b j < 256
  file_byte_small n b j = go (nat_lt j 65536)
    where
      go : (t : Bool) → (if t then (store_of segments disk).byte (n.block b (j / 4096)) (j % 4096) else (store_of segments disk).large_byte (n.large b) (j - 65536)) < 256
      go true = at_sector (sector_of (region.Small (n.block b (j / 4096)) (j % 4096 / 512))) (j % 4096 % 512)
      go false = at_sector (sector_of (region.Large (n.large b) ((j - 65536) / 512))) ((j - 65536) % 512)

-- ---- the nodes

module _ (disk : Sectors) (tree : FileTree) (stands : StandsFor disk tree) (whole : (sector : ℕ) → length (disk sector) ≡ 512) (bytes : (sector : ℕ) → AreBytes (disk sector)) (sure : HasNoDoubt tree) where
  abbrev segments : ℕ
  segments = stands.param.segments

  abbrev s : Store
  s = store_of segments disk

  abbrev n : Naming
  n = stands.naming

  fit_store : IsFitStore segments s
  fit_store = disks_fit disk segments stands.grammar whole

  -- a directory's name stands in a place
  name_is : (d blocks b : ℕ) (entries : Entries) (name : List ℕ) → node_at tree d ≡ Some (Dir entries blocks) → entry_at entries name ≡ Some b → is_name name ≡ true
  name_is d blocks b entries name is found =
      let r = stands.picture.names d b name (ap (λ o. find_in o name) is ∙ found) in
      let q = n.spot d name in
      let kind : s.use_of (n.block d (q / 56)) ≡ OfEntries = dir_use s (node_at tree) n stands.picture d q r.0 in
      (fit_store.entries (n.block d (q / 56)) (q % 56) (entry_of n name b) (below_56 q) (subst IsMetadata (sym kind) tt) r.1).name

  names_are : (d blocks : ℕ) (entries : Entries) → node_at tree d ≡ Some (Dir entries blocks) → AreSayableEntries entries
  names_are d blocks entries is =
      All-keys_from_lookup (eq_by_cmp_equiv nat_list_cmp_total) (λ name. is_name name ≡ true) entries (λ name some. go name (entry_at entries name) refl some)
    where
      go : (name : List ℕ) (o : Option ℕ) → entry_at entries name ≡ o → IsSome o → is_name name ≡ true
      go name None e some = absurd (cc)
      go name (Some b) e some = name_is d blocks b entries name is e

  -- a file's cells are bytes
  cell_is : (b links when : ℕ) (cells : List Cell) (j v : ℕ) → node_at tree b ≡ Some (File cells links when) → slice_get cells j ≡ Some (Byte v) → v < 256
  cell_is b links when cells j v is e =
      let same : file_byte s n b j ≡ v = stands.picture.bytes b j (Byte v) (ap (λ o. cell_in o j) is ∙ e) in
      subst (λ z. z < 256) same (file_byte_small segments disk bytes n b j)

  sure_cell : (c : Cell) (known : (v : ℕ) × (c ≡ Byte v)) → ((v : ℕ) → c ≡ Byte v → v < 256) → IsSureCell c
  sure_cell (Byte b) known small = small b refl
  sure_cell Doubtful known small = absurd (let z : Doubtful ≡ Byte known.0 = known.1 in cc)

  all_sure : (cells : List Cell) → AllBytes cells → ((j v : ℕ) → slice_get cells j ≡ Some (Byte v) → v < 256) → AllByRecursion IsSureCell cells
  all_sure [] known small = tt
  all_sure (c ∷ cells) known small =
      (sure_cell c (known 0 c refl) (λ v e. small 0 v (ap Some e)), all_sure cells (λ j d e. known (suc j) d e) (λ j v e. small (suc j) v e))

  -- a link's target
  target_is : (b links : ℕ) (target : List ℕ) → node_at tree b ≡ Some (Link target links) → is_target target ≡ true
  target_is b links target is =
      go (disk_shape segments disk (n.inode b) (inode_of (n.stamp b) (n.block b) (n.large b) (Link target links)) (inode_is s (node_at tree) n stands.picture b (Link target links) is))
    where
      go : Shape (inode_of (n.stamp b) (n.block b) (n.large b) (Link target links)) → is_target target ≡ true
      go (OfFile shape) = absurd (let z : 3 ≡ 1 = shape.kind in omega arith)
      go (OfDir shape) = absurd (let z : 3 ≡ 2 = shape.kind in omega arith)
      go (OfLink shape) =
          let some : 1 ≤ length target = shape.size.0 in
          and_from (nat_lt 0 (length target) && nat_le (length target) 384) (list_all is_target_byte target)
          (and_from (nat_lt 0 (length target)) (nat_le (length target) 384) (lt-ltb 0 (length target) (omega arith)) (le-leb (length target) 384 shape.size.1)) shape.bytes

  node_is : (b : ℕ) (node : Node) → node_at tree b ≡ Some node → IsNodeOf IsSureCell node
  node_is b (Dir entries blocks) is = names_are b blocks entries is
  node_is b (File cells links when) is = All-from_recursion IsSureCell cells (all_sure cells (sure b (File cells links when) is) (λ j v e. cell_is b links when cells j v is e))
  node_is b (Link target links) is = target_is b links target is

  pub sure_tree : IsSureTree tree
  sure_tree = All-values_from_lookup (eq_by_cmp_equiv nat_cmp_total) (IsNodeOf IsSureCell) tree.nodes (IsDistinct-from_sorted nat_cmp (keys_of tree.nodes) stands.well_formed.births) (λ b. go b (node_at tree b) refl)
    where
      go : (b : ℕ) (o : Option Node) → node_at tree b ≡ o → IfSome o (IsNodeOf IsSureCell)
      go b None e = tt
      go b (Some node) e = node_is b node e
