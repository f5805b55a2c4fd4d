-- Where a cell of a file stands: in which sector its part lies, and at which place of the sector.
use Rattle.std.proofs.Common.{ℕ, ◌≡◌, ◌≤◌, ◌<◌, ◌+◌, ◌-◌, ◌*◌, ◌/◌, ◌%◌, Bool, true, false, nat_lt, if◌then◌else◌, Option, Some, None, List, length, is_some, slice_index, refl, sym, ◌∙◌, ap, subst, arith}
use Rattle.std.proofs.lemmas.Bool.Decides.{nat_tests}
use Rattle.std.proofs.lemmas.List.{length-map}
use Rattle.std.proofs.lemmas.Bool.{lt-ltb}
use Rattle.plan_laws.proofs.FilesFine.{in_small}
use Rattle.byte_trees.proofs.Doubting.{get_past}
use Rattle.tree_definitions.specs.declared.cells.Cell.{Cell}
use Rattle.tree_definitions.specs.declared.cells.Cell.TheVariants as cell
use Rattle.tree_definitions.specs.declared.node.Node.{Node}
use Rattle.tree_definitions.specs.declared.node.Node.TheVariants.{Dir, File, Link}
use Rattle.tree_definitions.specs.Touched.{shape_of, doubts, shaped}
use Rattle.tree_definitions.specs.Tree.{FileTree, node_at, small_blocks_of}
use Rattle.tree_laws.proofs.ShapeNodes.{found}
use Rattle.sector_bytes.specs.Sectors.{Sectors}
use Rattle.disk_definitions.specs.declared.region.Region.TheVariants as region
use Rattle.disk_definitions.specs.Regions.{sector_of}
use Rattle.disk_definitions.specs.Naming.{Naming, cell_in, file_byte, inode_of}
use Rattle.disk_definitions.specs.Store.{Store, StoredNode, store_of}
use Rattle.disk_definitions.proofs.Kept.{inode_is}
use Rattle.disk_definitions.specs.Ask.{Sector, BytesAt, LargeAt, number_of}
use Rattle.disk_definitions.specs.Meets.{IsOfTree}
use Rattle.disk_definitions.proofs.NodeLaws.{first_is}
use Rattle.line_histories.specs.Files.{file_sector}
use Rattle.line_histories.specs.Parts.{LiesIn}

module _ (segments : ℕ) (s : Store) (tree : FileTree) (n : Naming) (of : IsOfTree s (shape_of tree) n) (b j : ℕ) where
  -- the sector in which the cell's part lies, and its byte on any disk
  pub record StandsIn : Type 0 where
    pub sector : Sector
    pub lies : LiesIn s (shape_of tree) n b (j / 512) sector
    pub byte : (disk : Sectors) → file_byte (store_of segments disk) n b j ≡ slice_index (disk (number_of sector)) (j % 512)

  module _ (cells : List Cell) (links when : ℕ) (is : node_at tree b ≡ Some (File cells links when)) (inside : j < length cells) where
    abbrev stored : StoredNode
    stored = inode_of (n.stamp b) (n.block b) (n.large b) (File (doubts cells) links when)

    there : node_at (shape_of tree) b ≡ Some (File (doubts cells) links when)
    there = found tree b ∙ ap shaped is

    size : length (doubts cells) ≡ length cells
    size = length-map cells (λ c. cell.Doubtful)

    below : 512 * (j / 512) < length (doubts cells)
    below = subst (λ k. 512 * (j / 512) < k) (sym size) (omega arith)

    byte_is : (disk : Sectors) (c : Bool) → nat_lt (j / 512) 128 ≡ c → (d : Bool) → nat_lt j 65536 ≡ d →
        (if d then (store_of segments disk).byte (n.block b (j / 4096)) (j % 4096) else (store_of segments disk).large_byte (n.large b) (j - 65536))
        ≡ slice_index (disk (number_of (if c then BytesAt (stored.small (j / 512 / 8)) (j / 512 % 8) else LargeAt (stored.large - 1) (j / 512 - 128)))) (j % 512)
    byte_is disk true p true q =
        let low : j / 512 < 128 = grind (arith, nat_tests) in
        let block : stored.small (j / 512 / 8) ≡ n.block b (j / 512 / 8) = first_is (small_blocks_of (length (doubts cells))) (n.block b) (j / 512 / 8) (in_small (j / 512) (length (doubts cells)) below low) in
        let at_block : j / 4096 ≡ j / 512 / 8 = omega arith in
        let at_part : j % 4096 / 512 ≡ j / 512 % 8 = omega arith in
        let at_byte : j % 4096 % 512 ≡ j % 512 = omega arith in
        rw (at_byte, at_part) (ap (λ k. slice_index (disk (sector_of (region.Small k (j / 512 % 8)))) (j % 512)) (ap (n.block b) at_block ∙ sym block))
    byte_is disk false p false q =
        let high : 128 ≤ j / 512 = grind (arith, nat_tests) in
        let more : 65536 < length (doubts cells) = (let l : j < length cells = inside in let z : length (doubts cells) ≡ length cells = size in omega arith) in
        let large : stored.large ≡ n.large b + 1 = rw (lt-ltb 65536 (length (doubts cells)) more) refl in
        let block : stored.large - 1 ≡ n.large b = omega arith in
        let at_part : (j - 65536) / 512 ≡ j / 512 - 128 = omega arith in
        let at_byte : (j - 65536) % 512 ≡ j % 512 = omega arith in
        rw (at_byte, at_part) (ap (λ k. slice_index (disk (sector_of (region.Large k (j / 512 - 128)))) (j % 512)) (sym block))
    byte_is disk true p false q = absurd (let low : j / 512 < 128 = grind (arith, nat_tests) in let past : 65536 ≤ j = grind (arith, nat_tests) in omega arith)
    byte_is disk false p true q = absurd (let high : 128 ≤ j / 512 = grind (arith, nat_tests) in let low : j < 65536 = grind (arith, nat_tests) in omega arith)

    in_file : StandsIn
    in_file = record {
      sector = file_sector stored (j / 512);
      lies = record {
        there = ap is_some there;
        stored = stored;
        is = inode_is s (node_at (shape_of tree)) n of.pictures b (File (doubts cells) links when) there;
        kind = refl;
        below = below;
        here = refl;
      };
      byte = λ disk. byte_is disk (nat_lt (j / 512) 128) refl (nat_lt j 65536) refl;
    }

  by_node : (o : Option Node) → node_at tree b ≡ o → (c : Cell) → cell_in o j ≡ Some c → StandsIn
  by_node None is c e = absurd (cc)
  by_node (Some (Dir entries blocks)) is c e = absurd (cc)
  by_node (Some (Link target links)) is c e = absurd (cc)
  by_node (Some (File cells links when)) is c e = in_file cells links when is (get_past cells j c e)

  pub stands_in : (c : Cell) → cell_in (node_at tree b) j ≡ Some c → StandsIn
  stands_in c e = by_node (node_at tree b) refl c e
