-- Cells of an opening are known: a disk that has what is known of bytes at first has the bytes of its tree's files.
use Rattle.std.proofs.Common.{ℕ, ◌≡◌, ◌≤◌, ◌<◌, ◌+◌, ◌-◌, ◌*◌, ◌/◌, ◌%◌, ⊎_elim, Bool, true, false, not, nat_lt, if◌then◌else◌, Option, Some, None, List, [], is_some, length, refl, sym, ◌∙◌, ap, subst, arith}
use Rattle.std.specs.Prelude.{slice_index}
use Rattle.std.proofs.lemmas.Bool.{cases_lt, lt-ltb}
use Rattle.std.proofs.lemmas.Option.{slice_get_within}
use Rattle.std.proofs.lemmas.List.{length-map}
use Rattle.tree_definitions.specs.declared.cells.Cell.{Cell}
use Rattle.tree_definitions.specs.declared.cells.Cell.TheVariants.{Doubtful}
use Rattle.tree_definitions.specs.declared.node.Node.{Node}
use Rattle.tree_definitions.specs.declared.node.Node.TheVariants.{Dir, File, Link}
use Rattle.tree_definitions.specs.History.{Opening}
use Rattle.tree_definitions.specs.Touched.{doubts, shape_of, shaped}
use Rattle.tree_definitions.specs.Tree.{FileTree, node_at, small_blocks_of}
use Rattle.tree_laws.proofs.ShapeNodes.{found}
use Rattle.sector_bytes.specs.Blocks.{Block}
use Rattle.sector_bytes.specs.Sectors.{Sectors}
use Rattle.disk_definitions.specs.Ask.{BytesAt, LargeAt, number_of}
use Rattle.disk_definitions.specs.Meets.{IsOfTree}
use Rattle.disk_definitions.specs.Naming.{Allows, Naming, Pictures, cell_in, file_byte, inode_of}
use Rattle.disk_definitions.specs.Store.{Store, StoredNode, store_of}
use Rattle.disk_definitions.specs.Store.Use.{Bytes, Fresh}
use Rattle.disk_definitions.proofs.Counts.{byte_use, large_use, same_byte}
use Rattle.disk_definitions.proofs.Kept.{inode_is}
use Rattle.disk_definitions.proofs.NodeLaws.{first_is}
use Rattle.line_laws.proofs.OfDisk.{of_tree}
use Rattle.line_laws.proofs.Told.{namings_agree}
use Rattle.line_histories.specs.LinePlans.{store_on}
use Rattle.line_histories.proofs.Disks.{files_fit_now}
use Rattle.byte_trees.specs.Standing.{HasItsBytes}
use Rattle.stop_laws.specs.Known.{HasWhatIsKnown, KnowsCells}
use Rattle.headline_definitions.specs.Beginning.{IsOpening}
use Rattle.opening_laws.proofs.Covering.{first, large_first, small_first}
use Rattle.opening_laws.proofs.Masked.{below, logged, masked, named, naming, segments, shape_stands, stands_for_shape, tree}

doubts_long : (cells : List Cell) → length (doubts cells) ≡ length cells
doubts_long cells = length-map cells (λ c. Doubtful)

same_node : (x y : StoredNode) → Some x ≡ Some y → x ≡ y
same_node x y e = cc

module _ (opening : Opening) (disk : Sectors) (is : IsOpening opening disk) (other : Naming)
    (of : IsOfTree (store_on (segments opening disk is) (masked opening disk is)) (shape_of (tree opening disk is)) other) (known_on : Sectors)
    (has : HasWhatIsKnown (logged opening disk is) (first opening disk is) [] known_on) where
  abbrev t : FileTree
  t = tree opening disk is

  abbrev count : ℕ
  count = segments opening disk is

  abbrev n : Naming
  n = naming opening disk is

  abbrev blank : Store
  blank = store_on count (masked opening disk is)

  abbrev here : Store
  here = store_of count disk

  abbrev there : Store
  there = store_of count known_on

  picture : Pictures here (node_at t) n
  picture = (of_tree disk t (below opening disk is)).pictures

  -- what is known of a sector of bytes is there
  known_there : (s : ℕ) → logged opening disk is s ≡ false → first opening disk is s ≡ Some (disk s) → known_on s ≡ disk s
  known_there s plain known = sym (has s plain (disk s) (ap (λ o. not (is_some o)) known) known)

  -- ---- a file
  module _ (b links when : ℕ) (cells : List Cell) (file : node_at t b ≡ Some (File cells links when)) where
    abbrev shape : Node
    shape = File (doubts cells) links when

    shaped_there : node_at (shape_of t) b ≡ Some shape
    shaped_there = found t b ∙ ap shaped file

    same_inode : other.inode b ≡ n.inode b
    same_inode = namings_agree blank (shape_of t) n other (named opening disk is) of (shape_stands opening disk is).reached b (ap is_some shaped_there)

    same_stored : inode_of (other.stamp b) (other.block b) (other.large b) shape ≡ inode_of (n.stamp b) (n.block b) (n.large b) shape
    same_stored =
        same_node (inode_of (other.stamp b) (other.block b) (other.large b) shape) (inode_of (n.stamp b) (n.block b) (n.large b) shape)
        (sym (inode_is blank (node_at (shape_of t)) other of.pictures b shape shaped_there) ∙ ap blank.inode same_inode
        ∙ inode_is blank (node_at (shape_of t)) n (named opening disk is).pictures b shape shaped_there)

    same_block : (k : ℕ) → k < small_blocks_of (length cells) → other.block b k ≡ n.block b k
    same_block k l =
        let m : k < small_blocks_of (length (doubts cells)) = subst (λ z. k < small_blocks_of z) (sym (doubts_long cells)) l in
        sym (first_is (small_blocks_of (length (doubts cells))) (other.block b) k m) ∙ ap (λ (x : StoredNode). x.small k) same_stored
        ∙ first_is (small_blocks_of (length (doubts cells))) (n.block b) k m

    same_large : 65536 < length cells → other.large b ≡ n.large b
    same_large l =
        let v : nat_lt 65536 (length (doubts cells)) ≡ true = lt-ltb 65536 (length (doubts cells)) (subst (λ z. 65536 < z) (sym (doubts_long cells)) l) in
        let q : other.large b + 1 ≡ n.large b + 1 =
        sym (ap (λ (v : Bool). if v then other.large b + 1 else 0) v) ∙ ap (λ (x : StoredNode). x.large) same_stored ∙ ap (λ (v : Bool). if v then n.large b + 1 else 0) v in
        omega arith

    short : length cells ≤ 1114112
    short = subst (λ z. z ≤ 1114112) (doubts_long cells) (files_fit_now (masked opening disk is) t (stands_for_shape opening disk is) b links when (doubts cells) shaped_there)

    module _ (j : ℕ) (c : Cell) (cell_is : cell_in (node_at t b) j ≡ Some c) where
      inside : j < length cells
      inside = slice_get_within cells j c (sym (ap (λ o. cell_in o j) file) ∙ cell_is)

      small : j < 65536 → there.byte (other.block b (j / 4096)) (j % 4096) ≡ here.byte (n.block b (j / 4096)) (j % 4096)
      small low =
          let k = n.block b (j / 4096) in
          let p = j % 4096 / 512 in
          let within : j < length cells = inside in
          let same : other.block b (j / 4096) ≡ k = same_block (j / 4096) (omega arith) in
          let used : here.use_of k ≡ Bytes = byte_use here (node_at t) n picture b j c cell_is low in
          let f = small_first opening disk is k p (in_use k used) (omega arith) used in
          ap (λ z. there.byte z (j % 4096)) same ∙ ap (λ (x : Block). slice_index x (j % 4096 % 512)) (known_there (number_of (BytesAt k p)) f.0 f.1)
        where
          in_use : (k : ℕ) → here.use_of k ≡ Bytes → k < 1024 * count
          in_use k used = ⊎_elim (λ l. l) (λ l. absurd (let z : Fresh ≡ Bytes = sym ((of_tree disk t (below opening disk is)).blocks k l) ∙ used in cc)) (cases_lt k (1024 * count))

      large : 65536 ≤ j → there.large_byte (other.large b) (j - 65536) ≡ here.large_byte (n.large b) (j - 65536)
      large high =
          let g = n.large b in
          let p = (j - 65536) / 512 in
          let within : j < length cells = inside in
          let most : length cells ≤ 1114112 = short in
          let same : other.large b ≡ g = same_large (omega arith) in
          let bit : here.large_bit g ≡ true = large_use here (node_at t) n picture b j c cell_is high in
          let f = large_first opening disk is g p ((of_tree disk t (below opening disk is)).larges g bit) (omega arith) bit in
          ap (λ z. there.large_byte z (j - 65536)) same ∙ ap (λ (x : Block). slice_index x ((j - 65536) % 512)) (known_there (number_of (LargeAt g p)) f.0 f.1)

      file_allows : Allows c (file_byte there other b j)
      file_allows = subst (Allows c) (sym (same_byte here there n other b j small large)) (picture.bytes b j c cell_is)

  pub bytes_there : HasItsBytes there t other
  bytes_there b j c e = go (node_at t b) refl
    where
      go : (o : Option Node) → node_at t b ≡ o → Allows c (file_byte there other b j)
      go None q = absurd (let z : None ≡ Some c = sym (ap (λ o. cell_in o j) q) ∙ e in cc)
      go (Some (Dir entries blocks)) q = absurd (let z : None ≡ Some c = sym (ap (λ o. cell_in o j) q) ∙ e in cc)
      go (Some (Link target links)) q = absurd (let z : None ≡ Some c = sym (ap (λ o. cell_in o j) q) ∙ e in cc)
      go (Some (File cells links when)) q = file_allows b links when cells q j c e

pub opened_known : (opening : Opening) (disk : Sectors) (is : IsOpening opening disk) →
    KnowsCells (segments opening disk is) (masked opening disk is) (logged opening disk is) (first opening disk is) (tree opening disk is) []
opened_known opening disk is other of known_on has = bytes_there opening disk is other of known_on has
