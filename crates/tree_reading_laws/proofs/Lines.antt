-- The lines that are read off the sectors that the host has read are those of the tree for which the disk stands.
use Rattle.std.proofs.Common.{ℕ, zero, suc, ◌≡◌, ◌≤◌, ◌<◌, ◌*◌, ◌/◌, ◌%◌, ⊎_elim, Bool, true, nat_lt, if◌then◌else◌, Option, Some, None, is_some, List, [], ◌∷◌, ◌++◌, map, length, refl, sym, ◌∙◌, ap, subst, arith}
use Rattle.std.specs.List.{flat_map}
use Rattle.std.specs.Option.{option_map, unwrap_or}
use Rattle.std.proofs.lemmas.Bool.{cases_lt, le-ltb, lt-ltb, ltb-true}
use Rattle.frang_base.specs.declared.said.Said.{Said}
use Rattle.frang_base.specs.declared.said.Said.TheVariants as said
use Rattle.tree_definitions.specs.declared.node.Node.{Node}
use Rattle.tree_definitions.specs.declared.node.Node.TheVariants.{Dir, File, Link}
use Rattle.tree_definitions.specs.Apply.{is_dir}
use Rattle.tree_definitions.specs.Entries.{Entries}
use Rattle.tree_definitions.specs.Numbers.{below}
use Rattle.tree_definitions.specs.Tree.{FileTree, node_at}
use Rattle.tree_definitions.specs.TreeLines as tree_side
use Rattle.tree_definitions.specs.TreeLines.{name_below, path_text, tree_lines}
use Rattle.sector_bytes.specs.Blocks.{Block, zero_block}
use Rattle.sector_bytes.specs.SectorMaps.{value_at}
use Rattle.sector_bytes.specs.Sectors.{Sectors, sectors_of}
use Rattle.disk_definitions.specs.declared.region.Region.TheVariants as region
use Rattle.disk_definitions.specs.Directories.{directory_in}
use Rattle.disk_definitions.specs.Inodes.{inode_in}
use Rattle.disk_definitions.specs.Naming.{Naming, Nodes, Pictures, dir_place, entry_of, find_in, first_blocks, inode_of, room_in}
use Rattle.disk_definitions.specs.Regions.{region_of, sector_of}
use Rattle.disk_definitions.specs.Standing.{IsReachedAt, StandsFor}
use Rattle.disk_definitions.specs.Store.{Store, StoredEntry, StoredNode, bit_in, entry_in, segment_at, store_of, stored_node, use_in}
use Rattle.disk_definitions.specs.Store.Use.{Entries as OfEntries, Fresh}
use Rattle.disk_definitions.proofs.Kept.{inode_is}
use Rattle.disk_definitions.proofs.Listed.{Among, among_below, among_filter_map, among_map}
use Rattle.disk_definitions.proofs.NodeLaws.{first_is}
use Rattle.disk_definitions.proofs.ParamLaws.{few_segments}
use Rattle.disk_definitions.proofs.Readings.{and_l}
use Rattle.disk_definitions.proofs.RegionLaws.{region_found}
use Rattle.disk_definitions.proofs.Rooms.{dir_use}
use Rattle.std.proofs.lemmas.Bool.{and_from}
use Rattle.standing_laws.proofs.Walks.{carried, reached_on}
use Rattle.core_definitions.specs.Trees as core_side
use Rattle.core_definitions.specs.Trees.{TreeRead, block_sectors, directory_sectors, entries_from, inode_sector, lines_at, needed_sectors, read_lines, shown_by, sorted_entries}
use Rattle.tree_reading_laws.specs.Reading.{IsReadOf, ReadLinesAreTheTrees}
use Rattle.tree_reading_laws.proofs.Depth.{by_entries, same_lines}
use Rattle.tree_reading_laws.proofs.Entries.{listed_is}
use Rattle.tree_reading_laws.proofs.Needed.{among_flat, root_read, shown_read}
use Rattle.tree_reading_laws.proofs.Ways.{AreApart, IsWay, child_there, no_more, way_there}

-- over a list that is changed entry by entry
over_map : {X Y A : Type 0} (f : Y → List A) (g : X → Y) (xs : List X) → flat_map f (map g xs) ≡ flat_map (λ x. f (g x)) xs
over_map f g [] = refl
over_map f g (x ∷ xs) = ap (λ l. f (g x) ++ l) (over_map f g xs)

module _ (disk : Sectors) (tree : FileTree) (read : TreeRead) (stands : StandsFor disk tree) (is_read : IsReadOf disk read) (none : needed_sectors tree.segments read ≡ []) where
  abbrev segments : ℕ
  segments = tree.segments

  abbrev at : Nodes
  at = node_at tree

  abbrev n : Naming
  n = stands.naming

  -- what the disk says, and what the sectors that were read say
  abbrev s : Store
  s = store_of tree.segments disk

  abbrev r : Store
  r = store_of tree.segments (sectors_of read)

  g : Pictures s at n
  g = subst (λ k. Pictures (store_of k disk) at n) (sym stands.segments) stands.picture

  few : segments ≤ 64
  few = subst (λ k. k ≤ 64) (sym stands.segments) (few_segments (disk 0) stands.param stands.parameters)

  -- ---- sectors that were read

  value_there : (sector : ℕ) → is_some (value_at read sector) ≡ true → value_at read sector ≡ Some (disk sector)
  value_there sector some = go (value_at read sector) refl some
    where
      go : (o : Option Block) → value_at read sector ≡ o → is_some o ≡ true → o ≡ Some (disk sector)
      go None e some = absurd (cc)
      go (Some block) e some = ap Some (is_read sector block e)

  read_same : (sector : ℕ) → is_some (value_at read sector) ≡ true → sectors_of read sector ≡ disk sector
  read_same sector some = ap (λ o. unwrap_or o zero_block) (value_there sector some)

  -- ---- inodes

  abbrev HasRead : ℕ → Type 0
  HasRead b = is_some (value_at read (inode_sector (n.inode b))) ≡ true

  inode_low : (b : ℕ) → is_some (at b) ≡ true → n.inode b < 64 * segments
  inode_low b there =
      let bit : s.bit (n.inode b) ≡ true = g.bits (n.inode b) ∙ ap is_some (g.numbered b there) in
      ltb-true (n.inode b) (64 * segments) (and_l (nat_lt (n.inode b) (64 * segments)) (bit_in (segment_at disk (n.inode b / 64)) (n.inode b % 64)) bit)

  abbrev stored_of : ℕ → Node → StoredNode
  stored_of b node = inode_of (n.stamp b) (n.block b) (n.large b) node

  on_disk : (b : ℕ) (node : Node) → at b ≡ Some node → stored_node (inode_in (disk (inode_sector (n.inode b)))) ≡ Some (stored_of b node)
  on_disk b node is =
      sym (ap (λ (t : Bool). if t then stored_node (inode_in (disk (inode_sector (n.inode b)))) else None) (lt-ltb (n.inode b) (64 * segments) (inode_low b (ap is_some is))))
      ∙ inode_is s at n g b node is

  read_inode : (b : ℕ) (node : Node) → at b ≡ Some node → HasRead b → r.inode (n.inode b) ≡ Some (stored_of b node)
  read_inode b node is read_there =
      ap (λ (t : Bool). if t then stored_node (inode_in (sectors_of read (inode_sector (n.inode b)))) else None) (lt-ltb (n.inode b) (64 * segments) (inode_low b (ap is_some is)))
      ∙ ap (λ block. stored_node (inode_in block)) (read_same (inode_sector (n.inode b)) read_there) ∙ on_disk b node is

  -- ---- a directory that was read

  module _ (d blocks : ℕ) (entries : Entries) (is : at d ≡ Some (Dir entries blocks)) (read_there : is_some (value_at read (inode_sector (n.inode d))) ≡ true) where
    small_is : (j : ℕ) → j < blocks → first_blocks blocks (n.block d) j ≡ n.block d j
    small_is j l = first_is blocks (n.block d) j l

    -- all its sectors are
    block_read : (j p : ℕ) → j < blocks → p < 8 → is_some (value_at read (sector_of (region.Small (n.block d j) p))) ≡ true
    block_read j p l lp =
        shown_read segments read none sector (disk sector) (sector_of (region.Small (n.block d j) p)) (value_there sector read_there)
        (subst (Among (sector_of (region.Small (n.block d j) p))) (sym (ap (λ o. shown_by o (disk sector)) place ∙ ap directory_sectors (on_disk d (Dir entries blocks) is))) among)
      where
        sector : ℕ
        sector = inode_sector (n.inode d)

        place : region_of segments (sector_of (region.Inode (n.inode d))) ≡ Some (region.Inode (n.inode d))
        place = region_found segments (region.Inode (n.inode d)) few (lt-ltb (n.inode d) (64 * segments) (inode_low d (ap is_some is)))

        among : Among (sector_of (region.Small (n.block d j) p)) (flat_map (λ index. block_sectors (first_blocks blocks (n.block d) index)) (below blocks))
        among =
            among_flat (λ index. block_sectors (first_blocks blocks (n.block d) index)) (below blocks) j (sector_of (region.Small (n.block d j) p)) (among_below blocks j l)
            (among_map (λ part. sector_of (region.Small (first_blocks blocks (n.block d) j) part)) (below 8) p (sector_of (region.Small (n.block d j) p)) (among_below 8 p lp)
            (ap (λ k. sector_of (region.Small k p)) (small_is j l)))

    room : (q : ℕ) → q < 56 * blocks → q < 56 * room_in (at d)
    room q l = subst (λ o. q < 56 * room_in o) (sym is) l

    in_segments : (q : ℕ) → q < 56 * blocks → n.block d (q / 56) < 1024 * segments
    in_segments q l = ⊎_elim (λ low. low) (λ past. absurd (let z : Fresh ≡ OfEntries = sym (ap (λ (t : Bool). if t then use_in (segment_at disk (k / 1024)) (k % 1024) else Fresh) (le-ltb k (1024 * segments) past))
        ∙ dir_use s at n g d q (room q l) in cc)) (cases_lt k (1024 * segments))
      where
        k : ℕ
        k = n.block d (q / 56)

    -- what stands at a place of it
    abbrev place : ℕ → Option StoredEntry
    place q = r.place (first_blocks blocks (n.block d) (q / 56)) (q % 56)

    place_same : (q : ℕ) → q < 56 * blocks → place q ≡ dir_place s n d q
    place_same q l =
        let k = n.block d (q / 56) in
        ap (λ k. r.place k (q % 56)) (small_is (q / 56) (omega arith))
        ∙ ap (λ block. if nat_lt k (1024 * segments) then entry_in (directory_in block) (q % 56 % 7) else None) (read_same (sector_of (region.Small k (q % 56 / 7))) (block_read (q / 56) (q % 56 / 7) (omega arith) (omega arith)))

    -- the inode of each entry is read
    entry_read : (q : ℕ) (e : StoredEntry) → q < 56 * blocks → dir_place s n d q ≡ Some e → is_some (value_at read (inode_sector e.inode)) ≡ true
    entry_read q e l there =
        let k = n.block d (q / 56) in
        let p = q % 56 / 7 in
        let low : k < 1024 * segments = in_segments q l in
        let lp : p < 8 = omega arith in
        let sector = sector_of (region.Small k p) in
        let place_is : region_of segments sector ≡ Some (region.Small k p) = region_found segments (region.Small k p) few (and_from _ _ (lt-ltb k (1024 * segments) low) (lt-ltb p 8 lp)) in
        let said_there : entry_in (directory_in (disk sector)) (q % 56 % 7) ≡ Some e =
        sym (ap (λ (t : Bool). if t then entry_in (directory_in (disk sector)) (q % 56 % 7) else None) (lt-ltb k (1024 * segments) low)) ∙ there in
        shown_read segments read none sector (disk sector) (inode_sector e.inode) (value_there sector (block_read (q / 56) p (omega arith) lp))
        (subst (Among (inode_sector e.inode)) (sym (ap (λ o. shown_by o (disk sector)) place_is))
        (among_filter_map (λ slot. option_map (λ (entry : StoredEntry). inode_sector entry.inode) (entry_in (directory_in (disk sector)) slot)) (below 7) (q % 56 % 7) (inode_sector e.inode)
        (among_below 7 (q % 56 % 7) (omega arith)) (ap (option_map (λ (entry : StoredEntry). inode_sector entry.inode)) said_there)))

    child_read : (name : List ℕ) (c : ℕ) → find_in (at d) name ≡ Some c → is_some (value_at read (inode_sector (n.inode c))) ≡ true
    child_read name c found =
        let names = g.names d c name found in
        let l : n.spot d name < 56 * blocks = subst (λ o. n.spot d name < 56 * room_in o) is names.0 in
        entry_read (n.spot d name) (entry_of n name c) l names.1

    listed : sorted_entries (entries_from r (stored_of d (Dir entries blocks))) ≡ map (λ e. (e.0, n.inode e.1)) entries
    listed = listed_is s at n g d blocks entries is (stands.well_formed.names d entries blocks is) place place_same

  -- ---- each node is read

  child : (c d : ℕ) (name : List ℕ) → find_in (at c) name ≡ Some d → HasRead c → HasRead d
  child c d name found read_there = go (at c) refl
    where
      go : (o : Option Node) → at c ≡ o → HasRead d
      go None e = absurd (let z : None ≡ Some d = sym (ap (λ o. find_in o name) e) ∙ found in cc)
      go (Some (File cells links when)) e = absurd (let z : None ≡ Some d = sym (ap (λ o. find_in o name) e) ∙ found in cc)
      go (Some (Link target links)) e = absurd (let z : None ≡ Some d = sym (ap (λ o. find_in o name) e) ∙ found in cc)
      go (Some (Dir entries blocks)) e = child_read c blocks entries e read_there name d found

  all_read : (b : ℕ) → IsReachedAt at b → HasRead b
  all_read b reached = carried at HasRead (λ c d name found read_there. child c d name found read_there) (subst (λ i. is_some (value_at read (inode_sector i)) ≡ true) (sym stands.root) (root_read segments read none)) b reached

  -- ---- its lines

  lines : (m b : ℕ) → IsReachedAt at b → is_some (at b) ≡ true → (text : List ℕ) → core_side.lines_from m r text (n.inode b) ≡ tree_side.lines_from m tree text b
  lines zero b reached there text = refl
  lines (suc m) b reached there text =
      go (λ c name found text. lines m c (reached_on at b c name reached found) (child_there tree stands.well_formed b c (name, found)) text) (at b) refl there
    where
      go : ((c : ℕ) (name : List ℕ) → find_in (at b) name ≡ Some c → (text : List ℕ) → core_side.lines_from m r text (n.inode c) ≡ tree_side.lines_from m tree text c) →
          (o : Option Node) → at b ≡ o → is_some o ≡ true →
          lines_at (core_side.lines_from m r) r text (r.inode (n.inode b)) ≡ tree_side.lines_with text o (λ e. tree_side.lines_from m tree (name_below text e.0) e.1)
      go below None e some = absurd (cc)
      go below (Some (File cells links when)) e some = ap (lines_at (core_side.lines_from m r) r text) (read_inode b (File cells links when) e (all_read b reached))
      go below (Some (Link target links)) e some = ap (lines_at (core_side.lines_from m r) r text) (read_inode b (Link target links) e (all_read b reached))
      go below (Some (Dir entries blocks)) e some =
          ap (lines_at (core_side.lines_from m r) r text) (read_inode b (Dir entries blocks) e (all_read b reached))
          ∙ ap (λ (l : List Said). said.Node (path_text text) 2 (length entries) 0 ∷ l)
          (ap (flat_map (λ e. core_side.lines_from m r (name_below text e.0) e.1)) (listed b blocks entries e (all_read b reached))
          ∙ over_map (λ e. core_side.lines_from m r (name_below text e.0) e.1) (λ e. (e.0, n.inode e.1)) entries
          ∙ by_entries (λ e. core_side.lines_from m r (name_below text e.0) (n.inode e.1)) (λ e. tree_side.lines_from m tree (name_below text e.0) e.1) entries
          (stands.well_formed.names b entries blocks e) (λ name c found. below c name (ap (λ o. find_in o name) e ∙ found) (name_below text name)))

  -- ---- levels

  root_there : is_some (at 0) ≡ true
  root_there = go (at 0) stands.well_formed.rooted
    where
      go : (o : Option Node) → is_dir o ≡ true → is_some o ≡ true
      go (Some node) dir = refl
      go None dir = absurd (cc)

  one_inode : (a b : ℕ) → is_some (at a) ≡ true → is_some (at b) ≡ true → inode_sector (n.inode a) ≡ inode_sector (n.inode b) → a ≡ b
  one_inode a b there too same =
      let inode : n.inode a ≡ n.inode b = omega arith in
      let one : Some a ≡ Some b = sym (g.numbered a there) ∙ ap n.birth inode ∙ g.numbered b too in
      cc

  module _ (b : ℕ) (rest : List ℕ) (way : IsWay tree stands.well_formed (b ∷ rest)) (apart : AreApart (b ∷ rest)) where
    first_there : is_some (at b) ≡ true
    first_there = go rest way
      where
        go : (rest : List ℕ) → IsWay tree stands.well_formed (b ∷ rest) → is_some (at b) ≡ true
        go [] root = subst (λ k. is_some (at k) ≡ true) (sym root) root_there
        go (d ∷ more) below = child_there tree stands.well_formed d b below.0

    on_way : (x : ℕ) → Among x (b ∷ rest) → is_some (at x) ≡ true
    on_way x among = way_there tree stands.well_formed b rest way first_there x among

    few_nodes : length (b ∷ rest) ≤ length tree.nodes
    few_nodes = no_more (λ x. x) (b ∷ rest) tree.nodes apart (λ x y i j same. same) on_way

    few_read : length (b ∷ rest) ≤ length read
    few_read = no_more (λ x. inode_sector (n.inode x)) (b ∷ rest) read apart (λ x y i j same. one_inode x y (on_way x i) (on_way y j) same) (λ x among. all_read x (stands.reached x (on_way x among)))

  levels : tree_side.lines_from (length read) tree [] 0 ≡ tree_side.lines_from (length tree.nodes) tree [] 0
  levels = ⊎_elim
      (λ less. same_lines tree stands.well_formed (length read) few_read (length read) (length tree.nodes) 0 [] refl ((λ a. a), tt) (omega arith) (omega arith) [])
      (λ more. same_lines tree stands.well_formed (length tree.nodes) few_nodes (length read) (length tree.nodes) 0 [] refl ((λ a. a), tt) (omega arith) (omega arith) [])
      (cases_lt (length read) (length tree.nodes))

  pub all_lines : read_lines tree.segments read ≡ tree_lines tree
  all_lines =
      ap (core_side.lines_from (length read) r []) (sym stands.root) ∙ lines (length read) 0 (stands.reached 0 root_there) root_there [] ∙ levels

pub read_lines_are : ReadLinesAreTheTrees
read_lines_are disk tree read stands is_read none = all_lines disk tree read stands is_read none
