-- A store that says the shape of a tree says the tree once it has its bytes: each block has those of the node that has the block.
use Rattle.std.proofs.Common.{ℕ, ◌≡◌, ◌+◌, ◌*◌, ◌-◌, ◌/◌, ◌%◌, ◌<◌, ◌≤◌, ⊎_elim, Bool, true, nat_lt, if◌then◌else◌, Option, Some, None, length, is_some, refl, sym, ◌∙◌, ap, subst, arith}
use Rattle.std.proofs.Math.Path.{fun_ext}
use Rattle.std.proofs.lemmas.Bool.{cases_lt, le-ltb, lt-ltb}
use Rattle.std.proofs.lemmas.List.{length-map}
use Rattle.std.proofs.lemmas.Option.{slice_get_within}
use Rattle.tree_definitions.specs.declared.cells.Cell.{Cell}
use Rattle.tree_definitions.specs.declared.cells.Cell.TheVariants.{Byte, Doubtful}
use Rattle.tree_definitions.specs.declared.node.Node.{Node}
use Rattle.tree_definitions.specs.declared.node.Node.TheVariants.{Dir, File, Link}
use Rattle.tree_definitions.specs.Touched.{shape_of, shaped}
use Rattle.tree_definitions.specs.Tree.{FileTree, node_at, small_blocks_of}
use Rattle.tree_definitions.specs.WellFormed.{IsWellFormed}
use Rattle.tree_laws.proofs.ShapeNodes.{found}
use Rattle.disk_definitions.specs.Naming.{Allows, Naming, Pictures, blocks_of, cell_in, file_byte, has_large}
use Rattle.disk_definitions.specs.Store.{Store}
use Rattle.disk_definitions.specs.Meets.{IsOfTree}
use Rattle.line_laws.specs.Stores.{with_bytes}
use Rattle.byte_trees.proofs.Filling.{any_bytes, filled, there_too}

-- a byte that the cell allows
value : Option Cell → ℕ
value None = 0
value (Some (Byte x)) = x
value (Some Doubtful) = 0

allowed : (c : Cell) → Allows c (value (Some c))
unfolding value
allowed (Byte x) = refl
allowed Doubtful = tt

-- the byte at a place of the small block, or of the large one, that this node has
small_in : FileTree → ℕ → Option (ℕ × ℕ) → ℕ
small_in t index None = 0
small_in t index (Some owner) = value (cell_in (node_at t owner.0) (4096 * owner.1 + index))

large_in : FileTree → ℕ → Option ℕ → ℕ
large_in t index None = 0
large_in t index (Some birth) = value (cell_in (node_at t birth) (65536 + index))

pub small_byte : FileTree → Naming → ℕ → ℕ → ℕ
small_byte t n block index = small_in t index (n.owner block)

pub large_byte : FileTree → Naming → ℕ → ℕ → ℕ
large_byte t n block index = large_in t index (n.large_owner block)

pub has_block : (size at : ℕ) → at < 65536 → at < size → at / 4096 < small_blocks_of size
has_block size at l m = omega arith

-- the block that a cell of a file lies in
module _ (j : ℕ) (c : Cell) where
  in_small : (o : Option Node) → cell_in o j ≡ Some c → j < 65536 → j / 4096 < blocks_of (shaped o)
  in_small None is low = absurd (cc)
  in_small (Some (Dir entries blocks)) is low = absurd (cc)
  in_small (Some (Link target links)) is low = absurd (cc)
  in_small (Some (File cells links when)) is low =
      subst (λ size. j / 4096 < small_blocks_of size) (sym (length-map cells (λ c. Doubtful))) (has_block (length cells) j low (slice_get_within cells j c is))

  in_large : (o : Option Node) → cell_in o j ≡ Some c → 65536 ≤ j → has_large (shaped o) ≡ true
  in_large None is high = absurd (cc)
  in_large (Some (Dir entries blocks)) is high = absurd (cc)
  in_large (Some (Link target links)) is high = absurd (cc)
  in_large (Some (File cells links when)) is high =
      let inside : j < length cells = slice_get_within cells j c is in
      subst (λ size. nat_lt 65536 size ≡ true) (sym (length-map cells (λ c. Doubtful))) (lt-ltb 65536 (length cells) (omega arith))

module _ (s : Store) (t : FileTree) (n : Naming) (well : IsWellFormed t) (of : IsOfTree s (shape_of t) n) where
  shape_pictures : Pictures s (λ b. shaped (node_at t b)) n
  shape_pictures = subst (λ at. Pictures s at n) (fun_ext (found t)) of.pictures

  bytes_there : (b j : ℕ) (c : Cell) → cell_in (node_at t b) j ≡ Some c → Allows c (file_byte (with_bytes s (small_byte t n) (large_byte t n)) n b j)
  unfolding small_byte large_byte small_in large_in
  bytes_there b j c is = ⊎_elim small large (cases_lt j 65536)
    where
      small : j < 65536 → Allows c (file_byte (with_bytes s (small_byte t n) (large_byte t n)) n b j)
      small low =
          let owned = shape_pictures.owned b (j / 4096) (in_small j c (node_at t b) is low) in
          let here : 4096 * (j / 4096) + j % 4096 ≡ j = omega arith in
          let same : file_byte (with_bytes s (small_byte t n) (large_byte t n)) n b j ≡ value (Some c) =
          ap (λ (q : Bool). if q then small_in t (j % 4096) (n.owner (n.block b (j / 4096))) else large_in t (j - 65536) (n.large_owner (n.large b))) (lt-ltb j 65536 low)
          ∙ ap (small_in t (j % 4096)) owned ∙ ap (λ k. value (cell_in (node_at t b) k)) here ∙ ap value is in
          subst (Allows c) (sym same) (allowed c)

      large : 65536 ≤ j → Allows c (file_byte (with_bytes s (small_byte t n) (large_byte t n)) n b j)
      large high =
          let owned = shape_pictures.larges b (in_large j c (node_at t b) is high) in
          let here : 65536 + (j - 65536) ≡ j = omega arith in
          let same : file_byte (with_bytes s (small_byte t n) (large_byte t n)) n b j ≡ value (Some c) =
          ap (λ (q : Bool). if q then small_in t (j % 4096) (n.owner (n.block b (j / 4096))) else large_in t (j - 65536) (n.large_owner (n.large b))) (le-ltb j 65536 high)
          ∙ ap (large_in t (j - 65536)) owned ∙ ap (λ k. value (cell_in (node_at t b) k)) here ∙ ap value is in
          subst (Allows c) (sym same) (allowed c)

  pub says_the_tree : IsOfTree (with_bytes s (small_byte t n) (large_byte t n)) t n
  says_the_tree = record {
    well_formed = well;
    few = of.few;
    pictures = filled (with_bytes s (small_byte t n) (large_byte t n)) (node_at t) n (any_bytes s (node_at t) n shape_pictures (small_byte t n) (large_byte t n)) bytes_there;
    root = of.root;
    births = λ b some late. of.births b (ap is_some (found t b) ∙ there_too (node_at t) n b some) late;
    inodes = of.inodes;
    blocks = of.blocks;
    larges = of.larges;
  }
