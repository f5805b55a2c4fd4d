-- Marks of sectors, with runs that cover the cells of the parts that lie there, keep cells known.
use Rattle.std.proofs.Common.{ℕ, ◌≡◌, ◌<◌, ◌/◌, ◌%◌, Bool, true, false, if◌then◌else◌, Option, Some, None, List, ◌∷◌, length, slice_index, refl, sym, ◌∙◌, ap, subst, arith}
use Rattle.std.proofs.lemmas.List.{length-map}
use Rattle.std.proofs.lemmas.Option.{slice_get_within, none-some}
use Rattle.std.proofs.lemmas.Bool.{false_from_ne_true}
use Rattle.tree_definitions.specs.declared.cells.Cell.{Cell}
use Rattle.tree_definitions.specs.declared.cells.Cell.TheVariants as cell
use Rattle.tree_definitions.specs.declared.node.Node.{Node}
use Rattle.tree_definitions.specs.declared.node.Node.TheVariants.{Dir, File, Link}
use Rattle.tree_definitions.specs.History.{CellRun, InDoubt, doubted}
use Rattle.tree_definitions.specs.Touched.{shape_of, doubts, shaped}
use Rattle.tree_definitions.specs.Tree.{FileTree, node_at}
use Rattle.tree_laws.proofs.HistoryLaws.{after_all-push}
use Rattle.tree_laws.proofs.ShapeNodes.{found}
use Rattle.sector_bytes.specs.Blocks.{Block}
use Rattle.sector_world.specs.HistoryBytes.{value}
use Rattle.sector_world.specs.Histories.Item.{Doubt}
use Rattle.disk_definitions.specs.Naming.{Naming, cell_in, file_byte}
use Rattle.disk_definitions.specs.Store.{store_of}
use Rattle.disk_definitions.specs.Ask.{number_of}
use Rattle.disk_definitions.specs.Meets.{IsOfTree}
use Rattle.line_histories.specs.Following.{store_after}
use Rattle.byte_trees.specs.Cells.{IsByte}
use Rattle.byte_trees.proofs.Doubting.{doubt_keeps}
use Rattle.byte_trees.specs.Deeds.{Deed, Doubts, items, steps, tree_after}
use Rattle.stop_laws.specs.Along.{LiesAfter}
use Rattle.byte_trees.specs.Standing.{HasItsBytes}
use Rattle.stop_laws.specs.Known.{HasWhatIsKnown, KnowsCells}
use Rattle.stop_laws.proofs.Places.{stands_in}
use Rattle.stop_laws.specs.Cells.{CoversMarks}
use Rattle.stop_laws.proofs.Lying.{size_there}

or_else : Option Block → Block → Block
or_else None other = other
or_else (Some block) other = block

module _ (segments : ℕ) (opening : ℕ → Block) (first_tree : FileTree) (logged : ℕ → Bool) (first : ℕ → Option Block) (marked : ℕ → Bool) (runs : List CellRun) (older : List Deed)
    (covers : CoversMarks segments opening first_tree marked runs older)
    (shape : shape_of (tree_after first_tree (Doubts marked runs ∷ older)) ≡ shape_of (tree_after first_tree older))
    (knows : KnowsCells segments opening logged first first_tree older) where
  abbrev tree : FileTree
  tree = tree_after first_tree older

  doubted_tree : tree_after first_tree (Doubts marked runs ∷ older) ≡ doubted (tree_after first_tree older) runs
  doubted_tree = after_all-push first_tree (steps older) (InDoubt runs)

  module _ (naming : Naming) (of : IsOfTree (store_after segments opening (items older)) (shape_of tree) naming) where
    -- a cell of a part is below the size of the file
    cell_below : (b j t : ℕ) (c : Cell) → cell_in (node_at tree b) j ≡ Some c → (s : ℕ) (lies : LiesAfter segments opening first_tree b t s older) → j < lies.lies.stored.size
    cell_below b j t c e s lies = go (node_at tree b) refl e
      where
        go : (o : Option Node) → node_at tree b ≡ o → cell_in o j ≡ Some c → j < lies.lies.stored.size
        go None is i = absurd (none-some c i)
        go (Some (Dir entries blocks)) is i = absurd (none-some c i)
        go (Some (Link target links)) is i = absurd (none-some c i)
        go (Some (File cells links when)) is i =
            let size : lies.lies.stored.size ≡ length (doubts cells)
            = size_there (store_after segments opening (items older)) (shape_of tree) lies.naming lies.of b t lies.sector lies.lies (doubts cells) links when (found tree b ∙ ap shaped is) in
            subst (λ k. j < k) (sym (size ∙ length-map cells (λ d. cell.Doubtful))) (slice_get_within cells j c i)

    module _ (disk : ℕ → Block) (has : HasWhatIsKnown logged first (Doubt marked ∷ items older) disk) where
      -- a disk with what was known: where a sector is marked, what was known there
      before : ℕ → Block
      before s = if marked s then or_else (value first (items older) s) (disk s) else disk s

      has_before : HasWhatIsKnown logged first (items older) before
      unfolding before or_else
      has_before s plain u free is = go (marked s) refl
        where
          go : (b : Bool) → marked s ≡ b → u ≡ (if b then or_else (value first (items older) s) (disk s) else disk s)
          go true e = sym (ap (λ o. or_else o (disk s)) is)
          go false e = has s plain u free (ap (λ (b : Bool). if b then None else value first (items older) s) e ∙ is)

      same_there : (s : ℕ) → marked s ≡ false → before s ≡ disk s
      unfolding before
      same_there s e = ap (λ (b : Bool). if b then or_else (value first (items older) s) (disk s) else disk s) e

      byte_known : (b j x : ℕ) → IsByte (doubted tree runs) b j x → file_byte (store_of segments disk) naming b j ≡ x
      byte_known b j x e =
          let was = doubt_keeps tree runs b j x e in
          let place = stands_in segments (store_after segments opening (items older)) tree naming of b j (cell.Byte x) was.before in
          let lies : LiesAfter segments opening first_tree b (j / 512) (number_of place.sector) older = record { naming = naming; of = of; sector = place.sector; lies = place.lies; here = refl } in
          let sure : marked (number_of place.sector) ≡ false = false_from_ne_true (marked (number_of place.sector))
          (λ mark.
          let one = covers b (j / 512) (number_of place.sector) lies mark j (omega arith) (omega arith) (cell_below b j (j / 512) (cell.Byte x) was.before (number_of place.sector) lies) in
          was.apart one.0 one.1 one.2) in
          place.byte disk ∙ ap (λ block. slice_index block (j % 512)) (sym (same_there (number_of place.sector) sure)) ∙ sym (place.byte before)
          ∙ knows naming of before has_before b j (cell.Byte x) was.before

      has_bytes : HasItsBytes (store_of segments disk) (tree_after first_tree (Doubts marked runs ∷ older)) naming
      has_bytes b j (cell.Byte x) e = byte_known b j x (subst (λ t. IsByte t b j x) doubted_tree e)
      has_bytes b j cell.Doubtful e = tt

  pub marks_known : KnowsCells segments opening logged first first_tree (Doubts marked runs ∷ older)
  marks_known naming of disk has = has_bytes naming (subst (λ u. IsOfTree (store_after segments opening (items older)) u naming) shape of) disk has
