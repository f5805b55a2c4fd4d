-- What the end of a recovery marks keeps cells known.
use Rattle.std.proofs.Common.{ℕ, ◌≡◌, ◌≤◌, ◌<◌, ◌+◌, ◌*◌, ◌/◌, ◌%◌, Bool, true, false, if◌then◌else◌, Option, Some, None, List, ◌∷◌, slice_index, refl, sym, ◌∙◌, ap, subst, arith}
use Rattle.std.proofs.lemmas.Bool.{false_from_ne_true}
use Rattle.frang_base.specs.declared.lock.LockId.{LockId}
use Rattle.tree_definitions.specs.declared.cells.Cell.TheVariants as cell
use Rattle.tree_definitions.specs.History.{InDoubt, doubted}
use Rattle.tree_definitions.specs.Removal.{doubtful}
use Rattle.tree_definitions.specs.Touched.{shape_of}
use Rattle.tree_definitions.specs.Tree.{FileTree}
use Rattle.tree_laws.proofs.HistoryLaws.{after_all-push}
use Rattle.sector_bytes.specs.Blocks.{Block}
use Rattle.sector_world.specs.HistoryBytes.{value}
use Rattle.sector_world.specs.Histories.{in_doubt}
use Rattle.sector_world.specs.Histories.Item.{Doubt}
use Rattle.disk_definitions.specs.Naming.{Naming, file_byte}
use Rattle.disk_definitions.specs.Store.{store_of}
use Rattle.disk_definitions.specs.Ask.{number_of}
use Rattle.disk_definitions.specs.Meets.{IsOfTree}
use Rattle.line_histories.specs.Following.{store_after}
use Rattle.byte_trees.specs.Cells.{IsByte}
use Rattle.byte_trees.proofs.Doubting.{doubt_keeps, parts_have_none}
use Rattle.byte_trees.specs.Deeds.{Deed, items, steps, tree_after}
use Rattle.stop_laws.specs.Along.{HasShape, LiesAfter}
use Rattle.stop_laws.proofs.BytesAlong.{doubt_same_along}
use Rattle.byte_trees.specs.Standing.{HasItsBytes}
use Rattle.stop_laws.specs.Known.{HasWhatIsKnown, KnowsCells, marked_by, IsToldTwice, MarkedPartsHaveNoBytes, MarksKeepCellsKnown}
use Rattle.stop_laws.proofs.Places.{stands_in}

or_else : Option Block → Block → Block
or_else None other = other
or_else (Some block) other = block

module _ (segments : ℕ) (when : ℕ → ℕ) (opening : ℕ → Block) (first_tree : FileTree) (numbers : List ℕ) (home : ℕ → LockId) (logged : ℕ → Bool) (first : ℕ → Option Block) (server number : ℕ) (deeds : List Deed)
    (told : IsToldTwice segments when opening first_tree numbers home logged first server number deeds) where
  abbrev tree : FileTree
  tree = tree_after first_tree deeds

  -- the tree with the cells in doubt
  doubted_tree : tree_after first_tree (marked_by first_tree server number deeds ∷ deeds) ≡ doubted tree (doubtful server first_tree (steps deeds))
  doubted_tree = after_all-push first_tree (steps deeds) (InDoubt (doubtful server first_tree (steps deeds)))

  no_byte : (b t s : ℕ) → LiesAfter segments opening first_tree b t s deeds → in_doubt server number (items deeds) s ≡ true → (j x : ℕ) → 512 * t ≤ j → j < 512 * (t + 1) → IsByte (doubted tree (doubtful server first_tree (steps deeds))) b j x → ⊥
  no_byte b t s lies doubt j x lo hi e =
      parts_have_none server first_tree (steps deeds) b t j x lo hi
      (doubt_same_along segments when opening first_tree numbers home logged first server number deeds told.times told.begins told.legal told.distinct told.by_plan told.follows told.told b t s lies doubt) e

  module _ (shape_now : HasShape when first_tree deeds) (shape_then : HasShape when first_tree (marked_by first_tree server number deeds ∷ deeds)) (knows : KnowsCells segments opening logged first first_tree deeds) (naming : Naming)
      (of : IsOfTree (store_after segments opening (items deeds)) (shape_of (tree_after first_tree (marked_by first_tree server number deeds ∷ deeds))) naming) (disk : ℕ → Block)
      (has : HasWhatIsKnown logged first (Doubt (in_doubt server number (items deeds)) ∷ items deeds) disk) where
    of_now : IsOfTree (store_after segments opening (items deeds)) (shape_of tree) naming
    of_now = subst (λ u. IsOfTree (store_after segments opening (items deeds)) u naming) (shape_then ∙ sym shape_now) of

    -- a disk with what was known: where a sector is marked, what was known there
    before : ℕ → Block
    before s = if in_doubt server number (items deeds) s then or_else (value first (items deeds) s) (disk s) else disk s

    has_before : HasWhatIsKnown logged first (items deeds) before
    unfolding before or_else
    has_before s plain u free is = go (in_doubt server number (items deeds) s) refl
      where
        go : (b : Bool) → in_doubt server number (items deeds) s ≡ b → u ≡ (if b then or_else (value first (items deeds) s) (disk s) else disk s)
        go true e = sym (ap (λ o. or_else o (disk s)) is)
        go false e = has s plain u free (ap (λ (b : Bool). if b then None else value first (items deeds) s) e ∙ is)

    same_there : (s : ℕ) → in_doubt server number (items deeds) s ≡ false → before s ≡ disk s
    unfolding before
    same_there s e = ap (λ (b : Bool). if b then or_else (value first (items deeds) s) (disk s) else disk s) e

    byte_known : (b j x : ℕ) → IsByte (doubted tree (doubtful server first_tree (steps deeds))) b j x → file_byte (store_of segments disk) naming b j ≡ x
    byte_known b j x e =
        let was = (doubt_keeps tree (doubtful server first_tree (steps deeds)) b j x e).before in
        let place = stands_in segments (store_after segments opening (items deeds)) tree naming of_now b j (cell.Byte x) was in
        let lies : LiesAfter segments opening first_tree b (j / 512) (number_of place.sector) deeds = record { naming = naming; of = of_now; sector = place.sector; lies = place.lies; here = refl } in
        let sure : in_doubt server number (items deeds) (number_of place.sector) ≡ false = false_from_ne_true (in_doubt server number (items deeds) (number_of place.sector))
        (λ doubt. no_byte b (j / 512) (number_of place.sector) lies doubt j x (omega arith) (omega arith) e) in
        place.byte disk ∙ ap (λ block. slice_index block (j % 512)) (sym (same_there (number_of place.sector) sure)) ∙ sym (place.byte before)
        ∙ knows naming of_now before has_before b j (cell.Byte x) was

    has_bytes : HasItsBytes (store_of segments disk) (tree_after first_tree (marked_by first_tree server number deeds ∷ deeds)) naming
    has_bytes b j (cell.Byte x) e = byte_known b j x (subst (λ t. IsByte t b j x) doubted_tree e)
    has_bytes b j cell.Doubtful e = tt

pub marked_have_none : MarkedPartsHaveNoBytes
marked_have_none segments when opening first_tree numbers home logged first server number deeds told b t s lies doubt j x lo hi e =
    no_byte segments when opening first_tree numbers home logged first server number deeds told b t s lies doubt j x lo hi
    (subst (λ u. IsByte u b j x) (doubted_tree segments when opening first_tree numbers home logged first server number deeds told) e)

pub marks_keep : MarksKeepCellsKnown
marks_keep segments when opening first_tree numbers home logged first server number deeds told shape_now shape_then knows naming of disk has =
    has_bytes segments when opening first_tree numbers home logged first server number deeds told shape_now shape_then knows naming of disk has
