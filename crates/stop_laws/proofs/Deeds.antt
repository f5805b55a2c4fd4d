-- Cells are known along every history, by its deeds, oldest first.
use Rattle.std.proofs.Common.{ℕ, ◌≡◌, Bool, true, Option, List, [], ◌∷◌, refl, sym, ◌∙◌, subst}
use Rattle.frang_base.specs.declared.lock.LockId.{LockId}
use Rattle.tree_definitions.specs.declared.history.Entry.{Entry}
use Rattle.tree_definitions.specs.History.{is_answer}
use Rattle.tree_definitions.specs.Touched.{shape_of}
use Rattle.tree_definitions.specs.Tree.{FileTree}
use Rattle.sector_bytes.specs.Blocks.{Block}
use Rattle.sector_world.specs.HistoryBytes.{Agree}
use Rattle.sector_world.specs.Histories.{Commit, Each, Item}
use Rattle.sector_world.specs.Histories.Item.{Done}
use Rattle.sector_world.specs.Plans.{IsByPlan, Legal}
use Rattle.sector_world.specs.Trees.{Distinct}
use Rattle.disk_definitions.specs.Store.{store_of}
use Rattle.disk_definitions.specs.Meets.{IsOfTree}
use Rattle.line_histories.specs.LinePlans.{sector_plan}
use Rattle.line_histories.specs.Following.{Follows, store_after}
use Rattle.line_histories.specs.Standing.{StandsNumbered}
use Rattle.line_histories.specs.Trees.{AreTimes, MayNumber}
use Rattle.line_histories.proofs.Following.{all_follow}
use Rattle.line_histories.proofs.Runs.{numbered, take_distinct}
use Rattle.byte_trees.specs.Deeds.{Deed, Does, Says, Doubts, items, tree_after}
use Rattle.byte_trees.specs.Standing.{HasItsBytes}
use Rattle.stop_laws.specs.Along.{AllTold}
use Rattle.stop_laws.proofs.BytesAlong as along
use Rattle.stop_laws.proofs.BytesAlong.{numbered_shape, shape_at}
use Rattle.stop_laws.specs.Known.{KnowsCells}
use Rattle.stop_laws.specs.Cells.{AllShown, CellsAreKnown, IsShown, RepliesAreAnswers}
use Rattle.stop_laws.proofs.Marks.{marks_known}
use Rattle.stop_laws.proofs.Operation.{answer_is, operation_known}
use Rattle.stop_laws.proofs.Stepping.{stepped}

module _ (segments : ℕ) (when : ℕ → ℕ) (times : AreTimes when) (opening : ℕ → Block) (first_tree : FileTree) (numbers : List ℕ)
    (begins : StandsNumbered segments opening (numbered first_tree numbers)) (home : ℕ → LockId)
    (logged : ℕ → Bool) (first : ℕ → Option Block) (server number : ℕ) (follows : Follows segments opening home logged first []) where
  abbrev Told : List Deed → Type 0
  Told deeds = AllTold segments when opening home first_tree server number deeds

  abbrev Knows : List Deed → Type 0
  Knows deeds = KnowsCells segments opening logged first first_tree deeds

  all_by : (h : List Item) → Legal (sector_plan segments when) opening h → Distinct (MayNumber numbers) first_tree h → Each IsByPlan h →
      Follows segments opening home logged first h
  all_by h l d by = all_follow segments when opening first_tree numbers h home logged first times begins l d by follows

  -- an entry that does nothing to sectors
  said_known : (e : Entry) (older : List Deed) → tree_after first_tree (Says e ∷ older) ≡ tree_after first_tree older → Knows older → Knows (Says e ∷ older)
  said_known e older same k naming of disk has =
      subst (λ t. HasItsBytes (store_of segments disk) t naming) (sym same) (k naming (subst (λ t. IsOfTree (store_after segments opening (items older)) (shape_of t) naming) same of) disk has)

  known : (deeds : List Deed) → Legal (sector_plan segments when) opening (items deeds) → Distinct (MayNumber numbers) first_tree (items deeds) →
      Each IsByPlan (items deeds) → Agree first (items deeds) → Told deeds →
      AllShown segments when opening first_tree deeds → Knows [] → Knows deeds
  known [] l d by a t s k = k
  known (Says e ∷ older) l d by a t s k = said_known e older s.0 (known older l d by a t.2 s.1 k)
  known (Doubts marked runs ∷ older) l d by a t s k =
      marks_known segments opening first_tree logged first marked runs older s.0
      (shape_at segments when times opening first_tree numbers begins home server number 0 0 0 (Doubts marked runs ∷ older) t
      ∙ sym (shape_at segments when times opening first_tree numbers begins home server number 0 0 0 older t.1))
      (known older l d by a t.1 s.1 k)
  known (Does c e ∷ older) l d by a t s k =
      operation_known segments when opening first_tree home logged first c e older
      (stepped segments when times opening (numbered first_tree numbers) begins c (items older) l (take_distinct when first_tree numbers (items (Does c e ∷ older)) d) by.0
      (tree_after first_tree older) (tree_after first_tree (Does c e ∷ older))
      (numbered_shape segments when times opening first_tree numbers begins home server number 0 0 0 older t.2)
      (numbered_shape segments when times opening first_tree numbers begins home server number 0 0 0 (Does c e ∷ older) t))
      by.0 a t.0.asked s.0 (known older l.1 d.2 by.1 a.1 t.2 s.1 k) (all_by (items older) l.1 d.2 by.1) (all_by (items (Does c e ∷ older)) l d by)

  -- the next operation, whatever its entry makes of the tree
  module _ (deeds : List Deed) (c : Commit) (e : Entry) (l : Legal (sector_plan segments when) opening (Done c ∷ items deeds))
      (d : Distinct (MayNumber numbers) first_tree (Done c ∷ items deeds))
      (by : Each IsByPlan (Done c ∷ items deeds)) (a : Agree first (Done c ∷ items deeds)) (t : Told deeds) (s : AllShown segments when opening first_tree deeds)
      (k : Knows []) (asked : e.op ≡ c.asked)
      (shown : IsShown segments when opening c e deeds) where
    abbrev to : FileTree
    to = along.to segments when times opening (numbered first_tree numbers) begins c (items deeds) l (take_distinct when first_tree numbers (Done c ∷ items deeds) d) by.0

    reply_is : is_answer (tree_after first_tree deeds) e ≡ true
    reply_is =
        answer_is segments when opening first_tree home logged first c e deeds to
        (stepped segments when times opening (numbered first_tree numbers) begins c (items deeds) l (take_distinct when first_tree numbers (Done c ∷ items deeds) d) by.0 (tree_after first_tree deeds) to
        (numbered_shape segments when times opening first_tree numbers begins home server number 0 0 0 deeds t) refl)
        by.0 a asked shown (known deeds l.1 d.2 by.1 a.1 t s k) (all_by (items deeds) l.1 d.2 by.1) (all_by (Done c ∷ items deeds) l d by)

pub all_known : CellsAreKnown
all_known segments when opening first_tree numbers home logged first server number deeds told a s k =
    known segments when told.times opening first_tree numbers told.begins home logged first server number told.follows deeds told.legal told.distinct told.by_plan a told.told s k

pub replies_are : RepliesAreAnswers
replies_are segments when opening first_tree numbers home logged first server number deeds c e told s k l d by a asked shown =
    reply_is segments when told.times opening first_tree numbers told.begins home logged first server number told.follows deeds c e l d (by, told.by_plan) a told.told s k asked shown
