-- Histories of lines as both sides tell them: where the parts of files lie, what is asked of each entry, and that doubt is the same.
use Rattle.std.specs.Prelude.{◌≡◌, ◌≤◌, ℕ, true, false, ◌&&◌, ◌||◌, ◌==◌, Bool, Option, List, [], ◌∷◌, is_some}
use Rattle.frang_base.specs.Locks.{has_lock}
use Rattle.frang_base.specs.declared.lock.LockId.{LockId}
use Rattle.frang_base.specs.declared.lock.LockId.TheVariants.{Node}
use Rattle.tree_definitions.specs.declared.history.Entry.{Entry}
use Rattle.tree_definitions.specs.History.{is_answer}
use Rattle.tree_definitions.specs.Removal.{is_doubtful}
use Rattle.tree_definitions.specs.Touched.{shape_of, touches, is_mounted, is_ok, is_sync}
use Rattle.tree_definitions.specs.Tree.{FileTree, node_at}
use Rattle.tree_laws.specs.Doubts.{entry_writes}
use Rattle.sector_bytes.specs.Blocks.{Block}
use Rattle.sector_world.specs.Histories.{Commit, Each, in_doubt}
use Rattle.sector_world.specs.Plans.{IsByPlan, Legal}
use Rattle.sector_world.specs.Seen as seen
use Rattle.sector_world.specs.Trees.{Distinct, tree_of}
use Rattle.disk_definitions.specs.Naming.{Naming}
use Rattle.disk_definitions.specs.Ask.{Sector, number_of}
use Rattle.disk_definitions.specs.Meets.{IsOfTree}
use Rattle.line_histories.specs.LinePlans.{sector_plan, without_bytes}
use Rattle.line_histories.specs.Following.{Follows, store_after}
use Rattle.line_histories.specs.Standing.{StandsNumbered}
use Rattle.line_histories.specs.Trees.{AreTimes, MayNumber, performed}
use Rattle.byte_trees.specs.Deeds.{Deed, Does, Says, Doubts, items, steps, tree_after}
use Rattle.line_histories.specs.Parts.{LiesIn}

-- after a history a part of the file of this birth lies in the sector with this number, by a naming of what the sectors with versions say
pub record LiesAfter (segments : ℕ) (opening : ℕ → Block) (first_tree : FileTree) (birth part number : ℕ) (deeds : List Deed) : Type 0 where
  pub naming : Naming
  pub of : IsOfTree (store_after segments opening (items deeds)) (shape_of (tree_after first_tree deeds)) naming
  pub sector : Sector
  pub lies : LiesIn (store_after segments opening (items deeds)) (shape_of (tree_after first_tree deeds)) naming birth part sector
  pub here : number ≡ number_of sector

-- What is asked of an operation with its entry: they are of one server and one line, the reply is the same but for bytes, and the tree's answer; where the
-- entry touches a node that is there, the operation uses this node's lock; and it looks at the bytes of each sector under a lock that it uses
pub record IsTold (segments : ℕ) (opening : ℕ → Block) (home : ℕ → LockId) (first_tree : FileTree) (c : Commit) (e : Entry) (older : List Deed) : Type 0 where
  pub by : e.server.0 ≡ c.by
  pub asked : e.op ≡ c.asked
  pub reply : without_bytes e.reply ≡ c.reply
  pub answers : is_answer (tree_after first_tree older) e ≡ true
  pub no_mount : is_mounted e.reply ≡ false
  pub no_sync : is_sync e.op && is_ok e.reply ≡ false
  pub uses : (birth : ℕ) (naming : Naming) → IsOfTree (store_after segments opening (items older)) (shape_of (tree_after first_tree older)) naming →
      is_some (node_at (shape_of (tree_after first_tree older)) birth) ≡ true → touches (tree_after first_tree older) e birth ≡ true →
      has_lock (Node (naming.inode birth)) c.uses ≡ true
  pub sees : (sector : ℕ) → has_lock (seen.cover_of home (items older) sector) c.uses ≡ true → c.sees sector ≡ true

-- an entry that does nothing to sectors: it touches and meets nothing, leaves the tree's shape, and a sync or a mount of the server covers its operations
pub record IsSaid (first_tree : FileTree) (server number : ℕ) (e : Entry) (older : List Deed) : Type 0 where
  pub meets_none : (birth part : ℕ) → entry_writes (tree_after first_tree older) e birth part ≡ false
  pub touches_none : (birth : ℕ) → touches (tree_after first_tree older) e birth ≡ false
  pub covers : e.server.0 == server ≡ true → is_mounted e.reply || (is_sync e.op && is_ok e.reply) ≡ true → Each (λ c. c.by ≡ server → c.op ≤ number) (items older)

-- after a history the file tree has the shape that the operations gave it
abbrev pub HasShape : (ℕ → ℕ) → FileTree → List Deed → Type 0
HasShape when first_tree deeds = shape_of (tree_after first_tree deeds) ≡ shape_of (tree_of (performed when) first_tree (items deeds))

-- so it is of each deed, and the shape is that of the operations after each
abbrev pub AllTold : (segments : ℕ) → (ℕ → ℕ) → (ℕ → Block) → (ℕ → LockId) → FileTree → (server number : ℕ) → List Deed → Type 0
AllTold segments when opening home first_tree server number [] = Unit {0}
AllTold segments when opening home first_tree server number (Does c e ∷ older) =
    IsTold segments opening home first_tree c e older × HasShape when first_tree (Does c e ∷ older) × AllTold segments when opening home first_tree server number older
AllTold segments when opening home first_tree server number (Says e ∷ older) =
    IsSaid first_tree server number e older × HasShape when first_tree (Says e ∷ older) × AllTold segments when opening home first_tree server number older
AllTold segments when opening home first_tree server number (Doubts marked runs ∷ older) =
    HasShape when first_tree (Doubts marked runs ∷ older) × AllTold segments when opening home first_tree server number older

-- along each legal history of lines: where a recovery of the server leaves a sector in doubt, the rules on histories leave each part of a file that lies
-- there in doubt
abbrev pub DoubtIsTheSameAlongLines : Type 0
DoubtIsTheSameAlongLines =
    (segments : ℕ) (when : ℕ → ℕ) (opening : ℕ → Block) (first_tree : FileTree) (numbers : List ℕ) (home : ℕ → LockId)
    (logged : ℕ → Bool) (first : ℕ → Option Block) (server number : ℕ) (deeds : List Deed) → AreTimes when →
    StandsNumbered segments opening (record { tree = first_tree; numbers = numbers }) → Legal (sector_plan segments when) opening (items deeds) →
    Distinct (MayNumber numbers) first_tree (items deeds) → Each IsByPlan (items deeds) → Follows segments opening home logged first [] →
    AllTold segments when opening home first_tree server number deeds →
    (birth part sector : ℕ) → LiesAfter segments opening first_tree birth part sector deeds → in_doubt server number (items deeds) sector ≡ true →
    is_doubtful server birth part false first_tree (steps deeds) ≡ true
