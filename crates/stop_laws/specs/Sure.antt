-- Entries that make sure what their server did before them, unmounts among them: each comes after none of its operations that a recovery may remove.
use Rattle.std.specs.Prelude.{◌≡◌, ◌≤◌, ◌&&◌, ◌||◌, not, nat_eq, ℕ, Bool, true, false, List, [], ◌∷◌}
use Rattle.tree_definitions.specs.Tree.{FileTree}
use Rattle.tree_laws.specs.Syncing.{stalled_along}
use Rattle.sector_bytes.specs.Blocks.{Block}
use Rattle.sector_world.specs.Histories.{Each, Entry}
use Rattle.sector_world.specs.Histories.Entry.{Did, Recovered, Synced, Mounted}
use Rattle.sector_world.specs.Seen.{Unsynced}
use Rattle.line_histories.specs.Standing.{StandsNumbered}
use Rattle.line_histories.specs.Trees.{AreTimes}
use Rattle.byte_trees.specs.Deeds.{Deed, Does, Says, Doubts, items, steps}
use Rattle.stop_laws.specs.Happened.{Happening, on_sectors, settle}
use Rattle.stop_laws.specs.Paired.{ArePaired}
use Rattle.stop_laws.specs.Synced.{AllSaidAtOnce, says_synced}

-- a server was mounted, and not recovered since
abbrev pub has_mounted : ℕ → List Entry → Bool
has_mounted server [] = false
has_mounted server (Did c ∷ older) = has_mounted server older
has_mounted server (Recovered other durable ∷ older) = not (nat_eq other server) && has_mounted server older
has_mounted server (Synced other number ∷ older) = has_mounted server older
has_mounted server (Mounted other number ∷ older) = nat_eq other server || has_mounted server older

-- each recovery is of such a server
abbrev pub AreRecoveredOnce : List Entry → Type 0
AreRecoveredOnce [] = Unit {0}
AreRecoveredOnce (Did c ∷ older) = AreRecoveredOnce older
AreRecoveredOnce (Recovered server durable ∷ older) = (has_mounted server older ≡ true) × AreRecoveredOnce older
AreRecoveredOnce (Synced server number ∷ older) = AreRecoveredOnce older
AreRecoveredOnce (Mounted server number ∷ older) = AreRecoveredOnce older

-- each entry of the server that says that its operations are synced, of an unmount too where no stall of it is left since its last mount, comes after none of these above the number
abbrev pub AllSure : (server number : ℕ) → List Deed → Type 0
AllSure server number [] = Unit {0}
AllSure server number (Does c e ∷ older) = AllSure server number older
AllSure server number (Says e ∷ older) =
    (e.server.0 ≡ server → says_synced (stalled_along server false (steps older)) e ≡ true → Each (λ c. c.by ≡ server → c.op ≤ number) (items older)) × AllSure server number older
AllSure server number (Doubts marked runs ∷ older) = AllSure server number older

-- so it is along each history that is told twice, of a server that was mounted and not recovered since, by each number that its syncs and mounts allow
abbrev pub HistoriesMakeSure : Type 0
HistoriesMakeSure =
    (segments : ℕ) (when : ℕ → ℕ) (opening : ℕ → Block) (first_tree : FileTree) (numbers : List ℕ) (h : List Happening) → AreTimes when →
    StandsNumbered segments opening (record { tree = first_tree; numbers = numbers }) → ArePaired segments when opening first_tree numbers h → AllSaidAtOnce h →
    (server durable : ℕ) → has_mounted server (on_sectors h) ≡ true → Unsynced server durable (on_sectors h) → AllSure server durable (settle first_tree h)
