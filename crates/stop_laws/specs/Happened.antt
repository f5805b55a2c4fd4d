-- What happened, told twice, the newest first: the history of the file tree beside that of the sectors, with the ends of recoveries, which act on both.
use Rattle.std.specs.Prelude.{ℕ, Bool, false, not, ◌&&◌, ◌||◌, ◌==◌, List, [], ◌∷◌, ◌++◌}
use Rattle.frang_base.specs.Functions.{keep_if}
use Rattle.tree_definitions.specs.declared.history.Entry.{Entry}
use Rattle.tree_definitions.specs.declared.history.Item.{Item}
use Rattle.tree_definitions.specs.declared.history.Item.TheVariants as item
use Rattle.tree_definitions.specs.Tree.{FileTree}
use Rattle.sector_world.specs.Histories.{Commit, is_own, survives, synced_of}
use Rattle.sector_world.specs.Histories as sectors
use Rattle.byte_trees.specs.Deeds.{Deed, Does, Says, Doubts}
use Rattle.stop_laws.specs.Known.{marked_by}

-- an operation with its entry; an entry that does nothing to sectors; the entry of a mount, which covers the server's operations up to a number; a sync, or
-- an unmount, on the side of sectors, which does so too; the end of a recovery of a server's log, by the greatest number of its records, and by the number
-- up to which the server's operations are durable
pub data Happening : Type 0 where
  Acts : (c : Commit) (e : Entry) → Happening
  Speaks : (e : Entry) → Happening
  Mounts : (number : ℕ) (e : Entry) → Happening
  Covers : (server number : ℕ) → Happening
  Recovers : (server greatest durable : ℕ) → Happening

-- ---- on both sides

-- the history of the file tree, the oldest first
abbrev pub on_tree : List Happening → List Item
on_tree [] = []
on_tree (Acts c e ∷ older) = on_tree older ++ item.Did e ∷ []
on_tree (Speaks e ∷ older) = on_tree older ++ item.Did e ∷ []
on_tree (Mounts number e ∷ older) = on_tree older ++ item.Did e ∷ []
on_tree (Covers server number ∷ older) = on_tree older
on_tree (Recovers server greatest durable ∷ older) = on_tree older ++ item.Recovered (record { 0 = server }) (record { 0 = greatest }) ∷ []

-- the history of the sectors, the newest first
abbrev pub on_sectors : List Happening → List sectors.Entry
on_sectors [] = []
on_sectors (Acts c e ∷ older) = sectors.Did c ∷ on_sectors older
on_sectors (Speaks e ∷ older) = on_sectors older
on_sectors (Mounts number e ∷ older) = sectors.Mounted e.server.0 number ∷ on_sectors older
on_sectors (Covers server number ∷ older) = sectors.Synced server number ∷ on_sectors older
on_sectors (Recovers server greatest durable ∷ older) = sectors.Recovered server durable ∷ on_sectors older

-- ---- what recoveries leave of it

-- an operation of the server above the number is among the deeds
abbrev pub has_lost : (server durable : ℕ) → List Deed → Bool
has_lost server durable [] = false
has_lost server durable (Does c e ∷ older) = is_own server durable c || has_lost server durable older
has_lost server durable (Says e ∷ older) = has_lost server durable older
has_lost server durable (Doubts marked runs ∷ older) = has_lost server durable older

-- the server's operations above the number go, and with them its entries after the first of these
abbrev pub what_stays : (server durable : ℕ) → List Deed → List Deed
what_stays server durable [] = []
what_stays server durable (Does c e ∷ older) = keep_if (survives server durable c) (Does c e) (what_stays server durable older)
what_stays server durable (Says e ∷ older) = keep_if (not (e.server.0 == server && has_lost server durable older)) (Says e) (what_stays server durable older)
what_stays server durable (Doubts marked runs ∷ older) = Doubts marked runs ∷ what_stays server durable older

-- what is left once the recoveries have acted, each with what it leaves in doubt on both sides
abbrev pub settle : FileTree → List Happening → List Deed
settle first_tree [] = []
settle first_tree (Acts c e ∷ older) = Does c e ∷ settle first_tree older
settle first_tree (Speaks e ∷ older) = Says e ∷ settle first_tree older
settle first_tree (Mounts number e ∷ older) = Says e ∷ settle first_tree older
settle first_tree (Covers server number ∷ older) = settle first_tree older
settle first_tree (Recovers server greatest durable ∷ older) =
    let kept = what_stays server durable (settle first_tree older) in
    marked_by first_tree server (synced_of server (on_sectors older)) kept ∷ kept
