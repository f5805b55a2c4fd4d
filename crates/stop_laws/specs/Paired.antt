-- What is asked of a history that is told twice: of each operation and its entry, of each entry alone, and of each recovery, from the theorem on sectors and
-- from the core.
use Rattle.std.specs.Prelude.{◌≡◌, ◌≢◌, ◌≤◌, ◌<◌, ℕ, true, false, List, [], ◌∷◌}
use Rattle.tree_definitions.specs.declared.history.Entry.{Entry}
use Rattle.tree_definitions.specs.History.{Stays, leaves_tree}
use Rattle.tree_definitions.specs.Removal.{mounts}
use Rattle.tree_definitions.specs.Touched.{is_mounted}
use Rattle.tree_definitions.specs.Tree.{FileTree}
use Rattle.sector_bytes.specs.Blocks.{Block}
use Rattle.sector_world.specs.Histories.{Commit, Each, Item, Done, Doubt, OpsRise, settled}
use Rattle.sector_world.specs.Plans.{Legal}
use Rattle.sector_world.specs.Seen.{Unsynced}
use Rattle.sector_world.specs.Trees.{Distinct}
use Rattle.line_histories.specs.LinePlans.{sector_plan, without_bytes}
use Rattle.line_histories.specs.Trees.{MayNumber}
use Rattle.byte_trees.specs.Deeds.{Deed, Does, Says, Doubts, items}
use Rattle.stop_laws.specs.Happened.{Happening, Acts, Speaks, Mounts, Covers, Recovers, on_sectors, settle}

-- an operation and its entry are of one line: of one server, with one number, at the number's time, of what was asked, with one reply but for bytes, which
-- isn't that of a mount
pub record AreOfOneLine (when : ℕ → ℕ) (c : Commit) (e : Entry) : Type 0 where
  pub by : e.server.0 ≡ c.by
  pub number : e.number.0 ≡ c.op
  pub time : e.when ≡ when c.op
  pub asked : e.op ≡ c.asked
  pub reply : without_bytes e.reply ≡ c.reply
  pub no_mount : is_mounted e.reply ≡ false

-- so are those of all deeds, and an entry alone leaves the tree
abbrev pub AreLines : (ℕ → ℕ) → List Deed → Type 0
AreLines when [] = Unit {0}
AreLines when (Does c e ∷ older) = AreOfOneLine when c e × AreLines when older
AreLines when (Says e ∷ older) = (leaves_tree e.op e.reply ≡ true) × AreLines when older
AreLines when (Doubts marked runs ∷ older) = AreLines when older

-- ---- a recovery

-- the first operation of the server above the number has a record
abbrev pub BeginsWithARecord : (server durable : ℕ) → List Item → Type 0
BeginsWithARecord server durable [] = Unit {0}
BeginsWithARecord server durable (Done c ∷ older) =
    (c.by ≡ server → durable < c.op → Each (λ other. other.by ≡ server → other.op ≤ durable) older → c.changes ≢ []) × BeginsWithARecord server durable older
BeginsWithARecord server durable (Doubt marked ∷ older) = BeginsWithARecord server durable older

-- no operation with a record since the server's last mount lies above the greatest number of the log's records and not above the durable one. Of what it did before it nothing is asked:
-- records of earlier mounts may have left the part of the log that is read
abbrev pub AreKeptSinceMount : (server greatest durable : ℕ) → List Deed → Type 0
AreKeptSinceMount server greatest durable [] = Unit {0}
AreKeptSinceMount server greatest durable (Does c e ∷ older) =
    (c.by ≡ server → c.op ≤ durable → c.changes ≢ [] → c.op ≤ greatest) × AreKeptSinceMount server greatest durable older
AreKeptSinceMount server greatest durable (Says e ∷ older) = mounts server (Stays e) ≡ false → AreKeptSinceMount server greatest durable older
AreKeptSinceMount server greatest durable (Doubts marked runs ∷ older) = AreKeptSinceMount server greatest durable older

-- The core: since the server's last mount no operation with a record lies above the greatest number of the log's records and not above the number up to which operations
-- are durable, and the first above that number has a record, which the log lost.
pub record IsKeptBy (server greatest durable : ℕ) (deeds : List Deed) : Type 0 where
  pub within : greatest ≤ durable
  pub records : AreKeptSinceMount server greatest durable deeds
  pub begins : BeginsWithARecord server durable (items deeds)

-- What is asked where a recovery acts. The theorem on sectors: what has settled is legal, with new numbers, which rise, and no mount of the server covers an
-- operation above the number.
pub record MayRecover (segments : ℕ) (when : ℕ → ℕ) (opening : ℕ → Block) (first_tree : FileTree) (numbers : List ℕ) (server greatest durable : ℕ) (older : List Happening) : Type 0 where
  pub legal : Legal (sector_plan segments when) opening (settled (on_sectors older))
  pub distinct : Distinct (MayNumber numbers) first_tree (settled (on_sectors older))
  pub rises : OpsRise (settled (on_sectors older))
  pub unsynced : Unsynced server durable (on_sectors older)
  pub kept_by : IsKeptBy server greatest durable (settle first_tree older)

-- ---- along a history

abbrev pub ArePaired : (segments : ℕ) → (ℕ → ℕ) → (ℕ → Block) → FileTree → (numbers : List ℕ) → List Happening → Type 0
ArePaired segments when opening first_tree numbers [] = Unit {0}
ArePaired segments when opening first_tree numbers (Acts c e ∷ older) = AreOfOneLine when c e × ArePaired segments when opening first_tree numbers older
ArePaired segments when opening first_tree numbers (Speaks e ∷ older) =
    (leaves_tree e.op e.reply ≡ true) × (is_mounted e.reply ≡ false) × ArePaired segments when opening first_tree numbers older
ArePaired segments when opening first_tree numbers (Mounts number e ∷ older) =
    (is_mounted e.reply ≡ true) × Each (λ c. c.by ≡ e.server.0 → c.op ≤ number) (settled (on_sectors older)) × ArePaired segments when opening first_tree numbers older
ArePaired segments when opening first_tree numbers (Covers server number ∷ older) = ArePaired segments when opening first_tree numbers older
ArePaired segments when opening first_tree numbers (Recovers server greatest durable ∷ older) =
    MayRecover segments when opening first_tree numbers server greatest durable older × ArePaired segments when opening first_tree numbers older
