-- Where the theorem on sectors leaves a sector in doubt, the rules on histories leave the sector of the file that lies there in doubt.
use Rattle.std.specs.Prelude.{◌≡◌, ◌≤◌, ℕ, true, false, ◌||◌, ◌&&◌, ◌==◌, Option, Some, is_some, List, [], ◌∷◌}
use Rattle.tree_definitions.specs.declared.history.Entry.{Entry}
use Rattle.tree_definitions.specs.Tree.{FileTree}
use Rattle.tree_definitions.specs.History.{is_answer}
use Rattle.tree_definitions.specs.Touched.{touches, is_mounted, is_ok, is_sync}
use Rattle.tree_definitions.specs.Removal.{is_doubtful}
use Rattle.tree_laws.specs.Doubts.{entry_writes}
use Rattle.sector_world.specs.Histories.{Commit, Each, in_doubt}
use Rattle.byte_trees.specs.Deeds.{Deed, Does, Says, Doubts, items, steps, tree_after}

-- a write, fill or truncate answered `ok` touches the file that it meets
abbrev pub WritesTouch : Type 0
WritesTouch = (tree : FileTree) (e : Entry) (birth part : ℕ) → is_answer tree e ≡ true → entry_writes tree e birth part ≡ true → touches tree e birth ≡ true

-- What is asked of an operation with its entry, for a part of a file, which is one of its sectors counted from its first: `Lies` says of each history that
-- this part lies in the sector after it
pub record Agrees (opening : FileTree) (birth part : ℕ) (Lies : List Deed → Type 0) (sector : ℕ) (c : Commit) (e : Entry) (older : List Deed) : Type 0 where
  pub by : e.server.0 ≡ c.by
  pub answers : is_answer (tree_after opening older) e ≡ true
  pub no_mount : is_mounted e.reply ≡ false
  pub no_sync : is_sync e.op && is_ok e.reply ≡ false
  -- the part lies where it lay, unless the entry or the operation writes it
  pub stays : Lies (Does c e ∷ older) → is_some (c.writes sector) ≡ false → entry_writes (tree_after opening older) e birth part ≡ false → Lies older
  -- where the operation writes the sector in which it lies afterwards, the entry meets it
  pub met : Lies (Does c e ∷ older) → is_some (c.writes sector) ≡ true → entry_writes (tree_after opening older) e birth part ≡ true
  -- where the entry touches the file, the operation looks at the sector
  pub seen : Lies (Does c e ∷ older) → touches (tree_after opening older) e birth ≡ true → c.sees sector ≡ true

-- an entry that does nothing to sectors: it touches and meets nothing, and a sync or a mount of the server covers its operations up to a number
pub record Passes (opening : FileTree) (server number birth part : ℕ) (Lies : List Deed → Type 0) (e : Entry) (older : List Deed) : Type 0 where
  pub stays : Lies (Says e ∷ older) → Lies older
  pub meets_none : entry_writes (tree_after opening older) e birth part ≡ false
  pub touches_none : touches (tree_after opening older) e birth ≡ false
  pub covers : e.server.0 == server ≡ true → is_mounted e.reply || (is_sync e.op && is_ok e.reply) ≡ true → Each (λ c. c.by ≡ server → c.op ≤ number) (items older)

-- so it is of each deed
abbrev pub AllAgree : FileTree → (server number birth part : ℕ) → (List Deed → Type 0) → ℕ → List Deed → Type 0
AllAgree opening server number birth part Lies sector [] = Unit {0}
AllAgree opening server number birth part Lies sector (Does c e ∷ older) = Agrees opening birth part Lies sector c e older × AllAgree opening server number birth part Lies sector older
AllAgree opening server number birth part Lies sector (Says e ∷ older) = Passes opening server number birth part Lies e older × AllAgree opening server number birth part Lies sector older
AllAgree opening server number birth part Lies sector (Doubts marked runs ∷ older) = (Lies (Doubts marked runs ∷ older) → Lies older) × AllAgree opening server number birth part Lies sector older

-- the part lies in the sector, by what tells the sector in which it lies after each history
abbrev pub IsLocated : (List Deed → Option ℕ) → ℕ → List Deed → Type 0
IsLocated located sector deeds = located deeds ≡ Some sector

-- then where a recovery of the server leaves the sector in doubt, the part of the file that lies there is in doubt by the rules
abbrev pub DoubtIsTheSame : Type 0
DoubtIsTheSame =
    (opening : FileTree) (server number birth part : ℕ) (located : List Deed → Option ℕ) (sector : ℕ) (deeds : List Deed) →
    AllAgree opening server number birth part (IsLocated located sector) sector deeds → IsLocated located sector deeds → in_doubt server number (items deeds) sector ≡ true →
    is_doubtful server birth part false opening (steps deeds) ≡ true
