-- A history told twice: as entries of the file tree, and as what they did to sectors of file bytes. Of a block of bytes only its first bytes are told.
use Rattle.std.specs.Prelude.{◌≡◌, ℕ, Bool, true, false, Option, None, List, [], ◌∷◌, ◌++◌, filter, map, nat_eq, if◌then◌else◌}
use Rattle.std.specs.Map.{lookup}
use Rattle.std.specs.BTreeMap.{is_at}
use Rattle.std.specs.Ordering.{nat_cmp}
use Rattle.frang_base.specs.Functions.{member}
use Rattle.frang_base.specs.declared.op.Op.{Op}
use Rattle.frang_base.specs.declared.op.Op.TheVariants as op
use Rattle.frang_base.specs.declared.reply.Reply.{Reply}
use Rattle.frang_base.specs.declared.reply.Reply.TheVariants as reply
use Rattle.tree_definitions.specs.declared.history.Item.{Item}
use Rattle.tree_definitions.specs.declared.history.Item.TheVariants.{Did, Recovered}
use Rattle.tree_definitions.specs.declared.node.Node.{Node}
use Rattle.tree_definitions.specs.Tree.{node_at}
use Rattle.tree_definitions.specs.History.{CellRun, Opening, Settled, fresh_opening}
use Rattle.tree_definitions.specs.Live.{number_of}
use Rattle.tree_definitions.specs.Removal.{is_legal, keeps, left, doubtful, settled, tree_of}
use Rattle.sector_bytes.specs.Blocks.{Block}
use Rattle.sector_world.specs.HistoryBytes.{value}
use Rattle.sector_world.specs.Histories.{Commit, Fill, in_doubt, kept, survives, synced_of}
use Rattle.sector_world.specs.Histories as sectors

-- ---- what happened

-- what an operation did to sectors of bytes: which it wrote or freed, which were under the locks that it used, which bytes it showed
pub record Bytes : Type 0 where
  pub writes : List (ℕ × Fill)
  pub sees : List ℕ
  pub shows : List (ℕ × Block)

-- a line of a server without a path; one over paths, with what it did to bytes; or a recovery of a server, by the greatest line of its log and by the line
-- up to which its operations stay
pub data Told : Type 0 where
  Mounts : (server line : ℕ) → Told
  Syncs : (server line : ℕ) → Told
  Unmounts : (server line : ℕ) → Told
  Does : (server line : ℕ) (operation : Op) (answer : Reply) (bytes : Bytes) → Told
  Recovers : (server greatest stays : ℕ) → Told

-- the number of a line of the first run; 0 is that of no operation
abbrev pub numbered : ℕ → ℕ
numbered line = if nat_eq line 0 then 0 else number_of 1 line

-- ---- as entries of the tree

abbrev pub entry : ℕ → ℕ → Op → Reply → Item
entry server line operation answer =
    Did (record { server = record { 0 = server }; number = record { 0 = numbered line }; when = 0; op = operation; reply = answer })

abbrev pub on_tree : Told → Item
on_tree (Mounts server line) = entry server line op.Mount reply.Mounted
on_tree (Syncs server line) = entry server line op.Sync reply.Ok
on_tree (Unmounts server line) = entry server line op.Unmount reply.Ok
on_tree (Does server line operation answer bytes) = entry server line operation answer
on_tree (Recovers server greatest stays) = Recovered (record { 0 = server }) (record { 0 = numbered greatest })

-- ---- as what they did to sectors

abbrev pub said_of : {X : Type 0} → List (ℕ × X) → ℕ → Option X
said_of said sector = lookup (is_at (nat_cmp sector)) said

-- the locks, the changes and the plan don't count here
abbrev pub commit : ℕ → ℕ → Op → Reply → Bytes → Commit
commit server line operation answer bytes = record {
  by = server;
  op = numbered line;
  hint = [];
  asked = operation;
  reply = answer;
  blocks = 0;
  looked = [];
  changes = [];
  claims = λ s. false;
  moves = λ s. None;
  reads = [];
  makes = λ s. None;
  writes = said_of bytes.writes;
  sees = λ s. member s bytes.sees;
  shown = said_of bytes.shows;
  uses = [];
  alone = [];
}

-- the last number of the server's operations: a sync and a mount cover all up to it
abbrev pub last_if : Bool → ℕ → ℕ → ℕ
last_if true number older = number
last_if false number older = older

abbrev pub last_of : ℕ → List sectors.Entry → ℕ
last_of server [] = 0
last_of server (sectors.Did c ∷ h) = last_if (nat_eq c.by server) c.op (last_of server h)
last_of server (sectors.Recovered d k ∷ h) = last_if (nat_eq d server) k (last_of server h)
last_of server (sectors.Synced d n ∷ h) = last_of server h
last_of server (sectors.Mounted d n ∷ h) = last_of server h

abbrev pub on_sectors : List sectors.Entry → Told → sectors.Entry
on_sectors h (Mounts server line) = sectors.Mounted server (last_of server h)
on_sectors h (Syncs server line) = sectors.Synced server (last_of server h)
on_sectors h (Unmounts server line) = sectors.Synced server (last_of server h)
on_sectors h (Does server line operation answer bytes) = sectors.Did (commit server line operation answer bytes)
on_sectors h (Recovers server greatest stays) = sectors.Recovered server (numbered stays)

-- the newest first
abbrev pub entries_after : List sectors.Entry → List Told → List sectors.Entry
entries_after h [] = h
entries_after h (told ∷ rest) = entries_after (on_sectors h told ∷ h) rest

-- ---- a recovery at the end

-- what happened, the oldest first, before the recovery of a server; the sectors that are looked at
pub record Case : Type 0 where
  pub before : List Told
  pub server : ℕ
  pub greatest : ℕ
  pub stays : ℕ
  pub looked_at : List ℕ

abbrev pub opening : Opening
opening = fresh_opening 16

abbrev pub last_recovery : Case → Told
last_recovery case = Recovers case.server case.greatest case.stays

abbrev pub items : Case → List Item
items case = map on_tree case.before ++ on_tree (last_recovery case) ∷ []

abbrev pub entries : Case → List sectors.Entry
entries case = entries_after [] case.before

-- the entries of the tree that the recovery leaves
abbrev pub entries_left : Case → List Settled
entries_left case = left case.server (numbered case.greatest) opening.tree (settled opening.tree (map on_tree case.before))

-- the cells that it leaves in doubt
abbrev pub cells_in_doubt : Case → List CellRun
cells_in_doubt case = doubtful case.server opening.tree (entries_left case)

-- the sectors of bytes that it leaves in doubt, of those that are looked at
abbrev pub is_in_doubt : Case → ℕ → Bool
is_in_doubt case sector =
    in_doubt case.server (synced_of case.server (entries case)) (kept (survives case.server (numbered case.stays)) (sectors.settled (entries case))) sector

abbrev pub sectors_in_doubt : Case → List ℕ
sectors_in_doubt case = filter (is_in_doubt case) case.looked_at

-- the bytes of a sector that are known after it; none are at the start
abbrev pub known : Case → ℕ → Option Block
known case sector = value (λ s. None) (sectors.settled (on_sectors (entries case) (last_recovery case) ∷ entries case)) sector

-- the node of a line's birth that is left
abbrev pub node_left : Case → ℕ → Option Node
node_left case line = node_at (tree_of opening (items case)) (numbered line)

-- so many cells in doubt from a place on, of the file of a line's birth
abbrev pub run : ℕ → ℕ → ℕ → CellRun
run line from count = record { birth = numbered line; from = from; count = count }

-- it may have happened, and what must be kept is kept; these cells come into doubt, and these sectors
pub record Leaves (case : Case) (cells : List CellRun) (in_doubt_sectors : List ℕ) : Type 0 where
  pub legal : is_legal opening (items case) ≡ true
  pub keeps : keeps opening (items case) ≡ true
  pub cells_are : cells_in_doubt case ≡ cells
  pub sectors_are : sectors_in_doubt case ≡ in_doubt_sectors

-- the same of what is left: the node of a line's birth, and what is known of a sector
abbrev pub LeftNode : Case → ℕ → Option Node → Type 0
LeftNode case line node = node_left case line ≡ node

abbrev pub KnownBytes : Case → ℕ → Option Block → Type 0
KnownBytes case sector block = known case sector ≡ block
