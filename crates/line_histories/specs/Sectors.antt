-- Where the sectors of files lie after a finished line, and what it writes into them.
use Rattle.std.specs.Prelude.{◌≡◌, ◌<◌, ◌≤◌, ◌⊎◌, ℕ, ◌+◌, ◌-◌, ◌*◌, ◌/◌, ◌%◌, false, max, length, nat_lt, if◌then◌else◌, Option, Some, None, List, slice_index}
use Rattle.std.specs.List.{Contains}
use Rattle.frang_base.specs.declared.limits.TheConstants.{KIND_FILE, SECTOR_BYTES, SMALL_BLOCK_SECTORS, SMALL_SECTORS_MAX}
use Rattle.frang_base.specs.declared.op.Op.{Op}
use Rattle.frang_base.specs.declared.op.Op.TheVariants as op
use Rattle.frang_base.specs.declared.reply.Reply.TheVariants as reply
use Rattle.tree_definitions.specs.Perform.{Goes, resolved}
use Rattle.tree_definitions.specs.Tree.{FileTree}
use Rattle.disk_definitions.specs.Store.{Store, StoredNode}
use Rattle.disk_definitions.specs.Naming.{Naming}
use Rattle.disk_definitions.specs.Edits.{Edit, edited_all}
use Rattle.disk_definitions.specs.Ask.{part_of, run}
use Rattle.disk_definitions.specs.FilePlans.{Writing, end_of, keeps_bytes, mixed, sectors_met, set_sector}
use Rattle.disk_definitions.specs.Meets.{IsOfTree, IsHandOf}
use Rattle.disk_definitions.specs.Plans.{Hand, Finish}
use Rattle.disk_definitions.specs.Plans.Plan.{Finishes}
use Rattle.disk_definitions.specs.Walks.{Spot, walk}
use Rattle.disk_definitions.specs.Walks.Spot.{AtName}
use Rattle.disk_definitions.specs.Written.{is_metadata}
use Rattle.plan_laws.specs.Plans.{OfEachFinish}
use Rattle.disk_definitions.specs.Lines.{plan_of_line}
use Rattle.line_histories.specs.Files.{file_sector, IsWritten}

-- ---- where the sectors of a file lie

-- the file in this inode had a sector, counted from its first, where its node has it
pub record StaysThere (store : Store) (inode : ℕ) (node : StoredNode) (index : ℕ) : Type 0 where
  pub before : StoredNode
  pub is : store.inode inode ≡ Some before
  pub kind : before.kind ≡ KIND_FILE
  pub below : SECTOR_BYTES * index < before.size
  pub here : file_sector before index ≡ file_sector node index

-- each sector below the size of a file after the edits is written by one of them, or this file had it there
abbrev pub KeepsOrWrites : Store → Naming → Finish → Type 0
KeepsOrWrites store naming finish =
    (inode index : ℕ) (node : StoredNode) → (edited_all store finish.edits).inode inode ≡ Some node → node.kind ≡ KIND_FILE → SECTOR_BYTES * index < node.size →
    IsWritten finish.edits (file_sector node index) ⊎ StaysThere store inode node index

abbrev pub LinesKeepOrWrite : Type 0
LinesKeepOrWrite = OfEachFinish plan_of_line KeepsOrWrites

-- ---- what is written

-- the path of a write or fill, and the bytes that it writes, by their places in the file
pub record Asked : Type 0 where
  pub path : List (List ℕ)
  pub piece : Writing

abbrev pub asked_of : ℕ → Op → Option Asked
asked_of when (op.Write path off bytes) =
    Some (record { path = path; piece = record { off = off; len = length bytes; when = when; byte = λ index. slice_index bytes (index - off) } })
asked_of when (op.Fill path off len byte) = Some (record { path = path; piece = record { off = off; len = len; when = when; byte = λ index. byte } })
asked_of when _ = None

-- the inode of the node at a spot
abbrev pub spot_inode : Spot → Option ℕ
spot_inode (AtName inode node name slot entry) = Some entry.inode
spot_inode _ = None

-- the bytes of a sector of a file
abbrev pub bytes_there : Store → StoredNode → ℕ → ℕ → ℕ
bytes_there store node index =
    if nat_lt index SMALL_SECTORS_MAX then part_of store.byte (node.small (index / SMALL_BLOCK_SECTORS)) (index % SMALL_BLOCK_SECTORS)
    else part_of store.large_byte (node.large - 1) (index - SMALL_SECTORS_MAX)

-- those that count in the sector: where bytes below the old size stay in it, else zeros
abbrev pub bytes_kept : Writing → Store → StoredNode → ℕ → ℕ → ℕ
bytes_kept piece store node index = if keeps_bytes piece node.size index then bytes_there store node index else (λ at. 0)

-- An edit of file bytes is one sector of what the operation, a write or a fill, writes: it is answered `ok`, its path leads to a file with this inode, the bytes begin within
-- the file and meet the sector, and the edit sets the sector, where the file has it afterwards, to these bytes among those that count there
pub record IsPiece (when : ℕ) (operation : Op) (store : Store) (finish : Finish) (edit : Edit) : Type 0 where
  pub reply : finish.reply ≡ reply.Ok
  pub asked : Asked
  pub is_asked : asked_of when operation ≡ Some asked
  pub inode : ℕ
  pub leads : spot_inode (run (walk asked.path) store).spot ≡ Some inode
  pub before : StoredNode
  pub is : store.inode inode ≡ Some before
  pub kind : before.kind ≡ KIND_FILE
  pub begins : asked.piece.off ≤ before.size
  pub after : StoredNode
  pub written : (edited_all store finish.edits).inode inode ≡ Some after
  pub file : after.kind ≡ KIND_FILE
  pub size : after.size ≡ max before.size (end_of asked.piece)
  pub index : ℕ
  pub from : asked.piece.off / SECTOR_BYTES ≤ index
  pub to : index < asked.piece.off / SECTOR_BYTES + sectors_met asked.piece.off asked.piece.len
  pub sets : edit ≡ set_sector after index (mixed asked.piece index (bytes_kept asked.piece store before index))

-- so is each edit of file bytes by a line, of the operation over a path without links to which its walks lead
pub record IsPieceOfLine (when : ℕ) (operation : Op) (store : Store) (tree : FileTree) (finish : Finish) (edit : Edit) : Type 0 where
  pub step : Op
  pub comes : (resolved tree operation).step ≡ Goes step
  pub piece : IsPiece when step store finish edit

abbrev pub LinesWritePieces : Type 0
LinesWritePieces =
    (operation : Op) (hand : Hand) (store : Store) (tree : FileTree) (naming : Naming) (birth when : ℕ) (finish : Finish) → IsOfTree store tree naming →
    IsHandOf hand store tree.segments → run (plan_of_line hand birth when operation) store ≡ Finishes finish →
    (edit : Edit) → Contains finish.edits edit → is_metadata edit ≡ false → IsPieceOfLine when operation store tree finish edit
