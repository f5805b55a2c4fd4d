-- The walk of a path over sectors: it mirrors where the names of a path lead in a tree.
use Rattle.std.specs.Prelude.{ℕ, zero, suc, ◌+◌, ◌*◌, ◌/◌, ◌%◌, Bool, false, not, ◌==◌, if◌then◌else◌, is_some, Option, Some, None, List, [], ◌∷◌, ◌++◌}
use Rattle.frang_base.specs.declared.limits.TheConstants.{KIND_DIRECTORY, ROOT_INODE, SECTOR_ENTRIES, SMALL_BLOCK_SECTORS}
use Rattle.frang_base.specs.declared.reply.Reply.{Reply}
use Rattle.frang_base.specs.declared.reply.Reply.TheVariants as reply
use Rattle.std.specs.Str.{bytes_eq}
use Rattle.disk_definitions.specs.Store.{StoredNode, StoredEntry}
use Rattle.disk_definitions.specs.Least.{least}
use Rattle.disk_definitions.specs.Ask.{Ask, Got, ReadInode, ReadDirectory, bind}

-- a slot of a directory, numbered over all its blocks, with what stands there
abbrev pub Found : Type 0
Found = ℕ × Option StoredEntry

abbrev pub or_on : {A : Type 0} → Option A → Ask (Option A) → Ask (Option A)
or_on None rest = rest
or_on (Some found) rest = Got (Some found)

-- the first of a sector's seven slots that passes
abbrev pub hit : (Option StoredEntry → Bool) → ℕ → (ℕ → Option StoredEntry) → Option ℕ → Option Found
hit test sector slots None = None
hit test sector slots (Some index) = Some (SECTOR_ENTRIES * sector + index, slots index)

-- the first slot that passes in so many sectors of a directory, from one on, by block, sector and slot
abbrev pub search : (ℕ → ℕ) → (Option StoredEntry → Bool) → ℕ → ℕ → Ask (Option Found)
search small test sector zero = Got None
search small test sector (suc more) =
    ReadDirectory (small (sector / SMALL_BLOCK_SECTORS)) (sector % SMALL_BLOCK_SECTORS)
    (λ slots. or_on (hit test sector slots (least (λ index. test (slots index)) SECTOR_ENTRIES)) (search small test (sector + 1) more))

-- an entry of this name
abbrev pub is_named : List ℕ → Option StoredEntry → Bool
is_named name None = false
is_named name (Some entry) = bytes_eq entry.name name

abbrev pub is_vacant : Option StoredEntry → Bool
is_vacant entry = not (is_some entry)

-- where a path leads: the root; a name that a directory has, in a slot; a name that it hasn't; or nowhere, the walk refused. `dir` is the number of the
-- directory's inode, `directory` what stands in it
pub data Spot : Type 0 where
  AtRoot : Spot
  AtName : (dir : ℕ) (directory : StoredNode) (name : List ℕ) (slot : ℕ) (entry : StoredEntry) → Spot
  AtGap : (dir : ℕ) (directory : StoredNode) (name : List ℕ) → Spot
  Lost : (reply : Reply) → Spot

-- where a walk leads, and the directories in which it looked up a name, by their inodes
pub record Walked : Type 0 where
  pub spot : Spot
  pub dirs : List ℕ

abbrev pub spot_by : ℕ → StoredNode → List ℕ → Option Found → Spot
spot_by dir directory name None = AtGap dir directory name
spot_by dir directory name (Some (slot, None)) = AtGap dir directory name
spot_by dir directory name (Some (slot, Some entry)) = AtName dir directory name slot entry

-- a name looked up in a directory
abbrev pub look_up : List ℕ → ℕ → StoredNode → List ℕ → Ask Walked
look_up dirs dir directory name =
    bind (search directory.small (is_named name) 0 (SMALL_BLOCK_SECTORS * directory.blocks))
    (λ found. Got (record { spot = spot_by dir directory name found; dirs = dirs ++ dir ∷ [] }))

-- a name below a node, which has to be a directory
abbrev pub in_inode : List ℕ → ℕ → List ℕ → Option StoredNode → Ask Walked
in_inode dirs inode name None = Got (record { spot = Lost reply.NoEnt; dirs = dirs })
in_inode dirs inode name (Some node) =
    if node.kind == KIND_DIRECTORY then look_up dirs inode node name else Got (record { spot = Lost reply.NotDir; dirs = dirs })

-- on from a name on the way, whose entry tells whether it is a directory
abbrev pub onward : (List ℕ → ℕ → Ask Walked) → List ℕ → Spot → Ask Walked
onward next dirs AtRoot = next dirs ROOT_INODE
onward next dirs (AtName dir directory name slot entry) =
    if entry.kind == KIND_DIRECTORY then next dirs entry.inode else Got (record { spot = Lost reply.NotDir; dirs = dirs })
onward next dirs (AtGap dir directory name) = Got (record { spot = Lost reply.NoEnt; dirs = dirs })
onward next dirs (Lost answer) = Got (record { spot = Lost answer; dirs = dirs })

-- the names of a path, taken from the left, from an inode on
abbrev pub walk_from : List ℕ → ℕ → List (List ℕ) → Ask Walked
walk_from dirs inode [] = Got (record { spot = AtRoot; dirs = dirs })
walk_from dirs inode (name ∷ []) = ReadInode inode (in_inode dirs inode name)
walk_from dirs inode (name ∷ next ∷ names) =
    bind (ReadInode inode (in_inode dirs inode name)) (λ walked. onward (λ further below. walk_from further below (next ∷ names)) walked.dirs walked.spot)

-- the walk of a path from the root
abbrev pub walk : List (List ℕ) → Ask Walked
walk path = walk_from [] ROOT_INODE path

-- the node that a path names, which has to be there: its inode's number and its kind, as inodes and entries have it
pub record Target : Type 0 where
  pub inode : ℕ
  pub kind : ℕ
  pub dirs : List ℕ

-- what is done with it, or how the walk was refused
abbrev pub at_spot : {A : Type 0} → Spot → List ℕ → (Reply → List ℕ → A) → (Target → A) → A
at_spot AtRoot dirs refused next = next (record { inode = ROOT_INODE; kind = KIND_DIRECTORY; dirs = dirs })
at_spot (AtName dir directory name slot entry) dirs refused next = next (record { inode = entry.inode; kind = entry.kind; dirs = dirs })
at_spot (AtGap dir directory name) dirs refused next = refused reply.NoEnt dirs
at_spot (Lost answer) dirs refused next = refused answer dirs

abbrev pub at_target : {A : Type 0} → Walked → (Reply → List ℕ → A) → (Target → A) → A
at_target walked refused next = at_spot walked.spot walked.dirs refused next
