-- Where a path leads over sectors once symbolic links are followed: it mirrors the resolution of a path in a tree. What is looked at comes in the
-- order of the walk: of each name the directory's inode and then its sectors up to the name, and the inode of a link when it is followed.
use Rattle.std.specs.Prelude.{ℕ, zero, suc, ◌*◌, Bool, true, false, ◌&&◌, ◌==◌, if◌then◌else◌, Option, Some, None, Result, Ok, Err, List, [], ◌∷◌, ◌++◌}
use Rattle.frang_base.specs.PathText.{path_of}
use Rattle.frang_base.specs.declared.fault.PathFault.{PathFault}
use Rattle.frang_base.specs.declared.limits.TheConstants.{KIND_DIRECTORY, KIND_LINK, LINKS_FOLLOWED_MAX, ROOT_INODE, SMALL_BLOCK_SECTORS}
use Rattle.frang_base.specs.declared.reply.Reply.{Reply}
use Rattle.frang_base.specs.declared.reply.Reply.TheVariants as reply
use Rattle.tree_definitions.specs.Resolve.{is_absolute, target_text}
use Rattle.disk_definitions.specs.Store.{StoredNode, StoredEntry}
use Rattle.disk_definitions.specs.Ask.{Ask, Got, ReadInode, bind}
use Rattle.disk_definitions.specs.Walks.{Found, is_named, search}

-- a path without links that leads to the same place, with the kind of the node that is there, if there is one; or the refusal of a walk
pub data PathEnd : Type 0 where
  Leads : (path : List (List ℕ)) (kind : Option ℕ) → PathEnd
  Refused : (reply : Reply) → PathEnd

-- how a walk ends, and the directories in which it looked a name up and the links that it followed, in order, by their inodes
pub record Resolution : Type 0 where
  pub end : PathEnd
  pub trail : List ℕ

-- it leads here
abbrev pub leads : List (List ℕ) → Option ℕ → Ask Resolution
leads path kind = Got (record { end = Leads path kind; trail = [] })

-- it is refused
abbrev pub refused : Reply → Ask Resolution
refused reply = Got (record { end = Refused reply; trail = [] })

-- the inode in front of a trail
abbrev pub behind : ℕ → Resolution → Resolution
behind inode walk = record { end = walk.end; trail = inode ∷ walk.trail }

-- it goes through the node of this inode first
abbrev pub passes : ℕ → Ask Resolution → Ask Resolution
passes inode walk = bind walk (λ rest. Got (behind inode rest))

-- on from a target, before the names that are left: from the root, or from the directory that holds the link; one that is no path leads nowhere
abbrev pub at_target : (ℕ → List (List ℕ) → List (List ℕ) → Ask Resolution) → Bool → Result (List (List ℕ)) PathFault → ℕ → List (List ℕ) → List (List ℕ) → Ask Resolution
at_target next absolute (Err fault) dir above names = refused reply.NoEnt
at_target next true (Ok inner) dir above names = next ROOT_INODE [] (inner ++ names)
at_target next false (Ok inner) dir above names = next dir above (inner ++ names)

-- the target that stands in a link's inode
abbrev pub with_target : (List ℕ → Ask Resolution) → Option StoredNode → Ask Resolution
with_target follow None = refused reply.NoEnt
with_target follow (Some node) = follow node.target

-- at an entry, before the names that are left: a directory is gone into and a link is followed, the last one only where that is asked; the entry
-- tells which it is
abbrev pub at_entry : Bool → (ℕ → Ask Resolution) → (ℕ → Ask Resolution) → List (List ℕ) → List (List ℕ) → StoredEntry → Ask Resolution
at_entry last follow into here [] entry = if last && entry.kind == KIND_LINK then follow entry.inode else leads here (Some entry.kind)
at_entry last follow into here (name ∷ names) entry =
    if entry.kind == KIND_LINK then follow entry.inode else (if entry.kind == KIND_DIRECTORY then into entry.inode else refused reply.NotDir)

-- a name that isn't there ends the walk well where it is the last
abbrev pub at_gap : List (List ℕ) → List (List ℕ) → Ask Resolution
at_gap here [] = leads here None
at_gap here (name ∷ names) = refused reply.NoEnt

-- a name that was looked up
abbrev pub at_name : Bool → (ℕ → Ask Resolution) → (ℕ → Ask Resolution) → List (List ℕ) → List (List ℕ) → Option Found → Ask Resolution
at_name last follow into here names None = at_gap here names
at_name last follow into here names (Some (slot, None)) = at_gap here names
at_name last follow into here names (Some (slot, Some entry)) = at_entry last follow into here names entry

-- a name below a node, which has to be a directory
abbrev pub below_inode : Bool → (ℕ → Ask Resolution) → (ℕ → Ask Resolution) → List (List ℕ) → ℕ → List ℕ → List (List ℕ) → Option StoredNode → Ask Resolution
below_inode last follow into here dir name names None = refused reply.NoEnt
below_inode last follow into here dir name names (Some node) =
    if node.kind == KIND_DIRECTORY then passes dir (bind (search node.small (is_named name) 0 (SMALL_BLOCK_SECTORS * node.blocks)) (at_name last follow into here names)) else refused reply.NotDir

-- the names from the left, from a directory on, whose own path is `above`; a link, with the directory that holds it and the names that are left, is followed so
abbrev pub resolve_names : Bool → (ℕ → ℕ → List (List ℕ) → List (List ℕ) → Ask Resolution) → ℕ → List (List ℕ) → List (List ℕ) → Ask Resolution
resolve_names last follow dir above [] = leads above (Some KIND_DIRECTORY)
resolve_names last follow dir above (name ∷ names) =
    ReadInode dir
    (below_inode last (λ link. follow link dir above names) (λ inode. resolve_names last follow inode (above ++ name ∷ []) names) (above ++ name ∷ []) dir name names)

-- the same with so many links left to follow; the next one is refused before its inode is looked at
abbrev pub resolve_from : ℕ → Bool → ℕ → List (List ℕ) → List (List ℕ) → Ask Resolution
resolve_from zero last dir above names = resolve_names last (λ link holder over rest. refused reply.Loop) dir above names
resolve_from (suc left) last dir above names =
    resolve_names last
    (λ link holder over rest. passes link (ReadInode link (with_target (λ target. at_target (resolve_from left last) (is_absolute target) (path_of (target_text target)) holder over rest))))
    dir above names

-- a path from the root; whether its last name is followed
unfoldable pub resolve : Bool → List (List ℕ) → Ask Resolution
resolve last path = resolve_from LINKS_FOLLOWED_MAX last ROOT_INODE [] path
