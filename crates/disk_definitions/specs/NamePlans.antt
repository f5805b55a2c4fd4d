-- Plans of the operations on names: refusal by refusal as the tree has them, and then the changes of the disk.
--
-- The names of plans, here and for file bytes and looks, go by how far the operation is. `plan_made` is the whole plan of an operation from its path
-- on. `making` is what is still to be done once the path is walked, by where it led; `making_with` and `making_in` go on from there, with an inode that
-- was picked or none, and with room for the entry or none; they are computations, which may look at further sectors or refuse. `made_by` is the
-- finished line: the reply, the edits and the locks. So it is with the other verbs: `plan_linked`, `linking`, `linked_by`. A bare verb makes edits:
-- `enter`, `fewer`, `relink`.
use Rattle.std.specs.Prelude.{ℕ, ◌+◌, ◌-◌, ◌/◌, Bool, not, ◌&&◌, ◌==◌, if◌then◌else◌, nat_le, nat_lt, Option, Some, None, List, [], ◌∷◌, ◌++◌, map}
use Rattle.std.specs.List.{list_any}
use Rattle.frang_base.specs.declared.limits.TheConstants.{KIND_DIRECTORY, LINKS_MAX, SEGMENT_BLOCKS, SEGMENT_INODES}
use Rattle.frang_base.specs.declared.reply.Reply.TheVariants as reply
use Rattle.tree_definitions.specs.declared.node.Node.{Node}
use Rattle.tree_definitions.specs.Numbers.{below}
use Rattle.disk_definitions.specs.Store.{StoredNode, StoredEntry}
use Rattle.disk_definitions.specs.Naming.{kind_of}
use Rattle.disk_definitions.specs.Edits.{Edit}
use Rattle.disk_definitions.specs.Changes.{new_node, take_entry, replace_entry, relink, drop_node}
use Rattle.disk_definitions.specs.Picks.{picked_inode}
use Rattle.disk_definitions.specs.Ask.{Ask, Got, ReadInode, bind, read_segments}
use Rattle.disk_definitions.specs.Walks.{Spot, walk}
use Rattle.disk_definitions.specs.Walks.Spot.{AtRoot, AtName, AtGap, Lost}
use Rattle.disk_definitions.specs.Plans.{Hand, Plan, Finish, Room, refused, none_left, read_held, find_room, finish_in, enter, room_segments, is_full, shared_nodes, sole_nodes, sole_segments}
use Rattle.disk_definitions.specs.Plans.Plan.{Finishes}
use Rattle.disk_definitions.specs.Plans.Room.{NoRoom}

-- ---- create, mkdir, symlink

-- the finished line: a node in a free inode, named in the directory
abbrev pub made_by : ℕ → StoredNode → List ℕ → ℕ → Node → List ℕ → ℕ → Room → Finish
made_by dir directory name birth node dirs inode room = record {
  reply = reply.Ok;
  edits = new_node inode birth node ++ enter dir directory (record { name = name; inode = inode; kind = kind_of node }) room;
  locks = shared_nodes dirs ++ sole_nodes (dir ∷ inode ∷ []) ++ sole_segments ((inode / SEGMENT_INODES) ∷ room_segments room);
}

-- with an inode, and with room for the name or without
abbrev pub making_in : Hand → ℕ → StoredNode → List ℕ → ℕ → Node → List ℕ → ℕ → Room → Ask Plan
making_in hand dir directory name birth node dirs inode NoRoom = none_left hand reply.NoDirBlock dirs
making_in hand dir directory name birth node dirs inode room =
    ReadInode inode (λ free. finish_in hand room (made_by dir directory name birth node dirs inode room))

abbrev pub making_with : Hand → ℕ → StoredNode → List ℕ → ℕ → Node → List ℕ → Option ℕ → Ask Plan
making_with hand dir directory name birth node dirs None = none_left hand reply.NoInode dirs
making_with hand dir directory name birth node dirs (Some inode) = bind (find_room hand directory) (making_in hand dir directory name birth node dirs inode)

abbrev pub making : Hand → ℕ → Node → List ℕ → Spot → Ask Plan
making hand birth node dirs AtRoot = refused reply.Exist dirs
making hand birth node dirs (Lost answer) = refused answer dirs
making hand birth node dirs (AtName dir directory name slot entry) = refused reply.Exist dirs
making hand birth node dirs (AtGap dir directory name) =
    if is_full directory then refused reply.DirFull dirs else read_held hand (making_with hand dir directory name birth node dirs (picked_inode hand.held))

abbrev pub plan_made : Hand → ℕ → Node → List (List ℕ) → Ask Plan
plan_made hand birth node path = bind (walk path) (λ walked. making hand birth node walked.dirs walked.spot)

-- ---- link

abbrev pub linked_by : ℕ → StoredNode → List ℕ → ℕ → StoredNode → List ℕ → Room → Finish
linked_by dir directory name inode node dirs room = record {
  reply = reply.Ok;
  edits = relink inode node (node.links + 1) ++ enter dir directory (record { name = name; inode = inode; kind = node.kind }) room;
  locks = shared_nodes dirs ++ sole_nodes (dir ∷ inode ∷ []) ++ sole_segments (room_segments room);
}

abbrev pub linking_in : Hand → ℕ → StoredNode → List ℕ → ℕ → StoredNode → List ℕ → Room → Ask Plan
linking_in hand dir directory name inode node dirs NoRoom = none_left hand reply.NoDirBlock (dirs ++ inode ∷ [])
linking_in hand dir directory name inode node dirs room = finish_in hand room (linked_by dir directory name inode node dirs room)

-- the node gets a second name
abbrev pub linking_node : Hand → ℕ → StoredNode → List ℕ → ℕ → List ℕ → Option StoredNode → Ask Plan
linking_node hand dir directory name inode dirs None = refused reply.NoEnt dirs
linking_node hand dir directory name inode dirs (Some node) =
    if nat_le LINKS_MAX node.links then refused reply.MLink (dirs ++ inode ∷ [])
    else (if is_full directory then refused reply.DirFull (dirs ++ inode ∷ [])
    else bind (find_room hand directory) (linking_in hand dir directory name inode node dirs))

abbrev pub linking_to : Hand → ℕ → List ℕ → Spot → Ask Plan
linking_to hand inode dirs AtRoot = refused reply.Exist dirs
linking_to hand inode dirs (Lost answer) = refused answer dirs
linking_to hand inode dirs (AtName dir directory name slot entry) = refused reply.Exist dirs
linking_to hand inode dirs (AtGap dir directory name) = ReadInode inode (linking_node hand dir directory name inode dirs)

abbrev pub linking : Hand → List (List ℕ) → List ℕ → Spot → Ask Plan
linking hand to dirs AtRoot = refused reply.IsDir dirs
linking hand to dirs (Lost answer) = refused answer dirs
linking hand to dirs (AtGap dir directory name) = refused reply.NoEnt dirs
linking hand to dirs (AtName dir directory name slot entry) =
    if entry.kind == KIND_DIRECTORY then refused reply.IsDir dirs else bind (walk to) (λ walked. linking_to hand entry.inode (dirs ++ walked.dirs) walked.spot)

abbrev pub plan_linked : Hand → List (List ℕ) → List (List ℕ) → Ask Plan
plan_linked hand path to = bind (walk path) (λ walked. linking hand to walked.dirs walked.spot)

-- ---- unlink, rmdir

-- the segments that keep the bits of a node and of its blocks
abbrev pub segments_of : ℕ → StoredNode → List ℕ
segments_of inode node =
    (inode / SEGMENT_INODES) ∷ (map (λ index. node.small index / SEGMENT_BLOCKS) (below node.blocks) ++ (if node.large == 0 then [] else (node.large - 1) ∷ []))

-- one link fewer; at none, and of a directory at once, the node goes
abbrev pub is_last : StoredNode → Bool
is_last node = nat_le node.links 1

abbrev pub fewer : ℕ → StoredNode → List Edit
fewer inode node = if is_last node then drop_node inode node else relink inode node (node.links - 1)

abbrev pub fewer_segments : ℕ → StoredNode → List ℕ
fewer_segments inode node = if is_last node then segments_of inode node else []

-- the segments that it takes are looked at, and then all is done
abbrev pub finish_over : List ℕ → Finish → Ask Plan
finish_over segments finish = read_segments segments (Got (Finishes finish))

abbrev pub removed_by : ℕ → StoredNode → ℕ → ℕ → StoredNode → List ℕ → Finish
removed_by dir directory slot inode node dirs = record {
  reply = reply.Ok;
  edits = take_entry dir directory slot ++ fewer inode node;
  locks = shared_nodes dirs ++ sole_nodes (dir ∷ inode ∷ []) ++ sole_segments (fewer_segments inode node);
}

abbrev pub unlinking_node : ℕ → StoredNode → ℕ → ℕ → List ℕ → Option StoredNode → Ask Plan
unlinking_node dir directory slot inode dirs None = refused reply.NoEnt dirs
unlinking_node dir directory slot inode dirs (Some node) = finish_over (fewer_segments inode node) (removed_by dir directory slot inode node dirs)

abbrev pub unlinking : List ℕ → Spot → Ask Plan
unlinking dirs AtRoot = refused reply.IsDir dirs
unlinking dirs (Lost answer) = refused answer dirs
unlinking dirs (AtGap dir directory name) = refused reply.NoEnt dirs
unlinking dirs (AtName dir directory name slot entry) =
    if entry.kind == KIND_DIRECTORY then refused reply.IsDir dirs else ReadInode entry.inode (unlinking_node dir directory slot entry.inode dirs)

abbrev pub plan_unlinked : List (List ℕ) → Ask Plan
plan_unlinked path = bind (walk path) (λ walked. unlinking walked.dirs walked.spot)

abbrev pub removing_node : ℕ → StoredNode → ℕ → ℕ → List ℕ → Option StoredNode → Ask Plan
removing_node dir directory slot inode dirs None = refused reply.NoEnt dirs
removing_node dir directory slot inode dirs (Some node) =
    if nat_lt 0 node.size then refused reply.NotEmpty (dirs ++ inode ∷ [])
    else finish_over (fewer_segments inode node) (removed_by dir directory slot inode node dirs)

abbrev pub removing : List ℕ → Spot → Ask Plan
removing dirs AtRoot = refused reply.Inval dirs
removing dirs (Lost answer) = refused answer dirs
removing dirs (AtGap dir directory name) = refused reply.NoEnt dirs
removing dirs (AtName dir directory name slot entry) =
    if entry.kind == KIND_DIRECTORY then ReadInode entry.inode (removing_node dir directory slot entry.inode dirs) else refused reply.NotDir dirs

abbrev pub plan_dir_removed : List (List ℕ) → Ask Plan
plan_dir_removed path = bind (walk path) (λ walked. removing walked.dirs walked.spot)

-- ---- rename

-- what is moved: its directory, the slot of its name there, and its entry
pub record Moving : Type 0 where
  pub dir : ℕ
  pub directory : StoredNode
  pub slot : ℕ
  pub entry : StoredEntry

-- its entry under another name
abbrev pub renamed_entry : Moving → List ℕ → StoredEntry
renamed_entry moved name = record { name = name; inode = moved.entry.inode; kind = moved.entry.kind }

-- onto a name that is there: that one's slot names the moved node, and the other node loses a link
abbrev pub moved_onto_by : Moving → ℕ → StoredNode → List ℕ → ℕ → ℕ → StoredNode → List ℕ → Finish
moved_onto_by moved dir directory name slot inode node dirs = record {
  reply = reply.Ok;
  edits = take_entry moved.dir moved.directory moved.slot ++ replace_entry directory slot (renamed_entry moved name) ++ fewer inode node;
  locks = shared_nodes dirs ++ sole_nodes (moved.dir ∷ dir ∷ inode ∷ []) ++ sole_segments (fewer_segments inode node);
}

abbrev pub replacing_node : Moving → ℕ → StoredNode → List ℕ → ℕ → ℕ → List ℕ → Option StoredNode → Ask Plan
replacing_node moved dir directory name slot inode dirs None = refused reply.NoEnt dirs
replacing_node moved dir directory name slot inode dirs (Some node) =
    if node.kind == KIND_DIRECTORY && nat_lt 0 node.size then refused reply.NotEmpty (dirs ++ inode ∷ [])
    else finish_over (fewer_segments inode node) (moved_onto_by moved dir directory name slot inode node dirs)

abbrev pub moving_onto : Moving → ℕ → StoredNode → List ℕ → ℕ → StoredEntry → List ℕ → Ask Plan
moving_onto moved dir directory name slot entry dirs =
    if entry.inode == moved.entry.inode then refused reply.Ok dirs
    else (if moved.entry.kind == KIND_DIRECTORY && not (entry.kind == KIND_DIRECTORY) then refused reply.NotDir dirs
    else (if entry.kind == KIND_DIRECTORY && not (moved.entry.kind == KIND_DIRECTORY) then refused reply.IsDir dirs
    else ReadInode entry.inode (replacing_node moved dir directory name slot entry.inode dirs)))

-- to a name that isn't there: in its own directory the entry gets the name where it stands; else the other directory gets an entry first
abbrev pub moved_within : Moving → List ℕ → List ℕ → Finish
moved_within moved name dirs = record {
  reply = reply.Ok;
  edits = replace_entry moved.directory moved.slot (renamed_entry moved name);
  locks = shared_nodes dirs ++ sole_nodes (moved.dir ∷ []);
}

abbrev pub moved_between : Moving → ℕ → StoredNode → List ℕ → List ℕ → Room → Finish
moved_between moved dir directory name dirs room = record {
  reply = reply.Ok;
  edits = enter dir directory (renamed_entry moved name) room ++ take_entry moved.dir moved.directory moved.slot;
  locks = shared_nodes dirs ++ sole_nodes (moved.dir ∷ dir ∷ []) ++ sole_segments (room_segments room);
}

abbrev pub moving_in : Hand → Moving → ℕ → StoredNode → List ℕ → List ℕ → Room → Ask Plan
moving_in hand moved dir directory name dirs NoRoom = none_left hand reply.NoDirBlock dirs
moving_in hand moved dir directory name dirs room = finish_in hand room (moved_between moved dir directory name dirs room)

abbrev pub moving_to : Hand → Moving → ℕ → StoredNode → List ℕ → List ℕ → Ask Plan
moving_to hand moved dir directory name dirs =
    if dir == moved.dir then Got (Finishes (moved_within moved name dirs))
    else (if is_full directory then refused reply.DirFull dirs else bind (find_room hand directory) (moving_in hand moved dir directory name dirs))

-- the walk to the new name passed or reached the moved directory
abbrev pub goes_through : Moving → List ℕ → Bool
goes_through moved dirs = moved.entry.kind == KIND_DIRECTORY && list_any (λ dir. dir == moved.entry.inode) dirs

-- by where the new name leads; the directories of the walk to it, and those of both
abbrev pub renaming_to : Hand → Moving → List ℕ → List ℕ → Spot → Ask Plan
renaming_to hand moved to_dirs dirs AtRoot = refused reply.Inval dirs
renaming_to hand moved to_dirs dirs (Lost answer) = refused answer dirs
renaming_to hand moved to_dirs dirs (AtName dir directory name slot entry) =
    if goes_through moved to_dirs then refused reply.Inval dirs else moving_onto moved dir directory name slot entry dirs
renaming_to hand moved to_dirs dirs (AtGap dir directory name) =
    if goes_through moved to_dirs then refused reply.Inval dirs else moving_to hand moved dir directory name dirs

abbrev pub renaming : Hand → List (List ℕ) → List ℕ → Spot → Ask Plan
renaming hand to dirs AtRoot = refused reply.Inval dirs
renaming hand to dirs (Lost answer) = refused answer dirs
renaming hand to dirs (AtGap dir directory name) = refused reply.NoEnt dirs
renaming hand to dirs (AtName dir directory name slot entry) =
    let moved : Moving = record { dir = dir; directory = directory; slot = slot; entry = entry } in
    bind (walk to) (λ walked. renaming_to hand moved walked.dirs (dirs ++ walked.dirs) walked.spot)

-- the root is refused first
abbrev pub plan_renamed : Hand → List (List ℕ) → List (List ℕ) → Ask Plan
plan_renamed hand [] to = refused reply.Inval []
plan_renamed hand (name ∷ names) [] = refused reply.Inval []
plan_renamed hand (name ∷ names) (new ∷ news) = bind (walk (name ∷ names)) (λ walked. renaming hand (new ∷ news) walked.dirs walked.spot)
