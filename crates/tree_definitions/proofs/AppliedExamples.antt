-- What each operation answers: each refusal, each order of two refusals that matters, each effect.
use Rattle.std.proofs.Common.{◌≡◌, ℕ, Option, Some, None, [], ◌∷◌, refl}
use Rattle.frang_base.specs.declared.op.Op.{Op}
use Rattle.frang_base.specs.declared.op.Op.TheVariants as op
use Rattle.frang_base.specs.declared.reply.Reply.{Reply}
use Rattle.frang_base.specs.declared.reply.Reply.TheVariants as reply
use Rattle.tree_definitions.specs.declared.cells.Cell.TheVariants.{Byte}
use Rattle.tree_definitions.specs.declared.node.Node.{Node}
use Rattle.tree_definitions.specs.declared.node.Node.TheVariants.{Dir, File, Link}
use Rattle.tree_definitions.specs.Tree.{FileTree, fresh, node_at}
use Rattle.tree_definitions.specs.Apply.{Plain, Shows, says, apply}
use Rattle.tree_definitions.proofs.Sketch.{root, a, b, d, l, da, de, dea, ax, lx, xy, done, some, crowded, crowded_below}

-- an operation at the birth 9 is refused so
abbrev Refused : FileTree → Op → Reply → Type 0
Refused tree o r = apply tree o 9 0 0 ≡ says tree r

-- an operation at the birth 9 is answered so, and makes this of the node of a birth
abbrev Makes : FileTree → Op → Reply → ℕ → Option Node → Type 0
Makes tree o r birth node = ((apply tree o 9 0 0).answer ≡ Plain r) × (node_at (apply tree o 9 0 0).tree birth ≡ node)

-- create, mkdir, symlink
create_root : Refused some (op.Create root) reply.Exist
create_root = refl

create_taken : Refused some (op.Create a) reply.Exist
create_taken = refl

create_in_nothing : Refused some (op.Create xy) reply.NoEnt
create_in_nothing = refl

create_in_a_file : Refused some (op.Create ax) reply.NotDir
create_in_a_file = refl

create_in_a_link : Refused some (op.Create lx) reply.NotDir
create_in_a_link = refl

create_below_a_file : Refused some (op.Create ((97 ∷ []) ∷ (120 ∷ []) ∷ (121 ∷ []) ∷ [])) reply.NotDir
create_below_a_file = refl

create_in_a_full_directory : Refused (crowded 16 895 16 1) (op.Create b) reply.DirFull
create_in_a_full_directory = refl

create_as_the_last_entry : (apply (crowded 16 894 16 1) (op.Create b) 9 0 0).answer ≡ Plain reply.Ok
create_as_the_last_entry = refl

create_without_an_inode : Refused (fresh 0) (op.Create a) (reply.NoInode)
create_without_an_inode = refl

create_without_a_block : Refused (record { segments = 1; nodes = (0, Dir [] 0) ∷ (1, Dir [] 1024) ∷ [] }) (op.Create a) reply.NoDirBlock
create_without_a_block = refl

create_makes_a_file : Makes some (op.Create b) reply.Ok 9 (Some (File [] 1 0))
create_makes_a_file = (refl, refl)

create_names_it : Makes (fresh 16) (op.Create a) reply.Ok 0 (Some (Dir ((97 ∷ [], 9) ∷ []) 1))
create_names_it = (refl, refl)

mkdir_makes_a_directory : Makes some (op.Mkdir b) reply.Ok 9 (Some (Dir [] 0))
mkdir_makes_a_directory = (refl, refl)

mkdir_taken : Refused some (op.Mkdir d) reply.Exist
mkdir_taken = refl

symlink_makes_a_link : Makes some (op.Symlink b (120 ∷ 121 ∷ [])) reply.Ok 9 (Some (Link (120 ∷ 121 ∷ []) 1))
symlink_makes_a_link = (refl, refl)

symlink_root : Refused some (op.Symlink root (120 ∷ [])) reply.Exist
symlink_root = refl

-- exist comes before dirfull, dirfull before nospace inode, and that before nospace dir
exist_before_dirfull : Refused (crowded 16 895 16 1) (op.Create a) reply.Exist
exist_before_dirfull = refl

exist_before_no_inode : Refused (crowded 0 1 1 1) (op.Create a) reply.Exist
exist_before_no_inode = refl

dirfull_before_no_inode : Refused (crowded 0 895 16 1) (op.Create b) reply.DirFull
dirfull_before_no_inode = refl

no_inode_before_no_block : Refused (fresh 0) (op.Mkdir a) reply.NoInode
no_inode_before_no_block = refl

-- the 56th entry stands in the first block, the 57th takes another
abbrev blocks_of : Option Node → ℕ
blocks_of (Some (Dir entries blocks)) = blocks
blocks_of _ = 0

entries_fill_a_block : blocks_of (node_at (apply (crowded 16 54 1 1) (op.Create b) 9 0 0).tree 0) ≡ 1
entries_fill_a_block = refl

one_more_takes_a_block : blocks_of (node_at (apply (crowded 16 55 1 1) (op.Create b) 9 0 0).tree 0) ≡ 2
one_more_takes_a_block = refl

-- link
link_a_directory : Refused some (op.Link d b) reply.IsDir
link_a_directory = refl

link_the_root : Refused some (op.Link root b) reply.IsDir
link_the_root = refl

link_nothing : Refused some (op.Link b ((120 ∷ []) ∷ [])) reply.NoEnt
link_nothing = refl

link_to_the_root : Refused some (op.Link a root) reply.Exist
link_to_the_root = refl

link_into_nothing : Refused some (op.Link a xy) reply.NoEnt
link_into_nothing = refl

link_to_a_name_that_is_there : Refused some (op.Link a l) reply.Exist
link_to_a_name_that_is_there = refl

link_past_a_thousand : Refused (crowded 16 1 1 1000) (op.Link a b) reply.MLink
link_past_a_thousand = refl

link_the_thousandth : Makes (crowded 16 1 1 999) (op.Link a b) reply.Ok 1 (Some (File [] 1000 0))
link_the_thousandth = (refl, refl)

link_into_a_full_directory : Refused (crowded 16 895 16 1) (op.Link a b) reply.DirFull
link_into_a_full_directory = refl

link_without_a_block : Refused (crowded_below 0 0 0) (op.Link a da) reply.NoDirBlock
link_without_a_block = refl

link_names_it_twice : Makes some (op.Link a da) reply.Ok 3 (Some (Dir ((97 ∷ [], 1) ∷ (101 ∷ [], 4) ∷ []) 1))
link_names_it_twice = (refl, refl)

link_counts : Makes some (op.Link l b) reply.Ok 2 (Some (Link (116 ∷ []) 2))
link_counts = (refl, refl)

isdir_before_exist : Refused some (op.Link d root) reply.IsDir
isdir_before_exist = refl

isdir_before_the_second_walk : Refused some (op.Link d xy) reply.IsDir
isdir_before_the_second_walk = refl

first_walk_before_the_second : Refused some (op.Link b ax) reply.NoEnt
first_walk_before_the_second = refl

exist_before_mlink : Refused (crowded 16 1 1 1000) (op.Link a a) reply.Exist
exist_before_mlink = refl

mlink_before_dirfull : Refused (crowded 16 895 16 1000) (op.Link a b) reply.MLink
mlink_before_dirfull = refl

link_dirfull_before_no_block : Refused (crowded_below 0 896 0) (op.Link a da) reply.DirFull
link_dirfull_before_no_block = refl

-- unlink
unlink_root : Refused some (op.Unlink root) reply.IsDir
unlink_root = refl

unlink_a_directory : Refused some (op.Unlink d) reply.IsDir
unlink_a_directory = refl

unlink_nothing : Refused some (op.Unlink b) reply.NoEnt
unlink_nothing = refl

unlink_below_a_file : Refused some (op.Unlink ax) reply.NotDir
unlink_below_a_file = refl

unlink_frees : Makes some (op.Unlink a) reply.Ok 1 None
unlink_frees = (refl, refl)

unlink_one_of_two : Makes (done some 5 (op.Link a b ∷ [])) (op.Unlink a) reply.Ok 1 (Some (File [] 1 0))
unlink_one_of_two = (refl, refl)

unlink_keeps_the_blocks : Makes (done (fresh 16) 1 (op.Create a ∷ [])) (op.Unlink a) reply.Ok 0 (Some (Dir [] 1))
unlink_keeps_the_blocks = (refl, refl)

-- rmdir
rmdir_root : Refused some (op.Rmdir root) reply.Inval
rmdir_root = refl

rmdir_a_file : Refused some (op.Rmdir a) reply.NotDir
rmdir_a_file = refl

rmdir_with_entries : Refused some (op.Rmdir d) reply.NotEmpty
rmdir_with_entries = refl

rmdir_nothing : Refused some (op.Rmdir b) reply.NoEnt
rmdir_nothing = refl

rmdir_frees : Makes some (op.Rmdir de) reply.Ok 4 None
rmdir_frees = (refl, refl)

-- rename
rename_root : Refused some (op.Rename root b) reply.Inval
rename_root = refl

rename_to_root : Refused some (op.Rename a root) reply.Inval
rename_to_root = refl

root_before_the_walk : Refused some (op.Rename b root) reply.Inval
root_before_the_walk = refl

rename_nothing : Refused some (op.Rename b a) reply.NoEnt
rename_nothing = refl

rename_into_nothing : Refused some (op.Rename a xy) reply.NoEnt
rename_into_nothing = refl

first_walk_of_rename : Refused some (op.Rename b ax) reply.NoEnt
first_walk_of_rename = refl

rename_into_itself : Refused some (op.Rename d da) reply.Inval
rename_into_itself = refl

rename_below_itself : Refused some (op.Rename d dea) reply.Inval
rename_below_itself = refl

the_walk_before_inval : Refused some (op.Rename d ((100 ∷ []) ∷ (120 ∷ []) ∷ (121 ∷ []) ∷ [])) reply.NoEnt
the_walk_before_inval = refl

inval_before_notempty : Refused some (op.Rename d de) reply.Inval
inval_before_notempty = refl

rename_to_the_same_name : Refused some (op.Rename d d) reply.Ok
rename_to_the_same_name = refl

rename_to_another_name_of_it : Refused (done some 5 (op.Link a b ∷ [])) (op.Rename a b) reply.Ok
rename_to_another_name_of_it = refl

rename_a_directory_onto_a_file : Refused some (op.Rename d a) reply.NotDir
rename_a_directory_onto_a_file = refl

rename_a_file_onto_a_directory : Refused some (op.Rename a d) reply.IsDir
rename_a_file_onto_a_directory = refl

rename_onto_entries : Refused (done some 5 (op.Mkdir b ∷ [])) (op.Rename b d) reply.NotEmpty
rename_onto_entries = refl

rename_into_a_full_directory : Refused (crowded_below 16 896 16) (op.Rename a da) reply.DirFull
rename_into_a_full_directory = refl

rename_in_a_full_directory : (apply (crowded 16 895 16 1) (op.Rename a b) 9 0 0).answer ≡ Plain reply.Ok
rename_in_a_full_directory = refl

rename_without_a_block : Refused (crowded_below 0 0 0) (op.Rename a da) reply.NoDirBlock
rename_without_a_block = refl

rename_dirfull_before_no_block : Refused (crowded_below 0 896 0) (op.Rename a da) reply.DirFull
rename_dirfull_before_no_block = refl

rename_moves : Makes some (op.Rename a da) reply.Ok 3 (Some (Dir ((97 ∷ [], 1) ∷ (101 ∷ [], 4) ∷ []) 1))
rename_moves = (refl, refl)

rename_leaves_the_old_place : Makes some (op.Rename a da) reply.Ok 0 (Some (Dir ((100 ∷ [], 3) ∷ (108 ∷ [], 2) ∷ []) 1))
rename_leaves_the_old_place = (refl, refl)

rename_replaces : Makes some (op.Rename a l) reply.Ok 2 None
rename_replaces = (refl, refl)

rename_replaces_an_empty_directory : Makes (done some 5 (op.Mkdir b ∷ [])) (op.Rename b de) reply.Ok 4 None
rename_replaces_an_empty_directory = (refl, refl)

rename_makes_room : Makes (done some 5 (op.Mkdir b ∷ [])) (op.Rename a ((98 ∷ []) ∷ (97 ∷ []) ∷ [])) reply.Ok 5 (Some (Dir ((97 ∷ [], 1) ∷ []) 1))
rename_makes_room = (refl, refl)

-- write, fill
write_root : Refused some (op.Write root 0 (120 ∷ [])) reply.IsDir
write_root = refl

write_a_directory : Refused some (op.Write d 0 (120 ∷ [])) reply.IsDir
write_a_directory = refl

write_a_link : Refused some (op.Write l 0 (120 ∷ [])) reply.Inval
write_a_link = refl

write_past_the_end : Refused some (op.Write a 1 (120 ∷ [])) reply.BadOffset
write_past_the_end = refl

fill_too_much : Refused some (op.Fill a 0 1114113 65) reply.TooBig
fill_too_much = refl

badoffset_before_toobig : Refused some (op.Fill a 1 1114112 65) reply.BadOffset
badoffset_before_toobig = refl

fill_without_a_large_block : Refused (record { segments = 0; nodes = some.nodes }) (op.Fill a 0 65537 65) reply.NoLarge
fill_without_a_large_block = refl

toobig_before_no_large : Refused (record { segments = 0; nodes = some.nodes }) (op.Fill a 0 1114113 65) reply.TooBig
toobig_before_no_large = refl

no_large_before_no_block : apply (record { segments = 0; nodes = some.nodes }) (op.Fill a 0 65537 65) 9 0 7 ≡ says (record { segments = 0; nodes = some.nodes }) reply.NoLarge
no_large_before_no_block = refl

fill_without_blocks : apply some (op.Fill a 0 4097 65) 9 0 16383 ≡ says some (reply.NoBlock 16383)
fill_without_blocks = refl

fill_with_just_enough_blocks : (apply some (op.Fill a 0 3 65) 9 0 16383).answer ≡ Plain reply.Ok
fill_with_just_enough_blocks = refl

write_sets_bytes : Makes (done some 5 (op.Write a 0 (1 ∷ 2 ∷ 3 ∷ []) ∷ [])) (op.Write a 1 (7 ∷ [])) reply.Ok 1 (Some (File (Byte 1 ∷ Byte 7 ∷ Byte 3 ∷ []) 1 0))
write_sets_bytes = (refl, refl)

write_grows : Makes (done some 5 (op.Write a 0 (1 ∷ 2 ∷ []) ∷ [])) (op.Fill a 1 2 9) reply.Ok 1 (Some (File (Byte 1 ∷ Byte 9 ∷ Byte 9 ∷ []) 1 0))
write_grows = (refl, refl)

-- truncate
truncate_a_directory : Refused some (op.Truncate d 0) reply.IsDir
truncate_a_directory = refl

truncate_a_link : Refused some (op.Truncate l 0) reply.Inval
truncate_a_link = refl

truncate_past_the_end : Refused some (op.Truncate a 1) reply.BadOffset
truncate_past_the_end = refl

truncate_cuts : Makes (done some 5 (op.Write a 0 (1 ∷ 2 ∷ []) ∷ [])) (op.Truncate a 1) reply.Ok 1 (Some (File (Byte 1 ∷ []) 1 0))
truncate_cuts = (refl, refl)

-- a file that was cut and grows again has none of its old bytes
truncate_forgets : Makes (done some 5 (op.Write a 0 (1 ∷ 2 ∷ []) ∷ op.Truncate a 0 ∷ [])) (op.Fill a 0 2 9) reply.Ok 1 (Some (File (Byte 9 ∷ Byte 9 ∷ []) 1 0))
truncate_forgets = (refl, refl)

-- read
read_a_directory : Refused some (op.Read root 0 1) reply.IsDir
read_a_directory = refl

read_a_link : Refused some (op.Read l 0 1) reply.Inval
read_a_link = refl

read_past_the_end : Refused some (op.Read a 1 1) reply.BadOffset
read_past_the_end = refl

read_at_the_end : (apply some (op.Read a 0 1) 9 0 0).answer ≡ Shows []
read_at_the_end = refl

read_to_the_end : (apply (done some 5 (op.Write a 0 (1 ∷ 2 ∷ 3 ∷ []) ∷ [])) (op.Read a 1 9) 9 0 0).answer ≡ Shows (Byte 2 ∷ Byte 3 ∷ [])
read_to_the_end = refl

-- stat, list, readlink, time
stat_a_file : Refused some (op.Stat a) (reply.File 0 1)
stat_a_file = refl

stat_the_root : Refused some (op.Stat root) (reply.Dir 3)
stat_the_root = refl

stat_a_link : Refused some (op.Stat l) (reply.Symlink 1)
stat_a_link = refl

stat_nothing : Refused some (op.Stat b) reply.NoEnt
stat_nothing = refl

list_in_order : Refused some (op.List root) (reply.Names ((97 ∷ []) ∷ (100 ∷ []) ∷ (108 ∷ []) ∷ []))
list_in_order = refl

list_a_file : Refused some (op.List a) reply.NotDir
list_a_file = refl

list_below_a_file : Refused some (op.List ax) reply.NotDir
list_below_a_file = refl

readlink_a_link : Refused some (op.Readlink l) (reply.Target (116 ∷ []))
readlink_a_link = refl

readlink_a_file : Refused some (op.Readlink a) reply.Inval
readlink_a_file = refl

readlink_a_directory : Refused some (op.Readlink d) reply.Inval
readlink_a_directory = refl

time_of_a_directory : Refused some (op.Time d) reply.IsDir
time_of_a_directory = refl

time_of_a_file : Refused some (op.Time a) (reply.Time 0 0)
time_of_a_file = refl
