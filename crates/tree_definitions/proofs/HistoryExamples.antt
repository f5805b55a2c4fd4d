-- Legal histories, what is seen and synced, what a recovery removes, and what it leaves in doubt.
use Rattle.std.proofs.Common.{◌≡◌, ℕ, true, false, Option, Some, None, List, [], ◌∷◌, ◌++◌, refl}
use Rattle.frang_base.specs.declared.op.Op.TheVariants as op
use Rattle.frang_base.specs.declared.reply.Reply.TheVariants as reply
use Rattle.tree_definitions.specs.declared.cells.Cell.TheVariants.{Byte, Doubtful}
use Rattle.tree_definitions.specs.declared.history.Item.{Item}
use Rattle.tree_definitions.specs.declared.node.Node.{Node}
use Rattle.tree_definitions.specs.declared.node.Node.TheVariants.{File}
use Rattle.tree_definitions.specs.Tree.{node_at}
use Rattle.tree_definitions.specs.Resolve.{resolve}
use Rattle.tree_definitions.specs.History.{Opening, fresh_opening}
use Rattle.tree_definitions.specs.Removal.{is_legal, keeps, tree_of}
use Rattle.tree_definitions.proofs.Sketch.{a, b, d, da, ax, some, by, recovery, line}

abbrev opening : Opening
opening = fresh_opening 16

abbrev IsLegal : List Item → Type 0
IsLegal history = is_legal opening history ≡ true

abbrev IsNotLegal : List Item → Type 0
IsNotLegal history = is_legal opening history ≡ false

abbrev Keeps : List Item → Type 0
Keeps history = keeps opening history ≡ true

abbrev KeepsNot : List Item → Type 0
KeepsNot history = keeps opening history ≡ false

-- the node of a birth at the end
abbrev Ends : List Item → ℕ → Option Node → Type 0
Ends history birth node = node_at (tree_of opening history) birth ≡ node

-- the server 0 is mounted and makes /a; a second server is mounted
abbrev made : List Item
made = by 0 1 op.Mount reply.Mounted ∷ by 0 2 (op.Create a) reply.Ok ∷ []

abbrev both : List Item
both = made ++ by 1 3 op.Mount reply.Mounted ∷ []

-- legal: the answers of one tree
made_twice : IsNotLegal (made ++ by 0 3 (op.Create a) reply.Ok ∷ [])
unfolding resolve
made_twice = refl

refused_the_second_time : IsLegal (made ++ by 0 3 (op.Create a) reply.Exist ∷ [])
unfolding resolve
refused_the_second_time = refl

seen_by_all : IsLegal (both ++ by 1 4 (op.Stat a) (reply.File 0 1) ∷ [])
unfolding resolve
seen_by_all = refl

not_seen : IsNotLegal (both ++ by 1 4 (op.Stat a) reply.NoEnt ∷ [])
unfolding resolve
not_seen = refl

down_leaves_the_tree : IsLegal (by 0 1 (op.Create a) reply.Down ∷ by 0 2 op.Mount reply.Mounted ∷ by 0 3 (op.Stat a) reply.NoEnt ∷ [])
unfolding resolve
down_leaves_the_tree = refl

io_leaves_the_tree : Ends (made ++ by 0 3 (op.Unlink a) reply.Io ∷ []) (line 2) (Some (File [] 1 0))
unfolding resolve
io_leaves_the_tree = refl

sync_is_ok : IsLegal (made ++ by 0 3 op.Sync reply.Ok ∷ by 0 4 (op.CrashAt 2) reply.Ok ∷ by 0 5 op.Unmount reply.Ok ∷ [])
unfolding resolve
sync_is_ok = refl

sync_has_no_other_answer : IsNotLegal (made ++ by 0 3 op.Sync reply.Exist ∷ [])
unfolding resolve
sync_has_no_other_answer = refl

mount_is_never_ok : IsNotLegal (by 0 1 op.Mount reply.Ok ∷ [])
unfolding resolve
mount_is_never_ok = refl

-- `nospace data`: the number said is at most what was ever a directory's, and at least what the tree has
abbrev full : Opening
full = record { tree = some; dir_blocks = 16384; run = 1 }

full_of_directories : is_legal full (by 0 9 (op.Fill a 0 1 65) (reply.NoBlock 16384) ∷ []) ≡ true
unfolding resolve
full_of_directories = refl

more_than_ever : is_legal full (by 0 9 (op.Fill a 0 1 65) (reply.NoBlock 16385) ∷ []) ≡ false
unfolding resolve
more_than_ever = refl

less_than_the_tree_has : is_legal (record { tree = record { segments = 0; nodes = some.nodes }; dir_blocks = 9; run = 1 }) (by 0 9 (op.Fill a 0 1 65) (reply.NoBlock 1) ∷ []) ≡ false
unfolding resolve
less_than_the_tree_has = refl

not_that_full : is_legal full (by 0 9 (op.Fill a 0 1 65) (reply.NoBlock 16383) ∷ []) ≡ false
unfolding resolve
not_that_full = refl

-- seen: a later entry of another server touches what was changed
looked_at : KeepsNot (both ++ by 1 4 (op.Stat a) (reply.File 0 1) ∷ recovery 0 0 ∷ [])
unfolding resolve
looked_at = refl

looked_in : KeepsNot (both ++ by 1 4 (op.Stat b) reply.NoEnt ∷ recovery 0 0 ∷ [])
unfolding resolve
looked_in = refl

looked_at_by_itself : Keeps (made ++ by 0 3 (op.Stat a) (reply.File 0 1) ∷ recovery 0 0 ∷ [])
unfolding resolve
looked_at_by_itself = refl

not_looked_at : Keeps (both ++ by 1 4 op.Sync reply.Ok ∷ recovery 0 0 ∷ [])
unfolding resolve
not_looked_at = refl

a_refused_server_saw_nothing : Keeps (made ++ by 1 3 (op.Stat a) reply.Down ∷ recovery 0 0 ∷ [])
unfolding resolve
a_refused_server_saw_nothing = refl

-- in two directories: /d of the server 0, /b with the file /b/f of the server 1
abbrev bf : List (List ℕ)
bf = (98 ∷ []) ∷ (102 ∷ []) ∷ []

abbrev apart : List Item
apart = by 0 1 op.Mount reply.Mounted ∷ by 0 2 (op.Mkdir d) reply.Ok ∷ by 0 3 op.Sync reply.Ok
    ∷ by 1 4 op.Mount reply.Mounted ∷ by 1 5 (op.Mkdir b) reply.Ok ∷ by 1 6 (op.Create bf) reply.Ok ∷ by 0 7 (op.Create da) reply.Ok ∷ []

apart_is_not_seen : Keeps (apart ++ by 1 8 (op.Fill bf 1 1 65) reply.BadOffset ∷ recovery 0 (line 2) ∷ [])
unfolding resolve
apart_is_not_seen = refl

nospace_saw_what_was_made : KeepsNot (apart ++ by 1 8 (op.Fill bf 0 1 65) (reply.NoBlock 3) ∷ recovery 0 (line 2) ∷ [])
unfolding resolve
nospace_saw_what_was_made = refl

own_nospace_saw_nothing : Keeps (apart ++ by 0 8 (op.Fill da 0 1 65) (reply.NoBlock 3) ∷ recovery 0 (line 2) ∷ [])
unfolding resolve
own_nospace_saw_nothing = refl

-- a directory on the way is touched, and the node that a refused link or rename went by
walked_through : KeepsNot (both ++ by 1 4 (op.Create ax) reply.NotDir ∷ recovery 0 0 ∷ [])
unfolding resolve
walked_through = refl

-- synced: a later sync or unmount of the server, answered `ok`, before its next mount
a_sync_keeps : KeepsNot (made ++ by 0 3 op.Sync reply.Ok ∷ recovery 0 0 ∷ [])
unfolding resolve
a_sync_keeps = refl

a_sync_of_another : Keeps (both ++ by 1 4 op.Sync reply.Ok ∷ recovery 0 0 ∷ [])
unfolding resolve
a_sync_of_another = refl

a_sync_that_is_refused : Keeps (made ++ by 0 3 op.Sync reply.Down ∷ recovery 0 0 ∷ [])
unfolding resolve
a_sync_that_is_refused = refl

an_unmount_keeps : KeepsNot (made ++ by 0 3 op.Unmount reply.Ok ∷ recovery 0 0 ∷ [])
unfolding resolve
an_unmount_keeps = refl

an_unmount_after_a_stall : Keeps (made ++ by 0 3 op.Stall reply.Ok ∷ by 0 4 op.Unmount reply.Ok ∷ recovery 0 0 ∷ [])
unfolding resolve
an_unmount_after_a_stall = refl

a_stall_of_an_earlier_mount : KeepsNot (by 0 1 op.Mount reply.Mounted ∷ by 0 2 op.Stall reply.Ok ∷ by 0 3 op.Mount reply.Mounted ∷ by 0 4 (op.Create a) reply.Ok ∷ by 0 5 op.Unmount reply.Ok ∷ recovery 0 0 ∷ [])
unfolding resolve
a_stall_of_an_earlier_mount = refl

-- removal: the first change of the shape above the greatest number, and all later entries of the server
abbrev crashed : List Item
crashed = made ++ by 0 3 op.Sync reply.Ok ∷ by 0 4 (op.Create b) reply.Ok ∷ by 0 5 op.Crash reply.Ok ∷ recovery 0 (line 2) ∷ []

crashed_is_legal : IsLegal crashed
unfolding resolve
crashed_is_legal = refl

crashed_keeps : Keeps crashed
unfolding resolve
crashed_keeps = refl

the_synced_one_stays : Ends crashed (line 2) (Some (File [] 1 0))
unfolding resolve
the_synced_one_stays = refl

the_unsynced_one_goes : Ends crashed (line 4) None
unfolding resolve
the_unsynced_one_goes = refl

-- what the log kept stays, though it wasn't synced
the_log_kept_both : Ends (made ++ by 0 3 (op.Create b) reply.Ok ∷ recovery 0 (line 3) ∷ []) (line 3) (Some (File [] 1 0))
unfolding resolve
the_log_kept_both = refl

-- another server's entries stay
others_stay : Ends (apart ++ recovery 0 (line 2) ∷ []) (line 6) (Some (File [] 1 0))
unfolding resolve
others_stay = refl

own_go : Ends (apart ++ recovery 0 (line 2) ∷ []) (line 7) None
unfolding resolve
own_go = refl

-- entries before the last mount stay
mounted_again : Ends (made ++ by 0 3 op.Unmount reply.Ok ∷ by 0 4 op.Mount reply.Mounted ∷ by 0 5 (op.Create b) reply.Ok ∷ recovery 0 0 ∷ []) (line 2) (Some (File [] 1 0))
unfolding resolve
mounted_again = refl

mounted_again_loses : Ends (made ++ by 0 3 op.Unmount reply.Ok ∷ by 0 4 op.Mount reply.Mounted ∷ by 0 5 (op.Create b) reply.Ok ∷ recovery 0 0 ∷ []) (line 5) None
unfolding resolve
mounted_again_loses = refl

-- a look that saw what is lost goes too: the history without it is legal
a_look_goes_too : IsLegal (made ++ by 0 3 (op.Stat a) (reply.File 0 1) ∷ recovery 0 0 ∷ by 0 5 op.Mount reply.Mounted ∷ by 0 6 (op.Stat a) reply.NoEnt ∷ [])
unfolding resolve
a_look_goes_too = refl

-- a write into bytes that are there has a record: one that the log kept isn't removed, and its bytes are in doubt
abbrev written : List Item
written = made ++ by 0 3 (op.Write a 0 (1 ∷ 2 ∷ [])) reply.Ok ∷ by 0 4 op.Sync reply.Ok ∷ by 0 5 (op.Write a 0 (7 ∷ [])) reply.Ok ∷ []

a_write_stays_in_doubt : Ends (written ++ recovery 0 (line 5) ∷ []) (line 2) (Some (File (Doubtful ∷ Doubtful ∷ []) 1 0))
unfolding resolve
a_write_stays_in_doubt = refl

-- one that the log lost is removed, though it changes no shape
a_lost_write_is_removed : Ends (written ++ recovery 0 (line 3) ∷ []) (line 2) (Some (File (Byte 1 ∷ Byte 2 ∷ []) 1 0))
unfolding resolve
a_lost_write_is_removed = refl

-- so is a truncate to the present size, and with it what its server did later
a_lost_truncate_is_removed : Ends (written ++ by 0 6 (op.Truncate a 2) reply.Ok ∷ by 0 7 (op.Create b) reply.Ok ∷ recovery 0 (line 5) ∷ []) (line 7) None
unfolding resolve
a_lost_truncate_is_removed = refl

-- a refused write has no record
a_refused_write_is_not_lost : Ends (made ++ by 0 3 (op.Write a 9 (1 ∷ [])) reply.BadOffset ∷ by 0 4 op.Sync reply.Ok ∷ recovery 0 (line 2) ∷ []) (line 2) (Some (File [] 1 0))
unfolding resolve
a_refused_write_is_not_lost = refl

-- doubt: the last write that meets a sector is the dead server's, not synced, and nobody else touched the file since
a_synced_write_is_sure : Ends (written ++ by 0 6 op.Sync reply.Ok ∷ recovery 0 (line 5) ∷ []) (line 2) (Some (File (Byte 7 ∷ Byte 2 ∷ []) 1 0))
unfolding resolve
a_synced_write_is_sure = refl

a_touched_file_is_sure : Ends (written ++ by 1 6 op.Mount reply.Mounted ∷ by 1 7 (op.Stat a) (reply.File 2 1) ∷ recovery 0 (line 5) ∷ []) (line 2) (Some (File (Byte 7 ∷ Byte 2 ∷ []) 1 0))
unfolding resolve
a_touched_file_is_sure = refl

a_look_elsewhere_leaves_doubt : Ends (written ++ by 1 6 op.Mount reply.Mounted ∷ by 1 7 (op.Stat b) reply.NoEnt ∷ recovery 0 (line 5) ∷ []) (line 2) (Some (File (Doubtful ∷ Doubtful ∷ []) 1 0))
unfolding resolve
a_look_elsewhere_leaves_doubt = refl

the_last_writer_counts : Ends (written ++ by 1 6 op.Mount reply.Mounted ∷ by 1 7 (op.Write a 1 (9 ∷ [])) reply.Ok ∷ recovery 0 (line 5) ∷ []) (line 2) (Some (File (Byte 7 ∷ Byte 9 ∷ []) 1 0))
unfolding resolve
the_last_writer_counts = refl

a_truncate_writes_to_the_old_end : Ends (made ++ by 0 3 (op.Write a 0 (1 ∷ 2 ∷ [])) reply.Ok ∷ by 0 4 op.Sync reply.Ok ∷ by 0 5 (op.Truncate a 1) reply.Ok ∷ recovery 0 (line 5) ∷ []) (line 2) (Some (File (Doubtful ∷ []) 1 0))
unfolding resolve
a_truncate_writes_to_the_old_end = refl

a_truncate_to_the_present_size_writes_nothing : Ends (made ++ by 0 3 (op.Write a 0 (1 ∷ 2 ∷ [])) reply.Ok ∷ by 0 4 op.Sync reply.Ok ∷ by 0 5 (op.Truncate a 2) reply.Ok ∷ recovery 0 (line 5) ∷ []) (line 2) (Some (File (Byte 1 ∷ Byte 2 ∷ []) 1 0))
unfolding resolve
a_truncate_to_the_present_size_writes_nothing = refl

-- of two sectors the one that was written comes into doubt
abbrev two_sectors : List Item
two_sectors = made ++ by 0 3 (op.Fill a 0 514 1) reply.Ok ∷ by 0 4 op.Sync reply.Ok ∷ by 0 5 (op.Write a 513 (7 ∷ [])) reply.Ok ∷ recovery 0 (line 5) ∷ by 0 7 op.Mount reply.Mounted ∷ []

the_other_sector_is_sure : IsNotLegal (two_sectors ++ by 0 8 (op.Read a 511 1) (reply.Shown (9 ∷ [])) ∷ [])
unfolding resolve
the_other_sector_is_sure = refl

the_written_sector_is_in_doubt : IsLegal (two_sectors ++ by 0 8 (op.Read a 512 2) (reply.Shown (9 ∷ 9 ∷ [])) ∷ [])
unfolding resolve
the_written_sector_is_in_doubt = refl

-- any bytes may then be read, and afterwards the same
abbrev reads : List ℕ → List ℕ → List Item
reads one two = written ++ recovery 0 (line 5) ∷ by 0 7 op.Mount reply.Mounted ∷ by 0 8 (op.Read a 0 2) (reply.Shown one) ∷ by 0 9 (op.Read a 0 2) (reply.Shown two) ∷ []

reads_any : IsLegal (reads (1 ∷ 2 ∷ []) (1 ∷ 2 ∷ []))
unfolding resolve
reads_any = refl

reads_the_same : IsNotLegal (reads (1 ∷ 2 ∷ []) (3 ∷ 2 ∷ []))
unfolding resolve
reads_the_same = refl

reads_what_is_sure : IsNotLegal (made ++ by 0 3 (op.Write a 0 (1 ∷ 2 ∷ [])) reply.Ok ∷ by 0 4 (op.Read a 0 2) (reply.Shown (1 ∷ 3 ∷ [])) ∷ [])
unfolding resolve
reads_what_is_sure = refl

reads_no_more_than_there_is : IsNotLegal (reads (1 ∷ []) (1 ∷ []))
unfolding resolve
reads_no_more_than_there_is = refl

-- the recovery is judged in the settled list: two recoveries from the left
twice_recovered : Ends (made ++ recovery 0 0 ∷ by 0 4 op.Mount reply.Mounted ∷ by 0 5 (op.Create a) reply.Ok ∷ by 0 6 op.Sync reply.Ok ∷ recovery 0 (line 5) ∷ []) (line 5) (Some (File [] 1 0))
unfolding resolve
twice_recovered = refl

twice_recovered_is_legal : IsLegal (made ++ recovery 0 0 ∷ by 0 4 op.Mount reply.Mounted ∷ by 0 5 (op.Create a) reply.Ok ∷ by 0 6 op.Sync reply.Ok ∷ recovery 0 (line 5) ∷ [])
unfolding resolve
twice_recovered_is_legal = refl
