-- Plans over a small disk of one segment, by hand: the root has the file /a (inode 1, two links), the directory /d (inode 2, empty, without blocks) and the
-- second name /b of inode 1, in block 0; block 1 was a directory's.
use Rattle.std.specs.Prelude.{◌≡◌, ℕ, true, false, ◌==◌, if◌then◌else◌, Option, Some, None, List, [], ◌∷◌, replicate, refl, map}
use Rattle.frang_base.specs.declared.bitmap.Bitmap.{Bitmap}
use Rattle.frang_base.specs.declared.lock.LockId.TheVariants as lock
use Rattle.frang_base.specs.declared.lock.Mode.TheVariants.{Shared, Sole}
use Rattle.frang_base.specs.declared.op.Op.{Op}
use Rattle.frang_base.specs.declared.op.Op.TheVariants as op
use Rattle.frang_base.specs.declared.reply.Reply.{Reply}
use Rattle.frang_base.specs.declared.reply.Reply.TheVariants as reply
use Rattle.disk_definitions.specs.Store.{Store, StoredNode, StoredEntry}
use Rattle.disk_definitions.specs.Store.Use.{Fresh, Empty, Entries}
use Rattle.disk_definitions.specs.Least as least
use Rattle.disk_definitions.specs.Picks as picks
use Rattle.disk_definitions.specs.Ask.{Sector, AtHand, run, looks, meet}
use Rattle.disk_definitions.specs.Ask.Sector.{InodeAt, DirectoryAt, SegmentAt}
use Rattle.disk_definitions.specs.Ask.Met.{Needs}
use Rattle.disk_definitions.specs.Plans.{Hand, Plan, Lock}
use Rattle.disk_definitions.specs.Plans.Plan.{Lacks, Clears, Finishes}
use Rattle.disk_definitions.specs.declared.region.Region.TheVariants as region
use Rattle.disk_definitions.specs.Regions.{sector_of}
use Rattle.disk_definitions.specs.Edits.{Edit}
use Rattle.disk_definitions.specs.Edits.Edit.{SetInode, SetPlace}
use Rattle.disk_definitions.specs.FilePlans.{small_after}
use Rattle.disk_definitions.specs.Written.{forced_in, change_of}
use Rattle.disk_definitions.specs.PlanOf.{plan_of}

abbrev a : List ℕ
a = 97 ∷ []

abbrev b : List ℕ
b = 98 ∷ []

abbrev d : List ℕ
d = 100 ∷ []

abbrev x : List ℕ
x = 120 ∷ []

abbrev node : ℕ → ℕ → ℕ → ℕ → StoredNode
node kind links size blocks = record { kind = kind; links = links; size = size; birth = 0; blocks = blocks; small = λ n. 0; large = 0; when = 0; target = [] }

abbrev inodes : ℕ → Option StoredNode
inodes i = if i == 0 then Some (node 2 1 3 1) else (if i == 1 then Some (node 1 2 0 0) else (if i == 2 then Some (node 2 1 0 0) else None))

abbrev entry : List ℕ → ℕ → ℕ → Option StoredEntry
entry name inode kind = Some (record { name = name; inode = inode; kind = kind })

abbrev places : ℕ → ℕ → Option StoredEntry
places k p = if k == 0 then (if p == 0 then entry a 1 1 else (if p == 1 then entry d 2 2 else (if p == 3 then entry b 1 1 else None))) else None

abbrev store : Store
store = record {
  inode = inodes;
  bit = λ i. if i == 0 then true else (if i == 1 then true else i == 2);
  use_of = λ k. if k == 0 then Entries else (if k == 1 then Empty else Fresh);
  place = places;
  large_bit = λ g. false;
  byte = λ k j. 0;
  large_byte = λ g j. 0;
}

-- blocks 0 to 3 have the states 3, 2, 0, 0
abbrev segment : Bitmap
segment = record { version = 1; inodes = 7; states = 11 ∷ replicate 255 0; large = false }

abbrev hand : Hand
hand = record { held = (0, segment) ∷ []; all = true; zeroed = λ k. false }

-- no segment is held
abbrev empty_hand : Hand
empty_hand = record { held = []; all = false; zeroed = λ k. false }

abbrev reply_of : Plan → Option Reply
reply_of Lacks = None
reply_of (Clears k locks) = None
reply_of (Finishes f) = Some f.reply

abbrev locks_of : Plan → List Lock
locks_of Lacks = []
locks_of (Clears k locks) = locks
locks_of (Finishes f) = f.locks

abbrev said : Op → Option Reply
said o = reply_of (run (plan_of hand 4294967299 70 o) store)

abbrev seen : Op → List Sector
seen o = looks (plan_of hand 4294967299 70 o) store

-- ---- refusals

root_is_there : said (op.Create []) ≡ Some reply.Exist
unfolding least.least least.least_from picks.picks
root_is_there = refl

name_is_there : said (op.Mkdir (a ∷ [])) ≡ Some reply.Exist
unfolding least.least least.least_from picks.picks
name_is_there = refl

no_directory_on_the_way : said (op.Create (a ∷ x ∷ [])) ≡ Some reply.NotDir
unfolding least.least least.least_from picks.picks
no_directory_on_the_way = refl

no_name_on_the_way : said (op.Create (x ∷ x ∷ [])) ≡ Some reply.NoEnt
unfolding least.least least.least_from picks.picks
no_name_on_the_way = refl

directory_is_not_unlinked : said (op.Unlink (d ∷ [])) ≡ Some reply.IsDir
unfolding least.least least.least_from picks.picks
directory_is_not_unlinked = refl

file_is_not_removed : said (op.Rmdir (a ∷ [])) ≡ Some reply.NotDir
unfolding least.least least.least_from picks.picks
file_is_not_removed = refl

moved_below_itself : said (op.Rename (d ∷ []) (d ∷ x ∷ [])) ≡ Some reply.Inval
unfolding least.least least.least_from picks.picks
moved_below_itself = refl

moved_below_a_name_that_is_not_there : said (op.Rename (d ∷ []) (d ∷ x ∷ x ∷ [])) ≡ Some reply.NoEnt
unfolding least.least least.least_from picks.picks
moved_below_a_name_that_is_not_there = refl

file_onto_a_directory : said (op.Rename (a ∷ []) (d ∷ [])) ≡ Some reply.IsDir
unfolding least.least least.least_from picks.picks
file_onto_a_directory = refl

directory_onto_a_file : said (op.Rename (d ∷ []) (a ∷ [])) ≡ Some reply.NotDir
unfolding least.least least.least_from picks.picks
directory_onto_a_file = refl

two_names_of_one_node : said (op.Rename (a ∷ []) (b ∷ [])) ≡ Some reply.Ok
unfolding least.least least.least_from picks.picks
two_names_of_one_node = refl

-- without segments nothing can be picked, which is no refusal
nothing_is_picked_of_no_segments : run (plan_of empty_hand 4294967299 70 (op.Create (x ∷ []))) store ≡ Lacks
unfolding least.least least.least_from picks.picks
nothing_is_picked_of_no_segments = refl

-- ---- what is looked at

-- a name that isn't there: all eight sectors of the directory; then the held segment for the pick, the sectors up to the first free place, and the new inode
new_file_is_seen :
    seen (op.Create (x ∷ [])) ≡
    InodeAt 0 ∷ DirectoryAt 0 0 ∷ DirectoryAt 0 1 ∷ DirectoryAt 0 2 ∷ DirectoryAt 0 3 ∷ DirectoryAt 0 4 ∷ DirectoryAt 0 5 ∷ DirectoryAt 0 6 ∷ DirectoryAt 0 7
    ∷ SegmentAt 0 ∷ DirectoryAt 0 0 ∷ InodeAt 3 ∷ []
unfolding least.least least.least_from picks.picks
new_file_is_seen = refl

-- a name that is there: the sectors up to it
unlink_is_seen : seen (op.Unlink (b ∷ [])) ≡ InodeAt 0 ∷ DirectoryAt 0 0 ∷ InodeAt 1 ∷ []
unfolding least.least least.least_from picks.picks
unlink_is_seen = refl

-- the directory has no blocks, so block 1 is taken, which was a directory's: its first sector is needed, and nothing is cleared
block_that_was_a_directorys : seen (op.Mkdir (d ∷ x ∷ [])) ≡ InodeAt 0 ∷ DirectoryAt 0 0 ∷ InodeAt 2 ∷ SegmentAt 0 ∷ SegmentAt 0 ∷ InodeAt 3 ∷ DirectoryAt 1 0 ∷ []
unfolding least.least least.least_from picks.picks
block_that_was_a_directorys = refl

-- ---- locks

mkdir_takes :
    locks_of (run (plan_of hand 4294967299 70 (op.Mkdir (d ∷ x ∷ []))) store) ≡
    (lock.Node 0, Shared) ∷ (lock.Node 2, Shared) ∷ (lock.Node 2, Sole) ∷ (lock.Node 3, Sole) ∷ (lock.Segment 0, Sole) ∷ (lock.Segment 0, Sole) ∷ []
unfolding least.least least.least_from picks.picks
mkdir_takes = refl

-- another link stays, so no segment is taken
unlink_takes : locks_of (run (plan_of hand 4294967299 70 (op.Unlink (a ∷ []))) store) ≡ (lock.Node 0, Shared) ∷ (lock.Node 0, Sole) ∷ (lock.Node 1, Sole) ∷ []
unfolding least.least least.least_from picks.picks
unlink_takes = refl

rmdir_takes :
    locks_of (run (plan_of hand 4294967299 70 (op.Rmdir (d ∷ []))) store) ≡
    (lock.Node 0, Shared) ∷ (lock.Node 0, Sole) ∷ (lock.Node 2, Sole) ∷ (lock.Segment 0, Sole) ∷ []
unfolding least.least least.least_from picks.picks
rmdir_takes = refl

-- ---- what a plan answers over what is at hand

abbrev nothing_at_hand : AtHand
nothing_at_hand = record { inode = λ i. None; directory = λ k part. None; segment = λ k. false; bytes = λ k part. None; large = λ g part. None }

the_root_is_needed_first : meet (plan_of hand 4294967299 70 (op.Stat (a ∷ []))) nothing_at_hand ≡ Needs (InodeAt 0)
unfolding least.least least.least_from picks.picks
the_root_is_needed_first = refl

-- ---- looks and bytes

file_is_described : said (op.Stat (a ∷ [])) ≡ Some (reply.File 0 2)
unfolding least.least least.least_from picks.picks
file_is_described = refl

root_is_listed_in_order : said (op.List []) ≡ Some (reply.Names (a ∷ b ∷ d ∷ []))
unfolding least.least least.least_from picks.picks
root_is_listed_in_order = refl

bytes_past_the_end : said (op.Write (a ∷ []) 1 (7 ∷ [])) ≡ Some reply.BadOffset
unfolding least.least least.least_from picks.picks
bytes_past_the_end = refl

-- the first byte of a file takes block 2, the least that is free and was never a directory's: no old bytes are needed
first_byte_is_seen : seen (op.Write (a ∷ []) 0 (7 ∷ [])) ≡ InodeAt 0 ∷ DirectoryAt 0 0 ∷ InodeAt 1 ∷ SegmentAt 0 ∷ []
unfolding least.least least.least_from picks.picks
first_byte_is_seen = refl

first_byte_takes :
    locks_of (run (plan_of hand 4294967299 70 (op.Write (a ∷ []) 0 (7 ∷ []))) store) ≡
    (lock.Node 0, Shared) ∷ (lock.Node 1, Shared) ∷ (lock.Node 1, Sole) ∷ (lock.Segment 0, Sole) ∷ []
unfolding least.least least.least_from picks.picks
first_byte_takes = refl

nothing_is_shown_of_an_empty_file : said (op.Read (a ∷ []) 0 10) ≡ Some (reply.Shown [])
unfolding least.least least.least_from picks.picks
nothing_is_shown_of_an_empty_file = refl

-- ---- times

abbrev edits_of : Plan → List Edit
edits_of Lacks = []
edits_of (Clears k locks) = []
edits_of (Finishes f) = f.edits

-- a file that is cut to the size that it has gets the time, in an edit of its inode that names it
a_cut_gives_the_time : edits_of (run (plan_of hand 4294967299 70 (op.Truncate (a ∷ []) 0)) store) ≡ SetInode 1 (Some (record (node 1 2 0 0) { small = small_after (node 1 2 0 0) [] 0; when = 70 })) true ∷ []
unfolding least.least least.least_from picks.picks
a_cut_gives_the_time = refl

a_second_name_does_not : edits_of (run (plan_of hand 4294967299 70 (op.Unlink (a ∷ []))) store) ≡ SetInode 0 (Some (node 2 1 2 1)) false ∷ SetPlace 0 0 None ∷ SetInode 1 (Some (node 1 1 0 0)) false ∷ []
unfolding least.least least.least_from picks.picks
a_second_name_does_not = refl

never_written : said (op.Time (a ∷ [])) ≡ Some (reply.Time 0 0)
unfolding least.least least.least_from picks.picks
never_written = refl

time_of_a_directory : said (op.Time (d ∷ [])) ≡ Some reply.IsDir
unfolding least.least least.least_from picks.picks
time_of_a_directory = refl

-- the places 100 to 107 of the inode's sector count as changed, and no others, and those of no other sector
the_time_is_forced : map (forced_in (SetInode 1 None true ∷ []) (sector_of (region.Inode 1))) (99 ∷ 100 ∷ 107 ∷ 108 ∷ []) ≡ false ∷ true ∷ true ∷ false ∷ []
the_time_is_forced = refl

not_by_another_edit : forced_in (SetInode 1 None false ∷ SetInode 2 None true ∷ []) (sector_of (region.Inode 1)) 100 ≡ false
not_by_another_edit = refl

-- the change of a sector that stays: one patch of its eight bytes
the_time_alone : change_of (SetInode 1 None true ∷ []) (λ s. replicate 512 0) (λ s. replicate 512 0) (sector_of (region.Inode 1))
    ≡ Some (record { sector = record { 0 = sector_of (region.Inode 1) }; version = 1; patches = record { at = 100; bytes = replicate 8 0 } ∷ [] })
the_time_alone = refl
