-- Lines over a small disk of one segment, by hand. The root (block 0) has the file /a (inode 1, empty), the directory /d (inode 2, block 1), the link /l to `d`
-- (inode 3) and the link /o to itself (inode 4); /d has the empty file f (inode 5) and the link q to `/a` (inode 6).
use Rattle.std.specs.Prelude.{◌≡◌, ℕ, zero, suc, true, false, ◌==◌, if◌then◌else◌, Option, Some, None, List, [], ◌∷◌, ◌++◌, replicate, refl, codes}
use Rattle.frang_base.specs.declared.bitmap.Bitmap.{Bitmap}
use Rattle.frang_base.specs.declared.lock.LockId.TheVariants as lock
use Rattle.frang_base.specs.declared.lock.Mode.TheVariants.{Shared, Sole}
use Rattle.frang_base.specs.declared.op.Op.{Op}
use Rattle.frang_base.specs.declared.op.Op.TheVariants as op
use Rattle.frang_base.specs.declared.reply.Reply.{Reply}
use Rattle.frang_base.specs.declared.reply.Reply.TheVariants as reply
use Rattle.disk_definitions.specs.Store.{Store, StoredNode, StoredEntry}
use Rattle.disk_definitions.specs.Store.Use.{Fresh, Entries}
use Rattle.disk_definitions.specs.Least as least
use Rattle.disk_definitions.specs.Picks as picks
use Rattle.disk_definitions.specs.Ask.{Sector, AtHand, run, looks, meet}
use Rattle.disk_definitions.specs.Ask.Sector.{InodeAt, DirectoryAt, SegmentAt}
use Rattle.disk_definitions.specs.Ask.Met.{Needs}
use Rattle.disk_definitions.specs.Plans.{Hand, Plan, Lock, shared_nodes}
use Rattle.disk_definitions.specs.Plans.Plan.{Lacks, Clears, Finishes}
use Rattle.disk_definitions.specs.Resolving.{resolve}
use Rattle.disk_definitions.specs.Lines.{plan_of_line}

abbrev a : List ℕ
a = 97 ∷ []

abbrev d : List ℕ
d = 100 ∷ []

abbrev f : List ℕ
f = 102 ∷ []

abbrev l : List ℕ
l = 108 ∷ []

abbrev o : List ℕ
o = 111 ∷ []

abbrev q : List ℕ
q = 113 ∷ []

abbrev x : List ℕ
x = 120 ∷ []

-- an inode of this kind with one block, whose number it is
abbrev directory : ℕ → ℕ → Option StoredNode
directory size block = Some (record { kind = 2; links = 1; size = size; birth = 0; blocks = 1; small = λ j. block; large = 0; when = 0; target = [] })

abbrev file : Option StoredNode
file = Some (record { kind = 1; links = 1; size = 0; birth = 0; blocks = 0; small = λ j. 0; large = 0; when = 0; target = [] })

abbrev link : List ℕ → Option StoredNode
link target = Some (record { kind = 3; links = 1; size = 1; birth = 0; blocks = 0; small = λ j. 0; large = 0; when = 0; target = target })

abbrev pub listed : {X : Type 0} → List (Option X) → ℕ → Option X
listed [] i = None
listed (one ∷ ones) zero = one
listed (one ∷ ones) (suc i) = listed ones i

abbrev inodes : ℕ → Option StoredNode
inodes = listed (directory 4 0 ∷ file ∷ directory 2 1 ∷ link (codes "d") ∷ link (codes "o") ∷ file ∷ link (codes "/a") ∷ [])

abbrev entry : List ℕ → ℕ → ℕ → Option StoredEntry
entry name inode kind = Some (record { name = name; inode = inode; kind = kind })

abbrev slots : ℕ → ℕ → Option StoredEntry
slots zero = listed (entry a 1 1 ∷ entry d 2 2 ∷ entry l 3 3 ∷ entry o 4 3 ∷ [])
slots (suc zero) = listed (entry f 5 1 ∷ entry q 6 3 ∷ [])
slots (suc (suc k)) = λ slot. None

abbrev store : Store
store = record {
  inode = inodes;
  bit = λ i. false;
  use_of = λ k. if k == 0 then Entries else (if k == 1 then Entries else Fresh);
  place = slots;
  large_bit = λ g. false;
  byte = λ k j. 0;
  large_byte = λ g j. 0;
}

-- inodes 0 to 6 and blocks 0 and 1 are in use
abbrev segment : Bitmap
segment = record { version = 1; inodes = 127; states = 15 ∷ replicate 255 0; large = false }

abbrev hand : Hand
hand = record { held = (0, segment) ∷ []; all = true; zeroed = λ k. false }

abbrev reply_of : Plan → Option Reply
reply_of Lacks = None
reply_of (Clears k locks) = None
reply_of (Finishes f) = Some f.reply

abbrev locks_of : Plan → List Lock
locks_of Lacks = []
locks_of (Clears k locks) = locks
locks_of (Finishes f) = f.locks

abbrev said : Op → Option Reply
said operation = reply_of (run (plan_of_line hand 4294967299 70 operation) store)

abbrev seen : Op → List Sector
seen operation = looks (plan_of_line hand 4294967299 70 operation) store

abbrev taken : Op → List Lock
taken operation = locks_of (run (plan_of_line hand 4294967299 70 operation) store)

-- ---- what is followed

a_link_on_the_way : said (op.Stat (l ∷ f ∷ [])) ≡ Some (reply.File 0 1)
unfolding resolve least.least least.least_from picks.picks
a_link_on_the_way = refl

a_last_link_is_not_followed_by_stat : said (op.Stat (l ∷ [])) ≡ Some (reply.Symlink 1)
unfolding resolve least.least least.least_from picks.picks
a_last_link_is_not_followed_by_stat = refl

a_last_link_is_followed_by_list : said (op.List (l ∷ [])) ≡ Some (reply.Names (f ∷ q ∷ []))
unfolding resolve least.least least.least_from picks.picks
a_last_link_is_followed_by_list = refl

an_absolute_target : said (op.Read (d ∷ q ∷ []) 0 1) ≡ Some (reply.Shown [])
unfolding resolve least.least least.least_from picks.picks
an_absolute_target = refl

time_through_two_links : said (op.Time (l ∷ q ∷ [])) ≡ Some (reply.Time 0 0)
unfolding resolve least.least least.least_from picks.picks
time_through_two_links = refl

-- ---- refusals

the_ninth_link : said (op.Read (o ∷ []) 0 1) ≡ Some reply.Loop
unfolding resolve least.least least.least_from picks.picks
the_ninth_link = refl

a_file_on_the_way : said (op.Create (a ∷ x ∷ [])) ≡ Some reply.NotDir
unfolding resolve least.least least.least_from picks.picks
a_file_on_the_way = refl

a_name_that_is_not_there : said (op.Create (l ∷ x ∷ x ∷ [])) ≡ Some reply.NoEnt
unfolding resolve least.least least.least_from picks.picks
a_name_that_is_not_there = refl

moved_below_itself_through_a_link : said (op.Rename (d ∷ []) (l ∷ x ∷ [])) ≡ Some reply.Inval
unfolding resolve least.least least.least_from picks.picks
moved_below_itself_through_a_link = refl

-- ---- what is looked at, in order: the walk, the link's inode where it is followed, the walk on, and then the plan over the path without links
the_walk_is_looked_at : seen (op.Read (l ∷ f ∷ []) 0 1)
    ≡ InodeAt 0 ∷ DirectoryAt 0 0 ∷ InodeAt 3 ∷ InodeAt 0 ∷ DirectoryAt 0 0 ∷ InodeAt 2 ∷ DirectoryAt 1 0 ∷ InodeAt 0 ∷ DirectoryAt 0 0 ∷ InodeAt 2 ∷ DirectoryAt 1 0 ∷ InodeAt 5 ∷ []
unfolding resolve least.least least.least_from picks.picks
the_walk_is_looked_at = refl

-- the second path of a link isn't walked where the first leads to a directory
a_directory_has_one_name : seen (op.Link (d ∷ []) (o ∷ x ∷ [])) ≡ InodeAt 0 ∷ DirectoryAt 0 0 ∷ InodeAt 0 ∷ DirectoryAt 0 0 ∷ []
unfolding resolve least.least least.least_from picks.picks
a_directory_has_one_name = refl

abbrev nothing_at_hand : AtHand
nothing_at_hand = record { inode = λ i. None; directory = λ k part. None; segment = λ k. false; bytes = λ k part. None; large = λ g part. None }

the_root_is_needed_first : meet (plan_of_line hand 4294967299 70 (op.Read (l ∷ []) 0 1)) nothing_at_hand ≡ Needs (InodeAt 0)
unfolding resolve least.least least.least_from picks.picks
the_root_is_needed_first = refl

-- ---- locks: the directories and links of the walk, shared, and then those of the plan
links_are_locked : taken (op.Read (l ∷ f ∷ []) 0 1) ≡ shared_nodes (0 ∷ 3 ∷ 0 ∷ 2 ∷ []) ++ shared_nodes (0 ∷ 2 ∷ 5 ∷ [])
unfolding resolve least.least least.least_from picks.picks
links_are_locked = refl

-- eight times through the link, and not a ninth time
a_loop_is_locked : taken (op.Read (o ∷ []) 0 1) ≡ shared_nodes (0 ∷ 4 ∷ 0 ∷ 4 ∷ 0 ∷ 4 ∷ 0 ∷ 4 ∷ 0 ∷ 4 ∷ 0 ∷ 4 ∷ 0 ∷ 4 ∷ 0 ∷ 4 ∷ 0 ∷ [])
unfolding resolve least.least least.least_from picks.picks
a_loop_is_locked = refl
