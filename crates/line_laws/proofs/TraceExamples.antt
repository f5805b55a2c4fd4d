-- Traces of lines over a small disk of one segment, by hand, with their locks. The root (block 0) has the file /a (inode 1, 600 bytes in block 1, two links), the
-- directory /d (inode 2, empty, without blocks), the link /l to `d` (inode 3) and the second name /b of inode 1.
use Rattle.std.specs.Prelude.{◌≡◌, ℕ, zero, suc, Bool, true, false, not, ◌==◌, ◌&&◌, if◌then◌else◌, Option, Some, None, List, [], ◌∷◌, ◌++◌, replicate, refl, codes}
use Rattle.frang_base.specs.declared.bitmap.Bitmap.{Bitmap}
use Rattle.frang_base.specs.declared.lock.LockId.TheVariants.{Node, Segment}
use Rattle.frang_base.specs.declared.lock.Mode.TheVariants.{Shared, Sole}
use Rattle.frang_base.specs.declared.op.Op.{Op}
use Rattle.frang_base.specs.declared.op.Op.TheVariants as op
use Rattle.disk_definitions.specs.Store.{Store, StoredNode, StoredEntry}
use Rattle.disk_definitions.specs.Store.Use.{Fresh, Bytes, Entries}
use Rattle.disk_definitions.specs.Least as least
use Rattle.disk_definitions.specs.Picks as picks
use Rattle.disk_definitions.specs.Ask.{Sector, AtHand, Met, seven, part_of}
use Rattle.disk_definitions.specs.Ask.Sector.{InodeAt, DirectoryAt, SegmentAt, BytesAt, LargeAt}
use Rattle.disk_definitions.specs.Ask.Met.{Needs, Has}
use Rattle.disk_definitions.specs.Plans.{Hand, Plan, Lock}
use Rattle.disk_definitions.specs.Plans.Plan.{Lacks, Clears, Finishes}
use Rattle.disk_definitions.specs.Traces.{traced}
use Rattle.disk_definitions.specs.Resolving.{resolve}
use Rattle.disk_definitions.specs.Lines.{plan_of_line}
use Rattle.disk_definitions.proofs.LineExamples.{listed}

abbrev a : List ℕ
a = 97 ∷ []

abbrev b : List ℕ
b = 98 ∷ []

abbrev d : List ℕ
d = 100 ∷ []

abbrev l : List ℕ
l = 108 ∷ []

abbrev x : List ℕ
x = 120 ∷ []

-- a node with this many blocks, each of this number
abbrev node : ℕ → ℕ → ℕ → ℕ → ℕ → List ℕ → Option StoredNode
node kind links size blocks block target =
    Some (record { kind = kind; links = links; size = size; birth = 0; blocks = blocks; small = λ n. block; large = 0; when = 0; target = target })

abbrev entry : List ℕ → ℕ → ℕ → Option StoredEntry
entry name inode kind = Some (record { name = name; inode = inode; kind = kind })

abbrev places : ℕ → ℕ → Option StoredEntry
places zero = listed (entry a 1 1 ∷ entry d 2 2 ∷ entry l 3 3 ∷ entry b 1 1 ∷ [])
places (suc k) = λ slot. None

abbrev store : Store
store = record {
  inode = listed (node 2 1 4 1 0 [] ∷ node 1 2 600 1 1 [] ∷ node 2 1 0 0 0 [] ∷ node 3 1 1 0 0 (codes "d") ∷ []);
  bit = λ i. false;
  use_of = λ k. if k == 0 then Entries else (if k == 1 then Bytes else Fresh);
  place = places;
  large_bit = λ g. false;
  byte = λ k j. 0;
  large_byte = λ g j. 0;
}

-- inodes 0 to 3 are in use; blocks 0 to 3 have the states 3, 1, 0, 0
abbrev segment : Bitmap
segment = record { version = 1; inodes = 15; states = 7 ∷ replicate 255 0; large = false }

abbrev hand : Hand
hand = record { held = (0, segment) ∷ []; all = true; zeroed = λ k. false }

-- no segment is held
abbrev empty_hand : Hand
empty_hand = record { held = []; all = false; zeroed = λ k. false }

-- the sectors that pass are at hand
abbrev known : (Sector → Bool) → AtHand
known has = record {
  inode = λ i. if has (InodeAt i) then Some (store.inode i) else None;
  directory = λ k part. if has (DirectoryAt k part) then Some (seven store.place k part) else None;
  segment = λ k. has (SegmentAt k);
  bytes = λ k part. if has (BytesAt k part) then Some (part_of store.byte k part) else None;
  large = λ g part. if has (LargeAt g part) then Some (part_of store.large_byte g part) else None;
}

abbrev all : Sector → Bool
all sector = true

abbrev but_inode : ℕ → Sector → Bool
but_inode missing (InodeAt i) = not (i == missing)
but_inode missing _ = true

abbrev but_part : ℕ → ℕ → Sector → Bool
but_part block missing (DirectoryAt k part) = not (k == block && part == missing)
but_part block missing _ = true

-- what a line looked at, and the sector that it needs or its locks
abbrev locks_of : Plan → List Lock
locks_of Lacks = []
locks_of (Clears k locks) = locks
locks_of (Finishes f) = f.locks

abbrev locks_met : Met Plan → Met (List Lock)
locks_met (Needs sector) = Needs sector
locks_met (Has plan) = Has (locks_of plan)

abbrev line_over : Hand → (Sector → Bool) → Op → List Sector × Met (List Lock)
line_over over has operation = let t = traced (plan_of_line over 4294967299 70 operation) (known has) in (t.looked, locks_met t.met)

abbrev line : (Sector → Bool) → Op → List Sector × Met (List Lock)
line has operation = line_over hand has operation

-- the root, its first sector, and all eight
abbrev up_to_first : List Sector
up_to_first = InodeAt 0 ∷ DirectoryAt 0 0 ∷ []

abbrev root : List Sector
root = InodeAt 0 ∷ DirectoryAt 0 0 ∷ DirectoryAt 0 1 ∷ DirectoryAt 0 2 ∷ DirectoryAt 0 3 ∷ DirectoryAt 0 4 ∷ DirectoryAt 0 5 ∷ DirectoryAt 0 6 ∷ DirectoryAt 0 7 ∷ []

-- ---- paths: each is walked through links, and then without

a_file : line all (op.Stat (a ∷ [])) ≡ (up_to_first ++ up_to_first ++ InodeAt 1 ∷ [], Has ((Node 0, Shared) ∷ (Node 0, Shared) ∷ (Node 1, Shared) ∷ []))
unfolding resolve least.least least.least_from picks.picks
a_file = refl

a_file_whose_inode_is_missing : line (but_inode 1) (op.Stat (a ∷ [])) ≡ (up_to_first ++ up_to_first, Needs (InodeAt 1))
unfolding resolve least.least least.least_from picks.picks
a_file_whose_inode_is_missing = refl

a_missing_part : line (but_part 0 0) (op.Stat (a ∷ [])) ≡ (InodeAt 0 ∷ [], Needs (DirectoryAt 0 0))
unfolding resolve least.least least.least_from picks.picks
a_missing_part = refl

-- of a name that isn't there all parts are looked at, up to the missing one
the_last_part_is_missing :
    line (but_part 0 7) (op.Stat (x ∷ [])) ≡
    (InodeAt 0 ∷ DirectoryAt 0 0 ∷ DirectoryAt 0 1 ∷ DirectoryAt 0 2 ∷ DirectoryAt 0 3 ∷ DirectoryAt 0 4 ∷ DirectoryAt 0 5 ∷ DirectoryAt 0 6 ∷ [], Needs (DirectoryAt 0 7))
unfolding resolve least.least least.least_from picks.picks
the_last_part_is_missing = refl

a_refused_walk : line all (op.Stat (x ∷ x ∷ [])) ≡ (root, Has ((Node 0, Shared) ∷ []))
unfolding resolve least.least least.least_from picks.picks
a_refused_walk = refl

through_a_link :
    line all (op.List (l ∷ [])) ≡ (
      up_to_first ++ InodeAt 3 ∷ up_to_first ++ up_to_first ++ InodeAt 2 ∷ [],
      Has ((Node 0, Shared) ∷ (Node 3, Shared) ∷ (Node 0, Shared) ∷ (Node 0, Shared) ∷ (Node 2, Shared) ∷ []),
    )
unfolding resolve least.least least.least_from picks.picks
through_a_link = refl

a_link_whose_inode_is_missing : line (but_inode 3) (op.List (l ∷ [])) ≡ (up_to_first, Needs (InodeAt 3))
unfolding resolve least.least least.least_from picks.picks
a_link_whose_inode_is_missing = refl

-- ---- names: the pick looks at the held segment, the search for room up to the first free place, and the new inode is looked at last

a_new_file :
    line all (op.Create (x ∷ [])) ≡ (
      root ++ root ++ SegmentAt 0 ∷ DirectoryAt 0 0 ∷ InodeAt 4 ∷ [],
      Has ((Node 0, Shared) ∷ (Node 0, Shared) ∷ (Node 0, Sole) ∷ (Node 4, Sole) ∷ (Segment 0, Sole) ∷ []),
    )
unfolding resolve least.least least.least_from picks.picks
a_new_file = refl

a_new_file_whose_inode_is_missing : line (but_inode 4) (op.Create (x ∷ [])) ≡ (root ++ root ++ SegmentAt 0 ∷ DirectoryAt 0 0 ∷ [], Needs (InodeAt 4))
unfolding resolve least.least least.least_from picks.picks
a_new_file_whose_inode_is_missing = refl

-- the directory takes block 2, which has to be cleared: the locks are those of the finished line
a_block_to_be_cleared :
    line all (op.Mkdir (d ∷ x ∷ [])) ≡ (
      up_to_first ++ InodeAt 2 ∷ up_to_first ++ InodeAt 2 ∷ SegmentAt 0 ∷ SegmentAt 0 ∷ InodeAt 4 ∷ [],
      Has ((Node 0, Shared) ∷ (Node 2, Shared) ∷ (Node 0, Shared) ∷ (Node 2, Shared) ∷ (Node 2, Sole) ∷ (Node 4, Sole) ∷ (Segment 0, Sole) ∷ (Segment 0, Sole) ∷ []),
    )
unfolding resolve least.least least.least_from picks.picks
a_block_to_be_cleared = refl

one_of_two_names : line all (op.Unlink (b ∷ [])) ≡ (up_to_first ++ up_to_first ++ InodeAt 1 ∷ [], Has ((Node 0, Shared) ∷ (Node 0, Shared) ∷ (Node 0, Sole) ∷ (Node 1, Sole) ∷ []))
unfolding resolve least.least least.least_from picks.picks
one_of_two_names = refl

a_directory_that_goes :
    line all (op.Rmdir (d ∷ [])) ≡
    (up_to_first ++ up_to_first ++ InodeAt 2 ∷ SegmentAt 0 ∷ [], Has ((Node 0, Shared) ∷ (Node 0, Shared) ∷ (Node 0, Sole) ∷ (Node 2, Sole) ∷ (Segment 0, Sole) ∷ []))
unfolding resolve least.least least.least_from picks.picks
a_directory_that_goes = refl

-- both paths are walked through links, and then both without
a_name_moved_into_a_block_to_be_cleared :
    line all (op.Rename (a ∷ []) (d ∷ x ∷ [])) ≡ (
      up_to_first ++ up_to_first ++ InodeAt 2 ∷ up_to_first ++ up_to_first ++ InodeAt 2 ∷ SegmentAt 0 ∷ [],
      Has ((Node 0, Shared) ∷ (Node 0, Shared) ∷ (Node 2, Shared) ∷ (Node 0, Shared) ∷ (Node 0, Shared) ∷ (Node 2, Shared) ∷ (Node 0, Sole) ∷ (Node 2, Sole) ∷ (Segment 0, Sole) ∷ []),
    )
unfolding resolve least.least least.least_from picks.picks
a_name_moved_into_a_block_to_be_cleared = refl

-- ---- bytes: those that stay are looked at last

a_byte_among_others :
    line all (op.Write (a ∷ []) 0 (7 ∷ [])) ≡ (up_to_first ++ up_to_first ++ InodeAt 1 ∷ BytesAt 1 0 ∷ [], Has ((Node 0, Shared) ∷ (Node 0, Shared) ∷ (Node 1, Shared) ∷ (Node 1, Sole) ∷ []))
unfolding resolve least.least least.least_from picks.picks
a_byte_among_others = refl

-- ---- without segments nothing is picked: the plan lacks them, and has no locks yet

no_segments : line_over empty_hand all (op.Create (x ∷ [])) ≡ (root ++ root, Has [])
unfolding resolve least.least least.least_from picks.picks
no_segments = refl
