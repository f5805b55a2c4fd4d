-- What a computation over sectors goes by: its value, what it looks at, and what it meets with some sectors at hand.
use Rattle.std.specs.Prelude.{◌≡◌, ℕ, List, [], ◌∷◌, ◌++◌, map}
use Rattle.disk_definitions.specs.Store.{Store}
use Rattle.disk_definitions.specs.Ask.{Sector, InodeAt, DirectoryAt, SegmentAt, BytesAt, LargeAt, Ask, AtHand, IsOf, bind, seven, part_of, run, looks, meet, read_segments}
use Rattle.disk_definitions.specs.Missing.{first_missing, unless_missing}

-- two stores say the same in a sector; of a segment a computation sees nothing
abbrev pub SayTheSame : Store → Store → Sector → Type 0
SayTheSame store other (InodeAt inode) = other.inode inode ≡ store.inode inode
SayTheSame store other (DirectoryAt block part) = seven other.place block part ≡ seven store.place block part
SayTheSame store other (SegmentAt segment) = Unit {0}
SayTheSame store other (BytesAt block part) = part_of other.byte block part ≡ part_of store.byte block part
SayTheSame store other (LargeAt large part) = part_of other.large_byte large part ≡ part_of store.large_byte large part

-- and in each of these
abbrev pub AllSayTheSame : Store → Store → List Sector → Type 0
AllSayTheSame store other [] = Unit {0}
AllSayTheSame store other (sector ∷ sectors) = SayTheSame store other sector × AllSayTheSame store other sectors

-- one computation and then another: the value of the second by that of the first, and it looks where each of them looks
abbrev pub GoesOn : Type 0 → Type 0 → Type 0
GoesOn A B =
    (first : Ask A) (second : A → Ask B) (store : Store) →
    (run (bind first second) store ≡ run (second (run first store)) store)
    × (looks (bind first second) store ≡ looks first store ++ looks (second (run first store)) store)

-- with sectors of a disk at hand it has its value over this disk, or it needs the first of the sectors that it looks at there that isn't at hand
abbrev pub MeetsItsValue : Type 0 → Type 0
MeetsItsValue A =
    (program : Ask A) (known : AtHand) (store : Store) → IsOf known store →
    meet program known ≡ unless_missing (first_missing known (looks program store)) (run program store)

-- over disks that say the same in all that it looks at it has the same value, and looks at the same
abbrev pub GoesByWhatItLooksAt : Type 0 → Type 0
GoesByWhatItLooksAt A =
    (program : Ask A) (store other : Store) → AllSayTheSame store other (looks program store) →
    (run program other ≡ run program store) × (looks program other ≡ looks program store)

-- a look at segments changes no value
abbrev pub SegmentsAreLookedAt : Type 0 → Type 0
SegmentsAreLookedAt A =
    (segments : List ℕ) (program : Ask A) (store : Store) →
    (run (read_segments segments program) store ≡ run program store) × (looks (read_segments segments program) store ≡ map SegmentAt segments ++ looks program store)
