-- What a computation looks at in order, beside what it comes to, with some sectors at hand; and how traces go on.
use Rattle.std.specs.Prelude.{◌≡◌, Bool, true, false, if◌then◌else◌, Option, Some, None, List, [], ◌∷◌, ◌++◌}
use Rattle.disk_definitions.specs.Ask.{Sector, InodeAt, DirectoryAt, SegmentAt, BytesAt, LargeAt, Ask, Got, ReadInode, ReadDirectory, ReadSegment, ReadBytes, ReadLarge, AtHand, Met, bind, meet}
use Rattle.disk_definitions.specs.Ask.Met.{Needs, Has}

-- the sectors at hand at which it looks, in order; and its value, or the first sector that it needs and that isn't at hand
pub record Traced (A : Type 0) : Type 0 where
  pub looked : List Sector
  pub met : Met A

-- nothing was looked at before this sector, which isn't at hand
abbrev pub needs : {A : Type 0} → Sector → Traced A
needs sector = record { looked = []; met = Needs sector }

-- this sector was looked at first
abbrev pub behind : {A : Type 0} → Sector → Traced A → Traced A
behind sector rest = record { looked = sector ∷ rest.looked; met = rest.met }

abbrev pub by_said : {X A : Type 0} → Sector → Option X → (X → Traced A) → Traced A
by_said sector None next = needs sector
by_said sector (Some said) next = behind sector (next said)

abbrev pub traced : {A : Type 0} → Ask A → AtHand → Traced A
traced (Got value) known = record { looked = []; met = Has value }
traced (ReadInode inode next) known = by_said (InodeAt inode) (known.inode inode) (λ said. traced (next said) known)
traced (ReadDirectory block part next) known = by_said (DirectoryAt block part) (known.directory block part) (λ said. traced (next said) known)
traced (ReadSegment segment next) known = if known.segment segment then behind (SegmentAt segment) (traced next known) else needs (SegmentAt segment)
traced (ReadBytes block part next) known = by_said (BytesAt block part) (known.bytes block part) (λ said. traced (next said) known)
traced (ReadLarge large part next) known = by_said (LargeAt large part) (known.large large part) (λ said. traced (next said) known)

-- these were looked at before, and then it goes on by the value
abbrev pub on_from : {A B : Type 0} → List Sector → Met A → (A → Traced B) → Traced B
on_from looked (Needs sector) next = record { looked = looked; met = Needs sector }
on_from looked (Has value) next = record { looked = looked ++ (next value).looked; met = (next value).met }

-- one trace, and then another by its value
abbrev pub then_traced : {A B : Type 0} → Traced A → (A → Traced B) → Traced B
then_traced first next = on_from first.looked first.met next

-- file bytes have no version
abbrev pub has_version : Sector → Bool
has_version (InodeAt inode) = true
has_version (DirectoryAt block part) = true
has_version (SegmentAt segment) = true
has_version (BytesAt block part) = false
has_version (LargeAt segment part) = false

-- ---- how traces go on

-- the trace of one computation and then another is that of the first, and then that of the second by its value
abbrev pub TracesGoOn : Type 0 → Type 0 → Type 0
TracesGoOn A B =
    (first : Ask A) (second : A → Ask B) (known : AtHand) → traced (bind first second) known ≡ then_traced (traced first known) (λ value. traced (second value) known)

-- what it comes to is what the computation meets
abbrev pub TracesMeet : Type 0 → Type 0
TracesMeet A = (program : Ask A) (known : AtHand) → (traced program known).met ≡ meet program known
