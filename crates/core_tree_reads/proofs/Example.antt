-- A run of an empty script over a fresh disk, computed: the host reads the root's inode, which shows no more to be needed, says its line, and the end.
use Rattle.std.proofs.Common.{◌≡◌, ℕ, List, [], ◌∷◌, ◌++◌, length, nat_lt, codes, refl, sym, ap}
use Rattle.std.specs.List.{slice_get}
use Rattle.frang_base.specs.declared.said.Said.{Said}
use Rattle.frang_base.specs.declared.said.Said.TheVariants as said
use Rattle.disk_definitions.specs.Regions.{sector_of}
use Rattle.disk_definitions.specs.declared.region.Region.TheVariants as region
use Rattle.sector_bytes.specs.Bytes.{zeros}
use Rattle.core_definitions.specs.Cores.{tree_lines, tree_needs}
use Rattle.core_definitions.specs.EndGuards.{IsTreeRead}
use Rattle.core_definitions.specs.Effects.{Says, says_node}
use Rattle.core_definitions.specs.Events.{End, Got, Nothing, Read, Show}
use Rattle.core_definitions.specs.Logs.{is_none}
use Rattle.core_definitions.specs.Opening.{moment_of}
use Rattle.core_definitions.specs.Runs.{State, Stays, Goes, Event_, Makes, next, saids_of}
use Rattle.core_tree_reads.specs.Examples.{ReadsTheTree, empty_saids, empty_start}

abbrev root : ℕ
root = sector_of (region.Inode 0)

abbrev first : State
first = moment_of empty_start

abbrev read : State
read = next first (Read root) (Got (first.disk root))

abbrev shown : State
shown = next read (Show 0) Nothing

abbrev ended : State
ended = next shown End Nothing

-- what the root's inode shows
needs_none : tree_needs read.core ≡ []
unfolding zeros
needs_none = refl

lines_are : tree_lines read.core ≡ said.Node (codes "/") 2 0 0 ∷ []
unfolding zeros
lines_are = refl

reads : Makes first (Read root) (Got (first.disk root))
reads = record { can = record { going = refl; can = record { answered = refl; off = refl; landed = refl; free = refl; needed = refl } }; hears = refl }

is_read : IsTreeRead read.core
is_read = record { answered = refl; off = refl; landed = refl; free = refl; whole = ap (λ l. is_none l) needs_none }

shows : Makes read (Show 0) Nothing
shows = record { can = record { going = refl; can = record { read = is_read; next = refl; there = ap (λ (l : List Said). nat_lt 0 (length l)) lines_are } }; hears = refl }

ends : Makes shown End Nothing
ends = record {
  can = record {
    going = refl;
    can = record { read = record { answered = refl; off = refl; landed = refl; free = refl; whole = ap (λ l. is_none l) needs_none }; said = sym (ap (λ (l : List Said). length l) lines_are) };
  };
  hears = refl;
}

pub reads_the_tree : ReadsTheTree empty_saids
reads_the_tree = record {
  own = tt;
  moment = ended;
  run = Goes (Event_ (Read root) (Got (first.disk root)) reads) (Goes (Event_ (Show 0) Nothing shows) (Goes (Event_ End Nothing ends) Stays));
  read = refl;
  says = ap (λ (l : List Said). saids_of (says_node (slice_get l 0) ++ Says said.End ∷ [])) lines_are;
  disk = refl;
}
