-- What a world began with stays; so what a history of lines asks of its first disk holds along each run of a world that began over the disk of an opening.
use Rattle.std.specs.Prelude.{◌≡◌, ◌<◌, ◌+◌, ℕ, List, [], length}
use Rattle.frang_base.specs.declared.limits.TheConstants.{RUN_VERSIONS_MAX, SERVERS}
use Rattle.tree_definitions.specs.History.{Opening}
use Rattle.sector_bytes.specs.Sectors.{Sectors}
use Rattle.sector_world.specs.Steps.{Event, Run, after}
use Rattle.sector_world.specs.World.{World}
use Rattle.disk_definitions.specs.Meets.{directory_blocks_in}
use Rattle.line_histories.specs.Following.{store_after}
use Rattle.core_world.specs.Events.{first_world}
use Rattle.headline_definitions.specs.Beginning.{IsOpening}
use Rattle.opening_laws.specs.FirstDisks.{IsFirstDisk, opened_files, opened_home, opened_logged, opened_world}

-- one world began as the other: with these sectors, of which these have versions and these have bytes of files, under these locks
pub record IsSameStart (w u : World) : Type 0 where
  pub servers : u.servers ≡ w.servers
  pub opening : u.opening ≡ w.opening
  pub logged : u.logged ≡ w.logged
  pub first : u.first ≡ w.first
  pub home : u.home ≡ w.home

-- every event leaves that
abbrev pub EventsKeepStarts : Type 0
EventsKeepStarts = (w : World) (e : Event) → IsSameStart w (after w e)

-- so does every run
abbrev pub RunsKeepStarts : Type 0
RunsKeepStarts = (w u : World) (events : List Event) → Run w events u → IsSameStart w u

-- the servers' world over the disk of an opening, by the naming under which it stands for the tree
abbrev pub world_on : (opening : Opening) (disk : Sectors) → IsOpening opening disk → World
world_on opening disk is = opened_world SERVERS opening.tree.segments is.stands.naming disk

-- the first moment of the core has a world that began so
abbrev pub FirstMomentsBeginSo : Type 0
FirstMomentsBeginSo =
    (opening : Opening) (disk : Sectors) (is : IsOpening opening disk) → let segments = opening.tree.segments in
    IsSameStart (world_on opening disk is) (first_world disk (opened_logged segments disk) (opened_files segments disk) (opened_home segments is.stands.naming))

-- its first disk is one of a history of lines, and of its blocks so many are or were a directory's as the opening counts
pub record IsCountedDisk (opening : Opening) (numbers : List ℕ) (w : World) : Type 0 where
  pub first : IsFirstDisk opening.tree.segments numbers opening.tree w
  pub counted : directory_blocks_in (store_after opening.tree.segments w.opening []) opening.tree.segments ≡ opening.dir_blocks

-- so it is of each world that began so
abbrev pub WorldsAreOverCountedDisks : Type 0
WorldsAreOverCountedDisks =
    (opening : Opening) (disk : Sectors) (is : IsOpening opening disk) (numbers : List ℕ) (w : World) → IsSameStart (world_on opening disk is) w → 1 + length numbers < RUN_VERSIONS_MAX →
    IsCountedDisk opening numbers w
