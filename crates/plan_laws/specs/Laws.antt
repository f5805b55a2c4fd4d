-- How traces go on, and which looks they are.
use Rattle.std.specs.Prelude.{◌≡◌, ℕ, true, false, List, ◌++◌, map}
use Rattle.std.specs.List.{Contains, take_while}
use Rattle.disk_definitions.specs.Store.{Store}
use Rattle.disk_definitions.specs.Ask.{Sector, SegmentAt, Ask, AtHand, bind, looks, meet, read_segments}
use Rattle.disk_definitions.specs.Ask.Met.{Needs}
use Rattle.disk_definitions.specs.Missing.{is_at_hand}
use Rattle.plan_laws.specs.Inside.{AgreesWhereAll}
use Rattle.disk_definitions.specs.Traces.{traced, then_traced}

-- segments that are all at hand come in front
abbrev pub SegmentsAreTraced : Type 0 → Type 0
SegmentsAreTraced A =
    (segments : List ℕ) (program : Ask A) (known : AtHand) → ((segment : ℕ) → Contains segments segment → known.segment segment ≡ true) →
    traced (read_segments segments program) known
    ≡ record { looked = map SegmentAt segments ++ (traced program known).looked; met = (traced program known).met }

-- what was looked at is at hand, and what is needed isn't
abbrev pub TracedIsAtHand : Type 0 → Type 0
TracedIsAtHand A =
    (program : Ask A) (known : AtHand) (sector : Sector) →
    (Contains (traced program known).looked sector → is_at_hand known sector ≡ true)
    × ((traced program known).met ≡ Needs sector → is_at_hand known sector ≡ false)

-- where what is at hand of the sectors of a trace is a disk's, these are the computation's looks over the disk, up to the first that isn't at hand
abbrev pub TracesFollowLooks : Type 0 → Type 0
TracesFollowLooks A =
    (program : Ask A) (known : AtHand) (store : Store) → AgreesWhereAll known store (traced program known).looked →
    (traced program known).looked ≡ take_while (is_at_hand known) (looks program store)
