-- Where lines stay on the disk: each put of the record is of a sector of the disk, and a sector in no region stays as it was; on a fresh disk that is zero.
use Rattle.std.proofs.Common.{◌≡◌, ℕ, ◌≤◌, ◌*◌, ◌==◌, Bool, true, false, if◌then◌else◌, IsTrue, is_some, List, [], ◌∷◌, ◌++◌, Some, None, nat_lt, refl, sym, ap, ◌∙◌, subst, arith}
use Rattle.std.proofs.lemmas.Bool.{eqb-true, false≢true}
use Rattle.std.proofs.lemmas.Bool.Decides.{nat_tests}
use Rattle.std.proofs.lemmas.List.Elements.{All-append, All-cons, All-from_recursion, All-nil, All-same}
use Rattle.std.proofs.lemmas.Option.{none-some}
use Rattle.std.specs.List.{All, AllByRecursion}
use Rattle.frang_base.specs.declared.limits.TheConstants.{ROOT_INODE}
use Rattle.frang_base.specs.declared.script.Line.{Line}
use Rattle.frang_outside.specs.Disk.{written}
use Rattle.disk_definitions.proofs.RegionLaws.{region_found}
use Rattle.disk_definitions.specs.FreshDisk.{fresh_param}
use Rattle.disk_definitions.specs.Params.{param_fits}
use Rattle.disk_definitions.specs.Regions.{region_of}
use Rattle.disk_definitions.specs.declared.region.Region.TheVariants as region
use Rattle.sector_bytes.specs.Blocks.{Block, zero_block}
use Rattle.sector_bytes.specs.SectorMaps.{value_at}
use Rattle.sector_bytes.specs.Sectors.{Sectors}
use Rattle.core_definitions.specs.Cores.{Core}
use Rattle.core_definitions.specs.Effects.{Deed, deeds_of_put, disk_with}
use Rattle.core_definitions.specs.Events.{Begin, Heard, Nothing, Got, GetFailed, Written, Late, PutFailed}
use Rattle.core_definitions.specs.Flights.{Flight}
use Rattle.core_definitions.specs.Opening.{Puts, disk_put, fresh_puts, put_over}
use Rattle.core_definitions.specs.Runs.{State, Step, Run, Stays, Goes, Event_, Enter, entered, first_state, next}
use Rattle.core_definitions.specs.Settings.{setting_of}
use Rattle.core_laws.proofs.Along.{longer}
use Rattle.run_laws.specs.Regions.{Begins, FreshPutsAreOnDisk, OthersAreZero, OthersStay, PutsStayOnDisk, mount_line, mounting}
use Rattle.run_laws.specs.Writing.{IsOfDisk, LinesStayOnDisk, PutsOnDisk, StaysOnDisk}
use Rattle.run_laws.proofs.Placing.{Kept, at_first, flight_on_disk, on_disk_step}
use Rattle.run_laws.proofs.Steps.{Leaves, NoDeed, LineSaid, WriteMade, StepLeaves, step_leaves}

-- ---- one step

none_on_disk : (segments sector : ℕ) → region_of segments sector ≡ None → IsOfDisk segments sector → ⊥
none_on_disk segments sector none some = false≢true (sym (ap is_some none) ∙ some)

put_on_disk : (segments now : ℕ) (flight : Flight) (heard : Heard) → IsOfDisk segments flight.sector → All (PutsOnDisk segments) (deeds_of_put now flight heard)
put_on_disk segments now flight Nothing on = All-nil (PutsOnDisk segments)
put_on_disk segments now flight (Got block) on = All-nil (PutsOnDisk segments)
put_on_disk segments now flight GetFailed on = All-nil (PutsOnDisk segments)
put_on_disk segments now flight Written on = All-cons (PutsOnDisk segments) _ [] on (All-nil (PutsOnDisk segments))
put_on_disk segments now flight Late on = All-cons (PutsOnDisk segments) _ [] on (All-nil (PutsOnDisk segments))
put_on_disk segments now flight (PutFailed new) on = All-nil (PutsOnDisk segments)

written_beside : (disk : Sectors) (flight : Flight) (sector : ℕ) → (flight.sector ≡ sector → ⊥) → written disk flight.sector flight.block sector ≡ disk sector
written_beside disk flight sector apart = go (flight.sector == sector) refl
  where
    go : (b : Bool) → (flight.sector == sector) ≡ b → (if b then flight.block else disk sector) ≡ disk sector
    go true e = absurd (apart (eqb-true flight.sector sector e))
    go false e = refl

disk_beside : (disk : Sectors) (flight : Flight) (heard : Heard) (sector : ℕ) → (flight.sector ≡ sector → ⊥) → disk_with disk flight heard sector ≡ disk sector
disk_beside disk flight Nothing sector apart = refl
disk_beside disk flight (Got block) sector apart = refl
disk_beside disk flight GetFailed sector apart = refl
disk_beside disk flight Written sector apart = written_beside disk flight sector apart
disk_beside disk flight Late sector apart = refl
disk_beside disk flight (PutFailed true) sector apart = written_beside disk flight sector apart
disk_beside disk flight (PutFailed false) sector apart = refl

module _ (segments : ℕ) (c : Core) (on : (ticket : ℕ) (flight : Flight) → value_at c.flights ticket ≡ Some flight → IsOfDisk segments flight.sector) where
  deeds_on_disk : (disk behind : Sectors) (deeds : List Deed) → Leaves c disk deeds behind → All (PutsOnDisk segments) deeds
  deeds_on_disk disk behind deeds NoDeed = All-nil (PutsOnDisk segments)
  deeds_on_disk disk behind deeds (LineSaid line) = All-cons (PutsOnDisk segments) _ [] tt (All-nil (PutsOnDisk segments))
  deeds_on_disk disk behind deeds (WriteMade ticket flight heard e) = put_on_disk segments c.now flight heard (on ticket flight e)

  others_after : (disk behind : Sectors) (deeds : List Deed) → Leaves c disk deeds behind → (sector : ℕ) → region_of segments sector ≡ None → behind sector ≡ disk sector
  others_after disk behind deeds NoDeed sector none = refl
  others_after disk behind deeds (LineSaid line) sector none = refl
  others_after disk behind deeds (WriteMade ticket flight heard e) sector none =
      disk_beside disk flight heard sector (λ at. none_on_disk segments sector none (subst (IsOfDisk segments) at (on ticket flight e)))

-- ---- over a run

record Left (segments : ℕ) (disk : Sectors) (s : State) : Type 0 where
  kept : Kept (IsOfDisk segments) segments s.core.servers s.core.flights
  puts : All (PutsOnDisk segments) s.record_
  others : (sector : ℕ) → region_of segments sector ≡ None → s.disk sector ≡ disk sector

module _ (script : List Line) (segments number : ℕ) (disk : Sectors) (few : segments ≤ 64) where
  abbrev first : State
  first = first_state (setting_of script segments number) disk

  left_step : (s v : State) → Run first s → Step s v → LinesStayOnDisk s → Left segments disk s → Left segments disk v
  left_step s v run step lines m = go (step_leaves s v step)
    where
      on : (ticket : ℕ) (flight : Flight) → value_at s.core.flights ticket ≡ Some flight → IsOfDisk segments flight.sector
      on = flight_on_disk segments s.core.servers s.core.flights m.kept

      go : StepLeaves s v → Left segments disk v
      go left = record {
        kept = on_disk_step script segments number disk few s v run step lines m.kept;
        puts = All-same (PutsOnDisk segments) v.record_ (s.record_ ++ left.deeds) left.record_is
            (All-append (PutsOnDisk segments) s.record_ left.deeds m.puts (deeds_on_disk segments s.core on s.disk v.disk left.deeds left.leaves));
        others = λ sector none. others_after segments s.core on s.disk v.disk left.deeds left.leaves sector none ∙ m.others sector none;
      }

  left_from : (s w : State) → Run first s → Left segments disk s → (goes : Run s w) → StaysOnDisk s w goes → Left segments disk w
  left_from s w run m Stays lines = m
  left_from s w run m (Goes {v = v} step goes) lines = left_from v w (longer first s v run step) (left_step s v run step lines.0 m) goes lines.1

  left_of : (s : State) (goes : Run first s) → StaysOnDisk first s goes → Left segments disk s
  left_of s goes lines =
      left_from first s Stays (record { kept = at_first script segments number disk few (IsOfDisk segments); puts = All-nil (PutsOnDisk segments); others = λ sector none. refl }) goes lines

pub puts_stay : PutsStayOnDisk
puts_stay script segments number disk s few goes lines = (left_of script segments number disk few s goes lines).puts

pub others_stay : OthersStay
others_stay script segments number disk s few goes lines = (left_of script segments number disk few s goes lines).others

-- ---- a fresh disk

fresh_fits : (n : ℕ) → IsTrue (param_fits (fresh_param n)) → (1 ≤ n) × (n ≤ 64)
fresh_fits n e = (grind (arith, nat_tests, e), grind (arith, nat_tests, e))

abbrev On : ℕ → ℕ × Block → Type 0
On segments put = IsOfDisk segments put.0

fresh_each : (segments : ℕ) → IsTrue (param_fits (fresh_param segments)) → AllByRecursion (On segments) (fresh_puts segments)
fresh_each segments fits =
    (ap is_some (region_found segments (region.Inode ROOT_INODE) few (root some)), (ap is_some (region_found segments (region.Segment 0) few (segment some)), (refl, tt)))
  where
    some : 1 ≤ segments
    some = (fresh_fits segments fits).0

    few : segments ≤ 64
    few = (fresh_fits segments fits).1

    root : 1 ≤ segments → nat_lt 0 (64 * segments) ≡ true
    root h = grind (arith, nat_tests)

    segment : 1 ≤ segments → nat_lt 0 segments ≡ true
    segment h = grind (arith, nat_tests)

pub fresh_on_disk : FreshPutsAreOnDisk
fresh_on_disk segments fits = All-from_recursion (On segments) (fresh_puts segments) (fresh_each segments fits)

-- a sector that none of the puts is of
beside_puts : (old : Sectors) (puts : Puts) (segments sector : ℕ) → AllByRecursion (On segments) puts → region_of segments sector ≡ None → put_over old puts sector ≡ old sector
beside_puts old [] segments sector all none = refl
beside_puts old (one ∷ puts) segments sector all none =
    beside_puts (written old one.0 one.1) puts segments sector all.1 none ∙ go (one.0 == sector) refl
  where
    go : (b : Bool) → (one.0 == sector) ≡ b → (if b then one.1 else old sector) ≡ old sector
    go true e = absurd (none_on_disk segments sector none (subst (IsOfDisk segments) (eqb-true one.0 sector e) all.0))
    go false e = refl

pub others_zero : OthersAreZero
others_zero script segments s fits goes lines sector none =
    others_stay script segments 1 (disk_put (fresh_puts segments)) s (fresh_fits segments fits).1 goes lines sector none
    ∙ beside_puts (λ x. zero_block) (fresh_puts segments) segments sector (fresh_each segments fits) none

-- ---- a run that meets the premise

pub begins : Begins
begins = record {
  moment = next (entered mounting 1) (Begin 0) Nothing;
  goes = Goes enter (Goes begin Stays);
  stays = ((λ a at e sector i. absurd (none-some at e)), ((λ a at e sector i. absurd (none-some at e)), tt));
}
  where
    enter : Step mounting (entered mounting 1)
    enter = Enter 0 mount_line (record { going = refl; server = refl; next = refl; waits = refl })

    begin : Step (entered mounting 1) (next (entered mounting 1) (Begin 0) Nothing)
    begin = Event_ (Begin 0) Nothing (record {
      can = record {
        going = refl;
        can = record { server = refl; next = refl; idle = refl; hosts = refl; phase = refl; passed = refl; free = refl };
      };
      hears = refl;
    })
