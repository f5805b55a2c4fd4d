-- The words of the headline over the logs of a disk are the disk's; what is witnessed along a run tells its lines and makes its disk.
use Rattle.std.proofs.Common.{◌≡◌, ℕ, true, false, if◌then◌else◌, List, [], ◌∷◌, ◌++◌, Option, Some, None, refl, sym, ap, ◌∙◌, append_assoc, append-nil}
use Rattle.std.proofs.lemmas.List.Elements.{filter_map-append}
use Rattle.frang_base.specs.declared.limits.TheConstants.{SECTOR_BYTES, SEGMENTS_MAX}
use Rattle.frang_base.specs.declared.reply.Reply.{Reply}
use Rattle.frang_base.specs.declared.said.Said.{Said}
use Rattle.std.specs.List.{slice_get, cons_option}
use Rattle.sector_bytes.specs.Bytes.{zeros}
use Rattle.sector_bytes.specs.SectorMaps.{value_at}
use Rattle.sector_bytes.specs.Sectors.{Sectors}
use Rattle.disk_definitions.specs.declared.param.Param.{Param}
use Rattle.disk_definitions.specs.Params.{param_in}
use Rattle.disk_definitions.specs.Regions.{region_of}
use Rattle.disk_definitions.specs.Replay.{is_log, with_logs}
use Rattle.core_definitions.specs.Cores.{Core, due_at, stage, tree_lines}
use Rattle.core_definitions.specs.Effects.{Deed, Says, deeds_of, deeds_of_arrival, disk_after, disk_from, reply_by, says_answer, says_node, says_recovered}
use Rattle.core_definitions.specs.Events.{Event, Begin, Ask, Fetch, Again, Clear, Commit, Answer, Give, Issue, Doom, Resume, Arrive, Lose, Die, Renew, Tick, Recover, Load, Look, Finish, HostLine, Close, Read, Show, End, Heard, Nothing, Got, GetFailed, Written, Late, PutFailed}
use Rattle.core_definitions.specs.Flights.{Flight}
use Rattle.core_definitions.specs.Lines.{Under}
use Rattle.core_definitions.specs.Recoveries.{Recovery}
use Rattle.core_definitions.specs.Runs.{State as RunMoment, Step, Event_, Enter, Hold, Flush, Relock, Note, Peek, PeekFails, Stays, Goes, said_by, saids_of}
use Rattle.headline_definitions.specs.AllLogs.{disk_logs, laid_over}
use Rattle.headline_definitions.specs.Meaning.{GreatestIsTheDisks, ReplayedIsTheDisks, WitnessedTellsTheDisk, WitnessedTellsTheLines}
use Rattle.headline_definitions.specs.Runs.{witnessed_at, witnessed_by, witnessed_in, witnessed_of_arrival}
use Rattle.headline_definitions.specs.Witnessed.{Witnessed, disk_behind, disk_by, said_in, saids_in, told}

-- ---- the logs of a disk

pub greatest_is : GreatestIsTheDisks
greatest_is disk server = refl

laid_is : (param : Option Param) (disk : Sectors) → laid_over disk_logs param disk ≡ with_logs param disk
laid_is None disk = refl
laid_is (Some param) disk = refl

pub replayed_is : ReplayedIsTheDisks
replayed_is disk sector = ap (λ (laid : Sectors). if is_log (region_of SEGMENTS_MAX sector) then zeros SECTOR_BYTES else laid sector) (laid_is (param_in (disk 0)) disk)

-- ---- lines

lines_told : (deeds : List Deed) → saids_in (told deeds) ≡ saids_of deeds
lines_told [] = refl
lines_told (deed ∷ deeds) = ap (cons_option (said_by deed)) (lines_told deeds)

arrival_tells : (now : ℕ) (heard : Heard) (o : Option Flight) → saids_in (witnessed_of_arrival now heard o) ≡ saids_of (deeds_of_arrival now heard o)
arrival_tells now heard None = refl
arrival_tells now Nothing (Some flight) = refl
arrival_tells now (Got block) (Some flight) = refl
arrival_tells now GetFailed (Some flight) = refl
arrival_tells now Written (Some flight) = refl
arrival_tells now Late (Some flight) = refl
arrival_tells now (PutFailed true) (Some flight) = refl
arrival_tells now (PutFailed false) (Some flight) = refl

event_tells : (c : Core) (event : Event) (heard : Heard) → saids_in (witnessed_by c event heard) ≡ saids_of (deeds_of c event heard)
event_tells c (Begin a) heard = lines_told (deeds_of c (Begin a) heard)
event_tells c (Ask a lock mode) heard = lines_told (deeds_of c (Ask a lock mode) heard)
event_tells c (Fetch a sector) heard = lines_told (deeds_of c (Fetch a sector) heard)
event_tells c (Again a) heard = lines_told (deeds_of c (Again a) heard)
event_tells c (Clear a block) heard = lines_told (deeds_of c (Clear a block) heard)
event_tells c (Commit a) heard = lines_told (deeds_of c (Commit a) heard)
event_tells c (Answer a) heard = lines_told (deeds_of c (Answer a) heard)
event_tells c (Give a lock) heard = lines_told (deeds_of c (Give a lock) heard)
event_tells c (Issue a sector) heard = lines_told (deeds_of c (Issue a sector) heard)
event_tells c (Doom a) heard = lines_told (deeds_of c (Doom a) heard)
event_tells c (Resume a) heard = lines_told (deeds_of c (Resume a) heard)
event_tells c (Arrive ticket) heard = arrival_tells c.now heard (value_at c.flights ticket)
event_tells c (Lose ticket) heard = lines_told (deeds_of c (Lose ticket) heard)
event_tells c (Die a) heard = lines_told (deeds_of c (Die a) heard)
event_tells c (Renew a) heard = lines_told (deeds_of c (Renew a) heard)
event_tells c Tick heard = lines_told (deeds_of c Tick heard)
event_tells c (Recover dead by) heard = lines_told (deeds_of c (Recover dead by) heard)
event_tells c (Load by slot) heard = lines_told (deeds_of c (Load by slot) heard)
event_tells c (Look by sector) heard = lines_told (deeds_of c (Look by sector) heard)
event_tells c (Finish by) heard = lines_told (deeds_of c (Finish by) heard)
event_tells c (HostLine number) heard = lines_told (deeds_of c (HostLine number) heard)
event_tells c (Close a) heard = lines_told (deeds_of c (Close a) heard)
event_tells c (Read sector) heard = lines_told (deeds_of c (Read sector) heard)
event_tells c (Show place) heard = lines_told (deeds_of c (Show place) heard)
event_tells c End heard = lines_told (deeds_of c End heard)

step_tells : (s v : RunMoment) (step : Step s v) → saids_of v.record_ ≡ saids_of s.record_ ++ saids_in (witnessed_at s v step)
step_tells s v (Event_ event heard makes) = filter_map-append said_by s.record_ (deeds_of s.core event heard) ∙ ap (λ l. saids_of s.record_ ++ l) (sym (event_tells s.core event heard))
step_tells s v (Enter a line is) = sym (append-nil (saids_of s.record_))
step_tells s v (Hold a on is) = sym (append-nil (saids_of s.record_))
step_tells s v (Flush a is) = sym (append-nil (saids_of s.record_))
step_tells s v (Relock locks going are same wait) = sym (append-nil (saids_of s.record_))
step_tells s v (Note line may) = filter_map-append said_by s.record_ (Says line ∷ [])
step_tells s v (Peek sector going) = sym (append-nil (saids_of s.record_))
step_tells s v (PeekFails sector going) = sym (append-nil (saids_of s.record_))

pub tells_lines : WitnessedTellsTheLines
tells_lines s v Stays = sym (append-nil (saids_of s.record_))
tells_lines s w (Goes {v = v} step run) =
    tells_lines v w run ∙ ap (λ l. l ++ saids_in (witnessed_in v w run)) (step_tells s v step)
    ∙ append_assoc (saids_of s.record_) (saids_in (witnessed_at s v step)) (saids_in (witnessed_in v w run))
    ∙ ap (λ l. saids_of s.record_ ++ l) (sym (filter_map-append said_in (witnessed_at s v step) (witnessed_in v w run)))

-- ---- the disk

behind_both : (disk : Sectors) (xs ys : List Witnessed) → disk_behind disk (xs ++ ys) ≡ disk_behind (disk_behind disk xs) ys
behind_both disk [] ys = refl
behind_both disk (x ∷ xs) ys = behind_both (disk_by disk x) xs ys

answer_leaves : (disk : Sectors) (a : ℕ) (under : Option Under) (answer : Option Reply) → disk ≡ disk_behind disk (told (says_answer a under answer))
answer_leaves disk a None None = refl
answer_leaves disk a None (Some answer) = refl
answer_leaves disk a (Some under) None = refl
answer_leaves disk a (Some under) (Some answer) = refl

recovered_leaves : (disk : Sectors) (c : Core) (recovery : Option Recovery) → disk ≡ disk_behind disk (told (says_recovered c recovery))
recovered_leaves disk c None = refl
recovered_leaves disk c (Some recovery) = refl

node_leaves : (disk : Sectors) (line : Option Said) → disk ≡ disk_behind disk (told (says_node line))
node_leaves disk None = refl
node_leaves disk (Some line) = refl

arrival_makes : (disk : Sectors) (now : ℕ) (heard : Heard) (o : Option Flight) → disk_from disk heard o ≡ disk_behind disk (witnessed_of_arrival now heard o)
arrival_makes disk now heard None = refl
arrival_makes disk now Nothing (Some flight) = refl
arrival_makes disk now (Got block) (Some flight) = refl
arrival_makes disk now GetFailed (Some flight) = refl
arrival_makes disk now Written (Some flight) = refl
arrival_makes disk now Late (Some flight) = refl
arrival_makes disk now (PutFailed true) (Some flight) = refl
arrival_makes disk now (PutFailed false) (Some flight) = refl

event_makes : (disk : Sectors) (c : Core) (event : Event) (heard : Heard) → disk_after c disk event heard ≡ disk_behind disk (witnessed_by c event heard)
event_makes disk c (Begin a) heard = refl
event_makes disk c (Ask a lock mode) heard = refl
event_makes disk c (Fetch a sector) heard = refl
event_makes disk c (Again a) heard = refl
event_makes disk c (Clear a block) heard = refl
event_makes disk c (Commit a) heard = answer_leaves disk a (c.servers a).under (reply_by (stage c a))
event_makes disk c (Answer a) heard = answer_leaves disk a (c.servers a).under (due_at c a)
event_makes disk c (Give a lock) heard = refl
event_makes disk c (Issue a sector) heard = refl
event_makes disk c (Doom a) heard = refl
event_makes disk c (Resume a) heard = refl
event_makes disk c (Arrive ticket) heard = arrival_makes disk c.now heard (value_at c.flights ticket)
event_makes disk c (Lose ticket) heard = refl
event_makes disk c (Die a) heard = refl
event_makes disk c (Renew a) heard = refl
event_makes disk c Tick heard = refl
event_makes disk c (Recover dead by) heard = refl
event_makes disk c (Load by slot) heard = refl
event_makes disk c (Look by sector) heard = refl
event_makes disk c (Finish by) heard = recovered_leaves disk c (c.servers by).recovery
event_makes disk c (HostLine number) heard = refl
event_makes disk c (Close a) heard = refl
event_makes disk c (Read sector) heard = refl
event_makes disk c (Show place) heard = node_leaves disk (slice_get (tree_lines c) place)
event_makes disk c End heard = refl

step_makes : (s v : RunMoment) (step : Step s v) → v.disk ≡ disk_behind s.disk (witnessed_at s v step)
step_makes s v (Event_ event heard makes) = event_makes s.disk s.core event heard
step_makes s v (Enter a line is) = refl
step_makes s v (Hold a on is) = refl
step_makes s v (Flush a is) = refl
step_makes s v (Relock locks going are same wait) = refl
step_makes s v (Note line may) = refl
step_makes s v (Peek sector going) = refl
step_makes s v (PeekFails sector going) = refl

pub makes_disk : WitnessedTellsTheDisk
makes_disk s v Stays = refl
makes_disk s w (Goes {v = v} step run) =
    makes_disk v w run ∙ ap (λ disk. disk_behind disk (witnessed_in v w run)) (step_makes s v step) ∙ sym (behind_both s.disk (witnessed_at s v step) (witnessed_in v w run))
