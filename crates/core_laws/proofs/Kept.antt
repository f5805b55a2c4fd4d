-- No event changes the setting, so that it is the same over every run.
use Rattle.std.proofs.Common.{ℕ, ◌≡◌, ◌==◌, ◌∙◌, Bool, true, false, if◌then◌else◌, Option, Some, None, refl}
use Rattle.frang_base.specs.declared.op.Op.{Op}
use Rattle.frang_base.specs.declared.reply.Reply.{Reply}
use Rattle.frang_base.specs.declared.script.Line.{Line}
use Rattle.frang_base.specs.declared.lock.LockId.{LockId}
use Rattle.lock_definitions.specs.Calls.{asked_for}
use Rattle.lock_definitions.specs.declared.claim.AskedFor.{AskedFor}
use Rattle.lock_definitions.specs.declared.claim.AskedFor.TheVariants.{Release, Downgrade}
use Rattle.sector_bytes.specs.SectorMaps.{value_at}
use Rattle.sector_bytes.specs.Sectors.{Sectors}
use Rattle.core_definitions.specs.Settings.{Setting}
use Rattle.core_definitions.specs.Flights.{Flight}
use Rattle.core_definitions.specs.Lines.{Stage, Asking, Fetching, Moving, Stopping, Growing, Clearing, Finishing, Under, operation_of}
use Rattle.core_definitions.specs.Recoveries.{Recovery}
use Rattle.core_definitions.specs.Scripts.{host_party}
use Rattle.core_definitions.specs.Servers.{Phase, Off, Up, Still, Doomed, Dead, is_off}
use Rattle.core_definitions.specs.Writes.{Write}
use Rattle.core_definitions.specs.Cores.{Core, clean_at, due_at, next_of, stage, writes}
use Rattle.core_definitions.specs.Events.{Event, Begin, Ask, Fetch, Again, Clear, Commit, Answer, Give, Issue, Doom, Resume, Arrive, Lose, Die, Renew, Tick, Recover, Load, Look, Finish, HostLine, Close, Read, Show, End, Heard, Nothing, Got, GetFailed, Written, Late, PutFailed}
use Rattle.core_definitions.specs.LineEffects.{answered_under, answered_with, call_failed, committed_at, fetch_failed}
use Rattle.core_definitions.specs.WriteEffects.{arrived_as, arrived_from, died_in, given_for, issued_as, landed}
use Rattle.core_definitions.specs.EndEffects.{finished_from, host_answered_line}
use Rattle.core_definitions.specs.Effects.{after}
use Rattle.core_definitions.specs.Runs.{State, Step, Event_, Enter, Hold, Flush, Relock, Note, Peek, PeekFails, Run, first_state}
use Rattle.core_laws.proofs.Along.{along}

either : (b : Bool) (c d e : Core) → d.setting ≡ c.setting → e.setting ≡ c.setting → (if b then d else e).setting ≡ c.setting
either true c d e x y = x
either false c d e x y = y

failed : (c d : Core) (a : ℕ) → d.setting ≡ c.setting → (call_failed d a).setting ≡ c.setting
failed c d a e = either (a == host_party) c _ _ e e

fetch_fails : (c : Core) (a : ℕ) → (fetch_failed c a).setting ≡ c.setting
fetch_fails c a = either (is_off (c.servers a).phase) c _ _ refl (failed c c a refl)

committed : (c : Core) (a : ℕ) (at : Option Stage) → (committed_at c a at).setting ≡ c.setting
committed c a None = refl
committed c a (Some (Asking need)) = refl
committed c a (Some (Fetching needs)) = refl
committed c a (Some Moving) = refl
committed c a (Some Stopping) = refl
committed c a (Some (Growing needs seen)) = refl
committed c a (Some (Clearing block)) = refl
committed c a (Some (Finishing outcome)) = refl

answered_so : (c : Core) (a : ℕ) (u : Under) (r : Reply) (o : Option Op) → (answered_with c a u r o).setting ≡ c.setting
answered_so c a u r None = refl
answered_so c a u r (Some o) = refl

answered : (c : Core) (a : ℕ) (u : Option Under) (r : Option Reply) → (answered_under c a u r).setting ≡ c.setting
answered c a None None = refl
answered c a None (Some r) = refl
answered c a (Some u) None = refl
answered c a (Some u) (Some r) = answered_so c a u r (operation_of u.line.what)

given : (c : Core) (a : ℕ) (lock : LockId) (o : Option AskedFor) → (given_for c a lock o).setting ≡ c.setting
given c a lock None = refl
given c a lock (Some Downgrade) = refl
given c a lock (Some Release) = refl

issued : (c : Core) (a sector : ℕ) (o : Option Write) → (issued_as c a sector o).setting ≡ c.setting
issued c a sector None = refl
issued c a sector (Some write) = refl

arrived_so : (c : Core) (ticket : ℕ) (flight : Flight) (heard : Heard) → (arrived_as (landed c ticket) flight heard).setting ≡ c.setting
arrived_so c ticket flight Nothing = refl
arrived_so c ticket flight (Got block) = refl
arrived_so c ticket flight GetFailed = refl
arrived_so c ticket flight Written = either flight.present c _ _ refl refl
arrived_so c ticket flight Late = refl
arrived_so c ticket flight (PutFailed new) = failed c (landed c ticket) flight.server refl

arrived : (c : Core) (ticket : ℕ) (heard : Heard) (o : Option Flight) → (arrived_from c ticket heard o).setting ≡ c.setting
arrived c ticket heard None = refl
arrived c ticket heard (Some flight) = arrived_so c ticket flight heard

died : (c : Core) (a : ℕ) (p : Phase) → (died_in c a p).setting ≡ c.setting
died c a Off = refl
died c a Up = refl
died c a Still = refl
died c a (Doomed fate) = refl
died c a Dead = refl

finished : (c : Core) (by : ℕ) (o : Option Recovery) → (finished_from c by o).setting ≡ c.setting
finished c by None = refl
finished c by (Some recovery) = refl

host : (c : Core) (o : Option Line) → (host_answered_line c o).setting ≡ c.setting
host c None = refl
host c (Some line) = refl

fetch : (c : Core) (a sector : ℕ) (heard : Heard) → (after c (Fetch a sector) heard).setting ≡ c.setting
fetch c a sector (Got block) = refl
fetch c a sector Nothing = fetch_fails c a
fetch c a sector GetFailed = fetch_fails c a
fetch c a sector Written = fetch_fails c a
fetch c a sector Late = fetch_fails c a
fetch c a sector (PutFailed new) = fetch_fails c a

load : (c : Core) (by slot : ℕ) (heard : Heard) → (after c (Load by slot) heard).setting ≡ c.setting
load c by slot (Got block) = refl
load c by slot Nothing = failed c c by refl
load c by slot GetFailed = failed c c by refl
load c by slot Written = failed c c by refl
load c by slot Late = failed c c by refl
load c by slot (PutFailed new) = failed c c by refl

look : (c : Core) (by sector : ℕ) (heard : Heard) → (after c (Look by sector) heard).setting ≡ c.setting
look c by sector (Got block) = refl
look c by sector Nothing = failed c c by refl
look c by sector GetFailed = failed c c by refl
look c by sector Written = failed c c by refl
look c by sector Late = failed c c by refl
look c by sector (PutFailed new) = failed c c by refl

read : (c : Core) (sector : ℕ) (heard : Heard) → (after c (Read sector) heard).setting ≡ c.setting
read c sector (Got block) = refl
read c sector Nothing = failed c c host_party refl
read c sector GetFailed = failed c c host_party refl
read c sector Written = failed c c host_party refl
read c sector Late = failed c c host_party refl
read c sector (PutFailed new) = failed c c host_party refl

pub setting_kept : (c : Core) (event : Event) (heard : Heard) → (after c event heard).setting ≡ c.setting
setting_kept c (Begin a) heard = refl
setting_kept c (Ask a lock mode) heard = refl
setting_kept c (Fetch a sector) heard = fetch c a sector heard
setting_kept c (Again a) heard = refl
setting_kept c (Clear a block) heard = refl
setting_kept c (Commit a) heard = committed c a (stage c a)
setting_kept c (Answer a) heard = answered c a (c.servers a).under (due_at c a)
setting_kept c (Give a lock) heard = given c a lock (asked_for c.locks a lock)
setting_kept c (Issue a sector) heard = issued c a sector (value_at (writes c a) sector)
setting_kept c (Doom a) heard = refl
setting_kept c (Resume a) heard = refl
setting_kept c (Arrive ticket) heard = arrived c ticket heard (value_at c.flights ticket)
setting_kept c (Lose ticket) heard = refl
setting_kept c (Die a) heard = died c a (c.servers a).phase
setting_kept c (Renew a) heard = refl
setting_kept c Tick heard = refl
setting_kept c (Recover dead by) heard = refl
setting_kept c (Load by slot) heard = load c by slot heard
setting_kept c (Look by sector) heard = look c by sector heard
setting_kept c (Finish by) heard = finished c by (c.servers by).recovery
setting_kept c (HostLine number) heard = host c (next_of c host_party)
setting_kept c (Close a) heard = either (clean_at c a) c _ _ refl refl
setting_kept c (Read sector) heard = read c sector heard
setting_kept c (Show place) heard = refl
setting_kept c End heard = refl

step_keeps : (s v : State) → Step s v → v.core.setting ≡ s.core.setting
step_keeps s v (Event_ event heard makes) = setting_kept s.core event heard
step_keeps s v (Enter a line can) = refl
step_keeps s v (Hold a on may) = refl
step_keeps s v (Flush a may) = refl
step_keeps s v (Relock locks going are same wait) = refl
step_keeps s v (Note line may) = refl
step_keeps s v (Peek sector going) = refl
step_keeps s v (PeekFails sector going) = refl

pub setting_of_run : (setting : Setting) (disk : Sectors) (s : State) → Run (first_state setting disk) s → s.core.setting ≡ setting
setting_of_run setting disk = along setting disk (λ s. s.core.setting ≡ setting) (λ s v run step same. step_keeps s v step ∙ same) refl
