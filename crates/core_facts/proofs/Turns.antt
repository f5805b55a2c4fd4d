-- What each step makes of the clock, the servers, the locks, the writes in flight and the disk, by its cases, with what is known where it comes. The events are gone through here, once;
-- what holds over every run is shown by these cases.
use Rattle.std.proofs.Common.{◌≡◌, ℕ, ◌⊎◌, inl, inr, ◌≤◌, ◌<◌, ◌+◌, ◌==◌, Bool, true, false, not, ◌&&◌, ◌||◌, if◌then◌else◌, IsTrue, is_some, List, [], ◌∷◌, ◌++◌, Option, Some, None, refl, sym, ap, ◌∙◌, subst}
use Rattle.std.specs.Option.{option_map}
use Rattle.std.proofs.lemmas.Bool.{false≢true}
use Rattle.std.proofs.lemmas.Option.{same_Some, none-some}
use Rattle.frang_base.specs.Functions.{member, put}
use Rattle.frang_base.specs.declared.lock.LockId.{LockId}
use Rattle.frang_base.specs.declared.lock.Mode.{Mode}
use Rattle.frang_base.specs.declared.op.Op.{Op}
use Rattle.frang_base.specs.declared.op.Op.TheVariants as op
use Rattle.frang_base.specs.declared.reply.Reply.{Reply}
use Rattle.frang_base.specs.declared.reply.Reply.TheVariants as reply
use Rattle.frang_base.specs.declared.script.Line.{Line}
use Rattle.frang_outside.specs.Disk.{written}
use Rattle.lock_definitions.specs.declared.claim.AskedFor.{AskedFor}
use Rattle.lock_definitions.specs.declared.claim.AskedFor.TheVariants.{Release, Downgrade}
use Rattle.lock_definitions.specs.Calls.{asked_for, cleared, downgraded, extended, released, taken, wanted}
use Rattle.lock_definitions.specs.Locks.{AreLocks, Locks}
use Rattle.lock_definitions.specs.Same.{AllWishesWait, SameLocks}
use Rattle.disk_definitions.specs.Plans.{Lock}
use Rattle.disk_definitions.specs.Regions.{sector_of}
use Rattle.disk_definitions.specs.declared.region.Region.TheVariants as region
use Rattle.ring_definitions.specs.Rings.{reclaimed_of}
use Rattle.sector_bytes.specs.Blocks.{Block}
use Rattle.sector_bytes.specs.SectorMaps.{value_at, with_value, without}
use Rattle.sector_bytes.specs.Sectors.{Sectors}
use Rattle.tree_definitions.specs.Touched.{is_ok, is_unmount}
use Rattle.tree_definitions.specs.Transcript.{is_halt, is_mount}
use Rattle.cache_definitions.specs.Caches.{clean, dropped}
use Rattle.core_definitions.specs.Settings.{Setting, lease_to}
use Rattle.core_definitions.specs.Logs.{is_none, is_read}
use Rattle.core_definitions.specs.Plans.{Outcome}
use Rattle.set_definitions.specs.Seen.{SeenSectors}
use Rattle.core_definitions.specs.Lines.{Stage, Asking, Fetching, Moving, Stopping, Growing, Clearing, Finishing, Under, operation_of, under_at_first}
use Rattle.core_definitions.specs.Flights.{Flight, Flights, each_of_server}
use Rattle.core_definitions.specs.Recoveries.{Recovery, recovery_of}
use Rattle.core_definitions.specs.Scripts.{host_party}
use Rattle.core_definitions.specs.Servers.{Arming, Doomed, Fate, Off, Phase, Server, Still, Dead, Up, answer_at_first, asks, due_if, due_under, is_answering, is_off, is_up, own_answer, own_answer_of, wanting_all}
use Rattle.core_definitions.specs.Writes.{Write}
use Rattle.core_definitions.specs.Cores.{clean_at, due_at, expiry_of, next_of, stage, writes}
use Rattle.core_definitions.specs.Events.{Event, Begin, Ask, Fetch, Again, Clear, Commit, Answer, Give, Issue, Doom, Resume, Arrive, Lose, Die, Renew, Tick, Recover, Load, Look, Finish, HostLine, Close, Read, Show, End, Heard, Nothing, Got, GetFailed, Written, Late, PutFailed}
use Rattle.core_definitions.specs.LineGuards.{CanFetch, is_server, needed_by, slots_under}
use Rattle.core_definitions.specs.WriteGuards.{CanDoom, CanGive, CanIssue, CanRenew, CanResume, is_by_dead, is_flight, is_worker}
use Rattle.core_definitions.specs.EndGuards.{CanFinish, CanRecover, is_recovery, wants_look, wants_slot}
use Rattle.core_definitions.specs.Guards.{CanTick}
use Rattle.core_definitions.specs.LineEffects.{again_by, answered_fixed, answered_open, answered_under, answered_with, begun_line, begun_with, cached_under, call_failed, cleared_at, committed_at, committed_by, cover_needed, failed_by, fetch_failed, flight_after, off_after, refused_under, set_anew, set_grown, slot_read, up_after, with_under}
use Rattle.core_definitions.specs.WriteEffects.{acknowledged, arrived_as, arrived_from, counted, died_in, died_with, fate_of, flight_of, flights_at_death, flushed_at, given_for, issued_as, landed, ring_after, up_again}
use Rattle.core_definitions.specs.EndEffects.{finished_from, host_answered_line, look_made, recovered, slot_loaded}
use Rattle.core_definitions.specs.Effects.{MayArrive, MayGet, MayLoad, after, disk_from, disk_with}
use Rattle.core_definitions.specs.Runs.{State, Step, Event_, Enter, Hold, Flush, Relock, Note, Peek, PeekFails, Makes, next}
use Rattle.core_laws.proofs.Memory.{given_due, opened}

-- what of a state these facts are of
pub record Work : Type 0 where
  pub setting : Setting
  pub now : ℕ
  pub servers : ℕ → Server
  pub locks : Locks
  pub flights : Flights
  pub disk : Sectors

abbrev pub work_of : State → Work
work_of s = record { setting = s.core.setting; now = s.core.now; servers = s.core.servers; locks = s.core.locks; flights = s.core.flights; disk = s.disk }

-- with another server in the place of this one
abbrev pub at_server : State → ℕ → Server → Work
at_server s a new = record (work_of s) { servers = put s.core.servers a new }

-- a failed call counts for a server, and ends the core where it is the host's
abbrev pub failed_at : (ℕ → Server) → ℕ → ℕ → Server
failed_at servers a = if a == host_party then servers else put servers a (failed_by (servers a))

-- ---- a line goes on

pub data LineStep (s : State) (a : ℕ) : Option Under → Type 0 where
  Begun : (line : Line) (operation : Op) → IsTrue (not (is_some (s.core.servers a).under)) →
      LineStep s a (Some (under_at_first line operation (answer_at_first (s.core.servers a) operation)))
  Anew : (under : Under) → (s.core.servers a).under ≡ Some under → LineStep s a (Some (set_anew under))
  Grown : (under : Under) (needs : List Lock) (seen : SeenSectors) → (s.core.servers a).under ≡ Some under → stage s.core a ≡ Some (Growing needs seen) →
      LineStep s a (Some (set_grown needs seen under))
  SlotRead : (under : Under) (sector : ℕ) (block : Block) → (s.core.servers a).under ≡ Some under → IsTrue (is_off (s.core.servers a).phase) →
      IsTrue (member sector (slots_under s.core.setting.logs a (s.core.servers a).under)) → block ≡ s.disk sector → LineStep s a (Some (slot_read a sector block under))
  Refused : (under : Under) → (s.core.servers a).under ≡ Some under → LineStep s a (Some (refused_under under))
  Ended : LineStep s a None

-- ---- what a step makes of the work

pub data Turn (s : State) : Work → Type 0 where
  Rests : Turn s (work_of s)
  Stays : (a : ℕ) → Turn s (at_server s a (s.core.servers a))
  Lines : (a : ℕ) (under : Option Under) → IsTrue (is_server a) → LineStep s a under → Turn s (at_server s a (record (s.core.servers a) { under = under }))
  -- what a line fetches, and its plan
  Caches : (a sector : ℕ) (block : Block) (needs : List (ℕ × LockId)) (cover : LockId) → IsTrue (is_server a) → stage s.core a ≡ Some (Fetching needs) → value_at needs sector ≡ Some cover →
      block ≡ s.disk sector → Turn s (at_server s a (record (s.core.servers a) { cache = with_value (s.core.servers a).cache sector (clean block cover) }))
  Reclaims : (a : ℕ) (outcome : Outcome) → IsTrue (is_server a) → stage s.core a ≡ Some (Finishing outcome) →
      Turn s (at_server s a (record (s.core.servers a) { ring = reclaimed_of s.core.setting.logs.quarter (s.core.servers a).ring }))
  Clears : (a block : ℕ) → IsTrue (is_server a) → stage s.core a ≡ Some (Clearing block) → Turn s (at_server s a (cleared_at block (s.core.servers a)))
  Commits : (a : ℕ) (outcome : Outcome) → IsTrue (is_server a) → stage s.core a ≡ Some (Finishing outcome) → IsTrue (is_none (s.core.servers a).pending) →
      Turn s (record (at_server s a (committed_by outcome (s.core.servers a))) { flights = each_of_server a (flight_after outcome) s.core.flights })
  -- answers
  Mounts : (a : ℕ) (under : Under) → IsTrue (is_server a) → IsTrue (is_off (s.core.servers a).phase) → (s.core.servers a).under ≡ Some under →
      IsTrue (is_read s.core.setting.logs under.slots) → Turn s (at_server s a (up_after s.core under))
  Leaves : (a : ℕ) → IsTrue (is_server a) → IsTrue (is_up (s.core.servers a).phase) → IsTrue (clean_at s.core a) →
      Turn s (record (at_server s a (off_after (s.core.servers a))) { locks = cleared s.core.locks a })
  Arms : (a : ℕ) (arming : Arming) → IsTrue (is_server a) → IsTrue (is_up (s.core.servers a).phase) →
      Turn s (at_server s a (record (s.core.servers a) { arming = Some arming; under = None }))
  Stalls : (a : ℕ) → IsTrue (is_server a) → IsTrue (is_up (s.core.servers a).phase) → Turn s (at_server s a (record (s.core.servers a) { phase = Still; under = None }))
  Settles : (a : ℕ) → IsTrue (is_server a) → Turn s (at_server s a (record (s.core.servers a) { owes = false; under = None }))
  -- locks
  Asks : (a : ℕ) (lock : LockId) (mode : Mode) → IsTrue (is_server a) → stage s.core a ≡ Some (Asking (lock, mode)) →
      Turn s (record (work_of s) { locks = wanted s.core.locks a lock mode })
  Lowers : (a : ℕ) (lock : LockId) → CanGive s.core a lock → Turn s (record (work_of s) { locks = downgraded s.core.locks a lock })
  Releases : (a : ℕ) (lock : LockId) → CanGive s.core a lock →
      Turn s (record (at_server s a (record (s.core.servers a) { cache = dropped (s.core.servers a).cache lock })) { locks = released s.core.locks a lock })
  Relocks : (locks : Locks) → AreLocks locks → SameLocks locks s.core.locks → AllWishesWait locks → Turn s (record (work_of s) { locks = locks })
  -- writes
  Wants : (a : ℕ) → IsTrue (is_up (s.core.servers a).phase) → Turn s (at_server s a (wanting_all (s.core.servers a)))
  Issues : (a sector : ℕ) (write : Write) → CanIssue s.core a sector → value_at (writes s.core a) sector ≡ Some write →
      Turn s (record
      (at_server s a (record (s.core.servers a) { ring = ring_after write.purpose (s.core.servers a).ring; arming = counted (s.core.servers a).arming }))
      { flights = s.core.flights ++ (s.core.tickets, flight_of s.core a sector write) ∷ [] })
  Fades : (ticket : ℕ) (flight : Flight) → value_at s.core.flights ticket ≡ Some flight → (flight.stamp < s.core.now) ⊎ IsTrue (is_by_dead s.core flight) →
      Turn s (record (work_of s) { flights = without s.core.flights ticket })
  Lands : (ticket : ℕ) (flight : Flight) → value_at s.core.flights ticket ≡ Some flight → s.core.now ≤ flight.stamp → flight.present ≡ true →
      Turn s (record (at_server s flight.server (acknowledged flight.sector flight.block flight.purpose (s.core.servers flight.server)))
      { flights = without s.core.flights ticket; disk = written s.disk flight.sector flight.block })
  Drifts : (ticket : ℕ) (flight : Flight) → value_at s.core.flights ticket ≡ Some flight → s.core.now ≤ flight.stamp → flight.present ≡ false →
      Turn s (record (work_of s) { flights = without s.core.flights ticket; disk = written s.disk flight.sector flight.block })
  Breaks : (ticket : ℕ) (flight : Flight) (new : Bool) → value_at s.core.flights ticket ≡ Some flight → s.core.now ≤ flight.stamp →
      Turn s (record (work_of s) { servers = failed_at s.core.servers flight.server; flights = without s.core.flights ticket; disk = disk_with s.disk flight (PutFailed new) })
  Fails : (a : ℕ) → Turn s (record (work_of s) { servers = failed_at s.core.servers a })
  -- lives
  Dooms : (a : ℕ) (fate : Fate) → CanDoom s.core a → Turn s (at_server s a (record (s.core.servers a) { phase = Doomed fate }))
  Resumes : (a : ℕ) → CanResume s.core a →
      Turn s (record (at_server s a (up_again s.core.setting s.core.now (s.core.servers a))) { locks = cleared s.core.locks a })
  Dies : (a : ℕ) (fate : Fate) → IsTrue (is_server a) → (s.core.servers a).phase ≡ Doomed fate →
      Turn s (record (at_server s a (died_with fate (s.core.servers a))) { flights = flights_at_death fate a s.core.flights })
  Renews : (a : ℕ) → CanRenew s.core a →
      Turn s (record (at_server s a (record (s.core.servers a) { expiry = lease_to s.core.setting s.core.now })) { locks = extended s.core.locks a (lease_to s.core.setting s.core.now) })
  Ticks : CanTick s.core →
      Turn s (record (work_of s) {
        now = s.core.now + 1;
        servers = flushed_at s.core (s.core.now + 1);
        locks = extended s.core.locks host_party (lease_to s.core.setting (s.core.now + 1));
      })
  -- recoveries, and the end
  Recovers : (dead by : ℕ) → CanRecover s.core dead by →
      Turn s (record (at_server s by (record (s.core.servers by) { recovery = Some (recovery_of dead) })) { locks = taken s.core.locks dead by s.core.now (expiry_of s.core by) })
  Loads : (by slot : ℕ) (block : Block) (recovery : Recovery) → IsTrue (is_worker s.core by) → (s.core.servers by).recovery ≡ Some recovery → IsTrue (wants_slot s.core slot recovery) →
      block ≡ s.disk (sector_of (region.Log recovery.dead slot)) → Turn s (at_server s by (record (s.core.servers by) { recovery = Some (slot_loaded slot block recovery) }))
  Looks : (by sector : ℕ) (block : Block) (recovery : Recovery) → IsTrue (is_worker s.core by) → (s.core.servers by).recovery ≡ Some recovery → IsTrue (wants_look s.core sector recovery) →
      block ≡ s.disk sector → Turn s (at_server s by (record (s.core.servers by) { recovery = Some (look_made s.core sector block recovery) }))
  Finishes : (by : ℕ) (recovery : Recovery) → CanFinish s.core by → (s.core.servers by).recovery ≡ Some recovery →
      Turn s (record (work_of s) {
        servers = put (put s.core.servers by (record (s.core.servers by) { recovery = None })) recovery.dead (recovered (s.core.servers recovery.dead));
        locks = cleared s.core.locks recovery.dead;
      })
  Halts : Turn s (record (work_of s) { flights = [] })

-- ---- lines

begin_turn : (s : State) (a : ℕ) → IsTrue (is_server a) → IsTrue (not (is_some (s.core.servers a).under)) → (line : Option Line) → Turn s (at_server s a (begun_line (s.core.servers a) line))
begin_turn s a server idle None = Stays a
begin_turn s a server idle (Some line) = go (operation_of line.what)
  where
    go : (operation : Option Op) → Turn s (at_server s a (begun_with (s.core.servers a) line operation))
    go None = Stays a
    go (Some operation) = Lines a _ server (Begun line operation idle)

again_turn : (s : State) (a : ℕ) → IsTrue (is_server a) → (at : Option Stage) → stage s.core a ≡ at → Turn s (at_server s a (again_by s.core.setting.logs at (s.core.servers a)))
again_turn s a server None e = Stays a
again_turn s a server (Some (Asking need)) e = Stays a
again_turn s a server (Some (Fetching needs)) e = Stays a
again_turn s a server (Some Moving) e = go (s.core.servers a).under refl
  where
    go : (u : Option Under) → (s.core.servers a).under ≡ u → Turn s (at_server s a (record (s.core.servers a) { under = option_map set_anew u }))
    go None f = Lines a None server Ended
    go (Some under) f = Lines a _ server (Anew under f)
again_turn s a server (Some Stopping) e = Stays a
again_turn s a server (Some (Growing needs seen)) e = go (s.core.servers a).under refl
  where
    go : (u : Option Under) → (s.core.servers a).under ≡ u → Turn s (at_server s a (record (s.core.servers a) { under = option_map (set_grown needs seen) u }))
    go None f = Lines a None server Ended
    go (Some under) f = Lines a _ server (Grown under needs seen f e)
again_turn s a server (Some (Clearing block)) e = Stays a
again_turn s a server (Some (Finishing outcome)) e = Reclaims a outcome server e

cache_turn : (s : State) (a sector : ℕ) (block : Block) → IsTrue (is_server a) → block ≡ s.disk sector → (at : Option Stage) → stage s.core a ≡ at →
    Turn s (at_server s a (cached_under (s.core.servers a) sector block (cover_needed at sector)))
cache_turn s a sector block server got None e = Stays a
cache_turn s a sector block server got (Some (Asking need)) e = Stays a
cache_turn s a sector block server got (Some (Fetching needs)) e = go (value_at needs sector) refl
  where
    go : (cover : Option LockId) → value_at needs sector ≡ cover → Turn s (at_server s a (cached_under (s.core.servers a) sector block cover))
    go None f = Stays a
    go (Some cover) f = Caches a sector block needs cover server e f got
cache_turn s a sector block server got (Some Moving) e = Stays a
cache_turn s a sector block server got (Some Stopping) e = Stays a
cache_turn s a sector block server got (Some (Growing needs seen)) e = Stays a
cache_turn s a sector block server got (Some (Clearing b)) e = Stays a
cache_turn s a sector block server got (Some (Finishing outcome)) e = Stays a

module _ (s : State) (a sector : ℕ) (can : CanFetch s.core a sector) where
  slot_turn : (block : Block) → block ≡ s.disk sector → IsTrue (is_off (s.core.servers a).phase) → (u : Option Under) → (s.core.servers a).under ≡ u →
      Turn s (at_server s a (record (s.core.servers a) { under = option_map (slot_read a sector block) u }))
  slot_turn block got off None f = Lines a None can.server Ended
  slot_turn block got off (Some under) f = Lines a _ can.server (SlotRead under sector block f off unread_slot got)
    where
      only : (p : Phase) (m n k : Bool) → IsTrue (is_off p) → IsTrue ((is_up p && m) || (is_off p && n && k)) → IsTrue k
      only Off m true true o h = refl
      only Off m true false o h = absurd (false≢true h)
      only Off m false k o h = absurd (false≢true h)
      only Up m n k o h = absurd (false≢true o)
      only Still m n k o h = absurd (false≢true o)
      only (Doomed fate) m n k o h = absurd (false≢true o)
      only Dead m n k o h = absurd (false≢true o)

      unread_slot : IsTrue (member sector (slots_under s.core.setting.logs a (s.core.servers a).under))
      unread_slot = only (s.core.servers a).phase (member sector (needed_by (stage s.core a))) (asks is_mount (s.core.servers a)) _ off can.lacks

  got_turn : (block : Block) → block ≡ s.disk sector → Turn s (work_of (record s { core = after s.core (Fetch a sector) (Got block) }))
  got_turn block got = go (is_off (s.core.servers a).phase) refl
    where
      go : (b : Bool) → is_off (s.core.servers a).phase ≡ b →
          Turn s (at_server s a (if b then with_under (s.core.servers a) (slot_read a sector block) else cached_under (s.core.servers a) sector block (cover_needed (stage s.core a) sector)))
      go true e = slot_turn block got e (s.core.servers a).under refl
      go false e = cache_turn s a sector block can.server got (stage s.core a) refl

-- a failed call
call_turn : (s : State) (a : ℕ) → Turn s (work_of (record s { core = call_failed s.core a }))
call_turn s a = go (a == host_party) (Fails a)
  where
    go : (b : Bool) → Turn s (record (work_of s) { servers = if b then s.core.servers else put s.core.servers a (failed_by (s.core.servers a)) }) →
        Turn s (work_of (record s { core = if b then record s.core { over = true } else record s.core { servers = put s.core.servers a (failed_by (s.core.servers a)) } }))
    go true turn = turn
    go false turn = turn

fetch_failed_turn : (s : State) (a : ℕ) → IsTrue (is_server a) → Turn s (work_of (record s { core = fetch_failed s.core a }))
fetch_failed_turn s a server = go (is_off (s.core.servers a).phase)
  where
    refused : (u : Option Under) → (s.core.servers a).under ≡ u → Turn s (at_server s a (record (s.core.servers a) { under = option_map refused_under u }))
    refused None f = Lines a None server Ended
    refused (Some under) f = Lines a _ server (Refused under f)

    go : (b : Bool) →
        Turn s (work_of (record s { core = if b then record s.core { servers = put s.core.servers a (with_under (s.core.servers a) refused_under) } else call_failed s.core a }))
    go true = refused (s.core.servers a).under refl
    go false = call_turn s a

fetch_turn : (s : State) (a sector : ℕ) (heard : Heard) → CanFetch s.core a sector → MayGet s.disk sector heard → Turn s (work_of (record s { core = after s.core (Fetch a sector) heard }))
fetch_turn s a sector (Got block) can may = got_turn s a sector can block may
fetch_turn s a sector GetFailed can may = fetch_failed_turn s a can.server
fetch_turn s a sector Nothing can may = absurd may
fetch_turn s a sector Written can may = absurd may
fetch_turn s a sector Late can may = absurd may
fetch_turn s a sector (PutFailed new) can may = absurd may

commit_turn : (s : State) (a : ℕ) → IsTrue (is_server a) → IsTrue (is_none (s.core.servers a).pending) → (at : Option Stage) → stage s.core a ≡ at →
    Turn s (work_of (record s { core = committed_at s.core a at }))
commit_turn s a server cleared None e = Rests
commit_turn s a server cleared (Some (Asking need)) e = Rests
commit_turn s a server cleared (Some (Fetching needs)) e = Rests
commit_turn s a server cleared (Some Moving) e = Rests
commit_turn s a server cleared (Some Stopping) e = Rests
commit_turn s a server cleared (Some (Growing needs seen)) e = Rests
commit_turn s a server cleared (Some (Clearing block)) e = Rests
commit_turn s a server cleared (Some (Finishing outcome)) e = Commits a outcome server e cleared

-- ---- answers

module _ (s : State) (a : ℕ) (server : IsTrue (is_server a)) (under : Under) (u : (s.core.servers a).under ≡ Some under) where
  abbrev old : Server
  old = s.core.servers a

  abbrev left_by : Bool → Op → Reply → Work
  left_by fixed operation answer =
      record (at_server s a (record (if fixed then answered_fixed old operation answer else answered_open s.core under old operation answer) { under = None }))
      { locks = if is_unmount operation && not fixed then cleared s.core.locks a else s.core.locks }

  same : Turn s (at_server s a (record old { under = None }))
  same = Lines a None server Ended

  mounted_turn : (off failed read : Bool) (answer : Reply) → is_off old.phase ≡ off → is_read s.core.setting.logs under.slots ≡ read →
      (if off then (if failed then Some reply.Io else due_if read reply.Mounted) else None) ≡ Some answer → Turn s (left_by false op.Mount answer)
  mounted_turn false failed read answer o r e = absurd (none-some answer e)
  mounted_turn true true read answer o r e = subst (λ x. Turn s (left_by false op.Mount x)) (same_Some reply.Io answer e) same
  mounted_turn true false false answer o r e = absurd (none-some answer e)
  mounted_turn true false true answer o r e = subst (λ x. Turn s (left_by false op.Mount x)) (same_Some reply.Mounted answer e) (Mounts a under server o u r)

  unmounted_turn : (answer : Reply) → (up clean : Bool) → is_up old.phase ≡ up → clean_at s.core a ≡ clean → due_if (up && clean) reply.Ok ≡ Some answer → Turn s (left_by false op.Unmount answer)
  unmounted_turn answer true true p k e = Leaves a server p k
  unmounted_turn answer true false p k e = absurd (none-some answer e)
  unmounted_turn answer false clean p k e = absurd (none-some answer e)

  open_turn : (operation : Op) (answer : Reply) → own_answer s.core.setting.logs s.core.flights a old under operation ≡ Some answer → Turn s (left_by false operation answer)
  open_turn (op.Create path) answer e = absurd (none-some answer e)
  open_turn (op.Mkdir path) answer e = absurd (none-some answer e)
  open_turn (op.Link path to) answer e = absurd (none-some answer e)
  open_turn (op.Symlink path target) answer e = absurd (none-some answer e)
  open_turn (op.Unlink path) answer e = absurd (none-some answer e)
  open_turn (op.Rmdir path) answer e = absurd (none-some answer e)
  open_turn (op.Rename path to) answer e = absurd (none-some answer e)
  open_turn (op.Write path off bytes) answer e = absurd (none-some answer e)
  open_turn (op.Fill path off len byte) answer e = absurd (none-some answer e)
  open_turn (op.Truncate path len) answer e = absurd (none-some answer e)
  open_turn (op.Read path off len) answer e = absurd (none-some answer e)
  open_turn (op.Stat path) answer e = absurd (none-some answer e)
  open_turn (op.List path) answer e = absurd (none-some answer e)
  open_turn (op.Readlink path) answer e = absurd (none-some answer e)
  open_turn (op.Time path) answer e = absurd (none-some answer e)
  open_turn op.Sync answer e = same
  open_turn op.Mount answer e = mounted_turn (is_off old.phase) under.get_failed (is_read s.core.setting.logs under.slots) answer refl refl e
  open_turn op.Unmount answer e = unmounted_turn answer (is_up old.phase) (clean_at s.core a) refl refl e
  open_turn op.Crash answer e = absurd (none-some answer e)
  open_turn (op.CrashAt k) answer e = Arms a _ server (given_due (is_up old.phase) reply.Ok answer e)
  open_turn (op.CutAt k) answer e = Arms a _ server (given_due (is_up old.phase) reply.Ok answer e)
  open_turn op.Stall answer e = Stalls a server (given_due (is_up old.phase) reply.Ok answer e)

  fixed_turn : (unmount ok : Bool) →
      Turn s (record (at_server s a (record (if unmount && ok then record old { owes = false } else old) { under = None })) { locks = if unmount && not true then cleared s.core.locks a else s.core.locks })
  fixed_turn true true = Settles a server
  fixed_turn true false = same
  fixed_turn false ok = same

  answer_turn : (operation : Op) (answer : Reply) → (is_some under.fixed ≡ false → own_answer s.core.setting.logs s.core.flights a old under operation ≡ Some answer) →
      Turn s (left_by (is_some under.fixed) operation answer)
  answer_turn operation answer own = go (is_some under.fixed) refl
    where
      go : (b : Bool) → is_some under.fixed ≡ b → Turn s (left_by b operation answer)
      go true e = fixed_turn (is_unmount operation) (is_ok answer)
      go false e = open_turn operation answer (own e)

answered_with_turn : (s : State) (a : ℕ) → IsTrue (is_server a) → (under : Under) → (s.core.servers a).under ≡ Some under → (answer : Reply) (operation : Option Op) →
    (is_some under.fixed ≡ false → own_answer_of s.core.setting.logs s.core.flights a (s.core.servers a) under operation ≡ Some answer) →
    Turn s (work_of (record s { core = answered_with s.core a under answer operation }))
answered_with_turn s a server under u answer None own = Rests
answered_with_turn s a server under u answer (Some operation) own = answer_turn s a server under u operation answer own

answered_turn : (s : State) (a : ℕ) → IsTrue (is_server a) → (under : Option Under) (answer : Option Reply) → (s.core.servers a).under ≡ under → due_at s.core a ≡ answer →
    Turn s (work_of (record s { core = answered_under s.core a under answer }))
answered_turn s a server None None u e = Rests
answered_turn s a server None (Some answer) u e = Rests
answered_turn s a server (Some under) None u e = Rests
answered_turn s a server (Some under) (Some answer) u e =
    answered_with_turn s a server under u answer (operation_of under.line.what)
    (opened (is_answering (s.core.servers a).phase) under.fixed (own_answer_of s.core.setting.logs s.core.flights a (s.core.servers a) under (operation_of under.line.what)) answer
    (sym (ap (λ o. if is_answering (s.core.servers a).phase then due_under s.core.setting.logs s.core.flights a (s.core.servers a) o else None) u) ∙ e))

-- ---- locks and writes

given_turn : (s : State) (a : ℕ) (lock : LockId) → CanGive s.core a lock → (asked : Option AskedFor) → Turn s (work_of (record s { core = given_for s.core a lock asked }))
given_turn s a lock can None = Rests
given_turn s a lock can (Some Downgrade) = Lowers a lock can
given_turn s a lock can (Some Release) = Releases a lock can

issued_turn : (s : State) (a sector : ℕ) → CanIssue s.core a sector → (write : Option Write) → value_at (writes s.core a) sector ≡ write →
    Turn s (work_of (record s { core = issued_as s.core a sector write }))
issued_turn s a sector can None e = Rests
issued_turn s a sector can (Some write) e = Issues a sector write can e

module _ (s : State) (ticket : ℕ) (flight : Flight) (e : value_at s.core.flights ticket ≡ Some flight) where
  written_turn : s.core.now ≤ flight.stamp → (present : Bool) → flight.present ≡ present →
      Turn s (work_of (record s {
        core = if present then record (landed s.core ticket) { servers = put s.core.servers flight.server (acknowledged flight.sector flight.block flight.purpose (s.core.servers flight.server)) } else landed s.core ticket;
        disk = written s.disk flight.sector flight.block;
      }))
  written_turn early true p = Lands ticket flight e early p
  written_turn early false p = Drifts ticket flight e early p

  broken_turn : (new : Bool) → s.core.now ≤ flight.stamp →
      Turn s (work_of (record s { core = call_failed (landed s.core ticket) flight.server; disk = disk_with s.disk flight (PutFailed new) }))
  broken_turn new early = go (flight.server == host_party) (Breaks ticket flight new e early)
    where
      go : (b : Bool) →
          Turn s (record (work_of s) {
            servers = if b then s.core.servers else put s.core.servers flight.server (failed_by (s.core.servers flight.server));
            flights = without s.core.flights ticket;
            disk = disk_with s.disk flight (PutFailed new);
          }) →
          Turn s (work_of (record s {
            core = if b then record (landed s.core ticket) { over = true } else record (landed s.core ticket) { servers = put s.core.servers flight.server (failed_by (s.core.servers flight.server)) };
            disk = disk_with s.disk flight (PutFailed new);
          }))
      go true turn = turn
      go false turn = turn

  arrived_as_turn : (heard : Heard) → MayArrive s.core.now (Some flight) heard →
      Turn s (work_of (record s { core = arrived_as (landed s.core ticket) flight heard; disk = disk_with s.disk flight heard }))
  arrived_as_turn Written may = written_turn may flight.present refl
  arrived_as_turn Late may = Fades ticket flight e (inl may)
  arrived_as_turn (PutFailed new) may = broken_turn new may
  arrived_as_turn Nothing may = absurd may
  arrived_as_turn (Got block) may = absurd may
  arrived_as_turn GetFailed may = absurd may

arrived_turn : (s : State) (ticket : ℕ) (heard : Heard) (flight : Option Flight) → value_at s.core.flights ticket ≡ flight → MayArrive s.core.now flight heard →
    Turn s (work_of (record s { core = arrived_from s.core ticket heard flight; disk = disk_from s.disk heard flight }))
arrived_turn s ticket heard None e may = absurd may
arrived_turn s ticket heard (Some flight) e may = arrived_as_turn s ticket flight e heard may

lost_turn : (s : State) (ticket : ℕ) (flight : Option Flight) → value_at s.core.flights ticket ≡ flight → IsTrue (is_flight (is_by_dead s.core) flight) → Turn s (work_of (record s { core = landed s.core ticket }))
lost_turn s ticket None e dead = absurd (false≢true dead)
lost_turn s ticket (Some flight) e dead = Fades ticket flight e (inr dead)

died_turn : (s : State) (a : ℕ) → IsTrue (is_server a) → (phase : Phase) → (s.core.servers a).phase ≡ phase → Turn s (work_of (record s { core = died_in s.core a phase }))
died_turn s a server Off p = Rests
died_turn s a server Up p = Rests
died_turn s a server Still p = Rests
died_turn s a server (Doomed fate) p = Dies a fate server p
died_turn s a server Dead p = Rests

-- ---- recoveries, and the end

load_turn : (s : State) (by slot : ℕ) (heard : Heard) → IsTrue (is_worker s.core by) → (recovery : Option Recovery) → (s.core.servers by).recovery ≡ recovery →
    IsTrue (is_recovery (wants_slot s.core slot) recovery) → MayLoad s.disk slot recovery heard → Turn s (work_of (record s { core = after s.core (Load by slot) heard }))
load_turn s by slot heard who None e wants may = absurd may
load_turn s by slot (Got block) who (Some recovery) e wants may =
    subst (λ r. Turn s (at_server s by (record (s.core.servers by) { recovery = option_map (slot_loaded slot block) r }))) (sym e) (Loads by slot block recovery who e wants may)
load_turn s by slot GetFailed who (Some recovery) e wants may = call_turn s by
load_turn s by slot Nothing who (Some recovery) e wants may = absurd may
load_turn s by slot Written who (Some recovery) e wants may = absurd may
load_turn s by slot Late who (Some recovery) e wants may = absurd may
load_turn s by slot (PutFailed new) who (Some recovery) e wants may = absurd may

look_turn : (s : State) (by sector : ℕ) (heard : Heard) → IsTrue (is_worker s.core by) → (recovery : Option Recovery) → (s.core.servers by).recovery ≡ recovery →
    IsTrue (is_recovery (wants_look s.core sector) recovery) → MayGet s.disk sector heard → Turn s (work_of (record s { core = after s.core (Look by sector) heard }))
look_turn s by sector heard who None e wants may = absurd (false≢true wants)
look_turn s by sector (Got block) who (Some recovery) e wants may =
    subst (λ r. Turn s (at_server s by (record (s.core.servers by) { recovery = option_map (look_made s.core sector block) r }))) (sym e) (Looks by sector block recovery who e wants may)
look_turn s by sector GetFailed who (Some recovery) e wants may = call_turn s by
look_turn s by sector Nothing who (Some recovery) e wants may = absurd may
look_turn s by sector Written who (Some recovery) e wants may = absurd may
look_turn s by sector Late who (Some recovery) e wants may = absurd may
look_turn s by sector (PutFailed new) who (Some recovery) e wants may = absurd may

read_turn : (s : State) (sector : ℕ) (heard : Heard) → Turn s (work_of (record s { core = after s.core (Read sector) heard }))
read_turn s sector (Got block) = Rests
read_turn s sector GetFailed = call_turn s host_party
read_turn s sector Nothing = call_turn s host_party
read_turn s sector Written = call_turn s host_party
read_turn s sector Late = call_turn s host_party
read_turn s sector (PutFailed new) = call_turn s host_party

finished_turn : (s : State) (by : ℕ) → CanFinish s.core by → (recovery : Option Recovery) → (s.core.servers by).recovery ≡ recovery →
    Turn s (work_of (record s { core = finished_from s.core by recovery }))
finished_turn s by can None e = Rests
finished_turn s by can (Some recovery) e = Finishes by recovery can e

host_turn : (s : State) (line : Option Line) → Turn s (work_of (record s { core = host_answered_line s.core line }))
host_turn s None = Rests
host_turn s (Some line) = go (is_halt line.what)
  where
    go : (halts : Bool) → Turn s (record (work_of s) { flights = if halts then [] else s.core.flights })
    go true = Halts
    go false = Rests

close_turn : (s : State) (a : ℕ) → IsTrue (is_server a) → IsTrue (is_up (s.core.servers a).phase) → Turn s (work_of (record s { core = after s.core (Close a) Nothing }))
close_turn s a server up = go (clean_at s.core a) refl
  where
    go : (b : Bool) → clean_at s.core a ≡ b →
        Turn s (work_of (record s {
          core = if b then record s.core { servers = put s.core.servers a (off_after (s.core.servers a)); locks = cleared s.core.locks a }
              else record s.core { servers = put s.core.servers a (wanting_all (s.core.servers a)) };
        }))
    go true e = Leaves a server up e
    go false e = Wants a up

wanting_turn : (s : State) (a : ℕ) → (up : Bool) → is_up (s.core.servers a).phase ≡ up → Turn s (at_server s a (if up then wanting_all (s.core.servers a) else s.core.servers a))
wanting_turn s a true e = Wants a e
wanting_turn s a false e = Stays a

-- ---- each step

event_turn : (s : State) (event : Event) (heard : Heard) → Makes s event heard → Turn s (work_of (next s event heard))
event_turn s (Begin a) heard m = begin_turn s a m.can.can.server m.can.can.idle (next_of s.core a)
event_turn s (Ask a lock mode) heard m = Asks a lock mode m.can.can.server m.can.can.least
event_turn s (Fetch a sector) heard m = fetch_turn s a sector heard m.can.can m.hears
event_turn s (Again a) heard m = again_turn s a m.can.can.server (stage s.core a) refl
event_turn s (Clear a block) heard m = Clears a block m.can.can.server m.can.can.clear
event_turn s (Commit a) heard m = commit_turn s a m.can.can.server m.can.can.cleared (stage s.core a) refl
event_turn s (Answer a) heard m = answered_turn s a m.can.can.server (s.core.servers a).under (due_at s.core a) refl refl
event_turn s (Give a lock) heard m = given_turn s a lock m.can.can (asked_for s.core.locks a lock)
event_turn s (Issue a sector) heard m = issued_turn s a sector m.can.can (value_at (writes s.core a) sector) refl
event_turn s (Doom a) heard m = Dooms a (fate_of s.core a) m.can.can
event_turn s (Resume a) heard m = Resumes a m.can.can
event_turn s (Arrive ticket) heard m = arrived_turn s ticket heard (value_at s.core.flights ticket) refl m.hears
event_turn s (Lose ticket) heard m = lost_turn s ticket (value_at s.core.flights ticket) refl m.can.can.dead
event_turn s (Die a) heard m = died_turn s a m.can.can.server (s.core.servers a).phase refl
event_turn s (Renew a) heard m = Renews a m.can.can
event_turn s Tick heard m = Ticks m.can.can
event_turn s (Recover dead by) heard m = Recovers dead by m.can.can
event_turn s (Load by slot) heard m = load_turn s by slot heard m.can.can.who (s.core.servers by).recovery refl m.can.can.wanted m.hears
event_turn s (Look by sector) heard m = look_turn s by sector heard m.can.can.who (s.core.servers by).recovery refl m.can.can.wanted m.hears
event_turn s (Finish by) heard m = finished_turn s by m.can.can (s.core.servers by).recovery refl
event_turn s (HostLine number) heard m = host_turn s (next_of s.core host_party)
event_turn s (Close a) heard m = close_turn s a m.can.can.server m.can.can.up
event_turn s (Read sector) heard m = read_turn s sector heard
event_turn s (Show place) heard m = Rests
event_turn s End heard m = Rests

pub step_turn : (s v : State) → Step s v → Turn s (work_of v)
step_turn s v (Event_ event heard makes) = event_turn s event heard makes
step_turn s v (Enter a line can) = Rests
step_turn s v (Hold a on may) = Rests
step_turn s v (Flush a may) = wanting_turn s a (is_up (s.core.servers a).phase) refl
step_turn s v (Relock locks going are same wait) = Relocks locks are same wait
step_turn s v (Note line may) = Rests
step_turn s v (Peek sector going) = Rests
step_turn s v (PeekFails sector going) = call_turn s host_party
