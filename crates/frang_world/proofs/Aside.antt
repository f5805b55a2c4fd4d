-- An event that isn't of the tree makes of a core with what the host has read and said what it makes of the core without, and leaves both alone.
use Rattle.std.proofs.Common.{ℕ, ◌≡◌, ◌==◌, Bool, true, false, if◌then◌else◌, Option, Some, None, refl}
use Rattle.frang_base.specs.declared.op.Op.{Op}
use Rattle.frang_base.specs.declared.reply.Reply.{Reply}
use Rattle.frang_base.specs.declared.script.Line.{Line}
use Rattle.frang_base.specs.declared.lock.LockId.{LockId}
use Rattle.lock_definitions.specs.Calls.{asked_for}
use Rattle.lock_definitions.specs.declared.claim.AskedFor.{AskedFor}
use Rattle.lock_definitions.specs.declared.claim.AskedFor.TheVariants.{Release, Downgrade}
use Rattle.sector_bytes.specs.SectorMaps.{value_at}
use Rattle.core_definitions.specs.Flights.{Flight}
use Rattle.core_definitions.specs.Lines.{Stage, Asking, Fetching, Moving, Stopping, Growing, Clearing, Finishing, Under, operation_of}
use Rattle.core_definitions.specs.Recoveries.{Recovery}
use Rattle.core_definitions.specs.Scripts.{host_party}
use Rattle.core_definitions.specs.Servers.{Phase, Off, Up, Still, Doomed, Dead, is_off}
use Rattle.core_definitions.specs.Trees.{TreeRead}
use Rattle.core_definitions.specs.Writes.{Write}
use Rattle.core_definitions.specs.Cores.{Core, clean_at, due_at, next_of, stage, writes}
use Rattle.core_definitions.specs.Events.{Event, Begin, Ask, Fetch, Again, Clear, Commit, Answer, Give, Issue, Doom, Resume, Arrive, Lose, Die, Renew, Tick, Recover, Load, Look, Finish, HostLine, Close, Read, Show, End, Heard, Nothing, Got, GetFailed, Written, Late, PutFailed}
use Rattle.core_definitions.specs.LineEffects.{answered_under, answered_with, call_failed, committed_at, fetch_failed}
use Rattle.core_definitions.specs.WriteEffects.{arrived_as, arrived_from, died_in, given_for, issued_as, landed}
use Rattle.core_definitions.specs.EndEffects.{finished_from, host_answered_line}
use Rattle.core_definitions.specs.Effects.{after}

-- a core with what the host has read and how many lines it has said
abbrev pub over : Core → TreeRead → ℕ → Core
over c read shown = record c { read = read; shown = shown }

-- all events but those of the tree: what the host reads, and what it says of it
abbrev pub IsAside : Event → Type 0
IsAside (Read sector) = ⊥
IsAside (Show place) = ⊥
IsAside event = Unit {0}

module _ (read : TreeRead) (shown : ℕ) where
  either : (b : Bool) (d e d' e' : Core) → d' ≡ over d read shown → e' ≡ over e read shown → (if b then d' else e') ≡ over (if b then d else e) read shown
  either true d e d' e' x y = x
  either false d e d' e' x y = y

  pub failed : (c : Core) (a : ℕ) → call_failed (over c read shown) a ≡ over (call_failed c a) read shown
  failed c a = either (a == host_party) _ _ _ _ refl refl

  fetch_fails : (c : Core) (a : ℕ) → fetch_failed (over c read shown) a ≡ over (fetch_failed c a) read shown
  fetch_fails c a = either (is_off (c.servers a).phase) _ _ _ _ refl (failed c a)

  committed : (c : Core) (a : ℕ) (at : Option Stage) → committed_at (over c read shown) a at ≡ over (committed_at c a at) read shown
  committed c a None = refl
  committed c a (Some (Asking need)) = refl
  committed c a (Some (Fetching needs)) = refl
  committed c a (Some Moving) = refl
  committed c a (Some Stopping) = refl
  committed c a (Some (Growing needs seen)) = refl
  committed c a (Some (Clearing block)) = refl
  committed c a (Some (Finishing outcome)) = refl

  answered_so : (c : Core) (a : ℕ) (u : Under) (r : Reply) (o : Option Op) → answered_with (over c read shown) a u r o ≡ over (answered_with c a u r o) read shown
  answered_so c a u r None = refl
  answered_so c a u r (Some o) = refl

  answered : (c : Core) (a : ℕ) (u : Option Under) (r : Option Reply) → answered_under (over c read shown) a u r ≡ over (answered_under c a u r) read shown
  answered c a None None = refl
  answered c a None (Some r) = refl
  answered c a (Some u) None = refl
  answered c a (Some u) (Some r) = answered_so c a u r (operation_of u.line.what)

  given : (c : Core) (a : ℕ) (lock : LockId) (o : Option AskedFor) → given_for (over c read shown) a lock o ≡ over (given_for c a lock o) read shown
  given c a lock None = refl
  given c a lock (Some Downgrade) = refl
  given c a lock (Some Release) = refl

  issued : (c : Core) (a sector : ℕ) (o : Option Write) → issued_as (over c read shown) a sector o ≡ over (issued_as c a sector o) read shown
  issued c a sector None = refl
  issued c a sector (Some write) = refl

  arrived_so : (c : Core) (ticket : ℕ) (flight : Flight) (heard : Heard) → arrived_as (landed (over c read shown) ticket) flight heard ≡ over (arrived_as (landed c ticket) flight heard) read shown
  arrived_so c ticket flight Nothing = refl
  arrived_so c ticket flight (Got block) = refl
  arrived_so c ticket flight GetFailed = refl
  arrived_so c ticket flight Written = either flight.present _ _ _ _ refl refl
  arrived_so c ticket flight Late = refl
  arrived_so c ticket flight (PutFailed new) = failed (landed c ticket) flight.server

  arrived : (c : Core) (ticket : ℕ) (heard : Heard) (o : Option Flight) → arrived_from (over c read shown) ticket heard o ≡ over (arrived_from c ticket heard o) read shown
  arrived c ticket heard None = refl
  arrived c ticket heard (Some flight) = arrived_so c ticket flight heard

  died : (c : Core) (a : ℕ) (p : Phase) → died_in (over c read shown) a p ≡ over (died_in c a p) read shown
  died c a Off = refl
  died c a Up = refl
  died c a Still = refl
  died c a (Doomed fate) = refl
  died c a Dead = refl

  finished : (c : Core) (by : ℕ) (o : Option Recovery) → finished_from (over c read shown) by o ≡ over (finished_from c by o) read shown
  finished c by None = refl
  finished c by (Some recovery) = refl

  host : (c : Core) (o : Option Line) → host_answered_line (over c read shown) o ≡ over (host_answered_line c o) read shown
  host c None = refl
  host c (Some line) = refl

  fetch : (c : Core) (a sector : ℕ) (heard : Heard) → after (over c read shown) (Fetch a sector) heard ≡ over (after c (Fetch a sector) heard) read shown
  fetch c a sector (Got block) = refl
  fetch c a sector Nothing = fetch_fails c a
  fetch c a sector GetFailed = fetch_fails c a
  fetch c a sector Written = fetch_fails c a
  fetch c a sector Late = fetch_fails c a
  fetch c a sector (PutFailed new) = fetch_fails c a

  load : (c : Core) (by slot : ℕ) (heard : Heard) → after (over c read shown) (Load by slot) heard ≡ over (after c (Load by slot) heard) read shown
  load c by slot (Got block) = refl
  load c by slot Nothing = failed c by
  load c by slot GetFailed = failed c by
  load c by slot Written = failed c by
  load c by slot Late = failed c by
  load c by slot (PutFailed new) = failed c by

  look : (c : Core) (by sector : ℕ) (heard : Heard) → after (over c read shown) (Look by sector) heard ≡ over (after c (Look by sector) heard) read shown
  look c by sector (Got block) = refl
  look c by sector Nothing = failed c by
  look c by sector GetFailed = failed c by
  look c by sector Written = failed c by
  look c by sector Late = failed c by
  look c by sector (PutFailed new) = failed c by

  pub after_over : (c : Core) (event : Event) (heard : Heard) → IsAside event → after (over c read shown) event heard ≡ over (after c event heard) read shown
  after_over c (Begin a) heard aside = refl
  after_over c (Ask a lock mode) heard aside = refl
  after_over c (Fetch a sector) heard aside = fetch c a sector heard
  after_over c (Again a) heard aside = refl
  after_over c (Clear a block) heard aside = refl
  after_over c (Commit a) heard aside = committed c a (stage c a)
  after_over c (Answer a) heard aside = answered c a (c.servers a).under (due_at c a)
  after_over c (Give a lock) heard aside = given c a lock (asked_for c.locks a lock)
  after_over c (Issue a sector) heard aside = issued c a sector (value_at (writes c a) sector)
  after_over c (Doom a) heard aside = refl
  after_over c (Resume a) heard aside = refl
  after_over c (Arrive ticket) heard aside = arrived c ticket heard (value_at c.flights ticket)
  after_over c (Lose ticket) heard aside = refl
  after_over c (Die a) heard aside = died c a (c.servers a).phase
  after_over c (Renew a) heard aside = refl
  after_over c Tick heard aside = refl
  after_over c (Recover dead by) heard aside = refl
  after_over c (Load by slot) heard aside = load c by slot heard
  after_over c (Look by sector) heard aside = look c by sector heard
  after_over c (Finish by) heard aside = finished c by (c.servers by).recovery
  after_over c (HostLine number) heard aside = host c (next_of c host_party)
  after_over c (Close a) heard aside = either (clean_at c a) _ _ _ _ refl refl
  after_over c (Read sector) heard aside = absurd aside
  after_over c (Show place) heard aside = absurd aside
  after_over c End heard aside = refl
