-- What may happen, and what it does.
use Rattle.std.specs.Prelude.{true, false, Bool, ℕ, ◌≡◌, ◌+◌, ◌-◌, ◌&&◌, List, [], ◌∷◌, Option, Some, None, if◌then◌else◌, nat_eq, nat_lt, nat_le}
use Rattle.frang_base.specs.declared.change.Change.{Change}
use Rattle.frang_base.specs.declared.lock.LockId.{LockId}
use Rattle.frang_base.specs.declared.lock.Mode.{Mode}
use Rattle.frang_base.specs.declared.lock.Mode.TheVariants.{Shared, Sole}
use Rattle.sector_bytes.specs.Blocks.{Block, version_of, zero_block}
use Rattle.std.specs.Str.{bytes_eq}
use Rattle.frang_base.specs.declared.limits.TheConstants.{LEASE_TICKS, MARGIN_TICKS}
use Rattle.sector_bytes.specs.Replays.{change_at, forced, redo_all, above}
use Rattle.frang_base.specs.Functions.{put, put2, put_lock}
use Rattle.frang_base.specs.Locks.{same_lock}
use Rattle.sector_world.specs.Histories.{Fill, Commit, redo_of}
use Rattle.sector_world.specs.Histories.Fill.{Written, Freed}
use Rattle.sector_world.specs.Histories.Entry.{Did, Recovered, Synced, Mounted}
use Rattle.sector_world.specs.World.{World, Slot, Page, Flight, ByteFlight, Told, Rescue, cover}
use Rattle.sector_world.specs.World.Phase.{Off, Up, Dead}
use Rattle.sector_world.specs.World.Slot.{Absent, Clean, Dirty}
use Rattle.sector_world.specs.World.Page.{NoPage, CleanPage, DirtyPage, FreedPage}
use Rattle.sector_world.specs.World.Told.{Unread, Wanted, InPlace}
use Rattle.sector_world.specs.Guards.{to_replay, CanRenew, CanMount, CanUnmount, CanTake, CanGive, CanLower, CanDo, CanReach, CanAck, CanSync, CanReclaim, CanBegin, CanFinish, CanFetch, CanIssue, CanReplay, CanLand, CanFade, CanFetchBytes, CanClear, CanIssueBytes, CanLandBytes, CanFadeBytes, CanSettle}

-- what may happen; `a` is a server, `s` a sector, `d` a log's server
pub data Event : Type 0 where
  Tick : Event
  Leave : Event
  Fail : (a : ℕ) → Event
  Renew : (a : ℕ) → Event
  Mount : (a : ℕ) → Event
  Unmount : (a : ℕ) → Event
  Take : (a : ℕ) → (l : LockId) → (mode : Mode) → Event
  Give : (a : ℕ) → (l : LockId) → Event
  Lower : (a : ℕ) → (l : LockId) → Event
  Do : (c : Commit) → Event
  Reach : (d k : ℕ) → Event
  Ack : (a k : ℕ) → Event
  Sync : (a : ℕ) → Event
  Reclaim : (a k : ℕ) → Event
  Crash : (a : ℕ) → Event
  Begin : (d b : ℕ) → Event
  Look : (r : Rescue) → (s : ℕ) → Event
  Finish : (r : Rescue) → Event
  Fetch : (a s : ℕ) → Event
  Issue : (a s : ℕ) → (block : Block) → (mark : ℕ) → Event
  Replay : (r : Rescue) → (s : ℕ) → (block : Block) → Event
  Land : (s : ℕ) → (f : Flight) → Event
  Fade : (s : ℕ) → (f : Flight) → Event
  Break : (s : ℕ) → (f : Flight) → Event
  BreakNew : (s : ℕ) → (f : Flight) → Event
  FetchBytes : (a s : ℕ) → Event
  Clear : (a s : ℕ) → Event
  IssueBytes : (a s : ℕ) → (block : Block) → (mark : ℕ) → Event
  LandBytes : (s : ℕ) → (f : ByteFlight) → Event
  FadeBytes : (s : ℕ) → (f : ByteFlight) → Event
  BreakBytes : (s : ℕ) → (f : ByteFlight) → Event
  BreakBytesNew : (s : ℕ) → (f : ByteFlight) → Event
  Settle : (a s : ℕ) → (block : Block) → (mark : ℕ) → Event

-- when it may happen
abbrev pub Can : World → Event → Type 0
Can w Tick = Unit {0}
Can w Leave = Unit {0}
Can w (Fail a) = Unit {0}
Can w (Renew a) = CanRenew w a
Can w (Mount a) = CanMount w a
Can w (Unmount a) = CanUnmount w a
Can w (Take a l mode) = CanTake w a l mode
Can w (Give a l) = CanGive w a l
Can w (Lower a l) = CanLower w a l
Can w (Do c) = CanDo w c
Can w (Reach d k) = CanReach w d k
Can w (Ack a k) = CanAck w a k
Can w (Sync a) = CanSync w a
Can w (Reclaim a k) = CanReclaim w a k
Can w (Crash a) = w.phase a ≡ Up
Can w (Begin d b) = CanBegin w d b
Can w (Look r s) = w.rescue ≡ Some r
Can w (Finish r) = CanFinish w r
Can w (Fetch a s) = CanFetch w a s
Can w (Issue a s block mark) = CanIssue w a s block mark
Can w (Replay r s block) = CanReplay w r s block
Can w (Land s f) = CanLand w s f
Can w (Fade s f) = CanFade w s f
Can w (Break s f) = CanLand w s f
Can w (BreakNew s f) = CanLand w s f
Can w (FetchBytes a s) = CanFetchBytes w a s
Can w (Clear a s) = CanClear w a s
Can w (IssueBytes a s block mark) = CanIssueBytes w a s block mark
Can w (LandBytes s f) = CanLandBytes w s f
Can w (FadeBytes s f) = CanFadeBytes w s f
Can w (BreakBytes s f) = CanLandBytes w s f
Can w (BreakBytesNew s f) = CanLandBytes w s f
Can w (Settle a s block mark) = CanSettle w a s block mark

-- the slot after an operation that changes the sector, or doesn't
abbrev pub changed : Option Change → ℕ → Slot → Slot
changed None op slot = slot
changed (Some x) op Absent = Absent
changed (Some x) op (Clean block) = Dirty (forced (Some x) block) op
changed (Some x) op (Dirty block mark) = Dirty (forced (Some x) block) op

-- the slot after a write of it came to the disk: clean where it holds what came
abbrev pub landed : Block → Slot → Slot
landed block Absent = Absent
landed block (Clean old) = Clean old
landed block (Dirty old mark) = if bytes_eq old block then Clean old else Dirty old mark

-- the recovery after a write on behalf of d came to the disk
abbrev pub rescue_landed : ℕ → ℕ → Option Rescue → Option Rescue
rescue_landed d s None = None
rescue_landed d s (Some r) = Some (record { dead = r.dead; by = r.by; told = if nat_eq r.dead d then put r.told s InPlace else r.told })

-- the recovery after its server died
abbrev pub rescue_left : ℕ → Option Rescue → Option Rescue
rescue_left a None = None
rescue_left a (Some r) = if nat_eq r.by a then None else Some r

-- the recovery after a put on behalf of d failed: it is over where the log is d's
abbrev pub rescue_broken : ℕ → Option Rescue → Option Rescue
rescue_broken d None = None
rescue_broken d (Some r) = if nat_eq r.dead d then None else Some r

-- the log is held by this server
abbrev pub is_taker : ℕ → Option ℕ → Bool
is_taker a None = false
is_taker a (Some b) = nat_eq b a

-- the holds on logs after a server renewed its lease to this moment
abbrev pub extended : ℕ → ℕ → (ℕ → Option ℕ) → (ℕ → ℕ) → ℕ → ℕ
extended a moment taker until d = if is_taker a (taker d) then moment else until d

-- who holds a log once this server holds none
abbrev pub dropped : ℕ → Option ℕ → Option ℕ
dropped a None = None
dropped a (Some b) = if nat_eq b a then None else Some b

-- until when a log is held, where it is
abbrev pub held_until : Option ℕ → ℕ → ℕ
held_until None moment = 0
held_until (Some b) moment = moment

-- what is found of a sector: a replay makes this of what the disk has
abbrev pub found : Block → Block → Told
found old new = if nat_lt (version_of old) (version_of new) then Wanted new else InPlace

-- the page after an operation: none where the sector becomes one with versions
abbrev pub page_filled : Option Fill → ℕ → Page → Page
page_filled None op page = page
page_filled (Some (Written block)) op page = DirtyPage block op
page_filled (Some Freed) op page = FreedPage op

-- the page after an operation that claims the sector, writes or frees its bytes, or does neither
abbrev pub page_done : Bool → Option Fill → ℕ → Page → Page
page_done claimed fill op page = if claimed then NoPage else page_filled fill op page

-- what a read shows after an operation
abbrev pub truth_filled : Option Fill → Block → Block
truth_filled None old = old
truth_filled (Some (Written block)) old = block
truth_filled (Some Freed) old = old

-- a freed page isn't kept with a lock that is given or held shared
abbrev pub page_lowered : Page → Page
page_lowered NoPage = NoPage
page_lowered (CleanPage block) = CleanPage block
page_lowered (DirtyPage block mark) = DirtyPage block mark
page_lowered (FreedPage mark) = NoPage

-- the page after a write of it came to the disk: clean where it holds what came and the log is acknowledged up to its mark
abbrev pub page_landed : ℕ → Block → Page → Page
page_landed acked block NoPage = NoPage
page_landed acked block (CleanPage old) = CleanPage old
page_landed acked block (DirtyPage old mark) = if bytes_eq old block && nat_le mark acked then CleanPage old else DirtyPage old mark
page_landed acked block (FreedPage mark) = FreedPage mark

-- of a sector that a dead server held alone the disk's bytes count from the end of its recovery on
abbrev pub truth_left : Option Mode → Block → Block → Block
truth_left None bytes truth = truth
truth_left (Some Shared) bytes truth = truth
truth_left (Some Sole) bytes truth = bytes

-- the world after an event
abbrev pub after : World → Event → World
after w Tick = record w { now = w.now + 1 }
-- a recovery isn't gone on with
after w Leave = record w { rescue = None }
-- a get failed: the server issues no more in this mount
after w (Fail a) = record w { sick = put w.sick a true }
after w (Renew a) = record w { expiry = put w.expiry a (w.now + LEASE_TICKS); until = extended a (w.now + LEASE_TICKS) w.taker w.until }
after w (Mount a) = record w {
  phase = put w.phase a Up;
  expiry = put w.expiry a (w.now + LEASE_TICKS);
  sick = put w.sick a false;
  synced = put w.synced a (w.last a);
  history = Mounted a (w.last a) ∷ w.history;
}
after w (Unmount a) = record w { phase = put w.phase a Off; sick = put w.sick a true; synced = put w.synced a (w.last a); history = Synced a (w.last a) ∷ w.history }
after w (Take a l mode) = record w { holds = put_lock w.holds a l (Some mode) }
after w (Give a l) = record w {
  holds = put_lock w.holds a l None;
  slot = put w.slot a (λ s. if same_lock (cover w s) l then Absent else w.slot a s);
  page = put w.page a (λ s. if same_lock (cover w s) l then NoPage else w.page a s);
}
after w (Lower a l) = record w {
  holds = put_lock w.holds a l (Some Shared);
  page = put w.page a (λ s. if same_lock (cover w s) l then page_lowered (w.page a s) else w.page a s);
}
after w (Do c) = record w {
  slot = put w.slot c.by (λ s. changed (change_at c.changes s) c.op (w.slot c.by s));
  page = put w.page c.by (λ s. page_done (c.claims s) (c.writes s) c.op (w.page c.by s));
  truth = λ s. truth_filled (c.writes s) (w.truth s);
  log = put w.log c.by (redo_of c ∷ w.log c.by);
  last = put w.last c.by c.op;
  history = Did c ∷ w.history;
}
after w (Reach d k) = record w { durable = put w.durable d k }
after w (Ack a k) = record w { acked = put w.acked a k }
after w (Sync a) = record w { synced = put w.synced a (w.last a); history = Synced a (w.last a) ∷ w.history }
after w (Reclaim a k) = record w { log = put w.log a (above k (w.log a)); floor = put w.floor a k }
after w (Crash a) = record w {
  phase = put w.phase a Dead;
  sick = put w.sick a true;
  slot = put w.slot a (λ s. Absent);
  page = put w.page a (λ s. NoPage);
  rescue = rescue_left a w.rescue;
}
after w (Begin d b) = record w { rescue = Some (record { dead = d; by = b; told = λ s. Unread }); taker = put w.taker d (Some b); until = put w.until d (w.expiry b) }
after w (Look r s) = record w { rescue = Some (record { dead = r.dead; by = r.by; told = put r.told s (found (w.disk s) (redo_all (to_replay w r.dead) s (w.disk s))) }) }
after w (Finish r) = record w {
  phase = put w.phase r.dead Off;
  holds = put w.holds r.dead (λ l. None);
  log = put w.log r.dead [];
  floor = put w.floor r.dead (w.durable r.dead);
  acked = put w.acked r.dead (w.durable r.dead);
  last = put w.last r.dead (w.durable r.dead);
  truth = λ s. truth_left (w.holds r.dead (cover w s)) (w.bytes s) (w.truth s);
  taker = λ d. dropped r.dead (put w.taker r.dead None d);
  until = λ d. held_until (dropped r.dead (put w.taker r.dead None d)) (w.until d);
  rescue = None;
  history = Recovered r.dead (w.durable r.dead) ∷ w.history;
}
after w (Fetch a s) = record w { slot = put2 w.slot a s (Clean (w.disk s)) }
after w (Issue a s block mark) = record w { flight = put w.flight s (Some (record { by = a; behalf = a; stamp = w.expiry a - MARGIN_TICKS; block = block })) }
after w (Replay r s block) = record w { flight = put w.flight s (Some (record { by = r.by; behalf = r.dead; stamp = w.expiry r.by - MARGIN_TICKS; block = block })) }
after w (Land s f) = record w {
  disk = put w.disk s f.block;
  flight = put w.flight s None;
  slot = put2 w.slot f.behalf s (landed f.block (w.slot f.behalf s));
  rescue = rescue_landed f.behalf s w.rescue;
}
after w (Fade s f) = record w { flight = put w.flight s None }
-- a put failed, and left the old sector or the new one
after w (Break s f) = record w { flight = put w.flight s None; sick = put w.sick f.by true; rescue = rescue_broken f.behalf w.rescue }
after w (BreakNew s f) = record w { disk = put w.disk s f.block; flight = put w.flight s None; sick = put w.sick f.by true; rescue = rescue_broken f.behalf w.rescue }
after w (FetchBytes a s) = record w { page = put2 w.page a s (CleanPage (w.bytes s)) }
after w (Clear a s) = record w { page = put2 w.page a s (DirtyPage zero_block (w.last a)); truth = put w.truth s zero_block }
after w (IssueBytes a s block mark) = record w { byte_flight = put w.byte_flight s (Some (record { by = a; stamp = w.expiry a - MARGIN_TICKS; block = block })) }
after w (LandBytes s f) = record w {
  bytes = put w.bytes s f.block;
  byte_flight = put w.byte_flight s None;
  page = put2 w.page f.by s (page_landed (w.acked f.by) f.block (w.page f.by s));
}
after w (FadeBytes s f) = record w { byte_flight = put w.byte_flight s None }
after w (BreakBytes s f) = record w { byte_flight = put w.byte_flight s None; sick = put w.sick f.by true }
after w (BreakBytesNew s f) = record w { bytes = put w.bytes s f.block; byte_flight = put w.byte_flight s None; sick = put w.sick f.by true }
after w (Settle a s block mark) = record w { page = put2 w.page a s (CleanPage block) }

-- The events lead from one world to another, each when it may happen.
pub data Run : World → List Event → World → Type 0 where
  stays : {w : World} → Run w [] w
  goes : {w : World} {e : Event} {es : List Event} {v : World} → Can w e → Run (after w e) es v → Run w (e ∷ es) v
