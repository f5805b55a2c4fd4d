-- Every event and every step: the line that is said may be said, and what is told fits afterwards.
use Rattle.std.proofs.Common.{ℕ, ◌≡◌, ◌≤◌, ◌+◌, ◌%◌, Bool, true, false, not, ◌&&◌, ◌||◌, ◌==◌, if◌then◌else◌, IsTrue, List, [], Option, Some, None, length, nat_eq, refl, sym, subst}
use Rattle.std.proofs.lemmas.Bool.{false≢true}
use Rattle.std.specs.Option.{IsSome, option_map}
use Rattle.std.proofs.lemmas.Option.{none-some}
use Rattle.frang_base.specs.Functions.{put}
use Rattle.frang_base.specs.declared.lock.LockId.{LockId}
use Rattle.frang_base.specs.declared.op.Op.{Op}
use Rattle.frang_base.specs.declared.said.Said.{Said}
use Rattle.frang_base.specs.declared.script.Line.{Line}
use Rattle.lock_definitions.specs.Calls.{asked_for, cleared}
use Rattle.lock_definitions.specs.declared.claim.AskedFor.{AskedFor}
use Rattle.lock_definitions.specs.declared.claim.AskedFor.TheVariants.{Release, Downgrade}
use Rattle.sector_bytes.specs.SectorMaps.{value_at}
use Rattle.sector_bytes.specs.Sectors.{Sectors}
use Rattle.tree_definitions.specs.History.{Opening}
use Rattle.tree_definitions.specs.Transcript.{Faults, may_be_dirty}
use Rattle.core_definitions.specs.Settings.{lease_to}
use Rattle.cache_definitions.specs.Caches.{dropped}
use Rattle.core_definitions.specs.Lines.{operation_of}
use Rattle.core_definitions.specs.Flights.{Flight}
use Rattle.core_definitions.specs.Recoveries.{Recovery}
use Rattle.core_definitions.specs.Scripts.{host_party, hosts_answered}
use Rattle.core_definitions.specs.Servers.{Phase, Off, Up, Still, Doomed, Dead, Server, is_off, is_still, is_up, wanting_all}
use Rattle.core_definitions.specs.Writes.{Write}
use Rattle.core_definitions.specs.Cores.{Core, clean_at, next_of, stage, writes}
use Rattle.core_definitions.specs.Events.{Event, Begin, Ask, Fetch, Again, Clear, Commit, Answer, Give, Issue, Doom, Resume, Arrive, Lose, Die, Renew, Tick, Recover, Load, Look, Finish, HostLine, Close, Read, Show, End, Heard, Nothing, Got, GetFailed, Written, Late, PutFailed}
use Rattle.core_definitions.specs.LineGuards.{CanBegin, is_line, is_server}
use Rattle.core_definitions.specs.WriteGuards.{CanDoom}
use Rattle.core_definitions.specs.EndGuards.{CanClose}
use Rattle.core_definitions.specs.Guards.{CanGoing}
use Rattle.core_definitions.specs.LineEffects.{again_by, begun_line, begun_with, call_failed, cleared_at, failed_by, fetch_failed, fetched_by, off_after, refused_under, with_under}
use Rattle.core_definitions.specs.WriteEffects.{acknowledged, arrived_from, counted, doomed, fate_of, flushed_at, given_for, issued_as, landed, ring_after, taken_in}
use Rattle.core_definitions.specs.EndEffects.{closed, look_made, slot_loaded}
use Rattle.core_definitions.specs.Effects.{MayHear, MayLoad, after, deeds_of, deeds_of_arrival}
use Rattle.core_definitions.specs.Runs.{saids_of}
use Rattle.core_definitions.specs.Faults.{failing}
use Rattle.core_laws.proofs.Memory.{Good}
use Rattle.core_laws.proofs.Resting.{server_no_host}
use Rattle.core_transcripts.specs.Faults.{CountsAt}
use Rattle.core_transcripts.specs.Transcripts.{IsNumbered, MaySayButTree}
use Rattle.core_transcripts.proofs.Answering.{due_turn}
use Rattle.core_transcripts.proofs.Closing.{end_turn, show_turn}
use Rattle.core_transcripts.proofs.Committing.{commit_turn, host_turn}
use Rattle.core_transcripts.proofs.Dooming.{is_doomed_so}
use Rattle.core_transcripts.proofs.Fits.{key_of}
use Rattle.core_transcripts.proofs.Fitting.{Fitting, ended_so, one_key, same_key, same_keys, told_of}
use Rattle.core_transcripts.proofs.Happening.{CoreFits, Turn, Quiet}
use Rattle.core_transcripts.proofs.Living.{die_turn, finish_turn, recover_turn, resume_turn}
use Rattle.core_transcripts.proofs.Numbering.{all_is_none}
use Rattle.core_transcripts.proofs.Steady.{acknowledged_steady, again_steady, fetched_steady, flushed_steady, issued_steady, recovery_steady}
use Rattle.core_transcripts.proofs.Turns.{IsDoomed, begun_fits, closed_fits, doomed_fits, failed_fits, refused_fits}

-- a get isn't answered so
abbrev pub NoGet : Heard → Type 0
NoGet (Got block) = ⊥
NoGet GetFailed = ⊥
NoGet heard = Unit {0}

pub no_load : {P : Type 0} (slot : ℕ) (disk : Sectors) (heard : Heard) (o : Option Recovery) → (NoGet heard) → MayLoad disk slot o heard → P
no_load slot disk heard None none h = absurd h
no_load slot disk Nothing (Some r) none h = absurd h
no_load slot disk Written (Some r) none h = absurd h
no_load slot disk Late (Some r) none h = absurd h
no_load slot disk (PutFailed new) (Some r) none h = absurd h
no_load slot disk (Got block) (Some r) none h = absurd none
no_load slot disk GetFailed (Some r) none h = absurd none

doomed_off : (p : Phase) → IsTrue (is_up p || is_still p) → IsTrue (is_off p) → ⊥
doomed_off Off m h = false≢true m
doomed_off Up m h = false≢true h
doomed_off Still m h = false≢true h
doomed_off (Doomed f) m h = false≢true h
doomed_off Dead m h = false≢true m

module _ (opening : Opening) (f : Faults) (stay : (early late server : ℕ) → early ≤ late → f early server ≡ true → f late server ≡ true) (c : Core) (saids : List Said)
    (numbered : IsNumbered c.setting.script) (going : c.over ≡ false) (g : CoreFits c.setting.script f saids c) (good : Good c)
    (lease : (a : ℕ) → IsTrue (is_server a) → IsTrue (is_still (c.servers a).phase) → IsTrue (not (clean_at c a)) → IsTrue (may_be_dirty c.setting.script a saids || f (length saids) a)) where
  abbrev Rule : List Said → Said → Type 0
  Rule = MaySayButTree c.setting.script opening f

  abbrev Stays : Core → Type 0
  Stays d = CoreFits c.setting.script f saids d

  -- one server is as it was in all that counts
  steadily : (a : ℕ) (v : Server) → key_of v ≡ key_of (c.servers a) → Fitting c.setting.script f saids (λ i. key_of (put c.servers a v i)) c.answered c.over c.shown
  steadily a v same = same_key c.setting.script f saids c.answered c.over c.shown c.servers a v same g

  -- ---- Begin
  begun : (a : ℕ) → CanBegin c a → Stays (after c (Begin a) Nothing)
  begun a can = go (next_of c a) refl can.next
    where
      line : (l : Line) → next_of c a ≡ Some l → IsTrue (hosts_answered c.setting.script c.answered l.number) → (o : Option Op) → operation_of l.what ≡ o →
          Fitting c.setting.script f saids (λ i. key_of (put c.servers a (begun_with (c.servers a) l o) i)) c.answered c.over c.shown
      line l e hosts None is = steadily a (c.servers a) refl
      line l e hosts (Some o) is =
          one_key c.setting.script f saids c.answered c.over c.shown c.servers a (begun_with (c.servers a) l (Some o))
          (begun_fits (c.servers a) (told_of c.setting.script f saids c.answered a) l (Some o) is e hosts can.phase (λ all. all_is_none c.setting.script c.answered a l all e) (g.servers a))
          (λ d w s. g.rescues a d w s) (λ h. h) g

      go : (o : Option Line) → next_of c a ≡ o → IsSome o → Fitting c.setting.script f saids (λ i. key_of (put c.servers a (begun_line (c.servers a) (next_of c a)) i)) c.answered c.over c.shown
      go None e some = absurd (false≢true some)
      go (Some l) e some =
          subst (λ o. Fitting c.setting.script f saids (λ i. key_of (put c.servers a (begun_line (c.servers a) o) i)) c.answered c.over c.shown) (sym e)
          (line l e (subst (λ o. IsTrue (is_line (λ l. hosts_answered c.setting.script c.answered l.number) o)) e can.hosts) (operation_of l.what) refl)

  -- ---- calls that fail
  failed : (d : Core) (a : ℕ) → d.servers ≡ c.servers → d.answered ≡ c.answered → d.over ≡ c.over → d.shown ≡ c.shown → f (length saids) a ≡ true → Stays (call_failed d a)
  failed d a servers answered over shown m = go (nat_eq a host_party)
    where
      same : Fitting c.setting.script f saids (λ i. key_of (d.servers i)) d.answered d.over d.shown
      same =
          subst (λ x. Fitting c.setting.script f saids (λ i. key_of (x i)) d.answered d.over d.shown) (sym servers)
          (subst (λ x. Fitting c.setting.script f saids (λ i. key_of (c.servers i)) x d.over d.shown) (sym answered)
          (subst (λ x. Fitting c.setting.script f saids (λ i. key_of (c.servers i)) c.answered x d.shown) (sym over)
          (subst (λ x. Fitting c.setting.script f saids (λ i. key_of (c.servers i)) c.answered c.over x) (sym shown) g)))

      go : (b : Bool) → Stays (if b then record d { over = true } else record d { servers = put d.servers a (failed_by (d.servers a)) })
      go true = ended_so c.setting.script f saids (λ i. key_of (d.servers i)) d.answered d.over d.shown same
      go false =
          one_key c.setting.script f saids d.answered d.over d.shown d.servers a (failed_by (d.servers a)) (failed_fits (d.servers a) (told_of c.setting.script f saids d.answered a) m (same.servers a))
          (λ d w s. same.rescues a d w s) (λ h. h) same

  fetch_fails : (a : ℕ) → f (length saids) a ≡ true → Stays (fetch_failed c a)
  fetch_fails a m = go (is_off (c.servers a).phase)
    where
      go : (b : Bool) → Stays (if b then record c { servers = put c.servers a (with_under (c.servers a) refused_under) } else call_failed c a)
      go true =
          one_key c.setting.script f saids c.answered c.over c.shown c.servers a (with_under (c.servers a) refused_under) (refused_fits (c.servers a) (told_of c.setting.script f saids c.answered a) m (g.servers a))
          (λ d w s. g.rescues a d w s) (λ h. h) g
      go false = failed c a refl refl refl refl m

  -- ---- effects by cases
  given_stays : (a : ℕ) (lock : LockId) (o : Option AskedFor) → Stays (given_for c a lock o)
  given_stays a lock None = g
  given_stays a lock (Some Downgrade) = g
  given_stays a lock (Some Release) = steadily a (record (c.servers a) { cache = dropped (c.servers a).cache lock }) refl

  issued_stays : (a sector : ℕ) (o : Option Write) → Stays (issued_as c a sector o)
  issued_stays a sector None = g
  issued_stays a sector (Some write) =
      steadily a (record (c.servers a) { ring = ring_after write.purpose (c.servers a).ring; arming = counted (c.servers a).arming }) (issued_steady (c.servers a) (ring_after write.purpose (c.servers a).ring))

  taken_stays : (ticket : ℕ) (flight : Flight) → Stays (taken_in (landed c ticket) flight)
  taken_stays ticket flight = go flight.present
    where
      go : (b : Bool) → Stays (if b then record (landed c ticket) { servers = put c.servers flight.server (acknowledged flight.sector flight.block flight.purpose (c.servers flight.server)) } else landed c ticket)
      go true = steadily flight.server (acknowledged flight.sector flight.block flight.purpose (c.servers flight.server)) (acknowledged_steady flight.sector flight.block flight.purpose (c.servers flight.server))
      go false = g

  arrived_stays : (ticket : ℕ) (heard : Heard) (o : Option Flight) → value_at c.flights ticket ≡ o → CountsAt f (length saids) (failing c (Arrive ticket) heard) → Stays (arrived_from c ticket heard o)
  arrived_stays ticket heard None e counts = g
  arrived_stays ticket Nothing (Some flight) e counts = g
  arrived_stays ticket (Got block) (Some flight) e counts = g
  arrived_stays ticket GetFailed (Some flight) e counts = g
  arrived_stays ticket Written (Some flight) e counts = taken_stays ticket flight
  arrived_stays ticket Late (Some flight) e counts = g
  arrived_stays ticket (PutFailed new) (Some flight) e counts =
      failed (landed c ticket) flight.server refl refl refl refl (subst (λ o. CountsAt f (length saids) (option_map (λ flight. flight.server) o)) e counts)

  closed_stays : (a : ℕ) → CanClose c a → Stays (closed c a)
  closed_stays a can = go (clean_at c a)
    where
      go : (b : Bool) → Stays (if b then record c { servers = put c.servers a (off_after (c.servers a)); locks = cleared c.locks a } else record c { servers = put c.servers a (wanting_all (c.servers a)) })
      go true =
          one_key c.setting.script f saids c.answered c.over c.shown c.servers a (off_after (c.servers a)) (closed_fits (c.servers a) (told_of c.setting.script f saids c.answered a) can.up can.answered (g.servers a))
          (λ d w s. absurd (none-some d s)) (λ h. refl) g
      go false = steadily a (wanting_all (c.servers a)) refl

  arrival_says : (now : ℕ) (heard : Heard) (o : Option Flight) → saids_of (deeds_of_arrival now heard o) ≡ []
  arrival_says now heard None = refl
  arrival_says now Nothing (Some flight) = refl
  arrival_says now (Got block) (Some flight) = refl
  arrival_says now GetFailed (Some flight) = refl
  arrival_says now Written (Some flight) = refl
  arrival_says now Late (Some flight) = refl
  arrival_says now (PutFailed new) (Some flight) = refl

  -- ---- each event
  fetch_turn : (a sector : ℕ) (heard : Heard) (disk : Sectors) → MayHear c disk (Fetch a sector) heard → CountsAt f (length saids) (failing c (Fetch a sector) heard) →
      Turn Rule c.setting.script f saids [] (after c (Fetch a sector) heard)
  fetch_turn a sector (Got block) disk hears counts = Quiet refl (steadily a (fetched_by a (stage c a) sector block (c.servers a)) (fetched_steady a (stage c a) sector block (c.servers a)))
  fetch_turn a sector GetFailed disk hears counts = Quiet refl (fetch_fails a counts)
  fetch_turn a sector Nothing disk hears counts = absurd hears
  fetch_turn a sector Written disk hears counts = absurd hears
  fetch_turn a sector Late disk hears counts = absurd hears
  fetch_turn a sector (PutFailed new) disk hears counts = absurd hears

  load_turn : (by slot : ℕ) (heard : Heard) (disk : Sectors) → MayHear c disk (Load by slot) heard → CountsAt f (length saids) (failing c (Load by slot) heard) →
      Turn Rule c.setting.script f saids [] (after c (Load by slot) heard)
  load_turn by slot (Got block) disk hears counts =
      Quiet refl (steadily by (record (c.servers by) { recovery = option_map (slot_loaded slot block) (c.servers by).recovery }) (recovery_steady (c.servers by) (slot_loaded slot block) (λ r. refl)))
  load_turn by slot GetFailed disk hears counts = Quiet refl (failed c by refl refl refl refl counts)
  load_turn by slot Nothing disk hears counts = no_load slot disk Nothing (c.servers by).recovery tt hears
  load_turn by slot Written disk hears counts = no_load slot disk Written (c.servers by).recovery tt hears
  load_turn by slot Late disk hears counts = no_load slot disk Late (c.servers by).recovery tt hears
  load_turn by slot (PutFailed new) disk hears counts = no_load slot disk (PutFailed new) (c.servers by).recovery tt hears

  look_turn : (by sector : ℕ) (heard : Heard) (disk : Sectors) → MayHear c disk (Look by sector) heard → CountsAt f (length saids) (failing c (Look by sector) heard) →
      Turn Rule c.setting.script f saids [] (after c (Look by sector) heard)
  look_turn by sector (Got block) disk hears counts =
      Quiet refl (steadily by (record (c.servers by) { recovery = option_map (look_made c sector block) (c.servers by).recovery }) (recovery_steady (c.servers by) (look_made c sector block) (λ r. refl)))
  look_turn by sector GetFailed disk hears counts = Quiet refl (failed c by refl refl refl refl counts)
  look_turn by sector Nothing disk hears counts = absurd hears
  look_turn by sector Written disk hears counts = absurd hears
  look_turn by sector Late disk hears counts = absurd hears
  look_turn by sector (PutFailed new) disk hears counts = absurd hears

  read_turn : (sector : ℕ) (heard : Heard) (disk : Sectors) → MayHear c disk (Read sector) heard → CountsAt f (length saids) (failing c (Read sector) heard) →
      Turn Rule c.setting.script f saids [] (after c (Read sector) heard)
  read_turn sector (Got block) disk hears counts = Quiet refl g
  read_turn sector GetFailed disk hears counts = Quiet refl (failed c host_party refl refl refl refl counts)
  read_turn sector Nothing disk hears counts = absurd hears
  read_turn sector Written disk hears counts = absurd hears
  read_turn sector Late disk hears counts = absurd hears
  read_turn sector (PutFailed new) disk hears counts = absurd hears

  ticked_stays : Stays (after c Tick Nothing)
  ticked_stays =
      same_keys c.setting.script f saids c.answered c.over c.shown (λ i. key_of (c.servers i)) (λ i. key_of (flushed_at c (c.now + 1) i))
      (λ i. flushed_steady ((c.now + 1) % c.setting.flush_ticks == 0) (c.servers i)) g

  doom_turn : (a : ℕ) → CanDoom c a → Turn Rule c.setting.script f saids [] (doomed c a)
  doom_turn a can =
      let is : IsDoomed (c.servers a) (told_of c.setting.script f saids c.answered a) (fate_of c a) = is_doomed_so c a (told_of c.setting.script f saids c.answered a) (g.servers a) can (lease a can.server) in
      Quiet refl
      (one_key c.setting.script f saids c.answered c.over c.shown c.servers a (record (c.servers a) { phase = Doomed (fate_of c a) })
      (doomed_fits (c.servers a) (told_of c.setting.script f saids c.answered a) (fate_of c a) is (g.servers a))
      (λ d w s. absurd (doomed_works_not (is_server a) (nat_eq a host_party) (server_no_host a can.server) w)) (λ h. absurd (doomed_off (c.servers a).phase is.mount h)) g)
    where
      doomed_works_not : (s h : Bool) → h ≡ false → IsTrue ((s && false) || h) → ⊥
      doomed_works_not true true e w = false≢true (sym e)
      doomed_works_not true false e w = false≢true w
      doomed_works_not false true e w = false≢true (sym e)
      doomed_works_not false false e w = false≢true w

  pub event_turn : (event : Event) (heard : Heard) (disk : Sectors) → CanGoing c event → MayHear c disk event heard → CountsAt f (length saids) (failing c event heard) →
      Turn Rule c.setting.script f saids (deeds_of c event heard) (after c event heard)
  event_turn (Begin a) heard disk can hears counts = Quiet refl (begun a can)
  event_turn (Ask a lock mode) heard disk can hears counts = Quiet refl g
  event_turn (Fetch a sector) heard disk can hears counts = fetch_turn a sector heard disk hears counts
  event_turn (Again a) heard disk can hears counts = Quiet refl (steadily a (again_by c.setting.logs (stage c a) (c.servers a)) (again_steady c.setting.logs (stage c a) (c.servers a)))
  event_turn (Clear a block) heard disk can hears counts = Quiet refl (steadily a (cleared_at block (c.servers a)) refl)
  event_turn (Commit a) heard disk can hears counts = commit_turn opening f stay c saids numbered going g a can
  event_turn (Answer a) heard disk can hears counts = due_turn opening f stay c saids numbered going g a can
  event_turn (Give a lock) heard disk can hears counts = Quiet refl (given_stays a lock (asked_for c.locks a lock))
  event_turn (Issue a sector) heard disk can hears counts = Quiet refl (issued_stays a sector (value_at (writes c a) sector))
  event_turn (Doom a) heard disk can hears counts = doom_turn a can
  event_turn (Resume a) heard disk can hears counts = resume_turn opening f stay c saids numbered going g good a can
  event_turn (Arrive ticket) heard disk can hears counts = Quiet (arrival_says c.now heard (value_at c.flights ticket)) (arrived_stays ticket heard (value_at c.flights ticket) refl counts)
  event_turn (Lose ticket) heard disk can hears counts = Quiet refl g
  event_turn (Die a) heard disk can hears counts = die_turn opening f stay c saids numbered going g good a can
  event_turn (Renew a) heard disk can hears counts = Quiet refl (steadily a (record (c.servers a) { expiry = lease_to c.setting c.now }) refl)
  event_turn Tick heard disk can hears counts = Quiet refl ticked_stays
  event_turn (Recover dead by) heard disk can hears counts = recover_turn opening f stay c saids numbered going g good dead by can
  event_turn (Load by slot) heard disk can hears counts = load_turn by slot heard disk hears counts
  event_turn (Look by sector) heard disk can hears counts = look_turn by sector heard disk hears counts
  event_turn (Finish by) heard disk can hears counts = finish_turn opening f stay c saids numbered going g good by can
  event_turn (HostLine number) heard disk can hears counts = host_turn opening f stay c saids numbered going g number can
  event_turn (Close a) heard disk can hears counts = Quiet refl (closed_stays a can)
  event_turn (Read sector) heard disk can hears counts = read_turn sector heard disk hears counts
  event_turn (Show place) heard disk can hears counts = show_turn opening f stay c saids numbered going g place can
  event_turn End heard disk can hears counts = end_turn opening f stay c saids numbered going g can
