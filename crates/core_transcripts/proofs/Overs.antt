-- At which events it is over: the answer to a halt, the end, and a failed call of the host; and that the clock comes to its last moment at most.
use Rattle.std.proofs.Common.{ℕ, ◌≡◌, ◌≤◌, ◌+◌, Bool, true, false, ◌||◌, ◌==◌, if◌then◌else◌, IsTrue, List, [], ◌∷◌, ◌++◌, Option, Some, None, nat_eq, nat_lt, refl, sym, ap, ◌∙◌, subst, arith}
use Rattle.std.proofs.lemmas.Bool.{false≢true, or_right, or_left, eqb-true}
use Rattle.std.proofs.lemmas.Bool.Decides.{nat_tests}
use Rattle.std.specs.List.{list_any}
use Rattle.std.specs.Option.{option_map}
use Rattle.frang_base.specs.Functions.{put}
use Rattle.frang_base.specs.declared.limits.TheConstants.{LAST_TICK}
use Rattle.frang_base.specs.declared.op.Op.{Op}
use Rattle.frang_base.specs.declared.reply.Reply.{Reply}
use Rattle.frang_base.specs.declared.reply.Reply.TheVariants as reply
use Rattle.frang_base.specs.declared.lock.LockId.{LockId}
use Rattle.frang_base.specs.declared.said.Said.{Said}
use Rattle.frang_base.specs.declared.said.Said.TheVariants as said
use Rattle.frang_base.specs.declared.script.Line.{Line}
use Rattle.lock_definitions.specs.Calls.{asked_for}
use Rattle.lock_definitions.specs.declared.claim.AskedFor.{AskedFor}
use Rattle.lock_definitions.specs.declared.claim.AskedFor.TheVariants.{Release, Downgrade}
use Rattle.sector_bytes.specs.SectorMaps.{value_at}
use Rattle.sector_bytes.specs.Sectors.{Sectors}
use Rattle.tree_definitions.specs.Live.{line_of}
use Rattle.tree_definitions.specs.Transcript.{halts, is_end, is_halt, is_halt_line, is_over}
use Rattle.core_definitions.specs.Flights.{Flight}
use Rattle.core_definitions.specs.Lines.{Stage, Asking, Fetching, Moving, Stopping, Growing, Clearing, Finishing, Under, operation_of}
use Rattle.core_definitions.specs.Recoveries.{Recovery}
use Rattle.core_definitions.specs.Scripts.{host_party}
use Rattle.core_definitions.specs.Servers.{Phase, Off, Up, Still, Doomed, Dead, is_off}
use Rattle.core_definitions.specs.Writes.{Write}
use Rattle.core_definitions.specs.Cores.{Core, clean_at, due_at, next_of, stage, writes}
use Rattle.core_definitions.specs.Events.{Event, Begin, Ask, Fetch, Again, Clear, Commit, Answer, Give, Issue, Doom, Resume, Arrive, Lose, Die, Renew, Tick, Recover, Load, Look, Finish, HostLine, Close, Read, Show, End, Heard, Nothing, Got, GetFailed, Written, Late, PutFailed}
use Rattle.core_definitions.specs.LineGuards.{is_line, is_server}
use Rattle.core_definitions.specs.EndGuards.{CanHost}
use Rattle.core_definitions.specs.Guards.{CanGoing}
use Rattle.core_definitions.specs.LineEffects.{answered_under, answered_with, call_failed, committed_at, failed_by, fetch_failed, refused_under, with_under}
use Rattle.core_definitions.specs.WriteEffects.{arrived_from, died_in, given_for, issued_as, landed, taken_in}
use Rattle.core_definitions.specs.EndEffects.{closed, finished_from, host_answered_line}
use Rattle.core_definitions.specs.Effects.{MayHear, after, deeds_of, id_of}
use Rattle.core_definitions.specs.Runs.{saids_of}
use Rattle.core_definitions.specs.Faults.{failing, is_of}
use Rattle.core_laws.proofs.Resting.{server_no_host}
use Rattle.core_transcripts.specs.Transcripts.{IsNumbered}
use Rattle.core_transcripts.proofs.Numbering.{OfNext, line_is, of_next}
use Rattle.core_transcripts.proofs.Saying.{any_push}
use Rattle.core_transcripts.proofs.Turning.{no_load}

one_tick : (n last : ℕ) → IsTrue (nat_lt n last) → n + 1 ≤ last
one_tick n last h = grind (arith, nat_tests, h)

-- the answer to a line of the host
abbrev host_line : ℕ → Said
host_line number = said.Answer (id_of host_party) number reply.Ok

-- ---- cores whose clock stands, and that are over as they were

record Same (c d : Core) : Type 0 where
  over : d.over ≡ c.over
  now : d.now ≡ c.now

either : (c d e : Core) (b : Bool) → Same c d → Same c e → Same c (if b then d else e)
either c d e true x y = x
either c d e false x y = y

-- a call of a server fails
not_host : (c d : Core) (a : ℕ) → Same c d → nat_eq a host_party ≡ false → Same c (call_failed d a)
not_host c d a same n =
    subst (λ b. Same c (if b then record d { over = true } else record d { servers = put d.servers a (failed_by (d.servers a)) })) (sym n) (record { over = same.over; now = same.now })

module _ (c : Core) where
  itself : Same c c
  itself = record { over = refl; now = refl }

  fetch_fails : (a : ℕ) → IsTrue (is_server a) → Same c (fetch_failed c a)
  fetch_fails a server = either c _ _ (is_off (c.servers a).phase) (record { over = refl; now = refl }) (not_host c c a itself (server_no_host a server))

  commits : (a : ℕ) (at : Option Stage) → Same c (committed_at c a at)
  commits a None = itself
  commits a (Some (Asking need)) = itself
  commits a (Some (Fetching needs)) = itself
  commits a (Some Moving) = itself
  commits a (Some Stopping) = itself
  commits a (Some (Growing needs seen)) = itself
  commits a (Some (Clearing block)) = itself
  commits a (Some (Finishing outcome)) = record { over = refl; now = refl }

  answers_so : (a : ℕ) (u : Under) (r : Reply) (o : Option Op) → Same c (answered_with c a u r o)
  answers_so a u r None = itself
  answers_so a u r (Some o) = record { over = refl; now = refl }

  answers : (a : ℕ) (u : Option Under) (r : Option Reply) → Same c (answered_under c a u r)
  answers a None None = itself
  answers a None (Some r) = itself
  answers a (Some u) None = itself
  answers a (Some u) (Some r) = answers_so a u r (operation_of u.line.what)

  gives : (a : ℕ) (lock : LockId) (o : Option AskedFor) → Same c (given_for c a lock o)
  gives a lock None = itself
  gives a lock (Some Downgrade) = record { over = refl; now = refl }
  gives a lock (Some Release) = record { over = refl; now = refl }

  issues : (a sector : ℕ) (o : Option Write) → Same c (issued_as c a sector o)
  issues a sector None = itself
  issues a sector (Some write) = record { over = refl; now = refl }

  dies : (a : ℕ) (p : Phase) → Same c (died_in c a p)
  dies a Off = itself
  dies a Up = itself
  dies a Still = itself
  dies a (Doomed fate) = record { over = refl; now = refl }
  dies a Dead = itself

  finishes : (by : ℕ) (o : Option Recovery) → Same c (finished_from c by o)
  finishes by None = itself
  finishes by (Some recovery) = record { over = refl; now = refl }

  closes : (a : ℕ) → Same c (closed c a)
  closes a = either c _ _ (clean_at c a) (record { over = refl; now = refl }) (record { over = refl; now = refl })

  taken_so : (ticket : ℕ) (flight : Flight) → Same c (taken_in (landed c ticket) flight)
  taken_so ticket flight = either c _ _ flight.present (record { over = refl; now = refl }) (record { over = refl; now = refl })

  -- ---- what ends it

  module _ (saids : List Said) (numbered : IsNumbered c.setting.script) (going : c.over ≡ false) where
    -- the end, or a halt that is answered, was said, or a call of the host failed
    abbrev Ended : Event → Heard → Type 0
    Ended event heard = (is_over c.setting.script (saids ++ saids_of (deeds_of c event heard)) || is_of host_party (failing c event heard)) ≡ true

    kept : {P : Type 0} (d : Core) → Same c d → d.over ≡ true → P
    kept d same e = absurd (false≢true (sym going ∙ sym same.over ∙ e))

    by_host : (event : Event) (heard : Heard) (a : ℕ) → failing c event heard ≡ Some a → nat_eq a host_party ≡ true → Ended event heard
    by_host event heard a fails e =
        or_right (is_over c.setting.script (saids ++ saids_of (deeds_of c event heard))) (is_of host_party (failing c event heard)) (ap (is_of host_party) fails ∙ e)

    fails_so : (event : Event) (heard : Heard) (d : Core) (a : ℕ) → Same c d → failing c event heard ≡ Some a → (call_failed d a).over ≡ true → Ended event heard
    fails_so event heard d a same fails e = go (nat_eq a host_party) refl
      where
        go : (b : Bool) → nat_eq a host_party ≡ b → Ended event heard
        go true n = by_host event heard a fails n
        go false n = kept (call_failed d a) (not_host c d a same n) e

    arrives : (ticket : ℕ) (heard : Heard) (o : Option Flight) → value_at c.flights ticket ≡ o → (arrived_from c ticket heard o).over ≡ true → Ended (Arrive ticket) heard
    arrives ticket heard None f e = kept c itself e
    arrives ticket Nothing (Some flight) f e = kept c itself e
    arrives ticket (Got block) (Some flight) f e = kept c itself e
    arrives ticket GetFailed (Some flight) f e = kept c itself e
    arrives ticket Written (Some flight) f e = kept (taken_in (landed c ticket) flight) (taken_so ticket flight) e
    arrives ticket Late (Some flight) f e = kept c itself e
    arrives ticket (PutFailed new) (Some flight) f e =
        fails_so (Arrive ticket) (PutFailed new) (landed c ticket) flight.server (record { over = refl; now = refl }) (ap (λ o. option_map (λ flight. flight.server) o) f) e

    fetches : (a sector : ℕ) (heard : Heard) → IsTrue (is_server a) → (after c (Fetch a sector) heard).over ≡ true → Ended (Fetch a sector) heard
    fetches a sector (Got block) server e = kept c itself e
    fetches a sector Nothing server e = kept (fetch_failed c a) (fetch_fails a server) e
    fetches a sector GetFailed server e = kept (fetch_failed c a) (fetch_fails a server) e
    fetches a sector Written server e = kept (fetch_failed c a) (fetch_fails a server) e
    fetches a sector Late server e = kept (fetch_failed c a) (fetch_fails a server) e
    fetches a sector (PutFailed new) server e = kept (fetch_failed c a) (fetch_fails a server) e

    loads : (by slot : ℕ) (heard : Heard) (disk : Sectors) → MayHear c disk (Load by slot) heard → (after c (Load by slot) heard).over ≡ true → Ended (Load by slot) heard
    loads by slot (Got block) disk hears e = kept c itself e
    loads by slot GetFailed disk hears e = fails_so (Load by slot) GetFailed c by itself refl e
    loads by slot Nothing disk hears e = no_load slot disk Nothing (c.servers by).recovery tt hears
    loads by slot Written disk hears e = no_load slot disk Written (c.servers by).recovery tt hears
    loads by slot Late disk hears e = no_load slot disk Late (c.servers by).recovery tt hears
    loads by slot (PutFailed new) disk hears e = no_load slot disk (PutFailed new) (c.servers by).recovery tt hears

    looks : (by sector : ℕ) (heard : Heard) (disk : Sectors) → MayHear c disk (Look by sector) heard → (after c (Look by sector) heard).over ≡ true → Ended (Look by sector) heard
    looks by sector (Got block) disk hears e = kept c itself e
    looks by sector GetFailed disk hears e = fails_so (Look by sector) GetFailed c by itself refl e
    looks by sector Nothing disk hears e = absurd hears
    looks by sector Written disk hears e = absurd hears
    looks by sector Late disk hears e = absurd hears
    looks by sector (PutFailed new) disk hears e = absurd hears

    reads : (sector : ℕ) (heard : Heard) (disk : Sectors) → MayHear c disk (Read sector) heard → (after c (Read sector) heard).over ≡ true → Ended (Read sector) heard
    reads sector (Got block) disk hears e = kept c itself e
    reads sector GetFailed disk hears e = fails_so (Read sector) GetFailed c host_party itself refl e
    reads sector Nothing disk hears e = absurd hears
    reads sector Written disk hears e = absurd hears
    reads sector Late disk hears e = absurd hears
    reads sector (PutFailed new) disk hears e = absurd hears

    -- the answer to a halt
    halted : (number : ℕ) (heard : Heard) → CanHost c number → (l : Line) → next_of c host_party ≡ Some l → is_halt l.what ≡ true → Ended (HostLine number) heard
    halted number heard can l next e =
        or_left (is_over c.setting.script (saids ++ host_line number ∷ [])) false
        (or_left (list_any (halts c.setting.script) (saids ++ host_line number ∷ [])) (list_any is_end (saids ++ host_line number ∷ []))
        (any_push (halts c.setting.script) saids (host_line number) ∙ or_right (list_any (halts c.setting.script) saids) (halts c.setting.script (host_line number)) halts_so))
      where
        own : OfNext c.setting.script c.answered host_party l
        own = of_next c.setting.script c.answered host_party l next

        same : l.number ≡ number
        same = eqb-true l.number number (subst (λ o. IsTrue (is_line (λ line. line.number == number) o)) next can.next)

        halts_so : is_halt_line (line_of c.setting.script number) ≡ true
        halts_so =
            subst (λ n. is_halt_line (line_of c.setting.script n) ≡ true) same (ap is_halt_line (line_is c.setting.script l numbered.apart own.there) ∙ e)

    hosts : (number : ℕ) (heard : Heard) → CanHost c number → (o : Option Line) → next_of c host_party ≡ o → (host_answered_line c o).over ≡ true → Ended (HostLine number) heard
    hosts number heard can None next e = kept c itself e
    hosts number heard can (Some l) next e = halted number heard can l next e

    pub ends_so : (event : Event) (heard : Heard) (disk : Sectors) → CanGoing c event → MayHear c disk event heard → (after c event heard).over ≡ true → Ended event heard
    ends_so (Begin a) heard disk can hears e = kept c itself e
    ends_so (Ask a lock mode) heard disk can hears e = kept c itself e
    ends_so (Fetch a sector) heard disk can hears e = fetches a sector heard can.server e
    ends_so (Again a) heard disk can hears e = kept c itself e
    ends_so (Clear a block) heard disk can hears e = kept c itself e
    ends_so (Commit a) heard disk can hears e = kept (committed_at c a (stage c a)) (commits a (stage c a)) e
    ends_so (Answer a) heard disk can hears e = kept (answered_under c a (c.servers a).under (due_at c a)) (answers a (c.servers a).under (due_at c a)) e
    ends_so (Give a lock) heard disk can hears e = kept (given_for c a lock (asked_for c.locks a lock)) (gives a lock (asked_for c.locks a lock)) e
    ends_so (Issue a sector) heard disk can hears e = kept (issued_as c a sector (value_at (writes c a) sector)) (issues a sector (value_at (writes c a) sector)) e
    ends_so (Doom a) heard disk can hears e = kept c itself e
    ends_so (Resume a) heard disk can hears e = kept c itself e
    ends_so (Arrive ticket) heard disk can hears e = arrives ticket heard (value_at c.flights ticket) refl e
    ends_so (Lose ticket) heard disk can hears e = kept c itself e
    ends_so (Die a) heard disk can hears e = kept (died_in c a (c.servers a).phase) (dies a (c.servers a).phase) e
    ends_so (Renew a) heard disk can hears e = kept c itself e
    ends_so Tick heard disk can hears e = kept c itself e
    ends_so (Recover dead by) heard disk can hears e = kept c itself e
    ends_so (Load by slot) heard disk can hears e = loads by slot heard disk hears e
    ends_so (Look by sector) heard disk can hears e = looks by sector heard disk hears e
    ends_so (Finish by) heard disk can hears e = kept (finished_from c by (c.servers by).recovery) (finishes by (c.servers by).recovery) e
    ends_so (HostLine number) heard disk can hears e = hosts number heard can (next_of c host_party) refl e
    ends_so (Close a) heard disk can hears e = kept (closed c a) (closes a) e
    ends_so (Read sector) heard disk can hears e = reads sector heard disk hears e
    ends_so (Show place) heard disk can hears e = kept c itself e
    ends_so End heard disk can hears e =
        or_left (is_over c.setting.script (saids ++ said.End ∷ [])) false
        (or_right (list_any (halts c.setting.script) (saids ++ said.End ∷ [])) (list_any is_end (saids ++ said.End ∷ []))
        (any_push is_end saids said.End ∙ or_right (list_any is_end saids) true refl))

  -- ---- a failed call of the host ends it

  host_ends : (d : Core) (a : ℕ) → nat_eq a host_party ≡ true → (call_failed d a).over ≡ true
  host_ends d a e = subst (λ b. (if b then record d { over = true } else record d { servers = put d.servers a (failed_by (d.servers a)) }).over ≡ true) (sym e) refl

  no_fault : {P : Type 0} → false ≡ true → P
  no_fault e = absurd (false≢true e)

  flight_fails : (ticket : ℕ) (new : Bool) (o : Option Flight) → is_of host_party (option_map (λ flight. flight.server) o) ≡ true → (arrived_from c ticket (PutFailed new) o).over ≡ true
  flight_fails ticket new None e = no_fault e
  flight_fails ticket new (Some flight) e = host_ends (landed c ticket) flight.server e

  arrival_fails : (ticket : ℕ) (heard : Heard) → is_of host_party (failing c (Arrive ticket) heard) ≡ true → (after c (Arrive ticket) heard).over ≡ true
  arrival_fails ticket (PutFailed new) e = flight_fails ticket new (value_at c.flights ticket) e
  arrival_fails ticket Nothing e = no_fault e
  arrival_fails ticket (Got block) e = no_fault e
  arrival_fails ticket GetFailed e = no_fault e
  arrival_fails ticket Written e = no_fault e
  arrival_fails ticket Late e = no_fault e

  fetch_by_host : (a sector : ℕ) (heard : Heard) → IsTrue (is_server a) → is_of host_party (failing c (Fetch a sector) heard) ≡ true → ⊥
  fetch_by_host a sector GetFailed server e = false≢true (sym (server_no_host a server) ∙ e)
  fetch_by_host a sector Nothing server e = false≢true e
  fetch_by_host a sector (Got block) server e = false≢true e
  fetch_by_host a sector Written server e = false≢true e
  fetch_by_host a sector Late server e = false≢true e
  fetch_by_host a sector (PutFailed new) server e = false≢true e

  load_fails : (by slot : ℕ) (heard : Heard) → is_of host_party (failing c (Load by slot) heard) ≡ true → (after c (Load by slot) heard).over ≡ true
  load_fails by slot GetFailed e = host_ends c by e
  load_fails by slot Nothing e = no_fault e
  load_fails by slot (Got block) e = no_fault e
  load_fails by slot Written e = no_fault e
  load_fails by slot Late e = no_fault e
  load_fails by slot (PutFailed new) e = no_fault e

  look_fails : (by sector : ℕ) (heard : Heard) → is_of host_party (failing c (Look by sector) heard) ≡ true → (after c (Look by sector) heard).over ≡ true
  look_fails by sector GetFailed e = host_ends c by e
  look_fails by sector Nothing e = no_fault e
  look_fails by sector (Got block) e = no_fault e
  look_fails by sector Written e = no_fault e
  look_fails by sector Late e = no_fault e
  look_fails by sector (PutFailed new) e = no_fault e

  read_fails : (sector : ℕ) (heard : Heard) → is_of host_party (failing c (Read sector) heard) ≡ true → (after c (Read sector) heard).over ≡ true
  read_fails sector GetFailed e = host_ends c host_party e
  read_fails sector Nothing e = no_fault e
  read_fails sector (Got block) e = no_fault e
  read_fails sector Written e = no_fault e
  read_fails sector Late e = no_fault e
  read_fails sector (PutFailed new) e = no_fault e

  pub host_fails : (event : Event) (heard : Heard) → CanGoing c event → is_of host_party (failing c event heard) ≡ true → (after c event heard).over ≡ true
  host_fails (Fetch a sector) heard can e = absurd (fetch_by_host a sector heard can.server e)
  host_fails (Arrive ticket) heard can e = arrival_fails ticket heard e
  host_fails (Load by slot) heard can e = load_fails by slot heard e
  host_fails (Look by sector) heard can e = look_fails by sector heard e
  host_fails (Read sector) heard can e = read_fails sector heard e
  host_fails event heard can e = no_fault e

  -- ---- the clock

  stands : (d : Core) → Same c d → c.now ≤ LAST_TICK → d.now ≤ LAST_TICK
  stands d same h = subst (λ n. n ≤ LAST_TICK) (sym same.now) h

  fails_stand : (d : Core) (a : ℕ) → d.now ≡ c.now → c.now ≤ LAST_TICK → (call_failed d a).now ≤ LAST_TICK
  fails_stand d a same h = subst (λ n. n ≤ LAST_TICK) (sym (go (nat_eq a host_party) ∙ same)) h
    where
      go : (b : Bool) → (if b then record d { over = true } else record d { servers = put d.servers a (failed_by (d.servers a)) }).now ≡ d.now
      go true = refl
      go false = refl

  fetch_stands : (a : ℕ) → c.now ≤ LAST_TICK → (fetch_failed c a).now ≤ LAST_TICK
  fetch_stands a h = go (is_off (c.servers a).phase)
    where
      go : (b : Bool) → (if b then record c { servers = put c.servers a (with_under (c.servers a) refused_under) } else call_failed c a).now ≤ LAST_TICK
      go true = h
      go false = fails_stand c a refl h

  arrival_stands : (ticket : ℕ) (heard : Heard) (o : Option Flight) → c.now ≤ LAST_TICK → (arrived_from c ticket heard o).now ≤ LAST_TICK
  arrival_stands ticket heard None h = h
  arrival_stands ticket Nothing (Some flight) h = h
  arrival_stands ticket (Got block) (Some flight) h = h
  arrival_stands ticket GetFailed (Some flight) h = h
  arrival_stands ticket Written (Some flight) h = stands (taken_in (landed c ticket) flight) (taken_so ticket flight) h
  arrival_stands ticket Late (Some flight) h = h
  arrival_stands ticket (PutFailed new) (Some flight) h = fails_stand (landed c ticket) flight.server refl h

  fetched_stands : (a sector : ℕ) (heard : Heard) → c.now ≤ LAST_TICK → (after c (Fetch a sector) heard).now ≤ LAST_TICK
  fetched_stands a sector (Got block) h = h
  fetched_stands a sector Nothing h = fetch_stands a h
  fetched_stands a sector GetFailed h = fetch_stands a h
  fetched_stands a sector Written h = fetch_stands a h
  fetched_stands a sector Late h = fetch_stands a h
  fetched_stands a sector (PutFailed new) h = fetch_stands a h

  load_stands : (by slot : ℕ) (heard : Heard) → c.now ≤ LAST_TICK → (after c (Load by slot) heard).now ≤ LAST_TICK
  load_stands by slot (Got block) h = h
  load_stands by slot Nothing h = fails_stand c by refl h
  load_stands by slot GetFailed h = fails_stand c by refl h
  load_stands by slot Written h = fails_stand c by refl h
  load_stands by slot Late h = fails_stand c by refl h
  load_stands by slot (PutFailed new) h = fails_stand c by refl h

  look_stands : (by sector : ℕ) (heard : Heard) → c.now ≤ LAST_TICK → (after c (Look by sector) heard).now ≤ LAST_TICK
  look_stands by sector (Got block) h = h
  look_stands by sector Nothing h = fails_stand c by refl h
  look_stands by sector GetFailed h = fails_stand c by refl h
  look_stands by sector Written h = fails_stand c by refl h
  look_stands by sector Late h = fails_stand c by refl h
  look_stands by sector (PutFailed new) h = fails_stand c by refl h

  read_stands : (sector : ℕ) (heard : Heard) → c.now ≤ LAST_TICK → (after c (Read sector) heard).now ≤ LAST_TICK
  read_stands sector (Got block) h = h
  read_stands sector Nothing h = fails_stand c host_party refl h
  read_stands sector GetFailed h = fails_stand c host_party refl h
  read_stands sector Written h = fails_stand c host_party refl h
  read_stands sector Late h = fails_stand c host_party refl h
  read_stands sector (PutFailed new) h = fails_stand c host_party refl h

  host_stands : (o : Option Line) → c.now ≤ LAST_TICK → (host_answered_line c o).now ≤ LAST_TICK
  host_stands None h = h
  host_stands (Some l) h = h

  pub clock_stands : (event : Event) (heard : Heard) → CanGoing c event → c.now ≤ LAST_TICK → (after c event heard).now ≤ LAST_TICK
  clock_stands (Fetch a sector) heard can h = fetched_stands a sector heard h
  clock_stands (Commit a) heard can h = stands (committed_at c a (stage c a)) (commits a (stage c a)) h
  clock_stands (Answer a) heard can h = stands (answered_under c a (c.servers a).under (due_at c a)) (answers a (c.servers a).under (due_at c a)) h
  clock_stands (Give a lock) heard can h = stands (given_for c a lock (asked_for c.locks a lock)) (gives a lock (asked_for c.locks a lock)) h
  clock_stands (Issue a sector) heard can h = stands (issued_as c a sector (value_at (writes c a) sector)) (issues a sector (value_at (writes c a) sector)) h
  clock_stands (Arrive ticket) heard can h = arrival_stands ticket heard (value_at c.flights ticket) h
  clock_stands (Die a) heard can h = stands (died_in c a (c.servers a).phase) (dies a (c.servers a).phase) h
  clock_stands Tick heard can h = one_tick c.now LAST_TICK can.clock
  clock_stands (Load by slot) heard can h = load_stands by slot heard h
  clock_stands (Look by sector) heard can h = look_stands by sector heard h
  clock_stands (Finish by) heard can h = stands (finished_from c by (c.servers by).recovery) (finishes by (c.servers by).recovery) h
  clock_stands (HostLine number) heard can h = host_stands (next_of c host_party) h
  clock_stands (Close a) heard can h = stands (closed c a) (closes a) h
  clock_stands (Read sector) heard can h = read_stands sector heard h
  clock_stands event heard can h = h
