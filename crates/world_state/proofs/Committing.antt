-- A commit: what it makes of the world is what the core's commit makes, and the world keeps what it keeps.
use Rattle.std.proofs.Common.{◌≡◌, ◌<◌, ◌+◌, ℕ, Bool, true, false, ◌&&◌, ◌||◌, ◌==◌, if◌then◌else◌, IfSome, IsSomeAnd, Option, Some, None, List, [], ◌∷◌, length, drop, get_or, set, refl, ap, ◌∙◌, subst}
use Rattle.std.proofs.lemmas.List.{at_drop_more}
use Rattle.frang_base.specs.Functions.{put}
use Rattle.frang_base.specs.declared.lock.LockId.{LockId}
use Rattle.frang_base.specs.declared.script.Line.{Line}
use Rattle.frang_base.specs.declared.sector.Sector.{Sector}
use Rattle.server_core.specs.Outcomes.{moves_of}
use Rattle.cache_definitions.specs.Flags.{but, but_all}
use Rattle.petal_disk.specs.Flights.{Flights}
use Rattle.petal_disk.specs.Flying.{InFlight, covered, moved, under}
use Rattle.petal_disk.specs.declared.flying.Flying.{Flying}
use Rattle.flight_laws.specs.Flights.{flight_of, flights_of, moved_all}
use Rattle.core_definitions.specs.Cores.{next_of}
use Rattle.core_definitions.specs.Flights.{each_of_server}
use Rattle.core_definitions.specs.LineEffects.{committed, committed_by, flight_after, number_under}
use Rattle.core_definitions.specs.Plans as plans
use Rattle.core_definitions.specs.Settings.{setting_of}
use Rattle.script_places.specs.Placed.{IsMarked, Placed}
use Rattle.world_definitions.proofs.Changing.{changed_at}
use Rattle.world_parties.specs.States.{AreAmong, Becomes, Keeps, State as Parties, servers_at}
use Rattle.world_parties.proofs.Flagging.{but_among}
use Rattle.world_state.specs.States.{IsKept, State, core_at, flies_by}
use Rattle.world_state.proofs.Lasting.{flying_lasts, kept_lasts}

-- ---- flags

-- sectors that are freed leave them
pub freed_among : (left xs : List ℕ) → AreAmong (but_all left xs) xs
freed_among [] xs sector is = is
freed_among (x ∷ left) xs sector is = but_among x xs sector (freed_among left (but x xs) sector is)

-- ---- writes in flight

covered_by : (server : ℕ) (cover : LockId) (a sector : ℕ) (flying : Flying)
    → ((flight_of (covered server cover flying)).server == a && (flight_of (covered server cover flying)).sector == sector) ≡ ((flight_of flying).server == a && (flight_of flying).sector == sector)
covered_by server cover a sector flying = go (flying.put.server.0 == server && flying.present)
  where
    go : (t : Bool) → ((flight_of (if t then record flying { purpose = under cover flying.purpose } else flying)).server == a
        && (flight_of (if t then record flying { purpose = under cover flying.purpose } else flying)).sector == sector)
        ≡ ((flight_of flying).server == a && (flight_of flying).sector == sector)
    go true = refl
    go false = refl

-- a write whose cover changes is of the same sector, by the same party
flies_moved_once : (server at : ℕ) (cover : LockId) (a sector : ℕ) (flights : InFlight) → flies_by (flights_of (moved server at cover flights)) a sector ≡ flies_by (flights_of flights) a sector
flies_moved_once server at cover a sector [] = refl
flies_moved_once server at cover a sector (one ∷ flights) = go (one.1.put.sector.0 == at) (flies_moved_once server at cover a sector flights)
  where
    go : (t : Bool) → flies_by (flights_of (moved server at cover flights)) a sector ≡ flies_by (flights_of flights) a sector
        → flies_by (flights_of ((if t then (one.0, covered server cover one.1) else one) ∷ moved server at cover flights)) a sector ≡ flies_by (flights_of (one ∷ flights)) a sector
    go true rest =
        ap (λ b. b || flies_by (flights_of (moved server at cover flights)) a sector) (covered_by server cover a sector one.1)
        ∙ ap (λ b. ((flight_of one.1).server == a && (flight_of one.1).sector == sector) || b) rest
    go false rest = ap (λ b. ((flight_of one.1).server == a && (flight_of one.1).sector == sector) || b) rest

pub flies_moved : (server : ℕ) (moves : List (ℕ × LockId)) (a sector : ℕ) (flights : InFlight) → flies_by (flights_of (moved_all server moves flights)) a sector ≡ flies_by (flights_of flights) a sector
flies_moved server [] a sector flights = refl
flies_moved server (move ∷ moves) a sector flights =
    flies_moved server moves a sector (moved server move.0 move.1 flights) ∙ flies_moved_once server move.0 move.1 a sector flights

-- one move more
pub moved_more : (server : ℕ) (moves : List (Sector × LockId)) (i : ℕ) (d : Sector × LockId) (flights : InFlight) → i < length moves
    → moved_all server (moves_of (drop i moves)) flights ≡ moved_all server (moves_of (drop (i + 1) moves)) (moved server (get_or moves i d).0.0 (get_or moves i d).1 flights)
moved_more server moves i d flights inside = at_drop_more (λ (xs : List (Sector × LockId)). moved_all server (moves_of xs) flights) moves i d inside

-- ---- the world

pub commit_lasts : (s : State) (places : Placed) (parties : Parties) (flights : Flights) (server number : ℕ) (moves : List (ℕ × LockId)) → IsKept s → Keeps s.parties parties
    → parties.segments ≡ s.parties.segments → flights.flying ≡ moved_all server moves s.flights.flying → places ≡ record s.places { answered = set s.places.answered number true }
    → IsKept (record s { places = places; parties = parties; flights = flights })
commit_lasts s places parties flights server number moves kept keeps disk flies answered =
    kept_lasts s (record s { places = places; parties = parties; flights = flights }) kept keeps
    (λ i. setting_of (ap (λ (p : Placed). p.script) answered i) (disk i) s.run) kept.clock kept.counted
    (λ going. flying_lasts s.parties parties (flights_of s.flights.flying) (flights_of flights.flying) (kept.flying going) keeps
    (λ a sector is. ap (λ (f : InFlight). flies_by (flights_of f) a sector) flies ∙ flies_moved server moves a sector s.flights.flying ∙ is))

pub committed_is : (s : State) (places : Placed) (parties : Parties) (flights : Flights) (a number : ℕ) (outcome : plans.Outcome) → Becomes s.parties parties a (committed_by outcome (servers_at s.parties a))
    → flights_of flights.flying ≡ each_of_server a (flight_after outcome) (flights_of s.flights.flying) → flights.next ≡ s.flights.next
    → places ≡ record s.places { answered = set s.places.answered number true } → number < length s.places.answered → number ≡ number_under (servers_at s.parties a).under
    → core_at (record s { places = places; parties = parties; flights = flights }) ≡ committed (core_at s) a outcome
committed_is s places parties flights a number outcome becomes moved next answered inside is =
    (λ i. core_at (record s { places = answered i; parties = record parties { segments = becomes.stays.segments i; held = becomes.stays.held i }; flights = record flights { next = next i } }))
    ∙ (λ i. record (core_at s) { servers = becomes.servers i; flights = moved i; answered = changed_at s.places.answered number true false inside i })
    ∙ ap (λ n. record (core_at s) { servers = put (core_at s).servers a (committed_by outcome ((core_at s).servers a)); flights = each_of_server a (flight_after outcome) (core_at s).flights; answered = put (core_at s).answered n true }) is

-- ---- the line that is answered

-- a line that is a party's next, with this number, has both its marks
pub next_inside : (s : State) (a number : ℕ) → IsSomeAnd (next_of (core_at s) a) (λ line. line.number ≡ number) → IfSome (next_of (core_at s) a) (IsMarked s.places) → number < length s.places.answered
next_inside s a number is marked = go (next_of (core_at s) a) is marked
  where
    go : (next : Option Line) → IsSomeAnd next (λ line. line.number ≡ number) → IfSome next (IsMarked s.places) → number < length s.places.answered
    go None is marked = absurd is
    go (Some line) is marked = subst (λ n. n < length s.places.answered) is marked.answered
