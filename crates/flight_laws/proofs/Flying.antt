-- What is asked of writes in flight, and what is made of them, by the core's words.
use Rattle.std.proofs.Common.{◌≡◌, ℕ, Bool, true, false, not, ◌&&◌, ◌||◌, ◌==◌, if◌then◌else◌, is_some, Some, [], ◌∷◌, find, arith, refl, sym, ap, ◌∙◌}
use Rattle.std.specs.BTreeMap.{is_at}
use Rattle.std.specs.Map.{lookup, remove_entry}
use Rattle.std.specs.Option.{option_map}
use Rattle.std.specs.Ordering.{nat_cmp}
use Rattle.std.proofs.lemmas.Bool.Decides.{nat_tests}
use Rattle.std.proofs.lemmas.List.{map-append}
use Rattle.frang_base.specs.declared.lock.LockId.{LockId}
use Rattle.core_definitions.specs.Flights as core
use Rattle.petal_disk.specs.Flights.{busy_with, is_ticket, without, write_at}
use Rattle.petal_disk.specs.Flying.{is_of_mount, is_under, left_behind, lost, puts}
use Rattle.petal_disk.specs.declared.flying.Purpose.{Purpose}
use Rattle.petal_disk.specs.declared.flying.Purpose.TheVariants.{OfLog, InPlace, OfRecovery}
use Rattle.petal_disk.specs.declared.ticket.Ticket.{Ticket}
use Rattle.flight_laws.specs.Flights.{flight_of, flights_of, purpose_of}
use Rattle.flight_laws.specs.Laws.{ABusySectorIsTheCores, ALandedWriteIsTheCores, AWriteIsTheCores, AnIssuedWriteIsTheCores, LostWritesAreTheCores, TheMountsWritesAreTheCores, WritesLeftBehindAreTheCores, WritesUnderALockAreTheCores}

pub the_mounts_writes_are_the_cores : TheMountsWritesAreTheCores
the_mounts_writes_are_the_cores [] server = refl
the_mounts_writes_are_the_cores (one ∷ flights) server = ap (λ rest. is_of_mount server one.1 || rest) (the_mounts_writes_are_the_cores flights server)

same_place : (lock : LockId) (purpose : Purpose) → core.is_under lock (purpose_of purpose) ≡ is_under lock purpose
same_place lock (OfLog number) = refl
same_place lock (InPlace cover) = refl
same_place lock OfRecovery = refl

pub writes_under_a_lock_are_the_cores : WritesUnderALockAreTheCores
writes_under_a_lock_are_the_cores [] server lock = refl
writes_under_a_lock_are_the_cores (one ∷ flights) server lock =
    ap (λ place. (is_of_mount server one.1 && place) || core.has_flights_under (flights_of flights) server lock) (same_place lock one.1.purpose)
    ∙ ap (λ rest. (is_of_mount server one.1 && is_under lock one.1.purpose) || rest) (writes_under_a_lock_are_the_cores flights server lock)

pub a_busy_sector_is_the_cores : ABusySectorIsTheCores
a_busy_sector_is_the_cores [] sector = refl
a_busy_sector_is_the_cores (one ∷ flights) sector = go (one.1.put.sector.0 == sector) (a_busy_sector_is_the_cores flights sector)
  where
    go : (b : Bool) → core.is_flying (flights_of flights) sector ≡ is_some (busy_with (puts flights) sector)
        → (b || core.is_flying (flights_of flights) sector)
        ≡ is_some (option_map (λ write. write.0) (if b then Some (one.0, one.1.put) else find (λ write. write.1.sector.0 == sector) (puts flights)))
    go true below = refl
    go false below = below

-- two tests that a ticket has this number
same_ticket : (number : ℕ) (ticket : Ticket) → is_at (nat_cmp number) ticket.0 ≡ is_ticket number ticket
same_ticket number ticket = by (is_at (nat_cmp number) ticket.0) (ticket.0 == number) refl refl
  where
    by : (s t : Bool) → is_at (nat_cmp number) ticket.0 ≡ s → (ticket.0 == number) ≡ t → s ≡ t
    by true true e f = refl
    by false false e f = refl
    by true false e f = absurd (grind (arith, nat_tests))
    by false true e f = absurd (grind (arith, nat_tests))

pub a_write_is_the_cores : AWriteIsTheCores
a_write_is_the_cores [] ticket = refl
a_write_is_the_cores (one ∷ flights) ticket =
    ap (λ b. if b then Some (flight_of one.1) else lookup (is_at (nat_cmp ticket)) (flights_of flights)) (same_ticket ticket one.0)
    ∙ go (is_ticket ticket one.0) (a_write_is_the_cores flights ticket)
  where
    go : (b : Bool) → lookup (is_at (nat_cmp ticket)) (flights_of flights) ≡ option_map flight_of (write_at flights ticket)
        → (if b then Some (flight_of one.1) else lookup (is_at (nat_cmp ticket)) (flights_of flights)) ≡ option_map flight_of (if b then Some one.1 else write_at flights ticket)
    go true below = refl
    go false below = below

pub an_issued_write_is_the_cores : AnIssuedWriteIsTheCores
an_issued_write_is_the_cores flights ticket flying = map-append (λ one. (one.0.0, flight_of one.1)) flights ((ticket, flying) ∷ [])

pub a_landed_write_is_the_cores : ALandedWriteIsTheCores
a_landed_write_is_the_cores [] ticket = refl
a_landed_write_is_the_cores (one ∷ flights) ticket =
    go (is_ticket ticket one.0) (a_landed_write_is_the_cores flights ticket)
    ∙ ap (λ b. if b then flights_of flights else (one.0.0, flight_of one.1) ∷ remove_entry (is_at (nat_cmp ticket)) (flights_of flights)) (sym (same_ticket ticket one.0))
  where
    go : (b : Bool) → flights_of (without flights ticket) ≡ remove_entry (is_at (nat_cmp ticket)) (flights_of flights)
        → flights_of (if b then flights else one ∷ without flights ticket) ≡ (if b then flights_of flights else (one.0.0, flight_of one.1) ∷ remove_entry (is_at (nat_cmp ticket)) (flights_of flights))
    go true below = refl
    go false below = ap (λ rest. (one.0.0, flight_of one.1) ∷ rest) below

pub writes_left_behind_are_the_cores : WritesLeftBehindAreTheCores
writes_left_behind_are_the_cores [] server = refl
writes_left_behind_are_the_cores (one ∷ flights) server =
    go (one.1.put.server.0 == server) ∙ ap (λ rest. (if one.1.put.server.0 == server then (one.0.0, record (flight_of one.1) { present = false }) else (one.0.0, flight_of one.1)) ∷ rest) (writes_left_behind_are_the_cores flights server)
  where
    go : (b : Bool) → (one.0.0, flight_of (if b then record (one.1) { present = false } else one.1)) ∷ flights_of (left_behind server flights)
        ≡ (if b then (one.0.0, record (flight_of one.1) { present = false }) else (one.0.0, flight_of one.1)) ∷ flights_of (left_behind server flights)
    go true = refl
    go false = refl

pub lost_writes_are_the_cores : LostWritesAreTheCores
lost_writes_are_the_cores [] server = refl
lost_writes_are_the_cores (one ∷ flights) server = go (not (one.1.put.server.0 == server)) (lost_writes_are_the_cores flights server)
  where
    go : (b : Bool) → flights_of (lost server flights) ≡ core.lost server (flights_of flights)
        → flights_of (if b then one ∷ lost server flights else lost server flights) ≡ (if b then (one.0.0, flight_of one.1) ∷ core.lost server (flights_of flights) else core.lost server (flights_of flights))
    go true below = ap (λ rest. (one.0.0, flight_of one.1) ∷ rest) below
    go false below = below
