-- Writes in place that come under other locks, sector by sector, are moved as a commit moves them.
use Rattle.std.proofs.Common.{◌≡◌, ℕ, Bool, true, false, Some, None, ◌&&◌, ◌==◌, if◌then◌else◌, nat_eq, List, [], ◌∷◌, fold, arith, refl, sym, ap, ◌∙◌}
use Rattle.std.proofs.lemmas.Bool.Decides.{nat_tests}
use Rattle.std.specs.Option.{unwrap_or}
use Rattle.frang_base.specs.declared.lock.LockId.{LockId}
use Rattle.cache_laws.specs.Steps.{cover_after}
use Rattle.core_definitions.specs.Flights as core
use Rattle.core_definitions.specs.LineEffects.{flight_after, purpose_after as moved_purpose}
use Rattle.core_definitions.specs.Plans.{Outcome}
use Rattle.petal_disk.specs.Flying.{InFlight, covered, each_changed, moved, under}
use Rattle.petal_disk.specs.declared.flying.Flying.{Flying}
use Rattle.petal_disk.specs.declared.flying.Purpose.{Purpose}
use Rattle.petal_disk.specs.declared.flying.Purpose.TheVariants.{OfLog, InPlace, OfRecovery}
use Rattle.flight_laws.specs.Flights.{flight_of, flights_of, moved_all, purpose_of}
use Rattle.flight_laws.specs.Laws.{MovedWritesAreTheCores}

-- a write after one move, and after all of them
abbrev step : ℕ → Flying → ℕ × LockId → Flying
step server flying move = if flying.put.sector.0 == move.0 then covered server move.1 flying else flying

abbrev steps : ℕ → List (ℕ × LockId) → Flying → Flying
steps server moves flying = fold (step server) flying moves

each_unchanged : (flights : InFlight) → each_changed (λ flying. flying) flights ≡ flights
each_unchanged [] = refl
each_unchanged (one ∷ flights) = ap (λ rest. one ∷ rest) (each_unchanged flights)

each_step : (server : ℕ) (move : ℕ × LockId) (flights : InFlight) → moved server move.0 move.1 flights ≡ each_changed (λ flying. step server flying move) flights
each_step server move [] = refl
each_step server move (one ∷ flights) = go (one.1.put.sector.0 == move.0) (each_step server move flights)
  where
    go : (b : Bool) → moved server move.0 move.1 flights ≡ each_changed (λ flying. step server flying move) flights
        → (if b then (one.0, covered server move.1 one.1) else one) ∷ moved server move.0 move.1 flights
        ≡ (one.0, if b then covered server move.1 one.1 else one.1) ∷ each_changed (λ flying. step server flying move) flights
    go true below = ap (λ rest. (one.0, covered server move.1 one.1) ∷ rest) below
    go false below = ap (λ rest. one ∷ rest) below

each-each : (f g : Flying → Flying) (flights : InFlight) → each_changed g (each_changed f flights) ≡ each_changed (λ flying. g (f flying)) flights
each-each f g [] = refl
each-each f g (one ∷ flights) = ap (λ rest. (one.0, g (f one.1)) ∷ rest) (each-each f g flights)

all_steps : (server : ℕ) (moves : List (ℕ × LockId)) (flights : InFlight) → moved_all server moves flights ≡ each_changed (steps server moves) flights
all_steps server [] flights = sym (each_unchanged flights)
all_steps server (move ∷ moves) flights =
    all_steps server moves (moved server move.0 move.1 flights)
    ∙ ap (each_changed (steps server moves)) (each_step server move flights)
    ∙ each-each (λ flying. step server flying move) (steps server moves) flights

-- what a write in place is of after all moves
abbrev purpose_after : List (ℕ × LockId) → ℕ → Purpose → Purpose
purpose_after moves sector (OfLog number) = OfLog number
purpose_after moves sector (InPlace cover) = InPlace (cover_after moves sector cover)
purpose_after moves sector OfRecovery = OfRecovery

-- whether it moves at all
abbrev moves_of : ℕ → Flying → Bool
moves_of server flying = flying.put.server.0 == server && flying.present

abbrev after_steps : ℕ → List (ℕ × LockId) → Flying → Flying
after_steps server moves flying = if moves_of server flying then record flying { purpose = purpose_after moves flying.put.sector.0 flying.purpose } else flying

-- two tests that a move is of a sector
either_way : (a b : ℕ) → nat_eq a b ≡ nat_eq b a
either_way a b = by (nat_eq a b) (nat_eq b a) refl refl
  where
    by : (s t : Bool) → nat_eq a b ≡ s → nat_eq b a ≡ t → s ≡ t
    by true true e f = refl
    by false false e f = refl
    by true false e f = absurd (grind (arith, nat_tests))
    by false true e f = absurd (grind (arith, nat_tests))

purpose_on : (move : ℕ × LockId) (moves : List (ℕ × LockId)) (sector : ℕ) (purpose : Purpose) (t : Bool) → nat_eq move.0 sector ≡ t
    → purpose_after moves sector (if t then under move.1 purpose else purpose) ≡ purpose_after (move ∷ moves) sector purpose
purpose_on move moves sector (OfLog number) true e = refl
purpose_on move moves sector (OfLog number) false e = refl
purpose_on move moves sector (InPlace cover) true e = ap (λ (b : Bool). InPlace (cover_after moves sector (if b then move.1 else cover))) (sym e)
purpose_on move moves sector (InPlace cover) false e = ap (λ (b : Bool). InPlace (cover_after moves sector (if b then move.1 else cover))) (sym e)
purpose_on move moves sector OfRecovery true e = refl
purpose_on move moves sector OfRecovery false e = refl

module _ (server : ℕ) where
  -- by whether it moves at all
  by_moving : (moves : List (ℕ × LockId)) (flying : Flying) (b : Bool) → moves_of server flying ≡ b
      → after_steps server moves flying ≡ (if b then record flying { purpose = purpose_after moves flying.put.sector.0 flying.purpose } else flying)
  by_moving moves flying b e = ap (λ (b : Bool). if b then record flying { purpose = purpose_after moves flying.put.sector.0 flying.purpose } else flying) e

  step_on : (move : ℕ × LockId) (moves : List (ℕ × LockId)) (flying : Flying) → after_steps server moves (step server flying move) ≡ after_steps server (move ∷ moves) flying
  step_on move moves flying = go (flying.put.sector.0 == move.0) (moves_of server flying) refl refl
    where
      go : (t b : Bool) → (flying.put.sector.0 == move.0) ≡ t → moves_of server flying ≡ b
          → after_steps server moves (if t then (if b then record flying { purpose = under move.1 flying.purpose } else flying) else flying) ≡ after_steps server (move ∷ moves) flying
      go true true f e =
          by_moving moves (record flying { purpose = under move.1 flying.purpose }) true e
          ∙ ap (λ (p : Purpose). record flying { purpose = p }) (purpose_on move moves flying.put.sector.0 flying.purpose true (either_way move.0 flying.put.sector.0 ∙ f))
          ∙ sym (by_moving (move ∷ moves) flying true e)
      go true false f e = by_moving moves flying false e ∙ sym (by_moving (move ∷ moves) flying false e)
      go false true f e =
          by_moving moves flying true e
          ∙ ap (λ (p : Purpose). record flying { purpose = p }) (purpose_on move moves flying.put.sector.0 flying.purpose false (either_way move.0 flying.put.sector.0 ∙ f))
          ∙ sym (by_moving (move ∷ moves) flying true e)
      go false false f e = by_moving moves flying false e ∙ sym (by_moving (move ∷ moves) flying false e)

  -- no move changes nothing
  stays : (flying : Flying) → flying ≡ after_steps server [] flying
  stays flying = ap (λ (p : Purpose). record flying { purpose = p }) (same flying.purpose) ∙ go (moves_of server flying)
    where
      same : (purpose : Purpose) → purpose ≡ purpose_after [] flying.put.sector.0 purpose
      same (OfLog number) = refl
      same (InPlace cover) = refl
      same OfRecovery = refl

      go : (b : Bool) → record flying { purpose = purpose_after [] flying.put.sector.0 flying.purpose } ≡ (if b then record flying { purpose = purpose_after [] flying.put.sector.0 flying.purpose } else flying)
      go true = refl
      go false = ap (λ (p : Purpose). record flying { purpose = p }) (sym (same flying.purpose))

  steps_are : (moves : List (ℕ × LockId)) (flying : Flying) → steps server moves flying ≡ after_steps server moves flying
  steps_are [] flying = stays flying
  steps_are (move ∷ moves) flying = steps_are moves (step server flying move) ∙ step_on move moves flying

-- ---- as the core moves them

module _ (server : ℕ) (outcome : Outcome) (moves : List (ℕ × LockId)) (same : (sector : ℕ) (cover : LockId) → cover_after moves sector cover ≡ unwrap_or (outcome.moves sector) cover) where
  purpose_same : (sector : ℕ) (purpose : Purpose) → purpose_of (purpose_after moves sector purpose) ≡ moved_purpose outcome sector (purpose_of purpose)
  purpose_same sector (OfLog number) = refl
  purpose_same sector (InPlace cover) = ap core.InPlace (same sector cover)
  purpose_same sector OfRecovery = refl

  abbrev first_by : ℕ → core.Flight → ℕ × core.Flight
  first_by ticket flight = (ticket, flight)

  -- a write with its ticket, by whether it is the server's
  abbrev by_server : Bool → ℕ → Flying → ℕ × core.Flight
  by_server s ticket flying = if s then (ticket, flight_after outcome (flight_of flying)) else (ticket, flight_of flying)

  abbrev first_of : ℕ → Flying → ℕ × core.Flight
  first_of ticket flying = (ticket, flight_of flying)

  one_same : (ticket : ℕ) (flying : Flying) → first_of ticket (after_steps server moves flying) ≡ by_server (flying.put.server.0 == server) ticket flying
  one_same ticket flying = go (flying.put.server.0 == server) flying.present
    where
      go : (s p : Bool) → first_of ticket (if s && p then record flying { purpose = purpose_after moves flying.put.sector.0 flying.purpose } else flying)
          ≡ (if s then first_by ticket (if p then record (flight_of flying) { purpose = moved_purpose outcome flying.put.sector.0 (purpose_of flying.purpose) } else flight_of flying) else first_of ticket flying)
      go true true = ap (λ (p : core.Purpose). first_by ticket (record (flight_of flying) { purpose = p })) (purpose_same flying.put.sector.0 flying.purpose)
      go true false = refl
      go false true = refl
      go false false = refl

  all_same : (flights : InFlight) → flights_of (each_changed (after_steps server moves) flights) ≡ core.each_of_server server (flight_after outcome) (flights_of flights)
  all_same [] = refl
  all_same (one ∷ flights) =
      ap (λ first. first ∷ flights_of (each_changed (after_steps server moves) flights)) (one_same one.0.0 one.1)
      ∙ ap (λ rest. (if one.1.put.server.0 == server then (one.0.0, flight_after outcome (flight_of one.1)) else (one.0.0, flight_of one.1)) ∷ rest) (all_same flights)

pub moved_writes_are_the_cores : MovedWritesAreTheCores
moved_writes_are_the_cores flights server outcome moves same =
    ap flights_of (all_steps server moves flights ∙ ap (λ change. each_changed change flights) (λ i flying. steps_are server moves flying i)) ∙ all_same server outcome moves same flights

-- met by a commit that moves one sector
one_move : (lock : LockId) (sector : ℕ) (cover : LockId) → cover_after ((5, lock) ∷ []) sector cover ≡ unwrap_or (if nat_eq 5 sector then Some lock else None) cover
one_move lock sector cover = go (nat_eq 5 sector)
  where
    go : (b : Bool) → (if b then lock else cover) ≡ unwrap_or (if b then Some lock else None) cover
    go true = refl
    go false = refl

one_sector_moves : (flights : InFlight) (server : ℕ) (outcome : Outcome) (lock : LockId)
    → flights_of (moved_all server ((5, lock) ∷ []) flights)
    ≡ core.each_of_server server (flight_after (record outcome { moves = λ sector. if nat_eq 5 sector then Some lock else None })) (flights_of flights)
one_sector_moves flights server outcome lock =
    moved_writes_are_the_cores flights server (record outcome { moves = λ sector. if nat_eq 5 sector then Some lock else None }) ((5, lock) ∷ []) (one_move lock)
