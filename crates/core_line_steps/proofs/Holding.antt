-- The covers of writes in place are held alone through every step: they are as they are issued, nothing is given under which a write flies, and a commit moves its own under locks that are held alone.
use Rattle.std.proofs.Common.{◌≡◌, ◌≢◌, ◌⊎◌, ◌==◌, ◌&&◌, ℕ, Bool, true, false, if◌then◌else◌, is_some, [], ◌∷◌, Option, Some, None, refl, sym, ap, ◌∙◌, inl, inr, ⊎_elim, length, ◌<◌}
use Rattle.std.proofs.lemmas.Bool.{and_from, eq-eqb, eqb-true, false≢true, or_parts}
use Rattle.std.specs.Option.{unwrap_or}
use Rattle.std.specs.Ordering.{is_eq}
use Rattle.frang_base.specs.Functions.{put_lock}
use Rattle.frang_base.proofs.Basics.{at_lock}
use Rattle.frang_base.specs.declared.lock.LockId.{LockId}
use Rattle.frang_base.specs.declared.lock.Mode.{Mode}
use Rattle.frang_base.specs.declared.lock.Mode.TheVariants.{Shared, Sole}
use Rattle.lock_definitions.specs.Calls.{answered, cleared, hold_of, log_taken_by, taken, want_answer, wanted}
use Rattle.lock_definitions.specs.declared.claim.Claim.{Claim}
use Rattle.lock_definitions.specs.declared.claim.Wanted.{Wanted}
use Rattle.lock_definitions.specs.declared.claim.Wanted.TheVariants.{Granted, Wait}
use Rattle.lock_definitions.specs.Locks.{AreLocks, Locks, claim_of, held}
use Rattle.lock_definitions.specs.Order.{is_lock}
use Rattle.lock_definitions.proofs.LockOrder.{lock_itself}
use Rattle.std.specs.Prelude.{set}
use Rattle.core_definitions.specs.Flights.{Flight, Flights, InPlace, OfLog, OfRecovery, Purpose, each_of_server, has_flights, has_flights_under, is_of_mount, is_under, left_behind}
use Rattle.core_definitions.specs.LineEffects.{flight_after, purpose_after}
use Rattle.core_definitions.specs.Plans.{Outcome}
use Rattle.core_laws.proofs.FlightLists.{AllFlights, all_changed, all_flights, in_flights}
use Rattle.core_lives.proofs.Leaving.{held_elsewhere}
use Rattle.core_world.proofs.Tables.{held_changed}

-- ---- a write, and what is held

abbrev pub IsHeldAlone : Locks → Flight → Type 0
IsHeldAlone locks f = (lock : LockId) → f.present ≡ true → f.purpose ≡ InPlace lock → held locks f.server lock ≡ Some Sole

-- what is held alone stays so
abbrev pub KeepsSole : Locks → Locks → Type 0
KeepsSole old new = (a : ℕ) (lock : LockId) → held old a lock ≡ Some Sole → held new a lock ≡ Some Sole

pub held_on : (old new : Locks) → KeepsSole old new → (flights : Flights) → AllFlights (IsHeldAlone old) flights → AllFlights (IsHeldAlone new) flights
held_on old new keeps flights all = all_flights (IsHeldAlone new) flights (λ one i lock present place. keeps one.1.server lock (in_flights (IsHeldAlone old) flights one i all lock present place))

-- ---- locks that are wanted

-- what is held alone stays so, whatever its server is answered
sole_stays : (answer : Wanted) (mode : Mode) (claim : Claim) → claim.held ≡ Some Sole → (answered answer mode claim).held ≡ Some Sole
sole_stays Granted mode claim e = rw e refl
sole_stays (Wait others) Shared claim e = e
sole_stays (Wait others) Sole claim e = e

module _ (locks : Locks) (are : AreLocks locks) (a : ℕ) (inside : a < length locks.clerks) (l : LockId) where
  pub wanted_keeps : (mode : Mode) → KeepsSole locks (wanted locks a l mode)
  wanted_keeps mode b k sole =
      sym (held_changed locks are a inside l (answered (want_answer locks a l mode) mode) b k)
      ∙ at_lock (λ x. x ≡ Some Sole) (held locks) a l (answered (want_answer locks a l mode) mode (claim_of locks a l)).held b k
      (λ e f. sole_stays (want_answer locks a l mode) mode (claim_of locks a l) (ap (λ n. held locks n l) (sym e) ∙ ap (held locks b) (sym f) ∙ sole)) (λ n. sole)

  -- one that is given, under which nothing of its server flies
  pub given_under : (new : Locks) (mode : Option Mode) → ((b : ℕ) (k : LockId) → put_lock (held locks) a l mode b k ≡ held new b k) → (flights : Flights) → has_flights_under flights a l ≡ false →
      AllFlights (IsHeldAlone locks) flights → AllFlights (IsHeldAlone new) flights
  given_under new mode is [] none all = tt
  given_under new mode is (one ∷ others) none all = (here, given_under new mode is others parts.1 all.1)
    where
      parts : ((is_of_mount a one.1 && is_under l one.1.purpose) ≡ false) × (has_flights_under others a l ≡ false)
      parts = or_parts (is_of_mount a one.1 && is_under l one.1.purpose) (has_flights_under others a l) none

      here : IsHeldAlone new one.1
      here lock present place = sym (is one.1.server lock) ∙ at_lock (λ x. x ≡ Some Sole) (held locks) a l mode one.1.server lock
          (λ e f. absurd (false≢true (sym parts.0 ∙ flies e f))) (λ n. all.0 lock present place)
        where
          flies : one.1.server ≡ a → lock ≡ l → (is_of_mount a one.1 && is_under l one.1.purpose) ≡ true
          flies e f = and_from (is_of_mount a one.1) (is_under l one.1.purpose) (and_from (one.1.server == a) one.1.present (eq-eqb one.1.server a e) present)
              (ap (is_under l) place ∙ ap (is_lock l) f ∙ ap is_eq (lock_itself l))

-- ---- locks that are cleared, of a server of which nothing of its present mount flies

apart_from : (x : ℕ) (flights : Flights) → has_flights flights x ≡ false → AllFlights (λ f. f.present ≡ true → f.server ≢ x) flights
apart_from x [] none = tt
apart_from x (one ∷ others) none =
    let parts = or_parts (is_of_mount x one.1) (has_flights others x) none in
    ((λ present e. false≢true (sym parts.0 ∙ and_from (one.1.server == x) one.1.present (eq-eqb one.1.server x e) present)), apart_from x others parts.1)

pub cleared_keeps : (locks : Locks) (x : ℕ) (flights : Flights) → has_flights flights x ≡ false → AllFlights (IsHeldAlone locks) flights → AllFlights (IsHeldAlone (cleared locks x)) flights
cleared_keeps locks x flights none all = all_flights (IsHeldAlone (cleared locks x)) flights (λ one i lock present place.
    held_elsewhere locks x one.1.server lock (in_flights (λ f. f.present ≡ true → f.server ≢ x) flights one i (apart_from x flights none) present) ∙ in_flights (IsHeldAlone locks) flights one i all lock present place)

pub taken_keeps : (locks : Locks) (dead by now expiry : ℕ) → KeepsSole locks (taken locks dead by now expiry)
taken_keeps locks dead by now expiry a l sole = go (is_some (log_taken_by locks dead by now))
  where
    go : (b : Bool) → held (if b then locks else record locks { logs = set locks.logs dead (Some (hold_of by expiry)) }) a l ≡ Some Sole
    go true = sole
    go false = sole

-- ---- writes that change

-- those of who dies are left behind, or gone
pub behind : (locks : Locks) (a : ℕ) (flights : Flights) → AllFlights (IsHeldAlone locks) flights → AllFlights (IsHeldAlone locks) (left_behind a flights)
behind locks a flights all = all_changed (IsHeldAlone locks) a (λ f. record f { present = false }) (λ f h lock present place. absurd (false≢true present)) flights all

-- those of who commits move under locks that it holds alone
moved_purpose : (outcome : Outcome) (sector : ℕ) (purpose : Purpose) (lock : LockId) → purpose_after outcome sector purpose ≡ InPlace lock →
    (outcome.moves sector ≡ Some lock) ⊎ (purpose ≡ InPlace lock)
moved_purpose outcome sector (OfLog number) lock e = absurd (cc)
moved_purpose outcome sector OfRecovery lock e = absurd (cc)
moved_purpose outcome sector (InPlace cover) lock e = go (outcome.moves sector) e
  where
    go : (m : Option LockId) → InPlace (unwrap_or m cover) ≡ InPlace lock → (m ≡ Some lock) ⊎ (InPlace cover ≡ InPlace lock)
    go None e = inr e
    go (Some new) e = inl (cc)

pub moved_writes : (locks : Locks) (a : ℕ) (outcome : Outcome) → ((sector : ℕ) (lock : LockId) → outcome.moves sector ≡ Some lock → held locks a lock ≡ Some Sole) → (flights : Flights) → AllFlights (IsHeldAlone locks) flights →
    AllFlights (IsHeldAlone locks) (each_of_server a (flight_after outcome) flights)
moved_writes locks a outcome alone [] all = tt
moved_writes locks a outcome alone (one ∷ others) all = (go (one.1.server == a) refl, moved_writes locks a outcome alone others all.1)
  where
    own : one.1.server ≡ a → (b : Bool) → IsHeldAlone locks (if b then record one.1 { purpose = purpose_after outcome one.1.sector one.1.purpose } else one.1)
    own e false lock present place = all.0 lock present place
    own e true lock present place =
        ⊎_elim (λ m. ap (λ n. held locks n lock) e ∙ alone one.1.sector lock m) (λ same. all.0 lock present same) (moved_purpose outcome one.1.sector one.1.purpose lock place)

    go : (b : Bool) → (one.1.server == a) ≡ b → IsHeldAlone locks (if b then (one.0, flight_after outcome one.1) else one).1
    go true e = own (eqb-true one.1.server a e) one.1.present
    go false e = all.0
