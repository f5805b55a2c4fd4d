-- Where nothing else may happen than arrivals and losses of writes by servers that are stalled or dead.
use Rattle.std.proofs.Common.{ℕ, ◌≡◌, inl, inr, Bool, true, false, ◌&&◌, not, Option, Some, None, is_some, IfSome, IsTrue, List, [], ◌∷◌, refl, sym, ◌∙◌}
use Rattle.std.specs.Prelude.{◌↔◌}
use Rattle.std.specs.Option.{is_none}
use Rattle.std.specs.List.{list_all}
use Rattle.std.specs.Map.{keys_of}
use Rattle.std.proofs.lemmas.Bool.{false≢true}
use Rattle.disk_definitions.proofs.Listed.{Among, all_at}
use Rattle.sector_bytes.specs.SectorMaps.{value_at}
use Rattle.core_definitions.specs.Cores.{Core}
use Rattle.core_definitions.specs.Events.{Event, Begin, Ask, Fetch, Again, Clear, Commit, Answer, Give, Issue, Doom, Resume, Arrive, Lose, Die, Renew, Tick, Recover, Load, Look, Finish, HostLine, Close, Read, Show, End}
use Rattle.core_definitions.specs.Flights.{Flight}
use Rattle.core_definitions.specs.Guards.{CanOther, is_by_gone, is_stale}
use Rattle.core_definitions.specs.WriteGuards.{is_by_dead, is_flight}
use Rattle.core_laws.proofs.Keys.{key_value, value_key}
use Rattle.hall_runs.specs.Asking.{event_of}
use Rattle.hall_runs.specs.declared.event.Event.{Event as Named}
use Rattle.world_next.specs.NoEvents.{is_of_flight}
use Rattle.world_ready.specs.Making.{IsQuiet}

stale_is_of_flight : (c : Core) (event : Event) → is_stale c event ≡ true → is_of_flight event ≡ true
stale_is_of_flight c (Begin a) stale = stale
stale_is_of_flight c (Ask a lock mode) stale = stale
stale_is_of_flight c (Fetch a sector) stale = stale
stale_is_of_flight c (Again a) stale = stale
stale_is_of_flight c (Clear a block) stale = stale
stale_is_of_flight c (Commit a) stale = stale
stale_is_of_flight c (Answer a) stale = stale
stale_is_of_flight c (Give a lock) stale = stale
stale_is_of_flight c (Issue a sector) stale = stale
stale_is_of_flight c (Doom a) stale = stale
stale_is_of_flight c (Resume a) stale = stale
stale_is_of_flight c (Arrive ticket) stale = refl
stale_is_of_flight c (Lose ticket) stale = refl
stale_is_of_flight c (Die a) stale = stale
stale_is_of_flight c (Renew a) stale = stale
stale_is_of_flight c Tick stale = stale
stale_is_of_flight c (Recover dead by) stale = stale
stale_is_of_flight c (Load by slot) stale = stale
stale_is_of_flight c (Look by sector) stale = stale
stale_is_of_flight c (Finish by) stale = stale
stale_is_of_flight c (HostLine number) stale = stale
stale_is_of_flight c (Close a) stale = stale
stale_is_of_flight c (Read sector) stale = stale
stale_is_of_flight c (Show place) stale = stale
stale_is_of_flight c End stale = stale

-- what passes is there
there : (passes : Flight → Bool) (flight : Option Flight) → is_flight passes flight ≡ true → is_some flight ≡ true
there passes None is = absurd (cc)
there passes (Some flight) is = refl

-- one of a list that doesn't pass, where not all do
record OneLeft (passes : ℕ → Bool) (xs : List ℕ) : Type 0 where
  at : ℕ
  among : Among at xs
  bars : passes at ≡ false

one_left : (passes : ℕ → Bool) (xs : List ℕ) → list_all passes xs ≡ false → OneLeft passes xs
one_left passes [] none = absurd (cc)
one_left passes (x ∷ xs) none = go (passes x) (list_all passes xs) refl refl (one_left passes xs) none
  where
    go : (b rest : Bool) → passes x ≡ b → list_all passes xs ≡ rest → (list_all passes xs ≡ false → OneLeft passes xs) → (b && rest) ≡ false → OneLeft passes (x ∷ xs)
    go false rest is left onward none = record { at = x; among = inl refl; bars = is }
    go true false is left onward none = let r : OneLeft passes xs = onward left in record { at = r.at; among = inr r.among; bars = r.bars }
    go true true is left onward none = absurd (cc)

-- how it is tested that nothing is found
pub none_so : {X : Type 0} (found : Option X) (r : Bool) → is_some found ≡ not r → r ≡ is_none found
none_so None false is = absurd (false≢true is)
none_so None true is = refl
none_so (Some x) false is = refl
none_so (Some x) true is = absurd (false≢true (sym is))

module _ (c : Core) where
  abbrev passes : ℕ → Bool
  passes ticket = is_flight (is_by_gone c) (value_at c.flights ticket)

  pub quiets : ((event : Event) → CanOther c event → is_of_flight event ≡ true) → list_all passes (keys_of c.flights) ≡ true → IsQuiet c
  quiets none all (Arrive ticket) can = all_at passes (keys_of c.flights) all ticket (value_key c.flights ticket can.flying)
  quiets none all (Lose ticket) can = all_at passes (keys_of c.flights) all ticket (value_key c.flights ticket (there (is_by_dead c) (value_at c.flights ticket) can.dead))
  quiets none all (Begin a) can = none (Begin a) can
  quiets none all (Ask a lock mode) can = none (Ask a lock mode) can
  quiets none all (Fetch a sector) can = none (Fetch a sector) can
  quiets none all (Again a) can = none (Again a) can
  quiets none all (Clear a block) can = none (Clear a block) can
  quiets none all (Commit a) can = none (Commit a) can
  quiets none all (Answer a) can = none (Answer a) can
  quiets none all (Give a lock) can = none (Give a lock) can
  quiets none all (Issue a sector) can = none (Issue a sector) can
  quiets none all (Doom a) can = none (Doom a) can
  quiets none all (Resume a) can = none (Resume a) can
  quiets none all (Die a) can = none (Die a) can
  quiets none all (Renew a) can = none (Renew a) can
  quiets none all Tick can = none Tick can
  quiets none all (Recover dead by) can = none (Recover dead by) can
  quiets none all (Load by slot) can = none (Load by slot) can
  quiets none all (Look by sector) can = none (Look by sector) can
  quiets none all (Finish by) can = none (Finish by) can
  quiets none all (HostLine number) can = none (HostLine number) can
  quiets none all (Close a) can = none (Close a) can
  quiets none all (Read sector) can = none (Read sector) can
  quiets none all (Show place) can = none (Show place) can
  quiets none all End can = none End can

  pub unquiet_flight : list_all passes (keys_of c.flights) ≡ false → IsQuiet c → ⊥
  unquiet_flight some quiet =
      let r : OneLeft passes (keys_of c.flights) = one_left passes (keys_of c.flights) some in
      false≢true (sym r.bars ∙ quiet (Arrive r.at) (record { flying = key_value c.flights r.at r.among }))

  pub unquiet_other : (event : Event) → CanOther c event → is_of_flight event ≡ false → IsQuiet c → ⊥
  unquiet_other event can other quiet = false≢true (sym other ∙ stale_is_of_flight c event (quiet event can))

  -- by what is found to happen beside flights
  pub quiet_where : (found : Option Named) (r : Bool) → r ≡ is_none found → list_all passes (keys_of c.flights) ≡ true → IfSome found (λ event. CanOther c (event_of event))
      → IfSome found (λ event. is_of_flight (event_of event) ≡ false) → (found ≡ None → (event : Event) → CanOther c event → is_of_flight event ≡ true) → IsTrue r ↔ IsQuiet c
  quiet_where None r is all may kind none = (λ yes. quiets (none refl) all, λ quiet. is)
  quiet_where (Some event) r is all may kind none = (λ yes. absurd (false≢true (sym is ∙ yes)), λ quiet. absurd (unquiet_other (event_of event) may kind quiet))
