-- What an event hears and writes, by what it asks of the outside.
use Rattle.std.proofs.Common.{◌≡◌, ℕ, true, false, IsTrue, List, [], ◌∷◌, Option, Some, None, refl, sym, ap, ◌∙◌, subst}
use Rattle.std.proofs.lemmas.Bool.{false≢true}
use Rattle.std.specs.Option.{IsSome}
use Rattle.frang_outside.specs.declared.act.Put.{Put}
use Rattle.sector_bytes.specs.SectorMaps.{value_at}
use Rattle.sector_bytes.specs.Sectors.{Sectors}
use Rattle.disk_definitions.specs.Regions.{sector_of}
use Rattle.disk_definitions.specs.declared.region.Region.TheVariants as region
use Rattle.core_definitions.specs.Calls.{Call, NoCall, Get, MakePut, Say, arrival_call, call_of, load_call, say_call}
use Rattle.core_definitions.specs.Cores.{Core}
use Rattle.core_definitions.specs.Effects.{Deed, Made, MayGet, MayHear, Says, deeds_of, disk_after, put_of}
use Rattle.core_definitions.specs.EndGuards.{is_recovery, wants_slot}
use Rattle.core_definitions.specs.Events.{Event, Begin, Ask, Fetch, Again, Clear, Commit, Answer, Give, Issue, Doom, Resume, Arrive, Lose, Die, Renew, Tick, Recover, Load, Look, Finish, HostLine, Close, Read, Show, End, Heard, Nothing}
use Rattle.core_definitions.specs.Flights.{Flight}
use Rattle.core_definitions.specs.Guards.{Can}
use Rattle.core_definitions.specs.Recoveries.{Recovery}
use Rattle.core_definitions.specs.Scripts.{host_party}

-- it waits for no answer; it gets a sector; or a write in flight arrives
pub data View (c : Core) : Event → Type 0 where
  Tells : {event : Event} → ((disk : Sectors) → MayHear c disk event Nothing) → ((disk : Sectors) → disk_after c disk event Nothing ≡ disk) → call_of c event ≡ say_call (deeds_of c event Nothing) → View c event
  Gets : {event : Event} (party sector : ℕ) → call_of c event ≡ Get party sector → ((disk : Sectors) (heard : Heard) → MayGet disk sector heard → MayHear c disk event heard) → ((disk : Sectors) (heard : Heard) → disk_after c disk event heard ≡ disk) → View c event
  Puts : (ticket : ℕ) (flight : Flight) → value_at c.flights ticket ≡ Some flight → View c (Arrive ticket)

loads : (c : Core) (by slot : ℕ) (recovery : Option Recovery) → (c.servers by).recovery ≡ recovery → IsTrue (is_recovery (wants_slot c slot) recovery) → View c (Load by slot)
loads c by slot None e wanted = absurd (false≢true wanted)
loads c by slot (Some recovery) e wanted =
    Gets by (sector_of (region.Log recovery.dead slot)) (ap (load_call by slot) e) (λ disk heard may. rw e may) (λ disk heard. refl)

flies : (c : Core) (ticket : ℕ) (flight : Option Flight) → value_at c.flights ticket ≡ flight → IsSome flight → View c (Arrive ticket)
flies c ticket None e some = absurd (false≢true some)
flies c ticket (Some flight) e some = Puts ticket flight e

pub viewed : (c : Core) (event : Event) → Can c event → View c event
viewed c (Begin a) can = Tells (λ disk. refl) (λ disk. refl) refl
viewed c (Ask a lock mode) can = Tells (λ disk. refl) (λ disk. refl) refl
viewed c (Fetch a sector) can = Gets a sector refl (λ disk heard may. may) (λ disk heard. refl)
viewed c (Again a) can = Tells (λ disk. refl) (λ disk. refl) refl
viewed c (Clear a block) can = Tells (λ disk. refl) (λ disk. refl) refl
viewed c (Commit a) can = Tells (λ disk. refl) (λ disk. refl) refl
viewed c (Answer a) can = Tells (λ disk. refl) (λ disk. refl) refl
viewed c (Give a lock) can = Tells (λ disk. refl) (λ disk. refl) refl
viewed c (Issue a sector) can = Tells (λ disk. refl) (λ disk. refl) refl
viewed c (Doom a) can = Tells (λ disk. refl) (λ disk. refl) refl
viewed c (Resume a) can = Tells (λ disk. refl) (λ disk. refl) refl
viewed c (Arrive ticket) can = flies c ticket (value_at c.flights ticket) refl can.can.flying
viewed c (Lose ticket) can = Tells (λ disk. refl) (λ disk. refl) refl
viewed c (Die a) can = Tells (λ disk. refl) (λ disk. refl) refl
viewed c (Renew a) can = Tells (λ disk. refl) (λ disk. refl) refl
viewed c Tick can = Tells (λ disk. refl) (λ disk. refl) refl
viewed c (Recover dead by) can = Tells (λ disk. refl) (λ disk. refl) refl
viewed c (Load by slot) can = loads c by slot (c.servers by).recovery refl can.can.wanted
viewed c (Look by sector) can = Gets by sector refl (λ disk heard may. may) (λ disk heard. refl)
viewed c (Finish by) can = Tells (λ disk. refl) (λ disk. refl) refl
viewed c (HostLine number) can = Tells (λ disk. refl) (λ disk. refl) refl
viewed c (Close a) can = Tells (λ disk. refl) (λ disk. refl) refl
viewed c (Read sector) can = Gets host_party sector refl (λ disk heard may. may) (λ disk heard. refl)
viewed c (Show place) can = Tells (λ disk. refl) (λ disk. refl) refl
viewed c End can = Tells (λ disk. refl) (λ disk. refl) refl

-- ---- by its call

get_unsaid : (deeds : List Deed) (party sector : ℕ) → say_call deeds ≡ Get party sector → ⊥
get_unsaid [] party sector e = absurd cc
get_unsaid (Made put taken ∷ deeds) party sector e = get_unsaid deeds party sector e
get_unsaid (Says line ∷ deeds) party sector e = absurd cc

put_unsaid : (deeds : List Deed) (ticket : ℕ) (put : Put) → say_call deeds ≡ MakePut ticket put → ⊥
put_unsaid [] ticket put e = absurd cc
put_unsaid (Made made taken ∷ deeds) ticket put e = put_unsaid deeds ticket put e
put_unsaid (Says line ∷ deeds) ticket put e = absurd cc

-- it hears nothing, and writes nothing
pub record IsQuiet (c : Core) (event : Event) : Type 0 where
  pub hears : (disk : Sectors) → MayHear c disk event Nothing
  pub disk_is : (disk : Sectors) → disk_after c disk event Nothing ≡ disk

-- it hears what a get of the sector does, and writes nothing
pub record IsGet (c : Core) (event : Event) (sector : ℕ) : Type 0 where
  pub hears : (disk : Sectors) (heard : Heard) → MayGet disk sector heard → MayHear c disk event heard
  pub disk_is : (disk : Sectors) (heard : Heard) → disk_after c disk event heard ≡ disk

-- it is the arrival of a write in flight
pub record IsArrival (c : Core) (event : Event) (ticket : ℕ) (put : Put) : Type 0 where
  pub flight : Flight
  pub event_is : event ≡ Arrive ticket
  pub at : value_at c.flights ticket ≡ Some flight
  pub put_is : put ≡ put_of c.now flight

arrives_with : (c : Core) (ticket : ℕ) (flight : Flight) → value_at c.flights ticket ≡ Some flight → call_of c (Arrive ticket) ≡ MakePut ticket (put_of c.now flight)
arrives_with c ticket flight at = ap (arrival_call c.now ticket) at

pub nothing_asked : (c : Core) (event : Event) → View c event → call_of c event ≡ NoCall → IsQuiet c event
nothing_asked c event (Tells hears disk_is call_is) e = record { hears = hears; disk_is = disk_is }
nothing_asked c event (Gets party sector call_is hears disk_is) e = absurd cc
nothing_asked c event (Puts ticket flight at) e = let put = arrives_with c ticket flight at in absurd cc

pub say_asked : (c : Core) (event : Event) (text : List ℕ) → View c event → call_of c event ≡ Say text → IsQuiet c event
say_asked c event text (Tells hears disk_is call_is) e = record { hears = hears; disk_is = disk_is }
say_asked c event text (Gets party sector call_is hears disk_is) e = absurd cc
say_asked c event text (Puts ticket flight at) e = let put = arrives_with c ticket flight at in absurd cc

abbrev get_sector : Call → ℕ
get_sector (Get party sector) = sector
get_sector call = 0

pub get_asked : (c : Core) (event : Event) (party sector : ℕ) → View c event → call_of c event ≡ Get party sector → IsGet c event sector
get_asked c event party sector (Tells hears disk_is call_is) e = absurd (get_unsaid (deeds_of c event Nothing) party sector (sym call_is ∙ e))
get_asked c event party sector (Gets own got call_is hears disk_is) e =
    subst (λ s. IsGet c event s) (ap get_sector (sym call_is ∙ e)) (record { hears = hears; disk_is = disk_is })
get_asked c event party sector (Puts ticket flight at) e = let put = arrives_with c ticket flight at in absurd cc

abbrev put_by : Call → Put → Put
put_by (MakePut ticket put) other = put
put_by call other = other

abbrev ticket_by : Call → ℕ
ticket_by (MakePut ticket put) = ticket
ticket_by call = 0

pub put_asked : (c : Core) (event : Event) (ticket : ℕ) (put : Put) → View c event → call_of c event ≡ MakePut ticket put → IsArrival c event ticket put
put_asked c event ticket put (Tells hears disk_is call_is) e = absurd (put_unsaid (deeds_of c event Nothing) ticket put (sym call_is ∙ e))
put_asked c event ticket put (Gets party sector call_is hears disk_is) e = absurd cc
put_asked c event ticket put (Puts own flight at) e =
    let both : MakePut own (put_of c.now flight) ≡ MakePut ticket put = sym (arrives_with c own flight at) ∙ e in
    let same : own ≡ ticket = ap ticket_by both in
    record {
      flight = flight;
      event_is = ap Arrive same;
      at = subst (λ t. value_at c.flights t ≡ Some flight) same at;
      put_is = sym (ap (λ call. put_by call put) both);
    }
