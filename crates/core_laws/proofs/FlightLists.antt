-- What is so of each write in flight, through all that is done to their list.
use Rattle.std.proofs.Common.{ℕ, inl, inr, Bool, true, false, not, ◌==◌, cond, if◌then◌else◌, [], ◌∷◌, ◌++◌, refl, subst, sym}
use Rattle.std.specs.BTreeMap.{is_at}
use Rattle.std.specs.Map.{remove_entry}
use Rattle.std.specs.Ordering.{nat_cmp}
use Rattle.disk_definitions.proofs.Listed.{Among}
use Rattle.sector_bytes.specs.SectorMaps.{without}
use Rattle.core_definitions.specs.Flights.{Flight, Flights, each_of_server, lost}

abbrev pub AllFlights : (Flight → Type 0) → Flights → Type 0
AllFlights P [] = Unit {0}
AllFlights P (one ∷ others) = P one.1 × AllFlights P others

pub all_changed : (P : Flight → Type 0) (server : ℕ) (change : Flight → Flight) → ((f : Flight) → P f → P (change f)) → (flights : Flights) → AllFlights P flights →
    AllFlights P (each_of_server server change flights)
all_changed P server change keeps [] all = tt
all_changed P server change keeps (one ∷ others) all = (go (one.1.server == server), all_changed P server change keeps others all.1)
  where
    go : (b : Bool) → P (if b then (one.0, change one.1) else one).1
    go true = keeps one.1 all.0
    go false = all.0

pub all_lost : (P : Flight → Type 0) (server : ℕ) (flights : Flights) → AllFlights P flights → AllFlights P (lost server flights)
all_lost P server [] all = tt
all_lost P server (one ∷ others) all = go (one.1.server == server) (all_lost P server others all.1)
  where
    go : (b : Bool) → AllFlights P (lost server others) → AllFlights P (cond (not b) (one ∷ lost server others) (lost server others))
    go true rest = rest
    go false rest = (all.0, rest)

pub all_landed : (P : Flight → Type 0) (ticket : ℕ) (flights : Flights) → AllFlights P flights → AllFlights P (without flights ticket)
all_landed P ticket [] all = tt
all_landed P ticket (one ∷ others) all = go (is_at (nat_cmp ticket) one.0) (all_landed P ticket others all.1)
  where
    go : (b : Bool) → AllFlights P (without others ticket) → AllFlights P (cond b others (one ∷ remove_entry (is_at (nat_cmp ticket)) others))
    go true rest = all.1
    go false rest = (all.0, rest)

pub all_joined : (P : Flight → Type 0) (one : ℕ × Flight) (flights : Flights) → P one.1 → AllFlights P flights → AllFlights P (flights ++ one ∷ [])
all_joined P one [] here all = (here, tt)
all_joined P one (x ∷ xs) here all = (all.0, all_joined P one xs here all.1)

pub in_flights : (P : Flight → Type 0) (flights : Flights) (one : ℕ × Flight) → Among one flights → AllFlights P flights → P one.1
in_flights P [] one i all = absurd i
in_flights P (x ∷ xs) one (inl e) all = subst (λ o. P o.1) (sym e) all.0
in_flights P (x ∷ xs) one (inr i) all = in_flights P xs one i all.1

-- it is so of each where it is of each that is there
pub all_flights : (P : Flight → Type 0) (flights : Flights) → ((one : ℕ × Flight) → Among one flights → P one.1) → AllFlights P flights
all_flights P [] each = tt
all_flights P (one ∷ others) each = (each one (inl refl), all_flights P others (λ o i. each o (inr i)))
