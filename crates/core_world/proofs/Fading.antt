-- What a dead server has in flight fades, sector by sector; nothing else of the world changes.
use Rattle.std.proofs.Common.{◌≡◌, ◌⊎◌, ℕ, ◌==◌, Bool, true, false, not, if◌then◌else◌, List, [], ◌∷◌, ◌++◌, Option, Some, None, nat_eq, refl, sym, ap, ◌∙◌, subst, inl, inr, arith}
use Rattle.std.proofs.lemmas.Bool.{false≢true, eqb-true}
use Rattle.std.proofs.lemmas.Bool.Decides.{nat_tests}
use Rattle.frang_base.specs.Functions.{put}
use Rattle.frang_base.proofs.Basics.{at_put, put_same}
use Rattle.disk_definitions.proofs.Listed.{Among}
use Rattle.core_definitions.specs.Flights as core
use Rattle.core_definitions.specs.Flights.{Flights, left_behind, lost}
use Rattle.sector_world.specs.World.{World, Dead, Flight, ByteFlight}
use Rattle.sector_world.specs.Steps.{Event, Run, after, stays, goes}
use Rattle.sector_world.specs.Steps.Event.{Fade, FadeBytes}
use Rattle.core_world.specs.Quiet.{AllQuiet}
use Rattle.core_world.proofs.Quiet.{quiet_both}

-- ---- one kind of writes, by who has them in flight

-- where these differ there is nothing any more, and was one of this server
abbrev pub IsLess : {X : Type 0} → (X → ℕ) → ℕ → (ℕ → Option X) → (ℕ → Option X) → ℕ → Type 0
IsLess {X} by a old new s = (new s ≡ old s) ⊎ ((new s ≡ None) × ((f : X) → old s ≡ Some f → by f ≡ a))

-- there is none of this server
abbrev pub HasNone : {X : Type 0} → (X → ℕ) → ℕ → (ℕ → Option X) → ℕ → Type 0
HasNone {X} by a at s = (f : X) → at s ≡ Some f → by f ≡ a → ⊥

less_less : {X : Type 0} (by : X → ℕ) (a : ℕ) (old new later : ℕ → Option X) (s : ℕ) → IsLess by a old new s → IsLess by a new later s → IsLess by a old later s
less_less by a old new later s (inl p) (inl q) = inl (q ∙ p)
less_less by a old new later s (inl p) (inr q) = inr (q.0, λ f e. q.1 f (p ∙ e))
less_less by a old new later s (inr p) (inl q) = inr (q ∙ p.0, p.1)
less_less by a old new later s (inr p) (inr q) = inr (q.0, p.1)

none_some : {X : Type 0} (o : Option X) (f : X) → o ≡ None → o ≡ Some f → ⊥
none_some o f e i = cc

none_stays : {X : Type 0} (by : X → ℕ) (a : ℕ) (old new : ℕ → Option X) (s : ℕ) → HasNone by a old s → IsLess by a old new s → HasNone by a new s
none_stays by a old new s none (inl q) f e = none f (sym q ∙ e)
none_stays by a old new s none (inr q) f e = absurd (none_some (new s) f q.0 e)

same_some : {X : Type 0} (o : Option X) (f g : X) → o ≡ Some f → o ≡ Some g → f ≡ g
same_some o f g e i = cc

-- one that goes
less_put : {X : Type 0} (by : X → ℕ) (a : ℕ) (old : ℕ → Option X) (s : ℕ) (f : X) → old s ≡ Some f → by f ≡ a → (t : ℕ) → IsLess by a old (put old s None) t
less_put {X} by a old s f there own t =
    at_put (λ o. (o ≡ old t) ⊎ ((o ≡ None) × ((g : X) → old t ≡ Some g → by g ≡ a))) old s None t
    (λ i. inr (refl, λ g e. ap by (same_some (old t) g f e (ap old i ∙ there)) ∙ own)) (λ n. inl refl)

none_put : {X : Type 0} (by : X → ℕ) (a : ℕ) (old : ℕ → Option X) (s : ℕ) → HasNone by a (put old s None) s
none_put by a old s f e = absurd (none_some (put old s None s) f (put_same old s None) e)

-- ---- worlds

abbrev pub own : Flight → ℕ
own f = f.by

abbrev pub own_bytes : ByteFlight → ℕ
own_bytes f = f.by

-- the same but for some writes of this server
pub record Fades (a : ℕ) (w u : World) : Type 0 where
  pub same : u ≡ record w { flight = u.flight; byte_flight = u.byte_flight }
  pub flights : (s : ℕ) → IsLess own a w.flight u.flight s
  pub bytes : (s : ℕ) → IsLess own_bytes a w.byte_flight u.byte_flight s

fades_none : (a : ℕ) (w : World) → Fades a w w
fades_none a w = record { same = refl; flights = λ s. inl refl; bytes = λ s. inl refl }

fades_on : (a : ℕ) (w u v : World) → Fades a w u → Fades a u v → Fades a w v
fades_on a w u v f g = record {
  same = g.same ∙ ap (λ (x : World). record x { flight = v.flight; byte_flight = v.byte_flight }) f.same;
  flights = λ s. less_less own a w.flight u.flight v.flight s (f.flights s) (g.flights s);
  bytes = λ s. less_less own_bytes a w.byte_flight u.byte_flight v.byte_flight s (f.bytes s) (g.bytes s);
}

still_dead : (a : ℕ) (w u : World) → Fades a w u → w.phase a ≡ Dead → u.phase a ≡ Dead
still_dead a w u f dead = ap (λ x. x.phase a) f.same ∙ dead

joined : (w u v : World) (es fs : List Event) → Run w es u → Run u fs v → Run w (es ++ fs) v
joined w u v [] fs stays r = r
joined w u v (e ∷ es) fs (goes can first) r = goes can (joined (after w e) u v es fs first r)

-- ---- at one sector

pub record FadesAt (a s : ℕ) (w : World) : Type 0 where
  pub events : List Event
  pub world : World
  pub run : Run w events world
  pub fades : Fades a w world
  pub quiet : (segments : ℕ) → AllQuiet segments w events
  pub none : HasNone own a world.flight s
  pub none_bytes : HasNone own_bytes a world.byte_flight s

-- the write of a sector with a version, and that the one of bytes is as it was
record FadesOne (a s : ℕ) (w : World) : Type 0 where
  events : List Event
  world : World
  run : Run w events world
  fades : Fades a w world
  quiet : (segments : ℕ) → AllQuiet segments w events
  none : HasNone own a world.flight s

apart : (n m : ℕ) → nat_eq n m ≡ false → n ≡ m → ⊥
apart n m e i = grind (arith, nat_tests, e, i)

flight_fades : (a s : ℕ) (w : World) → w.phase a ≡ Dead → FadesOne a s w
flight_fades a s w dead = go (w.flight s) refl
  where
    by_test : (f : Flight) → w.flight s ≡ Some f → (b : Bool) → nat_eq f.by a ≡ b → FadesOne a s w
    by_test f e true t = record {
      events = Fade s f ∷ [];
      world = after w (Fade s f);
      run = goes (record { there = e; late = inr (ap w.phase (eqb-true f.by a t) ∙ dead) }) stays;
      fades = record { same = refl; flights = less_put own a w.flight s f e (eqb-true f.by a t); bytes = λ x. inl refl };
      quiet = λ segments. (tt, tt);
      none = none_put own a w.flight s;
    }
    by_test f e false t = record { events = []; world = w; run = stays; fades = fades_none a w; quiet = λ segments. tt; none = λ g i own_is. apart f.by a t (ap own (same_some (w.flight s) f g e i) ∙ own_is) }

    go : (o : Option Flight) → w.flight s ≡ o → FadesOne a s w
    go None e = record { events = []; world = w; run = stays; fades = fades_none a w; quiet = λ segments. tt; none = λ g i own_is. none_some (w.flight s) g e i }
    go (Some f) e = by_test f e (nat_eq f.by a) refl

sector_fades : (a s : ℕ) (w : World) → w.phase a ≡ Dead → FadesAt a s w
sector_fades a s w dead = go (x.world.byte_flight s) refl
  where
    x : FadesOne a s w
    x = flight_fades a s w dead

    fallen : x.world.phase a ≡ Dead
    fallen = still_dead a w x.world x.fades dead

    left : HasNone own_bytes a x.world.byte_flight s → FadesAt a s w
    left none = record { events = x.events; world = x.world; run = x.run; fades = x.fades; quiet = x.quiet; none = x.none; none_bytes = none }

    by_test : (f : ByteFlight) → x.world.byte_flight s ≡ Some f → (b : Bool) → nat_eq f.by a ≡ b → FadesAt a s w
    by_test f e true t = record {
      events = x.events ++ FadeBytes s f ∷ [];
      world = after x.world (FadeBytes s f);
      run = joined w x.world (after x.world (FadeBytes s f)) x.events (FadeBytes s f ∷ []) x.run (goes (record { there = e; late = inr (ap x.world.phase (eqb-true f.by a t) ∙ fallen) }) stays);
      fades = fades_on a w x.world (after x.world (FadeBytes s f)) x.fades
          (record { same = refl; flights = λ i. inl refl; bytes = less_put own_bytes a x.world.byte_flight s f e (eqb-true f.by a t) });
      quiet = λ segments. quiet_both segments w x.world x.events (FadeBytes s f ∷ []) x.run (x.quiet segments) (tt, tt);
      none = x.none;
      none_bytes = none_put own_bytes a x.world.byte_flight s;
    }
    by_test f e false t = left (λ g i own_is. apart f.by a t (ap own_bytes (same_some (x.world.byte_flight s) f g e i) ∙ own_is))

    go : (o : Option ByteFlight) → x.world.byte_flight s ≡ o → FadesAt a s w
    go None e = left (λ g i own_is. none_some (x.world.byte_flight s) g e i)
    go (Some f) e = by_test f e (nat_eq f.by a) refl

-- ---- at each of some sectors

pub record FadesAll (a : ℕ) (sectors : List ℕ) (w : World) : Type 0 where
  pub events : List Event
  pub world : World
  pub run : Run w events world
  pub fades : Fades a w world
  pub quiet : (segments : ℕ) → AllQuiet segments w events
  pub none : (s : ℕ) → Among s sectors → HasNone own a world.flight s
  pub none_bytes : (s : ℕ) → Among s sectors → HasNone own_bytes a world.byte_flight s

pub all_fade : (a : ℕ) (sectors : List ℕ) (w : World) → w.phase a ≡ Dead → FadesAll a sectors w
all_fade a [] w dead = record { events = []; world = w; run = stays; fades = fades_none a w; quiet = λ segments. tt; none = λ s i. absurd i; none_bytes = λ s i. absurd i }
all_fade a (s ∷ sectors) w dead =
    let x = sector_fades a s w dead in
    let y = all_fade a sectors x.world (still_dead a w x.world x.fades dead) in
    record {
      events = x.events ++ y.events;
      world = y.world;
      run = joined w x.world y.world x.events y.events x.run y.run;
      fades = fades_on a w x.world y.world x.fades y.fades;
      quiet = λ segments. quiet_both segments w x.world x.events y.events x.run (x.quiet segments) (y.quiet segments);
      none = λ t i. here_or (HasNone own a y.world.flight) s t sectors i (none_stays own a x.world.flight y.world.flight s x.none (y.fades.flights s)) y.none;
      none_bytes = λ t i. here_or (HasNone own_bytes a y.world.byte_flight) s t sectors i (none_stays own_bytes a x.world.byte_flight y.world.byte_flight s x.none_bytes (y.fades.bytes s)) y.none_bytes;
    }
  where
    here_or : (P : ℕ → Type 0) (s t : ℕ) (sectors : List ℕ) → Among t (s ∷ sectors) → P s → ((i : ℕ) → Among i sectors → P i) → P t
    here_or P s t sectors (inl e) p rest = subst P (sym e) p
    here_or P s t sectors (inr i) p rest = rest t i

-- ---- the core's list of them

pub into_lost : (a : ℕ) (flights : Flights) (one : ℕ × core.Flight) → Among one flights → (one.1.server == a) ≡ false → Among one (lost a flights)
into_lost a [] one i e = absurd i
into_lost a (x ∷ xs) one i e = go (x.1.server == a) refl i (λ j. into_lost a xs one j e)
  where
    go : (b : Bool) → (x.1.server == a) ≡ b → Among one (x ∷ xs) → (Among one xs → Among one (lost a xs)) → Among one (if not b then x ∷ lost a xs else lost a xs)
    go true t (inl j) rest = absurd (false≢true (sym e ∙ ap (λ (o : ℕ × core.Flight). o.1.server == a) j ∙ t))
    go true t (inr j) rest = rest j
    go false t (inl j) rest = inl j
    go false t (inr j) rest = inr (rest j)

pub from_lost : (a : ℕ) (flights : Flights) (one : ℕ × core.Flight) → Among one (lost a flights) → Among one flights × ((one.1.server == a) ≡ false)
from_lost a [] one i = absurd i
from_lost a (x ∷ xs) one i = go (x.1.server == a) refl i (from_lost a xs one)
  where
    go : (b : Bool) → (x.1.server == a) ≡ b → Among one (if not b then x ∷ lost a xs else lost a xs) → (Among one (lost a xs) → Among one xs × ((one.1.server == a) ≡ false)) →
        Among one (x ∷ xs) × ((one.1.server == a) ≡ false)
    go true t j rest = let r = rest j in (inr r.0, r.1)
    go false t (inl j) rest = (inl j, ap (λ (o : ℕ × core.Flight). o.1.server == a) j ∙ t)
    go false t (inr j) rest = let r = rest j in (inr r.0, r.1)

-- those of another mount are lost too
pub lost_left : (a : ℕ) (flights : Flights) → lost a (left_behind a flights) ≡ lost a flights
lost_left a [] = refl
lost_left a (x ∷ xs) = go (x.1.server == a) refl (lost_left a xs)
  where
    go : (b : Bool) → (x.1.server == a) ≡ b → lost a (left_behind a xs) ≡ lost a xs →
        (if not ((if b then (x.0, record x.1 { present = false }) else x).1.server == a) then (if b then (x.0, record x.1 { present = false }) else x) ∷ lost a (left_behind a xs) else lost a (left_behind a xs))
        ≡ (if not b then x ∷ lost a xs else lost a xs)
    go true e rest = ap (λ t. if not t then (x.0, record x.1 { present = false }) ∷ lost a (left_behind a xs) else lost a (left_behind a xs)) e ∙ rest
    go false e rest = ap (λ t. if not t then x ∷ lost a (left_behind a xs) else lost a (left_behind a xs)) e ∙ ap (λ l. x ∷ l) rest
