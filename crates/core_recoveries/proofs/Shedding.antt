-- Late writes fade, sector by sector; nothing else of the world changes.
use Rattle.std.proofs.Common.{◌≡◌, ◌⊎◌, ℕ, ◌<◌, ◌≤◌, List, [], ◌∷◌, ◌++◌, Option, Some, None, refl, sym, ap, ◌∙◌, subst, inl, inr, arith}
use Rattle.std.proofs.lemmas.Option.{none-some, same_Some}
use Rattle.frang_base.specs.Functions.{put}
use Rattle.frang_base.proofs.Basics.{at_put, le_or_lt}
use Rattle.disk_definitions.proofs.Listed.{Among}
use Rattle.sector_world.specs.World.{World, Flight, ByteFlight}
use Rattle.sector_world.specs.Steps.{Event, Run, after, stays, goes}
use Rattle.sector_world.specs.Steps.Event.{Fade, FadeBytes}
use Rattle.core_lives.proofs.Emptying.{joined}
use Rattle.core_world.specs.Quiet.{AllQuiet}
use Rattle.core_world.proofs.Quiet.{quiet_both}

-- ---- of one kind

-- what is in flight was, what was in time is, and at these sectors only that
pub record IsShed {X : Type 0} (stamp : X → ℕ) (now : ℕ) (sectors : List ℕ) (old new : ℕ → Option X) : Type 0 where
  pub was : (s : ℕ) (f : X) → new s ≡ Some f → old s ≡ Some f
  pub stays_on : (s : ℕ) (f : X) → old s ≡ Some f → now ≤ stamp f → new s ≡ Some f
  pub early : (s : ℕ) (f : X) → Among s sectors → new s ≡ Some f → now ≤ stamp f

shed_none : {X : Type 0} (stamp : X → ℕ) (now : ℕ) (old : ℕ → Option X) → IsShed stamp now [] old old
shed_none stamp now old = record { was = λ s f e. e; stays_on = λ s f e l. e; early = λ s f i. absurd i }

-- one more sector, of which what is in flight is in time, or nothing is
shed_same : {X : Type 0} (stamp : X → ℕ) (now s : ℕ) (sectors : List ℕ) (old new : ℕ → Option X) → ((f : X) → old s ≡ Some f → now ≤ stamp f) → IsShed stamp now sectors old new →
    IsShed stamp now (s ∷ sectors) old new
shed_same {X} stamp now s sectors old new here x = record { was = x.was; stays_on = x.stays_on; early = λ t f i e. go t f i e }
  where
    go : (t : ℕ) (f : X) → Among t (s ∷ sectors) → new t ≡ Some f → now ≤ stamp f
    go t f (inl i) e = here f (ap old (sym i) ∙ x.was t f e)
    go t f (inr i) e = x.early t f i e

-- or of which it was late
shed_put : {X : Type 0} (stamp : X → ℕ) (now s : ℕ) (sectors : List ℕ) (old new : ℕ → Option X) (f : X) → old s ≡ Some f → stamp f < now → IsShed stamp now sectors (put old s None) new →
    IsShed stamp now (s ∷ sectors) old new
shed_put {X} stamp now s sectors old new f there late x = record {
  was = λ t g e. before t g (x.was t g e);
  stays_on = λ t g e l. x.stays_on t g (at_put (λ o. o ≡ Some g) old s None t (λ i. absurd (apart g (same_Some f g (sym there ∙ ap old (sym i) ∙ e)) l)) (λ n. e)) l;
  early = λ t g i e. go t g i e;
}
  where
    before : (t : ℕ) (g : X) → put old s None t ≡ Some g → old t ≡ Some g
    before t g = at_put (λ o. o ≡ Some g → old t ≡ Some g) old s None t (λ i e. absurd (none-some g e)) (λ n e. e)

    below_above : (x y : ℕ) → x < y → y ≤ x → ⊥
    below_above x y h i = absurd (omega (arith, h, i))

    apart : (g : X) → f ≡ g → now ≤ stamp g → ⊥
    apart g i l = below_above (stamp f) now late (subst (λ z. now ≤ stamp z) (sym i) l)

    go : (t : ℕ) (g : X) → Among t (s ∷ sectors) → new t ≡ Some g → now ≤ stamp g
    go t g (inl i) e = absurd (none-some g (sym (at_put (λ o. o ≡ None) old s None t (λ j. refl) (λ n. absurd (n i))) ∙ x.was t g e))
    go t g (inr i) e = x.early t g i e

-- ---- of sectors with versions

pub record ShedsFlights (sectors : List ℕ) (w : World) : Type 0 where
  pub events : List Event
  pub flight : ℕ → Option Flight
  pub run : Run w events (record w { flight = flight })
  pub quiet : (segments : ℕ) → AllQuiet segments w events
  pub shed : IsShed (λ (f : Flight). f.stamp) w.now sectors w.flight flight

shed_one : (s : ℕ) (sectors : List ℕ) (w : World) → ((v : World) → ShedsFlights sectors v) → ShedsFlights (s ∷ sectors) w
shed_one s sectors w rest = go (w.flight s) refl
  where
    as_it_is : ((f : Flight) → w.flight s ≡ Some f → w.now ≤ f.stamp) → ShedsFlights (s ∷ sectors) w
    as_it_is here = let x : ShedsFlights sectors w = rest w in
        record { events = x.events; flight = x.flight; run = x.run; quiet = x.quiet; shed = shed_same (λ (f : Flight). f.stamp) w.now s sectors w.flight x.flight here x.shed }

    by_time : (f : Flight) → w.flight s ≡ Some f → (w.now ≤ f.stamp) ⊎ (f.stamp < w.now) → ShedsFlights (s ∷ sectors) w
    by_time f e (inl early) = as_it_is (λ g i. subst (λ (z : Flight). w.now ≤ z.stamp) (same_Some f g (sym e ∙ i)) early)
    by_time f e (inr late) = let x : ShedsFlights sectors (after w (Fade s f)) = rest (after w (Fade s f)) in
        record {
          events = Fade s f ∷ x.events;
          flight = x.flight;
          run = goes (record { there = e; late = inl late }) x.run;
          quiet = λ segments. (tt, x.quiet segments);
          shed = shed_put (λ (z : Flight). z.stamp) w.now s sectors w.flight x.flight f e late x.shed;
        }

    go : (o : Option Flight) → w.flight s ≡ o → ShedsFlights (s ∷ sectors) w
    go None e = as_it_is (λ g i. absurd (none-some g (sym e ∙ i)))
    go (Some f) e = by_time f e (le_or_lt w.now f.stamp)

shed_flights : (sectors : List ℕ) (w : World) → ShedsFlights sectors w
shed_flights [] w = record { events = []; flight = w.flight; run = stays; quiet = λ segments. tt; shed = shed_none (λ (f : Flight). f.stamp) w.now w.flight }
shed_flights (s ∷ sectors) w = shed_one s sectors w (λ v. shed_flights sectors v)

-- ---- of bytes

pub record ShedsBytes (sectors : List ℕ) (w : World) : Type 0 where
  pub events : List Event
  pub byte_flight : ℕ → Option ByteFlight
  pub run : Run w events (record w { byte_flight = byte_flight })
  pub quiet : (segments : ℕ) → AllQuiet segments w events
  pub shed : IsShed (λ (f : ByteFlight). f.stamp) w.now sectors w.byte_flight byte_flight

shed_one_bytes : (s : ℕ) (sectors : List ℕ) (w : World) → ((v : World) → ShedsBytes sectors v) → ShedsBytes (s ∷ sectors) w
shed_one_bytes s sectors w rest = go (w.byte_flight s) refl
  where
    as_it_is : ((f : ByteFlight) → w.byte_flight s ≡ Some f → w.now ≤ f.stamp) → ShedsBytes (s ∷ sectors) w
    as_it_is here = let x : ShedsBytes sectors w = rest w in
        record { events = x.events; byte_flight = x.byte_flight; run = x.run; quiet = x.quiet; shed = shed_same (λ (f : ByteFlight). f.stamp) w.now s sectors w.byte_flight x.byte_flight here x.shed }

    by_time : (f : ByteFlight) → w.byte_flight s ≡ Some f → (w.now ≤ f.stamp) ⊎ (f.stamp < w.now) → ShedsBytes (s ∷ sectors) w
    by_time f e (inl early) = as_it_is (λ g i. subst (λ (z : ByteFlight). w.now ≤ z.stamp) (same_Some f g (sym e ∙ i)) early)
    by_time f e (inr late) = let x : ShedsBytes sectors (after w (FadeBytes s f)) = rest (after w (FadeBytes s f)) in
        record {
          events = FadeBytes s f ∷ x.events;
          byte_flight = x.byte_flight;
          run = goes (record { there = e; late = inl late }) x.run;
          quiet = λ segments. (tt, x.quiet segments);
          shed = shed_put (λ (z : ByteFlight). z.stamp) w.now s sectors w.byte_flight x.byte_flight f e late x.shed;
        }

    go : (o : Option ByteFlight) → w.byte_flight s ≡ o → ShedsBytes (s ∷ sectors) w
    go None e = as_it_is (λ g i. absurd (none-some g (sym e ∙ i)))
    go (Some f) e = by_time f e (le_or_lt w.now f.stamp)

shed_bytes : (sectors : List ℕ) (w : World) → ShedsBytes sectors w
shed_bytes [] w = record { events = []; byte_flight = w.byte_flight; run = stays; quiet = λ segments. tt; shed = shed_none (λ (f : ByteFlight). f.stamp) w.now w.byte_flight }
shed_bytes (s ∷ sectors) w = shed_one_bytes s sectors w (λ v. shed_bytes sectors v)

-- ---- both

pub record Sheds (sectors : List ℕ) (w : World) : Type 0 where
  pub events : List Event
  pub flight : ℕ → Option Flight
  pub byte_flight : ℕ → Option ByteFlight
  pub run : Run w events (record w { flight = flight; byte_flight = byte_flight })
  pub quiet : (segments : ℕ) → AllQuiet segments w events
  pub shed : IsShed (λ (f : Flight). f.stamp) w.now sectors w.flight flight
  pub shed_bytes : IsShed (λ (f : ByteFlight). f.stamp) w.now sectors w.byte_flight byte_flight

pub sheds : (sectors : List ℕ) (w : World) → Sheds sectors w
sheds sectors w =
    let x : ShedsFlights sectors w = shed_flights sectors w in
    let y : ShedsBytes sectors (record w { flight = x.flight }) = shed_bytes sectors (record w { flight = x.flight }) in
    record {
      events = x.events ++ y.events;
      flight = x.flight;
      byte_flight = y.byte_flight;
      run = joined w (record w { flight = x.flight }) (record w { flight = x.flight; byte_flight = y.byte_flight }) x.events y.events x.run y.run;
      quiet = λ segments. quiet_both segments w (record w { flight = x.flight }) x.events y.events x.run (x.quiet segments) (y.quiet segments);
      shed = x.shed;
      shed_bytes = y.shed;
    }
