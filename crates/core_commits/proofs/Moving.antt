-- What a Commit leaves in flight: its server's writes of the present mount come under their sectors' new covers.
use Rattle.std.proofs.Common.{◌≡◌, ◌==◌, ℕ, ◌≤◌, Bool, true, false, if◌then◌else◌, Some, None, refl, sym, ap, ◌∙◌, subst, arith}
use Rattle.std.proofs.lemmas.Bool.{false≢true}
use Rattle.std.proofs.lemmas.Bool.Decides.{nat_tests}
use Rattle.std.specs.List.{Contains}
use Rattle.std.specs.Option.{unwrap_or}
use Rattle.frang_base.proofs.Basics.{by_test}
use Rattle.frang_base.specs.declared.lock.LockId.{LockId}
use Rattle.frang_base.specs.declared.lock.Mode.TheVariants.{Sole}
use Rattle.sector_bytes.specs.Blocks.{Block}
use Rattle.core_definitions.specs.Flights as core
use Rattle.core_definitions.specs.Flights.{Flights, each_of_server}
use Rattle.core_definitions.specs.Plans as plans
use Rattle.core_definitions.specs.LineEffects.{flight_after, purpose_after}
use Rattle.core_laws.proofs.Membership.{contains_in, in_contains, into_map, from_map, FromMap}
use Rattle.sector_world.specs.Histories.{Commit}
use Rattle.sector_world.specs.Seen.{moved}
use Rattle.sector_world.specs.World.{World, cover, has_version}
use Rattle.sector_world.specs.Steps.{after}
use Rattle.sector_world.specs.Steps.Event.{Do}
use Rattle.core_world.specs.Ties.{AreFlying, IsFlying, IsShown, is_log_sector}
use Rattle.core_commits.specs.Commits.{IsDoneAs}
use Rattle.core_commits.proofs.Doing.{cover_moved}

-- one write, after it
abbrev pub moved_on : plans.Outcome → ℕ → ℕ × core.Flight → ℕ × core.Flight
moved_on outcome a one = if one.1.server == a then (one.0, flight_after outcome one.1) else one

module _ (segments now : ℕ) (flights : Flights) (w : World) (outcome : plans.Outcome) (c : Commit) (done : IsDoneAs outcome c w) (t : AreFlying segments now flights w)
    -- another server's write in place holds its cover alone, and then this operation moves it not
    (others : (s : ℕ) (lock : LockId) → cover w s ≡ lock → (b : ℕ) → (b ≡ c.by → ⊥) → w.holds b lock ≡ Some Sole → c.moves s ≡ None)
    (soles : (one : ℕ × core.Flight) (lock : LockId) → Contains flights one → one.1.present ≡ true → one.1.purpose ≡ core.InPlace lock → w.holds one.1.server lock ≡ Some Sole)
    -- nothing of a claimed sector flies in time
    (landed : (one : ℕ × core.Flight) → Contains flights one → now ≤ one.1.stamp → c.claims one.1.sector ≡ true → ⊥) where
  abbrev next : Flights
  next = each_of_server c.by (flight_after outcome) flights

  there : (one x : ℕ × core.Flight) → Contains flights one → moved_on outcome c.by one ≡ x → Contains next x
  there one x i e = subst (Contains next) e (in_contains next (moved_on outcome c.by one) (into_map (moved_on outcome c.by) flights one (contains_in flights one i)))

  -- what the write is of changes only in its cover
  flies : (s by behalf stamp : ℕ) (block : Block) → IsFlying flights s (cover w s) by behalf stamp block → IsFlying next s (moved (c.moves s) (cover w s)) by behalf stamp block
  flies s by behalf stamp block f = go (f.one.1.server == c.by) refl f.one.1.present refl
    where
      mine : (f.one.1.server == c.by) ≡ true → moved_on outcome c.by f.one ≡ (f.one.0, flight_after outcome f.one.1)
      mine e = ap (λ b. if b then (f.one.0, flight_after outcome f.one.1) else f.one) e

      under : by ≡ behalf → f.one.1.present ≡ true → purpose_after outcome f.one.1.sector f.one.1.purpose ≡ core.InPlace (moved (c.moves s) (cover w s))
      under i j =
          ap (purpose_after outcome f.one.1.sector) (f.place i j)
          ∙ ap (λ l. core.InPlace l) (ap (λ new. unwrap_or new (cover w s)) (done.moves f.one.1.sector ∙ ap c.moves f.sector) ∙ cover_moved (c.moves s) (cover w s) (cover w s) refl)

      stays : (f.one.1.server == c.by) ≡ false → by ≡ behalf → f.one.1.present ≡ true → f.one.1.purpose ≡ core.InPlace (moved (c.moves s) (cover w s))
      stays e i j =
          f.place i j ∙ ap (λ l. core.InPlace l) (sym (ap (λ new. moved new (cover w s)) (others s (cover w s) refl f.one.1.server (λ q. false≢true (sym e ∙ itself f.one.1.server c.by q)) (soles f.one (cover w s) f.among j (f.place i j)))))
        where
          itself : (n m : ℕ) → n ≡ m → (n == m) ≡ true
          itself n m q = grind (arith, nat_tests, q)

      go : (b : Bool) → (f.one.1.server == c.by) ≡ b → (p : Bool) → f.one.1.present ≡ p → IsFlying next s (moved (c.moves s) (cover w s)) by behalf stamp block
      go true e true p = record {
        one = (f.one.0, record f.one.1 { purpose = purpose_after outcome f.one.1.sector f.one.1.purpose });
        among = there f.one (f.one.0, record f.one.1 { purpose = purpose_after outcome f.one.1.sector f.one.1.purpose }) f.among
            (mine e ∙ ap (λ b. (f.one.0, (if b then record f.one.1 { purpose = purpose_after outcome f.one.1.sector f.one.1.purpose } else f.one.1))) p);
        sector = f.sector;
        server = f.server;
        behalf_is = f.behalf_is;
        stamp_is = f.stamp_is;
        block_is = f.block_is;
        place = λ i j. under i j;
      }
      go true e false p = record {
        one = f.one;
        among = there f.one f.one f.among (mine e ∙ ap (λ b. (f.one.0, (if b then record f.one.1 { purpose = purpose_after outcome f.one.1.sector f.one.1.purpose } else f.one.1))) p);
        sector = f.sector;
        server = f.server;
        behalf_is = f.behalf_is;
        stamp_is = f.stamp_is;
        block_is = f.block_is;
        place = λ i j. absurd (false≢true (sym p ∙ j));
      }
      go false e p q = record {
        one = f.one;
        among = there f.one f.one f.among (ap (λ b. if b then (f.one.0, flight_after outcome f.one.1) else f.one) e);
        sector = f.sector;
        server = f.server;
        behalf_is = f.behalf_is;
        stamp_is = f.stamp_is;
        block_is = f.block_is;
        place = stays e;
      }

  abbrev Seen : ℕ × core.Flight → Type 0
  Seen one = now ≤ one.1.stamp → is_log_sector segments one.1.sector ≡ false → IsShown (if c.claims one.1.sector then true else has_version w one.1.sector) one.1 (w.flight one.1.sector) (w.byte_flight one.1.sector)

  seen_on : (one : ℕ × core.Flight) → Contains flights one → Seen (moved_on outcome c.by one)
  seen_on one i = by_test Seen (one.0, flight_after outcome one.1) one (one.1.server == c.by) (λ e. by one.1.present) (λ e. here)
    where
      here : Seen one
      here early log = go (c.claims one.1.sector) refl
        where
          go : (b : Bool) → c.claims one.1.sector ≡ b → IsShown (if b then true else has_version w one.1.sector) one.1 (w.flight one.1.sector) (w.byte_flight one.1.sector)
          go true e = absurd (landed one i early e)
          go false e = t.shown one i early log

      same : (v : Bool) → IsShown v one.1 (w.flight one.1.sector) (w.byte_flight one.1.sector) →
          IsShown v (record one.1 { purpose = purpose_after outcome one.1.sector one.1.purpose }) (w.flight one.1.sector) (w.byte_flight one.1.sector)
      same true x = x
      same false x = x

      by : (p : Bool) → Seen (one.0, (if p then record one.1 { purpose = purpose_after outcome one.1.sector one.1.purpose } else one.1))
      by true early log = same (if c.claims one.1.sector then true else has_version w one.1.sector) (here early log)
      by false early log = here early log

  pub do_flying : AreFlying segments now next (after w (Do c))
  do_flying = record {
    flight = λ s f e. flies s f.by f.behalf f.stamp f.block (t.flight s f e);
    bytes = λ s f e. flies s f.by f.by f.stamp f.block (t.bytes s f e);
    shown = λ one i. let r : FromMap (moved_on outcome c.by) flights one = from_map (moved_on outcome c.by) flights one (contains_in next one i) in
        subst Seen r.is (seen_on r.from (in_contains flights r.from r.there));
  }
