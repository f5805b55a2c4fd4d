-- What is cached and in flight where a recovery has ended: under the covers and with the versions that it had.
use Rattle.std.proofs.Common.{◌≡◌, ◌≢◌, ℕ, ◌≤◌, Bool, true, false, Option, Some, None, map, refl, sym, ap, ◌∙◌, subst, inl}
use Rattle.std.proofs.lemmas.Option.{none-some}
use Rattle.std.specs.List.{Contains}
use Rattle.frang_base.specs.declared.lock.LockId.{LockId}
use Rattle.frang_base.specs.declared.lock.Mode.{Mode}
use Rattle.frang_base.specs.declared.lock.Mode.TheVariants.{Sole}
use Rattle.frang_base.proofs.Basics.{at_put}
use Rattle.disk_definitions.proofs.Listed.{Among}
use Rattle.sector_bytes.specs.Blocks.{Block}
use Rattle.sector_bytes.specs.SectorMaps.{value_at}
use Rattle.cache_definitions.specs.declared.dirt.Dirt.{Dirt}
use Rattle.cache_definitions.specs.Caches.{CachedSector}
use Rattle.core_definitions.specs.Flights as core
use Rattle.core_definitions.specs.Flights.{Flights}
use Rattle.core_definitions.specs.Servers.{Server}
use Rattle.core_laws.proofs.Membership.{contains_in, into_map}
use Rattle.sector_world.specs.Bytes.{PageHeld}
use Rattle.sector_world.specs.Guards.{CanFinish}
use Rattle.sector_world.specs.Kinds.{Good}
use Rattle.sector_world.specs.Logged.{HeldIf}
use Rattle.sector_world.specs.Steps.{after}
use Rattle.sector_world.specs.Steps.Event.{Finish}
use Rattle.sector_world.specs.World.{World, Slot, Clean, Page, NoPage, Flight, ByteFlight, Rescue, cover, has_version}
use Rattle.sector_world.proofs.Every.{good_step}
use Rattle.core_world.specs.Ties.{AreCached, AreFlying, IsCachedAs, IsFlying, IsPageOf, IsShown, IsSlotOf}
use Rattle.core_recoveries.proofs.Removing.{cover_stays, kind_stays}

-- ---- what is cached is under a lock that is held

clean_held : (slot : Slot) (block : Block) (mode : Option Mode) → slot ≡ Clean block → HeldIf slot mode → mode ≢ None
clean_held slot block mode e h = subst (λ x. HeldIf x mode) e h

sole_held : (mode : Option Mode) → mode ≡ Some Sole → mode ≢ None
sole_held mode e n = none-some Sole (sym n ∙ e)

slot_held : (dirt : Option Dirt) (block : Block) (slot : Slot) (mode : Option Mode) → IsSlotOf dirt block slot → HeldIf slot mode → mode ≢ None
slot_held None block slot mode e h = subst (λ x. HeldIf x mode) e h
slot_held (Some dirt) block slot mode e h = sole_held mode (subst (λ x. HeldIf x mode) e.1 h)

page_held : (dirt : Option Dirt) (block : Block) (page : Page) (mode : Option Mode) → IsPageOf dirt block page → PageHeld page mode → mode ≢ None
page_held None block page mode e h = subst (λ x. PageHeld x mode) e h
page_held (Some dirt) block page mode e h = sole_held mode (subst (λ x. PageHeld x mode) e.1 h)

pub cached_held : (v : Bool) (lock : LockId) (kept : CachedSector) (slot : Slot) (page : Page) (mode : Option Mode) → IsCachedAs v lock (Some kept) slot page → HeldIf slot mode → PageHeld page mode → mode ≢ None
cached_held true lock kept slot page mode t h p = slot_held kept.dirt kept.block slot mode t.1 h
cached_held false lock kept slot page mode t h p = page_held kept.dirt kept.block page mode t.2 p

-- what isn't cached isn't, under whichever cover and kind
none_cached : (v : Bool) (lock : LockId) (slot : Slot) (page : Page) → (v ≡ true → page ≡ NoPage) → IsCachedAs v lock None slot page → (u : Bool) (k : LockId) → IsCachedAs u k None slot page
none_cached true lock slot page empty t true k = t
none_cached true lock slot page empty t false k = (t, inl (empty refl))
none_cached false lock slot page empty t true k = t.0
none_cached false lock slot page empty t false k = t

-- ---- afterwards

module _ (w : World) (r : Rescue) (g : Good w) (can : CanFinish w r) where
  abbrev ended : World
  ended = after w (Finish r)

  good : Good ended
  good = good_step w (Finish r) can g

  pub cached_on : (servers then_ : ℕ → Server) → ((b : ℕ) → (then_ b).cache ≡ (servers b).cache) → ((s : ℕ) → value_at (servers r.dead).cache s ≡ None) → AreCached servers w → AreCached then_ ended
  cached_on servers then_ same bare t b s = subst (λ k. IsCachedAs (has_version ended s) (cover ended s) (value_at k s) (w.slot b s) (w.page b s)) (sym (same b)) (go (value_at (servers b).cache s) refl (t b s))
    where
      there : (kept : CachedSector) → value_at (servers b).cache s ≡ Some kept → b ≢ r.dead
      there kept e i = none-some kept (sym (bare s) ∙ ap (λ n. value_at (servers n).cache s) (sym i) ∙ e)

      go : (o : Option CachedSector) → value_at (servers b).cache s ≡ o → IsCachedAs (has_version w s) (cover w s) o (w.slot b s) (w.page b s) →
          IsCachedAs (has_version ended s) (cover ended s) o (w.slot b s) (w.page b s)
      go None e c = none_cached (has_version w s) (cover w s) (w.slot b s) (w.page b s) (g.kinds.empty b s) c (has_version ended s) (cover ended s)
      go (Some kept) e c =
          let holds : w.holds b (cover w s) ≢ None =
          cached_held (has_version w s) (cover w s) kept (w.slot b s) (w.page b s) (w.holds b (cover w s)) c (g.logged.held b s) (g.bytes.held b s) in
          subst (λ v. IsCachedAs v (cover ended s) (Some kept) (w.slot b s) (w.page b s)) (sym (kind_stays w r g b s holds (there kept e)))
          (subst (λ k. IsCachedAs (has_version w s) k (Some kept) (w.slot b s) (w.page b s)) (sym (cover_stays w r g b s holds (there kept e))) c)

  -- ---- in flight

  -- none that may still come in time is on behalf of the dead one
  not_behalf : (s : ℕ) (f : Flight) → w.flight s ≡ Some f → w.now ≤ f.stamp → f.behalf ≢ r.dead
  not_behalf s f e early i = none-some Sole (sym (at_put (λ (h : LockId → Option Mode). h (cover ended s) ≡ None) w.holds r.dead (λ l. None) f.behalf (λ j. refl) (λ n. absurd (n i))) ∙ (good.logged.flights s f e early).sole)

  not_by : (s : ℕ) (f : ByteFlight) → w.byte_flight s ≡ Some f → w.now ≤ f.stamp → f.by ≢ r.dead
  not_by s f e early i = none-some Sole (sym (at_put (λ (h : LockId → Option Mode). h (cover ended s) ≡ None) w.holds r.dead (λ l. None) f.by (λ j. refl) (λ n. absurd (n i))) ∙ (good.bytes.flights s f e early).sole)

  held_flight : (s : ℕ) (f : Flight) → w.flight s ≡ Some f → w.now ≤ f.stamp → w.holds f.behalf (cover w s) ≢ None
  held_flight s f e early = sole_held (w.holds f.behalf (cover w s)) (g.logged.flights s f e early).sole

  held_bytes : (s : ℕ) (f : ByteFlight) → w.byte_flight s ≡ Some f → w.now ≤ f.stamp → w.holds f.by (cover w s) ≢ None
  held_bytes s f e early = sole_held (w.holds f.by (cover w s)) (g.bytes.flights s f e early).sole

  flying_under : (flights : Flights) (s : ℕ) (lock : LockId) (by behalf stamp : ℕ) (block : Block) → (by ≡ behalf → lock ≡ cover w s) → IsFlying flights s (cover w s) by behalf stamp block →
      IsFlying flights s lock by behalf stamp block
  flying_under flights s lock by behalf stamp block same q = record {
    one = q.one;
    among = q.among;
    sector = q.sector;
    server = q.server;
    behalf_is = q.behalf_is;
    stamp_is = q.stamp_is;
    block_is = q.block_is;
    place = λ own present. q.place own present ∙ ap core.InPlace (sym (same own));
  }

  -- where what is in flight at each sector of a write of the core is in time
  pub flying_on : (segments now : ℕ) (flights : Flights) → w.now ≡ now → ((s : ℕ) (f : Flight) → Among s (map (λ one. one.1.sector) flights) → w.flight s ≡ Some f → w.now ≤ f.stamp) →
      ((s : ℕ) (f : ByteFlight) → Among s (map (λ one. one.1.sector) flights) → w.byte_flight s ≡ Some f → w.now ≤ f.stamp) → AreFlying segments now flights w → AreFlying segments now flights ended
  flying_on segments now flights clock early early_bytes t = record {
    flight = λ s f e. let q : IsFlying flights s (cover w s) f.by f.behalf f.stamp f.block = t.flight s f e in
        let l : w.now ≤ f.stamp = early s f (at_sector s q.one q.among q.sector) e in
        flying_under flights s (cover ended s) f.by f.behalf f.stamp f.block (λ own. cover_stays w r g f.behalf s (held_flight s f e l) (not_behalf s f e l)) q;
    bytes = λ s f e. let q : IsFlying flights s (cover w s) f.by f.by f.stamp f.block = t.bytes s f e in
        let l : w.now ≤ f.stamp = early_bytes s f (at_sector s q.one q.among q.sector) e in
        flying_under flights s (cover ended s) f.by f.by f.stamp f.block (λ own. cover_stays w r g f.by s (held_bytes s f e l) (not_by s f e l)) q;
    shown = λ one i l out. shows one (subst (λ n. n ≤ one.1.stamp) (sym clock) l) (has_version w one.1.sector) refl (t.shown one i l out);
  }
    where
      at_sector : (s : ℕ) (one : ℕ × core.Flight) → Contains flights one → one.1.sector ≡ s → Among s (map (λ (o : ℕ × core.Flight). o.1.sector) flights)
      at_sector s one i e = subst (λ n. Among n (map (λ (o : ℕ × core.Flight). o.1.sector) flights)) e (into_map (λ (o : ℕ × core.Flight). o.1.sector) flights one (contains_in flights one i))

      shows : (one : ℕ × core.Flight) → w.now ≤ one.1.stamp → (v : Bool) → has_version w one.1.sector ≡ v → IsShown v one.1 (w.flight one.1.sector) (w.byte_flight one.1.sector) →
          IsShown (has_version ended one.1.sector) one.1 (w.flight one.1.sector) (w.byte_flight one.1.sector)
      shows one l true v e = subst (λ b. IsShown b one.1 (w.flight one.1.sector) (w.byte_flight one.1.sector))
          (sym (kind_stays w r g one.1.behalf one.1.sector (held_flight one.1.sector _ e l) (not_behalf one.1.sector _ e l) ∙ v)) e
      shows one l false v e = subst (λ b. IsShown b one.1 (w.flight one.1.sector) (w.byte_flight one.1.sector))
          (sym (kind_stays w r g one.1.server one.1.sector (held_bytes one.1.sector _ e l) (not_by one.1.sector _ e l) ∙ v)) e
