-- A call of a server failed: it issues nothing more in this mount, and else all is as it was.
use Rattle.std.proofs.Common.{◌≡◌, ◌⊎◌, ℕ, ◌≤◌, ◌==◌, Bool, true, false, ◌&&◌, ◌||◌, IsTrue, Some, refl, sym, ap, ◌∙◌, subst, inl, inr, ⊎_elim}
use Rattle.std.proofs.lemmas.Bool.{false≢true}
use Rattle.frang_base.specs.Functions.{put}
use Rattle.frang_base.proofs.Basics.{at_put}
use Rattle.sector_bytes.specs.SectorMaps.{value_at}
use Rattle.ring_definitions.specs.Rings.{Ring}
use Rattle.core_definitions.specs.Cores.{with_server}
use Rattle.core_definitions.specs.LineEffects.{failed_by}
use Rattle.core_definitions.specs.LineGuards.{is_server}
use Rattle.core_definitions.specs.Recoveries.{Recovery}
use Rattle.core_definitions.specs.Runs.{State as RunMoment}
use Rattle.core_definitions.specs.Scripts.{host_party}
use Rattle.core_definitions.specs.Servers as life
use Rattle.core_definitions.specs.Servers.{Server, is_dead, is_in_mount, is_up}
use Rattle.sector_world.specs.Histories.{settled}
use Rattle.sector_world.specs.Steps.{after}
use Rattle.sector_world.specs.Steps.Event.{Fail}
use Rattle.sector_world.specs.World.{World, Up, cover, has_version}
use Rattle.core_world.specs.Beside.{AreEnds, AreOpen, AtCached, IsEnd}
use Rattle.core_world.specs.Journals.{Journal}
use Rattle.core_world.specs.Steps.{IsWorldOf}
use Rattle.core_world.specs.Ties.{AreLives, AreRescues, AreTied, IsCachedAs, IsRescueOf, IsStuck, expiry_at, phase_of}
use Rattle.core_world.proofs.Same.{AreAlike, journals_alike, logged_alike, marked_alike, put_as, readings_alike}

-- who is up in the world is in a mount
up_mounted : (p : life.Phase) → phase_of p ≡ Up → is_in_mount p ≡ true
up_mounted life.Off e = absurd (cc)
up_mounted life.Up e = refl
up_mounted life.Still e = refl
up_mounted (life.Doomed fate) e = refl
up_mounted life.Dead e = absurd (cc)

or_left : (x y : Bool) → x ≡ true → (x || y) ≡ true
or_left true y e = refl
or_left false y e = absurd (false≢true e)

or_right : (x y : Bool) → y ≡ true → (x || y) ≡ true
or_right true y e = refl
or_right false y e = e

module _ (s : RunMoment) (w : World) (journal : ℕ → Journal) (t : IsWorldOf s w journal) (a : ℕ) where
  abbrev pub servers_then : ℕ → Server
  servers_then = put s.core.servers a (failed_by (s.core.servers a))

  abbrev pub moment_then : RunMoment
  moment_then = record s { core = with_server s.core a (failed_by (s.core.servers a)) }

  abbrev pub world_then : World
  world_then = after w (Fail a)

  same : {X : Type 0} (read : Server → X) → read (failed_by (s.core.servers a)) ≡ read (s.core.servers a) → (b : ℕ) → read (servers_then b) ≡ read (s.core.servers b)
  same read e = put_as read s.core.servers a (failed_by (s.core.servers a)) e

  lives_then : AreLives s.core.now servers_then world_then
  lives_then = record {
    now = t.tied.lives.now;
    phase = λ b. t.tied.lives.phase b ∙ ap phase_of (sym (same (λ x. x.phase) refl b));
    expiry = λ b. t.tied.lives.expiry b ∙ ap (expiry_at s.core.now b) (sym (same (λ x. x.expiry) refl b));
    well = λ b. at_put (λ (y : Server). y.failed ≡ false → w.phase b ≡ Up → put w.sick a true b ≡ false) s.core.servers a (failed_by (s.core.servers a)) b
        (λ i e up. absurd (false≢true (sym e ∙ or_right (s.core.servers a).failed (is_in_mount (s.core.servers a).phase)
        (up_mounted (s.core.servers a).phase (sym (t.tied.lives.phase a) ∙ ap w.phase (sym i) ∙ up)))))
        (λ n e up. at_put (λ y. y ≡ false) w.sick a true b (λ i. absurd (n i)) (λ m. t.tied.lives.well b e up));
  }

  rescues_then : AreRescues s.core.servers s.core.flights w → AreRescues servers_then s.core.flights world_then
  rescues_then known = record {
    under_way = λ b x. at_put (λ (y : Server). IsTrue ((is_server b && is_up y.phase) || b == host_party) → y.recovery ≡ Some x → IsRescueOf b x w.rescue ⊎ IsStuck b s.core.flights y.failed x) s.core.servers a
        (failed_by (s.core.servers a)) b
        (λ i works e. ⊎_elim (λ q. inl q) (λ z. inr (record {
          has_failed = or_left (s.core.servers a).failed (is_in_mount (s.core.servers a).phase) z.has_failed;
          sector = z.sector;
          block = z.block;
          looked = z.looked;
          unwritten = z.unwritten;
          unsent = z.unsent;
        })) (before b x i works e))
        (λ n. known.under_way b x);
    known = λ q e. let k = known.known q e in (k.0, same (λ x. x.recovery) refl q.by ∙ k.1, k.2);
  }
    where
      before : (b : ℕ) (x : Recovery) → b ≡ a → IsTrue ((is_server b && is_up (s.core.servers a).phase) || b == host_party) → (s.core.servers a).recovery ≡ Some x →
          IsRescueOf b x w.rescue ⊎ IsStuck b s.core.flights (s.core.servers a).failed x
      before b x i works e = subst (λ n. IsRescueOf b x w.rescue ⊎ IsStuck b s.core.flights (s.core.servers n).failed x) i
          (known.under_way b x (subst (λ n. IsTrue ((is_server b && is_up (s.core.servers n).phase) || b == host_party)) (sym i) works) (ap (λ n. (s.core.servers n).recovery) i ∙ e))

  -- the servers then, but for the failure
  abbrev servers_mid : ℕ → Server
  servers_mid b = record (servers_then b) { failed = (s.core.servers b).failed }

  alike_mid : AreAlike servers_mid s.core.servers
  alike_mid = record { phase = same (λ x. x.phase) refl; failed = λ b. refl; recovery = same (λ x. x.recovery) refl; ring = same (λ x. x.ring) refl }

  caches_then : (b : ℕ) → (servers_then b).cache ≡ (s.core.servers b).cache
  caches_then = same (λ x. x.cache) refl

  tied_then : AreTied moment_then.core s.disk world_then
  tied_then = record {
    lives = lives_then;
    locks = t.tied.locks;
    cached = λ b x. subst (λ k. IsCachedAs (has_version w x) (cover w x) (value_at k x) (w.slot b x) (w.page b x)) (sym (caches_then b)) (t.tied.cached b x);
    marked = marked_alike servers_mid s.core.servers alike_mid w caches_then t.tied.marked;
    flying = t.tied.flying;
    disk = t.tied.disk;
    rescues = λ e. rescues_then (t.tied.rescues e);
    logged = logged_alike servers_mid s.core.servers alike_mid w t.tied.logged;
  }

  pub failed_world : IsWorldOf moment_then world_then journal
  failed_world = record {
    tied = tied_then;
    journals = journals_alike servers_mid s.core.servers alike_mid w s.core.now s.core.flights s.disk journal t.journals;
    readings = readings_alike servers_mid s.core.servers alike_mid w s.core.setting.segments t.readings;
  }

  -- marks lie where they did
  pub failed_ends : AreEnds s.core.servers w journal → AreEnds servers_then world_then journal
  failed_ends m b x server =
      subst (λ k. AtCached (IsEnd (journal b).ends (servers_then b).ring.reached (w.acked b) b (settled w.history)) (value_at k x) (w.slot b x) (w.page b x)) (sym (caches_then b))
      (subst (λ (r : Ring). AtCached (IsEnd (journal b).ends r.reached (w.acked b) b (settled w.history)) (value_at (s.core.servers b).cache x) (w.slot b x) (w.page b x)) (sym (same (λ x. x.ring) refl b))
      (m b x server))

  -- logs that were open are
  pub failed_open : AreOpen s.core.servers s.core.now s.disk journal → AreOpen servers_then s.core.now s.disk journal
  failed_open open_ b server dead early slot low =
      open_ b server (subst (λ p. IsTrue (is_dead p)) (same (λ x. x.phase) refl b) dead) (subst (λ n. s.core.now ≤ n) (same (λ x. x.expiry) refl b) early) slot low
