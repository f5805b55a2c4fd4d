-- Ties go on where what they are of is the same.
use Rattle.std.proofs.Common.{◌≡◌, ◌⊎◌, ◌&&◌, ◌||◌, ◌==◌, ℕ, Bool, false, refl, sym, ap, ◌∙◌, subst, inl, inr, ⊎_elim, IsTrue}
use Rattle.std.proofs.lemmas.Bool.{false≢true}
use Rattle.std.specs.List.{Contains}
use Rattle.frang_base.specs.Functions.{put}
use Rattle.frang_base.proofs.Basics.{at_put}
use Rattle.sector_bytes.specs.SectorMaps.{value_at}
use Rattle.sector_bytes.specs.Sectors.{Sectors}
use Rattle.core_definitions.specs.Flights as core
use Rattle.core_definitions.specs.LineGuards.{is_server}
use Rattle.core_definitions.specs.Recoveries.{Recovery}
use Rattle.core_definitions.specs.Rings.{is_all_reached}
use Rattle.core_definitions.specs.Scripts.{host_party}
use Rattle.core_definitions.specs.Servers.{Server, is_up}
use Rattle.sector_world.specs.World.{World}
use Rattle.core_world.specs.Journals.{AreJournals, AreReadings, IsLogOf, Journal, sector_log}
use Rattle.core_world.specs.Ties.{AreLives, AreRescues, AreLogged, AreMarked, IsMarkedAs, IsRescueOf, IsStuck, phase_of, expiry_at}

-- a server of which this is the same
pub put_as : {X : Type 0} (f : Server → X) (servers : ℕ → Server) (a : ℕ) (new : Server) → f new ≡ f (servers a) → (b : ℕ) → f (put servers a new b) ≡ f (servers b)
put_as f servers a new same b = at_put (λ x. f x ≡ f (servers b)) servers a new b (λ e. same ∙ sym (ap (λ n. f (servers n)) e)) (λ n. refl)

-- each server has the same phase, failures, recovery and ring
pub record AreAlike (next servers : ℕ → Server) : Type 0 where
  pub phase : (b : ℕ) → (next b).phase ≡ (servers b).phase
  pub failed : (b : ℕ) → (next b).failed ≡ (servers b).failed
  pub recovery : (b : ℕ) → (next b).recovery ≡ (servers b).recovery
  pub ring : (b : ℕ) → (next b).ring ≡ (servers b).ring

-- one of them changed, but in these
pub record IsAlike (new old : Server) : Type 0 where
  pub phase : new.phase ≡ old.phase
  pub failed : new.failed ≡ old.failed
  pub recovery : new.recovery ≡ old.recovery
  pub ring : new.ring ≡ old.ring

pub put_alike : (servers : ℕ → Server) (a : ℕ) (new : Server) → IsAlike new (servers a) → AreAlike (put servers a new) servers
put_alike servers a new alike = record {
  phase = put_as (λ x. x.phase) servers a new alike.phase;
  failed = put_as (λ x. x.failed) servers a new alike.failed;
  recovery = put_as (λ x. x.recovery) servers a new alike.recovery;
  ring = put_as (λ x. x.ring) servers a new alike.ring;
}

module _ (next servers : ℕ → Server) (alike : AreAlike next servers) (w : World) where
  pub lives_alike : (now : ℕ) → ((b : ℕ) → (next b).expiry ≡ (servers b).expiry) → AreLives now servers w → AreLives now next w
  lives_alike now expiry g = record {
    now = g.now;
    phase = λ b. g.phase b ∙ ap phase_of (sym (alike.phase b));
    expiry = λ b. g.expiry b ∙ ap (expiry_at now b) (sym (expiry b));
    well = λ b e. g.well b (sym (alike.failed b) ∙ e);
  }

  works_alike : (by : ℕ) → IsTrue ((is_server by && is_up (next by).phase) || by == host_party) → IsTrue ((is_server by && is_up (servers by).phase) || by == host_party)
  works_alike by who = subst (λ p. IsTrue ((is_server by && is_up p) || by == host_party)) (alike.phase by) who

  pub rescues_alike : (flights : core.Flights) → AreRescues servers flights w → AreRescues next flights w
  rescues_alike flights g = record {
    under_way = λ by r who e. subst (λ f. IsRescueOf by r w.rescue ⊎ IsStuck by flights f r) (sym (alike.failed by)) (g.under_way by r (works_alike by who) (sym (alike.recovery by) ∙ e));
    known = λ r e. let k = g.known r e in (k.0, alike.recovery r.by ∙ k.1, k.2);
  }

  pub logged_alike : AreLogged servers w → AreLogged next w
  logged_alike g b t = g b (subst (λ r. IsTrue (is_all_reached r)) (alike.ring b) t)

  pub readings_alike : (segments : ℕ) → AreReadings segments servers w → AreReadings segments next w
  readings_alike segments g by recovery who e = g by recovery (works_alike by who) (sym (alike.recovery by) ∙ e)

  pub journals_alike : (now : ℕ) (flights : core.Flights) (disk : Sectors) (journal : ℕ → Journal) → AreJournals servers now flights disk w journal → AreJournals next now flights disk w journal
  journals_alike now flights disk journal g b who =
      subst (λ p. IsLogOf p (next b).ring now flights disk (sector_log w b) b (journal b)) (sym (alike.phase b))
      (subst (λ r. IsLogOf (servers b).phase r now flights disk (sector_log w b) b (journal b)) (sym (alike.ring b)) (g b who))

  pub marked_alike : ((b : ℕ) → (next b).cache ≡ (servers b).cache) → AreMarked servers w → AreMarked next w
  marked_alike cache g b s =
      subst (λ k. IsMarkedAs (next b).ring.reached (w.acked b) (value_at k s) (w.slot b s) (w.page b s)) (sym (cache b))
      (subst (λ r. IsMarkedAs r.reached (w.acked b) (value_at (servers b).cache s) (w.slot b s) (w.page b s)) (sym (alike.ring b)) (g b s))

-- ---- fewer writes in flight

-- each of these is of a server and a sector of one of those
abbrev pub AreOfThose : core.Flights → core.Flights → Type 0
AreOfThose these those = (one : ℕ × core.Flight) → Contains these one → (old : ℕ × core.Flight) × Contains those old × (old.1.server ≡ one.1.server) × (old.1.sector ≡ one.1.sector)

-- so all of these are among those
pub among_those : (these those : core.Flights) → ((one : ℕ × core.Flight) → Contains these one → Contains those one) → AreOfThose these those
among_those these those among one i = (one, among one i, refl, refl)

pub stuck_on : (by : ℕ) (these those : core.Flights) (failed : Bool) (recovery : Recovery) → AreOfThose these those → IsStuck by those failed recovery → IsStuck by these failed recovery
stuck_on by these those failed recovery less z = record {
  has_failed = z.has_failed;
  sector = z.sector;
  block = z.block;
  looked = z.looked;
  unwritten = z.unwritten;
  unsent = λ one i of at. let o = less one i in z.unsent o.0 o.1 (o.2 ∙ of) (o.3 ∙ at);
}

pub rescues_on : (servers : ℕ → Server) (these those : core.Flights) (w : World) → AreOfThose these those → AreRescues servers those w → AreRescues servers these w
rescues_on servers these those w less g = record {
  under_way = λ by recovery who e. ⊎_elim (λ q. inl q) (λ z. inr (stuck_on by these those (servers by).failed recovery less z)) (g.under_way by recovery who e);
  known = g.known;
}

-- ---- more writes in flight, of a server no call of which failed

pub rescues_more : (servers : ℕ → Server) (these those : core.Flights) (w : World) (a : ℕ) → (servers a).failed ≡ false →
    ((one : ℕ × core.Flight) → Contains these one → Contains those one ⊎ (one.1.server ≡ a)) → AreRescues servers those w → AreRescues servers these w
rescues_more servers these those w a well more g = record {
  under_way = λ by recovery who e. ⊎_elim (λ q. inl q) (λ z. inr (still by recovery z)) (g.under_way by recovery who e);
  known = g.known;
}
  where
    still : (by : ℕ) (recovery : Recovery) → IsStuck by those (servers by).failed recovery → IsStuck by these (servers by).failed recovery
    still by recovery z = record {
      has_failed = z.has_failed;
      sector = z.sector;
      block = z.block;
      looked = z.looked;
      unwritten = z.unwritten;
      unsent = λ one i of at. ⊎_elim (λ old. z.unsent one old of at) (λ own. false≢true (sym well ∙ ap (λ n. (servers n).failed) (sym own ∙ of) ∙ z.has_failed)) (more one i);
    }
