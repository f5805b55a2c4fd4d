-- Ties that ask neither what servers recover nor whether a call failed go on where these alone are others.
use Rattle.std.proofs.Common.{◌≡◌, ℕ, false, refl, sym, ap, ◌∙◌, subst}
use Rattle.frang_base.specs.Functions.{put}
use Rattle.sector_bytes.specs.SectorMaps.{value_at}
use Rattle.sector_bytes.specs.Sectors.{Sectors}
use Rattle.core_definitions.specs.Flights.{Flights}
use Rattle.core_definitions.specs.Servers.{Server}
use Rattle.sector_world.specs.World.{World, Up, cover, has_version}
use Rattle.core_world.specs.Journals.{AreJournals, Journal}
use Rattle.core_world.specs.Ties.{AreCached, AreLives, AreLogged, AreMarked, IsCachedAs, expiry_at, phase_of}
use Rattle.core_world.proofs.Same.{AreAlike, journals_alike, logged_alike, marked_alike, put_as}

-- the same but for these two
pub record IsBut (later servers : ℕ → Server) : Type 0 where
  pub phase : (b : ℕ) → (later b).phase ≡ (servers b).phase
  pub expiry : (b : ℕ) → (later b).expiry ≡ (servers b).expiry
  pub ring : (b : ℕ) → (later b).ring ≡ (servers b).ring
  pub cache : (b : ℕ) → (later b).cache ≡ (servers b).cache

pub put_but : (servers : ℕ → Server) (a : ℕ) (new : Server) → new.phase ≡ (servers a).phase → new.expiry ≡ (servers a).expiry → new.ring ≡ (servers a).ring → new.cache ≡ (servers a).cache →
    IsBut (put servers a new) servers
put_but servers a new phase expiry ring cache = record {
  phase = put_as (λ y. y.phase) servers a new phase;
  expiry = put_as (λ y. y.expiry) servers a new expiry;
  ring = put_as (λ y. y.ring) servers a new ring;
  cache = put_as (λ y. y.cache) servers a new cache;
}

pub same_but : (servers : ℕ → Server) → IsBut servers servers
same_but servers = record { phase = λ b. refl; expiry = λ b. refl; ring = λ b. refl; cache = λ b. refl }

module _ (later servers : ℕ → Server) (same : IsBut later servers) (w : World) where
  abbrev mid : ℕ → Server
  mid b = record (later b) { recovery = (servers b).recovery; failed = (servers b).failed }

  alike : AreAlike mid servers
  alike = record { phase = same.phase; failed = λ b. refl; recovery = λ b. refl; ring = same.ring }

  -- but for who is well
  pub lives_but : (now : ℕ) (u : World) → u.now ≡ w.now → u.phase ≡ w.phase → u.expiry ≡ w.expiry → ((b : ℕ) → (later b).failed ≡ false → u.phase b ≡ Up → u.sick b ≡ false) → AreLives now servers w →
      AreLives now later u
  lives_but now u clock phase expiry well t = record {
    now = clock ∙ t.now;
    phase = λ b. ap (λ f. f b) phase ∙ t.phase b ∙ ap phase_of (sym (same.phase b));
    expiry = λ b. ap (λ f. f b) expiry ∙ t.expiry b ∙ ap (expiry_at now b) (sym (same.expiry b));
    well = well;
  }

  pub cached_but : AreCached servers w → AreCached later w
  cached_but t b x = subst (λ k. IsCachedAs (has_version w x) (cover w x) (value_at k x) (w.slot b x) (w.page b x)) (sym (same.cache b)) (t b x)

  pub marked_but : AreMarked servers w → AreMarked later w
  marked_but t = marked_alike mid servers alike w same.cache t

  pub logged_but : AreLogged servers w → AreLogged later w
  logged_but t = logged_alike mid servers alike w t

  pub journals_but : (now : ℕ) (flights : Flights) (disk : Sectors) (journal : ℕ → Journal) → AreJournals servers now flights disk w journal → AreJournals later now flights disk w journal
  journals_but now flights disk journal t = journals_alike mid servers alike w now flights disk journal t
