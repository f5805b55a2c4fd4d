-- A slot that is read is none on the side of sectors.
use Rattle.std.proofs.Common.{◌≡◌, ◌⊎◌, ℕ, Bool, ◌==◌, ◌&&◌, ◌||◌, IsTrue, [], Option, Some, None, refl, sym, ap, ◌∙◌, subst, inl, inr, ⊎_elim}
use Rattle.std.proofs.lemmas.Bool.{false≢true}
use Rattle.std.proofs.lemmas.Option.{none-some, same_Some}
use Rattle.std.specs.Option.{option_map}
use Rattle.frang_base.specs.Functions.{put}
use Rattle.frang_base.proofs.Basics.{at_put}
use Rattle.sector_bytes.specs.Blocks.{Block}
use Rattle.sector_bytes.specs.SectorMaps.{with_value}
use Rattle.core_definitions.specs.EndEffects.{slot_loaded}
use Rattle.core_definitions.specs.Events as core_events
use Rattle.core_definitions.specs.Events.{Got}
use Rattle.core_definitions.specs.LineGuards.{is_server}
use Rattle.core_definitions.specs.Logs.{is_read}
use Rattle.core_definitions.specs.Recoveries.{Recovery, redos}
use Rattle.core_definitions.specs.Runs.{next}
use Rattle.core_definitions.specs.Scripts.{host_party}
use Rattle.core_definitions.specs.Servers.{Server, is_up}
use Rattle.core_definitions.specs.Settings.{disk_logs}
use Rattle.sector_world.specs.Steps.{stays}
use Rattle.sector_world.specs.World.{World, Rescue}
use Rattle.core_definitions.specs.Flights.{Flights}
use Rattle.core_world.specs.Readings.{AreNamed, ReadsAs}
use Rattle.core_world.specs.Ties.{AreRescues, IsRescueOf, IsStuck}
use Rattle.core_recoveries.proofs.Going.{leads_on}
use Rattle.core_recoveries.specs.Reads.{EarlyLoadsAreRead, LoadsAreNone}

-- ---- a recovery that goes on, of the same log

-- what it was before
pub record IsFrom (change : Recovery → Recovery) (o : Option Recovery) (recovery : Recovery) : Type 0 where
  pub old : Recovery
  pub was : o ≡ Some old
  pub is : recovery ≡ change old

pub from_map : (change : Recovery → Recovery) (o : Option Recovery) (recovery : Recovery) → option_map change o ≡ Some recovery → IsFrom change o recovery
from_map change None recovery e = absurd (none-some recovery e)
from_map change (Some old) recovery e = record { old = old; was = refl; is = sym (same_Some (change old) recovery e) }

-- the world's is known then as it was
pub known_still : (servers : ℕ → Server) (by : ℕ) (change : Recovery → Recovery) → ((x : Recovery) → (change x).dead ≡ x.dead) → (q : Rescue) →
    ((recovery : Recovery) × ((servers q.by).recovery ≡ Some recovery) × (recovery.dead ≡ q.dead)) →
    (recovery : Recovery) × ((put servers by (record (servers by) { recovery = option_map change (servers by).recovery }) q.by).recovery ≡ Some recovery) × (recovery.dead ≡ q.dead)
known_still servers by change same q k =
    at_put (λ (x : Server). (recovery : Recovery) × (x.recovery ≡ Some recovery) × (recovery.dead ≡ q.dead)) servers by (record (servers by) { recovery = option_map change (servers by).recovery }) q.by
    (λ e. (change k.0, ap (option_map change) (ap (λ n. (servers n).recovery) (sym e) ∙ k.1), same k.0 ∙ k.2)) (λ n. k)

-- ---- a slot more

rescue_loaded : (slot : ℕ) (block : Block) (by : ℕ) (old : Recovery) (rescue : Option Rescue) → IsRescueOf by old rescue → IsRescueOf by (slot_loaded slot block old) rescue
rescue_loaded slot block by old rescue q = record { r = q.r; is = q.is; dead = q.dead; who = q.who; told = q.told }

stuck_loaded : (slot : ℕ) (block : Block) (by : ℕ) (flights : Flights) (failed : Bool) (old : Recovery) → IsStuck by flights failed old → IsStuck by flights failed (slot_loaded slot block old)
stuck_loaded slot block by flights failed old z = record { has_failed = z.has_failed; sector = z.sector; block = z.block; looked = z.looked; unwritten = z.unwritten; unsent = z.unsent }

loaded_rescues : (servers : ℕ → Server) (by slot : ℕ) (block : Block) (flights : Flights) (w : World) → AreRescues servers flights w →
    AreRescues (put servers by (record (servers by) { recovery = option_map (slot_loaded slot block) (servers by).recovery })) flights w
loaded_rescues servers by slot block flights w g = record {
  under_way = λ b recovery. at_put (λ x. IsTrue ((is_server b && is_up x.phase) || b == host_party) → x.recovery ≡ Some recovery → IsRescueOf b recovery w.rescue ⊎ IsStuck b flights x.failed recovery)
      servers by (record (servers by) { recovery = option_map (slot_loaded slot block) (servers by).recovery }) b
      (λ i who e. here b i who recovery (from_map (slot_loaded slot block) (servers by).recovery recovery e)) (λ n. g.under_way b recovery);
  known = λ q e. known_still servers by (slot_loaded slot block) (λ x. refl) q (g.known q e);
}
  where
    here : (b : ℕ) → b ≡ by → IsTrue ((is_server b && is_up (servers by).phase) || b == host_party) → (recovery : Recovery) → IsFrom (slot_loaded slot block) (servers by).recovery recovery →
        IsRescueOf b recovery w.rescue ⊎ IsStuck b flights (servers by).failed recovery
    here b i who recovery f = subst (λ n. IsRescueOf n recovery w.rescue ⊎ IsStuck n flights (servers by).failed recovery) (sym i)
        (subst (λ x. IsRescueOf by x w.rescue ⊎ IsStuck by flights (servers by).failed x) (sym f.is)
        (⊎_elim (λ q. inl (rescue_loaded slot block by f.old w.rescue q)) (λ z. inr (stuck_loaded slot block by flights (servers by).failed f.old z))
        (g.under_way by f.old (subst (λ n. IsTrue ((is_server n && is_up (servers by).phase) || n == host_party)) i who) f.was)))

pub loads : LoadsAreNone
loads s w journal by slot block r t m readings =
    leads_on s w journal t by (option_map (slot_loaded slot block) (s.core.servers by).recovery) w.rescue (next s (core_events.Load by slot) (Got block)).record_ [] tt stays
    (λ e. loaded_rescues s.core.servers by slot block s.core.flights w (t.tied.rescues e)) readings

-- what isn't all of a log is nothing that is read
pub early_loads : EarlyLoadsAreRead
early_loads s w journal by slot block recovery t has early b x =
    at_put (λ (y : Server). IsTrue ((is_server b && is_up y.phase) || b == host_party) → y.recovery ≡ Some x → IsTrue (is_read disk_logs x.slots) →
    ReadsAs w x.dead (redos disk_logs x) × AreNamed s.core.setting.segments w x.dead (redos disk_logs x)) s.core.servers by
    (record (s.core.servers by) { recovery = option_map (slot_loaded slot block) (s.core.servers by).recovery }) b
    (λ i works e read. absurd (false≢true (sym early ∙ slots e ∙ read))) (λ n. t.readings b x)
  where
    slots : option_map (slot_loaded slot block) (s.core.servers by).recovery ≡ Some x → is_read disk_logs (with_value recovery.slots slot block) ≡ is_read disk_logs x.slots
    slots e = ap (λ (y : Recovery). is_read disk_logs y.slots) (same_Some (slot_loaded slot block recovery) x (sym (ap (option_map (slot_loaded slot block)) has) ∙ e))
