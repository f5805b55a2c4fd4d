-- A step of the servers' world is one of the core with what the host has read.
use Rattle.std.proofs.Common.{◌≡◌, sym, ap, ◌∙◌}
use Rattle.core_definitions.specs.Cores.{Core}
use Rattle.core_definitions.specs.Effects.{after}
use Rattle.core_definitions.specs.Events.{Event, Heard}
use Rattle.core_definitions.specs.Settings.{Setting}
use Rattle.core_laws.proofs.Kept.{setting_kept}
use Rattle.host_tree.specs.Reading.{HostReading}
use Rattle.world_state.specs.States.{State as Servers, core_at}
use Rattle.world_ready.specs.Trees.{IsSaidInTime}
use Rattle.frang_world.specs.Steps.{IsStep}
use Rattle.frang_world.proofs.Aside.{IsAside, after_over, over}

pub segments_stay : (s t : Servers) (event : Event) (heard : Heard) → core_at t ≡ after (core_at s) event heard → t.parties.segments ≡ s.parties.segments
segments_stay s t event heard is = ap (λ (c : Core). c.setting.segments) is ∙ ap (λ (setting : Setting). setting.segments) (setting_kept (core_at s) event heard)

-- one beside the tree
pub aside : (s t : Servers) (tree : HostReading) (event : Event) (heard : Heard) → IsAside event → tree.segments ≡ s.parties.segments → IsSaidInTime tree
    → core_at t ≡ after (core_at s) event heard → IsStep s tree t tree event heard
aside s t tree event heard beside disk said is = record {
  core = ap (λ (c : Core). over c tree.read tree.shown) is ∙ sym (after_over tree.read tree.shown (core_at s) event heard beside);
  disk = disk ∙ sym (segments_stay s t event heard is);
  said = said;
}
