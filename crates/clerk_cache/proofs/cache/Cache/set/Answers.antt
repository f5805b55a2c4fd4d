-- Both maps have room for the sector, and take it; its flags stay.
use Rattle.std.proofs.Common.{false, ◌&&◌, ap, ◌∙◌, arith}
use Rattle.std.specs.Option.{option_map, unwrap_or}
use Rattle.sector_bytes.specs.SectorMaps.{with_value, room_for}
use Rattle.cache_definitions.specs.Flags.{but}
use Rattle.clerk_cache.specs.Kept.{cached_of, flagged, is_state_flying, is_state_staying, joined, state_set}
use Rattle.clerk_cache.proofs.Flagging.{set-same, set-off}
use Rattle.clerk_cache.proofs.Joining.{kept_with, joined-with, states_ascend}
use Rattle.clerk_cache.proofs.Rooms.{block_room, state_room}
use Rattle.clerk_cache.proofs.cache.Cache.set.Goals as goal

pub put-requires : goal.put-requires
put-requires c =
    let room = block_room c.self.inside.sectors.entries c.self.inside.states.entries c.args.sector.0 c.self.invariant.alike ∙ ap (λ cache. room_for cache.entries c.args.sector.0) c.self.view_is in
    let spare = ap (λ cache. cache.spare) c.self.view_is in
    omega (arith, room, spare)

pub put-requires-2 : goal.put-requires-2
put-requires-2 c =
    let room = state_room c.self.inside.sectors.entries c.self.inside.states.entries c.args.sector.0 c.self.invariant.alike ∙ ap (λ cache. room_for cache.entries c.args.sector.0) c.self.view_is in
    let spare = ap (λ cache. cache.spare) c.self.view_is in
    omega (arith, room, spare)

pub invariant_of-self : goal.invariant_of-self
invariant_of-self c =
    kept_with c.self.inside.sectors.entries c.put.new.self.entries c.self.inside.states.entries c.put-2.new.self.entries c.args.sector.0 c.args.block c.set_over-state.result
    c.self.invariant c.put.ensures.entries c.put-2.ensures.entries

pub returns-clause-entries : goal.returns-clause-entries
returns-clause-entries c =
    (λ i. joined (c.put.ensures.entries i) (c.put-2.ensures.entries i))
    ∙ joined-with _ _ c.args.sector.0 c.args.block c.set_over-state.result c.self.invariant.alike
    ∙ (λ i. with_value (c.self.view_is i).entries c.args.sector.0 (cached_of c.args.block (c.set_over-state.ensures i)))

pub returns-clause-clean : goal.returns-clause-clean
returns-clause-clean c = λ none.
    ap (flagged is_state_staying) c.put-2.ensures.entries
    ∙ set-off is_state_staying c.args.sector.0 c.set_over-state.result c.self.inside.states.entries (states_ascend c.self.invariant) (ap is_state_staying c.set_over-state.ensures ∙ ap (λ dirt. is_state_staying (state_set c.args.cover dirt c.get.result)) none)
    ∙ ap (λ cache. but c.args.sector.0 cache.staying) c.self.view_is

pub returns-clause-dirty : goal.returns-clause-dirty
returns-clause-dirty c = λ some.
    ap (flagged is_state_staying) c.put-2.ensures.entries
    ∙ set-same is_state_staying c.args.sector.0 c.set_over-state.result c.self.inside.states.entries (states_ascend c.self.invariant)
    (ap is_state_staying c.set_over-state.ensures ∙ ap (λ b. b && (b && unwrap_or (option_map is_state_staying c.get.result) false)) some ∙ ap (λ o. unwrap_or (option_map is_state_staying o) false) c.get.ensures.value)
    ∙ ap (λ cache. cache.staying) c.self.view_is

pub returns-clause-flying : goal.returns-clause-flying
returns-clause-flying c =
    ap (flagged is_state_flying) c.put-2.ensures.entries
    ∙ set-same is_state_flying c.args.sector.0 c.set_over-state.result c.self.inside.states.entries (states_ascend c.self.invariant) (ap is_state_flying c.set_over-state.ensures ∙ ap (λ o. unwrap_or (option_map is_state_flying o) false) c.get.ensures.value)
    ∙ ap (λ cache. cache.flying) c.self.view_is

pub returns-clause-spare : goal.returns-clause-spare
returns-clause-spare c =
    let view = ap (λ cache. room_for cache.entries c.args.sector.0) c.self.view_is in
    let blocks = block_room c.self.inside.sectors.entries c.self.inside.states.entries c.args.sector.0 c.self.invariant.alike ∙ view in
    let states = state_room c.self.inside.sectors.entries c.self.inside.states.entries c.args.sector.0 c.self.invariant.alike ∙ view in
    let spare = ap (λ cache. cache.spare) c.self.view_is in
    omega (arith, blocks, states, spare)
