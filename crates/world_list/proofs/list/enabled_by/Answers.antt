-- What is before the tick, the tick, and what is behind it.
use Rattle.std.proofs.Common.{◌≡◌, ◌++◌, ap, ◌∙◌, List}
use Rattle.core_definitions.specs.Enabled.{may_tick}
use Rattle.hall_runs.specs.declared.event.Event.{Event as Named}
use Rattle.world_list.specs.Listing.{events_of}
use Rattle.world_list.specs.Over.{core_over}
use Rattle.world_list.proofs.WholeList.{all_listed}
use Rattle.world_list.proofs.list.enabled_by.Goals as goal

pub returns : goal.returns
returns c =
    let before : List Named = c.in_ok-list.list.items in
    let behind : List Named = c.in_ok-behind.behind.items in
    let ticks : c.may_tick-ticks.result ≡ may_tick (core_over c.args.world.now c.args.tree.now) (events_of before ++ events_of behind) =
    c.may_tick-ticks.ensures c.args.tree.now
    ∙ ap (λ (list : List Named). may_tick (core_over c.args.world.now c.args.tree.now) (events_of list ++ events_of c.deref-2.result.now)) c.deref.ensures.value
    ∙ ap (λ (list : List Named). may_tick (core_over c.args.world.now c.args.tree.now) (events_of before ++ events_of list)) c.deref-2.ensures.value in
    let joined : c.extend_from_slice.new.self.items ≡ c.push_if.new.list.items ++ behind = c.in_ok-extend_from_slice.ensures.items ∙ ap (λ (list : List Named). c.push_if.new.list.items ++ list) c.deref-3.ensures.value in
    all_listed c.args.world.now c.args.tree.now before behind c.push_if.new.list.items c.extend_from_slice.new.self.items c.may_tick-ticks.result c.requires.going.going (c.in_ok-list.ensures c.args.tree.now) c.in_ok-behind.ensures ticks
    c.in_ok-push_if.ensures joined
