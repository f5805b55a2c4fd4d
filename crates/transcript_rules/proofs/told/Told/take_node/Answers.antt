-- A line of the tree is said.
use Rattle.std.proofs.Common.{◌≡◌, ◌<◌, ◌^◌, rules, Some, length, slice_get, slice_index_or, slice_set, take, refl, sym, ◌∙◌, ap, subst, arith}
use Rattle.frang_base.specs.declared.said.Said.TheVariants as said
use Rattle.transcript_rules.specs.Tells.{SoFar, TellsNode}
use Rattle.transcript_rules.proofs.Taking.{node_within, nodes_few, tells_node}
use Rattle.transcript_rules.proofs.told.Told.take_node.Goals as goal

pub overflow_add-self : goal.overflow_add-self
overflow_add-self c =
    let i = c.self.inside in
    let short : length i.saids.now < 2 ^ 63 = search rules in
    omega (arith, c.self.invariant.nodes_are, nodes_few i.saids.now i.place, short)

pub overflow_add-self-2 : goal.overflow_add-self-2
overflow_add-self-2 c =
    let i = c.self.inside in
    let short : length i.saids.now < 2 ^ 63 = search rules in
    omega (arith, node_within i.saids.now i.place (slice_get i.saids.now i.place) refl (subst (λ (t : SoFar). TellsNode (slice_get t.saids t.place)) (sym c.self.view_is) c.requires), short)

pub invariant_of-self : goal.invariant_of-self
invariant_of-self c =
    tells_node c.self.inside.script.now c.self.inside.granted c.self.inside.saids.now c.self.inside.place c.self.inside.parties.items c.self.inside.answered c.self.inside.hosts c.self.inside.all c.self.inside.over c.self.inside.begun c.self.inside.nodes (slice_get c.self.inside.saids.now c.self.inside.place) refl c.self.invariant (subst (λ (t : SoFar). TellsNode (slice_get t.saids t.place)) (sym c.self.view_is) c.requires)
