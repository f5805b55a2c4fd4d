-- A recovery begins, of which two parties learn.
use Rattle.std.proofs.Common.{◌≡◌, ◌<◌, ◌^◌, rules, true, Some, length, slice_get, slice_index_or, slice_set, take, refl, sym, ◌∙◌, ap, subst, arith}
use Rattle.frang_base.specs.declared.said.Said.TheVariants as said
use Rattle.std.proofs.lemmas.List.{length-set}
use Rattle.transcript_rules.specs.Tells.{SoFar}
use Rattle.transcript_rules.proofs.Answering.{party_at, tells_recovering}
use Rattle.transcript_rules.proofs.told.Told.take_recovering.Goals as goal

pub invariant_of-self : goal.invariant_of-self
invariant_of-self c =
    let i = c.self.inside in
    let q = c.index_mut.result.now in
    let r = c.index_mut-2.result.now in
    let from : c.from.result ≡ c.args.server.0 = search rules in
    let from_by : c.from-2.result ≡ c.args.by.0 = search rules in
    let small : c.args.server.0 < 256 = search rules in
    let small_by : c.args.by.0 < 256 = search rules in
    let own : slice_get i.parties.items c.args.server.0 ≡ Some q =
    party_at i.parties.items c.args.server.0 q c.self.invariant.count small (c.index_mut.ensures.value ∙ ap (λ k. slice_index_or i.parties.items k q) from) in
    let begun = slice_set i.parties.items c.args.server.0 (record q { under_recovery = true }) in
    let other : slice_get begun c.args.by.0 ≡ Some r =
    party_at begun c.args.by.0 r (length-set i.parties.items c.args.server.0 (record q { under_recovery = true }) ∙ c.self.invariant.count) small_by
    (c.index_mut-2.ensures.value ∙ ap (λ k. slice_index_or (slice_set i.parties.items k (record q { under_recovery = true })) c.from-2.result r) from ∙ ap (λ k. slice_index_or begun k r) from_by) in
    rw from (rw from_by
    (tells_recovering c.self.inside.script.now c.self.inside.granted c.self.inside.saids.now c.self.inside.place c.self.inside.parties.items c.self.inside.answered c.self.inside.hosts c.self.inside.all c.self.inside.over c.self.inside.begun c.self.inside.nodes c.args.server c.args.by q r (subst (λ (t : SoFar). slice_get t.saids t.place ≡ Some (said.Recovering c.args.server c.args.by)) (sym c.self.view_is) c.requires) c.self.invariant own other))
