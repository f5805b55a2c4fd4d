-- What is kept of a party is what is told of it.
use Rattle.std.proofs.Common.{◌≡◌, ◌<◌, ◌^◌, rules, Some, length, slice_get, slice_index_or, slice_set, take, refl, sym, ◌∙◌, ap, subst, arith}
use Rattle.frang_base.specs.declared.said.Said.TheVariants as said
use Rattle.transcript_rules.specs.Tells.{IsParty, SoFar, before}
use Rattle.transcript_rules.proofs.Answering.{party_at}
use Rattle.transcript_rules.proofs.told.Told.party.Goals as goal

pub returns : goal.returns
returns c =
    let i = c.self.inside in
    let from : c.from.result ≡ c.args.who.0 = search rules in
    let small : c.args.who.0 < 256 = search rules in
    let is : c.index.result.now ≡ slice_index_or i.parties.items c.args.who.0 c.index.result.now = c.index.ensures ∙ ap (λ k. slice_index_or i.parties.items k c.index.result.now) from in
    subst (λ (t : SoFar). IsParty t.script t.granted (before t) c.args.who.0 c.index.result.now) c.self.view_is
    (c.self.invariant.each c.args.who.0 c.index.result.now (party_at i.parties.items c.args.who.0 c.index.result.now c.self.invariant.count small is))
