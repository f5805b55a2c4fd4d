-- What the line tells of its party.
use Rattle.std.proofs.Common.{◌≡◌, ◌<◌, ◌^◌, rules, Some, length, slice_get, slice_index_or, slice_set, take, refl, sym, ◌∙◌, ap, subst, arith}
use Rattle.frang_base.specs.declared.said.Said.TheVariants as said
use Rattle.transcript_rules.specs.declared.phases.Phase.TheVariants as phase
use Rattle.transcript_rules.specs.Tells.{TellsOf, before}
use Rattle.transcript_rules.proofs.Answering.{recovered_party}
use Rattle.transcript_rules.proofs.told.Told.step_recovered.Goals as goal

pub take_of-requires : goal.take_of-requires
take_of-requires c =
    let t = c.args.self.now in
    record {
      tells = subst (λ o. TellsOf t c.args.server.0 (record c.party-party.result { phase = phase.Off }) o) (sym c.requires)
          (refl, recovered_party t.script t.granted (before t) c.args.server c.party-party.result c.args.keeps c.party-party.ensures);
    }
