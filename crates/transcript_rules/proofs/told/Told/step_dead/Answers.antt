-- What the line tells of its party.
use Rattle.std.proofs.Common.{◌≡◌, Some, slice_get, refl, sym, ◌∙◌, ap, subst}
use Rattle.frang_base.specs.declared.said.Said.TheVariants as said
use Rattle.tree_definitions.specs.Transcript.{after_death}
use Rattle.transcript_rules.specs.Parties.{state_by}
use Rattle.transcript_rules.specs.Tells.{SoFar, TellsOf, before}
use Rattle.transcript_rules.proofs.Answering.{dead_party}
use Rattle.transcript_rules.proofs.told.Told.step_dead.Goals as goal

pub take_of-requires : goal.take_of-requires
take_of-requires c =
    let t = c.may_die.new.self in
    let next : slice_get t.saids t.place ≡ Some (said.Dead c.args.server) = subst (λ (s : SoFar). slice_get s.saids s.place ≡ Some (said.Dead c.args.server)) (sym c.may_die.ensures.same) c.requires in
    record {
      tells = subst (λ o. TellsOf t c.args.server.0 c.dead-party.result o) (sym next) (
        refl,
        dead_party t.script t.granted (before t) c.args.server c.party.result c.dead-party.result c.party.ensures
            (c.dead-party.ensures.state ∙ ap (λ (s : SoFar). after_death (state_by c.party.result) s.granted) c.self.view_is) c.dead-party.ensures.dirty c.dead-party.ensures.next,
      );
    }
