-- A line is said of which one party learns.
use Rattle.std.proofs.Common.{◌≡◌, ◌<◌, ◌^◌, rules, Some, length, slice_get, slice_index_or, slice_set, take, refl, sym, ◌∙◌, ap, subst, arith}
use Rattle.frang_base.specs.declared.said.Said.TheVariants as said
use Rattle.transcript_rules.specs.Tells.{SoFar, TellsOf}
use Rattle.transcript_rules.proofs.Taking.{tells_of}
use Rattle.transcript_rules.proofs.told.Told.take_of.Goals as goal

pub invariant_of-self : goal.invariant_of-self
invariant_of-self c =
    let from : c.from.result ≡ c.args.who.0 = search rules in
    rw from
    (tells_of c.self.inside.script.now c.self.inside.granted c.self.inside.saids.now c.self.inside.place c.self.inside.parties.items c.self.inside.answered c.self.inside.hosts c.self.inside.all c.self.inside.over c.self.inside.begun c.self.inside.nodes c.args.who.0 c.args.party (slice_get c.self.inside.saids.now c.self.inside.place) refl c.self.invariant
    (subst (λ (t : SoFar). TellsOf t c.args.who.0 c.args.party (slice_get t.saids t.place)) (sym c.self.view_is) c.requires.tells))
