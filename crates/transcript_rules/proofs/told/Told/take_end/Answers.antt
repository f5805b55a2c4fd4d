-- The end is said.
use Rattle.std.proofs.Common.{◌≡◌, ◌<◌, ◌^◌, rules, Some, length, slice_get, slice_index_or, slice_set, take, refl, sym, ◌∙◌, ap, subst, arith}
use Rattle.frang_base.specs.declared.said.Said.TheVariants as said
use Rattle.transcript_rules.specs.Tells.{SoFar}
use Rattle.transcript_rules.proofs.Taking.{tells_end}
use Rattle.transcript_rules.proofs.told.Told.take_end.Goals as goal

pub invariant_of-self : goal.invariant_of-self
invariant_of-self c = tells_end c.self.inside.script.now c.self.inside.granted c.self.inside.saids.now c.self.inside.place c.self.inside.parties.items c.self.inside.answered c.self.inside.hosts c.self.inside.all c.self.inside.over c.self.inside.begun c.self.inside.nodes (subst (λ (t : SoFar). slice_get t.saids t.place ≡ Some said.End) (sym c.self.view_is) c.requires) c.self.invariant
