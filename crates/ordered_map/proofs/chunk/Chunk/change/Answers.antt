-- What is made of the value at a place is the value there, and the last key stays.
use Rattle.std.proofs.Common.{ap, ◌∙◌, subst, length, ◌<◌, get_or, sym}
use Rattle.std.proofs.lemmas.List.{get_or_read}
use Rattle.ordered_map.specs.Chunks.{overwritten, last_key}
use Rattle.ordered_map.proofs.Spots.{overwrites, last-overwritten}
use Rattle.ordered_map.proofs.chunk.Chunk.change.Goals as goal

pub invariant_of-self : goal.invariant_of-self
invariant_of-self g c =
    let entries = c.self.inside.entries.items in
    let inside : c.args.at < length entries = subst (λ es. c.args.at < length es) (sym c.self.view_is) c.requires in record {
      room = c.self.invariant.room;
      key = c.self.invariant.key
          ∙ sym (ap last_key (overwrites entries c.args.at c.index_mut.result.now c.edit.new.value inside c.index_mut.ensures.value) ∙ last-overwritten entries c.args.at c.edit.new.value);
    }

pub returns : goal.returns
returns g c d =
    let entry = c.index_mut.result.now in
    let inside : c.args.at < length c.self.inside.entries.items = subst (λ es. c.args.at < length es) (sym c.self.view_is) c.requires in
    overwrites c.self.inside.entries.items c.args.at entry c.edit.new.value inside c.index_mut.ensures.value
    ∙ (λ i. overwritten (c.self.view_is i) c.args.at (c.edit.ensures i))
    ∙ ap (λ x. overwritten c.args.self.now c.args.at (g.E.Edit.edited c.args.edit.now x.1)) (get_or_read c.self.inside.entries.items c.args.at entry inside c.index_mut.ensures.value d ∙ ap (λ es. get_or es c.args.at d) c.self.view_is)
