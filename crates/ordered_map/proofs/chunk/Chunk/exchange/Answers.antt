-- Another value at a place is another entry there, and the last key stays.
use Rattle.std.proofs.Common.{ap, ◌∙◌, subst, length, ◌<◌, get_or, sym}
use Rattle.std.proofs.lemmas.List.{get_or_read}
use Rattle.ordered_map.specs.Chunks.{overwritten, last_key}
use Rattle.ordered_map.proofs.Spots.{overwrites, last-overwritten}
use Rattle.ordered_map.proofs.chunk.Chunk.exchange.Goals as goal

pub invariant_of-self : goal.invariant_of-self
invariant_of-self g c =
    let entries = c.self.inside.entries.items in
    let inside : c.args.at < length entries = subst (λ es. c.args.at < length es) (sym c.self.view_is) c.requires in record {
      room = c.self.invariant.room;
      key = c.self.invariant.key
          ∙ sym (ap last_key (overwrites entries c.args.at c.index_mut.result.now c.swap_in.new.kept inside c.index_mut.ensures.value) ∙ last-overwritten entries c.args.at c.swap_in.new.kept);
    }

pub returns-clause-entries : goal.returns-clause-entries
returns-clause-entries g c =
    let inside : c.args.at < length c.self.inside.entries.items = subst (λ es. c.args.at < length es) (sym c.self.view_is) c.requires in
    overwrites c.self.inside.entries.items c.args.at c.index_mut.result.now c.swap_in.new.kept inside c.index_mut.ensures.value
    ∙ (λ i. overwritten (c.self.view_is i) c.args.at (c.swap_in.ensures.after i))

pub returns-clause-before : goal.returns-clause-before
returns-clause-before g c d =
    let inside : c.args.at < length c.self.inside.entries.items = subst (λ es. c.args.at < length es) (sym c.self.view_is) c.requires in
    c.swap_in.ensures.before
    ∙ ap (λ x. x.1) (get_or_read c.self.inside.entries.items c.args.at c.index_mut.result.now inside c.index_mut.ensures.value d ∙ ap (λ es. get_or es c.args.at d) c.self.view_is)
