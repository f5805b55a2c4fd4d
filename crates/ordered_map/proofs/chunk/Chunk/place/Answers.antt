-- The closure compares an entry's key, and the slice is the chunk's entries.
use Rattle.std.proofs.Common.{rules, sym, subst, ap, ◌∙◌}
use Rattle.std.proofs.lemmas.Fn.{always_returns_same}
use Rattle.std.specs.List.Sorted.{IsStrictlySortedBy}
use Rattle.std.specs.Map.{keys_of}
use Rattle.sorted_entries.specs.Places.{place_of}
use Rattle.sorted_entries.proofs.Spots.{searched}
use Rattle.ordered_map.proofs.chunk.Chunk.place.Goals as goal

pub returns : goal.returns
returns g c =
    let facts = c.binary_search_by.ensures in
    let same = c.deref.ensures.value ∙ c.self.view_is in
    let by_key = facts.position (λ entry. g.K.Ord.cmp entry.0 c.args.key.now) (always_returns_same _ _ _ (λ a r f called. search rules)) in
    record {
      place = searched g.met.K.Ord.total c.args.key.now c.deref.result.now (subst (λ es. IsStrictlySortedBy g.K.Ord.cmp (keys_of es)) (sym same) c.requires) _ facts.bound by_key
          ∙ ap (place_of g.K.Ord.cmp c.args.key.now) same;
    }
