-- The entry at the key's place is taken out, and where there is none nothing is.
use Rattle.std.proofs.Common.{Some, Ok, Err, refl, sym, ap, ◌∙◌, subst, arith}
use Rattle.std.specs.Map.{lookup, remove_entry}
use Rattle.std.specs.BTreeMap.{is_at}
use Rattle.ordered_map.specs.Chunks.{joined, chunk_at, IsLocated}
use Rattle.sorted_entries.proofs.Spots.{nothing_removed}
use Rattle.ordered_map.proofs.Flat.{get_within}
use Rattle.ordered_map.proofs.Found.{within_ok, place_at, value_missed}
use Rattle.ordered_map.proofs.Whole.{any_of, take_entries, take_chunked}
use Rattle.ordered_map.proofs.map.OrderedMap.take_near.Goals as goal

pub take_out-value-requires-clause-place : goal.take_out-value-requires-clause-place
take_out-value-requires-clause-place g c =
    let spot = c.in-Some.spot in
    let located = subst (λ xs. IsLocated g.K.Ord.cmp c.args.key.now xs spot.chunk (Ok c.in-Ok.at)) c.all.ensures (subst (IsLocated g.K.Ord.cmp c.args.key.now c.all.result.now spot.chunk) c.in-Ok.is c.in-Some.ensures.some) in
    within_ok g.met.K.Ord.total c.args.key.now c.self.inside.chunks.chunks spot.chunk c.in-Ok.at located

pub invariant_of-self : goal.invariant_of-self
invariant_of-self g c =
    let spot = c.in-Some.spot in
    let located = subst (λ xs. IsLocated g.K.Ord.cmp c.args.key.now xs spot.chunk (Ok c.in-Ok.at)) c.all.ensures (subst (IsLocated g.K.Ord.cmp c.args.key.now c.all.result.now spot.chunk) c.in-Ok.is c.in-Some.ensures.some) in
    let place = place_at g.met.K.Ord.total c.args.key.now c.self.inside.chunks.chunks spot.chunk c.in-Ok.at located in
    take_chunked g.met.K.Ord.total c.args.key.now c.self.invariant _ place c.take_out-value.new.chunks.chunks c.take_out-value.ensures.entries c.take_out-value.new.chunks.blank _ (omega (arith, c.self.invariant.counted, place.inside)) c.take_out-value.ensures.filled c.take_out-value.ensures.close c.take_out-value.ensures.all

pub returns-in-Ok-clause-entries : goal.returns-in-Ok-clause-entries
returns-in-Ok-clause-entries g c =
    let spot = c.in-Some.spot in
    let located = subst (λ xs. IsLocated g.K.Ord.cmp c.args.key.now xs spot.chunk (Ok c.in-Ok.at)) c.all.ensures (subst (IsLocated g.K.Ord.cmp c.args.key.now c.all.result.now spot.chunk) c.in-Ok.is c.in-Some.ensures.some) in
    let place = place_at g.met.K.Ord.total c.args.key.now c.self.inside.chunks.chunks spot.chunk c.in-Ok.at located in
    take_entries g.met.K.Ord.total c.args.key.now c.self.invariant _ place c.take_out-value.new.chunks.chunks c.take_out-value.ensures.entries
    ∙ ap (λ m. remove_entry (is_at (g.K.Ord.cmp c.args.key.now)) m.entries) c.self.view_is

pub returns-in-Err-clause-entries : goal.returns-in-Err-clause-entries
returns-in-Err-clause-entries g c =
    let spot = c.in-Some.spot in
    let located = subst (λ xs. IsLocated g.K.Ord.cmp c.args.key.now xs spot.chunk (Err c.in-Err.field-0)) c.all.ensures (subst (IsLocated g.K.Ord.cmp c.args.key.now c.all.result.now spot.chunk) c.in-Err.is c.in-Some.ensures.some) in
    let none = value_missed g.met.K.Ord.total c.args.key.now c.self.inside.chunks.chunks spot.chunk c.in-Err.field-0 c.self.invariant.ordered located in
    sym (nothing_removed g.met.K.Ord.total c.args.key.now c.args.self.now.entries (sym (ap (λ m. lookup (is_at (g.K.Ord.cmp c.args.key.now)) m.entries) c.self.view_is) ∙ none))

pub returns-in-Ok-clause-before : goal.returns-in-Ok-clause-before
returns-in-Ok-clause-before g c =
    let spot = c.in-Some.spot in
    let located = subst (λ xs. IsLocated g.K.Ord.cmp c.args.key.now xs spot.chunk (Ok c.in-Ok.at)) c.all.ensures (subst (IsLocated g.K.Ord.cmp c.args.key.now c.all.result.now spot.chunk) c.in-Ok.is c.in-Some.ensures.some) in
    let within = within_ok g.met.K.Ord.total c.args.key.now c.self.inside.chunks.chunks spot.chunk c.in-Ok.at located in
    let d = any_of (chunk_at c.self.inside.chunks.chunks spot.chunk) c.in-Ok.at within in
    let found = sym (ap (λ m. lookup (is_at (g.K.Ord.cmp c.args.key.now)) m.entries) c.self.view_is) ∙ (place_at g.met.K.Ord.total c.args.key.now c.self.inside.chunks.chunks spot.chunk c.in-Ok.at located).value d
    ∙ ap (λ e. Some e.1) (get_within c.self.inside.chunks.chunks spot.chunk c.in-Ok.at d located.inside within) in
    ap Some (c.take_out-value.ensures.value d) ∙ sym found

pub returns-in-Err-clause-before : goal.returns-in-Err-clause-before
returns-in-Err-clause-before g c =
    let spot = c.in-Some.spot in
    let located = subst (λ xs. IsLocated g.K.Ord.cmp c.args.key.now xs spot.chunk (Err c.in-Err.field-0)) c.all.ensures (subst (IsLocated g.K.Ord.cmp c.args.key.now c.all.result.now spot.chunk) c.in-Err.is c.in-Some.ensures.some) in
    let none = value_missed g.met.K.Ord.total c.args.key.now c.self.inside.chunks.chunks spot.chunk c.in-Err.field-0 c.self.invariant.ordered located in
    sym none ∙ ap (λ m. lookup (is_at (g.K.Ord.cmp c.args.key.now)) m.entries) c.self.view_is

pub returns-in-None-clause-before : goal.returns-in-None-clause-before
returns-in-None-clause-before g c =
    let nothing = sym c.all.ensures ∙ c.in-None.ensures.none refl in
    sym (ap (λ xs. lookup (is_at (g.K.Ord.cmp c.args.key.now)) (joined xs)) nothing) ∙ ap (λ m. lookup (is_at (g.K.Ord.cmp c.args.key.now)) m.entries) c.self.view_is

pub returns-in-None-clause-entries : goal.returns-in-None-clause-entries
returns-in-None-clause-entries g c =
    let nothing = sym c.all.ensures ∙ c.in-None.ensures.none refl in
    let none = sym (ap (λ m. lookup (is_at (g.K.Ord.cmp c.args.key.now)) m.entries) c.self.view_is) ∙ ap (λ xs. lookup (is_at (g.K.Ord.cmp c.args.key.now)) (joined xs)) nothing in
    sym (nothing_removed g.met.K.Ord.total c.args.key.now c.args.self.now.entries none)
