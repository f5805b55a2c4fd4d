-- The value at the key's place is what the edit makes of it.
use Rattle.std.proofs.Common.{◌≡◌, ◌+◌, ◌-◌, Some, is_some, Ok, Err, IfSome, get_or, length, sym, ap, ◌∙◌, subst}
use Rattle.std.specs.Map.{lookup}
use Rattle.std.specs.BTreeMap.{insert_entry, is_at}
use Rattle.ordered_map.specs.Chunks.{joined, chunk_at, capacity, IsChunked, IsLocated}
use Rattle.ordered_map.proofs.Flat.{get_within}
use Rattle.ordered_map.proofs.Found.{within_ok, place_at, value_missed}
use Rattle.ordered_map.proofs.Whole.{any_of, write_chunked, write_entries, write_length, write_many}
use Rattle.ordered_map.proofs.map.OrderedMap.change.Goals as goal

pub change-requires-clause-place : goal.change-requires-clause-place
change-requires-clause-place g c =
    let spot = c.in-Some.spot in
    let located = subst (λ xs. IsLocated g.K.Ord.cmp c.args.key.now xs spot.chunk (Ok c.in-Ok.at)) c.all.ensures (subst (IsLocated g.K.Ord.cmp c.args.key.now c.all.result.now spot.chunk) c.in-Ok.is c.in-Some.ensures.some) in
    within_ok g.met.K.Ord.total c.args.key.now c.self.inside.chunks.chunks spot.chunk c.in-Ok.at located

pub invariant_of-self : goal.invariant_of-self
invariant_of-self g c =
    let spot = c.in-Some.spot in
    let located = subst (λ xs. IsLocated g.K.Ord.cmp c.args.key.now xs spot.chunk (Ok c.in-Ok.at)) c.all.ensures (subst (IsLocated g.K.Ord.cmp c.args.key.now c.all.result.now spot.chunk) c.in-Ok.is c.in-Some.ensures.some) in
    let within = within_ok g.met.K.Ord.total c.args.key.now c.self.inside.chunks.chunks spot.chunk c.in-Ok.at located in
    let d = any_of (chunk_at c.self.inside.chunks.chunks spot.chunk) c.in-Ok.at within in
    let value = g.E.Edit.edited c.args.edit.now (get_or (chunk_at c.self.inside.chunks.chunks spot.chunk) c.in-Ok.at d).1 in
    subst (λ blank. IsChunked g.K.Ord.cmp c.change.new.self.chunks blank c.self.inside.count) (sym c.change.ensures.blank)
    (subst (λ xs. IsChunked g.K.Ord.cmp xs c.self.inside.chunks.blank c.self.inside.count) (sym (c.change.ensures.chunks d)) (write_chunked g.met.K.Ord.total c.args.key.now c.self.invariant spot.chunk c.in-Ok.at value located))

pub unreachable-requires : goal.unreachable-requires
unreachable-requires g c =
    let spot = c.in-Some.spot in
    let located = subst (λ xs. IsLocated g.K.Ord.cmp c.args.key.now xs spot.chunk (Err c.in-Err.field-0)) c.all.ensures (subst (IsLocated g.K.Ord.cmp c.args.key.now c.all.result.now spot.chunk) c.in-Err.is c.in-Some.ensures.some) in
    let none = value_missed g.met.K.Ord.total c.args.key.now c.self.inside.chunks.chunks spot.chunk c.in-Err.field-0 c.self.invariant.ordered located in
    let gone = sym (ap (λ m. lookup (is_at (g.K.Ord.cmp c.args.key.now)) m.entries) c.self.view_is) ∙ none in
    cc (ap is_some gone, c.requires)

pub returns-clause-entries : goal.returns-clause-entries
returns-clause-entries g c =
    let spot = c.in-Some.spot in
    let located = subst (λ xs. IsLocated g.K.Ord.cmp c.args.key.now xs spot.chunk (Ok c.in-Ok.at)) c.all.ensures (subst (IsLocated g.K.Ord.cmp c.args.key.now c.all.result.now spot.chunk) c.in-Ok.is c.in-Some.ensures.some) in
    let within = within_ok g.met.K.Ord.total c.args.key.now c.self.inside.chunks.chunks spot.chunk c.in-Ok.at located in
    let d = any_of (chunk_at c.self.inside.chunks.chunks spot.chunk) c.in-Ok.at within in
    let value = g.E.Edit.edited c.args.edit.now (get_or (chunk_at c.self.inside.chunks.chunks spot.chunk) c.in-Ok.at d).1 in
    let found = sym (ap (λ m. lookup (is_at (g.K.Ord.cmp c.args.key.now)) m.entries) c.self.view_is) ∙ (place_at g.met.K.Ord.total c.args.key.now c.self.inside.chunks.chunks spot.chunk c.in-Ok.at located).value d
    ∙ ap (λ e. Some e.1) (get_within c.self.inside.chunks.chunks spot.chunk c.in-Ok.at d located.inside within) in
    subst (λ o. IfSome o (λ old. joined c.change.new.self.chunks ≡ insert_entry g.K.Ord.cmp c.args.self.now.entries c.args.key.now (g.E.Edit.edited c.args.edit.now old))) (sym found)
    (ap joined (c.change.ensures.chunks d) ∙ write_entries g.met.K.Ord.total c.args.key.now c.self.invariant spot.chunk c.in-Ok.at value located ∙ ap (λ m. insert_entry g.K.Ord.cmp m.entries c.args.key.now value) c.self.view_is)

pub returns-clause-spare : goal.returns-clause-spare
returns-clause-spare g c =
    let spot = c.in-Some.spot in
    let located = subst (λ xs. IsLocated g.K.Ord.cmp c.args.key.now xs spot.chunk (Ok c.in-Ok.at)) c.all.ensures (subst (IsLocated g.K.Ord.cmp c.args.key.now c.all.result.now spot.chunk) c.in-Ok.is c.in-Some.ensures.some) in
    let within = within_ok g.met.K.Ord.total c.args.key.now c.self.inside.chunks.chunks spot.chunk c.in-Ok.at located in
    let d = any_of (chunk_at c.self.inside.chunks.chunks spot.chunk) c.in-Ok.at within in
    let value = g.E.Edit.edited c.args.edit.now (get_or (chunk_at c.self.inside.chunks.chunks spot.chunk) c.in-Ok.at d).1 in
    let long = ap (λ xs. length (joined xs)) (c.change.ensures.chunks d) ∙ write_length g.met.K.Ord.total c.args.key.now c.self.invariant spot.chunk c.in-Ok.at value located in
    let many = ap length (c.change.ensures.chunks d) ∙ write_many g.met.K.Ord.total c.args.key.now c.self.invariant spot.chunk c.in-Ok.at value in
    (λ i. capacity (many i + c.change.ensures.blank i) - long i) ∙ ap (λ m. m.spare) c.self.view_is

pub returns-clause-count : goal.returns-clause-count
returns-clause-count g c =
    let spot = c.in-Some.spot in
    let located = subst (λ xs. IsLocated g.K.Ord.cmp c.args.key.now xs spot.chunk (Ok c.in-Ok.at)) c.all.ensures (subst (IsLocated g.K.Ord.cmp c.args.key.now c.all.result.now spot.chunk) c.in-Ok.is c.in-Some.ensures.some) in
    let within = within_ok g.met.K.Ord.total c.args.key.now c.self.inside.chunks.chunks spot.chunk c.in-Ok.at located in
    let d = any_of (chunk_at c.self.inside.chunks.chunks spot.chunk) c.in-Ok.at within in
    let value = g.E.Edit.edited c.args.edit.now (get_or (chunk_at c.self.inside.chunks.chunks spot.chunk) c.in-Ok.at d).1 in
    ap (λ xs. length (joined xs)) (c.change.ensures.chunks d) ∙ write_length g.met.K.Ord.total c.args.key.now c.self.invariant spot.chunk c.in-Ok.at value located ∙ ap (λ m. length m.entries) c.self.view_is
