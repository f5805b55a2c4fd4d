-- The value at the key's place is what the edit makes of it, and what it was is answered.
use Rattle.std.proofs.Common.{◌+◌, ◌-◌, ◌<◌, Some, Ok, Err, refl, get_or, length, sym, ap, ◌∙◌, subst}
use Rattle.std.specs.Map.{lookup}
use Rattle.std.proofs.lemmas.List.{get_or_read}
use Rattle.std.specs.BTreeMap.{insert_entry, is_at}
use Rattle.ordered_map.specs.Chunks.{joined, chunk_at, capacity, IsChunked, IsLocated}
use Rattle.ordered_map.proofs.Flat.{get_within}
use Rattle.ordered_map.proofs.Found.{within_ok, place_at, value_missed}
use Rattle.ordered_map.proofs.Whole.{any_of, write_chunked, write_entries, write_length, write_many}
use Rattle.ordered_map.proofs.map.OrderedMap.update.Goals as goal

pub entry_of-requires-clause-place : goal.entry_of-requires-clause-place
entry_of-requires-clause-place g c =
    let spot = c.in-Some.spot in
    let located = subst (λ xs. IsLocated g.K.Ord.cmp c.args.key.now xs spot.chunk (Ok c.in-Ok.at)) c.all.ensures (subst (IsLocated g.K.Ord.cmp c.args.key.now c.all.result.now spot.chunk) c.in-Ok.is c.in-Some.ensures.some) in
    subst (λ xs. c.in-Ok.at < length (chunk_at xs spot.chunk)) (sym c.all-in-Ok.ensures) (within_ok g.met.K.Ord.total c.args.key.now c.self.inside.chunks.chunks spot.chunk c.in-Ok.at located)

pub change-requires-clause-place : goal.change-requires-clause-place
change-requires-clause-place g c =
    let spot = c.in-Some.spot in
    let located = subst (λ xs. IsLocated g.K.Ord.cmp c.args.key.now xs spot.chunk (Ok c.in-Ok.at)) c.all.ensures (subst (IsLocated g.K.Ord.cmp c.args.key.now c.all.result.now spot.chunk) c.in-Ok.is c.in-Some.ensures.some) in
    within_ok g.met.K.Ord.total c.args.key.now c.self.inside.chunks.chunks spot.chunk c.in-Ok.at located

pub invariant_of-self : goal.invariant_of-self
invariant_of-self g c =
    let spot = c.in-Some.spot in
    let located = subst (λ xs. IsLocated g.K.Ord.cmp c.args.key.now xs spot.chunk (Ok c.in-Ok.at)) c.all.ensures (subst (IsLocated g.K.Ord.cmp c.args.key.now c.all.result.now spot.chunk) c.in-Ok.is c.in-Some.ensures.some) in
    let within = within_ok g.met.K.Ord.total c.args.key.now c.self.inside.chunks.chunks spot.chunk c.in-Ok.at located in
    let d = any_of (chunk_at c.self.inside.chunks.chunks spot.chunk) c.in-Ok.at within in
    let value = g.E.Edit.edited c.args.edit.now (get_or (chunk_at c.self.inside.chunks.chunks spot.chunk) c.in-Ok.at d).1 in
    subst (λ blank. IsChunked g.K.Ord.cmp c.change.new.self.chunks blank c.self.inside.count) (sym c.change.ensures.blank)
    (subst (λ xs. IsChunked g.K.Ord.cmp xs c.self.inside.chunks.blank c.self.inside.count) (sym (c.change.ensures.chunks d)) (write_chunked g.met.K.Ord.total c.args.key.now c.self.invariant spot.chunk c.in-Ok.at value located))

pub returns-in-Ok-clause-before : goal.returns-in-Ok-clause-before
returns-in-Ok-clause-before g c =
    let spot = c.in-Some.spot in
    let located = subst (λ xs. IsLocated g.K.Ord.cmp c.args.key.now xs spot.chunk (Ok c.in-Ok.at)) c.all.ensures (subst (IsLocated g.K.Ord.cmp c.args.key.now c.all.result.now spot.chunk) c.in-Ok.is c.in-Some.ensures.some) in
    let within = within_ok g.met.K.Ord.total c.args.key.now c.self.inside.chunks.chunks spot.chunk c.in-Ok.at located in
    let d = any_of (chunk_at c.self.inside.chunks.chunks spot.chunk) c.in-Ok.at within in
    let found = sym (ap (λ m. lookup (is_at (g.K.Ord.cmp c.args.key.now)) m.entries) c.self.view_is) ∙ (place_at g.met.K.Ord.total c.args.key.now c.self.inside.chunks.chunks spot.chunk c.in-Ok.at located).value d
    ∙ ap (λ e. Some e.1) (get_within c.self.inside.chunks.chunks spot.chunk c.in-Ok.at d located.inside within) in
    let read = get_or_read (chunk_at c.self.inside.chunks.chunks spot.chunk) c.in-Ok.at c.entry_of.result.now within (c.entry_of.ensures ∙ ap (λ xs. get_or (chunk_at xs spot.chunk) c.in-Ok.at c.entry_of.result.now) c.all-in-Ok.ensures) d in
    ap (λ e. Some e.1) read ∙ sym found

pub returns-in-Ok-clause-entries : goal.returns-in-Ok-clause-entries
returns-in-Ok-clause-entries g c =
    let spot = c.in-Some.spot in
    let located = subst (λ xs. IsLocated g.K.Ord.cmp c.args.key.now xs spot.chunk (Ok c.in-Ok.at)) c.all.ensures (subst (IsLocated g.K.Ord.cmp c.args.key.now c.all.result.now spot.chunk) c.in-Ok.is c.in-Some.ensures.some) in
    let within = within_ok g.met.K.Ord.total c.args.key.now c.self.inside.chunks.chunks spot.chunk c.in-Ok.at located in
    let d = any_of (chunk_at c.self.inside.chunks.chunks spot.chunk) c.in-Ok.at within in
    let value = g.E.Edit.edited c.args.edit.now (get_or (chunk_at c.self.inside.chunks.chunks spot.chunk) c.in-Ok.at d).1 in
    let read = get_or_read (chunk_at c.self.inside.chunks.chunks spot.chunk) c.in-Ok.at c.entry_of.result.now within (c.entry_of.ensures ∙ ap (λ xs. get_or (chunk_at xs spot.chunk) c.in-Ok.at c.entry_of.result.now) c.all-in-Ok.ensures) d in
    ap joined (c.change.ensures.chunks d) ∙ write_entries g.met.K.Ord.total c.args.key.now c.self.invariant spot.chunk c.in-Ok.at value located
    ∙ ap (λ m. insert_entry g.K.Ord.cmp m.entries c.args.key.now value) c.self.view_is
    ∙ ap (λ e. insert_entry g.K.Ord.cmp c.args.self.now.entries c.args.key.now (g.E.Edit.edited c.args.edit.now e.1)) (sym read)

pub returns-in-Ok-clause-spare : goal.returns-in-Ok-clause-spare
returns-in-Ok-clause-spare g c =
    let spot = c.in-Some.spot in
    let located = subst (λ xs. IsLocated g.K.Ord.cmp c.args.key.now xs spot.chunk (Ok c.in-Ok.at)) c.all.ensures (subst (IsLocated g.K.Ord.cmp c.args.key.now c.all.result.now spot.chunk) c.in-Ok.is c.in-Some.ensures.some) in
    let within = within_ok g.met.K.Ord.total c.args.key.now c.self.inside.chunks.chunks spot.chunk c.in-Ok.at located in
    let d = any_of (chunk_at c.self.inside.chunks.chunks spot.chunk) c.in-Ok.at within in
    let value = g.E.Edit.edited c.args.edit.now (get_or (chunk_at c.self.inside.chunks.chunks spot.chunk) c.in-Ok.at d).1 in
    let long = ap (λ xs. length (joined xs)) (c.change.ensures.chunks d) ∙ write_length g.met.K.Ord.total c.args.key.now c.self.invariant spot.chunk c.in-Ok.at value located in
    let many = ap length (c.change.ensures.chunks d) ∙ write_many g.met.K.Ord.total c.args.key.now c.self.invariant spot.chunk c.in-Ok.at value in
    (λ i. capacity (many i + c.change.ensures.blank i) - long i) ∙ ap (λ m. m.spare) c.self.view_is

pub returns-in-Ok-clause-count : goal.returns-in-Ok-clause-count
returns-in-Ok-clause-count g c =
    let spot = c.in-Some.spot in
    let located = subst (λ xs. IsLocated g.K.Ord.cmp c.args.key.now xs spot.chunk (Ok c.in-Ok.at)) c.all.ensures (subst (IsLocated g.K.Ord.cmp c.args.key.now c.all.result.now spot.chunk) c.in-Ok.is c.in-Some.ensures.some) in
    let within = within_ok g.met.K.Ord.total c.args.key.now c.self.inside.chunks.chunks spot.chunk c.in-Ok.at located in
    let d = any_of (chunk_at c.self.inside.chunks.chunks spot.chunk) c.in-Ok.at within in
    let value = g.E.Edit.edited c.args.edit.now (get_or (chunk_at c.self.inside.chunks.chunks spot.chunk) c.in-Ok.at d).1 in
    ap (λ xs. length (joined xs)) (c.change.ensures.chunks d) ∙ write_length g.met.K.Ord.total c.args.key.now c.self.invariant spot.chunk c.in-Ok.at value located ∙ ap (λ m. length m.entries) c.self.view_is

pub returns-in-Err-clause-before : goal.returns-in-Err-clause-before
returns-in-Err-clause-before g c =
    let spot = c.in-Some.spot in
    let located = subst (λ xs. IsLocated g.K.Ord.cmp c.args.key.now xs spot.chunk (Err c.in-Err.field-0)) c.all.ensures (subst (IsLocated g.K.Ord.cmp c.args.key.now c.all.result.now spot.chunk) c.in-Err.is c.in-Some.ensures.some) in
    let none = value_missed g.met.K.Ord.total c.args.key.now c.self.inside.chunks.chunks spot.chunk c.in-Err.field-0 c.self.invariant.ordered located in
    sym none ∙ ap (λ m. lookup (is_at (g.K.Ord.cmp c.args.key.now)) m.entries) c.self.view_is

pub returns-in-None-clause-before : goal.returns-in-None-clause-before
returns-in-None-clause-before g c =
    let nothing = sym c.all.ensures ∙ c.in-None.ensures.none refl in
    sym (ap (λ xs. lookup (is_at (g.K.Ord.cmp c.args.key.now)) (joined xs)) nothing) ∙ ap (λ m. lookup (is_at (g.K.Ord.cmp c.args.key.now)) m.entries) c.self.view_is
