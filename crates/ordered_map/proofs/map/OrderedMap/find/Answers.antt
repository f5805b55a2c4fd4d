-- What is found at the key's place is its value.
use Rattle.std.proofs.Common.{sym, ap, ◌∙◌, subst}
use Rattle.std.specs.List.Sorted.{IsStrictlySortedBy}
use Rattle.std.specs.Map.{lookup, keys_of}
use Rattle.std.specs.BTreeMap.{is_at}
use Rattle.ordered_map.specs.Chunks.{joined, IsLocated}
use Rattle.ordered_map.proofs.Found.{within_ok, value_found, value_missed}
use Rattle.ordered_map.proofs.map.OrderedMap.find.Goals as goal

pub entry_of-requires-clause-place : goal.entry_of-requires-clause-place
entry_of-requires-clause-place g c =
    let spot = c.in_ok-spot.spot in
    within_ok g.met.K.Ord.total c.args.key.now c.all-chunks.result.now spot.chunk c.in-Ok.at (subst (IsLocated g.K.Ord.cmp c.args.key.now c.all-chunks.result.now spot.chunk) c.in-Ok.is c.in_ok-spot.ensures.some)

pub returns-in-Ok : goal.returns-in-Ok
returns-in-Ok g c =
    let spot = c.in_ok-spot.spot in
    let located = subst (IsLocated g.K.Ord.cmp c.args.key.now c.all-chunks.result.now spot.chunk) c.in-Ok.is c.in_ok-spot.ensures.some in
    sym (value_found g.met.K.Ord.total c.args.key.now c.all-chunks.result.now spot.chunk c.in-Ok.at c.entry_of.result.now located c.entry_of.ensures)
    ∙ ap (λ xs. lookup (is_at (g.K.Ord.cmp c.args.key.now)) (joined xs)) c.all-chunks.ensures
    ∙ ap (λ m. lookup (is_at (g.K.Ord.cmp c.args.key.now)) m.entries) c.self.view_is

pub returns-in-Err : goal.returns-in-Err
returns-in-Err g c =
    let spot = c.in_ok-spot.spot in
    let located = subst (IsLocated g.K.Ord.cmp c.args.key.now c.all-chunks.result.now spot.chunk) c.in-Err.is c.in_ok-spot.ensures.some in
    let sorted = subst (λ xs. IsStrictlySortedBy g.K.Ord.cmp (keys_of (joined xs))) (sym c.all-chunks.ensures) c.self.invariant.ordered in
    sym (value_missed g.met.K.Ord.total c.args.key.now c.all-chunks.result.now spot.chunk c.in-Err.field-0 sorted located)
    ∙ ap (λ xs. lookup (is_at (g.K.Ord.cmp c.args.key.now)) (joined xs)) c.all-chunks.ensures
    ∙ ap (λ m. lookup (is_at (g.K.Ord.cmp c.args.key.now)) m.entries) c.self.view_is
