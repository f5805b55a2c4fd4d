-- The first chunk that doesn't end below has the entry, and where all do there is none.
use Rattle.std.proofs.Common.{◌<◌, ◌≤◌, length, sym, ap, ◌∙◌, subst, arith}
use Rattle.std.specs.List.Sorted.{IsStrictlySortedBy}
use Rattle.std.specs.Map.{keys_of}
use Rattle.ordered_map.specs.Chunks.{joined, AreFilled}
use Rattle.ordered_map.specs.Entries.{first_from}
use Rattle.ordered_map.proofs.Flat.{filled-at}
use Rattle.ordered_map.proofs.Search.{sorted_chunk, first_is, all_below}
use Rattle.ordered_map.proofs.Found.{first_place, first_found, none_from}
use Rattle.ordered_map.proofs.map.OrderedMap.first_from_near.Goals as goal

pub first_from-requires : goal.first_from-requires
first_from-requires g c =
    let chunks = c.all-chunks.result.now in
    let first = c.first_reaching_near-first.result in
    let inside : first < length chunks = c.if-first-chunks.true in
    let sorted = subst (λ xs. IsStrictlySortedBy g.K.Ord.cmp (keys_of (joined xs))) (sym c.all-chunks.ensures) c.self.invariant.ordered in
    subst (λ es. IsStrictlySortedBy g.K.Ord.cmp (keys_of es)) (sym c.nth.ensures)
    (sorted_chunk g.met.K.Ord.total c.args.key.now chunks first inside sorted)

pub returns-then-first-chunks : goal.returns-then-first-chunks
returns-then-first-chunks g c =
    let chunks = c.all-chunks.result.now in
    let first = c.first_reaching_near-first.result in
    let inside : first < length chunks = c.if-first-chunks.true in
    let sorted = subst (λ xs. IsStrictlySortedBy g.K.Ord.cmp (keys_of (joined xs))) (sym c.all-chunks.ensures) c.self.invariant.ordered in
    let filled = subst AreFilled (sym c.all-chunks.ensures) c.self.invariant.filled in
    let chunk = first_is g.met.K.Ord.total c.args.key.now chunks first filled sorted inside c.first_reaching_near-first.ensures.point in
    c.first_from.ensures
    ∙ ap (λ es. first_from g.K.Ord.cmp es c.args.key.now) c.nth.ensures
    ∙ first_place g.K.Ord.cmp c.args.key.now _
    ∙ sym (first_found g.met.K.Ord.total c.args.key.now chunks first chunk (filled-at first chunks inside filled).0 (c.first_reaching_near-first.ensures.point.1 first _ (omega arith) inside))
    ∙ ap (λ xs. first_from g.K.Ord.cmp (joined xs) c.args.key.now) c.all-chunks.ensures
    ∙ ap (λ m. first_from g.K.Ord.cmp m.entries c.args.key.now) c.self.view_is

pub returns-else-first-chunks : goal.returns-else-first-chunks
returns-else-first-chunks g c =
    let chunks = c.all-chunks.result.now in
    let all : length chunks ≤ c.first_reaching_near-first.result = c.if-first-chunks.false in
    let sorted = subst (λ xs. IsStrictlySortedBy g.K.Ord.cmp (keys_of (joined xs))) (sym c.all-chunks.ensures) c.self.invariant.ordered in
    let below = all_below g.met.K.Ord.total c.args.key.now chunks sorted (λ j d inside. c.first_reaching_near-first.ensures.point.0 j d (omega arith) (omega arith)) in
    sym (none_from g.K.Ord.cmp c.args.key.now (joined chunks) below)
    ∙ ap (λ xs. first_from g.K.Ord.cmp (joined xs) c.args.key.now) c.all-chunks.ensures
    ∙ ap (λ m. first_from g.K.Ord.cmp m.entries c.args.key.now) c.self.view_is
