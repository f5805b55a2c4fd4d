-- The first of the items that are left is settled in each turn.
use Rattle.std.proofs.Common.{◌≡◌, ◌+◌, ◌∷◌, [], drop, sym, ap, ◌∙◌, arith}
use Rattle.std.proofs.lemmas.Bool.{and_parts}
use Rattle.std.proofs.lemmas.List.{at_drop_more, drop_all}
use Rattle.tree_definitions.specs.Removal.{settled_from}
use Rattle.tree_model.specs.Replayed.{item_within, all_within}
use Rattle.tree_model.proofs.settle.settle_all.Goals as goal

pub settle-requires : goal.settle-requires
settle-requires c =
    let items = c.args.history.now in
    let at = c.loop-item.item-index in
    let first = c.item-item.result in
    let rest = drop (at + 1) items in
    let split : drop at items ≡ first ∷ rest = at_drop_more (λ is. is) items at first c.loop-item-test.true ∙ ap (λ i. i ∷ rest) (sym c.item-item.is) in
    (and_parts (item_within first) (all_within rest) (ap all_within (sym split) ∙ c.loop-item.invariant.within)).0

pub loop-item-preserved : goal.loop-item-preserved
loop-item-preserved c =
    let items = c.args.history.now in
    let at = c.loop-item.item-index in
    let first = c.item-item.result in
    let rest = drop (at + 1) items in
    let split : drop at items ≡ first ∷ rest = at_drop_more (λ is. is) items at first c.loop-item-test.true ∙ ap (λ i. i ∷ rest) (sym c.item-item.is) in
    record {
      rest = c.in_ok-settle.ensures rest ∙ ap (settled_from c.args.opening.now c.loop-item.list.items) (sym split) ∙ c.loop-item.invariant.rest;
      within = (and_parts (item_within first) (all_within rest) (ap all_within (sym split) ∙ c.loop-item.invariant.within)).1;
    }

pub returns : goal.returns
returns c =
    let none : drop c.loop-item.item-index c.args.history.now ≡ [] = drop_all c.loop-item.item-index c.args.history.now (omega arith) in
    ap (settled_from c.args.opening.now c.loop-item.list.items) (sym none) ∙ c.loop-item.invariant.rest
