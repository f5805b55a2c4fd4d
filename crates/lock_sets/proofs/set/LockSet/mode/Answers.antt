-- What is found at the lock's place is its mode.
use Rattle.std.proofs.Common.{get_or, sym, ap, ◌∙◌, Some, arith}
use Rattle.lock_definitions.specs.Order.{lock_cmp}
use Rattle.lock_definitions.proofs.LockOrder.{locks}
use Rattle.sorted_entries.specs.Places.{place_of}
use Rattle.sorted_entries.proofs.Places.{place_found}
use Rattle.lock_sets.proofs.set.LockSet.mode.Goals as goal

pub index-requires : goal.index-requires
index-requires c = omega (arith, (place_found locks c.args.lock _ c.in-Ok.at (ap (place_of lock_cmp c.args.lock) c.self.view_is ∙ sym c.in-Ok.ensures.place)).inside, c.self.inside.locks.ok.0)

pub returns-in-Ok : goal.returns-in-Ok
returns-in-Ok c =
    let place = place_found locks c.args.lock c.args.self.now c.in-Ok.at (sym c.in-Ok.ensures.place) in
    let d = c.index.result.now in
    ap (λ need. Some need.1) c.index.ensures ∙ ap (λ set. Some (get_or set c.in-Ok.at d).1) c.self.view_is ∙ sym (place.value d)
