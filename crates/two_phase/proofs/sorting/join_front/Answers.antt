-- The lock is found among the first ones, or goes between them.
use Rattle.std.proofs.Common.{◌≡◌, ◌≤◌, Ok, Err, None, length, set, take, ap, ◌∙◌, arith}
use Rattle.lock_definitions.specs.Order.{lock_cmp}
use Rattle.sorted_entries.specs.Places.{place_of}
use Rattle.set_definitions.specs.Sets.{mode_in}
use Rattle.two_phase.proofs.Fronts.{found_count, found_inside, found_items, missed_count, missed_inside, missed_items}
use Rattle.two_phase.proofs.sorting.join_front.Goals as goal

pub index-requires : goal.index-requires
index-requires c =
    let items = c.args.set.now.items in
    let inside : c.args.count ≤ length items = omega (arith, c.args.set.now.ok.0) in
    let place : place_of lock_cmp c.args.need.0 (take c.args.count items) ≡ Ok c.in-Ok.at = cc (c.in-Ok.ensures.place) in
    omega (arith, found_inside items c.args.count c.args.need inside c.in-Ok.at place, c.args.set.now.ok.0)

pub index_mut-requires : goal.index_mut-requires
index_mut-requires c =
    let items = c.args.set.now.items in
    let inside : c.args.count ≤ length items = omega (arith, c.args.set.now.ok.0) in
    let place : place_of lock_cmp c.args.need.0 (take c.args.count items) ≡ Ok c.in-Ok.at = cc (c.in-Ok.ensures.place) in
    omega (arith, found_inside items c.args.count c.args.need inside c.in-Ok.at place, c.args.set.now.ok.0)

pub insert-requires : goal.insert-requires
insert-requires c =
    let items = c.args.set.now.items in
    let inside : c.args.count ≤ length items = omega (arith, c.args.set.now.ok.0) in
    let place : place_of lock_cmp c.args.need.0 (take c.args.count items) ≡ Err c.in-Err.at = cc (c.in-Err.ensures.place) in
    omega (arith, missed_inside items c.args.count c.args.need inside c.in-Err.at place, c.args.set.now.ok.0)

pub returns-in-Ok-clause-items : goal.returns-in-Ok-clause-items
returns-in-Ok-clause-items c =
    let items = c.args.set.now.items in
    let inside : c.args.count ≤ length items = omega (arith, c.args.set.now.ok.0) in
    let place : place_of lock_cmp c.args.need.0 (take c.args.count items) ≡ Ok c.in-Ok.at = cc (c.in-Ok.ensures.place) in
    ap (λ mode. set items c.in-Ok.at (c.args.need.0, mode)) c.with_mode.ensures ∙ found_items items c.args.count c.args.need inside c.in-Ok.at place c.index.result.now c.index.ensures

pub returns-in-Ok-clause-count : goal.returns-in-Ok-clause-count
returns-in-Ok-clause-count c =
    let items = c.args.set.now.items in
    let inside : c.args.count ≤ length items = omega (arith, c.args.set.now.ok.0) in
    let place : place_of lock_cmp c.args.need.0 (take c.args.count items) ≡ Ok c.in-Ok.at = cc (c.in-Ok.ensures.place) in
    found_count items c.args.count c.args.need inside c.in-Ok.at place c.index.result.now c.index.ensures

pub returns-in-Ok-insert-clause-items : goal.returns-in-Ok-insert-clause-items
returns-in-Ok-insert-clause-items c =
    let items = c.args.set.now.items in
    let inside : c.args.count ≤ length items = omega (arith, c.args.set.now.ok.0) in
    let place : place_of lock_cmp c.args.need.0 (take c.args.count items) ≡ Err c.in-Err.at = cc (c.in-Err.ensures.place) in
    let none : mode_in (take c.args.count items) c.args.need.0 ≡ None = cc (c.in-Err.ensures.missing) in
    c.in-Ok-insert.ensures.items ∙ missed_items items c.args.count c.args.need inside c.in-Err.at place none

pub returns-in-Ok-insert-clause-count : goal.returns-in-Ok-insert-clause-count
returns-in-Ok-insert-clause-count c =
    let items = c.args.set.now.items in
    let inside : c.args.count ≤ length items = omega (arith, c.args.set.now.ok.0) in
    let place : place_of lock_cmp c.args.need.0 (take c.args.count items) ≡ Err c.in-Err.at = cc (c.in-Err.ensures.place) in
    let none : mode_in (take c.args.count items) c.args.need.0 ≡ None = cc (c.in-Err.ensures.missing) in
    missed_count items c.args.count c.args.need inside c.in-Err.at place none
