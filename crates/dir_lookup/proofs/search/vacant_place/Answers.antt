-- Place after place.
use Rattle.std.proofs.Common.{◌≡◌, ◌≤◌, ◌<◌, ℕ, Bool, true, false, sym, arith}
use Rattle.disk_definitions.specs.Least.{least}
use Rattle.disk_definitions.proofs.LeastLaws.{least_below, step_found, step_passed, step_end}
use Rattle.disk_definitions.specs.Walks.{is_vacant}
use Rattle.dir_lookup.specs.Stored.{entries_at}
use Rattle.dir_lookup.proofs.search.vacant_place.Goals as goal

pub loop-place-init : goal.loop-place-init
loop-place-init c = sym (least_below (λ r. is_vacant (entries_at c.args.sector.now r)) 7)

pub returns-then-vacant-clause-is : goal.returns-then-vacant-clause-is
returns-then-vacant-clause-is c =
    let test : ℕ → Bool = λ r. is_vacant (entries_at c.args.sector.now r) in
    let l : c.loop-place.place < 7 = omega arith in
    let t : test c.loop-place.place ≡ true = cc in
    step_found test c.loop-place.place 7 (least test 7) l t c.loop-place.invariant

pub loop-place-preserved : goal.loop-place-preserved
loop-place-preserved c =
    let test : ℕ → Bool = λ r. is_vacant (entries_at c.args.sector.now r) in
    let l : c.loop-place.place < 7 = omega arith in
    let t : test c.loop-place.place ≡ false = cc in
    step_passed test c.loop-place.place 7 (least test 7) l t c.loop-place.invariant

pub returns-clause-is : goal.returns-clause-is
returns-clause-is c =
    let test : ℕ → Bool = λ r. is_vacant (entries_at c.args.sector.now r) in
    let l : 7 ≤ c.loop-place.place = omega arith in
    step_end test c.loop-place.place 7 (least test 7) l c.loop-place.invariant
