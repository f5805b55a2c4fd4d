-- Segment after segment.
use Rattle.std.proofs.Common.{◌≡◌, ◌-◌, ℕ, ◌+◌, ◌*◌, ◌<◌, Bool, Option, Some, None, sym, subst, ◌∙◌, arith}
use Rattle.disk_definitions.specs.Least.{least_from}
use Rattle.disk_definitions.specs.Held.{inode_in}
use Rattle.disk_definitions.specs.Picks.{is_free, picked_inode}
use Rattle.disk_definitions.proofs.LeastLaws.{least_below, step_end}
use Rattle.bitmap_alloc.proofs.Steps.{segment_found, segment_passed}
use Rattle.bitmap_alloc.proofs.pick.pick_inode.Goals as goal

-- a search from a place 0 of a segment
from_place : (test : ℕ → Bool) (k : ℕ) (want : Option ℕ) → least_from test (64 * k) (4096 - 64 * k) ≡ want → least_from test (64 * k + 0) (4096 - (64 * k + 0)) ≡ want
from_place test k want e = let z : 64 * k + 0 ≡ 64 * k = omega arith in subst (λ n. least_from test n (4096 - n) ≡ want) (sym z) e

next_place : (test : ℕ → Bool) (k : ℕ) (want : Option ℕ) → least_from test (64 * k + 64) (4096 - (64 * k + 64)) ≡ want → least_from test (64 * (k + 1)) (4096 - 64 * (k + 1)) ≡ want
next_place test k want e = let z : 64 * k + 64 ≡ 64 * (k + 1) = omega arith in subst (λ n. least_from test n (4096 - n) ≡ want) z e

pub loop-k-init : goal.loop-k-init
loop-k-init c = sym (least_below (λ i. is_free (inode_in c.args.held.now i)) 4096)

pub returns-in-Some : goal.returns-in-Some
returns-in-Some c =
    let test : ℕ → Bool = λ i. is_free (inode_in c.args.held.now i) in
    let l : c.loop-k.k < 64 = c.loop-k-test.true in
    let found : least_from (λ j. test (64 * c.loop-k.k + j)) 0 (64 - 0) ≡ Some c.in-Some.j = sym (least_below (λ j. test (64 * c.loop-k.k + j)) 64) ∙ sym c.free_inode.ensures.least ∙ c.in-Some.is in
    segment_found test 64 (64 * c.loop-k.k) 0 4096 (picked_inode c.args.held.now) (omega arith) (omega arith) (from_place test c.loop-k.k (picked_inode c.args.held.now) c.loop-k.invariant) c.in-Some.j found

pub loop-k-preserved : goal.loop-k-preserved
loop-k-preserved c =
    let test : ℕ → Bool = λ i. is_free (inode_in c.args.held.now i) in
    let l : c.loop-k.k < 64 = c.loop-k-test.true in
    let none : least_from (λ j. test (64 * c.loop-k.k + j)) 0 (64 - 0) ≡ None = sym (least_below (λ j. test (64 * c.loop-k.k + j)) 64) ∙ sym c.free_inode.ensures.least ∙ c.in_default.is in
    next_place test c.loop-k.k (picked_inode c.args.held.now)
    (segment_passed test 64 (64 * c.loop-k.k) 0 4096 (picked_inode c.args.held.now) (omega arith) (omega arith) (from_place test c.loop-k.k (picked_inode c.args.held.now) c.loop-k.invariant) none)

pub returns : goal.returns
returns c =
    let test : ℕ → Bool = λ i. is_free (inode_in c.args.held.now i) in
    step_end test (64 * c.loop-k.k) 4096 (picked_inode c.args.held.now) (omega arith) c.loop-k.invariant
