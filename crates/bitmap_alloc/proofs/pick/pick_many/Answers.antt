-- The picks go on behind the block that was picked.
use Rattle.std.proofs.Common.{rules, ◌≡◌, ◌≤◌, ◌-◌, ℕ, suc, ◌+◌, ◌<◌, length, Option, List, [], ◌∷◌, ◌++◌, sym, ap, subst, ◌∙◌, arith}
use Rattle.std.proofs.lemmas.List.{length_push}
use Rattle.std.specs.Option.{option_map}
use Rattle.disk_definitions.specs.Held.{state_in}
use Rattle.disk_definitions.specs.Picks.{picks, picked_many}
use Rattle.bitmap_alloc.proofs.Steps.{left, pick_found, pick_missing, picks_done}
use Rattle.bitmap_alloc.proofs.pick.pick_many.Goals as goal

-- as many are left as are wanted less those that are there
with_left : (states : ℕ → Option ℕ) (picked : List ℕ) (from m n : ℕ) (want : Option (List ℕ)) → m ≡ n → option_map (λ bs. picked ++ bs) (picks (left states from) m) ≡ want → option_map (λ bs. picked ++ bs) (picks (left states from) n) ≡ want
with_left states picked from m n want e h = subst (λ k. option_map (λ bs. picked ++ bs) (picks (left states from) k) ≡ want) e h

-- what is known once a block was pushed
after_push : (states : ℕ → Option ℕ) (picked new : List ℕ) (b count : ℕ) (want : Option (List ℕ)) → new ≡ picked ++ b ∷ [] → length picked < count
    → option_map (λ bs. (picked ++ b ∷ []) ++ bs) (picks (left states (b + 1)) (count - length picked - 1)) ≡ want
    → (length new ≤ count) × (option_map (λ bs. new ++ bs) (picks (left states (b + 1)) (count - length new)) ≡ want)
after_push states picked new b count want e l h =
    let n : length new ≡ length picked + 1 = ap length e ∙ length_push picked b in
    let m : count - length picked - 1 ≡ count - length new = omega arith in (
      omega arith,
      subst (λ xs. option_map (λ bs. xs ++ bs) (picks (left states (b + 1)) (count - length new)) ≡ want) (sym e)
          (with_left states (picked ++ b ∷ []) (b + 1) (count - length picked - 1) (count - length new) want m h),
    )

pub returns-in_default : goal.returns-in_default
returns-in_default c =
    let states : ℕ → Option ℕ = state_in c.args.held.now in
    let picked : List ℕ = c.loop-block.picked.items in
    let want : Option (List ℕ) = picked_many c.args.held.now c.args.count in
    let more : c.args.count - length picked ≡ suc (c.args.count - length picked - 1) = omega arith in
    pick_missing states picked c.loop-block.from (c.args.count - length picked - 1) want c.loop-block.invariant.below (sym c.least_block.ensures.least ∙ c.in_default.is)
    (with_left states picked c.loop-block.from (c.args.count - length picked) (suc (c.args.count - length picked - 1)) want more c.loop-block.invariant.rest)

pub loop-block-preserved : goal.loop-block-preserved
loop-block-preserved c =
    let states : ℕ → Option ℕ = state_in c.args.held.now in
    let picked : List ℕ = c.loop-block.picked.items in
    let want : Option (List ℕ) = picked_many c.args.held.now c.args.count in
    let more : c.args.count - length picked ≡ suc (c.args.count - length picked - 1) = omega arith in
    let step : (c.in-Some.block < 65536) × (option_map (λ bs. (picked ++ c.in-Some.block ∷ []) ++ bs) (picks (left states (c.in-Some.block + 1)) (c.args.count - length picked - 1)) ≡ want) =
    pick_found states picked c.loop-block.from c.in-Some.block (c.args.count - length picked - 1) want c.loop-block.invariant.below (sym c.least_block.ensures.least ∙ c.in-Some.is)
    (with_left states picked c.loop-block.from (c.args.count - length picked) (suc (c.args.count - length picked - 1)) want more c.loop-block.invariant.rest) in
    let pushed : c.push.new.self.items ≡ picked ++ c.in-Some.block ∷ [] = search rules in
    let few : length picked < c.args.count = omega arith in
    let after = after_push states picked c.push.new.self.items c.in-Some.block c.args.count want pushed few step.1 in
    record { below = omega (arith, step.0); few = after.0; rest = after.1 }

pub returns : goal.returns
returns c =
    let states : ℕ → Option ℕ = state_in c.args.held.now in
    let none : c.args.count - length c.loop-block.picked.items ≡ 0 = omega arith in
    picks_done states c.loop-block.picked.items c.loop-block.from (picked_many c.args.held.now c.args.count) (with_left states c.loop-block.picked.items c.loop-block.from (c.args.count - length c.loop-block.picked.items) 0 (picked_many c.args.held.now c.args.count) none c.loop-block.invariant.rest)
