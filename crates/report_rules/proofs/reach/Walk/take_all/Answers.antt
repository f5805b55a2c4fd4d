-- One inode is taken, and then none is left.
use Rattle.std.proofs.Common.{◌≡◌, ℕ, ◌+◌, List, [], ◌∷◌, length, ap, ◌∙◌, subst, arith, length-append}
use Rattle.std.proofs.lemmas.Grind.{common_steps}
use Rattle.disk_reading.specs.Reach.{unflagged}
use Rattle.disk_reading.specs.Seen.{store_in}
use Rattle.report_rules.specs.Walks.{IsOnTheWay}
use Rattle.report_rules.proofs.Walking.{taken_one, all_taken}
use Rattle.report_rules.proofs.reach.Walk.take_all.Goals as goal

pub loop-d-init : goal.loop-d-init
loop-d-init c = record { long = c.requires.long; on = c.requires.begun }

pub flag_names-requires-clause-long : goal.flag_names-requires-clause-long
flag_names-requires-clause-long c = c.loop-d.invariant.long

pub loop-d-smaller : goal.loop-d-smaller
loop-d-smaller c =
    let s : unflagged c.flag_names.new.self.reached + length c.flag_names.new.self.later.items ≡ unflagged c.loop-d.self.reached + length c.pop.new.self.items = c.in_ok-flag_names.ensures.sum in
    let l : length c.loop-d.self.later.items ≡ length c.pop.new.self.items + 1 = ap (λ (l : List ℕ). length l) c.in-Some.ensures.items ∙ length-append c.pop.new.self.items (c.in-Some.d ∷ []) in
    omega arith

pub returns-clause-long : goal.returns-clause-long
returns-clause-long c = c.loop-d.invariant.long

pub returns-clause-reach : goal.returns-clause-reach
returns-clause-reach c =
    let e : c.loop-d.self.later.items ≡ [] = grind (arith, common_steps) in
    all_taken (store_in c.args.segments c.args.disk.now) c.loop-d.self.reached (subst (λ (l : List ℕ). IsOnTheWay (store_in c.args.segments c.args.disk.now) c.loop-d.self.reached l) e c.loop-d.invariant.on)

pub loop-d-preserved : goal.loop-d-preserved
loop-d-preserved c = record {
  long = c.in_ok-flag_names.ensures.long ∙ c.loop-d.invariant.long;
  on = taken_one (store_in c.args.segments c.args.disk.now) c.loop-d.self.reached c.pop.new.self.items c.in-Some.d c.flag_names.new.self.reached c.flag_names.new.self.later.items
      (subst (λ (l : List ℕ). IsOnTheWay (store_in c.args.segments c.args.disk.now) c.loop-d.self.reached l) c.in-Some.ensures.items c.loop-d.invariant.on) c.in_ok-flag_names.ensures;
}
