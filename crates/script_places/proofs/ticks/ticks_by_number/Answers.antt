-- At first none has passed; each line that passes leaves the numbers up to its own known.
use Rattle.std.proofs.Common.{rules, ◌≡◌, ℕ, ◌∷◌, ◌+◌, ◌<◌, List, drop, drop-cons, length, get_or, suc, add-one, sym, ap, ◌∙◌, subst, arith}
use Rattle.std.proofs.lemmas.Grind.{common_steps}
use Rattle.frang_base.specs.declared.script.Line.{Line}
use Rattle.script_places.proofs.TicksPassed.{SoFar, none_yet, one_more}
use Rattle.script_places.proofs.ticks.ticks_by_number.Goals as goal

pub loop-line-init : goal.loop-line-init
loop-line-init c = subst (λ (ticks : List ℕ). SoFar c.args.lines.now c.args.lines.now ticks 0) (sym c.new-ticks.ensures.items) (none_yet c.args.lines.now c.requires)

pub loop-line-preserved : goal.loop-line-preserved
loop-line-preserved c =
    one_more c.args.lines.now c.line-item.result (drop (c.loop-line.line-index + 1) c.args.lines.now) c.loop-line.ticks.items c.loop-line.passed
    (subst (λ (left : List Line). SoFar c.args.lines.now left c.loop-line.ticks.items c.loop-line.passed) (left_are c.args.lines.now c.loop-line.line-index c.line-item.result c.loop-line-test.true c.line-item.is) c.loop-line.invariant)
    c.resize.new.self.items c.saturating_add-passed.result (first_of (search rules, grind (arith, common_steps), cc)) (first_of (search rules, grind (arith, common_steps), cc))
  where
    left_are : (lines : List Line) (i : ℕ) (line : Line) → i < length lines → line ≡ get_or lines i line → drop i lines ≡ line ∷ drop (i + 1) lines
    left_are lines i line inside is = drop-cons lines i line inside ∙ ap (λ y. y ∷ drop (suc i) lines) (sym is) ∙ ap (λ k. line ∷ drop k lines) (sym (add-one i))
