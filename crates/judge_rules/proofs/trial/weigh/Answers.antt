-- What the line adds is weighed.
use Rattle.std.proofs.Common.{◌≡◌, ◌+◌, sym, ◌∙◌, ap, subst}
use Rattle.judge_rules.specs.Judging.{Takes, Weighs, first_of}
use Rattle.judge_rules.proofs.Turning.{weighs_turn}
use Rattle.judge_rules.proofs.trial.weigh.Goals as goal

pub returns : goal.returns
returns c = λ script segments saids place x at count adds w.
    let old = c.args.weighing.now in
    let new = c.take_item.new.settling in
    let taken = subst (λ items. Takes old.settling items new) adds c.in_ok-take_item.ensures in
    let legal : c.first_of-legal.result ≡ first_of old.legal new.legal (place + 1) = c.first_of-legal.ensures ∙ ap (λ b. first_of old.legal b c.args.number) c.is_legal.ensures ∙ ap (first_of old.legal new.legal) count in
    let kept : c.first_of-kept.result ≡ first_of old.kept new.kept (place + 1) = c.first_of-kept.ensures ∙ ap (λ b. first_of old.kept b c.args.number) c.is_kept.ensures ∙ ap (first_of old.kept new.kept) count in
    subst (λ k. Weighs script segments saids (place + 1) new c.first_of-legal.result k) (sym kept)
    (subst (λ l. Weighs script segments saids (place + 1) new l (first_of old.kept new.kept (place + 1))) (sym legal)
    (weighs_turn script segments saids place x old.settling new old.legal old.kept at w taken))
