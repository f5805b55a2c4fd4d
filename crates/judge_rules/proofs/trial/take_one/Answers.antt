-- An entry, or a recovery.
use Rattle.std.proofs.Common.{OnOk, [], ◌∷◌, sym, subst}
use Rattle.tree_definitions.specs.declared.history.Item.{Item}
use Rattle.judge_rules.specs.Judging.{Takes}
use Rattle.judge_rules.proofs.Adding.{entry_taken, recovery_taken}
use Rattle.judge_rules.proofs.trial.take_one.Goals as goal

pub returns-in-Did : goal.returns-in-Did
returns-in-Did c =
    let r = c.take_entry.result in
    let old = c.args.settling.now in
    let new = c.take_entry.new.self in
    let e = c.take_entry.ensures in
    subst (λ (i : Item). OnOk r (Takes old (i ∷ []) new)) (sym c.in-Did.is) (entry_taken r old new c.in-Did.entry e.opening e.steps e.kept e.legal)

pub returns-in-Recovered : goal.returns-in-Recovered
returns-in-Recovered c =
    let r = c.take_recovery.result in
    let old = c.args.settling.now in
    let new = c.take_recovery.new.self in
    let e = c.take_recovery.ensures in
    subst (λ (i : Item). OnOk r (Takes old (i ∷ []) new)) (sym c.in-Recovered.is) (recovery_taken r old new c.in-Recovered.server c.in-Recovered.keeps e.opening e.steps e.kept e.legal)
