-- The numbers ascend, so a search finds the line or shows that there is none.
use Rattle.std.proofs.Common.{rules}
use Rattle.std.proofs.lemmas.List.Sorted.{answers_always}
use Rattle.frang_base.specs.declared.script.Line.{Line}
use Rattle.judge_rules.proofs.Finding.{searched}
use Rattle.judge_rules.proofs.items.search.Goals as goal

pub returns : goal.returns
returns c =
    let facts = c.binary_search_by_key.ensures in
    let by_key = facts.position (λ (l : Line). l.number) (answers_always _ _ _ (λ f a r g called. search rules)) in
    searched c.args.script.now c.args.number _ c.requires facts.bound by_key
