-- The words with the number, and then what is kept, are the line.
use Rattle.std.specs.Prelude.{Result, Ok, Err, OnOk, codes}
use Rattle.std.proofs.Common.{◌≡◌, ◌++◌, ◌∙◌, List, ℕ, ap, append_assoc}
use Rattle.std.specs.Fmt.{decimal}
use Rattle.tree_definitions.specs.SaidLines.{keeps_text}
use Rattle.reply_text.proofs.said.write_recovered.Goals as goal

-- a text that is added in three parts, the first two at once
added : {T E : Type 0} (r : Result T E) (old mid new words number keeps : List ℕ) → mid ≡ old ++ (words ++ number) → OnOk r (new ≡ mid ++ keeps) → OnOk r (new ≡ old ++ (words ++ (number ++ keeps)))
added (Ok x) old mid new words number keeps first then_ =
    then_ ∙ ap (λ t. t ++ keeps) first ∙ append_assoc old (words ++ number) keeps ∙ ap (λ t. old ++ t) (append_assoc words number keeps)
added (Err e) old mid new words number keeps first then_ = tt

pub returns : goal.returns
returns c = added c.write_keeps.result c.args.to.now.items c.write_numbered.new.to.items c.write_keeps.new.to.items (codes "! recovered ") (decimal c.args.server.0) (keeps_text c.args.keeps.0) (rw c.from.ensures at c.in_ok-write_numbered.ensures) c.write_keeps.ensures
