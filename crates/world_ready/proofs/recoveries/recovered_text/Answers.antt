-- By the server whose log it is and the greatest operation that the log keeps.
use Rattle.std.proofs.Common.{◌≡◌, ℕ, List, ap, ◌∙◌}
use Rattle.core_definitions.specs.Effects.{id_of}
use Rattle.frang_base.specs.declared.said.Said.TheVariants as said
use Rattle.recovery_demon.specs.Recovering.{greatest_kept}
use Rattle.tree_definitions.specs.SaidLines.{said_line}
use Rattle.world_ready.proofs.Results.{if_ok}
use Rattle.world_ready.proofs.recoveries.recovered_text.Goals as goal

pub returns : goal.returns
returns c =
    let r = c.args.demon.now.recovery in
    let Was : List ℕ → Type 0 = λ text. text ≡ said_line (said.Recovered c.dead.result c.greatest.result) in
    let Is : List ℕ → Type 0 = λ text. text ≡ said_line (said.Recovered (id_of r.dead) (record { 0 = greatest_kept r })) in
    if_ok Was Is c.text_of.result
    (λ text is. is ∙ ap (λ n. said_line (said.Recovered (id_of n) c.greatest.result)) c.dead.ensures ∙ ap (λ n. said_line (said.Recovered (id_of r.dead) (record { 0 = n }))) c.greatest.ensures) c.text_of.ensures
