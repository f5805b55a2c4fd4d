use Rattle.std.proofs.Common.{ℕ, ◌≡◌, ◌==◌, ◌||◌, Bool, false, sym, ◌∙◌, ap}
use Rattle.std.specs.List.{list_any}
use Rattle.std.proofs.lemmas.List.Folds.{list_any-append}
use Rattle.tree_definitions.specs.Touched.{visited}
use Rattle.file_tree.specs.Walks.{step_by}
use Rattle.tree_model.proofs.touch.goes_through.Goals as goal

pub returns-else-has : goal.returns-else-has
returns-else-has c =
    let trail = c.args.resolved.now.trail.items in
    let last = visited c.args.tree.now (step_by c.args.resolved.now.step) c.args.reply.now in
    let passed : c.has.result ≡ list_any {X = ℕ} (λ b. b == c.args.birth) trail = c.has.ensures ∙ ap (list_any {X = ℕ} (λ b. b == c.args.birth)) c.deref.ensures.value in
    let none : list_any {X = ℕ} (λ b. b == c.args.birth) trail ≡ false = sym passed ∙ c.if-has.false in
    c.step_visits.ensures ∙ sym (list_any-append (λ b. b == c.args.birth) trail last ∙ ap (λ (b : Bool). b || list_any {X = ℕ} (λ b. b == c.args.birth) last) none)
