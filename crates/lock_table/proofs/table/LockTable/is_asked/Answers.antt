-- A list has a first where it isn't empty.
use Rattle.std.proofs.Common.{◌≢◌, ◌↔◌, List, [], ◌∷◌, is_some, IsTrue, refl, sym, ap, ◌∙◌, subst}
use Rattle.std.proofs.lemmas.Bool.{false≢true}
use Rattle.std.specs.List.{slice_get}
use Rattle.lock_definitions.specs.Calls.{revokes}
use Rattle.lock_table.proofs.table.LockTable.is_asked.Goals as goal

has_first : {E : Type 0} (xs : List E) → IsTrue (is_some (slice_get xs 0)) ↔ (xs ≢ [])
has_first [] = (λ t. absurd (false≢true t), λ some. absurd (some refl))
has_first (x ∷ xs) = (λ t none. cc none, λ some. refl)

pub returns : goal.returns
returns c = subst (λ t. IsTrue t ↔ (revokes c.args.self.now.locks c.args.server.0 ≢ [])) (sym (c.is_some.ensures ∙ ap is_some c.first_asked.ensures)) (has_first (revokes c.args.self.now.locks c.args.server.0))
