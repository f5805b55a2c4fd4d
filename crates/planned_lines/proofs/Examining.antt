-- What was looked at from nothing on is all that is kept.
use Rattle.std.proofs.Common.{◌≡◌, ℕ, Option, Some, List, [], ◌++◌, ap, ◌∙◌}
use Rattle.dir_lookup.specs.Looked.{Adds}

pub all_kept : (old new : Option (List ℕ)) (kept more : List ℕ) → old ≡ Some [] → new ≡ Some kept → Adds old new more → kept ≡ more
all_kept old new kept more o n adds =
    let t = adds kept n in
    let first : old ≡ Some t.0 = t.1 in
    let none : t.0 ≡ [] = cc in
    t.2 ∙ ap (λ (before : List ℕ). before ++ more) none
