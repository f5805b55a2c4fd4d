-- What is printed, and then the names that are left, is the text of all names.
use Rattle.std.proofs.Common.{◌≡◌, ◌∷◌, ◌++◌, drop}
use Rattle.std.specs.List.{flat_map}
use Rattle.script_lang.proofs.print.print_names.Given as goal

abbrev pub invariant-loop-name : goal.invariant-loop-name
invariant-loop-name l = l.to.items ++ flat_map (λ n. 47 ∷ n) (drop l.name-index l.names) ≡ l.fn.to.items ++ flat_map (λ n. 47 ∷ n) l.names
