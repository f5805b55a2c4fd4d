-- One name more of a path.
use Rattle.std.proofs.Common.{◌≡◌, ℕ, ◌+◌, List, [], ◌∷◌, ◌++◌, length, Option, Some, None, Result, Ok, Err, refl, sym, ◌∙◌, ap, append_assoc}
use Rattle.frang_base.specs.PathText.{names_from, name_fault, unless_fault, with_name}
use Rattle.frang_base.specs.declared.fault.PathFault.{PathFault}

-- what was read so far, and what the rest gives
abbrev pub behind_names : List (List ℕ) → Result (List (List ℕ)) PathFault → Result (List (List ℕ)) PathFault
behind_names front (Ok names) = Ok (front ++ names)
behind_names front (Err f) = Err f

behind_with : (front : List (List ℕ)) (name : List ℕ) (r : Result (List (List ℕ)) PathFault) → behind_names (front ++ name ∷ []) r ≡ behind_names front (with_name name r)
behind_with front name (Ok names) = ap Ok (append_assoc front (name ∷ []) names)
behind_with front name (Err f) = refl

-- the next part is a name
pub name_read : (front : List (List ℕ)) (before : ℕ) (name : List ℕ) (names : List (List ℕ)) → name_fault before name ≡ None → behind_names (front ++ name ∷ []) (names_from (before + 1) names) ≡ behind_names front (names_from before (name ∷ names))
name_read front before name names e =
    behind_with front name (names_from (before + 1) names)
    ∙ ap (λ f. behind_names front (unless_fault f (with_name name (names_from (before + 1) names)))) (sym e)

-- the next part is none
pub name_refused : (front : List (List ℕ)) (before : ℕ) (name : List ℕ) (names : List (List ℕ)) (f : PathFault) → name_fault before name ≡ Some f → behind_names front (names_from before (name ∷ names)) ≡ Err f
name_refused front before name names f e = ap (λ f. behind_names front (unless_fault f (with_name name (names_from (before + 1) names)))) e
