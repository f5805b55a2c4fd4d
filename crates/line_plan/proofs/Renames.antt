-- The walks of a rename, by whether its paths are the root.
use Rattle.std.proofs.Common.{◌≡◌, ◌↔◌, ℕ, Bool, true, false, IsTrue, List, [], ◌∷◌, refl}
use Rattle.frang_base.specs.declared.op.Op.TheVariants as op
use Rattle.disk_definitions.specs.Lines.{as_it_stands, over_paths, resolved}

pub from_root : (path to : List (List ℕ)) (a : Bool) → (IsTrue a ↔ (path ≡ [])) → a ≡ true → resolved (op.Rename path to) ≡ as_it_stands (op.Rename path to)
from_root [] to a p e = refl
from_root (name ∷ names) to true p e = let z : name ∷ names ≡ [] = p.0 refl in absurd (cc)
from_root (name ∷ names) to false p e = absurd (cc)

pub to_root : (path to : List (List ℕ)) (b : Bool) → (IsTrue b ↔ (to ≡ [])) → b ≡ true → resolved (op.Rename path to) ≡ as_it_stands (op.Rename path to)
to_root [] to b q e = refl
to_root (name ∷ names) [] b q e = refl
to_root (name ∷ names) (new ∷ news) true q e = let z : new ∷ news ≡ [] = q.0 refl in absurd (cc)
to_root (name ∷ names) (new ∷ news) false q e = absurd (cc)

pub of_both : (path to : List (List ℕ)) (a b : Bool) → (IsTrue a ↔ (path ≡ [])) → (IsTrue b ↔ (to ≡ [])) → a ≡ false → b ≡ false
    → resolved (op.Rename path to) ≡ over_paths true path to (λ p q. op.Rename p q)
of_both [] to true b p q e f = absurd (cc)
of_both [] to false b p q e f = let z : false ≡ true = p.1 refl in absurd (cc)
of_both (name ∷ names) [] a true p q e f = absurd (cc)
of_both (name ∷ names) [] a false p q e f = let z : false ≡ true = q.1 refl in absurd (cc)
of_both (name ∷ names) (new ∷ news) a b p q e f = refl
