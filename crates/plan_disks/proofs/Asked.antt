-- The paths that tests ask with have names.
use Rattle.std.proofs.Common.{◌≡◌, ◌&&◌, ℕ, Bool, true, false, List, [], ◌∷◌, refl}
use Rattle.std.specs.List.{list_all}
use Rattle.frang_base.specs.Name.{is_name}
use Rattle.disk_definitions.specs.Allowed.{AreNames}

pub all_names : (names : List (List ℕ)) → list_all is_name names ≡ true → AreNames names
all_names [] e = tt
all_names (name ∷ names) e = go (is_name name) refl (all_names names) e
  where
    go : (t : Bool) → is_name name ≡ t → (list_all is_name names ≡ true → AreNames names) → (t && list_all is_name names) ≡ true → AreNames (name ∷ names)
    go true is rest all = (is, rest all)
    go false is rest all = absurd (cc)
