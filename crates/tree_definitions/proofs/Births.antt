-- A fact of every birth, by that of one birth and that of the others.
use Rattle.std.proofs.Common.{ℕ, ◌≡◌, ◌≢◌, Bool, true, false, refl, sym, nat_eq, eqb-true, subst}
use Rattle.std.proofs.lemmas.Bool.{eqb-false}

pub each_but : (P : ℕ → Type 0) (b : ℕ) → P b → ((c : ℕ) → c ≢ b → P c) → (c : ℕ) → P c
each_but P b here other c = go (nat_eq c b) refl
  where
    go : (t : Bool) → nat_eq c b ≡ t → P c
    go true e = subst P (sym (eqb-true c b e)) here
    go false e = other c (eqb-false c b e)
