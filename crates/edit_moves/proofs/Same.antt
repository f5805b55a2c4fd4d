-- Two things are the same exactly where their tests say so.
use Rattle.std.proofs.Common.{◌≡◌, ◌==◌, ℕ, true, eqb-true, refl, ap, arith}
use Rattle.std.proofs.lemmas.Bool.Decides.{nat_tests}
use Rattle.edit_moves.specs.declared.thing.Thing.{Thing}
use Rattle.edit_moves.specs.declared.thing.Thing.TheVariants as thing
use Rattle.edit_moves.specs.Moves.{is_same}

pub same_is : (a b : Thing) → is_same a b ≡ true → a ≡ b
same_is (thing.Inode x) (thing.Inode y) e = ap thing.Inode (eqb-true x y e)
same_is (thing.Inode x) (thing.Small y) e = absurd (cc)
same_is (thing.Inode x) (thing.Large y) e = absurd (cc)
same_is (thing.Small x) (thing.Inode y) e = absurd (cc)
same_is (thing.Small x) (thing.Small y) e = ap thing.Small (eqb-true x y e)
same_is (thing.Small x) (thing.Large y) e = absurd (cc)
same_is (thing.Large x) (thing.Inode y) e = absurd (cc)
same_is (thing.Large x) (thing.Small y) e = absurd (cc)
same_is (thing.Large x) (thing.Large y) e = ap thing.Large (eqb-true x y e)

flip : (x y : ℕ) → (x == y) ≡ (y == x)
flip x y = grind (arith, nat_tests)

pub same_flip : (a b : Thing) → is_same a b ≡ is_same b a
same_flip (thing.Inode x) (thing.Inode y) = flip x y
same_flip (thing.Inode x) (thing.Small y) = refl
same_flip (thing.Inode x) (thing.Large y) = refl
same_flip (thing.Small x) (thing.Inode y) = refl
same_flip (thing.Small x) (thing.Small y) = flip x y
same_flip (thing.Small x) (thing.Large y) = refl
same_flip (thing.Large x) (thing.Inode y) = refl
same_flip (thing.Large x) (thing.Small y) = refl
same_flip (thing.Large x) (thing.Large y) = flip x y
