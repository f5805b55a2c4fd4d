-- The stronger of two modes: it is that of three in whichever order they are compared, and clashes with whatever one of the two clashes with.
use Rattle.std.proofs.Common.{◌≡◌, Bool, true, false, if◌then◌else◌, Option, Some, None, refl, ap}
use Rattle.std.specs.Option.{option_or}
use Rattle.std.proofs.lemmas.Bool.{false≢true}
use Rattle.frang_base.specs.declared.lock.Mode.{Mode}
use Rattle.frang_base.specs.declared.lock.Mode.TheVariants.{Shared, Sole}
use Rattle.lock_definitions.specs.declared.claim.Claim.{Claim}
use Rattle.lock_definitions.specs.Locks.{is_wished_in}
use Rattle.lock_definitions.specs.Calls.{serves, clashes, holding, granted, wishing}
use Rattle.lock_rebuild.specs.Lists.{stronger, mode_clash}

pub stronger_assoc : (a b c : Option Mode) → stronger (stronger a b) c ≡ stronger a (stronger b c)
stronger_assoc None b c = refl
stronger_assoc (Some Sole) b c = refl
stronger_assoc (Some Shared) None c = refl
stronger_assoc (Some Shared) (Some Shared) None = refl
stronger_assoc (Some Shared) (Some Shared) (Some mode) = refl
stronger_assoc (Some Shared) (Some Sole) c = refl

pub stronger_none : (a : Option Mode) → stronger a None ≡ a
stronger_none None = refl
stronger_none (Some Sole) = refl
stronger_none (Some Shared) = refl

pub stronger_same : (a : Option Mode) → stronger a a ≡ a
stronger_same None = refl
stronger_same (Some Sole) = refl
stronger_same (Some Shared) = refl

-- a grant makes the mode the stronger of what was held and what was wanted
pub granted_stronger : (mode : Mode) (claim : Claim) → (granted mode claim).held ≡ stronger claim.held (Some mode)
granted_stronger mode claim = by mode claim.held refl
  where
    by : (m : Mode) (h : Option Mode) → claim.held ≡ h → (granted m claim).held ≡ stronger h (Some m)
    by Shared None is = ap (λ o. (if serves o Sole then holding Sole claim else holding Shared claim).held) is
    by Shared (Some Shared) is = ap (λ o. (if serves o Sole then holding Sole claim else holding Shared claim).held) is
    by Shared (Some Sole) is = ap (λ o. (if serves o Sole then holding Sole claim else holding Shared claim).held) is
    by Sole None is = ap (λ o. (if serves o Sole then holding Sole claim else holding Sole claim).held) is
    by Sole (Some Shared) is = ap (λ o. (if serves o Sole then holding Sole claim else holding Sole claim).held) is
    by Sole (Some Sole) is = ap (λ o. (if serves o Sole then holding Sole claim else holding Sole claim).held) is

pub held_wishing : (mode : Mode) (claim : Claim) → (wishing mode claim).held ≡ claim.held
held_wishing Shared claim = refl
held_wishing Sole claim = refl

-- who wished nothing wishes nothing after a grant
pub granted_unwished : (mode wish : Mode) (claim : Claim) → is_wished_in claim wish ≡ false → is_wished_in (granted mode claim) wish ≡ false
granted_unwished mode wish claim none = by mode wish (serves claim.held Sole) none
  where
    by : (m w : Mode) (b : Bool) → is_wished_in claim w ≡ false → is_wished_in (if b then holding Sole claim else holding m claim) w ≡ false
    by m Shared true is = refl
    by m Sole true is = refl
    by Shared Shared false is = refl
    by Shared Sole false is = is
    by Sole Shared false is = refl
    by Sole Sole false is = refl

-- ---- clashes

pub clash_right : (m : Mode) (h x : Option Mode) → clashes m h ≡ true → clashes m (stronger h x) ≡ true
clash_right m None x e = absurd (false≢true e)
clash_right m (Some Sole) x e = e
clash_right m (Some Shared) None e = e
clash_right m (Some Shared) (Some Shared) e = e
clash_right Sole (Some Shared) (Some Sole) e = refl
clash_right Shared (Some Shared) (Some Sole) e = refl

pub clash_left : (a o h : Option Mode) → mode_clash o h ≡ true → mode_clash (stronger a o) h ≡ true
clash_left None o h e = e
clash_left (Some m) None h e = absurd (false≢true e)
clash_left (Some Shared) (Some n) h e = e
clash_left (Some Sole) (Some n) None e = absurd (none n e)
  where
    none : (n : Mode) → clashes n None ≡ true → ⊥
    none n e = false≢true e
clash_left (Some Sole) (Some n) (Some Sole) e = refl
clash_left (Some Sole) (Some n) (Some Shared) e = refl

pub clash_more : (o r h : Option Mode) → mode_clash o h ≡ true → mode_clash (stronger o r) h ≡ true
clash_more None r h e = absurd (false≢true e)
clash_more (Some Sole) r h e = e
clash_more (Some Shared) None h e = e
clash_more (Some Shared) (Some Shared) h e = e
clash_more (Some Shared) (Some Sole) None e = absurd (false≢true e)
clash_more (Some Shared) (Some Sole) (Some Sole) e = refl
clash_more (Some Shared) (Some Sole) (Some Shared) e = refl

-- ---- options

pub or_assoc : {A : Type 0} (a b c : Option A) → option_or (option_or a b) c ≡ option_or a (option_or b c)
or_assoc None b c = refl
or_assoc (Some a) b c = refl

pub or_none : {A : Type 0} (a : Option A) → option_or a None ≡ a
or_none None = refl
or_none (Some a) = refl
