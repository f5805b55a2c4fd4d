-- What is asked of a history goes by its operations: marks of doubt don't matter.
use Rattle.std.proofs.Common.{ℕ, ◌≡◌, ◌≤◌, ◌<◌, Bool, true, false, nat_eq, nat_le, if◌then◌else◌, Some, List, [], ◌∷◌, refl, sym, ◌∙◌, ap, subst}
use Rattle.std.proofs.Math.Path.{fun_ext}
use Rattle.std.proofs.lemmas.Bool.{eqb-true, le-leb}
use Rattle.frang_base.specs.Functions.{keep_if}
use Rattle.sector_bytes.specs.Blocks.{Block}
use Rattle.sector_bytes.specs.Replays.{change_at, forced}
use Rattle.sector_world.specs.Histories.{Commit, Each, Item, OpsRise, kept, logical, survives}
use Rattle.sector_world.specs.Histories.Item.{Done, Doubt}
use Rattle.sector_world.specs.Plans.{Legal, Plan, outcome_of}
use Rattle.sector_world.specs.Trees.{Distinct}

-- the operations alone
abbrev pub bare : List Item → List Item
bare [] = []
bare (Done c ∷ h) = Done c ∷ bare h
bare (Doubt marked ∷ h) = bare h

module _ (P : Commit → Type 0) where
  pub each_to : (h : List Item) → Each P h → Each P (bare h)
  each_to [] e = tt
  each_to (Done c ∷ h) e = (e.0, each_to h e.1)
  each_to (Doubt marked ∷ h) e = each_to h e

  pub each_from : (h : List Item) → Each P (bare h) → Each P h
  each_from [] e = tt
  each_from (Done c ∷ h) e = (e.0, each_from h e.1)
  each_from (Doubt marked ∷ h) e = each_from h e

-- ---- legality

logical_bare : (opening : ℕ → Block) (h : List Item) → logical opening h ≡ logical opening (bare h)
logical_bare opening [] = refl
logical_bare opening (Done c ∷ h) = let rest = logical_bare opening h in fun_ext (λ s. ap (λ (disk : ℕ → Block). forced (change_at c.changes s) (disk s)) rest)
logical_bare opening (Doubt marked ∷ h) = let rest = logical_bare opening h in fun_ext (λ s. ap (λ (disk : ℕ → Block). disk s) rest)

module _ (plan : Plan) (opening : ℕ → Block) where
  pub legal_to : (h : List Item) → Legal plan opening h → Legal plan opening (bare h)
  legal_to [] l = tt
  legal_to (Done c ∷ h) l = (subst (λ (disk : ℕ → Block). plan c.hint c.op c.asked disk ≡ Some (outcome_of c)) (logical_bare opening h) l.0, legal_to h l.1)
  legal_to (Doubt marked ∷ h) l = legal_to h l

  pub legal_from : (h : List Item) → Legal plan opening (bare h) → Legal plan opening h
  legal_from [] l = tt
  legal_from (Done c ∷ h) l = (subst (λ (disk : ℕ → Block). plan c.hint c.op c.asked disk ≡ Some (outcome_of c)) (sym (logical_bare opening h)) l.0, legal_from h l.1)
  legal_from (Doubt marked ∷ h) l = legal_from h l

-- ---- numbers

module _ {Tree : Type 0} (fresh : ℕ → Tree → Type 0) (first : Tree) where
  pub distinct_to : (h : List Item) → Distinct fresh first h → Distinct fresh first (bare h)
  distinct_to [] d = tt
  distinct_to (Done c ∷ h) d = (d.0, each_to _ h d.1, distinct_to h d.2)
  distinct_to (Doubt marked ∷ h) d = distinct_to h d

  pub distinct_from : (h : List Item) → Distinct fresh first (bare h) → Distinct fresh first h
  distinct_from [] d = tt
  distinct_from (Done c ∷ h) d = (d.0, each_from _ h d.1, distinct_from h d.2)
  distinct_from (Doubt marked ∷ h) d = distinct_from h d

pub rise_to : (h : List Item) → OpsRise h → OpsRise (bare h)
rise_to [] r = tt
rise_to (Done c ∷ h) r = (each_to (λ e. e.by ≡ c.by → e.op < c.op) h r.0, rise_to h r.1)
rise_to (Doubt marked ∷ h) r = rise_to h r

pub rise_from : (h : List Item) → OpsRise (bare h) → OpsRise h
rise_from [] r = tt
rise_from (Done c ∷ h) r = (each_from (λ e. e.by ≡ c.by → e.op < c.op) h r.0, rise_from h r.1)
rise_from (Doubt marked ∷ h) r = rise_from h r

-- ---- what is kept

pub bare_kept : (keep : Commit → Bool) (h : List Item) → bare (kept keep h) ≡ kept keep (bare h)
bare_kept keep [] = refl
bare_kept keep (Done c ∷ h) = go (keep c) (bare_kept keep h)
  where
    go : (b : Bool) → bare (kept keep h) ≡ kept keep (bare h) → bare (keep_if b (Done c) (kept keep h)) ≡ keep_if b (Done c) (kept keep (bare h))
    go true same = ap (λ l. Done c ∷ l) same
    go false same = same
bare_kept keep (Doubt marked ∷ h) = bare_kept keep h

-- where none of a server's is above a number, all stays
pub survives_low : (server number : ℕ) (c : Commit) → (c.by ≡ server → c.op ≤ number) → survives server number c ≡ true
survives_low server number c low = go (nat_eq c.by server) refl
  where
    go : (b : Bool) → nat_eq c.by server ≡ b → (if b then nat_le c.op number else true) ≡ true
    go true same = le-leb c.op number (low (eqb-true c.by server same))
    go false same = refl

pub all_kept : (server number : ℕ) (h : List Item) → Each (λ c. c.by ≡ server → c.op ≤ number) h → kept (survives server number) h ≡ h
all_kept server number [] low = refl
all_kept server number (Done c ∷ h) low =
    ap (λ (b : Bool). keep_if b (Done c) (kept (survives server number) h)) (survives_low server number c low.0) ∙ ap (λ l. Done c ∷ l) (all_kept server number h low.1)
all_kept server number (Doubt marked ∷ h) low = ap (λ l. Doubt marked ∷ l) (all_kept server number h low)
