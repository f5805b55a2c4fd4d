-- The disk before an operation: what was shown or known where it wrote, and what it has elsewhere.
use Rattle.std.proofs.Common.{ℕ, ◌≡◌, Bool, true, false, ◌||◌, if◌then◌else◌, Option, Some, None, List, ◌∷◌, is_some, refl, sym, ◌∙◌, ap}
use Rattle.std.specs.Prelude.{IsTrue, IsSome}
use Rattle.std.proofs.lemmas.Bool.{or_parts}
use Rattle.sector_bytes.specs.Blocks.{Block}
use Rattle.sector_world.specs.HistoryBytes.{Agree, filled, is_free, is_free_by, turned, value}
use Rattle.sector_world.specs.Histories.{Commit, Fill, Item, is_logged, reaches}
use Rattle.sector_world.specs.Histories.Fill.{Written}
use Rattle.sector_world.specs.Histories.Item.{Done}
use Rattle.sector_world.specs.Plans.{IsByPlan}
use Rattle.byte_trees.specs.Before.{HasKnown, WasBefore, KnownStepsBack}

or_else : Option Block → Block → Block
or_else None other = other
or_else (Some block) other = block

-- what was there, by whether it was written, what was shown, what was known, and what is there now
was : Bool → Option Block → Option Block → Block → Block
was true shown known now = or_else shown (or_else known now)
was false shown known now = now

free_same : (o : Option Fill) (older : Bool) → is_some o ≡ false → is_free_by o older ≡ older
free_same None older e = refl
free_same (Some fill) older e = absurd (cc)

value_same : (b : Bool) (o : Option Fill) (t old : Option Block) (u : Block) → is_some o ≡ false → old ≡ Some u → (if b then filled o (turned t old) else old) ≡ Some u
value_same b (Some fill) t old u e is = absurd (cc)
value_same true None None old u e is = is
value_same true None (Some v) old u e is = ap (turned (Some v)) is
value_same false None t old u e is = is

-- what was shown where nothing is written is known then
shown_then : (b : Bool) (o : Option Fill) (t old : Option Block) (v : Block) → b ≡ true → is_some o ≡ false → t ≡ Some v → ((u : Block) → old ≡ Some u → u ≡ v) → (if b then filled o (turned t old) else old) ≡ Some v
shown_then true (Some fill) t old v r e is agree = absurd (cc)
shown_then true None t None v r e is agree = ap (λ z. turned z None) is
shown_then true None t (Some u) v r e is agree = ap (λ z. turned z (Some u)) is ∙ ap (λ z. Some z) (agree u refl)
shown_then false o t old v r e is agree = absurd (cc)

written_then : (b : Bool) (o : Option Fill) (mid old : Option Block) (v : Block) → b ≡ true → o ≡ Some (Written v) → (if b then filled o mid else old) ≡ Some v
written_then true o mid old v r e = ap (λ z. filled z mid) e
written_then false o mid old v r e = absurd (cc)

has_some : (o : Option Block) (v : Block) → o ≡ Some v → IsSome o
has_some None v e = absurd (cc)
has_some (Some w) v e = refl

module _ (logged : ℕ → Bool) (first : ℕ → Option Block) (c : Commit) (h : List Item) (disk : ℕ → Block) (by_plan : IsByPlan c) (agree : Agree first (Done c ∷ h)) (has : HasKnown logged first (Done c ∷ h) disk) where
  changed : ℕ → Bool
  changed s = is_some (c.writes s) || c.claims s

  before : ℕ → Block
  before s = was (changed s) (c.shown s) (value first h s) (disk s)

  reached : (s : ℕ) (v : Block) → c.shown s ≡ Some v → IsTrue (reaches c s)
  reached s v e = by_plan.noticed s (has_some (c.shown s) v e)

  known : HasKnown logged first h before
  unfolding before was or_else changed
  known s plain u free is = go (changed s) refl (c.shown s) refl
    where
      go : (b : Bool) → is_some (c.writes s) || c.claims s ≡ b → (o : Option Block) → c.shown s ≡ o → u ≡ was b o (value first h s) (disk s)
      go true e (Some v) i = agree.0 s u v (reached s v i) i free is
      go true e None i = sym (ap (λ z. or_else z (disk s)) is)
      go false e o i =
          let none = or_parts (is_some (c.writes s)) (c.claims s) e in
          has s (ap (λ (z : Bool). if z then true else is_logged logged h s) none.1 ∙ plain) u (free_same (c.writes s) (is_free first h s) none.0 ∙ free)
          (value_same (reaches c s) (c.writes s) (c.shown s) (value first h s) u none.0 is)

  shown : (s : ℕ) (v : Block) → is_logged logged h s ≡ false → is_free first h s ≡ false → c.shown s ≡ Some v → is_logged logged (Done c ∷ h) s ≡ false → before s ≡ v
  unfolding before was or_else changed
  shown s v plain free i now = go (changed s) refl
    where
      go : (b : Bool) → is_some (c.writes s) || c.claims s ≡ b → was b (c.shown s) (value first h s) (disk s) ≡ v
      go true e = ap (λ o. or_else o (or_else (value first h s) (disk s))) i
      go false e =
          let none = or_parts (is_some (c.writes s)) (c.claims s) e in
          sym (has s now v (free_same (c.writes s) (is_free first h s) none.0 ∙ free)
          (shown_then (reaches c s) (c.writes s) (c.shown s) (value first h s) v (reached s v i) none.0 i (λ u is. agree.0 s u v (reached s v i) i free is)))

  left : (s : ℕ) → is_some (c.writes s) || c.claims s ≡ false → before s ≡ disk s
  unfolding before was changed
  left s e = ap (λ b. was b (c.shown s) (value first h s) (disk s)) e

  made : (s : ℕ) (v : Block) → is_logged logged (Done c ∷ h) s ≡ false → c.writes s ≡ Some (Written v) → disk s ≡ v
  made s v plain e =
      sym (has s plain v (ap (λ o. is_free_by o (is_free first h s)) e)
      (written_then (reaches c s) (c.writes s) (turned (c.shown s) (value first h s)) (value first h s) v (ap (λ (o : Option Fill). if is_some o then true else c.sees s) e) e))

  pub was_before : WasBefore logged first c h disk
  was_before = record { before = before; known = known; shown = shown; left = left; made = made }

pub steps_back : KnownStepsBack
steps_back logged first c h disk by_plan agree has = was_before logged first c h disk by_plan agree has
