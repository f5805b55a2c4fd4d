-- The records of a server's own operations above a number: they fall, the newest first, each is above it, and each operation of it has its own.
use Rattle.std.proofs.Common.{◌≡◌, ◌<◌, ℕ, Bool, true, false, if◌then◌else◌, List, [], ◌∷◌, nat_eq, nat_lt, refl, sym, ap, ◌∙◌, subst, inl, inr, arith}
use Rattle.std.proofs.lemmas.Bool.{eq-eqb, eqb-true, lt-ltb}
use Rattle.std.proofs.lemmas.Bool.Decides.{nat_tests}
use Rattle.frang_base.specs.Functions.{keep_if}
use Rattle.frang_base.specs.declared.change.Redo.{Redo}
use Rattle.disk_definitions.proofs.Listed.{Among}
use Rattle.sector_world.specs.Histories.{Commit, Each, Item, OpsRise, is_own, own, redo_of}
use Rattle.sector_world.specs.Histories.Item.{Done, Doubt}
use Rattle.sector_world.proofs.HistoryLaws.{each_map}
use Rattle.core_commit_steps.proofs.GivingUp.{OpsDown}

module _ (a floor : ℕ) where
  by_of : (c : Commit) → is_own a floor c ≡ true → c.by ≡ a
  by_of c e = eqb-true c.by a (first (nat_eq c.by a) e)
    where
      first : (x : Bool) → (if x then nat_lt floor c.op else false) ≡ true → x ≡ true
      first true i = refl
      first false i = i

  over_of : (c : Commit) → is_own a floor c ≡ true → floor < c.op
  over_of c e = grind (arith, nat_tests, second (nat_eq c.by a) e)
    where
      second : (x : Bool) → (if x then nat_lt floor c.op else false) ≡ true → nat_lt floor c.op ≡ true
      second true i = i
      second false i = absurd (cc)

  own_is : (c : Commit) → c.by ≡ a → floor < c.op → is_own a floor c ≡ true
  own_is c by over = ap (λ (x : Bool). if x then nat_lt floor c.op else false) (eq-eqb c.by a by) ∙ lt-ltb floor c.op over

  -- what holds of each own operation above the number holds of each record
  pub own_each : (P : ℕ → Type 0) (h : List Item) → Each (λ c. c.by ≡ a → floor < c.op → P c.op) h → (r : Redo) → Among r (own a floor h) → P r.op.0
  own_each P [] all r i = absurd i
  own_each P (Doubt m ∷ h) all r i = own_each P h all r i
  own_each P (Done c ∷ h) all r i = go (is_own a floor c) refl i (own_each P h all.1 r)
    where
      go : (b : Bool) → is_own a floor c ≡ b → Among r (keep_if b (redo_of c) (own a floor h)) → (Among r (own a floor h) → P r.op.0) → P r.op.0
      go true e (inl same) rest = subst (λ (q : Redo). P q.op.0) (sym same) (all.0 (by_of c e) (over_of c e))
      go true e (inr j) rest = rest j
      go false e j rest = rest j

  -- each is above it
  all_over : (h : List Item) → Each (λ c. c.by ≡ a → floor < c.op → floor < c.op) h
  all_over [] = tt
  all_over (Doubt m ∷ h) = all_over h
  all_over (Done c ∷ h) = ((λ by over. over), all_over h)

  pub own_over : (h : List Item) (r : Redo) → Among r (own a floor h) → floor < r.op.0
  own_over h r i = own_each (λ n. floor < n) h (all_over h) r i

  pub own_down : (h : List Item) → OpsRise h → OpsDown (own a floor h)
  own_down [] rise = tt
  own_down (Doubt m ∷ h) rise = own_down h rise
  own_down (Done c ∷ h) rise = go (is_own a floor c) refl (own_down h rise.1)
    where
      go : (b : Bool) → is_own a floor c ≡ b → OpsDown (own a floor h) → OpsDown (keep_if b (redo_of c) (own a floor h))
      go true e rest = (
        (λ q i. own_each (λ n. n < c.op) h (each_map (λ x. x.by ≡ c.by → x.op < c.op) (λ x. x.by ≡ a → floor < x.op → x.op < c.op) (λ x f by over. f (by ∙ sym (by_of c e))) h rise.0) q i),
        rest,
      )
      go false e rest = rest

  -- each operation has its record there
  pub own_has : (h : List Item) → Each (λ c. c.by ≡ a → floor < c.op → Among (redo_of c) (own a floor h)) h
  own_has [] = tt
  own_has (Doubt m ∷ h) = own_has h
  own_has (Done c ∷ h) = (
    (λ by over. subst (λ b. Among (redo_of c) (keep_if b (redo_of c) (own a floor h))) (sym (own_is c by over)) (inl refl)),
    each_map (λ x. x.by ≡ a → floor < x.op → Among (redo_of x) (own a floor h)) (λ x. x.by ≡ a → floor < x.op → Among (redo_of x) (keep_if (is_own a floor c) (redo_of c) (own a floor h)))
        (λ x f by over. more (is_own a floor c) (redo_of x) (f by over)) h (own_has h),
  )
    where
      more : (b : Bool) (r : Redo) → Among r (own a floor h) → Among r (keep_if b (redo_of c) (own a floor h))
      more true r i = inr i
      more false r i = i
