-- What nobody met as computed, nobody met.
use Rattle.std.proofs.Common.{ℕ, ◌≡◌, ◌≢◌, ◌&&◌, ◌||◌, not, Bool, true, false, nat_eq, nat_lt, if◌then◌else◌, List, [], ◌∷◌, refl, sym, ◌∙◌, ap, subst}
use Rattle.std.specs.List.{list_any}
use Rattle.std.proofs.lemmas.Bool.{and_parts, eq-eqb, eqb-true, lt-ltb, or_parts}
use mathlib.Core.Bool.{or-true}
use Rattle.frang_base.specs.Locks.{has_lock, same_lock}
use Rattle.frang_base.specs.declared.lock.LockId.{LockId}
use Rattle.frang_base.proofs.Basics.{lock_of}
use Rattle.sector_world.specs.Histories.{Commit, Item, is_own}
use Rattle.sector_world.specs.Histories.Item.{Done, Doubt}
use Rattle.sector_world.specs.Seen.{IsLost, UsedNone}
use Rattle.kept_examples.specs.Meeting.{WhomNobodyMeets, meets_some, nobody_meets}

-- a lock of two lists is found
in_both : (l : LockId) (uses alone : List LockId) → has_lock l uses ≡ true → has_lock l alone ≡ true → list_any (λ k. has_lock k uses) alone ≡ true
in_both l uses [] used had = absurd (cc)
in_both l uses (k ∷ alone) used had = go (same_lock k l) refl had (λ h. in_both l uses alone used h)
  where
    go : (b : Bool) → same_lock k l ≡ b → (if b then true else has_lock l alone) ≡ true →
        (has_lock l alone ≡ true → list_any (λ k. has_lock k uses) alone ≡ true) → has_lock k uses || list_any (λ k. has_lock k uses) alone ≡ true
    go true same h rest = ap (λ b. b || list_any (λ k. has_lock k uses) alone) (subst (λ x. has_lock x uses ≡ true) (sym (lock_of k l same)) used)
    go false same h rest = ap (λ b. has_lock k uses || b) (rest h) ∙ or-true (has_lock k uses)

lost_own : (server durable : ℕ) (c : Commit) → IsLost server durable c → is_own server durable c ≡ true
lost_own server durable c lost = ap (λ (b : Bool). if b then nat_lt durable c.op else false) (eq-eqb c.by server lost.of) ∙ lt-ltb durable c.op lost.above

used_none : (server durable : ℕ) (c : Commit) (h : List Item) → meets_some server durable c h ≡ false → UsedNone server durable c h
used_none server durable c [] none l used = tt
used_none server durable c (Done e ∷ older) none l used =
    let p = or_parts (is_own server durable e && list_any (λ k. has_lock k c.uses) e.alone) (meets_some server durable c older) none in (
      (λ lost had.
          let z : true ≡ false =
          sym (ap (λ b. b && list_any (λ k. has_lock k c.uses) e.alone) (lost_own server durable e lost) ∙ in_both l c.uses e.alone used had) ∙ p.0 in
          cc),
      used_none server durable c older p.1 l used,
    )
used_none server durable c (Doubt marked ∷ older) none l used = used_none server durable c older none l used

pub nobody_met : WhomNobodyMeets
nobody_met server durable [] none = tt
nobody_met server durable (Done c ∷ older) none =
    let p = and_parts (nat_eq c.by server || not (meets_some server durable c older)) (nobody_meets server durable older) none in
    ((λ far. used_none server durable c older (go (nat_eq c.by server) refl far p.0)), nobody_met server durable older p.1)
  where
    back : (b : Bool) → not b ≡ true → b ≡ false
    back false e = refl
    back true e = absurd (cc)

    go : (b : Bool) → nat_eq c.by server ≡ b → c.by ≢ server → b || not (meets_some server durable c older) ≡ true → meets_some server durable c older ≡ false
    go true same far e = absurd (far (eqb-true c.by server same))
    go false same far e = back (meets_some server durable c older) e
nobody_met server durable (Doubt marked ∷ older) none = nobody_met server durable older none
