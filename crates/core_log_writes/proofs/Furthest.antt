-- The operations of a server that stand whole in its log as far as a number: the greatest of these, where the log is followed further, and what is counted then.
use Rattle.std.proofs.Common.{◌≡◌, ◌⊎◌, ◌↔◌, ℕ, ◌-◌, ◌<◌, ◌≤◌, ◌&&◌, max, Bool, true, false, IsTrue, if◌then◌else◌, List, [], ◌∷◌, nat_eq, nat_le, refl, sym, ap, ◌∙◌, subst, inl, inr, ⊎_elim, arith, le_refl, le_trans}
use Rattle.std.proofs.lemmas.Bool.{eqb-true, leb-true, and_parts, cases_eq, cases_lt}
use Rattle.std.proofs.lemmas.Bool.Decides.{nat_tests}
use Rattle.frang_base.proofs.Basics.{by_test, put_same}
use Rattle.ring_definitions.specs.Rings.{Ring, last}
use Rattle.core_definitions.specs.Rings.{is_all_reached}
use Rattle.sector_world.specs.Histories.{Commit, Item, settled, Each, OpsRise}
use Rattle.sector_world.specs.Histories.Item.{Done, Doubt}
use Rattle.sector_world.specs.World.{World}
use Rattle.sector_world.specs.Guards.{CanReach, CanAck}
use Rattle.sector_world.specs.Steps.{after}
use Rattle.sector_world.specs.Steps.Event.{Reach, Ack}
use Rattle.sector_world.specs.Kinds.{Good}
use Rattle.sector_world.proofs.HistoryLaws.{each_map}
use Rattle.core_world.specs.Journals.{IsCounted, IsOwn, IsUpTo, sector_log}

-- the greatest operation of the server that is whole up to a number of the log, or k where none is above it
abbrev pub furthest : (ℕ → ℕ) → ℕ → ℕ → ℕ → List Item → ℕ
furthest ends limit a k [] = k
furthest ends limit a k (Done c ∷ h) = if nat_eq c.by a && nat_le (ends c.op) limit then max c.op k else furthest ends limit a k h
furthest ends limit a k (Doubt m ∷ h) = furthest ends limit a k h

most_right : (m n : ℕ) → n ≤ max m n
most_right m n = omega arith

most_under : (m n top : ℕ) → m ≤ top → n ≤ top → max m n ≤ top
most_under m n top a b = omega (arith, a, b)

module _ (ends : ℕ → ℕ) (limit a k : ℕ) where
  pub not_back : (h : List Item) → k ≤ furthest ends limit a k h
  not_back [] = le_refl k
  not_back (Done c ∷ h) = by_test (λ x. k ≤ x) (max c.op k) (furthest ends limit a k h) (nat_eq c.by a && nat_le (ends c.op) limit) (λ e. most_right c.op k) (λ e. not_back h)
  not_back (Doubt m ∷ h) = not_back h

  pub not_past : (top : ℕ) → k ≤ top → (h : List Item) → Each (λ c. c.by ≡ a → c.op ≤ top) h → furthest ends limit a k h ≤ top
  not_past top low [] all = low
  not_past top low (Done c ∷ h) all =
      by_test (λ x. x ≤ top) (max c.op k) (furthest ends limit a k h) (nat_eq c.by a && nat_le (ends c.op) limit)
      (λ e. most_under c.op k top (all.0 (eqb-true c.by a (and_parts (nat_eq c.by a) (nat_le (ends c.op) limit) e).0)) low) (λ e. not_past top low h all.1)
  not_past top low (Doubt m ∷ h) all = not_past top low h all

  before : (c : Commit) (h : List Item) → c.by ≡ a → k < c.op → Each (λ e. e.by ≡ c.by → e.op < c.op) h → furthest ends limit a k h < c.op
  before c h own low all =
      let l : furthest ends limit a k h ≤ c.op - 1 = not_past (c.op - 1) (less k c.op low) h
      (each_map (λ e. e.by ≡ c.by → e.op < c.op) (λ e. e.by ≡ a → e.op ≤ c.op - 1) (λ e f i. less e.op c.op (f (i ∙ sym own))) h all) in
      more (furthest ends limit a k h) c.op k l low
    where
      less : (x y : ℕ) → x < y → x ≤ y - 1
      less x y i = omega (arith, i)

      more : (x y z : ℕ) → x ≤ y - 1 → z < y → x < y
      more x y z i j = omega (arith, i, j)

-- with the log further on, what is whole is what the greatest of these says
pub further : (ends : ℕ → ℕ) (old new a k : ℕ) → ((n m : ℕ) → n ≤ m → ends n ≤ ends m) → old ≤ new → (h : List Item) → OpsRise h → IsUpTo ends old a k h → IsUpTo ends new a (furthest ends new a k h) h
further ends old new a k rises more [] ops up = tt
further ends old new a k rises more (Doubt m ∷ h) ops up = further ends old new a k rises more h ops up
further ends old new a k rises more (Done c ∷ h) ops up = go (cases_eq c.by a) (cases_lt new (ends c.op)) (further ends old new a k rises more h ops.1 up.1)
  where
    test : Bool
    test = nat_eq c.by a && nat_le (ends c.op) new

    Goal : Bool → Type 0
    Goal b = IsUpTo ends new a (if b then max c.op k else furthest ends new a k h) (Done c ∷ h)

    most_left : (m n : ℕ) → m ≤ max m n
    most_left m n = omega arith

    under : (x y : ℕ) → x < y → x ≤ y
    under x y i = omega (arith, i)

    crossed : (x y : ℕ) → x < y → y ≤ x → ⊥
    crossed x y i j = absurd (omega (arith, i, j))

    go : (c.by ≡ a) ⊎ (c.by ≡ a → ⊥) → (new < ends c.op) ⊎ (ends c.op ≤ new) → IsUpTo ends new a (furthest ends new a k h) h → IsUpTo ends new a (furthest ends new a k (Done c ∷ h)) (Done c ∷ h)
    go (inl own) (inr low) rest = subst Goal (sym (whole own low)) (
      (λ e. ((λ i. low), (λ i. most_left c.op k))),
      each_map (λ e. e.by ≡ c.by → e.op < c.op) (λ e. e.by ≡ a → (e.op ≤ max c.op k) ↔ (ends e.op ≤ new))
          (λ e f i. let l : e.op ≤ c.op = under e.op c.op (f (i ∙ sym own)) in ((λ j. le_trans (rises e.op c.op l) low), (λ j. le_trans l (most_left c.op k)))) h ops.0,
    )
      where
        whole : c.by ≡ a → ends c.op ≤ new → test ≡ true
        whole e l = grind (arith, nat_tests, e, l)
    go (inl own) (inl high) rest = subst Goal (sym (torn high)) ((λ e. ((λ i. absurd (past i)), (λ i. absurd (over i)))), rest)
      where
        torn : new < ends c.op → test ≡ false
        torn l = off (nat_eq c.by a) (nat_le (ends c.op) new) (grind (arith, nat_tests, l))
          where
            off : (x y : Bool) → y ≡ false → x && y ≡ false
            off true y e = e
            off false y e = refl

        over : ends c.op ≤ new → ⊥
        over i = crossed new (ends c.op) high i

        low : k < c.op
        low = ⊎_elim (λ i. i) (λ i. absurd (over (le_trans ((up.0 own).0 i) more))) (cases_lt k c.op)

        past : c.op ≤ furthest ends new a k h → ⊥
        past i = crossed (furthest ends new a k h) c.op (before ends new a k c h own low ops.0) i
    go (inr other) d rest = subst Goal (sym (apart other)) ((λ e. absurd (other e)), rest)
      where
        apart : (c.by ≡ a → ⊥) → test ≡ false
        apart n = ap (λ b. b && nat_le (ends c.op) new) (differs n)
          where
            differs : (c.by ≡ a → ⊥) → nat_eq c.by a ≡ false
            differs m = grind (arith, nat_tests, m)

-- an operation of the server is whole exactly where it is counted
pub own_up_to : (ends : ℕ → ℕ) (limit a k n : ℕ) (h : List Item) → IsOwn a n h → IsUpTo ends limit a k h → (n ≤ k) ↔ (ends n ≤ limit)
own_up_to ends limit a k n [] own up = absurd own
own_up_to ends limit a k n (Done c ∷ h) (inl e) up = subst (λ m. (m ≤ k) ↔ (ends m ≤ limit)) e.1 (up.0 e.0)
own_up_to ends limit a k n (Done c ∷ h) (inr own) up = own_up_to ends limit a k n h own up.1
own_up_to ends limit a k n (Doubt m ∷ h) own up = own_up_to ends limit a k n h own up

-- ---- Reach

module _ (w : World) (a : ℕ) (ring : Ring) (end : ℕ) (ends : ℕ → ℕ) (j : IsCounted (sector_log w a) a ring end ends) (g : Good w) (more : ℕ) (raised : end ≤ more) where
  abbrev pub durable_then : ℕ
  durable_then = furthest ends more a (w.durable a) (settled w.history)

  own_below : Each (λ c. c.by ≡ a → c.op ≤ w.last a) (settled w.history)
  own_below = each_map (λ c. c.op ≤ w.last c.by) (λ c. c.by ≡ a → c.op ≤ w.last a) (λ c l e. subst (λ n. c.op ≤ w.last n) e l) (settled w.history) g.logged.below

  pub durable_more : w.durable a ≤ durable_then
  durable_more = not_back ends more a (w.durable a) (settled w.history)

  pub can_reach : w.now ≤ w.expiry a → CanReach w a durable_then
  can_reach lease = record { more = durable_more; there = not_past ends more a (w.durable a) (w.last a) (g.logged.reached a) (settled w.history) own_below; lease = lease }

  pub counted_further : IsCounted (sector_log (after w (Reach a durable_then)) a) a ring more ends
  counted_further = record {
    rises = j.rises;
    durable = subst (λ n. IsUpTo ends more a n (settled w.history)) (sym (put_same w.durable a durable_then)) (further ends end more a (w.durable a) j.rises raised (settled w.history) g.logged.ops j.durable);
    acked = j.acked;
    newest = j.newest;
    ends_at = j.ends_at;
  }

-- ---- Ack

module _ (w : World) (a : ℕ) (ring new : Ring) (end : ℕ) (ends : ℕ → ℕ) (j : IsCounted (sector_log w a) a ring end ends) (ops : OpsRise (settled w.history)) (acks : w.acked a ≤ w.durable a)
    (same : last new ≡ last ring) (passed : ring.reached ≤ new.reached) (within : new.reached ≤ end) where
  abbrev pub acked_then : ℕ
  acked_then = furthest ends new.reached a (w.acked a) (settled w.history)

  pub acked_more : w.acked a ≤ acked_then
  acked_more = not_back ends new.reached a (w.acked a) (settled w.history)

  pub acked_up_to : IsUpTo ends new.reached a acked_then (settled w.history)
  acked_up_to = further ends ring.reached new.reached a (w.acked a) j.rises passed (settled w.history) ops j.acked

  -- what is acknowledged is durable
  known : (x : List Item) → IsUpTo ends end a (w.durable a) x → furthest ends new.reached a (w.acked a) x ≤ w.durable a
  known [] up = acks
  known (Doubt m ∷ x) up = known x up
  known (Done c ∷ x) up =
      by_test (λ n. n ≤ w.durable a) (max c.op (w.acked a)) (furthest ends new.reached a (w.acked a) x) (nat_eq c.by a && nat_le (ends c.op) new.reached)
      (λ e. let p = and_parts (nat_eq c.by a) (nat_le (ends c.op) new.reached) e in
      most_under c.op (w.acked a) (w.durable a) ((up.0 (eqb-true c.by a p.0)).1 (le_trans (leb-true (ends c.op) new.reached p.1) within)) acks)
      (λ e. known x up.1)

  pub can_ack : CanAck w a acked_then
  can_ack = record { there = known (settled w.history) j.durable }

  pub counted_known : IsCounted (sector_log (after w (Ack a acked_then)) a) a new end ends
  counted_known = record {
    rises = j.rises;
    durable = j.durable;
    acked = subst (λ n. IsUpTo ends new.reached a n (settled w.history)) (sym (put_same w.acked a acked_then)) acked_up_to;
    newest = subst (λ n. (w.last a ≤ n) ⊎ IsOwn a (w.last a) (settled w.history)) (sym (put_same w.acked a acked_then)) (⊎_elim (λ i. inl (le_trans i acked_more)) (λ i. inr i) j.newest);
    ends_at = j.ends_at ∙ sym same;
  }

  -- where the whole log is acknowledged, so are all operations
  pub all_known : IsTrue (is_all_reached new) → w.last a ≤ acked_then
  all_known all =
      ⊎_elim (λ i. le_trans i acked_more)
      (λ own. (own_up_to ends new.reached a acked_then (w.last a) (settled w.history) own acked_up_to).1
      (subst (λ n. n ≤ new.reached) (sym (j.ends_at ∙ sym same)) (at_most (last new) new.reached (sym (eqb-true new.reached (last new) all)))))
      j.newest
    where
      at_most : (x y : ℕ) → x ≡ y → x ≤ y
      at_most x y e = omega (arith, e)
