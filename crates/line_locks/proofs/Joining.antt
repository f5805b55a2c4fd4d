-- Sets of locks grow alike by locks that are alike: by the mode that some locks give a lock beside the one that it has.
use Rattle.std.proofs.Common.{◌≡◌, ℕ, ◌≤◌, ◌||◌, not, inl, inr, ⊎_elim, Bool, true, false, cond, if◌then◌else◌, Option, Some, None, List, [], ◌∷◌, refl, sym, ap, ap₂, ◌∙◌, subst, arith}
use Rattle.std.proofs.lemmas.Map.Views.{Contains-from_lookup}
use Rattle.std.specs.BTreeMap.{insert_entry, is_at}
use Rattle.std.specs.Cmp.{IsTotalOrder}
use Rattle.std.specs.List.{AllByRecursion, Contains, list_any}
use Rattle.std.specs.List.Sorted.{IsStrictlySortedBy}
use Rattle.std.specs.Map.{keys_of, lookup}
use Rattle.std.specs.Ordering.{is_eq, match_ordering, ordering_reverse}
use Rattle.std.specs.declared.cmp.Ordering.{Ordering}
use Rattle.std.specs.declared.cmp.Ordering.TheVariants.{Less, Equal, Greater}
use Rattle.std.proofs.lemmas.Bool.{or_right, or_left}
use Rattle.frang_base.specs.declared.lock.LockId.{LockId}
use Rattle.frang_base.specs.declared.lock.Mode.{Mode}
use Rattle.frang_base.specs.declared.lock.Mode.TheVariants.{Shared, Sole}
use Rattle.frang_base.proofs.Tests.{same_tests}
use Rattle.tree_definitions.proofs.Pairs.{IsExact, below_all, found_other, found_put, none_below, self, sorted_put, tie}
use Rattle.lock_definitions.specs.Calls.{serves}
use Rattle.lock_definitions.specs.Order.{is_lock, lock_cmp}
use Rattle.lock_definitions.proofs.LockOrder.{found_lock, lock_total, lock_itself}
use Rattle.disk_definitions.specs.Plans.{Lock}
use Rattle.plan_laws.proofs.Covering.{has_cases, has_head, has_more, not_in_none, all_has, all_from}
use Rattle.plan_laws.specs.Locks.{IsSole}
use Rattle.plan_laws.specs.Covers.{IsHeld}
use Rattle.set_definitions.specs.Sets.{LockSet, joined, joined_all, lacks, mode_in, with_mode}
use Rattle.line_locks.specs.Same.{AlikeLocksJoinAlike, AlikeLocksLackAlike, AreAlike, AreWithin, Have, HaveMode, SetsAreAlike}
use Rattle.line_locks.proofs.Alike.{have_it}

-- ---- the order of locks

pub lock_exact : IsExact lock_cmp
lock_exact = record { total = lock_total; ties = λ x y e. sym (found_lock x y (ap is_eq e)); own = lock_itself }

-- ---- modes

abbrev rank : Option Mode → ℕ
rank None = 0
rank (Some Shared) = 1
rank (Some Sole) = 2

rank_exact : (a b : Option Mode) → rank a ≡ rank b → a ≡ b
rank_exact None None e = refl
rank_exact None (Some Shared) e = absurd (omega arith)
rank_exact None (Some Sole) e = absurd (omega arith)
rank_exact (Some Shared) None e = absurd (omega arith)
rank_exact (Some Shared) (Some Shared) e = refl
rank_exact (Some Shared) (Some Sole) e = absurd (omega arith)
rank_exact (Some Sole) None e = absurd (omega arith)
rank_exact (Some Sole) (Some Shared) e = absurd (omega arith)
rank_exact (Some Sole) (Some Sole) e = refl

-- both modes are needed: the one that it has and this one, and no more
up_old : (o : Option Mode) (m : Mode) → rank o ≤ rank (Some (with_mode o m))
up_old None m = omega arith
up_old (Some Shared) Shared = omega arith
up_old (Some Shared) Sole = omega arith
up_old (Some Sole) m = omega arith

up_new : (o : Option Mode) (m : Mode) → rank (Some m) ≤ rank (Some (with_mode o m))
up_new None m = omega arith
up_new (Some Shared) m = omega arith
up_new (Some Sole) Shared = omega arith
up_new (Some Sole) Sole = omega arith

up_most : (o : Option Mode) (m : Mode) (b : ℕ) → rank o ≤ b → rank (Some m) ≤ b → rank (Some (with_mode o m)) ≤ b
up_most None m b l k = k
up_most (Some Shared) m b l k = k
up_most (Some Sole) m b l k = l

-- ---- the mode that locks give a lock beside the one that it has

abbrev step : Option Mode → Lock → LockId → Option Mode
step o x l = if is_lock l x.0 then Some (with_mode o x.1) else o

abbrev best : Option Mode → List Lock → LockId → Option Mode
best o [] l = o
best o (x ∷ locks) l = best (step o x l) locks l

joined_one : (set : LockSet) (x : Lock) (l : LockId) → mode_in (joined set x) l ≡ step (mode_in set l) x l
joined_one set x l = go (is_lock l x.0) refl
  where
    v : Mode
    v = with_mode (mode_in set x.0) x.1

    go : (b : Bool) → is_lock l x.0 ≡ b → mode_in (joined set x) l ≡ (if b then Some (with_mode (mode_in set l) x.1) else mode_in set l)
    go true e =
        let q : l ≡ x.0 = tie lock_cmp lock_exact l x.0 e in
        ap (mode_in (joined set x)) q ∙ found_put lock_cmp lock_exact set x.0 v ∙ ap (λ k. Some (with_mode (mode_in set k) x.1)) (sym q)
    go false e = found_other lock_cmp lock_exact set x.0 v l (λ q. (let z : is_lock l x.0 ≡ true = ap (is_lock l) (sym q) ∙ self lock_cmp lock_exact l in cc))

joined_mode : (locks : List Lock) (set : LockSet) (l : LockId) → mode_in (joined_all set locks) l ≡ best (mode_in set l) locks l
joined_mode [] set l = refl
joined_mode (x ∷ locks) set l = joined_mode locks (joined set x) l ∙ ap (λ o. best o locks l) (joined_one set x l)

step_up : (o : Option Mode) (x : Lock) (l : LockId) → rank o ≤ rank (step o x l)
step_up o x l = go (is_lock l x.0)
  where
    go : (b : Bool) → rank o ≤ rank (if b then Some (with_mode o x.1) else o)
    go true = up_old o x.1
    go false = omega arith

best_up : (o : Option Mode) (locks : List Lock) (l : LockId) → rank o ≤ rank (best o locks l)
best_up o [] l = omega arith
best_up o (x ∷ locks) l = let a = step_up o x l in let b = best_up (step o x l) locks l in omega arith

best_has : (o : Option Mode) (locks : List Lock) (l : LockId) (m : Mode) → Contains locks (l, m) → rank (Some m) ≤ rank (best o locks l)
best_has o [] l m c = absurd (not_in_none (l, m) c)
best_has o (x ∷ locks) l m c = ⊎_elim here (λ d. best_has (step o x l) locks l m d) (has_cases x (l, m) locks c)
  where
    in_step : rank (Some m) ≤ rank (step o (l, m) l)
    in_step = subst (λ b. rank (Some m) ≤ rank (if b then Some (with_mode o m) else o)) (sym (self lock_cmp lock_exact l)) (up_new o m)

    here : x ≡ (l, m) → rank (Some m) ≤ rank (best o (x ∷ locks) l)
    here q = let a : rank (Some m) ≤ rank (step o x l) = subst (λ z. rank (Some m) ≤ rank (step o z l)) (sym q) in_step in let b = best_up (step o x l) locks l in omega arith

best_most : (o : Option Mode) (locks : List Lock) (l : LockId) (b : ℕ) → rank o ≤ b → ((m : Mode) → Contains locks (l, m) → rank (Some m) ≤ b) → rank (best o locks l) ≤ b
best_most o [] l b a f = a
best_most o (x ∷ locks) l b a f = best_most (step o x l) locks l b (go (is_lock l x.0) refl) (λ m c. f m (has_more x (l, m) locks c))
  where
    go : (t : Bool) → is_lock l x.0 ≡ t → rank (if t then Some (with_mode o x.1) else o) ≤ b
    go true e = up_most o x.1 b a (f x.1 (subst (λ k. Contains (x ∷ locks) (k, x.1)) (sym (tie lock_cmp lock_exact l x.0 e)) (has_head x locks)))
    go false e = a

-- what some locks have they give
have_rank : (o : Option Mode) (others : List Lock) (l : LockId) (m : Mode) → HaveMode others l m → rank (Some m) ≤ rank (best o others l)
have_rank o others l Shared h = let a = best_has o others l h.0 h.1 in let b = least h.0 in omega arith
  where
    least : (m : Mode) → 1 ≤ rank (Some m)
    least Shared = omega arith
    least Sole = omega arith
have_rank o others l Sole h = best_has o others l Sole h

within_rank : (o : Option Mode) (locks others : List Lock) (l : LockId) → AreWithin locks others → rank (best o locks l) ≤ rank (best o others l)
within_rank o locks others l w = best_most o locks l (rank (best o others l)) (best_up o others l) (λ m c. have_rank o others l m (all_has (Have others) locks w (l, m) c))

best_same : (o : Option Mode) (locks others : List Lock) (l : LockId) → AreAlike locks others → best o locks l ≡ best o others l
best_same o locks others l a = let p = within_rank o locks others l a.there in let q = within_rank o others locks l a.back in rank_exact (best o locks l) (best o others l) (omega arith)

-- ---- lists in order with the same mode of each lock are equal

found_head : (e : Lock) (es : LockSet) → mode_in (e ∷ es) e.0 ≡ Some e.1
found_head e es = rw (self lock_cmp lock_exact e.0) refl

missed : (k : LockId) (e : Lock) (es : LockSet) → IsStrictlySortedBy lock_cmp (keys_of (e ∷ es)) → lock_cmp k e.0 ≡ Less → mode_in (e ∷ es) k ≡ None
unfolding IsStrictlySortedBy
missed k e es s i = none_below lock_cmp lock_exact (e ∷ es) k (i, below_all lock_cmp lock_exact k e.0 (keys_of es) i s.0)

tails_same : (e : Lock) (es fs : LockSet) → IsStrictlySortedBy lock_cmp (keys_of (e ∷ es)) → IsStrictlySortedBy lock_cmp (keys_of (e ∷ fs)) → ((l : LockId) → mode_in (e ∷ es) l ≡ mode_in (e ∷ fs) l) → (l : LockId) → mode_in es l ≡ mode_in fs l
unfolding IsStrictlySortedBy
tails_same e es fs s t same l = go (is_lock l e.0) refl
  where
    go : (c : Bool) → is_lock l e.0 ≡ c → mode_in es l ≡ mode_in fs l
    go true i =
        let j : l ≡ e.0 = tie lock_cmp lock_exact l e.0 i in
        rw j (none_below lock_cmp lock_exact es e.0 s.0 ∙ sym (none_below lock_cmp lock_exact fs e.0 t.0))
    go false i = sym (ap (λ c. cond c (Some e.1) (mode_in es l)) i) ∙ same l ∙ ap (λ c. cond c (Some e.1) (mode_in fs l)) i

same_list : (es fs : LockSet) → IsStrictlySortedBy lock_cmp (keys_of es) → IsStrictlySortedBy lock_cmp (keys_of fs) → ((l : LockId) → mode_in es l ≡ mode_in fs l) → es ≡ fs
unfolding IsStrictlySortedBy
same_list [] [] s t same = refl
same_list [] (f ∷ fs) s t same = absurd (let e : None ≡ Some f.1 = same f.0 ∙ found_head f fs in cc)
same_list (e ∷ es) [] s t same = absurd (let i : Some e.1 ≡ None = sym (found_head e es) ∙ same e.0 in cc)
same_list (e ∷ es) (f ∷ fs) s t same = go (lock_cmp e.0 f.0) refl (λ u. same_list es fs s.1 t.1 u)
  where
    go : (o : Ordering) → lock_cmp e.0 f.0 ≡ o → (((l : LockId) → mode_in es l ≡ mode_in fs l) → es ≡ fs) → e ∷ es ≡ f ∷ fs
    go Less i later = absurd (let z : Some e.1 ≡ None = sym (found_head e es) ∙ same e.0 ∙ missed e.0 f fs t i in cc)
    go Greater i later = absurd (let z : None ≡ Some f.1 = sym (missed f.0 e es s (lock_total.antisymm f.0 e.0 ∙ ap ordering_reverse i)) ∙ same f.0 ∙ found_head f fs in cc)
    go Equal i later =
        let k : e.0 ≡ f.0 = lock_exact.ties e.0 f.0 i in
        let v : e.1 ≡ f.1 = (let z : Some e.1 ≡ Some f.1 = sym (found_head e es) ∙ same e.0 ∙ ap (mode_in (f ∷ fs)) k ∙ found_head f fs in cc) in
        let p : e ≡ f = ap₂ (λ a b. (a, b)) k v in
        let same_e = subst (λ h. (l : LockId) → mode_in (e ∷ es) l ≡ mode_in (h ∷ fs) l) (sym p) same in
        let t_e = subst (λ h. IsStrictlySortedBy lock_cmp (keys_of (h ∷ fs))) (sym p) t in
        ap₂ (λ h l. h ∷ l) p (later (tails_same e es fs s t_e same_e))

pub joined_sorted : (locks : List Lock) (set : LockSet) → IsStrictlySortedBy lock_cmp (keys_of set) → IsStrictlySortedBy lock_cmp (keys_of (joined_all set locks))
joined_sorted [] set s = s
joined_sorted (x ∷ locks) set s = joined_sorted locks (joined set x) (sorted_put lock_cmp lock_exact set x.0 (with_mode (mode_in set x.0) x.1) s)

pub join_alike : AlikeLocksJoinAlike
join_alike locks others set a s =
    same_list (joined_all set locks) (joined_all set others) (joined_sorted locks set s) (joined_sorted others set s)
    (λ l. joined_mode locks set l ∙ best_same (mode_in set l) locks others l a ∙ sym (joined_mode others set l))

-- ---- what a set lacks

any_has : (p : Lock → Bool) (xs : List Lock) (x : Lock) → Contains xs x → p x ≡ true → list_any p xs ≡ true
any_has p [] x c e = absurd (not_in_none x c)
any_has p (y ∷ xs) x c e = ⊎_elim (λ q. or_left (p y) (list_any p xs) (ap p q ∙ e)) (λ d. or_right (p y) (list_any p xs) (any_has p xs x d e)) (has_cases y x xs c)

-- a set that lacks a lock shared lacks it in each mode
lacks_more : (o : Option Mode) (m : Mode) → not (serves o Shared) ≡ true → not (serves o m) ≡ true
lacks_more None m e = refl
lacks_more (Some Shared) m e = absurd (cc)
lacks_more (Some Sole) m e = absurd (cc)

lacks_one : (set : LockSet) (others : List Lock) (l : LockId) (m : Mode) → HaveMode others l m → not (serves (mode_in set l) m) ≡ true → list_any (lacks set) others ≡ true
lacks_one set others l Shared h e = any_has (lacks set) others (l, h.0) h.1 (lacks_more (mode_in set l) h.0 e)
lacks_one set others l Sole h e = any_has (lacks set) others (l, Sole) h e

lacks_all : (set : LockSet) (locks others : List Lock) → AreWithin locks others → list_any (lacks set) locks ≡ true → list_any (lacks set) others ≡ true
lacks_all set [] others w e = absurd (cc)
lacks_all set (x ∷ locks) others w e = go (lacks set x) refl (lacks_all set locks others w.1) e
  where
    go : (b : Bool) → lacks set x ≡ b → (list_any (lacks set) locks ≡ true → list_any (lacks set) others ≡ true) → (b || list_any (lacks set) locks) ≡ true → list_any (lacks set) others ≡ true
    go true q rest e = lacks_one set others x.0 x.1 w.0 q
    go false q rest e = rest e

pub lack_alike : AlikeLocksLackAlike
lack_alike locks others set a = same_tests (list_any (lacks set) locks) (list_any (lacks set) others) (lacks_all set locks others a.there) (lacks_all set others locks a.back)

-- ---- the set of some locks

-- what holds of each entry and of the new one
put_all : (P : Lock → Type 0) (set : LockSet) (k : LockId) (m : Mode) → AllByRecursion P set → P (k, m) → AllByRecursion P (insert_entry lock_cmp set k m)
put_all P [] k m a p = (p, tt)
put_all P (e ∷ es) k m a p = go (lock_cmp k e.0) refl (put_all P es k m a.1 p)
  where
    go : (o : Ordering) → lock_cmp k e.0 ≡ o → AllByRecursion P (insert_entry lock_cmp es k m) → AllByRecursion P (match_ordering o ((k, m) ∷ e ∷ es) ((e.0, m) ∷ es) (e ∷ insert_entry lock_cmp es k m))
    go Less i rest = (p, a)
    go Equal i rest = (subst (λ z. P (z, m)) (lock_exact.ties k e.0 i) p, a.1)
    go Greater i rest = (a.0, rest)

set_within : (base locks : List Lock) (set : LockSet) → AreWithin set base → AreWithin locks base → AreWithin (joined_all set locks) base
set_within base [] set a w = a
set_within base (x ∷ locks) set a w = set_within base locks (joined set x) (put_all (Have base) set x.0 (with_mode (mode_in set x.0) x.1) a (by_mode (mode_in set x.0) refl)) w.1
  where
    by_mode : (o : Option Mode) → mode_in set x.0 ≡ o → HaveMode base x.0 (with_mode o x.1)
    by_mode None e = w.0
    by_mode (Some Shared) e = w.0
    by_mode (Some Sole) e = all_has (Have base) set a (x.0, Sole) (Contains-from_lookup (λ y z q. tie lock_cmp lock_exact y z q) x.0 Sole set e)

set_has : (locks : List Lock) (x : Lock) → Contains locks x → Have (joined_all [] locks) x
set_has locks x c = go (mode_in (joined_all [] locks) x.0) refl
  where
    set : LockSet
    set = joined_all [] locks

    least : rank (Some x.1) ≤ rank (mode_in set x.0)
    least = subst (λ o. rank (Some x.1) ≤ rank o) (sym (joined_mode locks [] x.0)) (best_has None locks x.0 x.1 c)

    there : (m : Mode) → mode_in set x.0 ≡ Some m → Contains set (x.0, m)
    there m e = Contains-from_lookup (λ y z q. tie lock_cmp lock_exact y z q) x.0 m set e

    by_mode : (n m : Mode) → rank (Some n) ≤ rank (Some m) → Contains set (x.0, m) → HaveMode set x.0 n
    by_mode Shared m l d = (m, d)
    by_mode Sole Shared l d = absurd (omega arith)
    by_mode Sole Sole l d = d

    one_at_least : (m : Mode) → rank (Some m) ≤ 0 → ⊥
    one_at_least Shared l = omega arith
    one_at_least Sole l = omega arith

    go : (o : Option Mode) → mode_in set x.0 ≡ o → Have set x
    go None e = absurd (one_at_least x.1 (subst (λ o. rank (Some x.1) ≤ rank o) e least))
    go (Some m) e = by_mode x.1 m (subst (λ o. rank (Some x.1) ≤ rank o) e least) (there m e)

-- a lock that is among them sole is sole in it
as_sole : (o : Option Mode) → rank (Some Sole) ≤ rank o → o ≡ Some Sole
as_sole None l = absurd (omega arith)
as_sole (Some Shared) l = absurd (omega arith)
as_sole (Some Sole) l = refl

pub sole_mode : (locks : List Lock) (l : LockId) → IsSole locks l → mode_in (joined_all [] locks) l ≡ Some Sole
sole_mode locks l c = joined_mode locks [] l ∙ as_sole (best None locks l) (best_has None locks l Sole c)

pub sets_alike : SetsAreAlike
sets_alike locks = record {
  there = set_within locks locks [] tt (all_from (Have locks) locks (λ x c. have_it locks x c));
  back = all_from (Have (joined_all [] locks)) locks (λ x c. set_has locks x c);
}
