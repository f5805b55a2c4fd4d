-- What plans are made of is covered by their locks: edits, refusals, walks and rooms.
use Rattle.std.proofs.Common.{ℕ, zero, suc, ◌≡◌, ◌<◌, ◌/◌, ◌⊎◌, inl, inr, ⊎_elim, Bool, true, false, if◌then◌else◌, List, [], ◌∷◌, ◌++◌, length, map, filter, flat_map, slice_index_or, refl, sym, ◌∙◌, ap, subst, arith, is_some}
use Rattle.std.proofs.lemmas.Bool.{cases_eq}
use Rattle.std.proofs.lemmas.List.Elements.{Contains-append_left, Contains-append_right}
use Rattle.std.specs.List.{AllByRecursion, Contains}
use Rattle.std.specs.Map.{keys_of}
use Rattle.std.specs.BTreeMap.{is_at}
use Rattle.std.specs.Ordering.{nat_cmp}
use Rattle.frang_base.specs.declared.lock.LockId.TheVariants as lock
use Rattle.frang_base.specs.declared.lock.Mode.TheVariants.{Sole}
use Rattle.frang_base.specs.declared.reply.Reply.{Reply}
use Rattle.frang_base.specs.declared.reply.Reply.TheVariants as reply
use Rattle.tree_definitions.specs.Numbers.{below}
use Rattle.tree_definitions.proofs.Pairs.{birth_exact, tie}
use Rattle.disk_definitions.specs.Store.{Store, Use}
use Rattle.disk_definitions.specs.Edits.{Edit}
use Rattle.disk_definitions.specs.Edits.Edit.{SetUse, SetLarge}
use Rattle.disk_definitions.specs.Held.{Segments, bitmap_of}
use Rattle.disk_definitions.specs.Ask.{Ask, Got, run}
use Rattle.disk_definitions.specs.Walks.{Spot, Target, walk, at_spot, at_target}
use Rattle.disk_definitions.specs.Walks.Spot.{AtRoot, AtName, AtGap, Lost}
use Rattle.disk_definitions.specs.Plans.Plan.{Lacks, Finishes}
use Rattle.disk_definitions.specs.Plans.{Hand, Lock, Plan, refuse, refused, none_left, shared_nodes, sole_nodes, sole_segments, says_full}
use Rattle.disk_definitions.specs.LookPlans.{plan_of_node}
use Rattle.plan_laws.proofs.Asking.{run-bind}
use Rattle.plan_laws.proofs.Quiet.{IsQuiet, walk_quiet}
use Rattle.plan_laws.specs.Locks.{IsSole, IsCovered, PlanIsCovered}

-- ---- lists

pub has_head : {X : Type 0} (x : X) (xs : List X) → Contains (x ∷ xs) x
has_head x xs = (0, omega arith, refl)

pub has_more : {X : Type 0} (x y : X) (xs : List X) → Contains xs y → Contains (x ∷ xs) y
has_more x y xs h = (suc h.0, omega (arith, h.1), h.2)

pub not_in_none : {X : Type 0} (y : X) → Contains [] y → ⊥
not_in_none y h = let l : h.0 < 0 = h.1 in omega arith

pub has_cases : {X : Type 0} (x y : X) (xs : List X) → Contains (x ∷ xs) y → (x ≡ y) ⊎ Contains xs y
has_cases x y xs h = go h.0 h.1 h.2
  where
    go : (k : ℕ) → k < length (x ∷ xs) → slice_index_or (x ∷ xs) k y ≡ y → (x ≡ y) ⊎ Contains xs y
    go zero l e = inl e
    go (suc k) l e = inr (k, omega arith, e)

pub all_has : {X : Type 0} (P : X → Type 0) (xs : List X) → AllByRecursion P xs → (x : X) → Contains xs x → P x
all_has P [] a x c = absurd (not_in_none x c)
all_has P (y ∷ xs) a x c = ⊎_elim (λ e. subst P e a.0) (λ d. all_has P xs a.1 x d) (has_cases y x xs c)

pub all_from : {X : Type 0} (P : X → Type 0) (xs : List X) → ((x : X) → Contains xs x → P x) → AllByRecursion P xs
all_from P [] f = tt
all_from P (x ∷ xs) f = (f x (has_head x xs), all_from P xs (λ y c. f y (has_more x y xs c)))

pub flat_has : {X Y : Type 0} (f : X → List Y) (xs : List X) (x : X) (y : Y) → Contains xs x → Contains (f x) y → Contains (flat_map f xs) y
flat_has f [] x y c d = absurd (not_in_none x c)
flat_has f (z ∷ xs) x y c d =
    ⊎_elim
    (λ same. Contains-append_left (f z) (flat_map f xs) y (subst (λ w. Contains (f w) y) (sym same) d))
    (λ more. Contains-append_right (f z) (flat_map f xs) y (flat_has f xs x y more d))
    (has_cases z x xs c)

pub filter_has : (test : ℕ → Bool) (xs : List ℕ) (x : ℕ) → Contains xs x → test x ≡ true → Contains (filter test xs) x
filter_has test [] x c t = absurd (not_in_none x c)
filter_has test (z ∷ xs) x c t = go (test z) refl (has_cases z x xs c) (λ m. filter_has test xs x m t)
  where
    go : (b : Bool) → test z ≡ b → (z ≡ x) ⊎ Contains xs x → (Contains xs x → Contains (filter test xs) x) → Contains (if b then z ∷ filter test xs else filter test xs) x
    go true q c rest = ⊎_elim (λ same. subst (λ w. Contains (z ∷ filter test xs) w) same (has_head z (filter test xs))) (λ m. has_more z x (filter test xs) (rest m)) c
    go false q c rest = ⊎_elim (λ same. absurd (let v : true ≡ false = sym t ∙ ap test (sym same) ∙ q in cc)) rest c

pub map_has : {X Y : Type 0} (f : X → Y) (xs : List X) (x : X) → Contains xs x → Contains (map f xs) (f x)
map_has f [] x h = absurd (not_in_none x h)
map_has f (y ∷ ys) x h = go (map_has f ys x) (has_cases y x ys h)
  where
    go : (Contains ys x → Contains (map f ys) (f x)) → (y ≡ x) ⊎ Contains ys x → Contains (f y ∷ map f ys) (f x)
    go rest (inl e) = subst (λ z. Contains (f y ∷ map f ys) (f z)) e (has_head (f y) (map f ys))
    go rest (inr i) = has_more (f y) (f x) (map f ys) (rest i)

pub below_has : (n j : ℕ) → j < n → Contains (below n) j
below_has zero j l = absurd (omega arith)
below_has (suc n) j l = ⊎_elim
    (λ e. Contains-append_right (below n) (n ∷ []) j (subst (λ z. Contains (n ∷ []) z) (sym e) (has_head n [])))
    (λ d. Contains-append_left (below n) (n ∷ []) j (below_has n j (grind arith)))
    (cases_eq j n)

-- a held segment is one of the keys
pub key_has : (held : Segments) (k : ℕ) → is_some (bitmap_of held k) ≡ true → Contains (keys_of held) k
key_has [] k e = absurd (cc)
key_has (x ∷ xs) k e = go (key_has xs k) (is_at (nat_cmp k) x.0) refl
  where
    go : (is_some (bitmap_of xs k) ≡ true → Contains (keys_of xs) k) → (b : Bool) → is_at (nat_cmp k) x.0 ≡ b → Contains (x.0 ∷ keys_of xs) k
    go rest true q = subst (λ z. Contains (x.0 ∷ keys_of xs) z) (sym (tie nat_cmp birth_exact k x.0 q)) (has_head x.0 (keys_of xs))
    go rest false q = let a : bitmap_of (x ∷ xs) k ≡ bitmap_of xs k = rw q refl in has_more x.0 k (keys_of xs) (rest (sym (ap is_some a) ∙ e))

-- ---- locks

pub node_sole : (a : List Lock) (is : List ℕ) (c : List Lock) (i : ℕ) → Contains is i → IsSole (a ++ sole_nodes is ++ c) (lock.Node i)
node_sole a is c i h = Contains-append_left (a ++ sole_nodes is) c (lock.Node i, Sole) (Contains-append_right a (sole_nodes is) (lock.Node i, Sole) (map_has (λ i. (lock.Node i, Sole)) is i h))

pub segment_sole : (a : List Lock) (ks : List ℕ) (k : ℕ) → Contains ks k → IsSole (a ++ sole_segments ks) (lock.Segment k)
segment_sole a ks k h = Contains-append_right a (sole_segments ks) (lock.Segment k, Sole) (map_has (λ k. (lock.Segment k, Sole)) ks k h)

-- ---- edits

abbrev pub Covers : List Lock → List Edit → Type 0
Covers locks es = AllByRecursion (IsCovered locks) es

pub covers_join : (locks : List Lock) (es fs : List Edit) → Covers locks es → Covers locks fs → Covers locks (es ++ fs)
covers_join locks [] fs a b = b
covers_join locks (e ∷ es) fs a b = (a.0, covers_join locks es fs a.1 b)

pub uses_covered : (locks : List Lock) (u : Use) (ks : List ℕ) → ((k : ℕ) → Contains ks k → IsSole locks (lock.Segment (k / 1024))) → Covers locks (map (λ k. SetUse k u) ks)
uses_covered locks u [] f = tt
uses_covered locks u (k ∷ ks) f = (f k (has_head k ks), uses_covered locks u ks (λ c h. f c (has_more k c ks h)))

pub larges_covered : (locks : List Lock) (v : Bool) (gs : List ℕ) → ((g : ℕ) → Contains gs g → IsSole locks (lock.Segment g)) → Covers locks (map (λ g. SetLarge g v) gs)
larges_covered locks v [] f = tt
larges_covered locks v (g ∷ gs) f = (f g (has_head g gs), larges_covered locks v gs (λ c h. f c (has_more g c gs h)))

-- ---- refusals and walks

pub refuse_covered : (h : Hand) (r : Reply) (touched : List ℕ) → says_full r ≡ false → PlanIsCovered h (refuse r touched)
refuse_covered h r touched e = record { edits = tt; full = λ f. absurd (cc) }

pub none_covered : (h : Hand) (s : Store) (r : Reply) (touched : List ℕ) → PlanIsCovered h (run (none_left h r touched) s)
none_covered h s r touched = go h.all
  where
    go : (b : Bool) → PlanIsCovered h (run (Got (if b then Finishes (record { reply = r; edits = []; locks = shared_nodes touched ++ sole_segments (keys_of h.held) }) else Lacks)) s)
    go true = record { edits = tt; full = λ f k e. segment_sole (shared_nodes touched) (keys_of h.held) k (key_has h.held k e) }
    go false = tt

-- a walk that is refused doesn't say that something is full
abbrev pub IsFine : Spot → Type 0
IsFine v = IsQuiet says_full refl refl v

module _ (s : Store) where
  pub walk_fine : (path : List (List ℕ)) → IsFine (run (walk path) s).spot
  walk_fine path = walk_quiet says_full refl refl s path

  module _ (h : Hand) (next : Target → Ask Plan) (each : (t : Target) → PlanIsCovered h (run (next t) s)) where
    spot_covered : (v : Spot) (dirs : List ℕ) → IsFine v → PlanIsCovered h (run (at_spot v dirs refused next) s)
    spot_covered AtRoot dirs f = each (record { inode = 0; kind = 2; dirs = dirs })
    spot_covered (AtName i x name q e) dirs f = each (record { inode = e.inode; kind = e.kind; dirs = dirs })
    spot_covered (AtGap i x name) dirs f = refuse_covered h reply.NoEnt dirs refl
    spot_covered (Lost r) dirs f = refuse_covered h r dirs f

    pub node_covered : (path : List (List ℕ)) → PlanIsCovered h (run (plan_of_node path next) s)
    node_covered path = let w = run (walk path) s in rw (run-bind (walk path) (λ w. at_target w refused next) s) (spot_covered w.spot w.dirs (walk_fine path))
