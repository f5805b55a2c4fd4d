-- What a removal of operations keeps, and what a replay does to a sector.
use Rattle.std.proofs.Common.{⊎_elim, ℕ, ◌<◌, ◌≤◌, ◌≡◌, ◌≢◌, ◌⊎◌, ◌&&◌, inl, inr, Bool, true, false, List, [], ◌∷◌, Option, Some, None, IsSome, nat_eq, nat_lt, nat_le, refl, sym, ◌∙◌, ap, subst, arith}
use Rattle.std.proofs.lemmas.Bool.Decides.{nat_tests}
use Rattle.std.proofs.lemmas.Bool.{ne_eqb, eq-eqb, le-ltb, lt-ltb, le-leb, eqb-true}
use Rattle.frang_base.specs.declared.change.Change.{Change}
use Rattle.sector_bytes.specs.Blocks.{Block, version_of}
use Rattle.sector_bytes.specs.Changes.{changed}
use Rattle.frang_base.specs.declared.change.Redo.{Redo}
use Rattle.sector_bytes.specs.Replays.{change_at, forced, redone, redo_all, up_to}
use Rattle.frang_base.specs.Functions.{keep_if}
use Rattle.sector_world.specs.Histories.{Commit, Item, redo_of, IsLast, kept, survives, logical, own, is_own, Each, Changes, OpsRise, Named}
use Rattle.sector_world.specs.Histories.Item.{Done, Doubt}
use Rattle.sector_world.specs.OnDisk.{AllDurable, OnDisk}
use Rattle.sector_world.specs.OnDisk.OnDisk.{in_place, pending, passed}
use Rattle.frang_base.proofs.Basics.{by_test, by_keep}
use Rattle.sector_bytes.proofs.ChangeLaws.{version-changed}
use Rattle.sector_world.proofs.HistoryLaws.{each_kept, up_keep, unchanged}

-- who survives
pub survives_other : (d k : ℕ) (c : Commit) → c.by ≢ d → survives d k c ≡ true
survives_other d k c n = rw (ne_eqb c.by d n)

pub survives_own : (d k : ℕ) (c : Commit) → c.by ≡ d → survives d k c ≡ nat_le c.op k
survives_own d k c e = rw (eq-eqb c.by d e)

pub survives_low : (d k : ℕ) (c : Commit) → (c.by ≡ d → c.op ≤ k) → survives d k c ≡ true
survives_low d k c f = by_test (λ b. b ≡ true) (nat_le c.op k) true (nat_eq c.by d) (λ e. le-leb c.op k (f (eqb-true c.by d e))) (λ e. refl)

pub ops_kept : (keep : Commit → Bool) (h : List Item) → OpsRise h → OpsRise (kept keep h)
ops_kept keep [] o = tt
ops_kept keep (Done c ∷ h) o =
    by_keep OpsRise (keep c) (Done c) (kept keep h)
    (λ e. (each_kept (λ e. e.by ≡ c.by → e.op < c.op) keep h o.0, ops_kept keep h o.1))
    (λ e. ops_kept keep h o.1)
ops_kept keep (Doubt m ∷ h) o = ops_kept keep h o

-- no record of d is above the greatest number
pub own_none : (d f : ℕ) (h : List Item) → Each (λ c. c.by ≡ d → c.op ≤ f) h → own d f h ≡ []
own_none d f [] e = refl
own_none d f (Done c ∷ h) e =
    by_keep (λ x. x ≡ []) (is_own d f c) (redo_of c) (own d f h)
    (λ i. by_test (λ b. b ≡ true → redo_of c ∷ own d f h ≡ []) (nat_lt f c.op) false (nat_eq c.by d)
    (λ g l. let m = le-ltb f c.op (e.0 (eqb-true c.by d g)) in cc) (λ g l. cc) i)
    (λ i. own_none d f h e.1)
own_none d f (Doubt m ∷ h) e = own_none d f h e

own_same : (e d f k : ℕ) (c : Commit) (h : List Item) (keep : Commit → Bool) → e ≢ d → own e f (kept keep h) ≡ own e f h → (c.by ≢ d → keep c ≡ true)
    → own e f (keep_if (keep c) (Done c) (kept keep h)) ≡ keep_if (is_own e f c) (redo_of c) (own e f h)
own_same e d f k c h keep n ih s =
    by_keep (λ x. own e f x ≡ keep_if (is_own e f c) (redo_of c) (own e f h)) (keep c) (Done c) (kept keep h)
    (λ t. ap (λ x. keep_if (is_own e f c) (redo_of c) x) ih)
    (λ t. by_keep (λ x. own e f (kept keep h) ≡ x) (is_own e f c) (redo_of c) (own e f h)
    (λ i. absurd (by_test (λ b. b ≡ true → ⊥) (nat_lt f c.op) false (nat_eq c.by e)
    (λ g l. let m : c.by ≡ e = eqb-true c.by e g in let q : keep c ≡ true = s (λ r. n (sym m ∙ r)) in cc) (λ g l. cc) i))
    (λ i. ih))

-- the records of another server stay
pub own_kept : (e d f k : ℕ) (h : List Item) → e ≢ d → own e f (kept (survives d k) h) ≡ own e f h
own_kept e d f k [] n = refl
own_kept e d f k (Done c ∷ h) n = own_same e d f k c h (survives d k) n (own_kept e d f k h n) (survives_other d k c)
own_kept e d f k (Doubt m ∷ h) n = own_kept e d f k h n

-- where what is pending and stays is durable, all that stays is
pub all_durable_kept : (opening : ℕ → Block) (durable : ℕ → ℕ) (s : ℕ) (P : Commit → Type 0) (block : Block) (keep : Commit → Bool)
    → ((c : Commit) → P c → keep c ≡ true → c.op ≤ durable c.by)
    → (h : List Item) → OnDisk opening durable s P block h → AllDurable durable s (kept keep h)
all_durable_kept opening durable s P block keep f h (in_place e a) = each_kept (λ c. Changes s c → c.op ≤ durable c.by) keep h a
all_durable_kept opening durable s P block keep f (Done c ∷ h) (pending p o) =
    by_keep (AllDurable durable s) (keep c) (Done c) (kept keep h)
    (λ e. (λ w. f c (p w) e, all_durable_kept opening durable s P block keep f h o))
    (λ e. all_durable_kept opening durable s P block keep f h o)
all_durable_kept opening durable s P block keep f (Doubt m ∷ h) (passed o) = all_durable_kept opening durable s P block keep f h o

pub last_kept : (s a mark : ℕ) (keep : Commit → Bool) (h : List Item) → Each (λ c. Changes s c → keep c ≡ true) h → IsLast s a mark h → IsLast s a mark (kept keep h)
last_kept s a mark keep [] k l = absurd l
last_kept s a mark keep (Done c ∷ h) k l =
    by_keep (IsLast s a mark) (keep c) (Done c) (kept keep h)
    (λ e. ⊎_elim (λ m. inl m) (λ m. inr (m.0, last_kept s a mark keep h k.1 m.1)) l)
    (λ e. ⊎_elim (λ m. let q = k.0 m.2 in absurd (cc)) (λ m. last_kept s a mark keep h k.1 m.1) l)
last_kept s a mark keep (Doubt n ∷ h) k l = last_kept s a mark keep h k l

pub named_keep : (b : Bool) (r : Redo) (rs : List Redo) (s v : ℕ) → Named rs s v → Named (keep_if b r rs) s v
named_keep true r rs s v n = inr n
named_keep false r rs s v n = n

some_version : (o : Option Change) (block : Block) → IsSome o → (x : Change) × (o ≡ Some x) × (x.version ≡ (version_of (forced o block)))
some_version None block e = absurd (cc)
some_version (Some x) block e = (x, refl, sym (version-changed block x))

-- the last operation's record names the sector with its version now
pub last_named : (opening : ℕ → Block) (s a mark f k : ℕ) → f < mark → mark ≤ k → (h : List Item) → IsLast s a mark h → Named (up_to k (own a f h)) s (version_of (logical opening h s))
last_named opening s a mark f k lo hi [] l = absurd l
last_named opening s a mark f k lo hi (Done c ∷ h) l =
    rw (up_keep k (is_own a f c) (redo_of c) (own a f h))
    (⊎_elim
    (λ m. let u : f < c.op = subst (λ x. f < x) (sym m.1) lo in let v : c.op ≤ k = subst (λ x. x ≤ k) (sym m.1) hi in
    rw (eq-eqb c.by a m.0, lt-ltb f c.op u, le-leb c.op k v) (inl (some_version (change_at c.changes s) (logical opening h s) m.2)))
    (λ m. rw (unchanged (change_at c.changes s) (logical opening h s) m.0) (named_keep (is_own a f c && nat_le c.op k) (redo_of c) (up_to k (own a f h)) s (version_of (logical opening h s)) (last_named opening s a mark f k lo hi h m.1)))
    l)
last_named opening s a mark f k lo hi (Doubt m ∷ h) l = last_named opening s a mark f k lo hi h l

-- a replay of one change leaves the sector, or raises its version to the change's
redone_named : (o : Option Change) (block : Block) → (redone o block ≡ block) ⊎ (((version_of block) < (version_of (redone o block))) × (x : Change) × (o ≡ Some x) × (x.version ≡ (version_of (redone o block))))
redone_named None block = inl refl
redone_named (Some x) block =
    let new : Block = changed block x in
    by_test (λ r. (r ≡ block) ⊎ (((version_of block) < (version_of r)) × (y : Change) × (Some x ≡ Some y) × (y.version ≡ (version_of r)))) new block (nat_lt (version_of block) x.version)
    (λ e. inr ((let m : (version_of block) < x.version = grind (arith, nat_tests) in let v : version_of (changed block x) ≡ x.version = version-changed block x in omega arith), x, refl, sym (version-changed block x)))
    (λ e. inl refl)

-- a replay leaves the sector, or raises its version to one that a record names
pub redo_named : (rs : List Redo) (s : ℕ) (block : Block) → (redo_all rs s block ≡ block) ⊎ (((version_of block) < (version_of (redo_all rs s block))) × Named rs s (version_of (redo_all rs s block)))
redo_named [] s block = inl refl
redo_named (r ∷ rs) s block =
    ⊎_elim
    (λ same. ⊎_elim (λ e. inl (e ∙ same)) (λ m. inr (subst (λ x. (version_of x) < (version_of (redone (change_at r.changes s) (redo_all rs s block)))) same m.0, inl (m.1, m.2, m.3)))
    (redone_named (change_at r.changes s) (redo_all rs s block)))
    (λ up. ⊎_elim (λ e. inr (subst (λ x. (version_of block) < (version_of x)) (sym e) up.0, inr (subst (λ x. Named rs s (version_of x)) (sym e) up.1)))
    (λ m. let a : (version_of block) < (version_of (redo_all rs s block)) = up.0 in let b : (version_of (redo_all rs s block)) < (version_of (redone (change_at r.changes s) (redo_all rs s block))) = m.0 in inr (omega arith, inl (m.1, m.2, m.3)))
    (redone_named (change_at r.changes s) (redo_all rs s block)))
    (redo_named rs s block)
