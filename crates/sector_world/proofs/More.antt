-- More on what is pending, on replays that are made twice, and on records with a version.
use Rattle.std.proofs.Common.{⊎_elim, ℕ, ◌<◌, ◌≤◌, ◌≡◌, ◌&&◌, inl, inr, Bool, true, false, List, [], ◌∷◌, Option, Some, None, IsSome, nat_lt, nat_le, if◌then◌else◌, refl, sym, ◌∙◌, ap, subst, arith}
use Rattle.std.proofs.lemmas.Bool.Decides.{nat_tests}
use Rattle.std.proofs.lemmas.Bool.{and_right, le-ltb, lt-leb, le-leb, leb-true}
use Rattle.frang_base.specs.declared.change.Change.{Change}
use Rattle.sector_bytes.specs.Blocks.{Block, version_of}
use Rattle.sector_bytes.specs.Changes.{changed}
use Rattle.frang_base.specs.declared.change.Redo.{Redo}
use Rattle.sector_bytes.specs.Replays.{change_at, forced, redone, redo_all, up_to}
use Rattle.frang_base.specs.Functions.{keep_if}
use Rattle.sector_world.specs.Histories.{Commit, Item, redo_of, kept, survives, logical, own, is_own, Each, Changes, OpsRise, Named, IsLast}
use Rattle.sector_world.specs.Histories.Item.{Done, Doubt}
use Rattle.sector_world.specs.OnDisk.{Raises, Rising, AllDurable, OnDisk}
use Rattle.sector_world.specs.OnDisk.OnDisk.{in_place, pending, passed}
use Rattle.frang_base.proofs.Basics.{by_test, by_keep, le_or_lt, some_or}
use Rattle.sector_bytes.proofs.ChangeLaws.{version-changed}
use Rattle.sector_world.proofs.HistoryLaws.{AtMost, each_map, up_keep, redo_keep, disk_version, kept_logical, replayed_is, unchanged, at_most_more}
use Rattle.sector_world.proofs.Removals.{named_keep, survives_low, survives_own}

-- the change has a version above this
abbrev pub IsAbove : Option Change → ℕ → Type 0
IsAbove None n = ⊥
IsAbove (Some x) n = n < x.version

above_raises : (o : Option Change) (block : Block) (n : ℕ) → IsSome o → n ≤ (version_of block) → Raises o block → IsAbove o n
above_raises None block n w le r = absurd (cc)
above_raises (Some x) block n w le r = omega arith

-- as on_disk_map, with what holds of each operation, and with the versions
pub on_disk_more : (opening : ℕ → Block) (durable : ℕ → ℕ) (s : ℕ) (P Q R : Commit → Type 0) (block : Block)
    → ((c : Commit) → R c → Changes s c → IsAbove (change_at c.changes s) (version_of block) → P c → Q c)
    → (h : List Item) → Each R h → Rising opening s h → OnDisk opening durable s P block h → OnDisk opening durable s Q block h
on_disk_more opening durable s P Q R block f h e r (in_place i a) = in_place i a
on_disk_more opening durable s P Q R block f (Done c ∷ h) e r (pending p o) =
    pending
    (λ w. f c e.0 w (above_raises (change_at c.changes s) (logical opening h s) (version_of block) w (disk_version opening durable s P block h o r.1) r.0) (p w))
    (on_disk_more opening durable s P Q R block f h e.1 r.1 o)
on_disk_more opening durable s P Q R block f (Doubt m ∷ h) e r (passed o) = passed (on_disk_more opening durable s P Q R block f h e r o)

-- where what is pending is durable, all is
pub all_durable_each : (opening : ℕ → Block) (durable : ℕ → ℕ) (s : ℕ) (P : Commit → Type 0) (block : Block)
    → (h : List Item) → Each (λ c. P c → c.op ≤ durable c.by) h → OnDisk opening durable s P block h → AllDurable durable s h
all_durable_each opening durable s P block h e (in_place i a) = a
all_durable_each opening durable s P block (Done c ∷ h) e (pending p o) = (λ w. e.0 (p w), all_durable_each opening durable s P block h e.1 o)
all_durable_each opening durable s P block (Doubt m ∷ h) e (passed o) = all_durable_each opening durable s P block h e o

forced_above : (o : Option Change) (block old : Block) → IsSome o → (version_of old) ≤ (version_of block) → Raises o block → old ≡ forced o block → ⊥
forced_above None block old w le r e = cc
forced_above (Some x) block old w le r e = let q : (version_of old) ≡ version_of (changed block x) = ap version_of e in let v : version_of (changed block x) ≡ x.version = version-changed block x in omega arith

-- where the sector is the history's, all its operations are durable
pub all_settled : (opening : ℕ → Block) (durable : ℕ → ℕ) (s : ℕ) (P : Commit → Type 0) (block : Block)
    → (h : List Item) → Rising opening s h → block ≡ logical opening h s → OnDisk opening durable s P block h → AllDurable durable s h
all_settled opening durable s P block h r e (in_place i a) = a
all_settled opening durable s P block (Done c ∷ h) r e (pending p o) =
    let no : Changes s c → ⊥ = λ w. forced_above (change_at c.changes s) (logical opening h s) block w (disk_version opening durable s P block h o r.1) r.0 e in
    ((λ w. absurd (no w)), all_settled opening durable s P block h r.1 (e ∙ unchanged (change_at c.changes s) (logical opening h s) no) o)
all_settled opening durable s P block (Doubt m ∷ h) r e (passed o) = all_settled opening durable s P block h r e o

-- the last operation that changed a sector that isn't the history's is pending
pub last_pending : (opening : ℕ → Block) (durable : ℕ → ℕ) (s a mark : ℕ) (P : Commit → Type 0) (block : Block) (h : List Item)
    → IsLast s a mark h → (version_of block) < (version_of (logical opening h s)) → OnDisk opening durable s P block h
    → (c : Commit) × P c × (c.by ≡ a) × (c.op ≡ mark)
last_pending opening durable s a mark P block h l n (in_place i e) = let q : (version_of block) ≡ (version_of (logical opening h s)) = ap (λ x. (version_of x)) i in absurd (omega arith)
last_pending opening durable s a mark P block (Done c ∷ h) l n (pending p o) =
    ⊎_elim (λ m. (c, p m.2, m.0, m.1))
    (λ m. last_pending opening durable s a mark P block h m.1 (subst (λ x. (version_of block) < (version_of x)) (unchanged (change_at c.changes s) (logical opening h s) m.0) n) o)
    l
last_pending opening durable s a mark P block (Doubt m ∷ h) l n (passed o) = last_pending opening durable s a mark P block h l n o

own_step : (d f k s : ℕ) (block : Block) (c : Commit) (h : List Item) → redo_all (up_to k (own d f (Done c ∷ h))) s block ≡ (if (is_own d f c && nat_le c.op k) then redone (change_at c.changes s) (redo_all (up_to k (own d f h)) s block) else redo_all (up_to k (own d f h)) s block)
own_step d f k s block c h = rw (up_keep k (is_own d f c) (redo_of c) (own d f h), redo_keep (is_own d f c && nat_le c.op k) (redo_of c) (up_to k (own d f h)) s block)

none_step : (o : Option Change) (b : Bool) (block : Block) → (IsSome o → ⊥) → (if b then redone o block else block) ≡ block
none_step None true block n = refl
none_step None false block n = refl
none_step (Some x) b block n = absurd (n refl)

-- a replay of d's durable records brings the sector forward in the history
pub replay_place : (opening : ℕ → Block) (durable : ℕ → ℕ) (s d f : ℕ) (P : Commit → Type 0) (block : Block)
    → ((c : Commit) → P c → (c.by ≡ d) × (f < c.op))
    → (h : List Item) → OpsRise h → Rising opening s h → OnDisk opening durable s P block h
    → OnDisk opening durable s P (redo_all (up_to (durable d) (own d f h)) s block) h
replay_place opening durable s d f P block mine h ops r (in_place e a) =
    let keep : Commit → Bool = survives d (durable d) in
    let i : redo_all (up_to (durable d) (own d f h)) s block ≡ logical opening (kept keep h) s =
    replayed_is opening durable s d f P block keep mine (λ c l. survives_low d (durable d) c (λ q. subst (λ x. c.op ≤ durable x) q l)) (λ c q. survives_own d (durable d) c q) h (in_place e a) r in
    let j : logical opening (kept keep h) s ≡ logical opening h s =
    kept_logical opening s keep h (each_map (λ c. Changes s c → c.op ≤ durable c.by) (λ c. Changes s c → keep c ≡ true) (λ c m w. survives_low d (durable d) c (λ q. subst (λ x. c.op ≤ durable x) q (m w))) h a) in
    in_place (i ∙ j) a
replay_place opening durable s d f P block mine (Done c ∷ h) ops r (pending p o) =
    let P' : Block → Type 0 = λ x. OnDisk opening durable s P x (Done c ∷ h) in
    ⊎_elim
    (λ w. ⊎_elim
    (λ l. let m : c.by ≡ d = (mine c (p w)).0 in
    let a : AllDurable durable s (Done c ∷ h) = (
      (λ v. subst (λ x. c.op ≤ durable x) (sym m) l),
      all_durable_each opening durable s P block h (each_map (λ e. e.by ≡ c.by → e.op < c.op) (λ e. P e → e.op ≤ durable e.by)
          (λ e q i. let n : e.by ≡ d = (mine e i).0 in let lt : e.op < c.op = q (n ∙ sym m) in let z : durable e.by ≡ durable d = ap durable n in omega arith) h ops.0) o,
    ) in
    let keep : Commit → Bool = survives d (durable d) in
    let i : redo_all (up_to (durable d) (own d f (Done c ∷ h))) s block ≡ logical opening (kept keep (Done c ∷ h)) s =
    replayed_is opening durable s d f P block keep mine (λ c l. survives_low d (durable d) c (λ q. subst (λ x. c.op ≤ durable x) q l)) (λ c q. survives_own d (durable d) c q) (Done c ∷ h) (pending p o) r in
    let j : logical opening (kept keep (Done c ∷ h)) s ≡ logical opening (Done c ∷ h) s =
    kept_logical opening s keep (Done c ∷ h) (each_map (λ c. Changes s c → c.op ≤ durable c.by) (λ c. Changes s c → keep c ≡ true) (λ c m w. survives_low d (durable d) c (λ q. subst (λ x. c.op ≤ durable x) q (m w))) (Done c ∷ h) a) in
    in_place (i ∙ j) a)
    (λ g. let z : redo_all (up_to (durable d) (own d f (Done c ∷ h))) s block ≡ redo_all (up_to (durable d) (own d f h)) s block =
    own_step d f (durable d) s block c h ∙ rw (and_right (is_own d f c) (nat_le c.op (durable d)) (lt-leb c.op (durable d) g)) in
    subst P' (sym z) (pending p (replay_place opening durable s d f P block mine h ops.1 r.1 o)))
    (le_or_lt c.op (durable d)))
    (λ n. let z : redo_all (up_to (durable d) (own d f (Done c ∷ h))) s block ≡ redo_all (up_to (durable d) (own d f h)) s block =
    own_step d f (durable d) s block c h ∙ none_step (change_at c.changes s) (is_own d f c && nat_le c.op (durable d)) (redo_all (up_to (durable d) (own d f h)) s block) n in
    subst P' (sym z) (pending p (replay_place opening durable s d f P block mine h ops.1 r.1 o)))
    (some_or (change_at c.changes s))
replay_place opening durable s d f P block mine (Doubt m ∷ h) ops r (passed o) = passed (replay_place opening durable s d f P block mine h ops r o)

-- each record's change of the sector is at most this
abbrev pub EachAtMost : List Redo → ℕ → ℕ → Type 0
EachAtMost [] s n = Unit {0}
EachAtMost (r ∷ rs) s n = AtMost (change_at r.changes s) n × EachAtMost rs s n

each_at_most_more : (rs : List Redo) (s n m : ℕ) → n ≤ m → EachAtMost rs s n → EachAtMost rs s m
each_at_most_more [] s n m le e = tt
each_at_most_more (r ∷ rs) s n m le e = (at_most_more (change_at r.changes s) n m le e.0, each_at_most_more rs s n m le e.1)

redone_at_most : (o : Option Change) (block : Block) → AtMost o (version_of (redone o block)) × ((version_of block) ≤ (version_of (redone o block)))
redone_at_most None block = (tt, omega arith)
redone_at_most (Some x) block =
    let new : Block = changed block x in
    by_test (λ r. (x.version ≤ (version_of r)) × ((version_of block) ≤ (version_of r))) new block (nat_lt (version_of block) x.version)
    (λ e. let v : version_of (changed block x) ≡ x.version = version-changed block x in (omega arith, let m : (version_of block) < x.version = grind (arith, nat_tests) in omega arith))
    (λ e. (let m : x.version ≤ (version_of block) = grind (arith, nat_tests) in m, omega arith))

redo_at_most : (rs : List Redo) (s : ℕ) (block : Block) → EachAtMost rs s (version_of (redo_all rs s block))
redo_at_most [] s block = tt
redo_at_most (r ∷ rs) s block =
    let q = redone_at_most (change_at r.changes s) (redo_all rs s block) in
    (q.0, each_at_most_more rs s (version_of (redo_all rs s block)) (version_of (redone (change_at r.changes s) (redo_all rs s block))) q.1 (redo_at_most rs s block))

redo_skips : (rs : List Redo) (s : ℕ) (block : Block) → EachAtMost rs s (version_of block) → redo_all rs s block ≡ block
redo_skips [] s block e = refl
redo_skips (r ∷ rs) s block e = ap (λ x. redone (change_at r.changes s) x) (redo_skips rs s block e.1) ∙ skip (change_at r.changes s) e.0
  where
    skip : (o : Option Change) → AtMost o (version_of block) → redone o block ≡ block
    skip None m = refl
    skip (Some x) m = rw (le-ltb (version_of block) x.version m)

-- a replay that is made twice is as good as one
pub redo_twice : (rs : List Redo) (s : ℕ) (block : Block) → redo_all rs s (redo_all rs s block) ≡ redo_all rs s block
redo_twice rs s block = redo_skips rs s (redo_all rs s block) (redo_at_most rs s block)

pub named_more : (rs : List Redo) (k j s v : ℕ) → k ≤ j → Named (up_to k rs) s v → Named (up_to j rs) s v
named_more [] k j s v le n = n
named_more (r ∷ rs) k j s v le n =
    by_keep (λ x. Named x s v → Named (keep_if (nat_le r.op.0 j) r (up_to j rs)) s v) (nat_le r.op.0 k) r (up_to k rs)
    (λ e m. let i : r.op.0 ≤ k = leb-true r.op.0 k e in let q : r.op.0 ≤ j = omega arith in rw (le-leb r.op.0 j q) (⊎_elim (λ x. inl x) (λ x. inr (named_more rs k j s v le x)) m))
    (λ e m. named_keep (nat_le r.op.0 j) r (up_to j rs) s v (named_more rs k j s v le m))
    n
