-- Lemmas on histories.
use Rattle.std.proofs.Common.{⊎_elim, le_of_eq, le_trans, ℕ, ◌<◌, ◌≤◌, ◌≡◌, ◌⊎◌, ◌&&◌, inl, inr, Bool, true, false, List, [], ◌∷◌, Option, Some, None, IsSome, nat_eq, nat_lt, nat_le, if◌then◌else◌, refl, sym, ◌∙◌, ap, subst, arith}
use Rattle.std.proofs.lemmas.Bool.{and_parts, eq-eqb, le-ltb, lt-ltb, eqb-true}
use Rattle.frang_base.specs.declared.change.Change.{Change}
use Rattle.sector_bytes.specs.Blocks.{Block, version_of}
use Rattle.sector_bytes.specs.Changes.{changed}
use Rattle.frang_base.specs.declared.change.Redo.{Redo}
use Rattle.sector_bytes.specs.Replays.{change_at, forced, redone, redo_all, up_to}
use Rattle.frang_base.specs.Functions.{keep_if}
use Rattle.sector_world.specs.Histories.{Commit, Item, redo_of, kept, logical, own, is_own, Each, Changes}
use Rattle.sector_world.specs.Histories.Item.{Done, Doubt}
use Rattle.sector_world.specs.OnDisk.{Raises, Rising, AllDurable, OnDisk}
use Rattle.sector_world.specs.OnDisk.OnDisk.{in_place, pending, passed}
use Rattle.frang_base.proofs.Basics.{by_test, by_keep, some_or}
use Rattle.sector_bytes.proofs.ChangeLaws.{version-changed}

pub redo_keep : (b : Bool) (r : Redo) (rs : List Redo) (s : ℕ) (block : Block) → redo_all (keep_if b r rs) s block ≡ (if b then redone (change_at r.changes s) (redo_all rs s block) else redo_all rs s block)
redo_keep true r rs s block = refl
redo_keep false r rs s block = refl

pub logical_keep : (opening : ℕ → Block) (b : Bool) (c : Commit) (h : List Item) (s : ℕ) → logical opening (keep_if b (Done c) h) s ≡ (if b then forced (change_at c.changes s) (logical opening h s) else logical opening h s)
logical_keep opening true c h s = refl
logical_keep opening false c h s = refl

pub up_keep : (k : ℕ) (b : Bool) (r : Redo) (rs : List Redo) → up_to k (keep_if b r rs) ≡ keep_if (b && nat_le r.op.0 k) r (up_to k rs)
up_keep k true r rs = refl
up_keep k false r rs = refl

-- facts of each operation
pub each_map : (P Q : Commit → Type 0) → ((c : Commit) → P c → Q c) → (h : List Item) → Each P h → Each Q h
each_map P Q f [] e = tt
each_map P Q f (Done c ∷ h) e = (f c e.0, each_map P Q f h e.1)
each_map P Q f (Doubt m ∷ h) e = each_map P Q f h e

pub each_map2 : (P Q R : Commit → Type 0) → ((c : Commit) → P c → Q c → R c) → (h : List Item) → Each P h → Each Q h → Each R h
each_map2 P Q R f [] e d = tt
each_map2 P Q R f (Done c ∷ h) e d = (f c e.0 d.0, each_map2 P Q R f h e.1 d.1)
each_map2 P Q R f (Doubt m ∷ h) e d = each_map2 P Q R f h e d

pub each_kept : (P : Commit → Type 0) (keep : Commit → Bool) (h : List Item) → Each P h → Each P (kept keep h)
each_kept P keep [] e = tt
each_kept P keep (Done c ∷ h) e = by_keep (Each P) (keep c) (Done c) (kept keep h) (λ t. (e.0, each_kept P keep h e.1)) (λ t. each_kept P keep h e.1)
each_kept P keep (Doubt m ∷ h) e = each_kept P keep h e

-- versions
abbrev pub AtMost : Option Change → ℕ → Type 0
AtMost None n = Unit {0}
AtMost (Some x) n = x.version ≤ n

pub at_most_more : (o : Option Change) (n m : ℕ) → n ≤ m → AtMost o n → AtMost o m
at_most_more None n m le h = tt
at_most_more (Some x) n m le h = omega arith

raised : (o : Option Change) (block : Block) → Raises o block → (version_of block) ≤ (version_of (forced o block))
raised None block h = omega arith
raised (Some x) block h = let v : version_of (changed block x) ≡ x.version = version-changed block x in omega arith

raised_at_most : (o : Option Change) (block : Block) → AtMost o (version_of (forced o block))
raised_at_most None block = tt
raised_at_most (Some x) block = let v : version_of (changed block x) ≡ x.version = version-changed block x in omega arith

-- no change in the history has a version above the sector's
pub rising_bound : (opening : ℕ → Block) (s : ℕ) (h : List Item) → Rising opening s h → Each (λ c. AtMost (change_at c.changes s) (version_of (logical opening h s))) h
rising_bound opening s [] r = tt
rising_bound opening s (Done c ∷ h) r = (
  raised_at_most (change_at c.changes s) (logical opening h s),
  each_map (λ e. AtMost (change_at e.changes s) (version_of (logical opening h s))) (λ e. AtMost (change_at e.changes s) (version_of (logical opening (Done c ∷ h) s)))
      (λ e. at_most_more (change_at e.changes s) (version_of (logical opening h s)) (version_of (logical opening (Done c ∷ h) s)) (raised (change_at c.changes s) (logical opening h s) r.0))
      h (rising_bound opening s h r.1),
)
rising_bound opening s (Doubt m ∷ h) r = rising_bound opening s h r

kept_step : (o : Option Change) (b : Bool) (less more : Block) → (version_of less) ≤ (version_of more) → Raises o more → (version_of (if b then forced o less else less)) ≤ (version_of (forced o more))
kept_step None true less more le r = omega arith
kept_step None false less more le r = omega arith
kept_step (Some x) true less more le r = let u : version_of (changed less x) ≡ x.version = version-changed less x in let v : version_of (changed more x) ≡ x.version = version-changed more x in omega arith
kept_step (Some x) false less more le r = let v : version_of (changed more x) ≡ x.version = version-changed more x in omega arith

-- fewer operations give no greater version
pub kept_version : (opening : ℕ → Block) (s : ℕ) (keep : Commit → Bool) (h : List Item) → Rising opening s h → (version_of (logical opening (kept keep h) s)) ≤ (version_of (logical opening h s))
kept_version opening s keep [] r = omega arith
kept_version opening s keep (Done c ∷ h) r =
    rw (logical_keep opening (keep c) c (kept keep h) s)
    (kept_step (change_at c.changes s) (keep c) (logical opening (kept keep h) s) (logical opening h s) (kept_version opening s keep h r.1) r.0)
kept_version opening s keep (Doubt m ∷ h) r = kept_version opening s keep h r

raises_less : (o : Option Change) (less more : Block) → (version_of less) ≤ (version_of more) → Raises o more → Raises o less
raises_less None less more le r = tt
raises_less (Some x) less more le r = omega arith

pub rising_kept : (opening : ℕ → Block) (s : ℕ) (keep : Commit → Bool) (h : List Item) → Rising opening s h → Rising opening s (kept keep h)
rising_kept opening s keep [] r = tt
rising_kept opening s keep (Done c ∷ h) r =
    by_keep (Rising opening s) (keep c) (Done c) (kept keep h)
    (λ t. (raises_less (change_at c.changes s) (logical opening (kept keep h) s) (logical opening h s) (kept_version opening s keep h r.1) r.0, rising_kept opening s keep h r.1))
    (λ t. rising_kept opening s keep h r.1)
rising_kept opening s keep (Doubt m ∷ h) r = rising_kept opening s keep h r

-- a change that is in place is skipped
skipped : (o : Option Change) (block : Block) → AtMost o (version_of block) → redone o block ≡ block
skipped None block h = refl
skipped (Some x) block h = rw (le-ltb (version_of block) x.version h)

made : (x : Change) (block : Block) → (version_of block) < x.version → redone (Some x) block ≡ forced (Some x) block
made x block h = rw (lt-ltb (version_of block) x.version h)

skip_step : (o : Option Change) (b : Bool) (block : Block) → (b ≡ true → AtMost o (version_of block)) → (if b then redone o block else block) ≡ block
skip_step o true block h = skipped o block (h refl)
skip_step o false block h = refl

pub own_by : (d f : ℕ) (c : Commit) → is_own d f c ≡ true → c.by ≡ d
own_by d f c e = by_test (λ b. b ≡ true → c.by ≡ d) (nat_lt f c.op) false (nat_eq c.by d) (λ g i. eqb-true c.by d g) (λ g i. cc) e

-- a replay of d's records leaves the sector where they are in place
pub all_skipped : (d f k s : ℕ) (block : Block) (h : List Item) → Each (λ c. c.by ≡ d → AtMost (change_at c.changes s) (version_of block)) h → redo_all (up_to k (own d f h)) s block ≡ block
all_skipped d f k s block [] e = refl
all_skipped d f k s block (Done c ∷ h) e =
    rw (up_keep k (is_own d f c) (redo_of c) (own d f h), redo_keep (is_own d f c && nat_le c.op k) (redo_of c) (up_to k (own d f h)) s block, all_skipped d f k s block h e.1)
    (skip_step (change_at c.changes s) (is_own d f c && nat_le c.op k) block (λ g. e.0 (own_by d f c (and_parts (is_own d f c) (nat_le c.op k) g).0)))
all_skipped d f k s block (Doubt m ∷ h) e = all_skipped d f k s block h e

-- the history without operations that are not durable, at a sector where all are
keep_all_step : (o : Option Change) (b : Bool) (block : Block) → (IsSome o → b ≡ true) → (if b then forced o block else block) ≡ forced o block
keep_all_step None true block h = refl
keep_all_step None false block h = refl
keep_all_step (Some x) true block h = refl
keep_all_step (Some x) false block h = cc (h refl)

pub kept_logical : (opening : ℕ → Block) (s : ℕ) (keep : Commit → Bool) (h : List Item) → Each (λ c. Changes s c → keep c ≡ true) h → logical opening (kept keep h) s ≡ logical opening h s
kept_logical opening s keep [] e = refl
kept_logical opening s keep (Done c ∷ h) e =
    rw (logical_keep opening (keep c) c (kept keep h) s, kept_logical opening s keep h e.1)
    (keep_all_step (change_at c.changes s) (keep c) (logical opening h s) e.0)
kept_logical opening s keep (Doubt m ∷ h) e = kept_logical opening s keep h e

same_step : (o : Option Change) (mine fits keep : Bool) (block : Block) → (IsSome o → mine ≡ true) → (IsSome o → keep ≡ fits) → Raises o block → (if (mine && fits) then redone o block else block) ≡ (if keep then forced o block else block)
same_step None true true true block h i r = refl
same_step None true true false block h i r = refl
same_step None true false true block h i r = refl
same_step None true false false block h i r = refl
same_step None false fits true block h i r = refl
same_step None false fits false block h i r = refl
same_step (Some x) true true true block h i r = made x block r
same_step (Some x) true false false block h i r = refl
same_step (Some x) true true false block h i r = cc (i refl)
same_step (Some x) true false true block h i r = cc (i refl)
same_step (Some x) false fits keep block h i r = cc (h refl)

-- A replay of d's durable records makes of the sector what the history is without the operations that are not durable,
-- where only d has operations on it that are not in place.
pub replayed_is : (opening : ℕ → Block) (durable : ℕ → ℕ) (s d f : ℕ) (P : Commit → Type 0) (block : Block) (keep : Commit → Bool)
    → ((c : Commit) → P c → (c.by ≡ d) × (f < c.op))
    → ((c : Commit) → c.op ≤ durable c.by → keep c ≡ true)
    → ((c : Commit) → c.by ≡ d → keep c ≡ nat_le c.op (durable d))
    → (h : List Item) → OnDisk opening durable s P block h → Rising opening s h
    → redo_all (up_to (durable d) (own d f h)) s block ≡ logical opening (kept keep h) s
replayed_is opening durable s d f P block keep mine stays goes h (in_place e a) r =
    all_skipped d f (durable d) s block h (each_map (λ c. AtMost (change_at c.changes s) (version_of block)) (λ c. c.by ≡ d → AtMost (change_at c.changes s) (version_of block)) (λ c m i. m) h (subst (λ x. Each (λ c. AtMost (change_at c.changes s) (version_of x)) h) (sym e) (rising_bound opening s h r)))
    ∙ e ∙ sym (kept_logical opening s keep h (each_map (λ c. Changes s c → c.op ≤ durable c.by) (λ c. Changes s c → keep c ≡ true) (λ c i w. stays c (i w)) h a))
replayed_is opening durable s d f P block keep mine stays goes (Done c ∷ h) (pending p o) r =
    rw (up_keep (durable d) (is_own d f c) (redo_of c) (own d f h), redo_keep (is_own d f c && nat_le c.op (durable d)) (redo_of c) (up_to (durable d) (own d f h)) s block, logical_keep opening (keep c) c (kept keep h) s, replayed_is opening durable s d f P block keep mine stays goes h o r.1)
    (same_step (change_at c.changes s) (is_own d f c) (nat_le c.op (durable d)) (keep c) (logical opening (kept keep h) s)
    (λ w. rw (eq-eqb c.by d (mine c (p w)).0) (lt-ltb f c.op (mine c (p w)).1))
    (λ w. goes c (mine c (p w)).0)
    (raises_less (change_at c.changes s) (logical opening (kept keep h) s) (logical opening h s) (kept_version opening s keep h r.1) r.0))
replayed_is opening durable s d f P block keep mine stays goes (Doubt m ∷ h) (passed o) r = replayed_is opening durable s d f P block keep mine stays goes h o r

-- what may be pending, after a change of what that means or of what is durable
pub on_disk_map : (opening : ℕ → Block) (durable later : ℕ → ℕ) (s : ℕ) (P Q : Commit → Type 0) (block : Block)
    → ((d : ℕ) → durable d ≤ later d) → ((c : Commit) → Changes s c → P c → Q c)
    → (h : List Item) → OnDisk opening durable s P block h → OnDisk opening later s Q block h
on_disk_map opening durable later s P Q block le f h (in_place e a) =
    in_place e (each_map (λ c. Changes s c → c.op ≤ durable c.by) (λ c. Changes s c → c.op ≤ later c.by) (λ c i w. let m : c.op ≤ durable c.by = i w in let n : durable c.by ≤ later c.by = le c.by in omega arith) h a)
on_disk_map opening durable later s P Q block le f (Done c ∷ h) (pending p o) =
    pending (λ w. f c w (p w)) (on_disk_map opening durable later s P Q block le f h o)
on_disk_map opening durable later s P Q block le f (Doubt m ∷ h) (passed o) = passed (on_disk_map opening durable later s P Q block le f h o)

-- an operation that is not durable and changed the sector is pending
pub lost_pending : (opening : ℕ → Block) (durable : ℕ → ℕ) (s : ℕ) (P : Commit → Type 0) (block : Block) (h : List Item)
    → OnDisk opening durable s P block h → Each (λ c. Changes s c → durable c.by < c.op → P c) h
lost_pending opening durable s P block h (in_place e a) =
    each_map (λ c. Changes s c → c.op ≤ durable c.by) (λ c. Changes s c → durable c.by < c.op → P c) (λ c i w n. let m : c.op ≤ durable c.by = i w in absurd (omega arith)) h a
lost_pending opening durable s P block (Done c ∷ h) (pending p o) = (λ w n. p w, lost_pending opening durable s P block h o)
lost_pending opening durable s P block (Doubt m ∷ h) (passed o) = lost_pending opening durable s P block h o

-- where what is pending is durable, all is
pub all_durable : (opening : ℕ → Block) (durable : ℕ → ℕ) (s : ℕ) (P : Commit → Type 0) (block : Block) → ((c : Commit) → P c → c.op ≤ durable c.by)
    → (h : List Item) → OnDisk opening durable s P block h → AllDurable durable s h
all_durable opening durable s P block f h (in_place e a) = a
all_durable opening durable s P block f (Done c ∷ h) (pending p o) = (λ w. f c (p w), all_durable opening durable s P block f h o)
all_durable opening durable s P block f (Doubt m ∷ h) (passed o) = all_durable opening durable s P block f h o

pub unchanged : (o : Option Change) (block : Block) → (IsSome o → ⊥) → forced o block ≡ block
unchanged None block n = refl
unchanged (Some x) block n = absurd (n refl)

-- where nothing is pending, the disk has the sector of the history
pub all_in_place : (opening : ℕ → Block) (durable : ℕ → ℕ) (s : ℕ) (P : Commit → Type 0) (block : Block) → ((c : Commit) → Changes s c → P c → ⊥)
    → (h : List Item) → OnDisk opening durable s P block h → block ≡ logical opening h s
all_in_place opening durable s P block f h (in_place e a) = e
all_in_place opening durable s P block f (Done c ∷ h) (pending p o) = all_in_place opening durable s P block f h o ∙ sym (unchanged (change_at c.changes s) (logical opening h s) (λ w. f c w (p w)))
all_in_place opening durable s P block f (Doubt m ∷ h) (passed o) = all_in_place opening durable s P block f h o

-- something is pending, or nothing
pub pending_or_not : (opening : ℕ → Block) (durable : ℕ → ℕ) (s : ℕ) (P : Commit → Type 0) (block : Block) (h : List Item)
    → OnDisk opening durable s P block h → ((c : Commit) × P c) ⊎ ((block ≡ logical opening h s) × AllDurable durable s h)
pending_or_not opening durable s P block h (in_place e a) = inr (e, a)
pending_or_not opening durable s P block (Done c ∷ h) (pending p o) =
    ⊎_elim (λ w. inl (c, p w))
    (λ n. ⊎_elim inl (λ r. inr (r.0 ∙ sym (unchanged (change_at c.changes s) (logical opening h s) n), (λ w. absurd (n w), r.1))) (pending_or_not opening durable s P block h o))
    (some_or (change_at c.changes s))
pending_or_not opening durable s P block (Doubt m ∷ h) (passed o) = pending_or_not opening durable s P block h o

not_at_most : (o : Option Change) (n : ℕ) → (IsSome o → ⊥) → AtMost o n
not_at_most None n w = tt
not_at_most (Some x) n w = absurd (w refl)

-- what isn't pending is in place
pub in_place_or : (opening : ℕ → Block) (durable : ℕ → ℕ) (s : ℕ) (P : Commit → Type 0) (block : Block) (h : List Item)
    → OnDisk opening durable s P block h → Rising opening s h → Each (λ c. P c ⊎ AtMost (change_at c.changes s) (version_of block)) h
in_place_or opening durable s P block h (in_place e a) r =
    each_map (λ c. AtMost (change_at c.changes s) (version_of block)) (λ c. P c ⊎ AtMost (change_at c.changes s) (version_of block)) (λ c m. inr m) h
    (subst (λ x. Each (λ c. AtMost (change_at c.changes s) (version_of x)) h) (sym e) (rising_bound opening s h r))
in_place_or opening durable s P block (Done c ∷ h) (pending p o) r =
    (⊎_elim (λ w. inl (p w)) (λ n. inr (not_at_most (change_at c.changes s) (version_of block) n)) (some_or (change_at c.changes s)), in_place_or opening durable s P block h o r.1)
in_place_or opening durable s P block (Doubt m ∷ h) (passed o) r = in_place_or opening durable s P block h o r

-- the sector on the disk is not newer than the history's
pub disk_version : (opening : ℕ → Block) (durable : ℕ → ℕ) (s : ℕ) (P : Commit → Type 0) (block : Block) (h : List Item)
    → OnDisk opening durable s P block h → Rising opening s h → (version_of block) ≤ (version_of (logical opening h s))
disk_version opening durable s P block h (in_place e a) r = le_of_eq (ap (λ x. (version_of x)) e)
disk_version opening durable s P block (Done c ∷ h) (pending p o) r =
    le_trans (disk_version opening durable s P block h o r.1) (raised (change_at c.changes s) (logical opening h s) r.0)
disk_version opening durable s P block (Doubt m ∷ h) (passed o) r = disk_version opening durable s P block h o r

-- removing operations none of which changed the sector leaves it
pub on_disk_kept : (opening : ℕ → Block) (durable : ℕ → ℕ) (s : ℕ) (P : Commit → Type 0) (block : Block) (keep : Commit → Bool) (h : List Item)
    → Each (λ c. Changes s c → keep c ≡ true) h → OnDisk opening durable s P block h → OnDisk opening durable s P block (kept keep h)
on_disk_kept opening durable s P block keep h k (in_place e a) =
    in_place (e ∙ sym (kept_logical opening s keep h k)) (each_kept (λ c. Changes s c → c.op ≤ durable c.by) keep h a)
on_disk_kept opening durable s P block keep (Done c ∷ h) k (pending p o) =
    by_keep (OnDisk opening durable s P block) (keep c) (Done c) (kept keep h)
    (λ e. pending p (on_disk_kept opening durable s P block keep h k.1 o))
    (λ e. on_disk_kept opening durable s P block keep h k.1 o)
on_disk_kept opening durable s P block keep (Doubt m ∷ h) k (passed o) = passed (on_disk_kept opening durable s P block keep h k o)
