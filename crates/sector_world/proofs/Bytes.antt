-- Histories of bytes, and what a recovery leaves of what is known.
use Rattle.std.proofs.Common.{if◌then◌else◌, ⊎_elim, le_trans, ℕ, ◌<◌, ◌≤◌, ◌≡◌, ◌≢◌, ◌⊎◌, inr, Bool, true, false, List, [], ◌∷◌, Option, Some, None, IsTrue, IsSome, is_some, nat_eq, nat_lt, nat_le, refl, sym, ◌∙◌, ap, subst, arith}
use Rattle.std.proofs.lemmas.Bool.{cases_Bool, cases_eq, eq-eqb, lt-ltb, leb-true, eqb-true}
use Rattle.sector_bytes.specs.Blocks.{Block}
use Rattle.sector_world.specs.Histories.{Fill, Commit, Item, kept, survives, doubt_step, in_doubt, recovered, reaches, Each, OpsRise, Writes}
use Rattle.sector_world.specs.Histories.Fill.{Written, Freed}
use Rattle.sector_world.specs.Histories.Item.{Done, Doubt}
use Rattle.sector_world.specs.HistoryBytes.{filled, turned, value, is_free_by, is_free, Known, AllWritten, OnData, Agree}
use Rattle.sector_world.specs.HistoryBytes.OnData.{here, newer, marked}
use Rattle.sector_world.specs.Seen.{IsLost, Alters, Unseen}
use Rattle.frang_base.proofs.Basics.{by_test, by_keep, le_or_lt, true_or}
use Rattle.sector_world.proofs.HistoryLaws.{each_map, each_kept}
use Rattle.sector_world.proofs.Removals.{survives_low}

pub survives_up : (d k : ℕ) (a : Commit) → a.by ≡ d → survives d k a ≡ true → a.op ≤ k
survives_up d k a e s = leb-true a.op k (subst (λ b. (if b then nat_le a.op k else true) ≡ true) (eq-eqb a.by d e) s)

pub none_writes : (o : Option Fill) → (IsSome o → ⊥) → o ≡ None
none_writes None n = refl
none_writes (Some v) n = absurd (n refl)

-- whether a sector is free, where all its writes stay
free_step : (o : Option Fill) (older newer' : Bool) → older ≡ newer' → is_free_by o older ≡ is_free_by o newer'
free_step o older newer' e = ap (is_free_by o) e

free_gone : (o : Option Fill) (old : Bool) → (IsSome o → ⊥) → old ≡ is_free_by o old
free_gone None old n = refl
free_gone (Some v) old n = absurd (n refl)

pub free_kept : (first : ℕ → Option Block) (s : ℕ) (keep : Commit → Bool) (h : List Item) → Each (λ a. Writes s a → keep a ≡ true) h → is_free first (kept keep h) s ≡ is_free first h s
free_kept first s keep [] k = refl
free_kept first s keep (Doubt m ∷ h) k = free_kept first s keep h k
free_kept first s keep (Done a ∷ h) k =
    by_keep (λ x. is_free first x s ≡ is_free first (Done a ∷ h) s) (keep a) (Done a) (kept keep h)
    (λ i. free_step (a.writes s) (is_free first (kept keep h) s) (is_free first h s) (free_kept first s keep h k.1))
    (λ i. free_kept first s keep h k.1 ∙ free_gone (a.writes s) (is_free first h s) (λ w. let q : keep a ≡ true = k.0 w in cc))

-- where all writes stay and each read that stays showed what was known, what is known is as before
step_more : (t : Bool) (wr : Option Fill) (sh less more : Option Block) (free : Bool) → (IsSome wr → t ≡ true) → is_free_by wr free ≡ false
    → (free ≡ false → (u : Block) → less ≡ Some u → more ≡ Some u) → (free ≡ false → (x u : Block) → t ≡ true → sh ≡ Some x → more ≡ Some u → u ≡ x)
    → (u : Block) → (if t then filled wr (turned sh less) else less) ≡ Some u → (if t then filled wr (turned sh more) else more) ≡ Some u
step_more true (Some (Written v)) sh less more free w fr f g u e = e
step_more true (Some Freed) sh less more free w fr f g u e = e
step_more true None None less more free w fr f g u e = f fr u e
step_more true None (Some x) (Some y) more free w fr f g u e = rw (f fr y refl) e
step_more true None (Some x) None None free w fr f g u e = e
step_more true None (Some x) None (Some y) free w fr f g u e = ap Some (g fr x y refl refl refl) ∙ e
step_more false None sh less more free w fr f g u e = f fr u e
step_more false (Some v) sh less more free w fr f g u e = let q = w refl in cc

removed_more : (t : Bool) (wr : Option Fill) (sh more : Option Block) (u : Block) → (IsSome wr → ⊥) → more ≡ Some u → (if t then filled wr (turned sh more) else more) ≡ Some u
removed_more true None None more u n e = e
removed_more true None (Some x) None u n e = cc
removed_more true None (Some x) (Some y) u n e = e
removed_more true (Some v) sh more u n e = absurd (n refl)
removed_more false wr sh more u n e = e

pub writes_reach : (a : Commit) (s : ℕ) → Writes s a → IsTrue (reaches a s)
writes_reach a s w = subst (λ b. IsTrue (if b then true else a.sees s)) (sym w) refl

pub free_before : (o : Option Fill) (old : Bool) → (IsSome o → ⊥) → is_free_by o old ≡ false → old ≡ false
free_before None old n e = e
free_before (Some v) old n e = absurd (n refl)

pub value_kept : (first : ℕ → Option Block) (s : ℕ) (keep : Commit → Bool) (h : List Item) → Each (λ a. Writes s a → keep a ≡ true) h → Agree first h
    → is_free first h s ≡ false → (u : Block) → value first (kept keep h) s ≡ Some u → value first h s ≡ Some u
value_kept first s keep [] k g fr u e = e
value_kept first s keep (Doubt m ∷ h) k g fr u e =
    by_test (λ o. (if m s then None else value first (kept keep h) s) ≡ Some u → o ≡ Some u) None (value first h s) (m s)
    (λ i j. subst (λ b. (if b then None else value first (kept keep h) s) ≡ Some u) i j)
    (λ i j. value_kept first s keep h k g fr u (subst (λ b. (if b then None else value first (kept keep h) s) ≡ Some u) i j)) e
value_kept first s keep (Done a ∷ h) k g fr u e =
    by_keep (λ x. value first x s ≡ Some u → value first (Done a ∷ h) s ≡ Some u) (keep a) (Done a) (kept keep h)
    (λ i j. step_more (reaches a s) (a.writes s) (a.shown s) (value first (kept keep h) s) (value first h s) (is_free first h s) (writes_reach a s) fr
    (λ z v q. value_kept first s keep h k.1 g.1 z v q) (λ z x v i p q. g.0 s v x i p z q) u j)
    (λ i j. let n : Writes s a → ⊥ = (λ w. let q : keep a ≡ true = k.0 w in cc) in
    removed_more (reaches a s) (a.writes s) (a.shown s) (value first h s) u n (value_kept first s keep h k.1 g.1 (free_before (a.writes s) (is_free first h s) n fr) u j)) e

-- what was known stays so, where all writes stay
pub known_kept : (first : ℕ → Option Block) (s : ℕ) (v : Block) (keep : Commit → Bool) (h : List Item) → Each (λ a. Writes s a → keep a ≡ true) h → Agree first h → Known first s v h → Known first s v (kept keep h)
known_kept first s v keep h k g kn u fr e =
    let old : is_free first h s ≡ false = sym (free_kept first s keep h k) ∙ fr in
    kn u old (value_kept first s keep h k g old u e)

-- what is pending under another reading of it
pub data_map : (first : ℕ → Option Block) (durable later : ℕ → ℕ) (s : ℕ) (P Q : Commit → List Item → Type 0) (v : Block) → ((d : ℕ) → durable d ≤ later d) → ((a : Commit) (g : List Item) → IsTrue (reaches a s) → P a g → Q a g)
    → (h : List Item) → OnData first durable s P v h → OnData first later s Q v h
data_map first durable later s P Q v le f h (here k a) =
    here k (each_map (λ a. Writes s a → a.op ≤ durable a.by) (λ a. Writes s a → a.op ≤ later a.by) (λ a m w. le_trans (m w) (le a.by)) h a)
data_map first durable later s P Q v le f (Done a ∷ h) (newer p o) = newer (λ t. f a h t (p t)) (data_map first durable later s P Q v le f h o)
data_map first durable later s P Q v le f (Doubt m ∷ h) (marked o) = marked (data_map first durable later s P Q v le f h o)

pub untouched : (t : Bool) (wr : Option Fill) (sh old : Option Block) → (IsTrue t → ⊥) → (if t then filled wr (turned sh old) else old) ≡ old
untouched true wr sh old n = absurd (n refl)
untouched false wr sh old n = refl

pub known_marked : (first : ℕ → Option Block) (s : ℕ) (v : Block) (m : ℕ → Bool) (h : List Item) → Known first s v h → Known first s v (Doubt m ∷ h)
known_marked first s v m h k u fr e =
    by_test (λ o. o ≡ Some u → u ≡ v) None (value first h s) (m s) (λ i j. cc) (λ i j. k u fr j) e

-- what was known before an operation that doesn't reach the sector
pub known_past : (first : ℕ → Option Block) (s : ℕ) (v : Block) (a : Commit) (h : List Item) → (IsTrue (reaches a s) → ⊥) → Known first s v h → Known first s v (Done a ∷ h)
known_past first s v a h n k u fr e =
    k u (free_before (a.writes s) (is_free first h s) (λ w. n (writes_reach a s w)) fr)
    (sym (untouched (reaches a s) (a.writes s) (a.shown s) (value first h s) n) ∙ e)

-- where nothing is pending the disk has what is known
pub data_in_place : (first : ℕ → Option Block) (durable : ℕ → ℕ) (s : ℕ) (P : Commit → List Item → Type 0) (v : Block) → ((a : Commit) (g : List Item) → P a g → ⊥)
    → (h : List Item) → OnData first durable s P v h → Known first s v h × AllWritten durable s h
data_in_place first durable s P v f h (here k a) = (k, a)
data_in_place first durable s P v f (Done a ∷ h) (newer p o) =
    let r = data_in_place first durable s P v f h o in
    let n : IsTrue (reaches a s) → ⊥ = λ t. f a h (p t) in
    (known_past first s v a h n r.0, ((λ w. absurd (n (writes_reach a s w))), r.1))
data_in_place first durable s P v f (Doubt m ∷ h) (marked o) =
    let r = data_in_place first durable s P v f h o in (known_marked first s v m h r.0, r.1)

-- where what is pending is durable, all is
pub data_durable : (first : ℕ → Option Block) (durable : ℕ → ℕ) (s : ℕ) (P : Commit → List Item → Type 0) (v : Block) → ((a : Commit) (g : List Item) → Writes s a → P a g → a.op ≤ durable a.by)
    → (h : List Item) → OnData first durable s P v h → AllWritten durable s h
data_durable first durable s P v f h (here k a) = a
data_durable first durable s P v f (Done a ∷ h) (newer p o) = ((λ w. f a h w (p (writes_reach a s w))), data_durable first durable s P v f h o)
data_durable first durable s P v f (Doubt m ∷ h) (marked o) = data_durable first durable s P v f h o

-- doubt stays where another server's operations go
pub doubt_kept : (b n s d k : ℕ) → b ≢ d → (h : List Item) → in_doubt b n h s ≡ true → in_doubt b n (kept (survives d k) h) s ≡ true
doubt_kept b n s d k ne [] e = e
doubt_kept b n s d k ne (Doubt m ∷ h) e = doubt_kept b n s d k ne h e
doubt_kept b n s d k ne (Done a ∷ h) e =
    by_keep (λ x. in_doubt b n x s ≡ true) (survives d k a) (Done a) (kept (survives d k) h)
    (λ i. step (is_some (a.writes s)) (a.sees s) (nat_eq a.by b) (nat_lt n a.op) (in_doubt b n h s) (in_doubt b n (kept (survives d k) h) s) (doubt_kept b n s d k ne h) e)
    (λ i. gone (is_some (a.writes s)) (a.sees s) (nat_eq a.by b) (nat_lt n a.op) (in_doubt b n h s) (in_doubt b n (kept (survives d k) h) s) (λ j. let q : survives d k a ≡ true = survives_low d k a (λ l. absurd (ne (sym (eqb-true a.by b j) ∙ l))) in cc) (doubt_kept b n s d k ne h) e)
  where
    step : (wr lk own un old new : Bool) → (old ≡ true → new ≡ true) → doubt_step wr lk own un old ≡ true → doubt_step wr lk own un new ≡ true
    step true lk own un old new f e = e
    step false true true un old new f e = f e
    step false true false un old new f e = e
    step false false own un old new f e = f e

    gone : (wr lk own un old new : Bool) → (own ≡ true → ⊥) → (old ≡ true → new ≡ true) → doubt_step wr lk own un old ≡ true → new ≡ true
    gone true lk true un old new n f e = absurd (n refl)
    gone true lk false un old new n f e = cc
    gone false true true un old new n f e = absurd (n refl)
    gone false true false un old new n f e = cc
    gone false false own un old new n f e = f e

pub kept_id : (keep : Commit → Bool) (h : List Item) → Each (λ a. keep a ≡ true) h → kept keep h ≡ h
kept_id keep [] e = refl
kept_id keep (Done a ∷ h) e = rw (e.0, kept_id keep h e.1)
kept_id keep (Doubt m ∷ h) e = ap (λ x. Doubt m ∷ x) (kept_id keep h e)

sure : (wr lk own un older : Bool) → own ≡ true → (wr ≡ true → un ≡ true) → (wr ≡ false → (lk ≡ true) × (older ≡ true)) → doubt_step wr lk own un older ≡ true
sure true lk own un older o w r = rw o (w refl)
sure false lk own un older o w r = rw ((r refl).0, o) (r refl).1

passed_by : (wr lk own un older : Bool) → ((if wr then true else lk) ≡ true → ⊥) → doubt_step wr lk own un older ≡ older
passed_by true lk own un older n = absurd (n refl)
passed_by false true own un older n = absurd (n refl)
passed_by false false own un older n = refl

looked_if : (wr lk : Bool) → wr ≡ false → (if wr then true else lk) ≡ true → lk ≡ true
looked_if true lk e t = cc
looked_if false lk e t = t

-- what a recovery of d's log must know of what is pending: it is d's, a write isn't synced, and a read came after such a write or of a free sector
abbrev pub IsLoose : (ℕ → Option Block) → ℕ → ℕ → ℕ → Commit → List Item → Type 0
IsLoose first s d n a g = (a.by ≡ d) × (Writes s a → n < a.op) × ((Writes s a → ⊥) → (in_doubt d n g s ≡ true) ⊎ (is_free first g s ≡ true))

-- what a recovery doesn't leave in doubt is what the disk has
pub finish_known : (first : ℕ → Option Block) (durable : ℕ → ℕ) (s d n : ℕ) (P : Commit → List Item → Type 0) (v : Block)
    → ((a : Commit) (g : List Item) → P a g → IsLoose first s d n a g)
    → (h : List Item) → OpsRise h → Agree first h → OnData first durable s P v h
    → in_doubt d n (kept (survives d (durable d)) h) s ≡ false → Known first s v (kept (survives d (durable d)) h)
finish_known first durable s d n P v f h ops g (here k a) nd =
    known_kept first s v (survives d (durable d)) h
    (each_map (λ a. Writes s a → a.op ≤ durable a.by) (λ a. Writes s a → survives d (durable d) a ≡ true) (λ a m w. survives_low d (durable d) a (λ q. subst (λ x. a.op ≤ durable x) q (m w))) h a) g k
finish_known first durable s d n P v f (Doubt m ∷ h) ops g (marked o) nd =
    known_marked first s v m (kept (survives d (durable d)) h) (finish_known first durable s d n P v f h ops g o nd)
finish_known first durable s d n P v f (Done a ∷ h) ops g (newer p o) nd =
    by_keep (λ x. in_doubt d n x s ≡ false → Known first s v x) (survives d (durable d) a) (Done a) (kept (survives d (durable d)) h)
    (λ i j. ⊎_elim
    (λ t. let q : IsLoose first s d n a h = f a h (p t) in
    let same : kept (survives d (durable d)) h ≡ h = kept_id (survives d (durable d)) h
    (each_map (λ e. e.by ≡ a.by → e.op < a.op) (λ e. survives d (durable d) e ≡ true)
    (λ e m. survives_low d (durable d) e (λ l. let x : e.op < a.op = m (l ∙ sym q.0) in let y : a.op ≤ durable d = survives_up d (durable d) a q.0 i in omega arith)) h ops.0) in
    ⊎_elim
    (λ w. let bad : doubt_step (is_some (a.writes s)) (a.sees s) (nat_eq a.by d) (nat_lt n a.op) (in_doubt d n (kept (survives d (durable d)) h) s) ≡ true =
    sure (is_some (a.writes s)) (a.sees s) (nat_eq a.by d) (nat_lt n a.op) (in_doubt d n (kept (survives d (durable d)) h) s) (eq-eqb a.by d q.0)
    (λ z. lt-ltb n a.op (q.1 z)) (λ z. absurd (cc)) in
    absurd (cc))
    (λ w. let none : Writes s a → ⊥ = (λ z. cc) in
    ⊎_elim
    (λ y. let bad : doubt_step (is_some (a.writes s)) (a.sees s) (nat_eq a.by d) (nat_lt n a.op) (in_doubt d n (kept (survives d (durable d)) h) s) ≡ true =
    sure (is_some (a.writes s)) (a.sees s) (nat_eq a.by d) (nat_lt n a.op) (in_doubt d n (kept (survives d (durable d)) h) s) (eq-eqb a.by d q.0)
    (λ z. absurd (none z)) (λ z. (looked_if (is_some (a.writes s)) (a.sees s) z t, subst (λ x. in_doubt d n x s ≡ true) (sym same) y)) in
    absurd (cc))
    (λ y u fr e. let older : is_free first (kept (survives d (durable d)) h) s ≡ false = free_before (a.writes s) (is_free first (kept (survives d (durable d)) h) s) none fr in
    let z : is_free first (kept (survives d (durable d)) h) s ≡ true = subst (λ x. is_free first x s ≡ true) (sym same) y in absurd (cc))
    (q.2 none))
    (cases_Bool (is_some (a.writes s))))
    (λ t. known_past first s v a (kept (survives d (durable d)) h) t
    (finish_known first durable s d n P v f h ops.1 g.1 o (sym (passed_by (is_some (a.writes s)) (a.sees s) (nat_eq a.by d) (nat_lt n a.op) (in_doubt d n (kept (survives d (durable d)) h) s) t) ∙ j)))
    (true_or (reaches a s)))
    (λ i j. finish_known first durable s d n P v f h ops.1 g.1 o j)
    nd

-- the bytes known after a recovery, with its marks
pub recovered_known : (first : ℕ → Option Block) (s d k n : ℕ) (v : Block) (h : List Item) → (in_doubt d n (kept (survives d k) h) s ≡ false → Known first s v (kept (survives d k) h)) → Known first s v (recovered d k n h)
recovered_known first s d k n v h f u fr e =
    by_test (λ o. o ≡ Some u → u ≡ v) None (value first (kept (survives d k) h) s) (in_doubt d n (kept (survives d k) h) s) (λ i j. cc) (λ i j. f i u fr j) e

pub agree_kept : (first : ℕ → Option Block) (d k : ℕ) (h : List Item) → OpsRise h → Unseen d k h → Agree first h → Agree first (kept (survives d k) h)
agree_kept first d k [] o u g = tt
agree_kept first d k (Doubt m ∷ h) o u g = agree_kept first d k h o u g
agree_kept first d k (Done a ∷ h) o u g =
    by_keep (Agree first) (survives d k a) (Done a) (kept (survives d k) h)
    (λ i. (
      (λ s x v t sh fr e.
          let stay : Each (λ e. Writes s e → survives d k e ≡ true) h =
          ⊎_elim
          (λ q. each_map (λ e. e.by ≡ a.by → e.op < a.op) (λ e. Writes s e → survives d k e ≡ true)
          (λ e m w. survives_low d k e (λ l. let y : e.op < a.op = m (l ∙ sym q) in let z : a.op ≤ k = survives_up d k a q i in omega arith)) h o.0)
          (λ q. each_map (λ e. IsLost d k e → Alters s e → ⊥) (λ e. Writes s e → survives d k e ≡ true)
          (λ e m w. survives_low d k e (λ l. ⊎_elim (λ y. y) (λ y. absurd (m (record { of = l; above = y }) (inr (inr w)))) (le_or_lt e.op k))) h (u.0 q s (inr (inr t))))
          (cases_eq a.by d) in
          let old : is_free first h s ≡ false = sym (free_kept first s (survives d k) h stay) ∙ fr in
          g.0 s x v t sh old (value_kept first s (survives d k) h stay g.1 old x e)),
      agree_kept first d k h o.1 u.1 g.1,
    ))
    (λ i. agree_kept first d k h o.1 u.1 g.1)

-- a cell keeps its place where no write of the sector goes
pub data_kept : (first : ℕ → Option Block) (durable : ℕ → ℕ) (s : ℕ) (P Q : Commit → List Item → Type 0) (v : Block) (d k : ℕ)
    → ((a : Commit) (g : List Item) → Each (λ e. Writes s e → survives d k e ≡ true) g → P a g → Q a (kept (survives d k) g))
    → (h : List Item) → Each (λ a. Writes s a → survives d k a ≡ true) h → Agree first h → OnData first durable s P v h → OnData first durable s Q v (kept (survives d k) h)
data_kept first durable s P Q v d k f h e g (here kn a) = here (known_kept first s v (survives d k) h e g kn) (each_kept (λ a. Writes s a → a.op ≤ durable a.by) (survives d k) h a)
data_kept first durable s P Q v d k f (Done a ∷ h) e g (newer p o) =
    by_keep (OnData first durable s Q v) (survives d k a) (Done a) (kept (survives d k) h)
    (λ i. newer (λ t. f a h e.1 (p t)) (data_kept first durable s P Q v d k f h e.1 g.1 o))
    (λ i. data_kept first durable s P Q v d k f h e.1 g.1 o)
data_kept first durable s P Q v d k f (Doubt m ∷ h) e g (marked o) = marked (data_kept first durable s P Q v d k f h e g o)
