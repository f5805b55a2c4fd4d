-- Up to which operation a ring gives up where it gives up the records that begin up to a number: these are its first, and what is left of its records is what is left of the log.
use Rattle.std.proofs.Common.{◌≡◌, ◌↔◌, ◌⊎◌, ◌≤◌, ◌<◌, ℕ, Bool, true, false, not, if◌then◌else◌, List, [], ◌∷◌, ◌++◌, nat_le, nat_lt, map, reverse, refl, sym, ap, ◌∙◌, subst, inl, inr, arith, append-nil, le_refl, le_trans}
use Rattle.std.specs.List.{filter}
use Rattle.std.proofs.lemmas.Bool.{false≢true, le-leb, leb-true, lt-leb}
use Rattle.std.proofs.lemmas.Bool.Decides.{nat_tests}
use Rattle.std.proofs.lemmas.List.Elements.{filter-append}
use mathlib.Core.List.{reverse-cons}
use Rattle.frang_base.specs.Functions.{keep_if}
use Rattle.frang_base.specs.declared.change.Change.{Change}
use Rattle.frang_base.specs.declared.change.Redo.{Redo}
use Rattle.sector_bytes.specs.Replays.{above, change_at}
use Rattle.disk_definitions.proofs.Listed.{Among, among_either, among_filter, among_left, among_map, among_right}
use Rattle.ring_definitions.specs.RingRuns.{Placed}
use Rattle.sector_world.specs.Guards.{AreBelow, IsBelow}
use Rattle.core_world.specs.Journals.{is_above, records_above, records_up_to}
use Rattle.core_world.specs.Readings.{AllInPlace, changing, keep_changing}
use Rattle.core_readings.proofs.Ascending.{Ascends}

-- ---- the operation up to which it gives up

-- that of the last of these records that begins up to the number; or this one, where none does
abbrev pub given_to : ℕ → ℕ → List Placed → ℕ
given_to n k [] = k
given_to n k (p ∷ ps) = given_to n (if nat_le p.first n then p.redo.op.0 else k) ps

-- operations rise, and no record begins before one in front of it
abbrev pub Rises : ℕ → ℕ → List Placed → Type 0
Rises k f [] = Unit {0}
Rises k f (p ∷ ps) = (k < p.redo.op.0) × (f ≤ p.first) × Rises p.redo.op.0 p.first ps

less_still : (a b c : ℕ) → a < b → b ≤ c → a < c
less_still a b c l m = omega (arith, l, m)

less_le : (a b : ℕ) → a < b → a ≤ b
less_le a b l = omega (arith, l)

no_less : (a b : ℕ) → a ≤ b → b < a → ⊥
no_less a b l m = omega (arith, l, m)

-- behind a greater number none begins up to it
behind : (n k : ℕ) (l f : ℕ) (ps : List Placed) → Rises l f ps → n < f → k ≤ l → (given_to n k ps ≡ k) × ((p : Placed) → Among p ps → (n < p.first) × (k < p.redo.op.0))
behind n k l f [] r h i = (refl, λ p none. absurd none)
behind n k l f (q ∷ ps) r h i =
    let past : n < q.first = less_still n f q.first h r.1 in
    let over : k < q.redo.op.0 = over_it k l q.redo.op.0 i r.0 in
    let rest = behind n k q.redo.op.0 q.first ps r.2 past (less_le k q.redo.op.0 over) in
    (ap (λ (b : Bool). given_to n (if b then q.redo.op.0 else k) ps) (lt-leb q.first n past) ∙ rest.0, each past over rest.1)
  where
    over_it : (x y z : ℕ) → x ≤ y → y < z → x < z
    over_it x y z g j = omega (arith, g, j)

    each : n < q.first → k < q.redo.op.0 → ((p : Placed) → Among p ps → (n < p.first) × (k < p.redo.op.0)) → (p : Placed) → Among p (q ∷ ps) → (n < p.first) × (k < p.redo.op.0)
    each past over rest p (inl e) = subst (λ (y : Placed). (n < y.first) × (k < y.redo.op.0)) (sym e) (past, over)
    each past over rest p (inr j) = rest p j

-- the records that begin up to the number are those up to the operation
pub cut : (n k f : ℕ) (ps : List Placed) → Rises k f ps → (k ≤ given_to n k ps) × ((p : Placed) → Among p ps → (p.redo.op.0 ≤ given_to n k ps) ↔ (p.first ≤ n))
cut n k f [] r = (le_refl k, λ p none. absurd none)
cut n k f (q ∷ ps) r = go (nat_le q.first n) refl (cut n q.redo.op.0 q.first ps r.2)
  where
    here : q.first ≤ n → (q.redo.op.0 ≤ given_to n q.redo.op.0 ps) → ((p : Placed) → Among p ps → (p.redo.op.0 ≤ given_to n q.redo.op.0 ps) ↔ (p.first ≤ n)) → (p : Placed) → Among p (q ∷ ps) →
        (p.redo.op.0 ≤ given_to n q.redo.op.0 ps) ↔ (p.first ≤ n)
    here low top rest p (inl e) = subst (λ (y : Placed). (y.redo.op.0 ≤ given_to n q.redo.op.0 ps) ↔ (y.first ≤ n)) (sym e) ((λ l. low), (λ l. top))
    here low top rest p (inr j) = rest p j

    there : n < q.first → ((p : Placed) → Among p ps → (n < p.first) × (k < p.redo.op.0)) → (p : Placed) → Among p (q ∷ ps) → (p.redo.op.0 ≤ k) ↔ (p.first ≤ n)
    there past rest p (inl e) =
        subst (λ (y : Placed). (y.redo.op.0 ≤ k) ↔ (y.first ≤ n)) (sym e) ((λ l. absurd (no_less q.redo.op.0 k l r.0)), (λ l. absurd (no_less q.first n l past)))
    there past rest p (inr j) = ((λ l. absurd (no_less p.redo.op.0 k l (rest p j).1)), (λ l. absurd (no_less p.first n l (rest p j).0)))

    past_it : (x y : ℕ) → nat_le x y ≡ false → y < x
    past_it x y i = grind (arith, nat_tests, i)

    go : (b : Bool) → nat_le q.first n ≡ b → (q.redo.op.0 ≤ given_to n q.redo.op.0 ps) × ((p : Placed) → Among p ps → (p.redo.op.0 ≤ given_to n q.redo.op.0 ps) ↔ (p.first ≤ n)) →
        (k ≤ given_to n (if b then q.redo.op.0 else k) ps) × ((p : Placed) → Among p (q ∷ ps) → (p.redo.op.0 ≤ given_to n (if b then q.redo.op.0 else k) ps) ↔ (p.first ≤ n))
    go true e rest = (le_trans (less_le k q.redo.op.0 r.0) rest.0, here (leb-true q.first n e) rest.0 rest.1)
    go false e rest =
        let none = behind n k q.redo.op.0 q.first ps r.2 (past_it q.first n e) (less_le k q.redo.op.0 r.0) in
        subst (λ m. (k ≤ m) × ((p : Placed) → Among p (q ∷ ps) → (p.redo.op.0 ≤ m) ↔ (p.first ≤ n))) (sym none.0) (le_refl k, there (past_it q.first n e) none.1)

-- it is one of these operations, or the first
pub given_low : (n k m : ℕ) (ps : List Placed) → k ≤ m → ((p : Placed) → Among p ps → p.redo.op.0 ≤ m) → given_to n k ps ≤ m
given_low n k m [] l all = l
given_low n k m (p ∷ ps) l all = go (nat_le p.first n) (given_low n p.redo.op.0 m ps (all p (inl refl)) (λ q i. all q (inr i))) (given_low n k m ps l (λ q i. all q (inr i)))
  where
    go : (b : Bool) → given_to n p.redo.op.0 ps ≤ m → given_to n k ps ≤ m → given_to n (if b then p.redo.op.0 else k) ps ≤ m
    go true first second = first
    go false first second = second

-- ---- records that rise

-- operations of records
abbrev pub OpsUp : ℕ → List Redo → Type 0
OpsUp k [] = Unit {0}
OpsUp k (r ∷ rs) = (k < r.op.0) × OpsUp r.op.0 rs

both_rise : (k f : ℕ) (ps : List Placed) → OpsUp k (map (λ p. p.redo) ps) → Ascends f ps → Rises k f ps
both_rise k f [] o a = tt
both_rise k f (p ∷ ps) o a = (o.0, a.0, both_rise p.redo.op.0 p.first ps o.1 (ascends_low p.first p.last ps a.1.0 a.1.1))
  where
    ascends_low : (t u : ℕ) (qs : List Placed) → t ≤ u → Ascends u qs → Ascends t qs
    ascends_low t u [] l b = tt
    ascends_low t u (q ∷ qs) l b = (le_trans l b.0, b.1)

ascends_kept : (test : Placed → Bool) (t : ℕ) (ps : List Placed) → Ascends t ps → Ascends t (filter test ps)
ascends_kept test t [] a = tt
ascends_kept test t (p ∷ ps) a = go (test p) (ascends_kept test p.last ps a.1.1)
  where
    low : (u v : ℕ) (qs : List Placed) → u ≤ v → Ascends v qs → Ascends u qs
    low u v [] l b = tt
    low u v (q ∷ qs) l b = (le_trans l b.0, b.1)

    go : (b : Bool) → Ascends p.last (filter test ps) → Ascends t (if b then p ∷ filter test ps else filter test ps)
    go true rest = (a.0, (a.1.0, rest))
    go false rest = low t p.last (filter test ps) (le_trans a.0 a.1.0) rest

-- of the records above an operation
pub above_rise : (k t : ℕ) (ps : List Placed) → OpsUp k (records_above k ps) → Ascends t ps → Rises k t (filter (is_above k) ps)
above_rise k t ps o a = both_rise k t (filter (is_above k) ps) o (ascends_kept (is_above k) t ps a)

-- ---- what is left of the records

filter_turned : {X : Type 0} (f : X → Bool) (xs : List X) → filter f (reverse xs) ≡ reverse (filter f xs)
filter_turned f [] = refl
filter_turned f (x ∷ xs) =
    ap (filter f) (reverse-cons x xs) ∙ filter-append f (reverse xs) (x ∷ []) ∙ ap (λ ys. ys ++ (if f x then x ∷ [] else [])) (filter_turned f xs) ∙ go (f x)
  where
    go : (b : Bool) → reverse (filter f xs) ++ (if b then x ∷ [] else []) ≡ reverse (if b then x ∷ filter f xs else filter f xs)
    go true = sym (reverse-cons x (filter f xs))
    go false = append-nil (reverse (filter f xs))

test_over : (n k : ℕ) → not (nat_le n k) ≡ nat_lt k n
test_over n k = grind (arith, nat_tests)

above_changing : (k : ℕ) (rs : List Redo) → filter (λ r. not (nat_le r.op.0 k)) (changing rs) ≡ changing (above k rs)
above_changing k [] = refl
above_changing k (r ∷ rs) = by (not (nat_le r.op.0 k)) r.changes refl (above_changing k rs) refl ∙ ap (λ b. changing (keep_if b r (above k rs))) (test_over r.op.0 k)
  where
    by : (b : Bool) (cs : List Change) → r.changes ≡ cs → filter (λ q. not (nat_le q.op.0 k)) (changing rs) ≡ changing (above k rs) →
        not (nat_le r.op.0 k) ≡ b → filter (λ q. not (nat_le q.op.0 k)) (keep_changing cs r (changing rs)) ≡ changing (keep_if b r (above k rs))
    by true [] e more t = more ∙ ap (λ l. keep_changing l r (changing (above k rs))) (sym e)
    by false [] e more t = more
    by true (x ∷ xs) e more t =
        ap (λ (b : Bool). if b then r ∷ filter (λ q. not (nat_le q.op.0 k)) (changing rs) else filter (λ q. not (nat_le q.op.0 k)) (changing rs)) t ∙ ap (λ l. r ∷ l) more
        ∙ ap (λ l. keep_changing l r (changing (above k rs))) (sym e)
    by false (x ∷ xs) e more t =
        ap (λ (b : Bool). if b then r ∷ filter (λ q. not (nat_le q.op.0 k)) (changing rs) else filter (λ q. not (nat_le q.op.0 k)) (changing rs)) t ∙ more

-- of records the later ones are above both numbers
twice : (k m : ℕ) → k ≤ m → (ps : List Placed) → records_above m ps ≡ filter (λ r. not (nat_le r.op.0 m)) (records_above k ps)
twice k m l [] = refl
twice k m l (p ∷ ps) = go (nat_le p.redo.op.0 k) refl (nat_le p.redo.op.0 m) refl (twice k m l ps)
  where
    go : (a : Bool) → nat_le p.redo.op.0 k ≡ a → (b : Bool) → nat_le p.redo.op.0 m ≡ b → records_above m ps ≡ filter (λ r. not (nat_le r.op.0 m)) (records_above k ps) →
        map (λ q. q.redo) (if not b then p ∷ filter (is_above m) ps else filter (is_above m) ps)
        ≡ filter (λ r. not (nat_le r.op.0 m)) (map (λ q. q.redo) (if not a then p ∷ filter (is_above k) ps else filter (is_above k) ps))
    go true e true f rest = rest
    go true e false f rest = absurd (false≢true (sym f ∙ le-leb p.redo.op.0 m (le_trans (leb-true p.redo.op.0 k e) l)))
    go false e true f rest = rest ∙ sym (ap (λ (b : Bool). if not b then p.redo ∷ filter (λ r. not (nat_le r.op.0 m)) (records_above k ps) else filter (λ r. not (nat_le r.op.0 m)) (records_above k ps)) f)
    go false e false f rest =
        ap (λ l. p.redo ∷ l) rest ∙ sym (ap (λ (b : Bool). if not b then p.redo ∷ filter (λ r. not (nat_le r.op.0 m)) (records_above k ps) else filter (λ r. not (nat_le r.op.0 m)) (records_above k ps)) f)

pub left_over : (k m : ℕ) (ps : List Placed) (log : List Redo) → k ≤ m → records_above k ps ≡ reverse (changing log) → records_above m ps ≡ reverse (changing (above m log))
left_over k m ps log l e =
    twice k m l ps ∙ ap (filter (λ r. not (nat_le r.op.0 m))) e ∙ filter_turned (λ r. not (nat_le r.op.0 m)) (changing log) ∙ ap (λ rs. reverse rs) (above_changing m log)

-- ---- records in place

pub in_place_parts : (xs ys : List Redo) (s n : ℕ) → AllInPlace (xs ++ ys) s n → AllInPlace xs s n × AllInPlace ys s n
in_place_parts [] ys s n all = (tt, all)
in_place_parts (x ∷ xs) ys s n all = let rest = in_place_parts xs ys s n all.1 in ((all.0, rest.0), rest.1)

pub in_place_both : (xs ys : List Redo) (s n : ℕ) → AllInPlace xs s n → AllInPlace ys s n → AllInPlace (xs ++ ys) s n
in_place_both [] ys s n a b = b
in_place_both (x ∷ xs) ys s n a b = (a.0, in_place_both xs ys s n a.1 b)

pub one_in_place : (rs : List Redo) (s n : ℕ) → AllInPlace rs s n → (r : Redo) → Among r rs → IsBelow (change_at r.changes s) n
one_in_place [] s n all r i = absurd i
one_in_place (x ∷ xs) s n all r (inl e) = subst (λ (q : Redo). IsBelow (change_at q.changes s) n) (sym e) all.0
one_in_place (x ∷ xs) s n all r (inr i) = one_in_place xs s n all.1 r i

pub each_in_place : (k s n : ℕ) (ps : List Placed) → ((p : Placed) → Among p ps → p.redo.op.0 ≤ k → IsBelow (change_at p.redo.changes s) n) → AllInPlace (records_up_to k ps) s n
each_in_place k s n [] all = tt
each_in_place k s n (p ∷ ps) all = go (nat_le p.redo.op.0 k) refl (each_in_place k s n ps (λ q i. all q (inr i)))
  where
    go : (b : Bool) → nat_le p.redo.op.0 k ≡ b → AllInPlace (records_up_to k ps) s n →
        AllInPlace (map (λ q. q.redo) (if b then p ∷ filter (λ q. nat_le q.redo.op.0 k) ps else filter (λ q. nat_le q.redo.op.0 k) ps)) s n
    go true e rest = (all p (inl refl) (leb-true p.redo.op.0 k e), rest)
    go false e rest = rest

-- a record that is given up is among these
pub up_to_has : (k : ℕ) (ps : List Placed) (p : Placed) → Among p ps → p.redo.op.0 ≤ k → Among p.redo (records_up_to k ps)
up_to_has k ps p i l = among_map (λ (q : Placed). q.redo) (filter (λ q. nat_le q.redo.op.0 k) ps) p p.redo (among_filter (λ q. nat_le q.redo.op.0 k) ps p i (le-leb p.redo.op.0 k l)) refl

-- another among those
pub above_has : (k : ℕ) (ps : List Placed) (p : Placed) → Among p ps → k < p.redo.op.0 → Among p.redo (records_above k ps)
above_has k ps p i l =
    among_map (λ (q : Placed). q.redo) (filter (is_above k) ps) p p.redo (among_filter (is_above k) ps p i (ap not (lt-leb p.redo.op.0 k l))) refl

-- of the log
pub changing_has : (rs : List Redo) (r : Redo) → Among r (changing rs) → Among r rs
changing_has [] r i = i
changing_has (x ∷ xs) r i = go x.changes i (changing_has xs r)
  where
    go : (cs : List Change) → Among r (keep_changing cs x (changing xs)) → (Among r (changing xs) → Among r xs) → Among r (x ∷ xs)
    go [] j rest = inr (rest j)
    go (c ∷ cs) (inl e) rest = inl e
    go (c ∷ cs) (inr j) rest = inr (rest j)

-- one with changes stays
pub has_changing : (rs : List Redo) (r : Redo) → (r.changes ≡ [] → ⊥) → Among r rs → Among r (changing rs)
has_changing [] r some i = i
has_changing (x ∷ xs) r some i = go x.changes refl i (has_changing xs r some)
  where
    go : (cs : List Change) → x.changes ≡ cs → Among r (x ∷ xs) → (Among r xs → Among r (changing xs)) → Among r (keep_changing cs x (changing xs))
    go [] e (inl same) rest = absurd (some (ap (λ (q : Redo). q.changes) same ∙ e))
    go [] e (inr j) rest = rest j
    go (c ∷ cs) e (inl same) rest = inl same
    go (c ∷ cs) e (inr j) rest = inr (rest j)

pub turned_has : {X : Type 0} (xs : List X) (x : X) → Among x xs → Among x (reverse xs)
turned_has [] x i = i
turned_has (y ∷ ys) x (inl e) = subst (Among x) (sym (reverse-cons y ys)) (among_right x (reverse ys) (y ∷ []) (inl e))
turned_has (y ∷ ys) x (inr i) = subst (Among x) (sym (reverse-cons y ys)) (among_left x (reverse ys) (y ∷ []) (turned_has ys x i))

pub has_turned : {X : Type 0} (xs : List X) (x : X) → Among x (reverse xs) → Among x xs
has_turned [] x i = i
has_turned (y ∷ ys) x i = go (has_turned ys x) (among_either x (reverse ys) (y ∷ []) (subst (Among x) (reverse-cons y ys) i))
  where
    go : (Among x (reverse ys) → Among x ys) → Among x (reverse ys) ⊎ Among x (y ∷ []) → Among x (y ∷ ys)
    go rest (inl h) = inr (rest h)
    go rest (inr (inl e)) = inl e
    go rest (inr (inr none)) = absurd none

pub below_at : (k : ℕ) (rs : List Redo) (s n : ℕ) → AreBelow k rs s n → (r : Redo) → Among r rs → r.op.0 ≤ k → IsBelow (change_at r.changes s) n
below_at k [] s n all r i l = absurd i
below_at k (x ∷ xs) s n all r (inl e) l = subst (λ (q : Redo). IsBelow (change_at q.changes s) n) (sym e) (all.0 (subst (λ (q : Redo). q.op.0 ≤ k) e l))
below_at k (x ∷ xs) s n all r (inr i) l = below_at k xs s n all.1 r i l

-- ---- own records rise

-- their numbers fall, the newest first
abbrev pub OpsDown : List Redo → Type 0
OpsDown [] = Unit {0}
OpsDown (r ∷ rs) = ((q : Redo) → Among q rs → q.op.0 < r.op.0) × OpsDown rs

pub down_changing : (rs : List Redo) → OpsDown rs → OpsDown (changing rs)
down_changing [] d = tt
down_changing (x ∷ xs) d = go x.changes (down_changing xs d.1)
  where
    go : (cs : List Change) → OpsDown (changing xs) → OpsDown (keep_changing cs x (changing xs))
    go [] rest = rest
    go (c ∷ cs) rest = ((λ q i. d.0 q (changing_has xs q i)), rest)

up_joined : (k : ℕ) (xs : List Redo) (y : Redo) → OpsUp k xs → k < y.op.0 → ((q : Redo) → Among q xs → q.op.0 < y.op.0) → OpsUp k (xs ++ y ∷ [])
up_joined k [] y u l all = (l, tt)
up_joined k (x ∷ xs) y u l all = (u.0, up_joined x.op.0 xs y u.1 (all x (inl refl)) (λ q i. all q (inr i)))

pub turned_up : (k : ℕ) (rs : List Redo) → OpsDown rs → ((q : Redo) → Among q rs → k < q.op.0) → OpsUp k (reverse rs)
turned_up k [] d all = tt
turned_up k (x ∷ xs) d all =
    subst (OpsUp k) (sym (reverse-cons x xs)) (up_joined k (reverse xs) x (turned_up k xs d.1 (λ q i. all q (inr i))) (all x (inl refl)) (λ q i. d.0 q (has_turned xs q i)))
