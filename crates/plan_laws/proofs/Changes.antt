-- What each change of one node says of bits and blocks, over whatever store.
use Rattle.std.proofs.Common.{ℕ, zero, suc, ◌≡◌, ◌<◌, ◌+◌, ◌-◌, ◌||◌, Bool, true, false, ◌==◌, if◌then◌else◌, Option, Some, None, List, [], ◌∷◌, ◌++◌, map, refl, sym, ◌∙◌, ap, subst, arith, nat_eq}
use Rattle.std.specs.Option.{option_or}
use Rattle.std.proofs.lemmas.Bool.Decides.{nat_tests}
use Rattle.std.proofs.lemmas.Bool.{eq-eqb, eqb-true}
use Rattle.disk_definitions.specs.Store.{Store, StoredNode, StoredEntry, Use}
use Rattle.disk_definitions.specs.Store.Use.{Entries}
use Rattle.disk_definitions.specs.Edits.{Edit, edited, edited_all}
use Rattle.disk_definitions.specs.Edits.Edit.{SetInode, SetBit, SetUse, SetPlace, SetLarge}
use Rattle.disk_definitions.specs.Changes.{uses_to, large_gone, freed, drop_node, grow}
use Rattle.disk_definitions.specs.Plans.{with_block}
use Rattle.plan_laws.proofs.Among.{is_among}
use Rattle.plan_laws.proofs.Covering.{has_head, has_more}
use Rattle.disk_definitions.specs.Moves.{first_said, taker_said, large_taker_said, is_small_of}
use Rattle.plan_laws.proofs.Joining.{Writes}
use Rattle.plan_laws.proofs.OneNode.{IsChanged}

-- so they change each store
abbrev pub Changes : List Edit → ℕ → Option StoredNode → List ℕ → Bool → List ℕ → Use → List ℕ → Bool → Type 0
Changes es i o bs c ks u gs v = (s : Store) → IsChanged s (edited_all s es) es i o bs c ks u gs v

-- ---- an inode

taker_first : (i k : ℕ) (o : Option StoredNode) (d : Bool) (es : List Edit) (y : StoredNode) → o ≡ Some y → is_small_of k y ≡ true → first_said (taker_said k) (SetInode i o d ∷ es) ≡ Some i
taker_first i k o d es y e f = rw e (rw f refl)

large_taker_first : (i g : ℕ) (o : Option StoredNode) (d : Bool) (es : List Edit) (y : StoredNode) → o ≡ Some y → y.large ≡ g + 1 → first_said (large_taker_said g) (SetInode i o d ∷ es) ≡ Some i
large_taker_first i g o d es y e f = rw e (rw (eq-eqb y.large (g + 1) f) refl)

written : (i : ℕ) (o : Option StoredNode) (d : Bool) (es : List Edit) → Writes (SetInode i o d ∷ es) i
written i o d es = (o, d, has_head (SetInode i o d) es)

pub inode_changes : (i : ℕ) (o : Option StoredNode) (d : Bool) (u : Use) (v : Bool) → Changes (SetInode i o d ∷ []) i o [] false [] u [] v
inode_changes i o d u v s = record {
  inode = λ j. refl;
  bit = λ j. refl;
  use_of = λ k. refl;
  large_bit = λ g. refl;
  bits = λ j. refl;
  uses = λ k. refl;
  larges = λ g. refl;
  takers = λ k y e f. taker_first i k o d [] y e f;
  large_takers = λ g y e f. large_taker_first i g o d [] y e f;
  writes = written i o d [];
}

-- with an entry of a directory
pub place_changes : (i : ℕ) (y : StoredNode) (k p : ℕ) (e : Option StoredEntry) (u : Use) (v : Bool) → Changes (SetInode i (Some y) false ∷ SetPlace k p e ∷ []) i (Some y) [] false [] u [] v
place_changes i y k p e u v s = record {
  inode = λ j. refl;
  bit = λ j. refl;
  use_of = λ k. refl;
  large_bit = λ g. refl;
  bits = λ j. refl;
  uses = λ k. refl;
  larges = λ g. refl;
  takers = λ a z q f. taker_first i a (Some y) false (SetPlace k p e ∷ []) z q f;
  large_takers = λ g z q f. large_taker_first i g (Some y) false (SetPlace k p e ∷ []) z q f;
  writes = written i (Some y) false (SetPlace k p e ∷ []);
}

-- with its bit
pub bit_changes : (i : ℕ) (o : Option StoredNode) (c : Bool) (u : Use) (v : Bool) → Changes (SetInode i o false ∷ SetBit i c ∷ []) i o (i ∷ []) c [] u [] v
bit_changes i o c u v s = record {
  inode = λ j. refl;
  bit = λ j. set (nat_eq j i) (s.bit j);
  use_of = λ k. refl;
  large_bit = λ g. refl;
  bits = λ j. said (nat_eq j i);
  uses = λ k. refl;
  larges = λ g. refl;
  takers = λ k y e f. taker_first i k o false (SetBit i c ∷ []) y e f;
  large_takers = λ g y e f. large_taker_first i g o false (SetBit i c ∷ []) y e f;
  writes = written i o false (SetBit i c ∷ []);
}
  where
    set : (b old : Bool) → (if b then c else old) ≡ (if b || false then c else old)
    set true old = refl
    set false old = refl

    said : (b : Bool) → option_or (if b then Some c else None) None ≡ (if b || false then Some c else None)
    said true = refl
    said false = refl

-- ---- with blocks

pub set_or : {X : Type 0} (b c : Bool) (u old : X) → (if c then u else (if b then u else old)) ≡ (if b || c then u else old)
set_or true true u old = refl
set_or true false u old = refl
set_or false c u old = refl

said_or : {X : Type 0} (b c : Bool) (u : X) → option_or (if b then Some u else None) (if c then Some u else None) ≡ (if b || c then Some u else None)
said_or true c u = refl
said_or false c u = refl

module _ (i : ℕ) (o : Option StoredNode) (bs : List ℕ) (c : Bool) (u : Use) (v : Bool) where
  before_use : (k : ℕ) (ks gs : List ℕ) (es : List Edit) → Changes es i o bs c ks u gs v → Changes (SetUse k u ∷ es) i o bs c (k ∷ ks) u gs v
  before_use k ks gs es is s =
      let r = is (edited s (SetUse k u)) in
      record {
        inode = r.inode;
        bit = r.bit;
        use_of = λ a. r.use_of a ∙ set_or (nat_eq a k) (is_among a ks) u (s.use_of a);
        large_bit = r.large_bit;
        bits = r.bits;
        uses = λ a. ap (option_or (if nat_eq a k then Some u else None)) (r.uses a) ∙ said_or (nat_eq a k) (is_among a ks) u;
        larges = r.larges;
        takers = r.takers;
        large_takers = r.large_takers;
        writes = (r.writes.0, r.writes.1, has_more (SetUse k u) (SetInode i r.writes.0 r.writes.1) es r.writes.2);
      }

  before_large : (g : ℕ) (ks gs : List ℕ) (es : List Edit) → Changes es i o bs c ks u gs v → Changes (SetLarge g v ∷ es) i o bs c ks u (g ∷ gs) v
  before_large g ks gs es is s =
      let r = is (edited s (SetLarge g v)) in
      record {
        inode = r.inode;
        bit = r.bit;
        use_of = r.use_of;
        large_bit = λ a. r.large_bit a ∙ set_or (nat_eq a g) (is_among a gs) v (s.large_bit a);
        bits = r.bits;
        uses = r.uses;
        larges = λ a. ap (option_or (if nat_eq a g then Some v else None)) (r.larges a) ∙ said_or (nat_eq a g) (is_among a gs) v;
        takers = r.takers;
        large_takers = r.large_takers;
        writes = (r.writes.0, r.writes.1, has_more (SetLarge g v) (SetInode i r.writes.0 r.writes.1) es r.writes.2);
      }

  pub before_uses : (ks gs : List ℕ) (es : List Edit) → Changes es i o bs c [] u gs v → Changes (map (λ k. SetUse k u) ks ++ es) i o bs c ks u gs v
  before_uses [] gs es is = is
  before_uses (k ∷ ks) gs es is = before_use k ks gs (map (λ k. SetUse k u) ks ++ es) (before_uses ks gs es is)

  pub before_larges : (gs : List ℕ) (es : List Edit) → Changes es i o bs c [] u [] v → Changes (map (λ g. SetLarge g v) gs ++ es) i o bs c [] u gs v
  before_larges [] es is = is
  before_larges (g ∷ gs) es is = before_large g [] gs (map (λ g. SetLarge g v) gs ++ es) (before_larges gs es is)

-- a directory gets block k
pub grow_changes : (i : ℕ) (x : StoredNode) (k : ℕ) → Changes (grow i x k) i (Some (with_block x k)) [] false (k ∷ []) Entries [] false
grow_changes i x k = before_use i (Some (with_block x k)) [] false Entries false k [] [] (SetInode i (Some (with_block x k)) false ∷ []) (inode_changes i (Some (with_block x k)) false Entries false)

-- ---- a node goes

-- its small blocks, the last first
abbrev pub blocks_down : (ℕ → ℕ) → ℕ → List ℕ
blocks_down small zero = []
blocks_down small (suc m) = small m ∷ blocks_down small m

-- its large block, where it has one
abbrev pub large_list : ℕ → List ℕ
large_list large = if large == 0 then [] else (large - 1) ∷ []

uses_are : (small : ℕ → ℕ) (u : Use) (m : ℕ) → uses_to small u m ≡ map (λ k. SetUse k u) (blocks_down small m)
uses_are small u zero = refl
uses_are small u (suc m) = ap (λ es. SetUse (small m) u ∷ es) (uses_are small u m)

larges_are : (large : ℕ) → large_gone large ≡ map (λ g. SetLarge g false) (large_list large)
larges_are large = go (large == 0)
  where
    go : (b : Bool) → (if b then [] else SetLarge (large - 1) false ∷ []) ≡ map (λ g. SetLarge g false) (if b then [] else (large - 1) ∷ [])
    go true = refl
    go false = refl

pub drop_changes : (i : ℕ) (x : StoredNode) → Changes (drop_node i x) i None (i ∷ []) false (blocks_down x.small x.blocks) (freed x.kind) (large_list x.large) false
drop_changes i x =
    let u = freed x.kind in
    let last : List Edit = SetInode i None false ∷ SetBit i false ∷ [] in
    let ks = blocks_down x.small x.blocks in
    let gs = large_list x.large in
    subst (λ a. Changes (a ++ (large_gone x.large ++ last)) i None (i ∷ []) false ks u gs false) (sym (uses_are x.small u x.blocks))
    (subst (λ a. Changes (map (λ k. SetUse k u) ks ++ (a ++ last)) i None (i ∷ []) false ks u gs false) (sym (larges_are x.large))
    (before_uses i None (i ∷ []) false u false ks gs (map (λ g. SetLarge g false) gs ++ last) (before_larges i None (i ∷ []) false u false gs last (bit_changes i None false u false))))

pub among_down : (small : ℕ → ℕ) (m k j : ℕ) → j < m → small j ≡ k → is_among k (blocks_down small m) ≡ true
among_down small zero k j l e = absurd (omega arith)
among_down small (suc m) k j l e = go (nat_eq k (small m)) refl (λ l. among_down small m k j l e)
  where
    below_it : (j ≡ m → ⊥) → j < m
    below_it f = grind arith

    go : (b : Bool) → nat_eq k (small m) ≡ b → (j < m → is_among k (blocks_down small m) ≡ true) → (b || is_among k (blocks_down small m)) ≡ true
    go true q rest = refl
    go false q rest = rest (below_it (λ i. (let z : nat_eq k (small m) ≡ true = eq-eqb k (small m) (sym e ∙ ap small i) in cc)))

pub down_among : (small : ℕ → ℕ) (m k : ℕ) → is_among k (blocks_down small m) ≡ true → (j : ℕ) × (j < m) × (small j ≡ k)
down_among small zero k e = absurd (cc)
down_among small (suc m) k e = go (nat_eq k (small m)) refl e (down_among small m k)
  where
    go : (b : Bool) → nat_eq k (small m) ≡ b → (b || is_among k (blocks_down small m)) ≡ true → (is_among k (blocks_down small m) ≡ true → (j : ℕ) × (j < m) × (small j ≡ k)) → (j : ℕ) × (j < suc m) × (small j ≡ k)
    go true q h rest = (m, omega arith, sym (eqb-true k (small m) q))
    go false q h rest = let r = rest h in let l : r.0 < m = r.1 in (r.0, omega arith, r.2)

pub among_large : (large g : ℕ) → large ≡ g + 1 → is_among g (large_list large) ≡ true
among_large large g e =
    let some : nat_eq large 0 ≡ false = grind (arith, nat_tests) in
    let same : nat_eq g (large - 1) ≡ true = grind (arith, nat_tests) in
    rw some (rw same refl)

pub large_among : (large g : ℕ) → is_among g (large_list large) ≡ true → large ≡ g + 1
large_among large g = go (nat_eq large 0) refl
  where
    same : nat_eq large 0 ≡ false → (b : Bool) → nat_eq g (large - 1) ≡ b → (b || false) ≡ true → large ≡ g + 1
    same q true i e = grind (arith, nat_tests)
    same q false i e = absurd (cc)

    go : (b : Bool) → nat_eq large 0 ≡ b → is_among g (if b then [] else (large - 1) ∷ []) ≡ true → large ≡ g + 1
    go true q e = absurd (cc)
    go false q e = same q (nat_eq g (large - 1)) refl e
