-- What directories name, and how what is reached is used.
use Rattle.std.proofs.Common.{◌==◌, ◌≡◌, ℕ, ◌*◌, ◌<◌, ◌≤◌, ◌⊎◌, inl, inr, ⊎_elim, Bool, true, false, ◌&&◌, Option, Some, None, List, [], ◌∷◌, cond, refl, sym, ◌∙◌, ap, subst, arith, nat_lt, eqb-true, eq-eqb, ltb-true, lt-ltb, le-ltb}
use Rattle.std.proofs.lemmas.Bool.{and_parts, and_from, and_right, cond-true, cond-false}
use Rattle.disk_definitions.specs.Store.{Store, StoredNode, StoredEntry}
use Rattle.standing_laws.specs.ReadTree.{place_at}
use Rattle.standing_laws.specs.Soundness.{has_kind}
use Rattle.standing_laws.proofs.Bounded.{lists_at, lists_from}
use Rattle.report_definitions.specs.View.{entry_in, entry_of, named_by, names, leads, IsReach}

pub has_some : (o : Option StoredNode) (kind : ℕ) → has_kind o kind ≡ true → (x : StoredNode) × (o ≡ Some x) × (x.kind ≡ kind)
has_some None kind h = absurd (cc)
has_some (Some x) kind h = (x, refl, eqb-true x.kind kind h)

pub some_has : (o : Option StoredNode) (x : StoredNode) (kind : ℕ) → o ≡ Some x → x.kind ≡ kind → has_kind o kind ≡ true
some_has o x kind e k = ap (λ (o : Option StoredNode). has_kind o kind) e ∙ eq-eqb x.kind kind k

module _ (s : Store) where
  pub named_entry : (o : Option StoredEntry) (i : ℕ) → named_by s o ≡ Some i → (e : StoredEntry) × (o ≡ Some e) × (has_kind (s.inode e.inode) e.kind ≡ true) × (e.inode ≡ i)
  named_entry None i h = absurd (cc)
  named_entry (Some e) i h = go (has_kind (s.inode e.inode) e.kind) refl h
    where
      go : (b : Bool) → has_kind (s.inode e.inode) e.kind ≡ b → cond b (Some e.inode) None ≡ Some i → (d : StoredEntry) × (Some e ≡ Some d) × (has_kind (s.inode d.inode) d.kind ≡ true) × (d.inode ≡ i)
      go true t h = (e, refl, t, (let q : e.inode ≡ i = cc in q))
      go false t h = absurd (cc)

  pub entry_named : (e : StoredEntry) → has_kind (s.inode e.inode) e.kind ≡ true → named_by s (Some e) ≡ Some e.inode
  entry_named e h = cond-true (has_kind (s.inode e.inode) e.kind) (Some e.inode) None h

  pub in_directory : (o : Option StoredNode) (q : ℕ) (e : StoredEntry) → entry_in s o q ≡ Some e → (x : StoredNode) × (o ≡ Some x) × (x.kind ≡ 2) × (q < 56 * x.blocks) × (place_at s x q ≡ Some e)
  in_directory None q e h = absurd (cc)
  in_directory (Some x) q e h = go (x.kind == 2 && nat_lt q (56 * x.blocks)) refl h
    where
      go : (b : Bool) → (x.kind == 2 && nat_lt q (56 * x.blocks)) ≡ b → cond b (place_at s x q) None ≡ Some e → (y : StoredNode) × (Some x ≡ Some y) × (y.kind ≡ 2) × (q < 56 * y.blocks) × (place_at s y q ≡ Some e)
      go true t h = let p = and_parts (x.kind == 2) (nat_lt q (56 * x.blocks)) t in (x, refl, eqb-true x.kind 2 p.0, ltb-true q (56 * x.blocks) p.1, h)
      go false t h = absurd (cc)

  pub directory_in : (x : StoredNode) (q : ℕ) → x.kind ≡ 2 → q < 56 * x.blocks → entry_in s (Some x) q ≡ place_at s x q
  directory_in x q k l = cond-true (x.kind == 2 && nat_lt q (56 * x.blocks)) (place_at s x q) None (and_from (x.kind == 2) (nat_lt q (56 * x.blocks)) (eq-eqb x.kind 2 k) (lt-ltb q (56 * x.blocks) l))

  pub directory_past : (x : StoredNode) (q : ℕ) → 56 * x.blocks ≤ q → entry_in s (Some x) q ≡ None
  directory_past x q l = cond-false (x.kind == 2 && nat_lt q (56 * x.blocks)) (place_at s x q) None (and_right (x.kind == 2) (nat_lt q (56 * x.blocks)) (le-ltb q (56 * x.blocks) l))

  pub no_directory : (x : StoredNode) (q : ℕ) → (x.kind == 2) ≡ false → entry_in s (Some x) q ≡ None
  no_directory x q k = ap (λ (b : Bool). cond (b && nat_lt q (56 * x.blocks)) (place_at s x q) None) k

  -- an entry of a directory that names an inode in use of its kind
  pub record Named (d i : ℕ) : Type 0 where
    pub dir : StoredNode
    pub place : ℕ
    pub entry : StoredEntry
    pub is : s.inode d ≡ Some dir
    pub kind : dir.kind ≡ 2
    pub within : place < 56 * dir.blocks
    pub stands : place_at s dir place ≡ Some entry
    pub well : has_kind (s.inode entry.inode) entry.kind ≡ true
    pub inode : entry.inode ≡ i

  pub named_at : (d i : ℕ) → names s d i ≡ true → Named d i
  named_at d i h =
      let f = lists_at (λ q. named_by s (entry_of s d q)) 896 i h in
      let e = named_entry (entry_of s d f.0) i f.2 in
      let x = in_directory (s.inode d) f.0 e.0 e.1 in
      record { dir = x.0; place = f.0; entry = e.0; is = x.1; kind = x.2; within = x.3; stands = x.4; well = e.2; inode = e.3 }

  pub names_from : (d q : ℕ) (x : StoredNode) (e : StoredEntry) → s.inode d ≡ Some x → x.kind ≡ 2 → q < 56 * x.blocks → x.blocks ≤ 16 → place_at s x q ≡ Some e → has_kind (s.inode e.inode) e.kind ≡ true → names s d e.inode ≡ true
  names_from d q x e is k l few p h =
      lists_from (λ q. named_by s (entry_of s d q)) 896 e.inode q (omega arith)
      (ap (λ (o : Option StoredNode). named_by s (entry_in s o q)) is ∙ ap (named_by s) (directory_in x q k l ∙ p) ∙ entry_named e h)

module _ (s : Store) (r : ℕ → Bool) (reach : IsReach s r) where
  walk_last : (path : List ℕ) (a i : ℕ) → r a ≡ true → leads s a path i ≡ true → (a ≡ i) ⊎ ((d : ℕ) × (r d ≡ true) × (names s d i ≡ true))
  walk_last [] a i h l = inl (eqb-true a i l)
  walk_last (b ∷ path) a i h l =
      let p = and_parts (names s a b) (leads s b path i) l in
      ⊎_elim (λ e. inr (a, h, subst (λ k. names s a k ≡ true) e p.0)) (λ w. inr w) (walk_last path b i (reach.closed a b h p.0) p.1)

  -- what is reached is inode 0, or is named by what is reached
  pub last_step : (i : ℕ) → r i ≡ true → (i ≡ 0) ⊎ ((d : ℕ) × (r d ≡ true) × (names s d i ≡ true))
  last_step i h = let w = reach.led i h in ⊎_elim (λ e. inl (sym e)) (λ w. inr w) (walk_last w.0 0 i reach.root w.1)

  -- where inode 0 is in use, so is all that is reached
  pub reached_used : has_kind (s.inode 0) 2 ≡ true → (i : ℕ) → r i ≡ true → (x : StoredNode) × (s.inode i ≡ Some x)
  reached_used root i h = ⊎_elim
      (λ e. (let x = has_some (s.inode 0) 2 root in (x.0, ap s.inode e ∙ x.1)))
      (λ w. (let n = named_at s w.0 i w.2 in let x = has_some (s.inode n.entry.inode) n.entry.kind n.well in (x.0, ap s.inode (sym n.inode) ∙ x.1)))
      (last_step i h)
