-- The edits that free a node make the store in which it is gone.
use Rattle.std.proofs.Common.{⊎_elim, ◌⊎◌, ℕ, ◌+◌, ◌-◌, ◌≡◌, ◌≢◌, ◌<◌, Bool, true, false, Option, Some, None, [], ◌∷◌, ◌++◌, if◌then◌else◌, refl, sym, ◌∙◌, ap, subst, arith, nat_eq, ne_eqb, eq-eqb, zero, suc}
use Rattle.std.proofs.Math.Path.{fun_ext}
use Rattle.std.proofs.lemmas.Bool.Decides.{nat_tests}
use Rattle.std.proofs.lemmas.Bool.{lt-ltb, eqb-false, eqb-true}
use Rattle.tree_definitions.specs.declared.node.Node.{Node}
use Rattle.tree_definitions.specs.declared.node.Node.TheVariants.{Dir, File, Link}
use Rattle.frang_base.specs.Functions.{put}
use Rattle.frang_base.proofs.Basics.{at_put, put_other}
use Rattle.disk_definitions.specs.Store.{Store, Use}
use Rattle.disk_definitions.specs.Naming.{Naming, Nodes, Pictures, kind_of, blocks_of, has_large, first_blocks, inode_of}
use Rattle.disk_definitions.specs.Edits.{edited, edited_all}
use Rattle.disk_definitions.specs.Edits.Edit.{SetInode, SetBit, SetUse, SetLarge}
use Rattle.disk_definitions.specs.Changes.{freed, uses_to, large_gone, drop_node}
use Rattle.disk_definitions.specs.Namings.{is_owned_by, is_of, named_less}
use Rattle.disk_definitions.specs.ChangeLaws.{Leads, dropped, EditsDrop, NodesGo}
use Rattle.disk_definitions.proofs.Puts.{edited_append}
use Rattle.disk_definitions.proofs.Entry.{stored_is}
use Rattle.disk_definitions.proofs.DropNode.{dropped_nodes_go}

-- ---- many blocks get one use
uses_stay : (small : ℕ → ℕ) (u : Use) (m : ℕ) (s : Store) (k : ℕ) → s.use_of k ≡ u → (edited_all s (uses_to small u m)).use_of k ≡ u
uses_stay small u zero s k e = e
uses_stay small u (suc m) s k e = uses_stay small u m (edited s (SetUse (small m) u)) k (at_put (λ x. x ≡ u) s.use_of (small m) u k (λ i. refl) (λ i. e))

pub uses_other : (small : ℕ → ℕ) (u : Use) (m : ℕ) (s : Store) (k : ℕ) → ((j : ℕ) → j < m → small j ≢ k) → (edited_all s (uses_to small u m)).use_of k ≡ s.use_of k
uses_other small u zero s k f = refl
uses_other small u (suc m) s k f = uses_other small u m (edited s (SetUse (small m) u)) k (λ j l. f j (omega arith)) ∙ put_other s.use_of (small m) u k (λ i. f m (omega arith) (sym i))

pub uses_hit : (small : ℕ → ℕ) (u : Use) (m : ℕ) (s : Store) (k j : ℕ) → j < m → small j ≡ k → (edited_all s (uses_to small u m)).use_of k ≡ u
uses_hit small u zero s k j l e = absurd (omega arith)
uses_hit small u (suc m) s k j l e =
    ⊎_elim (λ i. uses_stay small u m (edited s (SetUse (small m) u)) k (at_put (λ x. x ≡ u) s.use_of (small m) u k (λ q. refl) (λ q. absurd (q (sym e ∙ ap small i))))) (λ i. uses_hit small u m (edited s (SetUse (small m) u)) k j i e) (split j m l)
  where
    split : (j m : ℕ) → j < suc m → (j ≡ m) ⊎ (j < m)
    split j m l = grind arith

-- a store is another but for the uses and bits of its blocks
abbrev pub IsElseSame : Store → Store → Type 0
IsElseSame s t = (t.inode ≡ s.inode) × (t.bit ≡ s.bit) × (t.place ≡ s.place) × (t.byte ≡ s.byte) × (t.large_byte ≡ s.large_byte)

pub uses_only : (small : ℕ → ℕ) (u : Use) (m : ℕ) (s : Store) → IsElseSame s (edited_all s (uses_to small u m)) × ((edited_all s (uses_to small u m)).large_bit ≡ s.large_bit)
uses_only small u zero s = ((refl, refl, refl, refl, refl), refl)
uses_only small u (suc m) s = uses_only small u m (edited s (SetUse (small m) u))

-- ---- the large block goes
gone_is : (large : ℕ) → large_gone (large + 1) ≡ SetLarge large false ∷ []
gone_is large = let e : nat_eq (large + 1) 0 ≡ false = grind (arith, nat_tests) in let d : large + 1 - 1 ≡ large = omega arith in rw (e, d) refl

large_only : (large : ℕ) (v : Bool) (s : Store) → IsElseSame s (edited_all s (large_gone (if v then large + 1 else 0))) × ((edited_all s (large_gone (if v then large + 1 else 0))).use_of ≡ s.use_of)
large_only large false s = ((refl, refl, refl, refl, refl), refl)
large_only large true s = subst (λ l. IsElseSame s (edited_all s l) × ((edited_all s l).use_of ≡ s.use_of)) (sym (gone_is large)) ((refl, refl, refl, refl, refl), refl)

drop_is : (i stamp large : ℕ) (block : ℕ → ℕ) (x : Node) →
    drop_node i (inode_of stamp block large x) ≡ uses_to (first_blocks (blocks_of (Some x)) block) (freed (kind_of x)) (blocks_of (Some x)) ++ (large_gone (if has_large (Some x) then large + 1 else 0) ++ (SetInode i None false ∷ SetBit i false ∷ []))
drop_is i stamp large block (Dir entries blocks) = refl
drop_is i stamp large block (File cells links when) = refl
drop_is i stamp large block (Link target links) = refl

module _ (s : Store) (at : Nodes) (n : Naming) (g : Pictures s at n) (b : ℕ) (x : Node) (is : at b ≡ Some x) where
  abbrev m : ℕ
  m = blocks_of (Some x)

  abbrev small : ℕ → ℕ
  small = first_blocks m (n.block b)

  abbrev u : Use
  u = freed (kind_of x)

  abbrev mid : Store
  mid = edited_all s (uses_to small u m)

  abbrev large : ℕ
  large = if has_large (Some x) then n.large b + 1 else 0

  abbrev late : Store
  late = edited_all mid (large_gone large)

  abbrev t : Store
  t = edited_all s (uses_to small u m ++ (large_gone large ++ (SetInode (n.inode b) None false ∷ SetBit (n.inode b) false ∷ [])))

  inside : (j : ℕ) → j < m → j < blocks_of (at b)
  inside j l = rw is l

  use_case : (k : ℕ) (o : Option (ℕ × ℕ)) → n.owner k ≡ o → mid.use_of k ≡ (if is_owned_by b o then u else s.use_of k)
  use_case k None e = uses_other small u m s k (λ j l i. let z : n.owner k ≡ Some (b, j) = ap n.owner (sym i) ∙ ap n.owner (rw (lt-ltb j m l) refl) ∙ g.owned b j (inside j l) in cc)
  use_case k (Some o) e = by_owner (nat_eq o.0 b) refl
    where
      by_owner : (c : Bool) → nat_eq o.0 b ≡ c → mid.use_of k ≡ (if c then u else s.use_of k)
      by_owner true i =
          let w = g.owners k o.0 o.1 e in
          let l : o.1 < m = subst (λ z. o.1 < blocks_of z) is (subst (λ z. o.1 < blocks_of (at z)) (eqb-true o.0 b i) w.1) in
          uses_hit small u m s k o.1 l (rw (lt-ltb o.1 m l) (subst (λ z. n.block z o.1 ≡ k) (eqb-true o.0 b i) w.0))
      by_owner false i = uses_other small u m s k (λ j l q. eqb-false o.0 b i
          (let y : ℕ × ℕ = (b, j) in let z : Some o ≡ Some y = sym e ∙ ap n.owner (sym q) ∙ ap n.owner (rw (lt-ltb j m l) refl) ∙ g.owned b j (inside j l) in let v : o ≡ y = cc in ap (λ a. a.0) v))

  -- the large block's bit, and that nothing else changes with it
  owned_large : has_large (Some x) ≡ true → n.large_owner (n.large b) ≡ Some b
  owned_large e = g.larges b (ap has_large is ∙ e)

  no_large : has_large (Some x) ≡ false → (k : ℕ) (o : Option ℕ) → n.large_owner k ≡ o → is_of b o ≡ false
  no_large e k None i = refl
  no_large e k (Some c) i = by_owner (nat_eq c b) refl
    where
      by_owner : (v : Bool) → nat_eq c b ≡ v → v ≡ false
      by_owner false q = refl
      by_owner true q = absurd (let w : has_large (at b) ≡ true = subst (λ c. has_large (at c) ≡ true) (eqb-true c b q) (g.large_owners k c i).1 in let z : has_large (at b) ≡ false = ap has_large is ∙ e in cc)

  abbrev gone : ℕ → Bool
  gone k = if is_of b (n.large_owner k) then false else s.large_bit k

  large_hit : has_large (Some x) ≡ true → (k : ℕ) → put s.large_bit (n.large b) false k ≡ gone k
  large_hit h k = at_put (λ o. o ≡ gone k) s.large_bit (n.large b) false k
      (λ e. let w : n.large_owner k ≡ Some b = ap n.large_owner e ∙ owned_large h in sym (ap (λ o. if is_of b o then false else s.large_bit k) w ∙ ap (λ v. if v then false else s.large_bit k) (eq-eqb b b refl)))
      (λ e. other (n.large_owner k) refl e)
    where
      other : (o : Option ℕ) → n.large_owner k ≡ o → k ≢ n.large b → s.large_bit k ≡ (if is_of b o then false else s.large_bit k)
      other None i e = refl
      other (Some c) i e = let f : c ≢ b = λ q. e (sym (g.large_owners k c i).0 ∙ ap n.large q) in ap (λ v. if v then false else s.large_bit k) (sym (ne_eqb c b f))

  late_is : (v : Bool) → has_large (Some x) ≡ v → (k : ℕ) → (edited_all mid (large_gone (if v then n.large b + 1 else 0))).large_bit k ≡ gone k
  late_is false h k = ap (λ f. f k) (uses_only small u m s).1 ∙ ap (λ v. if v then false else s.large_bit k) (sym (no_large h k (n.large_owner k) refl))
  late_is true h k = subst (λ l. (edited_all mid l).large_bit k ≡ gone k) (sym (gone_is (n.large b))) (ap (λ f. put f (n.large b) false k) (uses_only small u m s).1 ∙ large_hit h k)

  pub freed_is : t ≡ dropped s n b x
  freed_is =
      let first = uses_only small u m s in
      let then_large = large_only (n.large b) (has_large (Some x)) mid in
      let last : t ≡ edited_all late (SetInode (n.inode b) None false ∷ SetBit (n.inode b) false ∷ []) =
      edited_append s (uses_to small u m) (large_gone large ++ (SetInode (n.inode b) None false ∷ SetBit (n.inode b) false ∷ [])) ∙ edited_append mid (large_gone large) (SetInode (n.inode b) None false ∷ SetBit (n.inode b) false ∷ []) in
      let inodes : put late.inode (n.inode b) None ≡ put s.inode (n.inode b) None = ap (λ f. put f (n.inode b) None) (then_large.0.0 ∙ first.0.0) in
      let bits : put late.bit (n.inode b) false ≡ put s.bit (n.inode b) false = ap (λ f. put f (n.inode b) false) (then_large.0.1 ∙ first.0.1) in
      let uses : late.use_of ≡ (dropped s n b x).use_of = fun_ext (λ k. ap (λ f. f k) then_large.1 ∙ use_case k (n.owner k) refl) in
      let larges : late.large_bit ≡ gone = fun_ext (late_is (has_large (Some x)) refl) in
      let places : late.place ≡ s.place = then_large.0.2 ∙ first.0.2 in
      let bytes : late.byte ≡ s.byte = then_large.0.3 ∙ first.0.3 in
      let large_bytes : late.large_byte ≡ s.large_byte = then_large.0.4 ∙ first.0.4 in
      last ∙ (λ i. record { inode = inodes i; bit = bits i; use_of = uses i; place = places i; large_bit = larges i; byte = bytes i; large_byte = large_bytes i })

pub edits_drop : EditsDrop
edits_drop s at n b x node g has =
    ap (λ x. edited_all s (drop_node (n.inode b) x)) (stored_is s at n g b node x has.is has.inode)
    ∙ ap (edited_all s) (drop_is (n.inode b) (n.stamp b) (n.large b) (n.block b) node)
    ∙ freed_is s at n g b node has.is

pub nodes_go : NodesGo
nodes_go s at n b x node g has nameless = subst (λ t. Leads s t at n (named_less n b (kind_of node)) b None) (sym (edits_drop s at n b x node g has)) (dropped_nodes_go s at n b node g has.is nameless)
