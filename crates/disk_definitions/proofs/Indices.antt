-- The blocks that a file has after it gets other cells: none of them twice, and none another's.
use Rattle.std.proofs.Common.{⊎_elim, ◌⊎◌, inl, inr, ℕ, zero, suc, ◌<◌, ◌≤◌, ◌≡◌, ◌≢◌, Bool, true, false, List, Option, Some, None, length, nat_eq, refl, sym, ◌∙◌, ap, subst, arith}
use Rattle.std.proofs.lemmas.Bool.{cases_lt, lt-ltb, eqb-false, eqb-true}
use Rattle.std.proofs.lemmas.Bool.Decides.{nat_tests}
use Rattle.std.proofs.lemmas.Option.{same_Some}
use Rattle.tree_definitions.specs.declared.cells.Cell.{Cell}
use Rattle.tree_definitions.specs.declared.node.Node.TheVariants.{File}
use Rattle.tree_definitions.specs.Tree.{small_blocks_of}
use Rattle.frang_base.proofs.Basics.{by_test}
use Rattle.disk_definitions.specs.Store.{Store, is_unused}
use Rattle.disk_definitions.specs.Naming.{Naming, Nodes, Pictures, has_large}
use Rattle.disk_definitions.specs.Resizing.{index_in, index_of, is_large_of, HasBlocks}
use Rattle.disk_definitions.proofs.Free.{no_owner, no_large_owner}

pub index_hit : (block : ℕ → ℕ) (n k j : ℕ) → index_in block n k ≡ Some j → (block j ≡ k) × (j < n)
index_hit block zero k j e = absurd (cc)
index_hit block (suc n) k j e =
    by_test (λ x. x ≡ Some j → (block j ≡ k) × (j < suc n)) (Some n) (index_in block n k) (nat_eq (block n) k)
    (λ t q. let i : n ≡ j = cc in (subst (λ x. block x ≡ k) i (eqb-true (block n) k t), omega arith))
    (λ t q. let r = index_hit block n k j q in let l : j < n = r.1 in (r.0, omega arith)) e

pub index_found : (block : ℕ → ℕ) (n j : ℕ) → j < n → ((i : ℕ) → i < n → block i ≡ block j → i ≡ j) → index_in block n (block j) ≡ Some j
index_found block zero j l one = absurd (omega arith)
index_found block (suc n) j l one =
    by_test (λ x. x ≡ Some j) (Some n) (index_in block n (block j)) (nat_eq (block n) (block j))
    (λ t. ap (λ x. Some x) (one n (omega arith) (eqb-true (block n) (block j) t)))
    (λ t. let f : n ≢ j = λ e. eqb-false (block n) (block j) t (ap block e) in index_found block n j (grind arith) (λ i h. one i (omega arith)))

module _ (s : Store) (at : Nodes) (n : Naming) (g : Pictures s at n) (b links was large : ℕ) (old new : List Cell) (block : ℕ → ℕ) (is : at b ≡ Some (File old links was)) (has : HasBlocks s n b old new block large) where
  abbrev before : ℕ
  before = small_blocks_of (length old)

  abbrev count : ℕ
  count = small_blocks_of (length new)

  old_owner : (j : ℕ) → j < before → n.owner (n.block b j) ≡ Some (b, j)
  old_owner j l = g.owned b j (rw is l)

  -- a block of the file is its own still, or was free
  pub was_own : (j : ℕ) → j < count → (n.owner (block j) ≡ Some (b, j)) ⊎ (n.owner (block j) ≡ None)
  was_own j l = ⊎_elim
      (λ h. inl (ap n.owner (has.kept j h l) ∙ old_owner j h))
      (λ h. inr (no_owner s at n g (block j) (ap is_unused (has.fresh j h l))))
      (cases_lt j before)

  same_old : (i j : ℕ) → i < before → j < before → n.block b i ≡ n.block b j → i ≡ j
  same_old i j li lj e =
      let x : ℕ × ℕ = (b, i) in let y : ℕ × ℕ = (b, j) in
      ap (λ z. z.1) (same_Some x y (sym (old_owner i li) ∙ ap n.owner e ∙ old_owner j lj))

  not_both : (i j : ℕ) → i < before → i < count → before ≤ j → j < count → block i ≢ block j
  not_both i j li ci lj cj e =
      let x : ℕ × ℕ = (b, i) in
      let a : n.owner (block i) ≡ Some x = ap n.owner (has.kept i li ci) ∙ old_owner i li in
      let c : n.owner (block j) ≡ None = no_owner s at n g (block j) (ap is_unused (has.fresh j lj cj)) in
      let d : Some x ≡ None = sym a ∙ ap n.owner e ∙ c in cc

  one_index : (i j : ℕ) → i < count → j < count → block i ≡ block j → i ≡ j
  one_index i j ci cj e = ⊎_elim
      (λ li. ⊎_elim
      (λ lj. same_old i j li lj (sym (has.kept i li ci) ∙ e ∙ has.kept j lj cj))
      (λ lj. absurd (not_both i j li ci lj cj e)) (cases_lt j before))
      (λ li. ⊎_elim
      (λ lj. absurd (not_both j i lj cj li ci (sym e)))
      (λ lj. has.apart i j li ci lj cj e) (cases_lt j before))
      (cases_lt i before)

  pub own_index : (j : ℕ) → j < count → index_of new block (block j) ≡ Some j
  own_index j l = index_found block count j l (λ i h e. one_index i j h l e)

  -- what another owns is none of them
  pub no_index : (c j k : ℕ) → c ≢ b → n.owner k ≡ Some (c, j) → index_of new block k ≡ None
  no_index c j k f e = go (index_of new block k) refl
    where
      go : (o : Option ℕ) → index_of new block k ≡ o → o ≡ None
      go None q = refl
      go (Some i) q =
          let r = index_hit block count k i q in
          let y : ℕ × ℕ = (c, j) in
          let x : ℕ × ℕ = (b, i) in
          absurd (⊎_elim
          (λ h. f (ap (λ z. z.0) (same_Some y x (sym e ∙ ap n.owner (sym r.0) ∙ h))))
          (λ h. let z : Some y ≡ None = sym e ∙ ap n.owner (sym r.0) ∙ h in cc)
          (was_own i r.1))

  -- nor is its large block
  pub no_large : (c k : ℕ) → c ≢ b → n.large_owner k ≡ Some c → is_large_of new large k ≡ false
  no_large c k f e = go (is_large_of new large k) refl
    where
      go : (v : Bool) → is_large_of new large k ≡ v → v ≡ false
      go false q = refl
      go true q =
          let l : 65536 < length new = grind (arith, nat_tests) in
          let i : k ≡ large = grind (arith, nat_tests) in
          absurd (⊎_elim
          (λ h. let z : Some c ≡ None = sym e ∙ ap n.large_owner i ∙ no_large_owner s at n g large (has.large_free h l) in cc)
          (λ h. f (let w : n.large_owner (n.large b) ≡ Some b = g.larges b (ap has_large is ∙ lt-ltb 65536 (length old) h) in
          let z : Some c ≡ Some b = sym e ∙ ap n.large_owner (i ∙ has.large_kept h l) ∙ w in let y : c ≡ b = cc in y))
          (below_or (length old)))
        where
          below_or : (x : ℕ) → (x ≤ 65536) ⊎ (65536 < x)
          below_or x = grind arith
