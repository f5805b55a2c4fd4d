-- The changes of one node are sound, over a store whose inode has at most the blocks that are said of it.
use Rattle.std.proofs.Common.{ℕ, ◌≡◌, ◌<◌, ◌+◌, ◌-◌, ◌*◌, ◌/◌, ◌%◌, ◌||◌, Bool, true, false, ◌==◌, if◌then◌else◌, Some, None, List, [], ◌∷◌, refl, sym, ◌∙◌, ap, subst, arith, nat_eq}
use Rattle.std.proofs.lemmas.Bool.{eqb-true}
use Rattle.frang_base.proofs.Basics.{put_same, put_other}
use Rattle.tree_definitions.specs.declared.node.Node.{Node}
use Rattle.disk_definitions.specs.Store.{Store, StoredNode, StoredEntry, Use, is_unused}
use Rattle.disk_definitions.specs.Store.Use.{Fresh, Entries}
use Rattle.disk_definitions.specs.Naming.{inode_of}
use Rattle.disk_definitions.specs.Edits.{Edit, edited_all}
use Rattle.disk_definitions.specs.Changes.{new_node, put_entry, take_entry, replace_entry, relink, grow, freed, drop_node}
use Rattle.disk_definitions.specs.Plans.{Room, enter, with_block}
use Rattle.disk_definitions.specs.Plans.Room.{Inside, InBlock, NoRoom}
use Rattle.disk_definitions.specs.Meets.{is_directory_use}
use Rattle.plan_laws.proofs.Among.{is_among}
use Rattle.plan_laws.specs.Moves.{HasSmall, HasLarge}
use Rattle.plan_laws.proofs.Joining.{AreSound, AreQuiet, joined, then_quiet, quiet_sound}
use Rattle.plan_laws.proofs.OneNode.{MayChange, one_node}
use Rattle.plan_laws.proofs.Changes.{Changes, inode_changes, place_changes, bit_changes, grow_changes, drop_changes, blocks_down, large_list, among_down, down_among, among_large, large_among}

-- the second node has the blocks of the first
pub record KeepsBlocks (x y : StoredNode) : Type 0 where
  pub small : (j : ℕ) → j < x.blocks → (j < y.blocks) × (y.small j ≡ x.small j)
  pub large : y.large ≡ x.large

-- whatever stands in the inode, its blocks are among the node's
abbrev pub StandsFor : Store → ℕ → StoredNode → Type 0
StandsFor s i x = (z : StoredNode) → s.inode i ≡ Some z → KeepsBlocks z x

pub one_of : (j i : ℕ) → is_among j (i ∷ []) ≡ true → j ≡ i
one_of j i e = eqb-true j i (first (nat_eq j i) e)
  where
    first : (b : Bool) → (b || false) ≡ true → b ≡ true
    first true e = refl
    first false e = e

none_of : {P : Type 0} (j : ℕ) → is_among j [] ≡ true → P
none_of j e = absurd (cc)

module _ (s : Store) where
  -- ---- an inode with the same blocks

  may_write : (i : ℕ) (y : StoredNode) → StandsFor s i y → MayChange s i (Some y) [] [] Fresh [] false
  may_write i y stands = record {
    own_bit = λ j e. none_of j e;
    keeps = λ x j e l f. let r = (stands x e).small j l in (y, refl, j, r.0, r.1);
    gains = λ f k e. none_of k e;
    own = λ j k e h. none_of k e;
    keeps_large = λ x g e l f. (y, refl, (stands x e).large ∙ l);
    gains_large = λ f g e. none_of g e;
    own_large = λ j g e h. none_of g e;
    stay = λ k e d. none_of k e;
  }

  pub write_sound : (es : List Edit) (i : ℕ) (y : StoredNode) → Changes es i (Some y) [] false [] Fresh [] false → StandsFor s i y → AreSound s (edited_all s es) es
  write_sound es i y is stands = one_node s (edited_all s es) es i (Some y) [] false [] Fresh [] false (is s) (may_write i y stands)

  sized : (i : ℕ) (x : StoredNode) (n : ℕ) → StandsFor s i x → StandsFor s i (record x { size = n })
  sized i x n stands z e = record { small = λ j l. (stands z e).small j l; large = (stands z e).large }

  pub put_sound : (i : ℕ) (x : StoredNode) (q : ℕ) (e : StoredEntry) → StandsFor s i x → AreSound s (edited_all s (put_entry i x q e)) (put_entry i x q e)
  put_sound i x q e stands =
      let y = record x { size = x.size + 1 } in
      write_sound (put_entry i x q e) i y (place_changes i y (x.small (q / 56)) (q % 56) (Some e) Fresh false) (sized i x (x.size + 1) stands)

  pub take_sound : (i : ℕ) (x : StoredNode) (q : ℕ) → StandsFor s i x → AreSound s (edited_all s (take_entry i x q)) (take_entry i x q)
  take_sound i x q stands =
      let y = record x { size = x.size - 1 } in
      write_sound (take_entry i x q) i y (place_changes i y (x.small (q / 56)) (q % 56) None Fresh false) (sized i x (x.size - 1) stands)

  pub relink_sound : (i : ℕ) (x : StoredNode) (links : ℕ) → StandsFor s i x → AreSound s (edited_all s (relink i x links)) (relink i x links)
  relink_sound i x links stands =
      let y = record x { links = links } in
      write_sound (relink i x links) i y (inode_changes i (Some y) false Fresh false) (λ z e. record { small = λ j l. (stands z e).small j l; large = (stands z e).large })

  replace_quiet : (x : StoredNode) (q : ℕ) (e : StoredEntry) → AreQuiet (replace_entry x q e)
  replace_quiet x q e = record { bits = λ i. refl; uses = λ k. refl; larges = λ g. refl }

  pub replace_sound : (x : StoredNode) (q : ℕ) (e : StoredEntry) → AreSound s (edited_all s (replace_entry x q e)) (replace_entry x q e)
  replace_sound x q e = quiet_sound s (edited_all s (replace_entry x q e)) (replace_entry x q e) (record { inode = λ i. refl; bit = λ i. refl; use_of = λ k. refl; large_bit = λ g. refl }) (replace_quiet x q e)

  pub none_sound : AreSound s s []
  none_sound = quiet_sound s s [] (record { inode = λ i. refl; bit = λ i. refl; use_of = λ k. refl; large_bit = λ g. refl }) (record { bits = λ i. refl; uses = λ k. refl; larges = λ g. refl })

  -- ---- a node comes

  pub new_sound : (i stamp : ℕ) (node : Node) → s.inode i ≡ None → AreSound s (edited_all s (new_node i stamp node)) (new_node i stamp node)
  new_sound i stamp node free =
      let y = inode_of stamp (λ j. 0) 0 node in
      let nobody : (x : StoredNode) → s.inode i ≡ Some x → ⊥ = λ x e. (let z : None ≡ Some x = sym free ∙ e in cc) in
      one_node s (edited_all s (new_node i stamp node)) (new_node i stamp node) i (Some y) (i ∷ []) true [] Fresh [] false (bit_changes i (Some y) true Fresh false s) (record {
        own_bit = λ j e. one_of j i e;
        keeps = λ x j e l f. absurd (nobody x e);
        gains = λ f k e. none_of k e;
        own = λ j k e h. none_of k e;
        keeps_large = λ x g e l f. absurd (nobody x e);
        gains_large = λ f g e. none_of g e;
        own_large = λ j g e h. none_of g e;
        stay = λ k e d. none_of k e;
      })

  -- ---- a directory gets a block, or an entry

  -- no node has the block
  abbrev pub IsNobodys : ℕ → Type 0
  IsNobodys k = (i : ℕ) → HasSmall s i k → ⊥

  pub grow_sound : (i : ℕ) (x : StoredNode) (k : ℕ) → StandsFor s i x → IsNobodys k → AreSound s (edited_all s (grow i x k)) (grow i x k)
  grow_sound i x k stands nobody =
      let y = with_block x k in
      one_node s (edited_all s (grow i x k)) (grow i x k) i (Some y) [] false (k ∷ []) Entries [] false (grow_changes i x k s) (record {
        own_bit = λ j e. none_of j e;
        keeps = λ z j e l f. let r = (stands z e).small j l in let inside : j < x.blocks = r.0 in
            (y, refl, j, omega arith, put_other x.small x.blocks k j (λ q. omega arith) ∙ r.1);
        gains = λ f a e. (y, refl, x.blocks, omega arith, put_same x.small x.blocks k ∙ sym (one_of a k e));
        own = λ j a e h. absurd (nobody j (subst (HasSmall s j) (one_of a k e) h));
        keeps_large = λ z g e l f. (y, refl, (stands z e).large ∙ l);
        gains_large = λ f g e. none_of g e;
        own_large = λ j g e h. none_of g e;
        stay = λ a e d. refl;
      })

  -- a block into which an entry comes is nobody's
  abbrev pub IsFreeRoom : Room → Type 0
  IsFreeRoom (Inside q) = Unit {0}
  IsFreeRoom (InBlock k) = IsNobodys k
  IsFreeRoom NoRoom = Unit {0}

pub enter_sound : (s : Store) (i : ℕ) (x : StoredNode) (e : StoredEntry) (room : Room) → StandsFor s i x → IsFreeRoom s room → AreSound s (edited_all s (enter i x e room)) (enter i x e room)
enter_sound s i x e (Inside q) stands free = put_sound s i x q e stands
enter_sound s i x e NoRoom stands free = none_sound s
enter_sound s i x e (InBlock k) stands free =
    let t = edited_all s (grow i x k) in
    let y = with_block x k in
    let there : t.inode i ≡ Some y = put_same s.inode i (Some y) in
    let same : StandsFor t i y = λ z p. (let q : y ≡ z = (let w : Some y ≡ Some z = sym there ∙ p in cc) in subst (λ v. KeepsBlocks v y) q (record { small = λ j l. (l, refl); large = refl })) in
    joined s t (edited_all s (enter i x e (InBlock k))) (grow i x k) (put_entry i y (56 * x.blocks) e) (grow_sound s i x k stands free) (put_sound t i y (56 * x.blocks) e same)
    (then_quiet (grow i x k) (put_entry i y (56 * x.blocks) e) (record { bits = λ i. refl; uses = λ k. refl; larges = λ g. refl }))

-- ---- a node goes

pub freed_unused : (kind : ℕ) → is_unused (freed kind) ≡ true
freed_unused kind = go (kind == 2)
  where
    go : (b : Bool) → is_unused (if b then Use.Empty else Fresh) ≡ true
    go true = refl
    go false = refl

freed_directory : (kind : ℕ) → kind ≡ 2 → is_directory_use (freed kind) ≡ true
freed_directory kind e = ap (λ k. is_directory_use (freed k)) e

-- what is in the inode has no blocks but the node's; these are no other node's; and where one of them is a directory's the node is one
pub record MayGo (s : Store) (j : ℕ) (y : StoredNode) : Type 0 where
  pub stands : StandsFor s j y
  pub alone : (i m : ℕ) → m < y.blocks → HasSmall s i (y.small m) → i ≡ j
  pub large_alone : (i g : ℕ) → y.large ≡ g + 1 → HasLarge s i g → i ≡ j
  pub kind : (m : ℕ) → m < y.blocks → is_directory_use (s.use_of (y.small m)) ≡ true → y.kind ≡ 2

pub drop_sound : (s : Store) (j : ℕ) (y : StoredNode) → MayGo s j y → AreSound s (edited_all s (drop_node j y)) (drop_node j y)
drop_sound s j y may =
    let ks = blocks_down y.small y.blocks in
    let gs = large_list y.large in
    one_node s (edited_all s (drop_node j y)) (drop_node j y) j None (j ∷ []) false ks (freed y.kind) gs false (drop_changes j y s) (record {
      own_bit = λ i e. one_of i j e;
      keeps = λ z m e l f. let r = (may.stands z e).small m l in absurd (let t : is_among (z.small m) ks ≡ true = among_down y.small y.blocks (z.small m) m r.0 r.1 in cc);
      gains = λ f k e. absurd (let t : is_unused (freed y.kind) ≡ true = freed_unused y.kind in cc);
      own = λ i k e h. let r = down_among y.small y.blocks k e in may.alone i r.0 r.1 (subst (HasSmall s i) (sym r.2) h);
      keeps_large = λ z g e l f. absurd (let t : is_among g gs ≡ true = among_large y.large g ((may.stands z e).large ∙ l) in cc);
      gains_large = λ f g e. absurd (cc);
      own_large = λ i g e h. may.large_alone i g (large_among y.large g e) h;
      stay = λ k e d. let r = down_among y.small y.blocks k e in freed_directory y.kind (may.kind r.0 r.1 (ap (λ z. is_directory_use (s.use_of z)) r.2 ∙ d));
    })
