-- Edits that write one inode, and set its bit and those of some blocks, are sound where the blocks are its own or come to be.
use Rattle.std.proofs.Common.{ℕ, ◌≡◌, ◌≢◌, zero, suc, ◌<◌, ◌+◌, ⊎_elim, Bool, true, false, if◌then◌else◌, Option, Some, None, is_some, List, refl, sym, ◌∙◌, ap, subst, arith, nat_eq}
use Rattle.std.specs.Option.{unwrap_or}
use Rattle.std.proofs.lemmas.Bool.{cases_eq, eq-eqb}
use Rattle.frang_base.specs.Functions.{put}
use Rattle.frang_base.proofs.Basics.{put_same, put_other}
use Rattle.disk_definitions.specs.Store.{Store, StoredNode, Use, is_unused}
use Rattle.disk_definitions.specs.Edits.{Edit}
use Rattle.disk_definitions.specs.Resizing.{index_in}
use Rattle.disk_definitions.proofs.Indices.{index_hit}
use Rattle.disk_definitions.specs.Meets.{is_directory_use}
use Rattle.plan_laws.proofs.Among.{is_among}
use Rattle.plan_laws.specs.Moves.{HasSmall, HasLarge}
use Rattle.disk_definitions.specs.Moves.{first_said, bit_said, use_said, large_said, taker_said, large_taker_said, is_small_of}
use Rattle.plan_laws.proofs.Joining.{Writes, AreSound}

-- ---- the blocks of a node

one_of_these : (small : ℕ → ℕ) (n k j : ℕ) → j < n → small j ≡ k → is_some (index_in small n k) ≡ true
one_of_these small zero k j l e = absurd (omega arith)
one_of_these small (suc n) k j l e = go (nat_eq (small n) k) refl (λ l. one_of_these small n k j l e)
  where
    below_it : (j ≡ n → ⊥) → j < n
    below_it f = grind arith

    go : (b : Bool) → nat_eq (small n) k ≡ b → (j < n → is_some (index_in small n k) ≡ true) → is_some (if b then Some n else index_in small n k) ≡ true
    go true q rest = refl
    go false q rest = rest (below_it (λ i. (let z : nat_eq (small n) k ≡ true = eq-eqb (small n) k (ap small (sym i) ∙ e) in cc)))

pub small_of : (k j : ℕ) (x : StoredNode) → j < x.blocks → x.small j ≡ k → is_small_of k x ≡ true
small_of k j x l e = one_of_these x.small x.blocks k j l e

pub not_small_of : (k : ℕ) (x : StoredNode) → ((j : ℕ) → j < x.blocks → x.small j ≡ k → ⊥) → is_small_of k x ≡ false
not_small_of k x none = go (index_in x.small x.blocks k) refl
  where
    go : (o : Option ℕ) → index_in x.small x.blocks k ≡ o → is_some o ≡ false
    go None e = refl
    go (Some j) e = let r = index_hit x.small x.blocks k j e in absurd (none j r.1 r.0)

-- ---- one of some blocks says something, and the others nothing

pub is_said : {X : Type 0} (b : Bool) (u v : X) → (if b then Some u else None) ≡ Some v → (b ≡ true) × (u ≡ v)
is_said true u v e = (refl, cc)
is_said false u v e = absurd (cc)

pub is_unsaid : {X : Type 0} (b : Bool) (u : X) → (if b then Some u else None) ≡ None → b ≡ false
is_unsaid true u e = absurd (cc)
is_unsaid false u e = refl

unwrapped : {X : Type 0} (b : Bool) (u v : X) → unwrap_or (if b then Some u else None) v ≡ (if b then u else v)
unwrapped true u v = refl
unwrapped false u v = refl

-- What edits say that write inode i with o, give the inodes of bs the bit c, the small blocks of ks the use u, and the large blocks of gs the bit v;
-- and the store after them.
pub record IsChanged (s t : Store) (es : List Edit) (i : ℕ) (o : Option StoredNode) (bs : List ℕ) (c : Bool) (ks : List ℕ) (u : Use) (gs : List ℕ) (v : Bool) : Type 0 where
  pub inode : (j : ℕ) → t.inode j ≡ put s.inode i o j
  pub bit : (j : ℕ) → t.bit j ≡ (if is_among j bs then c else s.bit j)
  pub use_of : (k : ℕ) → t.use_of k ≡ (if is_among k ks then u else s.use_of k)
  pub large_bit : (g : ℕ) → t.large_bit g ≡ (if is_among g gs then v else s.large_bit g)
  pub bits : (j : ℕ) → first_said (bit_said j) es ≡ (if is_among j bs then Some c else None)
  pub uses : (k : ℕ) → first_said (use_said k) es ≡ (if is_among k ks then Some u else None)
  pub larges : (g : ℕ) → first_said (large_said g) es ≡ (if is_among g gs then Some v else None)
  pub takers : (k : ℕ) (y : StoredNode) → o ≡ Some y → is_small_of k y ≡ true → first_said (taker_said k) es ≡ Some i
  pub large_takers : (g : ℕ) (y : StoredNode) → o ≡ Some y → y.large ≡ g + 1 → first_said (large_taker_said g) es ≡ Some i
  pub writes : Writes es i

-- the inode is the one whose bit is set; it keeps its other blocks, and the blocks are its own before, where they are anyone's, and after, where they come
-- to be in use; a directory's stay ones
pub record MayChange (s : Store) (i : ℕ) (o : Option StoredNode) (bs : List ℕ) (ks : List ℕ) (u : Use) (gs : List ℕ) (v : Bool) : Type 0 where
  pub own_bit : (j : ℕ) → is_among j bs ≡ true → j ≡ i
  pub keeps : (x : StoredNode) (j : ℕ) → s.inode i ≡ Some x → j < x.blocks → is_among (x.small j) ks ≡ false → (y : StoredNode) × (o ≡ Some y) × (m : ℕ) × (m < y.blocks) × (y.small m ≡ x.small j)
  pub gains : is_unused u ≡ false → (k : ℕ) → is_among k ks ≡ true → (y : StoredNode) × (o ≡ Some y) × (m : ℕ) × (m < y.blocks) × (y.small m ≡ k)
  pub own : (j k : ℕ) → is_among k ks ≡ true → HasSmall s j k → j ≡ i
  pub keeps_large : (x : StoredNode) (g : ℕ) → s.inode i ≡ Some x → x.large ≡ g + 1 → is_among g gs ≡ false → (y : StoredNode) × (o ≡ Some y) × (y.large ≡ g + 1)
  pub gains_large : v ≡ true → (g : ℕ) → is_among g gs ≡ true → (y : StoredNode) × (o ≡ Some y) × (y.large ≡ g + 1)
  pub own_large : (j g : ℕ) → is_among g gs ≡ true → HasLarge s j g → j ≡ i
  pub stay : (k : ℕ) → is_among k ks ≡ true → is_directory_use (s.use_of k) ≡ true → is_directory_use u ≡ true

module _ (s t : Store) (es : List Edit) (i : ℕ) (o : Option StoredNode) (bs : List ℕ) (c : Bool) (ks : List ℕ) (u : Use) (gs : List ℕ) (v : Bool) (is : IsChanged s t es i o bs c ks u gs v) (may : MayChange s i o bs ks u gs v) where
  now : (y : StoredNode) → o ≡ Some y → t.inode i ≡ Some y
  now y e = is.inode i ∙ put_same s.inode i o ∙ e

  other : (j : ℕ) → j ≢ i → t.inode j ≡ s.inode j
  other j d = is.inode j ∙ put_other s.inode i o j d

  kept : (j k : ℕ) → HasSmall s j k → first_said (use_said k) es ≡ None → HasSmall t j k
  kept j k h e = ⊎_elim
      (λ q. let a : is_among k ks ≡ false = is_unsaid (is_among k ks) u (sym (is.uses k) ∙ e) in
      let r = may.keeps h.node h.index (subst (λ z. s.inode z ≡ Some h.node) q h.is) h.inside (ap (λ z. is_among z ks) h.here ∙ a) in
      record { node = r.0; is = ap t.inode q ∙ now r.0 r.1; index = r.2; inside = r.3; here = r.4 ∙ h.here })
      (λ d. record { node = h.node; is = other j d ∙ h.is; index = h.index; inside = h.inside; here = h.here }) (cases_eq j i)

  kept_large : (j g : ℕ) → HasLarge s j g → first_said (large_said g) es ≡ None → HasLarge t j g
  kept_large j g h e = ⊎_elim
      (λ q. let a : is_among g gs ≡ false = is_unsaid (is_among g gs) v (sym (is.larges g) ∙ e) in
      let r = may.keeps_large h.node g (subst (λ z. s.inode z ≡ Some h.node) q h.is) h.here a in
      record { node = r.0; is = ap t.inode q ∙ now r.0 r.1; here = r.2 })
      (λ d. record { node = h.node; is = other j d ∙ h.is; here = h.here }) (cases_eq j i)

  gained : (k : ℕ) (w : Use) → first_said (use_said k) es ≡ Some w → is_unused w ≡ false → (j : ℕ) × (first_said (taker_said k) es ≡ Some j) × HasSmall t j k
  gained k w e f =
      let a = is_said (is_among k ks) u w (sym (is.uses k) ∙ e) in
      let r = may.gains (ap is_unused a.1 ∙ f) k a.0 in
      (i, is.takers k r.0 r.1 (small_of k r.2 r.0 r.3 r.4), record { node = r.0; is = now r.0 r.1; index = r.2; inside = r.3; here = r.4 })

  gained_large : (g : ℕ) → first_said (large_said g) es ≡ Some true → (j : ℕ) × (first_said (large_taker_said g) es ≡ Some j) × HasLarge t j g
  gained_large g e =
      let a = is_said (is_among g gs) v true (sym (is.larges g) ∙ e) in
      let r = may.gains_large a.1 g a.0 in
      (i, is.large_takers g r.0 r.1 r.2, record { node = r.0; is = now r.0 r.1; here = r.2 })

  pub one_node : AreSound s t es
  one_node = record {
    tidy = record {
      bits = λ j. is.bit j ∙ sym (unwrapped (is_among j bs) c (s.bit j)) ∙ sym (ap (λ z. unwrap_or z (s.bit j)) (is.bits j));
      uses = λ k. is.use_of k ∙ sym (unwrapped (is_among k ks) u (s.use_of k)) ∙ sym (ap (λ z. unwrap_or z (s.use_of k)) (is.uses k));
      larges = λ g. is.large_bit g ∙ sym (unwrapped (is_among g gs) v (s.large_bit g)) ∙ sym (ap (λ z. unwrap_or z (s.large_bit g)) (is.larges g));
      keeps = kept;
      gains = gained;
      keeps_large = kept_large;
      gains_large = gained_large;
    };
    bits = λ j b e. let a = is_said (is_among j bs) c b (sym (is.bits j) ∙ e) in subst (Writes es) (sym (may.own_bit j a.0)) is.writes;
    smalls = λ k w j e h. let a = is_said (is_among k ks) u w (sym (is.uses k) ∙ e) in subst (Writes es) (sym (may.own j k a.0 h)) is.writes;
    larges = λ g w j e h. let a = is_said (is_among g gs) v w (sym (is.larges g) ∙ e) in subst (Writes es) (sym (may.own_large j g a.0 h)) is.writes;
    stay = λ k w e d. let a = is_said (is_among k ks) u w (sym (is.uses k) ∙ e) in subst (λ z. is_directory_use z ≡ true) a.1 (may.stay k a.0 d);
  }
