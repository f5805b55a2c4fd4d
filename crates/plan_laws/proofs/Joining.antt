-- Edits that move only what is their own, one list of them after another.
use Rattle.std.proofs.Common.{ℕ, ◌≡◌, Bool, true, false, Option, Some, None, List, [], ◌∷◌, ◌++◌, refl, sym, ◌∙◌, ap}
use Rattle.std.proofs.lemmas.List.Elements.{Contains-append_left, Contains-append_right}
use Rattle.std.specs.Option.{option_or, unwrap_or}
use Rattle.std.specs.List.{Contains}
use Rattle.disk_definitions.specs.Store.{Store, StoredNode, Use, is_unused}
use Rattle.disk_definitions.specs.Edits.{Edit}
use Rattle.disk_definitions.specs.Edits.Edit.{SetInode}
use Rattle.disk_definitions.specs.Meets.{is_directory_use}
use Rattle.plan_laws.specs.Moves.{HasSmall, HasLarge, AreTidy}
use Rattle.disk_definitions.specs.Moves.{first_said, bit_said, use_said, large_said, taker_said, large_taker_said}

-- ---- what two lists say

or_or : {X : Type 0} (a b c : Option X) → option_or (option_or a b) c ≡ option_or a (option_or b c)
or_or None b c = refl
or_or (Some x) b c = refl

pub said_join : {X : Type 0} (f : Edit → Option X) (es fs : List Edit) → first_said f (es ++ fs) ≡ option_or (first_said f es) (first_said f fs)
said_join f [] fs = refl
said_join f (e ∷ es) fs = ap (option_or (f e)) (said_join f es fs) ∙ sym (or_or (f e) (first_said f es) (first_said f fs))

-- both parts say nothing
none_both : {X : Type 0} (a b : Option X) → option_or a b ≡ None → (a ≡ None) × (b ≡ None)
none_both None b e = (refl, e)
none_both (Some x) b e = absurd (cc)

-- one after the other, where the second says nothing of what the first says
after_both : {X : Type 0} (a b : Option X) (x y z : X) → y ≡ unwrap_or a x → z ≡ unwrap_or b y → ((v : X) → a ≡ Some v → b ≡ None) → z ≡ unwrap_or (option_or a b) x
after_both None b x y z p q f = q ∙ ap (unwrap_or b) p
after_both (Some v) b x y z p q f = q ∙ ap (λ o. unwrap_or o y) (f v refl) ∙ p

-- the first says it, or nothing, and the second says it
said_by : {X : Type 0} (a b : Option X) (v : X) → option_or a b ≡ Some v → (P : Type 0) → (a ≡ Some v → P) → (a ≡ None → b ≡ Some v → P) → P
said_by None b v e P f g = g refl e
said_by (Some w) b v e P f g = f e

-- ---- edits that are sound

-- one of the edits writes the inode
abbrev pub Writes : List Edit → ℕ → Type 0
Writes es i = (x : Option StoredNode) × (dated : Bool) × Contains es (SetInode i x dated)

-- tidy edits, which write the inode of each bit that they set, and of each node that has a block of which they say a use or a bit; a directory's block stays one
pub record AreSound (s t : Store) (es : List Edit) : Type 0 where
  pub tidy : AreTidy s t es
  pub bits : (i : ℕ) (b : Bool) → first_said (bit_said i) es ≡ Some b → Writes es i
  pub smalls : (k : ℕ) (u : Use) (i : ℕ) → first_said (use_said k) es ≡ Some u → HasSmall s i k → Writes es i
  pub larges : (g : ℕ) (b : Bool) (i : ℕ) → first_said (large_said g) es ≡ Some b → HasLarge s i g → Writes es i
  pub stay : (k : ℕ) (u : Use) → first_said (use_said k) es ≡ Some u → is_directory_use (s.use_of k) ≡ true → is_directory_use u ≡ true

-- no use and no bit is said by both, and the first write no inode with a block that the second put in use
pub record AreApart (es fs : List Edit) : Type 0 where
  pub bits : (i : ℕ) (b : Bool) → first_said (bit_said i) es ≡ Some b → first_said (bit_said i) fs ≡ None
  pub uses : (k : ℕ) (u : Use) → first_said (use_said k) es ≡ Some u → first_said (use_said k) fs ≡ None
  pub larges : (g : ℕ) (b : Bool) → first_said (large_said g) es ≡ Some b → first_said (large_said g) fs ≡ None
  pub takers : (k : ℕ) (u : Use) → first_said (use_said k) fs ≡ Some u → is_unused u ≡ false → first_said (taker_said k) es ≡ None
  pub large_takers : (g : ℕ) → first_said (large_said g) fs ≡ Some true → first_said (large_taker_said g) es ≡ None

module _ (s t u : Store) (es fs : List Edit) (a : AreSound s t es) (b : AreSound t u fs) (apart : AreApart es fs) where
  written_first : (i : ℕ) → Writes es i → Writes (es ++ fs) i
  written_first i w = (w.0, w.1, Contains-append_left es fs (SetInode i w.0 w.1) w.2)

  written_then : (i : ℕ) → Writes fs i → Writes (es ++ fs) i
  written_then i w = (w.0, w.1, Contains-append_right es fs (SetInode i w.0 w.1) w.2)

  -- by which of the lists says it
  by_list : {X : Type 0} (f : Edit → Option X) (v : X) (P : Type 0) → first_said f (es ++ fs) ≡ Some v → (first_said f es ≡ Some v → P) → (first_said f es ≡ None → first_said f fs ≡ Some v → P) → P
  by_list f v P e = said_by (first_said f es) (first_said f fs) v (sym (said_join f es fs) ∙ e) P

  by_neither : {X : Type 0} (f : Edit → Option X) → first_said f (es ++ fs) ≡ None → (first_said f es ≡ None) × (first_said f fs ≡ None)
  by_neither f e = none_both (first_said f es) (first_said f fs) (sym (said_join f es fs) ∙ e)

  stands : {X : Type 0} (f : Edit → Option X) (x y z : X) → y ≡ unwrap_or (first_said f es) x → z ≡ unwrap_or (first_said f fs) y → ((v : X) → first_said f es ≡ Some v → first_said f fs ≡ None) → z ≡ unwrap_or (first_said f (es ++ fs)) x
  stands f x y z p q apart = after_both (first_said f es) (first_said f fs) x y z p q apart ∙ ap (λ o. unwrap_or o x) (sym (said_join f es fs))

  gained : (k : ℕ) (v : Use) → first_said (use_said k) (es ++ fs) ≡ Some v → is_unused v ≡ false → (i : ℕ) × (first_said (taker_said k) (es ++ fs) ≡ Some i) × HasSmall u i k
  gained k v e f = by_list (use_said k) v ((i : ℕ) × (first_said (taker_said k) (es ++ fs) ≡ Some i) × HasSmall u i k) e
      (λ p. let r = a.tidy.gains k v p f in (r.0, said_join (taker_said k) es fs ∙ ap (λ o. option_or o (first_said (taker_said k) fs)) r.1, b.tidy.keeps r.0 k r.2 (apart.uses k v p)))
      (λ p q. let r = b.tidy.gains k v q f in (r.0, said_join (taker_said k) es fs ∙ ap (λ o. option_or o (first_said (taker_said k) fs)) (apart.takers k v q f) ∙ r.1, r.2))

  gained_large : (g : ℕ) → first_said (large_said g) (es ++ fs) ≡ Some true → (i : ℕ) × (first_said (large_taker_said g) (es ++ fs) ≡ Some i) × HasLarge u i g
  gained_large g e = by_list (large_said g) true ((i : ℕ) × (first_said (large_taker_said g) (es ++ fs) ≡ Some i) × HasLarge u i g) e
      (λ p. let r = a.tidy.gains_large g p in (r.0, said_join (large_taker_said g) es fs ∙ ap (λ o. option_or o (first_said (large_taker_said g) fs)) r.1, b.tidy.keeps_large r.0 g r.2 (apart.larges g true p)))
      (λ p q. let r = b.tidy.gains_large g q in (r.0, said_join (large_taker_said g) es fs ∙ ap (λ o. option_or o (first_said (large_taker_said g) fs)) (apart.large_takers g q) ∙ r.1, r.2))

  joined_tidy : AreTidy s u (es ++ fs)
  joined_tidy = record {
    bits = λ i. stands (bit_said i) (s.bit i) (t.bit i) (u.bit i) (a.tidy.bits i) (b.tidy.bits i) (apart.bits i);
    uses = λ k. stands (use_said k) (s.use_of k) (t.use_of k) (u.use_of k) (a.tidy.uses k) (b.tidy.uses k) (apart.uses k);
    larges = λ g. stands (large_said g) (s.large_bit g) (t.large_bit g) (u.large_bit g) (a.tidy.larges g) (b.tidy.larges g) (apart.larges g);
    keeps = λ i k h e. let z = by_neither (use_said k) e in b.tidy.keeps i k (a.tidy.keeps i k h z.0) z.1;
    gains = gained;
    keeps_large = λ i g h e. let z = by_neither (large_said g) e in b.tidy.keeps_large i g (a.tidy.keeps_large i g h z.0) z.1;
    gains_large = gained_large;
  }

  pub joined : AreSound s u (es ++ fs)
  joined = record {
    tidy = joined_tidy;
    bits = λ i v e. by_list (bit_said i) v (Writes (es ++ fs) i) e (λ p. written_first i (a.bits i v p)) (λ p q. written_then i (b.bits i v q));
    smalls = λ k v i e h. by_list (use_said k) v (Writes (es ++ fs) i) e (λ p. written_first i (a.smalls k v i p h)) (λ p q. written_then i (b.smalls k v i q (a.tidy.keeps i k h p)));
    larges = λ g v i e h. by_list (large_said g) v (Writes (es ++ fs) i) e (λ p. written_first i (a.larges g v i p h)) (λ p q. written_then i (b.larges g v i q (a.tidy.keeps_large i g h p)));
    stay = λ k v e d. by_list (use_said k) v (is_directory_use v ≡ true) e (λ p. a.stay k v p d)
        (λ p q. let same : t.use_of k ≡ s.use_of k = a.tidy.uses k ∙ ap (λ o. unwrap_or o (s.use_of k)) p in b.stay k v q (ap is_directory_use same ∙ d));
  }

-- ---- edits that say nothing

pub record AreQuiet (es : List Edit) : Type 0 where
  pub bits : (i : ℕ) → first_said (bit_said i) es ≡ None
  pub uses : (k : ℕ) → first_said (use_said k) es ≡ None
  pub larges : (g : ℕ) → first_said (large_said g) es ≡ None

pub no_some : {X : Type 0} (v : X) (o : Option X) → o ≡ None → o ≡ Some v → ⊥
no_some v o a b = cc

-- before or after others they are apart from them, before them where those put nothing in use or they write none of it
pub quiet_then : (es fs : List Edit) → AreQuiet es → ((k : ℕ) (u : Use) → first_said (use_said k) fs ≡ Some u → is_unused u ≡ false → first_said (taker_said k) es ≡ None) → ((g : ℕ) → first_said (large_said g) fs ≡ Some true → first_said (large_taker_said g) es ≡ None) → AreApart es fs
quiet_then es fs q takers large_takers = record {
  bits = λ i b e. absurd (no_some b (first_said (bit_said i) es) (q.bits i) e);
  uses = λ k u e. absurd (no_some u (first_said (use_said k) es) (q.uses k) e);
  larges = λ g b e. absurd (no_some b (first_said (large_said g) es) (q.larges g) e);
  takers = takers;
  large_takers = large_takers;
}

pub then_quiet : (es fs : List Edit) → AreQuiet fs → AreApart es fs
then_quiet es fs q = record {
  bits = λ i b e. q.bits i;
  uses = λ k u e. q.uses k;
  larges = λ g b e. q.larges g;
  takers = λ k u e f. absurd (no_some u (first_said (use_said k) fs) (q.uses k) e);
  large_takers = λ g e. absurd (no_some true (first_said (large_said g) fs) (q.larges g) e);
}

-- the stores differ neither in inodes nor in bits and uses
pub record AreAlike (s t : Store) : Type 0 where
  pub inode : (i : ℕ) → t.inode i ≡ s.inode i
  pub bit : (i : ℕ) → t.bit i ≡ s.bit i
  pub use_of : (k : ℕ) → t.use_of k ≡ s.use_of k
  pub large_bit : (g : ℕ) → t.large_bit g ≡ s.large_bit g

pub quiet_sound : (s t : Store) (es : List Edit) → AreAlike s t → AreQuiet es → AreSound s t es
quiet_sound s t es alike q = record {
  tidy = record {
    bits = λ i. alike.bit i ∙ sym (ap (λ o. unwrap_or o (s.bit i)) (q.bits i));
    uses = λ k. alike.use_of k ∙ sym (ap (λ o. unwrap_or o (s.use_of k)) (q.uses k));
    larges = λ g. alike.large_bit g ∙ sym (ap (λ o. unwrap_or o (s.large_bit g)) (q.larges g));
    keeps = λ i k h e. record { node = h.node; is = alike.inode i ∙ h.is; index = h.index; inside = h.inside; here = h.here };
    gains = λ k u e f. absurd (no_some u (first_said (use_said k) es) (q.uses k) e);
    keeps_large = λ i g h e. record { node = h.node; is = alike.inode i ∙ h.is; here = h.here };
    gains_large = λ g e. absurd (no_some true (first_said (large_said g) es) (q.larges g) e);
  };
  bits = λ i b e. absurd (no_some b (first_said (bit_said i) es) (q.bits i) e);
  smalls = λ k u i e h. absurd (no_some u (first_said (use_said k) es) (q.uses k) e);
  larges = λ g b i e h. absurd (no_some b (first_said (large_said g) es) (q.larges g) e);
  stay = λ k u e d. absurd (no_some u (first_said (use_said k) es) (q.uses k) e);
}
