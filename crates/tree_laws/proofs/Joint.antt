-- The same changes made in two trees, at births where they agree.
use Rattle.std.proofs.Common.{ℕ, ◌≡◌, ◌+◌, ◌-◌, Bool, true, false, Option, Some, None, List, cond, refl, ap, sym, ◌∙◌, subst, inl, inr, ◌⊎◌, nat_lt}
use Rattle.frang_base.specs.declared.reply.Reply.{Reply}
use Rattle.tree_definitions.specs.declared.node.Node.{Node}
use Rattle.tree_definitions.specs.declared.node.Node.TheVariants.{Dir, File, Link}
use Rattle.tree_definitions.specs.Entries.{with_entry, without_entry}
use Rattle.tree_definitions.specs.Tree.{FileTree, node_at, with_node, without_node}
use Rattle.tree_definitions.specs.Apply.{Plain, Applied, says, one_link_more, one_link_fewer, name_gone, name_set, moved}
use Rattle.tree_definitions.specs.Touched.{is_nospace}
use Rattle.tree_definitions.specs.WellFormed.{BirthsAscend}
use Rattle.tree_laws.specs.Touching.{wants_room}
use Rattle.tree_laws.specs.Rooms.{SameRoom}
use Rattle.tree_laws.proofs.Likeness.{Likeness, Like, Near, LikeAnswer, like_same, like_equal}
use Rattle.tree_definitions.proofs.Births.{each_but}
use Rattle.tree_laws.proofs.Nodes.{with_same, with_other, without_same, without_other}

-- one node in two trees, before and after: alike before and alike after, or left in both
abbrev pub Both : Likeness → Option Node → Option Node → Option Node → Option Node → Type 0
Both L a b c d = (Like L a b × Like L c d) ⊎ ((c ≡ a) × (d ≡ b))

-- two trees, and what was made of them
pub record Joint (L : Likeness) (one two u v : FileTree) : Type 0 where
  pub each : (b : ℕ) → Both L (node_at one b) (node_at two b) (node_at u b) (node_at v b)

both_like : (L : Likeness) (a b c d : Option Node) → Both L a b c d → Like L a b → Like L c d
both_like L a b c d (inl p) e = p.1
both_like L a b c d (inr p) e = subst (λ o. Like L o d) (sym p.0) (subst (Like L a) (sym p.1) e)

module _ (L : Likeness) (one two : FileTree) where
  pub joint_none : Joint L one two one two
  joint_none = record { each = λ b. inr (refl, refl) }

  module _ (u v : FileTree) (j : Joint L one two u v) where
    -- where the trees were alike, what was made of them is
    pub joint_near : (d : ℕ) → Near L one two d → Near L u v d
    joint_near d e = both_like L (node_at one d) (node_at two d) (node_at u d) (node_at v d) (j.each d) e

    pub joint_put : (d : ℕ) (x y : Node) → Near L one two d → Like L (Some x) (Some y) → Joint L one two (with_node u d x) (with_node v d y)
    joint_put d x y e l = record {
      each = each_but (λ b. Both L (node_at one b) (node_at two b) (node_at (with_node u d x) b) (node_at (with_node v d y) b)) d
          (inl (e, subst (λ o. Like L o (node_at (with_node v d y) d)) (sym (with_same u d x)) (subst (Like L (Some x)) (sym (with_same v d y)) l)))
          (λ c n. subst (λ o. Both L (node_at one c) (node_at two c) o (node_at (with_node v d y) c)) (sym (with_other u d x c n)) (subst (λ o. Both L (node_at one c) (node_at two c) (node_at u c) o) (sym (with_other v d y c n)) (j.each c)));
    }

    pub joint_with : (d : ℕ) (x : Node) → Near L one two d → Joint L one two (with_node u d x) (with_node v d x)
    joint_with d x e = joint_put d x x e (like_same L (Some x))

    module _ (bu : BirthsAscend u) (bv : BirthsAscend v) where
      pub joint_without : (d : ℕ) → Near L one two d → Joint L one two (without_node u d) (without_node v d)
      joint_without d e = record {
        each = each_but (λ b. Both L (node_at one b) (node_at two b) (node_at (without_node u d) b) (node_at (without_node v d) b)) d
            (inl (e, like_equal L (node_at (without_node u d) d) (node_at (without_node v d) d) (without_same u d bu ∙ sym (without_same v d bv))))
            (λ c n. subst (λ o. Both L (node_at one c) (node_at two c) o (node_at (without_node v d) c)) (sym (without_other u d c n)) (subst (λ o. Both L (node_at one c) (node_at two c) (node_at u c) o) (sym (without_other v d c n)) (j.each c)));
      }

      joint_if : (d : ℕ) (x y : Node) (t : Bool) → Near L one two d → Like L (Some x) (Some y) → Joint L one two (cond t (with_node u d x) (without_node u d)) (cond t (with_node v d y) (without_node v d))
      joint_if d x y true e l = joint_put d x y e l
      joint_if d x y false e l = joint_without d e

      pub joint_fewer : (d : ℕ) (o q : Option Node) → Near L one two d → Like L o q → Joint L one two (one_link_fewer u d o) (one_link_fewer v d q)
      joint_fewer d (Some (File cells links when)) q e l = subst (λ z. Joint L one two (one_link_fewer u d (Some (File cells links when))) (one_link_fewer v d z)) (sym l.1) (joint_if d (File cells (links - 1) when) (File l.0 (links - 1) when) (nat_lt 1 links) e (l.0, refl, l.2))
      joint_fewer d (Some (Link target links)) q e l = subst (λ z. Joint L one two (one_link_fewer u d (Some (Link target links))) (one_link_fewer v d z)) (sym l) (joint_if d (Link target (links - 1)) (Link target (links - 1)) (nat_lt 1 links) e refl)
      joint_fewer d (Some (Dir es n)) q e l = subst (λ z. Joint L one two (one_link_fewer u d (Some (Dir es n))) (one_link_fewer v d z)) (sym l) (joint_without d e)
      joint_fewer d None q e l = subst (λ z. Joint L one two u (one_link_fewer v d z)) (sym l) j

    pub joint_more : (d : ℕ) (o q : Option Node) → Near L one two d → Like L o q → Joint L one two (one_link_more u d o) (one_link_more v d q)
    joint_more d (Some (File cells links when)) q e l = subst (λ z. Joint L one two (one_link_more u d (Some (File cells links when))) (one_link_more v d z)) (sym l.1) (joint_put d (File cells (links + 1) when) (File l.0 (links + 1) when) e (l.0, refl, l.2))
    joint_more d (Some (Link target links)) q e l = subst (λ z. Joint L one two (one_link_more u d (Some (Link target links))) (one_link_more v d z)) (sym l) (joint_with d (Link target (links + 1)) e)
    joint_more d (Some (Dir es n)) q e l = subst (λ z. Joint L one two u (one_link_more v d z)) (sym l) j
    joint_more d None q e l = subst (λ z. Joint L one two u (one_link_more v d z)) (sym l) j

    pub joint_gone : (d : ℕ) (name : List ℕ) (o q : Option Node) → Near L one two d → Like L o q → Joint L one two (name_gone u d name o) (name_gone v d name q)
    joint_gone d name (Some (Dir es n)) q e l = subst (λ z. Joint L one two (name_gone u d name (Some (Dir es n))) (name_gone v d name z)) (sym l) (joint_with d (Dir (without_entry es name) n) e)
    joint_gone d name (Some (File cells links when)) q e l = subst (λ z. Joint L one two u (name_gone v d name z)) (sym l.1) j
    joint_gone d name (Some (Link target links)) q e l = subst (λ z. Joint L one two u (name_gone v d name z)) (sym l) j
    joint_gone d name None q e l = subst (λ z. Joint L one two u (name_gone v d name z)) (sym l) j

    pub joint_set : (d : ℕ) (name : List ℕ) (birth : ℕ) (o q : Option Node) → Near L one two d → Like L o q → Joint L one two (name_set u d name birth o) (name_set v d name birth q)
    joint_set d name birth (Some (Dir es n)) q e l = subst (λ z. Joint L one two (name_set u d name birth (Some (Dir es n))) (name_set v d name birth z)) (sym l) (joint_with d (Dir (with_entry es name birth) n) e)
    joint_set d name birth (Some (File cells links when)) q e l = subst (λ z. Joint L one two u (name_set v d name birth z)) (sym l.1) j
    joint_set d name birth (Some (Link target links)) q e l = subst (λ z. Joint L one two u (name_set v d name birth z)) (sym l) j
    joint_set d name birth None q e l = subst (λ z. Joint L one two u (name_set v d name birth z)) (sym l) j

  pub joint_moved : (u v : FileTree) → Joint L one two u v → (from : ℕ) (name : List ℕ) (to : ℕ) (new : List ℕ) (birth : ℕ) → Near L one two from → Near L one two to → Joint L one two (moved u from name to new birth) (moved v from name to new birth)
  joint_moved u v j from name to new birth e f =
      let gu = name_gone u from name (node_at u from) in
      let gv = name_gone v from name (node_at v from) in
      let gone = joint_gone u v j from name (node_at u from) (node_at v from) e (joint_near u v j from e) in
      joint_set gu gv gone to new birth (node_at gu to) (node_at gv to) f (joint_near gu gv gone to f)

  -- two outcomes
  pub record Alike (a c : Applied) : Type 0 where
    pub answer : LikeAnswer L a.answer c.answer
    pub nodes : Joint L one two a.tree c.tree

  -- two outcomes are alike, unless one wants room; where the trees take the same of the disk, in any case
  pub record Matches (a c : Applied) : Type 0 where
    pub alike : wants_room a.answer ≡ false → wants_room c.answer ≡ false → Alike a c
    pub roomy : SameRoom one two → Alike a c

  pub both_do : (u v : FileTree) (r : Reply) → Joint L one two u v → Matches (says u r) (says v r)
  both_do u v r j = record { alike = λ _ _. record { answer = refl; nodes = j }; roomy = λ _. record { answer = refl; nodes = j } }

  pub both_say : (r : Reply) → Matches (says one r) (says two r)
  both_say r = both_do one two r joint_none

  pub both_if : (b : Bool) (x y p q : Applied) → Matches x p → Matches y q → Matches (cond b x y) (cond b p q)
  both_if true x y p q m n = m
  both_if false x y p q m n = n

  pub if_known : (b : Bool) (x y p q : Applied) → (b ≡ true → Matches x p) → (b ≡ false → Matches y q) → Matches (cond b x y) (cond b p q)
  if_known true x y p q m n = m refl
  if_known false x y p q m n = n refl

  pub if_room : (b c : Bool) (r s : Reply) (x y : Applied) → is_nospace r ≡ true → is_nospace s ≡ true → (SameRoom one two → b ≡ c) → (SameRoom one two → r ≡ s) → Matches x y → Matches (cond b (says one r) x) (cond c (says two s) y)
  if_room true true r s x y h g e i m = record { alike = λ v w. absurd (cc); roomy = λ k. record { answer = ap Plain (sym (i k)); nodes = joint_none } }
  if_room true false r s x y h g e i m = record { alike = λ v w. absurd (cc); roomy = λ k. absurd (let z : true ≡ false = e k in cc) }
  if_room false true r s x y h g e i m = record { alike = λ v w. absurd (cc); roomy = λ k. absurd (let z : false ≡ true = e k in cc) }
  if_room false false r s x y h g e i m = m
