-- What changes of a tree do to its order, to its root, and to the balance of names and links.
use Rattle.std.proofs.Common.{ℕ, ◌≡◌, ◌≢◌, ◌≤◌, ◌+◌, ◌==◌, true, Option, Some, None, List, cond, refl, sym, ◌∙◌, ap, subst, arith, eq-eqb, ne_eqb, unwrap_or}
use Rattle.std.specs.Option.{option_map}
use Rattle.std.specs.List.Sorted.{IsStrictlySortedBy}
use Rattle.std.specs.Map.{keys_of}
use Rattle.std.specs.BTreeMap.{is_at}
use Rattle.std.specs.Ordering.{nat_cmp}
use Rattle.std.specs.Cmp.{nat_cmp_total}
use Rattle.std.specs.Cmp.Lexicographic.{slice_cmp, nat_list_cmp_total}
use Rattle.std.proofs.lemmas.Map.Entries.{sum_by-insert_entry, sum_by-remove_entry}
use Rattle.tree_definitions.specs.declared.node.Node.{Node}
use Rattle.tree_definitions.specs.declared.node.Node.TheVariants.{Dir, File, Link}
use Rattle.tree_definitions.specs.Entries.{Entries, entry_at, with_entry, without_entry}
use Rattle.tree_definitions.specs.Tree.{FileTree, node_at, with_node, without_node}
use Rattle.tree_definitions.specs.Apply.{is_dir, links_of}
use Rattle.tree_definitions.specs.WellFormed.{BirthsAscend, NamesAscend, IsRooted, one_at, names_in, names_of, IsWellFormed}
use Rattle.tree_laws.specs.Touching.{Kind, OfDirectory, OfFile, OfLink}
use Rattle.tree_definitions.proofs.Births.{each_but}
use Rattle.tree_laws.proofs.Nodes.{with_same, with_other, without_same, without_other, ascend_with, ascend_without}

-- a count of a node that may not be there
abbrev pub names_at : ℕ → Option Node → ℕ
names_at b o = unwrap_or (option_map (names_in b) o) 0

-- 1 where a name has this birth
abbrev pub at_name : ℕ → Option ℕ → ℕ
at_name b o = unwrap_or (option_map (one_at b) o) 0

pub one_own : (b : ℕ) → one_at b b ≡ 1
one_own b = ap (λ t. cond t 1 0) (eq-eqb b b refl)

pub one_other : (b c : ℕ) → c ≢ b → one_at b c ≡ 0
one_other b c n = ap (λ t. cond t 1 0) (ne_eqb c b n)

pub names_with : (t : FileTree) (d : ℕ) (x : Node) (b : ℕ) → BirthsAscend t → names_of (with_node t d x) b + names_at b (node_at t d) ≡ names_of t b + names_in b x
names_with t d x b births = sum_by-insert_entry (names_in b) nat_cmp_total t.nodes d x births

pub names_without : (t : FileTree) (d b : ℕ) → names_of (without_node t d) b + names_at b (node_at t d) ≡ names_of t b
names_without t d b = sum_by-remove_entry (names_in b) (is_at (nat_cmp d)) t.nodes

pub count_put : (es : Entries) (n k : ℕ) (name : List ℕ) (v b : ℕ) → IsStrictlySortedBy (slice_cmp nat_cmp) (keys_of es) → names_in b (Dir (with_entry es name v) k) + at_name b (entry_at es name) ≡ names_in b (Dir es n) + one_at b v
count_put es n k name v b sorted = sum_by-insert_entry (one_at b) nat_list_cmp_total es name v sorted

pub count_removed : (es : Entries) (n k : ℕ) (name : List ℕ) (b : ℕ) → names_in b (Dir (without_entry es name) k) + at_name b (entry_at es name) ≡ names_in b (Dir es n)
count_removed es n k name b = sum_by-remove_entry (one_at b) (is_at (slice_cmp nat_cmp name)) es

-- which births may have nodes of which kinds, and how many blocks a directory has at least
pub record Limits : Type 1 where
  pub allowed : ℕ → Kind → Type 0
  pub least : ℕ → ℕ

-- a node is within these limits
abbrev pub Within : Limits → ℕ → Node → Type 0
Within A b (Dir es n) = A.allowed b OfDirectory × (A.least b ≤ n)
Within A b (File cells links when) = A.allowed b OfFile
Within A b (Link target links) = A.allowed b OfLink

-- each node is
abbrev pub AreAllowed : Limits → FileTree → Type 0
AreAllowed A t = (b : ℕ) (z : Node) → node_at t b ≡ Some z → Within A b z

-- a well-formed tree of allowed nodes
pub record Well (A : Limits) (t : FileTree) : Type 0 where
  pub well : IsWellFormed t
  pub allowed : AreAllowed A t

-- a tree that is well formed but for names and links that are owed: x names, and y links
pub record Owing (A : Limits) (t : FileTree) (x y : ℕ → ℕ) : Type 0 where
  pub allowed : AreAllowed A t
  pub births : BirthsAscend t
  pub names : NamesAscend t
  pub rooted : IsRooted t
  pub balance : (b : ℕ) → names_of t b + one_at 0 b + x b ≡ links_of (node_at t b) + y b

abbrev pub none_owed : ℕ → ℕ
none_owed b = 0

pub owing_none : (A : Limits) (t : FileTree) → Well A t → Owing A t none_owed none_owed
owing_none A t w = record { allowed = w.allowed; births = w.well.births; names = w.well.names; rooted = w.well.rooted; balance = λ b. (let e : names_of t b + one_at 0 b ≡ links_of (node_at t b) = w.well.links b in omega arith) }

pub paid : (A : Limits) (t : FileTree) (x y : ℕ → ℕ) → Owing A t x y → ((b : ℕ) → x b ≡ y b) → Well A t
paid A t x y o e = record {
  well = record { births = o.births; names = o.names; rooted = o.rooted; links = λ b. (let h : names_of t b + one_at 0 b + x b ≡ links_of (node_at t b) + y b = o.balance b in let k : x b ≡ y b = e b in omega arith) };
  allowed = o.allowed;
}

-- nodes stay allowed
allowed_with : (A : Limits) (t : FileTree) (d : ℕ) (x : Node) → AreAllowed A t → Within A d x → AreAllowed A (with_node t d x)
allowed_with A t d x all mine = λ b z is. each_but (λ c. node_at (with_node t d x) c ≡ Some z → Within A c z) d
    (λ is. (let e : Some x ≡ Some z = sym (with_same t d x) ∙ is in let f : x ≡ z = cc in subst (Within A d) f mine))
    (λ c far is. all c z (sym (with_other t d x c far) ∙ is)) b is

-- only a directory has entries
dirs_alone : (t : FileTree) (d : ℕ) (x : Node) → NamesAscend t → ((es : Entries) (n : ℕ) → x ≡ Dir es n → IsStrictlySortedBy (slice_cmp nat_cmp) (keys_of es)) → NamesAscend (with_node t d x)
dirs_alone t d x names mine = λ dir es n at. each_but (λ c. node_at (with_node t d x) c ≡ Some (Dir es n) → IsStrictlySortedBy (slice_cmp nat_cmp) (keys_of es)) d
    (λ at. mine es n (let e : Some x ≡ Some (Dir es n) = sym (with_same t d x) ∙ at in cc))
    (λ c far at. names c es n (sym (with_other t d x c far) ∙ at)) dir at

module _ (A : Limits) (t : FileTree) (x y : ℕ → ℕ) (o : Owing A t x y) where
  -- a directory gets other entries, in order
  module _ (d : ℕ) (es : Entries) (n : ℕ) (is : node_at t d ≡ Some (Dir es n)) (fs : Entries) (m : ℕ) (more : n ≤ m) (sorted : IsStrictlySortedBy (slice_cmp nat_cmp) (keys_of fs)) where
    dir_links : (b : ℕ) → links_of (node_at (with_node t d (Dir fs m)) b) ≡ links_of (node_at t b)
    dir_links = each_but (λ b. links_of (node_at (with_node t d (Dir fs m)) b) ≡ links_of (node_at t b)) d
        (ap links_of (with_same t d (Dir fs m)) ∙ ap links_of (sym is)) (λ c far. ap links_of (with_other t d (Dir fs m) c far))

    dir_rooted : IsRooted (with_node t d (Dir fs m))
    dir_rooted = each_but (λ b. is_dir (node_at t b) ≡ true → is_dir (node_at (with_node t d (Dir fs m)) b) ≡ true) d
        (λ r. ap is_dir (with_same t d (Dir fs m))) (λ c far r. ap is_dir (with_other t d (Dir fs m) c far) ∙ r) 0 o.rooted

    pub other_entries : (p q : ℕ → ℕ) → ((b : ℕ) → names_in b (Dir fs m) + p b ≡ names_in b (Dir es n) + q b) → Owing A (with_node t d (Dir fs m)) (λ b. x b + p b) (λ b. y b + q b)
    other_entries p q count = record {
      allowed = allowed_with A t d (Dir fs m) o.allowed (let i = o.allowed d (Dir es n) is in (i.0, (let j : A.least d ≤ n = i.1 in let k : A.least d ≤ m = omega arith in k)));
      births = ascend_with t d (Dir fs m) o.births;
      names = dirs_alone t d (Dir fs m) o.names (λ gs k e. (let i : fs ≡ gs = cc in subst (λ l. IsStrictlySortedBy (slice_cmp nat_cmp) (keys_of l)) i sorted));
      rooted = dir_rooted;
      balance = λ b. (
          let a : names_of (with_node t d (Dir fs m)) b + names_in b (Dir es n) ≡ names_of t b + names_in b (Dir fs m) = subst (λ z. names_of (with_node t d (Dir fs m)) b + names_at b z ≡ names_of t b + names_in b (Dir fs m)) is (names_with t d (Dir fs m) b o.births) in
          let c : names_in b (Dir fs m) + p b ≡ names_in b (Dir es n) + q b = count b in
          let h : names_of t b + one_at 0 b + x b ≡ links_of (node_at t b) + y b = o.balance b in
          let l : links_of (node_at (with_node t d (Dir fs m)) b) ≡ links_of (node_at t b) = dir_links b in
          owed (names_of (with_node t d (Dir fs m)) b) (names_of t b) (names_in b (Dir es n)) (names_in b (Dir fs m)) (p b) (q b) (one_at 0 b) (x b) (y b) (links_of (node_at (with_node t d (Dir fs m)) b)) (links_of (node_at t b)) a c h l);
    }
      where
        owed : (new old before after p q r x y k l : ℕ) → new + before ≡ old + after → after + p ≡ before + q → old + r + x ≡ l + y → k ≡ l → new + r + (x + p) ≡ k + (y + q)
        owed new old before after p q r x y k l a c h e = omega arith

  -- a node without entries takes the place of one without entries, or of none
  module _ (d : ℕ) (z : Node) (before : (b : ℕ) → names_at b (node_at t d) ≡ 0) (now : (b : ℕ) → names_in b z ≡ 0) (plain : (es : Entries) (n : ℕ) → z ≡ Dir es n → IsStrictlySortedBy (slice_cmp nat_cmp) (keys_of es)) (away : d ≢ 0) (fine : Within A d z) where
    plain_rooted : IsRooted (with_node t d z)
    plain_rooted = ap is_dir (with_other t d z 0 (λ e. away (sym e))) ∙ o.rooted

    same_names : (b : ℕ) → names_of (with_node t d z) b ≡ names_of t b
    same_names b =
        let a : names_of (with_node t d z) b + names_at b (node_at t d) ≡ names_of t b + names_in b z = names_with t d z b o.births in
        let u : names_at b (node_at t d) ≡ 0 = before b in let v : names_in b z ≡ 0 = now b in omega arith

    pub other_links : (p q : ℕ → ℕ) → ((b : ℕ) → links_of (node_at (with_node t d z) b) + p b ≡ links_of (node_at t b) + q b) → Owing A (with_node t d z) (λ b. x b + q b) (λ b. y b + p b)
    other_links p q count = record {
      allowed = allowed_with A t d z o.allowed fine;
      births = ascend_with t d z o.births;
      names = dirs_alone t d z o.names plain;
      rooted = plain_rooted;
      balance = λ b. owed (names_of (with_node t d z) b) (names_of t b) (one_at 0 b) (x b) (y b) (links_of (node_at (with_node t d z) b)) (links_of (node_at t b)) (p b) (q b) (same_names b) (count b) (o.balance b);
    }
      where
        owed : (new old r x y k l p q : ℕ) → new ≡ old → k + p ≡ l + q → old + r + x ≡ l + y → new + r + (x + q) ≡ k + (y + p)
        owed new old r x y k l p q a c h = omega arith

  -- a node without entries is gone
  module _ (d : ℕ) (before : (b : ℕ) → names_at b (node_at t d) ≡ 0) (away : d ≢ 0) where
    gone_links : (l : ℕ) → links_of (node_at t d) ≡ l → (b : ℕ) → links_of (node_at (without_node t d) b) + cond (b == d) l 0 ≡ links_of (node_at t b)
    gone_links l e = each_but (λ b. links_of (node_at (without_node t d) b) + cond (b == d) l 0 ≡ links_of (node_at t b)) d
        (rw (without_same t d o.births, eq-eqb d d refl) (let z : links_of (node_at t d) ≡ l = e in omega arith))
        (λ c far. rw (ne_eqb c d far) (let z : links_of (node_at (without_node t d) c) ≡ links_of (node_at t c) = ap links_of (without_other t d c far) in omega arith))

    pub node_gone : links_of (node_at t d) ≡ 1 → Owing A (without_node t d) x (λ b. y b + one_at d b)
    node_gone e = record {
      allowed = λ b z is. each_but (λ c. node_at (without_node t d) c ≡ Some z → Within A c z) d
          (λ is. absurd (let e : None ≡ Some z = sym (without_same t d o.births) ∙ is in cc)) (λ c far is. o.allowed c z (sym (without_other t d c far) ∙ is)) b is;
      births = ascend_without t d o.births;
      names = λ dir es n at. each_but (λ c. node_at (without_node t d) c ≡ Some (Dir es n) → IsStrictlySortedBy (slice_cmp nat_cmp) (keys_of es)) d
          (λ at. absurd (let z : None ≡ Some (Dir es n) = sym (without_same t d o.births) ∙ at in cc)) (λ c far at. o.names c es n (sym (without_other t d c far) ∙ at)) dir at;
      rooted = ap is_dir (without_other t d 0 (λ e. away (sym e))) ∙ o.rooted;
      balance = λ b. owed (names_of (without_node t d) b) (names_of t b) (names_at b (node_at t d)) (one_at 0 b) (x b) (y b) (links_of (node_at (without_node t d) b)) (links_of (node_at t b)) (one_at d b) (names_without t d b) (before b) (gone_links 1 e b) (o.balance b);
    }
      where
        owed : (new old had r x y k l g : ℕ) → new + had ≡ old → had ≡ 0 → k + g ≡ l → old + r + x ≡ l + y → new + r + x ≡ k + (y + g)
        owed new old had r x y k l g a c h e = omega arith
