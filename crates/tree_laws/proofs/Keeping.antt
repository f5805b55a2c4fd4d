-- Each operation leaves a well-formed tree so.
use Rattle.std.proofs.Common.{ℕ, ◌≡◌, ◌≢◌, ◌<◌, ◌≤◌, ◌+◌, ◌-◌, ◌==◌, Bool, true, false, Option, Some, None, List, [], ◌∷◌, length, cond, refl, sym, ◌∙◌, ap, subst, nat_lt, arith, le_refl, eq-eqb, ne_eqb, is_some}
use Rattle.std.proofs.lemmas.Bool.{ltb-true, ltb-false}
use Rattle.std.specs.List.Sorted.{IsStrictlySortedBy}
use Rattle.std.specs.Map.{keys_of}
use Rattle.std.specs.Ordering.{nat_cmp}
use Rattle.std.specs.Cmp.Lexicographic.{slice_cmp}
use Rattle.tree_definitions.specs.declared.node.Node.{Node}
use Rattle.tree_definitions.specs.declared.node.Node.TheVariants.{Dir, File, Link}
use Rattle.tree_definitions.specs.Entries.{Entries, entry_at, with_entry, without_entry}
use Rattle.tree_definitions.specs.Tree.{FileTree, node_at, with_node, without_node}
use Rattle.tree_definitions.specs.Apply.{is_dir, links_of, has_entries, one_link_more, one_link_fewer}
use Rattle.tree_definitions.specs.WellFormed.{one_at, names_in, names_of, IsWellFormed, IsNew}
use Rattle.tree_laws.specs.Touching.{kind_of}
use Rattle.tree_definitions.proofs.Pairs.{name_exact, sorted_put, sorted_removed}
use Rattle.tree_definitions.proofs.Births.{each_but}
use Rattle.tree_laws.proofs.Nodes.{with_same, with_other}
use Rattle.tree_laws.proofs.Balance.{names_at, at_name, Limits, Within, one_own, one_other, names_without, count_put, count_removed, Owing, other_entries, other_links, node_gone}

pub one_sym : (b c : ℕ) → one_at b c ≡ one_at c b
one_sym b c = each_but (λ b. one_at b c ≡ one_at c b) c refl (λ b far. one_other b c (λ e. far (sym e)) ∙ sym (one_other c b far)) b

-- an entry is a name of its node
pub named_once : (t : FileTree) (d : ℕ) (es : Entries) (n : ℕ) (name : List ℕ) (v : ℕ) → node_at t d ≡ Some (Dir es n) → entry_at es name ≡ Some v → 1 ≤ names_of t v
named_once t d es n name v is at =
    let a : names_of (without_node t d) v + names_in v (Dir es n) ≡ names_of t v = subst (λ o. names_of (without_node t d) v + names_at v o ≡ names_of t v) is (names_without t d v) in
    let c : names_in v (Dir (without_entry es name) n) + one_at v v ≡ names_in v (Dir es n) = subst (λ o. names_in v (Dir (without_entry es name) n) + at_name v o ≡ names_in v (Dir es n)) at (count_removed es n n name v) in
    let u : one_at v v ≡ 1 = one_own v in
    go (names_of (without_node t d) v) (names_in v (Dir es n)) (names_of t v) (names_in v (Dir (without_entry es name) n)) (one_at v v) a c u
  where
    go : (p q r s u : ℕ) → p + q ≡ r → s + u ≡ q → u ≡ 1 → 1 ≤ r
    go p q r s u a c e = omega arith

dir_links_one : (o : Option Node) → is_dir o ≡ true → links_of o ≡ 1
dir_links_one (Some (Dir es n)) d = refl
dir_links_one (Some (File cells links when)) d = cc
dir_links_one (Some (Link target links)) d = cc
dir_links_one None d = cc

module _ (t : FileTree) (w : IsWellFormed t) where
  -- no entry names the root
  pub never_root : (d : ℕ) (es : Entries) (n : ℕ) (name : List ℕ) (v : ℕ) → node_at t d ≡ Some (Dir es n) → entry_at es name ≡ Some v → v ≢ 0
  never_root d es n name v is at e =
      let a : 1 ≤ names_of t 0 = subst (λ c. 1 ≤ names_of t c) e (named_once t d es n name v is at) in
      let b : names_of t 0 + 1 ≡ links_of (node_at t 0) = w.links 0 in
      let c : links_of (node_at t 0) ≡ 1 = dir_links_one (node_at t 0) w.rooted in
      omega arith

  -- what an entry names is there, and has links
  pub has_links : (d : ℕ) (es : Entries) (n : ℕ) (name : List ℕ) (v : ℕ) → node_at t d ≡ Some (Dir es n) → entry_at es name ≡ Some v → 1 ≤ links_of (node_at t v)
  has_links d es n name v is at =
      let a : 1 ≤ names_of t v = named_once t d es n name v is at in
      let b : names_of t v + one_at 0 v ≡ links_of (node_at t v) = w.links v in
      omega arith

  some_by_links : (o : Option Node) → 1 ≤ links_of o → is_some o ≡ true
  some_by_links (Some x) h = refl
  some_by_links None h = absurd (omega arith)

  pub names_nodes : (d : ℕ) (es : Entries) (n : ℕ) (name : List ℕ) (v : ℕ) → node_at t d ≡ Some (Dir es n) → entry_at es name ≡ Some v → is_some (node_at t v) ≡ true
  names_nodes d es n name v is at = some_by_links (node_at t v) (has_links d es n name v is at)

  pub root_is_old : (b : ℕ) → IsNew t b → b ≢ 0
  root_is_old b new e = let r : is_dir (node_at t 0) ≡ true = w.rooted in let n : is_dir (node_at t 0) ≡ false = ap is_dir (ap (node_at t) (sym e) ∙ new) in cc

-- what is owed, said otherwise
pub restated : (A : Limits) (t : FileTree) (x y p q : ℕ → ℕ) → Owing A t x y → ((b : ℕ) → x b ≡ p b) → ((b : ℕ) → y b ≡ q b) → Owing A t p q
restated A t x y p q o e f = record { allowed = o.allowed; births = o.births; names = o.names; rooted = o.rooted; balance = λ b. (let h : names_of t b + one_at 0 b + x b ≡ links_of (node_at t b) + y b = o.balance b in let i : x b ≡ p b = e b in let j : y b ≡ q b = f b in omega arith) }

both_zero : (t : Bool) → cond {A = ℕ} t 0 0 ≡ 0
both_zero true = refl
both_zero false = refl

module _ (A : Limits) (t : FileTree) (x y : ℕ → ℕ) (o : Owing A t x y) where
  -- a directory gets a name that it hasn't, or has for another node
  pub entry_put : (d : ℕ) (es : Entries) (n m : ℕ) (name : List ℕ) (v : ℕ) → node_at t d ≡ Some (Dir es n) → n ≤ m → Owing A (with_node t d (Dir (with_entry es name v) m)) (λ b. x b + at_name b (entry_at es name)) (λ b. y b + one_at b v)
  entry_put d es n m name v is more = other_entries A t x y o d es n is (with_entry es name v) m more (sorted_put (slice_cmp nat_cmp) name_exact es name v (o.names d es n is)) (λ b. at_name b (entry_at es name)) (λ b. one_at b v)
      (λ b. count_put es n m name v b (o.names d es n is))

  -- a directory loses a name
  pub entry_gone : (d : ℕ) (es : Entries) (n : ℕ) (name : List ℕ) (v : ℕ) → node_at t d ≡ Some (Dir es n) → entry_at es name ≡ Some v → Owing A (with_node t d (Dir (without_entry es name) n)) (λ b. x b + one_at b v) (λ b. y b + 0)
  entry_gone d es n name v is at = other_entries A t x y o d es n is (without_entry es name) n (le_refl n) (sorted_removed (slice_cmp nat_cmp) name_exact es name (o.names d es n is)) (λ b. one_at b v) (λ b. 0)
      (λ b. (let c : names_in b (Dir (without_entry es name) n) + one_at b v ≡ names_in b (Dir es n) = subst (λ z. names_in b (Dir (without_entry es name) n) + at_name b z ≡ names_in b (Dir es n)) at (count_removed es n n name b) in omega arith))

  -- a directory has other blocks
  pub room_kept : (d : ℕ) (es : Entries) (n m : ℕ) → node_at t d ≡ Some (Dir es n) → n ≤ m → Owing A (with_node t d (Dir es m)) (λ b. x b + 0) (λ b. y b + 0)
  room_kept d es n m is more = other_entries A t x y o d es n is es m more (o.names d es n is) (λ b. 0) (λ b. 0) (λ b. refl)

  -- a new node, without entries and with one link
  pub node_made : (d : ℕ) (z : Node) → node_at t d ≡ None → d ≢ 0 → ((b : ℕ) → names_in b z ≡ 0) → ((es : Entries) (n : ℕ) → z ≡ Dir es n → IsStrictlySortedBy (slice_cmp nat_cmp) (keys_of es)) → links_of (Some z) ≡ 1 → Within A d z → Owing A (with_node t d z) (λ b. x b + one_at d b) (λ b. y b + 0)
  node_made d z new away plain sorted one fine = other_links A t x y o d z (λ b. ap (names_at b) new) plain sorted away fine (λ b. 0) (λ b. one_at d b)
      (each_but (λ b. links_of (node_at (with_node t d z) b) + 0 ≡ links_of (node_at t b) + one_at d b) d
      (let a : links_of (node_at (with_node t d z) d) ≡ 1 = ap links_of (with_same t d z) ∙ one in let c : links_of (node_at t d) ≡ 0 = ap links_of new in let u : one_at d d ≡ 1 = one_own d in omega arith)
      (λ c far. (let a : links_of (node_at (with_node t d z) c) ≡ links_of (node_at t c) = ap links_of (with_other t d z c far) in let u : one_at d c ≡ 0 = one_other d c far in omega arith)))

  -- a node that is no directory has other links
  pub links_put : (d : ℕ) (z u : Node) → node_at t d ≡ Some z → is_dir (Some z) ≡ false → is_dir (Some u) ≡ false → kind_of z ≡ kind_of u → d ≢ 0 → (p q : ℕ) → links_of (Some u) + p ≡ links_of (Some z) + q → Owing A (with_node t d u) (λ b. x b + cond (b == d) q 0) (λ b. y b + cond (b == d) p 0)
  links_put d z u is plain_z plain_u kind away p q count = other_links A t x y o d u (λ b. ap (names_at b) is ∙ no_names b z plain_z) (λ b. no_names b u plain_u) (λ es n e. absurd (let k : is_dir (Some u) ≡ true = ap (λ v. is_dir (Some v)) e in cc)) away (same_within z u plain_z plain_u kind (o.allowed d z is)) (λ b. cond (b == d) p 0) (λ b. cond (b == d) q 0)
      (each_but (λ b. links_of (node_at (with_node t d u) b) + cond (b == d) p 0 ≡ links_of (node_at t b) + cond (b == d) q 0) d
      (rw (eq-eqb d d refl) (let a : links_of (node_at (with_node t d u) d) ≡ links_of (Some u) = ap links_of (with_same t d u) in let c : links_of (node_at t d) ≡ links_of (Some z) = ap links_of is in rw (a, c) count))
      (λ c far. rw (ne_eqb c d far) (ap (λ l. l + 0) (ap links_of (with_other t d u c far)))))
    where
      same_within : (z u : Node) → is_dir (Some z) ≡ false → is_dir (Some u) ≡ false → kind_of z ≡ kind_of u → Within A d z → Within A d u
      same_within (File cells links when) (File others more since) f g k i = i
      same_within (Link target links) (Link others more) f g k i = i
      same_within (File cells links when) (Link others more) f g k i = absurd (cc)
      same_within (Link target links) (File others more when) f g k i = absurd (cc)
      same_within (Dir es n) u f g k i = absurd (cc)
      same_within (File cells links when) (Dir es n) f g k i = absurd (cc)
      same_within (Link cells links) (Dir es n) f g k i = absurd (cc)

      no_names : (b : ℕ) (v : Node) → is_dir (Some v) ≡ false → names_in b v ≡ 0
      no_names b (File cells links when) f = refl
      no_names b (Link target links) f = refl
      no_names b (Dir es n) f = absurd (cc)

  -- a link more
  pub link_more : (d : ℕ) (q : Option Node) → node_at t d ≡ q → is_some q ≡ true → is_dir q ≡ false → d ≢ 0 → Owing A (one_link_more t d q) (λ b. x b + one_at d b) (λ b. y b + 0)
  link_more d (Some (File cells links when)) is some plain away = restated A (with_node t d (File cells (links + 1) when)) _ _ (λ b. x b + one_at d b) (λ b. y b + 0)
      (links_put d (File cells links when) (File cells (links + 1) when) is refl refl refl away 0 1 (omega arith)) (λ b. refl) (λ b. ap (λ z. y b + z) (both_zero (b == d)))
  link_more d (Some (Link target links)) is some plain away = restated A (with_node t d (Link target (links + 1))) _ _ (λ b. x b + one_at d b) (λ b. y b + 0)
      (links_put d (Link target links) (Link target (links + 1)) is refl refl refl away 0 1 (omega arith)) (λ b. refl) (λ b. ap (λ z. y b + z) (both_zero (b == d)))
  link_more d (Some (Dir es n)) is some plain away = absurd (cc)
  link_more d None is some plain away = absurd (cc)

  -- a link fewer; a directory has no entries then
  pub link_fewer : (d : ℕ) (q : Option Node) → node_at t d ≡ q → 1 ≤ links_of q → has_entries q ≡ false → d ≢ 0 → Owing A (one_link_fewer t d q) (λ b. x b + 0) (λ b. y b + one_at d b)
  link_fewer d (Some (File cells links when)) is some empty away = go (nat_lt 1 links) refl
    where
      go : (c : Bool) → nat_lt 1 links ≡ c → Owing A (cond c (with_node t d (File cells (links - 1) when)) (without_node t d)) (λ b. x b + 0) (λ b. y b + one_at d b)
      go true e = restated A (with_node t d (File cells (links - 1) when)) _ _ (λ b. x b + 0) (λ b. y b + one_at d b)
          (links_put d (File cells links when) (File cells (links - 1) when) is refl refl refl away 1 0 (let l : 1 < links = ltb-true 1 links e in omega arith)) (λ b. ap (λ z. x b + z) (both_zero (b == d))) (λ b. refl)
      go false e = restated A (without_node t d) _ _ (λ b. x b + 0) (λ b. y b + one_at d b)
          (node_gone A t x y o d (λ b. ap (names_at b) is) away (ap links_of is ∙ (let l : links ≤ 1 = ltb-false 1 links e in let m : links ≡ 1 = omega arith in m))) (λ b. (let z : x b ≡ x b + 0 = omega arith in z)) (λ b. refl)
  link_fewer d (Some (Link target links)) is some empty away = go (nat_lt 1 links) refl
    where
      go : (c : Bool) → nat_lt 1 links ≡ c → Owing A (cond c (with_node t d (Link target (links - 1))) (without_node t d)) (λ b. x b + 0) (λ b. y b + one_at d b)
      go true e = restated A (with_node t d (Link target (links - 1))) _ _ (λ b. x b + 0) (λ b. y b + one_at d b)
          (links_put d (Link target links) (Link target (links - 1)) is refl refl refl away 1 0 (let l : 1 < links = ltb-true 1 links e in omega arith)) (λ b. ap (λ z. x b + z) (both_zero (b == d))) (λ b. refl)
      go false e = restated A (without_node t d) _ _ (λ b. x b + 0) (λ b. y b + one_at d b)
          (node_gone A t x y o d (λ b. ap (names_at b) is) away (ap links_of is ∙ (let l : links ≤ 1 = ltb-false 1 links e in let m : links ≡ 1 = omega arith in m))) (λ b. (let z : x b ≡ x b + 0 = omega arith in z)) (λ b. refl)
  link_fewer d (Some (Dir es n)) is some empty away = restated A (without_node t d) _ _ (λ b. x b + 0) (λ b. y b + one_at d b)
      (node_gone A t x y o d (λ b. ap (names_at b) is ∙ no_entries b es empty) away (ap links_of is)) (λ b. (let z : x b ≡ x b + 0 = omega arith in z)) (λ b. refl)
    where
      no_entries : (b : ℕ) (es : Entries) → nat_lt 0 (length es) ≡ false → names_in b (Dir es n) ≡ 0
      no_entries b [] e = refl
      no_entries b (a ∷ es) e = absurd (let l : length (a ∷ es) ≤ 0 = ltb-false 0 (length (a ∷ es)) e in omega arith)
  link_fewer d None is some empty away = absurd (omega arith)
