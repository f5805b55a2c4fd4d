-- In a store that pictures a tree the nodes and names are those of the tree that is read off it, with inodes for births.
use Rattle.std.proofs.Common.{◌==◌, ◌≡◌, ℕ, suc, ◌+◌, ◌*◌, ◌/◌, ◌%◌, ◌<◌, true, not, Option, Some, None, List, [], ◌∷◌, is_some, length, sum_by, refl, sym, ◌∙◌, ap, subst, arith, eq-eqb, unwrap_or}
use Rattle.std.specs.Option.{option_map}
use Rattle.std.specs.Map.{values_of}
use Rattle.std.specs.Ordering.{nat_cmp}
use Rattle.std.specs.Cmp.Lexicographic.{slice_cmp}
use Rattle.std.proofs.lemmas.Bool.{both_ways, not_from_false, and_from, false_from_ne_true}
use Rattle.std.proofs.lemmas.List.Sums.{sum_by-cons}
use Rattle.tree_definitions.specs.declared.node.Node.{Node}
use Rattle.tree_definitions.specs.declared.node.Node.TheVariants.{Dir, File, Link}
use Rattle.tree_definitions.specs.Entries.{Entries, entry_at}
use Rattle.tree_definitions.specs.Tree.{FileTree, node_at}
use Rattle.tree_definitions.specs.WellFormed.{IsWellFormed}
use Rattle.tree_definitions.proofs.Pairs.{name_exact}
use Rattle.tree_laws.proofs.Keeping.{names_nodes}
use Rattle.disk_definitions.specs.Store.{Store, StoredNode, StoredEntry}
use Rattle.disk_definitions.specs.Naming.{Naming, Nodes, Pictures, room_in, find_in, entry_of, dir_place}
use Rattle.standing_laws.specs.Below.{all_below}
use Rattle.standing_laws.specs.ReadTree.{place_at, entries_to, tree_in}
use Rattle.standing_laws.specs.Soundness.{has_kind, entry_agrees, entries_agree, directory_agrees, node_agrees}
use Rattle.standing_laws.proofs.Bounded.{all_from}
use Rattle.standing_laws.proofs.Entered.{StandsAt, found_at, at_found, sorted_to}
use Rattle.standing_laws.proofs.Sums.{Meets, equal_sums}
use Rattle.standing_laws.proofs.Pictured.{IsInRange}
use Rattle.standing_laws.proofs.Stored.{made_by, made_kind, made_small, of_birth, of_inode}

-- the birth that an inode stands for, where it is in use
abbrev pub back_of : Naming → ℕ → ℕ
back_of n i = unwrap_or (n.birth i) 0

ones : {X : Type 0} (xs : List X) → sum_by (λ x. 1) xs ≡ length xs
ones [] = refl
ones (x ∷ xs) = let a : sum_by (λ y. 1) (x ∷ xs) ≡ 1 + sum_by (λ y. 1) xs = sum_by-cons (λ y. 1) x xs in let b : sum_by (λ y. 1) xs ≡ length xs = ones xs in omega arith

values : {K X : Type 0} (xs : List (K × X)) → length (values_of xs) ≡ length xs
values [] = refl
values (x ∷ xs) = ap suc (values xs)

pub first_is : (o : Option ℕ) → is_some o ≡ true → (v : ℕ) × (o ≡ Some v)
first_is None h = absurd (cc)
first_is (Some v) h = (v, refl)

module _ (segments : ℕ) (s : Store) (range : IsInRange segments s) (t : FileTree) (w : IsWellFormed t) (n : Naming) (p : Pictures s (node_at t) n) where
  abbrev pub at : Nodes
  at = node_at t

  abbrev pub read : Nodes
  read = node_at (tree_in segments s)

  -- a name has a node, of the kind that stands in its entry
  pub named : (d v : ℕ) (name : List ℕ) → find_in (at d) name ≡ Some v → is_some (at v) ≡ true
  named d v name e = go (at d) refl e
    where
      go : (o : Option Node) → at d ≡ o → find_in o name ≡ Some v → is_some (at v) ≡ true
      go None f e = absurd (cc)
      go (Some (Dir es k)) f e = names_nodes t w d es k name v f e
      go (Some (File cells links when)) f e = absurd (cc)
      go (Some (Link target links)) f e = absurd (cc)

  entry_kind : (v : ℕ) → is_some (at v) ≡ true → has_kind (s.inode (n.inode v)) (n.kind v) ≡ true
  entry_kind v h = go (at v) refl
    where
      go : (o : Option Node) → at v ≡ o → has_kind (s.inode (n.inode v)) (n.kind v) ≡ true
      go None f = absurd (both_ways (is_some (at v)) (ap is_some f) h)
      go (Some y) f = ap (λ o. has_kind o (n.kind v)) (of_birth s at n p v y f) ∙ eq-eqb (made_by n v y).kind (n.kind v) (made_kind n v y ∙ sym (p.kinds v y f))

  -- ---- a directory of the tree
  module _ (d : ℕ) (es : Entries) (k : ℕ) (is : at d ≡ Some (Dir es k)) where
    abbrev x : StoredNode
    x = made_by n d (Dir es k)

    abbrev pub entries : Entries
    entries = entries_to (place_at s x) (56 * k)

    same_place : (q : ℕ) → q < 56 * k → place_at s x q ≡ dir_place s n d q
    same_place q l = ap (λ b. s.place b (q % 56)) (made_small n d (Dir es k) (q / 56) (let z : q / 56 < k = omega arith in z))

    -- what stands at a place is the entry of a name
    entry_is : (q : ℕ) (e : StoredEntry) → q < 56 * k → place_at s x q ≡ Some e → (v : ℕ) × (entry_at es e.name ≡ Some v) × (e ≡ entry_of n e.name v) × (n.spot d e.name ≡ q)
    entry_is q e l h =
        let g : dir_place s n d q ≡ Some e = sym (same_place q l) ∙ h in
        let r = p.places d q e (subst (λ o. q < 56 * room_in o) (sym is) l) g in
        let f = first_is (find_in (at d) e.name) r.1 in
        let m = p.names d f.0 e.name f.1 in
        let z : Some e ≡ Some (entry_of n e.name f.0) = sym g ∙ ap (dir_place s n d) (sym r.0) ∙ m.1 in
        (f.0, sym (ap (λ o. find_in o e.name) is) ∙ f.1, (let y : e ≡ entry_of n e.name f.0 = cc in y), r.0)

    -- a name is found among the entries that are read
    is_read : (name : List ℕ) (v : ℕ) → entry_at es name ≡ Some v → is_some (entry_at entries name) ≡ true
    is_read name v e =
        let m = p.names d v name (ap (λ o. find_in o name) is ∙ e) in
        let l : n.spot d name < 56 * k = subst (λ o. n.spot d name < 56 * room_in o) is m.0 in
        at_found (place_at s x) (56 * k) (n.spot d name) (entry_of n name v) l (same_place (n.spot d name) l ∙ m.1)

    pub entries_read : (name : List ℕ) → entry_at entries name ≡ option_map n.inode (entry_at es name)
    entries_read name = go (entry_at entries name) refl
      where
        none : (o : Option ℕ) → entry_at es name ≡ o → entry_at entries name ≡ None → None ≡ option_map n.inode o
        none None e f = refl
        none (Some v) e f = absurd (both_ways (is_some (entry_at entries name)) (ap is_some f) (is_read name v e))

        go : (o : Option ℕ) → entry_at entries name ≡ o → entry_at entries name ≡ option_map n.inode (entry_at es name)
        go None e = e ∙ none (entry_at es name) refl e
        go (Some c) e =
            let f : StandsAt (place_at s x) (56 * k) name c = found_at (place_at s x) (56 * k) name c e in
            let r = entry_is f.spot f.entry f.within f.is in
            let i : c ≡ n.inode r.0 = sym f.inode ∙ ap (λ e. e.inode) r.2 in
            let j : entry_at es name ≡ Some r.0 = ap (entry_at es) (sym f.named) ∙ r.1 in
            e ∙ ap (λ c. Some c) i ∙ sym (ap (option_map n.inode) j)

    names_agree : entries_agree s (place_at s x) (56 * k) ≡ true
    names_agree = all_from (56 * k) (λ q. entry_agrees s (entries_to (place_at s x) q) (place_at s x q)) (λ q l. each q l (place_at s x q) refl)
      where
        each : (q : ℕ) → q < 56 * k → (o : Option StoredEntry) → place_at s x q ≡ o → entry_agrees s (entries_to (place_at s x) q) o ≡ true
        each q l None e = refl
        each q l (Some e) h =
            let r = entry_is q e l h in
            let i : e.inode ≡ n.inode r.0 = ap (λ e. e.inode) r.2 in
            let c : e.kind ≡ n.kind r.0 = ap (λ e. e.kind) r.2 in
            let v : is_some (at r.0) ≡ true = named d r.0 e.name (ap (λ o. find_in o e.name) is ∙ r.1) in
            and_from (not (is_some (entry_at (entries_to (place_at s x) q) e.name))) (has_kind (s.inode e.inode) e.kind)
            (not_from_false (is_some (entry_at (entries_to (place_at s x) q) e.name)) (false_from_ne_true (is_some (entry_at (entries_to (place_at s x) q) e.name)) (λ b. before q l e r.3 b)))
            (ap (λ i. has_kind (s.inode i) e.kind) i ∙ ap (has_kind (s.inode (n.inode r.0))) c ∙ entry_kind r.0 v)
          where
            before : (q : ℕ) → q < 56 * k → (e : StoredEntry) → n.spot d e.name ≡ q → is_some (entry_at (entries_to (place_at s x) q) e.name) ≡ true → ⊥
            before q l e h b =
                let g = first_is (entry_at (entries_to (place_at s x) q) e.name) b in
                let f : StandsAt (place_at s x) q e.name g.0 = found_at (place_at s x) q e.name g.0 g.1 in
                let u : f.spot < q = f.within in
                let r = entry_is f.spot f.entry (omega arith) f.is in
                let z : f.spot ≡ q = sym r.3 ∙ ap (n.spot d) f.named ∙ h in
                omega arith

    -- sums over the names are equal
    pub names_sum : (f g : ℕ → ℕ) → ((name : List ℕ) (v : ℕ) → entry_at es name ≡ Some v → f v ≡ g (n.inode v)) → sum_by f (values_of es) ≡ sum_by g (values_of entries)
    names_sum f g same = equal_sums (slice_cmp nat_cmp) (slice_cmp nat_cmp) name_exact name_exact (λ m. m) (λ m. m) f g es entries (w.names d es k is) (sorted_to (place_at s x) (56 * k)) (forth, backwards)
      where
        forth : (name : List ℕ) (v : ℕ) → entry_at es name ≡ Some v → Meets (λ m. entry_at entries m) (λ m. m) (λ m. m) f g name v
        forth name v e = record { value = n.inode v; found = entries_read name ∙ ap (option_map n.inode) e; home = refl; weighs = same name v e }

        backwards : (name : List ℕ) (c : ℕ) → entry_at entries name ≡ Some c → Meets (λ m. entry_at es m) (λ m. m) (λ m. m) g f name c
        backwards name c e = go (entry_at es name) refl
          where
            go : (o : Option ℕ) → entry_at es name ≡ o → Meets (λ m. entry_at es m) (λ m. m) (λ m. m) g f name c
            go None h = absurd (let z : Some c ≡ None = sym e ∙ entries_read name ∙ ap (option_map n.inode) h in cc)
            go (Some v) h =
                let z : Some c ≡ Some (n.inode v) = sym e ∙ entries_read name ∙ ap (option_map n.inode) h in
                let q : c ≡ n.inode v = cc in
                record { value = v; found = h; home = refl; weighs = ap g q ∙ sym (same name v h) }

    size_is : length entries ≡ length es
    size_is = sym (values entries) ∙ sym (ones (values_of entries)) ∙ sym (names_sum (λ v. 1) (λ c. 1) (λ name v e. refl)) ∙ ones (values_of es) ∙ values es

    dir_agrees : directory_agrees s x ≡ true
    dir_agrees = and_from (entries_agree s (place_at s x) (56 * k)) (length entries == length es) names_agree (eq-eqb (length entries) (length es) size_is)

  made_agrees : (b : ℕ) (y : Node) → at b ≡ Some y → node_agrees s (Some (made_by n b y)) ≡ true
  made_agrees b (Dir es k) e = dir_agrees b es k e
  made_agrees b (File cells links when) e = refl
  made_agrees b (Link target links) e = eq-eqb (length target) (length target) refl

  pub nodes_agree : all_below (64 * segments) (λ i. node_agrees s (s.inode i)) ≡ true
  nodes_agree = all_from (64 * segments) (λ i. node_agrees s (s.inode i)) (λ i l. each i (s.inode i) refl)
    where
      each : (i : ℕ) (o : Option StoredNode) → s.inode i ≡ o → node_agrees s o ≡ true
      each i None e = refl
      each i (Some x) e = let h = of_inode s at n p i x e in ap (λ x. node_agrees s (Some x)) h.is ∙ made_agrees h.birth h.node h.found
