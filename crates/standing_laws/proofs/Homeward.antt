-- The walk to a name's directory goes through none of the births that it doesn't meet, so it stays where only those change.
use Rattle.std.proofs.Common.{ℕ, ◌≡◌, ◌≢◌, ◌==◌, true, false, Option, Some, None, List, [], ◌∷◌, refl, sym, ◌∙◌, ap, subst, eq-eqb}
use Rattle.std.specs.List.{list_any}
use Rattle.std.proofs.lemmas.Bool.{or_parts}
use Rattle.frang_base.specs.declared.reply.Reply.{Reply}
use Rattle.frang_base.specs.declared.reply.Reply.TheVariants.{NoEnt, NotDir}
use Rattle.tree_definitions.specs.declared.node.Node.{Node}
use Rattle.tree_definitions.specs.declared.node.Node.TheVariants.{Dir, File, Link}
use Rattle.tree_definitions.specs.Entries.{Entries, entry_at}
use Rattle.tree_definitions.specs.Tree.{FileTree, node_at}
use Rattle.tree_definitions.specs.Apply.{is_dir}
use Rattle.tree_definitions.specs.Place.{Place, Root, Taken, Free, Nowhere, place_by, place_in, below, place_from, walked_by, walked_from}
use Rattle.disk_definitions.specs.Naming.{find_in}
use Rattle.disk_definitions.specs.Standing.{IsReachedAt}
use Rattle.standing_laws.proofs.Walks.{finds, reached_on}

-- the place is a name in this directory
abbrev pub LeadsTo : Place → ℕ → Type 0
LeadsTo Root to = ⊥
LeadsTo (Taken dir es n name b) to = dir ≡ to
LeadsTo (Free dir es n name) to = dir ≡ to
LeadsTo (Nowhere r) to = ⊥

-- the birth isn't among these
abbrev pub IsClear : ℕ → List ℕ → Type 0
IsClear b bs = list_any (λ x. x == b) bs ≡ false

clear_head : (b c : ℕ) (bs : List ℕ) → IsClear b (c ∷ bs) → c ≢ b
clear_head b c bs h e = absurd (let z : (c == b) ≡ true = eq-eqb c b e in let y : (c == b) ≡ false = (or_parts (c == b) (list_any (λ x. x == b) bs) h).0 in cc)

module _ (t : FileTree) where
  -- a walk from what is no directory leads nowhere
  no_place : (v : ℕ) (name : List ℕ) (o : Option Node) → is_dir o ≡ false → (r : Reply) × (place_in o v name ≡ Nowhere r)
  no_place v name (Some (Dir es n)) d = absurd (cc)
  no_place v name (Some (File cells links when)) d = (NotDir, refl)
  no_place v name (Some (Link target links)) d = (NotDir, refl)
  no_place v name None d = (NoEnt, refl)

  no_way : (v : ℕ) (name : List ℕ) (names : List (List ℕ)) (r : Reply) → place_in (node_at t v) v name ≡ Nowhere r → place_from t v (name ∷ names) ≡ Nowhere r
  no_way v name [] r e = e
  no_way v name (x ∷ xs) r e = ap (λ p. below p (λ c. place_from t c (x ∷ xs))) e

  -- so a walk that leads to a name begins in a directory
  begins_in_dir : (v : ℕ) (name : List ℕ) (names : List (List ℕ)) (to : ℕ) → LeadsTo (place_from t v (name ∷ names)) to → (es : Entries) × (n : ℕ) × (node_at t v ≡ Some (Dir es n))
  begins_in_dir v name names to l = go (node_at t v) refl
    where
      lost : is_dir (node_at t v) ≡ false → ⊥
      lost d = let r = no_place v name (node_at t v) d in subst (λ p. LeadsTo p to) (no_way v name names r.0 r.1) l

      go : (o : Option Node) → node_at t v ≡ o → (es : Entries) × (n : ℕ) × (node_at t v ≡ Some (Dir es n))
      go (Some (Dir es n)) i = (es, n, i)
      go (Some (File cells links when)) i = absurd (lost (ap is_dir i))
      go (Some (Link target links)) i = absurd (lost (ap is_dir i))
      go None i = absurd (lost (ap is_dir i))

  -- it meets that directory
  first_met : (b v : ℕ) (name : List ℕ) (names : List (List ℕ)) (to : ℕ) → LeadsTo (place_from t v (name ∷ names)) to → IsClear b (walked_from t v (name ∷ names)) → v ≢ b
  first_met b v name names to l h =
      let d = begins_in_dir v name names to l in
      entry d.0 d.1 (entry_at d.0 name) (subst (λ o. IsClear b (walked_by (place_in o v name) v (λ c. walked_from t c names))) d.2 h)
    where
      entry : (es : Entries) (n : ℕ) (o : Option ℕ) → IsClear b (walked_by (place_by v es n name o) v (λ c. walked_from t c names)) → v ≢ b
      entry es n (Some d) h = clear_head b v (walked_from t d names) h
      entry es n None h = clear_head b v [] h

  -- and to a name that is there it finds its first name
  pub first_found : (v : ℕ) (name : List ℕ) (names : List (List ℕ)) (to : ℕ) (fs : Entries) (k : ℕ) (new : List ℕ) (old : ℕ) → place_from t v (name ∷ names) ≡ Taken to fs k new old → (d : ℕ) × (finds t v name ≡ Some d)
  first_found v name names to fs k new old e =
      let d = begins_in_dir v name names to (subst (λ p. LeadsTo p to) (sym e) refl) in
      entry d.0 d.1 d.2 (entry_at d.0 name) refl
    where
      missing : (es : Entries) (n : ℕ) → place_in (node_at t v) v name ≡ Free v es n name → (names : List (List ℕ)) → place_from t v (name ∷ names) ≡ Taken to fs k new old → ⊥
      missing es n i [] e = let z : Free v es n name ≡ Taken to fs k new old = sym i ∙ e in cc
      missing es n i (x ∷ xs) e = let z : Nowhere NoEnt ≡ Taken to fs k new old = sym (ap (λ p. below p (λ c. place_from t c (x ∷ xs))) i) ∙ e in cc

      entry : (es : Entries) (n : ℕ) → node_at t v ≡ Some (Dir es n) → (o : Option ℕ) → entry_at es name ≡ o → (d : ℕ) × (finds t v name ≡ Some d)
      entry es n is (Some d) i = (d, ap (λ o. find_in o name) is ∙ i)
      entry es n is None i = absurd (missing es n (ap (λ o. place_in o v name) is ∙ ap (place_by v es n name) i) names e)

  module _ (u : FileTree) (b to : ℕ) (p : Place) (l : LeadsTo p to)
      (stays : (c v : ℕ) (m x : List ℕ) (xs : List (List ℕ)) → finds t c m ≡ Some v → v ≢ b → place_from t v (x ∷ xs) ≡ p → finds u c m ≡ Some v) where
    -- the last name is one of the directory
    last_name : (a : ℕ) (name : List ℕ) (o : Option Node) → place_in o a name ≡ p → a ≡ to
    last_name a name (Some (Dir es n)) e = go (entry_at es name) e
      where
        go : (o : Option ℕ) → place_by a es n name o ≡ p → a ≡ to
        go (Some d) e = subst (λ q. LeadsTo q to) (sym e) l
        go None e = subst (λ q. LeadsTo q to) (sym e) l
    last_name a name (Some (File cells links when)) e = absurd (subst (λ q. LeadsTo q to) (sym e) l)
    last_name a name (Some (Link target links)) e = absurd (subst (λ q. LeadsTo q to) (sym e) l)
    last_name a name None e = absurd (subst (λ q. LeadsTo q to) (sym e) l)

    pub home_from : (path : List (List ℕ)) (a : ℕ) → place_from t a path ≡ p → IsClear b (walked_from t a path) → IsReachedAt (node_at u) a → IsReachedAt (node_at u) to
    home_from [] a e h r = absurd (subst (λ q. LeadsTo q to) (sym e) l)
    home_from (name ∷ []) a e h r = subst (IsReachedAt (node_at u)) (last_name a name (node_at t a) e) r
    home_from (name ∷ next ∷ names) a e h r = go (λ v. home_from (next ∷ names) v) (node_at t a) refl e h
      where
        entry : ((v : ℕ) → place_from t v (next ∷ names) ≡ p → IsClear b (walked_from t v (next ∷ names)) → IsReachedAt (node_at u) v → IsReachedAt (node_at u) to)
            → (es : Entries) (n : ℕ) (o : Option ℕ) → find_in (node_at t a) name ≡ o → below (place_by a es n name o) (λ c. place_from t c (next ∷ names)) ≡ p
            → IsClear b (walked_by (place_by a es n name o) a (λ c. walked_from t c (next ∷ names))) → IsReachedAt (node_at u) to
        entry on es n (Some v) f e h =
            let rest : IsClear b (walked_from t v (next ∷ names)) = (or_parts (a == b) (list_any (λ x. x == b) (walked_from t v (next ∷ names))) h).1 in
            on v e rest (reached_on (node_at u) a v name r (stays a v name next names f (first_met b v next names to (subst (λ q. LeadsTo q to) (sym e) l) rest) e))
        entry on es n None f e h = absurd (subst (λ q. LeadsTo q to) (sym e) l)

        go : ((v : ℕ) → place_from t v (next ∷ names) ≡ p → IsClear b (walked_from t v (next ∷ names)) → IsReachedAt (node_at u) v → IsReachedAt (node_at u) to)
            → (o : Option Node) → node_at t a ≡ o → below (place_in o a name) (λ c. place_from t c (next ∷ names)) ≡ p
            → IsClear b (walked_by (place_in o a name) a (λ c. walked_from t c (next ∷ names))) → IsReachedAt (node_at u) to
        go on (Some (Dir es n)) i e h = entry on es n (entry_at es name) (ap (λ o. find_in o name) i) e h
        go on (Some (File cells links when)) i e h = absurd (subst (λ q. LeadsTo q to) (sym e) l)
        go on (Some (Link target links)) i e h = absurd (subst (λ q. LeadsTo q to) (sym e) l)
        go on None i e h = absurd (subst (λ q. LeadsTo q to) (sym e) l)
