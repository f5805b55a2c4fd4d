-- A name that is looked up in a directory's sectors is found as in the tree.
use Rattle.std.proofs.Common.{◌≡◌, ℕ, ◌*◌, ◌/◌, ◌%◌, ◌<◌, Bool, true, false, Option, Some, None, List, [], ◌∷◌, ◌++◌, map, refl, sym, ◌∙◌, ap, subst, arith, is_some}
use Rattle.std.proofs.lemmas.List.{append-nil}
use Rattle.std.proofs.lemmas.Bool.{lt-ltb}
use Rattle.frang_base.specs.declared.reply.Reply.TheVariants as reply
use Rattle.tree_definitions.specs.declared.node.Node.{Node}
use Rattle.tree_definitions.specs.declared.node.Node.TheVariants.{Dir, File, Link}
use Rattle.tree_definitions.specs.Entries.{Entries, entry_at}
use Rattle.tree_definitions.specs.Place.{Place, Nowhere, place_by, place_in, walked_by}
use Rattle.tree_laws.proofs.Sameness.{text_sound, text_same}
use Rattle.disk_definitions.specs.Store.{Store, StoredNode, StoredEntry}
use Rattle.disk_definitions.specs.Naming.{Naming, Nodes, Pictures, find_in, room_in, first_blocks, inode_of, entry_of, place_of, dir_place}
use Rattle.disk_definitions.specs.Least.{least}
use Rattle.disk_definitions.proofs.LeastLaws.{least_some, least_nothing}
use Rattle.disk_definitions.proofs.Rooms.{which_block}
use Rattle.disk_definitions.proofs.Kept.{inode_is}
use Rattle.disk_definitions.specs.Ask.{Got, run}
use Rattle.disk_definitions.specs.Walks.{AtName, Walked, Found, search, is_named, spot_by, look_up, in_inode}
use Rattle.plan_laws.specs.Walking.{IsDirectory, Mirrors}
use Rattle.plan_laws.proofs.Asking.{run-bind}
use Rattle.plan_laws.proofs.Searching.{found_in, run-search}

-- what a walk came to, from some directories on
pub record LeadsTo (s : Store) (at : Nodes) (n : Naming) (before : List ℕ) (w : Walked) (p : Place) (ds : List ℕ) : Type 0 where
  pub spot : Mirrors s at n w.spot p
  pub dirs : w.dirs ≡ before ++ map n.inode ds

module _ (s : Store) (at : Nodes) (n : Naming) (g : Pictures s at n) where
  -- the places of a directory, as its inode has them
  pub as_inode : (d blocks q : ℕ) → q < 56 * blocks → place_of s.place (first_blocks blocks (n.block d)) q ≡ dir_place s n d q
  as_inode d blocks q l = ap (λ k. s.place k (q % 56)) (rw (lt-ltb (q / 56) blocks (which_block q blocks l)) refl)

  named_by : (name : List ℕ) (o : Option StoredEntry) → is_named name o ≡ true → (e : StoredEntry) × (o ≡ Some e) × (e.name ≡ name)
  named_by name None h = absurd (cc)
  named_by name (Some e) h = (e, refl, text_sound e.name name h)

  module _ (d blocks : ℕ) (entries : Entries) (is : at d ≡ Some (Dir entries blocks)) (name : List ℕ) where
    abbrev x : StoredNode
    x = inode_of (n.stamp d) (n.block d) (n.large d) (Dir entries blocks)

    abbrev row : ℕ → Option StoredEntry
    row = place_of s.place x.small

    abbrev test : ℕ → Bool
    test q = is_named name (row q)

    directory : IsDirectory s at n (n.inode d) x d entries blocks
    directory = record { number = refl; has = record { is = is; inode = inode_is s at n g d (Dir entries blocks) is } }

    at_entry : (q : ℕ) (y : StoredEntry) → q < 56 * blocks → row q ≡ Some y → y.name ≡ name → (o : Option ℕ) → entry_at entries name ≡ o → Mirrors s at n (spot_by (n.inode d) x name (Some (q, row q))) (place_by d entries blocks name o)
    at_entry q y l r named o e =
        let p : dir_place s n d q ≡ Some y = sym (as_inode d blocks q l) ∙ r in
        let v = g.places d q y (rw is l) p in
        let spot : n.spot d name ≡ q = ap (n.spot d) (sym named) ∙ v.0 in
        let there : is_some (entry_at entries name) ≡ true = ap (λ m. is_some (entry_at entries m)) (sym named) ∙ subst (λ z. is_some (find_in z y.name) ≡ true) is v.1 in
        subst (λ z. Mirrors s at n (spot_by (n.inode d) x name (Some (q, z))) (place_by d entries blocks name o)) (sym r) (by_birth p spot there o e)
      where
        by_birth : dir_place s n d q ≡ Some y → n.spot d name ≡ q → is_some (entry_at entries name) ≡ true → (o : Option ℕ) → entry_at entries name ≡ o → Mirrors s at n (AtName (n.inode d) x name q y) (place_by d entries blocks name o)
        by_birth p spot there None e = absurd (let z : is_some (entry_at entries name) ≡ false = ap is_some e in cc)
        by_birth p spot there (Some b) e =
            let w = g.names d b name (rw is e) in
            let z : Some y ≡ Some (entry_of n name b) = sym p ∙ ap (dir_place s n d) (sym spot) ∙ w.1 in
            let u : y ≡ entry_of n name b = cc in
            (directory, refl, e, sym spot, u)

    found_meets : (o : Option ℕ) → least test (56 * blocks) ≡ o → (b : Option ℕ) → entry_at entries name ≡ b → Mirrors s at n (spot_by (n.inode d) x name (found_in row o)) (place_by d entries blocks name b)
    found_meets None h None e = (directory, refl, e)
    found_meets None h (Some b) e =
        let r = g.names d b name (rw is e) in
        let l : n.spot d name < 56 * blocks = subst (λ y. n.spot d name < 56 * room_in y) is r.0 in
        absurd (let z : test (n.spot d name) ≡ false = least_nothing test (56 * blocks) h (n.spot d name) l in
        let y : test (n.spot d name) ≡ true = ap (is_named name) (as_inode d blocks (n.spot d name) l ∙ r.1) ∙ text_same name in cc)
    found_meets (Some q) h b e =
        let r = least_some test (56 * blocks) q h in
        let w = named_by name (row q) r.0 in
        at_entry q w.0 r.1 w.1 w.2 b e

    walked_once : (o : Option ℕ) → map n.inode (walked_by (place_by d entries blocks name o) d (λ b. [])) ≡ n.inode d ∷ []
    walked_once None = refl
    walked_once (Some b) = refl

    pub look_up_leads : (dirs : List ℕ) → LeadsTo s at n dirs (run (look_up dirs (n.inode d) x name) s) (place_in (Some (Dir entries blocks)) d name) (walked_by (place_in (Some (Dir entries blocks)) d name) d (λ b. []))
    look_up_leads dirs =
        let size : 7 * (8 * blocks) ≡ 56 * blocks = omega arith in
        let f : Option Found → Walked = λ found. record { spot = spot_by (n.inode d) x name found; dirs = dirs ++ n.inode d ∷ [] } in
        let e : run (look_up dirs (n.inode d) x name) s ≡ f (found_in row (least test (56 * blocks))) =
        run-bind (search x.small (is_named name) 0 (8 * blocks)) (λ found. Got (f found)) s ∙ ap f (run-search x.small (is_named name) s (8 * blocks) ∙ ap (λ k. found_in row (least test k)) size) in
        subst (λ w. LeadsTo s at n dirs w (place_by d entries blocks name (entry_at entries name)) (walked_by (place_by d entries blocks name (entry_at entries name)) d (λ b. []))) (sym e)
        (record {
          spot = found_meets (least test (56 * blocks)) refl (entry_at entries name) refl;
          dirs = ap (λ l. dirs ++ l) (sym (walked_once (entry_at entries name)));
        })

  -- a name in a node that is there
  pub in_inode_leads : (dirs : List ℕ) (d : ℕ) (name : List ℕ) (o : Option Node) → at d ≡ o → is_some o ≡ true →
      LeadsTo s at n dirs (run (in_inode dirs (n.inode d) name (s.inode (n.inode d))) s) (place_in o d name) (walked_by (place_in o d name) d (λ b. []))
  in_inode_leads dirs d name None e h = absurd (cc)
  in_inode_leads dirs d name (Some (Dir entries blocks)) e h =
      subst (λ z. LeadsTo s at n dirs (run (in_inode dirs (n.inode d) name z) s) (place_in (Some (Dir entries blocks)) d name) (walked_by (place_in (Some (Dir entries blocks)) d name) d (λ b. [])))
      (sym (inode_is s at n g d (Dir entries blocks) e)) (look_up_leads d blocks entries e name dirs)
  in_inode_leads dirs d name (Some (File cells links when)) e h =
      subst (λ z. LeadsTo s at n dirs (run (in_inode dirs (n.inode d) name z) s) (Nowhere reply.NotDir) [])
      (sym (inode_is s at n g d (File cells links when) e)) (record { spot = refl; dirs = sym (append-nil dirs) })
  in_inode_leads dirs d name (Some (Link target links)) e h =
      subst (λ z. LeadsTo s at n dirs (run (in_inode dirs (n.inode d) name z) s) (Nowhere reply.NotDir) [])
      (sym (inode_is s at n g d (Link target links) e)) (record { spot = refl; dirs = sym (append-nil dirs) })
