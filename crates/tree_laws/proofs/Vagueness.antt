-- Cells that are the same, or in doubt in the second list.
use Rattle.std.proofs.Common.{ℕ, zero, suc, ◌≡◌, ◌≢◌, ◌+◌, true, Option, Some, None, List, [], ◌∷◌, ◌++◌, length, map, take, drop, refl, sym, ◌∙◌, ap, subst, inl, inr, ◌⊎◌, arith, eqb-true, take-append-drop, drop-drop, append_assoc}
use Rattle.std.proofs.lemmas.Bool.{and_parts, and_from}
use Rattle.std.proofs.lemmas.List.{length-map}
use Rattle.tree_definitions.specs.declared.cells.Cell.{Cell}
use Rattle.tree_definitions.specs.declared.cells.Cell.TheVariants.{Byte, Doubtful}
use Rattle.tree_definitions.specs.declared.node.Node.{Node}
use Rattle.tree_definitions.specs.declared.node.Node.TheVariants.{Dir, File, Link}
use Rattle.tree_definitions.specs.Tree.{FileTree, node_at, with_node}
use Rattle.tree_definitions.specs.Apply.{overwritten}
use Rattle.tree_definitions.specs.History.{cells_show, cell_shows, doubted_cells, doubted_file, doubted, file_of, CellRun}
use Rattle.tree_laws.specs.Alike.{Vaguer}
use Rattle.tree_definitions.proofs.Births.{each_but}
use Rattle.tree_laws.proofs.Nodes.{with_same, with_other}
use Rattle.tree_laws.proofs.Likeness.{Likeness, Like, Near}
use Rattle.tree_laws.proofs.ShapeLaws.{doubt_alike, shown_long}

pub vague_same : (xs : List Cell) → Vaguer xs xs
vague_same [] = tt
vague_same (x ∷ xs) = (inl refl, vague_same xs)

pub vague_long : (xs ys : List Cell) → Vaguer xs ys → length xs ≡ length ys
vague_long [] [] l = refl
vague_long [] (y ∷ ys) l = absurd l
vague_long (x ∷ xs) [] l = absurd l
vague_long (x ∷ xs) (y ∷ ys) l = let r : length xs ≡ length ys = vague_long xs ys l.1 in omega arith

pub vague_taken : (n : ℕ) (xs ys : List Cell) → Vaguer xs ys → Vaguer (take n xs) (take n ys)
vague_taken zero xs ys l = tt
vague_taken (suc n) [] [] l = tt
vague_taken (suc n) [] (y ∷ ys) l = absurd l
vague_taken (suc n) (x ∷ xs) [] l = absurd l
vague_taken (suc n) (x ∷ xs) (y ∷ ys) l = (l.0, vague_taken n xs ys l.1)

pub vague_dropped : (n : ℕ) (xs ys : List Cell) → Vaguer xs ys → Vaguer (drop n xs) (drop n ys)
vague_dropped zero xs ys l = l
vague_dropped (suc n) [] [] l = tt
vague_dropped (suc n) [] (y ∷ ys) l = absurd l
vague_dropped (suc n) (x ∷ xs) [] l = absurd l
vague_dropped (suc n) (x ∷ xs) (y ∷ ys) l = vague_dropped n xs ys l.1

pub vague_joined : (xs ys zs ws : List Cell) → Vaguer xs ys → Vaguer zs ws → Vaguer (xs ++ zs) (ys ++ ws)
vague_joined [] [] zs ws l k = k
vague_joined [] (y ∷ ys) zs ws l k = absurd l
vague_joined (x ∷ xs) [] zs ws l k = absurd l
vague_joined (x ∷ xs) (y ∷ ys) zs ws l k = (l.0, vague_joined xs ys zs ws l.1 k)

one_shown : (x y : Cell) (b : ℕ) → (x ≡ y) ⊎ (y ≡ Doubtful) → cell_shows x b ≡ true → cell_shows y b ≡ true
one_shown x y b (inl e) h = subst (λ c. cell_shows c b ≡ true) e h
one_shown x y b (inr e) h = ap (λ c. cell_shows c b) e

pub vague_shown : (xs ys : List Cell) (bytes : List ℕ) → Vaguer xs ys → cells_show xs bytes ≡ true → cells_show ys bytes ≡ true
vague_shown [] [] bytes l h = h
vague_shown [] (y ∷ ys) bytes l h = absurd l
vague_shown (x ∷ xs) [] bytes l h = absurd l
vague_shown (x ∷ xs) (y ∷ ys) [] l h = cc
vague_shown (x ∷ xs) (y ∷ ys) (b ∷ bytes) l h =
    let p = and_parts (cell_shows x b) (cells_show xs bytes) h in
    and_from (cell_shows y b) (cells_show ys bytes) (one_shown x y b l.0 p.0) (vague_shown xs ys bytes l.1 p.1)

abbrev pub vague : Likeness
vague = record { like = Vaguer; same = vague_same; long = vague_long; taken = vague_taken; dropped = vague_dropped; joined = vague_joined; shown = vague_shown }

vague_trans : (xs ys zs : List Cell) → Vaguer xs ys → Vaguer ys zs → Vaguer xs zs
vague_trans [] [] zs l k = k
vague_trans [] (y ∷ ys) zs l k = absurd l
vague_trans (x ∷ xs) [] zs l k = absurd l
vague_trans (x ∷ xs) (y ∷ ys) [] l k = absurd k
vague_trans (x ∷ xs) (y ∷ ys) (z ∷ zs) l k = (go l.0 k.0, vague_trans xs ys zs l.1 k.1)
  where
    go : (x ≡ y) ⊎ (y ≡ Doubtful) → (y ≡ z) ⊎ (z ≡ Doubtful) → (x ≡ z) ⊎ (z ≡ Doubtful)
    go p (inr e) = inr e
    go (inl d) (inl e) = inl (d ∙ e)
    go (inr d) (inl e) = inr (sym e ∙ d)

pub vague_nodes_trans : (a b c : Option Node) → Like vague a b → Like vague b c → Like vague a c
vague_nodes_trans (Some (Dir es n)) b c l k = subst (λ z. Like vague z c) l k
vague_nodes_trans (Some (Link target links)) b c l k = subst (λ z. Like vague z c) l k
vague_nodes_trans None b c l k = subst (λ z. Like vague z c) l k
vague_nodes_trans (Some (File cells links when)) b c l k =
    let m = subst (λ z. Like vague z c) l.1 k in (m.0, m.1, vague_trans cells l.0 m.0 l.2 m.2)

-- bytes that were shown are sharper than the cells
sharper : (cells : List Cell) (bytes : List ℕ) → cells_show cells bytes ≡ true → Vaguer (map Byte bytes) cells
sharper [] [] h = tt
sharper [] (b ∷ bytes) h = cc
sharper (c ∷ cells) [] h = cc
sharper (c ∷ cells) (b ∷ bytes) h = let p = and_parts (cell_shows c b) (cells_show cells bytes) h in (one c p.0, sharper cells bytes p.1)
  where
    one : (c : Cell) → cell_shows c b ≡ true → (Byte b ≡ c) ⊎ (c ≡ Doubtful)
    one (Byte a) h = inl (ap Byte (sym (eqb-true a b h)))
    one Doubtful h = inr refl

front_and_rest : (n : ℕ) (xs : List Cell) → take n xs ++ drop (length (take n xs)) xs ≡ xs
front_and_rest zero xs = refl
front_and_rest (suc n) [] = refl
front_and_rest (suc n) (x ∷ xs) = ap (λ l. x ∷ l) (front_and_rest n xs)

pub shown_is_sharper : (cells : List Cell) (off len : ℕ) (bytes : List ℕ) → cells_show (take len (drop off cells)) bytes ≡ true → Vaguer (overwritten cells off (map Byte bytes)) cells
shown_is_sharper cells off len bytes h =
    let mid = take len (drop off cells) in
    let new = map Byte bytes in
    let n : length new ≡ length mid = simp length-map (shown_long mid bytes h) in
    let whole : (take off cells ++ mid) ++ drop (off + length new) cells ≡ cells =
    append_assoc (take off cells) mid (drop (off + length new) cells)
    ∙ ap (λ k. take off cells ++ (mid ++ drop (off + k) cells)) n
    ∙ ap (λ l. take off cells ++ (mid ++ l)) (sym (drop-drop (length mid) off cells))
    ∙ ap (λ l. take off cells ++ l) (front_and_rest len (drop off cells))
    ∙ take-append-drop off cells in
    subst (Vaguer (overwritten cells off new)) whole
    (vague_joined (take off cells ++ new) (take off cells ++ mid) (drop (off + length new) cells) (drop (off + length new) cells)
    (vague_joined (take off cells) (take off cells) new mid (vague_same (take off cells)) (sharper mid bytes h)) (vague_same (drop (off + length new) cells)))

-- doubt comes into both
doubted_like : (xs ys : List Cell) (from count : ℕ) → Vaguer xs ys → Vaguer (doubted_cells xs from count) (doubted_cells ys from count)
doubted_like xs ys from count l =
    let mid = doubt_alike (take count (drop from xs)) (take count (drop from ys)) (vague_long (take count (drop from xs)) (take count (drop from ys)) (vague_taken count (drop from xs) (drop from ys) (vague_dropped from xs ys l))) in
    vague_joined (take from xs ++ map (λ c. Doubtful) (take count (drop from xs))) (take from ys ++ map (λ c. Doubtful) (take count (drop from ys))) (drop (from + count) xs) (drop (from + count) ys)
    (vague_joined (take from xs) (take from ys) (map (λ c. Doubtful) (take count (drop from xs))) (map (λ c. Doubtful) (take count (drop from ys))) (vague_taken from xs ys l) (subst (Vaguer (map (λ c. Doubtful) (take count (drop from xs)))) mid (vague_same (map (λ c. Doubtful) (take count (drop from xs))))))
    (vague_dropped (from + count) xs ys l)

module _ (t u : FileTree) (r from count : ℕ) where
  doubt_here : (o q : Option Node) → node_at t r ≡ o → node_at u r ≡ q → Like vague o q → Like vague (node_at (doubted_file t (file_of r o) from count) r) (node_at (doubted_file u (file_of r q) from count) r)
  doubt_here (Some (File cells links when)) q i j l =
      subst (λ z. Like vague (node_at (with_node t r (File (doubted_cells cells from count) links when)) r) (node_at (doubted_file u (file_of r z) from count) r)) (sym l.1)
      (subst (λ z. Like vague z (node_at (with_node u r (File (doubted_cells l.0 from count) links when)) r)) (sym (with_same t r (File (doubted_cells cells from count) links when)))
      (doubted_cells l.0 from count, with_same u r (File (doubted_cells l.0 from count) links when), doubted_like cells l.0 from count l.2))
  doubt_here (Some (Dir es n)) q i j l = subst (λ z. Like vague (node_at t r) (node_at (doubted_file u (file_of r z) from count) r)) (sym l) (subst (λ z. Like vague z (node_at u r)) (sym i) (j ∙ l))
  doubt_here (Some (Link target links)) q i j l = subst (λ z. Like vague (node_at t r) (node_at (doubted_file u (file_of r z) from count) r)) (sym l) (subst (λ z. Like vague z (node_at u r)) (sym i) (j ∙ l))
  doubt_here None q i j l = subst (λ z. Like vague (node_at t r) (node_at (doubted_file u (file_of r z) from count) r)) (sym l) (subst (λ z. Like vague z (node_at u r)) (sym i) (j ∙ l))

doubt_other : (t : FileTree) (r from count : ℕ) (o : Option Node) (b : ℕ) → b ≢ r → node_at (doubted_file t (file_of r o) from count) b ≡ node_at t b
doubt_other t r from count (Some (File cells links when)) b far = with_other t r (File (doubted_cells cells from count) links when) b far
doubt_other t r from count (Some (Dir es n)) b far = refl
doubt_other t r from count (Some (Link target links)) b far = refl
doubt_other t r from count None b far = refl

one_doubted : (t u : FileTree) (r from count b : ℕ) → Near vague t u b → Near vague (doubted_file t (file_of r (node_at t r)) from count) (doubted_file u (file_of r (node_at u r)) from count) b
one_doubted t u r from count = each_but (λ b. Near vague t u b → Near vague (doubted_file t (file_of r (node_at t r)) from count) (doubted_file u (file_of r (node_at u r)) from count) b) r
    (λ l. doubt_here t u r from count (node_at t r) (node_at u r) refl refl l)
    (λ b far l. subst (λ z. Like vague z (node_at (doubted_file u (file_of r (node_at u r)) from count) b)) (sym (doubt_other t r from count (node_at t r) b far)) (subst (Like vague (node_at t b)) (sym (doubt_other u r from count (node_at u r) b far)) l))

pub doubted_near : (t u : FileTree) (runs : List CellRun) (b : ℕ) → Near vague t u b → Near vague (doubted t runs) (doubted u runs) b
doubted_near t u [] b l = l
doubted_near t u (run ∷ runs) b l = doubted_near (doubted_file t (file_of run.birth (node_at t run.birth)) run.from run.count) (doubted_file u (file_of run.birth (node_at u run.birth)) run.from run.count) runs b
    (one_doubted t u run.birth run.from run.count b l)
