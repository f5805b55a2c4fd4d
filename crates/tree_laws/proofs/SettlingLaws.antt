-- What settles of a history is of the history.
use Rattle.std.proofs.Common.{◌≡◌, ◌⊎◌, inl, inr, ℕ, ◌==◌, Bool, true, false, not, ◌&&◌, cond, List, [], ◌∷◌, ◌++◌, map, filter, refl, sym, ◌∙◌, ap, subst, append_assoc, append-nil, nat_lt}
use Rattle.std.specs.List.{list_any}
use Rattle.std.proofs.lemmas.Bool.{and_parts}
use Rattle.tree_definitions.specs.declared.history.Entry.{Entry}
use Rattle.tree_definitions.specs.declared.history.Item.{Item}
use Rattle.tree_definitions.specs.declared.history.Item.TheVariants.{Did, Recovered}
use Rattle.tree_definitions.specs.Tree.{FileTree}
use Rattle.tree_definitions.specs.History.{Settled, Stays, InDoubt, after, after_all}
use Rattle.tree_definitions.specs.Removal.{settled, settled_from, left, begins_removal, is_lost, is_of, mounts, recovered, doubtful, is_recorded}
use Rattle.tree_laws.specs.Settling.{entries_of, entries_left, IsSublist, HasNoRecovery, LostBeforeMounts, RemovesNothing, RemovesFrom}

-- ---- sublists
sub_skip : (xs : List Entry) (y : Entry) (ys : List Entry) → IsSublist xs ys → IsSublist xs (y ∷ ys)
sub_skip [] y ys h = tt
sub_skip (x ∷ xs) y ys h = inr h

pub sub_same : (xs : List Entry) → IsSublist xs xs
sub_same [] = tt
sub_same (x ∷ xs) = inl (refl, sub_same xs)

pub sub_trans : (xs ys zs : List Entry) → IsSublist xs ys → IsSublist ys zs → IsSublist xs zs
sub_trans [] ys zs h g = tt
sub_trans (x ∷ xs) [] zs h g = absurd h
sub_trans (x ∷ xs) (y ∷ ys) [] h g = absurd g
sub_trans (x ∷ xs) (y ∷ ys) (z ∷ zs) (inl p) (inl q) = inl (p.0 ∙ q.0, sub_trans xs ys zs p.1 q.1)
sub_trans (x ∷ xs) (y ∷ ys) (z ∷ zs) (inr h) (inl q) = inr (sub_trans (x ∷ xs) ys zs h q.1)
sub_trans (x ∷ xs) (y ∷ ys) (z ∷ zs) h (inr g) = inr (sub_trans (x ∷ xs) (y ∷ ys) zs h g)

pub sub_push : (xs ys : List Entry) (e : Entry) → IsSublist xs ys → IsSublist (xs ++ e ∷ []) (ys ++ e ∷ [])
sub_push [] [] e h = inl (refl, tt)
sub_push [] (y ∷ ys) e h = inr (sub_push [] ys e tt)
sub_push (x ∷ xs) [] e h = absurd h
sub_push (x ∷ xs) (y ∷ ys) e (inl p) = inl (p.0, sub_push xs ys e p.1)
sub_push (x ∷ xs) (y ∷ ys) e (inr h) = inr (sub_push (x ∷ xs) ys e h)

pub sub_more : (xs ys zs : List Entry) → IsSublist xs ys → IsSublist xs (ys ++ zs)
sub_more [] ys zs h = tt
sub_more (x ∷ xs) [] zs h = absurd h
sub_more (x ∷ xs) (y ∷ ys) zs (inl p) = inl (p.0, sub_more xs ys zs p.1)
sub_more (x ∷ xs) (y ∷ ys) zs (inr h) = inr (sub_more (x ∷ xs) ys zs h)

-- ---- what is left
entries-append : (xs ys : List Settled) → entries_left (xs ++ ys) ≡ entries_left xs ++ entries_left ys
entries-append [] ys = refl
entries-append (Stays e ∷ xs) ys = ap (λ l. e ∷ l) (entries-append xs ys)
entries-append (InDoubt runs ∷ xs) ys = entries-append xs ys

filtered_is_sub : (keep : Settled → Bool) (list : List Settled) → IsSublist (entries_left (filter keep list)) (entries_left list)
filtered_is_sub keep [] = tt
filtered_is_sub keep (Stays e ∷ list) = go (keep (Stays e)) (filtered_is_sub keep list)
  where
    go : (b : Bool) → IsSublist (entries_left (filter keep list)) (entries_left list) → IsSublist (entries_left (cond b (Stays e ∷ filter keep list) (filter keep list))) (e ∷ entries_left list)
    go true h = inl (refl, h)
    go false h = sub_skip (entries_left (filter keep list)) e (entries_left list) h
filtered_is_sub keep (InDoubt runs ∷ list) = go (keep (InDoubt runs)) (filtered_is_sub keep list)
  where
    go : (b : Bool) → IsSublist (entries_left (filter keep list)) (entries_left list) → IsSublist (entries_left (cond b (InDoubt runs ∷ filter keep list) (filter keep list))) (entries_left list)
    go true h = h
    go false h = h

left_at : (server : ℕ) (s : Settled) (rest later : List Settled) (b : Bool) → IsSublist (entries_left later) (entries_left rest) → IsSublist (entries_left (cond b (filter (λ t. not (is_of server t)) rest) (s ∷ later))) (entries_left (s ∷ rest))
left_at server (Stays e) rest later true h = sub_skip (entries_left (filter (λ t. not (is_of server t)) rest)) e (entries_left rest) (filtered_is_sub (λ t. not (is_of server t)) rest)
left_at server (Stays e) rest later false h = inl (refl, h)
left_at server (InDoubt runs) rest later true h = filtered_is_sub (λ t. not (is_of server t)) rest
left_at server (InDoubt runs) rest later false h = h

pub left_is_sub : (server keeps : ℕ) (tree : FileTree) (list : List Settled) → IsSublist (entries_left (left server keeps tree list)) (entries_left list)
left_is_sub server keeps tree [] = tt
left_is_sub server keeps tree (s ∷ rest) = left_at server s rest (left server keeps (after tree s) rest) (begins_removal server keeps tree s rest) (left_is_sub server keeps (after tree s) rest)

pub recovered_is_sub : (opening : FileTree) (server keeps : ℕ) (list : List Settled) → IsSublist (entries_left (recovered opening server keeps list)) (entries_left list)
recovered_is_sub opening server keeps list =
    let rest = left server keeps opening list in
    subst (λ l. IsSublist l (entries_left list)) (sym (entries-append rest (InDoubt (doubtful server opening rest) ∷ []) ∙ append-nil (entries_left rest))) (left_is_sub server keeps opening list)

settled_is_sub : (opening : FileTree) (list : List Settled) (seen : List Entry) (items : List Item) → IsSublist (entries_left list) seen → IsSublist (entries_left (settled_from opening list items)) (seen ++ entries_of items)
settled_is_sub opening list seen [] h = sub_more (entries_left list) seen [] h
settled_is_sub opening list seen (Did e ∷ items) h =
    subst (λ l. IsSublist (entries_left (settled_from opening (list ++ Stays e ∷ []) items)) l) (append_assoc seen (e ∷ []) (entries_of items))
    (settled_is_sub opening (list ++ Stays e ∷ []) (seen ++ e ∷ []) items (subst (λ l. IsSublist l (seen ++ e ∷ [])) (sym (entries-append list (Stays e ∷ []))) (sub_push (entries_left list) seen e h)))
settled_is_sub opening list seen (Recovered s k ∷ items) h =
    settled_is_sub opening (recovered opening s.0 k.0 list) seen items (sub_trans (entries_left (recovered opening s.0 k.0 list)) (entries_left list) seen (recovered_is_sub opening s.0 k.0 list) h)

pub settled_is_of : (opening : FileTree) (history : List Item) → IsSublist (entries_left (settled opening history)) (entries_of history)
settled_is_of opening history = settled_is_sub opening [] [] history tt

-- ---- without recoveries
settles_from : (opening : FileTree) (list : List Settled) (items : List Item) → HasNoRecovery items → settled_from opening list items ≡ list ++ map (λ e. Stays e) (entries_of items)
settles_from opening list [] h = sym (append-nil list)
settles_from opening list (Did e ∷ items) h = settles_from opening (list ++ Stays e ∷ []) items h ∙ append_assoc list (Stays e ∷ []) (map (λ e. Stays e) (entries_of items))
settles_from opening list (Recovered s k ∷ items) h = absurd h

pub settles : (opening : FileTree) (history : List Item) → HasNoRecovery history → settled opening history ≡ map (λ e. Stays e) (entries_of history)
settles opening history h = settles_from opening [] history h

-- ---- what a recovery removes
pub lost_is_of : (server keeps : ℕ) (tree : FileTree) (s : Settled) → is_lost server keeps tree s ≡ true → is_of server s ≡ true
lost_is_of server keeps tree (Stays e) h = (and_parts (e.server.0 == server) (nat_lt keeps e.number.0) (and_parts (e.server.0 == server && nat_lt keeps e.number.0) (is_recorded tree e) h).0).0
lost_is_of server keeps tree (InDoubt runs) h = cc

module _ (server keeps : ℕ) where
  -- one step more in front
  lost_before : (tree : FileTree) (s : Settled) (list more : List Settled) → (is_lost server keeps tree s ≡ true → list_any (mounts server) (list ++ more) ≡ true) → LostBeforeMounts server keeps (after tree s) list more → LostBeforeMounts server keeps tree (s ∷ list) more
  lost_before tree s list more mine h [] x back e l = let i : s ≡ x = cc in let j : list ≡ back = cc in subst (λ b. list_any (mounts server) (b ++ more) ≡ true) j (mine (subst (λ y. is_lost server keeps tree y ≡ true) (sym i) l))
  lost_before tree s list more mine h (y ∷ front) x back e l =
      let i : s ≡ y = cc in let j : list ≡ front ++ x ∷ back = cc in
      h front x back j (subst (λ z. is_lost server keeps (after_all (after tree z) front) x ≡ true) (sym i) l)

  pub removes : (tree : FileTree) (list : List Settled) → RemovesNothing server keeps tree list ⊎ RemovesFrom server keeps tree list
  removes tree [] = inl (record { none = λ front s back e l. absurd (nothing front s back e); leaves = refl })
    where
      nothing : (front : List Settled) (s : Settled) (back : List Settled) → [] ≡ front ++ s ∷ back → ⊥
      nothing [] s back e = cc
      nothing (x ∷ front) s back e = cc
  removes tree (s ∷ rest) = go (is_lost server keeps tree s) (list_any (mounts server) rest) refl refl (removes (after tree s) rest)
    where
      tests : (l m : Bool) → is_lost server keeps tree s ≡ l → list_any (mounts server) rest ≡ m → begins_removal server keeps tree s rest ≡ l && not m
      tests l m e f = ap (λ a. a && not (list_any (mounts server) rest)) e ∙ ap (λ b. l && not b) f

      later : (c : Bool) → begins_removal server keeps tree s rest ≡ c → left server keeps tree (s ∷ rest) ≡ cond c (filter (λ t. not (is_of server t)) rest) (s ∷ left server keeps (after tree s) rest)
      later c e = ap (λ b. cond b (filter (λ t. not (is_of server t)) rest) (s ∷ left server keeps (after tree s) rest)) e

      goes_on : begins_removal server keeps tree s rest ≡ false → ((more : List Settled) (list : List Settled) → rest ≡ list ++ more → is_lost server keeps tree s ≡ true → list_any (mounts server) (list ++ more) ≡ true)
          → RemovesNothing server keeps (after tree s) rest ⊎ RemovesFrom server keeps (after tree s) rest → RemovesNothing server keeps tree (s ∷ rest) ⊎ RemovesFrom server keeps tree (s ∷ rest)
      goes_on e mine (inl r) = inl (record { none = lost_before tree s rest [] (mine [] rest (sym (append-nil rest))) r.none; leaves = later false e ∙ ap (λ l. s ∷ l) r.leaves })
      goes_on e mine (inr r) = inr (record {
        before = s ∷ r.before;
        first = r.first;
        rest = r.rest;
        splits = ap (λ l. s ∷ l) r.splits;
        earlier = lost_before tree s r.before (r.first ∷ r.rest) (mine (r.first ∷ r.rest) r.before r.splits) r.earlier;
        lost = r.lost;
        present = r.present;
        leaves = later false e ∙ ap (λ l. s ∷ l) r.leaves;
      })

      go : (l m : Bool) → is_lost server keeps tree s ≡ l → list_any (mounts server) rest ≡ m → RemovesNothing server keeps (after tree s) rest ⊎ RemovesFrom server keeps (after tree s) rest → RemovesNothing server keeps tree (s ∷ rest) ⊎ RemovesFrom server keeps tree (s ∷ rest)
      go true false e f r = inr (record {
        before = [];
        first = s;
        rest = rest;
        splits = refl;
        earlier = λ front x back i l. absurd (nothing front x back i);
        lost = e;
        present = f;
        leaves = later true (tests true false e f);
      })
        where
          nothing : (front : List Settled) (s : Settled) (back : List Settled) → [] ≡ front ++ s ∷ back → ⊥
          nothing [] s back e = cc
          nothing (x ∷ front) s back e = cc
      go true true e f r = goes_on (tests true true e f) (λ more list i l. ap (list_any (mounts server)) (sym i) ∙ f) r
      go false m e f r = goes_on (tests false m e f) (λ more list i l. absurd (let z : true ≡ false = sym l ∙ e in cc)) r
