-- What an operation makes of the cells of a file that stays: those of the file that a write, fill or truncate reaches are edited, all others
-- stay.
use Rattle.std.proofs.Common.{ℕ, zero, suc, ◌≡◌, ◌≢◌, ◌==◌, ◌+◌, ◌-◌, Bool, true, false, ◌&&◌, ◌||◌, Option, Some, None, List, [], ◌∷◌, ◌++◌, length, map, replicate, take, drop, cond, refl, sym, ◌∙◌, ap, subst, nat_lt, eq-eqb, ne_eqb, inl, inr, ◌⊎◌, arith}
use Rattle.std.proofs.lemmas.Bool.{and_right}
use Rattle.frang_base.specs.declared.op.Op.{Op}
use Rattle.frang_base.specs.declared.op.Op.TheVariants as op
use Rattle.frang_base.specs.declared.reply.Reply.{Reply}
use Rattle.frang_base.specs.declared.reply.Reply.TheVariants as reply
use Rattle.tree_definitions.specs.declared.cells.Cell.{Cell}
use Rattle.tree_definitions.specs.declared.cells.Cell.TheVariants.{Byte, Doubtful}
use Rattle.tree_definitions.specs.declared.node.Node.{Node}
use Rattle.tree_definitions.specs.declared.node.Node.TheVariants.{Dir, File, Link}
use Rattle.tree_definitions.specs.Entries.{Entries, with_entry, without_entry}
use Rattle.tree_definitions.specs.Tree.{FileTree, node_at, with_node, without_node, grown}
use Rattle.tree_definitions.specs.Place.{Place, Root, Taken, Free, Nowhere, place}
use Rattle.tree_definitions.specs.Apply.{Plain, Applied, says, named, made, one_link_more, one_link_fewer, linked_to, linked, unlinked, dir_removed, moved, name_gone, name_set, room_made, moved_onto, moved_to, renamed_to, renamed_from, renamed, if_file, at_file, written, truncated, overwritten, apply}
use Rattle.tree_definitions.specs.History.{agrees}
use Rattle.tree_definitions.specs.Touched.{file_node, reached, reached_if, further, is_ok}
use Rattle.tree_definitions.specs.Removal.{writes_file}
use Rattle.tree_definitions.specs.Perform.{resolved}
use Rattle.tree_laws.specs.Refusals.{is_look}
use Rattle.tree_definitions.specs.WellFormed.{BirthsAscend, IsNew}
use Rattle.tree_definitions.proofs.Births.{each_but}
use Rattle.tree_laws.proofs.Nodes.{with_same, with_other, without_same, without_other, ascend_with}
use Rattle.tree_laws.proofs.Places.{is_in}
use Rattle.tree_laws.proofs.Refusals.{looks_leave}
use Rattle.tree_laws.proofs.Acting.{moved_ascends}
use Rattle.tree_laws.proofs.Resolving.{IsOf, Shaped, resolved_is}
use Rattle.tree_laws.specs.Alike.{Vaguer}

-- what a write, fill or truncate makes of the cells
abbrev pub edited : Op → List Cell → List Cell
edited (op.Write path off bytes) cells = overwritten cells off (map Byte bytes)
edited (op.Fill path off len byte) cells = overwritten cells off (replicate len (Byte byte))
edited (op.Truncate path len) cells = take len cells
edited _ cells = cells

-- it reaches the file of this birth, and is answered `ok`
abbrev pub hits : FileTree → Op → Reply → ℕ → Bool
hits tree o r birth = writes_file o && (is_ok r && is_in birth (further tree o r))

-- of a file that stays, the cells after: edited or not
abbrev pub Edited : Bool → (List Cell → List Cell) → Option Node → Option Node → Type 0
Edited hit edit before now = (xs : List Cell) (l w : ℕ) (ys : List Cell) (k v : ℕ) → before ≡ Some (File xs l w) → now ≡ Some (File ys k v) → ys ≡ cond hit (edit xs) xs

-- ---- an edit that leaves vaguer cells leaves the cells
abbrev all_bytes : List Cell → Bool
all_bytes [] = true
all_bytes (Byte b ∷ cells) = all_bytes cells
all_bytes (Doubtful ∷ cells) = false

bytes_are : (bytes : List ℕ) → all_bytes (map Byte bytes) ≡ true
bytes_are [] = refl
bytes_are (b ∷ bytes) = bytes_are bytes

fill_is : (n byte : ℕ) → all_bytes (replicate n (Byte byte)) ≡ true
fill_is zero byte = refl
fill_is (suc n) byte = fill_is n byte

-- at the front
put_stays : (new xs ys : List Cell) → all_bytes new ≡ true → Vaguer xs ys → new ++ drop (length new) ys ≡ ys → new ++ drop (length new) xs ≡ xs
put_stays [] xs ys a l e = refl
put_stays (Doubtful ∷ new) xs ys a l e = absurd (cc)
put_stays (Byte b ∷ new) xs [] a l e = absurd (let z : Byte b ∷ (new ++ drop (length (Byte b ∷ new)) []) ≡ [] = e in cc)
put_stays (Byte b ∷ new) [] (y ∷ ys) a l e = absurd l
put_stays (Byte b ∷ new) (x ∷ xs) (y ∷ ys) a l e =
    let h : Byte b ≡ y = cc in
    let t : new ++ drop (length new) ys ≡ ys = cc in
    one x l.0 h (put_stays new xs ys a l.1 t)
  where
    one : (x : Cell) → (x ≡ y) ⊎ (y ≡ Doubtful) → Byte b ≡ y → new ++ drop (length new) xs ≡ xs → Byte b ∷ (new ++ drop (length new) xs) ≡ x ∷ xs
    one x (inl i) h t = cc
    one x (inr i) h t = absurd (let z : Byte b ≡ Doubtful = h ∙ i in cc)

-- from an offset on
over_stays : (off k : ℕ) (new xs ys : List Cell) → k ≡ off + length new → all_bytes new ≡ true → Vaguer xs ys → take off ys ++ new ++ drop k ys ≡ ys → take off xs ++ new ++ drop k xs ≡ xs
over_stays zero k new xs ys i a l e =
    let j : k ≡ length new = omega (arith, i) in
    ap (λ n. new ++ drop n xs) j ∙ put_stays new xs ys a l (ap (λ n. new ++ drop n ys) (sym j) ∙ e)
over_stays (suc off) zero new xs ys i a l e = absurd (omega (arith, i))
over_stays (suc off) (suc k) new [] [] i a l e = e
over_stays (suc off) (suc k) new [] (y ∷ ys) i a l e = absurd l
over_stays (suc off) (suc k) new (x ∷ xs) [] i a l e = absurd l
over_stays (suc off) (suc k) new (x ∷ xs) (y ∷ ys) i a l e =
    let t : take off ys ++ new ++ drop k ys ≡ ys = cc in
    ap (λ r. x ∷ r) (over_stays off k new xs ys (omega (arith, i)) a l.1 t)

cut_stays : (len : ℕ) (xs ys : List Cell) → Vaguer xs ys → take len ys ≡ ys → take len xs ≡ xs
cut_stays zero [] ys l e = refl
cut_stays zero (x ∷ xs) [] l e = absurd l
cut_stays zero (x ∷ xs) (y ∷ ys) l e = cc
cut_stays (suc len) [] ys l e = refl
cut_stays (suc len) (x ∷ xs) [] l e = absurd l
cut_stays (suc len) (x ∷ xs) (y ∷ ys) l e = let t : take len ys ≡ ys = cc in ap (λ r. x ∷ r) (cut_stays len xs ys l.1 t)

pub edit_stays : (o : Op) (xs ys : List Cell) → Vaguer xs ys → edited o ys ≡ ys → edited o xs ≡ xs
edit_stays (op.Write path off bytes) xs ys l e = over_stays off (off + length (map Byte bytes)) (map Byte bytes) xs ys refl (bytes_are bytes) l e
edit_stays (op.Fill path off len byte) xs ys l e = over_stays off (off + length (replicate len (Byte byte))) (replicate len (Byte byte)) xs ys refl (fill_is len byte) l e
edit_stays (op.Truncate path len) xs ys l e = cut_stays len xs ys l e
edit_stays _ xs ys l e = refl

-- ---- operations that write no file keep the cells of each
abbrev SameCells : Option Node → Option Node → Type 0
SameCells before now = (xs : List Cell) (l w : ℕ) (ys : List Cell) (k v : ℕ) → before ≡ Some (File xs l w) → now ≡ Some (File ys k v) → ys ≡ xs

same_cells : (o : Option Node) → SameCells o o
same_cells o xs l w ys k v i j = let z : Some (File xs l w) ≡ Some (File ys k v) = sym i ∙ j in cc

to_dir : (o : Option Node) (es : Entries) (n : ℕ) → SameCells o (Some (Dir es n))
to_dir o es n xs l w ys k v i j = absurd (cc)

to_link : (o : Option Node) (target : List ℕ) (n : ℕ) → SameCells o (Some (Link target n))
to_link o target n xs l w ys k v i j = absurd (cc)

from_none : (o : Option Node) → SameCells None o
from_none o xs l w ys k v i j = absurd (cc)

to_none : (o : Option Node) → SameCells o None
to_none o xs l w ys k v i j = absurd (cc)

relinked : (cells : List Cell) (l w k v : ℕ) → SameCells (Some (File cells l w)) (Some (File cells k v))
relinked cells l w k v xs l2 w2 ys k2 v2 i j = let p : cells ≡ xs = cc in let q : cells ≡ ys = cc in sym q ∙ p

module _ (t : FileTree) where
  record Keeps (u : FileTree) : Type 0 where
    pub each : (b : ℕ) → SameCells (node_at t b) (node_at u b)

  kept_all : Keeps t
  kept_all = record { each = λ b. same_cells (node_at t b) }

  kept_put : (u : FileTree) (d : ℕ) (x : Node) → Keeps u → SameCells (node_at t d) (Some x) → Keeps (with_node u d x)
  kept_put u d x h s = record {
    each = each_but (λ b. SameCells (node_at t b) (node_at (with_node u d x) b)) d (subst (SameCells (node_at t d)) (sym (with_same u d x)) s)
        (λ c n. subst (SameCells (node_at t c)) (sym (with_other u d x c n)) (h.each c));
  }

  kept_dir : (u : FileTree) (d : ℕ) (es : Entries) (n : ℕ) → Keeps u → Keeps (with_node u d (Dir es n))
  kept_dir u d es n h = kept_put u d (Dir es n) h (to_dir (node_at t d) es n)

  kept_without : (u : FileTree) (d : ℕ) → BirthsAscend u → Keeps u → Keeps (without_node u d)
  kept_without u d births h = record {
    each = each_but (λ b. SameCells (node_at t b) (node_at (without_node u d) b)) d (subst (SameCells (node_at t d)) (sym (without_same u d births)) (to_none (node_at t d)))
        (λ c n. subst (SameCells (node_at t c)) (sym (without_other u d c n)) (h.each c));
  }

  kept_if : (u : FileTree) (d : ℕ) (x : Node) (c : Bool) → BirthsAscend u → Keeps u → SameCells (node_at t d) (Some x) → Keeps (cond c (with_node u d x) (without_node u d))
  kept_if u d x true births h s = kept_put u d x h s
  kept_if u d x false births h s = kept_without u d births h

  kept_fewer : (u : FileTree) (d : ℕ) (o : Option Node) → node_at t d ≡ o → BirthsAscend u → Keeps u → Keeps (one_link_fewer u d o)
  kept_fewer u d (Some (File cells links when)) i births h = kept_if u d (File cells (links - 1) when) (nat_lt 1 links) births h (subst (λ z. SameCells z (Some (File cells (links - 1) when))) (sym i) (relinked cells links when (links - 1) when))
  kept_fewer u d (Some (Link target links)) i births h = kept_if u d (Link target (links - 1)) (nat_lt 1 links) births h (to_link (node_at t d) target (links - 1))
  kept_fewer u d (Some (Dir es n)) i births h = kept_without u d births h
  kept_fewer u d None i births h = h

  kept_more : (d : ℕ) (o : Option Node) → node_at t d ≡ o → Keeps (one_link_more t d o)
  kept_more d (Some (File cells links when)) i = kept_put t d (File cells (links + 1) when) kept_all (subst (λ z. SameCells z (Some (File cells (links + 1) when))) (sym i) (relinked cells links when (links + 1) when))
  kept_more d (Some (Link target links)) i = kept_put t d (Link target (links + 1)) kept_all (to_link (node_at t d) target (links + 1))
  kept_more d (Some (Dir es n)) i = kept_all
  kept_more d None i = kept_all

  kept_gone : (u : FileTree) (d : ℕ) (name : List ℕ) (o : Option Node) → Keeps u → Keeps (name_gone u d name o)
  kept_gone u d name (Some (Dir es n)) h = kept_dir u d (without_entry es name) n h
  kept_gone u d name (Some (File cells links when)) h = h
  kept_gone u d name (Some (Link target links)) h = h
  kept_gone u d name None h = h

  kept_set : (u : FileTree) (d : ℕ) (name : List ℕ) (birth : ℕ) (o : Option Node) → Keeps u → Keeps (name_set u d name birth o)
  kept_set u d name birth (Some (Dir es n)) h = kept_dir u d (with_entry es name birth) n h
  kept_set u d name birth (Some (File cells links when)) h = h
  kept_set u d name birth (Some (Link target links)) h = h
  kept_set u d name birth None h = h

  kept_moved : (u : FileTree) (from : ℕ) (name : List ℕ) (to : ℕ) (new : List ℕ) (birth : ℕ) → Keeps u → Keeps (moved u from name to new birth)
  kept_moved u from name to new birth h = let gone = name_gone u from name (node_at u from) in kept_set gone to new birth (node_at gone to) (kept_gone u from name (node_at u from) h)

  -- outcomes
  record Kept (a : Applied) : Type 0 where
    pub cells : Keeps a.tree

  either : (b : Bool) (x y : Applied) → Kept x → Kept y → Kept (cond b x y)
  either true x y f g = f
  either false x y f g = g

  ok : (u : FileTree) → Keeps u → Kept (says u reply.Ok)
  ok u h = record { cells = h }

  same : (r : Reply) → Kept (says t r)
  same r = record { cells = kept_all }

  made_kept : (b : ℕ) (x : Node) → IsNew t b → (p : Place) → Kept (made t b x p)
  made_kept b x new Root = same reply.Exist
  made_kept b x new (Nowhere r) = same r
  made_kept b x new (Taken d es n name c) = same reply.Exist
  made_kept b x new (Free d es n name) =
      let done : Keeps (named (with_node t b x) d es n name b) = kept_dir (with_node t b x) d (with_entry es name b) (grown es n) (kept_put t b x kept_all (subst (λ z. SameCells z (Some x)) (sym new) (from_none (Some x)))) in
      search (either, same, ok, done)

  linked_to_kept : (b : ℕ) (p : Place) → Kept (linked_to t b p)
  linked_to_kept b Root = same reply.Exist
  linked_to_kept b (Nowhere r) = same r
  linked_to_kept b (Taken d es n name c) = same reply.Exist
  linked_to_kept b (Free d es n name) =
      let done : Keeps (named (one_link_more t b (node_at t b)) d es n name b) = kept_dir (one_link_more t b (node_at t b)) d (with_entry es name b) (grown es n) (kept_more b (node_at t b) refl) in
      search (either, same, ok, done)

  linked_kept : (p to : Place) → Kept (linked t p to)
  linked_kept Root to = same reply.IsDir
  linked_kept (Nowhere r) to = same r
  linked_kept (Free d es n name) to = same reply.NoEnt
  linked_kept (Taken d es n name b) to = search (either, same, linked_to_kept)

  module _ (births : BirthsAscend t) where
    unlinked_kept : (p : Place) → Kept (unlinked t p)
    unlinked_kept Root = same reply.IsDir
    unlinked_kept (Nowhere r) = same r
    unlinked_kept (Free d es n name) = same reply.NoEnt
    unlinked_kept (Taken d es n name b) =
        let u = with_node t d (Dir (without_entry es name) n) in
        let done : Keeps (one_link_fewer u b (node_at t b)) = kept_fewer u b (node_at t b) refl (ascend_with t d (Dir (without_entry es name) n) births) (kept_dir t d (without_entry es name) n kept_all) in
        search (either, same, ok, done)

    removed_kept : (p : Place) → Kept (dir_removed t p)
    removed_kept Root = same reply.Inval
    removed_kept (Nowhere r) = same r
    removed_kept (Free d es n name) = same reply.NoEnt
    removed_kept (Taken d es n name b) =
        let u = with_node t d (Dir (without_entry es name) n) in
        let done : Keeps (without_node u b) = kept_without u b (ascend_with t d (Dir (without_entry es name) n) births) (kept_dir t d (without_entry es name) n kept_all) in
        search (either, same, ok, done)

    onto_kept : (from : ℕ) (name : List ℕ) (b to : ℕ) (new : List ℕ) (old : ℕ) → Kept (moved_onto t from name b to new old)
    onto_kept from name b to new old =
        let u = moved t from name to new b in
        let done : Keeps (one_link_fewer u old (node_at t old)) = kept_fewer u old (node_at t old) refl (moved_ascends t from name to new b births) (kept_moved t from name to new b kept_all) in
        search (either, same, ok, done)

    to_kept : (from : ℕ) (name : List ℕ) (b to : ℕ) (es : Entries) (n : ℕ) (new : List ℕ) → Kept (moved_to t from name b to es n new)
    to_kept from name b to es n new =
        let done : Keeps (moved t from name to new b) = kept_moved t from name to new b kept_all in
        let roomy : Keeps (moved (room_made t to es n) from name to new b) = kept_moved (room_made t to es n) from name to new b (kept_dir t to es (grown es n) kept_all) in
        search (either, same, ok, done, roomy)

    renamed_to_kept : (from : ℕ) (name : List ℕ) (b : ℕ) (path : List (List ℕ)) (p : Place) → Kept (renamed_to t from name b path p)
    renamed_to_kept from name b path Root = same reply.Inval
    renamed_to_kept from name b path (Nowhere r) = same r
    renamed_to_kept from name b path (Taken to es n new old) = search (either, same, onto_kept)
    renamed_to_kept from name b path (Free to es n new) = search (either, same, to_kept)

    renamed_from_kept : (p : Place) (to : List (List ℕ)) → Kept (renamed_from t p to)
    renamed_from_kept Root to = same reply.Inval
    renamed_from_kept (Nowhere r) to = same r
    renamed_from_kept (Free d es n name) to = same reply.NoEnt
    renamed_from_kept (Taken d es n name b) to = renamed_to_kept d name b to (place t to)

    renamed_kept : (path to : List (List ℕ)) → Kept (renamed t path to)
    renamed_kept [] to = same reply.Inval
    renamed_kept (n ∷ ns) [] = same reply.Inval
    renamed_kept (n ∷ ns) (m ∷ ms) = renamed_from_kept (place t (n ∷ ns)) (m ∷ ms)

  looked_kept : (o : Op) (n when m : ℕ) → is_look o ≡ true → Kept (apply t o n when m)
  looked_kept o n when m h = record { cells = subst Keeps (sym (looks_leave t o n when m h)) kept_all }

-- ---- an operation that writes a file edits the one that it reaches
module _ (t : FileTree) (edit : List Cell → List Cell) (r : Reply) where
  -- of the file at d, where there is one
  record Edits (d : ℕ) (o : Option Node) (a : Applied) : Type 0 where
    pub cells : agrees a.answer r ≡ true → (b : ℕ) → Edited (is_ok r && is_in b (reached_if file_node d o)) edit (node_at t b) (node_at a.tree b)

  one_or_other : (d : ℕ) (o : Option Node) (c : Bool) (x y : Applied) → Edits d o x → Edits d o y → Edits d o (cond c x y)
  one_or_other d o true x y f g = f
  one_or_other d o false x y f g = g

  -- what isn't edited
  unedited : (h : Bool) (o : Option Node) → h ≡ false → Edited h edit o o
  unedited h o e xs l w ys k v i j = same_cells o xs l w ys k v i j ∙ ap (λ c. cond c (edit xs) xs) (sym e)

  refused : (d : ℕ) (o : Option Node) (s : Reply) → (agrees (Plain s) r ≡ true → is_ok r ≡ false) → Edits d o (says t s)
  refused d o s h = record { cells = λ told b. unedited (is_ok r && is_in b (reached_if file_node d o)) (node_at t b) (ap (λ c. c && is_in b (reached_if file_node d o)) (h told)) }

  -- nothing is reached
  unreached : (d : ℕ) (o : Option Node) (s : Reply) → reached_if file_node d o ≡ [] → Edits d o (says t s)
  unreached d o s e = record { cells = λ told b. unedited (is_ok r && is_in b (reached_if file_node d o)) (node_at t b) (and_right (is_ok r) (is_in b (reached_if file_node d o)) (ap (is_in b) e)) }

  put_edits : (d : ℕ) (cells : List Cell) (links old when : ℕ) → node_at t d ≡ Some (File cells links old) → (agrees (Plain reply.Ok) r ≡ true → is_ok r ≡ true) → Edits d (Some (File cells links old)) (says (with_node t d (File (edit cells) links when)) reply.Ok)
  put_edits d cells links old when is ok = record {
    cells = λ told. each_but (λ b. Edited (is_ok r && is_in b (d ∷ [])) edit (node_at t b) (node_at (with_node t d (File (edit cells) links when)) b)) d
        (λ xs l w ys k v i j. here (is_ok r && is_in d (d ∷ [])) xs l w ys k v (ap (λ c. c && is_in d (d ∷ [])) (ok told) ∙ ap (λ c. c || false) (eq-eqb d d refl)) (sym is ∙ i) (sym (with_same t d (File (edit cells) links when)) ∙ j))
        (λ c n. subst (Edited (is_ok r && is_in c (d ∷ [])) edit (node_at t c)) (sym (with_other t d (File (edit cells) links when) c n))
        (unedited (is_ok r && is_in c (d ∷ [])) (node_at t c) (and_right (is_ok r) (is_in c (d ∷ [])) (ap (λ k. k || false) (far d c n)))));
  }
    where
      far : (d c : ℕ) → c ≢ d → d == c ≡ false
      far d c n = ne_eqb d c (λ e. n (sym e))

      here : (h : Bool) (xs : List Cell) (l w : ℕ) (ys : List Cell) (k v : ℕ) → h ≡ true → Some (File cells links old) ≡ Some (File xs l w) → Some (File (edit cells) links when) ≡ Some (File ys k v) → ys ≡ cond h (edit xs) xs
      here h xs l w ys k v e i j = let p : cells ≡ xs = cc in let q : edit cells ≡ ys = cc in sym q ∙ ap edit p ∙ ap (λ c. cond c (edit xs) xs) (sym e)

  module _ (next : ℕ → List Cell → ℕ → ℕ → Applied) (each : (d : ℕ) (cells : List Cell) (links old : ℕ) → node_at t d ≡ Some (File cells links old) → Edits d (Some (File cells links old)) (next d cells links old)) where
    file_edits : (d : ℕ) (o : Option Node) → node_at t d ≡ o → Edits d o (if_file t next d o)
    file_edits d (Some (File cells links old)) is = each d cells links old is
    file_edits d (Some (Dir es n)) is = unreached d (Some (Dir es n)) reply.IsDir refl
    file_edits d (Some (Link target links)) is = unreached d (Some (Link target links)) reply.Inval refl
    file_edits d None is = unreached d None reply.NoEnt refl

    place_edits : (p : Place) → agrees (at_file t p next).answer r ≡ true → (b : ℕ) → Edited (is_ok r && is_in b (reached t file_node p)) edit (node_at t b) (node_at (at_file t p next).tree b)
    place_edits Root told b = (file_edits 0 (node_at t 0) refl).cells told b
    place_edits (Taken dir es n name d) told b = (file_edits d (node_at t d) refl).cells told b
    place_edits (Free dir es n name) told b = (unreached 0 None reply.NoEnt refl).cells told b
    place_edits (Nowhere q) told b = (unreached 0 None q refl).cells told b

-- replies by their word
ok_told : (r : Reply) → agrees (Plain reply.Ok) r ≡ true → is_ok r ≡ true
ok_told reply.Ok h = refl
ok_told _ h = cc

not_offset : (r : Reply) → agrees (Plain reply.BadOffset) r ≡ true → is_ok r ≡ false
not_offset reply.Ok h = cc
not_offset _ h = refl

not_big : (r : Reply) → agrees (Plain reply.TooBig) r ≡ true → is_ok r ≡ false
not_big reply.Ok h = cc
not_big _ h = refl

not_large : (r : Reply) → agrees (Plain reply.NoLarge) r ≡ true → is_ok r ≡ false
not_large reply.Ok h = cc
not_large _ h = refl

not_block : (m : ℕ) (r : Reply) → agrees (Plain (reply.NoBlock m)) r ≡ true → is_ok r ≡ false
not_block m reply.Ok h = cc
not_block m _ h = refl

written_edits : (t : FileTree) (r : Reply) (m d : ℕ) (cells : List Cell) (links old when off len : ℕ) (put : List Cell → List Cell) → node_at t d ≡ Some (File cells links old) → Edits t put r d (Some (File cells links old)) (written t m d cells links when off len put)
written_edits t r m d cells links old when off len put is =
    let o = Some (File cells links old) in
    let offset = refused t put r d o reply.BadOffset (not_offset r) in
    let big = refused t put r d o reply.TooBig (not_big r) in
    let large = refused t put r d o reply.NoLarge (not_large r) in
    let block = refused t put r d o (reply.NoBlock m) (not_block m r) in
    let done = put_edits t put r d cells links old when is (ok_told r) in
    one_or_other t put r d o _ _ _ offset (one_or_other t put r d o _ _ _ big (one_or_other t put r d o _ _ _ large (one_or_other t put r d o _ _ _ block done)))

truncated_edits : (t : FileTree) (r : Reply) (d : ℕ) (cells : List Cell) (links old when len : ℕ) → node_at t d ≡ Some (File cells links old) → Edits t (take len) r d (Some (File cells links old)) (truncated t d cells links when len)
truncated_edits t r d cells links old when len is =
    let o = Some (File cells links old) in
    let offset = refused t (take len) r d o reply.BadOffset (not_offset r) in
    let done = put_edits t (take len) r d cells links old when is (ok_told r) in
    search (one_or_other, offset, done)

module _ (t : FileTree) (births : BirthsAscend t) (n when m : ℕ) (new : IsNew t n) (r : Reply) where
  -- the cells of each file after an operation
  pub edits : (o : Op) → agrees (apply t o n when m).answer r ≡ true → (b : ℕ) → Edited (hits t o r b) (edited o) (node_at t b) (node_at (apply t o n when m).tree b)
  edits (op.Create path) told b = (made_kept t n (File [] 1 0) new (place t path)).cells.each b
  edits (op.Mkdir path) told b = (made_kept t n (Dir [] 0) new (place t path)).cells.each b
  edits (op.Symlink path target) told b = (made_kept t n (Link target 1) new (place t path)).cells.each b
  edits (op.Link path to) told b = (linked_kept t (place t path) (place t to)).cells.each b
  edits (op.Unlink path) told b = (unlinked_kept t births (place t path)).cells.each b
  edits (op.Rmdir path) told b = (removed_kept t births (place t path)).cells.each b
  edits (op.Rename path to) told b = (renamed_kept t births path to).cells.each b
  edits (op.Write path off bytes) told b =
      place_edits t (λ all. overwritten all off (map Byte bytes)) r (λ d cells links old. written t m d cells links when off (length bytes) (λ all. overwritten all off (map Byte bytes)))
      (λ d cells links old is. written_edits t r m d cells links old when off (length bytes) (λ all. overwritten all off (map Byte bytes)) is) (place t path) told b
  edits (op.Fill path off len byte) told b =
      place_edits t (λ all. overwritten all off (replicate len (Byte byte))) r (λ d cells links old. written t m d cells links when off len (λ all. overwritten all off (replicate len (Byte byte))))
      (λ d cells links old is. written_edits t r m d cells links old when off len (λ all. overwritten all off (replicate len (Byte byte))) is) (place t path) told b
  edits (op.Truncate path len) told b =
      place_edits t (take len) r (λ d cells links old. truncated t d cells links when len) (λ d cells links old is. truncated_edits t r d cells links old when len is) (place t path) told b
  edits (op.Read path off len) told b = (looked_kept t (op.Read path off len) n when m refl).cells.each b
  edits (op.Stat path) told b = (looked_kept t (op.Stat path) n when m refl).cells.each b
  edits (op.List path) told b = (looked_kept t (op.List path) n when m refl).cells.each b
  edits (op.Readlink path) told b = (looked_kept t (op.Readlink path) n when m refl).cells.each b
  edits (op.Time path) told b = (looked_kept t (op.Time path) n when m refl).cells.each b
  edits op.Sync told b = same_cells (node_at t b)
  edits op.Mount told b = same_cells (node_at t b)
  edits op.Unmount told b = same_cells (node_at t b)
  edits op.Crash told b = same_cells (node_at t b)
  edits (op.CrashAt k) told b = same_cells (node_at t b)
  edits (op.CutAt k) told b = same_cells (node_at t b)
  edits op.Stall told b = same_cells (node_at t b)

-- what an operation comes to writes a file where it does
writes_shaped : (o : Op) → Shaped (λ q. writes_file q ≡ writes_file o) o
writes_shaped (op.Create path) = λ p. refl
writes_shaped (op.Mkdir path) = λ p. refl
writes_shaped (op.Symlink path target) = λ p. refl
writes_shaped (op.Link path to) = λ p q. refl
writes_shaped (op.Unlink path) = λ p. refl
writes_shaped (op.Rmdir path) = λ p. refl
writes_shaped (op.Rename path to) = λ p q. refl
writes_shaped (op.Write path off bytes) = λ p. refl
writes_shaped (op.Fill path off len byte) = λ p. refl
writes_shaped (op.Truncate path len) = λ p. refl
writes_shaped (op.Read path off len) = λ p. refl
writes_shaped (op.Stat path) = λ p. refl
writes_shaped (op.List path) = λ p. refl
writes_shaped (op.Readlink path) = λ p. refl
writes_shaped (op.Time path) = λ p. refl
writes_shaped op.Sync = refl
writes_shaped op.Mount = refl
writes_shaped op.Unmount = refl
writes_shaped op.Crash = refl
writes_shaped (op.CrashAt k) = refl
writes_shaped (op.CutAt k) = refl
writes_shaped op.Stall = refl

pub resolved_writes : (t : FileTree) (o : Op) → IsOf (λ q. writes_file q ≡ writes_file o) (resolved t o).step
resolved_writes t o = resolved_is (λ q. writes_file q ≡ writes_file o) t o (writes_shaped o)
