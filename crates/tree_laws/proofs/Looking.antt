-- Two trees that agree where an operation touches: it looks in the same directories, and touches the same further node.
use Rattle.std.proofs.Common.{ℕ, ◌≡◌, Bool, true, false, not, Option, Some, None, List, [], ◌∷◌, ◌++◌, cond, refl, sym, ◌∙◌, ap, ap₂, subst, is_some}
use Rattle.std.proofs.lemmas.Bool.{false≢true}
use Rattle.frang_base.specs.declared.op.Op.{Op}
use Rattle.frang_base.specs.declared.op.Op.TheVariants as op
use Rattle.frang_base.specs.declared.reply.Reply.{Reply}
use Rattle.frang_base.specs.declared.reply.Reply.TheVariants as reply
use Rattle.tree_definitions.specs.declared.node.Node.{Node}
use Rattle.tree_definitions.specs.declared.node.Node.TheVariants.{Dir, File, Link}
use Rattle.tree_definitions.specs.Entries.{Entries, entry_at}
use Rattle.tree_definitions.specs.Tree.{FileTree, node_at}
use Rattle.tree_definitions.specs.Place.{Place, Root, Taken, Free, Nowhere, place, place_by, place_in, place_from, below, walked}
use Rattle.tree_definitions.specs.Apply.{Plain, Applied, apply, renamed_from}
use Rattle.tree_definitions.specs.History.{agrees}
use Rattle.tree_definitions.specs.Touched.{looked_in, further, reached, reached_if, then_walked, any_node, dir_node, file_node, link_node}
use Rattle.tree_laws.specs.Touching.{Kind, OfDirectory, OfFile, OfLink, kind_of}
use Rattle.tree_laws.proofs.Likeness.{Likeness, Near}
use Rattle.tree_laws.proofs.Places.{Stands, place_stands, dir_is_some, is_in}
use Rattle.tree_laws.proofs.Asking.{Grounds}
use Rattle.tree_laws.proofs.Applying.{AgreeOn, walks, in_left, in_right, then_after_any}

-- tests that go by the kind alone
abbrev any_kind : Kind → Bool
any_kind k = true

abbrev dir_kind : Kind → Bool
dir_kind OfDirectory = true
dir_kind OfFile = false
dir_kind OfLink = false

abbrev file_kind : Kind → Bool
file_kind OfDirectory = false
file_kind OfFile = true
file_kind OfLink = false

abbrev link_kind : Kind → Bool
link_kind OfDirectory = false
link_kind OfFile = false
link_kind OfLink = true

dir_by : (x : Node) → dir_node x ≡ dir_kind (kind_of x)
dir_by (Dir es n) = refl
dir_by (File cells links when) = refl
dir_by (Link target links) = refl

plain_by : (x : Node) → not (dir_node x) ≡ not (dir_kind (kind_of x))
plain_by x = ap not (dir_by x)

file_by : (x : Node) → file_node x ≡ file_kind (kind_of x)
file_by (Dir es n) = refl
file_by (File cells links when) = refl
file_by (Link target links) = refl

link_by : (x : Node) → link_node x ≡ link_kind (kind_of x)
link_by (Dir es n) = refl
link_by (File cells links when) = refl
link_by (Link target links) = refl

-- a walk is refused as `noent` or `notdir`
abbrev pub is_walk_reply : Reply → Bool
is_walk_reply reply.NoEnt = true
is_walk_reply reply.NotDir = true
is_walk_reply _ = false

abbrev pub refused_well : Place → Bool
refused_well (Nowhere r) = is_walk_reply r
refused_well _ = true

well_by : (d : ℕ) (es : Entries) (n : ℕ) (name : List ℕ) (o : Option ℕ) → refused_well (place_by d es n name o) ≡ true
well_by d es n name (Some b) = refl
well_by d es n name None = refl

well_in : (o : Option Node) (d : ℕ) (name : List ℕ) → refused_well (place_in o d name) ≡ true
well_in (Some (Dir es n)) d name = well_by d es n name (entry_at es name)
well_in (Some (File cells links when)) d name = refl
well_in (Some (Link target links)) d name = refl
well_in None d name = refl

well_below : (p : Place) (next : ℕ → Place) → refused_well p ≡ true → ((c : ℕ) → refused_well (next c) ≡ true) → refused_well (below p next) ≡ true
well_below Root next h each = each 0
well_below (Taken d es n name c) next h each = each c
well_below (Free d es n name) next h each = refl
well_below (Nowhere r) next h each = h

pub well_refused : (tree : FileTree) (b : ℕ) (path : List (List ℕ)) → refused_well (place_from tree b path) ≡ true
well_refused tree b [] = refl
well_refused tree b (name ∷ []) = well_in (node_at tree b) b name
well_refused tree b (name ∷ next ∷ names) = well_below (place_in (node_at tree b) b name) (λ c. place_from tree c (next ∷ names)) (well_in (node_at tree b) b name) (λ c. well_refused tree c (next ∷ names))

-- such a refusal isn't `notempty`
not_told : (q : Reply) → is_walk_reply q ≡ true → agrees (Plain q) reply.NotEmpty ≡ true → ⊥
not_told reply.NoEnt w z = false≢true z
not_told reply.NotDir w z = false≢true z
not_told _ w z = false≢true w

module _ (L : Likeness) (one two : FileTree) (g : Grounds one two) where
  reached_alike : (wanted : Node → Bool) (test : Kind → Bool) → ((x : Node) → wanted x ≡ test (kind_of x)) → (b : ℕ) (o q : Option Node) → node_at one b ≡ o → node_at two b ≡ q → is_some o ≡ true → is_some q ≡ true → reached_if wanted b q ≡ reached_if wanted b o
  reached_alike wanted test by b (Some x) (Some y) i j s t = ap (λ c. cond c (b ∷ []) []) (by y ∙ ap test (sym (g.kinds b x y i j)) ∙ sym (by x))
  reached_alike wanted test by b None q i j s t = absurd (false≢true s)
  reached_alike wanted test by b (Some x) None i j s t = absurd (false≢true t)

  reached_at : (wanted : Node → Bool) (test : Kind → Bool) → ((x : Node) → wanted x ≡ test (kind_of x)) → (p : Place) → Stands one p → Stands two p → reached two wanted p ≡ reached one wanted p
  reached_at wanted test by Root s t = reached_alike wanted test by 0 (node_at one 0) (node_at two 0) refl refl (dir_is_some (node_at one 0) g.root_one) (dir_is_some (node_at two 0) g.root_two)
  reached_at wanted test by (Taken dir es n name b) s t = reached_alike wanted test by b (node_at one b) (node_at two b) refl refl (g.alive_one dir es n name b s.0 s.1) (g.alive_two dir es n name b t.0 t.1)
  reached_at wanted test by (Free dir es n name) s t = refl
  reached_at wanted test by (Nowhere r) s t = refl

  module _ (path : List (List ℕ)) (same : (b : ℕ) → is_in b (walked one path) ≡ true → Near L one two b) where
    walked_same : walked two path ≡ walked one path
    walked_same = (walks L one two g path same).walked

    reached_same : (wanted : Node → Bool) (test : Kind → Bool) → ((x : Node) → wanted x ≡ test (kind_of x)) → reached two wanted (place two path) ≡ reached one wanted (place one path)
    reached_same wanted test by =
        let e = (walks L one two g path same).place in
        ap (reached two wanted) e ∙ reached_at wanted test by (place one path) (place_stands one path) (subst (Stands two) e (place_stands two path))

  -- what is walked after what was reached
  then_same : (bs : List ℕ) (to : List (List ℕ)) → ((b : ℕ) → is_in b (then_walked one bs to) ≡ true → Near L one two b) → then_walked two bs to ≡ then_walked one bs to
  then_same [] to same = refl
  then_same (b ∷ bs) to same = walked_same to same

  module _ (r : Reply) (a : Applied) where
    pub looked_same : (o : Op) → AgreeOn L one two o r a → looked_in two o ≡ looked_in one o
    looked_same (op.Create path) h = walked_same path h.looked
    looked_same (op.Mkdir path) h = walked_same path h.looked
    looked_same (op.Symlink path target) h = walked_same path h.looked
    looked_same (op.Link path to) h =
        let bs = reached one (λ n. not (dir_node n)) (place one path) in
        let first = λ (b : ℕ) (i : is_in b (walked one path) ≡ true). h.looked b (in_left b (walked one path) (then_walked one bs to) i) in
        ap₂ (λ w v. w ++ v) (walked_same path first)
        (ap (λ l. then_walked two l to) (reached_same path first (λ n. not (dir_node n)) (λ k. not (dir_kind k)) plain_by) ∙ then_same bs to (λ b i. h.looked b (in_right b (walked one path) (then_walked one bs to) i)))
    looked_same (op.Unlink path) h = walked_same path h.looked
    looked_same (op.Rmdir path) h = walked_same path h.looked
    looked_same (op.Rename [] to) h = refl
    looked_same (op.Rename (n ∷ ns) []) h = refl
    looked_same (op.Rename (n ∷ ns) (m ∷ ms)) h =
        let bs = reached one any_node (place one (n ∷ ns)) in
        let first = λ (b : ℕ) (i : is_in b (walked one (n ∷ ns)) ≡ true). h.looked b (in_left b (walked one (n ∷ ns)) (then_walked one bs (m ∷ ms)) i) in
        ap₂ (λ w v. w ++ v) (walked_same (n ∷ ns) first)
        (ap (λ l. then_walked two l (m ∷ ms)) (reached_same (n ∷ ns) first any_node any_kind (λ x. refl)) ∙ then_same bs (m ∷ ms) (λ b i. h.looked b (in_right b (walked one (n ∷ ns)) (then_walked one bs (m ∷ ms)) i)))
    looked_same (op.Write path off bytes) h = walked_same path h.looked
    looked_same (op.Fill path off len byte) h = walked_same path h.looked
    looked_same (op.Truncate path len) h = walked_same path h.looked
    looked_same (op.Read path off len) h = walked_same path h.looked
    looked_same (op.Stat path) h = walked_same path h.looked
    looked_same (op.List path) h = walked_same path h.looked
    looked_same (op.Readlink path) h = walked_same path h.looked
    looked_same (op.Time path) h = walked_same path h.looked
    looked_same op.Sync h = refl
    looked_same op.Mount h = refl
    looked_same op.Unmount h = refl
    looked_same op.Crash h = refl
    looked_same (op.CrashAt k) h = refl
    looked_same (op.CutAt k) h = refl
    looked_same op.Stall h = refl

  -- a rename that is answered `notempty` has walked both its paths
  module _ (n : List ℕ) (ns : List (List ℕ)) (m : List ℕ) (ms : List (List ℕ)) where
    second_walk : (h : AgreeOn L one two (op.Rename (n ∷ ns) (m ∷ ms)) reply.NotEmpty (renamed_from one (place one (n ∷ ns)) (m ∷ ms))) → (p : Place) → Stands one p → refused_well p ≡ true → p ≡ place one (n ∷ ns)
        → (b : ℕ) → is_in b (walked one (m ∷ ms)) ≡ true → Near L one two b
    second_walk h Root s w e b i = absurd (false≢true (subst (λ p. agrees (renamed_from one p (m ∷ ms)).answer reply.NotEmpty ≡ true) (sym e) h.told))
    second_walk h (Free dir es k name) s w e b i = absurd (false≢true (subst (λ p. agrees (renamed_from one p (m ∷ ms)).answer reply.NotEmpty ≡ true) (sym e) h.told))
    second_walk h (Nowhere q) s w e b i = absurd (not_told q w (subst (λ p. agrees (renamed_from one p (m ∷ ms)).answer reply.NotEmpty ≡ true) (sym e) h.told))
    second_walk h (Taken dir es k name c) s w e b i =
        h.looked b (in_right b (walked one (n ∷ ns)) (then_walked one (reached one any_node (place one (n ∷ ns))) (m ∷ ms))
        (subst (λ p. is_in b (then_walked one (reached one any_node p) (m ∷ ms)) ≡ true) e
        (subst (λ l. is_in b l ≡ true) (sym (then_after_any one c (node_at one c) (m ∷ ms) (g.alive_one dir es k name c s.0 s.1))) i)))

  rename_further : (path to : List (List ℕ)) (birth when k : ℕ) → AgreeOn L one two (op.Rename path to) reply.NotEmpty (apply one (op.Rename path to) birth when k) → reached two dir_node (place two to) ≡ reached one dir_node (place one to)
  rename_further [] to birth when k h = absurd (false≢true h.told)
  rename_further (n ∷ ns) [] birth when k h = absurd (false≢true h.told)
  rename_further (n ∷ ns) (m ∷ ms) birth when k h = reached_same (m ∷ ms) (second_walk n ns m ms h (place one (n ∷ ns)) (place_stands one (n ∷ ns)) (well_refused one 0 (n ∷ ns)) refl) dir_node dir_kind dir_by

  link_further : (path to : List (List ℕ)) (r : Reply) → ((b : ℕ) → is_in b (walked one path) ≡ true → Near L one two b) → further two (op.Link path to) r ≡ further one (op.Link path to) r
  link_further path to reply.MLink same = reached_same path same any_node any_kind (λ x. refl)
  link_further path to reply.DirFull same = reached_same path same any_node any_kind (λ x. refl)
  link_further path to reply.NoDirBlock same = reached_same path same any_node any_kind (λ x. refl)
  link_further path to _ same = refl

  rename_further_by : (path to : List (List ℕ)) (r : Reply) (birth when k : ℕ) → AgreeOn L one two (op.Rename path to) r (apply one (op.Rename path to) birth when k) → further two (op.Rename path to) r ≡ further one (op.Rename path to) r
  rename_further_by path to reply.NotEmpty birth when k h = rename_further path to birth when k h
  rename_further_by path to _ birth when k h = refl

  pub further_same : (o : Op) (r : Reply) (birth when k : ℕ) → AgreeOn L one two o r (apply one o birth when k) → further two o r ≡ further one o r
  further_same (op.Create path) r birth when k h = refl
  further_same (op.Mkdir path) r birth when k h = refl
  further_same (op.Symlink path target) r birth when k h = refl
  further_same (op.Link path to) r birth when k h = link_further path to r (λ b i. h.looked b (in_left b (walked one path) (then_walked one (reached one (λ n. not (dir_node n)) (place one path)) to) i))
  further_same (op.Unlink path) r birth when k h = refl
  further_same (op.Rmdir []) r birth when k h = refl
  further_same (op.Rmdir (n ∷ ns)) r birth when k h = reached_same (n ∷ ns) h.looked dir_node dir_kind dir_by
  further_same (op.Rename path to) r birth when k h = rename_further_by path to r birth when k h
  further_same (op.Write path off bytes) r birth when k h = reached_same path h.looked file_node file_kind file_by
  further_same (op.Fill path off len byte) r birth when k h = reached_same path h.looked file_node file_kind file_by
  further_same (op.Truncate path len) r birth when k h = reached_same path h.looked file_node file_kind file_by
  further_same (op.Read path off len) r birth when k h = reached_same path h.looked file_node file_kind file_by
  further_same (op.Stat path) r birth when k h = reached_same path h.looked any_node any_kind (λ x. refl)
  further_same (op.List path) r birth when k h = reached_same path h.looked dir_node dir_kind dir_by
  further_same (op.Readlink path) r birth when k h = reached_same path h.looked link_node link_kind link_by
  further_same (op.Time path) r birth when k h = reached_same path h.looked any_node any_kind (λ x. refl)
  further_same op.Sync r birth when k h = refl
  further_same op.Mount r birth when k h = refl
  further_same op.Unmount r birth when k h = refl
  further_same op.Crash r birth when k h = refl
  further_same (op.CrashAt n) r birth when k h = refl
  further_same (op.CutAt n) r birth when k h = refl
  further_same op.Stall r birth when k h = refl
