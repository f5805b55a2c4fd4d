-- What is left of a list without the entries of a server, none of which is seen, does what it did in the whole list.
use Rattle.std.proofs.Common.{ℕ, ◌≡◌, ◌+◌, ◌==◌, Bool, true, false, not, ◌&&◌, ◌||◌, List, [], ◌∷◌, ◌++◌, cond, refl, sym, ◌∙◌, ap, subst, nat_eq, eqb-true}
use Rattle.std.specs.List.{list_any}
use Rattle.std.proofs.Math.Bool.{or-false}
use Rattle.std.proofs.lemmas.Bool.{and_parts, and_from, or_parts, not-true, or_from, false_from_ne_true}
use Rattle.std.proofs.lemmas.Map.Keys.{IsDistinct-tail}
use Rattle.tree_definitions.specs.declared.history.Entry.{Entry}
use Rattle.tree_definitions.specs.Tree.{FileTree, node_at}
use Rattle.tree_definitions.specs.Perform.{resolved}
use Rattle.tree_definitions.specs.History.{applied, is_answer, may_tell, leaves_tree, fits, tree_after, after_step, Settled, Stays, InDoubt, CellRun, doubted, after, after_all, grows, legal_from}
use Rattle.tree_definitions.specs.Touched.{touches, changes, changed, differs, visited, births, shape_of, changes_shape, is_ok, touched_later, refused_later, changes_room, is_seen}
use Rattle.tree_definitions.specs.Removal.{writes_file}
use Rattle.tree_definitions.specs.WellFormed.{IsWellFormed, AreNew, numbers_of}
use Rattle.tree_laws.specs.Touching.{Kind, HasKinds}
use Rattle.tree_laws.specs.Kinds.{MakeToldKinds, kinds_along}
use Rattle.tree_laws.specs.Removing.{without, none_seen}
use Rattle.tree_laws.proofs.Places.{is_in}
use Rattle.tree_laws.proofs.Likeness.{Near, like_same}
use Rattle.tree_laws.proofs.Vagueness.{vague, vague_nodes_trans, doubted_near}
use Rattle.tree_laws.proofs.Joint.{joint_near}
use Rattle.tree_laws.proofs.FreshLaws.{walkable}
use Rattle.tree_laws.proofs.StepsLaws.{after_keeps, are_new_after}
use Rattle.tree_laws.proofs.KindsLaws.{kinds_agree, after_keeps_kinds, kinds_can_be_told}
use Rattle.tree_laws.proofs.RemovingLaws.{unseen_can_go}
use Rattle.tree_laws.specs.Leaving.{DoesTheSame, changed_by, WhatIsLeftDoesTheSame}
use Rattle.tree_laws.proofs.Changed.{changed_in, any_in}
use Rattle.tree_laws.proofs.OwnReplies.{answers_are_own}
use Rattle.tree_laws.proofs.Sharper.{sharper_after}
use Rattle.tree_laws.proofs.Doing.{afterwards, changes_grow, changes_alike, only_writes, recorded_alike, touches_same}

-- one node of some
touched_one : (server : ℕ) (nodes : List ℕ) (b : ℕ) → is_in b nodes ≡ true → (t : FileTree) (list : List Settled) → touched_later server nodes t list ≡ false → touched_later server (b ∷ []) t list ≡ false
touched_one server nodes b i t [] h = refl
touched_one server nodes b i t (InDoubt runs ∷ rest) h = touched_one server nodes b i (after t (InDoubt runs)) rest h
touched_one server nodes b i t (Stays e ∷ rest) h =
    let p = or_parts (not (e.server.0 == server) && list_any (touches t e) nodes) (touched_later server nodes (after t (Stays e)) rest) h in
    or_from (not (e.server.0 == server) && list_any (touches t e) (b ∷ [])) (touched_later server (b ∷ []) (after t (Stays e)) rest)
    (false_from_ne_true (not (e.server.0 == server) && list_any (touches t e) (b ∷ [])) (λ h. let z : true ≡ false = sym (more h) ∙ p.0 in cc)) (touched_one server nodes b i (after t (Stays e)) rest p.1)
  where
    more : not (e.server.0 == server) && list_any (touches t e) (b ∷ []) ≡ true → not (e.server.0 == server) && list_any (touches t e) nodes ≡ true
    more h =
        let p = and_parts (not (e.server.0 == server)) (list_any (touches t e) (b ∷ [])) h in
        and_from (not (e.server.0 == server)) (list_any (touches t e) nodes) p.0 (any_in (touches t e) b nodes i (sym (or-false (touches t e b)) ∙ p.1))

-- ---- an entry that stands in both trees
standing : (t : FileTree) (ever : ℕ) (e : Entry) → leaves_tree e.op e.reply ≡ false → fits t ever e ≡ true → is_answer t e ≡ true
standing t ever e l h = go (leaves_tree e.op e.reply) l h
  where
    go : (l : Bool) → l ≡ false → (is_answer t e && may_tell t ever e.reply) || l ≡ true → is_answer t e ≡ true
    go true i h = absurd (cc)
    go false i h = first (is_answer t e) (may_tell t ever e.reply) h
      where
        first : (a b : Bool) → (a && b) || false ≡ true → a ≡ true
        first true b h = refl
        first false b h = h

no_answer : (t : FileTree) (e : Entry) → leaves_tree e.op e.reply ≡ true → is_answer t e ≡ false
no_answer t e l = go (is_answer t e) refl
  where
    go : (a : Bool) → is_answer t e ≡ a → is_answer t e ≡ false
    go true i = absurd (let z : leaves_tree e.op e.reply ≡ false = answers_are_own t e i in cc)
    go false i = i

leaves_it : (t : FileTree) (e : Entry) → leaves_tree e.op e.reply ≡ true → tree_after t e ≡ t
leaves_it t e l = ap (λ l. cond l t (cond (is_answer t e) (after_step (applied t e).tree (resolved t e.op).step e.reply) t)) l

module _ (server : ℕ) (kinds : ℕ → Kind) where
  -- the whole list and what is left of it, from two trees that are the same but for doubt off the nodes that were changed
  record Apart (t u : FileTree) (gone : ℕ → Bool) (list : List Settled) : Type 0 where
    pub well_t : IsWellFormed t
    pub well_u : IsWellFormed u
    pub new_t : AreNew t list
    pub new_u : AreNew u list
    pub kinds_t : HasKinds kinds t
    pub kinds_u : HasKinds kinds u
    pub told : MakeToldKinds kinds list
    pub near : (b : ℕ) → gone b ≡ false → Near vague t u b
    pub untouched : (b : ℕ) → gone b ≡ true → touched_later server (b ∷ []) t list ≡ false
    pub unseen : none_seen server t list ≡ true
    pub ever : ℕ
    pub more : ℕ
    pub legal_t : legal_from t ever list ≡ true
    pub legal_u : legal_from u more (without server list) ≡ true

  regone : (t u : FileTree) (gone now : ℕ → Bool) (list : List Settled) → ((b : ℕ) → now b ≡ gone b) → Apart t u gone list → Apart t u now list
  regone t u gone now list same a = record {
    well_t = a.well_t;
    well_u = a.well_u;
    new_t = a.new_t;
    new_u = a.new_u;
    kinds_t = a.kinds_t;
    kinds_u = a.kinds_u;
    told = a.told;
    near = λ b h. a.near b (sym (same b) ∙ h);
    untouched = λ b h. a.untouched b (sym (same b) ∙ h);
    unseen = a.unseen;
    ever = a.ever;
    more = a.more;
    legal_t = a.legal_t;
    legal_u = a.legal_u;
  }

  doubt_apart : (t u : FileTree) (gone : ℕ → Bool) (runs : List CellRun) (rest : List Settled) → Apart t u gone (InDoubt runs ∷ rest) → Apart (doubted t runs) (doubted u runs) gone rest
  doubt_apart t u gone runs rest a = record {
    well_t = after_keeps t (InDoubt runs) rest a.well_t a.new_t;
    well_u = after_keeps u (InDoubt runs) rest a.well_u a.new_u;
    new_t = are_new_after t (InDoubt runs) rest a.well_t a.new_t;
    new_u = are_new_after u (InDoubt runs) rest a.well_u a.new_u;
    kinds_t = after_keeps_kinds kinds t (InDoubt runs) rest a.well_t a.new_t a.kinds_t a.told;
    kinds_u = after_keeps_kinds kinds u (InDoubt runs) rest a.well_u a.new_u a.kinds_u a.told;
    told = a.told;
    near = λ b h. doubted_near t u runs b (a.near b h);
    untouched = a.untouched;
    unseen = a.unseen;
    ever = a.ever + grows t (InDoubt runs);
    more = a.more + grows u (InDoubt runs);
    legal_t = a.legal_t;
    legal_u = a.legal_u;
  }

  module _ (t u : FileTree) (gone : ℕ → Bool) (e : Entry) (rest : List Settled) (a : Apart t u gone (Stays e ∷ rest)) where
    later_legal : legal_from (tree_after t e) (a.ever + grows t (Stays e)) rest ≡ true
    later_legal = (and_parts (fits t a.ever e) (legal_from (tree_after t e) (a.ever + grows t (Stays e)) rest) a.legal_t).1

    later_unseen : none_seen server (tree_after t e) rest ≡ true
    later_unseen = (and_parts (not (e.server.0 == server) || not (is_seen t e rest)) (none_seen server (tree_after t e) rest) a.unseen).1

    later_untouched : (b : ℕ) → gone b ≡ true → touched_later server (b ∷ []) (tree_after t e) rest ≡ false
    later_untouched b h = (or_parts (not (e.server.0 == server) && list_any (touches t e) (b ∷ [])) (touched_later server (b ∷ []) (after t (Stays e)) rest) (a.untouched b h)).1

    -- an entry that goes isn't seen
    gone_unseen : e.server.0 == server ≡ true → touched_later server (changed t e) (tree_after t e) rest ≡ false
    gone_unseen own =
        let s = (and_parts (not (e.server.0 == server) || not (is_seen t e rest)) (none_seen server (tree_after t e) rest) a.unseen).0 in
        let unseen : is_seen t e rest ≡ false = not-true (is_seen t e rest) (sym (ap (λ c. not c || not (is_seen t e rest)) own) ∙ s) in
        subst (λ s. touched_later s (changed t e) (tree_after t e) rest ≡ false) (eqb-true e.server.0 server own)
        (or_parts (touched_later e.server.0 (changed t e) (after t (Stays e)) rest) (changes_room t e && refused_later e.server.0 rest) unseen).0

    gone_apart : e.server.0 == server ≡ true → Apart (tree_after t e) u (λ b. gone b || changes t e b) rest
    gone_apart own = record {
      well_t = after_keeps t (Stays e) rest a.well_t a.new_t;
      well_u = a.well_u;
      new_t = are_new_after t (Stays e) rest a.well_t a.new_t;
      new_u = record { absent = a.new_u.absent.1; distinct = IsDistinct-tail nat_eq e.number.0 (numbers_of rest) a.new_u.distinct };
      kinds_t = after_keeps_kinds kinds t (Stays e) rest a.well_t a.new_t a.kinds_t a.told;
      kinds_u = a.kinds_u;
      told = a.told.1;
      near = λ b h. let p = or_parts (gone b) (changes t e b) h in vague_nodes_trans (node_at (tree_after t e) b) (node_at t b) (node_at u b) (sharper_after t e b p.1) (a.near b p.0);
      untouched = λ b h. either (gone b) (changes t e b) (touched_later server (b ∷ []) (tree_after t e) rest) (later_untouched b)
          (λ i. touched_one server (changed t e) b (changed_in t e b i) (tree_after t e) rest (gone_unseen own)) h;
      unseen = later_unseen;
      ever = a.ever + grows t (Stays e);
      more = a.more;
      legal_t = later_legal;
      legal_u = subst (λ c. legal_from u a.more (cond (not c) (Stays e ∷ without server rest) (without server rest)) ≡ true) own a.legal_u;
    }
      where
        either : (x y z : Bool) → (x ≡ true → z ≡ false) → (y ≡ true → z ≡ false) → x || y ≡ true → z ≡ false
        either true y z f g h = f refl
        either false y z f g h = g h

    -- an entry that stays
    module _ (other : e.server.0 == server ≡ false) where
      touched_kept : (b : ℕ) → touches t e b ≡ true → gone b ≡ false
      touched_kept b h = go (gone b) refl
        where
          both : (c : Bool) → c ≡ false → not c && (true || false) ≡ true
          both true i = cc
          both false i = refl

          go : (g : Bool) → gone b ≡ g → gone b ≡ false
          go false i = i
          go true i =
              let quiet = (or_parts (not (e.server.0 == server) && list_any (touches t e) (b ∷ [])) (touched_later server (b ∷ []) (after t (Stays e)) rest) (a.untouched b i)).0 in
              let loud : not (e.server.0 == server) && list_any (touches t e) (b ∷ []) ≡ true = ap (λ z. not (e.server.0 == server) && (z || false)) h ∙ both (e.server.0 == server) other in
              absurd (let z : true ≡ false = sym loud ∙ quiet in cc)

      near_touched : (b : ℕ) → touches t e b ≡ true → Near vague t u b
      near_touched b h = a.near b (touched_kept b h)

      stays_legal : (fits u a.more e ≡ true) × (legal_from (tree_after u e) (a.more + grows u (Stays e)) (without server rest) ≡ true)
      stays_legal = and_parts (fits u a.more e) (legal_from (tree_after u e) (a.more + grows u (Stays e)) (without server rest))
          (subst (λ c. legal_from u a.more (cond (not c) (Stays e ∷ without server rest) (without server rest)) ≡ true) other a.legal_u)

      fits_t : fits t a.ever e ≡ true
      fits_t = (and_parts (fits t a.ever e) (legal_from (tree_after t e) (a.ever + grows t (Stays e)) rest) a.legal_t).0

      stays_apart : Apart (tree_after t e) (tree_after u e) gone rest
      stays_apart = record {
        well_t = after_keeps t (Stays e) rest a.well_t a.new_t;
        well_u = after_keeps u (Stays e) rest a.well_u a.new_u;
        new_t = are_new_after t (Stays e) rest a.well_t a.new_t;
        new_u = are_new_after u (Stays e) rest a.well_u a.new_u;
        kinds_t = after_keeps_kinds kinds t (Stays e) rest a.well_t a.new_t a.kinds_t a.told;
        kinds_u = after_keeps_kinds kinds u (Stays e) rest a.well_u a.new_u a.kinds_u a.told;
        told = a.told.1;
        near = λ b h. go (leaves_tree e.op e.reply) refl b (a.near b h);
        untouched = later_untouched;
        unseen = later_unseen;
        ever = a.ever + grows t (Stays e);
        more = a.more + grows u (Stays e);
        legal_t = later_legal;
        legal_u = stays_legal.1;
      }
        where
          go : (l : Bool) → leaves_tree e.op e.reply ≡ l → (b : ℕ) → Near vague t u b → Near vague (tree_after t e) (tree_after u e) b
          go true l b n = subst (λ z. Near vague z (tree_after u e) b) (sym (leaves_it t e l)) (subst (λ z. Near vague t z b) (sym (leaves_it u e l)) n)
          go false l b n = joint_near vague t u (tree_after t e) (tree_after u e)
              (afterwards t u e (walkable t a.well_t) (walkable u a.well_u) (kinds_agree kinds t u a.kinds_t a.kinds_u) a.new_t.absent.0 a.new_u.absent.0 (standing t a.ever e l fits_t) (standing u a.more e l stays_legal.0) near_touched) b n

      does_the_same : DoesTheSame t u e
      does_the_same = go (leaves_tree e.op e.reply) refl
        where
          no_change : (z : FileTree) (b : ℕ) → is_answer z e ≡ false → changes z e b ≡ false
          no_change z b i = ap (λ c. c && differs z (applied z e).tree b) i

          no_shape : (z : FileTree) → is_answer z e ≡ false → changes_shape z e ≡ false
          no_shape z i = ap (λ c. c && list_any (differs (shape_of z) (shape_of (applied z e).tree)) (births z (applied z e).tree)) i

          no_touch : (z : FileTree) (b : ℕ) → is_answer z e ≡ false → touches z e b ≡ false
          no_touch z b i = ap (λ c. c && (changes z e b || list_any (λ d. d == b) ((resolved z e.op).trail ++ visited z (resolved z e.op).step e.reply))) i

          go : (l : Bool) → leaves_tree e.op e.reply ≡ l → DoesTheSame t u e
          go true l =
              let i = no_answer t e l in
              let j = no_answer u e l in
              record {
                answered = i ∙ sym j;
                touched = λ b. no_touch t b i ∙ sym (no_touch u b j);
                changed = λ b h. absurd (let z : true ≡ false = sym h ∙ no_change t b i in cc);
                changed_alike = λ b s. no_change t b i ∙ sym (no_change u b j);
                only_writes = λ b h k. absurd (let z : true ≡ false = sym k ∙ no_change u b j in cc);
                recorded = ap (λ c. c || (writes_file e.op && is_ok e.reply)) (no_shape t i ∙ sym (no_shape u j));
              }
          go false l =
              let i = standing t a.ever e l fits_t in
              let j = standing u a.more e l stays_legal.0 in
              let w = walkable t a.well_t in
              let v = walkable u a.well_u in
              let k = kinds_agree kinds t u a.kinds_t a.kinds_u in
              record {
                answered = i ∙ sym j;
                touched = touches_same t u e w v k a.new_t.absent.0 a.new_u.absent.0 i j near_touched;
                changed = changes_grow t u e w v k a.new_t.absent.0 a.new_u.absent.0 i j near_touched;
                changed_alike = changes_alike t u e w v k a.new_t.absent.0 a.new_u.absent.0 i j near_touched;
                only_writes = only_writes t u e w v k a.new_t.absent.0 a.new_u.absent.0 i j near_touched;
                recorded = recorded_alike t u e w v k a.new_t.absent.0 a.new_u.absent.0 i j near_touched;
              }

  -- along a list
  along : (before tail : List Settled) (t u : FileTree) (gone : ℕ → Bool) → Apart t u gone (before ++ tail) → Apart (after_all t before) (after_all u (without server before)) (λ b. gone b || changed_by server t before b) tail
  along [] tail t u gone a = regone t u gone (λ b. gone b || false) tail (λ b. or-false (gone b)) a
  along (InDoubt runs ∷ before) tail t u gone a = along before tail (doubted t runs) (doubted u runs) gone (doubt_apart t u gone runs (before ++ tail) a)
  along (Stays e ∷ before) tail t u gone a = go (e.server.0 == server) refl
      (λ own. along before tail (tree_after t e) u (λ b. gone b || changes t e b) (gone_apart t u gone e (before ++ tail) a own))
      (λ other. along before tail (tree_after t e) (tree_after u e) gone (stays_apart t u gone e (before ++ tail) a other))
    where
      with_own : (g o c d : Bool) → o ≡ true → g || ((o && c) || d) ≡ (g || c) || d
      with_own true o c d i = refl
      with_own false true c d i = refl
      with_own false false c d i = absurd (cc)

      without_own : (g o c d : Bool) → o ≡ false → g || ((o && c) || d) ≡ g || d
      without_own g false c d i = refl
      without_own g true c d i = absurd (cc)

      go : (c : Bool) → e.server.0 == server ≡ c
          → (c ≡ true → Apart (after_all (tree_after t e) before) (after_all u (without server before)) (λ b. (gone b || changes t e b) || changed_by server (tree_after t e) before b) tail)
          → (c ≡ false → Apart (after_all (tree_after t e) before) (after_all (tree_after u e) (without server before)) (λ b. gone b || changed_by server (tree_after t e) before b) tail)
          → Apart (after_all (tree_after t e) before) (after_all u (cond (not c) (Stays e ∷ without server before) (without server before))) (λ b. gone b || ((e.server.0 == server && changes t e b) || changed_by server (tree_after t e) before b)) tail
      go true i own other = regone (after_all (tree_after t e) before) (after_all u (without server before)) (λ b. (gone b || changes t e b) || changed_by server (tree_after t e) before b) (λ b. gone b || ((e.server.0 == server && changes t e b) || changed_by server (tree_after t e) before b)) tail
          (λ b. with_own (gone b) (e.server.0 == server) (changes t e b) (changed_by server (tree_after t e) before b) i) (own refl)
      go false i own other = regone (after_all (tree_after t e) before) (after_all (tree_after u e) (without server before)) (λ b. gone b || changed_by server (tree_after t e) before b) (λ b. gone b || ((e.server.0 == server && changes t e b) || changed_by server (tree_after t e) before b)) tail
          (λ b. without_own (gone b) (e.server.0 == server) (changes t e b) (changed_by server (tree_after t e) before b) i) (other refl)

pub what_is_left_does_the_same : WhatIsLeftDoesTheSame
what_is_left_does_the_same server t ever list w new legal unseen room =
    record {
      entries = λ before e later splits other. let p = place before (Stays e ∷ later) splits in
          does_the_same server kinds (after_all t before) (after_all t (without server before)) (changed_by server t before) e later p other;
      apart = λ before e later splits other b h. let p = place before (Stays e ∷ later) splits in
          touched_kept server kinds (after_all t before) (after_all t (without server before)) (changed_by server t before) e later p other b h;
      trees = λ before later splits b h. (place before later splits).near b h;
    }
  where
    kinds : ℕ → Kind
    kinds = kinds_along t list

    start : Apart server kinds t t (λ b. false) list
    start =
        let k = kinds_can_be_told t list new in
        record {
          well_t = w;
          well_u = w;
          new_t = new;
          new_u = new;
          kinds_t = k.0;
          kinds_u = k.0;
          told = k.1;
          near = λ b h. like_same vague (node_at t b);
          untouched = λ b h. absurd (let z : false ≡ true = h in cc);
          unseen = unseen;
          ever = ever;
          more = ever;
          legal_t = legal;
          legal_u = unseen_can_go server t ever list w new legal unseen room;
        }

    place : (before later : List Settled) → list ≡ before ++ later → Apart server kinds (after_all t before) (after_all t (without server before)) (changed_by server t before) later
    place before later splits = along server kinds before later t t (λ b. false) (subst (Apart server kinds t t (λ b. false)) splits start)
