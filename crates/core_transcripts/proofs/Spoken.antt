-- What is told of all servers once a line is said: an answer, a line of a server's life, a line of the tree or the end.
use Rattle.std.proofs.Common.{ℕ, suc, ◌≡◌, ◌≤◌, ◌⊎◌, inl, inr, Bool, true, false, not, ◌&&◌, ◌||◌, if◌then◌else◌, IsTrue, List, [], ◌∷◌, ◌++◌, Some, filter, length, nat_eq, refl, sym, ap, ◌∙◌, subst, arith}
use Rattle.std.proofs.lemmas.Bool.{false≢true, or_parts, eqb-true, eq-eqb, or_from}
use Rattle.std.specs.List.{list_any}
use mathlib.Core.Bool.{or-false}
use Rattle.frang_base.specs.Functions.{put}
use Rattle.frang_base.specs.declared.op.What.{What}
use Rattle.frang_base.specs.declared.op.What.TheVariants.{Server, Host}
use Rattle.frang_base.specs.declared.reply.Reply.{Reply}
use Rattle.frang_base.specs.declared.said.Said.{Said}
use Rattle.frang_base.specs.declared.said.Said.TheVariants as said
use Rattle.frang_base.specs.declared.script.Line.{Line}
use Rattle.tree_definitions.specs.Live.{line_of}
use Rattle.tree_definitions.specs.Touched.{is_mounted}
use Rattle.tree_definitions.specs.Transcript.{Faults, ServerState, after_asked, after_line, after_said, answers, dirty_after, halts, is_answer_of, is_change_line, is_end, is_halt, is_halt_line, is_node, is_over, lines_for, may_be_dirty, state_of}
use Rattle.core_definitions.specs.Scripts.{Marks, all_answered, host_party, hosts_answered, next_line}
use Rattle.core_definitions.specs.Servers.{is_off}
use Rattle.core_definitions.specs.Effects.{id_of}
use Rattle.core_transcripts.specs.Transcripts.{are_apart}
use Rattle.core_transcripts.proofs.Fits.{Fits, Key, Rises, rises}
use Rattle.core_transcripts.proofs.Fitting.{AtRest, Fitting, key_works, told_of}
use Rattle.core_transcripts.proofs.Numbering.{AreFirst, OfNext, all_is_none, answered_more, answered_others, line_is, more_marked, next_by_count, numbers_turn, of_next}
use Rattle.core_transcripts.proofs.Saying.{any_push, count_push, dirty_push, length_push, state_push}

one_more : (n : ℕ) → n ≤ suc n
one_more n = omega arith

-- ---- over

-- nothing is over, one line later
pub over_push : (script : List Line) (saids : List Said) (x : Said) → is_over script saids ≡ false → halts script x ≡ false → is_end x ≡ false → is_over script (saids ++ x ∷ []) ≡ false
over_push script saids x e h n =
    or_from (list_any (halts script) (saids ++ x ∷ [])) (list_any is_end (saids ++ x ∷ []))
    (any_push (halts script) saids x ∙ or_from (list_any (halts script) saids) (halts script x) (or_parts (list_any (halts script) saids) (list_any is_end saids) e).0 h)
    (any_push is_end saids x ∙ or_from (list_any is_end saids) (is_end x) (or_parts (list_any (halts script) saids) (list_any is_end saids) e).1 n)

-- ---- an answer

module _ (script : List Line) (apart : IsTrue (are_apart script)) (f : Faults) (stay : (early late server : ℕ) → early ≤ late → f early server ≡ true → f late server ≡ true)
    (saids : List Said) (keys : ℕ → Key) (answered : Marks) (over : Bool) (shown : ℕ) (g : Fitting script f saids keys answered over shown) where
  pub rises_one : (i : ℕ) (x : Said) → f (length saids) i ≡ true → f (length (saids ++ x ∷ [])) i ≡ true
  rises_one i x h = stay (length saids) (length (saids ++ x ∷ [])) i (subst (λ n. length saids ≤ n) (sym (length_push saids x)) (one_more (length saids))) h

  module _ (a : ℕ) (l : Line) (r : Reply) (next : next_line script answered a ≡ Some l) where
    abbrev pub x : Said
    x = said.Answer (id_of a) l.number r

    abbrev pub marked : Marks
    marked = put answered l.number true

    of : OfNext script answered a l
    of = of_next script answered a l next

    is_line : line_of script l.number ≡ Some l
    is_line = line_is script l apart of.there

    -- what is told of its party
    pub own_state : state_of script f a (saids ++ x ∷ []) ≡ after_asked (state_of script f a saids) l.what r
    own_state =
        state_push script f a saids x ∙ ap (λ b. if b then after_line (state_of script f a saids) (line_of script l.number) r else state_of script f a saids) (eq-eqb a a refl)
        ∙ ap (λ o. after_line (state_of script f a saids) o r) is_line

    other_state : (i : ℕ) → nat_eq a i ≡ false → state_of script f i (saids ++ x ∷ []) ≡ state_of script f i saids
    other_state i n = state_push script f i saids x ∙ ap (λ b. if b then after_line (state_of script f i saids) (line_of script l.number) r else state_of script f i saids) n

    other_dirty : (i : ℕ) → nat_eq a i ≡ false → may_be_dirty script i (saids ++ x ∷ []) ≡ may_be_dirty script i saids
    other_dirty i n = dirty_push script i saids x ∙ ap (λ b. if b then not (is_mounted r) && (may_be_dirty script i saids || is_change_line (line_of script l.number)) else may_be_dirty script i saids) n

    count_own : length (filter (is_answer_of a) (saids ++ x ∷ [])) ≡ suc (length (filter (is_answer_of a) saids))
    count_own = count_push (is_answer_of a) saids x ∙ ap (λ b. if b then suc (length (filter (is_answer_of a) saids)) else length (filter (is_answer_of a) saids)) (eq-eqb a a refl)

    count_other : (i : ℕ) → nat_eq a i ≡ false → length (filter (is_answer_of i) (saids ++ x ∷ [])) ≡ length (filter (is_answer_of i) saids)
    count_other i n = count_push (is_answer_of i) saids x ∙ ap (λ b. if b then suc (length (filter (is_answer_of i) saids)) else length (filter (is_answer_of i) saids)) n

    firsts_other : (i : ℕ) → nat_eq a i ≡ false → AreFirst marked (lines_for i script) (length (filter (is_answer_of i) saids))
    firsts_other i n = answered_others script answered a i (length (filter (is_answer_of i) saids)) l apart next n (g.firsts i)

    firsts_then : (who : ℕ) (b : Bool) → nat_eq a who ≡ b → AreFirst marked (lines_for who script) (length (filter (is_answer_of who) (saids ++ x ∷ [])))
    firsts_then who true e =
        subst (λ w. AreFirst marked (lines_for w script) (length (filter (is_answer_of w) (saids ++ x ∷ [])))) (eqb-true a who e)
        (subst (λ k. AreFirst marked (lines_for a script) k) (sym count_own) (answered_more script answered a (length (filter (is_answer_of a) saids)) l apart next (g.firsts a)))
    firsts_then who false e = subst (λ k. AreFirst marked (lines_for who script) k) (sym (count_other who e)) (firsts_other who e)

    next_other : (i : ℕ) → nat_eq a i ≡ false → next_line script marked i ≡ next_line script answered i
    next_other i n =
        sym (next_by_count script marked i (length (filter (is_answer_of i) saids)) (firsts_other i n)) ∙ next_by_count script answered i (length (filter (is_answer_of i) saids)) (g.firsts i)

    pub hosts_then : (n : ℕ) → IsTrue (hosts_answered script answered n) → IsTrue (hosts_answered script marked n)
    hosts_then n h = more_marked _ answered l.number h

    pub all_then : IsTrue (all_answered script answered) → IsTrue (all_answered script marked)
    all_then h = more_marked script answered l.number h

    -- the others
    pub others_rise : (i : ℕ) → nat_eq a i ≡ false → Rises (told_of script f saids answered i) (told_of script f (saids ++ x ∷ []) marked i)
    others_rise i n = record {
      state = other_state i n;
      dirty = λ h. subst (λ d. IsTrue d) (sym (other_dirty i n)) h;
      faulted = λ h. rises_one i x h;
      next = next_other i n;
      hosts = hosts_then;
      all = all_then;
    }

    marks_then : (n : ℕ) → list_any (answers n) (saids ++ x ∷ []) ≡ marked n
    marks_then n = any_push (answers n) saids x ∙ ap (λ b. b || nat_eq l.number n) (g.marks n) ∙ go (answered n) (nat_eq l.number n) (nat_eq n l.number) refl refl
      where
        go : (m b c : Bool) → nat_eq l.number n ≡ b → nat_eq n l.number ≡ c → (m || b) ≡ (if c then true else m)
        go true b true e h = refl
        go true b false e h = refl
        go false true true e h = refl
        go false false false e h = refl
        go false true false e h = absurd (false≢true (sym (numbers_turn n l.number h) ∙ e))
        go false false true e h = absurd (false≢true (sym (numbers_turn l.number n e) ∙ h))

    recovery_kept : (d : ℕ) (b : Bool) → nat_eq a d ≡ b → (state_of script f d (saids ++ x ∷ [])).under_recovery ≡ (state_of script f d saids).under_recovery
    recovery_kept d true e =
        subst (λ w. (state_of script f w (saids ++ x ∷ [])).under_recovery ≡ (state_of script f w saids).under_recovery) (eqb-true a d e)
        (ap (λ z. z.under_recovery) own_state ∙ asked_recovery (state_of script f a saids) l.what)
      where
        asked_recovery : (t : ServerState) (w : What) → (after_asked t w r).under_recovery ≡ t.under_recovery
        asked_recovery t (Server o) = refl
        asked_recovery t (Host h) = refl
    recovery_kept d false e = ap (λ z. z.under_recovery) (other_state d e)

    -- all of them, where its party is so then
    pub answered_fitting : (later : ℕ → Key) (over' : Bool) → ((i : ℕ) → nat_eq i a ≡ false → later i ≡ keys i) → Fits (later a) (told_of script f (saids ++ x ∷ []) marked a) →
        ((d : ℕ) → IsTrue (key_works a (later a)) → (later a).saves ≡ Some d → IsTrue (key_works a (keys a)) × ((keys a).saves ≡ Some d)) → over ≡ false → (over' ≡ false → is_halt l.what ≡ false) →
        IsTrue (is_off (later host_party).phase) →
        Fitting script f (saids ++ x ∷ []) later marked over' shown
    answered_fitting later over' same own saves going halting host = record {
      servers = λ i. each i (nat_eq a i) refl;
      rescues = λ i d w e. recovery_kept d (nat_eq a d) refl ∙ saved i d (nat_eq a i) refl w e;
      marks = marks_then;
      firsts = λ who. firsts_then who (nat_eq a who) refl;
      going = λ e. over_push script saids x (g.going going) (ap is_halt_line is_line ∙ halting e) refl;
      unshown = λ e. any_push is_node saids x ∙ or_from (list_any is_node saids) false (g.unshown e) refl;
      resting = rest g.resting;
      host = host;
    }
      where
        each : (i : ℕ) (b : Bool) → nat_eq a i ≡ b → Fits (later i) (told_of script f (saids ++ x ∷ []) marked i)
        each i true e = subst (λ w. Fits (later w) (told_of script f (saids ++ x ∷ []) marked w)) (eqb-true a i e) own
        each i false e =
            subst (λ k. Fits k (told_of script f (saids ++ x ∷ []) marked i)) (sym (same i (numbers_turn a i e)))
            (rises (keys i) (told_of script f saids answered i) (told_of script f (saids ++ x ∷ []) marked i) (others_rise i e) (g.servers i))

        saved : (i d : ℕ) (b : Bool) → nat_eq a i ≡ b → IsTrue (key_works i (later i)) → (later i).saves ≡ Some d → (state_of script f d saids).under_recovery ≡ true
        saved i d true e w s =
            let j : a ≡ i = eqb-true a i e in
            let o : IsTrue (key_works a (keys a)) × ((keys a).saves ≡ Some d) =
            saves d (subst (λ w. IsTrue (key_works w (later w))) (sym j) w) (subst (λ w. (later w).saves ≡ Some d) (sym j) s) in
            g.rescues a d o.0 o.1
        saved i d false e w s =
            let k : later i ≡ keys i = same i (numbers_turn a i e) in
            g.rescues i d (subst (λ z. IsTrue (key_works i z)) k w) (subst (λ z. z.saves ≡ Some d) k s)

        rest : (list_any is_node saids ≡ false) ⊎ AtRest script keys answered → (list_any is_node (saids ++ x ∷ []) ≡ false) ⊎ AtRest script later marked
        rest (inl none) = inl (any_push is_node saids x ∙ or_from (list_any is_node saids) false none refl)
        rest (inr at) = absurd (all_is_none script answered a l at.all next)

  -- ---- a line of a server's life, or a note

  -- neither an answer nor of the tree, and not the end
  pub record IsLife (x : Said) : Type 0 where
    pub answers_none : (n : ℕ) → answers n x ≡ false
    pub of_none : (who : ℕ) → is_answer_of who x ≡ false
    pub halts_none : halts script x ≡ false
    pub ends_not : is_end x ≡ false
    pub tells_none : is_node x ≡ false

  module _ (x : Said) (life : IsLife x) where
    count_kept : (who : ℕ) → length (filter (is_answer_of who) (saids ++ x ∷ [])) ≡ length (filter (is_answer_of who) saids)
    count_kept who =
        count_push (is_answer_of who) saids x ∙ ap (λ b. if b then suc (length (filter (is_answer_of who) saids)) else length (filter (is_answer_of who) saids)) (life.of_none who)

    pub life_fitting : (later : ℕ → Key) → ((i : ℕ) → Fits (later i) (told_of script f (saids ++ x ∷ []) answered i)) →
        ((i d : ℕ) → IsTrue (key_works i (later i)) → (later i).saves ≡ Some d → (state_of script f d (saids ++ x ∷ [])).under_recovery ≡ true) →
        ((i : ℕ) → IsTrue (is_off (keys i).phase) → IsTrue (is_off (later i).phase)) →
        Fitting script f (saids ++ x ∷ []) later answered over shown
    life_fitting later each rescues off = record {
      servers = each;
      rescues = rescues;
      marks = λ n. any_push (answers n) saids x ∙ ap (λ b. list_any (answers n) saids || b) (life.answers_none n) ∙ or-false (list_any (answers n) saids) ∙ g.marks n;
      firsts = λ who. subst (λ k. AreFirst answered (lines_for who script) k) (sym (count_kept who)) (g.firsts who);
      going = λ e. over_push script saids x (g.going e) life.halts_none life.ends_not;
      unshown = λ e. any_push is_node saids x ∙ or_from (list_any is_node saids) (is_node x) (g.unshown e) life.tells_none;
      resting = rest g.resting;
      host = off host_party g.host;
    }
      where
        rest : (list_any is_node saids ≡ false) ⊎ AtRest script keys answered → (list_any is_node (saids ++ x ∷ []) ≡ false) ⊎ AtRest script later answered
        rest (inl none) = inl (any_push is_node saids x ∙ or_from (list_any is_node saids) (is_node x) none life.tells_none)
        rest (inr at) = inr (record { all = at.all; off = λ i h. off i (at.off i h) })

    -- of one of which nothing is said
    pub told_rises : (i : ℕ) → after_said script i (f (length saids) i) (state_of script f i saids) x ≡ state_of script f i saids →
        (IsTrue (may_be_dirty script i saids) → IsTrue (dirty_after script i (may_be_dirty script i saids) x)) → Rises (told_of script f saids answered i) (told_of script f (saids ++ x ∷ []) answered i)
    told_rises i same dirty = record {
      state = state_push script f i saids x ∙ same;
      dirty = λ h. subst (λ d. IsTrue d) (sym (dirty_push script i saids x)) (dirty h);
      faulted = λ h. rises_one i x h;
      next = refl;
      hosts = λ n h. h;
      all = λ h. h;
    }

  -- ---- a line of the tree, and the end

  pub node_fitting : (path : List ℕ) (kind size links shown' : ℕ) → (shown' ≡ 0 → ⊥) → AtRest script keys answered → Fitting script f (saids ++ said.Node path kind size links ∷ []) keys answered over shown'
  node_fitting path kind size links shown' some at =
      let x : Said = said.Node path kind size links in
      record {
        servers = λ i.
            rises (keys i) (told_of script f saids answered i) (told_of script f (saids ++ said.Node path kind size links ∷ []) answered i)
            (record {
              state = state_push script f i saids (said.Node path kind size links);
              dirty = λ h. subst (λ d. IsTrue d) (sym (dirty_push script i saids (said.Node path kind size links))) h;
              faulted = λ h. rises_one i (said.Node path kind size links) h;
              next = refl;
              hosts = λ n h. h;
              all = λ h. h;
            })
            (g.servers i);
        rescues = λ i d w e. ap (λ z. z.under_recovery) (state_push script f d saids (said.Node path kind size links)) ∙ g.rescues i d w e;
        marks = λ n. any_push (answers n) saids (said.Node path kind size links) ∙ or-false (list_any (answers n) saids) ∙ g.marks n;
        firsts = λ who. subst (λ k. AreFirst answered (lines_for who script) k) (sym (count_push (is_answer_of who) saids (said.Node path kind size links))) (g.firsts who);
        going = λ e. over_push script saids (said.Node path kind size links) (g.going e) refl refl;
        unshown = λ e. absurd (some e);
        resting = inr at;
        host = g.host;
      }

  pub end_fitting : AtRest script keys answered → Fitting script f (saids ++ said.End ∷ []) keys answered true shown
  end_fitting at = record {
    servers = λ i.
        rises (keys i) (told_of script f saids answered i) (told_of script f (saids ++ said.End ∷ []) answered i)
        (record {
          state = state_push script f i saids said.End;
          dirty = λ h. subst (λ d. IsTrue d) (sym (dirty_push script i saids said.End)) h;
          faulted = λ h. rises_one i said.End h;
          next = refl;
          hosts = λ n h. h;
          all = λ h. h;
        })
        (g.servers i);
    rescues = λ i d w e. ap (λ z. z.under_recovery) (state_push script f d saids said.End) ∙ g.rescues i d w e;
    marks = λ n. any_push (answers n) saids said.End ∙ or-false (list_any (answers n) saids) ∙ g.marks n;
    firsts = λ who. subst (λ k. AreFirst answered (lines_for who script) k) (sym (count_push (is_answer_of who) saids said.End)) (g.firsts who);
    going = λ e. absurd (false≢true (sym e));
    unshown = λ e. any_push is_node saids said.End ∙ or_from (list_any is_node saids) false (g.unshown e) refl;
    resting = inr at;
    host = g.host;
  }
