-- What is told of all servers, against the core: how it stays where no line is said, and what it is once one is.
use Rattle.std.proofs.Common.{ℕ, ◌≡◌, ◌⊎◌, inl, inr, Bool, true, false, ◌&&◌, ◌||◌, ◌==◌, if◌then◌else◌, IsTrue, List, Some, filter, length, nat_eq, refl, sym, ap, ◌∙◌, subst}
use Rattle.std.proofs.lemmas.Bool.{false≢true, eqb-true}
use Rattle.std.specs.List.{list_any}
use Rattle.frang_base.specs.Functions.{put}
use Rattle.frang_base.specs.declared.said.Said.{Said}
use Rattle.frang_base.specs.declared.script.Line.{Line}
use Rattle.tree_definitions.specs.Transcript.{Faults, answers, is_answer_of, is_node, is_over, lines_for, may_be_dirty, state_of}
use Rattle.core_definitions.specs.Scripts.{Marks, all_answered, host_party, hosts_answered, next_line}
use Rattle.core_definitions.specs.Servers.{Server, is_off, is_up}
use Rattle.core_definitions.specs.LineGuards.{is_server}
use Rattle.core_transcripts.proofs.Fits.{Fits, Key, Told, key_of}
use Rattle.core_transcripts.proofs.Numbering.{AreFirst}

-- what is told of a server
abbrev pub told_of : List Line → Faults → List Said → Marks → ℕ → Told
told_of script f saids answered i = record {
  state = state_of script f i saids;
  dirty = may_be_dirty script i saids;
  faulted = f (length saids) i;
  next = next_line script answered i;
  hosts = hosts_answered script answered;
  all = all_answered script answered;
}

-- Up, or the host
abbrev pub key_works : ℕ → Key → Bool
key_works i k = (is_server i && is_up k.phase) || i == host_party

-- every line is answered and every server Off
pub record AtRest (script : List Line) (keys : ℕ → Key) (answered : Marks) : Type 0 where
  pub all : IsTrue (all_answered script answered)
  pub off : (i : ℕ) → IsTrue (is_server i) → IsTrue (is_off (keys i).phase)

pub record Fitting (script : List Line) (f : Faults) (saids : List Said) (keys : ℕ → Key) (answered : Marks) (over : Bool) (shown : ℕ) : Type 0 where
  pub servers : (i : ℕ) → Fits (keys i) (told_of script f saids answered i)
  pub rescues : (i d : ℕ) → IsTrue (key_works i (keys i)) → (keys i).saves ≡ Some d → (state_of script f d saids).under_recovery ≡ true
  pub marks : (n : ℕ) → list_any (answers n) saids ≡ answered n
  pub firsts : (who : ℕ) → AreFirst answered (lines_for who script) (length (filter (is_answer_of who) saids))
  pub going : over ≡ false → is_over script saids ≡ false
  pub unshown : shown ≡ 0 → list_any is_node saids ≡ false
  pub resting : (list_any is_node saids ≡ false) ⊎ AtRest script keys answered
  pub host : IsTrue (is_off (keys host_party).phase)

module _ (script : List Line) (f : Faults) (saids : List Said) (answered : Marks) (over : Bool) (shown : ℕ) where
  -- nothing that counts has changed
  pub same_keys : (keys later : ℕ → Key) → ((i : ℕ) → later i ≡ keys i) → Fitting script f saids keys answered over shown → Fitting script f saids later answered over shown
  same_keys keys later same g = record {
    servers = λ i. subst (λ k. Fits k (told_of script f saids answered i)) (sym (same i)) (g.servers i);
    rescues = λ i d w e. g.rescues i d (subst (λ k. IsTrue (key_works i k)) (same i) w) (subst (λ k. k.saves ≡ Some d) (same i) e);
    marks = g.marks;
    firsts = g.firsts;
    going = g.going;
    unshown = g.unshown;
    resting = go g.resting;
    host = subst (λ k. IsTrue (is_off k.phase)) (sym (same host_party)) g.host;
  }
    where
      go : (list_any is_node saids ≡ false) ⊎ AtRest script keys answered → (list_any is_node saids ≡ false) ⊎ AtRest script later answered
      go (inl none) = inl none
      go (inr r) = inr (record { all = r.all; off = λ i h. subst (λ k. IsTrue (is_off k.phase)) (sym (same i)) (r.off i h) })

  -- one server has changed
  pub one_key : (servers : ℕ → Server) (a : ℕ) (v : Server) → Fits (key_of v) (told_of script f saids answered a) →
      ((d : ℕ) → IsTrue (key_works a (key_of v)) → (key_of v).saves ≡ Some d → (state_of script f d saids).under_recovery ≡ true) →
      (IsTrue (is_off (servers a).phase) → IsTrue (is_off v.phase)) →
      Fitting script f saids (λ i. key_of (servers i)) answered over shown → Fitting script f saids (λ i. key_of (put servers a v i)) answered over shown
  one_key servers a v fits rescues off g = record {
    servers = λ i. each i (nat_eq i a) refl;
    rescues = λ i d. saved i d (nat_eq i a) refl;
    marks = g.marks;
    firsts = g.firsts;
    going = g.going;
    unshown = g.unshown;
    resting = rest g.resting;
    host = settled host_party (nat_eq host_party a) refl g.host;
  }
    where
      each : (i : ℕ) (b : Bool) → nat_eq i a ≡ b → Fits (key_of (if b then v else servers i)) (told_of script f saids answered i)
      each i true e = subst (λ j. Fits (key_of v) (told_of script f saids answered j)) (sym (eqb-true i a e)) fits
      each i false e = g.servers i

      saved : (i d : ℕ) (b : Bool) → nat_eq i a ≡ b → IsTrue (key_works i (key_of (if b then v else servers i))) → (key_of (if b then v else servers i)).saves ≡ Some d →
          (state_of script f d saids).under_recovery ≡ true
      saved i d true e w s = rescues d (subst (λ j. IsTrue (key_works j (key_of v))) (eqb-true i a e) w) s
      saved i d false e w s = g.rescues i d w s

      settled : (i : ℕ) (b : Bool) → nat_eq i a ≡ b → IsTrue (is_off (servers i).phase) → IsTrue (is_off (if b then v else servers i).phase)
      settled i true e h = off (subst (λ j. IsTrue (is_off (servers j).phase)) (eqb-true i a e) h)
      settled i false e h = h

      rest : (list_any is_node saids ≡ false) ⊎ AtRest script (λ i. key_of (servers i)) answered →
          (list_any is_node saids ≡ false) ⊎ AtRest script (λ i. key_of (put servers a v i)) answered
      rest (inl none) = inl none
      rest (inr r) = inr (record { all = r.all; off = λ i h. settled i (nat_eq i a) refl (r.off i h) })

  -- it is as it was in all that counts
  pub same_key : (servers : ℕ → Server) (a : ℕ) (v : Server) → key_of v ≡ key_of (servers a) → Fitting script f saids (λ i. key_of (servers i)) answered over shown →
      Fitting script f saids (λ i. key_of (put servers a v i)) answered over shown
  same_key servers a v same g = same_keys (λ i. key_of (servers i)) (λ i. key_of (put servers a v i)) (λ i. each i (nat_eq i a) refl) g
    where
      each : (i : ℕ) (b : Bool) → nat_eq i a ≡ b → key_of (if b then v else servers i) ≡ key_of (servers i)
      each i true e = same ∙ ap (λ j. key_of (servers j)) (sym (eqb-true i a e))
      each i false e = refl

-- the host's call has failed: nothing is said any more
pub ended_so : (script : List Line) (f : Faults) (saids : List Said) (keys : ℕ → Key) (answered : Marks) (over : Bool) (shown : ℕ) → Fitting script f saids keys answered over shown →
    Fitting script f saids keys answered true shown
ended_so script f saids keys answered over shown g = record {
  servers = g.servers;
  rescues = g.rescues;
  marks = g.marks;
  firsts = g.firsts;
  going = λ e. absurd (false≢true (sym e));
  unshown = g.unshown;
  resting = g.resting;
  host = g.host;
}
