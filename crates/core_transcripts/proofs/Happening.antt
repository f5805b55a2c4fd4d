-- Each event, by what counts of the servers and what is told of them: the line that is said may be said, and what is told fits afterwards.
use Rattle.std.proofs.Common.{ℕ, ◌≡◌, ◌≤◌, ◌⊎◌, inl, inr, Bool, true, false, not, ◌&&◌, if◌then◌else◌, IsTrue, List, [], ◌∷◌, ◌++◌, Some, filter, length, nat_eq, refl, sym, ap, ◌∙◌, subst}
use Rattle.std.proofs.lemmas.Bool.{false≢true, and_from, eq-eqb}
use Rattle.std.specs.List.{list_any}
use Rattle.std.proofs.lemmas.Option.{same_Some}
use Rattle.frang_base.specs.Functions.{put}
use Rattle.frang_base.specs.declared.op.Op.{Op}
use Rattle.frang_base.specs.declared.op.What.{What}
use Rattle.frang_base.specs.declared.op.What.TheVariants.{Server as OfServer, Host as OfHost}
use Rattle.frang_base.specs.declared.reply.Reply.{Reply}
use Rattle.frang_base.specs.declared.said.Said.{Said}
use Rattle.frang_base.specs.declared.said.Said.TheVariants as said
use Rattle.frang_base.specs.declared.script.Line.{Line}
use Rattle.tree_definitions.specs.History.{Opening}
use Rattle.tree_definitions.specs.Transcript.{Faults, after_asked, answers_next, are_answered, goes_on, is_answer_of, is_halt, is_node, is_over, lines_before, lines_for, may_answer, may_reply, next_line as told_next, state_of}
use Rattle.core_definitions.specs.Lines.{operation_of}
use Rattle.core_definitions.specs.Scripts.{host_party, hosts_answered, next_line}
use Rattle.core_definitions.specs.Servers.{Server, is_off}
use Rattle.core_definitions.specs.Cores.{Core}
use Rattle.core_definitions.specs.LineGuards.{is_server}
use Rattle.core_definitions.specs.Effects.{Deed, id_of}
use Rattle.core_definitions.specs.Runs.{saids_of}
use Rattle.core_laws.proofs.Resting.{server_no_host}
use Rattle.core_transcripts.specs.Transcripts.{IsNumbered, MaySayButTree}
use Rattle.core_transcripts.proofs.Fits.{Fits, Key, Told, key_of}
use Rattle.core_transcripts.proofs.Fitting.{AtRest, Fitting, key_works, told_of}
use Rattle.core_transcripts.proofs.Numbering.{all_is_none, next_by_count, numbers_turn}
use Rattle.core_transcripts.proofs.Replies.{Later}
use Rattle.core_transcripts.proofs.Saying.{are_marked}
use Rattle.core_transcripts.proofs.Spoken.{all_then, answered_fitting, own_state, rises_one}

-- what is told fits the core
abbrev pub CoreFits : List Line → Faults → List Said → Core → Type 0
CoreFits script f saids c = Fitting script f saids (λ i. key_of (c.servers i)) c.answered c.over c.shown

-- at an event nothing is said, or one line that may be; and what is told fits afterwards
pub data Turn (rule : List Said → Said → Type 0) (script : List Line) (f : Faults) (saids : List Said) (deeds : List Deed) (c : Core) : Type 0 where
  Quiet : saids_of deeds ≡ [] → CoreFits script f saids c → Turn rule script f saids deeds c
  Speaks : (x : Said) → saids_of deeds ≡ x ∷ [] → rule saids x → CoreFits script f (saids ++ x ∷ []) c → Turn rule script f saids deeds c

pub server_asks : (w : What) (o : Op) → operation_of w ≡ Some o → w ≡ OfServer o
server_asks (OfServer p) o e = ap OfServer (same_Some p o e)
server_asks (OfHost h) o e = absurd (cc)

-- ---- lines go on

module _ (opening : Opening) (f : Faults) (stay : (early late server : ℕ) → early ≤ late → f early server ≡ true → f late server ≡ true) (c : Core) (saids : List Said)
    (numbered : IsNumbered c.setting.script) (going : c.over ≡ false) (g : CoreFits c.setting.script f saids c) where
  abbrev pub keys : ℕ → Key
  keys i = key_of (c.servers i)

  pub lines_go_on : (AtRest c.setting.script keys c.answered → ⊥) → IsTrue (goes_on c.setting.script saids)
  lines_go_on busy = go g.resting
    where
      negated : (a b : Bool) → a ≡ false → b ≡ false → IsTrue (not a && not b)
      negated true b e h = absurd (false≢true (sym e))
      negated false true e h = absurd (false≢true (sym h))
      negated false false e h = refl

      go : (list_any is_node saids ≡ false) ⊎ AtRest c.setting.script keys c.answered → IsTrue (goes_on c.setting.script saids)
      go (inl none) = negated (is_over c.setting.script saids) (list_any is_node saids) (g.going going) none
      go (inr at) = absurd (busy at)

  -- ---- an answer may be said

  told_is : (a : ℕ) (l : Line) → next_line c.setting.script c.answered a ≡ Some l → told_next a c.setting.script saids ≡ Some l
  told_is a l next = next_by_count c.setting.script c.answered a (length (filter (is_answer_of a) saids)) (g.firsts a) ∙ next

  pub line_given : (a : ℕ) (l : Line) (r : Reply) → next_line c.setting.script c.answered a ≡ Some l → IsTrue (may_reply c.setting.script f saids a l.number l.what r) →
      MaySayButTree c.setting.script opening f saids (said.Answer (id_of a) l.number r)
  line_given a l r next may =
      and_from (goes_on c.setting.script saids) (answers_next c.setting.script f saids a l.number r (told_next a c.setting.script saids))
      (lines_go_on (λ at. all_is_none c.setting.script c.answered a l at.all next))
      (subst (λ n. IsTrue (answers_next c.setting.script f saids a l.number r n)) (sym (told_is a l next))
      (and_from (nat_eq l.number l.number) (may_reply c.setting.script f saids a l.number l.what r) (eq-eqb l.number l.number refl) may))

  pub server_given : (a : ℕ) (l : Line) (o : Op) (r : Reply) → next_line c.setting.script c.answered a ≡ Some l → operation_of l.what ≡ Some o → IsTrue (hosts_answered c.setting.script c.answered l.number) →
      IsTrue (may_answer (state_of c.setting.script f a saids) (f (length saids) a) o r) → MaySayButTree c.setting.script opening f saids (said.Answer (id_of a) l.number r)
  server_given a l o r next is hosts may =
      line_given a l r next
      (subst (λ w. IsTrue (may_reply c.setting.script f saids a l.number w r)) (sym (server_asks l.what o is))
      (and_from (are_answered (lines_before l.number (lines_for 255 c.setting.script)) saids) (may_answer (state_of c.setting.script f a saids) (f (length saids) a) o r)
      (subst (λ b. IsTrue b) (sym (are_marked c.answered saids (lines_before l.number (lines_for 255 c.setting.script)) g.marks)) hosts) may))

  -- ---- what fits once it is said

  pub later_told : (a : ℕ) (l : Line) (o : Op) (r : Reply) (next : next_line c.setting.script c.answered a ≡ Some l) → operation_of l.what ≡ Some o →
      Later (told_of c.setting.script f saids c.answered a) o r (told_of c.setting.script f (saids ++ said.Answer (id_of a) l.number r ∷ []) (put c.answered l.number true) a)
  later_told a l o r next is = record {
    state =
        own_state c.setting.script numbered.apart f stay saids keys c.answered c.over c.shown g a l r next
        ∙ ap (λ w. after_asked (state_of c.setting.script f a saids) w r) (server_asks l.what o is);
    faulted = λ h. rises_one c.setting.script numbered.apart f stay saids keys c.answered c.over c.shown g a (said.Answer (id_of a) l.number r) h;
    all = λ h. all_then c.setting.script numbered.apart f stay saids keys c.answered c.over c.shown g a l r next h;
  }

  pub server_answered : (a : ℕ) (l : Line) (o : Op) (r : Reply) (v : Server) (next : next_line c.setting.script c.answered a ≡ Some l) → operation_of l.what ≡ Some o → IsTrue (is_server a) →
      Fits (key_of v) (told_of c.setting.script f (saids ++ said.Answer (id_of a) l.number r ∷ []) (put c.answered l.number true) a) →
      ((d : ℕ) → IsTrue (key_works a (key_of v)) → (key_of v).saves ≡ Some d → IsTrue (key_works a (keys a)) × ((keys a).saves ≡ Some d)) →
      Fitting c.setting.script f (saids ++ said.Answer (id_of a) l.number r ∷ []) (λ i. key_of (put c.servers a v i)) (put c.answered l.number true) c.over c.shown
  server_answered a l o r v next is server fits saves =
      answered_fitting c.setting.script numbered.apart f stay saids keys c.answered c.over c.shown g a l r next (λ i. key_of (put c.servers a v i)) c.over
      (λ i n. ap (λ b. key_of (if b then v else c.servers i)) n)
      (subst (λ k. Fits k told) (sym own) fits)
      (λ d w s. saves d (subst (λ k. IsTrue (key_works a k)) own w) (subst (λ k. k.saves ≡ Some d) own s)) going
      (λ e. ap halting (server_asks l.what o is))
      (subst (λ b. IsTrue (is_off (key_of (if b then v else c.servers host_party)).phase)) (sym (numbers_turn a host_party (server_no_host a server))) g.host)
    where
      told : Told
      told = told_of c.setting.script f (saids ++ said.Answer (id_of a) l.number r ∷ []) (put c.answered l.number true) a

      own : key_of (put c.servers a v a) ≡ key_of v
      own = ap (λ b. key_of (if b then v else c.servers a)) (eq-eqb a a refl)

      halting : What → Bool
      halting w = is_halt w
