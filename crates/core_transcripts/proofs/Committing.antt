-- Answers of lines over paths, at their commit, and of the host's lines.
use Rattle.std.proofs.Common.{ℕ, ◌≡◌, ◌≤◌, Bool, true, false, not, ◌&&◌, ◌||◌, ◌==◌, if◌then◌else◌, IsTrue, is_some, List, [], ◌∷◌, ◌++◌, Option, Some, None, nat_eq, refl, sym, ap, ◌∙◌, subst}
use Rattle.std.proofs.lemmas.Bool.{false≢true, eqb-true, and_parts}
use Rattle.std.specs.Option.{IsSome, option_map}
use Rattle.std.proofs.lemmas.Option.{same_Some}
use Rattle.disk_definitions.proofs.Listed.{all_at}
use Rattle.frang_base.specs.Functions.{put}
use Rattle.frang_base.specs.declared.op.Op.{Op}
use Rattle.frang_base.specs.declared.op.What.{What}
use Rattle.frang_base.specs.declared.op.What.TheVariants.{Server as OfServer, Host as OfHost}
use Rattle.frang_base.specs.declared.reply.Reply.TheVariants as reply
use Rattle.frang_base.specs.declared.said.Said.{Said}
use Rattle.frang_base.specs.declared.said.Said.TheVariants as said
use Rattle.frang_base.specs.declared.script.Line.{Line}
use Rattle.frang_base.proofs.Tests.{or_more}
use Rattle.tree_definitions.specs.Apply.{is_path_op}
use Rattle.tree_definitions.specs.History.{Opening}
use Rattle.tree_definitions.specs.Transcript.{Faults, after_asked, are_answered, is_halt, lines_before, may_answer, may_reply, state_of}
use Rattle.core_definitions.specs.Lines.{Stage, Asking, Fetching, Moving, Stopping, Growing, Clearing, Finishing, Under, operation_of, stage_at}
use Rattle.core_definitions.specs.Plans.{Outcome}
use Rattle.core_definitions.specs.Scripts.{earlier_answered, host_party, next_line}
use Rattle.core_definitions.specs.Servers.{Phase, Off, Up, Still, Doomed, Dead, asked_by, asks, is_answering, is_off, is_open, is_up, stage_under, stage_with}
use Rattle.core_definitions.specs.Cores.{Core, next_of, stage}
use Rattle.core_definitions.specs.LineGuards.{CanCommit, done_by, is_line}
use Rattle.core_definitions.specs.EndGuards.{CanHost}
use Rattle.core_definitions.specs.LineEffects.{committed_at, committed_by, number_under}
use Rattle.core_definitions.specs.EndEffects.{host_answered_line}
use Rattle.core_definitions.specs.Effects.{Says, id_of, reply_by, says_answer}
use Rattle.core_definitions.specs.Runs.{saids_of}
use Rattle.core_laws.proofs.Resting.{server_no_host}
use Rattle.core_transcripts.specs.Transcripts.{IsNumbered, MaySayButTree, is_host_what, is_hosted}
use Rattle.core_transcripts.proofs.Answering.{HasOperation, Now, Then, answers_up, has, is_under, it, later, none_all, operation_under, speaks}
use Rattle.core_transcripts.proofs.Fits.{DoomFits, Fits, IsUnder, Key, OwingFits, PhaseFits, Told, UnderFits, asked_of, key_of}
use Rattle.core_transcripts.proofs.Fitting.{Fitting, told_of}
use Rattle.core_transcripts.proofs.Happening.{CoreFits, Turn, Speaks, keys, line_given}
use Rattle.core_transcripts.proofs.Numbering.{OfNext, of_next}
use Rattle.core_transcripts.proofs.Owning.{committed_fits}
use Rattle.core_transcripts.proofs.Replies.{phase_then}
use Rattle.core_transcripts.proofs.Saying.{are_marked}
use Rattle.core_transcripts.proofs.Spoken.{all_then, answered_fitting, own_state, rises_one}
use Rattle.core_transcripts.proofs.Staging.{StageIsPlain, stage_plain}
use Rattle.core_transcripts.proofs.Dooming.{may_die_if}

if_stage : (b : Bool) (x : Option Stage) (s : Stage) → (if b then x else None) ≡ Some s → IsTrue b × (x ≡ Some s)
if_stage true x s e = (refl, e)
if_stage false x s e = absurd (cc)

-- ---- the host

off_answers : (p : Phase) → IsTrue (is_off p) → IsTrue (is_answering p)
off_answers Off h = refl
off_answers Up h = absurd (false≢true h)
off_answers Still h = absurd (false≢true h)
off_answers (Doomed f) h = absurd (false≢true h)
off_answers Dead h = absurd (false≢true h)

off_doom : (p : Phase) (t : Told) → IsTrue (is_off p) → DoomFits p t
off_doom Off t h = tt
off_doom Up t h = tt
off_doom Still t h = tt
off_doom (Doomed f) t h = absurd (false≢true h)
off_doom Dead t h = tt

-- one that is off and has no line under way
idle_fits : (k : Key) (t u : Told) → u.state ≡ t.state → (IsTrue t.faulted → IsTrue u.faulted) → (IsTrue t.all → IsTrue u.all) → IsTrue (is_off k.phase) → k.asked ≡ None → Fits k t → Fits k u
idle_fits k t u same faulted all off idle g = record {
  phase = subst (λ s. PhaseFits k.phase s.phase u.all u.faulted) (sym same) (phase_then k.phase t.state.phase t.all u.all t.faulted u.faulted (off_answers k.phase off) all g.phase);
  owing = subst (λ s. OwingFits k.owes s.debt) (sym same) g.owing;
  calm = g.calm;
  armed = subst (λ s. IsTrue (not k.armed || s.may_die)) (sym same) g.armed;
  failed = or_more (not k.failed) t.faulted u.faulted faulted g.failed;
  doomed = off_doom k.phase u off;
  under = subst (λ o. UnderFits k.phase k.owes u o) (sym idle) tt;
}

host_asks : (w : What) → IsTrue (is_host_what w) → operation_of w ≡ None
host_asks (OfHost h) i = refl
host_asks (OfServer o) i = absurd (false≢true i)

module _ (opening : Opening) (f : Faults) (stay : (early late server : ℕ) → early ≤ late → f early server ≡ true → f late server ≡ true) (c : Core) (saids : List Said)
    (numbered : IsNumbered c.setting.script) (going : c.over ≡ false) (g : CoreFits c.setting.script f saids c) where
  -- ---- a commit
  module _ (a : ℕ) (can : CanCommit c a) where
    finished : (outcome : Outcome) → stage c a ≡ Some (Finishing outcome) → (u : Under) → (c.servers a).under ≡ Some u → IsTrue (is_up (c.servers a).phase) →
        IsTrue (is_open is_path_op (Some u)) → stage_with c.setting c.locks a (c.servers a).cache u (operation_of u.line.what) ≡ Some (Finishing outcome) →
        Turn (MaySayButTree c.setting.script opening f) c.setting.script f saids (says_answer a (c.servers a).under (reply_by (stage c a))) (committed_at c a (stage c a))
    finished outcome e u under up waits with_it =
        subst (λ x. Turn (MaySayButTree c.setting.script opening f) c.setting.script f saids (says_answer a (c.servers a).under (reply_by x)) (committed_at c a x)) (sym e)
        (speaks opening f stay c saids numbered going g a can.server u under answers outcome.reply (committed_by outcome (c.servers a)) both.0 (λ d w s. (w, s)) both.1
        (says_answer a (c.servers a).under (Some outcome.reply)) (ap (λ x. saids_of (says_answer a x (Some outcome.reply))) under) (committed_at c a (Some (Finishing outcome))) (λ i. refl)
        (ap (λ x. put c.answered (number_under x) true) under) refl refl)
      where
        answers : IsTrue (is_answering (c.servers a).phase)
        answers = answers_up (c.servers a).phase up

        h : HasOperation (c.servers a).phase (c.servers a).owes (Now opening f stay c saids numbered going g a) u.line u.fixed u.get_failed
        h = has opening f stay c saids numbered going g a can.server u under answers

        path : IsTrue (is_path_op h.operation)
        path = subst (λ o. IsTrue (asked_by is_path_op o)) h.is (and_parts (not (is_some u.fixed)) (asked_by is_path_op (operation_of u.line.what)) waits).1

        at : stage_at c.setting c.locks a (c.servers a).cache u h.operation ≡ Finishing outcome
        at = same_Some (stage_at c.setting c.locks a (c.servers a).cache u h.operation) (Finishing outcome) (subst (λ o. stage_with c.setting c.locks a (c.servers a).cache u o ≡ Some (Finishing outcome)) h.is with_it)

        both : Fits (key_of (committed_by outcome (c.servers a))) (Then opening f stay c saids numbered going g a can.server u under answers outcome.reply)
            × IsTrue (may_answer (Now opening f stay c saids numbered going g a).state (Now opening f stay c saids numbered going g a).faulted h.operation outcome.reply)
        both =
            committed_fits c a u (c.servers a) (Now opening f stay c saids numbered going g a) (Then opening f stay c saids numbered going g a can.server u under answers outcome.reply) can.server
            (server_no_host a can.server) (none_all opening f stay c saids numbered going g a u.line (it opening f stay c saids numbered going g a can.server u under answers).next) (g.servers a) answers h.operation outcome
            up path (subst StageIsPlain at (stage_plain c.setting c.locks a (c.servers a).cache u h.operation)) (later opening f stay c saids numbered going g a can.server u under answers outcome.reply)

    by_under : (outcome : Outcome) → stage c a ≡ Some (Finishing outcome) → IsTrue (is_up (c.servers a).phase) → (o : Option Under) → (c.servers a).under ≡ o → IsTrue (is_open is_path_op o) →
        stage_under c.setting c.locks a (c.servers a).cache o ≡ Some (Finishing outcome) →
        Turn (MaySayButTree c.setting.script opening f) c.setting.script f saids (says_answer a (c.servers a).under (reply_by (stage c a))) (committed_at c a (stage c a))
    by_under outcome e up None under waits with_it = absurd (cc)
    by_under outcome e up (Some u) under waits with_it = finished outcome e u under up waits with_it

    by_stage : (x : Option Stage) → stage c a ≡ x → IsSome (done_by x) →
        Turn (MaySayButTree c.setting.script opening f) c.setting.script f saids (says_answer a (c.servers a).under (reply_by (stage c a))) (committed_at c a (stage c a))
    by_stage None e some = absurd (false≢true some)
    by_stage (Some (Asking need)) e some = absurd (false≢true some)
    by_stage (Some (Fetching needs)) e some = absurd (false≢true some)
    by_stage (Some Moving) e some = absurd (false≢true some)
    by_stage (Some Stopping) e some = absurd (false≢true some)
    by_stage (Some (Growing needs seen)) e some = absurd (false≢true some)
    by_stage (Some (Clearing block)) e some = absurd (false≢true some)
    by_stage (Some (Finishing outcome)) e some =
        let d : IsTrue (is_up (c.servers a).phase && asks is_path_op (c.servers a)) × (stage_under c.setting c.locks a (c.servers a).cache (c.servers a).under ≡ Some (Finishing outcome)) =
        if_stage (is_up (c.servers a).phase && asks is_path_op (c.servers a)) (stage_under c.setting c.locks a (c.servers a).cache (c.servers a).under) (Finishing outcome) e in
        by_under outcome e (and_parts (is_up (c.servers a).phase) (asks is_path_op (c.servers a)) d.0).0 (c.servers a).under refl (and_parts (is_up (c.servers a).phase) (asks is_path_op (c.servers a)) d.0).1 d.1

    pub commit_turn : Turn (MaySayButTree c.setting.script opening f) c.setting.script f saids (says_answer a (c.servers a).under (reply_by (stage c a))) (committed_at c a (stage c a))
    commit_turn = by_stage (stage c a) refl can.done

  -- ---- the host's line

  -- a next line of the host asks what a host is asked
  host_what : (l : Line) → next_line c.setting.script c.answered host_party ≡ Some l → IsTrue (is_host_what l.what)
  host_what l next =
      let n : OfNext c.setting.script c.answered host_party l = of_next c.setting.script c.answered host_party l next in
      may_die_if (nat_eq l.who.0 host_party) (is_host_what l.what) n.his (all_at is_hosted c.setting.script numbered.hosted l n.there)

  -- so the host has none under way
  host_idle : (o : Option Under) → (c.servers host_party).under ≡ o → option_map asked_of o ≡ None
  host_idle None e = refl
  host_idle (Some u) e =
      let i : IsUnder (c.servers host_party).phase (c.servers host_party).owes (told_of c.setting.script f saids c.answered host_party) (asked_of u) =
      is_under (c.servers host_party).phase (c.servers host_party).owes (told_of c.setting.script f saids c.answered host_party) (c.servers host_party).under u e (g.servers host_party).under in
      absurd (no_operation (operation_of u.line.what) (host_asks u.line.what (host_what u.line i.next))
      (operation_under (c.servers host_party).phase (c.servers host_party).owes (told_of c.setting.script f saids c.answered host_party) u i).operation
      (operation_under (c.servers host_party).phase (c.servers host_party).owes (told_of c.setting.script f saids c.answered host_party) u i).is)
    where
      no_operation : (o : Option Op) → o ≡ None → (p : Op) → o ≡ Some p → ⊥
      no_operation o n p e = absurd (cc)

  host_line : (number : ℕ) → CanHost c number → (l : Line) → next_of c host_party ≡ Some l → l.number ≡ number →
      Turn (MaySayButTree c.setting.script opening f) c.setting.script f saids (Says (said.Answer (id_of host_party) number reply.Ok) ∷ []) (host_answered_line c (Some l))
  host_line number can l next same =
      Speaks (said.Answer (id_of host_party) number reply.Ok) refl
      (subst (λ n. MaySayButTree c.setting.script opening f saids (said.Answer (id_of host_party) n reply.Ok)) same (line_given opening f stay c saids numbered going g host_party l reply.Ok next may))
      (subst (λ n. Fitting c.setting.script f (saids ++ said.Answer (id_of host_party) n reply.Ok ∷ []) (keys opening f stay c saids numbered going g) (put c.answered l.number true) (is_halt l.what) c.shown) same
      (answered_fitting c.setting.script numbered.apart f stay saids (λ i. key_of (c.servers i)) c.answered c.over c.shown g host_party l reply.Ok next (λ i. key_of (c.servers i)) (is_halt l.what) (λ i n. refl)
      (idle_fits (key_of (c.servers host_party)) (told_of c.setting.script f saids c.answered host_party) (told_of c.setting.script f (saids ++ said.Answer (id_of host_party) l.number reply.Ok ∷ []) (put c.answered l.number true) host_party)
      (own_state c.setting.script numbered.apart f stay saids (λ i. key_of (c.servers i)) c.answered c.over c.shown g host_party l reply.Ok next ∙ asked_none l.what (host_what l next))
      (λ h. rises_one c.setting.script numbered.apart f stay saids (λ i. key_of (c.servers i)) c.answered c.over c.shown g host_party (said.Answer (id_of host_party) l.number reply.Ok) h)
      (λ h. all_then c.setting.script numbered.apart f stay saids (λ i. key_of (c.servers i)) c.answered c.over c.shown g host_party l reply.Ok next h) g.host (host_idle (c.servers host_party).under refl) (g.servers host_party))
      (λ d w s. (w, s)) going (λ e. e) g.host))
    where
      asked_none : (w : What) → IsTrue (is_host_what w) → after_asked (state_of c.setting.script f host_party saids) w reply.Ok ≡ state_of c.setting.script f host_party saids
      asked_none (OfHost h) i = refl
      asked_none (OfServer o) i = absurd (false≢true i)

      by_what : (w : What) → IsTrue (is_host_what w) → IsTrue (are_answered (lines_before l.number c.setting.script) saids) → IsTrue (may_reply c.setting.script f saids host_party l.number w reply.Ok)
      by_what (OfHost h) i done = done
      by_what (OfServer o) i done = absurd (false≢true i)

      may : IsTrue (may_reply c.setting.script f saids host_party l.number l.what reply.Ok)
      may =
          by_what l.what (host_what l next)
          (subst (λ b. IsTrue b) (sym (are_marked c.answered saids (lines_before l.number c.setting.script) g.marks)) (subst (λ n. IsTrue (earlier_answered c.setting.script c.answered n)) (sym same) can.earlier))

  pub host_turn : (number : ℕ) → CanHost c number →
      Turn (MaySayButTree c.setting.script opening f) c.setting.script f saids (Says (said.Answer (id_of host_party) number reply.Ok) ∷ []) (host_answered_line c (next_of c host_party))
  host_turn number can = go (next_of c host_party) refl can.next
    where
      go : (o : Option Line) → next_of c host_party ≡ o → IsTrue (is_line (λ line. line.number == number) o) →
          Turn (MaySayButTree c.setting.script opening f) c.setting.script f saids (Says (said.Answer (id_of host_party) number reply.Ok) ∷ []) (host_answered_line c (next_of c host_party))
      go None e h = absurd (false≢true h)
      go (Some l) e h =
          subst (λ o. Turn (MaySayButTree c.setting.script opening f) c.setting.script f saids (Says (said.Answer (id_of host_party) number reply.Ok) ∷ []) (host_answered_line c o)) (sym e)
          (host_line number can l e (eqb-true l.number number h))
