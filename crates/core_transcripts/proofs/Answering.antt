-- Answers: of a line whose answer is due, of a line over paths that is committed, and of the host's.
use Rattle.std.proofs.Common.{ℕ, ◌≡◌, ◌≤◌, Bool, true, false, ◌&&◌, if◌then◌else◌, IsTrue, is_some, List, [], ◌∷◌, ◌++◌, Option, Some, None, refl, sym, ap, ◌∙◌, subst}
use Rattle.std.proofs.lemmas.Bool.{false≢true}
use Rattle.std.specs.Option.{IsSome, option_map}
use Rattle.std.proofs.lemmas.Option.{same_Some}
use Rattle.frang_base.specs.Functions.{put}
use Rattle.frang_base.specs.declared.op.Op.{Op}
use Rattle.frang_base.specs.declared.reply.Reply.{Reply}
use Rattle.frang_base.specs.declared.said.Said.{Said}
use Rattle.frang_base.specs.declared.said.Said.TheVariants as said
use Rattle.frang_base.specs.declared.script.Line.{Line}
use Rattle.tree_definitions.specs.History.{Opening}
use Rattle.tree_definitions.specs.Touched.{is_ok, is_unmount}
use Rattle.tree_definitions.specs.Transcript.{Faults, may_answer}
use Rattle.core_definitions.specs.Lines.{Under, operation_of}
use Rattle.core_definitions.specs.Scripts.{next_line}
use Rattle.core_definitions.specs.Servers.{Phase, Off, Up, Still, Doomed, Dead, Server, answer_of, due_under, is_answering, is_up, own_answer_of}
use Rattle.core_definitions.specs.Cores.{Core, due_at}
use Rattle.core_definitions.specs.LineGuards.{CanAnswer, is_server}
use Rattle.core_definitions.specs.LineEffects.{answered_by, answered_fixed, answered_open, answered_under, answered_with}
use Rattle.core_definitions.specs.Effects.{Deed, id_of, says_answer}
use Rattle.core_definitions.specs.Runs.{saids_of}
use Rattle.core_laws.proofs.Resting.{server_no_host}
use Rattle.core_transcripts.specs.Transcripts.{IsNumbered, MaySayButTree}
use Rattle.core_transcripts.proofs.Fits.{AskFits, Fits, IsUnder, LineFits, Told, UnderFits, asked_of, key_of}
use Rattle.core_transcripts.proofs.Fitting.{Fitting, key_works, same_keys, told_of}
use Rattle.core_transcripts.proofs.Happening.{CoreFits, Turn, Speaks, later_told, server_answered, server_given}
use Rattle.core_transcripts.proofs.Numbering.{all_is_none}
use Rattle.core_transcripts.proofs.Owning.{IsOwned, fixed_fits, own_fits}
use Rattle.core_transcripts.proofs.Replies.{Later, given_fixed}

pub answers_up : (p : Phase) → IsTrue (is_up p) → IsTrue (is_answering p)
answers_up Up h = refl
answers_up Off h = absurd (false≢true h)
answers_up Still h = absurd (false≢true h)
answers_up (Doomed f) h = absurd (false≢true h)
answers_up Dead h = absurd (false≢true h)

-- ---- what a line under way is

pub record HasOperation (phase : Phase) (owes : Bool) (t : Told) (line : Line) (fixed : Option Reply) (got : Bool) : Type 0 where
  pub operation : Op
  pub is : operation_of line.what ≡ Some operation
  pub fits : LineFits phase owes t.state t.faulted operation fixed got

has_operation : (phase : Phase) (owes : Bool) (t : Told) (line : Line) (fixed : Option Reply) (got : Bool) (o : Option Op) → operation_of line.what ≡ o → AskFits phase owes t.state t.faulted o fixed got →
    HasOperation phase owes t line fixed got
has_operation phase owes t line fixed got None is h = absurd h
has_operation phase owes t line fixed got (Some o) is h = record { operation = o; is = is; fits = h }

pub operation_under : (phase : Phase) (owes : Bool) (t : Told) (u : Under) → IsUnder phase owes t (asked_of u) → HasOperation phase owes t u.line u.fixed u.get_failed
operation_under phase owes t u h = has_operation phase owes t u.line u.fixed u.get_failed (operation_of u.line.what) refl h.line

pub is_under : (phase : Phase) (owes : Bool) (t : Told) (o : Option Under) (u : Under) → o ≡ Some u → UnderFits phase owes t (option_map asked_of o) → IsUnder phase owes t (asked_of u)
is_under phase owes t o u e h = subst (λ o. UnderFits phase owes t (option_map asked_of o)) e h

pub if_some : (b : Bool) (x : Option Reply) (r : Reply) → (if b then x else None) ≡ Some r → IsTrue b × (x ≡ Some r)
if_some true x r e = (refl, e)
if_some false x r e = absurd (cc)

module _ (opening : Opening) (f : Faults) (stay : (early late server : ℕ) → early ≤ late → f early server ≡ true → f late server ≡ true) (c : Core) (saids : List Said)
    (numbered : IsNumbered c.setting.script) (going : c.over ≡ false) (g : CoreFits c.setting.script f saids c) where
  abbrev pub Now : ℕ → Told
  Now a = told_of c.setting.script f saids c.answered a

  pub none_all : (a : ℕ) (l : Line) → next_line c.setting.script c.answered a ≡ Some l → IsTrue (Now a).all → ⊥
  none_all a l next all = all_is_none c.setting.script c.answered a l all next

  -- ---- an answer that is due
  module _ (a : ℕ) (server : IsTrue (is_server a)) (u : Under) (under : (c.servers a).under ≡ Some u) (answers : IsTrue (is_answering (c.servers a).phase)) where
    pub it : IsUnder (c.servers a).phase (c.servers a).owes (Now a) (asked_of u)
    it = is_under (c.servers a).phase (c.servers a).owes (Now a) (c.servers a).under u under (g.servers a).under

    pub has : HasOperation (c.servers a).phase (c.servers a).owes (Now a) u.line u.fixed u.get_failed
    has = operation_under (c.servers a).phase (c.servers a).owes (Now a) u it

    module _ (r : Reply) where
      abbrev pub Then : Told
      Then = told_of c.setting.script f (saids ++ said.Answer (id_of a) u.line.number r ∷ []) (put c.answered u.line.number true) a

      pub later : Later (Now a) has.operation r Then
      later = later_told opening f stay c saids numbered going g a u.line has.operation r it.next has.is

      -- with the server so, and the answer given
      pub speaks : (v : Server) → Fits (key_of v) Then → ((d : ℕ) → IsTrue (key_works a (key_of v)) → (key_of v).saves ≡ Some d → IsTrue (key_works a (key_of (c.servers a))) × ((key_of (c.servers a)).saves ≡ Some d)) →
          IsTrue (may_answer (Now a).state (Now a).faulted has.operation r) → (deeds : List Deed) → saids_of deeds ≡ said.Answer (id_of a) u.line.number r ∷ [] → (d : Core) →
          ((i : ℕ) → d.servers i ≡ put c.servers a v i) → d.answered ≡ put c.answered u.line.number true → d.over ≡ c.over → d.shown ≡ c.shown →
          Turn (MaySayButTree c.setting.script opening f) c.setting.script f saids deeds d
      speaks v fits saves given deeds says d servers answered over shown =
          Speaks (said.Answer (id_of a) u.line.number r) says (server_given opening f stay c saids numbered going g a u.line has.operation r it.next has.is it.hosts given)
          (subst (λ o. Fitting c.setting.script f told (λ i. key_of (d.servers i)) d.answered o d.shown) (sym over)
          (subst (λ s. Fitting c.setting.script f told (λ i. key_of (d.servers i)) d.answered c.over s) (sym shown)
          (subst (λ m. Fitting c.setting.script f told (λ i. key_of (d.servers i)) m c.over c.shown) (sym answered)
          (same_keys c.setting.script f told (put c.answered u.line.number true) c.over c.shown (λ i. key_of (put c.servers a v i)) (λ i. key_of (d.servers i)) (λ i. ap key_of (servers i))
          (server_answered opening f stay c saids numbered going g a u.line has.operation r v it.next has.is server fits saves)))))
        where
          told : List Said
          told = saids ++ said.Answer (id_of a) u.line.number r ∷ []

    answered_turn : (r : Reply) → (o : Option Op) → operation_of u.line.what ≡ o → (fixed : Option Reply) → u.fixed ≡ fixed → answer_of fixed (own_answer_of c.setting.logs c.flights a (c.servers a) u o) ≡ Some r →
        Turn (MaySayButTree c.setting.script opening f) c.setting.script f saids (says_answer a (Some u) (Some r)) (answered_under c a (Some u) (Some r))
    answered_turn r None is fixed e due = absurd (no_op (operation_of u.line.what) is has.is)
      where
        no_op : (o : Option Op) → o ≡ None → o ≡ Some has.operation → ⊥
        no_op o e f = absurd (cc)
    answered_turn r (Some o) is fixed e due = go fixed e due
      where
        same : o ≡ has.operation
        same = same_Some o has.operation (sym is ∙ has.is)

        v : Server
        v = answered_by c u (c.servers a) has.operation r

        after_it : Fits (key_of v) (Then r) → ((d : ℕ) → IsTrue (key_works a (key_of v)) → (key_of v).saves ≡ Some d → IsTrue (key_works a (key_of (c.servers a))) × ((key_of (c.servers a)).saves ≡ Some d)) →
            IsTrue (may_answer (Now a).state (Now a).faulted has.operation r) → Turn (MaySayButTree c.setting.script opening f) c.setting.script f saids (says_answer a (Some u) (Some r)) (answered_under c a (Some u) (Some r))
        after_it fits saves given =
            subst (λ w. Turn (MaySayButTree c.setting.script opening f) c.setting.script f saids (says_answer a (Some u) (Some r)) (answered_with c a u r w)) (sym has.is)
            (speaks r v fits saves given (says_answer a (Some u) (Some r)) refl (answered_with c a u r (Some has.operation)) (λ i. refl) refl refl refl)

        by_fixed : u.fixed ≡ Some r → Fits (key_of v) (Then r)
        by_fixed e =
            subst (λ x. Fits (key_of (record (if is_some x then answered_fixed (c.servers a) has.operation r else answered_open c u (c.servers a) has.operation r) { under = None })) (Then r)) (sym e)
            (fixed_fits (c.servers a) (Now a) (Then r) has.operation r u.get_failed (later r) (none_all a u.line it.next) (g.servers a) answers
            (subst (λ x. LineFits (c.servers a).phase (c.servers a).owes (Now a).state (Now a).faulted has.operation x u.get_failed) e has.fits))

        fixed_saves : u.fixed ≡ Some r → (d : ℕ) → IsTrue (key_works a (key_of v)) → (key_of v).saves ≡ Some d → IsTrue (key_works a (key_of (c.servers a))) × ((key_of (c.servers a)).saves ≡ Some d)
        fixed_saves e =
            subst (λ x. (d : ℕ) → IsTrue (key_works a (key_of (record (if is_some x then answered_fixed (c.servers a) has.operation r else answered_open c u (c.servers a) has.operation r) { under = None }))) →
            (key_of (record (if is_some x then answered_fixed (c.servers a) has.operation r else answered_open c u (c.servers a) has.operation r) { under = None })).saves ≡ Some d →
            IsTrue (key_works a (key_of (c.servers a))) × ((key_of (c.servers a)).saves ≡ Some d)) (sym e) (by_owing (is_unmount has.operation && is_ok r))
          where
            by_owing : (b : Bool) (d : ℕ) → IsTrue (key_works a (key_of (record (if b then record (c.servers a) { owes = false } else c.servers a) { under = None }))) →
                (key_of (record (if b then record (c.servers a) { owes = false } else c.servers a) { under = None })).saves ≡ Some d →
                IsTrue (key_works a (key_of (c.servers a))) × ((key_of (c.servers a)).saves ≡ Some d)
            by_owing true d w s = (w, s)
            by_owing false d w s = (w, s)

        fixed_given : u.fixed ≡ Some r → IsTrue (may_answer (Now a).state (Now a).faulted has.operation r)
        fixed_given e =
            given_fixed (c.servers a).phase (c.servers a).owes (Now a).state (Now a).all (Now a).faulted has.operation r u.get_failed answers (g.servers a).calm (g.servers a).phase (g.servers a).owing
            (subst (λ x. LineFits (c.servers a).phase (c.servers a).owes (Now a).state (Now a).faulted has.operation x u.get_failed) e has.fits)

        by_own : u.fixed ≡ None → own_answer_of c.setting.logs c.flights a (c.servers a) u (Some has.operation) ≡ Some r → IsOwned c a u (c.servers a) (Now a) (Then r) has.operation r
        by_own e due =
            own_fits c a u (c.servers a) (Now a) (Then r) server (server_no_host a server) (none_all a u.line it.next) (g.servers a) answers has.operation r
            (subst (λ x. LineFits (c.servers a).phase (c.servers a).owes (Now a).state (Now a).faulted has.operation x u.get_failed) e has.fits) (later r) due

        own_turn : u.fixed ≡ None → IsOwned c a u (c.servers a) (Now a) (Then r) has.operation r → Turn (MaySayButTree c.setting.script opening f) c.setting.script f saids (says_answer a (Some u) (Some r)) (answered_under c a (Some u) (Some r))
        own_turn e w =
            after_it
            (subst (λ x. Fits (key_of (record (if is_some x then answered_fixed (c.servers a) has.operation r else answered_open c u (c.servers a) has.operation r) { under = None })) (Then r)) (sym e) w.fits)
            (subst (λ x. (d : ℕ) → IsTrue (key_works a (key_of (record (if is_some x then answered_fixed (c.servers a) has.operation r else answered_open c u (c.servers a) has.operation r) { under = None }))) →
            (key_of (record (if is_some x then answered_fixed (c.servers a) has.operation r else answered_open c u (c.servers a) has.operation r) { under = None })).saves ≡ Some d →
            IsTrue (key_works a (key_of (c.servers a))) × ((key_of (c.servers a)).saves ≡ Some d)) (sym e) w.saves) w.given

        go : (fixed : Option Reply) → u.fixed ≡ fixed → answer_of fixed (own_answer_of c.setting.logs c.flights a (c.servers a) u (Some o)) ≡ Some r →
            Turn (MaySayButTree c.setting.script opening f) c.setting.script f saids (says_answer a (Some u) (Some r)) (answered_under c a (Some u) (Some r))
        go (Some x) e due = let k : u.fixed ≡ Some r = e ∙ due in after_it (by_fixed k) (fixed_saves k) (fixed_given k)
        go None e due = own_turn e (by_own e (subst (λ o. own_answer_of c.setting.logs c.flights a (c.servers a) u (Some o) ≡ Some r) same due))

  pub due_turn : (a : ℕ) → CanAnswer c a → Turn (MaySayButTree c.setting.script opening f) c.setting.script f saids (says_answer a (c.servers a).under (due_at c a)) (answered_under c a (c.servers a).under (due_at c a))
  due_turn a can = by_answer (due_at c a) refl can.due
    where
      by_under : (r : Reply) → due_at c a ≡ Some r → IsTrue (is_answering (c.servers a).phase) → (o : Option Under) → (c.servers a).under ≡ o → due_under c.setting.logs c.flights a (c.servers a) o ≡ Some r →
          Turn (MaySayButTree c.setting.script opening f) c.setting.script f saids (says_answer a (c.servers a).under (due_at c a)) (answered_under c a (c.servers a).under (due_at c a))
      by_under r e answers None under due = absurd (cc)
      by_under r e answers (Some u) under due =
          subst (λ x. Turn (MaySayButTree c.setting.script opening f) c.setting.script f saids (says_answer a x (due_at c a)) (answered_under c a x (due_at c a))) (sym under)
          (subst (λ x. Turn (MaySayButTree c.setting.script opening f) c.setting.script f saids (says_answer a (Some u) x) (answered_under c a (Some u) x)) (sym e)
          (answered_turn a can.server u under answers r (operation_of u.line.what) refl u.fixed refl due))

      by_answer : (x : Option Reply) → due_at c a ≡ x → IsSome x → Turn (MaySayButTree c.setting.script opening f) c.setting.script f saids (says_answer a (c.servers a).under (due_at c a)) (answered_under c a (c.servers a).under (due_at c a))
      by_answer None e some = absurd (false≢true some)
      by_answer (Some r) e some =
          let d : IsTrue (is_answering (c.servers a).phase) × (due_under c.setting.logs c.flights a (c.servers a) (c.servers a).under ≡ Some r) =
          if_some (is_answering (c.servers a).phase) (due_under c.setting.logs c.flights a (c.servers a) (c.servers a).under) r e in
          by_under r e d.0 (c.servers a).under refl d.1
