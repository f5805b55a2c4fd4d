-- The lines of the tree, and the end.
use Rattle.std.proofs.Common.{ℕ, ◌≡◌, ◌≤◌, ◌+◌, Bool, true, false, not, ◌&&◌, IsTrue, List, [], ◌∷◌, Option, Some, None, refl, sym, subst, arith}
use Rattle.std.proofs.lemmas.Bool.{false≢true, not_from_false, and_from}
use Rattle.std.specs.List.{slice_get}
use Rattle.disk_definitions.proofs.Listed.{all_at, all_from}
use Rattle.frang_base.specs.declared.said.Said.{Said}
use Rattle.frang_base.specs.declared.said.Said.TheVariants as said
use Rattle.tree_definitions.specs.History.{Opening}
use Rattle.tree_definitions.specs.Numbers.{below}
use Rattle.tree_definitions.specs.Transcript.{Faults, Phase as ToldPhase, all_settled, are_answered, is_node, is_over, is_settled, state_of}
use Rattle.tree_definitions.specs.Transcript.Phase.{Off as ToldOff, Up as ToldUp, Stalled, Dead as ToldDead}
use Rattle.core_definitions.specs.Servers.{Phase, Off, Up, Still, Doomed, Dead, is_off}
use Rattle.core_definitions.specs.Cores.{Core, server_numbers, tree_lines}
use Rattle.core_definitions.specs.EndGuards.{CanEnd, CanShow, IsTreeRead}
use Rattle.core_definitions.specs.EndEffects.{ended, tree_line_said}
use Rattle.core_definitions.specs.Effects.{Says, says_node}
use Rattle.core_laws.proofs.Parties.{server_in}
use Rattle.core_transcripts.specs.Transcripts.{IsNumbered, MayEnd, MaySayButTree}
use Rattle.core_transcripts.proofs.Fits.{PhaseFits, key_of}
use Rattle.core_transcripts.proofs.Fitting.{AtRest, told_of}
use Rattle.core_transcripts.proofs.Happening.{CoreFits, Turn, Quiet, Speaks}
use Rattle.core_transcripts.proofs.Saying.{are_marked}
use Rattle.core_transcripts.proofs.Spoken.{end_fitting, node_fitting}
use Rattle.core_transcripts.proofs.Telling.{below_less, got_in, tree_nodes}

off_settled : (p : Phase) (q : ToldPhase) (all e : Bool) → IsTrue (is_off p) → PhaseFits p q all e → IsTrue (is_settled q)
off_settled Off ToldOff all e h fits = refl
off_settled Off ToldUp all e h fits = refl
off_settled Off Stalled all e h fits = absurd fits
off_settled Off ToldDead all e h fits = absurd fits
off_settled Up q all e h fits = absurd (false≢true h)
off_settled Still q all e h fits = absurd (false≢true h)
off_settled (Doomed f) q all e h fits = absurd (false≢true h)
off_settled Dead q all e h fits = absurd (false≢true h)

some_said : (n : ℕ) → n + 1 ≡ 0 → ⊥
some_said n e = absurd (omega (arith, e))

module _ (opening : Opening) (f : Faults) (stay : (early late server : ℕ) → early ≤ late → f early server ≡ true → f late server ≡ true) (c : Core) (saids : List Said)
    (numbered : IsNumbered c.setting.script) (going : c.over ≡ false) (g : CoreFits c.setting.script f saids c) where
  at_rest : IsTreeRead c → AtRest c.setting.script (λ i. key_of (c.servers i)) c.answered
  at_rest read = record { all = read.answered; off = λ i server. all_at (λ a. is_off (c.servers a).phase) server_numbers read.off i (server_in i server) }

  may_end : IsTreeRead c → MayEnd c.setting.script f saids
  may_end read =
      and_from (not (is_over c.setting.script saids) && are_answered c.setting.script saids) (all_settled c.setting.script f saids)
      (and_from (not (is_over c.setting.script saids)) (are_answered c.setting.script saids) (not_from_false (is_over c.setting.script saids) (g.going going))
      (subst (λ b. IsTrue b) (sym (are_marked c.answered saids c.setting.script g.marks)) read.answered))
      (all_from (λ server. is_settled (state_of c.setting.script f server saids).phase) (below 16)
      (λ i there. off_settled (c.servers i).phase (state_of c.setting.script f i saids).phase (told_of c.setting.script f saids c.answered i).all (told_of c.setting.script f saids c.answered i).faulted
      ((at_rest read).off i (below_less 16 i there)) (g.servers i).phase))

  said_node : (x : Said) → is_node x ≡ true → IsTreeRead c → Turn (MaySayButTree c.setting.script opening f) c.setting.script f saids (Says x ∷ []) (tree_line_said c)
  said_node (said.Node path kind size links) n read =
      Speaks (said.Node path kind size links) refl (may_end read)
      (node_fitting c.setting.script numbered.apart f stay saids (λ i. key_of (c.servers i)) c.answered c.over c.shown g path kind size links (c.shown + 1) (some_said c.shown) (at_rest read))
  said_node x n read = absurd (false≢true n)

  pub show_turn : (place : ℕ) → CanShow c place → Turn (MaySayButTree c.setting.script opening f) c.setting.script f saids (says_node (slice_get (tree_lines c) place)) (tree_line_said c)
  show_turn place can = go (slice_get (tree_lines c) place) refl
    where
      go : (o : Option Said) → slice_get (tree_lines c) place ≡ o → Turn (MaySayButTree c.setting.script opening f) c.setting.script f saids (says_node (slice_get (tree_lines c) place)) (tree_line_said c)
      go None e =
          subst (λ o. Turn (MaySayButTree c.setting.script opening f) c.setting.script f saids (says_node o) (tree_line_said c)) (sym e)
          (Quiet refl
          (record {
            servers = g.servers;
            rescues = g.rescues;
            marks = g.marks;
            firsts = g.firsts;
            going = g.going;
            unshown = λ z. absurd (some_said c.shown z);
            resting = g.resting;
            host = g.host;
          }))
      go (Some x) e =
          subst (λ o. Turn (MaySayButTree c.setting.script opening f) c.setting.script f saids (says_node o) (tree_line_said c)) (sym e)
          (said_node x (tree_nodes c.setting.segments c.read x (got_in (tree_lines c) place x e)) can.read)

  pub end_turn : CanEnd c → Turn (MaySayButTree c.setting.script opening f) c.setting.script f saids (Says said.End ∷ []) (ended c)
  end_turn can =
      Speaks said.End refl (may_end can.read) (end_fitting c.setting.script numbered.apart f stay saids (λ i. key_of (c.servers i)) c.answered c.over c.shown g (at_rest can.read))
