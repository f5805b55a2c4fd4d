-- What one answer more, or nothing, adds to the history that the lines said tell.
use Rattle.std.proofs.Common.{ℕ, ◌≡◌, List, [], ◌∷◌, ◌++◌, Some, ap, ◌∙◌, append-nil}
use Rattle.frang_base.specs.declared.op.Op.{Op}
use Rattle.frang_base.specs.declared.reply.Reply.{Reply}
use Rattle.frang_base.specs.declared.said.Said.TheVariants as said
use Rattle.frang_base.specs.declared.script.Line.{Line}
use Rattle.tree_definitions.specs.declared.history.Item.TheVariants.{Did}
use Rattle.tree_definitions.specs.Live.{item_of, item_of_line, item_of_what, line_of, live_history, script_time}
use Rattle.tree_laws.proofs.TranscriptLaws.{live-append, live-push}
use Rattle.core_definitions.specs.Effects.{Deed, id_of}
use Rattle.core_definitions.specs.Lines.{operation_of}
use Rattle.core_definitions.specs.Runs.{saids_of}
use Rattle.core_definitions.specs.Settings.{Setting}
use Rattle.core_transcripts.proofs.Happening.{server_asks}
use Rattle.core_transcripts.proofs.Running.{said_more}
use Rattle.core_histories.specs.Tellings.{entry_of}

module _ (setting : Setting) where
  -- an answer to a line of the script that asks what a server is asked is one entry
  pub line_told : (a number : ℕ) (l : Line) (o : Op) (r : Reply) → line_of setting.script number ≡ Some l → operation_of l.what ≡ Some o →
      item_of setting.script setting.run (said.Answer (id_of a) number r) ≡ Did (entry_of setting a number o r) ∷ []
  line_told a number l o r there asked =
      ap (item_of_line setting.run (id_of a) r number (script_time setting.script number)) there
      ∙ ap (item_of_what setting.run (id_of a) r number (script_time setting.script number)) (server_asks l.what o asked)

  -- deeds that say one such answer add it
  pub answer_adds : (before deeds : List Deed) (a number : ℕ) (l : Line) (o : Op) (r : Reply) → saids_of deeds ≡ said.Answer (id_of a) number r ∷ [] → line_of setting.script number ≡ Some l →
      operation_of l.what ≡ Some o →
      live_history setting.script setting.run (saids_of (before ++ deeds)) ≡ live_history setting.script setting.run (saids_of before) ++ Did (entry_of setting a number o r) ∷ []
  answer_adds before deeds a number l o r says there asked =
      ap (live_history setting.script setting.run) (said_more before deeds ∙ ap (λ x. saids_of before ++ x) says)
      ∙ live-push setting.script setting.run (saids_of before) (said.Answer (id_of a) number r)
      ∙ ap (λ x. live_history setting.script setting.run (saids_of before) ++ x) (line_told a number l o r there asked)

  -- and deeds of which no line is an entry add nothing
  pub none_adds : (before deeds : List Deed) → live_history setting.script setting.run (saids_of deeds) ≡ [] →
      live_history setting.script setting.run (saids_of (before ++ deeds)) ≡ live_history setting.script setting.run (saids_of before)
  none_adds before deeds none =
      ap (live_history setting.script setting.run) (said_more before deeds)
      ∙ live-append setting.script setting.run (saids_of before) (saids_of deeds)
      ∙ ap (λ x. live_history setting.script setting.run (saids_of before) ++ x) none
      ∙ append-nil (live_history setting.script setting.run (saids_of before))
