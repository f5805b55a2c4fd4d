-- A finished line, part by part, is the outcome that the core has of it.
use Rattle.std.proofs.Common.{◌≡◌, ℕ, Option, List, [], sym, ap, ◌∙◌}
use Rattle.std.proofs.Math.Path.{fun_ext}
use Rattle.std.specs.List.{filter_map}
use Rattle.std.specs.Option.{option_and_then, option_map, unwrap_or}
use Rattle.frang_base.specs.declared.change.Redo.{Redo}
use Rattle.frang_base.specs.declared.lock.LockId.{LockId}
use Rattle.frang_base.specs.declared.reply.Reply.{Reply}
use Rattle.frang_base.specs.declared.script.Line.{Line}
use Rattle.tree_definitions.specs.Live.{number_of as operation_number}
use Rattle.disk_definitions.specs.Ask.{Sector, number_of}
use Rattle.disk_definitions.specs.CoversAtHand.{cover_among}
use Rattle.disk_definitions.specs.Edits.{Edit}
use Rattle.disk_definitions.specs.Moves.{moved_by}
use Rattle.disk_definitions.specs.Numbered.{sector_at}
use Rattle.disk_definitions.specs.Plans.{Finish}
use Rattle.disk_definitions.specs.Written.{changes_of, edited_block, sectors_at_hand}
use Rattle.core_definitions.specs.Plans.{BytesSet, Outcome, Sight, outcome_of, place_of, record_of}
use Rattle.core_definitions.specs.Settings.{Setting}
use Rattle.edit_moves.specs.Moves.{cover_in}
use Rattle.planned_lines.specs.declared.finished.Finished.{Finished}
use Rattle.planned_lines.specs.Outcomes.{IsFinished, outcome_as}

abbrev made : Reply → Option Redo → List BytesSet → List ℕ → (ℕ → Option LockId) → Outcome
made reply redo bytes freed moves = record { reply = reply; redo = redo; bytes = bytes; freed = freed; moves = moves }

same_made : (r s : Reply) (d e : Option Redo) (b c : List BytesSet) (f g : List ℕ) (m n : ℕ → Option LockId) → r ≡ s → d ≡ e → b ≡ c → f ≡ g → m ≡ n → made r d b f m ≡ made s e c g n
same_made r s d e b c f g m n p q u v w =
    ap (λ x. made x d b f m) p ∙ (ap (λ x. made s x b f m) q ∙ (ap (λ x. made s e x f m) u ∙ (ap (λ x. made s e c x m) v ∙ ap (λ x. made s e c g x) w)))

-- what an edit sets, by where sectors move
abbrev set_with : Sight → List ℕ → (Sector → Option LockId) → Edit → Option BytesSet
set_with sight nodes move edit =
    option_map
    (λ place. record { sector = number_of place; block = edited_block [] 0 edit; cover = unwrap_or (move place) (cover_among sight.cached sight.held nodes place) })
    (place_of edit)

pub outcome_is : (segments number : ℕ) (nodes : List ℕ) (sight : Sight) (finish : Finish) (done : Finished) → IsFinished sight number nodes finish.reply finish.edits done →
    (setting : Setting) (line : Line) → setting.segments ≡ segments → operation_number setting.run line.number ≡ number → outcome_as segments done ≡ outcome_of setting line nodes sight finish
outcome_is segments number nodes sight finish done is setting line few same =
    let moves : cover_in done.moves.items ≡ moved_by finish.edits = fun_ext is.moved in
    let changes = changes_of (sectors_at_hand sight.cached sight.held) finish.edits in
    let by_number : (Sector → Option LockId) → ℕ → Option LockId = λ m n. option_and_then m (sector_at segments n) in
    let on_disk : ℕ → ℕ → Option LockId = λ s n. option_and_then (moved_by finish.edits) (sector_at s n) in
    same_made _ _ _ _ _ _ _ _ _ _ is.replied (is.recorded ∙ ap (λ n. record_of n changes) (sym same))
    (is.set ∙ ap (λ m. filter_map (set_with sight nodes m) finish.edits) moves) is.given_back
    (ap by_number moves ∙ ap on_disk (sym few))
