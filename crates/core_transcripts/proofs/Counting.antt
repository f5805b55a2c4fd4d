-- As many answers of a party among the lines said as in the record.
use Rattle.std.proofs.Common.{◌≡◌, ℕ, suc, Bool, true, false, ◌==◌, cond, List, [], ◌∷◌, ◌++◌, filter, length, refl, ap}
use Rattle.std.specs.List.{slice_get}
use Rattle.frang_base.specs.declared.said.Said.TheVariants as said
use Rattle.frang_base.specs.declared.script.Line.{Line}
use Rattle.tree_definitions.specs.Transcript.{is_answer_of}
use Rattle.core_definitions.specs.Effects.{Deed, Made, Says}
use Rattle.core_definitions.specs.Runs.{saids_of}
use Rattle.core_transcripts.specs.Answers.{answered_by, answered_lines, answers_in, numbers_of}
use Rattle.core_transcripts.proofs.Places.{first_line}

pub as_many : (who : ℕ) (deeds : List Deed) → length (filter (is_answer_of who) (saids_of deeds)) ≡ length (answered_by who (answers_in deeds))
as_many who [] = refl
as_many who (Made put taken ∷ deeds) = as_many who deeds
as_many who (Says (said.Answer server number reply) ∷ deeds) = go (server.0 == who) (as_many who deeds)
  where
    go : (b : Bool) → length (filter (is_answer_of who) (saids_of deeds)) ≡ length (answered_by who (answers_in deeds)) →
        length (cond b (said.Answer server number reply ∷ filter (is_answer_of who) (saids_of deeds)) (filter (is_answer_of who) (saids_of deeds))) ≡
        length (answered_lines (cond b ((server.0, number) ∷ filter (λ answer. answer.0 == who) (answers_in deeds)) (filter (λ answer. answer.0 == who) (answers_in deeds))))
    go true rest = ap suc rest
    go false rest = rest
as_many who (Says (said.Dead server) ∷ deeds) = as_many who deeds
as_many who (Says (said.Recovering server by) ∷ deeds) = as_many who deeds
as_many who (Says (said.Recovered server kept) ∷ deeds) = as_many who deeds
as_many who (Says (said.Renewed server) ∷ deeds) = as_many who deeds
as_many who (Says (said.Node path kind size links) ∷ deeds) = as_many who deeds
as_many who (Says (said.Redo op) ∷ deeds) = as_many who deeds
as_many who (Says (said.Backup line) ∷ deeds) = as_many who deeds
as_many who (Says (said.Locks line) ∷ deeds) = as_many who deeds
as_many who (Says (said.Shown text) ∷ deeds) = as_many who deeds
as_many who (Says said.End ∷ deeds) = as_many who deeds

-- the line behind the first ones
pub line_behind : (done rest : List Line) → slice_get (done ++ rest) (length done) ≡ first_line rest
line_behind [] [] = refl
line_behind [] (line ∷ lines) = refl
line_behind (line ∷ lines) rest = line_behind lines rest

pub length_numbers : (lines : List Line) → length (numbers_of lines) ≡ length lines
length_numbers [] = refl
length_numbers (line ∷ lines) = ap suc (length_numbers lines)
