-- What is judged of lines that were said in a run on a fresh disk, and what a verdict says: where each of three rules breaks first.
use Rattle.std.specs.Prelude.{◌≤◌, ◌<◌, ℕ, Bool, Option, Some, None, List, length, take}
use Rattle.frang_base.specs.declared.said.Said.{Said}
use Rattle.frang_base.specs.declared.script.Line.{Line}
use Rattle.tree_definitions.specs.History.{fresh_opening}
use Rattle.tree_definitions.specs.Live.{live_history}
use Rattle.tree_definitions.specs.Removal.{IsLegal, Keeps}
use Rattle.tree_definitions.specs.Transcript.{IsTranscript}
use Rattle.transcript_rules.specs.Tells.{granted_faults}
use Rattle.judge_rules.specs.declared.verdict.Verdict.{Verdict}

-- the lines are a well-formed transcript of the script, the lines of the tree included
abbrev pub AreTranscript : List Line → ℕ → Bool → List Said → Type 0
AreTranscript script segments granted saids = IsTranscript script (fresh_opening segments) (granted_faults granted) saids

-- their history is legal
abbrev pub AreLegal : List Line → ℕ → List Said → Type 0
AreLegal script segments saids = IsLegal (fresh_opening segments) (live_history script 1 saids)

-- each recovery kept what must be kept
abbrev pub AreKept : List Line → ℕ → List Said → Type 0
AreKept script segments saids = Keeps (fresh_opening segments) (live_history script 1 saids)

-- a rule holds of every beginning of the lines; or it breaks first at so many: it holds of each shorter beginning, and not of this one
abbrev pub BreaksAt : (List Said → Type 0) → List Said → Option ℕ → Type 0
BreaksAt Rule saids None = (k : ℕ) → Rule (take k saids)
BreaksAt Rule saids (Some n) = (n ≤ length saids) × ((k : ℕ) → k < n → Rule (take k saids)) × ¬ Rule (take n saids)

-- a verdict of the three
pub record IsVerdict (script : List Line) (segments : ℕ) (granted : Bool) (saids : List Said) (v : Verdict) : Type 0 where
  pub transcript : BreaksAt (AreTranscript script segments granted) saids v.transcript
  pub legal : BreaksAt (AreLegal script segments) saids v.legal
  pub kept : BreaksAt (AreKept script segments) saids v.kept
