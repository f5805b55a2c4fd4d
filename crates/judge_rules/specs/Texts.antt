-- What is judged of a script and said lines as texts.
use Rattle.std.specs.Prelude.{◌≡◌, ℕ, Bool, Ok, Err, List, []}
use Rattle.frang_base.specs.declared.said.Said.{Said}
use Rattle.frang_base.specs.declared.script.Line.{Line}
use Rattle.script_definitions.specs.declared.fault.ScriptFault.{ScriptFault}
use Rattle.script_definitions.specs.ScriptText.{script_of}
use Rattle.said_files.specs.Reading.{saids_from}
use Rattle.judge_rules.specs.declared.verdict.Verdict.{Verdict}
use Rattle.judge_rules.specs.declared.texts.Judged.{Judged}
use Rattle.judge_rules.specs.declared.texts.Judged.TheVariants.{Found, BadScript, BadLine}
use Rattle.judge_rules.specs.Verdicts.{IsVerdict}

-- the texts are a script and said lines, and the verdict is theirs
pub record AreJudged (script said : List ℕ) (segments : ℕ) (granted : Bool) (v : Verdict) : Type 0 where
  pub lines : List Line
  pub is_script : script_of script ≡ Ok lines
  pub saids : List Said
  pub are_said : saids_from 1 [] said ≡ Ok saids
  pub verdict : IsVerdict lines segments granted saids v

-- the first bad line of a script, and that of said lines beside a script
pub record IsBadScript (script : List ℕ) (line : ℕ) : Type 0 where
  pub fault : ScriptFault
  pub is_fault : script_of script ≡ Err fault
  pub is_line : fault.line ≡ line

pub record IsBadLine (script said : List ℕ) (line : ℕ) : Type 0 where
  pub lines : List Line
  pub is_script : script_of script ≡ Ok lines
  pub is_bad : saids_from 1 [] said ≡ Err line

abbrev pub IsJudged : List ℕ → List ℕ → ℕ → Bool → Judged → Type 0
IsJudged script said segments granted (Found found) = AreJudged script said segments granted found.verdict
IsJudged script said segments granted (BadScript line) = IsBadScript script line
IsJudged script said segments granted (BadLine line) = IsBadLine script said line
