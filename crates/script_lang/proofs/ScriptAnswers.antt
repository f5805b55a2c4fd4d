-- What a reading of a script tells of the grammar.
use Rattle.std.proofs.Common.{◌≡◌, ℕ, List, Result, Ok, Err, sym, ◌∙◌}
use Rattle.std.specs.Result.{IfOk}
use Rattle.frang_base.specs.declared.script.Line.{Line}
use Rattle.script_definitions.specs.ScriptGrammar.{IsScriptText}
use Rattle.script_definitions.specs.ScriptText.{script_of}
use Rattle.script_definitions.specs.declared.fault.ScriptFault.{ScriptFault}
use Rattle.script_definitions.proofs.JudgedLaws.{text_sound, text_complete}
use Rattle.script_lang.specs.Answers.{GivesNumbered, IfBad}
use Rattle.script_lang.specs.declared.refusal.ReadFault.{ReadFault}
use Rattle.script_lang.specs.declared.refusal.ReadFault.TheVariants as read

pub read_found : (bytes : List ℕ) (r : Result (List Line) ReadFault) → GivesNumbered (script_of bytes) r → IfOk r (λ script. IsScriptText bytes script)
read_found bytes (Ok script) h = text_sound bytes script h
read_found bytes (Err read.NoMemory) h = tt
read_found bytes (Err (read.Bad f)) h = tt

no_script : (bytes : List ℕ) (f : ScriptFault) (script : List Line) → script_of bytes ≡ Err f → IsScriptText bytes script → ⊥
no_script bytes f script e t = (let both : Ok script ≡ Err f = sym (text_complete bytes script t) ∙ e in cc)

pub read_none : (bytes : List ℕ) (r : Result (List Line) ReadFault) → GivesNumbered (script_of bytes) r → IfBad r ((script : List Line) → IsScriptText bytes script → ⊥)
read_none bytes (Ok script) h = tt
read_none bytes (Err read.NoMemory) h = tt
read_none bytes (Err (read.Bad f)) h = λ script t. no_script bytes f script h t
