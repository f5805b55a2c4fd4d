-- What the code has of a script and of the lines said so far.
use Rattle.std.specs.Prelude.{◌≡◌, ◌≤◌, ℕ, ◌+◌, Bool, true, false, not, ◌&&◌, ◌||◌, ◌==◌, IsTrue, Option, Some, None, List, [], ◌∷◌, ◌++◌, length, filter, take, drop}
use Rattle.std.specs.List.{list_any, list_all, slice_get}
use Rattle.std.specs.Ordering.{nat_cmp}
use Rattle.std.specs.BTreeSet.{BTreeSet, contains}
use Rattle.frang_base.specs.declared.said.Said.{Said}
use Rattle.frang_base.specs.declared.said.Said.TheVariants as said
use Rattle.frang_base.specs.declared.script.Line.{Line}
use Rattle.tree_definitions.specs.History.{Opening}
use Rattle.tree_definitions.specs.Transcript.{Faults, MaySay, all_settled, answers, are_answered, is_answer_of, is_node, is_over, lines_for, live_tree, may_be_dirty, nodes_said, state_of}
use Rattle.transcript_rules.specs.declared.phases.Party.{Party}
use Rattle.transcript_rules.specs.Parties.{state_by}

-- the faults that are granted: none, or each from the start
abbrev pub granted_faults : Bool → Faults
granted_faults granted place server = granted

-- numbers ascend from one on
abbrev pub AscendFrom : ℕ → List Line → Type 0
AscendFrom n [] = Unit {0}
AscendFrom n (line ∷ lines) = (n ≤ line.number) × AscendFrom (line.number + 1) lines

-- a line of the host, or any line
abbrev pub wanted : Bool → Line → Bool
wanted true l = l.who.0 == 255
wanted false l = true

-- a line for which nothing waits: another party's, or one that is answered
abbrev pub passed : Bool → List Said → Line → Bool
passed hosts before l = not (wanted hosts l) || list_any (answers l.number) before

-- a party: its state, whether it may have something to lose, and that none of its lines before a place is still to be answered
pub record IsParty (script : List Line) (granted : Bool) (before : List Said) (who : ℕ) (p : Party) : Type 0 where
  pub state : state_by p ≡ state_of script (granted_faults granted) who before
  pub dirty : p.dirty ≡ may_be_dirty script who before
  pub next : lines_for who (drop p.next script) ≡ drop (length (filter (is_answer_of who) before)) (lines_for who script)

-- all of it
pub record Tells (script : List Line) (granted : Bool) (before : List Said) (parties : List Party) (answered : BTreeSet ℕ) (hosts all : ℕ) (over begun : Bool) (nodes : ℕ) : Type 0 where
  pub ascend : AscendFrom 0 script
  pub count : length parties ≡ 256
  pub each : (who : ℕ) (p : Party) → slice_get parties who ≡ Some p → IsParty script granted before who p
  pub marked : (n : ℕ) → contains nat_cmp answered n ≡ list_any (answers n) before
  pub hosts_passed : list_all (passed true before) (take hosts script) ≡ true
  pub all_passed : list_all (passed false before) (take all script) ≡ true
  pub is_over_now : over ≡ is_over script before
  pub is_begun : begun ≡ list_any is_node before
  pub nodes_are : nodes ≡ nodes_said before

-- a script, and as many of these lines as were said
pub record SoFar : Type 0 where
  pub script : List Line
  pub granted : Bool
  pub saids : List Said
  pub place : ℕ

-- the lines said before the next one
abbrev pub before : SoFar → List Said
before t = take t.place t.saids

-- one line more
abbrev pub onward : SoFar → SoFar
onward t = record t { place = t.place + 1 }

-- the lines of the tree are at hand where a line of it is said, or the end
abbrev pub HasTree : SoFar → Opening → List Said → Said → Type 0
HasTree t opening lines (said.Node path kind size links) = lines ≡ live_tree t.script opening (before t)
HasTree t opening lines said.End = lines ≡ live_tree t.script opening (before t)
HasTree t opening lines _ = Unit {0}

abbrev pub HasTreeAt : SoFar → Opening → List Said → Option Said → Type 0
HasTreeAt t opening lines None = Unit {0}
HasTreeAt t opening lines (Some next) = HasTree t opening lines next

-- the next line may be said
abbrev pub MayGoOn : SoFar → Opening → Option Said → Type 0
MayGoOn t opening None = Unit {0}
MayGoOn t opening (Some next) = MaySay t.script opening (granted_faults t.granted) (before t) next

-- a test of whether the next line may be said, by which it is taken
abbrev pub Steps : SoFar → SoFar → Bool → Bool → Type 0
Steps old new may it = (it ≡ may) × (it ≡ true → new ≡ onward old)

-- the same of a line of the tree, of which these are all lines, and of the end
abbrev pub may_end : SoFar → Bool
may_end t = not (is_over t.script (before t)) && are_answered t.script (before t) && all_settled t.script (granted_faults t.granted) (before t)

abbrev pub StepsNode : SoFar → SoFar → List Said → Said → Bool → Type 0
StepsNode old new lines line it =
    (it ≡ true → IsTrue (may_end old) × (slice_get lines (nodes_said (before old)) ≡ Some line) × (new ≡ onward old))
    × (it ≡ false → IsTrue (may_end old) × (slice_get lines (nodes_said (before old)) ≡ Some line) → ⊥)

abbrev pub StepsEnd : SoFar → SoFar → List Said → Bool → Type 0
StepsEnd old new lines it =
    (it ≡ true → IsTrue (may_end old) × (nodes_said (before old) ≡ length lines) × (new ≡ onward old))
    × (it ≡ false → IsTrue (may_end old) × (nodes_said (before old) ≡ length lines) → ⊥)

-- a line of which only one party learns, which then is so
abbrev pub TellsOnly : SoFar → ℕ → Party → Said → Type 0
TellsOnly t who p (said.Dead s) = (s.0 ≡ who) × IsParty t.script t.granted (before t ++ said.Dead s ∷ []) who p
TellsOnly t who p (said.Recovered s kept) = (s.0 ≡ who) × IsParty t.script t.granted (before t ++ said.Recovered s kept ∷ []) who p
TellsOnly t who p (said.Renewed s) = (s.0 ≡ who) × IsParty t.script t.granted (before t ++ said.Renewed s ∷ []) who p
TellsOnly t who p _ = ⊥

abbrev pub TellsOf : SoFar → ℕ → Party → Option Said → Type 0
TellsOf t who p None = ⊥
TellsOf t who p (Some x) = TellsOnly t who p x

-- a line that no party learns from
abbrev pub IsPlain : Said → Type 0
IsPlain (said.Backup line) = Unit {0}
IsPlain (said.Locks line) = Unit {0}
IsPlain _ = ⊥

abbrev pub TellsNobody : Option Said → Type 0
TellsNobody None = ⊥
TellsNobody (Some x) = IsPlain x

abbrev pub IsNode : Said → Type 0
IsNode (said.Node path kind size links) = Unit {0}
IsNode _ = ⊥

abbrev pub TellsNode : Option Said → Type 0
TellsNode None = ⊥
TellsNode (Some x) = IsNode x
