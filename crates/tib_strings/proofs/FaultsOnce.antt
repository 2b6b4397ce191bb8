-- A tree-to-string transducer file has one first fault at most, and none where it is the text of a
-- transducer.
use Rattle.tib_cost.specs.declared.Scale.{Scale}
use Rattle.std.proofs.Common.{◌≡◌, ℕ, ◌+◌, List, [], ◌∷◌, length, sym, ◌∙◌, arith}
use Rattle.std.specs.Prelude.{Ok, Err}
use Rattle.tib_lex.specs.Lines.{lines_of}
use Rattle.tib_lex.specs.Lists.{Along, Each}
use Rattle.tib_lex.specs.declared.fault.FileFault.{FileFault}
use Rattle.tib_tree.specs.Trees.{preorder_of}
use Rattle.tib_grammar_file.proofs.Alongs.{along_long}
use Rattle.tib_strings.specs.StringTransducerOf.{StringTransducerOf}
use Rattle.tib_strings.specs.declared.StringRule.{StringRule}
use Rattle.tib_transducer_file.specs.Rule.{RuleLine, numbers_in}
use Rattle.tib_transducer_file.specs.FileHeld.{IsFew}
use Rattle.tib_transducer_file.proofs.FileText.{left_long}
use Rattle.tib_transducer_file.proofs.FirstFaults.{fault_is_first}
use Rattle.tib_transducer_file.proofs.FaultsRead.{there, fault_once as once_by, few_parts, starts_read, err_or_ok}
use Rattle.tib_strings.specs.TransducerReading.{string_file_from, transducer_in}
use Rattle.tib_strings.specs.RuleValue.{IsRightNode, nodes_of, IsRule}
use Rattle.tib_strings.specs.TransducerText.{IsSmallRule, ReadsAs}
use Rattle.tib_strings.specs.FileFaults.{IsFirstFault}
use Rattle.tib_strings.specs.Entries.{lists}
use Rattle.tib_strings.proofs.FileText.{nodes_long}

-- the first fault is what is read
pub faults_exact : (scale : Scale) (bytes : List ℕ) (fault : FileFault) → (transducer_in scale bytes ≡ Err fault → IsFirstFault scale bytes fault) × (IsFirstFault scale bytes fault → transducer_in scale bytes ≡ Err fault)
unfolding transducer_in
faults_exact scale bytes fault = (fault_is_first lists scale bytes fault, there lists scale 1 (lines_of bytes) fault)

-- it is one
pub fault_once : (scale : Scale) (bytes : List ℕ) (fault other : FileFault) → IsFirstFault scale bytes fault → IsFirstFault scale bytes other → fault ≡ other
fault_once scale bytes fault other h k = once_by lists scale bytes fault other h k

-- the lines of small rules have few nodes
few_line : (names labels : List (List ℕ)) (r : StringRule ℕ) (line : RuleLine) → IsRule names labels r line → IsSmallRule r → IsFew line
few_line names labels r line is small =
    let left = left_long labels (preorder_of r.left) line.parts is.left in
    let right = along_long (IsRightNode names labels (numbers_in line.parts.below)) (nodes_of r.right) line.parts.right is.right in
    few_parts (length line.parts.below + 1) (length line.parts.right) (omega (arith, left, small.0)) (omega (arith, right, nodes_long r.right, small.1))

few_lines : (names labels : List (List ℕ)) (rules : List (StringRule ℕ)) (lines : List RuleLine) → Along (IsRule names labels) rules lines → Each IsSmallRule rules → Each IsFew lines
few_lines names labels [] [] a s = tt
few_lines names labels [] (line ∷ lines) a s = absurd a
few_lines names labels (r ∷ rules) [] a s = absurd a
few_lines names labels (r ∷ rules) (line ∷ lines) a s = (few_line names labels r line a.0 s.0, few_lines names labels rules lines a.1 s.1)

-- the text of a transducer is read
pub text_read : (scale : Scale) (labels : List (List ℕ)) (bytes : List ℕ) (t : StringTransducerOf) → (r : ReadsAs scale labels bytes t) → string_file_from scale 1 (lines_of bytes) ≡ Ok (r.text.start, r.text.lines)
text_read scale labels bytes t r =
    starts_read lists scale 1 (lines_of bytes) r.text.start r.text.lines r.text.written (few_lines t.names labels t.rules r.text.lines r.text.rules r.small)

-- it has no fault
pub no_text : (scale : Scale) (bytes : List ℕ) (fault : FileFault) → IsFirstFault scale bytes fault → (labels : List (List ℕ)) (t : StringTransducerOf) → ReadsAs scale labels bytes t → ⊥
no_text scale bytes fault h labels t r = err_or_ok fault (r.text.start, r.text.lines) (sym (there lists scale 1 (lines_of bytes) fault h) ∙ text_read scale labels bytes t r)
