-- The function that says what a transducer file holds, and its first fault.
use Rattle.tib_cost.specs.declared.Scale.{Scale}
use Rattle.std.proofs.Common.{◌≡◌, ℕ, List, [], ◌∷◌, sym, suc, Option}
use Rattle.std.specs.Prelude.{Err}
use Rattle.tib_lex.proofs.FirstFaults.{fault_found}
use Rattle.tib_lex.specs.Grammar.{Word}
use Rattle.tib_lex.specs.Lines.{lines_of, each_line}
use Rattle.tib_lex.specs.declared.fault.FaultKind.TheVariants as kinds
use Rattle.tib_lex.specs.declared.fault.FileFault.{FileFault}
use Rattle.tib_tree.specs.Written.{Item}
use Rattle.tib_grammar_file.specs.Reading.{start_line}
use Rattle.tib_grammar_file.specs.Faults.{FirstFaultFromStart}
use Rattle.tib_grammar_file.proofs.FaultyLines.{start_says}
use Rattle.tib_grammar_file.proofs.FirstFaults.{same_fault, start_fault}
use Rattle.tib_transducer_file.specs.Rule.{rule_line_by}
use Rattle.tib_transducer_file.specs.Reading.{file_from}
use Rattle.tib_transducer_file.specs.Faults.{HasRuleFault, HoldsRule, IsFirstFaultBy}
use Rattle.tib_transducer_file.proofs.FaultyLines.{rule_says}
use Rattle.tib_transducer_file.specs.Formats.{IsFormat}

module _ {Right : List Word → List Item → Type 0} {read : List Word → Option (List Item)} (format : IsFormat Right read) where
  found : (scale : Scale) (n : ℕ) (lines : List (List ℕ)) (fault : FileFault) → file_from (rule_line_by read scale) n lines ≡ Err fault → FirstFaultFromStart (HoldsRule Right scale) (HasRuleFault Right scale) n lines fault
  found scale n [] fault e = let s = same_fault 1 kinds.NoStart fault (cc) in (s.0, sym s.1)
  found scale n (line ∷ lines) fault e =
      start_fault (HoldsRule Right scale) (HasRuleFault Right scale) n line lines fault (start_line line) (each_line (rule_line_by read scale) (suc n) lines) (file_from (rule_line_by read scale) (suc n) lines)
      (start_says line) (fault_found (rule_line_by read scale) (HoldsRule Right scale) (HasRuleFault Right scale) (rule_says format scale) (suc n) lines fault) (found scale (suc n) lines fault) e

  -- a fault that is read is the first
  pub fault_is_first : (scale : Scale) (bytes : List ℕ) (fault : FileFault) → file_from (rule_line_by read scale) 1 (lines_of bytes) ≡ Err fault → IsFirstFaultBy Right scale bytes fault
  fault_is_first scale bytes fault e = found scale 1 (lines_of bytes) fault e
