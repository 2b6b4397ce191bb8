-- The first fault of a file is read, and so are rules within the limits, whatever their right sides
-- are.
use Rattle.tib_cost.specs.declared.Scale.{Scale}
use Rattle.std.proofs.Common.{◌≡◌, ℕ, ◌≤◌, inl, inr, false, List, [], ◌∷◌, ap, sym, ◌∙◌, subst, arith, Option, suc}
use Rattle.std.specs.Prelude.{Some, None, Result, Ok, Err, nat_lt, ◌||◌}
use Rattle.std.proofs.lemmas.Bool.Decides.{nat_tests}
use Rattle.tib_lex.specs.Grammar.{Word}
use Rattle.tib_lex.specs.Lines.{lines_of, front, with_line, each_line}
use Rattle.tib_lex.specs.Lists.{Each}
use Rattle.tib_lex.specs.declared.fault.FaultKind.{FaultKind}
use Rattle.tib_lex.specs.declared.fault.FaultKind.TheVariants as kinds
use Rattle.tib_lex.specs.declared.fault.FileFault.{FileFault}
use Rattle.tib_lex.proofs.FirstFaults.{fault_is}
use Rattle.tib_lex.proofs.Results.{err_same}
use Rattle.tib_tree.specs.Trees.{most_nodes}
use Rattle.tib_tree.specs.Written.{Item}
use Rattle.tib_grammar_file.specs.Faults.{FirstFaultFromStart}
use Rattle.tib_grammar_file.specs.Reading.{fault_at, start_line, started, with_start}
use Rattle.tib_grammar_file.proofs.FaultyLines.{start_fault_read}
use Rattle.tib_grammar_file.proofs.RowsRead.{start_forth, no_start_forth}
use Rattle.tib_transducer_file.specs.Rule.{RuleLine, rule_line_by}
use Rattle.tib_transducer_file.specs.Reading.{file_from}
use Rattle.tib_transducer_file.specs.TransducerText.{HaveRulesBy, HaveStartBy}
use Rattle.tib_transducer_file.specs.Faults.{HasRuleFault, HoldsRule, IsFirstFaultBy}
use Rattle.tib_transducer_file.proofs.LinesHeld.{few_read, blank_read, fault_read, held_read}
use Rattle.tib_transducer_file.specs.Formats.{IsFormat}
use Rattle.tib_transducer_file.specs.FileHeld.{IsFew}

abbrev Whole : Type 0
Whole = Result (List ℕ × List RuleLine) FileFault

-- a fault is no text
pub err_or_ok : (f : FileFault) (p : List ℕ × List RuleLine) → (let r : Whole = Err f in r ≡ Ok p) → ⊥
err_or_ok f p e = cc

-- as many nodes as the limit allows
pub few_parts : (m n : ℕ) → m ≤ most_nodes → n ≤ most_nodes → (nat_lt most_nodes m || nat_lt most_nodes n) ≡ false
few_parts m n h k =
    let a : nat_lt most_nodes m ≡ false = grind (arith, nat_tests) in
    let b : nat_lt most_nodes n ≡ false = grind (arith, nat_tests) in
    ap (λ x. x || nat_lt most_nodes n) a ∙ b

module _ {Right : List Word → List Item → Type 0} {read : List Word → Option (List Item)} (format : IsFormat Right read) where
  -- a line in the start's place
  started_with : (scale : Scale) (n : ℕ) (line : List ℕ) (lines : List (List ℕ)) (r : Result (Option (List ℕ)) FaultKind) → start_line line ≡ r →
      file_from (rule_line_by read scale) n (line ∷ lines) ≡ with_start n r (each_line (rule_line_by read scale) (suc n) lines) (file_from (rule_line_by read scale) (suc n) lines)
  started_with scale n line lines r e = ap (λ x. with_start n x (each_line (rule_line_by read scale) (suc n) lines) (file_from (rule_line_by read scale) (suc n) lines)) e

  -- the first fault is read
  pub there : (scale : Scale) (n : ℕ) (lines : List (List ℕ)) (fault : FileFault) → FirstFaultFromStart (HoldsRule Right scale) (HasRuleFault Right scale) n lines fault → file_from (rule_line_by read scale) n lines ≡ Err fault
  there scale n [] fault h = ap (λ (k : ℕ). Err (fault_at k kinds.NoStart)) (sym h.0) ∙ ap (λ (k : FaultKind). Err (fault_at fault.line k)) (sym h.1)
  there scale n (line ∷ lines) fault (inl (blank, more)) = started_with scale n line lines (Ok None) (no_start_forth line blank) ∙ there scale (suc n) lines fault more
  there scale n (line ∷ lines) fault (inr (inl (l, h))) =
      started_with scale n line lines (Err fault.kind) (start_fault_read line fault.kind h) ∙ ap (λ (k : ℕ). Err (fault_at k fault.kind)) (sym l)
  there scale n (line ∷ lines) fault (inr (inr (h, more))) =
      started_with scale n line lines (Ok (Some h.start)) (start_forth line h.start h.has h.plain)
      ∙ ap (started h.start) (fault_is (rule_line_by read scale) (HoldsRule Right scale) (HasRuleFault Right scale) (held_read format scale) (fault_read format scale) (suc n) lines fault more)

  -- it is one
  pub fault_once : (scale : Scale) (bytes : List ℕ) (fault other : FileFault) → IsFirstFaultBy Right scale bytes fault → IsFirstFaultBy Right scale bytes other → fault ≡ other
  fault_once scale bytes fault other h k = err_same fault other (sym (there scale 1 (lines_of bytes) fault h) ∙ there scale 1 (lines_of bytes) other k)

  line_with : (scale : Scale) (n : ℕ) (line : List ℕ) (lines : List (List ℕ)) (r : Result (Option RuleLine) FaultKind) → rule_line_by read scale line ≡ r →
      each_line (rule_line_by read scale) n (line ∷ lines) ≡ with_line n r (each_line (rule_line_by read scale) (suc n) lines)
  line_with scale n line lines r e = ap (λ x. with_line n x (each_line (rule_line_by read scale) (suc n) lines)) e

  rules_read : (scale : Scale) (n : ℕ) (lines : List (List ℕ)) (rules : List RuleLine) → HaveRulesBy Right scale lines rules → Each IsFew rules → each_line (rule_line_by read scale) n lines ≡ Ok rules
  rules_read scale n [] rules e f = ap (λ (xs : List RuleLine). Ok xs) (sym e)
  rules_read scale n (line ∷ lines) rules (inl (blank, more)) f = line_with scale n line lines (Ok None) (blank_read format scale line blank) ∙ rules_read scale (suc n) lines rules more f
  rules_read scale n (line ∷ lines) rules (inr (rule, others, e, spells, more)) f =
      let few : Each IsFew (rule ∷ others) = subst (λ (xs : List RuleLine). Each IsFew xs) e f in
      line_with scale n line lines (Ok (Some rule)) (few_read format scale line rule spells few.0)
      ∙ ap (front (rule ∷ [])) (rules_read scale (suc n) lines others more few.1)
      ∙ ap (λ (xs : List RuleLine). Ok xs) (sym e)

  -- a start and rules within the limits are read
  pub starts_read : (scale : Scale) (n : ℕ) (lines : List (List ℕ)) (start : List ℕ) (rules : List RuleLine) → HaveStartBy Right scale lines start rules → Each IsFew rules → file_from (rule_line_by read scale) n lines ≡ Ok (start, rules)
  starts_read scale n [] start rules h f = absurd h
  starts_read scale n (line ∷ lines) start rules (inl (blank, more)) f =
      started_with scale n line lines (Ok None) (no_start_forth line blank) ∙ starts_read scale (suc n) lines start rules more f
  starts_read scale n (line ∷ lines) start rules (inr (has, plain, more)) f =
      started_with scale n line lines (Ok (Some start)) (start_forth line start has plain) ∙ ap (started start) (rules_read scale (suc n) lines rules more f)
