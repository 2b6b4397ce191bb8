-- Bytes that are the text of two transducers, each over a table of its own, are that of one by the
-- texts of labels.
use Rattle.tib_cost.specs.declared.Scale.{Scale}
use Rattle.std.proofs.Common.{◌≡◌, ℕ, false, List, [], ◌∷◌, sym, ◌∙◌}
use Rattle.tib_lex.specs.Lines.{lines_of}
use Rattle.tib_lex.proofs.Alongs.{along_map}
use Rattle.tib_tree.specs.Grows.{AreDistinct}
use Rattle.tib_tree.specs.Trees.{only, preorder_of}
use Rattle.tib_grammar_file.proofs.Shapes.{AgreeAtNode, shape_of}
use Rattle.tib_strings.specs.StringTransducerOf.{StringTransducerOf}
use Rattle.tib_strings.specs.declared.StringRule.{StringRule}
use Rattle.tib_transducer_file.specs.Rule.{RuleLine, state_of, numbers_in, is_twice}
use Rattle.tib_transducer_file.proofs.OneByText.{none_distinct, all_added, once_each, AgreeLoosely, numbers_agree, left_sides, right_nodes, lines_once, rules_agree, files_agree}
use Rattle.tib_strings.specs.Listed.{SpellsList}
use Rattle.tib_strings.specs.RuleValue.{nodes_of, IsRule, states_of}
use Rattle.tib_strings.specs.TransducerText.{ReadsAs}
use Rattle.tib_strings.specs.ByText.{AgreeOnRight, AreOneStringRule, AreOneStringTransducer}
use Rattle.tib_strings.proofs.FaultsOnce.{text_read}
use Rattle.tib_strings.proofs.ShapesRead.{left_ends}

module _ (labels others : List (List ℕ)) where
  module _ (names : List (List ℕ)) (apart : AreDistinct names) where
    rule_agrees :
        (line : RuleLine) (r s : StringRule ℕ) → is_twice line.parts ≡ false → IsRule names labels r line → IsRule names others s line → AreOneStringRule labels others r s
    rule_agrees line r s once h k = record {
      state = apart.once r.state s.state (state_of line.parts) h.state k.state;
      left = numbers_agree labels others 0 (only r.left) (only s.left) (left_ends labels r.left line.parts h.left)
          (shape_of (AgreeLoosely labels others) r.left s.left (left_sides labels others (preorder_of r.left) (preorder_of s.left) line.parts h.left k.left)) h.numbered k.numbered;
      right = along_map (AgreeAtNode (AgreeOnRight labels others)) (λ x y. AgreeOnRight labels others x.0 y.0) (λ x y a. a.0) (nodes_of r.right) (nodes_of s.right)
          (right_nodes labels others names (numbers_in line.parts.below) apart (once_each [] (numbers_in line.parts.below) once) (nodes_of r.right) (nodes_of s.right) line.parts.right h.right k.right);
      cost = h.cost ∙ sym k.cost;
    }

-- transducers of one text
pub one_by_text :
    (scale : Scale) (labels others : List (List ℕ)) (bytes : List ℕ) (t u : StringTransducerOf) → ReadsAs scale labels bytes t → ReadsAs scale others bytes u → AreOneStringTransducer labels others t u
one_by_text scale labels others bytes t u r q =
    let f = files_agree (λ names. IsRule names labels) (r.text.start, r.text.lines) (q.text.start, q.text.lines) t.names u.names t.rules (sym (text_read scale labels bytes t r) ∙ text_read scale others bytes u q) r.text.states q.text.states r.text.rules in
    record {
      names = f.0;
      rules = rules_agree (AreOneStringRule labels others) (IsRule u.names labels) (IsRule u.names others)
          (rule_agrees labels others u.names (all_added [] (q.text.start ∷ states_of q.text.lines) u.names q.text.states none_distinct)) q.text.lines t.rules u.rules
          (lines_once SpellsList scale (lines_of bytes) q.text.start q.text.lines q.text.written) f.1 q.text.rules;
    }
