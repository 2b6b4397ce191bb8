-- What is printed of a transducer that was read is the text of this very transducer.
use Rattle.tib_cost.specs.declared.Scale.{Scale}
use Rattle.std.proofs.Common.{ℕ, List, [], ◌∷◌, refl, arith, zero, suc}
use Rattle.tib_lex.specs.Lines.{lines_of}
use Rattle.tib_lex.specs.Lists.{Along}
use Rattle.tib_grammar.specs.StateName.{AreStateNames}
use Rattle.tib_transducer.specs.Range.{EndInHoles}
use Rattle.tib_transducer.specs.TransducerOf.{TransducerOf}
use Rattle.tib_transducer.specs.declared.TransducerRule.{TransducerRule}
use Rattle.tib_transducer_file.specs.Rule.{RuleLine}
use Rattle.tib_transducer_file.specs.TransducerText.{ReadsAs}
use Rattle.tib_transducer_file.specs.Value.{IsRule, states_of as states_written}
use Rattle.tib_transducer_file.proofs.FaultsOnce.{text_read}
use Rattle.tib_transducer_file.proofs.FileText.{FileRead, file_held, names_sound, rules_ready}
use Rattle.tib_transducer_file.specs.ByName.{states_of, HasText, ComeInOrder, ReadTransducersPrintBack}
use Rattle.tib_transducer_file.proofs.FileOrdered.{reads_ordered}
use Rattle.tib_transducer_file.proofs.ReadLabels.{rules_printable}
use Rattle.tib_transducer_file.proofs.ReadStates.{Come, come_behind, rule_ends, rules_named}

all_end : (names labels : List (List ℕ)) (rules : List (TransducerRule ℕ)) (lines : List RuleLine) → Along (IsRule names labels) rules lines → EndInHoles rules
all_end names labels [] lines a m h = absurd (omega arith)
all_end names labels (r ∷ rules) [] a m h = absurd a
all_end names labels (r ∷ rules) (l ∷ lines) a zero h = rule_ends names labels r l a.0
all_end names labels (r ∷ rules) (l ∷ lines) a (suc m) h = all_end names labels rules lines a.1 m (omega arith)

module _ (scale : Scale) (labels : List (List ℕ)) (bytes : List ℕ) (t : TransducerOf) (r : ReadsAs scale labels bytes t) where
  was_read : FileRead scale bytes t.names labels t.rules
  was_read = record {
    start = r.text.start;
    lines = r.text.lines;
    held = file_held scale 1 (lines_of bytes) r.text.start r.text.lines (text_read scale labels bytes t r);
    added = r.text.states;
    rules_are = r.text.rules;
  }

  names_are : AreStateNames t.names
  names_are = names_sound scale bytes t.names labels t.rules was_read

  states_come : Come t.names 1 (states_of t.rules)
  states_come = come_behind t.names (states_written r.text.lines) r.text.start (states_of t.rules) names_are.distinct r.text.states (rules_named t.names labels t.rules r.text.lines r.text.rules)

  has_text : HasText scale labels t
  has_text =
      let ready = rules_ready scale bytes t.names t.names labels t.rules was_read refl in
      record {
        start = ready.0;
        names = names_are;
        range = ready.1;
        shaped = ready.2;
        leaves = all_end t.names labels t.rules r.text.lines r.text.rules;
        stand = λ q h b. states_come.1 q (omega arith) b;
        printable = rules_printable scale bytes r.text.start t.names labels t.rules r.text.lines r.text.written r.text.rules r.small;
      }

pub read_back : ReadTransducersPrintBack
read_back scale labels bytes t r =
    let has : HasText scale labels t = has_text scale labels bytes t r in
    let order : ComeInOrder 1 (states_of t.rules) = (states_come scale labels bytes t r).0 in
    (has, order, record { text = reads_ordered scale labels t has order; small = r.small })
