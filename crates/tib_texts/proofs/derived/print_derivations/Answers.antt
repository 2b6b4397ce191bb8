use Rattle.std.proofs.Common.{◌≡◌, ℕ, List, [], ◌∷◌, ◌++◌, get_or, ap, sym, ◌∙◌, subst, refl}
use Rattle.tib_io.specs.declared.files.Failed.{Failed}
use Rattle.tib_grammar.specs.declared.Rule.{Rule}
use Rattle.tib_grammar_file.proofs.Printing.{seq, cut, grammar_within}
use Rattle.tib_transducer_file.specs.Printed.{rules_text, transducer_text}
use Rattle.tib_transducer_file.proofs.Printing.{transducer_same}
use Rattle.tib_rulewise.specs.Derivations.{AreDerivationRules}
use Rattle.tib_texts.proofs.derived.print_derivations.Goals as goal

pub put_lines-requires-clause-within : goal.put_lines-requires-clause-within
put_lines-requires-clause-within g c = grammar_within c.names-names.result.now c.args.labels.now c.args.grammar.now.names c.rule_list.result.now c.args.grammar.now.rules c.names-names.ensures c.rule_list.ensures c.is_sound.ensures.range c.is_sound.ensures.leaves c.requires.labelled

pub returns-in-Ok : goal.returns-in-Ok
returns-in-Ok g c = λ all t grows d.
    let names : List (List ℕ) = c.names-names.result.now in
    let start : List ℕ = get_or names 0 [] ++ 10 ∷ [] in
    let lines : List ℕ = rules_text c.SCALE.result names all t.rules in
    let made = subst (λ (rs : List (Rule ℕ)). AreDerivationRules all rs t.rules) (sym c.rule_list.ensures) d.rules in
    transducer_same c.SCALE.result g.S.Semiring.SCALE all names t.rules t c.SCALE.ensures (c.names-names.ensures ∙ sym d.names) refl
    (seq (Unit {0}) (Unit {0}) Failed g.W.Sink.seen c.args.out.now c.put_start.new.out c.put_lines.new.out start lines (start ++ lines) tt _ refl c.in-Ok.ensures (c.put_lines.ensures all t.rules grows made))

pub returns-in-Err : goal.returns-in-Err
returns-in-Err g c = λ all t grows d.
    let names : List (List ℕ) = c.names-names.result.now in
    let start : List ℕ = get_or names 0 [] ++ 10 ∷ [] in
    let lines : List ℕ = rules_text g.S.Semiring.SCALE t.names all t.rules in
    let same : names ≡ t.names = c.names-names.ensures ∙ sym d.names in
    cut (Unit {0}) (Unit {0}) Failed g.W.Sink.seen c.args.out.now c.put_start.new.out start lines (transducer_text g.S.Semiring.SCALE all t) _ (ap (λ (ns : List (List ℕ)). (get_or ns 0 [] ++ 10 ∷ []) ++ lines) same) c.in-Err.ensures
