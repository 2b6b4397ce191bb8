use Rattle.std.proofs.Common.{arith, ◌-◌, ap, ◌∙◌, map, ◌∷◌, []}
use Rattle.std.proofs.lemmas.List.{map-append}
use Rattle.indexmap.specs.IndexSet.{keys}
use Rattle.tib_tree.proofs.Growing.{grows_twice}
use Rattle.tib_transducer_file.specs.Forms.{pair_in}
use Rattle.tib_transducer_file.specs.Rule.{is_unknown}
use Rattle.tib_transducer_file.specs.Added.{on_right}
use Rattle.tib_transducer_file.proofs.AddedLabels.{back_adds}
use Rattle.tib_transducer_file.proofs.Backs.{none_at}
use Rattle.tib_transducer_file.proofs.SidesRead.{placing_goes}
use Rattle.tib_transducer_file.proofs.sides.right_nodes.Goals as goal

pub read_node-requires-clause-known : goal.read_node-requires-clause-known
read_node-requires-clause-known g c = none_at c.args.line.now (λ i. is_unknown (keys c.args.variables.now) (pair_in i)) c.args.places.now (c.loop-i.i - 1) _ (omega (arith, c.loop-i-test.true, c.loop-i.invariant.placing.within)) c.requires.known

pub loop-i-preserved : goal.loop-i-preserved
loop-i-preserved g c =
    let i = c.loop-i.invariant in
    let r = c.read_node.ensures in
    let symbol_of = g.R.RightReader.symbol_of in
    record {
      placing = placing_goes c.args.names.now c.loop-i.names c.read_node.new.names c.loop-i.labels c.read_node.new.labels (keys c.args.variables.now) c.args.line.now c.args.places.now (map symbol_of c.loop-i.nodes.items) (map symbol_of c.push.new.self.items) c.loop-i.i _ (symbol_of c.in_ok-node.node)
          (omega (arith, c.loop-i-test.true)) r.names r.labels (ap (map symbol_of) c.in_ok-push.ensures.items ∙ map-append symbol_of c.loop-i.nodes.items (c.in_ok-node.node ∷ [])) c.in_ok-node.ensures.item c.in_ok-node.ensures.states i.placing;
      texts = back_adds on_right c.args.labels.now c.loop-i.labels c.read_node.new.labels c.args.line.now c.args.places.now c.loop-i.i _ (omega (arith, c.loop-i-test.true)) i.placing.within i.texts c.in_ok-node.ensures.texts;
      names = grows_twice _ _ _ i.names r.names;
      labels = grows_twice _ _ _ i.labels r.labels;
      few_names = omega (arith, i.few_names, r.few_names, c.loop-i-test.true, i.placing.within);
      few_labels = omega (arith, i.few_labels, r.few_labels, c.loop-i-test.true, i.placing.within);
    }

pub returns-in_err-push-clause-names : goal.returns-in_err-push-clause-names
returns-in_err-push-clause-names g c = grows_twice _ _ _ c.loop-i.invariant.names c.read_node.ensures.names

pub returns-in_err-push-clause-labels : goal.returns-in_err-push-clause-labels
returns-in_err-push-clause-labels g c = grows_twice _ _ _ c.loop-i.invariant.labels c.read_node.ensures.labels
