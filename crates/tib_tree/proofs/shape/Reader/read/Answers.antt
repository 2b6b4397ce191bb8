use Rattle.std.proofs.Common.{arith, [], ◌-◌, drop, ◌∙◌}
use Rattle.std.proofs.lemmas.List.{length-drop}
use Rattle.tib_tree.proofs.Steps.{few_trees, stops, goes, refused, accepted, finished}
use Rattle.tib_tree.proofs.shape.Reader.read.Goals as goal

pub put-requires-clause-trees : goal.put-requires-clause-trees
put-requires-clause-trees c =
    let h = few_trees [] (drop c.loop-i.i c.args.tokens.now) _ (c.loop-i.invariant.read []) in
    let l = length-drop c.loop-i.i c.args.tokens.now in
    omega (arith, h)

pub returns-then-not-branch-clause-nodes : goal.returns-then-not-branch-clause-nodes
returns-then-not-branch-clause-nodes c = λ line.
    let e = c.in_ok-put.ensures.put line in
    stops line c.args.tokens.now c.loop-i.i _ _ c.loop-i-test.true c.loop-i.invariant.within (c.loop-i.invariant.read line)
    (refused c.in_ok-put.field-0 _ _ c.if-not-branch.true e)

pub returns-clause-nodes : goal.returns-clause-nodes
returns-clause-nodes c = λ line. finished line c.args.tokens.now c.loop-i.i _ c.loop-i-test.false (c.loop-i.invariant.read line) ∙ c.is_one.ensures.nodes line

pub loop-i-preserved : goal.loop-i-preserved
loop-i-preserved c =
    let i = c.loop-i.invariant in
    record {
      within = omega arith;
      read = λ line.
          let e = c.in_ok-put.ensures.put line in
          goes line c.args.tokens.now c.loop-i.i _ _ _ c.loop-i-test.true i.within (i.read line) (accepted c.in_ok-put.field-0 _ _ c.if-not-branch.false e);
      places = λ long all. c.in_ok-put.ensures.places long (all (c.loop-i.i - 1) _ (omega (arith, i.within))) (i.places long all);
      shaped = c.in_ok-put.ensures.shaped c.if-not-branch.false;
      nodes = omega (arith, i.nodes, c.in_ok-put.ensures.longer.0);
      levels = omega (arith, i.levels, c.in_ok-put.ensures.longer.1);
    }

pub returns-clause-one : goal.returns-clause-one
returns-clause-one c = λ ok. c.is_one.ensures.one ok c.loop-i.invariant.shaped
