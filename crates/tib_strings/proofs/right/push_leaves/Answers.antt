use Rattle.std.proofs.Common.{arith, ◌-◌, subst, sym, List}
use Rattle.std.specs.List.{All}
use Rattle.std.proofs.lemmas.List.Elements.{All-push, All-get_or}
use Rattle.tib_lex.specs.Line.{Lies}
use Rattle.tib_lex.specs.declared.token.Token.{Token}
use Rattle.tib_tree.specs.Shape.{PlaceLies}
use Rattle.tib_tree.specs.declared.shape.Place.{Place}
use Rattle.tib_strings.specs.RuleValue.{IsLeaf}
use Rattle.tib_strings.proofs.Places.{listing_goes}
use Rattle.tib_strings.proofs.right.push_leaves.Goals as goal

pub loop-i-preserved : goal.loop-i-preserved
loop-i-preserved c =
    let i = c.loop-i.invariant in
    let e = c.in_ok-push.ensures.items in
    record {
      within = omega (arith, i.within);
      listed = λ line. listing_goes line c.args.tokens.now c.loop-i.places.items c.push.new.self.items c.leaf_at.result c.loop-i.i _ (omega (arith, c.loop-i-test.true)) i.within c.leaf_at.ensures.token c.leaf_at.ensures.kids e (i.listed line);
      lie = λ long all.
          subst (λ (ps : List Place). All (PlaceLies long) ps) (sym e)
          (All-push (PlaceLies long) c.loop-i.places.items c.leaf_at.result (i.lie long all)
          (subst (λ (t : Token). Lies long t) (sym c.leaf_at.ensures.token) (All-get_or (Lies long) c.args.tokens.now (c.loop-i.i - 1) _ (omega (arith, c.loop-i-test.true, i.within)) all)));
      leaves = subst (λ (ps : List Place). All IsLeaf ps) (sym e) (All-push IsLeaf c.loop-i.places.items c.leaf_at.result i.leaves c.leaf_at.ensures.kids);
    }
