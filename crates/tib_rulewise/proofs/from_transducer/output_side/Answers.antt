use Rattle.std.proofs.Common.{◌≡◌, arith, ◌∙◌, length, refl, sym, ap, subst}
use Rattle.std.proofs.lemmas.Result.{IfOk-weaker}
use Rattle.tib_grammar.specs.Items.{holes_in}
use Rattle.tib_grammar.proofs.Holes.{holes_of_items}
use Rattle.tib_transducer.specs.Rules.{variables_of}
use Rattle.tib_rulewise.specs.Paired.{AreListed}
use Rattle.tib_rulewise.proofs.Listing.{once, known_below, variables_below, output_is}
use Rattle.tib_rulewise.proofs.from_transducer.output_side.Goals as goal

pub pairs_by_variable-requires : goal.pairs_by_variable-requires
pairs_by_variable-requires c =
    let linear = c.requires.invertible.linear refl in
    let nondeleting = c.requires.invertible.nondeleting refl in
    record {
      few = omega arith;
      once = once c.args.rule.now c.items-pairs.result.now c.items-pairs.ensures.items c.requires.shaped linear nondeleting c.items.ensures.leaves;
      known = known_below c.args.rule.now c.items-pairs.result.now c.items-pairs.ensures.items c.requires.shaped linear nondeleting c.items.ensures.leaves c.count_holes-count.result
          (c.count_holes-count.ensures ∙ ap length (sym (holes_of_items c.items.result.now c.args.rule.now.left c.items.ensures.items)));
    }

pub paired_side-requires : goal.paired_side-requires
paired_side-requires c =
    let linear = c.requires.invertible.linear refl in
    let nondeleting = c.requires.invertible.nondeleting refl in
    let long : length c.deref.result.now ≡ length (variables_of c.args.rule.now.left) =
    ap length c.deref.ensures.value ∙ c.in_ok-listed.ensures.long ∙ c.count_holes-count.ensures ∙ ap length (sym (holes_of_items c.items.result.now c.args.rule.now.left c.items.ensures.items))
    in
    variables_below c.args.rule.now c.items-pairs.result.now c.items-pairs.ensures.items c.requires.shaped linear nondeleting c.items.ensures.leaves c.deref.result.now long

pub returns : goal.returns
returns c =
    let linear = c.requires.invertible.linear refl in
    let nondeleting = c.requires.invertible.nondeleting refl in
    let listed = subst (AreListed (holes_in c.items-pairs.result.now) (length (holes_in c.items-pairs.result.now))) (sym c.deref.ensures.value) c.in_ok-listed.ensures.listed in
    IfOk-weaker c.paired_side.result _ _
    (λ s e. e ∙ output_is c.args.rule.now c.items-pairs.result.now c.items-pairs.ensures.items c.requires.shaped linear nondeleting c.items.ensures.leaves c.deref.result.now listed)
    c.paired_side.ensures
