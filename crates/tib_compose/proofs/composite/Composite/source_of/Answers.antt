use Rattle.std.proofs.Common.{◌≡◌, ℕ, List, arith, sym, ap, ◌∙◌, subst, Some, None, Bor}
use Rattle.tib_tree.specs.Trees.{IsOneTree-preorder_of, HasChildren}
use Rattle.tib_grammar.specs.Items.{pairs_of}
use Rattle.tib_grammar.specs.declared.Item.{Item}
use Rattle.tib_transducer.specs.declared.Pair.{Pair}
use Rattle.tib_key_edges.specs.Translations.{choice_cost}
use Rattle.tib_compose.specs.Pending.{IsAtLeast}
use Rattle.tib_compose.proofs.composite.Composite.source_of.Goals as goal

pub returns : goal.returns
returns g c = record {
  items = ap (λ (xs : Bor (List (Item (Pair ℕ)))). pairs_of xs.now) c.in_ok-set_bounds.ensures.items ∙ c.items-items.ensures.items;
  known = λ ready. c.in_ok-set_bounds.ensures.known ready (record {
    children = subst HasChildren (sym c.items-items.ensures.items) (IsOneTree-preorder_of c.args.rule.now.right).nested;
    ends = c.in_ok-ends.ensures.ends;
    bounds = λ i p x h. subst (λ v. IsAtLeast v (choice_cost g.S.Semiring.product c.args.self.now.second.now.rules x)) (sym (c.new-bounds.ensures i p)) (omega arith);
    plenties = λ i p v e. absurd (let bad : None ≡ Some v = sym (c.new-plenties.ensures i p) ∙ e in cc);
  });
}
