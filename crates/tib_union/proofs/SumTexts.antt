-- Sums over tables of labels: their sides, that they can be printed where both grammars can, and
-- that those of grammars that agree by the texts of their labels agree so.
use Rattle.std.specs.Prelude.{ℕ, ◌+◌, ◌<◌, Bool, true, false, List, [], ◌∷◌, ◌++◌, length, refl}
use Rattle.std.proofs.Common.{arith, ap, ◌∙◌, subst, inl, inr}
use Rattle.tib_cost.specs.Scale.{is_weighted}
use Rattle.tib_cost.specs.declared.Scale.{Scale}
use Rattle.tib_lex.specs.Lists.{Has, Along}
use Rattle.tib_lex.proofs.Lists.{has_mapped}
use Rattle.tib_lex.proofs.Members.{has_at, at_has, has_either}
use Rattle.tib_tree.specs.Trees.{Trees, none, tree, only, relabel}
use Rattle.tib_grammar.specs.Sides.{Symbol, label, hole, symbol_map, HolesAreLeaves}
use Rattle.tib_grammar.specs.GrammarOf.{GrammarOf, named_rule}
use Rattle.tib_grammar.specs.Range.{SidesEndInHoles}
use Rattle.tib_grammar.specs.Run.{rule_at, no_rule}
use Rattle.tib_grammar.specs.declared.Rule.{Rule}
use Rattle.tib_grammar_file.specs.ByText.{HaveOneShape, AgreeInSymbol, AreOneRule, AgreeByText}
use Rattle.tib_grammar_file.specs.Printable.{HavePlainLabels, IsPlainIf, IsPrintable, ArePrintable}
use Rattle.tib_canon.specs.Canonical.{names_of}
use Rattle.tib_canon.proofs.Started.{relabel_ends, plain_on}
use Rattle.tib_union.specs.Sum.{chain_to, raised, sum_rules, sum_grammar}
use Rattle.tib_lex.proofs.Alongs.{along_append}

-- what holds of chain rules, of rules of both and so of these raised, holds of each rule of the sum
module _ (P : Rule ℕ → Type 0) (chains : (q : ℕ) → P (chain_to q)) (raises : (by : ℕ) (r : Rule ℕ) → P r → P (named_rule (λ q. by + q) r)) where
  of_raised : (by : ℕ) (rules : List (Rule ℕ)) → ((m : ℕ) → m < length rules → P (rule_at rules m)) → (s : Rule ℕ) → Has (raised by rules) s → P s
  of_raised by rules h s k =
      let r = has_mapped (named_rule (λ q. by + q)) rules s k in
      let at = at_has rules r.0 no_rule r.1 in
      subst P r.2 (raises by r.0 (subst P at.2 (h at.0 at.1)))

  pub of_sum :
      (n : ℕ) (one two : List (Rule ℕ)) → ((m : ℕ) → m < length one → P (rule_at one m)) → ((m : ℕ) → m < length two → P (rule_at two m)) → (m : ℕ) → m < length (sum_rules n one two) →
      P (rule_at (sum_rules n one two) m)
  of_sum n one two h k m low = by (rule_at (sum_rules n one two) m) (has_at (sum_rules n one two) m no_rule low)
    where
      by : (s : Rule ℕ) → Has (sum_rules n one two) s → P s
      by s (inl e) = subst P e (chains 1)
      by s (inr (inl e)) = subst P e (chains (1 + n))
      by s (inr (inr x)) = elim (has_either (raised 1 one) (raised (1 + n) two) s x) [ inl y ↦ of_raised 1 one h s y | inr y ↦ of_raised (1 + n) two k s y ]

-- nothing is below a state in a sum
pub sum_leaves : (n : ℕ) (one two : List (Rule ℕ)) → SidesEndInHoles one → SidesEndInHoles two → SidesEndInHoles (sum_rules n one two)
sum_leaves n one two h k = of_sum (λ r. HolesAreLeaves (only r.right)) (λ q. tt) (λ by r e. relabel_ends (λ q. by + q) (only r.right) e) n one two h k

plain_one : (weighted : Bool) → IsPlainIf weighted 0
plain_one true = omega arith
plain_one false = refl

-- a sum can be printed where both can
pub sum_printable : (scale : Scale) (labels : List (List ℕ)) (n : ℕ) (one two : List (Rule ℕ)) → ArePrintable scale labels one → ArePrintable scale labels two → ArePrintable scale labels (sum_rules n one two)
sum_printable scale labels n one two h k =
    of_sum (IsPrintable scale labels) (λ q. record { right = (tt, tt); cost = plain_one (is_weighted scale) })
    (λ by r p. record { right = plain_on labels (λ q. by + q) (only r.right) p.right; cost = p.cost }) n one two h k

module _ (labels others : List (List ℕ)) where
  shape_on : (f : ℕ → ℕ) (ts us : Trees (Symbol ℕ ℕ)) → HaveOneShape (AgreeInSymbol labels others) ts us → HaveOneShape (AgreeInSymbol labels others) (relabel (symbol_map f) ts) (relabel (symbol_map f) us)
  shape_on f none none h = tt
  shape_on f none (tree s below more) h = absurd h
  shape_on f (tree s kids rest) none h = absurd h
  shape_on f (tree (label x) kids rest) (tree (label y) below more) h = (h.0, shape_on f kids below h.1, shape_on f rest more h.2)
  shape_on f (tree (label x) kids rest) (tree (hole q) below more) h = absurd h.0
  shape_on f (tree (hole p) kids rest) (tree (label y) below more) h = absurd h.0
  shape_on f (tree (hole p) kids rest) (tree (hole q) below more) h = (ap f h.0, shape_on f kids below h.1, shape_on f rest more h.2)

  raised_agree : (by : ℕ) (xs ys : List (Rule ℕ)) → Along (AreOneRule labels others) xs ys → Along (AreOneRule labels others) (raised by xs) (raised by ys)
  raised_agree by [] [] h = tt
  raised_agree by [] (y ∷ ys) h = absurd h
  raised_agree by (x ∷ xs) [] h = absurd h
  raised_agree by (x ∷ xs) (y ∷ ys) h = (
    record { left = ap (λ q. by + q) h.0.left; right = shape_on (λ q. by + q) (only x.right) (only y.right) h.0.right; cost = h.0.cost },
    raised_agree by xs ys h.1,
  )

  chain_agrees : (q : ℕ) → AreOneRule labels others (chain_to q) (chain_to q)
  chain_agrees q = record { left = refl; right = (refl, tt, tt); cost = refl }

  rules_agree :
      (n : ℕ) (one two xs ys : List (Rule ℕ)) → Along (AreOneRule labels others) one xs → Along (AreOneRule labels others) two ys → Along (AreOneRule labels others) (sum_rules n one two) (sum_rules n xs ys)
  rules_agree n one two xs ys h k = (
    chain_agrees 1,
    (
      chain_agrees (1 + n),
      along_append (AreOneRule labels others) (raised 1 one) (raised (1 + n) two) (raised 1 xs) (raised (1 + n) ys) (raised_agree 1 one xs h) (raised_agree (1 + n) two ys k),
    ),
  )

  -- sums of grammars that agree by the texts of their labels agree so
  pub sum_by_text : (one two g h : GrammarOf) → AgreeByText labels others one g → AgreeByText labels others two h → AgreeByText labels others (sum_grammar one two) (sum_grammar g h)
  sum_by_text one two g h a b = record {
    names = ap (λ (xs : List (List ℕ)). names_of (1 + length xs + length two.names)) a.names ∙ ap (λ (ys : List (List ℕ)). names_of (1 + length g.names + length ys)) b.names;
    rules = subst (λ (n : ℕ). Along (AreOneRule labels others) (sum_rules (length one.names) one.rules two.rules) (sum_rules n g.rules h.rules)) (ap length a.names)
        (rules_agree (length one.names) one.rules two.rules g.rules h.rules a.rules b.rules);
  }
