-- The text of a composition does not depend on the numbers of labels.
use Rattle.tib_cost.specs.declared.Scale.{Scale}
use Rattle.std.proofs.Common.{◌≡◌, ℕ, ◌<◌, List, [], ◌∷◌, ◌++◌, length, map, get_or, refl, ap, sym, ◌∙◌, subst, arith, zero, suc, Option}
use Rattle.std.specs.Prelude.{Some, None}
use Rattle.std.proofs.lemmas.List.{length-map, get_or-map}
use Rattle.tib_lex.specs.Lists.{Along, Distinct}
use Rattle.tib_tree.specs.Trees.{Tree, Trees, none, tree, join, only, count, first_trees, other_trees, relabel, relabel_tree, first_of}
use Rattle.tib_tree.proofs.Counts.{count-relabel}
use Rattle.tib_grammar.specs.Sides.{Symbol, label, hole, Side, holes, AreHoles}
use Rattle.tib_grammar_file.proofs.Renumbering.{Renumbers, renumbering}
use Rattle.tib_expand.specs.Reached.{IsReachedSet}
use Rattle.tib_transducer.specs.Rules.{transducer_rule, no_rule, states_in, variables_in}
use Rattle.tib_transducer.specs.Run.{tree_at, pick}
use Rattle.tib_transducer.specs.TransducerOf.{TransducerOf}
use Rattle.tib_transducer.specs.declared.Variable.{Variable}
use Rattle.tib_transducer.specs.declared.Pair.{Pair}
use Rattle.tib_transducer.specs.declared.TransducerRule.{TransducerRule}
use Rattle.tib_transducer_file.specs.ByText.{AreOneTransducerRule, AreOneTransducer}
use Rattle.tib_canon.proofs.ReachedAlike.{Correspond, reached_alike}
use Rattle.tib_key_edges.specs.Translations.{plug, IsOver, AreTranslations, translated, choice_cost}
use Rattle.tib_key_edges.specs.Composing.{IsComposeEdge}
use Rattle.tib_key_edges.specs.Composition.{composition}
use Rattle.tib_key_edges.proofs.Exact.{composition_laws, same_edge}
use Rattle.tib_canon.specs.Composing.{composing, HasComposeText}
use Rattle.tib_canon.proofs.TransducerConstruct.{transducer_construction_once}
use Rattle.tib_canon.proofs.Relabelled.{left_with, right_with, move_with, moves_with, pairs_kept, move_given}

join_with : {A B : Type 0} (g : A → B) (ts us : Trees A) → relabel g (join ts us) ≡ join (relabel g ts) (relabel g us)
join_with g none us = refl
join_with g (tree s kids rest) us = ap (tree (g s) (relabel g kids)) (join_with g rest us)

at_with : {A B : Type 0} (g : A → B) (ts : Trees A) (i : ℕ) → relabel g (tree_at ts i) ≡ tree_at (relabel g ts) i
at_with g none i = refl
at_with g (tree s kids rest) zero = refl
at_with g (tree s kids rest) (suc i) = at_with g rest i

pick_with : {A B : Type 0} (g : A → B) (ts : Trees A) (is : List ℕ) → relabel g (pick ts is) ≡ pick (relabel g ts) is
pick_with g ts [] = refl
pick_with g ts (i ∷ is) =
    join_with g (tree_at ts i) (pick ts is) ∙ ap (λ x. join x (relabel g (pick ts is))) (at_with g ts i) ∙ ap (join (tree_at (relabel g ts) i)) (pick_with g ts is)

first_with : {A B : Type 0} (g : A → B) (n : ℕ) (ts : Trees A) → relabel g (first_trees n ts) ≡ first_trees n (relabel g ts)
first_with g zero ts = refl
first_with g (suc n) none = refl
first_with g (suc n) (tree s kids rest) = ap (tree (g s) (relabel g kids)) (first_with g n rest)

other_with : {A B : Type 0} (g : A → B) (n : ℕ) (ts : Trees A) → relabel g (other_trees n ts) ≡ other_trees n (relabel g ts)
other_with g zero ts = refl
other_with g (suc n) none = refl
other_with g (suc n) (tree s kids rest) = other_with g n rest

holes_with : {P : Type 0} (f : ℕ → ℕ) (ts : Trees (Symbol ℕ (Pair P))) → holes (relabel (right_with f) ts) ≡ holes ts
holes_with f none = refl
holes_with {P} f (tree (label g) kids rest) = ap (λ (xs : List (Pair P)). xs ++ holes (relabel (right_with f) rest)) (holes_with f kids) ∙ ap (λ (xs : List (Pair P)). holes kids ++ xs) (holes_with f rest)
holes_with {P} f (tree (hole x) kids rest) = ap (λ (xs : List (Pair P)). x ∷ xs) (holes_with f rest)

module _ (f : ℕ → ℕ) (apart : (i j : ℕ) → f i ≡ f j → i ≡ j) where
  plug_with : {P Q : Type 0} (s : Trees (Symbol ℕ (Pair P))) (us : Trees (Symbol ℕ (Pair Q))) → relabel (right_with f) (plug s us) ≡ plug (relabel (right_with f) s) (relabel (right_with f) us)
  plug_with none us = refl
  plug_with {P} {Q} (tree (label g) kids rest) us =
      let same : length (holes (relabel (right_with f) kids)) ≡ length (holes kids) = ap length (holes_with f kids) in
      ap (λ x. tree (label (f g)) x (relabel (right_with f) (plug rest (other_trees (length (holes kids)) us)))) (plug_with kids (first_trees (length (holes kids)) us))
      ∙ ap (λ x. tree (label (f g)) (plug (relabel (right_with f) kids) (relabel (right_with f) (first_trees (length (holes kids)) us))) x) (plug_with rest (other_trees (length (holes kids)) us))
      ∙ ap (λ x. tree (label (f g)) (plug (relabel (right_with f) kids) x) (plug (relabel (right_with f) rest) (relabel (right_with f) (other_trees (length (holes kids)) us)))) (first_with (right_with f) (length (holes kids)) us)
      ∙ ap (λ x. tree (label (f g)) (plug (relabel (right_with f) kids) (first_trees (length (holes kids)) (relabel (right_with f) us))) (plug (relabel (right_with f) rest) x)) (other_with (right_with f) (length (holes kids)) us)
      ∙ ap (λ n. tree (label (f g)) (plug (relabel (right_with f) kids) (first_trees n (relabel (right_with f) us))) (plug (relabel (right_with f) rest) (other_trees n (relabel (right_with f) us)))) (sym same)
  plug_with (tree (hole p) kids rest) none = refl
  plug_with (tree (hole p) kids rest) (tree s below us) = ap (tree (right_with f s) (relabel (right_with f) below)) (plug_with rest us)

  holes_are : (ts : Trees (Symbol ℕ Variable)) → AreHoles ts → AreHoles (relabel (left_with f) ts)
  holes_are none h = tt
  holes_are (tree (label g) kids rest) h = absurd h
  holes_are (tree (hole x) kids rest) h = holes_are rest h

  holes_back : (ts : Trees (Symbol ℕ Variable)) → AreHoles (relabel (left_with f) ts) → AreHoles ts
  holes_back none h = tt
  holes_back (tree (label g) kids rest) h = absurd h
  holes_back (tree (hole x) kids rest) h = holes_back rest h

  label_back : (s : Symbol ℕ Variable) (g : ℕ) → left_with f s ≡ label (f g) → s ≡ label g
  label_back (label k) g e = let same : f k ≡ f g = cc e in ap label (apart k g same)
  label_back (hole x) g e = absurd (cc e)

  over_to : (left : Side ℕ Variable) (g n k : ℕ) → n ≡ k → IsOver left g n → IsOver (relabel_tree (left_with f) left) (f g) k
  over_to left g n k e o = record { root = ap (left_with f) o.root; variables = holes_are left.kids o.variables; rank = count-relabel (left_with f) left.kids ∙ o.rank ∙ e }

  over_from : (left : Side ℕ Variable) (g n k : ℕ) → n ≡ k → IsOver (relabel_tree (left_with f) left) (f g) k → IsOver left g n
  over_from left g n k e o = record { root = label_back left.label g o.root; variables = holes_back left.kids o.variables; rank = sym (count-relabel (left_with f) left.kids) ∙ o.rank ∙ sym e }

  module _ (two : List (TransducerRule ℕ)) where
    rule_with : (n : ℕ) → n < length two → transducer_rule (moves_with f two) n ≡ move_with f (transducer_rule two n)
    rule_with n h = get_or-map (move_with f) two n no_rule no_rule h

    as_long : length (moves_with f two) ≡ length two
    as_long = length-map two (move_with f)

    states_same : (n : ℕ) → n < length two → states_in (transducer_rule (moves_with f two) n).right ≡ states_in (transducer_rule two n).right
    states_same n h = ap (λ (r : TransducerRule ℕ). states_in r.right) (rule_with n h) ∙ ap (map (λ x. x.state)) (pairs_kept f (transducer_rule two n).right)

    variables_same : (n : ℕ) → n < length two → variables_in (transducer_rule (moves_with f two) n).right ≡ variables_in (transducer_rule two n).right
    variables_same n h = ap (λ (r : TransducerRule ℕ). variables_in r.right) (rule_with n h) ∙ ap (map (λ x. x.variable)) (pairs_kept f (transducer_rule two n).right)

    picked_same : {P : Type 0} (n : ℕ) → n < length two → (kids : Trees (Symbol ℕ (Pair P))) → pick (relabel (right_with f) kids) (variables_in (transducer_rule (moves_with f two) n).right) ≡ relabel (right_with f) (pick kids (variables_in (transducer_rule two n).right))
    picked_same n h kids = ap (pick (relabel (right_with f) kids)) (variables_same n h) ∙ sym (pick_with (right_with f) kids (variables_in (transducer_rule two n).right))

    choice_to : {P : Type 0} (choice : Trees (Option ℕ)) (ps : List ℕ) (sides : Trees (Symbol ℕ (Pair P))) → AreTranslations two ps sides choice → AreTranslations (moves_with f two) ps (relabel (right_with f) sides) choice
    choice_to none [] none t = t
    choice_to none [] (tree s kids rest) t = absurd t
    choice_to none (p ∷ ps) none t = absurd t
    choice_to none (p ∷ ps) (tree s kids rest) t = absurd t
    choice_to (tree c below more) [] none t = absurd t
    choice_to (tree c below more) [] (tree s kids rest) t = absurd t
    choice_to (tree c below more) (p ∷ ps) none t = absurd t
    choice_to (tree None below more) (p ∷ ps) (tree (label g) kids rest) t = absurd t
    choice_to (tree (Some r) below more) (p ∷ ps) (tree (hole x) kids rest) t = absurd t
    choice_to (tree None (tree d e k) more) (p ∷ ps) (tree (hole x) kids rest) t = absurd t
    choice_to (tree None none more) (p ∷ ps) (tree (hole x) kids rest) t = choice_to more ps rest t
    choice_to {P} (tree (Some r) below more) (p ∷ ps) (tree (label g) kids rest) t = (
      omega (arith, t.0, as_long),
      ap (λ (z : TransducerRule ℕ). z.state) (rule_with r t.0) ∙ t.1,
      subst (λ (z : TransducerRule ℕ). IsOver z.left (f g) (count (relabel (right_with f) kids))) (sym (rule_with r t.0)) (over_to (transducer_rule two r).left g (count kids) (count (relabel (right_with f) kids)) (sym (count-relabel (right_with f) kids)) t.2),
      subst (λ (qs : List ℕ). AreTranslations (moves_with f two) qs (pick (relabel (right_with f) kids) (variables_in (transducer_rule (moves_with f two) r).right)) below) (sym (states_same r t.0))
          (subst (λ (z : Trees (Symbol ℕ (Pair P))). AreTranslations (moves_with f two) (states_in (transducer_rule two r).right) z below) (sym (picked_same r t.0 kids))
          (choice_to below (states_in (transducer_rule two r).right) (pick kids (variables_in (transducer_rule two r).right)) t.3)),
      choice_to more ps rest t.4,
    )

    choice_from : {P : Type 0} (choice : Trees (Option ℕ)) (ps : List ℕ) (sides : Trees (Symbol ℕ (Pair P))) → AreTranslations (moves_with f two) ps (relabel (right_with f) sides) choice → AreTranslations two ps sides choice
    choice_from none [] none t = t
    choice_from none [] (tree s kids rest) t = absurd t
    choice_from none (p ∷ ps) none t = absurd t
    choice_from none (p ∷ ps) (tree s kids rest) t = absurd t
    choice_from (tree c below more) [] none t = absurd t
    choice_from (tree c below more) [] (tree s kids rest) t = absurd t
    choice_from (tree c below more) (p ∷ ps) none t = absurd t
    choice_from (tree None below more) (p ∷ ps) (tree (label g) kids rest) t = absurd t
    choice_from (tree (Some r) below more) (p ∷ ps) (tree (hole x) kids rest) t = absurd t
    choice_from (tree None (tree d e k) more) (p ∷ ps) (tree (hole x) kids rest) t = absurd t
    choice_from (tree None none more) (p ∷ ps) (tree (hole x) kids rest) t = choice_from more ps rest t
    choice_from {P} (tree (Some r) below more) (p ∷ ps) (tree (label g) kids rest) t =
        let low : r < length two = omega (arith, t.0, as_long) in (
          low,
          sym (ap (λ (z : TransducerRule ℕ). z.state) (rule_with r low)) ∙ t.1,
          over_from (transducer_rule two r).left g (count kids) (count (relabel (right_with f) kids)) (sym (count-relabel (right_with f) kids))
              (subst (λ (z : TransducerRule ℕ). IsOver z.left (f g) (count (relabel (right_with f) kids))) (rule_with r low) t.2),
          choice_from below (states_in (transducer_rule two r).right) (pick kids (variables_in (transducer_rule two r).right))
              (subst (λ (z : Trees (Symbol ℕ (Pair P))). AreTranslations (moves_with f two) (states_in (transducer_rule two r).right) z below) (picked_same r low kids)
              (subst (λ (qs : List ℕ). AreTranslations (moves_with f two) qs (pick (relabel (right_with f) kids) (variables_in (transducer_rule (moves_with f two) r).right)) below) (states_same r low) t.3)),
          choice_from more ps rest t.4,
        )

    translated_same : {P : Type 0} (choice : Trees (Option ℕ)) (ps : List ℕ) (sides : Trees (Symbol ℕ (Pair P))) → AreTranslations two ps sides choice → translated (moves_with f two) ps (relabel (right_with f) sides) choice ≡ relabel (right_with f) (translated two ps sides choice)
    translated_same none ps sides t = refl
    translated_same (tree c below more) [] none t = absurd t
    translated_same (tree c below more) [] (tree s kids rest) t = absurd t
    translated_same (tree c below more) (p ∷ ps) none t = absurd t
    translated_same (tree None below more) (p ∷ ps) (tree (label g) kids rest) t = absurd t
    translated_same (tree (Some r) below more) (p ∷ ps) (tree (hole x) kids rest) t = absurd t
    translated_same (tree None (tree d e k) more) (p ∷ ps) (tree (hole x) kids rest) t = absurd t
    translated_same {P} (tree None none more) (p ∷ ps) (tree (hole x) kids rest) t =
        ap (λ (z : Trees (Symbol ℕ (Pair (P × ℕ)))). tree (hole (record { state = (x.state, p); variable = x.variable })) none z) (translated_same more ps rest t)
    translated_same {P} (tree (Some r) below more) (p ∷ ps) (tree (label g) kids rest) t =
        let inner : Trees (Symbol ℕ (Pair (P × ℕ))) = translated two (states_in (transducer_rule two r).right) (pick kids (variables_in (transducer_rule two r).right)) below in
        let new : Trees (Symbol ℕ (Pair (P × ℕ))) = translated (moves_with f two) (states_in (transducer_rule (moves_with f two) r).right) (pick (relabel (right_with f) kids) (variables_in (transducer_rule (moves_with f two) r).right)) below in
        let behind : Trees (Symbol ℕ (Pair (P × ℕ))) = translated two ps rest more in
        let e : new ≡ relabel (right_with f) inner =
        ap (λ (qs : List ℕ). translated (moves_with f two) qs (pick (relabel (right_with f) kids) (variables_in (transducer_rule (moves_with f two) r).right)) below) (states_same r t.0)
        ∙ ap (λ (z : Trees (Symbol ℕ (Pair P))). translated (moves_with f two) (states_in (transducer_rule two r).right) z below) (picked_same r t.0 kids)
        ∙ translated_same below (states_in (transducer_rule two r).right) (pick kids (variables_in (transducer_rule two r).right)) t.3 in
        ap (λ (z : Trees (Symbol ℕ (Pair (P × ℕ)))). join (plug (only (transducer_rule (moves_with f two) r).right) z) (translated (moves_with f two) ps (relabel (right_with f) rest) more)) e
        ∙ ap (λ (z : TransducerRule ℕ). join (plug (only z.right) (relabel (right_with f) inner)) (translated (moves_with f two) ps (relabel (right_with f) rest) more)) (rule_with r t.0)
        ∙ ap (λ (z : Trees (Symbol ℕ (Pair (P × ℕ)))). join z (translated (moves_with f two) ps (relabel (right_with f) rest) more)) (sym (plug_with (only (transducer_rule two r).right) inner))
        ∙ ap (join (relabel (right_with f) (plug (only (transducer_rule two r).right) inner))) (translated_same more ps rest t.4)
        ∙ sym (join_with (right_with f) (plug (only (transducer_rule two r).right) inner) behind)

    cost_same : {P : Type 0} (product : ℕ → ℕ → ℕ) (choice : Trees (Option ℕ)) (ps : List ℕ) (sides : Trees (Symbol ℕ (Pair P))) → AreTranslations two ps sides choice → choice_cost product (moves_with f two) choice ≡ choice_cost product two choice
    cost_same product none ps sides t = refl
    cost_same product (tree c below more) [] none t = absurd t
    cost_same product (tree c below more) [] (tree s kids rest) t = absurd t
    cost_same product (tree c below more) (p ∷ ps) none t = absurd t
    cost_same product (tree None below more) (p ∷ ps) (tree (label g) kids rest) t = absurd t
    cost_same product (tree (Some r) below more) (p ∷ ps) (tree (hole x) kids rest) t = absurd t
    cost_same product (tree None (tree d e k) more) (p ∷ ps) (tree (hole x) kids rest) t = absurd t
    cost_same product (tree None none more) (p ∷ ps) (tree (hole x) kids rest) t = cost_same product more ps rest t
    cost_same product (tree (Some r) below more) (p ∷ ps) (tree (label g) kids rest) t =
        ap (λ c. product (product c (choice_cost product (moves_with f two) below)) (choice_cost product (moves_with f two) more)) (ap (λ (z : TransducerRule ℕ). z.cost) (rule_with r t.0))
        ∙ ap (λ c. product (product (transducer_rule two r).cost c) (choice_cost product (moves_with f two) more)) (cost_same product below (states_in (transducer_rule two r).right) (pick kids (variables_in (transducer_rule two r).right)) t.3)
        ∙ ap (product (product (transducer_rule two r).cost (choice_cost product two below))) (cost_same product more ps rest t.4)

  -- a list of trees that is one tree with the other numbers is one tree
  one_back : {A B : Type 0} (g : A → B) (d : A) (ts : Trees A) (s : Tree B) → relabel g ts ≡ only s → ts ≡ only (first_of d ts)
  one_back g d none s e = absurd (cc e)
  one_back g d (tree x kids none) s e = refl
  one_back g d (tree x kids (tree y below more)) s e = absurd (cc e)

  module _ (product : ℕ → ℕ → ℕ) (one two : List (TransducerRule ℕ)) (key : ℕ × ℕ) (o : ℕ × Trees (Option ℕ)) where
    edge_to : (e : TransducerRule (ℕ × ℕ)) → IsComposeEdge product one two key o e → IsComposeEdge product (moves_with f one) (moves_with f two) key o (move_with f e)
    edge_to e h =
        let r : TransducerRule ℕ = transducer_rule one o.0 in
        let is : transducer_rule (moves_with f one) o.0 ≡ move_with f r = rule_with one o.0 h.below in
        let own : IsComposeEdge product (moves_with f one) (moves_with f two) key o (move_with f e) = record {
          below = omega (arith, h.below, as_long one);
          from = ap (λ (z : TransducerRule ℕ). z.state) is ∙ h.from;
          choice = subst (λ (z : TransducerRule ℕ). AreTranslations (moves_with f two) (key.1 ∷ []) (only z.right) o.1) (sym is) (choice_to two o.1 (key.1 ∷ []) (only r.right) h.choice);
          state = h.state;
          left = ap (relabel_tree (left_with f)) h.left ∙ sym (ap (λ (z : TransducerRule ℕ). z.left) is);
          right = ap (relabel (right_with f)) h.right ∙ sym (translated_same two o.1 (key.1 ∷ []) (only r.right) h.choice)
              ∙ sym (ap (λ (z : TransducerRule ℕ). translated (moves_with f two) (key.1 ∷ []) (only z.right) o.1) is);
          costs = h.costs ∙ ap (λ c. product c (choice_cost product two o.1)) (sym (ap (λ (z : TransducerRule ℕ). z.cost) is))
              ∙ ap (product (transducer_rule (moves_with f one) o.0).cost) (sym (cost_same two product o.1 (key.1 ∷ []) (only r.right) h.choice));
          within = h.within;
        } in
        own

    edge_from : (e : TransducerRule (ℕ × ℕ)) → IsComposeEdge product (moves_with f one) (moves_with f two) key o e → (old : TransducerRule (ℕ × ℕ)) × (e ≡ move_with f old) × IsComposeEdge product one two key o old
    edge_from e h =
        let low : o.0 < length one = omega (arith, h.below, as_long one) in
        let r : TransducerRule ℕ = transducer_rule one o.0 in
        let is : transducer_rule (moves_with f one) o.0 ≡ move_with f r = rule_with one o.0 low in
        let choice : AreTranslations two (key.1 ∷ []) (only r.right) o.1 = choice_from two o.1 (key.1 ∷ []) (only r.right) (subst (λ (z : TransducerRule ℕ). AreTranslations (moves_with f two) (key.1 ∷ []) (only z.right) o.1) is h.choice) in
        let out : Trees (Symbol ℕ (Pair (ℕ × ℕ))) = translated two (key.1 ∷ []) (only r.right) o.1 in
        let moved : relabel (right_with f) out ≡ only e.right =
        sym (translated_same two o.1 (key.1 ∷ []) (only r.right) choice) ∙ sym (ap (λ (z : TransducerRule ℕ). translated (moves_with f two) (key.1 ∷ []) (only z.right) o.1) is) ∙ sym h.right in
        let one_tree : out ≡ only (first_of (label 0) out) = one_back (right_with f) (label 0) out e.right moved in
        let costs : e.cost ≡ product r.cost (choice_cost product two o.1) =
        h.costs ∙ ap (λ c. product c (choice_cost product (moves_with f two) o.1)) (ap (λ (z : TransducerRule ℕ). z.cost) is)
        ∙ ap (product r.cost) (cost_same two product o.1 (key.1 ∷ []) (only r.right) choice) in
        let old : TransducerRule (ℕ × ℕ) = record { state = key; left = r.left; right = first_of (label 0) out; cost = e.cost } in
        let edge : IsComposeEdge product one two key o old = record {
          below = low;
          from = sym (ap (λ (z : TransducerRule ℕ). z.state) is) ∙ h.from;
          choice = choice;
          state = refl;
          left = refl;
          right = sym one_tree;
          costs = costs;
          within = h.within;
        } in
        (old, same_edge product (moves_with f one) (moves_with f two) key o e (move_with f old) h (edge_to old edge), edge)

  edges_correspond : (product : ℕ → ℕ → ℕ) (one two : List (TransducerRule ℕ)) (key : ℕ × ℕ) → Correspond (move_with f) (IsComposeEdge product one two key) (IsComposeEdge product (moves_with f one) (moves_with f two) key)
  edges_correspond product one two key = record { to = λ o e h. edge_to product one two key o e h; from = λ o e h. edge_from product one two key o e h }

  pub compose_alike :
      (product : ℕ → ℕ → ℕ) (one two : List (TransducerRule ℕ)) (order : List (ℕ × ℕ)) (es : List (TransducerRule (ℕ × ℕ))) → IsReachedSet (composition product one two) order es →
      IsReachedSet (composition product (moves_with f one) (moves_with f two)) order (moves_with f es)
  compose_alike product one two order es h =
      reached_alike (move_with f) (composition product one two) (composition product (moves_with f one) (moves_with f two)) (record {
        cmp = refl;
        seed_to = λ k s. s;
        seed_from = λ k s. s;
        seed_edges = record { to = λ o e s. s; from = λ o e s. absurd s };
        edges = λ ks n. edges_correspond product one two (get_or ks n (0, 0));
        ends = λ e. ap (map (λ x. x.state)) (pairs_kept f e.right);
      }) order es h

pub moves_given : (labels others : List (List ℕ)) (f : ℕ → ℕ) → Renumbers labels others f → (rs ss : List (TransducerRule ℕ)) → Along (AreOneTransducerRule labels others) rs ss → moves_with f rs ≡ ss
moves_given labels others f n [] [] h = refl
moves_given labels others f n [] (s ∷ ss) h = absurd h
moves_given labels others f n (r ∷ rs) [] h = absurd h
moves_given labels others f n (r ∷ rs) (s ∷ ss) h = ap (λ (x : TransducerRule ℕ). x ∷ moves_with f rs) (move_given labels others f n r s h.0) ∙ ap (λ (xs : List (TransducerRule ℕ)). s ∷ xs) (moves_given labels others f n rs ss h.1)

-- transducers that agree by the texts of their labels have one text of their composition
pub compose_once :
    (scale : Scale) (product : ℕ → ℕ → ℕ) (limit : ℕ) (labels others : List (List ℕ)) (t u v w : TransducerOf) (text other : List ℕ) → Distinct labels → Distinct others → AreOneTransducer labels others t v → AreOneTransducer labels others u w →
    HasComposeText scale product limit labels t u text → HasComposeText scale product limit others v w other → text ≡ other
compose_once scale product limit labels others t u v w text other apart different a b x y =
    let s = renumbering labels others apart different in
    let first : moves_with s.0 t.rules ≡ v.rules = moves_given labels others s.0 s.1 t.rules v.rules a.rules in
    let second : moves_with s.0 u.rules ≡ w.rules = moves_given labels others s.0 s.1 u.rules w.rules b.rules in
    x.are
    ∙ transducer_construction_once scale limit labels others s.0 s.1 (composing product t u) (composing product v w) (composition_laws product v.rules w.rules) (record {
      cmp = refl;
      spare = refl;
      reached = λ order es h.
          subst (λ (rs : List (TransducerRule ℕ)). IsReachedSet (composition product v.rules rs) order (moves_with s.0 es)) second
          (subst (λ (rs : List (TransducerRule ℕ)). IsReachedSet (composition product rs (moves_with s.0 u.rules)) order (moves_with s.0 es)) first (compose_alike s.0 s.1.apart product t.rules u.rules order es h));
    }) x.h y.h x.canonical y.canonical
    ∙ sym y.are
