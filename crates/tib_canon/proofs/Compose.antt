-- The composition of two transducers as a construction.
use Rattle.tib_cost.specs.declared.Scale.{Scale}
use Rattle.tib_cost.specs.declared.Scale.TheVariants as scales
use Rattle.std.proofs.Common.{◌≡◌, ℕ, ◌<◌, ◌≤◌, Bool, List, [], ◌∷◌, length, map, get_or, refl, ap, sym, ◌∙◌, subst, arith, inl, inr, zero, suc, Option, append-nil}
use Rattle.std.specs.Prelude.{Some, None}
use Rattle.std.specs.Ordering.{nat_cmp}
use Rattle.std.specs.declared.cmp.Ordering.TheVariants.{Equal}
use Rattle.tib_lex.specs.Lists.{Has, Each, Distinct}
use Rattle.tib_lex.proofs.Lists.{each_append, each_parts}
use Rattle.tib_lex.proofs.Members.{has_at, each_has}
use Rattle.tib_tree.specs.Trees.{Trees, none, tree, join, only, count, preorder, preorder_of, first_trees, other_trees}
use Rattle.tib_cost.specs.Semiring.{ProductLaws}
use Rattle.tib_lex.specs.PairOrder.{pair_cmp}
use Rattle.tib_grammar.specs.Sides.{Symbol, label, hole, holes, holes_of, HolesAreLeaves}
use Rattle.tib_grammar_file.specs.Printable.{IsPlainCost}
use Rattle.tib_expand.specs.Keys.{key_parts}
use Rattle.tib_expand.specs.Reached.{IsReached, IsReachedSet}
use Rattle.tib_key_edges.proofs.KeyOrders.{order_begins}
use Rattle.tib_transducer.specs.Range.{AreNumbered, IsShaped, AreShaped}
use Rattle.tib_transducer.specs.Rules.{transducer_rule, no_rule, states_in, variables_in, variables_of}
use Rattle.tib_transducer.specs.Run.{pick}
use Rattle.tib_transducer.specs.TransducerOf.{TransducerOf}
use Rattle.tib_transducer.specs.declared.Variable.{Variable}
use Rattle.tib_transducer.specs.declared.Pair.{Pair}
use Rattle.tib_transducer.specs.declared.TransducerRule.{TransducerRule}
use Rattle.tib_transducer_file.specs.ByName.{IsPlainLabel, IsPlainOnLeft, IsPlainOnRight, IsPrintable, ReadsBack}
use Rattle.tib_transducer_file.specs.Printed.{transducer_text}
use Rattle.tib_canon.specs.Constructions.{HasReachedWithin}
use Rattle.tib_canon.proofs.ConstructionExists.{few_keys}
use Rattle.tib_canon.proofs.ReachedOnce.{edge_given, ends_stand}
use Rattle.tib_canon.proofs.SeriesByName.{one_series, text_states, canonical_states}
use Rattle.tib_canon.proofs.Sorting.{number_same}
use Rattle.tib_key_edges.specs.Plain.{ArePlain}
use Rattle.tib_key_edges.specs.Translations.{plug, AreTranslations, translated, choice_cost}
use Rattle.tib_key_edges.specs.Composing.{IsComposeEdge, IsComposite}
use Rattle.tib_key_edges.specs.Composition.{ends_of, edge_parts, composition}
use Rattle.tib_key_edges.proofs.Composed.{is_composed}
use Rattle.tib_key_edges.proofs.Exact.{composition_laws, reached_is_composite}
use Rattle.tib_key_edges.proofs.Flattened.{translations_end_in_holes}
use Rattle.tib_key_edges.proofs.Standing.{variables_translated, variables_each}
use Rattle.tib_canon.specs.Composing.{composing, HasComposeSeries, HasComposeText}
use Rattle.tib_canon.specs.TransducerConstructions.{IsCanonicalTransducerOf}
use Rattle.tib_canon.specs.TransducerKeys.{AreMovesOver}
use Rattle.tib_canon.proofs.TransducerConstruct.{IsPlainOn, IsMoveOverKeys, IsPlainTransducerConstruction, transducer_construction_there}
use Rattle.tib_canon.proofs.TransducerOverKeys.{canonical_series}
use Rattle.tib_lex.proofs.PairOrder.{both_equal}

-- labels that are plain

abbrev ArePlainTrees : {P : Type 0} → List (List ℕ) → Trees (Symbol ℕ P) → Type 0
ArePlainTrees labels none = Unit {0}
ArePlainTrees labels (tree (label f) kids rest) = IsPlainLabel labels f × ArePlainTrees labels kids × ArePlainTrees labels rest
ArePlainTrees labels (tree (hole x) kids rest) = ArePlainTrees labels kids × ArePlainTrees labels rest

module _ (labels : List (List ℕ)) where
  plain_trees : (ts : Trees (Symbol ℕ (Pair ℕ))) → Each (λ (s : Symbol ℕ (Pair ℕ) × ℕ). IsPlainOnRight labels s.0) (preorder ts) → ArePlainTrees labels ts
  plain_trees none h = tt
  plain_trees (tree (label f) kids rest) h = let p = each_parts (λ (s : Symbol ℕ (Pair ℕ) × ℕ). IsPlainOnRight labels s.0) (preorder kids) (preorder rest) h.1 in (h.0, plain_trees kids p.0, plain_trees rest p.1)
  plain_trees (tree (hole x) kids rest) h = let p = each_parts (λ (s : Symbol ℕ (Pair ℕ) × ℕ). IsPlainOnRight labels s.0) (preorder kids) (preorder rest) h.1 in (plain_trees kids p.0, plain_trees rest p.1)

  trees_plain : {P : Type 0} (ts : Trees (Symbol ℕ P)) → ArePlainTrees labels ts → Each (λ (s : Symbol ℕ P × ℕ). IsPlainOn labels s.0) (preorder ts)
  trees_plain none h = tt
  trees_plain {P} (tree (label f) kids rest) h = (h.0, each_append (λ (s : Symbol ℕ P × ℕ). IsPlainOn labels s.0) (preorder kids) (preorder rest) (trees_plain kids h.1) (trees_plain rest h.2))
  trees_plain {P} (tree (hole x) kids rest) h = (tt, each_append (λ (s : Symbol ℕ P × ℕ). IsPlainOn labels s.0) (preorder kids) (preorder rest) (trees_plain kids h.0) (trees_plain rest h.1))

  plain_join : {P : Type 0} (s t : Trees (Symbol ℕ P)) → ArePlainTrees labels s → ArePlainTrees labels t → ArePlainTrees labels (join s t)
  plain_join none t a b = b
  plain_join (tree (label f) kids rest) t a b = (a.0, a.1, plain_join rest t a.2 b)
  plain_join (tree (hole x) kids rest) t a b = (a.0, plain_join rest t a.1 b)

  plain_first : {P : Type 0} (n : ℕ) (s : Trees (Symbol ℕ P)) → ArePlainTrees labels s → ArePlainTrees labels (first_trees n s)
  plain_first zero s a = tt
  plain_first (suc n) none a = tt
  plain_first (suc n) (tree (label f) kids rest) a = (a.0, a.1, plain_first n rest a.2)
  plain_first (suc n) (tree (hole x) kids rest) a = (a.0, plain_first n rest a.1)

  plain_other : {P : Type 0} (n : ℕ) (s : Trees (Symbol ℕ P)) → ArePlainTrees labels s → ArePlainTrees labels (other_trees n s)
  plain_other zero s a = a
  plain_other (suc n) none a = tt
  plain_other (suc n) (tree (label f) kids rest) a = plain_other n rest a.2
  plain_other (suc n) (tree (hole x) kids rest) a = plain_other n rest a.1

  plain_plug : {P Q : Type 0} (s : Trees (Symbol ℕ P)) (us : Trees (Symbol ℕ Q)) → ArePlainTrees labels s → ArePlainTrees labels us → ArePlainTrees labels (plug s us)
  plain_plug none us a b = tt
  plain_plug (tree (label f) kids rest) us a b = (
    a.0,
    plain_plug kids (first_trees (length (holes kids)) us) a.1 (plain_first (length (holes kids)) us b),
    plain_plug rest (other_trees (length (holes kids)) us) a.2 (plain_other (length (holes kids)) us b),
  )
  plain_plug (tree (hole p) kids rest) none a b = tt
  plain_plug (tree (hole p) kids rest) (tree (label f) below us) a b = (b.0, b.1, plain_plug rest us a.1 b.2)
  plain_plug (tree (hole p) kids rest) (tree (hole x) below us) a b = (b.0, plain_plug rest us a.1 b.1)

  module _ (two : List (TransducerRule ℕ)) (plain : (n : ℕ) → n < length two → ArePlainTrees labels (only (transducer_rule two n).right)) where
    plain_translated : {P : Type 0} (choice : Trees (Option ℕ)) (ps : List ℕ) (sides : Trees (Symbol ℕ (Pair P))) → AreTranslations two ps sides choice → ArePlainTrees labels (translated two ps sides choice)
    plain_translated none ps sides t = tt
    plain_translated (tree c below more) [] none t = absurd t
    plain_translated (tree c below more) [] (tree s kids rest) t = absurd t
    plain_translated (tree c below more) (p ∷ ps) none t = absurd t
    plain_translated (tree None below more) (p ∷ ps) (tree (label f) kids rest) t = absurd t
    plain_translated (tree (Some r) below more) (p ∷ ps) (tree (hole x) kids rest) t = absurd t
    plain_translated (tree None (tree d e k) more) (p ∷ ps) (tree (hole x) kids rest) t = absurd t
    plain_translated (tree None none more) (p ∷ ps) (tree (hole x) kids rest) t = (tt, plain_translated more ps rest t)
    plain_translated (tree (Some r) below more) (p ∷ ps) (tree (label f) kids rest) t =
        plain_join
        (plug (only (transducer_rule two r).right) (translated two (states_in (transducer_rule two r).right) (pick kids (variables_in (transducer_rule two r).right)) below))
        (translated two ps rest more)
        (plain_plug (only (transducer_rule two r).right) (translated two (states_in (transducer_rule two r).right) (pick kids (variables_in (transducer_rule two r).right)) below) (plain r t.0)
        (plain_translated below (states_in (transducer_rule two r).right) (pick kids (variables_in (transducer_rule two r).right)) t.3))
        (plain_translated more ps rest t.4)

-- where each rule costs 0, so does each choice
choice_free :
    {P : Type 0} (product : ℕ → ℕ → ℕ) → product 0 0 ≡ 0 → (two : List (TransducerRule ℕ)) → ((n : ℕ) → n < length two → (transducer_rule two n).cost ≡ 0) → (choice : Trees (Option ℕ)) (ps : List ℕ) (sides : Trees (Symbol ℕ P)) →
    AreTranslations two ps sides choice → choice_cost product two choice ≡ 0
choice_free product zeros two free none ps sides t = refl
choice_free product zeros two free (tree c below more) [] none t = absurd t
choice_free product zeros two free (tree c below more) [] (tree s kids rest) t = absurd t
choice_free product zeros two free (tree c below more) (p ∷ ps) none t = absurd t
choice_free product zeros two free (tree None below more) (p ∷ ps) (tree (label f) kids rest) t = absurd t
choice_free product zeros two free (tree (Some r) below more) (p ∷ ps) (tree (hole x) kids rest) t = absurd t
choice_free product zeros two free (tree None (tree d e k) more) (p ∷ ps) (tree (hole x) kids rest) t = absurd t
choice_free product zeros two free (tree None none more) (p ∷ ps) (tree (hole x) kids rest) t = choice_free product zeros two free more ps rest t
choice_free product zeros two free (tree (Some r) below more) (p ∷ ps) (tree (label f) kids rest) t =
    ap (λ c. product (product c (choice_cost product two below)) (choice_cost product two more)) (free r t.0)
    ∙ ap (λ c. product (product 0 c) (choice_cost product two more)) (choice_free product zeros two free below (states_in (transducer_rule two r).right) (pick kids (variables_in (transducer_rule two r).right)) t.3)
    ∙ ap (λ c. product c (choice_cost product two more)) zeros
    ∙ ap (product 0) (choice_free product zeros two free more ps rest t.4)
    ∙ zeros

pair_same : (x y : ℕ × ℕ) → pair_cmp x y ≡ Equal → x ≡ y
pair_same x y e =
    let both = both_equal (nat_cmp x.0 y.0) (nat_cmp x.1 y.1) e in
    ap (λ (a : ℕ). (a, x.1)) (number_same x.0 y.0 both.0) ∙ ap (λ (b : ℕ). (y.0, b)) (number_same x.1 y.1 both.1)

module _
    (product : ℕ → ℕ → ℕ) (zeros : product 0 0 ≡ 0) (scale : Scale) (labels : List (List ℕ)) (t u : TransducerOf) (m : AreMovesOver scale labels (length t.names) t.rules) (n : AreMovesOver scale labels (length u.names) u.rules) where
  of_first : (i : ℕ) → i < length t.rules → IsPrintable scale labels (transducer_rule t.rules i)
  of_first i h = each_has (IsPrintable scale labels) t.rules (transducer_rule t.rules i) m.printable (has_at t.rules i no_rule h)

  of_second : (i : ℕ) → i < length u.rules → IsPrintable scale labels (transducer_rule u.rules i)
  of_second i h = each_has (IsPrintable scale labels) u.rules (transducer_rule u.rules i) n.printable (has_at u.rules i no_rule h)

  second_plain : (i : ℕ) → i < length u.rules → ArePlainTrees labels (only (transducer_rule u.rules i).right)
  second_plain i h =
      let r : TransducerRule ℕ = transducer_rule u.rules i in
      plain_trees labels (only r.right)
      (subst (λ (ps : List (Symbol ℕ (Pair ℕ) × ℕ)). Each (λ (s : Symbol ℕ (Pair ℕ) × ℕ). IsPlainOnRight labels s.0) ((r.right.label, count r.right.kids) ∷ ps)) (sym (append-nil (preorder r.right.kids))) (of_second i h).right)

  edge_cost : (key : ℕ × ℕ) (o : ℕ × Trees (Option ℕ)) (e : TransducerRule (ℕ × ℕ)) → IsComposeEdge product t.rules u.rules key o e → IsPlainCost scale e.cost
  edge_cost key o e h = by scale (λ i k. (of_first i k).cost) (λ i k. (of_second i k).cost)
    where
      by : (s : Scale) → ((i : ℕ) → i < length t.rules → IsPlainCost s (transducer_rule t.rules i).cost) → ((i : ℕ) → i < length u.rules → IsPlainCost s (transducer_rule u.rules i).cost) → IsPlainCost s e.cost
      by scales.Plain one two = h.within
      by scales.Reversed one two = h.within
      by scales.Unweighted one two =
          h.costs ∙ ap (λ c. product c (choice_cost product u.rules o.1)) (one o.0 h.below)
          ∙ ap (product 0) (choice_free product zeros u.rules two o.1 (key.1 ∷ []) (only (transducer_rule t.rules o.0).right) h.choice) ∙ zeros

  edge_shaped : (key : ℕ × ℕ) (o : ℕ × Trees (Option ℕ)) (e : TransducerRule (ℕ × ℕ)) → IsComposeEdge product t.rules u.rules key o e → IsShaped e
  edge_shaped key o e h =
      let w = m.shaped o.0 h.below in
      let bound : ℕ = length (holes_of (transducer_rule t.rules o.0).left) in
      let of_one = variables_each (λ i. i < bound) (holes_of (transducer_rule t.rules o.0).right) w.known in
      let over = variables_translated (λ i. i < bound) u.rules o.1 (key.1 ∷ []) (only (transducer_rule t.rules o.0).right) of_one in
      record {
        begins = record { root = w.begins.root; is_root = ap (λ l. l.label) h.left ∙ w.begins.is_root };
        numbered = subst (λ l. AreNumbered 0 (holes_of l)) (sym h.left) w.numbered;
        known = subst (λ l. Each (λ i. i < length (holes_of l)) (variables_in e.right)) (sym h.left)
            (variables_back (λ i. i < bound) (holes_of e.right) (subst (λ z. Each (λ x. x.variable < bound) (holes z)) (sym h.right) over));
      }
    where
      variables_back : {P : Type 0} (Q : ℕ → Type 0) (xs : List (Pair P)) → Each (λ x. Q x.variable) xs → Each Q (map (λ x. x.variable) xs)
      variables_back Q [] a = tt
      variables_back Q (x ∷ xs) a = (a.0, variables_back Q xs a.1)

  module _ (order : List (ℕ × ℕ)) (es : List (TransducerRule (ℕ × ℕ))) (reached : IsReachedSet (composition product t.rules u.rules) order es) where
    edge_over : (i : ℕ) → i < length order → (o : ℕ × Trees (Option ℕ)) (e : TransducerRule (ℕ × ℕ)) → IsComposeEdge product t.rules u.rules (get_or order i (0, 0)) o e → IsMoveOverKeys scale labels order e
    edge_over i low o e h =
        let key : ℕ × ℕ = get_or order i (0, 0) in
        let r : TransducerRule ℕ = transducer_rule t.rules o.0 in
        let labelled : ArePlainTrees labels (only e.right) = subst (λ (z : Trees (Symbol ℕ (Pair (ℕ × ℕ)))). ArePlainTrees labels z) (sym h.right) (plain_translated labels u.rules second_plain o.1 (key.1 ∷ []) (only r.right) h.choice) in
        record {
          state = subst (Has order) (sym h.state) (has_at order i (0, 0) low);
          right = λ k has. ends_stand (composition product t.rules u.rules) (composition_laws product t.rules u.rules) pair_same order reached.0 i low o e k h has;
          shaped = edge_shaped key o e h;
          leaves = (
            subst (λ l. HolesAreLeaves (only l)) (sym h.left) (m.leaves o.0 h.below).0,
            subst (λ (z : Trees (Symbol ℕ (Pair (ℕ × ℕ)))). HolesAreLeaves z) (sym h.right) (translations_end_in_holes u.rules o.1 (key.1 ∷ []) (only r.right)),
          );
          reads = subst (λ l. Each (λ (s : Symbol ℕ Variable × ℕ). IsPlainOnLeft labels s.0) (preorder_of l)) (sym h.left) (of_first o.0 h.below).left;
          puts_out = subst (λ (ps : List (Symbol ℕ (Pair (ℕ × ℕ)) × ℕ)). Each (λ (s : Symbol ℕ (Pair (ℕ × ℕ)) × ℕ). IsPlainOn labels s.0) ((e.right.label, count e.right.kids) ∷ ps)) (append-nil (preorder e.right.kids))
              (trees_plain labels (only e.right) labelled);
          few = subst (λ l. length (variables_of l) ≤ 1000000000) (sym h.left) (of_first o.0 h.below).few;
          cost = edge_cost key o e h;
        }

    each_over : (e : TransducerRule (ℕ × ℕ)) → Has es e → IsMoveOverKeys scale labels order e
    each_over e h = elim (edge_given (composition product t.rules u.rules) (composition_laws product t.rules u.rules) order (length order) es reached.1 e h) [
      | inl s ↦ absurd s.1
      | inr k ↦ edge_over k.0 k.1 k.2.0 e k.2.1
    ]

  begins : (order : List (ℕ × ℕ)) → IsReached (composition product t.rules u.rules) order → (rest : List (ℕ × ℕ)) × (order ≡ (0, 0) ∷ rest)
  begins order (rounds, expanded, after, all) =
      order_begins pair_cmp (0, 0) (IsComposeEdge product t.rules u.rules) ends_of (key_parts (λ k. 2)) edge_parts (composition_laws product t.rules u.rules).total_order rounds expanded order after

  -- the composition of transducers that can be printed
  pub compose_plain : IsPlainTransducerConstruction scale labels (composing product t u)
  compose_plain = record {
    laws = composition_laws product t.rules u.rules;
    equal = pair_same;
    parts = λ k. omega arith;
    some = λ order reached. let b = begins order reached in omega (arith, ap length b.1);
    seeds = λ order reached k e. let b = begins order reached in e ∙ sym (ap (λ (l : List (ℕ × ℕ)). get_or l 0 (0, 0)) b.1);
    ends = λ e. refl;
    edges = each_over;
  }

-- the canonical transducer of the composition does the first and then the second
pub compose_series :
    {levelled weighed : Bool} {product : ℕ → ℕ → ℕ} → ProductLaws levelled weighed product → (scale : Scale) (labels : List (List ℕ)) (limit : ℕ) (t u h : TransducerOf) → AreShaped u.rules → ArePlain u.rules →
    IsCanonicalTransducerOf scale labels limit (composing product t u) h → HasComposeSeries product t.rules u.rules h.rules
compose_series {product = product} laws scale labels limit t u h shaped plain c a v w =
    let composite : IsComposite product t.rules u.rules c.order c.rules = reached_is_composite product t.rules u.rules c.order c.rules c.reached c.over.within in
    let is = is_composed laws t.rules u.rules c.order c.rules (record { two_shaped = shaped; two_plain = plain; composite = composite }) a v w in
    let same = canonical_series laws pair_cmp scale labels c.order c.rules 0 h c.canonical a v w in
    (λ k. is.0 (same.1 k), λ k. same.0 (is.1 k))

-- and so does what its text reads back as
pub read_composes :
    (product : ℕ → ℕ → ℕ) (scale : Scale) (labels : List (List ℕ)) (limit : ℕ) (t u h read : TransducerOf) (text : List ℕ) → (c : IsCanonicalTransducerOf scale labels limit (composing product t u) h) → length c.order ≤ 4294967296 →
    ReadsBack scale labels text h read → HasComposeSeries product t.rules u.rules h.rules → HasComposeSeries product t.rules u.rules read.rules
read_composes product scale labels limit t u h read text c few reads series a v w =
    let same = one_series h read (canonical_states pair_cmp scale labels c.order c.rules 0 h c.canonical few c.over) (text_states scale labels text read reads.text) reads.same product a v w in
    let is = series a v w in
    (λ k. is.0 (same.1 k), λ k. same.0 (is.1 k))

-- where the pairs that are reached are within the limit, it is impossible that there is no text
pub compose_there :
    {levelled weighed : Bool} {product : ℕ → ℕ → ℕ} → ProductLaws levelled weighed product → (scale : Scale) (limit : ℕ) → limit ≤ 4294967296 → (labels : List (List ℕ)) → Distinct labels → (t u : TransducerOf) →
    AreMovesOver scale labels (length t.names) t.rules → AreMovesOver scale labels (length u.names) u.rules → ArePlain u.rules → HasReachedWithin (composition product t.rules u.rules) limit →
    ((text : List ℕ) → HasComposeText scale product limit labels t u text → ⊥) → ⊥
compose_there {product = product} laws scale limit low labels apart t u m n plain w never =
    transducer_construction_there scale labels (composing product t u) (compose_plain product (laws.neutral 0) scale labels t u m n) limit low apart w
    (λ h c read.
    let series : HasComposeSeries product t.rules u.rules h.rules = compose_series laws scale labels limit t u h n.shaped plain c in
    let few : length c.order ≤ 4294967296 = omega (arith, few_keys (key_parts (λ (k : ℕ × ℕ). 2)) (λ k. omega arith) c.order, c.within, low) in
    never (transducer_text scale labels h) (record {
      h = h;
      canonical = c;
      series = series;
      are = refl;
      read = read.0;
      reads = read.1;
      read_series = read_composes product scale labels limit t u h read.0 (transducer_text scale labels h) c few read.1 series;
    }))
