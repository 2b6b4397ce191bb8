-- What `parse` writes: one text, and that there is none cannot be where the reached set is within
-- the limit and the transducer is linear and nondeleting.
use Rattle.tib_cost.specs.declared.Scale.{Scale}
use Rattle.std.proofs.Common.{◌≡◌, ℕ, ◌+◌, ◌<◌, ◌≤◌, Bool, List, [], ◌∷◌, length, map, get_or, refl, sym, ap, ◌∙◌, subst, arith, inl, inr, suc}
use Rattle.std.specs.Ordering.{nat_cmp, ordering_then}
use Rattle.std.specs.declared.cmp.Ordering.TheVariants.{Equal}
use Rattle.std.proofs.lemmas.List.{get_or_default}
use Rattle.tib_lex.specs.Lists.{Has, Distinct, total}
use Rattle.tib_lex.proofs.Members.{has_at}
use Rattle.tib_cost.specs.Semiring.{ProductLaws}
use Rattle.tib_tree.specs.Trees.{Trees, none, tree, only, relabel}
use Rattle.tib_tree.proofs.Counts.{tree_same}
use Rattle.tib_grammar.specs.GrammarOf.{GrammarOf, named_rule}
use Rattle.tib_grammar.specs.Range.{AreInRange, SidesEndInHoles}
use Rattle.tib_grammar.specs.Sides.{Symbol, label, hole, Side as SideFor, HolesAreLeaves, holes_of, symbol_map, side_map}
use Rattle.tib_grammar.specs.declared.Rule.{Rule}
use Rattle.tib_grammar_file.specs.Printable.{IsPlainCost, HavePlainLabels}
use Rattle.tib_grammar_file.specs.Printed.{grammar_text}
use Rattle.tib_grammar_file.proofs.Renumbering.{renumbering}
use Rattle.tib_expand.specs.Keys.{key_parts}
use Rattle.tib_expand.specs.Reached.{IsReached, IsReachedSet, parts_of}
use Rattle.tib_expand.proofs.Reaching.{Laws}
use Rattle.tib_key_edges.proofs.KeyOrders.{op_laws, order_begins}
use Rattle.tib_strings.specs.Range.{AreShaped, AreLinear, AreNondeleting}
use Rattle.tib_strings.specs.Rules.{string_rule, pairs_of}
use Rattle.tib_strings.specs.StringTransducerOf.{StringTransducerOf}
use Rattle.tib_strings.specs.declared.StringRule.{StringRule}
use Rattle.tib_strings.specs.ByText.{AreOneStringTransducer}
use Rattle.tib_strings.specs.Cuts.{spans}
use Rattle.tib_image.specs.Restrictions.{restricted_labels}
use Rattle.tib_image.specs.Parsing.{first_key, key_at, parse_key, IsParseEdge}
use Rattle.tib_image.specs.ParseOperation.{key_cmp, key_entries, edge_parts, parse}
use Rattle.tib_image.proofs.Parses.{parse_means}
use Rattle.tib_image.proofs.ReachedParses.{key_total, reached_grammar}
use Rattle.tib_image.specs.ParseLaws.{same_edge}
use Rattle.tib_canon.specs.Constructions.{at_first, edges_over, AreRulesOver, IsCanonicalOf, IsCanonicalFrom, HasGrammarText}
use Rattle.tib_canon.specs.Keys.{IsCanonicalOverKeys}
use Rattle.tib_canon.specs.declared.begin.Begin.{Begin}
use Rattle.tib_canon.specs.declared.begin.Begin.TheVariants.{At}
use Rattle.tib_canon.proofs.ConstructionExists.{IsEdgeOver, IsPlainConstruction, found_over, construction_there}
use Rattle.tib_canon.proofs.ConstructionOnce.{construction_once}
use Rattle.tib_canon.proofs.EdgesByText.{edge_with, key_with}
use Rattle.tib_canon.proofs.KeySeries.{canonical_series}
use Rattle.tib_canon.proofs.ReachedOnce.{edge_given, ends_stand}
use Rattle.tib_canon.proofs.Sorting.{number_same}
use Rattle.tib_canon.proofs.TrimmedOnce.{Fit, fit_from}
use Rattle.tib_operations.specs.Made.{HasReachedFrom}
use Rattle.tib_operations.proofs.MadeParts.{IsEither, reached_either}
use Rattle.tib_operations.proofs.PlainEdges.{keyed_ends, keyed_plain}
use Rattle.tib_operations.proofs.Tables.{sizes_kept}
use Rattle.tib_operations.specs.ByText.{AreOneString}
use Rattle.tib_operations.specs.Parse.{parsing, IsTheString, HasParseSeries, HasParseText, parse_makes, parse_demands}
use Rattle.tib_operations.specs.Words.{ArePlainWords}
use Rattle.tib_operations.proofs.ParseByText.{parse_given}
use Rattle.tib_operations.proofs.WordsByText.{words_with, words_given, string_given}
use Rattle.tib_operations.proofs.WordsRead.{IsSoundStringTransducer}
use Rattle.tib_lex.proofs.PairOrder.{both_equal}

same_key : {a b c d k l m n : ℕ} → a ≡ k → b ≡ l → c ≡ m → d ≡ n → ◌≡◌ {A = ℕ × ℕ × ℕ × ℕ} (a, b, c, d) (k, l, m, n)
same_key w x y z = λ i. (w i, x i, y i, z i)

key_same : (x y : ℕ × ℕ × ℕ × ℕ) → key_cmp x y ≡ Equal → x ≡ y
key_same x y e =
    let first = both_equal (nat_cmp x.0 y.0) (ordering_then (nat_cmp x.1 y.1) (ordering_then (nat_cmp x.2 y.2) (nat_cmp x.3 y.3))) e in
    let second = both_equal (nat_cmp x.1 y.1) (ordering_then (nat_cmp x.2 y.2) (nat_cmp x.3 y.3)) first.1 in
    let others = both_equal (nat_cmp x.2 y.2) (nat_cmp x.3 y.3) second.1 in
    same_key (number_same x.0 y.0 first.0) (number_same x.1 y.1 second.0) (number_same x.2 y.2 others.0) (number_same x.3 y.3 others.1)

pub parse_laws : (moves : List (StringRule ℕ)) (string : List ℕ) → Laws (parse moves string)
parse_laws moves string = op_laws key_cmp (first_key (length string)) (IsParseEdge moves string) (λ e. holes_of e.right) (key_parts key_entries) edge_parts key_total (same_edge moves string)

-- its edges can be printed
module _ (scale : Scale) (labels : List (List ℕ)) (t : StringTransducerOf) (q : ArePlainWords scale labels t.rules) (string : List ℕ) where
  edge_over :
      (order : List (ℕ × ℕ × ℕ × ℕ)) (i : ℕ) (o : ℕ × List ℕ) (e : Rule (ℕ × ℕ × ℕ × ℕ)) → IsReached (parse t.rules string) order → i < length order →
      IsParseEdge t.rules string (key_at (length string) order i) o e → IsEdgeOver scale labels order e
  edge_over order i o e reached low edge =
      let r : StringRule ℕ = string_rule t.rules o.0 in
      let key = parse_key (restricted_labels t.rules) (pairs_of r.right) (spans r.right (key_at (length string) order i).1 o.1) in
      record {
        left = subst (Has order) (sym edge.left) (has_at order i (first_key (length string)) low);
        right = λ k h. ends_stand (parse t.rules string) (parse_laws t.rules string) key_same order reached i low o e k edge h;
        leaves = subst (λ (s : SideFor ℕ (ℕ × ℕ × ℕ × ℕ)). HolesAreLeaves (only s)) (sym edge.right) (keyed_ends key (only r.left) (q o.0 edge.below).ends);
        plain = λ place.
            subst (λ (s : SideFor ℕ (ℕ × ℕ × ℕ × ℕ)). HavePlainLabels labels (relabel (symbol_map place) (only s))) (sym edge.right) (keyed_plain key labels place (only r.left) (q o.0 edge.below).left);
        cost = subst (IsPlainCost scale) (sym edge.costs) (q o.0 edge.below).cost;
      }

  edges_over_all : (order : List (ℕ × ℕ × ℕ × ℕ)) (es : List (Rule (ℕ × ℕ × ℕ × ℕ))) → IsReachedSet (parse t.rules string) order es → (e : Rule (ℕ × ℕ × ℕ × ℕ)) → Has es e → IsEdgeOver scale labels order e
  edges_over_all order es reached e h = elim (edge_given (parse t.rules string) (parse_laws t.rules string) order (length order) es reached.1 e h) [
    | inl s ↦ absurd s.1
    | inr m ↦ edge_over order m.0 m.2.0 e reached.0 m.1 m.2.1
  ]

  parse_plain : (spare : ℕ × ℕ × ℕ × ℕ) → IsPlainConstruction scale labels (record { problem = parse t.rules string; spare = spare; begins = at_first })
  parse_plain spare = record {
    laws = parse_laws t.rules string;
    equal = key_same;
    parts = λ k. omega arith;
    some = λ order reached. (
        let begins = order_begins key_cmp (first_key (length string)) (IsParseEdge t.rules string) (λ e. holes_of e.right) (key_parts key_entries) edge_parts key_total reached.0 reached.1 order reached.2 in
        omega (arith, ap length begins.1));
    begins = λ order. refl;
    edges = edges_over_all;
  }

-- the rules of the keys that are reached can be printed
pub rules_printed :
    (scale : Scale) (labels : List (List ℕ)) (t : StringTransducerOf) (string : List ℕ) (order : List (ℕ × ℕ × ℕ × ℕ)) (rules : List (Rule ℕ)) → ArePlainWords scale labels t.rules →
    IsReachedSet (parse t.rules string) order (map (named_rule (key_at (length string) order)) rules) → AreInRange (length order) rules → AreRulesOver scale labels (length order) rules
rules_printed scale labels t string order rules q reached range =
    found_over scale labels (record { problem = parse t.rules string; spare = first_key (length string); begins = at_first }) (parse_plain scale labels t q string (first_key (length string))) order rules reached range

-- Rules over the positions of an order stand for the same edges, whatever key stands for the places
-- after its end.
module _ {K : Type 0} (n : ℕ) (f g : ℕ → K) (same : (q : ℕ) → q < n → f q ≡ g q) where
  trees_same : (ts : Trees (Symbol ℕ ℕ)) → Fit n ts → relabel (symbol_map {A = ℕ} f) ts ≡ relabel (symbol_map g) ts
  trees_same none h = refl
  trees_same (tree (label x) kids rest) h =
      ap (λ (us : Trees (Symbol ℕ K)). tree (label x) us (relabel (symbol_map f) rest)) (trees_same kids h.0) ∙ ap (λ (us : Trees (Symbol ℕ K)). tree (label x) (relabel (symbol_map g) kids) us) (trees_same rest h.1)
  trees_same (tree (hole q) none rest) h =
      ap (λ (k : K). tree (hole k) none (relabel (symbol_map f) rest)) (same q h.0) ∙ ap (λ (us : Trees (Symbol ℕ K)). tree (hole (g q)) none us) (trees_same rest h.1)
  trees_same (tree (hole q) (tree s kids more) rest) h = absurd h

  pub rules_same : (rules : List (Rule ℕ)) → AreInRange n rules → SidesEndInHoles rules → map (named_rule f) rules ≡ map (named_rule g) rules
  rules_same [] range ends = refl
  rules_same (r ∷ rules) range ends =
      let first = range 0 (omega arith) in
      let right : side_map f r.right ≡ side_map g r.right =
      tree_same (side_map f r.right) (side_map g r.right) (trees_same (only r.right) (fit_from n (only r.right) first.1 (ends 0 (omega arith))))
      in
      ap (λ (k : K). record { left = k; right = side_map f r.right; cost = r.cost } ∷ map (named_rule f) rules) (same r.left first.0)
      ∙ ap (λ (s : SideFor ℕ K). record { left = g r.left; right = s; cost = r.cost } ∷ map (named_rule f) rules) right
      ∙ ap (λ (rs : List (Rule K)). named_rule g r ∷ rs) (rules_same rules (λ m h. range (suc m) (omega (arith, h))) (λ m h. ends (suc m) (omega (arith, h))))

-- those for which rules stand that can be printed
pub edges_same :
    (scale : Scale) (labels : List (List ℕ)) (string : List ℕ) (order : List (ℕ × ℕ × ℕ × ℕ)) (rules : List (Rule ℕ)) → AreRulesOver scale labels (length order) rules →
    edges_over (0, 0, 0, 0) order rules ≡ map (named_rule (key_at (length string) order)) rules
edges_same scale labels string order rules over =
    rules_same (length order) (λ q. get_or order q (0, 0, 0, 0)) (key_at (length string) order) (λ q low. get_or_default order q (0, 0, 0, 0) (first_key (length string)) low) rules over.in_range over.leaves

-- the canonical form of the keys that are reached
pub canonical_of :
    (product : ℕ → ℕ → ℕ) (scale : Scale) (limit : ℕ) (labels : List (List ℕ)) (t : StringTransducerOf) (string : List ℕ) (order : List (ℕ × ℕ × ℕ × ℕ)) (rules : List (Rule ℕ)) (h : GrammarOf) →
    ArePlainWords scale labels t.rules → IsReachedSet (parse t.rules string) order (map (named_rule (key_at (length string) order)) rules) → AreInRange (length order) rules →
    parts_of (parse t.rules string) order (map (named_rule (key_at (length string) order)) rules) ≤ limit → IsCanonicalOverKeys product scale labels key_cmp order rules (At 0) h →
    IsCanonicalOf product scale labels limit (parsing t string) h
canonical_of product scale limit labels t string order rules h q reached range within canonical =
    let over : AreRulesOver scale labels (length order) rules = rules_printed scale labels t string order rules q reached range in
    let same : edges_over (0, 0, 0, 0) order rules ≡ map (named_rule (key_at (length string) order)) rules = edges_same scale labels string order rules over in
    record {
      order = order;
      rules = rules;
      begin = At 0;
      reached = subst (IsReachedSet (parse t.rules string) order) (sym same) reached;
      within = subst (λ (es : List (Rule (ℕ × ℕ × ℕ × ℕ))). parts_of (parse t.rules string) order es ≤ limit) (sym same) within;
      rules_over = over;
      begun = refl;
      canonical = canonical;
    }

edges_as_large : (f : ℕ → ℕ) (edges : List (Rule (ℕ × ℕ × ℕ × ℕ))) → total edge_parts (map (edge_with f) edges) ≡ total edge_parts edges
edges_as_large f [] = refl
edges_as_large f (e ∷ edges) = omega (arith, sizes_kept (key_with {K = ℕ × ℕ × ℕ × ℕ} f) e.right.kids, edges_as_large f edges)

-- what is reached, over each table of labels
module _
    (labels others : List (List ℕ)) (apart : Distinct labels) (different : Distinct others) (t u : StringTransducerOf) (s r : List ℕ) (one : AreOneStringTransducer labels others t u)
    (same : AreOneString labels others s r) where
  parse_moved :
      (order : List (ℕ × ℕ × ℕ × ℕ)) (es : List (Rule (ℕ × ℕ × ℕ × ℕ))) → IsReachedSet (parse t.rules s) order es →
      IsReachedSet (parse u.rules r) order (map (edge_with (renumbering labels others apart different).0) es)
  parse_moved order es reached =
      let n = renumbering labels others apart different in
      let f : ℕ → ℕ = n.0 in
      subst (λ (ms : List (StringRule ℕ)). IsReachedSet (parse ms r) order (map (edge_with f) es)) (words_given labels others f n.1 t.rules u.rules one.rules)
      (subst (λ (x : List ℕ). IsReachedSet (parse (words_with f t.rules) x) order (map (edge_with f) es)) (string_given labels others f n.1 s r same) (parse_given f n.1.apart t.rules s order es reached))

  -- it is within the limit over each
  pub parse_by_text : (limit : ℕ) → HasReachedFrom limit (IsTheString s) (parsing t) → HasReachedFrom limit (IsTheString r) (parsing u)
  parse_by_text limit w =
      let f : ℕ → ℕ = (renumbering labels others apart different).0 in
      let as_large : total edge_parts (map (edge_with f) w.set.edges) ≡ total edge_parts w.set.edges = edges_as_large f w.set.edges in
      let within : total (key_parts key_entries) w.set.order + total edge_parts w.set.edges ≤ limit = w.set.within in
      record {
        from = r;
        is_made = refl;
        set = record {
          order = w.set.order;
          edges = map (edge_with f) w.set.edges;
          reached = parse_moved w.set.order w.set.edges (subst (λ (x : List ℕ). IsReachedSet (parse t.rules x) w.set.order w.set.edges) w.is_made w.set.reached);
          within = omega (arith, within, as_large);
        };
      }

-- it is within the limit, or more than it
pub parse_either : (limit : ℕ) (t : StringTransducerOf) (string : List ℕ) → IsEither (parse_makes limit t string)
parse_either limit t string = reached_either limit (IsTheString string) (parsing t)

-- one text of a canonical form of the keys, whatever series it is to have
pub parsed_once :
    {P Q : List (Rule ℕ) → Type 0} (scale : Scale) (product : ℕ → ℕ → ℕ) (limit : ℕ) (labels others : List (List ℕ)) (t u : StringTransducerOf) (s r text other : List ℕ) → Distinct labels → Distinct others →
    AreOneStringTransducer labels others t u → AreOneString labels others s r → HasGrammarText scale labels (IsCanonicalFrom product scale labels limit (IsTheString s) (parsing t)) P text →
    HasGrammarText scale others (IsCanonicalFrom product scale others limit (IsTheString r) (parsing u)) Q other → text ≡ other
parsed_once scale product limit labels others t u s r text other apart different one same a b =
    let n = renumbering labels others apart different in
    a.are
    ∙ construction_once product scale limit labels others n.0 n.1 (parsing t a.canonical.from) (parsing u b.canonical.from) (parse_laws u.rules b.canonical.from) (record {
      cmp = refl;
      spare = refl;
      begins = λ order x y i j. i ∙ sym j;
      reached = λ order es reached.
          subst (λ (x : List ℕ). IsReachedSet (parse u.rules x) order (map (edge_with n.0) es)) (sym b.canonical.is_made)
          (parse_moved labels others apart different t u s r one same order es (subst (λ (x : List ℕ). IsReachedSet (parse t.rules x) order es) a.canonical.is_made reached));
    }) a.h b.h a.canonical.canonical b.canonical.canonical
    ∙ sym b.are

-- one text
pub parse_once :
    (scale : Scale) (product : ℕ → ℕ → ℕ) (limit : ℕ) (labels others : List (List ℕ)) (t u : StringTransducerOf) (s r text other : List ℕ) → Distinct labels → Distinct others →
    AreOneStringTransducer labels others t u → AreOneString labels others s r → HasParseText scale product limit labels t s text → HasParseText scale product limit others u r other → text ≡ other
parse_once scale product limit labels others t u s r text other apart different one same a b = parsed_once scale product limit labels others t u s r text other apart different one same a b

-- the series of the canonical form of the keys
pub parse_has_series :
    {levelled weighed : Bool} {product : ℕ → ℕ → ℕ} → ProductLaws levelled weighed product → (scale : Scale) (limit : ℕ) (labels : List (List ℕ)) (t : StringTransducerOf) (string : List ℕ) (h : GrammarOf) →
    AreShaped t.rules → AreLinear t.rules → AreNondeleting t.rules → IsCanonicalOf product scale labels limit (parsing t string) h → HasParseSeries product t.rules string h.rules
parse_has_series {product = product} laws scale limit labels t string h shaped linear nondeleting c u v =
    let keys : IsCanonicalOverKeys product scale labels key_cmp c.order c.rules (At 0) h = subst (λ (z : Begin). IsCanonicalOverKeys product scale labels key_cmp c.order c.rules z h) c.begun c.canonical in
    let reached : IsReachedSet (parse t.rules string) c.order (map (named_rule (key_at (length string) c.order)) c.rules) =
    subst (IsReachedSet (parse t.rules string) c.order) (edges_same scale labels string c.order c.rules c.rules_over) c.reached
    in
    let is = parse_means laws t.rules shaped linear nondeleting string c.order c.rules (reached_grammar t.rules string c.order c.rules c.rules_over.in_range reached) u v in
    let same = canonical_series key_cmp product scale labels c.order c.rules 0 h keys u v in
    (λ k. is.0 (same.1 k), λ k. same.0 (is.1 k))

-- where the reached set is within the limit
pub parse_there :
    {levelled weighed : Bool} {product : ℕ → ℕ → ℕ} (laws : ProductLaws levelled weighed product) (scale : Scale) (limit : ℕ) → limit < 4294967296 → (labels : List (List ℕ)) → Distinct labels →
    (t : StringTransducerOf) (string : List ℕ) → IsSoundStringTransducer scale labels t → (parse_demands t).met → HasReachedFrom limit (IsTheString string) (parsing t) →
    ((text : List ℕ) → HasParseText scale product limit labels t string text → ⊥) → ⊥
parse_there {product = product} laws scale limit low labels apart t string q met w never =
    construction_there scale labels (parsing t w.from) (parse_plain scale labels t q.plain w.from (0, 0, 0, 0)) laws limit (omega (arith, low)) apart w.set (λ h c read.
    never (grammar_text scale labels h) (record {
      h = h;
      canonical = record { from = w.from; is_made = w.is_made; canonical = c };
      series = subst (λ (x : List ℕ). HasParseSeries product t.rules x h.rules) w.is_made (parse_has_series laws scale limit labels t w.from h q.shaped met.0 met.1 c);
      are = refl;
      read = read;
    }))
