-- Where a construction reaches a set within the limit, it is impossible that this has no canonical
-- form that reads back.
use Rattle.tib_cost.specs.declared.Scale.{Scale}
use Rattle.std.proofs.Common.{◌≡◌, ℕ, ◌<◌, ◌≤◌, Bool, List, [], ◌∷◌, length, map, get_or, sym, subst, arith}
use Rattle.std.proofs.lemmas.List.{get_or-map, length-map}
use Rattle.std.specs.declared.cmp.Ordering.TheVariants.{Equal}
use Rattle.tib_lex.specs.Lists.{Has, Each, Distinct, total}
use Rattle.tib_tree.specs.Trees.{Trees, none, tree, only, relabel}
use Rattle.tib_cost.specs.Semiring.{ProductLaws}
use Rattle.tib_grammar.specs.Sides.{Symbol, label, hole, HolesAreLeaves, holes_of, symbol_map}
use Rattle.tib_grammar.specs.GrammarOf.{GrammarOf, named_rule}
use Rattle.tib_grammar.specs.Range.{IsInRange, AreInRange}
use Rattle.tib_grammar.specs.Run.{rule_at, no_rule}
use Rattle.tib_grammar.specs.declared.Rule.{Rule}
use Rattle.tib_grammar_file.specs.GrammarText.{GrammarText}
use Rattle.tib_grammar_file.specs.Printable.{HavePlainLabels, IsPlainCost, IsPrintable, ArePrintable}
use Rattle.tib_grammar_file.specs.Printed.{grammar_text}
use Rattle.tib_expand.specs.Reached.{IsReached, IsReachedSet, parts_of}
use Rattle.tib_expand.proofs.Reaching.{Laws}
use Rattle.tib_canon.specs.Constructions.{Construction, edges_over, HasReachedWithin, AreRulesOver, IsCanonicalOf}
use Rattle.tib_canon.specs.Keys.{IsCanonicalOverKeys, started_rules}
use Rattle.tib_canon.specs.declared.begin.Begin.{Begin}
use Rattle.tib_canon.specs.declared.begin.Begin.TheVariants.{At, Fresh}
use Rattle.tib_canon.proofs.CanonicalTexts.{at_text, keys_text}
use Rattle.tib_canon.proofs.OverKeysExist.{keys_there, fresh_keys_there}
use Rattle.tib_canon.proofs.PlacesIn.{place_in, placed_in_range, placed_back, map_itself}
use Rattle.tib_canon.proofs.ReachedOnce.{order_once, key_same}
use Rattle.tib_canon.proofs.Started.{relabel_ends, started_printable}
use Rattle.tib_lex.proofs.Members.{has_at}

-- an edge over the keys of an order, which can be printed whatever states stand for its keys
pub record IsEdgeOver {K : Type 0} (scale : Scale) (labels : List (List ℕ)) (order : List K) (e : Rule K) : Type 0 where
  pub left : Has order e.left
  pub right : (k : K) → Has (holes_of e.right) k → Has order k
  pub leaves : HolesAreLeaves (only e.right)
  pub plain : (place : K → ℕ) → HavePlainLabels labels (relabel (symbol_map place) (only e.right))
  pub cost : IsPlainCost scale e.cost

-- What a construction over a table of labels is like whatever its start: keys that are equal are
-- one, each has a part, and its edges can be printed.
pub record HasPlainEdges {K O : Type 0} (scale : Scale) (labels : List (List ℕ)) (c : Construction K O) : Type 0 where
  pub laws : Laws c.problem
  pub equal : (x y : K) → c.problem.cmp x y ≡ Equal → x ≡ y
  pub parts : (k : K) → 1 ≤ c.problem.key_parts k
  pub edges : (order : List K) (es : List (Rule K)) → IsReachedSet c.problem order es → (e : Rule K) → Has es e → IsEdgeOver scale labels order e

-- What a construction over a table of labels is like whose start is the first key: keys that are
-- equal are one, each has a part, something is reached, and its edges can be printed.
pub record IsPlainConstruction {K O : Type 0} (scale : Scale) (labels : List (List ℕ)) (c : Construction K O) : Type 0 where
  pub laws : Laws c.problem
  pub equal : (x y : K) → c.problem.cmp x y ≡ Equal → x ≡ y
  pub parts : (k : K) → 1 ≤ c.problem.key_parts k
  pub some : (order : List K) → IsReached c.problem order → 0 < length order
  pub begins : (order : List K) → c.begins order (At 0)
  pub edges : (order : List K) (es : List (Rule K)) → IsReachedSet c.problem order es → (e : Rule K) → Has es e → IsEdgeOver scale labels order e

-- The same for one whose start is fresh, with finals that are positions of the order, at costs that
-- can be printed.
pub record IsPlainFresh {K O : Type 0} (scale : Scale) (labels : List (List ℕ)) (c : Construction K O) (finals : List K → List (ℕ × ℕ)) : Type 0 where
  pub edges : HasPlainEdges scale labels c
  pub begins : (order : List K) → c.begins order (Fresh (finals order))
  pub within : (order : List K) → IsReached c.problem order → Each (λ final. final.0 < length order) (finals order)
  pub costs : (order : List K) → IsReached c.problem order → Each (λ final. IsPlainCost scale final.1) (finals order)

pub with_edges : {K O : Type 0} (scale : Scale) (labels : List (List ℕ)) (c : Construction K O) → IsPlainConstruction scale labels c → HasPlainEdges scale labels c
with_edges scale labels c plain = record { laws = plain.laws; equal = plain.equal; parts = plain.parts; edges = plain.edges }

ends_back : {P Q : Type 0} (f : P → Q) (ts : Trees (Symbol ℕ P)) → HolesAreLeaves (relabel (symbol_map f) ts) → HolesAreLeaves ts
ends_back f none h = tt
ends_back f (tree (label g) kids rest) h = (ends_back f kids h.0, ends_back f rest h.1)
ends_back f (tree (hole q) none rest) h = ends_back f rest h
ends_back f (tree (hole q) (tree s kids more) rest) h = absurd h

-- labels are plain whatever states come with them
plain_back : {K : Type 0} (labels : List (List ℕ)) (f : ℕ → K) (g : K → ℕ) (ts : Trees (Symbol ℕ ℕ)) → HavePlainLabels labels (relabel (symbol_map g) (relabel (symbol_map f) ts)) → HavePlainLabels labels ts
plain_back labels f g none h = tt
plain_back labels f g (tree (label x) kids rest) h = (h.0, h.1, plain_back labels f g kids h.2, plain_back labels f g rest h.3)
plain_back labels f g (tree (hole q) kids rest) h = (plain_back labels f g kids h.0, plain_back labels f g rest h.1)

-- as many keys as parts at most
pub few_keys : {K : Type 0} (parts : K → ℕ) → ((k : K) → 1 ≤ parts k) → (order : List K) → length order ≤ total parts order
few_keys parts one [] = omega arith
few_keys parts one (k ∷ order) = omega (arith, one k, few_keys parts one order)

module _ {K O : Type 0} (scale : Scale) (labels : List (List ℕ)) (c : Construction K O) (plain : HasPlainEdges scale labels c) where
  module _ (order : List K) (edges : List (Rule K)) (reached : IsReachedSet c.problem order edges) where
    abbrev placed : Rule K → Rule ℕ
    placed e = named_rule (place_in (key_same c.problem plain.laws plain.equal) order) e

    is_over : (e : Rule K) → Has edges e → IsEdgeOver scale labels order e
    is_over = plain.edges order edges reached

    -- the edges over the keys come back from the rules over their places
    read_back : edges_over c.spare order (map placed edges) ≡ edges
    read_back =
        map_itself (named_rule (λ n. get_or order n c.spare)) placed edges
        (λ e h. let o = is_over e h in placed_back (key_same c.problem plain.laws plain.equal) c.spare order e o.left o.right o.leaves)

    module _ (P : Rule ℕ → Type 0) (each : (e : Rule K) → IsEdgeOver scale labels order e → P (placed e)) where
      each_placed : (m : ℕ) → m < length (map placed edges) → P (rule_at (map placed edges) m)
      each_placed m h =
          let low : m < length edges = omega (arith, h, length-map edges placed) in
          let spare : Rule K = named_rule (λ n. c.spare) no_rule in
          subst P (sym (get_or-map placed edges m spare no_rule low)) (each (get_or edges m spare) (is_over (get_or edges m spare) (has_at edges m spare low)))

    rules_over : AreRulesOver scale labels (length order) (map placed edges)
    rules_over = record {
      in_range = each_placed (IsInRange (length order)) (λ e o. placed_in_range (key_same c.problem plain.laws plain.equal) c.spare order e o.left o.right);
      leaves = each_placed (λ r. HolesAreLeaves (only r.right)) (λ e o. relabel_ends (place_in (key_same c.problem plain.laws plain.equal) order) (only e.right) o.leaves);
      printable = each_placed (IsPrintable scale labels) (λ e o. record { right = o.plain (place_in (key_same c.problem plain.laws plain.equal) order); cost = o.cost });
    }

  -- rules over the positions of an order that stand for the edges that are reached
  module _ (order : List K) (rules : List (Rule ℕ)) (reached : IsReachedSet c.problem order (edges_over c.spare order rules)) where
    abbrev key_at : ℕ → K
    key_at n = get_or order n c.spare

    found_edge : (m : ℕ) → m < length rules → IsEdgeOver scale labels order (named_rule key_at (rule_at rules m))
    found_edge m h =
        let spare : Rule K = named_rule key_at no_rule in
        let low : m < length (edges_over c.spare order rules) = omega (arith, h, length-map rules (named_rule key_at)) in
        subst (IsEdgeOver scale labels order) (get_or-map (named_rule key_at) rules m no_rule spare h)
        (plain.edges order (edges_over c.spare order rules) reached (get_or (edges_over c.spare order rules) m spare) (has_at (edges_over c.spare order rules) m spare low))

    pub edges_printed : AreInRange (length order) rules → AreRulesOver scale labels (length order) rules
    edges_printed range = record {
      in_range = range;
      leaves = λ m h. ends_back key_at (only (rule_at rules m).right) (found_edge m h).leaves;
      printable = λ m h. record { right = plain_back labels key_at (λ k. 0) (only (rule_at rules m).right) ((found_edge m h).plain (λ k. 0)); cost = (found_edge m h).cost };
    }

  -- a set that is reached within the limit, as rules over positions
  module _ (limit : ℕ) (w : HasReachedWithin c.problem limit) where
    abbrev rules_of : List (Rule ℕ)
    rules_of = map (placed w.order w.edges w.reached) w.edges

    over_of : AreRulesOver scale labels (length w.order) rules_of
    over_of = rules_over w.order w.edges w.reached

    few_of : length w.order ≤ limit
    few_of = omega (arith, few_keys c.problem.key_parts plain.parts w.order, w.within)

    once_of : Distinct w.order
    once_of = order_once c.problem plain.laws w.reached.0.0 w.reached.0.1 w.order w.reached.0.2

    canonical_of :
        (product : ℕ → ℕ → ℕ) (begin : Begin) (h : GrammarOf) → c.begins w.order begin → IsCanonicalOverKeys product scale labels c.problem.cmp w.order rules_of begin h → IsCanonicalOf product scale labels limit c h
    canonical_of product begin h begun canonical =
        let back : edges_over c.spare w.order rules_of ≡ w.edges = read_back w.order w.edges w.reached in
        record {
          order = w.order;
          rules = rules_of;
          begin = begin;
          reached = subst (IsReachedSet c.problem w.order) (sym back) w.reached;
          within = subst (λ es. parts_of c.problem w.order es ≤ limit) (sym back) w.within;
          rules_over = over_of;
          begun = begun;
          canonical = canonical;
        }

module _ {K O : Type 0} (scale : Scale) (labels : List (List ℕ)) (c : Construction K O) (plain : IsPlainConstruction scale labels c) where
  abbrev plain_edges : HasPlainEdges scale labels c
  plain_edges = with_edges scale labels c plain

  -- rules over the positions of an order that stand for the edges that are reached
  pub found_over : (order : List K) (rules : List (Rule ℕ)) → IsReachedSet c.problem order (edges_over c.spare order rules) → AreInRange (length order) rules → AreRulesOver scale labels (length order) rules
  found_over order rules reached range = edges_printed scale labels c plain_edges order rules reached range

  pub construction_there :
      {levelled weighed : Bool} {product : ℕ → ℕ → ℕ} → ProductLaws levelled weighed product → (limit : ℕ) → limit ≤ 4294967296 → Distinct labels → HasReachedWithin c.problem limit →
      ((h : GrammarOf) → IsCanonicalOf product scale labels limit c h → GrammarText scale labels (grammar_text scale labels h) h → ⊥) → ⊥
  construction_there {product = product} laws limit low apart w k =
      let rules : List (Rule ℕ) = rules_of scale labels c plain_edges limit w in
      let over : AreRulesOver scale labels (length w.order) rules = over_of scale labels c plain_edges limit w in
      let few : length w.order ≤ 4294967296 = omega (arith, few_of scale labels c plain_edges limit w, low) in
      keys_there c.problem.cmp plain.laws.total_order plain.equal w.order (once_of scale labels c plain_edges limit w) c.spare 0 (plain.some w.order w.reached.0) rules over.in_range over.leaves laws scale labels few apart over.printable
      (λ h canonical.
      k h (canonical_of scale labels c plain_edges limit w product (At 0) h (plain.begins w.order) canonical)
      (at_text laws c.problem.cmp scale labels w.order rules 0 h few over.leaves over.printable canonical))

-- the same for a construction with a fresh start
module _ {K O : Type 0} (scale : Scale) (labels : List (List ℕ)) (c : Construction K O) (finals : List K → List (ℕ × ℕ)) (plain : IsPlainFresh scale labels c finals) where
  pub fresh_there :
      {levelled weighed : Bool} {product : ℕ → ℕ → ℕ} → ProductLaws levelled weighed product → (limit : ℕ) → limit < 4294967296 → Distinct labels → HasReachedWithin c.problem limit →
      ((h : GrammarOf) → IsCanonicalOf product scale labels limit c h → GrammarText scale labels (grammar_text scale labels h) h → ⊥) → ⊥
  fresh_there {product = product} laws limit low apart w k =
      let rules : List (Rule ℕ) = rules_of scale labels c plain.edges limit w in
      let over : AreRulesOver scale labels (length w.order) rules = over_of scale labels c plain.edges limit w in
      let few : length w.order < 4294967296 = omega (arith, few_of scale labels c plain.edges limit w, low) in
      let printable : ArePrintable scale labels (started_rules (finals w.order) rules) = started_printable (finals w.order) scale labels rules (plain.costs w.order w.reached.0) over.printable in
      fresh_keys_there c.problem.cmp plain.edges.laws.total_order plain.edges.equal w.order (once_of scale labels c plain.edges limit w) (finals w.order) (plain.within w.order w.reached.0) rules over.in_range over.leaves laws scale labels few apart printable
      (λ h canonical.
      k h (canonical_of scale labels c plain.edges limit w product (Fresh (finals w.order)) h (plain.begins w.order) canonical)
      (keys_text laws c.problem.cmp scale labels w.order rules (Fresh (finals w.order)) h few over.leaves printable canonical))
