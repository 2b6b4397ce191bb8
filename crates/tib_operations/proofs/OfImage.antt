-- What `image` writes: one text, and that there is none cannot be where the reached set is within
-- the limit.
use Rattle.tib_cost.specs.declared.Scale.{Scale}
use Rattle.std.proofs.Common.{◌≡◌, ℕ, ◌+◌, ◌<◌, ◌≤◌, Bool, List, [], ◌∷◌, length, map, refl, sym, ap, ◌∙◌, subst, arith, inl, inr}
use Rattle.std.specs.Ordering.{nat_cmp}
use Rattle.std.specs.declared.cmp.Ordering.TheVariants.{Equal}
use Rattle.tib_lex.specs.Lists.{Has, Distinct, total}
use Rattle.tib_lex.proofs.Members.{has_at}
use Rattle.tib_cost.specs.Semiring.{ProductLaws}
use Rattle.tib_tree.specs.Trees.{Tree, only, relabel, relabel_tree}
use Rattle.tib_tree.proofs.Counts.{tree_same}
use Rattle.tib_grammar.specs.GrammarOf.{GrammarOf}
use Rattle.tib_grammar.specs.Sides.{Side as SideFor, HolesAreLeaves, holes_of, symbol_map}
use Rattle.tib_grammar.specs.declared.Rule.{Rule}
use Rattle.tib_grammar_file.specs.ByText.{AreOneTree, HaveOneText}
use Rattle.tib_grammar_file.specs.Printable.{IsPlainCost, HavePlainLabels}
use Rattle.tib_grammar_file.specs.Printed.{grammar_text}
use Rattle.tib_grammar_file.proofs.Renumbering.{renumbering}
use Rattle.tib_grammar_file.proofs.Shapes.{shape_relabelled}
use Rattle.tib_expand.specs.Keys.{key_parts}
use Rattle.tib_expand.specs.Reached.{IsReached, IsReachedSet}
use Rattle.tib_expand.proofs.Reaching.{Laws}
use Rattle.tib_key_edges.specs.Ends.{key_at}
use Rattle.tib_key_edges.proofs.KeyOrders.{op_laws, order_begins}
use Rattle.tib_transducer.specs.Range.{AreShaped, EndInHoles}
use Rattle.tib_transducer.specs.Rules.{transducer_rule}
use Rattle.tib_transducer.specs.TransducerOf.{TransducerOf}
use Rattle.tib_transducer.specs.declared.TransducerRule.{TransducerRule}
use Rattle.tib_transducer_file.specs.ByText.{AreOneTransducer}
use Rattle.tib_image.specs.Image.{key_cmp, key_entries, edge_parts, pair_key, image_of, IsImageEdge}
use Rattle.tib_image.specs.Laws.{same_edge}
use Rattle.tib_image.specs.Nodes.{nodes_of}
use Rattle.tib_image.proofs.Meaning.{image_series}
use Rattle.tib_image.proofs.Reaching.{key_total, reached_grammar}
use Rattle.tib_canon.specs.Constructions.{IsCanonicalOf}
use Rattle.tib_canon.specs.Keys.{IsCanonicalOverKeys}
use Rattle.tib_canon.specs.declared.begin.Begin.{Begin}
use Rattle.tib_canon.specs.declared.begin.Begin.TheVariants.{At}
use Rattle.tib_canon.proofs.ConstructionExists.{IsEdgeOver, IsPlainConstruction, construction_there}
use Rattle.tib_canon.proofs.ConstructionOnce.{construction_once}
use Rattle.tib_canon.proofs.KeySeries.{canonical_series}
use Rattle.tib_canon.proofs.EdgesByText.{edge_with, key_with}
use Rattle.tib_canon.proofs.ReachedOnce.{edge_given, ends_stand}
use Rattle.tib_canon.proofs.Sorting.{number_same}
use Rattle.tib_operations.specs.Image.{imaging, IsTheTree, HasImageSeries, HasImageText}
use Rattle.tib_operations.specs.Made.{HasReachedFrom}
use Rattle.tib_operations.specs.Moves.{ArePlainMoves}
use Rattle.tib_operations.proofs.ImageByText.{image_given}
use Rattle.tib_operations.proofs.MovesByText.{moves_with, moves_given}
use Rattle.tib_operations.proofs.Tables.{sizes_kept}
use Rattle.tib_operations.proofs.PlainEdges.{keyed_ends, keyed_plain}
use Rattle.tib_operations.proofs.PlainMoves.{IsSoundTransducer}
use Rattle.tib_lex.proofs.PairOrder.{both_equal}

same_key : {a b c d : ℕ} → a ≡ c → b ≡ d → ◌≡◌ {A = ℕ × ℕ} (a, b) (c, d)
same_key x y = λ i. (x i, y i)

key_same : (x y : ℕ × ℕ) → key_cmp x y ≡ Equal → x ≡ y
key_same x y e = let both = both_equal (nat_cmp x.0 y.0) (nat_cmp x.1 y.1) e in same_key (number_same x.0 y.0 both.0) (number_same x.1 y.1 both.1)

pub image_laws : (moves : List (TransducerRule ℕ)) (one : Tree ℕ) → Laws (image_of moves one)
image_laws moves one = op_laws key_cmp (0, 0) (IsImageEdge moves one) (λ e. holes_of e.right) (key_parts key_entries) edge_parts key_total (same_edge moves one)

-- its edges can be printed
module _ (scale : Scale) (labels : List (List ℕ)) (t : TransducerOf) (q : ArePlainMoves scale labels t.rules) (leaves : EndInHoles t.rules) (one : Tree ℕ) where
  edge_over : (order : List (ℕ × ℕ)) (i : ℕ) (o : ℕ) (e : Rule (ℕ × ℕ)) → IsReached (image_of t.rules one) order → i < length order → IsImageEdge t.rules one (key_at order i) o e → IsEdgeOver scale labels order e
  edge_over order i o e reached low edge =
      let r : TransducerRule ℕ = transducer_rule t.rules o in
      let key = pair_key (nodes_of r.left one (key_at order i).1) in
      record {
        left = subst (Has order) (sym edge.left) (has_at order i (0, 0) low);
        right = λ k h. ends_stand (image_of t.rules one) (image_laws t.rules one) key_same order reached i low o e k edge h;
        leaves = subst (λ (s : SideFor ℕ (ℕ × ℕ)). HolesAreLeaves (only s)) (sym edge.right) (keyed_ends key (only r.right) (leaves o edge.below).1);
        plain = λ place.
            subst (λ (s : SideFor ℕ (ℕ × ℕ)). HavePlainLabels labels (relabel (symbol_map place) (only s))) (sym edge.right) (keyed_plain key labels place (only r.right) (q o edge.below).right);
        cost = subst (IsPlainCost scale) (sym edge.costs) (q o edge.below).cost;
      }

  edges_over_all : (order : List (ℕ × ℕ)) (es : List (Rule (ℕ × ℕ))) → IsReachedSet (image_of t.rules one) order es → (e : Rule (ℕ × ℕ)) → Has es e → IsEdgeOver scale labels order e
  edges_over_all order es reached e h = elim (edge_given (image_of t.rules one) (image_laws t.rules one) order (length order) es reached.1 e h) [
    | inl s ↦ absurd s.1
    | inr m ↦ edge_over order m.0 m.2.0 e reached.0 m.1 m.2.1
  ]

  pub image_plain : IsPlainConstruction scale labels (imaging t one)
  image_plain = record {
    laws = image_laws t.rules one;
    equal = key_same;
    parts = λ k. omega arith;
    some = λ order reached. (
        let begins = order_begins key_cmp (0, 0) (IsImageEdge t.rules one) (λ e. holes_of e.right) (key_parts key_entries) edge_parts key_total reached.0 reached.1 order reached.2 in
        omega (arith, ap length begins.1));
    begins = λ order. refl;
    edges = edges_over_all;
  }

edges_as_large : (f : ℕ → ℕ) (edges : List (Rule (ℕ × ℕ))) → total edge_parts (map (edge_with f) edges) ≡ total edge_parts edges
edges_as_large f [] = refl
edges_as_large f (e ∷ edges) = omega (arith, sizes_kept (key_with {K = ℕ × ℕ} f) e.right.kids, edges_as_large f edges)

-- what is reached, over each table of labels
module _ (labels others : List (List ℕ)) (apart : Distinct labels) (different : Distinct others) (one two : Tree ℕ) (t u : TransducerOf) (tree_is : AreOneTree labels others one two) (same : AreOneTransducer labels others t u) where
  image_moved :
      (order : List (ℕ × ℕ)) (es : List (Rule (ℕ × ℕ))) → IsReachedSet (image_of t.rules one) order es →
      IsReachedSet (image_of u.rules two) order (map (edge_with (renumbering labels others apart different).0) es)
  image_moved order es reached =
      let s = renumbering labels others apart different in
      let f : ℕ → ℕ = s.0 in
      let tree_at : relabel_tree f one ≡ two = tree_same (relabel_tree f one) two (shape_relabelled (HaveOneText labels others) f s.1.gives (only one) (only two) tree_is) in
      subst (λ (ms : List (TransducerRule ℕ)). IsReachedSet (image_of ms two) order (map (edge_with f) es)) (moves_given labels others f s.1 t.rules u.rules same.rules)
      (subst (λ (x : Tree ℕ). IsReachedSet (image_of (moves_with f t.rules) x) order (map (edge_with f) es)) tree_at (image_given f s.1.apart t.rules one order es reached))

  -- it is within the limit over each
  pub image_by_text : (limit : ℕ) → HasReachedFrom limit (IsTheTree one) (imaging t) → HasReachedFrom limit (IsTheTree two) (imaging u)
  image_by_text limit w =
      let f : ℕ → ℕ = (renumbering labels others apart different).0 in
      let as_large : total edge_parts (map (edge_with f) w.set.edges) ≡ total edge_parts w.set.edges = edges_as_large f w.set.edges in
      let within : total (key_parts key_entries) w.set.order + total edge_parts w.set.edges ≤ limit = w.set.within in
      record {
        from = two;
        is_made = refl;
        set = record {
          order = w.set.order;
          edges = map (edge_with f) w.set.edges;
          reached = image_moved w.set.order w.set.edges (subst (λ (x : Tree ℕ). IsReachedSet (image_of t.rules x) w.set.order w.set.edges) w.is_made w.set.reached);
          within = omega (arith, within, as_large);
        };
      }

-- one text
pub image_once :
    (scale : Scale) (product : ℕ → ℕ → ℕ) (limit : ℕ) (labels others : List (List ℕ)) (one two : Tree ℕ) (t u : TransducerOf) (text other : List ℕ) → Distinct labels → Distinct others →
    AreOneTree labels others one two → AreOneTransducer labels others t u → HasImageText scale product limit labels one t text → HasImageText scale product limit others two u other → text ≡ other
image_once scale product limit labels others one two t u text other apart different tree_is same a b =
    let s = renumbering labels others apart different in
    a.are
    ∙ construction_once product scale limit labels others s.0 s.1 (imaging t a.canonical.from) (imaging u b.canonical.from) (image_laws u.rules b.canonical.from) (record {
      cmp = refl;
      spare = refl;
      begins = λ order x y i j. i ∙ sym j;
      reached = λ order es reached.
          subst (λ (x : Tree ℕ). IsReachedSet (image_of u.rules x) order (map (edge_with s.0) es)) (sym b.canonical.is_made)
          (image_moved labels others apart different one two t u tree_is same order es (subst (λ (x : Tree ℕ). IsReachedSet (image_of t.rules x) order es) a.canonical.is_made reached));
    }) a.h b.h a.canonical.canonical b.canonical.canonical
    ∙ sym b.are

-- the series of the canonical form of the keys
pub image_has_series :
    (product : ℕ → ℕ → ℕ) (scale : Scale) (limit : ℕ) (labels : List (List ℕ)) (t : TransducerOf) (one : Tree ℕ) (h : GrammarOf) → AreShaped t.rules →
    IsCanonicalOf product scale labels limit (imaging t one) h → HasImageSeries product one t.rules h.rules
image_has_series product scale limit labels t one h shaped c u v =
    let keys : IsCanonicalOverKeys product scale labels key_cmp c.order c.rules (At 0) h = subst (λ (z : Begin). IsCanonicalOverKeys product scale labels key_cmp c.order c.rules z h) c.begun c.canonical in
    let is = image_series t.rules shaped one c.order c.rules (reached_grammar t.rules one c.order c.rules c.rules_over.in_range c.reached) product u v in
    let same = canonical_series key_cmp product scale labels c.order c.rules 0 h keys u v in
    (λ k. is.0 (same.1 k), λ k. same.0 (is.1 k))

-- where the reached set is within the limit
pub image_there :
    {levelled weighed : Bool} {product : ℕ → ℕ → ℕ} (laws : ProductLaws levelled weighed product) (scale : Scale) (limit : ℕ) → limit < 4294967296 → (labels : List (List ℕ)) → Distinct labels → (one : Tree ℕ) (t : TransducerOf) →
    IsSoundTransducer scale labels t → HasReachedFrom limit (IsTheTree one) (imaging t) → ((text : List ℕ) → HasImageText scale product limit labels one t text → ⊥) → ⊥
image_there {product = product} laws scale limit low labels apart one t q w never =
    construction_there scale labels (imaging t w.from) (image_plain scale labels t q.plain q.leaves w.from) laws limit (omega (arith, low)) apart w.set (λ h c read.
    never (grammar_text scale labels h) (record {
      h = h;
      canonical = record { from = w.from; is_made = w.is_made; canonical = c };
      series = subst (λ (x : Tree ℕ). HasImageSeries product x t.rules h.rules) w.is_made (image_has_series product scale limit labels t w.from h q.shaped c);
      are = refl;
      read = read;
    }))
