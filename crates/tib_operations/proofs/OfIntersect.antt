-- What `intersect` writes: one text, and that there is none cannot be where all that is made is
-- within the limit.
use Rattle.tib_cost.specs.declared.Scale.{Scale}
use Rattle.tib_cost.specs.declared.Scale.TheVariants as scales
use Rattle.std.proofs.Common.{◌≡◌, ℕ, ◌<◌, ◌≤◌, Bool, List, [], ◌∷◌, length, map, zip, refl, sym, ap, ◌∙◌, subst, arith, inl, inr}
use Rattle.std.specs.Ordering.{nat_cmp}
use Rattle.std.specs.declared.cmp.Ordering.TheVariants.{Equal}
use Rattle.tib_lex.specs.Lists.{Has, Distinct}
use Rattle.tib_tree.specs.Trees.{none, tree, only, relabel}
use Rattle.tib_cost.specs.Semiring.{ProductLaws, most}
use Rattle.tib_lex.specs.PairOrder.{pair_cmp}
use Rattle.tib_grammar.specs.Forms.{AreNormal}
use Rattle.tib_grammar.specs.Sides.{Symbol, Side as SideFor, HolesAreLeaves, leaves, holes, symbol_map}
use Rattle.tib_grammar.specs.GrammarOf.{GrammarOf, named_rule}
use Rattle.tib_grammar.specs.Range.{AreInRange}
use Rattle.tib_grammar.specs.Run.{rule_at}
use Rattle.tib_grammar.specs.declared.Rule.{Rule}
use Rattle.tib_grammar_file.specs.ByText.{AgreeByText}
use Rattle.tib_grammar_file.specs.Printable.{IsPlainCost, HavePlainLabels, ArePrintable}
use Rattle.tib_grammar_file.specs.Printed.{grammar_text}
use Rattle.tib_grammar_file.proofs.Renumbering.{renumbering}
use Rattle.tib_normal.proofs.Forming.{form_range, form_normal}
use Rattle.tib_expand.specs.Reached.{IsReached, IsReachedSet}
use Rattle.tib_inside.proofs.StillNormal.{still_normal}
use Rattle.tib_canon.specs.Constructions.{AreRulesOver, IsCanonicalOf}
use Rattle.tib_canon.specs.Keys.{IsCanonicalOverKeys}
use Rattle.tib_canon.specs.TrimmedForms.{IsTrimmedForm}
use Rattle.tib_canon.specs.declared.begin.Begin.{Begin}
use Rattle.tib_canon.specs.declared.begin.Begin.TheVariants.{At}
use Rattle.tib_canon.proofs.CanonicalExists.{trimmed_series}
use Rattle.tib_canon.proofs.CanonicalTexts.{are_lone}
use Rattle.tib_canon.proofs.ConstructionExists.{IsEdgeOver, IsPlainConstruction, found_over, construction_there}
use Rattle.tib_canon.proofs.ConstructionOnce.{construction_once}
use Rattle.tib_canon.proofs.KeySeries.{canonical_series}
use Rattle.tib_canon.proofs.One.{series_on}
use Rattle.tib_canon.proofs.PrintableRules.{form_printable, trimmed_printable}
use Rattle.tib_canon.proofs.ReachedOnce.{edge_given, ends_stand}
use Rattle.tib_canon.proofs.Sorting.{number_same}
use Rattle.tib_key_edges.specs.Ends.{key_at as pair_at}
use Rattle.tib_intersect.specs.PairEdges.{IsPairEdge}
use Rattle.tib_intersect.specs.PairGrammar.{IsPairGrammar, PairsMean}
use Rattle.tib_intersect.specs.Intersection.{intersection}
use Rattle.tib_intersect.proofs.EdgesOver.{edges_below}
use Rattle.tib_intersect.proofs.Intersecting.{pairs_mean}
use Rattle.tib_intersect.proofs.Lists.{same_pair}
use Rattle.tib_intersect.proofs.PairOrders.{pair_laws, order_once, order_begins}
use Rattle.tib_operations.specs.Made.{HasReachedFrom}
use Rattle.tib_operations.specs.Intersect.{AreTrimmedForms, intersecting, HasIntersectionText}
use Rattle.tib_operations.proofs.OfNormal.{form_series}
use Rattle.tib_operations.proofs.PairsByText.{pairs_given}
use Rattle.tib_operations.proofs.ReadSound.{IsSound}
use Rattle.tib_lex.proofs.Members.{has_at}
use Rattle.tib_grammar.specs.Series.{HasSameSeries, HasProductSeries}
use Rattle.tib_lex.proofs.PairOrder.{both_equal}

-- one text

pub intersection_once :
    (scale : Scale) (product : ℕ → ℕ → ℕ) (limit : ℕ) (labels others : List (List ℕ)) (f g p q : GrammarOf) (text other : List ℕ) → Distinct labels → Distinct others → AgreeByText labels others f p →
    AgreeByText labels others g q → HasIntersectionText scale product limit labels f g text → HasIntersectionText scale product limit others p q other → text ≡ other
intersection_once scale product limit labels others f g p q text other apart different left right a b =
    let s = renumbering labels others apart different in
    let one = a.canonical.from in
    let two = b.canonical.from in
    a.are
    ∙ construction_once product scale limit labels others s.0 s.1 (intersecting product one) (intersecting product two) (pair_laws product two.0.rules two.1.rules) (record {
      cmp = refl;
      spare = refl;
      begins = λ order x y h k. h ∙ sym k;
      reached = pairs_given product labels others s.0 s.1 f g p q one.0 one.1 two.0 two.1 left right a.canonical.is_made.0 a.canonical.is_made.1 b.canonical.is_made.0 b.canonical.is_made.1;
    }) a.h b.h a.canonical.canonical b.canonical.canonical
    ∙ sym b.are

-- the series

module _ (product : ℕ → ℕ → ℕ) (one two : GrammarOf) where
  pub pair_grammar :
      (order : List (ℕ × ℕ)) (rules : List (Rule ℕ)) → IsReachedSet (intersection product one.rules two.rules) order (map (named_rule (pair_at order)) rules) → AreInRange (length order) rules →
      IsPairGrammar product one.rules two.rules order rules
  pair_grammar order rules reached range =
      let begins = order_begins product one.rules two.rules reached.0.0 reached.0.1 order reached.0.2 in
      record {
        long = omega (arith, ap length begins.1);
        start = ap (λ (l : List (ℕ × ℕ)). pair_at l 0) begins.1;
        once = order_once product one.rules two.rules reached.0.0 reached.0.1 order reached.0.2;
        in_range = range;
        edges = edges_below product one.rules two.rules order (length order) (map (named_rule (pair_at order)) rules) reached.1;
      }

  -- the canonical form of the pairs of grammars in normal form gives each tree the product of its
  -- costs
  pub pairs_series :
      (scale : Scale) (limit : ℕ) (labels : List (List ℕ)) (h : GrammarOf) → PairsMean product → AreNormal one.rules → AreNormal two.rules →
      IsCanonicalOf product scale labels limit (intersecting product (one, two)) h → HasProductSeries product one.rules two.rules h.rules
  pairs_series scale limit labels h mean n m c t a b v x y =
      let keys : IsCanonicalOverKeys product scale labels pair_cmp c.order c.rules (At 0) h = subst (λ (z : Begin). IsCanonicalOverKeys product scale labels pair_cmp c.order c.rules z h) c.begun c.canonical in
      let is = mean one.rules two.rules n m c.order c.rules (pair_grammar c.order c.rules c.reached c.rules_over.in_range) t a b v x y in
      let same = canonical_series pair_cmp product scale labels c.order c.rules 0 h keys t v in (λ k. is.0 (same.1 k), λ k. same.0 (is.1 k))

-- and that of what the two were made of
pub product_of_forms :
    (product : ℕ → ℕ → ℕ) (f g one two : GrammarOf) (rules : List (Rule ℕ)) → HasSameSeries product f one → HasSameSeries product g two → HasProductSeries product one.rules two.rules rules →
    HasProductSeries product f.rules g.rules rules
product_of_forms product f g one two rules first second pairs t a b v x y = pairs t a b v ((first t a).0 x) ((second t b).0 y)

-- edges over the pairs of an order

leaves_end : (ks : List (ℕ × ℕ)) → HolesAreLeaves {A = ℕ} (leaves ks)
leaves_end [] = tt
leaves_end (k ∷ ks) = leaves_end ks

leaves_plain : (labels : List (List ℕ)) (place : ℕ × ℕ → ℕ) (ks : List (ℕ × ℕ)) → HavePlainLabels labels (relabel (symbol_map place) (leaves ks))
leaves_plain labels place [] = tt
leaves_plain labels place (k ∷ ks) = (tt, leaves_plain labels place ks)

pub plain_product : (scale : Scale) (product : ℕ → ℕ → ℕ) (a b c : ℕ) → product 0 0 ≡ 0 → IsPlainCost scale a → IsPlainCost scale b → c ≡ product a b → c ≤ most → IsPlainCost scale c
plain_product scales.Plain product a b c zeros x y e low = low
plain_product scales.Reversed product a b c zeros x y e low = low
plain_product scales.Unweighted product a b c zeros x y e low = e ∙ ap (λ z. product z b) x ∙ ap (product 0) y ∙ zeros

pair_same : (x y : ℕ × ℕ) → pair_cmp x y ≡ Equal → x ≡ y
pair_same x y e = let both = both_equal (nat_cmp x.0 y.0) (nat_cmp x.1 y.1) e in same_pair (number_same x.0 y.0 both.0) (number_same x.1 y.1 both.1)

module _ (product : ℕ → ℕ → ℕ) (zeros : product 0 0 ≡ 0) (scale : Scale) (labels : List (List ℕ)) (one two : GrammarOf) (p : ArePrintable scale labels one.rules) (q : ArePrintable scale labels two.rules) where
  edge_over : (order : List (ℕ × ℕ)) (i : ℕ) (o : ℕ × ℕ) (e : Rule (ℕ × ℕ)) → IsReached (intersection product one.rules two.rules) order → i < length order → IsPairEdge product one.rules two.rules (pair_at order i) o e → IsEdgeOver scale labels order e
  edge_over order i o e reached low edge =
      let ks : List (ℕ × ℕ) = zip (holes (rule_at one.rules o.0).right.kids) (holes (rule_at two.rules o.1).right.kids) in
      let root = subst (λ (z : Symbol ℕ ℕ). HavePlainLabels labels (tree z (rule_at one.rules o.0).right.kids none)) edge.first_root (p o.0 edge.first).right in
      record {
        left = subst (Has order) (sym edge.left) (has_at order i (0, 0) low);
        right = λ k h. ends_stand (intersection product one.rules two.rules) (pair_laws product one.rules two.rules) pair_same order reached i low o e k edge h;
        leaves = subst (λ (s : SideFor ℕ (ℕ × ℕ)). HolesAreLeaves (only s)) (sym edge.right) (leaves_end ks, tt);
        plain = λ place. subst (λ (s : SideFor ℕ (ℕ × ℕ)). HavePlainLabels labels (relabel (symbol_map place) (only s))) (sym edge.right) (root.0, root.1, leaves_plain labels place ks, tt);
        cost = plain_product scale product (rule_at one.rules o.0).cost (rule_at two.rules o.1).cost e.cost zeros (p o.0 edge.first).cost (q o.1 edge.second).cost edge.costs edge.within;
      }

  all_over :
      (order : List (ℕ × ℕ)) (es : List (Rule (ℕ × ℕ))) → IsReachedSet (intersection product one.rules two.rules) order es → (e : Rule (ℕ × ℕ)) → Has es e → IsEdgeOver scale labels order e
  all_over order es reached e h = elim (edge_given (intersection product one.rules two.rules) (pair_laws product one.rules two.rules) order (length order) es reached.1 e h) [
    | inl s ↦ absurd s.1
    | inr m ↦ edge_over order m.0 m.2.0 e reached.0 m.1 m.2.1
  ]

  pub pairs_plain : IsPlainConstruction scale labels (intersecting product (one, two))
  pairs_plain = record {
    laws = pair_laws product one.rules two.rules;
    equal = pair_same;
    parts = λ k. omega arith;
    some = λ order reached. (let begins = order_begins product one.rules two.rules reached.0 reached.1 order reached.2 in omega (arith, ap length begins.1));
    begins = λ order. refl;
    edges = all_over;
  }

  -- so can rules over the positions of an order that stand for these edges
  pub pairs_over :
      (order : List (ℕ × ℕ)) (rules : List (Rule ℕ)) → IsReachedSet (intersection product one.rules two.rules) order (map (named_rule (pair_at order)) rules) → AreInRange (length order) rules →
      AreRulesOver scale labels (length order) rules
  pairs_over order rules reached range = found_over scale labels (intersecting product (one, two)) pairs_plain order rules reached range

-- where all that is made is within the limit

module _ {levelled weighed : Bool} {product : ℕ → ℕ → ℕ} (laws : ProductLaws levelled weighed product) where
  -- what holds of a trimmed normal form
  pub form_same : (g m : GrammarOf) → IsSound g → IsTrimmedForm product g m → (HasSameSeries product g m → ⊥) → ⊥
  form_same g m s t k =
      trimmed_series laws t.normal m (form_range product (length g.names) g.rules (length t.normal.names) t.normal.rules t.form s.range (are_lone g.rules s.leaves)) t.trimmed (λ same.
      k (series_on product g t.normal m (form_series laws g t.normal s t.form) same))

  pub form_plain : (scale : Scale) (labels : List (List ℕ)) (g m : GrammarOf) → IsTrimmedForm product g m → ArePrintable scale labels g.rules → ArePrintable scale labels m.rules
  form_plain scale labels g m t p =
      trimmed_printable scale labels product t.normal m t.trimmed
      (form_printable product (laws.neutral 0) scale labels (length g.names) g.rules p (length t.normal.names) t.normal.rules t.form)

  pub form_is_normal : (g m : GrammarOf) → IsTrimmedForm product g m → AreNormal m.rules
  form_is_normal g m t = (still_normal product t.normal m t.trimmed (form_normal product (length g.names) g.rules (length t.normal.names) t.normal.rules t.form)).normal

  pub intersection_there :
      (scale : Scale) (limit : ℕ) → limit < 4294967296 → (labels : List (List ℕ)) → Distinct labels → (f g : GrammarOf) → IsSound f → IsSound g → ArePrintable scale labels f.rules →
      ArePrintable scale labels g.rules → HasReachedFrom limit (AreTrimmedForms product f g) (intersecting product) → ((text : List ℕ) → HasIntersectionText scale product limit labels f g text → ⊥) → ⊥
  intersection_there scale limit low labels apart f g s t p q w never =
      let one : GrammarOf = w.from.0 in
      let two : GrammarOf = w.from.1 in
      form_same f one s w.is_made.0 (λ a.
      form_same g two t w.is_made.1 (λ b.
      construction_there scale labels (intersecting product w.from)
      (pairs_plain product (laws.neutral 0) scale labels one two (form_plain scale labels f one w.is_made.0 p) (form_plain scale labels g two w.is_made.1 q)) laws limit (omega (arith, low)) apart w.set (λ h c read.
      never (grammar_text scale labels h) (record {
        h = h;
        canonical = record { from = w.from; is_made = w.is_made; canonical = c };
        series =
            product_of_forms product f g one two h.rules a b
            (pairs_series product one two scale limit labels h (λ x y n m o r i u c d e. pairs_mean laws x y n m o r i u c d e) (form_is_normal f one w.is_made.0) (form_is_normal g two w.is_made.1) c);
        are = refl;
        read = read;
      }))))
