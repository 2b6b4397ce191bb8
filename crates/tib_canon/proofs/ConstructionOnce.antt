-- The canonical text of a construction does not depend on the numbers of labels.
use Rattle.tib_cost.specs.declared.Scale.{Scale}
use Rattle.std.proofs.Common.{◌≡◌, ℕ, ◌<◌, List, [], ◌∷◌, ◌++◌, length, map, get_or, suc, refl, ap, sym, ◌∙◌, subst}
use Rattle.std.proofs.lemmas.List.{map-append}
use Rattle.std.specs.Option.{option_cmp}
use Rattle.std.proofs.lemmas.Option.{get_or_from_slice_get}
use Rattle.std.specs.declared.cmp.Ordering.{Ordering}
use Rattle.tib_lex.specs.Lists.{Has, Distinct}
use Rattle.tib_tree.specs.Trees.{Trees, none, tree, only, relabel}
use Rattle.tib_grammar.specs.Sides.{Symbol, label, hole, symbol_map}
use Rattle.tib_grammar.specs.GrammarOf.{GrammarOf, named_rule}
use Rattle.tib_grammar.specs.Range.{AreInRange, SidesEndInHoles}
use Rattle.tib_grammar.specs.Run.{rule_at, no_rule}
use Rattle.tib_grammar.specs.declared.Rule.{Rule}
use Rattle.tib_grammar_file.specs.Printable.{HavePlainLabels, ArePrintable}
use Rattle.tib_grammar_file.specs.Printed.{grammar_text}
use Rattle.tib_grammar_file.proofs.Relabelled.{trees_with, rule_with, rules_with}
use Rattle.tib_grammar_file.proofs.Renumbering.{Renumbers}
use Rattle.tib_expand.specs.Reached.{IsReachedSet}
use Rattle.tib_expand.proofs.Reaching.{Laws}
use Rattle.tib_canon.specs.Constructions.{Construction, edges_over, AreRulesOver, IsCanonicalOf}
use Rattle.tib_canon.specs.Keys.{IsOverKeys, IsBegun, behind_fresh, chain_to, started_rules}
use Rattle.tib_canon.specs.declared.begin.Begin.{Begin}
use Rattle.tib_canon.specs.declared.begin.Begin.TheVariants.{At, Fresh, Empty}
use Rattle.tib_canon.proofs.CanonicalByText.{labels_back, canonical_labels, canonical_with}
use Rattle.tib_canon.proofs.EdgesByText.{edge_with, edges_commute, leaves_with}
use Rattle.tib_canon.proofs.KeysOnce.{begun_once, rule_over}
use Rattle.tib_canon.proofs.ReachedOnce.{one_set, reached_apart}
use Rattle.tib_canon.proofs.Started.{started_each}
use Rattle.tib_canon.proofs.TrimmedByText.{grammar_with, EachLabel, EachLabelIn, KeepsText, range_with, over_with, rules_commute, grammar_printed}
use Rattle.tib_canon.proofs.TrimmedOnce.{Fit, fit_from, place_in, rule_told}
use Rattle.tib_inside.proofs.Chosen.{distinct_at}
use Rattle.tib_lex.proofs.Members.{at_has}
use Rattle.tib_lex.proofs.Lists.{has_mapped, mapped_has}

-- a rule over the positions of an order, with nothing below a state
record IsFit (n : ℕ) (r : Rule ℕ) : Type 0 where
  left : r.left < n
  right : Fit n (only r.right)

fit_rules : (n : ℕ) (rules : List (Rule ℕ)) → AreInRange n rules → SidesEndInHoles rules → (r : Rule ℕ) → Has rules r → IsFit n r
fit_rules n rules range leaves r h =
    let at = at_has rules r no_rule h in
    subst (IsFit n) at.2 (record {
      left = (range at.0 at.1).0;
      right = fit_from n (only (rule_at rules at.0).right) (range at.0 at.1).1 (leaves at.0 at.1);
    })

-- rules whose edges are among those of others are among these
pub rules_stand :
    {K : Type 0} (spare : K) (order : List K) → Distinct order → (xs ys : List (Rule ℕ)) → AreInRange (length order) xs → SidesEndInHoles xs → AreInRange (length order) ys → SidesEndInHoles ys →
    ((e : Rule K) → Has (edges_over spare order xs) e → Has (edges_over spare order ys) e) → (r : Rule ℕ) → Has xs r → Has ys r
rules_stand {K} spare order once xs ys range leaves reach ends stand r h =
    let p : ℕ → K = λ n. get_or order n spare in
    let s = has_mapped (named_rule p) ys (named_rule p r) (stand (named_rule p r) (mapped_has (named_rule p) xs r h)) in
    let mine = fit_rules (length order) xs range leaves r h in
    let its = fit_rules (length order) ys reach ends s.0 s.1 in
    subst (Has ys) (rule_told (length order) p (λ i j l m e. distinct_at order i j spare once l m e) s.0 r its.left mine.left its.right mine.right s.2) s.1

-- started rules with the other numbers

chains_with : (f : ℕ → ℕ) (finals : List (ℕ × ℕ)) → map (rule_with f) (map chain_to finals) ≡ map chain_to finals
chains_with f [] = refl
chains_with f (p ∷ finals) = ap (λ (rs : List (Rule ℕ)). chain_to p ∷ rs) (chains_with f finals)

started_with : (f : ℕ → ℕ) (finals : List (ℕ × ℕ)) (rules : List (Rule ℕ)) → rules_with f (started_rules finals rules) ≡ started_rules finals (rules_with f rules)
started_with f finals rules =
    map-append (rule_with f) (map chain_to finals) (map (named_rule suc) rules)
    ∙ ap (λ (rs : List (Rule ℕ)). rs ++ rules_with f (map (named_rule suc) rules)) (chains_with f finals)
    ∙ ap (λ (rs : List (Rule ℕ)). map chain_to finals ++ rs) (sym (rules_commute suc f rules))

-- a grammar that begins there begins there with the other numbers
begun_with :
    {K : Type 0} (cmp : K → K → Ordering) (order : List K) (rules : List (Rule ℕ)) (begin : Begin) (g : GrammarOf) (f : ℕ → ℕ) → IsBegun cmp order rules begin g →
    IsBegun cmp order (rules_with f rules) begin (grammar_with f g)
begun_with cmp order rules (At start) g f o = over_with cmp order rules start g f o
begun_with cmp order rules (Fresh finals) g f o =
    subst (λ (rs : List (Rule ℕ)). IsOverKeys (option_cmp cmp) (behind_fresh order) rs 0 (grammar_with f g)) (started_with f finals rules)
    (over_with (option_cmp cmp) (behind_fresh order) (started_rules finals rules) 0 g f o)
begun_with cmp order rules Empty g f e = ap (grammar_with f) e

-- what holds for each label of the rules holds for each label of the grammar over keys

labels_on : (P : ℕ → Type 0) (f : ℕ → ℕ) (ts : Trees (Symbol ℕ ℕ)) → EachLabel P ts → EachLabel P (relabel (symbol_map f) ts)
labels_on P f none h = tt
labels_on P f (tree (label g) kids rest) h = (h.0, labels_on P f kids h.1, labels_on P f rest h.2)
labels_on P f (tree (hole q) kids rest) h = (labels_on P f kids h.0, labels_on P f rest h.1)

over_labels :
    (P : ℕ → Type 0) {K : Type 0} (cmp : K → K → Ordering) (order : List K) (rules : List (Rule ℕ)) (start : ℕ) (g : GrammarOf) → IsOverKeys cmp order rules start g → EachLabelIn P rules → EachLabelIn P g.rules
over_labels P cmp order rules start g o all r h =
    labels_back P (place_in o.states) (only r.right) (all (named_rule (place_in o.states) r) (rule_over cmp order start rules g o r h))

begun_labels :
    (P : ℕ → Type 0) {K : Type 0} (cmp : K → K → Ordering) (order : List K) (rules : List (Rule ℕ)) (begin : Begin) (g : GrammarOf) → IsBegun cmp order rules begin g → EachLabelIn P rules →
    EachLabelIn P g.rules
begun_labels P cmp order rules (At start) g o all = over_labels P cmp order rules start g o all
begun_labels P cmp order rules (Fresh finals) g o all =
    over_labels P (option_cmp cmp) (behind_fresh order) (started_rules finals rules) 0 g o
    (started_each finals (λ r. EachLabel P (only r.right)) rules (λ p h. (tt, tt)) (λ s h. labels_on P suc (only s.right) (all s h)))
begun_labels P cmp order rules Empty g e all = λ r h. absurd (subst (λ (k : GrammarOf). Has k.rules r) e h)

module _ (labels others : List (List ℕ)) (f : ℕ → ℕ) (n : Renumbers labels others f) where
  text_kept : (i : ℕ) → f i < length others → KeepsText labels others f i
  text_kept i low =
      let t = n.back i low in get_or_from_slice_get labels i t.text [] t.first ∙ sym (get_or_from_slice_get others (f i) t.text [] t.second)

  side_kept : (ts : Trees (Symbol ℕ ℕ)) → HavePlainLabels others (trees_with f ts) → EachLabel (KeepsText labels others f) ts
  side_kept none h = tt
  side_kept (tree (label g) kids rest) h = (text_kept g h.0, side_kept kids h.2, side_kept rest h.3)
  side_kept (tree (hole q) kids rest) h = (side_kept kids h.0, side_kept rest h.1)

  -- labels of rules that can be printed over the other table keep their texts
  plain_kept : (scale : Scale) (xs ys : List (Rule ℕ)) → ArePrintable scale others ys → ((r : Rule ℕ) → Has (rules_with f xs) r → Has ys r) → EachLabelIn (KeepsText labels others f) xs
  plain_kept scale xs ys printable stand r h =
      let at = at_has ys (rule_with f r) no_rule (stand (rule_with f r) (mapped_has (rule_with f) xs r h)) in
      side_kept (only r.right) (subst (λ (x : Rule ℕ). HavePlainLabels others (only x.right)) at.2 (printable at.0 at.1).right)

-- Two constructions over two tables of labels, of which the one reaches what the other does, except
-- for the numbers of labels.
pub record AreConstructionsAlike {K O : Type 0} (f : ℕ → ℕ) (c d : Construction K O) : Type 0 where
  pub cmp : c.problem.cmp ≡ d.problem.cmp
  pub spare : c.spare ≡ d.spare
  pub begins : (order : List K) (x y : Begin) → c.begins order x → d.begins order y → x ≡ y
  pub reached : (order : List K) (es : List (Rule K)) → IsReachedSet c.problem order es → IsReachedSet d.problem order (map (edge_with f) es)

module _
    {K O : Type 0} (product : ℕ → ℕ → ℕ) (scale : Scale) (limit : ℕ) (labels others : List (List ℕ)) (f : ℕ → ℕ) (n : Renumbers labels others f) (c d : Construction K O) (laws : Laws d.problem)
    (alike : AreConstructionsAlike f c d) (h i : GrammarOf) (a : IsCanonicalOf product scale labels limit c h) (b : IsCanonicalOf product scale others limit d i) where
  moved : IsReachedSet d.problem a.order (edges_over d.spare a.order (rules_with f a.rules))
  moved =
      subst (λ (s : K). IsReachedSet d.problem a.order (edges_over s a.order (rules_with f a.rules))) alike.spare
      (subst (IsReachedSet d.problem a.order) (edges_commute (λ m. get_or a.order m c.spare) f a.rules) (alike.reached a.order (edges_over c.spare a.order a.rules) a.reached))

  -- the other construction, over the order of the one
  record IsOverSame (order : List K) : Type 0 where
    reached : IsReachedSet d.problem order (edges_over d.spare order b.rules)
    rules_over : AreRulesOver scale others (length order) b.rules
    begins : d.begins order b.begin
    begun : IsBegun d.problem.cmp order b.rules b.begin b.canonical.over

  over_same : IsOverSame a.order
  over_same =
      let same = (one_set d.problem laws b.order a.order (edges_over d.spare b.order b.rules) (edges_over d.spare a.order (rules_with f a.rules)) b.reached moved).0 in
      subst IsOverSame same (record { reached = b.reached; rules_over = b.rules_over; begins = b.begun; begun = b.canonical.begun })

  once : Distinct a.order
  once = reached_apart d.problem laws over_same.reached.0

  range : AreInRange (length a.order) (rules_with f a.rules)
  range = range_with f (length a.order) a.rules a.rules_over.in_range

  leaves : SidesEndInHoles (rules_with f a.rules)
  leaves = leaves_with f a.rules a.rules_over.leaves

  to : (r : Rule ℕ) → Has (rules_with f a.rules) r → Has b.rules r
  to =
      rules_stand d.spare a.order once (rules_with f a.rules) b.rules range leaves over_same.rules_over.in_range over_same.rules_over.leaves
      (one_set d.problem laws a.order a.order (edges_over d.spare a.order (rules_with f a.rules)) (edges_over d.spare a.order b.rules) moved over_same.reached).1

  from : (r : Rule ℕ) → Has b.rules r → Has (rules_with f a.rules) r
  from =
      rules_stand d.spare a.order once b.rules (rules_with f a.rules) over_same.rules_over.in_range over_same.rules_over.leaves range leaves
      (one_set d.problem laws a.order a.order (edges_over d.spare a.order b.rules) (edges_over d.spare a.order (rules_with f a.rules)) over_same.reached moved).1

  all_kept : EachLabelIn (KeepsText labels others f) h.rules
  all_kept =
      canonical_labels (KeepsText labels others f) product scale labels a.canonical.over h a.canonical.canonical
      (begun_labels (KeepsText labels others f) c.problem.cmp a.order a.rules a.begin a.canonical.over a.canonical.begun
      (plain_kept labels others f n scale a.rules b.rules over_same.rules_over.printable to))

  begun : IsBegun d.problem.cmp a.order (rules_with f a.rules) b.begin (grammar_with f a.canonical.over)
  begun =
      subst (λ (x : Begin). IsBegun d.problem.cmp a.order (rules_with f a.rules) x (grammar_with f a.canonical.over)) (alike.begins a.order a.begin b.begin a.begun over_same.begins)
      (subst (λ (cmp : K → K → Ordering). IsBegun cmp a.order (rules_with f a.rules) a.begin (grammar_with f a.canonical.over)) alike.cmp
      (begun_with c.problem.cmp a.order a.rules a.begin a.canonical.over f a.canonical.begun))

  same_form : grammar_with f h ≡ i
  same_form =
      begun_once d.problem.cmp laws.total_order product scale others a.order (rules_with f a.rules) b.rules b.begin (grammar_with f a.canonical.over) b.canonical.over (grammar_with f h) i to from leaves
      over_same.rules_over.leaves begun over_same.begun (canonical_with labels others f n product scale a.canonical.over h all_kept a.canonical.canonical) b.canonical.canonical

  pub construction_once : grammar_text scale labels h ≡ grammar_text scale others i
  construction_once = grammar_printed labels others f scale h all_kept ∙ ap (grammar_text scale others) same_form
