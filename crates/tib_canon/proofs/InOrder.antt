-- Sorted lines give a grammar in canonical order.
use Rattle.tib_cost.specs.Semiring.{most}
use Rattle.tib_lex.proofs.Lists.{Ascends-from, has_mapped, mapped_has}
use Rattle.tib_cost.specs.declared.Scale.{Scale}
use Rattle.std.proofs.Common.{◌≡◌, ℕ, ◌<◌, ◌≤◌, List, [], ◌∷◌, length, map, get_or, refl, ap, sym, ◌∙◌, subst, arith, inl, inr, ◌⊎◌}
use Rattle.std.specs.Prelude.{IsPermutation, IsSorted}
use Rattle.std.specs.Ordering.{nat_cmp, ordering_then}
use Rattle.std.specs.Cmp.Lexicographic.{slice_cmp}
use Rattle.std.specs.declared.cmp.Ordering.TheVariants.{Less}
use Rattle.std.proofs.lemmas.List.{length-map, get_or-map}
use Rattle.std.proofs.lemmas.List.Sorted.{IsPermutation-sym, length_permutation}
use Rattle.tib_lex.specs.Lists.{Has, Each, Distinct, Ascends}
use Rattle.tib_grammar.specs.GrammarOf.{GrammarOf}
use Rattle.tib_grammar.specs.Run.{rule_at, no_rule}
use Rattle.tib_grammar.specs.StateName.{AreStateNames}
use Rattle.tib_grammar.specs.declared.Rule.{Rule}
use Rattle.tib_canon.specs.Canonical.{names_of, line_of, rule_cmp, AgreeInSides, HasSides, IsInOrder}
use Rattle.tib_canon.specs.Lines.{IsLineAt}
use Rattle.tib_canon.specs.Merging.{AreCheapest}
use Rattle.tib_canon.specs.declared.lines.Line.{Line}
use Rattle.tib_canon.proofs.Permuting.{has_permuted, distinct_permuted, distinct_at}
use Rattle.tib_canon.specs.LineOrder.{text_cmp, line_cmp}
use Rattle.tib_canon.proofs.Sorting.{sorted_apart}
use Rattle.tib_canon.proofs.Telling.{IsSafe, told_by_line}
use Rattle.tib_lex.proofs.Members.{has_at, at_has, each_has}

pub cheapest_permuted : (rules : List (Rule ℕ)) (xs ys : List ℕ) → IsPermutation xs ys → AreCheapest rules xs → AreCheapest rules ys
cheapest_permuted rules xs ys p c =
    let back = IsPermutation-sym xs ys p in
    record {
      below = λ q h. c.below q (has_permuted ys xs q back h);
      distinct = distinct_permuted xs ys p c.distinct;
      few = omega (arith, length_permutation xs ys p, c.few);
      apart = λ q r h k e. c.apart q r (has_permuted ys xs q back h) (has_permuted ys xs r back k) e;
      whole = λ m h. let w = c.whole m h in record { position = w.position; stands = has_permuted xs ys w.position p w.stands; agrees = w.agrees; costs = w.costs };
    }

pub agree_back : (r s : Rule ℕ) → AgreeInSides r s → AgreeInSides s r
agree_back r s a = record { left = sym a.left; right = sym a.right }

pub agree_on : (r s t : Rule ℕ) → AgreeInSides r s → AgreeInSides s t → AgreeInSides r t
agree_on r s t a b = record { left = a.left ∙ b.left; right = a.right ∙ b.right }

-- what is known when the lines are sorted
pub record AreSorted (scale : Scale) (labels : List (List ℕ)) (g : GrammarOf) (now : List Line) : Type 0 where
  pub cheapest : AreCheapest g.rules (map (λ (l : Line). l.position) now)
  pub lines : Each (IsLineAt scale (names_of (length g.names)) labels g.rules) now
  pub sorted : IsSorted line_cmp now
  pub names : AreStateNames (names_of (length g.names))
  pub labels_apart : Distinct labels
  pub safe : (m : ℕ) → m < length g.rules → (rule_at g.rules m).cost ≤ most → IsSafe (names_of (length g.names)) labels (rule_at g.rules m)

module _ (scale : Scale) (labels : List (List ℕ)) (g : GrammarOf) (now : List Line) (s : AreSorted scale labels g now) where
  abbrev pub names : List (List ℕ)
  names = names_of (length g.names)

  abbrev pub rule_of : Line → Rule ℕ
  rule_of l = rule_at g.rules l.position

  abbrev pub positions : List ℕ
  positions = map (λ (l : Line). l.position) now

  line_known : (l : Line) → Has now l → IsLineAt scale names labels g.rules l
  line_known l h = each_has (IsLineAt scale names labels g.rules) now l s.lines h

  pub kept : (r : Rule ℕ) → Has (map rule_of now) r → Has g.rules r
  kept r h =
      let l = has_mapped rule_of now r h in
      subst (Has g.rules) l.2 (has_at g.rules l.0.position no_rule (line_known l.0 l.1).below)

  least : (r t : Rule ℕ) → Has (map rule_of now) r → Has g.rules t → AgreeInSides r t → r.cost ≤ t.cost
  least r t h k a =
      let l = has_mapped rule_of now r h in
      let m = at_has g.rules t no_rule k in
      let w = s.cheapest.whole m.0 m.1 in
      let mine : AgreeInSides (rule_of l.0) t = subst (λ x. AgreeInSides x t) (sym l.2) a in
      let theirs : AgreeInSides t (rule_at g.rules w.position) = subst (λ x. AgreeInSides x (rule_at g.rules w.position)) m.2 (agree_back (rule_at g.rules w.position) (rule_at g.rules m.0) w.agrees) in
      let same : l.0.position ≡ w.position = s.cheapest.apart l.0.position w.position (mapped_has (λ (x : Line). x.position) now l.0 l.1) w.stands (agree_on (rule_of l.0) t (rule_at g.rules w.position) mine theirs) in
      let costs : (rule_at g.rules w.position).cost ≤ t.cost = subst (λ x. (rule_at g.rules w.position).cost ≤ x.cost) m.2 w.costs in
      let own : (rule_of l.0).cost ≤ t.cost = subst (λ p. (rule_at g.rules p).cost ≤ t.cost) (sym same) costs in
      subst (λ x. x.cost ≤ t.cost) l.2 own

  whole : (r : Rule ℕ) → Has g.rules r → HasSides (map rule_of now) r
  whole r h =
      let m = at_has g.rules r no_rule h in
      let w = s.cheapest.whole m.0 m.1 in
      let l = has_mapped (λ (x : Line). x.position) now w.position w.stands in
      record {
        rule = rule_of l.0;
        stands = mapped_has rule_of now l.0 l.1;
        agrees = subst (λ x. AgreeInSides (rule_of l.0) x) m.2 (subst (λ p. AgreeInSides (rule_at g.rules p) (rule_at g.rules m.0)) (sym l.2) w.agrees);
      }

  less_from : (x y : Line) → Has now x → Has now y → (x.position ≡ y.position → ⊥) → (text_cmp x y ≡ Less) ⊎ ((x.left ≡ y.left) × (x.text.now ≡ y.text.now)) → rule_cmp scale names labels (rule_of x) (rule_of y) ≡ Less
  less_from x y h k apart (inl e) =
      let a = line_known x h in
      let b = line_known y k in
      ap (λ n. ordering_then (nat_cmp n (rule_of y).left) (slice_cmp nat_cmp (line_of scale names labels (rule_of x)) (line_of scale names labels (rule_of y)))) (sym a.left)
      ∙ ap (λ n. ordering_then (nat_cmp x.left n) (slice_cmp nat_cmp (line_of scale names labels (rule_of x)) (line_of scale names labels (rule_of y)))) (sym b.left)
      ∙ ap (λ (t : List ℕ). ordering_then (nat_cmp x.left y.left) (slice_cmp nat_cmp t (line_of scale names labels (rule_of y)))) (sym a.text)
      ∙ ap (λ (t : List ℕ). ordering_then (nat_cmp x.left y.left) (slice_cmp nat_cmp x.text.now t)) (sym b.text)
      ∙ e
  less_from x y h k apart (inr e) =
      let a = line_known x h in
      let b = line_known y k in
      let line : line_of scale names labels (rule_of x) ≡ line_of scale names labels (rule_of y) = sym a.text ∙ e.1 ∙ b.text in
      let right : (rule_of x).right ≡ (rule_of y).right = told_by_line scale names labels (rule_of x) (rule_of y) s.names s.labels_apart (s.safe x.position a.below a.within) (s.safe y.position b.below b.within) line in
      absurd (apart (s.cheapest.apart x.position y.position (mapped_has (λ (l : Line). l.position) now x h) (mapped_has (λ (l : Line). l.position) now y k) (record { left = sym a.left ∙ e.0 ∙ b.left; right = right })))

  pair_ascends : (d : Line) (i j : ℕ) → i < j → j < length now → rule_cmp scale names labels (rule_of (get_or now i d)) (rule_of (get_or now j d)) ≡ Less
  pair_ascends d i j h k =
      less_from (get_or now i d) (get_or now j d) (has_at now i d (omega arith)) (has_at now j d k)
      (λ e. distinct_at positions 0 i j s.cheapest.distinct h (omega (arith, length-map now (λ (l : Line). l.position)))
      (get_or-map (λ (l : Line). l.position) now i d 0 (omega arith) ∙ e ∙ sym (get_or-map (λ (l : Line). l.position) now j d 0 k)))
      (sorted_apart now i j d s.sorted (omega arith) k)

  mapped_ascends : (d : Line) → Ascends (λ r t. rule_cmp scale names labels r t ≡ Less) (map rule_of now)
  mapped_ascends d =
      Ascends-from (λ r t. rule_cmp scale names labels r t ≡ Less) (map rule_of now) (rule_of d) (λ i j h k.
      let long : j < length now = omega (arith, k, length-map now rule_of) in
      let one : get_or (map rule_of now) i (rule_of d) ≡ rule_of (get_or now i d) = get_or-map rule_of now i d (rule_of d) (omega arith) in
      let two : get_or (map rule_of now) j (rule_of d) ≡ rule_of (get_or now j d) = get_or-map rule_of now j d (rule_of d) long in
      subst (λ r. rule_cmp scale names labels r (get_or (map rule_of now) j (rule_of d)) ≡ Less) (sym one)
      (subst (λ t. rule_cmp scale names labels (rule_of (get_or now i d)) t ≡ Less) (sym two) (pair_ascends d i j h long)))

  rules_ascend : (lines : List Line) → lines ≡ now → Ascends (λ r t. rule_cmp scale names labels r t ≡ Less) (map rule_of lines)
  rules_ascend [] e = tt
  rules_ascend (d ∷ lines) e = subst (λ (ls : List Line). Ascends (λ r t. rule_cmp scale names labels r t ≡ Less) (map rule_of ls)) (sym e) (mapped_ascends d)

  pub in_order : (h : GrammarOf) → h.names ≡ names → h.rules ≡ map rule_of now → IsInOrder scale labels g h
  in_order h named ruled =
      let goal : IsInOrder scale labels g (record { names = names; rules = map rule_of now }) =
      record { names = refl; kept = kept; least = least; whole = whole; ascends = rules_ascend now refl } in
      let same : h ≡ record { names = names; rules = map rule_of now } =
      ap (λ (ns : List (List ℕ)). record { names = ns; rules = h.rules }) named ∙ ap (λ (rs : List (Rule ℕ)). record { names = names; rules = rs }) ruled in
      subst (IsInOrder scale labels g) (sym same) goal
