-- The text of a canonical transducer does not depend on the numbers of labels.
use Rattle.tib_cost.specs.declared.Scale.{Scale}
use Rattle.std.proofs.Common.{◌≡◌, ℕ, ◌<◌, ◌≤◌, List, [], ◌∷◌, ◌++◌, length, map, get_or, refl, ap, sym, ◌∙◌, subst, arith, inl, inr, Option}
use Rattle.std.specs.Prelude.{Some, None, option_map}
use Rattle.std.proofs.lemmas.List.{length-map, get_or-map}
use Rattle.std.proofs.lemmas.Option.{get_or_from_slice_get}
use Rattle.std.specs.Cmp.{IsTotalOrder}
use Rattle.std.specs.Ordering.{nat_cmp, ordering_then}
use Rattle.std.specs.Cmp.Lexicographic.{slice_cmp}
use Rattle.std.specs.declared.cmp.Ordering.{Ordering}
use Rattle.std.specs.declared.cmp.Ordering.TheVariants.{Less}
use Rattle.tib_lex.specs.Lists.{Has, Distinct, Ascends}
use Rattle.tib_lex.proofs.Lists.{has_mapped, mapped_has}
use Rattle.tib_lex.proofs.Members.{each_has, each_of}
use Rattle.tib_tree.specs.Trees.{Tree, Trees, none, tree, only, relabel, relabel_tree}
use Rattle.tib_grammar.specs.Range.{AllBelow}
use Rattle.tib_grammar.specs.Sides.{Symbol, label, hole, symbol_map}
use Rattle.tib_grammar_file.specs.ByText.{HaveOneShape, HaveOneText}
use Rattle.tib_grammar_file.proofs.Renumbering.{Renumbers, renumbering}
use Rattle.tib_transducer.specs.Range.{IsWithin, AreWithin, EndsInHoles, EndInHoles}
use Rattle.tib_transducer.specs.Rules.{transducer_rule, no_rule}
use Rattle.tib_transducer.specs.TransducerOf.{TransducerOf}
use Rattle.tib_transducer.specs.declared.Variable.{Variable}
use Rattle.tib_transducer.specs.declared.Pair.{Pair}
use Rattle.tib_transducer.specs.declared.TransducerRule.{TransducerRule}
use Rattle.tib_transducer.specs.NamedPairs.{named_pair}
use Rattle.tib_transducer_file.specs.ByText.{AskForOneText, AgreeOnLeft, AgreeOnRight, AreOneTransducerRule}
use Rattle.tib_transducer_file.specs.ByName.{line_text}
use Rattle.tib_transducer_file.specs.Printed.{rule_text, rules_text, transducer_text}
use Rattle.tib_key_edges.specs.Named.{named_transducer_rule}
use Rattle.tib_canon.specs.TransducerKeys.{IsTransducerOverKeys, IsCanonicalTransducer}
use Rattle.tib_canon.specs.TransducerLaws.{AreOneByText}
use Rattle.tib_canon.specs.Ordered.{move_cmp, AgreeInSides, HasSides, IsTransducerInOrder}
use Rattle.tib_canon.proofs.TransducerKeysOnce.{transducer_once}
use Rattle.tib_canon.proofs.TransducerOverKeys.{stands_for}
use Rattle.tib_canon.proofs.Relabelled.{variable_with, left_with, right_with, move_with, moves_with, transducer_with, moves_commute, pairs_kept, ends_with, move_given, KeepsText, KeepsAsked, KeepOnLeft, KeepOnRight, KeepsTexts, line_kept}
use Rattle.tib_canon.proofs.TransducerTelling.{move_fed}

-- trees are determined by what their nodes are exchanged for

tree_is : {B : Type 0} {x y : B} {us bs cs ds : Trees B} → tree x us bs ≡ tree y cs ds → (x ≡ y) × (us ≡ cs) × (bs ≡ ds)
tree_is e = (cc, cc, cc)

trees_told : {A B : Type 0} (g : A → B) → ((x y : A) → g x ≡ g y → x ≡ y) → (ts us : Trees A) → relabel g ts ≡ relabel g us → ts ≡ us
trees_told g tells none none e = refl
trees_told g tells none (tree x kids rest) e = absurd (cc)
trees_told g tells (tree x kids rest) none e = absurd (cc)
trees_told {A} g tells (tree x us bs) (tree y cs ds) e =
    let t = tree_is e in
    ap (λ (z : A). tree z us bs) (tells x y t.0) ∙ ap (λ (z : Trees A). tree y z bs) (trees_told g tells us cs t.1) ∙ ap (λ (z : Trees A). tree y cs z) (trees_told g tells bs ds t.2)

side_told : {A B : Type 0} (g : A → B) → ((x y : A) → g x ≡ g y → x ≡ y) → (s t : Tree A) → relabel_tree g s ≡ relabel_tree g t → s ≡ t
side_told {A} g tells s t e =
    let o : only s ≡ only t = trees_told g tells (only s) (only t) (ap only e) in
    let a : s.label ≡ t.label = cc o in
    let b : s.kids ≡ t.kids = cc o in
    ap (λ (l : A). record { label = l; kids = s.kids }) a ∙ ap (λ (k : Trees A). record { label = t.label; kids = k }) b

module _ (f : ℕ → ℕ) (apart : (i j : ℕ) → f i ≡ f j → i ≡ j) where
  asked_told : (a b : Option ℕ) → option_map f a ≡ option_map f b → a ≡ b
  asked_told None None e = refl
  asked_told None (Some g) e = absurd (cc)
  asked_told (Some g) None e = absurd (cc)
  asked_told (Some g) (Some k) e = let same : f g ≡ f k = cc e in ap (λ (n : ℕ). Some n) (apart g k same)

  left_told : (x y : Symbol ℕ Variable) → left_with f x ≡ left_with f y → x ≡ y
  left_told (label g) (label k) e = let same : f g ≡ f k = cc e in ap label (apart g k same)
  left_told (label g) (hole y) e = absurd (cc)
  left_told (hole x) (label k) e = absurd (cc)
  left_told (hole x) (hole y) e =
      let same : variable_with f x ≡ variable_with f y = cc e in
      let number : x.number ≡ y.number = ap (λ (z : Variable). z.number) same in
      let asked : x.label ≡ y.label = asked_told x.label y.label (ap (λ (z : Variable). z.label) same) in
      ap (λ (n : ℕ). hole (record { number = n; label = x.label })) number ∙ ap (λ (a : Option ℕ). hole (record { number = y.number; label = a })) asked

  right_told : (x y : Symbol ℕ (Pair ℕ)) → right_with f x ≡ right_with f y → x ≡ y
  right_told (label g) (label k) e = let same : f g ≡ f k = cc e in ap label (apart g k same)
  right_told (label g) (hole y) e = absurd (cc)
  right_told (hole x) (label k) e = absurd (cc)
  right_told (hole x) (hole y) e = e

  agree_told : (r s : TransducerRule ℕ) → AgreeInSides (move_with f r) (move_with f s) → AgreeInSides r s
  agree_told r s a = record { state = a.state; left = side_told (left_with f) left_told r.left s.left a.left; right = side_told (right_with f) right_told r.right s.right a.right }

  agree_with : (r s : TransducerRule ℕ) → AgreeInSides r s → AgreeInSides (move_with f r) (move_with f s)
  agree_with r s a = record { state = a.state; left = ap (relabel_tree (left_with f)) a.left; right = ap (relabel_tree (right_with f)) a.right }

ascends_mapped : {A B : Type 0} (g : A → B) (R : A → A → Type 0) (T : B → B → Type 0) (xs : List A) → ((x y : A) → Has xs x → Has xs y → R x y → T (g x) (g y)) → Ascends R xs → Ascends T (map g xs)
ascends_mapped g R T [] h a = tt
ascends_mapped g R T (x ∷ xs) h a = (
  each_of (T (g x)) (map g xs) (λ b k. let y = has_mapped g xs b k in subst (T (g x)) y.2 (h x y.0 (inl refl) (inr y.1) (each_has (R x) xs y.0 a.0 y.1))),
  ascends_mapped g R T xs (λ y z k l. h y z (inr k) (inr l)) a.1,
)

module _ (labels others : List (List ℕ)) (f : ℕ → ℕ) (n : Renumbers labels others f) where
  -- canonical order with the other numbers
  module _ (scale : Scale) (t h : TransducerOf) (o : IsTransducerInOrder scale labels t h) (keeps : (r : TransducerRule ℕ) → Has h.rules r → KeepsTexts labels others f n r) where
    kept_with : (r : TransducerRule ℕ) → Has (moves_with f h.rules) r → Has (moves_with f t.rules) r
    kept_with r k = let s = has_mapped (move_with f) h.rules r k in subst (Has (moves_with f t.rules)) s.2 (mapped_has (move_with f) t.rules s.0 (o.kept s.0 s.1))

    least_with : (r s : TransducerRule ℕ) → Has (moves_with f h.rules) r → Has (moves_with f t.rules) s → AgreeInSides r s → r.cost ≤ s.cost
    least_with r s k l a =
        let x = has_mapped (move_with f) h.rules r k in
        let y = has_mapped (move_with f) t.rules s l in
        let agree : AgreeInSides (move_with f x.0) (move_with f y.0) = subst (λ z. AgreeInSides z (move_with f y.0)) (sym x.2) (subst (AgreeInSides r) (sym y.2) a) in
        let low : x.0.cost ≤ y.0.cost = o.least x.0 y.0 x.1 y.1 (agree_told f n.apart x.0 y.0 agree) in
        omega (arith, low, ap (λ (z : TransducerRule ℕ). z.cost) x.2, ap (λ (z : TransducerRule ℕ). z.cost) y.2)

    whole_with : (r : TransducerRule ℕ) → Has (moves_with f t.rules) r → HasSides (moves_with f h.rules) r
    whole_with r k =
        let s = has_mapped (move_with f) t.rules r k in
        let w = o.whole s.0 s.1 in
        record {
          rule = move_with f w.rule;
          stands = mapped_has (move_with f) h.rules w.rule w.stands;
          agrees = subst (AgreeInSides (move_with f w.rule)) s.2 (agree_with f n.apart w.rule s.0 w.agrees);
        }

    less_with : (r s : TransducerRule ℕ) → Has h.rules r → Has h.rules s → move_cmp scale h.names labels r s ≡ Less → move_cmp scale h.names others (move_with f r) (move_with f s) ≡ Less
    less_with r s k l e =
        sym (ap (λ (x : List ℕ). ordering_then (nat_cmp r.state s.state) (slice_cmp nat_cmp x (line_text scale h.names labels s))) (line_kept labels others f n scale h.names r (keeps r k))
        ∙ ap (λ (x : List ℕ). ordering_then (nat_cmp r.state s.state) (slice_cmp nat_cmp (line_text scale h.names others (move_with f r)) x)) (line_kept labels others f n scale h.names s (keeps s l)))
        ∙ e

    order_with : IsTransducerInOrder scale others (transducer_with f t) (transducer_with f h)
    order_with = record {
      names = o.names;
      kept = kept_with;
      least = least_with;
      whole = whole_with;
      ascends = ascends_mapped (move_with f) (λ r s. move_cmp scale h.names labels r s ≡ Less) (λ r s. move_cmp scale h.names others r s ≡ Less) h.rules less_with o.ascends;
    }

  rules_kept : (scale : Scale) (names : List (List ℕ)) (rules : List (TransducerRule ℕ)) → ((r : TransducerRule ℕ) → Has rules r → KeepsTexts labels others f n r) → rules_text scale names labels rules ≡ rules_text scale names others (moves_with f rules)
  rules_kept scale names [] k = refl
  rules_kept scale names (r ∷ rules) k =
      ap (λ (x : List ℕ). x ++ rules_text scale names labels rules)
      (move_fed scale names labels r ∙ ap (λ (x : List ℕ). x ++ 10 ∷ []) (line_kept labels others f n scale names r (k r (inl refl))) ∙ sym (move_fed scale names others (move_with f r)))
      ∙ ap (λ (x : List ℕ). rule_text scale names others (move_with f r) ++ x) (rules_kept scale names rules (λ s h. k s (inr h)))

  -- its right-hand side has the same texts with other states
  right_back : (p : ℕ → ℕ) (ts : Trees (Symbol ℕ (Pair ℕ))) → KeepOnRight labels others f n (relabel (symbol_map (named_pair p)) ts) → KeepOnRight labels others f n ts
  right_back p none h = tt
  right_back p (tree (label g) kids rest) h = (h.0, right_back p kids h.1, right_back p rest h.2)
  right_back p (tree (hole x) kids rest) h = (right_back p kids h.0, right_back p rest h.1)

  module _ {K : Type 0} (cmp : K → K → Ordering) (order : List K) (start : ℕ) (xs : List (TransducerRule ℕ)) (t : TransducerOf) (o : IsTransducerOverKeys cmp order xs start t) where
    within_with : (k : ℕ) (rules : List (TransducerRule ℕ)) → AreWithin k rules → AreWithin k (moves_with f rules)
    within_with k rules w m h =
        let low : m < length rules = omega (arith, h, length-map rules (move_with f)) in
        let r : TransducerRule ℕ = transducer_rule rules m in
        subst (IsWithin k) (sym (get_or-map (move_with f) rules m no_rule no_rule low)) ((w m low).0, subst (λ (ps : List (Pair ℕ)). AllBelow k (map (λ x. x.state) ps)) (sym (pairs_kept f r.right)) (w m low).1)

    over_with : IsTransducerOverKeys cmp order (moves_with f xs) start (transducer_with f t)
    over_with = record {
      states = o.states;
      by_keys = o.by_keys;
      names = o.names;
      numbered = record {
        once = o.numbered.once;
        in_range = within_with (length o.states) t.rules o.numbered.in_range;
        named = moves_commute (λ i. get_or o.states i 0) f t.rules ∙ ap (moves_with f) o.numbered.named;
      };
    }

    over_keeps : ((r : TransducerRule ℕ) → Has xs r → KeepsTexts labels others f n r) → (r : TransducerRule ℕ) → Has t.rules r → KeepsTexts labels others f n r
    over_keeps keeps r h =
        let k = keeps (named_transducer_rule (λ i. get_or o.states i 0) r) (stands_for cmp order start xs t o r h) in
        record { left = k.left; right = right_back (λ i. get_or o.states i 0) (only r.right) k.right }

  leaves_with : (xs : List (TransducerRule ℕ)) → EndInHoles xs → EndInHoles (moves_with f xs)
  leaves_with xs leaves m h =
      let low : m < length xs = omega (arith, h, length-map xs (move_with f)) in
      subst EndsInHoles (sym (get_or-map (move_with f) xs m no_rule no_rule low)) (ends_with f (transducer_rule xs m) (leaves m low))

  -- two canonical transducers of the same rules, except for the numbers of labels, have one text
  pub text_once :
      {K : Type 0} (cmp : K → K → Ordering) → IsTotalOrder cmp → (scale : Scale) (order : List K) (xs ys : List (TransducerRule ℕ)) (start : ℕ) (h i : TransducerOf) → ((r : TransducerRule ℕ) → Has (moves_with f xs) r → Has ys r) →
      ((r : TransducerRule ℕ) → Has ys r → Has (moves_with f xs) r) → EndInHoles xs → EndInHoles ys → ((r : TransducerRule ℕ) → Has xs r → KeepsTexts labels others f n r) →
      IsCanonicalTransducer scale labels cmp order xs start h → IsCanonicalTransducer scale others cmp order ys start i → transducer_text scale labels h ≡ transducer_text scale others i
  text_once cmp total scale order xs ys start h i to from leaves ends keeps a b =
      let over = over_keeps cmp order start xs a.over a.is_over keeps in
      let own = λ (r : TransducerRule ℕ) (k : Has h.rules r). over r (a.in_order.kept r k) in
      let moved : IsCanonicalTransducer scale others cmp order (moves_with f xs) start (transducer_with f h) = record {
        over = transducer_with f a.over;
        is_over = over_with cmp order start xs a.over a.is_over;
        in_order = order_with scale a.over h a.in_order own;
      } in
      ap (λ (x : List ℕ). (get_or h.names 0 [] ++ 10 ∷ []) ++ x) (rules_kept scale h.names h.rules own)
      ∙ ap (transducer_text scale others) (transducer_once cmp total scale others order (moves_with f xs) ys start (transducer_with f h) i to from (leaves_with xs leaves) ends moved b)

  -- rules that agree by text keep their texts

  text_kept : (i k : ℕ) → HaveOneText labels others i k → KeepsText labels others f n i
  text_kept i k h = get_or_from_slice_get labels i h.text [] h.first ∙ sym (get_or_from_slice_get others k h.text [] h.second) ∙ ap (λ (j : ℕ). get_or others j []) (sym (n.gives i k h))

  asked_kept : (a b : Option ℕ) → AskForOneText labels others a b → KeepsAsked labels others f n a
  asked_kept None b h = tt
  asked_kept (Some g) None h = absurd h
  asked_kept (Some g) (Some k) h = text_kept g k h

  left_agrees : (ts us : Trees (Symbol ℕ Variable)) → HaveOneShape (AgreeOnLeft labels others) ts us → KeepOnLeft labels others f n ts
  left_agrees none us h = tt
  left_agrees (tree s kids rest) none h = absurd h
  left_agrees (tree (label g) kids rest) (tree (label k) below more) h = (text_kept g k h.0, left_agrees kids below h.1, left_agrees rest more h.2)
  left_agrees (tree (label g) kids rest) (tree (hole y) below more) h = absurd h.0
  left_agrees (tree (hole x) kids rest) (tree (label k) below more) h = absurd h.0
  left_agrees (tree (hole x) kids rest) (tree (hole y) below more) h = (asked_kept x.label y.label h.0.1, left_agrees kids below h.1, left_agrees rest more h.2)

  right_agrees : (ts us : Trees (Symbol ℕ (Pair ℕ))) → HaveOneShape (AgreeOnRight labels others) ts us → KeepOnRight labels others f n ts
  right_agrees none us h = tt
  right_agrees (tree s kids rest) none h = absurd h
  right_agrees (tree (label g) kids rest) (tree (label k) below more) h = (text_kept g k h.0, right_agrees kids below h.1, right_agrees rest more h.2)
  right_agrees (tree (label g) kids rest) (tree (hole y) below more) h = absurd h.0
  right_agrees (tree (hole x) kids rest) (tree (label k) below more) h = absurd h.0
  right_agrees (tree (hole x) kids rest) (tree (hole y) below more) h = (right_agrees kids below h.1, right_agrees rest more h.2)

  agreed : (r s : TransducerRule ℕ) → AreOneTransducerRule labels others r s → KeepsTexts labels others f n r
  agreed r s a = record { left = left_agrees (only r.left) (only s.left) a.left; right = right_agrees (only r.right) (only s.right) a.right }

  pub text_by_text :
      {K : Type 0} (cmp : K → K → Ordering) → IsTotalOrder cmp → (scale : Scale) (order : List K) (xs ys : List (TransducerRule ℕ)) (start : ℕ) (h i : TransducerOf) → AreOneByText labels others xs ys → EndInHoles xs → EndInHoles ys →
      IsCanonicalTransducer scale labels cmp order xs start h → IsCanonicalTransducer scale others cmp order ys start i → transducer_text scale labels h ≡ transducer_text scale others i
  text_by_text cmp total scale order xs ys start h i one leaves ends a b =
      text_once cmp total scale order xs ys start h i
      (λ r k. let s = has_mapped (move_with f) xs r k in let u = one.to s.0 s.1 in subst (Has ys) (sym (move_given labels others f n s.0 u.0 u.2) ∙ s.2) u.1)
      (λ r k. let s = one.from r k in subst (Has (moves_with f xs)) (move_given labels others f n s.0 r s.2) (mapped_has (move_with f) xs s.0 s.1))
      leaves ends (λ r k. let u = one.to r k in agreed r u.0 u.2) a b

pub transducer_text_once :
    {K : Type 0} (cmp : K → K → Ordering) → IsTotalOrder cmp → (scale : Scale) (labels others : List (List ℕ)) (order : List K) (xs ys : List (TransducerRule ℕ)) (start : ℕ) (h i : TransducerOf) → Distinct labels → Distinct others →
    AreOneByText labels others xs ys → EndInHoles xs → EndInHoles ys → IsCanonicalTransducer scale labels cmp order xs start h → IsCanonicalTransducer scale others cmp order ys start i → transducer_text scale labels h ≡ transducer_text scale others i
transducer_text_once cmp total scale labels others order xs ys start h i apart different one leaves ends a b =
    let s = renumbering labels others apart different in
    text_by_text labels others s.0 s.1 cmp total scale order xs ys start h i one leaves ends a b
