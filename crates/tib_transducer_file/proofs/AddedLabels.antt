-- What rules add to the table of labels.
use Rattle.std.proofs.Common.{◌≡◌, ℕ, ◌+◌, ◌-◌, ◌<◌, ◌≤◌, List, [], ◌∷◌, ◌++◌, length, get_or, drop, take, refl, ap, sym, ◌∙◌, subst, append-nil, Option}
use Rattle.std.specs.Prelude.{Some, None, Ok, Result, slice_get}
use Rattle.std.specs.Global.{Vec}
use Rattle.std.specs.List.{flat_map}
use Rattle.std.proofs.lemmas.Grind.{flat_map-append}
use Rattle.std.proofs.lemmas.Option.{get_or_from_slice_get}
use Rattle.tib_lex.specs.Lists.{Along}
use Rattle.tib_lex.specs.declared.fault.FileFault.{FileFault}
use Rattle.tib_tree.specs.Grows.{Adds, AddsAll}
use Rattle.tib_tree.specs.Shape.{items_back, item_at}
use Rattle.tib_tree.specs.Trees.{preorder_of}
use Rattle.tib_tree.specs.Written.{Item}
use Rattle.tib_tree.specs.declared.shape.Place.{Place}
use Rattle.tib_tree.proofs.NodesRead.{back_more}
use Rattle.tib_grammar.specs.Sides.{Symbol, label, hole}
use Rattle.tib_transducer.specs.declared.Variable.{Variable}
use Rattle.tib_transducer.specs.declared.Pair.{Pair}
use Rattle.tib_transducer_file.specs.declared.forms.RootToken.{RootToken}
use Rattle.tib_transducer_file.specs.Added.{asked_text, left_symbol_text, right_symbol_text, left_texts, right_texts, view_texts, rule_texts, asked_as, left_text, on_left, on_right, left_labels, labels_of, labels_in}
use Rattle.tib_transducer_file.specs.Built.{AreFileRules}
use Rattle.tib_transducer_file.specs.Forms.{variable_in, pair_in, behind_stop, written_label}
use Rattle.tib_transducer_file.specs.Found.{bytes_at, parts_with}
use Rattle.tib_transducer_file.specs.Rule.{Parts, RuleLine, label_of, numbers_in}
use Rattle.tib_transducer_file.specs.Value.{IsAsked, IsLeftSymbol, IsLeftNode, IsRootItem, IsLeftSide, IsRightSymbol, IsRightNode, IsRuleBy, RuleView, IsViewed, right_text}
use Rattle.tib_transducer_file.proofs.Backs.{last_back}
use Rattle.tib_transducer_file.proofs.SidesRead.{adds_append}
use Rattle.tib_transducer_file.proofs.VariablesUsed.{Root}

-- the texts of items, from the last place on
pub back_adds : (f : Item → List (List ℕ)) (z a b : List (List ℕ)) (line : List ℕ) (places : List Place) (i : ℕ) (d : Place) → 0 < i → i ≤ length places → AddsAll z (flat_map f (items_back line (drop i places))) a → AddsAll a (f (item_at line (get_or places (i - 1) d))) b → AddsAll z (flat_map f (items_back line (drop (i - 1) places))) b
back_adds f z a b line places i d h k all one =
    let x = item_at line (get_or places (i - 1) d) in
    let is = items_back line (drop i places) in
    subst (λ (ts : List (List ℕ)). AddsAll z ts b)
    (sym (ap (flat_map f) (back_more line places i d h k) ∙ flat_map-append f is (x ∷ []) ∙ ap (λ (ts : List (List ℕ)). flat_map f is ++ ts) (append-nil (f x))))
    (adds_append z a b (flat_map f is) (f x) all one)

-- the root of a left side, and then the others
pub left_adds : (z m b : List (List ℕ)) (line : List ℕ) (places : List Place) (root : RootToken) (d : Place) (n : ℕ) → Root line places root → n ≡ length places - 1 → Adds z (written_label (bytes_at line root.behind)) m → AddsAll m (flat_map on_left (items_back line (take n places))) b → (right : List Item) (weight : Option (List ℕ)) → AddsAll z (left_labels (parts_with (items_back line places) right weight)) b
left_adds z m b line places root d n r is first others right weight =
    let s = tails_same r.first (item_at line (get_or places (length places - 1) d)) r.below (items_back line (take (length places - 1) places)) (sym r.items ∙ last_back line places d r.some) in
    let below : items_back line (take n places) ≡ r.below = ap (λ (k : ℕ). items_back line (take k places)) is ∙ sym s in
    subst (λ (is : List Item). AddsAll z (left_labels (parts_with is right weight)) b) (sym r.items)
    (m, subst (λ (t : List ℕ). Adds z (written_label t) m) r.tokens.behind first, subst (λ (is : List Item). AddsAll m (flat_map on_left is) b) below others)
  where
    tails_same : (x y : Item) (xs ys : List Item) → x ∷ xs ≡ y ∷ ys → xs ≡ ys
    tails_same x y xs ys e = cc

right_is : (is right : List Item) (weight : Option (List ℕ)) → (parts_with is right weight).right ≡ right
right_is [] right weight = refl
right_is (i ∷ is) right weight = refl

-- a left side, and then a right side
pub sides_add : (z m b : List (List ℕ)) (left right : List Item) (weight : Option (List ℕ)) → AddsAll z (left_labels (parts_with left right weight)) m → AddsAll m (flat_map on_right right) b → AddsAll z (labels_of (parts_with left right weight)) b
sides_add z m b left right weight first others =
    adds_append z m b (left_labels (parts_with left right weight)) (flat_map on_right (parts_with left right weight).right) first
    (subst (λ (is : List Item). AddsAll m (flat_map on_right is) b) (sym (right_is left right weight)) others)

-- the texts of the labels of a rule are those in its line
module _ (names labels : List (List ℕ)) where
  asked_same : (a : Option ℕ) (o : Option (List ℕ)) → IsAsked labels a o → asked_text labels a ≡ asked_as o
  asked_same None None h = refl
  asked_same None (Some text) h = absurd h
  asked_same (Some f) None h = absurd h
  asked_same (Some f) (Some text) h = ap (λ (t : List ℕ). t ∷ []) (get_or_from_slice_get labels f text [] h)

  left_same : (s : Symbol ℕ Variable) (o : Option (ℕ × Option (List ℕ))) (text : List ℕ) → IsLeftSymbol labels s o text → left_symbol_text labels s ≡ left_text o text
  left_same (label f) None text h = ap (λ (t : List ℕ). t ∷ []) (get_or_from_slice_get labels f text [] h)
  left_same (label f) (Some v) text h = absurd h
  left_same (hole x) None text h = absurd h
  left_same (hole x) (Some v) text h = asked_same x.label v.1 h

  lefts_same : (ss : List (Symbol ℕ Variable × ℕ)) (is : List Item) → Along (IsLeftNode labels) ss is → left_texts labels ss ≡ flat_map on_left is
  lefts_same [] [] h = refl
  lefts_same [] (i ∷ is) h = absurd h
  lefts_same (s ∷ ss) [] h = absurd h
  lefts_same (s ∷ ss) (i ∷ is) h =
      ap (λ (ts : List (List ℕ)). ts ++ left_texts labels ss) (left_same s.0 (variable_in i) i.text h.0.0)
      ∙ ap (λ (ts : List (List ℕ)). on_left i ++ ts) (lefts_same ss is h.1)

  side_same : (ss : List (Symbol ℕ Variable × ℕ)) (p : Parts) → IsLeftSide labels ss p → left_texts labels ss ≡ left_labels p
  side_same [] p h = absurd h
  side_same ((label f, rank) ∷ ss) p h =
      ap (λ (t : List ℕ). t ∷ left_texts labels ss) (get_or_from_slice_get labels f (label_of p) [] h.0.0)
      ∙ ap (λ (ts : List (List ℕ)). label_of p ∷ ts) (lefts_same ss p.below h.1)
  side_same ((hole x, rank) ∷ ss) p h = absurd h.0

  right_same : (numbers : List ℕ) (s : Symbol ℕ (Pair ℕ)) (o : Option (List ℕ × ℕ)) (text : List ℕ) → IsRightSymbol names labels numbers s o text → right_symbol_text labels s ≡ right_text o text
  right_same numbers (label f) None text h = ap (λ (t : List ℕ). t ∷ []) (get_or_from_slice_get labels f text [] h)
  right_same numbers (label f) (Some q) text h = absurd h
  right_same numbers (hole x) None text h = absurd h
  right_same numbers (hole x) (Some q) text h = refl

  rights_same : (numbers : List ℕ) (ss : List (Symbol ℕ (Pair ℕ) × ℕ)) (is : List Item) → Along (IsRightNode names labels numbers) ss is → right_texts labels ss ≡ flat_map on_right is
  rights_same numbers [] [] h = refl
  rights_same numbers [] (i ∷ is) h = absurd h
  rights_same numbers (s ∷ ss) [] h = absurd h
  rights_same numbers (s ∷ ss) (i ∷ is) h =
      ap (λ (ts : List (List ℕ)). ts ++ right_texts labels ss) (right_same numbers s.0 (pair_in i) i.text h.0.0)
      ∙ ap (λ (ts : List (List ℕ)). on_right i ++ ts) (rights_same numbers ss is h.1)

  view_same : (v : RuleView) (line : RuleLine) → IsViewed names labels v line → view_texts labels v ≡ labels_of line.parts
  view_same v line h =
      ap (λ (ts : List (List ℕ)). ts ++ right_texts labels v.right) (side_same (preorder_of v.left) line.parts h.left)
      ∙ ap (λ (ts : List (List ℕ)). left_labels line.parts ++ ts) (rights_same (numbers_in line.parts.below) v.right line.parts.right h.right)

  pub rules_same : {R : Type 0} (view : R → RuleView) (rules : List R) (lines : List RuleLine) → Along (IsRuleBy view names labels) rules lines → rule_texts view labels rules ≡ labels_in lines
  rules_same view [] [] h = refl
  rules_same view [] (line ∷ lines) h = absurd h
  rules_same view (r ∷ rules) [] h = absurd h
  rules_same view (r ∷ rules) (line ∷ lines) h =
      ap (λ (ts : List (List ℕ)). ts ++ rule_texts view labels rules) (view_same (view r) line h.0)
      ∙ ap (λ (ts : List (List ℕ)). labels_of line.parts ++ ts) (rules_same view rules lines h.1)

-- the rules of a file add their labels
pub file_added : {R : Type 0} (view : R → RuleView) (before names held labels : List (List ℕ)) (rules : Vec R) (wanted : Result (List RuleLine) FileFault) → AreFileRules (IsRuleBy view) before names held labels (Ok rules) wanted → AddsAll held (rule_texts view labels rules.items) labels
file_added view before names held labels rules wanted (lines, gave, are, added, texts) =
    subst (λ (ts : List (List ℕ)). AddsAll held ts labels) (sym (rules_same names labels view rules.items lines are)) texts
