-- The labels of a transducer that was read are in the table.
use Rattle.tib_cost.specs.declared.Scale.{Scale}
use Rattle.std.proofs.Common.{ℕ, List, [], ◌∷◌, length, Option}
use Rattle.std.specs.Prelude.{Some, None}
use Rattle.std.proofs.lemmas.Option.{slice_get_within}
use Rattle.tib_lex.specs.Lists.{Along, Each}
use Rattle.tib_tree.specs.Trees.{preorder_of}
use Rattle.tib_grammar.specs.Sides.{Symbol, label, hole}
use Rattle.tib_transducer.specs.TransducerOf.{TransducerOf}
use Rattle.tib_transducer.specs.declared.Variable.{Variable}
use Rattle.tib_transducer.specs.declared.Pair.{Pair}
use Rattle.tib_transducer.specs.declared.TransducerRule.{TransducerRule}
use Rattle.tib_transducer_file.specs.Forms.{variable_in, pair_in}
use Rattle.tib_transducer_file.specs.Labelled.{IsAskedBelow, IsBelowOnLeft, IsBelowOnRight, HasLabelsBelow, AreLabelled}
use Rattle.tib_transducer_file.specs.Rule.{Parts, RuleLine, label_of, numbers_in}
use Rattle.tib_transducer_file.specs.TransducerText.{ReadsAs}
use Rattle.tib_transducer_file.specs.Value.{IsAsked, IsLeftSymbol, IsLeftNode, IsRootItem, IsLeftSide, IsRightSymbol, IsRightNode, IsRule}

-- what each member has by the one beside it
pub each_along : {X Y : Type 0} (R : X → Y → Type 0) (P : X → Type 0) → ((x : X) (y : Y) → R x y → P x) → (xs : List X) (ys : List Y) → Along R xs ys → Each P xs
each_along R P f [] ys h = tt
each_along R P f (x ∷ xs) [] h = absurd h
each_along R P f (x ∷ xs) (y ∷ ys) h = (f x y h.0, each_along R P f xs ys h.1)

module _ (names labels : List (List ℕ)) where
  asked_below : (a : Option ℕ) (o : Option (List ℕ)) → IsAsked labels a o → IsAskedBelow (length labels) a
  asked_below None o h = tt
  asked_below (Some f) None h = absurd h
  asked_below (Some f) (Some text) h = slice_get_within labels f text h

  left_below : (s : Symbol ℕ Variable) (o : Option (ℕ × Option (List ℕ))) (text : List ℕ) → IsLeftSymbol labels s o text → IsBelowOnLeft (length labels) s
  left_below (label f) None text h = slice_get_within labels f text h
  left_below (label f) (Some v) text h = absurd h
  left_below (hole x) None text h = absurd h
  left_below (hole x) (Some v) text h = asked_below x.label v.1 h

  root_below : (s : Symbol ℕ Variable × ℕ) (text : List ℕ) (kids : Option ℕ) → IsRootItem labels s text kids → IsBelowOnLeft (length labels) s.0
  root_below (label f, rank) text kids h = slice_get_within labels f text h.0
  root_below (hole x, rank) text kids h = absurd h

  -- the labels of a left side are in the table
  pub side_below : (ss : List (Symbol ℕ Variable × ℕ)) (p : Parts) → IsLeftSide labels ss p → Each (λ s. IsBelowOnLeft (length labels) s.0) ss
  side_below [] p h = absurd h
  side_below (s ∷ ss) p h = (
    root_below s (label_of p) p.root.kids h.0,
    each_along (IsLeftNode labels) (λ (q : Symbol ℕ Variable × ℕ). IsBelowOnLeft (length labels) q.0) (λ q i k. left_below q.0 (variable_in i) i.text k.0) ss p.below h.1,
  )

  -- and those of a right side
  pub right_below : (numbers : List ℕ) (s : Symbol ℕ (Pair ℕ)) (o : Option (List ℕ × ℕ)) (text : List ℕ) → IsRightSymbol names labels numbers s o text → IsBelowOnRight (length labels) s
  right_below numbers (label f) None text h = slice_get_within labels f text h
  right_below numbers (label f) (Some q) text h = absurd h
  right_below numbers (hole x) o text h = tt

  rule_below : (r : TransducerRule ℕ) (line : RuleLine) → IsRule names labels r line → HasLabelsBelow (length labels) r
  rule_below r line h = record {
    left = side_below (preorder_of r.left) line.parts h.left;
    right = each_along (IsRightNode names labels (numbers_in line.parts.below)) (λ (q : Symbol ℕ (Pair ℕ) × ℕ). IsBelowOnRight (length labels) q.0)
        (λ q i k. right_below (numbers_in line.parts.below) q.0 (pair_in i) i.text k.0) (preorder_of r.right) line.parts.right h.right;
  }

-- all of a transducer that was read
pub text_labelled : (scale : Scale) (labels : List (List ℕ)) (bytes : List ℕ) (t : TransducerOf) → ReadsAs scale labels bytes t → AreLabelled (length labels) t.rules
text_labelled scale labels bytes t r = each_along (IsRule t.names labels) (HasLabelsBelow (length labels)) (rule_below t.names labels) t.rules r.text.lines r.text.rules
