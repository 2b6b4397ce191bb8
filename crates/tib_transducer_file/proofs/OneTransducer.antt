-- Bytes are the text of at most one transducer over one table of distinct labels.
use Rattle.tib_cost.specs.declared.Scale.{Scale}
use Rattle.std.proofs.Common.{◌≡◌, ℕ, List, [], ◌∷◌, refl, ap, ◌∙◌, Option}
use Rattle.std.specs.Prelude.{Some, None}
use Rattle.tib_lex.specs.Lists.{Along, Distinct}
use Rattle.tib_tree.specs.Trees.{Tree, Trees, none, tree, only}
use Rattle.tib_grammar.specs.Sides.{Symbol, label, hole}
use Rattle.tib_grammar_file.specs.ByText.{HaveOneShape, HaveOneText}
use Rattle.tib_grammar_file.proofs.OneGrammar.{number_same}
use Rattle.tib_transducer.specs.TransducerOf.{TransducerOf}
use Rattle.tib_transducer.specs.declared.Variable.{Variable}
use Rattle.tib_transducer.specs.declared.Pair.{Pair}
use Rattle.tib_transducer.specs.declared.TransducerRule.{TransducerRule}
use Rattle.tib_transducer_file.specs.TransducerText.{ReadsAs}
use Rattle.tib_transducer_file.specs.ByText.{AskForOneText, AreOneVariable, AgreeOnLeft, AgreeOnRight, AreOneTransducerRule}
use Rattle.tib_transducer_file.proofs.OneByText.{one_by_text, pair_same}

-- trees of one shape whose nodes are the same are the same
pub shape_same : {A : Type 0} (R : A → A → Type 0) → ((x y : A) → R x y → x ≡ y) → (ts us : Trees A) → HaveOneShape R ts us → ts ≡ us
shape_same R same none none h = refl
shape_same R same none (tree g below more) h = absurd h
shape_same R same (tree f kids rest) none h = absurd h
shape_same {A} R same (tree f kids rest) (tree g below more) h =
    ap (λ (x : A). tree x kids rest) (same f g h.0)
    ∙ ap (λ (x : Trees A). tree g x rest) (shape_same R same kids below h.1)
    ∙ ap (λ (x : Trees A). tree g below x) (shape_same R same rest more h.2)

-- and so are sides
pub side_same : {A : Type 0} (s t : Tree A) → only s ≡ only t → s ≡ t
side_same {A} s t e =
    let o : tree s.label s.kids none ≡ tree t.label t.kids none = e in
    let a : s.label ≡ t.label = cc in
    let b : s.kids ≡ t.kids = cc in
    ap (λ (l : A). record { label = l; kids = s.kids }) a ∙ ap (λ (k : Trees A). record { label = t.label; kids = k }) b

module _ (labels : List (List ℕ)) (apart : Distinct labels) where
  -- labels with one text are the same
  pub label_same : (f g : ℕ) → HaveOneText labels labels f g → f ≡ g
  label_same f g h = number_same labels f g h.text apart h.first h.second

  asked_same : (a b : Option ℕ) → AskForOneText labels labels a b → a ≡ b
  asked_same None None h = refl
  asked_same None (Some g) h = absurd h
  asked_same (Some f) None h = absurd h
  asked_same (Some f) (Some g) h = ap (λ (n : ℕ). Some n) (label_same f g h)

  variable_same : (x y : Variable) → AreOneVariable labels labels x y → x ≡ y
  variable_same x y h =
      ap (λ (n : ℕ). record { number = n; label = x.label }) h.0
      ∙ ap (λ (a : Option ℕ). record { number = y.number; label = a }) (asked_same x.label y.label h.1)

  -- nodes of left sides that agree are the same
  pub left_same : (r s : Symbol ℕ Variable) → AgreeOnLeft labels labels r s → r ≡ s
  left_same (label f) (label g) h = ap label (label_same f g h)
  left_same (label f) (hole y) h = absurd h
  left_same (hole x) (label g) h = absurd h
  left_same (hole x) (hole y) h = ap hole (variable_same x y h)

  right_same : (r s : Symbol ℕ (Pair ℕ)) → AgreeOnRight labels labels r s → r ≡ s
  right_same (label f) (label g) h = ap label (label_same f g h)
  right_same (label f) (hole y) h = absurd h
  right_same (hole x) (label g) h = absurd h
  right_same (hole x) (hole y) h = ap hole (pair_same x y h.0 h.1)

  rule_same : (r s : TransducerRule ℕ) → AreOneTransducerRule labels labels r s → r ≡ s
  rule_same r s h =
      let left = side_same r.left s.left (shape_same (AgreeOnLeft labels labels) left_same (only r.left) (only s.left) h.left) in
      let right = side_same r.right s.right (shape_same (AgreeOnRight labels labels) right_same (only r.right) (only s.right) h.right) in
      ap (λ (q : ℕ). record { state = q; left = r.left; right = r.right; cost = r.cost }) h.state
      ∙ ap (λ (l : Tree (Symbol ℕ Variable)). record { state = s.state; left = l; right = r.right; cost = r.cost }) left
      ∙ ap (λ (l : Tree (Symbol ℕ (Pair ℕ))). record { state = s.state; left = s.left; right = l; cost = r.cost }) right
      ∙ ap (λ (n : ℕ). record { state = s.state; left = s.left; right = s.right; cost = n }) h.cost

-- rules that agree are the same, if each of two that agree are
pub rules_same : {R : Type 0} (One : R → R → Type 0) → ((r s : R) → One r s → r ≡ s) → (rs ss : List R) → Along One rs ss → rs ≡ ss
rules_same One same [] [] h = refl
rules_same One same [] (s ∷ ss) h = absurd h
rules_same One same (r ∷ rs) [] h = absurd h
rules_same {R = R} One same (r ∷ rs) (s ∷ ss) h = ap (λ (x : R). x ∷ rs) (same r s h.0) ∙ ap (λ (xs : List R). s ∷ xs) (rules_same One same rs ss h.1)

-- transducers of one text are the same
pub one_transducer :
    (scale : Scale) (labels : List (List ℕ)) (bytes : List ℕ) (t u : TransducerOf) → Distinct labels → ReadsAs scale labels bytes t → ReadsAs scale labels bytes u → t ≡ u
one_transducer scale labels bytes t u apart r q =
    let a = one_by_text scale labels labels bytes t u r q in
    ap (λ (ns : List (List ℕ)). record { names = ns; rules = t.rules }) a.names
    ∙ ap (λ (rs : List (TransducerRule ℕ)). record { names = u.names; rules = rs }) (rules_same (AreOneTransducerRule labels labels) (rule_same labels apart) t.rules u.rules a.rules)
