-- Transducers that agree by the texts of their labels have one text, and what holds of the text of
-- a transducer that can be printed.
use Rattle.tib_cost.specs.declared.Scale.{Scale}
use Rattle.std.proofs.Common.{◌≡◌, ℕ, List, [], ◌∷◌, ◌++◌, get_or, refl, ap, sym, ◌∙◌, subst, suc, Option}
use Rattle.std.specs.Prelude.{◌↔◌, Some, None, decimal}
use Rattle.std.proofs.lemmas.Option.{get_or_from_slice_get}
use Rattle.tib_lex.specs.Lists.{Along}
use Rattle.tib_tree.specs.Trees.{Tree, Trees, none, tree, count, only}
use Rattle.tib_grammar.specs.Sides.{Symbol, label, hole}
use Rattle.tib_grammar_file.specs.ByText.{HaveOneShape, HaveOneText}
use Rattle.tib_grammar_file.specs.TreeText.{opening, closing, space, trees_text}
use Rattle.tib_transducer.specs.Series.{IsTransducerSeries}
use Rattle.tib_transducer.specs.TransducerOf.{TransducerOf}
use Rattle.tib_transducer.specs.declared.Variable.{Variable}
use Rattle.tib_transducer.specs.declared.Pair.{Pair}
use Rattle.tib_transducer.specs.declared.TransducerRule.{TransducerRule}
use Rattle.tib_transducer_file.specs.ByName.{HasText, ReadsBack}
use Rattle.tib_transducer_file.specs.ByText.{AskForOneText, AreOneVariable, AgreeOnLeft, AgreeOnRight, AreOneTransducerRule, AreOneTransducer}
use Rattle.tib_transducer_file.specs.Printed.{label_text, asked_text, variable_text, pair_text, symbol_text, side_text, end_text, rule_text, rules_text, transducer_text}
use Rattle.tib_transducer_file.proofs.FileBack.{prints_back}
use Rattle.tib_canon.specs.TransducerConstructions.{HasTransducerText}
use Rattle.tib_canon.specs.TransducerLaws.{HasNamedStates}
use Rattle.tib_canon.proofs.SeriesByName.{one_series, text_states}

-- trees of one shape whose nodes are written alike

counts_alike : {A B : Type 0} (R : A → B → Type 0) (ts : Trees A) (us : Trees B) → HaveOneShape R ts us → count ts ≡ count us
counts_alike R none none h = refl
counts_alike R none (tree g below more) h = absurd h
counts_alike R (tree f kids rest) none h = absurd h
counts_alike R (tree f kids rest) (tree g below more) h = ap suc (counts_alike R rest more h.2)

node_alike :
    (k : ℕ) (a b x y z w : List ℕ) (m n : ℕ) → a ≡ b → m ≡ n → x ≡ y → z ≡ w → space k ++ (a ++ (opening m ++ (x ++ (closing m ++ z)))) ≡ space k ++ (b ++ (opening n ++ (y ++ (closing n ++ w))))
node_alike k a b x y z w m n e c g h = cc (e, c, g, h)

trees_alike :
    {P : Type 0} (R : Symbol ℕ P → Symbol ℕ P → Type 0) (one two : Symbol ℕ P → List ℕ) → ((s t : Symbol ℕ P) → R s t → one s ≡ two t) → (ts us : Trees (Symbol ℕ P)) (k : ℕ) → HaveOneShape R ts us →
    trees_text one ts k ≡ trees_text two us k
trees_alike R one two f none none k h = refl
trees_alike R one two f none (tree g below more) k h = absurd h
trees_alike R one two f (tree s kids rest) none k h = absurd h
trees_alike R one two f (tree s kids rest) (tree t below more) k h =
    node_alike k (one s) (two t) (trees_text one kids 0) (trees_text two below 0) (trees_text one rest (suc k)) (trees_text two more (suc k)) (count kids) (count below) (f s t h.0) (counts_alike R kids below h.1)
    (trees_alike R one two f kids below 0 h.1) (trees_alike R one two f rest more (suc k) h.2)

module _ (labels others : List (List ℕ)) where
  text_alike : (f g : ℕ) → HaveOneText labels others f g → get_or labels f [] ≡ get_or others g []
  text_alike f g h = get_or_from_slice_get labels f h.text [] h.first ∙ sym (get_or_from_slice_get others g h.text [] h.second)

  asked_alike : (a b : Option ℕ) → AskForOneText labels others a b → asked_text labels a ≡ asked_text others b
  asked_alike None None h = refl
  asked_alike None (Some g) h = absurd h
  asked_alike (Some f) None h = absurd h
  asked_alike (Some f) (Some g) h = ap label_text (text_alike f g h)

  variable_alike : (names : List (List ℕ)) (x y : Variable) → AreOneVariable labels others x y → variable_text names labels x ≡ variable_text names others y
  variable_alike names x y h =
      ap (λ (n : ℕ). 120 ∷ [] ++ (decimal n ++ (58 ∷ [] ++ asked_text labels x.label))) h.0
      ∙ ap (λ (t : List ℕ). 120 ∷ [] ++ (decimal y.number ++ (58 ∷ [] ++ t))) (asked_alike x.label y.label h.1)

  pair_alike : (names : List (List ℕ)) (x y : Pair ℕ) → (x.state ≡ y.state) × (x.variable ≡ y.variable) → pair_text names labels x ≡ pair_text names others y
  pair_alike names x y h =
      ap (λ (q : ℕ). get_or names q [] ++ (46 ∷ (120 ∷ []) ++ decimal x.variable)) h.0
      ∙ ap (λ (n : ℕ). get_or names y.state [] ++ (46 ∷ (120 ∷ []) ++ decimal n)) h.1

  left_alike : (names : List (List ℕ)) (s t : Symbol ℕ Variable) → AgreeOnLeft labels others s t → symbol_text (variable_text names labels) labels s ≡ symbol_text (variable_text names others) others t
  left_alike names (label f) (label g) h = ap label_text (text_alike f g h)
  left_alike names (label f) (hole y) h = absurd h
  left_alike names (hole x) (label g) h = absurd h
  left_alike names (hole x) (hole y) h = variable_alike names x y h

  right_alike : (names : List (List ℕ)) (s t : Symbol ℕ (Pair ℕ)) → AgreeOnRight labels others s t → symbol_text (pair_text names labels) labels s ≡ symbol_text (pair_text names others) others t
  right_alike names (label f) (label g) h = ap label_text (text_alike f g h)
  right_alike names (label f) (hole y) h = absurd h
  right_alike names (hole x) (label g) h = absurd h
  right_alike names (hole x) (hole y) h = pair_alike names x y h

  line_alike :
      (scale : Scale) (names : List (List ℕ)) (p q c d : ℕ) (l m x y : List ℕ) → p ≡ q → l ≡ m → x ≡ y → c ≡ d →
      get_or names p [] ++ (46 ∷ [] ++ (l ++ (32 ∷ (45 ∷ (62 ∷ (32 ∷ []))) ++ (x ++ end_text scale c)))) ≡ get_or names q [] ++ (46 ∷ [] ++ (m ++ (32 ∷ (45 ∷ (62 ∷ (32 ∷ []))) ++ (y ++ end_text scale d))))
  line_alike scale names p q c d l m x y a b e f =
      ap (λ (n : ℕ). get_or names n [] ++ (46 ∷ [] ++ (l ++ (32 ∷ (45 ∷ (62 ∷ (32 ∷ []))) ++ (x ++ end_text scale c))))) a
      ∙ ap (λ (z : List ℕ). get_or names q [] ++ (46 ∷ [] ++ (z ++ (32 ∷ (45 ∷ (62 ∷ (32 ∷ []))) ++ (x ++ end_text scale c))))) b
      ∙ ap (λ (z : List ℕ). get_or names q [] ++ (46 ∷ [] ++ (m ++ (32 ∷ (45 ∷ (62 ∷ (32 ∷ []))) ++ (z ++ end_text scale c))))) e
      ∙ ap (λ (n : ℕ). get_or names q [] ++ (46 ∷ [] ++ (m ++ (32 ∷ (45 ∷ (62 ∷ (32 ∷ []))) ++ (y ++ end_text scale n))))) f

  rule_alike : (scale : Scale) (names : List (List ℕ)) (r s : TransducerRule ℕ) → AreOneTransducerRule labels others r s → rule_text scale names labels r ≡ rule_text scale names others s
  rule_alike scale names r s h =
      line_alike scale names r.state s.state r.cost s.cost (side_text (variable_text names labels) labels r.left) (side_text (variable_text names others) others s.left)
      (side_text (pair_text names labels) labels r.right) (side_text (pair_text names others) others s.right) h.state
      (trees_alike (AgreeOnLeft labels others) (symbol_text (variable_text names labels) labels) (symbol_text (variable_text names others) others) (left_alike names) (only r.left) (only s.left) 0 h.left)
      (trees_alike (AgreeOnRight labels others) (symbol_text (pair_text names labels) labels) (symbol_text (pair_text names others) others) (right_alike names) (only r.right) (only s.right) 0 h.right) h.cost

  rules_alike :
      (scale : Scale) (names : List (List ℕ)) (rs ss : List (TransducerRule ℕ)) → Along (AreOneTransducerRule labels others) rs ss → rules_text scale names labels rs ≡ rules_text scale names others ss
  rules_alike scale names [] [] a = refl
  rules_alike scale names [] (s ∷ ss) a = absurd a
  rules_alike scale names (r ∷ rs) [] a = absurd a
  rules_alike scale names (r ∷ rs) (s ∷ ss) a =
      ap (λ (x : List ℕ). x ++ rules_text scale names labels rs) (rule_alike scale names r s a.0) ∙ ap (λ (x : List ℕ). rule_text scale names others s ++ x) (rules_alike scale names rs ss a.1)

  -- they have one text
  pub transducers_alike : (scale : Scale) (t u : TransducerOf) → AreOneTransducer labels others t u → transducer_text scale labels t ≡ transducer_text scale others u
  transducers_alike scale t u one =
      ap (λ (names : List (List ℕ)). (get_or names 0 [] ++ 10 ∷ []) ++ rules_text scale names labels t.rules) one.names
      ∙ ap (λ (x : List ℕ). (get_or u.names 0 [] ++ 10 ∷ []) ++ x) (rules_alike scale u.names t.rules u.rules one.rules)

-- a transducer that has a text has named states
pub text_named : (scale : Scale) (labels : List (List ℕ)) (t : TransducerOf) → HasText scale labels t → HasNamedStates t
text_named scale labels t h = record { start = h.start; distinct = h.names.distinct; within = h.range; leaves = h.leaves }

-- what is printed of it reads back as it, with the same series
pub text_of_one :
    (scale : Scale) (labels : List (List ℕ)) (t : TransducerOf) (IsResult : TransducerOf → Type 0) (HasSeries : List (TransducerRule ℕ) → Type 0) (product : ℕ → ℕ → ℕ) (text : List ℕ) → HasText scale labels t → IsResult t → HasSeries t.rules →
    ((rules : List (TransducerRule ℕ)) → ((x y : Tree ℕ) (v : Option ℕ) → IsTransducerSeries product t.rules x y v ↔ IsTransducerSeries product rules x y v) → HasSeries rules) → text ≡ transducer_text scale labels t →
    HasTransducerText scale labels IsResult HasSeries text
text_of_one scale labels t IsResult HasSeries product text has result series kept are =
    let read = prints_back scale labels t has in
    record {
      h = t;
      canonical = result;
      series = series;
      are = are;
      read = read.0;
      reads = subst (λ (bytes : List ℕ). ReadsBack scale labels bytes t read.0) (sym are) read.1;
      read_series = kept read.0.rules (one_series t read.0 (text_named scale labels t has) (text_states scale labels (transducer_text scale labels t) read.0 read.1.text) read.1.same product);
    }
