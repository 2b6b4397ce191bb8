-- A tree-to-string transducer and a string under other numbers of labels: each is the one that
-- agrees with it by text, its variables have the same restrictions, and its lists have the same
-- cuts.
use Rattle.std.proofs.Common.{◌≡◌, ℕ, ◌<◌, List, [], ◌∷◌, ◌++◌, length, map, get_or, refl, ap, sym, ◌∙◌, subst, arith}
use Rattle.std.proofs.lemmas.List.{length-map, get_or-map}
use Rattle.tib_lex.specs.Lists.{Along}
use Rattle.tib_tree.specs.Trees.{only, relabel_tree}
use Rattle.tib_tree.proofs.Counts.{tree_same}
use Rattle.tib_grammar.specs.Sides.{Side as SideFor, side_map}
use Rattle.tib_grammar_file.proofs.Renumbering.{Renumbers}
use Rattle.tib_grammar_file.proofs.Shapes.{shape_relabelled}
use Rattle.tib_transducer.specs.Rules.{variables_of}
use Rattle.tib_transducer.specs.declared.Variable.{Variable}
use Rattle.tib_transducer.specs.declared.Pair.{Pair}
use Rattle.tib_strings.specs.Rules.{no_rule, string_rule, pairs_of}
use Rattle.tib_strings.specs.declared.StringRule.{StringRule}
use Rattle.tib_strings.specs.declared.Word.{Word as Token}
use Rattle.tib_strings.specs.declared.Word.TheVariants.{Word, Hole}
use Rattle.tib_strings.specs.ByText.{AgreeOnLeft, AgreeOnRight, AreOneStringRule}
use Rattle.tib_strings.specs.RuleValue.{nodes_of}
use Rattle.tib_strings.specs.Cuts.{IsStep, IsCut, spans}
use Rattle.tib_apply.specs.Restrictions.{labels_of, all_labels, once, restricted_labels as labels_of_rules, Admits}
use Rattle.tib_image.specs.Restrictions.{as_rule, restricted_labels}
use Rattle.tib_image.specs.Parsing.{span_at, parse_key}
use Rattle.tib_canon.proofs.EdgesByText.{key_with}
use Rattle.tib_canon.proofs.Relabelled.{variable_with, left_with, left_given}
use Rattle.tib_operations.proofs.MovesByText.{moves_with, restricted_with, restriction_with, admits_to, admits_from, side_keyed}
use Rattle.tib_operations.specs.ByText.{AreOneString}

-- a rule with each label exchanged for another

abbrev pub token_with : (ℕ → ℕ) → Token ℕ → Token ℕ
token_with f (Word g) = Word (f g)
token_with f (Hole x) = Hole x

abbrev pub word_rule_with : (ℕ → ℕ) → StringRule ℕ → StringRule ℕ
word_rule_with f r = record { state = r.state; left = relabel_tree (left_with f) r.left; right = map (token_with f) r.right; cost = r.cost }

abbrev pub words_with : (ℕ → ℕ) → List (StringRule ℕ) → List (StringRule ℕ)
words_with f moves = map (word_rule_with f) moves

pub word_at : (f : ℕ → ℕ) (moves : List (StringRule ℕ)) (n : ℕ) → n < length moves → string_rule (words_with f moves) n ≡ word_rule_with f (string_rule moves n)
word_at f moves n h = get_or-map (word_rule_with f) moves n no_rule no_rule h

-- what agrees by text is one under the numbers of the other table

module _ (labels others : List (List ℕ)) (f : ℕ → ℕ) (n : Renumbers labels others f) where
  pub string_given : (s r : List ℕ) → AreOneString labels others s r → map f s ≡ r
  string_given [] [] a = refl
  string_given [] (k ∷ r) a = absurd a
  string_given (i ∷ s) [] a = absurd a
  string_given (i ∷ s) (k ∷ r) a = ap (λ (m : ℕ). m ∷ map f s) (n.gives i k a.0) ∙ ap (λ (ms : List ℕ). k ∷ ms) (string_given s r a.1)

  pair_same : (x y : Pair ℕ) → x.state ≡ y.state → x.variable ≡ y.variable → x ≡ y
  pair_same x y states variables =
      ap (λ (q : ℕ). record { state = q; variable = x.variable }) states ∙ ap (λ (v : ℕ). record { state = y.state; variable = v }) variables

  tokens_given : (ws vs : List (Token ℕ)) → Along (λ x y. AgreeOnRight labels others x.0 y.0) (nodes_of ws) (nodes_of vs) → map (token_with f) ws ≡ vs
  tokens_given [] [] a = refl
  tokens_given [] (v ∷ vs) a = absurd a
  tokens_given (w ∷ ws) [] a = absurd a
  tokens_given (Word g ∷ ws) (Word k ∷ vs) a =
      ap (λ (m : ℕ). Word m ∷ map (token_with f) ws) (n.gives g k a.0) ∙ ap (λ (ts : List (Token ℕ)). Word k ∷ ts) (tokens_given ws vs a.1)
  tokens_given (Word g ∷ ws) (Hole y ∷ vs) a = absurd a.0
  tokens_given (Hole x ∷ ws) (Word k ∷ vs) a = absurd a.0
  tokens_given (Hole x ∷ ws) (Hole y ∷ vs) a =
      ap (λ (z : Pair ℕ). Hole z ∷ map (token_with f) ws) (pair_same x y a.0.0 a.0.1) ∙ ap (λ (ts : List (Token ℕ)). Hole y ∷ ts) (tokens_given ws vs a.1)

  word_given : (r s : StringRule ℕ) → AreOneStringRule labels others r s → word_rule_with f r ≡ s
  word_given r s h =
      let left : relabel_tree (left_with f) r.left ≡ s.left =
      tree_same (relabel_tree (left_with f) r.left) s.left (shape_relabelled (AgreeOnLeft labels others) (left_with f) (left_given labels others f n) (only r.left) (only s.left) h.left)
      in
      ap (λ (q : ℕ). record { state = q; left = relabel_tree (left_with f) r.left; right = map (token_with f) r.right; cost = r.cost }) h.state
      ∙ ap (λ (l : SideFor ℕ Variable). record { state = s.state; left = l; right = map (token_with f) r.right; cost = r.cost }) left
      ∙ ap (λ (ts : List (Token ℕ)). record { state = s.state; left = s.left; right = ts; cost = r.cost }) (tokens_given r.right s.right h.right)
      ∙ ap (λ (c : ℕ). record { state = s.state; left = s.left; right = s.right; cost = c }) h.cost

  pub words_given : (rs ss : List (StringRule ℕ)) → Along (AreOneStringRule labels others) rs ss → words_with f rs ≡ ss
  words_given [] [] h = refl
  words_given [] (s ∷ ss) h = absurd h
  words_given (r ∷ rs) [] h = absurd h
  words_given (r ∷ rs) (s ∷ ss) h =
      ap (λ (x : StringRule ℕ). x ∷ words_with f rs) (word_given r s h.0) ∙ ap (λ (xs : List (StringRule ℕ)). s ∷ xs) (words_given rs ss h.1)

module _ (f : ℕ → ℕ) where
  -- the list has the same pairs, between the same places

  pub pairs_kept : (ws : List (Token ℕ)) → pairs_of (map (token_with f) ws) ≡ pairs_of ws
  pairs_kept [] = refl
  pairs_kept (Word g ∷ ws) = pairs_kept ws
  pairs_kept (Hole x ∷ ws) = ap (λ (xs : List (Pair ℕ)). x ∷ xs) (pairs_kept ws)

  spans_kept : (ws : List (Token ℕ)) (i : ℕ) (ks : List ℕ) → spans (map (token_with f) ws) i ks ≡ spans ws i ks
  spans_kept [] i ks = refl
  spans_kept (Word g ∷ ws) i [] = refl
  spans_kept (Hole x ∷ ws) i [] = refl
  spans_kept (Word g ∷ ws) i (k ∷ ks) = spans_kept ws k ks
  spans_kept (Hole x ∷ ws) i (k ∷ ks) = ap (λ (ss : List (ℕ × ℕ)). (i, k) ∷ ss) (spans_kept ws k ks)

  -- the rules read what those of the tree transducer do that reads the same
  labels_kept : (moves : List (StringRule ℕ)) → all_labels (map as_rule (words_with f moves)) ≡ all_labels (moves_with f (map as_rule moves))
  labels_kept [] = refl
  labels_kept (r ∷ rs) = ap (λ (fs : List ℕ). labels_of (variables_of (relabel_tree (left_with f) r.left)) ++ fs) (labels_kept rs)

  restricted_words : (moves : List (StringRule ℕ)) → restricted_labels (words_with f moves) ≡ labels_of_rules (moves_with f (map as_rule moves))
  restricted_words moves = ap once (labels_kept moves)

  step_to : (string : List ℕ) (w : Token ℕ) (i j : ℕ) → IsStep string w i j → IsStep (map f string) (token_with f w) i j
  step_to string (Word g) i j h = (h.0, omega (arith, h.1, length-map string f), get_or-map f string i 0 0 h.1 ∙ ap f h.2)
  step_to string (Hole x) i j h = h

  pub cut_to : (string : List ℕ) (ws : List (Token ℕ)) (i j : ℕ) (ks : List ℕ) → IsCut string ws i j ks → IsCut (map f string) (map (token_with f) ws) i j ks
  cut_to string [] i j [] h = h
  cut_to string [] i j (k ∷ ks) h = absurd h
  cut_to string (w ∷ ws) i j [] h = absurd h
  cut_to string (w ∷ ws) i j (k ∷ ks) h = (step_to string w i k h.0, cut_to string ws k j ks h.1)

  module _ (apart : (i j : ℕ) → f i ≡ f j → i ≡ j) where
    step_from : (string : List ℕ) (w : Token ℕ) (i j : ℕ) → IsStep (map f string) (token_with f w) i j → IsStep string w i j
    step_from string (Word g) i j h =
        let low : i < length string = omega (arith, h.1, length-map string f) in
        (h.0, low, apart (get_or string i 0) g (sym (get_or-map f string i 0 0 low) ∙ h.2))
    step_from string (Hole x) i j h = h

    pub cut_from : (string : List ℕ) (ws : List (Token ℕ)) (i j : ℕ) (ks : List ℕ) → IsCut (map f string) (map (token_with f) ws) i j ks → IsCut string ws i j ks
    cut_from string [] i j [] h = h
    cut_from string [] i j (k ∷ ks) h = absurd h
    cut_from string (w ∷ ws) i j [] h = absurd h
    cut_from string (w ∷ ws) i j (k ∷ ks) h = (step_from string w i k h.0, cut_from string ws k j ks h.1)

    pub words_admit : (moves : List (StringRule ℕ)) (e root : ℕ) → Admits (restricted_labels moves) e root → Admits (restricted_labels (words_with f moves)) e (f root)
    words_admit moves e root h = subst (λ (ls : List ℕ). Admits ls e (f root)) (sym (restricted_words moves)) (admits_to f apart (map as_rule moves) e root h)

    pub words_admitted : (moves : List (StringRule ℕ)) (e root : ℕ) → Admits (restricted_labels (words_with f moves)) e (f root) → Admits (restricted_labels moves) e root
    words_admitted moves e root h = admits_from f apart (map as_rule moves) e root (subst (λ (ls : List ℕ). Admits ls e (f root)) (restricted_words moves) h)

    parse_key_with : (labels : List ℕ) (pairs : List (Pair ℕ)) (ss : List (ℕ × ℕ)) (x : Variable) → parse_key (map f labels) pairs ss (variable_with f x) ≡ parse_key labels pairs ss x
    parse_key_with labels pairs ss x =
        ap (λ (e : ℕ). ((span_at x.number pairs ss).0, (span_at x.number pairs ss).1, (span_at x.number pairs ss).2, e)) (restriction_with f apart labels x.label)

    -- the left-hand side of a rule over keys
    pub parse_side :
        (moves : List (StringRule ℕ)) (r : StringRule ℕ) (i : ℕ) (ks : List ℕ) →
        side_map (parse_key (restricted_labels (words_with f moves)) (pairs_of (map (token_with f) r.right)) (spans (map (token_with f) r.right) i ks)) (relabel_tree (left_with f) r.left)
        ≡ relabel_tree (key_with f) (side_map (parse_key (restricted_labels moves) (pairs_of r.right) (spans r.right i ks)) r.left)
    parse_side moves r i ks =
        ap (λ (ls : List ℕ). side_map (parse_key ls (pairs_of (map (token_with f) r.right)) (spans (map (token_with f) r.right) i ks)) (relabel_tree (left_with f) r.left))
        (restricted_words moves ∙ restricted_with f apart (map as_rule moves))
        ∙ ap (λ (ps : List (Pair ℕ)). side_map (parse_key (map f (restricted_labels moves)) ps (spans (map (token_with f) r.right) i ks)) (relabel_tree (left_with f) r.left)) (pairs_kept r.right)
        ∙ ap (λ (ss : List (ℕ × ℕ)). side_map (parse_key (map f (restricted_labels moves)) (pairs_of r.right) ss) (relabel_tree (left_with f) r.left)) (spans_kept r.right i ks)
        ∙ side_keyed f apart (variable_with f) (parse_key (restricted_labels moves) (pairs_of r.right) (spans r.right i ks)) (parse_key (map f (restricted_labels moves)) (pairs_of r.right) (spans r.right i ks))
        (parse_key_with (restricted_labels moves) (pairs_of r.right) (spans r.right i ks)) r.left
