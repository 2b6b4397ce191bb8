-- A search that takes the first side first and tries each rule finds all choices.
use Rattle.std.specs.Prelude.{◌≡◌, ℕ, ◌<◌, ◌≤◌, List, [], ◌∷◌, ◌++◌, map, length, Bool, true, false, if◌then◌else◌, Option, None, Some, refl}
use Rattle.std.proofs.Common.{zero, suc, arith, ap, sym, ◌∙◌, inl, inr, append_assoc}
use Rattle.tib_lex.specs.Lists.{Has, Each}
use Rattle.tib_tree.specs.Trees.{Trees, none, tree, count, join, first_trees, other_trees, first-join, other-join, join_parts, join-none}
use Rattle.tib_grammar.specs.Sides.{Symbol, label, hole, holes_of}
use Rattle.tib_cost.specs.Semiring.{ProductLaws}
use Rattle.tib_transducer.specs.Rules.{transducer_rule, states_in, variables_in}
use Rattle.tib_transducer.specs.Run.{tree_at, pick}
use Rattle.tib_transducer.specs.Range.{AreShaped}
use Rattle.tib_key_edges.specs.Translations.{AreTranslations, choice_cost}
use Rattle.tib_key_edges.specs.Choices.{all_joins, joined, reads_label, by_rules, choices_at, choices_of}
use Rattle.tib_key_edges.specs.Completions.{completions, under, rule_by_rule, SearchGoes}
use Rattle.tib_transducer.specs.declared.Pair.{Pair}
use Rattle.tib_transducer.specs.declared.TransducerRule.{TransducerRule}
use Rattle.tib_key_edges.proofs.Filling.{one_of}
use Rattle.tib_key_edges.proofs.Permuted.{tree_at-one, pick-count}
use Rattle.std.proofs.lemmas.List.{length-map, map-append}
use Rattle.tib_key_edges.proofs.Choosing.{tell_all, tell_joined, within_sides}

-- joins

joins_append : {A : Type 0} (cs ds es : List (Trees A)) → all_joins (cs ++ ds) es ≡ all_joins cs es ++ all_joins ds es
joins_append [] ds es = refl
joins_append (c ∷ cs) ds es = ap (λ z. map (join c) es ++ z) (joins_append cs ds es) ∙ sym (append_assoc (map (join c) es) (all_joins cs es) (all_joins ds es))

join_again : {A : Type 0} (b c d : Trees A) → join (join b c) d ≡ join b (join c d)
join_again none c d = refl
join_again (tree f kids rest) c d = ap (tree f kids) (join_again rest c d)

map_join : {A : Type 0} (b c : Trees A) (es : List (Trees A)) → map (join (join b c)) es ≡ map (join b) (map (join c) es)
map_join b c [] = refl
map_join b c (e ∷ es) = ap (λ z. z ∷ map (join (join b c)) es) (join_again b c e) ∙ ap (λ z. join b (join c e) ∷ z) (map_join b c es)

joins_map : {A : Type 0} (b : Trees A) (cs es : List (Trees A)) → all_joins (map (join b) cs) es ≡ map (join b) (all_joins cs es)
joins_map b [] es = refl
joins_map b (c ∷ cs) es =
    ap (λ z. z ++ all_joins (map (join b) cs) es) (map_join b c es)
    ∙ ap (λ z. map (join b) (map (join c) es) ++ z) (joins_map b cs es)
    ∙ sym (map-append (join b) (map (join c) es) (all_joins cs es))

joins_again : {A : Type 0} (bs cs es : List (Trees A)) → all_joins (all_joins bs cs) es ≡ all_joins bs (all_joins cs es)
joins_again [] cs es = refl
joins_again (b ∷ bs) cs es =
    joins_append (map (join b) cs) (all_joins bs cs) es
    ∙ ap (λ z. z ++ all_joins (all_joins bs cs) es) (joins_map b cs es)
    ∙ ap (λ z. map (join b) (all_joins cs es) ++ z) (joins_again bs cs es)

map_none : {A : Type 0} (es : List (Trees A)) → map (join none) es ++ [] ≡ es
map_none [] = refl
map_none (e ∷ es) = ap (λ z. e ∷ z) (map_none es)

-- choices of several sides

module _ {P : Type 0} (two : List (TransducerRule ℕ)) where
  completions_join : (s t : Trees (Symbol ℕ P)) (ps qs : List ℕ) → count s ≡ length ps → completions two (join s t) (ps ++ qs) ≡ all_joins (completions two s ps) (completions two t qs)
  completions_join none t [] qs e = sym (map_none (completions two t qs))
  completions_join none t (p ∷ ps) qs e = absurd (omega arith)
  completions_join (tree s kids rest) t [] qs e = absurd (omega arith)
  completions_join (tree (hole x) kids rest) t (p ∷ ps) qs e =
      ap (all_joins (tree None none none ∷ [])) (completions_join rest t ps qs (omega arith))
      ∙ sym (joins_again (tree None none none ∷ []) (completions two rest ps) (completions two t qs))
  completions_join (tree (label f) kids rest) t (p ∷ ps) qs e =
      ap (all_joins (by_rules two (λ i q. choices_at two kids i q) p f (count kids) (length two))) (completions_join rest t ps qs (omega arith))
      ∙ sym (joins_again (by_rules two (λ i q. choices_at two kids i q) p f (count kids) (length two)) (completions two rest ps) (completions two t qs))

  -- the choices at a place are those of the side there
  choices_there : (sides : Trees (Symbol ℕ P)) (i p : ℕ) → i < count sides → choices_at two sides i p ≡ choices_at two (tree_at sides i) 0 p
  choices_there none i p h = absurd (omega arith)
  choices_there (tree (hole x) kids rest) zero p h = refl
  choices_there (tree (label f) kids rest) zero p h = refl
  choices_there (tree (hole x) kids rest) (suc i) p h = choices_there rest i p (omega arith)
  choices_there (tree (label f) kids rest) (suc i) p h = choices_there rest i p (omega arith)

  choices_alone : (s : Symbol ℕ P) (kids rest : Trees (Symbol ℕ P)) (p : ℕ) → choices_at two (tree s kids rest) 0 p ≡ choices_at two (tree s kids none) 0 p
  choices_alone (hole x) kids rest p = refl
  choices_alone (label f) kids rest p = refl

  joined_completions :
      (sides : Trees (Symbol ℕ P)) (xs : List (Pair ℕ)) → Each (λ i. i < count sides) (map (λ x. x.variable) xs) →
      joined (λ i q. choices_at two sides i q) xs ≡ completions two (pick sides (map (λ x. x.variable) xs)) (map (λ x. x.state) xs)
  joined_completions sides [] h = refl
  joined_completions sides (x ∷ xs) h =
      let s = one_of (tree_at sides x.variable) (tree_at-one sides x.variable h.0) in
      let others : Trees (Symbol ℕ P) = pick sides (map (λ y. y.variable) xs) in
      let states : List ℕ = map (λ y. y.state) xs in
      ap (λ z. all_joins z (joined (λ i q. choices_at two sides i q) xs)) (choices_there sides x.variable x.state h.0 ∙ ap (λ z. choices_at two z 0 x.state) s.1 ∙ sym (choices_alone s.0.label s.0.kids others x.state))
      ∙ ap (all_joins (choices_at two (tree s.0.label s.0.kids others) 0 x.state)) (joined_completions sides xs h.1)
      ∙ ap (λ z. completions two (join z others) (x.state ∷ states)) (sym s.1)

  count-choice : (choice : Trees (Option ℕ)) (ps : List ℕ) (sides : Trees (Symbol ℕ P)) → AreTranslations two ps sides choice → count choice ≡ length ps
  count-choice none [] none t = refl
  count-choice none [] (tree s kids rest) t = absurd t
  count-choice none (p ∷ ps) none t = absurd t
  count-choice none (p ∷ ps) (tree s kids rest) t = absurd t
  count-choice (tree c below more) [] none t = absurd t
  count-choice (tree c below more) [] (tree s kids rest) t = absurd t
  count-choice (tree c below more) (p ∷ ps) none t = absurd t
  count-choice (tree None none more) (p ∷ ps) (tree (hole x) kids rest) t = ap suc (count-choice more ps rest t)
  count-choice (tree None (tree d b m) more) (p ∷ ps) (tree (hole x) kids rest) t = absurd t
  count-choice (tree (Some n) below more) (p ∷ ps) (tree (hole x) kids rest) t = absurd t
  count-choice (tree None below more) (p ∷ ps) (tree (label f) kids rest) t = absurd t
  count-choice (tree (Some n) below more) (p ∷ ps) (tree (label f) kids rest) t = ap suc (count-choice more ps rest t.4)

-- a rule over each choice of its pairs, before others
under_joins : (m k : ℕ) (cs es : List (Trees (Option ℕ))) → ((c : Trees (Option ℕ)) → Has cs c → count c ≡ k) → all_joins (map (λ below. tree (Some m) below none) cs) es ≡ map (under m k) (all_joins cs es)
under_joins m k [] es long = refl
under_joins m k (c ∷ cs) es long =
    ap (λ z. map (join (tree (Some m) c none)) es ++ z) (under_joins m k cs es (λ d h. long d (inr h)))
    ∙ ap (λ z. z ++ map (under m k) (all_joins cs es)) (each es)
    ∙ sym (map-append (under m k) (map (join c) es) (all_joins cs es))
  where
    one : (e : Trees (Option ℕ)) → tree (Some m) c e ≡ under m k (join c e)
    one e =
        let n : count c ≡ k = long c (inl refl) in
        ap (λ z. tree (Some m) z e) (sym (first-join c e)) ∙ ap (tree (Some m) (first_trees (count c) (join c e))) (sym (other-join c e))
        ∙ ap (λ z. tree (Some m) (first_trees z (join c e)) (other_trees z (join c e))) n

    each : (es : List (Trees (Option ℕ))) → map (join (tree (Some m) c none)) es ≡ map (under m k) (map (join c) es)
    each [] = refl
    each (e ∷ es) = ap (λ z. z ∷ map (join (tree (Some m) c none)) es) (one e) ∙ ap (λ z. under m k (join c e) ∷ z) (each es)

if_same : {A : Type 0} (b : Bool) (xs ys : List A) → (b ≡ true → xs ≡ ys) → (if b then xs else []) ≡ (if b then ys else [])
if_same true xs ys f = f refl
if_same false xs ys f = refl

if_joins : {A : Type 0} (b : Bool) (cs es : List (Trees A)) → all_joins (if b then cs else []) es ≡ (if b then all_joins cs es else [])
if_joins true cs es = refl
if_joins false cs es = refl

module _ (two : List (TransducerRule ℕ)) (shaped : AreShaped two) (p f : ℕ) (kids rest : Trees (Symbol ℕ (Pair ℕ))) (ps : List ℕ) where
  by_rule : (m : ℕ) → m ≤ length two → all_joins (by_rules two (λ i q. choices_at two kids i q) p f (count kids) m) (completions two rest ps) ≡ rule_by_rule two p f kids rest ps m
  by_rule zero h = refl
  by_rule (suc m) h =
      joins_append (by_rules two (λ i q. choices_at two kids i q) p f (count kids) m)
      (if reads_label p f (count kids) (transducer_rule two m) then map (λ below. tree (Some m) below none) (joined (λ i q. choices_at two kids i q) (holes_of (transducer_rule two m).right)) else [])
      (completions two rest ps)
      ∙ ap (λ z. z ++ all_joins (if reads_label p f (count kids) (transducer_rule two m) then map (λ below. tree (Some m) below none) (joined (λ i q. choices_at two kids i q) (holes_of (transducer_rule two m).right)) else []) (completions two rest ps)) (by_rule m (omega arith))
      ∙ ap (λ z. rule_by_rule two p f kids rest ps m ++ z)
      (if_joins (reads_label p f (count kids) (transducer_rule two m)) (map (λ below. tree (Some m) below none) (joined (λ i q. choices_at two kids i q) (holes_of (transducer_rule two m).right))) (completions two rest ps)
      ∙ if_same (reads_label p f (count kids) (transducer_rule two m))
      (all_joins (map (λ below. tree (Some m) below none) (joined (λ i q. choices_at two kids i q) (holes_of (transducer_rule two m).right))) (completions two rest ps))
      (map (under m (length (states_in (transducer_rule two m).right))) (completions two (join (pick kids (variables_in (transducer_rule two m).right)) rest) (states_in (transducer_rule two m).right ++ ps)))
      one_rule)
    where
      one_rule :
          reads_label p f (count kids) (transducer_rule two m) ≡ true →
          all_joins (map (λ below. tree (Some m) below none) (joined (λ i q. choices_at two kids i q) (holes_of (transducer_rule two m).right))) (completions two rest ps)
          ≡ map (under m (length (states_in (transducer_rule two m).right))) (completions two (join (pick kids (variables_in (transducer_rule two m).right)) rest) (states_in (transducer_rule two m).right ++ ps))
      one_rule e =
          let within = within_sides two shaped p f kids m (omega arith) e in
          let told = tell_joined two kids (λ i q. choices_at two kids i q) (tell_all two shaped kids) (holes_of (transducer_rule two m).right) within in
          let as_many : count (pick kids (variables_in (transducer_rule two m).right)) ≡ length (states_in (transducer_rule two m).right) =
          pick-count kids (variables_in (transducer_rule two m).right) within ∙ length-map (holes_of (transducer_rule two m).right) (λ x. x.variable) ∙ sym (length-map (holes_of (transducer_rule two m).right) (λ x. x.state))
          in
          under_joins m (length (states_in (transducer_rule two m).right)) (joined (λ i q. choices_at two kids i q) (holes_of (transducer_rule two m).right)) (completions two rest ps)
          (λ c h. count-choice two c (states_in (transducer_rule two m).right) (pick kids (variables_in (transducer_rule two m).right)) (told.to c h))
          ∙ ap (λ z. map (under m (length (states_in (transducer_rule two m).right))) (all_joins z (completions two rest ps))) (joined_completions two kids (holes_of (transducer_rule two m).right) within)
          ∙ ap (map (under m (length (states_in (transducer_rule two m).right))))
          (sym (completions_join two (pick kids (variables_in (transducer_rule two m).right)) rest (states_in (transducer_rule two m).right) ps as_many))

module _ {levelled weighted : Bool} {product : ℕ → ℕ → ℕ} (laws : ProductLaws levelled weighted product) (two : List (TransducerRule ℕ)) where
  -- the cost of two choices side by side
  pub cost_join : (c d : Trees (Option ℕ)) → choice_cost product two (join c d) ≡ product (choice_cost product two c) (choice_cost product two d)
  cost_join none d = sym (laws.neutral (choice_cost product two d))
  cost_join (tree None below more) d = cost_join more d
  cost_join (tree (Some n) below more) d =
      ap (product (product (transducer_rule two n).cost (choice_cost product two below))) (cost_join more d)
      ∙ sym (laws.regroups (product (transducer_rule two n).cost (choice_cost product two below)) (choice_cost product two more) (choice_cost product two d))

  cost_under : (m k : ℕ) (c : Trees (Option ℕ)) → choice_cost product two (under m k c) ≡ product (transducer_rule two m).cost (choice_cost product two c)
  cost_under m k c =
      laws.regroups (transducer_rule two m).cost (choice_cost product two (first_trees k c)) (choice_cost product two (other_trees k c))
      ∙ ap (product (transducer_rule two m).cost) (sym (cost_join (first_trees k c) (other_trees k c)) ∙ ap (choice_cost product two) (join_parts k c))

  map_pair : (es : List (Trees (Option ℕ))) → map (join (tree None none none)) es ++ [] ≡ map (tree None none) es
  map_pair [] = refl
  map_pair (e ∷ es) = ap (λ z. tree None none e ∷ z) (map_pair es)

  joins_nothing : (cs : List (Trees (Option ℕ))) → all_joins cs (none ∷ []) ≡ cs
  joins_nothing [] = refl
  joins_nothing (c ∷ cs) = ap (λ z. z ∷ all_joins cs (none ∷ [])) (join-none c) ∙ ap (λ z. c ∷ z) (joins_nothing cs)

  -- the search does what is claimed
  pub search_goes : AreShaped two → SearchGoes product two
  search_goes shaped = record {
    one_side = λ p s. joins_nothing (choices_of two p s);
    at_pair = λ x kids rest p ps. map_pair (completions two rest ps);
    at_label = λ f kids rest p ps. by_rule two shaped p f kids rest ps (length two) (omega arith);
    costs = λ m k c. cost_under m k c;
  }
