-- A search that outputs one piece after another finds the results of all choices.
use Rattle.std.specs.Prelude.{◌≡◌, ℕ, ◌<◌, ◌≤◌, List, [], ◌∷◌, ◌++◌, map, length, Bool, true, false, if◌then◌else◌, Option, None, Some, refl}
use Rattle.std.proofs.Common.{zero, suc, arith, ap, sym, ◌∙◌, subst, inl, inr, append_assoc}
use Rattle.std.proofs.lemmas.List.{length-map, map-append}
use Rattle.tib_lex.specs.Lists.{Has, Each}
use Rattle.tib_lex.proofs.Lists.{append_nil}
use Rattle.tib_tree.specs.Trees.{Trees, none, tree, only, count, join, first_trees, other_trees, preorder, preorder_of, first_of}
use Rattle.tib_grammar.specs.Sides.{Symbol, label, hole, holes, holes_of, HolesAreLeaves}
use Rattle.tib_cost.specs.Semiring.{ProductLaws}
use Rattle.tib_cost.proofs.Times.{product-zero}
use Rattle.tib_transducer.specs.Rules.{transducer_rule, states_in, variables_in}
use Rattle.tib_transducer.specs.Run.{tree_at, pick}
use Rattle.tib_transducer.specs.Range.{AreShaped}
use Rattle.tib_transducer.specs.declared.Pair.{Pair}
use Rattle.tib_transducer.specs.declared.TransducerRule.{TransducerRule}
use Rattle.tib_key_edges.specs.Translations.{AreTranslations, translated, choice_cost}
use Rattle.tib_key_edges.specs.Choices.{choices_at, reads_label}
use Rattle.tib_key_edges.specs.Completions.{completions, under, rule_by_rule}
use Rattle.tib_key_edges.specs.Flat.{substituted}
use Rattle.tib_key_edges.specs.Pieces.{Piece, put, read, sides_of, states_of, template_of, Result, pieces_of, result_of, results, results_by, GoesByPieces}
use Rattle.tib_key_edges.proofs.Permuted.{tree_at-one, pick-count}
use Rattle.tib_key_edges.proofs.Choosing.{has_joins, choice_join, tell_all, within_sides, reads_over}
use Rattle.tib_key_edges.proofs.Searching.{search_goes}
use Rattle.tib_key_edges.proofs.Flattened.{search_puts_out}

map_same : {A B : Type 0} (f g : A → B) (xs : List A) → ((x : A) → Has xs x → f x ≡ g x) → map f xs ≡ map g xs
map_same f g [] h = refl
map_same f g (x ∷ xs) h = ap (λ y. y ∷ map f xs) (h x (inl refl)) ∙ ap (λ ys. g x ∷ ys) (map_same f g xs (λ y k. h y (inr k)))

map_twice : {A B C : Type 0} (f : B → C) (g : A → B) (xs : List A) → map f (map g xs) ≡ map (λ x. f (g x)) xs
map_twice f g [] = refl
map_twice f g (x ∷ xs) = ap (λ ys. f (g x) ∷ ys) (map_twice f g xs)

-- the pairs in a preorder
abbrev holes_at : List (Symbol ℕ (Pair ℕ) × ℕ) → List (Pair ℕ)
holes_at [] = []
holes_at ((label f, n) ∷ xs) = holes_at xs
holes_at ((hole x, n) ∷ xs) = x ∷ holes_at xs

holes_at-append : (xs ys : List (Symbol ℕ (Pair ℕ) × ℕ)) → holes_at (xs ++ ys) ≡ holes_at xs ++ holes_at ys
holes_at-append [] ys = refl
holes_at-append ((label f, n) ∷ xs) ys = holes_at-append xs ys
holes_at-append ((hole x, n) ∷ xs) ys = ap (λ zs. x ∷ zs) (holes_at-append xs ys)

holes_at-preorder : (s : Trees (Symbol ℕ (Pair ℕ))) → HolesAreLeaves s → holes_at (preorder s) ≡ holes s
holes_at-preorder none h = refl
holes_at-preorder (tree (label f) kids rest) h =
    holes_at-append (preorder kids) (preorder rest) ∙ ap (λ zs. zs ++ holes_at (preorder rest)) (holes_at-preorder kids h.0) ∙ ap (λ zs. holes kids ++ zs) (holes_at-preorder rest h.1)
holes_at-preorder (tree (hole x) none rest) h = ap (λ zs. x ∷ zs) (holes_at-preorder rest h)
holes_at-preorder (tree (hole x) (tree s k m) rest) h = absurd h

-- the pieces of a right-hand side, before others

pieces-states : (xs : List (Symbol ℕ (Pair ℕ) × ℕ)) (kids : Trees (Symbol ℕ (Pair ℕ))) (ws : List Piece) → states_of (pieces_of xs kids ++ ws) ≡ map (λ x. x.state) (holes_at xs) ++ states_of ws
pieces-states [] kids ws = refl
pieces-states ((label f, n) ∷ xs) kids ws = pieces-states xs kids ws
pieces-states ((hole x, n) ∷ xs) kids ws = ap (λ zs. x.state ∷ zs) (pieces-states xs kids ws)

one_side : (ts rest : Trees (Symbol ℕ (Pair ℕ))) → count ts ≡ 1 → tree (first_of (label 0) ts).label (first_of (label 0) ts).kids rest ≡ join ts rest
one_side none rest e = absurd (omega arith)
one_side (tree s kids none) rest e = refl
one_side (tree s kids (tree f k m)) rest e = absurd (omega arith)

pieces-sides :
    (xs : List (Symbol ℕ (Pair ℕ) × ℕ)) (kids : Trees (Symbol ℕ (Pair ℕ))) (ws : List Piece) → Each (λ i. i < count kids) (map (λ x. x.variable) (holes_at xs)) →
    sides_of (pieces_of xs kids ++ ws) ≡ join (pick kids (map (λ x. x.variable) (holes_at xs))) (sides_of ws)
pieces-sides [] kids ws h = refl
pieces-sides ((label f, n) ∷ xs) kids ws h = pieces-sides xs kids ws h
pieces-sides ((hole x, n) ∷ xs) kids ws h =
    one_side (tree_at kids x.variable) (sides_of (pieces_of xs kids ++ ws)) (tree_at-one kids x.variable h.0)
    ∙ ap (join (tree_at kids x.variable)) (pieces-sides xs kids ws h.1)
    ∙ sym (join_again (tree_at kids x.variable) (pick kids (map (λ x. x.variable) (holes_at xs))) (sides_of ws))
  where
    join_again : (b c d : Trees (Symbol ℕ (Pair ℕ))) → join (join b c) d ≡ join b (join c d)
    join_again none c d = refl
    join_again (tree f k rest) c d = ap (tree f k) (join_again rest c d)

pieces-template :
    (xs : List (Symbol ℕ (Pair ℕ) × ℕ)) (kids : Trees (Symbol ℕ (Pair ℕ))) (ws : List Piece) (us : Trees (Symbol ℕ (Pair (ℕ × ℕ)))) →
    substituted (xs ++ template_of ws) us ≡ substituted (template_of (pieces_of xs kids ++ ws)) us
pieces-template [] kids ws us = refl
pieces-template ((label f, n) ∷ xs) kids ws us = ap (λ zs. (label f, n) ∷ zs) (pieces-template xs kids ws us)
pieces-template ((hole x, n) ∷ xs) kids ws none = refl
pieces-template ((hole x, n) ∷ xs) kids ws (tree s below us) = ap (λ zs. (s, count below) ∷ (preorder below ++ zs)) (pieces-template xs kids ws us)

-- choices of several sides

module _ (two : List (TransducerRule ℕ)) (shaped : AreShaped two) where
  -- what is listed are choices
  completions_are : (sides : Trees (Symbol ℕ (Pair ℕ))) (ps : List ℕ) (c : Trees (Option ℕ)) → Has (completions two sides ps) c → AreTranslations two ps sides c
  completions_are none [] c h = elim h [ inl e ↦ subst (AreTranslations {P = Pair ℕ} two [] none) e tt | inr a ↦ absurd a ]
  completions_are none (p ∷ ps) c h = absurd h
  completions_are (tree s kids rest) [] c h = absurd h
  completions_are (tree s kids rest) (p ∷ ps) c h =
      let k = has_joins (choices_at two (tree s kids rest) 0 p) (completions two rest ps) c h in
      let first = (tell_all two shaped (tree s kids rest)).to 0 p k.0 (omega arith) k.2 in
      subst (AreTranslations two (p ∷ ps) (tree s kids rest)) k.4 (choice_join two p ps s kids rest k.0 k.1 first (completions_are rest ps k.1 k.3))

  -- choices of the first sides and of the others
  split_choice :
      (ps qs : List ℕ) (s t : Trees (Symbol ℕ (Pair ℕ))) (c : Trees (Option ℕ)) → count s ≡ length ps → AreTranslations two (ps ++ qs) (join s t) c →
      AreTranslations two ps s (first_trees (length ps) c) × AreTranslations two qs t (other_trees (length ps) c)
  split_choice [] qs none t c e a = (tt, a)
  split_choice [] qs (tree s kids rest) t c e a = absurd (omega arith)
  split_choice (p ∷ ps) qs none t c e a = absurd (omega arith)
  split_choice (p ∷ ps) qs (tree s kids rest) t none e a = absurd a
  split_choice (p ∷ ps) qs (tree (hole x) kids rest) t (tree None none more) e a = split_choice ps qs rest t more (omega arith) a
  split_choice (p ∷ ps) qs (tree (hole x) kids rest) t (tree None (tree d b m) more) e a = absurd a
  split_choice (p ∷ ps) qs (tree (hole x) kids rest) t (tree (Some n) below more) e a = absurd a
  split_choice (p ∷ ps) qs (tree (label f) kids rest) t (tree None below more) e a = absurd a
  split_choice (p ∷ ps) qs (tree (label f) kids rest) t (tree (Some n) below more) e a =
      let r = split_choice ps qs rest t more (omega arith) a.4 in
      ((a.0, a.1, a.2, a.3, r.0), r.1)

module _ {levelled weighted : Bool} {product : ℕ → ℕ → ℕ} (laws : ProductLaws levelled weighted product)
    (two : List (TransducerRule ℕ)) (shaped : AreShaped two) (leaves : (m : ℕ) → m < length two → HolesAreLeaves (only (transducer_rule two m).right)) where
  at_end : (cost : ℕ) (done : List (Symbol ℕ (Pair (ℕ × ℕ)) × ℕ)) → results product two cost done [] ≡ (cost, done) ∷ []
  at_end cost done = ap (λ z. (z, done ++ []) ∷ []) (product-zero laws cost) ∙ ap (λ z. (cost, z) ∷ []) (append_nil done)

  at_put : (cost : ℕ) (done : List (Symbol ℕ (Pair (ℕ × ℕ)) × ℕ)) (f n : ℕ) (ws : List Piece) → results product two cost done (put f n ∷ ws) ≡ results product two cost (done ++ (label f, n) ∷ []) ws
  at_put cost done f n ws =
      map_same (result_of product two cost done (put f n ∷ ws)) (result_of product two cost (done ++ (label f, n) ∷ []) ws) (completions two (sides_of ws) (states_of ws))
      (λ c h. ap (λ z. (product cost (choice_cost product two c), z)) (sym (append_assoc done ((label f, n) ∷ []) (substituted (template_of ws) (translated two (states_of ws) (sides_of ws) c)))))

  at_pair :
      (cost : ℕ) (done : List (Symbol ℕ (Pair (ℕ × ℕ)) × ℕ)) (x : Pair ℕ) (kids : Trees (Symbol ℕ (Pair ℕ))) (p : ℕ) (ws : List Piece) →
      results product two cost done (read (record { label = hole x; kids = kids }) p ∷ ws)
      ≡ results product two cost (done ++ (hole (record { state = (x.state, p); variable = x.variable }), 0) ∷ []) ws
  at_pair cost done x kids p ws =
      ap (map (result_of product two cost done (read (record { label = hole x; kids = kids }) p ∷ ws))) ((search_goes laws two shaped).at_pair x kids (sides_of ws) p (states_of ws))
      ∙ map_twice (result_of product two cost done (read (record { label = hole x; kids = kids }) p ∷ ws)) (tree None none) (completions two (sides_of ws) (states_of ws))
      ∙ map_same
      (λ c. result_of product two cost done (read (record { label = hole x; kids = kids }) p ∷ ws) (tree None none c))
      (result_of product two cost (done ++ (hole (record { state = (x.state, p); variable = x.variable }), 0) ∷ []) ws)
      (completions two (sides_of ws) (states_of ws))
      (λ c h. ap (λ z. (product cost (choice_cost product two c), z)) (sym (append_assoc done ((hole (record { state = (x.state, p); variable = x.variable }), 0) ∷ []) (substituted (template_of ws) (translated two (states_of ws) (sides_of ws) c)))))

  module _ (cost : ℕ) (done : List (Symbol ℕ (Pair (ℕ × ℕ)) × ℕ)) (f : ℕ) (kids : Trees (Symbol ℕ (Pair ℕ))) (p : ℕ) (ws : List Piece) where
    abbrev here : List Piece
    here = read (record { label = label f; kids = kids }) p ∷ ws

    abbrev there : ℕ → List Piece
    there m = pieces_of (preorder_of (transducer_rule two m).right) kids ++ ws

    module _ (m : ℕ) (low : m < length two) (reads : reads_label p f (count kids) (transducer_rule two m) ≡ true) where
      abbrev states : List ℕ
      states = states_in (transducer_rule two m).right

      abbrev variables : List ℕ
      variables = variables_in (transducer_rule two m).right

      pairs : holes_at (preorder_of (transducer_rule two m).right) ≡ holes_of (transducer_rule two m).right
      pairs = ap holes_at (ap (λ zs. ((transducer_rule two m).right.label, count (transducer_rule two m).right.kids) ∷ zs) (sym (append_nil (preorder (transducer_rule two m).right.kids)))) ∙ holes_at-preorder (only (transducer_rule two m).right) (leaves m low)

      within : Each (λ i. i < count kids) variables
      within = within_sides two shaped p f kids m low reads

      states_are : states_of (there m) ≡ states ++ states_of ws
      states_are = pieces-states (preorder_of (transducer_rule two m).right) kids ws ∙ ap (λ (xs : List (Pair ℕ)). map (λ x. x.state) xs ++ states_of ws) pairs

      sides_are : sides_of (there m) ≡ join (pick kids variables) (sides_of ws)
      sides_are =
          pieces-sides (preorder_of (transducer_rule two m).right) kids ws (subst (λ (xs : List (Pair ℕ)). Each (λ i. i < count kids) (map (λ x. x.variable) xs)) (sym pairs) within)
          ∙ ap (λ (xs : List (Pair ℕ)). join (pick kids (map (λ x. x.variable) xs)) (sides_of ws)) pairs

      -- a choice by the rule
      stands : (c : Trees (Option ℕ)) → AreTranslations two (states ++ states_of ws) (join (pick kids variables) (sides_of ws)) c → AreTranslations two (p ∷ states_of ws) (tree (label f) kids (sides_of ws)) (under m (length states) c)
      stands c a =
          let over = reads_over p f (count kids) (transducer_rule two m) reads in
          let as_many : count (pick kids variables) ≡ length states =
          pick-count kids variables within ∙ length-map (holes_of (transducer_rule two m).right) (λ x. x.variable) ∙ sym (length-map (holes_of (transducer_rule two m).right) (λ x. x.state))
          in
          let r = split_choice two shaped states (states_of ws) (pick kids variables) (sides_of ws) c as_many a in
          (low, over.0, over.1, r.0, r.1)

      one_result : (c : Trees (Option ℕ)) → Has (completions two (join (pick kids variables) (sides_of ws)) (states ++ states_of ws)) c →
          result_of product two cost done here (under m (length states) c) ≡ result_of product two (product cost (transducer_rule two m).cost) done (there m) c
      one_result c h =
          let a = stands c (completions_are two shaped (join (pick kids variables) (sides_of ws)) (states ++ states_of ws) c h) in
          ap (λ z. (z, done ++ substituted (template_of here) (translated two (states_of here) (sides_of here) (under m (length states) c))))
          (ap (product cost) ((search_goes laws two shaped).costs m (length states) c) ∙ sym (laws.regroups cost (transducer_rule two m).cost (choice_cost product two c)))
          ∙ ap (λ z. (product (product cost (transducer_rule two m).cost) (choice_cost product two c), done ++ z))
          (search_puts_out two p f m 0 (states_of ws) kids (sides_of ws) c (record { state = p; variable = 0 }) (template_of ws) (leaves m low) a
          ∙ pieces-template (preorder_of (transducer_rule two m).right) kids ws (translated two (states ++ states_of ws) (join (pick kids variables) (sides_of ws)) c)
          ∙ ap (λ ps. substituted (template_of (there m)) (translated two ps (join (pick kids variables) (sides_of ws)) c)) (sym states_are)
          ∙ ap (λ ss. substituted (template_of (there m)) (translated two (states_of (there m)) ss c)) (sym sides_are))

      rule_results :
          map (result_of product two cost done here) (map (under m (length states)) (completions two (join (pick kids variables) (sides_of ws)) (states ++ states_of ws)))
          ≡ results product two (product cost (transducer_rule two m).cost) done (there m)
      rule_results =
          map_twice (result_of product two cost done here) (under m (length states)) (completions two (join (pick kids variables) (sides_of ws)) (states ++ states_of ws))
          ∙ map_same (λ c. result_of product two cost done here (under m (length states) c)) (result_of product two (product cost (transducer_rule two m).cost) done (there m)) (completions two (join (pick kids variables) (sides_of ws)) (states ++ states_of ws)) one_result
          ∙ ap (λ ps. map (result_of product two (product cost (transducer_rule two m).cost) done (there m)) (completions two (join (pick kids variables) (sides_of ws)) ps)) (sym states_are)
          ∙ ap (λ ss. map (result_of product two (product cost (transducer_rule two m).cost) done (there m)) (completions two ss (states_of (there m)))) (sym sides_are)

    if_results : (b : Bool) (cs : List (Trees (Option ℕ))) (rs : List Result) → (b ≡ true → map (result_of product two cost done here) cs ≡ rs) → map (result_of product two cost done here) (if b then cs else []) ≡ (if b then rs else [])
    if_results true cs rs h = h refl
    if_results false cs rs h = refl

    by_rules_done : (m : ℕ) → m ≤ length two → map (result_of product two cost done here) (rule_by_rule two p f kids (sides_of ws) (states_of ws) m) ≡ results_by product two cost done f kids p ws m
    by_rules_done zero h = refl
    by_rules_done (suc m) h =
        map-append (result_of product two cost done here) (rule_by_rule two p f kids (sides_of ws) (states_of ws) m)
        (if reads_label p f (count kids) (transducer_rule two m)
        then map (under m (length (states_in (transducer_rule two m).right))) (completions two (join (pick kids (variables_in (transducer_rule two m).right)) (sides_of ws)) (states_in (transducer_rule two m).right ++ states_of ws))
        else [])
        ∙ ap (λ z. z ++ map (result_of product two cost done here)
        (if reads_label p f (count kids) (transducer_rule two m)
        then map (under m (length (states_in (transducer_rule two m).right))) (completions two (join (pick kids (variables_in (transducer_rule two m).right)) (sides_of ws)) (states_in (transducer_rule two m).right ++ states_of ws))
        else [])) (by_rules_done m (omega arith))
        ∙ ap (λ z. results_by product two cost done f kids p ws m ++ z)
        (if_results (reads_label p f (count kids) (transducer_rule two m))
        (map (under m (length (states_in (transducer_rule two m).right))) (completions two (join (pick kids (variables_in (transducer_rule two m).right)) (sides_of ws)) (states_in (transducer_rule two m).right ++ states_of ws)))
        (results product two (product cost (transducer_rule two m).cost) done (there m))
        (λ e. rule_results m (omega arith) e))

    at_label : results product two cost done here ≡ results_by product two cost done f kids p ws (length two)
    at_label =
        ap (map (result_of product two cost done here)) ((search_goes laws two shaped).at_label f kids (sides_of ws) p (states_of ws)) ∙ by_rules_done (length two) (omega arith)

  -- the search by pieces does what is claimed
  pub goes_by_pieces : GoesByPieces product two
  goes_by_pieces = record {
    at_end = at_end;
    at_put = at_put;
    at_pair = at_pair;
    at_label = at_label;
    at_start = λ cost p s. ap (map (result_of product two cost [] (read s p ∷ []))) ((search_goes laws two shaped).one_side p s);
  }
