-- All edges of a pair, rule by rule.
use Rattle.std.specs.Prelude.{◌≡◌, ℕ, ◌+◌, ◌<◌, ◌≤◌, ◌⊎◌, Bool, true, false, nat_le, nat_eq, if◌then◌else◌, List, [], ◌∷◌, ◌++◌, length, map, take, drop, reverse, Option, refl}
use Rattle.std.proofs.Common.{zero, suc, arith, ap, sym, ◌∙◌, subst, get_or, inl, inr, append-nil, append_assoc, add-one}
use Rattle.std.proofs.lemmas.Bool.Decides.{nat_tests}
use Rattle.std.proofs.lemmas.List.{map-append}
use Rattle.tib_lex.specs.Lists.{Has, total}
use Rattle.tib_tree.specs.Trees.{Trees, none, tree, only, count, preorder, preorder_of, first_of, parse, parse_of, parse-preorder, first-join, first_trees}
use Rattle.tib_grammar.specs.Sides.{Symbol, label, hole, Side as SideFor}
use Rattle.tib_grammar.specs.Items.{pairs_of}
use Rattle.tib_grammar.specs.declared.Item.{Item}
use Rattle.tib_cost.specs.Semiring.{most}
use Rattle.tib_lex.proofs.Places.{take_drop}
use Rattle.tib_transducer.specs.Rules.{transducer_rule}
use Rattle.tib_transducer.specs.declared.Pair.{Pair}
use Rattle.tib_transducer.specs.declared.TransducerRule.{TransducerRule}
use Rattle.tib_transducer.specs.Moves.{moves_of}
use Rattle.tib_transducer.proofs.Moves.{moves_next, own}
use Rattle.tib_key_edges.specs.Translations.{translated, choice_cost}
use Rattle.tib_key_edges.specs.Choices.{choices_of, cheap, edge_from, edges_of, origins_of}
use Rattle.tib_key_edges.specs.Composition.{edge_parts}
use Rattle.tib_key_edges.specs.Flat.{substituted}
use Rattle.tib_key_edges.specs.Pieces.{Result, results, read, put}
use Rattle.tib_compose.specs.KeyEdges.{rule_edges}
use Rattle.tib_compose.specs.CompositionListing.{edge_of, IsListing}
use Rattle.tib_compose.specs.PieceViews.{side_there}
use Rattle.tib_compose.specs.Searches.{affordable, all_of, AreOneTrees, AreTurns, Begins}
use Rattle.tib_compose.specs.Sources.{IsSource}
use Rattle.tib_compose.specs.Walk.{AreReady, result_edges, IsOnBranch}
use Rattle.tib_compose.specs.declared.listing.CompositionListing.{CompositionListing}
use Rattle.tib_compose.specs.declared.search.ReturnPoint.{ReturnPoint}
use Rattle.tib_compose.specs.declared.search.Search.{Search}
use Rattle.tib_compose.specs.declared.source.Source.{Source}
use Rattle.tib_compose.proofs.Outputs.{affordable_trees, side_trees}
use Rattle.tib_compose.proofs.Walking.{total_front, all_append}

-- the first tree of what is put out in place of a hole
pub first_out : {A : Type 0} {P : Type 0} (z : P) (n : ℕ) (us : Trees (Symbol ℕ A)) → first_of (label 0) (parse (substituted ((hole z, n) ∷ []) us)) ≡ first_of (label 0) us
first_out z n none = refl
first_out {A} z n (tree s below rest) =
    ap (λ ks. record { label = s; kids = first_trees (count below) ks }) (parse-preorder below [])
    ∙ ap (λ ks. record { label = s; kids = ks }) (first-join below none)

module _ (product : ℕ → ℕ → ℕ) (one two : List (TransducerRule ℕ)) (key : ℕ × ℕ) (n : ℕ) where
  abbrev result_for : Trees (Option ℕ) → Result
  result_for c = (
    product (transducer_rule one n).cost (choice_cost product two c),
    substituted {P = Pair ℕ} ((hole (record { state = key.1; variable = 0 }), 0) ∷ []) (translated two (key.1 ∷ []) (only (transducer_rule one n).right) c),
  )

  one_edge : (c : Trees (Option ℕ)) → edge_of key (transducer_rule one n).left (result_for c).1 (result_for c).0 ≡ edge_from product one two key (n, c)
  one_edge c =
      ap (λ s. record { state = key; left = (transducer_rule one n).left; right = s; cost = product (transducer_rule one n).cost (choice_cost product two c) })
      (first_out {P = Pair ℕ} (record { state = key.1; variable = 0 }) 0 (translated two (key.1 ∷ []) (only (transducer_rule one n).right) c))

  -- the edges of the results are those of the choices
  cheap_edges : (cs : List (Trees (Option ℕ))) → result_edges key (transducer_rule one n).left (affordable (map result_for cs)) ≡ map (edge_from product one two key) (cheap product one two n cs)
  cheap_edges [] = refl
  cheap_edges (c ∷ cs) = by_case (nat_le (product (transducer_rule one n).cost (choice_cost product two c)) most) (one_edge c) (cheap_edges cs)
    where
      by_case :
          (b : Bool) → edge_of key (transducer_rule one n).left (result_for c).1 (result_for c).0 ≡ edge_from product one two key (n, c) →
          result_edges key (transducer_rule one n).left (affordable (map result_for cs)) ≡ map (edge_from product one two key) (cheap product one two n cs) →
          result_edges key (transducer_rule one n).left (if b then result_for c ∷ affordable (map result_for cs) else affordable (map result_for cs))
          ≡ map (edge_from product one two key) (if b then (n, c) ∷ cheap product one two n cs else cheap product one two n cs)
      by_case true e f = ap (λ x. x ∷ result_edges key (transducer_rule one n).left (affordable (map result_for cs))) e ∙ ap (λ xs. edge_from product one two key (n, c) ∷ xs) f
      by_case false e f = f

  module _ (ready : AreReady product two) (items : List (Item (Pair ℕ))) (is : pairs_of items ≡ preorder_of (transducer_rule one n).right) where
    whole_side : side_there (pairs_of items) 0 ≡ (transducer_rule one n).right
    whole_side = ap (λ xs. first_of (label 0) (parse xs)) is ∙ ap (first_of (label 0)) (parse_of (transducer_rule one n).right)

    -- what comes of the whole side are the edges of the rule
    pub rule_comes : result_edges key (transducer_rule one n).left (affordable (results product two (transducer_rule one n).cost [] (read (side_there (pairs_of items) 0) key.1 ∷ []))) ≡ rule_edges product one two key n
    rule_comes =
        ap (λ s. result_edges key (transducer_rule one n).left (affordable (results product two (transducer_rule one n).cost [] (read s key.1 ∷ [])))) whole_side
        ∙ ap (λ rs. result_edges key (transducer_rule one n).left (affordable rs)) (ready.goes.at_start (transducer_rule one n).cost key.1 (transducer_rule one n).right)
        ∙ cheap_edges (choices_of two key.1 (transducer_rule one n).right)

  module _ (ready : AreReady product two) (source : Source) (items : pairs_of source.items.now ≡ preorder_of (transducer_rule one n).right) where
    -- the walk begins
    pub walk_begins :
        (search : Search) → Begins product (transducer_rule one n).cost key.1 search → (order : List (ℕ × ℕ)) (es : List (TransducerRule (ℕ × ℕ))) (before : CompositionListing) → IsListing order key es before →
        IsOnBranch product two source (transducer_rule one n).left order key (es ++ rule_edges product one two key n) search before
    walk_begins search b order es before lists = record {
      listed = es;
      pieces = read (side_there (pairs_of source.items.now) 0) key.1 ∷ [];
      left_over = [];
      lists = lists;
      holds = b.left two (pairs_of source.items.now);
      remains = subst (λ (ts : List ReturnPoint). AreTurns product two (pairs_of source.items.now) (reverse ts) search.branch.done.items search.branch.pending.tasks.items []) (sym b.turns) refl;
      trees =
          let side : SideFor ℕ (Pair ℕ) = side_there (pairs_of source.items.now) 0 in
          subst AreOneTrees (sym (append-nil (affordable (results product two search.branch.cost (pairs_of search.branch.done.items) (read side key.1 ∷ [])))))
          (subst (λ d. AreOneTrees (affordable (results product two search.branch.cost (pairs_of d) (read side key.1 ∷ [])))) (sym b.done)
          (affordable_trees (results product two search.branch.cost [] (read side key.1 ∷ [])) (side_trees product two ready.shaped ready.goes search.branch.cost key.1 side)));
      whole = ap (λ xs. es ++ xs)
          (ap (result_edges key (transducer_rule one n).left) (append-nil (affordable (results product two search.branch.cost (pairs_of search.branch.done.items) (read (side_there (pairs_of source.items.now) 0) key.1 ∷ []))))
          ∙ ap (λ k. result_edges key (transducer_rule one n).left (affordable (results product two k (pairs_of search.branch.done.items) (read (side_there (pairs_of source.items.now) 0) key.1 ∷ [])))) b.costs
          ∙ ap (λ d. result_edges key (transducer_rule one n).left (affordable (results product two (transducer_rule one n).cost (pairs_of d) (read (side_there (pairs_of source.items.now) 0) key.1 ∷ [])))) b.done
          ∙ rule_comes ready source.items.now items);
    }

-- a list and one more place

pub take_more : (xs : List ℕ) (i x : ℕ) → i < length xs → x ≡ get_or xs i x → take (i + 1) xs ≡ take i xs ++ x ∷ []
take_more xs i x h e = ap (λ k. take k xs) (add-one i) ∙ go xs i x h e
  where
    go : (xs : List ℕ) (i x : ℕ) → i < length xs → x ≡ get_or xs i x → take (suc i) xs ≡ take i xs ++ x ∷ []
    go [] i x h e = absurd (omega arith)
    go (y ∷ xs) zero x h e = ap (λ z. z ∷ []) (sym e)
    go (y ∷ xs) (suc i) x h e = ap (λ zs. y ∷ zs) (go xs i x (omega arith) e)

pub take_past : {A : Type 0} (n : ℕ) (xs : List A) → length xs ≤ n → take n xs ≡ xs
take_past zero [] h = refl
take_past zero (x ∷ xs) h = absurd (omega arith)
take_past (suc n) [] h = refl
take_past (suc n) (x ∷ xs) h = ap (λ zs. x ∷ zs) (take_past n xs (omega arith))

module _ (product : ℕ → ℕ → ℕ) (one two : List (TransducerRule ℕ)) (key : ℕ × ℕ) where
  abbrev of_rules : List ℕ → List (TransducerRule (ℕ × ℕ))
  of_rules ms = all_of (rule_edges product one two key) ms

  own_edges : (b : Bool) (m : ℕ) →
      map (edge_from product one two key) (if b then cheap product one two m (choices_of two key.1 (transducer_rule one m).right) else []) ≡ of_rules (if b then m ∷ [] else [])
  own_edges true m = sym (append-nil (rule_edges product one two key m))
  own_edges false m = refl

  by_moves : (m : ℕ) → m ≤ length one → map (edge_from product one two key) (origins_of product one two key m) ≡ of_rules (moves_of key.0 (take m one))
  by_moves zero h = refl
  by_moves (suc m) h =
      map-append (edge_from product one two key) (origins_of product one two key m) (if nat_eq (transducer_rule one m).state key.0 then cheap product one two m (choices_of two key.1 (transducer_rule one m).right) else [])
      ∙ ap (λ zs. zs ++ map (edge_from product one two key) (if nat_eq (transducer_rule one m).state key.0 then cheap product one two m (choices_of two key.1 (transducer_rule one m).right) else [])) (by_moves m (omega arith))
      ∙ ap (λ zs. of_rules (moves_of key.0 (take m one)) ++ zs) (own_edges (nat_eq (transducer_rule one m).state key.0) m)
      ∙ sym (all_append (rule_edges product one two key) (moves_of key.0 (take m one)) (own m key.0 (transducer_rule one m)))
      ∙ ap of_rules (sym (moves_next one m (omega arith) key.0) ∙ ap (λ k. moves_of key.0 (take k one)) (add-one m))

  -- the edges of a pair are those along the rules of its state
  pub key_edges : edges_of product one two key ≡ of_rules (moves_of key.0 one)
  key_edges = by_moves (length one) (omega arith) ∙ ap (λ rs. of_rules (moves_of key.0 rs)) (take_past (length one) one (omega arith))

  module _ (ps : List ℕ) (are : ps ≡ moves_of key.0 one) where
    -- one more rule
    pub rule_more : (i m : ℕ) → i < length ps → m ≡ get_or ps i m → of_rules (take i ps) ++ rule_edges product one two key m ≡ of_rules (take (i + 1) ps)
    rule_more i m h e =
        ap (λ zs. of_rules (take i ps) ++ zs) (sym (append-nil (rule_edges product one two key m)))
        ∙ sym (all_append (rule_edges product one two key) (take i ps) (m ∷ []))
        ∙ ap of_rules (sym (take_more ps i m h e))

    -- all rules
    pub rules_all : (i : ℕ) → length ps ≤ i → of_rules (take i ps) ≡ edges_of product one two key
    rules_all i h = ap of_rules (take_past i ps h ∙ are) ∙ sym key_edges

    -- the first rules have no more parts than all
    pub rules_front : (k budget : ℕ) → budget < total edge_parts (of_rules (take k ps)) → budget < total edge_parts (edges_of product one two key)
    rules_front k budget h =
        let whole : of_rules (take k ps) ++ of_rules (drop k ps) ≡ edges_of product one two key =
        sym (all_append (rule_edges product one two key) (take k ps) (drop k ps)) ∙ ap of_rules (take_drop k ps ∙ are) ∙ sym key_edges
        in
        let front : total edge_parts (of_rules (take k ps)) ≤ total edge_parts (edges_of product one two key) =
        subst (λ es. total edge_parts (of_rules (take k ps)) ≤ total edge_parts es) whole (total_front (of_rules (take k ps)) (of_rules (drop k ps)))
        in
        omega (arith, h, front)
