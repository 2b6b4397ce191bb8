-- Runs of a transducer put together.
use Rattle.std.specs.Prelude.{◌≡◌, ℕ, ◌<◌, List, [], ◌∷◌, length, map, Bool, refl}
use Rattle.std.proofs.Common.{suc, ap, sym, ◌∙◌, subst}
use Rattle.tib_lex.specs.Lists.{Each}
use Rattle.tib_tree.specs.Trees.{Tree, Trees, none, tree, count, join, only, join-none}
use Rattle.tib_grammar.specs.Sides.{holes_of, fill}
use Rattle.tib_cost.specs.Semiring.{ProductLaws}
use Rattle.tib_transducer.specs.Rules.{transducer_rule, states_in, variables_in}
use Rattle.tib_transducer.specs.Run.{tree_at, pick, AreTransducerRuns, AreBound, Reads, outputs, transducer_cost}
use Rattle.tib_transducer.specs.Series.{IsTransducerCost}
use Rattle.tib_transducer.specs.declared.Pair.{Pair}
use Rattle.tib_transducer.specs.declared.TransducerRule.{TransducerRule}
use Rattle.tib_grammar.proofs.Sides.{count-fill}
use Rattle.tib_transducer.proofs.Itemizing.{count-outputs}
use Rattle.std.proofs.lemmas.List.{length-map}
use Rattle.tib_cost.proofs.Times.{product-zero}
use Rattle.tib_key_edges.proofs.Filling.{AllOf, one_of}
use Rattle.tib_key_edges.proofs.Permuted.{pick-within, pick-count}

-- each state with its tree
abbrev pub targets : List ℕ → Trees ℕ → List (ℕ × Trees ℕ)
targets [] ts = []
targets (p ∷ ps) none = []
targets (p ∷ ps) (tree f kids more) = (p, tree f kids none) ∷ targets ps more

-- the state of a pair with the tree of its variable
abbrev pub target : Trees ℕ → Pair ℕ → ℕ × Trees ℕ
target args x = (x.state, tree_at args x.variable)

targets-picked : (xs : List (Pair ℕ)) (args : Trees ℕ) → count (pick args (map (λ x. x.variable) xs)) ≡ length xs → targets (map (λ x. x.state) xs) (pick args (map (λ x. x.variable) xs)) ≡ map (target args) xs
targets-picked xs args e = within xs (pick-within args (map (λ x. x.variable) xs) (e ∙ sym (length-map xs (λ x. x.variable))))
  where
    one_at : (i : ℕ) → i < count args → count (tree_at args i) ≡ 1
    one_at i h = sym (ap count (join-none (tree_at args i))) ∙ pick-count args (i ∷ []) (h, tt)

    within : (xs : List (Pair ℕ)) → Each (λ i. i < count args) (map (λ x. x.variable) xs) → targets (map (λ x. x.state) xs) (pick args (map (λ x. x.variable) xs)) ≡ map (target args) xs
    within [] h = refl
    within (x ∷ xs) h =
        let one = one_of (tree_at args x.variable) (one_at x.variable h.0) in
        ap (λ z. targets (x.state ∷ map (λ y. y.state) xs) (join z (pick args (map (λ y. y.variable) xs)))) one.1
        ∙ ap (λ z. (x.state, z) ∷ targets (map (λ y. y.state) xs) (pick args (map (λ y. y.variable) xs))) (sym one.1)
        ∙ ap (λ z. target args x ∷ z) (within xs h.1)

module _ {levelled weighted : Bool} {product : ℕ → ℕ → ℕ} (laws : ProductLaws levelled weighted product) where
  -- trees for the images of some values are trees for the values
  pub all_mapped : {A B : Type 0} (R : B → Tree ℕ → ℕ → Type 0) (g : A → B) (xs : List A) (us : Trees ℕ) (c : ℕ) → AllOf product R (map g xs) us c → AllOf product (λ x. R (g x)) xs us c
  all_mapped R g [] none c h = h
  all_mapped R g [] (tree f us more) c h = absurd h
  all_mapped R g (x ∷ xs) none c h = absurd h
  all_mapped R g (x ∷ xs) (tree f us more) c h = (h.0, h.1, h.2, all_mapped R g xs more h.1 h.3, h.4)

  module _ (rules : List (TransducerRule ℕ)) where
    count-runs : (runs : Trees ℕ) (ps : List ℕ) → AreTransducerRuns rules ps runs → count runs ≡ length ps
    count-runs none [] r = refl
    count-runs none (p ∷ ps) r = absurd r
    count-runs (tree n runs rest) [] r = absurd r
    count-runs (tree n runs rest) (p ∷ ps) r = ap suc (count-runs rest ps r.3)

    count-reads : (runs ts : Trees ℕ) → Reads rules runs ts → count ts ≡ count runs
    count-reads none none d = refl
    count-reads none (tree f kids more) d = absurd d
    count-reads (tree n runs rest) none d = absurd d
    count-reads (tree n runs rest) (tree f kids more) d = ap suc (count-reads rest more d.1)

    -- the runs below a rule read the trees of the pairs of its right-hand side
    pub targets_below :
        (n : ℕ) (runs args : Trees ℕ) → AreTransducerRuns rules (states_in (transducer_rule rules n).right) runs →
        Reads rules runs (pick args (variables_in (transducer_rule rules n).right)) →
        targets (states_in (transducer_rule rules n).right) (pick args (variables_in (transducer_rule rules n).right)) ≡ map (target args) (holes_of (transducer_rule rules n).right)
    targets_below n runs args r d =
        targets-picked (holes_of (transducer_rule rules n).right) args (
        count-reads runs (pick args (variables_in (transducer_rule rules n).right)) d
        ∙ count-runs runs (states_in (transducer_rule rules n).right) r
        ∙ length-map (holes_of (transducer_rule rules n).right) (λ x. x.state))

    -- a run outputs one tree
    pub one_output : (n : ℕ) (runs : Trees ℕ) → AreTransducerRuns rules (states_in (transducer_rule rules n).right) runs → (t : Tree ℕ) × (fill (only (transducer_rule rules n).right) (outputs rules runs) ≡ only t)
    one_output n runs r =
        one_of (fill (only (transducer_rule rules n).right) (outputs rules runs)) (
        count-fill (only (transducer_rule rules n).right) (outputs rules runs) (
        count-outputs rules (states_in (transducer_rule rules n).right) runs r ∙ length-map (holes_of (transducer_rule rules n).right) (λ x. x.state)))

    pub no_moves : IsTransducerCost product rules [] none none 0
    no_moves = record { runs = none; are_runs = tt; reads = tt; output = refl; costs = refl }

    -- one run and others
    pub moves_join :
        (p : ℕ) (ps : List ℕ) (ts more us vs : Trees ℕ) (a b : ℕ) → IsTransducerCost product rules (p ∷ []) ts us a → IsTransducerCost product rules ps more vs b →
        IsTransducerCost product rules (p ∷ ps) (join ts more) (join us vs) (product a b)
    moves_join p ps ts more us vs a b h k = from h.runs ts h.are_runs h.reads h.output h.costs
      where
        from : (runs ts : Trees ℕ) → AreTransducerRuns rules (p ∷ []) runs → Reads rules runs ts → outputs rules runs ≡ us → transducer_cost product rules runs ≡ a → IsTransducerCost product rules (p ∷ ps) (join ts more) (join us vs) (product a b)
        from none ts r d o c = absurd r
        from (tree n runs (tree m below rest)) ts r d o c = absurd r.3
        from (tree n runs none) none r d o c = absurd d
        from (tree n runs none) (tree f kids (tree g ks rest)) r d o c = absurd d.1
        from (tree n runs none) (tree f kids none) r d o c = record {
          runs = tree n runs k.runs;
          are_runs = (r.0, r.1, r.2, k.are_runs);
          reads = (d.0, k.reads);
          output = ap (join (fill (only (transducer_rule rules n).right) (outputs rules runs))) k.output
              ∙ ap (λ z. join z vs) (sym (join-none (fill (only (transducer_rule rules n).right) (outputs rules runs))) ∙ o);
          costs = ap (product (product (transducer_rule rules n).cost (transducer_cost product rules runs))) k.costs
              ∙ ap (λ z. product z b) (sym (product-zero laws (product (transducer_rule rules n).cost (transducer_cost product rules runs))) ∙ c);
        }

    -- a rule over runs
    pub moves_over :
        (n p f : ℕ) (kids args zs : Trees ℕ) (c : ℕ) → n < length rules → (transducer_rule rules n).state ≡ p →
        AreBound (holes_of (transducer_rule rules n).left) args → fill (only (transducer_rule rules n).left) args ≡ tree f kids none →
        IsTransducerCost product rules (states_in (transducer_rule rules n).right) (pick args (variables_in (transducer_rule rules n).right)) zs c →
        IsTransducerCost product rules (p ∷ []) (tree f kids none) (fill (only (transducer_rule rules n).right) zs) (product (transducer_rule rules n).cost c)
    moves_over n p f kids args zs c h s bound filled k = record {
      runs = tree n k.runs none;
      are_runs = (h, s, k.are_runs, tt);
      reads = (record { args = args; bound = bound; filled = filled; below = k.reads }, tt);
      output = join-none (fill (only (transducer_rule rules n).right) (outputs rules k.runs)) ∙ ap (fill (only (transducer_rule rules n).right)) k.output;
      costs = product-zero laws (product (transducer_rule rules n).cost (transducer_cost product rules k.runs)) ∙ ap (product (transducer_rule rules n).cost) k.costs;
    }

    -- runs for the pairs of a right-hand side, each reading the tree of its pair's variable
    pub moves_all :
        (args : Trees ℕ) (xs : List (Pair ℕ)) (zs : Trees ℕ) (c : ℕ) →
        AllOf product (λ x u a. IsTransducerCost product rules (x.state ∷ []) (tree_at args x.variable) (only u) a) xs zs c →
        IsTransducerCost product rules (map (λ x. x.state) xs) (pick args (map (λ x. x.variable) xs)) zs c
    moves_all args [] none c h = subst (IsTransducerCost product rules [] none none) (sym h) no_moves
    moves_all args [] (tree f us more) c h = absurd h
    moves_all args (x ∷ xs) none c h = absurd h
    moves_all args (x ∷ xs) (tree f us more) c h =
        subst (IsTransducerCost product rules (map (λ y. y.state) (x ∷ xs)) (pick args (map (λ y. y.variable) (x ∷ xs))) (tree f us more)) h.4
        (moves_join x.state (map (λ y. y.state) xs) (tree_at args x.variable) (pick args (map (λ y. y.variable) xs)) (tree f us none) more h.0 h.1 h.2 (moves_all args xs more h.1 h.3))
