-- Rules with their states exchanged.
use Rattle.std.proofs.Common.{◌≡◌, ℕ, ◌<◌, List, [], ◌∷◌, ◌++◌, length, map, refl, ap, sym, ◌∙◌, subst, inl, inr, suc}
use Rattle.std.proofs.lemmas.List.{map-append}
use Rattle.tib_lex.specs.Lists.{Has, Each}
use Rattle.tib_lex.proofs.Members.{has_left, has_right}
use Rattle.tib_tree.specs.Trees.{Trees, none, tree, only, count, preorder, preorder_of, relabel, first_of}
use Rattle.tib_grammar.specs.Range.{AllBelow}
use Rattle.tib_grammar.specs.Sides.{Symbol, label, hole, Side, holes, holes_of, symbol_map, side_map, HolesAreLeaves}
use Rattle.tib_grammar.proofs.Sides.{holes-relabel}
use Rattle.tib_grammar.proofs.Renamed.{preorder-relabel}
use Rattle.tib_transducer.specs.Range.{IsShaped, EndsInHoles}
use Rattle.tib_transducer.specs.Rules.{variables_of, states_in, variables_in}
use Rattle.tib_transducer.specs.declared.Pair.{Pair}
use Rattle.tib_transducer.specs.declared.TransducerRule.{TransducerRule}
use Rattle.tib_transducer.specs.NamedPairs.{named_pair}
use Rattle.tib_key_edges.specs.Named.{named_transducer_rule}

module _ {P Q : Type 0} (f : P → Q) where
  pairs_states : (xs : List (Pair P)) → map (λ x. x.state) (map (named_pair f) xs) ≡ map f (map (λ x. x.state) xs)
  pairs_states [] = refl
  pairs_states (x ∷ xs) = ap (λ ys. f x.state ∷ ys) (pairs_states xs)

  pairs_variables : (xs : List (Pair P)) → map (λ x. x.variable) (map (named_pair f) xs) ≡ map (λ x. x.variable) xs
  pairs_variables [] = refl
  pairs_variables (x ∷ xs) = ap (λ ys. x.variable ∷ ys) (pairs_variables xs)

  pub states_named : (s : Side ℕ (Pair P)) → states_in (side_map (named_pair f) s) ≡ map f (states_in s)
  states_named s = ap (map (λ x. x.state)) (holes-relabel (named_pair f) (only s)) ∙ pairs_states (holes_of s)

  pub variables_named : (s : Side ℕ (Pair P)) → variables_in (side_map (named_pair f) s) ≡ variables_in s
  variables_named s = ap (map (λ x. x.variable)) (holes-relabel (named_pair f) (only s)) ∙ pairs_variables (holes_of s)

  -- the shape stays, both ways
  pub shaped_named : (r : TransducerRule P) → IsShaped r → IsShaped (named_transducer_rule f r)
  shaped_named r s = record {
    begins = s.begins;
    numbered = s.numbered;
    known = subst (Each (λ i. i < length (variables_of r.left))) (sym (variables_named r.right)) s.known;
  }

  pub shaped_back : (r : TransducerRule P) → IsShaped (named_transducer_rule f r) → IsShaped r
  shaped_back r s = record {
    begins = s.begins;
    numbered = s.numbered;
    known = subst (Each (λ i. i < length (variables_of r.left))) (variables_named r.right) s.known;
  }

  trees_end : (ts : Trees (Symbol ℕ (Pair P))) → HolesAreLeaves ts → HolesAreLeaves (relabel (symbol_map (named_pair f)) ts)
  trees_end none h = tt
  trees_end (tree (label g) kids rest) h = (trees_end kids h.0, trees_end rest h.1)
  trees_end (tree (hole q) none rest) h = trees_end rest h
  trees_end (tree (hole q) (tree s kids more) rest) h = absurd h

  trees_back : (ts : Trees (Symbol ℕ (Pair P))) → HolesAreLeaves (relabel (symbol_map (named_pair f)) ts) → HolesAreLeaves ts
  trees_back none h = tt
  trees_back (tree (label g) kids rest) h = (trees_back kids h.0, trees_back rest h.1)
  trees_back (tree (hole q) none rest) h = trees_back rest h
  trees_back (tree (hole q) (tree s kids more) rest) h = absurd h

  pub ends_named : (r : TransducerRule P) → EndsInHoles r → EndsInHoles (named_transducer_rule f r)
  ends_named r h = (h.0, trees_end (only r.right) h.1)

  pub ends_back : (r : TransducerRule P) → EndsInHoles (named_transducer_rule f r) → EndsInHoles r
  ends_back r h = (h.0, trees_back (only r.right) h.1)

-- states that come back

module _ {P Q : Type 0} (f : P → Q) (g : Q → P) where
  pair_back : (x : Pair P) → g (f x.state) ≡ x.state → named_pair g (named_pair f x) ≡ x
  pair_back x e = ap (λ q. record { state = q; variable = x.variable }) e

  trees_same :
      (ts : Trees (Symbol ℕ (Pair P))) → ((q : P) → Has (map (λ x. x.state) (holes ts)) q → g (f q) ≡ q) → HolesAreLeaves ts → relabel (symbol_map (named_pair g)) (relabel (symbol_map (named_pair f)) ts) ≡ ts
  trees_same none h l = refl
  trees_same (tree (label x) kids rest) h l =
      ap (λ ks. tree (label x) ks (relabel (symbol_map (named_pair g)) (relabel (symbol_map (named_pair f)) rest))) (trees_same kids (λ q k. h q (front q k)) l.0)
      ∙ ap (tree (label x) kids) (trees_same rest (λ q k. h q (back q k)) l.1)
    where
      front : (q : P) → Has (map (λ x. x.state) (holes kids)) q → Has (map (λ x. x.state) (holes kids ++ holes rest)) q
      front q k = subst (λ (xs : List P). Has xs q) (sym (map-append (λ (x : Pair P). x.state) (holes kids) (holes rest))) (has_left (map (λ x. x.state) (holes kids)) (map (λ x. x.state) (holes rest)) q k)

      back : (q : P) → Has (map (λ x. x.state) (holes rest)) q → Has (map (λ x. x.state) (holes kids ++ holes rest)) q
      back q k = subst (λ (xs : List P). Has xs q) (sym (map-append (λ (x : Pair P). x.state) (holes kids) (holes rest))) (has_right (map (λ x. x.state) (holes kids)) (map (λ x. x.state) (holes rest)) q k)
  trees_same (tree (hole x) none rest) h l =
      ap (λ z. tree (hole z) none (relabel (symbol_map (named_pair g)) (relabel (symbol_map (named_pair f)) rest))) (pair_back x (h x.state (inl refl)))
      ∙ ap (tree (hole x) none) (trees_same rest (λ q k. h q (inr k)) l)
  trees_same (tree (hole x) (tree s kids more) rest) h l = absurd l

  pub move_back : (r : TransducerRule P) → g (f r.state) ≡ r.state → ((q : P) → Has (states_in r.right) q → g (f q) ≡ q) → EndsInHoles r → named_transducer_rule g (named_transducer_rule f r) ≡ r
  move_back r a h l =
      ap (λ z. record { state = z; left = r.left; right = side_map (named_pair g) (side_map (named_pair f) r.right); cost = r.cost }) a
      ∙ ap (λ s. record { state = r.state; left = r.left; right = s; cost = r.cost }) (ap (first_of (label 0)) (trees_same (only r.right) h l.1))

-- labels stay in the right-hand side, and the same for each item of it

count_named : {A B : Type 0} (g : A → B) (ts : Trees A) → count (relabel g ts) ≡ count ts
count_named g none = refl
count_named g (tree f kids rest) = ap suc (count_named g rest)

pub preorder_named : {P Q : Type 0} (f : P → Q) (s : Side ℕ P) → preorder_of (side_map f s) ≡ map (λ p. (symbol_map f p.0, p.1)) (preorder_of s)
preorder_named f s =
    ap (λ n. (symbol_map f s.label, n) ∷ preorder (relabel (symbol_map f) s.kids)) (count_named (symbol_map f) s.kids)
    ∙ ap (λ xs. (symbol_map f s.label, count s.kids) ∷ xs) (preorder-relabel (symbol_map f) s.kids)

pub below_mapped : (n m : ℕ) (f : ℕ → ℕ) (qs : List ℕ) → ((q : ℕ) → q < m → f q < n) → AllBelow m qs → AllBelow n (map f qs)
below_mapped n m f [] h b = tt
below_mapped n m f (q ∷ qs) h b = (h q b.0, below_mapped n m f qs h b.1)
