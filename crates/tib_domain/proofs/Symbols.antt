-- The symbols of an alphabet, and sides whose holes are filled with trees over it.
use Rattle.std.specs.Prelude.{◌≡◌, ℕ, ◌+◌, nat_eq, true, List, [], ◌∷◌, ◌++◌, length, refl}
use Rattle.std.specs.List.{list_any}
use Rattle.std.proofs.Common.{arith, ap, sym, ◌∙◌, subst, inl, inr, length-append}
use Rattle.indexmap.specs.IndexSet.{insert_key, insert_all}
use Rattle.tib_lex.specs.Lists.{Has}
use Rattle.tib_lex.proofs.Booleans.{bool_cases, and-true}
use Rattle.tib_lex.proofs.Members.{has_left, has_right}
use Rattle.tib_lex.proofs.Numbers.{nat_eq-true}
use Rattle.tib_tree.specs.Trees.{Trees, none, tree, count, join, join_parts, first_trees, other_trees, count-first, count-other, preorder, preorder_of}
use Rattle.tib_grammar.specs.Sides.{Symbol, label, hole, holes, fill}
use Rattle.tib_grammar.proofs.Sides.{count-fill}
use Rattle.tib_transducer.specs.declared.TransducerRule.{TransducerRule}
use Rattle.tib_domain.specs.Alphabet.{same_symbol, with_symbol, symbols_in, all_symbols, alphabet, AreOver}

symbol_is : (x y : ℕ × ℕ) → same_symbol x y ≡ true → x ≡ y
symbol_is x y e =
    let both = and-true (nat_eq x.0 y.0) (nat_eq x.1 y.1) e in
    ap (λ (a : ℕ). (a, x.1)) (nat_eq-true x.0 y.0 both.0) ∙ ap (λ (b : ℕ). (y.0, b)) (nat_eq-true x.1 y.1 both.1)

-- a symbol that the test finds is there
there : (ks : List (ℕ × ℕ)) (k : ℕ × ℕ) → list_any (same_symbol k) ks ≡ true → Has ks k
there [] k e = absurd (cc)
there (x ∷ ks) k e = elim (bool_cases (same_symbol k x)) [
  | inl s ↦ inl (sym (symbol_is k x s))
  | inr s ↦ inr (there ks k (rw s at e))
]

-- what is inserted is there, and what was there before
put_in : (ks : List (ℕ × ℕ)) (k : ℕ × ℕ) → Has (insert_key same_symbol ks k) k
put_in ks k = elim (bool_cases (list_any (same_symbol k) ks)) [ inl e ↦ rw e (there ks k e) | inr e ↦ rw e (has_right ks (k ∷ []) k (inl refl)) ]

kept_in : (ks : List (ℕ × ℕ)) (k x : ℕ × ℕ) → Has ks x → Has (insert_key same_symbol ks k) x
kept_in ks k x h = elim (bool_cases (list_any (same_symbol k) ks)) [ inl e ↦ rw e h | inr e ↦ rw e (has_left ks (k ∷ []) x h) ]

kept_all : (xs ks : List (ℕ × ℕ)) (x : ℕ × ℕ) → Has ks x → Has (insert_all same_symbol ks xs) x
kept_all [] ks x h = h
kept_all (y ∷ xs) ks x h = kept_all xs (insert_key same_symbol ks y) x (kept_in ks y x h)

inserted : (xs ks : List (ℕ × ℕ)) (x : ℕ × ℕ) → Has xs x → Has (insert_all same_symbol ks xs) x
inserted [] ks x h = absurd h
inserted (y ∷ xs) ks x h = elim h [
  | inl e ↦ subst (Has (insert_all same_symbol ks (y ∷ xs))) e (kept_all xs (insert_key same_symbol ks y) y (put_in ks y))
  | inr k ↦ inserted xs (insert_key same_symbol ks y) x k
]

symbols_of_rule : (rules : List (TransducerRule ℕ)) (r : TransducerRule ℕ) → Has rules r → (x : ℕ × ℕ) → Has (symbols_in (preorder_of r.left)) x → Has (all_symbols rules) x
symbols_of_rule [] r h x k = absurd h
symbols_of_rule (s ∷ rules) r h x k = elim h [
  | inl e ↦ has_left (symbols_in (preorder_of s.left)) (all_symbols rules) x (subst (λ (t : TransducerRule ℕ). Has (symbols_in (preorder_of t.left)) x) (sym e) k)
  | inr m ↦ has_right (symbols_in (preorder_of s.left)) (all_symbols rules) x (symbols_of_rule rules r m x k)
]

-- the symbols of a left side are in the alphabet
pub in_alphabet : (rules : List (TransducerRule ℕ)) (r : TransducerRule ℕ) → Has rules r → (x : ℕ × ℕ) → Has (symbols_in (preorder_of r.left)) x → Has (alphabet rules) x
in_alphabet rules r h x k = inserted (all_symbols rules) [] x (symbols_of_rule rules r h x k)

-- the symbols of two lists
pub symbols_append : {P : Type 0} (xs ys : List (Symbol ℕ P × ℕ)) → symbols_in (xs ++ ys) ≡ symbols_in xs ++ symbols_in ys
symbols_append [] ys = refl
symbols_append {P} (x ∷ xs) ys = by x.0 (symbols_append xs ys)
  where
    by : (s : Symbol ℕ P) → symbols_in (xs ++ ys) ≡ symbols_in xs ++ symbols_in ys → with_symbol s x.1 (symbols_in (xs ++ ys)) ≡ with_symbol s x.1 (symbols_in xs) ++ symbols_in ys
    by (label f) e = ap (λ zs. (f, x.1) ∷ zs) e
    by (hole p) e = e

module _ (symbols : List (ℕ × ℕ)) where
  -- trees over symbols, joined and cut

  pub over_join : (ts us : Trees ℕ) → AreOver symbols ts → AreOver symbols us → AreOver symbols (join ts us)
  over_join none us o p = p
  over_join (tree f kids rest) us o p = (o.0, o.1, over_join rest us o.2 p)

  pub over_left : (ts us : Trees ℕ) → AreOver symbols (join ts us) → AreOver symbols ts
  over_left none us o = tt
  over_left (tree f kids rest) us o = (o.0, o.1, over_left rest us o.2)

  pub over_right : (ts us : Trees ℕ) → AreOver symbols (join ts us) → AreOver symbols us
  over_right none us o = o
  over_right (tree f kids rest) us o = over_right rest us o.2

  over_first : (n : ℕ) (ts : Trees ℕ) → AreOver symbols ts → AreOver symbols (first_trees n ts)
  over_first n ts o = over_left (first_trees n ts) (other_trees n ts) (subst (AreOver symbols) (sym (join_parts n ts)) o)

  over_other : (n : ℕ) (ts : Trees ℕ) → AreOver symbols ts → AreOver symbols (other_trees n ts)
  over_other n ts o = over_right (first_trees n ts) (other_trees n ts) (subst (AreOver symbols) (sym (join_parts n ts)) o)

  over_parts : (n : ℕ) (ts : Trees ℕ) → AreOver symbols (first_trees n ts) → AreOver symbols (other_trees n ts) → AreOver symbols ts
  over_parts n ts o p = subst (AreOver symbols) (join_parts n ts) (over_join (first_trees n ts) (other_trees n ts) o p)

  module _ {P : Type 0} where
    -- a side over the symbols, filled with trees over them, is over them
    pub over_fill :
        (s : Trees (Symbol ℕ P)) (ts : Trees ℕ) → count ts ≡ length (holes s) → ((x : ℕ × ℕ) → Has (symbols_in (preorder s)) x → Has symbols x) → AreOver symbols ts → AreOver symbols (fill s ts)
    over_fill none ts c w o = tt
    over_fill (tree (label f) kids rest) ts c w o =
        let n : ℕ = length (holes kids) in
        let whole : count ts ≡ n + length (holes rest) = c ∙ length-append (holes kids) (holes rest) in
        let firsts : count (first_trees n ts) ≡ n = count-first n ts (omega (arith, whole)) in
        let others : count (other_trees n ts) ≡ length (holes rest) = count-other n ts ∙ omega (arith, whole) in
        let both : symbols_in (preorder kids ++ preorder rest) ≡ symbols_in (preorder kids) ++ symbols_in (preorder rest) = symbols_append (preorder kids) (preorder rest) in (
          subst (λ (m : ℕ). Has {A = ℕ × ℕ} symbols (f, m)) (sym (count-fill kids (first_trees n ts) firsts)) (w (f, count kids) (inl refl)),
          over_fill kids (first_trees n ts) firsts (λ x h. w x (inr (subst (λ (xs : List (ℕ × ℕ)). Has xs x) (sym both) (has_left (symbols_in (preorder kids)) (symbols_in (preorder rest)) x h)))) (over_first n ts o),
          over_fill rest (other_trees n ts) others (λ x h. w x (inr (subst (λ (xs : List (ℕ × ℕ)). Has xs x) (sym both) (has_right (symbols_in (preorder kids)) (symbols_in (preorder rest)) x h)))) (over_other n ts o),
        )
    over_fill (tree (hole p) kids rest) none c w o = tt
    over_fill (tree (hole p) kids rest) (tree f us ts) c w o =
        let both : symbols_in (preorder kids ++ preorder rest) ≡ symbols_in (preorder kids) ++ symbols_in (preorder rest) = symbols_append (preorder kids) (preorder rest) in (
          o.0,
          o.1,
          over_fill rest ts (omega (arith, c)) (λ x h. w x (subst (λ (xs : List (ℕ × ℕ)). Has xs x) (sym both) (has_right (symbols_in (preorder kids)) (symbols_in (preorder rest)) x h))) o.2,
        )

    -- and where the filled side is, these trees are
    pub over_args : (s : Trees (Symbol ℕ P)) (ts : Trees ℕ) → count ts ≡ length (holes s) → AreOver symbols (fill s ts) → AreOver symbols ts
    over_args none none c o = tt
    over_args none (tree f us ts) c o = absurd (omega (arith, c))
    over_args (tree (label f) kids rest) ts c o =
        let n : ℕ = length (holes kids) in
        let whole : count ts ≡ n + length (holes rest) = c ∙ length-append (holes kids) (holes rest) in
        let firsts : count (first_trees n ts) ≡ n = count-first n ts (omega (arith, whole)) in
        let others : count (other_trees n ts) ≡ length (holes rest) = count-other n ts ∙ omega (arith, whole) in
        over_parts n ts (over_args kids (first_trees n ts) firsts o.1) (over_args rest (other_trees n ts) others o.2)
    over_args (tree (hole p) kids rest) none c o = tt
    over_args (tree (hole p) kids rest) (tree f us ts) c o = (o.0, o.1, over_args rest ts (omega (arith, c)) o.2)
