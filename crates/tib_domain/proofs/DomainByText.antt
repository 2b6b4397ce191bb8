-- The domains of transducers that agree by the texts of their labels agree so.
use Rattle.std.specs.Prelude.{◌≡◌, ℕ, ◌+◌, nat_eq, ◌||◌, ◌&&◌, Bool, true, false, List, [], ◌∷◌, ◌++◌, length, map, refl, if◌then◌else◌}
use Rattle.std.specs.List.{list_any, range_with_len}
use Rattle.std.proofs.Common.{suc, ap, sym, ◌∙◌, subst, inl, inr}
use Rattle.indexmap.specs.IndexSet.{insert_key, insert_all}
use Rattle.tib_lex.specs.Lists.{Along, Distinct}
use Rattle.tib_lex.proofs.Numbers.{nat_eq_cases}
use Rattle.tib_tree.specs.Trees.{Trees, none, tree, count, only, preorder, preorder_of}
use Rattle.tib_grammar.specs.Sides.{Symbol, label, hole, Side as SideFor, holes, holes_of, leaves}
use Rattle.tib_grammar_file.specs.ByText.{HaveOneShape, HaveOneText}
use Rattle.tib_grammar_file.proofs.Renumbering.{Renumbers, renumbering}
use Rattle.tib_transducer.specs.Rules.{variables_of, variables_in}
use Rattle.tib_transducer.specs.TransducerOf.{TransducerOf}
use Rattle.tib_transducer.specs.declared.Variable.{Variable}
use Rattle.tib_transducer.specs.declared.Pair.{Pair}
use Rattle.tib_transducer.specs.declared.TransducerRule.{TransducerRule}
use Rattle.tib_transducer_file.specs.ByText.{AgreeOnLeft, AgreeOnRight, AreOneTransducerRule, AreOneTransducer}
use Rattle.tib_strings.specs.ByText.{AreOneStringRule, AreOneStringTransducer}
use Rattle.tib_strings.specs.RuleValue.{nodes_of}
use Rattle.tib_canon.specs.Canonical.{names_of}
use Rattle.tib_domain.specs.Alphabet.{same_symbol, symbols_in, all_symbols, alphabet}
use Rattle.tib_domain.specs.Reading.{left_out, pairs_from, only_pairs, reading_rule, plain, any_rule, domain_rules, domain_of}
use Rattle.tib_domain.proofs.ReadBack.{one_side}
use Rattle.tib_domain.proofs.Symbols.{symbols_append}
use Rattle.tib_lex.proofs.Alongs.{along_append}

along_mapped : {A B C D : Type 0} (R : A → B → Type 0) (S : C → D → Type 0) (f : A → C) (g : B → D) → ((x : A) (y : B) → R x y → S (f x) (g y)) → (xs : List A) (ys : List B) → Along R xs ys → Along S (map f xs) (map g ys)
along_mapped R S f g to [] [] h = tt
along_mapped R S f g to [] (y ∷ ys) h = absurd h
along_mapped R S f g to (x ∷ xs) [] h = absurd h
along_mapped R S f g to (x ∷ xs) (y ∷ ys) h = (to x y h.0, along_mapped R S f g to xs ys h.1)

-- pairs with one state and one variable
abbrev AreOnePair : Pair ℕ → Pair ℕ → Type 0
AreOnePair x y = (x.state ≡ y.state) × (x.variable ≡ y.variable)

pair_itself : (xs : List (Pair ℕ)) → Along AreOnePair xs xs
pair_itself [] = tt
pair_itself (x ∷ xs) = ((refl, refl), pair_itself xs)

same_pairs : (xs ys : List (Pair ℕ)) → Along AreOnePair xs ys → map (λ (x : Pair ℕ). x.variable) xs ≡ map (λ (x : Pair ℕ). x.variable) ys
same_pairs [] [] h = refl
same_pairs [] (y ∷ ys) h = absurd h
same_pairs (x ∷ xs) [] h = absurd h
same_pairs (x ∷ xs) (y ∷ ys) h = ap (λ (i : ℕ). i ∷ map (λ (z : Pair ℕ). z.variable) xs) h.0.1 ∙ ap (λ (is : List ℕ). y.variable ∷ is) (same_pairs xs ys h.1)

module _ (labels others : List (List ℕ)) (f : ℕ → ℕ) (renumbers : Renumbers labels others f) where
  -- symbols with one text and as many children
  abbrev AreOneSymbol : ℕ × ℕ → ℕ × ℕ → Type 0
  AreOneSymbol x y = HaveOneText labels others x.0 y.0 × (x.1 ≡ y.1)

  test_same : (x y u v : ℕ) → HaveOneText labels others x u → HaveOneText labels others y v → nat_eq x y ≡ nat_eq u v
  test_same x y u v a b = elim (nat_eq_cases x y) [
    | inl e ↦ elim (nat_eq_cases u v) [
      | inl d ↦ e.1 ∙ sym d.1
      | inr d ↦ absurd (d.0 (sym (renumbers.gives x u a) ∙ ap f e.0 ∙ renumbers.gives y v b))
    ]
    | inr e ↦ elim (nat_eq_cases u v) [
      | inl d ↦ absurd (e.0 (renumbers.apart x y (renumbers.gives x u a ∙ d.0 ∙ sym (renumbers.gives y v b))))
      | inr d ↦ e.1 ∙ sym d.1
    ]
  ]

  symbol_test : (x y u v : ℕ × ℕ) → AreOneSymbol x u → AreOneSymbol y v → same_symbol x y ≡ same_symbol u v
  symbol_test x y u v a b =
      ap (λ (c : Bool). c && nat_eq x.1 y.1) (test_same x.0 y.0 u.0 v.0 a.0 b.0)
      ∙ ap (λ (n : ℕ). nat_eq u.0 v.0 && nat_eq n y.1) a.1
      ∙ ap (λ (n : ℕ). nat_eq u.0 v.0 && nat_eq u.1 n) b.1

  any_same : (x u : ℕ × ℕ) → AreOneSymbol x u → (ks js : List (ℕ × ℕ)) → Along AreOneSymbol ks js → list_any (same_symbol x) ks ≡ list_any (same_symbol u) js
  any_same x u a [] [] h = refl
  any_same x u a [] (j ∷ js) h = absurd h
  any_same x u a (k ∷ ks) [] h = absurd h
  any_same x u a (k ∷ ks) (j ∷ js) h =
      ap (λ (c : Bool). c || list_any (same_symbol x) ks) (symbol_test x k u j a h.0) ∙ ap (λ (c : Bool). same_symbol u j || c) (any_same x u a ks js h.1)

  insert_same : (ks js : List (ℕ × ℕ)) (x u : ℕ × ℕ) → Along AreOneSymbol ks js → AreOneSymbol x u → Along AreOneSymbol (insert_key same_symbol ks x) (insert_key same_symbol js u)
  insert_same ks js x u h a = by (list_any (same_symbol x) ks) (list_any (same_symbol u) js) (any_same x u a ks js h)
    where
      by : (b c : Bool) → b ≡ c → Along AreOneSymbol (if b then ks else ks ++ x ∷ []) (if c then js else js ++ u ∷ [])
      by true true e = h
      by true false e = absurd (cc)
      by false true e = absurd (cc)
      by false false e = along_append AreOneSymbol ks (x ∷ []) js (u ∷ []) h (a, tt)

  inserted_same : (xs us ks js : List (ℕ × ℕ)) → Along AreOneSymbol xs us → Along AreOneSymbol ks js → Along AreOneSymbol (insert_all same_symbol ks xs) (insert_all same_symbol js us)
  inserted_same [] [] ks js h k = k
  inserted_same [] (u ∷ us) ks js h k = absurd h
  inserted_same (x ∷ xs) [] ks js h k = absurd h
  inserted_same (x ∷ xs) (u ∷ us) ks js h k = inserted_same xs us (insert_key same_symbol ks x) (insert_key same_symbol js u) h.1 (insert_same ks js x u k h.0)

  -- left sides of one shape
  count_same : (ts us : Trees (Symbol ℕ Variable)) → HaveOneShape (AgreeOnLeft labels others) ts us → count ts ≡ count us
  count_same none none h = refl
  count_same none (tree s below more) h = absurd h
  count_same (tree s kids rest) none h = absurd h
  count_same (tree s kids rest) (tree z below more) h = ap suc (count_same rest more h.2)

  joined_same :
      (kids rest below more : Trees (Symbol ℕ Variable)) → Along AreOneSymbol (symbols_in (preorder kids)) (symbols_in (preorder below)) → Along AreOneSymbol (symbols_in (preorder rest)) (symbols_in (preorder more)) →
      Along AreOneSymbol (symbols_in (preorder kids ++ preorder rest)) (symbols_in (preorder below ++ preorder more))
  joined_same kids rest below more a b =
      subst (λ xs. Along AreOneSymbol xs (symbols_in (preorder below ++ preorder more))) (sym (symbols_append (preorder kids) (preorder rest)))
      (subst (Along AreOneSymbol (symbols_in (preorder kids) ++ symbols_in (preorder rest))) (sym (symbols_append (preorder below) (preorder more)))
      (along_append AreOneSymbol (symbols_in (preorder kids)) (symbols_in (preorder rest)) (symbols_in (preorder below)) (symbols_in (preorder more)) a b))

  symbols_same : (ts us : Trees (Symbol ℕ Variable)) → HaveOneShape (AgreeOnLeft labels others) ts us → Along AreOneSymbol (symbols_in (preorder ts)) (symbols_in (preorder us))
  symbols_same none none h = tt
  symbols_same none (tree s below more) h = absurd h
  symbols_same (tree s kids rest) none h = absurd h
  symbols_same (tree (label g) kids rest) (tree (label k) below more) h = (
    (h.0, count_same kids below h.1),
    joined_same kids rest below more (symbols_same kids below h.1) (symbols_same rest more h.2),
  )
  symbols_same (tree (label g) kids rest) (tree (hole y) below more) h = absurd h.0
  symbols_same (tree (hole x) kids rest) (tree (label k) below more) h = absurd h.0
  symbols_same (tree (hole x) kids rest) (tree (hole y) below more) h = joined_same kids rest below more (symbols_same kids below h.1) (symbols_same rest more h.2)

  left_same : (s z : SideFor ℕ Variable) → HaveOneShape (AgreeOnLeft labels others) (only s) (only z) → Along AreOneSymbol (symbols_in (preorder_of s)) (symbols_in (preorder_of z))
  left_same s z h =
      subst (λ xs. Along AreOneSymbol (symbols_in xs) (symbols_in (preorder_of z))) (one_side s)
      (subst (λ ys. Along AreOneSymbol (symbols_in (preorder (only s))) (symbols_in ys)) (one_side z) (symbols_same (only s) (only z) h))

  all_same : (rs ss : List (TransducerRule ℕ)) → Along (AreOneTransducerRule labels others) rs ss → Along AreOneSymbol (all_symbols rs) (all_symbols ss)
  all_same [] [] h = tt
  all_same [] (s ∷ ss) h = absurd h
  all_same (r ∷ rs) [] h = absurd h
  all_same (r ∷ rs) (s ∷ ss) h =
      along_append AreOneSymbol (symbols_in (preorder_of r.left)) (all_symbols rs) (symbols_in (preorder_of s.left)) (all_symbols ss) (left_same r.left s.left h.0.left) (all_same rs ss h.1)

  -- the alphabets agree symbol by symbol
  alphabet_same : (rs ss : List (TransducerRule ℕ)) → Along (AreOneTransducerRule labels others) rs ss → Along AreOneSymbol (alphabet rs) (alphabet ss)
  alphabet_same rs ss h = inserted_same (all_symbols rs) (all_symbols ss) [] [] (all_same rs ss h) tt

  -- pairs alone agree
  tokens_same : (xs ys : List (Pair ℕ)) → Along AreOnePair xs ys → Along (λ x y. AgreeOnRight labels others x.0 y.0) (nodes_of (only_pairs xs)) (nodes_of (only_pairs ys))
  tokens_same [] [] h = tt
  tokens_same [] (y ∷ ys) h = absurd h
  tokens_same (x ∷ xs) [] h = absurd h
  tokens_same (x ∷ xs) (y ∷ ys) h = (h.0, tokens_same xs ys h.1)

  -- the rules of `any`
  plain_same : (xs : List ℕ) → HaveOneShape (AgreeOnLeft labels others) (leaves (map plain xs)) (leaves (map plain xs))
  plain_same [] = tt
  plain_same (x ∷ xs) = ((refl, tt), tt, plain_same xs)

  any_agrees : (any : ℕ) (x u : ℕ × ℕ) → AreOneSymbol x u → AreOneStringRule labels others (any_rule any x) (any_rule any u)
  any_agrees any x u a =
      record {
        state = refl;
        left = (
          a.0,
          subst (λ (n : ℕ). HaveOneShape (AgreeOnLeft labels others) (leaves (map plain (range_with_len 0 x.1))) (leaves (map plain (range_with_len 0 n)))) a.1 (plain_same (range_with_len 0 x.1)),
          tt,
        );
        right = subst (λ (n : ℕ). Along (λ y z. AgreeOnRight labels others y.0 z.0) (nodes_of (only_pairs (pairs_from any (range_with_len 0 x.1)))) (nodes_of (only_pairs (pairs_from any (range_with_len 0 n))))) a.1
            (tokens_same (pairs_from any (range_with_len 0 x.1)) (pairs_from any (range_with_len 0 x.1)) (pair_itself (pairs_from any (range_with_len 0 x.1))));
        cost = refl;
      }

  -- the rules that read what those of the transducers read
  pairs_same : (ts us : Trees (Symbol ℕ (Pair ℕ))) → HaveOneShape (AgreeOnRight labels others) ts us → Along AreOnePair (holes ts) (holes us)
  pairs_same none none h = tt
  pairs_same none (tree s below more) h = absurd h
  pairs_same (tree s kids rest) none h = absurd h
  pairs_same (tree (label g) kids rest) (tree (label k) below more) h = along_append AreOnePair (holes kids) (holes rest) (holes below) (holes more) (pairs_same kids below h.1) (pairs_same rest more h.2)
  pairs_same (tree (label g) kids rest) (tree (hole y) below more) h = absurd h.0
  pairs_same (tree (hole x) kids rest) (tree (label k) below more) h = absurd h.0
  pairs_same (tree (hole x) kids rest) (tree (hole y) below more) h = (h.0, pairs_same rest more h.2)

  abbrev HaveOneNumber : Variable → Variable → Type 0
  HaveOneNumber x y = x.number ≡ y.number

  variables_same : (ts us : Trees (Symbol ℕ Variable)) → HaveOneShape (AgreeOnLeft labels others) ts us → Along HaveOneNumber (holes ts) (holes us)
  variables_same none none h = tt
  variables_same none (tree s below more) h = absurd h
  variables_same (tree s kids rest) none h = absurd h
  variables_same (tree (label g) kids rest) (tree (label k) below more) h = along_append HaveOneNumber (holes kids) (holes rest) (holes below) (holes more) (variables_same kids below h.1) (variables_same rest more h.2)
  variables_same (tree (label g) kids rest) (tree (hole y) below more) h = absurd h.0
  variables_same (tree (hole x) kids rest) (tree (label k) below more) h = absurd h.0
  variables_same (tree (hole x) kids rest) (tree (hole y) below more) h = (h.0.0, variables_same rest more h.2)

  left_out_same : (used : List ℕ) (xs ys : List Variable) → Along HaveOneNumber xs ys → left_out used xs ≡ left_out used ys
  left_out_same used [] [] h = refl
  left_out_same used [] (y ∷ ys) h = absurd h
  left_out_same used (x ∷ xs) [] h = absurd h
  left_out_same used (x ∷ xs) (y ∷ ys) h =
      ap (λ (i : ℕ). if list_any (nat_eq i) used then left_out used xs else i ∷ left_out used xs) h.0
      ∙ ap (λ (is : List ℕ). if list_any (nat_eq y.number) used then is else y.number ∷ is) (left_out_same used xs ys h.1)

  reading_agrees : (any : ℕ) (r s : TransducerRule ℕ) → AreOneTransducerRule labels others r s → AreOneStringRule labels others (reading_rule any r) (reading_rule any s)
  reading_agrees any r s h =
      let pairs : Along AreOnePair (holes_of r.right) (holes_of s.right) = pairs_same (only r.right) (only s.right) h.right in
      let rest : left_out (variables_in r.right) (variables_of r.left) ≡ left_out (variables_in s.right) (variables_of s.left) =
      ap (λ (used : List ℕ). left_out used (variables_of r.left)) (same_pairs (holes_of r.right) (holes_of s.right) pairs)
      ∙ left_out_same (variables_in s.right) (variables_of r.left) (variables_of s.left) (variables_same (only r.left) (only s.left) h.left)
      in
      let left : List (Pair ℕ) = pairs_from any (left_out (variables_in r.right) (variables_of r.left)) in
      let more : Along AreOnePair left (pairs_from any (left_out (variables_in s.right) (variables_of s.left))) =
      subst (λ (is : List ℕ). Along AreOnePair left (pairs_from any is)) rest (pair_itself left)
      in
      record {
        state = h.state;
        left = h.left;
        right = tokens_same (holes_of r.right ++ left) (holes_of s.right ++ pairs_from any (left_out (variables_in s.right) (variables_of s.left)))
            (along_append AreOnePair (holes_of r.right) left (holes_of s.right) (pairs_from any (left_out (variables_in s.right) (variables_of s.left))) pairs more);
        cost = h.cost;
      }

  rules_agree : (any : ℕ) (rs ss : List (TransducerRule ℕ)) → Along (AreOneTransducerRule labels others) rs ss → Along (AreOneStringRule labels others) (domain_rules any rs) (domain_rules any ss)
  rules_agree any rs ss h =
      along_append (AreOneStringRule labels others) (map (reading_rule any) rs) (map (any_rule any) (alphabet rs)) (map (reading_rule any) ss) (map (any_rule any) (alphabet ss))
      (along_mapped (AreOneTransducerRule labels others) (AreOneStringRule labels others) (reading_rule any) (reading_rule any) (reading_agrees any) rs ss h)
      (along_mapped AreOneSymbol (AreOneStringRule labels others) (any_rule any) (any_rule any) (any_agrees any) (alphabet rs) (alphabet ss) (alphabet_same rs ss h))

  domain_agrees : (t u : TransducerOf) → AreOneTransducer labels others t u → AreOneStringTransducer labels others (domain_of t) (domain_of u)
  domain_agrees t u h = record {
    names = ap (λ (ns : List (List ℕ)). names_of (length ns + 1)) h.names;
    rules = subst (λ (n : ℕ). Along (AreOneStringRule labels others) (domain_rules (length t.names) t.rules) (domain_rules n u.rules)) (ap length h.names) (rules_agree (length t.names) t.rules u.rules h.rules);
  }

-- over tables of distinct labels
pub domain_by_text :
    (labels others : List (List ℕ)) → Distinct labels → Distinct others → (t u : TransducerOf) → AreOneTransducer labels others t u → AreOneStringTransducer labels others (domain_of t) (domain_of u)
domain_by_text labels others apart different t u h =
    let r = renumbering labels others apart different in
    domain_agrees labels others r.0 r.1 t u h
