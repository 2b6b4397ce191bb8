-- The steps of the code: symbols gathered item by item and rule by rule, a label over plain
-- variables, and the tokens of a rule.
use Rattle.std.specs.declared.result.Result.{Result}
use Rattle.std.specs.List.{range_with_len}
use Rattle.std.proofs.Common.{◌≡◌, ℕ, ◌+◌, ◌<◌, Err, List, [], ◌∷◌, ◌++◌, length, map, drop, get_or, zero, suc, refl, ap, sym, ◌∙◌, arith}
use Rattle.std.proofs.lemmas.List.{map-append, get_or_default}
use Rattle.std.proofs.lemmas.List.FromFn.{map-range_with_len_more, length-map-range_with_len}
use Rattle.indexmap.specs.IndexSet.{insert_key, insert_all}
use Rattle.tib_tree.specs.declared.preorder.ShapeError.{ShapeError}
use Rattle.tib_tree.specs.declared.preorder.ShapeError.TheVariants.{NotATree, OutOfMemory}
use Rattle.tib_tree.specs.Trees.{only, parse, parse_of, preorder, preorder_of}
use Rattle.tib_grammar.specs.Sides.{Symbol, label, hole, Side as SideFor, holes_of, leaves, over}
use Rattle.tib_grammar.specs.Items.{pairs_of, holes_in}
use Rattle.tib_grammar.specs.declared.Item.{Item}
use Rattle.tib_grammar.specs.declared.Item.TheVariants.{Label, Hole}
use Rattle.tib_grammar.proofs.Holes.{holes_of_items}
use Rattle.tib_grammar.proofs.Sides.{count-leaves, preorder-leaves}
use Rattle.tib_transducer.specs.Rules.{variables_of, variables_in}
use Rattle.tib_transducer.specs.Counting.{numbers_in}
use Rattle.tib_transducer.specs.declared.Variable.{Variable}
use Rattle.tib_transducer.specs.declared.Pair.{Pair}
use Rattle.tib_transducer.specs.declared.TransducerRule.{TransducerRule}
use Rattle.tib_strings.specs.declared.Word.{Word as Token}
use Rattle.tib_strings.specs.declared.Word.TheVariants as Token_
use Rattle.tib_domain.specs.Alphabet.{same_symbol, symbols_in, all_symbols}
use Rattle.tib_domain.specs.Reading.{left_out, pairs_from, only_pairs, reading_rule, plain}
use Rattle.tib_domain.proofs.LeftOut.{range_long}
use Rattle.tib_domain.proofs.Symbols.{symbols_append}

inserted_append : (ks xs ys : List (ℕ × ℕ)) → insert_all same_symbol ks (xs ++ ys) ≡ insert_all same_symbol (insert_all same_symbol ks xs) ys
inserted_append ks [] ys = refl
inserted_append ks (x ∷ xs) ys = inserted_append (insert_key same_symbol ks x) xs ys

next_one : {A : Type 0} (xs : List A) (i : ℕ) (x : A) → i < length xs → x ≡ get_or xs i x → drop i xs ≡ x ∷ drop (suc i) xs
next_one [] i x h e = absurd (omega arith)
next_one (y ∷ xs) zero x h e = ap (λ z. z ∷ xs) (sym e)
next_one (y ∷ xs) (suc i) x h e = next_one xs i x (omega arith) e

-- the symbols of one more item
symbols_next : (item : Item Variable) (items : List (Item Variable)) → symbols_in (pairs_of (item ∷ items)) ≡ symbols_in (pairs_of (item ∷ [])) ++ symbols_in (pairs_of items)
symbols_next item items = symbols_append (pairs_of (item ∷ [])) (pairs_of items)

pub item_gathered :
    (items : List (Item Variable)) (i : ℕ) (d : Item Variable) → i < length items → (old new all : List (ℕ × ℕ)) → new ≡ insert_all same_symbol old (symbols_in (pairs_of (get_or items i d ∷ []))) →
    insert_all same_symbol old (symbols_in (pairs_of (drop i items))) ≡ all → insert_all same_symbol new (symbols_in (pairs_of (drop (i + 1) items))) ≡ all
item_gathered items i d h old new all made before =
    let one : i + 1 ≡ suc i = omega arith in
    let item : Item Variable = get_or items i d in
    let rest : List (Item Variable) = drop (suc i) items in
    ap (λ (j : ℕ). insert_all same_symbol new (symbols_in (pairs_of (drop j items)))) one
    ∙ ap (λ (ks : List (ℕ × ℕ)). insert_all same_symbol ks (symbols_in (pairs_of rest))) made
    ∙ sym (inserted_append old (symbols_in (pairs_of (item ∷ []))) (symbols_in (pairs_of rest)))
    ∙ sym (ap (λ (xs : List (ℕ × ℕ)). insert_all same_symbol old xs) (symbols_next item rest))
    ∙ sym (ap (λ (xs : List (Item Variable)). insert_all same_symbol old (symbols_in (pairs_of xs))) (next_one items i item h (get_or_default items i d item h)))
    ∙ before

-- one more rule
pub rule_gathered :
    (rules : List (TransducerRule ℕ)) (i : ℕ) (rule : TransducerRule ℕ) → i < length rules → rule ≡ get_or rules i rule → (items : List (Item Variable)) → pairs_of items ≡ preorder_of rule.left →
    (old new all : List (ℕ × ℕ)) → new ≡ insert_all same_symbol old (symbols_in (pairs_of items)) → insert_all same_symbol old (all_symbols (drop i rules)) ≡ all →
    insert_all same_symbol new (all_symbols (drop (i + 1) rules)) ≡ all
rule_gathered rules i rule h e items same old new all made before =
    let one : i + 1 ≡ suc i = omega arith in
    ap (λ (j : ℕ). insert_all same_symbol new (all_symbols (drop j rules))) one
    ∙ ap (λ (ks : List (ℕ × ℕ)). insert_all same_symbol ks (all_symbols (drop (suc i) rules))) (made ∙ ap (λ xs. insert_all same_symbol old (symbols_in xs)) same)
    ∙ sym (inserted_append old (symbols_in (preorder_of rule.left)) (all_symbols (drop (suc i) rules)))
    ∙ sym (ap (λ (rs : List (TransducerRule ℕ)). insert_all same_symbol old (all_symbols rs)) (next_one rules i rule h e))
    ∙ before

-- the items of a tree are not refused
pub no_fault :
    {T P : Type 0} (r : Result T ShapeError) (Is : SideFor ℕ P → Type 0) (e : ShapeError) → r ≡ Err e → (r ≡ Err NotATree → (s : SideFor ℕ P) → Is s → ⊥) → (r ≡ Err OutOfMemory → ⊥) →
    (s : SideFor ℕ P) → Is s → ⊥
no_fault r Is NotATree at not_a_tree no_memory s is = not_a_tree at s is
no_fault r Is OutOfMemory at not_a_tree no_memory s is = no_memory at

-- a side is that of its preorder
pub side_is : {P : Type 0} (s t : SideFor ℕ P) → preorder_of s ≡ preorder_of t → s ≡ t
side_is {P} s t e =
    let same : only s ≡ only t = sym (parse_of s) ∙ ap parse e ∙ parse_of t in
    let root : s.label ≡ t.label = cc same in
    let below : s.kids ≡ t.kids = cc same in
    ap (λ (x : Symbol ℕ P). record { label = x; kids = s.kids }) root ∙ ap (λ ks. record { label = t.label; kids = ks }) below

-- the items of a label over this many plain variables are its preorder
pub plain_items :
    (f n m : ℕ) (items : List (Item Variable)) → m ≡ n → items ≡ Label f n ∷ map (λ (i : ℕ). Hole (plain i)) (range_with_len 0 m) → pairs_of items ≡ preorder_of (over f (map plain (range_with_len 0 n)))
plain_items f n m items at e =
    let is : List ℕ = range_with_len 0 n in
    let long : n ≡ length (map plain is) = sym (length_plain is ∙ range_long 0 n) in
    ap pairs_of (e ∙ ap (λ (k : ℕ). Label f n ∷ map (λ (i : ℕ). Hole (plain i)) (range_with_len 0 k)) at)
    ∙ ap (λ xs. (label f, n) ∷ xs) (pairs_plain is ∙ sym (preorder-leaves ℕ (map plain is)))
    ∙ ap (λ (k : ℕ). (label f, k) ∷ preorder (leaves (map plain is))) (long ∙ sym (count-leaves ℕ (map plain is)))
  where
    length_plain : (is : List ℕ) → length (map plain is) ≡ length is
    length_plain [] = refl
    length_plain (i ∷ is) = ap suc (length_plain is)

    pairs_plain : (is : List ℕ) → pairs_of (map (λ (i : ℕ). Hole (plain i)) is) ≡ map (λ (x : Variable). (hole x, 0)) (map plain is)
    pairs_plain [] = refl
    pairs_plain (i ∷ is) = ap (λ xs. (hole (plain i), 0) ∷ xs) (pairs_plain is)

-- one more number of a range
pub mapped_more : {A : Type 0} (f : ℕ → A) (n : ℕ) → map f (range_with_len 0 (n + 1)) ≡ map f (range_with_len 0 n) ++ f n ∷ []
mapped_more f n = let same : 0 + n ≡ n = omega arith in map-range_with_len_more f 0 n n same

pub pairs_more : (q n : ℕ) → only_pairs (pairs_from q (range_with_len 0 (n + 1))) ≡ only_pairs (pairs_from q (range_with_len 0 n)) ++ Token_.Hole (record { state = q; variable = n }) ∷ []
pairs_more q n =
    ap only_pairs (mapped_more (λ (i : ℕ). record { state = q; variable = i }) n) ∙ map-append _ (pairs_from q (range_with_len 0 n)) (record { state = q; variable = n } ∷ [])

-- as many items as variables, and the label
pub items_long : (f n m : ℕ) (items : List (Item Variable)) → items ≡ Label f n ∷ map (λ (i : ℕ). Hole (plain i)) (range_with_len 0 m) → length items ≡ m + 1
items_long f n m items e =
    let long : length items ≡ suc (length (map (λ (i : ℕ). Hole (plain i)) (range_with_len 0 m))) = ap length e in
    omega (arith, long, length-map-range_with_len (λ (i : ℕ). Hole (plain i)) 0 m)

-- the tokens of a rule that reads what a rule of the transducer reads
pub tokens_are :
    (any : ℕ) (r : TransducerRule ℕ) (left : List (Item Variable)) (right : List (Item (Pair ℕ))) → pairs_of left ≡ preorder_of r.left → pairs_of right ≡ preorder_of r.right →
    (first second : List (Token ℕ)) → first ≡ only_pairs (holes_in right) → second ≡ first ++ only_pairs (pairs_from any (left_out (numbers_in right) (holes_in left))) → second ≡ (reading_rule any r).right
tokens_are any r left right e k first second a b =
    let on_right : holes_in right ≡ holes_of r.right = sym (holes_of_items right r.right k) in
    let on_left : holes_in left ≡ variables_of r.left = sym (holes_of_items left r.left e) in
    b ∙ ap (λ (ws : List (Token ℕ)). ws ++ only_pairs (pairs_from any (left_out (numbers_in right) (holes_in left)))) a
    ∙ ap (λ (xs : List (Pair ℕ)). only_pairs xs ++ only_pairs (pairs_from any (left_out (map (λ (x : Pair ℕ). x.variable) xs) (holes_in left)))) on_right
    ∙ ap (λ (vs : List Variable). only_pairs (holes_of r.right) ++ only_pairs (pairs_from any (left_out (variables_in r.right) vs))) on_left
    ∙ sym (map-append _ (holes_of r.right) (pairs_from any (left_out (variables_in r.right) (variables_of r.left))))
