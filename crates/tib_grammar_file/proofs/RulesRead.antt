-- The parts of tokens are those of the rule that they spell.
use Rattle.std.proofs.Common.{◌≡◌, ℕ, ◌-◌, ◌≤◌, List, [], ◌∷◌, ◌++◌, length, take, drop, refl, ap, sym, ◌∙◌, subst, arith, append-nil, Option, Bool, true, false, zero, suc}
use Rattle.std.specs.Prelude.{Some, None}
use Rattle.std.proofs.lemmas.List.{length-append, take-append-drop}
use Rattle.std.proofs.Math.Seq.{drop-append_seam, take-append_seam}
use Rattle.tib_lex.specs.Grammar.{Word, open_, close, hash, arrow, name, label}
use Rattle.tib_tree.specs.Written.{Written, end, leaf, head, word_for, spell, count, items, Item}
use Rattle.tib_tree.specs.Machine.{nodes_of}
use Rattle.tib_tree.proofs.Read.{tree_back, tree_forth}
use Rattle.tib_grammar_file.specs.Rule.{has_dot, weight_words, Parts, parts, SpellsRule, last_two, weight_in, front_of, with_nodes, right_parts, plain_parts, head_of, parts_with, parts_of}
use Rattle.tib_grammar_file.proofs.Common.{plain}

-- trees have no hash
abbrev pub HasNoHash : List Word → Type 0
HasNoHash [] = Unit {0}
HasNoHash (hash ∷ words) = ⊥
HasNoHash (word ∷ words) = HasNoHash words

no_hash_append : (xs ys : List Word) → HasNoHash xs → HasNoHash ys → HasNoHash (xs ++ ys)
no_hash_append [] ys h k = k
no_hash_append (hash ∷ xs) ys h k = absurd h
no_hash_append (open_ ∷ xs) ys h k = no_hash_append xs ys h k
no_hash_append (close ∷ xs) ys h k = no_hash_append xs ys h k
no_hash_append (arrow ∷ xs) ys h k = no_hash_append xs ys h k
no_hash_append (name t ∷ xs) ys h k = no_hash_append xs ys h k
no_hash_append (label t ∷ xs) ys h k = no_hash_append xs ys h k

no_hash_word : (q : Bool) (t : List ℕ) (words : List Word) → HasNoHash words → HasNoHash (word_for q t ∷ words)
no_hash_word true t words h = h
no_hash_word false t words h = h

-- the words of a tree have none
pub no_hash : (f : Written) → HasNoHash (spell f)
no_hash end = tt
no_hash (leaf q t rest) = no_hash_word q t (spell rest) (no_hash rest)
no_hash (head q t kids rest) = no_hash_word q t (open_ ∷ (spell kids ++ (close ∷ spell rest))) (no_hash_append (spell kids) (close ∷ spell rest) (no_hash kids) (no_hash rest))

no_hash_drop : (n : ℕ) (words : List Word) → HasNoHash words → HasNoHash (drop n words)
no_hash_drop zero words h = h
no_hash_drop (suc n) [] h = tt
no_hash_drop (suc n) (hash ∷ words) h = absurd h
no_hash_drop (suc n) (open_ ∷ words) h = no_hash_drop n words h
no_hash_drop (suc n) (close ∷ words) h = no_hash_drop n words h
no_hash_drop (suc n) (arrow ∷ words) h = no_hash_drop n words h
no_hash_drop (suc n) (name t ∷ words) h = no_hash_drop n words h
no_hash_drop (suc n) (label t ∷ words) h = no_hash_drop n words h

no_weight : (words : List Word) → HasNoHash words → last_two words ≡ None
no_weight [] h = refl
no_weight (hash ∷ words) h = absurd h
no_weight (open_ ∷ words) h = refl
no_weight (close ∷ words) h = refl
no_weight (arrow ∷ words) h = refl
no_weight (name t ∷ words) h = refl
no_weight (label t ∷ words) h = refl

-- the words of a tree and a weight are split again
pub weight_read : (words : List Word) (w : Option (List ℕ)) → HasNoHash words → weight_in (words ++ weight_words w) ≡ w
weight_read words None h = rw (append-nil words) (no_weight (drop (length words - 2) words) (no_hash_drop (length words - 2) words h))
weight_read words (Some t) h =
    let l : length (words ++ hash ∷ (name t ∷ [])) - 2 ≡ length words = omega (arith, length-append words (hash ∷ (name t ∷ []))) in
    rw (l, drop-append_seam words (hash ∷ (name t ∷ []))) refl

-- and the words are in front of the weight
pub front_read : (words : List Word) (w : Option (List ℕ)) → front_of w (words ++ weight_words w) ≡ words
front_read words None =
    let n : length words - 0 ≡ length words = omega arith in
    rw (append-nil words, n) (take_whole words)
  where
    take_whole : (words : List Word) → take (length words) words ≡ words
    take_whole [] = refl
    take_whole (w ∷ words) = ap (λ (ws : List Word). w ∷ ws) (take_whole words)
front_read words (Some t) =
    let l : length (words ++ hash ∷ (name t ∷ [])) - 2 ≡ length words = omega (arith, length-append words (hash ∷ (name t ∷ []))) in
    rw (l) (take-append_seam words (hash ∷ (name t ∷ [])))

-- what was split was joined
last_tells : (words : List Word) (t : List ℕ) → last_two words ≡ Some t → words ≡ hash ∷ (name t ∷ [])
last_tells [] t e = let bad : None ≡ Some t = e in cc
last_tells (open_ ∷ words) t e = let bad : None ≡ Some t = e in cc
last_tells (close ∷ words) t e = let bad : None ≡ Some t = e in cc
last_tells (arrow ∷ words) t e = let bad : None ≡ Some t = e in cc
last_tells (name u ∷ words) t e = let bad : None ≡ Some t = e in cc
last_tells (label u ∷ words) t e = let bad : None ≡ Some t = e in cc
last_tells (hash ∷ []) t e = let bad : None ≡ Some t = e in cc
last_tells (hash ∷ (open_ ∷ words)) t e = let bad : None ≡ Some t = e in cc
last_tells (hash ∷ (close ∷ words)) t e = let bad : None ≡ Some t = e in cc
last_tells (hash ∷ (arrow ∷ words)) t e = let bad : None ≡ Some t = e in cc
last_tells (hash ∷ (hash ∷ words)) t e = let bad : None ≡ Some t = e in cc
last_tells (hash ∷ (label u ∷ words)) t e = let bad : None ≡ Some t = e in cc
last_tells (hash ∷ (name u ∷ (v ∷ words))) t e = let bad : None ≡ Some t = e in cc
last_tells (hash ∷ (name u ∷ [])) t e = let same : Some u ≡ Some t = e in cc

-- words are those in front of a weight, and the weight
pub together : (words : List Word) (w : Option (List ℕ)) → weight_in words ≡ w → front_of w words ++ weight_words w ≡ words
together words None e = append-nil (take (length words - 0) words) ∙ take_more (length words - 0) words (omega arith)
  where
    take_more : (n : ℕ) (words : List Word) → length words ≤ n → take n words ≡ words
    take_more zero [] h = refl
    take_more (suc n) [] h = refl
    take_more zero (w ∷ words) h = absurd (omega arith)
    take_more (suc n) (w ∷ words) h = ap (λ (ws : List Word). w ∷ ws) (take_more n words (omega arith))
together words (Some t) e = ap (λ (ws : List Word). take (length words - 2) words ++ ws) (sym (last_tells (drop (length words - 2) words) t e)) ∙ take-append-drop (length words - 2) words

right_forth : (left : List ℕ) (f : Written) (is : List Item) (w : Option (List ℕ)) → count f ≡ 1 → items f ≡ is → right_parts left (spell f ++ weight_words w) ≡ Some (parts left is w)
right_forth left f is w one nodes =
    ap (λ (v : Option (List ℕ)). with_nodes left v (nodes_of (front_of v (spell f ++ weight_words w)))) (weight_read (spell f) w (no_hash f))
    ∙ ap (λ (ws : List Word). with_nodes left w (nodes_of ws)) (front_read (spell f) w)
    ∙ ap (with_nodes left w) (tree_forth f one ∙ ap Some nodes)

pub rule_forth : (words : List Word) (rule : Parts) → SpellsRule words rule → parts_of words ≡ Some rule
unfolding parts_of
rule_forth words rule s =
    sym (ap (λ (ws : List Word). parts_with (head_of ws)) s.spelled)
    ∙ plain (has_dot rule.left) rule.left (spell s.tree ++ weight_words rule.weight) s.plain
    ∙ right_forth rule.left s.tree rule.nodes rule.weight s.one s.nodes

right_back : (left : List ℕ) (words : List Word) (w : Option (List ℕ)) (o : Option (List Item)) (rule : Parts) → has_dot left ≡ false → weight_in words ≡ w → nodes_of (front_of w words) ≡ o → with_nodes left w o ≡ Some rule → SpellsRule (name left ∷ (arrow ∷ words)) rule
right_back left words w None rule p we n e = let bad : None ≡ Some rule = e in cc
right_back left words w (Some is) rule p we n e =
    let same : parts left is w ≡ rule = cc in
    let t = tree_back (front_of w words) is n in
    subst (λ (r : Parts). SpellsRule (name left ∷ (arrow ∷ words)) r) same
    (record {
      plain = p;
      tree = t.tree;
      one = t.one;
      nodes = t.nodes;
      spelled = ap (λ (ws : List Word). name left ∷ (arrow ∷ ws)) (ap (λ (ws : List Word). ws ++ weight_words w) t.spelled ∙ together words w we);
    })

plain_back : (b : Bool) (left : List ℕ) (words : List Word) (rule : Parts) → has_dot left ≡ b → plain_parts b left words ≡ Some rule → SpellsRule (name left ∷ (arrow ∷ words)) rule
plain_back true left words rule h e = let bad : None ≡ Some rule = e in cc
plain_back false left words rule h e = right_back left words (weight_in words) (nodes_of (front_of (weight_in words) words)) rule h refl refl e

pub rule_back : (words : List Word) (rule : Parts) → parts_of words ≡ Some rule → SpellsRule words rule
unfolding parts_of
rule_back [] rule e = let bad : None ≡ Some rule = e in cc
rule_back (open_ ∷ words) rule e = let bad : None ≡ Some rule = e in cc
rule_back (close ∷ words) rule e = let bad : None ≡ Some rule = e in cc
rule_back (hash ∷ words) rule e = let bad : None ≡ Some rule = e in cc
rule_back (arrow ∷ words) rule e = let bad : None ≡ Some rule = e in cc
rule_back (label t ∷ words) rule e = let bad : None ≡ Some rule = e in cc
rule_back (name t ∷ []) rule e = let bad : None ≡ Some rule = e in cc
rule_back (name t ∷ (open_ ∷ words)) rule e = let bad : None ≡ Some rule = e in cc
rule_back (name t ∷ (close ∷ words)) rule e = let bad : None ≡ Some rule = e in cc
rule_back (name t ∷ (hash ∷ words)) rule e = let bad : None ≡ Some rule = e in cc
rule_back (name t ∷ (name u ∷ words)) rule e = let bad : None ≡ Some rule = e in cc
rule_back (name t ∷ (label u ∷ words)) rule e = let bad : None ≡ Some rule = e in cc
rule_back (name t ∷ (arrow ∷ words)) rule e = plain_back (has_dot t) t words rule refl e

pub rules_read : (words : List Word) (rule : Parts) → (parts_of words ≡ Some rule → SpellsRule words rule) × (SpellsRule words rule → parts_of words ≡ Some rule)
rules_read words rule = (rule_back words rule, rule_forth words rule)
