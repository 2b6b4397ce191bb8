-- Translations as preorders.
use Rattle.std.specs.Prelude.{◌≡◌, ℕ, ◌+◌, List, [], ◌∷◌, ◌++◌, length, Option, None, Some, refl}
use Rattle.std.proofs.Common.{zero, suc, arith, ap, sym, ◌∙◌, length-append, append_assoc}
use Rattle.tib_tree.specs.Trees.{Trees, none, tree, only, count, join, preorder, preorder_of, first_trees, other_trees, join_parts, join-none, count-first, count-other}
use Rattle.tib_lex.proofs.Lists.{append_nil}
use Rattle.tib_grammar.specs.Sides.{Symbol, label, hole, holes, holes_of, HolesAreLeaves}
use Rattle.tib_transducer.specs.Rules.{transducer_rule, states_in, variables_in}
use Rattle.tib_transducer.specs.Run.{pick}
use Rattle.tib_key_edges.specs.Translations.{plug, AreTranslations, translated}
use Rattle.tib_key_edges.specs.Flat.{substituted}
use Rattle.tib_key_edges.specs.Completions.{under}
use Rattle.tib_transducer.specs.declared.Pair.{Pair}
use Rattle.tib_transducer.specs.declared.TransducerRule.{TransducerRule}
use Rattle.tib_key_edges.proofs.Filling.{count-plug}
use Rattle.std.proofs.lemmas.List.{length-map}
use Rattle.tib_key_edges.proofs.Translating.{count-translated}

join_assoc : {A : Type 0} (ts us vs : Trees A) → join (join ts us) vs ≡ join ts (join us vs)
join_assoc none us vs = refl
join_assoc (tree f kids rest) us vs = ap (tree f kids) (join_assoc rest us vs)

-- sides in place of holes, before more of a preorder
plugged_before :
    {P Q : Type 0} (s : Trees (Symbol ℕ P)) (us vs : Trees (Symbol ℕ Q)) (xs : List (Symbol ℕ P × ℕ)) → HolesAreLeaves s → count us ≡ length (holes s) →
    substituted (preorder s ++ xs) (join us vs) ≡ preorder (plug s us) ++ substituted xs vs
plugged_before none none vs xs h e = refl
plugged_before none (tree t below us) vs xs h e = absurd (omega arith)
plugged_before (tree (hole p) none rest) none vs xs h e = absurd (omega arith)
plugged_before (tree (hole p) none rest) (tree t below us) vs xs h e =
    ap (λ ys. (t, count below) ∷ (preorder below ++ ys)) (plugged_before rest us vs xs h (omega arith))
    ∙ ap (λ ys. (t, count below) ∷ ys) (sym (append_assoc (preorder below) (preorder (plug rest us)) (substituted xs vs)))
plugged_before (tree (hole p) (tree t k m) rest) us vs xs h e = absurd h
plugged_before {P} {Q} (tree (label f) kids rest) us vs xs h e =
    let long : length (holes kids ++ holes rest) ≡ length (holes kids) + length (holes rest) = length-append (holes kids) (holes rest) in
    let first_long : count (first_trees (length (holes kids)) us) ≡ length (holes kids) = count-first (length (holes kids)) us (omega (arith, e, long)) in
    let other_long : count (other_trees (length (holes kids)) us) ≡ length (holes rest) = omega (arith, count-other (length (holes kids)) us, e, long) in
    let one : Trees (Symbol ℕ Q) = first_trees (length (holes kids)) us in
    let two : Trees (Symbol ℕ Q) = other_trees (length (holes kids)) us in
    let parts : join us vs ≡ join one (join two vs) = ap (λ z. join z vs) (sym (join_parts (length (holes kids)) us)) ∙ join_assoc one two vs in
    let order : (preorder kids ++ preorder rest) ++ xs ≡ preorder kids ++ (preorder rest ++ xs) = append_assoc (preorder kids) (preorder rest) xs in
    let inner : substituted ((preorder kids ++ preorder rest) ++ xs) (join us vs) ≡ preorder (plug kids one) ++ (preorder (plug rest two) ++ substituted xs vs) =
    ap (λ ys. substituted ys (join us vs)) order
    ∙ ap (substituted (preorder kids ++ (preorder rest ++ xs))) parts
    ∙ plugged_before kids one (join two vs) (preorder rest ++ xs) h.0 first_long
    ∙ ap (λ ys. preorder (plug kids one) ++ ys) (plugged_before rest two vs xs h.1 other_long)
    in
    let many : count kids ≡ count (plug kids one) = sym (count-plug kids one first_long) in
    ap (λ n. (label f, n) ∷ substituted ((preorder kids ++ preorder rest) ++ xs) (join us vs)) many
    ∙ ap (λ ys. (label f, count (plug kids one)) ∷ ys) (inner ∙ sym (append_assoc (preorder (plug kids one)) (preorder (plug rest two)) (substituted xs vs)))

plugged_preorder : {P Q : Type 0} (s : Trees (Symbol ℕ P)) (us : Trees (Symbol ℕ Q)) → HolesAreLeaves s → count us ≡ length (holes s) → preorder (plug s us) ≡ substituted (preorder s) us
plugged_preorder {P} {Q} s us h e =
    sym (append_nil (preorder (plug s us)))
    ∙ sym (plugged_before s us none [] h e)
    ∙ ap (λ ys. substituted ys (join us none)) (append_nil (preorder s))
    ∙ ap (substituted (preorder s)) (join-none us)

-- the translation by a rule, as a preorder
pub translates_in_preorder :
    (two : List (TransducerRule ℕ)) (p f n : ℕ) (kids : Trees (Symbol ℕ (Pair ℕ))) (below : Trees (Option ℕ)) → HolesAreLeaves (only (transducer_rule two n).right) →
    AreTranslations two (p ∷ []) (tree (label f) kids none) (tree (Some n) below none) →
    preorder (translated two (p ∷ []) (tree (label f) kids none) (tree (Some n) below none))
    ≡ substituted (preorder_of (transducer_rule two n).right) (translated two (states_in (transducer_rule two n).right) (pick kids (variables_in (transducer_rule two n).right)) below)
translates_in_preorder two p f n kids below h t =
    let inner : Trees (Symbol ℕ (Pair (ℕ × ℕ))) = translated two (states_in (transducer_rule two n).right) (pick kids (variables_in (transducer_rule two n).right)) below in
    let long : count (translated two (states_in (transducer_rule two n).right) (pick kids (variables_in (transducer_rule two n).right)) below) ≡ length (holes_of (transducer_rule two n).right) =
    count-translated two below (states_in (transducer_rule two n).right) (pick kids (variables_in (transducer_rule two n).right)) t.3 ∙ length-map (holes_of (transducer_rule two n).right) (λ x. x.state)
    in
    ap preorder (join-none (plug (only (transducer_rule two n).right) inner))
    ∙ plugged_preorder (only (transducer_rule two n).right) inner h long
    ∙ ap (λ ys. substituted ys inner) (ap (λ ys. ((transducer_rule two n).right.label, count (transducer_rule two n).right.kids) ∷ ys) (append_nil (preorder (transducer_rule two n).right.kids)))

-- translations of sides before others
translated_join :
    {P : Type 0} (two : List (TransducerRule ℕ)) (c d : Trees (Option ℕ)) (ps qs : List ℕ) (s t : Trees (Symbol ℕ (Pair P))) → AreTranslations two ps s c →
    translated two (ps ++ qs) (join s t) (join c d) ≡ join (translated two ps s c) (translated two qs t d)
translated_join two none d [] qs none t h = refl
translated_join two none d [] qs (tree s kids rest) t h = absurd h
translated_join two none d (p ∷ ps) qs none t h = absurd h
translated_join two none d (p ∷ ps) qs (tree s kids rest) t h = absurd h
translated_join two (tree c below more) d [] qs none t h = absurd h
translated_join two (tree c below more) d [] qs (tree s kids rest) t h = absurd h
translated_join two (tree c below more) d (p ∷ ps) qs none t h = absurd h
translated_join two (tree None none more) d (p ∷ ps) qs (tree (hole x) kids rest) t h =
    ap (tree (hole (record { state = (x.state, p); variable = x.variable })) none) (translated_join two more d ps qs rest t h)
translated_join two (tree None (tree e b m) more) d (p ∷ ps) qs (tree (hole x) kids rest) t h = absurd h
translated_join two (tree (Some n) below more) d (p ∷ ps) qs (tree (hole x) kids rest) t h = absurd h
translated_join two (tree None below more) d (p ∷ ps) qs (tree (label f) kids rest) t h = absurd h
translated_join two (tree (Some n) below more) d (p ∷ ps) qs (tree (label f) kids rest) t h =
    ap (join (plug (only (transducer_rule two n).right) (translated two (states_in (transducer_rule two n).right) (pick kids (variables_in (transducer_rule two n).right)) below)))
    (translated_join two more d ps qs rest t h.4)
    ∙ sym (join_assoc
    (plug (only (transducer_rule two n).right) (translated two (states_in (transducer_rule two n).right) (pick kids (variables_in (transducer_rule two n).right)) below))
    (translated two ps rest more)
    (translated two qs t d))

-- one side in place of the first hole
first_hole : {P Q : Type 0} (u us : Trees (Symbol ℕ Q)) (z : P) (n : ℕ) (xs : List (Symbol ℕ P × ℕ)) → count u ≡ 1 → substituted ((hole z, n) ∷ xs) (join u us) ≡ preorder u ++ substituted xs us
first_hole none us z n xs e = absurd (omega arith)
first_hole (tree s below none) us z n xs e = ap (λ ys. (s, count below) ∷ (ys ++ substituted xs us)) (sym (append_nil (preorder below)))
first_hole (tree s below (tree t k m)) us z n xs e = absurd (omega arith)

-- what a search has output when it meets a label
pub search_puts_out :
    (two : List (TransducerRule ℕ)) (p f m n : ℕ) (ps : List ℕ) (kids rest : Trees (Symbol ℕ (Pair ℕ))) (c : Trees (Option ℕ)) (z : Pair ℕ) (xs : List (Symbol ℕ (Pair ℕ) × ℕ)) →
    HolesAreLeaves (only (transducer_rule two m).right) →
    AreTranslations two (p ∷ ps) (tree (label f) kids rest) (under m (length (states_in (transducer_rule two m).right)) c) →
    substituted ((hole z, n) ∷ xs) (translated two (p ∷ ps) (tree (label f) kids rest) (under m (length (states_in (transducer_rule two m).right)) c))
    ≡ substituted (preorder_of (transducer_rule two m).right ++ xs)
    (translated two (states_in (transducer_rule two m).right ++ ps) (join (pick kids (variables_in (transducer_rule two m).right)) rest) c)
search_puts_out two p f m n ps kids rest c z xs h t =
    let k : ℕ = length (states_in (transducer_rule two m).right) in
    first_hole (plug (only (transducer_rule two m).right) inner) others z n xs (count-plug (only (transducer_rule two m).right) inner long)
    ∙ sym (plugged_before (only (transducer_rule two m).right) inner others xs h long)
    ∙ ap (λ ys. substituted (((transducer_rule two m).right.label, count (transducer_rule two m).right.kids) ∷ (ys ++ xs)) (join inner others)) (append_nil (preorder (transducer_rule two m).right.kids))
    ∙ ap (substituted (preorder_of (transducer_rule two m).right ++ xs))
    (sym (translated_join two (first_trees k c) (other_trees k c) (states_in (transducer_rule two m).right) ps (pick kids (variables_in (transducer_rule two m).right)) rest t.3)
    ∙ ap (translated two (states_in (transducer_rule two m).right ++ ps) (join (pick kids (variables_in (transducer_rule two m).right)) rest)) (join_parts k c))
  where
    inner : Trees (Symbol ℕ (Pair (ℕ × ℕ)))
    inner = translated two (states_in (transducer_rule two m).right) (pick kids (variables_in (transducer_rule two m).right)) (first_trees (length (states_in (transducer_rule two m).right)) c)

    others : Trees (Symbol ℕ (Pair (ℕ × ℕ)))
    others = translated two ps rest (other_trees (length (states_in (transducer_rule two m).right)) c)

    long : count inner ≡ length (holes_of (transducer_rule two m).right)
    long =
        count-translated two (first_trees (length (states_in (transducer_rule two m).right)) c) (states_in (transducer_rule two m).right) (pick kids (variables_in (transducer_rule two m).right)) t.3
        ∙ length-map (holes_of (transducer_rule two m).right) (λ x. x.state)

-- nothing is below a hole

leaves_join : {P : Type 0} (s t : Trees (Symbol ℕ P)) → HolesAreLeaves s → HolesAreLeaves t → HolesAreLeaves (join s t)
leaves_join none t a b = b
leaves_join (tree (label f) kids rest) t a b = (a.0, leaves_join rest t a.1 b)
leaves_join (tree (hole p) none rest) t a b = leaves_join rest t a b
leaves_join (tree (hole p) (tree x k m) rest) t a b = absurd a

leaves_first : {P : Type 0} (n : ℕ) (s : Trees (Symbol ℕ P)) → HolesAreLeaves s → HolesAreLeaves (first_trees n s)
leaves_first zero s a = tt
leaves_first (suc n) none a = tt
leaves_first (suc n) (tree (label f) kids rest) a = (a.0, leaves_first n rest a.1)
leaves_first (suc n) (tree (hole p) none rest) a = leaves_first n rest a
leaves_first (suc n) (tree (hole p) (tree x k m) rest) a = absurd a

leaves_other : {P : Type 0} (n : ℕ) (s : Trees (Symbol ℕ P)) → HolesAreLeaves s → HolesAreLeaves (other_trees n s)
leaves_other zero s a = a
leaves_other (suc n) none a = tt
leaves_other (suc n) (tree (label f) kids rest) a = leaves_other n rest a.1
leaves_other (suc n) (tree (hole p) none rest) a = leaves_other n rest a
leaves_other (suc n) (tree (hole p) (tree x k m) rest) a = absurd a

leaves_plug : {P Q : Type 0} (s : Trees (Symbol ℕ P)) (us : Trees (Symbol ℕ Q)) → HolesAreLeaves us → HolesAreLeaves (plug s us)
leaves_plug none us a = tt
leaves_plug (tree (label f) kids rest) us a = (
  leaves_plug kids (first_trees (length (holes kids)) us) (leaves_first (length (holes kids)) us a),
  leaves_plug rest (other_trees (length (holes kids)) us) (leaves_other (length (holes kids)) us a),
)
leaves_plug (tree (hole p) kids rest) none a = tt
leaves_plug (tree (hole p) kids rest) (tree (label f) below us) a = (a.0, leaves_plug rest us a.1)
leaves_plug (tree (hole p) kids rest) (tree (hole x) none us) a = leaves_plug rest us a
leaves_plug (tree (hole p) kids rest) (tree (hole x) (tree y k m) us) a = absurd a

-- nothing is below a hole of a translation
pub translations_end_in_holes : {P : Type 0} (two : List (TransducerRule ℕ)) (choice : Trees (Option ℕ)) (ps : List ℕ) (sides : Trees (Symbol ℕ (Pair P))) → HolesAreLeaves (translated two ps sides choice)
translations_end_in_holes two none ps sides = tt
translations_end_in_holes two (tree c below more) [] sides = tt
translations_end_in_holes two (tree c below more) (p ∷ ps) none = tt
translations_end_in_holes two (tree None below more) (p ∷ ps) (tree (label f) kids rest) = tt
translations_end_in_holes two (tree c below more) (p ∷ ps) (tree (hole x) kids rest) = translations_end_in_holes two more ps rest
translations_end_in_holes two (tree (Some n) below more) (p ∷ ps) (tree (label f) kids rest) =
    leaves_join
    (plug (only (transducer_rule two n).right) (translated two (states_in (transducer_rule two n).right) (pick kids (variables_in (transducer_rule two n).right)) below))
    (translated two ps rest more)
    (leaves_plug (only (transducer_rule two n).right) (translated two (states_in (transducer_rule two n).right) (pick kids (variables_in (transducer_rule two n).right)) below)
    (translations_end_in_holes two below (states_in (transducer_rule two n).right) (pick kids (variables_in (transducer_rule two n).right))))
    (translations_end_in_holes two more ps rest)
