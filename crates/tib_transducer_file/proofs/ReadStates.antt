-- The states of a transducer that was read: they come in order, and each but the start occurs in a
-- rule.
use Rattle.std.proofs.Common.{◌≡◌, ◌⊎◌, ℕ, ◌+◌, ◌<◌, ◌≤◌, inl, inr, Option, List, [], ◌∷◌, ◌++◌, length, get_or, append_assoc, length-append, refl, ap, sym, ◌∙◌, subst, arith, zero, suc}
use Rattle.std.specs.Prelude.{Some, None, slice_get, map, Contains}
use Rattle.std.proofs.lemmas.Option.{slice_get-get_or, slice_get_within, get_or_from_slice_get}
use Rattle.tib_lex.specs.Lists.{Along, Each, Has, Distinct}
use Rattle.tib_lex.proofs.Lists.{append_nil, each_parts}
use Rattle.tib_lex.proofs.Alongs.{along_append}
use Rattle.tib_lex.proofs.Places.{distinct_at}
use Rattle.tib_tree.specs.Grows.{Adds, AddsAll}
use Rattle.tib_tree.specs.Trees.{Trees, none, tree, only, count, preorder, preorder_of}
use Rattle.tib_tree.specs.Written.{Item}
use Rattle.tib_grammar.specs.Sides.{Symbol, Side, label, hole, holes, HolesAreLeaves}
use Rattle.tib_transducer.specs.Range.{EndsInHoles}
use Rattle.tib_transducer.specs.Rules.{states_in}
use Rattle.tib_transducer.specs.declared.Pair.{Pair}
use Rattle.tib_transducer.specs.declared.TransducerRule.{TransducerRule}
use Rattle.tib_transducer_file.specs.Forms.{pair_in}
use Rattle.tib_transducer_file.specs.Rule.{RuleLine, numbers_in}
use Rattle.tib_transducer_file.specs.Value.{IsRightSymbol, IsRightNode, IsRule, state_before, states_in as states_on_right, states_of as states_written}
use Rattle.tib_transducer_file.proofs.ShapesRead.{pair_rank, left_ends}
use Rattle.tib_transducer_file.specs.ByName.{states_of, ComeInOrder}

-- nothing is below a leaf
abbrev IsBare : {P : Type 0} → Symbol ℕ P × ℕ → Type 0
IsBare (label f, n) = Unit {0}
IsBare (hole p, n) = n ≡ 0

none_below : {P : Type 0} (p : P) (kids rest : Trees (Symbol ℕ P)) → count kids ≡ 0 → HolesAreLeaves rest → HolesAreLeaves (tree (hole p) kids rest)
none_below p none rest e h = h
none_below p (tree s inner next) rest e h = absurd (omega (arith, e))

bare_leaves : {P : Type 0} (ts : Trees (Symbol ℕ P)) → Each IsBare (preorder ts) → HolesAreLeaves ts
bare_leaves none h = tt
bare_leaves (tree (label f) kids rest) h = let parts = each_parts IsBare (preorder kids) (preorder rest) h.1 in (bare_leaves kids parts.0, bare_leaves rest parts.1)
bare_leaves (tree (hole p) kids rest) h = let parts = each_parts IsBare (preorder kids) (preorder rest) h.1 in none_below p kids rest h.0 (bare_leaves rest parts.1)

right_bare : (names labels : List (List ℕ)) (numbers : List ℕ) (s : Symbol ℕ (Pair ℕ)) (n m : ℕ) (o : Option (List ℕ × ℕ)) (text : List ℕ) → IsRightSymbol names labels numbers s o text → ((q : List ℕ × ℕ) → o ≡ Some q → m ≡ 0) → n ≡ m → IsBare (s, n)
right_bare names labels numbers (label f) n m o text h z e = tt
right_bare names labels numbers (hole x) n m None text h z e = absurd h
right_bare names labels numbers (hole x) n m (Some q) text h z e = e ∙ z q refl

rights_bare : (names labels : List (List ℕ)) (numbers : List ℕ) (ss : List (Symbol ℕ (Pair ℕ) × ℕ)) (is : List Item) → Along (IsRightNode names labels numbers) ss is → Each IsBare ss
rights_bare names labels numbers [] is h = tt
rights_bare names labels numbers (s ∷ ss) [] h = absurd h
rights_bare names labels numbers (s ∷ ss) (i ∷ is) h = (right_bare names labels numbers s.0 s.1 _ (pair_in i) i.text h.0.0 (λ q e. pair_rank i.quoted i.kids i.text q e) h.0.1, rights_bare names labels numbers ss is h.1)

right_ends : (names labels : List (List ℕ)) (numbers : List ℕ) (s : Side ℕ (Pair ℕ)) (is : List Item) → Along (IsRightNode names labels numbers) (preorder_of s) is → HolesAreLeaves (only s)
right_ends names labels numbers s is h =
    bare_leaves (only s) (subst (λ (ss : List (Symbol ℕ (Pair ℕ) × ℕ)). Each IsBare ((s.label, count s.kids) ∷ ss)) (sym (append_nil (preorder s.kids))) (rights_bare names labels numbers (preorder_of s) is h))

pub rule_ends : (names labels : List (List ℕ)) (r : TransducerRule ℕ) (line : RuleLine) → IsRule names labels r line → EndsInHoles r
rule_ends names labels r line h = (left_ends labels r.left line.parts h.left, right_ends names labels (numbers_in line.parts.below) r.right line.parts.right h.right)

-- what the leaves among some nodes carry
abbrev holes_on : {P : Type 0} → List (Symbol ℕ P × ℕ) → List P
holes_on [] = []
holes_on ((label f, n) ∷ ss) = holes_on ss
holes_on ((hole p, n) ∷ ss) = p ∷ holes_on ss

holes_append : {P : Type 0} (ss us : List (Symbol ℕ P × ℕ)) → holes_on (ss ++ us) ≡ holes_on ss ++ holes_on us
holes_append [] us = refl
holes_append ((label f, n) ∷ ss) us = holes_append ss us
holes_append ((hole p, n) ∷ ss) us = ap (λ ps. p ∷ ps) (holes_append ss us)

holes_of_nodes : {P : Type 0} (ts : Trees (Symbol ℕ P)) → HolesAreLeaves ts → holes ts ≡ holes_on (preorder ts)
holes_of_nodes none h = refl
holes_of_nodes (tree (label f) kids rest) h =
    ap (λ ps. ps ++ holes rest) (holes_of_nodes kids h.0) ∙ ap (λ ps. holes_on (preorder kids) ++ ps) (holes_of_nodes rest h.1) ∙ sym (holes_append (preorder kids) (preorder rest))
holes_of_nodes (tree (hole p) none rest) h = ap (λ ps. p ∷ ps) (holes_of_nodes rest h)
holes_of_nodes (tree (hole p) (tree s inner next) rest) h = absurd h

-- numbers of states and their names
abbrev AreNamed : List (List ℕ) → List ℕ → List (List ℕ) → Type 0
AreNamed names qs texts = Along (λ q text. slice_get names q ≡ Some text) qs texts

one_named : (names labels : List (List ℕ)) (numbers : List ℕ) (s : Symbol ℕ (Pair ℕ)) (n : ℕ) (o : Option (List ℕ × ℕ)) (text : List ℕ) (ss : List (Symbol ℕ (Pair ℕ) × ℕ)) (texts : List (List ℕ)) → IsRightSymbol names labels numbers s o text → AreNamed names (map (λ x. x.state) (holes_on ss)) texts →
    AreNamed names (map (λ x. x.state) (holes_on ((s, n) ∷ ss))) (state_before o texts)
one_named names labels numbers (label f) n None text ss texts h k = k
one_named names labels numbers (label f) n (Some q) text ss texts h k = absurd h
one_named names labels numbers (hole x) n None text ss texts h k = absurd h
one_named names labels numbers (hole x) n (Some q) text ss texts h k = (h.0, k)

rights_named : (names labels : List (List ℕ)) (numbers : List ℕ) (ss : List (Symbol ℕ (Pair ℕ) × ℕ)) (is : List Item) → Along (IsRightNode names labels numbers) ss is → AreNamed names (map (λ x. x.state) (holes_on ss)) (states_on_right is)
rights_named names labels numbers [] [] h = tt
rights_named names labels numbers [] (i ∷ is) h = absurd h
rights_named names labels numbers (s ∷ ss) [] h = absurd h
rights_named names labels numbers (s ∷ ss) (i ∷ is) h = one_named names labels numbers s.0 s.1 (pair_in i) i.text ss (states_on_right is) h.0.0 (rights_named names labels numbers ss is h.1)

rule_named : (names labels : List (List ℕ)) (r : TransducerRule ℕ) (line : RuleLine) → IsRule names labels r line → AreNamed names (states_in r.right) (states_on_right line.parts.right)
rule_named names labels r line h =
    let ends : HolesAreLeaves (only r.right) = (rule_ends names labels r line h).1 in
    let nodes : holes (only r.right) ≡ holes_on (preorder_of r.right) =
    holes_of_nodes (only r.right) ends ∙ ap (λ (ss : List (Symbol ℕ (Pair ℕ) × ℕ)). holes_on ((r.right.label, count r.right.kids) ∷ ss)) (append_nil (preorder r.right.kids)) in
    subst (λ (ps : List (Pair ℕ)). AreNamed names (map (λ x. x.state) ps) (states_on_right line.parts.right)) (sym nodes)
    (rights_named names labels (numbers_in line.parts.below) (preorder_of r.right) line.parts.right h.right)

pub rules_named : (names labels : List (List ℕ)) (rules : List (TransducerRule ℕ)) (lines : List RuleLine) → Along (IsRule names labels) rules lines → AreNamed names (states_of rules) (states_written lines)
rules_named names labels [] [] h = tt
rules_named names labels [] (l ∷ lines) h = absurd h
rules_named names labels (r ∷ rules) [] h = absurd h
rules_named names labels (r ∷ rules) (l ∷ lines) h =
    (h.0.state, along_append (λ q text. slice_get names q ≡ Some text) (states_in r.right) (states_of rules) (states_on_right l.parts.right) (states_written lines) (rule_named names labels r l h.0) (rules_named names labels rules lines h.1))

-- a table that grows keeps its front

more_behind : (before : List (List ℕ)) (text : List ℕ) (now : List (List ℕ)) → Adds before text now → (rest : List (List ℕ)) × (now ≡ before ++ rest)
more_behind before text now (inl (held, e)) = ([], e ∙ sym (append_nil before))
more_behind before text now (inr (new, e)) = (text ∷ [], e)

all_behind : (before texts now : List (List ℕ)) → AddsAll before texts now → (rest : List (List ℕ)) × (now ≡ before ++ rest)
all_behind before [] now e = ([], e ∙ sym (append_nil before))
all_behind before (text ∷ texts) now (middle, adds, more) =
    let a = more_behind before text middle adds in
    let b = all_behind middle texts now more in
    (a.0 ++ b.0, b.1 ∙ ap (λ (xs : List (List ℕ)). xs ++ b.0) a.1 ∙ append_assoc before a.0 b.0)

in_front : (xs ys : List (List ℕ)) (n : ℕ) → n < length xs → get_or (xs ++ ys) n [] ≡ get_or xs n []
in_front [] ys n h = absurd (omega arith)
in_front (x ∷ xs) ys zero h = refl
in_front (x ∷ xs) ys (suc n) h = in_front xs ys n (omega arith)

at_end : (xs ys : List (List ℕ)) (y : List ℕ) → get_or (xs ++ (y ∷ ys)) (length xs) [] ≡ y
at_end [] ys y = refl
at_end (x ∷ xs) ys y = at_end xs ys y

same_state : (q k : ℕ) → (q ≡ k) ⊎ (q ≡ k → ⊥)
same_state zero zero = inl refl
same_state zero (suc k) = inr (λ e. omega (arith, e))
same_state (suc q) zero = inr (λ e. omega (arith, e))
same_state (suc q) (suc k) = elim (same_state q k) [ inl e ↦ inl (ap suc e) | inr n ↦ inr (λ e. n (omega (arith, e))) ]

-- the states come in order, and from k on all do
abbrev pub Come : List (List ℕ) → ℕ → List ℕ → Type 0
Come names k qs = ComeInOrder k qs × ((q : ℕ) → k ≤ q → q < length names → Has qs q)

module _ (names : List (List ℕ)) (apart : Distinct names) where
  -- the number of a text is its place
  at_place : (q n : ℕ) (text : List ℕ) → slice_get names q ≡ Some text → n < length names → get_or names n [] ≡ text → q ≡ n
  at_place q n text e h k = distinct_at names q n [] apart (slice_get_within names q text e) h (get_or_from_slice_get names q text [] e ∙ sym k)

  -- a text that is there already
  held_at : (before texts : List (List ℕ)) (text : List ℕ) (q : ℕ) → slice_get names q ≡ Some text → Contains before text → AddsAll before texts names → q < length before
  held_at before texts text q e c more =
      let b = all_behind before texts names more in
      let long : length names ≡ length before + length b.0 = ap length b.1 ∙ length-append before b.0 in
      let there : get_or before c.0 [] ≡ text = get_or_from_slice_get before c.0 text [] (slice_get-get_or before c.0 text c.1 ∙ ap (λ (x : List ℕ). Some x) c.2) in
      let here : get_or names c.0 [] ≡ text = ap (λ (xs : List (List ℕ)). get_or xs c.0 []) b.1 ∙ in_front before b.0 c.0 c.1 ∙ there in
      let same : q ≡ c.0 = at_place q c.0 text e (omega (arith, long, c.1)) here in
      omega (arith, same, c.1)

  -- one that is new
  new_at : (before texts : List (List ℕ)) (text : List ℕ) (q : ℕ) → slice_get names q ≡ Some text → AddsAll (before ++ text ∷ []) texts names → q ≡ length before
  new_at before texts text q e more =
      let b = all_behind (before ++ text ∷ []) texts names more in
      let whole : names ≡ before ++ (text ∷ b.0) = b.1 ∙ append_assoc before (text ∷ []) b.0 in
      let long : length names ≡ length before + length (text ∷ b.0) = ap length whole ∙ length-append before (text ∷ b.0) in
      at_place q (length before) text e (omega (arith, long)) (ap (λ (xs : List (List ℕ)). get_or xs (length before) []) whole ∙ at_end before b.0 text)

  come_more : (p : ℕ) (qs : List ℕ) (k : ℕ) → p < k → Come names k qs → Come names k (p ∷ qs)
  come_more p qs k low c = (inl (low, c.0), λ q h b. inr (c.1 q h b))

  come_next : (p : ℕ) (qs : List ℕ) (k : ℕ) → p ≡ k → Come names (suc k) qs → Come names k (p ∷ qs)
  come_next p qs k e c = (inr (e, c.0), λ q h b. elim (same_state p q) [ inl same ↦ inl same | inr other ↦ inr (c.1 q (later q e h other) b) ])
    where
      later : (q : ℕ) → p ≡ k → k ≤ q → (p ≡ q → ⊥) → suc k ≤ q
      later q e h n = grind arith

  pub come : (before texts : List (List ℕ)) (qs : List ℕ) → AddsAll before texts names → AreNamed names qs texts → Come names (length before) qs
  come before [] [] e a = (tt, λ q h b. let l : length names ≡ length before = ap length e in absurd (omega (arith, l)))
  come before [] (q ∷ qs) e a = absurd a
  come before (text ∷ texts) [] e a = absurd a
  come before (text ∷ texts) (q ∷ qs) (middle, inl (held, e), more) a =
      let own : AddsAll before texts names = subst (λ (xs : List (List ℕ)). AddsAll xs texts names) e more in
      come_more q qs (length before) (held_at before texts text q a.0 held own) (come before texts qs own a.1)
  come before (text ∷ texts) (q ∷ qs) (middle, inr (new, e), more) a =
      let own : AddsAll (before ++ text ∷ []) texts names = subst (λ (xs : List (List ℕ)). AddsAll xs texts names) e more in
      let long : length (before ++ text ∷ []) ≡ suc (length before) = omega (arith, length-append before (text ∷ [])) in
      come_next q qs (length before) (new_at before texts text q a.0 own) (subst (λ (k : ℕ). Come names k qs) long (come (before ++ text ∷ []) texts qs own a.1))

-- after the start
pub come_behind : (names texts : List (List ℕ)) (start : List ℕ) (qs : List ℕ) → Distinct names → AddsAll [] (start ∷ texts) names → AreNamed names qs texts → Come names 1 qs
come_behind names texts start qs d (middle, inl (held, e), more) a = absurd (omega (arith, held.1))
come_behind names texts start qs d (middle, inr (new, e), more) a = come names d (start ∷ []) texts qs (subst (λ (xs : List (List ℕ)). AddsAll xs texts names) e more) a
