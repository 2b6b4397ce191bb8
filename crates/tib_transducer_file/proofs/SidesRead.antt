-- How the sides of a rule are made.
use Rattle.std.proofs.Common.{◌≡◌, ℕ, ◌+◌, ◌-◌, ◌<◌, ◌≤◌, List, [], ◌∷◌, ◌++◌, length, get_or, drop, refl, ap, sym, ◌∙◌, subst, arith, append_assoc, append-nil, Option, zero, suc}
use Rattle.std.specs.Prelude.{Some, None}
use Rattle.std.proofs.lemmas.List.{drop_all, map-append, length-append}
use Rattle.tib_lex.specs.Lists.{Along}
use Rattle.tib_lex.proofs.Alongs.{along_more}
use Rattle.tib_tree.specs.Grows.{Grows, AddsAll}
use Rattle.tib_tree.specs.Written.{Item}
use Rattle.tib_tree.specs.Shape.{items_back, item_at}
use Rattle.tib_tree.specs.declared.shape.Place.{Place}
use Rattle.tib_tree.proofs.NodesRead.{back_more}
use Rattle.tib_grammar.specs.Sides.{Symbol, label, hole}
use Rattle.tib_grammar.specs.Items.{pair_of, pairs_of, holes_in}
use Rattle.tib_grammar.specs.declared.Item.{Item as SideItem}
use Rattle.tib_grammar.specs.declared.Item.TheVariants.{Label, Hole}
use Rattle.tib_grammar_file.proofs.Alongs.{along_changes}
use Rattle.tib_transducer.specs.Range.{AreNumbered}
use Rattle.tib_transducer.specs.declared.Variable.{Variable}
use Rattle.tib_transducer.specs.declared.Pair.{Pair}
use Rattle.tib_transducer_file.specs.Forms.{variable_in, pair_in}
use Rattle.tib_transducer_file.specs.Value.{IsAsked, IsLeftSymbol, IsLeftNode, IsRightSymbol, IsRightNode, states_in, state_before}
use Rattle.tib_transducer_file.specs.Sides.{PushesLeft}

-- what is read stays as the tables grow
asked_grows : (a b : List (List ℕ)) → Grows a b → (n : Option ℕ) (t : Option (List ℕ)) → IsAsked a n t → IsAsked b n t
asked_grows a b g None None h = tt
asked_grows a b g None (Some t) h = absurd h
asked_grows a b g (Some n) None h = absurd h
asked_grows a b g (Some n) (Some t) h = g.kept n t h

left_symbol_grows : (a b : List (List ℕ)) → Grows a b → (s : Symbol ℕ Variable) (v : Option (ℕ × Option (List ℕ))) (t : List ℕ) → IsLeftSymbol a s v t → IsLeftSymbol b s v t
left_symbol_grows a b g (hole x) (Some v) t h = asked_grows a b g x.label v.1 h
left_symbol_grows a b g (hole x) None t h = absurd h
left_symbol_grows a b g (label f) (Some v) t h = absurd h
left_symbol_grows a b g (label f) None t h = g.kept f t h

pub left_grows : (a b : List (List ℕ)) → Grows a b → (s : Symbol ℕ Variable × ℕ) (i : Item) → IsLeftNode a s i → IsLeftNode b s i
left_grows a b g s i h = (left_symbol_grows a b g s.0 (variable_in i) i.text h.0, h.1)

right_symbol_grows : (n m a b : List (List ℕ)) (numbers : List ℕ) → Grows n m → Grows a b → (s : Symbol ℕ (Pair ℕ)) (q : Option (List ℕ × ℕ)) (t : List ℕ) → IsRightSymbol n a numbers s q t → IsRightSymbol m b numbers s q t
right_symbol_grows n m a b numbers f g (hole x) (Some q) t h = (f.kept x.state q.0 h.0, h.1)
right_symbol_grows n m a b numbers f g (hole x) None t h = absurd h
right_symbol_grows n m a b numbers f g (label l) (Some q) t h = absurd h
right_symbol_grows n m a b numbers f g (label l) None t h = g.kept l t h

pub right_grows : (n m a b : List (List ℕ)) (numbers : List ℕ) → Grows n m → Grows a b → (s : Symbol ℕ (Pair ℕ) × ℕ) (i : Item) → IsRightNode n a numbers s i → IsRightNode m b numbers s i
right_grows n m a b numbers f g s i h = (right_symbol_grows n m a b numbers f g s.0 (pair_in i) i.text h.0, h.1)

pub holes_append : {P : Type 0} (xs ys : List (SideItem P)) → holes_in (xs ++ ys) ≡ holes_in xs ++ holes_in ys
holes_append [] ys = refl
holes_append (Label f rank ∷ xs) ys = holes_append xs ys
holes_append (Hole p ∷ xs) ys = ap (λ (ps : List _). p ∷ ps) (holes_append xs ys)

numbered_more : (m n : ℕ) (xs ys : List Variable) → n ≡ m + length xs → AreNumbered m xs → AreNumbered n ys → AreNumbered m (xs ++ ys)
numbered_more m n [] ys e h k = subst (λ (i : ℕ). AreNumbered i ys) (e ∙ (let z : m + 0 ≡ m = omega arith in z)) k
numbered_more m n (x ∷ xs) ys e h k = (h.0, numbered_more (suc m) n xs ys (omega (arith, e)) h.1 k)

-- the items of a left side below its root, from the last place on
pub record Pushing (labels : List (List ℕ)) (line : List ℕ) (places : List Place) (old now : List (SideItem Variable)) (number i : ℕ) : Type 0 where
  pub within : i ≤ length places
  pub more : List (SideItem Variable)
  pub last : now ≡ old ++ more
  pub are : Along (IsLeftNode labels) (pairs_of more) (items_back line (drop i places))
  pub numbered : AreNumbered 0 (holes_in more)
  pub next : number ≡ length (holes_in more)
  pub few : number ≤ length places - i

pub pushing_starts : (labels : List (List ℕ)) (line : List ℕ) (places : List Place) (items : List (SideItem Variable)) (i : ℕ) → i ≡ length places → Pushing labels line places items items 0 i
pushing_starts labels line places items i h = record {
  within = omega (arith, h);
  more = [];
  last = sym (append-nil items);
  are = subst (λ (ps : List Place). Along (IsLeftNode labels) [] (items_back line ps)) (sym (drop_all i places (omega (arith, h)))) tt;
  numbered = tt;
  next = refl;
  few = omega arith;
}

one_few : (s : SideItem Variable) → length (holes_in (s ∷ [])) ≤ 1
one_few (Label f rank) = omega arith
one_few (Hole p) = omega arith

pub pushing_goes : (a b : List (List ℕ)) (line : List ℕ) (places : List Place) (old now then : List (SideItem Variable)) (number after i : ℕ) (d : Place) (s : SideItem Variable) → 0 < i → Grows a b → then ≡ now ++ s ∷ [] → IsLeftNode b (pair_of s) (item_at line (get_or places (i - 1) d)) → AreNumbered number (holes_in (s ∷ [])) → after ≡ number + length (holes_in (s ∷ [])) → Pushing a line places old now number i → Pushing b line places old then after (i - 1)
pushing_goes a b line places old now then number after i d s h g e node num af p = record {
  within = omega (arith, p.within);
  more = p.more ++ s ∷ [];
  last = e ∙ ap (λ (xs : List (SideItem Variable)). xs ++ s ∷ []) p.last ∙ append_assoc old p.more (s ∷ []);
  are = subst (λ (is : List Item). Along (IsLeftNode b) (pairs_of (p.more ++ s ∷ [])) is) (sym (back_more line places i d h p.within))
      (subst (λ (ss : List (Symbol ℕ Variable × ℕ)). Along (IsLeftNode b) ss (items_back line (drop i places) ++ item_at line (get_or places (i - 1) d) ∷ [])) (sym (map-append pair_of p.more (s ∷ [])))
      (along_more (IsLeftNode b) (pairs_of p.more) (items_back line (drop i places)) (pair_of s) (item_at line (get_or places (i - 1) d)) (along_changes (IsLeftNode a) (IsLeftNode b) (pairs_of p.more) (items_back line (drop i places)) (left_grows a b g) p.are) node));
  numbered = subst (λ (xs : List Variable). AreNumbered 0 xs) (sym (holes_append p.more (s ∷ []))) (numbered_more 0 number (holes_in p.more) (holes_in (s ∷ [])) (omega (arith, p.next)) p.numbered num);
  next = af ∙ omega (arith, p.next, ap length (holes_append p.more (s ∷ [])), length-append (holes_in p.more) (holes_in (s ∷ [])));
  few = omega (arith, af, one_few s, p.few, p.within);
}

pub pushing_ends : (labels : List (List ℕ)) (line : List ℕ) (places : List Place) (old now : List (SideItem Variable)) (number i : ℕ) → i ≤ 0 → Pushing labels line places old now number i → PushesLeft labels old now (items_back line places)
pushing_ends labels line places old now number zero h p = record { more = p.more; last = p.last; are = p.are; numbered = p.numbered }
pushing_ends labels line places old now number (suc i) h p = absurd (omega arith)

-- the states of two lists of items in one
pub states_append : (xs ys : List Item) → states_in (xs ++ ys) ≡ states_in xs ++ states_in ys
states_append [] ys = refl
states_append (x ∷ xs) ys = by (pair_in x) (states_append xs ys)
  where
    by : (o : Option (List ℕ × ℕ)) → states_in (xs ++ ys) ≡ states_in xs ++ states_in ys → state_before o (states_in (xs ++ ys)) ≡ state_before o (states_in xs) ++ states_in ys
    by None e = e
    by (Some q) e = ap (λ (ss : List (List ℕ)). q.0 ∷ ss) e

pub adds_append : (a m b : List (List ℕ)) (xs ys : List (List ℕ)) → AddsAll a xs m → AddsAll m ys b → AddsAll a (xs ++ ys) b
adds_append a m b [] ys h k = subst (λ (t : List (List ℕ)). AddsAll t ys b) h k
adds_append a m b (x ∷ xs) ys (n, first, others) k = (n, first, adds_append n m b xs ys others k)

-- the symbols of a right side, from the last place on
pub record Placing (before names labels : List (List ℕ)) (numbers : List ℕ) (line : List ℕ) (places : List Place) (symbols : List (Symbol ℕ (Pair ℕ) × ℕ)) (i : ℕ) : Type 0 where
  pub within : i ≤ length places
  pub are : Along (IsRightNode names labels numbers) symbols (items_back line (drop i places))
  pub states : AddsAll before (states_in (items_back line (drop i places))) names

pub placing_starts : (names labels : List (List ℕ)) (numbers line : List ℕ) (places : List Place) (symbols : List (Symbol ℕ (Pair ℕ) × ℕ)) (i : ℕ) → i ≡ length places → symbols ≡ [] → Placing names names labels numbers line places symbols i
placing_starts names labels numbers line places symbols i h e =
    let d = sym (ap (items_back line) (drop_all i places (omega (arith, h)))) in
    record {
      within = omega (arith, h);
      are = subst (λ (is : List Item). Along (IsRightNode names labels numbers) symbols is) d (subst (λ (ss : List (Symbol ℕ (Pair ℕ) × ℕ)). Along (IsRightNode names labels numbers) ss []) (sym e) tt);
      states = subst (λ (is : List Item). AddsAll names (states_in is) names) d refl;
    }

pub placing_goes : (z n m a b : List (List ℕ)) (numbers line : List ℕ) (places : List Place) (symbols then : List (Symbol ℕ (Pair ℕ) × ℕ)) (i : ℕ) (d : Place) (s : Symbol ℕ (Pair ℕ) × ℕ) → 0 < i → Grows n m → Grows a b → then ≡ symbols ++ s ∷ [] → IsRightNode m b numbers s (item_at line (get_or places (i - 1) d)) → AddsAll n (state_before (pair_in (item_at line (get_or places (i - 1) d))) []) m → Placing z n a numbers line places symbols i → Placing z m b numbers line places then (i - 1)
placing_goes z n m a b numbers line places symbols then i d s h f g e node adds p = record {
  within = omega (arith, p.within);
  are = subst (λ (is : List Item). Along (IsRightNode m b numbers) then is) (sym (back_more line places i d h p.within))
      (subst (λ (ss : List (Symbol ℕ (Pair ℕ) × ℕ)). Along (IsRightNode m b numbers) ss (items_back line (drop i places) ++ item_at line (get_or places (i - 1) d) ∷ [])) (sym e)
      (along_more (IsRightNode m b numbers) symbols (items_back line (drop i places)) s (item_at line (get_or places (i - 1) d)) (along_changes (IsRightNode n a numbers) (IsRightNode m b numbers) symbols (items_back line (drop i places)) (right_grows n m a b numbers f g) p.are) node));
  states = subst (λ (ss : List (List ℕ)). AddsAll z ss m)
      (sym (ap states_in (back_more line places i d h p.within) ∙ states_append (items_back line (drop i places)) (item_at line (get_or places (i - 1) d) ∷ [])))
      (adds_append z n m (states_in (items_back line (drop i places))) (state_before (pair_in (item_at line (get_or places (i - 1) d))) []) p.states adds);
}

pub placing_ends : (z names labels : List (List ℕ)) (numbers line : List ℕ) (places : List Place) (symbols : List (Symbol ℕ (Pair ℕ) × ℕ)) (i : ℕ) → i ≤ 0 → Placing z names labels numbers line places symbols i → Along (IsRightNode names labels numbers) symbols (items_back line places) × AddsAll z (states_in (items_back line places)) names
placing_ends z names labels numbers line places symbols zero h p = (p.are, p.states)
placing_ends z names labels numbers line places symbols (suc i) h p = absurd (omega arith)
