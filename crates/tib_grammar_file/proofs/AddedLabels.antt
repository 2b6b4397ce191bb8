-- What rules add to a table of labels.
use Rattle.std.proofs.Common.{◌≡◌, ℕ, ◌+◌, ◌≤◌, inl, inr, List, [], ◌∷◌, ◌++◌, length, length-append, refl, ap, sym, ◌∙◌, subst, arith, zero, suc}
use Rattle.std.specs.Prelude.{Some, None, slice_get, Result, Ok, Err, IfOk, OnErr}
use Rattle.std.proofs.lemmas.List.{map-append}
use Rattle.std.proofs.lemmas.Option.{get_or_from_slice_get}
use Rattle.tib_lex.specs.Lines.{HasNoFeed}
use Rattle.tib_lex.specs.Lists.{Each}
use Rattle.tib_lex.specs.declared.fault.ReadError.{ReadError}
use Rattle.tib_lex.specs.declared.fault.ReadError.TheVariants.{Fault, OutOfMemory}
use Rattle.tib_tree.specs.Grows.{Grows, Adds, AddsAll}
use Rattle.tib_tree.specs.Trees.{preorder_of}
use Rattle.tib_tree.proofs.Growing.{grows_twice, grows_not, grows_more}
use Rattle.tib_grammar.specs.Items.{pair_of, pairs_of}
use Rattle.tib_grammar.specs.Sides.{Symbol, label, hole}
use Rattle.tib_grammar.specs.declared.Item.{Item}
use Rattle.tib_grammar.specs.declared.Rule.{Rule}
use Rattle.tib_grammar_file.specs.Added.{symbol_texts, node_texts, rule_texts, AddsSymbol, AddsSymbols, AddsRules, KeptByFault}

-- a table that is as before is kept
pub kept_as_it_was : (e : ReadError) (labels : List (List ℕ)) → KeptByFault e labels labels
kept_as_it_was (Fault fault) labels = refl
kept_as_it_was OutOfMemory labels = tt

-- one text makes a table longer by one at most
pub one_longer : (before : List (List ℕ)) (text : List ℕ) (now : List (List ℕ)) → Adds before text now → length now ≤ length before + 1
one_longer before text now (inl (held, same)) = omega (arith, ap length same)
one_longer before text now (inr (new, same)) = omega (arith, ap length same, length-append before (text ∷ []))

pub interned_few : {E : Type 0} (before now : List (List ℕ)) (text : List ℕ) (r : Result ℕ E) → IfOk r (λ n. Adds before text now) → OnErr r (now ≡ before) → length now ≤ length before + 1
interned_few before now text (Ok n) adds kept = one_longer before text now adds
interned_few before now text (Err e) adds kept = omega (arith, ap length kept)

-- one more node, and one more rule
pub symbols_more : (a m b : List (List ℕ)) (ps : List (Symbol ℕ ℕ × ℕ)) (p : Symbol ℕ ℕ × ℕ) → AddsSymbols a ps m → AddsSymbol m p.0 b → AddsSymbols a (ps ++ p ∷ []) b
symbols_more a m b [] p h k = (b, subst (λ (x : List (List ℕ)). AddsSymbol x p.0 b) h k, refl)
symbols_more a m b (q ∷ ps) p (n, first, others) k = (n, first, symbols_more n m b ps p others k)

pub rules_more : (a m b : List (List ℕ)) (rules : List (Rule ℕ)) (rule : Rule ℕ) → AddsRules a rules m → AddsSymbols m (preorder_of rule.right) b → AddsRules a (rules ++ rule ∷ []) b
rules_more a m b [] rule h k = (b, subst (λ (x : List (List ℕ)). AddsSymbols x (preorder_of rule.right) b) h k, refl)
rules_more a m b (r ∷ rules) rule (n, first, others) k = (n, first, rules_more n m b rules rule others k)

pub side_more : (a m b : List (List ℕ)) (side more : List (Item ℕ)) (s : Item ℕ) → more ≡ side ++ s ∷ [] → AddsSymbols a (pairs_of side) m → AddsSymbol m (pair_of s).0 b → AddsSymbols a (pairs_of more) b
side_more a m b side more s e h k =
    subst (λ (ps : List (Symbol ℕ ℕ × ℕ)). AddsSymbols a ps b) (sym (ap pairs_of e ∙ map-append pair_of side (s ∷ []))) (symbols_more a m b (pairs_of side) (pair_of s) h k)

pub list_more : (a m b : List (List ℕ)) (rules more : List (Rule ℕ)) (rule : Rule ℕ) → more ≡ rules ++ rule ∷ [] → AddsRules a rules m → AddsSymbols m (preorder_of rule.right) b → AddsRules a more b
list_more a m b rules more rule e h k = subst (λ (rs : List (Rule ℕ)). AddsRules a rs b) (sym e) (rules_more a m b rules rule h k)

-- a text of a table that has no line feed
pub plain_text : (texts : List (List ℕ)) (n : ℕ) (text : List ℕ) → Each HasNoFeed texts → slice_get texts n ≡ Some text → HasNoFeed text
plain_text [] n text h e = let bad : None ≡ Some text = e in cc
plain_text (t ∷ texts) zero text h e = let same : t ≡ text = cc in subst (λ (x : List ℕ). HasNoFeed x) same h.0
plain_text (t ∷ texts) (suc n) text h e = plain_text texts n text h.1 e

-- the table grows
adds_grows : (a : List (List ℕ)) (text : List ℕ) (b : List (List ℕ)) → Adds a text b → Grows a b
adds_grows a text b (inl (held, same)) = grows_not a b same
adds_grows a text b (inr (new, same)) = grows_more a b (text ∷ []) same

symbol_grows : (a : List (List ℕ)) (s : Symbol ℕ ℕ) (b : List (List ℕ)) → AddsSymbol a s b → Grows a b
symbol_grows a (label f) b (text, at, adds) = adds_grows a text b adds
symbol_grows a (hole q) b same = grows_not a b same

symbols_grow : (a : List (List ℕ)) (ps : List (Symbol ℕ ℕ × ℕ)) (b : List (List ℕ)) → AddsSymbols a ps b → Grows a b
symbols_grow a [] b same = grows_not a b same
symbols_grow a (p ∷ ps) b (m, first, others) = grows_twice a m b (symbol_grows a p.0 m first) (symbols_grow m ps b others)

rules_grow : (a : List (List ℕ)) (rules : List (Rule ℕ)) (b : List (List ℕ)) → AddsRules a rules b → Grows a b
rules_grow a [] b same = grows_not a b same
rules_grow a (r ∷ rules) b (m, first, others) = grows_twice a m b (symbols_grow a (preorder_of r.right) m first) (rules_grow m rules b others)

-- the texts that go in are those of the labels in the table at last
symbol_added : (a m b z : List (List ℕ)) (s : Symbol ℕ ℕ) (texts : List (List ℕ)) → AddsSymbol a s m → Grows m z → AddsAll m texts b → AddsAll a (symbol_texts z s ++ texts) b
symbol_added a m b z (label f) texts (text, at, adds) g more =
    (m, subst (λ (t : List ℕ). Adds a t m) (sym (get_or_from_slice_get z f text [] (g.kept f text at))) adds, more)
symbol_added a m b z (hole q) texts same g more = subst (λ (x : List (List ℕ)). AddsAll x texts b) same more

pub symbols_added : (a b z : List (List ℕ)) (ps : List (Symbol ℕ ℕ × ℕ)) → AddsSymbols a ps b → Grows b z → AddsAll a (node_texts z ps) b
symbols_added a b z [] same g = same
symbols_added a b z (p ∷ ps) (m, first, others) g =
    symbol_added a m b z p.0 (node_texts z ps) first (grows_twice m b z (symbols_grow m ps b others) g) (symbols_added m b z ps others g)

adds_both : (a m b : List (List ℕ)) (xs ys : List (List ℕ)) → AddsAll a xs m → AddsAll m ys b → AddsAll a (xs ++ ys) b
adds_both a m b [] ys same k = subst (λ (x : List (List ℕ)). AddsAll x ys b) same k
adds_both a m b (x ∷ xs) ys (n, first, others) k = (n, first, adds_both n m b xs ys others k)

all_rules_added : (a b z : List (List ℕ)) (rules : List (Rule ℕ)) → AddsRules a rules b → Grows b z → AddsAll a (rule_texts z rules) b
all_rules_added a b z [] same g = same
all_rules_added a b z (r ∷ rules) (m, first, others) g =
    adds_both a m b (node_texts z (preorder_of r.right)) (rule_texts z rules)
    (symbols_added a m z (preorder_of r.right) first (grows_twice m b z (rules_grow m rules b others) g))
    (all_rules_added m b z rules others g)

pub rules_added : (a b : List (List ℕ)) (rules : List (Rule ℕ)) → AddsRules a rules b → AddsAll a (rule_texts b rules) b
rules_added a b rules h = all_rules_added a b b rules h (grows_not b b refl)
