-- What is printed of a transducer is the text of the same transducer, states by their names.
use Rattle.tib_cost.specs.declared.Scale.{Scale}
use Rattle.std.proofs.Common.{◌≡◌, ℕ, ◌<◌, inl, inr, List, [], ◌∷◌, ◌++◌, length, get_or, length-append, refl, ap, sym, ◌∙◌, subst, arith, zero, suc}
use Rattle.std.specs.Prelude.{map}
use Rattle.std.proofs.lemmas.List.{map-append}
use Rattle.std.proofs.lemmas.Option.{get_or_from_slice_get}
use Rattle.tib_lex.specs.Lines.{lines_of}
use Rattle.tib_lex.specs.Lists.{Along, Each, Has}
use Rattle.tib_lex.proofs.HasLines.{lines_read}
use Rattle.tib_lex.proofs.Members.{has_at, at_has, has_either, has_contains}
use Rattle.tib_tree.specs.Grows.{AddsAll}
use Rattle.tib_tree.specs.Trees.{Trees, none, tree, preorder, relabel}
use Rattle.tib_grammar.specs.Range.{AllBelow}
use Rattle.tib_grammar.specs.Sides.{Symbol, label as symbol_label, hole, symbol_map}
use Rattle.tib_grammar.specs.StateName.{IsStateName}
use Rattle.tib_grammar_file.proofs.PrintedRules.{Renames}
use Rattle.tib_grammar_file.proofs.PrintedStates.{contains_has, gathered, all_added, all_from, starts_with, SameNames, number_by, renames}
use Rattle.tib_grammar_file.proofs.PrintedTrees.{name_at_is}
use Rattle.tib_grammar_file.proofs.PrintedBack.{start_read}
use Rattle.tib_transducer.specs.Rules.{states_in}
use Rattle.tib_transducer.specs.TransducerOf.{TransducerOf}
use Rattle.tib_transducer.specs.declared.Pair.{Pair}
use Rattle.tib_transducer.specs.declared.TransducerRule.{TransducerRule}
use Rattle.tib_transducer.specs.NamedPairs.{named_pair}
use Rattle.tib_transducer_file.specs.Rule.{RuleLine}
use Rattle.tib_transducer_file.specs.TransducerText.{HaveRules, HaveStart, TransducerText, IsSmallRule, ReadsAs}
use Rattle.tib_transducer_file.specs.Value.{IsRule, states_in as states_on_right, states_of as states_written}
use Rattle.tib_transducer_file.proofs.FaultsOnce.{no_text}
use Rattle.tib_transducer_file.specs.ByName.{named_rule, states_of, HasText, PrintsBack}
use Rattle.tib_transducer_file.specs.Printed.{transducer_text}
use Rattle.tib_transducer_file.proofs.Fitting.{IsGood, are_good, LineOf, rule_line, rule_fits}
use Rattle.tib_transducer_file.proofs.Forests.{FitsSymbol}
use Rattle.tib_transducer_file.proofs.PrintedBytes.{lines_in, transducer_lines}
use Rattle.tib_transducer_file.proofs.RightTokens.{IsPairPlain, FitsRight}
use Rattle.tib_transducer_file.specs.ByName.{IsPlainLabel}

-- the lines of rules, and what they say
pub record LinesOf (scale : Scale) (names labels : List (List ℕ)) (rules : List (TransducerRule ℕ)) : Type 0 where
  pub lines : List RuleLine
  pub have : HaveRules scale (lines_in scale names labels rules) lines
  pub means : (others : List (List ℕ)) (number : ℕ → ℕ) → Renames names others number → Along (IsRule others labels) (map (named_rule number) rules) lines
  pub states : states_written lines ≡ map (λ q. get_or names q []) (states_of rules)

rules_lines : (scale : Scale) (names labels : List (List ℕ)) (rules : List (TransducerRule ℕ)) → Each IsStateName names → Each (IsGood scale names labels) rules → LinesOf scale names labels rules
rules_lines scale names labels [] e g = record { lines = []; have = refl; means = λ others number n. tt; states = refl }
rules_lines scale names labels (r ∷ rules) e g =
    let own : LineOf scale names labels r = rule_line scale names labels r e g.0 in
    let more : LinesOf scale names labels rules = rules_lines scale names labels rules e g.1 in
    record {
      lines = own.line ∷ more.lines;
      have = inr (own.line, more.lines, refl, own.spells, more.have);
      means = λ others number n. (own.means others number n, more.means others number n);
      states =
          ap (λ (t : List ℕ). t ∷ (states_on_right own.line.parts.right ++ states_written more.lines)) own.state
          ∙ ap (λ (ts : List (List ℕ)). get_or names r.state [] ∷ (ts ++ states_written more.lines)) own.states
          ∙ ap (λ (ts : List (List ℕ)). get_or names r.state [] ∷ (map (λ q. get_or names q []) (states_in r.right) ++ ts)) more.states
          ∙ ap (λ (ts : List (List ℕ)). get_or names r.state [] ∷ ts) (sym (map-append (λ q. get_or names q []) (states_in r.right) (states_of rules)));
    }

abbrev pub start_of : TransducerOf → List ℕ
start_of t = get_or t.names 0 []

-- the names of the states, as they are in the text
abbrev pub names_in : TransducerOf → List (List ℕ)
names_in t = start_of t ∷ map (λ q. get_or t.names q []) (states_of t.rules)

-- what is printed is a text of the transducer with other numbers for its states, if they are those
-- of first sight
pub prints_as : (scale : Scale) (labels : List (List ℕ)) (t : TransducerOf) (names : List (List ℕ)) (number : ℕ → ℕ) → HasText scale labels t → AddsAll [] (names_in t) names → Renames t.names names number →
    TransducerText scale labels (transducer_text scale labels t) (record { names = names; rules = map (named_rule number) t.rules })
prints_as scale labels t names number h added ren =
    let good : Each (IsGood scale t.names labels) t.rules = are_good scale labels t h in
    let start : List ℕ = start_of t in
    let is_start : IsStateName start = name_at_is t.names 0 h.names.each h.start in
    let own : LinesOf scale t.names labels t.rules = rules_lines scale t.names labels t.rules h.names.each good in
    let lines : lines_of (transducer_text scale labels t) ≡ start ∷ lines_in scale t.names labels t.rules =
    lines_read (start ∷ lines_in scale t.names labels t.rules) (transducer_text scale labels t) (transducer_lines scale labels t h.names.each good) in
    let written : HaveStart scale (start ∷ lines_in scale t.names labels t.rules) start own.lines = inr (start_read start is_start, is_start.no_stop, own.have) in
    record {
      start = start;
      lines = own.lines;
      written = subst (λ (ls : List (List ℕ)). HaveStart scale ls start own.lines) (sym lines) written;
      states = subst (λ (ts : List (List ℕ)). AddsAll [] (start ∷ ts) names) (sym own.states) added;
      rules = own.means names number ren;
    }

-- the names that the text has are those of the transducer

named : (names : List (List ℕ)) (qs : List ℕ) (q : ℕ) → Has qs q → Has (map (λ p. get_or names p []) qs) (get_or names q [])
named names [] q h = absurd h
named names (p ∷ qs) q (inl e) = inl (ap (λ (x : ℕ). get_or names x []) e)
named names (p ∷ qs) q (inr h) = inr (named names qs q h)

states_append : (names : List (List ℕ)) (qs ps : List ℕ) (x : List ℕ) → (Has (map (λ p. get_or names p []) qs) x → Has names x) → (Has (map (λ p. get_or names p []) ps) x → Has names x) → Has (map (λ p. get_or names p []) (qs ++ ps)) x → Has names x
states_append names qs ps x f g h = elim (has_either (map (λ p. get_or names p []) qs) (map (λ p. get_or names p []) ps) x (subst (λ (ts : List (List ℕ)). Has ts x) (map-append (λ p. get_or names p []) qs ps) h)) [ inl k ↦ f k | inr k ↦ g k ]

below_named : (names : List (List ℕ)) (qs : List ℕ) (x : List ℕ) → AllBelow (length names) qs → Has (map (λ p. get_or names p []) qs) x → Has names x
below_named names [] x b h = absurd h
below_named names (q ∷ qs) x b (inl e) = subst (λ (y : List ℕ). Has names y) e (has_at names q [] b.0)
below_named names (q ∷ qs) x b (inr h) = below_named names qs x b.1 h

rules_named : (scale : Scale) (names labels : List (List ℕ)) (rules : List (TransducerRule ℕ)) (x : List ℕ) → Each (IsGood scale names labels) rules → Has (map (λ p. get_or names p []) (states_of rules)) x → Has names x
rules_named scale names labels [] x g h = absurd h
rules_named scale names labels (r ∷ rules) x g (inl e) = subst (λ (y : List ℕ). Has names y) e (has_at names r.state [] g.0.within.0)
rules_named scale names labels (r ∷ rules) x g (inr h) =
    states_append names (states_in r.right) (states_of rules) x (below_named names (states_in r.right) x g.0.within.1) (rules_named scale names labels rules x g.1) h

held_name : (t : TransducerOf) (others : List (List ℕ)) → ((q : ℕ) → 0 < q → q < length t.names → Has (states_of t.rules) q) → AddsAll [] (names_in t) others → (q : ℕ) → q < length t.names → Has others (get_or t.names q [])
held_name t others stand adds zero h = all_added [] (names_in t) others adds (start_of t) (inl refl)
held_name t others stand adds (suc q) h = all_added [] (names_in t) others adds (get_or t.names (suc q) []) (inr (named t.names (states_of t.rules) (suc q) (stand (suc q) (omega arith) h)))

names_same : (scale : Scale) (labels : List (List ℕ)) (t : TransducerOf) (others : List (List ℕ)) → HasText scale labels t → AddsAll [] (names_in t) others → SameNames t.names others
names_same scale labels t others h adds = record {
  to = λ x k. let at = at_has t.names x [] k in subst (λ (y : List ℕ). Has others y) at.2 (held_name t others h.stand adds at.0 at.1);
  back = λ x k. elim (all_from [] (names_in t) others adds x k) [
    | inl bad ↦ absurd bad
    | inr l ↦ elim l [
      | inl same ↦ subst (λ (y : List ℕ). Has t.names y) same (has_at t.names 0 [] h.start)
      | inr m ↦ rules_named scale t.names labels t.rules x (are_good scale labels t h) m
    ]
  ];
  start = sym (starts_with (start_of t) (map (λ q. get_or t.names q []) (states_of t.rules)) others adds);
}

-- the same rules, by the names of their states

abbrev by_name : List (List ℕ) → Symbol ℕ (Pair ℕ) → Symbol ℕ (Pair (List ℕ))
by_name names s = symbol_map (named_pair (λ q. get_or names q [])) s

abbrev pair_of : List ℕ → ℕ → Pair (List ℕ)
pair_of state variable = record { state = state; variable = variable }

symbol_same : (names others labels : List (List ℕ)) (number : ℕ → ℕ) (m : ℕ) (s : Symbol ℕ (Pair ℕ)) (kids : Trees (Symbol ℕ (Pair ℕ))) → Renames names others number → FitsSymbol (IsPlainLabel labels) (IsPairPlain (length names) m) s kids → by_name names s ≡ by_name others (symbol_map (named_pair number) s)
symbol_same names others labels number m (symbol_label f) kids r h = refl
symbol_same names others labels number m (hole x) none r h = ap (λ (t : List ℕ). hole (pair_of t x.variable)) (sym (get_or_from_slice_get others (number x.state) (get_or names x.state []) [] (r.to x.state h.0)))
symbol_same names others labels number m (hole x) (tree g inner next) r h = absurd h

trees_same : (names others labels : List (List ℕ)) (number : ℕ → ℕ) (m : ℕ) (ts : Trees (Symbol ℕ (Pair ℕ))) → Renames names others number → FitsRight (length names) m labels ts → relabel (by_name names) ts ≡ relabel (by_name others) (relabel (symbol_map (named_pair number)) ts)
trees_same names others labels number m none r h = refl
trees_same names others labels number m (tree s kids rest) r h =
    cc (symbol_same names others labels number m s kids r h.0, trees_same names others labels number m kids r h.1, trees_same names others labels number m rest r h.2)

abbrev rule_by : TransducerRule ℕ → List ℕ → Symbol ℕ (Pair (List ℕ)) → Trees (Symbol ℕ (Pair (List ℕ))) → TransducerRule (List ℕ)
rule_by r state symbol kids = record { state = state; left = r.left; right = record { label = symbol; kids = kids }; cost = r.cost }

by_same : (r : TransducerRule ℕ) (l k : List ℕ) (s t : Symbol ℕ (Pair (List ℕ))) (ts us : Trees (Symbol ℕ (Pair (List ℕ)))) → l ≡ k → s ≡ t → ts ≡ us → rule_by r l s ts ≡ rule_by r k t us
by_same r l k s t ts us a b c =
    ap (λ (x : List ℕ). rule_by r x s ts) a
    ∙ ap (λ (x : Symbol ℕ (Pair (List ℕ))). rule_by r k x ts) b
    ∙ ap (λ (x : Trees (Symbol ℕ (Pair (List ℕ)))). rule_by r k t x) c

rule_same : (scale : Scale) (names others labels : List (List ℕ)) (number : ℕ → ℕ) (r : TransducerRule ℕ) → Renames names others number → IsGood scale names labels r → named_rule (λ q. get_or names q []) r ≡ named_rule (λ q. get_or others q []) (named_rule number r)
rule_same scale names others labels number r n g =
    let fit = (rule_fits scale names labels r g).right_fits in
    by_same r
    (get_or names r.state [])
    (get_or others (number r.state) [])
    (by_name names r.right.label)
    (by_name others (symbol_map (named_pair number) r.right.label))
    (relabel (by_name names) r.right.kids)
    (relabel (by_name others) (relabel (symbol_map (named_pair number)) r.right.kids))
    (sym (get_or_from_slice_get others (number r.state) (get_or names r.state []) [] (n.to r.state g.within.0)))
    (symbol_same names others labels number _ r.right.label r.right.kids n fit.0)
    (trees_same names others labels number _ r.right.kids n fit.1)

rules_same : (scale : Scale) (names others labels : List (List ℕ)) (number : ℕ → ℕ) (rules : List (TransducerRule ℕ)) → Renames names others number → Each (IsGood scale names labels) rules → map (named_rule (λ q. get_or names q [])) rules ≡ map (named_rule (λ q. get_or others q [])) (map (named_rule number) rules)
rules_same scale names others labels number [] n g = refl
rules_same scale names others labels number (r ∷ rules) n g = cc (rule_same scale names others labels number r n g.0, rules_same scale names others labels number rules n g.1)

-- other numbers leave the number of nodes
nodes_same : {A B : Type 0} (f : A → B) (ts : Trees A) → length (preorder (relabel f ts)) ≡ length (preorder ts)
nodes_same f none = refl
nodes_same f (tree s kids rest) =
    omega (arith, nodes_same f kids, nodes_same f rest, length-append (preorder (relabel f kids)) (preorder (relabel f rest)), length-append (preorder kids) (preorder rest))

small_same : (number : ℕ → ℕ) (rules : List (TransducerRule ℕ)) → Each IsSmallRule rules → Each IsSmallRule (map (named_rule number) rules)
small_same number [] s = tt
small_same number (r ∷ rules) s = ((s.0.0, omega (arith, nodes_same (symbol_map (named_pair number)) r.right.kids, s.0.1)), small_same number rules s.1)

pub prints_back : PrintsBack
prints_back scale labels t h =
    let made = gathered [] (names_in t) in
    let names : List (List ℕ) = made.0 in
    let same : SameNames t.names names = names_same scale labels t names h made.1 in
    let number : ℕ → ℕ = number_by t.names names in
    let ren : Renames t.names names number = renames t.names names same in
    let u : TransducerOf = record { names = names; rules = map (named_rule number) t.rules } in
    let text : TransducerText scale labels (transducer_text scale labels t) u = prints_as scale labels t names number h made.1 ren in
    let read : Each IsSmallRule t.rules → ReadsAs scale labels (transducer_text scale labels t) u = λ small. record { text = text; small = small_same number t.rules small } in (
      u,
      record {
        text = text;
        same = record {
          start = same.start;
          names = λ x. (λ c. has_contains names x (same.to x (contains_has t.names x c)), λ c. has_contains t.names x (same.back x (contains_has names x c)));
          rules = rules_same scale t.names names labels number t.rules ren (are_good scale labels t h);
        };
        read = read;
        no_fault = λ small fault first. no_text scale (transducer_text scale labels t) fault first labels u (read small);
      },
    )
