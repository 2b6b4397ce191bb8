-- A grammar whose rules ascend by their left states is read as it is.
use Rattle.tib_cost.specs.declared.Scale.{Scale}
use Rattle.std.proofs.Common.{◌≡◌, ◌⊎◌, ℕ, ◌+◌, ◌<◌, ◌≤◌, inl, inr, List, [], ◌∷◌, ◌++◌, length, get_or, take, refl, ap, sym, ◌∙◌, subst, arith, zero, suc}
use Rattle.std.specs.Prelude.{map, Contains}
use Rattle.std.proofs.lemmas.Option.{slice_get-get_or}
use Rattle.std.proofs.lemmas.List.{take_more, take_all, length-take, get_or-take}
use Rattle.tib_tree.specs.Grows.{AddsAll}
use Rattle.tib_lex.specs.Lists.{Has, Each, Ascends, Distinct}
use Rattle.tib_tree.specs.Trees.{Trees, none, tree, relabel}
use Rattle.tib_grammar.specs.Sides.{Symbol, symbol_map}
use Rattle.tib_grammar.specs.GrammarOf.{GrammarOf, named_rule}
use Rattle.tib_grammar.specs.Run.{rule_at, no_rule}
use Rattle.tib_grammar.specs.declared.Rule.{Rule}
use Rattle.tib_grammar.proofs.Members.{has_at, at_has, each_has, each_of}
use Rattle.tib_grammar_file.specs.ByName.{HasText}
use Rattle.tib_grammar_file.specs.GrammarText.{GrammarText, first_text}
use Rattle.tib_grammar_file.specs.Printed.{grammar_text}
use Rattle.tib_grammar_file.proofs.PrintedBack.{each_rule, prints_as}
use Rattle.tib_grammar_file.proofs.PrintedLines.{rows_in}
use Rattle.tib_grammar_file.proofs.PrintedRules.{Renames}
use Rattle.tib_grammar_file.proofs.PrintedStates.{contains_has}
use Rattle.tib_grammar.specs.Range.{IsLeftIn}
use Rattle.tib_grammar.proofs.Sides.{symbol_itself}
use Rattle.tib_lex.proofs.Members.{has_contains}
use Rattle.tib_lex.proofs.Places.{distinct_at}

abbrev AscendLeft : Rule ℕ → Rule ℕ → Type 0
AscendLeft r s = r.left ≤ s.left

-- The first k names have been seen, and the rules that follow are of the last of these states or of
-- later ones, and of each later one.
record IsSeen (names : List (List ℕ)) (rules : List (Rule ℕ)) (k : ℕ) : Type 0 where
  few : k ≤ length names
  ascend : Ascends AscendLeft rules
  late : Each (λ (r : Rule ℕ). k ≤ r.left + 1) rules
  range : Each (λ (r : Rule ℕ). r.left < length names) rules
  all : (q : ℕ) → k ≤ q → q < length names → IsLeftIn rules q

seen_or_next : (q k : ℕ) → k ≤ q + 1 → (q < k) ⊎ (k ≤ q)
seen_or_next q k h = grind arith

-- a rule of a state that is not that of the first is among the others
left_behind : (r : Rule ℕ) (rules : List (Rule ℕ)) (q : ℕ) → (r.left ≡ q → ⊥) → IsLeftIn (r ∷ rules) q → IsLeftIn rules q
left_behind r rules q other (zero, h, e) = absurd (other e)
left_behind r rules q other (suc n, h, e) = (n, omega arith, e)

-- no state comes before that of the first rule
first_least : (r : Rule ℕ) (rules : List (Rule ℕ)) (q : ℕ) → Ascends AscendLeft (r ∷ rules) → IsLeftIn (r ∷ rules) q → r.left ≤ q
first_least r rules q a (zero, h, e) = omega arith
first_least r rules q a (suc n, h, e) =
    let later : r.left ≤ (rule_at rules n).left = each_has (AscendLeft r) rules (rule_at rules n) a.0 (has_at rules n no_rule (omega arith)) in
    omega arith

-- a name before the k-th is among the first k
pub held : (names : List (List ℕ)) (q k : ℕ) → q < k → k ≤ length names → Contains (take k names) (get_or names q [])
held names q k h few =
    let within : q < length (take k names) = omega (arith, length-take k names) in
    has_contains (take k names) (get_or names q []) (subst (Has (take k names)) (get_or-take k names q [] h) (has_at (take k names) q [] within))

-- the k-th is not
pub is_new : (names : List (List ℕ)) → Distinct names → (k : ℕ) → k < length names → Contains (take k names) (get_or names k []) → ⊥
is_new names apart k h c =
    let at = at_has (take k names) (get_or names k []) [] (contains_has (take k names) (get_or names k []) c) in
    let low : at.0 < k = omega (arith, at.1, length-take k names) in
    let same : at.0 ≡ k = distinct_at names at.0 k [] apart (omega arith) h (sym (get_or-take k names at.0 [] low) ∙ at.2) in
    omega (arith, low, same)

module _ (names : List (List ℕ)) (apart : Distinct names) where
  abbrev name_at : ℕ → List ℕ
  name_at q = get_or names q []

  seen_again : (r : Rule ℕ) (rules : List (Rule ℕ)) (k : ℕ) → IsSeen names (r ∷ rules) k → r.left < k → IsSeen names rules k
  seen_again r rules k s low = record {
    few = s.few;
    ascend = s.ascend.1;
    late = s.late.1;
    range = s.range.1;
    all = λ q h b. left_behind r rules q (λ e. omega arith) (s.all q h b);
  }

  next_is : (r : Rule ℕ) (rules : List (Rule ℕ)) (k : ℕ) → IsSeen names (r ∷ rules) k → k ≤ r.left → r.left ≡ k
  next_is r rules k s high =
      let own : r.left < length names = s.range.0 in
      let least : r.left ≤ k = first_least r rules k s.ascend (s.all k (omega arith) (omega arith)) in
      omega arith

  seen_more : (r : Rule ℕ) (rules : List (Rule ℕ)) (k : ℕ) → IsSeen names (r ∷ rules) k → r.left ≡ k → IsSeen names rules (k + 1)
  seen_more r rules k s e = record {
    few = omega (arith, s.range.0);
    ascend = s.ascend.1;
    late = each_of (λ (x : Rule ℕ). k + 1 ≤ x.left + 1) rules (λ x h. let later : r.left ≤ x.left = each_has (AscendLeft r) rules x s.ascend.0 h in omega arith);
    range = s.range.1;
    all = λ q h b. left_behind r rules q (λ i. omega arith) (s.all q (omega arith) b);
  }

  all_seen : (k : ℕ) → IsSeen names [] k → names ≡ take k names
  all_seen k s = sym (take_all k names (full k (length names) (λ h. let l = s.all k (omega arith) h in omega (arith, l.1))))
    where
      full : (k n : ℕ) → (k < n → ⊥) → n ≤ k
      full k n h = grind arith

  module _ (scale : Scale) (labels : List (List ℕ)) where
    added : (rules : List (Rule ℕ)) (k : ℕ) → IsSeen names rules k → AddsAll (take k names) (map first_text (rows_in scale names labels rules)) names
    added [] k s = all_seen k s
    added (r ∷ rules) k s = elim (seen_or_next r.left k s.late.0) [
      | inl low ↦ (take k names, inl (held names r.left k low s.few, refl), added rules k (seen_again r rules k s low))
      | inr high ↦
          let e : r.left ≡ k = next_is r rules k s high in
          let within : k < length names = omega (arith, s.range.0) in
          let grown : take (k + 1) names ≡ take k names ++ name_at r.left ∷ [] = take_more names k [] within ∙ ap (λ (q : ℕ). take k names ++ name_at q ∷ []) (sym e) in
          (take (k + 1) names, inr (λ c. is_new names apart k within (subst (λ (q : ℕ). Contains (take k names) (name_at q)) e c), grown), added rules (k + 1) (seen_more r rules k s e))
    ]

    all_added : (rules : List (Rule ℕ)) → 0 < length names → IsSeen names rules 1 → AddsAll [] (name_at 0 ∷ map first_text (rows_in scale names labels rules)) names
    all_added rules some s = (take 1 names, inr (λ c. omega (arith, c.1), take_more names 0 [] some), added rules 1 s)

trees_own : (ts : Trees (Symbol ℕ ℕ)) → relabel (symbol_map (λ (q : ℕ). q)) ts ≡ ts
trees_own none = refl
trees_own (tree s kids rest) = cc (symbol_itself s, trees_own kids, trees_own rest)

rule_own : (r : Rule ℕ) → named_rule (λ (q : ℕ). q) r ≡ r
rule_own r =
    ap (λ (s : Symbol ℕ ℕ). record { left = r.left; right = record { label = s; kids = relabel (symbol_map (λ (q : ℕ). q)) r.right.kids }; cost = r.cost }) (symbol_itself r.right.label)
    ∙ ap (λ (ts : Trees (Symbol ℕ ℕ)). record { left = r.left; right = record { label = r.right.label; kids = ts }; cost = r.cost }) (trees_own r.right.kids)

rules_own : (rules : List (Rule ℕ)) → map (named_rule (λ (q : ℕ). q)) rules ≡ rules
rules_own [] = refl
rules_own (r ∷ rules) = ap (λ (x : Rule ℕ). x ∷ map (named_rule (λ (q : ℕ). q)) rules) (rule_own r) ∙ ap (λ (rs : List (Rule ℕ)). r ∷ rs) (rules_own rules)

-- names are their own new names
pub names_own : (names : List (List ℕ)) → Renames names names (λ q. q)
names_own names = record { to = λ q h. slice_get-get_or names q [] h; back = λ text c. c }

pub reads_sorted : (scale : Scale) (labels : List (List ℕ)) (g : GrammarOf) → HasText scale labels g → Ascends (λ r s. r.left ≤ s.left) g.rules → GrammarText scale labels (grammar_text scale labels g) g
reads_sorted scale labels g t up =
    let seen : IsSeen g.names g.rules 1 = record {
      few = omega (arith, t.start);
      ascend = up;
      late = each_of (λ (r : Rule ℕ). 1 ≤ r.left + 1) g.rules (λ r h. omega arith);
      range = each_rule (λ (r : Rule ℕ). r.left < length g.names) g.rules (λ n h. (t.range n h).0);
      all = λ q h b. t.lefts q (omega arith) b;
    } in
    subst (λ (rs : List (Rule ℕ)). GrammarText scale labels (grammar_text scale labels g) (record { names = g.names; rules = rs })) (rules_own g.rules)
    (prints_as scale labels g g.names (λ q. q) t (all_added g.names t.names.distinct scale labels g.rules t.start seen) (names_own g.names))
