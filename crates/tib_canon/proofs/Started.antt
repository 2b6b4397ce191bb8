-- The rules after a fresh start: its chain rules, and those over positions with the next numbers.
use Rattle.tib_cost.specs.declared.Scale.{Scale}
use Rattle.std.specs.declared.result.Result.{Result}
use Rattle.tib_tree.specs.declared.preorder.ShapeError.{ShapeError}
use Rattle.tib_tree.specs.declared.preorder.ShapeError.TheVariants.{NotATree, OutOfMemory}
use Rattle.std.proofs.Common.{◌≡◌, ℕ, ◌+◌, ◌<◌, Err, length-append, List, [], ◌∷◌, ◌++◌, length, map, drop, refl, ap, sym, ◌∙◌, subst, arith, suc, inl, inr, ◌⊎◌}
use Rattle.std.proofs.lemmas.List.{length-map, map-append}
use Rattle.tib_lex.specs.Lists.{Has, Each}
use Rattle.tib_lex.proofs.Members.{has_at, at_has, each_has, has_left, has_right, has_either}
use Rattle.tib_lex.proofs.Lists.{has_mapped, mapped_has}
use Rattle.tib_tree.specs.Trees.{Trees, none, tree, only, relabel}
use Rattle.tib_grammar.specs.Sides.{Symbol, label, hole, Side, symbol_map, side_map, holes_of, HolesAreLeaves}
use Rattle.tib_grammar.specs.GrammarOf.{named_rule}
use Rattle.tib_grammar.specs.Range.{AllBelow, IsInRange, AreInRange, SidesEndInHoles}
use Rattle.tib_grammar.specs.Renaming.{number_in}
use Rattle.tib_grammar.specs.Run.{rule_at, no_rule}
use Rattle.tib_grammar.specs.declared.Rule.{Rule}
use Rattle.tib_grammar.proofs.Sides.{holes-relabel}
use Rattle.tib_grammar_file.specs.Printed.{LabelsBelow, AreLabelled}
use Rattle.tib_grammar_file.specs.Printable.{HavePlainLabels, IsPlainCost, IsPrintable, ArePrintable}
use Rattle.tib_canon.specs.Keys.{chain_to, chain_in, started_rules}

-- sides with other states

pub all_mapped : (n k : ℕ) (f : ℕ → ℕ) (qs : List ℕ) → ((q : ℕ) → q < k → f q < n) → AllBelow k qs → AllBelow n (map f qs)
all_mapped n k f [] h b = tt
all_mapped n k f (q ∷ qs) h b = (h q b.0, all_mapped n k f qs h b.1)

pub relabel_ends : {P Q : Type 0} (f : P → Q) (ts : Trees (Symbol ℕ P)) → HolesAreLeaves ts → HolesAreLeaves (relabel (symbol_map f) ts)
relabel_ends f none h = tt
relabel_ends f (tree (label g) kids rest) h = (relabel_ends f kids h.0, relabel_ends f rest h.1)
relabel_ends f (tree (hole q) none rest) h = relabel_ends f rest h
relabel_ends f (tree (hole q) (tree s kids more) rest) h = absurd h

labels_on : (n : ℕ) (f : ℕ → ℕ) (ts : Trees (Symbol ℕ ℕ)) → LabelsBelow n ts → LabelsBelow n (relabel (symbol_map f) ts)
labels_on n f none h = tt
labels_on n f (tree (label g) kids rest) h = (h.0, labels_on n f kids h.1, labels_on n f rest h.2)
labels_on n f (tree (hole q) kids rest) h = labels_on n f rest h

pub plain_on : (labels : List (List ℕ)) (f : ℕ → ℕ) (ts : Trees (Symbol ℕ ℕ)) → HavePlainLabels labels ts → HavePlainLabels labels (relabel (symbol_map f) ts)
plain_on labels f none h = tt
plain_on labels f (tree (label g) kids rest) h = (h.0, h.1, plain_on labels f kids h.2, plain_on labels f rest h.3)
plain_on labels f (tree (hole q) kids rest) h = (plain_on labels f kids h.0, plain_on labels f rest h.1)

-- states exchanged twice, at once
module _ (f g h : ℕ → ℕ) (same : (q : ℕ) → f q ≡ g (h q)) where
  symbol_after : (s : Symbol ℕ ℕ) → symbol_map {A = ℕ} f s ≡ symbol_map g (symbol_map h s)
  symbol_after (label x) = refl
  symbol_after (hole q) = ap hole (same q)

  relabel_after : (ts : Trees (Symbol ℕ ℕ)) → relabel (symbol_map f) ts ≡ relabel (symbol_map g) (relabel (symbol_map h) ts)
  relabel_after none = refl
  relabel_after (tree s kids rest) =
      ap (λ (x : Symbol ℕ ℕ). tree x (relabel (symbol_map f) kids) (relabel (symbol_map f) rest)) (symbol_after s)
      ∙ ap (λ (ks : Trees (Symbol ℕ ℕ)). tree (symbol_map g (symbol_map h s)) ks (relabel (symbol_map f) rest)) (relabel_after kids)
      ∙ ap (λ (rs : Trees (Symbol ℕ ℕ)). tree (symbol_map g (symbol_map h s)) (relabel (symbol_map g) (relabel (symbol_map h) kids)) rs) (relabel_after rest)

  side_after : (s : Side ℕ ℕ) → side_map f s ≡ side_map g (side_map h s)
  side_after s =
      ap (λ (x : Symbol ℕ ℕ). record { label = x; kids = relabel (symbol_map f) s.kids }) (symbol_after s.label)
      ∙ ap (λ (ks : Trees (Symbol ℕ ℕ)). record { label = symbol_map g (symbol_map h s.label); kids = ks }) (relabel_after s.kids)

  rules_after : (rules : List (Rule ℕ)) → map (named_rule f) rules ≡ map (named_rule g) (map (named_rule h) rules)
  rules_after [] = refl
  rules_after (r ∷ rules) =
      ap (λ (q : ℕ). record { left = q; right = side_map f r.right; cost = r.cost } ∷ map (named_rule f) rules) (same r.left)
      ∙ ap (λ (s : Side ℕ ℕ). record { left = g (h r.left); right = s; cost = r.cost } ∷ map (named_rule f) rules) (side_after r.right)
      ∙ ap (λ (rs : List (Rule ℕ)). named_rule g (named_rule h r) ∷ rs) (rules_after rules)

-- the numbers of positions after that of the fresh start

number_behind : (numbers : List ℕ) (q : ℕ) → number_in (drop 1 numbers) q ≡ number_in numbers (suc q)
number_behind [] q = refl
number_behind (n ∷ numbers) q = refl

chains_named : (numbers : List ℕ) → number_in numbers 0 ≡ 0 → (finals : List (ℕ × ℕ)) → map (chain_in (drop 1 numbers)) finals ≡ map (named_rule (number_in numbers)) (map chain_to finals)
chains_named numbers first [] = refl
chains_named numbers first (p ∷ finals) =
    ap (λ (q : ℕ). record { left = 0; right = record { label = hole q; kids = none }; cost = p.1 } ∷ map (chain_in (drop 1 numbers)) finals) (number_behind numbers p.0)
    ∙ ap (λ (q : ℕ). record { left = q; right = record { label = hole (number_in numbers (suc p.0)); kids = none }; cost = p.1 } ∷ map (chain_in (drop 1 numbers)) finals) (sym first)
    ∙ ap (λ (rs : List (Rule ℕ)). named_rule (number_in numbers) (chain_to p) ∷ rs) (chains_named numbers first finals)

-- chain rules and rules with the numbers after that of the fresh start are the started rules with
-- the numbers
pub started_named :
    (numbers : List ℕ) → number_in numbers 0 ≡ 0 → (finals : List (ℕ × ℕ)) (rules : List (Rule ℕ)) →
    map (chain_in (drop 1 numbers)) finals ++ map (named_rule (number_in (drop 1 numbers))) rules ≡ map (named_rule (number_in numbers)) (started_rules finals rules)
started_named numbers first finals rules =
    ap (λ (rs : List (Rule ℕ)). rs ++ map (named_rule (number_in (drop 1 numbers))) rules) (chains_named numbers first finals)
    ∙ ap (λ (rs : List (Rule ℕ)). map (named_rule (number_in numbers)) (map chain_to finals) ++ rs) (rules_after (number_in (drop 1 numbers)) (number_in numbers) suc (number_behind numbers) rules)
    ∙ sym (map-append (named_rule (number_in numbers)) (map chain_to finals) (map (named_rule suc) rules))

-- each started rule is a chain rule, or a rule with the next numbers

module _ (finals : List (ℕ × ℕ)) where
  pub started_has :
      (rules : List (Rule ℕ)) (r : Rule ℕ) → Has (started_rules finals rules) r →
      ((p : ℕ × ℕ) × Has {A = ℕ × ℕ} finals p × (chain_to p ≡ r)) ⊎ ((s : Rule ℕ) × Has rules s × (named_rule suc s ≡ r))
  started_has rules r h = elim (has_either (map chain_to finals) (map (named_rule suc) rules) r h) [
    | inl k ↦ inl (has_mapped chain_to finals r k)
    | inr k ↦ inr (has_mapped (named_rule suc) rules r k)
  ]

  pub started_each :
      (P : Rule ℕ → Type 0) (rules : List (Rule ℕ)) → ((p : ℕ × ℕ) → Has {A = ℕ × ℕ} finals p → P (chain_to p)) → ((s : Rule ℕ) → Has rules s → P (named_rule suc s)) →
      (r : Rule ℕ) → Has (started_rules finals rules) r → P r
  started_each P rules chains others r h = elim (started_has rules r h) [
    | inl c ↦ subst P c.2 (chains c.0 c.1)
    | inr s ↦ subst P s.2 (others s.0 s.1)
  ]

  started_at :
      (Old New : Rule ℕ → Type 0) (rules : List (Rule ℕ)) → ((p : ℕ × ℕ) → Has {A = ℕ × ℕ} finals p → New (chain_to p)) → ((s : Rule ℕ) → Old s → New (named_rule suc s)) →
      ((m : ℕ) → m < length rules → Old (rule_at rules m)) → (m : ℕ) → m < length (started_rules finals rules) → New (rule_at (started_rules finals rules) m)
  started_at Old New rules chains others all m h =
      started_each New rules chains (λ s k. others s (member s k)) (rule_at (started_rules finals rules) m) (has_at (started_rules finals rules) m no_rule h)
    where
      member : (s : Rule ℕ) → Has rules s → Old s
      member s k = let a = at_has rules s no_rule k in subst Old a.2 (all a.0 a.1)

  -- members of the rules are members of the started rules
  pub started_to : (xs ys : List (Rule ℕ)) → ((r : Rule ℕ) → Has xs r → Has ys r) → (r : Rule ℕ) → Has (started_rules finals xs) r → Has (started_rules finals ys) r
  started_to xs ys to r h = elim (has_either (map chain_to finals) (map (named_rule suc) xs) r h) [
    | inl k ↦ has_left (map chain_to finals) (map (named_rule suc) ys) r k
    | inr k ↦
        let s = has_mapped (named_rule suc) xs r k in
        has_right (map chain_to finals) (map (named_rule suc) ys) r (subst (Has (map (named_rule suc) ys)) s.2 (mapped_has (named_rule suc) ys s.0 (to s.0 s.1)))
  ]

  pub started_leaves : (rules : List (Rule ℕ)) → SidesEndInHoles rules → SidesEndInHoles (started_rules finals rules)
  started_leaves rules leaves = started_at (λ r. HolesAreLeaves (only r.right)) (λ r. HolesAreLeaves (only r.right)) rules (λ p h. tt) (λ s h. relabel_ends suc (only s.right) h) leaves

  pub started_labelled : (n : ℕ) (rules : List (Rule ℕ)) → AreLabelled n rules → AreLabelled n (started_rules finals rules)
  started_labelled n rules labelled = started_at (λ r. LabelsBelow n (only r.right)) (λ r. LabelsBelow n (only r.right)) rules (λ p h. tt) (λ s h. labels_on n suc (only s.right) h) labelled

  pub started_printable :
      (scale : Scale) (labels : List (List ℕ)) (rules : List (Rule ℕ)) → Each (λ p. IsPlainCost scale p.1) finals → ArePrintable scale labels rules → ArePrintable scale labels (started_rules finals rules)
  started_printable scale labels rules plain printable =
      started_at (IsPrintable scale labels) (IsPrintable scale labels) rules (λ p h. record { right = (tt, tt); cost = each_has (λ (f : ℕ × ℕ). IsPlainCost scale f.1) finals p plain h })
      (λ s h. record { right = plain_on labels suc (only s.right) h.right; cost = h.cost }) printable

  module _ (n : ℕ) (within : Each (λ p. p.0 < n) finals) where
    chain_in_range : (p : ℕ × ℕ) → Has {A = ℕ × ℕ} finals p → IsInRange (suc n) (chain_to p)
    chain_in_range p h = let low = each_has (λ (f : ℕ × ℕ). f.0 < n) finals p within h in (omega arith, (omega (arith, low), tt))

    next_in_range : (s : Rule ℕ) → IsInRange n s → IsInRange (suc n) (named_rule suc s)
    next_in_range s h = (
      omega (arith, h.0),
      subst (AllBelow (suc n)) (sym (holes-relabel suc (only s.right))) (all_mapped (suc n) n suc (holes_of s.right) (λ q low. omega (arith, low)) h.1),
    )

    pub started_range : (rules : List (Rule ℕ)) → AreInRange n rules → AreInRange (suc n) (started_rules finals rules)
    started_range rules range = started_at (IsInRange n) (IsInRange (suc n)) rules chain_in_range next_in_range range

pub started_long : (finals : List (ℕ × ℕ)) (rules : List (Rule ℕ)) → length (started_rules finals rules) ≡ length finals + length rules
started_long finals rules = omega (arith, length-append (map chain_to finals) (map (named_rule suc) rules), length-map finals chain_to, length-map rules (named_rule suc))
