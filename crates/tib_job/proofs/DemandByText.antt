-- What is demanded of a tree-to-string transducer: it is one over all tables of labels, and it is
-- met or broken, not both.
use Rattle.std.proofs.Common.{◌≡◌, ℕ, ◌+◌, ◌-◌, ◌<◌, ◌⊎◌, List, [], ◌∷◌, length, refl, ap, sym, ◌∙◌, subst, arith, zero, suc, inl, inr}
use Rattle.tib_lex.specs.Lists.{Along, Each, Has, Distinct}
use Rattle.tib_lex.proofs.Booleans.{either_way}
use Rattle.tib_tree.specs.Trees.{only}
use Rattle.tib_transducer.specs.declared.error.ClassFault.{ClassFault}
use Rattle.tib_transducer.specs.declared.error.ClassFault.TheVariants as classes
use Rattle.tib_transducer.specs.Rules.{variables_of}
use Rattle.tib_strings.specs.Faults.{HasFault, IsFirstFault}
use Rattle.tib_strings.specs.Range.{IsLinear, IsNondeleting, AreLinear, AreNondeleting}
use Rattle.tib_strings.specs.Rules.{string_rule, variables_in}
use Rattle.tib_strings.specs.StringTransducerOf.{StringTransducerOf}
use Rattle.tib_strings.specs.declared.StringRule.{StringRule}
use Rattle.tib_strings.specs.declared.Word.{Word as Token}
use Rattle.tib_strings.specs.declared.Word.TheVariants.{Word, Hole}
use Rattle.tib_strings.specs.ByText.{AgreeOnRight, AreOneStringRule, AreOneStringTransducer}
use Rattle.tib_strings.specs.RuleValue.{nodes_of}
use Rattle.tib_operations.proofs.ClassesByText.{IsOneDemand, IsDecided}
use Rattle.tib_operations.proofs.OfCheck.{variables_along, all_used, all_used_back}
use Rattle.tib_operations.proofs.OfDomain.{fault_not_met}
use Rattle.tib_operations.specs.Parse.{parse_demands}

-- one rule over two tables of labels

module _ (labels others : List (List ℕ)) where
  used_same : (ws vs : List (Token ℕ)) → Along (λ x y. AgreeOnRight labels others x.0 y.0) (nodes_of ws) (nodes_of vs) → variables_in ws ≡ variables_in vs
  used_same [] [] a = refl
  used_same [] (v ∷ vs) a = absurd a
  used_same (w ∷ ws) [] a = absurd a
  used_same (Word g ∷ ws) (Word k ∷ vs) a = used_same ws vs a.1
  used_same (Word g ∷ ws) (Hole y ∷ vs) a = absurd a.0
  used_same (Hole x ∷ ws) (Word k ∷ vs) a = absurd a.0
  used_same (Hole x ∷ ws) (Hole y ∷ vs) a = ap (λ (n : ℕ). n ∷ variables_in ws) a.0.1 ∙ ap (λ (ns : List ℕ). y.variable ∷ ns) (used_same ws vs a.1)

  module _ (r s : StringRule ℕ) (one : AreOneStringRule labels others r s) where
    linear_to : IsLinear r → IsLinear s
    linear_to h = subst (λ (ns : List ℕ). Distinct ns) (used_same r.right s.right one.right) h

    linear_from : IsLinear s → IsLinear r
    linear_from h = subst (λ (ns : List ℕ). Distinct ns) (sym (used_same r.right s.right one.right)) h

    nondeleting_to : IsNondeleting r → IsNondeleting s
    nondeleting_to h =
        all_used labels others (variables_in s.right) (variables_of r.left) (variables_of s.left) (variables_along labels others (only r.left) (only s.left) one.left)
        (subst (λ (ns : List ℕ). Each (λ x. Has ns x.number) (variables_of r.left)) (used_same r.right s.right one.right) h)

    nondeleting_from : IsNondeleting s → IsNondeleting r
    nondeleting_from h =
        subst (λ (ns : List ℕ). Each (λ x. Has ns x.number) (variables_of r.left)) (sym (used_same r.right s.right one.right))
        (all_used_back labels others (variables_in s.right) (variables_of r.left) (variables_of s.left) (variables_along labels others (only r.left) (only s.left) one.left) h)

    fault_to : (e : ClassFault) → HasFault e r → HasFault e s
    fault_to classes.NotLinear h = λ k. h (linear_from k)
    fault_to classes.NotNondeleting h = (linear_to h.0, λ k. h.1 (nondeleting_from k))
    fault_to classes.Extended h = h
    fault_to classes.Labelled h = h
    fault_to classes.NotStrict h = h

  rules_long : (rs ss : List (StringRule ℕ)) → Along (AreOneStringRule labels others) rs ss → length rs ≡ length ss
  rules_long [] [] a = refl
  rules_long [] (s ∷ ss) a = absurd a
  rules_long (r ∷ rs) [] a = absurd a
  rules_long (r ∷ rs) (s ∷ ss) a = ap suc (rules_long rs ss a.1)

  rule_at : (rs ss : List (StringRule ℕ)) → Along (AreOneStringRule labels others) rs ss → (n : ℕ) → n < length rs → AreOneStringRule labels others (string_rule rs n) (string_rule ss n)
  rule_at [] ss a n h = absurd (omega arith)
  rule_at (r ∷ rs) [] a n h = absurd a
  rule_at (r ∷ rs) (s ∷ ss) a zero h = a.0
  rule_at (r ∷ rs) (s ∷ ss) a (suc n) h = rule_at rs ss a.1 n (omega arith)

  module _ (rs ss : List (StringRule ℕ)) (one : Along (AreOneStringRule labels others) rs ss) where
    all_linear : AreLinear rs → AreLinear ss
    all_linear m n low =
        let below : n < length rs = omega (arith, low, rules_long rs ss one) in
        linear_to (string_rule rs n) (string_rule ss n) (rule_at rs ss one n below) (m n below)

    all_nondeleting : AreNondeleting rs → AreNondeleting ss
    all_nondeleting m n low =
        let below : n < length rs = omega (arith, low, rules_long rs ss one) in
        nondeleting_to (string_rule rs n) (string_rule ss n) (rule_at rs ss one n below) (m n below)

    first_to : (n : ℕ) (e : ClassFault) → IsFirstFault rs n e → IsFirstFault ss n e
    first_to n e h =
        let low : n - 1 < length rs = omega (arith, h.from, h.to) in
        record {
          from = h.from;
          to = omega (arith, h.to, rules_long rs ss one);
          has = fault_to (string_rule rs (n - 1)) (string_rule ss (n - 1)) (rule_at rs ss one (n - 1) low) e h.has;
          linear = λ m l. linear_to (string_rule rs m) (string_rule ss m) (rule_at rs ss one m (omega (arith, l, low))) (h.linear m l);
          nondeleting = λ m l. nondeleting_to (string_rule rs m) (string_rule ss m) (rule_at rs ss one m (omega (arith, l, low))) (h.nondeleting m l);
        }

-- the first rule with a fault is one

module _ (r : StringRule ℕ) where
  one_fault : (e f : ClassFault) → HasFault e r → HasFault f r → e ≡ f
  one_fault classes.NotLinear classes.NotLinear a b = refl
  one_fault classes.NotLinear classes.NotNondeleting a b = absurd (a b.0)
  one_fault classes.NotLinear classes.Extended a b = absurd b
  one_fault classes.NotLinear classes.Labelled a b = absurd b
  one_fault classes.NotLinear classes.NotStrict a b = absurd b
  one_fault classes.NotNondeleting classes.NotLinear a b = absurd (b a.0)
  one_fault classes.NotNondeleting classes.NotNondeleting a b = refl
  one_fault classes.NotNondeleting classes.Extended a b = absurd b
  one_fault classes.NotNondeleting classes.Labelled a b = absurd b
  one_fault classes.NotNondeleting classes.NotStrict a b = absurd b
  one_fault classes.Extended f a b = absurd a
  one_fault classes.Labelled f a b = absurd a
  one_fault classes.NotStrict f a b = absurd a

  -- a rule is linear and nondeleting or has a fault: that neither holds cannot be
  met_or_fault : (((IsLinear r × IsNondeleting r) ⊎ ((e : ClassFault) × HasFault e r)) → ⊥) → ⊥
  met_or_fault k =
      either_way (IsLinear r) (λ l. elim l [
        | inl linear ↦ either_way (IsNondeleting r) (λ n. elim n [
          | inl nondeleting ↦ k (inl (linear, nondeleting))
          | inr deletes ↦ k (inr (classes.NotNondeleting, (linear, deletes)))
        ])
        | inr copies ↦ k (inr (classes.NotLinear, copies))
      ])

in_order : (m n : ℕ) → (m < n) ⊎ ((n < m) ⊎ (m ≡ n))
in_order m n = grind arith

module _ (rules : List (StringRule ℕ)) where
  one_first : (m n : ℕ) (e f : ClassFault) → IsFirstFault rules m e → IsFirstFault rules n f → (m ≡ n) × (e ≡ f)
  one_first m n e f h k = elim (in_order (m - 1) (n - 1)) [
    | inl less ↦ absurd (fault_not_met (string_rule rules (m - 1)) e h.has (k.linear (m - 1) less) (k.nondeleting (m - 1) less))
    | inr r ↦ elim r [
      | inl more ↦ absurd (fault_not_met (string_rule rules (n - 1)) f k.has (h.linear (n - 1) more) (h.nondeleting (n - 1) more))
      | inr same ↦ (
        omega (arith, h.from, k.from, same),
        one_fault (string_rule rules (n - 1)) e f (subst (λ (i : ℕ). HasFault e (string_rule rules i)) same h.has) k.has,
      )
    ]
  ]

  first_from :
      (left n : ℕ) → n + left ≡ length rules → ((m : ℕ) → m < n → IsLinear (string_rule rules m)) → ((m : ℕ) → m < n → IsNondeleting (string_rule rules m)) →
      (AreLinear rules × AreNondeleting rules → ⊥) → ((m : ℕ) (e : ClassFault) → IsFirstFault rules m e → ⊥) → ⊥
  first_from zero n all linear nondeleting met broken = met (λ m h. linear m (omega (arith, h, all)), λ m h. nondeleting m (omega (arith, h, all)))
  first_from (suc left) n all linear nondeleting met broken =
      met_or_fault (string_rule rules n) (λ w. elim w [
        | inl here ↦
            first_from left (suc n) (omega (arith, all))
            (λ m h. elim (in_order m n) [
              | inl less ↦ linear m less
              | inr r ↦ elim r [
                | inl more ↦ absurd (omega (arith, h, more))
                | inr same ↦ subst (λ (k : ℕ). IsLinear (string_rule rules k)) (sym same) here.0
              ]
            ])
            (λ m h. elim (in_order m n) [
              | inl less ↦ nondeleting m less
              | inr r ↦ elim r [
                | inl more ↦ absurd (omega (arith, h, more))
                | inr same ↦ subst (λ (k : ℕ). IsNondeleting (string_rule rules k)) (sym same) here.1
              ]
            ])
            met broken
        | inr fault ↦
            let at : suc n - 1 ≡ n = omega arith in
            broken (suc n) fault.0 (record {
              from = omega arith;
              to = omega (arith, all);
              has = subst (λ (k : ℕ). HasFault fault.0 (string_rule rules k)) (sym at) fault.1;
              linear = λ m h. linear m (omega (arith, h, at));
              nondeleting = λ m h. nondeleting m (omega (arith, h, at));
            })
      ])

-- over two tables of labels what is demanded is met where it is, and broken alike
pub parse_demand_once : (labels others : List (List ℕ)) (t u : StringTransducerOf) → AreOneStringTransducer labels others t u → IsOneDemand (parse_demands t) (parse_demands u)
parse_demand_once labels others t u one = record {
  met = λ m. (all_linear labels others t.rules u.rules one.rules m.0, all_nondeleting labels others t.rules u.rules one.rules m.1);
  once = λ file other x y h k.
      let same = one_first u.rules x.0 y.0 x.1 y.1 (first_to labels others t.rules u.rules one.rules x.0 x.1 h.1) k.1 in
      (h.0 ∙ sym k.0, same.0, same.1);
}

-- it is not both met and broken, and that it is neither cannot be
pub parse_demand_decided : (t : StringTransducerOf) → IsDecided (parse_demands t)
parse_demand_decided t = record {
  apart = λ file x m h.
      let low : x.0 - 1 < length t.rules = omega (arith, h.1.from, h.1.to) in
      fault_not_met (string_rule t.rules (x.0 - 1)) x.1 h.1.has (m.0 (x.0 - 1) low) (m.1 (x.0 - 1) low);
  either = λ met broken.
      first_from t.rules (length t.rules) 0 (omega arith) (λ m h. absurd (omega (arith, h))) (λ m h. absurd (omega (arith, h))) met (λ n e h. broken 1 (n, e) (refl, h));
}
