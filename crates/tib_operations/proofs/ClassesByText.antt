-- The class that an operation demands: what is demanded is one over all tables of labels, and it is
-- met or broken, not both.
use Rattle.std.proofs.Common.{◌≡◌, ℕ, ◌+◌, ◌<◌, ◌⊎◌, Bool, true, false, List, length, refl, ap, sym, ◌∙◌, subst, arith, zero, suc, inl, inr}
use Rattle.std.specs.Prelude.{IsTrue}
use Rattle.tib_lex.specs.Lists.{Along}
use Rattle.tib_lex.proofs.Booleans.{either_way}
use Rattle.tib_transducer.specs.Rules.{transducer_rule}
use Rattle.tib_transducer.specs.Classes.{IsLinear, IsNondeleting, IsExtended, IsLabelled, IsStrict}
use Rattle.tib_transducer.specs.declared.TransducerRule.{TransducerRule}
use Rattle.tib_transducer_file.specs.ByText.{AreOneTransducerRule}
use Rattle.tib_transducer.specs.Outside.{Demands, Meets, AllMeet, IsFaultOf, IsFirstOutside}
use Rattle.tib_transducer.specs.declared.error.ClassFault.{ClassFault}
use Rattle.tib_transducer.specs.declared.error.ClassFault.TheVariants as classes
use Rattle.tib_operations.specs.Classes.{Demanded, nothing_demanded, demanded_of}
use Rattle.tib_operations.proofs.OfCheck.{linear_to, linear_from, nondeleting_to, nondeleting_from, extended_to, extended_from, labelled_to, labelled_from, strict_to, strict_from, rules_long, rule_at}

-- one rule

module _ (labels others : List (List ℕ)) (d : Demands) (r s : TransducerRule ℕ) (one : AreOneTransducerRule labels others r s) where
  meets_to : Meets d r → Meets d s
  meets_to m = record {
    linear = λ h. linear_to labels others r s one (m.linear h);
    nondeleting = λ h. nondeleting_to labels others r s one (m.nondeleting h);
    one_label = λ h e. m.one_label h (extended_from labels others r s one e);
    unlabelled = λ h e. m.unlabelled h (labelled_from labels others r s one e);
    strict = λ h. strict_to labels others r s one (m.strict h);
  }

  fault_to : (e : ClassFault) → IsFaultOf d r e → IsFaultOf d s e
  fault_to classes.NotLinear h = (h.0, λ k. h.1 (linear_from labels others r s one k))
  fault_to classes.NotNondeleting h = (λ t. linear_to labels others r s one (h.0 t), h.1, λ k. h.2 (nondeleting_from labels others r s one k))
  fault_to classes.Extended h = (λ t. linear_to labels others r s one (h.0 t), λ t. nondeleting_to labels others r s one (h.1 t), h.2, extended_to labels others r s one h.3)
  fault_to classes.Labelled h = (
    λ t. linear_to labels others r s one (h.0 t),
    λ t. nondeleting_to labels others r s one (h.1 t),
    λ t k. h.2 t (extended_from labels others r s one k),
    h.3,
    labelled_to labels others r s one h.4,
  )
  fault_to classes.NotStrict h = (
    λ t. linear_to labels others r s one (h.0 t),
    λ t. nondeleting_to labels others r s one (h.1 t),
    λ t k. h.2 t (extended_from labels others r s one k),
    λ t k. h.3 t (labelled_from labels others r s one k),
    h.4,
    λ k. h.5 (strict_from labels others r s one k),
  )

module _ (d : Demands) (r : TransducerRule ℕ) where
  fault_not_met : (e : ClassFault) → IsFaultOf d r e → Meets d r → ⊥
  fault_not_met classes.NotLinear h m = h.1 (m.linear h.0)
  fault_not_met classes.NotNondeleting h m = h.2 (m.nondeleting h.1)
  fault_not_met classes.Extended h m = m.one_label h.2 h.3
  fault_not_met classes.Labelled h m = m.unlabelled h.3 h.4
  fault_not_met classes.NotStrict h m = h.5 (m.strict h.4)

  one_fault : (e f : ClassFault) → IsFaultOf d r e → IsFaultOf d r f → e ≡ f
  one_fault classes.NotLinear classes.NotLinear a b = refl
  one_fault classes.NotLinear classes.NotNondeleting a b = absurd (a.1 (b.0 a.0))
  one_fault classes.NotLinear classes.Extended a b = absurd (a.1 (b.0 a.0))
  one_fault classes.NotLinear classes.Labelled a b = absurd (a.1 (b.0 a.0))
  one_fault classes.NotLinear classes.NotStrict a b = absurd (a.1 (b.0 a.0))
  one_fault classes.NotNondeleting classes.NotLinear a b = absurd (b.1 (a.0 b.0))
  one_fault classes.NotNondeleting classes.NotNondeleting a b = refl
  one_fault classes.NotNondeleting classes.Extended a b = absurd (a.2 (b.1 a.1))
  one_fault classes.NotNondeleting classes.Labelled a b = absurd (a.2 (b.1 a.1))
  one_fault classes.NotNondeleting classes.NotStrict a b = absurd (a.2 (b.1 a.1))
  one_fault classes.Extended classes.NotLinear a b = absurd (b.1 (a.0 b.0))
  one_fault classes.Extended classes.NotNondeleting a b = absurd (b.2 (a.1 b.1))
  one_fault classes.Extended classes.Extended a b = refl
  one_fault classes.Extended classes.Labelled a b = absurd (b.2 a.2 a.3)
  one_fault classes.Extended classes.NotStrict a b = absurd (b.2 a.2 a.3)
  one_fault classes.Labelled classes.NotLinear a b = absurd (b.1 (a.0 b.0))
  one_fault classes.Labelled classes.NotNondeleting a b = absurd (b.2 (a.1 b.1))
  one_fault classes.Labelled classes.Extended a b = absurd (a.2 b.2 b.3)
  one_fault classes.Labelled classes.Labelled a b = refl
  one_fault classes.Labelled classes.NotStrict a b = absurd (b.3 a.3 a.4)
  one_fault classes.NotStrict classes.NotLinear a b = absurd (b.1 (a.0 b.0))
  one_fault classes.NotStrict classes.NotNondeleting a b = absurd (b.2 (a.1 b.1))
  one_fault classes.NotStrict classes.Extended a b = absurd (a.2 b.2 b.3)
  one_fault classes.NotStrict classes.Labelled a b = absurd (a.3 b.3 b.4)
  one_fault classes.NotStrict classes.NotStrict a b = refl

  holds : (X : Type 0) (b : Bool) → X ⊎ (X → ⊥) → (IsTrue b → X) ⊎ (IsTrue b × (X → ⊥))
  holds X true (inl x) = inl (λ e. x)
  holds X true (inr n) = inr (refl, n)
  holds X false w = inl (λ e. absurd (cc e))

  fails : (X : Type 0) (b : Bool) → X ⊎ (X → ⊥) → (IsTrue b → X → ⊥) ⊎ (IsTrue b × X)
  fails X true (inl x) = inr (refl, x)
  fails X true (inr n) = inl (λ e. n)
  fails X false w = inl (λ e. absurd (cc e))

  by_classes :
      (IsTrue d.linear → IsLinear r) ⊎ (IsTrue d.linear × (IsLinear r → ⊥)) → (IsTrue d.nondeleting → IsNondeleting r) ⊎ (IsTrue d.nondeleting × (IsNondeleting r → ⊥)) →
      (IsTrue d.one_label → IsExtended r → ⊥) ⊎ (IsTrue d.one_label × IsExtended r) → (IsTrue d.unlabelled → IsLabelled r → ⊥) ⊎ (IsTrue d.unlabelled × IsLabelled r) →
      (IsTrue d.strict → IsStrict r) ⊎ (IsTrue d.strict × (IsStrict r → ⊥)) →
      Meets d r ⊎ ((e : ClassFault) × IsFaultOf d r e)
  by_classes (inl l) (inl n) (inl x) (inl b) (inl s) = inl (record { linear = l; nondeleting = n; one_label = x; unlabelled = b; strict = s })
  by_classes (inr l) n x b s = inr (classes.NotLinear, l)
  by_classes (inl l) (inr n) x b s = inr (classes.NotNondeleting, (l, n.0, n.1))
  by_classes (inl l) (inl n) (inr x) b s = inr (classes.Extended, (l, n, x.0, x.1))
  by_classes (inl l) (inl n) (inl x) (inr b) s = inr (classes.Labelled, (l, n, x, b.0, b.1))
  by_classes (inl l) (inl n) (inl x) (inl b) (inr s) = inr (classes.NotStrict, (l, n, x, b, s.0, s.1))

  -- a rule is of each class that is demanded or has a fault: that neither holds cannot be
  met_or_fault : (Meets d r ⊎ ((e : ClassFault) × IsFaultOf d r e) → ⊥) → ⊥
  met_or_fault k =
      either_way (IsLinear r) (λ l.
      either_way (IsNondeleting r) (λ n.
      either_way (IsExtended r) (λ x.
      either_way (IsLabelled r) (λ b.
      either_way (IsStrict r) (λ s.
      k (by_classes (holds (IsLinear r) d.linear l) (holds (IsNondeleting r) d.nondeleting n) (fails (IsExtended r) d.one_label x) (fails (IsLabelled r) d.unlabelled b) (holds (IsStrict r) d.strict s)))))))

-- the first rule that is not

in_order : (m n : ℕ) → (m < n) ⊎ ((n < m) ⊎ (m ≡ n))
in_order m n = grind arith

module _ (d : Demands) (rules : List (TransducerRule ℕ)) where
  same_place : (x y : ℕ × ClassFault) → IsFirstOutside d rules x → IsFirstOutside d rules y → (x.0 ≡ y.0) × (x.1 ≡ y.1)
  same_place x y h k = elim (in_order h.position k.position) [
    | inl less ↦ absurd (fault_not_met d (transducer_rule rules h.position) x.1 h.outside (k.before h.position less))
    | inr r ↦ elim r [
      | inl more ↦ absurd (fault_not_met d (transducer_rule rules k.position) y.1 k.outside (h.before k.position more))
      | inr same ↦ (
        h.numbered ∙ ap suc same ∙ sym k.numbered,
        one_fault d (transducer_rule rules k.position) x.1 y.1 (subst (λ (n : ℕ). IsFaultOf d (transducer_rule rules n) x.1) same h.outside) k.outside,
      )
    ]
  ]

  first_from :
      (left n : ℕ) → n + left ≡ length rules → ((m : ℕ) → m < n → Meets d (transducer_rule rules m)) → (AllMeet d rules → ⊥) → ((x : ℕ × ClassFault) → IsFirstOutside d rules x → ⊥) → ⊥
  first_from zero n all before met broken = met (λ m h. before m (omega (arith, h, all)))
  first_from (suc left) n all before met broken =
      met_or_fault d (transducer_rule rules n) (λ w. elim w [
        | inl here ↦
            first_from left (suc n) (omega (arith, all)) (λ m h. elim (in_order m n) [
              | inl less ↦ before m less
              | inr r ↦ elim r [
                | inl more ↦ absurd (omega (arith, h, more))
                | inr same ↦ subst (λ (k : ℕ). Meets d (transducer_rule rules k)) (sym same) here
              ]
            ]) met broken
        | inr fault ↦ broken (suc n, fault.0) (record { position = n; numbered = refl; below = omega (arith, all); outside = fault.1; before = before })
      ])

broken_to :
    (labels others : List (List ℕ)) (d : Demands) (rs ss : List (TransducerRule ℕ)) → Along (AreOneTransducerRule labels others) rs ss → (x : ℕ × ClassFault) → IsFirstOutside d rs x →
    IsFirstOutside d ss x
broken_to labels others d rs ss one x h = record {
  position = h.position;
  numbered = h.numbered;
  below = omega (arith, h.below, rules_long labels others rs ss one);
  outside = fault_to labels others d (transducer_rule rs h.position) (transducer_rule ss h.position) (rule_at labels others rs ss one h.position h.below) x.1 h.outside;
  before = λ m l.
      meets_to labels others d (transducer_rule rs m) (transducer_rule ss m) (rule_at labels others rs ss one m (omega (arith, l, h.below))) (h.before m l);
}

-- what is demanded over two tables of labels: the one is met where the other is, and they are
-- broken alike
pub record IsOneDemand (a b : Demanded) : Type 0 where
  pub met : a.met → b.met
  pub once : (file other : ℕ) (x y : ℕ × ClassFault) → a.broken file x → b.broken other y → (file ≡ other) × (x.0 ≡ y.0) × (x.1 ≡ y.1)

pub nothing_once : IsOneDemand nothing_demanded nothing_demanded
nothing_once = record { met = λ m. m; once = λ file other x y h k. absurd h }

-- classes are demanded of transducers that agree by text
pub one_class :
    (labels others : List (List ℕ)) (file : ℕ) (d : Demands) (rs ss : List (TransducerRule ℕ)) → Along (AreOneTransducerRule labels others) rs ss →
    IsOneDemand (demanded_of file d rs) (demanded_of file d ss)
one_class labels others file d rs ss one = record {
  met = λ m n low.
      let below : n < length rs = omega (arith, low, rules_long labels others rs ss one) in
      meets_to labels others d (transducer_rule rs n) (transducer_rule ss n) (rule_at labels others rs ss one n below) (m n below);
  once = λ f g x y h k.
      let same = same_place d ss x y (broken_to labels others d rs ss one x h.1) k.1 in
      (sym h.0 ∙ k.0, same.0, same.1);
}

-- what is demanded is not both met and broken, and that it is neither cannot be
pub record IsDecided (d : Demanded) : Type 0 where
  pub apart : (file : ℕ) (x : ℕ × ClassFault) → d.met → d.broken file x → ⊥
  pub either : (d.met → ⊥) → ((file : ℕ) (x : ℕ × ClassFault) → d.broken file x → ⊥) → ⊥

pub nothing_decided : IsDecided nothing_demanded
nothing_decided = record { apart = λ file x m h. h; either = λ met broken. met tt }

pub class_decided : (file : ℕ) (d : Demands) (rules : List (TransducerRule ℕ)) → IsDecided (demanded_of file d rules)
class_decided file d rules = record {
  apart = λ n x m h. fault_not_met d (transducer_rule rules h.1.position) x.1 h.1.outside (m h.1.position h.1.below);
  either = λ met broken.
      first_from d rules (length rules) 0 (omega arith) (λ m h. absurd (omega (arith, h))) met (λ x h. broken file x (refl, h));
}
