-- The cheapest of the rules that agree, as rules.
use Rattle.std.proofs.Common.{◌≡◌, ℕ, ◌<◌, ◌≤◌, List, [], ◌∷◌, length, map, get_or, refl, ap, sym, ◌∙◌, subst, arith, inl, inr}
use Rattle.std.proofs.lemmas.List.{length-map}
use Rattle.tib_lex.specs.Lists.{Has, Distinct, Ascends}
use Rattle.tib_lex.proofs.Lists.{has_mapped, mapped_has}
use Rattle.tib_lex.proofs.Members.{has_at, at_has, each_of}
use Rattle.tib_transducer.specs.Range.{IsWithin, AreWithin, IsShaped, AreShaped, EndsInHoles, EndInHoles}
use Rattle.tib_transducer.specs.Rules.{transducer_rule, no_rule}
use Rattle.tib_transducer.specs.declared.TransducerRule.{TransducerRule}
use Rattle.tib_canon.specs.Ordered.{AgreeInSides, HasSides, Differ, AreMerged}
use Rattle.tib_canon.specs.TransducerMerging.{AreCheapest}

pub agree_back : (r s : TransducerRule ℕ) → AgreeInSides r s → AgreeInSides s r
agree_back r s a = record { state = sym a.state; left = sym a.left; right = sym a.right }

pub agree_on : (r s t : TransducerRule ℕ) → AgreeInSides r s → AgreeInSides s t → AgreeInSides r t
agree_on r s t a b = record { state = a.state ∙ b.state; left = a.left ∙ b.left; right = a.right ∙ b.right }

pub same_sides : (r s : TransducerRule ℕ) → r ≡ s → AgreeInSides r s
same_sides r s e = record { state = ap (λ (x : TransducerRule ℕ). x.state) e; left = ap (λ (x : TransducerRule ℕ). x.left) e; right = ap (λ (x : TransducerRule ℕ). x.right) e }

module _ (rules : List (TransducerRule ℕ)) (positions : List ℕ) (c : AreCheapest rules positions) where
  abbrev rule_of : ℕ → TransducerRule ℕ
  rule_of p = transducer_rule rules p

  kept : (r : TransducerRule ℕ) → Has (map rule_of positions) r → Has rules r
  kept r h =
      let p = has_mapped rule_of positions r h in
      subst (Has rules) p.2 (has_at rules p.0 no_rule (c.below p.0 p.1))

  least : (r t : TransducerRule ℕ) → Has (map rule_of positions) r → Has rules t → AgreeInSides r t → r.cost ≤ t.cost
  least r t h k a =
      let p = has_mapped rule_of positions r h in
      let m = at_has rules t no_rule k in
      let w = c.whole m.0 m.1 in
      let mine : AgreeInSides (rule_of p.0) t = subst (λ x. AgreeInSides x t) (sym p.2) a in
      let theirs : AgreeInSides t (rule_of w.position) = subst (λ x. AgreeInSides x (rule_of w.position)) m.2 (agree_back (rule_of w.position) (rule_of m.0) w.agrees) in
      let same : p.0 ≡ w.position = c.apart p.0 w.position p.1 w.stands (agree_on (rule_of p.0) t (rule_of w.position) mine theirs) in
      let costs : (rule_of w.position).cost ≤ t.cost = subst (λ x. (rule_of w.position).cost ≤ x.cost) m.2 w.costs in
      let own : (rule_of p.0).cost ≤ t.cost = subst (λ q. (rule_of q).cost ≤ t.cost) (sym same) costs in
      subst (λ x. x.cost ≤ t.cost) p.2 own

  whole : (r : TransducerRule ℕ) → Has rules r → HasSides (map rule_of positions) r
  whole r h =
      let m = at_has rules r no_rule h in
      let w = c.whole m.0 m.1 in
      record {
        rule = rule_of w.position;
        stands = mapped_has rule_of positions w.position w.stands;
        agrees = subst (λ x. AgreeInSides (rule_of w.position) x) m.2 w.agrees;
      }

  differ_all : (ps : List ℕ) → ((p : ℕ) → Has ps p → Has positions p) → Distinct ps → Ascends Differ (map rule_of ps)
  differ_all [] stand once = tt
  differ_all (p ∷ ps) stand once = (
    each_of (Differ (rule_of p)) (map rule_of ps) (λ r h a.
        let q = has_mapped rule_of ps r h in
        let same : p ≡ q.0 = c.apart p q.0 (stand p (inl refl)) (stand q.0 (inr q.1)) (subst (AgreeInSides (rule_of p)) (sym q.2) a) in
        once.0 (subst (Has ps) (sym same) q.1)),
    differ_all ps (λ q h. stand q (inr h)) once.1,
  )

  pub merged_from : (merged : List (TransducerRule ℕ)) → merged ≡ map rule_of positions → AreMerged rules merged
  merged_from merged e =
      subst (AreMerged rules) (sym e) (record { kept = kept; least = least; whole = whole; apart = differ_all positions (λ p h. h) c.distinct })

  pub few_merged : (merged : List (TransducerRule ℕ)) → merged ≡ map rule_of positions → length merged ≤ length rules
  few_merged merged e = omega (arith, ap length e, length-map positions rule_of, c.few)

-- what holds for the rules of one list holds for those of another whose rules all are in it
pub of_members : (P : TransducerRule ℕ → Type 0) (rules others : List (TransducerRule ℕ)) → ((r : TransducerRule ℕ) → Has others r → Has rules r) → ((m : ℕ) → m < length rules → P (transducer_rule rules m)) → (m : ℕ) → m < length others → P (transducer_rule others m)
of_members P rules others kept f m h =
    let at = at_has rules (transducer_rule others m) no_rule (kept (transducer_rule others m) (has_at others m no_rule h)) in
    subst P at.2 (f at.0 at.1)

pub kept_within : (n : ℕ) (rules others : List (TransducerRule ℕ)) → ((r : TransducerRule ℕ) → Has others r → Has rules r) → AreWithin n rules → AreWithin n others
kept_within n rules others kept w = of_members (IsWithin n) rules others kept w

pub kept_shaped : (rules others : List (TransducerRule ℕ)) → ((r : TransducerRule ℕ) → Has others r → Has rules r) → AreShaped rules → AreShaped others
kept_shaped rules others kept w = of_members IsShaped rules others kept w

pub kept_leaves : (rules others : List (TransducerRule ℕ)) → ((r : TransducerRule ℕ) → Has others r → Has rules r) → EndInHoles rules → EndInHoles others
kept_leaves rules others kept w = of_members EndsInHoles rules others kept w

pub positions_below :
    (rules first part : List (TransducerRule ℕ)) (positions others : List ℕ) → first ≡ rules → part ≡ rules → AreCheapest first positions → others ≡ positions → (i : ℕ) → i < length others → get_or others i 0 < length part
positions_below rules first part positions others a b c e i h =
    let low : get_or others i 0 < length first = c.below (get_or others i 0) (subst (λ (xs : List ℕ). Has xs (get_or others i 0)) e (has_at others i 0 h)) in
    omega (arith, low, ap length a, ap length b)

-- what the calls of merging say
pub merged_of :
    (rules first part : List (TransducerRule ℕ)) (positions others : List ℕ) (merged : List (TransducerRule ℕ)) → first ≡ rules → AreCheapest first positions → others ≡ positions → merged ≡ map (transducer_rule rules) others → AreMerged rules merged
merged_of rules first part positions others merged a c b e =
    merged_from rules positions (subst (λ (rs : List (TransducerRule ℕ)). AreCheapest rs positions) a c) merged (e ∙ ap (map (transducer_rule rules)) b)
