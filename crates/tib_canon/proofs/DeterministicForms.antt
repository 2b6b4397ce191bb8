-- The canonical form of a grammar in deterministic form is in deterministic form, and so is that
-- over keys after a fresh start.
use Rattle.tib_cost.specs.declared.Scale.{Scale}
use Rattle.std.specs.Prelude.{◌≡◌, ℕ, ◌<◌, List, [], ◌∷◌, length, refl}
use Rattle.std.proofs.Common.{zero, suc, arith, ap, sym, ◌∙◌, subst, inl, inr, get_or}
use Rattle.std.proofs.lemmas.List.{get_or-map, length-map}
use Rattle.std.specs.Option.{option_cmp}
use Rattle.std.specs.declared.cmp.Ordering.{Ordering}
use Rattle.std.specs.declared.cmp.Ordering.TheVariants.{Less}
use Rattle.tib_lex.specs.Lists.{Has, Distinct}
use Rattle.tib_grammar.specs.Sides.{holes_of}
use Rattle.tib_grammar.specs.Run.{rule_at, no_rule}
use Rattle.tib_grammar.specs.Forms.{IsNormalSide, StandsInSide, IsShaped, IsDeterministic}
use Rattle.tib_grammar.specs.GrammarOf.{GrammarOf, named_rule}
use Rattle.tib_grammar.specs.declared.Rule.{Rule}
use Rattle.tib_lex.proofs.Members.{has_at, at_has, least_first}
use Rattle.tib_inside.specs.Trimmed.{IsTrimmed}
use Rattle.tib_inside.proofs.Chosen.{distinct_at}
use Rattle.tib_inside.proofs.Keeping.{as_many, named_at}
use Rattle.tib_canon.specs.Canonical.{rule_cmp, IsInOrder, IsCanonical}
use Rattle.tib_canon.specs.Keys.{IsOverKeys, IsCanonicalOverKeys, behind_fresh, started_rules}
use Rattle.tib_canon.specs.declared.begin.Begin.TheVariants.{Fresh}
use Rattle.tib_canon.proofs.DeterministicKept.{AreSomeOf, deterministic_back}
use Rattle.tib_canon.proofs.One.{rules_one_way}
use Rattle.tib_canon.proofs.OverKeysExist.{ascends_once}
use Rattle.tib_canon.proofs.TrimmedOnce.{place_told}

-- trimming

module _ (product : ℕ → ℕ → ℕ) (g h : GrammarOf) (t : IsTrimmed product g h) where
  some_of_trimmed : AreSomeOf (λ i. get_or t.states i 0) (λ j. get_or t.rules j 0) g.rules h.rules
  some_of_trimmed =
      let first = least_first t.states t.states_ascend ((t.are_states 0).1 (inl refl)) in
      record {
        below = λ j b. ((t.are_rules (get_or t.rules j 0)).0 (has_at t.rules j 0 (omega (arith, as_many product g h t)))).0.below;
        named = λ j b. named_at product g h t j b;
        once = λ i j a b e. place_told t.rules i j t.rules_ascend (omega (arith, as_many product g h t)) (omega (arith, as_many product g h t)) e;
        start = first.1;
        lefts = λ j b e. place_told t.states (rule_at h.rules j).left 0 t.states_ascend (t.in_range j b).0 first.0 (e ∙ sym first.1);
      }

  pub trimmed_form : IsDeterministic g.rules → IsDeterministic h.rules
  trimmed_form form = deterministic_back (λ i. get_or t.states i 0) (λ j. get_or t.rules j 0) g.rules h.rules some_of_trimmed form

-- canonical order

-- rules that all are in a grammar in deterministic form, each once, are in deterministic form
module _ (old new : List (Rule ℕ)) (kept : (r : Rule ℕ) → Has new r → Has old r) (once : Distinct new) (form : IsDeterministic old) where
  record IsPlace (j n : ℕ) : Type 0 where
    below : n < length old
    is : rule_at old n ≡ rule_at new j

  place_of : (j : ℕ) → j < length new → (n : ℕ) × IsPlace j n
  place_of j h = let a = at_has old (rule_at new j) no_rule (kept (rule_at new j) (has_at new j no_rule h)) in (a.0, record { below = a.1; is = a.2 })

  stands_in_old : StandsInSide new 0 → StandsInSide old 0
  stands_in_old s =
      let n = place_of s.rule s.below in
      record { rule = n.0; below = n.1.below; stands = subst (λ (r : Rule ℕ). Has {A = ℕ} (holes_of r.right) 0) (sym n.1.is) s.stands }

  shaped_still : (j : ℕ) → j < length new → IsShaped new (rule_at new j)
  shaped_still j h =
      let n = place_of j h in
      elim (form.shaped n.0 n.1.below) [
        | inl normal ↦ inl (subst (λ (r : Rule ℕ). IsNormalSide r.right) n.1.is normal)
        | inr chain ↦ inr (record {
          left = sym (ap (λ (r : Rule ℕ). r.left) n.1.is) ∙ chain.left;
          lone = record { state = chain.lone.state; is = sym (ap (λ (r : Rule ℕ). r.right) n.1.is) ∙ chain.lone.is };
          apart = λ s. chain.apart (stands_in_old s);
        })
      ]

  apart_still : (i j : ℕ) → i < length new → j < length new → (rule_at new i).right ≡ (rule_at new j).right → i ≡ j
  apart_still i j h k e =
      let m = place_of i h in
      let n = place_of j k in
      let places : m.0 ≡ n.0 = form.apart m.0 n.0 m.1.below n.1.below (ap (λ (r : Rule ℕ). r.right) m.1.is ∙ e ∙ sym (ap (λ (r : Rule ℕ). r.right) n.1.is)) in
      let rules : rule_at new i ≡ rule_at new j = sym m.1.is ∙ ap (rule_at old) places ∙ n.1.is in
      distinct_at new i j no_rule once h k rules

  kept_form : IsDeterministic new
  kept_form = record { shaped = shaped_still; apart = apart_still }

pub order_form : (scale : Scale) (labels : List (List ℕ)) (g h : GrammarOf) → IsInOrder scale labels g h → IsDeterministic g.rules → IsDeterministic h.rules
order_form scale labels g h o form = kept_form g.rules h.rules o.kept (ascends_once (λ r s. rule_cmp scale h.names labels r s ≡ Less) (λ r e. rules_one_way scale h.names labels r r e e) h.rules o.ascends) form

pub canonical_form : (product : ℕ → ℕ → ℕ) (scale : Scale) (labels : List (List ℕ)) (g h : GrammarOf) → IsCanonical product scale labels g h → IsDeterministic g.rules → IsDeterministic h.rules
canonical_form product scale labels g h c form = order_form scale labels c.trimmed h c.in_order (trimmed_form product g c.trimmed c.is_trimmed form)

-- keys

module _ {K : Type 0} (cmp : K → K → Ordering) (order : List K) (rules : List (Rule ℕ)) (g : GrammarOf) (o : IsOverKeys cmp order rules 0 g) where
  abbrev number : ℕ → ℕ
  number i = get_or o.states i 0

  as_many_rules : length g.rules ≡ length rules
  as_many_rules = sym (length-map g.rules (named_rule number)) ∙ ap length o.named

  named_here : (j : ℕ) → j < length g.rules → named_rule number (rule_at g.rules j) ≡ rule_at rules j
  named_here j h =
      let spare : Rule ℕ = named_rule number no_rule in
      sym (get_or-map (named_rule number) g.rules j no_rule spare h) ∙ ap (λ (rs : List (Rule ℕ)). get_or rs j spare) o.named ∙ far rules j spare no_rule (omega (arith, as_many_rules))
    where
      far : {A : Type 0} (xs : List A) (n : ℕ) (d e : A) → n < length xs → get_or xs n d ≡ get_or xs n e
      far [] n d e h = absurd (omega arith)
      far (x ∷ xs) zero d e h = refl
      far (x ∷ xs) (suc n) d e h = far xs n d e (omega arith)

  some_of_keys : AreSomeOf number (λ j. j) rules g.rules
  some_of_keys =
      let first : number 0 ≡ 0 = ap (λ (l : List ℕ). get_or l 0 0) o.by_keys.first in
      let long : length o.states ≡ suc (length o.by_keys.others) = ap length o.by_keys.first in
      record {
        below = λ j b. omega (arith, as_many_rules);
        named = named_here;
        once = λ i j a b e. e;
        start = first;
        lefts = λ j b e.
            let low = (o.in_range j b).0 in
            distinct_at o.states (rule_at g.rules j).left 0 0 o.by_keys.once (omega (arith, low, o.by_keys.many)) (omega (arith, long)) (e ∙ sym first);
      }

  pub over_form : IsDeterministic rules → IsDeterministic g.rules
  over_form form = deterministic_back number (λ j. j) rules g.rules some_of_keys form

-- after a fresh start
pub fresh_form :
    {K : Type 0} (cmp : K → K → Ordering) (product : ℕ → ℕ → ℕ) (scale : Scale) (labels : List (List ℕ)) (order : List K) (rules : List (Rule ℕ)) (finals : List (ℕ × ℕ)) (h : GrammarOf) →
    IsCanonicalOverKeys product scale labels cmp order rules (Fresh finals) h → IsDeterministic (started_rules finals rules) → IsDeterministic h.rules
fresh_form cmp product scale labels order rules finals h c form =
    canonical_form product scale labels c.over h c.canonical (over_form (option_cmp cmp) (behind_fresh order) (started_rules finals rules) c.over c.begun form)
