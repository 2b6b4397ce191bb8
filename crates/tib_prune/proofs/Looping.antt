-- Lemmas of the loop.
use Rattle.std.specs.Prelude.{◌≡◌, ℕ, ◌<◌, ◌≤◌, List, [], ◌∷◌, length, Bool, Option, None, Some, replicate, slice_set, refl}
use Rattle.std.proofs.Common.{zero, suc, arith, ap, sym, ◌∙◌, subst, inl, inr, get_or}
use Rattle.std.proofs.lemmas.List.{get_or-set_same, get_or-set_other}
use Rattle.tib_grammar.specs.Sides.{holes_of}
use Rattle.tib_grammar.specs.Range.{AreInRange, AllBelow}
use Rattle.tib_grammar.specs.Run.{rule_at}
use Rattle.tib_grammar.specs.declared.Rule.{Rule}
use Rattle.tib_cost.specs.Semiring.{ProductLaws, most}
use Rattle.tib_normal.specs.Entries.{AddsEntry}
use Rattle.tib_inside.specs.Settling.{costs_in}
use Rattle.tib_inside.specs.Inside.{total}
use Rattle.tib_cost.specs.Least.{times}
use Rattle.tib_inside.proofs.Totals.{both_some}
use Rattle.tib_prune.specs.Contexts.{Context, gap, below, later, AreRunsAround}
use Rattle.tib_prune.specs.Outside.{IsContextCost}
use Rattle.tib_prune.specs.Settling.{without, told, AreSettling, Tells}
use Rattle.tib_prune.proofs.Steps.{begins, dropped, goes_on}
use Rattle.tib_prune.proofs.Crossing.{ended}
use Rattle.tib_prune.specs.Loop.{AreInsidesOfAll, IsTaken, AreOutsides}

abbrev no_cost_at : Option ℕ
no_cost_at = None

none_of : (n : ℕ) (q : ℕ) → get_or (replicate n no_cost_at) q no_cost_at ≡ no_cost_at
none_of zero q = refl
none_of (suc n) zero = refl
none_of (suc n) (suc q) = none_of n q

length_none : (n : ℕ) → length (replicate n no_cost_at) ≡ n
length_none zero = refl
length_none (suc n) = omega (arith, length_none n)

-- a list without costs is as long as was asked for
pub as_long : (count : ℕ) (xs : List (Option ℕ)) → xs ≡ replicate count None → length xs ≡ count
as_long count xs e = ap length e ∙ length_none count

module _ {levelled weighted : Bool} {product : ℕ → ℕ → ℕ} (laws : ProductLaws levelled weighted product) (rules : List (Rule ℕ)) where
  -- a state gets its cost, and its rules tell theirs
  pub goes :
      (insides outsides : List (Option ℕ)) (e : ℕ × ℕ) (rest after : List (ℕ × ℕ)) → AreInsidesOfAll product rules insides → e.1 < length outsides → IsTaken product rules insides outsides e rest →
      get_or outsides e.1 None ≡ None → Tells product rules (costs_in insides) (costs_in (slice_set outsides e.1 (Some e.0))) e.1 rest after →
      AreSettling product rules (costs_in insides) (costs_in (slice_set outsides e.1 (Some e.0))) after
  goes insides outsides e rest after are inside t unknown tells =
      goes_on laws rules (costs_in insides) are (costs_in outsides) (costs_in (slice_set outsides e.1 (Some e.0))) t.entries rest after e t.settling t.takes unknown
      (record { here = get_or-set_same outsides e.1 (Some e.0) None inside; others = λ p k. get_or-set_other outsides e.1 p (Some e.0) None k })
      tells

  -- an entry of a state that has its cost is dropped
  pub drops :
      (insides outsides : List (Option ℕ)) (e : ℕ × ℕ) (rest : List (ℕ × ℕ)) (d : ℕ) → IsTaken product rules insides outsides e rest → get_or outsides e.1 None ≡ Some d →
      AreSettling product rules (costs_in insides) (costs_in outsides) rest
  drops insides outsides e rest d t known = dropped product rules (costs_in insides) (costs_in outsides) t.entries rest e d t.settling t.takes known

  -- where no entry is left, these are the outside costs
  pub finishes : (insides outsides : List (Option ℕ)) (entries : List (ℕ × ℕ)) → entries ≡ [] → AreInsidesOfAll product rules insides → AreSettling product rules (costs_in insides) (costs_in outsides) entries → AreOutsides product rules outsides
  finishes insides outsides entries empty are s = ended laws rules (costs_in insides) are (costs_in outsides) entries s empty

  -- a context run leads to a state in range
  within : (count : ℕ) → AreInRange count rules → (c : Context ℕ) (q : ℕ) (qs : List ℕ) → AllBelow count qs → AreRunsAround rules q qs c → q < count
  within count range c q [] b a = absurd a
  within count range (gap rest) q (p ∷ qs) b a = subst (λ o. o < count) a.0 b.0
  within count range (below n c rest) q (p ∷ qs) b a = within count range c q (holes_of (rule_at rules n).right) ((range n a.0).1) a.2
  within count range (later n runs c) q (p ∷ qs) b a = within count range c q qs b.1 a.3

  -- a state with a context run around it is in range
  pub context_below : (count q c : ℕ) → 0 < count → AreInRange count rules → IsContextCost product rules q c → q < count
  context_below count q c some range h = within count range h.context q (0 ∷ []) (some, tt) h.are_runs

told_left : (product : ℕ → ℕ → ℕ) (insides outsides : ℕ → Option ℕ) (r : Rule ℕ) (i c : ℕ) → told product insides outsides r i ≡ Some c → (d : ℕ) × (outsides r.left ≡ Some d)
told_left product insides outsides r i c e = (both_some product (outsides r.left) (times product (Some r.cost) (total product insides (without i (holes_of r.right)))) c e).0

-- at first 0 waits for the start
pub starts :
    (product : ℕ → ℕ → ℕ) (rules : List (Rule ℕ)) (insides : ℕ → Option ℕ) (count : ℕ) (outsides : List (Option ℕ)) (entries : List (ℕ × ℕ)) → outsides ≡ replicate count None →
    AddsEntry [] (0, 0) entries → AreSettling product rules insides (costs_in outsides) entries
starts product rules insides count outsides entries e adds =
    let s = begins product rules insides in
    let no_cost : (q : ℕ) → costs_in outsides q ≡ None = λ q. ap (λ xs. get_or xs q None) e ∙ none_of count q in
    record {
      exact = λ q d k. let bad : None ≡ Some d = sym (no_cost q) ∙ k in absurd (cc bad);
      contexts = λ x h. elim (adds.only x h) [ inl k ↦ subst (λ (y : ℕ × ℕ). IsContextCost product rules y.1 y.0) (sym k) (s.contexts (0, 0) (0, omega arith, refl)) | inr k ↦ absurd (omega (arith, k.1)) ];
      within = λ x h. elim (adds.only x h) [ inl k ↦ subst (λ (y : ℕ × ℕ). y.0 ≤ most) (sym k) (s.within (0, 0) (0, omega arith, refl)) | inr k ↦ absurd (omega (arith, k.1)) ];
      start = inr (record { cost = 0; held = adds.new_one; small = omega arith });
      told_all = λ n i c h k l. let p = told_left product insides (costs_in outsides) (rule_at rules n) i c l in let bad : None ≡ Some p.0 = sym (no_cost (rule_at rules n).left) ∙ p.1 in absurd (cc bad);
    }
