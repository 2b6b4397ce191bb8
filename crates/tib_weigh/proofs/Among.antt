-- Runs that begin with one of some rules.
use Rattle.std.specs.Prelude.{◌≡◌, ℕ, ◌<◌, ◌≤◌, Bool, nat_eq, List, [], ◌∷◌, ◌++◌, length, ◌⊎◌, Option, None, Some, refl, if◌then◌else◌}
use Rattle.std.proofs.Common.{zero, suc, ap, sym, ◌∙◌, arith, inl, inr, subst, get_or}
use Rattle.tib_lex.specs.Lists.{Has}
use Rattle.tib_tree.specs.Trees.{Trees, none, tree, count, first_trees}
use Rattle.tib_cost.specs.Semiring.{ProductLaws}
use Rattle.tib_cost.specs.Least.{IsLeast, times, lesser}
use Rattle.tib_cost.proofs.Least.{IsLeast-same, IsLeast-none, IsLeast-either, IsLeast-either_none, IsLeast-scaled}
use Rattle.tib_grammar.specs.Sides.{label, holes}
use Rattle.tib_grammar.specs.Forms.{AreNormal}
use Rattle.tib_grammar.specs.Run.{IsCost, rule_at, yields}
use Rattle.tib_grammar.specs.declared.Rule.{Rule}
use Rattle.tib_grammar.proofs.NormalRuns.{Begins, count-yields, IsLeast-no_states, IsLeast-one_more, IsLeast-all_rules}
use Rattle.tib_normal.specs.Rules.{positions_with}
use Rattle.tib_weigh.specs.declared.vector.Entry.{Entry}
use Rattle.tib_weigh.specs.Entries.{cost_in}
use Rattle.tib_weigh.specs.Vectors.{times_all, Weighed}
use Rattle.tib_weigh.proofs.Stacks.{times-none}
use Rattle.tib_weigh.proofs.Members.{has_first, has_last, has_or_last}
use Rattle.tib_lex.proofs.Numbers.{nat_eq_cases}
use Rattle.tib_grammar.proofs.Sides.{length-holes}
use Rattle.tib_normal.specs.RulePlaces.{IsRulePlace}
use Rattle.tib_normal.proofs.RulePlaces.{places_below, place_has}

-- c is the cost of a run from q that begins with one of the rules at these positions and yields f
-- over kids
abbrev pub BeginsAmong : (ℕ → ℕ → ℕ) → List (Rule ℕ) → ℕ → ℕ → Trees ℕ → List ℕ → ℕ → Type 0
BeginsAmong product rules q f kids ps c = (n : ℕ) × Has ps n × Begins product rules q f kids n c

-- a product is none where one of its costs is
pub times_all-none_at : (product : ℕ → ℕ → ℕ) (qs : List ℕ) (vs : List (List Entry)) (j : ℕ) → j < length qs → cost_in (get_or vs j []) (get_or qs j 0) ≡ None → times_all product qs vs ≡ None
times_all-none_at product [] vs j h e = absurd (omega arith)
times_all-none_at product (q ∷ qs) [] j h e = refl
times_all-none_at product (q ∷ qs) (v ∷ vs) zero h e = rw e refl
times_all-none_at product (q ∷ qs) (v ∷ vs) (suc j) h e = rw (times_all-none_at product qs vs j (omega arith) e) (times-none product (cost_in v q))

module _ {levelled weighted : Bool} {product : ℕ → ℕ → ℕ} (laws : ProductLaws levelled weighted product) (rules : List (Rule ℕ)) where
  pub among_none : (q f : ℕ) (kids : Trees ℕ) → IsLeast (BeginsAmong product rules q f kids []) None
  among_none q f kids = IsLeast-none (λ c b. b.1)

  one_more : (q f : ℕ) (kids : Trees ℕ) (ps : List ℕ) (m c : ℕ) → BeginsAmong product rules q f kids ps c ⊎ Begins product rules q f kids m c → BeginsAmong product rules q f kids (ps ++ m ∷ []) c
  one_more q f kids ps m c (inl b) = (b.0, has_first ps m b.0 b.1, b.2)
  one_more q f kids ps m c (inr b) = (m, has_last ps m, b)

  one_less : (q f : ℕ) (kids : Trees ℕ) (ps : List ℕ) (m c : ℕ) → BeginsAmong product rules q f kids (ps ++ m ∷ []) c → BeginsAmong product rules q f kids ps c ⊎ Begins product rules q f kids m c
  one_less q f kids ps m c b = elim (has_or_last ps m b.0 b.1) [
    | inl h ↦ inl (b.0, h, b.2)
    | inr e ↦ inr (subst (λ n. Begins product rules q f kids n c) (sym e) b.2)
  ]

  -- a rule of the state
  pub among_rule :
      (q f : ℕ) (kids : Trees ℕ) (ps : List ℕ) (m : ℕ) {v w : Option ℕ} → (rule_at rules m).left ≡ q → (rule_at rules m).right.label ≡ label f →
      IsLeast (BeginsAmong product rules q f kids ps) v → IsLeast (IsCost product rules (holes (rule_at rules m).right.kids) kids) w →
      IsLeast (BeginsAmong product rules q f kids (ps ++ m ∷ [])) (lesser v (times product (Some (rule_at rules m).cost) w))
  among_rule q f kids ps m left root h k =
      IsLeast-same (one_more q f kids ps m) (one_less q f kids ps m)
      (IsLeast-either h (IsLeast-same (λ c p. record { left = left; root = root; below = p }) (λ c b. b.below) (IsLeast-scaled laws (rule_at rules m).cost k)))

  -- a rule of another state
  pub among_other :
      (q f : ℕ) (kids : Trees ℕ) (ps : List ℕ) (m : ℕ) {v : Option ℕ} → ((rule_at rules m).left ≡ q → ⊥) →
      IsLeast (BeginsAmong product rules q f kids ps) v → IsLeast (BeginsAmong product rules q f kids (ps ++ m ∷ [])) v
  among_other q f kids ps m other h =
      IsLeast-same (one_more q f kids ps m) (one_less q f kids ps m) (IsLeast-either_none (λ c b. other b.left) h)

  -- a run that yields f over k trees begins with a rule of the label f and the rank k
  pub among_all :
      AreNormal rules → (q f k : ℕ) (kids : Trees ℕ) → count kids ≡ k → {v : Option ℕ} →
      IsLeast (BeginsAmong product rules q f kids (positions_with f k rules)) v → IsLeast (IsCost product rules (q ∷ []) (tree f kids none)) v
  among_all normal q f k kids many h =
      IsLeast-all_rules laws rules normal q f kids (IsLeast-same
      (λ c b. (b.0, omega (arith, places_below rules 0 f k b.0 b.1), b.2))
      (λ c b. (b.0, stands c b.0 b.1 b.2, b.2))
      h)
    where
      arity : (c n : ℕ) → n < length rules → Begins product rules q f kids n c → count (rule_at rules n).right.kids ≡ k
      arity c n l b =
          let runs = b.below.3 in
          let yielded : count (yields rules runs.runs) ≡ count kids = ap count runs.yielded in
          omega (
            arith,
            yielded,
            count-yields rules (holes (rule_at rules n).right.kids) runs.runs runs.are_runs,
            length-holes (rule_at rules n).right.kids (normal n l).are_holes,
          )

      stands : (c n : ℕ) → n < length rules → Begins product rules q f kids n c → Has (positions_with f k rules) n
      stands c n l b = place_has rules f k n (record { below = l; root = b.root; many = arity c n l b })

  -- the product over the states is the least cost of runs from them
  pub times_all-is_least :
      (qs : List ℕ) (ts : Trees ℕ) (vs : List (List Entry)) → length qs ≤ count ts → Weighed product rules ts vs →
      IsLeast (IsCost product rules qs (first_trees (length qs) ts)) (times_all product qs vs)
  times_all-is_least [] ts vs h w = IsLeast-no_states laws rules
  times_all-is_least (q ∷ qs) none vs h w = absurd (omega arith)
  times_all-is_least (q ∷ qs) (tree f kids rest) [] h w = absurd w
  times_all-is_least (q ∷ qs) (tree f kids rest) (v ∷ vs) h w =
      IsLeast-one_more laws rules q qs f kids (first_trees (length qs) rest) (w.0.least q) (times_all-is_least qs rest vs (omega arith) w.1)

  -- a rule is worth the least cost of the runs that begin with it
  pub rule_least :
      AreNormal rules → (ts : Trees ℕ) (vs : List (List Entry)) (f k m q : ℕ) → IsRulePlace rules f k m → k ≤ count ts → Weighed product rules ts vs → (rule_at rules m).left ≡ q →
      IsLeast (Begins product rules q f (first_trees k ts) m) (times product (Some (rule_at rules m).cost) (times_all product (holes (rule_at rules m).right.kids) vs))
  rule_least normal ts vs f k m q place enough w left =
      IsLeast-same (λ c p. record { left = left; root = place.root; below = p }) (λ c b. b.below) (IsLeast-scaled laws (rule_at rules m).cost all)
    where
      holes_long : length (holes (rule_at rules m).right.kids) ≡ k
      holes_long = length-holes (rule_at rules m).right.kids (normal m place.below).are_holes ∙ place.many

      all : IsLeast (IsCost product rules (holes (rule_at rules m).right.kids) (first_trees k ts)) (times_all product (holes (rule_at rules m).right.kids) vs)
      all =
          subst
          (λ j. IsLeast (IsCost product rules (holes (rule_at rules m).right.kids) (first_trees j ts)) (times_all product (holes (rule_at rules m).right.kids) vs))
          holes_long
          (times_all-is_least (holes (rule_at rules m).right.kids) ts vs (omega (arith, holes_long, enough)) w)

  -- one more rule
  pub among_step :
      AreNormal rules → (ts : Trees ℕ) (vs : List (List Entry)) (f k : ℕ) (ps : List ℕ) (m q : ℕ) (v v' : Option ℕ) → IsRulePlace rules f k m → k ≤ count ts → Weighed product rules ts vs →
      IsLeast (BeginsAmong product rules q f (first_trees k ts) ps) v →
      v' ≡ (if nat_eq (rule_at rules m).left q then lesser v (times product (Some (rule_at rules m).cost) (times_all product (holes (rule_at rules m).right.kids) vs)) else v) →
      IsLeast (BeginsAmong product rules q f (first_trees k ts) (ps ++ m ∷ [])) v'
  among_step normal ts vs f k ps m q v v' place enough w h e = elim (nat_eq_cases (rule_at rules m).left q) [
    | inl y ↦ rw (e, y.1) (among_rule q f (first_trees k ts) ps m y.0 place.root h all)
    | inr n ↦ rw (e, n.1) (among_other q f (first_trees k ts) ps m n.0 h)
  ]
    where
      holes_long : length (holes (rule_at rules m).right.kids) ≡ k
      holes_long = length-holes (rule_at rules m).right.kids (normal m place.below).are_holes ∙ place.many

      all : IsLeast (IsCost product rules (holes (rule_at rules m).right.kids) (first_trees k ts)) (times_all product (holes (rule_at rules m).right.kids) vs)
      all =
          subst
          (λ j. IsLeast (IsCost product rules (holes (rule_at rules m).right.kids) (first_trees j ts)) (times_all product (holes (rule_at rules m).right.kids) vs))
          holes_long
          (times_all-is_least (holes (rule_at rules m).right.kids) ts vs (omega (arith, holes_long, enough)) w)

pub count-Weighed : (product : ℕ → ℕ → ℕ) (rules : List (Rule ℕ)) (ts : Trees ℕ) (vs : List (List Entry)) → Weighed product rules ts vs → count ts ≡ length vs
count-Weighed product rules none [] w = refl
count-Weighed product rules none (v ∷ vs) w = absurd w
count-Weighed product rules (tree f kids rest) [] w = absurd w
count-Weighed product rules (tree f kids rest) (v ∷ vs) w = ap suc (count-Weighed product rules rest vs w.1)
