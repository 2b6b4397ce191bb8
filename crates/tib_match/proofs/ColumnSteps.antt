-- Columns that grow by one rule, one state or one hole.
use Rattle.std.specs.Prelude.{◌≡◌, ◌⊎◌, ℕ, ◌+◌, ◌-◌, ◌<◌, ◌≤◌, min, List, [], ◌∷◌, ◌++◌, length, map, take, drop, reverse, replicate, Option, None, Some, refl}
use Rattle.std.proofs.Common.{zero, suc, arith, get_or, set, ap, sym, ◌∙◌, subst, inl, inr}
use Rattle.std.proofs.lemmas.List.{length-set, get_or-set_same, get_or-set_other, map-append, reverse-append, take_more, take_all, length-map, length-reverse, at_drop_more, get_or_push, get_or_append_left, get_or_past}
use Rattle.tib_lex.specs.Lists.{Each}
use Rattle.tib_lex.proofs.Members.{each_has, has_at, has_left, has_right, has_either}
use Rattle.tib_lex.proofs.Numbers.{same_or_other, below_cases}
use Rattle.tib_cost.specs.Least.{AtMost, times, lesser}
use Rattle.tib_grammar.specs.Items.{state_in}
use Rattle.tib_grammar.specs.Sides.{holes}
use Rattle.tib_grammar.specs.Run.{rule_at}
use Rattle.tib_grammar.specs.declared.Item.{Item}
use Rattle.tib_grammar.specs.declared.Rule.{Rule}
use Rattle.tib_normal.specs.Rules.{positions_with}
use Rattle.tib_match.proofs.Listed.{each_below}
use Rattle.tib_match.specs.Boxes.{cost_at, cost_along, spanned, column_of, stack_of, IsColumn, IsLowered}
use Rattle.tib_match.specs.declared.hole_cost.HoleCost.{HoleCost}
use Rattle.tib_match.specs.declared.spans.Span.{Span}
use Rattle.tib_match.proofs.BoxCosts.{spanned_past, along_other}

-- one more column is in front
pub stack_more : (columns : List (List (Option ℕ))) (x : List (Option ℕ)) → stack_of (columns ++ x ∷ []) ≡ column_of x ∷ stack_of columns
stack_more columns x = ap reverse (map-append column_of columns (x ∷ [])) ∙ reverse-append (map column_of columns) (column_of x ∷ [])

-- one more column and state of a product
pub along_next :
    (product : ℕ → ℕ → ℕ) (columns : List (List (Option ℕ))) (states : List (Item ℕ)) (i : ℕ) (x : List (Option ℕ)) (old own : Option ℕ) (q : ℕ) (d : Item ℕ) → i < length columns → length columns ≡ length states →
    get_or columns i x ≡ x → own ≡ column_of x q → q ≡ state_in (get_or states (length states - 1 - i) d) →
    old ≡ cost_along product (stack_of (take i columns)) (map state_in (drop (length states - i) states)) →
    times product own old ≡ cost_along product (stack_of (take (i + 1) columns)) (map state_in (drop (length states - (i + 1)) states))
along_next product columns states i x old own q d low same at is here total =
    let j : ℕ = length states - (i + 1) in
    let inside : j < length states = omega (arith, low, same) in
    let before : length states - 1 - i ≡ j = omega (arith, low, same) in
    let behind : j + 1 ≡ length states - i = omega (arith, low, same) in
    let first : stack_of (take (i + 1) columns) ≡ column_of x ∷ stack_of (take i columns) =
    ap stack_of (take_more columns i x low ∙ ap (λ y. take i columns ++ y ∷ []) at) ∙ stack_more (take i columns) x
    in
    let rest : map state_in (drop j states) ≡ q ∷ map state_in (drop (length states - i) states) =
    at_drop_more (map state_in) states j d inside
    ∙ ap (λ y. y ∷ map state_in (drop (j + 1) states)) (sym (here ∙ ap (λ k. state_in (get_or states k d)) before))
    ∙ ap (λ k. q ∷ map state_in (drop k states)) behind
    in
    ap (λ v. times product v old) is
    ∙ ap (times product (column_of x q)) total
    ∙ sym (ap (λ fs. cost_along product fs (map state_in (drop j states))) first ∙ ap (cost_along product (column_of x ∷ stack_of (take i columns))) rest)

-- all columns and all states
pub along_all :
    (product : ℕ → ℕ → ℕ) (columns : List (List (Option ℕ))) (states : List (Item ℕ)) (i : ℕ) → length columns ≤ i → length columns ≡ length states →
    cost_along product (stack_of (take i columns)) (map state_in (drop (length states - i) states)) ≡ cost_along product (stack_of columns) (map state_in states)
along_all product columns states i h same =
    let none : length states - i ≡ 0 = omega (arith, h, same) in
    ap (λ cs. cost_along product (stack_of cs) (map state_in (drop (length states - i) states))) (take_all i columns h)
    ∙ ap (λ k. cost_along product (stack_of columns) (map state_in (drop k states))) none

-- not as many columns as states
pub other_long :
    (product : ℕ → ℕ → ℕ) (columns : List (List (Option ℕ))) (states : List (Item ℕ)) → (length columns ≡ length states → ⊥) →
    None ≡ cost_along product (stack_of columns) (map state_in states)
other_long product columns states other =
    along_other product (stack_of columns) (map state_in states)
    (λ e. other (sym (length-map columns column_of) ∙ sym (length-reverse (map column_of columns)) ∙ e ∙ length-map states state_in))

lesser_some : (v w : Option ℕ) (c : ℕ) → lesser v w ≡ Some c → (v ≡ Some c) ⊎ (w ≡ Some c)
lesser_some None w c e = inr e
lesser_some (Some a) None c e = inl e
lesser_some (Some a) (Some b) c e = elim (which a b) [
  | inl h ↦ inl (ap Some (sym h) ∙ e)
  | inr h ↦ inr (ap Some (sym h) ∙ e)
]
  where
    which : (a b : ℕ) → (min a b ≡ a) ⊎ (min a b ≡ b)
    which a b = grind arith

lesser_left : (v w : Option ℕ) (c : ℕ) → AtMost v c → AtMost (lesser v w) c
lesser_left None w c h = absurd h
lesser_left (Some a) None c h = h
lesser_left (Some a) (Some b) c h = omega (arith, h)

lesser_right : (v w : Option ℕ) (c : ℕ) → AtMost w c → AtMost (lesser v w) c
lesser_right None w c h = h
lesser_right (Some a) None c h = absurd h
lesser_right (Some a) (Some b) c h = omega (arith, h)

pub lesser_none : (v : Option ℕ) → lesser v None ≡ v
lesser_none None = refl
lesser_none (Some a) = refl

abbrev no_cost : Option ℕ
no_cost = None

none_at : (n q : ℕ) → get_or (replicate n no_cost) q None ≡ no_cost
none_at zero q = refl
none_at (suc n) zero = refl
none_at (suc n) (suc q) = none_at n q

module _ (product : ℕ → ℕ → ℕ) (rules : List (Rule ℕ)) (below : List (ℕ → Option ℕ)) where
  -- no rule was tried
  pub no_rules : (n : ℕ) (costs : List (Option ℕ)) → costs ≡ replicate n None → IsColumn product rules [] below (column_of costs)
  no_rules n costs e = record {
    attained = λ q c k. absurd (let bad : None ≡ Some c = sym (ap (λ xs. get_or xs q None) e ∙ none_at n q) ∙ k in cc);
    lower = λ m c h k. absurd h;
  }

  -- one more rule was tried
  pub column_next :
      (ps : List ℕ) (n : ℕ) (old new : List (Option ℕ)) → IsColumn product rules ps below (column_of old) → IsLowered product (rule_at rules n) below old new →
      IsColumn product rules (ps ++ n ∷ []) below (column_of new)
  column_next ps n old new is low = record {
    attained = λ q c e. elim (same_or_other q (rule_at rules n).left) [
      | inl same ↦ elim (lesser_some _ _ c (sym low.own ∙ sym (ap (column_of new) same) ∙ e)) [
        | inl k ↦ let r = is.attained q c (ap (column_of old) same ∙ k) in (r.0, has_left ps (n ∷ []) r.0 r.1, r.2, r.3)
        | inr k ↦ (n, has_right ps (n ∷ []) n (inl refl), sym same, k)
      ]
      | inr other ↦ let r = is.attained q c (sym (low.others q other) ∙ e) in (r.0, has_left ps (n ∷ []) r.0 r.1, r.2, r.3)
    ];
    lower = λ m c h e. elim (has_either ps (n ∷ []) m h) [
      | inl k ↦ kept m c (is.lower m c k e)
      | inr k ↦ elim k [
        | inl same ↦ subst (λ i. AtMost (column_of new (rule_at rules i).left) c) same
            (subst (λ v. AtMost v c) (sym low.own)
            (lesser_right (column_of old (rule_at rules n).left) _ c (subst (λ v. AtMost v c) (sym (subst (λ i. times product (Some (rule_at rules i).cost) (cost_along product below (holes (rule_at rules i).right.kids)) ≡ Some c) (sym same) e)) (omega arith))))
        | inr no_more ↦ absurd no_more
      ]
    ];
  }
    where
      kept : (m c : ℕ) → AtMost (column_of old (rule_at rules m).left) c → AtMost (column_of new (rule_at rules m).left) c
      kept m c h = elim (same_or_other (rule_at rules m).left (rule_at rules n).left) [
        | inl same ↦ subst (λ q. AtMost (column_of new q) c) (sym same)
            (subst (λ v. AtMost v c) (sym low.own) (lesser_left (column_of old (rule_at rules n).left) _ c (subst (λ q. AtMost (column_of old q) c) same h)))
        | inr other ↦ subst (λ v. AtMost v c) (sym (low.others (rule_at rules m).left other)) h
      ]

below_or : (a b : ℕ) → (a < b) ⊎ (b ≤ a)
below_or a b = grind arith

-- one more state at a hole
pub hole_next :
    (r : Span) (h : HoleCost) (old : List (Option ℕ)) (n : ℕ) (x : Option ℕ) → length old ≡ n → x ≡ spanned r (cost_at h) n →
    ((q : ℕ) → q < n → get_or old q None ≡ spanned r (cost_at h) q) → (q : ℕ) → q < n + 1 → get_or (old ++ x ∷ []) q None ≡ spanned r (cost_at h) q
hole_next r h old n x long is set q b = elim (below_cases q n b) [
  | inl k ↦ get_or_append_left old (x ∷ []) None q (omega (arith, long, k)) ∙ set q k
  | inr e ↦ get_or_push old x None q (long ∙ sym e) ∙ is ∙ ap (spanned r (cost_at h)) (sym e)
]

-- all states of a span, and none after them
pub hole_whole :
    (r : Span) (h : HoleCost) (costs : List (Option ℕ)) (n : ℕ) → length costs ≡ n → r.high ≤ n → ((q : ℕ) → q < n → get_or costs q None ≡ spanned r (cost_at h) q) →
    (q : ℕ) → column_of costs q ≡ spanned r (cost_at h) q
hole_whole r h costs n long high set q = elim (below_or q n) [
  | inl k ↦ set q k
  | inr k ↦ get_or_past costs q None (omega (arith, long, k)) ∙ spanned_past r (cost_at h) q (omega (arith, high, k))
]

module _ (product : ℕ → ℕ → ℕ) (rule : Rule ℕ) (below : List (ℕ → Option ℕ)) (old : List (Option ℕ)) where
  -- the lesser one is set
  pub lowered :
      (cost least : ℕ) → rule.left < length old → times product (Some rule.cost) (cost_along product below (holes rule.right.kids)) ≡ Some cost →
      Some least ≡ lesser (get_or old rule.left None) (Some cost) → IsLowered product rule below old (set old rule.left (Some least))
  lowered cost least within is lower = record {
    long = length-set old rule.left (Some least);
    others = λ q other. get_or-set_other old rule.left q (Some least) None other;
    own = get_or-set_same old rule.left (Some least) None within ∙ lower ∙ ap (lesser (get_or old rule.left None)) (sym is);
  }

  -- nothing is set
  pub not_lowered : times product (Some rule.cost) (cost_along product below (holes rule.right.kids)) ≡ None → IsLowered product rule below old old
  not_lowered none = record {
    long = refl;
    others = λ q other. refl;
    own = sym (ap (lesser (get_or old rule.left None)) none ∙ lesser_none (get_or old rule.left None));
  }

-- the rule at a place of those of a label and a rank
pub place_below : (rules : List (Rule ℕ)) (f rank : ℕ) (ps : List ℕ) (i : ℕ) → ps ≡ positions_with f rank rules → i < length ps → get_or ps i 0 < length rules
place_below rules f rank ps i are low =
    each_has (λ p. p < length rules) ps (get_or ps i 0) (subst (Each (λ p. p < length rules)) (sym are) (each_below rules f rank)) (has_at ps i 0 low)
