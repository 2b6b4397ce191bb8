-- The rules of the grammar's states and those of the places are together the normal form.
use Rattle.std.specs.Prelude.{◌≡◌, ℕ, ◌+◌, ◌<◌, ◌≤◌, ◌⊎◌, List, [], ◌∷◌, ◌++◌, length, refl, Some, sum_by}
use Rattle.std.proofs.Common.{zero, suc, arith, ap, sym, ◌∙◌, subst, inl, inr, length-append}
use Rattle.tib_tree.specs.Trees.{Trees, none, tree}
use Rattle.tib_lex.specs.Lists.{Has, Each, Ascends, total}
use Rattle.tib_cost.specs.Semiring.{most}
use Rattle.tib_cost.specs.Least.{IsLeast}
use Rattle.tib_grammar.specs.Sides.{Symbol, label, hole, Side as SideFor, Lone, holes, holes_of, labels_in}
use Rattle.tib_grammar.specs.Run.{rule_at, no_rule}
use Rattle.tib_grammar.specs.Range.{AllBelow, IsInRange, AreInRange, AreLone}
use Rattle.tib_grammar.specs.Forms.{AreNormal, IsNormalSide}
use Rattle.tib_grammar.specs.declared.Rule.{Rule}
use Rattle.tib_grammar.proofs.Members.{has_at, has_left, has_right, has_either}
use Rattle.tib_grammar.proofs.Sides.{holes_of-label}
use Rattle.tib_normal.specs.NormalForm.{heads, inner_rules, all_inner, first_inner, Reaches, IsNormalCost, IsNormalForm, rule_parts, normal_parts}
use Rattle.tib_normal.specs.Rows.{AreRows, AreOwn, AreTooMany, HasMoreParts, IfTooMany}
use Rattle.tib_normal.specs.Places.{rule_labels}
use Rattle.tib_normal.specs.declared.error.NormalError.{NormalError}
use Rattle.tib_normal.specs.declared.error.NormalError.TheVariants.{TooMany, OutOfMemory}
use Rattle.tib_normal.specs.Rules.{IsNormal}
use Rattle.tib_normal.proofs.Normalizing.{heads_holes, below_or_after, inner_is, all_low}
use Rattle.tib_normal.proofs.Placing.{length-inner, length-all_inner}
use Rattle.tib_lex.proofs.Lists.{each_append, each_weaker, total_append}

-- lists

each_of : {A : Type 0} (P : A → Type 0) (xs : List A) → ((x : A) → Has xs x → P x) → Each P xs
each_of P [] h = tt
each_of P (x ∷ xs) h = (h x (inl refl), each_of P xs (λ y m. h y (inr m)))

each_has : {A : Type 0} (P : A → Type 0) (xs : List A) (z : A) → Each P xs → Has xs z → P z
each_has P [] z e h = absurd h
each_has P (x ∷ xs) z e (inl h) = subst P h e.0
each_has P (x ∷ xs) z e (inr h) = each_has P xs z e.1 h

pub joined : {A : Type 0} (R : A → A → Type 0) (xs ys : List A) → Ascends R xs → Ascends R ys → ((x y : A) → Has xs x → Has ys y → R x y) → Ascends R (xs ++ ys)
joined R [] ys a b h = b
joined R (x ∷ xs) ys a b h = (
  each_append (R x) xs ys a.0 (each_of (R x) ys (λ y n. h x y (inl refl) n)),
  joined R xs ys a.1 b (λ y z m n. h y z (inr m) n),
)

weaker : {A : Type 0} (R T : A → A → Type 0) (xs : List A) → ((x y : A) → R x y → T x y) → Ascends R xs → Ascends T xs
weaker R T [] h a = tt
weaker R T (x ∷ xs) h a = (each_weaker (R x) (T x) xs (h x) a.0, weaker R T xs h a.1)

-- a list without a member
abbrev without : {A : Type 0} (ys : List A) (x : A) → Has ys x → List A
without [] x h = []
without (y ∷ ys) x (inl e) = ys
without (y ∷ ys) x (inr m) = y ∷ without ys x m

total_without : {A : Type 0} (f : A → ℕ) (ys : List A) (x : A) (h : Has ys x) → total f ys ≡ f x + total f (without ys x h)
total_without f [] x h = absurd h
total_without f (y ∷ ys) x (inl e) = ap (λ z. f z + total f ys) e
total_without f (y ∷ ys) x (inr m) = omega (arith, total_without f ys x m)

still : {A : Type 0} (ys : List A) (x z : A) (h : Has ys x) → Has ys z → (x ≡ z → ⊥) → Has (without ys x h) z
still [] x z h k n = absurd h
still (y ∷ ys) x z (inl e) (inl k) n = absurd (n (sym e ∙ k))
still (y ∷ ys) x z (inl e) (inr k) n = k
still (y ∷ ys) x z (inr m) (inl k) n = inl k
still (y ∷ ys) x z (inr m) (inr k) n = inr (still ys x z m k n)

-- where distinct values are all in another list, their total is at most that of this list
pub total_fewer : {A : Type 0} (f : A → ℕ) (R : A → A → Type 0) (xs ys : List A) → ((x : A) → R x x → ⊥) → Ascends R xs → ((x : A) → Has xs x → Has ys x) → total f xs ≤ total f ys
total_fewer f R [] ys n a h = omega arith
total_fewer f R (x ∷ xs) ys n a h =
    let m = h x (inl refl) in
    let rest : total f xs ≤ total f (without ys x m) =
    total_fewer f R xs (without ys x m) n a.1 (λ z k. still ys x z m (h z (inr k)) (λ e. n x (subst (R x) (sym e) (each_has (R x) xs z a.0 k))))
    in
    omega (arith, rest, total_without f ys x m)

-- states within range

wider_below : (m n : ℕ) (qs : List ℕ) → m ≤ n → AllBelow m qs → AllBelow n qs
wider_below m n [] h a = tt
wider_below m n (q ∷ qs) h a = (omega (arith, a.0), wider_below m n qs h a.1)

below_both : (n : ℕ) (ps qs : List ℕ) → AllBelow n (ps ++ qs) → AllBelow n ps × AllBelow n qs
below_both n [] qs a = (tt, a)
below_both n (p ∷ ps) qs a = let b = below_both n ps qs a.1 in ((a.0, b.0), b.1)

heads_below : (n s : ℕ) (k : Trees (Symbol ℕ ℕ)) → AllBelow n (holes k) → s + labels_in k ≤ n → AllBelow n (holes (heads s k))
heads_below n s none a h = tt
heads_below n s (tree (hole q) kids rest) a h = (a.0, heads_below n s rest a.1 h)
heads_below n s (tree (label f) kids rest) a h =
    let b = below_both n (holes kids) (holes rest) a in
    (omega (arith, h), heads_below n (suc s + labels_in kids) rest b.1 (omega (arith, h)))

over_below : (n : ℕ) (s : SideFor ℕ ℕ) (f : ℕ) → s.label ≡ label f → AllBelow n (holes s.kids) → AllBelow n (holes_of s)
over_below n s f e a = subst (AllBelow n) (sym (holes_of-label s.label s.kids f e)) a

kids_below : (n : ℕ) (s : SideFor ℕ ℕ) → ((q : ℕ) → s.label ≡ hole q → s ≡ Lone q) → AllBelow n (holes_of s) → AllBelow n (holes s.kids)
kids_below n s lone a = go s.label refl
  where
    go : (l : Symbol ℕ ℕ) → s.label ≡ l → AllBelow n (holes s.kids)
    go (label f) e = subst (AllBelow n) (holes_of-label s.label s.kids f e) a
    go (hole q) e = subst (λ (k : Trees (Symbol ℕ ℕ)). AllBelow n (holes k)) (sym (ap (λ (z : SideFor ℕ ℕ). z.kids) (lone q e))) tt

inner_range : (n s : ℕ) (k : Trees (Symbol ℕ ℕ)) (r : Rule ℕ) → AllBelow n (holes k) → s + labels_in k ≤ n → Has (inner_rules s k) r → IsInRange n r
inner_range n s none r a h m = absurd m
inner_range n s (tree (hole q) kids rest) r a h m = inner_range n s rest r a.1 h m
inner_range n s (tree (label f) kids rest) r a h m =
    let b = below_both n (holes kids) (holes rest) a in
    elim m [
      | inl e ↦ subst (IsInRange n) e (omega (arith, h), over_below n (record { label = label f; kids = heads (suc s) kids }) f refl (heads_below n (suc s) kids b.0 (omega (arith, h))))
      | inr x ↦ elim (below_or_after s kids rest r x) [
        | inl y ↦ inner_range n (suc s) kids r b.0 (omega (arith, h)) y
        | inr y ↦ inner_range n (suc s + labels_in kids) rest r b.1 (omega (arith, h)) y
      ]
    ]

length_first : (s : ℕ) (x : Rule ℕ) (rules : List (Rule ℕ)) → length (all_inner s (x ∷ rules)) ≡ labels_in x.right.kids + length (all_inner (s + labels_in x.right.kids) rules)
length_first s x rules = omega (arith, length-append (inner_rules s x.right.kids) (all_inner (s + labels_in x.right.kids) rules), length-inner s x.right.kids)

all_range :
    (n s : ℕ) (rules : List (Rule ℕ)) (r : Rule ℕ) → ((m : ℕ) → m < length rules → AllBelow n (holes (rule_at rules m).right.kids)) → s + length (all_inner s rules) ≤ n →
    Has (all_inner s rules) r → IsInRange n r
all_range n s [] r a h m = absurd m
all_range n s (x ∷ rules) r a h m =
    let long = length_first s x rules in
    elim (has_either (inner_rules s x.right.kids) (all_inner (s + labels_in x.right.kids) rules) r m) [
      | inl y ↦ inner_range n s x.right.kids r (a 0 (omega arith)) (omega (arith, h, long)) y
      | inr y ↦ all_range n (s + labels_in x.right.kids) rules r (λ j b. a (suc j) (omega arith)) (omega (arith, h, long)) y
    ]

first_high : (s : ℕ) (rules : List (Rule ℕ)) (n : ℕ) → n < length rules → first_inner s rules n + labels_in (rule_at rules n).right.kids ≤ s + length (all_inner s rules)
first_high s [] n h = absurd (omega arith)
first_high s (x ∷ rules) zero h = omega (arith, length_first s x rules)
first_high s (x ∷ rules) (suc n) h = omega (arith, length_first s x rules, first_high (s + labels_in x.right.kids) rules n (omega arith))

-- the rules of places are in the order of their states

abbrev Earlier : Rule ℕ → Rule ℕ → Type 0
Earlier r t = r.left < t.left

abbrev Apart : Rule ℕ → Rule ℕ → Type 0
Apart r t = r.left ≡ t.left → r.right ≡ t.right → ⊥

inner_ascends : (s : ℕ) (k : Trees (Symbol ℕ ℕ)) → Ascends Earlier (inner_rules s k)
inner_ascends s none = tt
inner_ascends s (tree (hole q) kids rest) = inner_ascends s rest
inner_ascends s (tree (label f) kids rest) = (
  each_of (Earlier (record { left = s; right = record { label = label f; kids = heads (suc s) kids }; cost = 0 })) (inner_rules (suc s) kids ++ inner_rules (suc s + labels_in kids) rest) (λ r m. later r (below_or_after s kids rest r m)),
  joined Earlier (inner_rules (suc s) kids) (inner_rules (suc s + labels_in kids) rest) (inner_ascends (suc s) kids) (inner_ascends (suc s + labels_in kids) rest)
      (λ r t m n. omega (arith, (inner_is (suc s) kids r m).to, (inner_is (suc s + labels_in kids) rest t n).from)),
)
  where
    later : (r : Rule ℕ) → Has (inner_rules (suc s) kids) r ⊎ Has (inner_rules (suc s + labels_in kids) rest) r → s < r.left
    later r (inl m) = omega (arith, (inner_is (suc s) kids r m).from)
    later r (inr m) = omega (arith, (inner_is (suc s + labels_in kids) rest r m).from)

all_ascends : (s : ℕ) (rules : List (Rule ℕ)) → Ascends Earlier (all_inner s rules)
all_ascends s [] = tt
all_ascends s (x ∷ rules) =
    joined Earlier (inner_rules s x.right.kids) (all_inner (s + labels_in x.right.kids) rules) (inner_ascends s x.right.kids) (all_ascends (s + labels_in x.right.kids) rules)
    (λ r t m n. omega (arith, (inner_is s x.right.kids r m).to, (all_low (s + labels_in x.right.kids) rules t n).0))

all_apart : (s : ℕ) (rules : List (Rule ℕ)) → Ascends Apart (all_inner s rules)
all_apart s rules = weaker Earlier Apart (all_inner s rules) (λ r t h e d. omega (arith, h, e)) (all_ascends s rules)

all_free : (s : ℕ) (rules : List (Rule ℕ)) (r : Rule ℕ) → Has (all_inner s rules) r → r.cost ≡ 0
all_free s [] r h = absurd h
all_free s (x ∷ rules) r h = elim (has_either (inner_rules s x.right.kids) (all_inner (s + labels_in x.right.kids) rules) r h) [
  | inl m ↦ inner_free s x.right.kids r m
  | inr m ↦ all_free (s + labels_in x.right.kids) rules r m
]
  where
    inner_free : (s : ℕ) (k : Trees (Symbol ℕ ℕ)) (r : Rule ℕ) → Has (inner_rules s k) r → r.cost ≡ 0
    inner_free s none r h = absurd h
    inner_free s (tree (hole q) kids rest) r h = inner_free s rest r h
    inner_free s (tree (label f) kids rest) r h = elim h [
      | inl e ↦ sym (ap (λ (z : Rule ℕ). z.cost) e)
      | inr m ↦ elim (below_or_after s kids rest r m) [
        | inl n ↦ inner_free (suc s) kids r n
        | inr n ↦ inner_free (suc s + labels_in kids) rest r n
      ]
    ]

module _ (product : ℕ → ℕ → ℕ) (states : ℕ) (rules : List (Rule ℕ)) where
  -- what a rule from a state of the grammar costs
  own_cost : (q : ℕ) (side : SideFor ℕ ℕ) (c : ℕ) → q < states → IsNormalCost product states rules q side c → Reaches product states rules q side c
  own_cost q side c h (inl r) = r
  own_cost q side c h (inr i) = absurd (omega (arith, h, (all_low states rules (record { left = q; right = side; cost = c }) i).0))

  own_least : (q : ℕ) (side : SideFor ℕ ℕ) (c : ℕ) → IsLeast (Reaches product states rules q side) (Some c) → IsLeast (IsNormalCost product states rules q side) (Some c)
  own_least q side c l = record {
    attained = (inl l.attained.0, l.attained.1);
    lower = λ n m b. l.lower n (own_cost q side n l.attained.0.own m) b;
  }

  place_least : (r : Rule ℕ) → Has (all_inner states rules) r → IsLeast (IsNormalCost product states rules r.left r.right) (Some r.cost)
  place_least r h = record {
    attained = (inr h, omega (arith, all_free states rules r h));
    lower = λ n m b. omega (arith, all_free states rules r h);
  }

  -- the rules of the grammar's states and those of places together
  pub form_of : (more : ℕ) (own : List (Rule ℕ)) → AreOwn product states rules states own → more ≡ states + length (all_inner states rules) → IsNormalForm product states rules more (own ++ all_inner states rules)
  form_of more own o e = record {
    counted = e;
    ascends = joined (λ r s. r.left ≤ s.left) own (all_inner states rules) o.ascends (weaker Earlier (λ r s. r.left ≤ s.left) (all_inner states rules) (λ r t h. omega (arith, h)) (all_ascends states rules)) (λ r t m n. omega (arith, apart r t m n));
    distinct = joined Apart own (all_inner states rules) o.rows.distinct (all_apart states rules) (λ r t m n d f. omega (arith, apart r t m n, d));
    least = λ r h. elim (has_either own (all_inner states rules) r h) [
      | inl m ↦ own_least r.left r.right r.cost (o.rows.least r m)
      | inr m ↦ place_least r m
    ];
    whole = whole;
  }
    where
      apart : (r t : Rule ℕ) → Has own r → Has (all_inner states rules) t → r.left < t.left
      apart r t m n = omega (arith, o.below r m, (all_low states rules t n).0)

      whole : (q : ℕ) (side : SideFor ℕ ℕ) (c : ℕ) → IsNormalCost product states rules q side c → c ≤ most → (d : ℕ) × Has (own ++ all_inner states rules) (record { left = q; right = side; cost = d })
      whole q side c (inl r) b =
          let w = o.whole q side c r.own r b in
          (w.0, has_left own (all_inner states rules) (record { left = q; right = side; cost = w.0 }) w.1)
      whole q side c (inr i) b = (c, has_right own (all_inner states rules) (record { left = q; right = side; cost = c }) i)

  module _ (more : ℕ) (new : List (Rule ℕ)) (form : IsNormalForm product states rules more new) where
    attained : (m : ℕ) → m < length new → IsNormalCost product states rules (rule_at new m).left (rule_at new m).right (rule_at new m).cost
    attained m h = (form.least (rule_at new m) (has_at new m no_rule h)).attained.0

    -- the states of the normal form are within its range
    pub form_range : AreInRange states rules → AreLone rules → AreInRange more new
    form_range range lone m h = elim (attained m h) [
      | inl r ↦
          let side_is : IsInRange more (record { left = (rule_at new m).left; right = record { label = label r.root; kids = heads (first_inner states rules r.rule) (rule_at rules r.rule).right.kids }; cost = (rule_at new m).cost }) = (
            omega (arith, r.own, form.counted),
            over_below more (record { label = label r.root; kids = heads (first_inner states rules r.rule) (rule_at rules r.rule).right.kids }) r.root refl
                (heads_below more (first_inner states rules r.rule) (rule_at rules r.rule).right.kids (kids r.rule r.below) (omega (arith, first_high states rules r.rule r.below, form.counted))),
          )
          in
          (side_is.0, subst (λ z. AllBelow more (holes_of z)) (sym r.is_side) side_is.1)
      | inr i ↦ all_range more states rules (rule_at new m) kids (omega (arith, form.counted)) i
    ]
      where
        kids : (n : ℕ) → n < length rules → AllBelow more (holes (rule_at rules n).right.kids)
        kids n b =
            wider_below states more (holes (rule_at rules n).right.kids) (omega (arith, form.counted))
            (kids_below states (rule_at rules n).right (λ q e. lone n q b e) (range n b).1)

    -- each rule has one label over states
    pub form_normal : IsNormal new
    form_normal = record { normal = each; ascends = form.ascends; distinct = form.distinct }
      where
        each : AreNormal new
        each m h = elim (attained m h) [
          | inl r ↦
              subst IsNormalSide (sym r.is_side) (record { is_label = tt; are_holes = heads_holes (first_inner states rules r.rule) (rule_at rules r.rule).right.kids })
          | inr i ↦ (all_low states rules (rule_at new m) i).1
        ]

    -- a rule of the definition is in it
    stands : (r : Rule ℕ) → IsLeast (IsNormalCost product states rules r.left r.right) (Some r.cost) → Has new r
    stands r l =
        let w = form.whole r.left r.right r.cost l.attained.0 l.attained.1 in
        let k = form.least (record { left = r.left; right = r.right; cost = w.0 }) w.1 in
        let low : r.cost ≤ w.0 = l.lower w.0 k.attained.0 k.attained.1 in
        let high : w.0 ≤ r.cost = k.lower r.cost l.attained.0 l.attained.1 in
        let same : w.0 ≡ r.cost = omega arith in
        subst (λ (c : ℕ). Has new (record { left = r.left; right = r.right; cost = c })) same w.1

    -- it has no fewer parts than some of its rules
    pub form_more :
        (rows : List (Rule ℕ)) → AreRows product states rules rows →
        normal_parts (states + length (all_inner states rules)) (all_inner states rules) + total rule_parts rows ≤ normal_parts more new
    form_more rows are =
        let less : total rule_parts (rows ++ all_inner states rules) ≤ total rule_parts new =
        total_fewer rule_parts Apart (rows ++ all_inner states rules) new (λ r h. h refl refl)
        (joined Apart rows (all_inner states rules) are.distinct (all_apart states rules) (λ r t m n d f. omega (arith, (are.least r m).attained.0.own, (all_low states rules t n).0, d)))
        (λ r h. member r (has_either rows (all_inner states rules) r h))
        in
        omega (arith, less, total_append rule_parts rows (all_inner states rules), form.counted)
      where
        member : (r : Rule ℕ) → Has rows r ⊎ Has (all_inner states rules) r → Has new r
        member r (inl m) = stands r (own_least r.left r.right r.cost (are.least r m))
        member r (inr m) = stands r (place_least r m)

  -- of two normal forms the one has no more parts than the other
  pub form_same : (m n : ℕ) (xs ys : List (Rule ℕ)) → IsNormalForm product states rules m xs → IsNormalForm product states rules n ys → normal_parts m xs ≤ normal_parts n ys
  form_same m n xs ys f h =
      let less : total rule_parts xs ≤ total rule_parts ys = total_fewer rule_parts Apart xs ys (λ r k. k refl refl) f.distinct (λ r k. stands n ys h r (f.least r k)) in
      omega (arith, less, f.counted, h.counted)

  -- the parts of the rules together
  pub form_parts :
      (own : List (Rule ℕ)) → normal_parts (states + length (all_inner states rules)) (own ++ all_inner states rules) ≡ normal_parts (states + length (all_inner states rules)) (all_inner states rules) + total rule_parts own
  form_parts own = omega (arith, total_append rule_parts own (all_inner states rules))

-- there are no more rules than parts
pub few_rules : (rules : List (Rule ℕ)) → length rules ≤ total rule_parts rules
few_rules [] = omega arith
few_rules (r ∷ rules) = omega (arith, few_rules rules)

-- the rules that were made of the grammar's states, with those of the places after them
pub form_made :
    (product : ℕ → ℕ → ℕ) (states places : ℕ) (rules own places_rules all : List (Rule ℕ)) → AreOwn product states rules states own → places ≡ sum_by rule_labels rules →
    places_rules ≡ all_inner states rules → all ≡ own ++ places_rules → IsNormalForm product states rules (states + places) all
form_made product states places rules own places_rules all o count_is inner_are e =
    let counted : states + places ≡ states + length (all_inner states rules) = omega (arith, count_is, length-all_inner states rules) in
    subst (IsNormalForm product states rules (states + places)) (sym (e ∙ ap (λ z. own ++ z) inner_are)) (form_of product states rules (states + places) own o counted)

-- and their parts
pub made_within :
    (states places limit parts start : ℕ) (rules own places_rules all : List (Rule ℕ)) → places ≡ sum_by rule_labels rules → places_rules ≡ all_inner states rules → all ≡ own ++ places_rules →
    start ≡ normal_parts (states + length (all_inner states rules)) (all_inner states rules) → parts ≡ start + total rule_parts own → parts ≤ limit → normal_parts (states + places) all ≤ limit
made_within states places limit parts start rules own places_rules all count_is inner_are e from more within =
    let split : total rule_parts all ≡ total rule_parts own + total rule_parts (all_inner states rules) = ap (total rule_parts) (e ∙ ap (λ z. own ++ z) inner_are) ∙ total_append rule_parts own (all_inner states rules) in
    omega (arith, count_is, length-all_inner states rules, from, more, within, split)

-- there are too many parts where those of some of its rules are too many
pub made_many :
    (product : ℕ → ℕ → ℕ) (states : ℕ) (rules : List (Rule ℕ)) (start limit : ℕ) → start ≡ normal_parts (states + length (all_inner states rules)) (all_inner states rules) →
    AreTooMany product states rules start limit → HasMoreParts product states rules limit
made_many product states rules start limit from t more new form = omega (arith, from, t.more, form_more product states rules more new form t.rows t.are)

-- or those of the places alone
pub places_many :
    (product : ℕ → ℕ → ℕ) (states : ℕ) (rules : List (Rule ℕ)) (limit : ℕ) → limit < normal_parts (states + length (all_inner states rules)) (all_inner states rules) → HasMoreParts product states rules limit
places_many product states rules limit h more new form =
    omega (arith, h, form_more product states rules more new form [] (record { distinct = tt; least = λ r m. absurd m }))

-- where the answer is TooMany, its reason in place of another
pub if_many : (e : NormalError) (limit : ℕ) (P Q : Type 0) → (P → Q) → IfTooMany e limit P → IfTooMany e limit Q
if_many (TooMany n) limit P Q f h = (h.0, f h.1)
if_many OutOfMemory limit P Q f h = tt
