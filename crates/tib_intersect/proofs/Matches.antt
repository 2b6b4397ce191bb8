-- The positions of the rules that pass a test, and of those that a rule agrees with.
use Rattle.std.specs.Prelude.{◌≡◌, ℕ, ◌+◌, ◌-◌, ◌<◌, ◌≤◌, nat_eq, Bool, true, false, List, [], ◌∷◌, ◌++◌, length, map, take, filter, if◌then◌else◌, refl}
use Rattle.std.proofs.Common.{zero, suc, arith, ap, sym, ◌∙◌, subst, get_or, inl, inr}
use Rattle.std.proofs.lemmas.Bool.Decides.{nat_tests}
use Rattle.std.proofs.lemmas.List.{take_more, take_all, get_or_read}
use Rattle.tib_lex.specs.Lists.{Has, Each, Distinct, Along}
use Rattle.tib_tree.specs.Trees.{count}
use Rattle.tib_grammar.specs.Sides.{Symbol, label, is_label}
use Rattle.tib_grammar.specs.Run.{rule_at, no_rule}
use Rattle.tib_grammar.specs.Forms.{AreNormal, IsNormalSide}
use Rattle.tib_grammar.specs.declared.Rule.{Rule}
use Rattle.tib_normal.specs.Rules.{rules_from}
use Rattle.tib_key_edges.specs.Places.{places_from, positions_with}
use Rattle.tib_key_edges.proofs.Places.{places_are, place_is, is_place, places_once}
use Rattle.tib_intersect.specs.declared.listing.PairListing.{PairListing}
use Rattle.tib_key_edges.specs.Ends.{key_at as pair_at}
use Rattle.tib_intersect.specs.PairEdges.{IsPairEdge}
use Rattle.tib_intersect.specs.PairRules.{Reads}
use Rattle.tib_intersect.specs.Matching.{has_shape}
use Rattle.tib_intersect.specs.PairListing.{states_of, Agree, IsListed, Stands, AreListedFrom}
use Rattle.tib_lex.proofs.Booleans.{and-true, and-both}
use Rattle.tib_lex.proofs.Numbers.{nat_eq-true, nat_eq-same}
use Rattle.tib_lex.proofs.Members.{each_of, has_at, has_left, has_right, has_either}
use Rattle.tib_lex.proofs.Places.{not_before}
use Rattle.tib_grammar.proofs.Sides.{length-holes, one_label, is_label-true, is_label_cases, is_label-same}

module _ (test : Rule ℕ → Bool) where
  -- the rules that pass are those at these positions
  pub passing-length : (rules : List (Rule ℕ)) (k : ℕ) → length (filter test rules) ≡ length (places_from k test rules)
  passing-length [] k = refl
  passing-length (r ∷ rules) k = step (passing-length rules (suc k)) (test r)
    where
      step : length (filter test rules) ≡ length (places_from (suc k) test rules) → (b : Bool) → length (if b then r ∷ filter test rules else filter test rules) ≡ length (if b then k ∷ places_from (suc k) test rules else places_from (suc k) test rules)
      step later true = ap suc later
      step later false = later

  -- the rule at a listed position passes the test
  pub passing-at :
      (rules : List (Rule ℕ)) (k m : ℕ) → m < length (places_from k test rules) →
      get_or (filter test rules) m no_rule ≡ get_or rules (get_or (places_from k test rules) m 0 - k) no_rule
  passing-at [] k m h = absurd (omega arith)
  passing-at (r ∷ rules) k m h = step (λ m h. later m h (passing-at rules (suc k) m h)) (test r) m h
    where
      later :
          (m : ℕ) → m < length (places_from (suc k) test rules) →
          get_or (filter test rules) m no_rule ≡ get_or rules (get_or (places_from (suc k) test rules) m 0 - suc k) no_rule →
          get_or (filter test rules) m no_rule ≡ get_or (r ∷ rules) (get_or (places_from (suc k) test rules) m 0 - k) no_rule
      later m h ih =
          let p : ℕ = get_or (places_from (suc k) test rules) m 0 in
          let there = places_are test (suc k) rules p no_rule (has_at (places_from (suc k) test rules) m 0 h) in
          let at : suc k ≤ p = omega (arith, there.1) in
          let e : p - k ≡ suc (p - suc k) = omega (arith, at) in
          ih ∙ ap (λ j. get_or (r ∷ rules) j no_rule) (sym e)

      step :
          ((m : ℕ) → m < length (places_from (suc k) test rules) → get_or (filter test rules) m no_rule ≡ get_or (r ∷ rules) (get_or (places_from (suc k) test rules) m 0 - k) no_rule) →
          (b : Bool) (m : ℕ) → m < length (if b then k ∷ places_from (suc k) test rules else places_from (suc k) test rules) →
          get_or (if b then r ∷ filter test rules else filter test rules) m no_rule
          ≡ get_or (r ∷ rules) (get_or (if b then k ∷ places_from (suc k) test rules else places_from (suc k) test rules) m 0 - k) no_rule
      step more true zero h =
          let z : k - k ≡ 0 = omega arith in
          ap (λ j. get_or (r ∷ rules) j no_rule) (sym z)
      step more true (suc m) h = more m (omega arith)
      step more false m h = more m h

pub record IsOfShape (s : ℕ × ℕ × ℕ) (r : Rule ℕ) : Type 0 where
  pub left : r.left ≡ s.0
  pub root : r.right.label ≡ label s.1
  pub many : count r.right.kids ≡ s.2

of_shape : (s : ℕ × ℕ × ℕ) (r : Rule ℕ) → has_shape s r ≡ true → IsOfShape s r
of_shape s r e =
    let outer = and-true _ _ e in
    let inner = and-true _ _ outer.0 in
    record { left = nat_eq-true r.left s.0 inner.0; root = is_label-true s.1 r.right.label inner.1; many = nat_eq-true (count r.right.kids) s.2 outer.1 }

shape_of : (s : ℕ × ℕ × ℕ) (r : Rule ℕ) → IsOfShape s r → has_shape s r ≡ true
shape_of s r h = and-both _ _ (and-both _ _ (nat_eq-same r.left s.0 h.left) (is_label-same s.1 r.right.label h.root)) (nat_eq-same (count r.right.kids) s.2 h.many)

-- a rule at a position of a shape
pub place_of_shape : (rules : List (Rule ℕ)) (s : ℕ × ℕ × ℕ) (p : ℕ) → Has (positions_with has_shape s rules) p → (p < length rules) × IsOfShape s (rule_at rules p)
place_of_shape rules s p h =
    let at = place_is (has_shape s) rules p no_rule h in
    (at.0, of_shape s (rule_at rules p) at.1)

-- a rule of the shape has its position listed
pub has_place_of_shape : (rules : List (Rule ℕ)) (s : ℕ × ℕ × ℕ) (p : ℕ) → p < length rules → IsOfShape s (rule_at rules p) → Has (positions_with has_shape s rules) p
has_place_of_shape rules s p h is = is_place (has_shape s) rules p no_rule h (shape_of s (rule_at rules p) is)

-- the rules of a state, and their positions
abbrev pub positions_of : ℕ → List (Rule ℕ) → List ℕ
positions_of q rules = places_from 0 (λ (r : Rule ℕ). nat_eq r.left q) rules

-- as many rules of a state as positions
pub rules_from-length : (q : ℕ) (rules : List (Rule ℕ)) → length (rules_from q rules) ≡ length (positions_of q rules)
rules_from-length q rules = passing-length (λ r. nat_eq r.left q) rules 0

-- the rule at each of these positions
pub rules_from-at : (q : ℕ) (rules : List (Rule ℕ)) (m : ℕ) → m < length (positions_of q rules) → get_or (rules_from q rules) m no_rule ≡ rule_at rules (get_or (positions_of q rules) m 0)
rules_from-at q rules m h =
    let z : get_or (positions_of q rules) m 0 - 0 ≡ get_or (positions_of q rules) m 0 = omega arith in
    passing-at (λ r. nat_eq r.left q) rules 0 m h ∙ ap (λ j. get_or rules j no_rule) z

-- the rule at place m of those of a state
pub record IsRuleOf (q : ℕ) (rules : List (Rule ℕ)) (m : ℕ) (r : Rule ℕ) : Type 0 where
  pub place : m < length (positions_of q rules)
  pub below : get_or (positions_of q rules) m 0 < length rules
  pub is : r ≡ rule_at rules (get_or (positions_of q rules) m 0)
  pub left : r.left ≡ q

-- which rule of the grammar a rule of the state is
pub rule_of : (q : ℕ) (rules : List (Rule ℕ)) (m : ℕ) (r : Rule ℕ) → m < length (rules_from q rules) → r ≡ get_or (rules_from q rules) m no_rule → IsRuleOf q rules m r
rule_of q rules m r h e =
    let place : m < length (positions_of q rules) = omega (arith, rules_from-length q rules) in
    let p : ℕ = get_or (positions_of q rules) m 0 in
    let at = place_is (λ (r : Rule ℕ). nat_eq r.left q) rules p no_rule (has_at (positions_of q rules) m 0 place) in
    let is : r ≡ rule_at rules p = e ∙ rules_from-at q rules m place in
    record {
      place = place;
      below = at.0;
      is = is;
      left = ap (λ (r : Rule ℕ). r.left) is ∙ nat_eq-true (rule_at rules p).left q at.1;
    }

-- the matches of a rule
module _ (twos : List (Rule ℕ)) (two_normal : AreNormal twos) (q f rank : ℕ) (one : Rule ℕ) (normal : IsNormalSide one.right) (root : one.right.label ≡ label f) (many : rank ≡ count one.right.kids) where
  -- each match agrees with the rule
  pub matches_agree : Each (λ j. (j < length twos) × Agree one (rule_at twos j)) (positions_with has_shape (q, f, rank) twos)
  matches_agree = each_of (λ j. (j < length twos) × Agree one (rule_at twos j)) (positions_with has_shape (q, f, rank) twos) (λ j h.
      let at = place_of_shape twos (q, f, rank) j h in (
        at.0,
        record {
          root = root ∙ sym at.1.root;
          rank = omega (arith, length-holes one.right.kids normal.are_holes, length-holes (rule_at twos j).right.kids (two_normal j at.0).are_holes, at.1.many);
        },
      ))

  -- each match leads from the second state
  pub matches_left : (j : ℕ) → Has (positions_with has_shape (q, f, rank) twos) j → (rule_at twos j).left ≡ q
  matches_left j h = (place_of_shape twos (q, f, rank) j h).1.left

  -- each edge with a rule has its other rule among the matches
  pub edge_matches :
      (product : ℕ → ℕ → ℕ) (ones : List (Rule ℕ)) (key o : ℕ × ℕ) (e : Rule (ℕ × ℕ)) → key.1 ≡ q → one ≡ rule_at ones o.0 → IsPairEdge product ones twos key o e →
      Has (positions_with has_shape (q, f, rank) twos) o.1
  edge_matches product ones key o e second is edge =
      let same : edge.root ≡ f = one_label edge.root f (rule_at ones o.0).right.label edge.first_root (ap (λ (r : Rule ℕ). r.right.label) (sym is) ∙ root) in
      has_place_of_shape twos (q, f, rank) o.1 edge.second (record {
        left = sym (ap (λ (k : ℕ × ℕ). k.1) edge.from) ∙ second;
        root = edge.second_root ∙ ap label same;
        many = omega (
          arith,
          length-holes (rule_at twos o.1).right.kids (two_normal o.1 edge.second).are_holes,
          edge.rank,
          ap (λ (r : Rule ℕ). length (states_of r)) is,
          length-holes one.right.kids normal.are_holes,
          many,
        );
      })

-- the edges with the rules at these positions of the first grammar are listed
pub record AreListedFor (product : ℕ → ℕ → ℕ) (ones twos : List (Rule ℕ)) (order : List (ℕ × ℕ)) (n : ℕ) (firsts : List ℕ) (l : PairListing) : Type 0 where
  pub tried : List (ℕ × ℕ)
  pub listed : IsListed product ones twos order n tried l
  pub among : (o : ℕ × ℕ) → Has tried o → Has firsts o.0
  pub all : (o : ℕ × ℕ) (e : Rule (ℕ × ℕ)) → Has firsts o.0 → IsPairEdge product ones twos (pair_at order n) o e → Has tried o

has_pair : (i j : ℕ) (js : List ℕ) → Has js j → Has {A = ℕ × ℕ} (map (λ j. (i, j)) js) (i, j)
has_pair i j [] h = h
has_pair i j (k ∷ js) h = elim h [ inl e ↦ inl (ap (λ z. (i, z)) e) | inr m ↦ inr (has_pair i j js m) ]

pair_first : (i : ℕ) (o : ℕ × ℕ) (js : List ℕ) → Has {A = ℕ × ℕ} (map (λ j. (i, j)) js) o → i ≡ o.0
pair_first i o [] h = absurd h
pair_first i o (k ∷ js) h = elim h [ inl e ↦ ap (λ (z : ℕ × ℕ). z.0) e | inr m ↦ pair_first i o js m ]

-- one rule of the first grammar more
pub listed_more :
    (product : ℕ → ℕ → ℕ) (ones twos : List (Rule ℕ)) (order : List (ℕ × ℕ)) (n i : ℕ) (firsts matches : List ℕ) (l m : PairListing) (before : AreListedFor product ones twos order n firsts l) →
    IsListed product ones twos order n (before.tried ++ map (λ j. (i, j)) matches) m →
    ((o : ℕ × ℕ) (e : Rule (ℕ × ℕ)) → i ≡ o.0 → IsPairEdge product ones twos (pair_at order n) o e → Has matches o.1) →
    AreListedFor product ones twos order n (firsts ++ i ∷ []) m
listed_more product ones twos order n i firsts matches l m before listed found = record {
  tried = before.tried ++ map (λ j. (i, j)) matches;
  listed = listed;
  among = λ o h. elim (has_either before.tried (map (λ j. (i, j)) matches) o h) [
    | inl k ↦ has_left firsts (i ∷ []) o.0 (before.among o k)
    | inr k ↦ has_right firsts (i ∷ []) o.0 (inl (pair_first i o matches k))
  ];
  all = λ o e h edge. elim (has_either firsts (i ∷ []) o.0 h) [
    | inl k ↦ has_left before.tried (map (λ j. (i, j)) matches) o (before.all o e k edge)
    | inr k ↦ has_right before.tried (map (λ j. (i, j)) matches) o (elim k [
      | inl same ↦ subst (λ z. Has {A = ℕ × ℕ} (map (λ j. (i, j)) matches) (z, o.1)) same (has_pair i o.1 matches (found o e same edge))
      | inr nothing ↦ absurd nothing
    ])
  ];
}

-- which rule of the grammar comes next
pub rule_in : (q : ℕ) (rules : List (Rule ℕ)) (m s : ℕ) (r : Rule ℕ) (xs : List (Rule ℕ)) → xs ≡ rules_from s rules → s ≡ q → m < length xs → r ≡ get_or xs m r → IsRuleOf q rules m r
rule_in q rules m s r xs are same h e =
    let is : xs ≡ rules_from q rules = are ∙ ap (λ z. rules_from z rules) same in
    rule_of q rules m r (subst (λ (ys : List (Rule ℕ)). m < length ys) is h) (get_or_read xs m r h e no_rule ∙ ap (λ (ys : List (Rule ℕ)). get_or ys m no_rule) is)

-- the rule is in normal form
pub rule_normal : (q : ℕ) (rules : List (Rule ℕ)) (m : ℕ) (r : Rule ℕ) → AreNormal rules → IsRuleOf q rules m r → IsNormalSide r.right
rule_normal q rules m r normal rule = subst (λ (x : Rule ℕ). IsNormalSide x.right) (sym rule.is) (normal (get_or (positions_of q rules) m 0) rule.below)

-- the matches of the index are those of the shape
pub matches_fit :
    (others : List (Rule ℕ)) (matches : List ℕ) (t f rank : ℕ) (one : Rule ℕ) → AreNormal others → IsNormalSide one.right → one.right.label ≡ label f → rank ≡ count one.right.kids →
    matches ≡ positions_with has_shape (t, f, rank) others → Each (λ j. (j < length others) × Agree one (rule_at others j)) matches
matches_fit others matches t f rank one others_normal normal root many are =
    subst (Each (λ j. (j < length others) × Agree one (rule_at others j))) (sym are) (matches_agree others others_normal t f rank one normal root many)

-- the matches are distinct
pub matches_distinct : (others : List (Rule ℕ)) (matches : List ℕ) (t f rank : ℕ) → matches ≡ positions_with has_shape (t, f, rank) others → Distinct matches
matches_distinct others matches t f rank are = subst Distinct (sym are) (places_once (has_shape (t, f, rank)) others no_rule)

-- the rule at place m of those of the first state, and its matches
module _
    (product : ℕ → ℕ → ℕ) (ones others : List (Rule ℕ)) (order : List (ℕ × ℕ)) (n m : ℕ) (key : ℕ × ℕ) (one : Rule ℕ) (matches : List ℕ) (t f rank : ℕ)
    (rule : IsRuleOf key.0 ones m one) (normal : IsNormalSide one.right) (others_normal : AreNormal others) (root : one.right.label ≡ label f) (many : rank ≡ count one.right.kids)
    (state : t ≡ key.1) (are : matches ≡ positions_with has_shape (t, f, rank) others) (within : n < length order) (at : pair_at order n ≡ key) where
  -- the rule and its matches lead from the pair
  pub stands_here : Stands ones others order (get_or (positions_of key.0 ones) m 0) n one matches
  stands_here = record {
    below = rule.below;
    is = rule.is;
    within = within;
    first = ap (λ (k : ℕ × ℕ). k.0) at ∙ sym rule.left;
    second = λ j h.
        matches_left others others_normal t f rank one normal root many j (subst (λ (js : List ℕ). Has js j) are h)
        ∙ state
        ∙ sym (ap (λ (k : ℕ × ℕ). k.1) at);
  }

  -- no origin of the rule was tried
  pub fresh_here :
      (l : PairListing) (before : AreListedFor product ones others order n (take m (positions_of key.0 ones)) l) (j : ℕ) →
      Has before.tried (get_or (positions_of key.0 ones) m 0, j) → ⊥
  fresh_here l before j h =
      not_before (positions_of key.0 ones) m 0 (places_once (λ (r : Rule ℕ). nat_eq r.left key.0) ones no_rule) rule.place (before.among (get_or (positions_of key.0 ones) m 0, j) h)

  -- what is listed before the rule
  pub listed_here :
      (l k : PairListing) (before : AreListedFor product ones others order n (take m (positions_of key.0 ones)) l) →
      IsListed product ones others order n (before.tried ++ map (λ j. (get_or (positions_of key.0 ones) m 0, j)) matches) k →
      AreListedFor product ones others order n (take (m + 1) (positions_of key.0 ones)) k
  listed_here l k before listed =
      let i : ℕ = get_or (positions_of key.0 ones) m 0 in
      subst (λ (firsts : List ℕ). AreListedFor product ones others order n firsts k) (sym (take_more (positions_of key.0 ones) m 0 rule.place))
      (listed_more product ones others order n i (take m (positions_of key.0 ones)) matches l k before listed
      (λ o e same edge.
      subst (λ (js : List ℕ). Has js o.1) (sym are)
      (edge_matches others others_normal t f rank one normal root many product ones (pair_at order n) o e (ap (λ (x : ℕ × ℕ). x.1) at ∙ sym state) (rule.is ∙ ap (rule_at ones) same) edge)))

-- all rules of the first state
pub listed_all :
    (product : ℕ → ℕ → ℕ) (ones twos : List (Rule ℕ)) (order : List (ℕ × ℕ)) (n m s : ℕ) (key : ℕ × ℕ) (l : PairListing) (xs : List (Rule ℕ)) → xs ≡ rules_from s ones → s ≡ key.0 → length xs ≤ m →
    pair_at order n ≡ key → AreListedFor product ones twos order n (take m (positions_of key.0 ones)) l → AreListedFrom product ones twos order n l
listed_all product ones twos order n m s key l xs are same h at listed =
    let all : take m (positions_of key.0 ones) ≡ positions_of key.0 ones =
    take_all m (positions_of key.0 ones) (omega (arith, ap (λ (ys : List (Rule ℕ)). length ys) (are ∙ ap (λ z. rules_from z ones) same), rules_from-length key.0 ones, h))
    in
    record {
      tried = listed.tried;
      listed = listed.listed;
      all = λ o e edge. listed.all o e
          (subst (λ (js : List ℕ). Has js o.0) (sym all)
          (has_first o e edge))
          edge;
    }
  where
    has_first : (o : ℕ × ℕ) (e : Rule (ℕ × ℕ)) → IsPairEdge product ones twos (pair_at order n) o e → Has (positions_of key.0 ones) o.0
    has_first o e edge =
        let left : (rule_at ones o.0).left ≡ key.0 = sym (ap (λ (k : ℕ × ℕ). k.0) edge.from) ∙ ap (λ (k : ℕ × ℕ). k.0) at in
        is_place (λ (r : Rule ℕ). nat_eq r.left key.0) ones o.0 no_rule edge.first (nat_eq-same (rule_at ones o.0).left key.0 left)

-- an empty list
pub listed_none :
    (product : ℕ → ℕ → ℕ) (ones twos : List (Rule ℕ)) (order : List (ℕ × ℕ)) (n q : ℕ) (l : PairListing) → length l.ends.items ≡ 0 → length l.rules.items ≡ 0 → l.parts ≡ 0 →
    AreListedFor product ones twos order n (take 0 (positions_of q ones)) l
listed_none product ones twos order n q l ends rules parts =
    let no_ends = empty l.ends.items ends in
    let no_rules = empty l.rules.items rules in
    record {
      tried = [];
      listed = record {
        origins = [];
        edges = [];
        once = tt;
        given = tt;
        were_tried = λ o h. h;
        whole = λ o e h d. h;
        read = subst (λ rs. Along (Reads order l.ends.items) rs []) (sym no_rules) tt;
        ends_are = no_ends;
        counted = parts;
      };
      among = λ o h. absurd h;
      all = λ o e h d. absurd h;
    }
  where
    empty : {A : Type 0} (xs : List A) → length xs ≡ 0 → xs ≡ []
    empty [] e = refl
    empty (x ∷ xs) e = absurd (omega arith)
