-- The walk over child places finds what some rule matches.
use Rattle.std.specs.Prelude.{◌≡◌, ℕ, ◌<◌, ◌≤◌, ◌⊎◌, List, [], ◌∷◌, length, map, Bool, true, false, nat_eq, if◌then◌else◌, refl}
use Rattle.std.proofs.Common.{zero, suc, arith, ap, sym, ◌∙◌, subst, inl, inr}
use Rattle.std.proofs.lemmas.Bool.{cases_lt}
use Rattle.tib_lex.specs.Lists.{Has, Each, Distinct}
use Rattle.tib_lex.proofs.Numbers.{nat_eq_cases}
use Rattle.tib_lex.proofs.Lists.{has_mapped, mapped_has}
use Rattle.tib_grammar.specs.Sides.{Symbol, label, hole, holes}
use Rattle.tib_grammar.specs.Run.{rule_at}
use Rattle.tib_grammar.specs.declared.Rule.{Rule}
use Rattle.tib_grammar.proofs.Members.{each_of, has_left, has_right, has_either}
use Rattle.tib_determinize.specs.Vectors.{VectorOf, vector_at, vectors_at}
use Rattle.tib_determinize.specs.Candidates.{AreHeld, HasMatch, IsCandidate, AreMatched, holds, alive, at_each, at_last, walks, is_root, states_over, tagged, candidates, walks_first, walks_by_first, candidates_by_first, AreShapes}
use Rattle.tib_expand.proofs.Members.{distinct_append}

-- lists

head_is : (p q : ℕ) (ps qs : List ℕ) → ◌≡◌ {A = List ℕ} (p ∷ ps) (q ∷ qs) → p ≡ q
head_is p q ps qs e = cc

tail_is : (p q : ℕ) (ps qs : List ℕ) → ◌≡◌ {A = List ℕ} (p ∷ ps) (q ∷ qs) → ps ≡ qs
tail_is p q ps qs e = cc

map_once : {A B : Type 0} (f : A → B) → ((x y : A) → f x ≡ f y → x ≡ y) → (xs : List A) → Distinct xs → Distinct (map f xs)
map_once f apart [] d = tt
map_once f apart (x ∷ xs) d = (λ h. let r = has_mapped f xs (f x) h in d.0 (subst (Has xs) (apart r.0 x r.2) r.1), map_once f apart xs d.1)

-- the rules that are alive

holds_cases : (v : VectorOf) (q : ℕ) → (((r : ℕ) × Has {A = ℕ × ℕ} v (q, r)) × (holds v q ≡ true)) ⊎ (((r : ℕ) → Has {A = ℕ × ℕ} v (q, r) → ⊥) × (holds v q ≡ false))
holds_cases [] q = inr (λ r h. h, refl)
holds_cases (x ∷ v) q = elim (nat_eq_cases x.0 q) [
  | inl k ↦ inl ((x.1, inl (ap (λ z. (z, x.1)) k.0)), rw k.1)
  | inr k ↦ elim (holds_cases v q) [
    | inl h ↦ inl ((h.0.0, inr h.0.1), rw k.1 h.1)
    | inr h ↦ inr (λ r m. elim m [ inl e ↦ k.0 (ap (λ (z : ℕ × ℕ). z.0) e) | inr d ↦ h.0 r d ], rw k.1 h.1)
  ]
]

record IsAlive (v : VectorOf) (rules : List (List ℕ)) (qs : List ℕ) : Type 0 where
  state : ℕ
  residual : ℕ
  held : Has {A = ℕ × ℕ} v (state, residual)
  stands : Has rules (state ∷ qs)

later : (v : VectorOf) (rs : List ℕ) (rules : List (List ℕ)) (qs : List ℕ) → IsAlive v rules qs → IsAlive v (rs ∷ rules) qs
later v rs rules qs a = record { state = a.state; residual = a.residual; held = a.held; stands = inr a.stands }

alive_back : (v : VectorOf) (rules : List (List ℕ)) (qs : List ℕ) → Has (alive v rules) qs → IsAlive v rules qs
alive_back v [] qs h = absurd h
alive_back v ([] ∷ rules) qs h = later v [] rules qs (alive_back v rules qs h)
alive_back v ((q ∷ rs) ∷ rules) qs h = elim (holds_cases v q) [
  | inl k ↦
      let h' : Has (rs ∷ alive v rules) qs = rw k.1 at h in
      elim h' [
        | inl e ↦ record { state = q; residual = k.0.0; held = k.0.1; stands = inl (ap (λ (l : List ℕ). q ∷ l) e) }
        | inr m ↦ later v (q ∷ rs) rules qs (alive_back v rules qs m)
      ]
  | inr k ↦
      let h' : Has (alive v rules) qs = rw k.1 at h in
      later v (q ∷ rs) rules qs (alive_back v rules qs h')
]

alive_to : (v : VectorOf) (rules : List (List ℕ)) (q r : ℕ) (qs : List ℕ) → Has {A = ℕ × ℕ} v (q, r) → Has rules (q ∷ qs) → Has (alive v rules) qs
alive_to v [] q r qs s h = absurd h
alive_to v ([] ∷ rules) q r qs s h = elim h [ inl e ↦ absurd (cc) | inr k ↦ alive_to v rules q r qs s k ]
alive_to v ((p ∷ rs) ∷ rules) q r qs s h = elim (holds_cases v p) [
  | inl k ↦ rw k.1 (elim h [ inl e ↦ inl (tail_is p q rs qs e) | inr m ↦ inr (alive_to v rules q r qs s m) ])
  | inr k ↦ rw k.1 (elim h [
    | inl e ↦ absurd (k.0 r (subst (λ (z : ℕ). Has {A = ℕ × ℕ} v (z, r)) (sym (head_is p q rs qs e)) s))
    | inr m ↦ alive_to v rules q r qs s m
  ])
]

-- what is listed for each position

record IsAt (g : ℕ → List (List ℕ)) (m : ℕ) (ps : List ℕ) : Type 0 where
  first : ℕ
  rest : List ℕ
  is : ps ≡ first ∷ rest
  below : first < m
  stands : Has (g first) rest

at_each_back : (g : ℕ → List (List ℕ)) (m : ℕ) (ps : List ℕ) → Has (at_each g m) ps → IsAt g m ps
at_each_back g zero ps h = absurd h
at_each_back g (suc m) ps h = elim (has_either (at_each g m) (map (λ (l : List ℕ). m ∷ l) (g m)) ps h) [
  | inl k ↦ let a = at_each_back g m ps k in record { first = a.first; rest = a.rest; is = a.is; below = (let low = a.below in omega arith); stands = a.stands }
  | inr k ↦ let r = has_mapped (λ (l : List ℕ). m ∷ l) (g m) ps k in record { first = m; rest = r.0; is = sym r.2; below = omega arith; stands = r.1 }
]

at_each_to : (g : ℕ → List (List ℕ)) (m p : ℕ) (ps : List ℕ) → p < m → Has (g p) ps → Has (at_each g m) (p ∷ ps)
at_each_to g zero p ps h k = absurd (omega arith)
at_each_to g (suc m) p ps h k = elim (cases_lt p m) [
  | inl low ↦ has_left (at_each g m) (map (λ (l : List ℕ). m ∷ l) (g m)) (p ∷ ps) (at_each_to g m p ps low k)
  | inr high ↦
      let same : m ≡ p = omega arith in
      has_right (at_each g m) (map (λ (l : List ℕ). m ∷ l) (g m)) (p ∷ ps)
      (subst (λ (z : ℕ). Has (map (λ (l : List ℕ). m ∷ l) (g m)) (z ∷ ps)) same (mapped_has (λ (l : List ℕ). m ∷ l) (g m) ps (subst (λ (z : ℕ). Has (g z) ps) (sym same) k)))
]

at_each_once : (g : ℕ → List (List ℕ)) (m : ℕ) → ((p : ℕ) → Distinct (g p)) → Distinct (at_each g m)
at_each_once g zero d = tt
at_each_once g (suc m) d =
    distinct_append (at_each g m) (map (λ (l : List ℕ). m ∷ l) (g m)) (at_each_once g m d) (map_once (λ (l : List ℕ). m ∷ l) (λ x y e. tail_is m m x y e) (g m) (d m))
    (λ ps h k.
    let a = at_each_back g m ps h in
    let r = has_mapped (λ (l : List ℕ). m ∷ l) (g m) ps k in
    let same : a.first ≡ m = head_is a.first m a.rest r.0 (sym a.is ∙ sym r.2) in
    let low = a.below in
    omega arith)

-- the walk

module _ (order : List VectorOf) (n : ℕ) where
  -- k positions up to n that some rule matches, and in which n is, unless it was seen before
  record IsWalk (k : ℕ) (seen : Bool) (rules : List (List ℕ)) (ps : List ℕ) : Type 0 where
    long : length ps ≡ k
    up_to : Each (λ p. p ≤ n) ps
    stands : (seen ≡ true) ⊎ Has ps n
    states : List ℕ
    rule : Has rules states
    held : AreHeld states (vectors_at order ps)

  abbrev saw : ℕ → Bool → Bool
  saw p seen = if nat_eq p n then true else seen

  abbrev AreLong : ℕ → List (List ℕ) → Type 0
  AreLong k rules = (qs : List ℕ) → Has rules qs → length qs ≡ k

  alive_long : (k : ℕ) (v : VectorOf) (rules : List (List ℕ)) → AreLong (suc k) rules → AreLong k (alive v rules)
  alive_long k v rules long qs h = let a = alive_back v rules qs h in let l = long (a.state ∷ qs) a.stands in omega arith

  none_held : (qs : List ℕ) → length qs ≡ 0 → AreHeld qs []
  none_held [] e = tt
  none_held (q ∷ qs) e = absurd (omega arith)

  last_back : (seen : Bool) (rules : List (List ℕ)) (ps : List ℕ) → AreLong zero rules → Has (at_last seen rules) ps → IsWalk zero seen rules ps
  last_back seen [] ps long h = absurd h
  last_back false (qs ∷ rules) ps long h = absurd h
  last_back true (qs ∷ rules) ps long h = elim h [
    | inr k ↦ absurd k
    | inl e ↦ subst (IsWalk zero true (qs ∷ rules)) e (record {
      long = refl;
      up_to = tt;
      stands = inl refl;
      states = qs;
      rule = inl refl;
      held = none_held qs (long qs (inl refl));
    })
  ]

  walk_back : (k : ℕ) (seen : Bool) (rules : List (List ℕ)) (ps : List ℕ) → AreLong k rules → Has (walks order n k seen rules) ps → IsWalk k seen rules ps
  walk_back zero seen rules ps long h = last_back seen rules ps long h
  walk_back (suc k) seen rules ps long h =
      let a = at_each_back (λ p. walks order n k (saw p seen) (alive (vector_at order p) rules)) (suc n) ps h in
      let w = walk_back k (saw a.first seen) (alive (vector_at order a.first) rules) a.rest (alive_long k (vector_at order a.first) rules long) a.stands in
      let b = alive_back (vector_at order a.first) rules w.states w.rule in
      subst (IsWalk (suc k) seen rules) (sym a.is) (record {
        long = ap suc w.long;
        up_to = ((let low = a.below in omega arith), w.up_to);
        stands = elim w.stands [
          | inr m ↦ inr (inr m)
          | inl e ↦ elim (nat_eq_cases a.first n) [
            | inl y ↦ inr (inl y.0)
            | inr y ↦ let e' : seen ≡ true = rw y.1 at e in inl e'
          ]
        ];
        states = b.state ∷ w.states;
        rule = b.stands;
        held = ((b.residual, b.held), w.held);
      })

  last_to : (seen : Bool) (rules : List (List ℕ)) (qs : List ℕ) → seen ≡ true → Has rules qs → Has {A = List ℕ} (at_last seen rules) []
  last_to seen [] qs e h = absurd h
  last_to seen (rs ∷ rules) qs e h = rw e (inl refl)

  walk_to : (k : ℕ) (seen : Bool) (rules : List (List ℕ)) (ps : List ℕ) → IsWalk k seen rules ps → Has (walks order n k seen rules) ps
  walk_to zero seen rules [] w = elim w.stands [ inl e ↦ last_to seen rules w.states e w.rule | inr h ↦ absurd h ]
  walk_to zero seen rules (p ∷ ps) w = absurd (let l = w.long in omega arith)
  walk_to (suc k) seen rules [] w = absurd (let l = w.long in omega arith)
  walk_to (suc k) seen rules (p ∷ ps) w = by (λ more. walk_to k (saw p seen) (alive (vector_at order p) rules) ps more) w.states w.rule w.held
    where
      by :
          (IsWalk k (saw p seen) (alive (vector_at order p) rules) ps → Has (walks order n k (saw p seen) (alive (vector_at order p) rules)) ps) →
          (states : List ℕ) → Has rules states → AreHeld states (vectors_at order (p ∷ ps)) → Has (walks order n (suc k) seen rules) (p ∷ ps)
      by again [] h held = absurd held
      by again (q ∷ qs) h held =
          at_each_to (λ z. walks order n k (saw z seen) (alive (vector_at order z) rules)) (suc n) p ps (let low = w.up_to.0 in omega arith)
          (again (record {
            long = (let l = w.long in omega arith);
            up_to = w.up_to.1;
            stands = elim (nat_eq_cases p n) [
              | inl y ↦ inl (rw y.1)
              | inr y ↦ elim w.stands [
                | inl e ↦ inl (rw y.1 e)
                | inr m ↦ elim m [ inl d ↦ absurd (y.0 d) | inr d ↦ inr d ]
              ]
            ];
            states = qs;
            rule = alive_to (vector_at order p) rules q held.0.0 qs held.0.1 h;
            held = held.1;
          }))

  last_once : (seen : Bool) (rules : List (List ℕ)) → Distinct (at_last seen rules)
  last_once seen [] = tt
  last_once true (qs ∷ rules) = (λ h. h, tt)
  last_once false (qs ∷ rules) = tt

  walk_once : (k : ℕ) (seen : Bool) (rules : List (List ℕ)) → Distinct (walks order n k seen rules)
  walk_once zero seen rules = last_once seen rules
  walk_once (suc k) seen rules =
      at_each_once (λ p. walks order n k (saw p seen) (alive (vector_at order p) rules)) (suc n) (λ p. walk_once k (saw p seen) (alive (vector_at order p) rules))

  -- candidates

  is_root_cases : (s : Symbol ℕ ℕ) (f : ℕ) → ((s ≡ label f) × (is_root s f ≡ true)) ⊎ ((s ≡ label f → ⊥) × (is_root s f ≡ false))
  is_root_cases (label g) f = elim (nat_eq_cases g f) [ inl h ↦ inl (ap label h.0, h.1) | inr h ↦ inr (λ e. h.0 (cc e), h.1) ]
  is_root_cases (hole p) f = inr (λ e. cc, refl)

  states_long : (rules : List (Rule ℕ)) (f k : ℕ) → AreLong k (states_over rules f k)
  states_long [] f k qs h = absurd h
  states_long (r ∷ rules) f k qs h = elim (is_root_cases r.right.label f) [
    | inr y ↦ let h' : Has (states_over rules f k) qs = rw y.1 at h in states_long rules f k qs h'
    | inl y ↦ elim (nat_eq_cases (length (holes r.right.kids)) k) [
      | inr z ↦ let h' : Has (states_over rules f k) qs = rw (y.1, z.1) at h in states_long rules f k qs h'
      | inl z ↦
          let h' : Has (holes r.right.kids ∷ states_over rules f k) qs = rw (y.1, z.1) at h in
          elim h' [ inl e ↦ ap length (sym e) ∙ z.0 | inr m ↦ states_long rules f k qs m ]
    ]
  ]

  -- a rule of the label f over these states
  record IsRuleOver (rules : List (Rule ℕ)) (f : ℕ) (qs : List ℕ) : Type 0 where
    place : ℕ
    below : place < length rules
    root : (rule_at rules place).right.label ≡ label f
    holes_are : holes (rule_at rules place).right.kids ≡ qs

  one_more : (r : Rule ℕ) (rules : List (Rule ℕ)) (f : ℕ) (qs : List ℕ) → IsRuleOver rules f qs → IsRuleOver (r ∷ rules) f qs
  one_more r rules f qs i = record { place = suc i.place; below = (let low = i.below in omega arith); root = i.root; holes_are = i.holes_are }

  states_back : (rules : List (Rule ℕ)) (f k : ℕ) (qs : List ℕ) → Has (states_over rules f k) qs → IsRuleOver rules f qs
  states_back [] f k qs h = absurd h
  states_back (r ∷ rules) f k qs h = elim (is_root_cases r.right.label f) [
    | inr y ↦ let h' : Has (states_over rules f k) qs = rw y.1 at h in one_more r rules f qs (states_back rules f k qs h')
    | inl y ↦ elim (nat_eq_cases (length (holes r.right.kids)) k) [
      | inr z ↦ let h' : Has (states_over rules f k) qs = rw (y.1, z.1) at h in one_more r rules f qs (states_back rules f k qs h')
      | inl z ↦
          let h' : Has (holes r.right.kids ∷ states_over rules f k) qs = rw (y.1, z.1) at h in
          elim h' [
            | inl e ↦ record { place = 0; below = omega arith; root = y.0; holes_are = e }
            | inr m ↦ one_more r rules f qs (states_back rules f k qs m)
          ]
    ]
  ]

  states_has :
      (rules : List (Rule ℕ)) (f k m : ℕ) → m < length rules → (rule_at rules m).right.label ≡ label f → length (holes (rule_at rules m).right.kids) ≡ k →
      Has (states_over rules f k) (holes (rule_at rules m).right.kids)
  states_has [] f k m h root long = absurd (omega arith)
  states_has (r ∷ rules) f k zero h root long = elim (is_root_cases r.right.label f) [
    | inr y ↦ absurd (y.0 root)
    | inl y ↦ elim (nat_eq_cases (length (holes r.right.kids)) k) [ inr z ↦ absurd (z.0 long) | inl z ↦ rw (y.1, z.1) (inl refl) ]
  ]
  states_has (r ∷ rules) f k (suc m) h root long =
      let more = states_has rules f k m (omega arith) root long in
      elim (is_root_cases r.right.label f) [
        | inr y ↦ rw y.1 more
        | inl y ↦ elim (nat_eq_cases (length (holes r.right.kids)) k) [ inr z ↦ rw (y.1, z.1) more | inl z ↦ rw (y.1, z.1) (inr more) ]
      ]

  -- the first place of n

  abbrev FirstAt : ℕ → List ℕ → Type 0
  FirstAt j [] = ⊥
  FirstAt zero (p ∷ ps) = p ≡ n
  FirstAt (suc j) (p ∷ ps) = (p < n) × FirstAt j ps

  first_place : (ps : List ℕ) → Each (λ p. p ≤ n) ps → Has ps n → (j : ℕ) × (j < length ps) × FirstAt j ps
  first_place [] e h = absurd h
  first_place (p ∷ ps) e h = elim (cases_lt p n) [
    | inr high ↦ (0, omega arith, (let low = e.0 in omega arith))
    | inl low ↦ elim h [
      | inl k ↦ absurd (omega arith)
      | inr k ↦ let r = first_place ps e.1 k in (suc r.0, omega (arith, r.1), (low, r.2))
    ]
  ]

  one_first : (i j : ℕ) (ps : List ℕ) → FirstAt i ps → FirstAt j ps → i ≡ j
  one_first i j [] a b = absurd a
  one_first zero zero (p ∷ ps) a b = refl
  one_first zero (suc j) (p ∷ ps) a b = absurd (let low = b.0 in omega arith)
  one_first (suc i) zero (p ∷ ps) a b = absurd (let low = a.0 in omega arith)
  one_first (suc i) (suc j) (p ∷ ps) a b = ap suc (one_first i j ps a.1 b.1)

  first_stands : (j : ℕ) (ps : List ℕ) → FirstAt j ps → Has ps n
  first_stands j [] a = absurd a
  first_stands zero (p ∷ ps) a = inl a
  first_stands (suc j) (p ∷ ps) a = inr (first_stands j ps a.1)

  -- one more place in front
  place_before : (k p : ℕ) (seen : Bool) (rules : List (List ℕ)) (ps : List ℕ) → p ≤ n → IsWalk k true (alive (vector_at order p) rules) ps → IsWalk (suc k) true rules (p ∷ ps)
  place_before k p seen rules ps low w =
      let b = alive_back (vector_at order p) rules w.states w.rule in
      record { long = ap suc w.long; up_to = (low, w.up_to); stands = inl refl; states = b.state ∷ w.states; rule = b.stands; held = ((b.residual, b.held), w.held) }

  place_behind : (k p : ℕ) (rules : List (List ℕ)) (ps : List ℕ) → IsWalk (suc k) true rules (p ∷ ps) → IsWalk k true (alive (vector_at order p) rules) ps
  place_behind k p rules ps w = by w.states w.rule w.held
    where
      by : (states : List ℕ) → Has rules states → AreHeld states (vectors_at order (p ∷ ps)) → IsWalk k true (alive (vector_at order p) rules) ps
      by [] h held = absurd held
      by (q ∷ qs) h held = record {
        long = (let l = w.long in omega arith);
        up_to = w.up_to.1;
        stands = inl refl;
        states = qs;
        rule = alive_to (vector_at order p) rules q held.0.0 qs held.0.1 h;
        held = held.1;
      }

  walk_first_back : (k j : ℕ) (rules : List (List ℕ)) (ps : List ℕ) → AreLong k rules → Has (walks_first order n k j rules) ps → IsWalk k true rules ps × FirstAt j ps
  walk_first_back zero j rules ps long h = absurd h
  walk_first_back (suc k) zero rules ps long h =
      let r = has_mapped (λ (l : List ℕ). n ∷ l) (walks order n k true (alive (vector_at order n) rules)) ps h in
      let w = walk_back k true (alive (vector_at order n) rules) r.0 (alive_long k (vector_at order n) rules long) r.1 in
      subst (λ (l : List ℕ). IsWalk (suc k) true rules l × FirstAt zero l) r.2 (place_before k n true rules r.0 (omega arith) w, refl)
  walk_first_back (suc k) (suc j) rules ps long h =
      let a = at_each_back (λ p. walks_first order n k j (alive (vector_at order p) rules)) n ps h in
      let w = walk_first_back k j (alive (vector_at order a.first) rules) a.rest (alive_long k (vector_at order a.first) rules long) a.stands in
      subst (λ (l : List ℕ). IsWalk (suc k) true rules l × FirstAt (suc j) l) (sym a.is) (place_before k a.first true rules a.rest (let low = a.below in omega arith) w.0, (a.below, w.1))

  walk_first_to : (k j : ℕ) (rules : List (List ℕ)) (ps : List ℕ) → IsWalk k true rules ps → FirstAt j ps → Has (walks_first order n k j rules) ps
  walk_first_to k j rules [] w f = absurd f
  walk_first_to zero j rules (p ∷ ps) w f = absurd (let l = w.long in omega arith)
  walk_first_to (suc k) zero rules (p ∷ ps) w f =
      let here : Has (walks order n k true (alive (vector_at order p) rules)) ps = walk_to k true (alive (vector_at order p) rules) ps (place_behind k p rules ps w) in
      let there : Has (walks order n k true (alive (vector_at order n) rules)) ps = subst (λ (z : ℕ). Has (walks order n k true (alive (vector_at order z) rules)) ps) f here in
      subst (λ (z : ℕ). Has (map (λ (l : List ℕ). n ∷ l) (walks order n k true (alive (vector_at order n) rules))) (z ∷ ps)) (sym f)
      (mapped_has (λ (l : List ℕ). n ∷ l) (walks order n k true (alive (vector_at order n) rules)) ps there)
  walk_first_to (suc k) (suc j) rules (p ∷ ps) w f =
      at_each_to (λ z. walks_first order n k j (alive (vector_at order z) rules)) n p ps f.0
      (walk_first_to k j (alive (vector_at order p) rules) ps (place_behind k p rules ps w) f.1)

  walk_first_once : (k j : ℕ) (rules : List (List ℕ)) → Distinct (walks_first order n k j rules)
  walk_first_once zero j rules = tt
  walk_first_once (suc k) zero rules =
      map_once (λ (l : List ℕ). n ∷ l) (λ x y e. tail_is n n x y e) (walks order n k true (alive (vector_at order n) rules)) (walk_once k true (alive (vector_at order n) rules))
  walk_first_once (suc k) (suc j) rules = at_each_once (λ p. walks_first order n k j (alive (vector_at order p) rules)) n (λ p. walk_first_once k j (alive (vector_at order p) rules))

  by_first_back : (k : ℕ) (rules : List (List ℕ)) → AreLong k rules → (m : ℕ) (ps : List ℕ) → Has (walks_by_first order n k rules m) ps → (j : ℕ) × (j < m) × IsWalk k true rules ps × FirstAt j ps
  by_first_back k rules long zero ps h = absurd h
  by_first_back k rules long (suc m) ps h = elim (has_either (walks_by_first order n k rules m) (walks_first order n k m rules) ps h) [
    | inl a ↦ let r = by_first_back k rules long m ps a in (r.0, (let low = r.1 in omega arith), r.2, r.3)
    | inr a ↦ let r = walk_first_back k m rules ps long a in (m, omega arith, r.0, r.1)
  ]

  by_first_to : (k : ℕ) (rules : List (List ℕ)) (m j : ℕ) (ps : List ℕ) → j < m → IsWalk k true rules ps → FirstAt j ps → Has (walks_by_first order n k rules m) ps
  by_first_to k rules zero j ps h w f = absurd (omega arith)
  by_first_to k rules (suc m) j ps h w f = elim (cases_lt j m) [
    | inl low ↦ has_left (walks_by_first order n k rules m) (walks_first order n k m rules) ps (by_first_to k rules m j ps low w f)
    | inr high ↦
        let same : j ≡ m = omega arith in
        has_right (walks_by_first order n k rules m) (walks_first order n k m rules) ps (walk_first_to k m rules ps w (subst (λ (i : ℕ). FirstAt i ps) same f))
  ]

  by_first_once : (k : ℕ) (rules : List (List ℕ)) → AreLong k rules → (m : ℕ) → Distinct (walks_by_first order n k rules m)
  by_first_once k rules long zero = tt
  by_first_once k rules long (suc m) =
      distinct_append (walks_by_first order n k rules m) (walks_first order n k m rules) (by_first_once k rules long m) (walk_first_once k m rules)
      (λ ps a b.
      let r = by_first_back k rules long m ps a in
      let s = walk_first_back k m rules ps long b in
      let same = one_first r.0 m ps r.3 s.1 in
      let low = r.1 in
      omega arith)

  with_flag : (k : ℕ) (rules : List (List ℕ)) (ps : List ℕ) → IsWalk k true rules ps → Has ps n → IsWalk k false rules ps
  with_flag k rules ps w h = record { long = w.long; up_to = w.up_to; stands = inr h; states = w.states; rule = w.rule; held = w.held }

  flag_off : (k : ℕ) (rules : List (List ℕ)) (ps : List ℕ) → IsWalk k false rules ps → IsWalk k true rules ps
  flag_off k rules ps w = record { long = w.long; up_to = w.up_to; stands = inl refl; states = w.states; rule = w.rule; held = w.held }

  was_seen : (seen : Bool) (ps : List ℕ) → seen ≡ false → (seen ≡ true) ⊎ Has ps n → Has ps n
  was_seen seen ps e s = elim s [ inl f ↦ absurd (not_both seen e f) | inr h ↦ h ]
    where
      not_both : (b : Bool) → b ≡ false → b ≡ true → ⊥
      not_both true e f = cc
      not_both false e f = cc

  -- lists for each label and rank, of what some rule matches
  module _
      (rules : List (Rule ℕ)) (walks_of : ℕ × ℕ → List (List ℕ))
      (back : (s : ℕ × ℕ) (ps : List ℕ) → Has (walks_of s) ps → IsWalk s.1 false (states_over rules s.0 s.1) ps)
      (to : (s : ℕ × ℕ) (ps : List ℕ) → IsWalk s.1 false (states_over rules s.0 s.1) ps → Has (walks_of s) ps)
      (once : (s : ℕ × ℕ) → Distinct (walks_of s)) where
    abbrev tag : ℕ × ℕ → List ℕ → ℕ × List ℕ
    tag s ps = (s.0, ps)

    record IsFrom (shapes : List (ℕ × ℕ)) (o : ℕ × List ℕ) : Type 0 where
      shape : ℕ × ℕ
      stands : Has {A = ℕ × ℕ} shapes shape
      root : shape.0 ≡ o.0
      walk : IsWalk shape.1 false (states_over rules shape.0 shape.1) o.1

    of_shape : (s : ℕ × ℕ) (o : ℕ × List ℕ) → Has (map (tag s) (walks_of s)) o → (s.0 ≡ o.0) × IsWalk s.1 false (states_over rules s.0 s.1) o.1
    of_shape s o h =
        let r = has_mapped (tag s) (walks_of s) o h in (
          ap (λ (x : ℕ × List ℕ). x.0) r.2,
          subst (IsWalk s.1 false (states_over rules s.0 s.1)) (ap (λ (x : ℕ × List ℕ). x.1) r.2) (back s r.0 r.1),
        )

    candidate_back : (shapes : List (ℕ × ℕ)) (o : ℕ × List ℕ) → Has (tagged walks_of shapes) o → IsFrom shapes o
    candidate_back [] o h = absurd h
    candidate_back (s ∷ shapes) o h = elim (has_either (map (tag s) (walks_of s)) (tagged walks_of shapes) o h) [
      | inl k ↦ let r = of_shape s o k in record { shape = s; stands = inl refl; root = r.0; walk = r.1 }
      | inr k ↦ let r = candidate_back shapes o k in record { shape = r.shape; stands = inr r.stands; root = r.root; walk = r.walk }
    ]

    candidate_to :
        (shapes : List (ℕ × ℕ)) (f : ℕ) (ps : List ℕ) (k : ℕ) → Has {A = ℕ × ℕ} shapes (f, k) → IsWalk k false (states_over rules f k) ps →
        Has {A = ℕ × List ℕ} (tagged walks_of shapes) (f, ps)
    candidate_to [] f ps k h w = absurd h
    candidate_to (s ∷ shapes) f ps k h w = elim h [
      | inl e ↦
          let here : Has {A = ℕ × List ℕ} (map (tag (f, k)) (walks_of (f, k))) (f, ps) = mapped_has (tag (f, k)) (walks_of (f, k)) ps (to (f, k) ps w) in
          has_left (map (tag s) (walks_of s)) (tagged walks_of shapes) (f, ps) (subst (λ (z : ℕ × ℕ). Has {A = ℕ × List ℕ} (map (tag z) (walks_of z)) (f, ps)) (sym e) here)
      | inr m ↦ has_right (map (tag s) (walks_of s)) (tagged walks_of shapes) (f, ps) (candidate_to shapes f ps k m w)
    ]

    candidates_once : (shapes : List (ℕ × ℕ)) → Distinct shapes → Distinct (tagged walks_of shapes)
    candidates_once [] d = tt
    candidates_once (s ∷ shapes) d =
        distinct_append (map (tag s) (walks_of s)) (tagged walks_of shapes)
        (map_once (tag s) (λ x y e. ap (λ (z : ℕ × List ℕ). z.1) e) (walks_of s) (once s))
        (candidates_once shapes d.1)
        (λ o h k.
        let a = of_shape s o h in
        let b = candidate_back shapes o k in
        let root : b.shape.0 ≡ s.0 = b.root ∙ sym a.0 in
        let rank : b.shape.1 ≡ s.1 = sym b.walk.long ∙ a.1.long in
        let same : b.shape ≡ s = ap (λ (z : ℕ). (z, b.shape.1)) root ∙ ap (λ (z : ℕ). (s.0, z)) rank in
        d.0 (subst (Has {A = ℕ × ℕ} shapes) same b.stands))

    match_of : {shapes : List (ℕ × ℕ)} (o : ℕ × List ℕ) → IsFrom shapes o → HasMatch rules o.0 (vectors_at order o.1)
    match_of o b =
        let r = states_back rules b.shape.0 b.shape.1 b.walk.states b.walk.rule in
        record {
          rule = r.place;
          below = r.below;
          root = r.root ∙ ap label b.root;
          held = subst (λ (qs : List ℕ). AreHeld qs (vectors_at order o.1)) (sym r.holes_are) b.walk.held;
        }

    as_long : (qs : List ℕ) (ps : List ℕ) → AreHeld qs (vectors_at order ps) → length ps ≡ length qs
    as_long [] [] h = refl
    as_long [] (p ∷ ps) h = absurd h
    as_long (q ∷ qs) [] h = absurd h
    as_long (q ∷ qs) (p ∷ ps) h = ap suc (as_long qs ps h.1)

    all_matched : (shapes : List (ℕ × ℕ)) → AreShapes rules shapes → AreMatched rules order n (tagged walks_of shapes)
    all_matched shapes s = record {
      once = candidates_once shapes s.once;
      each = each_of (IsCandidate n) (tagged walks_of shapes) (λ o h.
          let b = candidate_back shapes o h in
          record { up_to = b.walk.up_to; stands = was_seen false o.1 refl b.walk.stands });
      matched = each_of (λ (o : ℕ × List ℕ). HasMatch rules o.0 (vectors_at order o.1)) (tagged walks_of shapes) (λ o h.
          let b = candidate_back shapes o h in
          match_of o b);
      whole = λ o c m.
          let qs : List ℕ = holes (rule_at rules m.rule).right.kids in
          candidate_to shapes o.0 o.1 (length qs) (s.whole m.rule o.0 m.below m.root) (record {
            long = as_long qs o.1 m.held;
            up_to = c.up_to;
            stands = inr c.stands;
            states = qs;
            rule = states_has rules o.0 (length qs) m.rule m.below m.root refl;
            held = m.held;
          });
    }

  -- the walk finds what some rule matches
  pub are_matched : (rules : List (Rule ℕ)) (shapes : List (ℕ × ℕ)) → AreShapes rules shapes → AreMatched rules order n (candidates rules order n shapes)
  are_matched rules shapes s =
      all_matched rules (λ z. walks order n z.1 false (states_over rules z.0 z.1))
      (λ z ps h. walk_back z.1 false (states_over rules z.0 z.1) ps (states_long rules z.0 z.1) h)
      (λ z ps w. walk_to z.1 false (states_over rules z.0 z.1) ps w)
      (λ z. walk_once z.1 false (states_over rules z.0 z.1))
      shapes s

  -- and so does the walk by the first place
  pub are_matched_by_first : (rules : List (Rule ℕ)) (shapes : List (ℕ × ℕ)) → AreShapes rules shapes → AreMatched rules order n (candidates_by_first rules order n shapes)
  are_matched_by_first rules shapes s =
      all_matched rules (λ z. walks_by_first order n z.1 (states_over rules z.0 z.1) z.1)
      (λ z ps h.
      let r = by_first_back z.1 (states_over rules z.0 z.1) (states_long rules z.0 z.1) z.1 ps h in
      with_flag z.1 (states_over rules z.0 z.1) ps r.2 (first_stands r.0 ps r.3))
      (λ z ps w.
      let f = first_place ps w.up_to (was_seen false ps refl w.stands) in
      by_first_to z.1 (states_over rules z.0 z.1) z.1 f.0 ps (let l = w.long in let low = f.1 in omega arith) (flag_off z.1 (states_over rules z.0 z.1) ps w) f.2)
      (λ z. by_first_once z.1 (states_over rules z.0 z.1) (states_long rules z.0 z.1) z.1)
      shapes s
