-- The choices that translate a side, each once.
use Rattle.std.specs.Prelude.{◌≡◌, ℕ, ◌<◌, ◌≤◌, ◌↔◌, List, [], ◌∷◌, map, length, Bool, true, false, nat_eq, if◌then◌else◌, Option, None, Some, refl}
use Rattle.std.proofs.Common.{zero, suc, arith, ap, sym, ◌∙◌, subst, inl, inr}
use Rattle.tib_lex.specs.Lists.{Has, Each, Distinct}
use Rattle.tib_tree.specs.Trees.{Trees, none, tree, only, count, join}
use Rattle.tib_grammar.specs.Sides.{Symbol, label, hole, Side as SideFor, holes_of, AreHoles, is_label}
use Rattle.tib_lex.proofs.Lists.{has_mapped}
use Rattle.tib_lex.proofs.Numbers.{nat_eq_cases, nat_eq-true}
use Rattle.tib_grammar.proofs.Sides.{is_label-true}
use Rattle.tib_lex.proofs.Members.{has_left, has_right, has_either}
use Rattle.tib_transducer.specs.Rules.{transducer_rule, variables_in}
use Rattle.tib_transducer.specs.Run.{tree_at, pick}
use Rattle.tib_transducer.specs.Range.{AreShaped}
use Rattle.tib_key_edges.specs.Translations.{IsOver, AreTranslations}
use Rattle.tib_key_edges.specs.Choices.{all_joins, joined, are_holes, reads_label, by_rules, choices_at, choices_of}
use Rattle.tib_transducer.specs.declared.Pair.{Pair}
use Rattle.tib_transducer.specs.declared.TransducerRule.{TransducerRule}
use Rattle.tib_key_edges.proofs.Filling.{one_of}
use Rattle.tib_key_edges.proofs.Permuted.{tree_at-one}
use Rattle.tib_key_edges.proofs.Translating.{over_long}
use Rattle.tib_expand.proofs.Members.{distinct_append}

-- lists

-- an image of a member is among the images
pub map_has : {A B : Type 0} (g : A → B) (xs : List A) (x : A) → Has xs x → Has (map g xs) (g x)
map_has g [] x h = absurd h
map_has g (y ∷ xs) x h = elim h [ inl e ↦ inl (ap g e) | inr k ↦ inr (map_has g xs x k) ]

-- the images under a one-to-one function are apart where the values are
pub map_once : {A B : Type 0} (g : A → B) → ((x y : A) → g x ≡ g y → x ≡ y) → (xs : List A) → Distinct xs → Distinct (map g xs)
map_once g one [] d = tt
map_once g one (x ∷ xs) d = (
  λ h. let r = has_mapped g xs (g x) h in d.0 (subst (Has xs) (one r.0 x r.2) r.1),
  map_once g one xs d.1,
)

-- a list under a test has a member only where the test holds
pub has_if : {A : Type 0} (b : Bool) (xs : List A) (x : A) → Has (if b then xs else []) x → (b ≡ true) × Has xs x
has_if true xs x h = (refl, h)
has_if false xs x h = absurd h

-- and where it holds, all members
pub if_has : {A : Type 0} (b : Bool) (xs : List A) (x : A) → b ≡ true → Has xs x → Has (if b then xs else []) x
if_has true xs x e h = h
if_has false xs x e h = absurd (cc)

-- such a list has no member twice where the list itself has none
pub if_once : {A : Type 0} (b : Bool) (xs : List A) → (b ≡ true → Distinct xs) → Distinct (if b then xs else [])
if_once true xs f = f refl
if_once false xs f = tt

-- joins

join_same : {A : Type 0} (c d e : Trees A) → join c d ≡ join c e → d ≡ e
join_same none d e h = h
join_same (tree f kids rest) d e h = join_same rest d e (cc h)

join_front : {A : Type 0} (b c d e : Trees A) → count b ≡ 1 → count c ≡ 1 → join b d ≡ join c e → b ≡ c
join_front none c d e m n h = absurd (omega arith)
join_front (tree f kids rest) none d e m n h = absurd (omega arith)
join_front (tree f kids (tree g ks more)) c d e m n h = absurd (omega arith)
join_front (tree f kids none) (tree g ks (tree x y z)) d e m n h = absurd (omega arith)
join_front (tree f kids none) (tree g ks none) d e m n h =
    let labels : f ≡ g = cc h in
    let belows : kids ≡ ks = cc h in
    ap (λ z. tree z kids none) labels ∙ ap (λ z. tree g z none) belows

-- what is joined is a first and a second
pub has_joins : {A : Type 0} (cs ds : List (Trees A)) (x : Trees A) → Has (all_joins cs ds) x → (c : Trees A) × (d : Trees A) × Has cs c × Has ds d × (join c d ≡ x)
has_joins [] ds x h = absurd h
has_joins (c ∷ cs) ds x h = elim (has_either (map (join c) ds) (all_joins cs ds) x h) [
  | inl k ↦ let r = has_mapped (join c) ds x k in (c, r.0, inl refl, r.1, r.2)
  | inr k ↦ let r = has_joins cs ds x k in (r.0, r.1, inr r.2, r.3, r.4)
]

joins_has : {A : Type 0} (cs ds : List (Trees A)) (c d : Trees A) → Has cs c → Has ds d → Has (all_joins cs ds) (join c d)
joins_has [] ds c d h k = absurd h
joins_has (b ∷ cs) ds c d h k = elim h [
  | inl e ↦ has_left (map (join b) ds) (all_joins cs ds) (join c d) (subst (λ z. Has (map (join b) ds) (join z d)) e (map_has (join b) ds d k))
  | inr m ↦ has_right (map (join b) ds) (all_joins cs ds) (join c d) (joins_has cs ds c d m k)
]

joins_once : {A : Type 0} (cs ds : List (Trees A)) → Distinct cs → Distinct ds → ((c : Trees A) → Has cs c → count c ≡ 1) → Distinct (all_joins cs ds)
joins_once [] ds a b ones = tt
joins_once (c ∷ cs) ds a b ones =
    distinct_append (map (join c) ds) (all_joins cs ds) (map_once (join c) (join_same c) ds b) (joins_once cs ds a.1 b (λ x h. ones x (inr h)))
    (λ x h k.
    let l = has_mapped (join c) ds x h in
    let r = has_joins cs ds x k in
    let e : r.0 ≡ c = join_front r.0 c r.1 l.0 (ones r.0 (inr r.2)) (ones c (inl refl)) (r.4 ∙ sym l.2) in
    a.0 (subst (Has cs) e r.2))

-- what a rule reads

-- the test for equal numbers finds them equal
pub number_same : (g f : ℕ) → g ≡ f → nat_eq g f ≡ true
number_same g f e = elim (nat_eq_cases g f) [ inl k ↦ k.1 | inr k ↦ absurd (k.0 e) ]

is_label_of : {P : Type 0} (f : ℕ) (s : Symbol ℕ P) → s ≡ label f → is_label f s ≡ true
is_label_of f s e = ap (is_label f) e ∙ number_same f f refl

holes_are : {P : Type 0} (s : Trees (Symbol ℕ P)) → are_holes s ≡ true → AreHoles s
holes_are none e = tt
holes_are (tree (label f) kids rest) e = absurd (cc)
holes_are (tree (hole p) kids rest) e = holes_are rest e

-- the test finds that there is nothing but holes
pub are_holes_of : {P : Type 0} (s : Trees (Symbol ℕ P)) → AreHoles s → are_holes s ≡ true
are_holes_of none h = refl
are_holes_of (tree (label f) kids rest) h = absurd h
are_holes_of (tree (hole p) kids rest) h = are_holes_of rest h

and_first : (a b : Bool) → (if a then b else false) ≡ true → (a ≡ true) × (b ≡ true)
and_first true b e = (refl, e)
and_first false b e = absurd (cc)

and_both : (a b : Bool) → a ≡ true → b ≡ true → (if a then b else false) ≡ true
and_both true b e d = d
and_both false b e d = absurd (cc)

-- a rule that passes the test reads a label over this many variables
pub reads_over : (p f n : ℕ) (r : TransducerRule ℕ) → reads_label p f n r ≡ true → (r.state ≡ p) × IsOver r.left f n
reads_over p f n r e =
    let a = and_first (nat_eq r.state p) (if is_label f r.left.label then (if are_holes r.left.kids then nat_eq (count r.left.kids) n else false) else false) e in
    let b = and_first (is_label f r.left.label) (if are_holes r.left.kids then nat_eq (count r.left.kids) n else false) a.1 in
    let c = and_first (are_holes r.left.kids) (nat_eq (count r.left.kids) n) b.1 in (
      nat_eq-true r.state p a.0,
      record {
        root = is_label-true f r.left.label b.0;
        variables = holes_are r.left.kids c.0;
        rank = nat_eq-true (count r.left.kids) n c.1;
      },
    )

-- a rule that does so passes the test
pub over_reads : (p f n : ℕ) (r : TransducerRule ℕ) → r.state ≡ p → IsOver r.left f n → reads_label p f n r ≡ true
over_reads p f n r e o =
    and_both (nat_eq r.state p) (if is_label f r.left.label then (if are_holes r.left.kids then nat_eq (count r.left.kids) n else false) else false) (number_same r.state p e)
    (and_both (is_label f r.left.label) (if are_holes r.left.kids then nat_eq (count r.left.kids) n else false) (is_label_of f r.left.label o.root)
    (and_both (are_holes r.left.kids) (nat_eq (count r.left.kids) n) (are_holes_of r.left.kids o.variables) (number_same (count r.left.kids) n o.rank)))

module _ (two : List (TransducerRule ℕ)) where
  -- a choice by one of the first rules
  record IsByRule (choices : ℕ → ℕ → List (Trees (Option ℕ))) (p f n m : ℕ) (c : Trees (Option ℕ)) : Type 0 where
    rule : ℕ
    below : rule < m
    reads : reads_label p f n (transducer_rule two rule) ≡ true
    inner : Trees (Option ℕ)
    stands : Has (joined choices (holes_of (transducer_rule two rule).right)) inner
    is : tree (Some rule) inner none ≡ c

  module _ (choices : ℕ → ℕ → List (Trees (Option ℕ))) (p f n : ℕ) where
    has_rule : (m : ℕ) (c : Trees (Option ℕ)) → Has (by_rules two choices p f n m) c → IsByRule choices p f n m c
    has_rule zero c h = absurd h
    has_rule (suc m) c h = elim (has_either (by_rules two choices p f n m) (if reads_label p f n (transducer_rule two m) then map (λ below. tree (Some m) below none) (joined choices (holes_of (transducer_rule two m).right)) else []) c h) [
      | inl k ↦
          let r = has_rule m c k in
          record { rule = r.rule; below = (let b = r.below in omega arith); reads = r.reads; inner = r.inner; stands = r.stands; is = r.is }
      | inr k ↦
          let r = has_if (reads_label p f n (transducer_rule two m)) (map (λ below. tree (Some m) below none) (joined choices (holes_of (transducer_rule two m).right))) c k in
          let s = has_mapped (λ (below : Trees (Option ℕ)). tree (Some m) below none) (joined choices (holes_of (transducer_rule two m).right)) c r.1 in
          record { rule = m; below = omega arith; reads = r.0; inner = s.0; stands = s.1; is = s.2 }
    ]

    rule_has : (m rule : ℕ) (inner : Trees (Option ℕ)) → rule < m → reads_label p f n (transducer_rule two rule) ≡ true → Has (joined choices (holes_of (transducer_rule two rule).right)) inner → Has (by_rules two choices p f n m) (tree (Some rule) inner none)
    rule_has zero rule inner h e k = absurd (omega arith)
    rule_has (suc m) rule inner h e k = elim (nat_eq_cases rule m) [
      | inl same ↦
          has_right (by_rules two choices p f n m) (if reads_label p f n (transducer_rule two m) then map (λ below. tree (Some m) below none) (joined choices (holes_of (transducer_rule two m).right)) else []) (tree (Some rule) inner none)
          (subst (λ z. Has (if reads_label p f n (transducer_rule two z) then map (λ below. tree (Some z) below none) (joined choices (holes_of (transducer_rule two z).right)) else []) (tree (Some rule) inner none)) same.0
          (if_has (reads_label p f n (transducer_rule two rule)) (map (λ below. tree (Some rule) below none) (joined choices (holes_of (transducer_rule two rule).right))) (tree (Some rule) inner none) e
          (map_has (λ (below : Trees (Option ℕ)). tree (Some rule) below none) (joined choices (holes_of (transducer_rule two rule).right)) inner k)))
      | inr other ↦
          has_left (by_rules two choices p f n m) (if reads_label p f n (transducer_rule two m) then map (λ below. tree (Some m) below none) (joined choices (holes_of (transducer_rule two m).right)) else []) (tree (Some rule) inner none)
          (rule_has m rule inner (let d = other.0 in omega (arith, d)) e k)
    ]

    below_same : (m : ℕ) (x y : Trees (Option ℕ)) → tree (Some m) x none ≡ tree (Some m) y none → x ≡ y
    below_same m x y e = cc e

    rule_same : (m k : ℕ) (x y : Trees (Option ℕ)) → tree (Some m) x none ≡ tree (Some k) y none → m ≡ k
    rule_same m k x y e = cc e

    rules_once : (m : ℕ) → m ≤ length two → ((rule : ℕ) → rule < length two → reads_label p f n (transducer_rule two rule) ≡ true → Distinct (joined choices (holes_of (transducer_rule two rule).right))) → Distinct (by_rules two choices p f n m)
    rules_once zero h each = tt
    rules_once (suc m) h each =
        distinct_append (by_rules two choices p f n m) (if reads_label p f n (transducer_rule two m) then map (λ below. tree (Some m) below none) (joined choices (holes_of (transducer_rule two m).right)) else [])
        (rules_once m (omega arith) each)
        (if_once (reads_label p f n (transducer_rule two m)) (map (λ below. tree (Some m) below none) (joined choices (holes_of (transducer_rule two m).right)))
        (λ e. map_once (λ (below : Trees (Option ℕ)). tree (Some m) below none) (below_same m) (joined choices (holes_of (transducer_rule two m).right)) (each m (omega arith) e)))
        (λ c a b.
        let r = has_rule m c a in
        let s = has_if (reads_label p f n (transducer_rule two m)) (map (λ below. tree (Some m) below none) (joined choices (holes_of (transducer_rule two m).right))) c b in
        let l = has_mapped (λ (below : Trees (Option ℕ)). tree (Some m) below none) (joined choices (holes_of (transducer_rule two m).right)) c s.1 in
        let e : r.rule ≡ m = rule_same r.rule m r.inner l.0 (r.is ∙ sym l.2) in
        let low = r.below in
        omega (arith, e, low))

-- choices of one side and of others

module _ {P : Type 0} (two : List (TransducerRule ℕ)) where
  one_choice : (p : ℕ) (s : Symbol ℕ P) (kids : Trees (Symbol ℕ P)) (c : Trees (Option ℕ)) → AreTranslations two (p ∷ []) (tree s kids none) c → count c ≡ 1
  one_choice p s kids none t = absurd t
  one_choice p (hole x) kids (tree None none none) t = refl
  one_choice p (hole x) kids (tree None none (tree c b m)) t = absurd t
  one_choice p (hole x) kids (tree None (tree d b m) more) t = absurd t
  one_choice p (hole x) kids (tree (Some n) below more) t = absurd t
  one_choice p (label f) kids (tree None below more) t = absurd t
  one_choice p (label f) kids (tree (Some n) below none) t = refl
  one_choice p (label f) kids (tree (Some n) below (tree c b m)) t = absurd t.4

  -- a choice of the first side and one of the others are a choice of all
  pub choice_join :
      (p : ℕ) (ps : List ℕ) (s : Symbol ℕ P) (kids rest : Trees (Symbol ℕ P)) (c d : Trees (Option ℕ)) → AreTranslations two (p ∷ []) (tree s kids none) c → AreTranslations two ps rest d →
      AreTranslations two (p ∷ ps) (tree s kids rest) (join c d)
  choice_join p ps s kids rest none d t u = absurd t
  choice_join p ps (hole x) kids rest (tree None none none) d t u = u
  choice_join p ps (hole x) kids rest (tree None none (tree c b m)) d t u = absurd t
  choice_join p ps (hole x) kids rest (tree None (tree e b m) more) d t u = absurd t
  choice_join p ps (hole x) kids rest (tree (Some n) below more) d t u = absurd t
  choice_join p ps (label f) kids rest (tree None below more) d t u = absurd t
  choice_join p ps (label f) kids rest (tree (Some n) below none) d t u = (t.0, t.1, t.2, t.3, u)
  choice_join p ps (label f) kids rest (tree (Some n) below (tree c b m)) d t u = absurd t.4

  -- a choice of all sides splits into these
  pub choice_split :
      (p : ℕ) (ps : List ℕ) (s : Symbol ℕ P) (kids rest : Trees (Symbol ℕ P)) (x : Trees (Option ℕ)) → AreTranslations two (p ∷ ps) (tree s kids rest) x →
      (c : Trees (Option ℕ)) × (d : Trees (Option ℕ)) × AreTranslations two (p ∷ []) (tree s kids none) c × AreTranslations two ps rest d × (join c d ≡ x)
  choice_split p ps s kids rest none t = absurd t
  choice_split p ps (hole y) kids rest (tree None none more) t = (tree None none none, more, tt, t, refl)
  choice_split p ps (hole y) kids rest (tree None (tree e b m) more) t = absurd t
  choice_split p ps (hole y) kids rest (tree (Some n) below more) t = absurd t
  choice_split p ps (label f) kids rest (tree None below more) t = absurd t
  choice_split p ps (label f) kids rest (tree (Some n) below more) t = (tree (Some n) below none, more, (t.0, t.1, t.2, t.3, tt), t.4, refl)

  -- the lists have the choices of each side by each state, each once
  pub record Tell (sides : Trees (Symbol ℕ P)) (choices : ℕ → ℕ → List (Trees (Option ℕ))) : Type 0 where
    pub once : (i p : ℕ) → i < count sides → Distinct (choices i p)
    pub to : (i p : ℕ) (c : Trees (Option ℕ)) → i < count sides → Has (choices i p) c → AreTranslations two (p ∷ []) (tree_at sides i) c
    pub back : (i p : ℕ) (c : Trees (Option ℕ)) → i < count sides → AreTranslations two (p ∷ []) (tree_at sides i) c → Has (choices i p) c

  module _ (sides : Trees (Symbol ℕ P)) (choices : ℕ → ℕ → List (Trees (Option ℕ))) (tell : Tell sides choices) where
    -- the joined choices are the choices of the picked sides, each once
    pub record TellJoined (xs : List (Pair ℕ)) : Type 0 where
      pub once : Distinct (joined choices xs)
      pub to : (c : Trees (Option ℕ)) → Has (joined choices xs) c → AreTranslations two (map (λ x. x.state) xs) (pick sides (map (λ x. x.variable) xs)) c
      pub back : (c : Trees (Option ℕ)) → AreTranslations two (map (λ x. x.state) xs) (pick sides (map (λ x. x.variable) xs)) c → Has (joined choices xs) c

    -- where the choices at each place are all, so are the joined ones
    pub tell_joined : (xs : List (Pair ℕ)) → Each (λ i. i < count sides) (map (λ x. x.variable) xs) → TellJoined xs
    tell_joined [] within = record {
      once = (λ h. h, tt);
      to = λ c h. elim h [ inl e ↦ subst (AreTranslations two [] none) e tt | inr a ↦ absurd a ];
      back = empty;
    }
      where
        empty : (c : Trees (Option ℕ)) → AreTranslations {P = P} two [] none c → Has {A = Trees (Option ℕ)} (none ∷ []) c
        empty none t = inl refl
        empty (tree c b m) t = absurd t
    tell_joined (x ∷ xs) within =
        let r = tell_joined xs within.1 in
        let s = one_of (tree_at sides x.variable) (tree_at-one sides x.variable within.0) in
        let others : Trees (Symbol ℕ P) = pick sides (map (λ y. y.variable) xs) in
        let states : List ℕ = map (λ y. y.state) xs in
        record {
          once = joins_once (choices x.variable x.state) (joined choices xs) (tell.once x.variable x.state within.0) r.once
              (λ c h. one_choice x.state s.0.label s.0.kids c (subst (λ z. AreTranslations two (x.state ∷ []) z c) s.1 (tell.to x.variable x.state c within.0 h)));
          to = λ c h.
              let k = has_joins (choices x.variable x.state) (joined choices xs) c h in
              let first = subst (λ z. AreTranslations two (x.state ∷ []) z k.0) s.1 (tell.to x.variable x.state k.0 within.0 k.2) in
              subst (AreTranslations two (x.state ∷ states) (join (tree_at sides x.variable) others)) k.4
              (subst (λ z. AreTranslations two (x.state ∷ states) (join z others) (join k.0 k.1)) (sym s.1)
              (choice_join x.state states s.0.label s.0.kids others k.0 k.1 first (r.to k.1 k.3)));
          back = λ c t.
              let k = choice_split x.state states s.0.label s.0.kids others c (subst (λ z. AreTranslations two (x.state ∷ states) (join z others) c) s.1 t) in
              subst (Has (all_joins (choices x.variable x.state) (joined choices xs))) k.4
              (joins_has (choices x.variable x.state) (joined choices xs) k.0 k.1
              (tell.back x.variable x.state k.0 within.0 (subst (λ z. AreTranslations two (x.state ∷ []) z k.0) (sym s.1) k.2))
              (r.back k.1 k.3));
        }

  module _ (shaped : AreShaped two) where
    -- the pairs of a rule that reads a label over some sides are among them
    pub within_sides : (p f : ℕ) (kids : Trees (Symbol ℕ P)) (rule : ℕ) → rule < length two → reads_label p f (count kids) (transducer_rule two rule) ≡ true → Each (λ i. i < count kids) (variables_in (transducer_rule two rule).right)
    within_sides p f kids rule h e =
        let o = (reads_over p f (count kids) (transducer_rule two rule) e).1 in
        subst (λ k. Each (λ i. i < k) (variables_in (transducer_rule two rule).right)) (over_long (transducer_rule two rule).left o) (shaped rule h).known

    module _ (f : ℕ) (kids : Trees (Symbol ℕ P)) (choices : ℕ → ℕ → List (Trees (Option ℕ))) (tell : Tell kids choices) (p : ℕ) where
      label_once : Distinct (by_rules two choices p f (count kids) (length two))
      label_once =
          rules_once two choices p f (count kids) (length two) (omega arith)
          (λ rule h e. (tell_joined kids choices tell (holes_of (transducer_rule two rule).right) (within_sides p f kids rule h e)).once)

      label_to : (c : Trees (Option ℕ)) → Has (by_rules two choices p f (count kids) (length two)) c → AreTranslations two (p ∷ []) (tree (label f) kids none) c
      label_to c h =
          let r = has_rule two choices p f (count kids) (length two) c h in
          let o = reads_over p f (count kids) (transducer_rule two r.rule) r.reads in
          let inner = (tell_joined kids choices tell (holes_of (transducer_rule two r.rule).right) (within_sides p f kids r.rule r.below r.reads)).to r.inner r.stands in
          subst (AreTranslations two (p ∷ []) (tree (label f) kids none)) r.is (r.below, o.0, o.1, inner, tt)

      label_back : (c : Trees (Option ℕ)) → AreTranslations two (p ∷ []) (tree (label f) kids none) c → Has (by_rules two choices p f (count kids) (length two)) c
      label_back none t = absurd t
      label_back (tree None below more) t = absurd t
      label_back (tree (Some n) below (tree c b m)) t = absurd t.4
      label_back (tree (Some n) below none) t =
          let e = over_reads p f (count kids) (transducer_rule two n) t.1 t.2 in
          rule_has two choices p f (count kids) (length two) n below t.0 e
          ((tell_joined kids choices tell (holes_of (transducer_rule two n).right) (within_sides p f kids n t.0 e)).back below t.3)

    -- one more side
    tell_more :
        (s : Symbol ℕ P) (kids rest : Trees (Symbol ℕ P)) → Tell rest (λ i p. choices_at two rest i p) → ((p : ℕ) → Distinct (choices_at two (tree s kids rest) 0 p)) →
        ((p : ℕ) (c : Trees (Option ℕ)) → Has (choices_at two (tree s kids rest) 0 p) c → AreTranslations two (p ∷ []) (tree s kids none) c) →
        ((p : ℕ) (c : Trees (Option ℕ)) → AreTranslations two (p ∷ []) (tree s kids none) c → Has (choices_at two (tree s kids rest) 0 p) c) →
        Tell (tree s kids rest) (λ i p. choices_at two (tree s kids rest) i p)
    tell_more s kids rest tell once_here to_here back_here = record { once = once_at s once_here; to = to_at s to_here; back = back_at s back_here }
      where
        once_at : (s : Symbol ℕ P) → ((p : ℕ) → Distinct (choices_at two (tree s kids rest) 0 p)) → (i p : ℕ) → i < count (tree s kids rest) → Distinct (choices_at two (tree s kids rest) i p)
        once_at s here zero p h = here p
        once_at (label f) here (suc i) p h = tell.once i p (omega arith)
        once_at (hole x) here (suc i) p h = tell.once i p (omega arith)

        to_at :
            (s : Symbol ℕ P) → ((p : ℕ) (c : Trees (Option ℕ)) → Has (choices_at two (tree s kids rest) 0 p) c → AreTranslations two (p ∷ []) (tree s kids none) c) →
            (i p : ℕ) (c : Trees (Option ℕ)) → i < count (tree s kids rest) → Has (choices_at two (tree s kids rest) i p) c → AreTranslations two (p ∷ []) (tree_at (tree s kids rest) i) c
        to_at s here zero p c h k = here p c k
        to_at (label f) here (suc i) p c h k = tell.to i p c (omega arith) k
        to_at (hole x) here (suc i) p c h k = tell.to i p c (omega arith) k

        back_at :
            (s : Symbol ℕ P) → ((p : ℕ) (c : Trees (Option ℕ)) → AreTranslations two (p ∷ []) (tree s kids none) c → Has (choices_at two (tree s kids rest) 0 p) c) →
            (i p : ℕ) (c : Trees (Option ℕ)) → i < count (tree s kids rest) → AreTranslations two (p ∷ []) (tree_at (tree s kids rest) i) c → Has (choices_at two (tree s kids rest) i p) c
        back_at s here zero p c h k = here p c k
        back_at (label f) here (suc i) p c h k = tell.back i p c (omega arith) k
        back_at (hole x) here (suc i) p c h k = tell.back i p c (omega arith) k

    -- the choices at each place are all choices of the side there, each once
    pub tell_all : (sides : Trees (Symbol ℕ P)) → Tell sides (λ i p. choices_at two sides i p)
    tell_all none = record {
      once = λ i p h. absurd (omega arith);
      to = λ i p c h. absurd (omega arith);
      back = λ i p c h. absurd (omega arith);
    }
    tell_all (tree (hole x) kids rest) = tell_more (hole x) kids rest (tell_all rest) (λ p. (λ h. h, tt)) to_here back_here
      where
        to_here : (p : ℕ) (c : Trees (Option ℕ)) → Has {A = Trees (Option ℕ)} (tree None none none ∷ []) c → AreTranslations two (p ∷ []) (tree (hole x) kids none) c
        to_here p c h = elim h [ inl e ↦ subst (AreTranslations two (p ∷ []) (tree (hole x) kids none)) e tt | inr a ↦ absurd a ]

        back_here : (p : ℕ) (c : Trees (Option ℕ)) → AreTranslations two (p ∷ []) (tree (hole x) kids none) c → Has {A = Trees (Option ℕ)} (tree None none none ∷ []) c
        back_here p none t = absurd t
        back_here p (tree None none none) t = inl refl
        back_here p (tree None none (tree c b m)) t = absurd t
        back_here p (tree None (tree d b m) more) t = absurd t
        back_here p (tree (Some n) below more) t = absurd t
    tell_all (tree (label f) kids rest) =
        let below = tell_all kids in
        tell_more (label f) kids rest (tell_all rest)
        (λ p. label_once f kids (λ i q. choices_at two kids i q) below p)
        (λ p c h. label_to f kids (λ i q. choices_at two kids i q) below p c h)
        (λ p c t. label_back f kids (λ i q. choices_at two kids i q) below p c t)

    -- no choice of a side is listed twice
    pub choices_once : (p : ℕ) (s : SideFor ℕ P) → Distinct (choices_of two p s)
    choices_once p s = (tell_all (only s)).once 0 p (omega arith)

    -- what is listed are the choices of the side
    pub choices_are : (p : ℕ) (s : SideFor ℕ P) (c : Trees (Option ℕ)) → Has (choices_of two p s) c ↔ AreTranslations two (p ∷ []) (only s) c
    choices_are p s c = (λ h. (tell_all (only s)).to 0 p c (omega arith) h, λ t. (tell_all (only s)).back 0 p c (omega arith) t)
