-- What `check` writes: one text, and that there is none cannot be.
use Rattle.std.proofs.Common.{◌≡◌, ℕ, ◌+◌, ◌<◌, ◌⊎◌, List, [], ◌∷◌, ◌++◌, length, map, refl, ap, sym, ◌∙◌, subst, arith, zero, suc, inl, inr, Option}
use Rattle.std.specs.Prelude.{Some, None}
use Rattle.tib_lex.specs.Lists.{Along, Each, Has, Distinct}
use Rattle.tib_lex.proofs.Alongs.{along_append}
use Rattle.tib_tree.specs.Trees.{Trees, none, tree, only}
use Rattle.tib_grammar.specs.Sides.{Symbol, label, hole, holes, labels_in}
use Rattle.tib_grammar_file.specs.ByText.{HaveOneShape}
use Rattle.tib_transducer.specs.Rules.{transducer_rule, variables_of, variables_in}
use Rattle.tib_transducer.specs.Classes.{IsLinear, IsNondeleting, IsExtended, IsLabelled, IsStrict}
use Rattle.tib_transducer.specs.TransducerOf.{TransducerOf}
use Rattle.tib_transducer.specs.declared.Variable.{Variable}
use Rattle.tib_transducer.specs.declared.Pair.{Pair}
use Rattle.tib_transducer.specs.declared.TransducerRule.{TransducerRule}
use Rattle.tib_transducer_file.specs.ByText.{AskForOneText, AreOneVariable, AgreeOnLeft, AgreeOnRight, AreOneTransducerRule, AreOneTransducer}
use Rattle.tib_operations.specs.Check.{IsFirstSuch, class_lines, HasClasses}

-- the first rule of which something holds

in_order : (m n : ℕ) → (m < n) ⊎ ((n < m) ⊎ (m ≡ n))
in_order m n = grind arith

module _ (P Q : TransducerRule ℕ → Type 0) (rules others : List (TransducerRule ℕ)) where
  first_once :
      (a b : Option ℕ) → length rules ≡ length others → ((n : ℕ) → n < length rules → P (transducer_rule rules n) → Q (transducer_rule others n)) →
      ((n : ℕ) → n < length rules → Q (transducer_rule others n) → P (transducer_rule rules n)) → IsFirstSuch P rules a → IsFirstSuch Q others b → a ≡ b
  first_once None None long to from h k = refl
  first_once None (Some m) long to from h k = absurd (h k.position (omega (arith, k.below, long)) (from k.position (omega (arith, k.below, long)) k.outside))
  first_once (Some n) None long to from h k = absurd (k h.position (omega (arith, h.below, long)) (to h.position h.below h.outside))
  first_once (Some n) (Some m) long to from h k = elim (in_order h.position k.position) [
    | inl less ↦ absurd (k.before h.position less (to h.position h.below h.outside))
    | inr r ↦ elim r [
      | inl more ↦ absurd (h.before k.position more (from k.position (omega (arith, k.below, long)) k.outside))
      | inr same ↦ ap (λ (p : ℕ). Some p) (h.numbered ∙ ap suc same ∙ sym k.numbered)
    ]
  ]

module _ (P : TransducerRule ℕ → Type 0) (rules : List (TransducerRule ℕ)) where
  first_from : (left n : ℕ) → n + left ≡ length rules → ((m : ℕ) → m < n → P (transducer_rule rules m) → ⊥) → ((o : Option ℕ) → IsFirstSuch P rules o → ⊥) → ⊥
  first_from zero n all before never = never None (λ m h. before m (omega (arith, h, all)))
  first_from (suc left) n all before never =
      first_from left (suc n) (omega (arith, all)) (λ m h p. elim (in_order m n) [
        | inl less ↦ before m less p
        | inr r ↦ elim r [
          | inl more ↦ omega (arith, h, more)
          | inr same ↦
              never (Some (suc n)) (record {
                position = n;
                numbered = refl;
                below = omega (arith, all);
                outside = subst (λ (k : ℕ). P (transducer_rule rules k)) same p;
                before = before;
              })
        ]
      ]) never

  first_there : ((o : Option ℕ) → IsFirstSuch P rules o → ⊥) → ⊥
  first_there never = first_from (length rules) 0 (omega arith) (λ m h p. omega (arith, h)) never

-- rules that agree by the texts of their labels are of the same classes

module _ (labels others : List (List ℕ)) where
  pub variables_along :
      (ts us : Trees (Symbol ℕ Variable)) → HaveOneShape (AgreeOnLeft labels others) ts us → Along (AreOneVariable labels others) (holes ts) (holes us)
  variables_along none none h = tt
  variables_along none (tree g below more) h = absurd h
  variables_along (tree f kids rest) none h = absurd h
  variables_along (tree (label f) kids rest) (tree (label g) below more) h =
      along_append (AreOneVariable labels others) (holes kids) (holes rest) (holes below) (holes more) (variables_along kids below h.1) (variables_along rest more h.2)
  variables_along (tree (label f) kids rest) (tree (hole y) below more) h = absurd h.0
  variables_along (tree (hole x) kids rest) (tree (label g) below more) h = absurd h.0
  variables_along (tree (hole x) kids rest) (tree (hole y) below more) h = (h.0, variables_along rest more h.2)

  labels_same : (ts us : Trees (Symbol ℕ Variable)) → HaveOneShape (AgreeOnLeft labels others) ts us → labels_in ts ≡ labels_in us
  labels_same none none h = refl
  labels_same none (tree g below more) h = absurd h
  labels_same (tree f kids rest) none h = absurd h
  labels_same (tree (label f) kids rest) (tree (label g) below more) h = omega (arith, labels_same kids below h.1, labels_same rest more h.2)
  labels_same (tree (label f) kids rest) (tree (hole y) below more) h = absurd h.0
  labels_same (tree (hole x) kids rest) (tree (label g) below more) h = absurd h.0
  labels_same (tree (hole x) kids rest) (tree (hole y) below more) h = labels_same rest more h.2

  abbrev used : Trees (Symbol ℕ (Pair ℕ)) → List ℕ
  used ts = map (λ x. x.variable) (holes ts)

  -- what is used on the right of two lists of sides, one after the other
  used_more : (xs zs : List (Pair ℕ)) → map (λ x. x.variable) (xs ++ zs) ≡ map (λ x. x.variable) xs ++ map (λ x. x.variable) zs
  used_more [] zs = refl
  used_more (x ∷ xs) zs = ap (λ (ns : List ℕ). x.variable ∷ ns) (used_more xs zs)

  used_same : (ts us : Trees (Symbol ℕ (Pair ℕ))) → HaveOneShape (AgreeOnRight labels others) ts us → used ts ≡ used us
  used_same none none h = refl
  used_same none (tree g below more) h = absurd h
  used_same (tree f kids rest) none h = absurd h
  used_same (tree (label f) kids rest) (tree (label g) below more) h =
      used_more (holes kids) (holes rest)
      ∙ ap (λ (ns : List ℕ). ns ++ used rest) (used_same kids below h.1)
      ∙ ap (λ (ns : List ℕ). used below ++ ns) (used_same rest more h.2)
      ∙ sym (used_more (holes below) (holes more))
  used_same (tree (label f) kids rest) (tree (hole y) below more) h = absurd h.0
  used_same (tree (hole x) kids rest) (tree (label g) below more) h = absurd h.0
  used_same (tree (hole x) kids rest) (tree (hole y) below more) h = ap (λ (n : ℕ). n ∷ used rest) h.0.1 ∙ ap (λ (ns : List ℕ). y.variable ∷ ns) (used_same rest more h.2)

  -- each variable is among some numbers
  pub all_used : (ns : List ℕ) (xs ys : List Variable) → Along (AreOneVariable labels others) xs ys → Each (λ x. Has ns x.number) xs → Each (λ y. Has ns y.number) ys
  all_used ns [] [] a e = tt
  all_used ns [] (y ∷ ys) a e = absurd a
  all_used ns (x ∷ xs) [] a e = absurd a
  all_used ns (x ∷ xs) (y ∷ ys) a e = (subst (Has ns) a.0.0 e.0, all_used ns xs ys a.1 e.1)

  pub all_used_back : (ns : List ℕ) (xs ys : List Variable) → Along (AreOneVariable labels others) xs ys → Each (λ y. Has ns y.number) ys → Each (λ x. Has ns x.number) xs
  all_used_back ns [] [] a e = tt
  all_used_back ns [] (y ∷ ys) a e = absurd a
  all_used_back ns (x ∷ xs) [] a e = absurd a
  all_used_back ns (x ∷ xs) (y ∷ ys) a e = (subst (Has ns) (sym a.0.0) e.0, all_used_back ns xs ys a.1 e.1)

  -- a variable with a label
  asks : (x y : Option ℕ) (f : ℕ) → AskForOneText labels others x y → x ≡ Some f → (g : ℕ) × (y ≡ Some g)
  asks None y f a e = absurd (cc e)
  asks (Some h) None f a e = absurd a
  asks (Some h) (Some g) f a e = (g, refl)

  asks_back : (x y : Option ℕ) (g : ℕ) → AskForOneText labels others x y → y ≡ Some g → (f : ℕ) × (x ≡ Some f)
  asks_back x None g a e = absurd (cc e)
  asks_back None (Some h) g a e = absurd a
  asks_back (Some f) (Some h) g a e = (f, refl)

  abbrev OneAsks : List Variable → Type 0
  OneAsks xs = (x : Variable) × Has xs x × (f : ℕ) × (x.label ≡ Some f)

  one_asks : (xs ys : List Variable) → Along (AreOneVariable labels others) xs ys → (x : Variable) → Has xs x → (f : ℕ) → x.label ≡ Some f → OneAsks ys
  one_asks [] ys a x h f e = absurd h
  one_asks (z ∷ xs) [] a x h f e = absurd a
  one_asks (z ∷ xs) (y ∷ ys) a x (inl same) f e = let g = asks z.label y.label f a.0.1 (ap (λ (v : Variable). v.label) same ∙ e) in (y, inl refl, g.0, g.1)
  one_asks (z ∷ xs) (y ∷ ys) a x (inr h) f e = let o = one_asks xs ys a.1 x h f e in (o.0, inr o.1, o.2, o.3)

  one_asks_back : (xs ys : List Variable) → Along (AreOneVariable labels others) xs ys → (y : Variable) → Has ys y → (g : ℕ) → y.label ≡ Some g → OneAsks xs
  one_asks_back xs [] a y h g e = absurd h
  one_asks_back [] (z ∷ ys) a y h g e = absurd a
  one_asks_back (x ∷ xs) (z ∷ ys) a y (inl same) g e = let f = asks_back x.label z.label g a.0.1 (ap (λ (v : Variable). v.label) same ∙ e) in (x, inl refl, f.0, f.1)
  one_asks_back (x ∷ xs) (z ∷ ys) a y (inr h) g e = let o = one_asks_back xs ys a.1 y h g e in (o.0, inr o.1, o.2, o.3)

  -- a label at the root
  label_along : (x y : Symbol ℕ (Pair ℕ)) → AgreeOnRight labels others x y → (f : ℕ) → x ≡ label f → (g : ℕ) × (y ≡ label g)
  label_along (label h) (label g) a f e = (g, refl)
  label_along (label h) (hole y) a f e = absurd a
  label_along (hole x) y a f e = absurd (cc e)

  label_back : (x y : Symbol ℕ (Pair ℕ)) → AgreeOnRight labels others x y → (g : ℕ) → y ≡ label g → (f : ℕ) × (x ≡ label f)
  label_back (label f) (label h) a g e = (f, refl)
  label_back (hole x) (label h) a g e = absurd a
  label_back x (hole y) a g e = absurd (cc e)

  module _ (r s : TransducerRule ℕ) (one : AreOneTransducerRule labels others r s) where
    pub strict_to : IsStrict r → IsStrict s
    strict_to h = let g = label_along r.right.label s.right.label one.right.0 h.root h.is_root in record { root = g.0; is_root = g.1 }

    pub strict_from : IsStrict s → IsStrict r
    strict_from h = let f = label_back r.right.label s.right.label one.right.0 h.root h.is_root in record { root = f.0; is_root = f.1 }

    pub linear_to : IsLinear r → IsLinear s
    linear_to h = subst (λ (ns : List ℕ). Distinct ns) (used_same (only r.right) (only s.right) one.right) h

    pub linear_from : IsLinear s → IsLinear r
    linear_from h = subst (λ (ns : List ℕ). Distinct ns) (sym (used_same (only r.right) (only s.right) one.right)) h

    pub nondeleting_to : IsNondeleting r → IsNondeleting s
    nondeleting_to h =
        all_used (variables_in s.right) (variables_of r.left) (variables_of s.left) (variables_along (only r.left) (only s.left) one.left)
        (subst (λ (ns : List ℕ). Each (λ x. Has ns x.number) (variables_of r.left)) (used_same (only r.right) (only s.right) one.right) h)

    pub nondeleting_from : IsNondeleting s → IsNondeleting r
    nondeleting_from h =
        subst (λ (ns : List ℕ). Each (λ x. Has ns x.number) (variables_of r.left)) (sym (used_same (only r.right) (only s.right) one.right))
        (all_used_back (variables_in s.right) (variables_of r.left) (variables_of s.left) (variables_along (only r.left) (only s.left) one.left) h)

    pub extended_to : IsExtended r → IsExtended s
    extended_to h = omega (arith, h, labels_same (only r.left) (only s.left) one.left)

    pub extended_from : IsExtended s → IsExtended r
    extended_from h = omega (arith, h, labels_same (only r.left) (only s.left) one.left)

    pub labelled_to : IsLabelled r → IsLabelled s
    labelled_to h =
        let o = one_asks (variables_of r.left) (variables_of s.left) (variables_along (only r.left) (only s.left) one.left) h.variable h.stands h.root h.labelled in
        record { variable = o.0; stands = o.1; root = o.2; labelled = o.3 }

    pub labelled_from : IsLabelled s → IsLabelled r
    labelled_from h =
        let o = one_asks_back (variables_of r.left) (variables_of s.left) (variables_along (only r.left) (only s.left) one.left) h.variable h.stands h.root h.labelled in
        record { variable = o.0; stands = o.1; root = o.2; labelled = o.3 }

  pub rules_long : (rs ss : List (TransducerRule ℕ)) → Along (AreOneTransducerRule labels others) rs ss → length rs ≡ length ss
  rules_long [] [] a = refl
  rules_long [] (s ∷ ss) a = absurd a
  rules_long (r ∷ rs) [] a = absurd a
  rules_long (r ∷ rs) (s ∷ ss) a = ap suc (rules_long rs ss a.1)

  pub rule_at : (rs ss : List (TransducerRule ℕ)) → Along (AreOneTransducerRule labels others) rs ss → (n : ℕ) → n < length rs → AreOneTransducerRule labels others (transducer_rule rs n) (transducer_rule ss n)
  rule_at [] ss a n h = absurd (omega arith)
  rule_at (r ∷ rs) [] a n h = absurd a
  rule_at (r ∷ rs) (s ∷ ss) a zero h = a.0
  rule_at (r ∷ rs) (s ∷ ss) a (suc n) h = rule_at rs ss a.1 n (omega arith)

  pub classes_once : (t u : TransducerOf) (text other : List ℕ) → AreOneTransducer labels others t u → HasClasses t text → HasClasses u other → text ≡ other
  classes_once t u text other agree a b =
      let long : length t.rules ≡ length u.rules = rules_long t.rules u.rules agree.rules in
      let at : (n : ℕ) → n < length t.rules → AreOneTransducerRule labels others (transducer_rule t.rules n) (transducer_rule u.rules n) = rule_at t.rules u.rules agree.rules in
      let linear : a.not_linear ≡ b.not_linear =
      first_once (λ r. IsLinear r → ⊥) (λ r. IsLinear r → ⊥) t.rules u.rules a.not_linear b.not_linear long (λ n h no_more k. no_more (linear_from _ _ (at n h) k)) (λ n h no_more k. no_more (linear_to _ _ (at n h) k))
      a.first_not_linear b.first_not_linear in
      let nondeleting : a.not_nondeleting ≡ b.not_nondeleting =
      first_once (λ r. IsNondeleting r → ⊥) (λ r. IsNondeleting r → ⊥) t.rules u.rules a.not_nondeleting b.not_nondeleting long (λ n h no_more k. no_more (nondeleting_from _ _ (at n h) k))
      (λ n h no_more k. no_more (nondeleting_to _ _ (at n h) k)) a.first_not_nondeleting b.first_not_nondeleting in
      let extended : a.extended ≡ b.extended =
      first_once IsExtended IsExtended t.rules u.rules a.extended b.extended long (λ n h. extended_to _ _ (at n h)) (λ n h. extended_from _ _ (at n h)) a.first_extended b.first_extended in
      let labelled : a.labelled ≡ b.labelled =
      first_once IsLabelled IsLabelled t.rules u.rules a.labelled b.labelled long (λ n h. labelled_to _ _ (at n h)) (λ n h. labelled_from _ _ (at n h)) a.first_labelled b.first_labelled in
      a.are
      ∙ ap (λ (o : Option ℕ). class_lines o a.not_nondeleting a.extended a.labelled) linear
      ∙ ap (λ (o : Option ℕ). class_lines b.not_linear o a.extended a.labelled) nondeleting
      ∙ ap (λ (o : Option ℕ). class_lines b.not_linear b.not_nondeleting o a.labelled) extended
      ∙ ap (class_lines b.not_linear b.not_nondeleting b.extended) labelled
      ∙ sym b.are

pub classes_there : (t : TransducerOf) → ((text : List ℕ) → HasClasses t text → ⊥) → ⊥
classes_there t never =
    first_there (λ r. IsLinear r → ⊥) t.rules (λ a ha.
    first_there (λ r. IsNondeleting r → ⊥) t.rules (λ b hb.
    first_there IsExtended t.rules (λ c hc.
    first_there IsLabelled t.rules (λ d hd.
    never (class_lines a b c d) (record {
      not_linear = a;
      not_nondeleting = b;
      extended = c;
      labelled = d;
      first_not_linear = ha;
      first_not_nondeleting = hb;
      first_extended = hc;
      first_labelled = hd;
      are = refl;
    })))))
