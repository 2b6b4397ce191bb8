-- In rules that are deterministic below the root the candidates of a state stand for different
-- trees.
use Rattle.std.specs.Prelude.{◌≡◌, ℕ, ◌<◌, ◌⊎◌, Bool, Some, List, [], ◌∷◌, length, refl}
use Rattle.std.proofs.Common.{ap, sym, ◌∙◌, subst, inl, inr}
use Rattle.tib_lex.specs.Lists.{Has, Along}
use Rattle.tib_tree.specs.Trees.{Tree, Trees, none, tree, only}
use Rattle.tib_tree.proofs.Orderings.{three_ways}
use Rattle.tib_cost.specs.Semiring.{ProductLaws}
use Rattle.tib_cost.proofs.Least.{IsLeast-unique}
use Rattle.tib_grammar.specs.Sides.{Side as SideFor, HolesAreLeaves, label, holes, holes_of, over}
use Rattle.tib_grammar.specs.Run.{rule_at, AreRuns, yields}
use Rattle.tib_grammar.specs.Forms.{AreNormal, IsNormalSide, StandsInSide}
use Rattle.tib_grammar.specs.Range.{SidesEndInHoles}
use Rattle.tib_grammar.specs.declared.Rule.{Rule}
use Rattle.tib_grammar.proofs.OneRun.{UsesNormal, rooted}
use Rattle.tib_grammar.proofs.Sides.{holes_of-label, over-from}
use Rattle.tib_lex.proofs.Members.{each_has, has_at}
use Rattle.tib_ranked_trees.specs.Below.{IsDeterministicBelow}
use Rattle.tib_ranked_trees.specs.First.{IsFront}
use Rattle.tib_ranked_trees.specs.Best.{Cheaper, IsTreeAt}
use Rattle.tib_ranked_trees.specs.Levels.{root_of, trees_of, states_of}
use Rattle.tib_ranked_trees.specs.Pass.{Entries, no_entry, entry_at, picked, AreRanks, offer, HasTree}
use Rattle.tib_ranked_trees.specs.Lazy.{IsNamed, IsFrom, NoDuplicates}
use Rattle.tib_ranked_trees.proofs.Fronts.{not_itself}
use Rattle.tib_ranked_trees.proofs.Ranks.{cheaper_strict}
use Rattle.tib_ranked_trees.proofs.Opening.{costs_of, root_label}
use Rattle.tib_ranked_trees.proofs.Telling.{tree_same}
use Rattle.tib_ranked_trees.proofs.Walking.{along_picked, ascends_at}

-- normal sides with the same label and holes are the same
same_side :
    (s t : SideFor ℕ ℕ) (f : ℕ) → IsNormalSide s → IsNormalSide t → HolesAreLeaves (only s) → HolesAreLeaves (only t) → s.label ≡ label f → t.label ≡ label f →
    holes s.kids ≡ holes t.kids → s ≡ t
same_side s t f m n h k e d same = over-from s f e m.are_holes h ∙ ap (over f) same ∙ sym (over-from t f d n.are_holes k)

module _ (rules : List (Rule ℕ)) (ends : SidesEndInHoles rules) (form : IsDeterministicBelow rules) where
  -- each of these states is in some right-hand side
  abbrev Inside : List ℕ → Type 0
  Inside qs = (q : ℕ) → Has qs q → StandsInSide rules q

  -- as are those below a normal rule
  inside_of : (n f : ℕ) → n < length rules → (rule_at rules n).right.label ≡ label f → Inside (holes (rule_at rules n).right.kids)
  inside_of n f h e q k = record {
    rule = n;
    below = h;
    stands = subst (λ qs. Has qs q) (sym (holes_of-label (rule_at rules n).right.label (rule_at rules n).right.kids f e)) k;
  }

  -- runs from such states by normal rules that yield the same are the same
  one_run_inside :
      (one two : Trees ℕ) (qs rs : List ℕ) → UsesNormal rules one → UsesNormal rules two → AreRuns rules qs one → AreRuns rules rs two → Inside qs → Inside rs → yields rules one ≡ yields rules two →
      (one ≡ two) × (qs ≡ rs)
  one_run_inside none none [] [] u v a b i j e = (refl, refl)
  one_run_inside none none [] (r ∷ rs) u v a b i j e = absurd b
  one_run_inside none none (q ∷ qs) rs u v a b i j e = absurd a
  one_run_inside none (tree m runs more) qs [] u v a b i j e = absurd b
  one_run_inside none (tree m runs more) qs (r ∷ rs) u v a b i j e =
      let y = rooted rules m runs more v.0 b.2 in
      absurd (cc (e ∙ y.yielded))
  one_run_inside (tree n runs rest) two [] rs u v a b i j e = absurd a
  one_run_inside (tree n runs rest) none (q ∷ qs) rs u v a b i j e =
      let x = rooted rules n runs rest u.0 a.2 in
      absurd (cc (sym x.yielded ∙ e))
  one_run_inside (tree n runs rest) (tree m others more) (q ∷ qs) [] u v a b i j e = absurd b
  one_run_inside (tree n runs rest) (tree m others more) (q ∷ qs) (r ∷ rs) u v a b i j e =
      let x = rooted rules n runs rest u.0 a.2 in
      let y = rooted rules m others more v.0 b.2 in
      let whole : tree x.root (yields rules runs) (yields rules rest) ≡ tree y.root (yields rules others) (yields rules more) = sym x.yielded ∙ e ∙ y.yielded in
      let root : x.root ≡ y.root = cc whole in
      let inner : yields rules runs ≡ yields rules others = cc whole in
      let outer : yields rules rest ≡ yields rules more = cc whole in
      let below =
      one_run_inside runs others (holes (rule_at rules n).right.kids) (holes (rule_at rules m).right.kids) u.1 v.1 x.below y.below (inside_of n x.root a.0 x.is_label) (inside_of m y.root b.0 y.is_label)
      inner
      in
      let after = one_run_inside rest more qs rs u.2 v.2 a.3 b.3 (λ p h. i p (inr h)) (λ p h. j p (inr h)) outer in
      let sides : (rule_at rules n).right ≡ (rule_at rules m).right =
      same_side (rule_at rules n).right (rule_at rules m).right x.root u.0 v.0 (ends n a.0) (ends m b.0) x.is_label (y.is_label ∙ ap label (sym root)) below.1
      in
      let same : n ≡ m = elim (form.apart n m a.0 b.0 sides) [
        | inl number ↦ number
        | inr outer ↦ absurd (elim outer [
          | inl here ↦ here (subst (StandsInSide rules) (sym a.1) (i q (inl refl)))
          | inr there ↦ there (subst (StandsInSide rules) (sym b.1) (j r (inl refl)))
        ])
      ]
      in
      let state : q ≡ r = sym a.1 ∙ ap (λ k. (rule_at rules k).left) same ∙ b.1 in
      (cc (same, below.0, after.0), cc (state, after.1))

module _ {levelled weighted : Bool} {product : ℕ → ℕ → ℕ} (laws : ProductLaws levelled weighted product) (labels : List (List ℕ)) (rules : List (Rule ℕ)) (entries : Entries) (normal : AreNormal rules)
    (ends : SidesEndInHoles rules) (form : IsDeterministicBelow rules) (fronts : (q : ℕ) → IsFront (IsTreeAt product rules q) (Cheaper labels) (entries q)) where
  uses_normal : (runs : Trees ℕ) (qs : List ℕ) → AreRuns rules qs runs → UsesNormal rules runs
  uses_normal none qs a = tt
  uses_normal (tree n runs rest) [] a = absurd a
  uses_normal (tree n runs rest) (q ∷ qs) a = (normal n a.0, uses_normal runs (holes_of (rule_at rules n).right) a.2, uses_normal rest qs a.3)

  -- trees are made from one list of states that are in right-hand sides
  states_same :
      (ps qs : List ℕ) (zs ws : List (Tree ℕ × ℕ)) → Along (IsTreeAt product rules) ps zs → Along (IsTreeAt product rules) qs ws → Inside rules ends form ps → Inside rules ends form qs →
      trees_of zs ≡ trees_of ws → ps ≡ qs
  states_same ps qs zs ws a b i j e =
      let r = costs_of laws rules normal ps zs a in
      let s = costs_of laws rules normal qs ws b in
      (one_run_inside rules ends form r.runs s.runs ps qs (uses_normal r.runs ps r.are_runs) (uses_normal s.runs qs s.are_runs) r.are_runs s.are_runs i j (r.yielded ∙ e ∙ sym s.yielded)).1

  inside_here : (n : ℕ) → n < length rules → Inside rules ends form (states_of (rule_at rules n))
  inside_here n h = inside_of rules ends form n (root_of (rule_at rules n).right.label) h (root_label (rule_at rules n).right.label (normal n h).is_label)

  rank_same : (p i j : ℕ) → i < length (entries p) → j < length (entries p) → (entry_at entries p i).0 ≡ (entry_at entries p j).0 → i ≡ j
  rank_same p i j h k e =
      let a : IsTreeAt product rules p (entry_at entries p i) = each_has (IsTreeAt product rules p) (entries p) (entry_at entries p i) (fronts p).members (has_at (entries p) i no_entry h) in
      let b : IsTreeAt product rules p (entry_at entries p j) = each_has (IsTreeAt product rules p) (entries p) (entry_at entries p j) (fronts p).members (has_at (entries p) j no_entry k) in
      let c : (entry_at entries p i).1 ≡ (entry_at entries p j).1 =
      let s : Some (entry_at entries p i).1 ≡ Some (entry_at entries p j).1 = IsLeast-unique (subst (λ t. IsTreeAt product rules p (t, (entry_at entries p i).1)) e a) b in cc
      in
      let same : entry_at entries p i ≡ entry_at entries p j = ap (λ t. (t, (entry_at entries p i).1)) e ∙ ap (λ d. ((entry_at entries p j).0, d)) c in
      elim (three_ways i j) [
        | inl l ↦ absurd (not_itself (cheaper_strict labels) (entry_at entries p i) (entry_at entries p j) same (ascends_at (Cheaper labels) no_entry (entries p) (fronts p).ascends i j l k))
        | inr o ↦ elim o [
          | inl s ↦ s
          | inr l ↦ absurd (not_itself (cheaper_strict labels) (entry_at entries p j) (entry_at entries p i) (sym same) (ascends_at (Cheaper labels) no_entry (entries p) (fronts p).ascends j i l h))
        ]
      ]

  ranks_same : (ps is js : List ℕ) → AreRanks entries ps is → AreRanks entries ps js → trees_of (picked entries ps is) ≡ trees_of (picked entries ps js) → is ≡ js
  ranks_same [] [] [] r s e = refl
  ranks_same [] [] (j ∷ js) r s e = absurd s
  ranks_same [] (i ∷ is) js r s e = absurd r
  ranks_same (p ∷ ps) [] js r s e = absurd r
  ranks_same (p ∷ ps) (i ∷ is) [] r s e = absurd s
  ranks_same (p ∷ ps) (i ∷ is) (j ∷ js) r s e =
      let f : (entry_at entries p i).0.label ≡ (entry_at entries p j).0.label = cc in
      let k : (entry_at entries p i).0.kids ≡ (entry_at entries p j).0.kids = cc in
      let rest : trees_of (picked entries ps is) ≡ trees_of (picked entries ps js) = cc in
      let one : i ≡ j = rank_same p i j r.0 s.0 (tree_same (entry_at entries p i).0 (entry_at entries p j).0 f k) in
      let others : is ≡ js = ranks_same ps is js r.1 s.1 rest in
      cc

  apart :
      (n m : ℕ) (js is : List ℕ) → IsNamed rules entries n js → IsNamed rules entries m is → (rule_at rules n).left ≡ (rule_at rules m).left →
      (offer product rules entries n js).0 ≡ (offer product rules entries m is).0 → ◌≡◌ {A = ℕ × List ℕ} (n, js) (m, is)
  apart n m js is a b left e =
      let kids : trees_of (picked entries (states_of (rule_at rules n)) js) ≡ trees_of (picked entries (states_of (rule_at rules m)) is) = ap (λ (t : Tree ℕ). t.kids) e in
      let root : root_of (rule_at rules n).right.label ≡ root_of (rule_at rules m).right.label = ap (λ (t : Tree ℕ). t.label) e in
      let states : states_of (rule_at rules n) ≡ states_of (rule_at rules m) =
      states_same (states_of (rule_at rules n)) (states_of (rule_at rules m)) (picked entries (states_of (rule_at rules n)) js) (picked entries (states_of (rule_at rules m)) is)
      (along_picked product labels rules entries fronts (states_of (rule_at rules n)) js a.ranks) (along_picked product labels rules entries fronts (states_of (rule_at rules m)) is b.ranks)
      (inside_here n a.below) (inside_here m b.below) kids
      in
      let right : (rule_at rules n).right ≡ (rule_at rules m).right =
      over-from (rule_at rules n).right (root_of (rule_at rules n).right.label) (root_label (rule_at rules n).right.label (normal n a.below).is_label) (normal n a.below).are_holes (ends n a.below)
      ∙ ap (λ f. over f (states_of (rule_at rules n))) root ∙ ap (over (root_of (rule_at rules m).right.label)) states
      ∙ sym (over-from (rule_at rules m).right (root_of (rule_at rules m).right.label) (root_label (rule_at rules m).right.label (normal m b.below).is_label) (normal m b.below).are_holes (ends m b.below))
      in
      let rule : n ≡ m = form.once n m a.below b.below left right in
      let ranks : js ≡ is =
      ranks_same (states_of (rule_at rules m)) js is (subst (λ ps. AreRanks entries ps js) states a.ranks) b.ranks (ap (λ ps. trees_of (picked entries ps js)) (sym states) ∙ kids)
      in
      ap (λ x. (x, js)) rule ∙ ap (λ x. (m, x)) ranks

  new :
      (taken : List (ℕ × List ℕ)) (u n : ℕ) (js : List ℕ) → IsNamed rules entries n js → (rule_at rules n).left ≡ u → ((x : ℕ × List ℕ) → Has taken x → (rule_at rules x.0).left ≡ u) →
      ((t : Tree ℕ) → HasTree (entries u) t → IsFrom product rules entries taken t) →
      (Has taken (n, js) → ⊥) → HasTree (entries u) (offer product rules entries n js).0 → ⊥
  new taken u n js a left own from out h =
      let f = from (offer product rules entries n js).0 h in
      let same : ◌≡◌ {A = ℕ × List ℕ} (f.rule, f.ranks) (n, js) = apart f.rule n f.ranks js f.named a (own (f.rule, f.ranks) f.stands ∙ sym left) f.same in
      out (subst (Has taken) same f.stands)

pub no_duplicates : {levelled weighted : Bool} {product : ℕ → ℕ → ℕ} → ProductLaws levelled weighted product → NoDuplicates product
no_duplicates laws = record {
  apart = λ labels rules entries normal ends form fronts n m js is a b left e. apart laws labels rules entries normal ends form fronts n m js is a b left e;
  new = λ labels rules entries normal ends form fronts taken u n js a left own from out h. new laws labels rules entries normal ends form fronts taken u n js a left own from out h;
}
