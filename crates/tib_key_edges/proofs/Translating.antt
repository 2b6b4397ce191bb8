-- Translations of sides, and runs of the second transducer on what fills these sides.
use Rattle.std.specs.Prelude.{◌≡◌, ℕ, ◌+◌, ◌<◌, List, [], ◌∷◌, length, Bool, Option, None, Some, refl}
use Rattle.std.proofs.Common.{zero, suc, arith, ap, sym, ◌∙◌, subst, inl, inr}
use Rattle.tib_lex.specs.Lists.{Has, Each}
use Rattle.tib_tree.specs.Trees.{Tree, Trees, none, tree, count, join, only, join-none, count-join}
use Rattle.tib_lex.proofs.Lists.{append_nil}
use Rattle.tib_grammar.specs.Sides.{Symbol, label, hole, Side as SideFor, holes, holes_of, fill, AreHoles}
use Rattle.tib_cost.specs.Semiring.{ProductLaws}
use Rattle.tib_cost.specs.Least.{Products}
use Rattle.tib_transducer.specs.Rules.{transducer_rule, states_in, variables_in}
use Rattle.tib_transducer.specs.Run.{pick, AreTransducerRuns, Binds, AreBound, Reads, outputs, transducer_cost}
use Rattle.tib_transducer.specs.Series.{IsTransducerCost}
use Rattle.tib_transducer.specs.Classes.{labels_in}
use Rattle.tib_transducer.specs.Range.{AreShaped, AreNumbered}
use Rattle.tib_key_edges.specs.Plain.{ArePlain}
use Rattle.tib_key_edges.specs.Translations.{plug, IsOver, AreTranslations, translated, choice_cost}
use Rattle.tib_transducer.specs.declared.Pair.{Pair}
use Rattle.tib_transducer.specs.declared.Variable.{Variable}
use Rattle.tib_transducer.specs.declared.TransducerRule.{TransducerRule}
use Rattle.tib_key_edges.proofs.Filling.{Filled, fill_label, count-plug, count-filled, mix, filled_join, filled_split, unplug, plugged}
use Rattle.tib_key_edges.proofs.Permuted.{IsPermutation, picked, restored}
use Rattle.tib_transducer.proofs.Products.{swap_first}
use Rattle.std.proofs.lemmas.List.{length-map}
use Rattle.tib_cost.proofs.Times.{product-zero}
use Rattle.tib_key_edges.proofs.Moving.{one_output, moves_join, moves_over}

-- a choice translates each side to one side
pub count-translated : {P : Type 0} (two : List (TransducerRule ℕ)) (choice : Trees (Option ℕ)) (ps : List ℕ) (sides : Trees (Symbol ℕ (Pair P))) → AreTranslations two ps sides choice → count (translated two ps sides choice) ≡ length ps
count-translated two none [] none t = refl
count-translated two none [] (tree s kids rest) t = absurd t
count-translated two none (p ∷ ps) none t = absurd t
count-translated two none (p ∷ ps) (tree s kids rest) t = absurd t
count-translated two (tree c below more) [] none t = absurd t
count-translated two (tree c below more) [] (tree s kids rest) t = absurd t
count-translated two (tree c below more) (p ∷ ps) none t = absurd t
count-translated two (tree None none more) (p ∷ ps) (tree (hole x) kids rest) t = ap suc (count-translated two more ps rest t)
count-translated two (tree None (tree d b m) more) (p ∷ ps) (tree (hole x) kids rest) t = absurd t
count-translated two (tree (Some n) below more) (p ∷ ps) (tree (hole x) kids rest) t = absurd t
count-translated two (tree None below more) (p ∷ ps) (tree (label f) kids rest) t = absurd t
count-translated two (tree (Some n) below more) (p ∷ ps) (tree (label f) kids rest) t =
    let right : SideFor ℕ (Pair ℕ) = (transducer_rule two n).right in
    let inner : count (translated two (states_in right) (pick kids (variables_in right)) below) ≡ length (holes_of right) =
    count-translated two below (states_in right) (pick kids (variables_in right)) t.3 ∙ length-map (holes_of right) (λ x. x.state)
    in
    let one : count (plug (only right) (translated two (states_in right) (pick kids (variables_in right)) below)) ≡ 1 = count-plug (only right) (translated two (states_in right) (pick kids (variables_in right)) below) inner in
    let k = count-translated two more ps rest t.4 in
    count-join (plug (only right) (translated two (states_in right) (pick kids (variables_in right)) below)) (translated two ps rest more)
    ∙ ap (λ z. z + count (translated two ps rest more)) one
    ∙ omega (arith, k)

-- one label over variables

holes_long : {A : Type 0} (s : Trees (Symbol ℕ A)) → AreHoles s → length (holes s) ≡ count s
holes_long none h = refl
holes_long (tree (label f) kids rest) h = absurd h
holes_long (tree (hole x) kids rest) h = ap suc (holes_long rest h)

fill_holes : {A : Type 0} (s : Trees (Symbol ℕ A)) (us : Trees ℕ) → AreHoles s → count us ≡ count s → fill s us ≡ us
fill_holes none none h e = refl
fill_holes none (tree f us more) h e = absurd (omega arith)
fill_holes (tree (label f) kids rest) us h e = absurd h
fill_holes (tree (hole x) kids rest) none h e = absurd (omega arith)
fill_holes (tree (hole x) kids rest) (tree f us more) h e = ap (tree f us) (fill_holes rest more h (omega arith))

no_labels : {A : Type 0} (s : Trees (Symbol ℕ A)) → labels_in s ≡ 0 → AreHoles s
no_labels none e = tt
no_labels (tree (label f) kids rest) e = absurd (omega arith)
no_labels (tree (hole x) kids rest) e = no_labels rest e

-- a left-hand side over n variables has n leaves
pub over_long : {n f : ℕ} (left : SideFor ℕ Variable) → IsOver left f n → length (holes_of left) ≡ n
over_long left o =
    ap (λ l. length (holes (tree l left.kids none))) o.root
    ∙ ap length (append_nil (holes left.kids))
    ∙ holes_long left.kids o.variables
    ∙ o.rank

over_filled : {n f : ℕ} (left : SideFor ℕ Variable) (us : Trees ℕ) → IsOver left f n → count us ≡ n → fill (only left) us ≡ tree f us none
over_filled {n} {f} left us o e =
    ap (λ l. fill (tree l left.kids none) us) o.root
    ∙ ap (fill (tree (label f) left.kids none)) (sym (join-none us))
    ∙ fill_label f left.kids none us none (e ∙ sym o.rank ∙ sym (holes_long left.kids o.variables))
    ∙ ap (λ z. tree f z none) (fill_holes left.kids us o.variables (e ∙ sym o.rank))

binds_all : (o : Option ℕ) (f : ℕ) → ((g : ℕ) → o ≡ Some g → ⊥) → Binds o f
binds_all None f no_label = tt
binds_all (Some g) f no_label = absurd (no_label g refl)

unlabelled_bound : (xs : List Variable) (ts : Trees ℕ) → ((x : Variable) → Has xs x → (g : ℕ) → x.label ≡ Some g → ⊥) → count ts ≡ length xs → AreBound xs ts
unlabelled_bound [] none u n = tt
unlabelled_bound [] (tree f kids rest) u n = absurd (omega arith)
unlabelled_bound (x ∷ xs) none u n = absurd (omega arith)
unlabelled_bound (x ∷ xs) (tree f kids rest) u n = (binds_all x.label f (u x (inl refl)), unlabelled_bound xs rest (λ y h. u y (inr h)) (omega arith))

count-bound : (xs : List Variable) (ts : Trees ℕ) → AreBound xs ts → count ts ≡ length xs
count-bound [] none b = refl
count-bound [] (tree f kids rest) b = absurd b
count-bound (x ∷ xs) none b = absurd b
count-bound (x ∷ xs) (tree f kids rest) b = ap suc (count-bound xs rest b.1)

-- each number below the count of variables is that of one
numbers_stand : (is : List ℕ) (n : ℕ) (xs : List Variable) → AreNumbered n xs → Each (λ x. Has is x.number) xs → (i : ℕ) → i < length xs → Has is (n + i)
numbers_stand is n [] a e i h = absurd (omega arith)
numbers_stand is n (x ∷ xs) a e zero h = let z : x.number ≡ n + 0 = omega (arith, a.0) in subst (Has is) z e.0
numbers_stand is n (x ∷ xs) a e (suc i) h =
    let z : suc n + i ≡ n + suc i = omega arith in
    subst (Has is) z (numbers_stand is (suc n) xs a.1 e.1 i (omega arith))

-- A pair gives its tree at what R says, and a run of the second transducer reads this tree.
abbrev pub Between : (ℕ → ℕ → ℕ) → List (TransducerRule ℕ) → {P : Type 0} → (Pair P → Tree ℕ → ℕ → Type 0) → Pair (P × ℕ) → Tree ℕ → ℕ → Type 0
Between product two R x v c =
    (u : Tree ℕ) × Products product (R (record { state = x.state.0; variable = x.variable }) u) (IsTransducerCost product two (x.state.1 ∷ []) (only u) (only v)) c

-- a rule of the second transducer has one label over variables
pub is_over : (two : List (TransducerRule ℕ)) → AreShaped two → ArePlain two → (n : ℕ) → n < length two → (f : ℕ) × IsOver (transducer_rule two n).left f (count (transducer_rule two n).left.kids)
is_over two shaped plain n h =
    let l = (shaped n h).begins in
    let labels : labels_in (only (transducer_rule two n).left) ≡ suc (labels_in (transducer_rule two n).left.kids + 0) =
    ap (λ z. labels_in (tree z (transducer_rule two n).left.kids none)) l.is_root
    in
    let one : 1 < labels_in (only (transducer_rule two n).left) → ⊥ = (plain n h).one_label in
    (l.root, record { root = l.is_root; variables = no_labels (transducer_rule two n).left.kids (few (labels_in (transducer_rule two n).left.kids) (labels_in (only (transducer_rule two n).left)) one labels); rank = refl })
  where
    few : (k m : ℕ) → (1 < m → ⊥) → m ≡ suc (k + 0) → k ≡ 0
    few zero m no_more e = refl
    few (suc k) m no_more e = absurd (no_more (omega arith))

module _
    {levelled weighted : Bool} {product : ℕ → ℕ → ℕ} (laws : ProductLaws levelled weighted product)
    (two : List (TransducerRule ℕ)) (shaped : AreShaped two) (plain : ArePlain two) where
  -- its right-hand side has each variable once
  permutation : (n f m : ℕ) → n < length two → IsOver (transducer_rule two n).left f m → IsPermutation m (variables_in (transducer_rule two n).right)
  permutation n f m h o =
      let e : length (holes_of (transducer_rule two n).left) ≡ m = over_long (transducer_rule two n).left o in
      record {
        once = (plain n h).linear;
        within = subst (λ k. Each (λ i. i < k) (variables_in (transducer_rule two n).right)) e (shaped n h).known;
        whole = λ i b.
            let z : 0 + i ≡ i = omega arith in
            subst (Has (variables_in (transducer_rule two n).right)) z
            (numbers_stand (variables_in (transducer_rule two n).right) 0 (holes_of (transducer_rule two n).left) (shaped n h).numbered (plain n h).nondeleting i (omega (arith, e)));
      }

  -- a rule that reads the label f over m variables, over runs on the trees below the label
  moves_over_label :
      (n p f m : ℕ) (us ts zs : Trees ℕ) (c : ℕ) → n < length two → (transducer_rule two n).state ≡ p → IsOver (transducer_rule two n).left f m → count us ≡ m →
      pick us (variables_in (transducer_rule two n).right) ≡ ts → IsTransducerCost product two (states_in (transducer_rule two n).right) ts zs c →
      IsTransducerCost product two (p ∷ []) (tree f us none) (fill (only (transducer_rule two n).right) zs) (product (transducer_rule two n).cost c)
  moves_over_label n p f m us ts zs c h s o e same k =
      let counted : count us ≡ length (holes_of (transducer_rule two n).left) = e ∙ sym (over_long (transducer_rule two n).left o) in
      moves_over laws two n p f us us zs c h s
      (unlabelled_bound (holes_of (transducer_rule two n).left) us (λ x k g e. (plain n h).unlabelled (record { variable = x; stands = k; root = g; labelled = e })) counted)
      (over_filled (transducer_rule two n).left us o e)
      (subst (λ z. IsTransducerCost product two (states_in (transducer_rule two n).right) z zs c) (sym same) k)

  module _ {P : Type 0} (R : Pair P → Tree ℕ → ℕ → Type 0) where
    -- the sides are filled, and runs of the second transducer read what fills them
    pub record IsRead (ps : List ℕ) (sides : Trees (Symbol ℕ (Pair P))) (vs : Trees ℕ) (c : ℕ) : Type 0 where
      pub trees : Trees ℕ
      pub first : ℕ
      pub second : ℕ
      pub filled : Filled product R sides trees first
      pub moved : IsTransducerCost product two ps trees vs second
      pub costs : product first second ≡ c

    cost_read : (w x y a b c o p q r : ℕ) → product o p ≡ product x a → product q r ≡ product y b → product a b ≡ c → product (product o q) (product (product w p) r) ≡ product (product (product w x) y) c
    cost_read w x y a b c o p q r first second whole_cost =
        mix laws o q (product w p) r
        ∙ ap (λ z. product z (product q r)) (sym (laws.regroups o w p) ∙ ap (λ z. product z p) (laws.commutes o w) ∙ laws.regroups w o p ∙ ap (product w) first ∙ sym (laws.regroups w x a))
        ∙ ap (product (product (product w x) a)) second
        ∙ mix laws (product w x) a y b
        ∙ ap (product (product (product w x) y)) whole_cost

    -- what fills the translations is made of what fills the sides
    pub translations_read :
        (choice : Trees (Option ℕ)) (ps : List ℕ) (sides : Trees (Symbol ℕ (Pair P))) (vs : Trees ℕ) (c : ℕ) → AreTranslations two ps sides choice →
        Filled product (Between product two R) (translated two ps sides choice) vs c → IsRead ps sides vs (product (choice_cost product two choice) c)
    translations_read none [] none none c t h = record {
      trees = none;
      first = 0;
      second = 0;
      filled = refl;
      moved = record { runs = none; are_runs = tt; reads = tt; output = refl; costs = refl };
      costs = ap (product 0) (sym h);
    }
    translations_read none [] none (tree f us more) c t h = absurd h
    translations_read none [] (tree s kids rest) vs c t h = absurd t
    translations_read none (p ∷ ps) none vs c t h = absurd t
    translations_read none (p ∷ ps) (tree s kids rest) vs c t h = absurd t
    translations_read (tree d below more) [] none vs c t h = absurd t
    translations_read (tree d below more) [] (tree s kids rest) vs c t h = absurd t
    translations_read (tree d below more) (p ∷ ps) none vs c t h = absurd t
    translations_read (tree None (tree d b m) more) (p ∷ ps) (tree (hole x) kids rest) vs c t h = absurd t
    translations_read (tree (Some n) below more) (p ∷ ps) (tree (hole x) kids rest) vs c t h = absurd t
    translations_read (tree None below more) (p ∷ ps) (tree (label f) kids rest) vs c t h = absurd t
    translations_read (tree None none more) (p ∷ ps) (tree (hole x) kids rest) none c t h = absurd h
    translations_read (tree None none more) (p ∷ ps) (tree (hole x) kids rest) (tree f us vs) c t h =
        let r = translations_read more ps rest vs h.1 t h.3 in
        let x_cost = h.2 in
        record {
          trees = tree x_cost.0.label x_cost.0.kids r.trees;
          first = product x_cost.1.0 r.first;
          second = product x_cost.1.1 r.second;
          filled = (x_cost.1.0, r.first, x_cost.1.2, r.filled, refl);
          moved = moves_join laws two p ps (only x_cost.0) r.trees (tree f us none) vs x_cost.1.1 r.second x_cost.1.3 r.moved;
          costs = mix laws x_cost.1.0 r.first x_cost.1.1 r.second
              ∙ ap (λ z. product z (product r.first r.second)) x_cost.1.4
              ∙ ap (product h.0) r.costs
              ∙ swap_first laws h.0 (choice_cost product two more) h.1
              ∙ ap (product (choice_cost product two more)) h.4;
        }
    translations_read (tree (Some n) below more) (p ∷ ps) (tree (label f) kids rest) vs c t h =
        let right : SideFor ℕ (Pair ℕ) = (transducer_rule two n).right in
        let vars : List ℕ = variables_in (transducer_rule two n).right in
        let inner : Trees (Symbol ℕ (Pair (P × ℕ))) = translated two (states_in (transducer_rule two n).right) (pick kids (variables_in (transducer_rule two n).right)) below in
        let inner_long : count (translated two (states_in (transducer_rule two n).right) (pick kids (variables_in (transducer_rule two n).right)) below) ≡ length (holes_of (transducer_rule two n).right) =
        count-translated two below (states_in right) (pick kids vars) t.3 ∙ length-map (holes_of right) (λ x. x.state)
        in
        let s = filled_split laws (Between product two R) (plug (only right) inner) (translated two ps rest more) vs c h in
        let u = unplug laws (Between product two R) (only right) inner s.front s.first inner_long s.filled_front in
        let k = translations_read below (states_in right) (pick kids vars) u.args s.first t.3 u.inner in
        let perm = permutation n f (count kids) t.0 t.2 in
        let back = restored laws R kids vars k.trees k.first perm k.filled in
        let r = translations_read more ps rest s.back s.second t.4 s.filled_back in
        let long : count back.trees ≡ count kids = count-filled laws R kids back.trees k.first back.filled in
        let read : IsTransducerCost product two (p ∷ []) (tree f back.trees none) (fill (only (transducer_rule two n).right) u.args) (product (transducer_rule two n).cost k.second) =
        moves_over_label n p f (count kids) back.trees k.trees u.args k.second t.0 t.1 t.2 long back.back k.moved
        in
        record {
          trees = tree f back.trees r.trees;
          first = product k.first r.first;
          second = product (product (transducer_rule two n).cost k.second) r.second;
          filled = (k.first, r.first, (refl, back.filled), r.filled, refl);
          moved = subst (λ z. IsTransducerCost product two (p ∷ ps) (tree f back.trees r.trees) z (product (product (transducer_rule two n).cost k.second) r.second))
              (ap (λ z. join z s.back) u.filled ∙ s.trees)
              (moves_join laws two p ps (tree f back.trees none) r.trees (fill (only (transducer_rule two n).right) u.args) s.back (product (transducer_rule two n).cost k.second) r.second read r.moved);
          costs = cost_read (transducer_rule two n).cost (choice_cost product two below) (choice_cost product two more) s.first s.second c k.first k.second r.first r.second k.costs r.costs s.costs;
        }

    -- a choice by which the sides are translated, and what fills the translations
    pub record IsChosen (ps : List ℕ) (sides : Trees (Symbol ℕ (Pair P))) (vs : Trees ℕ) (c : ℕ) : Type 0 where
      pub choice : Trees (Option ℕ)
      pub above : ℕ
      pub are : AreTranslations two ps sides choice
      pub filled : Filled product (Between product two R) (translated two ps sides choice) vs above
      pub costs : product (choice_cost product two choice) above ≡ c

    same_trees : (f g : ℕ) (us vs : Trees ℕ) → tree f us none ≡ tree g vs none → (f ≡ g) × (us ≡ vs)
    same_trees f g us vs e = (cc e, cc e)

    -- runs of the second transducer on what fills the sides are a choice and what fills the
    -- translations
    pub translations_chosen :
        (runs : Trees ℕ) (ps : List ℕ) (sides : Trees (Symbol ℕ (Pair P))) (us : Trees ℕ) (c : ℕ) → AreTransducerRuns two ps runs → Reads two runs us → Filled product R sides us c →
        IsChosen ps sides (outputs two runs) (product c (transducer_cost product two runs))
    translations_chosen none [] none none c r d h = record {
      choice = none;
      above = 0;
      are = tt;
      filled = refl;
      costs = ap (λ z. product z 0) (sym h);
    }
    translations_chosen none [] none (tree f us more) c r d h = absurd h
    translations_chosen none [] (tree s kids rest) none c r d h = absurd h
    translations_chosen none [] (tree s kids rest) (tree f us more) c r d h = absurd d
    translations_chosen none (p ∷ ps) sides us c r d h = absurd r
    translations_chosen (tree n runs rest) [] sides us c r d h = absurd r
    translations_chosen (tree n runs rest) (p ∷ ps) none none c r d h = absurd d
    translations_chosen (tree n runs rest) (p ∷ ps) none (tree f us more) c r d h = absurd h
    translations_chosen (tree n runs rest) (p ∷ ps) (tree s kids others) none c r d h = absurd d
    translations_chosen (tree n runs rest) (p ∷ ps) (tree (hole x) kids others) (tree f us more) c r d h =
        let right : SideFor ℕ (Pair ℕ) = (transducer_rule two n).right in
        let w : ℕ = product (transducer_rule two n).cost (transducer_cost product two runs) in
        let k = translations_chosen rest ps others more h.1 r.3 d.1 h.3 in
        let v = one_output laws two n runs r.2 in
        let run : IsTransducerCost product two (p ∷ []) (tree f us none) (only v.0) (product (transducer_rule two n).cost (transducer_cost product two runs)) = record {
          runs = tree n runs none;
          are_runs = (r.0, r.1, r.2, tt);
          reads = (d.0, tt);
          output = join-none (fill (only (transducer_rule two n).right) (outputs two runs)) ∙ v.1;
          costs = product-zero laws (product (transducer_rule two n).cost (transducer_cost product two runs));
        }
        in
        record {
          choice = tree None none k.choice;
          above = product (product h.0 w) k.above;
          are = k.are;
          filled = subst (λ z. Filled product (Between product two R) (translated two (p ∷ ps) (tree (hole x) kids others) (tree None none k.choice)) (join z (outputs two rest)) (product (product h.0 w) k.above)) (sym v.1)
              (product h.0 w, k.above, (record { label = f; kids = us }, (h.0, w, h.2, run, refl)), k.filled, refl);
          costs = swap_first laws (choice_cost product two k.choice) (product h.0 w) k.above
              ∙ ap (product (product h.0 w)) k.costs
              ∙ mix laws h.0 w h.1 (transducer_cost product two rest)
              ∙ ap (λ z. product z (product w (transducer_cost product two rest))) h.4;
        }
    translations_chosen (tree n runs rest) (p ∷ ps) (tree (label g) kids others) (tree f us more) c r d h =
        let right : SideFor ℕ (Pair ℕ) = (transducer_rule two n).right in
        let vars : List ℕ = variables_in (transducer_rule two n).right in
        let w : ℕ = (transducer_rule two n).cost in
        let over = is_over two shaped plain n r.0 in
        let fits = d.0 in
        let args_long : count fits.args ≡ count (transducer_rule two n).left.kids = count-bound (holes_of (transducer_rule two n).left) fits.args fits.bound ∙ over_long (transducer_rule two n).left over.1 in
        let e = same_trees over.0 f fits.args us (sym (over_filled (transducer_rule two n).left fits.args over.1 args_long) ∙ fits.filled) in
        let root : over.0 ≡ g = e.0 ∙ h.2.0 in
        let rank : count (transducer_rule two n).left.kids ≡ count kids = sym args_long ∙ ap count e.1 ∙ count-filled laws R kids us h.0 h.2.1 in
        let is : IsOver (transducer_rule two n).left g (count kids) = record {
          root = over.1.root ∙ ap label root;
          variables = over.1.variables;
          rank = rank;
        }
        in
        let perm = permutation n g (count kids) r.0 is in
        let inner = picked laws R kids us vars h.0 perm h.2.1 in
        let reads : Reads two runs (pick us (variables_in (transducer_rule two n).right)) = subst (λ z. Reads two runs (pick z (variables_in (transducer_rule two n).right))) e.1 fits.below in
        let k = translations_chosen runs (states_in right) (pick kids vars) (pick us vars) h.0 r.2 reads inner in
        let o = translations_chosen rest ps others more h.1 r.3 d.1 h.3 in
        let inner_long : count (translated two (states_in (transducer_rule two n).right) (pick kids (variables_in (transducer_rule two n).right)) k.choice) ≡ length (holes_of (transducer_rule two n).right) =
        count-translated two k.choice (states_in right) (pick kids vars) k.are ∙ length-map (holes_of right) (λ x. x.state)
        in
        record {
          choice = tree (Some n) k.choice o.choice;
          above = product k.above o.above;
          are = (r.0, r.1, is, k.are, o.are);
          filled = filled_join laws (Between product two R)
              (plug (only right) (translated two (states_in right) (pick kids vars) k.choice)) (translated two ps others o.choice)
              (fill (only right) (outputs two runs)) (outputs two rest) k.above o.above
              (plugged laws (Between product two R) (only right) (translated two (states_in right) (pick kids vars) k.choice) (outputs two runs) k.above inner_long k.filled)
              o.filled;
          costs = cost_chosen w (choice_cost product two k.choice) (choice_cost product two o.choice) k.above o.above h.0 h.1 (transducer_cost product two runs) (transducer_cost product two rest) c k.costs o.costs h.4;
        }
      where
        cost_chosen : (w x y a b m n q s c : ℕ) → product x a ≡ product m q → product y b ≡ product n s → product m n ≡ c → product (product (product w x) y) (product a b) ≡ product c (product (product w q) s)
        cost_chosen w x y a b m n q s c first second whole_cost = sym (cost_read w x y a b (product a b) m q n s (sym first) (sym second) refl) ∙ ap (λ z. product z (product (product w q) s)) whole_cost
