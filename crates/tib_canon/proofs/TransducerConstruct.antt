-- What holds for any construction of a transducer.
use Rattle.tib_cost.specs.declared.Scale.{Scale}
use Rattle.std.proofs.Common.{◌≡◌, ◌⊎◌, ℕ, ◌<◌, ◌≤◌, List, [], ◌∷◌, ◌++◌, length, map, get_or, refl, ap, sym, ◌∙◌, subst, arith, inl, inr, zero, suc, Option, append_assoc, append-nil, length-append}
use Rattle.std.specs.Prelude.{Some, None}
use Rattle.std.proofs.lemmas.List.{length-map, get_or-map}
use Rattle.std.proofs.lemmas.Option.{get_or_from_slice_get}
use Rattle.std.specs.declared.cmp.Ordering.{Ordering}
use Rattle.std.specs.declared.cmp.Ordering.TheVariants.{Equal}
use Rattle.tib_lex.specs.Lists.{Has, Each, Distinct}
use Rattle.tib_lex.proofs.Lists.{has_mapped, each_parts, mapped_has}
use Rattle.tib_lex.proofs.Members.{has_at, has_left, has_right, has_either, each_has, each_of}
use Rattle.tib_lex.proofs.Numbers.{below_cases}
use Rattle.tib_lex.proofs.Alongs.{along_of}
use Rattle.tib_tree.specs.Trees.{Trees, none, tree, only, count, preorder, preorder_of, relabel}
use Rattle.tib_grammar.specs.Range.{AllBelow}
use Rattle.tib_grammar.specs.Sides.{Symbol, label, hole, symbol_map, side_map}
use Rattle.tib_grammar.proofs.Below.{below_has}
use Rattle.tib_grammar_file.specs.Printable.{IsPlainCost}
use Rattle.tib_grammar_file.proofs.Renumbering.{Renumbers}
use Rattle.tib_expand.specs.Reached.{Exploration, AfterRounds, IsReached, AreEdges, IsReachedSet, parts_of}
use Rattle.tib_expand.proofs.Reaching.{Laws}
use Rattle.tib_inside.proofs.Chosen.{distinct_at}
use Rattle.tib_transducer.specs.Range.{IsWithin, AreWithin, IsShaped, EndsInHoles, EndInHoles}
use Rattle.tib_transducer.specs.Rules.{transducer_rule, no_rule, variables_of, states_in}
use Rattle.tib_transducer.specs.TransducerOf.{TransducerOf}
use Rattle.tib_transducer.specs.declared.Variable.{Variable}
use Rattle.tib_transducer.specs.declared.Pair.{Pair}
use Rattle.tib_transducer.specs.declared.TransducerRule.{TransducerRule}
use Rattle.tib_transducer_file.specs.ByName.{IsPlainLabel, IsPlainOnLeft, IsPlainOnRight, IsPrintable, states_of, ReadsBack}
use Rattle.tib_transducer_file.specs.Printed.{transducer_text}
use Rattle.tib_canon.specs.Constructions.{HasReachedWithin}
use Rattle.tib_canon.proofs.ConstructionExists.{few_keys}
use Rattle.tib_canon.proofs.PlacesIn.{place_in, stands_at, map_itself}
use Rattle.tib_canon.proofs.ReachedOnce.{one_set, order_once, key_same, reached_apart}
use Rattle.tib_transducer.specs.NamedPairs.{named_pair}
use Rattle.tib_key_edges.specs.Named.{named_transducer_rule}
use Rattle.tib_canon.specs.TransducerConstructions.{TransducerConstruction, moves_over, IsCanonicalTransducerOf}
use Rattle.tib_canon.specs.TransducerKeys.{IsCanonicalTransducer, AreMovesOver}
use Rattle.tib_canon.proofs.TransducerByText.{text_once}
use Rattle.tib_canon.proofs.TransducerExists.{transducer_there}
use Rattle.tib_canon.proofs.TransducerKeysOnce.{member_is, move_told}
use Rattle.tib_canon.proofs.TransducerNamed.{states_named, shaped_named, shaped_back, ends_named, ends_back, move_back, preorder_named}
use Rattle.tib_canon.proofs.Relabelled.{left_with, right_with, move_with, moves_with, moves_commute, ends_with, pairs_kept, KeepsText, KeepsAsked, KeepOnLeft, KeepOnRight, KeepsTexts}
use Rattle.tib_canon.proofs.TransducerTexts.{transducer_read, stands}

-- rules whose edges are among those of others are among these
moves_stand :
    {K : Type 0} (spare : K) (order : List K) → Distinct order → (xs ys : List (TransducerRule ℕ)) → AreWithin (length order) xs → EndInHoles xs → AreWithin (length order) ys → EndInHoles ys →
    ((e : TransducerRule K) → Has (moves_over spare order xs) e → Has (moves_over spare order ys) e) → (r : TransducerRule ℕ) → Has xs r → Has ys r
moves_stand {K} spare order once xs ys range leaves reach ends stand r h =
    let p : ℕ → K = λ n. get_or order n spare in
    let s = has_mapped (named_transducer_rule p) ys (named_transducer_rule p r) (stand (named_transducer_rule p r) (mapped_has (named_transducer_rule p) xs r h)) in
    subst (Has ys)
    (move_told (length order) p (λ i j l m e. distinct_at order i j spare once l m e) s.0 r (member_is (IsWithin (length order)) ys reach s.0 s.1) (member_is (IsWithin (length order)) xs range r h)
    (member_is EndsInHoles ys ends s.0 s.1) (member_is EndsInHoles xs leaves r h) s.2) s.1

-- labels that can be printed over the other table keep their texts
module _ (labels others : List (List ℕ)) (f : ℕ → ℕ) (n : Renumbers labels others f) where
  text_plain : (i : ℕ) → f i < length others → KeepsText labels others f n i
  text_plain i low = let t = n.back i low in get_or_from_slice_get labels i t.text [] t.first ∙ sym (get_or_from_slice_get others (f i) t.text [] t.second)

  asked_plain : (x : Variable) (asked : Option ℕ) → asked ≡ x.label → IsPlainOnLeft others (left_with f (hole x)) → KeepsAsked labels others f n asked
  asked_plain x None e h = tt
  asked_plain x (Some g) e h = text_plain g (subst (λ (a : Option ℕ). IsPlainOnLeft others (left_with f (hole (record { number = x.number; label = a })))) (sym e) h).0

  left_plain : (ts : Trees (Symbol ℕ Variable)) → Each (λ (s : Symbol ℕ Variable × ℕ). IsPlainOnLeft others s.0) (preorder (relabel (left_with f) ts)) → KeepOnLeft labels others f n ts
  left_plain none h = tt
  left_plain (tree (label g) kids rest) h =
      let parts = each_parts (λ (s : Symbol ℕ Variable × ℕ). IsPlainOnLeft others s.0) (preorder (relabel (left_with f) kids)) (preorder (relabel (left_with f) rest)) h.1 in
      (text_plain g h.0.0, left_plain kids parts.0, left_plain rest parts.1)
  left_plain (tree (hole x) kids rest) h =
      let parts = each_parts (λ (s : Symbol ℕ Variable × ℕ). IsPlainOnLeft others s.0) (preorder (relabel (left_with f) kids)) (preorder (relabel (left_with f) rest)) h.1 in
      (asked_plain x x.label refl h.0, left_plain kids parts.0, left_plain rest parts.1)

  right_plain : (ts : Trees (Symbol ℕ (Pair ℕ))) → Each (λ (s : Symbol ℕ (Pair ℕ) × ℕ). IsPlainOnRight others s.0) (preorder (relabel (right_with f) ts)) → KeepOnRight labels others f n ts
  right_plain none h = tt
  right_plain (tree (label g) kids rest) h =
      let parts = each_parts (λ (s : Symbol ℕ (Pair ℕ) × ℕ). IsPlainOnRight others s.0) (preorder (relabel (right_with f) kids)) (preorder (relabel (right_with f) rest)) h.1 in
      (text_plain g h.0.0, right_plain kids parts.0, right_plain rest parts.1)
  right_plain (tree (hole x) kids rest) h =
      let parts = each_parts (λ (s : Symbol ℕ (Pair ℕ) × ℕ). IsPlainOnRight others s.0) (preorder (relabel (right_with f) kids)) (preorder (relabel (right_with f) rest)) h.1 in
      (right_plain kids parts.0, right_plain rest parts.1)

  one_tree_of : {P : Type 0} (s : Symbol ℕ P) (kids : Trees (Symbol ℕ P)) (Q : Symbol ℕ P × ℕ → Type 0) → Each Q ((s, count kids) ∷ preorder kids) → Each Q (preorder (tree s kids none))
  one_tree_of {P} s kids Q h = subst (λ (xs : List (Symbol ℕ P × ℕ)). Each Q ((s, count kids) ∷ xs)) (sym (append-nil (preorder kids))) h

  pub plain_kept : (scale : Scale) (r : TransducerRule ℕ) → IsPrintable scale others (move_with f r) → KeepsTexts labels others f n r
  plain_kept scale r p = record {
    left = left_plain (only r.left) (one_tree_of (left_with f r.left.label) (relabel (left_with f) r.left.kids) (λ s. IsPlainOnLeft others s.0) p.left);
    right = right_plain (only r.right) (one_tree_of (right_with f r.right.label) (relabel (right_with f) r.right.kids) (λ s. IsPlainOnRight others s.0) p.right);
  }

-- Two constructions over two tables of labels, of which the one reaches what the other does, except
-- for the numbers of labels.
pub record AreTransducerConstructionsAlike {K O : Type 0} (f : ℕ → ℕ) (c d : TransducerConstruction K O) : Type 0 where
  pub cmp : c.problem.cmp ≡ d.problem.cmp
  pub spare : c.spare ≡ d.spare
  pub reached : (order : List K) (es : List (TransducerRule K)) → IsReachedSet c.problem order es → IsReachedSet d.problem order (moves_with f es)

module _
    {K O : Type 0} (scale : Scale) (limit : ℕ) (labels others : List (List ℕ)) (f : ℕ → ℕ) (n : Renumbers labels others f) (c d : TransducerConstruction K O) (laws : Laws d.problem)
    (alike : AreTransducerConstructionsAlike f c d) (h i : TransducerOf) (a : IsCanonicalTransducerOf scale labels limit c h) (b : IsCanonicalTransducerOf scale others limit d i) where
  moved : IsReachedSet d.problem a.order (moves_over d.spare a.order (moves_with f a.rules))
  moved =
      subst (λ (s : K). IsReachedSet d.problem a.order (moves_over s a.order (moves_with f a.rules))) alike.spare
      (subst (IsReachedSet d.problem a.order) (sym (moves_commute (λ m. get_or a.order m c.spare) f a.rules)) (alike.reached a.order (moves_over c.spare a.order a.rules) a.reached))

  -- the other construction, over the order of the one
  record IsOverSame (order : List K) : Type 0 where
    reached : IsReachedSet d.problem order (moves_over d.spare order b.rules)
    over : AreMovesOver scale others (length order) b.rules
    canonical : IsCanonicalTransducer scale others d.problem.cmp order b.rules 0 i

  over_same : IsOverSame a.order
  over_same =
      let same = (one_set d.problem laws b.order a.order (moves_over d.spare b.order b.rules) (moves_over d.spare a.order (moves_with f a.rules)) b.reached moved).0 in
      subst IsOverSame same (record { reached = b.reached; over = b.over; canonical = b.canonical })

  once : Distinct a.order
  once = reached_apart d.problem laws over_same.reached.0

  range : AreWithin (length a.order) (moves_with f a.rules)
  range m k =
      let low : m < length a.rules = omega (arith, k, length-map a.rules (move_with f)) in
      let r : TransducerRule ℕ = transducer_rule a.rules m in
      subst (IsWithin (length a.order)) (sym (get_or-map (move_with f) a.rules m no_rule no_rule low))
      ((a.over.within m low).0, subst (λ (ps : List (Pair ℕ)). AllBelow (length a.order) (map (λ x. x.state) ps)) (sym (pairs_kept f r.right)) (a.over.within m low).1)

  leaves : EndInHoles (moves_with f a.rules)
  leaves m k =
      let low : m < length a.rules = omega (arith, k, length-map a.rules (move_with f)) in
      subst EndsInHoles (sym (get_or-map (move_with f) a.rules m no_rule no_rule low)) (ends_with f (transducer_rule a.rules m) (a.over.leaves m low))

  to : (r : TransducerRule ℕ) → Has (moves_with f a.rules) r → Has b.rules r
  to =
      moves_stand d.spare a.order once (moves_with f a.rules) b.rules range leaves over_same.over.within over_same.over.leaves
      (one_set d.problem laws a.order a.order (moves_over d.spare a.order (moves_with f a.rules)) (moves_over d.spare a.order b.rules) moved over_same.reached).1

  from : (r : TransducerRule ℕ) → Has b.rules r → Has (moves_with f a.rules) r
  from =
      moves_stand d.spare a.order once b.rules (moves_with f a.rules) over_same.over.within over_same.over.leaves range leaves
      (one_set d.problem laws a.order a.order (moves_over d.spare a.order b.rules) (moves_over d.spare a.order (moves_with f a.rules)) over_same.reached moved).1

  -- the text does not depend on the numbers of labels
  pub transducer_construction_once : transducer_text scale labels h ≡ transducer_text scale others i
  transducer_construction_once =
      text_once labels others f n d.problem.cmp laws.total_order scale a.order a.rules b.rules 0 h i to from a.over.leaves over_same.over.leaves
      (λ r k. plain_kept labels others f n scale r (each_has (IsPrintable scale others) b.rules (move_with f r) over_same.over.printable (to (move_with f r) (mapped_has (move_with f) a.rules r k))))
      (subst (λ (cmp : K → K → Ordering). IsCanonicalTransducer scale labels cmp a.order a.rules 0 h) alike.cmp a.canonical) over_same.canonical

-- each key of a reached order is a seed, or an edge that is listed ends at it
module _ {K O E : Type 0} (p : Exploration K O E) (laws : Laws p) where
  edge_listed : (order : List K) (n : ℕ) (es : List E) → AreEdges p order n es → (i : ℕ) → i < n → (o : O) (e : E) → p.edge order i o e → Has es e
  edge_listed order zero es l i low o e edge = absurd (omega arith)
  edge_listed order (suc n) es (front, last, is, before, l) i low o e edge =
      subst (λ (xs : List E). Has xs e) (sym is) (elim (below_cases i n (omega arith)) [
        | inl early ↦ has_left front last e (edge_listed order n front before i early o e edge)
        | inr here ↦
            let own : p.edge order n o e = subst (λ m. p.edge order m o e) here edge in
            let y = along_of (p.edge order n) l.origins last o l.given (l.whole o e own) in
            has_right front last e (subst (Has last) (laws.one_edge order n o y.0 e y.1 own) y.2)
      ])

  module _ (final : List K) (es : List E) (listed : AreEdges p final (length final) es) where
    key_stood : (rounds expanded : ℕ) (order rest : List K) → AfterRounds p rounds expanded order → final ≡ order ++ rest → (k : K) → Has order k → p.seed k ⊎ ((e : E) × Has es e × Has (p.ends_of e) k)
    key_stood zero expanded order rest (start, first) is k h = inl ((first.1 k).0 h)
    key_stood (suc rounds) expanded order rest (old, first, new, before, fresh, at, made) is k h =
        let whole : final ≡ old ++ (new ++ rest) = is ∙ ap (λ (l : List K). l ++ rest) made ∙ append_assoc old new rest in
        elim (has_either old new k (subst (λ (l : List K). Has l k) made h)) [
          | inl m ↦ key_stood rounds first old (new ++ rest) before whole k m
          | inr m ↦
              let t = (fresh.1 k).0 m in
              let below : t.0.0 < length old = t.0.2 in
              let end = t.0.3 in
              let edge : p.edge final t.0.0 end.0 end.1 = subst (λ (l : List K). p.edge l t.0.0 end.0 end.1) (sym whole) (laws.stay old (new ++ rest) t.0.0 end.0 end.1 below end.2) in
              inr (end.1, edge_listed final (length final) es listed t.0.0 (omega (arith, below, ap length whole, length-append old (new ++ rest))) end.0 end.1 edge, end.3)
        ]

  pub key_stands : (order : List K) (es : List E) → IsReachedSet p order es → (k : K) → Has order k → p.seed k ⊎ ((e : E) × Has es e × Has (p.ends_of e) k)
  key_stands order es ((rounds, expanded, after, stops), listed) k h = key_stood order es listed rounds expanded order [] after (sym (append-nil order)) k h

-- a label has a text in the table, whatever is at the leaves
abbrev pub IsPlainOn : {P : Type 0} → List (List ℕ) → Symbol ℕ P → Type 0
IsPlainOn labels (label f) = IsPlainLabel labels f
IsPlainOn labels (hole x) = Unit {0}

-- an edge over the keys of an order, which can be printed whatever states stand for its keys
pub record IsMoveOverKeys {K : Type 0} (scale : Scale) (labels : List (List ℕ)) (order : List K) (e : TransducerRule K) : Type 0 where
  pub state : Has order e.state
  pub right : (k : K) → Has (states_in e.right) k → Has order k
  pub shaped : IsShaped e
  pub leaves : EndsInHoles e
  pub reads : Each (λ (s : Symbol ℕ Variable × ℕ). IsPlainOnLeft labels s.0) (preorder_of e.left)
  pub puts_out : Each (λ (s : Symbol ℕ (Pair K) × ℕ). IsPlainOn labels s.0) (preorder_of e.right)
  pub few : length (variables_of e.left) ≤ 1000000000
  pub cost : IsPlainCost scale e.cost

-- What a construction over a table of labels is like: keys that are equal are one, each has a part,
-- something is reached, the first key is the only seed, an edge ends at the states of its
-- right-hand side, and edges can be printed.
pub record IsPlainTransducerConstruction {K O : Type 0} (scale : Scale) (labels : List (List ℕ)) (c : TransducerConstruction K O) : Type 0 where
  pub laws : Laws c.problem
  pub equal : (x y : K) → c.problem.cmp x y ≡ Equal → x ≡ y
  pub parts : (k : K) → 1 ≤ c.problem.key_parts k
  pub some : (order : List K) → IsReached c.problem order → 0 < length order
  pub seeds : (order : List K) → IsReached c.problem order → (k : K) → c.problem.seed k → k ≡ get_or order 0 c.spare
  pub ends : (e : TransducerRule K) → c.problem.ends_of e ≡ states_in e.right
  pub edges : (order : List K) (es : List (TransducerRule K)) → IsReachedSet c.problem order es → (e : TransducerRule K) → Has es e → IsMoveOverKeys scale labels order e

plain_named : {P Q : Type 0} (labels : List (List ℕ)) (f : P → Q) (xs : List (Symbol ℕ P × ℕ)) → Each (λ (s : Symbol ℕ P × ℕ). IsPlainOn labels s.0) xs → Each (λ (s : Symbol ℕ Q × ℕ). IsPlainOn labels s.0) (map (λ (p : Symbol ℕ P × ℕ). (symbol_map f p.0, p.1)) xs)
plain_named labels f [] h = tt
plain_named labels f ((label g, n) ∷ xs) h = (h.0, plain_named labels f xs h.1)
plain_named labels f ((hole x, n) ∷ xs) h = (tt, plain_named labels f xs h.1)

plain_unnamed : {P Q : Type 0} (labels : List (List ℕ)) (f : P → Q) (xs : List (Symbol ℕ P × ℕ)) → Each (λ (s : Symbol ℕ Q × ℕ). IsPlainOn labels s.0) (map (λ (p : Symbol ℕ P × ℕ). (symbol_map f p.0, p.1)) xs) → Each (λ (s : Symbol ℕ P × ℕ). IsPlainOn labels s.0) xs
plain_unnamed labels f [] h = tt
plain_unnamed labels f ((label g, n) ∷ xs) h = (h.0, plain_unnamed labels f xs h.1)
plain_unnamed labels f ((hole x, n) ∷ xs) h = (tt, plain_unnamed labels f xs h.1)

as_right : (labels : List (List ℕ)) (xs : List (Symbol ℕ (Pair ℕ) × ℕ)) → Each (λ (s : Symbol ℕ (Pair ℕ) × ℕ). IsPlainOn labels s.0) xs → Each (λ (s : Symbol ℕ (Pair ℕ) × ℕ). IsPlainOnRight labels s.0) xs
as_right labels [] h = tt
as_right labels ((label g, n) ∷ xs) h = (h.0, as_right labels xs h.1)
as_right labels ((hole x, n) ∷ xs) h = (tt, as_right labels xs h.1)

all_below : {A : Type 0} (n : ℕ) (f : A → ℕ) (qs : List A) → ((q : A) → Has qs q → f q < n) → AllBelow n (map f qs)
all_below n f [] h = tt
all_below n f (q ∷ qs) h = (h q (inl refl), all_below n f qs (λ p k. h p (inr k)))

module _ {K O : Type 0} (scale : Scale) (labels : List (List ℕ)) (c : TransducerConstruction K O) (plain : IsPlainTransducerConstruction scale labels c) where
  abbrev place : List K → K → ℕ
  place order k = place_in (key_same c.problem plain.laws plain.equal) order k

  module _ (order : List K) (edges : List (TransducerRule K)) (reached : IsReachedSet c.problem order edges) where
    abbrev placed : TransducerRule K → TransducerRule ℕ
    placed e = named_transducer_rule (place order) e

    is_over : (e : TransducerRule K) → Has edges e → IsMoveOverKeys scale labels order e
    is_over = plain.edges order edges reached

    low_place : (k : K) → Has order k → place order k < length order
    low_place k h = (stands_at (key_same c.problem plain.laws plain.equal) c.spare order k h).within

    back_place : (k : K) → Has order k → get_or order (place order k) c.spare ≡ k
    back_place k h = (stands_at (key_same c.problem plain.laws plain.equal) c.spare order k h).is

    -- the edges over the keys come back from the rules over their places
    read_back : moves_over c.spare order (map placed edges) ≡ edges
    read_back =
        map_itself (named_transducer_rule (λ n. get_or order n c.spare)) placed edges
        (λ e h. let o = is_over e h in move_back (place order) (λ n. get_or order n c.spare) e (back_place e.state o.state) (λ k m. back_place k (o.right k m)) o.leaves)

    module _ (P : TransducerRule ℕ → Type 0) (each : (e : TransducerRule K) → IsMoveOverKeys scale labels order e → P (placed e)) where
      each_member : (r : TransducerRule ℕ) → Has (map placed edges) r → P r
      each_member r h = let e = has_mapped placed edges r h in subst P e.2 (each e.0 (is_over e.0 e.1))

      each_placed : (m : ℕ) → m < length (map placed edges) → P (transducer_rule (map placed edges) m)
      each_placed m h = each_member (transducer_rule (map placed edges) m) (has_at (map placed edges) m no_rule h)

    rules_over : AreMovesOver scale labels (length order) (map placed edges)
    rules_over = record {
      within = each_placed (IsWithin (length order)) (λ e o. (
        low_place e.state o.state,
        subst (AllBelow (length order)) (sym (states_named (place order) e.right)) (all_below (length order) (place order) (states_in e.right) (λ k m. low_place k (o.right k m))),
      ));
      shaped = each_placed IsShaped (λ e o. shaped_named (place order) e o.shaped);
      leaves = each_placed EndsInHoles (λ e o. ends_named (place order) e o.leaves);
      printable = each_of (IsPrintable scale labels) (map placed edges) (each_member (IsPrintable scale labels) (λ e o. record {
        left = o.reads;
        right = as_right labels (preorder_of (side_map (named_pair (place order)) e.right))
            (subst (Each (λ (s : Symbol ℕ (Pair ℕ) × ℕ). IsPlainOn labels s.0)) (sym (preorder_named (named_pair (place order)) e.right)) (plain_named labels (named_pair (place order)) (preorder_of e.right) o.puts_out));
        few = o.few;
        cost = o.cost;
      }));
    }

    keys_apart : Distinct order
    keys_apart = order_once c.problem plain.laws reached.0.0 reached.0.1 order reached.0.2

    -- each position but the first is in a rule
    position_stands : (p : ℕ) → p < length order → (p ≡ 0 → ⊥) → Has (states_of (map placed edges)) p
    position_stands p low other =
        let k : K = get_or order p c.spare in
        let here : Has order k = has_at order p c.spare low in
        elim (key_stands c.problem plain.laws order edges reached k here) [
          | inl seed ↦ absurd (other (distinct_at order p 0 c.spare keys_apart low (plain.some order reached.0) (plain.seeds order reached.0 k seed)))
          | inr end ↦
              let e : TransducerRule K = end.0 in
              let there : Has (states_in e.right) k = subst (λ (ks : List K). Has ks k) (plain.ends e) end.2 in
              let at : place order k ≡ p = distinct_at order (place order k) p c.spare keys_apart (low_place k here) low (back_place k here) in
              stands (map placed edges) p (placed e) (mapped_has placed edges e end.1)
              (inr (subst (λ (xs : List ℕ). Has xs p) (sym (states_named (place order) e.right)) (subst (Has (map (place order) (states_in e.right))) at (mapped_has (place order) (states_in e.right) k there))))
        ]

  -- where a set is reached within the limit, it is impossible that it has no canonical transducer
  -- that reads back
  pub transducer_construction_there :
      (limit : ℕ) → limit ≤ 4294967296 → Distinct labels → HasReachedWithin c.problem limit →
      ((h : TransducerOf) → IsCanonicalTransducerOf scale labels limit c h → (u : TransducerOf) × ReadsBack scale labels (transducer_text scale labels h) h u → ⊥) → ⊥
  transducer_construction_there limit low apart w k =
      let rules : List (TransducerRule ℕ) = map (placed w.order w.edges w.reached) w.edges in
      let back : moves_over c.spare w.order rules ≡ w.edges = read_back w.order w.edges w.reached in
      let over : AreMovesOver scale labels (length w.order) rules = rules_over w.order w.edges w.reached in
      let few : length w.order ≤ 4294967296 = omega (arith, few_keys c.problem.key_parts plain.parts w.order, w.within, low) in
      transducer_there c.problem.cmp plain.laws.total_order plain.equal w.order (keys_apart w.order w.edges w.reached) c.spare 0 (plain.some w.order w.reached.0) scale labels rules few apart over
      (λ h canonical. k h (record {
        order = w.order;
        rules = rules;
        reached = subst (IsReachedSet c.problem w.order) (sym back) w.reached;
        within = subst (λ es. parts_of c.problem w.order es ≤ limit) (sym back) w.within;
        over = over;
        canonical = canonical;
      }) (transducer_read c.problem.cmp scale labels w.order rules 0 h canonical (position_stands w.order w.edges w.reached) few over))

  -- rules over the positions of an order that stand for the edges that are reached
  module _ (order : List K) (rules : List (TransducerRule ℕ)) (reached : IsReachedSet c.problem order (moves_over c.spare order rules)) (range : AreWithin (length order) rules) where
    abbrev at : ℕ → K
    at n = get_or order n c.spare

    found_move : (r : TransducerRule ℕ) → Has rules r → IsMoveOverKeys scale labels order (named_transducer_rule at r)
    found_move r h = plain.edges order (moves_over c.spare order rules) reached (named_transducer_rule at r) (mapped_has (named_transducer_rule at) rules r h)

    -- they have their shape, and can be printed
    pub found_moves : AreMovesOver scale labels (length order) rules
    found_moves = record {
      within = range;
      shaped = λ m h. shaped_back at (transducer_rule rules m) (found_move (transducer_rule rules m) (has_at rules m no_rule h)).shaped;
      leaves = λ m h. ends_back at (transducer_rule rules m) (found_move (transducer_rule rules m) (has_at rules m no_rule h)).leaves;
      printable = each_of (IsPrintable scale labels) rules (λ r h. let o = found_move r h in record {
        left = o.reads;
        right = as_right labels (preorder_of r.right)
            (plain_unnamed labels (named_pair at) (preorder_of r.right) (subst (Each (λ (s : Symbol ℕ (Pair K) × ℕ). IsPlainOn labels s.0)) (preorder_named (named_pair at) r.right) o.puts_out));
        few = o.few;
        cost = o.cost;
      });
    }

    -- each position but the first is in one of them
    pub found_stand : (p : ℕ) → p < length order → (p ≡ 0 → ⊥) → Has (states_of rules) p
    found_stand p low other =
        let k : K = get_or order p c.spare in
        let apart : Distinct order = order_once c.problem plain.laws reached.0.0 reached.0.1 order reached.0.2 in
        elim (key_stands c.problem plain.laws order (moves_over c.spare order rules) reached k (has_at order p c.spare low)) [
          | inl seed ↦ absurd (other (distinct_at order p 0 c.spare apart low (plain.some order reached.0) (plain.seeds order reached.0 k seed)))
          | inr end ↦
              let r = has_mapped (named_transducer_rule at) rules end.0 end.1 in
              let there : Has (map at (states_in r.0.right)) k =
              subst (λ (ks : List K). Has ks k) (states_named at r.0.right) (subst (λ (e : TransducerRule K). Has (states_in e.right) k) (sym r.2) (subst (λ (ks : List K). Has ks k) (plain.ends end.0) end.2)) in
              let q = has_mapped at (states_in r.0.right) k there in
              let within : q.0 < length order = state_low r.0 r.1 q.0 q.1 in
              stands rules p r.0 r.1 (inr (subst (Has (states_in r.0.right)) (distinct_at order q.0 p c.spare apart within low q.2) q.1))
        ]
      where
        state_low : (r : TransducerRule ℕ) → Has rules r → (q : ℕ) → Has (states_in r.right) q → q < length order
        state_low r h q m = below_has (length order) (states_in r.right) q (member_is (IsWithin (length order)) rules range r h).1 m
