-- Bounds of translations, from those of the trees below.
use Rattle.std.specs.Prelude.{◌≡◌, ℕ, ◌+◌, ◌<◌, ◌≤◌, ◌⊎◌, Bool, true, false, List, [], ◌∷◌, ◌++◌, length, map, take, Option, None, Some, if◌then◌else◌, refl}
use Rattle.std.proofs.Common.{zero, suc, arith, ap, sym, ◌∙◌, subst, get_or, inl, inr, le_refl, add-one, Bor}
use Rattle.std.specs.Global.{Vec}
use Rattle.tib_lex.proofs.Numbers.{nat_eq_cases}
use Rattle.tib_lex.specs.Lists.{Has}
use Rattle.tib_lex.proofs.Lists.{has_mapped}
use Rattle.tib_tree.specs.Trees.{Trees, only, preorder_of, count, HasChildren}
use Rattle.tib_cost.specs.Semiring.{ProductLaws}
use Rattle.tib_grammar.specs.Sides.{label, hole, Side as SideFor}
use Rattle.tib_transducer.specs.Rules.{transducer_rule}
use Rattle.tib_transducer.specs.declared.Pair.{Pair}
use Rattle.tib_transducer.specs.declared.TransducerRule.{TransducerRule}
use Rattle.tib_grammar.specs.Sides.{Symbol}
use Rattle.tib_key_edges.specs.Choices.{choices_of, reads_label}
use Rattle.tib_key_edges.specs.Completions.{completions}
use Rattle.tib_key_edges.specs.Pieces.{Piece as PieceOf, read, Result, results, results_by, result_of, pieces_of, sides_of, states_of}
use Rattle.tib_key_edges.specs.Translations.{choice_cost, translated}
use Rattle.tib_key_edges.specs.Flat.{substituted}
use Rattle.tib_key_edges.proofs.Choosing.{map_has}
use Rattle.tib_compose.specs.Pending.{IsAtLeast, BoundsPiece, BoundsAll, Holds}
use Rattle.tib_compose.specs.Readers.{readers}
use Rattle.tib_compose.specs.Walk.{AreReady}
use Rattle.tib_compose.specs.Bounding.{BoundsReader, BoundsNode}
use Rattle.tib_compose.specs.Bounds.{AreBounds, SetsBound}
use Rattle.tib_compose.specs.Ends.{AreEnds}
use Rattle.tib_compose.specs.Plenties.{ArePlenties}
use Rattle.tib_compose.proofs.Taking.{side_by_item}
use Rattle.tib_compose.specs.Sources.{PutsPieces, IsSource}
use Rattle.tib_compose.specs.PieceViews.{kids_there, side_there}
use Rattle.tib_compose.specs.declared.pending.Pending.{Pending}
use Rattle.tib_compose.specs.declared.source.Source.{Source}
use Rattle.tib_compose.proofs.Left.{product_bounds}
use Rattle.tib_compose.proofs.Walking.{known_from, kids_count}
use Rattle.tib_cost.specs.Least.{times}
use Rattle.tib_lex.proofs.Members.{has_right, has_left}
use Rattle.tib_grammar.specs.Items.{pairs_of}
use Rattle.tib_grammar.specs.declared.Item.{Item}
use Rattle.tib_grammar.specs.declared.Item.TheVariants.{Label}

has_either : {A : Type 0} (xs ys : List A) (x : A) → Has (xs ++ ys) x → Has xs x ⊎ Has ys x
has_either [] ys x a = inr a
has_either (z ∷ xs) ys x a = elim a [ inl e ↦ inl (inl e) | inr b ↦ elim (has_either xs ys x b) [ inl c ↦ inl (inr c) | inr c ↦ inr c ] ]

module _ (product : ℕ → ℕ → ℕ) (two : List (TransducerRule ℕ)) (f p : ℕ) (kids : Trees (Symbol ℕ (Pair ℕ))) where
  abbrev pieces_here : ℕ → List PieceOf
  pieces_here m = pieces_of (preorder_of (transducer_rule two m).right) kids ++ []

  -- a result comes of a rule that reads the label
  record ComesOf (k : ℕ) (r : Result) : Type 0 where
    rule : ℕ
    reads : Has (readers two p f (count kids) k) rule
    is : Has (results product two (product 0 (transducer_rule two rule).cost) [] (pieces_here rule)) r

  comes_of : (k : ℕ) (r : Result) → Has (results_by product two 0 [] f kids p [] k) r → ComesOf k r
  comes_of zero r h = absurd h
  comes_of (suc k) r h =
      by_case (reads_label p f (count kids) (transducer_rule two k)) refl (λ a. comes_of k r a)
      (has_either (results_by product two 0 [] f kids p [] k) (if reads_label p f (count kids) (transducer_rule two k) then results product two (product 0 (transducer_rule two k).cost) [] (pieces_here k) else []) r h)
    where
      last : (b : Bool) → reads_label p f (count kids) (transducer_rule two k) ≡ b → b ≡ true → Has (readers two p f (count kids) (suc k)) k
      last b e t =
          has_right (readers two p f (count kids) k) (if reads_label p f (count kids) (transducer_rule two k) then k ∷ [] else []) k
          (subst (λ d. Has (if d then k ∷ [] else []) k) (sym (e ∙ t)) (inl refl))

      by_case :
          (b : Bool) → reads_label p f (count kids) (transducer_rule two k) ≡ b → (Has (results_by product two 0 [] f kids p [] k) r → ComesOf k r) →
          Has (results_by product two 0 [] f kids p [] k) r ⊎ Has (if b then results product two (product 0 (transducer_rule two k).cost) [] (pieces_here k) else []) r → ComesOf (suc k) r
      by_case b e before (inl a) =
          let c = before a in
          record {
            rule = c.rule;
            reads = has_left (readers two p f (count kids) k) (if reads_label p f (count kids) (transducer_rule two k) then k ∷ [] else []) c.rule c.reads;
            is = c.is;
          }
      by_case true e before (inr a) = record { rule = k; reads = last true e refl; is = a }
      by_case false e before (inr a) = absurd a

  module _ {levelled weighted : Bool} (laws : ProductLaws levelled weighted product) (ready : AreReady product two) (v : Option ℕ) where
    -- what bounds each rule that reads a label bounds the side of that label
    pub label_bounds :
        ((m : ℕ) → Has (readers two p f (count kids) (length two)) m → (c : Trees (Option ℕ)) → Has (completions two (sides_of (pieces_here m)) (states_of (pieces_here m))) c →
        IsAtLeast v (product (transducer_rule two m).cost (choice_cost product two c))) → BoundsPiece product two (read (record { label = label f; kids = kids }) p) v
    label_bounds each c h =
        let s : SideFor ℕ (Pair ℕ) = record { label = label f; kids = kids } in
        let gives : Trees (Option ℕ) → Result = λ d. (
          product 0 (choice_cost product two d),
          substituted {P = Pair ℕ} ((hole (record { state = p; variable = 0 }), 0) ∷ []) (translated two (p ∷ []) (only s) d),
        )
        in
        let there : Has (map gives (choices_of two p s)) (gives c) = map_has gives (choices_of two p s) c h in
        let all : Has (results_by product two 0 [] f kids p [] (length two)) (gives c) = subst (λ rs. Has rs (gives c)) (sym (ready.goes.at_start 0 p s) ∙ ready.goes.at_label 0 [] f kids p []) there in
        let o = comes_of (length two) (gives c) all in
        let x = has_mapped (result_of product two (product 0 (transducer_rule two o.rule).cost) [] (pieces_here o.rule)) (completions two (sides_of (pieces_here o.rule)) (states_of (pieces_here o.rule))) (gives c) o.is in
        let costs : product (product 0 (transducer_rule two o.rule).cost) (choice_cost product two x.0) ≡ product 0 (choice_cost product two c) = ap (λ (r : Result). r.0) x.2 in
        subst (IsAtLeast v)
        (ap (λ n. product n (choice_cost product two x.0)) (sym (laws.neutral (transducer_rule two o.rule).cost)) ∙ costs ∙ laws.neutral (choice_cost product two c))
        (each o.rule o.reads x.0 x.1)

-- what bounds the pieces of a rule bounds what comes of it
pub reader_bounds :
    {levelled weighted : Bool} {product : ℕ → ℕ → ℕ} (laws : ProductLaws levelled weighted product) (two : List (TransducerRule ℕ)) (source : Source) (node m : ℕ) (r : TransducerRule ℕ) (right : List (Item (Pair ℕ))) (old new : Pending) (u v : Option ℕ) →
    r ≡ transducer_rule two m → pairs_of right ≡ preorder_of r.right → old.next ≡ 0 → PutsPieces product right source node old new →
    ((pairs : List (Symbol ℕ (Pair ℕ) × ℕ)) (ws : List PieceOf) → Holds product two pairs new ws → BoundsAll product two ws u) → v ≡ times product (Some r.cost) u → BoundsReader product two source node m v
reader_bounds {product = product} laws two source node m r right old new u v at is empty puts bounds e ready known p f rank low reads c h =
    let right_is : pairs_of right ≡ preorder_of (transducer_rule two m).right = is ∙ ap (λ (x : TransducerRule ℕ). preorder_of x.right) at in
    let pairs : List (Symbol ℕ (Pair ℕ) × ℕ) = pairs_of source.items.now in
    let stands = puts.pieces two known rank (known_from two ready.shaped p f rank m low reads right right_is) [] empty in
    let below : BoundsAll product two (pieces_of (preorder_of (transducer_rule two m).right) (kids_there pairs node rank) ++ []) u =
    subst (λ xs. BoundsAll product two (pieces_of xs (kids_there pairs node rank) ++ []) u) right_is (bounds pairs _ stands)
    in
    subst (λ w. IsAtLeast w (product (transducer_rule two m).cost (choice_cost product two c))) (sym (e ∙ ap (λ (x : TransducerRule ℕ). times product (Some x.cost) u) at))
    (product_bounds laws (Some (transducer_rule two m).cost) u (transducer_rule two m).cost (choice_cost product two c) (le_refl (transducer_rule two m).cost) (below c h))

-- a member of a front that is one longer
pub one_more_has : (xs : List ℕ) (i m : ℕ) → i < length xs → Has (take (i + 1) xs) m → Has (take i xs) m ⊎ (get_or xs i 0 ≡ m)
one_more_has xs i m low h = go xs i low (subst (λ k. Has (take k xs) m) (add-one i) h)
  where
    go : (xs : List ℕ) (i : ℕ) → i < length xs → Has (take (suc i) xs) m → Has (take i xs) m ⊎ (get_or xs i 0 ≡ m)
    go [] i low h = absurd (omega arith)
    go (x ∷ xs) zero low h = elim h [ inl e ↦ inr e | inr k ↦ absurd k ]
    go (x ∷ xs) (suc i) low h = elim h [ inl e ↦ inl (inl e) | inr k ↦ elim (go xs i (omega arith) k) [ inl a ↦ inl (inr a) | inr a ↦ inr a ] ]

-- a front that is the whole
pub whole_has : (xs : List ℕ) (i m : ℕ) → length xs ≤ i → Has xs m → Has (take i xs) m
whole_has [] i m low h = absurd h
whole_has (x ∷ xs) zero m low h = absurd (omega arith)
whole_has (x ∷ xs) (suc i) m low h = elim h [ inl e ↦ inl e | inr k ↦ inr (whole_has xs i m (omega arith) k) ]

-- one bound is set
pub set_keeps :
    {levelled weighted : Bool} {product : ℕ → ℕ → ℕ} (laws : ProductLaws levelled weighted product) (two : List (TransducerRule ℕ)) (old new : Source) (f n node state : ℕ) (v : Option ℕ) →
    new.items ≡ old.items → new.ends ≡ old.ends → new.plenties ≡ old.plenties → SetsBound node state v old.bounds new.bounds → node < length old.items.now → get_or old.items.now node (Label 0 0) ≡ Label f n →
    BoundsNode product two old (record { node = node; label = f; rank = n; state = state }) v → AreReady product two → IsSource product two old → IsSource product two new
set_keeps {product = product} laws two old new f n node state v same ends plenties sets low at bound ready known =
    let pairs : List (Symbol ℕ (Pair ℕ) × ℕ) = pairs_of old.items.now in
    let kids : Trees (Symbol ℕ (Pair ℕ)) = kids_there pairs node n in
    let many : count kids ≡ n = kids_count old.items.now node f n known.children low at in
    let there : side_there pairs node ≡ record { label = label f; kids = kids } = side_by_item old.items.now node (Label f n) (Label 0 0) low (sym at) in
    let here : BoundsPiece product two (read (side_there pairs node) state) v =
    subst (λ s. BoundsPiece product two (read s state) v) (sym there)
    (label_bounds product two f state kids laws ready v (λ m h c k. bound ready known m (subst (λ x. Has (readers two state f x (length two)) m) many h) c k))
    in
    let bounds : AreBounds product two pairs new.bounds = λ i p.
    subst (BoundsPiece product two (read (side_there pairs i) p)) (sym (sets i p))
    (elim (nat_eq_cases node i) [
      | inl a ↦ elim (nat_eq_cases state p) [
        | inl b ↦ rw (a.1, b.1) (subst (λ j. BoundsPiece product two (read (side_there pairs j) p) v) a.0 (subst (λ q. BoundsPiece product two (read (side_there pairs node) q) v) b.0 here))
        | inr b ↦ rw (a.1, b.1) (known.bounds i p)
      ]
      | inr a ↦ rw a.1 (known.bounds i p)
    ])
    in
    record {
      children = subst (λ (xs : Bor (List (Item (Pair ℕ)))). HasChildren (pairs_of xs.now)) (sym same) known.children;
      ends = subst (λ (xs : Bor (List (Item (Pair ℕ)))). AreEnds (pairs_of xs.now) new.ends.items 0) (sym same) (subst (λ (es : Vec ℕ). AreEnds pairs es.items 0) (sym ends) known.ends);
      bounds = subst (λ (xs : Bor (List (Item (Pair ℕ)))). AreBounds product two (pairs_of xs.now) new.bounds) (sym same) bounds;
      plenties = subst (λ (xs : Bor (List (Item (Pair ℕ)))). ArePlenties product two (pairs_of xs.now) new.plenties) (sym same) (subst (ArePlenties product two pairs) (sym plenties) known.plenties);
    }
