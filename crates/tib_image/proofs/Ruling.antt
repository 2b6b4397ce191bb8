-- The edges of a key with one rule, and with the rules of its state.
use Rattle.std.specs.Prelude.{◌≡◌, ℕ, ◌+◌, ◌<◌, ◌≤◌, nat_eq, List, [], ◌∷◌, ◌++◌, length, map, take, Bool, true, false, refl, if◌then◌else◌}
use Rattle.std.proofs.Common.{zero, suc, arith, ap, sym, ◌∙◌, subst, get_or, inl, inr, add-one, append_assoc}
use Rattle.tib_lex.specs.Lists.{Has, Each}
use Rattle.tib_lex.proofs.Lists.{append_nil, each_weaker, each_mapped, map_twice, length_map}
use Rattle.tib_lex.proofs.Booleans.{bool_cases}
use Rattle.tib_lex.proofs.Members.{has_at}
use Rattle.tib_lex.proofs.Numbers.{nat_eq_cases}
use Rattle.tib_lex.proofs.Places.{at_map, take_next, take_whole}
use Rattle.tib_tree.specs.Trees.{size}
use Rattle.tib_grammar.specs.Sides.{Symbol, label, holes_of}
use Rattle.tib_grammar.specs.declared.Rule.{Rule}
use Rattle.tib_transducer.specs.Range.{AreNumbered}
use Rattle.tib_transducer.specs.Rules.{variables_of, transducer_rule}
use Rattle.tib_transducer.specs.Moves.{moves_of}
use Rattle.tib_transducer.specs.declared.TransducerRule.{TransducerRule}
use Rattle.tib_transducer.specs.declared.Variable.{Variable}
use Rattle.tib_transducer.specs.declared.Pair.{Pair}
use Rattle.tib_transducer.proofs.Moves.{own, moves_next, move_is}
use Rattle.tib_strings.specs.Rules.{string_rule, no_rule, pairs_of}
use Rattle.tib_strings.specs.Range.{IsShaped}
use Rattle.tib_strings.specs.declared.Word.{Word as Token}
use Rattle.tib_strings.specs.declared.StringRule.{StringRule}
use Rattle.tib_key_edges.proofs.MappedSides.{holes_within}
use Rattle.tib_strings.specs.CutLists.{cuts_of}
use Rattle.tib_image.proofs.EdgesListed.{root_of, root_is}
use Rattle.tib_image.specs.Restrictions.{as_rule, restricted_labels}
use Rattle.tib_image.specs.ParseEdges.{admits_root, fits_key, origins_at, origins_below, edge_of, edges_of}
use Rattle.tib_image.specs.ParseListing.{edges_at, edges_at_all, cut_edge, HasPlaces, AdmitsRule}
use Rattle.std.proofs.lemmas.List.{map-append}

-- a rule has places for its variables

numbers_below : (n count : ℕ) (xs : List Variable) → AreNumbered n xs → n + length xs ≤ count → Each (λ x. x.number < count) xs
numbers_below n count [] h b = tt
numbers_below n count (x ∷ xs) h b = (let e = h.0 in omega (arith, e, b), numbers_below (suc n) count xs h.1 (omega (arith, b)))

pub places_enough : (r : StringRule ℕ) (count : ℕ) → IsShaped r → size r.left ≤ count → HasPlaces count r
places_enough r count shaped room =
    let few = holes_within r.left in
    record {
      left = numbers_below 0 count (holes_of r.left) shaped.numbered (omega (arith, few, room));
      right = each_weaker (λ (x : Pair ℕ). x.variable < length (variables_of r.left)) (λ x. x.variable < count) (pairs_of r.right) (λ x h. omega (arith, h, few, room))
          (each_mapped (λ i. i < length (variables_of r.left)) (λ (x : Pair ℕ). x.variable) (pairs_of r.right) shaped.known);
    }

-- whether a rule fits a key

pub fits : (labels : List ℕ) (key : ℕ × ℕ × ℕ × ℕ) (r : StringRule ℕ) → r.state ≡ key.0 → AdmitsRule labels key r → fits_key labels key r ≡ true
fits labels key r state a = elim (nat_eq_cases r.state key.0) [
  | inl k ↦ rw k.1 (subst (λ (s : Symbol ℕ Variable). admits_root labels key.3 s ≡ true) (sym a.1) (root_is labels key.3 a.0 a.2))
  | inr k ↦ absurd (k.0 state)
]

pub fits_not : (labels : List ℕ) (key : ℕ × ℕ × ℕ × ℕ) (r : StringRule ℕ) → (AdmitsRule labels key r → ⊥) → fits_key labels key r ≡ false
fits_not labels key r no_root = elim (nat_eq_cases r.state key.0) [
  | inl k ↦ rw k.1 (elim (bool_cases (admits_root labels key.3 r.left.label)) [
    | inl yes_it ↦ absurd (no_root (root_of labels key.3 r.left.label yes_it))
    | inr not_it ↦ not_it
  ])
  | inr k ↦ rw k.1 refl
]

fits_other : (labels : List ℕ) (key : ℕ × ℕ × ℕ × ℕ) (r : StringRule ℕ) → nat_eq r.state key.0 ≡ false → fits_key labels key r ≡ false
fits_other labels key r e = rw e refl

module _ (moves : List (StringRule ℕ)) (string : List ℕ) (key : ℕ × ℕ × ℕ × ℕ) where
  -- the edges with a rule that fits
  pub edges_fit : (n : ℕ) → fits_key (restricted_labels moves) key (string_rule moves n) ≡ true → edges_at moves string key n ≡ map (cut_edge (restricted_labels moves) key (string_rule moves n)) (cuts_of string (string_rule moves n).right key.1 key.2)
  edges_fit n e = rw e (map_twice (edge_of moves key) (λ (ks : List ℕ). (n, ks)) (cuts_of string (string_rule moves n).right key.1 key.2))

  -- there are none with another rule
  pub edges_unfit : (n : ℕ) → fits_key (restricted_labels moves) key (string_rule moves n) ≡ false → edges_at moves string key n ≡ []
  edges_unfit n e = rw e refl

  all_both : (ns ms : List ℕ) → edges_at_all moves string key (ns ++ ms) ≡ edges_at_all moves string key ns ++ edges_at_all moves string key ms
  all_both [] ms = refl
  all_both (n ∷ ns) ms =
      ap (λ es. edges_at moves string key n ++ es) (all_both ns ms) ∙ sym (append_assoc (edges_at moves string key n) (edges_at_all moves string key ns) (edges_at_all moves string key ms))

  -- those with one more rule
  pub all_next : (ps : List ℕ) (i p : ℕ) → i < length ps → p ≡ get_or ps i 0 → edges_at_all moves string key (take (i + 1) ps) ≡ edges_at_all moves string key (take i ps) ++ edges_at moves string key p
  all_next ps i p below is =
      ap (edges_at_all moves string key) (take_next ps i 0 below ∙ ap (λ q. take i ps ++ q ∷ []) (sym is)) ∙ all_both (take i ps) (p ∷ [])
      ∙ ap (λ es. edges_at_all moves string key (take i ps) ++ es) (append_nil (edges_at moves string key p))

  -- the first of some rules, the one after them, and others
  pub all_split :
      (ps : List ℕ) (i p : ℕ) → i < length ps → p ≡ get_or ps i 0 →
      (rest : List (Rule (ℕ × ℕ × ℕ × ℕ))) × (edges_at_all moves string key ps ≡ (edges_at_all moves string key (take i ps) ++ edges_at moves string key p) ++ rest)
  all_split [] i p below is = absurd (omega arith)
  all_split (q ∷ ps) zero p below is = (edges_at_all moves string key ps, ap (λ m. edges_at moves string key m ++ edges_at_all moves string key ps) (sym is))
  all_split (q ∷ ps) (suc i) p below is =
      let r = all_split ps i p (omega arith) is in (
        r.0,
        ap (λ es. edges_at moves string key q ++ es) r.1 ∙ sym (append_assoc (edges_at moves string key q) (edges_at_all moves string key (take i ps) ++ edges_at moves string key p) r.0)
            ∙ ap (λ es. es ++ r.0) (sym (append_assoc (edges_at moves string key q) (edges_at_all moves string key (take i ps)) (edges_at moves string key p))),
      )

  abbrev readers : List (TransducerRule ℕ)
  readers = map as_rule moves

  reader_is : (n : ℕ) → transducer_rule readers n ≡ as_rule (string_rule moves n)
  reader_is n = at_map as_rule moves n no_rule

  -- those with the rules of the key's state among the first n
  below_are : (n : ℕ) → n ≤ length moves → edges_at_all moves string key (moves_of key.0 (take n readers)) ≡ map (edge_of moves key) (origins_below moves string key n)
  below_are zero h = refl
  below_are (suc n) h =
      let low : n < length readers = omega (arith, h, length_map as_rule moves) in
      let old = below_are n (omega arith) in
      let here : moves_of key.0 (take (suc n) readers) ≡ moves_of key.0 (take n readers) ++ own n key.0 (as_rule (string_rule moves n)) =
      ap (λ m. moves_of key.0 (take m readers)) (sym (add-one n)) ∙ moves_next readers n low key.0 ∙ ap (λ (r : TransducerRule ℕ). moves_of key.0 (take n readers) ++ own n key.0 r) (reader_is n) in
      ap (edges_at_all moves string key) here ∙ all_both (moves_of key.0 (take n readers)) (own n key.0 (as_rule (string_rule moves n))) ∙ ap (λ es. es ++ edges_at_all moves string key (own n key.0 (as_rule (string_rule moves n)))) old
      ∙ ap (λ es. map (edge_of moves key) (origins_below moves string key n) ++ es) (one n) ∙ sym (map-append (edge_of moves key) (origins_below moves string key n) (origins_at moves string key n))
    where
      one : (n : ℕ) → edges_at_all moves string key (own n key.0 (as_rule (string_rule moves n))) ≡ edges_at moves string key n
      one n = elim (nat_eq_cases (string_rule moves n).state key.0) [
        | inl k ↦ ap (λ (b : Bool). edges_at_all moves string key (if b then n ∷ [] else [])) k.1 ∙ append_nil (edges_at moves string key n)
        | inr k ↦
            ap (λ (b : Bool). edges_at_all moves string key (if b then n ∷ [] else [])) k.1 ∙ sym (edges_unfit n (fits_other (restricted_labels moves) key (string_rule moves n) k.1))
      ]

  -- those with the rules of the key's state are the edges of the key
  pub all_edges : edges_at_all moves string key (moves_of key.0 readers) ≡ edges_of moves string key
  all_edges =
      ap (λ (rs : List (TransducerRule ℕ)). edges_at_all moves string key (moves_of key.0 rs)) (sym (take_whole readers (length moves) (omega (arith, length_map as_rule moves)))) ∙ below_are (length moves) (omega arith)

  -- the rule at one of these positions
  pub move_here : (ps : List ℕ) (i p : ℕ) → ps ≡ moves_of key.0 readers → i < length ps → p ≡ get_or ps i 0 → (p < length moves) × ((string_rule moves p).state ≡ key.0)
  move_here ps i p are below is =
      let has : Has (moves_of key.0 readers) p = subst (λ qs. Has qs p) are (subst (Has ps) (sym is) (has_at ps i 0 below)) in
      let m = move_is key.0 readers p has in
      (omega (arith, m.0, length_map as_rule moves), ap (λ (r : TransducerRule ℕ). r.state) (sym (reader_is p)) ∙ m.1)

-- the positions of the rules of the key's state
pub moves_are :
    (moves : List (StringRule ℕ)) (key : ℕ × ℕ × ℕ × ℕ) (ps : List ℕ) (state : ℕ) → state ≡ key.0 → ps ≡ moves_of state (map as_rule moves) → ps ≡ moves_of key.0 (map as_rule moves)
moves_are moves key ps state is are = are ∙ ap (λ q. moves_of q (map as_rule moves)) is

-- a rule under another name, with the labels that restrict under another name
module _ (moves : List (StringRule ℕ)) (string : List ℕ) (key : ℕ × ℕ × ℕ × ℕ) (n : ℕ) (r : StringRule ℕ) (labels : List ℕ) (same : labels ≡ restricted_labels moves) (at : r ≡ string_rule moves n) where
  -- there are no edges with a rule that does not fit
  pub none_fit : (AdmitsRule labels key r → ⊥) → edges_at moves string key n ≡ []
  none_fit h =
      edges_unfit moves string key n
      (subst (λ (x : StringRule ℕ). fits_key (restricted_labels moves) key x ≡ false) at (subst (λ (ls : List ℕ). fits_key ls key r ≡ false) same (fits_not labels key r h)))

  -- the edges with a rule that fits are those of its cuts
  pub some_fit :
      (ws : List (Token ℕ)) (i j : ℕ) → ws ≡ r.right → i ≡ key.1 → j ≡ key.2 → (string_rule moves n).state ≡ key.0 → AdmitsRule labels key r →
      edges_at moves string key n ≡ map (cut_edge labels key r) (cuts_of string ws i j)
  some_fit ws i j tokens from to state h =
      let state_is : r.state ≡ key.0 = ap (λ (x : StringRule ℕ). x.state) at ∙ state in
      edges_fit moves string key n
      (subst (λ (x : StringRule ℕ). fits_key (restricted_labels moves) key x ≡ true) at (subst (λ (ls : List ℕ). fits_key ls key r ≡ true) same (fits labels key r state_is h)))
      ∙ ap (λ (x : StringRule ℕ). map (cut_edge (restricted_labels moves) key x) (cuts_of string x.right key.1 key.2)) (sym at)
      ∙ ap (λ (ls : List ℕ). map (cut_edge ls key r) (cuts_of string r.right key.1 key.2)) (sym same)
      ∙ ap (λ (xs : List (Token ℕ)). map (cut_edge labels key r) (cuts_of string xs key.1 key.2)) (sym tokens)
      ∙ ap (λ (m : ℕ). map (cut_edge labels key r) (cuts_of string ws m key.2)) (sym from)
      ∙ ap (λ (m : ℕ). map (cut_edge labels key r) (cuts_of string ws i m)) (sym to)
