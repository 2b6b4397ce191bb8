-- With its fresh start the grammar of vectors is in deterministic form.
use Rattle.std.specs.Prelude.{◌≡◌, ℕ, ◌+◌, ◌-◌, ◌<◌, List, [], ◌∷◌, length, map}
use Rattle.std.proofs.Common.{suc, arith, ap, sym, ◌∙◌, subst, inl, inr, get_or}
use Rattle.tib_lex.specs.Lists.{Has}
use Rattle.tib_tree.specs.Trees.{Trees, none, tree, relabel, only}
use Rattle.tib_grammar.specs.Sides.{Symbol, label, hole, Side as SideFor, symbol_map, side_map, holes_of, AreHoles, HolesAreLeaves, Lone}
use Rattle.tib_grammar.specs.Run.{rule_at}
use Rattle.tib_grammar.specs.Forms.{IsLabel, IsNormalSide, StandsInSide, IsShaped}
use Rattle.tib_grammar.specs.Range.{AllBelow, IsInRange}
use Rattle.tib_grammar.specs.GrammarOf.{named_rule}
use Rattle.tib_grammar.specs.declared.Rule.{Rule}
use Rattle.tib_grammar.proofs.Sides.{holes-relabel}
use Rattle.tib_grammar.proofs.Renamed.{side_back}
use Rattle.tib_determinize.specs.Vectors.{VectorOf}
use Rattle.tib_determinize.specs.VectorGrammar.{IsVectorGrammar}
use Rattle.tib_determinize.specs.Started.{finals, started, IsWellStarted}
use Rattle.tib_determinize.specs.ListLemmas.{side_of}
use Rattle.tib_determinize.proofs.Finals.{IsFinal, final_is, one_final, all_long, chain_at, shifted_at}

-- sides with their states exchanged

-- a renaming keeps one label over states
pub normal_named : (g : ℕ → ℕ) (s : SideFor ℕ ℕ) → IsNormalSide s → IsNormalSide (side_map g s)
normal_named g s n = record { is_label = labelled s.label n.is_label; are_holes = all_holes s.kids n.are_holes }
  where
    labelled : (x : Symbol ℕ ℕ) → IsLabel x → IsLabel (symbol_map {A = ℕ} g x)
    labelled (label f) h = tt
    labelled (hole p) h = absurd h

    all_holes : (ts : Trees (Symbol ℕ ℕ)) → AreHoles ts → AreHoles (relabel (symbol_map {A = ℕ} g) ts)
    all_holes none h = tt
    all_holes (tree (label f) kids rest) h = absurd h
    all_holes (tree (hole p) kids rest) h = all_holes rest h

-- a renaming keeps holes as leaves
pub leaves_named : (g : ℕ → ℕ) (ts : Trees (Symbol ℕ ℕ)) → HolesAreLeaves ts → HolesAreLeaves (relabel (symbol_map {A = ℕ} g) ts)
leaves_named g none h = tt
leaves_named g (tree (label f) kids rest) h = (leaves_named g kids h.0, leaves_named g rest h.1)
leaves_named g (tree (hole p) none rest) h = leaves_named g rest h
leaves_named g (tree (hole p) (tree s kids more) rest) h = absurd h

not_lone : (g : ℕ → ℕ) (s : SideFor ℕ ℕ) (p : ℕ) → IsNormalSide s → side_map g s ≡ Lone p → ⊥
not_lone g s p n e = by s.label n.is_label (ap (λ (t : SideFor ℕ ℕ). t.label) e)
  where
    by : (x : Symbol ℕ ℕ) → IsLabel x → symbol_map {A = ℕ} g x ≡ hole p → ⊥
    by (label f) h e = cc
    by (hole q) h e = h

lone_state : (p q : ℕ) → ◌≡◌ {A = SideFor ℕ ℕ} (Lone p) (Lone q) → p ≡ q
lone_state p q e = by (ap (λ (t : SideFor ℕ ℕ). t.label) e)
  where
    by : ◌≡◌ {A = Symbol ℕ ℕ} (hole p) (hole q) → p ≡ q
    by d = cc

no_zero : (ps : List ℕ) → Has {A = ℕ} (map suc ps) 0 → ⊥
no_zero [] h = h
no_zero (p ∷ ps) h = elim h [ inl e ↦ omega (arith, e) | inr k ↦ no_zero ps k ]

all_up : (n : ℕ) (ps : List ℕ) → AllBelow n ps → AllBelow (1 + n) (map suc ps)
all_up n [] a = tt
all_up n (p ∷ ps) a = (omega (arith, a.0), all_up n ps a.1)

-- one less than a number
abbrev one_less : ℕ → ℕ
one_less n = n - 1

sides_back : (s t : SideFor ℕ ℕ) → HolesAreLeaves (only s) → HolesAreLeaves (only t) → side_map suc s ≡ side_map suc t → s ≡ t
sides_back s t h k e =
    sym (side_back suc one_less s (λ q m. by q) h) ∙ ap (λ (u : SideFor ℕ ℕ). side_map one_less u) e ∙ side_back suc one_less t (λ q m. by q) k
  where
    by : (q : ℕ) → one_less (suc q) ≡ q
    by q = omega arith

module _ {product : ℕ → ℕ → ℕ} (rules : List (Rule ℕ)) (order : List VectorOf) (new : List (Rule ℕ)) (vectors : IsVectorGrammar product rules order new) where
  abbrev final : ℕ → ℕ × ℕ
  final n = get_or (finals 0 order) n (0, 0)

  shifted_holes : (n j : ℕ) → rule_at (started order new) n ≡ named_rule suc (rule_at new j) → holes_of (rule_at (started order new) n).right ≡ map suc (holes_of (rule_at new j).right)
  shifted_holes n j is = ap (λ (r : Rule ℕ). holes_of r.right) is ∙ holes-relabel suc (only (rule_at new j).right)

  below_new : (n j : ℕ) → n < length (started order new) → n ≡ length (finals 0 order) + j → j < length new
  below_new n j h e = let long = all_long order new in omega arith

  -- the fresh start is in no right-hand side
  start_is_free : StandsInSide (started order new) 0 → ⊥
  start_is_free s = elim (side_of s.rule (length (finals 0 order))) [
    | inl h ↦ elim (subst (λ (r : Rule ℕ). Has {A = ℕ} (holes_of r.right) 0) (chain_at order new s.rule h) s.stands) [
      | inl e ↦ absurd (omega (arith, e))
      | inr k ↦ k
    ]
    | inr h ↦
        let is = shifted_at order new s.rule h.0 h.1 (below_new s.rule h.0 s.below h.1) in
        no_zero (holes_of (rule_at new h.0).right) (subst (λ (ps : List ℕ). Has {A = ℕ} ps 0) (shifted_holes s.rule h.0 is) s.stands)
  ]

  shaped : (n : ℕ) → n < length (started order new) → IsShaped (started order new) (rule_at (started order new) n)
  shaped n b = elim (side_of n (length (finals 0 order))) [
    | inl h ↦
        let is = chain_at order new n h in
        inr (record {
          left = ap (λ (r : Rule ℕ). r.left) is;
          lone = record { state = suc (final n).0; is = ap (λ (r : Rule ℕ). r.right) is };
          apart = start_is_free;
        })
    | inr h ↦
        let low = below_new n h.0 b h.1 in
        let is = shifted_at order new n h.0 h.1 low in
        inl (subst (λ (r : Rule ℕ). IsNormalSide r.right) (sym is) (normal_named suc (rule_at new h.0).right (vectors.normal h.0 low)))
  ]

  -- a chain rule and a rule over positions differ in their right-hand sides
  crossed : (m n j : ℕ) → m < length (finals 0 order) → n ≡ length (finals 0 order) + j → j < length new → (rule_at (started order new) m).right ≡ (rule_at (started order new) n).right → ⊥
  crossed m n j h e low same =
      not_lone suc (rule_at new j).right (suc (final m).0) (vectors.normal j low)
      (sym (ap (λ (r : Rule ℕ). r.right) (shifted_at order new n j e low)) ∙ sym same ∙ ap (λ (r : Rule ℕ). r.right) (chain_at order new m h))

  apart : (m n : ℕ) → m < length (started order new) → n < length (started order new) → (rule_at (started order new) m).right ≡ (rule_at (started order new) n).right → m ≡ n
  apart m n a b same = elim (side_of m (length (finals 0 order))) [
    | inl h ↦ elim (side_of n (length (finals 0 order))) [
      | inl k ↦
          let sides : ◌≡◌ {A = SideFor ℕ ℕ} (Lone (suc (final m).0)) (Lone (suc (final n).0)) =
          sym (ap (λ (r : Rule ℕ). r.right) (chain_at order new m h)) ∙ same ∙ ap (λ (r : Rule ℕ). r.right) (chain_at order new n k)
          in
          let states = lone_state (suc (final m).0) (suc (final n).0) sides in
          one_final 0 order m n (0, 0) h k (omega arith)
      | inr k ↦ absurd (crossed m n k.0 h k.1 (below_new n k.0 b k.1) same)
    ]
    | inr h ↦ elim (side_of n (length (finals 0 order))) [
      | inl k ↦ absurd (crossed n m h.0 k h.1 (below_new m h.0 a h.1) (sym same))
      | inr k ↦
          let low = below_new m h.0 a h.1 in
          let high = below_new n k.0 b k.1 in
          let sides : side_map suc (rule_at new h.0).right ≡ side_map suc (rule_at new k.0).right =
          sym (ap (λ (r : Rule ℕ). r.right) (shifted_at order new m h.0 h.1 low)) ∙ same ∙ ap (λ (r : Rule ℕ). r.right) (shifted_at order new n k.0 k.1 high)
          in
          let places : h.0 ≡ k.0 =
          vectors.apart h.0 k.0 low high (sides_back (rule_at new h.0).right (rule_at new k.0).right (vectors.leaves h.0 low) (vectors.leaves k.0 high) sides)
          in
          omega (arith, h.1, k.1, places)
    ]
  ]

  in_range : (n : ℕ) → n < length (started order new) → IsInRange (1 + length order) (rule_at (started order new) n)
  in_range n b = elim (side_of n (length (finals 0 order))) [
    | inl h ↦
        let f : IsFinal 0 order (final n) = final_is 0 order n (0, 0) h in
        subst (IsInRange (1 + length order)) (sym (chain_at order new n h)) (omega arith, (omega (arith, f.is, f.below), tt))
    | inr h ↦
        let low = below_new n h.0 b h.1 in
        let r = vectors.in_range h.0 low in
        subst (IsInRange (1 + length order)) (sym (shifted_at order new n h.0 h.1 low)) (
          omega (arith, r.0),
          subst (AllBelow (1 + length order)) (sym (holes-relabel suc (only (rule_at new h.0).right))) (all_up (length order) (holes_of (rule_at new h.0).right) r.1),
        )
  ]

  leaves_of : (n : ℕ) → n < length (started order new) → HolesAreLeaves (only (rule_at (started order new) n).right)
  leaves_of n b = elim (side_of n (length (finals 0 order))) [
    | inl h ↦ subst (λ (r : Rule ℕ). HolesAreLeaves (only r.right)) (sym (chain_at order new n h)) tt
    | inr h ↦
        let low = below_new n h.0 b h.1 in
        subst (λ (r : Rule ℕ). HolesAreLeaves (only r.right)) (sym (shifted_at order new n h.0 h.1 low)) (leaves_named suc (only (rule_at new h.0).right) (vectors.leaves h.0 low))
  ]

  -- with the fresh start the grammar is in deterministic form
  pub well_started : IsWellStarted order new
  well_started = record {
    deterministic = record { shaped = shaped; apart = apart };
    in_range = in_range;
    leaves = leaves_of;
  }
