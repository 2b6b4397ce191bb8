-- What an index of the rules holds, rule by rule.
use Rattle.std.specs.Prelude.{◌≡◌, ℕ, ◌+◌, ◌≤◌, ◌&&◌, nat_eq, Bool, true, false, List, [], ◌∷◌, ◌++◌, length, take, if◌then◌else◌, refl}
use Rattle.std.proofs.Common.{ap, arith, sym, ◌∙◌, append-nil, get_or, zero, suc}
use Rattle.std.proofs.lemmas.List.{take_all}
use Rattle.tib_lex.proofs.Lists.{head_is}
use Rattle.tib_tree.specs.Trees.{count, preorder_of}
use Rattle.tib_grammar.specs.Sides.{Symbol, label, Side as SideFor}
use Rattle.tib_grammar.specs.Items.{pairs_of, pair_of}
use Rattle.tib_grammar.specs.declared.Item.{Item}
use Rattle.tib_grammar.specs.declared.Item.TheVariants.{Label}
use Rattle.tib_grammar.specs.ShapeBuckets.{same_shape}
use Rattle.tib_transducer.specs.Rules.{transducer_rule, no_rule}
use Rattle.tib_transducer.specs.declared.TransducerRule.{TransducerRule}
use Rattle.tib_key_edges.specs.Choices.{reads_label}
use Rattle.tib_key_edges.specs.Places.{places_from}
use Rattle.tib_compose.specs.Readers.{readers, readers_with, has_shape, IsFlat}
use Rattle.tib_key_edges.proofs.Choosing.{are_holes_of}
use Rattle.tib_key_edges.proofs.Places.{places-more}

-- the first item of a side that has a label at its root
pub first_item : {P : Type 0} (items : List (Item P)) (s : SideFor ℕ P) (f n : ℕ) → pairs_of items ≡ preorder_of s → get_or items 0 (Label 0 0) ≡ Label f n → (s.label ≡ label f) × (count s.kids ≡ n)
first_item [] s f n e is = absurd (cc)
first_item {P} (x ∷ items) s f n e is =
    let same : ◌≡◌ {A = Symbol ℕ P × ℕ} (label f, n) (s.label, count s.kids) = ap pair_of (sym is) ∙ head_is e in
    (sym (ap (λ y. y.0) same), sym (ap (λ y. y.1) same))

-- a rule reads what its shape says
pub shape_reads : (r : TransducerRule ℕ) (g k : ℕ) → IsFlat r → r.left.label ≡ label g → count r.left.kids ≡ k → (s : ℕ × ℕ × ℕ) → reads_label s.0 s.1 s.2 r ≡ same_shape (r.state, g, k) s
shape_reads r g k flat root many s =
    let holes = are_holes_of r.left.kids flat.variables in
    rw (root, holes, many) (by_case (nat_eq r.state s.0) (nat_eq g s.1) (nat_eq k s.2))
  where
    by_case : (a b c : Bool) → (if a then (if b then c else false) else false) ≡ ((a && b) && c)
    by_case true true c = refl
    by_case true false c = refl
    by_case false true c = refl
    by_case false false c = refl

-- the places of the rules of a shape are its readers
module _ (two : List (TransducerRule ℕ)) (p f n : ℕ) where
  by_case : (b : Bool) (m : ℕ) (xs ys : List ℕ) → xs ≡ ys → (if b then xs ++ (0 + m) ∷ [] else xs) ≡ ys ++ (if b then m ∷ [] else [])
  by_case true m xs ys e = let same : 0 + m ≡ m = omega arith in ap (λ k. xs ++ k ∷ []) same ∙ ap (λ zs. zs ++ m ∷ []) e
  by_case false m xs ys e = e ∙ sym (append-nil ys)

  places_readers : (m : ℕ) → m ≤ length two → places_from 0 (reads_label p f n) (take m two) ≡ readers two p f n m
  places_readers zero h = refl
  places_readers (suc m) h =
      places-more (reads_label p f n) two 0 m no_rule (omega (arith, h))
      ∙ by_case (reads_label p f n (transducer_rule two m)) m (places_from 0 (reads_label p f n) (take m two)) (readers two p f n m) (places_readers m (omega (arith, h)))

pub readers_there : (two : List (TransducerRule ℕ)) (s : ℕ × ℕ × ℕ) → places_from 0 (has_shape s) two ≡ readers_with s two
readers_there two s =
    ap (places_from 0 (reads_label s.0 s.1 s.2)) (sym (take_all (length two) two (omega arith))) ∙ places_readers two s.0 s.1 s.2 (length two) (omega arith)
