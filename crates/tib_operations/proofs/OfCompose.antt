-- What `compose` writes: what it reaches does not depend on the numbers of labels, and that there
-- is no text cannot be where that is within the limit.
use Rattle.tib_cost.specs.declared.Scale.{Scale}
use Rattle.std.proofs.Common.{◌≡◌, ℕ, ◌+◌, ◌<◌, ◌≤◌, Bool, List, [], ◌∷◌, length, map, get_or, refl, sym, subst, arith, Option}
use Rattle.std.specs.Prelude.{Some, None}
use Rattle.std.proofs.lemmas.Option.{slice_get_within, slice_get-get_or, get_or_from_slice_get}
use Rattle.tib_lex.specs.Lines.{HasNoFeed}
use Rattle.tib_lex.specs.Lists.{Distinct, total}
use Rattle.tib_lex.proofs.Lists.{each_weaker}
use Rattle.tib_cost.specs.Semiring.{ProductLaws}
use Rattle.tib_tree.specs.Grows.{Grows}
use Rattle.tib_tree.specs.Trees.{preorder_of}
use Rattle.tib_grammar.specs.Sides.{Symbol, label, hole}
use Rattle.tib_grammar_file.proofs.Renumbering.{renumbering}
use Rattle.tib_expand.specs.Reached.{IsReachedSet, parts_of}
use Rattle.tib_expand.specs.Keys.{key_parts}
use Rattle.tib_transducer.specs.TransducerOf.{TransducerOf}
use Rattle.tib_transducer.specs.declared.Variable.{Variable}
use Rattle.tib_transducer.specs.declared.Pair.{Pair}
use Rattle.tib_transducer.specs.declared.TransducerRule.{TransducerRule}
use Rattle.tib_transducer_file.specs.ByText.{AreOneTransducer}
use Rattle.tib_transducer_file.specs.TransducerText.{ReadsAs}
use Rattle.tib_transducer_file.specs.ByName.{IsPlainLabel, IsPlainAsked, IsPlainOnLeft, IsPlainOnRight, IsPrintable}
use Rattle.tib_transducer_file.proofs.ReadBack.{read_back}
use Rattle.tib_transducer.specs.Outside.{AllMeet}
use Rattle.tib_canon.specs.Constructions.{HasReachedWithin}
use Rattle.tib_key_edges.specs.Composition.{composition, edge_parts}
use Rattle.tib_canon.specs.TransducerKeys.{AreMovesOver}
use Rattle.tib_canon.proofs.Compose.{compose_there}
use Rattle.tib_canon.proofs.ComposeByText.{compose_alike, moves_given}
use Rattle.tib_canon.proofs.Relabelled.{left_with, right_with, move_with, moves_with}
use Rattle.tib_canon.proofs.TransducerTexts.{text_moves}
use Rattle.tib_operations.specs.Compose.{plain, compose_makes, HasComposeText}
use Rattle.tib_operations.proofs.Composed.{are_plain}
use Rattle.tib_operations.proofs.MadeParts.{IsEither}
use Rattle.tib_operations.proofs.Tables.{sizes_kept}

-- rules that can be printed over the states of a transducer that was read
pub read_moves : (scale : Scale) (labels : List (List ℕ)) (bytes : List ℕ) (t : TransducerOf) → ReadsAs scale labels bytes t → AreMovesOver scale labels (length t.names) t.rules
read_moves scale labels bytes t r = text_moves scale labels t (length t.names) t.rules (read_back scale labels bytes t r).0 refl refl

-- they can be printed still when the table grows

module _ (scale : Scale) (early labels : List (List ℕ)) (grows : Grows early labels) where
  label_grown : (f : ℕ) → IsPlainLabel early f → IsPlainLabel labels f
  label_grown f h =
      let text : List ℕ = get_or early f [] in
      let there = grows.kept f text (slice_get-get_or early f [] h.0) in
      (slice_get_within labels f text there, subst HasNoFeed (sym (get_or_from_slice_get labels f text [] there)) h.1)

  asked_grown : (asked : Option ℕ) → IsPlainAsked early asked → IsPlainAsked labels asked
  asked_grown None h = tt
  asked_grown (Some f) h = label_grown f h

  left_grown : (s : Symbol ℕ Variable) → IsPlainOnLeft early s → IsPlainOnLeft labels s
  left_grown (label f) h = label_grown f h
  left_grown (hole x) h = asked_grown x.label h

  right_grown : (s : Symbol ℕ (Pair ℕ)) → IsPlainOnRight early s → IsPlainOnRight labels s
  right_grown (label f) h = label_grown f h
  right_grown (hole x) h = tt

  rule_grown : (r : TransducerRule ℕ) → IsPrintable scale early r → IsPrintable scale labels r
  rule_grown r h = record {
    left = each_weaker (λ (s : Symbol ℕ Variable × ℕ). IsPlainOnLeft early s.0) (λ s. IsPlainOnLeft labels s.0) (preorder_of r.left) (λ s p. left_grown s.0 p) h.left;
    right = each_weaker (λ (s : Symbol ℕ (Pair ℕ) × ℕ). IsPlainOnRight early s.0) (λ s. IsPlainOnRight labels s.0) (preorder_of r.right) (λ s p. right_grown s.0 p) h.right;
    few = h.few;
    cost = h.cost;
  }

  pub over_grown : (states : ℕ) (rules : List (TransducerRule ℕ)) → AreMovesOver scale early states rules → AreMovesOver scale labels states rules
  over_grown states rules m = record {
    within = m.within;
    shaped = m.shaped;
    leaves = m.leaves;
    printable = each_weaker (IsPrintable scale early) (IsPrintable scale labels) rules rule_grown m.printable;
  }

-- as many parts over each table of labels

edges_as_large : (f : ℕ → ℕ) (edges : List (TransducerRule (ℕ × ℕ))) → total edge_parts (moves_with f edges) ≡ total edge_parts edges
edges_as_large f [] = refl
edges_as_large f (e ∷ edges) = omega (arith, sizes_kept (left_with f) e.left.kids, sizes_kept (right_with {P = ℕ × ℕ} f) e.right.kids, edges_as_large f edges)

pub compose_by_text :
    (product : ℕ → ℕ → ℕ) (limit : ℕ) (labels others : List (List ℕ)) → Distinct labels → Distinct others → (t u v w : TransducerOf) → AreOneTransducer labels others t v → AreOneTransducer labels others u w →
    HasReachedWithin (composition product t.rules u.rules) limit → HasReachedWithin (composition product v.rules w.rules) limit
compose_by_text product limit labels others apart different t u v w a b h =
    let s = renumbering labels others apart different in
    let moved : IsReachedSet (composition product (moves_with s.0 t.rules) (moves_with s.0 u.rules)) h.order (moves_with s.0 h.edges) = compose_alike s.0 s.1.apart product t.rules u.rules h.order h.edges h.reached in
    let as_large : total edge_parts (moves_with s.0 h.edges) ≡ total edge_parts h.edges = edges_as_large s.0 h.edges in
    let within : total (key_parts (λ k. 2)) h.order + total edge_parts h.edges ≤ limit = h.within in
    record {
      order = h.order;
      edges = moves_with s.0 h.edges;
      reached =
          subst (λ (rs : List (TransducerRule ℕ)). IsReachedSet (composition product v.rules rs) h.order (moves_with s.0 h.edges)) (moves_given labels others s.0 s.1 u.rules w.rules b.rules)
          (subst (λ (rs : List (TransducerRule ℕ)). IsReachedSet (composition product rs (moves_with s.0 u.rules)) h.order (moves_with s.0 h.edges)) (moves_given labels others s.0 s.1 t.rules v.rules a.rules) moved);
      within = omega (arith, within, as_large);
    }

-- it is within the limit, or each has more parts

not_within : (m n : ℕ) → (m ≤ n → ⊥) → n < m
not_within m n h = grind arith

pub compose_either : (product : ℕ → ℕ → ℕ) (limit : ℕ) (t u : TransducerOf) → IsEither (compose_makes product limit t u)
compose_either product limit t u = record {
  apart = λ w m. omega (arith, w.within, m w.order w.edges w.reached);
  either = λ w m. m (λ order edges reached.
      not_within (parts_of (composition product t.rules u.rules) order edges) limit (λ within.
      w (record { order = order; edges = edges; reached = reached; within = within })));
}

-- where the reached set is within the limit
pub composed_there :
    {levelled weighed : Bool} {product : ℕ → ℕ → ℕ} → ProductLaws levelled weighed product → (scale : Scale) (limit : ℕ) → limit < 4294967296 → (labels : List (List ℕ)) → Distinct labels → (t u : TransducerOf) →
    AreMovesOver scale labels (length t.names) t.rules → AreMovesOver scale labels (length u.names) u.rules → AllMeet plain u.rules → HasReachedWithin (composition product t.rules u.rules) limit →
    ((text : List ℕ) → HasComposeText scale product limit labels t u text → ⊥) → ⊥
composed_there laws scale limit low labels apart t u m n met w never = compose_there laws scale limit (omega (arith, low)) labels apart t u m n (are_plain u.rules met) w never
