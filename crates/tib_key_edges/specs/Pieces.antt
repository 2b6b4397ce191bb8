-- A search that outputs one piece after another.
use Rattle.std.specs.Prelude.{◌≡◌, ℕ, ◌<◌, List, [], ◌∷◌, ◌++◌, map, length, if◌then◌else◌, Option}
use Rattle.std.proofs.Common.{zero, suc}
use Rattle.tib_tree.specs.Trees.{Trees, none, tree, only, count, preorder_of, first_of}
use Rattle.tib_grammar.specs.Sides.{Symbol, label, hole, Side as SideFor, HolesAreLeaves}
use Rattle.tib_transducer.specs.Rules.{transducer_rule}
use Rattle.tib_transducer.specs.Run.{tree_at}
use Rattle.tib_transducer.specs.Range.{AreShaped}
use Rattle.tib_transducer.specs.declared.Pair.{Pair}
use Rattle.tib_transducer.specs.declared.TransducerRule.{TransducerRule}
use Rattle.tib_key_edges.specs.Translations.{translated, choice_cost}
use Rattle.tib_key_edges.specs.Choices.{choices_of, reads_label}
use Rattle.tib_key_edges.specs.Completions.{completions}
use Rattle.tib_key_edges.specs.Flat.{substituted}

-- a label that is output with its number of children, or a side that is translated by a state
pub data Piece : Type 0 where
  put : ℕ → ℕ → Piece
  read : SideFor ℕ (Pair ℕ) → ℕ → Piece

-- the sides that are to be translated, their states, and what is output, with a hole for each side
abbrev pub sides_of : List Piece → Trees (Symbol ℕ (Pair ℕ))
sides_of [] = none
sides_of (put f n ∷ ws) = sides_of ws
sides_of (read s p ∷ ws) = tree s.label s.kids (sides_of ws)

abbrev pub states_of : List Piece → List ℕ
states_of [] = []
states_of (put f n ∷ ws) = states_of ws
states_of (read s p ∷ ws) = p ∷ states_of ws

abbrev pub template_of : List Piece → List (Symbol ℕ (Pair ℕ) × ℕ)
template_of [] = []
template_of (put f n ∷ ws) = (label f, n) ∷ template_of ws
template_of (read s p ∷ ws) = (hole (record { state = p; variable = 0 }), 0) ∷ template_of ws

-- a cost, and the preorder of a side over pairs of states
abbrev pub Result : Type 0
Result = ℕ × List (Symbol ℕ (Pair (ℕ × ℕ)) × ℕ)

-- the pieces of a right-hand side over some sides
abbrev pub pieces_of : List (Symbol ℕ (Pair ℕ) × ℕ) → Trees (Symbol ℕ (Pair ℕ)) → List Piece
pieces_of [] kids = []
pieces_of ((label f, n) ∷ xs) kids = put f n ∷ pieces_of xs kids
pieces_of ((hole x, n) ∷ xs) kids = read (first_of (label 0) (tree_at kids x.variable)) x.state ∷ pieces_of xs kids

module _ (product : ℕ → ℕ → ℕ) (two : List (TransducerRule ℕ)) where
  -- the result of a choice for some pieces, after what is already output at a cost
  abbrev pub result_of : ℕ → List (Symbol ℕ (Pair (ℕ × ℕ)) × ℕ) → List Piece → Trees (Option ℕ) → Result
  result_of cost done ws c =
      (product cost (choice_cost product two c), done ++ substituted (template_of ws) (translated two (states_of ws) (sides_of ws) c))

  -- the results of all choices, in their order
  abbrev pub results : ℕ → List (Symbol ℕ (Pair (ℕ × ℕ)) × ℕ) → List Piece → List Result
  results cost done ws = map (result_of cost done ws) (completions two (sides_of ws) (states_of ws))

  -- the results of the first rules that read the label f over some sides
  abbrev pub results_by : ℕ → List (Symbol ℕ (Pair (ℕ × ℕ)) × ℕ) → ℕ → Trees (Symbol ℕ (Pair ℕ)) → ℕ → List Piece → ℕ → List Result
  results_by cost done f kids p ws zero = []
  results_by cost done f kids p ws (suc m) =
      results_by cost done f kids p ws m
      ++ (if reads_label p f (count kids) (transducer_rule two m)
      then results (product cost (transducer_rule two m).cost) done (pieces_of (preorder_of (transducer_rule two m).right) kids ++ ws)
      else [])

  -- what such a search does where nothing is left, at a label that is output, at a pair, and at a
  -- label that is read
  pub record GoesByPieces : Type 0 where
    pub at_end : (cost : ℕ) (done : List (Symbol ℕ (Pair (ℕ × ℕ)) × ℕ)) → results cost done [] ≡ (cost, done) ∷ []
    pub at_put :
        (cost : ℕ) (done : List (Symbol ℕ (Pair (ℕ × ℕ)) × ℕ)) (f n : ℕ) (ws : List Piece) →
        results cost done (put f n ∷ ws) ≡ results cost (done ++ (label f, n) ∷ []) ws
    pub at_pair :
        (cost : ℕ) (done : List (Symbol ℕ (Pair (ℕ × ℕ)) × ℕ)) (x : Pair ℕ) (kids : Trees (Symbol ℕ (Pair ℕ))) (p : ℕ) (ws : List Piece) →
        results cost done (read (record { label = hole x; kids = kids }) p ∷ ws)
        ≡ results cost (done ++ (hole (record { state = (x.state, p); variable = x.variable }), 0) ∷ []) ws
    pub at_label :
        (cost : ℕ) (done : List (Symbol ℕ (Pair (ℕ × ℕ)) × ℕ)) (f : ℕ) (kids : Trees (Symbol ℕ (Pair ℕ))) (p : ℕ) (ws : List Piece) →
        results cost done (read (record { label = label f; kids = kids }) p ∷ ws) ≡ results_by cost done f kids p ws (length two)
    pub at_start :
        (cost p : ℕ) (s : SideFor ℕ (Pair ℕ)) →
        results cost [] (read s p ∷ [])
        ≡ map (λ c. (
          product cost (choice_cost product two c),
          substituted {P = Pair ℕ} ((hole (record { state = p; variable = 0 }), 0) ∷ []) (translated two (p ∷ []) (only s) c),
        )) (choices_of two p s)

-- the search by pieces finds the results of all choices, in their order
abbrev pub SearchGoesByPieces : (ℕ → ℕ → ℕ) → Type 0
SearchGoesByPieces product =
    (two : List (TransducerRule ℕ)) → AreShaped two → ((m : ℕ) → m < length two → HolesAreLeaves (only (transducer_rule two m).right)) → GoesByPieces product two
