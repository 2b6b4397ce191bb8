-- The choices that translate a side, and the edges of a pair, as lists.
use Rattle.std.specs.Prelude.{ℕ, List, [], ◌∷◌, ◌++◌, map, length, Bool, true, false, nat_eq, nat_le, if◌then◌else◌, Option, None, Some, ◌↔◌}
use Rattle.std.proofs.Common.{zero, suc}
use Rattle.tib_lex.specs.Lists.{Has, Distinct}
use Rattle.tib_tree.specs.Trees.{Trees, none, tree, only, count, join, first_of}
use Rattle.tib_grammar.specs.Sides.{Symbol, label, hole, Side as SideFor, holes_of, is_label}
use Rattle.tib_cost.specs.Semiring.{most}
use Rattle.tib_expand.specs.EdgeLists.{Lists}
use Rattle.tib_transducer.specs.Rules.{transducer_rule}
use Rattle.tib_transducer.specs.Range.{AreShaped}
use Rattle.tib_key_edges.specs.Translations.{AreTranslations, translated, choice_cost}
use Rattle.tib_key_edges.specs.Composing.{IsComposeEdge}
use Rattle.tib_transducer.specs.declared.Pair.{Pair}
use Rattle.tib_transducer.specs.declared.TransducerRule.{TransducerRule}

-- each of the first list joined with each of the second
abbrev pub all_joins : {A : Type 0} → List (Trees A) → List (Trees A) → List (Trees A)
all_joins [] ds = []
all_joins (c ∷ cs) ds = map (join c) ds ++ all_joins cs ds

-- a choice for each pair, where `choices` lists those of the side at a place by a state
abbrev pub joined : (ℕ → ℕ → List (Trees (Option ℕ))) → List (Pair ℕ) → List (Trees (Option ℕ))
joined choices [] = none ∷ []
joined choices (x ∷ xs) = all_joins (choices x.variable x.state) (joined choices xs)

-- whether a list has nothing but holes
abbrev pub are_holes : {P : Type 0} → Trees (Symbol ℕ P) → Bool
are_holes none = true
are_holes (tree (label f) kids rest) = false
are_holes (tree (hole p) kids rest) = are_holes rest

-- whether the rule leads from the state p and reads the label f over this many variables
abbrev pub reads_label : ℕ → ℕ → ℕ → TransducerRule ℕ → Bool
reads_label p f n r =
    if nat_eq r.state p then (if is_label f r.left.label then (if are_holes r.left.kids then nat_eq (count r.left.kids) n else false) else false) else false

-- the choices at a label f over n sides by the state p, with the first rules
abbrev pub by_rules : List (TransducerRule ℕ) → (ℕ → ℕ → List (Trees (Option ℕ))) → ℕ → ℕ → ℕ → ℕ → List (Trees (Option ℕ))
by_rules two choices p f n zero = []
by_rules two choices p f n (suc m) =
    by_rules two choices p f n m
    ++ (if reads_label p f n (transducer_rule two m) then map (λ below. tree (Some m) below none) (joined choices (holes_of (transducer_rule two m).right)) else [])

-- the choices that translate the side at a place of a list by a state
abbrev pub choices_at : {P : Type 0} → List (TransducerRule ℕ) → Trees (Symbol ℕ P) → ℕ → ℕ → List (Trees (Option ℕ))
choices_at two none i p = []
choices_at two (tree (hole x) kids rest) zero p = tree None none none ∷ []
choices_at two (tree (label f) kids rest) zero p = by_rules two (λ i q. choices_at two kids i q) p f (count kids) (length two)
choices_at two (tree s kids rest) (suc i) p = choices_at two rest i p

-- the choices that translate a side by a state
abbrev pub choices_of : {P : Type 0} → List (TransducerRule ℕ) → ℕ → SideFor ℕ P → List (Trees (Option ℕ))
choices_of two p s = choices_at two (only s) 0 p

-- They are all choices, each once.
abbrev pub ChoicesAreAll : Type 0
ChoicesAreAll =
    (two : List (TransducerRule ℕ)) → AreShaped two → (p : ℕ) (s : SideFor ℕ (Pair ℕ)) →
    Distinct (choices_of two p s) × ((choice : Trees (Option ℕ)) → Has (choices_of two p s) choice ↔ AreTranslations two (p ∷ []) (only s) choice)

-- the edge of an origin
abbrev pub edge_from : (ℕ → ℕ → ℕ) → List (TransducerRule ℕ) → List (TransducerRule ℕ) → ℕ × ℕ → ℕ × Trees (Option ℕ) → TransducerRule (ℕ × ℕ)
edge_from product one two key origin = record {
  state = key;
  left = (transducer_rule one origin.0).left;
  right = first_of (label 0) (translated two (key.1 ∷ []) (only (transducer_rule one origin.0).right) origin.1);
  cost = product (transducer_rule one origin.0).cost (choice_cost product two origin.1);
}

-- the origins of a rule whose edges cost at most the greatest cost
abbrev pub cheap : (ℕ → ℕ → ℕ) → List (TransducerRule ℕ) → List (TransducerRule ℕ) → ℕ → List (Trees (Option ℕ)) → List (ℕ × Trees (Option ℕ))
cheap product one two n [] = []
cheap product one two n (c ∷ cs) =
    if nat_le (product (transducer_rule one n).cost (choice_cost product two c)) most then (n, c) ∷ cheap product one two n cs else cheap product one two n cs

-- the origins of the edges of a pair, with the first rules
abbrev pub origins_of : (ℕ → ℕ → ℕ) → List (TransducerRule ℕ) → List (TransducerRule ℕ) → ℕ × ℕ → ℕ → List (ℕ × Trees (Option ℕ))
origins_of product one two key zero = []
origins_of product one two key (suc n) =
    origins_of product one two key n
    ++ (if nat_eq (transducer_rule one n).state key.0 then cheap product one two n (choices_of two key.1 (transducer_rule one n).right) else [])

-- the edges of a pair
abbrev pub edges_of : (ℕ → ℕ → ℕ) → List (TransducerRule ℕ) → List (TransducerRule ℕ) → ℕ × ℕ → List (TransducerRule (ℕ × ℕ))
edges_of product one two key = map (edge_from product one two key) (origins_of product one two key (length one))

-- They are all edges of the pair, each as often as origins give it.
abbrev pub EdgesAreListed : (ℕ → ℕ → ℕ) → Type 0
EdgesAreListed product =
    (one two : List (TransducerRule ℕ)) → AreShaped two → (key : ℕ × ℕ) → Lists (IsComposeEdge product one two key) (edges_of product one two key)
