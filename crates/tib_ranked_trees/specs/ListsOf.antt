-- What lists of best trees hold.
use Rattle.std.specs.Prelude.{ℕ, List, refl}
use Rattle.std.specs.Coded.{Coded, code_by, coded×, coded_list, coded_ℕ}
use Rattle.std.specs.Global.{Vec}
use Rattle.tib_tree.specs.Trees.{Tree, tree_code}
use Rattle.tib_grammar.specs.GrammarOf.{rule_code}
use Rattle.tib_grammar.specs.declared.Rule.{Rule}
use Rattle.tib_ranked_trees.specs.declared.lists.Entry.{Entry}
use Rattle.tib_ranked_trees.specs.declared.lists.Candidate.{Candidate}

-- The rules, the labels with their places in order, the trees by numbers, the list of each state,
-- the candidates, and the ranks of these in one list.
pub record ListsOf : Type 0 where
  pub rules : List (Rule ℕ)
  pub labels : List (List ℕ)
  pub label_ranks : List ℕ
  pub trees : List (Tree ℕ)
  pub lists : List (List Entry)
  pub candidates : List Candidate
  pub ranks : List ℕ

-- the list of a state
abbrev pub items_of : Vec Entry → List Entry
items_of v = v.items

-- each part is stored as its fields
abbrev pub trees_code : Coded (List (Tree ℕ))
trees_code = coded_list (tree_code coded_ℕ)

abbrev pub entry_code : Coded Entry
entry_code =
    code_by
    (ℕ × (ℕ × ℕ))
    (coded× coded_ℕ (coded× coded_ℕ coded_ℕ))
    (λ e. (e.tree, (e.cost, e.candidate)))
    (λ p. record { tree = p.0; cost = p.1.0; candidate = p.1.1 })
    (λ _. refl)

abbrev pub candidate_code : Coded Candidate
candidate_code =
    code_by
    (ℕ × (ℕ × (ℕ × ℕ)))
    (coded× coded_ℕ (coded× coded_ℕ (coded× coded_ℕ coded_ℕ)))
    (λ c. (c.rule, (c.start, (c.cost, c.size))))
    (λ p. record { rule = p.0; start = p.1.0; cost = p.1.1.0; size = p.1.1.1 })
    (λ _. refl)

abbrev pub lists_code : Coded ListsOf
lists_code =
    code_by
    (List (Rule ℕ) × (List (List ℕ) × (List ℕ × (List (Tree ℕ) × (List (List Entry) × (List Candidate × List ℕ))))))
    (coded× (coded_list (rule_code coded_ℕ))
    (coded× (coded_list (coded_list coded_ℕ))
    (coded× (coded_list coded_ℕ)
    (coded× trees_code
    (coded× (coded_list (coded_list entry_code)) (coded× (coded_list candidate_code) (coded_list coded_ℕ)))))))
    (λ x. (x.rules, (x.labels, (x.label_ranks, (x.trees, (x.lists, (x.candidates, x.ranks)))))))
    (λ p. record {
      rules = p.0;
      labels = p.1.0;
      label_ranks = p.1.1.0;
      trees = p.1.1.1.0;
      lists = p.1.1.1.1.0;
      candidates = p.1.1.1.1.1.0;
      ranks = p.1.1.1.1.1.1;
    })
    (λ _. refl)
