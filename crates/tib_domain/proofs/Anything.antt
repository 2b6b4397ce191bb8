-- The rules of the domain, and the runs of `any`, which read each tree over the alphabet at `one`.
use Rattle.std.specs.Prelude.{◌≡◌, ◌⊎◌, ℕ, ◌+◌, ◌<◌, List, [], ◌∷◌, length, map, Bool, refl}
use Rattle.std.specs.List.{range_with_len}
use Rattle.std.proofs.Common.{suc, ap, sym, ◌∙◌, subst, inl, inr}
use Rattle.tib_lex.specs.Lists.{Has}
use Rattle.tib_lex.proofs.Lists.{has_mapped, mapped_has}
use Rattle.tib_lex.proofs.Members.{has_at, at_has, has_left, has_right, has_either}
use Rattle.tib_tree.specs.Trees.{Trees, none, tree, count, only, first_trees}
use Rattle.tib_grammar.specs.Sides.{holes, leaves, over, fill}
use Rattle.tib_grammar.proofs.Sides.{fill-AreHoles, first_all, holes-leaves, AreHoles-leaves, holes_of-over}
use Rattle.tib_cost.specs.Semiring.{ProductLaws}
use Rattle.tib_cost.proofs.Times.{product-zero}
use Rattle.tib_transducer.specs.Run.{AreBound, Fits, pick}
use Rattle.tib_transducer.specs.declared.Variable.{Variable}
use Rattle.tib_transducer.specs.declared.TransducerRule.{TransducerRule}
use Rattle.tib_strings.specs.Rules.{string_rule, no_rule, states_in, variables_in}
use Rattle.tib_strings.specs.Run.{AreStringRuns, StringRunsRead, string_cost}
use Rattle.tib_strings.specs.declared.StringRule.{StringRule}
use Rattle.tib_domain.specs.Alphabet.{alphabet, AreOver}
use Rattle.tib_domain.specs.Reading.{reading_rule, plain, any_rule, domain_rules}
use Rattle.tib_domain.proofs.LeftOut.{anys, any_states, any_variables, plain_long, range_long}
use Rattle.tib_domain.proofs.Picking.{pick_all}

-- as many trees are bound as there are variables
pub count_bound : (xs : List Variable) (args : Trees ℕ) → AreBound xs args → count args ≡ length xs
count_bound [] none b = refl
count_bound [] (tree f kids rest) b = absurd b
count_bound (x ∷ xs) none b = absurd b
count_bound (x ∷ xs) (tree f kids rest) b = ap suc (count_bound xs rest b.1)

-- a label over holes, filled, is the label over the trees
pub fill_over : (f : ℕ) (xs : List Variable) (args : Trees ℕ) → count args ≡ length xs → fill (only (over f xs)) args ≡ tree f args none
fill_over f xs args c =
    let long : length (holes {A = ℕ} (leaves xs)) ≡ count args = ap length (holes-leaves ℕ xs) ∙ sym c in
    let all : first_trees (length (holes {A = ℕ} (leaves xs))) args ≡ args = first_all args (length (holes {A = ℕ} (leaves xs))) long in
    ap (λ ks. tree f ks none) (ap (fill (leaves xs)) all ∙ fill-AreHoles (leaves xs) args (AreHoles-leaves ℕ xs) (sym long))

plain_bound : (n : ℕ) (ts : Trees ℕ) → AreBound (map plain (range_with_len n (count ts))) ts
plain_bound n none = tt
plain_bound n (tree f kids rest) = (tt, plain_bound (n + 1) rest)

module _ (any : ℕ) (rules : List (TransducerRule ℕ)) where
  abbrev pub moves : List (StringRule ℕ)
  moves = domain_rules any rules

  -- a rule of the domain reads what a rule of the transducer reads, or is one of `any`
  abbrev pub IsFrom : StringRule ℕ → Type 0
  IsFrom s =
      ((r : TransducerRule ℕ) × Has rules r × (reading_rule any r ≡ s))
      ⊎ ((x : ℕ × ℕ) × Has {A = ℕ × ℕ} (alphabet rules) x × (any_rule any x ≡ s))

  pub is_from : (s : StringRule ℕ) → Has moves s → IsFrom s
  is_from s h = elim (has_either (map (reading_rule any) rules) (map (any_rule any) (alphabet rules)) s h) [
    | inl k ↦ inl (has_mapped (reading_rule any) rules s k)
    | inr k ↦ inr (has_mapped (any_rule any) (alphabet rules) s k)
  ]

  pub rule_from : (i : ℕ) → i < length moves → IsFrom (string_rule moves i)
  rule_from i h = is_from (string_rule moves i) (has_at moves i no_rule h)

  -- a rule of the domain at some position
  abbrev pub StandsAt : StringRule ℕ → Type 0
  StandsAt s = (i : ℕ) × (i < length moves) × (string_rule moves i ≡ s)

  pub reading_at : (r : TransducerRule ℕ) → Has rules r → StandsAt (reading_rule any r)
  reading_at r h = at_has moves (reading_rule any r) no_rule (has_left (map (reading_rule any) rules) (map (any_rule any) (alphabet rules)) (reading_rule any r) (mapped_has (reading_rule any) rules r h))

  any_at : (x : ℕ × ℕ) → Has (alphabet rules) x → StandsAt (any_rule any x)
  any_at x h = at_has moves (any_rule any x) no_rule (has_right (map (reading_rule any) rules) (map (any_rule any) (alphabet rules)) (any_rule any x) (mapped_has (any_rule any) (alphabet rules) x h))

  -- a run below a rule, which is known, that reads a tree
  pub record Opens (s : StringRule ℕ) (runs : Trees ℕ) (one : Trees ℕ) : Type 0 where
    pub runs_below : AreStringRuns moves (states_in s.right) runs
    pub fits : Fits s.left one (λ args. StringRunsRead moves runs (pick args (variables_in s.right)))

  -- runs of the domain that read trees at a cost
  pub record AreReadFrom (product : ℕ → ℕ → ℕ) (qs : List ℕ) (ts : Trees ℕ) (c : ℕ) : Type 0 where
    pub runs : Trees ℕ
    pub are_runs : AreStringRuns moves qs runs
    pub reads : StringRunsRead moves runs ts
    pub costs : string_cost product moves runs ≡ c

  module _ {levelled weighted : Bool} {product : ℕ → ℕ → ℕ} (laws : ProductLaws levelled weighted product) where
    -- runs by a rule at a position, and others beside
    pub one_more :
        (s : StringRule ℕ) → StandsAt s → (runs : Trees ℕ) (f : ℕ) (kids : Trees ℕ) → Opens s runs (tree f kids none) → (qs : List ℕ) (ts : Trees ℕ) (c : ℕ) → AreReadFrom product qs ts c →
        AreReadFrom product (s.state ∷ qs) (tree f kids ts) (product (product s.cost (string_cost product moves runs)) c)
    one_more s at runs f kids o qs ts c h =
        let here : Opens (string_rule moves at.0) runs (tree f kids none) = subst (λ (x : StringRule ℕ). Opens x runs (tree f kids none)) (sym at.2) o in
        record {
          runs = tree at.0 runs h.runs;
          are_runs = (at.1, ap (λ (x : StringRule ℕ). x.state) at.2, here.runs_below, h.are_runs);
          reads = (here.fits, h.reads);
          costs = ap (λ (x : StringRule ℕ). product (product x.cost (string_cost product moves runs)) (string_cost product moves h.runs)) at.2
              ∙ ap (product (product s.cost (string_cost product moves runs))) h.costs;
        }

    -- each tree over the alphabet is read from `any` at no cost
    pub any_reads : (ts : Trees ℕ) → AreOver (alphabet rules) ts → AreReadFrom product (anys any (count ts)) ts 0
    any_reads none o = record { runs = none; are_runs = tt; reads = tt; costs = refl }
    any_reads (tree f kids rest) o =
        let x : ℕ × ℕ = (f, count kids) in
        let below = any_reads kids o.1 in
        let many : length (range_with_len 0 (count kids)) ≡ count kids = range_long 0 (count kids) in
        let states : anys any (count kids) ≡ states_in (any_rule any x).right = ap (anys any) (sym many) ∙ sym (any_states any x) in
        let picked : kids ≡ pick kids (variables_in (any_rule any x).right) = sym (pick_all kids) ∙ ap (pick kids) (sym (any_variables any x)) in
        let vars : List Variable = map plain (range_with_len 0 (count kids)) in
        let opens : Opens (any_rule any x) below.runs (tree f kids none) = record {
          runs_below = subst (λ qs. AreStringRuns moves qs below.runs) states below.are_runs;
          fits = record {
            args = kids;
            bound = subst (λ (vs : List Variable). AreBound vs kids) (sym (holes_of-over f vars)) (plain_bound 0 kids);
            filled = fill_over f vars kids (sym (plain_long 0 (count kids)));
            below = subst (StringRunsRead moves below.runs) picked below.reads;
          };
        }
        in
        let all = one_more (any_rule any x) (any_at x o.0) below.runs f kids opens (anys any (count rest)) rest 0 (any_reads rest o.2) in
        record {
          runs = all.runs;
          are_runs = all.are_runs;
          reads = all.reads;
          costs = all.costs ∙ product-zero laws _ ∙ laws.neutral _ ∙ below.costs;
        }
