-- A grammar that was read has a start and distinct state names, its states are in range, and
-- nothing is below a state.
use Rattle.tib_cost.specs.declared.Scale.{Scale}
use Rattle.std.proofs.Common.{◌≡◌, ℕ, ◌<◌, ◌≤◌, List, map, [], ◌∷◌, length, ap, sym, subst, arith, zero, suc, inl, inr, length-append}
use Rattle.std.specs.Prelude.{Some, slice_get}
use Rattle.tib_lex.specs.Grammar.{Word, name}
use Rattle.tib_lex.specs.Lists.{Along, Each}
use Rattle.tib_tree.specs.Grows.{Adds, AddsAll}
use Rattle.tib_tree.specs.Trees.{Trees, none, tree, only}
use Rattle.tib_tree.specs.Written.{Written, end, leaf, head}
use Rattle.tib_grammar.proofs.Below.{below_append}
use Rattle.tib_grammar.specs.Sides.{Symbol, label, hole, holes, HolesAreLeaves}
use Rattle.tib_grammar.specs.GrammarOf.{GrammarOf}
use Rattle.tib_grammar.specs.Range.{AllBelow, AreInRange, SidesEndInHoles}
use Rattle.tib_grammar.specs.StateName.{IsStateName, AreStateNames}
use Rattle.tib_grammar.specs.declared.Rule.{Rule}
use Rattle.tib_grammar_file.specs.GrammarText.{Means, SpellsRuleOf, GrammarText, first_text}
use Rattle.tib_grammar_file.proofs.TextRead.{first_words, FirstIsWord, all_names}
use Rattle.tib_grammar_file.proofs.OneGrammar.{first_is_name, firsts_are_names}

get_below : (names : List (List ℕ)) (q : ℕ) (text : List ℕ) → slice_get names q ≡ Some text → q < length names
get_below [] q text e = absurd (cc)
get_below (first ∷ names) zero text e = omega arith
get_below (first ∷ names) (suc q) text e = omega (arith, get_below names q text e)

module _ (names labels : List (List ℕ)) where
  leaves_of : (ts : Trees (Symbol ℕ ℕ)) (w : Written) → Means names labels ts w → HolesAreLeaves ts
  leaves_of none w m = tt
  leaves_of (tree s kids rest) end m = absurd m
  leaves_of (tree (label f) kids rest) (leaf quoted text more) m = (subst (λ (ts : Trees (Symbol ℕ ℕ)). HolesAreLeaves ts) (sym m.1) tt, leaves_of rest more m.2)
  leaves_of (tree (hole q) none rest) (leaf quoted text more) m = leaves_of rest more m.2
  leaves_of (tree (hole q) (tree s below behind) rest) (leaf quoted text more) m = (let bad : tree s below behind ≡ none = m.1 in absurd (cc))
  leaves_of (tree (label f) kids rest) (head quoted text below more) m = (leaves_of kids below m.1, leaves_of rest more m.2)
  leaves_of (tree (hole q) kids rest) (head quoted text below more) m = absurd m.0

  states_of : (ts : Trees (Symbol ℕ ℕ)) (w : Written) → Means names labels ts w → AllBelow (length names) (holes ts)
  states_of none w m = tt
  states_of (tree s kids rest) end m = absurd m
  states_of (tree (label f) kids rest) (leaf quoted text more) m =
      below_append (length names) (holes kids) (holes rest) (subst (λ (ts : Trees (Symbol ℕ ℕ)). AllBelow (length names) (holes ts)) (sym m.1) tt) (states_of rest more m.2)
  states_of (tree (hole q) kids rest) (leaf quoted text more) m = (get_below names q text m.0.1, states_of rest more m.2)
  states_of (tree (label f) kids rest) (head quoted text below more) m = below_append (length names) (holes kids) (holes rest) (states_of kids below m.1) (states_of rest more m.2)
  states_of (tree (hole q) kids rest) (head quoted text below more) m = absurd m.0

  module _ (scale : Scale) where
    range_of : (rows : List (List Word)) (rules : List (Rule ℕ)) → Along (SpellsRuleOf scale names labels) rows rules → AreInRange (length names) rules
    range_of rows [] a m h = absurd (omega arith)
    range_of [] (r ∷ rules) a m h = absurd a
    range_of (row ∷ rows) (r ∷ rules) a zero h = (get_below names r.left a.0.left a.0.left_is, states_of (only r.right) a.0.right a.0.right_is)
    range_of (row ∷ rows) (r ∷ rules) a (suc m) h = range_of rows rules a.1 m (omega arith)

    ends_of : (rows : List (List Word)) (rules : List (Rule ℕ)) → Along (SpellsRuleOf scale names labels) rows rules → SidesEndInHoles rules
    ends_of rows [] a m h = absurd (omega arith)
    ends_of [] (r ∷ rules) a m h = absurd a
    ends_of (row ∷ rows) (r ∷ rules) a zero h = leaves_of (only r.right) a.0.right a.0.right_is
    ends_of (row ∷ rows) (r ∷ rules) a (suc m) h = ends_of rows rules a.1 m (omega arith)

-- no fewer texts

adds_most : (before : List (List ℕ)) (text : List ℕ) (now : List (List ℕ)) → Adds before text now → length before ≤ length now
adds_most before text now (inl a) = omega (arith, ap length a.1)
adds_most before text now (inr a) = omega (arith, ap length a.1, length-append before (text ∷ []))

all_most : (before texts now : List (List ℕ)) → AddsAll before texts now → length before ≤ length now
all_most before [] now a = omega (arith, ap length a)
all_most before (text ∷ texts) now a = omega (arith, adds_most before text a.0 a.1, all_most a.0 texts now a.2)

first_adds : (text : List ℕ) (now : List (List ℕ)) → Adds [] text now → 0 < length now
first_adds text now (inl a) = absurd (omega (arith, a.0.1))
first_adds text now (inr a) = omega (arith, ap length a.1)

some_added : (text : List ℕ) (texts now : List (List ℕ)) → AddsAll [] (text ∷ texts) now → 0 < length now
some_added text texts now a = omega (arith, first_adds text a.0 a.1, all_most a.0 texts now a.2)

-- the names of left states are state names

state_names : (scale : Scale) (labels : List (List ℕ)) (bytes : List ℕ) (g : GrammarOf) → GrammarText scale labels bytes g → AreStateNames g.names
state_names scale labels bytes g t =
    let f = first_words t.lines ((name t.start ∷ []) ∷ t.rows) t.tokens in
    all_names [] (t.start ∷ map first_text t.rows) g.names t.states (record { each = tt; distinct = tt })
    (record { is_name = f.0; no_stop = t.plain }, firsts_are_names scale g.names labels t.rows g.rules t.rules f.1)

-- what holds of a grammar that was read
pub record IsSound (g : GrammarOf) : Type 0 where
  pub start : 0 < length g.names
  pub names : AreStateNames g.names
  pub range : AreInRange (length g.names) g.rules
  pub leaves : SidesEndInHoles g.rules

pub read_sound : (scale : Scale) (labels : List (List ℕ)) (bytes : List ℕ) (g : GrammarOf) → GrammarText scale labels bytes g → IsSound g
read_sound scale labels bytes g t = record {
  start = some_added t.start _ g.names t.states;
  names = state_names scale labels bytes g t;
  range = range_of g.names labels scale t.rows g.rules t.rules;
  leaves = ends_of g.names labels scale t.rows g.rules t.rules;
}
