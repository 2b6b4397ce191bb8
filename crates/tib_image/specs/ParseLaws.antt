-- What holds of all edges of parsing, and of all rules that stand for them.
use Rattle.std.specs.Prelude.{◌≡◌, ℕ, ◌<◌, List, [], ◌∷◌, length, refl}
use Rattle.std.proofs.Common.{arith, ap, sym, ◌∙◌, subst, inl, inr}
use Rattle.tib_lex.specs.Lists.{Has}
use Rattle.tib_lex.proofs.Members.{each_has, has_at}
use Rattle.tib_grammar.specs.declared.Rule.{Rule}
use Rattle.tib_expand.specs.Lawful.{IsLawful}
use Rattle.tib_expand.specs.Reading.{Reading}
use Rattle.tib_key_edges.proofs.KeyOrders.{key_stays}
use Rattle.tib_grammar.specs.Range.{AllBelow}
use Rattle.tib_transducer.specs.declared.Variable.{Variable}
use Rattle.tib_strings.specs.Rules.{string_rule, states_in}
use Rattle.tib_strings.specs.Range.{AreWithin}
use Rattle.tib_strings.specs.declared.StringRule.{StringRule}
use Rattle.tib_key_edges.specs.declared.side_rule.SideRule.{SideRule}
use Rattle.tib_key_edges.specs.SideRules.{side_reading}
use Rattle.tib_key_edges.specs.SideRuleLaws.{reads_places, reads_positions}
use Rattle.tib_image.specs.Restrictions.{restricted_labels}
use Rattle.tib_image.specs.Parsing.{first_key, key_at, IsParseEdge}
use Rattle.tib_image.specs.ParseOperation.{IsKey, key_cmp, key_entries, parse}
use Rattle.tib_image.specs.KeyRanges.{ends_within}

-- how rules over places and over positions are read as edges
abbrev pub parse_reading : Reading (ℕ × ℕ × ℕ × ℕ) (Rule (ℕ × ℕ × ℕ × ℕ)) (SideRule Variable) (Rule ℕ)
parse_reading = side_reading (ℕ × ℕ × ℕ × ℕ) Variable

same_rule : {K : Type 0} (e f : Rule K) → e.left ≡ f.left → e.right ≡ f.right → e.cost ≡ f.cost → e ≡ f
same_rule e f left right costs =
    ap (λ l. record { left = l; right = e.right; cost = e.cost }) left
    ∙ ap (λ r. record { left = f.left; right = r; cost = e.cost }) right
    ∙ ap (λ c. record { left = f.left; right = f.right; cost = c }) costs

-- an origin gives a key one edge
pub same_edge :
    (moves : List (StringRule ℕ)) (string : List ℕ) (key : ℕ × ℕ × ℕ × ℕ) (o : ℕ × List ℕ) (e f : Rule (ℕ × ℕ × ℕ × ℕ)) → IsParseEdge moves string key o e → IsParseEdge moves string key o f → e ≡ f
same_edge moves string key o e f h k = same_rule e f (h.left ∙ sym k.left) (h.right ∙ sym k.right) (h.costs ∙ sym k.costs)

-- the states of all rules are below n
abbrev pub AreStatesBelow : ℕ → List (StringRule ℕ) → Type 0
AreStatesBelow n rules = (m : ℕ) → m < length rules → ((string_rule rules m).state < n) × ((q : ℕ) → Has (states_in (string_rule rules m).right) q → q < n)

all_below : (n : ℕ) (qs : List ℕ) → ((q : ℕ) → Has qs q → q < n) → AllBelow n qs
all_below n [] h = tt
all_below n (q ∷ qs) h = (h q (inl refl), all_below n qs (λ p k. h p (inr k)))

has_below : (n : ℕ) (qs : List ℕ) → AllBelow n qs → (q : ℕ) → Has qs q → q < n
has_below n [] b q h = absurd h
has_below n (p ∷ qs) b q h = elim h [ inl e ↦ subst (λ m. m < n) e b.0 | inr k ↦ has_below n qs b.1 q k ]

pub states_below : (n : ℕ) (rules : List (StringRule ℕ)) → AreWithin n rules → AreStatesBelow n rules
states_below n rules h m low = ((h m low).0, has_below n (states_in (string_rule rules m).right) (h m low).1)

pub within_from : (n : ℕ) (rules : List (StringRule ℕ)) → AreStatesBelow n rules → AreWithin n rules
within_from n rules h m low = ((h m low).0, all_below n (states_in (string_rule rules m).right) (h m low).1)

-- all laws of parsing, for its keys, edges and rules
pub parse_is_lawful :
    (states : ℕ) → 0 < states → (moves : List (StringRule ℕ)) → AreWithin states moves → (string : List ℕ) →
    IsLawful (parse moves string) (IsKey states (length string) (length (restricted_labels moves))) parse_reading key_cmp key_entries
parse_is_lawful states some moves within string = record {
  same_order = refl;
  same_parts = refl;
  reads_places = λ rule f g same. reads_places rule f g same;
  reads_positions = λ rule f g same. reads_positions rule f g same;
  one_edge = λ order m o e f x y. same_edge moves string (key_at (length string) order m) o e f x y;
  one_seed_edge = λ o e f x y. absurd x;
  seeds_admitted = λ k is.
      subst (IsKey states (length string) (length (restricted_labels moves))) (sym is)
      (record { state = some; from = omega arith; to = omega arith; restricted = omega arith });
  ends_admitted = λ order m o e k all below is has.
      ends_within states some moves within string (key_at (length string) order m) o e k
      (each_has (IsKey states (length string) (length (restricted_labels moves))) order (key_at (length string) order m) all (has_at order m (first_key (length string)) below)) is has;
  seeds_end = λ o e k is has. absurd is;
  edges_stay = λ xs ys m o e x y same is. subst (λ k. IsParseEdge moves string k o e) (key_stays (first_key (length string)) xs ys m same) is;
}
