-- How rows become the rules of the grammar's own states in its normal form.
use Rattle.std.specs.Prelude.{◌≡◌, ℕ, ◌+◌, ◌<◌, ◌≤◌, List, [], ◌∷◌, length, slice_get, None, Some, refl}
use Rattle.std.specs.Global.{Vec}
use Rattle.std.proofs.Common.{zero, suc, get_or, arith, ap, sym, ◌∙◌, subst, inl, inr}
use Rattle.std.proofs.lemmas.List.{length-map}
use Rattle.tib_tree.specs.Trees.{sizes}
use Rattle.tib_lex.specs.Lists.{Has, Ascends, total}
use Rattle.tib_cost.specs.Least.{IsLeast}
use Rattle.tib_cost.proofs.Least.{IsLeast-same}
use Rattle.tib_grammar.specs.declared.Rule.{Rule}
use Rattle.tib_grammar.specs.Run.{rule_at}
use Rattle.tib_grammar.specs.Sides.{Symbol, label, hole, leaves, Side as SideFor}
use Rattle.tib_grammar.specs.ShapeBuckets.{lists_of}
use Rattle.tib_grammar.proofs.Members.{each_of, each_has}
use Rattle.tib_normal.specs.declared.row.Row.{Row}
use Rattle.tib_normal.specs.NormalForm.{chain_cost, Reaches, rule_parts}
use Rattle.tib_normal.specs.Rows.{side_of, side_at, HasSide, AreSides, AreRows, AreOwn, AreTooMany}
use Rattle.tib_normal.specs.Offers.{IsOffer, no_side}
use Rattle.tib_normal.specs.Gathered.{AreFull, rule_of, row_parts, AreOther, AreLeastRows, AreGathered, HaveMoreParts}
use Rattle.tib_normal.specs.Arranging.{HaveOneNumber, AreArranged}
use Rattle.tib_normal.proofs.Forming.{total_fewer}

-- a rule of one label over states has one part, one for its label and one for each state
size-leaves : (states : List ℕ) → sizes {A = Symbol ℕ ℕ} (leaves states) ≡ length states
size-leaves [] = refl
size-leaves (q ∷ states) = omega (arith, size-leaves states)

parts-over : (q c : ℕ) (key : List ℕ) → 0 < length key → rule_parts (record { left = q; right = side_of key; cost = c }) ≡ 1 + length key
parts-over q c [] h = absurd (omega arith)
parts-over q c (f ∷ states) h = omega (arith, size-leaves states)

-- the key that is at an index is the side with this number
pub key-at : (keys : List (Vec ℕ)) (s : ℕ) (k : Vec ℕ) → slice_get keys s ≡ Some k → k.items ≡ get_or (lists_of keys) s []
key-at [] s k e = let v : None ≡ Some k = e in absurd (cc)
key-at (x ∷ keys) zero k e = let v : Some x ≡ Some k = e in let same : x ≡ k = cc v in ap (λ (y : Vec ℕ). y.items) (sym same)
key-at (x ∷ keys) (suc s) k e = key-at keys s k e

key-below : (keys : List (Vec ℕ)) (s : ℕ) (k : Vec ℕ) → slice_get keys s ≡ Some k → s < length keys
key-below [] s k e = let v : None ≡ Some k = e in absurd (cc)
key-below (x ∷ keys) zero k e = omega arith
key-below (x ∷ keys) (suc s) k e = omega (arith, key-below keys s k e)

pub key-full : (keys : List (Vec ℕ)) (s : ℕ) (k : Vec ℕ) → AreFull (lists_of keys) → slice_get keys s ≡ Some k → 0 < length k.items
key-full keys s k full at =
    let within : s < length (lists_of keys) = omega (arith, key-below keys s k at, length-map keys (λ (b : Vec ℕ). b.items)) in
    omega (arith, full s within, ap length (key-at keys s k at))

-- the parts of the rules with a side
pub key-parts : (keys : List (Vec ℕ)) (s : ℕ) (k : Vec ℕ) → AreFull (lists_of keys) → slice_get keys s ≡ Some k → row_parts (lists_of keys) (record { state = 0; side = s; cost = 0 }) ≡ 1 + length k.items
key-parts keys s k full at =
    ap (λ z. rule_parts (record { left = 0; right = side_of z; cost = 0 })) (sym (key-at keys s k at)) ∙ parts-over 0 0 k.items (key-full keys s k full at)

-- the rules that rows stand for
abbrev pub rules_for : List (List ℕ) → List Row → List (Rule ℕ)
rules_for table [] = []
rules_for table (x ∷ rows) = rule_of table x ∷ rules_for table rows

for-has : (table : List (List ℕ)) (rows : List Row) (x : Row) → Has rows x → Has (rules_for table rows) (rule_of table x)
for-has table [] x h = absurd h
for-has table (y ∷ rows) x (inl e) = inl (ap (rule_of table) e)
for-has table (y ∷ rows) x (inr h) = inr (for-has table rows x h)

has-for : (table : List (List ℕ)) (rows : List Row) (r : Rule ℕ) → Has (rules_for table rows) r → (x : Row) × Has rows x × (rule_of table x ≡ r)
has-for table [] r h = absurd h
has-for table (y ∷ rows) r (inl e) = (y, inl refl, e)
has-for table (y ∷ rows) r (inr h) = let f = has-for table rows r h in (f.0, inr f.1, f.2)

for-apart :
    (table : List (List ℕ)) (rows : List Row) → Ascends AreOther rows → HaveOneNumber table rows →
    Ascends (λ r s. r.left ≡ s.left → r.right ≡ s.right → ⊥) (rules_for table rows)
for-apart table [] a n = tt
for-apart table (x ∷ rows) a n = (
  each_of (λ (r : Rule ℕ). x.state ≡ r.left → side_at table x.side ≡ r.right → ⊥) (rules_for table rows) first,
  for-apart table rows a.1 (λ y z h k. n y z (inr h) (inr k)),
)
  where
    first : (r : Rule ℕ) → Has (rules_for table rows) r → x.state ≡ r.left → side_at table x.side ≡ r.right → ⊥
    first r h e d =
        let f = has-for table rows r h in
        each_has (AreOther x) rows f.0 a.0 f.1 (e ∙ sym (ap (λ (z : Rule ℕ). z.left) f.2))
        (n x f.0 (inl refl) (inr f.1) (d ∙ sym (ap (λ (z : Rule ℕ). z.right) f.2)))

for-total : (table : List (List ℕ)) (rows : List Row) → total rule_parts (rules_for table rows) ≡ total (row_parts table) rows
for-total table [] = refl
for-total table (x ∷ rows) = omega (arith, for-total table rows)

module _ (product : ℕ → ℕ → ℕ) (states : ℕ) (rules : List (Rule ℕ)) (table : List (List ℕ)) (numbers : List ℕ) (sides : AreSides states rules table numbers) where
  -- an offer of a side is a cost of it
  offer-reaches : (q s c : ℕ) → q < states → s < length table → IsOffer product rules numbers q s c → Reaches product states rules q (side_at table s) c
  offer-reaches q s c inside within offer = by_root (rule_at rules offer.rule).right.label refl
    where
      by_root : (symbol : Symbol ℕ ℕ) → (rule_at rules offer.rule).right.label ≡ symbol → Reaches product states rules q (side_at table s) c
      by_root (hole p) root =
          let chain : s ≡ no_side = sym offer.number ∙ sides.chain offer.rule p offer.below root in
          absurd (omega (arith, chain, sides.few))
      by_root (label f) root =
          let has : HasSide states rules table offer.rule f s = subst (λ t. HasSide states rules table offer.rule f t) offer.number (sides.own offer.rule f offer.below root) in
          record {
            own = inside;
            chain = offer.leads.chain;
            rule = offer.rule;
            below = offer.below;
            leads = offer.leads.leads;
            root = f;
            is_label = root;
            is_side = has.is;
            costs = ap (λ d. product d (rule_at rules offer.rule).cost) offer.leads.costs ∙ offer.costs;
          }

  -- a side that has a cost has a number, and the cost is an offer of it
  reaches-offer : (q : ℕ) (side : SideFor ℕ ℕ) (c : ℕ) → Reaches product states rules q side c → (s : ℕ) × (s < length table) × (side_at table s ≡ side) × IsOffer product rules numbers q s c
  reaches-offer q side c r =
      let has : HasSide states rules table r.rule r.root (get_or numbers r.rule no_side) = sides.own r.rule r.root r.below r.is_label in (
        get_or numbers r.rule no_side,
        has.below,
        has.is ∙ sym r.is_side,
        record { rule = r.rule; below = r.below; number = refl; chained = chain_cost product rules r.chain; leads = record { chain = r.chain; leads = r.leads; costs = refl }; costs = r.costs },
      )

  side-offer : (q s c : ℕ) → s < length table → Reaches product states rules q (side_at table s) c → IsOffer product rules numbers q s c
  side-offer q s c within r =
      let found : (t : ℕ) × (t < length table) × (side_at table t ≡ side_at table s) × IsOffer product rules numbers q t c = reaches-offer q (side_at table s) c r in
      subst (λ t. IsOffer product rules numbers q t c) (sides.apart found.0 s found.1 within found.2) found.3

  module _ (count : ℕ) (long : count ≡ length table) (rows : List Row) (are : AreLeastRows product rules numbers count states rows) where
    one-number : HaveOneNumber table rows
    one-number x y h k e = sides.apart x.side y.side (omega (arith, are.side_below x h, long)) (omega (arith, are.side_below y k, long)) e

    row-least : (x : Row) → Has rows x → IsLeast (Reaches product states rules x.state (side_at table x.side)) (Some x.cost)
    row-least x h =
        let within : x.side < length table = omega (arith, are.side_below x h, long) in
        IsLeast-same (λ n. offer-reaches x.state x.side n (are.state_below x h) within) (λ n. side-offer x.state x.side n within) (are.least x h)

    of-row : (r : Rule ℕ) → (x : Row) × Has rows x × (rule_of table x ≡ r) → IsLeast (Reaches product states rules r.left r.right) (Some r.cost)
    of-row r f = subst (λ (z : Rule ℕ). IsLeast (Reaches product states rules z.left z.right) (Some z.cost)) f.2 (row-least f.0 f.1)

    rows-are : AreRows product states rules (rules_for table rows)
    rows-are = record { distinct = for-apart table rows are.apart one-number; least = λ r h. of-row r (has-for table rows r h) }

  pub own-many : (count : ℕ) → count ≡ length table → (parts limit : ℕ) → HaveMoreParts product rules numbers count states table [] parts limit → AreTooMany product states rules parts limit
  own-many count long parts limit many = record {
    rows = rules_for table many.rows;
    are = rows-are count long many.rows many.are;
    more = omega (arith, many.more, for-total table many.rows);
  }

  module _ (count : ℕ) (long : count ≡ length table) (rows : List Row) (own : List (Rule ℕ)) (gathered : AreGathered product rules numbers 0 count states rows) (arranged : AreArranged table rows states own) where
    pub own-made : AreOwn product states rules states own
    own-made = record {
      rows = record {
        distinct = arranged.apart gathered.are.apart (one-number count long rows gathered.are);
        least = λ r h. of-row count long rows gathered.are r (arranged.of_rows r h);
      };
      ascends = arranged.ascends;
      below = λ r h. let f = arranged.of_rows r h in omega (arith, gathered.are.state_below f.0 f.1, ap (λ (z : Rule ℕ). z.left) f.2);
      whole = λ q side c b r small.
          let found = reaches-offer q side c r in
          let row = gathered.whole q found.0 c (omega arith) (omega (arith, found.1, long)) found.3 small in
          (row.0, subst (λ t. Has own (record { left = q; right = t; cost = row.0 })) found.2 (arranged.all_rows (record { state = q; side = found.0; cost = row.0 }) row.1 b));
    }

    -- they have no more parts than the rows
    pub own-parts : total rule_parts own ≤ total (row_parts table) rows
    own-parts =
        let fewer : total rule_parts own ≤ total rule_parts (rules_for table rows) =
        total_fewer rule_parts (λ r s. r.left ≡ s.left → r.right ≡ s.right → ⊥) own (rules_for table rows) (λ r h. h refl refl) own-made.rows.distinct
        (λ r h. let f = arranged.of_rows r h in subst (λ z. Has (rules_for table rows) z) f.2 (for-has table rows f.0 f.1))
        in
        omega (arith, fewer, for-total table rows)

-- each row has no more parts than all
pub parts-within : (table : List (List ℕ)) (rows : List Row) (x : Row) → Has rows x → row_parts table x ≤ total (row_parts table) rows
parts-within table [] x h = absurd h
parts-within table (y ∷ rows) x (inl e) = omega (arith, ap (row_parts table) e)
parts-within table (y ∷ rows) x (inr h) = omega (arith, parts-within table rows x h)

-- a key is short where its rules have few parts
pub key-short : (keys : List (Vec ℕ)) (s c q limit : ℕ) (k : Vec ℕ) → AreFull (lists_of keys) → slice_get keys s ≡ Some k → row_parts (lists_of keys) (record { state = q; side = s; cost = c }) < limit → length k.items < limit
key-short keys s c q limit k full at h = omega (arith, key-parts keys s k full at, h)

-- the rule of a row, by its key
pub rule-same : (keys : List (Vec ℕ)) (x : Row) (k : Vec ℕ) (side : SideFor ℕ ℕ) → slice_get keys x.side ≡ Some k → side ≡ side_of k.items → ◌≡◌ {A = Rule ℕ} (record { left = x.state; right = side; cost = x.cost }) (rule_of (lists_of keys) x)
rule-same keys x k side at is = ap (λ z. record { left = x.state; right = z; cost = x.cost }) (is ∙ ap side_of (key-at keys x.side k at))
