-- Lists of states to which a preorder is read, counted along columns.
use Rattle.std.specs.Prelude.{◌≡◌, ℕ, ◌+◌, ◌*◌, ◌<◌, ◌≤◌, Bool, List, [], ◌∷◌, ◌++◌, length, map, take, drop, reverse, Option, None, Some, IfSome, IsTrue, nat_lt, refl}
use Rattle.std.proofs.Common.{zero, suc, arith, get_or, ap, sym, ◌∙◌, subst, inl, inr, mul_assoc, add-mul}
use Rattle.std.proofs.lemmas.List.{length-map, length-append, map-append, reverse-append, at_drop_more, drop_all, take-append-le}
use Rattle.std.proofs.lemmas.Nat.{mul-le}
use Rattle.std.proofs.lemmas.Bool.Decides.{nat_tests}
use Rattle.std.specs.Ordering.{nat_cmp, ordering_then}
use Rattle.std.specs.Cmp.Lexicographic.{slice_cmp}
use Rattle.std.specs.declared.cmp.Ordering.{Ordering}
use Rattle.std.specs.declared.cmp.Ordering.TheVariants.{Less, Equal, Greater}
use Rattle.tib_lex.specs.Lists.{Has, Each, Ascends}
use Rattle.tib_lex.proofs.Lists.{each_append, each_weaker, each_mapped}
use Rattle.tib_lex.proofs.Members.{each_has}
use Rattle.tib_cost.specs.Semiring.{ProductLaws, most}
use Rattle.tib_cost.proofs.Least.{at_least_right}
use Rattle.tib_tree.specs.Trees.{only, preorder_of}
use Rattle.tib_grammar.specs.Sides.{Symbol, label, hole, holes, HolesAreLeaves, Side as SideFor}
use Rattle.tib_grammar.specs.Run.{rule_at}
use Rattle.tib_grammar.specs.Forms.{AreNormal}
use Rattle.tib_grammar.specs.Items.{pairs_of}
use Rattle.tib_grammar.specs.declared.Item.{Item}
use Rattle.tib_grammar.specs.declared.Rule.{Rule}
use Rattle.tib_normal.specs.Rules.{positions_with}
use Rattle.tib_normal.proofs.Forming.{joined}
use Rattle.tib_match.specs.Matches.{IsMatch}
use Rattle.tib_match.specs.Boxes.{cost_at, all_spanned, IsReadBox}
use Rattle.tib_match.specs.Searching.{IsWithin, ListsAscend, AreMoreWhere, singles}
use Rattle.tib_match.specs.Counting.{ComesFirst, plenty_at, plenties_of, HasAlong, IsReadAt, HasLists, AreCounted, IsPart, IsEarlier, HasChain, AreChained, BeginWithHoles, StacksChain, IsOneAt, StacksOne}
use Rattle.tib_match.specs.declared.hole_cost.HoleCost.{HoleCost}
use Rattle.tib_match.specs.declared.hole_cost.HoleCost.TheVariants.{Free}
use Rattle.tib_match.specs.declared.plenty.Plenty.{Plenty}
use Rattle.tib_match.specs.declared.plenty.Plenties.{Plenties}
use Rattle.tib_match.proofs.Listed.{IsListed, listed}
use Rattle.tib_match.proofs.MatchCosts.{least_at, match_costs, match_is_least}
use Rattle.tib_match.proofs.Reading.{matches_are_read}
use Rattle.tib_match.proofs.BoxCosts.{spanned_in, spanned_some, box_read}
use Rattle.tib_match.proofs.BoxSearch.{equal, own_singles}

each_map : {A B : Type 0} (Q : B → Type 0) (f : A → B) (xs : List A) → Each (λ x. Q (f x)) xs → Each Q (map f xs)
each_map Q f [] e = tt
each_map Q f (x ∷ xs) e = (e.0, each_map Q f xs e.1)

-- lists behind one more state
behind : (q : ℕ) (lists : List (List ℕ)) → Ascends ComesFirst lists → Ascends ComesFirst (map (λ ss. q ∷ ss) lists)
behind q [] a = tt
behind q (ss ∷ lists) a = (
  each_map (ComesFirst (q ∷ ss)) (λ us. q ∷ us) lists (each_weaker (ComesFirst ss) (λ us. ComesFirst (q ∷ ss) (q ∷ us)) lists (λ us h. rw (equal q q refl) h) a.0),
  behind q lists a.1,
)

-- lists of which the first states come first
by_front : (k : ℕ) (ss us : List ℕ) → ComesFirst (take k ss) (take k us) → ComesFirst ss us
by_front zero ss us h = absurd (cc)
by_front (suc k) [] [] h = absurd (cc)
by_front (suc k) [] (u ∷ us) h = refl
by_front (suc k) (s ∷ ss) [] h = absurd (cc)
by_front (suc k) (s ∷ ss) (u ∷ us) h = by (nat_cmp s u) (slice_cmp nat_cmp (take k ss) (take k us)) (slice_cmp nat_cmp ss us) (by_front k ss us) h
  where
    by : (o a b : Ordering) → (a ≡ Less → b ≡ Less) → ordering_then o a ≡ Less → ordering_then o b ≡ Less
    by Less a b f h = refl
    by Equal a b f h = f h
    by Greater a b f h = absurd (cc)

regrouped : (n k m b : ℕ) → n ≤ k * m → n * b ≤ k * (m * b)
regrouped n k m b h =
    let le : n * b ≤ (k * m) * b = mul-le n b (k * m) b h (omega arith) in
    subst (λ x. n * b ≤ x) (mul_assoc k m b) le

added : (n k j m : ℕ) → n ≤ k + j → n * m ≤ k * m + j * m
added n k j m h =
    let le : n * m ≤ (k + j) * m = mul-le n m (k + j) m h (omega arith) in
    subst (λ x. n * m ≤ x) (add-mul k j m) le

-- columns one after another
plenties_split : (front last : List Plenties) → plenties_of (front ++ last) ≡ plenties_of last ++ plenties_of front
plenties_split front last = ap reverse (map-append plenty_at front last) ∙ reverse-append (map plenty_at front) (map plenty_at last)

-- pairs of ascending lists and numbers
pairs_ascend : (ms : List (List ℕ × ℕ)) → Ascends ComesFirst (map (λ (m : List ℕ × ℕ). m.0) ms) → ListsAscend ms
pairs_ascend [] a = tt
pairs_ascend (m ∷ ms) a = (each_mapped (ComesFirst m.0) (λ (n : List ℕ × ℕ). n.0) ms a.0, pairs_ascend ms a.1)

module _ {levelled weighted : Bool} {product : ℕ → ℕ → ℕ} (laws : ProductLaws levelled weighted product) where
  -- fewer lists
  fewer : (fs : List (ℕ → Option Plenty)) (qs : List ℕ) (a b w : ℕ) → HasAlong product fs qs b w → a ≤ b → HasAlong product fs qs a w
  fewer [] [] a b w h l = (omega (arith, h.0, l), h.1)
  fewer [] (q ∷ qs) a b w h l = absurd h
  fewer (f ∷ fs) [] a b w h l = absurd h
  fewer (f ∷ fs) (q ∷ qs) a b w h l =
      let low : a ≤ h.0.count * h.2 = omega (arith, h.5, l) in
      (h.0, h.1, h.2, h.3, h.4, low, h.6)

  -- columns side by side
  join_along : (fs gs : List (ℕ → Option Plenty)) (ps qs : List ℕ) (a b u v : ℕ) → HasAlong product fs ps a u → HasAlong product gs qs b v → HasAlong product (fs ++ gs) (ps ++ qs) (a * b) (product u v)
  join_along [] gs [] qs a b u v x y =
      let same : v ≡ product u v = sym (ap (λ z. product z v) x.1 ∙ laws.neutral v) in
      let le : a * b ≤ 1 * b = mul-le a b 1 b x.0 (omega arith) in
      subst (HasAlong product gs qs (a * b)) same (fewer gs qs (a * b) b v y (omega (arith, le)))
  join_along [] gs (p ∷ ps) qs a b u v x y = absurd x
  join_along (f ∷ fs) gs [] qs a b u v x y = absurd x
  join_along (f ∷ fs) gs (p ∷ ps) qs a b u v x y = (
    x.0,
    x.1,
    x.2 * b,
    product x.3 v,
    join_along fs gs ps qs x.2 b x.3 v x.4 y,
    regrouped a x.0.count x.2 b x.5,
    sym (laws.regroups x.0.worst x.3 v) ∙ ap (λ z. product z v) x.6,
  )

  module _ (rules : List (Rule ℕ)) where
    abbrev states_of : ℕ → List ℕ
    states_of n = holes (rule_at rules n).right.kids

    -- where a preorder begins with holes, so do the lists with the first states that wait
    front_is : {P : Type 0} (k : ℕ) (xs : List (Symbol ℕ P × ℕ)) (qs : List ℕ) (hs : List HoleCost) (ss : List ℕ) (c : ℕ) → BeginWithHoles k xs → k ≤ length qs →
        IsReadBox product rules xs qs (all_spanned (singles ss) hs) c → take k ss ≡ take k qs
    front_is zero xs qs hs ss c b l r = refl
    front_is (suc k) [] qs hs ss c b l r = absurd b
    front_is (suc k) ((label f, rank) ∷ xs) qs hs ss c b l r = absurd b
    front_is (suc k) ((hole x, rank) ∷ xs) [] hs ss c b l r = absurd (omega (arith, l))
    front_is (suc k) ((hole x, rank) ∷ xs) (q ∷ qs) hs [] c b l r = absurd r
    front_is (suc k) ((hole x, rank) ∷ xs) (q ∷ qs) [] (s ∷ ss) c b l r = absurd r
    front_is (suc k) ((hole x, rank) ∷ xs) (q ∷ qs) (h ∷ hs) (s ∷ ss) c b l r =
        let o = spanned_some (record { low = s; high = s + 1 }) (cost_at h) q r.0 r.2 in
        let same : s ≡ q = omega (arith, o.0, o.1) in
        ap (λ z. z ∷ take k ss) same ∙ ap (λ zs. q ∷ zs) (front_is k xs qs hs ss r.1 b (omega (arith, l)) r.3)

    -- one more hole
    pub hole_counted :
        {P : Type 0} (x : P) (xs : List (Symbol ℕ P × ℕ)) (h : HoleCost) (hs : List HoleCost) (f : ℕ → Option Plenty) (fs : List (ℕ → Option Plenty)) → IsOneAt h f →
        ((qs : List ℕ) (n w : ℕ) → HasAlong product fs qs n w → HasLists product rules xs hs qs n w) →
        (qs : List ℕ) (n w : ℕ) → HasAlong product (f ∷ fs) qs n w → HasLists product rules ((hole x, 0) ∷ xs) (h ∷ hs) qs n w
    hole_counted x xs h hs f fs one old [] n w a = absurd a
    hole_counted {P} x xs h hs f fs one old (q ∷ qs) n w a = record {
      lists = map (λ ss. q ∷ ss) o.lists;
      ascend = behind q o.lists o.ascend;
      read = each_map (IsReadAt product rules ((hole x, 0) ∷ xs) (q ∷ qs) (h ∷ hs) w) (λ ss. q ∷ ss) o.lists
          (each_weaker (IsReadAt product rules xs qs hs a.3) (λ ss. IsReadAt product rules ((hole x, 0) ∷ xs) (q ∷ qs) (h ∷ hs) w (q ∷ ss)) o.lists (λ ss r. here ss r) o.read);
      many =
          let low : n ≤ 1 * a.2 = subst (λ k. n ≤ k * a.2) e.0 a.5 in
          omega (arith, low, o.many, length-map o.lists (λ ss. q ∷ ss));
    }
      where
        o : HasLists product rules xs hs qs a.2 a.3
        o = old qs a.2 a.3 a.4

        e : (a.0.count ≡ 1) × (cost_at h q ≡ Some a.0.worst)
        e = one q a.0 a.1

        here : (ss : List ℕ) → IsReadAt product rules xs qs hs a.3 ss → IsReadAt product rules ((hole x, 0) ∷ xs) (q ∷ qs) (h ∷ hs) w (q ∷ ss)
        here ss r =
            let up : product a.0.worst r.cost ≤ product a.0.worst a.3 = laws.grows a.0.worst r.cost a.3 r.low in
            record {
              cost = product a.0.worst r.cost;
              read = (a.0.worst, r.cost, spanned_in (record { low = q; high = q + 1 }) (cost_at h) q (omega arith) (omega arith) ∙ e.1, r.read, refl);
              low = omega (arith, up, a.6);
              long = ap suc r.long;
            }

    module _
        (normal : AreNormal rules) {P : Type 0} (f rank : ℕ) (xs : List (Symbol ℕ P × ℕ)) (hs : List HoleCost) (below more : List (ℕ → Option Plenty)) (front : ℕ)
        (few : front ≤ rank) (begins : BeginWithHoles front xs)
        (old : (qs : List ℕ) (n w : ℕ) → HasAlong product (below ++ more) qs n w → HasLists product rules xs hs qs n w) (q : ℕ) (qs : List ℕ) (m v : ℕ) (rest : HasAlong product more qs m v) where
      -- a list begins with the first states below one of some rules
      abbrev Begins : List ℕ → List ℕ → Type 0
      Begins ns ss = (n : ℕ) × Has ns n × (take front ss ≡ take front (states_of n))

      -- lists that each begin so
      record HasFronts (ns : List ℕ) (count worst : ℕ) : Type 0 where
        lists : List (List ℕ)
        ascend : Ascends ComesFirst lists
        read : Each (IsReadAt product rules ((label f, rank) ∷ xs) (q ∷ qs) hs worst) lists
        many : count ≤ length lists
        fronts : Each (Begins ns) lists

      -- those of one rule
      part_lists : (n k w : ℕ) → IsPart product rules (positions_with f rank rules) below front q n k w → HasFronts (n ∷ []) (k * m) (product w v)
      part_lists n k w p = record {
        lists = o.lists;
        ascend = o.ascend;
        read = each_weaker (IsReadAt product rules xs (states_of n ++ qs) hs (product p.inner v)) (IsReadAt product rules ((label f, rank) ∷ xs) (q ∷ qs) hs (product w v)) o.lists (λ ss r. here ss r) o.read;
        many = o.many;
        fronts = each_weaker (IsReadAt product rules xs (states_of n ++ qs) hs (product p.inner v)) (Begins (n ∷ [])) o.lists (λ ss r. (n, inl refl, start ss r)) o.read;
      }
        where
          l : IsListed rules f rank n
          l = listed rules f rank normal n p.listed

          o : HasLists product rules xs hs (states_of n ++ qs) (k * m) (product p.inner v)
          o = old (states_of n ++ qs) (k * m) (product p.inner v) (join_along below more (states_of n) qs k m p.inner v p.along rest)

          here : (ss : List ℕ) → IsReadAt product rules xs (states_of n ++ qs) hs (product p.inner v) ss → IsReadAt product rules ((label f, rank) ∷ xs) (q ∷ qs) hs (product w v) ss
          here ss r =
              let c : ℕ = (rule_at rules n).cost in
              let up : product c r.cost ≤ product c (product p.inner v) = laws.grows c r.cost (product p.inner v) r.low in
              let same : product (product c p.inner) v ≡ product c (product p.inner v) = laws.regroups c p.inner v in
              let less : product (product c p.inner) v ≤ product w v = grows_left c p.inner in
              record {
                cost = product c r.cost;
                read = record { rule = n; below = l.below; left = p.left; root = l.root; ranked = l.ranked; inner = r.cost; rest = r.read; costs = refl };
                low = omega (arith, up, same, less);
                long = r.long;
              }
            where
              grows_left : (c i : ℕ) → product (product (rule_at rules n).cost p.inner) v ≤ product w v
              grows_left c i =
                  let a : ℕ = product (rule_at rules n).cost p.inner in
                  let up : product v a ≤ product v w = laws.grows v a w p.low in
                  omega (arith, up, laws.commutes v a, laws.commutes v w)

          start : (ss : List ℕ) → IsReadAt product rules xs (states_of n ++ qs) hs (product p.inner v) ss → take front ss ≡ take front (states_of n)
          start ss r =
              let long : length (states_of n ++ qs) ≡ length (states_of n) + length qs = length-append (states_of n) qs in
              front_is front xs (states_of n ++ qs) hs ss r.cost begins (omega (arith, few, l.ranked, long)) r.read
              ∙ take-append-le front (states_of n) qs (omega (arith, few, l.ranked))

      -- those of one rule after those of others
      both_lists :
          (r : ℕ) (rs : List ℕ) (n k j worst : ℕ) → Each (λ s. IsEarlier product rules (positions_with f rank rules) below front q s r) rs → n ≤ k + j → HasFronts rs (j * m) worst →
          HasFronts (r ∷ []) (k * m) worst → HasFronts (r ∷ rs) (n * m) worst
      both_lists r rs n k j worst earlier le o i = record {
        lists = o.lists ++ i.lists;
        ascend = joined ComesFirst o.lists i.lists o.ascend i.ascend (λ ss us a b. apart ss us a b);
        read = each_append (IsReadAt product rules ((label f, rank) ∷ xs) (q ∷ qs) hs worst) o.lists i.lists o.read i.read;
        many = omega (arith, added n k j m le, o.many, i.many, length-append o.lists i.lists);
        fronts = each_append (Begins (r ∷ rs)) o.lists i.lists
            (each_weaker (Begins rs) (Begins (r ∷ rs)) o.lists (λ ss x. (x.0, inr x.1, x.2)) o.fronts)
            (each_weaker (Begins (r ∷ [])) (Begins (r ∷ rs)) i.lists (λ ss x. (x.0, first x.0 x.1, x.2)) i.fronts);
      }
        where
          first : (j : ℕ) → Has (r ∷ []) j → Has (r ∷ rs) j
          first j (inl e) = inl e
          first j (inr none) = absurd none

          only_one : (j : ℕ) → Has (r ∷ []) j → j ≡ r
          only_one j (inl e) = sym e
          only_one j (inr none) = absurd none

          apart : (ss us : List ℕ) → Has o.lists ss → Has i.lists us → ComesFirst ss us
          apart ss us a b =
              let x = each_has (Begins rs) o.lists ss o.fronts a in
              let y = each_has (Begins (r ∷ [])) i.lists us i.fronts b in
              let e : ComesFirst (take front (states_of x.0)) (take front (states_of r)) = each_has (λ j. IsEarlier product rules (positions_with f rank rules) below front q j r) rs x.0 earlier x.1 in
              let same : take front us ≡ take front (states_of r) = y.2 ∙ ap (λ j. take front (states_of j)) (only_one y.0 y.1) in
              by_front front ss us (subst (λ zs. ComesFirst zs (take front us)) (sym x.2) (subst (ComesFirst (take front (states_of x.0))) (sym same) e))

      -- those of some rules, each with later states below it than those before
      chain_lists : (ns : List ℕ) (n w : ℕ) → HasChain product rules (positions_with f rank rules) below front q ns n w → HasFronts ns (n * m) (product w v)
      chain_lists [] n w h = record { lists = []; ascend = tt; read = tt; many = subst (λ k. k * m ≤ 0) (sym h) (omega arith); fronts = tt }
      chain_lists (r ∷ rs) n w h = both_lists r rs n h.0 h.1 (product w v) h.4 h.5 (chain_lists rs h.1 w h.3) (part_lists r h.0 w h.2)

    -- one more label, over the columns of its children
    pub label_counted :
        AreNormal rules → {P : Type 0} (f rank : ℕ) (xs : List (Symbol ℕ P × ℕ)) (hs : List HoleCost) (below more : List (ℕ → Option Plenty)) (front : ℕ) (column : ℕ → Option Plenty) → front ≤ rank →
        BeginWithHoles front xs → AreChained product rules (positions_with f rank rules) below front column →
        ((qs : List ℕ) (n w : ℕ) → HasAlong product (below ++ more) qs n w → HasLists product rules xs hs qs n w) →
        (qs : List ℕ) (n w : ℕ) → HasAlong product (column ∷ more) qs n w → HasLists product rules ((label f, rank) ∷ xs) hs qs n w
    label_counted normal f rank xs hs below more front column few begins chained old [] n w a = absurd a
    label_counted normal f rank xs hs below more front column few begins chained old (q ∷ qs) n w a =
        let ch = chained q a.0 a.1 in
        let o = chain_lists normal f rank xs hs below more front few begins old q qs a.2 a.3 a.4 (a.0.last ∷ ch.others) a.0.count a.0.worst ch.chain in
        record {
          lists = o.lists;
          ascend = o.ascend;
          read = subst (λ x. Each (IsReadAt product rules ((label f, rank) ∷ xs) (q ∷ qs) hs x) o.lists) a.6 o.read;
          many = omega (arith, a.5, o.many);
        }

    -- nothing is read
    pub none_counted : {P : Type 0} (qs : List ℕ) (n w : ℕ) → HasAlong product [] qs n w → HasLists product rules {P = P} [] [] qs n w
    none_counted [] n w a = record {
      lists = [] ∷ [];
      ascend = (tt, tt);
      read = (record { cost = 0; read = refl; low = omega arith; long = refl }, tt);
      many = omega (arith, a.0);
    }
    none_counted (q ∷ qs) n w a = absurd a

    -- before anything is read there is no column
    pub none_stacked : {P : Type 0} (items : List (Item P)) (costs : List HoleCost) (columns : List Plenties) → length columns ≡ 0 →
        AreCounted product rules {P = P} (pairs_of (drop (length items) items)) (drop (length costs) costs) columns
    none_stacked {P} items costs columns e =
        subst (λ cs. AreCounted product rules {P = P} (pairs_of (drop (length items) items)) (drop (length costs) costs) cs) (sym (empty columns e))
        (subst (λ xs. AreCounted product rules {P = P} (pairs_of xs) (drop (length costs) costs) []) (sym (drop_all (length items) items (omega arith)))
        (subst (λ hs. AreCounted product rules {P = P} [] hs []) (sym (drop_all (length costs) costs (omega arith)))
        (none_counted {P = P})))
      where
        empty : {A : Type 0} (xs : List A) → length xs ≡ 0 → xs ≡ []
        empty [] e = refl
        empty (x ∷ xs) e = absurd (omega (arith, e))

    -- a label
    pub chain_stacked : AreNormal rules → {P : Type 0} (f rank : ℕ) (xs : List (Symbol ℕ P × ℕ)) (hs : List HoleCost) (front : ℕ) (old new : List Plenties) → front ≤ rank → BeginWithHoles front xs →
        StacksChain product rules (positions_with f rank rules) front old new → AreCounted product rules xs hs old → AreCounted product rules ((label f, rank) ∷ xs) hs new
    chain_stacked normal f rank xs hs front old new few begins s are =
        subst (λ fs. (qs : List ℕ) (n w : ℕ) → HasAlong product fs qs n w → HasLists product rules ((label f, rank) ∷ xs) hs qs n w) (sym (ap plenties_of s.after ∙ plenties_split s.before_last (s.column ∷ [])))
        (label_counted normal f rank xs hs (plenties_of s.last) (plenties_of s.before_last) front (plenty_at s.column) few begins s.chained
        (subst (λ fs. (qs : List ℕ) (n w : ℕ) → HasAlong product fs qs n w → HasLists product rules xs hs qs n w) (ap plenties_of s.before ∙ plenties_split s.before_last s.last) are))

    -- a hole
    pub one_stacked : {P : Type 0} (x : P) (xs : List (Symbol ℕ P × ℕ)) (costs : List HoleCost) (many left : ℕ) (old new : List Plenties) → StacksOne costs Free many left old new →
        AreCounted product rules xs (drop many costs) old → AreCounted product rules ((hole x, 0) ∷ xs) (drop left costs) new
    one_stacked x xs costs many left old new s are =
        subst (λ hs. AreCounted product rules ((hole x, 0) ∷ xs) hs new) (sym (at_drop_more (λ hs. hs) costs left Free s.few_costs))
        (subst (λ fs. (qs : List ℕ) (n w : ℕ) → HasAlong product fs qs n w → HasLists product rules ((hole x, 0) ∷ xs) (get_or costs left Free ∷ drop (left + 1) costs) qs n w)
        (sym (ap plenties_of s.after ∙ plenties_split old (s.column ∷ [])))
        (hole_counted x xs (get_or costs left Free) (drop (left + 1) costs) (plenty_at s.column) (plenties_of old) s.is_column
        (subst (λ k. AreCounted product rules xs (drop k costs) old) s.one_less are)))

    module _ (normal : AreNormal rules) {P : Type 0} (side : SideFor ℕ P) (leaves : HolesAreLeaves (only side)) (q above : ℕ) (costs : List HoleCost) (worst : ℕ) (within : product above worst ≤ most) where
      -- a list with a cost as low as this has a match that counts
      match_of : (ss : List ℕ) → IsReadAt product rules (preorder_of side) (q ∷ []) costs worst ss →
          (c : ℕ) × IsMatch product rules side q ss (Some c) × IsWithin product above costs (ss, c)
      match_of ss r =
          let right : worst ≤ product above worst = at_least_right laws above worst in
          let long : length costs ≡ length (singles ss) = sym r.long ∙ sym (length-map ss (λ s. record { low = s; high = s + 1 })) in
          let b = box_read laws rules (preorder_of side) (q ∷ []) (singles ss) costs ss r.cost long (own_singles ss) r.read (omega (arith, right, r.low, within)) in
          let left : b.0 ≤ product b.0 b.1 = laws.at_least b.0 b.1 in
          let m = least_at (match_costs product rules (only side) (q ∷ []) ss) (match_is_least laws rules (only side) (q ∷ []) ss) b.0 ((matches_are_read laws rules normal side leaves q ss b.0).1 b.2)
          (omega (arith, left, b.4, r.low, right, within))
          in
          let less : product b.1 m.0 ≤ product b.1 b.0 = laws.grows b.1 m.0 b.0 m.2 in
          let low : product m.0 b.1 ≤ worst = omega (arith, less, laws.commutes b.1 m.0, laws.commutes b.1 b.0, b.4, r.low) in
          let up : product above (product m.0 b.1) ≤ product above worst = laws.grows above (product m.0 b.1) worst low in
          (m.0, m.1, record { beside = b.1; is_beside = b.3; within = omega (arith, up, laws.regroups above m.0 b.1, within) })

      -- as many matches as lists
      record HasMatches (lists : List (List ℕ)) : Type 0 where
        matches : List (List ℕ × ℕ)
        same : map (λ (m : List ℕ × ℕ). m.0) matches ≡ lists
        least : Each (λ (m : List ℕ × ℕ). IsMatch product rules side q m.0 (Some m.1)) matches
        count : Each (IsWithin product above costs) matches

      matches_of : (lists : List (List ℕ)) → Each (IsReadAt product rules (preorder_of side) (q ∷ []) costs worst) lists → HasMatches lists
      matches_of [] e = record { matches = []; same = refl; least = tt; count = tt }
      matches_of (ss ∷ lists) e =
          let m = match_of ss e.0 in
          let rest = matches_of lists e.1 in
          record {
            matches = (ss, m.0) ∷ rest.matches;
            same = ap (λ xs. ss ∷ xs) rest.same;
            least = (m.1, rest.least);
            count = (m.2, rest.count);
          }

      -- more lists than a number show that there are more matches
      pub lists_show : (count number : ℕ) → HasLists product rules (preorder_of side) costs (q ∷ []) count worst → number < count →
          AreMoreWhere product rules side q (IsWithin product above costs) number
      lists_show count number h more =
          let m = matches_of h.lists h.read in
          record {
            matches = m.matches;
            ascend = pairs_ascend m.matches (subst (Ascends ComesFirst) (sym m.same) h.ascend);
            least = m.least;
            count = m.count;
            more = omega (arith, more, h.many, ap length m.same, length-map m.matches (λ (x : List ℕ × ℕ). x.0));
          }

-- what a value has, where it is one, may be weakened
pub some_weaker : {A : Type 0} (v : Option A) (P Q : A → Type 0) → ((x : A) → P x → Q x) → IfSome v P → IfSome v Q
some_weaker None P Q f h = tt
some_weaker (Some x) P Q f h = f x h

pub true_less : (a b : ℕ) → IsTrue (nat_lt a b) → a < b
true_less a b h = grind (arith, nat_tests)
