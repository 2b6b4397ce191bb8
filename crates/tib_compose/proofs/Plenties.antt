-- How many translations there are at least, from those of the trees below.
use Rattle.std.specs.Prelude.{◌≡◌, ℕ, ◌+◌, ◌*◌, ◌<◌, ◌≤◌, Bool, true, false, nat_le, if◌then◌else◌, List, [], ◌∷◌, ◌++◌, length, map, take, drop, Option, None, Some, IfSome, refl}
use Rattle.std.proofs.Common.{suc, arith, ap, sym, ◌∙◌, subst, get_or, inl, inr, le_refl, mul_assoc, add-mul, append-nil, Bor}
use Rattle.std.proofs.Math.Nat.{mul-add}
use Rattle.std.proofs.lemmas.Nat.{mul-le}
use Rattle.std.proofs.lemmas.List.{length-append}
use Rattle.std.specs.Global.{Vec}
use Rattle.tib_lex.specs.Lists.{total}
use Rattle.tib_lex.proofs.Lists.{total_append}
use Rattle.tib_lex.proofs.Numbers.{nat_eq_cases, nat_le_cases}
use Rattle.tib_tree.specs.Trees.{Trees, none, tree, only, count, size, preorder, preorder_of, first_of, parse, first_trees, HasChildren}
use Rattle.tib_cost.specs.Semiring.{most, cut, ProductLaws}
use Rattle.tib_cost.proofs.Least.{grows_both}
use Rattle.tib_grammar.specs.Sides.{Symbol, label, hole, Side as SideFor}
use Rattle.tib_grammar.specs.Items.{pairs_of}
use Rattle.tib_grammar.specs.declared.Item.{Item}
use Rattle.tib_grammar.specs.declared.Item.TheVariants.{Label, Hole}
use Rattle.tib_transducer.specs.Rules.{transducer_rule}
use Rattle.tib_transducer.specs.declared.Pair.{Pair}
use Rattle.tib_transducer.specs.declared.Variable.{Variable}
use Rattle.tib_transducer.specs.declared.TransducerRule.{TransducerRule}
use Rattle.tib_key_edges.specs.Choices.{choices_of}
use Rattle.tib_key_edges.specs.Composition.{edge_parts}
use Rattle.tib_key_edges.specs.Flat.{substituted}
use Rattle.tib_key_edges.specs.Pieces.{Piece as PieceOf, put, read, Result, results, pieces_of}
use Rattle.tib_key_edges.specs.Translations.{choice_cost, translated}
use Rattle.tib_compose.specs.Bounds.{AreBounds, same_pair}
use Rattle.tib_compose.specs.CompositionListing.{edge_of}
use Rattle.tib_compose.specs.Counting.{LabelAdds, SideOverruns}
use Rattle.tib_compose.specs.Ends.{AreEnds}
use Rattle.tib_compose.specs.KeyEdges.{RuleOverruns, rule_edges}
use Rattle.tib_compose.specs.PieceViews.{kids_there, side_there}
use Rattle.tib_compose.specs.Plenties.{AddsPlenty, AreAdded, AreMany, ArePlenties, HasPlenty, IsProduct, RulesAdd, SetsPlenty, items_in, plenty_of}
use Rattle.tib_compose.specs.Readers.{readers}
use Rattle.tib_compose.specs.Searches.{affordable, all_of, reader_results}
use Rattle.tib_compose.specs.Sources.{IsSource}
use Rattle.tib_compose.specs.Walk.{AreReady, result_edges}
use Rattle.tib_compose.specs.declared.listing.CompositionListing.{CompositionListing}
use Rattle.tib_compose.specs.declared.plenty.Plenty.{Plenty}
use Rattle.tib_compose.specs.declared.source.Source.{Source}
use Rattle.tib_compose.proofs.Listed.{size_is}
use Rattle.tib_compose.proofs.Taking.{side_by_item}
use Rattle.tib_compose.proofs.Walking.{affordable_one, all_append, by_readers, kids_count}
use Rattle.tib_compose.proofs.FlatEdges.{any_at}
use Rattle.tib_compose.proofs.Whole.{first_out, rule_comes, take_more}

-- products of numbers

spread : (n a b c : ℕ) → n ≤ a + b → n * c ≤ a * c + b * c
spread n a b c h =
    let le : n * c ≤ (a + b) * c = mul-le n c (a + b) c h (omega arith) in
    subst (λ x. n * c ≤ x) (add-mul a b c) le

moved : (n a b c : ℕ) → n ≤ a * b → n * c ≤ a * (b * c)
moved n a b c h =
    let le : n * c ≤ (a * b) * c = mul-le n c (a * b) c h (omega arith) in
    subst (λ x. n * c ≤ x) (mul_assoc a b c) le

one_times : (k m : ℕ) → suc k * m ≡ m + k * m
one_times k m =
    let same : suc k ≡ 1 + k = omega arith in
    let both : suc k * m ≡ 1 * m + k * m = ap (λ n. n * m) same ∙ add-mul 1 k m in
    omega (arith, both)

-- many results

many_fewer : (rs : List Result) (n : ℕ) (v z : Plenty) → z.count ≤ v.count → z.items ≤ v.items → AreMany rs n v → AreMany rs n z
many_fewer rs n v z c i m =
    let le : z.count * n ≤ v.count * n = mul-le z.count n v.count n c (omega arith) in
    record { count = omega (arith, c, m.count); items = omega (arith, le, i, m.items) }

many_left : (rs ss : List Result) (n : ℕ) (v : Plenty) → AreMany rs n v → AreMany (rs ++ ss) n v
many_left rs ss n v m = record {
  count = omega (arith, m.count, length-append rs ss);
  items = omega (arith, m.items, total_append (λ (r : Result). length r.1) rs ss);
}

many_right : (rs ss : List Result) (n : ℕ) (v : Plenty) → AreMany ss n v → AreMany (rs ++ ss) n v
many_right rs ss n v m = record {
  count = omega (arith, m.count, length-append rs ss);
  items = omega (arith, m.items, total_append (λ (r : Result). length r.1) rs ss);
}

many_both : (rs ss : List Result) (n : ℕ) (a b z : Plenty) → z.count ≤ a.count + b.count → z.items ≤ a.items + b.items → AreMany rs n a → AreMany ss n b → AreMany (rs ++ ss) n z
many_both rs ss n a b z c i m k =
    let le = spread z.count a.count b.count n c in
    record {
      count = omega (arith, c, m.count, k.count, length-append rs ss);
      items = omega (arith, le, i, m.items, k.items, total_append (λ (r : Result). length r.1) rs ss);
    }

-- after one item more
many_after : (rs : List Result) (n k : ℕ) (u z : Plenty) → k ≡ n + 1 → z.count ≤ u.count → z.items ≤ u.items + u.count → AreMany rs k u → AreMany rs n z
many_after rs n k u z e c i m =
    let le : z.count * n ≤ u.count * n = mul-le z.count n u.count n c (omega arith) in
    let more : u.count * k ≡ u.count * n + u.count * 1 = ap (λ x. u.count * x) e ∙ mul-add u.count n 1 in
    record { count = omega (arith, c, m.count); items = omega (arith, le, i, more, m.items) }

-- the one with the other, exactly
abbrev pub product_of_both : (ℕ → ℕ → ℕ) → Plenty → Plenty → Plenty
product_of_both product a b = record { count = a.count * b.count; items = a.count * b.items + a.items * b.count; worst = product a.worst b.worst }

is_product_of_both : (product : ℕ → ℕ → ℕ) (a b : Plenty) → IsProduct product a b (product_of_both product a b)
is_product_of_both product a b = record { count = le_refl (a.count * b.count); items = le_refl (a.count * b.items + a.items * b.count); worst = le_refl (product a.worst b.worst) }

module _ {levelled weighted : Bool} {product : ℕ → ℕ → ℕ} (laws : ProductLaws levelled weighted product) where
  -- three in a row
  regrouped : (a b ab u z : Plenty) → IsProduct product a b ab → IsProduct product ab u z → IsProduct product a (product_of_both product b u) z
  regrouped a b ab u z p q =
      let count : ab.count * u.count ≤ a.count * (b.count * u.count) = moved ab.count a.count b.count u.count p.count in
      let first : ab.count * u.items ≤ a.count * (b.count * u.items) = moved ab.count a.count b.count u.items p.count in
      let second : ab.items * u.count ≤ (a.count * b.items) * u.count + (a.items * b.count) * u.count = spread ab.items (a.count * b.items) (a.items * b.count) u.count p.items in
      let third = mul_assoc a.count b.items u.count in
      let fourth = mul_assoc a.items b.count u.count in
      let fifth : a.count * (b.count * u.items + b.items * u.count) ≡ a.count * (b.count * u.items) + a.count * (b.items * u.count) = mul-add a.count (b.count * u.items) (b.items * u.count) in
      let cost : product (product a.worst b.worst) u.worst ≤ product ab.worst u.worst = grows_both laws (product a.worst b.worst) u.worst ab.worst u.worst p.worst (le_refl u.worst) in
      let same = laws.regroups a.worst b.worst u.worst in
      record {
        count = omega (arith, count, q.count);
        items = omega (arith, first, second, third, fourth, fifth, q.items);
        worst = omega (arith, cost, same, q.worst);
      }

  -- the worst of what goes on
  module _ (two : List (TransducerRule ℕ)) where
    fewer : (ws : List PieceOf) (v z : Plenty) → z.count ≤ v.count → z.items ≤ v.items → v.worst ≤ z.worst → HasPlenty product two ws v → HasPlenty product two ws z
    fewer ws v z c i w h cost done within =
        let g = laws.grows cost v.worst z.worst w in
        many_fewer (affordable (results product two cost done ws)) (length done) v z c i (h cost done (omega (arith, g, within)))

    -- no pieces
    pub none_adds : (v : Plenty) → v.count ≡ 1 → v.items ≡ 0 → v.worst ≡ 0 → AddsPlenty product two [] v
    none_adds v c i w ws u z h p =
        let one : v.count * u.count ≡ u.count = ap (λ n. n * u.count) c ∙ (omega arith) in
        let two_of : v.count * u.items ≡ u.items = ap (λ n. n * u.items) c ∙ (omega arith) in
        let zero_of : v.items * u.count ≡ 0 = ap (λ n. n * u.count) i ∙ (omega arith) in
        let same : product v.worst u.worst ≡ u.worst = ap (λ n. product n u.worst) w ∙ laws.neutral u.worst in
        fewer ws u z (omega (arith, p.count, one)) (omega (arith, p.items, two_of, zero_of)) (omega (arith, p.worst, same)) h

    -- a piece more
    pub piece_adds : (w : PieceOf) (ps : List PieceOf) (a b ab : Plenty) → AddsPlenty product two (w ∷ []) a → AddsPlenty product two ps b → IsProduct product a b ab → AddsPlenty product two (w ∷ ps) ab
    piece_adds w ps a b ab f g p ws u z h q =
        f (ps ++ ws) (product_of_both product b u) z (g ws u (product_of_both product b u) h (is_product_of_both product b u)) (regrouped a b ab u z p q)

    -- what puts out one item
    module _ (w : PieceOf) (x : Symbol ℕ (Pair (ℕ × ℕ)) × ℕ)
        (out : (cost : ℕ) (done : List (Symbol ℕ (Pair (ℕ × ℕ)) × ℕ)) (ws : List PieceOf) → results product two cost done (w ∷ ws) ≡ results product two cost (done ++ x ∷ []) ws) where
      pub single_adds : (v : Plenty) → v.count ≡ 1 → v.items ≡ 1 → v.worst ≡ 0 → AddsPlenty product two (w ∷ []) v
      single_adds v c i k ws u z h p cost done within =
          let one : v.count * u.count ≡ u.count = ap (λ n. n * u.count) c ∙ (omega arith) in
          let two_of : v.count * u.items ≡ u.items = ap (λ n. n * u.items) c ∙ (omega arith) in
          let one_of : v.items * u.count ≡ u.count = ap (λ n. n * u.count) i ∙ (omega arith) in
          let same : product v.worst u.worst ≡ u.worst = ap (λ n. product n u.worst) k ∙ laws.neutral u.worst in
          let g = laws.grows cost u.worst z.worst (omega (arith, p.worst, same)) in
          subst (λ rs. AreMany rs (length done) z) (sym (ap affordable (out cost done ws)))
          (many_after (affordable (results product two cost (done ++ x ∷ []) ws)) (length done) (length (done ++ x ∷ [])) u z (length-append done (x ∷ []))
          (omega (arith, p.count, one)) (omega (arith, p.items, two_of, one_of)) (h cost (done ++ x ∷ []) (omega (arith, g, within))))

    -- a label that is put out
    pub put_adds : AreReady product two → (f n : ℕ) (v : Plenty) → v.count ≡ 1 → v.items ≡ 1 → v.worst ≡ 0 → AddsPlenty product two (put f n ∷ []) v
    put_adds ready f n = single_adds (put f n) (label f, n) (λ cost done ws. ready.goes.at_put cost done f n ws)

    -- a pair
    pub pair_adds :
        AreReady product two → (items : List (Item (Pair ℕ))) (i p : ℕ) (x : Pair ℕ) (d : Item (Pair ℕ)) → i < length items → Hole x ≡ get_or items i d → (v : Plenty) → v.count ≡ 1 → v.items ≡ 1 → v.worst ≡ 0 →
        AddsPlenty product two (read (side_there (pairs_of items) i) p ∷ []) v
    pair_adds ready items i p x d low at v c k w =
        subst (λ s. AddsPlenty product two (read s p ∷ []) v) (sym (side_by_item items i (Hole x) d low at))
        (single_adds (read (record { label = hole x; kids = first_trees 0 (parse (drop (i + 1) (pairs_of items))) }) p) (hole (record { state = (x.state, p); variable = x.variable }), 0)
        (λ cost done ws. ready.goes.at_pair cost done x (first_trees 0 (parse (drop (i + 1) (pairs_of items)))) p ws) v c k w)

    -- where the pieces of a rule have so many, the rule has
    pub rule_adds :
        (kids : Trees (Symbol ℕ (Pair ℕ))) (m : ℕ) (a v : Plenty) → AddsPlenty product two (pieces_of (preorder_of (transducer_rule two m).right) kids) a →
        v.count ≤ a.count → v.items ≤ a.items → product (transducer_rule two m).cost a.worst ≤ v.worst → RulesAdd product two kids (m ∷ []) v
    rule_adds kids m a v f c i w ws u z h p cost done within =
        let own : ℕ = (transducer_rule two m).cost in
        let y : Plenty = product_of_both product a u in
        let le : v.count * u.count ≤ a.count * u.count = mul-le v.count u.count a.count u.count c (omega arith) in
        let le_items : v.count * u.items ≤ a.count * u.items = mul-le v.count u.items a.count u.items c (omega arith) in
        let le_more : v.items * u.count ≤ a.items * u.count = mul-le v.items u.count a.items u.count i (omega arith) in
        let first : product (product own a.worst) u.worst ≤ product v.worst u.worst = grows_both laws (product own a.worst) u.worst v.worst u.worst w (le_refl u.worst) in
        let second = laws.regroups own a.worst u.worst in
        let third : product own (product a.worst u.worst) ≤ z.worst = omega (arith, first, second, p.worst) in
        let fourth = laws.grows cost (product own (product a.worst u.worst)) z.worst third in
        let fifth = laws.regroups cost own (product a.worst u.worst) in
        let here = f ws u y h (is_product_of_both product a u) (product cost own) done (omega (arith, fourth, fifth, within)) in
        many_left (reader_results product two cost done kids ws m) [] (length done) z
        (many_fewer (reader_results product two cost done kids ws m) (length done) y z (omega (arith, p.count, le)) (omega (arith, p.items, le_items, le_more)) here)

    -- the rules so far, and one more
    pub rules_add :
        (kids : Trees (Symbol ℕ (Pair ℕ))) (ms : List ℕ) (m : ℕ) (a b r : Option Plenty) → IfSome a (RulesAdd product two kids ms) → IfSome b (RulesAdd product two kids (m ∷ [])) → AreAdded a b r →
        IfSome r (RulesAdd product two kids (ms ++ m ∷ []))
    rules_add kids ms m None None r f g e = subst (λ o. IfSome o (RulesAdd product two kids (ms ++ m ∷ []))) (sym e) tt
    rules_add kids ms m None (Some b) r f g e = subst (λ o. IfSome o (RulesAdd product two kids (ms ++ m ∷ []))) (sym e) (λ ws u z h p cost done within.
        subst (λ rs. AreMany rs (length done) z) (sym (all_append (reader_results product two cost done kids ws) ms (m ∷ [])))
        (many_right (all_of (reader_results product two cost done kids ws) ms) (all_of (reader_results product two cost done kids ws) (m ∷ [])) (length done) z (g ws u z h p cost done within)))
    rules_add kids ms m (Some a) None r f g e = subst (λ o. IfSome o (RulesAdd product two kids (ms ++ m ∷ []))) (sym e) (λ ws u z h p cost done within.
        subst (λ rs. AreMany rs (length done) z) (sym (all_append (reader_results product two cost done kids ws) ms (m ∷ [])))
        (many_left (all_of (reader_results product two cost done kids ws) ms) (all_of (reader_results product two cost done kids ws) (m ∷ [])) (length done) z (f ws u z h p cost done within)))
    rules_add kids ms m (Some a) (Some b) r f g (v, e, s) = subst (λ o. IfSome o (RulesAdd product two kids (ms ++ m ∷ []))) (sym e) (λ ws u z h p cost done within.
        let x : Plenty = record { count = a.count * u.count; items = a.count * u.items + a.items * u.count; worst = z.worst } in
        let y : Plenty = record { count = b.count * u.count; items = b.count * u.items + b.items * u.count; worst = z.worst } in
        let cost_x : product a.worst u.worst ≤ product v.worst u.worst = grows_both laws a.worst u.worst v.worst u.worst s.first (le_refl u.worst) in
        let cost_y : product b.worst u.worst ≤ product v.worst u.worst = grows_both laws b.worst u.worst v.worst u.worst s.second (le_refl u.worst) in
        let of_x : IsProduct product a u x = record { count = le_refl x.count; items = le_refl x.items; worst = omega (arith, cost_x, p.worst) } in
        let of_y : IsProduct product b u y = record { count = le_refl y.count; items = le_refl y.items; worst = omega (arith, cost_y, p.worst) } in
        let counts = spread v.count a.count b.count u.count s.count in
        let later = spread v.count a.count b.count u.items s.count in
        let earlier = spread v.items a.items b.items u.count s.items in
        subst (λ rs. AreMany rs (length done) z) (sym (all_append (reader_results product two cost done kids ws) ms (m ∷ [])))
        (many_both (all_of (reader_results product two cost done kids ws) ms) (all_of (reader_results product two cost done kids ws) (m ∷ [])) (length done) x y z
        (omega (arith, p.count, counts)) (omega (arith, p.items, later, earlier)) (f ws u x h of_x cost done within) (g ws u y h of_y cost done within)))

    -- the same along a list of rules
    pub rules_more :
        (kids : Trees (Symbol ℕ (Pair ℕ))) (ps : List ℕ) (i : ℕ) (a b r : Option Plenty) → i < length ps → IfSome a (RulesAdd product two kids (take i ps)) → IfSome b (RulesAdd product two kids (get_or ps i 0 ∷ [])) → AreAdded a b r →
        IfSome r (RulesAdd product two kids (take (i + 1) ps))
    rules_more kids ps i a b r low f g e =
        subst (λ ms. IfSome r (RulesAdd product two kids ms)) (sym (take_more ps i (get_or ps i 0) low (any_at ps i 0 (get_or ps i 0) low)))
        (rules_add kids (take i ps) (get_or ps i 0) a b r f g e)

    -- where all rules that read a label have so many, the side of the label has
    pub label_adds : AreReady product two → (f p : ℕ) (kids : Trees (Symbol ℕ (Pair ℕ))) (v : Plenty) → RulesAdd product two kids (readers two p f (count kids) (length two)) v → AddsPlenty product two (read (record { label = label f; kids = kids }) p ∷ []) v
    label_adds ready f p kids v g ws u z h q cost done within =
        subst (λ rs. AreMany rs (length done) z) (sym (ap affordable (ready.goes.at_label cost done f kids p ws) ∙ by_readers product two cost done f p kids ws (length two)))
        (g ws u z h q cost done within)

    -- nothing left has one result
    end_has : AreReady product two → (u : Plenty) → u.count ≡ 1 → u.items ≡ 0 → HasPlenty product two [] u
    end_has ready u c i cost done within =
        let low = laws.at_least cost u.worst in
        let one : u.count * length done ≡ length done = ap (λ n. n * length done) c ∙ (omega arith) in
        subst (λ rs. AreMany rs (length done) u) (sym (ap affordable (ready.goes.at_end cost done) ∙ affordable_one (cost, done) (omega (arith, low, within))))
        (record { count = omega (arith, c); items = omega (arith, one, i) })

    -- what some pieces have is what they put out from nothing
    pub adds_from_nothing : AreReady product two → (ps : List PieceOf) (v : Plenty) → AddsPlenty product two ps v → HasPlenty product two ps v
    adds_from_nothing ready ps v f =
        let u : Plenty = record { count = 1; items = 0; worst = 0 } in
        let same : product v.worst 0 ≡ v.worst = laws.commutes v.worst 0 ∙ laws.neutral v.worst in
        subst (λ xs. HasPlenty product two xs v) (append-nil ps)
        (f [] u v (end_has ready u refl refl) (record { count = omega arith; items = omega arith; worst = omega (arith, same) }))

-- one is set
pub plenty_keeps :
    {levelled weighted : Bool} {product : ℕ → ℕ → ℕ} (laws : ProductLaws levelled weighted product) (two : List (TransducerRule ℕ)) (old new : Source) (f n node state : ℕ) (v : Plenty) →
    new.items ≡ old.items → new.ends ≡ old.ends → new.bounds ≡ old.bounds → SetsPlenty node state v old.plenties new.plenties → node < length old.items.now → get_or old.items.now node (Label 0 0) ≡ Label f n →
    LabelAdds product old two (record { node = node; label = f; rank = n; state = state }) v → AreReady product two → IsSource product two old → IsSource product two new
plenty_keeps {product = product} laws two old new f n node state v same ends bounds sets low at adds ready known =
    let pairs : List (Symbol ℕ (Pair ℕ) × ℕ) = pairs_of old.items.now in
    let kids : Trees (Symbol ℕ (Pair ℕ)) = kids_there pairs node n in
    let many : count kids ≡ n = kids_count old.items.now node f n known.children low at in
    let there : side_there pairs node ≡ record { label = label f; kids = kids } = side_by_item old.items.now node (Label f n) (Label 0 0) low (sym at) in
    let here : AddsPlenty product two (read (side_there pairs node) state ∷ []) v =
    subst (λ s. AddsPlenty product two (read s state ∷ []) v) (sym there)
    (label_adds laws two ready f state kids v (subst (λ k. RulesAdd product two kids (readers two state f k (length two)) v) (sym many) (adds ready known)))
    in
    let plenties : ArePlenties product two pairs new.plenties = λ i p w e.
    let found : (if same_pair (node, state) (i, p) then Some v else plenty_of old.plenties i p) ≡ Some w = sym (sets i p) ∙ e in
    elim (nat_eq_cases node i) [
      | inl a ↦ elim (nat_eq_cases state p) [
        | inl b ↦
            let is : Some v ≡ Some w = rw (a.1, b.1) at found in
            subst (λ j. AddsPlenty product two (read (side_there pairs j) p ∷ []) w) a.0
            (subst (λ q. AddsPlenty product two (read (side_there pairs node) q ∷ []) w) b.0 (subst (AddsPlenty product two (read (side_there pairs node) state ∷ [])) (the_same v w is) here))
        | inr b ↦ known.plenties i p w (rw (a.1, b.1) at found)
      ]
      | inr a ↦ known.plenties i p w (rw a.1 at found)
    ]
    in
    record {
      children = subst (λ (xs : Bor (List (Item (Pair ℕ)))). HasChildren (pairs_of xs.now)) (sym same) known.children;
      ends = subst (λ (xs : Bor (List (Item (Pair ℕ)))). AreEnds (pairs_of xs.now) new.ends.items 0) (sym same) (subst (λ (es : Vec ℕ). AreEnds pairs es.items 0) (sym ends) known.ends);
      bounds = subst (λ (xs : Bor (List (Item (Pair ℕ)))). AreBounds product two (pairs_of xs.now) new.bounds) (sym same) (subst (AreBounds product two pairs) (sym bounds) known.bounds);
      plenties = subst (λ (xs : Bor (List (Item (Pair ℕ)))). ArePlenties product two (pairs_of xs.now) new.plenties) (sym same) plenties;
    }
  where
    the_same : (v w : Plenty) → ◌≡◌ {A = Option Plenty} (Some v) (Some w) → v ≡ w
    the_same v w e = cc

-- the parts of edges

module _ (z : Pair ℕ) where
  -- what is put out in place of a hole is no longer than its side
  side_long : (us : Trees (Symbol ℕ (Pair (ℕ × ℕ)))) → length (substituted ((hole z, 0) ∷ []) us) ≤ size (first_of (label 0) us)
  side_long none = omega arith
  side_long (tree s below rest) = omega (arith, ap length (append-nil (preorder below)), size_is (record { label = s; kids = below }))

  module _ (key : ℕ × ℕ) (left : SideFor ℕ Variable) (cost_of : Trees (Option ℕ) → ℕ) (out : Trees (Option ℕ) → Trees (Symbol ℕ (Pair (ℕ × ℕ)))) where
    abbrev one_result : Trees (Option ℕ) → Result
    one_result c = (cost_of c, substituted ((hole z, 0) ∷ []) (out c))

    parts_of : (cs : List (Trees (Option ℕ))) → length (affordable (map one_result cs)) * (1 + size left) + items_in (affordable (map one_result cs)) ≤ total edge_parts (result_edges key left (affordable (map one_result cs)))
    parts_of [] = omega arith
    parts_of (c ∷ cs) = by_case (nat_le (cost_of c) most) (affordable (map one_result cs)) (parts_of cs)
      where
        by_case :
            (b : Bool) (rs : List Result) → length rs * (1 + size left) + items_in rs ≤ total edge_parts (result_edges key left rs) →
            length (if b then one_result c ∷ rs else rs) * (1 + size left) + items_in (if b then one_result c ∷ rs else rs) ≤ total edge_parts (result_edges key left (if b then one_result c ∷ rs else rs))
        by_case false rs h = h
        by_case true rs h =
            let first = one_times (length rs) (1 + size left) in
            let long = side_long (out c) in
            let same : size (edge_of key left (one_result c).1 (cost_of c)).right ≡ size (first_of (label 0) (out c)) = ap (λ s. size s) (first_out z 0 (out c)) in
            omega (arith, first, long, same, h)

-- what is a cost is within the greatest
pub within_cut : (n c : ℕ) → cut n ≡ Some c → n ≤ most
within_cut n c e = elim (nat_le_cases n most) [ inl k ↦ k.0 | inr k ↦ absurd (let f : None ≡ Some c = rw k.1 at e in cc) ]

-- the translations of a whole side are too many
pub side_overruns :
    {levelled weighted : Bool} {product : ℕ → ℕ → ℕ} (laws : ProductLaws levelled weighted product) (two : List (TransducerRule ℕ)) → AreReady product two →
    (s : SideFor ℕ (Pair ℕ)) (p cost : ℕ) (left : SideFor ℕ Variable) (v : Plenty) → AddsPlenty product two (read s p ∷ []) v → product cost v.worst ≤ most → (key : ℕ × ℕ) (parts : ℕ) → parts ≤ v.count * (1 + size left) + v.items →
    parts ≤ total edge_parts (result_edges key left (affordable (results product two cost [] (read s p ∷ []))))
side_overruns {product = product} laws two ready s p cost left v adds within key parts few =
    let z : Pair ℕ = record { state = p; variable = 0 } in
    let cost_of : Trees (Option ℕ) → ℕ = λ c. product cost (choice_cost product two c) in
    let out : Trees (Option ℕ) → Trees (Symbol ℕ (Pair (ℕ × ℕ))) = λ c. translated two (p ∷ []) (only s) c in
    let rs : List Result = affordable (map (one_result z key left cost_of out) (choices_of two p s)) in
    let is : affordable (results product two cost [] (read s p ∷ [])) ≡ rs = ap affordable (ready.goes.at_start cost p s) in
    let many : AreMany rs 0 v = subst (λ xs. AreMany xs 0 v) is (adds_from_nothing laws two ready (read s p ∷ []) v adds cost [] within) in
    let le : v.count * (1 + size left) ≤ length rs * (1 + size left) = mul-le v.count (1 + size left) (length rs) (1 + size left) many.count (omega arith) in
    let all : length rs * (1 + size left) + items_in rs ≤ total edge_parts (result_edges key left rs) = parts_of z key left cost_of out (choices_of two p s) in
    subst (λ xs. parts ≤ total edge_parts (result_edges key left xs)) (sym is) (omega (arith, few, le, all, many.items))

-- and so are the edges of a rule
pub rule_overruns :
    (product : ℕ → ℕ → ℕ) (one two : List (TransducerRule ℕ)) (key : ℕ × ℕ) (n p : ℕ) (r : TransducerRule ℕ) (source : Source) (l : CompositionListing) → AreReady product two → r ≡ transducer_rule one n → p ≡ key.1 →
    pairs_of source.items.now ≡ preorder_of r.right → IsSource product two source → SideOverruns product source r p l → RuleOverruns product one two key n l
rule_overruns product one two key n p r source l ready at same is known over order es lists =
    let items : pairs_of source.items.now ≡ preorder_of (transducer_rule one n).right = is ∙ ap (λ (x : TransducerRule ℕ). preorder_of x.right) at in
    let edges : result_edges key r.left (affordable (results product two r.cost [] (read (side_there (pairs_of source.items.now) 0) p ∷ []))) ≡ rule_edges product one two key n =
    ap (λ (x : TransducerRule ℕ). result_edges key x.left (affordable (results product two x.cost [] (read (side_there (pairs_of source.items.now) 0) p ∷ [])))) at
    ∙ ap (λ q. result_edges key (transducer_rule one n).left (affordable (results product two (transducer_rule one n).cost [] (read (side_there (pairs_of source.items.now) 0) q ∷ [])))) same
    ∙ rule_comes product one two key n ready source.items.now items
    in
    let more = over two ready known key in
    omega (arith, more, ap (total edge_parts) edges, lists.counted, total_append edge_parts es (rule_edges product one two key n))
