-- Right-hand sides of one label over pairs.
use Rattle.std.specs.Prelude.{◌≡◌, ℕ, ◌+◌, ◌-◌, ◌<◌, ◌≤◌, Bool, true, false, List, [], ◌∷◌, ◌++◌, length, map, take, drop, nat_le, if◌then◌else◌, Option, None, Some, refl}
use Rattle.std.proofs.Common.{zero, suc, arith, ap, sym, ◌∙◌, subst, get_or, append-nil, append_assoc}
use Rattle.std.proofs.lemmas.List.{drop_more, get_or-map, length-map, map-append}
use Rattle.tib_lex.specs.Lists.{Has, total}
use Rattle.tib_lex.proofs.Lists.{head_is, tail_is}
use Rattle.tib_lex.proofs.Places.{take_drop}
use Rattle.tib_cost.specs.Semiring.{most, cut, ProductLaws}
use Rattle.tib_tree.specs.Trees.{Trees, preorder_of, parse, other_trees, count, HasChildren, IsOneTree}
use Rattle.tib_grammar.specs.Sides.{Symbol, label, hole, Side as SideFor}
use Rattle.tib_grammar.specs.Items.{pairs_of, pair_of}
use Rattle.tib_grammar.specs.declared.Item.{Item}
use Rattle.tib_grammar.specs.declared.Item.TheVariants.{Label, Hole}
use Rattle.tib_transducer.specs.Range.{AreShaped, EndInHoles}
use Rattle.tib_transducer.specs.Rules.{no_rule, transducer_rule}
use Rattle.tib_transducer.specs.declared.Pair.{Pair}
use Rattle.tib_transducer.specs.declared.Variable.{Variable}
use Rattle.tib_transducer.specs.declared.TransducerRule.{TransducerRule}
use Rattle.tib_key_edges.specs.Choices.{reads_label}
use Rattle.tib_key_edges.specs.Composition.{edge_parts}
use Rattle.tib_key_edges.proofs.Pieces.{goes_by_pieces}
use Rattle.tib_key_edges.specs.Pieces.{Piece as PieceOf, Result, GoesByPieces, pieces_of, results, results_by, read}
use Rattle.tib_compose.specs.Ends.{IsSkipped}
use Rattle.tib_compose.specs.FlatSides.{ArePairsFrom, IsFlatOver, KeptOverruns, ListsKept, PutsBelow, PutsRight, ReadsFlat, flat_results, kept, leaf}
use Rattle.tib_compose.specs.KeyEdges.{rule_edges}
use Rattle.tib_compose.specs.CompositionListing.{IsAdded, IsListing, IsTooMuch}
use Rattle.tib_compose.specs.PieceViews.{AreKnown, kids_there, piece_below, side_there}
use Rattle.tib_compose.specs.Readers.{readers, readers_with}
use Rattle.tib_compose.specs.Searches.{affordable, all_of, AreOneTrees, reader_results}
use Rattle.tib_compose.specs.Walk.{AreReady, result_edges}
use Rattle.tib_compose.specs.declared.listing.CompositionListing.{CompositionListing}
use Rattle.tib_compose.proofs.Listed.{listing_added, listing_overruns}
use Rattle.tib_compose.proofs.Outputs.{reader_trees}
use Rattle.tib_compose.proofs.Taking.{hole_below, label_taken, no_pieces, one_piece, pair_taken, put_taken}
use Rattle.tib_compose.proofs.Walking.{all_append, by_readers, drop_past, edges_append, has_there, is_reader, kids_count, known_from, total_front}
use Rattle.tib_compose.proofs.Whole.{rule_comes, take_more, take_past}

-- the place has a label
abbrev HasLabel : Symbol ℕ (Pair ℕ) × ℕ → Type 0
HasLabel (label f, n) = Unit {0}
HasLabel (hole x, n) = ⊥

-- pairs from a place on

pub no_pairs : (items : List (Item (Pair ℕ))) → ArePairsFrom (length items) items
no_pairs items = ([], no_pieces items)

pub one_pair : (items : List (Item (Pair ℕ))) (i : ℕ) (x : Pair ℕ) (d : Item (Pair ℕ)) → i < length items → get_or items i d ≡ Hole x → ArePairsFrom (i + 1) items → ArePairsFrom i items
one_pair items i x d h at (xs, e) =
    let low : i < length (pairs_of items) = omega (arith, h, length-map items pair_of) in
    let here : get_or (pairs_of items) i (pair_of d) ≡ leaf x = get_or-map pair_of items i d (pair_of d) h ∙ ap pair_of at in
    (x ∷ xs, drop_more (pairs_of items) i (pair_of d) low ∙ ap (λ y. y ∷ drop (i + 1) (pairs_of items)) here ∙ ap (λ ys. leaf x ∷ ys) e)

pub from_first : (items : List (Item (Pair ℕ))) (i : ℕ) → i ≤ 1 → ArePairsFrom i items → ArePairsFrom 1 items
from_first items (suc zero) h a = a
from_first items (suc (suc i)) h a = absurd (omega arith)
from_first [] zero h a = ([], refl)
from_first (y ∷ items) zero h ([], e) = absurd (cc)
from_first (y ∷ items) zero h (x ∷ xs, e) = (xs, ap (λ zs. drop 1 zs) e)

-- a label before pairs
pub flat_there : (items : List (Item (Pair ℕ))) (f n : ℕ) (d : Item (Pair ℕ)) → 0 < length items → get_or items 0 d ≡ Label f n → ArePairsFrom 1 items → IsFlatOver (pairs_of items) f n
flat_there [] f n d h at a = absurd (omega arith)
flat_there (y ∷ items) f n d h at (xs, e) = (xs, ap (λ y. pair_of y ∷ pairs_of items) at ∙ ap (λ zs. (label f, n) ∷ zs) e)

-- so there are pairs alone after the label
pub flat_rest : (items : List (Item (Pair ℕ))) (f n : ℕ) → IsFlatOver (pairs_of items) f n → ArePairsFrom 1 items
flat_rest items f n (xs, e) = (xs, ap (λ zs. drop 1 zs) e)

count_leaves : (xs : List (Pair ℕ)) → count (parse (map leaf xs)) ≡ length xs
count_leaves [] = refl
count_leaves (x ∷ xs) = ap suc (count_leaves xs)

-- no fewer than there are children
pub flat_long : (items : List (Item (Pair ℕ))) (f n : ℕ) → HasChildren (pairs_of items) → IsFlatOver (pairs_of items) f n → n < length items
flat_long items f n children (xs, e) =
    let below : HasChildren ((label f, n) ∷ map leaf xs) = subst HasChildren e children in
    omega (arith, below.1, count_leaves xs, ap length e, length-map items pair_of, length-map xs leaf)

-- none of them is a label
no_label : (items : List (Item (Pair ℕ))) (xs : List (Pair ℕ)) (i f n : ℕ) (d : Item (Pair ℕ)) → pairs_of items ≡ map leaf xs → i < length items → get_or items i d ≡ Label f n → ⊥
no_label [] xs i f n d e h at = absurd (omega arith)
no_label (y ∷ items) [] i f n d e h at = absurd (cc)
no_label (Label g k ∷ items) (x ∷ xs) i f n d e h at =
    let head : ◌≡◌ {A = Symbol ℕ (Pair ℕ) × ℕ} (label g, k) (hole x, 0) = head_is e in
    subst HasLabel head tt
no_label (Hole z ∷ items) (x ∷ xs) zero f n d e h at = absurd (let bad : ◌≡◌ {A = Item (Pair ℕ)} (Hole z) (Label f n) = at in cc)
no_label (Hole z ∷ items) (x ∷ xs) (suc i) f n d e h at = no_label items xs i f n d (tail_is e) (omega arith) at

pub no_label_below : (items : List (Item (Pair ℕ))) (i f n : ℕ) (d : Item (Pair ℕ)) → ArePairsFrom 1 items → i + 1 < length items → get_or items (i + 1) d ≡ Label f n → ⊥
no_label_below [] i f n d a h at = absurd (omega arith)
no_label_below (y ∷ items) i f n d (xs, e) h at =
    let place : i + 1 ≡ suc i = omega arith in
    no_label items xs i f n d e (omega arith) (ap (λ k. get_or (y ∷ items) k d) (sym place) ∙ at)

-- after the label of such a side each place begins the trees from there on
leaves_skipped : (v : ℕ) (xs : List (Pair ℕ)) → parse (drop v (map leaf xs)) ≡ other_trees v (parse (map leaf xs))
leaves_skipped zero xs = refl
leaves_skipped (suc v) [] = refl
leaves_skipped (suc v) (x ∷ xs) = leaves_skipped v xs

flat_skipped : (pairs : List (Symbol ℕ (Pair ℕ) × ℕ)) (f n v : ℕ) → IsFlatOver pairs f n → IsSkipped pairs 1 v (v + 1)
flat_skipped pairs f n v (xs, e) = (
  omega arith,
  subst (λ zs. parse (drop (v + 1) zs) ≡ other_trees v (parse (drop 1 zs))) (sym e)
      (ap (λ k. parse (drop k ((label f, n) ∷ map leaf xs))) (let same : v + 1 ≡ suc v = omega arith in same) ∙ leaves_skipped v xs),
)

-- an item is put out

pub label_below : (items : List (Item (Pair ℕ))) (g k : ℕ) (old new : List (Item (Pair (ℕ × ℕ)))) → new ≡ old ++ Label g k ∷ [] → PutsBelow items (Label g k) old new
label_below items g k old new e product two goes f n flat cost ws = put_taken product two goes items cost ws old new g k e

pub pair_below :
    (items : List (Item (Pair ℕ))) (x y : Pair ℕ) (d : Item (Pair ℕ)) (old new : List (Item (Pair (ℕ × ℕ)))) → x.variable + 1 < length items → Hole y ≡ get_or items (x.variable + 1) d →
    new ≡ old ++ Hole (record { state = (y.state, x.state); variable = y.variable }) ∷ [] → PutsBelow items (Hole x) old new
pair_below items x y d old new h at e product two goes f n flat cost ws =
    ap (λ (w : PieceOf). results product two cost (pairs_of old) (w ∷ ws)) (sym (hole_below (pairs_of items) [] 0 (x.variable + 1) x (flat_skipped (pairs_of items) f n x.variable flat)))
    ∙ pair_taken product two goes items cost ws old new (x.variable + 1) x.state y d h at e

-- all items are

module _ (items right : List (Item (Pair ℕ))) where
  -- what is left after the first i items of a rule's right-hand side, after what was put out
  abbrev pub IsPutTo : ℕ → List (Item (Pair (ℕ × ℕ))) → Type 0
  IsPutTo i done =
      (product : ℕ → ℕ → ℕ) (two : List (TransducerRule ℕ)) → GoesByPieces product two → (f n : ℕ) → IsFlatOver (pairs_of items) f n → AreKnown n right → (cost : ℕ) →
      results product two cost [] (pieces_of (pairs_of right) (kids_there (pairs_of items) 0 n) ++ [])
      ≡ results product two cost (pairs_of done) (pieces_of (drop i (pairs_of right)) (kids_there (pairs_of items) 0 n) ++ [])

  pub put_none : (done : List (Item (Pair (ℕ × ℕ)))) → done ≡ [] → IsPutTo 0 done
  put_none done e product two goes f n flat known cost = ap (λ d. results product two cost (pairs_of d) (pieces_of (pairs_of right) (kids_there (pairs_of items) 0 n) ++ [])) (sym e)

  pub put_more : (i : ℕ) (x : Item (Pair ℕ)) (old new : List (Item (Pair (ℕ × ℕ)))) → i < length right → x ≡ get_or right i (Label 0 0) → PutsBelow items x old new → IsPutTo i old → IsPutTo (i + 1) new
  put_more i x old new h at puts before product two goes f n flat known cost =
      let kids : Trees (Symbol ℕ (Pair ℕ)) = kids_there (pairs_of items) 0 n in
      before product two goes f n flat known cost
      ∙ ap (λ (ws : List PieceOf). results product two cost (pairs_of old) (ws ++ [])) (sym (one_piece (pairs_of items) right 0 n i h known))
      ∙ ap (λ (y : Item (Pair ℕ)). results product two cost (pairs_of old) (piece_below (pairs_of items) 0 y ∷ (pieces_of (drop (i + 1) (pairs_of right)) kids ++ []))) (sym at)
      ∙ puts product two goes f n flat cost (pieces_of (drop (i + 1) (pairs_of right)) kids ++ [])

  pub put_all : (i : ℕ) (done : List (Item (Pair (ℕ × ℕ)))) → length right ≤ i → IsPutTo i done → PutsRight items right done
  put_all i done h before product two goes f n flat known cost =
      before product two goes f n flat known cost
      ∙ ap (λ xs. results product two cost (pairs_of done) (pieces_of xs (kids_there (pairs_of items) 0 n) ++ [])) (drop_past i (pairs_of right) (omega (arith, h, length-map right pair_of)))
      ∙ goes.at_end cost (pairs_of done)

-- what is put out within the greatest cost
kept_of : (n : ℕ) (done : List (Symbol ℕ (Pair (ℕ × ℕ)) × ℕ)) → affordable ((n, done) ∷ []) ≡ kept (cut n) done
kept_of n done = by (nat_le n most)
  where
    by : (b : Bool) → (if b then (n, done) ∷ [] else []) ≡ kept (if b then Some n else None) done
    by true = refl
    by false = refl

-- it is listed

pub kept_listed : (left : SideFor ℕ Variable) (done : List (Item (Pair (ℕ × ℕ)))) (cost : ℕ) (old new : CompositionListing) → IsAdded left done cost old new → ListsKept left done (Some cost) old new
kept_listed left done cost old new added order key es lists = listing_added order key es left done cost old new added lists

pub none_listed : (left : SideFor ℕ Variable) (done : List (Item (Pair (ℕ × ℕ)))) (l : CompositionListing) → ListsKept left done None l l
none_listed left done l order key es lists = subst (λ xs. IsListing order key xs l) (sym (append-nil es)) lists

pub kept_overruns : (left : SideFor ℕ Variable) (done : List (Item (Pair (ℕ × ℕ)))) (cost : ℕ) (old : CompositionListing) → IsTooMuch left done old → KeptOverruns left done (Some cost) old
kept_overruns left done cost old much order key es lists = listing_overruns order key es left done cost old much lists

-- a rule that reads the label
module _ (product : ℕ → ℕ → ℕ) (two : List (TransducerRule ℕ)) (ready : AreReady product two) (rule : TransducerRule ℕ) (items right : List (Item (Pair ℕ))) (done : List (Item (Pair (ℕ × ℕ)))) (p f n m : ℕ)
    (flat : IsFlatOver (pairs_of items) f n) (low : m < length two) (reads : reads_label p f n (transducer_rule two m) ≡ true) (is : pairs_of right ≡ preorder_of (transducer_rule two m).right)
    (puts : PutsRight items right done) (v : Option ℕ) (at : v ≡ cut (product rule.cost (transducer_rule two m).cost)) where
  pub reader_kept : flat_results product two rule items n m ≡ kept v (pairs_of done)
  reader_kept =
      ap (λ xs. affordable (results product two (product rule.cost (transducer_rule two m).cost) [] (pieces_of xs (kids_there (pairs_of items) 0 n) ++ []))) (sym is)
      ∙ ap affordable (puts product two ready.goes f n flat (known_from two ready.shaped p f n m low reads right is) (product rule.cost (transducer_rule two m).cost))
      ∙ kept_of (product rule.cost (transducer_rule two m).cost) (pairs_of done)
      ∙ ap (λ w. kept w (pairs_of done)) (sym at)

-- the item of a place of a preorder
abbrev item_of : Symbol ℕ (Pair ℕ) × ℕ → Item (Pair ℕ)
item_of (label f, n) = Label f n
item_of (hole x, n) = Hole x

-- the rules of a transducer that is there give all that a search needs
pub are_ready : {levelled weighted : Bool} {product : ℕ → ℕ → ℕ} → ProductLaws levelled weighted product → (two : List (TransducerRule ℕ)) → AreShaped two → EndInHoles two → AreReady product two
are_ready laws two shaped leaves = record { shaped = shaped; goes = goes_by_pieces laws two shaped (λ m h. (leaves m h).1) }

-- a rule that was read by its position
pub there : (one rules : List (TransducerRule ℕ)) (n : ℕ) (r : TransducerRule ℕ) → rules ≡ one → n < length one → (n < length rules → (d : TransducerRule ℕ) → r ≡ transducer_rule rules n) → r ≡ transducer_rule one n
there one rules n r e low f = f (subst (λ rs. n < length rs) (sym e) low) no_rule ∙ ap (λ rs. transducer_rule rs n) e

pub any_at : (xs : List ℕ) (i d e : ℕ) → i < length xs → get_or xs i d ≡ get_or xs i e
any_at [] i d e h = absurd (omega arith)
any_at (x ∷ xs) zero d e h = refl
any_at (x ∷ xs) (suc i) d e h = any_at xs i d e (omega arith)

-- as many trees are below the label
flat_count : (items : List (Item (Pair ℕ))) (f k : ℕ) → IsFlatOver (pairs_of items) f k → HasChildren (pairs_of items) → count (kids_there (pairs_of items) 0 k) ≡ k
flat_count [] f k (xs, e) c = absurd (cc)
flat_count (Label g j ∷ items) f k (xs, e) c =
    let head : ◌≡◌ {A = Symbol ℕ (Pair ℕ) × ℕ} (label g, j) (label f, k) = head_is e in
    let same : ◌≡◌ {A = Item (Pair ℕ)} (Label g j) (Label f k) = ap item_of head in
    kids_count (Label g j ∷ items) 0 f k c (omega arith) same
flat_count (Hole x ∷ items) f k (xs, e) c =
    let head : ◌≡◌ {A = Symbol ℕ (Pair ℕ) × ℕ} (hole x, 0) (label f, k) = head_is e in
    absurd (subst HasLabel (sym head) tt)

-- what a rule puts out in place of such a side is one tree
pub flat_tree :
    (product : ℕ → ℕ → ℕ) (two : List (TransducerRule ℕ)) → AreReady product two → (items right : List (Item (Pair ℕ))) (done : List (Item (Pair (ℕ × ℕ)))) (m : ℕ) (reads : ReadsFlat two items m) → m < length two →
    pairs_of right ≡ preorder_of (transducer_rule two m).right → PutsRight items right done → IsOneTree (pairs_of done)
flat_tree product two ready items right done m (p, f, n, flat, children, reads) low is puts =
    let kids : Trees (Symbol ℕ (Pair ℕ)) = kids_there (pairs_of items) 0 n in
    let cost : ℕ = product 0 (transducer_rule two m).cost in
    let here : AreOneTrees (results product two cost [] (pieces_of (preorder_of (transducer_rule two m).right) kids ++ [])) =
    reader_trees product two ready.shaped ready.goes 0 f kids p m low (subst (λ k. reads_label p f k (transducer_rule two m) ≡ true) (sym (flat_count items f n flat children)) reads)
    in
    let same : results product two cost [] (pieces_of (preorder_of (transducer_rule two m).right) kids ++ []) ≡ (cost, pairs_of done) ∷ [] =
    ap (λ xs. results product two cost [] (pieces_of xs kids ++ [])) (sym is) ∙ puts product two ready.goes f n flat (known_from two ready.shaped p f n m low reads right is) cost
    in
    (subst AreOneTrees same here).0

-- all of them
module _ (product : ℕ → ℕ → ℕ) (one two : List (TransducerRule ℕ)) (key : ℕ × ℕ) (n : ℕ) (ready : AreReady product two) (rule : TransducerRule ℕ) (at : rule ≡ transducer_rule one n)
    (items : List (Item (Pair ℕ))) (is : pairs_of items ≡ preorder_of (transducer_rule one n).right) (f k : ℕ) (flat : IsFlatOver (pairs_of items) f k) (children : HasChildren (pairs_of items))
    (ps : List ℕ) (are : ps ≡ readers_with (key.1, f, k) two) where
  -- the edges of some of them
  abbrev of_readers : List ℕ → List (TransducerRule (ℕ × ℕ))
  of_readers ms = result_edges key rule.left (all_of (flat_results product two rule items k) ms)

  many : count (kids_there (pairs_of items) 0 k) ≡ k
  many = flat_count items f k flat children

  flat_edges : of_readers ps ≡ rule_edges product one two key n
  flat_edges =
      ap of_readers are
      ∙ ap (λ j. result_edges key rule.left (all_of (flat_results product two rule items k) (readers two key.1 f j (length two)))) (sym many)
      ∙ ap (result_edges key rule.left) (sym (by_readers product two rule.cost [] f key.1 (kids_there (pairs_of items) 0 k) [] (length two)))
      ∙ ap (λ rs. result_edges key rule.left (affordable rs)) (sym (root items flat))
      ∙ ap (λ (r : TransducerRule ℕ). result_edges key r.left (affordable (results product two r.cost [] (read (side_there (pairs_of items) 0) key.1 ∷ [])))) at
      ∙ rule_comes product one two key n ready items is
    where
      root : (items : List (Item (Pair ℕ))) → IsFlatOver (pairs_of items) f k →
          results product two rule.cost [] (read (side_there (pairs_of items) 0) key.1 ∷ []) ≡ results_by product two rule.cost [] f (kids_there (pairs_of items) 0 k) key.1 [] (length two)
      root [] (xs, e) = absurd (cc)
      root (Label g j ∷ items) (xs, e) =
          let head : ◌≡◌ {A = Symbol ℕ (Pair ℕ) × ℕ} (label g, j) (label f, k) = head_is e in
          let same : ◌≡◌ {A = Item (Pair ℕ)} (Label g j) (Label f k) = ap item_of head in
          label_taken product two ready.goes (Label g j ∷ items) rule.cost [] [] 0 key.1 f k (Label 0 0) (omega arith) (sym same) (kids_there (pairs_of (Label g j ∷ items)) 0 k) refl
      root (Hole x ∷ items) (xs, e) =
          let head : ◌≡◌ {A = Symbol ℕ (Pair ℕ) × ℕ} (hole x, 0) (label f, k) = head_is e in
          absurd (subst HasLabel (sym head) tt)

  both : (xs ys : List ℕ) → of_readers (xs ++ ys) ≡ of_readers xs ++ of_readers ys
  both xs ys =
      ap (result_edges key rule.left) (all_append (flat_results product two rule items k) xs ys)
      ∙ edges_append key rule.left (all_of (flat_results product two rule items k) xs) (all_of (flat_results product two rule items k) ys)

  -- one of them more
  pub reader_more : (es : List (TransducerRule (ℕ × ℕ))) (i : ℕ) → i < length ps →
      (es ++ of_readers (take i ps)) ++ result_edges key rule.left (flat_results product two rule items k (get_or ps i 0)) ≡ es ++ of_readers (take (i + 1) ps)
  reader_more es i h =
      let m : ℕ = get_or ps i 0 in
      append_assoc es (of_readers (take i ps)) (result_edges key rule.left (flat_results product two rule items k m))
      ∙ ap (λ zs. es ++ zs)
      (ap (λ rs. of_readers (take i ps) ++ result_edges key rule.left rs) (sym (append-nil (flat_results product two rule items k m)))
      ∙ sym (both (take i ps) (m ∷ []))
      ∙ ap of_readers (sym (take_more ps i m h (any_at ps i 0 m h))))

  -- it reads the label
  pub reads_there : (i : ℕ) → i < length ps → (get_or ps i 0 < length two) × (reads_label key.1 f k (transducer_rule two (get_or ps i 0)) ≡ true)
  reads_there i h = is_reader two key.1 f k (length two) (get_or ps i 0) (omega arith) (subst (λ xs. Has xs (get_or ps i 0)) are (has_there i ps 0 h))

  -- and all
  pub readers_all : (es : List (TransducerRule (ℕ × ℕ))) (i : ℕ) → length ps ≤ i → es ++ of_readers (take i ps) ≡ es ++ rule_edges product one two key n
  readers_all es i h = ap (λ zs. es ++ zs) (ap of_readers (take_past i ps h) ∙ flat_edges)

  -- the first of them have no more parts than all
  pub readers_front : (es : List (TransducerRule (ℕ × ℕ))) (i budget : ℕ) → budget < total edge_parts (es ++ of_readers (take i ps)) → budget < total edge_parts (es ++ rule_edges product one two key n)
  readers_front es i budget h =
      let whole : (es ++ of_readers (take i ps)) ++ of_readers (drop i ps) ≡ es ++ rule_edges product one two key n =
      append_assoc es (of_readers (take i ps)) (of_readers (drop i ps))
      ∙ ap (λ zs. es ++ zs) (sym (both (take i ps) (drop i ps)) ∙ ap of_readers (take_drop i ps) ∙ flat_edges)
      in
      let front : total edge_parts (es ++ of_readers (take i ps)) ≤ total edge_parts (es ++ rule_edges product one two key n) =
      subst (λ xs. total edge_parts (es ++ of_readers (take i ps)) ≤ total edge_parts xs) whole (total_front (es ++ of_readers (take i ps)) (of_readers (drop i ps)))
      in
      omega (arith, h, front)
