-- What comes of branches and turns, up to the greatest cost.
use Rattle.std.specs.Prelude.{◌≡◌, ℕ, ◌+◌, ◌-◌, ◌<◌, ◌≤◌, ◌⊎◌, Bool, true, false, List, [], ◌∷◌, ◌++◌, length, map, reverse, take, drop, nat_le, if◌then◌else◌, Option, None, Some, refl}
use Rattle.std.proofs.Common.{zero, suc, arith, ap, sym, ◌∙◌, subst, get_or, inl, inr, append-nil, append_assoc}
use Rattle.std.proofs.lemmas.List.{length-append, length-map, reverse-append, drop_more, get_or-map}
use Rattle.tib_lex.specs.Lists.{Has, Each, total}
use Rattle.tib_tree.specs.Trees.{Trees, none, tree, only, count, preorder_of, first_trees, parse, count-first, HasChildren, HasChildren-drop}
use Rattle.tib_cost.specs.Semiring.{most, cut, ProductLaws}
use Rattle.tib_cost.specs.Least.{times}
use Rattle.tib_lex.proofs.Places.{take_drop}
use Rattle.tib_lex.proofs.Numbers.{nat_le_cases}
use Rattle.tib_grammar.specs.Sides.{Symbol, label, Side as SideFor, holes_of}
use Rattle.tib_grammar.specs.Items.{pairs_of, pair_of, holes_in}
use Rattle.tib_grammar.specs.declared.Item.{Item}
use Rattle.tib_grammar.specs.declared.Item.TheVariants.{Label, Hole}
use Rattle.tib_grammar.proofs.Holes.{holes_of_items}
use Rattle.tib_transducer.specs.Rules.{transducer_rule, variables_in}
use Rattle.tib_transducer.specs.Range.{AreShaped}
use Rattle.tib_transducer.specs.declared.Pair.{Pair}
use Rattle.tib_transducer.specs.declared.Variable.{Variable}
use Rattle.tib_transducer.specs.declared.TransducerRule.{TransducerRule}
use Rattle.tib_key_edges.specs.Choices.{reads_label}
use Rattle.tib_key_edges.specs.Translations.{choice_cost}
use Rattle.tib_key_edges.specs.Completions.{completions}
use Rattle.tib_key_edges.specs.Composition.{edge_parts}
use Rattle.tib_key_edges.specs.Pieces.{Piece as PieceOf, Result, results, results_by, result_of, sides_of, states_of, pieces_of}
use Rattle.tib_key_edges.proofs.Choosing.{within_sides, reads_over}
use Rattle.tib_compose.specs.CompositionListing.{edge_of}
use Rattle.tib_compose.specs.Pending.{IsAtLeast, BoundsAll, Stands, Extends, task_at}
use Rattle.tib_compose.specs.PieceViews.{kids_there, AreKnown, IsKnown}
use Rattle.tib_compose.specs.Readers.{readers, readers_with}
use Rattle.tib_compose.specs.Searches.{affordable, all_of, reader_results, turn_results, AreTurns}
use Rattle.tib_compose.specs.Walk.{result_edges}
use Rattle.tib_compose.specs.declared.pending.PendingPiece.{PendingPiece}
use Rattle.tib_compose.specs.declared.search.ReturnPoint.{ReturnPoint}

-- results up to the greatest cost

pub affordable_append : (rs ss : List Result) → affordable (rs ++ ss) ≡ affordable rs ++ affordable ss
affordable_append [] ss = refl
affordable_append (r ∷ rs) ss = by (nat_le r.0 most) (affordable_append rs ss)
  where
    by :
        (b : Bool) → affordable (rs ++ ss) ≡ affordable rs ++ affordable ss →
        (if b then r ∷ affordable (rs ++ ss) else affordable (rs ++ ss)) ≡ (if b then r ∷ affordable rs else affordable rs) ++ affordable ss
    by true e = ap (λ zs. r ∷ zs) e
    by false e = e

-- one result within it
pub affordable_one : (r : Result) → r.0 ≤ most → affordable (r ∷ []) ≡ r ∷ []
affordable_one r h = elim (nat_le_cases r.0 most) [ inl k ↦ rw k.1 refl | inr k ↦ absurd (let g = k.0 in omega (arith, h, g)) ]

affordable_none : (rs : List Result) → ((r : Result) → Has rs r → most < r.0) → affordable rs ≡ []
affordable_none [] f = refl
affordable_none (r ∷ rs) f = elim (nat_le_cases r.0 most) [
  | inl k ↦ absurd (let g = k.0 in let h = f r (inl refl) in omega (arith, g, h))
  | inr k ↦ rw k.1 (affordable_none rs (λ s h. f s (inr h)))
]

pub edges_append : (key : ℕ × ℕ) (left : SideFor ℕ Variable) (rs ss : List Result) → result_edges key left (rs ++ ss) ≡ result_edges key left rs ++ result_edges key left ss
edges_append key left [] ss = refl
edges_append key left (r ∷ rs) ss = ap (λ zs. edge_of key left r.1 r.0 ∷ zs) (edges_append key left rs ss)

module _ {levelled weighted : Bool} {product : ℕ → ℕ → ℕ} (laws : ProductLaws levelled weighted product) (two : List (TransducerRule ℕ)) where
  none_of :
      (cost : ℕ) (done : List (Symbol ℕ (Pair (ℕ × ℕ)) × ℕ)) (ws : List PieceOf) (cs : List (Trees (Option ℕ))) →
      ((c : Trees (Option ℕ)) → Has cs c → most < product cost (choice_cost product two c)) → affordable (map (result_of product two cost done ws) cs) ≡ []
  none_of cost done ws [] f = refl
  none_of cost done ws (c ∷ cs) f = elim (nat_le_cases (product cost (choice_cost product two c)) most) [
    | inl k ↦ absurd (let g = k.0 in let h = f c (inl refl) in omega (arith, g, h))
    | inr k ↦ rw k.1 (none_of cost done ws cs (λ d h. f d (inr h)))
  ]

  -- of a branch that costs too much comes nothing
  pub dear_branch : (cost : ℕ) (done : List (Symbol ℕ (Pair (ℕ × ℕ)) × ℕ)) (ws : List PieceOf) → most < cost → affordable (results product two cost done ws) ≡ []
  dear_branch cost done ws h =
      none_of cost done ws (completions two (sides_of ws) (states_of ws)) (λ c k. let a = laws.at_least cost (choice_cost product two c) in omega (arith, h, a))

  -- nor of one whose rest does
  pub dear_rest :
      (cost : ℕ) (done : List (Symbol ℕ (Pair (ℕ × ℕ)) × ℕ)) (ws : List PieceOf) (v : Option ℕ) → BoundsAll product two ws v → times product (Some cost) v ≡ None → affordable (results product two cost done ws) ≡ []
  dear_rest cost done ws None b e =
      none_of cost done ws (completions two (sides_of ws) (states_of ws))
      (λ c k. let n = choice_cost product two c in let a = laws.at_least n cost in let s = laws.commutes cost n in let h = b c k in omega (arith, h, a, s))
  dear_rest cost done ws (Some m) b e = elim (nat_le_cases (product cost m) most) [
    | inl k ↦ absurd (let f : Some (product cost m) ≡ None = rw k.1 at e in absurd_some (product cost m) f)
    | inr k ↦
        none_of cost done ws (completions two (sides_of ws) (states_of ws))
        (λ c h. let g = k.0 in let a = laws.grows cost m (choice_cost product two c) (b c h) in omega (arith, g, a))
  ]
    where
      absurd_some : (n : ℕ) → ◌≡◌ {A = Option ℕ} (Some n) None → ⊥
      absurd_some n e = cc

-- the rules that read a label

pub all_append : {A : Type 0} (f : ℕ → List A) (xs ys : List ℕ) → all_of f (xs ++ ys) ≡ all_of f xs ++ all_of f ys
all_append f [] ys = refl
all_append f (x ∷ xs) ys = ap (λ zs. f x ++ zs) (all_append f xs ys) ∙ sym (append_assoc (f x) (all_of f xs) (all_of f ys))

module _ (product : ℕ → ℕ → ℕ) (two : List (TransducerRule ℕ)) (cost : ℕ) (done : List (Symbol ℕ (Pair (ℕ × ℕ)) × ℕ)) (f p : ℕ) (kids : Trees (Symbol ℕ (Pair ℕ))) (ws : List PieceOf) where
  one_reader : (b : Bool) (m : ℕ) →
      affordable (if b then results product two (product cost (transducer_rule two m).cost) done (pieces_of (preorder_of (transducer_rule two m).right) kids ++ ws) else [])
      ≡ all_of (reader_results product two cost done kids ws) (if b then m ∷ [] else [])
  one_reader true m = sym (append-nil (reader_results product two cost done kids ws m))
  one_reader false m = refl

  -- what comes of a label comes of the rules that read it
  pub by_readers : (m : ℕ) → affordable (results_by product two cost done f kids p ws m) ≡ all_of (reader_results product two cost done kids ws) (readers two p f (count kids) m)
  by_readers zero = refl
  by_readers (suc m) =
      affordable_append (results_by product two cost done f kids p ws m)
      (if reads_label p f (count kids) (transducer_rule two m)
      then results product two (product cost (transducer_rule two m).cost) done (pieces_of (preorder_of (transducer_rule two m).right) kids ++ ws)
      else [])
      ∙ ap (λ zs. zs ++ affordable (if reads_label p f (count kids) (transducer_rule two m)
      then results product two (product cost (transducer_rule two m).cost) done (pieces_of (preorder_of (transducer_rule two m).right) kids ++ ws)
      else [])) (by_readers m)
      ∙ ap (λ zs. all_of (reader_results product two cost done kids ws) (readers two p f (count kids) m) ++ zs) (one_reader (reads_label p f (count kids) (transducer_rule two m)) m)
      ∙ sym (all_append (reader_results product two cost done kids ws) (readers two p f (count kids) m) (if reads_label p f (count kids) (transducer_rule two m) then m ∷ [] else []))

-- each of them is a rule that reads it
pub is_reader : (two : List (TransducerRule ℕ)) (p f n k m : ℕ) → k ≤ length two → Has (readers two p f n k) m → (m < length two) × (reads_label p f n (transducer_rule two m) ≡ true)
is_reader two p f n zero m h a = absurd a
is_reader two p f n (suc k) m h a = last (reads_label p f n (transducer_rule two k)) refl (λ c. is_reader two p f n k m (omega arith) c) (either (readers two p f n k) (if reads_label p f n (transducer_rule two k) then k ∷ [] else []) a)
  where
    either : (xs ys : List ℕ) → Has (xs ++ ys) m → Has xs m ⊎ Has ys m
    either [] ys a = inr a
    either (x ∷ xs) ys a = elim a [ inl e ↦ inl (inl e) | inr b ↦ elim (either xs ys b) [ inl c ↦ inl (inr c) | inr c ↦ inr c ] ]

    last :
        (b : Bool) → reads_label p f n (transducer_rule two k) ≡ b → (Has (readers two p f n k) m → (m < length two) × (reads_label p f n (transducer_rule two m) ≡ true)) → Has (readers two p f n k) m ⊎ Has (if b then k ∷ [] else []) m →
        (m < length two) × (reads_label p f n (transducer_rule two m) ≡ true)
    last b e before (inl c) = before c
    last false e before (inr c) = absurd c
    last true e before (inr (inl same)) = (omega (arith, same, h), subst (λ z. reads_label p f n (transducer_rule two z) ≡ true) same e)
    last true e before (inr (inr c)) = absurd c

-- there are no more of them than rules
pub few_readers : (two : List (TransducerRule ℕ)) (p f n k : ℕ) → length (readers two p f n k) ≤ k
few_readers two p f n zero = omega arith
few_readers two p f n (suc k) = by (reads_label p f n (transducer_rule two k)) (few_readers two p f n k)
  where
    by : (b : Bool) → length (readers two p f n k) ≤ k → length (readers two p f n k ++ (if b then k ∷ [] else [])) ≤ suc k
    by true h = omega (arith, h, length-append (readers two p f n k) (k ∷ []))
    by false h = omega (arith, h, length-append (readers two p f n k) [])

-- the variables of such a rule are known
pub known_from :
    (two : List (TransducerRule ℕ)) → AreShaped two → (p f n m : ℕ) → m < length two → reads_label p f n (transducer_rule two m) ≡ true →
    (items : List (Item (Pair ℕ))) → pairs_of items ≡ preorder_of (transducer_rule two m).right → AreKnown n items
known_from two shaped p f n m low reads items e =
    let kids : Trees (Symbol ℕ Variable) = (transducer_rule two m).left.kids in
    let many : count kids ≡ n = (reads_over p f n (transducer_rule two m) reads).1.rank in
    let within : Each (λ i. i < count kids) (variables_in (transducer_rule two m).right) =
    within_sides two shaped p f kids m low (subst (λ k. reads_label p f k (transducer_rule two m) ≡ true) (sym many) reads)
    in
    item_by_item items
    (subst (λ k. Each (λ i. i < k) (map (λ x. x.variable) (holes_in items))) many
    (subst (λ (xs : List (Pair ℕ)). Each (λ i. i < count kids) (map (λ x. x.variable) xs)) (holes_of_items items (transducer_rule two m).right e) within))
  where
    item_by_item : (items : List (Item (Pair ℕ))) → Each (λ i. i < n) (map (λ x. x.variable) (holes_in items)) → AreKnown n items
    item_by_item [] h i low = absurd (omega arith)
    item_by_item (Label g k ∷ items) h zero low = tt
    item_by_item (Label g k ∷ items) h (suc i) low = item_by_item items h i (omega arith)
    item_by_item (Hole x ∷ items) h zero low = h.0
    item_by_item (Hole x ∷ items) h (suc i) low = item_by_item items h.1 i (omega arith)

-- a label has this many sides below it
pub kids_are : (items : List (Item (Pair ℕ))) (i f n : ℕ) → HasChildren (pairs_of items) → i < length items → get_or items i (Label 0 0) ≡ Label f n → n ≤ count (parse (drop (i + 1) (pairs_of items)))
kids_are items i f n h low e =
    let long : i < length (pairs_of items) = omega (arith, low, length-map items pair_of) in
    let at : get_or (pairs_of items) i (label 0, 0) ≡ (label f, n) = get_or-map pair_of items i (Label 0 0) (label 0, 0) low ∙ ap pair_of e in
    let from : HasChildren ((label f, n) ∷ drop (i + 1) (pairs_of items)) =
    subst (λ z. HasChildren (z ∷ drop (i + 1) (pairs_of items))) at (subst HasChildren (drop_more (pairs_of items) i (label 0, 0) long) (HasChildren-drop i (pairs_of items) h))
    in
    from.1

pub kids_count : (items : List (Item (Pair ℕ))) (i f n : ℕ) → HasChildren (pairs_of items) → i < length items → get_or items i (Label 0 0) ≡ Label f n → count (kids_there (pairs_of items) i n) ≡ n
kids_count items i f n h low e = count-first n (parse (drop (i + 1) (pairs_of items))) (kids_are items i f n h low e)

-- turns

take_front : {A : Type 0} (n : ℕ) (xs ys : List A) → n ≤ length xs → take n (xs ++ ys) ≡ take n xs
take_front zero xs ys h = refl
take_front (suc n) [] ys h = absurd (omega arith)
take_front (suc n) (x ∷ xs) ys h = ap (λ zs. x ∷ zs) (take_front n xs ys (omega arith))

pub take_whole : {A : Type 0} (xs : List A) → take (length xs) xs ≡ xs
take_whole [] = refl
take_whole (x ∷ xs) = ap (λ zs. x ∷ zs) (take_whole xs)

take_again : {A : Type 0} (n : ℕ) (xs : List A) → take n (take n xs) ≡ take n xs
take_again zero xs = refl
take_again (suc n) [] = refl
take_again (suc n) (x ∷ xs) = ap (λ zs. x ∷ zs) (take_again n xs)

length_take : {A : Type 0} (n : ℕ) (xs : List A) → n ≤ length xs → length (take n xs) ≡ n
length_take zero xs h = refl
length_take (suc n) [] h = absurd (omega arith)
length_take (suc n) (x ∷ xs) h = ap suc (length_take n xs (omega arith))

module _ (product : ℕ → ℕ → ℕ) (two : List (TransducerRule ℕ)) (pairs : List (Symbol ℕ (Pair ℕ) × ℕ)) where
  -- what was put out and the tasks may grow
  pub turns_longer :
      (ts : List ReturnPoint) (done more : List (Item (Pair (ℕ × ℕ)))) (tasks others : List PendingPiece) (rs : List Result) →
      AreTurns product two pairs ts done tasks rs → AreTurns product two pairs ts (done ++ more) (tasks ++ others) rs
  turns_longer [] done more tasks others rs h = h
  turns_longer (t ∷ ts) done more tasks others rs h =
      let d : take t.done (done ++ more) ≡ take t.done done = take_front t.done done more h.2 in
      let k : take t.tasks (tasks ++ others) ≡ take t.tasks tasks = take_front t.tasks tasks others h.3 in (
        h.0,
        h.1,
        (let a = h.2 in omega (arith, a, length-append done more)),
        (let a = h.3 in omega (arith, a, length-append tasks others)),
        subst (λ xs. Stands product two pairs xs t.next h.0) (sym k) h.4,
        subst (λ xs. rs ≡ turn_results product two pairs t (pairs_of xs) h.0 ++ h.1) (sym d) h.5,
        subst (λ xs. AreTurns product two pairs ts xs (take t.tasks (tasks ++ others)) h.1) (sym d) (subst (λ xs. AreTurns product two pairs ts (take t.done done) xs h.1) (sym k) h.6),
      )

  -- a turn at which one more rule was tried, over what it comes back to
  pub turn_tried :
      (t u : ReturnPoint) (ts : List ReturnPoint) (done : List (Item (Pair (ℕ × ℕ)))) (tasks : List PendingPiece) (ws : List PieceOf) (later : List Result) →
      u.done ≡ t.done → u.tasks ≡ t.tasks → u.next ≡ t.next → t.done ≤ length done → t.tasks ≤ length tasks → Stands product two pairs (take t.tasks tasks) t.next ws →
      AreTurns product two pairs ts (take t.done done) (take t.tasks tasks) later →
      AreTurns product two pairs (u ∷ ts) (take t.done done) (take t.tasks tasks) (turn_results product two pairs u (pairs_of (take t.done done)) ws ++ later)
  turn_tried t u ts done tasks ws later d k n low few stands below =
      let e : take u.done (take t.done done) ≡ take t.done done = ap (λ i. take i (take t.done done)) d ∙ take_again t.done done in
      let f : take u.tasks (take t.tasks tasks) ≡ take t.tasks tasks = ap (λ i. take i (take t.tasks tasks)) k ∙ take_again t.tasks tasks in (
        ws,
        later,
        omega (arith, d, length_take t.done done low),
        omega (arith, k, length_take t.tasks tasks few),
        subst (λ xs. Stands product two pairs xs u.next ws) (sym f) (subst (λ i. Stands product two pairs (take t.tasks tasks) i ws) (sym n) stands),
        ap (λ xs. turn_results product two pairs u (pairs_of xs) ws ++ later) (sym e),
        subst (λ xs. AreTurns product two pairs ts xs (take u.tasks (take t.tasks tasks)) later) (sym e) (subst (λ xs. AreTurns product two pairs ts (take t.done done) xs later) (sym f) below),
      )

  -- a new turn
  pub turn_new :
      (u : ReturnPoint) (ts : List ReturnPoint) (done : List (Item (Pair (ℕ × ℕ)))) (tasks : List PendingPiece) (ws : List PieceOf) (later : List Result) → u.done ≡ length done → u.tasks ≡ length tasks →
      Stands product two pairs tasks u.next ws → AreTurns product two pairs ts done tasks later → AreTurns product two pairs (u ∷ ts) done tasks (turn_results product two pairs u (pairs_of done) ws ++ later)
  turn_new u ts done tasks ws later d k stands below =
      let e : take u.done done ≡ done = ap (λ i. take i done) d ∙ take_whole done in
      let f : take u.tasks tasks ≡ tasks = ap (λ i. take i tasks) k ∙ take_whole tasks in (
        ws,
        later,
        omega (arith, d),
        omega (arith, k),
        subst (λ xs. Stands product two pairs xs u.next ws) (sym f) stands,
        ap (λ xs. turn_results product two pairs u (pairs_of xs) ws ++ later) (sym e),
        subst (λ xs. AreTurns product two pairs ts xs (take u.tasks tasks) later) (sym e) (subst (λ xs. AreTurns product two pairs ts done xs later) (sym f) below),
      )

-- the last turn comes first
pub turns_reverse : (ts us : List ReturnPoint) (t : ReturnPoint) → us ≡ ts ++ t ∷ [] → reverse us ≡ t ∷ reverse ts
turns_reverse ts us t e = ap (λ xs. reverse xs) e ∙ reverse-append ts (t ∷ [])

-- a turn with no rule left is dropped
pub turn_over :
    (product : ℕ → ℕ → ℕ) (two : List (TransducerRule ℕ)) (pairs : List (Symbol ℕ (Pair ℕ) × ℕ)) (ts : List ReturnPoint) (n k : ℕ) (done : List (Item (Pair (ℕ × ℕ)))) (tasks : List PendingPiece) (rs : List Result) →
    AreTurns product two pairs ts (take n done) (take k tasks) rs → AreTurns product two pairs ts done tasks rs
turn_over product two pairs ts n k done tasks rs h =
    subst (λ xs. AreTurns product two pairs ts xs tasks rs) (take_drop n done)
    (subst (λ xs. AreTurns product two pairs ts (take n done ++ drop n done) xs rs) (take_drop k tasks) (turns_longer product two pairs ts (take n done) (drop n done) (take k tasks) (drop k tasks) rs h))

pub drop_past : {A : Type 0} (n : ℕ) (xs : List A) → length xs ≤ n → drop n xs ≡ []
drop_past zero [] h = refl
drop_past zero (x ∷ xs) h = absurd (omega arith)
drop_past (suc n) [] h = refl
drop_past (suc n) (x ∷ xs) h = drop_past n xs (omega arith)

pub has_there : (n : ℕ) (xs : List ℕ) (d : ℕ) → n < length xs → Has xs (get_or xs n d)
has_there n [] d h = absurd (omega arith)
has_there zero (x ∷ xs) d h = inl refl
has_there (suc n) (x ∷ xs) d h = inr (has_there n xs d (omega arith))

-- the parts of the first edges are no more than those of all
pub total_front : (es fs : List (TransducerRule (ℕ × ℕ))) → total edge_parts es ≤ total edge_parts (es ++ fs)
total_front [] fs = omega arith
total_front (e ∷ es) fs = omega (arith, total_front es fs)
