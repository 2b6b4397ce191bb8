-- Trees printed one after another, however their symbols are written.
use Rattle.std.proofs.Common.{◌≡◌, ℕ, ◌+◌, ◌<◌, ◌≤◌, List, [], ◌∷◌, ◌++◌, length, get_or, drop, refl, ap, sym, ◌∙◌, subst, arith, append-nil, append_assoc, zero, suc}
use Rattle.std.specs.Prelude.{Result, Ok, Err}
use Rattle.std.specs.List.{All}
use Rattle.std.proofs.lemmas.List.{length-append, length-map, length-drop, drop-drop}
use Rattle.std.proofs.Math.Seq.{drop-append_seam, drop-cons}
use Rattle.tib_lex.specs.Lists.{Each}
use Rattle.tib_tree.specs.Trees.{Tree, Trees, none, tree, only, preorder, preorder_of, count}
use Rattle.tib_io.specs.declared.files.Failed.{Failed}
use Rattle.tib_grammar.specs.Sides.{Symbol}
use Rattle.tib_grammar.specs.Items.{pair_of, pairs_of}
use Rattle.tib_grammar.specs.declared.Item.{Item}
use Rattle.tib_grammar.specs.declared.Item.TheVariants.{Label, Hole}
use Rattle.tib_io.specs.Writes.{SinkSeen}
use Rattle.tib_io.specs.Wrote.{Wrote}
use Rattle.tib_grammar_file.specs.TreeText.{space, opening, closing, trees_text, IsWithin, IsSymbolWithin}
use Rattle.tib_grammar_file.proofs.Common.{cons_same}
use Rattle.tib_grammar_file.proofs.Printing.{prints_nothing, prints_as, seq, cut}

-- the node at a place of a preorder
pub record Here {P : Type 0} (items : List (Item P)) (next : ℕ) (left : Trees (Symbol ℕ P)) (ys : List (Symbol ℕ P × ℕ)) (item : Item P) : Type 0 where
  pub symbol : Symbol ℕ P
  pub kids : Trees (Symbol ℕ P)
  pub rest : Trees (Symbol ℕ P)
  pub is : left ≡ tree symbol kids rest
  pub pair : pair_of item ≡ (symbol, count kids)
  pub behind : pairs_of (drop (next + 1) items) ≡ preorder kids ++ (preorder rest ++ ys)
  pub after : pairs_of (drop (next + 1 + length (preorder kids)) items) ≡ preorder rest ++ ys

within_by : {P : Type 0} (items : List (Item P)) (next n : ℕ) (ps : List (Symbol ℕ P × ℕ)) → pairs_of (drop next items) ≡ ps → 0 < length ps → next < length items
within_by items next n ps e h = omega (arith, ap length e, length-map (drop next items) pair_of, length-drop next items)

pub in_items : {P : Type 0} (items : List (Item P)) (next : ℕ) (left : Trees (Symbol ℕ P)) (ys : List (Symbol ℕ P × ℕ)) → pairs_of (drop next items) ≡ preorder left ++ ys → 0 < count left → next < length items
in_items items next none ys e h = absurd (omega arith)
in_items items next (tree s kids rest) ys e h = within_by items next 0 _ e (omega arith)

pub here : {P : Type 0} (items : List (Item P)) (next : ℕ) (left : Trees (Symbol ℕ P)) (ys : List (Symbol ℕ P × ℕ)) (item : Item P) → next < length items → item ≡ get_or items next item → pairs_of (drop next items) ≡ preorder left ++ ys → 0 < count left → Here items next left ys item
here {P} items next none ys item w i e h = absurd (omega arith)
here {P} items next (tree s kids rest) ys item w i e h =
    let cons : drop next items ≡ get_or items next item ∷ drop (suc next) items = drop-cons items next item w in
    let m : suc next ≡ next + 1 = omega arith in
    let f = cons_same (pair_of (get_or items next item)) (s, count kids) (pairs_of (drop (suc next) items)) ((preorder kids ++ preorder rest) ++ ys) (sym (ap pairs_of cons) ∙ e) in
    let b : pairs_of (drop (next + 1) items) ≡ preorder kids ++ (preorder rest ++ ys) = ap (λ (k : ℕ). pairs_of (drop k items)) (sym m) ∙ f.1 ∙ append_assoc (preorder kids) (preorder rest) ys in
    record {
      symbol = s;
      kids = kids;
      rest = rest;
      is = refl;
      pair = ap pair_of i ∙ f.0;
      behind = b;
      after = ap pairs_of (sym (drop-drop (length (preorder kids)) (next + 1) items))
          ∙ sym (drop-map-pairs (length (preorder kids)) (drop (next + 1) items))
          ∙ ap (drop (length (preorder kids))) b
          ∙ drop-append_seam (preorder kids) (preorder rest ++ ys);
    }
  where
    drop-map-pairs : (n : ℕ) (xs : List (Item P)) → drop n (pairs_of xs) ≡ pairs_of (drop n xs)
    drop-map-pairs zero xs = refl
    drop-map-pairs (suc n) [] = refl
    drop-map-pairs (suc n) (x ∷ xs) = drop-map-pairs n xs

-- some trees were printed, and others are left
pub record Half {X P : Type 0} (seen : X → SinkSeen) (old now : X) (show : Symbol ℕ P → List ℕ) (items : List (Item P)) (ts : Trees (Symbol ℕ P)) (ys : List (Symbol ℕ P × ℕ)) (at k many next : ℕ) : Type 0 where
  pub left : Trees (Symbol ℕ P)
  pub behind : pairs_of (drop next items) ≡ preorder left ++ ys
  pub sum : k + count left ≡ many
  pub place : next + length (preorder left) ≡ at + length (preorder ts)
  pub done : List ℕ
  pub text : done ++ trees_text show left k ≡ trees_text show ts 0
  pub prints : let r : Result (Unit {0}) Failed = Ok tt in Wrote (seen old) (seen now) done r

pub half_none : {X P : Type 0} (seen : X → SinkSeen) (a : X) (show : Symbol ℕ P → List ℕ) (items : List (Item P)) (ts : Trees (Symbol ℕ P)) (ys : List (Symbol ℕ P × ℕ)) (at many : ℕ) → pairs_of (drop at items) ≡ preorder ts ++ ys → count ts ≡ many → Half seen a a show items ts ys at 0 many at
half_none seen a show items ts ys at many e c = record {
  left = ts;
  behind = e;
  sum = omega (arith, c);
  place = refl;
  done = [];
  text = refl;
  prints = prints_nothing (Unit {0}) Failed (seen a) tt;
}

-- the text up to the next tree's children, up to their end, and up to the end of the tree
unfold_text : {P : Type 0} (show : Symbol ℕ P → List ℕ) (s : Symbol ℕ P) (kids rest : Trees (Symbol ℕ P)) (k : ℕ) → trees_text show (tree s kids rest) k ≡ ((space k ++ show s) ++ opening (count kids)) ++ (trees_text show kids 0 ++ (closing (count kids) ++ trees_text show rest (suc k)))
unfold_text show s kids rest k =
    let a : List ℕ = space k in
    let b : List ℕ = show s in
    let c : List ℕ = opening (count kids) in
    let d : List ℕ = trees_text show kids 0 ++ (closing (count kids) ++ trees_text show rest (suc k)) in
    sym (append_assoc (a ++ b) c d ∙ append_assoc a b (c ++ d))

module _ {X P : Type 0} (seen : X → SinkSeen) (show : Symbol ℕ P → List ℕ) (items : List (Item P)) (ts : Trees (Symbol ℕ P)) (ys : List (Symbol ℕ P × ℕ)) (at k many next : ℕ) (item : Item P) (old now : X) where
  -- how the text goes on at the next tree
  pub parts : (half : Half seen old now show items ts ys at k many next) → (h : Here items next half.left ys item) → half.done ++ (((space k ++ show (pair_of item).0) ++ opening (pair_of item).1) ++ (trees_text show h.kids 0 ++ (closing (pair_of item).1 ++ trees_text show h.rest (k + 1)))) ≡ trees_text show ts 0
  parts half h =
      let m : k + 1 ≡ suc k = omega arith in
      ap (λ (p : Symbol ℕ P × ℕ). half.done ++ (((space k ++ show p.0) ++ opening p.1) ++ (trees_text show h.kids 0 ++ (closing p.1 ++ trees_text show h.rest (k + 1))))) h.pair
      ∙ ap (λ (i : ℕ). half.done ++ (((space k ++ show h.symbol) ++ opening (count h.kids)) ++ (trees_text show h.kids 0 ++ (closing (count h.kids) ++ trees_text show h.rest i)))) m
      ∙ ap (λ (t : List ℕ). half.done ++ t) (sym (unfold_text show h.symbol h.kids h.rest k) ∙ sym (ap (λ (l : Trees (Symbol ℕ P)). trees_text show l k) h.is))
      ∙ half.text

  pub head_failed : (T : Type 0) (x : X) (half : Half seen old now show items ts ys at k many next) → Here items next half.left ys item → (e : Failed) → (let r : Result (Unit {0}) Failed = Err e in Wrote (seen now) (seen x) ((space k ++ show (pair_of item).0) ++ opening (pair_of item).1) r) → (let r : Result T Failed = Err e in Wrote (seen old) (seen x) (trees_text show ts 0) r)
  head_failed T x half h e p =
      let head : List ℕ = (space k ++ show (pair_of item).0) ++ opening (pair_of item).1 in
      let more : List ℕ = trees_text show h.kids 0 ++ (closing (pair_of item).1 ++ trees_text show h.rest (k + 1)) in
      cut (Unit {0}) T Failed seen old x (half.done ++ head) more (trees_text show ts 0) e (append_assoc half.done head more ∙ parts half h)
      (seq (Unit {0}) (Unit {0}) Failed seen old now x half.done head (half.done ++ head) tt (Err e) refl half.prints p)

  -- the head of the next tree was printed
  pub headed : (x : X) (half : Half seen old now show items ts ys at k many next) → Here items next half.left ys item → (let r : Result (Unit {0}) Failed = Ok tt in Wrote (seen now) (seen x) ((space k ++ show (pair_of item).0) ++ opening (pair_of item).1) r) → (let r : Result (Unit {0}) Failed = Ok tt in Wrote (seen old) (seen x) (half.done ++ ((space k ++ show (pair_of item).0) ++ opening (pair_of item).1)) r)
  headed x half h p =
      let head : List ℕ = (space k ++ show (pair_of item).0) ++ opening (pair_of item).1 in
      seq (Unit {0}) (Unit {0}) Failed seen old now x half.done head (half.done ++ head) tt (Ok tt) refl half.prints p

  kids_text : (half : Half seen old now show items ts ys at k many next) → (h : Here items next half.left ys item) → ((half.done ++ ((space k ++ show (pair_of item).0) ++ opening (pair_of item).1)) ++ trees_text show h.kids 0) ++ (closing (pair_of item).1 ++ trees_text show h.rest (k + 1)) ≡ trees_text show ts 0
  kids_text half h =
      let head : List ℕ = (space k ++ show (pair_of item).0) ++ opening (pair_of item).1 in
      let kids : List ℕ = trees_text show h.kids 0 in
      let more : List ℕ = closing (pair_of item).1 ++ trees_text show h.rest (k + 1) in
      append_assoc (half.done ++ head) kids more ∙ append_assoc half.done head (kids ++ more) ∙ parts half h

  pub kids_failed : (T : Type 0) (x y : X) (half : Half seen old now show items ts ys at k many next) → (h : Here items next half.left ys item) → (e : Failed) → (let r : Result (Unit {0}) Failed = Ok tt in Wrote (seen now) (seen x) ((space k ++ show (pair_of item).0) ++ opening (pair_of item).1) r) → (let r : Result T Failed = Err e in Wrote (seen x) (seen y) (trees_text show h.kids 0) r) → (let r : Result T Failed = Err e in Wrote (seen old) (seen y) (trees_text show ts 0) r)
  kids_failed T x y half h e p q =
      let done : List ℕ = half.done ++ ((space k ++ show (pair_of item).0) ++ opening (pair_of item).1) in
      let kids : List ℕ = trees_text show h.kids 0 in
      cut T T Failed seen old y (done ++ kids) (closing (pair_of item).1 ++ trees_text show h.rest (k + 1)) (trees_text show ts 0) e (kids_text half h)
      (seq (Unit {0}) T Failed seen old x y done kids (done ++ kids) tt (Err e) refl (headed x half h p) q)

  closed_text : (half : Half seen old now show items ts ys at k many next) → (h : Here items next half.left ys item) → (((half.done ++ ((space k ++ show (pair_of item).0) ++ opening (pair_of item).1)) ++ trees_text show h.kids 0) ++ closing (pair_of item).1) ++ trees_text show h.rest (k + 1) ≡ trees_text show ts 0
  closed_text half h = append_assoc ((half.done ++ ((space k ++ show (pair_of item).0) ++ opening (pair_of item).1)) ++ trees_text show h.kids 0) (closing (pair_of item).1) (trees_text show h.rest (k + 1)) ∙ kids_text half h

  pub closed : (T U : Type 0) (x y z : X) (t : T) (r : Result U Failed) (half : Half seen old now show items ts ys at k many next) → (h : Here items next half.left ys item) → (let r : Result (Unit {0}) Failed = Ok tt in Wrote (seen now) (seen x) ((space k ++ show (pair_of item).0) ++ opening (pair_of item).1) r) → (let r : Result T Failed = Ok t in Wrote (seen x) (seen y) (trees_text show h.kids 0) r) → Wrote (seen y) (seen z) (closing (pair_of item).1) r → Wrote (seen old) (seen z) (((half.done ++ ((space k ++ show (pair_of item).0) ++ opening (pair_of item).1)) ++ trees_text show h.kids 0) ++ closing (pair_of item).1) r
  closed T U x y z t r half h p q s =
      let done : List ℕ = half.done ++ ((space k ++ show (pair_of item).0) ++ opening (pair_of item).1) in
      let kids : List ℕ = trees_text show h.kids 0 in
      seq T U Failed seen old y z (done ++ kids) (closing (pair_of item).1) ((done ++ kids) ++ closing (pair_of item).1) t r refl
      (seq (Unit {0}) T Failed seen old x y done kids (done ++ kids) tt (Ok t) refl (headed x half h p) q) s

  pub close_failed : (T U : Type 0) (x y z : X) (t : T) (e : Failed) (half : Half seen old now show items ts ys at k many next) → (h : Here items next half.left ys item) → (let r : Result (Unit {0}) Failed = Ok tt in Wrote (seen now) (seen x) ((space k ++ show (pair_of item).0) ++ opening (pair_of item).1) r) → (let r : Result T Failed = Ok t in Wrote (seen x) (seen y) (trees_text show h.kids 0) r) → (let r : Result (Unit {0}) Failed = Err e in Wrote (seen y) (seen z) (closing (pair_of item).1) r) → (let r : Result U Failed = Err e in Wrote (seen old) (seen z) (trees_text show ts 0) r)
  close_failed T U x y z t e half h p q s =
      let all : List ℕ = ((half.done ++ ((space k ++ show (pair_of item).0) ++ opening (pair_of item).1)) ++ trees_text show h.kids 0) ++ closing (pair_of item).1 in
      cut (Unit {0}) U Failed seen old z all (trees_text show h.rest (k + 1)) (trees_text show ts 0) e (closed_text half h)
      (closed T (Unit {0}) x y z t (Err e) half h p q s)

  pub one_more : (T : Type 0) (x y z : X) (t : T) (behind : ℕ) (half : Half seen old now show items ts ys at k many next) → (h : Here items next half.left ys item) → behind ≡ next + 1 + length (preorder h.kids) → (let r : Result (Unit {0}) Failed = Ok tt in Wrote (seen now) (seen x) ((space k ++ show (pair_of item).0) ++ opening (pair_of item).1) r) → (let r : Result T Failed = Ok t in Wrote (seen x) (seen y) (trees_text show h.kids 0) r) → (let r : Result (Unit {0}) Failed = Ok tt in Wrote (seen y) (seen z) (closing (pair_of item).1) r) → Half seen old z show items ts ys at (k + 1) many behind
  one_more T x y z t behind half h e p q s =
      let long : length (preorder half.left) ≡ suc (length (preorder h.kids ++ preorder h.rest)) = ap (λ (l : Trees (Symbol ℕ P)). length (preorder l)) h.is in
      let size : count half.left ≡ suc (count h.rest) = ap count h.is in
      record {
        left = h.rest;
        behind = ap (λ (m : ℕ). pairs_of (drop m items)) e ∙ h.after;
        sum = omega (arith, half.sum, size);
        place = omega (arith, e, half.place, long, length-append (preorder h.kids) (preorder h.rest));
        done = ((half.done ++ ((space k ++ show (pair_of item).0) ++ opening (pair_of item).1)) ++ trees_text show h.kids 0) ++ closing (pair_of item).1;
        text = closed_text half h;
        prints = closed T (Unit {0}) x y z t (Ok tt) half h p q s;
      }

-- there is a next tree
pub next_in : {X P : Type 0} (seen : X → SinkSeen) (old now : X) (show : Symbol ℕ P → List ℕ) (items : List (Item P)) (ts : Trees (Symbol ℕ P)) (ys : List (Symbol ℕ P × ℕ)) (at k many next : ℕ) → k < many → Half seen old now show items ts ys at k many next → next < length items
next_in seen old now show items ts ys at k many next h half = in_items items next half.left ys half.behind (omega (arith, half.sum))

pub next_here : {X P : Type 0} (seen : X → SinkSeen) (old now : X) (show : Symbol ℕ P → List ℕ) (items : List (Item P)) (ts : Trees (Symbol ℕ P)) (ys : List (Symbol ℕ P × ℕ)) (at k many next : ℕ) (item : Item P) → item ≡ get_or items next item → k < many → (half : Half seen old now show items ts ys at k many next) → Here items next half.left ys item
next_here seen old now show items ts ys at k many next item e h half =
    here items next half.left ys item (next_in seen old now show items ts ys at k many next h half) e half.behind (omega (arith, half.sum))

-- all trees were printed
pub all_placed : {X P : Type 0} (seen : X → SinkSeen) (old now : X) (show : Symbol ℕ P → List ℕ) (items : List (Item P)) (ts : Trees (Symbol ℕ P)) (ys : List (Symbol ℕ P × ℕ)) (at k many next : ℕ) → many ≤ k → Half seen old now show items ts ys at k many next → next ≡ at + length (preorder ts)
all_placed {X} {P} seen old now show items ts ys at k many next h half = by half.left (omega (arith, half.sum)) half.place
  where
    by : (left : Trees (Symbol ℕ P)) → count left ≡ 0 → next + length (preorder left) ≡ at + length (preorder ts) → next ≡ at + length (preorder ts)
    by none c p = omega (arith, p)
    by (tree s kids rest) c p = absurd (omega (arith, c))

pub all_printed : {X P : Type 0} (T : Type 0) (seen : X → SinkSeen) (old now : X) (show : Symbol ℕ P → List ℕ) (items : List (Item P)) (ts : Trees (Symbol ℕ P)) (ys : List (Symbol ℕ P × ℕ)) (at k many next : ℕ) (t : T) → many ≤ k → Half seen old now show items ts ys at k many next → (let r : Result T Failed = Ok t in Wrote (seen old) (seen now) (trees_text show ts 0) r)
all_printed {X} {P} T seen old now show items ts ys at k many next t h half =
    prints_as (Unit {0}) T Failed (seen old) (seen now) half.done (trees_text show ts 0) tt t (by half.left (omega (arith, half.sum)) half.text) half.prints
  where
    by : (left : Trees (Symbol ℕ P)) → count left ≡ 0 → half.done ++ trees_text show left k ≡ trees_text show ts 0 → half.done ≡ trees_text show ts 0
    by none c p = sym (append-nil half.done) ∙ p
    by (tree s kids rest) c p = absurd (omega (arith, c))

pub rank_is : {P : Type 0} {rank : ℕ} {p q : Symbol ℕ P × ℕ} → rank ≡ p.1 → p ≡ q → q.1 ≡ rank
rank_is {P} {rank} {p} {q} e same = sym (e ∙ ap (λ (x : Symbol ℕ P × ℕ). x.1) same)

pub closing_as : {T E : Type 0} {a c : SinkSeen} {m k : ℕ} {r : Result T E} → m ≡ k → Wrote a c (closing m) r → Wrote a c (closing k) r
closing_as {T} {E} {a} {c} {m} {k} {r} e p = subst (λ (i : ℕ). Wrote a c (closing i) r) e p

-- the place after a tree is in the list, and it goes on
pub behind_within : {P : Type 0} (items : List (Item P)) (next behind : ℕ) (left : Trees (Symbol ℕ P)) (ys : List (Symbol ℕ P × ℕ)) (item : Item P) → next < length items → (h : Here items next left ys item) → behind ≡ next + 1 + length (preorder h.kids) → (behind ≤ length items) × (next < behind)
behind_within items next behind left ys item w h e =
    (omega (arith, e, w, ap length h.behind, length-map (drop (next + 1) items) pair_of, length-drop (next + 1) items, length-append (preorder h.kids) (preorder h.rest ++ ys)), omega (arith, e))

-- the items of a side whose symbols have texts
within_item : {P : Type 0} (leaf : P → Type 0) (n : ℕ) (item : Item P) (p : Symbol ℕ P × ℕ) → pair_of item ≡ p → IsSymbolWithin leaf n p.0 → IsWithin leaf n item
within_item leaf n (Label f rank) p e h = subst (λ (q : Symbol ℕ _ × ℕ). IsSymbolWithin leaf n q.0) (sym e) h
within_item leaf n (Hole q) p e h = subst (λ (q : Symbol ℕ _ × ℕ). IsSymbolWithin leaf n q.0) (sym e) h

pub items_within : {P : Type 0} (leaf : P → Type 0) (n : ℕ) (items : List (Item P)) (ps : List (Symbol ℕ P × ℕ)) → pairs_of items ≡ ps → Each (λ p. IsSymbolWithin leaf n p.0) ps → All (IsWithin leaf n) items
items_within leaf n [] ps e h k d lt = absurd (omega arith)
items_within leaf n (i ∷ items) [] e h k d lt = let bad : pairs_of (i ∷ items) ≡ [] = e in absurd (omega (arith, ap length bad))
items_within leaf n (i ∷ items) (p ∷ ps) e h zero d lt = within_item leaf n i p (cons_same (pair_of i) p (pairs_of items) ps e).0 h.0
items_within leaf n (i ∷ items) (p ∷ ps) e h (suc k) d lt = items_within leaf n items ps (cons_same (pair_of i) p (pairs_of items) ps e).1 h.1 k d (omega arith)

pub side_trees : {P : Type 0} (items : List (Item P)) (s : Tree (Symbol ℕ P)) → pairs_of items ≡ preorder_of s → pairs_of items ≡ preorder (only s) ++ []
side_trees items s e = e ∙ sym (append-nil (preorder (only s)) ∙ ap (λ (xs : List (Symbol ℕ _ × ℕ)). (s.label, count s.kids) ∷ xs) (append-nil (preorder s.kids)))
