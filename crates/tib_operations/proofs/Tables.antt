-- A file that was read over one table of labels is read over each other one that has its labels, by
-- other numbers.
use Rattle.tib_cost.specs.declared.Scale.{Scale}
use Rattle.std.proofs.Common.{◌≡◌, ℕ, ◌⊎◌, Bool, true, false, List, [], ◌∷◌, ◌++◌, length, map, refl, ap, ◌∙◌, subst, arith, suc, zero, inl, inr, Option, Contains}
use Rattle.std.specs.Prelude.{Some, None, slice_get}
use Rattle.std.specs.Bool.{Decides}
use Rattle.std.specs.Str.{bytes_eq}
use Rattle.std.proofs.lemmas.Option.{slice_get-get_or}
use Rattle.std.proofs.lemmas.List.{length-append}
use Rattle.std.proofs.lemmas.Slice.Eq.{bytes_eq-Decides}
use Rattle.tib_lex.specs.Grammar.{Word}
use Rattle.tib_lex.specs.Lines.{lines_of}
use Rattle.tib_lex.specs.Lists.{Along, Each}
use Rattle.tib_tree.specs.Grows.{Grows, AreDistinct}
use Rattle.tib_tree.specs.Meaning.{Says, IsTreeLine}
use Rattle.tib_tree.specs.Trees.{Tree, Trees, none, tree, only, count, preorder, sizes, relabel, relabel_tree}
use Rattle.tib_tree.specs.TreesText.{HasTrees, IsSmall}
use Rattle.tib_tree.specs.Written.{Written, end, leaf, head}
use Rattle.tib_tree.proofs.Growing.{grows_not, grows_twice, grows_more, distinct_added}
use Rattle.tib_grammar.specs.Sides.{Symbol, label, hole, Side}
use Rattle.tib_grammar.specs.GrammarOf.{GrammarOf}
use Rattle.tib_grammar.specs.declared.Rule.{Rule}
use Rattle.tib_grammar_file.specs.GrammarText.{Means, SpellsRuleOf, AreSmallRules}
use Rattle.tib_grammar_file.specs.Read.{ReadsAs}
use Rattle.tib_grammar_file.proofs.Relabelled.{symbol_with, trees_with, rule_with, rules_with}
use Rattle.tib_canon.proofs.TrimmedByText.{grammar_with}
use Rattle.tib_operations.specs.FileTexts.{ListsTrees}
use Rattle.tib_lex.proofs.Lists.{some_same}
pub use Rattle.tib_transducer_file.proofs.OneByText.{none_distinct}

-- a table has no text twice where one that it grew to has none
pub early_distinct : (early labels : List (List ℕ)) → Grows early labels → AreDistinct labels → AreDistinct early
early_distinct early labels grows d = record { once = λ m n text e f. d.once m n text (grows.kept m text e) (grows.kept n text f) }

-- a text that has a number in a table
abbrev pub IsThere : List (List ℕ) → List ℕ → Type 0
IsThere table text = (k : ℕ) × (slice_get table k ≡ Some text)

there_or_not : (table : List (List ℕ)) (text : List ℕ) → IsThere table text ⊎ (IsThere table text → ⊥)
there_or_not [] text = inr (λ t. absurd (cc))
there_or_not (x ∷ table) text = by (bytes_eq x text) (bytes_eq-Decides x text) (there_or_not table text)
  where
    by : (b : Bool) → Decides b (x ≡ text) → IsThere table text ⊎ (IsThere table text → ⊥) → IsThere (x ∷ table) text ⊎ (IsThere (x ∷ table) text → ⊥)
    by true d more = inl (0, ap (λ (y : List ℕ). Some y) (d.0 refl))
    by false d (inl t) = inl (suc t.0, t.1)
    by false d (inr no_more) = inr (λ t. at t.0 t.1)
      where
        at : (k : ℕ) → slice_get (x ∷ table) k ≡ Some text → ⊥
        at zero e = (let bad : false ≡ true = d.1 (some_same x text e) in absurd (cc))
        at (suc k) e = no_more (k, e)

last_there : (table : List (List ℕ)) (text : List ℕ) → slice_get (table ++ text ∷ []) (length table) ≡ Some text
last_there [] text = refl
last_there (x ∷ table) text = last_there table text

-- a table to which another has grown, that has some texts
pub record HasGrown (early texts now : List (List ℕ)) : Type 0 where
  pub grows : Grows early now
  pub distinct : AreDistinct early → AreDistinct now
  pub has : (i : ℕ) (text : List ℕ) → slice_get texts i ≡ Some text → IsThere now text

contained : (table : List (List ℕ)) (text : List ℕ) → Contains table text → IsThere table text
contained table text c = (c.0, slice_get-get_or table c.0 text c.1 ∙ ap (λ (y : List ℕ). Some y) c.2)

one_more : (early : List (List ℕ)) (text : List ℕ) → (now : List (List ℕ)) × HasGrown early (text ∷ []) now
one_more early text = by (there_or_not early text)
  where
    only_one : (now : List (List ℕ)) → IsThere now text → (i : ℕ) (t : List ℕ) → slice_get (text ∷ []) i ≡ Some t → IsThere now t
    only_one now there zero t e = subst (IsThere now) (some_same text t e) there
    only_one now there (suc i) t e = absurd (cc)

    by : IsThere early text ⊎ (IsThere early text → ⊥) → (now : List (List ℕ)) × HasGrown early (text ∷ []) now
    by (inl t) = (early, record { grows = grows_not early early refl; distinct = λ d. d; has = only_one early t })
    by (inr no_text) = (
      early ++ text ∷ [],
      record {
        grows = grows_more early (early ++ text ∷ []) (text ∷ []) refl;
        distinct = λ d. distinct_added early (early ++ text ∷ []) text d (λ c. no_text (contained early text c)) refl;
        has = only_one (early ++ text ∷ []) (length early, last_there early text);
      },
    )

pub all_more : (early texts : List (List ℕ)) → (now : List (List ℕ)) × HasGrown early texts now
all_more early [] = (early, record { grows = grows_not early early refl; distinct = λ d. d; has = λ i text e. absurd (cc) })
all_more early (x ∷ texts) =
    let m = one_more early x in
    let o = all_more m.0 texts in (
      o.0,
      record {
        grows = grows_twice early m.0 o.0 m.1.grows o.1.grows;
        distinct = λ d. o.1.distinct (m.1.distinct d);
        has = λ i text e. at m.0 o.0 o.1 (m.1.has 0 x refl) i text e;
      },
    )
  where
    at : (middle now : List (List ℕ)) → HasGrown middle texts now → IsThere middle x → (i : ℕ) (text : List ℕ) → slice_get (x ∷ texts) i ≡ Some text → IsThere now text
    at middle now h there zero text e = subst (IsThere now) (some_same x text e) (there.0, h.grows.kept there.0 x there.1)
    at middle now h there (suc i) text e = h.has i text e

-- a number for each label, by its text
module _ (texts now : List (List ℕ)) (has : (i : ℕ) (text : List ℕ) → slice_get texts i ≡ Some text → IsThere now text) where
  pub number : (i : ℕ) (o : Option (List ℕ)) → slice_get texts i ≡ o → ℕ
  number i None e = 0
  number i (Some text) e = (has i text e).0

  abbrev pub moved : ℕ → ℕ
  moved i = number i (slice_get texts i) refl

  number_is : (i : ℕ) (o : Option (List ℕ)) (e : slice_get texts i ≡ o) (text : List ℕ) → o ≡ Some text → slice_get now (number i o e) ≡ Some text
  unfolding number
  number_is i None e text s = absurd (cc)
  number_is i (Some t) e text s = (has i t e).1 ∙ s

  pub moves : (i : ℕ) (text : List ℕ) → slice_get texts i ≡ Some text → slice_get now (moved i) ≡ Some text
  moves i text e = number_is i (slice_get texts i) refl text e

-- a text over the other numbers
module _ (labels others : List (List ℕ)) (f : ℕ → ℕ) (moves : (i : ℕ) (text : List ℕ) → slice_get labels i ≡ Some text → slice_get others (f i) ≡ Some text) where
  means_with : (names : List (List ℕ)) (ts : Trees (Symbol ℕ ℕ)) (w : Written) → Means names labels ts w → Means names others (trees_with f ts) w
  means_with names none end m = tt
  means_with names none (leaf quoted text more) m = absurd m
  means_with names none (head quoted text below more) m = absurd m
  means_with names (tree s kids rest) end m = absurd m
  means_with names (tree (label i) kids rest) (leaf quoted text more) m = ((m.0.0, moves i text m.0.1), ap (trees_with f) m.1, means_with names rest more m.2)
  means_with names (tree (hole q) kids rest) (leaf quoted text more) m = (m.0, ap (trees_with f) m.1, means_with names rest more m.2)
  means_with names (tree (label i) kids rest) (head quoted text below more) m = (moves i text m.0, means_with names kids below m.1, means_with names rest more m.2)
  means_with names (tree (hole q) kids rest) (head quoted text below more) m = absurd m.0

  rows_with :
      (scale : Scale) (names : List (List ℕ)) (rows : List (List Word)) (rules : List (Rule ℕ)) → Along (SpellsRuleOf scale names labels) rows rules →
      Along (SpellsRuleOf scale names others) rows (rules_with f rules)
  rows_with scale names [] [] a = tt
  rows_with scale names [] (r ∷ rules) a = absurd a
  rows_with scale names (row ∷ rows) [] a = absurd a
  rows_with scale names (row ∷ rows) (r ∷ rules) a = (
    record {
      left = a.0.left;
      right = a.0.right;
      weight = a.0.weight;
      words_are = a.0.words_are;
      plain = a.0.plain;
      left_is = a.0.left_is;
      right_is = means_with names (only r.right) a.0.right a.0.right_is;
      cost_is = a.0.cost_is;
    },
    rows_with scale names rows rules a.1,
  )

  reads_with : (scale : Scale) (bytes : List ℕ) (g : GrammarOf) → ReadsAs scale labels bytes g → ReadsAs scale others bytes (grammar_with f g)
  reads_with scale bytes g r = record {
    text = record {
      lines = r.text.lines;
      start = r.text.start;
      rows = r.text.rows;
      lines_are = r.text.lines_are;
      tokens = r.text.tokens;
      plain = r.text.plain;
      states = r.text.states;
      rules = rows_with scale g.names r.text.rows g.rules r.text.rules;
    };
    small = small_with g.rules r.small;
  }
    where
      count_with : (ts : Trees (Symbol ℕ ℕ)) → count (trees_with f ts) ≡ count ts
      count_with none = refl
      count_with (tree s kids rest) = ap suc (count_with rest)

      as_long : (ts : Trees (Symbol ℕ ℕ)) → length (preorder (trees_with f ts)) ≡ length (preorder ts)
      as_long none = refl
      as_long (tree s kids rest) =
          omega (arith, length-append (preorder (trees_with f kids)) (preorder (trees_with f rest)), length-append (preorder kids) (preorder rest), as_long kids, as_long rest)

      small_with : (rules : List (Rule ℕ)) → AreSmallRules rules → AreSmallRules (rules_with f rules)
      small_with [] s = tt
      small_with (x ∷ rules) s = (omega (arith, s.0, as_long x.right.kids), small_with rules s.1)

-- a grammar of the bytes over a table to which another has grown
pub record IsReadOver (scale : Scale) (early : List (List ℕ)) (bytes : List ℕ) : Type 0 where
  pub labels : List (List ℕ)
  pub g : GrammarOf
  pub grows : Grows early labels
  pub distinct : AreDistinct early → AreDistinct labels
  pub reads : ReadsAs scale labels bytes g

pub read_over : (scale : Scale) (early labels : List (List ℕ)) (bytes : List ℕ) (g : GrammarOf) → ReadsAs scale labels bytes g → IsReadOver scale early bytes
read_over scale early labels bytes g r =
    let o = all_more early labels in
    record {
      labels = o.0;
      g = grammar_with (moved labels o.0 o.1.has) g;
      grows = o.1.grows;
      distinct = o.1.distinct;
      reads = reads_with labels o.0 (moved labels o.0 o.1.has) (moves labels o.0 o.1.has) scale bytes g r;
    }

pub sizes_kept : {A B : Type 0} (f : A → B) (ts : Trees A) → sizes (relabel f ts) ≡ sizes ts
sizes_kept f none = refl
sizes_kept f (tree s kids rest) = omega (arith, sizes_kept f kids, sizes_kept f rest)

-- trees over the other numbers
module _ (labels others : List (List ℕ)) (f : ℕ → ℕ) (moves : (i : ℕ) (text : List ℕ) → slice_get labels i ≡ Some text → slice_get others (f i) ≡ Some text) where
  says_with : (w : Written) (ts : Trees ℕ) → Says labels w ts → Says others w (relabel f ts)
  says_with end none s = tt
  says_with end (tree g kids rest) s = absurd s
  says_with (leaf quoted text more) none s = absurd s
  says_with (leaf quoted text more) (tree g none rest) s = (moves g text s.0, says_with more rest s.1)
  says_with (leaf quoted text more) (tree g (tree h below behind) rest) s = absurd s
  says_with (head quoted text below more) none s = absurd s
  says_with (head quoted text below more) (tree g kids rest) s = (moves g text s.0, says_with below kids s.1, says_with more rest s.2)

  line_with : (line : List ℕ) (t : Tree ℕ) → IsTreeLine labels line t → IsTreeLine others line (relabel_tree f t)
  line_with line t l = record {
    words = l.words;
    has = l.has;
    spells = record { written = l.spells.written; spelled = l.spells.spelled; says = says_with l.spells.written (only t) l.spells.says };
  }

  lines_with : (lines : List (List ℕ)) (ts : List (Tree ℕ)) → HasTrees labels lines ts → HasTrees others lines (map (relabel_tree f) ts)
  lines_with [] ts h = ap (map (relabel_tree f)) h
  lines_with (line ∷ lines) ts (inl h) = inl (h.0, lines_with lines ts h.1)
  lines_with (line ∷ lines) ts (inr h) = inr (relabel_tree f h.0, map (relabel_tree f) h.1, ap (map (relabel_tree f)) h.2, line_with line h.0 h.3, lines_with lines h.1 h.4)

  small_with : (ts : List (Tree ℕ)) → Each IsSmall ts → Each IsSmall (map (relabel_tree f) ts)
  small_with [] e = tt
  small_with (t ∷ ts) e = (omega (arith, e.0, sizes_kept f t.kids), small_with ts e.1)

-- the trees of the bytes over a table to which another has grown
pub record ListsOver (early : List (List ℕ)) (bytes : List ℕ) : Type 0 where
  pub labels : List (List ℕ)
  pub trees : List (Tree ℕ)
  pub grows : Grows early labels
  pub distinct : AreDistinct early → AreDistinct labels
  pub listed : ListsTrees labels trees bytes

pub lists_over : (early labels : List (List ℕ)) (bytes : List ℕ) (ts : List (Tree ℕ)) → ListsTrees labels ts bytes → ListsOver early bytes
lists_over early labels bytes ts l =
    let o = all_more early labels in
    let f : ℕ → ℕ = moved labels o.0 o.1.has in
    let m = moves labels o.0 o.1.has in
    record {
      labels = o.0;
      trees = map (relabel_tree f) ts;
      grows = o.1.grows;
      distinct = o.1.distinct;
      listed = (l.0, lines_with labels o.0 f m (lines_of bytes) ts l.1, small_with labels o.0 f m ts l.2);
    }

-- what was read over a table is read over each to which it has grown

symbol_itself : (s : Symbol ℕ ℕ) → symbol_with (λ i. i) s ≡ s
symbol_itself (label i) = refl
symbol_itself (hole q) = refl

relabel_itself : {A : Type 0} (f : A → A) → ((x : A) → f x ≡ x) → (ts : Trees A) → relabel f ts ≡ ts
relabel_itself f same none = refl
relabel_itself {A} f same (tree s kids rest) =
    ap (λ (x : A). tree x (relabel f kids) (relabel f rest)) (same s)
    ∙ ap (λ (x : Trees A). tree s x (relabel f rest)) (relabel_itself f same kids)
    ∙ ap (λ (x : Trees A). tree s kids x) (relabel_itself f same rest)

pub tree_itself : {A : Type 0} (f : A → A) → ((x : A) → f x ≡ x) → (t : Tree A) → relabel_tree f t ≡ t
tree_itself {A} f same t =
    ap (λ (x : A). record { label = x; kids = relabel f t.kids }) (same t.label) ∙ ap (λ (x : Trees A). record { label = t.label; kids = x }) (relabel_itself f same t.kids)

pub all_itself : {A : Type 0} (f : A → A) → ((x : A) → f x ≡ x) → (xs : List A) → map f xs ≡ xs
all_itself f same [] = refl
all_itself {A} f same (x ∷ xs) = ap (λ (y : A). y ∷ map f xs) (same x) ∙ ap (λ (ys : List A). x ∷ ys) (all_itself f same xs)

pub rules_itself : (rules : List (Rule ℕ)) → rules_with (λ i. i) rules ≡ rules
rules_itself rules =
    all_itself (rule_with (λ i. i))
    (λ r. ap (λ (s : Side ℕ ℕ). record { left = r.left; right = s; cost = r.cost }) (tree_itself (symbol_with (λ i. i)) symbol_itself r.right)) rules

pub reads_grown : (scale : Scale) (early labels : List (List ℕ)) (bytes : List ℕ) (g : GrammarOf) → Grows early labels → ReadsAs scale early bytes g → ReadsAs scale labels bytes g
reads_grown scale early labels bytes g grows r =
    subst (λ (rs : List (Rule ℕ)). ReadsAs scale labels bytes (record { names = g.names; rules = rs })) (rules_itself g.rules) (reads_with early labels (λ i. i) grows.kept scale bytes g r)

pub lists_grown : (early labels : List (List ℕ)) (bytes : List ℕ) (ts : List (Tree ℕ)) → Grows early labels → ListsTrees early ts bytes → ListsTrees labels ts bytes
lists_grown early labels bytes ts grows l = (
  l.0,
  subst (HasTrees labels (lines_of bytes)) (all_itself (relabel_tree (λ i. i)) (tree_itself (λ (i : ℕ). i) (λ i. refl)) ts) (lines_with early labels (λ i. i) grows.kept (lines_of bytes) ts l.1),
  l.2,
)
