-- How leaves are resolved into states and labels.
use Rattle.tib_tree.specs.Trees.{most_nodes}
use Rattle.std.proofs.Common.{◌≡◌, ℕ, ◌+◌, ◌<◌, ◌≤◌, List, [], ◌∷◌, ◌++◌, length, get_or, take, drop, refl, ap, sym, ◌∙◌, subst, arith, append-nil, zero, suc}
use Rattle.std.specs.Prelude.{false, slice_get, Option, Some, None, IfSome, Contains}
use Rattle.std.specs.List.{All}
use Rattle.std.proofs.lemmas.List.{map-append, length-append, length-drop, length-take, drop-drop, take_all, take_more}
use Rattle.std.proofs.lemmas.Option.{slice_get_within, get_or_from_slice_get}
use Rattle.tib_lex.specs.Lists.{Along, Each}
use Rattle.tib_lex.proofs.Alongs.{along_more}
use Rattle.tib_tree.specs.Grows.{Grows}
use Rattle.tib_tree.proofs.Growing.{holds_text}
use Rattle.tib_tree.specs.Nodes.{rank_of}
use Rattle.tib_tree.specs.Trees.{Tree, Trees, none, tree, only, preorder, preorder_of, count as count_trees}
use Rattle.tib_tree.specs.Written.{Item, items}
use Rattle.tib_grammar.specs.Sides.{Symbol, label, hole}
use Rattle.tib_grammar.specs.Items.{pair_of, pairs_of}
use Rattle.tib_grammar.specs.declared.Item.{Item as SideItem}
use Rattle.tib_grammar_file.specs.Raw.{IsRaw, IsRawRule, all_nodes}
use Rattle.tib_grammar_file.specs.Rule.{RuleLine}
use Rattle.tib_grammar_file.specs.Resolve.{IsFoundRaw, IsStateOf, AreStatesOf, IsRawTree, IsSmallTree, IsRawGrammarOf}
use Rattle.tib_grammar_file.specs.Value.{IsSymbol, IsNode, IsStateLeaf, IsRule}
use Rattle.tib_grammar_file.specs.declared.raw.RawItem.{RawItem}
use Rattle.tib_grammar_file.specs.declared.raw.RawRule.{RawRule}
use Rattle.tib_grammar_file.specs.declared.raw.RawRules.{RawRules}
use Rattle.tib_grammar.specs.declared.Rule.{Rule}
use Rattle.tib_grammar_file.proofs.Meanings.{grown}
use Rattle.tib_grammar_file.proofs.Alongs.{along_changes, along_front, along_back, along_last, along_long}

same_text : (texts : List (List ℕ)) (n : ℕ) (t u : List ℕ) → slice_get texts n ≡ Some t → slice_get texts n ≡ Some u → t ≡ u
same_text texts n t u e f = let g : Some t ≡ Some u = sym e ∙ f in cc

pub state_node : (names labels texts : List (List ℕ)) (text : List ℕ) (q : ℕ) (raw : RawItem) (i : Item) → slice_get texts raw.text ≡ Some text → IsFoundRaw names text (Some q) raw → IsRaw texts raw i → IsNode names labels (hole q, 0) i
state_node names labels texts text q raw i e (held, at) r =
    let s : text ≡ i.text = same_text texts raw.text text i.text e r.0 in
    let kids : i.kids ≡ None = sym r.2 ∙ held.leaf in (
      (
        record {
          plain = sym r.1 ∙ held.plain;
          leaf = kids;
          held = subst (λ (t : List ℕ). Contains names t) s held.held;
        },
        at ∙ ap Some s,
      ),
      sym (ap rank_of kids),
    )

pub label_node : (names labels texts : List (List ℕ)) (text : List ℕ) (f rank : ℕ) (raw : RawItem) (i : Item) → slice_get texts raw.text ≡ Some text → IsFoundRaw names text None raw → slice_get labels f ≡ Some text → rank ≡ rank_of raw.kids → IsRaw texts raw i → IsNode names labels (label f, rank) i
label_node names labels texts text f rank raw i e no_leaf at k r =
    let s : text ≡ i.text = same_text texts raw.text text i.text e r.0 in (
      (
        λ (l : IsStateLeaf names i). no_leaf (record {
          plain = r.1 ∙ l.plain;
          leaf = r.2 ∙ l.leaf;
          held = subst (λ (t : List ℕ). Contains names t) (sym s) l.held;
        }),
        at ∙ ap Some s,
      ),
      k ∙ ap rank_of r.2,
    )

-- the states of texts, one text after another
pub states_begin : (names texts : List (List ℕ)) (states : List (Option ℕ)) → states ≡ [] → AreStatesOf names states (take 0 texts)
states_begin names texts states e = subst (λ (qs : List (Option ℕ)). Along (IsStateOf names) qs []) (sym e) tt

is_state : (names : List (List ℕ)) (r : Option ℕ) (text : List ℕ) → IfSome r (λ n. slice_get names n ≡ Some text) → (r ≡ None → Contains names text → ⊥) → IsStateOf names r text
is_state names None text found not_there = not_there refl
is_state names (Some q) text found not_there = found

pub states_step : (names texts : List (List ℕ)) (n : ℕ) (states more : List (Option ℕ)) (r : Option ℕ) (text : List ℕ) → slice_get texts n ≡ Some text → IfSome r (λ q. slice_get names q ≡ Some text) → (r ≡ None → Contains names text → ⊥) → more ≡ states ++ r ∷ [] → AreStatesOf names states (take n texts) → AreStatesOf names more (take (n + 1) texts)
states_step names texts n states more r text at found not_there e are =
    let here : get_or texts n text ≡ text = get_or_from_slice_get texts n text text at in
    let longer : take (n + 1) texts ≡ take n texts ++ text ∷ [] = take_more texts n text (slice_get_within texts n text at) ∙ ap (λ (t : List ℕ). take n texts ++ t ∷ []) here in
    subst (λ (qs : List (Option ℕ)). Along (IsStateOf names) qs (take (n + 1) texts)) (sym e)
    (subst (λ (ts : List (List ℕ)). Along (IsStateOf names) (states ++ r ∷ []) ts) (sym longer)
    (along_more (IsStateOf names) states (take n texts) r text are (is_state names r text found not_there)))

pub states_end : (names texts : List (List ℕ)) (n : ℕ) (states : List (Option ℕ)) → length texts ≤ n → AreStatesOf names states (take n texts) → AreStatesOf names states texts
states_end names texts n states h are = subst (λ (ts : List (List ℕ)). Along (IsStateOf names) states ts) (take_all n texts h) are

-- the state of one text
state_at : (names texts : List (List ℕ)) (states : List (Option ℕ)) (n : ℕ) (d : Option ℕ) (text : List ℕ) → AreStatesOf names states texts → slice_get texts n ≡ Some text → IsStateOf names (get_or states n d) text
state_at names [] states n d text are at = absurd (omega (arith, slice_get_within [] n text at))
state_at names (t ∷ ts) [] n d text are at = absurd are
state_at names (t ∷ ts) (q ∷ qs) zero d text are at = let same : t ≡ text = cc in subst (λ (x : List ℕ). IsStateOf names q x) same are.0
state_at names (t ∷ ts) (q ∷ qs) (suc n) d text are at = state_at names ts qs n d text are.1 at

-- an unquoted leaf is the state whose name its text is
found_leaf : (names : List (List ℕ)) (text : List ℕ) (item : RawItem) (r : Option ℕ) → IsStateOf names r text → item.quoted ≡ false → item.kids ≡ None → IsFoundRaw names text r item
found_leaf names text item None not_there plain leaf = λ l. not_there l.held
found_leaf names text item (Some q) at plain leaf = (record { plain = plain; leaf = leaf; held = holds_text names text q at }, at)

pub leaf_at : (names texts : List (List ℕ)) (states : List (Option ℕ)) (item : RawItem) (r : Option ℕ) (text : List ℕ) → AreStatesOf names states texts → r ≡ get_or states item.text None → item.quoted ≡ false → item.kids ≡ None → slice_get texts item.text ≡ Some text → IsFoundRaw names text r item
leaf_at names texts states item r text are is plain leaf at =
    found_leaf names text item r (subst (λ (x : Option ℕ). IsStateOf names x text) (sym is) (state_at names texts states item.text None text are at)) plain leaf

symbol_grows : (names a b : List (List ℕ)) → Grows a b → (s : Symbol ℕ ℕ) (i : Item) → IsSymbol names a s i → IsSymbol names b s i
symbol_grows names a b g (hole q) i h = h
symbol_grows names a b g (label f) i h = (h.0, g.kept f i.text h.1)

pub node_grows : (names a b : List (List ℕ)) → Grows a b → (p : Symbol ℕ ℕ × ℕ) (i : Item) → IsNode names a p i → IsNode names b p i
node_grows names a b g p i h = (symbol_grows names a b g p.0 i h.0, h.1)

-- one more node
pub resolve_step : (names a b texts : List (List ℕ)) (front longer : List RawItem) (raw : RawItem) (side more : List (SideItem ℕ)) (s : SideItem ℕ) → longer ≡ front ++ raw ∷ [] → more ≡ side ++ s ∷ [] → Grows a b → ((i : Item) → IsRaw texts raw i → IsNode names b (pair_of s) i) → ((is : List Item) → Along (IsRaw texts) front is → Along (IsNode names a) (pairs_of side) is) → (is : List Item) → Along (IsRaw texts) longer is → Along (IsNode names b) (pairs_of more) is
resolve_step names a b texts front longer raw side more s e f g one all is h =
    let l = along_last (IsRaw texts) front raw is (subst (λ (rs : List RawItem). Along (IsRaw texts) rs is) e h) in
    subst (λ (ss : List (Symbol ℕ ℕ × ℕ)). Along (IsNode names b) ss is) (sym (ap pairs_of f ∙ map-append pair_of side (s ∷ [])))
    (subst (λ (js : List Item). Along (IsNode names b) (pairs_of side ++ pair_of s ∷ []) js) (sym l.2)
    (along_more (IsNode names b) (pairs_of side) l.0 (pair_of s) l.1 (along_changes (IsNode names a) (IsNode names b) (pairs_of side) l.0 (node_grows names a b g) (all l.0 l.3)) (one l.1 l.4)))

-- the texts of nodes are in their table
pub all_texts : (texts : List (List ℕ)) (raw : List RawItem) (is : List Item) → Along (IsRaw texts) raw is → All (λ r. r.text < length texts) raw
all_texts texts [] is h i d k = absurd (omega arith)
all_texts texts (r ∷ rs) [] h i d k = absurd h
all_texts texts (r ∷ rs) (x ∷ xs) h zero d k = slice_get_within texts r.text x.text h.0.0
all_texts texts (r ∷ rs) (x ∷ xs) h (suc i) d k = all_texts texts rs xs h.1 i d (omega arith)

-- one tree is a tree
pub one_tree : {A : Type 0} (ts : Trees A) → count_trees ts ≡ 1 → (s : Tree A) × (only s ≡ ts) × (preorder_of s ≡ preorder ts)
one_tree none e = absurd (omega (arith, e))
one_tree (tree f kids none) e = (record { label = f; kids = kids }, refl, ap (λ (xs : List _). (f, count_trees kids) ∷ xs) (sym (append-nil (preorder kids))))
one_tree (tree f kids (tree g more rest)) e = absurd (omega (arith, e))

-- nodes of one tree are the preorder of one
pub is_a_tree : (names labels texts : List (List ℕ)) (raw : List RawItem) (side : List (SideItem ℕ)) → IsRawTree texts raw → ((is : List Item) → Along (IsRaw texts) raw is → Along (IsNode names labels) (pairs_of side) is) → ((s : Tree (Symbol ℕ ℕ)) → preorder_of s ≡ pairs_of side → ⊥) → ⊥
is_a_tree names labels texts raw side r all other =
    let nodes : Along (IsNode names labels) (pairs_of side) (items r.tree.tree) = subst (λ (is : List Item). Along (IsNode names labels) (pairs_of side) is) (sym r.tree.nodes) (all r.is r.are) in
    let g = grown names labels r.tree.tree (pairs_of side) nodes in
    let o = one_tree g.trees (g.many ∙ r.tree.one) in
    other o.0 (o.2 ∙ g.order)

-- at most a number of nodes from an index on
pub part_few : (at count : ℕ) (nodes these : List RawItem) → these ≡ take count (drop at nodes) → length these ≤ count
part_few at count nodes these e = omega (arith, ap length e, length-take count (drop at nodes))

-- one rule and its line
pub record Here (names : List (List ℕ)) (lines : List RuleLine) (k : ℕ) (rule : RawRule) : Type 0 where
  pub line : RuleLine
  pub later : drop k lines ≡ line ∷ drop (k + 1) lines
  pub before : take (k + 1) lines ≡ take k lines ++ line ∷ []
  pub is : IsRawRule names rule line
  pub small : IsSmallTree line

here : (names : List (List ℕ)) (rules : List RawRule) (lines : List RuleLine) (k : ℕ) (d : RawRule) → k < length rules → Along (IsRawRule names) rules lines → Each IsSmallTree lines → Here names lines k (get_or rules k d)
here names [] lines k d h a e = absurd (omega arith)
here names (r ∷ rs) [] k d h a e = absurd a
here names (r ∷ rs) (x ∷ xs) zero d h a e = record { line = x; later = refl; before = refl; is = a.0; small = e.0 }
here names (r ∷ rs) (x ∷ xs) (suc k) d h a e =
    let f = here names rs xs k d (omega arith) a.1 e.1 in
    let s : suc k + 1 ≡ suc (k + 1) = omega arith in
    record {
      line = f.line;
      later = rw s f.later;
      before = rw s (ap (λ (ys : List RuleLine). x ∷ ys) f.before);
      is = f.is;
      small = f.small;
    }

pub here_at : (names texts : List (List ℕ)) (raw : RawRules) (lines : List RuleLine) (rules : List RawRule) (k : ℕ) (rule : RawRule) → rules ≡ raw.rules.items → k < length rules → rule ≡ get_or rules k rule → IsRawGrammarOf names texts raw lines → Here names lines k rule
here_at names texts raw lines rules k rule e h is g =
    subst (λ (r : RawRule). Here names lines k r) (sym is)
    (subst (λ (rs : List RawRule). Here names lines k (get_or rs k rule)) (sym e)
    (here names raw.rules.items lines k rule (subst (λ (rs : List RawRule). k < length rs) e h) g.rules.heads g.trees))

-- the rules up to one are resolved, and the nodes from an index on are those of the others
pub record Resolving (names texts labels : List (List ℕ)) (nodes : List RawItem) (lines : List RuleLine) (k at : ℕ) (rules : List (Rule ℕ)) : Type 0 where
  pub left : Along (IsRaw texts) (drop at nodes) (all_nodes (drop k lines))
  pub done : Along (IsRule names labels) rules (take k lines)

pub begins : (names texts labels : List (List ℕ)) (raw : RawRules) (lines : List RuleLine) (rules : List (Rule ℕ)) → rules ≡ [] → IsRawGrammarOf names texts raw lines → Resolving names texts labels raw.nodes.items lines 0 0 rules
begins names texts labels raw lines rules e g = record {
  left = g.rules.bodies;
  done = subst (λ (rs : List (Rule ℕ)). Along (IsRule names labels) rs []) (sym e) tt;
}

-- the nodes that are left begin with those of the next rule
next_nodes : (names texts labels : List (List ℕ)) (nodes : List RawItem) (lines : List RuleLine) (k at : ℕ) (rules : List (Rule ℕ)) (rule : RawRule) → (h : Here names lines k rule) → Resolving names texts labels nodes lines k at rules → Along (IsRaw texts) (drop at nodes) (h.line.nodes ++ all_nodes (drop (k + 1) lines))
next_nodes names texts labels nodes lines k at rules rule h r = subst (λ (ls : List RuleLine). Along (IsRaw texts) (drop at nodes) (all_nodes ls)) h.later r.left

pub nodes_within : (names texts labels : List (List ℕ)) (nodes : List RawItem) (lines : List RuleLine) (k at : ℕ) (rules : List (Rule ℕ)) (rule : RawRule) → at ≤ length nodes → (h : Here names lines k rule) → Resolving names texts labels nodes lines k at rules → at + rule.nodes ≤ length nodes
nodes_within names texts labels nodes lines k at rules rule w h r =
    let l = along_long (IsRaw texts) (drop at nodes) (h.line.nodes ++ all_nodes (drop (k + 1) lines)) (next_nodes names texts labels nodes lines k at rules rule h r) in
    omega (arith, l, length-append h.line.nodes (all_nodes (drop (k + 1) lines)), length-drop at nodes, h.is.nodes)

pub these_nodes : (names texts labels : List (List ℕ)) (nodes : List RawItem) (lines : List RuleLine) (k at : ℕ) (rules : List (Rule ℕ)) (rule : RawRule) (these all : List RawItem) → all ≡ nodes → these ≡ take rule.nodes (drop at all) → (h : Here names lines k rule) → Resolving names texts labels nodes lines k at rules → Along (IsRaw texts) these h.line.nodes
these_nodes names texts labels nodes lines k at rules rule these all same e h r =
    subst (λ (ns : List RawItem). Along (IsRaw texts) ns h.line.nodes) (sym (e ∙ ap (λ (ns : List RawItem). take rule.nodes (drop at ns)) same ∙ ap (λ (n : ℕ). take n (drop at nodes)) h.is.nodes))
    (along_front (IsRaw texts) (drop at nodes) h.line.nodes (all_nodes (drop (k + 1) lines)) (next_nodes names texts labels nodes lines k at rules rule h r))

rule_grows : (names a b : List (List ℕ)) → Grows a b → (rule : Rule ℕ) (line : RuleLine) → IsRule names a rule line → IsRule names b rule line
rule_grows names a b g rule line i = record { left = i.left; right = along_changes (IsNode names a) (IsNode names b) (preorder_of rule.right) line.nodes (node_grows names a b g) i.right; cost = i.cost }

pub one_more : (names texts a b : List (List ℕ)) (nodes : List RawItem) (lines : List RuleLine) (k at : ℕ) (rules more : List (Rule ℕ)) (raw : RawRule) (rule : Rule ℕ) → (h : Here names lines k raw) → Grows a b → IsRule names b rule h.line → more ≡ rules ++ rule ∷ [] → Resolving names texts a nodes lines k at rules → Resolving names texts b nodes lines (k + 1) (at + raw.nodes) more
one_more names texts a b nodes lines k at rules more raw rule h g is e r = record {
  left = subst (λ (ns : List RawItem). Along (IsRaw texts) ns (all_nodes (drop (k + 1) lines))) (drop-drop (length h.line.nodes) at nodes ∙ ap (λ (n : ℕ). drop (at + n) nodes) (sym h.is.nodes))
      (along_back (IsRaw texts) (drop at nodes) h.line.nodes (all_nodes (drop (k + 1) lines)) (next_nodes names texts a nodes lines k at rules raw h r));
  done = subst (λ (rs : List (Rule ℕ)). Along (IsRule names b) rs (take (k + 1) lines)) (sym e)
      (subst (λ (ls : List RuleLine). Along (IsRule names b) (rules ++ rule ∷ []) ls) (sym h.before)
      (along_more (IsRule names b) rules (take k lines) rule h.line (along_changes (IsRule names a) (IsRule names b) rules (take k lines) (rule_grows names a b g) r.done) is));
}

pub a_tree : (names texts : List (List ℕ)) (lines : List RuleLine) (k : ℕ) (rule : RawRule) (these : List RawItem) → (h : Here names lines k rule) → Along (IsRaw texts) these h.line.nodes → IsRawTree texts these
a_tree names texts lines k rule these h are = record { is = h.line.nodes; are = are; tree = h.small.tree }

pub few_nodes : (names texts : List (List ℕ)) (lines : List RuleLine) (k : ℕ) (rule : RawRule) (these : List RawItem) → (h : Here names lines k rule) → Along (IsRaw texts) these h.line.nodes → length these ≤ most_nodes
few_nodes names texts lines k rule these h are = omega (arith, along_long (IsRaw texts) these h.line.nodes are, h.small.few)

pub all_done : (names texts labels : List (List ℕ)) (raw : RawRules) (lines : List RuleLine) (k at : ℕ) (rules : List (Rule ℕ)) (all : List RawRule) → all ≡ raw.rules.items → length all ≤ k → IsRawGrammarOf names texts raw lines → Resolving names texts labels raw.nodes.items lines k at rules → Along (IsRule names labels) rules lines
all_done names texts labels raw lines k at rules all same h g r =
    let l = along_long (IsRawRule names) raw.rules.items lines g.rules.heads in
    subst (λ (ls : List RuleLine). Along (IsRule names labels) rules ls) (take_all k lines (omega (arith, l, ap length same))) r.done
