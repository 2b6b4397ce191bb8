-- The nodes of tokens are those of the trees that they spell.
use Rattle.std.proofs.Common.{◌≡◌, ℕ, List, [], ◌∷◌, ◌++◌, refl, ap, sym, ◌∙◌, append_assoc, append-nil, Option, subst, Bool, true, false, zero, suc}
use Rattle.std.specs.Prelude.{Some, None, option_and_then, option_map, map}
use Rattle.tib_lex.specs.Grammar.{Word, open_, close, hash, arrow, name, label}
use Rattle.tib_tree.specs.Written.{Written, end, leaf, head, word_for, spell, count, Item, item, items}
use Rattle.tib_tree.specs.Machine.{State, state, put_node, put, machine, one_tree, finish, nodes_of, IsTree}

abbrev join : Written → Written → Written
join end g = g
join (leaf q t rest) g = leaf q t (join rest g)
join (head q t kids rest) g = head q t kids (join rest g)

join_end : (f : Written) → join f end ≡ f
join_end end = refl
join_end (leaf q t rest) = ap (λ (g : Written). leaf q t g) (join_end rest)
join_end (head q t kids rest) = ap (λ (g : Written). head q t kids g) (join_end rest)

-- the same reading, with trees in the place of their numbers and nodes
pub record Level : Type 0 where
  pub held : Option Written
  pub top : Written
  pub above : List Written

abbrev level : Option Written → Written → List Written → Level
level held top above = record { held = held; top = top; above = above }

abbrev grow_node : Bool → List ℕ → Option Written → Written → List Written → Option Level
grow_node q t None f fs = Some (level None (leaf q t f) fs)
grow_node q t (Some kids) f fs = Some (level None (head q t kids f) fs)

abbrev grow_open : Option Written → Written → List Written → Option Level
grow_open None f (g ∷ gs) = Some (level (Some f) g gs)
grow_open held f fs = None

abbrev grow_close : Option Written → Written → List Written → Option Level
grow_close None f fs = Some (level None end (f ∷ fs))
grow_close (Some kids) f fs = None

abbrev grow : Word → Level → Option Level
grow (name text) l = grow_node false text l.held l.top l.above
grow (label text) l = grow_node true text l.held l.top l.above
grow open_ l = grow_open l.held l.top l.above
grow close l = grow_close l.held l.top l.above
grow word l = None

abbrev build : List Word → Option Level
build [] = Some (level None end [])
build (word ∷ words) = option_and_then (grow word) (build words)

-- what a level stands for: its numbers and nodes
abbrev all_items : List Written → List Item
all_items [] = []
all_items (f ∷ fs) = items f ++ all_items fs

abbrev held_items : Option Written → List Item
held_items None = []
held_items (Some kids) = items kids

abbrev flat_of : Option Written → Written → List Written → State
flat_of held f fs = state (option_map count held) (count f) (map count fs) (held_items held ++ (items f ++ all_items fs))

abbrev flat : Level → State
flat l = flat_of l.held l.top l.above

node_flat : (q : Bool) (t : List ℕ) (held : Option Written) (f : Written) (fs : List Written) → put_node q t (flat_of held f fs) ≡ option_map flat (grow_node q t held f fs)
node_flat q t None f fs = refl
node_flat q t (Some kids) f fs = ap (λ (is : List Item). Some (state None (suc (count f)) (map count fs) (item q t (Some (count kids)) ∷ is))) (sym (append_assoc (items kids) (items f) (all_items fs)))

put_flat : (word : Word) (held : Option Written) (f : Written) (fs : List Written) → put word (flat_of held f fs) ≡ option_map flat (grow word (level held f fs))
put_flat (name t) held f fs = node_flat false t held f fs
put_flat (label t) held f fs = node_flat true t held f fs
put_flat open_ None f (g ∷ gs) = refl
put_flat open_ None f [] = refl
put_flat open_ (Some k) f fs = refl
put_flat close None f fs = refl
put_flat close (Some k) f fs = refl
put_flat hash held f fs = refl
put_flat arrow held f fs = refl

step_flat : (word : Word) (o : Option Level) → option_and_then (put word) (option_map flat o) ≡ option_map flat (option_and_then (grow word) o)
step_flat word None = refl
step_flat word (Some l) = put_flat word l.held l.top l.above

machine_flat : (words : List Word) → machine words ≡ option_map flat (build words)
machine_flat [] = refl
machine_flat (word ∷ words) = ap (λ (o : Option State). option_and_then (put word) o) (machine_flat words) ∙ step_flat word (build words)

-- trees that are spelled are built
word_grown : (q : Bool) (t : List ℕ) (l : Level) → grow (word_for q t) l ≡ grow_node q t l.held l.top l.above
word_grown true t l = refl
word_grown false t l = refl

built : (f : Written) (rest : List Word) (g : Written) (gs : List Written) → build rest ≡ Some (level None g gs) → build (spell f ++ rest) ≡ Some (level None (join f g) gs)
built end rest g gs e = e
built (leaf q t next) rest g gs e = rw (built next rest g gs e) (word_grown q t (level None (join next g) gs))
built (head q t kids next) rest g gs e =
    let k : build (spell next ++ rest) ≡ Some (level None (join next g) gs) = built next rest g gs e in
    let closed : build (close ∷ (spell next ++ rest)) ≡ Some (level None end (join next g ∷ gs)) = rw k refl in
    let opened : build (spell kids ++ (close ∷ (spell next ++ rest))) ≡ Some (level None (join kids end) (join next g ∷ gs)) = built kids (close ∷ (spell next ++ rest)) end (join next g ∷ gs) closed in
    let regroup : (spell kids ++ (close ∷ spell next)) ++ rest ≡ spell kids ++ (close ∷ (spell next ++ rest)) = append_assoc (spell kids) (close ∷ spell next) rest in
    rw (regroup, opened, join_end kids) (word_grown q t (level (Some kids) (join next g) gs))

-- trees that are built are spelled
abbrev spell_all : Written → List Written → List Word
spell_all f [] = spell f
spell_all f (g ∷ gs) = spell f ++ (close ∷ spell_all g gs)

abbrev spell_of : Option Written → Written → List Written → List Word
spell_of None f fs = spell_all f fs
spell_of (Some kids) f fs = open_ ∷ (spell kids ++ (close ∷ spell_all f fs))

abbrev spell_level : Level → List Word
spell_level l = spell_of l.held l.top l.above

node_spelled : (q : Bool) (t : List ℕ) (held : Option Written) (f : Written) (fs : List Written) (l : Level) → grow_node q t held f fs ≡ Some l → spell_level l ≡ word_for q t ∷ spell_of held f fs
node_spelled q t None f fs l e =
    let same : level None (leaf q t f) fs ≡ l = cc in
    subst (λ (m : Level). spell_level m ≡ word_for q t ∷ spell_all f fs) same (leaves fs)
  where
    leaves : (fs : List Written) → spell_all (leaf q t f) fs ≡ word_for q t ∷ spell_all f fs
    leaves [] = refl
    leaves (g ∷ gs) = refl
node_spelled q t (Some kids) f fs l e =
    let same : level None (head q t kids f) fs ≡ l = cc in
    subst (λ (m : Level). spell_level m ≡ word_for q t ∷ (open_ ∷ (spell kids ++ (close ∷ spell_all f fs)))) same (heads fs)
  where
    heads : (fs : List Written) → spell_all (head q t kids f) fs ≡ word_for q t ∷ (open_ ∷ (spell kids ++ (close ∷ spell_all f fs)))
    heads [] = refl
    heads (g ∷ gs) = ap (λ (ws : List Word). word_for q t ∷ (open_ ∷ ws)) (append_assoc (spell kids) (close ∷ spell f) (close ∷ spell_all g gs))

open_spelled : (held : Option Written) (f : Written) (fs : List Written) (l : Level) → grow_open held f fs ≡ Some l → spell_level l ≡ open_ ∷ spell_of held f fs
open_spelled None f (g ∷ gs) l e =
    let same : level (Some f) g gs ≡ l = cc in
    subst (λ (m : Level). spell_level m ≡ open_ ∷ (spell f ++ (close ∷ spell_all g gs))) same refl
open_spelled None f [] l e = let bad : None ≡ Some l = e in cc
open_spelled (Some k) f fs l e = let bad : None ≡ Some l = e in cc

close_spelled : (held : Option Written) (f : Written) (fs : List Written) (l : Level) → grow_close held f fs ≡ Some l → spell_level l ≡ close ∷ spell_of held f fs
close_spelled None f fs l e =
    let same : level None end (f ∷ fs) ≡ l = cc in
    subst (λ (m : Level). spell_level m ≡ close ∷ spell_all f fs) same refl
close_spelled (Some k) f fs l e = let bad : None ≡ Some l = e in cc

grow_spelled : (word : Word) (o : Option Level) (words : List Word) (l : Level) → ((m : Level) → o ≡ Some m → spell_level m ≡ words) → option_and_then (grow word) o ≡ Some l → spell_level l ≡ word ∷ words
grow_spelled word None words l h e = let bad : None ≡ Some l = e in cc
grow_spelled (name t) (Some m) words l h e = node_spelled false t m.held m.top m.above l e ∙ ap (λ (ws : List Word). name t ∷ ws) (h m refl)
grow_spelled (label t) (Some m) words l h e = node_spelled true t m.held m.top m.above l e ∙ ap (λ (ws : List Word). label t ∷ ws) (h m refl)
grow_spelled open_ (Some m) words l h e = open_spelled m.held m.top m.above l e ∙ ap (λ (ws : List Word). open_ ∷ ws) (h m refl)
grow_spelled close (Some m) words l h e = close_spelled m.held m.top m.above l e ∙ ap (λ (ws : List Word). close ∷ ws) (h m refl)
grow_spelled hash (Some m) words l h e = let bad : None ≡ Some l = e in cc
grow_spelled arrow (Some m) words l h e = let bad : None ≡ Some l = e in cc

spelled : (words : List Word) (l : Level) → build words ≡ Some l → spell_level l ≡ words
spelled [] l e =
    let same : level None end [] ≡ l = cc in
    subst (λ (m : Level). spell_level m ≡ []) same refl
spelled (word ∷ words) l e = grow_spelled word (build words) words l (spelled words) e

-- the nodes of one tree
one_tells : (held : Option ℕ) (n : ℕ) (ns : List ℕ) (is js : List Item) → one_tree held n ns is ≡ Some js → (held ≡ None) × (n ≡ 1) × (ns ≡ []) × (is ≡ js)
one_tells None zero ns is js e = let bad : None ≡ Some js = e in cc
one_tells None (suc zero) [] is js e = (refl, refl, refl, cc)
one_tells None (suc zero) (m ∷ ns) is js e = let bad : None ≡ Some js = e in cc
one_tells None (suc (suc n)) ns is js e = let bad : None ≡ Some js = e in cc
one_tells (Some m) n ns is js e = let bad : None ≡ Some js = e in cc

none_held : (held : Option Written) → option_map count held ≡ None → held ≡ None
none_held None e = refl
none_held (Some k) e = let bad : Some (count k) ≡ None = e in cc

none_above : (fs : List Written) → map count fs ≡ [] → fs ≡ []
none_above [] e = refl
none_above (f ∷ fs) e = let bad : count f ∷ map count fs ≡ [] = e in cc

back_level : (words : List Word) (is : List Item) (held : Option Written) (f : Written) (fs : List Written) → held ≡ None → fs ≡ [] → spell_of held f fs ≡ words → count f ≡ 1 → held_items held ++ (items f ++ all_items fs) ≡ is → IsTree words is
back_level words is held f fs h a s c i = record {
  tree = f;
  one = c;
  spelled = sym (ap (λ (o : Option Written). spell_of o f fs) h ∙ ap (λ (gs : List Written). spell_all f gs) a) ∙ s;
  nodes = sym (append-nil (items f)) ∙ sym (ap (λ (o : Option Written). held_items o ++ (items f ++ all_items fs)) h ∙ ap (λ (gs : List Written). items f ++ all_items gs) a) ∙ i;
}

back : (words : List Word) (is : List Item) (o : Option Level) → build words ≡ o → finish (option_map flat o) ≡ Some is → IsTree words is
back words is None b e = let bad : None ≡ Some is = e in cc
back words is (Some l) b e =
    let t = one_tells (option_map count l.held) (count l.top) (map count l.above) (held_items l.held ++ (items l.top ++ all_items l.above)) is e in
    back_level words is l.held l.top l.above (none_held l.held t.0) (none_above l.above t.2) (spelled words l b) t.1 t.3

pub tree_back : (words : List Word) (is : List Item) → nodes_of words ≡ Some is → IsTree words is
unfolding nodes_of
tree_back words is e = back words is (build words) refl (sym (ap finish (machine_flat words)) ∙ e)

one_made : (n : ℕ) (is : List Item) → n ≡ 1 → one_tree None n [] is ≡ Some is
one_made n is e = rw e refl

pub tree_forth : (f : Written) → count f ≡ 1 → nodes_of (spell f) ≡ Some (items f)
unfolding nodes_of
tree_forth f one =
    let b : build (spell f ++ []) ≡ Some (level None (join f end) []) = built f [] end [] refl in
    let m : machine (spell f) ≡ Some (flat_of None f []) = machine_flat (spell f) ∙ ap (option_map flat) (sym (ap build (append-nil (spell f))) ∙ b ∙ ap (λ (g : Written). Some (level None g [])) (join_end f)) in
    ap finish m ∙ one_made (count f) (items f ++ []) one ∙ ap Some (append-nil (items f))

-- both ways
pub trees_read : (words : List Word) (is : List Item) → (nodes_of words ≡ Some is → IsTree words is) × (IsTree words is → nodes_of words ≡ Some is)
trees_read words is = (tree_back words is, λ t. sym (ap nodes_of t.spelled) ∙ tree_forth t.tree t.one ∙ ap Some t.nodes)
