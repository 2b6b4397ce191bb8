-- Reading a child of a rule.
use Rattle.std.specs.Prelude.{◌≡◌, ℕ, ◌+◌, ◌-◌, ◌<◌, ◌≤◌, List, [], ◌∷◌, length, map, take, drop, refl}
use Rattle.std.proofs.Common.{zero, suc, arith, ap, sym, ◌∙◌, subst, get_or}
use Rattle.std.proofs.lemmas.List.{length-map}
use Rattle.tib_lex.proofs.Lists.{append_nil}
use Rattle.tib_tree.specs.Trees.{Trees, none, tree, count}
use Rattle.tib_grammar.specs.Forms.{IsLabel}
use Rattle.tib_grammar.specs.Items.{state_in}
use Rattle.tib_grammar.specs.Range.{AllBelow}
use Rattle.tib_grammar.specs.Run.{rule_at, no_rule}
use Rattle.tib_grammar.specs.Sides.{Symbol, label, hole, holes, holes_of, AreHoles}
use Rattle.tib_grammar.specs.declared.Item.{Item}
use Rattle.tib_grammar.specs.declared.Item.TheVariants.{Label}
use Rattle.tib_grammar.specs.declared.Rule.{Rule}
use Rattle.tib_ranked_trees.specs.Levels.{states_of}
use Rattle.tib_ranked_trees.specs.Pass.{AreRanks}
use Rattle.tib_ranked_trees.specs.Pass as pass
use Rattle.tib_ranked_trees.specs.ListsOf.{ListsOf}
use Rattle.tib_ranked_trees.specs.Held.{no_entry, list_of, entry_at, entries_of, told, ranks_from, IsSound, IsTuple}
use Rattle.tib_ranked_trees.proofs.Offering.{ranks_long, rank_at}

-- a list from a place on

take_at : (n i : ℕ) (rs : List ℕ) → length (take n rs) ≡ n → i < n → (i < length rs) × (get_or rs i 0 ≡ get_or (take n rs) i 0)
take_at zero i rs e h = absurd (omega arith)
take_at (suc n) i [] e h = absurd (omega arith)
take_at (suc n) zero (r ∷ rs) e h = (omega arith, refl)
take_at (suc n) (suc i) (r ∷ rs) e h = let t = take_at n i rs (omega arith) (omega arith) in (omega (arith, t.0), t.1)

pub from_at : (rs : List ℕ) (start n i : ℕ) → length (take n (drop start rs)) ≡ n → i < n → (start + i < length rs) × (get_or rs (start + i) 0 ≡ get_or (take n (drop start rs)) i 0)
from_at rs zero n i e h =
    let t = take_at n i rs e h in
    let z : 0 + i ≡ i = omega arith in
    (omega (arith, t.0), rw z t.1)
from_at [] (suc start) n i e h = let t = take_at n i [] e h in absurd (omega (arith, t.0))
from_at (r ∷ rs) (suc start) n i e h =
    let t = from_at rs start n i e h in
    let z : suc start + i ≡ suc (start + i) = omega arith in
    (omega (arith, t.0), rw z t.1)

-- the states below a rule in normal form

pub below_at : (n : ℕ) (qs : List ℕ) → AllBelow n qs → (i : ℕ) → i < length qs → get_or qs i 0 < n
below_at n [] b i h = absurd (omega arith)
below_at n (q ∷ qs) b zero h = b.0
below_at n (q ∷ qs) b (suc i) h = below_at n qs b.1 i (omega arith)

below_root : (n : ℕ) (s : Symbol ℕ ℕ) (kids : Trees (Symbol ℕ ℕ)) → IsLabel s → AllBelow n (holes_of (record { label = s; kids = kids })) → AllBelow n (holes kids)
below_root n (label f) kids l b = subst (AllBelow n) (append_nil (holes kids)) b
below_root n (hole p) kids l b = absurd l

pub states_below : (x : ListsOf) → IsSound x → (n : ℕ) → n < length x.rules → AllBelow (length x.lists) (states_of (rule_at x.rules n))
states_below x s n h =
    below_root (length x.lists) (rule_at x.rules n).right.label (rule_at x.rules n).right.kids (s.normal n h).is_label (s.range n h).1

pub get_or-map : {A B : Type 0} (f : A → B) (xs : List A) (i : ℕ) (d : A) (e : B) → i < length xs → get_or (map f xs) i e ≡ f (get_or xs i d)
get_or-map f [] i d e h = absurd (omega arith)
get_or-map f (x ∷ xs) zero d e h = refl
get_or-map f (x ∷ xs) (suc i) d e h = get_or-map f xs i d e (omega arith)

pub get_or-default : {A : Type 0} (xs : List A) (i : ℕ) (d e : A) → i < length xs → get_or xs i d ≡ get_or xs i e
get_or-default [] i d e h = absurd (omega arith)
get_or-default (x ∷ xs) zero d e h = refl
get_or-default (x ∷ xs) (suc i) d e h = get_or-default xs i d e (omega arith)

-- an item that was read carries the state at its place
pub state_at : (items : List (Item ℕ)) (qs : List ℕ) (i : ℕ) (q : ℕ) → map state_in items ≡ qs → i < length qs → q ≡ state_in (get_or items i (Label 0 0)) → q ≡ get_or qs i 0
state_at items qs i q e h s =
    let long : length items ≡ length qs = sym (length-map items state_in) ∙ ap length e in
    s ∙ sym (get_or-map state_in items i (Label 0 0) 0 (omega (arith, long, h))) ∙ ap (λ (ys : List ℕ). get_or ys i 0) e

-- what is read at a child
pub record IsChild (x : ListsOf) (rule start i q j : ℕ) : Type 0 where
  pub within : start + i < length x.ranks
  pub state : q < length x.lists
  pub rank : j < length (list_of x q)
  pub same : told x.trees (entry_at x q j) ≡ pass.entry_at (entries_of x) (get_or (states_of (rule_at x.rules rule)) i 0) (get_or (ranks_from x rule start) i 0)
  pub there : (entry_at x q j).tree < length x.trees

pub rank_within : (x : ListsOf) (rule start i : ℕ) → IsTuple x rule (ranks_from x rule start) → i < length (states_of (rule_at x.rules rule)) → start + i < length x.ranks
rank_within x rule start i t h =
    (from_at x.ranks start (length (states_of (rule_at x.rules rule))) i (ranks_long (entries_of x) (states_of (rule_at x.rules rule)) (ranks_from x rule start) t.ranks) h).0

pub child :
    (x : ListsOf) → IsSound x → (rule start i q j : ℕ) → IsTuple x rule (ranks_from x rule start) → i < length (states_of (rule_at x.rules rule)) →
    q ≡ get_or (states_of (rule_at x.rules rule)) i 0 → j ≡ get_or x.ranks (start + i) 0 → IsChild x rule start i q j
child x s rule start i q j t h e f =
    let qs : List ℕ = states_of (rule_at x.rules rule) in
    let js : List ℕ = ranks_from x rule start in
    let at = from_at x.ranks start (length qs) i (ranks_long (entries_of x) qs js t.ranks) h in
    let g : j ≡ get_or js i 0 = f ∙ at.1 in
    let low : get_or js i 0 < length (entries_of x (get_or qs i 0)) = rank_at (entries_of x) qs js i t.ranks h in
    let long : length (entries_of x q) ≡ length (list_of x q) = length-map (list_of x q) (told x.trees) in
    let rank : j < length (list_of x q) = let k : j < length (entries_of x q) = rw (e, g) low in omega (arith, k, long) in
    record {
      within = at.0;
      state = rw e (below_at (length x.lists) qs (states_below x s rule t.rule) i h);
      rank = rank;
      same = sym (get_or-map (told x.trees) (list_of x q) j no_entry pass.no_entry rank) ∙ ap (λ (p : ℕ). pass.entry_at (entries_of x) p j) e ∙ ap (λ (p : ℕ). pass.entry_at (entries_of x) (get_or qs i 0) p) g;
      there = s.listed q j rank;
    }

pub many_holes : (kids : Trees (Symbol ℕ ℕ)) → AreHoles kids → length (holes kids) ≡ count kids
many_holes none a = refl
many_holes (tree (label f) kids rest) a = absurd a
many_holes (tree (hole p) kids rest) a = ap suc (many_holes rest a)

-- so it is for what the code reads
pub read_child :
    (x : ListsOf) → IsSound x → (rule start i q j : ℕ) → IsTuple x rule (ranks_from x rule start) → i < length (states_of (rule_at x.rules rule)) →
    (rules : List (Rule ℕ)) → rules ≡ x.rules → (items : List (Item ℕ)) (r : Rule ℕ) → map state_in items ≡ holes (get_or rules rule r).right.kids → q ≡ state_in (get_or items i (Label 0 0)) →
    (ranks : List ℕ) → ranks ≡ x.ranks → (d : ℕ) → j ≡ get_or ranks (start + i) d → IsChild x rule start i q j
read_child x s rule start i q j t h rules er items r es eq ranks ek d ej =
    let kids : map state_in items ≡ states_of (rule_at x.rules rule) =
    es ∙ ap (λ (rs : List (Rule ℕ)). holes (get_or rs rule r).right.kids) er ∙ ap (λ (a : Rule ℕ). holes a.right.kids) (get_or-default x.rules rule r no_rule t.rule)
    in
    let jk : j ≡ get_or x.ranks (start + i) 0 =
    ej ∙ ap (λ (rs : List ℕ). get_or rs (start + i) d) ek ∙ get_or-default x.ranks (start + i) d 0 (rank_within x rule start i t h)
    in
    child x s rule start i q j t h (state_at items (states_of (rule_at x.rules rule)) i q kids h eq) jk

pub rule_read : (x : ListsOf) (rules : List (Rule ℕ)) (n : ℕ) (d : Rule ℕ) → rules ≡ x.rules → n < length x.rules → get_or rules n d ≡ rule_at x.rules n
rule_read x rules n d e h = ap (λ (rs : List (Rule ℕ)). get_or rs n d) e ∙ get_or-default x.rules n d no_rule h

-- ranks from a place on end within all ranks
pub ranks_within : (x : ListsOf) (rule start i m : ℕ) → IsTuple x rule (ranks_from x rule start) → i < length (states_of (rule_at x.rules rule)) → m ≡ length (states_of (rule_at x.rules rule)) → start + m ≤ length x.ranks
ranks_within x rule start i m t h e =
    let n : ℕ = length (states_of (rule_at x.rules rule)) in
    let last : start + (n - 1) < length x.ranks = rank_within x rule start (n - 1) t (omega arith) in
    omega (arith, last, e)

pub rank_read : (x : ListsOf) (rule start i : ℕ) → IsTuple x rule (ranks_from x rule start) → i < length (states_of (rule_at x.rules rule)) → get_or x.ranks (start + i) 0 ≡ get_or (ranks_from x rule start) i 0
rank_read x rule start i t h =
    (from_at x.ranks start (length (states_of (rule_at x.rules rule))) i (ranks_long (entries_of x) (states_of (rule_at x.rules rule)) (ranks_from x rule start) t.ranks) h).1
