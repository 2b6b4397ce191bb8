-- The places of rules by the states that are there, and the rules with which a walk begins.
use Rattle.std.specs.Prelude.{◌≡◌, ◌⊎◌, ℕ, ◌+◌, ◌<◌, ◌≤◌, List, [], ◌∷◌, ◌++◌, length, take, drop, refl}
use Rattle.std.specs.Global.{Vec}
use Rattle.std.proofs.Common.{zero, suc, arith, ap, sym, ◌∙◌, subst, get_or, inl, inr}
use Rattle.tib_lex.specs.Lists.{Has, Each}
use Rattle.tib_lex.proofs.Members.{has_left, has_right}
use Rattle.tib_lex.proofs.Lists.{each_append}
use Rattle.tib_lex.proofs.Places.{drop_whole}
use Rattle.tib_tree.specs.Trees.{count}
use Rattle.tib_grammar.specs.Sides.{label}
use Rattle.tib_grammar.specs.Run.{rule_at}
use Rattle.tib_grammar.specs.Forms.{AreNormal}
use Rattle.tib_grammar.specs.declared.Rule.{Rule}
use Rattle.tib_grammar.proofs.Sides.{length-holes}
use Rattle.tib_normal.proofs.RulePlaces.{has_rule_place}
use Rattle.tib_determinize.specs.declared.alive.Alive.{Alive}
use Rattle.tib_determinize.specs.declared.occurrences.Occurrence.{Occurrence}
use Rattle.tib_determinize.specs.ListLemmas.{nat_same}
use Rattle.tib_determinize.specs.Alive.{states_of, GoesOn, Stands, IsAlive, AreLeft}
use Rattle.tib_determinize.specs.Holders.{held, HoldMore}
use Rattle.tib_determinize.specs.Occurrences.{bucket, occurrence, IsHeld, HoldPlaces, LackNone, AreFound, HaveStanding, IsBegun, fresh, BeginAll}
use Rattle.tib_determinize.specs.Shapes.{root_label}
use Rattle.tib_determinize.specs.Vectors.{VectorOf, IsWeight, vector_at}
use Rattle.tib_determinize.proofs.PositionsTried.{taken_more}

same_or_below : (j i : ℕ) → i < j + 1 → (j ≡ i) ⊎ (i < j)
same_or_below j i h = grind arith

-- a place of a rule, given by the rule's own label and states
pub own_held :
    (rules : List (Rule ℕ)) (many m j f b q : ℕ) (lists : List (Vec Occurrence)) → (rule_at rules m).right.label ≡ label f → b ≡ bucket f many → q ≡ get_or (states_of rules m) j 0 →
    Has (held lists q) (record { bucket = b; place = j; rule = m }) → IsHeld rules many lists m j
own_held rules many m j f b q lists root is state h =
    let e : b ≡ bucket (root_label (rule_at rules m).right.label) many = is ∙ ap (λ s. bucket (root_label s) many) (sym root) in
    subst (λ x. Has (held lists (get_or (states_of rules m) j 0)) (record { bucket = x; place = j; rule = m })) e
    (subst (λ (p : ℕ). Has (held lists p) (record { bucket = b; place = j; rule = m })) state h)

-- one place of a rule more
pub next_held :
    (rules : List (Rule ℕ)) (many m j : ℕ) (old new : List (Vec Occurrence)) → HoldMore old new → IsHeld rules many new m j → ((i : ℕ) → i < j → IsHeld rules many old m i) →
    (i : ℕ) → i < j + 1 → IsHeld rules many new m i
next_held rules many m j old new more own before i low = elim (same_or_below j i low) [
  | inl e ↦ subst (IsHeld rules many new m) e own
  | inr l ↦ more (get_or (states_of rules m) i 0) (occurrence rules many m i) (before i l)
]

-- one more rule
pub next_rule :
    (rules : List (Rule ℕ)) (many n : ℕ) (old new : List (Vec Occurrence)) → HoldMore old new → ((j : ℕ) → j < length (states_of rules n) → IsHeld rules many new n j) →
    HoldPlaces rules many n old → HoldPlaces rules many (n + 1) new
next_rule rules many n old new more own before m j low in_rank = elim (same_or_below n m low) [
  | inl e ↦ subst (λ (x : ℕ). IsHeld rules many new x j) e (own j (subst (λ (x : ℕ). j < length (states_of rules x)) (sym e) in_rank))
  | inr l ↦ more (get_or (states_of rules m) j 0) (occurrence rules many m j) (before m j l in_rank)
]

-- one of some places more
pub next_found :
    (places : List Occurrence) (i : ℕ) (one : Occurrence) (old new : List (Vec Occurrence)) → i < length places → one ≡ get_or places i one → HoldMore old new → Has (held new one.bucket) one →
    ((o : Occurrence) → Has (take i places) o → Has (held old o.bucket) o) → (o : Occurrence) → Has (take (i + 1) places) o → Has (held new o.bucket) o
next_found places i one old new low is more own before o h = elim (taken_more places i one o low is h) [
  | inl k ↦ more o.bucket o (before o k)
  | inr e ↦ subst (λ (x : Occurrence). Has (held new x.bucket) x) e own
]

-- the places of one more entry
pub next_entry :
    (entries : VectorOf) (lists : List (Vec Occurrence)) (n q : ℕ) (places : List Occurrence) (old new : List (Vec Occurrence)) → q ≡ (get_or entries n (0, 0)).0 → places ≡ held lists q →
    HoldMore old new → ((o : Occurrence) → Has places o → Has (held new o.bucket) o) →
    ((i : ℕ) (o : Occurrence) → i < n → Has (held lists (get_or entries i (0, 0)).0) o → Has (held old o.bucket) o) →
    (i : ℕ) (o : Occurrence) → i < n + 1 → Has (held lists (get_or entries i (0, 0)).0) o → Has (held new o.bucket) o
next_entry entries lists n q places old new is are more own before i o low h = elim (same_or_below n i low) [
  | inl e ↦ own o (subst (λ (xs : List Occurrence). Has xs o) (sym (are ∙ ap (held lists) (is ∙ ap (λ (m : ℕ). (get_or entries m (0, 0)).0) e))) h)
  | inr l ↦ more o.bucket o (before i o l h)
]

-- a rule that was put after others
pub next_begun :
    (rules : List (Rule ℕ)) (f k : ℕ) (old new : List Alive) (a : Alive) → new ≡ old ++ a ∷ [] → IsBegun rules f k a → Each (IsBegun rules f k) old → Each (IsBegun rules f k) new
next_begun rules f k old new a e own before = subst (Each (IsBegun rules f k)) (sym e) (each_append (IsBegun rules f k) old (a ∷ []) before (own, tt))

-- one of the places is of the label, the rank and the place
pub begin_own :
    (rules : List (Rule ℕ)) (order : List VectorOf) (n f k j : ℕ) (places : List Occurrence) (i : ℕ) (one : Occurrence) (old new : List Alive) → i < length places → one ≡ get_or places i one →
    new ≡ old ++ fresh one.rule ∷ [] → BeginAll rules order n f k j (take i places) old → BeginAll rules order n f k j (take (i + 1) places) new
begin_own rules order n f k j places i one old new low is e before o h at begun on = elim (taken_more places i one o low is h) [
  | inl x ↦ subst (λ (xs : List Alive). Has xs (fresh o.rule)) (sym e) (has_left old (fresh one.rule ∷ []) (fresh o.rule) (before o x at begun on))
  | inr s ↦ subst (λ (x : Occurrence). Has new (fresh x.rule)) s (subst (λ (xs : List Alive). Has xs (fresh one.rule)) (sym e) (has_right old (fresh one.rule ∷ []) (fresh one.rule) (inl refl)))
]

-- one of the places is of another label, rank or place
pub begin_other :
    (rules : List (Rule ℕ)) (order : List VectorOf) (n f k j : ℕ) (places : List Occurrence) (i : ℕ) (one : Occurrence) (alive : List Alive) → i < length places → one ≡ get_or places i one →
    (one.place ≡ j → IsBegun rules f k (fresh one.rule) → GoesOn rules order n j k one.rule → ⊥) → BeginAll rules order n f k j (take i places) alive → BeginAll rules order n f k j (take (i + 1) places) alive
begin_other rules order n f k j places i one alive low is not before o h at begun on = elim (taken_more places i one o low is h) [
  | inl x ↦ before o x at begun on
  | inr s ↦
      absurd
      (not (subst (λ (x : Occurrence). x.place ≡ j) (sym s) at) (subst (λ (x : Occurrence). IsBegun rules f k (fresh x.rule)) (sym s) begun)
      (subst (λ (x : Occurrence). GoesOn rules order n j k x.rule) (sym s) on))
]

same_occurrence : (a b : Occurrence) → (a ≡ b) ⊎ (a ≡ b → ⊥)
same_occurrence a b = elim (nat_same a.bucket b.bucket) [
  | inr n ↦ inr (λ e. n (ap (λ (o : Occurrence). o.bucket) e))
  | inl x ↦ elim (nat_same a.place b.place) [
    | inr n ↦ inr (λ e. n (ap (λ (o : Occurrence). o.place) e))
    | inl y ↦ elim (nat_same a.rule b.rule) [
      | inr n ↦ inr (λ e. n (ap (λ (o : Occurrence). o.rule) e))
      | inl z ↦ inl
          (ap (λ (m : ℕ). record { bucket = m; place = a.place; rule = a.rule }) x
          ∙ ap (λ (m : ℕ). record { bucket = b.bucket; place = m; rule = a.rule }) y
          ∙ ap (λ (m : ℕ). record { bucket = b.bucket; place = b.place; rule = m }) z)
    ]
  ]
]

has_or_not : (xs : List Occurrence) (o : Occurrence) → Has xs o ⊎ (Has xs o → ⊥)
has_or_not [] o = inr (λ h. absurd h)
has_or_not (x ∷ xs) o = elim (same_occurrence x o) [
  | inl e ↦ inl (inl e)
  | inr n ↦ elim (has_or_not xs o) [
    | inl h ↦ inl (inr h)
    | inr k ↦ inr (λ h. elim h [ inl e ↦ n e | inr m ↦ k m ])
  ]
]

-- what is not lacked is there
pub is_held : (rules : List (Rule ℕ)) (many : ℕ) (lists : List (Vec Occurrence)) → LackNone rules many lists → HoldPlaces rules many (length rules) lists
is_held rules many lists none m j low in_rank = elim (has_or_not (held lists (get_or (states_of rules m) j 0)) (occurrence rules many m j)) [
  | inl h ↦ h
  | inr n ↦ absurd (none m j low in_rank n)
]

-- the places of the rules of a label and a rank whose states are in a vector are found in the
-- label's bucket
pub have_standing :
    (rules : List (Rule ℕ)) (many f k : ℕ) (v : VectorOf) (lists found : List (Vec Occurrence)) (places : List Occurrence) → LackNone rules many lists → AreFound v lists found →
    places ≡ held found (bucket f many) → HaveStanding rules many f k v places
have_standing rules many f k v lists found places none are is m j low h stands =
    let at = has_rule_place rules f k m h in
    let own = is_held rules many lists none m j at.below low in
    let b : bucket (root_label (rule_at rules m).right.label) many ≡ bucket f many = ap (λ s. bucket (root_label s) many) at.root in
    subst (λ (xs : List Occurrence). Has xs (occurrence rules many m j)) (ap (held found) b ∙ sym is) (are (get_or (states_of rules m) j 0) stands.0 (occurrence rules many m j) stands.1 own)

-- after the last place those are left that go on
pub begun_left :
    (product : ℕ → ℕ → ℕ) (rules : List (Rule ℕ)) (normal : AreNormal rules) (order : List VectorOf) (many f k n j : ℕ) (places : List Occurrence) (alive : List Alive) → j < k →
    HaveStanding rules many f k (vector_at order n) places → Each (IsBegun rules f k) alive → BeginAll rules order n f k j places alive → AreLeft product rules order f k n j k [] alive
begun_left product rules normal order many f k n j places alive low have sound whole = record {
  sound = by alive sound;
  whole = λ m w h weight low_weight on.
      let at = has_rule_place rules f k m h in
      let long = length-holes (rule_at rules m).right.kids (normal m at.below).are_holes ∙ at.many in
      let zero_weight : w ≡ 0 = subst (λ (qs : List ℕ). IsWeight product qs [] w) (none m long) weight in
      subst (λ (x : ℕ). Has alive (record { rule = m; weight = x })) (sym zero_weight)
      (whole (occurrence rules many m j) (have m j (omega (arith, low, long)) h (stands m (on j low))) refl (record { below = at.below; root = at.root; rank = long; none = refl }) on);
}
  where
    none : (m : ℕ) → length (states_of rules m) ≡ k → drop k (states_of rules m) ≡ []
    none m l = drop_whole (states_of rules m) k (omega (arith, l))

    stands : (m : ℕ) → (p : ℕ) × (p ≤ n) × (j ≡ j → p ≡ n) × Stands rules j (vector_at order p) m → Stands rules j (vector_at order n) m
    stands m s = subst (λ p. Stands rules j (vector_at order p) m) (s.2 refl) s.3

    one : (a : Alive) → IsBegun rules f k a → IsAlive product rules order f k k [] a
    one a b = record {
      below = b.below;
      root = b.root;
      rank = b.rank;
      weighs = subst (λ (qs : List ℕ). IsWeight product qs [] a.weight) (sym (none a.rule b.rank)) b.none;
    }

    by : (xs : List Alive) → Each (IsBegun rules f k) xs → Each (IsAlive product rules order f k k []) xs
    by [] e = tt
    by (x ∷ xs) e = (one x e.0, by xs e.1)

-- a rule has as many states as its rank
pub rank_is : (rules : List (Rule ℕ)) (normal : AreNormal rules) (m : ℕ) (r : Rule ℕ) (k : ℕ) → m < length rules → r ≡ rule_at rules m → k ≡ count r.right.kids → length (states_of rules m) ≡ k
rank_is rules normal m r k low is many = length-holes (rule_at rules m).right.kids (normal m low).are_holes ∙ ap (λ (x : Rule ℕ). count x.right.kids) (sym is) ∙ sym many

-- what is read off a rule
pub is_begun :
    (rules : List (Rule ℕ)) (normal : AreNormal rules) (f k m : ℕ) (r : Rule ℕ) (g n : ℕ) → m < length rules → r ≡ rule_at rules m → r.right.label ≡ label g → n ≡ count r.right.kids → g ≡ f → n ≡ k → IsBegun rules f k (fresh m)
is_begun rules normal f k m r g n low is root many same as_many = record {
  below = low;
  root = ap (λ (x : Rule ℕ). x.right.label) (sym is) ∙ root ∙ ap (λ (x : ℕ). label x) same;
  rank = rank_is rules normal m r n low is many ∙ as_many;
  none = refl;
}

pub begun_reads :
    (rules : List (Rule ℕ)) (normal : AreNormal rules) (f k m : ℕ) (r : Rule ℕ) (g n : ℕ) → m < length rules → r ≡ rule_at rules m → r.right.label ≡ label g → n ≡ count r.right.kids → IsBegun rules f k (fresh m) → (g ≡ f) × (n ≡ k)
begun_reads rules normal f k m r g n low is root many b = (
  ap root_label (sym root ∙ ap (λ (x : Rule ℕ). x.right.label) is ∙ b.root),
  sym (rank_is rules normal m r n low is many) ∙ b.rank,
)

-- what is read at a place, whatever is used for none
pub read_any : {A : Type 0} (xs : List A) (i : ℕ) (x d e : A) → i < length xs → x ≡ get_or xs i d → x ≡ get_or xs i e
read_any [] i x d e low is = absurd (omega (arith, low))
read_any (y ∷ xs) zero x d e low is = is
read_any (y ∷ xs) (suc i) x d e low is = read_any xs i x d e (omega (arith, low)) is
