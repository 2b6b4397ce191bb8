-- Rules that are put into slots.
use Rattle.std.specs.Prelude.{◌≡◌, ℕ, ◌<◌, ◌%◌, ◌⊎◌, List, [], ◌∷◌, ◌++◌, length, map, set, refl}
use Rattle.std.specs.Global.{Vec}
use Rattle.std.proofs.Common.{zero, suc, arith, ap, sym, ◌∙◌, subst, inl, inr, get_or, length-set, take}
use Rattle.std.proofs.lemmas.List.{get_or-set_same, get_or-set_other, map-set, map-append, length-map, get_or-map}
use Rattle.std.proofs.Math.ListN.{get_or-map as get_or-map-total}
use Rattle.std.proofs.lemmas.Nat.{mod_below}
use Rattle.tib_lex.specs.Lists.{Has}
use Rattle.tib_grammar.specs.declared.Rule.{Rule}
use Rattle.tib_grammar.specs.declared.Item.{Item}
use Rattle.tib_grammar.specs.declared.Item.TheVariants.{Label}
use Rattle.tib_grammar.specs.Sides.{holes}
use Rattle.tib_grammar.specs.Run.{rule_at}
use Rattle.tib_weigh.specs.declared.ready.Ready.{Ready}
use Rattle.tib_weigh.specs.Buckets.{lists_of, state_below, IsReady, Stands, HoldsAll, HoldsOnly}
use Rattle.tib_weigh.proofs.Members.{has_first, has_last, has_or_last}
use Rattle.tib_grammar.specs.Items.{state_in}
use Rattle.tib_lex.proofs.Numbers.{nat_eq_cases}
use Rattle.tib_lex.proofs.Members.{has_at}

-- one more empty slot
empty_more : (xs : List (List Ready)) → ((s : ℕ) → get_or xs s [] ≡ []) → (s : ℕ) → get_or (xs ++ [] ∷ []) s [] ≡ []
empty_more [] h zero = refl
empty_more [] h (suc s) = refl
empty_more (x ∷ xs) h zero = h 0
empty_more (x ∷ xs) h (suc s) = empty_more xs (λ t. h (suc t)) s

pub blank_more : (old new : List (Vec Ready)) (v : Vec Ready) → new ≡ old ++ v ∷ [] → v.items ≡ [] → ((s : ℕ) → get_or (lists_of old) s [] ≡ []) → (s : ℕ) → get_or (lists_of new) s [] ≡ []
blank_more old new v e empty h s =
    let lists : lists_of new ≡ lists_of old ++ [] ∷ [] =
    ap lists_of e ∙ map-append (λ (x : Vec Ready). x.items) old (v ∷ []) ∙ ap (λ (l : List Ready). lists_of old ++ l ∷ []) empty
    in
    ap (λ (xs : List (List Ready)). get_or xs s []) lists ∙ empty_more (lists_of old) h s

-- what is in slots of which none has anything
pub none_held : (xs : List (List Ready)) (s : ℕ) (r : Ready) → ((s : ℕ) → get_or xs s [] ≡ []) → Has (get_or xs s []) r → ⊥
none_held xs s r h k = subst (λ (l : List Ready). Has l r) (h s) k

module _ (old : List (List Ready)) (k : ℕ) (p : Ready) (below : k < length old) where
  abbrev one_more : List (List Ready)
  one_more = set old k (get_or old k [] ++ p ∷ [])

  -- what was in a slot is still there
  stays : (s : ℕ) (x : Ready) → Has (get_or old s []) x → Has (get_or one_more s []) x
  stays s x h = elim (nat_eq_cases s k) [
    | inl y ↦
        subst (λ i. Has (get_or one_more i []) x) (sym y.0)
        (rw (get_or-set_same old k (get_or old k [] ++ p ∷ []) [] below) (has_first (get_or old k []) p x (subst (λ i. Has (get_or old i []) x) y.0 h)))
    | inr n ↦ rw (get_or-set_other old k s (get_or old k [] ++ p ∷ []) [] n.0) h
  ]

  -- and the new one is in its own
  stands : Has (get_or one_more k []) p
  stands = rw (get_or-set_same old k (get_or old k [] ++ p ∷ []) [] below) (has_last (get_or old k []) p)

  -- nothing else came
  came : (s : ℕ) (x : Ready) → Has (get_or one_more s []) x → Has (get_or old s []) x ⊎ (p ≡ x)
  came s x h = elim (nat_eq_cases s k) [
    | inl y ↦
        let there : Has (get_or old k [] ++ p ∷ []) x = subst (λ (l : List Ready). Has l x) (ap (λ i. get_or one_more i []) y.0 ∙ get_or-set_same old k (get_or old k [] ++ p ∷ []) [] below) h in
        elim (has_or_last (get_or old k []) p x there) [
          | inl a ↦ inl (subst (λ i. Has (get_or old i []) x) (sym y.0) a)
          | inr e ↦ inr e
        ]
    | inr n ↦ inl (subst (λ (l : List Ready). Has l x) (get_or-set_other old k s (get_or old k [] ++ p ∷ []) [] n.0) h)
  ]

-- one more rule in the slot of its state
pub record FiledMore (rules : List (Rule ℕ)) (n j : ℕ) (all ps : List ℕ) (p : ℕ) (new : List (List Ready)) : Type 0 where
  pub holds : HoldsAll rules j (ps ++ p ∷ []) new
  pub only : HoldsOnly rules n j all new

pub filed_more :
    (rules : List (Rule ℕ)) (n j : ℕ) (all ps : List ℕ) (r : Ready) (old new : List (List Ready)) → 0 < length old → Has all r.position → IsReady rules n j r →
    new ≡ set old (r.state % length old) (get_or old (r.state % length old) [] ++ r ∷ []) → HoldsAll rules j ps old → HoldsOnly rules n j all old → FiledMore rules n j all ps r.position new
filed_more rules n j all ps r old new some has ready e holds only =
    let k : ℕ = r.state % length old in
    let below : k < length old = mod_below r.state (length old) some in
    let long : length new ≡ length old = ap length e ∙ length-set old k (get_or old k [] ++ r ∷ []) in
    record {
      holds = λ x h. rw (long, e) (held x (has_or_last ps r.position x h));
      only = λ s x h. own s x (came old k r below s x (subst (λ (xs : List (List Ready)). Has (get_or xs s []) x) e h));
    }
  where
    held : (x : ℕ) → Has ps x ⊎ (r.position ≡ x) → Stands (get_or (set old (r.state % length old) (get_or old (r.state % length old) [] ++ r ∷ [])) (state_below rules x j % length old) []) x
    held x (inl h) =
        let was = holds x h in
        record { ready = was.ready; has = stays old (r.state % length old) r (mod_below r.state (length old) some) (state_below rules x j % length old) was.ready was.has; is = was.is }
    held x (inr same) =
        subst (λ i. Stands (get_or (set old (r.state % length old) (get_or old (r.state % length old) [] ++ r ∷ [])) (state_below rules i j % length old) []) i) same
        (record { ready = r; has = subst (λ q. Has (get_or (set old (r.state % length old) (get_or old (r.state % length old) [] ++ r ∷ [])) (q % length old) []) r) ready.state (stands old (r.state % length old) r (mod_below r.state (length old) some)); is = refl })

    own : (s : ℕ) (x : Ready) → Has (get_or old s []) x ⊎ (r ≡ x) → Has all x.position × IsReady rules n j x
    own s x (inl h) = only s x h
    own s x (inr same) = subst (λ (y : Ready). Has all y.position × IsReady rules n j y) same (has, ready)

-- the lists of slots of which one was changed
pub lists_set : (slots : List (Vec Ready)) (k : ℕ) (v : Vec Ready) → lists_of (set slots k v) ≡ set (lists_of slots) k v.items
lists_set slots k v = map-set (λ (b : Vec Ready). b.items) slots k v

-- the state below a rule, as it was read
pub state_is :
    (rules : List (Rule ℕ)) (p j : ℕ) (r : Rule ℕ) (hs : List (Item ℕ)) (q : ℕ) → r ≡ rule_at rules p → map state_in hs ≡ holes r.right.kids → q ≡ state_in (get_or hs j (Label 0 0)) →
    state_below rules p j ≡ q
state_is rules p j r hs q same states is =
    ap (λ (x : Rule ℕ). get_or (holes x.right.kids) j 0) (sym same)
    ∙ ap (λ (l : List ℕ). get_or l j 0) (sym states)
    ∙ get_or-map-total state_in hs j (Label 0 0)
    ∙ sym is

-- a step of the loop that files rules
pub filed_step :
    (rules : List (Rule ℕ)) (n j : ℕ) (all : List ℕ) (i : ℕ) (slots : List (Vec Ready)) (many k : ℕ) (r : Ready) (was v : Vec Ready) → i < length all → 0 < many → length slots ≡ many → k ≡ r.state % many →
    r.position ≡ get_or all i 0 → IsReady rules n j r → was ≡ get_or slots k was → v.items ≡ was.items ++ r ∷ [] → HoldsAll rules j (take i all) (lists_of slots) → HoldsOnly rules n j all (lists_of slots) →
    FiledMore rules n j all (take i all) (get_or all i 0) (lists_of (set slots k v))
filed_step rules n j all i slots many k r was v h some long slot position ready at pushed holds only =
    let lists_long : length (lists_of slots) ≡ many = length-map slots (λ (b : Vec Ready). b.items) ∙ long in
    let k_is : k ≡ r.state % length (lists_of slots) = slot ∙ ap (λ m. r.state % m) (sym lists_long) in
    let below : k < length slots = omega (arith, long, slot, mod_below r.state many some) in
    let there : was.items ≡ get_or (lists_of slots) k [] = sym (get_or-map (λ (b : Vec Ready). b.items) slots k was [] below ∙ ap (λ (b : Vec Ready). b.items) (sym at)) in
    let made : lists_of (set slots k v) ≡ set (lists_of slots) (r.state % length (lists_of slots)) (get_or (lists_of slots) (r.state % length (lists_of slots)) [] ++ r ∷ []) =
    lists_set slots k v
    ∙ ap (λ (l : List Ready). set (lists_of slots) k l) (pushed ∙ ap (λ (l : List Ready). l ++ r ∷ []) there)
    ∙ ap (λ m. set (lists_of slots) m (get_or (lists_of slots) m [] ++ r ∷ [])) k_is
    in
    let has : Has all r.position = subst (Has all) (sym position) (has_at all i 0 h) in
    subst (λ p. FiledMore rules n j all (take i all) p (lists_of (set slots k v))) position
    (filed_more rules n j all (take i all) r (lists_of slots) (lists_of (set slots k v)) (omega (arith, lists_long)) has ready made holds only)
