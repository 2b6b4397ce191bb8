-- One visit of a walk.
use Rattle.std.specs.Prelude.{◌≡◌, ℕ, ◌+◌, ◌-◌, ◌^◌, ◌<◌, ◌≤◌, nat_eq, nat_lt, Bool, true, false, if◌then◌else◌, List, [], ◌∷◌, length, refl}
use Rattle.std.proofs.Common.{suc, arith, ap, sym, ◌∙◌, subst, append-nil}
use Rattle.tib_lex.specs.Lists.{Each}
use Rattle.tib_lex.proofs.Members.{each_has}
use Rattle.tib_grammar.proofs.Members.{has_at}
use Rattle.tib_grammar.specs.Forms.{AreNormal}
use Rattle.tib_grammar.specs.declared.Rule.{Rule}
use Rattle.tib_cost.specs.Semiring.{ProductLaws}
use Rattle.tib_determinize.specs.declared.alive.Alive.{Alive}
use Rattle.tib_determinize.specs.declared.walk.Level.{Level}
use Rattle.tib_determinize.specs.declared.listing.VectorListing.{VectorListing}
use Rattle.tib_determinize.specs.Vectors.{VectorOf, Rises, vector_at}
use Rattle.tib_determinize.specs.Alive.{narrowed, HasPlace, AreLeft}
use Rattle.tib_determinize.specs.Tries.{first_at, many_at, span, under, behind_label}
use Rattle.tib_determinize.specs.Levels.{IsLevel, IsWanted, tries_of}
use Rattle.tib_determinize.specs.Stepped.{IsListing, AreSteps, AddsSteps}
use Rattle.tib_determinize.proofs.Remaining.{under_none}
use Rattle.tib_determinize.proofs.PositionsTried.{ends_up_to}
use Rattle.tib_determinize.proofs.Walked.{narrowed_left, have_place}

-- at its last place n is alone
pub only_one : (n j i next end : ℕ) → next ≡ first_at n j i → end ≡ first_at n j i + many_at n j i → i ≡ j → (n ≤ next) × (end ≤ suc n)
only_one n j i next end a b e = by (nat_eq i j) (same i j e) a b
  where
    same : (i j : ℕ) → i ≡ j → nat_eq i j ≡ true
    same i j e = grind arith

    by : (t : Bool) → t ≡ true → next ≡ (if t then n else 0) → end ≡ (if t then n else 0) + (if t then 1 else (if nat_lt j i then n else suc n)) → (n ≤ next) × (end ≤ suc n)
    by true x a b = (omega (arith, a), omega (arith, b))
    by false x a b = absurd (cc)

-- what adds no edges
pub adds_nothing : (product : ℕ → ℕ → ℕ) (rules : List (Rule ℕ)) (order : List VectorOf) (all : List (ℕ × List ℕ)) (old : VectorListing) → AreSteps product rules order all [] → AddsSteps product rules order all old old
adds_nothing product rules order all old none es l = ([], subst (IsListing old) (sym (append-nil es)) l, λ rest e. subst (AreSteps product rules order all) (sym e) none)

module _
    (product : ℕ → ℕ → ℕ) {levelled weighted : Bool} (laws : ProductLaws levelled weighted product) (rules : List (Rule ℕ)) (normal : AreNormal rules) (order : List VectorOf) (f k n j : ℕ)
    (rise : Each (λ v. Rises v) order) (l : Level) (level : IsLevel product rules order f k n j l) where
  pub low : l.place < k
  low = let p = level.place in omega (arith, p)

  -- each rule that is alive has a state at the place
  pub places : Each (HasPlace rules l.place) l.alive.items
  places = have_place product laws rules normal order f k l.place l.behind.items l.alive.items low level.alive.sound

  module _ (next : l.next < l.end) where
    pub in_order : l.next < length order
    in_order = let w = level.within in omega (arith, next, w)

    pub fits : l.next < 2 ^ 32
    fits = let w = level.fits in omega (arith, next, w)

    -- the states of the vector at the next position ascend
    pub rises_next : (v : VectorOf) → v ≡ vector_at order l.next → Rises v
    rises_next v at = subst (λ (w : VectorOf). Rises w) (sym at) (each_has (λ v. Rises v) order (vector_at order l.next) rise (has_at order l.next [] in_order))

    -- the rules that are alive at the next position
    pub alive_next : (v : VectorOf) (alive : List Alive) → v ≡ vector_at order l.next → alive ≡ narrowed product rules l.place v l.alive.items →
        AreLeft product rules order f k n j l.place (l.next ∷ l.behind.items) alive
    alive_next v alive at e =
        subst (AreLeft product rules order f k n j l.place (l.next ∷ l.behind.items)) (sym (e ∙ ap (λ (w : VectorOf). narrowed product rules l.place w l.alive.items) at))
        (narrowed_left product laws rules normal order f k l.place l.next l.behind.items low (each_has (λ v. Rises v) order (vector_at order l.next) rise (has_at order l.next [] in_order))
        n j (let up = level.up in omega (arith, next, up)) the_only l.alive.items level.alive)
      where
        the_only : l.place ≡ j → l.next ≡ n
        the_only s = let r = level.last s in let from = r.0 in let to = r.1 in omega (arith, from, to, next)

    pub long : l.place + length (l.next ∷ l.behind.items) ≡ k
    long = let p = level.place in omega (arith, p)

    -- where none is, there is no edge
    pub nothing_next : (alive : List Alive) → AreLeft product rules order f k n j l.place (l.next ∷ l.behind.items) alive → alive ≡ [] →
        AreSteps product rules order (behind_label f (under n j l.place (l.next ∷ l.behind.items))) []
    nothing_next alive h e = under_none product laws rules normal order f k n j l.place (l.next ∷ l.behind.items) long (subst (AreLeft product rules order f k n j l.place (l.next ∷ l.behind.items)) e h)

  -- the level of the place before
  pub level_below :
      (i : ℕ) (b : Level) (ps : List ℕ) (alive : List Alive) → suc i ≡ l.place → AreLeft product rules order f k n j l.place ps alive → l.place + length ps ≡ k → b.place ≡ i →
      b.behind.items ≡ ps → b.alive.items ≡ alive → b.next ≡ first_at n j i → b.end ≡ first_at n j i + many_at n j i → IsWanted rules order b → b.end ≤ length order → b.end ≤ 2 ^ 32 → IsLevel product rules order f k n j b
  level_below i b ps alive at h total place behind is next end wanted within fits = record {
    place = ap (λ m. suc m + length b.behind.items) place ∙ ap (λ (xs : List ℕ). suc i + length xs) behind ∙ ap (λ m. m + length ps) at ∙ total;
    alive = subst (λ m. AreLeft product rules order f k n j (suc m) b.behind.items b.alive.items) (sym place)
        (subst (λ (xs : List ℕ). AreLeft product rules order f k n j (suc i) xs b.alive.items) (sym behind)
        (subst (λ (ms : List Alive). AreLeft product rules order f k n j (suc i) ps ms) (sym is) (subst (λ m. AreLeft product rules order f k n j m ps alive) (sym at) h)));
    last = λ e. only_one n j i b.next b.end next end (sym place ∙ e);
    up = ends_up_to n j i b.end end;
    wanted = wanted;
    within = within;
    fits = fits;
  }

-- the lists of a fresh level are those that end in the positions after it
pub tries_fresh :
    (n j i : ℕ) (b : Level) (ps : List ℕ) → b.place ≡ i → b.behind.items ≡ ps → b.next ≡ first_at n j i → b.end ≡ first_at n j i + many_at n j i →
    tries_of n j b ≡ under n j (suc i) ps
tries_fresh n j i b ps place behind next end =
    let many : b.end - b.next ≡ many_at n j i = omega (arith, next, end) in
    ap (λ c. span (λ p. under n j b.place (p ∷ b.behind.items)) b.next c) many
    ∙ ap (λ s. span (λ p. under n j b.place (p ∷ b.behind.items)) s (many_at n j i)) next
    ∙ ap (λ m. span (λ p. under n j m (p ∷ b.behind.items)) (first_at n j i) (many_at n j i)) place
    ∙ ap (λ (xs : List ℕ). span (λ p. under n j i (p ∷ xs)) (first_at n j i) (many_at n j i)) behind

-- a whole list is the only one that ends in itself
pub leaf_is : (f n j i : ℕ) (ps qs : List ℕ) → i ≡ 0 → qs ≡ ps → ◌≡◌ {A = List (ℕ × List ℕ)} ((f, qs) ∷ []) (behind_label f (under n j i ps))
leaf_is f n j i ps qs z e = ap (λ (xs : List ℕ). behind_label f (xs ∷ [])) e ∙ sym (ap (λ m. behind_label f (under n j m ps)) z)

-- a list of no length is empty
pub nothing_left : (alive : List Alive) → length alive ≡ 0 → alive ≡ []
nothing_left [] e = refl
nothing_left (a ∷ alive) e = absurd (omega arith)
