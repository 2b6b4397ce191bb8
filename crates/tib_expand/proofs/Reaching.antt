-- Where the rounds lead, and what has more parts than a limit.
use Rattle.std.proofs.Common.{◌≡◌, ◌⊎◌, inl, inr, ℕ, zero, suc, ◌+◌, ◌-◌, ◌<◌, ◌≤◌, Bool, true, List, [], ◌∷◌, ◌++◌, length, take, refl, sym, ap, subst, ◌∙◌, arith, length-append, append_assoc, append-nil}
use Rattle.std.specs.declared.cmp.Ordering.{Ordering}
use Rattle.std.proofs.lemmas.Bool.{cases_lt}
use Rattle.std.specs.declared.cmp.Ordering.TheVariants.{Less, Equal, Greater}
use Rattle.std.specs.Ordering.{ordering_reverse}
use Rattle.std.specs.Cmp.{IsTotalOrder}
use Rattle.tib_lex.specs.Lists.{Has, Distinct, total}
use Rattle.tib_expand.specs.EdgeLists.{Exceeds}
use Rattle.tib_expand.specs.Lawful.{IsLawful}
use Rattle.tib_expand.specs.Reading.{Reading}
use Rattle.tib_expand.specs.Reached.{IfTooMany, Exploration, AreAscending, IsNew, AfterRounds, IsReached, AreEdges, IsBeyond, Leads}
pub use Rattle.tib_expand.proofs.Limits.{IfTooMany-weaker}
use Rattle.tib_expand.proofs.Members.{total_fewer, same_ascending, Lists-parts, Lists-to}
use Rattle.tib_lex.proofs.Members.{has_left, has_right}
use Rattle.tib_lex.proofs.Lists.{total_append}

-- m after n
abbrev pub later : ℕ → ℕ → ℕ
later zero n = n
later (suc m) n = suc (later m n)

-- a sum as that
pub later_is : (m n k : ℕ) → k ≡ m + n → k ≡ later m n
later_is zero n k e = (let d : k ≡ n = omega arith in d)
later_is (suc m) n zero e = absurd (omega arith)
later_is (suc m) n (suc k) e = ap suc (later_is m n k (omega arith))

abbrev IsNotGreater : Ordering → Type 0
IsNotGreater Less = Unit {0}
IsNotGreater Equal = Unit {0}
IsNotGreater Greater = ⊥

less≢greater : Less ≡ Greater → ⊥
less≢greater e = subst IsNotGreater e tt

-- of two keys not each is less than the other
pub apart : {K : Type 0} (cmp : K → K → Ordering) → IsTotalOrder cmp → (x y : K) → cmp x y ≡ Less → cmp y x ≡ Less → ⊥
apart cmp o x y a b = less≢greater (sym a ∙ o.antisymm x y ∙ ap ordering_reverse b)

-- The laws of an operation: its keys have a total order, an origin gives one edge, and the edges of
-- a position stay when the order grows.
pub record Laws {K O E : Type 0} (p : Exploration K O E) : Type 0 where
  pub total_order : IsTotalOrder p.cmp
  pub one_seed_edge : (o : O) (e f : E) → p.seed_edge o e → p.seed_edge o f → e ≡ f
  pub one_edge : (order : List K) (n : ℕ) (o : O) (e f : E) → p.edge order n o e → p.edge order n o f → e ≡ f
  pub stay : (xs ys : List K) (n : ℕ) (o : O) (e : E) → n < length xs → p.edge xs n o e → p.edge (xs ++ ys) n o e
  pub back : (xs ys : List K) (n : ℕ) (o : O) (e : E) → n < length xs → p.edge (xs ++ ys) n o e → p.edge xs n o e

-- What the lemmas on a hunt take: the operation is lawful, and keys that compare equal are one.
pub record IsHunt {K O E R T : Type 0} (p : Exploration K O E) (admits : K → Type 0) (reading : Reading K E R T) (cmp : K → K → Ordering) (entries : K → ℕ) (eq : K → K → Bool) : Type 0 where
  pub lawful : IsLawful p admits reading cmp entries
  pub laws : Laws p
  pub same : (x y : K) → eq x y ≡ true → x ≡ y
  pub self : (x : K) → eq x x ≡ true

-- a lawful operation has these laws
laws_of : {K O E R T : Type 0} {p : Exploration K O E} {admits : K → Type 0} {reading : Reading K E R T} {cmp : K → K → Ordering} {entries : K → ℕ} → IsLawful p admits reading cmp entries → IsTotalOrder cmp → Laws p
laws_of lawful total = record {
  total_order = subst IsTotalOrder (sym lawful.same_order) total;
  one_seed_edge = lawful.one_seed_edge;
  one_edge = lawful.one_edge;
  stay = λ xs ys n o e l g. lawful.edges_stay xs (xs ++ ys) n o e l (longer xs ys n l) (front xs ys (n + 1) (omega arith)) g;
  back = λ xs ys n o e l g. lawful.edges_stay (xs ++ ys) xs n o e (longer xs ys n l) l (sym (front xs ys (n + 1) (omega arith))) g;
}
  where
    longer : {A : Type 0} (xs ys : List A) (n : ℕ) → n < length xs → n < length (xs ++ ys)
    longer xs ys n l = let e = length-append xs ys in omega arith

    front : {A : Type 0} (xs ys : List A) (m : ℕ) → m ≤ length xs → take m xs ≡ take m (xs ++ ys)
    front [] [] zero l = refl
    front [] (y ∷ ys) zero l = refl
    front [] ys (suc m) l = absurd (omega arith)
    front (x ∷ xs) ys zero l = refl
    front (x ∷ xs) ys (suc m) l = ap (λ (k : List _). x ∷ k) (front xs ys m (omega arith))

-- what lemmas take, from a lawful operation and what the key type promises
pub hunt_of : {K O E R T : Type 0} {p : Exploration K O E} {admits : K → Type 0} {reading : Reading K E R T} {cmp : K → K → Ordering} {entries : K → ℕ} {eq : K → K → Bool}
    → IsLawful p admits reading cmp entries → IsTotalOrder cmp → ((x y : K) → eq x y ≡ true → x ≡ y) → ((x : K) → eq x x ≡ true) → IsHunt p admits reading cmp entries eq
hunt_of lawful total same self = record { lawful = lawful; laws = laws_of lawful total; same = same; self = self }

module _ {K O E : Type 0} (p : Exploration K O E) (laws : Laws p) where
  -- edges

  -- the edges of the first positions stay when the order grows
  pub edges_stay : (xs ys : List K) (n : ℕ) (es : List E) → n ≤ length xs → AreEdges p xs n es → AreEdges p (xs ++ ys) n es
  edges_stay xs ys zero es low l = l
  edges_stay xs ys (suc n) es low (front, last, is, before, l) =
      (front, last, is, edges_stay xs ys n front (omega arith) before, Lists-to (p.edge xs n) (p.edge (xs ++ ys) n) (λ o e. laws.stay xs ys n o e (omega arith)) (λ o e. laws.back xs ys n o e (omega arith)) last l)

  -- the edges of fewer positions have at most as many parts
  pub fewer_parts : (order : List K) (n m : ℕ) (es fs : List E) → AreEdges p order n es → AreEdges p order (later m n) fs → total p.edge_parts es ≤ total p.edge_parts fs
  fewer_parts order zero zero es fs a b = Lists-parts p.seed_edge p.edge_parts laws.one_seed_edge es fs a b
  fewer_parts order (suc n) zero es fs (front, last, is, before, l) (front', last', is', before', l') =
      let a = fewer_parts order n 0 front front' before before' in
      let b = Lists-parts (p.edge order n) p.edge_parts (laws.one_edge order n) last last' l l' in
      let c = ap (total p.edge_parts) is ∙ total_append p.edge_parts front last in
      let d = ap (total p.edge_parts) is' ∙ total_append p.edge_parts front' last' in
      omega arith
  fewer_parts order n (suc m) es fs a (front, last, is, before, l) =
      let b = fewer_parts order n m es front a before in
      let d = ap (total p.edge_parts) is ∙ total_append p.edge_parts front last in
      omega arith

  -- the edges of one more position than those
  pub more_parts : (order : List K) (n m : ℕ) (es fs : List E) (budget : ℕ) → AreEdges p order n es → Exceeds (p.edge order n) p.edge_parts budget → AreEdges p order (later m (suc n)) fs → total p.edge_parts es + budget < total p.edge_parts fs
  more_parts order n zero es fs budget a x (front, last, is, before, l) =
      let b = fewer_parts order n 0 es front a before in
      let c = x last l in
      let d = ap (total p.edge_parts) is ∙ total_append p.edge_parts front last in
      omega arith
  more_parts order n (suc m) es fs budget a x (front, last, is, before, l) =
      let b = more_parts order n m es front budget a x before in
      let d = ap (total p.edge_parts) is ∙ total_append p.edge_parts front last in
      omega arith

  -- rounds

  one_round : (old : List K) (first : ℕ) (new new' : List K) → AreAscending p (IsNew p old first) new → AreAscending p (IsNew p old first) new' → new ≡ new'
  one_round old first new new' a b = same_ascending {Before = λ x y. p.cmp x y ≡ Less} (apart p.cmp laws.total_order) new new' a.0 b.0 (λ k h. (b.1 k).1 ((a.1 k).0 h)) (λ k h. (a.1 k).1 ((b.1 k).0 h))

  -- the same number of rounds gives one order
  pub one_order : (n : ℕ) (e f : ℕ) (o u : List K) → AfterRounds p n e o → AfterRounds p n f u → (e ≡ f) × (o ≡ u)
  one_order zero e f o u a b = (a.0 ∙ sym b.0, same_ascending {Before = λ x y. p.cmp x y ≡ Less} (apart p.cmp laws.total_order) o u a.1.0 b.1.0 (λ k h. (b.1.1 k).1 ((a.1.1 k).0 h)) (λ k h. (a.1.1 k).1 ((b.1.1 k).0 h)))
  one_order (suc n) e f o u (old, first, new, before, is, at, made) (old', first', new', before', is', at', made') =
      let s = one_order n first first' old old' before before' in
      let is'' : AreAscending p (IsNew p old first) new' = subst (λ (i : ℕ). AreAscending p (IsNew p old i) new') (sym s.0) (subst (λ (l : List K). AreAscending p (IsNew p l first') new') (sym s.1) is') in
      let t = one_round old first new new' is is'' in
      (at ∙ ap length s.1 ∙ sym at', made ∙ (λ i. s.1 i ++ t i) ∙ sym made')

  -- the order after fewer rounds is the front of one after more
  pub at_round : (m n f : ℕ) (u : List K) → AfterRounds p (later m n) f u → (e : ℕ) × (o : List K) × AfterRounds p n e o × (rest : List K) × (u ≡ o ++ rest)
  at_round zero n f u a = (f, u, a, [], sym (append-nil u))
  at_round (suc m) n f u (old, first, new, before, is, at, made) =
      let r = at_round m n first old before in
      (r.0, r.1, r.2, r.3 ++ new, made ∙ ap (λ (l : List K). l ++ new) r.4 ∙ append_assoc r.1 r.3 new)

  -- where a round appends nothing, no later one does
  pub stays : (m n e f : ℕ) (o u : List K) → AfterRounds p n e o → ((k : K) → IsNew p o e k → ⊥) → AfterRounds p (later m n) f u → (u ≡ o) × ((k : K) → IsNew p u f k → ⊥)
  stays zero n e f o u a stops b = let s = one_order n e f o u a b in (sym s.1, subst (λ (l : List K). (k : K) → IsNew p l f k → ⊥) s.1 (subst (λ (i : ℕ). (k : K) → IsNew p o i k → ⊥) s.0 stops))
  stays (suc m) n e f o u a stops (old, first, new, before, is, at, made) =
      let s = stays m n e first o old a stops before in
      let nothing : new ≡ [] = empty new (λ k h. s.1 k ((is.1 k).0 h)) in
      let same : u ≡ old = made ∙ ap (λ (l : List K). old ++ l) nothing ∙ append-nil old in
      (same ∙ s.0, λ k h. let far : length old ≤ h.0.0 = subst (λ (i : ℕ). i ≤ h.0.0) at h.0.1 in let near : h.0.0 < length old = subst (λ (l : List K). h.0.0 < length l) same h.0.2 in absurd (omega arith))
    where
      empty : (l : List K) → ((k : K) → Has l k → ⊥) → l ≡ []
      empty [] h = refl
      empty (x ∷ xs) h = absurd (h x (inl refl))

  -- each order by rounds is the front of the reached one, and all new keys are in that
  pub in_reached : (n e : ℕ) (o : List K) → AfterRounds p n e o → (whole : List K) → IsReached p whole → ((rest : List K) × (whole ≡ o ++ rest)) × ((k : K) → IsNew p o e k → Has whole k)
  in_reached n e o a whole (m, f, b, stops) = go (cases_lt n m)
    where
      go : ((n < m) ⊎ (m ≤ n)) → ((rest : List K) × (whole ≡ o ++ rest)) × ((k : K) → IsNew p o e k → Has whole k)
      go (inl l) =
          let d : m ≡ later (m - suc n) (suc n) = later_is (m - suc n) (suc n) m (omega arith) in
          let r = at_round (m - suc n) (suc n) f whole (subst (λ (i : ℕ). AfterRounds p i f whole) d b) in
          let q = r.2 in
          let s = one_order n e q.1 o q.0 a q.3 in
          let w : whole ≡ o ++ (q.2 ++ r.3) = r.4 ∙ ap (λ (l : List K). l ++ r.3) q.6 ∙ append_assoc q.0 q.2 r.3 ∙ ap (λ (l : List K). l ++ (q.2 ++ r.3)) (sym s.1) in
          ((q.2 ++ r.3, w), λ k h. subst (λ (l : List K). Has l k) (sym w) (has_right o (q.2 ++ r.3) k (has_left q.2 r.3 k ((q.4.1 k).1 (subst (λ (i : ℕ). IsNew p q.0 i k) s.0 (subst (λ (l : List K). IsNew p l e k) s.1 h))))))
      go (inr l) =
          let d : n ≡ later (n - m) m = later_is (n - m) m n (omega arith) in
          let s = stays (n - m) m f e whole o b stops (subst (λ (i : ℕ). AfterRounds p i e o) d a) in
          (([], sym s.0 ∙ sym (append-nil o)), λ k h. absurd (s.1 k h))

  -- the seeds are in the reached order
  pub seeds_reached : (whole : List K) → IsReached p whole → (k : K) → p.seed k → Has whole k
  seeds_reached whole (m, f, b, stops) k h =
      let r = at_round m 0 f whole (subst (λ (i : ℕ). AfterRounds p i f whole) (later_is m 0 m (omega arith)) b) in
      subst (λ (l : List K). Has l k) (sym r.4) (has_left r.1 r.3 k ((r.2.1.1 k).1 h))

  -- parts

  module _ (order keys : List K) (leads : Leads p order keys) (once : Distinct keys) (n : ℕ) (es : List E) (low : n ≤ length order) (edges : AreEdges p order n es) (limit : ℕ) where
    -- keys and edges with too many parts
    pub beyond : limit < total p.key_parts keys + total p.edge_parts es → IsBeyond p limit
    beyond more whole fs (reached, all) =
        let f = leads.front whole reached in
        let a = total_fewer p.key_parts keys whole once (leads.stand whole reached) in
        let here : AreEdges p whole n es = subst (λ (l : List K). AreEdges p l n es) (sym f.1) (edges_stay order f.0 n es low edges) in
        let long : length whole ≡ length order + length f.0 = ap length f.1 ∙ length-append order f.0 in
        let d : length whole ≡ later (length whole - n) n = later_is (length whole - n) n (length whole) (omega arith) in
        let b = fewer_parts whole n (length whole - n) es fs here (subst (λ (i : ℕ). AreEdges p whole i fs) d all) in
        omega arith

    -- edges of one more position with too many parts
    pub beyond_more : (budget : ℕ) → n < length order → Exceeds (p.edge order n) p.edge_parts budget → limit ≤ total p.key_parts keys + total p.edge_parts es + budget → IsBeyond p limit
    beyond_more budget below exceeds more whole fs (reached, all) =
        let f = leads.front whole reached in
        let a = total_fewer p.key_parts keys whole once (leads.stand whole reached) in
        let here : AreEdges p whole n es = subst (λ (l : List K). AreEdges p l n es) (sym f.1) (edges_stay order f.0 n es low edges) in
        let x : Exceeds (p.edge whole n) p.edge_parts budget = subst (λ (l : List K). Exceeds (p.edge l n) p.edge_parts budget) (sym f.1) (λ gs l. exceeds gs (Lists-to (p.edge (order ++ f.0) n) (p.edge order n) (λ o e. laws.back order f.0 n o e below) (λ o e. laws.stay order f.0 n o e below) gs l)) in
        let long : length whole ≡ length order + length f.0 = ap length f.1 ∙ length-append order f.0 in
        let d : length whole ≡ later (length whole - suc n) (suc n) = later_is (length whole - suc n) (suc n) (length whole) (omega arith) in
        let b = more_parts whole n (length whole - suc n) es fs budget here x (subst (λ (i : ℕ). AreEdges p whole i fs) d all) in
        omega arith
