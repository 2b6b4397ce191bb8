-- The edges of a key are listed, each once.
use Rattle.std.specs.Prelude.{◌≡◌, ℕ, ◌<◌, List, [], ◌∷◌, length, map, Bool, true, refl}
use Rattle.std.proofs.Common.{zero, suc, arith, sym, subst, inl, inr}
use Rattle.std.proofs.lemmas.Bool.{cases_lt}
use Rattle.tib_lex.specs.Lists.{Has, Distinct, Along}
use Rattle.tib_grammar.specs.Sides.{Symbol, label, hole}
use Rattle.tib_grammar.proofs.Members.{has_left, has_right, has_either}
use Rattle.tib_expand.specs.EdgeLists.{Lists}
use Rattle.tib_transducer.specs.declared.Variable.{Variable}
use Rattle.tib_strings.specs.Rules.{string_rule}
use Rattle.tib_apply.specs.Restrictions.{Admits}
use Rattle.tib_image.specs.Restrictions.{restricted_labels}
use Rattle.tib_image.specs.Parsing.{IsParseEdge}
use Rattle.tib_strings.specs.CutLists.{cuts_of}
use Rattle.tib_image.specs.ParseEdges.{admits_root, fits_key, origins_at, origins_below, edge_of, edges_of}
use Rattle.tib_strings.specs.declared.StringRule.{StringRule}
use Rattle.tib_lex.proofs.Numbers.{nat_eq_cases}
use Rattle.tib_lex.proofs.Booleans.{bool_cases}
use Rattle.tib_strings.proofs.CutLists.{stands_is, is_standing, cut_listed, listed_cut, cuts_once}
use Rattle.tib_expand.proofs.Members.{distinct_append}
use Rattle.tib_key_edges.proofs.Tagged.{has_tagged, tagged_has, tagged_once}

-- the label at the root of a left-hand side that fits
pub root_of : (labels : List ℕ) (e : ℕ) (s : Symbol ℕ Variable) → admits_root labels e s ≡ true → (root : ℕ) × (s ≡ label root) × Admits labels e root
root_of labels e (hole x) h = absurd (cc)
root_of labels zero (label f) h = (f, refl, tt)
root_of labels (suc n) (label f) h = (f, refl, stands_is labels n f h)

-- a label that fits
pub root_is : (labels : List ℕ) (e f : ℕ) → Admits labels e f → admits_root labels e (label f) ≡ true
root_is labels zero f a = refl
root_is labels (suc n) f a = is_standing labels n f a.0 a.1

record Fitting (labels : List ℕ) (key : ℕ × ℕ × ℕ × ℕ) (r : StringRule ℕ) : Type 0 where
  state : r.state ≡ key.0
  root : ℕ
  is_root : r.left.label ≡ label root
  admitted : Admits labels key.3 root

fitting : (labels : List ℕ) (key : ℕ × ℕ × ℕ × ℕ) (r : StringRule ℕ) → fits_key labels key r ≡ true → Fitting labels key r
fitting labels key r e = elim (nat_eq_cases r.state key.0) [
  | inl k ↦
      let e' = rw k.1 at e in
      let a = root_of labels key.3 r.left.label e' in
      record { state = k.0; root = a.0; is_root = a.1; admitted = a.2 }
  | inr k ↦ let e' = rw k.1 at e in absurd (cc e')
]

is_fitting : (labels : List ℕ) (key : ℕ × ℕ × ℕ × ℕ) (r : StringRule ℕ) (root : ℕ) → r.state ≡ key.0 → r.left.label ≡ label root → Admits labels key.3 root → fits_key labels key r ≡ true
is_fitting labels key r root state is_root a = elim (nat_eq_cases r.state key.0) [
  | inl k ↦ rw k.1 (subst (λ (s : Symbol ℕ Variable). admits_root labels key.3 s ≡ true) (sym is_root) (root_is labels key.3 root a))
  | inr k ↦ absurd (k.0 state)
]

along_map : {A B : Type 0} (R : A → B → Type 0) (f : A → B) (xs : List A) → ((x : A) → Has xs x → R x (f x)) → Along R xs (map f xs)
along_map R f [] h = tt
along_map R f (x ∷ xs) h = (h x (inl refl), along_map R f xs (λ y m. h y (inr m)))

module _ (moves : List (StringRule ℕ)) (string : List ℕ) (key : ℕ × ℕ × ℕ × ℕ) where
  abbrev cuts : ℕ → List (List ℕ)
  cuts n = cuts_of string (string_rule moves n).right key.1 key.2

  abbrev fit : ℕ → Bool
  fit n = fits_key (restricted_labels moves) key (string_rule moves n)

  record IsOrigin (o : ℕ × List ℕ) : Type 0 where
    fits : fit o.0 ≡ true
    has : Has (cuts o.0) o.1

  at_has : (n : ℕ) (o : ℕ × List ℕ) → Has (origins_at moves string key n) o → (n ≡ o.0) × IsOrigin o
  at_has n o h = elim (bool_cases (fit n)) [
    | inl is ↦
        let h' = rw is at h in
        let r = tagged_has n (cuts n) o h' in
        (r.0, record { fits = subst (λ (m : ℕ). fit m ≡ true) r.0 is; has = subst (λ (m : ℕ). Has (cuts m) o.1) r.0 r.1 })
    | inr isnt ↦ let h' = rw isnt at h in absurd h'
  ]

  has_at : (n : ℕ) (ks : List ℕ) → fit n ≡ true → Has (cuts n) ks → Has (origins_at moves string key n) (n, ks)
  has_at n ks is h = rw is (has_tagged n (cuts n) ks h)

  at_once : (n : ℕ) → Distinct (origins_at moves string key n)
  at_once n = elim (bool_cases (fit n)) [
    | inl is ↦ rw is (tagged_once n (cuts n) (cuts_once string (string_rule moves n).right key.1 key.2))
    | inr isnt ↦ rw isnt tt
  ]

  below_has : (n : ℕ) (o : ℕ × List ℕ) → Has (origins_below moves string key n) o → (o.0 < n) × IsOrigin o
  below_has zero o h = absurd h
  below_has (suc n) o h = elim (has_either (origins_below moves string key n) (origins_at moves string key n) o h) [
    | inl k ↦ let r = below_has n o k in (let low = r.0 in omega arith, r.1)
    | inr k ↦ let r = at_has n o k in (let at = r.0 in omega arith, r.1)
  ]

  has_below : (n m : ℕ) (ks : List ℕ) → m < n → fit m ≡ true → Has (cuts m) ks → Has (origins_below moves string key n) (m, ks)
  has_below zero m ks b is h = absurd (omega arith)
  has_below (suc n) m ks b is h = elim (cases_lt m n) [
    | inl low ↦ has_left (origins_below moves string key n) (origins_at moves string key n) (m, ks) (has_below n m ks low is h)
    | inr high ↦
        let at : m ≡ n = omega arith in
        has_right (origins_below moves string key n) (origins_at moves string key n) (m, ks) (subst (λ (l : ℕ). Has (origins_at moves string key l) (m, ks)) at (has_at m ks is h))
  ]

  below_once : (n : ℕ) → Distinct (origins_below moves string key n)
  below_once zero = tt
  below_once (suc n) =
      distinct_append (origins_below moves string key n) (origins_at moves string key n) (below_once n) (at_once n) (λ o h g.
      let low = (below_has n o h).0 in
      let at = (at_has n o g).0 in
      omega arith)

  pub edges_are_listed : Lists (IsParseEdge moves string key) (edges_of moves string key)
  edges_are_listed = record {
    origins = origins_below moves string key (length moves);
    once = below_once (length moves);
    given = along_map (IsParseEdge moves string key) (edge_of moves key) (origins_below moves string key (length moves)) gives;
    whole = λ o e h.
        has_below (length moves) o.0 o.1 h.below (is_fitting (restricted_labels moves) key (string_rule moves o.0) h.root h.state h.is_root h.admitted)
        (cut_listed string (string_rule moves o.0).right key.1 key.2 o.1 h.is_cut);
  }
    where
      gives : (o : ℕ × List ℕ) → Has (origins_below moves string key (length moves)) o → IsParseEdge moves string key o (edge_of moves key o)
      gives o h =
          let r = below_has (length moves) o h in
          let f = fitting (restricted_labels moves) key (string_rule moves o.0) r.1.fits in
          record {
            below = r.0;
            state = f.state;
            root = f.root;
            is_root = f.is_root;
            admitted = f.admitted;
            is_cut = listed_cut string (string_rule moves o.0).right key.1 key.2 o.1 r.1.has;
            left = refl;
            right = refl;
            costs = refl;
          }
