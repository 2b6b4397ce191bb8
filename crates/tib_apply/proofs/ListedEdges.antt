-- One more edge in a list, and what whole lists of edges say.
use Rattle.std.specs.Prelude.{◌≡◌, ◌↔◌, ℕ, ◌<◌, ◌≤◌, List, [], ◌∷◌, ◌++◌, length, map, refl, slice_index_or}
use Rattle.std.proofs.Common.{zero, suc, arith, ap, sym, ◌∙◌, subst, inl, inr}
use Rattle.std.proofs.lemmas.List.{length-append}
use Rattle.tib_lex.specs.Lists.{Has, Each, Along, total}
use Rattle.tib_lex.proofs.Lists.{each_weaker, total_more}
use Rattle.tib_lex.proofs.Members.{distinct_more, has_left, has_right, has_either}
use Rattle.tib_tree.specs.Trees.{only}
use Rattle.tib_cost.specs.Semiring.{most}
use Rattle.tib_lex.proofs.Alongs.{along_of, along_more, total_fewer}
use Rattle.tib_lex.proofs.Places.{index_append, index_get}
use Rattle.tib_grammar.specs.Sides.{holes_of, side_map}
use Rattle.tib_grammar.specs.declared.Rule.{Rule}
use Rattle.tib_grammar.proofs.Positions.{all_ends-more}
use Rattle.tib_expand.specs.declared.place.Place.TheVariants.{End}
use Rattle.tib_expand.specs.EdgeLists.{IsWithin, IsEnd, Exceeds, AreListed, key_at as key_in}
use Rattle.tib_apply.specs.KeyGrammars.{key_at}
use Rattle.tib_apply.specs.Operations.{edge_parts}
use Rattle.tib_apply.specs.KeyRules.{carried, places_of, read_places, end_at, Reads}
use Rattle.tib_apply.specs.KeyLaws.{side_same}
use Rattle.tib_apply.specs.Listing.{AddsEdge, IsNext, IsTooMuch, IsWithinBudget, IsAlike, IsListed, Overruns, AreListedFrom}
use Rattle.tib_apply.specs.declared.edge_list.EdgeList.{EdgeList}
use Rattle.tib_key_edges.proofs.Reading.{both_ends}

along_weaker : {A B : Type 0} (R S : A → B → Type 0) → ((x : A) (y : B) → R x y → S x y) → (xs : List A) (ys : List B) → Along R xs ys → Along S xs ys
along_weaker R S f [] [] a = tt
along_weaker R S f [] (y ∷ ys) a = absurd a
along_weaker R S f (x ∷ xs) [] a = absurd a
along_weaker R S f (x ∷ xs) (y ∷ ys) a = (f x y a.0, along_weaker R S f xs ys a.1)

-- an index in range reads one element
index_same : {K : Type 0} (xs : List K) (i : ℕ) (d c : K) → i < length xs → slice_index_or xs i d ≡ slice_index_or xs i c
index_same [] i d c h = absurd (omega arith)
index_same (x ∷ xs) zero d c h = refl
index_same (x ∷ xs) (suc i) d c h = index_same xs i d c (omega arith)

-- a rule reads the same where the ends go on
reads_longer : (key : ℕ × ℕ × ℕ) (n : ℕ) (xs ys : List (ℕ × ℕ × ℕ)) (r : Rule ℕ) (e : Rule (ℕ × ℕ × ℕ)) → Reads key n xs r e → Reads key n (xs ++ ys) r e
reads_longer key n xs ys r e h = record {
  at = h.at;
  within = each_weaker (λ i. i < length xs) (λ i. i < length (xs ++ ys)) (carried (only r.right)) (λ i b. omega (arith, b, length-append xs ys)) h.within;
  read = h.read
      ∙ ap (λ s. record { left = key; right = s; cost = r.cost })
      (side_same (end_at xs) (end_at (xs ++ ys)) r.right.label r.right.kids
      (each_weaker (λ i. i < length xs) (λ i. end_at xs i ≡ end_at (xs ++ ys) i) (carried (only r.right)) (λ i b. sym (index_append xs ys i (0, 0, 0) b)) h.within));
}

module _ {O : Type 0} (Edge : O → Rule (ℕ × ℕ × ℕ) → Type 0) (key : ℕ × ℕ × ℕ) (tried : List O) (o : O) (fresh : Has tried o → ⊥) where
  -- an edge of an origin that was not tried
  listed_added :
      (e : Rule (ℕ × ℕ × ℕ)) (l m : EdgeList) → Edge o e → IsAlike l m → IsListed Edge key tried l → AddsEdge key e l m → IsListed Edge key (tried ++ o ∷ []) m
  listed_added e l m is alike listed added =
      let old : Along (Reads key l.position m.ends.items) l.rules.items listed.edges =
      subst (λ es. Along (Reads key l.position es) l.rules.items listed.edges) (sym added.ends)
      (along_weaker (Reads key l.position l.ends.items) (Reads key l.position (l.ends.items ++ holes_of e.right)) (λ r f. reads_longer key l.position l.ends.items (holes_of e.right) r f) l.rules.items listed.edges listed.read)
      in
      let all : Along (Reads key l.position m.ends.items) m.rules.items (listed.edges ++ e ∷ []) =
      subst (λ rs. Along (Reads key l.position m.ends.items) rs (listed.edges ++ e ∷ [])) (sym added.rules) (along_more (Reads key l.position m.ends.items) l.rules.items listed.edges added.rule e old added.reads) in
      record {
        origins = listed.origins ++ o ∷ [];
        edges = listed.edges ++ e ∷ [];
        once = distinct_more listed.origins o listed.once (λ h. fresh (listed.were_tried o h));
        given = along_more Edge listed.origins listed.edges o e listed.given is;
        were_tried = λ x h. elim (has_either listed.origins (o ∷ []) x h) [
          | inl k ↦ has_left tried (o ∷ []) x (listed.were_tried x k)
          | inr k ↦ has_right tried (o ∷ []) x k
        ];
        whole = λ x f h d. elim (has_either tried (o ∷ []) x h) [
          | inl k ↦ has_left listed.origins (o ∷ []) x (listed.whole x f k d)
          | inr k ↦ has_right listed.origins (o ∷ []) x k
        ];
        read = subst (λ n. Along (Reads key n m.ends.items) m.rules.items (listed.edges ++ e ∷ [])) (sym alike.position) all;
        ends_are = added.ends ∙ ap (λ es. es ++ holes_of e.right) listed.ends_are ∙ sym (all_ends-more listed.edges e);
        counted = omega (arith, added.parts, listed.counted, total_more edge_parts listed.edges e);
      }

  -- an origin that gives no edge
  listed_passed : (l m : EdgeList) → ((e : Rule (ℕ × ℕ × ℕ)) → Edge o e → ⊥) → IsAlike l m → IsListed Edge key tried l → m.ends.items ≡ l.ends.items → m.rules.items ≡ l.rules.items → m.parts ≡ l.parts → IsListed Edge key (tried ++ o ∷ []) m
  listed_passed l m nothing alike listed ends rules parts = record {
    origins = listed.origins;
    edges = listed.edges;
    once = listed.once;
    given = listed.given;
    were_tried = λ x h. has_left tried (o ∷ []) x (listed.were_tried x h);
    whole = λ x e h d. elim (has_either tried (o ∷ []) x h) [
      | inl k ↦ listed.whole x e k d
      | inr k ↦ elim k [ inl same ↦ absurd (nothing e (subst (λ y. Edge y e) (sym same) d)) | inr no_more ↦ absurd no_more ]
    ];
    read = subst (λ n. Along (Reads key n m.ends.items) m.rules.items listed.edges) (sym alike.position)
        (subst (λ rs. Along (Reads key l.position m.ends.items) rs listed.edges) (sym rules) (subst (λ es. Along (Reads key l.position es) l.rules.items listed.edges) (sym ends) listed.read));
    ends_are = ends ∙ listed.ends_are;
    counted = parts ∙ listed.counted;
  }

  -- one more origin, where e is its edge unless it costs too much
  pub listed_next :
      (e : Rule (ℕ × ℕ × ℕ)) (l m : EdgeList) → (e.cost ≤ most → Edge o e) → ((f : Rule (ℕ × ℕ × ℕ)) → Edge o f → f.cost ≡ e.cost) → ((f : Rule (ℕ × ℕ × ℕ)) → Edge o f → f.cost ≤ most) →
      IsAlike l m → IsListed Edge key tried l → IsNext key e l m → IsListed Edge key (tried ++ o ∷ []) m
  listed_next e l m is same within alike listed next = elim next [
    | inl a ↦ listed_added e l m (is a.within) alike listed a
    | inr p ↦ listed_passed l m (λ f d. let x = p.above in let y = within f d in let z = same f d in omega arith) alike listed p.ends p.rules p.parts
  ]

  -- an origin whose edge is too much
  pub overruns_next : (e : Rule (ℕ × ℕ × ℕ)) (l : EdgeList) → (e.cost ≤ most → Edge o e) → IsListed Edge key tried l → IsTooMuch e l → Overruns Edge l.budget
  overruns_next e l is listed much = record {
    origins = listed.origins ++ o ∷ [];
    edges = listed.edges ++ e ∷ [];
    once = distinct_more listed.origins o listed.once (λ h. fresh (listed.were_tried o h));
    given = along_more Edge listed.origins listed.edges o e listed.given (is much.within);
    more = omega (arith, much.more, listed.counted, total_more edge_parts listed.edges e);
  }

-- an empty list has the edges of no origin
pub nothing_listed : {O : Type 0} (Edge : O → Rule (ℕ × ℕ × ℕ) → Type 0) (key : ℕ × ℕ × ℕ) (l : EdgeList) → length l.ends.items ≡ 0 → length l.rules.items ≡ 0 → l.parts ≡ 0 → IsListed Edge key [] l
nothing_listed Edge key l ends rules parts = record {
  origins = [];
  edges = [];
  once = tt;
  given = tt;
  were_tried = λ o h. absurd h;
  whole = λ o e h d. absurd h;
  read = subst (λ rs. Along (Reads key l.position l.ends.items) rs []) (sym (empty l.rules.items rules)) tt;
  ends_are = empty l.ends.items ends;
  counted = parts;
}
  where
    empty : {A : Type 0} (xs : List A) → length xs ≡ 0 → xs ≡ []
    empty [] e = refl
    empty (x ∷ xs) e = absurd (omega arith)

-- a whole list, over an order that has its key at its position

places_within : (known many n : ℕ) (is : List ℕ) → Each (λ i. i < many) is → Each (IsWithin known many) (map End is)
places_within known many n [] h = tt
places_within known many n (i ∷ is) h = (h.0, places_within known many n is h.1)

module _ (key : ℕ × ℕ × ℕ) (order ends : List (ℕ × ℕ × ℕ)) (n : ℕ) (low : n < length order) (there : key_at order n ≡ key) where
  reads_within : (rules : List (Rule ℕ)) (es : List (Rule (ℕ × ℕ × ℕ))) → Along (Reads key n ends) rules es → Each (λ r. Each (IsWithin (length order) (length ends)) (places_of r)) rules
  reads_within [] es a = tt
  reads_within (r ∷ rules) [] a = absurd a
  reads_within (r ∷ rules) (e ∷ es) a =
      ((subst (λ m. m < length order) (sym a.0.at) low, places_within (length order) (length ends) n (carried (only r.right)) a.0.within), reads_within rules es a.1)

  reads_one : (d : ℕ × ℕ × ℕ) (r : Rule ℕ) (e : Rule (ℕ × ℕ × ℕ)) → Reads key n ends r e → read_places (key_in d order ends) r ≡ e
  reads_one d r e h =
      ap (λ m. record { left = slice_index_or order m d; right = side_map (λ i. slice_index_or ends i d) r.right; cost = r.cost }) h.at
      ∙ ap (λ k. record { left = k; right = side_map (λ i. slice_index_or ends i d) r.right; cost = r.cost }) (index_get order n d (0, 0, 0) low ∙ there)
      ∙ ap (λ s. record { left = key; right = s; cost = r.cost })
      (side_same (λ i. slice_index_or ends i d) (end_at ends) r.right.label r.right.kids
      (each_weaker (λ i. i < length ends) (λ i. slice_index_or ends i d ≡ end_at ends i) (carried (only r.right)) (λ i b. index_same ends i d (0, 0, 0) b) h.within))
      ∙ sym h.read

  reads_all : (d : ℕ × ℕ × ℕ) (rules : List (Rule ℕ)) (es : List (Rule (ℕ × ℕ × ℕ))) → Along (Reads key n ends) rules es → map (read_places (key_in d order ends)) rules ≡ es
  reads_all d [] [] a = refl
  reads_all d [] (e ∷ es) a = absurd a
  reads_all d (r ∷ rules) [] a = absurd a
  reads_all d (r ∷ rules) (e ∷ es) a =
      ap (λ x. x ∷ map (read_places (key_in d order ends)) rules) (reads_one d r e a.0) ∙ ap (λ xs. e ∷ xs) (reads_all d rules es a.1)

module _ {O : Type 0} (Edge : O → Rule (ℕ × ℕ × ℕ) → Type 0) (key : ℕ × ℕ × ℕ) (order : List (ℕ × ℕ × ℕ)) (n : ℕ) (low : n < length order) (there : key_at order n ≡ key) where
  -- the rules of a whole list are the edges of the key
  pub whole_listed :
      (l : EdgeList) (ends : List (ℕ × ℕ × ℕ)) (rules : List (Rule ℕ)) (parts : ℕ) → ends ≡ l.ends.items → rules ≡ l.rules.items → parts ≡ l.parts → l.position ≡ n →
      IsWithinBudget l → AreListedFrom Edge key l → AreListed Edge edge_parts places_of read_places order ends rules parts
  whole_listed l ends rules parts e d p at within listed =
      let read : Along (Reads key n l.ends.items) l.rules.items listed.listed.edges = subst (λ m. Along (Reads key m l.ends.items) l.rules.items listed.listed.edges) at listed.listed.read in
      subst (λ xs. AreListed Edge edge_parts places_of read_places order xs rules parts) (sym e)
      (subst (λ xs. AreListed Edge edge_parts places_of read_places order l.ends.items xs parts) (sym d) (
      record {
        few = omega (arith, within.few, within.within, within.budget);
        within = reads_within key order l.ends.items n low there l.rules.items listed.listed.edges read;
        edges = λ k. record {
          origins = listed.listed.origins;
          once = listed.listed.once;
          given = subst (Along Edge listed.listed.origins) (sym (reads_all key order l.ends.items n low there k l.rules.items listed.listed.edges read)) listed.listed.given;
          whole = λ o f is. listed.listed.whole o f (listed.all o f is) is;
        };
        counted = λ k. p ∙ listed.listed.counted ∙ ap (total edge_parts) (sym (reads_all key order l.ends.items n low there k l.rules.items listed.listed.edges read));
      }
      ))

module _ {O : Type 0} (Edge : O → Rule (ℕ × ℕ × ℕ) → Type 0) (one : (o : O) (e f : Rule (ℕ × ℕ × ℕ)) → Edge o e → Edge o f → e ≡ f) (key : ℕ × ℕ × ℕ) where
  -- its ends are those of the edges
  pub whole_ends : (l : EdgeList) (ends : List (ℕ × ℕ × ℕ)) → ends ≡ l.ends.items → AreListedFrom Edge key l → (k : ℕ × ℕ × ℕ) → Has ends k ↔ IsEnd Edge (λ e. holes_of e.right) k
  whole_ends l ends e listed k =
      both_ends Edge one listed.listed.origins listed.listed.edges listed.listed.given (λ o f g. listed.listed.whole o f (listed.all o f g) g) ends (e ∙ listed.listed.ends_are) k

  -- edges that have more parts than the budget show that all have
  pub overruns_exceeds : (budget : ℕ) → Overruns Edge budget → Exceeds Edge edge_parts budget
  overruns_exceeds budget over es lists =
      let fewer : total edge_parts over.edges ≤ total edge_parts es =
      total_fewer Edge edge_parts one over.origins over.edges lists.origins es over.once over.given lists.given
      (λ o h. let a = along_of Edge over.origins over.edges o over.given h in lists.whole o a.0 a.1)
      in
      omega (arith, over.more, fewer)
