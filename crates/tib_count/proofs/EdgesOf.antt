-- The edges of the rules: each rule adds its left state as often as its right-hand side has states.
use Rattle.std.specs.Prelude.{◌≡◌, ℕ, ◌+◌, ◌-◌, ◌<◌, ◌≤◌, ◌⊎◌, List, [], ◌∷◌, ◌++◌, length, replicate, take, refl}
use Rattle.std.proofs.Common.{arith, ap, sym, ◌∙◌, subst, inl, inr, get_or}
use Rattle.std.proofs.lemmas.List.{length-append, length-replicate, get_or_append_left, get_or-append_right, get_or-append-add, get_or-replicate, take_all}
use Rattle.tib_lex.specs.Lists.{Has}
use Rattle.tib_lex.proofs.Members.{has_at, at_has}
use Rattle.tib_lex.proofs.Numbers.{below_cases}
use Rattle.tib_grammar.specs.declared.Rule.{Rule}
use Rattle.tib_grammar.specs.Sides.{holes_of}
use Rattle.tib_grammar.specs.Run.{rule_at}
use Rattle.tib_grammar.specs.Range.{AreInRange, AreBelow, AllBelow}
use Rattle.tib_count.specs.Edges.{Leads, LeadsAmong, IsEdge, AreEdgesAmong}

early : (rules : List (Rule ℕ)) (k q p : ℕ) → LeadsAmong rules k q p → LeadsAmong rules (k + 1) q p
early rules k q p l = record { rule = l.rule; early = omega (arith, l.early); left = l.left; stands = l.stands }

place : (i n : ℕ) → (i < n) ⊎ (n ≤ i)
place i n = grind arith

-- one more rule
pub edges_more :
    (rules : List (Rule ℕ)) (k : ℕ) (froms tos : List ℕ) → k < length rules → AreEdgesAmong rules k froms tos →
    AreEdgesAmong rules (k + 1) (froms ++ replicate (length (holes_of (rule_at rules k).right)) (rule_at rules k).left) (tos ++ holes_of (rule_at rules k).right)
edges_more rules k froms tos h e =
    let hs : List ℕ = holes_of (rule_at rules k).right in
    let q : ℕ = (rule_at rules k).left in
    let more : List ℕ = replicate (length hs) q in
    let long : length more ≡ length hs = length-replicate (length hs) q in
    record {
      as_many = omega (arith, length-append tos hs, length-append froms more, long, e.as_many);
      are = λ i b. elim (place i (length froms)) [
        | inl l ↦
            subst (λ z. LeadsAmong rules (k + 1) z (get_or (tos ++ hs) i 0)) (sym (get_or_append_left froms more 0 i l))
            (subst (LeadsAmong rules (k + 1) (get_or froms i 0)) (sym (get_or_append_left tos hs 0 i (omega (arith, e.as_many))))
            (early rules k (get_or froms i 0) (get_or tos i 0) (e.are i l)))
        | inr l ↦
            let inside : i - length froms < length hs = omega (arith, length-append froms more, long) in
            let from : get_or (froms ++ more) i 0 ≡ q = get_or-append_right froms more (length froms) i 0 refl l ∙ get_or-replicate (length hs) (i - length froms) q 0 inside in
            let to : get_or (tos ++ hs) i 0 ≡ get_or hs (i - length froms) 0 = get_or-append_right tos hs (length froms) i 0 e.as_many l in
            record {
              rule = k;
              early = omega arith;
              left = sym from;
              stands = subst (Has hs) (sym to) (has_at hs (i - length froms) 0 inside);
            }
      ];
      all = λ n p b s. elim (below_cases n k b) [
        | inl l ↦
            let old = e.all n p l s in
            record {
              place = old.place;
              within = omega (arith, length-append froms more, old.within);
              from = get_or_append_left froms more 0 old.place old.within ∙ old.from;
              to = get_or_append_left tos hs 0 old.place (omega (arith, e.as_many, old.within)) ∙ old.to;
            }
        | inr same ↦
            let at = at_has hs p 0 (subst (λ m. Has (holes_of (rule_at rules m).right) p) same s) in
            record {
              place = length froms + at.0;
              within = omega (arith, length-append froms more, long, at.1);
              from = get_or-append-add froms more at.0 0 ∙ get_or-replicate (length hs) at.0 q 0 at.1 ∙ ap (λ m. (rule_at rules m).left) (sym same);
              to = ap (λ z. get_or (tos ++ hs) (z + at.0) 0) (sym e.as_many) ∙ get_or-append-add tos hs at.0 0 ∙ at.2;
            }
      ];
    }

-- the same over the lists that the code has
pub edges_step :
    (rules : List (Rule ℕ)) (k : ℕ) (r : Rule ℕ) (froms tos more_froms more_tos : List ℕ) → k < length rules → r ≡ rule_at rules k → AreEdgesAmong rules k froms tos →
    more_tos ≡ tos ++ holes_of r.right → more_froms ≡ froms ++ replicate (length more_tos - length froms) r.left → AreEdgesAmong rules (k + 1) more_froms more_tos
edges_step rules k r froms tos more_froms more_tos h at e t f =
    let hs : List ℕ = holes_of (rule_at rules k).right in
    let tos_are : more_tos ≡ tos ++ hs = t ∙ ap (λ (x : Rule ℕ). tos ++ holes_of x.right) at in
    let count : length more_tos - length froms ≡ length hs = omega (arith, ap length tos_are, length-append tos hs, e.as_many) in
    let froms_are : more_froms ≡ froms ++ replicate (length hs) (rule_at rules k).left =
    f ∙ ap (λ (n : ℕ). froms ++ replicate n r.left) count ∙ ap (λ (x : Rule ℕ). froms ++ replicate (length hs) x.left) at in
    subst (λ (xs : List ℕ). AreEdgesAmong rules (k + 1) xs more_tos) (sym froms_are)
    (subst (AreEdgesAmong rules (k + 1) (froms ++ replicate (length hs) (rule_at rules k).left)) (sym tos_are) (edges_more rules k froms tos h e))

pub edges_begin : (rules : List (Rule ℕ)) → AreEdgesAmong rules 0 [] []
edges_begin rules = record { as_many = refl; are = λ i h. absurd (omega (arith, h)); all = λ n p h s. absurd (omega (arith, h)) }

-- edges lead where the rules lead, and the other way round
pub edge_leads : (rules : List (Rule ℕ)) (froms tos : List ℕ) (q p : ℕ) → AreEdgesAmong rules (length rules) froms tos → IsEdge froms tos q p → Leads rules q p
edge_leads rules froms tos q p e edge =
    subst (λ z. Leads rules z p) edge.from (subst (Leads rules (get_or froms edge.place 0)) edge.to (e.are edge.place edge.within))

pub leads_edge : (rules : List (Rule ℕ)) (froms tos : List ℕ) (q p : ℕ) → AreEdgesAmong rules (length rules) froms tos → Leads rules q p → IsEdge froms tos q p
leads_edge rules froms tos q p e l = subst (λ z. IsEdge froms tos z p) l.left (e.all l.rule p l.early l.stands)

below_has : (n : ℕ) (xs : List ℕ) (x : ℕ) → AllBelow n xs → Has xs x → x < n
below_has n [] x a h = absurd h
below_has n (y ∷ xs) x a h = elim h [ inl e ↦ subst (λ z. z < n) e a.0 | inr k ↦ below_has n xs x a.1 k ]

pub leads_below : (rules : List (Rule ℕ)) (count k q p : ℕ) → k ≤ length rules → AreInRange count rules → LeadsAmong rules k q p → (q < count) × (p < count)
leads_below rules count k q p h range l =
    let r = range l.rule (omega (arith, l.early)) in
    (subst (λ z. z < count) l.left r.0, below_has count (holes_of (rule_at rules l.rule).right) p r.1 l.stands)

pub froms_below : (rules : List (Rule ℕ)) (count : ℕ) (froms tos : List ℕ) → AreInRange count rules → AreEdgesAmong rules (length rules) froms tos → AreBelow count froms
froms_below rules count froms tos range e i h = (leads_below rules count (length rules) (get_or froms i 0) (get_or tos i 0) (omega arith) range (e.are i h)).0

pub tos_below : (rules : List (Rule ℕ)) (count : ℕ) (froms tos : List ℕ) → AreInRange count rules → AreEdgesAmong rules (length rules) froms tos → AreBelow count tos
tos_below rules count froms tos range e i h = (leads_below rules count (length rules) (get_or froms i 0) (get_or tos i 0) (omega arith) range (e.are i (omega (arith, e.as_many)))).1
