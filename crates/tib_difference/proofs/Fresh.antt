-- Runs of rules behind a fresh start, whose chain rules lead on at a cost of their own.
use Rattle.std.specs.Prelude.{◌≡◌, ℕ, ◌+◌, ◌<◌, List, [], ◌∷◌, ◌++◌, length, map, Bool, refl}
use Rattle.std.proofs.Common.{suc, arith, ap, sym, ◌∙◌, subst, inl, inr, get_or, length-append}
use Rattle.tib_lex.specs.Lists.{Has}
use Rattle.tib_lex.proofs.Lists.{length_map}
use Rattle.tib_lex.proofs.Members.{has_at, at_has}
use Rattle.tib_lex.proofs.Places.{get_map}
use Rattle.tib_tree.specs.Trees.{Tree, Trees, none, tree, count, join, only, join-none}
use Rattle.tib_grammar.specs.Sides.{Lone, holes, holes_of, fill}
use Rattle.tib_grammar.specs.Run.{rule_at, no_rule, AreRuns, yields, cost, IsCost}
use Rattle.tib_grammar.specs.GrammarOf.{named_rule}
use Rattle.tib_grammar.specs.declared.Rule.{Rule}
use Rattle.tib_grammar.proofs.Sides.{holes-relabel, fill-relabel}
use Rattle.tib_grammar.proofs.NormalRuns.{count-yields}
use Rattle.tib_cost.specs.Semiring.{ProductLaws}
use Rattle.tib_cost.proofs.Times.{product-zero}
use Rattle.tib_determinize.specs.ListLemmas.{get_left, get_right, side_of}
use Rattle.tib_determinize.specs.Started.{chain_to}

module _
    {levelled weighted : Bool} {product : ℕ → ℕ → ℕ} (laws : ProductLaws levelled weighted product)
    (finals : List (ℕ × ℕ)) (new : List (Rule ℕ)) where
  -- the chain rules, and the rules over the next numbers
  abbrev pub behind : List (Rule ℕ)
  behind = map chain_to finals ++ map (named_rule suc) new

  abbrev ups : List ℕ → List ℕ
  ups ks = map suc ks

  all_long : length behind ≡ length finals + length new
  all_long = length-append (map chain_to finals) (map (named_rule suc) new) ∙ omega (arith, length_map chain_to finals, length_map (named_rule suc) new)

  -- the first rules are the chain rules
  chain_at : (n : ℕ) → n < length finals → rule_at behind n ≡ chain_to (get_or finals n (0, 0))
  chain_at n h =
      get_left (map chain_to finals) (map (named_rule suc) new) n no_rule (omega (arith, length_map chain_to finals))
      ∙ get_map chain_to finals n no_rule (0, 0) h

  -- after them are the rules over positions
  shifted_at : (n j : ℕ) → n ≡ length finals + j → j < length new → rule_at behind n ≡ named_rule suc (rule_at new j)
  shifted_at n j e h =
      get_right (map chain_to finals) (map (named_rule suc) new) n j no_rule (omega (arith, length_map chain_to finals))
      ∙ get_map (named_rule suc) new j no_rule no_rule h

  forth : (runs : Trees ℕ) (ks : List ℕ) → AreRuns new ks runs → IsCost product behind (ups ks) (yields new runs) (cost product new runs)
  forth none [] a = record { runs = none; are_runs = tt; yielded = refl; costs = refl }
  forth none (k ∷ ks) a = absurd a
  forth (tree j runs rest) [] a = absurd a
  forth (tree j runs rest) (k ∷ ks) a =
      let n : ℕ = length finals + j in
      let is : rule_at behind n ≡ named_rule suc (rule_at new j) = shifted_at n j refl a.0 in
      let x = forth runs (holes_of (rule_at new j).right) a.2 in
      let y = forth rest ks a.3 in
      let holes_are : ups (holes_of (rule_at new j).right) ≡ holes_of (rule_at behind n).right =
      sym (holes-relabel suc (only (rule_at new j).right)) ∙ ap (λ r. holes (only r.right)) (sym is)
      in
      let fills : (us : Trees ℕ) → fill (only (rule_at behind n).right) us ≡ fill (only (rule_at new j).right) us =
      λ us. ap (λ r. fill (only r.right) us) is ∙ fill-relabel suc (only (rule_at new j).right) us
      in
      record {
        runs = tree n x.runs y.runs;
        are_runs = (
          omega (arith, all_long, a.0),
          ap (λ r. r.left) is ∙ ap suc a.1,
          subst (λ qs. AreRuns behind qs x.runs) holes_are x.are_runs,
          y.are_runs,
        );
        yielded = ap (λ us. join (fill (only (rule_at behind n).right) us) (yields behind y.runs)) x.yielded
            ∙ ap (λ us. join us (yields behind y.runs)) (fills (yields new runs))
            ∙ ap (join (fill (only (rule_at new j).right) (yields new runs))) y.yielded;
        costs = ap (λ r. product (product r.cost (cost product behind x.runs)) (cost product behind y.runs)) is
            ∙ ap (λ c. product (product (rule_at new j).cost c) (cost product behind y.runs)) x.costs
            ∙ ap (product (product (rule_at new j).cost (cost product new runs))) y.costs;
      }

  back : (runs : Trees ℕ) (ks : List ℕ) → AreRuns behind (ups ks) runs → IsCost product new ks (yields behind runs) (cost product behind runs)
  back none [] a = record { runs = none; are_runs = tt; yielded = refl; costs = refl }
  back none (k ∷ ks) a = absurd a
  back (tree n runs rest) [] a = absurd a
  back (tree n runs rest) (k ∷ ks) a = elim (side_of n (length finals)) [
    | inl h ↦ let z : 0 ≡ suc k = sym (ap (λ r. r.left) (chain_at n h)) ∙ a.1 in absurd (omega arith)
    | inr h ↦
        let j : ℕ = h.0 in
        let j_below : j < length new = omega (arith, all_long, a.0, h.1) in
        let is : rule_at behind n ≡ named_rule suc (rule_at new j) = shifted_at n j h.1 j_below in
        let holes_are : holes_of (rule_at behind n).right ≡ ups (holes_of (rule_at new j).right) =
        ap (λ r. holes (only r.right)) is ∙ holes-relabel suc (only (rule_at new j).right)
        in
        let fills : (us : Trees ℕ) → fill (only (rule_at new j).right) us ≡ fill (only (rule_at behind n).right) us =
        λ us. sym (fill-relabel suc (only (rule_at new j).right) us) ∙ ap (λ r. fill (only r.right) us) (sym is)
        in
        let x = back runs (holes_of (rule_at new j).right) (subst (λ qs. AreRuns behind qs runs) holes_are a.2) in
        let y = back rest ks a.3 in
        let left : suc (rule_at new j).left ≡ suc k = sym (ap (λ r. r.left) is) ∙ a.1 in
        record {
          runs = tree j x.runs y.runs;
          are_runs = (j_below, omega arith, x.are_runs, y.are_runs);
          yielded = ap (λ us. join (fill (only (rule_at new j).right) us) (yields new y.runs)) x.yielded
              ∙ ap (λ us. join us (yields new y.runs)) (fills (yields behind runs))
              ∙ ap (join (fill (only (rule_at behind n).right) (yields behind runs))) y.yielded;
          costs = ap (λ r. product (product r.cost (cost product new x.runs)) (cost product new y.runs)) (sym is)
              ∙ ap (λ c. product (product (rule_at behind n).cost c) (cost product new y.runs)) x.costs
              ∙ ap (product (product (rule_at behind n).cost (cost product behind runs))) y.costs;
        }
  ]

  -- a run from a final is one from the start
  pub from_final : (p : ℕ × ℕ) (t : Tree ℕ) (d : ℕ) → Has finals p → IsCost product new (p.0 ∷ []) (only t) d → IsCost product behind (0 ∷ []) (only t) (product p.1 d)
  from_final p t d has run =
      let n = at_has finals p (0, 0) has in
      let is : rule_at behind n.0 ≡ chain_to p = chain_at n.0 n.1 ∙ ap chain_to n.2 in
      let x = forth run.runs (p.0 ∷ []) run.are_runs in
      record {
        runs = tree n.0 x.runs none;
        are_runs = (omega (arith, all_long, n.1), ap (λ z. z.left) is, subst (λ z. AreRuns behind (holes_of z.right) x.runs) (sym is) x.are_runs, tt);
        yielded = join-none _ ∙ ap (λ z. fill (only z.right) (yields behind x.runs)) is ∙ ap (fill (only (Lone (suc p.0)))) (x.yielded ∙ run.yielded);
        costs = product-zero laws _ ∙ ap (λ z. product z.cost (cost product behind x.runs)) is ∙ ap (product p.1) (x.costs ∙ run.costs);
      }

  -- a run from a final, of those of the start at this cost
  pub record BeginsAtFinal (t : Tree ℕ) (c : ℕ) : Type 0 where
    pub final : ℕ × ℕ
    pub has : Has finals final
    pub rest : ℕ
    pub run : IsCost product new (final.0 ∷ []) (only t) rest
    pub costs : product final.1 rest ≡ c

  one_tree : (k : ℕ) (ts : Trees ℕ) → count ts ≡ 1 → ts ≡ fill (only (Lone k)) ts
  one_tree k none e = absurd (omega arith)
  one_tree k (tree f kids none) e = refl
  one_tree k (tree f kids (tree g ks rest)) e = absurd (omega arith)

  -- each run from the start goes on from a final
  pub to_final : (t : Tree ℕ) (c : ℕ) → IsCost product behind (0 ∷ []) (only t) c → BeginsAtFinal t c
  to_final t c h = by h.runs h.are_runs h.yielded h.costs
    where
      by : (runs : Trees ℕ) → AreRuns behind (0 ∷ []) runs → yields behind runs ≡ only t → cost product behind runs ≡ c → BeginsAtFinal t c
      by none a y e = absurd a
      by (tree i runs (tree j others more)) a y e = absurd a.3
      by (tree i runs none) a y e = elim (side_of i (length finals)) [
        | inr h ↦
            let j_below : h.0 < length new = omega (arith, all_long, a.0, h.1) in
            let z : suc (rule_at new h.0).left ≡ 0 = sym (ap (λ r. r.left) (shifted_at i h.0 h.1 j_below)) ∙ a.1 in
            absurd (omega arith)
        | inl h ↦
            let p : ℕ × ℕ = get_or finals i (0, 0) in
            let is : rule_at behind i ≡ chain_to p = chain_at i h in
            let x = back runs (p.0 ∷ []) (subst (λ r. AreRuns behind (holes_of r.right) runs) is a.2) in
            let filled : fill (only (Lone (suc p.0))) (yields behind runs) ≡ only t = ap (λ r. fill (only r.right) (yields behind runs)) (sym is) ∙ sym (join-none _) ∙ y in
            let lone : count (yields behind runs) ≡ 1 = ap count (sym x.yielded) ∙ count-yields new (p.0 ∷ []) x.runs x.are_runs in
            let yielded : yields behind runs ≡ only t = one_tree (suc p.0) (yields behind runs) lone ∙ filled in
            record {
              final = p;
              has = has_at finals i (0, 0) h;
              rest = cost product behind runs;
              run = subst (λ ts. IsCost product new (p.0 ∷ []) ts (cost product behind runs)) yielded x;
              costs = ap (λ r. product r.cost (cost product behind runs)) (sym is) ∙ sym (product-zero laws _) ∙ e;
            }
      ]
