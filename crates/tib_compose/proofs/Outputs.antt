-- Each result that is put out is one tree.
use Rattle.std.specs.Prelude.{◌≡◌, ℕ, ◌<◌, Bool, true, false, List, [], ◌∷◌, ◌++◌, length, map, nat_le, if◌then◌else◌, Option, refl}
use Rattle.std.proofs.Common.{zero, suc, arith, ap, sym, ◌∙◌, subst, inl, inr, append-nil}
use Rattle.tib_lex.specs.Lists.{Has}
use Rattle.tib_lex.proofs.Lists.{each_parts}
use Rattle.tib_lex.proofs.Numbers.{same_or_other}
use Rattle.tib_tree.specs.Trees.{Trees, none, tree, only, count, count-other, parse, preorder, preorder_of, HasChildren, IsOneTree, IsOneTree-preorder_of}
use Rattle.tib_cost.specs.Semiring.{most}
use Rattle.tib_grammar.specs.Sides.{Symbol, label, hole, Side as SideFor}
use Rattle.tib_grammar.specs.Items.{pairs_of}
use Rattle.tib_grammar.specs.declared.Item.{Item}
use Rattle.tib_grammar.specs.declared.Item.TheVariants.{Label, Hole}
use Rattle.tib_transducer.specs.Rules.{transducer_rule}
use Rattle.tib_transducer.specs.Range.{AreShaped}
use Rattle.tib_transducer.specs.declared.Pair.{Pair}
use Rattle.tib_transducer.specs.declared.TransducerRule.{TransducerRule}
use Rattle.tib_key_edges.specs.Choices.{choices_of, reads_label}
use Rattle.tib_key_edges.specs.Flat.{substituted}
use Rattle.tib_key_edges.specs.Pieces.{Result, GoesByPieces, pieces_of, read, results, results_by}
use Rattle.tib_key_edges.specs.Translations.{choice_cost, translated}
use Rattle.tib_key_edges.proofs.Choosing.{tell_all}
use Rattle.tib_key_edges.proofs.Translating.{count-translated}
use Rattle.tib_compose.specs.CompositionListing.{placed}
use Rattle.tib_compose.specs.Searches.{affordable, AreOneTrees}

-- one tree in place of a hole
one_out : {A P : Type 0} (z : P) (n : ℕ) (us : Trees (Symbol ℕ A)) → count us ≡ 1 → IsOneTree (substituted ((hole z, n) ∷ []) us)
one_out z n none h = absurd (omega arith)
one_out z n (tree s below rest) h = subst (λ ys. IsOneTree ((s, count below) ∷ ys)) (sym (append-nil (preorder below))) (IsOneTree-preorder_of (record { label = s; kids = below }))

mapped_trees : {A : Type 0} (f : A → Result) (xs : List A) → ((x : A) → Has xs x → IsOneTree (f x).1) → AreOneTrees (map f xs)
mapped_trees f [] h = tt
mapped_trees f (x ∷ xs) h = (h x (inl refl), mapped_trees f xs (λ y k. h y (inr k)))

-- so are those within the greatest cost
pub affordable_trees : (rs : List Result) → AreOneTrees rs → AreOneTrees (affordable rs)
affordable_trees [] h = tt
affordable_trees (r ∷ rs) h = by (nat_le r.0 most) (affordable_trees rs h.1)
  where
    by : (b : Bool) → AreOneTrees (affordable rs) → AreOneTrees (if b then r ∷ affordable rs else affordable rs)
    by true k = (h.0, k)
    by false k = k

module _ (product : ℕ → ℕ → ℕ) (two : List (TransducerRule ℕ)) (shaped : AreShaped two) (goes : GoesByPieces product two) where
  -- the results of a whole side
  pub side_trees : (cost p : ℕ) (s : SideFor ℕ (Pair ℕ)) → AreOneTrees (results product two cost [] (read s p ∷ []))
  side_trees cost p s =
      let z : Pair ℕ = record { state = p; variable = 0 } in
      subst AreOneTrees (sym (goes.at_start cost p s))
      (mapped_trees (λ (c : Trees (Option ℕ)). (product cost (choice_cost product two c), substituted {P = Pair ℕ} ((hole z, 0) ∷ []) (translated two (p ∷ []) (only s) c))) (choices_of two p s)
      (λ c h. one_out z 0 (translated two (p ∷ []) (only s) c) (count-translated two c (p ∷ []) (only s) ((tell_all two shaped (only s)).to 0 p c (omega arith) h))))

  module _ (cost f : ℕ) (kids : Trees (Symbol ℕ (Pair ℕ))) (p : ℕ) where
    abbrev of_rule : ℕ → List Result
    of_rule m = results product two (product cost (transducer_rule two m).cost) [] (pieces_of (preorder_of (transducer_rule two m).right) kids ++ [])

    reader_of : (k m : ℕ) → m < k → reads_label p f (count kids) (transducer_rule two m) ≡ true → AreOneTrees (results_by product two cost [] f kids p [] k) → AreOneTrees (of_rule m)
    reader_of zero m low reads all = absurd (omega arith)
    reader_of (suc k) m low reads all =
        let both = each_parts (λ (r : Result). IsOneTree r.1) (results_by product two cost [] f kids p [] k) (if reads_label p f (count kids) (transducer_rule two k) then of_rule k else []) all in
        elim (same_or_other m k) [
          | inl same ↦
              subst (λ j. AreOneTrees (of_rule j)) (sym same)
              (subst (λ b. AreOneTrees (if b then of_rule k else [])) (subst (λ j. reads_label p f (count kids) (transducer_rule two j) ≡ true) same reads) both.1)
          | inr other ↦ reader_of k m (omega (arith, low, other)) reads both.0
        ]

    -- the results of a rule that reads a label
    pub reader_trees : (m : ℕ) → m < length two → reads_label p f (count kids) (transducer_rule two m) ≡ true → AreOneTrees (of_rule m)
    reader_trees m low reads = reader_of (length two) m low reads (subst AreOneTrees (goes.at_label cost [] f kids p []) (side_trees cost p (record { label = label f; kids = kids })))

-- items over places

placed_count : (n : ℕ) (items : List (Item (Pair (ℕ × ℕ)))) → count (parse (pairs_of (placed n items))) ≡ count (parse (pairs_of items))
placed_count n [] = refl
placed_count n (Label f rank ∷ items) = omega (arith, placed_count n items, count-other rank (parse (pairs_of (placed n items))), count-other rank (parse (pairs_of items)))
placed_count n (Hole x ∷ items) = ap suc (placed_count (suc n) items)

placed_nested : (n : ℕ) (items : List (Item (Pair (ℕ × ℕ)))) → HasChildren (pairs_of items) → HasChildren (pairs_of (placed n items))
placed_nested n [] h = tt
placed_nested n (Label f rank ∷ items) h = (placed_nested n items h.0, omega (arith, h.1, placed_count n items))
placed_nested n (Hole x ∷ items) h = (placed_nested (suc n) items h.0, omega arith)

-- they are one tree as before
pub placed_tree : (n : ℕ) (items : List (Item (Pair (ℕ × ℕ)))) → IsOneTree (pairs_of items) → IsOneTree (pairs_of (placed n items))
placed_tree n items t = record { nested = placed_nested n items t.nested; one = placed_count n items ∙ t.one }
