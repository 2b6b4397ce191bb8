-- Rules with new numbers of their states.
use Rattle.std.proofs.Common.{◌≡◌, ℕ, ◌<◌, ◌≤◌, ◌++◌, List, [], ◌∷◌, length, map, take, drop, get_or, ap, sym, ◌∙◌, subst, arith, zero, suc, refl}
use Rattle.tib_tree.specs.Trees.{preorder_of}
use Rattle.tib_grammar.specs.Sides.{Side as SideFor}
use Rattle.tib_grammar.specs.Items.{pairs_of}
use Rattle.tib_grammar.specs.Range.{AllBelow}
use Rattle.tib_grammar.specs.declared.Item.{Item}
use Rattle.tib_grammar.specs.declared.Item.TheVariants.{Label, Hole}
use Rattle.tib_grammar.proofs.Holes.{holes_of_items}
use Rattle.tib_grammar.proofs.Renamed.{at-seam}
use Rattle.tib_transducer.specs.Range.{IsWithin, AreWithin}
use Rattle.tib_transducer.specs.Rules.{no_rule, states_in}
use Rattle.tib_transducer.specs.declared.Pair.{Pair}
use Rattle.tib_transducer.specs.declared.TransducerRule.{TransducerRule}
use Rattle.tib_canon.specs.RuleItems.{states_among}

-- the states among the items of a side are those of its pairs
pub states_are : (n : ℕ) (items : List (Item (Pair ℕ))) (s : SideFor ℕ (Pair ℕ)) → pairs_of items ≡ preorder_of s → AllBelow n (states_in s) → AllBelow n (states_among items)
states_are n items s e b = subst (λ (xs : List (Pair ℕ)). AllBelow n (map (λ x. x.state) xs)) (holes_of_items items s e) b

-- the states of one item
pub item_below : (n : ℕ) (items : List (Item (Pair ℕ))) (i : ℕ) (d : Item (Pair ℕ)) → i < length items → AllBelow n (states_among items) → AllBelow n (states_among (get_or items i d ∷ []))
item_below n [] i d h b = absurd (omega arith)
item_below n (Label f rank ∷ items) zero d h b = tt
item_below n (Label f rank ∷ items) (suc i) d h b = item_below n items i d (omega arith) b
item_below n (Hole x ∷ items) zero d h b = (b.0, tt)
item_below n (Hole x ∷ items) (suc i) d h b = item_below n items i d (omega arith) b.1

any_rule : (rules : List (TransducerRule ℕ)) (i : ℕ) (d e : TransducerRule ℕ) → i < length rules → get_or rules i d ≡ get_or rules i e
any_rule [] i d e h = absurd (omega arith)
any_rule (r ∷ rules) zero d e h = refl
any_rule (r ∷ rules) (suc i) d e h = any_rule rules i d e (omega arith)

-- the next rule is within, since it is as it was
pub next_within :
    (n : ℕ) (f : TransducerRule ℕ → TransducerRule ℕ) (old now : List (TransducerRule ℕ)) (i : ℕ) (r : TransducerRule ℕ) → i < length old → now ≡ map f (take i old) ++ drop i old → r ≡ get_or now i r →
    AreWithin n old → IsWithin n r
next_within n f old now i r low e at w = subst (IsWithin n) (sym (at ∙ at-seam f old now i r low e ∙ any_rule old i r no_rule low)) (w i low)

-- past the last rule all are renamed
pub all_renamed : {A : Type 0} (f : A → A) (old now : List A) (i : ℕ) → length old ≤ i → now ≡ map f (take i old) ++ drop i old → now ≡ map f old
all_renamed {A} f old now i h e = e ∙ go old i h
  where
    go : (old : List A) (i : ℕ) → length old ≤ i → map f (take i old) ++ drop i old ≡ map f old
    go [] zero h = refl
    go [] (suc i) h = refl
    go (x ∷ old) zero h = absurd (omega arith)
    go (x ∷ old) (suc i) h = ap (λ xs. f x ∷ xs) (go old i (omega arith))
