-- Lists of states below a number, appended and cut.
use Rattle.std.specs.Prelude.{ℕ, List, [], ◌∷◌, ◌++◌, ◌≡◌, ◌<◌, length}
use Rattle.std.proofs.Common.{subst, arith, inl, inr}
use Rattle.tib_lex.specs.Lists.{Has}
use Rattle.tib_grammar.specs.Range.{AllBelow, AreInRange, StatesBelow}
use Rattle.tib_grammar.specs.GrammarOf.{GrammarOf}
use Rattle.tib_grammar.specs.Sides.{holes_of}
use Rattle.tib_grammar.specs.Run.{rule_at}

-- the states of two lists are below n, and so are those of both in one
pub below_append : (n : ℕ) (ps qs : List ℕ) → AllBelow n ps → AllBelow n qs → AllBelow n (ps ++ qs)
below_append n [] qs a b = b
below_append n (p ∷ ps) qs a b = (a.0, below_append n ps qs a.1 b)

-- where the states of two lists in one are below n, so are those of the first
pub below_front : (n : ℕ) (ps qs : List ℕ) → AllBelow n (ps ++ qs) → AllBelow n ps
below_front n [] qs h = tt
below_front n (p ∷ ps) qs h = (h.0, below_front n ps qs h.1)

-- and those of the second
pub below_back : (n : ℕ) (ps qs : List ℕ) → AllBelow n (ps ++ qs) → AllBelow n qs
below_back n [] qs h = h
below_back n (p ∷ ps) qs h = below_back n ps qs h.1

-- a member of states below n is below n
pub below_has : (n : ℕ) (qs : List ℕ) (q : ℕ) → AllBelow n qs → Has qs q → q < n
below_has n [] q b h = absurd h
below_has n (p ∷ qs) q b h = elim h [ inl e ↦ omega (arith, b.0, e) | inr k ↦ below_has n qs q b.1 k ]

-- and both at once
pub below_split : (n : ℕ) (ps qs : List ℕ) → AllBelow n (ps ++ qs) → AllBelow n ps × AllBelow n qs
below_split n [] qs h = (tt, h)
below_split n (p ∷ ps) qs h = let s = below_split n ps qs h.1 in ((h.0, s.0), s.1)

-- the states on the right-hand sides of a grammar whose states are in range are below their number
pub states_below : (g h : GrammarOf) → g ≡ h → AreInRange (length g.names) g.rules → StatesBelow (length h.names) h.rules
states_below g h e range =
    subst (λ (x : GrammarOf). StatesBelow (length x.names) x.rules) e (λ m q below has. below_has (length g.names) (holes_of (rule_at g.rules m).right) q (range m below).1 has)
