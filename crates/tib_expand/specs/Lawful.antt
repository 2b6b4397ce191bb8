-- The laws of an operation on all its keys, edges and rules.
use Rattle.std.specs.Prelude.{◌≡◌, ℕ, ◌+◌, ◌<◌, List, length, take}
use Rattle.std.specs.declared.cmp.Ordering.{Ordering}
use Rattle.tib_lex.specs.Lists.{Has, Each}
use Rattle.tib_expand.specs.Keys.{key_parts}
use Rattle.tib_expand.specs.Reached.{Exploration}
use Rattle.tib_expand.specs.Reading.{Reading}
use Rattle.tib_expand.specs.declared.place.Place.{Place}

-- Keys have the order and the parts that the key type gives them. What a rule stands for depends
-- only on the keys at its places, or positions. An origin gives one edge. Seeds are admitted, and
-- so are the ends of edges over admitted keys. The seeds' edges end at seeds. The edges of a
-- position depend only on the order up to there.
pub record IsLawful {K O E R T : Type 0} (p : Exploration K O E) (admits : K → Type 0) (reading : Reading K E R T) (cmp : K → K → Ordering) (entries : K → ℕ) : Type 0 where
  pub same_order : p.cmp ≡ cmp
  pub same_parts : p.key_parts ≡ key_parts entries
  pub reads_places : (rule : R) (f g : Place → K) → Each (λ place. f place ≡ g place) (reading.places rule) → reading.read_places f rule ≡ reading.read_places g rule
  pub reads_positions : (rule : T) (f g : ℕ → K) → Each (λ n. f n ≡ g n) (reading.positions rule) → reading.read_positions f rule ≡ reading.read_positions g rule
  pub one_edge : (order : List K) (n : ℕ) (o : O) (e f : E) → p.edge order n o e → p.edge order n o f → e ≡ f
  pub one_seed_edge : (o : O) (e f : E) → p.seed_edge o e → p.seed_edge o f → e ≡ f
  pub seeds_admitted : (k : K) → p.seed k → admits k
  pub ends_admitted : (order : List K) (n : ℕ) (o : O) (e : E) (k : K) → Each admits order → n < length order → p.edge order n o e → Has (p.ends_of e) k → admits k
  pub seeds_end : (o : O) (e : E) (k : K) → p.seed_edge o e → Has (p.ends_of e) k → p.seed k
  pub edges_stay : (xs ys : List K) (n : ℕ) (o : O) (e : E) → n < length xs → n < length ys → take (n + 1) xs ≡ take (n + 1) ys → p.edge xs n o e → p.edge ys n o e
