-- What each operation brings: that its text is one, that what it makes does not depend on the
-- numbers of labels and is within the limit or has more parts than it, and that it has a text where
-- that is within the limit.
use Rattle.tib_cost.specs.declared.Scale.{Scale}
use Rattle.std.proofs.Common.{◌≡◌, ℕ, Bool, List}
use Rattle.tib_lex.specs.Lists.{Distinct}
use Rattle.tib_command.specs.declared.job.Operation.{Operation}
use Rattle.tib_command.specs.declared.job.Operation.TheVariants as operations
use Rattle.tib_job.specs.Kinds.{kinds_of, ValuesOf}
use Rattle.tib_job.specs.Causes.{Numbers, makes, demanded, ListsNoLarge, MeetsLarge}
use Rattle.tib_operations.specs.Classes.{IsMet}
use Rattle.tib_job.specs.Answers.{IsResultOf, ListsTrees, NeedsOf}
use Rattle.tib_operations.specs.Made.{normal_form, and_then, reached_set}
use Rattle.tib_operations.specs.Intersect.{AreTrimmedForms, intersecting}
use Rattle.tib_operations.specs.Forward.{forwarding, linear}
use Rattle.tib_operations.specs.Compose.{plain}
use Rattle.tib_operations.specs.Backward.{inverting, linear_nondeleting}
use Rattle.tib_operations.specs.Determinize.{determinizing}
use Rattle.tib_operations.specs.Image.{imaging, IsTheTree}
use Rattle.tib_operations.specs.Invert.{inverse_demands}
use Rattle.tib_canon.specs.TrimmedForms.{IsTrimmedForm}
use Rattle.tib_operations.proofs.AppliedByText.{forward_by_text, backward_by_text}
use Rattle.tib_operations.proofs.ClassesByText.{IsOneDemand, nothing_once, one_class, IsDecided, nothing_decided, class_decided}
use Rattle.tib_job.proofs.FileValues.{AllAgree, AllSound}
use Rattle.tib_operations.proofs.FormsByText.{within_by_text, pairs_by_text}
use Rattle.tib_operations.proofs.MadeParts.{IsEither, nothing_either, both_either, form_either, reached_either}
use Rattle.tib_operations.proofs.OfWeigh.{weighed_once, weighed_there}
use Rattle.tib_operations.proofs.OfInside.{insides_once, insides_there}
use Rattle.tib_operations.proofs.OfNormal.{normal_once, normal_there}
use Rattle.tib_operations.proofs.OfKBest.{kbest_once, kbest_there}
use Rattle.tib_operations.proofs.OfIntersect.{intersection_once, intersection_there}
use Rattle.tib_operations.proofs.OfUnion.{union_by_text, union_either, union_once, union_there}
use Rattle.tib_operations.proofs.OfDifference.{difference_by_text, difference_either, difference_once, difference_there}
use Rattle.tib_operations.proofs.OfForward.{forward_once, forward_there}
use Rattle.tib_operations.proofs.OfBackward.{backward_once, backward_there}
use Rattle.tib_canon.proofs.ComposeByText.{compose_once}
use Rattle.tib_operations.proofs.OfCompose.{compose_by_text, compose_either, composed_there}
use Rattle.tib_operations.proofs.OfImage.{image_by_text, image_once, image_there}
use Rattle.tib_operations.proofs.OfCheck.{classes_once, classes_there}
use Rattle.tib_operations.proofs.OfDemo.{demo_once, demo_either, demo_there}
use Rattle.tib_operations.proofs.OfPrune.{prune_once, prune_there}
use Rattle.tib_operations.proofs.OfTrim.{trim_once, trim_there}
use Rattle.tib_operations.proofs.OfThrough.{through_once, through_there}
use Rattle.tib_operations.proofs.OfCount.{count_by_text, count_either, count_once, count_there}
use Rattle.tib_operations.proofs.OfRuns.{runs_once, runs_there}
use Rattle.tib_operations.proofs.OfInvert.{invert_once, invert_there}
use Rattle.tib_operations.proofs.OfDomain.{domain_by_text, domain_either, domain_once, domain_there}
use Rattle.tib_job.proofs.DemandByText.{parse_demand_once, parse_demand_decided}
use Rattle.tib_operations.proofs.OfParse.{parse_either, parse_by_text, parse_once, parse_there}
use Rattle.tib_operations.proofs.OfCompare.{compare_once as compare_text_once, compare_there as compare_text_there, compare_either as comparison_either, compare_by_text as comparison_by_text, large_by_text, large_apart}
use Rattle.tib_operations.proofs.OfDeterminize.{determinized_once, determinized_there}
use Rattle.tib_operations.proofs.VectorsByText.{vectors_by_text}

-- what is demanded is one over each table of labels
pub one_demand : (labels others : List (List ℕ)) (o : Operation) (values more : ValuesOf (kinds_of o)) → AllAgree labels others (kinds_of o) values more → IsOneDemand (demanded o values) (demanded o more)
one_demand labels others operations.Weigh values more a = nothing_once
one_demand labels others operations.Inside values more a = nothing_once
one_demand labels others operations.Normal values more a = nothing_once
one_demand labels others operations.KBest values more a = nothing_once
one_demand labels others operations.Intersect values more a = nothing_once
one_demand labels others operations.Union values more a = nothing_once
one_demand labels others operations.Difference values more a = nothing_once
one_demand labels others operations.Forward values more a = one_class labels others 2 linear values.1.0.rules more.1.0.rules a.1.0.rules
one_demand labels others operations.Backward values more a = one_class labels others 1 linear_nondeleting values.0.rules more.0.rules a.0.rules
one_demand labels others operations.Compose values more a = one_class labels others 2 plain values.1.0.rules more.1.0.rules a.1.0.rules
one_demand labels others operations.Image values more a = nothing_once
one_demand labels others operations.Parse values more a = parse_demand_once labels others values.0 more.0 a.0
one_demand labels others operations.Compare values more a = nothing_once
one_demand labels others operations.Determinize values more a = nothing_once
one_demand labels others operations.Check values more a = nothing_once
one_demand labels others operations.Prune values more a = nothing_once
one_demand labels others operations.Trim values more a = nothing_once
one_demand labels others operations.Through values more a = nothing_once
one_demand labels others operations.Count values more a = nothing_once
one_demand labels others operations.Runs values more a = nothing_once
one_demand labels others operations.Invert values more a = one_class labels others 1 inverse_demands values.0.rules more.0.rules a.0.rules
one_demand labels others operations.Domain values more a = one_class labels others 1 linear values.0.rules more.0.rules a.0.rules
one_demand labels others operations.Demo values more a = nothing_once

-- it is not both met and broken, and that it is neither cannot be
pub demand_decided : (o : Operation) (values : ValuesOf (kinds_of o)) → IsDecided (demanded o values)
demand_decided operations.Weigh values = nothing_decided
demand_decided operations.Inside values = nothing_decided
demand_decided operations.Normal values = nothing_decided
demand_decided operations.KBest values = nothing_decided
demand_decided operations.Intersect values = nothing_decided
demand_decided operations.Union values = nothing_decided
demand_decided operations.Difference values = nothing_decided
demand_decided operations.Forward values = class_decided 2 linear values.1.0.rules
demand_decided operations.Backward values = class_decided 1 linear_nondeleting values.0.rules
demand_decided operations.Compose values = class_decided 2 plain values.1.0.rules
demand_decided operations.Image values = nothing_decided
demand_decided operations.Parse values = parse_demand_decided values.0
demand_decided operations.Compare values = nothing_decided
demand_decided operations.Determinize values = nothing_decided
demand_decided operations.Check values = nothing_decided
demand_decided operations.Prune values = nothing_decided
demand_decided operations.Trim values = nothing_decided
demand_decided operations.Through values = nothing_decided
demand_decided operations.Count values = nothing_decided
demand_decided operations.Runs values = nothing_decided
demand_decided operations.Invert values = class_decided 1 inverse_demands values.0.rules
demand_decided operations.Domain values = class_decided 1 linear values.0.rules
demand_decided operations.Demo values = nothing_decided

module _ (scale : Scale) (product : ℕ → ℕ → ℕ) (numbers : Numbers) where
  -- what is made is within the limit, or has more parts
  pub makes_either : (o : Operation) (values : ValuesOf (kinds_of o)) → IsEither (makes o scale product numbers values)
  makes_either operations.Weigh values = form_either product numbers.limit values.0
  makes_either operations.Inside values = nothing_either
  makes_either operations.Normal values = form_either product numbers.limit values.0
  makes_either operations.KBest values = form_either product numbers.limit values.0
  makes_either operations.Intersect values =
      let pairs = reached_set numbers.limit (AreTrimmedForms product values.0 values.1.0) (intersecting product) in
      both_either (normal_form product numbers.limit values.0) (and_then (normal_form product numbers.limit values.1.0) pairs) (form_either product numbers.limit values.0)
      (both_either (normal_form product numbers.limit values.1.0) pairs (form_either product numbers.limit values.1.0)
      (reached_either numbers.limit (AreTrimmedForms product values.0 values.1.0) (intersecting product)))
  makes_either operations.Union values = union_either product numbers.limit values.0 values.1.0
  makes_either operations.Difference values = difference_either product numbers.limit values.0 values.1.0
  makes_either operations.Forward values =
      both_either (normal_form product numbers.limit values.0) (reached_set numbers.limit (IsTrimmedForm product values.0) (forwarding product values.1.0)) (form_either product numbers.limit values.0)
      (reached_either numbers.limit (IsTrimmedForm product values.0) (forwarding product values.1.0))
  makes_either operations.Backward values =
      both_either (normal_form product numbers.limit values.1.0) (reached_set numbers.limit (IsTrimmedForm product values.1.0) (inverting product values.0)) (form_either product numbers.limit values.1.0)
      (reached_either numbers.limit (IsTrimmedForm product values.1.0) (inverting product values.0))
  makes_either operations.Compose values = compose_either product numbers.limit values.0 values.1.0
  makes_either operations.Image values = reached_either numbers.limit (IsTheTree values.0) (imaging values.1.0)
  makes_either operations.Parse values = parse_either numbers.limit values.0 values.1.0
  makes_either operations.Compare values = comparison_either numbers.limit values.0 values.1.0
  makes_either operations.Determinize values =
      both_either (normal_form product numbers.limit values.0) (reached_set numbers.limit (IsTrimmedForm product values.0) (determinizing product)) (form_either product numbers.limit values.0)
      (reached_either numbers.limit (IsTrimmedForm product values.0) (determinizing product))
  makes_either operations.Check values = nothing_either
  makes_either operations.Prune values = form_either product numbers.limit values.0
  makes_either operations.Trim values = nothing_either
  makes_either operations.Through values = nothing_either
  makes_either operations.Count values = count_either numbers.limit values.0
  makes_either operations.Runs values = nothing_either
  makes_either operations.Invert values = nothing_either
  makes_either operations.Domain values = domain_either numbers.limit values.0
  makes_either operations.Demo values = demo_either scale product numbers.limit numbers.demo

  module _ (labels others : List (List ℕ)) (apart : Distinct labels) (different : Distinct others) where
    -- it is within the limit over each table of labels
    pub makes_by_text : (o : Operation) (values more : ValuesOf (kinds_of o)) → AllAgree labels others (kinds_of o) values more → (makes o scale product numbers values).within → (makes o scale product numbers more).within
    makes_by_text operations.Weigh values more a w = within_by_text product numbers.limit labels others apart different values.0 more.0 a.0 w
    makes_by_text operations.Inside values more a w = tt
    makes_by_text operations.Normal values more a w = within_by_text product numbers.limit labels others apart different values.0 more.0 a.0 w
    makes_by_text operations.KBest values more a w = within_by_text product numbers.limit labels others apart different values.0 more.0 a.0 w
    makes_by_text operations.Intersect values more a w = (
      within_by_text product numbers.limit labels others apart different values.0 more.0 a.0 w.0,
      (
        within_by_text product numbers.limit labels others apart different values.1.0 more.1.0 a.1.0 w.1.0,
        pairs_by_text product numbers.limit labels others apart different values.0 values.1.0 more.0 more.1.0 a.0 a.1.0 w.1.1,
      ),
    )
    makes_by_text operations.Union values more a w = union_by_text product numbers.limit labels others apart different values.0 values.1.0 more.0 more.1.0 a.0 a.1.0 w
    makes_by_text operations.Difference values more a w = difference_by_text product numbers.limit labels others apart different values.0 values.1.0 more.0 more.1.0 a.0 a.1.0 w
    makes_by_text operations.Forward values more a w = (
      within_by_text product numbers.limit labels others apart different values.0 more.0 a.0 w.0,
      forward_by_text product numbers.limit labels others apart different values.0 more.0 values.1.0 more.1.0 a.0 a.1.0 w.1,
    )
    makes_by_text operations.Backward values more a w = (
      within_by_text product numbers.limit labels others apart different values.1.0 more.1.0 a.1.0 w.0,
      backward_by_text product numbers.limit labels others apart different values.1.0 more.1.0 values.0 more.0 a.1.0 a.0 w.1,
    )
    makes_by_text operations.Compose values more a w = compose_by_text product numbers.limit labels others apart different values.0 values.1.0 more.0 more.1.0 a.0 a.1.0 w
    makes_by_text operations.Image values more a w = image_by_text labels others apart different values.0 more.0 values.1.0 more.1.0 a.0 a.1.0 numbers.limit w
    makes_by_text operations.Parse values more a w = parse_by_text labels others apart different values.0 more.0 values.1.0 more.1.0 a.0 a.1.0 numbers.limit w
    makes_by_text operations.Compare values more a w = comparison_by_text numbers.limit labels others apart different values.0 values.1.0 more.0 more.1.0 a.0 a.1.0 w
    makes_by_text operations.Determinize values more a w = (
      within_by_text product numbers.limit labels others apart different values.0 more.0 a.0 w.0,
      vectors_by_text product numbers.limit labels others apart different values.0 more.0 a.0 w.1,
    )
    makes_by_text operations.Check values more a w = tt
    makes_by_text operations.Prune values more a w = within_by_text product numbers.limit labels others apart different values.0 more.0 a.0 w
    makes_by_text operations.Trim values more a w = tt
    makes_by_text operations.Through values more a w = tt
    makes_by_text operations.Count values more a w = count_by_text numbers.limit labels others apart different values.0 more.0 a.0 w
    makes_by_text operations.Runs values more a w = tt
    makes_by_text operations.Invert values more a w = tt
    makes_by_text operations.Domain values more a w = domain_by_text labels others apart different values.0 more.0 a.0 numbers.limit w
    makes_by_text operations.Demo values more a w = w

module _ (scale : Scale) (levelled : Bool) (product : ℕ → ℕ → ℕ) (numbers : Numbers) (labels others : List (List ℕ)) (apart : Distinct labels) (different : Distinct others) where
  -- a tree that is too large over one table of labels, and a text over another, only an operation
  -- has that lists trees
  pub large_or_listed :
      (o : Operation) (values more : ValuesOf (kinds_of o)) (text : List ℕ) → AllAgree labels others (kinds_of o) values more → MeetsLarge o scale levelled product numbers labels values →
      IsResultOf o scale product numbers others more text → ListsTrees o
  large_or_listed operations.Weigh values more text a m c = absurd m
  large_or_listed operations.Inside values more text a m c = absurd m
  large_or_listed operations.Normal values more text a m c = absurd m
  large_or_listed operations.KBest values more text a m c = tt
  large_or_listed operations.Intersect values more text a m c = absurd m
  large_or_listed operations.Union values more text a m c = absurd m
  large_or_listed operations.Difference values more text a m c = absurd m
  large_or_listed operations.Forward values more text a m c = absurd m
  large_or_listed operations.Backward values more text a m c = absurd m
  large_or_listed operations.Compose values more text a m c = absurd m
  large_or_listed operations.Image values more text a m c = absurd m
  large_or_listed operations.Parse values more text a m c = absurd m
  large_or_listed operations.Compare values more text a m c = absurd (large_apart others more.0 more.1.0 text c (large_by_text labels others apart different values.0 values.1.0 more.0 more.1.0 a.0 a.1.0 m))
  large_or_listed operations.Determinize values more text a m c = absurd m
  large_or_listed operations.Check values more text a m c = absurd m
  large_or_listed operations.Prune values more text a m c = absurd m
  large_or_listed operations.Trim values more text a m c = absurd m
  large_or_listed operations.Through values more text a m c = absurd m
  large_or_listed operations.Count values more text a m c = absurd m
  large_or_listed operations.Runs values more text a m c = absurd m
  large_or_listed operations.Invert values more text a m c = absurd m
  large_or_listed operations.Domain values more text a m c = absurd m
  large_or_listed operations.Demo values more text a m c = absurd m

module _ (scale : Scale) (product : ℕ → ℕ → ℕ) (numbers : Numbers) where
  module _ (labels others : List (List ℕ)) (apart : Distinct labels) (different : Distinct others) where
    -- the text is one over each table of labels
    pub result_once :
        (o : Operation) (values more : ValuesOf (kinds_of o)) (text other : List ℕ) → AllAgree labels others (kinds_of o) values more → IsResultOf o scale product numbers labels values text →
        IsResultOf o scale product numbers others more other → text ≡ other
    result_once operations.Weigh values more text other a b c = weighed_once scale product labels others values.0 more.0 apart different a.0 values.1.0 more.1.0 text other a.1.0 b c
    result_once operations.Inside values more text other a b c = insides_once scale product labels others values.0 more.0 text other a.0 b c
    result_once operations.Normal values more text other a b c = normal_once scale product numbers.limit labels others values.0 more.0 text other apart different a.0 b c
    result_once operations.KBest values more text other a b c = kbest_once scale product numbers.k labels others values.0 more.0 text other apart different a.0 b c
    result_once operations.Intersect values more text other a b c = intersection_once scale product numbers.limit labels others values.0 values.1.0 more.0 more.1.0 text other apart different a.0 a.1.0 b c
    result_once operations.Union values more text other a b c = union_once scale product numbers.limit labels others values.0 values.1.0 more.0 more.1.0 text other apart different a.0 a.1.0 b c
    result_once operations.Difference values more text other a b c = difference_once scale product numbers.limit labels others values.0 values.1.0 more.0 more.1.0 text other apart different a.0 a.1.0 b c
    result_once operations.Forward values more text other a b c = forward_once scale product numbers.limit labels others values.0 more.0 values.1.0 more.1.0 text other apart different a.0 a.1.0 b c
    result_once operations.Backward values more text other a b c = backward_once scale product numbers.limit labels others values.1.0 more.1.0 values.0 more.0 text other apart different a.1.0 a.0 b c
    result_once operations.Compose values more text other a b c = compose_once scale product numbers.limit labels others values.0 values.1.0 more.0 more.1.0 text other apart different a.0 a.1.0 b c
    result_once operations.Image values more text other a b c = image_once scale product numbers.limit labels others values.0 more.0 values.1.0 more.1.0 text other apart different a.0 a.1.0 b c
    result_once operations.Parse values more text other a b c = parse_once scale product numbers.limit labels others values.0 more.0 values.1.0 more.1.0 text other apart different a.0 a.1.0 b c
    result_once operations.Compare values more text other a b c = compare_text_once labels others apart different values.0 values.1.0 more.0 more.1.0 a.0 a.1.0 text other b c
    result_once operations.Determinize values more text other a b c = determinized_once scale product numbers.limit labels others values.0 more.0 text other apart different a.0 b c
    result_once operations.Check values more text other a b c = classes_once labels others values.0 more.0 text other a.0 b c
    result_once operations.Prune values more text other a b c = prune_once scale product numbers.beam labels others values.0 more.0 text other apart different a.0 b c
    result_once operations.Trim values more text other a b c = trim_once scale product labels others values.0 more.0 text other apart different a.0 b c
    result_once operations.Through values more text other a b c = through_once scale product labels others values.0 more.0 text other apart different a.0 b c
    result_once operations.Count values more text other a b c = count_once labels others values.0 more.0 text other apart different a.0 b c
    result_once operations.Runs values more text other a b c = runs_once scale product labels others values.0 more.0 text other apart different a.0 b c
    result_once operations.Invert values more text other a b c = invert_once scale product labels others values.0 more.0 text other a.0 b c
    result_once operations.Domain values more text other a b c = domain_once scale product numbers.limit labels others values.0 more.0 text other apart different a.0 b c
    result_once operations.Demo values more text other a b c = demo_once scale product numbers.limit numbers.demo text other b c

  -- where it is within the limit, and no tree that is listed is too large, that there is no text
  -- cannot be
  pub result_there :
      (labels : List (List ℕ)) → Distinct labels → (o : Operation) → NeedsOf o product numbers → (values : ValuesOf (kinds_of o)) → AllSound scale labels (kinds_of o) values →
      IsMet (demanded o values) → (makes o scale product numbers values).within → ListsNoLarge o scale product numbers labels values → ((text : List ℕ) → IsResultOf o scale product numbers labels values text → ⊥) → ⊥
  result_there labels apart operations.Weigh needs values s met w small never = weighed_there scale product labels values.0 values.1.0 never
  result_there labels apart operations.Inside needs values s met w small never = insides_there scale product values.0 never
  result_there labels apart operations.Normal m values s met w small never = normal_there m.laws scale numbers.limit m.low labels apart values.0 s.0.sound s.0.printable w never
  result_there labels apart operations.KBest needs values s met w small never = kbest_there scale product numbers.k labels apart values.0 s.0.printable small never
  result_there labels apart operations.Intersect m values s met w small never =
      intersection_there m.laws scale numbers.limit m.low labels apart values.0 values.1.0 s.0.sound s.1.0.sound s.0.printable s.1.0.printable w.1.1 never
  result_there labels apart operations.Union m values s met w small never = union_there m.laws scale numbers.limit m.low labels apart values.0 values.1.0 s.0.sound s.1.0.sound s.0.printable s.1.0.printable w never
  result_there labels apart operations.Difference m values s met w small never =
      difference_there m.laws scale numbers.limit m.low labels apart values.0 values.1.0 s.0.sound s.1.0.sound s.0.printable s.1.0.printable w.1.1 never
  result_there labels apart operations.Forward m values s met w small never =
      forward_there m.laws scale numbers.limit m.low labels apart values.0 values.1.0 s.0.sound s.0.printable s.1.0.sound met w.1 never
  result_there labels apart operations.Backward m values s met w small never =
      backward_there m.laws scale numbers.limit m.low labels apart values.1.0 values.0 s.1.0.sound s.1.0.printable s.0.sound met w.1 never
  result_there labels apart operations.Compose m values s met w small never =
      composed_there m.laws scale numbers.limit m.low labels apart values.0 values.1.0 s.0.moves s.1.0.moves met w never
  result_there labels apart operations.Image m values s met w small never = image_there m.laws scale numbers.limit m.low labels apart values.0 values.1.0 s.1.0.sound w never
  result_there labels apart operations.Parse m values s met w small never = parse_there m.laws scale numbers.limit m.low labels apart values.0 values.1.0 s.0 met w never
  result_there labels apart operations.Compare needs values s met w small never = compare_text_there numbers.limit labels apart values.0 values.1.0 s.0.sound s.1.0.sound s.0.printable s.1.0.printable w small never
  result_there labels apart operations.Determinize m values s met w small never = determinized_there m.laws scale numbers.limit m.low labels apart values.0 s.0.sound s.0.printable w.1 never
  result_there labels apart operations.Check needs values s met w small never = classes_there values.0 never
  result_there labels apart operations.Prune m values s met w small never = prune_there m.laws scale numbers.limit numbers.beam m.low labels apart values.0 s.0.sound s.0.printable w never
  result_there labels apart operations.Trim m values s met w small never = trim_there m.laws scale labels apart values.0 s.0.sound s.0.printable never
  result_there labels apart operations.Through m values s met w small never = through_there m.laws scale labels apart values.0 s.0.sound s.0.printable never
  result_there labels apart operations.Count needs values s met w small never = count_there values.0 s.0.sound never
  result_there labels apart operations.Runs needs values s met w small never = runs_there scale product labels apart values.0 s.0.has_text s.0.small never
  result_there labels apart operations.Invert m values s met w small never = invert_there m.laws scale labels values.0 s.0.has_text met never
  result_there labels apart operations.Domain m values s met w small never = domain_there m.laws scale numbers.limit m.low labels apart values.0 s.0.sound s.0.moves met w never
  result_there labels apart operations.Demo m values s met w small never = demo_there m.0.laws scale numbers.limit numbers.demo m.0.low m.1 w never
