use Rattle.std.proofs.Common.{◌+◌, subst}
use Rattle.tib_k_best.specs.Causes.{IsUsefulCause}
use Rattle.tib_k_best.specs.declared.error.KBestError.{KBestError}
use Rattle.tib_compare.proofs.Wanting.{none_large}
use Rattle.tib_compare.proofs.wanted.best_wanted.Goals as goal

pub unreachable-requires : goal.unreachable-requires
unreachable-requires c =
    none_large c.args.labels.now c.args.rules.now c.requires.normal c.requires.priced 1 c.in-Err-TreeTooLarge.field-0-0
    (subst (λ (e : KBestError). IsUsefulCause ◌+◌ c.args.labels.now c.args.rules.now 1 e) c.in-Err-TreeTooLarge.field-0-is c.in-Err-TreeTooLarge.ensures.cause).1
