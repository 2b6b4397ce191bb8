-- Whether keys are looked up.
use Rattle.tib_table.specs.declared.fresh.Lookup.{Lookup}
use Rattle.tib_table.specs.declared.fresh.Lookup.TheVariants.{Needless, Needed}

-- no key is looked up, so the order must have none of the keys that come
abbrev pub IsNeedless : Lookup → Type 0
IsNeedless Needless = Unit {0}
IsNeedless Needed = ⊥
