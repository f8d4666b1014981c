-- Types of interfaces, and what functions of these take and give, are made of those of the same and of earlier ones (WIT, Item: `use`).
use Rattle.std.specs.Prelude.{◌≡◌, ℕ, List, slice_get, Some}
use Rattle.wit_types.specs.declared.function.Function.{Function}
use Rattle.wit_types.specs.declared.interface.TypeDef.{TypeDef}
use Rattle.wit_reach.specs.Holding.{IsMadeUpTo, TypesUseEarlier, AreNamedOwned}
use Rattle.wit_order.specs.Order.{Has}
use Rattle.component_imports.specs.Interfaces.{ids_of, EarlierAreApart}
use Rattle.component_imports.specs.Ready.{AreUsedEarlier}

-- where types of interfaces are made of theirs and of those of earlier ones, they don't speak of later ones
abbrev pub EarlierTypesAreApart : Type 0
EarlierTypesAreApart = (types : List TypeDef) → TypesUseEarlier types → EarlierAreApart types

-- what functions of an interface take and give is made of types of that and of earlier ones
abbrev pub AreLinkedUpTo : List TypeDef → List (List Function) → Type 0
AreLinkedUpTo types linked = (own : ℕ) (fs : List Function) (s : ℕ) → slice_get linked own ≡ Some fs → Has (ids_of fs) s → IsMadeUpTo types own s

-- then what an interface takes of others is of earlier ones
abbrev pub EarlierTypesAreUsed : Type 0
EarlierTypesAreUsed = (types : List TypeDef) (linked : List (List Function)) → TypesUseEarlier types → AreNamedOwned types → AreLinkedUpTo types linked → AreUsedEarlier types linked
