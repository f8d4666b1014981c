-- The names of interfaces and worlds, as they are gathered.
use Rattle.std.proofs.Common.{◌≡◌, List, map}
use Rattle.wit_scopes.specs.Scopes.{ItemScope}
use Rattle.wit_lookups.specs.Names.{Name, item_names, item_type_names}

pub record NamesSoFar (scopes : List ItemScope) (items : List Name) (types : List (List Name)) : Type 0 where
  pub items_are : items ≡ item_names scopes
  pub types_are : types ≡ map item_type_names scopes
