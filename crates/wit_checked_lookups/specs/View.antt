-- What the values of the code stand for.
use Rattle.std.specs.Prelude.{◌≡◌, ℕ, List, map}
use Rattle.std.specs.Borrow.{Bor}
use Rattle.wit_scopes.specs.Scopes.{ItemScope}
use Rattle.wit_checked_lookups.specs.declared.names.PackageNames.{PackageNames}
use Rattle.wit_lookups.specs.Names.{Name, item_names, item_type_names}

abbrev pub texts : List (Bor (List ℕ)) → List Name
texts names = map (λ n. n.now) names

-- the names of these interfaces and worlds, and of the types of each
pub record AreNames (scopes : List ItemScope) (p : PackageNames) : Type 0 where
  pub items : p.items ≡ item_names scopes
  pub types : p.types.items ≡ map item_type_names scopes
