-- What has a name, and names alone.
use Rattle.std.specs.Prelude.{ℕ, List}
use Rattle.component_value_types.specs.declared.named.Named.{Named}
use Rattle.component_value_types.specs.declared.named.Label.{Label}
use Rattle.component_value_types.specs.Combinators.{NamedValue}

abbrev pub named_value : {T X : Type 0} → (T → X) → Named T → NamedValue X
named_value value n = record { name = n.name.now; item = value n.item }

abbrev pub label_value : Label → List ℕ
label_value l = l.name.now
