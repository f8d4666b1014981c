-- The order of interfaces and worlds is the one that `toposort` answers (WIT, Items, Use, Item: `include`).
use Rattle.std.specs.Prelude.{◌≡◌, ℕ, List, map, None}
use Rattle.name_places.specs.FirstPlaces.{place_of}
use Rattle.wit_order.specs.Order.{Has}
use Rattle.wit_order.specs.Names.{Ask, Table, AreKeysAt, IsToposort}
use Rattle.wit_words.specs.Slice.{Slice}
use Rattle.wit_orders.specs.Needs.{Name, Entry, labels, IsOrderOf}

-- a name that is needed, and where it stands
abbrev pub ask_of : Slice → Ask
ask_of n = record { name = n.text; span = n.span }

-- names, each with those that it needs
abbrev pub table_of : List Entry → Table
table_of es = map (λ (e : Entry). (e.label.text, map ask_of e.needs)) es

-- each needed name is one of these
abbrev pub AreNamed : List Entry → Type 0
AreNamed es = (e : Entry) (n : Slice) → Has es e → Has e.needs n → place_of n.text (labels es) ≡ None → ⊥

-- where all needed names are there, the order is that of `toposort`; and what `toposort` answers is in that order
pub record OrdersAreToposorts : Type 0 where
  pub sorted : (es : List Entry) (order : List ℕ) (names : List Name) → AreNamed es → IsOrderOf es order → AreKeysAt (table_of es) order names → IsToposort (table_of es) names
  pub only : (es : List Entry) (names : List Name) → IsToposort (table_of es) names → (order : List ℕ) × IsOrderOf es order × AreKeysAt (table_of es) order names
