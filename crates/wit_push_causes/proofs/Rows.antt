-- Interfaces that say the same use types of the same others.
use Rattle.std.proofs.Common.{◌≡◌, ℕ, zero, suc, List, [], ◌∷◌, ◌++◌, sym, map}
use Rattle.std.specs.declared.alloc.Global.{Global}
use Rattle.std.specs.Prelude.{Vec}
use Rattle.wit_order.specs.Places.{Rows}
use Rattle.wit_types.specs.declared.interface.Interface.{Interface}
use Rattle.wit_types.specs.declared.interface.TypeDef.{TypeDef}
use Rattle.wit_groups.specs.Passed.wit_graph_parts-Interfaces.{IsRow, AreRows, no_rows, rows_and}
use Rattle.wit_push_causes.specs.Graphs.{HaveSameMembers, AreSameRows}
use Rattle.wit_push_causes.specs.Said.{type_said, interface_said}
use Rattle.wit_push_causes.proofs.Lists.{head_of, tail_of, not_empty}
use Rattle.wit_push_causes.proofs.Uses.{UseTheSame, deps_same}

pub own_rows : (g : Rows) → AreSameRows g g
own_rows [] = tt
own_rows (r ∷ g) = (λ j. (λ h. h, λ h. h), own_rows g)

pub rows_append : (g h r q : Rows) → AreSameRows g h → AreSameRows r q → AreSameRows (g ++ r) (h ++ q)
rows_append [] [] r q a b = b
rows_append [] (y ∷ h) r q a b = absurd a
rows_append (x ∷ g) [] r q a b = absurd a
rows_append (x ∷ g) (y ∷ h) r q a b = (a.0, rows_append g h r q a.1 b)

pub rows_use : (g h : Rows) → AreSameRows g h → UseTheSame g h
rows_use [] [] a i j = (λ h. h, λ h. h)
rows_use [] (y ∷ h) a i j = absurd a
rows_use (x ∷ g) [] a i j = absurd a
rows_use (x ∷ g) (y ∷ h) a zero j = a.0 j
rows_use (x ∷ g) (y ∷ h) a (suc i) j = rows_use g h a.1 i j

module _ (ds es : List TypeDef) (types : map type_said ds ≡ map type_said es) where
  row_same : (d e : Interface) (r q : Vec ℕ Global) → interface_said d ≡ interface_said e → IsRow ds d r → IsRow es e q → HaveSameMembers r q
  row_same d e r q same a b j = (
    λ h. (b j).1 (deps_same ds es d e types same j ((a j).0 h)),
    λ h. (a j).1 (deps_same es ds e d (sym types) (sym same) j ((b j).0 h)),
  )

  pub rows_made : (is js : List Interface) (r q : Rows) → map interface_said is ≡ map interface_said js → AreRows ds is r → AreRows es js q → AreSameRows r q
  rows_made _ _ _ _ same no_rows no_rows = tt
  rows_made _ _ _ _ same no_rows (rows_and e y js q b others) = absurd (not_empty (interface_said e) (map interface_said js) same)
  rows_made _ _ _ _ same (rows_and d x is r a more) no_rows = absurd (not_empty (interface_said d) (map interface_said is) (sym same))
  rows_made _ _ _ _ same (rows_and d x is r a more) (rows_and e y js q b others) = (
    row_same d e x y (head_of (interface_said d) (interface_said e) (map interface_said is) (map interface_said js) same) a b,
    rows_made is js r q (tail_of (interface_said d) (interface_said e) (map interface_said is) (map interface_said js) same) more others,
  )
