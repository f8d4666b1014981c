-- Interfaces with the rows of those that they use.
use Rattle.std.proofs.Common.{◌≡◌, ℕ, List, [], ◌∷◌, ◌++◌, Vec, inl, inr, refl, sym, ap, ◌∙◌, append_assoc}
use Rattle.std.proofs.lemmas.List.{append-nil}
use Rattle.std.specs.declared.alloc.Global.{Global}
use Rattle.wit_order.specs.Order.{Has}
use Rattle.wit_order.specs.Places.{Rows}
use Rattle.wit_types.specs.declared.interface.Interface.{Interface}
use Rattle.wit_types.specs.declared.interface.TypeDef.{TypeDef}
use Rattle.wit_graph_parts.specs.Interfaces.{Interfaces, IsRow, AreRows, no_rows, rows_and, AreAdded, HasGrown}

pub rows_append : (types : List TypeDef) (ds es : List Interface) (rs ss : Rows) → AreRows types ds rs → AreRows types es ss → AreRows types (ds ++ es) (rs ++ ss)
rows_append types _ es _ ss no_rows more = more
rows_append types _ es _ ss (rows_and d r ds rs is rest) more = rows_and d r (ds ++ es) (rs ++ ss) is (rows_append types ds es rs ss rest more)

pub added_none : (types : List TypeDef) (t : Interfaces) → AreAdded types [] t t
added_none types t = record { all_are = sym (append-nil t.all); rows = []; are_rows = no_rows; uses_are = sym (append-nil t.uses) }

-- some, and then more
pub added_then : (types : List TypeDef) (ds es : List Interface) (s t u : Interfaces) → AreAdded types ds s t → AreAdded types es t u → AreAdded types (ds ++ es) s u
added_then types ds es s t u a b = record {
  all_are = b.all_are ∙ ap (λ (xs : List Interface). xs ++ es) a.all_are ∙ append_assoc s.all ds es;
  rows = a.rows ++ b.rows;
  are_rows = rows_append types ds es a.rows b.rows a.are_rows b.are_rows;
  uses_are = b.uses_are ∙ ap (λ (xs : Rows). xs ++ b.rows) a.uses_are ∙ append_assoc s.uses a.rows b.rows;
}

pub added_one : (types : List TypeDef) (d : Interface) (row : Vec ℕ Global) (s t : Interfaces) → IsRow types d row → t.all ≡ s.all ++ d ∷ [] → t.uses ≡ s.uses ++ row ∷ [] → AreAdded types (d ∷ []) s t
added_one types d row s t is all uses = record { all_are = all; rows = row ∷ []; are_rows = rows_and d row [] [] is no_rows; uses_are = uses }

pub grown_none : (t : Interfaces) → HasGrown t t
grown_none t = record { all = []; all_are = sym (append-nil t.all); uses = []; uses_are = sym (append-nil t.uses) }

pub grown_then : (s t u : Interfaces) → HasGrown s t → HasGrown t u → HasGrown s u
grown_then s t u a b = record {
  all = a.all ++ b.all;
  all_are = b.all_are ∙ ap (λ (xs : List Interface). xs ++ b.all) a.all_are ∙ append_assoc s.all a.all b.all;
  uses = a.uses ++ b.uses;
  uses_are = b.uses_are ∙ ap (λ (xs : Rows). xs ++ b.uses) a.uses_are ∙ append_assoc s.uses a.uses b.uses;
}

pub grown_added : (types : List TypeDef) (ds : List Interface) (s t : Interfaces) → AreAdded types ds s t → HasGrown s t
grown_added types ds s t a = record { all = ds; all_are = a.all_are; uses = a.rows; uses_are = a.uses_are }

pub has_mid : (xs ys : List Interface) (x : Interface) → Has (xs ++ x ∷ ys) x
has_mid [] ys x = inl refl
has_mid (z ∷ xs) ys x = inr (has_mid xs ys x)
