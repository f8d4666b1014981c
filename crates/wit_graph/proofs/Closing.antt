-- What is kept of an interface is all on which it depends.
use Rattle.std.proofs.Common.{◌≡◌, ℕ, zero, suc, List, [], ◌∷◌, Some, sym, subst}
use Rattle.std.proofs.lemmas.Option.{same_Some}
use Rattle.std.specs.Prelude.{slice_get}
use Rattle.wit_order.specs.Order.{Has}
use Rattle.wit_order.specs.Places.{Rows, row, Needs}
use Rattle.wit_types.specs.declared.interface.Interface.{Interface}
use Rattle.wit_types.specs.declared.interface.TypeDef.{TypeDef}
use Rattle.wit_reach.specs.Deps.{IsInterfaceDep}
use Rattle.wit_reach.specs.Paths.{IsPath, AreEnds}
use Rattle.wit_graph_parts.specs.Interfaces.{AreRows, no_rows, rows_and}
use Rattle.wit_closures.specs.Closures.{IsClosed}
use Rattle.wit_graph.specs.Graph.{AreWhole, UsesTypesOf, IsClosureOf}
use Rattle.wit_graph.specs.declared.tables.Tables.{Tables}
use Rattle.wit_graph.proofs.Keeping.{row_of}

-- ---- uses that are the same

module _ (uses same : ℕ → ℕ → Type 0) (to : (i j : ℕ) → uses i j → same i j) where
  path_to : (a : ℕ) (via : List ℕ) (b : ℕ) → IsPath uses a via b → IsPath same a via b
  path_to a [] b e = e
  path_to a (k ∷ via) b p = (to a k p.0, path_to k via b p.1)

ends_to : (uses same : ℕ → ℕ → Type 0) (start : ℕ → Type 0) (order : List ℕ) → ((i j : ℕ) → uses i j → same i j) → ((i j : ℕ) → same i j → uses i j) → AreEnds uses start order → AreEnds same start order
ends_to uses same start order to from ends = record {
  all = λ i s st r. ends.all i s st (r.0, path_to same uses from s r.0 i r.1);
  only = λ i h. (let o = ends.only i h in (o.0, o.1, (o.2.0, path_to uses same to o.0 o.2.0 i o.2.1)));
  rising = ends.rising;
}

-- ---- rows

pub row_has : (types : List TypeDef) (is : List Interface) (rs : Rows) → AreRows types is rs → (i j : ℕ) (d : Interface) → slice_get is i ≡ Some d → IsInterfaceDep types d j → Has (row rs i) j
row_has types _ _ no_rows i j d e dep = absurd cc
row_has types _ _ (rows_and x r is rs one rest) zero j d e dep = (one j).1 (subst (λ (y : Interface). IsInterfaceDep types y j) (sym (same_Some x d e)) dep)
row_has types _ _ (rows_and x r is rs one rest) (suc i) j d e dep = row_has types is rs rest i j d e dep

pub closure_of : (t : Tables) (i : ℕ) (closure : List ℕ) → AreWhole t → slice_get t.closures i ≡ Some closure → IsClosed i closure → IsClosureOf t i closure
closure_of t i closure whole at closed = record {
  ends = ends_to (Needs t.interfaces.uses) (UsesTypesOf t) (λ s. s ≡ i) closure
      (λ a b u. row_of t.types t.interfaces.all t.interfaces.uses whole.whole.rows a b u)
      (λ a b (d, e, dep). row_has t.types t.interfaces.all t.interfaces.uses whole.whole.rows a b d e dep)
      (whole.reached i closure at);
  last = closed.within;
}
