-- What is there stays there with more types.
use Rattle.std.proofs.Common.{◌≡◌, ℕ, zero, suc, ◌+◌, ◌<◌, List, [], ◌∷◌, ◌++◌, ◌⊎◌, inl, inr, Some, String, Vec, refl, sym, subst, arith, length, length-append, get_or, map}
use Rattle.std.proofs.lemmas.Option.{same_Some}
use Rattle.std.specs.Prelude.{slice_get}
use Rattle.std.specs.declared.alloc.Global.{Global}
use Rattle.wit_order.specs.Order.{Has}
use Rattle.wit_order.specs.Places.{Rows, row}
use Rattle.wit_types.specs.declared.interface.Interface.{Interface}
use Rattle.wit_types.specs.declared.interface.TypeDef.{TypeDef}
use Rattle.wit_types.specs.declared.world.World.{World}
use Rattle.wit_reach.specs.Deps.{IsInterfaceDep}
use Rattle.wit_reach.specs.Lists.{AreInterfacesThere}
use Rattle.wit_reach.specs.Paths.{AreBackward}
use Rattle.wit_reach.specs.Reach.{Uses}
use Rattle.wit_reach.specs.Types.{AreTypesBackward, AreTypesThere, AreSidesThere}
use Rattle.wit_reach.proofs.Growing.{used_more, used_was}
use Rattle.wit_graph_parts.specs.Passed.wit_placed-Order.{AreInOrder}
use Rattle.wit_graph_parts.specs.Passed.wit_placed-There.{IsInterfaceThere}
use Rattle.wit_graph_parts.specs.Interfaces.{IsRow, AreRows, no_rows, rows_and}

-- ---- lists

pub get_has : {X : Type 0} (xs : List X) (k : ℕ) (x : X) → slice_get xs k ≡ Some x → Has xs x
get_has [] k x e = absurd cc
get_has (y ∷ xs) zero x e = inl (let s = same_Some y x e in cc)
get_has (y ∷ xs) (suc k) x e = inr (get_has xs k x e)

pub has_or : {X : Type 0} (xs ys : List X) (x : X) → Has (xs ++ ys) x → Has xs x ⊎ Has ys x
has_or [] ys x h = inr h
has_or (z ∷ xs) ys x h =
    elim h as (λ _. Has (z ∷ xs) x ⊎ Has ys x) [
      | inl here ↦ inl (inl here)
      | inr later ↦ elim (has_or xs ys x later) as (λ _. Has (z ∷ xs) x ⊎ Has ys x) [ inl a ↦ inl (inr a) | inr b ↦ inr b ]
    ]

pub get_parts : (xs ys : List Interface) (i : ℕ) (d : Interface) → slice_get (xs ++ ys) i ≡ Some d → (slice_get xs i ≡ Some d) ⊎ ((k : ℕ) × (i ≡ length xs + k) × (slice_get ys k ≡ Some d))
get_parts [] ys i d h = inr (i, omega arith, h)
get_parts (x ∷ xs) ys zero d h = inl h
get_parts (x ∷ xs) ys (suc i) d h =
    elim (get_parts xs ys i d h) as (λ _. (slice_get (x ∷ xs) (suc i) ≡ Some d) ⊎ ((k : ℕ) × (suc i ≡ length (x ∷ xs) + k) × (slice_get ys k ≡ Some d))) [
      | inl a ↦ inl a
      | inr b ↦ inr (b.0, (let e : i ≡ length xs + b.0 = b.1 in omega (arith, e)), b.2)
    ]

-- ---- types that are there

pub types_kept : (ds more : List TypeDef) (ids : List ℕ) → AreTypesThere ds ids → AreTypesThere (ds ++ more) ids
types_kept ds more ids there = λ i h. (let l : i < length ds = there i h in let e : length (ds ++ more) ≡ length ds + length more = length-append ds more in omega (arith, l, e))

pub interface_kept : (ds more : List TypeDef) (d : Interface) → IsInterfaceThere ds d → IsInterfaceThere (ds ++ more) d
interface_kept ds more d there = record { names = types_kept ds more _ there.names; functions = λ f h. types_kept ds more _ (there.functions f h) }

pub sides_kept : (ds more : List TypeDef) (w : World) → AreSidesThere ds w → AreSidesThere (ds ++ more) w
sides_kept ds more w there = (types_kept ds more _ there.0, types_kept ds more _ there.1)

pub among_more : (n m : ℕ) (w : World) → AreInterfacesThere n w → AreInterfacesThere (n + m) w
among_more n m w there = record {
  imports = λ i h. (let l : i < n = there.imports i h in omega arith);
  exports = λ i h. (let l : i < n = there.exports i h in omega arith);
}

-- ---- of which interfaces types are used

module _ (ds more : List TypeDef) (back : AreTypesBackward ds) where
  dep_kept : (d : Interface) (j : ℕ) → IsInterfaceDep ds d j → IsInterfaceDep (ds ++ more) d j
  dep_kept d j = used_more ds more back (map (λ (e : String Global × ℕ). e.1) d.types.entries) j

  dep_was : (d : Interface) (j : ℕ) → AreTypesThere ds (map (λ (e : String Global × ℕ). e.1) d.types.entries) → IsInterfaceDep (ds ++ more) d j → IsInterfaceDep ds d j
  dep_was d j = used_was ds more back (map (λ (e : String Global × ℕ). e.1) d.types.entries) j

  row_kept : (d : Interface) (r : Vec ℕ Global) → AreTypesThere ds (map (λ (e : String Global × ℕ). e.1) d.types.entries) → IsRow ds d r → IsRow (ds ++ more) d r
  row_kept d r there is j = ((λ h. dep_kept d j ((is j).0 h)), (λ u. (is j).1 (dep_was d j there u)))

  pub rows_kept : (is : List Interface) (rs : Rows) → ((d : Interface) → Has is d → IsInterfaceThere ds d) → AreRows ds is rs → AreRows (ds ++ more) is rs
  rows_kept _ _ there no_rows = no_rows
  rows_kept _ _ there (rows_and d r is rs row rest) = rows_and d r is rs (row_kept d r (there d (inl refl)).names row) (rows_kept is rs (λ e h. there e (inr h)) rest)

-- ---- rows

pub rows_long : (types : List TypeDef) (is : List Interface) (rs : Rows) → AreRows types is rs → length rs ≡ length is
rows_long types _ _ no_rows = refl
rows_long types _ _ (rows_and d r is rs row rest) = (let e : length rs ≡ length is = rows_long types is rs rest in omega (arith, e))

-- the row of an interface
pub row_at : (types : List TypeDef) (is : List Interface) (rs : Rows) → AreRows types is rs → (i : ℕ) (r : Vec ℕ Global) → i < length rs → r ≡ get_or rs i r → (d : Interface) × (slice_get is i ≡ Some d) × IsRow types d r
row_at types _ _ no_rows i r l e = absurd (omega arith)
row_at types _ _ (rows_and d x is rs one rest) zero r l e = (d, refl, subst (IsRow types d) (sym e) one)
row_at types _ _ (rows_and d x is rs one rest) (suc i) r l e = row_at types is rs rest i r (omega arith) e

pub row_of : (types : List TypeDef) (is : List Interface) (rs : Rows) → AreRows types is rs → (i j : ℕ) → Has (row rs i) j → (d : Interface) × (slice_get is i ≡ Some d) × IsInterfaceDep types d j
row_of types _ _ no_rows i j h = absurd h
row_of types _ _ (rows_and d r is rs row rest) zero j h = (d, refl, (row j).0 h)
row_of types _ _ (rows_and d r is rs row rest) (suc i) j h = row_of types is rs rest i j h

pub uses_backward : (types : List TypeDef) (is : List Interface) (rs : Rows) → AreRows types is rs → AreInOrder 0 types is → AreBackward (Uses rs)
uses_backward types is rs rows order i j h =
    let r = row_of types is rs rows i j h in
    let l : j < 0 + i = order i j r.0 r.1 r.2 in
    omega (arith, l)
