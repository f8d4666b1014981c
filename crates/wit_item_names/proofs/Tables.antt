-- Tables of packages name interfaces that have names.
use Rattle.std.proofs.Common.{◌≡◌, ℕ, suc, ◌+◌, Bool, true, false, List, [], ◌∷◌, ◌++◌, inl, inr, Option, Some, None, String, refl, sym, subst, ap, arith, length, bytes_eq}
use Rattle.std.specs.Prelude.{slice_get, if◌then◌else◌}
use Rattle.std.specs.declared.alloc.Global.{Global}
use Rattle.indexmap.specs.IndexMap.{insert_entry, insert_all}
use Rattle.wit_order.specs.Order.{Has}
use Rattle.wit_types.specs.declared.interface.Interface.{Interface}
use Rattle.wit_types.specs.declared.«package».Package.{Package}
use Rattle.wit_features.specs.Features.{FeatureSet}
use Rattle.wit_labels.specs.Passed.wit_plans-Checks.{Standing}
use Rattle.wit_labels.specs.Passed.wit_plans-Moves.{AreMovedInterfaces}
use Rattle.wit_reach.proofs.Holding.{mapped_has}
use Rattle.wit_labels.proofs.Passed.wit_placed-Finding.{has_or, found_so}
use Rattle.wit_labels.proofs.Passed.wit_placed-Own.{interface_from}
use Rattle.wit_graph_worlds.specs.Names.{Pair, by_bytes, name_at, interface_names, AreNames}
use Rattle.wit_item_names.specs.Tables.{TablesNameNamed, FoundAreNamed, PlacedTablesNameNamed}
use Rattle.wit_item_names.specs.Used.{IsNamed}
use Rattle.wit_item_names.proofs.Named.{named_more, new_named}

pub found_named : FoundAreNamed
found_named eq features names packages graph p interfaces worlds tables found =
    (found_so (λ (j : ℕ). IsNamed packages graph j) (λ (j : ℕ). Unit {0}) eq features names packages p interfaces worlds (λ q h. record { interfaces_are = tables q h; worlds_are = λ e k. tt }) found).0

-- ---- tables by names

module _ (P : ℕ → Type 0) where
  abbrev AreAllSo : List Pair → Type 0
  AreAllSo ps = (e : Pair) → Has ps e → P e.1

  insert_so : (es : List Pair) (k : List ℕ) (v : ℕ) → AreAllSo es → P v → AreAllSo (insert_entry bytes_eq es k v)
  insert_so [] k v so one e h = elim h as (λ _. P e.1) [ inl here ↦ subst (λ (q : Pair). P q.1) (sym here) one | inr later ↦ absurd later ]
  insert_so (x ∷ es) k v so one e h = by_cases (bytes_eq k x.0) h (insert_so es k v (λ q m. so q (inr m)) one e)
    where
      by_cases : (b : Bool) → Has (if b then (x.0, v) ∷ es else x ∷ insert_entry bytes_eq es k v) e → (Has (insert_entry bytes_eq es k v) e → P e.1) → P e.1
      by_cases true h later = elim h as (λ _. P e.1) [ inl here ↦ subst (λ (q : Pair). P q.1) (sym here) one | inr was ↦ so e (inr was) ]
      by_cases false h later = elim h as (λ _. P e.1) [ inl here ↦ so e (inl here) | inr new ↦ later new ]

  all_so : (es ps : List Pair) → AreAllSo es → AreAllSo ps → AreAllSo (insert_all bytes_eq es ps)
  all_so es [] so more = so
  all_so es (p ∷ ps) so more = all_so (insert_entry bytes_eq es p.0 p.1) ps (insert_so es p.0 p.1 so (more p (inl refl))) (λ q m. more q (inr m))

  pub table_so : (pairs : List Pair) (es : List (String Global × ℕ)) → AreNames pairs es → AreAllSo pairs → (e : String Global × ℕ) → Has es e → P e.1
  table_so pairs es named so e h = all_so [] pairs (λ q m. absurd m) so (by_bytes e) (subst (λ (ps : List Pair). Has ps (by_bytes e)) named (mapped_has by_bytes es e h))

-- ---- names of interfaces

-- a name in the table is of an interface that has one
record IsOfOne (first : ℕ) (ds : List Interface) (i : ℕ) : Type 0 where
  place : ℕ
  one : Interface
  name : String Global
  index : i ≡ first + place
  there : slice_get ds place ≡ Some one
  named : one.name ≡ Some name

name_of_one : (first : ℕ) (d : Interface) (ds : List Interface) (n : Option (String Global)) → d.name ≡ n → (e : Pair) → Has (name_at first n) e → IsOfOne first (d ∷ ds) e.1
name_of_one first d ds None is e h = absurd h
name_of_one first d ds (Some x) is e (inl here) = record { place = 0; one = d; name = x; index = (let i : e.1 ≡ first = ap (λ (q : Pair). q.1) here in omega (arith, i)); there = refl; named = is }
name_of_one first d ds (Some x) is e (inr none) = absurd none

names_of_ones : (first : ℕ) (ds : List Interface) (e : Pair) → Has (interface_names first ds) e → IsOfOne first ds e.1
names_of_ones first [] e h = absurd h
names_of_ones first (d ∷ ds) e h = elim (has_or (name_at first d.name) (interface_names (suc first) ds) e h) as (λ _. IsOfOne first (d ∷ ds) e.1) [
  | inl here ↦ name_of_one first d ds d.name refl e here
  | inr later ↦
      let r = names_of_ones (suc first) ds e later in
      record { place = suc r.place; one = r.one; name = r.name; index = (let i : e.1 ≡ suc first + r.place = r.index in omega (arith, i)); there = r.there; named = r.named }
]

module _ (features : FeatureSet) (s : Standing) (packages : List Package) (q : Package) (interfaces own new : List Interface) (moved : AreMovedInterfaces features s (length packages) own new) where
  abbrev Named : ℕ → Type 0
  Named j = IsNamed (packages ++ q ∷ []) (interfaces ++ new) j

  each : (e : Pair) → Has (interface_names (length interfaces) new) e → Named e.1
  each e k =
      let r = names_of_ones (length interfaces) new e k in
      let f = interface_from features s (length packages) [] 0 own new moved r.place r.one r.there in
      subst Named (sym r.index) (new_named packages q interfaces new r.place r.one r.name r.there f.moved.owner_is r.named)

  all_tables : AreNames (interface_names (length interfaces) new) q.interfaces.entries → TablesNameNamed packages interfaces → TablesNameNamed (packages ++ q ∷ []) (interfaces ++ new)
  all_tables names tables p h = elim (has_or packages (q ∷ []) p h) as (λ _. (e : String Global × ℕ) → Has p.interfaces.entries e → Named e.1) [
    | inl was ↦ λ e k. named_more packages (q ∷ []) interfaces new e.1 (tables p was e k)
    | inr last ↦ elim last as (λ _. (e : String Global × ℕ) → Has p.interfaces.entries e → Named e.1) [
      | inl here ↦ λ e k. table_so Named (interface_names (length interfaces) new) q.interfaces.entries names each e (subst (λ (x : Package). Has x.interfaces.entries e) here k)
      | inr none ↦ absurd none
    ]
  ]

pub placed_tables : PlacedTablesNameNamed
placed_tables features s packages q interfaces own new moved names tables = all_tables features s packages q interfaces own new moved names tables
