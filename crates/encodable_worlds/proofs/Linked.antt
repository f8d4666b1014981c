-- What a module needs may be linked, where it has a link table.
use Rattle.std.proofs.Common.{◌≡◌, ◌⊎◌, List, [], ◌∷◌, ◌++◌, map, Option, Some, None, refl, sym, ap, subst, ◌∙◌, inl, inr}
use Rattle.std.specs.Prelude.{slice_get, flat_map}
use Rattle.wasm_types.specs.Entries.{ImportValue}
use Rattle.wit_order.specs.Order.{Has}
use Rattle.wit_types.specs.declared.function.Function.{Function}
use Rattle.wit_types.specs.declared.interface.TypeDef.{TypeDef}
use Rattle.wit_types.specs.declared.world_key.WorldKey.{WorldKey}
use Rattle.wit_reach.specs.Ids.{function_ids}
use Rattle.wit_reach.proofs.Holding.{has_flat, flat_has}
use Rattle.linked_types.specs.Reached.{MayBeLinked}
use Rattle.core_links.specs.Imports.{StandsFor}
use Rattle.core_links.specs.Needed.{IsNeeded}
use Rattle.linked_worlds.specs.Passed.linked_interfaces-Writable.{all_linked}
use Rattle.component_encoding.specs.Passed.link_table-Linking.{Linking, types_of, exported_functions}
use Rattle.component_encoding.specs.Passed.link_table-Table.{ImportEntry, IsImportEntry, Table, IsTable}
use Rattle.wit_core_names.specs.Items.{CoreImport}
use Rattle.component_encoding.specs.Passed.linked_imports-Imports.{AreNeeded}
use Rattle.component_encoding.proofs.Passed.link_table-Pairwise.{placed}
use Rattle.component_encoding.proofs.Lists.{get_has, map_got, each_at}

-- ---- lists

has_map : {X Y : Type 0} (f : X → Y) (xs : List X) (x : X) → Has xs x → Has (map f xs) (f x)
has_map f [] x h = absurd h
has_map f (y ∷ xs) x (inl e) = inl (ap f e)
has_map f (y ∷ xs) x (inr h) = inr (has_map f xs x h)

parts : {X : Type 0} (xs ys : List X) (x : X) → Has (xs ++ ys) x → Has xs x ⊎ Has ys x
parts [] ys x h = inr h
parts (z ∷ xs) ys x (inl e) = inl (inl e)
parts (z ∷ xs) ys x (inr h) = elim (parts xs ys x h) [ inl a ↦ inl (inr a) | inr b ↦ inr b ]

in_one : {X : Type 0} (xss : List (List X)) (x : X) → Has (flat_map (λ (xs : List X). xs) xss) x → (xs : List X) × Has xss xs × Has xs x
in_one [] x h = absurd h
in_one {X} (xs ∷ xss) x h = elim (parts xs (flat_map (λ (ys : List X). ys) xss) x h) as (λ _. (ys : List X) × Has (xs ∷ xss) ys × Has ys x) [
  | inl here ↦ (xs, inl refl, here)
  | inr later ↦ (let r = in_one xss x later in (r.0, inr r.1, r.2))
]

-- ---- functions that may be linked

-- those of two lists
linked_of_both : (types : List TypeDef) (fs gs hs : List Function) → MayBeLinked types fs → MayBeLinked types gs → ((f : Function) → Has hs f → Has fs f ⊎ Has gs f) → MayBeLinked types hs
linked_of_both types fs gs hs one two among = record {
  functions = λ f has. elim (among f has) [ inl a ↦ one.functions f a | inr b ↦ two.functions f b ];
  types_are = λ i d reached at. (
      let of = has_flat function_ids hs reached.0 reached.1 in
      elim (among of.0 of.1) [
        | inl a ↦ one.types_are i d (reached.0, flat_has function_ids fs of.0 reached.0 a of.2, reached.2) at
        | inr b ↦ two.types_are i d (reached.0, flat_has function_ids gs of.0 reached.0 b of.2, reached.2) at
      ]
      );
}

module _ (l : Linking) (t : Table) (table : IsTable l t) where
  -- a core import stands for one thing
  one_function : (i : ImportValue) (key of : Option WorldKey) (f g : Function) → StandsFor l.names i (CoreImport.func key f) → StandsFor l.names i (CoreImport.func of g) → f ≡ g
  one_function i key of f g a b =
      let place : b.place ≡ a.place = a.means.only b.place b.means.stands in
      let same : Some (CoreImport.func key f) ≡ Some (CoreImport.func of g) = sym a.is ∙ ap (slice_get _) (sym place) ∙ b.is in
      cc

  needed_entry : (key : Option WorldKey) (f : Function) → IsNeeded l.names l.main.imports key f → Has (map (λ (e : ImportEntry). e.function) t.imports) f
  needed_entry key f n =
      let place = placed l.main.imports n.0 n.1 in
      let entry = map_got (λ (e : ImportEntry). e.import) t.imports place.0 n.0 (ap (λ is. slice_get is place.0) table.imports ∙ place.1) in
      let is = each_at (IsImportEntry l) t.imports place.0 entry.0 table.imports_are entry.1 in
      let stands = subst (λ i. StandsFor l.names i (CoreImport.func entry.0.key entry.0.function)) entry.2 is.stands in
      subst (Has (map (λ (e : ImportEntry). e.function) t.imports)) (one_function n.0 entry.0.key key entry.0.function f stands n.2) (has_map (λ (e : ImportEntry). e.function) t.imports entry.0 (get_has t.imports place.0 entry.0 entry.1))

  pub needed_may_be_linked : (own : List Function) (linked : List (List Function)) → AreNeeded l own linked → MayBeLinked (types_of l) (all_linked linked ++ (own ++ exported_functions l.names.world))
  needed_may_be_linked own linked needed = linked_of_both (types_of l) (map (λ (e : ImportEntry). e.function) t.imports) (exported_functions l.names.world) (all_linked linked ++ (own ++ exported_functions l.names.world)) table.linked table.linked_exports (λ f has. elim (parts (all_linked linked) (own ++ exported_functions l.names.world) f has) [
    | inl of_interface ↦
        let among = in_one linked f of_interface in
        let place = placed linked among.0 among.1 in
        let is = needed.linked_are.each place.0 among.0 f place.1 among.2 in
        inl (needed_entry (Some is.0) f is.2)
    | inr rest ↦ elim (parts own (exported_functions l.names.world) f rest) [
      | inl mine ↦ inl (needed_entry None f (needed.own_are.each f mine))
      | inr exported ↦ inr exported
    ]
  ])
