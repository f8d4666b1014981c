-- Linked functions and all types that they are made of are written.
use Rattle.std.proofs.Common.{ℕ, List, [], ◌∷◌, ◌++◌, inl, inr, subst}
use Rattle.std.specs.Prelude.{flat_map}
use Rattle.wit_order.specs.Order.{Has}
use Rattle.wit_types.specs.declared.function.Function.{Function}
use Rattle.wit_types.specs.declared.interface.TypeDef.{TypeDef}
use Rattle.wit_reach.specs.Ids.{function_ids}
use Rattle.wit_reach.proofs.Holding.{has_flat, flat_has, listed_are_all}
use Rattle.wit_reach.proofs.Lists.{has_parts}
use Rattle.wit_placed.proofs.Members.{has_get}
use Rattle.linked_types.specs.Reached.{ids_of, IsReached}
use Rattle.component_imports.specs.Distinct.{ApartAreDistinct}
use Rattle.component_imports.specs.Interfaces.{asked}
use Rattle.component_imports.specs.Order.{EarlierTypesAreUsed}
use Rattle.component_imports.specs.Ready.{IsAsked}
use Rattle.linked_interfaces.specs.Writable.{all_linked, LinkedInterfacesAreWritable}
use Rattle.linked_interfaces.proofs.Linked.{names_apart, functions_up_to}
use Rattle.flat_trees.proofs.Unready.{type_written, function_written}

-- ---- functions of interfaces, and others, among all

pub among_first : (fs gs : List Function) (f : Function) → Has fs f → Has (fs ++ gs) f
among_first [] gs f h = absurd h
among_first (g ∷ fs) gs f (inl here) = inl here
among_first (g ∷ fs) gs f (inr later) = inr (among_first fs gs f later)

pub among_second : (fs gs : List Function) (f : Function) → Has gs f → Has (fs ++ gs) f
among_second [] gs f h = h
among_second (g ∷ fs) gs f h = inr (among_second fs gs f h)

among_linked : (linked : List (List Function)) (fs : List Function) (f : Function) → Has linked fs → Has fs f → Has (all_linked linked) f
among_linked [] fs f at h = absurd at
among_linked (gs ∷ linked) fs f (inl here) h = among_first gs (all_linked linked) f (subst (λ (l : List Function). Has l f) here h)
among_linked (gs ∷ linked) fs f (inr later) h = among_second gs (all_linked linked) f (among_linked linked fs f later h)

module _ (types : List TypeDef) (others : List Function) (linked : List (List Function)) where
  pub one_linked : (fs : List Function) (f : Function) → Has linked fs → Has fs f → Has (all_linked linked ++ others) f
  one_linked fs f at has = among_first (all_linked linked) others f (among_linked linked fs f at has)

  start_reached : (s : ℕ) → Has (asked (ids_of others) linked) s → Has (ids_of (all_linked linked ++ others)) s
  start_reached s h = elim (has_parts (ids_of others) (flat_map ids_of linked) s h) as (λ _. Has (ids_of (all_linked linked ++ others)) s) [
    | inl other ↦ (let f = has_flat function_ids others s other in flat_has function_ids (all_linked linked ++ others) f.0 s (among_second (all_linked linked) others f.0 f.1) f.2)
    | inr own ↦ (let fs = has_flat ids_of linked s own in let f = has_flat function_ids fs.0 s fs.2 in flat_has function_ids (all_linked linked ++ others) f.0 s (one_linked fs.0 f.0 fs.1 f.1) f.2)
  ]

  pub asked_reached : (i : ℕ) → IsAsked types (ids_of others) linked i → IsReached types (all_linked linked ++ others) i
  asked_reached i a = (a.0, start_reached a.0 a.1, a.2)

pub interfaces_writable : EarlierTypesAreUsed → ApartAreDistinct → LinkedInterfacesAreWritable
interfaces_writable used distinct r types interfaces others linked there hold listed names nameless are may importable = record {
  kinds = λ i d asked at. type_written d (may.types_are i d (asked_reached types others linked i asked) at);
  functions = λ own fs f at has. function_written f (may.functions f (one_linked types others linked fs f (has_get linked own fs at) has));
  bare = λ i d asked at named. nameless i d at named;
  earlier = used types linked (listed_are_all types interfaces there listed hold.types_use) hold.named (functions_up_to types interfaces linked hold are);
  distinct = distinct types linked (names_apart types interfaces linked there hold listed names are);
  named = importable.named;
  new = importable.new;
  apart = importable.apart;
}
