-- Each type that belongs to an interface of a package stands in it, and those of others have none of its own.
use Rattle.std.proofs.Common.{◌≡◌, inl, inr, ℕ, ◌+◌, ◌<◌, ◌≤◌, List, Some, drop, length, refl, sym, subst, ap, ◌∙◌, arith}
use Rattle.std.proofs.lemmas.Bool.{cases_lt}
use Rattle.std.proofs.lemmas.Option.{same_Some, slice_get_within}
use Rattle.std.specs.Prelude.{slice_get, String}
use Rattle.std.specs.declared.alloc.Global.{Global}
use Rattle.wit_order.specs.Order as order
use Rattle.wit_types.specs.declared.interface.Interface.{Interface}
use Rattle.wit_types.specs.declared.interface.TypeDef.{TypeDef}
use Rattle.wit_types.specs.declared.interface.TypeOwner.{TypeOwner}
use Rattle.wit_types.specs.declared.interface.TypeOwner.TheVariants as belongs
use Rattle.wit_types.specs.declared.«package».UnresolvedPackage.{UnresolvedPackage}
use Rattle.wit_package.specs.Passed.wit_syntax-Ast.{FileTree}
use Rattle.wit_package.specs.Passed.wit_scopes-Paths.{file_uses}
use Rattle.wit_package.specs.Passed.wit_scopes-Scopes.{package_scopes}
use Rattle.wit_package.specs.Passed.wit_rules-Breaks.{IsKept}
use Rattle.wit_package.specs.Passed.wit_lookups-Lookups.{LookupsBreak}
use Rattle.wit_package.specs.Passed.wit_arena-Meaning.{Has}
use Rattle.wit_package.proofs.Passed.wit_arena-Lists.{has_map, has_none}
use Rattle.wit_package.specs.Passed.wit_foreign-Needs.{NeedTree}
use Rattle.wit_package.specs.Passed.wit_foreign-Items.{interfaces_in, worlds_in}
use Rattle.wit_package.proofs.Passed.wit_foreign-Numbers.{interface_below}
use Rattle.wit_package.proofs.Passed.wit_resolved_scopes-Orders.{listed}
use Rattle.wit_package.specs.Passed.wit_interfaces-Listed.{IsListedAt}
use Rattle.wit_reach.specs.Deps.{interface_of}
use Rattle.wit_reach.specs.Holding.{listed_types}
use Rattle.wit_package.specs.TopUses.{files_need}
use Rattle.wit_package.specs.Faults.{by_lookups}
use Rattle.wit_package.specs.Resolved.{context_of, own_texts, IsResolved}
use Rattle.wit_package.specs.Steps.{Resolves}
use Rattle.wit_graph_parts.specs.Own.{asked, asked_types}
use Rattle.wit_well_formed.specs.Listed.{OwnTypesAreOwned, TypesAreListed}
use Rattle.wit_reach.proofs.Growing.{get_same}
use Rattle.wit_reach.proofs.Holding.{got}
use Rattle.wit_well_formed.proofs.Lists.{get_drop}
use Rattle.wit_well_formed.proofs.Sorts.{one_owner}
use Rattle.wit_well_formed.proofs.Counted.{interface_item}
use Rattle.wit_well_formed.proofs.Numbers.{interfaces, worlds, interfaces_numbered, worlds_numbered, all_counted}
use Rattle.wit_well_formed.proofs.Few.{few_counted}

owner_is : (o : TypeOwner) (j : ℕ) → interface_of o ≡ Some j → o ≡ belongs.Interface j
owner_is belongs.None j e = absurd cc
owner_is (belongs.World w) j e = absurd cc
owner_is (belongs.Interface k) j e = ap belongs.Interface (same_Some k j e)

module _ (files : List FileTree) (p : UnresolvedPackage) (r : Resolves files p) where
  abbrev s : IsResolved files p
  s = r.resolved

  abbrev IsListedHere : ℕ → TypeDef → TypeOwner → Type 0
  IsListedHere i t o = IsListedAt (context_of s.me files s.items s.sorted) (own_texts s.sorted) p.types p.interfaces p.worlds i t o

  looked_up : IsKept (LookupsBreak s.me (file_uses files) (package_scopes s.me files))
  looked_up rule at b = r.kept rule at (by_lookups s.me s.named b)

  abbrev needs : List NeedTree
  needs = files_need s.me files

  -- all that is asked for is counted
  pub counted : interfaces_in s.items ≤ (asked p).interfaces
  counted = all_counted needs s.items s.items_are (one_owner s.me (file_uses files) (package_scopes s.me files) looked_up) interfaces (interfaces_in s.items) (interfaces_numbered needs s.items s.items_are) p.foreign_deps.entries p.foreign_dep_spans.items s.deps_are

  pub worlds_are_counted : worlds_in s.items ≤ (asked p).worlds
  worlds_are_counted = all_counted needs s.items s.items_are (one_owner s.me (file_uses files) (package_scopes s.me files) looked_up) worlds (worlds_in s.items) (worlds_numbered needs s.items s.items_are) p.foreign_deps.entries p.foreign_dep_spans.items s.deps_are

  -- types of other packages belong to these
  pub other : (i j : ℕ) (d : TypeDef) → slice_get s.unknown i ≡ Some d → d.owner ≡ belongs.Interface j → j < interfaces_in s.items
  other i j d at of =
      let within : i < length s.unknown = slice_get_within s.unknown i d at in
      let so_many = s.unknown_are.so_many_types in
      let e = got s.names i (omega (arith, within, so_many)) in
      let known = s.unknown_are.each i e.0 e.1 in
      let one : known.def ≡ d = same_Some known.def d (sym known.type_at ∙ at) in
      let same : belongs.Interface known.interface ≡ belongs.Interface j = sym known.is.owner ∙ ap (λ (z : TypeDef). z.owner) one ∙ of in
      let number : known.interface ≡ j = cc in
      let below = interface_below needs s.items s.items_are e.0.0.0 known.interface known.item in
      omega (arith, below, number)

  stands : (i j : ℕ) (t : TypeDef) (d : Interface) → slice_get p.interfaces j ≡ Some d → IsListedHere i t (belongs.Interface j) → order.Has (listed_types d) i
  stands i j t d at (f, at_f, (x, has)) =
      let one : f ≡ d = same_Some f d (sym at_f ∙ at) in
      subst (λ (z : Interface). order.Has (listed_types z) i) one (listed (listed_types f) i (has_map (λ (e : String Global × ℕ). e.1) f.types.entries (x, i) has))

  own : (i k : ℕ) (d : Interface) (t : TypeDef) → slice_get (drop (asked p).interfaces p.interfaces) k ≡ Some d → slice_get p.types i ≡ Some t → t.owner ≡ belongs.Interface ((asked p).interfaces + k) → order.Has (listed_types d) i
  own i k d t at at_t of = elim (s.listed i t at_t) as (λ _. order.Has (listed_types d) i) [
    | inl unknown ↦ absurd (let below = other i ((asked p).interfaces + k) t unknown of in omega (arith, below, counted))
    | inr is ↦ stands i ((asked p).interfaces + k) t d (get_drop (asked p).interfaces p.interfaces k d at) (subst (IsListedHere i t) of is)
  ]

  -- and no more
  pub no_more : (asked p).interfaces ≤ interfaces_in s.items
  no_more = few_counted interfaces needs s.items (interfaces_in s.items) (interfaces_numbered needs s.items s.items_are) p.foreign_deps.entries p.foreign_dep_spans.items s.deps_are refl

  pub no_more_worlds : (asked p).worlds ≤ worlds_in s.items
  no_more_worlds = few_counted worlds needs s.items (worlds_in s.items) (worlds_numbered needs s.items s.items_are) p.foreign_deps.entries p.foreign_dep_spans.items s.deps_are refl

  -- one of another package has no types
  none_stand : (j : ℕ) (d : Interface) → slice_get p.interfaces j ≡ Some d → j < (asked p).interfaces → (e : String Global × ℕ) → Has d.types.entries e → ⊥
  none_stand j d at less e has =
      let most = no_more in
      let so_many : length s.foreign_interfaces ≡ interfaces_in s.items = s.foreign_are.so_many_interfaces in
      let low : j < length s.foreign_interfaces = omega (arith, less, most, so_many) in
      let item = interface_item needs s.items s.items_are j (omega (arith, low, so_many)) in
      let here : slice_get s.foreign_interfaces j ≡ Some d = sym (get_same s.foreign_interfaces s.own_interfaces j low) ∙ subst (λ (ds : List Interface). slice_get ds j ≡ Some d) s.interfaces_are at in
      has_none e (subst (λ (es : List (String Global × ℕ)). Has es e) (s.foreign_are.interfaces item.0 j d item.1 here).types has)

  own_behind : (k j : ℕ) (t : TypeDef) → slice_get (drop (asked_types p) p.types) k ≡ Some t → t.owner ≡ belongs.Interface j → (asked p).interfaces ≤ j
  own_behind k j t at of = elim (s.listed (asked_types p + k) t (get_drop (asked_types p) p.types k t at)) as (λ _. (asked p).interfaces ≤ j) [
    | inl unknown ↦ absurd (
        let within : asked_types p + k < length s.unknown = slice_get_within s.unknown (asked_types p + k) t unknown in
        let types : length s.unknown ≡ length s.names = s.unknown_are.so_many_types in
        let places : asked_types p ≡ length s.names = s.unknown_are.so_many_spans in
        omega (arith, within, types, places))
    | inr is ↦ elim (cases_lt j (asked p).interfaces) as (λ _. (asked p).interfaces ≤ j) [
      | inl less ↦ absurd (let h = subst (IsListedHere (asked_types p + k) t) of is in none_stand j h.0 h.1 less (h.2.0, asked_types p + k) h.2.1)
      | inr past ↦ past
    ]
  ]

pub own_types_owned : OwnTypesAreOwned
own_types_owned files p r k j t at of = own_behind files p r k j t at (owner_is t.owner j of)

pub types_are_listed : TypesAreListed
types_are_listed files p r i k d at (t, at_t, of) = own files p r i k d t at at_t (owner_is t.owner ((asked p).interfaces + k) of)
